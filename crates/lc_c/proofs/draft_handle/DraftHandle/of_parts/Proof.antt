-- `of_parts` moves the pointer and the handle, and what they own goes with them.
use Rattle.std.proofs.Common.{List, [], ◌∷◌, ◌++◌, true, refl, sym, subst}
use mir.Val.{Val, vptr}
use base.Logic.{SProp, ent, emp, id⊢}
use base.Fml.{ftrue, fsep}
use prog.Wp.{WpFn}
use contract.Running.{tables}
use types.Kit.{‵, raw, ◌⊛◌, ◌$◌, ◌∵◌, !, qed, keep, drop, use1, join, split, fsplit, fjoin, suffices, done}
use types.Part.{whole, sub, agg}
use types.Run.{stop, fld, no_more, and_then, of_opd, true_lit, returns, enter}
use types.ByLocal.{alloc_all, pass_all, free_all, look_at, get, get_in, sets}
use denote.Exit.{yes}
use denote.RawPtr.{block_ptr}
use denote.Steps.{nothing}
use denote.Triple.Walked.{says, Stays, stay_dropped, walk_of, ends_at, Goes-dropped}
use Rattle.std.proofs.raw_atomic.Walks.{proved_at}
use Rattle.std_alloc.proofs.BoxSteps.Form.{box_typed}
use Rattle.std_alloc.proofs.BoxSteps.Form as box
use Rattle.lc_c.proofs.AsDraftBox.{E, FromParts}
use Rattle.lc_c.proofs.HeldDraft.{owned, word, word_typed, handle_in}
use Rattle.lc_c.proofs.Parted.{Apart, parts_out}
use Rattle.lc_c.specs.declared.draft_handle.DraftHandle.{DraftHandle}
use Rattle.lc_c.specs.contracts.draft_handle.DraftHandle.of_parts as f
use Rattle.lc_c.proofs.draft_handle.DraftHandle.of_parts.Statement.{statement}
use Rattle.lc_c.proofs.draft_handle.DraftHandle.of_parts.Code as code

abbrev stayed : Stays f.ended.signature.params f.ended.kept
stayed = (stay_dropped FromParts yes, tt)

pub of_parts_spec : {M : Type 1} → statement M
of_parts_spec 𝓤 𝓛 𝓜 𝓡 wired =
    let c = f.clauses 𝓛 𝓜.mem 𝓡.returns in let 𝓣 = tables 𝓤 𝓛.H 𝓜 𝓡 𝓡.env in
    proved_at 𝓛 f.ended stayed c 𝓜 𝓡 (Goes-dropped 𝓛 0 FromParts yes (λ κs x w. refl), tt) f.Key.name code.function (code.unfolded 𝓤 𝓛.H 𝓜 𝓡 wired) (λ z are.
    let post = (walk_of 𝓛 f.ended stayed c).post z in let parts = z.0.3.0 in let Run : List Val → SProp 𝓤 = λ us. WpFn 𝓤 𝓛.H 𝓣.C 𝓣.Λ code.function us post in
    qed 𝓛 ((‵ ftrue ⊛ ‵ (fsep ((Apart E).own_val parts z.0.4.0) ftrue)) ∷ raw (emp 𝓤) ∷ []) ∵ split ! $ drop ! $ fsplit ! $
    parts_out E ! parts z.0.4.0 (λ b o hv is fits. keep ! (0 ∷ 1 ∷ []) $
    let made : DraftHandle = record { at = block_ptr b o; held = true; alloc = parts.alloc; value = parts.value } in let w = box.word E hv b o in
    use1 𝓛 (‵ (owned made)) (id⊢ 𝓤 _) $
    suffices ! (Run (w ∷ [])) (subst (λ (us : List Val). ent 𝓤 (Run (w ∷ [])) (Run (us ++ []))) (sym is) (id⊢ 𝓤 (Run (w ∷ [])))) $
    enter ! 𝓣.C 𝓣.Λ code.function (w ∷ []) post $ alloc_all ! (λ l. pass_all ! refl (box_typed E hv b o fits, tt) $
    -- [what is owned; the allocator's handle; the locals]
    sets ! (of_opd ! (get_in ! (fld ! refl (stop !)) (sub ! 0 refl (whole !)))) refl (tt, tt) $ sets ! (of_opd ! (get_in ! (fld ! refl (stop !)) (sub ! 1 refl (whole !)))) refl fits $
    sets ! (of_opd ! (get ! refl)) refl (tt, tt) $
    sets ! (agg ! (and_then ! (get ! refl) (and_then ! (true_lit !) (and_then ! (get ! refl) (no_more !))))) refl (word_typed b o true hv fits) $
    handle_in ! made $ returns ! (look_at ! 0 refl) $ free_all ! refl $
    suffices ! _ (ends_at 𝓛 f.ended stayed c z (word (vptr b o) true hv) made (tt, tt) (tt, tt)) $ says ! (refl, refl) $
    nothing ! $ nothing ! $ fjoin ! $ join ! $ nothing ! $ join ! $ done !)))

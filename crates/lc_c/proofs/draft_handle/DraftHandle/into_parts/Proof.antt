-- `into_parts` moves the pointer and the allocator's handle out of a handle that holds a draft, and what they own goes with them.
use Rattle.std.proofs.Common.{◌≡◌, Bool, List, [], ◌∷◌, ◌++◌, true, refl, sym, subst}
use mir.Raw.{raw as bare}
use mir.Val.{Val, vptr}
use base.Logic.{SProp, ent, fst∗, id⊢, never}
use base.Fml.{ftrue, fsep}
use prog.Wp.{WpFn}
use types.Logic.{sem}
use contract.Monad.{fact}
use contract.Running.{tables}
use types.Kit.{‵, raw, ◌⊛◌, ◌$◌, ◌∵◌, !, qed, keep, move, drop, join, split, fsplit, fjoin, rewrite, suffices, done}
use types.Part.{whole, sub, agg}
use types.Run.{stop, fld, no_more, and_then, of_opd, returns, enter}
use types.ByLocal.{alloc_all, pass_all, free_all, look_at, get, get_in, sets}
use denote.Exit.{yes}
use denote.RawPtr.{Ptr, block_ptr, null_ptr, ptr_val, in_a_block}
use denote.Steps.{heard, nothing}
use denote.Triple.Walked.{says, Stays, stay_dropped, walk_of, ends_at, Goes-dropped}
use Rattle.core.proofs.alloc.Calls.{token}
use Rattle.std.proofs.raw_atomic.Walks.{proved_at}
use Rattle.std_alloc.proofs.BoxSteps.Form as box
use Rattle.std_alloc.specs.Box.Ownership.{box_owns}
use Rattle.lc_c.proofs.AsDraftBox.{E, FromHandle}
use Rattle.lc_c.proofs.HeldDraft.{Hd, word, word_typed, handle_out}
use Rattle.lc_c.proofs.Parted.{parts_in}
use Rattle.lc_c.specs.DraftHandle.{handle_owns, owned_if}
use Rattle.lc_c.specs.declared.draft_handle.DraftHandle.{DraftHandle}
use Rattle.lc_c.specs.contracts.draft_handle.DraftHandle.into_parts as f
use Rattle.lc_c.proofs.draft_handle.DraftHandle.into_parts.Statement.{statement}
use Rattle.lc_c.proofs.draft_handle.DraftHandle.into_parts.Code as code

abbrev stayed : Stays f.ended.signature.params f.ended.kept
stayed = (stay_dropped FromHandle yes, tt)

pub into_parts_spec : {M : Type 1} → statement M
into_parts_spec 𝓤 𝓛 𝓜 𝓡 wired =
    let c = f.clauses 𝓛 𝓜.mem 𝓡.returns in let 𝓣 = tables 𝓤 𝓛.H 𝓜 𝓡 𝓡.env in
    proved_at 𝓛 f.ended stayed c 𝓜 𝓡 (Goes-dropped 𝓛 0 FromHandle yes (λ κs x w. refl), tt) f.Key.name code.function (code.unfolded 𝓤 𝓛.H 𝓜 𝓡 wired) (λ z are.
    let post = (walk_of 𝓛 f.ended stayed c).post z in let h : DraftHandle = z.0.3.0 in let Run : List Val → SProp 𝓤 = λ us. WpFn 𝓤 𝓛.H 𝓣.C 𝓣.Λ code.function us post in
    qed 𝓛 ((‵ ftrue ⊛ ‵ (fsep (Hd.own_val h z.0.4.0) ftrue)) ∷ raw (fact 𝓤 (h.held ≡ true)) ∷ []) ∵ move ! (1 ∷ []) $ heard ! (h.held ≡ true) (λ held. split ! $ drop ! $ fsplit ! $
    handle_out ! h z.0.4.0 (λ hv is fits. rewrite ! 0 (λ (t : Bool). ‵ (owned_if t (handle_owns h.alloc h.at h.value))) held refl $
    in_a_block ! h.at (λ p. box_owns (token E.al h.alloc) (box.R E) p h.value) (fst∗ 𝓤 (never 𝓤) (sem 𝓛 (token E.al h.alloc (bare (box.τ E)) null_ptr))) (λ b o e. keep ! (0 ∷ 1 ∷ []) $
    let w = word (vptr b o) h.held hv in let told : z.0.4.0 ≡ w ∷ [] = subst (λ (p : Ptr). z.0.4.0 ≡ word (ptr_val p) h.held hv ∷ []) e is in
    parts_in E ! {hv = hv} b o h.alloc h.value $
    suffices ! (Run (w ∷ [])) (subst (λ (us : List Val). ent 𝓤 (Run (w ∷ [])) (Run (us ++ []))) (sym told) (id⊢ 𝓤 (Run (w ∷ [])))) $
    enter ! 𝓣.C 𝓣.Λ code.function (w ∷ []) post $ alloc_all ! (λ l. pass_all ! refl (word_typed b o h.held hv fits, tt) $
    -- [the parts; the locals]
    sets ! (of_opd ! (get_in ! (fld ! refl (stop !)) (sub ! 0 refl (whole !)))) refl (tt, tt) $ sets ! (of_opd ! (get_in ! (fld ! refl (stop !)) (sub ! 2 refl (whole !)))) refl fits $
    sets ! (of_opd ! (get ! refl)) refl (tt, tt) $
    sets ! (agg ! (and_then ! (get ! refl) (and_then ! (get ! refl) (no_more !)))) refl (box.box_typed E hv b o fits) $ returns ! (look_at ! 0 refl) $ free_all ! refl $
    suffices ! _ (ends_at 𝓛 f.ended stayed c z (box.word E hv b o) (record { ptr = block_ptr b o; alloc = h.alloc; value = h.value }) (tt, tt) (tt, tt)) $ says ! refl $
    nothing ! $ nothing ! $ fjoin ! $ join ! $ nothing ! $ join ! $ done !)))))

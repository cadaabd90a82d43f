-- `get_mut` lends the draft behind the pointer, and the handle follows it.
use mathlib.Core.Path.{◌≡◌, refl, sym, subst}
use Rattle.std.proofs.Common.{Bool, true}
use Prim.Native.Nat.{ℕ}
use mathlib.Core.List.{List, [], ◌∷◌}
use seplogic.Ra.Ura.{Ura}
use base.Fraction.{full_share}
use mir.Syntax.{named}
use mir.Raw.{raw as bare}
use mir.Val.{Val, vptr}
use base.Logic.{SProp, ent, sep, fst∗, never}
use base.Fml.{Lft, GName, Share, Fml, ftrue, flft, fsep}
use prog.Memory.{Memory}
use prog.Routine.{Routine}
use prog.Wp.{Env, Calls, Loops, WpFn, Tables}
use types.Logic.{Logic, sem}
use contract.Monad.{Fun, fact}
use contract.Running.{tables, tables_of}
use sound.WpLaws.{WpFn-mono}
use types.Kit.{‵, raw, ◌⊛◌, some, later, at_ret, ◌$◌, ◌∵◌, !, qed, by, move, keep, use1, drop, split, join, pick, fsplit, fsplit3, fjoin, fpack, suffices, frame, await, group, rewrite, done}
use types.Part.{whole, sub, look_in}
use types.Run.{stop, fld, load, of_opd, first, blocks, exec, returns, enter, addr}
use types.ByLocal.{alloc_all, pass_all, free_all, look_at, get, through, sets, sets_last, env}
use denote.Exit.{no}
use denote.RattleType.{RattleType, owns}
use denote.Memory.{part_at, mem, cell_at, part_of}
use denote.RawPtr.{Ptr, block_ptr, null_ptr, ptr_val, in_a_block}
use denote.Ref.{MutRef, mut_vals, mut_Tells}
use denote.Signature.{plain, mut_ref_to}
use denote.Steps.{nothing, opens, heard}
use denote.Triple.Entry.{on_entry}
use denote.Triple.Spec.{Meets, triple_of}
use denote.Triple.Table.{entered}
use denote.Triple.Walked.{says, Stays, stay_dropped, walk_of, ends_at, walked, walk_Meets, Goes-spent_ref}
use denote.Follow.{follows, Part, lends_Part}
use Rattle.core.proofs.alloc.Calls.{token}
use Rattle.std_alloc.proofs.VecSteps.Shapes.{after}
use Rattle.std_alloc.proofs.BoxSteps.Form as box
use Rattle.std_alloc.specs.Box.Ownership.{box_owns}
use Rattle.lc_c.proofs.AsDraftBox.{E}
use Rattle.lc_c.proofs.HeldDraft.{word, handle_out, handle_in}
use Rattle.lc_c.specs.DraftHandle.{handle_owns, owned_if}
use Rattle.lc_changes.specs.declared.draft.Draft.{Draft}
use Rattle.lc_changes.specs.contracts.draft.Draft as Draft'
use Rattle.lc_c.specs.LentDraft.{with_draft}
use Rattle.lc_c.specs.declared.draft_handle.DraftHandle.{DraftHandle}
use Rattle.lc_c.specs.contracts.draft_handle.DraftHandle as DraftHandle'
use Rattle.lc_c.specs.contracts.draft_handle.DraftHandle.get_mut as F
use Rattle.lc_c.specs.contracts.draft_handle.DraftHandle.get_mut.Key.{name as #self}
use Rattle.lc_c.proofs.draft_handle.DraftHandle.get_mut.Statement as stated
use Rattle.lc_c.proofs.draft_handle.DraftHandle.get_mut.Code as code

abbrev B : RattleType
B = DraftHandle'.the_row

abbrev R : RattleType
R = Draft'.the_row

fact_used : {M : Type 1} {𝓤 : Ura M} (𝓛 : Logic 𝓤) (P : SProp 𝓤) (F : Type 0) {Q : SProp 𝓤} → (F → ent 𝓤 P Q) → ent 𝓤 (sep 𝓤 P (fact 𝓤 F)) Q
fact_used {𝓤 = 𝓤} 𝓛 P F walk = qed 𝓛 (raw P ∷ raw (fact 𝓤 F) ∷ []) ∵ move ! (1 ∷ []) $ heard ! F (λ f. by ! (walk f))

abbrev stayed : Stays (F.ended).signature.params (F.ended).kept
stayed = (stay_dropped (mut_ref_to (0 ∷ []) tt (plain (λ _. B))) no, tt)

module _ {M : Type 1} {𝓤 : Ura M} (𝓛 : Logic 𝓤) (at_mem : Memory → SProp 𝓤) (run : Routine → Fun 𝓤) (κ : Lft) (q : Share) (rb ro : ℕ) (γ : GName) (h : DraftHandle) where
  open 𝓛 use {H, A}

  abbrev bound : (walk_of 𝓛 F.ended stayed (F.clauses 𝓛 at_mem run)).Ghost
  bound = (((κ, tt), (q, tt), tt, (record { ref_ptr = (rb, ro); ghost_name = γ; now = h }, tt), (vptr rb ro ∷ [], tt)), tt)

  abbrev Post : Val → SProp 𝓤
  Post = (walk_of 𝓛 F.ended stayed (F.clauses 𝓛 at_mem run)).post bound

  module _ (held : h.held ≡ true) (b o : ℕ) (hv : Val) where
    -- all of the handle but its draft
    abbrev Rest : Fml
    Rest = fsep (fsep (token E.al h.alloc (bare (box.τ E)) (block_ptr b o)) (box.handle E h.alloc hv)) (cell_at full_share B.mir (word (vptr b o) h.held hv ∷ []) rb ro)

    back : h.at ≡ block_ptr b o → (w : Draft) → ent 𝓤 (sep 𝓤 (sem 𝓛 ((mem R).own_at w b o)) (sem 𝓛 Rest)) (sem 𝓛 ((mem B).own_at (with_draft h w) rb ro))
    unfolding part_of
    back at_b w =
        qed 𝓛 (‵ (part_at (box.R E) full_share w b o) ∷ ‵ Rest ∷ []) ∵ move ! (1 ∷ []) $ fsplit ! $ fsplit ! $ move ! (3 ∷ []) $ fjoin ! $
        rewrite ! 0 (λ (p : Ptr). ‵ (handle_owns h.alloc p w)) (sym at_b) refl $
        rewrite ! 0 (λ (t : Bool). ‵ (owned_if t (handle_owns h.alloc h.at w))) (sym held) refl $
        handle_in ! (with_draft h w) $ move ! (1 ∷ []) $
        rewrite ! 0 (λ (p : Ptr). ‵ (cell_at full_share B.mir (word (ptr_val p) h.held hv ∷ []) rb ro)) (sym at_b) refl $ fjoin ! $
        fpack ! (List Val) (λ us. fsep (cell_at full_share B.mir us rb ro) (B.own_val (with_draft h w) us)) (word (ptr_val h.at) h.held hv ∷ []) $ done !

    exits : (γ' : GName)
        → ent 𝓤 (sep 𝓤 (sem 𝓛 ((MutRef (named 0) κ R).own_val (record { ref_ptr = (b, o); ghost_name = γ'; now = h.value }) (vptr b o ∷ []))) (sep 𝓤 (A.lft κ q) (sem 𝓛 (follows B R γ γ' (with_draft h))))) (Post (vptr b o))
    exits γ' =
        qed 𝓛 (‵ ((MutRef (named 0) κ R).own_val (record { ref_ptr = (b, o); ghost_name = γ'; now = h.value }) (vptr b o ∷ [])) ∷ ‵ (flft κ q) ∷ ‵ (follows B R γ γ' (with_draft h)) ∷ []) ∵
        suffices ! _ (ends_at 𝓛 F.ended stayed (F.clauses 𝓛 at_mem run) bound (vptr b o) (record { ref_ptr = (b, o); ghost_name = γ'; now = h.value }) (tt, tt) (tt, tt)) $
        nothing ! $ nothing ! $ fjoin ! $ join ! $ nothing ! $ move ! (2 ∷ 0 ∷ []) $ join ! $ join ! $ frame ! $ says ! refl $ done !

  module _ (C : Calls 𝓤 H) (Λ : Loops 𝓤 H) where
    walk : h.held ≡ true → ent 𝓤 (on_entry 𝓛 F.signature (κ, tt) (q, tt) (record { ref_ptr = (rb, ro); ghost_name = γ; now = h }, tt) (vptr rb ro ∷ [], tt)) (WpFn 𝓤 H C Λ code.function (vptr rb ro ∷ []) Post)
    walk held =
        qed 𝓛 ((‵ (flft κ q) ⊛ ‵ ftrue) ∷ ‵ (owns (MutRef (named 0) κ B ∷ []) (record { ref_ptr = (rb, ro); ghost_name = γ; now = h }, tt) (vptr rb ro ∷ [], tt)) ∷ []) ∵
        enter ! C Λ code.function (vptr rb ro ∷ []) _ $
        alloc_all ! (λ l. pass_all ! refl ((tt, tt), tt) $
        let En : Env 𝓤 H = env (code.function).locals l in
        move ! (1 ∷ []) $ fsplit ! $ fsplit3 ! $ drop ! $ move ! (3 ∷ []) $ split ! $ move ! (2 ∷ 3 ∷ 0 ∷ []) $
        opens ! tt B {h = h} rb ro (λ us. move ! (1 ∷ []) $ handle_out ! h us (λ hv is fa.
        rewrite ! 0 (λ (t : Bool). ‵ (owned_if t (handle_owns h.alloc h.at h.value))) held refl $
        in_a_block ! h.at (λ p. box_owns (token E.al h.alloc) (box.R E) p h.value) (fst∗ 𝓤 (never 𝓤) (sem 𝓛 (token E.al h.alloc (bare (box.τ E)) null_ptr))) (λ b o at_b. fsplit ! $
        move ! (1 ∷ 2 ∷ []) $ fjoin ! $ move ! (1 ∷ []) $
        rewrite ! 2 (λ (vs : List Val). ‵ (cell_at full_share B.mir vs rb ro)) (subst (λ (p : Ptr). us ≡ word (ptr_val p) h.held hv ∷ []) at_b is) refl $
        first ! $ blocks ! $
        sets ! (of_opd ! (load ! (through ! refl (fld ! refl (stop !))) (look_in ! 2 (sub ! 0 refl (whole !))))) refl (tt, tt) $
        sets ! (of_opd ! (get ! refl)) refl (tt, tt) $
        sets_last ! (addr ! (through ! refl (stop !))) refl (tt, tt) $
        exec ! C Λ En (after 1 (code.function).body) (at_ret En Post) $
        sets ! (of_opd ! (get ! refl)) refl (tt, tt) $
        move ! (1 ∷ 2 ∷ []) $ fjoin ! $ move ! (2 ∷ 3 ∷ 4 ∷ 1 ∷ 0 ∷ []) $ group ! 5 $
        use1 𝓛 (later (some (λ (γ' : GName). raw (Part 𝓛 B R (with_draft h) (named 0) κ q rb ro b o γ (sem 𝓛 (Rest held b o hv)) (back held b o hv at_b) h.value γ'))))
        (lends_Part 𝓛 B R (with_draft h) (named 0) κ q rb ro b o γ (sem 𝓛 (Rest held b o hv)) (back held b o hv at_b) (B.coded.code h) (B.coded.code h) h.value) $ await ! tt $ pick ! (λ γ'.
        returns ! (look_at ! 0 refl) $ free_all ! refl $
        keep ! (0 ∷ []) $ by ! (exits held b o hv γ'))))))

meets : {M : Type 1} {𝓤 : Ura M} (𝓛 : Logic 𝓤) (at_mem : Memory → SProp 𝓤) (run : Routine → Fun 𝓤) (𝓣 : Tables 𝓤 𝓛.H)
    → Meets 𝓛 F.signature (WpFn 𝓤 𝓛.H 𝓣.C 𝓣.Λ code.function) (F.spec 𝓛 at_mem run)
meets {𝓤 = 𝓤} 𝓛 at_mem run 𝓣 =
    walk_Meets 𝓛 F.ended stayed (Goes-spent_ref 𝓛 1 (0 ∷ []) tt (plain (λ _. B)), tt) (F.clauses 𝓛 at_mem run) (WpFn 𝓤 𝓛.H 𝓣.C 𝓣.Λ code.function) (WpFn-mono 𝓤 𝓛.H 𝓛.laws 𝓣 code.function)
    (walked 𝓛 F.ended stayed (F.clauses 𝓛 at_mem run) (WpFn 𝓤 𝓛.H 𝓣.C 𝓣.Λ code.function) (λ κs. (mut_vals, tt)) (λ κs. (mut_Tells (named 0) κs.0 B, tt))
    (λ κs qs bounds a g are. let h = a.0.now in fact_used 𝓛 (on_entry 𝓛 F.signature κs qs a (mut_vals a.0, tt)) (h.held ≡ true) (walk 𝓛 at_mem run κs.0 qs.0 a.0.ref_ptr.0 a.0.ref_ptr.1 a.0.ghost_name h 𝓣.C 𝓣.Λ)))

pub get_mut_spec : {M : Type 1} → stated.statement M
unfolding tables_of
get_mut_spec 𝓤 𝓛 𝓜 𝓡 wired =
    let 𝓣 : Tables 𝓤 𝓛.H = tables_of 𝓤 𝓛.H 𝓜 (tables 𝓤 𝓛.H 𝓜 𝓡 𝓡.env) in
    entered 𝓤 𝓛.H (triple_of 𝓛 F.signature (F.spec 𝓛 𝓜.mem 𝓡.returns)) 𝓣.C 𝓣.Λ #self code.function (code.unfolded 𝓤 𝓛.H 𝓜 𝓡 wired) (meets 𝓛 𝓜.mem 𝓡.returns 𝓣)

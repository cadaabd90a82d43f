-- A box apart: its pointer and its allocator's handle, by one machine value, own what the box owned. Assumes `Logic`.
--     Apart           the parts of a box
--     pair_out        a pair of the two, and what is owned at the pointer, by that machine value
--     parts_in, parts_out     the parts, by theirs
use Rattle.std.proofs.Common.{◌≡◌, ℕ, List, [], ◌∷◌, ◌++◌, refl, subst}
use seplogic.Ra.Ura.{Ura}
use mir.Raw.{raw as bare}
use mir.Val.{Val, vstruct, of_list}
use base.Logic.{never, fst∗, id⊢}
use types.Logic.{Logic, sem}
use types.Kit.{Item, Goal, Seq, Step, step, ‵, ◌$◌, move, drop, use1, fsplit, fjoin, fpick, feq_l, rewrite}
use denote.Builtin.{RawPtr}
use denote.RattleType.{RattleType}
use denote.RawPtr.{Ptr, block_ptr, null_ptr, ptr_val, in_a_block}
use denote.Struct.Tuple.{Tuple}
use Rattle.core.proofs.alloc.Calls.{Fits, handle_tells, token}
use Rattle.std_alloc.proofs.BoxSteps.Form.{Bx, D, P, R, X, handle, word, τ}
use Rattle.std_alloc.proofs.BoxSteps.Steps.{box_in, box_out}
use Rattle.std_alloc.specs.Box.Ownership.{box_owns}
use Rattle.lc_c.specs.contracts.box_parts.BoxParts as parts

module _ (E : Bx) where
  abbrev pub Apart : RattleType
  Apart = parts.the_row (R E) (P E) E.al.g

  module _ {M : Type 1} {𝓤 : Ura M} {𝓛 : Logic 𝓤} {K : Type 0} {Γ : List (Item 𝓤)} {G : Goal 𝓤 𝓛.H} where
    pub pair_out : K → (a : E.al.row.Denot) (r : Ptr × E.al.row.Denot) (x : X E) (us : List Val) → r.1 ≡ a
        → ((b o : ℕ) (hv : Val) → us ≡ word E hv b o ∷ [] → Fits E.al hv → Seq K 𝓛 (‵ (box_owns (token E.al a) (R E) (block_ptr b o) x) ∷ ‵ (handle E a hv) ∷ Γ) G)
        → Seq K 𝓛 (‵ ((Tuple (RawPtr ∷ P E ∷ [])).own_val r us) ∷ ‵ (box_owns (token E.al a) (R E) r.0 x) ∷ Γ) G
    pair_out t a r x us same k =
        fpick t (λ vss. fsplit t $ feq_l t (λ eu. fsplit t $ feq_l t (λ ep. fsplit t $
        rewrite t 0 (λ (s : E.al.row.Denot). ‵ (E.al.row.own_val s vss.1.0)) same refl $ handle_tells E.al t a vss.1.0 (λ hv ea fits.
        move t (1 ∷ []) $ drop t $ move t (1 ∷ []) $
        in_a_block t r.0 (λ p. box_owns (token E.al a) (R E) p x) (fst∗ 𝓤 (never 𝓤) (sem 𝓛 (token E.al a (bare (τ E)) null_ptr))) (λ b o e. k b o hv
        (subst (λ (p : Ptr). us ≡ vstruct (of_list (ptr_val p ∷ hv ∷ [])) ∷ []) e
        (subst (λ (ws : List Val). us ≡ vstruct (of_list (ptr_val r.0 ∷ (ws ++ []))) ∷ []) ea
        (subst (λ (ps : List Val). us ≡ vstruct (of_list (ps ++ (vss.1.0 ++ []))) ∷ []) ep eu))) fits)))))

    pub parts_in : K → {hv : Val} (b o : ℕ) (a : E.al.row.Denot) (x : X E)
        → Step K 𝓛 (‵ ((Apart).own_val (record { ptr = block_ptr b o; alloc = a; value = x }) (word E hv b o ∷ [])) ∷ Γ) G
        (‵ (box_owns (token E.al a) (R E) (block_ptr b o) x) ∷ ‵ (handle E a hv) ∷ Γ) G
    parts_in t {hv} b o a x = step (λ s. let whole : D E = record { ptr = block_ptr b o; alloc = a; value = x } in
        fsplit t $ box_in E t {hv = hv} whole b o x refl refl $ use1 𝓛 (‵ ((Apart).own_val (record { ptr = block_ptr b o; alloc = a; value = x }) (word E hv b o ∷ []))) (id⊢ 𝓤 _) $ s)

    pub parts_out : K → (d : (Apart).Denot) (us : List Val)
        → ((b o : ℕ) (hv : Val) → us ≡ word E hv b o ∷ [] → Fits E.al hv → Seq K 𝓛 (‵ (box_owns (token E.al d.alloc) (R E) (block_ptr b o) d.value) ∷ ‵ (handle E d.alloc hv) ∷ Γ) G)
        → Seq K 𝓛 (‵ ((Apart).own_val d us) ∷ Γ) G
    parts_out t d us k = let whole : D E = record { ptr = d.ptr; alloc = d.alloc; value = d.value } in
        box_out E t whole us (λ b o hv e is fits. fjoin t $ k b o hv is fits)

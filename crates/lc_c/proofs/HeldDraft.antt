-- A handle by its machine values: a pointer, whether it holds a draft, and the allocator's. Assumes `Logic`.
--     word            the machine value
--     word_typed      it is one of the struct's
--     handle_out, handle_in     what is owned of a handle is what it owns where it holds a draft, and the allocator's
use Rattle.std.proofs.Common.{◌≡◌, ℕ, Bool, List, [], ◌∷◌, ◌++◌, refl, subst, T}
use seplogic.Ra.Ura.{Ura}
use mir.Val.{Val, vptr, vbool, vstruct, vcons, vnil, of_list, has_ty, WT}
use base.Fml.{Fml}
use types.Logic.{Logic}
use types.Kit.{Item, Goal, Seq, Step, step, ‵, ◌$◌, move, drop, fsplit, fjoin, fpick, fpack, feq_i, feq_l}
use denote.RattleType.{RattleType, Valss}
use denote.Builtin.{RawPtr, bool}
use denote.RawPtr.{ptr_val}
use denote.Steps.{nothing}
use denote.Param.{layout}
use denote.Struct.Struct.{within}
use denote.Struct.Owning.{shape, to}
use Rattle.core.proofs.alloc.Calls.{Fits, handle_tells}
use Rattle.std_alloc.proofs.ResultValues.{and_tt}
use Rattle.std_alloc.proofs.BoxSteps.Form.{handle}
use Rattle.std_heap.specs.contracts.Global as Heap
use Rattle.lc_c.specs.DraftHandle.{handle_owns, owned_if}
use Rattle.lc_c.specs.declared.draft_handle.DraftHandle.{DraftHandle}
use Rattle.lc_c.specs.contracts.draft_handle.DraftHandle as DraftHandle'
use Rattle.lc_c.proofs.AsDraftBox.{E}

abbrev pub Hd : RattleType
Hd = DraftHandle'.the_row

abbrev pub word : Val → Bool → Val → Val
word p t hv = vstruct (vcons p (vcons (vbool t) (vcons hv vnil)))

pub word_typed : (b o : ℕ) (t : Bool) (hv : Val) → Fits E.al hv → T (has_ty (layout Hd) (word (vptr b o) t hv)) × WT (word (vptr b o) t hv)
word_typed b o t hv fa = (and_tt (has_ty (layout Heap.the_row) hv) fa.0, (tt, (tt, (fa.1, tt))))

abbrev pub owned : DraftHandle → Fml
owned h = owned_if h.held (handle_owns h.alloc h.at h.value)

module _ {M : Type 1} {𝓤 : Ura M} {𝓛 : Logic 𝓤} {K : Type 0} {Γ : List (Item 𝓤)} {G : Goal 𝓤 𝓛.H} where
  pub handle_out : K → (h : DraftHandle) (vs : List Val)
      → ((hv : Val) → vs ≡ word (ptr_val h.at) h.held hv ∷ [] → Fits E.al hv → Seq K 𝓛 (‵ (owned h) ∷ ‵ (handle E h.alloc hv) ∷ Γ) G)
      → Seq K 𝓛 (‵ (Hd.own_val h vs) ∷ Γ) G
  handle_out t h vs k =
      fsplit t $ fpick t (λ vss. fsplit t $ feq_l t (λ ev. fsplit t $ feq_l t (λ ep. fsplit t $ feq_l t (λ eh. fsplit t $ handle_tells E.al t h.alloc vss.1.1.0 (λ hv ea fa. move t (1 ∷ []) $ drop t $ move t (1 ∷ 0 ∷ []) $ k hv
      (subst (λ (ws : List Val). vs ≡ vstruct (of_list (ptr_val h.at ∷ vbool h.held ∷ (ws ++ []))) ∷ []) ea
      (subst (λ (bs : List Val). vs ≡ vstruct (of_list (ptr_val h.at ∷ (bs ++ (vss.1.1.0 ++ [])))) ∷ []) eh
      (subst (λ (ps : List Val). vs ≡ vstruct (of_list (ps ++ (vss.1.0 ++ (vss.1.1.0 ++ [])))) ∷ []) ep ev))) fa)))))

  pub handle_in : K → {hv : Val} (h : DraftHandle) → Step K 𝓛 (‵ (Hd.own_val h (word (ptr_val h.at) h.held hv ∷ [])) ∷ Γ) G (‵ (owned h) ∷ ‵ (handle E h.alloc hv) ∷ Γ) G
  handle_in t {hv} h = step (λ s. let v : Val = word (ptr_val h.at) h.held hv in
      nothing t $ move t (2 ∷ 0 ∷ []) $ fjoin t $ feq_i t (List Val) (vbool h.held ∷ []) (vbool h.held ∷ []) refl $ fjoin t $
      feq_i t (List Val) (ptr_val h.at ∷ []) (ptr_val h.at ∷ []) refl $ fjoin t $ feq_i t (List Val) (v ∷ []) (v ∷ []) refl $ fjoin t $
      fpack t (Valss (RawPtr ∷ bool ∷ Heap.the_row ∷ [])) (within (shape DraftHandle'.the_type) (to DraftHandle'.the_type h) (v ∷ [])) (ptr_val h.at ∷ [], (vbool h.held ∷ [], (hv ∷ [], tt))) $ fjoin t $ s)

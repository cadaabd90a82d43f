-- `is_held` reads a field, and the handle is as it was.
use Rattle.std.proofs.Common.{List, [], ◌∷◌, refl}
use base.Fraction.{full_share}
use base.Fml.{ftrue, flft}
use mir.Syntax.{named}
use mir.Val.{Val, vbool}
use types.Kit.{‵, ◌⊛◌, ◌$◌, ◌∵◌, !, qed, move, keep, split, join, fsplit3, feq_i, rewrite, suffices, frame, group, done}
use types.Part.{whole, sub, look_in}
use types.Run.{stop, fld, load, of_opd, returns, enter}
use types.ByLocal.{alloc_all, pass_all, free_all, look_at, through, sets}
use denote.Memory.{cell_at}
use denote.RawPtr.{ptr_val}
use denote.Ref.{MutRef, mut_vals, mut_Tells}
use denote.Signature.{plain}
use denote.Steps.{nothing, opens, closes}
use denote.Triple.Walked.{says, Stays, stay_ref, walk_of, ends_at, Goes-ref}
use Rattle.std.proofs.raw_atomic.Walks.{proved}
use Rattle.lc_c.proofs.HeldDraft.{Hd, word, handle_out, handle_in}
use Rattle.lc_c.specs.contracts.draft_handle.DraftHandle.is_held as f
use Rattle.lc_c.proofs.draft_handle.DraftHandle.is_held.Statement.{statement}
use Rattle.lc_c.proofs.draft_handle.DraftHandle.is_held.Code as code

abbrev stayed : Stays f.ended.signature.params f.ended.kept
stayed = (stay_ref (0 ∷ []) tt (plain (λ _. Hd)), tt)

pub is_held_spec : {M : Type 1} → statement M
is_held_spec 𝓤 𝓛 𝓜 𝓡 wired =
    let c = f.clauses 𝓛 𝓜.mem 𝓡.returns in let W = walk_of 𝓛 f.ended stayed c in
    proved 𝓛 f.ended stayed c 𝓜 𝓡 (Goes-ref 𝓛 1 0 tt (plain (λ _. Hd)), tt)
    f.Key.name code.function (code.unfolded 𝓤 𝓛.H 𝓜 𝓡 wired)
    (λ κs. (mut_vals, tt)) (λ κs. (mut_Tells (named 0) κs.0 Hd, tt)) (λ κs qs bounds a _ are.
    let b = a.0.ref_ptr.0 in let o = a.0.ref_ptr.1 in let h = a.0.now in let vs = mut_vals a.0 in
    let y : W.Ghost = ((κs, qs, bounds, a, (vs, tt)), tt) in
    qed 𝓛 (((‵ (flft κs.0 qs.0) ⊛ ‵ ftrue) ⊛ ‵ ((MutRef (named 0) κs.0 Hd).own_val a.0 vs) ⊛ ‵ ftrue) ∷ ‵ ftrue ∷ []) ∵
    split ! $ split ! $ move ! (2 ∷ []) $ split ! $ keep ! (0 ∷ 2 ∷ []) $
    enter ! _ _ _ _ _ $ alloc_all ! (λ l. pass_all ! refl ((tt, tt), tt) $
    fsplit3 ! $ move ! (1 ∷ 2 ∷ 3 ∷ []) $ opens ! tt Hd b o (λ us. move ! (1 ∷ []) $ handle_out ! h us (λ hv is _.
    let Cell = λ (ws : List Val). ‵ (cell_at full_share Hd.mir ws b o) in
    rewrite ! 2 Cell is refl $
    sets ! (of_opd ! (load ! (through ! refl (fld ! refl (stop !))) (look_in ! 2 (sub ! 1 refl (whole !))))) refl (tt, tt) $
    handle_in ! h $ move ! (1 ∷ 0 ∷ []) $ closes ! tt Hd h (word (ptr_val h.at) h.held hv ∷ []) b o $
    returns ! (look_at ! 0 refl) $ free_all ! refl $ move ! (3 ∷ []) $
    suffices ! _ (ends_at 𝓛 f.ended stayed c y (vbool h.held) h.held (h, tt) (tt, tt)) $ says ! (refl, refl) $
    group ! 3 $ nothing ! $ move ! (1 ∷ 0 ∷ []) $ join ! $ nothing ! $ move ! (2 ∷ 0 ∷ []) $ join ! $ frame ! $ frame ! $
    feq_i ! _ (vbool h.held ∷ []) _ refl $ done !))))

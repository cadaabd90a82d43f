-- `of` takes the box apart by one call, and its parts own what it owned.
use Rattle.std.proofs.Common.{◌≡◌, List, [], ◌∷◌, ◌++◌, refl, sym, ap, subst}
use mir.Syntax.{a_type, dcons, dnil}
use mir.MapTy.{inst_fn}
use mir.Val.{Val}
use base.Logic.{SProp, ent, id⊢}
use base.Fml.{ftrue, fsep, flft}
use prog.Wp.{WpFn}
use contract.Monad.{fact}
use contract.Running.{tables}
use types.Kit.{Item, ‵, raw, ◌⊛◌, some, later, ◌$◌, ◌∵◌, !, qed, move, keep, drop, split, split3, join, fsplit, fjoin, pick, suffices, use1, await, done}
use types.Part.{agg, sub, whole}
use types.Run.{stop, fld, of_opd, no_more, and_then, returns, enter}
use types.ByLocal.{alloc_all, pass_all, free_all, look_at, get, get_in, sets, lands_as}
use denote.Builtin.{RawPtr}
use denote.Exit.{no}
use denote.Param.{bounded}
use denote.RattleType.{owns}
use denote.RawPtr.{Ptr, block_ptr}
use denote.Signature.{types_at, plain}
use denote.Steps.{heard, nothing, only}
use denote.Struct.Tuple.{Tuple}
use denote.Triple.Call.{calls_at}
use denote.Triple.Spec.{triple_of}
use denote.Triple.Walked.{says, Stays, stay_dropped, walk_of, ends_at}
use Rattle.core.proofs.alloc.Calls.{Goes-blank, token}
use Rattle.core.proofs.atomic.Steps.{fm}
use Rattle.std.proofs.raw_atomic.Walks.{proved_at}
use Rattle.std_alloc.proofs.BoxSteps.Form.{Bx, B, P, R, box_typed, word}
use Rattle.std_alloc.proofs.BoxSteps.Steps.{box_in, box_out}
use Rattle.std_alloc.specs.Box.Ownership.{box_owns}
use Rattle.std_alloc.specs.contracts.boxed.Box.into_raw_with_allocator as Raw
use Rattle.std_alloc.proofs.boxed.Box.into_raw_with_allocator.Met as raw_met
use Rattle.lc_c.proofs.Parted.{pair_out, parts_in}
use Rattle.lc_c.specs.contracts.box_parts.BoxParts.of as F
use Rattle.lc_c.specs.contracts.box_parts.BoxParts.of.Key.{name as #self}
use Rattle.lc_c.proofs.box_parts.BoxParts.of.Statement.{statement}
use Rattle.lc_c.proofs.box_parts.BoxParts.of.Code as code

pub of_spec : {M : Type 1} → statement M
of_spec 𝓤 𝓛 𝓜 𝓡 wired T A LT LA g d drops dropped allocator met glue =
    let E : Bx = record { row = T; laws = LT; al = record { row = A; laws = LA; g = g; d = d; drops = drops } } in let 𝓣 = tables 𝓤 𝓛.H 𝓜 𝓡 𝓡.env in
    let at = bounded (a_type ∷ a_type ∷ []) (T, (A, tt)) (dcons d (dcons drops (dcons dropped dnil))) in let fn = inst_fn at code.function in
    let ended = F.ended T A g d drops dropped in let c = F.clauses T A g d drops dropped 𝓛 𝓜.mem 𝓡.returns in
    let stays : Stays ended.signature.params ended.kept = (stay_dropped (plain (λ _. B E)) no, tt) in
    let takes = triple_of 𝓛 (Raw.signature T A g d drops dropped) (Raw.spec T A g d drops dropped 𝓛 𝓜.mem 𝓡.returns) in
    let known = raw_met.met 𝓤 𝓛 𝓜 𝓡 (code.calls-std_alloc::boxed::Box::into_raw_with_allocator 𝓡.env wired) T A LT LA g d drops dropped allocator met glue in
    proved_at 𝓛 ended stays c 𝓜 𝓡 (Goes-blank 𝓛 2 (plain (λ _. B E)) no (λ κs x f. tt), tt) (#self at) fn (code.unfolded 𝓤 𝓛.H 𝓜 𝓡 wired (T, (A, tt)) d drops dropped) (λ z are.
    let κs = z.0.0 in let qs = z.0.1 in let box = z.0.3.0 in let a = box.alloc in let post = (walk_of 𝓛 ended stays c).post z in
    let tokens : Item 𝓤 = ‵ (flft κs.0 qs.0) ⊛ ‵ (flft κs.1.0 qs.1.0) ⊛ ‵ ftrue in let asked : Item 𝓤 = raw ((c κs z.0.3).requires z.1) in
    let Run : List Val → SProp 𝓤 = λ us. WpFn 𝓤 𝓛.H 𝓣.C 𝓣.Λ fn us post in
    qed 𝓛 ((tokens ⊛ ‵ (owns (types_at ended.signature.params κs) z.0.3 z.0.4)) ∷ asked ∷ []) ∵ split ! $ move ! (1 ∷ []) $ fsplit ! $
    box_out E ! box z.0.4.0 (λ b o hv e is fits. box_in E ! box b o box.value e refl $
    let w = word E hv b o in let y : takes.Ghost = ((κs, qs, tt, (box, tt), (w ∷ [], tt)), tt) in
    -- [the box; nothing; the tokens; what is asked]
    fjoin ! $ move ! (1 ∷ 0 ∷ []) $ join ! $ join ! $ use1 𝓛 (raw (takes.pre y)) (id⊢ 𝓤 _) $
    suffices ! (Run (w ∷ [])) (subst (λ (us : List Val). ent 𝓤 (Run (w ∷ [])) (Run (us ++ []))) (sym is) (id⊢ 𝓤 (Run (w ∷ [])))) $
    enter ! 𝓣.C 𝓣.Λ fn (w ∷ []) post $ alloc_all ! (λ l. pass_all ! refl (box_typed E hv b o fits, tt) $ sets ! (of_opd ! (get ! refl)) refl (box_typed E hv b o fits) $
    calls_at ! (fm 𝓛 𝓜 𝓡) takes known y (and_then ! (get ! refl) (no_more !)) (λ u.
    use1 𝓛 (later (some (λ (r : Ptr × A.Denot). (tokens ⊛ ‵ ((Tuple (RawPtr ∷ P E ∷ [])).own_val r (u ∷ []))) ⊛
    some (λ (_ : (Unit {0} × (Unit {0} × Unit {0})) × Unit {0}). ‵ (fsep (fsep ftrue (fsep ftrue ftrue)) ftrue) ⊛ (raw (fact 𝓤 (r.1 ≡ a)) ⊛ ‵ (box_owns (token E.al a) (R E) r.0 box.value)))))) (id⊢ 𝓤 _) $
    await ! tt $ pick ! (λ r. split ! $ move ! (1 ∷ []) $ pick ! (λ _. split3 ! $ drop ! $ heard ! (r.1 ≡ a) (λ same. move ! (1 ∷ []) $ split ! $ move ! (1 ∷ 2 ∷ []) $
    pair_out E ! a r box.value (u ∷ []) same (λ b' o' hv' told fits'. let made = box_typed E hv' b' o' fits' in
    lands_as ! (ap only told) refl made $
    sets ! (of_opd ! (get_in ! (fld ! refl (stop !)) (sub ! 0 refl (whole !)))) refl (tt, tt) $ sets ! (of_opd ! (get_in ! (fld ! refl (stop !)) (sub ! 1 refl (whole !)))) refl fits' $ sets ! (of_opd ! (get ! refl)) refl fits' $
    sets ! (agg ! (and_then ! (get ! refl) (and_then ! (get ! refl) (no_more !)))) refl made $
    parts_in E ! b' o' a box.value $ returns ! (look_at ! 0 refl) $ free_all ! refl $ keep ! (0 ∷ 1 ∷ []) $
    suffices ! _ (ends_at 𝓛 ended stays c z (word E hv' b' o') (record { ptr = block_ptr b' o'; alloc = a; value = box.value }) ((tt, (tt, tt)), tt) (tt, tt)) $ says ! refl $
    nothing ! $ nothing ! $ fjoin ! $ join ! $ move ! (1 ∷ 0 ∷ []) $ join ! $ done !))))))))

use Rattle.std.proofs.Common.{ℕ, List, [], ◌∷◌, ◌++◌, Option, take, get_or, sym, subst, ◌∙◌}
use Rattle.std.proofs.lemmas.Bool.{false≢true}
use Rattle.std.proofs.lemmas.List.{take_all, take_more}
use Rattle.lc_tx.specs.Locking.{IsLeastShut}
use Rattle.lc_tx.proofs.ImagesLemmas.{ImageLaws, lock_along, lock_back, same_itself, same_chained}
use Rattle.lc_tx.proofs.ShutLemmas.{shut_none, shut_more}
use Rattle.lc_tx.proofs.locking.first_shut.Given.{Over}
use Rattle.lc_tx.proofs.locking.first_shut.Goals as goal
use Rattle.lc_tx.proofs.locking.first_shut.Goals.{then-not-can_lock, else-not-can_lock}

laws : (g : Over) → ImageLaws g.I.Images
laws g =
    let h = g.met.I.Images in
    record {
      same_numbers = h.same_numbers;
      own_image = h.own_image;
      other_image = h.other_image;
      beside_itself = h.beside_itself;
      beside_image = h.beside_image;
      beside_chained = h.beside_chained;
    }

pub loop-segment-init : goal.loop-segment-init
loop-segment-init g c = record { same = same_itself g.I.Images (laws g) [] c.args.images.now; least = λ s e. absurd (false≢true e) }

pub loop-segment-preserved : goal.loop-segment-preserved
loop-segment-preserved g c =
    let m = g.I.Images in
    let mode = c.args.mode in
    let xs = c.args.segments.now in
    let i = c.loop-segment.segment-index in
    let x : ℕ = get_or xs i 0 in
    let old = c.args.images.now in
    let was = c.loop-segment.invariant in
    record {
      same = same_chained m (laws g) old c.loop-segment.images c.can_lock.new.images was.same c.can_lock.ensures.same;
      least = subst (λ (l : List ℕ). IsLeastShut m mode old l c.if-not-can_lock.first) (sym (take_more xs i 0 c.loop-segment-test.true)) (elim c.if-not-can_lock.branch [
        | then-not-can_lock w ↦
            subst (λ (o : Option ℕ). IsLeastShut m mode old (take i xs ++ x ∷ []) o) (sym (w.first-is ∙ w.lesser-first.ensures)) (shut_more m mode old (take i xs) x c.loop-segment.first was.least
            (λ can. false≢true (sym w.if-not-can_lock.true ∙ c.can_lock.ensures.can.1 (lock_along m mode old c.loop-segment.images x was.same can))))
        | else-not-can_lock w ↦
            subst (λ (o : Option ℕ). IsLeastShut m mode old (take i xs ++ x ∷ []) o) (sym w.first-is) (shut_none m mode old (take i xs) x c.loop-segment.first was.least
            (lock_back m mode old c.loop-segment.images x was.same (c.can_lock.ensures.can.0 w.if-not-can_lock.false)))
      ]);
    }

pub returns-clause-least : goal.returns-clause-least
returns-clause-least g c =
    subst (λ (l : List ℕ). IsLeastShut g.I.Images c.args.mode c.args.images.now l c.loop-segment.first) (take_all c.loop-segment.segment-index c.args.segments.now c.loop-segment-test.false) c.loop-segment.invariant.least

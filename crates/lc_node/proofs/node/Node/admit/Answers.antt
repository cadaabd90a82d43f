use Rattle.std.proofs.Common.{◌≡◌, true, false, sym, ap, subst, ◌∙◌}
use Rattle.std.specs.Prelude.{Bool, Err, IsSome, Ok, Result}
use Rattle.lc_segments.specs.Journey.{Journey}
use Rattle.lc_segments.specs.SegView.{SegView}
use Rattle.lc_node.proofs.MessagesAnswered.{journey_answered}
use Rattle.lc_node.proofs.node.Node.admit.Goals as goal

pub returns-in-Ok-true-clause-answer : goal.returns-in-Ok-true-clause-answer
returns-in-Ok-true-clause-answer g c =
    let e = c.admit-admitted.ensures in let old : SegView _ = c.deref_mut.result.now in let same : old ≡ c.lock-side.result.0 = c.deref_mut.ensures.value ∙ c.side.view_is in
    let of_segment : old.segment ≡ c.args.journey.token.segment = ap (λ (s : SegView _). s.segment) same ∙ (c.lock-side.ensures.fits.0 ∙ (c.lock_of-lock.ensures ∙ c.segment-segment.ensures)) in
    journey_answered c.args.self.now c.args.journey old c.admit-admitted.new.self c.admit-admitted.result (Ok true) of_segment (subst (λ (s : SegView _). IsSome s.image) (sym same) c.lock-side.ensures.fits.1) (c.in-Ok-true.is ∙ ap (λ (b : Bool). let r : Result Bool (Journey g.row.D.Denot) = Ok b in r) c.in-Ok-true.field-0-test) e.arrived e.waits e.arrives e.kept e.back e.err

pub returns-in-Ok-false-clause-answer : goal.returns-in-Ok-false-clause-answer
returns-in-Ok-false-clause-answer g c =
    let e = c.admit-admitted.ensures in let old : SegView _ = c.deref_mut.result.now in let same : old ≡ c.lock-side.result.0 = c.deref_mut.ensures.value ∙ c.side.view_is in
    let of_segment : old.segment ≡ c.args.journey.token.segment = ap (λ (s : SegView _). s.segment) same ∙ (c.lock-side.ensures.fits.0 ∙ (c.lock_of-lock.ensures ∙ c.segment-segment.ensures)) in
    journey_answered c.args.self.now c.args.journey old c.admit-admitted.new.self c.admit-admitted.result (Ok false) of_segment (subst (λ (s : SegView _). IsSome s.image) (sym same) c.lock-side.ensures.fits.1) (c.in-Ok-false.is ∙ ap (λ (b : Bool). let r : Result Bool (Journey g.row.D.Denot) = Ok b in r) c.in-Ok-false.field-0-test) e.arrived e.waits e.arrives e.kept e.back e.err

pub returns-in-Err-clause-answer : goal.returns-in-Err-clause-answer
returns-in-Err-clause-answer g c =
    let e = c.admit-admitted.ensures in let old : SegView _ = c.deref_mut.result.now in let same : old ≡ c.lock-side.result.0 = c.deref_mut.ensures.value ∙ c.side.view_is in
    let of_segment : old.segment ≡ c.args.journey.token.segment = ap (λ (s : SegView _). s.segment) same ∙ (c.lock-side.ensures.fits.0 ∙ (c.lock_of-lock.ensures ∙ c.segment-segment.ensures)) in
    journey_answered c.args.self.now c.args.journey old c.admit-admitted.new.self c.admit-admitted.result (Err c.in-Err.journey) of_segment (subst (λ (s : SegView _). IsSome s.image) (sym same) c.lock-side.ensures.fits.1) c.in-Err.is e.arrived e.waits e.arrives e.kept e.back e.err

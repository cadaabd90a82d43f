use Rattle.std.proofs.Common.{rules, ◌≡◌, ℕ, Err, List, map, ap, inr, subst, sym}
use Rattle.lc_tx.specs.Tx.{IsSetOf}
use Rattle.lc_node.specs.Held.{IsFirstOutside}
use Rattle.lc_node.specs.Pumping.{IsOfRecord}
use Rattle.lc_node.specs.Reached.{AnswersWords, locked_in}
use Rattle.lc_segments.specs.declared.node_fault.NodeFault.{NodeFault}
use Rattle.lc_node.proofs.MessagesAnswered.{no_side, record_unheld}
use Rattle.lc_node.proofs.MessagesGone.{of_record}
use Rattle.lc_node.proofs.node.Node.deliver.Goals as goal

pub deliver-delivered-requires : goal.deliver-delivered-requires
deliver-delivered-requires g c = record { here = λ k d l. (c.in_ok-held.ensures.held k d l).5 }

pub release-requires : goal.release-requires
release-requires g c = c.deliver-delivered.ensures.held c.args.self.now c.in_ok-held.ensures.held

pub returns-clause-record : goal.returns-clause-record
returns-clause-record g c = subst IsOfRecord (sym c.pumped.ensures) (of_record c.in_ok-delivered.field-0.first c.in_ok-delivered.field-0.arrived)

pub returns-in_default-segments_locked-clause-answer : goal.returns-in_default-segments_locked-clause-answer
returns-in_default-segments_locked-clause-answer g c = inr (c.in-Some.record, c.in-Some.ensures.found, no_side c.args.self.now c.in-Some.record)

pub returns-in_err-held-clause-answer : goal.returns-in_err-held-clause-answer
returns-in_err-held-clause-answer g c =
    let node = c.args.self.now in let r = c.in-Some.record in let fault = c.in_err-held.field-0.0 in
    let is : c.from_residual.result ≡ Err fault = search rules in
    let same : c.as_slice.result.now ≡ locked_in r = search rules in
    subst (AnswersWords node c.args.words.now) (sym is) (inr (
      r,
      c.in-Some.ensures.found,
      record_unheld node r fault c.in_err-held.ensures.refused
          (λ s here. subst (λ (l : List ℕ). IsFirstOutside node l s) same ((c.in_err-held.ensures.not_here s).0 (ap (λ (f : NodeFault). Err f) here))),
    ))

pub returns-clause-answer : goal.returns-clause-answer
returns-clause-answer g c =
    let node = c.args.self.now in let r = c.in-Some.record in let old = c.in_ok-held.held.sides.items in
    let same : c.as_slice.result.now ≡ locked_in r = search rules in
    inr (
      r,
      c.in-Some.ensures.found,
      record {
        old = old;
        new = c.deliver-delivered.new.self.sides.items;
        held = record { held = c.in_ok-held.ensures.held; segments = subst (λ (l : List ℕ). IsSetOf l (map (λ h. h.side.segment) old)) same c.in_ok-held.ensures.segments };
        done = c.in_ok-delivered.field-0;
        take_in = record { delivered = c.in_ok-delivered.ensures.delivered; first = c.in_ok-delivered.ensures.first; arrived = c.in_ok-delivered.ensures.arrived };
        answer = c.pumped.ensures;
      },
    )

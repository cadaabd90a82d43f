use Rattle.std.proofs.Common.{◌≡◌, ◌+◌, List, All, Some, length, inl, inr, sym, ap, subst, ◌∙◌, arith}
use Rattle.std.specs.Prelude.{slice_get}
use Rattle.std.proofs.lemmas.List.Elements.{All-nil}
use Rattle.lc_rest.specs.Parts.{KeepsPages}
use Rattle.lc_rest.specs.declared.segment_part.SegmentPart.{SegmentPart}
use Rattle.lc_node.specs.Refusals.{HasToken, StopsTokens, first_of}
use Rattle.lc_node.proofs.EachPlace.{each_more, each_none}
use Rattle.lc_node.proofs.Joined.{all_more}
use Rattle.lc_node.proofs.OrderedTokens.{all_left, first_of_all, is_left_over, next_left, same_token}
use Rattle.lc_log_side.proofs.Refused.{handed_on}
use Rattle.lc_node.proofs.ordering_tokens.in_order.Goals as goal
use mathlib.Core.Logic.{dite}
use native.Mathlib.Decide.{dec_le}

pub loop-place-init : goal.loop-place-init
loop-place-init g c = record {
  count = omega (arith, c.in_ok-parts.ensures.len);
  fit = c.in_ok-parts.ensures.capacity;
  one_each = omega arith;
  order = each_none (λ place (one : SegmentPart g.row.D.Denot). one.token.segment ≡ place + 1) c.in_ok-parts.parts.items c.in_ok-parts.ensures.items;
  pages = subst (λ (l : List (SegmentPart g.row.D.Denot)). All (KeepsPages g.D.Area c.args.geometry.now) l) (sym c.in_ok-parts.ensures.items) (All-nil (KeepsPages g.D.Area c.args.geometry.now));
  settled = c.requires.settled;
  left = all_left c.args.tokens.items;
  firsts = each_none (λ place (one : SegmentPart g.row.D.Denot). first_of (place + 1) c.args.tokens.items ≡ Some one) c.in_ok-parts.parts.items c.in_ok-parts.ensures.items;
  has = λ segment from within. absurd (omega (arith, from, within));
}

pub loop-place-preserved : goal.loop-place-preserved
loop-place-preserved g c =
    let inv = c.loop-place.invariant in
    let part = c.in_ok-take_token.field-0 in
    let its = c.in_ok-take_token.ensures in
    let place = c.loop-place.place in
    let all = c.args.tokens.items in
    let now = c.loop-place.tokens.items in
    let count : length c.loop-place.parts.items ≡ place = omega (arith, inv.count, c.loop-place.parts.ok.0) in
    let first : first_of (place + 1) now ≡ first_of (place + 1) all = first_of_all place (place + 1) all now inv.left (omega arith) in
    record {
      count = omega (arith, c.push_reserved.ensures.len, inv.count);
      fit = omega (arith, c.push_reserved.ensures.capacity, inv.fit);
      one_each = omega (arith, its.one_less, inv.one_each, c.loop-place.tokens.ok.0, c.take_token.new.tokens.ok.0);
      order = each_more (λ place (one : SegmentPart g.row.D.Denot). one.token.segment ≡ place + 1) c.push_reserved.new.self.items c.loop-place.parts.items part place
          c.push_reserved.ensures.items count inv.order its.segment;
      pages = all_more (KeepsPages g.D.Area c.args.geometry.now) c.push_reserved.new.self.items c.loop-place.parts.items part c.push_reserved.ensures.items inv.pages its.pages;
      settled = its.settled;
      left = next_left place all now c.take_token.new.tokens.items inv.left its.rest;
      firsts = each_more (λ place (one : SegmentPart g.row.D.Denot). first_of (place + 1) all ≡ Some one) c.push_reserved.new.self.items c.loop-place.parts.items part place
          c.push_reserved.ensures.items count inv.firsts (sym first ∙ its.first);
      has = λ segment from within. dite (dec_le segment place)
          (λ low. inv.has segment from low)
          (λ high. subst (HasToken g.D.Area c.args.geometry.now all) (let here : place + 1 ≡ segment = omega (arith, high, within) in here)
          (same_token g.D.Area c.args.geometry.now (place + 1) now all first its.has));
    }

pub returns-in_err-take_token-clause-refused : goal.returns-in_err-take_token-clause-refused
returns-in_err-take_token-clause-refused g c =
    let inv = c.loop-place.invariant in
    let place = c.loop-place.place in
    let all = c.args.tokens.items in
    let now = c.loop-place.tokens.items in
    let its = c.in_err-take_token.ensures.refused in
    let first : first_of (place + 1) all ≡ first_of (place + 1) now = sym (first_of_all place (place + 1) all now inv.left (omega arith)) in
    handed_on c.from_residual-in_err-take_token.result c.in_err-take_token.field-0.0 (StopsTokens g.D.Area c.args.geometry.now all) c.from_residual-in_err-take_token.ensures.1
    (subst (StopsTokens g.D.Area c.args.geometry.now all) (sym its.0) (inl (
      omega arith,
      record {
        from = omega arith;
        before = λ other from less. inv.has other from (omega (arith, less));
        fails = λ has. its.1 (same_token g.D.Area c.args.geometry.now (place + 1) all now first has);
      },
    )))

pub returns-in-None-clause-first : goal.returns-in-None-clause-first
returns-in-None-clause-first g c = c.loop-place.invariant.firsts

pub returns-clause-refused : goal.returns-clause-refused
returns-clause-refused g c =
    let inv = c.loop-place.invariant in
    let place = c.loop-place.place in
    let all = c.args.tokens.items in
    let now = c.loop-place.tokens.items in
    let whole : place ≡ c.args.geometry.now.segments = omega arith in
    let first : slice_get now 0 ≡ Some c.in-Some.part.now = ap (λ (l : List (SegmentPart g.row.D.Denot)). slice_get l 0) (sym c.deref.ensures.value) ∙ sym c.in-Some.ensures.value in
    subst (StopsTokens g.D.Area c.args.geometry.now all) (sym (rw c.segment.ensures at c.into.ensures))
    (inr ((λ segment from within. inv.has segment from (omega (arith, whole, within))), is_left_over c.args.geometry.now place all now c.in-Some.part.now whole inv.left first))

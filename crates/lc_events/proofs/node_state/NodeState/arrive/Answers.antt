use Rattle.std.proofs.Common.{Option, ◌≡◌, ◌-◌, ◌<◌, ◌≤◌, Some, None, refl, sym, ap, ◌∙◌, true≢false, subst, arith}
use Rattle.std.proofs.lemmas.Option.{slice_get_read, same_Some as same_some}
use Rattle.std.specs.Prelude.{IsSome, vec_len, slice_get}
use Rattle.lc_desk.specs.declared.here.Here.{Here}
use Rattle.lc_events.proofs.Shortness.{same_len}
use Rattle.lc_token.specs.declared.fault.TokenFault.{TokenFault}
use Rattle.lc_token.specs.declared.token.Token.{Token}
use Rattle.lc_desk.specs.Places.{get_set_same}
use Rattle.lc_desk.specs.Leaves.{HasToken, with_token}
use Rattle.lc_events.specs.NodeState.{SeesStanding}
use Rattle.lc_desk.specs.declared.desk.Desk.{Desk}
use Rattle.lc_desk.specs.declared.segment_copy.SegmentCopy.{SegmentCopy}
use Rattle.lc_events.proofs.Tokens.{stands_here, token_arrives, token_comes_back}
use Rattle.lc_events.proofs.Names.{of_arrive}
use Rattle.lc_events.proofs.node_state.NodeState.arrive.Goals as goal

unseen : (slot other : SegmentCopy) (o : Option SegmentCopy) → o ≡ Some slot → o ≡ Some other → slot.token.token ≡ None → IsSome other.token.token → ⊥
unseen slot other o at got none some = true≢false (sym (subst (λ t. IsSome t) (ap (λ (s : SegmentCopy). s.token.token) (sym (same_some slot other (sym at ∙ got))) ∙ none) some))

pub arrive-requires-clause-empty : goal.arrive-requires-clause-empty
arrive-requires-clause-empty g c = λ other got.
    let w = c.args.self.now in
    let slot = c.index-slot.result.now in
    let within : c.args.token.segment - 1 < w.desk.here.slots.len = omega (arith, c.requires.first, c.requires.slot) in
    let at = slice_get_read w.desk.here.slots.items w.desk.here.slots.len (c.args.token.segment - 1) slot w.desk.here.slots.ok.0 within (rw c.segment-segment.ensures at c.index-slot.ensures) in
    subst (λ (s : SegmentCopy). s.token.token ≡ None) (same_some slot other (sym at ∙ got)) (c.is_empty.ensures.0 c.if-not-is_empty.false)

-- the place has the token that came
came_there : (token : Token) (slot : SegmentCopy) (old new : Desk) → slice_get old.here.slots.items (token.segment - 1) ≡ Some slot → HasToken token.segment slot (Some token) old new
    → slice_get new.here.slots.items (token.segment - 1) ≡ Some (with_token slot (Some token))
came_there token slot old new at moved =
    ap (λ (h : Here). slice_get h.slots.items (token.segment - 1)) moved.here
    ∙ get_set_same old.here.slots.items (token.segment - 1) slot (with_token slot (Some token)) at

pub see-requires-clause-slot : goal.see-requires-clause-slot
see-requires-clause-slot g c =
    let w = c.args.self.now in
    let slot = c.index-slot.result.now in
    let within : c.args.token.segment - 1 < w.desk.here.slots.len = omega (arith, c.requires.first, c.requires.slot) in
    let at = slice_get_read w.desk.here.slots.items w.desk.here.slots.len (c.args.token.segment - 1) slot w.desk.here.slots.ok.0 within (rw c.segment-segment.ensures at c.index-slot.ensures) in
    let moved = (c.in-Ok.ensures.arrives slot at).1 in
    rw c.segment-segment.ensures (subst (λ (h : Here). c.args.token.segment ≤ vec_len h.slots) (sym moved.here) c.requires.slot)

pub returns-in-Ok : goal.returns-in-Ok
returns-in-Ok g c = record {
  follows = λ m n s x sound common h travels its.
      let w = c.args.self.now in
      let slot = c.index-slot.result.now in
      let within : c.args.token.segment - 1 < w.desk.here.slots.len = omega (arith, c.requires.first, c.requires.slot) in
      let at = slice_get_read w.desk.here.slots.items w.desk.here.slots.len (c.args.token.segment - 1) slot w.desk.here.slots.ok.0 within (rw c.segment-segment.ensures at c.index-slot.ensures) in
      let came = c.in-Ok.ensures.arrives slot at in
      let sees = subst (λ (o : Option SegmentCopy). SeesStanding o w.known c.see.new.self.known) (came_there c.args.token slot w.desk c.arrive.new.self at came.1) (rw c.segment-segment.ensures at c.see.ensures.sees) in
      rw (c.see.ensures.desk, c.see.ensures.journal)
      (token_arrives g.D.Area m n s x sound w h c.arrive.new.self c.args.token c.requires.first slot at (c.is_empty.ensures.0 c.if-not-is_empty.false) travels its c.see.new.self.known sees came);
  whole =
      let w = c.args.self.now in
      let slot = c.index-slot.result.now in
      let within : c.args.token.segment - 1 < w.desk.here.slots.len = omega (arith, c.requires.first, c.requires.slot) in
      let at = slice_get_read w.desk.here.slots.items w.desk.here.slots.len (c.args.token.segment - 1) slot w.desk.here.slots.ok.0 within (rw c.segment-segment.ensures at c.index-slot.ensures) in
      let moved = (c.in-Ok.ensures.arrives slot at).1 in
      rw c.see.ensures.desk (record { seats = ap vec_len moved.seats; slots = ap (λ (h : Here). vec_len h.slots) moved.here });
  stands = λ other got some.
      let w = c.args.self.now in
      let slot = c.index-slot.result.now in
      let within : c.args.token.segment - 1 < w.desk.here.slots.len = omega (arith, c.requires.first, c.requires.slot) in
      let at = slice_get_read w.desk.here.slots.items w.desk.here.slots.len (c.args.token.segment - 1) slot w.desk.here.slots.ok.0 within (rw c.segment-segment.ensures at c.index-slot.ensures) in
      absurd (unseen slot other _ at got (c.is_empty.ensures.0 c.if-not-is_empty.false) some);
  names = tt;
  log = ap (λ j. j.log) c.see.ensures.journal;
}

pub returns-in-Some : goal.returns-in-Some
returns-in-Some g c =
    let w = c.args.self.now in
    let slot = c.index-slot.result.now in
    let within : c.args.token.segment - 1 < w.desk.here.slots.len = omega (arith, c.requires.first, c.requires.slot) in
    let at = slice_get_read w.desk.here.slots.items w.desk.here.slots.len (c.args.token.segment - 1) slot w.desk.here.slots.ok.0 within (rw c.segment-segment.ensures at c.index-slot.ensures) in
    let came = c.in-Err.ensures.arrives slot at in
    record {
      follows = (
        ap (λ (p : Token × TokenFault). p.0) came.1,
        λ m n s x sound common h travels its.
            token_comes_back g.D.Area m n s x sound w h c.arrive.new.self c.args.token c.requires.first slot at (c.is_empty.ensures.0 c.if-not-is_empty.false) travels its
            c.in-Err.token c.in-Err.fault c.in-Some.refusal (sym c.token_refusal.ensures ∙ c.in-Some.is) came,
      );
      whole = record { seats = ap vec_len came.2.seats; slots = same_len w.desk.here c.arrive.new.self.here came.2.slots };
      stands = λ other got some.
          let w = c.args.self.now in
          let slot = c.index-slot.result.now in
          let within : c.args.token.segment - 1 < w.desk.here.slots.len = omega (arith, c.requires.first, c.requires.slot) in
          let at = slice_get_read w.desk.here.slots.items w.desk.here.slots.len (c.args.token.segment - 1) slot w.desk.here.slots.ok.0 within (rw c.segment-segment.ensures at c.index-slot.ensures) in
          absurd (unseen slot other _ at got (c.is_empty.ensures.0 c.if-not-is_empty.false) some);
      names = of_arrive c.in-Err.fault slot.parts.applied c.args.token.seq (ap (λ (p : Token × TokenFault). p.1) came.1) c.in-Some.refusal (sym c.token_refusal.ensures ∙ c.in-Some.is);
      log = refl;
    }

pub returns-then-not-is_empty : goal.returns-then-not-is_empty
returns-then-not-is_empty g c = record {
  follows = (
    refl,
    λ m n s x sound common h travels its.
        let w = c.args.self.now in
        let slot = c.index-slot.result.now in
        let within : c.args.token.segment - 1 < w.desk.here.slots.len = omega (arith, c.requires.first, c.requires.slot) in
        let at = slice_get_read w.desk.here.slots.items w.desk.here.slots.len (c.args.token.segment - 1) slot w.desk.here.slots.ok.0 within (rw c.segment-segment.ensures at c.index-slot.ensures) in
        absurd (stands_here m n w.desk s c.args.token.segment slot h.desk c.requires.first at (λ none. true≢false (sym (c.is_empty.ensures.1 none) ∙ c.if-not-is_empty.true)) travels),
  );
  whole = record { seats = refl; slots = refl };
  stands = λ other got some. (refl, refl);
  names = refl;
  log = refl;
}

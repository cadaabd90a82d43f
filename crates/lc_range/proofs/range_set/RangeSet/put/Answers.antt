use Rattle.std.proofs.Common.{◌≡◌, ◌+◌, ◌-◌, ◌^◌, ◌<◌, ℕ, List, ◌∷◌, ◌++◌, length, take, drop, ap, sym, subst, ◌∙◌, arith}
use Rattle.lc_range.specs.RangeSet.{IsCanonical, EndWithin}
use Rattle.lc_range.specs.Walk.{merged}
use Rattle.lc_range.specs.declared.range.Range.{Range}
use Rattle.lc_range.proofs.AddLemmas.{canonical, ends, ok_gives, err_is_not_ok, no_room}
use Rattle.lc_range.proofs.RoomLemmas.{length_placed}
use Rattle.lc_range.proofs.range_set.RangeSet.put.Goals as goal
use Rattle.lc_range.proofs.range_set.RangeSet.put.Goals.{After-replace, Else-is_err}

-- a run in the place of those that the range touches
replaced_is : (c : After-replace) → c.replace.new.runs.items ≡ merged c.args.place.now.range c.args.self.now
replaced_is c =
    let place = c.args.place.now in
    c.replace.ensures.items ∙ ap (λ (l : List Range). take place.start l ++ place.run ∷ drop place.end l) c.self.view_is ∙ c.requires.place.added

pub invariant_of-self : goal.invariant_of-self
invariant_of-self c =
    let range : Range = c.args.place.now.range in
    let old : IsCanonical c.args.self.now = subst (λ (l : List Range). IsCanonical l) c.self.view_is c.self.invariant.canonical in
    let within : EndWithin c.args.self.now (2 ^ 32 - 1) = subst (λ (l : List Range). EndWithin l (2 ^ 32 - 1)) c.self.view_is c.self.invariant.ends in
    record {
      canonical = canonical c.args.self.now range c.replace.new.runs.items old c.requires.some (replaced_is c);
      ends = ends c.args.self.now range c.replace.new.runs.items (2 ^ 32 - 1) (replaced_is c) (omega (arith, c.requires.end)) within;
      few = omega (arith, ap length (replaced_is c), c.requires.room);
      inline = omega (arith, c.replace.ensures.capacity, c.self.invariant.inline);
    }

pub returns-then-place-clause-ok : goal.returns-then-place-clause-ok
returns-then-place-clause-ok c = replaced_is c

-- one run more

inserted_is : (c : Else-is_err) → c.insert.new.self.items ≡ merged c.args.place.now.range c.args.self.now
inserted_is c =
    let items = c.self.inside.runs.items in
    let place = c.args.place.now in
    let stored : c.insert.new.self.items ≡ take place.start items ++ place.run ∷ drop place.start items = ok_gives c.insert.result (sym c.is_err.ensures.value ∙ c.if-is_err.false) c.insert.ensures.ok in
    let same : place.start ≡ place.end = omega (arith, c.requires.place.ordered, c.if-place.false) in
    stored ∙ ap (λ (n : ℕ). take place.start items ++ place.run ∷ drop n items) same
    ∙ ap (λ (l : List Range). take place.start l ++ place.run ∷ drop place.end l) c.self.view_is ∙ c.requires.place.added

pub invariant_of-self-2 : goal.invariant_of-self-2
invariant_of-self-2 c =
    let range : Range = c.args.place.now.range in
    let old : IsCanonical c.args.self.now = subst (λ (l : List Range). IsCanonical l) c.self.view_is c.self.invariant.canonical in
    let within : EndWithin c.args.self.now (2 ^ 32 - 1) = subst (λ (l : List Range). EndWithin l (2 ^ 32 - 1)) c.self.view_is c.self.invariant.ends in
    record {
      canonical = canonical c.args.self.now range c.insert.new.self.items old c.requires.some (inserted_is c);
      ends = ends c.args.self.now range c.insert.new.self.items (2 ^ 32 - 1) (inserted_is c) (omega (arith, c.requires.end)) within;
      few = omega (arith, ap length (inserted_is c), c.requires.room);
      inline = omega (arith, c.insert.ensures.capacity, c.self.invariant.inline);
    }

pub returns-clause-ok : goal.returns-clause-ok
returns-clause-ok c = inserted_is c

pub returns-then-is_err-clause-memory : goal.returns-then-is_err-clause-memory
returns-then-is_err-clause-memory c =
    let items = c.self.inside.runs.items in
    let old_len : length items ≡ length c.args.self.now = ap length c.self.view_is in
    let full : c.self.inside.runs.capacity < length items + 1 =
    no_room (length items + 1) c.self.inside.runs.capacity (λ room. err_is_not_ok c.insert.result (sym c.is_err.ensures.value ∙ c.if-is_err.true) (c.insert.ensures.succeeds room)) in
    (omega (arith, full, old_len, c.self.invariant.inline), omega (arith, length_placed c.args.self.now c.args.place.now c.requires.place, c.requires.place.ordered, c.if-place.false))

use Rattle.std.proofs.Common.{◌≡◌, ℕ, ◌-◌, ◌*◌, ◌≤◌, [], ◌∷◌, ◌++◌, List, length, take, drop, sym, ◌∙◌, ap, subst, arith}
use Rattle.std.proofs.lemmas.List.{take_rest, length-take-le}
use Rattle.lc_record.specs.Record.{spelling}
use Rattle.lc_record.specs.Words.{words_of}
use Rattle.lc_record.specs.declared.record.Record.{Record}
use Rattle.lc_log.proofs.WalkBackLemmas.{FoundBack, EndsThere, end_within, none_back, ends_there, begins_it, all_back}
use Rattle.lc_log.proofs.walking_back.walk_back.Goals as goal

pub overflow_mul-end_place : goal.overflow_mul-end_place
overflow_mul-end_place c =
    let within : 8 * c.args.end_place ≤ length c.args.bytes.now = end_within c.args.bytes.now c.args.end_place c.requires.0 c.requires.1 in
    omega arith

pub slice_bounds-words_in-end : goal.slice_bounds-words_in-end
slice_bounds-words_in-end c = sym (length-take-le (8 * c.args.end_place) c.args.bytes.now (end_within c.args.bytes.now c.args.end_place c.requires.0 c.requires.1))

pub loop-end-init : goal.loop-end-init
loop-end-init c = record {
  back =
      subst (λ (l : List ℕ). FoundBack l c.new-records.result.items c.args.end_place) (sym c.in_ok-words.ensures.words)
      (subst (λ (l : List (ℕ × Record)). FoundBack (words_of (take (8 * c.args.end_place) c.args.bytes.now)) l c.args.end_place) (sym c.new-records.ensures.items)
      (none_back c.args.bytes.now c.args.end_place c.requires.0 c.requires.1));
  within = omega arith;
}

pub overflow_sub-place : goal.overflow_sub-place
overflow_sub-place c = (ends_there c.in_ok-words.words.items c.loop-end.records.items c.loop-end.end c.index.result.now c.loop-end.invariant.back (omega (arith, c.loop-end-test.true)) c.index.ensures).inside

pub unreachable-requires : goal.unreachable-requires
unreachable-requires c =
    let ends = ends_there c.in_ok-words.words.items c.loop-end.records.items c.loop-end.end c.index.result.now c.loop-end.invariant.back (omega (arith, c.loop-end-test.true)) c.index.ensures in
    let place : ℕ = c.loop-end.end - c.index.result.now in
    let rest : take (length c.deref.result.now - place) (drop place c.deref.result.now) ≡ drop place c.in_ok-words.words.items = take_rest c.deref.result.now place ∙ ap (drop place) c.deref.ensures.value in
    let none = rw c.in_default.is at c.in_ok-record.ensures.none in
    none ends.its (spelling ends.its) ends.rest ends.is (rest ∙ ends.text)

module _ (c : goal.In_ok-push) where
  ends : EndsThere c.in_ok-words.words.items c.loop-end.records.items c.loop-end.end c.index.result.now
  ends = ends_there c.in_ok-words.words.items c.loop-end.records.items c.loop-end.end c.index.result.now c.loop-end.invariant.back (omega (arith, c.loop-end-test.true)) c.index.ensures

pub loop-end-smaller : goal.loop-end-smaller
loop-end-smaller c = let e = ends c in omega (arith, e.some, e.inside)

pub loop-end-preserved : goal.loop-end-preserved
loop-end-preserved c =
    let place : ℕ = c.loop-end.end - c.index.result.now in
    let words : List ℕ = c.in_ok-words.words.items in
    let found = rw c.in-Some.is at c.in_ok-record.ensures.found in
    let rest : take (length c.deref.result.now - place) (drop place c.deref.result.now) ≡ drop place words = take_rest c.deref.result.now place ∙ ap (drop place) c.deref.ensures.value in
    let its : (ends c).its ≡ c.in-Some.record = begins_it words c.loop-end.records.items c.loop-end.end c.index.result.now (ends c) (take (length c.deref.result.now - place) (drop place c.deref.result.now)) c.in-Some.record c.in-Some._len rest found in
    record {
      back =
          subst (λ (l : List (ℕ × Record)). FoundBack words l place) (sym c.in_ok-push.ensures.items)
          (subst (λ (r : Record). FoundBack words (c.loop-end.records.items ++ (place, r) ∷ []) place) its (ends c).more);
      within = omega (arith, c.loop-end.invariant.within);
    }

pub returns-clause-back : goal.returns-clause-back
returns-clause-back c =
    all_back c.args.bytes.now c.args.end_place c.loop-end.records.items c.loop-end.end
    (subst (λ (l : List ℕ). FoundBack l c.loop-end.records.items c.loop-end.end) c.in_ok-words.ensures.words c.loop-end.invariant.back) (omega (arith, c.loop-end-test.false))

use Rattle.std.proofs.Common.{◌≡◌, ◌+◌, ◌-◌, ◌^◌, ◌∷◌, ℕ, List, length, get_or, take, drop, ap, sym, subst, ◌∙◌, refl, arith, rules, length-drop}
use Rattle.std.proofs.lemmas.List.{take_all, at_drop_more, drop_all}
use Rattle.std.proofs.lemmas.Result.{on_ok_weaker, on_err_weaker}
use Rattle.lc_range.specs.RangeSet.{EndWithin, IsCanonical}
use Rattle.lc_range.specs.Walk.{parts, piece}
use Rattle.lc_range.specs.Undo.{OldBytes, TakeMemory, first_bytes}
use Rattle.lc_range.specs.Copies.{with_copies}
use Rattle.lc_range.proofs.AddLemmas.{on_err_of}
use Rattle.lc_range.specs.declared.range.Range.{Range}
use Rattle.lc_range.proofs.GrowLemmas.{first_with_copies}
use Rattle.lc_range.proofs.OutsideLemmas.{AreFrom, Walked, walk_starts, walk_more, walk_ends, some_part, last_part, takes_part, same_front, behind_all, canonical_from, ends_from, from_place, either_way}
use Rattle.lc_range.proofs.undo.Undo.keep_outside.Goals as goal
use Rattle.lc_range.proofs.undo.Undo.keep_outside.Goals.{After-keep-2, else-loop-run-test, then-loop-run-test+then-is_before}

-- the runs that the walk goes over
abbrev tail : List Range → ℕ → List Range
tail runs i = take (length runs - i) (drop i runs)

tail_is : (runs : List Range) (i : ℕ) → tail runs i ≡ drop i runs
tail_is runs i = take_all (length runs - i) (drop i runs) (omega (arith, length-drop i runs))

pub loop-run-init : goal.loop-run-init
loop-run-init c =
    let runs = c.args.runs.now in
    let i = c.args.place.now.start in
    let range : Range = c.args.place.now.range in
    record {
      walked = walk_starts c.args.self.now c.args.image.now range (c.args.place.now.range.offset + c.args.place.now.range.len) i runs (tail runs i) (tail_is runs i) (omega (arith, c.requires.place.ordered, c.requires.place.within)) c.requires.place.before;
      canonical = subst (λ (l : List Range). IsCanonical l) (sym (tail_is runs i)) (canonical_from i runs c.requires.canonical);
      ends = subst (λ (l : List Range). EndWithin l (2 ^ 32 - 1)) (sym (tail_is runs i)) (ends_from i runs (2 ^ 32 - 1) c.requires.ends);
      from_place = subst (λ (l : List Range). AreFrom range l) (sym (tail_is runs i)) (from_place range runs i c.requires.place.before.1);
    }

pub returns-in_err-keep-clause-front : goal.returns-in_err-keep-clause-front
returns-in_err-keep-clause-front c =
    let runs = c.args.runs.now in
    let range : Range = c.args.place.now.range in
    λ n few. ap (first_bytes n) c.in_err-keep.ensures.err
    ∙ same_front c.args.self.now c.loop-run.self c.args.image.now range c.loop-run.from (c.args.place.now.range.offset + c.args.place.now.range.len) runs (drop c.loop-run.run-index (tail runs c.args.place.now.start)) c.loop-run.invariant.walked n few

pub returns-in_err-keep-clause-memory : goal.returns-in_err-keep-clause-memory
returns-in_err-keep-clause-memory c =
    let runs = c.args.runs.now in
    let items : List Range = tail runs c.args.place.now.start in
    let i = c.loop-run.run-index in
    let d : Range = record { segment = 0; offset = 0; len = 0 } in
    let run : Range = get_or items i d in
    let range : Range = c.args.place.now.range in
    let next : drop i items ≡ run ∷ drop (i + 1) items = at_drop_more (λ (l : List Range). l) items i d (omega (arith, c.loop-run-test.true)) in
    let walked = subst (λ (l : List Range). Walked c.args.self.now c.loop-run.self c.args.image.now c.args.place.now.range.segment c.args.place.now.range.offset c.loop-run.from (c.args.place.now.range.offset + c.args.place.now.range.len) runs l) next c.loop-run.invariant.walked in
    let canonical = subst (λ (l : List Range). IsCanonical l) next c.loop-run.invariant.canonical in
    let from = subst (λ (l : List Range). AreFrom range l) next c.loop-run.invariant.from_place in
    let some = some_part c.args.self.now c.loop-run.self c.args.image.now range c.loop-run.from (c.args.place.now.range.offset + c.args.place.now.range.len) runs run (drop (i + 1) items) walked refl canonical from.0
    (sym c.is_before.ensures ∙ c.if-is_before.false) c.in_err-keep.ensures.memory in
    search rules

pub loop-run-preserved : goal.loop-run-preserved
loop-run-preserved c =
    let runs = c.args.runs.now in
    let items : List Range = tail runs c.args.place.now.start in
    let i = c.loop-run.run-index in
    let d : Range = record { segment = 0; offset = 0; len = 0 } in
    let run : Range = get_or items i d in
    let range : Range = c.args.place.now.range in
    let next : drop i items ≡ run ∷ drop (i + 1) items = at_drop_more (λ (l : List Range). l) items i d (omega (arith, c.loop-run-test.true)) in
    let walked = subst (λ (l : List Range). Walked c.args.self.now c.loop-run.self c.args.image.now c.args.place.now.range.segment c.args.place.now.range.offset c.loop-run.from (c.args.place.now.range.offset + c.args.place.now.range.len) runs l) next c.loop-run.invariant.walked in
    let canonical = subst (λ (l : List Range). IsCanonical l) next c.loop-run.invariant.canonical in
    let ends = subst (λ (l : List Range). EndWithin l (2 ^ 32 - 1)) next c.loop-run.invariant.ends in
    let from = subst (λ (l : List Range). AreFrom range l) next c.loop-run.invariant.from_place in
    record {
      walked =
          walk_more c.args.self.now c.loop-run.self c.args.image.now range c.loop-run.from (c.args.place.now.range.offset + c.args.place.now.range.len) runs c.keep.new.self run (drop (i + 1) items) walked refl canonical from.0
          (sym c.is_before.ensures ∙ c.if-is_before.false) c.in_ok-keep.ensures.ok;
      canonical = canonical.2;
      ends = ends.1;
      from_place = from.1;
    }

-- no run is left that these positions touch
last : (c : After-keep-2) → parts c.args.place.now.range.segment c.loop-run.from (c.args.place.now.range.offset + c.args.place.now.range.len) (drop c.loop-run.run-index (tail c.args.runs.now c.args.place.now.start)) ≡ piece c.args.place.now.range.segment c.loop-run.from (c.args.place.now.range.offset + c.args.place.now.range.len)
last c =
    let items : List Range = tail c.args.runs.now c.args.place.now.start in
    let i = c.loop-run.run-index in
    let d : Range = record { segment = 0; offset = 0; len = 0 } in
    let range : Range = c.args.place.now.range in
    elim c.loop-run-test.branch [
      | else-loop-run-test w ↦ ap (parts c.args.place.now.range.segment c.loop-run.from (c.args.place.now.range.offset + c.args.place.now.range.len)) (drop_all i items (omega (arith, w.loop-run-test.false)))
      | then-loop-run-test+then-is_before w ↦
          let next : drop i items ≡ get_or items i d ∷ drop (i + 1) items = at_drop_more (λ (l : List Range). l) items i d (omega (arith, w.loop-run-test.true)) in
          ap (parts c.args.place.now.range.segment c.loop-run.from (c.args.place.now.range.offset + c.args.place.now.range.len)) next
          ∙ behind_all range (get_or items i d) (drop (i + 1) items) c.args.place.now.range.segment c.loop-run.from (c.args.place.now.range.offset + c.args.place.now.range.len) refl refl (sym w.is_before.ensures ∙ w.if-is_before.true)
          (subst (λ (l : List Range). IsCanonical l) next c.loop-run.invariant.canonical)
    ]

pub returns-clause-ok : goal.returns-clause-ok
returns-clause-ok c =
    let runs = c.args.runs.now in
    let range : Range = c.args.place.now.range in
    on_ok_weaker c.keep-2.result
    (walk_ends c.args.self.now c.loop-run.self c.args.image.now range c.loop-run.from (c.args.place.now.range.offset + c.args.place.now.range.len) runs c.keep-2.new.self (drop c.loop-run.run-index (tail runs c.args.place.now.start)) c.loop-run.invariant.walked (last c)) c.keep-2.ensures.ok

pub returns-clause-front : goal.returns-clause-front
returns-clause-front c =
    let runs = c.args.runs.now in
    let range : Range = c.args.place.now.range in
    let rest : List Range = drop c.loop-run.run-index (tail runs c.args.place.now.start) in
    let old = c.args.self.now in
    λ n few. either_way c.keep-2.result c.keep-2.ensures.ok c.keep-2.ensures.err
    (λ grows. ap (first_bytes n) (walk_ends old c.loop-run.self c.args.image.now range c.loop-run.from (c.args.place.now.range.offset + c.args.place.now.range.len) runs c.keep-2.new.self rest c.loop-run.invariant.walked (last c) grows)
    ∙ first_with_copies n old c.args.image.now (parts c.args.place.now.range.segment c.args.place.now.range.offset (c.args.place.now.range.offset + c.args.place.now.range.len) runs) few)
    (λ same. ap (first_bytes n) same ∙ same_front old c.loop-run.self c.args.image.now range c.loop-run.from (c.args.place.now.range.offset + c.args.place.now.range.len) runs rest c.loop-run.invariant.walked n few)

pub returns-clause-memory : goal.returns-clause-memory
returns-clause-memory c =
    let runs = c.args.runs.now in
    let range : Range = c.args.place.now.range in
    on_err_weaker c.keep-2.result
    (last_part c.args.self.now c.loop-run.self c.args.image.now range c.loop-run.from (c.args.place.now.range.offset + c.args.place.now.range.len) runs (drop c.loop-run.run-index (tail runs c.args.place.now.start)) c.loop-run.invariant.walked (last c)) c.keep-2.ensures.memory

pub returns-in_err-keep-clause-needs : goal.returns-in_err-keep-clause-needs
returns-in_err-keep-clause-needs c =
    let runs = c.args.runs.now in
    let items : List Range = tail runs c.args.place.now.start in
    let i = c.loop-run.run-index in
    let d : Range = record { segment = 0; offset = 0; len = 0 } in
    let run : Range = get_or items i d in
    let range : Range = c.args.place.now.range in
    let next : drop i items ≡ run ∷ drop (i + 1) items = at_drop_more (λ (l : List Range). l) items i d (omega (arith, c.loop-run-test.true)) in
    let walked = subst (λ (l : List Range). Walked c.args.self.now c.loop-run.self c.args.image.now c.args.place.now.range.segment c.args.place.now.range.offset c.loop-run.from (c.args.place.now.range.offset + c.args.place.now.range.len) runs l) next c.loop-run.invariant.walked in
    let canonical = subst (λ (l : List Range). IsCanonical l) next c.loop-run.invariant.canonical in
    let from = subst (λ (l : List Range). AreFrom range l) next c.loop-run.invariant.from_place in
    on_err_of c.from_residual.result
    (takes_part c.args.self.now c.loop-run.self c.args.image.now range c.loop-run.from (c.args.place.now.range.offset + c.args.place.now.range.len) runs run (drop (i + 1) items) walked refl canonical from.0
    (sym c.is_before.ensures ∙ c.if-is_before.false) c.in_err-keep.ensures.needs)

pub returns-clause-needs : goal.returns-clause-needs
returns-clause-needs c =
    let runs = c.args.runs.now in
    let range : Range = c.args.place.now.range in
    let image = c.args.image.now in
    on_err_weaker c.keep-2.result
    (subst (λ (l : List OldBytes). TakeMemory l)
    (walk_ends c.args.self.now c.loop-run.self image range c.loop-run.from (c.args.place.now.range.offset + c.args.place.now.range.len) runs (with_copies c.loop-run.self image (piece c.args.place.now.range.segment c.loop-run.from (c.args.place.now.range.offset + c.args.place.now.range.len)))
    (drop c.loop-run.run-index (tail runs c.args.place.now.start)) c.loop-run.invariant.walked (last c) refl))
    c.keep-2.ensures.needs

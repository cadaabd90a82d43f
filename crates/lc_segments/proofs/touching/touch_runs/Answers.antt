use Rattle.std.proofs.Common.{get_or, ◌≡◌, ◌+◌, ◌∷◌, [], ◌++◌, ◌∙◌, ap, sym, map, take, List, Some}
use Rattle.std.proofs.lemmas.List.{map-append, take_more, take_all}
use Rattle.lc_range.specs.declared.range.Range.{Range}
use Rattle.lc_record.specs.declared.record.RangeData.{RangeData}
use Rattle.lc_applied.specs.AppliedParts.{runs_of}
use Rattle.lc_segments.specs.Touched.{range_at, touched_pages}
use Rattle.lc_segments.proofs.RunParts.{runs_one, runs_other}
use Rattle.lc_segments.proofs.TouchedPages.{no_range, one_more_range, stands_on}
use Rattle.lc_segments.proofs.touching.touch_runs.Goals as goal

pub loop-run-init : goal.loop-run-init
loop-run-init c = λ t is. no_range t c.args.place.now is

pub touch_run-requires : goal.touch_run-requires
touch_run-requires c =
    let on = stands_on (map range_at (runs_of c.args.segment (take c.loop-run.run-index c.args.runs.now))) c.args.place.now c.loop-run.place c.requires.here c.requires.few c.loop-run.invariant in
    record { here = on.0; few = on.1 }

pub loop-run-preserved : goal.loop-run-preserved
loop-run-preserved c = λ t is.
    let runs : List Range = c.args.runs.now in let i = c.loop-run.run-index in let none : Range = record { segment = 0; offset = 0; len = 0 } in let run : Range = get_or runs i none in
    let front : List RangeData = map range_at (runs_of c.args.segment (take i runs)) in
    let more : take i runs ++ run ∷ [] ≡ take (i + 1) runs =
    sym (take_more runs i none c.loop-run-test.true) in
    let all : front ++ range_at run ∷ [] ≡ map range_at (runs_of c.args.segment (take (i + 1) runs)) =
    sym (map-append range_at (runs_of c.args.segment (take i runs)) (run ∷ []))
    ∙ (ap (λ (rs : List Range). map range_at rs) (sym (runs_one c.args.segment (take i runs) run c.if-run-segment.false))
    ∙ ap (λ (rs : List Range). map range_at (runs_of c.args.segment rs)) more) in
    one_more_range front (range_at run) t c.args.place.now c.loop-run.place c.touch_run.new.place (c.loop-run.invariant t is) c.touch_run.ensures
    ∙ ap (λ (rs : List RangeData). record c.args.place.now { token = Some (record t { pages = touched_pages rs t.seq t.pages }) }) all

pub loop-run-preserved-then-run-segment : goal.loop-run-preserved-then-run-segment
loop-run-preserved-then-run-segment c = λ t is.
    let runs : List Range = c.args.runs.now in let i = c.loop-run.run-index in let none : Range = record { segment = 0; offset = 0; len = 0 } in let run : Range = get_or runs i none in
    let more : take i runs ++ run ∷ [] ≡ take (i + 1) runs =
    sym (take_more runs i none c.loop-run-test.true) in
    let all : map range_at (runs_of c.args.segment (take i runs)) ≡ map range_at (runs_of c.args.segment (take (i + 1) runs)) =
    ap (λ (rs : List Range). map range_at rs) (sym (runs_other c.args.segment (take i runs) run c.if-run-segment.true))
    ∙ ap (λ (rs : List Range). map range_at (runs_of c.args.segment rs)) more in
    c.loop-run.invariant t is
    ∙ ap (λ (rs : List RangeData). record c.args.place.now { token = Some (record t { pages = touched_pages rs t.seq t.pages }) }) all

pub returns : goal.returns
returns c = λ t is.
    c.loop-run.invariant t is
    ∙ ap (λ (rs : List Range). record c.args.place.now { token = Some (record t { pages = touched_pages (map range_at (runs_of c.args.segment rs)) t.seq t.pages }) }) (take_all c.loop-run.run-index c.args.runs.now c.loop-run-test.false)

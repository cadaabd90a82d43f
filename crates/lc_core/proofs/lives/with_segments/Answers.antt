use Rattle.std.proofs.Common.{◌<◌, ◌≤◌, ◌++◌, ◌∷◌, [], List, drop, length, take, refl, sym, ap, ◌∙◌, arith}
use Rattle.std.proofs.lemmas.List.{append-nil, append_assoc, drop-drop, length-map, take_all}
use Rattle.lc_record.proofs.ListLemmas.{slice_get-map_some as get-map, left_first as first_left, left_some as some_left}
use Rattle.lc_core.specs.Pages.{areas_of}
use Rattle.lc_desk.specs.declared.pages.Pages.{Pages}
use Rattle.lc_core.proofs.Gathering.{take_next}
use Rattle.lc_core.proofs.lives.with_segments.Goals as goal

pub loop-init : goal.loop-init
loop-init g c = record { rest = refl; areas = sym (append-nil c.args.areas.items); count = omega arith; room = refl }

pub remove-area-requires : goal.remove-area-requires
remove-area-requires g c =
    let within : c.loop.counter < length c.args.segments.items = omega (arith, c.loop-test.true, c.loop.auto.counter-end, c.len-end.ensures, c.args.segments.ok.0) in
    let some = some_left c.args.segments.items c.loop.segments.items c.loop.counter c.loop.invariant.rest within in
    omega (arith, some, c.loop.segments.ok.0)

pub push_reserved-requires : goal.push_reserved-requires
push_reserved-requires g c = omega (arith, c.loop-test.true, c.loop.auto.counter-end, c.len-end.ensures, c.loop.invariant.count, c.loop.invariant.room, c.requires)

pub loop-preserved : goal.loop-preserved
loop-preserved g c =
    let h = c.loop.invariant in
    let within : c.loop.counter < length c.args.segments.items = omega (arith, c.loop-test.true, c.loop.auto.counter-end, c.len-end.ensures, c.args.segments.ok.0) in
    let at = first_left c.args.segments.items c.loop.segments.items c.loop.counter c.remove-area.result h.rest within c.remove-area.ensures.value in
    let area = get-map (λ (p : Pages g.row.D.Denot g.D.Area). p.area) c.args.segments.items c.loop.counter c.remove-area.result at in
    record {
      rest = c.remove-area.ensures.items ∙ ap (λ l. drop 1 l) h.rest ∙ drop-drop 1 c.loop.counter c.args.segments.items;
      areas = c.push_reserved.ensures.items ∙ ap (λ (l : List g.row.D.Denot). l ++ c.remove-area.result.area ∷ []) h.areas
          ∙ append_assoc c.args.areas.items (take c.loop.counter (areas_of g.D.Area c.args.segments.items)) (c.remove-area.result.area ∷ [])
          ∙ ap (λ (l : List g.row.D.Denot). c.args.areas.items ++ l) (sym (take_next c.loop.counter (areas_of g.D.Area c.args.segments.items) c.remove-area.result.area area));
      count = omega (arith, c.push_reserved.ensures.len, h.count);
      room = c.push_reserved.ensures.capacity ∙ h.room;
    }

pub returns : goal.returns
returns g c =
    let all : length (areas_of g.D.Area c.args.segments.items) ≤ c.loop.counter =
    omega (arith, length-map c.args.segments.items (λ (p : Pages g.row.D.Denot g.D.Area). p.area), c.loop-test.false, c.len-end.ensures, c.args.segments.ok.0) in
    c.loop.invariant.areas ∙ ap (λ (l : List g.row.D.Denot). c.args.areas.items ++ l) (take_all c.loop.counter (areas_of g.D.Area c.args.segments.items) all)

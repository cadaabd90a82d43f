use Rattle.std.proofs.Common.{◌≡◌, ◌+◌, ◌*◌, length, None, sym, ap, subst, ◌∙◌, arith}
use Rattle.std.specs.Prelude.{slice_get}
use Rattle.std.proofs.lemmas.List.{length-map, length-replicate}
use Rattle.lc_record.specs.declared.geometry.Geometry.{Geometry}
use Rattle.lc_record.proofs.ListLemmas.{slice_get-drop as at_drop}
use Rattle.lc_events.specs.Blank.{IsBlankNode, IsFilledNode}
use Rattle.lc_recover.specs.Reads.{HaveLengths}
use Rattle.lc_recover.proofs.Images.{count-areas}
use Rattle.lc_core.specs.Devices.{HaveSegments}
use Rattle.lc_journal.specs.Log.{area_of}
use Rattle.lc_desk.specs.declared.pages.Pages.{Pages}
use Rattle.lc_core.proofs.Devices.{each_have, rests_have, segments_have}
use Rattle.lc_core.specs.PageState.{AreAtRest}
use Rattle.lc_desk.proofs.Furnishing.{all_back, each_same}
use Rattle.lc_core.proofs.Furnishing.{named_none}
use Rattle.lc_desk.specs.declared.page_state.PageState.TheVariants.{AtRest}
use Rattle.lc_core.proofs.Opening.{filled_fresh, filled_whole, segment_len, segments_left}
use Rattle.lc_core.proofs.PageWrites.{named_rest, rests_all}
use Rattle.lc_core.proofs.world_room.WorldRoom.furnish.Goals as goal

pub fill_nodes-requires : goal.fill_nodes-requires
fill_nodes-requires g c = λ n node got.
    subst (λ h. IsBlankNode g.D.Area h n node) (sym c.requires.geometry)
    (c.args.self.blank n node (ap (λ l. slice_get l n) (sym c.as_mut_slice.ensures.value) ∙ got))

pub open_logs-areas-requires-clause-filled : goal.open_logs-areas-requires-clause-filled
open_logs-areas-requires-clause-filled g c =
    let are = all_back c.args.self.nodes.len c.fill_nodes.new.nodes _ (omega (arith, c.fill_nodes.auto.nodes, c.as_mut_slice.ensures.len)) in
    each_same (λ n node. IsFilledNode g.D.Area c.args.recovered n node) c.fill_nodes.new.nodes _ (c.as_mut_slice-2.ensures.value ∙ are) c.fill_nodes.ensures

pub invariant_of-running : goal.invariant_of-running
invariant_of-running g c =
    let are = all_back c.args.self.nodes.len c.open_logs-areas.new.nodes _ (omega (arith, c.open_logs-areas.auto.nodes, c.as_mut_slice-2.ensures.len)) in
    let none = ap length c.args.self.none ∙ length-replicate c.args.self.geometry.segments None in
    record {
      few = c.args.self.geometry.few_nodes;
      all_nodes = c.args.self.count;
      all_places = omega (arith, none, c.args.self.travelling.ok.0);
      whole = filled_whole g.D.Area c.args.recovered c.args.self.geometry _ c.requires.geometry
          (each_same (λ n node. IsFilledNode g.D.Area c.args.recovered n node) c.open_logs-areas.new.nodes _ are c.open_logs-areas.ensures.filled);
      named = named_none c.args.self.geometry.segments c.args.self.travelling.items c.args.self.none;
    }

pub with_areas-segments-requires-clause-place : goal.with_areas-segments-requires-clause-place
with_areas-segments-requires-clause-place g c =
    let left = segments_left g.D.Area c.args.recovered.geometry c.args.recovered.areas c.open_logs-areas.result.items c.requires.lengths c.open_logs-areas.ensures.areas in
    let segments = ap (λ (h : Geometry). h.segments) c.requires.geometry in
    omega (arith, left, segments, c.args.self.place, c.open_logs-areas.result.ok.0)

pub with_areas-segments-requires-clause-count : goal.with_areas-segments-requires-clause-count
with_areas-segments-requires-clause-count g c =
    let left = segments_left g.D.Area c.args.recovered.geometry c.args.recovered.areas c.open_logs-areas.result.items c.requires.lengths c.open_logs-areas.ensures.areas in
    let segments = ap (λ (h : Geometry). h.segments) c.requires.geometry in
    omega (arith, left, segments, c.args.self.all_segments, c.open_logs-areas.result.ok.0)

pub with_areas-segments-requires-clause-long : goal.with_areas-segments-requires-clause-long
with_areas-segments-requires-clause-long g c = λ k area states there got.
    let states_are = c.args.self.rest k states got in
    let pages = ap (λ (h : Geometry). h.pages) c.requires.geometry in
    let some = ap length states_are ∙ length-replicate c.args.self.geometry.pages AtRest in
    let at = at_drop c.args.recovered.geometry.nodes k c.args.recovered.areas in
    let len = segment_len g.D.Area c.args.recovered.geometry c.args.recovered.areas k area c.requires.lengths (sym at ∙ ap (λ areas. slice_get areas k) (sym c.open_logs-areas.ensures.areas) ∙ there) in
    omega (arith, some, len, pages, states.ok.0)

pub with_areas-segments-requires-clause-named : goal.with_areas-segments-requires-clause-named
with_areas-segments-requires-clause-named g c = λ k states got. named_rest c.args.self.geometry states.items (c.args.self.rest k states got)

pub returns-clause-rest : goal.returns-clause-rest
returns-clause-rest g c = rests_all g.D.Area c.args.recovered.geometry c.with_areas-segments.result.0.items c.args.self.writes.items c.with_areas-segments.ensures.writes
    (subst (λ (h : Geometry). AreAtRest h c.args.self.writes.items) (sym c.requires.geometry) c.args.self.rest)

pub returns-clause-fresh : goal.returns-clause-fresh
returns-clause-fresh g c =
    let are = all_back c.args.self.nodes.len c.open_logs-areas.new.nodes _ (omega (arith, c.open_logs-areas.auto.nodes, c.as_mut_slice-2.ensures.len)) in
    filled_fresh g.D.Area c.args.recovered _ c.open_logs-areas.new.nodes c.requires.geometry are c.open_logs-areas.ensures.filled c.open_logs-areas.ensures.log_areas
    (λ n node got. (c.open_logs-areas.ensures.logs c.requires.each n node got).0)
    (λ n node got. (c.open_logs-areas.ensures.logs c.requires.each n node got).1) c.args.self.none

pub returns-clause-log_areas : goal.returns-clause-log_areas
returns-clause-log_areas g c =
    let are = all_back c.args.self.nodes.len c.open_logs-areas.new.nodes _ (omega (arith, c.open_logs-areas.auto.nodes, c.as_mut_slice-2.ensures.len)) in
    each_same (λ n node. area_of g.D.Area node.journal.log ≡ slice_get c.args.recovered.areas n) c.open_logs-areas.new.nodes _ are c.open_logs-areas.ensures.log_areas

pub invariant_of-result-clause-all_segments : goal.invariant_of-result-clause-all_segments
invariant_of-result-clause-all_segments g c =
    let r = c.args.recovered in
    let left = segments_left g.D.Area r.geometry r.areas c.open_logs-areas.result.items c.requires.lengths c.open_logs-areas.ensures.areas in
    let count = ap length c.with_areas-segments.ensures.areas ∙ left in
    let mapped = length-map c.with_areas-segments.result.0.items (λ (p : Pages g.row.D.Denot g.D.Area). p.area) in
    omega (arith, mapped, count, ap (λ (h : Geometry). h.segments) c.requires.geometry, c.with_areas-segments.result.0.ok.0)

pub invariant_of-result-clause-logs : goal.invariant_of-result-clause-logs
invariant_of-result-clause-logs g c =
    let r = c.args.recovered in
    let are = all_back c.args.self.nodes.len c.open_logs-areas.new.nodes _ (omega (arith, c.open_logs-areas.auto.nodes, c.as_mut_slice-2.ensures.len)) in
    let count : length c.open_logs-areas.new.nodes ≡ r.geometry.nodes =
    omega (arith, c.open_logs-areas.auto.nodes, c.as_mut_slice-2.ensures.len, c.args.self.count, ap (λ (h : Geometry). h.nodes) c.requires.geometry) in
    each_have g.D.Area c.args.self.geometry r.areas c.open_logs-areas.new.nodes _ are
    (subst (λ (h : Geometry). HaveLengths g.D.Area h r.areas) c.requires.geometry c.requires.lengths) (count ∙ ap (λ (h : Geometry). h.nodes) c.requires.geometry) c.open_logs-areas.ensures.log_areas

pub invariant_of-result-clause-lengths : goal.invariant_of-result-clause-lengths
invariant_of-result-clause-lengths g c =
    let r = c.args.recovered in
    subst (λ (h : Geometry). HaveSegments g.D.Area (2 * 272 * h.pages) c.with_areas-segments.result.0.items) c.requires.geometry
    (segments_have g.D.Area r.geometry r.areas c.with_areas-segments.result.0.items c.requires.lengths (c.with_areas-segments.ensures.areas ∙ c.open_logs-areas.ensures.areas))

pub invariant_of-result-clause-none : goal.invariant_of-result-clause-none
invariant_of-result-clause-none g c = c.with_areas-segments.ensures.none

pub invariant_of-result-clause-room : goal.invariant_of-result-clause-room
invariant_of-result-clause-room g c =
    let all = count-areas g.D.Area c.args.recovered.geometry c.args.recovered.areas c.requires.lengths in
    omega (arith, c.with_areas-segments.ensures.room, c.open_logs-areas.ensures.room, all, ap (λ (h : Geometry). h.nodes + h.segments) c.requires.geometry)

pub invariant_of-result-clause-pages : goal.invariant_of-result-clause-pages
invariant_of-result-clause-pages g c = rests_have g.D.Area c.args.self.geometry c.args.recovered.geometry c.with_areas-segments.result.0.items c.requires.geometry
    (rests_all g.D.Area c.args.recovered.geometry c.with_areas-segments.result.0.items c.args.self.writes.items c.with_areas-segments.ensures.writes
    (subst (λ (h : Geometry). AreAtRest h c.args.self.writes.items) (sym c.requires.geometry) c.args.self.rest))

use Rattle.std.proofs.Common.{◌+◌, ◌*◌, length, Some, refl, sym, ap, subst, ◌∙◌, arith}
use Rattle.std.specs.Prelude.{slice_get}
use Rattle.std.specs.Option.{ForSome}
use Rattle.std.proofs.lemmas.List.{length-map, length-replicate}
use Rattle.lc_record.specs.declared.geometry.Geometry.{Geometry}
use Rattle.lc_events.specs.Blank.{IsBlankNode}
use Rattle.lc_core.specs.Pieces.{AreNodePieces}
use Rattle.lc_desk.specs.Pieces.{IsTokenOf}
use Rattle.lc_desk.specs.declared.page_state.PageState.TheVariants.{AtRest}
use Rattle.lc_desk.specs.declared.pages.Pages.{Pages}
use Rattle.lc_core.proofs.Adoptions.{made_adopted}
use Rattle.lc_core.proofs.Devices.{rests_have}
use Rattle.lc_desk.proofs.Furnishing.{all_back}
use Rattle.lc_core.proofs.PageWrites.{named_rest, rests_all}
use Rattle.lc_core.proofs.Pieces.{areas_have, left_back, made_back, made_logs, made_whole, tokens_left_by}
use Rattle.lc_core.proofs.world_room.WorldRoom.adopt.Goals as goal

pub adopt_nodes-requires-clause-blank : goal.adopt_nodes-requires-clause-blank
adopt_nodes-requires-clause-blank g c = λ n node got.
    subst (λ h. IsBlankNode g.D.Area h n node) (sym c.requires.geometry)
    (c.args.self.blank n node (ap (λ l. slice_get l n) (sym c.as_mut_slice.ensures.value) ∙ got))

pub adopt_nodes-requires-clause-pieces : goal.adopt_nodes-requires-clause-pieces
adopt_nodes-requires-clause-pieces g c = subst (λ (h : Geometry). AreNodePieces g.D.Area h.words c.args.pieces.items) (sym c.requires.geometry) c.requires.pieces

pub adopt_nodes-requires-clause-tokens : goal.adopt_nodes-requires-clause-tokens
adopt_nodes-requires-clause-tokens g c = λ k token got.
    subst (λ (h : Geometry). ForSome token (IsTokenOf h (k + 1))) (sym c.requires.geometry)
    (c.requires.tokens k token (ap (λ l. slice_get l k) (sym c.as_mut_slice-2.ensures.value) ∙ got))

pub with_areas-segments-requires-clause-long : goal.with_areas-segments-requires-clause-long
with_areas-segments-requires-clause-long g c = λ k area states there got.
    let some = ap length (c.args.self.rest k states got) ∙ length-replicate c.args.self.geometry.pages AtRest in
    omega (arith, some, c.requires.lengths k area there, states.ok.0)

pub with_areas-segments-requires-clause-named : goal.with_areas-segments-requires-clause-named
with_areas-segments-requires-clause-named g c = λ k states got. named_rest c.args.self.geometry states.items (c.args.self.rest k states got)

pub invariant_of-running : goal.invariant_of-running
invariant_of-running g c =
    let geometry = c.args.self.geometry in
    let segments = c.args.contents.now.pieces.items in
    let are = all_back c.args.self.nodes.len c.adopt_nodes.new.nodes _ (omega (arith, c.adopt_nodes.auto.nodes, c.as_mut_slice.ensures.len)) in
    let left_are = all_back c.args.tokens.len c.adopt_nodes.new.tokens _ (omega (arith, c.adopt_nodes.auto.tokens, c.as_mut_slice-2.ensures.len)) in
    let made = made_back g.D.Area geometry c.args.contents.now.geometry segments c.as_mut_slice-2.result.now c.args.tokens.items c.args.pieces.items c.adopt_nodes.new.nodes _ c.requires.geometry c.as_mut_slice-2.ensures.value are c.adopt_nodes.ensures.made in
    let left = left_back (length c.as_mut_slice.result.now) geometry.nodes segments c.as_mut_slice-2.result.now c.args.tokens.items c.adopt_nodes.new.tokens _ (omega (arith, c.as_mut_slice.ensures.len, c.args.self.count)) c.as_mut_slice-2.ensures.value left_are c.adopt_nodes.ensures.left in
    let count = ap length are in
    let left_count = ap length left_are in
    let places = ap (λ (h : Geometry). h.segments) c.requires.geometry in
    record {
      few = geometry.few_nodes;
      all_nodes = c.args.self.count;
      all_places = c.requires.all_tokens;
      whole = made_whole g.D.Area geometry segments c.args.tokens.items c.args.pieces.items _ (omega (arith, count, c.adopt_nodes.auto.nodes, c.as_mut_slice.ensures.len, c.args.self.count, c.requires.all_nodes, c.args.pieces.ok.0)) made;
      named = λ k token got. (tokens_left_by geometry geometry.nodes segments c.args.tokens.items _
          (omega (arith, c.args.contents.now.count, c.args.contents.now.pieces.ok.0, places, c.requires.all_tokens, c.args.tokens.ok.0))
          (omega (arith, left_count, c.adopt_nodes.auto.tokens, c.as_mut_slice-2.ensures.len, c.args.tokens.ok.0)) c.requires.tokens left k (Some token) got token refl).segment_is;
    }

pub invariant_of-result-clause-all_segments : goal.invariant_of-result-clause-all_segments
invariant_of-result-clause-all_segments g c =
    let count = ap length c.with_areas-segments.ensures.areas in
    let mapped = length-map c.with_areas-segments.result.0.items (λ (p : Pages g.row.D.Denot g.D.Area). p.area) in
    omega (arith, mapped, count, c.requires.all_segments, c.args.areas.ok.0, c.with_areas-segments.result.0.ok.0)

pub invariant_of-result-clause-logs : goal.invariant_of-result-clause-logs
invariant_of-result-clause-logs g c =
    let geometry = c.args.self.geometry in
    let segments = c.args.contents.now.pieces.items in
    let are = all_back c.args.self.nodes.len c.adopt_nodes.new.nodes _ (omega (arith, c.adopt_nodes.auto.nodes, c.as_mut_slice.ensures.len)) in
    let made = made_back g.D.Area geometry c.args.contents.now.geometry segments c.as_mut_slice-2.result.now c.args.tokens.items c.args.pieces.items c.adopt_nodes.new.nodes _ c.requires.geometry c.as_mut_slice-2.ensures.value are c.adopt_nodes.ensures.made in
    let count = ap length are in
    made_logs g.D.Area geometry segments c.args.tokens.items c.args.pieces.items _ (omega (arith, count, c.adopt_nodes.auto.nodes, c.as_mut_slice.ensures.len, c.args.self.count, c.requires.all_nodes, c.args.pieces.ok.0)) c.requires.pieces made

pub invariant_of-result-clause-lengths : goal.invariant_of-result-clause-lengths
invariant_of-result-clause-lengths g c = areas_have g.D.Area (2 * 272 * c.args.self.geometry.pages) c.args.areas.items c.with_areas-segments.result.0.items c.requires.lengths c.with_areas-segments.ensures.areas

pub invariant_of-result-clause-pages : goal.invariant_of-result-clause-pages
invariant_of-result-clause-pages g c = rests_have g.D.Area c.args.self.geometry c.args.self.geometry c.with_areas-segments.result.0.items refl
    (rests_all g.D.Area c.args.self.geometry c.with_areas-segments.result.0.items c.args.self.writes.items c.with_areas-segments.ensures.writes c.args.self.rest)

pub invariant_of-result-clause-none : goal.invariant_of-result-clause-none
invariant_of-result-clause-none g c = c.with_areas-segments.ensures.none

pub invariant_of-result-clause-room : goal.invariant_of-result-clause-room
invariant_of-result-clause-room g c = omega (arith, c.with_areas-segments.ensures.room, c.requires.room)

pub returns-clause-made : goal.returns-clause-made
returns-clause-made g c =
    let geometry = c.args.self.geometry in
    let segments = c.args.contents.now.pieces.items in
    let are = all_back c.args.self.nodes.len c.adopt_nodes.new.nodes _ (omega (arith, c.adopt_nodes.auto.nodes, c.as_mut_slice.ensures.len)) in
    let left_are = all_back c.args.tokens.len c.adopt_nodes.new.tokens _ (omega (arith, c.adopt_nodes.auto.tokens, c.as_mut_slice-2.ensures.len)) in
    record {
      geometry = refl;
      nodes = made_back g.D.Area geometry c.args.contents.now.geometry segments c.as_mut_slice-2.result.now c.args.tokens.items c.args.pieces.items c.adopt_nodes.new.nodes _ c.requires.geometry c.as_mut_slice-2.ensures.value are c.adopt_nodes.ensures.made;
      travelling = left_back (length c.as_mut_slice.result.now) geometry.nodes segments c.as_mut_slice-2.result.now c.args.tokens.items c.adopt_nodes.new.tokens _ (omega (arith, c.as_mut_slice.ensures.len, c.args.self.count)) c.as_mut_slice-2.ensures.value left_are c.adopt_nodes.ensures.left;
      areas_are = c.with_areas-segments.ensures.areas;
      rest = rests_all g.D.Area geometry c.with_areas-segments.result.0.items c.args.self.writes.items c.with_areas-segments.ensures.writes c.args.self.rest;
    }

pub returns-clause-adopted : goal.returns-clause-adopted
returns-clause-adopted g c = λ f found.
    made_adopted g.D.Area f c.args.contents.now c.args.tokens.items c.args.pieces.items c.args.areas.items c.args.self.geometry _ found c.requires.geometry
    (omega (arith, c.requires.all_nodes, c.args.pieces.ok.0)) (omega (arith, c.requires.all_tokens, c.args.tokens.ok.0)) (λ k area is. g.met.D.Area.reads_bytes area)
    (returns-clause-made g c)

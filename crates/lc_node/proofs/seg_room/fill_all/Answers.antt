use Rattle.std.proofs.Common.{rules, ◌≡◌, ℕ, ◌+◌, ◌<◌, Option, Some, length, refl, sym, ap, subst, ◌∙◌, arith}
use Rattle.std.specs.Prelude.{slice_get, slice_index_or}
use Rattle.std.proofs.lemmas.Option.{slice_get-get_or}
use Rattle.lc_lock.specs.Loans.{key_of}
use Rattle.lc_record.proofs.ListLemmas.{set_behind as unchanged_behind}
use Rattle.lc_node.specs.Rooms.{FitsRoom, IsFilledAt, IsOfSegment, side_on}
use Rattle.lc_node.specs.Shares.{has_token, left_at}
use Rattle.lc_node.specs.declared.fresh_segment.FreshSegment.{FreshSegment}
use Rattle.lc_node.proofs.EachPlace.{each_more, each_none, first_is, left_is}
use Rattle.lc_node.proofs.Taking.{changed_all, changed_more, taken_is}
use Rattle.lc_node.proofs.seg_room.fill_all.Goals as goal

pub loop-place-init : goal.loop-place-init
loop-place-init g c = record {
  rooms_left = omega arith;
  all_places = refl;
  filled = omega (arith, ap length c.requires.empty, c.args.fresh.ok.0);
  space = refl;
  rooms = λ k room got. (let same : k ≡ 0 + k = omega arith in ap (slice_get c.args.rooms.items) (sym same) ∙ got);
  taken = λ k within. absurd (omega (arith, within));
  rest = λ k behind. refl;
  in_order = each_none (λ k (s : FreshSegment g.row.D.Denot). key_of s.lock.lock ≡ k + 1) c.args.fresh.items c.requires.empty;
  done = each_none (λ k (s : FreshSegment g.row.D.Denot). IsFilledAt c.args.share.number c.args.share.nodes k c.args.rooms.items c.args.pages.now s) c.args.fresh.items c.requires.empty;
}

pub fill-requires-clause-room : goal.fill-requires-clause-room
fill-requires-clause-room g c =
    let inv = c.loop-place.invariant in
    let place = c.loop-place.place in
    let some : 0 < length c.loop-place.rooms.items = omega (arith, inv.rooms_left, c.loop-place-test.true, c.requires.count, c.loop-place.rooms.ok.0) in
    let same : place ≡ place + 0 = omega arith in
    let room_at = ap (slice_get c.args.rooms.items) same ∙ inv.rooms 0 c.remove-room.result (first_is c.loop-place.rooms.items c.remove-room.result some c.remove-room.ensures.value) in
    let its = c.requires.rooms place c.remove-room.result room_at in
    subst (λ (n : ℕ). IsOfSegment n c.remove-room.result) (sym its.key) its

pub fill-requires-clause-fits : goal.fill-requires-clause-fits
fill-requires-clause-fits g c =
    let inv = c.loop-place.invariant in
    let place = c.loop-place.place in
    let some : 0 < length c.loop-place.rooms.items = omega (arith, inv.rooms_left, c.loop-place-test.true, c.requires.count, c.loop-place.rooms.ok.0) in
    let same : place ≡ place + 0 = omega arith in
    let room_at = ap (slice_get c.args.rooms.items) same ∙ inv.rooms 0 c.remove-room.result (first_is c.loop-place.rooms.items c.remove-room.result some c.remove-room.ensures.value) in
    let within : place < length c.loop-place.pages = omega (arith, inv.all_places, c.loop-place-test.true) in
    let stood = slice_index_or c.loop-place.pages place c.index-pages-place.result in
    let there = slice_get-get_or c.loop-place.pages place c.index-pages-place.result within in
    taken_is (FitsRoom g.D.Area c.remove-room.result) (has_token c.args.share.number c.args.share.nodes (place + 1)) stood c.take-area.result c.take-area.ensures.taken
    (λ area is. c.requires.fits place c.remove-room.result area room_at (sym (inv.rest place (omega arith)) ∙ there ∙ ap (λ (o : Option g.row.D.Denot). Some o) is))

pub loop-place-preserved : goal.loop-place-preserved
loop-place-preserved g c =
    let inv = c.loop-place.invariant in
    let place = c.loop-place.place in
    let some : 0 < length c.loop-place.rooms.items = omega (arith, inv.rooms_left, c.loop-place-test.true, c.requires.count, c.loop-place.rooms.ok.0) in
    let same : place ≡ place + 0 = omega arith in
    let room_at = ap (slice_get c.args.rooms.items) same ∙ inv.rooms 0 c.remove-room.result (first_is c.loop-place.rooms.items c.remove-room.result some c.remove-room.ensures.value) in
    let within : place < length c.loop-place.pages = omega (arith, inv.all_places, c.loop-place-test.true) in
    let stood = slice_index_or c.loop-place.pages place c.index-pages-place.result in
    let there = slice_get-get_or c.loop-place.pages place c.index-pages-place.result within in
    let count : length c.loop-place.fresh.items ≡ place = omega (arith, inv.filled, c.loop-place.fresh.ok.0) in
    record {
      rooms_left = omega (arith, c.remove-room.ensures.len, inv.rooms_left);
      all_places = search rules;
      filled = omega (arith, c.push_reserved.ensures.len, inv.filled);
      space = omega (arith, c.push_reserved.ensures.capacity, inv.space);
      rooms = λ k room got.
          (let next : place + (1 + k) ≡ (place + 1) + k = omega arith in
          ap (slice_get c.args.rooms.items) (sym next) ∙ inv.rooms (1 + k) room (left_is c.loop-place.rooms.items c.remove-room.new.self.items k room c.remove-room.ensures.items got));
      taken = changed_more (left_at c.args.share.number c.args.share.nodes) c.args.pages.now c.loop-place.pages place stood c.take-area.new.place there c.take-area.ensures.left inv.taken inv.rest;
      rest = unchanged_behind c.args.pages.now c.loop-place.pages place c.take-area.new.place inv.rest;
      in_order = each_more (λ k (s : FreshSegment g.row.D.Denot). key_of s.lock.lock ≡ k + 1) c.push_reserved.new.self.items c.loop-place.fresh.items c.fill.result place
          c.push_reserved.ensures.items count inv.in_order (c.fill.ensures.key ∙ (c.requires.rooms place c.remove-room.result room_at).key);
      done = each_more (λ k (s : FreshSegment g.row.D.Denot). IsFilledAt c.args.share.number c.args.share.nodes k c.args.rooms.items c.args.pages.now s) c.push_reserved.new.self.items c.loop-place.fresh.items c.fill.result place
          c.push_reserved.ensures.items count inv.done
          (record {
            room = c.remove-room.result;
            area = stood;
            room_at = room_at;
            area_at = sym (inv.rest place (omega arith)) ∙ there;
            side = c.fill.ensures.side ∙ ap (side_on c.remove-room.result) c.take-area.ensures.taken;
          });
    }

pub returns-clause-shared : goal.returns-clause-shared
returns-clause-shared g c =
    let inv = c.loop-place.invariant in
    changed_all (left_at c.args.share.number c.args.share.nodes) c.args.pages.now c.loop-place.pages c.loop-place.place (omega (arith, c.loop-place-test.false)) inv.taken inv.rest

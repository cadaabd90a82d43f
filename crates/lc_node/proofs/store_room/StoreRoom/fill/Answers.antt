use Rattle.std.proofs.Common.{◌≡◌, ℕ, ◌+◌, ◌<◌, List, drop, length, Option, Some, sym, ap, subst, vec_len, ◌∙◌, arith}
use Rattle.std.specs.Prelude.{slice_get}
use Rattle.std.proofs.lemmas.Option.{slice_get_within}
use Rattle.lc_record.specs.declared.geometry.Geometry.{Geometry}
use Rattle.lc_stage.specs.Seats.{commit_view}
use Rattle.lc_stage.specs.declared.stage.Stage.{Stage}
use Rattle.lc_node.specs.FreshNode.{IsFreshNode}
use Rattle.lc_node.specs.Rooms.{AreFilled}
use Rattle.lc_node.specs.Shares.{AreRest, AreShared}
use Rattle.lc_node.specs.declared.fresh_node.FreshNode.{FreshNode}
use Rattle.lc_node.proofs.EachPlace.{each_more, each_none, first_is, left_is}
use Rattle.lc_node.proofs.FreshFits.{fits_log, fits_room, of_segment}
use Rattle.lc_node.proofs.FreshUp.{fresh_at}
use Rattle.lc_node.proofs.Sharing.{all_taken, rest_first, rest_next, stands}
use Rattle.lc_node.proofs.Taking.{all_back}
use Rattle.lc_node.proofs.store_room.StoreRoom.fill.Goals as goal

pub fill-requires-clause-log : goal.fill-requires-clause-log
fill-requires-clause-log g c =
    let inv = c.loop-number.invariant in
    let some : 0 < length c.loop-number.rooms.items = omega (arith, inv.rooms_left, c.loop-number-test.true, c.len-count.ensures, c.loop-number.rooms.ok.0) in
    let its = inv.rooms 0 c.remove-room.result (first_is c.loop-number.rooms.items c.remove-room.result some c.remove-room.ensures.value) in
    let r = c.args.recovered in
    let log : 0 < length c.loop-number.logs.items = omega (arith, inv.rooms_left, inv.logs_left, c.loop-number-test.true, c.len-count.ensures, c.requires.within, c.loop-number.logs.ok.0) in
    let node : c.loop-number.number < r.geometry.nodes = omega (arith, c.loop-number-test.true, c.len-count.ensures, c.requires.within) in
    let same : c.loop-number.number + 0 ≡ c.loop-number.number = omega arith in
    let there : slice_get r.areas c.loop-number.number ≡ Some c.remove-log.result =
    ap (slice_get r.areas) (sym same) ∙ inv.logs 0 c.remove-log.result (first_is c.loop-number.logs.items c.remove-log.result log c.remove-log.ensures.value) in
    fits_log g.D.Area r c.requires.lengths c.requires.finished c.loop-number.number c.remove-room.result.log.stage.room c.remove-log.result node its.words there

pub fill-requires-clause-count : goal.fill-requires-clause-count
fill-requires-clause-count g c =
    let inv = c.loop-number.invariant in
    let some : 0 < length c.loop-number.rooms.items = omega (arith, inv.rooms_left, c.loop-number-test.true, c.len-count.ensures, c.loop-number.rooms.ok.0) in
    let its = inv.rooms 0 c.remove-room.result (first_is c.loop-number.rooms.items c.remove-room.result some c.remove-room.ensures.value) in
    omega (arith, its.count, inv.page_count, c.as_mut_slice.ensures.len)

pub fill-requires-clause-few : goal.fill-requires-clause-few
fill-requires-clause-few g c =
    let inv = c.loop-number.invariant in
    let some : 0 < length c.loop-number.rooms.items = omega (arith, inv.rooms_left, c.loop-number-test.true, c.len-count.ensures, c.loop-number.rooms.ok.0) in
    let its = inv.rooms 0 c.remove-room.result (first_is c.loop-number.rooms.items c.remove-room.result some c.remove-room.ensures.value) in
    let few = c.args.recovered.geometry.few_segments in
    omega (arith, its.count, few)

pub fill-requires-clause-all_segments : goal.fill-requires-clause-all_segments
fill-requires-clause-all_segments g c =
    let inv = c.loop-number.invariant in
    let some : 0 < length c.loop-number.rooms.items = omega (arith, inv.rooms_left, c.loop-number-test.true, c.len-count.ensures, c.loop-number.rooms.ok.0) in
    let its = inv.rooms 0 c.remove-room.result (first_is c.loop-number.rooms.items c.remove-room.result some c.remove-room.ensures.value) in
    its.count ∙ sym (ap (λ (geometry : Geometry). geometry.segments) c.geometry-geometry.ensures)

pub fill-requires-clause-words : goal.fill-requires-clause-words
fill-requires-clause-words g c =
    let inv = c.loop-number.invariant in
    let some : 0 < length c.loop-number.rooms.items = omega (arith, inv.rooms_left, c.loop-number-test.true, c.len-count.ensures, c.loop-number.rooms.ok.0) in
    let its = inv.rooms 0 c.remove-room.result (first_is c.loop-number.rooms.items c.remove-room.result some c.remove-room.ensures.value) in
    its.words ∙ sym (ap (λ (geometry : Geometry). geometry.words) c.geometry-geometry.ensures)

pub fill-requires-clause-rooms : goal.fill-requires-clause-rooms
fill-requires-clause-rooms g c =
    let inv = c.loop-number.invariant in
    let some : 0 < length c.loop-number.rooms.items = omega (arith, inv.rooms_left, c.loop-number-test.true, c.len-count.ensures, c.loop-number.rooms.ok.0) in
    let its = inv.rooms 0 c.remove-room.result (first_is c.loop-number.rooms.items c.remove-room.result some c.remove-room.ensures.value) in
    λ place room got. of_segment c.args.recovered (place + 1) room (its.each place room got)

pub fill-requires-clause-fits : goal.fill-requires-clause-fits
fill-requires-clause-fits g c =
    let inv = c.loop-number.invariant in
    let some : 0 < length c.loop-number.rooms.items = omega (arith, inv.rooms_left, c.loop-number-test.true, c.len-count.ensures, c.loop-number.rooms.ok.0) in
    let its = inv.rooms 0 c.remove-room.result (first_is c.loop-number.rooms.items c.remove-room.result some c.remove-room.ensures.value) in
    let r = c.args.recovered in
    λ place room area room_is area_is.
    (let of = its.each place room room_is in
    let within : place < r.geometry.segments = omega (arith, slice_get_within c.remove-room.result.segments.items place room room_is, its.count, c.remove-room.result.segments.ok.0) in
    let there = stands r (vec_len c.args.self.nodes) c.loop-number.number c.loop-number.pages.items inv.pages place within area (ap (λ l. slice_get l place) (sym c.as_mut_slice.ensures.value) ∙ area_is) in
    fits_room g.D.Area r c.requires.lengths c.requires.finished place area there of.whole room of)

pub fill-requires-clause-none_filled : goal.fill-requires-clause-none_filled
fill-requires-clause-none_filled g c =
    let inv = c.loop-number.invariant in
    let some : 0 < length c.loop-number.rooms.items = omega (arith, inv.rooms_left, c.loop-number-test.true, c.len-count.ensures, c.loop-number.rooms.ok.0) in
    let its = inv.rooms 0 c.remove-room.result (first_is c.loop-number.rooms.items c.remove-room.result some c.remove-room.ensures.value) in
    its.none_filled

pub fill-requires-clause-room : goal.fill-requires-clause-room
fill-requires-clause-room g c =
    let inv = c.loop-number.invariant in
    let some : 0 < length c.loop-number.rooms.items = omega (arith, inv.rooms_left, c.loop-number-test.true, c.len-count.ensures, c.loop-number.rooms.ok.0) in
    let its = inv.rooms 0 c.remove-room.result (first_is c.loop-number.rooms.items c.remove-room.result some c.remove-room.ensures.value) in
    omega (arith, its.count, its.places)

pub fill-requires-clause-empty : goal.fill-requires-clause-empty
fill-requires-clause-empty g c =
    let inv = c.loop-number.invariant in
    let some : 0 < length c.loop-number.rooms.items = omega (arith, inv.rooms_left, c.loop-number-test.true, c.len-count.ensures, c.loop-number.rooms.ok.0) in
    let its = inv.rooms 0 c.remove-room.result (first_is c.loop-number.rooms.items c.remove-room.result some c.remove-room.ensures.value) in
    its.empty

pub fill-requires-clause-space : goal.fill-requires-clause-space
fill-requires-clause-space g c =
    let inv = c.loop-number.invariant in
    let some : 0 < length c.loop-number.rooms.items = omega (arith, inv.rooms_left, c.loop-number-test.true, c.len-count.ensures, c.loop-number.rooms.ok.0) in
    let its = inv.rooms 0 c.remove-room.result (first_is c.loop-number.rooms.items c.remove-room.result some c.remove-room.ensures.value) in
    omega (arith, its.count, its.space)

pub loop-number-init : goal.loop-number-init
loop-number-init g c = record {
  rooms_left = omega arith;
  logs_left = omega (arith, c.new-logs.ensures.log_count);
  page_count = c.new-logs.ensures.page_count;
  up = omega (arith, ap length c.requires.room.none_filled, c.args.self.fresh.ok.0);
  space = c.requires.room.seats;
  rooms = c.requires.room.each;
  logs = λ k area got. (let same : k ≡ 0 + k = omega arith in ap (slice_get c.args.recovered.areas) (sym same) ∙ c.new-logs.ensures.logs k area got);
  pages = rest_first c.args.recovered (vec_len c.args.self.nodes) c.new-logs.result.pages.items c.new-logs.ensures.pages;
  each = each_none (λ number (f : FreshNode g.row.D.Denot). IsFreshNode c.args.recovered (vec_len c.args.self.nodes) number f) c.args.self.fresh.items c.requires.room.none_filled;
}

pub loop-number-preserved : goal.loop-number-preserved
loop-number-preserved g c =
    let inv = c.loop-number.invariant in
    let number = c.loop-number.number in
    let nodes = vec_len c.args.self.nodes in
    let some : 0 < length c.loop-number.rooms.items = omega (arith, inv.rooms_left, c.loop-number-test.true, c.len-count.ensures, c.loop-number.rooms.ok.0) in
    let its = inv.rooms 0 c.remove-room.result (first_is c.loop-number.rooms.items c.remove-room.result some c.remove-room.ensures.value) in
    let r = c.args.recovered in
    let log : 0 < length c.loop-number.logs.items = omega (arith, inv.rooms_left, inv.logs_left, c.loop-number-test.true, c.len-count.ensures, c.requires.within, c.loop-number.logs.ok.0) in
    let same : number ≡ number + 0 = omega arith in
    let area_at : slice_get r.areas number ≡ Some c.remove-log.result =
    ap (slice_get r.areas) same ∙ inv.logs 0 c.remove-log.result (first_is c.loop-number.logs.items c.remove-log.result log c.remove-log.ensures.value) in
    let back = all_back c.loop-number.pages.len c.fill.new.pages (drop (length c.fill.new.pages) c.loop-number.pages.items) (omega (arith, c.fill.ensures.places, c.as_mut_slice.ensures.len)) in
    let share = c.new-share.result in
    let of_count : share.nodes ≡ nodes = omega (arith, c.new-share.ensures.nodes, c.len-count.ensures) in
    let before : c.as_mut_slice.result.now ≡ c.loop-number.pages.items = c.as_mut_slice.ensures.value in
    let shared : AreShared number nodes c.loop-number.pages.items c.fill.new.pages =
    subst (λ (l : List (Option g.row.D.Denot)). AreShared number nodes l c.fill.new.pages) before
    (subst (λ (n : ℕ). AreShared n nodes c.as_mut_slice.result.now c.fill.new.pages) c.new-share.ensures.number
    (subst (λ (n : ℕ). AreShared share.number n c.as_mut_slice.result.now c.fill.new.pages) of_count c.fill.ensures.shared)) in
    let rooms = c.remove-room.result.segments.items in
    let filled : AreFilled number nodes rooms c.loop-number.pages.items c.fill.result.segments.items =
    subst (λ (l : List (Option g.row.D.Denot)). AreFilled number nodes rooms l c.fill.result.segments.items) before
    (subst (λ (n : ℕ). AreFilled n nodes rooms c.as_mut_slice.result.now c.fill.result.segments.items) c.new-share.ensures.number
    (subst (λ (n : ℕ). AreFilled share.number n rooms c.as_mut_slice.result.now c.fill.result.segments.items) of_count c.fill.ensures.filled)) in
    let count : length rooms ≡ r.geometry.segments = omega (arith, its.count, c.remove-room.result.segments.ok.0) in
    let made : IsFreshNode r nodes number c.fill.result = record {
      own_number = c.fill.ensures.number ∙ c.new-share.ensures.number;
      geometry = c.fill.ensures.geometry ∙ c.geometry-geometry.ensures;
      room = ap (λ (stage : Stage). stage.room) c.fill.ensures.stage ∙ its.words;
      own_seat = c.fill.ensures.seat.0;
      new_seat = ap commit_view c.fill.ensures.seat.1 ∙ its.seat;
      area = c.remove-log.result;
      area_at = area_at;
      log = c.fill.ensures.log;
      count = c.fill.ensures.segments ∙ its.count;
      each = λ place s got. fresh_at r nodes number c.loop-number.pages.items inv.pages rooms its.each count place s (filled place s got);
    } in
    record {
      rooms_left = omega (arith, c.remove-room.ensures.len, inv.rooms_left);
      logs_left = omega (arith, c.remove-log.ensures.len, inv.logs_left);
      page_count = inv.page_count;
      up = omega (arith, c.push_reserved.ensures.len, inv.up);
      space = omega (arith, c.push_reserved.ensures.capacity, inv.space);
      rooms = λ k room got. inv.rooms (1 + k) room (left_is c.loop-number.rooms.items c.remove-room.new.self.items k room c.remove-room.ensures.items got);
      logs = λ k area got.
          (let next : number + (1 + k) ≡ (number + 1) + k = omega arith in
          ap (slice_get r.areas) (sym next) ∙ inv.logs (1 + k) area (left_is c.loop-number.logs.items c.remove-log.new.self.items k area c.remove-log.ensures.items got));
      pages = subst (AreRest r (number + 1) nodes) (sym {A = List (Option g.row.D.Denot)} back) (rest_next r nodes number c.loop-number.pages.items inv.pages c.fill.new.pages shared);
      each = each_more (λ place (f : FreshNode g.row.D.Denot). IsFreshNode r nodes place f) c.push_reserved.new.self.items c.loop-number.fresh.items c.fill.result number
          c.push_reserved.ensures.items (omega (arith, inv.up, c.loop-number.fresh.ok.0)) inv.each made;
    }

pub end_places-requires : goal.end_places-requires
end_places-requires g c =
    let inv = c.loop-number.invariant in
    let all : c.loop-number.number ≡ vec_len c.args.self.nodes = omega (arith, c.loop-number-test.false, c.loop-number.auto.number-end, c.len-count.ensures) in
    all_taken c.args.recovered (vec_len c.args.self.nodes) c.loop-number.pages.items
    (subst (λ (n : ℕ). AreRest c.args.recovered n (vec_len c.args.self.nodes) c.loop-number.pages.items) all inv.pages) c.requires.some (omega (arith, inv.page_count, c.loop-number.pages.ok.0))

pub returns : goal.returns
returns g c = record {
  count = omega (arith, c.loop-number.invariant.up, c.loop-number-test.false, c.loop-number.auto.number-end, c.len-count.ensures, c.loop-number.fresh.ok.0);
  each = c.loop-number.invariant.each;
}

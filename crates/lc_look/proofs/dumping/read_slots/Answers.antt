use Rattle.std.proofs.Common.{◌≡◌, ℕ, ◌*◌, Some, List, [], map, take, drop, get_or, sym, ◌∙◌, ap}
use Rattle.std.specs.Prelude.{slice_get}
use Rattle.std.proofs.lemmas.Option.{slice_get-get_or, get_or_from_slice_get}
use Rattle.lc_record.proofs.ListLemmas.{slice_get-map_some as get-map}
use Rattle.lc_look.proofs.DumpsShown.{left-one}
use Rattle.lc_look.proofs.dumping.read_slots.Goals as goal

pub read-requires : goal.read-requires
read-requires g c =
    c.requires.room (get_or c.args.areas.now c.args.place c.index-areas-place.result) (slice_get-get_or c.args.areas.now c.args.place c.index-areas-place.result c.requires.within)

pub returns-in_err-read-clause-left : goal.returns-in_err-read-clause-left
returns-in_err-read-clause-left g c =
    left-one g.D.Area c.args.areas.now c.args.place (get_or c.args.areas.now c.args.place c.index-areas-place.result) c.read.new.self
    (slice_get-get_or c.args.areas.now c.args.place c.index-areas-place.result c.requires.within)
    (record { honest = c.read.ensures.honest; len = c.read.ensures.len; same = c.read.ensures.same; same_dirty = c.read.ensures.same_dirty })

pub returns-clause-left : goal.returns-clause-left
returns-clause-left g c =
    left-one g.D.Area c.args.areas.now c.args.place (get_or c.args.areas.now c.args.place c.index-areas-place.result) c.read.new.self
    (slice_get-get_or c.args.areas.now c.args.place c.index-areas-place.result c.requires.within)
    (record { honest = c.read.ensures.honest; len = c.read.ensures.len; same = c.read.ensures.same; same_dirty = c.read.ensures.same_dirty })

pub returns-clause-slots : goal.returns-clause-slots
returns-clause-slots g c honest =
    let old = get_or c.args.areas.now c.args.place c.index-areas-place.result in
    let was : slice_get c.args.areas.now c.args.place ≡ Some old = slice_get-get_or c.args.areas.now c.args.place c.index-areas-place.result c.requires.within in
    c.in_ok-read.ensures.bytes (honest c.args.place old was)
    ∙ ap (λ (l : List ℕ). take 544 (drop (c.args.page * 544) l)) (sym (get_or_from_slice_get (map g.D.Area.now c.args.areas.now) c.args.place (g.D.Area.now old) [] (get-map g.D.Area.now c.args.areas.now c.args.place old was)))

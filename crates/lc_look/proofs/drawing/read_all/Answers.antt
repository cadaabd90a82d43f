use Rattle.std.proofs.Common.{ℕ, List, [], ◌∷◌, ◌∙◌, ◌≡◌, ◌<◌, ◌++◌, length, map, ap, arith}
use Rattle.std.proofs.lemmas.List.{map-append}
use Rattle.std.specs.Global.{Vec}
use Rattle.lc_record.specs.Lists.{items_of}
use Rattle.lc_look.proofs.PicturesRead.{bytes-read, left-read, length-read}
use Rattle.lc_look.proofs.drawing.read_all.Goals as goal

pub returns-in_err-bytes-clause-left : goal.returns-in_err-bytes-clause-left
returns-in_err-bytes-clause-left g c =
    left-read g.D.Area c.args.areas.now c.loop-place.areas c.loop-place.place c.index-areas-place.result c.read_area.new.area c.loop-place.invariant.left
    (omega (arith, c.loop-place-test.true, c.loop-place.auto.areas)) c.read_area.ensures.left

pub loop-place-preserved : goal.loop-place-preserved
loop-place-preserved g c =
    let within : c.loop-place.place < length c.loop-place.areas = omega (arith, c.loop-place-test.true, c.loop-place.auto.areas) in
    let bytes = c.in_ok-bytes.bytes.items in
    let pushed : items_of c.push_reserved.new.self.items ≡ items_of c.loop-place.all.items ++ bytes ∷ [] =
    ap items_of c.push_reserved.ensures.items ∙ map-append (λ (v : Vec ℕ). v.items) c.loop-place.all.items (c.in_ok-bytes.bytes ∷ []) in
    record {
      room = omega (arith, c.push_reserved.ensures.capacity, c.loop-place.invariant.room);
      count = omega (arith, c.push_reserved.ensures.len, c.loop-place.invariant.count, c.push_reserved.new.self.ok, c.loop-place.all.ok);
      left = left-read g.D.Area c.args.areas.now c.loop-place.areas c.loop-place.place c.index-areas-place.result c.read_area.new.area c.loop-place.invariant.left within c.read_area.ensures.left;
      lengths = ap (λ (l : List (List ℕ)). map (λ (b : List ℕ). length b) l) pushed ∙ map-append (λ (b : List ℕ). length b) (items_of c.loop-place.all.items) (bytes ∷ [])
          ∙ length-read g.D.Area c.args.areas.now c.loop-place.areas c.loop-place.place c.index-areas-place.result c.read_area.new.area c.loop-place.invariant.left within c.read_area.ensures.left
          (map (λ (b : List ℕ). length b) (items_of c.loop-place.all.items)) bytes c.loop-place.invariant.lengths c.in_ok-bytes.ensures.len;
      bytes = λ honest. pushed
          ∙ bytes-read g.D.Area c.args.areas.now c.loop-place.areas c.loop-place.place c.index-areas-place.result c.read_area.new.area c.loop-place.invariant.left within c.read_area.ensures.left
          (items_of c.loop-place.all.items) bytes c.loop-place.invariant.bytes c.in_ok-bytes.ensures.bytes honest;
    }

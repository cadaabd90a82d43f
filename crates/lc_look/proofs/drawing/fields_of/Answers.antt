use Rattle.std.proofs.Common.{ℕ, [], List, get_or, subst, sym, ap, ◌∙◌, ◌≡◌, arith, length, ◌<◌, ◌+◌, ◌*◌}
use Rattle.std.proofs.lemmas.List.{get_or-map, length-map}
use Rattle.std.specs.Global.{Vec}
use Rattle.lc_record.specs.Lists.{items_of}
use Rattle.lc_record.specs.declared.geometry.Geometry.{Geometry}
use Rattle.lc_look.specs.declared.segment_field.SegmentField.{SegmentField}
use Rattle.lc_recover.specs.Forecast.{sequence_of}
use Rattle.lc_look.specs.Draws.{AreEach, HaveBytes, IsFieldOf}
use Rattle.lc_look.proofs.PicturesRead.{each-more, segment-there}
use Rattle.lc_look.proofs.drawing.fields_of.Goals as goal

-- the area of a segment, as it is found
module _ (g h : Geometry) (same : h ≡ g) (areas : List (Vec ℕ)) (bytes : HaveBytes g (items_of areas)) (place : ℕ) (within : place < h.segments) where
  nodes : h.nodes ≡ g.nodes
  nodes = ap (λ (i : Geometry). i.nodes) same

  inside : place < g.segments
  inside = omega (arith, within, ap (λ (i : Geometry). i.segments) same)

  there : h.nodes + place < length areas
  there = omega (arith, (segment-there g (items_of areas) bytes place inside).0, nodes, length-map areas (λ (v : Vec ℕ). v.items))

  found : (default : Vec ℕ) (items : List ℕ) → items ≡ (get_or areas (h.nodes + place) default).items → items ≡ get_or (items_of areas) (g.nodes + place) []
  found default items is =
      is ∙ sym (get_or-map (λ (v : Vec ℕ). v.items) areas (h.nodes + place) default [] there) ∙ ap (λ (n : ℕ). get_or (items_of areas) (n + place) []) nodes

  long : (items : List ℕ) → items ≡ get_or (items_of areas) (g.nodes + place) [] → length items ≡ 2 * 272 * g.pages
  long items is = ap (λ (l : List ℕ). length l) is ∙ (segment-there g (items_of areas) bytes place inside).1

pub bounds-areas-geometry : goal.bounds-areas-geometry
bounds-areas-geometry c =
    there c.args.forecast.now.geometry c.geometry-geometry.result c.geometry-geometry.ensures.geometry c.args.areas.now c.requires c.loop-place.place c.loop-place-test.true

pub field_of-requires-clause-len : goal.field_of-requires-clause-len
field_of-requires-clause-len c =
    let g = c.args.forecast.now.geometry in
    let h = c.geometry-geometry.result in
    let same = c.geometry-geometry.ensures.geometry in
    let is = found g h same c.args.areas.now c.requires c.loop-place.place c.loop-place-test.true c.index-areas-geometry.result c.as_slice-area.result.now
    (c.as_slice-area.ensures.value ∙ ap (λ (v : Vec ℕ). v.items) c.index-areas-geometry.is) in
    long g h same c.args.areas.now c.requires c.loop-place.place c.loop-place-test.true c.as_slice-area.result.now is

pub loop-place-preserved : goal.loop-place-preserved
loop-place-preserved c =
    let g = c.args.forecast.now.geometry in
    let f = c.args.forecast.now in
    let areas = c.args.areas.now in
    let is = found g c.geometry-geometry.result c.geometry-geometry.ensures.geometry c.args.areas.now c.requires c.loop-place.place c.loop-place-test.true c.index-areas-geometry.result c.as_slice-area.result.now
    (c.as_slice-area.ensures.value ∙ ap (λ (v : Vec ℕ). v.items) c.index-areas-geometry.is) in
    let Such = λ (place : ℕ). IsFieldOf f.store g.pages (place + 1) (get_or (items_of areas) (g.nodes + place) []) (sequence_of f (place + 1)) in
    let own = subst (λ (l : List ℕ). IsFieldOf f.store g.pages (c.loop-place.place + 1) l (sequence_of f (c.loop-place.place + 1)) c.in_ok-field_of.field-0) is c.in_ok-field_of.ensures in
    subst (λ (l : List SegmentField). AreEach Such (c.loop-place.place + 1) l) (sym {A = List SegmentField} c.in_ok-push.ensures.items)
    (each-more Such c.loop-place.place c.loop-place.fields.items c.in_ok-field_of.field-0 c.loop-place.invariant own)

use Rattle.std.proofs.Common.{ℕ, subst, ap, arith}
use Rattle.std.proofs.lemmas.List.{length-map}
use Rattle.std.specs.Global.{Vec}
use Rattle.lc_record.specs.Lists.{items_of}
use Rattle.lc_record.specs.declared.geometry.Geometry.{Geometry}
use Rattle.lc_look.specs.Draws.{AreBarsOf}
use Rattle.lc_look.proofs.PicturesRead.{forecast-picture, logs-there}
use Rattle.lc_look.proofs.drawing.draw.Goals as goal

pub bars_of-requires : goal.bars_of-requires
bars_of-requires c =
    let nodes = ap (λ (g : Geometry). g.nodes) c.geometry-geometry.ensures.geometry in
    omega (arith, nodes, logs-there c.args.forecast.now.geometry (items_of c.args.areas.now) c.requires, length-map c.args.areas.now (λ (v : Vec ℕ). v.items))

pub returns : goal.returns
returns c =
    let same = c.geometry-geometry.ensures.geometry in
    let bars = subst (λ (nodes : ℕ). AreBarsOf nodes (items_of c.args.areas.now) c.in_ok-bars.bars.items) (ap (λ (g : Geometry). g.nodes) same) c.in_ok-bars.ensures in
    forecast-picture c.args.forecast.now (items_of c.args.areas.now) (record { geometry = c.geometry-geometry.result; bars = c.in_ok-bars.bars; fields = c.in_ok-fields.fields })
    c.geometry-geometry.ensures.merged same bars c.in_ok-fields.ensures

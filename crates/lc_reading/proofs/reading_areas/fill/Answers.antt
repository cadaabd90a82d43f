use Rattle.std.proofs.Common.{◌≡◌, length, ◌∙◌, arith}
use Rattle.std.proofs.lemmas.List.{take_all}
use Rattle.lc_recover.proofs.AreaLemmas.{on_ok}
use Rattle.lc_reading.specs.AsRead.{IsAsRead}
use Rattle.lc_reading.specs.Built.{IsSameArea}
use Rattle.lc_reading.proofs.reading_areas.fill.Goals as goal

pub returns-clause-read : goal.returns-clause-read
returns-clause-read g c =
    let old = c.args.area.now in
    let new = c.read.new.self in
    let same : IsSameArea g.D.Area old new = record { honest = c.read.ensures.honest; now = c.read.ensures.same; dirty = c.read.ensures.same_dirty } in
    let long : length c.read.new.buffer ≡ length (g.D.Area.now old) = omega (arith, c.read.auto.buffer, c.requires) in
    on_ok c.read.result _ (IsAsRead g.D.Area old new c.read.new.buffer) c.read.ensures.bytes (λ read. record {
      same = same;
      len = c.read.ensures.len;
      long = long;
      of_bytes = λ at. (let fits = c.type_inv.bytes at in omega (arith, fits));
      read = λ honest. read honest ∙ take_all (length c.args.bytes.now) (g.D.Area.now old) (omega (arith, c.requires));
    })

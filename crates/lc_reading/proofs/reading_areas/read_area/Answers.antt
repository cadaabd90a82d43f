use Rattle.std.proofs.Common.{ℕ, List, length, drop, sym, subst, arith}
use Rattle.lc_reading.specs.AsRead.{IsAsRead}
use Rattle.lc_desk.proofs.Furnishing.{all_back}
use Rattle.lc_reading.proofs.reading_areas.read_area.Goals as goal

pub returns-clause-read : goal.returns-clause-read
returns-clause-read g c =
    subst (λ (l : List ℕ). IsAsRead g.D.Area c.args.area.now c.fill.new.area l) (sym (all_back c.in_ok-bytes.bytes.len c.fill.new.bytes (drop (length c.fill.new.bytes) c.in_ok-bytes.bytes.items) (omega (arith, c.fill.auto.bytes, c.as_mut_slice.ensures.len)))) c.in_ok-fill.ensures.read

use Rattle.std.proofs.Common.{sym, ◌∙◌, ap}
use Rattle.lc_recover.specs.KeptAreas.{IsReadOf, IsReadWhole}
use Rattle.lc_recover.specs.Reads.{store_of}
use Rattle.lc_recover.proofs.AreasRead.{read-same, read-whole, same-store}
use Rattle.lc_recover.proofs.Going.{begun-going}
use Rattle.lc_recover.proofs.Images.{count-areas}
use Rattle.lc_recover.proofs.survey.Survey.read.Given.{Over}
use Rattle.lc_recover.proofs.survey.Survey.read.Goals as goal

pub read_all-requires : goal.read_all-requires
read_all-requires g c = (begun-going g.D.Area c.args.geometry.now c.args.areas.now c.in_default.ensures.right c.in_default.ensures.bytes).fits.0

module _ (g : Over) (c : goal.After-result-1 g) where
  of : IsReadOf g.D.Area c.args.geometry.now c.read_all.new.areas c.in_ok-read.read
  of = c.in_ok-read.ensures.read

  all : IsReadWhole c.args.geometry.now of.bytes c.in_ok-read.read
  all =
      read-whole g.D.Area c.args.geometry.now c.read_all.new.areas c.in_ok-read.read of
      (c.read_all.auto.areas ∙ count-areas g.D.Area c.args.geometry.now c.args.areas.now c.in_default.ensures.right)
      (c.in_ok-read.ensures.count ∙ sym c.read_all.auto.areas)

pub invariant_of-result : goal.invariant_of-result
invariant_of-result g c = record { bytes = (of g c).bytes; whole = all g c; counted = (of g c).counted }

pub returns-clause-read : goal.returns-clause-read
returns-clause-read g c honest =
    same-store c.args.geometry.now (of g c).bytes c.in_ok-read.read (all g c)
    ∙ ap (store_of c.args.geometry.now)
    (read-same g.D.Area c.args.geometry.now c.read_all.new.areas c.in_ok-read.read (of g c) (c.in_ok-read.ensures.count ∙ sym c.read_all.auto.areas) (c.read_all.ensures.honest honest)
    ∙ c.read_all.ensures.reads honest)

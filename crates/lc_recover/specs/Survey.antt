-- What was read of a store, as contracts see it.
use Rattle.std.specs.Prelude.{ℕ, List}
use Rattle.lc_record.specs.declared.geometry.Geometry.{Geometry}
use Rattle.lc_model.specs.Merge.{StoreText}
use Rattle.lc_recover.specs.KeptAreas.{IsCounted, IsReadWhole}
use Rattle.lc_recover.specs.Reading.{store_of}
use Rattle.lc_recover.specs.declared.read_areas.ReadAreas.{ReadAreas}

-- the records of each log and the pages of each segment
pub record Surveyed : Type 0 where
  pub geometry : Geometry
  pub store : StoreText

-- those that are kept
abbrev pub surveyed : Geometry → ReadAreas → Surveyed
surveyed g r = record { geometry = g; store = store_of r.kept.logs.items r.kept.segments.items }

-- all areas were read
pub record IsSurveyed (g : Geometry) (r : ReadAreas) : Type 0 where
  pub bytes : List (List ℕ)
  pub whole : IsReadWhole g bytes r
  pub counted : IsCounted r

-- What is told of a copy of a store.
use Rattle.std.specs.Prelude.{◌≡◌, ◌⊎◌, ℕ, List, []}
use Rattle.std.specs.Option.{unwrap_or}
use Rattle.lc_record.specs.Geometry.{HasNumbers, IsGeometry}
use Rattle.lc_record.specs.declared.geometry.Geometry.{Geometry}
use Rattle.lc_folder.specs.Growth.{Holds, IsLacking}
use Rattle.lc_tool.specs.Files.{NotOpened, TellsInit}
use Rattle.lc_tool.specs.Found.{TellsMisfit}
use Rattle.lc_tool.specs.declared.copying.NoCopySize.{NoCopySize}
use Rattle.lc_tool.specs.declared.copying.NoCopySize.TheVariants.{Lacking, NoStore}
use Rattle.lc_words.specs.declared.wanted.Wanted.{Wanted}

-- the numbers that are wanted over those of the store that was found
abbrev pub HasCopyNumbers : Geometry → Wanted → Geometry → Type 0
HasCopyNumbers found w g = HasNumbers g (unwrap_or w.nodes found.nodes) w.threads (unwrap_or w.segments found.segments) (unwrap_or w.pages found.pages) (unwrap_or w.words found.words)

-- a copy has this size: it has those numbers, and room for all of the store
abbrev pub IsCopySize : Geometry → Wanted → Geometry → Type 0
IsCopySize found w g = HasCopyNumbers found w g × Holds found g

-- or it has no size: the numbers are those of no store, or this is the first area for which it has no room
abbrev pub IsNoCopySize : Geometry → Wanted → NoCopySize → Type 0
IsNoCopySize found w (Lacking area) = (g : Geometry) × HasCopyNumbers found w g × IsLacking found g area
IsNoCopySize found w NoStore = IsGeometry (unwrap_or w.nodes found.nodes) w.threads (unwrap_or w.segments found.segments) (unwrap_or w.pages found.pages) (unwrap_or w.words found.words) → ⊥

-- what became of the making of the copy; or why none was made: what of the store's files does not fit, or why they are not opened, or that
-- the copy has no room, or is of no size
abbrev pub TellsCopied : List ℕ → ℕ → Type 0
TellsCopied text status = TellsInit text status ⊎ (TellsMisfit text status ⊎ (NotOpened text status ⊎ ((text ≡ []) × (status ≡ 2))))

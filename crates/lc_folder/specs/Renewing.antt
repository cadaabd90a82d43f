-- What the renewing of a store's files does in a folder.
use Rattle.std.specs.Prelude.{◌≡◌, None}
use Rattle.lc_folder.specs.Files.{Files}
use Rattle.lc_folder.specs.declared.file_name.FileName.{FileName}
use Rattle.lc_folder.specs.declared.store_name.StoreName.{StoreName}
use Rattle.lc_folder.specs.declared.store_name.StoreName.TheVariants.{File, Copy}

-- what stands under the names of the store's files is the same, byte for byte
abbrev pub KeepsFiles : Files → Files → Type 0
KeepsFiles old new = (name : FileName) → new (File name) ≡ old (File name)

-- a copy of a file stands under a name that was free, and nothing else has changed
pub record Copies (name : FileName) (old new : Files) : Type 0 where
  pub free : old (Copy name) ≡ None
  pub there : new (Copy name) ≡ old (File name)
  pub others : (other : StoreName) → (other ≡ Copy name → ⊥) → new other ≡ old other

-- the copy has taken the file's place, and nothing else has changed
pub record Replaces (name : FileName) (old new : Files) : Type 0 where
  pub there : new (File name) ≡ old (Copy name)
  pub gone : new (Copy name) ≡ None
  pub others : (other : StoreName) → (other ≡ File name → ⊥) → (other ≡ Copy name → ⊥) → new other ≡ old other

-- nothing stands under the name any more, and nothing else has changed
pub record Removes (name : StoreName) (old new : Files) : Type 0 where
  pub gone : new name ≡ None
  pub others : (other : StoreName) → (other ≡ name → ⊥) → new other ≡ old other

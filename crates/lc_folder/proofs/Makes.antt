-- What the making of a store's files has made, and taken away.
use Rattle.std.proofs.Common.{◌≡◌, ◌<◌, ◌≤◌, ℕ, ◌+◌, arith, sym, ◌∙◌, ap, inl, inr, Bool, false, None}
use Rattle.std.specs.Prelude.{Err}
use Rattle.std.proofs.lemmas.Bool.{cases_lt}
use Rattle.lc_record.specs.declared.geometry.Geometry.{Geometry}
use Rattle.lc_folder.specs.Files.{Files}
use Rattle.lc_folder.specs.Making.{ChangesAt, Inits, IsOther, MadeFirst, NoneTaken, new_at, new_count, new_name, new_name_at}
use Rattle.lc_folder.specs.declared.folder.FolderFault.{FolderFault}
use Rattle.lc_folder.specs.declared.making.Cause.TheVariants.{Folder}
use Rattle.lc_folder.specs.declared.making.Unmade.{Unmade}
use Rattle.lc_folder.specs.declared.new_file.NewFile.{NewFile}
use Rattle.lc_folder.specs.declared.store_name.StoreName.{StoreName}
use Rattle.lc_folder.proofs.Names.{new_name_at-injective, new_name_known}

module _ (g : Geometry) where
  -- a later file has a name of its own
  pub later_is_other : (count place : ℕ) → count ≤ place → IsOther g count (new_name_at g place)
  later_is_other count place behind earlier below same =
      let here : place ≡ earlier = new_name_at-injective g place earlier same in absurd (omega arith)

  pub fewer_is_other : (count more : ℕ) (other : StoreName) → count ≤ more → IsOther g more other → IsOther g count other
  fewer_is_other count more other few is place below = is place (omega arith)

  module _ (old : Files) (none : NoneTaken old) where
    -- nothing stands under the names of a new store's files
    pub none_there : (place : ℕ) → place < new_count g → old (new_name_at g place) ≡ None
    none_there place below = let known = new_name_known g place below in ap old known.2 ∙ none known.0 known.1

    -- what is not made yet is not there
    pub not_there_yet : (place : ℕ) (mid : Files) → place < new_count g → MadeFirst g place old mid → mid (new_name_at g place) ≡ None
    not_there_yet place mid below made = made.others (new_name_at g place) (later_is_other place place (omega arith)) ∙ none_there place below

    -- after a fault, what was made is taken away
    pub as_before : (count : ℕ) (new : Files) → count ≤ new_count g
        → ((other : StoreName) → IsOther g count other → new other ≡ old other)
        → ((place : ℕ) → place < count → new (new_name_at g place) ≡ None)
        → (place : ℕ) → place < new_count g → new (new_name_at g place) ≡ old (new_name_at g place)
    as_before count new few others gone place below =
        elim (cases_lt place count) [
          | inl made ↦ gone place made ∙ sym (none_there place below)
          | inr later ↦ others (new_name_at g place) (later_is_other count place later)
        ]

    pub stopped_making : (fault : FolderFault) (unmade : Unmade) (count : ℕ) (mid new : Files) (stable : StoreName → Bool) → unmade.cause ≡ Folder fault → count ≤ new_count g
        → ((other : StoreName) → IsOther g count other → mid other ≡ old other)
        → ((other : StoreName) → IsOther g count other → new other ≡ mid other)
        → (unmade.is_left ≡ false → (place : ℕ) → place < count → new (new_name_at g place) ≡ None)
        → Inits g old new stable (Err unmade)
    stopped_making fault unmade count mid new stable is few before behind gone =
        let others : (other : StoreName) → IsOther g count other → new other ≡ old other = λ other is_other. behind other is_other ∙ before other is_other in
        rw is (
          (λ other is_other. others other (fewer_is_other count (new_count g) other few is_other)),
          (λ clean. as_before count new few others (gone clean)),
        )

  -- where a file was begun, what has none of the names up to it is as it was
  pub begun_others : (place : ℕ) (file : NewFile) (old mid new : Files) → file ≡ new_at g place → MadeFirst g place old mid → ChangesAt (new_name file) mid new
      → (other : StoreName) → IsOther g (place + 1) other → new other ≡ old other
  begun_others place file old mid new is made changes other is_other =
      changes other (λ same. is_other place (omega arith) (same ∙ ap new_name is)) ∙ made.others other (fewer_is_other place (place + 1) other (omega arith) is_other)

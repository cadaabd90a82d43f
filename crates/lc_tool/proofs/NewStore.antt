-- What a script prints on a new store of zeros.
use Rattle.std.proofs.Common.{◌≡◌, ℕ, List, Option, refl, sym, subst, inl}
use Rattle.std.specs.Io.KnownBytes.{Appends}
use Rattle.lc_disk.specs.contracts.mem_area.MemAreaArea.TheImpl.{ghosts}
use Rattle.lc_disk.specs.declared.mem_area.MemArea.{MemArea}
use Rattle.lc_record.specs.declared.geometry.Geometry.{Geometry}
use Rattle.lc_model.specs.Recovered.{zero_content}
use Rattle.lc_model.specs.State.{Setting}
use Rattle.lc_recover.specs.Reads.{AllMergeTo, AreZeros, HaveLengths}
use Rattle.lc_recover.proofs.Blank.{zeros_all_merge}
use Rattle.lc_text.specs.Text.{no_memory_text}
use Rattle.lc_tool.specs.Asked.{RunsNew}
use Rattle.lc_tool.specs.Script.{Given}
use Rattle.lc_tool.specs.Store.{RunsStore}

-- what is promised of any areas, of zeros
pub new_runs : (g : Geometry) (areas : List MemArea) (script : Given) (held holds : Option (List ℕ)) (status : ℕ) → HaveLengths ghosts g areas → AreZeros ghosts areas
    → RunsStore ghosts g areas script held holds status → RunsNew g script held holds status
new_runs g areas script held holds status lengths zeros runs = λ x numbers none.
    let m : Setting = record { geometry = g; start = zero_content g } in
    runs m x refl (record {
      lengths = lengths;
      honest = λ area device there. refl;
      merges = subst (λ (n : ℕ → ℕ). AllMergeTo ghosts g areas (zero_content g) n) (sym numbers) (zeros_all_merge ghosts g areas lengths zeros);
      first = none;
    })

-- there was no memory for the areas
pub none_runs : (g : Geometry) (script : Given) (held holds : Option (List ℕ)) (status : ℕ) → (status ≡ 1) × Appends held holds no_memory_text → RunsNew g script held holds status
none_runs g script held holds status shown = λ x numbers none. (no_memory_text, inl (refl, shown.0), shown.1)

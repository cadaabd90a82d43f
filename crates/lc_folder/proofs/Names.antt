-- The files of a new store have names of their own, which are among those that some store gives.
use Rattle.std.proofs.Common.{◌≡◌, ◌<◌, ℕ, zero, suc, ◌+◌, ◌-◌, arith, refl, sym, ◌∙◌, subst, inl, inr}
use Rattle.std.proofs.lemmas.Bool.{cases_lt}
use Rattle.std.proofs.lemmas.Bool.Decides.{nat_tests}
use Rattle.lc_record.specs.declared.geometry.Geometry.{Geometry}
use Rattle.lc_folder.specs.Files.{name_at, store_name_at}
use Rattle.lc_folder.specs.Making.{new_count, new_name_at}
use Rattle.lc_folder.specs.declared.file_name.FileName.TheVariants.{Log, Segment}
use Rattle.lc_folder.specs.declared.store_name.StoreName.TheVariants.{File}

-- two areas with one name are one
pub name_at-injective : (g : Geometry) (i j : ℕ) → name_at g i ≡ name_at g j → i ≡ j
name_at-injective g i j e = grind (arith, nat_tests)

-- two files of a new store with one name are one
pub new_name_at-injective : (g : Geometry) (i j : ℕ) → new_name_at g i ≡ new_name_at g j → i ≡ j
new_name_at-injective g i j e = grind (arith, nat_tests, name_at-injective)

known_log : (node : ℕ) → node < 8 → store_name_at (2 + node) ≡ File (Log node)
known_log node few = grind (arith, nat_tests)

known_segment : (before : ℕ) → before < 16 → store_name_at (10 + before) ≡ File (Segment (before + 1))
known_segment before few = grind (arith, nat_tests)

named_log : (g : Geometry) (node : ℕ) → node < g.nodes → new_name_at g (node + 1) ≡ File (Log node)
named_log g node few = grind (arith, nat_tests)

named_segment : (g : Geometry) (before : ℕ) → new_name_at g (g.nodes + before + 1) ≡ File (Segment (before + 1))
named_segment g before = grind (arith, nat_tests)

-- it is one of the 50
pub new_name_known : (g : Geometry) (place : ℕ) → place < new_count g → (k : ℕ) × (k < 50) × (new_name_at g place ≡ store_name_at k)
new_name_known g zero below = (0, omega arith, refl)
new_name_known g (suc area) below =
    elim (cases_lt area g.nodes) [
      | inl log ↦ (
        2 + area,
        omega (arith, g.few_nodes),
        subst (λ (n : ℕ). new_name_at g n ≡ store_name_at (2 + area)) (omega arith)
            (named_log g area log ∙ sym (known_log area (omega (arith, g.few_nodes)))),
      )
      | inr segment ↦ let before = area - g.nodes in (
        10 + before,
        omega (arith, g.few_segments, below),
        subst (λ (n : ℕ). new_name_at g n ≡ store_name_at (10 + before)) (omega arith)
            (named_segment g before ∙ sym (known_segment before (omega (arith, g.few_segments, below)))),
      )
    ]

-- Areas in memory that are made one after another, each of zeros.
use Rattle.std.proofs.Common.{◌≡◌, ◌⊎◌, ℕ, zero, suc, ◌<◌, ◌≤◌, List, [], ◌∷◌, ◌++◌, map, length, replicate, Some, None, refl, sym, ap, subst, ◌∙◌, inl, inr, arith}
use Rattle.std.specs.Prelude.{slice_get, option_map}
use Rattle.std.proofs.lemmas.Bool.{cases_lt}
use Rattle.std.proofs.lemmas.List.{length-append, length-map, length-replicate}
use Rattle.std.proofs.lemmas.Option.{none-some, same_Some, slice_get-map, slice_get_past}
use Rattle.lc_disk.specs.Area.{IsClean}
use Rattle.lc_disk.specs.MemArea.{memory_dirty, memory_now}
use Rattle.lc_disk.specs.contracts.mem_area.MemAreaArea.TheImpl.{ghosts}
use Rattle.lc_disk.specs.declared.mem_area.MemArea.{MemArea}
use Rattle.lc_record.specs.declared.geometry.Geometry.{Geometry}
use Rattle.lc_record.proofs.ListLemmas.{slice_get_some as some_at}
use Rattle.lc_recover.specs.Reads.{AreZeros, HaveLengths, area_count, area_len}
use Rattle.lc_recover.proofs.Images.{len-none, len-some}

-- an area of zeros, as long as the geometry has it at this place
abbrev IsMade : Geometry → ℕ → MemArea → Type 0
IsMade g k area = (area_len g k ≡ Some (length (memory_now area))) × (memory_now area ≡ replicate (length (memory_now area)) 0) × IsClean (memory_dirty area)

pub record AreMade (g : Geometry) (areas : List MemArea) : Type 0 where
  pub each : (k : ℕ) (area : MemArea) → slice_get areas k ≡ Some area → IsMade g k area
  pub few : length areas ≤ area_count g

pub none_made : (g : Geometry) → AreMade g []
none_made g = record { each = λ k area there. absurd cc; few = omega arith }

get_pushed : {A : Type 0} (xs : List A) (y : A) (k : ℕ) (x : A) → slice_get (xs ++ y ∷ []) k ≡ Some x → (slice_get xs k ≡ Some x) ⊎ ((k ≡ length xs) × (y ≡ x))
get_pushed [] y zero x is = inr (refl, same_Some y x is)
get_pushed [] y (suc k) x is = absurd cc
get_pushed (z ∷ zs) y zero x is = inl is
get_pushed (z ∷ zs) y (suc k) x is = elim (get_pushed zs y k x is) [
  | inl got ↦ inl got
  | inr last ↦ inr (ap suc last.0, last.1)
]

-- there is an area at each place below their number
pub below_count : (g : Geometry) (k n : ℕ) → area_len g k ≡ Some n → k < area_count g
below_count g k n is = elim (cases_lt k (area_count g)) [
  | inl below ↦ below
  | inr above ↦ absurd (none-some n (sym (len-none g k above) ∙ is))
]

pub one_made : (g : Geometry) (areas : List MemArea) (area : MemArea) (n : ℕ) → AreMade g areas → area_len g (length areas) ≡ Some n → memory_now area ≡ replicate n 0
    → IsClean (memory_dirty area) → AreMade g (areas ++ area ∷ [])
one_made g areas area n made len bytes clean =
    let long : n ≡ length (memory_now area) = sym (length-replicate {A = ℕ} n 0) ∙ ap length (sym bytes) in
    let own : IsMade g (length areas) area = (len ∙ ap Some long, bytes ∙ ap (λ (k : ℕ). replicate k 0) long, clean) in
    record {
      each = λ k other there. elim (get_pushed areas area k other there) [
        | inl got ↦ made.each k other got
        | inr last ↦ subst (λ (d : MemArea). IsMade g k d) last.1 (subst (λ (j : ℕ). IsMade g j area) (sym last.0) own)
      ];
      few = omega (arith, below_count g (length areas) n len, length-append areas (area ∷ []));
    }

pub all_lengths : (g : Geometry) (areas : List MemArea) → AreMade g areas → area_len g (length areas) ≡ None → HaveLengths ghosts g areas
all_lengths g areas made none k = elim (cases_lt k (length areas)) [
  | inl below ↦
      (let one = some_at areas k below in
      slice_get-map (λ d. length (memory_now d)) areas k ∙ ap (option_map (λ (d : MemArea). length (memory_now d))) one.1 ∙ sym (made.each k one.0 one.1).0)
  | inr above ↦
      (let all : area_count g ≤ length areas = (elim (cases_lt (length areas) (area_count g)) [
        | inl fewer ↦ (let there = len-some g (length areas) fewer in absurd (none-some there.0 (sym none ∙ there.1)))
        | inr not_fewer ↦ not_fewer
      ]) in
      slice_get_past (map (λ d. length (memory_now d)) areas) k (omega (arith, above, length-map areas (λ (d : MemArea). length (memory_now d))))
      ∙ sym (len-none g k (omega (arith, all, above))))
]

pub all_zeros : (g : Geometry) (areas : List MemArea) → AreMade g areas → AreZeros ghosts areas
all_zeros g areas made k area there = (let one = made.each k area there in (one.1, one.2))

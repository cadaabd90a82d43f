-- The images of a segment, one node more.
use Rattle.std.proofs.Common.{◌≡◌, ◌==◌, ℕ, ◌+◌, ◌<◌, ◌≤◌, true, List, Some, length, eq-eqb, add-one, ap, sym, ◌∙◌, subst, arith}
use Rattle.std.specs.Prelude.{slice_get, slice_index_or}
use Rattle.std.proofs.lemmas.Bool.{cases_lt}
use Rattle.std.proofs.Common.{inl, inr}
use Rattle.std.proofs.lemmas.List.{get_or_default}
use Rattle.std.proofs.lemmas.Option.{same_Some as same_some}
use Rattle.lc_rest.specs.Merge.{number_at}
use Rattle.lc_reading.specs.declared.node_images.NodeImages.{NodeImages}

-- the number at a place
pub number_here : (xs : List ℕ) (place x : ℕ) → place < length xs → x ≡ slice_index_or xs place x → number_at xs (place + 1) ≡ x
number_here xs place x within is = ap (number_at xs) (add-one place) ∙ get_or_default xs place 0 x within ∙ sym is

pub within_more : (nodes : List NodeImages) (place seq n : ℕ) (now : NodeImages) → slice_get nodes n ≡ Some now → number_at now.applied.items (place + 1) ≤ seq
    → ((m : ℕ) (node : NodeImages) → m < n → slice_get nodes m ≡ Some node → number_at node.applied.items (place + 1) ≤ seq)
    → (m : ℕ) (node : NodeImages) → m < n + 1 → slice_get nodes m ≡ Some node → number_at node.applied.items (place + 1) ≤ seq
within_more nodes place seq n now there fits before m node less got = elim (cases_lt m n) [
  | inl earlier ↦ before m node earlier got
  | inr later ↦
      let same : m ≡ n = omega (arith, less, later) in
      let its : now ≡ node = same_some now node (sym there ∙ ap (slice_get nodes) (sym same) ∙ got) in
      subst (λ (x : NodeImages). number_at x.applied.items (place + 1) ≤ seq) its fits
]

pub there_more : (nodes : List NodeImages) (place seq here n : ℕ) (now : NodeImages) → slice_get nodes n ≡ Some now → ((n == here) ≡ true → number_at now.applied.items (place + 1) ≡ seq)
    → ((node : NodeImages) → here < n → slice_get nodes here ≡ Some node → number_at node.applied.items (place + 1) ≡ seq)
    → (node : NodeImages) → here < n + 1 → slice_get nodes here ≡ Some node → number_at node.applied.items (place + 1) ≡ seq
there_more nodes place seq here n now there fits before node less got = elim (cases_lt here n) [
  | inl earlier ↦ before node earlier got
  | inr later ↦
      let same : n ≡ here = omega (arith, less, later) in
      let its : now ≡ node = same_some now node (sym there ∙ ap (slice_get nodes) same ∙ got) in
      subst (λ (x : NodeImages). number_at x.applied.items (place + 1) ≡ seq) its (fits (eq-eqb n here same))
]

-- A draft that was lent and is as it was, and its next range.
use Rattle.std.proofs.Common.{◌≡◌, ◌∙◌, ◌<◌, ℕ, zero, suc, List, [], ◌∷◌, length, Some, ap, arith}
use Rattle.std.specs.Prelude.{slice_get}
use Rattle.lc_changes.specs.declared.draft.Draft.{Draft}
use Rattle.lc_c.specs.LentDraft.{with_draft}
use Rattle.lc_c.specs.declared.draft_handle.DraftHandle.{DraftHandle}

pub lent_same : (mid old : DraftHandle) (draft : Draft) → mid ≡ old → draft ≡ mid.value → with_draft mid draft ≡ old
lent_same mid old draft same is = ap (with_draft mid) is ∙ same

-- a list has a place where something is found
pub found_within : {A : Type 0} (xs : List A) (k : ℕ) (x : A) → slice_get xs k ≡ Some x → k < length xs
found_within [] k x is = absurd cc
found_within (first ∷ xs) zero x is = omega arith
found_within (first ∷ xs) (suc k) x is = (let behind : slice_get xs k ≡ Some x = cc in let less = found_within xs k x behind in omega (arith, less))

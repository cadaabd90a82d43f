-- What is read of a receipt's record.
use Rattle.std.proofs.Common.{◌≡◌, ℕ, List, length, Option, None, Some, sym, ap, subst, ◌∙◌, inl, inr}
use Rattle.std.specs.Prelude.{◌≢◌, ◌<◌, option_map}
use Rattle.std.proofs.lemmas.Bool.{cases_eq}
use Rattle.lc_stage.specs.Receipts.{IsReceiptOf}
use Rattle.lc_stage.specs.Staging.{Owns}
use Rattle.lc_stage.specs.declared.receipt.Receipt.{Receipt}
use Rattle.lc_stage.specs.declared.stage_view.Reservation.{Reservation}
use Rattle.lc_stage.specs.declared.stage_view.StageView.{StageView}
use Rattle.lc_log_side.specs.Among.{IsAmong}
use Rattle.lc_log_side.specs.LogView.{LogView}
use Rattle.lc_log_side.specs.declared.confirming.Confirmed.{Confirmed}
use Rattle.lc_log_side.specs.declared.confirming.Confirmed.TheVariants.{Here, Earlier}

pub apart : (answer : Confirmed) (index round : ℕ) → answer ≡ Here index → answer ≡ Earlier round → ⊥
apart answer index round here earlier = absurd cc

pub absent : {A : Type 0} (f : A → List ℕ) (o : Option A) (words : List ℕ) → o ≡ None → option_map f o ≡ Some words → ⊥
absent f None words none some = absurd cc
absent f (Some x) words none some = absurd cc

pub present : {A : Type 0} (f : A → List ℕ) (o : Option A) (x : A) (words : List ℕ) → o ≡ Some x → option_map f o ≡ Some words → f x ≡ words
present f None x words is some = absurd cc
present f (Some y) x words is some = let same : y ≡ x = cc in ap f (sym same) ∙ (let got : f y ≡ words = cc in got)

module _ {D : Type 0} (v : StageView) (receipt : Receipt) (log : LogView D) (answer : Confirmed)
    (here : receipt.round ≡ log.round → (index : ℕ) × (answer ≡ Here index) × ((r : Reservation) → Owns v.receipts r → IsReceiptOf r receipt → IsAmong log.stable index r.place r.words))
    (earlier : receipt.round ≢ log.round → (answer ≡ Earlier log.round) × (receipt.round < log.round)) where
  among : (index : ℕ) → answer ≡ Here index → (r : Reservation) → Owns v.receipts r → IsReceiptOf r receipt → IsAmong log.stable index r.place r.words
  among index is r own of = elim (cases_eq receipt.round log.round) [
    | inl same ↦ let h = here same in let first : answer ≡ Here h.0 = h.1 in let one : h.0 ≡ index = cc in subst (λ (i : ℕ). IsAmong log.stable i r.place r.words) one (h.2 r own of)
    | inr other ↦ absurd (apart answer index log.round is (earlier other).0)
  ]

  -- what was copied of the record that stands there is the record
  pub copied : (stable items : List ℕ) → stable ≡ log.stable → ((index : ℕ) (words : List ℕ) → IsAmong stable index receipt.place words → receipt.words ≡ length words → items ≡ words)
      → (index : ℕ) → answer ≡ Here index → (r : Reservation) → Owns v.receipts r → IsReceiptOf r receipt → items ≡ r.words
  copied stable items same copies index is r own of =
      copies index r.words (subst (λ (l : List ℕ). IsAmong l index receipt.place r.words) (sym same) (subst (λ (p : ℕ). IsAmong log.stable index p r.words) (sym of.1) (among index is r own of))) of.2

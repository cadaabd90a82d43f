-- Of a desk: what is applied at a node and what waits there changes, and nothing else of the numbers.
use Rattle.std.proofs.Common.{◌≡◌, ◌≢◌, ℕ, ◌+◌, List, Some, refl, sym, subst, ◌∙◌, inl, inr, arith}
use Rattle.std.specs.Prelude.{slice_get, slice_set}
use Rattle.std.proofs.lemmas.Bool.{cases_eq, eq-eqb, ne_eqb}
use Rattle.std.proofs.lemmas.List.{length-set}
use Rattle.std.proofs.lemmas.Option.{same_Some as same_some}
use Rattle.lc_record.specs.declared.part.Part.{Part}
use Rattle.lc_token.specs.declared.token.Token.{Token}
use Rattle.lc_model.specs.Moves.{update_at}
use Rattle.lc_model.specs.State.{Setting, State}
use Rattle.lc_settled.specs.Numbers.{Numbers}
use Rattle.lc_desk.specs.Places.{get_set_same, get_set_other}
use Rattle.lc_desk.specs.Slots.{Besides, Awaits, FitsToken, FitsSlot, FitsSlots}
use Rattle.lc_desk.proofs.Slotted.{slot_kept}

pub other_node : {A : Type 0} (table : ℕ → ℕ → A) (node segment : ℕ) (item : A) (other any : ℕ) → other ≢ node → update_at table node segment item other any ≡ table other any
other_node table node segment item other any differ = rw (ne_eqb other node differ) refl

pub other_segment : {A : Type 0} (table : ℕ → ℕ → A) (node segment : ℕ) (item : A) (other : ℕ) → other ≢ segment → update_at table node segment item node other ≡ table node other
other_segment table node segment item other differ = rw (eq-eqb node node refl, ne_eqb other segment differ) refl

-- the numbers with these of what is applied and what waits
abbrev pub gained : Numbers → (ℕ → ℕ → ℕ) → (ℕ → ℕ → List ℕ) → Numbers
gained x applied waiting = record x { applied = applied; waiting = waiting }

module _ (m : Setting) (s : State) (x : Numbers) (applied : ℕ → ℕ → ℕ) (waiting : ℕ → ℕ → List ℕ) where
  abbrev pub y : Numbers
  y = gained x applied waiting

  pub awaits_still : (segment : ℕ) (part : Part) → Awaits m s x segment part → Awaits m s y segment part
  awaits_still segment part h = record { place = h.place; whole = h.whole; found = h.found; part_is = h.part_is; closed = h.closed }

  pub token_still : (segment : ℕ) (token : Token) → FitsToken m segment token s x → FitsToken m segment token s y
  token_still segment token h = record { segment_is = h.segment_is; number = h.number; small = h.small; clean = h.clean; pages = h.pages; touched = h.touched; stable_is = h.stable_is; text_is = h.text_is; uncounted = h.uncounted }

  pub slot_still : (n segment : ℕ) (b : Besides) → applied n segment ≡ x.applied n segment → waiting n segment ≡ x.waiting n segment → FitsSlot m n segment b s x → FitsSlot m n segment b s y
  slot_still n segment b same_applied same_waiting h = slot_kept m n segment b s x s y same_applied same_waiting (omega arith) (awaits_still segment) (λ number within. refl)
      (λ token is. (refl, token_still segment token)) h

  -- one slot of a node, and its others as they were
  pub slots_gained : (n : ℕ) (bs : List Besides) (k : ℕ) (b next : Besides) → slice_get bs k ≡ Some b → FitsSlot m n (k + 1) next s y
      → ((segment : ℕ) → segment ≢ k + 1 → applied n segment ≡ x.applied n segment) → ((segment : ℕ) → segment ≢ k + 1 → waiting n segment ≡ x.waiting n segment)
      → FitsSlots m n bs s x → FitsSlots m n (slice_set bs k next) s y
  slots_gained n bs k b next at own same_applied same_waiting h = record {
    count = length-set bs k next ∙ h.count;
    each = λ j c got. elim (cases_eq j k) [
      | inl same ↦
          let there : slice_get (slice_set bs k next) k ≡ Some c = subst (λ (i : ℕ). slice_get (slice_set bs k next) i ≡ Some c) same got in
          subst (λ (i : ℕ). FitsSlot m n (i + 1) c s y) (sym same)
          (subst (λ (d : Besides). FitsSlot m n (k + 1) d s y) (same_some next c (sym (get_set_same bs k b next at) ∙ there)) own)
      | inr differ ↦
          let apart : j + 1 ≢ k + 1 = λ e. differ (omega (arith, e)) in
          slot_still n (j + 1) c (same_applied (j + 1) apart) (same_waiting (j + 1) apart) (h.each j c (sym (get_set_other bs k j next differ) ∙ got))
    ];
  }

-- What a step of a flush leaves of a log's room and of its ends.
use Rattle.std.proofs.Common.{◌≡◌, ℕ, ◌+◌, ◌*◌, ◌≤◌, true, false, length, Some, refl, sym, ap, subst, ◌∙◌, arith}
use Rattle.std.proofs.lemmas.Option.{same_Some as same_some}
use Rattle.lc_disk.specs.declared.area.Area.{Ghosts}
use Rattle.lc_journal.specs.declared.log.Log.{Log}
use Rattle.lc_journal.specs.declared.log.Log.TheVariants.{Idle, Written, Synced, Opened, Sealed, Closing, Emptied, Failed, Torn, Taken}
use Rattle.lc_journal.specs.Log.{HasRoom, MovesOn, CallsOnce, IsCalled, is_idle, is_failed, is_sealed, area_of, end_of, under_way, size, steps_of, taken_by}
use Rattle.lc_journal.specs.Journal.{acked_after}

module _ {D : Type 0} (a : Ghosts D) where
  pub size_of : (log : Log D a) (area : D) → area_of a log ≡ Some area → size a log ≡ length (a.now area)
  size_of (Idle log) area is = ap (λ (d : D). length (a.now d)) (same_some log.area area is)
  size_of (Written log) area is = ap (λ (d : D). length (a.now d)) (same_some log.area area is)
  size_of (Synced log) area is = ap (λ (d : D). length (a.now d)) (same_some log.area area is)
  size_of (Opened log) area is = ap (λ (d : D). length (a.now d)) (same_some log.area area is)
  size_of (Sealed log) area is = ap (λ (d : D). length (a.now d)) (same_some log.area area is)
  size_of (Closing log) area is = ap (λ (d : D). length (a.now d)) (same_some log.area area is)
  size_of (Emptied log) area is = ap (λ (d : D). length (a.now d)) (same_some log.area area is)
  size_of (Failed log) area is = ap (λ (d : D). length (a.now d)) (same_some log.area area is)
  size_of (Torn log) area is = ap (λ (d : D). length (a.now d)) (same_some log.area area is)
  size_of Taken area is = absurd cc

  called_size : (area : D) (new : Log D a) → IsCalled a area new → size a new ≡ length (a.now area)
  called_size area new h = size_of new h.after h.there ∙ h.device.same_length

  -- a log that has not failed had not, and its area is as long
  pub size_kept : (old new : Log D a) → CallsOnce a old new → is_failed a new ≡ false → (is_failed a old ≡ false) × (size a new ≡ size a old)
  size_kept (Idle log) new h up = (refl, called_size log.area new h)
  size_kept (Written log) new h up = (refl, called_size log.area new h)
  size_kept (Synced log) new h up = (refl, called_size log.area new h)
  size_kept (Opened log) new h up = (refl, called_size log.area new h)
  size_kept (Sealed log) new h up = (refl, called_size log.area new h)
  size_kept (Closing log) new h up = (refl, called_size log.area new h)
  size_kept (Emptied log) new h up = (refl, called_size log.area new h)
  size_kept (Failed log) new h up = absurd (subst (λ (l : Log D a). is_failed a l ≡ false → ⊥) (sym h) (λ e. absurd cc) up)
  size_kept (Torn log) new h up = absurd (subst (λ (l : Log D a). is_failed a l ≡ false → ⊥) (sym h) (λ e. absurd cc) up)
  size_kept Taken new h up = absurd (subst (λ (l : Log D a). is_failed a l ≡ false → ⊥) (sym h) (λ e. absurd cc) up)

  -- what fits after the records, fits where the next step takes it
  pub room_for : (log : Log D a) (end words all : ℕ) (waiting : ℕ) → end + words ≤ all
      → (is_failed a log ≡ false → 8 * all + 8 ≤ size a log)
      → (is_failed a log ≡ false → end_of a log ≡ end)
      → (is_failed a log ≡ false → is_idle a log ≡ false → under_way a log ≡ words)
      → (is_idle a log ≡ true → waiting ≡ words)
      → is_sealed a log ≡ false
      → HasRoom a log (taken_by a log waiting)
  room_for (Idle log) end words all waiting within fits ends way wait free up = omega (arith, within, fits refl, ends refl, wait refl)
  room_for (Written log) end words all waiting within fits ends way wait free up = omega (arith, within, fits refl, ends refl, way refl refl)
  room_for (Synced log) end words all waiting within fits ends way wait free up = omega (arith, within, fits refl, ends refl, way refl refl)
  room_for (Opened log) end words all waiting within fits ends way wait free up = omega (arith, within, fits refl, ends refl, way refl refl)
  room_for (Sealed log) end words all waiting within fits ends way wait free up = absurd cc
  room_for (Closing log) end words all waiting within fits ends way wait free up = absurd cc
  room_for (Emptied log) end words all waiting within fits ends way wait free up = absurd cc
  room_for (Failed log) end words all waiting within fits ends way wait free up = absurd cc
  room_for (Torn log) end words all waiting within fits ends way wait free up = absurd cc
  room_for Taken end words all waiting within fits ends way wait free up = absurd cc

  -- where the records end, by the steps that are done
  pub record EndsBy (log : Log D a) (end words : ℕ) : Type 0 where
    pub rest : steps_of a log ≡ 0 → end_of a log ≡ end + words
    pub moved : 1 ≤ steps_of a log → (end_of a log ≡ end) × (under_way a log ≡ words)

  pub ends_by : (old new : Log D a) (end words waiting : ℕ) → is_failed a new ≡ false → is_failed a old ≡ false → MovesOn a old waiting new
      → end_of a old ≡ end
      → (is_idle a old ≡ false → under_way a old ≡ words)
      → (is_idle a old ≡ true → waiting ≡ words)
      → is_sealed a old ≡ false
      → EndsBy new end words
  ends_by (Idle log) new end words waiting up was h ends way wait free = let to = h up in record {
    rest = λ none. absurd (omega (arith, none, to.0));
    moved = λ some. (to.1 ∙ ends, to.2 ∙ wait refl);
  }
  ends_by (Written log) new end words waiting up was h ends way wait free = let to = h up in record {
    rest = λ none. absurd (omega (arith, none, to.0));
    moved = λ some. (to.1 ∙ ends, to.2 ∙ way refl);
  }
  ends_by (Synced log) new end words waiting up was h ends way wait free = let to = h up in record {
    rest = λ none. absurd (omega (arith, none, to.0));
    moved = λ some. (to.1 ∙ ends, to.2 ∙ way refl);
  }
  ends_by (Opened log) new end words waiting up was h ends way wait free = let to = h up in record {
    rest = λ none. omega (arith, to.1, ends, way refl);
    moved = λ some. absurd (omega (arith, some, to.0));
  }
  ends_by (Sealed log) new end words waiting up was h ends way wait free = absurd cc
  ends_by (Closing log) new end words waiting up was h ends way wait free = absurd cc
  ends_by (Emptied log) new end words waiting up was h ends way wait free = absurd cc
  ends_by (Failed log) new end words waiting up was h ends way wait free = absurd cc
  ends_by (Torn log) new end words waiting up was h ends way wait free = absurd cc
  ends_by Taken new end words waiting up was h ends way wait free = absurd cc

  -- what is acknowledged, by the same
  pub end_is : (new : Log D a) (end words taken acked : ℕ) (span : ℕ → ℕ) → is_failed a new ≡ false → is_sealed a new ≡ false → EndsBy new end words
      → span acked ≡ end → span taken ≡ end + words → end_of a new ≡ span (acked_after a new taken acked)
  end_is (Idle log) end words taken acked span up free h first second = h.rest refl ∙ sym second
  end_is (Written log) end words taken acked span up free h first second = (h.moved (omega arith)).0 ∙ sym first
  end_is (Synced log) end words taken acked span up free h first second = (h.moved (omega arith)).0 ∙ sym first
  end_is (Opened log) end words taken acked span up free h first second = (h.moved (omega arith)).0 ∙ sym first
  end_is (Sealed log) end words taken acked span up free h first second = absurd cc
  end_is (Closing log) end words taken acked span up free h first second = absurd cc
  end_is (Emptied log) end words taken acked span up free h first second = absurd cc
  end_is (Failed log) end words taken acked span up free h first second = absurd cc
  end_is (Torn log) end words taken acked span up free h first second = absurd cc
  end_is Taken end words taken acked span up free h first second = absurd cc

  pub way_is : (new : Log D a) (end words taken acked : ℕ) (span : ℕ → ℕ) → is_failed a new ≡ false → is_idle a new ≡ false → is_sealed a new ≡ false → EndsBy new end words
      → span acked ≡ words → under_way a new ≡ span (acked_after a new taken acked)
  way_is (Idle log) end words taken acked span up busy free h is = absurd cc
  way_is (Written log) end words taken acked span up busy free h is = (h.moved (omega arith)).1 ∙ sym is
  way_is (Synced log) end words taken acked span up busy free h is = (h.moved (omega arith)).1 ∙ sym is
  way_is (Opened log) end words taken acked span up busy free h is = (h.moved (omega arith)).1 ∙ sym is
  way_is (Sealed log) end words taken acked span up busy free h is = absurd cc
  way_is (Closing log) end words taken acked span up busy free h is = absurd cc
  way_is (Emptied log) end words taken acked span up busy free h is = absurd cc
  way_is (Failed log) end words taken acked span up busy free h is = absurd cc
  way_is (Torn log) end words taken acked span up busy free h is = absurd cc
  way_is Taken end words taken acked span up busy free h is = absurd cc

  pub acked_between : (new : Log D a) (taken acked : ℕ) → acked ≤ taken → (acked ≤ acked_after a new taken acked) × (acked_after a new taken acked ≤ taken)
  acked_between (Idle log) taken acked few = (few, omega arith)
  acked_between (Written log) taken acked few = (omega arith, few)
  acked_between (Synced log) taken acked few = (omega arith, few)
  acked_between (Opened log) taken acked few = (omega arith, few)
  acked_between (Sealed log) taken acked few = (omega arith, few)
  acked_between (Closing log) taken acked few = (omega arith, few)
  acked_between (Emptied log) taken acked few = (omega arith, few)
  acked_between (Failed log) taken acked few = (omega arith, few)
  acked_between (Torn log) taken acked few = (omega arith, few)
  acked_between Taken taken acked few = (omega arith, few)

  -- what is acknowledged stays where the log does not come to rest
  pub acked_stays : (new : Log D a) (taken acked : ℕ) → is_idle a new ≡ false → acked_after a new taken acked ≡ acked
  acked_stays (Idle log) taken acked busy = absurd cc
  acked_stays (Written log) taken acked busy = refl
  acked_stays (Synced log) taken acked busy = refl
  acked_stays (Opened log) taken acked busy = refl
  acked_stays (Sealed log) taken acked busy = refl
  acked_stays (Closing log) taken acked busy = refl
  acked_stays (Emptied log) taken acked busy = refl
  acked_stays (Failed log) taken acked busy = refl
  acked_stays (Torn log) taken acked busy = refl
  acked_stays Taken taken acked busy = refl

  -- no flush begins a reset
  pub free_still : (old new : Log D a) (waiting : ℕ) → MovesOn a old waiting new → is_failed a old ≡ false → is_sealed a old ≡ false → is_failed a new ≡ false → is_sealed a new ≡ false
  free_still (Idle log) new waiting h was free up = (h up).3
  free_still (Written log) new waiting h was free up = (h up).3
  free_still (Synced log) new waiting h was free up = (h up).3
  free_still (Opened log) new waiting h was free up = (h up).3
  free_still (Sealed log) new waiting h was free up = absurd cc
  free_still (Closing log) new waiting h was free up = absurd cc
  free_still (Emptied log) new waiting h was free up = absurd cc
  free_still (Failed log) new waiting h was free up = absurd cc
  free_still (Torn log) new waiting h was free up = absurd cc
  free_still Taken new waiting h was free up = absurd cc

  pub sealed_works : (log : Log D a) → is_sealed a log ≡ true → is_failed a log ≡ false
  sealed_works (Idle log) is = absurd cc
  sealed_works (Written log) is = absurd cc
  sealed_works (Synced log) is = absurd cc
  sealed_works (Opened log) is = absurd cc
  sealed_works (Sealed log) is = refl
  sealed_works (Closing log) is = refl
  sealed_works (Emptied log) is = refl
  sealed_works (Failed log) is = absurd cc
  sealed_works (Torn log) is = absurd cc
  sealed_works Taken is = absurd cc

-- The calls of an area, each by its own clauses.
use Rattle.std.proofs.Common.{◌≡◌, ℕ, ◌+◌, Bool, true, false, List, length, refl, inl, inr}
use Rattle.std.specs.Prelude.{Result, Ok, Err, OnOk, OnErr, is_ok, if◌then◌else◌}
use Rattle.lc_disk.specs.Area.{BecomeDirty, IsSameOutside, overlaid}
use Rattle.lc_disk.specs.declared.area.Area.{Ghosts}
use Rattle.lc_log.specs.OneCall.{IsOneCall, Leaves}

module _ {D : Type 0} (a : Ghosts D) (old new : D) where
  pub write_call : {A E : Type 0} (result : Result A E) (at : ℕ) (bytes : List ℕ) → a.honest new ≡ a.honest old → length (a.now new) ≡ length (a.now old) → a.calls new ≡ a.calls old + 1
      → a.failures new ≡ (if is_ok result then a.failures old else a.failures old + 1) → OnOk result (a.honest old ≡ true → a.now new ≡ overlaid (a.now old) at bytes)
      → (a.honest old ≡ true → IsSameOutside at (length bytes) (a.now old) (a.now new)) → (a.honest old ≡ true → BecomeDirty at (length bytes) (a.dirty old) (a.dirty new))
      → IsOneCall a (is_ok result) old new
  write_call result at bytes honest same called counted written torn dirtied = record {
    honest = honest;
    same_length = same;
    called = called;
    counted = counted;
    leaves = λ is. its result written is;
  }
    where
      its : {A E : Type 0} (r : Result A E) → OnOk r (a.honest old ≡ true → a.now new ≡ overlaid (a.now old) at bytes) → a.honest old ≡ true → Leaves a (is_ok r) old new
      its (Ok x) wrote is = inl (record { at = at; bytes = bytes; now = wrote is; dirty = dirtied is })
      its (Err e) wrote is = inl (record { at = at; count = length bytes; now = torn is; dirty = dirtied is })

  pub sync_call : {A E : Type 0} (result : Result A E) → a.honest new ≡ a.honest old → length (a.now new) ≡ length (a.now old) → a.calls new ≡ a.calls old + 1
      → a.failures new ≡ (if is_ok result then a.failures old else a.failures old + 1) → (a.honest old ≡ true → a.now new ≡ a.now old) → OnOk result (a.honest old ≡ true → (k : ℕ) → a.dirty new k ≡ false)
      → OnErr result (a.honest old ≡ true → (k : ℕ) → a.dirty new k ≡ a.dirty old k) → IsOneCall a (is_ok result) old new
  sync_call result honest same called counted reads clean same_dirty = record {
    honest = honest;
    same_length = same;
    called = called;
    counted = counted;
    leaves = λ is. its result clean same_dirty is;
  }
    where
      its : {A E : Type 0} (r : Result A E) → OnOk r (a.honest old ≡ true → (k : ℕ) → a.dirty new k ≡ false) → OnErr r (a.honest old ≡ true → (k : ℕ) → a.dirty new k ≡ a.dirty old k) → a.honest old ≡ true
          → Leaves a (is_ok r) old new
      its (Ok x) stable kept is = inr (inl (record { now = reads is; clean = stable is }))
      its (Err e) stable kept is = inr (record { now = reads is; dirty = kept is })

  pub read_call : (ok : Bool) → a.honest new ≡ a.honest old → length (a.now new) ≡ length (a.now old) → a.calls new ≡ a.calls old + 1 → a.failures new ≡ (if ok then a.failures old else a.failures old + 1)
      → (a.honest old ≡ true → a.now new ≡ a.now old) → (a.honest old ≡ true → (k : ℕ) → a.dirty new k ≡ a.dirty old k) → IsOneCall a ok old new
  read_call ok honest same called counted reads same_dirty = record {
    honest = honest;
    same_length = same;
    called = called;
    counted = counted;
    leaves = λ is. its ok is;
  }
    where
      its : (b : Bool) → a.honest old ≡ true → Leaves a b old new
      its true is = inr (inr (record { now = reads is; dirty = same_dirty is }))
      its false is = inr (record { now = reads is; dirty = same_dirty is })

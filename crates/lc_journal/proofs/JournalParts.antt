-- A journal is what its parts are.
use Rattle.std.proofs.Common.{◌≡◌, ◌+◌, ◌*◌, ◌<◌, ◌≤◌, ◌^◌, true, false, length}
use native.Mathlib.Nat.{ℕ_set}
use native.Mathlib.Bridge.{le_prop}
use mathlib.Core.HLevel.{is_prop→PathP}
use Rattle.lc_disk.specs.declared.area.Area.{Ghosts}
use Rattle.lc_journal.specs.Records.{count_of, front_of, span_of}
use Rattle.lc_journal.specs.Log.{end_of, under_way, size, is_idle, is_sealed, is_failed}
use Rattle.lc_journal.specs.declared.journal.Journal.{Journal}

-- the parts are as they were
pub record SameJournal {D : Type 0} (a : Ghosts D) (old new : Journal D a) : Type 0 where
  pub log : new.log ≡ old.log
  pub group : new.group ≡ old.group
  pub words : new.words ≡ old.words
  pub records : new.records ≡ old.records
  pub dropped : new.dropped ≡ old.dropped
  pub trimmed : new.trimmed ≡ old.trimmed
  pub taken : new.taken ≡ old.taken
  pub acked : new.acked ≡ old.acked
  pub round : new.round ≡ old.round

pub same_journal : {D : Type 0} (a : Ghosts D) (w v : Journal D a) → SameJournal a w v → v ≡ w
same_journal a w v h = λ i. record {
  log = h.log i;
  group = h.group i;
  words = h.words i;
  records = h.records i;
  dropped = h.dropped i;
  trimmed = h.trimmed i;
  taken = h.taken i;
  acked = h.acked i;
  round = h.round i;
  kept = is_prop→PathP (λ j. (h.records j).before ≤ h.dropped j) (λ j. le_prop) v.kept w.kept i;
  kept_for_peers = is_prop→PathP (λ j. (h.records j).before ≤ h.trimmed j) (λ j. le_prop) v.kept_for_peers w.kept_for_peers i;
  dropped_acked = is_prop→PathP (λ j. h.dropped j ≤ h.acked j) (λ j. le_prop) v.dropped_acked w.dropped_acked i;
  trimmed_acked = is_prop→PathP (λ j. h.trimmed j ≤ h.acked j) (λ j. le_prop) v.trimmed_acked w.trimmed_acked i;
  acked_taken = is_prop→PathP (λ j. h.acked j ≤ h.taken j) (λ j. le_prop) v.acked_taken w.acked_taken i;
  taken_closed = is_prop→PathP (λ j. h.taken j ≤ front_of (h.records j)) (λ j. le_prop) v.taken_closed w.taken_closed i;
  group_room = is_prop→PathP (λ j. (h.group j).room ≡ h.words j) (λ j. ℕ_set _ _) v.group_room w.group_room i;
  short = is_prop→PathP (λ j. (h.group j).room < 2 ^ 32) (λ j. le_prop) v.short w.short i;
  log_room = is_prop→PathP (λ j. is_failed a (h.log j) ≡ false → 8 * (h.group j).room + 8 ≤ size a (h.log j))
      (λ j p q k up. le_prop (p up) (q up) k) v.log_room w.log_room i;
  room = is_prop→PathP (λ j. length (span_of (h.records j) (h.dropped j) (count_of (h.records j))) ≤ (h.group j).room) (λ j. le_prop) v.room w.room i;
  end = is_prop→PathP (λ j. is_failed a (h.log j) ≡ false → is_sealed a (h.log j) ≡ false → end_of a (h.log j) ≡ length (span_of (h.records j) (h.dropped j) (h.acked j)))
      (λ j p q k up free. ℕ_set _ _ (p up free) (q up free) k) v.end w.end i;
  under_way = is_prop→PathP (λ j. is_failed a (h.log j) ≡ false → is_idle a (h.log j) ≡ false → is_sealed a (h.log j) ≡ false → under_way a (h.log j) ≡ length (span_of (h.records j) (h.acked j) (h.taken j)))
      (λ j p q k up busy free. ℕ_set _ _ (p up busy free) (q up busy free) k) v.under_way w.under_way i;
  busy = is_prop→PathP (λ j. is_failed a (h.log j) ≡ false → is_idle a (h.log j) ≡ false → is_sealed a (h.log j) ≡ false → h.acked j < h.taken j)
      (λ j p q k up busy free. le_prop (p up busy free) (q up busy free) k) v.busy w.busy i;
  sealed = is_prop→PathP (λ j. is_sealed a (h.log j) ≡ true → count_of (h.records j) ≤ h.acked j) (λ j p q k is. le_prop (p is) (q is) k) v.sealed w.sealed i;
  emptied = is_prop→PathP (λ j. is_sealed a (h.log j) ≡ true → end_of a (h.log j) ≡ 0) (λ j p q k is. ℕ_set _ _ (p is) (q is) k) v.emptied w.emptied i;
  rounds = is_prop→PathP (λ j. h.round j < 2 ^ 48) (λ j. le_prop) v.rounds w.rounds i;
  one_more = is_prop→PathP (λ j. is_sealed a (h.log j) ≡ true → h.round j + 1 < 2 ^ 48) (λ j p q k is. le_prop (p is) (q is) k) v.one_more w.one_more i;
}

-- What a stop may leave of the log of a node: what the machine may cut its records at.
use Rattle.std.proofs.Common.{◌≡◌, ℕ, ◌<◌, ◌≤◌, true, List, [], ◌++◌, drop, take, Some, refl, sym, ap, subst, ◌∙◌, inl, inr, arith}
use Rattle.std.proofs.lemmas.Bool.{lt-ltb}
use Rattle.std.specs.Prelude.{◌⊎◌, nat_lt}
use Rattle.std.proofs.lemmas.Option.{same_Some as same_some}
use Rattle.lc_disk.specs.Area.{IsImage}
use Rattle.lc_disk.specs.declared.area.Area.{Ghosts}
use Rattle.lc_record.specs.Words.{words_of}
use Rattle.lc_record.specs.declared.record.Record.{Record}
use Rattle.lc_log.specs.InPlace.{records_in}
use Rattle.lc_log.specs.LogText.{IsLogText}
use Rattle.lc_log.specs.NodeLog.{LeavesOnly}
use Rattle.lc_log.proofs.InPlaceLemmas.{records_are}
use Rattle.lc_log.proofs.StateLemmas.{opening_image, rest_image}
use Rattle.lc_model.specs.State.{Setting, State}
use Rattle.lc_model.specs.Stops.{MayCutAt}
use Rattle.lc_model.specs.Stored.{Disks, IsLog, records_of}
use Rattle.lc_journal.specs.Journal.{FitsLog}
use Rattle.lc_journal.specs.Log.{Stands, HasReset, area_of}
use Rattle.lc_settled.specs.Numbers.{Numbers}
use Rattle.lc_journal.specs.Records.{KeptRecords}
use Rattle.lc_journal.specs.declared.log.Log.{Log}
use Rattle.lc_journal.specs.declared.log.Log.TheVariants.{Idle, Written, Synced, Opened, Sealed, Closing, Emptied, Failed, Torn, Taken}
use Rattle.lc_journal.proofs.Flushing.{more_stable}

-- the words are the text of the stable records, or of these and the group, from the third step of its flush on, or, while a
-- reset is under way, of none
abbrev pub IsOneOf : ℕ → ℕ → List Record → List Record → List ℕ → Type 0
IsOneOf reset steps stable group words = IsLogText words stable ⊎ (((3 ≤ steps) × IsLogText words (stable ++ group)) ⊎ ((0 < reset) × IsLogText words []))

-- a number that a stop may cut the node's records at, where these are read of its log
abbrev pub IsCutAt : Setting → State → Disks → ℕ → List Record → ℕ → Type 0
IsCutAt m s d node log number = MayCutAt s node number × IsLog m s d node number log

module _ {D : Type 0} (a : Ghosts D) where
  of_area : (P : List ℕ → Type 0) (one area : D) → Some one ≡ Some area → LeavesOnly a one P → LeavesOnly a area P
  of_area P one area is leaves = subst (λ (d : D). LeavesOnly a d P) (same_some one area is) leaves

  -- whatever a stop leaves reads as one of these
  leaves_one : (log : Log D a) (area : D) (reset steps : ℕ) (stable group : List Record) → area_of a log ≡ Some area → HasReset a log reset → Stands a log steps stable group
      → LeavesOnly a area (IsOneOf reset steps stable group)
  leaves_one (Idle log) area reset steps stable group is at stands = of_area (IsOneOf reset steps stable group) log.area area is
      (λ honest image left. inl (rest_image (a.now log.area) (a.dirty log.area) log.end stable (stands.2 honest) image left))
  leaves_one (Written log) area reset steps stable group is at stands = of_area (IsOneOf reset steps stable group) log.area area is
      (λ honest image left. inl (rest_image (a.now log.area) (a.dirty log.area) log.end stable (stands.1 honest).at_rest image left))
  leaves_one (Synced log) area reset steps stable group is at stands = of_area (IsOneOf reset steps stable group) log.area area is
      (λ honest image left. inl (rest_image (a.now log.area) (a.dirty log.area) log.end stable (stands.1 honest).0.at_rest image left))
  leaves_one (Opened log) area reset steps stable group is at stands = of_area (IsOneOf reset steps stable group) log.area area is
      (λ honest image left. elim (opening_image 165 (a.now log.area) (a.dirty log.area) log.end log.words stable group (stands.1 honest) image left) [
        | inl without ↦ inl without
        | inr whole ↦ inr (inl (omega (arith, stands.0), whole))
      ])
  leaves_one (Sealed log) area reset steps stable group is at stands = of_area (IsOneOf reset steps stable group) log.area area is
      (λ honest image left. inl (rest_image (a.now log.area) (a.dirty log.area) log.end stable (stands.2 honest) image left))
  leaves_one (Closing log) area reset steps stable group is at stands = of_area (IsOneOf reset steps stable group) log.area area is
      (λ honest image left. elim ((stands.2 honest).images image left) [
        | inl none ↦ inr (inr (omega (arith, at), none))
        | inr all ↦ inl all
      ])
  leaves_one (Emptied log) area reset steps stable group is at stands = of_area (IsOneOf reset steps stable group) log.area area is
      (λ honest image left. inr (inr (omega (arith, at), rest_image (a.now log.area) (a.dirty log.area) log.end [] (stands.2 honest) image left)))
  leaves_one (Failed log) area reset steps stable group is at stands = of_area (IsOneOf reset steps stable group) log.area area is
      (λ honest image left. elim (stands honest image left) [
        | inl without ↦ inl without
        | inr whole ↦ inr (inl whole)
      ])
  leaves_one (Torn log) area reset steps stable group is at stands = of_area (IsOneOf reset steps stable group) log.area area is
      (λ honest image left. elim (stands.2 honest image left) [
        | inl none ↦ inr (inr (at, none))
        | inr all ↦ inl all
      ])
  leaves_one Taken area reset steps stable group is at stands = absurd stands

  -- so the records that are read of it are those that some cut leaves
  pub log_cut : (m : Setting) (n : ℕ) (log : Log D a) (kept : KeptRecords) (dropped trimmed taken acked : ℕ) (s : State) (x : Numbers) (area : D)
      → FitsLog a m n log kept dropped trimmed taken acked s x → dropped ≤ acked → acked ≤ taken → x.disks.resetting n ≡ nat_lt 0 (x.reset n)
      → area_of a log ≡ Some area → a.honest area ≡ true → (image : List ℕ) → IsImage (a.now area) (a.dirty area) image
      → (number : ℕ) × IsCutAt m s x.disks n (records_in (words_of image)) number
  log_cut m n log kept dropped trimmed taken acked s x area h less few resets is honest image left =
      elim (leaves_one log area (x.reset n) (s.flush n).steps stable group is h.reset_is h.stands honest image left) [
        | inl without ↦ (s.ack n, (inl refl, inl (records_are words stable without ∙ stable_is)))
        | inr (inl whole) ↦ ((s.flush n).taken, (inr (whole.0, refl), inl (records_are words (stable ++ group) whole.1 ∙ all_is)))
        | inr (inr none) ↦ (s.ack n, (inl refl, inr (resets ∙ lt-ltb 0 (x.reset n) none.0, refl, records_are words [] none.1)))
      ]
    where
      words : List ℕ
      words = words_of image

      records : List Record
      records = records_of m s x.disks n

      stable : List Record
      stable = drop dropped (take acked records)

      group : List Record
      group = drop acked (take taken records)

      stable_is : stable ≡ drop (x.disks.dropped n) (take (s.ack n) records)
      stable_is = ap (λ k. drop k (take acked records)) h.dropped_is ∙ ap (λ k. drop (x.disks.dropped n) (take k records)) h.acked_is

      all_is : stable ++ group ≡ drop (x.disks.dropped n) (take (s.flush n).taken records)
      all_is =
          sym (more_stable records dropped acked taken less few)
          ∙ ap (λ k. drop k (take taken records)) h.dropped_is ∙ ap (λ k. drop (x.disks.dropped n) (take k records)) (sym h.taken_is)

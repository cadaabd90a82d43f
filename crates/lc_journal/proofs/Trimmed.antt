-- Of a journal: the published records that every node has applied are counted, and trimmed.
use Rattle.std.proofs.Common.{◌≡◌, ℕ, suc, ◌+◌, ◌-◌, ◌≤◌, true, false, List, [], ◌∷◌, length, All, Some, slice_get, sym, ap, ◌∙◌, arith}
use Rattle.std.specs.Prelude.{if◌then◌else◌}
use Rattle.std.proofs.lemmas.List.{length-map, length-replicate}
use Rattle.std.proofs.lemmas.List.Elements.{All-nil, All-cons, All-head, All-tail, All-weaker}
use Rattle.lc_record.specs.Content.{Content}
use Rattle.lc_record.specs.Geometry.{segment_len}
use Rattle.lc_record.specs.Recorded.{is_set, locks_of, record_of, records_from, counted}
use Rattle.lc_record.specs.Transaction.{Marks, Transaction, effect}
use Rattle.lc_record.specs.declared.record.Record.{Record}
use Rattle.lc_record.proofs.ListLemmas.{All-slice_get as got}
use Rattle.lc_model.specs.History.{transactions}
use Rattle.lc_model.specs.Merging.{is_from}
use Rattle.lc_model.specs.Sound.{Sound, IsProper}
use Rattle.lc_model.specs.State.{Setting, State}
use Rattle.lc_model.specs.Stored.{base, records_of}
use Rattle.lc_model.proofs.Lists.{All-filter_if}
use Rattle.lc_settled.specs.Numbers.{Numbers}
use Rattle.lc_journal.specs.Trimming.{IsKnown, AreKnown}

-- What a record has locks on

locks_known : (m : Setting) (numbers : ℕ → ℕ) (first : ℕ) (marks : Marks) → 1 ≤ first → first + length marks ≤ suc m.geometry.segments → All (IsKnown m) (locks_of numbers first marks)
locks_known m numbers first [] some few = All-nil (IsKnown m)
locks_known m numbers first (marks ∷ segments) some few =
    let here : first ≤ m.geometry.segments = omega (arith, few) in
    let above : 1 ≤ first + 1 = omega arith in
    let fewer : (first + 1) + length segments ≤ suc m.geometry.segments = omega (arith, few) in
    let next : All (IsKnown m) (locks_of numbers (first + 1) segments) = locks_known m numbers (first + 1) segments above fewer in
    elim (is_set marks) as (λ b. All (IsKnown m) (if b then record { segment = first; seq = numbers first + 1 } ∷ locks_of numbers (first + 1) segments else locks_of numbers (first + 1) segments)) [
      | true ↦ All-cons (IsKnown m) (record { segment = first; seq = numbers first + 1 }) (locks_of numbers (first + 1) segments) (some, here) next
      | false ↦ next
    ]

abbrev LocksKnown : Setting → Record → Type 0
LocksKnown m r = All (IsKnown m) r.locks

records_known : (m : Setting) (numbers : ℕ → ℕ) (content : Content) (ts : List Transaction) → All (IsProper m.geometry) ts → All (LocksKnown m) (records_from numbers content ts)
records_known m numbers content [] proper = All-nil (LocksKnown m)
records_known m numbers content (t ∷ ts) proper =
    let shaped = (All-head (IsProper m.geometry) t ts proper).shaped in
    let long : length t.marks ≡ m.geometry.segments =
    sym (length-map t.marks length) ∙ ap length shaped ∙ length-replicate m.geometry.segments (segment_len m.geometry) in
    let few : 1 + length t.marks ≤ suc m.geometry.segments = omega (arith, long) in
    let one : 1 ≤ 1 = omega arith in
    All-cons (LocksKnown m) (record_of numbers content t) (records_from (counted numbers t) (effect t content) ts)
    (locks_known m numbers 1 t.marks one few)
    (records_known m (counted numbers t) (effect t content) ts (All-tail (IsProper m.geometry) t ts proper))

pub known_at : (m : Setting) (n : ℕ) (s : State) (x : Numbers) (place : ℕ) (r : Record) → Sound m.geometry s → slice_get (records_of m s x.disks n) place ≡ Some r → AreKnown m r.locks
known_at m n s x place r sound is k lock at =
    let all : List Record = records_from x.disks.numbers (base m s) (transactions s.history) in
    let known : All (LocksKnown m) all = records_known m x.disks.numbers (base m s) (transactions s.history) sound.history_proper in
    let its : All (LocksKnown m) (records_of m s x.disks n) =
    All-filter_if (is_from n) (LocksKnown m) all (All-weaker (LocksKnown m) (λ q. is_from n q ≡ true → LocksKnown m q) (λ q holds passes. holds) all known) in
    got (IsKnown m) r.locks k lock (got (LocksKnown m) (records_of m s x.disks n) place r its is) at

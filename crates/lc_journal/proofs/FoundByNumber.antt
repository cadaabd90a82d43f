-- A record that is published, found by its number in the words that a journal keeps.
use Rattle.std.proofs.Common.{◌≡◌, ℕ, zero, suc, ◌+◌, ◌-◌, ◌<◌, ◌≤◌, List, [], ◌∷◌, map, length, take, drop, Some, slice_get, refl, sym, ap, subst, ◌∙◌, inl, inr, arith}
use Rattle.std.specs.List.{AllByRecursion}
use Rattle.std.proofs.lemmas.List.{append-nil, take-append-drop}
use Rattle.std.proofs.lemmas.Option.{same_Some as same_some}
use Rattle.lc_record.specs.Codec.{BeginsWith, BeginsNoRecord}
use Rattle.lc_record.specs.Record.{IsRecord, record_len, spelling}
use Rattle.lc_record.specs.declared.record.Record.{Record}
use Rattle.lc_record.proofs.RecordLemmas.{one_reading}
use Rattle.lc_record.proofs.ListLemmas.{slice_get-drop as at_drop}
use Rattle.lc_disk.specs.declared.area.Area.{Ghosts}
use Rattle.lc_log.specs.LogText.{IsWhole}
use Rattle.lc_model.specs.State.{Setting, State}
use Rattle.lc_model.specs.Stored.{records_of}
use Rattle.lc_journal.specs.Journal.{FitsLog}
use Rattle.lc_settled.specs.Numbers.{Numbers}
use Rattle.lc_journal.specs.Published.{IsFound}
use Rattle.lc_journal.specs.Records.{Spelled, KeptRecords, count_of}
use Rattle.lc_journal.specs.declared.log.Log.{Log}
use Rattle.lc_journal.specs.declared.publishing.Published.{Published}
use Rattle.lc_journal.specs.declared.publishing.Published.TheVariants.{Unknown, Trimmed, Record as Is}

pub whole_at : (records : List Record) (place : ℕ) (r : Record) → AllByRecursion IsWhole records → slice_get records place ≡ Some r → IsWhole r
whole_at [] place r whole is = absurd cc
whole_at (q ∷ records) zero r whole is = subst IsWhole (same_some q r is) whole.0
whole_at (q ∷ records) (suc place) r whole is = whole_at records place r whole.1 is

-- a record that is kept, and what is kept of it
record IsSpelled (rs : List Spelled) (records : List Record) (place : ℕ) : Type 0 where
  words : Spelled
  its : Record
  kept : slice_get rs place ≡ Some words
  found : slice_get records place ≡ Some its
  are : words.words ≡ spelling its

spelled_at : (rs : List Spelled) (records : List Record) (place : ℕ) → map (λ (r : Spelled). r.words) rs ≡ map spelling records → place < length rs → IsSpelled rs records place
spelled_at [] records place same within = absurd (omega (arith, within))
spelled_at (r ∷ rs) [] place same within = absurd cc
spelled_at (r ∷ rs) (q ∷ records) zero same within = record { words = r; its = q; kept = refl; found = refl; are = cc }
spelled_at (r ∷ rs) (q ∷ records) (suc place) same within =
    let rest : map (λ (r : Spelled). r.words) rs ≡ map spelling records = cc in
    let less : place < length rs = omega (arith, within) in
    let next = spelled_at rs records place rest less in
    record { words = next.words; its = next.its; kept = next.kept; found = next.found; are = next.are }

-- words that spell one record begin with no other
pub read_so : (words : List ℕ) (q r : Record) (len : ℕ) → IsRecord q words → BeginsWith words r len → r ≡ q
read_so words q r len is begins =
    (one_reading r q (take len words) words (drop len words) [] begins.whole is (take-append-drop len words ∙ sym (append-nil words))).0

pub begun_so : (words : List ℕ) (q : Record) → IsRecord q words → BeginsNoRecord words → ⊥
begun_so words q is none = none q words [] is (sym (append-nil words))

-- where there is a record under the number, nothing else is found
pub found_one : (m : Setting) (node : ℕ) (s : State) (x : Numbers) (number : ℕ) (found : Published) (r : Record) → IsFound m node s x number found → IsFound m node s x number (Is r) → found ≡ Is r
found_one m node s x number Unknown r (inl none) is = absurd (let some = is.0 in omega (arith, none, some))
found_one m node s x number Unknown r (inr above) is = absurd (let acked = is.1 in omega (arith, above, acked))
found_one m node s x number Trimmed r its is = absurd (let trimmed = its.2 in let kept = is.2 in omega (arith, trimmed, kept))
found_one m node s x number (Is q) r its is = ap (λ (p : Record). Is p) (same_some q r (sym its.3 ∙ is.3))

module _ {D : Type 0} (a : Ghosts D) (m : Setting) (node : ℕ) (s : State) (x : Numbers) (log : Log D a) (k : KeptRecords) (dropped trimmed taken acked : ℕ)
    (h : FitsLog a m node log k dropped trimmed taken acked s x) where
  -- the words of a number are those of the node's record
  pub kept_at : (place : ℕ) (words : List ℕ) → k.before ≤ place → place < count_of k → ((r : Spelled) → slice_get k.records (place - k.before) ≡ Some r → words ≡ r.words)
      → (r : Record) × (slice_get (records_of m s x.disks node) place ≡ Some r) × IsRecord r words
  kept_at place words kept within are =
      let records : List Record = records_of m s x.disks node in
      let less : place - k.before < length k.records = omega (arith, kept, within) in
      let one = spelled_at k.records (drop k.before records) (place - k.before) h.words less in
      let there : k.before + (place - k.before) ≡ place = omega (arith, kept) in
      let found : slice_get records place ≡ Some one.its = ap (slice_get records) (sym there) ∙ sym (at_drop k.before (place - k.before) records) ∙ one.found in
      let whole = whole_at records place one.its h.whole found in
      (one.its, found, record { canonical = whole.canonical; short = whole.short; spelled = are one.words one.kept ∙ one.are })

  pub record_found : (place : ℕ) (words : List ℕ) (r : Record) → k.before ≤ place → place < count_of k → ((r : Spelled) → slice_get k.records (place - k.before) ≡ Some r → words ≡ r.words)
      → BeginsWith words r (record_len r) → slice_get (records_of m s x.disks node) place ≡ Some r
  record_found place words r kept within are begins =
      let one = kept_at place words kept within are in
      one.1 ∙ ap (λ (q : Record). Some q) (sym (read_so words one.0 r (record_len r) one.2 begins))

  pub record_lost : (place : ℕ) (words : List ℕ) → k.before ≤ place → place < count_of k → ((r : Spelled) → slice_get k.records (place - k.before) ≡ Some r → words ≡ r.words)
      → BeginsNoRecord words → ⊥
  record_lost place words kept within are none =
      let one = kept_at place words kept within are in
      begun_so words one.0 one.2 none

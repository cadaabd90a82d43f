-- A record that a peer has acknowledged, among all of the history.
use Rattle.std.proofs.Common.{◌≡◌, ℕ, zero, suc, ◌+◌, ◌<◌, ◌≤◌, Bool, true, false, not, List, [], ◌∷◌, ◌++◌, map, filter, length, get_or, All, AllPairs, Some, refl, sym, ap, subst, ◌∙◌, arith, true≢false, length-append}
use Rattle.std.specs.Prelude.{slice_get, if◌then◌else◌}
use Rattle.std.proofs.lemmas.Bool.{false_from_ne_true}
use Rattle.std.proofs.lemmas.List.{map-append}
use Rattle.std.proofs.lemmas.List.Elements.{All-head, All-map, filter-append}
use Rattle.std.proofs.lemmas.Option.{same_Some as same_some}
use Rattle.lc_record.specs.Content.{Content}
use Rattle.lc_record.specs.Part.{number_in}
use Rattle.lc_record.specs.Recorded.{counted, record_of, records_from}
use Rattle.lc_record.specs.Transaction.{IsWellFormed, Meet, effect, effects}
use Rattle.lc_record.specs.declared.record.Record.{Record}
use Rattle.lc_record.proofs.LockLemmas.{lock_holds}
use Rattle.lc_record.proofs.ListLemmas.{All-append_left as All-left, All-append_right as All-right}
use Rattle.lc_token.specs.Clean.{all_of, closed_of}
use Rattle.lc_model.specs.History.{Entry, History, transactions, entries_of, is_of, front, leading}
use Rattle.lc_model.specs.Merging.{counted_all, is_from, sets}
use Rattle.lc_model.specs.Sound.{Sound, IsClosedBefore, unclosed}
use Rattle.lc_model.specs.State.{Setting, State}
use Rattle.lc_model.specs.Stored.{base, records_of}
use Rattle.lc_model.proofs.Keeps.{history-well}
use Rattle.lc_model.proofs.Lists.{All-filter_if, All-from_map, split}
use Rattle.lc_model.proofs.Merging.{counted-length}
use Rattle.lc_model.proofs.RecordBytes.{sets-locks}
use Rattle.lc_settled.specs.Numbers.{Numbers, token_number}
use Rattle.lc_desk.proofs.PartPut.{own_number}
use Rattle.lc_events.proofs.Slotted.{all_closed}

-- The record's entry

-- a record of the history, and the entry that it is of
record IsClosedOne (numbers : ℕ → ℕ) (content : Content) (history : History) (r : Record) : Type 0 where
  before : History
  own : Entry
  behind : History
  parts : before ++ (own ∷ behind) ≡ history
  record_is : record_of (counted_all numbers (transactions before)) (effects (transactions before) content) own.transaction ≡ r
  closed : own.closed ≡ true
  there : slice_get (records_from numbers content (transactions history)) (length before) ≡ Some r

behind_one : (numbers : ℕ → ℕ) (content : Content) (e : Entry) (es : History) (r : Record) → IsClosedOne (counted numbers e.transaction) (effect e.transaction content) es r → IsClosedOne numbers content (e ∷ es) r
behind_one numbers content e es r h = record {
  before = e ∷ h.before;
  own = h.own;
  behind = h.behind;
  parts = ap (λ l. e ∷ l) h.parts;
  record_is = h.record_is;
  closed = h.closed;
  there = h.there;
}

some_leading : (b : Bool) (marks : List Bool) (i : ℕ) → i < leading (b ∷ marks) → (b ≡ true) × (i < 1 + leading marks)
some_leading true marks i within = (refl, within)
some_leading false marks i within = absurd (omega (arith, within))

module _ (n : ℕ) (numbers : ℕ → ℕ) (content : Content) (e : Entry) (es : History) (r : Record) where
  abbrev one : Record
  one = record_of numbers content e.transaction

  abbrev rest : List Record
  rest = filter (is_from n) (records_from (counted numbers e.transaction) (effect e.transaction content) (transactions es))

  abbrev marks : List Bool
  marks = map (λ (x : Entry). x.closed) (entries_of n es)

  module _ (next : (j : ℕ) → slice_get rest j ≡ Some r → j < leading marks → IsClosedOne (counted numbers e.transaction) (effect e.transaction content) es r) where
    own_one : (i : ℕ) → slice_get (one ∷ rest) i ≡ Some r → i < leading (e.closed ∷ marks) → IsClosedOne numbers content (e ∷ es) r
    own_one zero found few = record {
      before = [];
      own = e;
      behind = es;
      parts = refl;
      record_is = same_some one r found;
      closed = (some_leading e.closed marks zero few).0;
      there = found;
    }
    own_one (suc j) found few = behind_one numbers content e es r (next j found (let more = (some_leading e.closed marks (suc j) few).1 in omega (arith, more)))

    by_node : (b : Bool) (i : ℕ) → slice_get (if b then one ∷ rest else rest) i ≡ Some r → i < leading (map (λ (x : Entry). x.closed) (if b then e ∷ entries_of n es else entries_of n es))
        → IsClosedOne numbers content (e ∷ es) r
    by_node true i found few = own_one i found few
    by_node false i found few = behind_one numbers content e es r (next i found few)

-- those of a node in front are closed
closed_one : (n : ℕ) (numbers : ℕ → ℕ) (content : Content) (history : History) (i : ℕ) (r : Record) → slice_get (filter (is_from n) (records_from numbers content (transactions history))) i ≡ Some r
    → i < front n history → IsClosedOne numbers content history r
closed_one n numbers content [] i r got within = absurd cc
closed_one n numbers content (e ∷ es) i r got within =
    by_node n numbers content e es r (λ j found few. closed_one n (counted numbers e.transaction) (effect e.transaction content) es j r found few) (is_of n e.transaction) i got within

-- All before it are closed

-- of those before it which set what it set
before_closed : (segment : ℕ) (before behind : History) (own : Entry) → All (λ (e : Entry). IsWellFormed e.transaction) (before ++ (own ∷ behind)) → AllPairs IsClosedBefore (before ++ (own ∷ behind))
    → sets segment own.transaction ≡ true → All (λ t. sets segment t ≡ false) (unclosed before)
before_closed segment before behind own well ordered set =
    All-map (λ t. sets segment t ≡ false) (λ (e : Entry). e.transaction) (filter (λ e. not e.closed) before)
    (All-filter_if (λ (e : Entry). not e.closed) (λ e. sets segment e.transaction ≡ false) before (λ k d k_in unclosed_is.
    false_from_ne_true (sets segment (get_or before k d).transaction) (λ also.
    let own_well = All-head (λ (e : Entry). IsWellFormed e.transaction) own behind (All-right (λ (e : Entry). IsWellFormed e.transaction) before (own ∷ behind) well) in
    let its_well = All-left (λ (e : Entry). IsWellFormed e.transaction) before (own ∷ behind) well k d k_in in
    let lock = sets-locks (get_or before k d).transaction segment its_well also in
    let held = lock_holds own.transaction segment (sets-locks own.transaction segment own_well set) in
    let meet : Meet (get_or before k d).transaction own.transaction = (segment, rw (lock, held) refl) in
    let closed : (get_or before k d).closed ≡ true = All-head (IsClosedBefore (get_or before k d)) own behind ((split IsClosedBefore before (own ∷ behind) ordered).across k d k_in) meet in
    true≢false (sym unclosed_is ∙ ap not closed))))

counted_closed : (segment : ℕ) (before behind : History) (own : Entry) → own.closed ≡ true → sets segment own.transaction ≡ true → All (λ t. sets segment t ≡ false) (unclosed before)
    → length (filter (sets segment) (transactions before)) + 1 ≤ length (filter (sets segment) (closed_of (before ++ (own ∷ behind))))
counted_closed segment before behind own closed set none =
    let parted : closed_of (before ++ (own ∷ behind)) ≡ closed_of before ++ closed_of (own ∷ behind) =
    ap (map (λ (e : Entry). e.transaction)) (filter-append (λ (e : Entry). e.closed) before (own ∷ behind)) ∙ map-append (λ (e : Entry). e.transaction) (filter (λ e. e.closed) before) (filter (λ e. e.closed) (own ∷ behind)) in
    let all : length (filter (sets segment) (closed_of (before ++ (own ∷ behind)))) ≡ length (filter (sets segment) (closed_of before)) + length (filter (sets segment) (closed_of (own ∷ behind))) =
    ap (λ ts. length (filter (sets segment) ts)) parted ∙ ap length (filter-append (sets segment) (closed_of before) (closed_of (own ∷ behind)))
    ∙ length-append (filter (sets segment) (closed_of before)) (filter (sets segment) (closed_of (own ∷ behind))) in
    let same : length (filter (sets segment) (closed_of before)) ≡ length (filter (sets segment) (transactions before)) = ap length (all_closed (sets segment) before none) in
    let one : length (filter (sets segment) (closed_of (own ∷ behind))) ≡ suc (length (filter (sets segment) (closed_of behind))) =
    ap (λ b. length (filter (sets segment) (map (λ (e : Entry). e.transaction) (if b then own ∷ filter (λ e. e.closed) behind else filter (λ e. e.closed) behind)))) closed
    ∙ ap (λ b. length (if b then own.transaction ∷ filter (sets segment) (closed_of behind) else filter (sets segment) (closed_of behind))) set in
    omega (arith, all, same, one)

-- a record that its node has acknowledged stands among all of the history, and the tokens of what it locks have counted it
pub acked_counted : (m : Setting) (s : State) (x : Numbers) (sender i segment number : ℕ) (r : Record) → Sound m.geometry s
    → slice_get (records_of m s x.disks sender) i ≡ Some r → i < s.ack sender → number_in segment r.locks ≡ Some number
    → (place : ℕ) × (slice_get (all_of m s x.disks) place ≡ Some r) × (number ≤ token_number s x segment)
acked_counted m s x sender i segment number r sound got acked is =
    let few = sound.acked sender in
    let one : IsClosedOne x.disks.numbers (base m s) s.history r = closed_one sender x.disks.numbers (base m s) s.history i r got (omega (arith, acked, few)) in
    let own = own_number (counted_all x.disks.numbers (transactions one.before)) (effects (transactions one.before) (base m s)) one.own.transaction segment number
    (ap (λ (q : Record). number_in segment q.locks) one.record_is ∙ is) in
    let well : All (λ (e : Entry). IsWellFormed e.transaction) (one.before ++ (one.own ∷ one.behind)) =
    subst (λ l. All (λ (e : Entry). IsWellFormed e.transaction) l) (sym one.parts) (All-from_map IsWellFormed (λ (e : Entry). e.transaction) s.history (history-well m.geometry s sound)) in
    let none = before_closed segment one.before one.behind one.own well (subst (λ l. AllPairs IsClosedBefore l) (sym one.parts) sound.earlier_closed) own.0 in
    let more = counted_closed segment one.before one.behind one.own one.closed own.0 none in
    let whole : length (filter (sets segment) (closed_of (one.before ++ (one.own ∷ one.behind)))) ≡ length (filter (sets segment) (closed_of s.history)) = ap (λ h. length (filter (sets segment) (closed_of h))) one.parts in
    let before = counted-length x.disks.numbers (transactions one.before) segment in
    let all = counted-length x.disks.numbers (closed_of s.history) segment in
    let number_is = own.1 in
    (length one.before, one.there, omega (arith, number_is, more, whole, before, all))

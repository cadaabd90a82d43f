-- The least lock above what is known, of the first locks of a record and of the records with which words begin.
use Rattle.std.proofs.Common.{◌≡◌, ◌⊎◌, ℕ, suc, ◌+◌, ◌<◌, ◌≤◌, eqb, ltb, List, [], ◌∷◌, ◌++◌, Option, Some, None, length, take, drop, Contains, refl, sym, ◌∙◌, ap, subst, inl, inr, arith, length-append, take-append-drop}
use Rattle.std.specs.Prelude.{slice_get}
use Rattle.std.proofs.lemmas.Bool.{cases_Bool, cases_lt, eqb-true, ltb-true, ltb-false}
use Rattle.std.proofs.lemmas.List.{drop_at, nil_from_length, take_more, take_all}
use Rattle.std.specs.List.{concat}
use Rattle.std.proofs.lemmas.Option.{slice_get_within, slice_get_cases, none-some, get_or_from_slice_get}
use Rattle.std.proofs.lemmas.List.Elements.{Contains-push, Contains-push_cases, Contains-append_cases, Contains-append_left, Contains-append_right}
use Rattle.lc_record.specs.Record.{record_len}
use Rattle.lc_record.specs.Newest.{number_or_zero}
use Rattle.lc_record.specs.Codec.{BeginsWith, BeginsNoRecord}
use Rattle.lc_record.specs.declared.record.Record.{Record}
use Rattle.lc_record.specs.declared.record.Lock.{Lock}
use Rattle.lc_record.proofs.RecordLemmas.{begins_from, begins_once, record_length, record_some}
use Rattle.lc_token.specs.Reset.{AreRecords, BeginWith, IsAbove, IsAboveIn, IsLeastOf, IsOneRecord, above, lesser}
use Rattle.lc_token.specs.declared.unclean.Unclean.{Unclean}
use Rattle.lc_token.proofs.LeastLemmas.{lesser_again, lesser_least, lesser_none, same_least}

-- A number is that of a lock

number_lock : (segment : ℕ) (locks : List Lock) → (number_or_zero segment locks ≡ 0) ⊎ ((lock : Lock) × Contains locks lock × (lock.segment ≡ segment) × (lock.seq ≡ number_or_zero segment locks))
number_lock segment [] = inl refl
number_lock segment (lock ∷ locks) = elim (cases_Bool (eqb lock.segment segment)) [
  | inl is ↦ inr (lock, (0, omega arith, refl), eqb-true lock.segment segment is, rw is refl)
  | inr other ↦
      let same : number_or_zero segment (lock ∷ locks) ≡ number_or_zero segment locks = rw other refl in
      elim (number_lock segment locks) [
        | inl none ↦ inl (same ∙ none)
        | inr its ↦ inr (its.0, Contains-append_right (lock ∷ []) locks its.0 its.1, its.2, its.3 ∙ sym same)
      ]
]

-- The locks of a record

-- after the last lock there is none
pub all_locks : (locks : List Lock) (index : ℕ) → slice_get locks index ≡ None → length locks ≤ index
all_locks locks index none = elim (slice_get_cases locks index).1 [
  | inl lock ↦ absurd (none-some lock.0 (sym none ∙ lock.2))
  | inr behind ↦ behind.0
]

-- this lock is the segment's under this number, above what is known
abbrev IsItAbove : (ℕ → ℕ) → Lock → ℕ → ℕ → Type 0
IsItAbove known lock segment seq = (lock.segment ≡ segment) × (lock.seq ≡ seq) × (known segment < seq)

one_above : (known : ℕ → ℕ) (lock : Lock) → IsLeastOf (IsItAbove known lock) (above known lock)
one_above known lock = elim (cases_Bool (ltb (known lock.segment) lock.seq)) [
  | inl high ↦ rw high (record {
    is = (refl, refl, ltb-true (known lock.segment) lock.seq high);
    least = λ segment seq its. inr (its.0, omega (arith, its.1));
  })
  | inr low ↦ rw low (λ segment seq its.
      let clean : lock.seq ≤ known lock.segment = ltb-false (known lock.segment) lock.seq low in
      let same : known lock.segment ≡ known segment = ap known its.0 in
      absurd (omega (arith, clean, same, its.1, its.2)))
]

module _ (known : ℕ → ℕ) where
  abbrev AmongLocks : List Lock → Lock → ℕ → ℕ → Type 0
  AmongLocks locks lock segment seq = IsAboveIn locks known segment seq ⊎ IsItAbove known lock segment seq

  lock_to : (locks : List Lock) (lock : Lock) (segment seq : ℕ) → AmongLocks locks lock segment seq → IsAboveIn (locks ++ lock ∷ []) known segment seq
  lock_to locks lock segment seq among = elim among [
    | inl before ↦ ((before.0.0, Contains-append_left locks (lock ∷ []) before.0.0 before.0.1, before.0.2, before.0.3), before.1)
    | inr own ↦ ((lock, Contains-push locks lock, own.0, own.1), own.2)
  ]

  lock_from : (locks : List Lock) (lock : Lock) (segment seq : ℕ) → IsAboveIn (locks ++ lock ∷ []) known segment seq → AmongLocks locks lock segment seq
  lock_from locks lock segment seq its = elim (Contains-push_cases locks lock its.0.0 its.0.1) [
    | inl before ↦ inl ((its.0.0, before, its.0.2, its.0.3), its.1)
    | inr same ↦ inr (ap (λ (l : Lock). l.segment) same ∙ its.0.2, ap (λ (l : Lock). l.seq) same ∙ its.0.3, its.1)
  ]

  lock_more : (locks : List Lock) (lock : Lock) (least : Option Unclean) → IsLeastOf (IsAboveIn locks known) least → IsLeastOf (IsAboveIn (locks ++ lock ∷ []) known) (lesser least (above known lock))
  lock_more locks lock least is =
      same_least (AmongLocks locks lock) (IsAboveIn (locks ++ lock ∷ []) known) (lesser least (above known lock)) (lock_to locks lock) (lock_from locks lock)
      (lesser_least (IsAboveIn locks known) (IsItAbove known lock) least (above known lock) is (one_above known lock))

  -- one lock more
  pub next_lock : (locks : List Lock) (index : ℕ) (lock : Lock) (least : Option Unclean) → slice_get locks index ≡ Some lock → IsLeastOf (IsAboveIn (take index locks) known) least
      → IsLeastOf (IsAboveIn (take (index + 1) locks) known) (lesser least (above known lock))
  next_lock locks index lock least is before =
      let more : take (index + 1) locks ≡ take index locks ++ lock ∷ [] =
      take_more locks index lock (slice_get_within locks index lock is) ∙ ap (λ (l : Lock). take index locks ++ l ∷ []) (get_or_from_slice_get locks index lock lock is) in
      subst (λ (l : List Lock). IsLeastOf (IsAboveIn l known) (lesser least (above known lock))) (sym more) (lock_more (take index locks) lock least before)

  -- once all locks were looked at
  pub all_above : (locks : List Lock) (index : ℕ) (least : Option Unclean) → length locks ≤ index → IsLeastOf (IsAboveIn (take index locks) known) least → IsLeastOf (IsAboveIn locks known) least
  all_above locks index least all is = subst (λ (l : List Lock). IsLeastOf (IsAboveIn l known) least) (take_all index locks all) is

  -- The records with which words begin

  abbrev InFront : Record → List ℕ → ℕ → ℕ → Type 0
  InFront r rest segment seq = IsAboveIn r.locks known segment seq ⊎ IsAbove rest known segment seq

  front_to : (words : List ℕ) (r : Record) (segment seq : ℕ) → BeginsWith words r (record_len r) → InFront r (drop (record_len r) words) segment seq → IsAbove words known segment seq
  front_to words r segment seq begins such = elim such [
    | inl own ↦ (r ∷ [], r, (begins, tt), (0, omega arith, refl), own)
    | inr its ↦ (r ∷ its.0, its.1, (begins, its.2), Contains-append_right (r ∷ []) its.0 its.1 its.3, its.4)
  ]

  front_from : (words : List ℕ) (r : Record) (segment seq : ℕ) → BeginsWith words r (record_len r) → (rs : List Record) (one : Record) → BeginWith rs words → Contains rs one → IsAboveIn one.locks known segment seq → InFront r (drop (record_len r) words) segment seq
  front_from words r segment seq begins [] one fits among its = let within = among.1 in absurd (omega arith)
  front_from words r segment seq begins (q ∷ rs) one fits among its =
      let same : q ≡ r = (begins_once words q r (record_len q) (record_len r) fits.0 begins).0 in
      elim (Contains-append_cases (q ∷ []) rs one among) [
        | inl own ↦ elim (Contains-push_cases [] q one own) [
          | inl none ↦ (let within = none.1 in absurd (omega arith))
          | inr is ↦ inl (subst (λ (x : Record). IsAboveIn x.locks known segment seq) (sym is ∙ same) its)
        ]
        | inr behind ↦ inr (rs, one, subst (λ (x : Record). BeginWith rs (drop (record_len x) words)) same fits.1, behind, its)
      ]

  record_in_front : (words : List ℕ) (r : Record) (own behind : Option Unclean) → BeginsWith words r (record_len r) → IsLeastOf (IsAboveIn r.locks known) own → IsLeastOf (IsAbove (drop (record_len r) words) known) behind → IsLeastOf (IsAbove words known) (lesser own behind)
  record_in_front words r own behind begins is its =
      let rest : List ℕ = drop (record_len r) words in
      same_least (InFront r rest) (IsAbove words known) (lesser own behind)
      (λ segment seq such. front_to words r segment seq begins such)
      (λ segment seq above. front_from words r segment seq begins above.0 above.1 above.2 above.3 above.4)
      (lesser_least (IsAboveIn r.locks known) (IsAbove rest known) own behind is its)

  none_in_front : (words : List ℕ) → BeginsNoRecord words → (rs : List Record) (one : Record) → BeginWith rs words → Contains rs one → ⊥
  none_in_front words none [] one fits among = let within = among.1 in absurd (omega arith)
  none_in_front words none (q ∷ rs) one fits among =
      none q (take (record_len q) words) (drop (record_len q) words) fits.0.whole (sym (take-append-drop (record_len q) words))

  -- with the least of the rest, the least so far is that of the whole
  abbrev pub IsOnward : List ℕ → List ℕ → Option Unclean → Type 0
  IsOnward words rest least = (behind : Option Unclean) → IsLeastOf (IsAbove rest known) behind → IsLeastOf (IsAbove words known) (lesser least behind)

  -- one record more
  pub onward_more : (words rest : List ℕ) (r : Record) (least own : Option Unclean) → BeginsWith rest r (record_len r) → IsLeastOf (IsAboveIn r.locks known) own → IsOnward words rest least → IsOnward words (drop (record_len r) rest) (lesser least own)
  onward_more words rest r least own begins is before = λ behind its.
      subst (IsLeastOf (IsAbove words known)) (sym (lesser_again least own behind)) (before (lesser own behind) (record_in_front rest r own behind begins is its))

  -- where none begins all were looked at
  pub onward_all : (words rest : List ℕ) (least : Option Unclean) → BeginsNoRecord rest → IsOnward words rest least → IsLeastOf (IsAbove words known) least
  onward_all words rest least none before =
      subst (IsLeastOf (IsAbove words known)) (lesser_none least) (before None (λ segment seq its. none_in_front rest none its.0 its.1 its.2 its.3))

  -- where none is above what is known each number is known
  pub numbers_known : (words : List ℕ) → ((segment seq : ℕ) → IsAbove words known segment seq → ⊥)
      → (rs : List Record) (r : Record) → BeginWith rs words → Contains rs r → (segment : ℕ) → number_or_zero segment r.locks ≤ known segment
  numbers_known words none rs r begin among segment = elim (cases_lt (known segment) (number_or_zero segment r.locks)) [
    | inr low ↦ low
    | inl high ↦ elim (number_lock segment r.locks) [
      | inl zero_is ↦ omega (arith, zero_is)
      | inr lock ↦ absurd (none segment (number_or_zero segment r.locks) (rs, r, begin, among, (lock, high)))
    ]
  ]

-- Words that are records

no_record_of_none : BeginsNoRecord []
no_record_of_none r front rest is e = absurd (omega (arith, record_some r front is, ap (λ (l : List ℕ). length l) e, length-append front rest))

-- the first of them, and those after it
pub record Led (words : List ℕ) : Type 0 where
  pub its : Record
  pub begins : BeginsWith words its (record_len its)
  pub behind : AreRecords (drop (record_len its) words)

pub first_record : (words : List ℕ) → AreRecords words → 0 < length words → Led words
first_record words ([], each, is) some = absurd (omega (arith, some, ap (λ (l : List ℕ). length l) is))
first_record words (front ∷ records, each, is) some =
    let one : IsOneRecord front = each 0 [] (omega arith) in
    let r : Record = one.0 in
    let long : length front ≡ record_len r = record_length r front one.1 in
    let begins : BeginsWith (front ++ concat records) r (record_len r) = subst (λ (n : ℕ). BeginsWith (front ++ concat records) r n) long (begins_from r front (concat records) one.1) in
    let rest : drop (record_len r) words ≡ concat records = ap (drop (record_len r)) is ∙ drop_at front (concat records) (record_len r) long in
    record {
      its = r;
      begins = subst (λ (l : List ℕ). BeginsWith l r (record_len r)) (sym is) begins;
      behind = (records, (λ k d lt. each (suc k) d (omega (arith, lt))), rest);
    }

-- after a record that they begin with are records
pub records_behind : (words : List ℕ) (r : Record) → AreRecords words → 0 < length words → BeginsWith words r (record_len r) → AreRecords (drop (record_len r) words)
records_behind words r are some begins =
    let led = first_record words are some in
    let same : led.its ≡ r = (begins_once words led.its r (record_len led.its) (record_len r) led.begins begins).0 in
    subst (λ (q : Record). AreRecords (drop (record_len q) words)) same led.behind

-- once all records were looked at
pub onward_end : (known : ℕ → ℕ) (words rest : List ℕ) (least : Option Unclean) → length rest ≡ 0 → IsOnward known words rest least → IsLeastOf (IsAbove words known) least
onward_end known words rest least none before =
    onward_all known words rest least (subst BeginsNoRecord (sym (nil_from_length rest none)) no_record_of_none) before

-- Locks that ascend, and ranges that follow on them: what is tested is what the grammar says.
use Rattle.std.proofs.Common.{◌≡◌, ◌⊎◌, ℕ, ◌^◌, ◌<◌, ◌≤◌, Bool, true, false, cond, eqb, ltb, leb, ◌&&◌, List, [], ◌∷◌, length, Option, Some, None, refl, sym, ap, subst, ◌∙◌, inl, inr, arith}
use Rattle.std.specs.Prelude.{◌↔◌}
use Rattle.std.specs.List.{AllByRecursion}
use Rattle.std.proofs.lemmas.Bool.{and_parts, and_from, eqb-true, leb-true, ltb-true, eq-eqb, ne_eqb, le-leb, lt-ltb, cases_eq, cases_Bool}
use Rattle.std.proofs.lemmas.Option.{cond_some, same_Some}
use Rattle.lc_record.specs.GrammarVersion.{end_of}
use Rattle.lc_record.specs.Record.{Chain, IsLock, IsRange, IsBefore, Locks, Writes, span_of}
use Rattle.lc_record.specs.Reading.{◌>>=◌, is_lock, ascend, RangeProgress, place, start, step, holds, follow}
use Rattle.lc_record.specs.declared.record.Lock.{Lock}
use Rattle.lc_record.specs.declared.record.RangeData.{RangeData}
use Rattle.lc_record.specs.declared.span.Span.{Span}

-- Locks

-- each is of a greater segment than the one before it
abbrev pub Ascends : ℕ → List Lock → Type 0
Ascends before [] = Unit {0}
Ascends before (lock ∷ locks) = (before < lock.segment) × Ascends lock.segment locks

lock_is : (lock : Lock) → is_lock lock ≡ true → IsLock lock
lock_is lock e =
    let a = and_parts (leb 1 lock.segment && leb lock.segment 16 && leb 1 lock.seq) (leb lock.seq (2 ^ 60)) e in
    let b = and_parts (leb 1 lock.segment && leb lock.segment 16) (leb 1 lock.seq) a.0 in
    let c = and_parts (leb 1 lock.segment) (leb lock.segment 16) b.0 in
    (leb-true _ _ c.0, leb-true _ _ c.1, leb-true _ _ b.1, leb-true _ _ a.1)

is_lock_from : (lock : Lock) → IsLock lock → is_lock lock ≡ true
is_lock_from lock is =
    and_from _ _ (and_from _ _ (and_from _ _ (le-leb 1 lock.segment is.0) (le-leb lock.segment 16 is.1)) (le-leb 1 lock.seq is.2)) (le-leb lock.seq (2 ^ 60) is.3)

pub ascend_takes : (before : ℕ) (locks : List Lock) → ascend before locks ≡ true → AllByRecursion IsLock locks × Ascends before locks
ascend_takes before [] e = (tt, tt)
ascend_takes before (lock ∷ locks) e =
    let a = and_parts (is_lock lock && ltb before lock.segment) (ascend lock.segment locks) e in
    let b = and_parts (is_lock lock) (ltb before lock.segment) a.0 in
    let later = ascend_takes lock.segment locks a.1 in
    ((lock_is lock b.0, later.0), (ltb-true _ _ b.1, later.1))

pub ascend_from : (before : ℕ) (locks : List Lock) → AllByRecursion IsLock locks → Ascends before locks → ascend before locks ≡ true
ascend_from before [] is up = refl
ascend_from before (lock ∷ locks) is up = and_from _ _ (and_from _ _ (is_lock_from lock is.0) (lt-ltb before lock.segment up.0)) (ascend_from lock.segment locks is.1 up.1)

pub chain_ascends : (lock : Lock) (locks : List Lock) → Chain (λ a b. a.segment < b.segment) (lock ∷ locks) → Ascends lock.segment locks
chain_ascends lock [] h = tt
chain_ascends lock (next ∷ locks) h = (h.0, chain_ascends next locks h.1)

pub locks_ascend : (locks : List Lock) → AllByRecursion IsLock locks → Chain (λ a b. a.segment < b.segment) locks → Ascends 0 locks
locks_ascend [] is h = tt
locks_ascend (lock ∷ locks) is h = (omega (arith, is.0), chain_ascends lock locks h)

pub ascends_chain : (before : ℕ) (locks : List Lock) → Ascends before locks → Chain (λ a b. a.segment < b.segment) locks
ascends_chain before [] h = tt
ascends_chain before (lock ∷ []) h = tt
ascends_chain before (lock ∷ next ∷ locks) h = (h.1.0, ascends_chain lock.segment (next ∷ locks) h.1)

locked_above : (before : ℕ) (locks : List Lock) (segment : ℕ) → Ascends before locks → Locks segment locks → before < segment
locked_above before [] segment up locked = absurd locked
locked_above before (lock ∷ locks) segment up locked = elim locked [
  | inl same ↦ omega (arith, same, up.0)
  | inr later ↦ omega (arith, locked_above lock.segment locks segment up.1 later, up.0)
]

-- Ranges

abbrev range_end : RangeData → ℕ
range_end range = end_of (span_of range)

-- the first range comes after this place, and each other after the one before it
abbrev Ordered : ℕ → ℕ → List RangeData → Type 0
Ordered segment end [] = Unit {0}
Ordered segment end (range ∷ ranges) = ((segment < range.segment) ⊎ ((segment ≡ range.segment) × (end < range.offset))) × Chain IsBefore (range ∷ ranges)

ordered_chain : (range : RangeData) (ranges : List RangeData) → Ordered range.segment (range_end range) ranges → Chain IsBefore (range ∷ ranges)
ordered_chain range [] h = tt
ordered_chain range (next ∷ ranges) h = (h.0, h.1)

chain_ordered : (range : RangeData) (ranges : List RangeData) → Chain IsBefore (range ∷ ranges) → Ordered range.segment (range_end range) ranges
chain_ordered range [] h = tt
chain_ordered range (next ∷ ranges) h = (h.0, h.1)

written_from : (range : RangeData) (ranges : List RangeData) (segment : ℕ) → Chain IsBefore (range ∷ ranges) → Writes segment (range ∷ ranges) → range.segment ≤ segment
written_from range [] segment h written = elim written [ inl same ↦ omega (arith, same) | inr none ↦ absurd none ]
written_from range (next ∷ ranges) segment h written = elim written [
  | inl same ↦ omega (arith, same)
  | inr later ↦
      let above : next.segment ≤ segment = written_from next ranges segment h.1 later in
      elim h.0 [ inl less ↦ omega (arith, above, less) | inr both ↦ omega (arith, above, both.0) ]
]

holds_some : {A : Type 0} (o : Option A) (test : A → Bool) → holds o test ≡ true → (x : A) × (o ≡ Some x) × (test x ≡ true)
holds_some None test e = absurd cc
holds_some (Some x) test e = (x, refl, e)

-- what ranges that follow are
pub record Followed (segment end : ℕ) (locks : List Lock) (ranges : List RangeData) : Type 0 where
  pub ordered : Ordered segment end ranges
  pub used : (s : ℕ) → Locks s locks → Writes s ranges
  pub locked : (s : ℕ) → Writes s ranges → (s ≡ segment) ⊎ Locks s locks

-- the next range is of the segment before it
followed_same : (segment end : ℕ) (locks : List Lock) (range : RangeData) (ranges : List RangeData) → range.segment ≡ segment → end < range.offset
    → Followed range.segment (range_end range) locks ranges → Followed segment end locks (range ∷ ranges)
followed_same segment end locks range ranges same gap later = record {
  ordered = (inr (sym same, gap), ordered_chain range ranges later.ordered);
  used = λ s locked. inr (later.used s locked);
  locked = λ s written. elim written [
    | inl here ↦ inl (sym here ∙ same)
    | inr there ↦ elim (later.locked s there) [ inl again ↦ inl (again ∙ same) | inr locked ↦ inr locked ]
  ];
}

-- it is of the segment of the next lock
followed_next : (segment end : ℕ) (lock : Lock) (locks : List Lock) (range : RangeData) (ranges : List RangeData) → lock.segment ≡ range.segment → segment < range.segment
    → Followed range.segment (range_end range) locks ranges → Followed segment end (lock ∷ locks) (range ∷ ranges)
followed_next segment end lock locks range ranges same less later = record {
  ordered = (inl less, ordered_chain range ranges later.ordered);
  used = λ s locked. elim locked [ inl here ↦ inl (sym same ∙ here) | inr there ↦ inr (later.used s there) ];
  locked = λ s written. elim written [
    | inl here ↦ inr (inl (same ∙ here))
    | inr there ↦ elim (later.locked s there) [ inl again ↦ inr (inl (same ∙ sym again)) | inr locked ↦ inr (inr locked) ]
  ];
}

-- the next place
step_same : (segment end : ℕ) (locks : List Lock) (span : Span) → span.segment ≡ segment → end < span.offset → step (place segment end locks) span ≡ Some (place span.segment (end_of span) locks)
step_same segment end locks span same gap =
    let a : eqb span.segment segment ≡ true = eq-eqb _ _ same in
    let b : ltb end span.offset ≡ true = lt-ltb _ _ gap in
    rw (a, b) refl

step_next : (segment end : ℕ) (lock : Lock) (locks : List Lock) (span : Span) → (span.segment ≡ segment → ⊥) → lock.segment ≡ span.segment → step (place segment end (lock ∷ locks)) span ≡ Some (place span.segment (end_of span) locks)
step_next segment end lock locks span other same =
    let a : eqb span.segment segment ≡ false = ne_eqb _ _ other in
    let b : eqb lock.segment span.segment ≡ true = eq-eqb _ _ same in
    rw (a, b) refl

same_takes : (segment end : ℕ) (locks : List Lock) (span : Span) (after : RangeProgress) → span.segment ≡ segment → step (place segment end locks) span ≡ Some after
    → (end < span.offset) × (place span.segment (end_of span) locks ≡ after)
same_takes segment end locks span after same e =
    let a : eqb span.segment segment ≡ true = eq-eqb _ _ same in
    let rest : cond (ltb end span.offset) (Some (place span.segment (end_of span) locks)) None ≡ Some after = rw a at e in
    let taken = cond_some (ltb end span.offset) (place span.segment (end_of span) locks) after rest in
    (ltb-true _ _ taken.0, taken.1)

next_takes : (segment end : ℕ) (lock : Lock) (locks : List Lock) (span : Span) (after : RangeProgress) → (span.segment ≡ segment → ⊥) → step (place segment end (lock ∷ locks)) span ≡ Some after
    → (lock.segment ≡ span.segment) × (place span.segment (end_of span) locks ≡ after)
next_takes segment end lock locks span after other e =
    let a : eqb span.segment segment ≡ false = ne_eqb _ _ other in
    let rest : (cond (eqb lock.segment span.segment) (Some locks) None >>= λ l. Some (place span.segment (end_of span) l)) ≡ Some after = rw a at e in
    elim (cases_Bool (eqb lock.segment span.segment)) [
      | inl is_it ↦
          let made : Some (place span.segment (end_of span) locks) ≡ Some after = rw is_it at rest in
          (eqb-true _ _ is_it, same_Some _ _ made)
      | inr is_not ↦ let none : None ≡ Some after = rw is_not at rest in absurd cc
    ]

none_takes : (segment end : ℕ) (span : Span) (after : RangeProgress) → (span.segment ≡ segment → ⊥) → step (place segment end []) span ≡ Some after → ⊥
none_takes segment end span after other e =
    let a : eqb span.segment segment ≡ false = ne_eqb _ _ other in
    let none : None ≡ Some after = rw a at e in
    absurd cc

pub follow_takes : (segment end : ℕ) (locks : List Lock) (ranges : List RangeData) → Ascends segment locks → follow (place segment end locks) ranges ≡ true → Followed segment end locks ranges
follow_takes segment end [] [] up e = record { ordered = tt; used = λ s locked. absurd locked; locked = λ s written. absurd written }
follow_takes segment end (lock ∷ locks) [] up e = absurd (omega (arith, eqb-true (length (lock ∷ locks)) 0 e))
follow_takes segment end [] (range ∷ ranges) up e =
    let h = holds_some (step (place segment end []) (span_of range)) (λ after. follow after ranges) e in
    elim (cases_eq range.segment segment) [
      | inl same ↦
          let t = same_takes segment end [] (span_of range) h.0 same h.1 in
          let later : follow (place range.segment (range_end range) []) ranges ≡ true = ap (λ (p : RangeProgress). follow p ranges) t.1 ∙ h.2 in
          followed_same segment end [] range ranges same t.0 (follow_takes range.segment (range_end range) [] ranges tt later)
      | inr other ↦ absurd (none_takes segment end (span_of range) h.0 other h.1)
    ]
follow_takes segment end (lock ∷ locks) (range ∷ ranges) up e =
    let h = holds_some (step (place segment end (lock ∷ locks)) (span_of range)) (λ after. follow after ranges) e in
    elim (cases_eq range.segment segment) [
      | inl same ↦
          let t = same_takes segment end (lock ∷ locks) (span_of range) h.0 same h.1 in
          let later : follow (place range.segment (range_end range) (lock ∷ locks)) ranges ≡ true = ap (λ (p : RangeProgress). follow p ranges) t.1 ∙ h.2 in
          let still : Ascends range.segment (lock ∷ locks) = subst (λ (n : ℕ). Ascends n (lock ∷ locks)) (sym same) up in
          followed_same segment end (lock ∷ locks) range ranges same t.0 (follow_takes range.segment (range_end range) (lock ∷ locks) ranges still later)
      | inr other ↦
          let t = next_takes segment end lock locks (span_of range) h.0 other h.1 in
          let later : follow (place range.segment (range_end range) locks) ranges ≡ true = ap (λ (p : RangeProgress). follow p ranges) t.1 ∙ h.2 in
          let still : Ascends range.segment locks = subst (λ (n : ℕ). Ascends n locks) t.0 up.1 in
          followed_next segment end lock locks range ranges t.0 (omega (arith, t.0, up.0)) (follow_takes range.segment (range_end range) locks ranges still later)
    ]

-- the other way

pub follow_from : (segment end : ℕ) (locks : List Lock) (ranges : List RangeData) → Ascends segment locks → Followed segment end locks ranges → follow (place segment end locks) ranges ≡ true
follow_from segment end [] [] up is = refl
follow_from segment end (lock ∷ locks) [] up is = absurd (is.used lock.segment (inl refl))
follow_from segment end [] (range ∷ ranges) up is =
    elim (is.locked range.segment (inl refl)) [
      | inl same ↦
          let gap : end < range.offset = elim is.ordered.0 [ inl less ↦ absurd (omega (arith, less, same)) | inr both ↦ both.1 ] in
          let later : Followed range.segment (range_end range) [] ranges = record {
            ordered = chain_ordered range ranges is.ordered.1;
            used = λ s locked. absurd locked;
            locked = λ s written. elim (is.locked s (inr written)) [ inl here ↦ inl (here ∙ sym same) | inr none ↦ absurd none ];
          } in
          rw (step_same segment end [] (span_of range) same gap) (follow_from range.segment (range_end range) [] ranges tt later)
      | inr none ↦ absurd none
    ]
follow_from segment end (lock ∷ locks) (range ∷ ranges) up is =
    let from : (s : ℕ) → Writes s (range ∷ ranges) → range.segment ≤ s = λ s written. written_from range ranges s is.ordered.1 written in
    elim (cases_eq range.segment segment) [
      | inl same ↦
          let gap : end < range.offset = elim is.ordered.0 [ inl less ↦ absurd (omega (arith, less, same)) | inr both ↦ both.1 ] in
          let still : Ascends range.segment (lock ∷ locks) = subst (λ (n : ℕ). Ascends n (lock ∷ locks)) (sym same) up in
          let later : Followed range.segment (range_end range) (lock ∷ locks) ranges = record {
            ordered = chain_ordered range ranges is.ordered.1;
            used = λ s locked. elim (is.used s locked) [
              | inl here ↦ absurd (omega (arith, here, locked_above range.segment (lock ∷ locks) s still locked))
              | inr there ↦ there
            ];
            locked = λ s written. elim (is.locked s (inr written)) [ inl here ↦ inl (here ∙ sym same) | inr locked ↦ inr locked ];
          } in
          rw (step_same segment end (lock ∷ locks) (span_of range) same gap) (follow_from range.segment (range_end range) (lock ∷ locks) ranges still later)
      | inr other ↦
          let less : segment < range.segment = elim is.ordered.0 [ inl l ↦ l | inr both ↦ absurd (other (sym both.0)) ] in
          let not_above : lock.segment ≤ range.segment = elim (is.locked range.segment (inl refl)) [
            | inl here ↦ absurd (other here)
            | inr locked ↦ elim locked [ inl here ↦ omega (arith, here) | inr there ↦ omega (arith, locked_above lock.segment locks range.segment up.1 there) ]
          ] in
          let not_below : range.segment ≤ lock.segment = from lock.segment (is.used lock.segment (inl refl)) in
          let same : lock.segment ≡ range.segment = omega (arith, not_above, not_below) in
          let still : Ascends range.segment locks = subst (λ (n : ℕ). Ascends n locks) same up.1 in
          let later : Followed range.segment (range_end range) locks ranges = record {
            ordered = chain_ordered range ranges is.ordered.1;
            used = λ s locked. elim (is.used s (inr locked)) [
              | inl here ↦ absurd (omega (arith, here, locked_above range.segment locks s still locked))
              | inr there ↦ there
            ];
            locked = λ s written. elim (is.locked s (inr written)) [
              | inl here ↦ absurd (omega (arith, here, less, from s (inr written)))
              | inr locked ↦ elim locked [ inl here ↦ inl (sym here ∙ same) | inr there ↦ inr there ]
            ];
          } in
          rw (step_next segment end lock locks (span_of range) other same) (follow_from range.segment (range_end range) locks ranges still later)
    ]

-- from the start: no range is of segment 0, since none begins beyond the end of a segment

written_some : (ranges : List RangeData) (s : ℕ) → AllByRecursion IsRange ranges → Ordered 0 262144 ranges → Writes s ranges → 0 < s
written_some [] s is h written = absurd written
written_some (range ∷ ranges) s is h written =
    let first : 0 < range.segment = elim h.0 [ inl less ↦ less | inr both ↦ absurd (omega (arith, both.1, is.0)) ] in
    omega (arith, first, written_from range ranges s h.1 written)

pub record Fits (locks : List Lock) (ranges : List RangeData) : Type 0 where
  pub ranges_ascend : Chain IsBefore ranges
  pub same_segments : (s : ℕ) → Locks s locks ↔ Writes s ranges

ordered_any : (segment end : ℕ) (ranges : List RangeData) → Ordered segment end ranges → Chain IsBefore ranges
ordered_any segment end [] h = tt
ordered_any segment end (range ∷ ranges) h = h.1

pub start_takes : (locks : List Lock) (ranges : List RangeData) → Ascends 0 locks → AllByRecursion IsRange ranges → follow (start locks) ranges ≡ true → Fits locks ranges
start_takes locks ranges up is e =
    let f : Followed 0 262144 locks ranges = follow_takes 0 262144 locks ranges up e in
    record {
      ranges_ascend = ordered_any 0 262144 ranges f.ordered;
      same_segments = λ s. (
        f.used s,
        λ written. elim (f.locked s written) [
          | inl none ↦ absurd (omega (arith, none, written_some ranges s is f.ordered written))
          | inr locked ↦ locked
        ],
      );
    }

locked_some : (locks : List Lock) (s : ℕ) → AllByRecursion IsLock locks → Locks s locks → 0 < s
locked_some [] s is locked = absurd locked
locked_some (lock ∷ locks) s is locked = elim locked [ inl here ↦ omega (arith, here, is.0) | inr there ↦ locked_some locks s is.1 there ]

ordered_start : (ranges : List RangeData) → ((s : ℕ) → Writes s ranges → 0 < s) → Chain IsBefore ranges → Ordered 0 262144 ranges
ordered_start [] some h = tt
ordered_start (range ∷ ranges) some h = (inl (some range.segment (inl refl)), h)

pub start_from : (locks : List Lock) (ranges : List RangeData) → AllByRecursion IsLock locks → Ascends 0 locks → Chain IsBefore ranges → ((s : ℕ) → Locks s locks ↔ Writes s ranges) → follow (start locks) ranges ≡ true
start_from locks ranges is up chain same =
    follow_from 0 262144 locks ranges up (record {
      ordered = ordered_start ranges (λ s written. locked_some locks s is ((same s).1 written)) chain;
      used = λ s. (same s).0;
      locked = λ s written. inr ((same s).1 written);
    })

-- Locks that are counted one after another, and one turn after another.
use Rattle.std.proofs.Common.{◌≡◌, ◌≢◌, ℕ, zero, suc, ◌+◌, ◌-◌, ◌<◌, ◌≤◌, Bool, true, ◌==◌, All, List, [], ◌∷◌, ◌++◌, filter, length, take, refl, sym, ◌∙◌, ap, subst, arith, inl, inr, add-one, eqb-true, eq-eqb, ne_eqb, append_assoc, length-append}
use Rattle.std.specs.Prelude.{nat_lt, slice_index_or, slice_set, if◌then◌else◌}
use Rattle.std.specs.List.{list_all}
use Rattle.std.specs.Global.{Vec}
use Rattle.std.proofs.lemmas.Bool.{and_from, and_parts, cases_eq, cases_lt, lt-ltb, ltb-true}
use Rattle.std.proofs.lemmas.List.{append-nil, get_or-map, get_or-set_same, get_or-set_other, get_or_default, get_or_past}
use Rattle.std.proofs.lemmas.List.Elements.{All-nil, All-cons, All-head, All-tail, filter-append}
use Rattle.lc_record.specs.declared.record.Lock.{Lock}
use Rattle.lc_record.specs.declared.record.Record.{Record}
use Rattle.lc_rest.specs.Adopted.{IsNext}
use Rattle.lc_rest.specs.Merge.{AreDone, AreTurns, IsStuck, MayTurn, after_turns, counted_by, is_next_lock, logs_of, no_record, number_at, record_at, times}

counted-next : (locks : List Lock) (numbers : List ℕ) (i : ℕ) (d : Lock) → i < length locks
    → slice_set (counted_by (take i locks) numbers) ((slice_index_or locks i d).segment - 1) (slice_index_or locks i d).seq ≡ counted_by (take (suc i) locks) numbers
counted-next [] numbers i d less = absurd (omega (arith, less))
counted-next (lock ∷ locks) numbers zero d less = refl
counted-next (lock ∷ locks) numbers (suc i) d less = counted-next locks (slice_set numbers (lock.segment - 1) lock.seq) i d (omega (arith, less))

pub counted-more : (locks : List Lock) (now numbers : List ℕ) (i : ℕ) (d : Lock) → i < length locks → now ≡ counted_by (take i locks) numbers
    → slice_set now ((slice_index_or locks i d).segment - 1) (slice_index_or locks i d).seq ≡ counted_by (take (i + 1) locks) numbers
counted-more locks now numbers i d less is =
    ap (λ (l : List ℕ). slice_set l ((slice_index_or locks i d).segment - 1) (slice_index_or locks i d).seq) is ∙ counted-next locks numbers i d less ∙ ap (λ n. counted_by (take n locks) numbers) (sym (add-one i))

-- Locks with the next numbers

lock-next : (f : ℕ → ℕ) (lock : Lock) → is_next_lock f lock ≡ true → lock.seq ≡ f lock.segment + 1
lock-next f lock is =
    let both = and_parts (nat_lt 0 lock.seq) (lock.seq - 1 == f lock.segment) is in
    let some = ltb-true 0 lock.seq both.0 in
    let same = eqb-true (lock.seq - 1) (f lock.segment) both.1 in
    omega (arith, some, same)

next-lock : (f : ℕ → ℕ) (lock : Lock) → lock.seq ≡ f lock.segment + 1 → is_next_lock f lock ≡ true
next-lock f lock is = and_from (nat_lt 0 lock.seq) (lock.seq - 1 == f lock.segment) (lt-ltb 0 lock.seq (omega (arith, is))) (eq-eqb (lock.seq - 1) (f lock.segment) (omega (arith, is)))

pub are-next : (f : ℕ → ℕ) (locks : List Lock) → list_all (is_next_lock f) locks ≡ true → All (λ (lock : Lock). lock.seq ≡ f lock.segment + 1) locks
are-next f [] is = All-nil (λ (lock : Lock). lock.seq ≡ f lock.segment + 1)
are-next f (lock ∷ locks) is =
    let both = and_parts (is_next_lock f lock) (list_all (is_next_lock f) locks) is in
    All-cons (λ (l : Lock). l.seq ≡ f l.segment + 1) lock locks (lock-next f lock both.0) (are-next f locks both.1)

pub next-are : (f : ℕ → ℕ) (locks : List Lock) → All (λ (lock : Lock). lock.seq ≡ f lock.segment + 1) locks → list_all (is_next_lock f) locks ≡ true
next-are f [] all = refl
next-are f (lock ∷ locks) all =
    and_from (is_next_lock f lock) (list_all (is_next_lock f) locks) (next-lock f lock (All-head (λ (l : Lock). l.seq ≡ f l.segment + 1) lock locks all)) (next-are f locks (All-tail (λ (l : Lock). l.seq ≡ f l.segment + 1) lock locks all))

-- One turn more

pub turns-more : (logs : List (List Record)) (numbers before ns : List ℕ) (n : ℕ) → AreTurns logs numbers before ns → IsNext (number_at (after_turns logs numbers before ns)) (record_at logs n (times n (before ++ ns)))
    → AreTurns logs numbers before (ns ++ n ∷ [])
turns-more logs numbers before [] n are next = (subst (λ (b : List ℕ). IsNext (number_at numbers) (record_at logs n (times n b))) (append-nil before) next, tt)
turns-more logs numbers before (k ∷ ns) n are next = (
  are.0,
  turns-more logs (counted_by (record_at logs k (times k before)).locks numbers) (before ++ k ∷ []) ns n are.1
      (subst (λ (b : List ℕ). IsNext (number_at (after_turns logs (counted_by (record_at logs k (times k before)).locks numbers) (before ++ k ∷ []) ns)) (record_at logs n (times n b))) (sym (append_assoc before (k ∷ []) ns)) next),
)

pub after-more : (logs : List (List Record)) (numbers before ns : List ℕ) (n : ℕ) → after_turns logs numbers before (ns ++ n ∷ []) ≡ counted_by (record_at logs n (times n (before ++ ns))).locks (after_turns logs numbers before ns)
after-more logs numbers before [] n = ap (λ (b : List ℕ). counted_by (record_at logs n (times n b)).locks numbers) (sym (append-nil before))
after-more logs numbers before (k ∷ ns) n =
    after-more logs (counted_by (record_at logs k (times k before)).locks numbers) (before ++ k ∷ []) ns n
    ∙ ap (λ (b : List ℕ). counted_by (record_at logs n (times n b)).locks (after_turns logs (counted_by (record_at logs k (times k before)).locks numbers) (before ++ k ∷ []) ns)) (append_assoc before (k ∷ []) ns)

pub times-own : (n : ℕ) (turns : List ℕ) → times n (turns ++ n ∷ []) ≡ times n turns + 1
times-own n turns = ap length (filter-append (λ k. k == n) turns (n ∷ [])) ∙ length-append (filter (λ k. k == n) turns) (filter (λ k. k == n) (n ∷ [])) ∙ ap (λ (b : Bool). times n turns + length (if b then n ∷ [] else [])) (eq-eqb n n refl)

pub times-other : (n m : ℕ) (turns : List ℕ) → m ≢ n → times n (turns ++ m ∷ []) ≡ times n turns
times-other n m turns differ =
    let none : times n turns + 0 ≡ times n turns = omega arith in
    ap length (filter-append (λ k. k == n) turns (m ∷ [])) ∙ length-append (filter (λ k. k == n) turns) (filter (λ k. k == n) (m ∷ [])) ∙ ap (λ (b : Bool). times n turns + length (if b then m ∷ [] else [])) (ne_eqb m n differ) ∙ none

pub done-more : (logs : List (List Record)) (done turns : List ℕ) (n : ℕ) → length done ≡ length logs → n < length logs → slice_index_or done n 0 < length (slice_index_or logs n []) → AreDone logs done turns
    → AreDone logs (slice_set done n (slice_index_or done n 0 + 1)) (turns ++ n ∷ [])
done-more logs done turns n same known some are node within =
    elim (cases_eq node n) [
      | inl here ↦
          let its = are n known in
          let own = times-own n turns in
          subst (λ (k : ℕ). (slice_index_or (slice_set done n (slice_index_or done n 0 + 1)) k 0 ≡ times k (turns ++ n ∷ [])) × (times k (turns ++ n ∷ []) ≤ length (slice_index_or logs k []))) (sym here)
          (get_or-set_same done n (slice_index_or done n 0 + 1) 0 (omega (arith, same, known)) ∙ omega (arith, its.0, own), omega (arith, its.0, own, some))
      | inr other ↦
          let its = are node within in
          let apart : n ≢ node = λ e. other (sym e) in
          let same_times = times-other node n turns apart in
          (get_or-set_other done n node (slice_index_or done n 0 + 1) 0 other ∙ its.0 ∙ sym same_times, omega (arith, its.1, same_times))
    ]

-- how many records of all nodes have not had their turn
abbrev pub records_left : List (List Record) → List ℕ → ℕ
records_left [] done = 0
records_left (log ∷ logs) [] = 0
records_left (log ∷ logs) (n ∷ done) = (length log - n) + records_left logs done

pub left-less : (logs : List (List Record)) (done : List ℕ) (n : ℕ) → n < length done → slice_index_or done n 0 < length (slice_index_or logs n [])
    → records_left logs (slice_set done n (slice_index_or done n 0 + 1)) < records_left logs done
left-less logs [] n less some = absurd (omega (arith, less))
left-less [] (d ∷ done) n less some = absurd (omega (arith, some))
left-less (log ∷ logs) (d ∷ done) zero less some = omega (arith, some)
left-less (log ∷ logs) (d ∷ done) (suc n) less some = (let rest = left-less logs done n (omega (arith, less)) some in omega (arith, rest))

-- where no node may have its turn, the least that has a record left is stuck
pub is-stuck : (logs : List (List Record)) (numbers done now turns : List ℕ) (node : ℕ) → AreDone logs done turns → ((n : ℕ) → length logs ≤ n → times n turns ≡ 0) → AreTurns logs numbers [] turns → now ≡ after_turns logs numbers [] turns
    → ((n : ℕ) → MayTurn logs done now n → ⊥) → slice_index_or done node 0 < length (slice_index_or logs node []) → ((n : ℕ) → n < node → length (slice_index_or logs n []) ≤ slice_index_or done n 0)
    → IsStuck logs numbers turns node
is-stuck logs numbers done now turns node are none turned is halts left below = record {
  turned = turned;
  within = within;
  left = (let its = (are node (some-log node (omega (arith, left)))).0 in omega (arith, its, left));
  least = λ n some. elim (cases_lt n node) [
    | inl before ↦ absurd (let known = some-log node (omega (arith, left)) in let its = (are n (omega (arith, before, known))).0 in let most = below n before in omega (arith, its, most, some))
    | inr behind ↦ behind
  ];
  none = λ n some next. (let inside = some-log n (omega (arith, some)) in let its = (are n inside).0 in halts n (record {
    known = inside;
    some = subst (λ (k : ℕ). k < length (slice_index_or logs n [])) (sym its) some;
    next = subst (λ (k : ℕ). IsNext (number_at now) (record_at logs n k)) (sym its) (subst (λ (ns : List ℕ). IsNext (number_at ns) (record_at logs n (times n turns))) (sym is) next);
  }));
}
  where
    within : (n : ℕ) → times n turns ≤ length (slice_index_or logs n [])
    within n = elim (cases_lt n (length logs)) [
      | inl inside ↦ (are n inside).1
      | inr past ↦ (let zero_times = none n past in omega (arith, zero_times))
    ]

    some-log : (n : ℕ) → 0 < length (slice_index_or logs n []) → n < length logs
    some-log n some = elim (cases_lt n (length logs)) [
      | inl inside ↦ inside
      | inr past ↦ absurd (let nothing : length (slice_index_or logs n []) ≡ 0 = ap length (get_or_past logs n [] past) in omega (arith, nothing, some))
    ]

-- the record that is found is that of the node's turn
pub found-record : (logs : List (Vec Record)) (done : List ℕ) (node i : ℕ) (log : Vec Record) (r : Record) → length done ≡ length logs → node < length logs → slice_index_or done node 0 < length (slice_index_or (logs_of logs) node [])
    → i ≡ slice_index_or done node i → log ≡ slice_index_or logs node log → r ≡ slice_index_or log.items i r → r ≡ record_at (logs_of logs) node (slice_index_or done node 0)
found-record logs done node i log r long known some at log_is r_is =
    let place : i ≡ slice_index_or done node 0 = at ∙ get_or_default done node i 0 (omega (arith, long, known)) in
    let items : slice_index_or (logs_of logs) node [] ≡ log.items = get_or-map (λ (l : Vec Record). l.items) logs node log [] known ∙ ap (λ (l : Vec Record). l.items) (sym log_is) in
    let within : slice_index_or done node 0 < length log.items = subst (λ (l : List Record). slice_index_or done node 0 < length l) items some in
    r_is ∙ ap (λ k. slice_index_or log.items k r) place ∙ get_or_default log.items (slice_index_or done node 0) r no_record within ∙ ap (λ (l : List Record). slice_index_or l (slice_index_or done node 0) no_record) (sym items)

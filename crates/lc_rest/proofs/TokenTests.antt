-- One item more of a test.
use Rattle.std.proofs.Common.{◌≡◌, ℕ, zero, suc, ◌+◌, ◌<◌, ◌≤◌, Bool, true, false, ◌==◌, List, [], ◌∷◌, length, take, refl, sym, ◌∙◌, ap, arith, add-one}
use Rattle.std.specs.Prelude.{Option, Some, None, slice_index_or, if◌then◌else◌}
use Rattle.std.specs.Global.{Vec}
use Rattle.std.proofs.lemmas.List.{get_or-map}
use Rattle.lc_record.specs.declared.record.Record.{Record}
use Rattle.lc_rest.specs.Merge.{logs_of}
use Rattle.lc_rest.specs.TokenTest.{count_log, count_on}
use Rattle.lc_record.specs.Part.{number_in}
use Rattle.lc_record.specs.declared.record.Lock.{Lock}

-- the number under a lock that is found
abbrev or_number : Bool → ℕ → Option ℕ → Option ℕ
or_number b seq rest = if b then Some seq else rest

none-head : (b : Bool) (seq : ℕ) (rest : Option ℕ) → or_number b seq rest ≡ None → (b ≡ false) × (rest ≡ None)
none-head true seq rest is = absurd cc
none-head false seq rest is = (refl, is)

pub number-found : (segment : ℕ) (locks : List Lock) (i : ℕ) (d : Lock) → i < length locks → number_in segment (take i locks) ≡ None → ((slice_index_or locks i d).segment == segment) ≡ true
    → number_in segment locks ≡ Some (slice_index_or locks i d).seq
number-found segment [] i d less none is = absurd (omega (arith, less))
number-found segment (lock ∷ locks) zero d less none is = ap (λ b. or_number b lock.seq (number_in segment locks)) is
number-found segment (lock ∷ locks) (suc i) d less none is =
    let both = none-head (lock.segment == segment) lock.seq (number_in segment (take i locks)) none in
    ap (λ b. or_number b lock.seq (number_in segment locks)) both.0 ∙ number-found segment locks i d (omega (arith, less)) both.1 is

number-none : (segment : ℕ) (locks : List Lock) (i : ℕ) (d : Lock) → i < length locks → number_in segment (take i locks) ≡ None → ((slice_index_or locks i d).segment == segment) ≡ false
    → number_in segment (take (suc i) locks) ≡ None
number-none segment [] i d less none is = absurd (omega (arith, less))
number-none segment (lock ∷ locks) zero d less none is = ap (λ b. or_number b lock.seq None) is
number-none segment (lock ∷ locks) (suc i) d less none is =
    let both = none-head (lock.segment == segment) lock.seq (number_in segment (take i locks)) none in
    ap (λ b. or_number b lock.seq (number_in segment (take (suc i) locks))) both.0 ∙ number-none segment locks i d (omega (arith, less)) both.1 is

pub number-more : (segment : ℕ) (locks : List Lock) (i : ℕ) (d : Lock) → i < length locks → number_in segment (take i locks) ≡ None → ((slice_index_or locks i d).segment == segment) ≡ false
    → number_in segment (take (i + 1) locks) ≡ None
number-more segment locks i d less none is = ap (λ n. number_in segment (take n locks)) (add-one i) ∙ number-none segment locks i d less none is

-- The logs, one more

count-next : (segment : ℕ) (logs : List (Vec Record)) (i : ℕ) (d : Vec Record) → i < length logs
    → count_on segment (logs_of (take (suc i) logs)) ≡ count_on segment (logs_of (take i logs)) + count_log segment (slice_index_or logs i d).items
count-next segment [] i d less = absurd (omega (arith, less))
count-next segment (log ∷ logs) zero d less = omega arith
count-next segment (log ∷ logs) (suc i) d less =
    let later = count-next segment logs i d (omega (arith, less)) in omega (arith, later)

pub count-more : (segment : ℕ) (logs : List (Vec Record)) (count i : ℕ) (d : Vec Record) → i < length logs → count ≡ count_on segment (logs_of (take i logs))
    → count + count_log segment (slice_index_or logs i d).items ≡ count_on segment (logs_of (take (i + 1) logs))
count-more segment logs count i d less is =
    ap (λ n. n + count_log segment (slice_index_or logs i d).items) is ∙ sym (count-next segment logs i d less) ∙ ap (λ n. count_on segment (logs_of (take n logs))) (sym (add-one i))

pub count-most : (segment n : ℕ) (logs : List (Vec Record)) → count_on segment (logs_of (take n logs)) ≤ count_on segment (logs_of logs)
count-most segment zero logs = omega arith
count-most segment (suc n) [] = omega arith
count-most segment (suc n) (log ∷ logs) = (let rest = count-most segment n logs in omega (arith, rest))

pub log-items : (logs : List (Vec Record)) (node : ℕ) (log : Vec Record) → node < length logs → log ≡ slice_index_or logs node log → log.items ≡ slice_index_or (logs_of logs) node []
log-items logs node log less is =
    sym (get_or-map (λ (l : Vec Record). l.items) logs node log [] less ∙ ap (λ (l : Vec Record). l.items) (sym is))

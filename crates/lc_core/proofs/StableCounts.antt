-- How many stable records of a segment there are: in the logs, each up to its count, and among all records in the order of their merge.
use Rattle.std.proofs.Common.{◌≡◌, ◌≢◌, ℕ, zero, suc, ◌+◌, ◌-◌, ◌<◌, ◌≤◌, Bool, true, false, ◌&&◌, ◌==◌, List, [], ◌∷◌, ◌++◌, filter, length, take, drop, All, refl, sym, ap, ◌∙◌, arith, inl, inr, eq-eqb, ne_eqb, length-append}
use Rattle.std.specs.Prelude.{nat_lt, slice_index_or, if◌then◌else◌}
use Rattle.std.proofs.Math.Seq.{take-nil}
use Rattle.std.proofs.lemmas.Bool.{cases_lt, le-ltb, lt-ltb}
use Rattle.std.proofs.lemmas.List.Elements.{All-head, All-tail, filter-append}
use Rattle.lc_record.specs.declared.record.Record.{Record}
use Rattle.lc_rest.proofs.Stables.{count-behind as dropped_one}
use Rattle.lc_model.specs.Merging.{is_from}
use Rattle.lc_rest.specs.Adopted.{count_from}
use Rattle.lc_rest.specs.Stable.{stable_count}
use Rattle.lc_rest.specs.TokenTest.{count_log, count_on}
use Rattle.lc_rest.specs.Turns.{Turn, has_lock, stable_on, turns_of}

-- A sum over the nodes

total : (ℕ → ℕ) → ℕ → ℕ
total f zero = 0
total f (suc n) = f 0 + total (λ k. f (suc k)) n

total_same : (f h : ℕ → ℕ) (n : ℕ) → ((k : ℕ) → f k ≡ h k) → total f n ≡ total h n
unfolding total
total_same f h zero same = refl
total_same f h (suc n) same = (let one = same 0 in let rest = total_same (λ k. f (suc k)) (λ k. h (suc k)) n (λ k. same (suc k)) in omega (arith, one, rest))

total_none : (f : ℕ → ℕ) (n : ℕ) → ((k : ℕ) → f k ≡ 0) → total f n ≡ 0
unfolding total
total_none f zero none = refl
total_none f (suc n) none = (let one = none 0 in let rest = total_none (λ k. f (suc k)) n (λ k. none (suc k)) in omega (arith, one, rest))

-- where one of them has so many more
total_more : (f h : ℕ → ℕ) (m more n : ℕ) → m < n → f m ≡ h m + more → ((k : ℕ) → k ≢ m → f k ≡ h k) → total f n ≡ total h n + more
unfolding total
total_more f h m more zero less its others = absurd (omega (arith, less))
total_more f h zero more (suc n) less its others =
    let rest = total_same (λ k. f (suc k)) (λ k. h (suc k)) n (λ k. others (suc k) (λ e. absurd (omega (arith, e)))) in
    omega (arith, its, rest)
total_more f h (suc m) more (suc n) less its others =
    let one = others 0 (λ e. absurd (omega (arith, e))) in
    let rest = total_more (λ k. f (suc k)) (λ k. h (suc k)) m more n (omega (arith, less)) its (λ k other. others (suc k) (λ e. other (omega (arith, e)))) in
    omega (arith, one, rest)

-- In the logs

in_logs : (segment : ℕ) (logs : List (List Record)) (counts : List ℕ) → stable_count segment logs counts ≡ total (λ n. count_log segment (take (slice_index_or counts n 0) (slice_index_or logs n []))) (length logs)
unfolding total
in_logs segment [] counts = refl
in_logs segment (log ∷ logs) counts =
    ap (λ (k : ℕ). count_log segment (take (slice_index_or counts 0 0) log) + k)
    (in_logs segment logs (drop 1 counts) ∙ total_same (λ n. count_log segment (take (slice_index_or (drop 1 counts) n 0) (slice_index_or logs n []))) (λ n. count_log segment (take (slice_index_or counts (suc n) 0) (slice_index_or logs n []))) (length logs)
    (λ n. ap (λ (k : ℕ). count_log segment (take k (slice_index_or logs n []))) (dropped_one counts n)))

-- there are no more than all
fewer_taken : (segment n : ℕ) (log : List Record) → count_log segment (take n log) ≤ count_log segment log
fewer_taken segment zero log = omega arith
fewer_taken segment (suc n) [] = omega arith
fewer_taken segment (suc n) (r ∷ log) = one (has_lock segment r) (fewer_taken segment n log)
  where
    one : (b : Bool) → count_log segment (take n log) ≤ count_log segment log
        → length (if b then r ∷ filter (has_lock segment) (take n log) else filter (has_lock segment) (take n log)) ≤ length (if b then r ∷ filter (has_lock segment) log else filter (has_lock segment) log)
    one true rest = omega (arith, rest)
    one false rest = rest

pub stable_within : (segment : ℕ) (logs : List (List Record)) (counts : List ℕ) → stable_count segment logs counts ≤ count_on segment logs
stable_within segment [] counts = omega arith
stable_within segment (log ∷ logs) counts = (let one = fewer_taken segment (slice_index_or counts 0 0) log in let rest = stable_within segment logs (drop 1 counts) in omega (arith, one, rest))

-- In the order of their merge

-- how many stable ones of a node are among these, after so many before
abbrev of_node : ℕ → (ℕ → ℕ) → List Record → List Record → ℕ → ℕ
of_node segment stable before rs n = count_log segment (take (stable n - count_from n before) (filter (is_from n) rs))

counted_on : (n : ℕ) (before : List Record) (r : Record) → count_from n (before ++ r ∷ []) ≡ count_from n before + length (if r.node == n then r ∷ [] else [])
counted_on n before r = ap length (filter-append (is_from n) before (r ∷ [])) ∙ length-append (filter (is_from n) before) (filter (is_from n) (r ∷ []))

-- one more record, of its node
one_counted : (segment count stable : ℕ) (r : Record) (log : List Record)
    → count_log segment (take (stable - count) (r ∷ log)) ≡ count_log segment (take (stable - (count + 1)) log) + (if nat_lt count stable && has_lock segment r then 1 else 0)
one_counted segment count stable r log = elim (cases_lt count stable) [
  | inl less ↦
      let one_more : stable - count ≡ suc (stable - (count + 1)) = omega (arith, less) in
      ap (λ (k : ℕ). count_log segment (take k (r ∷ log))) one_more ∙ in_front (has_lock segment r)
      ∙ ap (λ (b : Bool). count_log segment (take (stable - (count + 1)) log) + (if b && has_lock segment r then 1 else 0)) (sym (lt-ltb count stable less))
  | inr past ↦
      let none : stable - count ≡ 0 = omega (arith, past) in
      let none_behind : 0 ≡ stable - (count + 1) = omega (arith, past) in
      let no_more : (n : ℕ) → n ≡ n + 0 = λ n. omega arith in
      ap (λ (k : ℕ). count_log segment (take k (r ∷ log))) none ∙ ap (λ (k : ℕ). count_log segment (take k log)) none_behind ∙ no_more (count_log segment (take (stable - (count + 1)) log))
      ∙ ap (λ (b : Bool). count_log segment (take (stable - (count + 1)) log) + (if b && has_lock segment r then 1 else 0)) (sym (le-ltb count stable past))
]
  where
    in_front : (b : Bool) → length (if b then r ∷ filter (has_lock segment) (take (stable - (count + 1)) log) else filter (has_lock segment) (take (stable - (count + 1)) log))
        ≡ length (filter (has_lock segment) (take (stable - (count + 1)) log)) + (if b then 1 else 0)
    in_front true = omega arith
    in_front false = omega arith

own_counted : (segment : ℕ) (stable : ℕ → ℕ) (before : List Record) (r : Record) (rs : List Record)
    → of_node segment stable before (r ∷ rs) r.node ≡ of_node segment stable (before ++ r ∷ []) rs r.node + (if nat_lt (count_from r.node before) (stable r.node) && has_lock segment r then 1 else 0)
own_counted segment stable before r rs =
    let own : (r.node == r.node) ≡ true = eq-eqb r.node r.node refl in
    let count : count_from r.node (before ++ r ∷ []) ≡ count_from r.node before + 1 = counted_on r.node before r ∙ ap (λ (b : Bool). count_from r.node before + length (if b then r ∷ [] else [])) own in
    ap (λ (b : Bool). count_log segment (take (stable r.node - count_from r.node before) (if b then r ∷ filter (is_from r.node) rs else filter (is_from r.node) rs))) own
    ∙ one_counted segment (count_from r.node before) (stable r.node) r (filter (is_from r.node) rs)
    ∙ ap (λ (k : ℕ). count_log segment (take (stable r.node - k) (filter (is_from r.node) rs)) + (if nat_lt (count_from r.node before) (stable r.node) && has_lock segment r then 1 else 0)) (sym count)

other_counted : (segment : ℕ) (stable : ℕ → ℕ) (before : List Record) (r : Record) (rs : List Record) (n : ℕ) → n ≢ r.node → of_node segment stable before (r ∷ rs) n ≡ of_node segment stable (before ++ r ∷ []) rs n
other_counted segment stable before r rs n other =
    let differ : (r.node == n) ≡ false = ne_eqb r.node n (λ e. other (sym e)) in
    let no_more : count_from n before + 0 ≡ count_from n before = omega arith in
    let count : count_from n (before ++ r ∷ []) ≡ count_from n before = counted_on n before r ∙ ap (λ (b : Bool). count_from n before + length (if b then r ∷ [] else [])) differ ∙ no_more in
    ap (λ (b : Bool). count_log segment (take (stable n - count_from n before) (if b then r ∷ filter (is_from n) rs else filter (is_from n) rs))) differ
    ∙ ap (λ (k : ℕ). count_log segment (take (stable n - k) (filter (is_from n) rs))) (sym count)

one_on : (c : Bool) (u : Turn) (us : List Turn) → length (if c then u ∷ us else us) ≡ length us + (if c then 1 else 0)
one_on true u us = omega arith
one_on false u us = omega arith

in_turns : (segment nodes : ℕ) (stable : ℕ → ℕ) (before rs : List Record) → All (λ (r : Record). r.node < nodes) rs → stable_on segment (turns_of stable before rs) ≡ total (of_node segment stable before rs) nodes
in_turns segment nodes stable before [] known = sym (total_none (of_node segment stable before []) nodes (λ n. ap (λ (l : List Record). count_log segment l) (take-nil (stable n - count_from n before))))
in_turns segment nodes stable before (r ∷ rs) known =
    let u : Turn = record { whole = r; stable = nat_lt (count_from r.node before) (stable r.node) } in
    let more : ℕ = if nat_lt (count_from r.node before) (stable r.node) && has_lock segment r then 1 else 0 in
    one_on (nat_lt (count_from r.node before) (stable r.node) && has_lock segment r) u (filter (λ (v : Turn). v.stable && has_lock segment v.whole) (turns_of stable (before ++ r ∷ []) rs))
    ∙ ap (λ (k : ℕ). k + more) (in_turns segment nodes stable (before ++ r ∷ []) rs (All-tail (λ (q : Record). q.node < nodes) r rs known))
    ∙ sym (total_more (of_node segment stable before (r ∷ rs)) (of_node segment stable (before ++ r ∷ []) rs) r.node more nodes (All-head (λ (q : Record). q.node < nodes) r rs known) (own_counted segment stable before r rs)
    (other_counted segment stable before r rs))

-- where these are the records of all logs, both counts are the same
pub stable_counted : (segment : ℕ) (logs : List (List Record)) (counts : List ℕ) (rs : List Record) → All (λ (r : Record). r.node < length logs) rs → ((n : ℕ) → filter (is_from n) rs ≡ slice_index_or logs n [])
    → stable_on segment (turns_of (λ n. slice_index_or counts n 0) [] rs) ≡ stable_count segment logs counts
stable_counted segment logs counts rs known own =
    let all_of_it : (k : ℕ) → k - 0 ≡ k = λ k. omega arith in
    in_turns segment (length logs) (λ n. slice_index_or counts n 0) [] rs known
    ∙ total_same (of_node segment (λ n. slice_index_or counts n 0) [] rs) (λ n. count_log segment (take (slice_index_or counts n 0) (slice_index_or logs n []))) (length logs)
    (λ n. ap (λ (l : List Record). count_log segment (take (slice_index_or counts n 0 - 0) l)) (own n) ∙ ap (λ (k : ℕ). count_log segment (take k (slice_index_or logs n []))) (all_of_it (slice_index_or counts n 0)))
    ∙ sym (in_logs segment logs counts)

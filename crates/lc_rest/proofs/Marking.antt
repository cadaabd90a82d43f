-- Numbers that are marked, one record after another.
use Rattle.std.proofs.Common.{◌≡◌, ℕ, zero, suc, ◌+◌, ◌-◌, ◌<◌, ◌≤◌, Bool, true, false, ◌==◌, List, [], ◌∷◌, ◌++◌, filter, length, take, drop, All, add-one, refl, sym, ◌∙◌, ap, subst, arith, inl, inr, eq-eqb, ne_eqb, append_assoc, length-append, length-set}
use Rattle.std.specs.Prelude.{Option, Some, slice_index_or, slice_set, if◌then◌else◌}
use Rattle.std.specs.List.{list_all}
use Rattle.std.specs.Option.{unwrap_or}
use Rattle.std.proofs.lemmas.Bool.{and_from, and_parts, cases_eq}
use Rattle.std.proofs.lemmas.List.{append-nil, drop_more, get_or-set_other, get_or-set_same, get_or_at, take-append-drop, take_more}
use Rattle.std.specs.Global.{Vec}
use Rattle.std.proofs.lemmas.List.Elements.{All-cons, All-head, All-nil, All-push, All-tail, filter-append}
use Rattle.lc_record.specs.Part.{number_in}
use Rattle.lc_record.specs.declared.record.Record.{Record}
use Rattle.lc_model.specs.Merge.{has_number}
use Rattle.lc_rest.specs.NumbersTest.{AreMarked, AreNumbered, IsBetween, how_many, joined_logs}

abbrev one_if : Bool → ℕ
one_if b = if b then 1 else 0

one_of : (r : Record) (rs : List Record) (b : Bool) → length (if b then r ∷ rs else rs) ≡ (if b then 1 else 0) + length rs
one_of r rs true = omega arith
one_of r rs false = omega arith

how-parts : (segment number : ℕ) (rs : List Record) (r : Record) (behind : List Record)
    → how_many segment number (rs ++ r ∷ behind) ≡ how_many segment number rs + ((if has_number segment number r then 1 else 0) + how_many segment number behind)
how-parts segment number rs r behind =
    ap length (filter-append (has_number segment number) rs (r ∷ behind)) ∙ length-append (filter (has_number segment number) rs) (filter (has_number segment number) (r ∷ behind))
    ∙ ap (λ k. how_many segment number rs + k) (one_of r (filter (has_number segment number) behind) (has_number segment number r))

has-other : (segment number : ℕ) (r : Record) (o : Option ℕ) → number_in segment r.locks ≡ o → (unwrap_or o 0 ≡ number → ⊥) → has_number segment number r ≡ false
has-other segment number r o is differ = ap (λ (x : Option ℕ). unwrap_or x 0 == number) is ∙ ne_eqb (unwrap_or o 0) number differ

has-own : (segment number : ℕ) (r : Record) (o : Option ℕ) → number_in segment r.locks ≡ o → unwrap_or o 0 ≡ number → has_number segment number r ≡ true
has-own segment number r o is same = ap (λ (x : Option ℕ). unwrap_or x 0 == number) is ∙ eq-eqb (unwrap_or o 0) number same

-- one more that has the number, or has it not
how-more : (segment number : ℕ) (rs : List Record) (r : Record) (b : Bool) → has_number segment number r ≡ b → how_many segment number (rs ++ r ∷ []) ≡ how_many segment number rs + (if b then 1 else 0)
how-more segment number rs r b is =
    how-parts segment number rs r [] ∙ ap (λ k. how_many segment number rs + k) (ap (λ (h : Bool). (if h then 1 else 0) + 0) is ∙ end (if b then 1 else 0))
  where
    end : (n : ℕ) → n + 0 ≡ n
    end n = omega arith

pub mark-one : (segment first : ℕ) (rs : List Record) (marks : List Bool) (r : Record) (number place : ℕ) → number_in segment r.locks ≡ Some number → number ≡ first + 1 + place → place < length marks
    → ((d : Bool) → slice_index_or marks place d ≡ false) → AreMarked segment first rs marks → AreMarked segment first (rs ++ r ∷ []) (slice_set marks place true)
mark-one segment first rs marks r number place has is within unmarked are = record {
  between = subst (λ (n : ℕ). All (IsBetween segment first (first + n)) (rs ++ r ∷ [])) (sym (length-set marks place true))
      (All-push (IsBetween segment first (first + length marks)) rs r are.between
      (λ other own. let both : Some number ≡ Some other = sym has ∙ own in let same : number ≡ other = cc in (omega (arith, same, is), omega (arith, same, is, within))));
  each = λ p d less. (let long = length-set marks place true in at p d (omega (arith, less, long)));
}
  where
    at : (p : ℕ) (d : Bool) → p < length marks → how_many segment (first + 1 + p) (rs ++ r ∷ []) ≡ (if slice_index_or (slice_set marks place true) p d then 1 else 0)
    at p d less = elim (cases_eq p place) [
      | inl same ↦
          let more = how-more segment (first + 1 + p) rs r true (has-own segment (first + 1 + p) r (Some number) has (omega (arith, is, same))) in
          let before = are.each p d less ∙ ap (λ (b : Bool). if b then 1 else 0) (ap (λ k. slice_index_or marks k d) same ∙ unmarked d) in
          let one : how_many segment (first + 1 + p) (rs ++ r ∷ []) ≡ 1 = omega (arith, more, before) in
          one ∙ sym (ap (λ (b : Bool). if b then 1 else 0) (ap (λ k. slice_index_or (slice_set marks place true) k d) same ∙ get_or-set_same marks place true d within))
      | inr other ↦
          let more = how-more segment (first + 1 + p) rs r false (has-other segment (first + 1 + p) r (Some number) has (λ e. other (let same : p ≡ place = omega (arith, e, is) in same))) in
          let kept : how_many segment (first + 1 + p) (rs ++ r ∷ []) ≡ how_many segment (first + 1 + p) rs = omega (arith, more) in
          kept ∙ are.each p d less ∙ sym (ap (λ (b : Bool). if b then 1 else 0) (get_or-set_other marks place p true d other))
    ]

-- Nothing is marked at first

pub mark-first : (segment first : ℕ) (marks : List Bool) → ((place : ℕ) (d : Bool) → place < length marks → slice_index_or marks place d ≡ false) → AreMarked segment first [] marks
mark-first segment first marks none = record {
  between = All-nil (IsBetween segment first (first + length marks));
  each = λ place d less. sym (ap (λ (b : Bool). if b then 1 else 0) (none place d less));
}

-- Records and logs, one more

pub front-more : (rs log : List Record) (i : ℕ) (d : Record) → i < length log → (rs ++ take i log) ++ slice_index_or log i d ∷ [] ≡ rs ++ take (i + 1) log
front-more rs log i d less = append_assoc rs (take i log) (slice_index_or log i d ∷ []) ∙ ap (λ l. rs ++ l) (sym (take_more log i d less))

pub front-split : (rs log behind : List Record) (i : ℕ) (d : Record) → i < length log → rs ++ (log ++ behind) ≡ (rs ++ take i log) ++ slice_index_or log i d ∷ (drop (i + 1) log ++ behind)
front-split rs log behind i d less =
    let whole : take i log ++ slice_index_or log i d ∷ drop (i + 1) log ≡ log = ap (λ l. take i log ++ l) (sym (drop_more log i d less)) ∙ take-append-drop i log in
    ap (λ l. rs ++ (l ++ behind)) (sym whole) ∙ ap (λ l. rs ++ l) (append_assoc (take i log) (slice_index_or log i d ∷ drop (i + 1) log) behind)
    ∙ sym (append_assoc rs (take i log) (slice_index_or log i d ∷ (drop (i + 1) log ++ behind)))

joined-next : (logs : List (Vec Record)) (i : ℕ) (d : Vec Record) → i < length logs → joined_logs (take i logs) ++ (slice_index_or logs i d).items ≡ joined_logs (take (suc i) logs)
joined-next [] i d less = absurd (omega (arith, less))
joined-next (log ∷ logs) zero d less = sym (append-nil log.items)
joined-next (log ∷ logs) (suc i) d less = append_assoc log.items (joined_logs (take i logs)) (slice_index_or logs i d).items ∙ ap (λ l. log.items ++ l) (joined-next logs i d (omega (arith, less)))

pub joined-more : (logs : List (Vec Record)) (i : ℕ) (d : Vec Record) → i < length logs → joined_logs (take i logs) ++ (slice_index_or logs i d).items ≡ joined_logs (take (i + 1) logs)
joined-more logs i d less = joined-next logs i d less ∙ ap (λ n. joined_logs (take n logs)) (sym (add-one i))

pub joined-split : (logs : List (Vec Record)) (i : ℕ) (d : Vec Record) → i < length logs → joined_logs logs ≡ joined_logs (take i logs) ++ ((slice_index_or logs i d).items ++ joined_logs (drop (suc i) logs))
joined-split [] i d less = absurd (omega (arith, less))
joined-split (log ∷ logs) zero d less = refl
joined-split (log ∷ logs) (suc i) d less =
    ap (λ l. log.items ++ l) (joined-split logs i d (omega (arith, less))) ∙ sym (append_assoc log.items (joined_logs (take i logs)) ((slice_index_or logs i d).items ++ joined_logs (drop (suc i) logs)))

-- What is not marked

between-own : (P : Record → Type 0) (rs behind : List Record) (r : Record) → All P (rs ++ r ∷ behind) → P r
between-own P rs behind r all =
    let long = length-append rs (r ∷ behind) in
    subst P (get_or_at rs r behind r (length rs) refl) (all (length rs) r (omega (arith, long)))

pub mark-outside : (segment first last : ℕ) (rs behind : List Record) (r : Record) (number : ℕ) → number_in segment r.locks ≡ Some number → (first < number → number ≤ last → ⊥) → AreNumbered segment first last (rs ++ r ∷ behind) → ⊥
mark-outside segment first last rs behind r number has outside numbered =
    let own = between-own (IsBetween segment first last) rs behind r numbered.between number has in outside own.0 own.1

pub mark-twice : (segment first : ℕ) (rs behind : List Record) (marks : List Bool) (r : Record) (number place : ℕ) → number_in segment r.locks ≡ Some number → number ≡ first + 1 + place → place < length marks
    → ((d : Bool) → slice_index_or marks place d ≡ true) → AreMarked segment first rs marks → AreNumbered segment first (first + length marks) (rs ++ r ∷ behind) → ⊥
mark-twice segment first rs behind marks r number place has is within marked are numbered =
    let before = are.each place true within ∙ ap (λ (b : Bool). if b then 1 else 0) (marked true) in
    let parts = how-parts segment (first + 1 + place) rs r behind ∙ ap (λ (b : Bool). how_many segment (first + 1 + place) rs + ((if b then 1 else 0) + how_many segment (first + 1 + place) behind)) (has-own segment (first + 1 + place) r (Some number) has is) in
    let once = numbered.once (first + 1 + place) (omega arith) (omega (arith, within)) in
    omega (arith, before, parts, once)

-- All of them

pub marked-all : (segment first last : ℕ) (rs : List Record) (marks : List Bool) → first + length marks ≡ last → All (λ (b : Bool). b ≡ true) marks → AreMarked segment first rs marks → AreNumbered segment first last rs
marked-all segment first last rs marks long all are = record {
  between = subst (λ (n : ℕ). All (IsBetween segment first n) rs) long are.between;
  once = λ number low high.
      (let place : ℕ = number - first - 1 in
      let same : first + 1 + place ≡ number = omega (arith, low) in
      let within : place < length marks = omega (arith, low, high, long) in
      ap (λ n. how_many segment n rs) (sym same) ∙ are.each place true within ∙ ap (λ (b : Bool). if b then 1 else 0) (all place true within));
}

pub numbered-marked : (segment first last : ℕ) (rs : List Record) (marks : List Bool) → first + length marks ≡ last → AreMarked segment first rs marks → AreNumbered segment first last rs → All (λ (b : Bool). b ≡ true) marks
numbered-marked segment first last rs marks long are numbered = λ place d within.
    let once = numbered.once (first + 1 + place) (omega arith) (omega (arith, within, long)) in
    set (slice_index_or marks place d) (sym (are.each place d within) ∙ once)
  where
    set : (b : Bool) → one_if b ≡ 1 → b ≡ true
    set true is = refl
    set false is = absurd (omega (arith, is))

pub all-set : (marks : List Bool) → list_all (λ b. b) marks ≡ true → All (λ (b : Bool). b ≡ true) marks
all-set [] is = All-nil (λ (b : Bool). b ≡ true)
all-set (b ∷ marks) is =
    let both = and_parts b (list_all (λ c. c) marks) is in
    All-cons (λ (c : Bool). c ≡ true) b marks both.0 (all-set marks both.1)

pub set-all : (marks : List Bool) → All (λ (b : Bool). b ≡ true) marks → list_all (λ b. b) marks ≡ true
set-all [] all = refl
set-all (b ∷ marks) all = and_from b (list_all (λ c. c) marks) (All-head (λ (c : Bool). c ≡ true) b marks all) (set-all marks (All-tail (λ (c : Bool). c ≡ true) b marks all))

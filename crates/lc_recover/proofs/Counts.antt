-- Counting up by numbers that are in order.
use Rattle.std.proofs.Common.{◌≡◌, ◌≢◌, ◌⊎◌, ℕ, zero, suc, ◌+◌, ◌-◌, ◌<◌, ◌≤◌, Bool, true, false, ◌==◌, ◌&&◌, List, [], ◌∷◌, ◌++◌, map, filter, length, take, drop, set, get_or, All, Contains, max, arith, refl, sym, ◌∙◌, ap, ap₂, subst, inl, inr}
use Rattle.std.proofs.Math.Nat.{le_refl, max_comm, max-le, le-max_left, le-max_right, le_trans, le_antisymm, max-eq_left}
use Rattle.std.specs.Ordering.{ord_max, nat_cmp}
use Rattle.std.proofs.Math.Seq.{drop-cons}
use Rattle.std.proofs.lemmas.Bool.{cases_lt, cases_order, cases_eq, cases_Bool, and_parts, and_from, eqb-true, eq-eqb, ne_eqb, lt-ltb, le-ltb, true≢false}
use Rattle.std.proofs.lemmas.List.{take_more, map-append, take-append-drop, get_or-set_same, get_or-set_other, length-set, get_or-map, get_or_default as same-item}
use Rattle.std.proofs.lemmas.List.Elements.{Contains-append_left, Contains-append_right, Contains-append_cases, Contains-get_or, Contains-push_cases, Contains-push, All-contains}
use Rattle.lc_record.specs.Marks.{counting}
use Rattle.lc_record.proofs.ListLemmas.{length-counting}
use Rattle.lc_model.proofs.One.{two-pass}
use Rattle.lc_model.specs.Merge.{Page, IsLeastPair, greatest}
use Rattle.lc_model.proofs.Visible.{none-pass, contains-count}
use Rattle.lc_recover.specs.Pages.{kept_page, kept_pages}
use Rattle.lc_recover.specs.Locks.{is_number, times, IsUpTo, AreInOrder, StandsTwice, count_of, IsMissing, IsNumbering}
use Rattle.lc_recover.specs.declared.lock_number.LockNumber.{LockNumber}
use Rattle.lc_recover.specs.declared.segment_pages.SegmentPages.{SegmentPages}
use Rattle.lc_recover.proofs.Walks.{length-kept}

-- Lists

contains-cons-at : {A : Type 0} (x : A) (xs : List A) (y : A) (k : ℕ) → k < length (x ∷ xs) → get_or (x ∷ xs) k y ≡ y → (x ≡ y) ⊎ Contains xs y
contains-cons-at x xs y zero h e = inl e
contains-cons-at x xs y (suc k) h e = inr (k, omega arith, e)

pub contains-cons : {A : Type 0} (x : A) (xs : List A) (y : A) → Contains (x ∷ xs) y → (x ≡ y) ⊎ Contains xs y
contains-cons x xs y c = contains-cons-at x xs y c.0 c.1 c.2

pub all-from : {A : Type 0} (P : A → Type 0) (xs : List A) → ((x : A) → Contains xs x → P x) → All P xs
all-from P xs each = λ k d h. each (get_or xs k d) (Contains-get_or xs k d h)

pub split-at : {A : Type 0} (xs : List A) (i : ℕ) (x : A) → i < length xs → get_or xs i x ≡ x → xs ≡ take i xs ++ x ∷ drop (suc i) xs
split-at {A = A} xs i x h e = sym (take-append-drop i xs) ∙ ap (λ (l : List A). take i xs ++ l) (drop-cons xs i x h ∙ ap (λ (y : A). y ∷ drop (suc i) xs) e)

-- Which number it is

pub is-number : (s q : ℕ) (n : LockNumber) → is_number s q n ≡ true → (n.segment ≡ s) × (n.seq ≡ q)
is-number s q n h =
    let both = and_parts (n.segment == s) (n.seq == q) h in
    (eqb-true n.segment s both.0, eqb-true n.seq q both.1)

number-is : (s q : ℕ) (n : LockNumber) → n.segment ≡ s → n.seq ≡ q → is_number s q n ≡ true
number-is s q n a b = and_from (n.segment == s) (n.seq == q) (eq-eqb n.segment s a) (eq-eqb n.seq q b)

not-number : (s q : ℕ) (n : LockNumber) → (n.segment ≡ s → n.seq ≡ q → ⊥) → is_number s q n ≡ false
not-number s q n differs = elim (cases_Bool (is_number s q n)) [
  | inl is ↦ absurd (let both = is-number s q n is in differs both.0 both.1)
  | inr is_not ↦ is_not
]

pub times-none : (s q : ℕ) (ns : List LockNumber) → ((n : LockNumber) → Contains ns n → n.segment ≡ s → n.seq ≡ q → ⊥) → times s q ns ≡ 0
times-none s q ns none = none-pass (is_number s q) ns (all-from (λ (n : LockNumber). is_number s q n ≡ false) ns (λ n c. not-number s q n (none n c)))

pub times-some : (s q : ℕ) (ns : List LockNumber) (n : LockNumber) → Contains ns n → n.segment ≡ s → n.seq ≡ q → 1 ≤ times s q ns
times-some s q ns n c a b = contains-count (is_number s q) ns n (number-is s q n a b) c

-- Order

order-at : (ns : List LockNumber) → AreInOrder ns → (i j : ℕ) (d : LockNumber) → i ≤ j → j < length ns → IsUpTo (get_or ns i d) (get_or ns j d)
order-at [] o i j d h within = absurd (omega arith)
order-at (n ∷ ns) o zero zero d h within = inr (refl, le_refl n.seq)
order-at (n ∷ ns) o zero (suc j) d h within = o.0 j d (omega arith)
order-at (n ∷ ns) o (suc i) zero d h within = absurd (omega arith)
order-at (n ∷ ns) o (suc i) (suc j) d h within = order-at ns o.1 i j d (omega arith) (omega arith)

order-behind : (front : List LockNumber) (n : LockNumber) (behind : List LockNumber) → AreInOrder (front ++ n ∷ behind) → All (IsUpTo n) behind
order-behind [] n behind o = o.0
order-behind (m ∷ front) n behind o = order-behind front n behind o.1

order-of : (n : LockNumber) (behind : List LockNumber) (m : LockNumber) → All (IsUpTo n) behind → Contains behind m → IsUpTo n m
order-of n behind m all c = All-contains (IsUpTo n) behind m all c

-- Twice

record TwoAt {X : Type 0} (p : X → Bool) (xs : List X) : Type 0 where
  first : ℕ
  second : ℕ
  less : first < second
  within : second < length xs
  first_passes : (d : X) → p (get_or xs first d) ≡ true
  second_passes : (d : X) → p (get_or xs second d) ≡ true

pub one-at : {X : Type 0} (p : X → Bool) (xs : List X) → 1 ≤ length (filter p xs) → (k : ℕ) × (k < length xs) × ((d : X) → p (get_or xs k d) ≡ true)
one-at p [] h = absurd (omega arith)
one-at {X = X} p (x ∷ xs) h = elim (cases_Bool (p x)) [
  | inl passes ↦ (0, omega arith, λ d. passes)
  | inr not ↦
      let less : 1 ≤ length (filter p xs) = rw not at h in
      let rest = one-at p xs less in
      (suc rest.0, omega (arith, rest.1), rest.2)
]

two-at : {X : Type 0} (p : X → Bool) (xs : List X) → 2 ≤ length (filter p xs) → TwoAt p xs
two-at p [] h = absurd (omega arith)
two-at p (x ∷ xs) h = elim (cases_Bool (p x)) [
  | inl passes ↦
      let more : 1 ≤ length (filter p xs) = (let g = rw passes at h in omega (arith, g)) in
      let rest = one-at p xs more in
      record { first = 0; second = suc rest.0; less = omega arith; within = omega (arith, rest.1); first_passes = λ d. passes; second_passes = rest.2 }
  | inr not ↦
      let more : 2 ≤ length (filter p xs) = rw not at h in
      let rest = two-at p xs more in
      record { first = suc rest.first; second = suc rest.second; less = omega (arith, rest.less); within = omega (arith, rest.within); first_passes = rest.first_passes; second_passes = rest.second_passes }
]

-- two neighbours are the same number
record Neighbours (ns : List LockNumber) (segment seq : ℕ) : Type 0 where
  at : ℕ
  within : at + 1 < length ns
  first : (d : LockNumber) → ((get_or ns at d).segment ≡ segment) × ((get_or ns at d).seq ≡ seq)
  second : (d : LockNumber) → ((get_or ns (at + 1) d).segment ≡ segment) × ((get_or ns (at + 1) d).seq ≡ seq)

between : (a b c : LockNumber) (s q : ℕ) → IsUpTo a b → IsUpTo b c → a.segment ≡ s → a.seq ≡ q → c.segment ≡ s → c.seq ≡ q → (b.segment ≡ s) × (b.seq ≡ q)
between a b c s q ab bc a_s a_q c_s c_q = elim ab [
  | inl less ↦ (elim bc [
    | inl more ↦ absurd (omega (arith, less, more, a_s, c_s))
    | inr same ↦ absurd (omega (arith, less, same.0, a_s, c_s))
  ])
  | inr same ↦ (elim bc [
    | inl more ↦ absurd (omega (arith, same.0, more, a_s, c_s))
    | inr again ↦ (omega (arith, same.0, a_s), omega (arith, same.1, again.1, a_q, c_q))
  ])
]

neighbours : (ns : List LockNumber) (segment seq : ℕ) → AreInOrder ns → StandsTwice ns segment seq → Neighbours ns segment seq
neighbours ns segment seq o twice =
    let two : TwoAt (is_number segment seq) ns = two-at (is_number segment seq) ns twice in
    let less : two.first < two.second = two.less in
    let within : two.second < length ns = two.within in
    record {
      at = two.first;
      within = omega (arith, less, within);
      first = λ d. is-number segment seq (get_or ns two.first d) (two.first_passes d);
      second = λ d.
          let a = is-number segment seq (get_or ns two.first d) (two.first_passes d) in
          let c = is-number segment seq (get_or ns two.second d) (two.second_passes d) in
          between (get_or ns two.first d) (get_or ns (two.first + 1) d) (get_or ns two.second d) segment seq
          (order-at ns o two.first (two.first + 1) d (omega arith) (omega (arith, less, within)))
          (order-at ns o (two.first + 1) two.second d (omega (arith, less)) within)
          a.0 a.1 c.0 c.1;
    }

-- no two neighbours before this place are the same number
abbrev pub AreApart : List LockNumber → ℕ → Type 0
AreApart ns i = (k : ℕ) (d : LockNumber) → k + 1 < i → (get_or ns k d).segment ≡ (get_or ns (k + 1) d).segment → (get_or ns k d).seq ≡ (get_or ns (k + 1) d).seq → ⊥

pub apart-once : (ns : List LockNumber) → AreInOrder ns → (i : ℕ) → length ns ≤ i → AreApart ns i → (segment seq : ℕ) → StandsTwice ns segment seq → ⊥
apart-once ns o i past apart segment seq twice =
    let its : Neighbours ns segment seq = neighbours ns segment seq o twice in
    let d : LockNumber = record { segment = 0; seq = 0 } in
    let a = its.first d in
    let b = its.second d in
    apart its.at d (omega (arith, its.within, past)) (a.0 ∙ sym b.0) (a.1 ∙ sym b.1)

pub first-twice : (ns : List LockNumber) → AreInOrder ns → (i : ℕ) (n : LockNumber) → 1 ≤ i → i < length ns → AreApart ns i
    → get_or ns i n ≡ n → get_or ns (i - 1) n ≡ n → IsLeastPair (StandsTwice ns) n.segment n.seq
first-twice ns o i n some within apart is before =
    let n_is : is_number n.segment n.seq n ≡ true = number-is n.segment n.seq n refl refl in
    record {
      is = two-pass (is_number n.segment n.seq) ns (i - 1) i n n (omega arith) within before is n_is n_is;
      least = λ other number twice.
          let its : Neighbours ns other number = neighbours ns other number o twice in
          let a = its.first n in
          let b = its.second n in
          elim (cases_lt (its.at + 1) i) [
            | inl early ↦ absurd (apart its.at n early (a.0 ∙ sym b.0) (a.1 ∙ sym b.1))
            | inr late ↦
                let upto : IsUpTo (get_or ns (i - 1) n) (get_or ns its.at n) = order-at ns o (i - 1) its.at n (omega (arith, late)) (omega (arith, its.within)) in
                let n_upto : IsUpTo n (get_or ns its.at n) = subst (λ (m : LockNumber). IsUpTo m (get_or ns its.at n)) before upto in
                (elim n_upto [
                  | inl less ↦ inl (omega (arith, less, a.0))
                  | inr same ↦ inr (same.0 ∙ a.0, omega (arith, same.1, a.1))
                ])
          ];
    }

-- Counting up

-- all numbers up to this one are there
pub record Filled (count segment : ℕ) (ns : List LockNumber) (now : ℕ) : Type 0 where
  pub at_least : count ≤ now
  pub all : (n : LockNumber) → Contains ns n → n.segment ≡ segment → n.seq ≤ now
  pub full : (seq : ℕ) → count < seq → seq ≤ now → (n : LockNumber) × Contains ns n × (n.segment ≡ segment) × (n.seq ≡ seq)

pub record AllFilled (counts : List ℕ) (ns : List LockNumber) (now : List ℕ) : Type 0 where
  pub count : length now ≡ length counts
  pub each : (segment : ℕ) → 1 ≤ segment → segment ≤ length counts → Filled (count_of counts segment) segment ns (count_of now segment)

filled-kept : (count segment : ℕ) (ns : List LockNumber) (n : LockNumber) (now : ℕ) → (n.segment ≡ segment → n.seq ≤ now) → Filled count segment ns now → Filled count segment (ns ++ n ∷ []) now
filled-kept count segment ns n now upto f = record {
  at_least = f.at_least;
  all = λ m c e. elim (Contains-push_cases ns n m c) [
    | inl before ↦ f.all m before e
    | inr is ↦ subst (λ (x : LockNumber). x.seq ≤ now) is (upto (ap (λ (x : LockNumber). x.segment) is ∙ e))
  ];
  full = λ seq above below. let its = f.full seq above below in (its.0, Contains-append_left ns (n ∷ []) its.0 its.1, its.2, its.3);
}

filled-next : (count segment : ℕ) (ns : List LockNumber) (n : LockNumber) (now : ℕ) → n.segment ≡ segment → n.seq ≡ now + 1 → Filled count segment ns now → Filled count segment (ns ++ n ∷ []) n.seq
filled-next count segment ns n now own next f = record {
  at_least = omega (arith, f.at_least);
  all = λ m c e. elim (Contains-push_cases ns n m c) [
    | inl before ↦ (let h = f.all m before e in omega (arith, h))
    | inr is ↦ subst (λ (x : LockNumber). x.seq ≤ n.seq) is (le_refl n.seq)
  ];
  full = λ seq above below. elim (cases_lt now seq) [
    | inl more ↦ (n, Contains-push ns n, own, omega (arith, more))
    | inr less ↦ (let its = f.full seq above less in (its.0, Contains-append_left ns (n ∷ []) its.0 its.1, its.2, its.3))
  ];
}

pub filled-same : (counts : List ℕ) (ns : List LockNumber) (n : LockNumber) (now : List ℕ) → n.seq ≤ count_of now n.segment → AllFilled counts ns now → AllFilled counts (ns ++ n ∷ []) now
filled-same counts ns n now upto f = record {
  count = f.count;
  each = λ segment some within. filled-kept (count_of counts segment) segment ns n (count_of now segment) (λ e. subst (λ (s : ℕ). n.seq ≤ count_of now s) e upto) (f.each segment some within);
}

pub filled-more : (counts : List ℕ) (ns : List LockNumber) (n : LockNumber) (now : List ℕ) (place : ℕ) → place ≡ n.segment - 1 → 1 ≤ n.segment → n.segment ≤ length counts
    → n.seq ≡ count_of now n.segment + 1 → AllFilled counts ns now → AllFilled counts (ns ++ n ∷ []) (set now place n.seq)
filled-more counts ns n now place at some within next f =
    let same_count : length now ≡ length counts = f.count in
    record {
      count = length-set now place n.seq ∙ f.count;
      each = λ segment its_some its_within. elim (cases_eq n.segment segment) [
        | inl own ↦
            let inside : place < length now = omega (arith, same_count) in
            let at_place : segment - 1 ≡ place = omega arith in
            let is : count_of (set now place n.seq) segment ≡ n.seq = ap (λ (k : ℕ). get_or (set now place n.seq) k 0) at_place ∙ get_or-set_same now place n.seq 0 inside in
            subst (λ (k : ℕ). Filled (count_of counts segment) segment (ns ++ n ∷ []) k) (sym is)
            (filled-next (count_of counts segment) segment ns n (count_of now segment) own (next ∙ ap (λ (s : ℕ). count_of now s + 1) own) (f.each segment its_some its_within))
        | inr other ↦
            let apart : segment - 1 ≢ place = λ e. other (omega (arith, e)) in
            let is : count_of (set now place n.seq) segment ≡ count_of now segment = get_or-set_other now place (segment - 1) n.seq 0 apart in
            subst (λ (k : ℕ). Filled (count_of counts segment) segment (ns ++ n ∷ []) k) (sym is)
            (filled-kept (count_of counts segment) segment ns n (count_of now segment) (λ e. absurd (other e)) (f.each segment its_some its_within))
      ];
    }

pub filled-all : (counts : List ℕ) (ns : List LockNumber) (now : List ℕ) → AllFilled counts ns now → IsNumbering counts ns now
filled-all counts ns now f = record {
  no_gap = λ segment seq missing.
      let its : Filled (count_of counts segment) segment ns (count_of now segment) = f.each segment missing.some missing.within in
      let greater = missing.greater in
      let below : greater.0.seq ≤ count_of now segment = its.all greater.0 greater.1 greater.2 in
      let there = its.full seq missing.above (omega (arith, below, greater.3)) in
      let one : 1 ≤ times segment seq ns = times-some segment seq ns there.0 there.1 there.2 there.3 in
      omega (arith, one, missing.none);
  count = f.count;
  each = λ segment some within.
      let its : Filled (count_of counts segment) segment ns (count_of now segment) = f.each segment some within in
      record {
        at_least = its.at_least;
        all = its.all;
        is = elim (cases_lt (count_of counts segment) (count_of now segment)) [
          | inl above ↦ inr (its.full (count_of now segment) above (le_refl (count_of now segment)))
          | inr upto ↦ inl (omega (arith, its.at_least, upto))
        ];
      };
}

pub first-gap : (counts now : List ℕ) (front : List LockNumber) (n : LockNumber) (behind : List LockNumber) → AreInOrder (front ++ n ∷ behind) → AllFilled counts front now
    → 1 ≤ n.segment → n.segment ≤ length counts → count_of now n.segment + 1 < n.seq → IsLeastPair (IsMissing counts (front ++ n ∷ behind)) n.segment (count_of now n.segment + 1)
first-gap counts now front n behind o f some within above =
    let all : List LockNumber = front ++ n ∷ behind in
    let own : Filled (count_of counts n.segment) n.segment front (count_of now n.segment) = f.each n.segment some within in
    record {
      is = record {
        some = some;
        within = within;
        above = omega (arith, own.at_least);
        none = times-none n.segment (count_of now n.segment + 1) all (λ m c e is. elim (Contains-append_cases front (n ∷ behind) m c) [
          | inl before ↦ (let upto = own.all m before e in omega (arith, upto, is))
          | inr rest ↦ (elim (contains-cons n behind m rest) [
            | inl same ↦ (let seq : n.seq ≡ m.seq = ap (λ (x : LockNumber). x.seq) same in omega (arith, seq, is, above))
            | inr after ↦ (elim (order-of n behind m (order-behind front n behind o) after) [
              | inl less ↦ omega (arith, less, e)
              | inr up ↦ omega (arith, up.1, is, above)
            ])
          ])
        ]);
        greater = (n, Contains-append_right front (n ∷ behind) n (0, omega arith, refl), refl, above);
      };
      least = λ other number missing.
          let greater = missing.greater in
          let there : (l : ℕ) → Filled (count_of counts other) other front l → greater.0.seq ≤ l → ⊥ = λ l its below.
          (let one = its.full number missing.above (omega (arith, below, greater.3)) in
          let counted : 1 ≤ times other number all = times-some other number all one.0 (Contains-append_left front (n ∷ behind) one.0 one.1) one.2 one.3 in
          omega (arith, counted, missing.none)) in
          let its : Filled (count_of counts other) other front (count_of now other) = f.each other missing.some missing.within in
          elim (cases_order n.segment other) [
            | inl same ↦ inr (
              same,
              elim (cases_lt (count_of now n.segment) number) [
                | inl more ↦ omega (arith, more)
                | inr less ↦ absurd (
                    let less_other : number ≤ count_of now other = subst (λ (s : ℕ). number ≤ count_of now s) same less in
                    let one = its.full number missing.above less_other in
                    let counted : 1 ≤ times other number all = times-some other number all one.0 (Contains-append_left front (n ∷ behind) one.0 one.1) one.2 one.3 in
                    omega (arith, counted, missing.none))
              ],
            )
            | inr apart ↦ (elim apart [
              | inl less ↦ inl less
              | inr more ↦ absurd (elim (Contains-append_cases front (n ∷ behind) greater.0 greater.1) [
                | inl before ↦ there (count_of now other) its (its.all greater.0 before greater.2)
                | inr rest ↦ (elim (contains-cons n behind greater.0 rest) [
                  | inl same ↦ (let seg : n.segment ≡ greater.0.segment = ap (λ (x : LockNumber). x.segment) same in omega (arith, seg, greater.2, more))
                  | inr after ↦ (elim (order-of n behind greater.0 (order-behind front n behind o) after) [
                    | inl up ↦ omega (arith, up, greater.2, more)
                    | inr up ↦ omega (arith, up.0, greater.2, more)
                  ])
                ])
              ])
            ])
          ];
    }

-- The greatest of the kept pages

max-assoc : (a b c : ℕ) → max a (max b c) ≡ max (max a b) c
max-assoc a b c = le_antisymm
    (max-le (le_trans (le-max_left a b) (le-max_left (max a b) c)) (max-le (le_trans (le-max_right a b) (le-max_left (max a b) c)) (le-max_right (max a b) c)))
    (max-le (max-le (le-max_left a (max b c)) (le_trans (le-max_left b c) (le-max_right a (max b c)))) (le_trans (le-max_right b c) (le-max_right a (max b c))))

pub greatest-push : (xs : List ℕ) (y : ℕ) → greatest (xs ++ y ∷ []) ≡ max (greatest xs) y
greatest-push [] y = max_comm y 0
greatest-push (x ∷ xs) y = ap (max x) (greatest-push xs y) ∙ max-assoc x (greatest xs) y

counting-at : (from n i d : ℕ) → i < n → get_or (counting from n) i d ≡ from + i
counting-at from zero i d h = absurd (omega arith)
counting-at from (suc n) zero d h = omega arith
counting-at from (suc n) (suc i) d h = counting-at (from + 1) n i d (omega arith) ∙ omega arith

pub kept-at : (s : SegmentPages) (page : ℕ) (d : Page) → page < length s.texts → get_or (kept_pages s) page d ≡ kept_page s page
kept-at s page d h =
    get_or-map (kept_page s) (counting 0 (length s.texts)) page 0 d (omega (arith, length-counting 0 (length s.texts)))
    ∙ ap (kept_page s) (counting-at 0 (length s.texts) page 0 h ∙ omega arith)

pub greatest-next : (s : SegmentPages) (page : ℕ) → page < length s.texts
    → greatest (map (λ (p : Page). p.sequence) (take (page + 1) (kept_pages s))) ≡ max (greatest (map (λ (p : Page). p.sequence) (take page (kept_pages s)))) (kept_page s page).sequence
greatest-next s page h =
    let inside : page < length (kept_pages s) = omega (arith, length-kept s) in
    ap (λ (l : List Page). greatest (map (λ (p : Page). p.sequence) l)) (take_more (kept_pages s) page (kept_page s page) inside ∙ ap (λ (p : Page). take page (kept_pages s) ++ p ∷ []) (kept-at s page (kept_page s page) h))
    ∙ ap greatest (map-append (λ (p : Page). p.sequence) (take page (kept_pages s)) (kept_page s page ∷ []))
    ∙ greatest-push (map (λ (p : Page). p.sequence) (take page (kept_pages s))) (kept_page s page).sequence

number-same : (a b : LockNumber) → a.segment ≡ b.segment → a.seq ≡ b.seq → a ≡ b
number-same a b s q = ap₂ (λ (x y : ℕ). record { segment = x; seq = y }) s q

pub apart-next : (ns : List LockNumber) (i : ℕ) (z : LockNumber) → 1 ≤ i → i < length ns → AreApart ns i
    → (((get_or ns (i - 1) z).segment == (get_or ns i z).segment) && ((get_or ns (i - 1) z).seq == (get_or ns i z).seq)) ≡ false → AreApart ns (i + 1)
apart-next ns i z some within apart differs = λ k d h seg seq. elim (cases_lt (k + 1) i) [
  | inl early ↦ apart k d early seg seq
  | inr late ↦
      let at : k ≡ i - 1 = omega (arith, late) in
      let next : k + 1 ≡ i = omega (arith, late) in
      let inside : i - 1 < length ns = omega arith in
      let before : get_or ns k d ≡ get_or ns (i - 1) z = ap (λ (j : ℕ). get_or ns j d) at ∙ same-item ns (i - 1) d z inside in
      let after : get_or ns (k + 1) d ≡ get_or ns i z = ap (λ (j : ℕ). get_or ns j d) next ∙ same-item ns i d z within in
      let segments : (get_or ns (i - 1) z).segment ≡ (get_or ns i z).segment = ap (λ (n : LockNumber). n.segment) (sym before) ∙ seg ∙ ap (λ (n : LockNumber). n.segment) after in
      let seqs : (get_or ns (i - 1) z).seq ≡ (get_or ns i z).seq = ap (λ (n : LockNumber). n.seq) (sym before) ∙ seq ∙ ap (λ (n : LockNumber). n.seq) after in
      true≢false (sym (and_from ((get_or ns (i - 1) z).segment == (get_or ns i z).segment) ((get_or ns (i - 1) z).seq == (get_or ns i z).seq)
      (eq-eqb (get_or ns (i - 1) z).segment (get_or ns i z).segment segments) (eq-eqb (get_or ns (i - 1) z).seq (get_or ns i z).seq seqs)) ∙ differs)
]

pub before-same : (ns : List LockNumber) (i : ℕ) (z : LockNumber) → 1 ≤ i → i < length ns
    → (((get_or ns (i - 1) z).segment == (get_or ns i z).segment) && ((get_or ns (i - 1) z).seq == (get_or ns i z).seq)) ≡ true
    → get_or ns (i - 1) (get_or ns i z) ≡ get_or ns i z
before-same ns i z some within same =
    let both = and_parts ((get_or ns (i - 1) z).segment == (get_or ns i z).segment) ((get_or ns (i - 1) z).seq == (get_or ns i z).seq) same in
    same-item ns (i - 1) (get_or ns i z) z (omega arith)
    ∙ number-same (get_or ns (i - 1) z) (get_or ns i z) (eqb-true (get_or ns (i - 1) z).segment (get_or ns i z).segment both.0) (eqb-true (get_or ns (i - 1) z).seq (get_or ns i z).seq both.1)

pub max-is : (a b : ℕ) → ord_max nat_cmp a b ≡ max a b
max-is a b = elim (cases_lt b a) [
  | inl more ↦
      let upto : b ≤ a = omega arith in
      rw (lt-ltb b a more) (sym (max-eq_left upto))
  | inr less ↦ (elim (cases_eq b a) [
    | inl same ↦ rw (le-ltb b a less, eq-eqb b a same) (sym (max-eq_left less) ∙ max_comm b a)
    | inr differs ↦ rw (le-ltb b a less, ne_eqb b a differs) (sym (max-eq_left less) ∙ max_comm b a)
  ])
]

-- What the sorted numbers say of the store.
use Rattle.std.proofs.Common.{◌≡◌, ℕ, zero, suc, ◌+◌, ◌-◌, ◌<◌, ◌≤◌, ◌^◌, Bool, ◌==◌, cond, List, [], ◌∷◌, ◌++◌, map, flat_map, filter, length, get_or, Contains, All, Some, max, arith, refl, sym, ◌∙◌, ap, ap₂, subst, inl, inr, IsPermutation, length-append}
use Rattle.std.specs.Prelude.{slice_get}
use Rattle.std.proofs.Math.Nat.{max-le, le-max_left, le-max_right, le_trans, le_antisymm}
use Rattle.std.proofs.lemmas.Bool.{cases_lt, cases_Bool, eqb-true, eq-eqb, ne_eqb}
use Rattle.std.proofs.lemmas.List.{length-map, get_or-map, get_or_default as same-item}
use Rattle.std.proofs.lemmas.List.Elements.{All-nil, All-cons, All-head, All-tail, All-weaker, All-contains, All-from_recursion, Contains-append_cases, filter-append}
use Rattle.std.proofs.lemmas.List.Sums.{length-filter}
use Rattle.std.proofs.lemmas.List.Sorted.{Contains-permutation, IsPermutation-sym, sum_by-IsPermutation}
use Rattle.std.proofs.lemmas.Option.{slice_get-get_or}
use Rattle.lc_record.specs.Content.{segment_of}
use Rattle.lc_record.specs.Newest.{number_or_zero}
use Rattle.lc_record.specs.Record.{Chain, IsLock, IsCanonical}
use Rattle.lc_record.specs.declared.record.Lock.{Lock}
use Rattle.lc_record.specs.declared.record.Record.{Record}
use Rattle.lc_model.proofs.Numbers.{greatest-all}
use Rattle.lc_log.specs.InPlace.{records_in}
use Rattle.lc_model.specs.Merge.{Page, StoreText, greatest, all_records, page_number, record_number, has_number, how_many, IsTwice, HasGap, IsLeastPair, AreOwn, AreWithin, AreOnce}
use Rattle.lc_model.proofs.Visible.{log-of, contains-count}
use Rattle.lc_log.proofs.InPlaceLemmas.{records_are}
use Rattle.lc_recover.specs.StoreContents.{IsKept}
use Rattle.lc_recover.specs.Fault.{IsRefusal}
use Rattle.lc_recover.specs.Pages.{kept_pages}
use Rattle.lc_recover.specs.Locks.{number_of, numbers_of, numbers_in, is_number, times, StandsTwice, count_of, greatest_kept, IsMissing, IsCount, IsNumbering}
use Rattle.lc_recover.specs.Reading.{store_of}
use Rattle.lc_recover.specs.declared.fault.RecoverFault.{RecoverFault}
use Rattle.lc_recover.specs.declared.fault.RecoverFault.TheVariants.{Twice, Gap}
use Rattle.lc_recover.specs.declared.lock_number.LockNumber.{LockNumber}
use Rattle.lc_recover.specs.declared.segment_pages.SegmentPages.{SegmentPages}
use Rattle.lc_recover.proofs.Walks.{all-canonical, segment-at}
use Rattle.lc_recover.proofs.Counts.{one-at, is-number, times-none, times-some, contains-cons, all-from}
use Rattle.lc_recover.proofs.Ascents.{contains-from_map, contains-behind}

-- Locks that ascend

abbrev Ascends : Lock → Lock → Type 0
Ascends a b = a.segment < b.segment

chain-tail : (l : Lock) (ls : List Lock) → Chain Ascends (l ∷ ls) → Chain Ascends ls
chain-tail l [] c = tt
chain-tail l (m ∷ ms) c = c.1

chain-all : (l : Lock) (ls : List Lock) → Chain Ascends (l ∷ ls) → All (Ascends l) ls
chain-all l [] c = All-nil (Ascends l)
chain-all l (m ∷ ms) c =
    let first : l.segment < m.segment = c.0 in
    All-cons (Ascends l) m ms first (All-weaker (Ascends m) (Ascends l) (λ x h. omega (arith, first, h)) ms (chain-all m ms c.1))

others-none : (s q : ℕ) (ls : List Lock) → All (λ (l : Lock). s < l.segment) ls → times s q (map number_of ls) ≡ 0
others-none s q ls above = times-none s q (map number_of ls) (λ n c own _seq.
    (let lock = contains-from_map number_of ls n c in
    let higher : s < lock.0.segment = All-contains (λ (l : Lock). s < l.segment) ls lock.0 above lock.1 in
    let same : lock.0.segment ≡ n.segment = ap (λ (x : LockNumber). x.segment) lock.2 in
    omega (arith, higher, same, own)))

number-times : (s q : ℕ) (ls : List Lock) → 0 < q → Chain Ascends ls → times s q (map number_of ls) ≡ cond (number_or_zero s ls == q) 1 0
number-times s q [] some chain =
    let differs : 0 ≡ q → ⊥ = λ e. omega (arith, e) in
    rw (ne_eqb 0 q differs) refl
number-times s q (l ∷ ls) some chain = elim (cases_Bool (l.segment == s)) [
  | inl own ↦
      let same : l.segment ≡ s = eqb-true l.segment s own in
      let none : times s q (map number_of ls) ≡ 0 = others-none s q ls (All-weaker (Ascends l) (λ (x : Lock). s < x.segment) (λ x h. omega (arith, h, same)) ls (chain-all l ls chain)) in
      (elim (cases_Bool (l.seq == q)) [
        | inl is ↦ rw (own, is) (ap suc none)
        | inr not ↦ rw (own, not) none
      ])
  | inr other ↦ rw other (number-times s q ls some (chain-tail l ls chain))
]

record-times : (s q : ℕ) (rs : List Record) → 0 < q → All IsCanonical rs → times s q (numbers_in rs) ≡ length (filter (has_number s q) rs)
record-times s q [] some all = refl
record-times s q (r ∷ rs) some all =
    let own : times s q (numbers_of r) ≡ cond (number_or_zero s r.locks == q) 1 0 = number-times s q r.locks some (All-head IsCanonical r rs all).locks_ascend in
    let rest : times s q (numbers_in rs) ≡ length (filter (has_number s q) rs) = record-times s q rs some (All-tail IsCanonical r rs all) in
    let both : times s q (numbers_of r ++ numbers_in rs) ≡ times s q (numbers_of r) + times s q (numbers_in rs) =
    ap (λ (l : List LockNumber). length l) (filter-append (is_number s q) (numbers_of r) (numbers_in rs)) ∙ length-append (filter (is_number s q) (numbers_of r)) (filter (is_number s q) (numbers_in rs)) in
    elim (cases_Bool (number_or_zero s r.locks == q)) [
      | inl has ↦ (let one : times s q (numbers_of r) ≡ 1 = own ∙ ap (λ (b : Bool). cond b 1 0) has in rw has (omega (arith, both, one, rest)))
      | inr not ↦ (let none : times s q (numbers_of r) ≡ 0 = own ∙ ap (λ (b : Bool). cond b 1 0) not in rw not (omega (arith, both, none, rest)))
    ]

times-moved : (s q : ℕ) (xs ys : List LockNumber) → IsPermutation xs ys → times s q xs ≡ times s q ys
times-moved s q xs ys moved =
    length-filter (is_number s q) xs
    ∙ sym (sum_by-IsPermutation (λ (n : LockNumber). cond (is_number s q n) 1 0) xs ys moved)
    ∙ sym (length-filter (is_number s q) ys)

-- The greatest

greatest-above : {A : Type 0} (f : A → ℕ) (xs : List A) (x : A) → Contains xs x → f x ≤ greatest (map f xs)
greatest-above f [] x c = absurd (omega (arith, c.1))
greatest-above {A = A} f (y ∷ ys) x c = elim (contains-cons y ys x c) [
  | inl same ↦ subst (λ (z : A). f z ≤ max (f y) (greatest (map f ys))) same (le-max_left (f y) (greatest (map f ys)))
  | inr behind ↦ le_trans (greatest-above f ys x behind) (le-max_right (f y) (greatest (map f ys)))
]

contains-flat : {A B : Type 0} (f : A → List B) (xs : List A) (y : B) → Contains (flat_map f xs) y → (x : A) × Contains xs x × Contains (f x) y
contains-flat f [] y c = absurd (omega (arith, c.1))
contains-flat f (x ∷ xs) y c = elim (Contains-append_cases (f x) (flat_map f xs) y c) [
  | inl own ↦ (x, (0, omega arith, refl), own)
  | inr behind ↦ (let rest = contains-flat f xs y behind in (rest.0, contains-behind x xs rest.0 rest.1, rest.2))
]

-- Counts of segments

page-count : (segments : List SegmentPages) (segment : ℕ) → 1 ≤ segment → segment ≤ length segments
    → count_of (map greatest_kept segments) segment ≡ greatest (map (λ (p : Page). p.sequence) (segment_of segment (map kept_pages segments)))
page-count segments zero some within = absurd (omega arith)
page-count [] (suc i) some within = absurd (omega arith)
page-count (x ∷ xs) (suc i) some within =
    let inside : i < length (x ∷ xs) = omega arith in
    let its : SegmentPages = get_or (x ∷ xs) i x in
    let place : suc i - 1 ≡ i = omega arith in
    ap (λ (k : ℕ). get_or (map greatest_kept (x ∷ xs)) k 0) place
    ∙ get_or-map greatest_kept (x ∷ xs) i x 0 inside
    ∙ ap (λ (l : List Page). greatest (map (λ (p : Page). p.sequence) l)) (sym (segment-at kept_pages (x ∷ xs) i its (slice_get-get_or (x ∷ xs) i x inside)))

module _ (logs : List (List ℕ)) (segments : List SegmentPages) where
  abbrev its_store : StoreText
  its_store = store_of logs segments

  in-log : (r : Record) → Contains (all_records its_store) r → (k : ℕ) × Contains (get_or (map records_in logs) k []) r
  in-log r c = log-of (map records_in logs) r c

  canonical-log : (ls : List (List ℕ)) (k : ℕ) (r : Record) → Contains (get_or (map records_in ls) k []) r → IsCanonical r
  canonical-log [] k r c = absurd (omega (arith, c.1))
  canonical-log (l ∷ ls) zero r c = All-contains IsCanonical (records_in l) r (all-canonical l) c
  canonical-log (l ∷ ls) (suc k) r c = canonical-log ls k r c

  each-canonical : (r : Record) → Contains (all_records its_store) r → IsCanonical r
  each-canonical r c = (let at = in-log r c in canonical-log logs at.0 r at.1)

  all-whole : All IsCanonical (all_records its_store)
  all-whole = λ k d within. each-canonical (get_or (all_records its_store) k d) (k, within, same-item (all_records its_store) k (get_or (all_records its_store) k d) d within)

  module _ (numbers : List LockNumber) (moved : IsPermutation (numbers_in (all_records its_store)) numbers) where
    counted : (s q : ℕ) → 0 < q → times s q numbers ≡ how_many s q its_store
    counted s q some = sym (times-moved s q (numbers_in (all_records its_store)) numbers moved) ∙ record-times s q (all_records its_store) some all-whole

    lock-of : (n : LockNumber) → Contains numbers n → (r : Record) × Contains (all_records its_store) r × ((l : Lock) × Contains r.locks l × (number_of l ≡ n))
    lock-of n c =
        let at = contains-flat numbers_of (all_records its_store) n (Contains-permutation numbers (numbers_in (all_records its_store)) n (IsPermutation-sym (numbers_in (all_records its_store)) numbers moved) c) in
        (at.0, at.1, contains-from_map number_of at.0.locks n at.2)

    is-lock : (n : LockNumber) → Contains numbers n → (1 ≤ n.segment) × (1 ≤ n.seq) × (n.seq ≤ 2 ^ 60)
    is-lock n c =
        let at = lock-of n c in
        let its : IsLock at.2.0 = All-contains IsLock at.0.locks at.2.0 (All-from_recursion IsLock at.0.locks (each-canonical at.0 at.1).each_lock) at.2.1 in
        let seg : at.2.0.segment ≡ n.segment = ap (λ (x : LockNumber). x.segment) at.2.2 in
        let seq : at.2.0.seq ≡ n.seq = ap (λ (x : LockNumber). x.seq) at.2.2 in
        (omega (arith, its.0, seg), omega (arith, its.2, seq), subst (λ (q : ℕ). q ≤ 2 ^ 60) seq its.3)

    pub few : All (λ (n : LockNumber). n.seq ≤ 2 ^ 60) numbers
    few = all-from (λ (n : LockNumber). n.seq ≤ 2 ^ 60) numbers (λ n c. (is-lock n c).2)

    pub each : AreWithin its_store → (counts : List ℕ) → length counts ≡ length segments → All (λ (n : LockNumber). (1 ≤ n.segment) × (n.segment ≤ length counts)) numbers
    each lie counts long = all-from (λ (n : LockNumber). (1 ≤ n.segment) × (n.segment ≤ length counts)) numbers (λ n c.
        (let at = lock-of n c in
        let log = in-log at.0 at.1 in
        let seg : at.2.0.segment ≡ n.segment = ap (λ (x : LockNumber). x.segment) at.2.2 in (
          (is-lock n c).0,
          elim (cases_lt (length (map kept_pages segments)) at.2.0.segment) [
            | inl past ↦ absurd (lie log.0 (at.0, log.1, inl (at.2.0, at.2.1, past)))
            | inr inside ↦ omega (arith, inside, seg, long, length-map segments kept_pages)
          ],
        )))

    record-of : (n : LockNumber) → Contains numbers n → (r : Record) × Contains (all_records its_store) r × (number_or_zero n.segment r.locks ≡ n.seq)
    record-of n c =
        let one : 1 ≤ times n.segment n.seq numbers = times-some n.segment n.seq numbers n c refl refl in
        let many : 1 ≤ how_many n.segment n.seq its_store = omega (arith, one, counted n.segment n.seq (is-lock n c).1) in
        let at = one-at (has_number n.segment n.seq) (all_records its_store) many in
        let none : Record = record { node = 0; locks = []; ranges = [] } in
        let r : Record = get_or (all_records its_store) at.0 none in
        (r, (at.0, at.1, same-item (all_records its_store) at.0 r none at.1), eqb-true (number_or_zero n.segment r.locks) n.seq (at.2 none))

    number-at : (s q : ℕ) (r : Record) → 0 < q → Contains (all_records its_store) r → number_or_zero s r.locks ≡ q → (n : LockNumber) × Contains numbers n × (n.segment ≡ s) × (n.seq ≡ q)
    number-at s q r some c is =
        let many : 1 ≤ how_many s q its_store = contains-count (has_number s q) (all_records its_store) r (eq-eqb (number_or_zero s r.locks) q is) c in
        let at = one-at (is_number s q) numbers (omega (arith, many, counted s q some)) in
        let none : LockNumber = record { segment = 0; seq = 0 } in
        let n : LockNumber = get_or numbers at.0 none in
        let its = is-number s q n (at.2 none) in
        (n, (at.0, at.1, same-item numbers at.0 n none at.1), its.0, its.1)

    pub once-all : ((segment seq : ℕ) → StandsTwice numbers segment seq → ⊥) → AreOnce its_store
    once-all once = λ segment seq twice. once segment seq (omega (arith, twice.1, counted segment seq twice.0))

    pub twice-refusal : (fault : RecoverFault) → AreOwn its_store → AreWithin its_store
        → (segment : ℕ) × (seq : ℕ) × (fault ≡ Twice segment seq) × IsLeastPair (StandsTwice numbers) segment seq → IsRefusal its_store fault
    twice-refusal fault own lie its =
        let segment : ℕ = its.0 in
        let seq : ℕ = its.1 in
        let twice : StandsTwice numbers segment seq = its.3.is in
        let at = one-at (is_number segment seq) numbers (omega (arith, twice)) in
        let none : LockNumber = record { segment = 0; seq = 0 } in
        let n : LockNumber = get_or numbers at.0 none in
        let n_in : Contains numbers n = (at.0, at.1, same-item numbers at.0 n none at.1) in
        let some : 0 < seq = omega (arith, (is-lock n n_in).1, (is-number segment seq n (at.2 none)).1) in
        let least : IsLeastPair (IsTwice its_store) segment seq = record {
          is = (some, omega (arith, twice, counted segment seq some));
          least = λ other number second. its.3.least other number (omega (arith, second.1, counted other number second.0));
        } in
        subst (λ (f : RecoverFault). IsRefusal its_store f) (sym its.2) (own, lie, least)

    -- Counts

    module _ (counts : List ℕ) (are : counts ≡ map greatest_kept segments) where
      long : length counts ≡ length segments
      long = ap (λ (l : List ℕ). length l) are ∙ length-map segments greatest_kept

      page-counted : (segment : ℕ) → 1 ≤ segment → segment ≤ length segments → count_of counts segment ≡ page_number segment its_store
      page-counted segment some within = ap (λ (l : List ℕ). count_of l segment) are ∙ page-count segments segment some within

      gap-from : (segment seq : ℕ) → IsMissing counts numbers segment seq → HasGap its_store segment seq
      gap-from segment seq m =
          let within : segment ≤ length segments = omega (arith, m.within, long) in
          let above : seq ≡ 0 → ⊥ = λ e. omega (arith, e, m.above) in
          let some : 0 < seq = omega (arith, m.above) in
          let r = record-of m.greater.0 m.greater.1 in
          let is : number_or_zero segment r.0.locks ≡ m.greater.0.seq = ap (λ (n : ℕ). number_or_zero n r.0.locks) (sym m.greater.2) ∙ r.2 in
          (m.some, omega (arith, within, length-map segments kept_pages), (omega (arith, m.above, page-counted segment m.some within), sym (counted segment seq some) ∙ m.none, (r.0, r.1, omega (arith, is, m.greater.3))))

      gap-to : (segment seq : ℕ) → HasGap its_store segment seq → IsMissing counts numbers segment seq
      gap-to segment seq gap =
          let within : segment ≤ length segments = omega (arith, gap.1, length-map segments kept_pages) in
          let above : page_number segment its_store < seq = gap.2.0 in
          let some : 0 < seq = omega (arith, above) in
          let r = gap.2.2 in
          let n = number-at segment (number_or_zero segment r.0.locks) r.0 (omega (arith, r.2)) r.1 refl in
          record {
            some = gap.0;
            within = omega (arith, within, long);
            above = omega (arith, above, page-counted segment gap.0 within);
            none = counted segment seq some ∙ gap.2.1;
            greater = (n.0, n.1, n.2, omega (arith, n.3, r.2));
          }

      pub gap-refusal : (fault : RecoverFault) → AreOwn its_store → AreWithin its_store → AreOnce its_store
          → (segment : ℕ) × (seq : ℕ) × (fault ≡ Gap segment seq) × IsLeastPair (IsMissing counts numbers) segment seq → IsRefusal its_store fault
      gap-refusal fault own lie once its =
          let least : IsLeastPair (HasGap its_store) its.0 its.1 = record {
            is = gap-from its.0 its.1 its.3.is;
            least = λ other number gap. its.3.least other number (gap-to other number gap);
          } in
          subst (λ (f : RecoverFault). IsRefusal its_store f) (sym its.2) (own, lie, once, least)

      pub gap-none : (new : List ℕ) → IsNumbering counts numbers new → (segment seq : ℕ) → HasGap its_store segment seq → ⊥
      gap-none new are_counted segment seq gap = are_counted.no_gap segment seq (gap-to segment seq gap)

      pub new-long : (new : List ℕ) → IsNumbering counts numbers new → length new ≡ length its_store.pages
      new-long new are_counted = are_counted.count ∙ long ∙ sym (length-map segments kept_pages)

      pub new-count : (new : List ℕ) → IsNumbering counts numbers new → (segment : ℕ) → 1 ≤ segment → segment ≤ length its_store.pages
          → slice_get new (segment - 1) ≡ Some (max (page_number segment its_store) (record_number segment its_store))
      new-count new are_counted segment some within =
          let inside : segment ≤ length segments = omega (arith, within, length-map segments kept_pages) in
          let its : IsCount (count_of counts segment) segment numbers (count_of new segment) = are_counted.each segment some (omega (arith, inside, long)) in
          let page : count_of counts segment ≡ page_number segment its_store = page-counted segment some inside in
          let new_page : page_number segment its_store ≤ count_of new segment = omega (arith, page, its.at_least) in
          let new_records : record_number segment its_store ≤ count_of new segment = greatest-all (λ (r : Record). number_or_zero segment r.locks) (count_of new segment) (all_records its_store)
          (all-from (λ (r : Record). number_or_zero segment r.locks ≤ count_of new segment) (all_records its_store) (λ r c. elim (cases_lt 0 (number_or_zero segment r.locks)) [
            | inl more ↦ (let n = number-at segment (number_or_zero segment r.locks) r more c refl in omega (arith, n.3, its.all n.0 n.1 n.2))
            | inr none ↦ omega (arith, none)
          ])) in
          let upto : count_of new segment ≤ max (page_number segment its_store) (record_number segment its_store) = elim its.is [
            | inl same ↦ (let left = le-max_left (page_number segment its_store) (record_number segment its_store) in omega (arith, left, same, page))
            | inr at ↦
                let r = record-of at.0 at.1 in
                let is : number_or_zero segment r.0.locks ≡ at.0.seq = ap (λ (n : ℕ). number_or_zero n r.0.locks) (sym at.2) ∙ r.2 in
                let top : number_or_zero segment r.0.locks ≤ record_number segment its_store = greatest-above (λ (x : Record). number_or_zero segment x.locks) (all_records its_store) r.0 r.1 in
                let right = le-max_right (page_number segment its_store) (record_number segment its_store) in
                omega (arith, right, top, is, at.3)
          ] in
          let place : segment - 1 < length new = omega (arith, are_counted.count, long, inside) in
          slice_get-get_or new (segment - 1) 0 place ∙ ap Some (le_antisymm upto (max-le new_page new_records))

-- The store of the words and pages

list-same : {A : Type 0} (d : A) (xs ys : List A) → length xs ≡ length ys → ((k : ℕ) → k < length ys → get_or xs k d ≡ get_or ys k d) → xs ≡ ys
list-same d [] [] long same = refl
list-same d [] (y ∷ ys) long same = absurd (omega (arith, long))
list-same d (x ∷ xs) [] long same = absurd (omega (arith, long))
list-same {A = A} d (x ∷ xs) (y ∷ ys) long same =
    ap₂ (λ (z : A) (zs : List A). z ∷ zs) (same 0 (omega arith)) (list-same d xs ys (omega (arith, long)) (λ k within. same (suc k) (omega arith)))

pub kept-store : (logs : List (List ℕ)) (segments : List SegmentPages) (store : StoreText) → IsKept logs segments store → store_of logs segments ≡ store
kept-store logs segments store kept =
    let logs_are : map records_in logs ≡ store.logs =
    list-same [] (map records_in logs) store.logs (length-map logs records_in ∙ sym kept.count)
    (λ k within.
    (let inside : k < length logs = omega (arith, within, kept.count) in
    get_or-map records_in logs k [] [] inside ∙ records_are (get_or logs k []) (get_or store.logs k []) (kept.texts k inside))) in
    ap₂ (λ (l : List (List Record)) (p : List (List Page)). record { logs = l; pages = p }) logs_are (sym kept.pages)

-- Where the turns are stuck no order of all records is one.
use Rattle.std.proofs.Common.{◌≡◌, ℕ, ◌+◌, ◌<◌, ◌≤◌, Bool, true, false, List, [], ◌∷◌, ◌++◌, filter, length, All, refl, sym, ◌∙◌, ap, subst, arith, inl, inr, append_assoc, length-append}
use Rattle.std.specs.Prelude.{slice_index_or, if◌then◌else◌}
use Rattle.std.proofs.lemmas.Bool.{cases_Bool, cases_eq, cases_lt, cases_order}
use Rattle.std.proofs.lemmas.List.{append-nil, get_or_past}
use Rattle.std.proofs.lemmas.List.Elements.{All-nil, filter-append}
use Rattle.lc_record.specs.declared.record.Lock.{Lock}
use Rattle.lc_record.specs.declared.record.Record.{Record}
use Rattle.lc_rest.specs.Adopted.{IsNext}
use Rattle.lc_rest.specs.Merge.{AreKnown, AreTurns, IsStuck, after_turns, counted_by, merged_after, no_record, number_at, record_at, times}
use Rattle.lc_rest.specs.TokenTest.{count_log}
use Rattle.lc_rest.specs.Turns.{has_lock}
use Rattle.lc_rest.proofs.Following.{Known, counted-at, length-counted, times-front}
use Rattle.lc_rest.proofs.Merges.{times-other, times-own}
use Rattle.lc_rest.proofs.OneLock.{self-member}
use Rattle.lc_rest.proofs.Tokens.{lock-number, next-number}

-- how many records of the segment have had their turn
abbrev count_turns : List (List Record) → ℕ → List ℕ → ℕ
count_turns logs segment turns = count_log segment (merged_after logs [] turns)

merged-append : (logs : List (List Record)) (before xs ys : List ℕ) → merged_after logs before (xs ++ ys) ≡ merged_after logs before xs ++ merged_after logs (before ++ xs) ys
merged-append logs before [] ys = ap (λ (b : List ℕ). merged_after logs b ys) (sym (append-nil before))
merged-append logs before (x ∷ xs) ys =
    ap (λ (rs : List Record). record_at logs x (times x before) ∷ rs)
    (merged-append logs (before ++ x ∷ []) xs ys ∙ ap (λ (b : List ℕ). merged_after logs (before ++ x ∷ []) xs ++ merged_after logs b ys) (append_assoc before (x ∷ []) xs))

count-append : (segment : ℕ) (rs qs : List Record) → count_log segment (rs ++ qs) ≡ count_log segment rs + count_log segment qs
count-append segment rs qs = ap length (filter-append (has_lock segment) rs qs) ∙ length-append (filter (has_lock segment) rs) (filter (has_lock segment) qs)

one-count : (segment : ℕ) (r : Record) (b : Bool) → has_lock segment r ≡ b → count_log segment (r ∷ []) ≡ (if b then 1 else 0)
one-count segment r b is = ap (λ (h : Bool). length (if h then r ∷ [] else [])) is ∙ end b
  where
    end : (h : Bool) → length (if h then r ∷ [] else []) ≡ (if h then 1 else 0)
    end true = refl
    end false = refl

-- one turn more
count-next : (logs : List (List Record)) (segment : ℕ) (turns : List ℕ) (n : ℕ) (b : Bool) → has_lock segment (record_at logs n (times n turns)) ≡ b
    → count_turns logs segment (turns ++ n ∷ []) ≡ count_turns logs segment turns + (if b then 1 else 0)
count-next logs segment turns n b is =
    ap (count_log segment) (merged-append logs [] turns (n ∷ [])) ∙ count-append segment (merged_after logs [] turns) (record_at logs n (times n turns) ∷ [])
    ∙ ap (λ k. count_turns logs segment turns + k) (one-count segment (record_at logs n (times n turns)) b is)

count-more : (logs : List (List Record)) (segment : ℕ) (xs ys : List ℕ) → count_turns logs segment xs ≤ count_turns logs segment (xs ++ ys)
count-more logs segment xs ys =
    (let parts = ap (count_log segment) (merged-append logs [] xs ys) ∙ count-append segment (merged_after logs [] xs) (merged_after logs xs ys) in omega (arith, parts))

-- Numbers after turns

turns-front : (logs : List (List Record)) (numbers before xs ys : List ℕ) → AreTurns logs numbers before (xs ++ ys)
    → AreTurns logs numbers before xs × AreTurns logs (after_turns logs numbers before xs) (before ++ xs) ys
turns-front logs numbers before [] ys are = (tt, subst (λ (b : List ℕ). AreTurns logs numbers b ys) (sym (append-nil before)) are)
turns-front logs numbers before (x ∷ xs) ys are =
    let later : List ℕ = counted_by (record_at logs x (times x before)).locks numbers in
    let both = turns-front logs later (before ++ x ∷ []) xs ys are.1 in (
      (are.0, both.0),
      subst (λ (b : List ℕ). AreTurns logs (after_turns logs later (before ++ x ∷ []) xs) b ys) (append_assoc before (x ∷ []) xs) both.1,
    )

abbrev AllKnown : List (List Record) → ℕ → Type 0
AllKnown logs segments = (node k : ℕ) → All (Known segments) (record_at logs node k).locks

-- what is beyond the end of a log has no lock
pub all-known : (logs : List (List Record)) (segments : ℕ) → AreKnown segments logs → AllKnown logs segments
all-known logs segments known node k = elim (cases_lt node (length logs)) [
  | inl inside ↦ elim (cases_lt k (length (slice_index_or logs node []))) [
    | inl within ↦ known node k inside within
    | inr past ↦ none (get_or_past (slice_index_or logs node []) k no_record past)
  ]
  | inr outside ↦ none (ap (λ (l : List Record). slice_index_or l k no_record) (get_or_past logs node [] outside))
]
  where
    none : record_at logs node k ≡ no_record → All (Known segments) (record_at logs node k).locks
    none is = subst (λ (r : Record). All (Known segments) r.locks) (sym is) (All-nil (Known segments))

numbers-after : (logs : List (List Record)) (numbers before turns : List ℕ) (segment : ℕ) → AllKnown logs (length numbers) → AreTurns logs numbers before turns
    → number_at (after_turns logs numbers before turns) segment ≡ number_at numbers segment + count_log segment (merged_after logs before turns)
numbers-after logs numbers before [] segment known are = omega arith
numbers-after logs numbers before (n ∷ ns) segment known are =
    let r : Record = record_at logs n (times n before) in
    let later : List ℕ = counted_by r.locks numbers in
    let one = counted-at (number_at numbers) r.locks numbers segment (known n (times n before)) are.0 in
    let rest = numbers-after logs later (before ++ n ∷ []) ns segment (subst (λ k. AllKnown logs k) (sym (length-counted r.locks numbers)) known) are.1 in
    rest ∙ ap (λ k. k + count_log segment (merged_after logs (before ++ n ∷ []) ns)) one ∙ either (has_lock segment r) (number_at numbers segment) r (merged_after logs (before ++ n ∷ []) ns)
  where
    either : (b : Bool) (k : ℕ) (r : Record) (rs : List Record) → (if b then k + 1 else k) + count_log segment rs ≡ k + length (if b then r ∷ filter (has_lock segment) rs else filter (has_lock segment) rs)
    either true k r rs = omega arith
    either false k r rs = omega arith

-- the number of a record at its turn
turn-number : (logs : List (List Record)) (numbers front : List ℕ) (n : ℕ) (behind : List ℕ) → AllKnown logs (length numbers) → AreTurns logs numbers [] (front ++ n ∷ behind)
    → IsNext (λ s. number_at numbers s + count_turns logs s front) (record_at logs n (times n front))
turn-number logs numbers front n behind known are =
    let both = turns-front logs numbers [] front (n ∷ behind) are in
    λ i d less.
    (let its = both.1.0 i d less in
    let lock : Lock = slice_index_or (record_at logs n (times n front)).locks i d in
    let after = numbers-after logs numbers [] front lock.segment known both.0 in
    omega (arith, its, after))

-- Where a turn stands

pub record HasTurn (turns : List ℕ) (node place : ℕ) : Type 0 where
  pub front : List ℕ
  pub behind : List ℕ
  pub are : turns ≡ front ++ node ∷ behind
  pub count : times node front ≡ place

turn-of : (before turns : List ℕ) (node place : ℕ) → times node before ≤ place → place < times node (before ++ turns) → HasTurn (before ++ turns) node place
turn-of before [] node place low high = absurd (let same = ap (times node) (append-nil before) in omega (arith, low, high, same))
turn-of before (n ∷ ns) node place low high =
    let parts : (before ++ n ∷ []) ++ ns ≡ before ++ n ∷ ns = append_assoc before (n ∷ []) ns in
    elim (cases_eq n node) [
      | inl same ↦ elim (cases_lt (times node before) place) [
        | inl more ↦
            let own = times-own node before in
            let moved : times node (before ++ n ∷ []) ≡ times node before + 1 = ap (λ k. times node (before ++ k ∷ [])) same ∙ own in
            subst (λ (l : List ℕ). HasTurn l node place) parts (turn-of (before ++ n ∷ []) ns node place (omega (arith, moved, more)) (subst (λ (l : List ℕ). place < times node l) (sym parts) high))
        | inr here ↦ record { front = before; behind = ns; are = ap (λ k. before ++ k ∷ ns) same; count = omega (arith, low, here) }
      ]
      | inr other ↦
          let kept = times-other node n before other in
          subst (λ (l : List ℕ). HasTurn l node place) parts (turn-of (before ++ n ∷ []) ns node place (omega (arith, kept, low)) (subst (λ (l : List ℕ). place < times node l) (sym parts) high))
    ]

-- the turn of the record of a segment that has so many before it
pub record HasCount (logs : List (List Record)) (turns : List ℕ) (segment count : ℕ) : Type 0 where
  pub front : List ℕ
  pub node : ℕ
  pub behind : List ℕ
  pub are : turns ≡ front ++ node ∷ behind
  pub has : has_lock segment (record_at logs node (times node front)) ≡ true
  pub before : count_turns logs segment front ≡ count

count-of : (logs : List (List Record)) (before turns : List ℕ) (segment count : ℕ) → count_turns logs segment before ≤ count → count < count_turns logs segment (before ++ turns) → HasCount logs (before ++ turns) segment count
count-of logs before [] segment count low high = absurd (let same = ap (count_turns logs segment) (append-nil before) in omega (arith, low, high, same))
count-of logs before (n ∷ ns) segment count low high =
    let parts : (before ++ n ∷ []) ++ ns ≡ before ++ n ∷ ns = append_assoc before (n ∷ []) ns in
    elim (cases_Bool (has_lock segment (record_at logs n (times n before)))) [
      | inl has ↦ elim (cases_lt (count_turns logs segment before) count) [
        | inl more ↦
            let next = count-next logs segment before n true has in
            subst (λ (l : List ℕ). HasCount logs l segment count) parts (count-of logs (before ++ n ∷ []) ns segment count (omega (arith, next, more)) (subst (λ (l : List ℕ). count < count_turns logs segment l) (sym parts) high))
        | inr here ↦ record { front = before; node = n; behind = ns; are = refl; has = has; before = omega (arith, low, here) }
      ]
      | inr none ↦
          let next = count-next logs segment before n false none in
          subst (λ (l : List ℕ). HasCount logs l segment count) parts (count-of logs (before ++ n ∷ []) ns segment count (omega (arith, next, low)) (subst (λ (l : List ℕ). count < count_turns logs segment l) (sym parts) high))
    ]

-- of two places in one list one is before the other, or they are one
data Places (xs : List ℕ) (x : ℕ) (ys : List ℕ) (y : ℕ) : Type 0 where
  Same : xs ≡ ys → x ≡ y → Places xs x ys y
  Before : (between : List ℕ) → ys ≡ (xs ++ x ∷ []) ++ between → Places xs x ys y
  Behind : (between : List ℕ) → xs ≡ (ys ++ y ∷ []) ++ between → Places xs x ys y

head-is : (x y : ℕ) (xs ys : List ℕ) → x ∷ xs ≡ y ∷ ys → (x ≡ y) × (xs ≡ ys)
head-is x y xs ys is = (cc, cc)

places : (xs : List ℕ) (x : ℕ) (us ys : List ℕ) (y : ℕ) (vs : List ℕ) → xs ++ x ∷ us ≡ ys ++ y ∷ vs → Places xs x ys y
places [] x us [] y vs is = Same refl (head-is x y us vs is).0
places [] x us (b ∷ ys) y vs is = Before ys (ap (λ k. k ∷ ys) (sym (head-is x b us (ys ++ y ∷ vs) is).0))
places (a ∷ xs) x us [] y vs is = Behind xs (ap (λ k. k ∷ xs) (head-is a y (xs ++ x ∷ us) vs is).0)
places (a ∷ xs) x us (b ∷ ys) y vs is =
    let both = head-is a b (xs ++ x ∷ us) (ys ++ y ∷ vs) is in
    elim (places xs x us ys y vs both.1) [
      | Same one two ↦ Same (ap (λ k. k ∷ xs) both.0 ∙ ap (λ l. b ∷ l) one) two
      | Before between one ↦ Before between (ap (λ l. b ∷ l) one ∙ ap (λ k. k ∷ ((xs ++ x ∷ []) ++ between)) (sym both.0))
      | Behind between one ↦ Behind between (ap (λ l. a ∷ l) one ∙ ap (λ k. k ∷ ((ys ++ y ∷ []) ++ between)) both.0)
    ]

-- The law

module _ (logs : List (List Record)) (numbers turns others : List ℕ) (node : ℕ) (known : AllKnown logs (length numbers)) (stuck : IsStuck logs numbers turns node)
    (are : AreTurns logs numbers [] others) (all : (n : ℕ) → times n others ≡ length (slice_index_or logs n [])) where
  -- a record of the segment that has its turn in both has as many of the segment before it in both
  same-count : (xs us ys vs : List ℕ) (m segment : ℕ) → AreTurns logs numbers [] (xs ++ m ∷ us) → AreTurns logs numbers [] (ys ++ m ∷ vs) → times m xs ≡ times m ys
      → has_lock segment (record_at logs m (times m xs)) ≡ true → count_turns logs segment xs ≡ count_turns logs segment ys
  same-count xs us ys vs m segment one two place has =
      let its = lock-number segment (record_at logs m (times m xs)).locks has in
      let first = next-number (λ s. number_at numbers s + count_turns logs s xs) segment (record_at logs m (times m xs)).locks its.0 (turn-number logs numbers xs m us known one) its.1 in
      let second = next-number (λ s. number_at numbers s + count_turns logs s ys) segment (record_at logs m (times m xs)).locks its.0
      (subst (λ k. IsNext (λ s. number_at numbers s + count_turns logs s ys) (record_at logs m k)) (sym place) (turn-number logs numbers ys m vs known two)) its.1 in
      omega (arith, first, second)

  -- after a record of the segment there is one more
  count-behind : (xs : List ℕ) (m : ℕ) (us : List ℕ) (segment : ℕ) → has_lock segment (record_at logs m (times m xs)) ≡ true → count_turns logs segment xs + 1 ≤ count_turns logs segment ((xs ++ m ∷ []) ++ us)
  count-behind xs m us segment has = (let next = count-next logs segment xs m true has in let more = count-more logs segment (xs ++ m ∷ []) us in omega (arith, next, more))

  count-within : (xs : List ℕ) (m : ℕ) (us ts : List ℕ) (segment : ℕ) → ts ≡ xs ++ m ∷ us → has_lock segment (record_at logs m (times m xs)) ≡ true → count_turns logs segment xs + 1 ≤ count_turns logs segment ts
  count-within xs m us ts segment is has = subst (λ (l : List ℕ). count_turns logs segment xs + 1 ≤ count_turns logs segment l) (append_assoc xs (m ∷ []) us ∙ sym is) (count-behind xs m us segment has)

  -- where all that had their turn before it have had theirs, and it has not, it has the next numbers
  not-less : (front : List ℕ) (n : ℕ) (behind : List ℕ) (segment : ℕ) → others ≡ front ++ n ∷ behind → ((m : ℕ) → times m front ≤ times m turns) → count_turns logs segment turns < count_turns logs segment front → ⊥
  not-less front n behind segment is among less =
      let found = count-of logs [] front segment (count_turns logs segment turns) (omega arith) less in
      let place = times-front found.node found.front found.behind in
      let counted = ap (times found.node) found.are in
      let most = among found.node in
      let turn = turn-of [] turns found.node (times found.node found.front) (omega arith) (omega (arith, place, counted, most)) in
      let valid : AreTurns logs numbers [] (found.front ++ found.node ∷ (found.behind ++ n ∷ behind)) =
      subst (λ (l : List ℕ). AreTurns logs numbers [] l) (is ∙ ap (λ (l : List ℕ). l ++ n ∷ behind) found.are ∙ append_assoc found.front (found.node ∷ found.behind) (n ∷ behind)) are in
      let same = same-count found.front (found.behind ++ n ∷ behind) turn.front turn.behind found.node segment valid (subst (λ (l : List ℕ). AreTurns logs numbers [] l) turn.are stuck.turned) (sym turn.count) found.has in
      let within = count-within turn.front found.node turn.behind turns segment turn.are (subst (λ k. has_lock segment (record_at logs found.node k) ≡ true) (sym turn.count) found.has) in
      let before = found.before in
      omega (arith, same, within, before)

  not-more : (front : List ℕ) (n : ℕ) (behind : List ℕ) (segment : ℕ) → others ≡ front ++ n ∷ behind → times n front ≡ times n turns → has_lock segment (record_at logs n (times n front)) ≡ true
      → count_turns logs segment front < count_turns logs segment turns → ⊥
  not-more front n behind segment is equal has less =
      let found = count-of logs [] turns segment (count_turns logs segment front) (omega arith) less in
      let place = times-front found.node found.front found.behind in
      let counted = ap (times found.node) found.are in
      let most = stuck.within found.node in
      let whole = all found.node in
      let turn = turn-of [] others found.node (times found.node found.front) (omega arith) (omega (arith, place, counted, most, whole)) in
      let valid : AreTurns logs numbers [] (turn.front ++ found.node ∷ turn.behind) = subst (λ (l : List ℕ). AreTurns logs numbers [] l) turn.are are in
      let same = same-count found.front found.behind turn.front turn.behind found.node segment (subst (λ (l : List ℕ). AreTurns logs numbers [] l) found.are stuck.turned) valid (sym turn.count) found.has in
      let before = found.before in
      let its : has_lock segment (record_at logs found.node (times found.node turn.front)) ≡ true = subst (λ k. has_lock segment (record_at logs found.node k) ≡ true) (sym turn.count) found.has in
      elim (places front n behind turn.front found.node turn.behind (sym is ∙ turn.are)) [
        | Same one two ↦
            absurd (let here : times found.node front ≡ times found.node turn.front = ap (times found.node) one in
            let count = turn.count in
            let own : times found.node front ≡ times found.node turns = subst (λ k. times k front ≡ times k turns) two equal in
            omega (arith, place, counted, here, count, own))
        | Before between one ↦ absurd (let more = count-behind front n between segment has in let moved = ap (count_turns logs segment) one in omega (arith, more, moved, same, before))
        | Behind between one ↦ absurd (let more = count-behind turn.front found.node between segment its in let moved = ap (count_turns logs segment) one in omega (arith, more, moved, same, before))
      ]

  comes-next : (front : List ℕ) (n : ℕ) (behind : List ℕ) → others ≡ front ++ n ∷ behind → ((m : ℕ) → times m front ≤ times m turns) → times n front ≡ times n turns
      → IsNext (number_at (after_turns logs numbers [] turns)) (record_at logs n (times n turns))
  comes-next front n behind is among equal =
      subst (λ k. IsNext (number_at (after_turns logs numbers [] turns)) (record_at logs n k)) equal
      (λ i d less.
      (let r : Record = record_at logs n (times n front) in
      let lock : Lock = slice_index_or r.locks i d in
      let has : has_lock lock.segment r ≡ true = self-member r.locks i d less in
      let its = turn-number logs numbers front n behind known (subst (λ (l : List ℕ). AreTurns logs numbers [] l) is are) i d less in
      let after = numbers-after logs numbers [] turns lock.segment known stuck.turned in
      elim (cases_order (count_turns logs lock.segment turns) (count_turns logs lock.segment front)) [
        | inl same ↦ omega (arith, its, after, same)
        | inr apart ↦ elim apart [
          | inl less ↦ absurd (not-less front n behind lock.segment is among less)
          | inr more ↦ absurd (not-more front n behind lock.segment is equal has more)
        ]
      ]))

  all-among : (front behind : List ℕ) → others ≡ front ++ behind → ((m : ℕ) → times m front ≤ times m turns) → (m : ℕ) → times m others ≤ times m turns
  all-among front [] is among = λ m. (let same = ap (times m) (is ∙ append-nil front) in let most = among m in omega (arith, same, most))
  all-among front (n ∷ behind) is among =
      all-among (front ++ n ∷ []) behind (is ∙ sym (append_assoc front (n ∷ []) behind)) (λ m. elim (cases_eq n m) [
        | inl same ↦ (let own = ap (λ k. times m (front ++ k ∷ [])) same ∙ times-own m front in let less = reached m same in omega (arith, own, less))
        | inr other ↦ (let kept = times-other m n front other in let most = among m in omega (arith, kept, most))
      ])
    where
      reached : (m : ℕ) → n ≡ m → times m front < times m turns
      reached m same = elim (cases_lt (times m front) (times m turns)) [
        | inl less ↦ less
        | inr not_less ↦ absurd
            (let most = among m in
            let equal : times n front ≡ times n turns = subst (λ k. times k front ≡ times k turns) (sym same) (omega (arith, most, not_less)) in
            let place = times-front n front behind in
            let counted = ap (times n) is in
            let whole = all n in
            stuck.none n (omega (arith, equal, place, counted, whole)) (comes-next front n behind is among equal))
      ]

  pub no-order : ⊥
  no-order = (let most = all-among [] others refl (λ m. omega arith) node in let left = stuck.left in let whole = all node in omega (arith, most, left, whole))

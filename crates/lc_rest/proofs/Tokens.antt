-- What the tests of the tokens say of the records in the order in which they merge.
use Rattle.std.proofs.Common.{◌≡◌, ℕ, ◌+◌, ◌*◌, ◌<◌, ◌≤◌, Bool, true, false, ◌&&◌, ◌||◌, ◌==◌, List, [], ◌∷◌, ◌++◌, map, filter, length, All, refl, sym, ◌∙◌, ap, subst, arith, inl, inr, true≢false, eqb-true, append_assoc, length-append}
use Rattle.lc_rest.proofs.Replays.{on-rises}
use Rattle.std.specs.Prelude.{Some, nat_lt, slice_index_or, if◌then◌else◌}
use Rattle.std.proofs.lemmas.List.Elements.{All-nil, All-cons, All-head, All-tail, filter-append}
use Rattle.lc_range.specs.RangeSet.{Has}
use Rattle.lc_record.specs.Part.{number_in}
use Rattle.lc_record.specs.Recorded.{counted}
use Rattle.lc_record.specs.Transaction.{is_member}
use Rattle.lc_record.specs.declared.geometry.Geometry.{Geometry}
use Rattle.lc_record.specs.declared.record.Lock.{Lock}
use Rattle.lc_record.specs.declared.record.RangeData.{RangeData}
use Rattle.lc_record.specs.declared.record.Record.{Record}
use Rattle.lc_token.specs.declared.token.Token.{Token}
use Rattle.lc_token.specs.Clean.{HasByteOn}
use Rattle.lc_model.specs.Merging.{counted_all, is_from}
use Rattle.lc_rest.specs.Adopted.{Follow, IsTaken, count_from, transaction_of}
use Rattle.lc_rest.specs.Merge.{merged_after, no_record, record_at, times}
use Rattle.lc_rest.specs.TokenTest.{IsKeptPage, IsKeptRange}
use Rattle.lc_rest.specs.Turns.{AreBehind, Bars, Turn, has_lock, stable_on, turns_of}
use Rattle.lc_rest.proofs.Following.{AreOwn, times-front}
use Rattle.lc_rest.proofs.OneLock.{member-lock, member-inside, write-member}
use Rattle.lc_rest.proofs.OneRecord.{run_of, byte-has}
use Rattle.lc_rest.proofs.Within.{sets-lock}

-- Each record, in its turn

count-same : (n m : ℕ) (r : Record) (before : List Record) (bs : List ℕ) → r.node ≡ n → count_from m before ≡ times m bs → count_from m (before ++ r ∷ []) ≡ times m (bs ++ n ∷ [])
count-same n m r before bs own same =
    ap length (filter-append (is_from m) before (r ∷ [])) ∙ length-append (filter (is_from m) before) (filter (is_from m) (r ∷ []))
    ∙ ap (λ k. k + length (filter (is_from m) (r ∷ []))) same ∙ ap (λ k. times m bs + k) (one (r.node == m) (n == m) (ap (λ k. k == m) own))
    ∙ sym (ap length (filter-append (λ k. k == m) bs (n ∷ [])) ∙ length-append (filter (λ k. k == m) bs) (filter (λ k. k == m) (n ∷ [])))
  where
    one : (a b : Bool) → a ≡ b → length (if a then r ∷ [] else []) ≡ length (if b then n ∷ [] else [])
    one true true is = refl
    one false false is = refl
    one true false is = absurd (true≢false is)
    one false true is = absurd (true≢false (sym is))

pub turned : (logs : List (List Record)) (stable : ℕ → ℕ) (P : Turn → Type 0) → AreOwn logs → ((n k : ℕ) → k < length (slice_index_or logs n []) → P (record { whole = record_at logs n k; stable = nat_lt k (stable n) }))
    → (before : List Record) (bs ns : List ℕ) → ((m : ℕ) → count_from m before ≡ times m bs) → ((m : ℕ) → times m (bs ++ ns) ≤ length (slice_index_or logs m []))
    → All P (turns_of stable before (merged_after logs bs ns))
turned logs stable P own each before bs [] same fits = All-nil P
turned logs stable P own each before bs (n ∷ ns) same fits =
    let r : Record = record_at logs n (times n bs) in
    let less : times n bs < length (slice_index_or logs n []) = (let one = times-front n bs ns in let two = fits n in omega (arith, one, two)) in
    let its : r.node ≡ n = own n (times n bs) no_record less in
    let count : count_from r.node before ≡ times n bs = ap (λ m. count_from m before) its ∙ same n in
    let head : P (record { whole = r; stable = nat_lt (count_from r.node before) (stable r.node) }) =
    subst (λ (b : Bool). P (record { whole = r; stable = b })) (sym (ap (λ k. nat_lt k (stable r.node)) count ∙ ap (λ m. nat_lt (times n bs) (stable m)) its)) (each n (times n bs) less) in
    All-cons P (record { whole = r; stable = nat_lt (count_from r.node before) (stable r.node) }) (turns_of stable (before ++ r ∷ []) (merged_after logs (bs ++ n ∷ []) ns)) head
    (turned logs stable P own each (before ++ r ∷ []) (bs ++ n ∷ []) ns (λ m. count-same n m r before bs its (same m))
    (λ m. subst (λ (l : List ℕ). times m l ≤ length (slice_index_or logs m [])) (sym (append_assoc bs (n ∷ []) ns)) (fits m)))

pub turns-all : (stable : ℕ → ℕ) (P : Record → Type 0) (before rs : List Record) → All P rs → All (λ (u : Turn). P u.whole) (turns_of stable before rs)
turns-all stable P before [] all = All-nil (λ (u : Turn). P u.whole)
turns-all stable P before (r ∷ rs) all =
    All-cons (λ (u : Turn). P u.whole) (record { whole = r; stable = nat_lt (count_from r.node before) (stable r.node) }) (turns_of stable (before ++ r ∷ []) rs) (All-head P r rs all) (turns-all stable P (before ++ r ∷ []) rs (All-tail P r rs all))

pub all-turns : (stable : ℕ → ℕ) (P : Record → Type 0) (before rs : List Record) → All (λ (u : Turn). P u.whole) (turns_of stable before rs) → All P rs
all-turns stable P before [] all = All-nil P
all-turns stable P before (r ∷ rs) all =
    let u : Turn = record { whole = r; stable = nat_lt (count_from r.node before) (stable r.node) } in
    All-cons P r rs (All-head (λ (v : Turn). P v.whole) u (turns_of stable (before ++ r ∷ []) rs) all) (all-turns stable P (before ++ r ∷ []) rs (All-tail (λ (v : Turn). P v.whole) u (turns_of stable (before ++ r ∷ []) rs) all))

-- Numbers

pub lock-number : (segment : ℕ) (locks : List Lock) → is_member segment (map (λ (l : Lock). l.segment) locks) ≡ true → (n : ℕ) × (number_in segment locks ≡ Some n)
lock-number segment [] is = absurd (true≢false (sym is))
lock-number segment (lock ∷ locks) is = go (lock.segment == segment) is (λ held. lock-number segment locks held)
  where
    go : (b : Bool) → (b || is_member segment (map (λ (l : Lock). l.segment) locks)) ≡ true → (is_member segment (map (λ (l : Lock). l.segment) locks) ≡ true → (n : ℕ) × (number_in segment locks ≡ Some n))
        → (n : ℕ) × ((if b then Some lock.seq else number_in segment locks) ≡ Some n)
    go true held later = (lock.seq, refl)
    go false held later = later held

pub number-lock : (segment : ℕ) (locks : List Lock) (n : ℕ) → number_in segment locks ≡ Some n → is_member segment (map (λ (l : Lock). l.segment) locks) ≡ true
number-lock segment [] n is = absurd cc
number-lock segment (lock ∷ locks) n is = go (lock.segment == segment) is (λ held. number-lock segment locks n held)
  where
    go : (b : Bool) → (if b then Some lock.seq else number_in segment locks) ≡ Some n → (number_in segment locks ≡ Some n → is_member segment (map (λ (l : Lock). l.segment) locks) ≡ true)
        → (b || is_member segment (map (λ (l : Lock). l.segment) locks)) ≡ true
    go true held later = refl
    go false held later = later held

pub next-number : (numbers : ℕ → ℕ) (segment : ℕ) (locks : List Lock) (n : ℕ) → All (λ (lock : Lock). lock.seq ≡ numbers lock.segment + 1) locks → number_in segment locks ≡ Some n → n ≡ numbers segment + 1
next-number numbers segment [] n next is = absurd cc
next-number numbers segment (lock ∷ locks) n next is = go (lock.segment == segment) refl is (λ held. next-number numbers segment locks n (All-tail (λ (l : Lock). l.seq ≡ numbers l.segment + 1) lock locks next) held)
  where
    go : (b : Bool) → (lock.segment == segment) ≡ b → (if b then Some lock.seq else number_in segment locks) ≡ Some n → (number_in segment locks ≡ Some n → n ≡ numbers segment + 1) → n ≡ numbers segment + 1
    go true same held later =
        let own : lock.seq ≡ n = cc in
        sym own ∙ All-head (λ (l : Lock). l.seq ≡ numbers l.segment + 1) lock locks next ∙ ap (λ s. numbers s + 1) (eqb-true lock.segment segment same)
    go false same held later = later held

counted-lock : (g : Geometry) (r : Record) (numbers : ℕ → ℕ) (segment : ℕ) → IsTaken g r → counted numbers (transaction_of g r) segment ≡ (if has_lock segment r then numbers segment + 1 else numbers segment)
counted-lock g r numbers segment taken = ap (λ (b : Bool). if b then numbers segment + 1 else numbers segment) (sets-lock g r segment taken)

-- the segment's numbers in these records are above
abbrev IsAbove : ℕ → ℕ → Record → Type 0
IsAbove segment number r = (n : ℕ) → number_in segment r.locks ≡ Some n → number < n

above-all : (g : Geometry) (rs : List Record) (numbers : ℕ → ℕ) (segment number : ℕ) → All (IsTaken g) rs → Follow g numbers rs → number ≤ numbers segment → All (IsAbove segment number) rs
above-all g [] numbers segment number taken follow most = All-nil (IsAbove segment number)
above-all g (r ∷ rs) numbers segment number taken follow most =
    All-cons (IsAbove segment number) r rs (λ n is. (let own = next-number numbers segment r.locks n follow.0 is in omega (arith, own, most)))
    (above-all g rs (counted numbers (transaction_of g r)) segment number (All-tail (IsTaken g) r rs taken) follow.1
    (let one = counted-lock g r numbers segment (All-head (IsTaken g) r rs taken) in let two = on-rises (has_lock segment r) (numbers segment) in omega (arith, one, two, most)))

-- Stable and not

-- of a record: a stable number is below, the others are not
abbrev pub Least : ℕ → Type 0
Least segments = (segment : ℕ) → 1 ≤ segment → segment ≤ segments → ℕ

abbrev pub Parts : (segments : ℕ) → Least segments → Turn → Type 0
Parts segments least u = (segment n : ℕ) (first : 1 ≤ segment) (last : segment ≤ segments) → number_in segment u.whole.locks ≡ Some n → (u.stable ≡ true → n < least segment first last) × (u.stable ≡ false → least segment first last ≤ n)

pub known-lock : (g : Geometry) (r : Record) (segment : ℕ) → IsTaken g r → has_lock segment r ≡ true → (1 ≤ segment) × (segment ≤ g.segments)
known-lock g r segment taken has = member-inside g r.ranges taken.inside segment (write-member segment r.ranges ((taken.canonical.same_segments segment).0 (member-lock segment r.locks has)))

bars : (g : Geometry) (stable : ℕ → ℕ) (least : Least g.segments) (u : Turn) (before rs : List Record) (numbers : ℕ → ℕ) → IsTaken g u.whole → Parts g.segments least u → All (IsTaken g) rs → Follow g numbers rs
    → ((segment n : ℕ) → number_in segment u.whole.locks ≡ Some n → n ≤ numbers segment) → All (Parts g.segments least) (turns_of stable before rs) → All (Bars u) (turns_of stable before rs)
bars g stable least u before rs numbers own parts taken follow most all = λ k d less waits segment has both.
    let v : Turn = slice_index_or (turns_of stable before rs) k d in
    let mine = lock-number segment u.whole.locks has in
    let its = lock-number segment v.whole.locks both in
    let known = known-lock g u.whole segment own has in
    let above : mine.0 < its.0 = turns-all stable (IsAbove segment mine.0) before rs (above-all g rs numbers segment mine.0 taken follow (most segment mine.0 mine.1)) k d less its.0 its.1 in
    let low : least segment known.0 known.1 ≤ mine.0 = (parts segment mine.0 known.0 known.1 mine.1).1 waits in
    elim v.stable as (λ b. v.stable ≡ b → b ≡ false) [
      | true ↦ λ e. absurd (let high = (all k d less segment its.0 known.0 known.1 its.1).0 e in omega (arith, above, low, high))
      | false ↦ λ e. refl
    ] refl

pub behind : (g : Geometry) (stable : ℕ → ℕ) (least : Least g.segments) (before rs : List Record) (numbers : ℕ → ℕ) → All (IsTaken g) rs → Follow g numbers rs → All (Parts g.segments least) (turns_of stable before rs) → AreBehind (turns_of stable before rs)
behind g stable least before [] numbers taken follow all = tt
behind g stable least before (r ∷ rs) numbers taken follow all =
    let u : Turn = record { whole = r; stable = nat_lt (count_from r.node before) (stable r.node) } in
    let own : IsTaken g r = All-head (IsTaken g) r rs taken in
    let rest : All (Parts g.segments least) (turns_of stable (before ++ r ∷ []) rs) = All-tail (Parts g.segments least) u (turns_of stable (before ++ r ∷ []) rs) all in (
      bars g stable least u (before ++ r ∷ []) rs (counted numbers (transaction_of g r)) own (All-head (Parts g.segments least) u (turns_of stable (before ++ r ∷ []) rs) all) (All-tail (IsTaken g) r rs taken) follow.1
          (λ segment n is. (let next = next-number numbers segment r.locks n follow.0 is in
          let one = counted-lock g r numbers segment own ∙ ap (λ (b : Bool). if b then numbers segment + 1 else numbers segment) (number-lock segment r.locks n is) in omega (arith, next, one)))
          rest,
      behind g stable least (before ++ r ∷ []) rs (counted numbers (transaction_of g r)) (All-tail (IsTaken g) r rs taken) follow.1 rest,
    )

pub stable-above : (g : Geometry) (stable : ℕ → ℕ) (least : Least g.segments) (segment page : ℕ) (first : 1 ≤ segment) (last : segment ≤ g.segments) → page < least segment first last → (before rs : List Record) (numbers : ℕ → ℕ) → All (IsTaken g) rs → Follow g numbers rs
    → All (Parts g.segments least) (turns_of stable before rs) → least segment first last ≤ counted_all numbers (map (transaction_of g) rs) segment + 1 → page ≤ numbers segment + stable_on segment (turns_of stable before rs)
stable-above g stable least segment page first last less before [] numbers taken follow all most = omega (arith, less, most)
stable-above g stable least segment page first last less before (r ∷ rs) numbers taken follow all most =
    let u : Turn = record { whole = r; stable = nat_lt (count_from r.node before) (stable r.node) } in
    let us : List Turn = turns_of stable (before ++ r ∷ []) rs in
    let own : IsTaken g r = All-head (IsTaken g) r rs taken in
    let later : page ≤ counted numbers (transaction_of g r) segment + stable_on segment us =
    stable-above g stable least segment page first last less (before ++ r ∷ []) rs (counted numbers (transaction_of g r)) (All-tail (IsTaken g) r rs taken) follow.1 (All-tail (Parts g.segments least) u us all) most in
    let here = All-head (Parts g.segments least) u us all in
    go u.stable (has_lock segment r) refl refl (counted-lock g r numbers segment own) later here
  where
    go : (b l : Bool) → nat_lt (count_from r.node before) (stable r.node) ≡ b → has_lock segment r ≡ l
        → counted numbers (transaction_of g r) segment ≡ (if l then numbers segment + 1 else numbers segment)
        → page ≤ counted numbers (transaction_of g r) segment + stable_on segment (turns_of stable (before ++ r ∷ []) rs)
        → Parts g.segments least (record { whole = r; stable = b })
        → page ≤ numbers segment + length (if b && l then record { whole = r; stable = nat_lt (count_from r.node before) (stable r.node) } ∷ filter (λ (u : Turn). u.stable && has_lock segment u.whole) (turns_of stable (before ++ r ∷ []) rs)
        else filter (λ (u : Turn). u.stable && has_lock segment u.whole) (turns_of stable (before ++ r ∷ []) rs))
    go true true one two is later parts = omega (arith, is, later)
    go true false one two is later parts = omega (arith, is, later)
    go false false one two is later parts = omega (arith, is, later)
    go false true one two is later parts =
        let mine = lock-number segment r.locks two in
        let low = (parts segment mine.0 first last mine.1).1 refl in
        let next = next-number numbers segment r.locks mine.0 follow.0 mine.1 in
        omega (arith, less, low, next)

-- Bytes on pages

range-with : (P : RangeData → Type 0) (ranges : List RangeData) (segment place : ℕ) → All P ranges → Has (map run_of ranges) segment place
    → (range : RangeData) × P range × (segment ≡ range.segment) × (range.offset ≤ place) × (place < range.offset + length range.bytes)
range-with P [] segment place all has = absurd has
range-with P (range ∷ ranges) segment place all has = elim has [
  | inl here ↦ (range, All-head P range ranges all, here.0, here.1, here.2)
  | inr later ↦ range-with P ranges segment place (All-tail P range ranges all) later
]

pub page-kept : (g : Geometry) (segment number clean page : ℕ) (area : List ℕ) (token : Token) (r : Record) → All (λ (range : RangeData). range.segment ≡ segment → IsKeptRange number clean g.pages area token.pages range) r.ranges
    → page < g.pages → HasByteOn g segment page r → IsKeptPage number clean area token.pages page
page-kept g segment number clean page area token r all less on =
    let found = range-with (λ (range : RangeData). range.segment ≡ segment → IsKeptRange number clean g.pages area token.pages range) r.ranges segment (page * 256 + on.0) all (byte-has r.ranges segment (page * 256 + on.0) on.2) in
    let low = found.3 in
    let high = found.4 in
    let within = on.1 in
    found.1 (sym found.2) page less (omega (arith, low, within), omega (arith, high))

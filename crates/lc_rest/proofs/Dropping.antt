-- What is left of a cluster without its first records is tested.
use Rattle.std.proofs.Common.{◌≡◌, ◌⊎◌, ℕ, zero, suc, ◌+◌, ◌-◌, ◌*◌, ◌/◌, ◌%◌, ◌<◌, ◌≤◌, Bool, true, false, ◌||◌, ◌&&◌, ◌==◌, List, [], ◌∷◌, ◌++◌, map, filter, length, take, drop, replicate, Option, Some, None, All, refl, sym, ◌∙◌, ap, subst, arith, inl, inr, append_assoc, length-append, eq-eqb, true≢false}
use Rattle.std.specs.Prelude.{nat_lt, max, slice_get, slice_index_or, is_some, IsTrue, if◌then◌else◌}
use Rattle.std.specs.Option.{unwrap_or}
use Rattle.std.proofs.lemmas.Bool.{ltb-true, lt-ltb, le-ltb, cases_lt}
use Rattle.std.proofs.lemmas.List.{append-nil, length-take}
use Rattle.std.proofs.lemmas.List.Elements.{All-nil, All-cons, All-head, All-tail, All-take, filter-append}
use Rattle.std.proofs.lemmas.Option.{slice_get_past}
use Rattle.std.proofs.Math.Seq.{take-append-add}
use Rattle.lc_record.proofs.ListLemmas.{All-append_left as all_in_front, All-append_right as all_behind, same_Bool as same-bool, slice_get-drop as at_drop}
use Rattle.lc_record.specs.Content.{Content, segment_of}
use Rattle.lc_record.specs.Geometry.{segment_len}
use Rattle.lc_record.specs.Newest.{byte_of, number_or_zero}
use Rattle.lc_record.specs.Part.{number_in}
use Rattle.lc_record.specs.Record.{Writes}
use Rattle.lc_record.specs.Recorded.{counted, laid}
use Rattle.lc_record.specs.Transaction.{is_member}
use Rattle.lc_record.specs.declared.geometry.Geometry.{Geometry}
use Rattle.lc_record.specs.declared.record.Lock.{Lock}
use Rattle.lc_record.specs.declared.record.RangeData.{RangeData}
use Rattle.lc_record.specs.declared.record.Record.{Record}
use Rattle.lc_record.proofs.ViewLemmas.{get_taken}
use Rattle.lc_range.specs.RangeSet.{Has}
use Rattle.lc_log.specs.LogText.{IsWhole}
use Rattle.lc_model.specs.Merge.{Page}
use Rattle.lc_model.specs.Merging.{byte_at, counted_all, is_from, put_on, sets}
use Rattle.lc_model.specs.Stored.{page_bytes}
use Rattle.lc_model.proofs.Bytes.{over_byte, byte-laid, same-items}
use Rattle.lc_token.specs.Clean.{HasByteOn}
use Rattle.lc_rest.specs.Adopted.{Follow, IsCleaned, IsInside, IsNext, IsReplayed, IsTaken, count_from, transaction_of}
use Rattle.lc_rest.specs.Found.{Found, last_number}
use Rattle.lc_rest.specs.Replay.{above_on, bytes_above, laid_on, number_after}
use Rattle.lc_rest.specs.Tested.{IsTested}
use Rattle.lc_rest.specs.Turns.{Turn, turns_of, has_lock, stable_on, AreBehind, IsAtHome}
use Rattle.lc_model.proofs.Result.{shape-effects}
use Rattle.lc_rest.proofs.DisksFit.{put-effects}
use Rattle.lc_rest.proofs.OneLock.{member-lock}
use Rattle.lc_rest.proofs.OneRecord.{run_of, has-byte, byte-has}
use Rattle.lc_rest.proofs.Played.{number-counted}
use Rattle.lc_rest.proofs.Replays.{on-rises}
use Rattle.lc_rest.proofs.Standing.{has-writes, range-locks, some-bytes, transactions_of}
use Rattle.lc_rest.proofs.Tokens.{known-lock, lock-number, next-number, number-lock}
use Rattle.lc_rest.proofs.Within.{sets-lock}
use Rattle.lc_rest.specs.Dropping.{AreDroppable, without}

-- Lists in two parts

split-lists : {X : Type 0} (a b c d : List X) → a ++ b ≡ c ++ d → ((m : List X) × (c ≡ a ++ m) × (b ≡ m ++ d)) ⊎ ((m : List X) × (a ≡ c ++ m) × (d ≡ m ++ b))
split-lists [] b c d e = inl (c, refl, e)
split-lists (x ∷ a) b [] d e = inr (x ∷ a, refl, sym e)
split-lists (x ∷ a) b (y ∷ c) d e =
    let same : x ≡ y = cc in
    let rest : a ++ b ≡ c ++ d = cc in
    elim (split-lists a b c d rest) [
      | inl is ↦ inl (is.0, (let own : c ≡ a ++ is.0 = is.1 in cc), is.2)
      | inr is ↦ inr (is.0, (let own : a ≡ c ++ is.0 = is.1 in cc), is.2)
    ]

-- Records in two parts

counted-split : (g : Geometry) (numbers : ℕ → ℕ) (front rest : List Record) → counted_all numbers (map (transaction_of g) (front ++ rest)) ≡ counted_all (counted_all numbers (map (transaction_of g) front)) (map (transaction_of g) rest)
counted-split g numbers [] rest = refl
counted-split g numbers (r ∷ front) rest = counted-split g (counted numbers (transaction_of g r)) front rest

put-split : (front rest : List Record) (content : Content) → put_on (front ++ rest) content ≡ put_on rest (put_on front content)
put-split [] rest content = refl
put-split (r ∷ front) rest content = put-split front rest (laid r.ranges content)

shape-put : (g : Geometry) (rs : List Record) (content : Content) → map length (put_on rs content) ≡ map length content
shape-put g rs content = ap (map length) (put-effects g rs content) ∙ shape-effects (transactions_of g rs) content

follow-back : (g : Geometry) (numbers : ℕ → ℕ) (front rest : List Record) → Follow g numbers (front ++ rest) → Follow g (counted_all numbers (map (transaction_of g) front)) rest
follow-back g numbers [] rest follow = follow
follow-back g numbers (r ∷ front) rest follow = follow-back g (counted numbers (transaction_of g r)) front rest follow.1

follow-front : (g : Geometry) (numbers : ℕ → ℕ) (front rest : List Record) → Follow g numbers (front ++ rest) → Follow g numbers front
follow-front g numbers [] rest follow = tt
follow-front g numbers (r ∷ front) rest follow = (follow.0, follow-front g (counted numbers (transaction_of g r)) front rest follow.1)

count-split : (node : ℕ) (front rest : List Record) → count_from node (front ++ rest) ≡ count_from node front + count_from node rest
count-split node front rest = ap length (filter-append (is_from node) front rest) ∙ length-append (filter (is_from node) front) (filter (is_from node) rest)

-- Turns

lt-shift : (a c s : ℕ) → nat_lt (a + c) s ≡ nat_lt c (s - a)
lt-shift a c s = same-bool (nat_lt (a + c) s) (nat_lt c (s - a))
    (λ e. lt-ltb c (s - a) (let less = ltb-true (a + c) s e in omega (arith, less)))
    (λ e. lt-ltb (a + c) s (let less = ltb-true c (s - a) e in omega (arith, less)))

turns-split : (stable : ℕ → ℕ) (before xs ys : List Record) → turns_of stable before (xs ++ ys) ≡ turns_of stable before xs ++ turns_of stable (before ++ xs) ys
turns-split stable before [] ys = ap (λ (b : List Record). turns_of stable b ys) (sym (append-nil before))
turns-split stable before (x ∷ xs) ys =
    let u : Turn = record { whole = x; stable = nat_lt (count_from x.node before) (stable x.node) } in
    ap (λ (us : List Turn). u ∷ us) (turns-split stable (before ++ x ∷ []) xs ys)
    ∙ ap (λ (b : List Record). u ∷ (turns_of stable (before ++ x ∷ []) xs ++ turns_of stable b ys)) (append_assoc before (x ∷ []) xs)

turns-shift : (stable : ℕ → ℕ) (front before rest : List Record) → turns_of stable (front ++ before) rest ≡ turns_of (λ n. stable n - count_from n front) before rest
turns-shift stable front before [] = refl
turns-shift stable front before (r ∷ rest) =
    ap (λ (b : Bool). record { whole = r; stable = b } ∷ turns_of stable ((front ++ before) ++ r ∷ []) rest)
    (ap (λ n. nat_lt n (stable r.node)) (count-split r.node front before) ∙ lt-shift (count_from r.node front) (count_from r.node before) (stable r.node))
    ∙ ap (λ (us : List Turn). record { whole = r; stable = nat_lt (count_from r.node before) (stable r.node - count_from r.node front) } ∷ us)
    (ap (λ (b : List Record). turns_of stable b rest) (append_assoc front before (r ∷ [])) ∙ turns-shift stable front (before ++ r ∷ []) rest)

turns-both : (stable : ℕ → ℕ) (front rest : List Record) → turns_of stable [] (front ++ rest) ≡ turns_of stable [] front ++ turns_of (λ n. stable n - count_from n front) [] rest
turns-both stable front rest =
    turns-split stable [] front rest
    ∙ ap (λ (us : List Turn). turns_of stable [] front ++ us) (ap (λ (b : List Record). turns_of stable b rest) (sym (append-nil front)) ∙ turns-shift stable front [] rest)

behind-back : (us vs : List Turn) → AreBehind (us ++ vs) → AreBehind vs
behind-back [] vs are = are
behind-back (u ∷ us) vs are = behind-back us vs are.1

stable-front : (stable : ℕ → ℕ) (segment : ℕ) (before rs : List Record) (n : ℕ) → n + stable_on segment (turns_of stable before rs) ≤ number_after segment rs n
stable-front stable segment before [] n = omega arith
stable-front stable segment before (r ∷ rs) n = go (nat_lt (count_from r.node before) (stable r.node)) (has_lock segment r) (λ m. stable-front stable segment (before ++ r ∷ []) rs m)
  where
    u : Turn
    u = record { whole = r; stable = nat_lt (count_from r.node before) (stable r.node) }

    kept : List Turn
    kept = filter (λ (v : Turn). v.stable && has_lock segment v.whole) (turns_of stable (before ++ r ∷ []) rs)

    go : (b h : Bool) → ((m : ℕ) → m + length kept ≤ number_after segment rs m) → n + length (if b && h then u ∷ kept else kept) ≤ number_after segment rs (if h then n + 1 else n)
    go true true later = (let more = later (n + 1) in omega (arith, more))
    go false true later = (let more = later (n + 1) in omega (arith, more))
    go true false later = later n
    go false false later = later n

stable-split : (segment : ℕ) (us vs : List Turn) → stable_on segment (us ++ vs) ≡ stable_on segment us + stable_on segment vs
stable-split segment us vs =
    ap length (filter-append (λ (v : Turn). v.stable && has_lock segment v.whole) us vs)
    ∙ length-append (filter (λ (v : Turn). v.stable && has_lock segment v.whole) us) (filter (λ (v : Turn). v.stable && has_lock segment v.whole) vs)

-- Numbers

numbers-rise : (g : Geometry) (numbers : ℕ → ℕ) (rs : List Record) (segment : ℕ) → numbers segment ≤ counted_all numbers (map (transaction_of g) rs) segment
numbers-rise g numbers [] segment = omega arith
numbers-rise g numbers (r ∷ rs) segment =
    (let one = on-rises (sets segment (transaction_of g r)) (numbers segment) in
    let two = numbers-rise g (counted numbers (transaction_of g r)) rs segment in
    omega (arith, one, two))

counted-lock : (g : Geometry) (r : Record) (numbers : ℕ → ℕ) (segment : ℕ) → IsTaken g r → counted numbers (transaction_of g r) segment ≡ (if has_lock segment r then numbers segment + 1 else numbers segment)
counted-lock g r numbers segment taken = ap (λ (b : Bool). if b then numbers segment + 1 else numbers segment) (sets-lock g r segment taken)

-- the last of the records that have a lock on the segment has the number after all of them
last-of : (g : Geometry) (P : Record → Type 0) (numbers : ℕ → ℕ) (segment : ℕ) (rs : List Record) → All (IsTaken g) rs → Follow g numbers rs → All P rs
    → (counted_all numbers (map (transaction_of g) rs) segment ≡ numbers segment) ⊎ ((r : Record) × P r × IsTaken g r × (number_in segment r.locks ≡ Some (counted_all numbers (map (transaction_of g) rs) segment)))
last-of g P numbers segment [] taken follow all = inl refl
last-of g P numbers segment (r ∷ rs) taken follow all =
    elim (last-of g P (counted numbers (transaction_of g r)) segment rs (All-tail (IsTaken g) r rs taken) follow.1 (All-tail P r rs all)) [
      | inl same ↦ go (has_lock segment r) refl same
      | inr found ↦ inr found
    ]
  where
    own : IsTaken g r
    own = All-head (IsTaken g) r rs taken

    last : ℕ
    last = counted_all (counted numbers (transaction_of g r)) (map (transaction_of g) rs) segment

    go : (b : Bool) → has_lock segment r ≡ b → last ≡ counted numbers (transaction_of g r) segment → (last ≡ numbers segment) ⊎ ((r : Record) × P r × IsTaken g r × (number_in segment r.locks ≡ Some last))
    go true e same =
        let its : (n : ℕ) × (number_in segment r.locks ≡ Some n) = lock-number segment r.locks e in
        let next : its.0 ≡ numbers segment + 1 = next-number numbers segment r.locks its.0 follow.0 its.1 in
        let count : counted numbers (transaction_of g r) segment ≡ numbers segment + 1 = counted-lock g r numbers segment own ∙ ap (λ (b : Bool). if b then numbers segment + 1 else numbers segment) e in
        inr (r, All-head P r rs all, own, its.1 ∙ ap Some (next ∙ sym (same ∙ count)))
    go false e same = inl (same ∙ counted-lock g r numbers segment own ∙ ap (λ (b : Bool). if b then numbers segment + 1 else numbers segment) e)

-- the later records have greater numbers
abbrev IsAbove : ℕ → ℕ → Record → Type 0
IsAbove segment number r = (n : ℕ) → number_in segment r.locks ≡ Some n → number < n

above-all : (g : Geometry) (rs : List Record) (numbers : ℕ → ℕ) (segment number : ℕ) → All (IsTaken g) rs → Follow g numbers rs → number ≤ numbers segment → All (IsAbove segment number) rs
above-all g [] numbers segment number taken follow most = All-nil (IsAbove segment number)
above-all g (r ∷ rs) numbers segment number taken follow most =
    All-cons (IsAbove segment number) r rs (λ n is. (let own = next-number numbers segment r.locks n follow.0 is in omega (arith, own, most)))
    (above-all g rs (counted numbers (transaction_of g r)) segment number (All-tail (IsTaken g) r rs taken) follow.1
    (let one = counted-lock g r numbers segment (All-head (IsTaken g) r rs taken) in let two = on-rises (has_lock segment r) (numbers segment) in omega (arith, one, two, most)))

-- Bytes on pages

written-place : (ranges : List RangeData) (segment : ℕ) → All (λ (r : RangeData). 1 ≤ length r.bytes) ranges → Writes segment ranges → (place : ℕ) × Has (map run_of ranges) segment place
written-place [] segment some writes = absurd writes
written-place (r ∷ ranges) segment some writes = elim writes [
  | inl here ↦ let long : 1 ≤ length r.bytes = All-head (λ (q : RangeData). 1 ≤ length q.bytes) r ranges some in (r.offset, inl (sym here, omega arith, omega (arith, long)))
  | inr later ↦ let its : (place : ℕ) × Has (map run_of ranges) segment place = written-place ranges segment (All-tail (λ (q : RangeData). 1 ≤ length q.bytes) r ranges some) later in (its.0, inr its.1)
]

place-within : (g : Geometry) (ranges : List RangeData) (segment place : ℕ) → All (IsInside g) ranges → Has (map run_of ranges) segment place → place < segment_len g
place-within g [] segment place all has = absurd has
place-within g (range ∷ ranges) segment place all has = elim has [
  | inl here ↦ (let inside : IsInside g range = All-head (IsInside g) range ranges all in let end = inside.end in let high = here.2 in omega (arith, end, high))
  | inr later ↦ place-within g ranges segment place (All-tail (IsInside g) range ranges all) later
]

-- a record with a lock on the segment has a byte on a page
page-of : (g : Geometry) (r : Record) (segment n : ℕ) → IsTaken g r → number_in segment r.locks ≡ Some n → (page : ℕ) × (page < g.pages) × HasByteOn g segment page r
page-of g r segment n taken has =
    let at : (place : ℕ) × Has (map run_of r.ranges) segment place = written-place r.ranges segment (some-bytes r.ranges taken.canonical.each_range) ((taken.canonical.same_segments segment).0 (member-lock segment r.locks (number-lock segment r.locks n has))) in
    let within : at.0 < g.pages * 256 = place-within g r.ranges segment at.0 taken.inside at.1 in
    let parts : at.0 / 256 * 256 + at.0 % 256 ≡ at.0 = omega arith in
    (at.0 / 256, omega (arith, within), (at.0 % 256, omega arith, subst (λ (k : ℕ). is_some (byte_of segment k r.ranges) ≡ true) (sym parts) (has-byte r.ranges segment at.0 at.1)))

-- one with a byte on it has a lock
number-on : (g : Geometry) (r : Record) (segment page : ℕ) → IsTaken g r → HasByteOn g segment page r → (n : ℕ) × (number_in segment r.locks ≡ Some n)
number-on g r segment page taken on =
    lock-number segment r.locks (range-locks r taken.canonical segment (has-writes r.ranges segment (page * 256 + on.0) (byte-has r.ranges segment (page * 256 + on.0) on.2)))

get-part : (page k : ℕ) (xs : List ℕ) → k < 256 → slice_get (take 256 (drop (page * 256) xs)) k ≡ slice_get xs (page * 256 + k)
get-part page k xs less = get_taken 256 (drop (page * 256) xs) k less ∙ at_drop (page * 256) k xs

part-past : (page k : ℕ) (xs : List ℕ) → 256 ≤ k → slice_get (take 256 (drop (page * 256) xs)) k ≡ None
part-past page k xs past = slice_get_past (take 256 (drop (page * 256) xs)) k (let long = length-take 256 (drop (page * 256) xs) in omega (arith, long, past))

-- a page on which it has no byte stays
page-stays : (g : Geometry) (segment page : ℕ) (r : Record) (content : Content) → (HasByteOn g segment page r → ⊥) → page_bytes segment page (laid r.ranges content) ≡ page_bytes segment page content
page-stays g segment page r content none = same-items (page_bytes segment page (laid r.ranges content)) (page_bytes segment page content) (λ k. elim (cases_lt k 256) [
  | inl less ↦
      get-part page k (segment_of segment (laid r.ranges content)) less ∙ byte-laid segment (page * 256 + k) r.ranges content
      ∙ go k less (byte_of segment (page * 256 + k) r.ranges) refl
      ∙ sym (get-part page k (segment_of segment content) less)
  | inr past ↦ part-past page k (segment_of segment (laid r.ranges content)) (omega (arith, past)) ∙ sym (part-past page k (segment_of segment content) (omega (arith, past)))
])
  where
    go : (k : ℕ) → k < 256 → (o : Option ℕ) → byte_of segment (page * 256 + k) r.ranges ≡ o → over_byte o (byte_at segment (page * 256 + k) content) ≡ byte_at segment (page * 256 + k) content
    go k less None is = refl
    go k less (Some byte) is = absurd (none (k, less, ap is_some is))

abbrev IsOff : Geometry → ℕ → ℕ → Record → Type 0
IsOff g segment page r = HasByteOn g segment page r → ⊥

page-stays-all : (g : Geometry) (segment page : ℕ) (rs : List Record) (content : Content) → All (IsOff g segment page) rs → page_bytes segment page (put_on rs content) ≡ page_bytes segment page content
page-stays-all g segment page [] content none = refl
page-stays-all g segment page (r ∷ rs) content none =
    page-stays-all g segment page rs (laid r.ranges content) (All-tail (IsOff g segment page) r rs none) ∙ page-stays g segment page r content (All-head (IsOff g segment page) r rs none)

-- All of each node

filter-tail : (Q : Record → Type 0) (n : ℕ) (r : Record) (rs : List Record) → All Q (filter (is_from n) (r ∷ rs)) → All Q (filter (is_from n) rs)
filter-tail Q n r rs all = go (r.node == n) all
  where
    go : (b : Bool) → All Q (if b then r ∷ filter (is_from n) rs else filter (is_from n) rs) → All Q (filter (is_from n) rs)
    go true its = All-tail Q r (filter (is_from n) rs) its
    go false its = its

filter-head : (Q : Record → Type 0) (r : Record) (rs : List Record) → All Q (filter (is_from r.node) (r ∷ rs)) → Q r
filter-head Q r rs all = go (r.node == r.node) (eq-eqb r.node r.node refl) all
  where
    go : (b : Bool) → b ≡ true → All Q (if b then r ∷ filter (is_from r.node) rs else filter (is_from r.node) rs) → Q r
    go true is its = All-head Q r (filter (is_from r.node) rs) its
    go false is its = absurd (true≢false (sym is))

all-nodes : (Q : Record → Type 0) (nodes : ℕ) (rs : List Record) → All (λ (r : Record). r.node < nodes) rs → ((n : ℕ) → n < nodes → All Q (filter (is_from n) rs)) → All Q rs
all-nodes Q nodes [] few each = All-nil Q
all-nodes Q nodes (r ∷ rs) few each =
    All-cons Q r rs (filter-head Q r rs (each r.node (All-head (λ (q : Record). q.node < nodes) r rs few)))
    (all-nodes Q nodes rs (All-tail (λ (q : Record). q.node < nodes) r rs few) (λ n less. filter-tail Q n r rs (each n less)))

-- The numbers after what is dropped

max-same : (a b c q : ℕ) → a ≤ b → b ≤ c → c ≡ max a q → c ≡ max b q
max-same a b c q one two three = grind (arith, one, two, three)

max-most : (a c q : ℕ) → c ≡ max a q → q ≤ c
max-most a c q is = grind (arith, is)

max-own : (b q : ℕ) → q ≤ b → b ≡ max b q
max-own b q less = grind (arith, less)

-- What is left

module _ (f : Found) (front rest : List Record) (is : IsTested f) (can : AreDroppable f front rest) where
  abbrev g : Geometry
  g = f.geometry

  whole : (P : Record → Type 0) → All P f.records → All P (front ++ rest)
  whole P all = subst (λ (rs : List Record). All P rs) can.parts all

  later : (P : Record → Type 0) → All P f.records → All P rest
  later P all = all_behind P front rest (whole P all)

  first : (P : Record → Type 0) → All P f.records → All P front
  first P all = all_in_front P front rest (whole P all)

  follows : Follow g f.numbers (front ++ rest)
  follows = subst (λ (rs : List Record). Follow g f.numbers rs) can.parts is.follow

  abbrev numbers : ℕ → ℕ
  numbers = counted_all f.numbers (map (transaction_of g) front)

  last-same : (segment : ℕ) → counted_all numbers (map (transaction_of g) rest) segment ≡ last_number f segment
  last-same segment = ap (λ (h : ℕ → ℕ). h segment) (sym (counted-split g f.numbers front rest)) ∙ ap (λ (rs : List Record). counted_all f.numbers (map (transaction_of g) rs) segment) (sym can.parts)

  -- each number that is dropped is clean
  abbrev IsCleanOn : Record → Type 0
  IsCleanOn r = (segment : ℕ) → 1 ≤ segment → segment ≤ g.segments → number_or_zero segment r.locks ≤ f.clean segment

  own-clean : (node : ℕ) → node < g.nodes → All IsCleanOn (filter (is_from node) front)
  own-clean node less =
      let count : ℕ = count_from node front in
      let more : ℕ = f.dropped node - count in
      let enough = can.ended node less in
      let parts : filter (is_from node) f.records ≡ filter (is_from node) front ++ filter (is_from node) rest = ap (filter (is_from node)) can.parts ∙ filter-append (is_from node) front rest in
      let known : All (λ (r : Record). (segment : ℕ) → 1 ≤ segment → segment ≤ g.segments → number_or_zero segment r.locks ≤ f.known node segment) (take (count + more) (filter (is_from node) front ++ filter (is_from node) rest)) =
      subst (λ (rs : List Record). All (λ (r : Record). (segment : ℕ) → 1 ≤ segment → segment ≤ g.segments → number_or_zero segment r.locks ≤ f.known node segment) (take (count + more) rs)) parts
      (subst (λ (n : ℕ). All (λ (r : Record). (segment : ℕ) → 1 ≤ segment → segment ≤ g.segments → number_or_zero segment r.locks ≤ f.known node segment) (take n (filter (is_from node) f.records))) (omega (arith, enough)) (is.dropped_known node less)) in
      let mine : All (λ (r : Record). (segment : ℕ) → 1 ≤ segment → segment ≤ g.segments → number_or_zero segment r.locks ≤ f.known node segment) (filter (is_from node) front) =
      all_in_front (λ (r : Record). (segment : ℕ) → 1 ≤ segment → segment ≤ g.segments → number_or_zero segment r.locks ≤ f.known node segment) (filter (is_from node) front) (take more (filter (is_from node) rest))
      (subst (λ (rs : List Record). All (λ (r : Record). (segment : ℕ) → 1 ≤ segment → segment ≤ g.segments → number_or_zero segment r.locks ≤ f.known node segment) rs) (take-append-add (filter (is_from node) front) (filter (is_from node) rest) more) known) in
      λ k d within segment low high. (let one = mine k d within segment low high in let two = is.known_clean node segment low high in omega (arith, one, two))

  cleans : All IsCleanOn front
  cleans = all-nodes IsCleanOn g.nodes front (first (λ (r : Record). r.node < g.nodes) is.nodes) own-clean

  -- some page has come to the first number that is left
  reaches : (segment : ℕ) → 1 ≤ segment → segment ≤ g.segments → (page : ℕ) × (page < g.pages) × (numbers segment ≤ (f.pages segment page).sequence)
  reaches segment low high =
      elim (last-of g (λ (r : Record). IsCleanOn r × IsCleaned g f.pages f.clean r) f.numbers segment front (first (IsTaken g) is.taken) (follow-front g f.numbers front rest follows)
      (λ k d less. (cleans k d less, first (IsCleaned g f.pages f.clean) is.cleaned k d less))) [
        | inl same ↦ (let old = is.reached segment low high in let reach = old.2 in (old.0, old.1, omega (arith, same, reach)))
        | inr found ↦
            let r : Record = found.0 in
            let number : number_or_zero segment r.locks ≡ numbers segment = ap (λ (o : Option ℕ). unwrap_or o 0) found.3 in
            let on : (page : ℕ) × (page < g.pages) × HasByteOn g segment page r = page-of g r segment (numbers segment) found.2 found.3 in
            let clean = found.1.0 segment low high in
            let reach = found.1.1 segment on.0 clean on.1 on.2 in
            (on.0, on.1, omega (arith, number, reach))
      ]

  -- each page is what the records make of what is dropped
  replays : (segment page : ℕ) → 1 ≤ segment → segment ≤ g.segments → page < g.pages → IsReplayed g rest numbers (put_on front f.base) segment page (f.pages segment page)
  replays segment page low high less = elim (split-lists front rest old.before old.behind (sym can.parts ∙ old.parts)) [
    | inl past ↦ record {
      before = past.0;
      behind = old.behind;
      parts = past.2;
      count =
          (let at : counted_all numbers (map (transaction_of g) past.0) segment ≡ counted_all f.numbers (map (transaction_of g) old.before) segment =
          ap (λ (h : ℕ → ℕ). h segment) (sym (counted-split g f.numbers front past.0)) ∙ ap (λ (rs : List Record). counted_all f.numbers (map (transaction_of g) rs) segment) (sym past.1) in
          max-same (f.numbers segment) (numbers segment) (counted_all numbers (map (transaction_of g) past.0) segment) (f.pages segment page).sequence
          (numbers-rise g f.numbers front segment) (numbers-rise g numbers past.0 segment) (at ∙ old.count));
      bytes = old.bytes ∙ ap (page_bytes segment page) (ap (λ (rs : List Record). put_on rs f.base) past.1 ∙ put-split front past.0 f.base);
    }
    | inr short ↦ record {
      before = [];
      behind = rest;
      parts = refl;
      count = max-own (numbers segment) (f.pages segment page).sequence (most short.0 short.1);
      bytes = old.bytes ∙ sym (page-stays-all g segment page short.0 (put_on old.before f.base) (off short.0 short.1)) ∙ ap (page_bytes segment page) (sym (put-split old.before short.0 f.base) ∙ ap (λ (rs : List Record). put_on rs f.base) (sym short.1));
    }
  ]
    where
      old : IsReplayed g f.records f.numbers f.base segment page (f.pages segment page)
      old = is.replayed segment page low high less

      mid : ℕ → ℕ
      mid = counted_all f.numbers (map (transaction_of g) old.before)

      reached_it : (f.pages segment page).sequence ≤ mid segment
      reached_it = max-most (f.numbers segment) (mid segment) (f.pages segment page).sequence old.count

      most : (m : List Record) → front ≡ old.before ++ m → (f.pages segment page).sequence ≤ numbers segment
      most m parts =
          let at : numbers segment ≡ counted_all mid (map (transaction_of g) m) segment = ap (λ (rs : List Record). counted_all f.numbers (map (transaction_of g) rs) segment) parts ∙ ap (λ (h : ℕ → ℕ). h segment) (counted-split g f.numbers old.before m) in
          let rise = numbers-rise g mid m segment in
          omega (arith, at, rise, reached_it)

      off : (m : List Record) → front ≡ old.before ++ m → All (IsOff g segment page) m
      off m parts = λ k d within on.
          let taken : All (IsTaken g) m = all_behind (IsTaken g) old.before m (subst (λ (rs : List Record). All (IsTaken g) rs) parts (first (IsTaken g) is.taken)) in
          let follow : Follow g mid m = follow-back g f.numbers old.before m (subst (λ (rs : List Record). Follow g f.numbers rs) parts (follow-front g f.numbers front rest follows)) in
          let clean : All IsCleanOn m = all_behind IsCleanOn old.before m (subst (λ (rs : List Record). All IsCleanOn rs) parts cleans) in
          let cleaned : All (IsCleaned g f.pages f.clean) m = all_behind (IsCleaned g f.pages f.clean) old.before m (subst (λ (rs : List Record). All (IsCleaned g f.pages f.clean) rs) parts (first (IsCleaned g f.pages f.clean) is.cleaned)) in
          let r : Record = slice_index_or m k d in
          let its : (n : ℕ) × (number_in segment r.locks ≡ Some n) = number-on g r segment page (taken k d within) on in
          let number : number_or_zero segment r.locks ≡ its.0 = ap (λ (o : Option ℕ). unwrap_or o 0) its.1 in
          let above : mid segment < its.0 = above-all g m mid segment (mid segment) taken follow (omega arith) k d within its.0 its.1 in
          let low_enough = clean k d within segment low high in
          let on_page = cleaned k d within segment page low_enough less on in
          absurd (omega (arith, number, above, on_page, reached_it))

  turns-parts : turns_of f.stable [] f.records ≡ turns_of f.stable [] front ++ turns_of (λ n. f.stable n - count_from n front) [] rest
  turns-parts = ap (turns_of f.stable []) can.parts ∙ turns-both f.stable front rest

  pages-stable : (segment page : ℕ) → 1 ≤ segment → segment ≤ g.segments → page < g.pages → (f.pages segment page).sequence ≤ numbers segment + stable_on segment (turns_of (λ n. f.stable n - count_from n front) [] rest)
  pages-stable segment page low high less =
      let old = is.pages_stable segment page low high less in
      let parts : stable_on segment (turns_of f.stable [] f.records) ≡ stable_on segment (turns_of f.stable [] front) + stable_on segment (turns_of (λ n. f.stable n - count_from n front) [] rest) =
      ap (stable_on segment) turns-parts ∙ stable-split segment (turns_of f.stable [] front) (turns_of (λ n. f.stable n - count_from n front) [] rest) in
      let few = stable-front f.stable segment [] front (f.numbers segment) in
      let same : number_after segment front (f.numbers segment) ≡ numbers segment = number-counted g segment front f.numbers (first (IsTaken g) is.taken) in
      omega (arith, old, parts, few, same)

  dropped-later : (node : ℕ) → node < g.nodes → All (λ (r : Record). (segment : ℕ) → 1 ≤ segment → segment ≤ g.segments → number_or_zero segment r.locks ≤ f.known node segment) (take (f.dropped node - count_from node front) (filter (is_from node) rest))
  dropped-later node less =
      let count : ℕ = count_from node front in
      let more : ℕ = f.dropped node - count in
      let enough = can.ended node less in
      let parts : filter (is_from node) f.records ≡ filter (is_from node) front ++ filter (is_from node) rest = ap (filter (is_from node)) can.parts ∙ filter-append (is_from node) front rest in
      all_behind (λ (r : Record). (segment : ℕ) → 1 ≤ segment → segment ≤ g.segments → number_or_zero segment r.locks ≤ f.known node segment) (filter (is_from node) front) (take more (filter (is_from node) rest))
      (subst (λ (rs : List Record). All (λ (r : Record). (segment : ℕ) → 1 ≤ segment → segment ≤ g.segments → number_or_zero segment r.locks ≤ f.known node segment) rs) (take-append-add (filter (is_from node) front) (filter (is_from node) rest) more)
      (subst (λ (rs : List Record). All (λ (r : Record). (segment : ℕ) → 1 ≤ segment → segment ≤ g.segments → number_or_zero segment r.locks ≤ f.known node segment) (take (count + more) rs)) parts
      (subst (λ (n : ℕ). All (λ (r : Record). (segment : ℕ) → 1 ≤ segment → segment ≤ g.segments → number_or_zero segment r.locks ≤ f.known node segment) (take n (filter (is_from node) f.records))) (omega (arith, enough)) (is.dropped_known node less))))

  pub left : IsTested (without f front rest)
  left = record {
    taken = later (IsTaken g) is.taken;
    whole = later IsWhole is.whole;
    nodes = later (λ (r : Record). r.node < g.nodes) is.nodes;
    places = is.places;
    few = λ node. (let old = is.few node in let parts = ap (count_from node) can.parts ∙ count-split node front rest in omega (arith, old, parts));
    dropped_stable = λ node less. (let old = is.dropped_stable node less in omega (arith, old));
    dropped_known = dropped-later;
    known_clean = is.known_clean;
    follow = follow-back g f.numbers front rest follows;
    home = all_behind (IsAtHome f.place) (turns_of f.stable [] front) (turns_of (λ n. f.stable n - count_from n front) [] rest) (subst (λ (us : List Turn). All (IsAtHome f.place) us) turns-parts is.home);
    behind = behind-back (turns_of f.stable [] front) (turns_of (λ n. f.stable n - count_from n front) [] rest) (subst AreBehind turns-parts is.behind);
    shape = shape-put g front f.base ∙ is.shape;
    pages_stable = pages-stable;
    pages_within = λ segment page low high less. (let old = is.pages_within segment page low high less in let same = last-same segment in omega (arith, old, same));
    reached = reaches;
    replayed = replays;
    cleaned = later (IsCleaned g f.pages f.clean) is.cleaned;
    touched = later (λ (r : Record). (segment page : ℕ) → page < g.pages → HasByteOn g segment page r → number_or_zero segment r.locks ≤ f.touched segment page) is.touched;
    clean_within = λ segment low high. (let old = is.clean_within segment low high in let same = last-same segment in omega (arith, old, same));
    small = λ segment low high. (let old = is.small segment low high in let same = last-same segment in omega (arith, old, same));
    applied_within = λ node segment low high. (let old = is.applied_within node segment low high in let same = last-same segment in omega (arith, old, same));
    applied_here = λ node segment low high here. is.applied_here node segment low high here ∙ sym (last-same segment);
  }

pub tested : (f : Found) (front rest : List Record) → IsTested f → AreDroppable f front rest → IsTested (without f front rest)
tested f front rest is can = left f front rest is can

pub value-same : (f : Found) (front rest : List Record) → AreDroppable f front rest → put_on rest (put_on front f.base) ≡ put_on f.records f.base
value-same f front rest can = sym (put-split front rest f.base) ∙ ap (λ (rs : List Record). put_on rs f.base) (sym can.parts)

pub number-same : (f : Found) (front rest : List Record) (segment : ℕ) → AreDroppable f front rest → last_number (without f front rest) segment ≡ last_number f segment
number-same f front rest segment can =
    ap (λ (h : ℕ → ℕ). h segment) (sym (counted-split f.geometry f.numbers front rest)) ∙ ap (λ (rs : List Record). counted_all f.numbers (map (transaction_of f.geometry) rs) segment) (sym can.parts)

-- The image of a node that has applied what is dropped

within-all : (g : Geometry) (rs : List Record) (numbers : ℕ → ℕ) (segment most : ℕ) → All (IsTaken g) rs → Follow g numbers rs → counted_all numbers (map (transaction_of g) rs) segment ≤ most
    → All (λ (r : Record). number_or_zero segment r.locks ≤ most) rs
within-all g [] numbers segment most taken follow few = All-nil (λ (r : Record). number_or_zero segment r.locks ≤ most)
within-all g (r ∷ rs) numbers segment most taken follow few =
    All-cons (λ (q : Record). number_or_zero segment q.locks ≤ most) r rs (go (number_in segment r.locks) refl)
    (within-all g rs (counted numbers (transaction_of g r)) segment most (All-tail (IsTaken g) r rs taken) follow.1 few)
  where
    go : (o : Option ℕ) → number_in segment r.locks ≡ o → unwrap_or o 0 ≤ most
    go None is = omega arith
    go (Some n) is =
        let held : has_lock segment r ≡ true = number-lock segment r.locks n is in
        let next = next-number numbers segment r.locks n follow.0 is in
        let count : counted numbers (transaction_of g r) segment ≡ numbers segment + 1 = counted-lock g r numbers segment (All-head (IsTaken g) r rs taken) ∙ ap (λ (b : Bool). if b then numbers segment + 1 else numbers segment) held in
        let rise = numbers-rise g (counted numbers (transaction_of g r)) rs segment in
        omega (arith, next, count, rise, few)

above-split : (segment applied : ℕ) (front rest : List Record) (bytes : List ℕ) → bytes_above segment applied (front ++ rest) bytes ≡ bytes_above segment applied rest (bytes_above segment applied front bytes)
above-split segment applied [] rest bytes = refl
above-split segment applied (r ∷ front) rest bytes = above-split segment applied front rest (above_on segment applied r bytes)

above-none : (segment applied : ℕ) (rs : List Record) (bytes : List ℕ) → All (λ (r : Record). number_or_zero segment r.locks ≤ applied) rs → bytes_above segment applied rs bytes ≡ bytes
above-none segment applied [] bytes all = refl
above-none segment applied (r ∷ rs) bytes all =
    let low : number_or_zero segment r.locks ≤ applied = All-head (λ (q : Record). number_or_zero segment q.locks ≤ applied) r rs all in
    let same : above_on segment applied r bytes ≡ bytes = ap (λ (b : Bool). if b then laid_on segment r.ranges bytes else bytes) (le-ltb applied (number_or_zero segment r.locks) low) in
    ap (bytes_above segment applied rs) same ∙ above-none segment applied rs bytes (All-tail (λ (q : Record). number_or_zero segment q.locks ≤ applied) r rs all)

pub image-same : (f : Found) (front rest : List Record) (segment applied : ℕ) (bytes : List ℕ) → IsTested f → AreDroppable f front rest → counted_all f.numbers (map (transaction_of f.geometry) front) segment ≤ applied
    → bytes_above segment applied rest bytes ≡ bytes_above segment applied f.records bytes
image-same f front rest segment applied bytes is can few =
    let taken : All (IsTaken f.geometry) front = all_in_front (IsTaken f.geometry) front rest (subst (λ (rs : List Record). All (IsTaken f.geometry) rs) can.parts is.taken) in
    let follow : Follow f.geometry f.numbers front = follow-front f.geometry f.numbers front rest (subst (λ (rs : List Record). Follow f.geometry f.numbers rs) can.parts is.follow) in
    ap (bytes_above segment applied rest) (sym (above-none segment applied front bytes (within-all f.geometry front f.numbers segment applied taken follow few)))
    ∙ sym (above-split segment applied front rest bytes) ∙ ap (λ (rs : List Record). bytes_above segment applied rs bytes) (sym can.parts)

-- Whole records: what is read stands at the front, and what is spelled is read again.
use Rattle.std.proofs.Common.{◌≡◌, ◌≢◌, ℕ, suc, ◌+◌, ◌*◌, ◌/◌, ◌<◌, ◌≤◌, ◌^◌, Bool, true, cond, eqb, ◌&&◌, List, [], ◌∷◌, ◌++◌, length, get_or, take, Option, Some, None, refl, sym, ap, subst, ◌∙◌, inl, inr, arith, append_assoc, length-append, drop, take-append-drop}
use Rattle.std.specs.Prelude.{IsTrue, ◌↔◌, IfSome, IfNone}
use Rattle.std.specs.List.{flat_map, AllByRecursion}
use Rattle.std.proofs.lemmas.Bool.{and_parts, and_from, eqb-true, eq-eqb}
use Rattle.std.proofs.lemmas.List.{append-nil, take_at, drop_at, length-take-le}
use Rattle.std.proofs.lemmas.Option.{cond_some, none-some, same_Some}
use Rattle.lc_record.specs.Words.{AreWords}
use Rattle.lc_record.specs.GrammarVersion.{number}
use Rattle.lc_record.specs.Record.{record_len, header, lock_words, range_words, spelling, version_of, IsLock, IsRange, Locks, Writes, IsCanonical, IsRecord}
use Rattle.lc_record.specs.Codec.{BeginsWith, BeginsNoRecord}
use Rattle.lc_record.specs.Reading.{◌>>=◌, Gives, head_at, locks_at, ascend, ranges_at, RangeProgress, start, follow, walked, is_closed, Front, front, front_at, len_at, record_of, record_at, Passes}
use Rattle.lc_record.specs.declared.parts.Head.{Head}
use Rattle.lc_record.specs.declared.record.Record.{Record}
use Rattle.lc_record.specs.declared.record.Lock.{Lock}
use Rattle.lc_record.specs.declared.record.RangeData.{RangeData}
use Rattle.lc_record.specs.declared.grammar_version.GrammarVersion.{GrammarVersion}
use Rattle.lc_record.specs.declared.grammar_version.GrammarVersion.TheVariants.{First, Second}
use Rattle.lc_record.proofs.SpellingLemmas.{length-lock_words, length-spelling, AreWords-spelling, segment_small, word_len}
use Rattle.lc_record.proofs.OrderLemmas.{ascend_takes, ascend_from, ascends_chain, locks_ascend, Fits, start_takes, start_from}
use Rattle.lc_record.proofs.ReadingLemmas.{bind_some, behind_fit, head_first, head_second, IsHead, HeadTakes, head_takes, head_again, LocksTake, locks_take, locks_again, RangesTake, ranges_take, AreBelow, ranges_again}

-- All before the ranges

pub record FrontTakes (words : List ℕ) (f : Front) : Type 0 where
  pub spelled : words ≡ head_first f.head ∷ head_second f.head ∷ (flat_map lock_words f.locks ++ f.rest)
  pub is : IsHead f.head
  pub count : length f.locks ≡ f.head.locks
  pub ascending : ascend 0 f.locks ≡ true

pub front_takes : (words : List ℕ) (f : Front) → front_at words ≡ Some f → FrontTakes words f
unfolding front_at
front_takes words f e =
    let h = bind_some (head_at words) (λ head. locks_at head.0.locks head.1 >>= λ locks. cond (ascend 0 locks.0) (Some (front head.0 locks.0 locks.1)) None) f e in
    let l = bind_some (locks_at h.0.0.locks h.0.1) (λ locks. cond (ascend 0 locks.0) (Some (front h.0.0 locks.0 locks.1)) None) f h.2 in
    let taken = cond_some (ascend 0 l.0.0) (front h.0.0 l.0.0 l.0.1) f l.2 in
    let first : HeadTakes words h.0.0 h.0.1 = head_takes words h.0 h.1 in
    let second : LocksTake h.0.0.locks h.0.1 l.0.0 l.0.1 = locks_take h.0.0.locks h.0.1 l.0 l.1 in
    subst (λ (y : Front). FrontTakes words y) taken.1 (record {
      spelled = first.spelled ∙ ap (λ (t : List ℕ). head_first h.0.0 ∷ head_second h.0.0 ∷ t) second.spelled;
      is = first.is;
      count = second.count;
      ascending = taken.0;
    })

front_again : (head : Head) (locks : List Lock) (rest : List ℕ) → IsHead head → length locks ≡ head.locks → AllByRecursion IsLock locks → ascend 0 locks ≡ true
    → front_at (head_first head ∷ head_second head ∷ (flat_map lock_words locks ++ rest)) ≡ Some (front head locks rest)
unfolding front_at
front_again head locks rest is count each up =
    let its : locks_at head.locks (flat_map lock_words locks ++ rest) ≡ Some (locks, rest) = subst (λ (n : ℕ). locks_at n (flat_map lock_words locks ++ rest) ≡ Some (locks, rest)) count (locks_again locks rest each) in
    rw (head_again head (flat_map lock_words locks ++ rest) is, its, up) refl

-- The ranges

same_number : (v w : GrammarVersion) → number v ≡ number w → v ≡ w
same_number First First e = refl
same_number First Second e = absurd (omega (arith, e))
same_number Second First e = absurd (omega (arith, e))
same_number Second Second e = refl

walked_takes : (version : GrammarVersion) (before : RangeProgress) (read : Option (List RangeData × List ℕ)) (rest : List ℕ) → walked version before read ≡ Some rest
    → (ranges : List RangeData) × (read ≡ Some (ranges, rest)) × (follow before ranges ≡ true) × (version_of ranges ≡ version)
walked_takes version before read rest e =
    let r = bind_some read (λ ranges. cond (follow before ranges.0 && eqb (number (version_of ranges.0)) (number version)) (Some ranges.1) None) rest e in
    let taken = cond_some (follow before r.0.0 && eqb (number (version_of r.0.0)) (number version)) r.0.1 rest r.2 in
    let both = and_parts (follow before r.0.0) (eqb (number (version_of r.0.0)) (number version)) taken.0 in
    (r.0.0, r.1 ∙ ap (λ (l : List ℕ). Some (r.0.0, l)) taken.1, both.0, same_number (version_of r.0.0) version (eqb-true _ _ both.1))

closed_takes : (len : ℕ) (words rest : List ℕ) → is_closed len words rest ≡ true → (behind : List ℕ) × (rest ≡ len ∷ behind) × (length words ≡ length behind + len)
closed_takes len words [] e = absurd cc
closed_takes len words (last ∷ behind) e =
    let both = and_parts (eqb last len) (eqb (length words) (length behind + len)) e in
    (behind, ap (λ (n : ℕ). n ∷ behind) (eqb-true _ _ both.0), eqb-true _ _ both.1)

-- Records

-- what the first two words of a record say
abbrev pub head_from : Record → Head
head_from r = record { version = version_of r.ranges; node = r.node; locks = length r.locks; ranges = length r.ranges; len = record_len r }

-- the words of a record, and what stands after it
abbrev words_behind : Head → List Lock → List RangeData → List ℕ → List ℕ
words_behind head locks ranges rest = head_first head ∷ head_second head ∷ (flat_map lock_words locks ++ (flat_map (range_words head.version) ranges ++ head.len ∷ rest))

spelling_split : (r : Record) (rest : List ℕ) → spelling r ++ rest ≡ words_behind (head_from r) r.locks r.ranges rest
spelling_split r rest =
    let locks = flat_map lock_words r.locks in
    let ranges = flat_map (range_words (version_of r.ranges)) r.ranges in
    ap
    (λ (t : List ℕ). head_first (head_from r) ∷ head_second (head_from r) ∷ t)
    (append_assoc (locks ++ ranges) (record_len r ∷ []) rest ∙ append_assoc locks ranges (record_len r ∷ rest))

canonical_from : (r : Record) → r.node ≤ 7 → 1 ≤ length r.locks → length r.locks ≤ 16 → 1 ≤ length r.ranges → length r.ranges ≤ 64
    → ascend 0 r.locks ≡ true → AllByRecursion IsRange r.ranges → follow (start r.locks) r.ranges ≡ true → IsCanonical r
canonical_from r few some_locks few_locks some_ranges few_ranges up each following =
    let locks = ascend_takes 0 r.locks up in
    let fits : Fits r.locks r.ranges = start_takes r.locks r.ranges locks.1 each following in
    record {
      node = few;
      some_locks = some_locks;
      few_locks = few_locks;
      each_lock = locks.0;
      locks_ascend = ascends_chain 0 r.locks locks.1;
      some_ranges = some_ranges;
      few_ranges = few_ranges;
      each_range = each;
      ranges_ascend = fits.ranges_ascend;
      same_segments = fits.same_segments;
    }

canonical_ascends : (r : Record) → IsCanonical r → ascend 0 r.locks ≡ true
canonical_ascends r is = ascend_from 0 r.locks is.each_lock (locks_ascend r.locks is.each_lock is.locks_ascend)

canonical_follows : (r : Record) → IsCanonical r → follow (start r.locks) r.ranges ≡ true
canonical_follows r is = start_from r.locks r.ranges is.each_lock (locks_ascend r.locks is.each_lock is.locks_ascend) is.ranges_ascend is.same_segments

-- what is tested is what the grammar says
pub passes_canonical : (r : Record) → Passes r.node r.locks r.ranges ↔ IsCanonical r
passes_canonical r = (
  λ p. canonical_from r p.node p.some_locks p.few_locks p.some_ranges p.few_ranges p.ascending p.each_range p.following,
  λ is. record {
    node = is.node;
    some_locks = is.some_locks;
    few_locks = is.few_locks;
    some_ranges = is.some_ranges;
    few_ranges = is.few_ranges;
    ascending = canonical_ascends r is;
    each_range = is.each_range;
    following = canonical_follows r is;
  },
)

-- words that end where their length says
same_len : (words behind : List ℕ) (r : Record) (n : ℕ) → words ≡ words_behind (record (head_from r) { len = n }) r.locks r.ranges behind → length words ≡ length behind + n → n ≡ record_len r
same_len words behind r n parts ends =
    let ranges = flat_map (range_words (version_of r.ranges)) r.ranges in
    omega (
      arith,
      ends,
      ap (λ (t : List ℕ). length t) parts,
      length-append (flat_map lock_words r.locks) (ranges ++ n ∷ behind),
      length-append ranges (n ∷ behind),
      ap (λ (t : List ℕ). length t) (spelling_split r behind),
      length-append (spelling r) behind,
      length-spelling r,
      length-append (flat_map lock_words r.locks) (ranges ++ record_len r ∷ behind),
      length-append ranges (record_len r ∷ behind),
    )

whole_begins : (words : List ℕ) (head : Head) (locks : List Lock) (ranges : List RangeData) (behind : List ℕ) → words ≡ words_behind head locks ranges behind → length words ≡ length behind + head.len
    → IsHead head → version_of ranges ≡ head.version → length locks ≡ head.locks → length ranges ≡ head.ranges
    → ascend 0 locks ≡ true → AllByRecursion IsRange ranges → follow (start locks) ranges ≡ true
    → BeginsWith words (record { node = head.node; locks = locks; ranges = ranges }) head.len
whole_begins words head locks ranges behind parts ends is version count_locks count_ranges up each following =
    let r : Record = record { node = head.node; locks = locks; ranges = ranges } in
    let same_head : head ≡ record (head_from r) { len = head.len } =
    ap (λ (v : GrammarVersion). record head { version = v }) (sym version)
    ∙ ap (λ (n : ℕ). record head { version = version_of ranges; locks = n }) (sym count_locks)
    ∙ ap (λ (n : ℕ). record head { version = version_of ranges; locks = length locks; ranges = n }) (sym count_ranges) in
    let its_parts : words ≡ words_behind (record (head_from r) { len = head.len }) locks ranges behind = parts ∙ ap (λ (h : Head). words_behind h locks ranges behind) same_head in
    let the_len : head.len ≡ record_len r = same_len words behind r head.len its_parts ends in
    let whole : words ≡ spelling r ++ behind = its_parts ∙ ap (λ (n : ℕ). words_behind (record (head_from r) { len = n }) locks ranges behind) the_len ∙ sym (spelling_split r behind) in
    record {
      whole = record {
        canonical = canonical_from r is.node (omega (arith, is.some_locks, count_locks)) (omega (arith, is.few_locks, count_locks)) (omega (arith, is.some_ranges, count_ranges)) (omega (arith, is.few_ranges, count_ranges)) up each following;
        short = omega (arith, is.short, the_len);
        spelled = ap (λ (t : List ℕ). take head.len t) whole ∙ take_at (spelling r) behind head.len (length-spelling r ∙ sym the_len);
      };
      within = omega (arith, ends);
    }

-- what is read stands at the front
parts_begin : (words : List ℕ) (f : Front) (ranges : List RangeData) (rest : List ℕ) → AreWords words → front_at words ≡ Some f → ranges_at f.head.version f.head.ranges f.rest ≡ Some (ranges, rest)
    → follow (start f.locks) ranges ≡ true → version_of ranges ≡ f.head.version → is_closed f.head.len words rest ≡ true → BeginsWith words (record_of f ranges) f.head.len
parts_begin words f ranges rest fit has_front has_ranges following version closed =
    let first : FrontTakes words f = front_takes words f has_front in
    let front_fit : AreWords (flat_map lock_words f.locks ++ f.rest) = (subst AreWords first.spelled fit).1.1 in
    let rest_fit : AreWords f.rest = behind_fit (flat_map lock_words f.locks) f.rest front_fit in
    let second : RangesTake f.head.version f.head.ranges f.rest ranges rest = ranges_take f.head.version f.head.ranges f.rest (ranges, rest) rest_fit has_ranges in
    let end = closed_takes f.head.len words rest closed in
    let to_end : words ≡ words_behind f.head f.locks ranges end.0 =
    first.spelled
    ∙ ap
    (λ (t : List ℕ). head_first f.head ∷ head_second f.head ∷ (flat_map lock_words f.locks ++ t))
    (second.spelled ∙ ap (λ (t : List ℕ). flat_map (range_words f.head.version) ranges ++ t) end.1) in
    whole_begins words f.head f.locks ranges end.0 to_end end.2 first.is version first.count second.count first.ascending second.each following

-- the record whose length is read is the record that is read
pub record Reads (words : List ℕ) (len : ℕ) : Type 0 where
  pub its : Record
  pub is_read : record_at words ≡ Some its
  pub begins : BeginsWith words its len

record_read : (words : List ℕ) (f : Front) (ranges : List RangeData) (rest : List ℕ) → front_at words ≡ Some f → ranges_at f.head.version f.head.ranges f.rest ≡ Some (ranges, rest)
    → record_at words ≡ Some (record_of f ranges)
unfolding record_at
record_read words f ranges rest has_front has_ranges = rw (has_front, has_ranges) refl

-- what stands after the ranges
abbrev walked_front : Front → Option (List ℕ)
walked_front f = walked f.head.version (start f.locks) (ranges_at f.head.version f.head.ranges f.rest)

closed_reads : (words : List ℕ) (len : ℕ) (f : Front) (rest : List ℕ) → AreWords words → front_at words ≡ Some f → walked_front f ≡ Some rest
    → cond (is_closed f.head.len words rest) (Some f.head.len) None ≡ Some len → Reads words len
closed_reads words len f rest fit has_front has_walked e =
    let r = walked_takes f.head.version (start f.locks) (ranges_at f.head.version f.head.ranges f.rest) rest has_walked in
    let taken = cond_some (is_closed f.head.len words rest) f.head.len len e in
    record {
      its = record_of f r.0;
      is_read = record_read words f r.0 rest has_front r.1;
      begins = subst (λ (n : ℕ). BeginsWith words (record_of f r.0) n) taken.1 (parts_begin words f r.0 rest fit has_front r.1 r.2 r.3 taken.0);
    }

pub len_takes : (words : List ℕ) (len : ℕ) → AreWords words → len_at words ≡ Some len → Reads words len
unfolding len_at
len_takes words len fit e =
    let f = bind_some (front_at words) (λ front. walked_front front >>= λ rest. cond (is_closed front.head.len words rest) (Some front.head.len) None) len e in
    let w = bind_some (walked_front f.0) (λ rest. cond (is_closed f.0.head.len words rest) (Some f.0.head.len) None) len f.2 in
    closed_reads words len f.0 w.0 fit f.1 w.1 w.2

-- what is spelled is read again, whatever follows it

are_below : (locks : List Lock) (ranges : List RangeData) → AllByRecursion IsLock locks → ((s : ℕ) → Writes s ranges → Locks s locks) → AreBelow (2 ^ 32) ranges
are_below locks [] is locked = tt
are_below locks (range ∷ ranges) is locked =
    (omega (arith, segment_small locks range.segment is (locked range.segment (inl refl))), are_below locks ranges is (λ s written. locked s (inr written)))

module _ (r : Record) (is : IsCanonical r) (short : record_len r ≤ 4096) (rest : List ℕ) where
  abbrev behind : List ℕ
  behind = flat_map (range_words (version_of r.ranges)) r.ranges ++ record_len r ∷ rest

  front_is : front_at (spelling r ++ rest) ≡ Some (front (head_from r) r.locks behind)
  front_is =
      let its : IsHead (head_from r) = record { node = is.node; some_locks = is.some_locks; few_locks = is.few_locks; some_ranges = is.some_ranges; few_ranges = is.few_ranges; short = short } in
      ap front_at (spelling_split r rest) ∙ front_again (head_from r) r.locks behind its refl is.each_lock (canonical_ascends r is)

  ranges_are : ranges_at (version_of r.ranges) (length r.ranges) behind ≡ Some (r.ranges, record_len r ∷ rest)
  ranges_are = ranges_again (version_of r.ranges) r.ranges (record_len r ∷ rest) (are_below r.locks r.ranges is.each_lock (λ s. (is.same_segments s).1)) is.each_range

  closes : is_closed (record_len r) (spelling r ++ rest) (record_len r ∷ rest) ≡ true
  closes =
      let long : length (spelling r ++ rest) ≡ length rest + record_len r = omega (arith, length-append (spelling r) rest, length-spelling r) in
      and_from _ _ (eq-eqb (record_len r) (record_len r) refl) (eq-eqb (length (spelling r ++ rest)) (length rest + record_len r) long)

  len_again : len_at (spelling r ++ rest) ≡ Some (record_len r)
  unfolding len_at
  len_again =
      let same : eqb (number (version_of r.ranges)) (number (version_of r.ranges)) ≡ true = eq-eqb _ _ refl in
      rw (front_is, ranges_are, canonical_follows r is, same, closes) refl

  record_again : record_at (spelling r ++ rest) ≡ Some r
  unfolding record_at
  record_again = rw (front_is, ranges_are) refl

pub none_begins : (words : List ℕ) → len_at words ≡ None → BeginsNoRecord words
none_begins words none r front rest is e =
    none-some (record_len r) (sym none ∙ ap len_at e ∙ ap (λ (l : List ℕ). len_at (l ++ rest)) is.spelled ∙ len_again r is.canonical is.short rest)

pub record_is : (r : Record) (words : List ℕ) → IsRecord r words → record_at words ≡ Some r
record_is r words is = ap record_at (is.spelled ∙ sym (append-nil (spelling r))) ∙ record_again r is.canonical is.short []

-- where its parts stand

pub head_there : (r : Record) (words : List ℕ) → IsRecord r words → (rest : List ℕ) × (head_at words ≡ Some (head_from r, rest))
head_there r words is =
    let c : IsCanonical r = is.canonical in
    let its : IsHead (head_from r) = record { node = c.node; some_locks = c.some_locks; few_locks = c.few_locks; some_ranges = c.some_ranges; few_ranges = c.few_ranges; short = is.short } in
    let behind = flat_map lock_words r.locks ++ flat_map (range_words (version_of r.ranges)) r.ranges ++ record_len r ∷ [] in
    (behind, ap head_at is.spelled ∙ head_again (head_from r) behind its)

-- whatever follows it
pub ranges_stand : (r : Record) (words rest : List ℕ) → IsRecord r words
    → ranges_at (version_of r.ranges) (length r.ranges) (drop (2 + 2 * length r.locks) (words ++ rest)) ≡ Some (r.ranges, record_len r ∷ rest)
ranges_stand r words rest is =
    let two : 2 + 2 * length r.locks ≡ suc (suc (2 * length r.locks)) = omega arith in
    let stand : drop (2 + 2 * length r.locks) (words ++ rest) ≡ behind r is.canonical is.short rest =
    ap (λ (n : ℕ). drop n (words ++ rest)) two
    ∙ ap (λ (l : List ℕ). drop (suc (suc (2 * length r.locks))) (l ++ rest)) is.spelled
    ∙ ap (drop (suc (suc (2 * length r.locks)))) (spelling_split r rest)
    ∙ drop_at (flat_map lock_words r.locks) (behind r is.canonical is.short rest) (2 * length r.locks) (length-lock_words r.locks) in
    ap (ranges_at (version_of r.ranges) (length r.ranges)) stand ∙ ranges_are r is.canonical is.short rest

pub ranges_there : (r : Record) (words : List ℕ) → IsRecord r words → ranges_at (version_of r.ranges) (length r.ranges) (drop (2 + 2 * length r.locks) words) ≡ Some (r.ranges, record_len r ∷ [])
ranges_there r words is =
    ap (λ (l : List ℕ). ranges_at (version_of r.ranges) (length r.ranges) (drop (2 + 2 * length r.locks) l)) (sym (append-nil words)) ∙ ranges_stand r words [] is

-- no record is a prefix of another
pub one_reading : (r q : Record) (a b x y : List ℕ) → IsRecord r a → IsRecord q b → a ++ x ≡ b ++ y → (r ≡ q) × (a ≡ b)
one_reading r q a b x y is are e =
    let first : record_at (a ++ x) ≡ Some r = ap (λ (l : List ℕ). record_at (l ++ x)) is.spelled ∙ record_again r is.canonical is.short x in
    let second : record_at (b ++ y) ≡ Some q = ap (λ (l : List ℕ). record_at (l ++ y)) are.spelled ∙ record_again q are.canonical are.short y in
    let same : r ≡ q = same_Some r q (sym first ∙ ap record_at e ∙ second) in
    (same, is.spelled ∙ ap spelling same ∙ sym are.spelled)

-- what calls gave

pub passes_decides : (r : Record) (locks : List Lock) (ranges : List RangeData) (b : Bool) → locks ≡ r.locks → ranges ≡ r.ranges → (IsTrue b ↔ Passes r.node locks ranges) → IsTrue b ↔ IsCanonical r
passes_decides r locks ranges b its_locks its_ranges decides =
    let same = passes_canonical r in
    let tested : IsTrue b ↔ Passes r.node r.locks r.ranges = subst (λ (l : List RangeData). IsTrue b ↔ Passes r.node r.locks l) its_ranges (subst (λ (l : List Lock). IsTrue b ↔ Passes r.node l ranges) its_locks decides) in
    (λ yes. same.0 (tested.0 yes), λ is. tested.1 (same.1 is))

pub len_found : (words : List ℕ) (o : Option ℕ) → AreWords words → Gives (λ n. n) o (len_at words) → IfSome o (λ len. (r : Record) × BeginsWith words r len)
len_found words None fit e = tt
len_found words (Some len) fit e = let its = len_takes words len fit e in (its.its, its.begins)

pub len_none : (words : List ℕ) (o : Option ℕ) → Gives (λ n. n) o (len_at words) → IfNone o (BeginsNoRecord words)
len_none words None e = none_begins words e
len_none words (Some len) e = tt

pub both_read : (words : List ℕ) (r : Record) (len : ℕ) → AreWords words → len_at words ≡ Some len → Some r ≡ record_at words → BeginsWith words r len
both_read words r len fit e is =
    let its = len_takes words len fit e in
    subst (λ (q : Record). BeginsWith words q len) (same_Some its.its r (sym its.is_read ∙ sym is)) its.begins

pub not_none : (words : List ℕ) (len : ℕ) → AreWords words → len_at words ≡ Some len → None ≡ record_at words → ⊥
not_none words len fit e none = let its = len_takes words len fit e in none-some its.its (none ∙ its.is_read)

-- of records

pub record_words : (r : Record) (words : List ℕ) → IsRecord r words → AreWords words
record_words r words is = subst AreWords (sym is.spelled) (AreWords-spelling r is.canonical is.short)

pub record_length : (r : Record) (words : List ℕ) → IsRecord r words → length words ≡ record_len r
record_length r words is = ap (λ (l : List ℕ). length l) is.spelled ∙ length-spelling r

pub begins_from : (r : Record) (front rest : List ℕ) → IsRecord r front → BeginsWith (front ++ rest) r (length front)
begins_from r front rest is = record {
  whole = subst (λ (l : List ℕ). IsRecord r l) (sym (take_at front rest (length front) refl)) is;
  within = omega (arith, length-append front rest);
}

pub begins_once : (words : List ℕ) (r q : Record) (m n : ℕ) → BeginsWith words r m → BeginsWith words q n → (r ≡ q) × (m ≡ n)
begins_once words r q m n one other =
    let same : take m words ++ drop m words ≡ take n words ++ drop n words = take-append-drop m words ∙ sym (take-append-drop n words) in
    let parts = one_reading r q (take m words) (take n words) (drop m words) (drop n words) one.whole other.whole same in
    let first : length (take m words) ≡ m = length-take-le m words one.within in
    let second : length (take n words) ≡ n = length-take-le n words other.within in
    (parts.0, sym first ∙ ap (λ (l : List ℕ). length l) parts.1 ∙ second)

-- what its first word tells

pub header_is : (r : Record) (words : List ℕ) → IsRecord r words → get_or words 0 0 ≡ header r
header_is r words is = ap (λ (l : List ℕ). get_or l 0 0) is.spelled

pub header_tells : (r : Record) (words : List ℕ) → IsRecord r words → get_or words 0 0 / 2 ^ 32 ≡ length words
header_tells r words is =
    ap (λ (n : ℕ). n / 2 ^ 32) (header_is r words is) ∙ word_len (version_of r.ranges) (length r.ranges) (record_len r) is.canonical.few_ranges ∙ sym (record_length r words is)

pub header_not_zero : (r : Record) (words : List ℕ) → IsRecord r words → get_or words 0 0 ≢ 0
header_not_zero r words is e = let same = header_is r words is in absurd (omega arith)

pub record_some : (r : Record) (words : List ℕ) → IsRecord r words → 0 < length words
record_some r words is = omega (arith, record_length r words is)

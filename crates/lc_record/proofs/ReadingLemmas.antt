-- What is read is spelled so, and what is spelled so is read, whatever follows it.
use Rattle.std.proofs.Common.{◌≡◌, ℕ, zero, suc, ◌+◌, ◌*◌, ◌/◌, ◌%◌, ◌^◌, ◌<◌, ◌≤◌, Bool, true, false, cond, eqb, ltb, leb, ◌&&◌, List, [], ◌∷◌, ◌++◌, length, take, drop, Option, Some, None, refl, sym, ap, subst, ◌∙◌, inl, inr, arith, append_assoc, length-append, take-append-drop}
use Rattle.std.specs.List.{flat_map, AllByRecursion}
use Rattle.std.proofs.lemmas.Bool.{and_parts, eqb-true, leb-true, ltb-true, eq-eqb, le-leb, lt-ltb, cases_Bool}
use Rattle.std.proofs.lemmas.List.{length-take-le, take_at, drop_at}
use Rattle.std.proofs.lemmas.Option.{cond_some, same_Some}
use Rattle.lc_record.specs.Words.{bytes_of, AreWords}
use Rattle.lc_record.specs.GrammarVersion.{end_of, number, of_number}
use Rattle.lc_record.specs.Layout.{data_len, first_word, second_word}
use Rattle.lc_record.specs.Record.{lock_words, span_words, range_words, data_words, span_of, IsLock, IsRange}
use Rattle.lc_record.specs.Reading.{◌>>=◌, is_first, is_second, head_of, head_at, lock_at, many, locks_at, packed_at, apart_at, place_at, has_room, is_padded, range_of, filled, range_at, ranges_at}
use Rattle.lc_record.specs.declared.grammar_version.GrammarVersion.{GrammarVersion}
use Rattle.lc_record.specs.declared.grammar_version.GrammarVersion.TheVariants.{First, Second}
use Rattle.lc_record.specs.declared.span.Span.{Span}
use Rattle.lc_record.specs.declared.parts.Head.{Head}
use Rattle.lc_record.specs.declared.record.Lock.{Lock}
use Rattle.lc_record.specs.declared.record.RangeData.{RangeData}
use Rattle.lc_record.proofs.WordLemmas.{AreWords-take, AreWords-drop}
use Rattle.lc_record.proofs.DataLemmas.{Holds, data_takes, data_again, padded_again, length-data_words}
use Rattle.lc_record.proofs.SpellingLemmas.{word_gate, word_version, word_ranges, word_len}

-- the value of a step that was taken
pub bind_some : {A B : Type 0} (o : Option A) (f : A → Option B) (y : B) → (o >>= f) ≡ Some y → (x : A) × (o ≡ Some x) × (f x ≡ Some y)
bind_some None f y e = absurd cc
bind_some (Some x) f y e = (x, refl, e)

pub three : (a b c : Bool) → ((a && b) && c) ≡ true → (a ≡ true) × (b ≡ true) × (c ≡ true)
three true true true e = (refl, refl, refl)
three true true false e = absurd cc
three true false c e = absurd cc
three false b c e = absurd cc

four : (a b c d : Bool) → (((a && b) && c) && d) ≡ true → (a ≡ true) × (b ≡ true) × (c ≡ true) × (d ≡ true)
four a b c d e = let last = and_parts ((a && b) && c) d e in let t = three a b c last.0 in (t.0, t.1, t.2, last.1)

-- The version

number_takes : (n : ℕ) (version : GrammarVersion) → of_number n ≡ Some version → number version ≡ n
number_takes n version e = elim (cases_Bool (eqb n 1)) [
  | inl one ↦
      let first : Some First ≡ Some version = rw one at e in
      sym (ap number (same_Some First version first)) ∙ sym (eqb-true n 1 one)
  | inr other ↦
      let rest : cond (eqb n 2) (Some Second) None ≡ Some version = rw other at e in
      let taken = cond_some (eqb n 2) Second version rest in
      sym (ap number taken.1) ∙ sym (eqb-true n 2 taken.0)
]

number_again : (version : GrammarVersion) → of_number (number version) ≡ Some version
number_again First = refl
number_again Second = refl

-- The first two words

abbrev pub head_first : Head → ℕ
head_first head = first_word head.version head.ranges head.len

abbrev pub head_second : Head → ℕ
head_second head = second_word head.node head.locks

-- what the first two words may say
pub record IsHead (head : Head) : Type 0 where
  pub node : head.node ≤ 7
  pub some_locks : 1 ≤ head.locks
  pub few_locks : head.locks ≤ 16
  pub some_ranges : 1 ≤ head.ranges
  pub few_ranges : head.ranges ≤ 64
  pub short : head.len ≤ 4096

pub record HeadTakes (words : List ℕ) (head : Head) (rest : List ℕ) : Type 0 where
  pub spelled : words ≡ head_first head ∷ head_second head ∷ rest
  pub is : IsHead head

pub head_takes : (words : List ℕ) (x : Head × List ℕ) → head_at words ≡ Some x → HeadTakes words x.0 x.1
unfolding head_at
head_takes [] x e = absurd cc
head_takes (a ∷ []) x e = absurd cc
head_takes (a ∷ b ∷ rest) x e =
    let v = bind_some (of_number (a / 2 ^ 8 % 2 ^ 8)) (λ version. cond (is_first a && is_second b) (Some (head_of version a b, rest)) None) x e in
    let version : GrammarVersion = v.0 in
    let its : number version ≡ a / 2 ^ 8 % 2 ^ 8 = number_takes (a / 2 ^ 8 % 2 ^ 8) version v.1 in
    let made : Head × List ℕ = (head_of version a b, rest) in
    let taken = cond_some (is_first a && is_second b) made x v.2 in
    let both = and_parts (is_first a) (is_second b) taken.0 in
    let s = four (eqb (a % 256) 0xa5) (leb 1 (a / 2 ^ 16 % 2 ^ 16)) (leb (a / 2 ^ 16 % 2 ^ 16) 64) (leb (a / 2 ^ 32) 4096) both.0 in
    let t = four (ltb b (2 ^ 32)) (leb (b % 2 ^ 16) 7) (leb 1 (b / 2 ^ 16 % 2 ^ 16)) (leb (b / 2 ^ 16 % 2 ^ 16) 16) both.1 in
    let first : a ≡ head_first (head_of version a b) = omega (arith, eqb-true _ _ s.0, its) in
    let second : b ≡ head_second (head_of version a b) = omega (arith, ltb-true _ _ t.0) in
    let P : Head × List ℕ → Type 0 = λ y. HeadTakes (a ∷ b ∷ rest) y.0 y.1 in
    subst
    P
    taken.1
    (
    record {
      spelled = ap (λ (n : ℕ). n ∷ b ∷ rest) first ∙ ap (λ (n : ℕ). head_first (head_of version a b) ∷ n ∷ rest) second;
      is = record { node = leb-true _ _ t.1; some_locks = leb-true _ _ t.2; few_locks = leb-true _ _ t.3; some_ranges = leb-true _ _ s.1; few_ranges = leb-true _ _ s.2; short = leb-true _ _ s.3 };
    }
    )

pub head_again : (head : Head) (rest : List ℕ) → IsHead head → head_at (head_first head ∷ head_second head ∷ rest) ≡ Some (head, rest)
unfolding head_at
head_again head rest is =
    let a = head_first head in
    let b = head_second head in
    let the_version : of_number (a / 2 ^ 8 % 2 ^ 8) ≡ Some head.version = ap of_number (word_version head.version head.ranges head.len) ∙ number_again head.version in
    let the_node : b % 2 ^ 16 ≡ head.node = omega (arith, is.node) in
    let the_locks : b / 2 ^ 16 % 2 ^ 16 ≡ head.locks = omega (arith, is.node, is.few_locks) in
    let the_ranges : a / 2 ^ 16 % 2 ^ 16 ≡ head.ranges = word_ranges head.version head.ranges head.len is.few_ranges in
    let the_len : a / 2 ^ 32 ≡ head.len = word_len head.version head.ranges head.len is.few_ranges in
    let s0 : eqb (a % 256) 0xa5 ≡ true = eq-eqb _ _ (word_gate head.version head.ranges head.len) in
    let s2 : leb 1 head.ranges ≡ true = le-leb _ _ is.some_ranges in
    let s3 : leb head.ranges 64 ≡ true = le-leb _ _ is.few_ranges in
    let s4 : leb head.len 4096 ≡ true = le-leb _ _ is.short in
    let t0 : ltb b (2 ^ 32) ≡ true = lt-ltb _ _ (omega (arith, is.node, is.few_locks)) in
    let t1 : leb head.node 7 ≡ true = le-leb _ _ is.node in
    let t2 : leb 1 head.locks ≡ true = le-leb _ _ is.some_locks in
    let t3 : leb head.locks 16 ≡ true = le-leb _ _ is.few_locks in
    rw (the_version, the_node, the_locks, the_ranges, the_len, s0, s2, s3, s4, t0, t1, t2, t3) refl

-- Locks

lock_takes : (words : List ℕ) (x : Lock × List ℕ) → lock_at words ≡ Some x → words ≡ lock_words x.0 ++ x.1
unfolding lock_at
lock_takes [] x e = absurd cc
lock_takes (a ∷ []) x e = absurd cc
lock_takes (a ∷ b ∷ rest) x e =
    let made : Lock × List ℕ = (record { segment = a; seq = b }, rest) in
    let taken = cond_some (ltb a (2 ^ 32)) made x e in
    subst (λ (y : Lock × List ℕ). a ∷ b ∷ rest ≡ lock_words y.0 ++ y.1) taken.1 refl

pub lock_again : (lock : Lock) (rest : List ℕ) → lock.segment < 2 ^ 32 → lock_at (lock_words lock ++ rest) ≡ Some (lock, rest)
unfolding lock_at
lock_again lock rest small = let t : ltb lock.segment (2 ^ 32) ≡ true = lt-ltb _ _ small in rw t refl

pub record LocksTake (n : ℕ) (words : List ℕ) (locks : List Lock) (rest : List ℕ) : Type 0 where
  pub spelled : words ≡ flat_map lock_words locks ++ rest
  pub count : length locks ≡ n

pub locks_take : (n : ℕ) (words : List ℕ) (x : List Lock × List ℕ) → locks_at n words ≡ Some x → LocksTake n words x.0 x.1
unfolding many
locks_take zero words x e =
    let same : ◌≡◌ {A = List Lock × List ℕ} ([], words) x = same_Some _ _ e in
    subst (λ (y : List Lock × List ℕ). LocksTake 0 words y.0 y.1) same (record { spelled = refl; count = refl })
locks_take (suc n) words x e =
    let a = bind_some (lock_at words) (λ lock. many lock_at n lock.1 >>= λ others. Some (lock.0 ∷ others.0, others.1)) x e in
    let b = bind_some (many lock_at n a.0.1) (λ others. Some (a.0.0 ∷ others.0, others.1)) x a.2 in
    let made : List Lock × List ℕ = (a.0.0 ∷ b.0.0, b.0.1) in
    let same : made ≡ x = same_Some _ _ b.2 in
    let first : words ≡ lock_words a.0.0 ++ a.0.1 = lock_takes words a.0 a.1 in
    let later : LocksTake n a.0.1 b.0.0 b.0.1 = locks_take n a.0.1 b.0 b.1 in
    subst (λ (y : List Lock × List ℕ). LocksTake (suc n) words y.0 y.1) same (record {
      spelled = first ∙ ap (λ (l : List ℕ). lock_words a.0.0 ++ l) later.spelled;
      count = ap suc later.count;
    })

pub locks_again : (locks : List Lock) (rest : List ℕ) → AllByRecursion IsLock locks → locks_at (length locks) (flat_map lock_words locks ++ rest) ≡ Some (locks, rest)
unfolding many
locks_again [] rest is = refl
locks_again (lock ∷ locks) rest is =
    rw (lock_again lock (flat_map lock_words locks ++ rest) (omega (arith, is.0)), locks_again locks rest is.1) refl

-- Where a range stands

packed_takes : (words : List ℕ) (x : Span × List ℕ) → packed_at words ≡ Some x → words ≡ span_words First x.0 ++ x.1
unfolding packed_at
packed_takes [] x e = absurd cc
packed_takes (a ∷ []) x e = absurd cc
packed_takes (a ∷ len ∷ rest) x e =
    let made : Span × List ℕ = (record { segment = a % 2 ^ 32; offset = a / 2 ^ 32; len = len }, rest) in
    let place : a ≡ a % 2 ^ 32 + 2 ^ 32 * (a / 2 ^ 32) = omega arith in
    subst (λ (y : Span × List ℕ). a ∷ len ∷ rest ≡ span_words First y.0 ++ y.1) (same_Some made x e) (ap (λ (n : ℕ). n ∷ len ∷ rest) place)

apart_takes : (words : List ℕ) (x : Span × List ℕ) → apart_at words ≡ Some x → words ≡ span_words Second x.0 ++ x.1
unfolding apart_at
apart_takes [] x e = absurd cc
apart_takes (a ∷ []) x e = absurd cc
apart_takes (a ∷ b ∷ []) x e = absurd cc
apart_takes (a ∷ b ∷ len ∷ rest) x e =
    let made : Span × List ℕ = (record { segment = a; offset = b; len = len }, rest) in
    let taken = cond_some (ltb a (2 ^ 32) && ltb b (2 ^ 32)) made x e in
    subst (λ (y : Span × List ℕ). a ∷ b ∷ len ∷ rest ≡ span_words Second y.0 ++ y.1) taken.1 refl

place_takes : (version : GrammarVersion) (words : List ℕ) (x : Span × List ℕ) → place_at version words ≡ Some x → words ≡ span_words version x.0 ++ x.1
place_takes First words x e = packed_takes words x e
place_takes Second words x e = apart_takes words x e

packed_again : (span : Span) (rest : List ℕ) → span.segment < 2 ^ 32 → packed_at (span_words First span ++ rest) ≡ Some (span, rest)
unfolding packed_at
packed_again span rest small =
    let place = span.segment + 2 ^ 32 * span.offset in
    let segment : place % 2 ^ 32 ≡ span.segment = omega arith in
    let offset : place / 2 ^ 32 ≡ span.offset = omega arith in
    rw (segment, offset) refl

apart_again : (span : Span) (rest : List ℕ) → span.segment < 2 ^ 32 → span.offset < 2 ^ 32 → apart_at (span_words Second span ++ rest) ≡ Some (span, rest)
unfolding apart_at
apart_again span rest small near =
    let a : ltb span.segment (2 ^ 32) ≡ true = lt-ltb _ _ small in
    let b : ltb span.offset (2 ^ 32) ≡ true = lt-ltb _ _ near in
    rw (a, b) refl

place_again : (version : GrammarVersion) (span : Span) (rest : List ℕ) → span.segment < 2 ^ 32 → span.offset < 2 ^ 32 → place_at version (span_words version span ++ rest) ≡ Some (span, rest)
place_again First span rest small near = packed_again span rest small
place_again Second span rest small near = apart_again span rest small near

-- A range

pub behind_fit : (front rest : List ℕ) → AreWords (front ++ rest) → AreWords rest
behind_fit [] rest fit = fit
behind_fit (w ∷ front) rest fit = behind_fit front rest fit.1

pub record RangeTakes (version : GrammarVersion) (words : List ℕ) (range : RangeData) (rest : List ℕ) : Type 0 where
  pub spelled : words ≡ range_words version range ++ rest
  pub is : IsRange range
  pub fit : AreWords rest

filled_takes : (version : GrammarVersion) (span : Span) (rest : List ℕ) (x : RangeData × List ℕ) → AreWords rest → filled span rest ≡ Some x → RangeTakes version (span_words version span ++ rest) x.0 x.1
filled_takes version span rest x fit e =
    let len = span.len in
    let words = take (data_len len) rest in
    let behind = drop (data_len len) rest in
    let made : RangeData × List ℕ = (range_of span words, behind) in
    let taken = cond_some (has_room span rest && is_padded len words) made x e in
    let both = and_parts (has_room span rest) (is_padded len words) taken.0 in
    let t = three (leb 1 len) (leb (end_of span) 262144) (leb (data_len len) (length rest)) both.0 in
    let some : 1 ≤ len = leb-true _ _ t.0 in
    let within : end_of span ≤ 262144 = leb-true _ _ t.1 in
    let words_len : length words ≡ data_len len = length-take-le (data_len len) rest (leb-true _ _ t.2) in
    let holds : Holds len words = data_takes len words (AreWords-take (data_len len) rest fit) words_len both.1 in
    let same : span_of (range_of span words) ≡ span = ap (λ (n : ℕ). record span { len = n }) holds.same_len in
    let parts : span_words version span ++ rest ≡ range_words version (range_of span words) ++ behind =
    ap (λ (l : List ℕ). span_words version span ++ l) (sym (take-append-drop (data_len len) rest))
    ∙ ap (λ (s : Span). span_words version s ++ (words ++ behind)) (sym same)
    ∙ ap (λ (l : List ℕ). span_words version (span_of (range_of span words)) ++ (l ++ behind)) (sym holds.spelled)
    ∙ sym (append_assoc (span_words version (span_of (range_of span words))) (data_words (take len (bytes_of words))) behind) in
    let P : RangeData × List ℕ → Type 0 = λ y. RangeTakes version (span_words version span ++ rest) y.0 y.1 in
    subst P taken.1 (record {
      spelled = parts;
      is = (omega (arith, holds.same_len, some), omega (arith, holds.same_len, within), holds.fit);
      fit = AreWords-drop (data_len len) rest fit;
    })

pub range_takes : (version : GrammarVersion) (words : List ℕ) (x : RangeData × List ℕ) → AreWords words → range_at version words ≡ Some x → RangeTakes version words x.0 x.1
unfolding range_at
range_takes version words x fit e =
    let s = bind_some (place_at version words) (λ place. filled place.0 place.1) x e in
    let parts : words ≡ span_words version s.0.0 ++ s.0.1 = place_takes version words s.0 s.1 in
    let rest : AreWords s.0.1 = behind_fit (span_words version s.0.0) s.0.1 (subst AreWords parts fit) in
    subst (λ (l : List ℕ). RangeTakes version l x.0 x.1) (sym parts) (filled_takes version s.0.0 s.0.1 x rest s.2)

filled_again : (range : RangeData) (rest : List ℕ) → IsRange range → filled (span_of range) (data_words range.bytes ++ rest) ≡ Some (range, rest)
filled_again range rest is =
    let bytes = range.bytes in
    let len = length bytes in
    let words = data_words bytes in
    let words_len : length words ≡ data_len len = length-data_words bytes in
    let front : take (data_len len) (words ++ rest) ≡ words = take_at words rest (data_len len) words_len in
    let behind : drop (data_len len) (words ++ rest) ≡ rest = drop_at words rest (data_len len) words_len in
    let t0 : leb 1 len ≡ true = le-leb _ _ is.0 in
    let t1 : leb (range.offset + len) 262144 ≡ true = le-leb _ _ is.1 in
    let t2 : leb (data_len len) (length (words ++ rest)) ≡ true = le-leb _ _ (omega (arith, length-append words rest, words_len)) in
    let t3 : is_padded len words ≡ true = padded_again bytes is.2 in
    let same : take len (bytes_of words) ≡ bytes = data_again bytes is.2 in
    rw (t0, t1, t2, front, behind, t3, same) refl

pub range_again : (version : GrammarVersion) (range : RangeData) (rest : List ℕ) → range.segment < 2 ^ 32 → IsRange range → range_at version (range_words version range ++ rest) ≡ Some (range, rest)
unfolding range_at
range_again version range rest small is =
    let behind = data_words range.bytes ++ rest in
    let place : place_at version (span_words version (span_of range) ++ behind) ≡ Some (span_of range, behind) = place_again version (span_of range) behind small (omega (arith, is.1)) in
    rw (append_assoc (span_words version (span_of range)) (data_words range.bytes) rest, place) (filled_again range rest is)

-- so many

pub record RangesTake (version : GrammarVersion) (n : ℕ) (words : List ℕ) (ranges : List RangeData) (rest : List ℕ) : Type 0 where
  pub spelled : words ≡ flat_map (range_words version) ranges ++ rest
  pub each : AllByRecursion IsRange ranges
  pub count : length ranges ≡ n

pub ranges_take : (version : GrammarVersion) (n : ℕ) (words : List ℕ) (x : List RangeData × List ℕ) → AreWords words → ranges_at version n words ≡ Some x → RangesTake version n words x.0 x.1
unfolding many
ranges_take version zero words x fit e =
    let same : ◌≡◌ {A = List RangeData × List ℕ} ([], words) x = same_Some _ _ e in
    subst (λ (y : List RangeData × List ℕ). RangesTake version 0 words y.0 y.1) same (record { spelled = refl; each = tt; count = refl })
ranges_take version (suc n) words x fit e =
    let a = bind_some (range_at version words) (λ range. many (range_at version) n range.1 >>= λ others. Some (range.0 ∷ others.0, others.1)) x e in
    let b = bind_some (many (range_at version) n a.0.1) (λ others. Some (a.0.0 ∷ others.0, others.1)) x a.2 in
    let made : List RangeData × List ℕ = (a.0.0 ∷ b.0.0, b.0.1) in
    let same : made ≡ x = same_Some _ _ b.2 in
    let first : RangeTakes version words a.0.0 a.0.1 = range_takes version words a.0 fit a.1 in
    let later : RangesTake version n a.0.1 b.0.0 b.0.1 = ranges_take version n a.0.1 b.0 first.fit b.1 in
    subst (λ (y : List RangeData × List ℕ). RangesTake version (suc n) words y.0 y.1) same (record {
      spelled = first.spelled ∙ ap (λ (l : List ℕ). range_words version a.0.0 ++ l) later.spelled ∙ sym (append_assoc (range_words version a.0.0) (flat_map (range_words version) b.0.0) b.0.1);
      each = (first.is, later.each);
      count = ap suc later.count;
    })

-- each is of a segment below this
abbrev pub AreBelow : ℕ → List RangeData → Type 0
AreBelow limit ranges = AllByRecursion (λ r. r.segment < limit) ranges

pub ranges_again : (version : GrammarVersion) (ranges : List RangeData) (rest : List ℕ) → AreBelow (2 ^ 32) ranges → AllByRecursion IsRange ranges
    → ranges_at version (length ranges) (flat_map (range_words version) ranges ++ rest) ≡ Some (ranges, rest)
unfolding many
ranges_again version [] rest small is = refl
ranges_again version (range ∷ ranges) rest small is =
    let regrouped : flat_map (range_words version) (range ∷ ranges) ++ rest ≡ range_words version range ++ (flat_map (range_words version) ranges ++ rest) = append_assoc (range_words version range) (flat_map (range_words version) ranges) rest in
    ap (ranges_at version (suc (length ranges))) regrouped
    ∙ rw (range_again version range (flat_map (range_words version) ranges ++ rest) small.0 is.0, ranges_again version ranges rest small.1 is.1) refl

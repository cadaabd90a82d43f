-- The records of a log, read from their end.
use Rattle.std.proofs.Common.{◌≡◌, ℕ, zero, suc, ◌+◌, ◌-◌, ◌*◌, ◌≤◌, ◌<◌, List, [], ◌∷◌, ◌++◌, map, reverse, length, take, drop, get_or, refl, sym, ◌∙◌, ap, subst, arith, append_assoc, append-nil, length-append, length-drop, take-append-drop}
use Rattle.std.specs.Int.{w64, from_le_bytes}
use Rattle.std.specs.List.{flat_map, AllByRecursion}
use Rattle.std.proofs.Math.Seq.{take-add, take-append_seam, drop-append_seam}
use Rattle.std.proofs.lemmas.List.{reverse-append, length-take-le, nil_from_length as no_length}
use Rattle.lc_record.specs.Codec.{BeginsWith}
use Rattle.lc_record.specs.Record.{record_len, spelling, lock_words, range_words, version_of, header, IsRecord}
use Rattle.lc_record.specs.Layout.{second_word}
use Rattle.lc_record.specs.Words.{words_of}
use Rattle.lc_record.specs.declared.record.Record.{Record}
use Rattle.lc_record.proofs.SpellingLemmas.{length-spelling, nothing_begins_none}
use Rattle.lc_record.proofs.RecordLemmas.{one_reading}
use Rattle.lc_record.proofs.WordLemmas.{words_of-eight, words_of-nil}
use Rattle.lc_log.specs.LogText.{IsWhole, IsWalk, joined, placed}
use Rattle.lc_log.proofs.LogLemmas.{whole_record, joined-append, one_text-by}

-- The words in front

pub words_within : (xs : List ℕ) → 8 * length (words_of xs) ≤ length xs
unfolding words_of
words_within [] = omega arith
words_within (a ∷ []) = omega arith
words_within (a ∷ b ∷ []) = omega arith
words_within (a ∷ b ∷ c ∷ []) = omega arith
words_within (a ∷ b ∷ c ∷ d ∷ []) = omega arith
words_within (a ∷ b ∷ c ∷ d ∷ e ∷ []) = omega arith
words_within (a ∷ b ∷ c ∷ d ∷ e ∷ f ∷ []) = omega arith
words_within (a ∷ b ∷ c ∷ d ∷ e ∷ f ∷ g ∷ []) = omega arith
words_within (a ∷ b ∷ c ∷ d ∷ e ∷ f ∷ g ∷ h ∷ xs) = let behind = words_within xs in omega (arith, behind)

pub words_of-take : (n : ℕ) (xs : List ℕ) → 8 * n ≤ length xs → words_of (take (8 * n) xs) ≡ take n (words_of xs)
words_of-take zero xs within = words_of-nil
words_of-take (suc n) xs within =
    let eight : 8 * suc n ≡ 8 + 8 * n = omega arith in
    let front : length (take 8 xs) ≡ 8 = length-take-le 8 xs (omega (arith, within)) in
    let behind : 8 * n ≤ length (drop 8 xs) = omega (arith, within, length-drop 8 xs) in
    ap (λ (m : ℕ). words_of (take m xs)) eight
    ∙ ap words_of (take-add 8 (8 * n) xs)
    ∙ words_of-eight (take 8 xs) (take (8 * n) (drop 8 xs)) front
    ∙ ap (λ (l : List ℕ). from_le_bytes w64 (take 8 xs) ∷ l) (words_of-take n (drop 8 xs) behind)
    ∙ ap (take (suc n)) (sym (ap words_of (sym (take-append-drop 8 xs)) ∙ words_of-eight (take 8 xs) (drop 8 xs) front))

-- One record back

last_of : (r : Record) (rs : List Record) → (init : List Record) × (last : Record) × (r ∷ rs ≡ init ++ last ∷ [])
last_of r [] = ([], r, refl)
last_of r (q ∷ qs) = let l = last_of q qs in (r ∷ l.0, l.1, ap (λ (l : List Record). r ∷ l) l.2)

-- the last word of a record
last_word : (r : Record) → (init : List ℕ) × (spelling r ≡ init ++ record_len r ∷ [])
last_word r = (
  header r ∷ second_word r.node (length r.locks) ∷ (flat_map lock_words r.locks ++ flat_map (range_words (version_of r.ranges)) r.ranges),
  refl,
)

at_seam : (xs : List ℕ) (y : ℕ) (ys : List ℕ) (d : ℕ) → get_or (xs ++ y ∷ ys) (length xs) d ≡ y
at_seam [] y ys d = refl
at_seam (x ∷ xs) y ys d = at_seam xs y ys d

-- The records after a place are found, the last first; the text has these before it and these after it.
pub record FoundBack (words : List ℕ) (found : List (ℕ × Record)) (end : ℕ) : Type 0 where
  pub front : List Record
  pub behind : List Record
  pub text : words ≡ joined front ++ joined behind
  pub front_whole : AllByRecursion IsWhole front
  pub whole : AllByRecursion IsWhole behind
  pub size : end ≡ length (joined front)
  pub so_far : found ≡ reverse (placed end behind)

-- the record that ends there
pub record EndsThere (words : List ℕ) (found : List (ℕ × Record)) (end len : ℕ) : Type 0 where
  pub its : Record
  pub within : end ≤ length words
  pub some : 0 < len
  pub inside : len ≤ end
  pub is : IsRecord its (spelling its)
  pub rest : List ℕ
  pub text : drop (end - len) words ≡ spelling its ++ rest
  pub more : FoundBack words (found ++ (end - len, its) ∷ []) (end - len)

whole_parts : (init : List Record) (last : Record) → AllByRecursion IsWhole (init ++ last ∷ []) → AllByRecursion IsWhole init × IsWhole last
whole_parts [] last w = (tt, w.0)
whole_parts (r ∷ rs) last w = let parts = whole_parts rs last w.1 in ((w.0, parts.0), parts.1)

ends_with : (words : List ℕ) (found : List (ℕ × Record)) (end len : ℕ) (init : List Record) (last : Record) (f : FoundBack words found end) → f.front ≡ init ++ last ∷ [] →
    len ≡ get_or words (end - 1) len → EndsThere words found end len
ends_with words found end len init last f split len_is =
    let parts = whole_parts init last (subst (λ (l : List Record). AllByRecursion IsWhole l) split f.front_whole) in
    let word = last_word last in
    let front : joined f.front ≡ joined init ++ spelling last = ap joined split ∙ joined-append init (last ∷ []) ∙ ap (λ (l : List ℕ). joined init ++ l) (append-nil (spelling last)) in
    let text : words ≡ joined init ++ (spelling last ++ joined f.behind) = f.text ∙ ap (λ (l : List ℕ). l ++ joined f.behind) front ∙ append_assoc (joined init) (spelling last) (joined f.behind) in
    let size : end ≡ length (joined init) + length (spelling last) = f.size ∙ ap length front ∙ length-append (joined init) (spelling last) in
    let long : length (spelling last) ≡ length word.0 + 1 = ap length word.1 ∙ length-append word.0 (record_len last ∷ []) in
    let by_word : words ≡ (joined init ++ word.0) ++ record_len last ∷ joined f.behind =
    text
    ∙ ap (λ (l : List ℕ). joined init ++ (l ++ joined f.behind)) word.1
    ∙ ap (λ (l : List ℕ). joined init ++ l) (append_assoc word.0 (record_len last ∷ []) (joined f.behind))
    ∙ sym (append_assoc (joined init) word.0 (record_len last ∷ joined f.behind)) in
    let seam : end - 1 ≡ length (joined init ++ word.0) = omega (arith, size, long, length-append (joined init) word.0) in
    let is_len : len ≡ record_len last =
    len_is ∙ ap (λ (k : ℕ). get_or words k len) seam ∙ ap (λ (l : List ℕ). get_or l (length (joined init ++ word.0)) len) by_word
    ∙ at_seam (joined init ++ word.0) (record_len last) (joined f.behind) len in
    let spelled : length (spelling last) ≡ record_len last = length-spelling last in
    let place : end - len ≡ length (joined init) = omega (arith, size, is_len, spelled) in
    record {
      its = last;
      within = omega (arith, size, ap length text, length-append (joined init) (spelling last ++ joined f.behind), length-append (spelling last) (joined f.behind));
      some = omega (arith, is_len, spelled, long);
      inside = omega (arith, size, is_len, spelled);
      is = whole_record last parts.1;
      rest = joined f.behind;
      text = ap (λ (k : ℕ). drop k words) place ∙ ap (drop (length (joined init))) text ∙ drop-append_seam (joined init) (spelling last ++ joined f.behind);
      more = record {
        front = init;
        behind = last ∷ f.behind;
        text = text;
        front_whole = parts.0;
        whole = (parts.1, f.whole);
        size = place;
        so_far =
            let next : end - len + length (spelling last) ≡ end = omega (arith, size, is_len, spelled) in
            ap (λ (l : List (ℕ × Record)). l ++ (end - len, last) ∷ []) (f.so_far ∙ ap (λ (k : ℕ). reverse (placed k f.behind)) (sym next))
            ∙ sym (reverse-append ((end - len, last) ∷ []) (placed (end - len + length (spelling last)) f.behind));
      };
    }

ends_from : (words : List ℕ) (found : List (ℕ × Record)) (end len : ℕ) (f : FoundBack words found end) (front : List Record) → f.front ≡ front → 0 < end → len ≡ get_or words (end - 1) len →
    EndsThere words found end len
ends_from words found end len f [] is some len_is = absurd (omega (arith, some, f.size, ap (λ (l : List Record). length (joined l)) is))
ends_from words found end len f (r ∷ rs) is some len_is = let l = last_of r rs in ends_with words found end len l.0 l.1 f (is ∙ l.2) len_is

pub ends_there : (words : List ℕ) (found : List (ℕ × Record)) (end len : ℕ) → FoundBack words found end → 0 < end → len ≡ get_or words (end - 1) len → EndsThere words found end len
ends_there words found end len f some len_is = ends_from words found end len f f.front refl some len_is

-- what begins at its place is it
pub begins_it : (words : List ℕ) (found : List (ℕ × Record)) (end len : ℕ) (e : EndsThere words found end len) (front : List ℕ) (r : Record) (n : ℕ) →
    front ≡ drop (end - len) words → BeginsWith front r n → e.its ≡ r
begins_it words found end len e front r n is b =
    (one_reading e.its r (spelling e.its) (take n front) e.rest (drop n front) e.is b.whole (sym e.text ∙ sym is ∙ sym (take-append-drop n front))).0

-- From the end to the front

module _ (bytes : List ℕ) (end : ℕ) where
  pub end_within : (found : List (ℕ × Record)) → IsWalk (words_of bytes) found end → 8 * end ≤ length bytes
  end_within found walk =
      let long : length (words_of bytes) ≡ length (joined (map (λ x. x.1) found)) + length walk.text.rest = ap length walk.text.text ∙ length-append (joined (map (λ x. x.1) found)) walk.text.rest in
      omega (arith, words_within bytes, long, walk.behind)

  pub all_found : (found : List (ℕ × Record)) → IsWalk (words_of bytes) found end → words_of (take (8 * end) bytes) ≡ joined (map (λ x. x.1) found)
  all_found found walk =
      words_of-take end bytes (end_within found walk)
      ∙ ap (take end) walk.text.text
      ∙ ap (λ (n : ℕ). take n (joined (map (λ x. x.1) found) ++ walk.text.rest)) walk.behind
      ∙ take-append_seam (joined (map (λ x. x.1) found)) walk.text.rest

  pub none_back : (found : List (ℕ × Record)) → IsWalk (words_of bytes) found end → FoundBack (words_of (take (8 * end) bytes)) [] end
  none_back found walk = record {
    front = map (λ x. x.1) found;
    behind = [];
    text = all_found found walk ∙ sym (append-nil (joined (map (λ x. x.1) found)));
    front_whole = walk.text.whole;
    whole = tt;
    size = walk.behind;
    so_far = refl;
  }

  pub all_back : (back : List (ℕ × Record)) (last : ℕ) → FoundBack (words_of (take (8 * end) bytes)) back last → last ≡ 0 →
      (found : List (ℕ × Record)) → IsWalk (words_of bytes) found end → back ≡ reverse found
  all_back back last f none found walk =
      let rs : List Record = map (λ x. x.1) found in
      let words : List ℕ = words_of (take (8 * end) bytes) in
      let front : joined f.front ≡ [] = no_length (joined f.front) (omega (arith, f.size, none)) in
      let text : words ≡ joined f.behind = f.text ∙ ap (λ (l : List ℕ). l ++ joined f.behind) front in
      let same : f.behind ≡ rs = one_text-by words f.behind rs
      (record { rest = []; text = text ∙ sym (append-nil (joined f.behind)); whole = f.whole; end = nothing_begins_none })
      (record { rest = []; text = all_found found walk ∙ sym (append-nil (joined rs)); whole = walk.text.whole; end = nothing_begins_none }) in
      f.so_far
      ∙ ap (λ (k : ℕ). reverse (placed k f.behind)) none
      ∙ ap (λ (l : List Record). reverse (placed 0 l)) same
      ∙ ap reverse (sym walk.places)

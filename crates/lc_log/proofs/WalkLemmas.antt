-- The words of bytes, eight at a time.
use Rattle.std.proofs.Common.{◌≡◌, ℕ, ◌+◌, ◌≤◌, ◌<◌, List, [], ◌∷◌, ◌++◌, map, length, take, drop, refl, sym, ◌∙◌, ap, ap₂, inl, inr, arith, append_assoc, append-nil, length-append, take-append-drop, add-zero, zero-add}
use Rattle.std.proofs.lemmas.Bool.{cases_lt}
use Rattle.std.proofs.lemmas.List.{drop-drop, length-take-le}
use Rattle.std.specs.List.{AllByRecursion}
use Rattle.lc_record.specs.Record.{spelling}
use Rattle.lc_record.specs.Codec.{BeginsWith, BeginsNoRecord}
use Rattle.lc_record.specs.declared.record.Record.{Record}
use Rattle.lc_log.specs.LogText.{IsWhole, IsWalk, joined, placed}
use Rattle.std.specs.Int.{w64, from_le_bytes}
use Rattle.lc_record.specs.Words.{words_of}

pub words_of-split : (xs : List ℕ) → 8 ≤ length xs → words_of xs ≡ words_of (take 8 xs) ++ words_of (drop 8 xs)
unfolding words_of
words_of-split [] h = absurd (omega arith)
words_of-split (a ∷ []) h = absurd (omega arith)
words_of-split (a ∷ b ∷ []) h = absurd (omega arith)
words_of-split (a ∷ b ∷ c ∷ []) h = absurd (omega arith)
words_of-split (a ∷ b ∷ c ∷ d ∷ []) h = absurd (omega arith)
words_of-split (a ∷ b ∷ c ∷ d ∷ e ∷ []) h = absurd (omega arith)
words_of-split (a ∷ b ∷ c ∷ d ∷ e ∷ f ∷ []) h = absurd (omega arith)
words_of-split (a ∷ b ∷ c ∷ d ∷ e ∷ f ∷ g ∷ []) h = absurd (omega arith)
words_of-split (a ∷ b ∷ c ∷ d ∷ e ∷ f ∷ g ∷ i ∷ xs) h = refl

pub words_of-short : (xs : List ℕ) → length xs < 8 → words_of xs ≡ []
unfolding words_of
words_of-short [] h = refl
words_of-short (a ∷ []) h = refl
words_of-short (a ∷ b ∷ []) h = refl
words_of-short (a ∷ b ∷ c ∷ []) h = refl
words_of-short (a ∷ b ∷ c ∷ d ∷ []) h = refl
words_of-short (a ∷ b ∷ c ∷ d ∷ e ∷ []) h = refl
words_of-short (a ∷ b ∷ c ∷ d ∷ e ∷ f ∷ []) h = refl
words_of-short (a ∷ b ∷ c ∷ d ∷ e ∷ f ∷ g ∷ []) h = refl
words_of-short (a ∷ b ∷ c ∷ d ∷ e ∷ f ∷ g ∷ i ∷ xs) h = absurd (omega arith)

-- where there is a word there are its bytes
pub words_of-some : (xs : List ℕ) → 0 < length (words_of xs) → 8 ≤ length xs
words_of-some xs some = elim (cases_lt (length xs) 8) [
  | inl short ↦ absurd (omega (arith, some, ap length (words_of-short xs short)))
  | inr long ↦ long
]

pub words_of-eight : (xs : List ℕ) → length xs ≡ 8 → words_of xs ≡ from_le_bytes w64 xs ∷ []
unfolding words_of
words_of-eight [] h = absurd (omega (arith, h))
words_of-eight (a ∷ []) h = absurd (omega (arith, h))
words_of-eight (a ∷ b ∷ []) h = absurd (omega (arith, h))
words_of-eight (a ∷ b ∷ c ∷ []) h = absurd (omega (arith, h))
words_of-eight (a ∷ b ∷ c ∷ d ∷ []) h = absurd (omega (arith, h))
words_of-eight (a ∷ b ∷ c ∷ d ∷ e ∷ []) h = absurd (omega (arith, h))
words_of-eight (a ∷ b ∷ c ∷ d ∷ e ∷ f ∷ []) h = absurd (omega (arith, h))
words_of-eight (a ∷ b ∷ c ∷ d ∷ e ∷ f ∷ g ∷ []) h = absurd (omega (arith, h))
words_of-eight (a ∷ b ∷ c ∷ d ∷ e ∷ f ∷ g ∷ i ∷ []) h = refl
words_of-eight (a ∷ b ∷ c ∷ d ∷ e ∷ f ∷ g ∷ i ∷ x ∷ xs) h = absurd (omega (arith, h))

-- one word more is read
pub words_of-next : (words words' rest front behind : List ℕ) (word : ℕ) (bytes : List ℕ) → 8 ≤ length rest → front ≡ take 8 rest → behind ≡ drop 8 rest →
    words_of front ≡ word ∷ [] → words' ≡ words ++ word ∷ [] → words ++ words_of rest ≡ words_of bytes → words' ++ words_of behind ≡ words_of bytes
words_of-next words words' rest front behind word bytes long front_is behind_is one pushed all =
    ap (λ (l : List ℕ). l ++ words_of behind) pushed
    ∙ append_assoc words (word ∷ []) (words_of behind)
    ∙ ap (λ (l : List ℕ). words ++ (l ++ words_of behind)) (sym one)
    ∙ ap (λ (l : List ℕ). words ++ (words_of l ++ words_of behind)) front_is
    ∙ ap (λ (l : List ℕ). words ++ (words_of (take 8 rest) ++ words_of l)) behind_is
    ∙ ap (λ (l : List ℕ). words ++ l) (sym (words_of-split rest long))
    ∙ all

-- What a walk has found so far: these records with their places, up to the place that is looked at next.
pub record Found (words : List ℕ) (found : List (ℕ × Record)) (end : ℕ) : Type 0 where
  pub text : words ≡ joined (map (λ x. x.1) found) ++ drop end words
  pub whole : AllByRecursion IsWhole (map (λ x. x.1) found)
  pub places : found ≡ placed 0 (map (λ x. x.1) found)
  pub size : end ≡ length (joined (map (λ x. x.1) found))

pub none_found : (words : List ℕ) → Found words [] 0
none_found words = record { text = refl; whole = tt; places = refl; size = refl }

map-push : (found : List (ℕ × Record)) (x : ℕ × Record) → map (λ y. y.1) (found ++ x ∷ []) ≡ map (λ y. y.1) found ++ x.1 ∷ []
map-push [] x = refl
map-push (y ∷ ys) x = ap (λ (l : List Record). y.1 ∷ l) (map-push ys x)

pub joined-push : (rs : List Record) (r : Record) → joined (rs ++ r ∷ []) ≡ joined rs ++ spelling r
joined-push [] r = append-nil (spelling r)
joined-push (q ∷ qs) r = ap (λ (l : List ℕ). spelling q ++ l) (joined-push qs r) ∙ sym (append_assoc (spelling q) (joined qs) (spelling r))

pub whole-push : (rs : List Record) (r : Record) → AllByRecursion IsWhole rs → IsWhole r → AllByRecursion IsWhole (rs ++ r ∷ [])
whole-push [] r ws w = (w, tt)
whole-push (q ∷ qs) r ws w = (ws.0, whole-push qs r ws.1 w)

placed-push : (place : ℕ) (rs : List Record) (r : Record) → placed place (rs ++ r ∷ []) ≡ placed place rs ++ (place + length (joined rs), r) ∷ []
placed-push place [] r = ap (λ (n : ℕ). (n, r) ∷ []) (sym (add-zero place))
placed-push place (q ∷ qs) r =
    let next : place + length (spelling q) + length (joined qs) ≡ place + length (joined (q ∷ qs)) = omega (arith, length-append (spelling q) (joined qs)) in
    ap (λ (l : List (ℕ × Record)). (place, q) ∷ l)
    (placed-push (place + length (spelling q)) qs r
    ∙ ap (λ (n : ℕ). placed (place + length (spelling q)) qs ++ (n, r) ∷ []) next)

-- what begins the words is whole, and its spelling takes this many
pub begins_whole : (words : List ℕ) (r : Record) (len : ℕ) → BeginsWith words r len → IsWhole r
begins_whole words r len b = record { canonical = b.whole.canonical; short = b.whole.short }

pub begins_len : (words : List ℕ) (r : Record) (len : ℕ) → BeginsWith words r len → len ≡ length (spelling r)
begins_len words r len b = sym (length-take-le len words b.within) ∙ ap length b.whole.spelled

pub found_more : (words : List ℕ) (found : List (ℕ × Record)) (end : ℕ) (r : Record) (len : ℕ) → Found words found end → BeginsWith (drop end words) r len →
    Found words (found ++ (end, r) ∷ []) (end + len)
found_more words found end r len f b =
    let rs : List Record = map (λ x. x.1) found in
    let rs_more : map (λ x. x.1) (found ++ (end, r) ∷ []) ≡ rs ++ r ∷ [] = map-push found (end, r) in
    let more : joined (map (λ x. x.1) (found ++ (end, r) ∷ [])) ≡ joined rs ++ spelling r = ap joined rs_more ∙ joined-push rs r in
    record {
      text =
          f.text
          ∙ ap (λ (l : List ℕ). joined rs ++ l) (sym (take-append-drop len (drop end words)) ∙ ap₂ (λ (x y : List ℕ). x ++ y) b.whole.spelled (drop-drop len end words))
          ∙ sym (append_assoc (joined rs) (spelling r) (drop (end + len) words))
          ∙ ap (λ (l : List ℕ). l ++ drop (end + len) words) (sym more);
      whole = rw rs_more (whole-push rs r f.whole (begins_whole (drop end words) r len b));
      places =
          ap (λ (l : List (ℕ × Record)). l ++ (end, r) ∷ []) f.places
          ∙ ap (λ (n : ℕ). placed 0 rs ++ (n, r) ∷ []) (f.size ∙ sym (zero-add (length (joined rs))))
          ∙ sym (placed-push 0 rs r)
          ∙ ap (placed 0) (sym rs_more);
      size = omega (arith, f.size, ap length more, length-append (joined rs) (spelling r), begins_len (drop end words) r len b);
    }

-- nothing more begins
pub found_all : (words : List ℕ) (found : List (ℕ × Record)) (end : ℕ) → Found words found end → BeginsNoRecord (drop end words) → IsWalk words found end
found_all words found end f none = record {
  text = record { rest = drop end words; text = f.text; whole = f.whole; end = none };
  places = f.places;
  behind = f.size;
}

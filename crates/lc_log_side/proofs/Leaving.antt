-- What is left of the rounds that have ended, and what was dropped of them.
use Rattle.std.proofs.Common.{◌≡◌, ℕ, ◌+◌, ◌≤◌, true, ◌==◌, List, [], ◌∷◌, ◌++◌, map, length, All, refl, sym, ◌∙◌, ap, subst, arith, append_assoc, length-append, eqb-true}
use Rattle.std.specs.Prelude.{nat_le, slice_index_or}
use Rattle.std.specs.List.{concat, list_all}
use Rattle.std.proofs.lemmas.Bool.{and_parts}
use Rattle.std.proofs.lemmas.List.{append-nil}
use Rattle.std.proofs.lemmas.List.Elements.{All-nil, All-cons, All-head, All-tail, All-append}
use Rattle.std.proofs.lemmas.List.Folds.{concat-append}
use Rattle.lc_log.specs.LogText.{IsWhole, joined}
use Rattle.lc_log.proofs.LogLemmas.{joined-append}
use Rattle.lc_record.proofs.ListLemmas.{All-append_left as all_in_front, All-append_right as all_behind}
use Rattle.lc_record.specs.Recorded.{counted}
use Rattle.lc_record.specs.declared.geometry.Geometry.{Geometry}
use Rattle.lc_record.specs.declared.record.Lock.{Lock}
use Rattle.lc_record.specs.declared.record.Record.{Record}
use Rattle.lc_model.specs.Merging.{counted_all}
use Rattle.lc_rest.specs.Adopted.{Follow, IsTaken, transaction_of}
use Rattle.lc_rest.specs.Merge.{counted_by, number_at}
use Rattle.lc_rest.specs.Parts.{IsKnownClean}
use Rattle.lc_token.specs.KnownClean.{known as known_of}
use Rattle.lc_rest.proofs.Following.{counts, length-counted}
use Rattle.lc_log_side.specs.Left.{IsLeft}
use Rattle.lc_log_side.specs.Trims.{AreDropped, Drops, Trims, is_due_lock}

pub left-none : (known : List ℕ) → IsLeft [] known 0 []
left-none known = record {
  front = [];
  kept = [];
  front_whole = All-nil IsWhole;
  whole = All-nil IsWhole;
  parts = refl;
  gone_is = refl;
  text = refl;
  clean = All-nil (IsKnownClean known);
}

pub left-more : (past : List (List ℕ)) (known : List ℕ) (gone : ℕ) (words : List ℕ) (rs : List Record) → IsLeft past known gone words → All IsWhole rs → All (IsKnownClean known) rs
    → IsLeft (past ++ joined rs ∷ []) known gone (words ++ joined rs)
left-more past known gone words rs is whole clean = record {
  front = is.front;
  kept = is.kept ++ rs;
  front_whole = is.front_whole;
  whole = All-append IsWhole is.kept rs is.whole whole;
  parts = concat-append past (joined rs ∷ []) ∙ ap (λ (l : List ℕ). concat past ++ l) (append-nil (joined rs)) ∙ ap (λ (l : List ℕ). l ++ joined rs) is.parts ∙ append_assoc (joined is.front) words (joined rs);
  gone_is = is.gone_is;
  text = ap (λ (l : List ℕ). l ++ joined rs) is.text ∙ sym (joined-append is.kept rs);
  clean = All-append (IsKnownClean known) is.kept rs is.clean clean;
}

pub left-sees : (past : List (List ℕ)) (known later : List ℕ) (gone : ℕ) (words : List ℕ) → IsLeft past known gone words → ((segment : ℕ) → known_of known segment ≤ known_of later segment) → IsLeft past later gone words
left-sees past known later gone words is grows = record {
  front = is.front;
  kept = is.kept;
  front_whole = is.front_whole;
  whole = is.whole;
  parts = is.parts;
  gone_is = is.gone_is;
  text = is.text;
  clean = λ k d less i l within. (let one = is.clean k d less i l within in let two = grows (slice_index_or (slice_index_or is.kept k d).locks i l).segment in omega (arith, one, two));
}

pub left-trims : (past : List (List ℕ)) (known : List ℕ) (gone less : ℕ) (words rest applied dropped after : List ℕ) (count : ℕ) → IsLeft past known gone words
    → ((rs : List Record) → All IsWhole rs → words ≡ joined rs → Trims applied dropped rs count rest after) → less + length rest ≡ gone + length words → IsLeft past known less rest
left-trims past known gone less words rest applied dropped after count is trims same =
    let t : Drops applied dropped is.kept count rest after = (trims is.kept is.whole is.text).drops in
    let whole : All IsWhole (t.front ++ t.rest) = subst (λ (l : List Record). All IsWhole l) t.parts is.whole in
    let clean : All (IsKnownClean known) (t.front ++ t.rest) = subst (λ (l : List Record). All (IsKnownClean known) l) t.parts is.clean in
    let cut : words ≡ joined t.front ++ rest = is.text ∙ ap joined t.parts ∙ joined-append t.front t.rest ∙ ap (λ (l : List ℕ). joined t.front ++ l) (sym t.left_is) in
    record {
      front = is.front ++ t.front;
      kept = t.rest;
      front_whole = All-append IsWhole is.front t.front is.front_whole (all_in_front IsWhole t.front t.rest whole);
      whole = all_behind IsWhole t.front t.rest whole;
      parts = is.parts ∙ ap (λ (l : List ℕ). joined is.front ++ l) cut ∙ sym (append_assoc (joined is.front) (joined t.front) rest) ∙ ap (λ (l : List ℕ). l ++ rest) (sym (joined-append is.front t.front));
      gone_is =
          (let long : length words ≡ length (joined t.front) + length rest = ap length cut ∙ length-append (joined t.front) rest in
          let both : length (joined (is.front ++ t.front)) ≡ length (joined is.front) + length (joined t.front) = ap length (joined-append is.front t.front) ∙ length-append (joined is.front) (joined t.front) in
          let was = is.gone_is in
          omega (arith, long, both, was, same));
      text = t.left_is;
      clean = all_behind (IsKnownClean known) t.front t.rest clean;
    }

pub left-all : (past : List (List ℕ)) (known : List ℕ) (gone : ℕ) (words : List ℕ) → IsLeft past known gone words → IsLeft past known (gone + length words) []
left-all past known gone words is =
    let cut : joined (is.front ++ is.kept) ≡ joined is.front ++ words = joined-append is.front is.kept ∙ ap (λ (l : List ℕ). joined is.front ++ l) (sym is.text) in
    record {
      front = is.front ++ is.kept;
      kept = [];
      front_whole = All-append IsWhole is.front is.kept is.front_whole is.whole;
      whole = All-nil IsWhole;
      parts = is.parts ∙ sym cut ∙ sym (append-nil (joined (is.front ++ is.kept)));
      gone_is = (let was = is.gone_is in let long = ap length cut ∙ length-append (joined is.front) words in omega (arith, was, long));
      text = refl;
      clean = All-nil (IsKnownClean known);
    }

-- Dropped

abbrev Known : ℕ → Lock → Type 0
Known n lock = (1 ≤ lock.segment) × (lock.segment ≤ n)

due-next : (applied dropped : List ℕ) (locks : List Lock) → list_all (is_due_lock applied dropped) locks ≡ true → All (λ (lock : Lock). lock.seq ≡ number_at dropped lock.segment + 1) locks
due-next applied dropped [] are = All-nil (λ (lock : Lock). lock.seq ≡ number_at dropped lock.segment + 1)
due-next applied dropped (lock ∷ locks) are =
    let both = and_parts (is_due_lock applied dropped lock) (list_all (is_due_lock applied dropped) locks) are in
    let parts = and_parts (nat_le lock.seq (number_at applied lock.segment)) (lock.seq == number_at dropped lock.segment + 1) both.0 in
    All-cons (λ (l : Lock). l.seq ≡ number_at dropped l.segment + 1) lock locks (eqb-true lock.seq (number_at dropped lock.segment + 1) parts.1) (due-next applied dropped locks both.1)

module _ (g : Geometry) (applied : List ℕ) where
  later-known : (dropped : List ℕ) (r : Record) (rs : List Record) → All (λ (q : Record). All (Known (length dropped)) q.locks) (r ∷ rs) → All (λ (q : Record). All (Known (length (counted_by r.locks dropped))) q.locks) rs
  later-known dropped r rs known = subst (λ (n : ℕ). All (λ (q : Record). All (Known n) q.locks) rs) (sym (length-counted r.locks dropped)) (All-tail (λ (q : Record). All (Known (length dropped)) q.locks) r rs known)

  one-counted : (dropped : List ℕ) (r : Record) (rs : List Record) → All (IsTaken g) (r ∷ rs) → All (λ (q : Record). All (Known (length dropped)) q.locks) (r ∷ rs) → list_all (is_due_lock applied dropped) r.locks ≡ true
      → counted (number_at dropped) (transaction_of g r) ≡ number_at (counted_by r.locks dropped)
  one-counted dropped r rs taken known due =
      counts g r dropped (All-head (IsTaken g) r rs taken) (All-head (λ (q : Record). All (Known (length dropped)) q.locks) r rs known) (due-next applied dropped r.locks due)

  follows : (dropped after : List ℕ) (rs : List Record) → All (IsTaken g) rs → All (λ (r : Record). All (Known (length dropped)) r.locks) rs → AreDropped applied dropped rs after → Follow g (number_at dropped) rs
  follows dropped after [] taken known are = tt
  follows dropped after (r ∷ rs) taken known are = (
    due-next applied dropped r.locks are.0,
    subst (λ (h : ℕ → ℕ). Follow g h rs) (sym (one-counted dropped r rs taken known are.0))
        (follows (counted_by r.locks dropped) after rs (All-tail (IsTaken g) r rs taken) (later-known dropped r rs known) are.1),
  )

  counteds : (dropped after : List ℕ) (rs : List Record) → All (IsTaken g) rs → All (λ (r : Record). All (Known (length dropped)) r.locks) rs → AreDropped applied dropped rs after
      → number_at after ≡ counted_all (number_at dropped) (map (transaction_of g) rs)
  counteds dropped after [] taken known are = ap number_at are
  counteds dropped after (r ∷ rs) taken known are =
      counteds (counted_by r.locks dropped) after rs (All-tail (IsTaken g) r rs taken) (later-known dropped r rs known) are.1
      ∙ ap (λ (h : ℕ → ℕ). counted_all h (map (transaction_of g) rs)) (sym (one-counted dropped r rs taken known are.0))

pub drops-follow : (g : Geometry) (applied dropped after : List ℕ) (rs : List Record) → All (IsTaken g) rs → All (λ (r : Record). All (Known (length dropped)) r.locks) rs → AreDropped applied dropped rs after → Follow g (number_at dropped) rs
drops-follow g applied dropped after rs taken known are = follows g applied dropped after rs taken known are

pub drops-counted : (g : Geometry) (applied dropped after : List ℕ) (rs : List Record) → All (IsTaken g) rs → All (λ (r : Record). All (Known (length dropped)) r.locks) rs → AreDropped applied dropped rs after
    → number_at after ≡ counted_all (number_at dropped) (map (transaction_of g) rs)
drops-counted g applied dropped after rs taken known are = counteds g applied dropped after rs taken known are

drops-length : (applied dropped after : List ℕ) (rs : List Record) → AreDropped applied dropped rs after → length after ≡ length dropped
drops-length applied dropped after [] are = ap length are
drops-length applied dropped after (r ∷ rs) are = drops-length applied (counted_by r.locks dropped) after rs are.1 ∙ length-counted r.locks dropped

follow-append : (g : Geometry) (numbers : ℕ → ℕ) (rs qs : List Record) → Follow g numbers rs → Follow g (counted_all numbers (map (transaction_of g) rs)) qs → Follow g numbers (rs ++ qs)
follow-append g numbers [] qs one two = two
follow-append g numbers (r ∷ rs) qs one two = (one.0, follow-append g (counted numbers (transaction_of g r)) rs qs one.1 two)

pub drops-chain : (g : Geometry) (applied later dropped between after : List ℕ) (rs qs : List Record) → All (IsTaken g) rs → All (IsTaken g) qs → All (λ (r : Record). All (Known (length dropped)) r.locks) rs → All (λ (r : Record). All (Known (length dropped)) r.locks) qs
    → AreDropped applied dropped rs between → AreDropped later between qs after → Follow g (number_at dropped) (rs ++ qs)
drops-chain g applied later dropped between after rs qs taken others known these are next =
    let wide : All (λ (r : Record). All (Known (length between)) r.locks) qs = subst (λ (n : ℕ). All (λ (r : Record). All (Known n) r.locks) qs) (sym (drops-length applied dropped between rs are)) these in
    follow-append g (number_at dropped) rs qs (drops-follow g applied dropped between rs taken known are)
    (subst (λ (h : ℕ → ℕ). Follow g h qs) (drops-counted g applied dropped between rs taken known are) (drops-follow g later between after qs others wide next))

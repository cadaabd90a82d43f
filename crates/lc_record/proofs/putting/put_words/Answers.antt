use Rattle.std.proofs.Common.{◌≡◌, ◌+◌, ◌-◌, ◌*◌, ◌≤◌, ◌∙◌, ℕ, List, Option, None, length, min, take, drop, sym, ap, inl, inr, arith}
use Rattle.std.specs.Prelude.{slice_get}
use Rattle.std.specs.Option.{option_or}
use Rattle.std.proofs.lemmas.Bool.{cases_lt}
use Rattle.std.proofs.lemmas.List.{length-drop}
use Rattle.lc_record.specs.Words.{bytes_of}
use Rattle.lc_record.specs.Newest.{byte_from}
use Rattle.lc_record.proofs.ViewLemmas.{range_behind}
use Rattle.lc_record.proofs.PuttingLemmas.{take_of_words, put_before, put_within, byte_from-before, byte_from-behind}
use Rattle.lc_record.proofs.ListLemmas.{slice_get-drop as at_drop}
use Rattle.lc_record.proofs.putting.put_words.Goals as goal

pub returns-then-front-bytes-clause-put : goal.returns-then-front-bytes-clause-put
returns-then-front-bytes-clause-put c k lt =
    let bytes = c.args.bytes.now in
    let front = c.saturating_sub-front.result in
    let skipped = c.saturating_sub-skipped.result in
    let its = take c.args.len (bytes_of c.args.words.now) in
    let ys = c.put_data.new.bytes in
    let eights : length c.args.words.now * 8 ≡ 8 * length c.args.words.now = omega arith in
    let some : take c.min-count.result (bytes_of c.args.words.now) ≡ its =
    ap (λ (n : ℕ). take n (bytes_of c.args.words.now)) (c.min-count.ensures ∙ ap (min c.args.len) eights) ∙ take_of_words c.args.words.now c.args.len in
    let within : front ≤ length bytes = omega (arith, c.if-front-bytes.true) in
    let part : take (length bytes - front) (drop front bytes) ≡ drop front bytes = range_behind bytes front in
    let old_long : length (take (length bytes - front) (drop front bytes)) ≡ length bytes - front = ap (λ (l : List ℕ). length l) part ∙ length-drop front bytes in
    let long : length ys ≡ length bytes - front = c.put_data.ensures.len ∙ old_long in
    elim (cases_lt k front) [
      | inl before ↦
          let none : byte_from c.args.start its (c.args.offset + k) ≡ None = byte_from-before c.args.start its (c.args.offset + k) (omega (arith, before, c.saturating_sub-front.ensures)) in
          put_before front (length bytes - front) k bytes ys within long before ∙ ap (λ (o : Option ℕ). option_or o (slice_get bytes k)) (sym none)
      | inr behind ↦
          let there : front + (k - front) ≡ k = omega (arith, behind) in
          let byte : byte_from c.args.start its (c.args.offset + k) ≡ slice_get its (skipped + (k - front)) = byte_from-behind c.args.start its (c.args.offset + k) (skipped + (k - front)) (omega (arith, behind, c.saturating_sub-front.ensures, c.saturating_sub-skipped.ensures)) in
          let old : slice_get (take (length bytes - front) (drop front bytes)) (k - front) ≡ slice_get bytes k = ap (λ (l : List ℕ). slice_get l (k - front)) part ∙ at_drop front (k - front) bytes ∙ ap (slice_get bytes) there in
          put_within front (length bytes - front) k bytes ys within long behind (omega (arith, lt, behind))
          ∙ c.put_data.ensures.put (k - front) (omega (arith, lt, behind, old_long))
          ∙ ap (λ (l : List ℕ). option_or (slice_get l (skipped + (k - front))) (slice_get (take (length bytes - front) (drop front bytes)) (k - front))) some
          ∙ ap (option_or (slice_get its (skipped + (k - front)))) old
          ∙ ap (λ (o : Option ℕ). option_or o (slice_get bytes k)) (sym byte)
    ]

pub returns-else-front-bytes-clause-put : goal.returns-else-front-bytes-clause-put
returns-else-front-bytes-clause-put c k lt =
    let its = take c.args.len (bytes_of c.args.words.now) in
    let none : byte_from c.args.start its (c.args.offset + k) ≡ None = byte_from-before c.args.start its (c.args.offset + k) (omega (arith, lt, c.if-front-bytes.false, c.saturating_sub-front.ensures)) in
    ap (λ (o : Option ℕ). option_or o (slice_get c.args.bytes.now k)) (sym none)

use Rattle.std.proofs.Common.{◌≡◌, ◌/◌, ◌%◌, ◌∙◌, ℕ, List, Option, Some, None, length, refl, sym, ap, arith}
use Rattle.std.specs.Prelude.{slice_get}
use Rattle.std.specs.Int.{w64, to_le_bytes}
use Rattle.std.proofs.lemmas.Bool.{ltb-true}
use Rattle.std.proofs.lemmas.Option.{slice_get-get_or, slice_get_past, slice_get_read}
use Rattle.lc_record.specs.Words.{bytes_of}
use Rattle.lc_record.specs.Reading.{◌>>=◌}
use Rattle.lc_record.proofs.ViewLemmas.{byte_there, get_taken}
use Rattle.lc_record.proofs.data.read_byte.Goals as goal

pub returns-in_err-word : goal.returns-in_err-word
returns-in_err-word c =
    let ws = c.args.words.now in
    let past : slice_get ws (c.args.place / 8) ≡ None = slice_get_past ws (c.args.place / 8) (omega (arith, c.in_err-word.ensures.lookup)) in
    c.from_residual.ensures
    ∙ sym (get_taken c.args.len (bytes_of ws) c.args.place c.if-place-len.false
    ∙ byte_there ws c.args.place
    ∙ ap (λ (o : Option ℕ). o >>= λ w. slice_get (to_le_bytes w64 w) (c.args.place % 8)) past)

pub returns : goal.returns
returns c =
    let ws = c.args.words.now in
    let w = c.in_ok-word.word.now in
    let is : slice_get ws (c.args.place / 8) ≡ Some w = slice_get_read ws (length ws) (c.args.place / 8) w refl (ltb-true _ _ (sym c.in_ok-word.ensures.lookup.0)) c.in_ok-word.ensures.lookup.1 in
    let byte : slice_get c.to_le_bytes.result (c.args.place % 8) ≡ slice_get (to_le_bytes w64 w) (c.args.place % 8) = ap (λ (l : List ℕ). slice_get l (c.args.place % 8)) c.to_le_bytes.ensures in
    let short : length c.to_le_bytes.result ≡ 8 = ap (λ (l : List ℕ). length l) c.to_le_bytes.ensures in
    sym (get_taken c.args.len (bytes_of ws) c.args.place c.if-place-len.false
    ∙ byte_there ws c.args.place
    ∙ ap (λ (o : Option ℕ). o >>= λ w. slice_get (to_le_bytes w64 w) (c.args.place % 8)) is
    ∙ sym byte
    ∙ slice_get-get_or c.to_le_bytes.result (c.args.place % 8) 0 (omega (arith, short)))

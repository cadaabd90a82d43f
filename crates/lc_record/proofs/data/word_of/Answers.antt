use Rattle.std.proofs.Common.{◌≡◌, ℕ, ◌-◌, ◌++◌, length, replicate, refl}
use Rattle.std.specs.List.{slice_index}
use Rattle.lc_record.proofs.DataLemmas.{filled_at}
use Rattle.lc_record.proofs.data.word_of.Goals as goal

pub returns : goal.returns
returns c =
    let at : (i : ℕ) → slice_index (c.args.bytes.now ++ replicate (8 - length c.args.bytes.now) 0) i ≡ slice_index c.args.bytes.now i = filled_at c.args.bytes.now (8 - length c.args.bytes.now) in
    rw (c.from_le_bytes.ensures, c.byte_or_zero.ensures, c.byte_or_zero-2.ensures, c.byte_or_zero-3.ensures, c.byte_or_zero-4.ensures, c.byte_or_zero-5.ensures, c.byte_or_zero-6.ensures, c.byte_or_zero-7.ensures, c.byte_or_zero-8.ensures, at 0, at 1, at 2, at 3, at 4, at 5, at 6, at 7) refl

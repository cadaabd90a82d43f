use Rattle.std.proofs.Common.{◌≡◌, ◌<◌, ◌-◌, ℕ, suc, List, arith, length, take, ap, slice_index_or, false}
use Rattle.lc_journal.specs.declared.record_end.RecordEnd.{RecordEnd}
use Rattle.lc_journal.specs.Records.{all_words}
use Rattle.lc_journal.proofs.Spans.{length-places_of, end_at}
use Rattle.lc_journal.proofs.records.start_of.Goals as goal

pub returns : goal.returns
returns c rs are =
    let at : ℕ = c.args.place - 1 in
    let d : RecordEnd = record { end = 0; closed = false } in
    let within : at < length rs = omega (arith, c.requires, c.if-place-eq0.false, ap length are, length-places_of 0 rs) in
    let next : suc at ≡ c.args.place = omega (arith, c.if-place-eq0.false) in
    let read = ap (λ (ps : List RecordEnd). (slice_index_or ps at d).end) are in
    omega (arith, read, end_at 0 rs at d within, ap (λ (n : ℕ). length (all_words (take n rs))) next)

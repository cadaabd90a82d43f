use Rattle.std.proofs.Common.{ℕ, ◌==◌, ◌∙◌, filter, length, zero-add, ap, sym}
use Rattle.std.specs.Prelude.{slice_get}
use Rattle.std.specs.Option.{option_or}
use Rattle.std.proofs.lemmas.List.{with_items_is}
use Rattle.lc_record.specs.Newest.{byte_of}
use Rattle.lc_tx.specs.Image.{laid_over}
use Rattle.lc_tx.proofs.PutLemmas.{laid_bytes}
use Rattle.lc_tx.proofs.image.Image.put_from.Goals as goal

pub returns-clause-bytes : goal.returns-clause-bytes
returns-clause-bytes c =
    let ranges = c.args.view.now.ranges in
    let old = c.as_mut_slice.result.now in
    let bytes = c.args.self.now.bytes in
    with_items_is bytes c.put_on.new.bytes (c.put_on.ensures.len ∙ ap length c.as_mut_slice.ensures.value ∙ sym bytes.ok.0)
    ∙ laid_bytes c.args.segment ranges old c.put_on.new.bytes c.put_on.ensures.len (λ k within.
    c.put_on.ensures.put k within ∙ ap (λ (i : ℕ). option_or (byte_of c.args.segment i ranges) (slice_get old k)) (zero-add k))
    ∙ ap (laid_over (filter (λ range. range.segment == c.args.segment) ranges)) c.as_mut_slice.ensures.value

use Rattle.std.proofs.Common.{◌+◌, ◌-◌, length, sym, ap, ◌∙◌, arith}
use Rattle.std.proofs.lemmas.List.{take_all}
use Rattle.lc_tx.proofs.PutLemmas.{written_is}
use Rattle.lc_changes.specs.ChangesView.{ChangesView}
use Rattle.lc_changes.proofs.changes.Changes.write.Goals as goal

pub returns-clause-written : goal.returns-clause-written
returns-clause-written c =
    let bytes = c.args.bytes.now in
    let long = ap (λ (v : ChangesView). v.image_len) c.self.view_is in
    written_is c.args.offset bytes c.args.image.now c.copy_from_slice.new.self c.args.offset (length bytes) (c.args.offset + length bytes - c.args.offset)
    (omega (arith, c.requires, long)) (omega (arith, c.requires, long)) (omega arith) (c.copy_from_slice.ensures.after ∙ sym (take_all (length bytes) bytes (omega arith)))

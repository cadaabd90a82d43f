use Rattle.std.specs.Prelude.{slice_get}
use Rattle.lc_recover.proofs.PageLemmas.{put_nothing}
use Rattle.lc_recover.proofs.page.put_change.Goals as goal

pub returns-in_default-clause-put : goal.returns-in_default-clause-put
returns-in_default-clause-put c offset lt =
    put_nothing c.args.logs.now c.args.change.now.log c.args.change.now.place c.args.change.now.words c.args.change.now.len c.args.change.now.offset _ (slice_get c.args.bytes.now offset) c.in_default.ensures.lookup.3

use Rattle.lc_recover.proofs.Ascents.{are-index, equal}
use Rattle.std.proofs.lemmas.List.Filters.{dedup_is}
use Rattle.lc_recover.proofs.index.index.Goals as goal

pub returns-clause-index : goal.returns-clause-index
returns-clause-index c =
    are-index c.args.logs.now c.args.segments.now c.in_ok-changes.changes.items c.sort_unstable.new.self.items c.dedup.new.self.items
    c.in_ok-changes.ensures.changes c.sort_unstable.ensures.permutation c.sort_unstable.ensures.sorted (dedup_is equal c.sort_unstable.new.self.items c.dedup.new.self.items c.dedup.ensures.filtered)

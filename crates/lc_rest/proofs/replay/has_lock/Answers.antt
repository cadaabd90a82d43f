use Rattle.std.proofs.Common.{◌==◌, ◌∙◌, List, ap, sym}
use Rattle.std.specs.List.{list_any}
use Rattle.lc_record.specs.declared.record.Lock.{Lock}
use Rattle.lc_rest.proofs.Replays.{member-any}
use Rattle.lc_rest.proofs.replay.has_lock.Goals as goal

pub returns : goal.returns
returns c =
    c.is_locked.ensures ∙ ap (λ (locks : List Lock). list_any (λ (lock : Lock). lock.segment == c.args.segment) locks) c.as_slice.ensures
    ∙ sym (member-any c.args.segment c.args.whole.now.locks)

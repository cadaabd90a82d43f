use Rattle.std.proofs.Common.{rules, ◌≡◌, ap, ◌∙◌}
use Rattle.std.proofs.Math.ListN.{drop}
use Rattle.lc_log_side.proofs.Placed.{behind_place}
use Rattle.lc_log_side.proofs.log_side.LogSide.stable_at.Goals as goal

pub returns : goal.returns
returns g c = λ index record_words among.
    let is : c.as_slice.result.now ≡ c.args.self.now.stable = search rules in
    c.first_behind.ensures.one record_words among.behind (ap (drop c.args.place) is ∙ behind_place c.args.self.now.stable index c.args.place record_words among) among.one

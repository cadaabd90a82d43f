use Rattle.std.proofs.Common.{◌∙◌, ℕ, drop, ap}
use Rattle.std.proofs.lemmas.List.{drop_min as drop_least}
use Rattle.lc_record.proofs.ViewLemmas.{range_behind}
use Rattle.lc_recover.proofs.page.behind.Goals as goal

pub returns : goal.returns
returns c =
    let words = c.args.words.now in
    range_behind words c.min.result ∙ ap (λ (n : ℕ). drop n words) c.min.ensures ∙ drop_least c.args.place words

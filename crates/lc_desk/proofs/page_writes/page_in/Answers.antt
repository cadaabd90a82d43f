use Rattle.std.proofs.Common.{◌*◌, ◌-◌, ℕ, List, ap, drop, length, take, ◌∙◌}
use Rattle.std.proofs.lemmas.List.{drop_min, take_min, take_rest}
use Rattle.lc_desk.proofs.page_writes.page_in.Goals as goal

pub returns : goal.returns
returns c =
    let bytes = c.args.bytes.now in
    let start = c.min-start.result in
    let behind : List ℕ = take (length bytes - start) (drop start bytes) in
    ap (λ n. take n behind) c.min.ensures ∙ take_min 256 behind
    ∙ ap (take 256) (take_rest bytes start ∙ ap (λ n. drop n bytes) c.min-start.ensures ∙ drop_min (c.args.page * 256) bytes)

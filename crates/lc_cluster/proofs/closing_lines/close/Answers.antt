use Rattle.std.proofs.Common.{◌≡◌, List, ◌++◌, sym, ap, subst, ◌∙◌}
use Rattle.std.proofs.lemmas.List.{append-nil, append_assoc}
use Rattle.lc_line.specs.Ends.{rest_of}
use Rattle.lc_record.proofs.ListLemmas.{OnOk_then as on_ok}
use Rattle.lc_cluster.specs.Closing.{Grows, kept_token, left_on}
use Rattle.lc_cluster.specs.Messages.{tokens_among}
use Rattle.lc_cluster.proofs.LinesClosed.{grows_more, grows_same, left_is_rest}
use Rattle.lc_cluster.proofs.closing_lines.close.Goals as goal
use Rattle.lc_cluster.proofs.closing_lines.close.Goals.{in-Some+in_ok-add_token, in_default}

pub returns-clause-grows : goal.returns-clause-grows
returns-clause-grows g c =
    let old = c.args.tokens.now.items in
    let before : Grows old c.match-kept.tokens.items = elim c.match-kept.branch [
      | in-Some+in_ok-add_token w ↦ subst (λ v. Grows old v.items) (sym w.tokens-is) w.in_ok-add_token.ensures.grows
      | in_default w ↦ subst (λ v. Grows old v.items) (sym w.tokens-is) (grows_same old)
    ] in
    grows_more old c.match-kept.tokens.items c.drain.new.tokens.items before c.drain.ensures.grows

pub returns-clause-tokens : goal.returns-clause-tokens
returns-clause-tokens g c =
    let old = c.args.tokens.now.items in
    let rest = tokens_among (rest_of c.close_line-rest.result) in
    let kept : List g.row.P.Denot = kept_token c.args.from.kept in
    let before : c.match-kept.tokens.items ≡ old ++ kept = elim c.match-kept.branch [
      | in-Some+in_ok-add_token w ↦ ap (λ v. v.items) w.tokens-is ∙ (w.in_ok-add_token.ensures.token ∙ ap (λ m. old ++ kept_token m) (sym w.in-Some.is))
      | in_default w ↦ ap (λ v. v.items) w.tokens-is ∙ (sym (append-nil old) ∙ ap (λ m. old ++ kept_token m) (sym w.in_default.is))
    ] in
    let left : left_on c.args.to c.args.from ≡ kept ++ rest = ap (λ l. kept ++ tokens_among l) (left_is_rest c.args.to c.args.from (rest_of c.close_line-rest.result) c.close_line-rest.ensures.rest) in
    on_ok c.drain.result c.drain.ensures.tokens (λ is. is ∙ (ap (λ l. l ++ rest) before ∙ (append_assoc old kept rest ∙ ap (λ l. old ++ l) (sym left))))

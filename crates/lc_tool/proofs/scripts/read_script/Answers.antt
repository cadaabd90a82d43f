use Rattle.std.proofs.Common.{◌≡◌, ◌∙◌, ℕ, ◌++◌, List, Option, IfSome, take, ap, subst}
use Rattle.std.specs.Prelude.{option_map}
use Rattle.lc_tool.proofs.ScriptLemmas.{limited}
use Rattle.lc_tool.proofs.scripts.read_script.Goals as goal

pub returns-in-Ok-clause-script : goal.returns-in-Ok-clause-script
returns-in-Ok-clause-script g c =
    let inner : g.R.Read.remaining c.take-source.result.inner.reader.now ≡ g.R.Read.remaining c.args.reader.now =
    ap (λ s. g.R.Read.remaining s.reader.now) c.take-source.ensures.inner ∙ ap (λ r. g.R.Read.remaining r.now) c.new.ensures.reader in
    let by_limit = subst (λ (n : ℕ). IfSome (option_map (take n) (g.R.Read.remaining c.take-source.result.inner.reader.now)) (λ xs. c.read_to_end.new.buf.items ≡ c.new-script.result.items ++ xs)) c.take-source.ensures.limit c.in-Ok.ensures.bytes in
    let by_reader = subst (λ (o : Option (List ℕ)). IfSome (option_map (take 1048577) o) (λ xs. c.read_to_end.new.buf.items ≡ c.new-script.result.items ++ xs)) inner by_limit in
    let by_items = subst (λ (l : List ℕ). IfSome (option_map (take 1048577) (g.R.Read.remaining c.args.reader.now)) (λ xs. c.read_to_end.new.buf.items ≡ l ++ xs)) c.new-script.ensures.items by_reader in
    limited (g.R.Read.remaining c.args.reader.now) 1048577 c.read_to_end.new.buf.items by_items

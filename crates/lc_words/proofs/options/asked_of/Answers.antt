use Rattle.lc_words.proofs.Asking.{one_name}
use Rattle.lc_words.proofs.options.asked_of.Goals as goal

pub returns-in_default-name : goal.returns-in_default-name
returns-in_default-name c =
    let name = one_name c.args.matches.now c.in-Some.name.now in
    let other = c.in_default-name in (
      λ rows is size. absurd (other.not-run (name _ rows c.in-Some.ensures.name is)),
      λ rows is size word. other.not-init (name _ rows c.in-Some.ensures.name is),
      λ rows is size word. other.not-recover (name _ rows c.in-Some.ensures.name is),
      λ rows is word. other.not-inspect (name _ rows c.in-Some.ensures.name is),
      λ rows is. other.not-lines (name _ rows c.in-Some.ensures.name is),
      λ rows is size word. other.not-check (name _ rows c.in-Some.ensures.name is),
      λ rows is word segment page. other.not-dump (name _ rows c.in-Some.ensures.name is),
      λ rows is word. other.not-draw (name _ rows c.in-Some.ensures.name is),
      λ rows is size word to. other.not-copy (name _ rows c.in-Some.ensures.name is),
    )

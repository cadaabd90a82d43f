use Rattle.std.proofs.Common.{◌≡◌, ◌++◌, [], ◌∷◌, ◌∙◌, ap, sym, subst}
use Rattle.lc_c.specs.SessionState.{gathered}
use Rattle.lc_c.proofs.session.Session.add_area.Goals as goal

pub returns-clause-added : goal.returns-clause-added
returns-clause-added c =
    let area = c.in_ok-of_file.field-0 in let news = c.push_reserved.new.self.items in
    record {
      area = area;
      file = c.in_ok-of_file.ensures.file;
      added = subst (λ s. news ≡ gathered s ++ area ∷ []) (sym c.in-Gathering.is) (c.push_reserved.ensures.items ∙ ap (λ xs. xs ++ area ∷ []) c.reserve.ensures.items);
    }

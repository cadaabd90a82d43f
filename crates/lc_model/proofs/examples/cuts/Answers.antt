use Rattle.std.proofs.Common.{[], ◌∷◌, IsTrue, refl, sym, true≢false, lit<}
use Rattle.std.proofs.lemmas.List.Elements.{All-cons, All-nil}
use Rattle.std.proofs.lemmas.List.Kept.{AllPairs-cons}
use Rattle.lc_record.specs.Transaction.{Meet}
use Rattle.lc_model.proofs.Lists.{AllPairs-nil as pairs_none}
use Rattle.lc_model.specs.History.{Numbered, is_kept}
use Rattle.lc_model.specs.Examples.{first, second, third}
use Rattle.lc_model.proofs.examples.cuts.Goals as goal

abbrev one : Numbered
one = record { transaction = first; number = 0 }

abbrev two : Numbered
two = record { transaction = second; number = 0 }

abbrev three : Numbered
three = record { transaction = third; number = 1 }

abbrev Pulls : Numbered → Numbered → Type 0
Pulls x y = Meet x.transaction y.transaction → IsTrue (is_kept (1 ∷ 1 ∷ []) y) → IsTrue (is_kept (1 ∷ 1 ∷ []) x)

last_not_kept : (x : Numbered) → Pulls x three
last_not_kept x meet kept = absurd (true≢false (sym kept))

pub returns-clause-closed : goal.returns-clause-closed
returns-clause-closed c =
    AllPairs-cons Pulls one (two ∷ three ∷ [])
    (All-cons (Pulls one) two (three ∷ []) (λ meet kept. refl) (All-cons (Pulls one) three [] (last_not_kept one) (All-nil (Pulls one))))
    (AllPairs-cons Pulls two (three ∷ []) (All-cons (Pulls two) three [] (last_not_kept two) (All-nil (Pulls two)))
    (AllPairs-cons Pulls three [] (All-nil (Pulls three)) (pairs_none Pulls)))

pub returns-clause-keeps_two : goal.returns-clause-keeps_two
returns-clause-keeps_two c = refl

pub returns-clause-leaves_one : goal.returns-clause-leaves_one
returns-clause-leaves_one c = refl

pub returns-clause-not_closed : goal.returns-clause-not_closed
returns-clause-not_closed c = λ closed. true≢false (sym (closed 1 2 one (lit< tt) (lit< tt) (2, refl) refl))

pub returns-clause-keeps_both : goal.returns-clause-keeps_both
returns-clause-keeps_both c = refl

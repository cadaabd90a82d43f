-- What is left of what was sent.
use Rattle.std.proofs.Common.{◌≡◌, List, [], ◌∷◌, ◌++◌, length, drop, sym, ap, ◌∙◌, append_assoc}
use Rattle.std.specs.Prelude.{Result, Ok, Err, MatchOption, MatchResult}
use Rattle.std.specs.Result.{result_ok}
use Rattle.std.proofs.lemmas.List.Prefix.{front_rest}
use Rattle.std.proofs.lemmas.List.{nil_from_length as no_items}
use Rattle.crossbeam_channel.specs.Fifo.{Held}
use Rattle.lc_line.specs.declared.pass_view.PassView.{PassView}
use Rattle.lc_line.specs.Order.{TakesFirst, IsTotal}

module _ {T : Type 0} where
  abbrev pub left : PassView T → List T
  left v = drop (length v.taken) v.sent

  none_left : (v : PassView T) → Held 0 (IsTotal v) → left v ≡ []
  none_left v held = front_rest v.sent v.taken held.0 held.2.0 ∙ no_items held.0 held.1

  one_less : (v w : PassView T) (x : T) → TakesFirst v x w → left v ≡ x ∷ left w
  one_less v w x told = let is = told.0 in let waiting = told.1.0 in
      let later : w.sent ≡ w.taken ++ waiting = ap (λ (z : PassView T). z.sent) is ∙ told.1.1 ∙ sym (append_assoc v.taken (x ∷ []) waiting) ∙ ap (λ (z : PassView T). z.taken ++ waiting) (sym is) in
      front_rest v.sent v.taken (x ∷ waiting) told.1.1 ∙ ap (λ l. x ∷ l) (sym (front_rest w.sent w.taken waiting later))

  -- what a take of the rest leaves of it
  pub taken_first : {E : Type 0} (v w : PassView T) (result : Result T E) → MatchResult result (λ x. TakesFirst v x w) (λ _. (w ≡ v) × Held 0 (IsTotal v)) → MatchOption (result_ok result) ((left v ≡ []) × (left w ≡ [])) (λ x. left v ≡ x ∷ left w)
  taken_first v w (Ok x) told = one_less v w x told
  taken_first v w (Err e) told = let none = none_left v told.1 in (none, ap left told.0 ∙ none)

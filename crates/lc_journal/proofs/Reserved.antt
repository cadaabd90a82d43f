-- Of a journal: a node's desk and journal together, at a reservation.
use Rattle.std.proofs.Common.{◌≡◌, false, map, filter, ap, ◌∙◌}
use Rattle.std.proofs.lemmas.List.{append-nil}
use Rattle.lc_record.specs.Transaction.{Transaction}
use Rattle.lc_model.specs.History.{Entry}
use Rattle.lc_model.specs.Machine.{appended}
use Rattle.lc_model.specs.State.{State}
use Rattle.lc_model.proofs.Fronts.{entry}
use Rattle.lc_token.specs.Clean.{closed_of}
use Rattle.lc_settled.proofs.Appending.{filter-end}

-- The numbers of tokens

pub closed_appended : (s : State) (t : Transaction) → closed_of (appended s t).history ≡ closed_of s.history
closed_appended s t = ap (map (λ (e : Entry). e.transaction)) (filter-end (λ (e : Entry). e.closed) s.history (entry t false)
    ∙ append-nil (filter (λ (e : Entry). e.closed) s.history))

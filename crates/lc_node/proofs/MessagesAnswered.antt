-- Of a node: a message is answered, and is kept where it comes back.
use Rattle.std.proofs.Common.{◌≡◌, ℕ, [], Some, None, true, false, refl, subst, inr}
use Rattle.std.specs.Prelude.{◌↔◌, Bool, Err, IfErr, IsSome, Ok, OnErr, Option, Result}
use Rattle.std.proofs.lemmas.List.Elements.{All-nil}
use Rattle.lc_record.specs.declared.record.Record.{Record as Spelled}
use Rattle.lc_segments.specs.Arriving.{MayArrive, with_token}
use Rattle.lc_node.specs.Held.{IsFirstOutside, IsHeldOf, IsUnheld}
use Rattle.lc_segments.specs.Journey.{Journey}
use Rattle.lc_node.specs.Reached.{AnswersJourney, AnswersToken, RefusesRecord, locked_in}
use Rattle.lc_segments.specs.SegView.{SegView}
use Rattle.lc_node.specs.declared.node.Node.{Node}
use Rattle.lc_segments.specs.declared.node_fault.NodeFault.{NodeFault}
use Rattle.lc_segments.specs.declared.node_fault.NodeFault.TheVariants.{NotHere, NoMemory}
use Rattle.lc_node.specs.declared.pumped.Pumped.{Pumped}
use Rattle.lc_node.specs.declared.pumped.Pumped.TheVariants.{Arrived, Waiting}

some_of : {A : Type 0} (o : Option A) → (o ≡ None → ⊥) → IsSome o
some_of None never = absurd (never refl)
some_of (Some x) never = refl

module _ {D : Type 0} where
  -- what a node answers of what a side answered
  abbrev pub shown : Result Bool (Journey D) → Result Pumped (Journey D)
  shown (Ok true) = Ok Arrived
  shown (Ok false) = Ok Waiting
  shown (Err journey) = Err journey

  token_answered : (journey : Journey D) (old new : SegView D) (r : Result Bool (Journey D)) → (r ≡ Ok true) ↔ MayArrive old journey
      → (r ≡ Ok false) ↔ ((MayArrive old journey → ⊥) × (old.waiting ≡ None)) → (r ≡ Ok true → new ≡ with_token journey old) → (r ≡ Ok false → new ≡ record old { waiting = Some journey })
      → IfErr r (λ given. given ≡ journey) → OnErr r (new ≡ old) → AnswersToken journey old (shown r) new
  token_answered journey old new (Ok true) arrived waits arrives kept back err = (arrived.0 refl, arrives refl)
  token_answered journey old new (Ok false) arrived waits arrives kept back err = let w = waits.0 refl in (w.0, w.1, kept refl)
  token_answered journey old new (Err given) arrived waits arrives kept back err =
      let never : MayArrive old journey → ⊥ = λ may. let e = arrived.1 may in cc in
      (back, never, some_of old.waiting (λ none. let e = waits.1 (never, none) in cc), err)

  pub journey_answered : (node : Node D) (journey : Journey D) (old new : SegView D) (r r' : Result Bool (Journey D)) → old.segment ≡ journey.token.segment → IsSome old.image → r ≡ r'
      → (r ≡ Ok true) ↔ MayArrive old journey → (r ≡ Ok false) ↔ ((MayArrive old journey → ⊥) × (old.waiting ≡ None)) → (r ≡ Ok true → new ≡ with_token journey old)
      → (r ≡ Ok false → new ≡ record old { waiting = Some journey }) → IfErr r (λ given. given ≡ journey) → OnErr r (new ≡ old) → AnswersJourney node journey (shown r')
  journey_answered node journey old new r r' of_segment here is arrived waits arrives kept back err =
      inr (old, new, of_segment, here, subst (λ (x : Result Bool (Journey D)). AnswersToken journey old (shown x) new) is (token_answered journey old new r arrived waits arrives kept back err))

  -- no lock was got
  pub no_side : (node : Node D) (r : Spelled) → RefusesRecord node r NoMemory
  no_side node r = ([], [], All-nil (IsHeldOf node), record { long = refl; each = λ k x y x_at y_at. absurd cc })

  pub record_unheld : (node : Node D) (r : Spelled) (fault : NodeFault) → IsUnheld fault → ((s : ℕ) → fault ≡ NotHere s → IsFirstOutside node (locked_in r) s) → RefusesRecord node r fault
  record_unheld node r (NotHere segment) is first = first segment refl
  record_unheld node r NoMemory is first = no_side node r
  record_unheld node r _ is first = absurd is

-- A token that comes to a node's desk, or goes back.
use Rattle.std.proofs.Common.{◌≡◌, ℕ, suc, ◌<◌, ◌≤◌, ◌-◌, List, Some, None, refl, sym, ap, subst, ◌∙◌, inl, inr, arith}
use Rattle.std.specs.Prelude.{slice_get, ◌↔◌, OnOk, OnErr, Result, Ok, Err}
use Rattle.std.specs.Vec.{with_item}
use Rattle.std.proofs.lemmas.Bool.{cases_lt}
use Rattle.std.proofs.lemmas.Option.{same_Some as same_some}
use Rattle.lc_record.specs.Content.{segment_of}
use Rattle.lc_model.specs.History.{value}
use Rattle.lc_model.specs.Machine.{placed}
use Rattle.lc_model.specs.State.{At, Setting, State}
use Rattle.lc_model.proofs.Rows.{arrive-done, arrive-behind}
use Rattle.lc_token.specs.Standing.{Standing}
use Rattle.lc_token.specs.declared.fault.TokenFault.{TokenFault}
use Rattle.lc_token.specs.declared.fault.TokenFault.TheVariants.{Behind}
use Rattle.lc_token.specs.declared.token.Token.{Token}
use Rattle.lc_desk.specs.Here.{number_in, number_at}
use Rattle.lc_desk.specs.Seats.{AllRun}
use Rattle.lc_desk.specs.Desk.{FitsDesk}
use Rattle.lc_desk.specs.Leaves.{with_token}
use Rattle.lc_desk.specs.Arrives.{Waits, Arrives}
use Rattle.lc_desk.specs.declared.desk.Desk.{Desk}
use Rattle.lc_desk.specs.declared.here.Here.{Here}
use Rattle.lc_desk.specs.Seat.{Seat}
use Rattle.lc_desk.specs.declared.segment_copy.SegmentCopy.{SegmentCopy}
use Rattle.lc_desk.proofs.Left.{as_before, runs_stay}
use Rattle.lc_desk.proofs.Moved.{runs_moved, desk_moved, away-free}

abbrev pub Answer : Type 0
Answer = Result (Unit {0}) (Token × TokenFault)

-- the answers of a token's place
pub record ArriveAnswers (standing next : Standing) (applied : ℕ) (token : Token) (result : Answer) : Type 0 where
  pub behind : (result ≡ Err (token, Behind applied token.seq)) ↔ (applied < token.seq)
  pub done : (result ≡ Ok tt) ↔ (token.seq ≤ applied)
  pub placed_is : OnOk result (next ≡ record standing { token = Some token })
  pub err : OnErr result (next ≡ standing)

pub same_came : (standing next : Standing) (token : Token) (result : Answer) → OnOk result (next ≡ record standing { token = Some token }) → OnErr result (next ≡ standing) → next.segment ≡ standing.segment
same_came standing next token (Ok done) came err = ap (λ (p : Standing). p.segment) came
same_came standing next token (Err fault) came err = ap (λ (p : Standing). p.segment) err

-- no transaction has a segment whose token is elsewhere
pub runs_came : (here : Here) (k : ℕ) (slot : SegmentCopy) (seats : List Seat) (next : Standing) (applied : ℕ) (token : Token) (result : Answer)
    → slice_get here.slots.items k ≡ Some slot → slot.token.token ≡ None → ArriveAnswers slot.token next applied token result → AllRun here seats
    → AllRun (record here { slots = with_item here.slots k (record slot { token = next }) }) seats
runs_came here k slot seats next applied token (Ok done) at empty a runs =
    subst (λ (p : Standing). AllRun (record here { slots = with_item here.slots k (record slot { token = p }) }) seats) (sym a.placed_is)
    (runs_moved here k slot at (Some token) seats runs (λ j tx on held. away-free here (suc k) j tx (ap number_at at ∙ ap number_in empty) on held))
runs_came here k slot seats next applied token (Err fault) at empty a runs = runs_stay here k slot seats next at a.err runs

module _ (old new : Desk) (token : Token) (first : 1 ≤ token.segment) (slot : SegmentCopy) (at : slice_get old.here.slots.items (token.segment - 1) ≡ Some slot) (empty : slot.token.token ≡ None)
    (next : Standing) (result : Answer) (a : ArriveAnswers slot.token next slot.parts.applied token result)
    (here_is : new.here ≡ record old.here { slots = with_item old.here.slots (token.segment - 1) (record slot { token = next }) }) (seats_is : new.seats ≡ old.seats) where
  abbrev k : ℕ
  k = token.segment - 1

  is : token.segment ≡ suc k
  is = omega (arith, first)

  moved : (m : Setting) (node : ℕ) (s : State) → FitsDesk m node old.here old.seats.items s → Waits m token slot s → token.seq ≤ slot.parts.applied
      → FitsDesk m node (record old.here { slots = with_item old.here.slots k (with_token slot (Some token)) }) old.seats.items (placed s token.segment (At node))
  moved m node s h waits reached =
      subst (λ (n : ℕ). FitsDesk m node (record old.here { slots = with_item old.here.slots k (with_token slot (Some token)) }) old.seats.items (placed s n (At node))) (sym is)
      (desk_moved old.here k slot at (Some token) old.seats.items old.runs
      (λ j tx on held. away-free old.here (suc k) j tx (ap number_at at ∙ ap number_in empty) on held)
      m node s h (At node)
      (λ some. record {
        placed_here = refl;
        shown = subst (λ (n : ℕ). slot.image.bytes.items ≡ segment_of n (value m.start s.earlier s.history)) is (waits.shown reached);
        unheld = waits.unheld;
        size = waits.size;
      })
      (λ none. absurd cc))

  came : result ≡ Ok tt → token.seq ≤ slot.parts.applied → Arrives token slot old (Ok tt) new
  came same reached =
      let gone = subst (λ (r : Answer). OnOk r (next ≡ record slot.token { token = Some token })) same a.placed_is in
      let there : new.here ≡ record old.here { slots = with_item old.here.slots k (with_token slot (Some token)) }
      = here_is ∙ ap (λ (p : Standing). record old.here { slots = with_item old.here.slots k (record slot { token = p }) }) gone in (
        reached,
        record { at = at; here = there; seats = seats_is },
        λ m node s h waits. (arrive-done m s node token.segment waits.travels, rw (there, seats_is) (moved m node s h waits reached)),
      )

  answered : Arrives token slot old result new
  answered = elim (cases_lt slot.parts.applied token.seq) [
    | inl behind ↦
        let same = a.behind.1 behind in
        subst (λ (r : Answer). Arrives token slot old r new) (sym same) (
          behind,
          refl,
          as_before old new k slot at next here_is seats_is (subst (λ (r : Answer). OnErr r (next ≡ slot.token)) same a.err),
          λ m node s travels. arrive-behind m s node token.segment slot.parts.applied token.seq travels,
        )
    | inr reached ↦ (let same = a.done.1 reached in subst (λ (r : Answer). Arrives token slot old r new) (sym same) (came same reached))
  ]

  pub arrives : (other : SegmentCopy) → slice_get old.here.slots.items (token.segment - 1) ≡ Some other → Arrives token other old result new
  arrives other got = subst (λ (x : SegmentCopy). Arrives token x old result new) (same_some slot other (sym at ∙ got)) answered

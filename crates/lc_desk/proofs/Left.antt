-- A token that leaves a node's desk, or stays.
use Rattle.std.proofs.Common.{◌≡◌, ℕ, suc, ◌<◌, ◌≤◌, ◌-◌, Bool, true, false, not, List, map, Option, Some, None, refl, sym, ap, subst, ◌∙◌, inl, inr, arith, true≢false}
use Rattle.std.specs.Prelude.{slice_get, slice_set, ◌↔◌, IsSome, is_some, if◌then◌else◌, IsOk, IfOk, OnOk, OnErr, Result, Ok, Err}
use Rattle.std.specs.Option.{ForSome}
use Rattle.std.specs.Vec.{with_item}
use Rattle.std.proofs.lemmas.Bool.{eq-eqb, cases_lt, lt-ltb, le-ltb}
use Rattle.std.proofs.lemmas.Option.{same_Some as same_some}
use Rattle.lc_model.specs.Machine.{Row, placed}
use Rattle.lc_model.specs.History.{reserved}
use Rattle.lc_model.specs.Refusals.{is_at, leave_refusal}
use Rattle.lc_model.specs.Sound.{Sound}
use Rattle.lc_model.specs.State.{Travelling, Setting, State}
use Rattle.lc_model.specs.declared.event.Event.TheVariants.{Leave}
use Rattle.lc_model.specs.declared.refusal.Refusal.{Refusal}
use Rattle.lc_model.specs.declared.refusal.Refusal.TheVariants.{NotHere as AwayFrom, Held as KeptBy, Writing as IsWriting, Unflushed as IsUnflushed}
use Rattle.lc_model.specs.declared.reply.Reply.TheVariants.{Ok as Accepted, Refused}
use Rattle.lc_model.proofs.Keeps.{acked-reserved}
use Rattle.lc_model.proofs.Rows.{leave-refused, leave-not_here, leave-held, leave-free, leave-done, leave-unflushed, leave-writing}
use Rattle.lc_token.specs.Standing.{Standing}
use Rattle.lc_token.specs.declared.fault.TokenFault.{TokenFault}
use Rattle.lc_token.specs.declared.fault.TokenFault.TheVariants.{NotHere, Held, Writing, Unflushed}
use Rattle.lc_token.specs.declared.token.Token.{Token}
use Rattle.lc_tx.specs.Holders.{is_free}
use Rattle.lc_tx.specs.Images.{IsHere, IsSame, holders_of}
use Rattle.lc_tx.specs.declared.holders.Holders.{Holders}
use Rattle.lc_tx.specs.declared.image.Image.{Image as Picture}
use Rattle.lc_desk.specs.Here.{the_images, number_in, number_at, number_of, image_at, image_of, beside}
use Rattle.lc_desk.specs.Seats.{AllRun}
use Rattle.lc_desk.specs.Desk.{FitsDesk}
use Rattle.lc_settled.specs.Numbers.{Numbers}
use Rattle.lc_settled.specs.Settled.{is_writing, leave_answer, open_answer}
use Rattle.lc_desk.specs.Leaves.{with_token, IsAsBefore, Leaves, MayLeave}
use Rattle.lc_desk.specs.declared.desk.Desk.{Desk}
use Rattle.lc_desk.specs.declared.here.Here.{Here}
use Rattle.lc_desk.specs.Seat.{Seat}
use Rattle.lc_desk.specs.declared.segment_copy.SegmentCopy.{SegmentCopy}
use Rattle.lc_desk.proofs.Dropping.{runs_same, desk_seen}
use Rattle.lc_desk.proofs.Holding.{not_free-held, free-unheld}
use Rattle.lc_desk.proofs.Moved.{free-is, not-free, runs_moved, desk_moved, unheld-free}
use Rattle.lc_desk.proofs.Seating.{set_same}

-- the answers of a token's place
pub record LeaveAnswers (standing next : Standing) (holds writes : Bool) (count stable : ℕ) (result : Result Token TokenFault) : Type 0 where
  pub not_here : (result ≡ Err (NotHere standing.segment)) ↔ (standing.token ≡ None)
  pub held : (result ≡ Err Held) ↔ (IsSome standing.token × (holds ≡ true))
  pub writing : (result ≡ Err Writing) ↔ (IsSome standing.token × (holds ≡ false) × (writes ≡ true))
  pub unflushed : (result ≡ Err Unflushed) ↔ (IsSome standing.token × (holds ≡ false) × (writes ≡ false) × (stable < count))
  pub done : IsOk result ↔ (IsSome standing.token × (holds ≡ false) × (writes ≡ false) × (count ≤ stable))
  pub token : IfOk result (λ token. standing.token ≡ Some token)
  pub empty : OnOk result (next ≡ record standing { token = None })
  pub err : OnErr result (next ≡ standing)

pub same_items : (old new : Here) → new.slots.items ≡ old.slots.items → new.spare ≡ old.spare → IsSame the_images old new
same_items old new slots spare = record {
  numbers = λ segment. ap (λ (l : List SegmentCopy). number_of l segment) slots;
  others = λ segment here other. ap (λ (l : List SegmentCopy). image_of new.spare l segment) slots ∙ ap (λ (p : Picture). image_of p old.slots.items segment) spare;
  beside = (spare, ap (map beside) slots);
}

same_slots : (here : Here) (k : ℕ) (slot : SegmentCopy) → slice_get here.slots.items k ≡ Some slot → (next : Standing) → next ≡ slot.token
    → slice_set here.slots.items k (record slot { token = next }) ≡ here.slots.items
same_slots here k slot at next same = ap (λ (p : Standing). slice_set here.slots.items k (record slot { token = p })) same ∙ set_same here.slots.items k slot at

-- where the slot's token is as it was, all is
pub as_before : (old new : Desk) (k : ℕ) (slot : SegmentCopy) → slice_get old.here.slots.items k ≡ Some slot → (next : Standing)
    → new.here ≡ record old.here { slots = with_item old.here.slots k (record slot { token = next }) } → new.seats ≡ old.seats → next ≡ slot.token → IsAsBefore old new
as_before old new k slot at next here_is seats_is same =
    let slots : new.here.slots.items ≡ old.here.slots.items = ap (λ (h : Here). h.slots.items) here_is ∙ same_slots old.here k slot at next same in
    let spare : new.here.spare ≡ old.here.spare = ap (λ (h : Here). h.spare) here_is in
    record {
      slots = slots;
      spare = spare;
      seats = seats_is;
      fits = λ m node s h. rw seats_is (desk_seen m node old.here new.here old.seats.items s old.runs (same_items old.here new.here slots spare) h);
    }

pub runs_stay : (here : Here) (k : ℕ) (slot : SegmentCopy) (seats : List Seat) (next : Standing) → slice_get here.slots.items k ≡ Some slot → next ≡ slot.token → AllRun here seats
    → AllRun (record here { slots = with_item here.slots k (record slot { token = next }) }) seats
runs_stay here k slot seats next at same runs =
    runs_same here (record here { slots = with_item here.slots k (record slot { token = next }) }) seats runs
    (same_items here (record here { slots = with_item here.slots k (record slot { token = next }) }) (same_slots here k slot at next same) refl)

not_held : (b c : Bool) → b ≡ not c → b ≡ false → c ≡ true
not_held b true is unheld_is = refl
not_held b false is unheld_is = absurd (true≢false (sym is ∙ unheld_is))

is_held_by : (b c : Bool) → b ≡ not c → b ≡ true → c ≡ false
is_held_by b true is held_is = absurd (true≢false (sym held_is ∙ is))
is_held_by b false is held_is = refl

image_held : (here : Here) (k : ℕ) (slot : SegmentCopy) → slice_get here.slots.items k ≡ Some slot → holders_of the_images here (suc k) ≡ slot.image.holders
image_held here k slot at = ap (λ o. (image_at here.spare o).holders) at

pub same_left : (standing next : Standing) (result : Result Token TokenFault) → OnOk result (next ≡ record standing { token = None }) → OnErr result (next ≡ standing) → next.segment ≡ standing.segment
same_left standing next (Ok token) empty err = ap (λ (p : Standing). p.segment) empty
same_left standing next (Err fault) empty err = ap (λ (p : Standing). p.segment) err

-- when it leaves
pub may_leave : (slot : SegmentCopy) (next : Standing) (holds writes : Bool) (count stable : ℕ) (result : Result Token TokenFault)
    → holds ≡ not (is_free slot.image.holders) → LeaveAnswers slot.token next holds writes count stable result → IsOk result ↔ MayLeave writes count stable slot
may_leave slot next holds writes count stable result holds_is a = (
  λ ok. (let done = a.done.0 ok in (done.0, free-is slot.image.holders (not_held holds (is_free slot.image.holders) holds_is done.1), done.2, done.3)),
  λ may. a.done.1 (may.0, holds_is ∙ ap (λ (o : Holders). not (is_free o)) may.1, may.2, may.3),
)

-- where it stays all is as it was, and where it leaves no transaction had the segment
pub runs_left : (here : Here) (k : ℕ) (slot : SegmentCopy) (seats : List Seat) (next : Standing) (holds writes : Bool) (count stable : ℕ) (result : Result Token TokenFault)
    → slice_get here.slots.items k ≡ Some slot → holds ≡ not (is_free slot.image.holders) → LeaveAnswers slot.token next holds writes count stable result → AllRun here seats
    → AllRun (record here { slots = with_item here.slots k (record slot { token = next }) }) seats
runs_left here k slot seats next holds writes count stable (Ok token) at holds_is a runs =
    let done = a.done.0 refl in
    let free = free-is slot.image.holders (not_held holds (is_free slot.image.holders) holds_is done.1) in
    subst (λ (p : Standing). AllRun (record here { slots = with_item here.slots k (record slot { token = p }) }) seats) (sym a.empty)
    (runs_moved here k slot at None seats runs (λ j tx on held. unheld-free here (suc k) j tx (image_held here k slot at ∙ free) on held))
runs_left here k slot seats next holds writes count stable (Err fault) at holds_is a runs = runs_stay here k slot seats next at a.err runs

module _ (old new : Desk) (segment : ℕ) (first : 1 ≤ segment) (slot : SegmentCopy) (at : slice_get old.here.slots.items (segment - 1) ≡ Some slot) (its : slot.token.segment ≡ segment)
    (next : Standing) (holds writes : Bool) (holds_is : holds ≡ not (is_free slot.image.holders)) (count stable : ℕ) (result : Result Token TokenFault)
    (a : LeaveAnswers slot.token next holds writes count stable result)
    (here_is : new.here ≡ record old.here { slots = with_item old.here.slots (segment - 1) (record slot { token = next }) }) (seats_is : new.seats ≡ old.seats) where
  is : segment ≡ suc (segment - 1)
  is = omega (arith, first)

  number_is : the_images.number_of old.here segment ≡ number_in slot.token.token
  number_is = ap (λ (n : ℕ). number_of old.here.slots.items n) is ∙ ap number_at at

  holders_are : holders_of the_images old.here segment ≡ slot.image.holders
  holders_are = ap (λ (n : ℕ). holders_of the_images old.here n) is ∙ image_held old.here (segment - 1) slot at

  stays : (fault : TokenFault) → result ≡ Err fault → IsAsBefore old new
  stays fault same = as_before old new (segment - 1) slot at next here_is seats_is (subst (λ (r : Result Token TokenFault). OnErr r (next ≡ slot.token)) same a.err)

  here_now : (token : Token) → slot.token.token ≡ Some token → IsHere the_images old.here segment
  here_now token stands = subst (λ (o : Option ℕ). IsSome o) (sym (number_is ∙ ap number_in stands)) refl

  some_now : (token : Token) → slot.token.token ≡ Some token → IsSome slot.token.token
  some_now token stands = subst (λ (o : Option Token). IsSome o) (sym stands) refl

  module _ (m : Setting) (node : ℕ) (s : State) (sound : Sound m.geometry s) (h : FitsDesk m node old.here old.seats.items s) where
    at_node : (token : Token) → slot.token.token ≡ Some token → is_at node (s.place segment) ≡ true
    at_node token stands = ap (is_at node) (h.places segment (here_now token stands)) ∙ eq-eqb node node refl

    unheld : (token : Token) → slot.token.token ≡ Some token → holds ≡ false → leave_refusal s node segment ≡ None
    unheld token stands unheld_is = leave-free s node segment (at_node token stands)
        (free-unheld m node old.here old.seats.items s h sound old.runs segment (here_now token stands)
        (holders_are ∙ free-is slot.image.holders (not_held holds (is_free slot.image.holders) holds_is unheld_is)))

    away : segment ≤ m.geometry.segments → slot.token.token ≡ None → Row m s (Leave node segment) (Refused (AwayFrom slot.token.segment)) s
    away last none = subst (λ (n : ℕ). Row m s (Leave node segment) (Refused (AwayFrom n)) s) (sym its)
        (leave-refused m s node segment (AwayFrom segment) (leave-not_here s node segment (h.elsewhere segment first last (number_is ∙ ap number_in none))))

    kept_refusal : (token : Token) → slot.token.token ≡ Some token → holds ≡ true → leave_refusal s node segment ≡ Some KeptBy
    kept_refusal token stands held_is = leave-held s node segment (at_node token stands)
        (not_free-held m node old.here old.seats.items s h segment (here_now token stands)
        (λ free. not-free slot.image.holders (is_held_by holds (is_free slot.image.holders) holds_is held_is) (sym holders_are ∙ free)))

    kept : (token : Token) → slot.token.token ≡ Some token → holds ≡ true → Row m s (Leave node segment) (Refused KeptBy) s
    kept token stands held_is = leave-refused m s node segment KeptBy (kept_refusal token stands held_is)

    moved : (token : Token) → slot.token.token ≡ Some token → holds ≡ false → next ≡ record slot.token { token = None } → FitsDesk m node new.here new.seats.items (placed s segment Travelling)
    moved token stands unheld_is gone =
        let free = free-is slot.image.holders (not_held holds (is_free slot.image.holders) holds_is unheld_is) in
        let there : new.here ≡ record old.here { slots = with_item old.here.slots (segment - 1) (with_token slot None) }
        = here_is ∙ ap (λ (p : Standing). record old.here { slots = with_item old.here.slots (segment - 1) (record slot { token = p }) }) gone in
        rw (there, seats_is) (subst (λ (n : ℕ). FitsDesk m node (record old.here { slots = with_item old.here.slots (segment - 1) (with_token slot None) }) old.seats.items (placed s n Travelling)) (sym is)
        (desk_moved old.here (segment - 1) slot at None old.seats.items old.runs
        (λ j tx on held. unheld-free old.here (suc (segment - 1)) j tx (image_held old.here (segment - 1) slot at ∙ free) on held)
        m node s h Travelling (λ some. absurd cc) (λ none. refl)))

  accepted : (m : Setting) (node : ℕ) (s : State) (x : Numbers) → is_writing m x segment ≡ false → s.ack node ≡ reserved node s.history → leave_answer m s x node segment ≡ Accepted
  accepted m node s x idle all = rw (idle, le-ltb (s.ack node) (reserved node s.history) (omega (arith, all))) refl

  -- where the machine refuses at once nothing is open
  none_open : (m : Setting) (node : ℕ) (s : State) (x : Numbers) (refusal : Refusal) → leave_refusal s node segment ≡ Some refusal
      → ForSome (open_answer m s x (Leave node segment)) (λ answer. Refused refusal ≡ answer)
  none_open m node s x refusal is answer other = (let none : None ≡ Some answer = ap (λ o. if is_some o then None else Some (leave_answer m s x node segment)) (sym is) ∙ other in absurd cc)

  one_open : (m : Setting) (node : ℕ) (s : State) (x : Numbers) (refusal : Refusal) → leave_refusal s node segment ≡ None → leave_answer m s x node segment ≡ Refused refusal
      → ForSome (open_answer m s x (Leave node segment)) (λ answer. Refused refusal ≡ answer)
  one_open m node s x refusal free is answer other =
      same_some _ _ (ap Some (sym is) ∙ sym (ap (λ o. if is_some o then None else Some (leave_answer m s x node segment)) free) ∙ other)

  left : (r : Result Token TokenFault) → result ≡ r → IsOk r → Leaves segment writes count stable old r new
  left (Err fault) same ok = absurd cc
  left (Ok token) same ok =
      let b = subst (λ (r : Result Token TokenFault). LeaveAnswers slot.token next holds writes count stable r) same a in
      let done = b.done.0 refl in (
        (
          slot,
          b.token,
          record {
            at = at;
            here = here_is ∙ ap (λ (p : Standing). record old.here { slots = with_item old.here.slots (segment - 1) (record slot { token = p }) }) b.empty;
            seats = seats_is;
          },
        ),
        λ m node s sound last h counts stables. (
          leave-done m s node segment (unheld m node s sound h token b.token done.1) (let most = acked-reserved m.geometry s node sound in let least = done.3 in omega (arith, most, least, counts, stables)),
          moved m node s sound h token b.token done.1 b.empty,
          λ x told. accepted m node s x (sym told ∙ done.2) (let most = acked-reserved m.geometry s node sound in let least = done.3 in omega (arith, most, least, counts, stables)),
        ),
      )

  decided : (o : Option Token) (b w : Bool) → slot.token.token ≡ o → holds ≡ b → writes ≡ w → Leaves segment writes count stable old result new
  decided None b w none held writing =
      let same = a.not_here.1 none in
      subst (λ (r : Result Token TokenFault). Leaves segment writes count stable old r new) (sym same) (
        stays (NotHere slot.token.segment) same,
        λ m node s sound last h counts stables. (
          away m node s sound h last none,
          λ x told. none_open m node s x (AwayFrom slot.token.segment) (rw its (leave-not_here s node segment (h.elsewhere segment first last (number_is ∙ ap number_in none)))),
        ),
      )
  decided (Some token) true w stands held writing =
      let same = a.held.1 (some_now token stands, held) in
      subst (λ (r : Result Token TokenFault). Leaves segment writes count stable old r new) (sym same) (
        stays Held same,
        λ m node s sound last h counts stables. (
          kept m node s sound h token stands held,
          λ x told. none_open m node s x KeptBy (kept_refusal m node s sound h token stands held),
        ),
      )
  decided (Some token) false true stands held writing =
      let same = a.writing.1 (some_now token stands, held, writing) in
      subst (λ (r : Result Token TokenFault). Leaves segment writes count stable old r new) (sym same) (
        stays Writing same,
        λ m node s sound last h counts stables. (
          leave-writing m s node segment (unheld m node s sound h token stands held),
          λ x told. one_open m node s x IsWriting (unheld m node s sound h token stands held) (rw (sym told, writing) refl),
        ),
      )
  decided (Some token) false false stands held writing = elim (cases_lt stable count) [
    | inl below ↦
        let same = a.unflushed.1 (some_now token stands, held, writing, below) in
        subst (λ (r : Result Token TokenFault). Leaves segment writes count stable old r new) (sym same) (
          stays Unflushed same,
          λ m node s sound last h counts stables. (
            leave-unflushed m s node segment (unheld m node s sound h token stands held) (omega (arith, below, counts, stables)),
            λ x told. one_open m node s x IsUnflushed (unheld m node s sound h token stands held)
                (rw (sym told, writing, lt-ltb (s.ack node) (reserved node s.history) (omega (arith, below, counts, stables))) refl),
          ),
        )
    | inr enough ↦ subst (λ (r : Result Token TokenFault). Leaves segment writes count stable old r new) refl (left result refl (a.done.1 (some_now token stands, held, writing, enough)))
  ]

  pub leaves : Leaves segment writes count stable old result new
  leaves = decided slot.token.token holds writes refl refl refl

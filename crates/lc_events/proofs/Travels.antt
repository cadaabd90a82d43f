-- The tokens that are on their way.
use Rattle.std.proofs.Common.{◌≡◌, ◌⊎◌, ℕ, zero, suc, ◌+◌, ◌-◌, List, [], ◌∷◌, get_or, true, ◌≤◌, leb-true, Option, Some, None, refl, sym, ap, subst, ◌∙◌, inl, inr, arith}
use Rattle.std.specs.Prelude.{slice_get, slice_set, nat_le, ◌&&◌}
use Rattle.std.specs.Option.{ForSome}
use Rattle.std.proofs.lemmas.Bool.{cases_eq, and_parts as and-both}
use Rattle.std.proofs.lemmas.List.{length-set}
use Rattle.std.proofs.lemmas.Option.{slice_get_read, same_Some as same_some}
use Rattle.lc_disk.specs.declared.area.Area.{Ghosts}
use Rattle.lc_record.specs.declared.geometry.Geometry.{Geometry}
use Rattle.lc_token.specs.declared.token.Token.{Token}
use Rattle.lc_model.specs.State.{Place, At, Travelling, Setting, State}
use Rattle.lc_model.specs.declared.event.Event.{Event}
use Rattle.lc_model.specs.declared.event.Event.TheVariants.{Arrive}
use Rattle.lc_model.specs.declared.refusal.Refusal.TheVariants.{OutOfTurn}
use Rattle.lc_model.specs.declared.reply.Reply.{Reply}
use Rattle.lc_model.specs.declared.reply.Reply.TheVariants.{Refused}
use Rattle.lc_model.specs.Refusals.{are_known, by_node, is_node, is_segment}
use Rattle.lc_model.proofs.Rows.{arrive-no_turn, node_known}
use Rattle.lc_events.specs.NodeState.{GoesOn, moved_by}
use Rattle.lc_events.specs.Nodes.{AreNamed}
use Rattle.lc_settled.specs.Numbers.{Numbers}
use Rattle.lc_desk.specs.Places.{get_set_other, get_set_same}
use Rattle.lc_events.specs.Running.{FitsAll, FitsTravelling, Onward}
use Rattle.lc_settled.specs.Settled.{arrive_answer}
use Rattle.lc_desk.specs.Slots.{FitsToken}
use Rattle.lc_events.specs.declared.node_state.NodeState.{NodeState}
use Rattle.lc_events.specs.declared.running.Running.{Running}
use Rattle.lc_events.proofs.Going.{settled_by}

-- what is at a place after a write to one
at_either : (tokens : List (Option Token)) (k j : ℕ) (was late got : Option Token) → slice_get tokens k ≡ Some was → slice_get (slice_set tokens k late) j ≡ Some got
    → ((j ≡ k) × (late ≡ got)) ⊎ ((j ≡ k → ⊥) × (slice_get tokens j ≡ Some got))
at_either tokens k j was late got at there = elim (cases_eq j k) [
  | inl same ↦ inl (same, same_some late got (sym (get_set_same tokens k was late at) ∙ sym (ap (slice_get (slice_set tokens k late)) same) ∙ there))
  | inr differ ↦ inr (differ, sym (get_set_other tokens k j late differ) ∙ there)
]

pub named_set : (tokens : List (Option Token)) (k : ℕ) (was late : Option Token) → slice_get tokens k ≡ Some was → ForSome late (λ token. token.segment ≡ k + 1) → AreNamed tokens → AreNamed (slice_set tokens k late)
named_set tokens k was late at its all j token there = elim (at_either tokens k j was late (Some token) at there) [
  | inl here ↦ its token here.1 ∙ ap (λ i. i + 1) (sym here.0)
  | inr other ↦ all j token other.1
]

-- a token put back where it was taken
pub set_back : {A : Type 0} (xs : List A) (k : ℕ) (was late again : A) → slice_get xs k ≡ Some was → again ≡ was → slice_set (slice_set xs k late) k again ≡ xs
set_back [] k was late again at same = absurd cc
set_back (x ∷ xs) zero was late again at same = ap (λ y. y ∷ xs) (same ∙ sym (same_some x was at))
set_back (x ∷ xs) (suc k) was late again at same = ap (λ ys. x ∷ ys) (set_back xs k was late again at same)

module _ {D : Type 0} (a : Ghosts D) (m : Setting) (n : ℕ) (event : Event) (s : State) (x : Numbers) (reply : Reply) (geometry : Geometry) (nodes : List (NodeState D a)) (travelling : List (Option Token))
    (h : FitsAll a m geometry nodes travelling s x) (new : NodeState D a) (goes : GoesOn a m n event s x reply new) where
  -- a token that leaves comes among them, and one that arrives goes from them
  pub travel_moved : (k : ℕ) (was late : Option Token) → moved_by event reply ≡ k + 1 → slice_get travelling k ≡ Some was
      → ((token : Token) → late ≡ Some token → (goes.after.place (k + 1) ≡ Travelling) × FitsToken m (k + 1) token goes.after goes.next)
      → (late ≡ None → goes.after.place (k + 1) ≡ Travelling → ⊥) → FitsTravelling m (slice_set travelling k late) goes.after goes.next
  travel_moved k was late moved at some none = record {
    count = length-set travelling k late ∙ h.on_the_way.count;
    some = λ j token there. elim (at_either travelling k j was late (Some token) at there) [
      | inl here ↦ subst (λ i. (goes.after.place (i + 1) ≡ Travelling) × FitsToken m (i + 1) token goes.after goes.next) (sym here.0) (some token here.1)
      | inr other ↦
          let its = h.on_the_way.some j token other.1 in
          let apart : j + 1 ≡ moved_by event reply → ⊥ = λ e. other.0 (omega (arith, e, moved)) in
          (goes.places (j + 1) apart ∙ its.0, goes.aside.slots.tokens (j + 1) token (travels_not j its.0) its.1)
    ];
    none = λ j there travels. elim (at_either travelling k j was late None at there) [
      | inl here ↦ none here.1 (subst (λ i. goes.after.place (i + 1) ≡ Travelling) here.0 travels)
      | inr other ↦
          let apart : j + 1 ≡ moved_by event reply → ⊥ = λ e. other.0 (omega (arith, e, moved)) in
          h.on_the_way.none j other.1 (sym (goes.places (j + 1) apart) ∙ travels)
    ];
  }
    where
      travels_not : (j : ℕ) → s.place (j + 1) ≡ Travelling → s.place (j + 1) ≡ At n → ⊥
      travels_not j travels there = (let both : Travelling ≡ At n = sym travels ∙ there in cc)

-- where no token is on its way, none arrives
pub none_arrives : {D : Type 0} (a : Ghosts D) (m : Setting) (n segment : ℕ) (s : State) (x : Numbers) (geometry : Geometry) (nodes : List (NodeState D a)) (travelling : List (Option Token))
    → FitsAll a m geometry nodes travelling s x → (s.place segment ≡ Travelling → ⊥) → Onward a m (Arrive n segment) s x (Refused OutOfTurn) geometry nodes travelling
none_arrives a m n segment s x geometry nodes travelling h stays = by_place (s.place segment) refl
  where
    by_place : (p : Place) → s.place segment ≡ p → Onward a m (Arrive n segment) s x (Refused OutOfTurn) geometry nodes travelling
    by_place Travelling is = absurd (stays is)
    by_place (At other) is = record {
      after = s;
      next = x;
      row = arrive-no_turn m s n segment other is;
      settled = settled_by m s x (Arrive n segment) (Refused OutOfTurn) (λ e. absurd cc) (λ answer open_is. (let none : None ≡ Some answer = sym (ap (λ p. arrive_answer p s x n segment) is) ∙ open_is in absurd cc));
      turns = refl;
      fits = h;
    }

-- the segment that an event of a node names
pub segment_known : (g : Geometry) (node segment : ℕ) → are_known g (by_node node (segment ∷ []) []) ≡ true → (1 ≤ segment) × (segment ≤ g.segments)
segment_known g node segment h =
    let a = and-both (is_node g node && true && true && (is_segment g segment && true)) true h in
    let b = and-both (is_node g node && true && true) (is_segment g segment && true) a.0 in
    let c = and-both (is_segment g segment) true b.1 in
    let d = and-both (nat_le 1 segment) (nat_le segment g.segments) c.0 in
    (leb-true 1 segment d.0, leb-true segment g.segments d.1)

pub set_it : {A : Type 0} (xs : List A) (k : ℕ) (was again : A) → slice_get xs k ≡ Some was → again ≡ was → slice_set xs k again ≡ xs
set_it [] k was again at same = refl
set_it (x ∷ xs) zero was again at same = ap (λ y. y ∷ xs) (same ∙ sym (same_some x was at))
set_it (x ∷ xs) (suc k) was again at same = ap (λ ys. x ∷ ys) (set_it xs k was again at same)

module _ {D : Type 0} (a : Ghosts D) (w : Running D a) (node segment : ℕ) where
  -- what is read at the place of the segment
  pub record IsPlace (found : Option Token) : Type 0 where
    pub named : (segment - 1) + 1 ≡ segment
    pub was : slice_get w.travelling.items (segment - 1) ≡ Some found

  -- the node and the token that an arrival finds
  pub record Arriving (old : NodeState D a) (found : Option Token) (token : Token) : Type 0 where
    pub place : IsPlace found
    pub open place use *
    pub at : slice_get w.nodes.items node ≡ Some old
    pub stood : found ≡ Some token
    pub its : token.segment ≡ segment
    pub first : 1 ≤ segment
    pub last : segment ≤ w.geometry.segments

  module _ (known : are_known w.geometry (by_node node (segment ∷ []) []) ≡ true) where
    pub place_read : (found : Option Token) → found ≡ get_or w.travelling.items (segment - 1) found → IsPlace found
    place_read found read =
        let its = segment_known w.geometry node segment known in
        record {
          named = omega (arith, its.0);
          was = slice_get_read w.travelling.items w.travelling.len (segment - 1) found w.travelling.ok.0 (omega (arith, its.0, its.1, w.all_places)) read;
        }

    pub arriving : (old : NodeState D a) (found : Option Token) (token : Token) → old ≡ get_or w.nodes.items node old → found ≡ get_or w.travelling.items (segment - 1) found → found ≡ Some token
        → Arriving old found token
    arriving old found token same read stood =
        let place = place_read found read in
        let its = segment_known w.geometry node segment known in
        record {
          place = place;
          at = slice_get_read w.nodes.items w.nodes.len node old w.nodes.ok.0 (omega (arith, w.all_nodes, node_known w.geometry node (segment ∷ []) [] known)) same;
          stood = stood;
          its = w.named (segment - 1) token (place.was ∙ ap (λ o. Some o) stood) ∙ place.named;
          first = its.0;
          last = its.1;
        }

  -- the token travels, and fits
  pub arriving_travels : (m : Setting) (s : State) (x : Numbers) (old : NodeState D a) (found : Option Token) (token : Token) → FitsAll a m w.geometry w.nodes.items w.travelling.items s x → Arriving old found token
      → (s.place token.segment ≡ Travelling) × FitsToken m token.segment token s x
  arriving_travels m s x old found token h it =
      let there = h.on_the_way.some (segment - 1) token (it.was ∙ ap (λ o. Some o) it.stood) in
      (ap s.place (it.its ∙ sym it.named) ∙ there.0, subst (λ (i : ℕ). FitsToken m i token s x) (it.named ∙ sym it.its) there.1)

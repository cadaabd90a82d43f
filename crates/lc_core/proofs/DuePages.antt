-- Which pages are due at a node: the store and the numbers say the same.
use Rattle.std.proofs.Common.{◌≡◌, ℕ, suc, ◌+◌, ◌-◌, ◌<◌, ◌≤◌, ◌==◌, ◌&&◌, ◌||◌, Bool, true, false, nat_lt, List, Option, Some, None, refl, sym, ap, subst, ◌∙◌, arith, inl, inr}
use Rattle.std.specs.Prelude.{slice_get, IsSome, option_map}
use Rattle.std.proofs.lemmas.Option.{slice_get-map, slice_get_cases}
use Rattle.std.proofs.lemmas.Bool.{eq-eqb, eqb-true, lt-ltb, cases_eq}
use Rattle.std.proofs.lemmas.List.{length-map}
use Rattle.lc_disk.specs.declared.area.Area.{Ghosts}
use Rattle.lc_page.specs.PageVector.{entry_at, is_dirty}
use Rattle.lc_record.specs.declared.geometry.Geometry.{Geometry}
use Rattle.lc_token.specs.declared.token.Token.{Token}
use Rattle.lc_model.specs.Refusals.{is_at, is_up}
use Rattle.lc_model.specs.Sound.{IsPlace}
use Rattle.lc_model.specs.State.{Place, At, Travelling, Phase, Setting, State}
use Rattle.lc_desk.specs.Here.{beside, number_at, number_in, the_images}
use Rattle.lc_events.specs.NodeState.{FitsNode}
use Rattle.lc_settled.specs.Numbers.{Numbers, stable}
use Rattle.lc_desk.specs.PageState.{is_begun}
use Rattle.lc_desk.specs.Pages.{FitsPages, IsPageAt}
use Rattle.lc_desk.specs.Truncating.{begun_at, due_of}
use Rattle.lc_core.specs.Truncating.{begun_in, due_at, is_due}
use Rattle.lc_events.specs.Truncating.{due_in}
use Rattle.lc_core.specs.World.{FitsPhase, FitsUp}
use Rattle.lc_events.specs.declared.node_state.NodeState.{NodeState}
use Rattle.lc_desk.specs.declared.page_state.PageState.{PageState}
use Rattle.lc_desk.specs.declared.page_state.PageState.TheVariants.{AtRest, UnderWay, Failed}
use Rattle.lc_desk.specs.declared.pages.Pages.{Pages}
use Rattle.lc_core.specs.declared.world_phase.WorldPhase.{WorldPhase as Stands}
use Rattle.lc_core.specs.declared.world_phase.WorldPhase.TheVariants.{Down, Up, Taken}
use Rattle.lc_desk.specs.declared.segment_copy.SegmentCopy.{SegmentCopy}
use Rattle.lc_core.specs.declared.up.Up.{Up as Rising}
use Rattle.lc_page.specs.Writing.{calls_of}
use Rattle.lc_page.specs.declared.writing.Writing.{Writing}
use Rattle.lc_page.specs.declared.writing.Writing.TheVariants.{AtClosing, AtClosed, AtFilling, AtFilled, AtOpening}
use Rattle.lc_core.specs.Due.{is_due_then, is_unwritten}

-- a place that is known is no node outside
pub not_outside : (g : Geometry) (node : ℕ) (place : Place) → IsPlace g place → g.nodes ≤ node → is_at node place ≡ false
not_outside g node Travelling known out = refl
not_outside g node (At other) known out = elim (cases_eq other node) [
  | inl same ↦ absurd (omega (arith, known, out, same))
  | inr differ ↦ not_equal other node differ
]
  where
    not_equal : (k n : ℕ) → (k ≡ n → ⊥) → (k == n) ≡ false
    not_equal k n differ = elim (k == n) as (λ (b : Bool). (k == n) ≡ b → (k == n) ≡ false) [
      | true ↦ λ is. absurd (differ (eqb-true k n is))
      | false ↦ λ is. is
    ] refl

pub some_calls : (write : Writing) → 1 ≤ calls_of write
some_calls (AtClosing w) = omega arith
some_calls (AtClosed w) = omega arith
some_calls (AtFilling w) = omega arith
some_calls (AtFilled w) = omega arith
some_calls (AtOpening w) = omega arith

module _ {D : Type 0} (a : Ghosts D) where
  -- a write of a page has begun where calls of it are made
  begun_same : (area : D) (segment page : ℕ) (state : PageState) (x : Numbers) → IsPageAt a area segment page state x → is_begun state ≡ nat_lt 0 (x.calls segment page)
  begun_same area segment page AtRest x at = ap (nat_lt 0) (sym at.no_calls)
  begun_same area segment page (UnderWay write) x at = sym (lt-ltb 0 (x.calls segment page) (omega (arith, at.begun.calls_are, some_calls write)))
  begun_same area segment page Failed x at = sym (lt-ltb 0 (x.calls segment page) (omega (arith, at.begun.calls_are, at.some)))

  begun_of : (m : Setting) (segments : List (Pages D a)) (x : Numbers) (k page : ℕ) → FitsPages a m segments x → k < m.geometry.segments → page < m.geometry.pages
      → begun_in page (slice_get segments k) ≡ nat_lt 0 (x.calls (k + 1) page)
  begun_of m segments x k page fits inside within = elim (slice_get_cases segments k).1 [
    | inl some ↦
        let pages = some.0 in
        let area = fits.each k pages some.2 in
        ap (begun_in page) some.2 ∙ (elim (slice_get_cases pages.writes.items page).1 [
          | inl state ↦ ap begun_at state.2 ∙ begun_same pages.area (k + 1) page state.0 x (area.each page state.0 state.2)
          | inr past ↦ absurd (omega (arith, past.0, area.count, within))
        ])
    | inr past ↦ absurd (omega (arith, past.0, fits.all_segments, inside))
  ]

  module _ (m : Setting) (s : State) (x : Numbers) (up : Rising D a) (fits : FitsUp a m up s x) (node k page : ℕ) (inside : k < m.geometry.segments) (within : page < m.geometry.pages) where
    abbrev begun : Bool
    begun = begun_in page (slice_get up.segments.items k)

    abbrev Same : Bool → Type 0
    Same b = b ≡ (is_at node (s.place (k + 1)) && is_unwritten x (k + 1) page)

    next : k + 1 ≡ suc k
    next = omega arith

    back : (k + 1) - 1 ≡ k
    back = omega arith

    token_same : (its : NodeState D a) (slot : SegmentCopy) (token : Token) → FitsNode a m node its s x → slice_get its.desk.here.slots.items k ≡ Some slot → slot.token.token ≡ Some token
        → Same (due_of page begun (Some token))
    token_same its slot token one at stands =
        let number_there : the_images.number_of its.desk.here (k + 1) ≡ number_in slot.token.token = ap (the_images.number_of its.desk.here) next ∙ ap number_at at in
        let some : IsSome (the_images.number_of its.desk.here (k + 1)) = subst (λ (o : Option ℕ). IsSome o) (sym (number_there ∙ ap number_in stands)) refl in
        let here : is_at node (s.place (k + 1)) ≡ true = ap (is_at node) (one.desk.places (k + 1) some) ∙ eq-eqb node node refl in
        let token_fits = ((one.slots.each k (beside slot) (slice_get-map beside its.desk.here.slots.items k ∙ ap (option_map beside) at)).token token stands).0 in
        let dirty : is_dirty (entry_at token.pages page) ≡ nat_lt (stable x (k + 1) page) (x.touched (k + 1) page) =
        ap (λ (n : ℕ). nat_lt n (entry_at token.pages page).touched) (token_fits.stable_is page within) ∙ ap (λ (n : ℕ). nat_lt (stable x (k + 1) page) n) (token_fits.touched page within) in
        ap (λ (b : Bool). b || begun) dirty
        ∙ ap (λ (b : Bool). nat_lt (stable x (k + 1) page) (x.touched (k + 1) page) || b) (begun_of m up.segments.items x k page fits.pages inside within)
        ∙ ap (λ (b : Bool). b && is_unwritten x (k + 1) page) (sym here)

    none_same : (its : NodeState D a) (slot : SegmentCopy) → FitsNode a m node its s x → slice_get its.desk.here.slots.items k ≡ Some slot → slot.token.token ≡ None → Same false
    none_same its slot one at none =
        let number_there : the_images.number_of its.desk.here (k + 1) ≡ number_in slot.token.token = ap (the_images.number_of its.desk.here) next ∙ ap number_at at in
        let away : is_at node (s.place (k + 1)) ≡ false = one.desk.elsewhere (k + 1) (omega arith) (omega (arith, inside)) (number_there ∙ ap number_in none) in
        ap (λ (b : Bool). b && is_unwritten x (k + 1) page) (sym away)

    slot_same : (its : NodeState D a) (slot : SegmentCopy) → FitsNode a m node its s x → slice_get its.desk.here.slots.items k ≡ Some slot → Same (due_of page begun slot.token.token)
    slot_same its slot one at = elim slot.token.token as (λ (o : Option Token). slot.token.token ≡ o → Same (due_of page begun o)) [
      | None ↦ λ none. none_same its slot one at none
      | Some token ↦ λ stands. token_same its slot token one at stands
    ] refl

    node_same : (its : NodeState D a) → FitsNode a m node its s x → Same (due_in page begun (slice_get its.desk.here.slots.items k))
    node_same its one = elim (slice_get_cases its.desk.here.slots.items k).1 [
      | inl some ↦ ap (due_in page begun) some.2 ∙ slot_same its some.0 one some.2
      | inr past ↦
          absurd (omega (arith, past.0, inside, one.slots.count, length-map its.desk.here.slots.items beside))
    ]

    up_same : Same (due_at (k + 1) page begun (slice_get up.running.nodes.items node))
    up_same = elim (slice_get_cases up.running.nodes.items node).1 [
      | inl some ↦ ap (due_at (k + 1) page begun) some.2 ∙ ap (λ (i : ℕ). due_in page begun (slice_get some.0.desk.here.slots.items i)) back ∙ node_same some.0 (fits.running.each node some.0 some.2)
      | inr past ↦
          ap (due_at (k + 1) page begun) past.1
          ∙ ap (λ (b : Bool). b && is_unwritten x (k + 1) page)
          (sym (not_outside m.geometry node (s.place (k + 1)) (fits.running.sound.places_known (k + 1)) (omega (arith, past.0, up.running.all_nodes, ap (λ (g : Geometry). g.nodes) fits.running.geometry_is))))
    ]

  -- of a store that is up, whatever its areas are
  pub up_due : (m : Setting) (s : State) (x : Numbers) (up : Rising D a) → FitsUp a m up s x → (node k page : ℕ) → k < m.geometry.segments → page < m.geometry.pages
      → is_due a (Up up) node (k + 1) page ≡ is_due_then s x node (k + 1) page
  up_due m s x up fits node k page inside within =
      ap (λ (i : ℕ). due_at (k + 1) page (begun_in page (slice_get up.segments.items i)) (slice_get up.running.nodes.items node)) (back m s x up fits node k page inside within)
      ∙ up_same m s x up fits node k page inside within
      ∙ ap (λ (p : Phase). is_up p && (is_at node (s.place (k + 1)) && is_unwritten x (k + 1) page)) (sym fits.running.up)

  -- whatever state and numbers the store fits
  pub due_same : (m : Setting) (s : State) (x : Numbers) (phase : Stands D a) → FitsPhase a m phase s x → (node k page : ℕ) → k < m.geometry.segments → page < m.geometry.pages
      → is_due a phase node (k + 1) page ≡ is_due_then s x node (k + 1) page
  due_same m s x (Up up) (fits, honest) node k page inside within = up_due m s x up fits node k page inside within
  due_same m s x (Down r) fits node k page inside within = ap (λ (p : Phase). is_up p && (is_at node (s.place (k + 1)) && is_unwritten x (k + 1) page)) (sym fits.down)
  due_same m s x Taken fits node k page inside within = absurd fits

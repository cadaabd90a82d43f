-- Which pages are blocked at a node: the store and the numbers say the same, while no call of the node has failed.
use Rattle.std.proofs.Common.{◌≡◌, ℕ, suc, ◌+◌, ◌-◌, ◌<◌, ◌≤◌, ◌==◌, ◌&&◌, Bool, true, false, nat_lt, Option, Some, None, refl, sym, ap, subst, ◌∙◌, arith, inl, inr, true≢false}
use Rattle.std.specs.Prelude.{◌↔◌, IsTrue, slice_get, IsSome, option_map, if◌then◌else◌}
use Rattle.std.specs.List.{list_any}
use Rattle.std.specs.Option.{unwrap_or}
use Rattle.std.proofs.lemmas.Option.{slice_get-map, slice_get_cases}
use Rattle.std.proofs.lemmas.Bool.{eq-eqb, eqb-true, false_from_ne_true, and_parts as and-both, and_from as both_true}
use Rattle.std.proofs.lemmas.List.{length-map}
use Rattle.lc_disk.specs.declared.area.Area.{Ghosts}
use Rattle.lc_page.specs.Page.{Page}
use Rattle.lc_page.specs.PageVector.{entry_at}
use Rattle.lc_record.specs.declared.geometry.Geometry.{Geometry}
use Rattle.lc_token.specs.declared.token.Token.{Token}
use Rattle.lc_model.specs.Refusals.{is_at, is_up}
use Rattle.lc_model.specs.Sound.{holders}
use Rattle.lc_model.specs.State.{At, Setting, State}
use Rattle.lc_core.specs.Due.{is_blocked_then, number_then}
use Rattle.lc_desk.specs.Here.{beside, number_at, number_in, the_images}
use Rattle.lc_events.specs.NodeState.{FitsNode}
use Rattle.lc_settled.specs.Numbers.{Numbers, sets_on, stable}
use Rattle.lc_desk.specs.Pages.{IsPageAt}
use Rattle.lc_core.specs.Truncating.{HasOpenOn, IsBlocked, newer_at, under_way_in}
use Rattle.lc_events.specs.Truncating.{newer_in}
use Rattle.lc_desk.specs.Truncating.{newer_of, under_way_at, under_way_of}
use Rattle.lc_desk.specs.Uncommitted.{HasSeatOn}
use Rattle.lc_core.specs.World.{FitsUp}
use Rattle.lc_events.specs.declared.node_state.NodeState.{NodeState}
use Rattle.lc_desk.specs.declared.page_state.PageState.{PageState}
use Rattle.lc_desk.specs.declared.page_state.PageState.TheVariants.{AtRest, UnderWay, Failed}
use Rattle.lc_desk.specs.declared.pages.Pages.{Pages}
use Rattle.lc_core.specs.declared.world_phase.WorldPhase.TheVariants.{Up}
use Rattle.lc_desk.specs.declared.segment_copy.SegmentCopy.{SegmentCopy}
use Rattle.lc_core.specs.declared.up.Up.{Up as Rising}
use Rattle.lc_core.proofs.DuePages.{not_outside, some_calls}
use Rattle.lc_events.proofs.OnPages.{any_found, holder_seat, uncommitted_is}

no_calls : (calls : ℕ) → 1 ≤ calls → (calls == 0) ≡ false
no_calls calls some = false_from_ne_true (calls == 0) (λ is. let none : calls ≡ 0 = eqb-true calls 0 is in omega (arith, none, some))

module _ {D : Type 0} (a : Ghosts D) where
  -- the number that the page will have is the one that the write under way puts in place, or that of the disk
  number_same : (area : D) (segment page : ℕ) (state : PageState) (x : Numbers) → IsPageAt a area segment page state x → (state ≡ Failed → ⊥)
      → unwrap_or (under_way_of state) (stable x segment page) ≡ number_then x segment page
  number_same area segment page AtRest x at sound = rw at.no_calls refl
  number_same area segment page (UnderWay write) x at sound =
      let some : 1 ≤ x.calls segment page = subst (λ (n : ℕ). 1 ≤ n) (sym at.begun.calls_are) (some_calls write) in
      ap (λ (p : Page). p.sequence) at.begun.text_is ∙ sym (rw (no_calls (x.calls segment page) some, at.begun.begun) refl)
  number_same area segment page Failed x at sound = absurd (sound refl)

  module _ (m : Setting) (s : State) (x : Numbers) (up : Rising D a) (fits : FitsUp a m up s x) (node k page : ℕ) (awake : s.halted node ≡ false) (inside : k < m.geometry.segments) (within : page < m.geometry.pages) where
    abbrev under_way : Option ℕ
    under_way = under_way_in page (slice_get up.segments.items k)

    -- of a page whose token is at the node no call has failed
    awake_state : (pages : Pages D a) (state : PageState) → slice_get up.segments.items k ≡ Some pages → slice_get pages.writes.items page ≡ Some state → s.place (k + 1) ≡ At node → state ≡ Failed → ⊥
    awake_state pages state at is here failed =
        let halts = fits.failed k pages at page (is ∙ ap (λ (z : PageState). Some z) failed) in
        let same : halts.0 ≡ node = (let both : At halts.0 ≡ At node = sym halts.1 ∙ here in cc) in
        true≢false (sym halts.2 ∙ ap s.halted same ∙ awake)

    number_there : s.place (k + 1) ≡ At node → unwrap_or under_way (stable x (k + 1) page) ≡ number_then x (k + 1) page
    number_there here = elim (slice_get_cases up.segments.items k).1 [
      | inl some ↦
          let pages = some.0 in
          let area = fits.pages.each k pages some.2 in
          ap (λ (o : Option (Pages D a)). unwrap_or (under_way_in page o) (stable x (k + 1) page)) some.2 ∙ (elim (slice_get_cases pages.writes.items page).1 [
            | inl state ↦
                ap (λ (o : Option PageState). unwrap_or (under_way_at o) (stable x (k + 1) page)) state.2
                ∙ number_same pages.area (k + 1) page state.0 x (area.each page state.0 state.2) (awake_state pages state.0 some.2 state.2 here)
            | inr past ↦ absurd (omega (arith, past.0, area.count, within))
          ])
      | inr past ↦ absurd (omega (arith, past.0, fits.pages.all_segments, inside))
    ]

    abbrev Newer : Bool
    Newer = nat_lt (number_then x (k + 1) page) (x.touched (k + 1) page)

    abbrev held : Bool
    held = list_any (sets_on (k + 1) page) (holders s)

    abbrev Same : Type 0 → Type 0
    Same P = P ↔ ((is_at node (s.place (k + 1)) && (Newer && held)) ≡ true)

    next : k + 1 ≡ suc k
    next = omega arith

    back : (k + 1) - 1 ≡ k
    back = omega arith

    not_here : (P : Type 0) → (P → ⊥) → is_at node (s.place (k + 1)) ≡ false → Same P
    not_here P none away = (λ p. absurd (none p), λ is. absurd (true≢false (sym (and-both _ _ is).0 ∙ away)))

    token_same : (its : NodeState D a) (slot : SegmentCopy) (token : Token) → FitsNode a m node its s x → slice_get its.desk.here.slots.items k ≡ Some slot → slot.token.token ≡ Some token
        → Same ((newer_of page under_way (Some token) ≡ true) × HasSeatOn (k + 1) page its.desk.seats.items)
    token_same its slot token one at stands =
        let number_there_is : the_images.number_of its.desk.here (k + 1) ≡ number_in slot.token.token = ap (the_images.number_of its.desk.here) next ∙ ap number_at at in
        let some : IsSome (the_images.number_of its.desk.here (k + 1)) = subst (λ (o : Option ℕ). IsSome o) (sym (number_there_is ∙ ap number_in stands)) refl in
        let place : s.place (k + 1) ≡ At node = one.desk.places (k + 1) some in
        let here : is_at node (s.place (k + 1)) ≡ true = ap (is_at node) place ∙ eq-eqb node node refl in
        let token_fits = ((one.slots.each k (beside slot) (slice_get-map beside its.desk.here.slots.items k ∙ ap (option_map beside) at)).token token stands).0 in
        let newer : newer_of page under_way (Some token) ≡ Newer =
        ap (λ (n : ℕ). nat_lt (unwrap_or under_way n) (entry_at token.pages page).touched) (token_fits.stable_is page within)
        ∙ ap (λ (n : ℕ). nat_lt (unwrap_or under_way (stable x (k + 1) page)) n) (token_fits.touched page within)
        ∙ ap (λ (n : ℕ). nat_lt n (x.touched (k + 1) page)) (number_there place) in
        let seated : (b : Bool) → (IsTrue b ↔ HasSeatOn (k + 1) page its.desk.seats.items) → b ≡ held =
        λ b iff. uncommitted_is m node its.desk.here its.desk.seats.items s fits.running.sound one.desk (k + 1) page b iff place in (
          λ has. both_true _ _ here (both_true _ _ (sym newer ∙ has.0) (sym (seated true (λ _. has.1, λ _. refl)))),
          λ is.
              let inner = (and-both _ _ is).1 in
              let parts = and-both _ _ inner in (
                newer ∙ parts.0,
                seat_of its one place parts.1,
              ),
        )
      where
        seat_of : (its : NodeState D a) → FitsNode a m node its s x → s.place (k + 1) ≡ At node → held ≡ true → HasSeatOn (k + 1) page its.desk.seats.items
        seat_of its one place is =
            let found = any_found (sets_on (k + 1) page) (holders s) is in
            holder_seat m node its.desk.here its.desk.seats.items s fits.running.sound one.desk (k + 1) page found.0 place found.1

    slot_same : (its : NodeState D a) (slot : SegmentCopy) → FitsNode a m node its s x → slice_get its.desk.here.slots.items k ≡ Some slot
        → Same ((newer_of page under_way slot.token.token ≡ true) × HasSeatOn (k + 1) page its.desk.seats.items)
    slot_same its slot one at = elim slot.token.token as (λ (o : Option Token). slot.token.token ≡ o → Same ((newer_of page under_way o ≡ true) × HasSeatOn (k + 1) page its.desk.seats.items)) [
      | None ↦ λ none.
          let number_none : the_images.number_of its.desk.here (k + 1) ≡ number_in slot.token.token = ap (the_images.number_of its.desk.here) next ∙ ap number_at at in
          not_here _ (λ has. absurd (true≢false (sym has.0))) (one.desk.elsewhere (k + 1) (omega arith) (omega (arith, inside)) (number_none ∙ ap number_in none))
      | Some token ↦ λ stands. token_same its slot token one at stands
    ] refl

    node_same : (its : NodeState D a) → FitsNode a m node its s x
        → Same ((newer_in page under_way (slice_get its.desk.here.slots.items k) ≡ true) × HasSeatOn (k + 1) page its.desk.seats.items)
    node_same its one = elim (slice_get_cases its.desk.here.slots.items k).1 [
      | inl some ↦
          subst (λ (o : Option SegmentCopy). Same ((newer_in page under_way o ≡ true) × HasSeatOn (k + 1) page its.desk.seats.items)) (sym some.2) (slot_same its some.0 one some.2)
      | inr past ↦ absurd (omega (arith, past.0, inside, one.slots.count, length-map its.desk.here.slots.items beside))
    ]

    up_same : Same ((newer_at (k + 1) page under_way (slice_get up.running.nodes.items node) ≡ true) × HasOpenOn (k + 1) page (slice_get up.running.nodes.items node))
    up_same = elim (slice_get_cases up.running.nodes.items node).1 [
      | inl some ↦
          subst (λ (o : Option (NodeState D a)). Same ((newer_at (k + 1) page under_way o ≡ true) × HasOpenOn (k + 1) page o)) (sym some.2)
          (subst (λ (i : ℕ). Same ((newer_in page under_way (slice_get some.0.desk.here.slots.items i) ≡ true) × HasSeatOn (k + 1) page some.0.desk.seats.items)) (sym back)
          (node_same some.0 (fits.running.each node some.0 some.2)))
      | inr past ↦
          subst (λ (o : Option (NodeState D a)). Same ((newer_at (k + 1) page under_way o ≡ true) × HasOpenOn (k + 1) page o)) (sym past.1)
          (not_here _ (λ has. absurd (true≢false (sym has.0)))
          (not_outside m.geometry node (s.place (k + 1)) (fits.running.sound.places_known (k + 1)) (omega (arith, past.0, up.running.all_nodes, ap (λ (g : Geometry). g.nodes) fits.running.geometry_is))))
    ]

  -- of a store that is up, whatever its areas are
  pub up_blocked : (m : Setting) (s : State) (x : Numbers) (up : Rising D a) → FitsUp a m up s x → (node k page : ℕ) → k < m.geometry.segments → page < m.geometry.pages → s.halted node ≡ false
      → IsBlocked a (Up up) node (k + 1) page ↔ (is_blocked_then s x node (k + 1) page ≡ true)
  up_blocked m s x up fits node k page inside within awake =
      let same = up_same m s x up fits node k page awake inside within in
      let stands : is_up s.phase ≡ true = ap is_up fits.running.up in
      let at : (k + 1) - 1 ≡ k = omega arith in (
        λ blocked.
            both_true (is_up s.phase) _ stands (same.0 (
              ap (λ (i : ℕ). newer_at (k + 1) page (under_way_in page (slice_get up.segments.items i)) (slice_get up.running.nodes.items node)) (sym at) ∙ blocked.0,
              blocked.1,
            )),
        λ is.
            let has = same.1 (and-both (is_up s.phase) _ is).1 in
            (ap (λ (i : ℕ). newer_at (k + 1) page (under_way_in page (slice_get up.segments.items i)) (slice_get up.running.nodes.items node)) at ∙ has.0, has.1),
      )

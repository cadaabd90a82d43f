-- One page of a file: what a call makes of its stage, and what a stop leaves of it.
use Rattle.std.proofs.Common.{◌≡◌, ◌≢◌, ◌⊎◌, ℕ, ◌+◌, ◌*◌, ◌<◌, ◌≤◌, Bool, true, false, List, [], ◌∷◌, length, get_or, refl, sym, ◌∙◌, ap, subst, inl, inr, arith}
use Rattle.lc_disk.specs.Area.{IsImage}
use Rattle.lc_disk.specs.declared.area.Area.{Ghosts}
use Rattle.lc_page.specs.Page.{Page, slot_at, page_in}
use Rattle.lc_page.specs.PageVector.{settled_text}
use Rattle.lc_page.specs.PageWrite.{IsBegun, IsClosing, IsEither, behind_gate, closing_bytes, drafted, KeepsPage, SameInside}
use Rattle.lc_page.specs.declared.draft.Draft.{Draft}
use Rattle.lc_page.specs.declared.page_text.PageText.{PageText}
use Rattle.lc_page.proofs.SlotLemmas.{apart_kept, all_kept}
use Rattle.lc_page.proofs.StateLemmas.{settled_images, kept_page, kept_settled, kept_closing, kept_closed, kept_filling, kept_filled, kept_opening, closing_shows, closed_shows, torn_shows, first_shows, first_closing, third_closed, third_filling, fifth_torn, fifth_opening, synced_closing, synced_filling, opened_page, opened_settled}
use Rattle.lc_rounds.specs.PagesBeside.{PagePlan, PageStage, Unwritten, ClosingGate, ClosedGate, FillingSlot, FilledSlot, OpeningGate, Written, next_stage, IsAt, IsNextCall, IsSameDevice, IsSync}

closes : (gate : Bool) → ((gate ≡ false) × (closing_bytes gate ≡ [])) ⊎ ((gate ≡ true) × (closing_bytes gate ≡ 0 ∷ []))
closes true = inr (refl, refl)
closes false = inl (refl, refl)

wide : (seq : ℕ) (bytes : List ℕ) → length bytes ≡ 256 → length (behind_gate seq bytes) ≡ 271
wide seq bytes long = omega (arith, long)

-- what leaves a page as it was, twice
pub keeps-again : {D : Type 0} (a : Ghosts D) (page : ℕ) (first second third : D) → KeepsPage a page first second → KeepsPage a page second third → KeepsPage a page first third
keeps-again a page first second third one other = record {
  honest = other.honest ∙ one.honest;
  inside = λ was.
      let before : SameInside page (a.now first) (a.dirty first) (a.now second) (a.dirty second) = one.inside was in
      let after : SameInside page (a.now second) (a.dirty second) (a.now third) (a.dirty third) = other.inside (one.honest ∙ was) in
      record {
        same_length = after.same_length ∙ before.same_length;
        same = λ slot k within. after.same slot k within ∙ before.same slot k within;
        clean = λ slot k within is. after.clean slot k within (before.clean slot k within is);
      };
}

pub keeps-none : {D : Type 0} (a : Ghosts D) (page : ℕ) (area : D) → KeepsPage a page area area
keeps-none a page area = record {
  honest = refl;
  inside = λ was. record { same_length = refl; same = λ slot k within. refl; clean = λ slot k within is. is };
}

-- Syncs

record Synced {D : Type 0} (a : Ghosts D) (old new : D) : Type 0 where
  honest : a.honest new ≡ a.honest old
  same : a.honest old ≡ true → a.now new ≡ a.now old
  clean : a.honest old ≡ true → (k : ℕ) → a.dirty new k ≡ false

record Quiet {D : Type 0} (a : Ghosts D) (old new : D) : Type 0 where
  honest : a.honest new ≡ a.honest old
  len : length (a.now new) ≡ length (a.now old)
  same : a.honest old ≡ true → a.now new ≡ a.now old
  cleaner : a.honest old ≡ true → (k : ℕ) → a.dirty old k ≡ false → a.dirty new k ≡ false

module _ {D : Type 0} (a : Ghosts D) (old new : D) where
  synced : IsSync a old new true → Synced a old new
  synced (inl call) = record { honest = call.device.honest; same = call.same; clean = λ was k. call.dirty was k }
  synced (inr none) = record {
    honest = ap a.honest none.1;
    same = λ was. ap a.now none.1;
    clean = λ was k. ap (λ (d : D). a.dirty d k) none.1 ∙ none.2 was k;
  }

  quiet : (ok : Bool) → IsSync a old new ok → Quiet a old new
  quiet true (inl call) = record { honest = call.device.honest; len = call.device.same_length; same = call.same; cleaner = λ was k is. call.dirty was k }
  quiet false (inl call) = record { honest = call.device.honest; len = call.device.same_length; same = call.same; cleaner = λ was k is. call.dirty was k ∙ is }
  quiet ok (inr none) = record {
    honest = ap a.honest none.1;
    len = ap (λ (d : D). length (a.now d)) none.1;
    same = λ was. ap a.now none.1;
    cleaner = λ was k is. ap (λ (d : D). a.dirty d k) none.1 ∙ is;
  }

  quiet-keeps : Quiet a old new → (page : ℕ) → KeepsPage a page old new
  quiet-keeps q page = record { honest = q.honest; inside = λ was. all_kept page (a.now old) (a.now new) (a.dirty old) (a.dirty new) (q.same was) (q.cleaner was) }

module _ {D : Type 0} (a : Ghosts D) (fits : (d : D) → a.honest d ≡ true → (k : ℕ) → get_or (a.now d) k 0 < 256) where
  -- what is done beside a page leaves it at its stage
  pub kept-at : (stage : PageStage) (draft : Draft) (text : PageText) (old : Page) (area later : D) → KeepsPage a draft.page area later → IsAt a stage draft text old area → IsAt a stage draft text old later
  kept-at Unwritten draft text old area later keeps is = λ honest.
      let was : a.honest area ≡ true = sym keeps.honest ∙ honest in (
        kept_settled (a.now area) (a.now later) (a.dirty area) (a.dirty later) draft.page text (keeps.inside was) (is was).0,
        (kept_page draft.page (a.now area) (a.now later) (a.dirty area) (a.dirty later) (keeps.inside was)).0 ∙ (is was).1,
      )
  kept-at ClosingGate draft text old area later keeps is = λ honest.
      let was : a.honest area ≡ true = sym keeps.honest ∙ honest in kept_closing (a.now area) (a.now later) (a.dirty area) (a.dirty later) draft text old (keeps.inside was) (is was)
  kept-at ClosedGate draft text old area later keeps is = λ honest.
      let was : a.honest area ≡ true = sym keeps.honest ∙ honest in kept_closed (a.now area) (a.now later) (a.dirty area) (a.dirty later) draft text old (keeps.inside was) (is was)
  kept-at FillingSlot draft text old area later keeps is = λ honest.
      let was : a.honest area ≡ true = sym keeps.honest ∙ honest in kept_filling (a.now area) (a.now later) (a.dirty area) (a.dirty later) draft text old (keeps.inside was) (is was)
  kept-at FilledSlot draft text old area later keeps is = λ honest.
      let was : a.honest area ≡ true = sym keeps.honest ∙ honest in kept_filled (a.now area) (a.now later) (a.dirty area) (a.dirty later) draft text old (keeps.inside was) (is was)
  kept-at OpeningGate draft text old area later keeps is = λ honest.
      let was : a.honest area ≡ true = sym keeps.honest ∙ honest in kept_opening (a.now area) (a.now later) (a.dirty area) (a.dirty later) draft text old (keeps.inside was) (is was)
  kept-at Written draft text old area later keeps is = λ honest.
      let was : a.honest area ≡ true = sym keeps.honest ∙ honest in (
        kept_settled (a.now area) (a.now later) (a.dirty area) (a.dirty later) draft.page (settled_text text draft.seq) (keeps.inside was) (is was).0,
        (kept_page draft.page (a.now area) (a.now later) (a.dirty area) (a.dirty later) (keeps.inside was)).0 ∙ (is was).1,
      )

  -- whatever a stop leaves has the old page or the new one
  pub at-images : (stage : PageStage) (draft : Draft) (text : PageText) (old : Page) (area : D) → (2 * draft.page + 2) * 272 ≤ length (a.now area) → IsAt a stage draft text old area → a.honest area ≡ true
      → (image : List ℕ) → IsImage (a.now area) (a.dirty area) image → IsEither old (drafted draft) (page_in image draft.page)
  at-images Unwritten draft text old area room is honest image of = inl ((settled_images (a.now area) (a.dirty area) draft.page text (is honest).0 image of).1 ∙ (is honest).1)
  at-images ClosingGate draft text old area room is honest image of = inl ((closing_shows (a.now area) (a.dirty area) draft text old (is honest)).images image of)
  at-images ClosedGate draft text old area room is honest image of = inl ((closed_shows (a.now area) (a.dirty area) draft text old (is honest)).images image of)
  at-images FillingSlot draft text old area room is honest image of = inl ((closed_shows (a.now area) (a.dirty area) draft text old (is honest).closed).images image of)
  at-images FilledSlot draft text old area room is honest image of = inl ((closed_shows (a.now area) (a.dirty area) draft text old (is honest).filling.closed).images image of)
  at-images OpeningGate draft text old area room is honest image of = (torn_shows (a.now area) (a.dirty area) draft text old room (is honest).torn).images image of
  at-images Written draft text old area room is honest image of = inr ((settled_images (a.now area) (a.dirty area) draft.page (settled_text text draft.seq) (is honest).0 image of).1 ∙ (is honest).1)

  module _ (p : PagePlan) (area new : D) where
    abbrev at : ℕ
    at = slot_at p.draft.page p.draft.slot

    -- the device of a call, made or failed
    pub call-device : (stage : PageStage) (ok : Bool) → IsNextCall a stage p area new ok → IsSameDevice a area new
    call-device Unwritten ok call = record { honest = call.device.honest; len = call.device.same_length }
    call-device ClosingGate ok call = let q = quiet a area new ok call in record { honest = q.honest; len = q.len }
    call-device ClosedGate ok call = record { honest = call.device.honest; len = call.device.same_length }
    call-device FillingSlot ok call = let q = quiet a area new ok call in record { honest = q.honest; len = q.len }
    call-device FilledSlot ok call = record { honest = call.device.honest; len = call.device.same_length }
    call-device OpeningGate ok call = let q = quiet a area new ok call in record { honest = q.honest; len = q.len }
    call-device Written ok call = absurd call

    -- it leaves all other pages as they were
    pub call-keeps : (stage : PageStage) (ok : Bool) → IsNextCall a stage p area new ok → (page : ℕ) → page ≢ p.draft.page → KeepsPage a page area new
    call-keeps Unwritten ok call page differ = record { honest = call.device.honest; inside = λ was. apart_kept page p.draft.page (a.now area) (a.now new) (a.dirty area) (a.dirty new) differ (call.others was) }
    call-keeps ClosingGate ok call page differ = quiet-keeps a area new (quiet a area new ok call) page
    call-keeps ClosedGate ok call page differ = record { honest = call.device.honest; inside = λ was. apart_kept page p.draft.page (a.now area) (a.now new) (a.dirty area) (a.dirty new) differ (call.others was) }
    call-keeps FillingSlot ok call page differ = quiet-keeps a area new (quiet a area new ok call) page
    call-keeps FilledSlot ok call page differ = record { honest = call.device.honest; inside = λ was. apart_kept page p.draft.page (a.now area) (a.now new) (a.dirty area) (a.dirty new) differ (call.others was) }
    call-keeps OpeningGate ok call page differ = quiet-keeps a area new (quiet a area new ok call) page
    call-keeps Written ok call page differ = absurd call

    module _ (text : PageText) (old : Page) (room : (2 * p.draft.page + 2) * 272 ≤ length (a.now area)) (begun : IsBegun p.draft p.gate text) where
      -- a call that was made leads to the next stage
      pub next-at : (stage : PageStage) → IsNextCall a stage p area new true → IsAt a stage p.draft text old area → IsAt a (next_stage stage) p.draft text old new
      next-at Unwritten call is = λ honest.
          let was : a.honest area ≡ true = sym call.device.honest ∙ honest in
          subst (λ (page : Page). IsClosing (a.now new) (a.dirty new) p.draft text page) (is was).1
          (first_closing (a.now area) (a.now new) (a.dirty area) (a.dirty new) p.draft at refl p.gate (closing_bytes p.gate) (closes p.gate) (call.torn was) (call.dirtied was) text (fits area was) (is was).0 begun room (call.written was refl))
      next-at ClosingGate call is = λ honest.
          let s = synced a area new call in
          let was : a.honest area ≡ true = sym s.honest ∙ honest in
          synced_closing (a.now area) (a.now new) (a.dirty area) (a.dirty new) p.draft text old (s.same was) (s.clean was) (is was)
      next-at ClosedGate call is = λ honest.
          let was : a.honest area ≡ true = sym call.device.honest ∙ honest in
          third_filling (a.now area) (a.now new) (a.dirty area) (a.dirty new) p.draft at refl (behind_gate p.draft.seq p.draft.bytes) (call.torn was) (call.dirtied was) (wide p.draft.seq p.draft.bytes begun.next.long) text old room (is was) (call.written was refl) refl
      next-at FillingSlot call is = λ honest.
          let s = synced a area new call in
          let was : a.honest area ≡ true = sym s.honest ∙ honest in
          synced_filling (a.now area) (a.now new) (a.dirty area) (a.dirty new) p.draft text old (s.same was) (s.clean was) (is was)
      next-at FilledSlot call is = λ honest.
          let was : a.honest area ≡ true = sym call.device.honest ∙ honest in
          fifth_opening (a.now area) (a.now new) (a.dirty area) (a.dirty new) p.draft at refl (call.torn was) (call.dirtied was) text old room (is was) (call.written was refl)
      next-at OpeningGate call is = λ honest.
          let s = synced a area new call in
          let was : a.honest area ≡ true = sym s.honest ∙ honest in
          let later : (2 * p.draft.page + 2) * 272 ≤ length (a.now new) = omega (arith, room, ap (λ (l : List ℕ). length l) (s.same was)) in (
            opened_settled (a.now area) (a.now new) (a.dirty area) (a.dirty new) p.draft text old (s.same was) (s.clean was) later (is was),
            opened_page (a.now area) (a.now new) (a.dirty area) (a.dirty new) p.draft text old (s.same was) (s.clean was) later (is was),
          )
      next-at Written call is = absurd call

      -- and whatever a stop leaves after a call, also one that failed, has the old page or the new one
      pub call-images : (stage : PageStage) (ok : Bool) → IsNextCall a stage p area new ok → IsAt a stage p.draft text old area → a.honest new ≡ true
          → (image : List ℕ) → IsImage (a.now new) (a.dirty new) image → IsEither old (drafted p.draft) (page_in image p.draft.page)
      call-images Unwritten ok call is honest image of =
          let was : a.honest area ≡ true = sym call.device.honest ∙ honest in
          inl ((first_shows (a.now area) (a.now new) (a.dirty area) (a.dirty new) p.draft at refl p.gate (closing_bytes p.gate) (closes p.gate) (call.torn was) (call.dirtied was) text (fits area was) (is was).0 begun).images image of ∙ (is was).1)
      call-images ClosingGate ok call is honest image of =
          let q = quiet a area new ok call in
          at-images ClosingGate p.draft text old new (omega (arith, room, q.len)) (kept-at ClosingGate p.draft text old area new (quiet-keeps a area new q p.draft.page) is) honest image of
      call-images ClosedGate ok call is honest image of =
          let was : a.honest area ≡ true = sym call.device.honest ∙ honest in
          inl ((closed_shows (a.now new) (a.dirty new) p.draft text old
          (third_closed (a.now area) (a.now new) (a.dirty area) (a.dirty new) p.draft at refl (behind_gate p.draft.seq p.draft.bytes) (call.torn was) (call.dirtied was) (wide p.draft.seq p.draft.bytes begun.next.long) text old (is was))).images image of)
      call-images FillingSlot ok call is honest image of =
          let q = quiet a area new ok call in
          at-images FillingSlot p.draft text old new (omega (arith, room, q.len)) (kept-at FillingSlot p.draft text old area new (quiet-keeps a area new q p.draft.page) is) honest image of
      call-images FilledSlot ok call is honest image of =
          let was : a.honest area ≡ true = sym call.device.honest ∙ honest in
          (torn_shows (a.now new) (a.dirty new) p.draft text old (omega (arith, room, call.device.same_length))
          (fifth_torn (a.now area) (a.now new) (a.dirty area) (a.dirty new) p.draft at refl (call.torn was) (call.dirtied was) text old (is was))).images image of
      call-images OpeningGate ok call is honest image of =
          let q = quiet a area new ok call in
          at-images OpeningGate p.draft text old new (omega (arith, room, q.len)) (kept-at OpeningGate p.draft text old area new (quiet-keeps a area new q p.draft.page) is) honest image of
      call-images Written ok call is honest image of = absurd call

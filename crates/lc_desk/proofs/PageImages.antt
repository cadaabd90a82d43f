-- What a stop may leave of the area of a segment, and whether a page of it is being written.
use Rattle.std.proofs.Common.{◌≡◌, ◌≢◌, ℕ, zero, suc, ◌+◌, ◌*◌, ◌<◌, ◌≤◌, ◌||◌, Bool, true, List, [], ◌∷◌, length, nat_lt, Some, refl, sym, ap, subst, ◌∙◌, inl, inr, arith}
use Rattle.std.specs.Prelude.{slice_get, slice_set}
use Rattle.std.specs.List.{list_any}
use Rattle.std.proofs.lemmas.Bool.{cases_eq, cases_lt, lt-ltb}
use Rattle.std.proofs.lemmas.List.{length-set}
use Rattle.std.proofs.lemmas.Option.{same_Some as same_some}
use Rattle.lc_disk.specs.Area.{IsImage}
use Rattle.lc_disk.specs.declared.area.Area.{Ghosts}
use Rattle.lc_record.specs.Marks.{counting}
use Rattle.lc_record.specs.declared.geometry.Geometry.{Geometry}
use Rattle.lc_record.proofs.ListLemmas.{slice_get_some as get-some}
use Rattle.lc_page.specs.Page.{Page, page_in}
use Rattle.lc_page.specs.PageWrite.{IsEither, drafted}
use Rattle.lc_page.specs.Writing.{calls_of, draft_of}
use Rattle.lc_page.proofs.StateLemmas.{settled_images}
use Rattle.lc_page.proofs.WritingLemmas.{either_under_way, old_under_way}
use Rattle.lc_model.specs.State.{Setting, State}
use Rattle.lc_settled.specs.Numbers.{Numbers}
use Rattle.lc_desk.specs.PageState.{is_begun}
use Rattle.lc_desk.specs.Pages.{FitsArea, FitsPages, HasBegun, IsPageAt, IsStored}
use Rattle.lc_rest.specs.Pages.{as_read}
use Rattle.lc_desk.specs.Places.{get_set_same, get_set_other}
use Rattle.lc_settled.specs.Settled.{is_writing}
use Rattle.lc_settled.specs.Turns.{called, page_settled}
use Rattle.lc_desk.specs.declared.page_state.PageState.{PageState}
use Rattle.lc_desk.specs.declared.page_state.PageState.TheVariants.{AtRest, UnderWay, Failed}
use Rattle.lc_desk.specs.declared.pages.Pages.{Pages}
use Rattle.lc_desk.proofs.PageCalls.{has_room, some_calls}
use Rattle.lc_desk.proofs.PageTurns.{called_apart, settled_beside}
use Rattle.lc_desk.proofs.PageWrites.{SameAt, area_same}

-- of each list some item passes, or of none
any_same : {A : Type 0} (p : A → Bool) (q : ℕ → Bool) (xs : List A) (from n : ℕ) → length xs ≡ n → ((k : ℕ) (x : A) → slice_get xs k ≡ Some x → p x ≡ q (from + k)) → list_any p xs ≡ list_any q (counting from n)
any_same p q [] from zero len each = refl
any_same p q [] from (suc n) len each = absurd (omega (arith, len))
any_same p q (x ∷ xs) from zero len each = absurd (omega (arith, len))
any_same p q (x ∷ xs) from (suc n) len each =
    let first : from + 0 ≡ from = omega arith in
    ap (λ (b : Bool). b || list_any p xs) (each 0 x refl ∙ ap q first)
    ∙ ap (λ (b : Bool). q from || b) (any_same p q xs (from + 1) n (omega (arith, len))
    (λ k y got. (let next : from + suc k ≡ (from + 1) + k = omega arith in each (suc k) y got ∙ ap q next)))

module _ {D : Type 0} (a : Ghosts D) where
  state_begun : (area : D) (segment page : ℕ) (state : PageState) (x : Numbers) → IsPageAt a area segment page state x → is_begun state ≡ nat_lt 0 (x.calls segment page)
  state_begun area segment page AtRest x h = sym (ap (nat_lt 0) h.no_calls)
  state_begun area segment page (UnderWay write) x h = (let made = h.begun.calls_are in let some = some_calls write in sym (lt-ltb 0 (x.calls segment page) (omega (arith, made, some))))
  state_begun area segment page Failed x h = (let made = h.begun.calls_are in let some = h.some in sym (lt-ltb 0 (x.calls segment page) (omega (arith, made, some))))

  pub some_begun : (pages : Pages D a) (m : Setting) (segment : ℕ) (x : Numbers) → FitsArea a m.geometry segment pages x → list_any is_begun pages.writes.items ≡ is_writing m x segment
  some_begun pages m segment x h = any_same is_begun (λ page. nat_lt 0 (x.calls segment page)) pages.writes.items 0 m.geometry.pages h.count
      (λ page state got. (let same : 0 + page ≡ page = omega arith in state_begun pages.area segment page state x (h.each page state got) ∙ ap (λ (n : ℕ). nat_lt 0 (x.calls segment n)) (sym same)))

  -- What a stop leaves

  module _ (g : Geometry) (segment page : ℕ) (pages : Pages D a) (x : Numbers) (image : List ℕ) (honest : a.honest pages.area ≡ true) (h : FitsArea a g segment pages x) (within : page < g.pages) (is : IsImage (a.now pages.area) (a.dirty pages.area) image) where
    room : (2 * page + 2) * 272 ≤ length (a.now pages.area)
    room = (let count = h.count in has_room a pages page (omega (arith, within, count)))

    old_stored : page_in image page ≡ as_read (x.disks.page segment page) → IsStored segment page image x
    old_stored same = record { text = x.disks.page segment page; reads = same; shows = inl refl }

    either_stored : (calls : ℕ) (new : Page) → HasBegun segment page calls new x → 5 ≤ calls → IsEither (as_read (x.disks.page segment page)) new (page_in image page) → IsStored segment page image x
    either_stored calls new begun late (inl old) = old_stored old
    either_stored calls new begun late (inr other) = record { text = begun.text; reads = other ∙ begun.text_is; shows = inr (begun.opened late) }

    state_stored : (state : PageState) → IsPageAt a pages.area segment page state x → IsStored segment page image x
    state_stored AtRest its = old_stored ((settled_images (a.now pages.area) (a.dirty pages.area) page (x.texts segment page) (its.settled honest) image is).1 ∙ its.reads honest)
    state_stored (UnderWay write) its = elim (cases_lt (calls_of write) 5) [
      | inl few ↦ old_stored (subst (λ (n : ℕ). page_in image n ≡ as_read (x.disks.page segment page)) its.page_is
          ((old_under_way a pages.area write (x.texts segment page) (as_read (x.disks.page segment page)) few its.under_way honest).images image is))
      | inr late ↦ either_stored (calls_of write) (drafted (draft_of write)) its.begun late
          (subst (λ (n : ℕ). IsEither (as_read (x.disks.page segment page)) (drafted (draft_of write)) (page_in image n)) its.page_is
          ((either_under_way a pages.area write (x.texts segment page) (as_read (x.disks.page segment page))
          (subst (λ (n : ℕ). (2 * n + 2) * 272 ≤ length (a.now pages.area)) (sym its.page_is) room) its.under_way honest).images image is))
    ]
    state_stored Failed its = elim (cases_lt its.calls 5) [
      | inl few ↦ old_stored ((its.old few honest).images image is)
      | inr late ↦ either_stored its.calls its.new its.begun late ((its.either honest).images image is)
    ]

    pub images_stored : IsStored segment page image x
    images_stored = (let count = h.count in let state = get-some pages.writes.items page (omega (arith, within, count)) in state_stored state.0 (h.each page state.0 state.1))

  -- One segment of all

  pub pages_set : (m : Setting) (segments : List (Pages D a)) (k : ℕ) (old new : Pages D a) (x y : Numbers) → slice_get segments k ≡ Some old → ((other page : ℕ) → other ≢ k + 1 → SameAt other page x y)
      → FitsArea a m.geometry (k + 1) new y → FitsPages a m segments x → FitsPages a m (slice_set segments k new) y
  pages_set m segments k old new x y at same own h = record {
    all_segments = length-set segments k new ∙ h.all_segments;
    each = λ j pages got. elim (cases_eq j k) [
      | inl here ↦
          let there : slice_get (slice_set segments k new) k ≡ Some pages = subst (λ (n : ℕ). slice_get (slice_set segments k new) n ≡ Some pages) here got in
          subst (λ (n : ℕ). FitsArea a m.geometry (n + 1) pages y) (sym here)
          (subst (λ (p : Pages D a). FitsArea a m.geometry (k + 1) p y) (same_some new pages (sym (get_set_same segments k old new at) ∙ there)) own)
      | inr differ ↦
          let apart : j + 1 ≢ k + 1 = λ e. differ (omega (arith, e)) in
          area_same a m.geometry (j + 1) pages x y (λ page. same (j + 1) page apart) (h.each j pages (sym (get_set_other segments k j new differ) ∙ got))
    ];
  }

  pub pages_called : (m : Setting) (s : State) (segments : List (Pages D a)) (k page calls : ℕ) (old new : Pages D a) (x : Numbers) → slice_get segments k ≡ Some old → FitsPages a m segments x
      → FitsArea a m.geometry (k + 1) new (called m s x (k + 1) page calls) → FitsPages a m (slice_set segments k new) (called m s x (k + 1) page calls)
  pages_called m s segments k page calls old new x at h own = pages_set m segments k old new x (called m s x (k + 1) page calls) at (λ other beside differ. called_apart m s (k + 1) page x calls other beside (inl differ)) own h

  pub pages_settled : (m : Setting) (s : State) (segments : List (Pages D a)) (k page : ℕ) (old new : Pages D a) (x : Numbers) → slice_get segments k ≡ Some old → FitsPages a m segments x
      → FitsArea a m.geometry (k + 1) new (page_settled x (k + 1) page) → FitsPages a m (slice_set segments k new) (page_settled x (k + 1) page)
  pages_settled m s segments k page old new x at h own = pages_set m segments k old new x (page_settled x (k + 1) page) at (λ other beside differ. settled_beside m s (k + 1) page x other beside (inl differ)) own h

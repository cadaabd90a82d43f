-- What the calls of page writes make of the pages of an area.
use Rattle.std.proofs.Common.{◌≡◌, ◌≢◌, ℕ, zero, suc, ◌+◌, ◌*◌, ◌<◌, ◌≤◌, Bool, true, List, [], ◌∷◌, length, Some, refl, sym, ap, subst, ◌∙◌, inl, inr, arith}
use Rattle.std.specs.Prelude.{slice_get, slice_index_or, slice_set, Result, Ok, Err}
use Rattle.std.proofs.lemmas.Bool.{cases_eq}
use Rattle.std.proofs.lemmas.List.{length-set}
use Rattle.std.proofs.lemmas.Option.{get_or_from_slice_get, slice_get_within, same_Some as same_some}
use Rattle.lc_disk.specs.declared.area.Area.{Ghosts}
use Rattle.lc_record.specs.declared.geometry.Geometry.{Geometry}
use Rattle.lc_page.specs.Page.{Page, page_in}
use Rattle.lc_page.specs.PageVector.{settled_text}
use Rattle.lc_page.specs.PageWrite.{SettledIn, HasPage, IsBegun, IsEither, KeepsPage, drafted}
use Rattle.lc_page.specs.Writing.{IsOver, IsUnderWay, calls_of, draft_of}
use Rattle.lc_page.specs.declared.draft.Draft.{Draft}
use Rattle.lc_page.specs.declared.fault.PageFault.{PageFault}
use Rattle.lc_page.specs.declared.page_text.PageText.{PageText}
use Rattle.lc_page.specs.declared.writing.Writing.{Writing}
use Rattle.lc_page.specs.declared.writing.Writing.TheVariants.{AtClosing, AtClosed, AtFilling, AtFilled, AtOpening}
use Rattle.lc_page.proofs.StateLemmas.{kept_images, kept_page, kept_settled}
use Rattle.lc_page.proofs.WritingLemmas.{kept_under_way, old_either}
use Rattle.lc_model.specs.Merge.{Page as StorePage}
use Rattle.lc_settled.specs.Numbers.{Numbers}
use Rattle.lc_desk.specs.PageState.{AreNamed}
use Rattle.lc_desk.specs.Pages.{FitsArea, FollowsBegin, FollowsNext, HasBegun, IsAtRest, IsBetween, IsPageAt, StepsIn, TellsNumbers}
use Rattle.lc_rest.specs.Pages.{as_read}
use Rattle.lc_desk.specs.Places.{get_set_same, get_set_other}
use Rattle.lc_settled.specs.Settled.{begun_number}
use Rattle.lc_settled.specs.Turns.{called, page_settled}
use Rattle.lc_desk.specs.declared.page_progress.PageProgress.{PageProgress}
use Rattle.lc_desk.specs.declared.page_progress.PageProgress.TheVariants.{Stepped, Written}
use Rattle.lc_desk.specs.declared.page_state.PageState.{PageState}
use Rattle.lc_desk.specs.declared.page_state.PageState.TheVariants.{AtRest, UnderWay, Failed}
use Rattle.lc_desk.specs.declared.pages.Pages.{Pages}
use Rattle.lc_desk.proofs.Furnishing.{each_set}
use Rattle.lc_desk.proofs.PageTurns.{begun_first, begun_next, called_apart, called_page, settled_beside, settled_calls, settled_page, settled_texts}
use Rattle.lc_desk.proofs.PageWrites.{SameAt, state_same}

pub some_calls : (write : Writing) → 1 ≤ calls_of write
some_calls (AtClosing w) = omega arith
some_calls (AtClosed w) = omega arith
some_calls (AtFilling w) = omega arith
some_calls (AtFilled w) = omega arith
some_calls (AtOpening w) = omega arith

pub few_calls : (write : Writing) → calls_of write ≤ 5
few_calls (AtClosing w) = omega arith
few_calls (AtClosed w) = omega arith
few_calls (AtFilling w) = omega arith
few_calls (AtFilled w) = omega arith
few_calls (AtOpening w) = omega arith

-- a state that is put twice
pub set_twice : (writes : List PageState) (page : ℕ) (first second : PageState) → slice_set (slice_set writes page first) page second ≡ slice_set writes page second
set_twice [] page first second = refl
set_twice (w ∷ ws) zero first second = refl
set_twice (w ∷ ws) (suc page) first second = ap (λ (l : List PageState). w ∷ l) (set_twice ws page first second)

pub named_set : (writes : List PageState) (page : ℕ) (state : PageState) → AreNamed writes → ((write : Writing) → state ≡ UnderWay write → (draft_of write).page ≡ page) → AreNamed (slice_set writes page state)
named_set writes page state named own k write got =
    each_set (λ (n : ℕ) (v : PageState). (w : Writing) → v ≡ UnderWay w → (draft_of w).page ≡ n) writes page state
    (λ n v at w is. named n w (at ∙ ap (λ (u : PageState). Some u) is)) own k (UnderWay write) got write refl

pub named_failed : (writes : List PageState) (page : ℕ) (state : PageState) → state ≡ Failed → AreNamed writes → AreNamed (slice_set writes page state)
named_failed writes page state is named = named_set writes page state named (λ write other. absurd (none write (sym is ∙ other)))
  where
    none : (write : Writing) → Failed ≡ UnderWay write → ⊥
    none write same = absurd cc

-- a place has one write
pub same_write : (first second : Writing) → ◌≡◌ {A = PageState} (UnderWay first) (UnderWay second) → first ≡ second
same_write first second same = ap (λ (state : PageState). elim state as (λ (v : PageState). Writing) [ UnderWay write ↦ write | _ ↦ first ]) same

pub one_write : (writes : List PageState) (page : ℕ) (first second : Writing) → slice_get writes page ≡ Some (UnderWay first) → slice_get writes page ≡ Some (UnderWay second) → first ≡ second
one_write writes page first second one two = same_write first second (same_some (UnderWay first) (UnderWay second) (sym one ∙ two))

-- the write that is taken out of its place
pub taken : (writes : List PageState) (page : ℕ) (its write : Writing) (state was : PageState) → slice_get writes page ≡ Some (UnderWay its) → state ≡ slice_index_or writes page state → was ≡ state → was ≡ UnderWay write
    → slice_get writes page ≡ Some (UnderWay write)
taken writes page its write state was at value out is =
    at ∙ ap (λ (v : PageState). Some v) (sym (value ∙ get_or_from_slice_get writes page (UnderWay its) state at) ∙ sym out ∙ is)

module _ {D : Type 0} (a : Ghosts D) where
  -- the area has room for each page whose state is kept
  pub has_room : (pages : Pages D a) (page : ℕ) → page < length pages.writes.items → (2 * page + 2) * 272 ≤ length (a.now pages.area)
  has_room pages page within = (let long = pages.long in let count = pages.writes.ok.0 in omega (arith, within, long, count))

  -- What is done beside a page

  module _ (area later : D) (page : ℕ) (room : (2 * page + 2) * 272 ≤ length (a.now area)) (bytes : a.honest area ≡ true → (at : ℕ) → slice_index_or (a.now area) at 0 < 256) (keeps : KeepsPage a page area later) where
    kept_shows : (P : Page → Type 0) → HasPage a area page P → HasPage a later page P
    kept_shows P h honest =
        let was : a.honest area ≡ true = sym keeps.honest ∙ honest in
        let same = keeps.inside was in
        let shows = h was in
        record {
          reads = subst P (sym (kept_page page (a.now area) (a.now later) (a.dirty area) (a.dirty later) same).0) shows.reads;
          images = λ image is.
              (let before = kept_images page (a.now area) (a.now later) (a.dirty area) (a.dirty later) room (bytes was) same image is in
              subst P (sym before.2) (shows.images before.0 before.1));
        }

    pub state_kept : (segment : ℕ) (state : PageState) (x : Numbers) → IsPageAt a area segment page state x → IsPageAt a later segment page state x
    state_kept segment AtRest x h = record {
      no_calls = h.no_calls;
      settled = λ honest. (let was : a.honest area ≡ true = sym keeps.honest ∙ honest in
          kept_settled (a.now area) (a.now later) (a.dirty area) (a.dirty later) page (x.texts segment page) (keeps.inside was) (h.settled was));
      reads = λ honest. (let was : a.honest area ≡ true = sym keeps.honest ∙ honest in
          (kept_page page (a.now area) (a.now later) (a.dirty area) (a.dirty later) (keeps.inside was)).0 ∙ h.reads was);
    }
    state_kept segment (UnderWay write) x h = record {
      page_is = h.page_is;
      begun = h.begun;
      under_way = kept_under_way a area later write (x.texts segment page) (as_read (x.disks.page segment page))
          (subst (λ (n : ℕ). KeepsPage a n area later) (sym h.page_is) keeps) h.under_way;
    }
    state_kept segment Failed x h = record {
      calls = h.calls;
      some = h.some;
      most = h.most;
      new = h.new;
      begun = h.begun;
      old = λ few. kept_shows (λ (it : Page). it ≡ as_read (x.disks.page segment page)) (h.old few);
      either = kept_shows (IsEither (as_read (x.disks.page segment page)) h.new) h.either;
    }

  -- a call for one page
  pub record IsCall (page : ℕ) (old new : D) : Type 0 where
    pub honest : a.honest new ≡ a.honest old
    pub bytes : a.honest new ≡ true → (at : ℕ) → slice_index_or (a.now new) at 0 < 256
    pub others : (other : ℕ) → other ≢ page → KeepsPage a other old new

  area_called : (g : Geometry) (segment page : ℕ) (old new : Pages D a) (was state : PageState) (x y : Numbers) → slice_get old.writes.items page ≡ Some was → new.writes.items ≡ slice_set old.writes.items page state
      → IsCall page old.area new.area → ((other : ℕ) → other ≢ page → SameAt segment other x y) → IsPageAt a new.area segment page state y → FitsArea a g segment old x → FitsArea a g segment new y
  area_called g segment page old new was state x y at are calls same own h = record {
    bytes = calls.bytes;
    count = ap length are ∙ length-set old.writes.items page state ∙ h.count;
    each = λ other its got.
        (let there : slice_get (slice_set old.writes.items page state) other ≡ Some its = ap (λ (states : List PageState). slice_get states other) (sym are) ∙ got in
        elim (cases_eq other page) [
          | inl here ↦
              let found : slice_get (slice_set old.writes.items page state) page ≡ Some its = subst (λ (n : ℕ). slice_get (slice_set old.writes.items page state) n ≡ Some its) here there in
              let is : state ≡ its = same_some state its (sym (get_set_same old.writes.items page was state at) ∙ found) in
              subst (λ (n : ℕ). IsPageAt a new.area segment n its y) (sym here) (subst (λ (v : PageState). IsPageAt a new.area segment page v y) is own)
          | inr differ ↦
              let before : slice_get old.writes.items other ≡ Some its = sym (get_set_other old.writes.items page other state differ) ∙ there in
              state_same a new.area segment other its x y (same other differ)
              (state_kept old.area new.area other (has_room old other (slice_get_within old.writes.items other its before)) h.bytes (calls.others other differ) segment its x (h.each other its before))
        ]);
  }

  -- The first call

  -- a page of an area that is honest
  under_same : (area : D) (write : Writing) (text : PageText) (p q : Page) → (a.honest area ≡ true → p ≡ q) → IsUnderWay a area write text p → IsUnderWay a area write text q
  under_same area (AtClosing w) text p q same h = λ honest. subst (λ (page : Page). IsUnderWay a area (AtClosing w) text page) (same honest) h honest
  under_same area (AtClosed w) text p q same h = λ honest. subst (λ (page : Page). IsUnderWay a area (AtClosed w) text page) (same honest) h honest
  under_same area (AtFilling w) text p q same h = λ honest. subst (λ (page : Page). IsUnderWay a area (AtFilling w) text page) (same honest) h honest
  under_same area (AtFilled w) text p q same h = λ honest. subst (λ (page : Page). IsUnderWay a area (AtFilled w) text page) (same honest) h honest
  under_same area (AtOpening w) text p q same h = λ honest. subst (λ (page : Page). IsUnderWay a area (AtOpening w) text page) (same honest) h honest

  module _ (old new : Pages D a) (draft : Draft) (gate : Bool) (calls : IsCall draft.page old.area new.area) where
    pub begins : (write : Writing) → draft_of write ≡ draft → calls_of write ≡ 1 → new.writes.items ≡ slice_set old.writes.items draft.page (UnderWay write)
        → ((text : PageText) → IsBegun draft gate text → SettledIn a old.area draft.page text → IsUnderWay a new.area write text (page_in (a.now old.area) draft.page))
        → FollowsBegin a old draft gate new
    begins write is one are under m s segment x h rest now =
        let its : IsAtRest a old.area segment draft.page x = h.each draft.page AtRest rest in
        let y = called m s x segment draft.page 1 in
        area_called m.geometry segment draft.page old new AtRest (UnderWay write) x y rest are calls (λ other differ. called_apart m s segment draft.page x 1 segment other (inr (refl, differ))) (record {
          page_is = ap (λ (d : Draft). d.page) is;
          begun = subst (λ (d : Draft). HasBegun segment draft.page (calls_of write) (drafted d) y) (sym is)
              (subst (λ (n : ℕ). HasBegun segment draft.page n (drafted draft) y) (sym one) (begun_first m s segment draft.page (drafted draft) x now.text_is));
          under_way = subst (λ (p : StorePage). IsUnderWay a new.area write (x.texts segment draft.page) (as_read p)) (sym (called_page m s segment draft.page x 1))
              (under_same new.area write (x.texts segment draft.page) (page_in (a.now old.area) draft.page) (as_read (x.disks.page segment draft.page))
              (λ honest. its.reads (sym calls.honest ∙ honest)) (under (x.texts segment draft.page) now.begun its.settled));
        }) h

    pub begin_fails : new.writes.items ≡ slice_set old.writes.items draft.page Failed
        → ((text : PageText) → IsBegun draft gate text → SettledIn a old.area draft.page text → HasPage a new.area draft.page (λ it. it ≡ page_in (a.now old.area) draft.page))
        → FollowsBegin a old draft gate new
    begin_fails are still m s segment x h rest now =
        let its : IsAtRest a old.area segment draft.page x = h.each draft.page AtRest rest in
        let y = called m s x segment draft.page 1 in
        let shows : HasPage a new.area draft.page (λ it. it ≡ as_read (y.disks.page segment draft.page)) = λ honest.
        (let same : page_in (a.now old.area) draft.page ≡ as_read (y.disks.page segment draft.page) =
        its.reads (sym calls.honest ∙ honest) ∙ ap as_read (sym (called_page m s segment draft.page x 1)) in
        subst (λ (p : Page). HasPage a new.area draft.page (λ it. it ≡ p)) same (still (x.texts segment draft.page) now.begun its.settled) honest) in
        area_called m.geometry segment draft.page old new AtRest Failed x y rest are calls (λ other differ. called_apart m s segment draft.page x 1 segment other (inr (refl, differ))) (record {
          calls = 1;
          some = omega arith;
          most = omega arith;
          new = drafted draft;
          begun = begun_first m s segment draft.page (drafted draft) x now.text_is;
          old = λ few. shows;
          either = λ honest. old_either (a.now new.area) (a.dirty new.area) draft.page (as_read (y.disks.page segment draft.page)) (drafted draft) (shows honest);
        }) h

  -- The next call

  module _ (old new : Pages D a) (page : ℕ) (write : Writing) (at : slice_get old.writes.items page ≡ Some (UnderWay write)) (calls : IsCall page old.area new.area) where
    pub goes_on : (next : Writing) (count : ℕ) → draft_of next ≡ draft_of write → calls_of next ≡ count → count ≡ calls_of write + 1 → new.writes.items ≡ slice_set old.writes.items page (UnderWay next)
        → ((text : PageText) (was : Page) → IsUnderWay a old.area write text was → IsUnderWay a new.area next text was)
        → FollowsNext a old page (Ok (Stepped count)) new
    goes_on next count is made more are on m s segment x h =
        let its : IsBetween a old.area segment page write x = h.each page (UnderWay write) at in
        let y = called m s x segment page count in
        area_called m.geometry segment page old new (UnderWay write) (UnderWay next) x y at are calls (λ other differ. called_apart m s segment page x count segment other (inr (refl, differ))) (record {
          page_is = ap (λ (d : Draft). d.page) is ∙ its.page_is;
          begun = subst (λ (n : ℕ). HasBegun segment page n (drafted (draft_of next)) y) (sym made)
              (subst (λ (d : Draft). HasBegun segment page count (drafted d) y) (sym is)
              (subst (λ (n : ℕ). HasBegun segment page n (drafted (draft_of write)) (called m s x segment page n)) (sym more)
              (begun_next m s segment page x (calls_of write) (drafted (draft_of write)) its.begun (some_calls write))));
          under_way = subst (λ (p : StorePage). IsUnderWay a new.area next (x.texts segment page) (as_read p)) (sym (called_page m s segment page x count))
              (on (x.texts segment page) (as_read (x.disks.page segment page)) its.under_way);
        }) h

    pub is_over : (number : ℕ) → new.writes.items ≡ slice_set old.writes.items page AtRest
        → ((text : PageText) (was : Page) → IsUnderWay a old.area write text was → IsOver a new.area (draft_of write) text)
        → FollowsNext a old page (Ok (Written number)) new
    is_over number are over m s segment x h =
        let its : IsBetween a old.area segment page write x = h.each page (UnderWay write) at in
        let y = page_settled x segment page in
        let done = over (x.texts segment page) (as_read (x.disks.page segment page)) its.under_way in
        let seq : (draft_of write).seq ≡ its.begun.text.sequence = ap (λ (p : Page). p.sequence) its.begun.text_is in
        let texts : settled_text (x.texts segment page) (draft_of write).seq ≡ y.texts segment page =
        ap (settled_text (x.texts segment page)) seq ∙ sym (settled_texts m s segment page x its.begun.text its.begun.begun) in
        area_called m.geometry segment page old new (UnderWay write) AtRest x y at are calls (λ other differ. settled_beside m s segment page x segment other (inr (refl, differ))) (record {
          no_calls = settled_calls m s segment page x its.begun.text its.begun.begun;
          settled = subst (λ (t : PageText). SettledIn a new.area page t) texts (subst (λ (n : ℕ). SettledIn a new.area n (settled_text (x.texts segment page) (draft_of write).seq)) its.page_is done.settled);
          reads = λ honest. subst (λ (n : ℕ). page_in (a.now new.area) n ≡ drafted (draft_of write)) its.page_is (done.page honest).reads
              ∙ its.begun.text_is ∙ ap as_read (sym (settled_page m s segment page x its.begun.text its.begun.begun));
        }) h

    pub step_fails : (fault : PageFault) → new.writes.items ≡ slice_set old.writes.items page Failed
        → ((text : PageText) (was : Page) → IsUnderWay a old.area write text was → HasPage a new.area (draft_of write).page (IsEither was (drafted (draft_of write))))
        → ((text : PageText) (was : Page) → calls_of write < 4 → IsUnderWay a old.area write text was → HasPage a new.area (draft_of write).page (λ it. it ≡ was))
        → FollowsNext a old page (Err fault) new
    step_fails fault are either still m s segment x h =
        let its : IsBetween a old.area segment page write x = h.each page (UnderWay write) at in
        let y = called m s x segment page (x.calls segment page + 1) in
        let made : x.calls segment page ≡ calls_of write = its.begun.calls_are in
        let same : as_read (x.disks.page segment page) ≡ as_read (y.disks.page segment page) = ap as_read (sym (called_page m s segment page x (x.calls segment page + 1))) in
        area_called m.geometry segment page old new (UnderWay write) Failed x y at are calls (λ other differ. called_apart m s segment page x (x.calls segment page + 1) segment other (inr (refl, differ))) (record {
          calls = calls_of write + 1;
          some = omega arith;
          most = omega (arith, few_calls write);
          new = drafted (draft_of write);
          begun = subst (λ (n : ℕ). HasBegun segment page (calls_of write + 1) (drafted (draft_of write)) (called m s x segment page (n + 1))) (sym made)
              (begun_next m s segment page x (calls_of write) (drafted (draft_of write)) its.begun (some_calls write));
          old = λ few. subst (λ (p : Page). HasPage a new.area page (λ it. it ≡ p)) same
              (subst (λ (n : ℕ). HasPage a new.area n (λ it. it ≡ as_read (x.disks.page segment page))) its.page_is
              (still (x.texts segment page) (as_read (x.disks.page segment page)) (omega (arith, few)) its.under_way));
          either = subst (λ (p : Page). HasPage a new.area page (IsEither p (drafted (draft_of write)))) same
              (subst (λ (n : ℕ). HasPage a new.area n (IsEither (as_read (x.disks.page segment page)) (drafted (draft_of write)))) its.page_is
              (either (x.texts segment page) (as_read (x.disks.page segment page)) its.under_way));
        }) h

  -- what it has come to
  pub tells : (old : Pages D a) (page : ℕ) (write : Writing) (news : List PageState) → slice_get old.writes.items page ≡ Some (UnderWay write)
      → (result : Result PageProgress PageFault) → StepsIn old.writes.items page write result news → TellsNumbers a old page result
  tells old page write news at (Ok (Stepped calls)) steps g segment x h =
      let its : IsBetween a old.area segment page write x = h.each page (UnderWay write) at in
      let made : x.calls segment page ≡ calls_of write = its.begun.calls_are in
      (steps.3 ∙ ap (λ (n : ℕ). n + 1) (sym made), omega (arith, made, some_calls write), omega (arith, made, steps.2, steps.3, few_calls steps.0))
  tells old page write news at (Ok (Written number)) steps g segment x h =
      let its : IsBetween a old.area segment page write x = h.each page (UnderWay write) at in
      (its.begun.calls_are ∙ steps.0, steps.1 ∙ ap (λ (p : Page). p.sequence) its.begun.text_is ∙ ap begun_number (sym its.begun.begun))
  tells old page write news at (Err fault) steps g segment x h = tt

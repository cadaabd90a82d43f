-- The writes of a segment's dirty pages: each call keeps what is known of them all.
use Rattle.std.proofs.Common.{◌≡◌, ◌≢◌, ℕ, ◌+◌, ◌-◌, ◌*◌, ◌<◌, ◌≤◌, Bool, true, false, List, [], ◌∷◌, ◌++◌, length, refl, sym, ap, subst, ◌∙◌, inl, inr, arith}
use Rattle.std.specs.Prelude.{if◌then◌else◌}
use Rattle.std.proofs.lemmas.Bool.{cases_eq, true≢false}
use Rattle.lc_disk.specs.declared.area.Area.{Ghosts}
use Rattle.lc_page.specs.Page.{Page, page_in}
use Rattle.lc_page.specs.PageVector.{entry_at, entry_text, is_dirty, settled, settled_text}
use Rattle.lc_page.specs.PageWrite.{IsBegun, KeepsPage, SettledIn}
use Rattle.lc_page.specs.Writing.{IsOver, IsUnderWay, calls_of, draft_of}
use Rattle.lc_page.specs.declared.draft.Draft.{Draft}
use Rattle.lc_page.specs.declared.page_entry.PageEntry.{PageEntry}
use Rattle.lc_page.specs.declared.page_text.PageText.{PageText}
use Rattle.lc_page.specs.declared.writing.Writing.{Writing}
use Rattle.lc_page.specs.declared.writing.Writing.TheVariants.{AtClosing, AtClosed, AtFilling, AtFilled, AtOpening}
use Rattle.lc_page.proofs.StateLemmas.{kept_page, kept_settled}
use Rattle.lc_page.proofs.WritingLemmas.{kept_under_way}
use Rattle.lc_token.specs.declared.token.Token.{Token}
use Rattle.lc_segments.specs.Pages.{FitsPage, entry_after, page_bytes}
use Rattle.lc_segments.specs.Writes.{AreApart, AreOver, AreUnderWay, AreWritesOf, HaveRoom, IsOfNone, IsOverAt, IsWriteOf}

-- Lists of writes

-- how many calls they have still to make
abbrev pub calls_left : List Writing → ℕ
calls_left [] = 0
calls_left (write ∷ writes) = (6 - calls_of write) + calls_left writes

none_push : (page : ℕ) (writes : List Writing) (write : Writing) → IsOfNone page writes → (draft_of write).page ≢ page → IsOfNone page (writes ++ write ∷ [])
none_push page [] write none differ = (differ, tt)
none_push page (w ∷ ws) write none differ = (none.0, none_push page ws write none.1 differ)

none_pushed : (page : ℕ) (writes : List Writing) (write : Writing) → IsOfNone page (writes ++ write ∷ []) → IsOfNone page writes × ((draft_of write).page ≢ page)
none_pushed page [] write none = (tt, none.0)
none_pushed page (w ∷ ws) write none = (let rest = none_pushed page ws write none.1 in ((none.0, rest.0), rest.1))

apart_push : (writes : List Writing) (write : Writing) → AreApart writes → IsOfNone (draft_of write).page writes → AreApart (writes ++ write ∷ [])
apart_push [] write apart none = (tt, tt)
apart_push (w ∷ ws) write apart none = (none_push (draft_of w).page ws write apart.0 (λ same. none.0 (sym same)), apart_push ws write apart.1 none.1)

left_push : (writes : List Writing) (write : Writing) → calls_left (writes ++ write ∷ []) ≡ calls_left writes + (6 - calls_of write)
left_push [] write = omega arith
left_push (w ∷ ws) write = (let rest = left_push ws write in omega (arith, rest))

-- no write has made more than five calls
few_calls : (write : Writing) → calls_of write ≤ 5
few_calls (AtClosing w) = omega arith
few_calls (AtClosed w) = omega arith
few_calls (AtFilling w) = omega arith
few_calls (AtFilled w) = omega arith
few_calls (AtOpening w) = omega arith

-- so each call leaves fewer
pub fewer_left : (write next : Writing) (writes : List Writing) → calls_of next ≡ calls_of write + 1 → calls_left (writes ++ next ∷ []) < calls_left (write ∷ writes)
fewer_left write next writes more =
    let push = left_push writes next in
    let few = few_calls next in
    omega (arith, push, few, more)

-- The entry of a page once it was written, if it was dirty

pub by_dirty : (P : PageEntry → Type 0) (e : PageEntry) (seq : ℕ) → (is_dirty e ≡ true → P (settled e seq)) → (is_dirty e ≡ false → P e) → P (if is_dirty e then settled e seq else e)
by_dirty P e seq put kept = elim (is_dirty e) as (λ b. is_dirty e ≡ b → P (if b then settled e seq else e)) [ true ↦ put | false ↦ kept ] refl

pub after_dirty : (token : Token) (page : ℕ) → is_dirty (entry_at token.pages page) ≡ true → entry_after token page ≡ settled (entry_at token.pages page) token.seq
after_dirty token page dirty = ap (λ (b : Bool). if b then settled (entry_at token.pages page) token.seq else entry_at token.pages page) dirty

pub after_clean : (token : Token) (page : ℕ) → is_dirty (entry_at token.pages page) ≡ false → entry_after token page ≡ entry_at token.pages page
after_clean token page clean = ap (λ (b : Bool). if b then settled (entry_at token.pages page) token.seq else entry_at token.pages page) clean

module _ {D : Type 0} (a : Ghosts D) where
  -- Room

  pub room_of : (area : D) (token : Token) (bytes : List ℕ) (front : ℕ) (writes : List Writing) → length token.pages * 544 ≤ length (a.now area) → AreWritesOf a area token bytes front writes → HaveRoom a area writes
  room_of area token bytes front [] room each = tt
  room_of area token bytes front (w ∷ ws) room each = (let within = each.0.within in omega (arith, within, room), room_of area token bytes front ws room each.1)

  room_kept : (old new : D) (writes : List Writing) → length (a.now new) ≡ length (a.now old) → HaveRoom a old writes → HaveRoom a new writes
  room_kept old new [] same room = tt
  room_kept old new (w ∷ ws) same room = (let its = room.0 in omega (arith, its, same), room_kept old new ws same room.1)

  room_push : (area : D) (writes : List Writing) (write : Writing) → (2 * (draft_of write).page + 2) * 272 ≤ length (a.now area) → HaveRoom a area writes → HaveRoom a area (writes ++ write ∷ [])
  room_push area [] write room rest = (room, tt)
  room_push area (w ∷ ws) write room rest = (rest.0, room_push area ws write room rest.1)

  pub room_over : (old new : D) (write : Writing) (writes : List Writing) → length (a.now new) ≡ length (a.now old) → HaveRoom a old (write ∷ writes) → HaveRoom a new writes
  room_over old new write writes same room = room_kept old new writes same room.1

  pub room_next : (old new : D) (write next : Writing) (writes : List Writing) → draft_of next ≡ draft_of write → length (a.now new) ≡ length (a.now old) → HaveRoom a old (write ∷ writes)
      → HaveRoom a new (writes ++ next ∷ [])
  room_next old new write next writes draft same room =
      let page : (draft_of next).page ≡ (draft_of write).page = ap (λ (d : Draft). d.page) draft in
      let its = room.0 in
      room_push new writes next (omega (arith, page, its, same)) (room_over old new write writes same room)

  -- What a call does beside its page

  none_at : (area : D) (token : Token) (bytes : List ℕ) (front : ℕ) (writes : List Writing) → AreWritesOf a area token bytes front writes → IsOfNone front writes
  none_at area token bytes front [] each = tt
  none_at area token bytes front (w ∷ ws) each = (λ same. (let before = each.0.in_front in absurd (omega (arith, before, same))), none_at area token bytes front ws each.1)

  writes_push : (area : D) (token : Token) (bytes : List ℕ) (front : ℕ) (writes : List Writing) (write : Writing) → AreWritesOf a area token bytes front writes → IsWriteOf a area token bytes front write
      → AreWritesOf a area token bytes front (writes ++ write ∷ [])
  writes_push area token bytes front [] write each its = (its, tt)
  writes_push area token bytes front (w ∷ ws) write each its = (each.0, writes_push area token bytes front ws write each.1 its)

  writes_before : (area : D) (token : Token) (bytes : List ℕ) (front : ℕ) (writes : List Writing) → AreWritesOf a area token bytes front writes → AreWritesOf a area token bytes (front + 1) writes
  writes_before area token bytes front [] each = tt
  writes_before area token bytes front (w ∷ ws) each = (
    record {
      in_front = (let before = each.0.in_front in omega (arith, before));
      within = each.0.within;
      dirty = each.0.dirty;
      seq = each.0.seq;
      content = each.0.content;
      old = each.0.old;
      under_way = each.0.under_way;
    },
    writes_before area token bytes front ws each.1,
  )

  fits_kept : (since : ℕ) (old new : D) (bytes : List ℕ) (page : ℕ) (e : PageEntry) → KeepsPage a page old new → FitsPage a since old bytes page e → FitsPage a since new bytes page e
  fits_kept since old new bytes page e keeps fits = record {
    settled_in = λ honest. (let was : a.honest old ≡ true = sym keeps.honest ∙ honest in
        kept_settled (a.now old) (a.now new) (a.dirty old) (a.dirty new) page (entry_text e) (keeps.inside was) (fits.settled_in was));
    same = λ clean late honest. (let was : a.honest old ≡ true = sym keeps.honest ∙ honest in
        ap (λ (p : Page). p.content) (kept_page page (a.now old) (a.now new) (a.dirty old) (a.dirty new) (keeps.inside was)).0 ∙ fits.same clean late was);
  }

  over_kept : (since : ℕ) (old new : D) (token : Token) (bytes : List ℕ) (page : ℕ) → KeepsPage a page old new → IsOverAt a since old token bytes page → IsOverAt a since new token bytes page
  over_kept since old new token bytes page keeps over = record {
    fits = fits_kept since old new bytes page (entry_after token page) keeps over.fits;
    wrote = λ dirty honest. (let was : a.honest old ≡ true = sym keeps.honest ∙ honest in
        ap (λ (p : Page). p.content) (kept_page page (a.now old) (a.now new) (a.dirty old) (a.dirty new) (keeps.inside was)).0 ∙ over.wrote dirty was);
  }

  -- a write of a dirty page that has made its first call
  pub has_begun : (old new : D) (token : Token) (bytes : List ℕ) (page : ℕ) (draft : Draft) (gate : Bool) (write : Writing) → page < length token.pages → is_dirty (entry_at token.pages page) ≡ true → draft.page ≡ page
      → draft.seq ≡ token.seq → draft.bytes ≡ page_bytes bytes page → IsBegun draft gate (entry_text (entry_at token.pages page)) → SettledIn a old page (entry_text (entry_at token.pages page)) → draft_of write ≡ draft
      → ((text : PageText) → IsBegun draft gate text → SettledIn a old draft.page text → IsUnderWay a new write text (page_in (a.now old) draft.page)) → IsWriteOf a new token bytes (page + 1) write
  has_begun old new token bytes page draft gate write within dirty page_is seq content begun settled draft_is goes =
      let own : (draft_of write).page ≡ page = ap (λ (d : Draft). d.page) draft_is ∙ page_is in
      let text : PageText = entry_text (entry_at token.pages page) in
      record {
        in_front = omega (arith, own);
        within = omega (arith, own, within);
        dirty = subst (λ (n : ℕ). is_dirty (entry_at token.pages n) ≡ true) (sym own) dirty;
        seq = ap (λ (d : Draft). d.seq) draft_is ∙ seq;
        content = ap (λ (d : Draft). d.bytes) draft_is ∙ content ∙ ap (page_bytes bytes) (sym own);
        old = page_in (a.now old) draft.page;
        under_way = subst (λ (n : ℕ). IsUnderWay a new write (entry_text (entry_at token.pages n)) (page_in (a.now old) draft.page)) (sym own)
            (goes text begun (subst (λ (n : ℕ). SettledIn a old n text) (sym page_is) settled));
      }

  -- a page that was dirty stands as it is to once its write is over
  over_fits : (since : ℕ) (area : D) (token : Token) (bytes : List ℕ) (front : ℕ) (write : Writing) (draft : Draft) → IsOver a area draft (entry_text (entry_at token.pages draft.page)) → is_dirty (entry_at token.pages draft.page) ≡ true
      → draft.seq ≡ token.seq → draft.bytes ≡ page_bytes bytes draft.page → IsOverAt a since area token bytes draft.page
  over_fits since area token bytes front write draft over dirty seq content = record {
    fits =
        subst (λ (e : PageEntry). FitsPage a since area bytes draft.page e) (sym (after_dirty token draft.page dirty)) (record {
          settled_in = subst (λ (n : ℕ). SettledIn a area draft.page (settled_text (entry_text (entry_at token.pages draft.page)) n)) seq over.settled;
          same = λ clean late honest. ap (λ (p : Page). p.content) (over.page honest).reads ∙ content;
        });
    wrote = λ dirty honest. ap (λ (p : Page). p.content) (over.page honest).reads ∙ content;
  }

  module _ (old new : D) (own : ℕ) (token : Token) (bytes : List ℕ) (keeps : (page : ℕ) → page ≢ own → KeepsPage a page old new) (same : length (a.now new) ≡ length (a.now old)) where
    writes_kept : (front : ℕ) (writes : List Writing) → IsOfNone own writes → AreWritesOf a old token bytes front writes → AreWritesOf a new token bytes front writes
    writes_kept front [] none each = tt
    writes_kept front (w ∷ ws) none each = (
      record {
        in_front = each.0.in_front;
        within = each.0.within;
        dirty = each.0.dirty;
        seq = each.0.seq;
        content = each.0.content;
        old = each.0.old;
        under_way = kept_under_way a old new w (entry_text (entry_at token.pages (draft_of w).page)) each.0.old (keeps (draft_of w).page none.0) each.0.under_way;
      },
      writes_kept front ws none.1 each.1,
    )

    room_now : length token.pages * 544 ≤ length (a.now old) → length token.pages * 544 ≤ length (a.now new)
    room_now room = omega (arith, room, same)

    -- the first call of a dirty page's write
    pub begins : (since : ℕ) (writes : List Writing) (write : Writing) → AreUnderWay a since old token bytes own writes → (draft_of write).page ≡ own → IsWriteOf a new token bytes (own + 1) write → AreUnderWay a since new token bytes (own + 1) (writes ++ write ∷ [])
    begins since writes write h is its =
        let none = none_at old token bytes own writes h.each in
        record {
          room = room_now h.room;
          apart = apart_push writes write h.apart (subst (λ (n : ℕ). IsOfNone n writes) (sym is) none);
          each = writes_push new token bytes (own + 1) writes write (writes_before new token bytes own writes (writes_kept own writes none h.each)) its;
          others = λ page before within of_none.
              let apart = none_pushed page writes write of_none in
              let differ : page ≢ own = λ equal. apart.1 (is ∙ sym equal) in
              over_kept since old new token bytes page (keeps page differ) (h.others page (omega (arith, before, differ)) within apart.0);
          behind = λ page after within. fits_kept since old new bytes page (entry_at token.pages page) (keeps page (λ equal. absurd (omega (arith, after, equal)))) (h.behind page (omega (arith, after)) within);
        }

  -- nothing is to be written of a page that is not dirty
  pub passes : (since : ℕ) (area : D) (token : Token) (bytes : List ℕ) (front : ℕ) (writes : List Writing) → is_dirty (entry_at token.pages front) ≡ false → AreUnderWay a since area token bytes front writes → AreUnderWay a since area token bytes (front + 1) writes
  passes since area token bytes front writes clean h = record {
    room = h.room;
    apart = h.apart;
    each = writes_before area token bytes front writes h.each;
    others = λ page before within none. elim (cases_eq page front) [
      | inl equal ↦
          subst (λ (n : ℕ). IsOverAt a since area token bytes n) (sym equal) (record {
            fits = subst (λ (e : PageEntry). FitsPage a since area bytes front e) (sym (after_clean token front clean)) (h.behind front (omega arith) (omega (arith, within, equal)));
            wrote = λ dirty. absurd (true≢false (sym dirty ∙ clean));
          })
      | inr differ ↦ h.others page (omega (arith, before, differ)) within none
    ];
    behind = λ page after within. h.behind page (omega (arith, after)) within;
  }

  -- where it ends
  pub ends : (since : ℕ) (area : D) (token : Token) (bytes : List ℕ) (writes : List Writing) → writes ≡ [] → AreUnderWay a since area token bytes (length token.pages) writes → AreOver a since area token bytes
  ends since area token bytes writes none h =
      record { room = h.room; each = λ page within. h.others page within within (subst (λ (ws : List Writing). IsOfNone page ws) (sym none) tt) }

  module _ (old new : D) (write : Writing) (writes : List Writing) (keeps : (page : ℕ) → page ≢ (draft_of write).page → KeepsPage a page old new) (same : length (a.now new) ≡ length (a.now old))
      (since : ℕ) (token : Token) (bytes : List ℕ) (front : ℕ) (h : AreUnderWay a since old token bytes front (write ∷ writes)) where
    abbrev own : ℕ
    own = (draft_of write).page

    others_now : (page : ℕ) → page ≢ own → page < front → page < length token.pages → IsOfNone page writes → IsOverAt a since new token bytes page
    others_now page differ before within none = over_kept since old new token bytes page (keeps page differ) (h.others page before within (λ equal. differ (sym equal), none))

    behind_now : (page : ℕ) → front ≤ page → page < length token.pages → FitsPage a since new bytes page (entry_at token.pages page)
    behind_now page after within =
        let before = h.each.0.in_front in
        fits_kept since old new bytes page (entry_at token.pages page) (keeps page (λ equal. absurd (omega (arith, after, equal, before)))) (h.behind page after within)

    -- a later call of the write
    pub goes_on : (next : Writing) → draft_of next ≡ draft_of write → ((text : PageText) (page : Page) → IsUnderWay a old write text page → IsUnderWay a new next text page)
        → AreUnderWay a since new token bytes front (writes ++ next ∷ [])
    goes_on next draft goes =
        let its = h.each.0 in
        let now : IsWriteOf a new token bytes front next = record {
          in_front = subst (λ (d : Draft). d.page < front) (sym draft) its.in_front;
          within = subst (λ (d : Draft). d.page < length token.pages) (sym draft) its.within;
          dirty = subst (λ (d : Draft). is_dirty (entry_at token.pages d.page) ≡ true) (sym draft) its.dirty;
          seq = subst (λ (d : Draft). d.seq ≡ token.seq) (sym draft) its.seq;
          content = subst (λ (d : Draft). d.bytes ≡ page_bytes bytes d.page) (sym draft) its.content;
          old = its.old;
          under_way = subst (λ (d : Draft). IsUnderWay a new next (entry_text (entry_at token.pages d.page)) its.old) (sym draft) (goes (entry_text (entry_at token.pages own)) its.old its.under_way);
        } in
        record {
          room = room_now old new own token bytes keeps same h.room;
          apart = apart_push writes next h.apart.1 (subst (λ (d : Draft). IsOfNone d.page writes) (sym draft) h.apart.0);
          each = writes_push new token bytes front writes next (writes_kept old new own token bytes keeps same front writes h.apart.0 h.each.1) now;
          others = λ page before within of_none.
              let apart = none_pushed page writes next of_none in
              others_now page (λ equal. apart.1 (ap (λ (d : Draft). d.page) draft ∙ sym equal)) before within apart.0;
          behind = behind_now;
        }

    -- its last call
    pub is_over : ((text : PageText) (page : Page) → IsUnderWay a old write text page → IsOver a new (draft_of write) text) → AreUnderWay a since new token bytes front writes
    is_over over = record {
      room = room_now old new own token bytes keeps same h.room;
      apart = h.apart.1;
      each = writes_kept old new own token bytes keeps same front writes h.apart.0 h.each.1;
      others = λ page before within none. elim (cases_eq page own) [
        | inl equal ↦
            (let its = h.each.0 in
            subst (λ (n : ℕ). IsOverAt a since new token bytes n) (sym equal)
            (over_fits since new token bytes front write (draft_of write) (over (entry_text (entry_at token.pages own)) its.old its.under_way) its.dirty its.seq its.content))
        | inr differ ↦ others_now page differ before within none
      ];
      behind = behind_now;
    }

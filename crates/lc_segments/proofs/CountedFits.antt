-- A record that is counted keeps the area of a segment's pages as its token says.
use Rattle.std.proofs.Common.{◌≡◌, ℕ, ◌+◌, ◌-◌, ◌*◌, ◌^◌, ◌<◌, ◌≤◌, ◌||◌, Bool, true, false, cond, max, min, List, [], ◌∷◌, length, drop, get_or, refl, sym, ap, subst, ◌∙◌, arith}
use Rattle.std.proofs.lemmas.Bool.{lt-ltb}
use Rattle.std.proofs.lemmas.List.{ext_get_or, get_or-take, get_or-drop, length-take, length-drop}
use Rattle.std.specs.List.{list_any}
use Rattle.lc_disk.specs.declared.area.Area.{Ghosts}
use Rattle.lc_page.specs.declared.page_entry.PageEntry.{PageEntry}
use Rattle.lc_page.specs.PageVector.{entry_at, touched_at}
use Rattle.lc_record.specs.Content.{put}
use Rattle.lc_record.specs.declared.record.RangeData.{RangeData}
use Rattle.lc_record.proofs.SegmentLemmas.{length-put}
use Rattle.lc_token.specs.declared.token.Token.{Token}
use Rattle.lc_tx.specs.Image.{laid_over}
use Rattle.lc_segments.specs.Pages.{FitsPage, FitsToken, page_bytes}
use Rattle.lc_segments.specs.Touched.{is_on, touched_pages}
use Rattle.lc_tx.proofs.PutLemmas.{put_out}
use Rattle.lc_segments.proofs.Laying.{length-laid_over}
use Rattle.lc_segments.proofs.TouchedPages.{entry-touched_pages, length-touched_pages, on_page}

-- The bytes of a page on which no range has a byte

page_byte : (bytes : List ℕ) (page i : ℕ) → i < 256 → get_or (page_bytes bytes page) i 0 ≡ get_or bytes (page * 256 + i) 0
page_byte bytes page i within = get_or-take 256 (drop (page * 256) bytes) i 0 within ∙ get_or-drop (page * 256) bytes i 0

length-page_bytes : (bytes : List ℕ) (page : ℕ) → length (page_bytes bytes page) ≡ min 256 (length bytes - page * 256)
length-page_bytes bytes page = length-take 256 (drop (page * 256) bytes) ∙ ap (min 256) (length-drop (page * 256) bytes)

other_byte : (range : RangeData) (bytes : List ℕ) (page i : ℕ) → is_on page range ≡ false → i < 256
    → get_or (put range.offset range.bytes bytes) (page * 256 + i) 0 ≡ get_or bytes (page * 256 + i) 0
other_byte range bytes page i off within = put_out range.offset range.bytes bytes (page * 256 + i) (λ j l at.
    let on : is_on page range ≡ true = on_page range page (omega arith) (omega arith) (omega arith) in
    let both : true ≡ false = sym on ∙ off in cc)

other_page : (range : RangeData) (bytes : List ℕ) (page : ℕ) → is_on page range ≡ false → page_bytes (put range.offset range.bytes bytes) page ≡ page_bytes bytes page
other_page range bytes page off =
    let new : List ℕ = put range.offset range.bytes bytes in
    let long : length (page_bytes new page) ≡ length (page_bytes bytes page) =
    length-page_bytes new page ∙ (ap (λ (n : ℕ). min 256 (n - page * 256)) (length-put range.offset range.bytes bytes) ∙ sym (length-page_bytes bytes page)) in
    ext_get_or 0 (page_bytes new page) (page_bytes bytes page) long (λ i l.
    let within : i < 256 = omega (arith, length-page_bytes new page) in
    page_byte new page i within ∙ (other_byte range bytes page i off within ∙ sym (page_byte bytes page i within)))

or_left : (x y : Bool) → (x || y) ≡ false → x ≡ false
or_left true y is = is
or_left false y is = refl

or_right : (x y : Bool) → (x || y) ≡ false → y ≡ false
or_right true y is = absurd cc
or_right false y is = is

pub other_pages : (ranges : List RangeData) (bytes : List ℕ) (page : ℕ) → list_any (is_on page) ranges ≡ false → page_bytes (laid_over ranges bytes) page ≡ page_bytes bytes page
other_pages [] bytes page off = refl
other_pages (range ∷ ranges) bytes page off =
    other_pages ranges (put range.offset range.bytes bytes) page (or_right (is_on page range) (list_any (is_on page) ranges) off)
    ∙ other_page range bytes page (or_left (is_on page range) (list_any (is_on page) ranges) off)

-- What is kept of a page

is_free : (b : Bool) (seq : ℕ) (entry : PageEntry) → entry.uncommitted ≡ 0 → (cond b (touched_at entry seq) entry).uncommitted ≡ 0
is_free true seq entry is = is
is_free false seq entry is = is

is_stable : (b : Bool) (seq : ℕ) (entry : PageEntry) → entry.stable ≤ seq → (cond b (touched_at entry (seq + 1)) entry).stable ≤ seq + 1
is_stable true seq entry is = omega arith
is_stable false seq entry is = omega arith

is_touched : (b : Bool) (seq : ℕ) (entry : PageEntry) → entry.touched ≤ seq → (cond b (touched_at entry (seq + 1)) entry).touched ≤ seq + 1
is_touched true seq entry is = omega arith
is_touched false seq entry is = omega arith

module _ {D : Type 0} (a : Ghosts D) (since : ℕ) (area : D) where
  page_fits : (b : Bool) (seq page : ℕ) (old new : List ℕ) (entry : PageEntry) → entry.stable ≤ seq → (b ≡ false → page_bytes new page ≡ page_bytes old page)
      → FitsPage a since area old page entry → FitsPage a since area new page (cond b (touched_at entry (seq + 1)) entry)
  page_fits true seq page old new entry stable same h = record {
    settled_in = h.settled_in;
    same = λ clean late honest. let dirty = lt-ltb entry.stable (max entry.touched (seq + 1)) (omega arith) in let both : true ≡ false = sym dirty ∙ clean in absurd cc;
  }
  page_fits false seq page old new entry stable same h = record {
    settled_in = h.settled_in;
    same = λ clean late honest. h.same clean late honest ∙ sym (same refl);
  }

-- the token's number rises by one, the record's ranges are laid over the segment's bytes, and the pages on which they have a
-- byte are touched
pub counted_fits : {D : Type 0} (a : Ghosts D) (since : ℕ) (area : D) (token : Token) (bytes : List ℕ) (ranges : List RangeData)
    → FitsToken a since area token bytes → token.seq < 2 ^ 60
    → FitsToken a since area (record token { seq = token.seq + 1; pages = touched_pages ranges (token.seq + 1) token.pages }) (laid_over ranges bytes)
counted_fits {D} a since area token bytes ranges h next =
    let new : List PageEntry = touched_pages ranges (token.seq + 1) token.pages in
    let count : length new ≡ length token.pages = length-touched_pages ranges (token.seq + 1) token.pages in
    let laid : length (laid_over ranges bytes) ≡ length bytes = length-laid_over ranges bytes in
    let any : ℕ → Bool = λ page. list_any (is_on page) ranges in
    let at = λ (page : ℕ) (l : page < length new). entry-touched_pages ranges (token.seq + 1) token.pages page (omega (arith, l, count)) in
    let among = λ (page : ℕ) (l : page < length new). (let m : page < length token.pages = omega (arith, l, count) in m) in record {
      long = omega (arith, h.long);
      few = omega (arith, h.few);
      room = omega (arith, h.room);
      small = omega arith;
      free = λ page l. subst (λ (e : PageEntry). e.uncommitted ≡ 0) (sym (at page l)) (is_free (any page) (token.seq + 1) (entry_at token.pages page) (h.free page (among page l)));
      stable = λ page l. subst (λ (e : PageEntry). e.stable ≤ token.seq + 1) (sym (at page l)) (is_stable (any page) token.seq (entry_at token.pages page) (h.stable page (among page l)));
      touched = λ page l. subst (λ (e : PageEntry). e.touched ≤ token.seq + 1) (sym (at page l)) (is_touched (any page) token.seq (entry_at token.pages page) (h.touched page (among page l)));
      each = λ page l. subst (FitsPage a since area (laid_over ranges bytes) page) (sym (at page l))
          (page_fits a since area (any page) token.seq page bytes (laid_over ranges bytes) (entry_at token.pages page) (h.stable page (among page l)) (other_pages ranges bytes page) (h.each page (among page l)));
    }

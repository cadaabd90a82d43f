-- The areas of a recovered store fit the log and the segments that come up on them.
use Rattle.std.proofs.Common.{◌≡◌, ℕ, ◌+◌, ◌*◌, ◌<◌, length, Some, refl, sym, ap, subst, ◌∙◌, arith}
use Rattle.std.specs.Prelude.{slice_get, option_map, IsSome}
use Rattle.std.proofs.lemmas.Option.{slice_get-map, slice_get_within, same_Some as one_item}
use Rattle.lc_disk.specs.declared.area.Area.{Ghosts}
use Rattle.lc_page.specs.Page.{Page, slot_at}
use Rattle.lc_page.specs.PageVector.{entry_at, new_entry}
use Rattle.lc_page.specs.PageWrite.{IsSettled}
use Rattle.lc_page.specs.declared.page_entry.PageEntry.{PageEntry}
use Rattle.lc_page.proofs.StateLemmas.{clean_settled}
use Rattle.lc_recover.specs.Reads.{HaveLengths, area_count, area_len}
use Rattle.lc_recover.specs.Recovered.{RecoveredStore, AreFinished, page_of}
use Rattle.lc_recover.proofs.Images.{count-areas, len-log, len-segment}
use Rattle.lc_token.specs.declared.token.Token.{Token}
use Rattle.lc_node.specs.Fresh.{HasWholePages, fresh_token, segment_bytes}
use Rattle.lc_segments.specs.Pages.{FitsPage, FitsToken}
use Rattle.lc_node.specs.Rooms.{FitsLog, FitsRoom, IsOfSegment, IsRoomOf}
use Rattle.lc_applied.specs.AppliedParts.{laid_parts}
use Rattle.lc_segments.specs.SegView.{SegView}
use Rattle.lc_node.specs.declared.seg_room.SegRoom.{SegRoom}
use Rattle.lc_node.proofs.FreshPages.{bytes_long, entries_count, entry_there, page_there}

module _ {D : Type 0} (r : RecoveredStore D) where
  whole_long : (segment : ℕ) → HasWholePages r segment → length (segment_bytes r segment) ≡ r.geometry.pages * 256
  whole_long segment whole =
      bytes_long (λ p. (page_of r segment p).bytes) 0 r.geometry.pages
      (λ k within. (let same : 0 + k ≡ k = omega arith in ap (λ (p : ℕ). length (page_of r segment p).bytes) same ∙ whole.long k within))

  -- the room of a segment of the store
  pub of_segment : (segment : ℕ) (room : SegRoom D) → IsRoomOf r segment room → IsOfSegment segment room
  of_segment segment room its = record {
    key = its.key;
    of_side = ap (λ (v : SegView D). v.segment) its.side;
    here = subst (λ (v : SegView D). IsSome v.image) (sym its.side) refl;
  }

module _ {D : Type 0} (a : Ghosts D) (r : RecoveredStore D) (lengths : HaveLengths a r.geometry r.areas) where
  area_long : (k n : ℕ) (area : D) → slice_get r.areas k ≡ Some area → area_len r.geometry k ≡ Some n → length (a.now area) ≡ n
  area_long k n area got is =
      one_item (length (a.now area)) n (ap (option_map (λ (d : D). length (a.now d))) (sym got) ∙ sym (slice_get-map (λ (d : D). length (a.now d)) r.areas k) ∙ lengths k ∙ is)

  pub areas_count : length r.areas ≡ r.geometry.nodes + r.geometry.segments
  areas_count = count-areas a r.geometry r.areas lengths

  log_long : (node : ℕ) (area : D) → node < r.geometry.nodes → slice_get r.areas node ≡ Some area → length (a.now area) ≡ 8 * (r.geometry.words + 1)
  log_long node area within got = area_long node (8 * (r.geometry.words + 1)) area got (len-log r.geometry node within)

  segment_long : (s : ℕ) (area : D) → slice_get r.areas (r.geometry.nodes + s) ≡ Some area → length (a.now area) ≡ 2 * 272 * r.geometry.pages
  segment_long s area got =
      let within : r.geometry.nodes + s < area_count r.geometry = omega (arith, areas_count, slice_get_within r.areas (r.geometry.nodes + s) area got) in
      area_long (r.geometry.nodes + s) (2 * 272 * r.geometry.pages) area got (len-segment r.geometry (r.geometry.nodes + s) (omega arith) within)

  module _ (each : AreFinished a r) where
    pub fits_log : (node words : ℕ) (area : D) → node < r.geometry.nodes → words ≡ r.geometry.words → slice_get r.areas node ≡ Some area → FitsLog a words area
    fits_log node words area within room got = record {
      long = omega (arith, log_long node area within got, room);
      closed = λ honest. (each node area got honest).closed within;
      clean = λ honest. (each node area got honest).clean 0;
    }

    -- a segment, counted from 0, and its area
    module _ (s : ℕ) (area : D) (got : slice_get r.areas (r.geometry.nodes + s) ≡ Some area) (whole : HasWholePages r (s + 1)) where
      entry_is : (page : ℕ) → page < r.geometry.pages → entry_at (fresh_token r (s + 1)).pages page ≡ new_entry (page_of r (s + 1) page).text
      entry_is page within = entry_there (λ p. (page_of r (s + 1) p).text) r.geometry.pages page within

      fits_page : (page : ℕ) → page < r.geometry.pages → FitsPage a 0 area (segment_bytes r (s + 1)) page (new_entry (page_of r (s + 1) page).text)
      fits_page page within = record {
        settled_in = λ honest.
            (let its = each (r.geometry.nodes + s) area got honest in
            subst (IsSettled (a.now area) (a.dirty area) page) (its.texts s page refl within)
            (clean_settled (a.now area) (a.dirty area) page (λ slot k _. its.clean (slot_at page slot + k))));
        same = λ _ _ honest.
            (let its = each (r.geometry.nodes + s) area got honest in
            ap (λ (p : Page). p.content) (its.reads s page refl within)
            ∙ sym (page_there (λ p. (page_of r (s + 1) p).bytes) r.geometry.pages page whole.long within));
      }

      count : length (fresh_token r (s + 1)).pages ≡ r.geometry.pages
      count = entries_count (λ p. (page_of r (s + 1) p).text) 0 r.geometry.pages

      known : (page : ℕ) → page < length (fresh_token r (s + 1)).pages → page < r.geometry.pages
      known page within = omega (arith, count, within)

      fits_token : FitsToken a 0 area (fresh_token r (s + 1)) (segment_bytes r (s + 1))
      fits_token = record {
        long =
            (let bytes = whole_long r (s + 1) whole in
            omega (arith, count, bytes));
        few = (let few = r.geometry.few_pages in omega (arith, count, few));
        room = omega (arith, count, segment_long s area got);
        small = whole.small;
        free = λ page within. ap (λ (e : PageEntry). e.uncommitted) (entry_is page (known page within));
        stable = λ page within. omega (arith, ap (λ (e : PageEntry). e.stable) (entry_is page (known page within)), whole.within page (known page within));
        touched = λ page within. omega (arith, ap (λ (e : PageEntry). e.touched) (entry_is page (known page within)), whole.within page (known page within));
        each = λ page within. subst (FitsPage a 0 area (segment_bytes r (s + 1)) page) (sym (entry_is page (known page within))) (fits_page page (known page within));
      }

      pub fits_room : (room : SegRoom D) → IsRoomOf r (s + 1) room → FitsRoom a room area
      fits_room room its = record {
        of_token = ap (λ (t : Token). t.segment) its.token ∙ sym (ap (λ (v : SegView D). v.segment) its.side);
        number = ap (λ (t : Token). t.seq) its.token ∙ sym (ap (λ (v : SegView D). v.backlog.applied) its.side);
        fits = subst (λ (v : SegView D). FitsToken a v.since area room.token (laid_parts v.applied v.base)) (sym its.side)
            (subst (λ (t : Token). FitsToken a 0 area t its.base.items) (sym its.token)
            (subst (FitsToken a 0 area (fresh_token r (s + 1))) (sym its.base_bytes) fits_token));
      }

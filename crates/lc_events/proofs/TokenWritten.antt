-- What the end of a page write makes of the segment's token.
use Rattle.std.proofs.Common.{◌≡◌, ◌≢◌, ℕ, ◌^◌, ◌<◌, ◌≤◌, List, Option, Some, length, sym, ap, subst, ◌∙◌, arith, inl, inr, get_or-set_other, get_or-set_same, length-set}
use Rattle.std.specs.Prelude.{max, nat_lt}
use Rattle.std.specs.Option.{unwrap_or}
use Rattle.std.proofs.lemmas.Bool.{cases_eq}
use Rattle.lc_page.specs.declared.page_entry.PageEntry.{PageEntry}
use Rattle.lc_page.specs.declared.page_text.PageText.{PageText}
use Rattle.lc_page.specs.PageVector.{entry_at, entry_text, is_dirty as is_dirty_entry, no_entry, settled, settled_text}
use Rattle.lc_record.specs.Marks.{counting}
use Rattle.lc_model.proofs.Moves.{update_at-own as own_at}
use Rattle.lc_token.specs.Token.{IsWritten}
use Rattle.lc_token.specs.declared.token.Token.{Token}
use Rattle.lc_token.specs.Clean.{closed_of}
use Rattle.lc_model.specs.Merge.{Page}
use Rattle.lc_model.specs.Merging.{counted_all}
use Rattle.lc_model.specs.Moves.{update_at}
use Rattle.lc_model.specs.State.{Setting, State}
use Rattle.lc_model.proofs.Seats.{update-own}
use Rattle.lc_settled.specs.Numbers.{Numbers, stable, token_number}
use Rattle.lc_settled.specs.Settled.{begun_number}
use Rattle.lc_desk.specs.Slots.{FitsToken}
use Rattle.lc_settled.specs.Turns.{is_dirty, oldest_dirty, page_settled, settled_with, written}
use Rattle.lc_desk.proofs.Gained.{other_segment}
use Rattle.lc_events.proofs.Oldest.{reached_is}

module _ (m : Setting) (s : State) (x : Numbers) (node segment page : ℕ) (old new : Token) (text : Page) (begun : x.disks.begun segment page ≡ Some text)
    (within : page < m.geometry.pages) (h : FitsToken m segment old s x) (is : IsWritten old page text.sequence new) where
  abbrev z : Numbers
  z = page_settled x segment page

  abbrev y : Numbers
  y = written m.geometry s x node segment page

  abbrev put : PageEntry
  put = settled (entry_at old.pages page) text.sequence

  there : page < length old.pages
  there = (let count = h.pages in omega (arith, count, within))

  -- the entry of the page is settled, and the others stay
  own_entry : entry_at new.pages page ≡ put
  own_entry = ap (λ (l : List PageEntry). entry_at l page) is.pages ∙ get_or-set_same old.pages page put no_entry there

  other_entry : (other : ℕ) → other ≢ page → entry_at new.pages other ≡ entry_at old.pages other
  other_entry other differ = ap (λ (l : List PageEntry). entry_at l other) is.pages ∙ get_or-set_other old.pages page other put no_entry differ

  -- so are the numbers
  page_is : (other : ℕ) → (settled_with x.disks segment page (x.disks.begun segment page)).page segment other ≡ update_at x.disks.page segment page text segment other
  page_is other = ap (λ (o : Option Page). (settled_with x.disks segment page o).page segment other) begun

  number_is : begun_number (x.disks.begun segment page) ≡ text.sequence
  number_is = ap begun_number begun

  token_number_is : token_number s z segment ≡ token_number s x segment
  token_number_is = ap (λ (f : ℕ → ℕ). counted_all f (closed_of s.history) segment) (ap (λ (o : Option Page). (settled_with x.disks segment page o).numbers) begun)

  stable_own : stable z segment page ≡ text.sequence
  stable_own = ap (λ (p : Page). p.sequence) (page_is page ∙ own_at x.disks.page segment page text)

  stable_other : (other : ℕ) → other ≢ page → stable z segment other ≡ stable x segment other
  stable_other other differ = ap (λ (p : Page). p.sequence) (page_is other ∙ other_segment x.disks.page segment page text other differ)

  stable_now : (other : ℕ) → other < m.geometry.pages → (entry_at new.pages other).stable ≡ stable z segment other
  stable_now other known = elim (cases_eq other page) [
    | inl same ↦ ap (λ (i : ℕ). (entry_at new.pages i).stable) same ∙ ap (λ (e : PageEntry). e.stable) own_entry ∙ sym stable_own ∙ sym (ap (stable z segment) same)
    | inr differ ↦ ap (λ (e : PageEntry). e.stable) (other_entry other differ) ∙ h.stable_is other known ∙ sym (stable_other other differ)
  ]

  touched_now : (other : ℕ) → other < m.geometry.pages → (entry_at new.pages other).touched ≡ x.touched segment other
  touched_now other known = elim (cases_eq other page) [
    | inl same ↦ ap (λ (i : ℕ). (entry_at new.pages i).touched) same ∙ ap (λ (e : PageEntry). e.touched) own_entry ∙ h.touched page within ∙ sym (ap (x.touched segment) same)
    | inr differ ↦ ap (λ (e : PageEntry). e.touched) (other_entry other differ) ∙ h.touched other known
  ]

  dirty_now : (other : ℕ) → other < m.geometry.pages → is_dirty_entry (entry_at new.pages other) ≡ is_dirty z segment other
  dirty_now other known = ap (λ (k : ℕ). nat_lt k (entry_at new.pages other).touched) (stable_now other known) ∙ ap (nat_lt (stable z segment other)) (touched_now other known)

  count : length new.pages ≡ m.geometry.pages
  count = ap length is.pages ∙ length-set old.pages page put ∙ h.pages

  clean_now : new.clean ≡ y.clean segment
  clean_now =
      let few = m.geometry.few_pages in
      let reached : unwrap_or (oldest_dirty z segment (counting 0 m.geometry.pages)) old.seq ≡ is.reached =
      reached_is z segment m.geometry.pages old.seq is.reached new.pages count (omega (arith, few)) dirty_now stable_now is.is_reached in
      is.clean ∙ ap (λ (k : ℕ). max k is.reached) h.clean
      ∙ ap (max (x.clean segment)) (sym reached ∙ ap (unwrap_or (oldest_dirty z segment (counting 0 m.geometry.pages))) (h.number ∙ sym token_number_is))
      ∙ sym (update-own x.clean segment (max (x.clean segment) (unwrap_or (oldest_dirty z segment (counting 0 m.geometry.pages)) (token_number s z segment))))

  pub token_written_fits : FitsToken m segment new s y
  token_written_fits = record {
    segment_is = is.segment ∙ h.segment_is;
    number = is.seq ∙ h.number ∙ sym token_number_is;
    small = subst (λ (k : ℕ). k ≤ 2 ^ 60) (sym is.seq) h.small;
    clean = clean_now;
    pages = count;
    touched = touched_now;
    stable_is = stable_now;
    text_is = λ other known. elim (cases_eq other page) [
      | inl same ↦
          ap (λ (i : ℕ). entry_text (entry_at new.pages i)) same ∙ ap entry_text own_entry
          ∙ ap (λ (t : PageText). settled_text t text.sequence) (h.text_is page within) ∙ ap (settled_text (x.texts segment page)) (sym number_is)
          ∙ sym (ap (z.texts segment) same ∙ own_at x.texts segment page (settled_text (x.texts segment page) (begun_number (x.disks.begun segment page))))
      | inr differ ↦
          ap entry_text (other_entry other differ) ∙ h.text_is other known
          ∙ sym (other_segment x.texts segment page (settled_text (x.texts segment page) (begun_number (x.disks.begun segment page))) other differ)
    ];
    uncounted = λ other known. elim (cases_eq other page) [
      | inl same ↦ ap (λ (i : ℕ). (entry_at new.pages i).uncommitted) same ∙ ap (λ (e : PageEntry). e.uncommitted) own_entry ∙ h.uncounted page within
      | inr differ ↦ ap (λ (e : PageEntry). e.uncommitted) (other_entry other differ) ∙ h.uncounted other known
    ];
  }

-- What a token says of its pages, and what numbers say beside a state, where little changes.
use Rattle.std.proofs.Common.{◌≡◌, ℕ, ◌+◌, ◌<◌, ◌≤◌, true, false, List, All, Some, length, refl, sym, ap, subst, ◌∙◌, inl, inr, arith}
use Rattle.std.specs.Prelude.{◌%◌, ◌==◌, if◌then◌else◌}
use Rattle.std.proofs.lemmas.List.Elements.{All-nil}
use Rattle.std.proofs.lemmas.List.{length-map}
use Rattle.std.proofs.lemmas.Option.{get_or_from_slice_get}
use Rattle.std.proofs.Math.Nat.{le_refl}
use Rattle.lc_page.specs.declared.page_entry.PageEntry.{PageEntry}
use Rattle.lc_page.specs.PageVector.{entry_at, no_entry}
use Rattle.lc_page.specs.declared.page_text.PageText.{PageText}
use Rattle.lc_record.specs.Marks.{counting}
use Rattle.lc_record.specs.Recorded.{records_from}
use Rattle.lc_record.specs.Transaction.{Transaction, effects}
use Rattle.lc_record.specs.declared.geometry.Geometry.{Geometry}
use Rattle.lc_record.specs.declared.record.Record.{Record}
use Rattle.lc_record.proofs.ListLemmas.{length-counting, slice_get-map_some as get-map}
use Rattle.lc_recover.proofs.Images.{get-counting}
use Rattle.lc_model.specs.History.{transactions}
use Rattle.lc_model.specs.Merge.{Page}
use Rattle.lc_model.specs.Recovered.{recovered_disks}
use Rattle.lc_model.specs.State.{Up, Setting, State, fresh}
use Rattle.lc_model.specs.Stored.{Disks, Shows, base, Fits as FitsDisks}
use Rattle.lc_token.specs.Clean.{IsCleanTo, IsTouched, TokenFits, all_of}
use Rattle.lc_journal.specs.Coherent.{AreCoherent, entries_of}
use Rattle.lc_settled.specs.Numbers.{Numbers, recovered_numbers, stable, token_number}

-- Tokens

-- the same transactions, over the same content
pub token_moved : (m : Setting) (s after : State) (d : Disks) (segment seq clean : ℕ) (pages : List PageEntry) → after.earlier ≡ s.earlier → transactions after.history ≡ transactions s.history
    → TokenFits m s d segment seq clean pages → TokenFits m after d segment seq clean pages
token_moved m s after d segment seq clean pages earlier history h =
    let all_are : all_of m s d ≡ all_of m after d =
    ap (λ (ts : List Transaction). records_from d.numbers (effects ts m.start) (transactions s.history)) (sym earlier)
    ∙ ap (λ (ts : List Transaction). records_from d.numbers (base m after) ts) (sym history) in
    record {
      count = h.count;
      few = h.few;
      stable = h.stable;
      within = h.within;
      touched = subst (λ (rs : List Record). All (IsTouched m.geometry segment seq pages) rs) all_are h.touched;
      cleaned = subst (λ (rs : List Record). All (IsCleanTo m.geometry d segment clean) rs) all_are h.cleaned;
    }

-- of the entries only what is touched and what is stable counts
pub token_alike : (m : Setting) (s : State) (d : Disks) (segment seq clean : ℕ) (pages others : List PageEntry) → length others ≡ length pages
    → ((page : ℕ) → page < m.geometry.pages → ((entry_at others page).stable ≡ (entry_at pages page).stable) × ((entry_at others page).touched ≡ (entry_at pages page).touched))
    → TokenFits m s d segment seq clean pages → TokenFits m s d segment seq clean others
token_alike m s d segment seq clean pages others long same h = record {
  count = long ∙ h.count;
  few = h.few;
  stable = λ page text known shows. (let least = h.stable page text known shows in omega (arith, least, (same page known).0));
  within = λ page known. (let most = h.within page known in omega (arith, most, (same page known).0));
  touched = λ k r k_in counted page known has. (let least = h.touched k r k_in counted page known has in omega (arith, least, (same page known).1));
  cleaned = h.cleaned;
}

-- less is clean too
pub token_lower : (m : Setting) (s : State) (d : Disks) (segment seq clean low : ℕ) (pages : List PageEntry) → low ≤ clean → TokenFits m s d segment seq clean pages → TokenFits m s d segment seq low pages
token_lower m s d segment seq clean low pages below h = record {
  count = h.count;
  few = h.few;
  stable = h.stable;
  within = h.within;
  touched = h.touched;
  cleaned = λ k r k_in least page text known has shows. h.cleaned k r k_in (omega (arith, least, below)) page text known has shows;
}

-- Entries

pub entry_is : (g : Geometry) (x : Numbers) (segment page : ℕ) → page < g.pages → entry_at (entries_of g x segment) page ≡ record no_entry { touched = x.touched segment page; stable = stable x segment page }
entry_is g x segment page within =
    let same : 0 + page ≡ page = omega arith in
    get_or_from_slice_get (entries_of g x segment) page (entry page) no_entry
    (get-map entry (counting 0 g.pages) page page (get-counting 0 g.pages page within ∙ ap (λ (i : ℕ). Some i) same))
  where
    entry : ℕ → PageEntry
    entry p = record no_entry { touched = x.touched segment p; stable = stable x segment p }

pub entries_count : (g : Geometry) (x : Numbers) (segment : ℕ) → length (entries_of g x segment) ≡ g.pages
entries_count g x segment =
    length-map (counting 0 g.pages) (λ (page : ℕ). record no_entry { touched = x.touched segment page; stable = stable x segment page }) ∙ length-counting 0 g.pages

-- States and numbers

-- the same history
pub coherent_state : (m : Setting) (s after : State) (x : Numbers) → after.earlier ≡ s.earlier → after.history ≡ s.history → AreCoherent m s x → AreCoherent m after x
coherent_state m s after x earlier history h = record {
  tokens = λ segment first last.
      subst (λ (k : ℕ). TokenFits m after x.disks segment k (x.clean segment) (entries_of m.geometry x segment)) (same segment)
      (token_moved m s after x.disks segment (token_number s x segment) (x.clean segment) (entries_of m.geometry x segment) earlier (ap transactions history) (h.tokens segment first last));
  clean = λ segment first last. (let most = h.clean segment first last in omega (arith, most, same segment));
  known = h.known;
  resets = h.resets;
  writes = λ segment page.
      let its = h.writes segment page in
      record { begun = its.begun; opened = its.opened; within = λ text is. (let most = its.within text is in omega (arith, most, same segment)) };
}
  where
    same : (segment : ℕ) → token_number s x segment ≡ token_number after x segment
    same segment = ap (λ es. token_number (record s { history = es }) x segment) (sym history)

-- what the nodes have applied, what waits there, the rounds of logs and what they have dropped, and the steps of a recovery
-- are no part of it
pub coherent_apart : (m : Setting) (s : State) (x : Numbers) (applied : ℕ → ℕ → ℕ) (waiting : ℕ → ℕ → List ℕ) (round trimmed : ℕ → ℕ) (steps : ℕ) → AreCoherent m s x
    → AreCoherent m s (record x { applied = applied; waiting = waiting; round = round; trimmed = trimmed; steps = steps })
coherent_apart m s x applied waiting round trimmed steps h = record {
  tokens = h.tokens;
  clean = h.clean;
  known = h.known;
  resets = h.resets;
  writes = λ segment page.
      let its = h.writes segment page in
      record { begun = its.begun; opened = its.opened; within = its.within };
}

-- nor is what the disk says of a page's slots
pub coherent_texts : (m : Setting) (s : State) (x : Numbers) (texts : ℕ → ℕ → PageText) → AreCoherent m s x → AreCoherent m s (record x { texts = texts })
coherent_texts m s x texts h = record {
  tokens = h.tokens;
  clean = h.clean;
  known = h.known;
  resets = h.resets;
  writes = λ segment page.
      let its = h.writes segment page in
      record { begun = its.begun; opened = its.opened; within = its.within };
}

-- After a recovery

pub coherent_fresh : (m : Setting) (earlier : List Transaction) (numbers : ℕ → ℕ) (pages : ℕ → ℕ → Page) (texts : ℕ → ℕ → PageText)
    → FitsDisks m (fresh m.geometry earlier Up) (recovered_disks numbers pages)
    → AreCoherent m (fresh m.geometry earlier Up) (recovered_numbers m.geometry numbers pages texts)
coherent_fresh m earlier numbers pages texts fits = record {
  tokens = λ segment first last.
      record {
        count = entries_count m.geometry x segment;
        few = (let few = m.geometry.few_pages in omega (arith, few));
        stable = λ page text known shows. stable_of segment page text known shows;
        within = λ page known.
            let is = ap (λ (e : PageEntry). e.stable) (entry_is m.geometry x segment page known) in
            let most = (fits.stands segment page (pages segment page) first last known (inl refl)).within in
            omega (arith, is, most);
        touched = All-nil (IsTouched m.geometry segment (numbers segment) (entries_of m.geometry x segment));
        cleaned = All-nil (IsCleanTo m.geometry x.disks segment (numbers segment));
      };
  clean = λ segment first last. le_refl (numbers segment);
  known = λ node segment first last. elim (segment % m.geometry.nodes == node) as (λ b. (if b then numbers segment else 0) ≤ numbers segment) [
    | true ↦ le_refl (numbers segment)
    | false ↦ omega arith
  ];
  resets = λ node. refl;
  writes = λ segment page. record { begun = refl; opened = refl; within = λ text is. absurd cc };
}
  where
    x : Numbers
    x = recovered_numbers m.geometry numbers pages texts

    stable_of : (segment page : ℕ) (text : Page) → page < m.geometry.pages → Shows x.disks segment page text → (entry_at (entries_of m.geometry x segment) page).stable ≤ text.sequence
    stable_of segment page text known (inl is) =
        let one = ap (λ (e : PageEntry). e.stable) (entry_is m.geometry x segment page known) in
        let two = ap (λ (p : Page). p.sequence) is in
        omega (arith, one, two)
    stable_of segment page text known (inr opened) = absurd cc

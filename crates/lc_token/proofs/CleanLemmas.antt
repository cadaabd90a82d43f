-- What is clean is on the pages.
use Rattle.std.proofs.Common.{◌≡◌, ◌≢◌, ◌⊎◌, ℕ, zero, suc, ◌+◌, ◌^◌, ◌<◌, ◌≤◌, true, false, ◌==◌, List, [], ◌∷◌, ◌++◌, length, take, drop, get_or, Some, All, Contains, max, slice_set, refl, sym, ◌∙◌, ap, subst, arith, inl, inr, true≢false, eqb-true, eq-eqb, ltb-false, get_or-set_other, get_or-set_same, length-set}
use Rattle.std.specs.Prelude.{if◌then◌else◌}
use Rattle.std.proofs.Math.Nat.{max-le, le_refl}
use Rattle.std.proofs.lemmas.Bool.{cases_lt}
use Rattle.std.proofs.lemmas.List.Elements.{All-push, All-filter, All-contains, All-contains_itself, Contains-get_or}
use Rattle.lc_record.specs.Transaction.{Transaction, effects}
use Rattle.lc_record.specs.Recorded.{record_of, records_from, locks_of}
use Rattle.lc_record.specs.declared.record.Record.{Record}
use Rattle.lc_model.specs.History.{History, transactions}
use Rattle.lc_model.specs.Machine.{appended}
use Rattle.lc_model.proofs.Fronts.{entry}
use Rattle.lc_model.proofs.Keeps.{transactions-push}
use Rattle.lc_model.proofs.Merging.{records_from-append}
use Rattle.lc_model.proofs.RecordBytes.{record-number}
use Rattle.lc_page.specs.declared.page_entry.PageEntry.{PageEntry}
use Rattle.lc_page.specs.PageVector.{entry_at, no_entry, settled, is_dirty}
use Rattle.lc_token.specs.Token.{IsReached}
use Rattle.lc_model.specs.State.{State, Setting}
use Rattle.lc_model.specs.Merging.{sets, counted_all, is_from}
use Rattle.lc_record.specs.Newest.{number_or_zero}
use Rattle.lc_model.specs.Merge.{Page}
use Rattle.lc_model.specs.Stored.{Disks, Fits, Shows, IsOnPages, base, records_of}
use Rattle.lc_model.specs.Moves.{with_opened, with_settled}
use Rattle.lc_token.specs.Clean.{all_of, HasByteOn, IsCleanTo, IsTouched, TokenFits}
use Rattle.lc_model.proofs.Moves.{shows-opened, shows-settled, settled-only}
use Rattle.lc_model.proofs.Visible.{contains-parts}

below-max : (a b n : ℕ) → n ≤ max a b → (n ≤ a) ⊎ (n ≤ b)
below-max a b zero within = inl (omega arith)
below-max a b (suc n) within =
    elim (cases_lt a (suc n)) [
      | inl a_less ↦
          (elim (cases_lt b (suc n)) [
            | inl b_less ↦
                let a_in : a ≤ n = omega (arith, a_less) in
                let b_in : b ≤ n = omega (arith, b_less) in
                let both : max a b ≤ n = max-le a_in b_in in
                absurd (omega (arith, both, within))
            | inr b_more ↦ inr b_more
          ])
      | inr a_more ↦ inl a_more
    ]

-- the number that the pages have reached is clean
reached-clean : (m : Setting) (s : State) (d : Disks) (segment seq reached : ℕ) (pages : List PageEntry) (r : Record) → length pages ≡ m.geometry.pages → m.geometry.pages ≤ 2 ^ 32 → ((page : ℕ) (text : Page) → page < m.geometry.pages → Shows d segment page text → (entry_at pages page).stable ≤ text.sequence) → ((page : ℕ) → page < m.geometry.pages → (entry_at pages page).stable ≤ seq) → IsTouched m.geometry segment seq pages r → IsReached seq pages reached → IsCleanTo m.geometry d segment reached r
reached-clean m s d segment seq reached pages r count few stable within touched is_reached = λ number_in_reached page text known has shows.
    let in_list : page < length pages = omega (arith, known, count) in
    let small : page < 2 ^ 32 = omega (arith, known, few) in
    let here : (entry_at pages page).stable ≤ text.sequence = stable page text known shows in
    let counted : number_or_zero segment r.locks ≤ seq =
    elim is_reached [
      | inl clean ↦ omega (arith, clean.1, number_in_reached)
      | inr least ↦
          let one_in : least.0.0 < m.geometry.pages = (let one : least.0.0 < length pages = least.0.1.0 in omega (arith, one, count)) in
          omega (arith, number_in_reached, least.0.2, within least.0.0 one_in)
    ] in
    let own : number_or_zero segment r.locks ≤ (entry_at pages page).touched = touched counted page known has in
    elim (is_dirty (entry_at pages page)) as (λ b. is_dirty (entry_at pages page) ≡ b → number_or_zero segment r.locks ≤ text.sequence) [
      | true ↦ λ e.
          (elim is_reached [
            | inl clean ↦ absurd (clean.0 page (in_list, small, e))
            | inr least ↦
                let first : reached ≤ (entry_at pages page).stable = least.1 page (in_list, small, e) in
                omega (arith, number_in_reached, first, here)
          ])
      | false ↦ λ e.
          let not_above : (entry_at pages page).touched ≤ (entry_at pages page).stable = ltb-false (entry_at pages page).stable (entry_at pages page).touched e in
          omega (arith, own, not_above, here)
    ] refl

-- the end of a page write keeps what the token says, with a greater clean number
pub token-written : (m : Setting) (s : State) (d : Disks) (segment seq clean page reached : ℕ) (text : Page) (pages : List PageEntry) → TokenFits m s d segment seq clean pages → page < m.geometry.pages → d.opened segment page ≡ Some text → text.sequence ≤ seq → IsReached seq (slice_set pages page (settled (entry_at pages page) text.sequence)) reached → TokenFits m s (with_settled d segment page text) segment seq (max clean reached) (slice_set pages page (settled (entry_at pages page) text.sequence))
token-written m s d segment seq clean page reached text pages fits known is newest is_reached =
    let after : List PageEntry = slice_set pages page (settled (entry_at pages page) text.sequence) in
    let in_list : page < length pages = (let count : length pages ≡ m.geometry.pages = fits.count in omega (arith, known, count)) in
    let own : entry_at (slice_set pages page (settled (entry_at pages page) text.sequence)) page ≡ settled (entry_at pages page) text.sequence = get_or-set_same pages page (settled (entry_at pages page) text.sequence) no_entry in_list in
    let other : (p : ℕ) → p ≢ page → entry_at (slice_set pages page (settled (entry_at pages page) text.sequence)) p ≡ entry_at pages p = λ p differ. get_or-set_other pages page p (settled (entry_at pages page) text.sequence) no_entry differ in
    let count : length (slice_set pages page (settled (entry_at pages page) text.sequence)) ≡ m.geometry.pages = length-set pages page (settled (entry_at pages page) text.sequence) ∙ fits.count in
    let back : (x y : ℕ) (z : Page) → Shows (with_settled d segment page text) x y z → Shows d x y z = shows-settled d segment page text is in
    let case : (P : PageEntry → ℕ → Type 0) → P (settled (entry_at pages page) text.sequence) page → ((p : ℕ) → p ≢ page → P (entry_at pages p) p) → (p : ℕ) → P (entry_at (slice_set pages page (settled (entry_at pages page) text.sequence)) p) p =
    λ P at_own at_other p. elim (p == page) as (λ b. (p == page) ≡ b → P (entry_at (slice_set pages page (settled (entry_at pages page) text.sequence)) p) p) [
      | true ↦ λ e. subst (λ (n : ℕ). P (entry_at (slice_set pages page (settled (entry_at pages page) text.sequence)) n) n) (sym (eqb-true p page e)) (subst (λ (x : PageEntry). P x page) (sym own) at_own)
      | false ↦ λ e. (let differ : p ≢ page = λ same. true≢false (sym (eq-eqb p page same) ∙ e) in subst (λ (x : PageEntry). P x p) (sym (other p differ)) (at_other p differ))
    ] refl in
    let stable : (p : ℕ) (t : Page) → p < m.geometry.pages → Shows (with_settled d segment page text) segment p t → (entry_at (slice_set pages page (settled (entry_at pages page) text.sequence)) p).stable ≤ t.sequence =
    λ p. case (λ x n. (t : Page) → n < m.geometry.pages → Shows (with_settled d segment page text) segment n t → x.stable ≤ t.sequence)
    (λ t in_pages shows. (let same : t ≡ text = settled-only d segment page text t shows in
    let as_new : text.sequence ≡ t.sequence = ap (λ (x : Page). x.sequence) (sym same) in omega (arith, as_new)))
    (λ n differ t in_pages shows. fits.stable n t in_pages (back segment n t shows)) p in
    let within : (p : ℕ) → p < m.geometry.pages → (entry_at (slice_set pages page (settled (entry_at pages page) text.sequence)) p).stable ≤ seq =
    case (λ x n. n < m.geometry.pages → x.stable ≤ seq) (λ in_pages. newest) (λ n differ in_pages. fits.within n in_pages) in
    let touched : All (IsTouched m.geometry segment seq (slice_set pages page (settled (entry_at pages page) text.sequence))) (all_of m s d) =
    λ k r k_in counted. case (λ x n. n < m.geometry.pages → HasByteOn m.geometry segment n (get_or (all_of m s d) k r) → number_or_zero segment (get_or (all_of m s d) k r).locks ≤ x.touched)
    (λ in_pages has. fits.touched k r k_in counted page in_pages has)
    (λ n differ in_pages has. fits.touched k r k_in counted n in_pages has) in
    record {
      count = count;
      few = fits.few;
      stable = stable;
      within = within;
      touched = touched;
      cleaned = λ k r k_in low p t in_pages has shows.
          elim (below-max clean reached (number_or_zero segment (get_or (all_of m s d) k r).locks) low) [
            | inl old ↦ fits.cleaned k r k_in old p t in_pages has (back segment p t shows)
            | inr new ↦
                reached-clean m s (with_settled d segment page text) segment seq reached (slice_set pages page (settled (entry_at pages page) text.sequence)) (get_or (all_of m s d) k r) count fits.few stable within (touched k r k_in) is_reached new p t in_pages has shows
          ];
    }

-- a record whose every number is clean is on the pages
pub clean-on_pages : (m : Setting) (s : State) (d : Disks) (clean : ℕ → ℕ) (r : Record) → ((segment : ℕ) → 1 ≤ segment → segment ≤ m.geometry.segments → IsCleanTo m.geometry d segment (clean segment) r) → ((segment : ℕ) → 1 ≤ segment → segment ≤ m.geometry.segments → number_or_zero segment r.locks ≤ clean segment) → IsOnPages m.geometry d r
clean-on_pages m s d clean r cleaned low = λ segment page offset text some last known in_page has shows.
    cleaned segment some last (low segment some last) page text known (offset, in_page, has) shows

-- Other moves

-- a reservation: its record is not counted yet
pub token-appended : (m : Setting) (s : State) (d : Disks) (segment seq clean : ℕ) (pages : List PageEntry) (t : Transaction) → TokenFits m s d segment seq clean pages → seq ≤ counted_all d.numbers (transactions s.history) segment → clean ≤ seq → TokenFits m (appended s t) d segment seq clean pages
token-appended m s d segment seq clean pages t fits low clean_low =
    let r : Record = record_of (counted_all d.numbers (transactions s.history)) (effects (transactions s.history) (base m s)) t in
    let all_are : all_of m (appended s t) d ≡ all_of m s d ++ record_of (counted_all d.numbers (transactions s.history)) (effects (transactions s.history) (base m s)) t ∷ [] =
    ap (records_from d.numbers (base m s)) (transactions-push s.history (entry t false)) ∙ records_from-append d.numbers (base m s) (transactions s.history) (t ∷ []) in
    let own : number_or_zero segment (locks_of (counted_all d.numbers (transactions s.history)) 1 t.marks) ≡ (if sets segment t then counted_all d.numbers (transactions s.history) segment + 1 else 0) = record-number (counted_all d.numbers (transactions s.history)) segment t in
    let none : (limit : ℕ) → limit ≤ seq → number_or_zero segment (locks_of (counted_all d.numbers (transactions s.history)) 1 t.marks) ≤ limit → number_or_zero segment (locks_of (counted_all d.numbers (transactions s.history)) 1 t.marks) ≡ 0 =
    λ limit limit_low within. elim (sets segment t) as (λ b. (number_or_zero segment (locks_of (counted_all d.numbers (transactions s.history)) 1 t.marks) ≡ (if b then counted_all d.numbers (transactions s.history) segment + 1 else 0)) → number_or_zero segment (locks_of (counted_all d.numbers (transactions s.history)) 1 t.marks) ≡ 0) [
      | true ↦ λ is. absurd (omega (arith, is, within, limit_low, low))
      | false ↦ λ is. is
    ] own in
    record {
      count = fits.count;
      few = fits.few;
      stable = fits.stable;
      within = fits.within;
      touched = subst (λ (rs : List Record). All (IsTouched m.geometry segment seq pages) rs) (sym all_are)
          (All-push (IsTouched m.geometry segment seq pages) (all_of m s d) (record_of (counted_all d.numbers (transactions s.history)) (effects (transactions s.history) (base m s)) t) fits.touched
          (λ counted_one page known has. omega (arith, none seq (le_refl seq) counted_one)));
      cleaned = subst (λ (rs : List Record). All (IsCleanTo m.geometry d segment clean) rs) (sym all_are)
          (All-push (IsCleanTo m.geometry d segment clean) (all_of m s d) (record_of (counted_all d.numbers (transactions s.history)) (effects (transactions s.history) (base m s)) t) fits.cleaned
          (λ counted_one page text known has shows. omega (arith, none clean clean_low counted_one)));
    }

-- a record is closed: it is counted, and the pages of its bytes are touched under its number
pub token-closed : (m : Setting) (s : State) (d : Disks) (segment seq clean : ℕ) (pages after : List PageEntry) (history : History) → TokenFits m s d segment seq clean pages → transactions history ≡ transactions s.history → length after ≡ length pages → ((page : ℕ) → ((entry_at after page).stable ≡ (entry_at pages page).stable) × ((entry_at pages page).touched ≤ (entry_at after page).touched)) → All (λ r. number_or_zero segment r.locks ≡ seq + 1 → (page : ℕ) → page < m.geometry.pages → HasByteOn m.geometry segment page r → seq + 1 ≤ (entry_at after page).touched) (all_of m s d) → TokenFits m (record s { history = history }) d segment (seq + 1) clean after
token-closed m s d segment seq clean pages after history fits same long kept touching =
    let all_are : all_of m s d ≡ records_from d.numbers (base m s) (transactions history) = ap (records_from d.numbers (base m s)) (sym same) in
    record {
      count = long ∙ fits.count;
      few = fits.few;
      stable = λ page text known shows. (let old : (entry_at pages page).stable ≤ text.sequence = fits.stable page text known shows in omega (arith, old, (kept page).0));
      within = λ page known. (let old : (entry_at pages page).stable ≤ seq = fits.within page known in omega (arith, old, (kept page).0));
      touched = subst (λ (rs : List Record). All (IsTouched m.geometry segment (seq + 1) after) rs) all_are
          (λ k r k_in counted_one page known has.
          elim (cases_lt seq (number_or_zero segment (get_or (all_of m s d) k r).locks)) [
            | inl above ↦
                let is : number_or_zero segment (get_or (all_of m s d) k r).locks ≡ seq + 1 = omega (arith, above, counted_one) in
                let new : seq + 1 ≤ (entry_at after page).touched = touching k r k_in is page known has in
                omega (arith, is, new)
            | inr before ↦
                let old : number_or_zero segment (get_or (all_of m s d) k r).locks ≤ (entry_at pages page).touched = fits.touched k r k_in before page known has in
                omega (arith, old, (kept page).1)
          ]);
      cleaned = subst (λ (rs : List Record). All (IsCleanTo m.geometry d segment clean) rs) all_are fits.cleaned;
    }

-- a write of any page opens its slot
pub token-opened : (m : Setting) (s : State) (d : Disks) (segment seq clean other page : ℕ) (text : Page) (pages : List PageEntry) → TokenFits m s d segment seq clean pages → (d.page other page).sequence ≤ text.sequence → TokenFits m s (with_opened d other page text) segment seq clean pages
token-opened m s d segment seq clean other page text pages fits newer =
    let least : (limit p : ℕ) (z : Page) → Shows (with_opened d other page text) segment p z → ((q : Page) → Shows d segment p q → limit ≤ q.sequence) → limit ≤ z.sequence =
    λ limit p z shows each. elim (shows-opened d other page text segment p z shows) [
      | inl before ↦ each z before
      | inr new ↦
          let first : limit ≤ (d.page segment p).sequence = each (d.page segment p) (inl refl) in
          let text_before : (d.page segment p).sequence ≡ (d.page other page).sequence = ap (λ n. (d.page n p).sequence) new.0 ∙ ap (λ n. (d.page other n).sequence) new.1 in
          let text_after : z.sequence ≡ text.sequence = ap (λ (q : Page). q.sequence) new.2 in
          omega (arith, first, text_before, text_after, newer)
    ] in
    record {
      count = fits.count;
      few = fits.few;
      stable = λ p z known shows. least (entry_at pages p).stable p z shows (λ q before. fits.stable p q known before);
      within = fits.within;
      touched = fits.touched;
      cleaned = λ k r k_in low p z known has shows. least (number_or_zero segment (get_or (all_of m s d) k r).locks) p z shows (λ q before. fits.cleaned k r k_in low p q known has before);
    }

-- nothing of the segment's pages changes, or fewer images show
pub token-fewer : (m : Setting) (s : State) (d new : Disks) (segment seq clean : ℕ) (pages : List PageEntry) → TokenFits m s d segment seq clean pages → new.numbers ≡ d.numbers → ((page : ℕ) (text : Page) → Shows new segment page text → Shows d segment page text) → TokenFits m s new segment seq clean pages
token-fewer m s d new segment seq clean pages fits same back =
    let all_are : all_of m s d ≡ all_of m s new = ap (λ numbers. records_from numbers (base m s) (transactions s.history)) (sym same) in
    record {
      count = fits.count;
      few = fits.few;
      stable = λ page text known shows. fits.stable page text known (back page text shows);
      within = fits.within;
      touched = subst (λ (rs : List Record). All (IsTouched m.geometry segment seq pages) rs) all_are fits.touched;
      cleaned = subst (λ (rs : List Record). All (IsCleanTo m.geometry new segment clean) rs) all_are
          (λ k r k_in low page text known has shows. fits.cleaned k r k_in low page text known has (back page text shows));
    }

-- what a reset asks of the records that stand in the log
pub all-on_pages : (m : Setting) (s : State) (d : Disks) (node : ℕ) (seq clean : ℕ → ℕ) (pages : ℕ → List PageEntry) → Fits m s d → node < m.geometry.nodes → ((segment : ℕ) → 1 ≤ segment → segment ≤ m.geometry.segments → TokenFits m s d segment (seq segment) (clean segment) (pages segment)) → All (λ r. (segment : ℕ) → number_or_zero segment r.locks ≤ clean segment) (drop (d.dropped node) (records_of m s d node)) → All (IsOnPages m.geometry d) (records_of m s d node)
all-on_pages m s d node seq clean pages fits known tokens low =
    let rs : List Record = records_of m s d node in
    λ k r k_in.
    (let has : Contains (records_of m s d node) (get_or (records_of m s d node) k r) = Contains-get_or (records_of m s d node) k r k_in in
    elim (contains-parts (d.dropped node) (records_of m s d node) has.0 (get_or (records_of m s d node) k r) has.1 has.2) [
      | inl gone ↦ All-contains (IsOnPages m.geometry d) (take (d.dropped node) (records_of m s d node)) (get_or (records_of m s d node) k r) (fits.dropped node known) gone
      | inr stays ↦
          let among : Contains (all_of m s d) (get_or (records_of m s d node) k r) =
          All-contains (Contains (all_of m s d)) (records_of m s d node) (get_or (records_of m s d node) k r) (All-filter (is_from node) (Contains (all_of m s d)) (all_of m s d) (All-contains_itself (all_of m s d))) has in
          clean-on_pages m s d clean (get_or (records_of m s d node) k r)
          (λ segment some last. All-contains (IsCleanTo m.geometry d segment (clean segment)) (all_of m s d) (get_or (records_of m s d node) k r) (tokens segment some last).cleaned among)
          (λ segment some last. All-contains (λ q. (x : ℕ) → number_or_zero x q.locks ≤ clean x) (drop (d.dropped node) (records_of m s d node)) (get_or (records_of m s d node) k r) low stays segment)
    ])

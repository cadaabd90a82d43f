-- The end of a page write: what is clean now, and what that keeps.
use Rattle.std.proofs.Common.{◌≡◌, ◌≢◌, ℕ, zero, suc, ◌+◌, ◌<◌, ◌≤◌, Bool, true, false, List, Option, Some, None, length, refl, sym, ap, subst, ◌∙◌, inl, inr, arith, true≢false, get_or-set_other, get_or-set_same, length-set}
use Rattle.std.specs.Prelude.{◌^◌, max, is_some, nat_lt, slice_set, if◌then◌else◌}
use Rattle.std.specs.Option.{unwrap_or}
use Rattle.std.proofs.Math.Nat.{le-max_left, le_refl, le_trans, max-le, min-eq_left, min-eq_right}
use Rattle.std.proofs.lemmas.Bool.{cases_eq, cases_lt, le-ltb, lt-ltb}
use Rattle.lc_page.specs.declared.page_entry.PageEntry.{PageEntry}
use Rattle.lc_page.specs.PageVector.{entry_at, is_dirty, no_entry, settled, settled_text}
use Rattle.lc_settled.specs.Settled.{begun_number}
use Rattle.lc_record.specs.Marks.{counting}
use Rattle.lc_token.specs.Token.{IsReached, least_with}
use Rattle.lc_model.specs.Merge.{Page}
use Rattle.lc_model.specs.Moves.{update_at, with_settled}
use Rattle.lc_model.specs.State.{Setting, State, update}
use Rattle.lc_model.specs.Stored.{Fits as FitsDisks}
use Rattle.lc_model.proofs.Keeps.{update-case}
use Rattle.lc_model.proofs.Moves.{keeps-settled, shows-settled, update_at-own as entry_own}
use Rattle.lc_model.proofs.Seats.{update-other, update-own}
use Rattle.lc_token.specs.Clean.{TokenFits}
use Rattle.lc_token.proofs.CleanLemmas.{token-fewer, token-written}
use Rattle.lc_journal.specs.Coherent.{AreCoherent, IsWriteOf, entries_of}
use Rattle.lc_settled.specs.Numbers.{Numbers, stable, token_number}
use Rattle.lc_settled.specs.Turns.{cleaned, is_dirty as is_page_dirty, oldest_dirty, seen, settled_with, written}
use Rattle.lc_journal.proofs.Cohering.{coherent_texts, entries_count, entry_is, token_alike}
use Rattle.lc_journal.proofs.PageNumbers.{entry_other, page_cases, write_as}

-- The node has seen the token's `clean`

pub coherent_seen : (m : Setting) (s : State) (x : Numbers) (node segment : ℕ) → AreCoherent m s x → AreCoherent m s (seen x node segment)
coherent_seen m s x node segment h = record {
  tokens = h.tokens;
  clean = h.clean;
  known = λ other n first last.
      update-case (λ i f. f n ≤ x.clean n) x.known node (update (x.known node) segment (max (x.known node segment) (x.clean segment)))
      (update-case (λ i k. 1 ≤ i → i ≤ m.geometry.segments → k ≤ x.clean i) (x.known node) segment (max (x.known node segment) (x.clean segment))
      (λ one most. max-le (h.known node segment one most) (le_refl (x.clean segment))) (λ i one most. h.known node i one most) n first last)
      (λ i. h.known i n first last) other;
  resets = h.resets;
  writes = λ n page. (let its = h.writes n page in record { begun = its.begun; opened = its.opened; within = its.within });
}

-- The oldest dirty page

-- the least sequence of a dirty page among so many from this one on, or that there is none
abbrev IsOldest : Numbers → ℕ → ℕ → ℕ → Option ℕ → Type 0
IsOldest x segment first count None = (page : ℕ) → first ≤ page → page < first + count → is_page_dirty x segment page ≡ false
IsOldest x segment first count (Some number) =
    ((page : ℕ) × (first ≤ page) × (page < first + count) × (is_page_dirty x segment page ≡ true) × (stable x segment page ≡ number))
    × ((page : ℕ) → first ≤ page → page < first + count → is_page_dirty x segment page ≡ true → number ≤ stable x segment page)

oldest_next : (x : Numbers) (segment first count : ℕ) (o : Option ℕ) → IsOldest x segment (first + 1) count o
    → IsOldest x segment first (suc count) (if is_page_dirty x segment first then Some (least_with o (stable x segment first)) else o)
oldest_next x segment first count o next =
    elim (is_page_dirty x segment first) as (λ b. is_page_dirty x segment first ≡ b → IsOldest x segment first (suc count) (if b then Some (least_with o (stable x segment first)) else o)) [
      | true ↦ λ dirty. with_first dirty o next
      | false ↦ λ clean. without_first clean o next
    ] refl
  where
    with_first : is_page_dirty x segment first ≡ true → (o : Option ℕ) → IsOldest x segment (first + 1) count o → IsOldest x segment first (suc count) (Some (least_with o (stable x segment first)))
    with_first dirty None none = (
      (first, le_refl first, omega arith, dirty, refl),
      λ page from to also. elim (cases_eq page first) [
        | inl same ↦ (let is = ap (stable x segment) same in omega (arith, is))
        | inr other ↦ absurd (true≢false (sym also ∙ none page (omega (arith, from, other)) (omega (arith, to))))
      ],
    )
    with_first dirty (Some number) least = elim (cases_lt number (stable x segment first)) [
      | inl less ↦
          let is : least_with (Some number) (stable x segment first) ≡ number = min-eq_left (omega (arith, less)) in
          subst (λ (k : ℕ). IsOldest x segment first (suc count) (Some k)) (sym is)
          (without_here number least (omega (arith, less)))
      | inr more ↦
          let is : least_with (Some number) (stable x segment first) ≡ stable x segment first = min-eq_right more in
          subst (λ (k : ℕ). IsOldest x segment first (suc count) (Some k)) (sym is) (
            (first, le_refl first, omega arith, dirty, refl),
            λ page from to also. elim (cases_eq page first) [
              | inl same ↦ (let same_stable = ap (stable x segment) same in omega (arith, same_stable))
              | inr other ↦ (let low = least.1 page (omega (arith, from, other)) (omega (arith, to)) also in omega (arith, low, more))
            ],
          )
    ]
      where
        without_here : (number : ℕ) → IsOldest x segment (first + 1) count (Some number) → number ≤ stable x segment first → IsOldest x segment first (suc count) (Some number)
        without_here number least low = (
          (least.0.0, omega (arith, least.0.1), omega (arith, least.0.2), least.0.3, least.0.4),
          λ page from to also. elim (cases_eq page first) [
            | inl same ↦ (let is = ap (stable x segment) same in omega (arith, is, low))
            | inr other ↦ least.1 page (omega (arith, from, other)) (omega (arith, to)) also
          ],
        )

    without_first : is_page_dirty x segment first ≡ false → (o : Option ℕ) → IsOldest x segment (first + 1) count o → IsOldest x segment first (suc count) o
    without_first clean None none = λ page from to. elim (cases_eq page first) [
      | inl same ↦ ap (is_page_dirty x segment) same ∙ clean
      | inr other ↦ none page (omega (arith, from, other)) (omega (arith, to))
    ]
    without_first clean (Some number) least = (
      (least.0.0, omega (arith, least.0.1), omega (arith, least.0.2), least.0.3, least.0.4),
      λ page from to also. elim (cases_eq page first) [
        | inl same ↦ absurd (true≢false (sym also ∙ ap (is_page_dirty x segment) same ∙ clean))
        | inr other ↦ least.1 page (omega (arith, from, other)) (omega (arith, to)) also
      ],
    )

oldest_is : (x : Numbers) (segment count first : ℕ) → IsOldest x segment first count (oldest_dirty x segment (counting first count))
oldest_is x segment zero first = λ page from to. absurd (omega (arith, from, to))
oldest_is x segment (suc count) first = oldest_next x segment first count (oldest_dirty x segment (counting (first + 1) count)) (oldest_is x segment count (first + 1))

-- so the pages have reached it, or the token's number
abbrev reached_of : Numbers → ℕ → ℕ → ℕ → ℕ
reached_of x segment count seq = unwrap_or (oldest_dirty x segment (counting 0 count)) seq

reached_is : (m : Setting) (x : Numbers) (segment seq : ℕ) (pages : List PageEntry) → length pages ≡ m.geometry.pages → m.geometry.pages ≤ 2 ^ 32
    → ((page : ℕ) → page < m.geometry.pages → ((entry_at pages page).stable ≡ stable x segment page) × ((entry_at pages page).touched ≡ x.touched segment page))
    → IsReached seq pages (reached_of x segment m.geometry.pages seq)
reached_is m x segment seq pages count few are = by_oldest (oldest_dirty x segment (counting 0 m.geometry.pages)) (oldest_is x segment m.geometry.pages 0)
  where
    dirty_is : (page : ℕ) → page < m.geometry.pages → is_dirty (entry_at pages page) ≡ is_page_dirty x segment page
    dirty_is page known = (let its = are page known in ap (λ (k : ℕ). nat_lt k (entry_at pages page).touched) its.0 ∙ ap (λ (k : ℕ). nat_lt (stable x segment page) k) its.1)

    by_oldest : (o : Option ℕ) → IsOldest x segment 0 m.geometry.pages o → IsReached seq pages (unwrap_or o seq)
    by_oldest None none = inl (
      λ page dirty.
          let known : page < m.geometry.pages = (let within = dirty.0 in omega (arith, within, count)) in
          true≢false (sym dirty.2 ∙ dirty_is page known ∙ none page (omega arith) (omega (arith, known))),
      refl,
    )
    by_oldest (Some number) least =
        let known : least.0.0 < m.geometry.pages = (let to = least.0.2 in omega (arith, to)) in
        inr (
          (least.0.0, (omega (arith, known, count), omega (arith, known, few), dirty_is least.0.0 known ∙ least.0.3), (are least.0.0 known).0 ∙ least.0.4),
          λ page dirty.
              let here : page < m.geometry.pages = (let within = dirty.0 in omega (arith, within, count)) in
              let low = least.1 page (omega arith) (omega (arith, here)) (sym (dirty_is page here) ∙ dirty.2) in
              omega (arith, low, (are page here).0),
        )

reached_most : (x : Numbers) (segment count seq : ℕ) → ((page : ℕ) → page < count → stable x segment page ≤ seq) → reached_of x segment count seq ≤ seq
reached_most x segment count seq within = by_oldest (oldest_dirty x segment (counting 0 count)) (oldest_is x segment count 0)
  where
    by_oldest : (o : Option ℕ) → IsOldest x segment 0 count o → unwrap_or o seq ≤ seq
    by_oldest None none = le_refl seq
    by_oldest (Some number) least = (let most = within least.0.0 (omega (arith, least.0.2)) in omega (arith, most, least.0.4))

-- The end of a write

module _ (m : Setting) (s : State) (x : Numbers) (node segment page : ℕ) (first : 1 ≤ segment) (last : segment ≤ m.geometry.segments) (known : page < m.geometry.pages)
    (fits : FitsDisks m s x.disks) (h : AreCoherent m s x) (made : 5 ≤ x.calls segment page) where
  module _ (text : Page) (begun : x.disks.begun segment page ≡ Some text) where
    opened : x.disks.opened segment page ≡ Some text
    opened = (h.writes segment page).opened ∙ ap (λ (b : Bool). if b then None else x.disks.begun segment page) (le-ltb (x.calls segment page) 5 made) ∙ begun

    abbrev put : Numbers
    put = record x { disks = with_settled x.disks segment page text; calls = update_at x.calls segment page 0 }

    abbrev seq : ℕ
    seq = token_number s x segment

    abbrev reached : ℕ
    reached = reached_of put segment m.geometry.pages seq

    newest : text.sequence ≤ seq
    newest = (h.writes segment page).within text begun

    -- the entries after it
    abbrev before : List PageEntry
    before = entries_of m.geometry x segment

    abbrev behind : List PageEntry
    behind = slice_set before page (settled (entry_at before page) text.sequence)

    in_list : page < length before
    in_list = omega (arith, known, entries_count m.geometry x segment)

    own_entry : entry_at behind page ≡ settled (entry_at before page) text.sequence
    own_entry = get_or-set_same before page (settled (entry_at before page) text.sequence) no_entry in_list

    entries_behind : (k : ℕ) → k < m.geometry.pages → ((entry_at behind k).stable ≡ stable put segment k) × ((entry_at behind k).touched ≡ x.touched segment k)
    entries_behind k within = elim (cases_eq k page) [
      | inl same ↦
          subst (λ (i : ℕ). ((entry_at behind i).stable ≡ stable put segment i) × ((entry_at behind i).touched ≡ x.touched segment i)) (sym same) (
            ap (λ (e : PageEntry). e.stable) own_entry ∙ ap (λ (p : Page). p.sequence) (sym (entry_own x.disks.page segment page text)),
            ap (λ (e : PageEntry). e.touched) own_entry ∙ ap (λ (e : PageEntry). e.touched) (entry_is m.geometry x segment page known),
          )
      | inr other ↦
          let is = get_or-set_other before page k (settled (entry_at before page) text.sequence) no_entry other in
          let old = entry_is m.geometry x segment k within in (
            ap (λ (e : PageEntry). e.stable) (is ∙ old) ∙ ap (λ (p : Page). p.sequence) (sym (entry_other x.disks.page segment page text segment k (λ one two. other two))),
            ap (λ (e : PageEntry). e.touched) (is ∙ old),
          )
    ]

    own_token : TokenFits m s put.disks segment seq (max (x.clean segment) reached) (entries_of m.geometry put segment)
    own_token =
        let token = h.tokens segment first last in
        token_alike m s put.disks segment seq (max (x.clean segment) reached) behind (entries_of m.geometry put segment)
        (entries_count m.geometry put segment ∙ sym (length-set before page (settled (entry_at before page) text.sequence) ∙ entries_count m.geometry x segment))
        (λ k within.
        let is = entry_is m.geometry put segment k within in
        (ap (λ (e : PageEntry). e.stable) is ∙ sym (entries_behind k within).0, ap (λ (e : PageEntry). e.touched) is ∙ sym (entries_behind k within).1))
        (token-written m s x.disks segment seq (x.clean segment) page reached text before token known opened newest
        (reached_is m put segment seq behind (length-set before page (settled (entry_at before page) text.sequence) ∙ entries_count m.geometry x segment) token.few entries_behind))

    other_token : (n : ℕ) → n ≢ segment → 1 ≤ n → n ≤ m.geometry.segments → TokenFits m s put.disks n (token_number s x n) (x.clean n) (entries_of m.geometry put n)
    other_token n differ one most =
        token_alike m s put.disks n (token_number s x n) (x.clean n) (entries_of m.geometry x n) (entries_of m.geometry put n) (entries_count m.geometry put n ∙ sym (entries_count m.geometry x n))
        (λ k within.
        let new = entry_is m.geometry put n k within in
        let old = entry_is m.geometry x n k within in (
          ap (λ (e : PageEntry). e.stable) new ∙ ap (λ (p : Page). p.sequence) (entry_other x.disks.page segment page text n k (λ same two. differ same)) ∙ sym (ap (λ (e : PageEntry). e.stable) old),
          ap (λ (e : PageEntry). e.touched) new ∙ sym (ap (λ (e : PageEntry). e.touched) old),
        ))
        (token-fewer m s x.disks put.disks n (token_number s x n) (x.clean n) (entries_of m.geometry x n) (h.tokens n one most) refl (λ k z shows. shows-settled x.disks segment page text opened n k z shows))

    reached_low : reached ≤ seq
    reached_low = reached_most put segment m.geometry.pages seq (λ k within.
        let most = own_token.within k within in
        let is = ap (λ (e : PageEntry). e.stable) (entry_is m.geometry put segment k within) in
        omega (arith, most, is))

    abbrev clean_now : Numbers
    clean_now = cleaned m.geometry s put segment

    clean_coherent : AreCoherent m s clean_now
    clean_coherent = record {
      tokens = λ n one most. elim (cases_eq n segment) [
        | inl same ↦
            subst (λ (i : ℕ). TokenFits m s put.disks i (token_number s x i) (update x.clean segment (max (x.clean segment) reached) i) (entries_of m.geometry put i)) (sym same)
            (subst (λ (c : ℕ). TokenFits m s put.disks segment seq c (entries_of m.geometry put segment)) (sym (update-own x.clean segment (max (x.clean segment) reached))) own_token)
        | inr other ↦
            subst (λ (c : ℕ). TokenFits m s put.disks n (token_number s x n) c (entries_of m.geometry put n)) (sym (update-other x.clean segment (max (x.clean segment) reached) n other)) (other_token n other one most)
      ];
      clean = λ n. update-case (λ i k. 1 ≤ i → i ≤ m.geometry.segments → k ≤ token_number s x i) x.clean segment (max (x.clean segment) reached)
          (λ one most. max-le (h.clean segment one most) reached_low) (λ i one most. h.clean i one most) n;
      known = λ other n. update-case (λ i k. 1 ≤ i → i ≤ m.geometry.segments → x.known other i ≤ k) x.clean segment (max (x.clean segment) reached)
          (λ one most. le_trans (h.known other segment one most) (le-max_left (x.clean segment) reached)) (λ i one most. h.known other i one most) n;
      resets = h.resets;
      writes = page_cases (λ n k. IsWriteOf s clean_now n k) segment page
          (write_as s clean_now segment page None None 0 (entry_own x.disks.begun segment page None) (entry_own x.disks.opened segment page None) (entry_own x.calls segment page 0) refl refl (λ z is. absurd cc))
          (λ n k differ.
          let its = h.writes n k in
          write_as s clean_now n k (x.disks.begun n k) (x.disks.opened n k) (x.calls n k) (entry_other x.disks.begun segment page None n k differ) (entry_other x.disks.opened segment page None n k differ)
          (entry_other x.calls segment page 0 n k differ) its.begun its.opened its.within);
    }

    ends_so : AreCoherent m s (seen clean_now node segment) × FitsDisks m s put.disks
    ends_so = (coherent_seen m s clean_now node segment clean_coherent, keeps-settled m s x.disks segment page text fits opened)

  by_text : (begun : Option Page) → x.disks.begun segment page ≡ begun
      → AreCoherent m s (seen (cleaned m.geometry s (record x { disks = settled_with x.disks segment page begun; calls = update_at x.calls segment page 0 }) segment) node segment)
      × FitsDisks m s (settled_with x.disks segment page begun)
  by_text None none =
      absurd (true≢false (sym (ap (λ (o : Option Page). is_some o) (sym none) ∙ (h.writes segment page).begun ∙ lt-ltb 0 (x.calls segment page) (omega (arith, made)))))
  by_text (Some text) is = ends_so text is

  pub end_keeps : AreCoherent m s (written m.geometry s x node segment page) × FitsDisks m s (written m.geometry s x node segment page).disks
  end_keeps =
      let ends = by_text (x.disks.begun segment page) refl in
      let texts = update_at x.texts segment page (settled_text (x.texts segment page) (begun_number (x.disks.begun segment page))) in
      (coherent_texts m s (seen (cleaned m.geometry s (record x { disks = settled_with x.disks segment page (x.disks.begun segment page); calls = update_at x.calls segment page 0 }) segment) node segment) texts ends.0, ends.1)

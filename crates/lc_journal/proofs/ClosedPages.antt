-- A record that is closed: its number is the token's next, and the pages of its bytes are touched under it.
use Rattle.std.proofs.Common.{◌≡◌, ℕ, zero, suc, ◌+◌, ◌*◌, ◌≤◌, Bool, true, false, List, [], ◌∷◌, map, length, filter, find, Option, Some, None, All, AllPairs, refl, sym, ap, subst, ◌∙◌, inl, inr, arith, true≢false}
use Rattle.std.specs.Prelude.{not, is_some, max, option_map, IsTrue, if◌then◌else◌}
use Rattle.std.proofs.Math.Nat.{le-max_left, le-max_right, le_refl}
use Rattle.std.proofs.lemmas.Bool.{false_from_ne_true}
use Rattle.std.proofs.lemmas.List.Elements.{All-cons, All-head, All-tail, All-map, All-filter}
use Rattle.lc_page.specs.declared.page_entry.PageEntry.{PageEntry}
use Rattle.lc_page.specs.PageVector.{entry_at, no_entry}
use Rattle.lc_record.specs.Content.{Content, segment_of}
use Rattle.lc_record.specs.Marks.{counting}
use Rattle.lc_record.specs.Newest.{number_or_zero, byte_of}
use Rattle.lc_record.specs.Recorded.{record_of, records_from, counted, locks_of}
use Rattle.lc_record.specs.Transaction.{Transaction, IsWellFormed, Meet, all_set, effect}
use Rattle.lc_record.specs.declared.geometry.Geometry.{Geometry}
use Rattle.lc_record.specs.declared.record.Record.{Record}
use Rattle.lc_record.proofs.LockLemmas.{meet_locks}
use Rattle.lc_model.specs.History.{Entry as HistoryEntry, History, transactions}
use Rattle.lc_model.specs.Machine.{closed_by}
use Rattle.lc_model.specs.Merging.{byte_at, counted_all, sets}
use Rattle.lc_model.specs.Sound.{Sound, IsClosedBefore, unclosed}
use Rattle.lc_model.specs.State.{Setting, State, is_by, is_unclosed}
use Rattle.lc_model.specs.Stored.{base}
use Rattle.lc_model.proofs.Fronts.{entry, transactions-closed}
use Rattle.lc_model.proofs.Keeps.{history-well}
use Rattle.lc_model.proofs.Law.{AllPairs-head, AllPairs-tail}
use Rattle.lc_model.proofs.Lists.{All-from_map, found-all}
use Rattle.lc_model.proofs.Merging.{counted-length, numbers-above, record-final}
use Rattle.lc_model.proofs.RecordBytes.{record-number, sets-locks}
use Rattle.lc_token.specs.Clean.{HasByteOn, TokenFits, closed_of}
use Rattle.lc_token.proofs.CleanLemmas.{token-closed}
use Rattle.lc_journal.specs.Coherent.{AreCoherent, entries_of}
use Rattle.lc_settled.specs.Numbers.{Numbers, sets_on, stable, token_number}
use Rattle.lc_settled.specs.Turns.{with_record}
use Rattle.lc_journal.proofs.Cohering.{entries_count, entry_is, token_alike, token_moved}
use Rattle.lc_journal.proofs.Counted.{none_behind, place_on, token_number_closed, unset_on}

-- The record with the next number

-- how many of these set the segment
abbrev setting : ℕ → List Transaction → ℕ
setting segment ts = length (filter (sets segment) ts)

number_most : (numbers : ℕ → ℕ) (segment : ℕ) (t : Transaction) → number_or_zero segment (locks_of numbers 1 t.marks) ≤ counted numbers t segment
number_most numbers segment t =
    elim (sets segment t) as (λ b. number_or_zero segment (locks_of numbers 1 t.marks) ≡ (if b then numbers segment + 1 else 0) → number_or_zero segment (locks_of numbers 1 t.marks) ≤ (if b then numbers segment + 1 else numbers segment)) [
      | true ↦ λ is. omega (arith, is)
      | false ↦ λ is. omega (arith, is)
    ] (record-number numbers segment t)

-- a record has bytes only where its transaction set them
byte_set : (g : Geometry) (numbers : ℕ → ℕ) (content : Content) (t : Transaction) (segment page : ℕ) → HasByteOn g segment page (record_of numbers content t) → sets_on segment page t ≡ true
byte_set g numbers content t segment page has =
    let offset = has.0 in
    let less = has.1 in
    place_on segment page (page * 256 + has.0) t (omega arith) (omega (arith, less))
    (elim (all_set (page * 256 + has.0) 1 (segment_of segment t.marks)) as (λ b. byte_of segment (page * 256 + has.0) (record_of numbers content t).ranges ≡ (if b then byte_at segment (page * 256 + has.0) (effect t content) else None) → b ≡ true) [
      | true ↦ λ is. refl
      | false ↦ λ none. absurd (true≢false (sym has.2 ∙ ap (λ (o : Option ℕ). is_some o) none))
    ] (record-final numbers content t segment (page * 256 + has.0)))

module _ (g : Geometry) (n i segment page : ℕ) (t : Transaction) (set : sets segment t ≡ true) where
  -- a record under this number that has bytes on the page is the transaction's
  abbrev IsIts : ℕ → Record → Type 0
  IsIts number r = number_or_zero segment r.locks ≡ number → HasByteOn g segment page r → sets_on segment page t ≡ true

  abbrev next_of : (ℕ → ℕ) → History → ℕ
  next_of numbers history = counted_all numbers (closed_of history) segment + 1

  its_one : (numbers : ℕ → ℕ) (content : Content) (u : Transaction) (closed : Bool) (es : History) → All IsWellFormed (transactions (entry u closed ∷ es)) → AllPairs IsClosedBefore (entry u closed ∷ es)
      → find (is_by n i) (unclosed (entry u closed ∷ es)) ≡ Some t
      → (find (is_by n i) (unclosed es) ≡ Some t → All (IsIts (next_of (counted numbers u) es)) (records_from (counted numbers u) (effect u content) (transactions es)))
      → All (IsIts (next_of numbers (entry u closed ∷ es))) (records_from numbers content (u ∷ transactions es))
  its_one numbers content u true es well before found next =
      All-cons (IsIts (next_of (counted numbers u) es)) (record_of numbers content u) (records_from (counted numbers u) (effect u content) (transactions es))
      (λ same has.
      let most = number_most numbers segment u in
      let all = counted-length (counted numbers u) (closed_of es) segment in
      absurd (omega (arith, most, all, same)))
      (next found)
  its_one numbers content u false es well before found next =
      elim (is_by n i u) as (λ b. is_by n i u ≡ b → All (IsIts (next_of numbers es)) (records_from numbers content (u ∷ transactions es))) [
        | true ↦ λ own.
            let same : u ≡ t = (let some : Some u ≡ Some t = rw own at found in cc) in
            All-cons (IsIts (next_of numbers es)) (record_of numbers content u) (records_from (counted numbers u) (effect u content) (transactions es))
            (λ number has. subst (λ v. sets_on segment page v ≡ true) same (byte_set g numbers content u segment page has))
            (λ k d k_in number has.
            let counts : counted numbers u segment ≡ numbers segment + 1 = ap (λ b. if b then numbers segment + 1 else numbers segment) (ap (sets segment) same ∙ set) in
            let none : setting segment (closed_of es) ≡ 0 = none_behind n i segment t set es (subst IsWellFormed same (All-head IsWellFormed u (transactions es) well)) (All-tail IsWellFormed u (transactions es) well)
            (subst (λ v. All (IsClosedBefore (entry v false)) es) same (AllPairs-head IsClosedBefore (entry u false) es before)) in
            let all = counted-length numbers (closed_of es) segment in
            elim (numbers-above (counted numbers u) (effect u content) segment (transactions es) k d k_in) [
              | inl zero_is ↦ absurd (omega (arith, zero_is, number))
              | inr above ↦ absurd (omega (arith, above, number, counts, none, all))
            ])
        | false ↦ λ other.
            let later : find (is_by n i) (unclosed es) ≡ Some t = rw other at found in
            let unset : sets segment u ≡ false = apart later in
            let number = record-number numbers segment u ∙ ap (λ b. if b then numbers segment + 1 else 0) unset in
            let counts : counted numbers u segment ≡ numbers segment = ap (λ b. if b then numbers segment + 1 else numbers segment) unset in
            let all = counted-length numbers (closed_of es) segment in
            let rest = counted-length (counted numbers u) (closed_of es) segment in
            let both : next_of (counted numbers u) es ≡ next_of numbers es = omega (arith, counts, all, rest) in
            All-cons (IsIts (next_of numbers es)) (record_of numbers content u) (records_from (counted numbers u) (effect u content) (transactions es))
            (λ same has. absurd (omega (arith, same, number)))
            (subst (λ (k : ℕ). All (IsIts k) (records_from (counted numbers u) (effect u content) (transactions es))) both (next later))
      ] refl
    where
      -- what is not closed and stands before it does not set the segment
      apart : find (is_by n i) (unclosed es) ≡ Some t → sets segment u ≡ false
      apart later = false_from_ne_true (sets segment u) (λ also.
          let Out : Transaction → Type 0 = λ v. Meet u v → IsTrue false in
          let out : Out t = found-all (is_by n i) Out (unclosed es) t later
          (All-map Out (λ (e : HistoryEntry). e.transaction) (filter (λ (e : HistoryEntry). not e.closed) es)
          (All-filter (λ (e : HistoryEntry). not e.closed) (λ (e : HistoryEntry). Out e.transaction) es (AllPairs-head IsClosedBefore (entry u false) es before))) in
          let proper : IsWellFormed t = found-all (is_by n i) IsWellFormed (unclosed es) t later
          (All-map IsWellFormed (λ (e : HistoryEntry). e.transaction) (filter (λ (e : HistoryEntry). not e.closed) es)
          (All-filter (λ (e : HistoryEntry). not e.closed) (λ (e : HistoryEntry). IsWellFormed e.transaction) es (All-from_map IsWellFormed (λ (e : HistoryEntry). e.transaction) es (All-tail IsWellFormed u (transactions es) well)))) in
          true≢false (sym (out (meet_locks u t segment (sets-locks u segment (All-head IsWellFormed u (transactions es) well) also) (sets-locks t segment proper set)))))

  its_from : (numbers : ℕ → ℕ) (content : Content) (history : History) → All IsWellFormed (transactions history) → AllPairs IsClosedBefore history → find (is_by n i) (unclosed history) ≡ Some t
      → All (IsIts (next_of numbers history)) (records_from numbers content (transactions history))
  its_from numbers content [] well before found = absurd cc
  its_from numbers content (e ∷ es) well before found = its_one numbers content e.transaction e.closed es well before found
      (λ later. its_from (counted numbers e.transaction) (effect e.transaction content) es (All-tail IsWellFormed e.transaction (transactions es) well) (AllPairs-tail IsClosedBefore e es before) later)

-- Entries

-- what holds of the entries page by page, and where there is none
at_each : (R : PageEntry → PageEntry → Type 0) (f h : ℕ → PageEntry) → R no_entry no_entry → ((page : ℕ) → R (f page) (h page)) → (pages : List ℕ) (page : ℕ) → R (entry_at (map f pages) page) (entry_at (map h pages) page)
at_each R f h none each [] zero = none
at_each R f h none each [] (suc page) = none
at_each R f h none each (first ∷ pages) zero = each first
at_each R f h none each (first ∷ pages) (suc page) = at_each R f h none each pages page

-- The reservation that a thread closes, as the history has it

found_one : (n i : ℕ) (t : Transaction) (closed : Bool) (es : History) → find (is_by n i) (unclosed es) ≡ option_map (λ (e : HistoryEntry). e.transaction) (find (is_unclosed n i) es)
    → find (is_by n i) (unclosed (entry t closed ∷ es)) ≡ option_map (λ (e : HistoryEntry). e.transaction) (find (is_unclosed n i) (entry t closed ∷ es))
found_one n i t true es next = next
found_one n i t false es next =
    elim (is_by n i t) as (λ b. (if b then Some t else find (is_by n i) (unclosed es)) ≡ option_map (λ (e : HistoryEntry). e.transaction) (if b then Some (entry t false) else find (is_unclosed n i) es)) [
      | true ↦ refl
      | false ↦ next
    ]

pub found_unclosed : (n i : ℕ) (history : History) → find (is_by n i) (unclosed history) ≡ option_map (λ (e : HistoryEntry). e.transaction) (find (is_unclosed n i) history)
found_unclosed n i [] = refl
found_unclosed n i (e ∷ es) = found_one n i e.transaction e.closed es (found_unclosed n i es)

-- The numbers after a close

module _ (m : Setting) (n i : ℕ) (s : State) (x : Numbers) (t : Transaction) (sound : Sound m.geometry s) (found : find (is_by n i) (unclosed s.history) ≡ Some t) where
  abbrev after : State
  after = record s { history = closed_by n i s.history }

  abbrev y : Numbers
  y = with_record s x n t

  number_after : (segment : ℕ) → token_number after y segment ≡ (if sets segment t then token_number s x segment + 1 else token_number s x segment)
  number_after segment = token_number_closed m.geometry s x n i segment t sound found

  number_rises : (segment : ℕ) → token_number s x segment ≤ token_number after y segment
  number_rises segment = elim (sets segment t) as (λ b. token_number after y segment ≡ (if b then token_number s x segment + 1 else token_number s x segment) → token_number s x segment ≤ token_number after y segment) [
    | true ↦ λ is. omega (arith, is)
    | false ↦ λ is. omega (arith, is)
  ] (number_after segment)

  token_counts : (segment : ℕ) → sets segment t ≡ true → TokenFits m s x.disks segment (token_number s x segment) (x.clean segment) (entries_of m.geometry x segment)
      → TokenFits m after x.disks segment (token_number s x segment + 1) (x.clean segment) (entries_of m.geometry y segment)
  token_counts segment set fits =
      token-closed m s x.disks segment (token_number s x segment) (x.clean segment) (entries_of m.geometry x segment) (entries_of m.geometry y segment) (closed_by n i s.history) fits (transactions-closed n i s.history)
      (entries_count m.geometry y segment ∙ sym (entries_count m.geometry x segment))
      (at_each (λ old new. (new.stable ≡ old.stable) × (old.touched ≤ new.touched)) (λ page. record no_entry { touched = x.touched segment page; stable = stable x segment page })
      (λ page. record no_entry { touched = y.touched segment page; stable = stable x segment page }) (refl, le_refl 0) (λ page. (refl, grows page)) (counting 0 m.geometry.pages))
      (λ k r k_in number page known has.
      let mark = its_from m.geometry n i segment page t set x.disks.numbers (base m s) s.history (history-well m.geometry s sound) sound.earlier_closed found k r k_in number has in
      let is = ap (λ (e : PageEntry). e.touched) (entry_is m.geometry y segment page known) in
      let now : y.touched segment page ≡ max (x.touched segment page) (token_number s x segment + 1) = ap (λ b. if b then max (x.touched segment page) (token_number s x segment + 1) else x.touched segment page) mark in
      let least = le-max_right (x.touched segment page) (token_number s x segment + 1) in
      omega (arith, is, now, least))
    where
      grows : (page : ℕ) → x.touched segment page ≤ y.touched segment page
      grows page = elim (sets_on segment page t) as (λ b. x.touched segment page ≤ (if b then max (x.touched segment page) (token_number s x segment + 1) else x.touched segment page)) [
        | true ↦ le-max_left (x.touched segment page) (token_number s x segment + 1)
        | false ↦ le_refl (x.touched segment page)
      ]

  token_stays : (segment : ℕ) → sets segment t ≡ false → TokenFits m s x.disks segment (token_number s x segment) (x.clean segment) (entries_of m.geometry x segment)
      → TokenFits m after x.disks segment (token_number s x segment) (x.clean segment) (entries_of m.geometry y segment)
  token_stays segment unset fits =
      token_moved m s after x.disks segment (token_number s x segment) (x.clean segment) (entries_of m.geometry y segment) refl (transactions-closed n i s.history)
      (token_alike m s x.disks segment (token_number s x segment) (x.clean segment) (entries_of m.geometry x segment) (entries_of m.geometry y segment)
      (entries_count m.geometry y segment ∙ sym (entries_count m.geometry x segment))
      (λ page known.
      let old = entry_is m.geometry x segment page known in
      let new = entry_is m.geometry y segment page known in (
        ap (λ (e : PageEntry). e.stable) new ∙ sym (ap (λ (e : PageEntry). e.stable) old),
        ap (λ (e : PageEntry). e.touched) new
            ∙ ap (λ b. if b then max (x.touched segment page) (token_number s x segment + 1) else x.touched segment page) (unset_on segment page t unset)
            ∙ sym (ap (λ (e : PageEntry). e.touched) old),
      ))
      fits)

  pub coherent_closed : AreCoherent m s x → AreCoherent m after y
  coherent_closed h = record {
    tokens = λ segment first last.
        elim (sets segment t) as (λ b. sets segment t ≡ b → TokenFits m after x.disks segment (token_number after y segment) (x.clean segment) (entries_of m.geometry y segment)) [
          | true ↦ λ set.
              subst (λ (k : ℕ). TokenFits m after x.disks segment k (x.clean segment) (entries_of m.geometry y segment)) (sym (number_after segment ∙ ap (λ b. if b then token_number s x segment + 1 else token_number s x segment) set))
              (token_counts segment set (h.tokens segment first last))
          | false ↦ λ unset.
              subst (λ (k : ℕ). TokenFits m after x.disks segment k (x.clean segment) (entries_of m.geometry y segment)) (sym (number_after segment ∙ ap (λ b. if b then token_number s x segment + 1 else token_number s x segment) unset))
              (token_stays segment unset (h.tokens segment first last))
        ] refl;
    clean = λ segment first last. (let most = h.clean segment first last in omega (arith, most, number_rises segment));
    known = h.known;
    resets = h.resets;
    writes = λ segment page.
        let its = h.writes segment page in
        record { begun = its.begun; opened = its.opened; within = λ text is. (let most = its.within text is in omega (arith, most, number_rises segment)) };
  }

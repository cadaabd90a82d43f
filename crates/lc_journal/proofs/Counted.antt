-- Of a journal: a record that is closed: what it makes of the tokens' numbers, of the node's slots, and of those of
-- the others.
use Rattle.std.proofs.Common.{◌≡◌, ℕ, zero, suc, ◌+◌, ◌-◌, ◌*◌, ◌<◌, ◌≤◌, Bool, true, false, List, [], ◌∷◌, take, drop, length, filter, find, Some, All, AllPairs, get_or, refl, sym, ap, subst, ◌∙◌, arith, true≢false}
use Rattle.std.specs.Prelude.{if◌then◌else◌}
use Rattle.std.proofs.lemmas.Bool.{false_from_ne_true}
use Rattle.std.proofs.lemmas.List.Elements.{All-head, All-tail, All-map, All-filter}
use Rattle.lc_record.specs.Content.{segment_of}
use Rattle.lc_record.specs.Transaction.{Transaction, all_set, IsWellFormed}
use Rattle.lc_record.specs.declared.geometry.Geometry.{Geometry}
use Rattle.lc_record.proofs.LockLemmas.{meet_locks}
use Rattle.lc_model.specs.History.{Entry as HistoryEntry, History, transactions}
use Rattle.lc_model.specs.Machine.{closed_by}
use Rattle.lc_model.specs.Merging.{sets, counted_all}
use Rattle.lc_model.specs.Sound.{Sound, AreApart, IsClosedBefore, unclosed}
use Rattle.lc_model.specs.State.{Setting, State, is_by}
use Rattle.lc_model.proofs.Fronts.{entry}
use Rattle.lc_model.proofs.Holders.{is_by-both}
use Rattle.lc_model.proofs.Law.{AllPairs-head, AllPairs-tail}
use Rattle.lc_model.proofs.Lists.{All-from_map, split}
use Rattle.lc_model.proofs.Merging.{counted-length}
use Rattle.lc_model.proofs.RecordBytes.{place-set, set-place, sets-locks}
use Rattle.lc_model.proofs.Visible.{none-pass}
use Rattle.lc_token.specs.Clean.{closed_of}
use Rattle.lc_settled.specs.Numbers.{Numbers, sets_on, token_number}

-- The numbers of the tokens

-- none is by the thread: none is closed
closed_none_one : (n i : ℕ) (t : Transaction) (closed : Bool) (es : History) → (All (λ u. is_by n i u ≡ false) (unclosed es) → closed_by n i es ≡ es)
    → All (λ u. is_by n i u ≡ false) (unclosed (entry t closed ∷ es)) → closed_by n i (entry t closed ∷ es) ≡ entry t closed ∷ es
closed_none_one n i t true es next none = ap (λ l. entry t true ∷ l) (next none)
closed_none_one n i t false es next none =
    let Not : Transaction → Type 0 = λ u. is_by n i u ≡ false in
    ap (λ b. (if b then entry t true else entry t false) ∷ closed_by n i es) (All-head Not t (unclosed es) none)
    ∙ ap (λ l. entry t false ∷ l) (next (All-tail Not t (unclosed es) none))

closed_none : (n i : ℕ) (es : History) → All (λ u. is_by n i u ≡ false) (unclosed es) → closed_by n i es ≡ es
closed_none n i [] none = refl
closed_none n i (e ∷ es) none = closed_none_one n i e.transaction e.closed es (closed_none n i es) none

-- how many of these set the segment
abbrev pub setting : ℕ → List Transaction → ℕ
setting segment ts = length (filter (sets segment) ts)

abbrev CountsOne : ℕ → Transaction → List Transaction → List Transaction → Type 0
CountsOne segment t before after = setting segment after ≡ (if sets segment t then setting segment before + 1 else setting segment before)

counts_first : (segment : ℕ) (t : Transaction) (ts : List Transaction) → CountsOne segment t ts (t ∷ ts)
counts_first segment t ts = elim (sets segment t) as (λ b. length (if b then t ∷ filter (sets segment) ts else filter (sets segment) ts) ≡ (if b then setting segment ts + 1 else setting segment ts)) [
  | true ↦ omega arith
  | false ↦ refl
]

counts_behind : (segment : ℕ) (t u : Transaction) (ts us : List Transaction) → CountsOne segment t ts us → CountsOne segment t (u ∷ ts) (u ∷ us)
counts_behind segment t u ts us one = elim (sets segment u) as (λ b.
    length (if b then u ∷ filter (sets segment) us else filter (sets segment) us)
    ≡ (if sets segment t then length (if b then u ∷ filter (sets segment) ts else filter (sets segment) ts) + 1 else length (if b then u ∷ filter (sets segment) ts else filter (sets segment) ts))) [
      | true ↦ (elim (sets segment t) as (λ b. (setting segment us ≡ (if b then setting segment ts + 1 else setting segment ts)) → suc (setting segment us) ≡ (if b then suc (setting segment ts) + 1 else suc (setting segment ts))) [
        | true ↦ λ is. omega (arith, is)
        | false ↦ λ is. omega (arith, is)
      ] one)
      | false ↦ one
    ]

counts_closed_one : (segment n i : ℕ) (u t : Transaction) (closed : Bool) (es : History) → AllPairs AreApart (unclosed (entry u closed ∷ es)) → find (is_by n i) (unclosed (entry u closed ∷ es)) ≡ Some t
    → (AllPairs AreApart (unclosed es) → find (is_by n i) (unclosed es) ≡ Some t → CountsOne segment t (closed_of es) (closed_of (closed_by n i es)))
    → CountsOne segment t (closed_of (entry u closed ∷ es)) (closed_of (closed_by n i (entry u closed ∷ es)))
counts_closed_one segment n i u t true es apart found next = counts_behind segment t u (closed_of es) (closed_of (closed_by n i es)) (next apart found)
counts_closed_one segment n i u t false es apart found next =
    elim (is_by n i u) as (λ b. is_by n i u ≡ b → CountsOne segment t (closed_of es) (closed_of ((if b then entry u true else entry u false) ∷ closed_by n i es))) [
      | true ↦ λ own.
          let same : u ≡ t = (let some : Some u ≡ Some t = rw own at found in cc) in
          subst (λ v. CountsOne segment v (closed_of es) (u ∷ closed_of (closed_by n i es))) same
          (subst (λ l. CountsOne segment u (closed_of es) (u ∷ closed_of l)) (sym (closed_none n i es (others own))) (counts_first segment u (closed_of es)))
      | false ↦ λ other. next (AllPairs-tail AreApart u (unclosed es) apart) (rw other at found)
    ] refl
  where
    others : is_by n i u ≡ true → All (λ v. is_by n i v ≡ false) (unclosed es)
    others own = λ k d k_in. false_from_ne_true (is_by n i (get_or (unclosed es) k d)) (λ also.
        let one = is_by-both n i u own in
        let two = is_by-both n i (get_or (unclosed es) k d) also in
        (AllPairs-head AreApart u (unclosed es) apart k d k_in).threads_differ (one.0 ∙ sym two.0) (one.1 ∙ sym two.1))

counts_closed : (segment n i : ℕ) (t : Transaction) (history : History) → AllPairs AreApart (unclosed history) → find (is_by n i) (unclosed history) ≡ Some t
    → CountsOne segment t (closed_of history) (closed_of (closed_by n i history))
counts_closed segment n i t [] apart found = absurd cc
counts_closed segment n i t (e ∷ es) apart found = counts_closed_one segment n i e.transaction t e.closed es apart found (counts_closed segment n i t es)

-- the record that is closed is one more of each segment that it set
pub token_number_closed : (g : Geometry) (s : State) (x : Numbers) (n i segment : ℕ) (t : Transaction) → Sound g s → find (is_by n i) (unclosed s.history) ≡ Some t
    → token_number (record s { history = closed_by n i s.history }) x segment ≡ (if sets segment t then token_number s x segment + 1 else token_number s x segment)
token_number_closed g s x n i segment t sound found =
    let one : CountsOne segment t (closed_of s.history) (closed_of (closed_by n i s.history)) = counts_closed segment n i t s.history (split AreApart s.running (unclosed s.history) sound.apart).right found in
    let before : token_number s x segment ≡ x.disks.numbers segment + setting segment (closed_of s.history) = counted-length x.disks.numbers (closed_of s.history) segment in
    let after : counted_all x.disks.numbers (closed_of (closed_by n i s.history)) segment ≡ x.disks.numbers segment + setting segment (closed_of (closed_by n i s.history)) = counted-length x.disks.numbers (closed_of (closed_by n i s.history)) segment in
    elim (sets segment t) as (λ b. (setting segment (closed_of (closed_by n i s.history)) ≡ (if b then setting segment (closed_of s.history) + 1 else setting segment (closed_of s.history)))
    → counted_all x.disks.numbers (closed_of (closed_by n i s.history)) segment ≡ (if b then token_number s x segment + 1 else token_number s x segment)) [
      | true ↦ λ is. omega (arith, is, before, after)
      | false ↦ λ is. omega (arith, is, before, after)
    ] one

module _ (n i segment : ℕ) (t : Transaction) (set : sets segment t ≡ true) where
  -- none that is closed and stands after it sets the segment
  pub none_behind : (es : History) → IsWellFormed t → All IsWellFormed (transactions es) → All (IsClosedBefore (entry t false)) es → setting segment (closed_of es) ≡ 0
  none_behind es well wells before =
      let Unset : Transaction → Type 0 = λ u. sets segment u ≡ false in
      none-pass (sets segment) (closed_of es)
      (All-map Unset (λ (e : HistoryEntry). e.transaction) (filter (λ (e : HistoryEntry). e.closed) es) (All-filter (λ (e : HistoryEntry). e.closed) (λ (e : HistoryEntry). Unset e.transaction) es
      (λ k d k_in. false_from_ne_true (sets segment (get_or es k d).transaction) (λ also.
      true≢false (sym (before k d k_in (meet_locks t (get_or es k d).transaction segment (sets-locks t segment well set)
      (sets-locks (get_or es k d).transaction segment (All-from_map IsWellFormed (λ (e : HistoryEntry). e.transaction) es wells k d k_in) also))))))))

-- Positions

set_take : (n k : ℕ) (marks : List Bool) → all_set k 1 (take n marks) ≡ true → (k < n) × (all_set k 1 marks ≡ true)
set_take zero k marks set = absurd (true≢false (sym set))
set_take (suc n) k [] set = absurd (true≢false (sym set))
set_take (suc n) zero (mark ∷ marks) set = (omega arith, set)
set_take (suc n) (suc k) (mark ∷ marks) set = (let one : (k < n) × (all_set k 1 marks ≡ true) = set_take n k marks set in (omega (arith, one.0), one.1))

take_set : (n k : ℕ) (marks : List Bool) → k < n → all_set k 1 marks ≡ true → all_set k 1 (take n marks) ≡ true
take_set zero k marks within set = absurd (omega arith)
take_set (suc n) k [] within set = set
take_set (suc n) zero (mark ∷ marks) within set = set
take_set (suc n) (suc k) (mark ∷ marks) within set = take_set n k marks (omega arith) set

set_drop : (n k : ℕ) (marks : List Bool) → all_set k 1 (drop n marks) ≡ all_set (n + k) 1 marks
set_drop zero k marks = (let same : k ≡ 0 + k = omega arith in ap (λ j. all_set j 1 marks) same)
set_drop (suc n) k [] = refl
set_drop (suc n) k (mark ∷ marks) = (let same : suc (n + k) ≡ suc n + k = omega arith in set_drop n k marks ∙ ap (λ j. all_set j 1 (mark ∷ marks)) same)

-- a page has a set position just where the segment has one there
pub on_place : (segment page : ℕ) (t : Transaction) → sets_on segment page t ≡ true
    → (k : ℕ) × (page * 256 ≤ k) × (k < page * 256 + 256) × (all_set k 1 (segment_of segment t.marks) ≡ true)
on_place segment page t set =
    let at : (k : ℕ) × (all_set k 1 (take 256 (drop (page * 256) (segment_of segment t.marks))) ≡ true) = set-place (take 256 (drop (page * 256) (segment_of segment t.marks))) set in
    let one : (at.0 < 256) × (all_set at.0 1 (drop (page * 256) (segment_of segment t.marks)) ≡ true) = set_take 256 at.0 (drop (page * 256) (segment_of segment t.marks)) at.1 in
    (page * 256 + at.0, omega arith, omega (arith, one.0), sym (set_drop (page * 256) at.0 (segment_of segment t.marks)) ∙ one.1)

pub place_on : (segment page k : ℕ) (t : Transaction) → page * 256 ≤ k → k < page * 256 + 256 → all_set k 1 (segment_of segment t.marks) ≡ true → sets_on segment page t ≡ true
place_on segment page k t from to set =
    let same : page * 256 + (k - page * 256) ≡ k = omega arith in
    place-set (take 256 (drop (page * 256) (segment_of segment t.marks))) (k - page * 256)
    (take_set 256 (k - page * 256) (drop (page * 256) (segment_of segment t.marks)) (omega arith)
    (set_drop (page * 256) (k - page * 256) (segment_of segment t.marks) ∙ ap (λ j. all_set j 1 (segment_of segment t.marks)) same ∙ set))

-- what sets nothing of a segment sets nothing on its pages
pub unset_on : (segment page : ℕ) (t : Transaction) → sets segment t ≡ false → sets_on segment page t ≡ false
unset_on segment page t unset = false_from_ne_true (sets_on segment page t) (λ set.
    let at = on_place segment page t set in
    true≢false (sym (place-set (segment_of segment t.marks) at.0 at.3) ∙ unset))

module _ (m : Setting) (n i : ℕ) (s : State) (x : Numbers) (t : Transaction) (sound : Sound m.geometry s) (found : find (is_by n i) (unclosed s.history) ≡ Some t) where
  abbrev pub after : State
  after = record s { history = closed_by n i s.history }

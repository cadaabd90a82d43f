-- The token's number.
use Rattle.std.proofs.Common.{◌≡◌, ℕ, zero, suc, ◌+◌, ◌<◌, ◌≤◌, true, false, not, List, [], ◌∷◌, map, length, filter, get_or, All, Contains, refl, sym, ◌∙◌, ap, arith, true≢false, eq-eqb}
use Rattle.std.specs.Prelude.{if◌then◌else◌}
use Rattle.std.proofs.lemmas.List.Elements.{All-head, All-tail, All-contains}
use Rattle.lc_record.specs.Transaction.{Transaction, IsWellFormed, locks}
use Rattle.lc_model.specs.History.{Entry, History, transactions, is_of, reserved, front}
use Rattle.lc_model.specs.State.{State, Setting, At}
use Rattle.lc_model.specs.Merging.{sets, counted_all}
use Rattle.lc_model.specs.Sound.{Sound, IsHere}
use Rattle.lc_model.proofs.Lists.{All-from_map}
use Rattle.lc_model.proofs.Keeps.{unclosed-here}
use Rattle.lc_record.proofs.LockLemmas.{lock_holds}
use Rattle.lc_model.proofs.Merging.{counted-length}
use Rattle.lc_model.proofs.RecordBytes.{sets-locks}
use Rattle.lc_model.specs.Stored.{Disks}
use Rattle.lc_token.specs.Clean.{closed_of}
use Rattle.lc_model.proofs.Visible.{contains-filter}
use Rattle.lc_model.proofs.Shown.{proper-well}

-- a node with a record that is not closed has more reserved than its closed front
unclosed-front : (node : ℕ) (history : History) (k : ℕ) (d : Entry) → k < length history → is_of node (get_or history k d).transaction ≡ true → (get_or history k d).closed ≡ false → front node history < reserved node history
unclosed-front node [] k d k_in own unclosed_one = absurd (omega arith)
unclosed-front node (e ∷ es) zero d k_in own unclosed_one =
    rw (own, unclosed_one) (omega arith)
unclosed-front node (e ∷ es) (suc k) d k_in own unclosed_one =
    let behind : k < length es = omega arith in
    let next : front node es < reserved node es = unclosed-front node es k d behind own unclosed_one in
    elim (is_of node e.transaction) as (λ b. is_of node e.transaction ≡ b → front node (e ∷ es) < reserved node (e ∷ es)) [
      | true ↦ λ mine.
          (elim (e.closed) as (λ b. e.closed ≡ b → front node (e ∷ es) < reserved node (e ∷ es)) [
            | true ↦ λ is. rw (mine, is) (omega (arith, next))
            | false ↦ λ is. rw (mine, is) (omega arith)
          ] refl)
      | false ↦ λ other. rw other next
    ] refl

get-own : (history : History) (k : ℕ) (d : Entry) → k < length history → get_or history k (get_or history k d) ≡ get_or history k d
get-own [] k d k_in = absurd (omega arith)
get-own (e ∷ es) zero d k_in = refl
get-own (e ∷ es) (suc k) d k_in =
    let behind : k < length es = omega arith in
    get-own es k d behind

abbrev IsClosedIf : ℕ → Entry → Type 0
IsClosedIf segment e = sets segment e.transaction ≡ true → e.closed ≡ true

closed-same : (segment : ℕ) (history : History) → All (IsClosedIf segment) history → filter (sets segment) (closed_of history) ≡ filter (sets segment) (transactions history)
closed-same segment [] all = refl
closed-same segment (e ∷ es) all =
    let next : filter (sets segment) (closed_of es) ≡ filter (sets segment) (transactions es) = closed-same segment es (All-tail (IsClosedIf segment) e es all) in
    let own : sets segment e.transaction ≡ true → e.closed ≡ true = All-head (IsClosedIf segment) e es all in
    elim (e.closed) as (λ b. (sets segment e.transaction ≡ true → b ≡ true) → filter (sets segment) (map (λ f. f.transaction) (if b then e ∷ filter (λ f. f.closed) es else filter (λ f. f.closed) es)) ≡ filter (sets segment) (transactions (e ∷ es))) [
      | true ↦ λ yes. ap (λ ts. if sets segment e.transaction then e.transaction ∷ ts else ts) next
      | false ↦ λ only.
          elim (sets segment e.transaction) as (λ b. (b ≡ true → false ≡ true) → filter (sets segment) (closed_of es) ≡ (if b then e.transaction ∷ filter (sets segment) (transactions es) else filter (sets segment) (transactions es))) [
            | true ↦ λ wrong. absurd (true≢false (sym (wrong refl)))
            | false ↦ λ fine. next
          ] only
    ] own

-- where a node has a segment's token and all of its own is acknowledged, all of the segment's is closed: so the number
-- that counts the closed ones is that of all
pub token-number : (m : Setting) (s : State) (d : Disks) (segment node : ℕ) → Sound m.geometry s → s.place segment ≡ At node → s.ack node ≡ reserved node s.history → counted_all d.numbers (closed_of s.history) segment ≡ counted_all d.numbers (transactions s.history) segment
token-number m s d segment node sound here all_acked =
    let well : All (λ (e : Entry). IsWellFormed e.transaction) s.history = All-from_map IsWellFormed (λ (e : Entry). e.transaction) s.history (proper-well m.geometry s sound) in
    let unclosed_here : All (λ (e : Entry). IsHere s.place e.transaction) (filter (λ e. not e.closed) s.history) =
    All-from_map (IsHere s.place) (λ (e : Entry). e.transaction) (filter (λ e. not e.closed) s.history) (unclosed-here m.geometry s sound) in
    let all : All (IsClosedIf segment) s.history =
    λ k d k_in own. elim ((get_or s.history k d).closed) as (λ b. (get_or s.history k d).closed ≡ b → b ≡ true) [
      | true ↦ λ is. refl
      | false ↦ λ is.
          let among : Contains (filter (λ e. not e.closed) s.history) (get_or s.history k d) = contains-filter (λ (e : Entry). not e.closed) s.history k (get_or s.history k d) (ap not is) k_in (get-own s.history k d k_in) in
          let lock : locks (get_or s.history k d).transaction segment ≡ true = sets-locks (get_or s.history k d).transaction segment (well k d k_in) own in
          let at : s.place segment ≡ At (get_or s.history k d).transaction.node = All-contains (λ (e : Entry). IsHere s.place e.transaction) (filter (λ e. not e.closed) s.history) (get_or s.history k d) unclosed_here among segment (lock_holds (get_or s.history k d).transaction segment lock) in
          let same : (get_or s.history k d).transaction.node ≡ node = (let places : At (get_or s.history k d).transaction.node ≡ At node = sym at ∙ here in cc) in
          let less : front node s.history < reserved node s.history = unclosed-front node s.history k d k_in (eq-eqb (get_or s.history k d).transaction.node node same) is in
          let low : s.ack node ≤ front node s.history = sound.acked node in
          absurd (omega (arith, less, low, all_acked))
    ] refl in
    counted-length d.numbers (closed_of s.history) segment
    ∙ ap (λ (ts : List Transaction). d.numbers segment + length ts) (closed-same segment s.history all)
    ∙ sym (counted-length d.numbers (transactions s.history) segment)

-- Of nodes that run: the published records that every node has applied are counted, and trimmed.
use Rattle.std.proofs.Common.{◌≡◌, ℕ, zero, suc, ◌+◌, ◌-◌, ◌<◌, ◌≤◌, Bool, true, false, List, [], ◌∷◌, map, length, take, Some, slice_get, refl, sym, ap, ◌∙◌, arith, below_more}
use Rattle.std.specs.Prelude.{◌&&◌}
use Rattle.std.specs.List.{list_all}
use Rattle.std.proofs.lemmas.List.{length-drop, length-take-le}
use Rattle.std.proofs.lemmas.Option.{slice_get_within, same_Some as same_some}
use Rattle.std.proofs.Math.Bool.{and-false as and_false}
use Rattle.lc_disk.specs.declared.area.Area.{Ghosts}
use Rattle.lc_record.specs.Marks.{counting}
use Rattle.lc_record.specs.declared.record.Record.{Record}
use Rattle.lc_record.proofs.ListLemmas.{slice_get-take as get_take, slice_get-drop as at_drop}
use Rattle.lc_model.specs.History.{leading}
use Rattle.lc_model.specs.Sound.{Sound}
use Rattle.lc_model.specs.State.{Setting, State}
use Rattle.lc_model.specs.Stored.{records_of}
use Rattle.lc_model.proofs.Moves.{acked-records}
use Rattle.lc_journal.specs.Follows.{FitsJournal}
use Rattle.lc_settled.specs.Numbers.{Numbers, published}
use Rattle.lc_journal.specs.Records.{Spelled, count_of, front_of}
use Rattle.lc_events.specs.Trimming.{is_done, AllFit, TellsLocks, Counts}
use Rattle.lc_journal.specs.declared.journal.Journal.{Journal}
use Rattle.lc_events.specs.declared.node_state.NodeState.{NodeState}
use Rattle.lc_journal.proofs.FoundByNumber.{kept_at}
use Rattle.lc_journal.proofs.Spans.{leading_le}
use Rattle.lc_journal.proofs.Trimmed.{known_at}

-- Lists

pub all_pass : {A : Type 0} (p : A → Bool) (xs : List A) → ((k : ℕ) (x : A) → slice_get xs k ≡ Some x → p x ≡ true) → list_all p xs ≡ true
all_pass p [] each = refl
all_pass p (x ∷ xs) each = ap (λ b. b && list_all p xs) (each 0 x refl) ∙ all_pass p xs (λ k y is. each (suc k) y is)

pub one_fails : {A : Type 0} (p : A → Bool) (xs : List A) (k : ℕ) (x : A) → slice_get xs k ≡ Some x → p x ≡ false → list_all p xs ≡ false
one_fails p [] k x is fails = absurd cc
one_fails p (y ∷ xs) zero x is fails = ap (λ b. b && list_all p xs) (ap p (same_some y x is) ∙ fails)
one_fails p (y ∷ xs) (suc k) x is fails = ap (λ b. p y && b) (one_fails p xs k x is fails) ∙ and_false (p y)

pub all_counted : (p : ℕ → Bool) (from count : ℕ) → ((k : ℕ) → k < count → p (from + k) ≡ true) → list_all p (counting from count) ≡ true
all_counted p from zero each = refl
all_counted p from (suc count) each =
    let first : from + 0 ≡ from = omega arith in
    let some : 0 < suc count = omega arith in
    ap (λ b. b && list_all p (counting (from + 1) count)) (ap p (sym first) ∙ each 0 some)
    ∙ all_counted p (from + 1) count (λ k below.
    let next : (from + 1) + k ≡ from + suc k = omega arith in
    let less : suc k < suc count = omega (arith, below) in
    ap p next ∙ each (suc k) less)

pub one_counted : (p : ℕ → Bool) (from count k : ℕ) → k < count → p (from + k) ≡ false → list_all p (counting from count) ≡ false
one_counted p from zero k below fails = absurd (omega (arith, below))
one_counted p from (suc count) zero below fails =
    let first : from ≡ from + 0 = omega arith in
    ap (λ b. b && list_all p (counting (from + 1) count)) (ap p first ∙ fails)
one_counted p from (suc count) (suc k) below fails =
    let next : (from + 1) + k ≡ from + suc k = omega arith in
    let less : k < count = omega (arith, below) in
    ap (λ b. p from && b) (one_counted p (from + 1) count k less (ap p next ∙ fails)) ∙ and_false (p from)

leads_all : {A : Type 0} (p : A → Bool) (xs : List A) → ((k : ℕ) (x : A) → slice_get xs k ≡ Some x → p x ≡ true) → leading (map p xs) ≡ length xs
leads_all p [] each = refl
leads_all p (x ∷ xs) each =
    let rest = leads_all p xs (λ k y is. each (suc k) y is) in
    ap (λ b. leading (b ∷ map p xs)) (each 0 x refl) ∙ omega (arith, rest)

leads_to : {A : Type 0} (p : A → Bool) (xs : List A) (count : ℕ) (x : A) → slice_get xs count ≡ Some x → p x ≡ false
    → ((k : ℕ) (x : A) → k < count → slice_get xs k ≡ Some x → p x ≡ true) → leading (map p xs) ≡ count
leads_to p [] count x is fails each = absurd cc
leads_to p (y ∷ xs) zero x is fails each = ap (λ b. leading (b ∷ map p xs)) (ap p (same_some y x is) ∙ fails)
leads_to p (y ∷ xs) (suc count) x is fails each =
    let some : 0 < suc count = omega arith in
    let rest = leads_to p xs count x is fails (λ k z below at. (let less : suc k < suc count = omega (arith, below) in each (suc k) z less at)) in
    ap (λ b. leading (b ∷ map p xs)) (each 0 y some refl) ∙ omega (arith, rest)

-- The records in front

published_at : (m : Setting) (n : ℕ) (s : State) (x : Numbers) (k : ℕ) → x.trimmed n + k < s.ack n
    → slice_get (published m s x n) k ≡ slice_get (records_of m s x.disks n) (x.trimmed n + k)
published_at m n s x k below =
    at_drop (x.trimmed n) k (take (s.ack n) (records_of m s x.disks n)) ∙ get_take (s.ack n) (x.trimmed n + k) (records_of m s x.disks n) below

published_count : (m : Setting) (n : ℕ) (s : State) (x : Numbers) → Sound m.geometry s → length (published m s x n) ≡ s.ack n - x.trimmed n
published_count m n s x sound =
    let records : List Record = records_of m s x.disks n in
    let few = acked-records m s x.disks n sound in
    length-drop (x.trimmed n) (take (s.ack n) records) ∙ ap (λ (k : ℕ). k - x.trimmed n) (length-take-le (s.ack n) records few)

module _ {D : Type 0} (a : Ghosts D) where
  -- so many of the records that a journal has published, from the first, are applied at all of these nodes
  abbrev pub AreDone : List (NodeState D a) → Journal D a → ℕ → Type 0
  AreDone nodes w count =
      (m : Setting) (n : ℕ) (s : State) (x : Numbers) → Sound m.geometry s → FitsJournal a m n w s x → AllFit a m nodes s x
      → (k : ℕ) (r : Record) → k < count → slice_get (published m s x n) k ≡ Some r → is_done m x r ≡ true

  pub all_done : (nodes : List (NodeState D a)) (w : Journal D a) → AreDone nodes w (w.acked - w.trimmed) → Counts a nodes w (w.acked - w.trimmed)
  all_done nodes w done m n s x sound journal slots =
      let count = published_count m n s x sound in
      let same : w.acked - w.trimmed ≡ length (published m s x n) = omega (arith, count, journal.acked_is, journal.trimmed_is) in
      same ∙ sym (leads_all (is_done m x) (published m s x n) (λ k r at.
      let within = slice_get_within (published m s x n) k r at in
      let below : k < w.acked - w.trimmed = omega (arith, within, same) in
      done m n s x sound journal slots k r below at))

  module _ (nodes : List (NodeState D a)) (w : Journal D a) (number : ℕ) (kept : w.trimmed ≤ number) (below : number < w.acked) (words : List ℕ)
      (are : (r : Spelled) → slice_get w.records.records (number - w.records.before) ≡ Some r → words ≡ r.words) where
    -- the words are those of the record of the number
    looked_at : (answer : Bool) → TellsLocks a nodes words answer → (m : Setting) (n : ℕ) (s : State) (x : Numbers) → Sound m.geometry s → FitsJournal a m n w s x → AllFit a m nodes s x
        → (r : Record) × (slice_get (published m s x n) (number - w.trimmed) ≡ Some r) × (answer ≡ is_done m x r)
    looked_at answer tells m n s x sound journal slots =
        let front : front_of w.records ≤ count_of w.records = omega (arith, leading_le w.records.records) in
        let one = kept_at a m n s x w.log w.records w.dropped w.trimmed w.taken w.acked journal number words
        (omega (arith, w.kept_for_peers, kept)) (omega (arith, below, w.acked_taken, w.taken_closed, front)) are in
        let there : x.trimmed n + (number - w.trimmed) ≡ number = omega (arith, kept, journal.trimmed_is) in
        let within : x.trimmed n + (number - w.trimmed) < s.ack n = omega (arith, there, below, journal.acked_is) in (
          one.0,
          published_at m n s x (number - w.trimmed) within ∙ ap (slice_get (records_of m s x.disks n)) there ∙ one.1,
          tells m s x one.0 slots one.2 (known_at m n s x number one.0 sound one.1),
        )

    pub stops_at : AreDone nodes w (number - w.trimmed) → TellsLocks a nodes words false → Counts a nodes w (number - w.trimmed)
    stops_at done tells m n s x sound journal slots =
        let one = looked_at false tells m n s x sound journal slots in
        sym (leads_to (is_done m x) (published m s x n) (number - w.trimmed) one.0 one.1 (sym one.2) (done m n s x sound journal slots))

    pub one_more : AreDone nodes w (number - w.trimmed) → TellsLocks a nodes words true → AreDone nodes w ((number + 1) - w.trimmed)
    one_more done tells m n s x sound journal slots k r less at =
        let one = looked_at true tells m n s x sound journal slots in
        below_more (λ (k : ℕ). (r : Record) → slice_get (published m s x n) k ≡ Some r → is_done m x r ≡ true) (number - w.trimmed)
        (λ k before r at. done m n s x sound journal slots k r before at)
        (λ r at. (let same : r ≡ one.0 = same_some r one.0 (sym at ∙ one.1) in ap (is_done m x) same ∙ sym one.2))
        k (omega (arith, less, kept)) r at

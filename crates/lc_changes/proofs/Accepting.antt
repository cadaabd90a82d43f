-- An end hands its ranges over without a refusal.
use Rattle.std.proofs.Common.{◌≡◌, ◌⊎◌, ℕ, ◌+◌, ◌-◌, ◌<◌, ◌≤◌, true, nat_le, List, [], ◌∷◌, ◌++◌, length, take, drop, Some, refl, sym, ◌∙◌, ap, subst, inl, inr, arith, append_assoc, length-append, ne_eqb, true≢false}
use Rattle.std.specs.Prelude.{◌↔◌}
use Rattle.std.proofs.lemmas.Bool.{le-leb, lt-ltb}
use Rattle.lc_record.specs.Content.{segment_of}
use Rattle.lc_record.specs.Transaction.{Marks, Transaction, all_set, is_member, locks}
use Rattle.lc_record.specs.Marks.{marked, no_marks, ranges}
use Rattle.lc_record.specs.Geometry.{segment_len}
use Rattle.lc_record.specs.declared.geometry.Geometry.{Geometry}
use Rattle.lc_record.proofs.LockLemmas.{lock_holds}
use Rattle.lc_range.specs.Range.{HasPosition}
use Rattle.lc_range.specs.RangeSet.{Has, IsCanonical}
use Rattle.lc_range.specs.declared.range.Range.{Range}
use Rattle.lc_range.proofs.CopyLemmas.{length_part}
use Rattle.lc_range.proofs.PlaceLemmas.{canonical_front}
use Rattle.lc_tx.proofs.MarkLemmas.{count_all, set_is_runs}
use Rattle.lc_tx.proofs.StandsLemmas.{each-set}
use Rattle.lc_model.specs.Machine.{Run, Step, changed}
use Rattle.lc_model.specs.Refusals.{is_known, is_node, is_segment, is_thread, is_up}
use Rattle.lc_model.specs.Sound.{Sound, IsProper}
use Rattle.lc_model.specs.State.{State, Setting, is_by, running_of}
use Rattle.lc_model.specs.declared.event.Event.TheVariants.{SetRange, Write}
use Rattle.lc_model.specs.declared.reply.Reply.TheVariants.{Ok as Accepted}
use Rattle.lc_model.proofs.Keeps.{sound-step}
use Rattle.lc_model.proofs.Lists.{found-all}
use Rattle.lc_model.proofs.Rows.{common-none, set_range-done, step-row, write-done}
use Rattle.lc_changes.specs.Calls.{AreRangesOf, IsWorking, OnlyHasSet, accepting, handing}
use Rattle.lc_changes.specs.Gathering.{LieInImages}
use Rattle.lc_changes.specs.Images.{Images}
use Rattle.lc_changes.proofs.Alone.{own_of}
use Rattle.lc_changes.proofs.Answering.{long, sets-range}
use Rattle.lc_changes.proofs.HandedOver.{new-unset, set-inside, with_range}
use Rattle.lc_changes.proofs.Working.{dropped-changed, its-thread, same-working}

-- One range more

has-last : (done : List Range) (r : Range) (s k : ℕ) → Has (done ++ r ∷ []) s k ↔ (Has done s k ⊎ HasPosition r s k)
has-last [] r s k = ((λ h. elim h [ inl here ↦ inr here | inr never ↦ absurd never ]), (λ h. elim h [ inl never ↦ absurd never | inr here ↦ inl here ]))
has-last (d ∷ done) r s k =
    let next = has-last done r s k in (
      (λ h. elim h [ inl first ↦ inl (inl first) | inr later ↦ elim (next.0 later) [ inl old ↦ inl (inr old) | inr here ↦ inr here ] ]),
      (λ h. elim h [ inl old ↦ elim old [ inl first ↦ inl first | inr later ↦ inr (next.1 (inl later)) ] | inr here ↦ inr (next.1 (inr here)) ]),
    )

last-some : (done : List Range) (r : Range) → IsCanonical (done ++ r ∷ []) → 1 ≤ r.len
last-some [] r canonical = canonical.0
last-some (d ∷ done) r canonical = last-some done r canonical.2

-- these ranges lie in segments that are locked for writing
abbrev Fit : Geometry → List ℕ → List Range → Type 0
Fit g locked [] = Unit {0}
Fit g locked (r ∷ rs) = (is_member r.segment locked ≡ true) × (r.offset + r.len ≤ segment_len g) × Fit g locked rs

segment-known : (g : Geometry) (t : Transaction) (segment : ℕ) → IsProper g t → locks t segment ≡ true → is_segment g segment ≡ true
segment-known g t segment proper lock =
    let within = proper.segments_known segment (lock_holds t segment lock) in
    let low : nat_le 1 segment ≡ true = le-leb 1 segment within.0 in
    let high : nat_le segment g.segments ≡ true = le-leb segment g.segments within.1 in
    rw (low, high) refl

range-known : (g : Geometry) (t : Transaction) (n k segment offset len : ℕ) → IsProper g t → t.node ≡ n → t.thread ≡ k → locks t segment ≡ true → is_known g (SetRange n k segment offset len) ≡ true
range-known g t n k segment offset len proper nodes threads lock =
    let node_in : is_node g n ≡ true = lt-ltb n g.nodes (subst (λ (x : ℕ). x < g.nodes) nodes proper.node_known) in
    let thread_in : is_thread g k ≡ true = lt-ltb k g.threads (subst (λ (x : ℕ). x < g.threads) threads proper.thread_known) in
    let segment_in : is_segment g segment ≡ true = segment-known g t segment proper lock in
    rw (node_in, thread_in, segment_in) refl

write-known : (g : Geometry) (n k segment offset len : ℕ) (bytes : List ℕ) → is_known g (SetRange n k segment offset len) ≡ true → is_known g (Write n k segment offset bytes) ≡ true
write-known g n k segment offset len bytes known = known

accepts : (m : Setting) (n k : ℕ) (images : Images) (done rest : List Range) (s : State) (v : Transaction) → Sound m.geometry s → IsWorking s → running_of n k s ≡ Some v → AreRangesOf v.marks done → IsCanonical (done ++ rest) → length (done ++ rest) ≤ 64
    → Fit m.geometry v.locked rest → LieInImages images rest → (h : State) × Run m s (handing n k images rest) (accepting rest) h
accepts m n k images done [] s v sound works found are canonical few fit inside = (s, refl)
accepts m n k images done (r ∷ rs) s v sound works found are canonical few fit inside =
    let g : Geometry = m.geometry in
    let part : List ℕ = take r.len (drop r.offset (images r.segment)) in
    let one : Transaction = marked v r.segment r.offset r.len in
    let two : Transaction = with_range images v r in
    let now : List Range = done ++ r ∷ [] in
    let split : (done ++ r ∷ []) ++ rs ≡ done ++ r ∷ rs = append_assoc done (r ∷ []) rs in
    let whole : IsCanonical ((done ++ r ∷ []) ++ rs) = subst IsCanonical (sym split) canonical in
    let front : IsCanonical (done ++ r ∷ []) = canonical_front (done ++ r ∷ []) rs whole in
    let many : length ((done ++ r ∷ []) ++ rs) ≤ 64 = subst (λ (x : List Range). length x ≤ 64) (sym split) few in
    let fewer : length (done ++ r ∷ []) ≤ 64 = (let sum = length-append (done ++ r ∷ []) rs in omega (arith, sum, many)) in
    let proper : IsProper m.geometry v = found-all (is_by n k) (IsProper m.geometry) s.running v found sound.running_proper in
    let by : (v.node ≡ n) × (v.thread ≡ k) = its-thread s n k v found in
    let some : 1 ≤ r.len = last-some done r front in
    let set_now : AreRangesOf (marked v r.segment r.offset r.len).marks (done ++ r ∷ []) = sets-range m.geometry v done (done ++ r ∷ []) r.segment r.offset r.len proper are fit.0 fit.1 (λ x j. has-last done r x j) in
    let count : length (done ++ r ∷ []) ≡ ranges (marked v r.segment r.offset r.len).marks =
    ap length (set_is_runs (done ++ r ∷ []) (marked v r.segment r.offset r.len).marks front set_now) ∙ count_all 1 (marked v r.segment r.offset r.len).marks in
    let known : is_known m.geometry (SetRange n k r.segment r.offset r.len) ≡ true = range-known m.geometry v n k r.segment r.offset r.len proper by.0 by.1 fit.0 in
    let first : Step m s (SetRange n k r.segment r.offset r.len) Accepted (changed s one) =
    step-row m s (SetRange n k r.segment r.offset r.len) Accepted (changed s one) (common-none m.geometry s (SetRange n k r.segment r.offset r.len) (ap is_up works.up) known (works.not_halted n))
    (set_range-done m s n k r.segment r.offset r.len v found fit.0 (ne_eqb r.len 0 (λ e. omega (arith, e, some))) (le-leb (r.offset + r.len) (segment_len m.geometry) fit.1)
    (le-leb (ranges (marked v r.segment r.offset r.len).marks) 64 (omega (arith, count, fewer)))) in
    let found_one : running_of n k (changed s one) ≡ Some one = own_of s n k v one found refl refl in
    let works_one : IsWorking (changed s one) = same-working s (changed s one) n k (dropped-changed s n k one by.0 by.1) works in
    let long_part : length (take r.len (drop r.offset (images r.segment))) ≡ r.len = length_part (images r.segment) r.offset r.len inside.0 in
    let second : Step m (changed s one) (Write n k r.segment r.offset part) Accepted (changed (changed s one) two) =
    step-row m (changed s one) (Write n k r.segment r.offset part) Accepted (changed (changed s one) two)
    (common-none m.geometry (changed s one) (Write n k r.segment r.offset part) (ap is_up works_one.up) (write-known m.geometry n k r.segment r.offset r.len part known) (works_one.not_halted n))
    (write-done m (changed s one) n k r.segment r.offset part one found_one fit.0 (le-leb (r.offset + length part) (segment_len m.geometry) (let fits = fit.1 in omega (arith, long_part, fits)))
    (each-set r.offset (length part) (segment_of r.segment one.marks) (λ j low high. (set_now r.segment j).0 ((has-last done r r.segment j).1 (inr (refl, low, omega (arith, high, long_part))))))) in
    let found_two : running_of n k (changed (changed s one) two) ≡ Some two = own_of (changed s one) n k one two found_one refl refl in
    let sound_two : Sound m.geometry (changed (changed s one) two) =
    sound-step m (changed s one) (Write n k r.segment r.offset part) Accepted (changed (changed s one) two) (sound-step m s (SetRange n k r.segment r.offset r.len) Accepted (changed s one) sound first) second in
    let works_two : IsWorking (changed (changed s one) two) = same-working (changed s one) (changed (changed s one) two) n k (dropped-changed (changed s one) n k two by.0 by.1) works_one in
    let rest = accepts m n k images (done ++ r ∷ []) rs (changed (changed s one) two) two sound_two works_two found_two set_now whole many fit.2 inside.1 in
    (rest.0, (changed s one, first, (changed (changed s one) two, second, rest.1)))

-- the ranges that are set lie so
fit-set : (g : Geometry) (done : Transaction) (rs : List Range) → IsProper g done → IsCanonical rs → ((s k : ℕ) → Has rs s k → all_set k 1 (segment_of s done.marks) ≡ true) → Fit g done.locked rs
fit-set g done [] proper canonical set = tt
fit-set g done (r ∷ rs) proper canonical set =
    let some : 1 ≤ r.len = canonical.0 in
    let lock : locks done r.segment ≡ true = proper.well.set_locked r.segment r.offset (set r.segment r.offset (inl (refl, omega arith, omega (arith, some)))) in
    let last : r.offset + r.len - 1 < length (segment_of r.segment done.marks) =
    set-inside (r.offset + r.len - 1) (segment_of r.segment done.marks) (set r.segment (r.offset + r.len - 1) (inl (refl, omega (arith, some), omega (arith, some)))) in
    let is : length (segment_of r.segment done.marks) ≡ segment_len g = long g done r.segment proper lock in
    (lock, omega (arith, last, is, some), fit-set g done rs proper canonical.2 (λ s k has. set s k (inr has)))

pub ends-accepted : (m : Setting) (s : State) (n k : ℕ) (images : Images) (rs : List Range) (t done : Transaction) → Sound m.geometry s → IsWorking s → running_of n k s ≡ Some t → t.marks ≡ no_marks m.geometry
    → OnlyHasSet t done → IsProper m.geometry done → IsCanonical rs → AreRangesOf done.marks rs → LieInImages images rs → (h : State) × Run m s (handing n k images rs) (accepting rs) h
ends-accepted m s n k images rs t done sound works found marks only proper canonical are inside =
    let none : AreRangesOf t.marks [] = λ g j. ((λ never. absurd never), (λ set. absurd (true≢false (sym set ∙ ap (λ (x : Marks). all_set j 1 (segment_of g x)) marks ∙ new-unset m.geometry g j)))) in
    let count : length rs ≡ ranges done.marks = ap length (set_is_runs rs done.marks canonical are) ∙ count_all 1 done.marks in
    let few : length rs ≤ 64 = (let most = proper.few_ranges in omega (arith, count, most)) in
    let fit : Fit m.geometry t.locked rs = subst (λ (l : List ℕ). Fit m.geometry l rs) (ap (λ (x : Transaction). x.locked) only) (fit-set m.geometry done rs proper canonical (λ x j. (are x j).0)) in
    accepts m n k images [] rs s t sound works found none canonical few fit inside

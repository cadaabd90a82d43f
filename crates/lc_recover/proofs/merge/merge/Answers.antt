use Rattle.std.proofs.Common.{◌≡◌, ℕ, ◌-◌, arith, List, [], map, length, take, subst, sym, ap, ◌∙◌}
use Rattle.std.specs.List.Sorted.{IsPermutation}
use Rattle.std.proofs.lemmas.List.{length-map}
use Rattle.std.specs.Prelude.{slice_get}
use Rattle.std.proofs.lemmas.List.Sorted.{IsPermutation-trans}
use Rattle.std.proofs.lemmas.Result.{err_from_is_err_and}
use Rattle.lc_model.specs.Merge.{StoreText, AreOnce, AreOwn, AreWithin, IsLeastPair, all_records}
use Rattle.lc_record.proofs.ListLemmas.{OnErr_from as on_err}
use Rattle.lc_recover.specs.Changes.{SomeIsOf, seats_from}
use Rattle.lc_recover.specs.Fault.{IsRefusal}
use Rattle.lc_recover.specs.StoreContents.{HasNewer, IsFaultless, IsIndex, IsMerging}
use Rattle.lc_recover.specs.KeptAreas.{IsCounted}
use Rattle.lc_recover.specs.Locks.{AreInOrder, IsMissing, IsNumbering, StandsTwice, greatest_kept, numbers_in}
use Rattle.lc_recover.specs.Pages.{kept_pages}
use Rattle.lc_recover.specs.Reading.{store_of}
use Rattle.lc_recover.specs.declared.redo_range.RedoRange.{RedoRange}
use Rattle.lc_recover.specs.declared.fault.RecoverFault.{RecoverFault}
use Rattle.lc_recover.specs.declared.fault.RecoverFault.TheVariants.{Gap, Twice}
use Rattle.lc_recover.specs.declared.lock_number.LockNumber.{LockNumber}
use Rattle.lc_recover.specs.declared.read_areas.ReadAreas.{ReadAreas}
use Rattle.lc_recover.specs.declared.segment_pages.SegmentPages.{SegmentPages}
use Rattle.lc_recover.proofs.Meanings.{kept-store, few, each, twice-refusal, gap-refusal, once-all, gap-none, new-long, new-count}
use Rattle.lc_recover.proofs.Newer.{some-newer}
use Rattle.lc_recover.proofs.Orders.{in-order}
use Rattle.lc_recover.proofs.merge.merge.Goals as goal

abbrev Moved : ReadAreas → List LockNumber → Type 0
Moved r locks = IsPermutation (numbers_in (all_records (store_of r.kept.logs.items []))) locks

moved : (r : ReadAreas) (locks : List LockNumber) → IsCounted r → IsPermutation r.locks.items locks → Moved r locks
moved r locks counted sorted = IsPermutation-trans (numbers_in (all_records (store_of r.kept.logs.items []))) r.locks.items locks counted.locks sorted

-- of the lists as they were lent
lent-within : (logs logs' : List (List ℕ)) (segments segments' : List SegmentPages) → logs' ≡ logs → segments' ≡ segments → AreWithin (store_of logs' segments') → AreWithin (store_of logs segments)
lent-within logs logs' segments segments' one two within =
    subst (λ (l : List (List ℕ)). AreWithin (store_of l segments)) one (subst (λ (l : List SegmentPages). AreWithin (store_of logs' l)) two within)

lent-own : (logs logs' : List (List ℕ)) (segments : List SegmentPages) → logs' ≡ logs → AreOwn (store_of logs' segments) → AreOwn (store_of logs segments)
lent-own logs logs' segments one own = subst (λ (l : List (List ℕ)). AreOwn (store_of l segments)) one own

lent-index : (logs logs' : List (List ℕ)) (segments segments' : List SegmentPages) (changes : List RedoRange) → logs' ≡ logs → segments' ≡ segments
    → IsIndex logs' (store_of logs' segments') changes → IsIndex logs (store_of logs segments) changes
lent-index logs logs' segments segments' changes one two index =
    subst (λ (l : List (List ℕ)). IsIndex l (store_of l segments) changes) one
    (subst (λ (l : List SegmentPages). IsIndex logs' (store_of logs' l) changes) two index)

pub returns-in_err-own-clause-refused : goal.returns-in_err-own-clause-refused
returns-in_err-own-clause-refused c =
    let logs = c.args.read.now.kept.logs.items in
    let segments = c.args.read.now.kept.segments.items in
    let p = err_from_is_err_and c.from_residual.result c.from_residual.ensures.1 in
    rw p.1 (λ store kept.
    subst (λ (s : StoreText). IsRefusal s p.0) (kept-store logs segments store kept)
    (subst (λ (f : RecoverFault). IsRefusal (store_of logs segments) f) (sym p.2)
    (subst (λ (l : List (List ℕ)). IsRefusal (store_of l segments) c.in_err-own.field-0.0) c.as_slice.ensures.value (c.in_err-own.ensures.refused segments))))

pub returns-in_err-within-clause-refused : goal.returns-in_err-within-clause-refused
returns-in_err-within-clause-refused c =
    let logs = c.args.read.now.kept.logs.items in
    let segments = c.args.read.now.kept.segments.items in
    let p = err_from_is_err_and c.from_residual-in_err-within.result c.from_residual-in_err-within.ensures.1 in
    let own : AreOwn (store_of c.as_slice-2.result.now c.as_slice-3.result.now) = lent-own c.as_slice-2.result.now c.as_slice.result.now c.as_slice-3.result.now (c.as_slice.ensures.value ∙ sym c.as_slice-2.ensures.value) (c.in_ok-own.ensures.own c.as_slice-3.result.now) in
    rw p.1 (λ store kept.
    subst (λ (s : StoreText). IsRefusal s p.0) (kept-store logs segments store kept)
    (subst (λ (f : RecoverFault). IsRefusal (store_of logs segments) f) (sym p.2)
    (subst (λ (l : List (List ℕ)). IsRefusal (store_of l segments) c.in_err-within.field-0.0) c.as_slice-2.ensures.value
    (subst (λ (l : List SegmentPages). IsRefusal (store_of c.as_slice-2.result.now l) c.in_err-within.field-0.0) c.as_slice-3.ensures.value (c.in_err-within.ensures.refused own)))))

pub once-requires : goal.once-requires
once-requires c = subst AreInOrder (sym c.as_slice-4.ensures.value) (in-order c.sort_unstable.new.self.items c.sort_unstable.ensures.sorted)

pub returns-in_err-once-clause-counted : goal.returns-in_err-once-clause-counted
returns-in_err-once-clause-counted c =
    on_err c.from_residual-in_err-once.result (IsCounted (record c.args.read.now { locks = c.sort_unstable.new.self }))
    (record { locks = moved c.args.read.now c.sort_unstable.new.self.items c.requires.counted c.sort_unstable.ensures.permutation; numbers = c.requires.counted.numbers })

pub returns-in_err-once-clause-refused : goal.returns-in_err-once-clause-refused
returns-in_err-once-clause-refused c =
    let logs = c.args.read.now.kept.logs.items in
    let segments = c.args.read.now.kept.segments.items in
    let p = err_from_is_err_and c.from_residual-in_err-once.result c.from_residual-in_err-once.ensures.1 in
    let twice : (segment : ℕ) × (seq : ℕ) × (c.in_err-once.field-0.0 ≡ Twice segment seq) × IsLeastPair (StandsTwice c.sort_unstable.new.self.items) segment seq =
    subst (λ (l : List LockNumber). (segment : ℕ) × (seq : ℕ) × (c.in_err-once.field-0.0 ≡ Twice segment seq) × IsLeastPair (StandsTwice l) segment seq) c.as_slice-4.ensures.value c.in_err-once.ensures.twice in
    rw p.1 (λ store kept.
    subst (λ (s : StoreText). IsRefusal s p.0) (kept-store logs segments store kept)
    (subst (λ (f : RecoverFault). IsRefusal (store_of logs segments) f) (sym p.2)
    (twice-refusal logs segments c.sort_unstable.new.self.items (moved c.args.read.now c.sort_unstable.new.self.items c.requires.counted c.sort_unstable.ensures.permutation) c.in_err-once.field-0.0
    (lent-own logs c.as_slice.result.now segments c.as_slice.ensures.value (c.in_ok-own.ensures.own segments))
    (lent-within logs c.as_slice-2.result.now segments c.as_slice-3.result.now c.as_slice-2.ensures.value c.as_slice-3.ensures.value c.in_ok-within.ensures.within) twice)))

pub counted-requires-clause-order : goal.counted-requires-clause-order
counted-requires-clause-order c = subst AreInOrder (sym c.as_slice-6.ensures.value) (in-order c.sort_unstable.new.self.items c.sort_unstable.ensures.sorted)

pub counted-requires-clause-few : goal.counted-requires-clause-few
counted-requires-clause-few c =
    rw c.as_slice-6.ensures.value (few c.args.read.now.kept.logs.items c.args.read.now.kept.segments.items c.sort_unstable.new.self.items
    (moved c.args.read.now c.sort_unstable.new.self.items c.requires.counted c.sort_unstable.ensures.permutation))

pub counted-requires-clause-each : goal.counted-requires-clause-each
counted-requires-clause-each c =
    let logs = c.args.read.now.kept.logs.items in
    let segments = c.args.read.now.kept.segments.items in
    rw c.as_slice-6.ensures.value (each logs segments c.sort_unstable.new.self.items
    (moved c.args.read.now c.sort_unstable.new.self.items c.requires.counted c.sort_unstable.ensures.permutation)
    (lent-within logs c.as_slice-2.result.now segments c.as_slice-3.result.now c.as_slice-2.ensures.value c.as_slice-3.ensures.value c.in_ok-within.ensures.within) c.as_slice-5.result.now
    (ap (λ (l : List ℕ). length l) (c.as_slice-5.ensures.value ∙ c.requires.counted.numbers) ∙ length-map segments greatest_kept))

pub returns-in_err-counts-clause-counted : goal.returns-in_err-counts-clause-counted
returns-in_err-counts-clause-counted c =
    on_err c.from_residual-in_err-counts.result (IsCounted (record c.args.read.now { locks = c.sort_unstable.new.self }))
    (record { locks = moved c.args.read.now c.sort_unstable.new.self.items c.requires.counted c.sort_unstable.ensures.permutation; numbers = c.requires.counted.numbers })

pub returns-in_err-counts-clause-refused : goal.returns-in_err-counts-clause-refused
returns-in_err-counts-clause-refused c =
    let logs = c.args.read.now.kept.logs.items in
    let segments = c.args.read.now.kept.segments.items in
    let locks = c.sort_unstable.new.self.items in
    let are = moved c.args.read.now c.sort_unstable.new.self.items c.requires.counted c.sort_unstable.ensures.permutation in
    let p = err_from_is_err_and c.from_residual-in_err-counts.result c.from_residual-in_err-counts.ensures.1 in
    let gap : (segment : ℕ) × (seq : ℕ) × (c.in_err-counts.field-0.0 ≡ Gap segment seq) × IsLeastPair (IsMissing c.as_slice-5.result.now locks) segment seq =
    subst (λ (l : List LockNumber). (segment : ℕ) × (seq : ℕ) × (c.in_err-counts.field-0.0 ≡ Gap segment seq) × IsLeastPair (IsMissing c.as_slice-5.result.now l) segment seq) c.as_slice-6.ensures.value c.in_err-counts.ensures.gap in
    let once : (segment seq : ℕ) → StandsTwice locks segment seq → ⊥ =
    subst (λ (l : List LockNumber). (segment seq : ℕ) → StandsTwice l segment seq → ⊥) c.as_slice-4.ensures.value c.in_ok-once.ensures.once in
    rw p.1 (λ store kept.
    subst (λ (s : StoreText). IsRefusal s p.0) (kept-store logs segments store kept)
    (subst (λ (f : RecoverFault). IsRefusal (store_of logs segments) f) (sym p.2)
    (gap-refusal logs segments locks are c.as_slice-5.result.now (c.as_slice-5.ensures.value ∙ c.requires.counted.numbers)
    c.in_err-counts.field-0.0 (lent-own logs c.as_slice.result.now segments c.as_slice.ensures.value (c.in_ok-own.ensures.own segments))
    (lent-within logs c.as_slice-2.result.now segments c.as_slice-3.result.now c.as_slice-2.ensures.value c.as_slice-3.ensures.value c.in_ok-within.ensures.within)
    (once-all logs segments locks are once) gap)))

pub returns-in_err-changes-clause-counted : goal.returns-in_err-changes-clause-counted
returns-in_err-changes-clause-counted c =
    on_err c.from_residual-in_err-changes.result (IsCounted (record c.args.read.now { locks = c.sort_unstable.new.self }))
    (record { locks = moved c.args.read.now c.sort_unstable.new.self.items c.requires.counted c.sort_unstable.ensures.permutation; numbers = c.requires.counted.numbers })

pub returns-in_err-changes-clause-no_memory : goal.returns-in_err-changes-clause-no_memory
returns-in_err-changes-clause-no_memory c wants store kept =
    let logs = c.args.read.now.kept.logs.items in
    let segments = c.args.read.now.kept.segments.items in
    let locks = c.sort_unstable.new.self.items in
    let are = moved c.args.read.now c.sort_unstable.new.self.items c.requires.counted c.sort_unstable.ensures.permutation in
    let counts : List ℕ = c.as_slice-5.result.now in
    let new : List ℕ = take (length counts) c.in_ok-counts.counts in
    let counted : IsNumbering counts locks new = subst (λ (l : List LockNumber). IsNumbering counts l new) c.as_slice-6.ensures.value c.in_ok-counts.ensures.counted in
    let once : (segment seq : ℕ) → StandsTwice locks segment seq → ⊥ =
    subst (λ (l : List LockNumber). (segment seq : ℕ) → StandsTwice l segment seq → ⊥) c.as_slice-4.ensures.value c.in_ok-once.ensures.once in
    let some : SomeIsOf (map kept_pages segments) (seats_from 0 logs) =
    subst (λ (l : List (List ℕ)). SomeIsOf (map kept_pages segments) (seats_from 0 l)) c.as_slice-7.ensures.value
    (subst (λ (l : List SegmentPages). SomeIsOf (map kept_pages l) (seats_from 0 c.as_slice-7.result.now)) c.as_slice-8.ensures.value c.in_err-changes.ensures.memory) in
    subst (λ (s : StoreText). IsFaultless s × HasNewer s) (kept-store logs segments store kept) (
      record {
        own = lent-own logs c.as_slice.result.now segments c.as_slice.ensures.value (c.in_ok-own.ensures.own segments);
        lying_within = lent-within logs c.as_slice-2.result.now segments c.as_slice-3.result.now c.as_slice-2.ensures.value c.as_slice-3.ensures.value c.in_ok-within.ensures.within;
        once = once-all logs segments locks are once;
        no_gap = gap-none logs segments locks are counts (c.as_slice-5.ensures.value ∙ c.requires.counted.numbers) new counted;
      },
      some-newer logs segments some,
    )

pub returns-clause-merged : goal.returns-clause-merged
returns-clause-merged c store kept =
    let logs = c.args.read.now.kept.logs.items in
    let segments = c.args.read.now.kept.segments.items in
    let locks = c.sort_unstable.new.self.items in
    let are = moved c.args.read.now c.sort_unstable.new.self.items c.requires.counted c.sort_unstable.ensures.permutation in
    let counts : List ℕ = c.as_slice-5.result.now in
    let counts_are : c.as_slice-5.result.now ≡ map greatest_kept segments = c.as_slice-5.ensures.value ∙ c.requires.counted.numbers in
    let new : List ℕ = take (length counts) c.in_ok-counts.counts in
    let counted : IsNumbering counts locks new = subst (λ (l : List LockNumber). IsNumbering counts l new) c.as_slice-6.ensures.value c.in_ok-counts.ensures.counted in
    let once : (segment seq : ℕ) → StandsTwice locks segment seq → ⊥ =
    subst (λ (l : List LockNumber). (segment seq : ℕ) → StandsTwice l segment seq → ⊥) c.as_slice-4.ensures.value c.in_ok-once.ensures.once in
    let are_once : AreOnce (store_of logs segments) = once-all logs segments locks are once in
    let all : c.len-segments.result ≡ length c.as_slice-5.result.now = omega (arith, c.len-segments.ensures, ap (λ (l : List ℕ). length l) c.as_slice-5.ensures.value, c.args.read.now.numbers.ok.0) in
    let items : c.copy_from_slice.new.self.items ≡ new = c.copy_from_slice.ensures.items ∙ ap (λ (n : ℕ). take n c.in_ok-counts.counts) all in
    subst (λ (s : StoreText). IsMerging logs s (record { numbers = c.copy_from_slice.new.self; changes = c.in_ok-changes.changes })) (kept-store logs segments store kept)
    (record {
      own = lent-own logs c.as_slice.result.now segments c.as_slice.ensures.value (c.in_ok-own.ensures.own segments);
      lying_within = lent-within logs c.as_slice-2.result.now segments c.as_slice-3.result.now c.as_slice-2.ensures.value c.as_slice-3.ensures.value c.in_ok-within.ensures.within;
      once = are_once;
      no_gap = gap-none logs segments locks are counts counts_are new counted;
      count = ap (λ (l : List ℕ). length l) items ∙ new-long logs segments locks are counts counts_are new counted;
      numbers = λ segment some inside. ap (λ (l : List ℕ). slice_get l (segment - 1)) items ∙ new-count logs segments locks are counts counts_are new counted segment some inside;
      index = lent-index logs c.as_slice-7.result.now segments c.as_slice-8.result.now c.in_ok-changes.changes.items c.as_slice-7.ensures.value c.as_slice-8.ensures.value c.in_ok-changes.ensures.index;
    })

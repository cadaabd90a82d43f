use Rattle.std.proofs.Common.{◌≡◌, ℕ, true, List, [], Option, refl, sym, subst, ◌∙◌}
use Rattle.std.specs.Prelude.{Err, IsSome}
use Rattle.lc_record.specs.Transaction.{is_member}
use Rattle.lc_tx.specs.declared.lock_mode.LockMode.TheVariants.{Exclusive, Shared}
use Rattle.lc_tx.specs.Images.{IsFirstTaken, IsLockable, IsSame}
use Rattle.lc_tx.specs.Locking.{AreTaken}
use Rattle.lc_tx.specs.Tx.{Begins}
use Rattle.lc_tx.proofs.BeginLemmas.{beside_here, begins_from, first_is, free_all, told_busy, told_not_here}
use Rattle.lc_tx.proofs.HoldsLemmas.{begun_runs}
use Rattle.lc_tx.proofs.ImagesLemmas.{ImageLaws, here_along, same_chained}
use Rattle.lc_tx.proofs.tx.Tx.begin_again.Given.{Over}
use Rattle.lc_tx.proofs.tx.Tx.begin_again.Goals as goal
use Rattle.lc_tx.proofs.tx.Tx.begin_again.Goals.{After-lock-2}

laws : (g : Over) → ImageLaws g.I.Images
laws g =
    let h = g.met.I.Images in
    record {
      same_numbers = h.same_numbers;
      own_image = h.own_image;
      other_image = h.other_image;
      beside_itself = h.beside_itself;
      beside_image = h.beside_image;
      beside_chained = h.beside_chained;
    }

pub returns-in-Some-clause-not_here : goal.returns-in-Some-clause-not_here
returns-in-Some-clause-not_here g c =
    let m = g.I.Images in
    let old = c.args.images.now in
    let mid = c.first_shut-written.new.images in
    let last = c.first_shut-read.new.images in
    let number : (s : ℕ) → m.number_of last s ≡ m.number_of old s = λ s. c.first_shut-read.ensures.same.numbers s ∙ c.first_shut-written.ensures.same.numbers s in
    told_not_here (λ s. IsFirstTaken m old c.args.segments.now c.args.reading.now s) (λ s. m.number_of old s) c.in-Some.segment (Err c.fault_of.result) c.fault_of.result refl
    (λ none. c.fault_of.ensures.not_here (number c.in-Some.segment ∙ none))
    (λ some. c.fault_of.ensures.busy (subst (λ (o : Option ℕ). IsSome o) (sym (number c.in-Some.segment)) some))
    (first_is m old mid c.args.segments.now c.args.reading.now c.first_shut-written.result c.first_shut-read.result c.lesser.result c.first_shut-written.ensures.same
    c.first_shut-written.ensures.least c.first_shut-read.ensures.least c.lesser.ensures c.in-Some.segment c.in-Some.is)

pub returns-in-Some-clause-busy : goal.returns-in-Some-clause-busy
returns-in-Some-clause-busy g c =
    let m = g.I.Images in
    let old = c.args.images.now in
    let mid = c.first_shut-written.new.images in
    let last = c.first_shut-read.new.images in
    let number : (s : ℕ) → m.number_of last s ≡ m.number_of old s = λ s. c.first_shut-read.ensures.same.numbers s ∙ c.first_shut-written.ensures.same.numbers s in
    told_busy (λ s. IsFirstTaken m old c.args.segments.now c.args.reading.now s) (λ s. m.number_of old s) c.in-Some.segment (Err c.fault_of.result) c.fault_of.result refl
    (λ none. c.fault_of.ensures.not_here (number c.in-Some.segment ∙ none))
    (λ some. c.fault_of.ensures.busy (subst (λ (o : Option ℕ). IsSome o) (sym (number c.in-Some.segment)) some))
    (first_is m old mid c.args.segments.now c.args.reading.now c.first_shut-written.result c.first_shut-read.result c.lesser.result c.first_shut-written.ensures.same
    c.first_shut-written.ensures.least c.first_shut-read.ensures.least c.lesser.ensures c.in-Some.segment c.in-Some.is)

-- all can be locked

pub lock-requires-2-clause-here : goal.lock-requires-2-clause-here
lock-requires-2-clause-here g c = λ s e.
    let m = g.I.Images in
    let old = c.args.images.now in
    let mid = c.first_shut-written.new.images in
    let last = c.first_shut-read.new.images in
    let free : (s : ℕ) → IsLockable m old c.args.segments.now c.args.reading.now s = free_all m old mid c.args.segments.now c.args.reading.now c.first_shut-written.result c.first_shut-read.result c.lesser.result
    c.first_shut-written.ensures.same c.first_shut-written.ensures.least c.first_shut-read.ensures.least c.lesser.ensures c.in_default-lesser.is in
    let same : IsSame m old last = same_chained m (laws g) old mid last c.first_shut-written.ensures.same c.first_shut-read.ensures.same in
    here_along m c.as_slice.result.now last c.lock.new.images s c.lock.ensures.same
    (here_along m [] old last s same
    (beside_here m old c.args.segments.now c.args.reading.now c.list.new.self.reading.items c.in-Ok.ensures.reading free s
    (subst (λ (l : List ℕ). is_member s l ≡ true) c.as_slice-2.ensures e)))

free : (g : Over) (c : After-lock-2 g) → (s : ℕ) → IsLockable g.I.Images c.args.images.now c.args.segments.now c.args.reading.now s
free g c =
    free_all g.I.Images c.args.images.now c.first_shut-written.new.images c.args.segments.now c.args.reading.now c.first_shut-written.result c.first_shut-read.result c.lesser.result
    c.first_shut-written.ensures.same c.first_shut-written.ensures.least c.first_shut-read.ensures.least c.lesser.ensures c.in_default-lesser.is

begins : (g : Over) (c : After-lock-2 g)
    → Begins g.I.Images c.args.thread c.args.segments.now c.args.reading.now c.args.images.now c.lock-2.new.images
    (record { thread = c.args.thread; locked = c.list.new.self.locked; reading = c.list.new.self.reading; set = c.list.new.self.set; undo = c.list.new.self.undo })
begins g c =
    let m = g.I.Images in
    let thread = c.args.thread in
    let old = c.args.images.now in
    let mid = c.first_shut-written.new.images in
    let last = c.first_shut-read.new.images in
    let same : IsSame m old last = same_chained m (laws g) old mid last c.first_shut-written.ensures.same c.first_shut-read.ensures.same in
    record {
      thread_is = refl;
      locked_are = c.in-Ok.ensures.locked;
      reading_are = c.in-Ok.ensures.reading;
      nothing_set = c.list.ensures.set ∙ c.requires.idle.nothing_set;
      nothing_kept = c.list.ensures.undo ∙ c.requires.idle.nothing_kept;
      held = begins_from m g.met.I.Images.beside_chained thread c.args.segments.now c.args.reading.now c.list.new.self.locked.items c.list.new.self.reading.items old last c.lock.new.images c.lock-2.new.images
          c.in-Ok.ensures.locked c.in-Ok.ensures.reading (free g c) same
          (subst (λ (l : List ℕ). AreTaken m Exclusive thread l last c.lock.new.images) c.as_slice.ensures c.lock.ensures)
          (subst (λ (l : List ℕ). AreTaken m Shared thread l c.lock.new.images c.lock-2.new.images) c.as_slice-2.ensures c.lock-2.ensures);
    }

pub returns-clause-begins : goal.returns-clause-begins
returns-clause-begins g c = begins g c

pub returns-clause-runs : goal.returns-clause-runs
returns-clause-runs g c =
    begun_runs g.I.Images c.args.images.now c.lock-2.new.images c.args.thread c.args.segments.now c.args.reading.now
    (record { thread = c.args.thread; locked = c.list.new.self.locked; reading = c.list.new.self.reading; set = c.list.new.self.set; undo = c.list.new.self.undo })
    (begins g c) (free g c)

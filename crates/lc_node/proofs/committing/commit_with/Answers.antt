use Rattle.std.proofs.Common.{◌≡◌, ℕ, Ok, List, map, refl, sym, subst, ◌∙◌, ◌<◌}
use Rattle.lc_record.specs.Record.{Chain}
use Rattle.lc_stage.specs.Seats.{commit_view}
use Rattle.lc_stage.specs.declared.stage_view.StageView.{StageView}
use Rattle.lc_node.specs.Attempts.{IsUndone}
use Rattle.lc_node.specs.Commits.{IsKept, IsUnbegunOn, IsUncommitted, bytes_at}
use Rattle.lc_segments.specs.Each.{Each}
use Rattle.lc_segments.specs.HeldImages.{the_images}
use Rattle.lc_node.specs.Sides.{HasMoreRoom, IsReady}
use Rattle.lc_node.specs.Stages.{Sees}
use Rattle.lc_segments.specs.declared.held.HeldSide.{HeldSide}
use Rattle.lc_segments.specs.declared.lent.HeldImages.{HeldImages}
use Rattle.lc_node.proofs.CommitPaths.{small, may_return, returned, returned_tidy, may_go_back, all_of_it, ran_of, why_of}
use Rattle.lc_node.proofs.Roomed.{Primed, at_err, cases_done, each_err, here_roomier, kept_self, primed}
use Rattle.lc_node.proofs.Standing.{segments_kept, segments_roomier}
use Rattle.lc_node.proofs.committing.commit_with.Goals as goal

pub returns-then-is_err-clause-refused : goal.returns-then-is_err-clause-refused
returns-then-is_err-clause-refused g c = (refl, kept_self c.args.sides.now c.requires.here)

pub take_images-requires-clause-here : goal.take_images-requires-clause-here
take_images-requires-clause-here g c = here_roomier c.args.sides.now c.fold_grown_in.new.sides c.fold_grown_in.ensures.same c.requires.here

pub stage_work-done-requires-clause-small : goal.stage_work-done-requires-clause-small
stage_work-done-requires-clause-small g c =
    let xs : List (HeldSide g.row.D.Denot) = c.args.sides.now in let ys : List (HeldSide g.row.D.Denot) = c.fold_grown_in.new.sides in let zs : List (HeldSide g.row.D.Denot) = c.take_images.new.sides in
    let lent : HeldImages = record { slots = c.take_images.new.slots; spare = c.new-spare.result } in let segments : List ℕ = c.args.segments.now in
    let same : segments ≡ map (λ (h : HeldSide g.row.D.Denot). h.side.segment) xs = c.requires.segments in let up = c.requires.ascends in
    let more = c.fold_grown_in.ensures.same in let out = c.take_images.ensures.out in let gone = c.take_images.ensures.lent in
    small xs ys zs lent segments same up more out gone

pub stage_work-done-requires-clause-out : goal.stage_work-done-requires-clause-out
stage_work-done-requires-clause-out g c =
    let xs : List (HeldSide g.row.D.Denot) = c.args.sides.now in let ys : List (HeldSide g.row.D.Denot) = c.fold_grown_in.new.sides in let zs : List (HeldSide g.row.D.Denot) = c.take_images.new.sides in
    let lent : HeldImages = record { slots = c.take_images.new.slots; spare = c.new-spare.result } in let segments : List ℕ = c.args.segments.now in
    let same : segments ≡ map (λ (h : HeldSide g.row.D.Denot). h.side.segment) xs = c.requires.segments in let up = c.requires.ascends in
    let more = c.fold_grown_in.ensures.same in let out = c.take_images.ensures.out in let gone = c.take_images.ensures.lent in
    record {
      whole = ys;
      lent = gone;
      out = out;
      segments_are = same ∙ sym (segments_roomier xs ys more);
      ascend = subst (Chain (λ a b. a < b)) (sym same) up;
    }

pub put_images-requires : goal.put_images-requires
put_images-requires g c =
    let xs : List (HeldSide g.row.D.Denot) = c.args.sides.now in let ys : List (HeldSide g.row.D.Denot) = c.fold_grown_in.new.sides in let zs : List (HeldSide g.row.D.Denot) = c.take_images.new.sides in
    let lent : HeldImages = record { slots = c.take_images.new.slots; spare = c.new-spare.result } in let segments : List ℕ = c.args.segments.now in
    let same : segments ≡ map (λ (h : HeldSide g.row.D.Denot). h.side.segment) xs = c.requires.segments in let up = c.requires.ascends in
    let more = c.fold_grown_in.ensures.same in let out = c.take_images.ensures.out in let gone = c.take_images.ensures.lent in
    let done = c.stage_work-done.result in let e = c.stage_work-done.ensures in let new : HeldImages = c.stage_work-done.new.lent in let ms : List (HeldSide g.row.D.Denot) = c.stage_work-done.new.sides in
    let before : StageView = commit_view c.args.seat.now in let after : StageView = commit_view c.stage_work-done.new.seat in
    let prime : (mid : List (HeldSide g.row.D.Denot)) → Each HasMoreRoom zs mid → Primed xs mid lent.slots.items = λ mid room. primed xs ys zs mid lent.slots.items more c.fold_grown_in.ensures.few out gone room in
    record {
      ready = cases_done (Each IsReady ms new.slots.items) done
          (λ yes. let s = e.staged yes in let p = prime s.1 s.2 in may_go_back xs p.all s.1 lent segments same up p.roomier p.out p.lent s.0 new before after s.4 ms s.3)
          (λ no. let p = prime ms (e.unchanged no) in may_return xs p.all ms lent segments same up p.roomier p.out p.lent new (e.nothing no).1)
          (λ f is. let p = prime ms (at_err done f (λ _. Each HasMoreRoom zs ms) is e.undone) in
          may_return xs p.all ms lent segments same up p.roomier p.out p.lent new (at_err done f (λ _. Sees before after × IsUndone the_images segments lent new) is e.refused).1);
    }

pub returns-clause-committed : goal.returns-clause-committed
returns-clause-committed g c = λ yes.
    let xs : List (HeldSide g.row.D.Denot) = c.args.sides.now in let ys : List (HeldSide g.row.D.Denot) = c.fold_grown_in.new.sides in let zs : List (HeldSide g.row.D.Denot) = c.take_images.new.sides in
    let lent : HeldImages = record { slots = c.take_images.new.slots; spare = c.new-spare.result } in let segments : List ℕ = c.args.segments.now in
    let same : segments ≡ map (λ (h : HeldSide g.row.D.Denot). h.side.segment) xs = c.requires.segments in let up = c.requires.ascends in
    let more = c.fold_grown_in.ensures.same in let out = c.take_images.ensures.out in let gone = c.take_images.ensures.lent in
    let done = c.stage_work-done.result in let e = c.stage_work-done.ensures in let new : HeldImages = c.stage_work-done.new.lent in let ms : List (HeldSide g.row.D.Denot) = c.stage_work-done.new.sides in
    let before : StageView = commit_view c.args.seat.now in let after : StageView = commit_view c.stage_work-done.new.seat in
    let prime : (mid : List (HeldSide g.row.D.Denot)) → Each HasMoreRoom zs mid → Primed xs mid lent.slots.items = λ mid room. primed xs ys zs mid lent.slots.items more c.fold_grown_in.ensures.few out gone room in
    let s = e.staged yes in let p = prime s.1 s.2 in
    all_of_it xs p.all s.1 lent segments same up p.roomier p.out p.lent s.0 new before after s.4 ms s.3 p.few c.put_images.new.sides c.put_images.ensures.back

pub returns-clause-nothing : goal.returns-clause-nothing
returns-clause-nothing g c = λ no.
    let xs : List (HeldSide g.row.D.Denot) = c.args.sides.now in let ys : List (HeldSide g.row.D.Denot) = c.fold_grown_in.new.sides in let zs : List (HeldSide g.row.D.Denot) = c.take_images.new.sides in
    let lent : HeldImages = record { slots = c.take_images.new.slots; spare = c.new-spare.result } in let segments : List ℕ = c.args.segments.now in
    let same : segments ≡ map (λ (h : HeldSide g.row.D.Denot). h.side.segment) xs = c.requires.segments in let up = c.requires.ascends in
    let more = c.fold_grown_in.ensures.same in let out = c.take_images.ensures.out in let gone = c.take_images.ensures.lent in
    let done = c.stage_work-done.result in let e = c.stage_work-done.ensures in let new : HeldImages = c.stage_work-done.new.lent in let ms : List (HeldSide g.row.D.Denot) = c.stage_work-done.new.sides in
    let before : StageView = commit_view c.args.seat.now in let after : StageView = commit_view c.stage_work-done.new.seat in
    let prime : (mid : List (HeldSide g.row.D.Denot)) → Each HasMoreRoom zs mid → Primed xs mid lent.slots.items = λ mid room. primed xs ys zs mid lent.slots.items more c.fold_grown_in.ensures.few out gone room in
    let n = e.nothing no in let p = prime ms (e.unchanged no) in
    let kept = returned xs p.all ms lent segments same up p.roomier p.out p.lent new n.1 c.put_images.new.sides c.put_images.ensures.back in (
      n.0,
      returned_tidy xs p.all ms lent segments same up p.roomier p.out p.lent new n.1 p.few c.put_images.new.sides c.put_images.ensures.back,
      ran_of xs p.all ms lent segments same up p.roomier p.out p.lent (Ok tt) new n.1.same.beside ms c.put_images.new.sides c.put_images.ensures.back (segments_kept xs c.put_images.new.sides kept) n.2,
    )

pub returns-clause-why : goal.returns-clause-why
returns-clause-why g c =
    let xs : List (HeldSide g.row.D.Denot) = c.args.sides.now in let ys : List (HeldSide g.row.D.Denot) = c.fold_grown_in.new.sides in let zs : List (HeldSide g.row.D.Denot) = c.take_images.new.sides in
    let lent : HeldImages = record { slots = c.take_images.new.slots; spare = c.new-spare.result } in let segments : List ℕ = c.args.segments.now in
    let same : segments ≡ map (λ (h : HeldSide g.row.D.Denot). h.side.segment) xs = c.requires.segments in let up = c.requires.ascends in
    let more = c.fold_grown_in.ensures.same in let out = c.take_images.ensures.out in let gone = c.take_images.ensures.lent in
    let done = c.stage_work-done.result in let e = c.stage_work-done.ensures in let new : HeldImages = c.stage_work-done.new.lent in let ms : List (HeldSide g.row.D.Denot) = c.stage_work-done.new.sides in
    let before : StageView = commit_view c.args.seat.now in let after : StageView = commit_view c.stage_work-done.new.seat in
    let prime : (mid : List (HeldSide g.row.D.Denot)) → Each HasMoreRoom zs mid → Primed xs mid lent.slots.items = λ mid room. primed xs ys zs mid lent.slots.items more c.fold_grown_in.ensures.few out gone room in
    each_err done (λ fault. IsUncommitted (g.W.Work.ran c.args.work.now c.stage_work-done.new.work) (IsUnbegunOn (map (λ (h : HeldSide g.row.D.Denot). h.side.segment) xs) xs) (map (λ (h : HeldSide g.row.D.Denot). h.side.segment) xs) (bytes_at xs) c.args.stage.now.room c.args.tries after.seen fault)
    (λ f is. why_of xs ys zs lent segments same up more out gone c.args.stage.now.room c.args.tries after.seen f
    (at_err done f (λ fault. _) is e.why))

pub returns-clause-refused : goal.returns-clause-refused
returns-clause-refused g c =
    let xs : List (HeldSide g.row.D.Denot) = c.args.sides.now in let ys : List (HeldSide g.row.D.Denot) = c.fold_grown_in.new.sides in let zs : List (HeldSide g.row.D.Denot) = c.take_images.new.sides in
    let lent : HeldImages = record { slots = c.take_images.new.slots; spare = c.new-spare.result } in let segments : List ℕ = c.args.segments.now in
    let same : segments ≡ map (λ (h : HeldSide g.row.D.Denot). h.side.segment) xs = c.requires.segments in let up = c.requires.ascends in
    let more = c.fold_grown_in.ensures.same in let out = c.take_images.ensures.out in let gone = c.take_images.ensures.lent in
    let done = c.stage_work-done.result in let e = c.stage_work-done.ensures in let new : HeldImages = c.stage_work-done.new.lent in let ms : List (HeldSide g.row.D.Denot) = c.stage_work-done.new.sides in
    let before : StageView = commit_view c.args.seat.now in let after : StageView = commit_view c.stage_work-done.new.seat in
    let prime : (mid : List (HeldSide g.row.D.Denot)) → Each HasMoreRoom zs mid → Primed xs mid lent.slots.items = λ mid room. primed xs ys zs mid lent.slots.items more c.fold_grown_in.ensures.few out gone room in
    each_err done (λ _. Sees before after × Each IsKept xs c.put_images.new.sides)
    (λ f is. let r = at_err done f (λ _. Sees before after × IsUndone the_images segments lent new) is e.refused in let p = prime ms (at_err done f (λ _. Each HasMoreRoom zs ms) is e.undone) in
    (r.0, returned xs p.all ms lent segments same up p.roomier p.out p.lent new r.1 c.put_images.new.sides c.put_images.ensures.back))

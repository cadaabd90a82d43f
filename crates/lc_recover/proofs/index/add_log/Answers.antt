use Rattle.std.proofs.Common.{ℕ, List, [], ◌∷◌, Contains, ◌++◌, map, sym, ◌∙◌, ap, subst, append_assoc}
use Rattle.std.proofs.lemmas.List.{map-append}
use Rattle.lc_record.specs.declared.record.Record.{Record}
use Rattle.lc_record.proofs.ListLemmas.{OnErr_from as on_err, Contains-map as contains-map}
use Rattle.lc_recover.specs.Pages.{kept_pages}
use Rattle.lc_recover.specs.Changes.{AreOf, PlacedRecord, SomeIsOf, seat, seats_of}
use Rattle.lc_recover.specs.Reading.{placed_in}
use Rattle.lc_recover.proofs.Walks.{next-in, passed-next}
use Rattle.lc_recover.proofs.Pushes.{of-more}
use Rattle.lc_recover.proofs.index.add_log.Goals as goal

pub loop-place-preserved : goal.loop-place-preserved
loop-place-preserved c = passed-next _ _ _ _ _ _ c.in-Some.ensures.steps c.loop-place.invariant
    (λ seen holds seats so_far.
    subst (λ (l : List PlacedRecord). AreOf (map kept_pages c.args.segments.now) l c.add_record.new.changes.items)
    (append_assoc seats (map (λ (x : ℕ × Record). seat c.args.log x.0 x.1) seen) (seat c.args.log c.in-Some.place c.in-Some.view ∷ [])
    ∙ ap (λ (l : List PlacedRecord). seats ++ l) (sym (map-append (λ (x : ℕ × Record). seat c.args.log x.0 x.1) seen ((c.in-Some.place, c.in-Some.view) ∷ []))))
    (of-more (map kept_pages c.args.segments.now) (seats ++ map (λ (x : ℕ × Record). seat c.args.log x.0 x.1) seen) (seat c.args.log c.in-Some.place c.in-Some.view) c.loop-place.changes.items c.add_record.new.changes.items
    (holds seats so_far) c.in_ok-add_record.ensures.adds c.in_ok-add_record.ensures.covers))

pub returns-in_err-add_record-clause-memory : goal.returns-in_err-add_record-clause-memory
returns-in_err-add_record-clause-memory c =
    let x : ℕ × Record = (c.in-Some.place, c.in-Some.view) in
    let s : PlacedRecord = seat c.args.log c.in-Some.place c.in-Some.view in
    let there : Contains (placed_in c.args.words.now) (c.in-Some.place, c.in-Some.view) = next-in _ _ _ _ (c.in-Some.place, c.in-Some.view) c.in-Some.ensures.steps c.loop-place.invariant in
    on_err c.from_residual.result (SomeIsOf (map kept_pages c.args.segments.now) (seats_of c.args.log c.args.words.now)) (
      s,
      contains-map (λ (y : ℕ × Record). seat c.args.log y.0 y.1) (placed_in c.args.words.now) x there,
      c.in_err-add_record.ensures.memory,
    )

use Rattle.std.proofs.Common.{[], ◌∷◌, refl, inl, inr}
use Rattle.lc_record.specs.Transaction.{Transaction}
use Rattle.lc_model.specs.State.{State, Up, fresh}
use Rattle.lc_record.specs.Marks.{marked, written}
use Rattle.lc_model.specs.Machine.{begun, changed, appended, closed_by, flushed_to, acknowledged}
use Rattle.lc_model.specs.Examples.{small, opened, third}
use Rattle.lc_model.proofs.examples.one_commit.Goals as goal

pub returns : goal.returns
returns c =
    let up : State = fresh small [] Up in
    let open_now : State = begun small up 0 0 (2 ∷ []) [] in
    let t : Transaction = marked (opened 0 0 (2 ∷ [])) 2 0 1 in
    let set : State = changed open_now t in
    let wrote : State = changed set (written t 2 0 (32 ∷ [])) in
    let reserved : State = appended wrote third in
    let closed : State = record reserved { history = closed_by 0 0 reserved.history } in
    let one : State = flushed_to closed 0 1 1 in
    let two : State = flushed_to one 0 2 1 in
    let three : State = flushed_to two 0 3 1 in
    let acked : State = acknowledged three 0 1 in (
      acked,
      (
        up,
        inr (inr (refl, refl)),
        (
          open_now,
          (refl, refl),
          (
            set,
            (refl, refl),
            (
              wrote,
              (refl, refl),
              (
                reserved,
                inl (0, 8, refl, refl),
                (closed, (refl, refl), (one, inl (refl, refl), (two, inl (refl, refl), (three, inl (refl, refl), (acked, inl (refl, refl), refl))))),
              ),
            ),
          ),
        ),
      ),
      refl,
      refl,
    )

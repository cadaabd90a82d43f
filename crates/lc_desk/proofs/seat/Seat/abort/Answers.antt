use Rattle.std.proofs.Common.{refl, sym, subst, ◌∙◌}
use Rattle.lc_tx.specs.Tx.{RunsOn}
use Rattle.lc_tx.specs.declared.tx.Tx.{Tx}
use Rattle.lc_desk.specs.Here.{the_images}
use Rattle.lc_desk.proofs.Seated.{kept_open, open_with}
use Rattle.lc_desk.proofs.seat.Seat.abort.Goals as goal

pub abort_in_place-requires : goal.abort_in_place-requires
abort_in_place-requires c = record {
  runs = subst (λ (t : Tx). RunsOn the_images c.args.here.now t) (kept_open c.self.inside.doing c.self.inside.tx c.requires.tx (c.self.view_is ∙ c.requires.is)) c.requires.runs;
}

pub returns : goal.returns
returns c = record {
  free = refl;
  aborts = record {
    tx = c.self.inside.tx;
    was = sym c.self.view_is ∙ (open_with c.self.inside.doing c.self.inside.tx c.requires.tx c.self.inside.tx (c.self.view_is ∙ c.requires.is)).0;
    restored = c.abort_in_place.ensures.restored;
  };
}

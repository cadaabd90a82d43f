use Rattle.std.proofs.Common.{sym, subst, ◌∙◌}
use Rattle.lc_tx.specs.Tx.{RunsOn}
use Rattle.lc_tx.specs.declared.tx.Tx.{Tx}
use Rattle.lc_desk.specs.Here.{the_images}
use Rattle.lc_desk.proofs.Seated.{kept_open, open_with}
use Rattle.lc_desk.proofs.seat.Seat.set_range.Goals as goal

pub set_range-requires : goal.set_range-requires
set_range-requires c = record {
  runs = subst (λ (t : Tx). RunsOn the_images c.args.here.now t) (kept_open c.self.inside.doing c.self.inside.tx c.requires.tx (c.self.view_is ∙ c.requires.is)) c.requires.runs;
}

pub invariant_of-self : goal.invariant_of-self
invariant_of-self c = (open_with c.self.inside.doing c.self.inside.tx c.requires.tx c.set_range.new.self (c.self.view_is ∙ c.requires.is)).1

pub returns : goal.returns
returns c = record {
  tx = c.self.inside.tx;
  was = sym c.self.view_is ∙ (open_with c.self.inside.doing c.self.inside.tx c.requires.tx c.self.inside.tx (c.self.view_is ∙ c.requires.is)).0;
  after = c.set_range.new.self;
  is = (open_with c.self.inside.doing c.self.inside.tx c.requires.tx c.set_range.new.self (c.self.view_is ∙ c.requires.is)).0;
  sets = c.set_range.ensures.sets;
  err = c.set_range.ensures.err;
  images = c.set_range.ensures.images;
  runs = c.set_range.ensures.runs;
  answers = record {
    not_locked = c.set_range.ensures.not_locked;
    read_only = c.set_range.ensures.read_only;
    empty = c.set_range.ensures.empty;
    outside = c.set_range.ensures.outside;
    too_many = c.set_range.ensures.too_many;
  };
  no_memory = c.set_range.ensures.no_memory;
  faults = c.set_range.ensures.faults;
}

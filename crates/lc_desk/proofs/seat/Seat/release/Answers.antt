use Rattle.std.proofs.Common.{◌≡◌, Some, refl, sym, ap, subst, ◌∙◌}
use Rattle.lc_tx.specs.Images.{AreReleased}
use Rattle.lc_tx.specs.Tx.{RunsOn}
use Rattle.lc_tx.specs.declared.tx.Tx.{Tx}
use Rattle.lc_desk.specs.Here.{the_images}
use Rattle.lc_desk.specs.Seat.{Seat, holder_of}
use Rattle.lc_desk.proofs.Seated.{kept_holder}
use Rattle.lc_desk.proofs.seat.Seat.release.Goals as goal

pub release_in_place-requires : goal.release_in_place-requires
release_in_place-requires c =
    let same : c.requires.tx ≡ c.self.inside.tx = kept_holder c.self.inside.doing c.self.inside.tx c.requires.tx (ap (λ (x : Seat). holder_of (Some x)) c.self.view_is ∙ c.requires.its) in
    record { runs = subst (λ (t : Tx). RunsOn the_images c.args.here.now t) same c.requires.runs }

pub returns : goal.returns
returns c =
    let same : c.requires.tx ≡ c.self.inside.tx = kept_holder c.self.inside.doing c.self.inside.tx c.requires.tx (ap (λ (x : Seat). holder_of (Some x)) c.self.view_is ∙ c.requires.its) in
    record {
      free = refl;
      releases = record {
        tx = c.requires.tx;
        its = c.requires.its;
        released = subst (λ (t : Tx). AreReleased the_images t.thread t.locked.items t.reading.items c.args.here.now c.release_in_place.new.images) (sym same) c.release_in_place.ensures.released;
      };
    }

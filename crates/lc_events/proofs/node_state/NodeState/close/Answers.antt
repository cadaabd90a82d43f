use Rattle.std.proofs.Common.{ℕ, ◌<◌, length, refl, arith, ap, ◌∙◌, subst}
use Rattle.std.specs.Prelude.{Option, slice_index_or, vec_len}
use Rattle.std.proofs.lemmas.Option.{slice_get-get_or}
use Rattle.lc_desk.specs.Reserves.{ClosesSeat}
use Rattle.lc_desk.specs.declared.here.Here.{Here}
use Rattle.lc_desk.specs.Seat.{Free}
use Rattle.lc_events.proofs.CountedDesk.{count_counted}
use Rattle.lc_events.proofs.Shortness.{same_count}
use Rattle.lc_events.proofs.Closing.{closes_one, none_closes}
use Rattle.lc_events.proofs.node_state.NodeState.close.Goals as goal

pub returns-in_default : goal.returns-in_default
returns-in_default g c =
    let w = c.args.self.now in
    let it = subst (λ (o : Option ℕ). ClosesSeat c.args.thread w.desk o c.close.new.self) c.in_default.is c.close.ensures.closes in
    record {
      follows = λ node m s x sound common h.
          let seat = slice_index_or w.desk.seats.items c.args.thread Free in
          let within : c.args.thread < length w.desk.seats.items = omega (arith, c.requires.seat, w.desk.seats.ok.0) in
          let at = slice_get-get_or w.desk.seats.items c.args.thread Free within in
          none_closes g.D.Area m node c.args.thread s x sound w h seat at c.close.new.self it;
      whole = record { seats = c.close.ensures.seats; slots = ap (λ (h : Here). vec_len h.slots) it.here };
      names = refl;
      log = refl;
    }

pub returns : goal.returns
returns g c =
    let w = c.args.self.now in
    let it = subst (λ (o : Option ℕ). ClosesSeat c.args.thread w.desk o c.close.new.self) c.in-Some.is c.close.ensures.closes in
    record {
      follows = λ node m s x sound common h.
          closes_one g.D.Area m node c.args.thread s x sound w h c.in-Some.number c.close.new.self c.close-2.new.self it
          c.close-2.ensures.shuts c.close-2.ensures.group c.close-2.ensures.round;
      whole = record {
        seats = c.close.ensures.seats;
        slots = same_count it.counted c.close.new.self.here it.beside ∙ count_counted it.tx.set w.desk.here it.counted it.counts it.spare;
      };
      names = refl;
      log = c.close-2.ensures.log;
    }

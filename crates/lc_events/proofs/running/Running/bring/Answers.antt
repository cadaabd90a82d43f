use Rattle.std.proofs.Common.{refl, sym, subst, arith}
use Rattle.std.specs.Prelude.{slice_set}
use Rattle.lc_model.specs.declared.event.Event.TheVariants.{Deliver}
use Rattle.lc_record.proofs.ListLemmas.{OnErr_from as on_err}
use Rattle.lc_events.specs.Delivers.{Brings}
use Rattle.lc_desk.specs.Receives.{reply_of}
use Rattle.lc_events.specs.Running.{Onward}
use Rattle.lc_events.proofs.Arrivals.{delivers, delivery_known, node_at, slot_within}
use Rattle.lc_events.proofs.InPlace.{Placing, again_slots, again_takes, last_logs, last_onward, last_whole, lent_short, ready_slot}
use Rattle.lc_events.proofs.Onward.{still_onward, stays_onward, whole_set}
use Rattle.lc_events.proofs.Tokens.{same_goes}
use Rattle.lc_events.proofs.Faults.{logs_stay}
use Rattle.lc_events.proofs.running.Running.bring.Given.{Over}
use Rattle.lc_events.proofs.running.Running.bring.Goals.{After-index_mut-receiver-in-Next}
use Rattle.lc_events.proofs.running.Running.bring.Goals as goal

pub invariant_of-self : goal.invariant_of-self
invariant_of-self g c =
    let w = c.args.self.now in
    let node = c.index_mut.result.now in
    let known = delivery_known w.geometry c.args.sender c.args.number c.args.segment c.args.to c.requires.known in
    let at = node_at g.D.Area w c.args.to node known.0 c.index_mut.ensures.value in
    record {
      few = w.few;
      all_nodes = w.all_nodes;
      all_places = w.all_places;
      named = w.named;
      whole = whole_set g.D.Area w.geometry w.nodes.items c.args.to node (record { desk = c.receive.new.self; journal = node.journal; known = node.known }) at w.whole c.receive.ensures.seats c.receive.ensures.slots;
    }

pub returns-in_err-received-in-New-clause-memory : goal.returns-in_err-received-in-New-clause-memory
returns-in_err-received-in-New-clause-memory g c =
    let brings = subst (Brings g.D.Area c.args.sender c.args.number c.args.segment c.args.to c.args.self.now) c.in-New.is c.in_ok-delivery.ensures.brings in
    on_err c.from_residual-in_err-received-in-New.result _ (λ m s x h. (c.in-New.record, brings.1 m s x h))

pub returns-in_err-received-in-New-clause-err : goal.returns-in_err-received-in-New-clause-err
returns-in_err-received-in-New-clause-err g c =
    let w = c.args.self.now in
    let node = c.index_mut.result.now in
    let known = delivery_known w.geometry c.args.sender c.args.number c.args.segment c.args.to c.requires.known in
    let at = node_at g.D.Area w c.args.to node known.0 c.index_mut.ensures.value in
    let as_before = c.in_err-received-in-New.ensures.err in
    on_err c.from_residual-in_err-received-in-New.result _ (λ m s x h.
    still_onward g.D.Area m c.args.to s x w.geometry w.nodes.items w.travelling.items node (record { desk = c.receive.new.self; journal = node.journal; known = node.known }) at
    (λ fits. same_goes g.D.Area m c.args.to s x node c.receive.new.self as_before.slots (as_before.fits m c.args.to s fits.desk) fits) h)

pub returns-in_ok-received-in-New-clause-follows : goal.returns-in_ok-received-in-New-clause-follows
returns-in_ok-received-in-New-clause-follows g c = λ m s x h common.
    let w = c.args.self.now in
    let node = c.index_mut.result.now in
    let known = delivery_known w.geometry c.args.sender c.args.number c.args.segment c.args.to c.requires.known in
    let at = node_at g.D.Area w c.args.to node known.0 c.index_mut.ensures.value in
    let brings = subst (Brings g.D.Area c.args.sender c.args.number c.args.segment c.args.to w) c.in-New.is c.in_ok-delivery.ensures.brings in
    let received = c.in_ok-received-in-New.received in
    let event = Deliver c.args.sender c.args.number c.args.segment c.args.to in
    let goes = delivers g.D.Area m c.args.to s x c.args.sender c.args.number c.args.segment c.in-New.record received node c.receive.new.self h.sound (h.each c.args.to node at) (brings.1 m s x h).part
    c.in_ok-received-in-New.ensures.receives in
    subst (λ reply. Onward g.D.Area m event s x reply w.geometry (slice_set w.nodes.items c.args.to (record { desk = c.receive.new.self; journal = node.journal; known = node.known })) w.travelling.items) (sym c.reply_of.ensures)
    (stays_onward g.D.Area m c.args.to event s x (reply_of received) w.geometry w.nodes.items w.travelling.items h common node at (record { desk = c.receive.new.self; journal = node.journal; known = node.known }) goes
    (λ k e. absurd (omega (arith, e))))

pub returns-in_err-received-in-New-clause-logs : goal.returns-in_err-received-in-New-clause-logs
returns-in_err-received-in-New-clause-logs g c =
    let w = c.args.self.now in
    let node = c.index_mut.result.now in
    let known = delivery_known w.geometry c.args.sender c.args.number c.args.segment c.args.to c.requires.known in
    let at = node_at g.D.Area w c.args.to node known.0 c.index_mut.ensures.value in
    record { geometry = refl; logs = logs_stay g.D.Area w.nodes.items c.args.to node (record { desk = c.receive.new.self; journal = node.journal; known = node.known }) at refl }

pub returns-in_ok-received-in-New-clause-logs : goal.returns-in_ok-received-in-New-clause-logs
returns-in_ok-received-in-New-clause-logs g c =
    let w = c.args.self.now in
    let node = c.index_mut.result.now in
    let known = delivery_known w.geometry c.args.sender c.args.number c.args.segment c.args.to c.requires.known in
    let at = node_at g.D.Area w c.args.to node known.0 c.index_mut.ensures.value in
    record { geometry = refl; logs = logs_stay g.D.Area w.nodes.items c.args.to node (record { desk = c.receive.new.self; journal = node.journal; known = node.known }) at refl }

-- The part is put on the image at once

-- the receiver, whose image is taken out
abbrev placing : (g : Over) (c : After-index_mut-receiver-in-Next g) → Placing g.D.Area c.args.self.now c.args.sender c.args.number c.args.segment c.args.to
placing g c =
    let w = c.args.self.now in
    let known = delivery_known w.geometry c.args.sender c.args.number c.args.segment c.args.to c.requires.known in
    record {
      known = known;
      own = c.in-Next.seq;
      brings = subst (Brings g.D.Area c.args.sender c.args.number c.args.segment c.args.to w) c.in-Next.is c.in_ok-delivery.ensures.brings;
      node = c.index_mut-receiver.result.now;
      at = node_at g.D.Area w c.args.to c.index_mut-receiver.result.now known.0 c.index_mut-receiver.ensures.value;
      mid = c.take_image-image.new.self;
      was = c.take_image-image.result;
      lends = c.take_image-image.ensures;
      again = c.index_mut-receiver-in-Next.result.now;
      again_is = c.index_mut-receiver-in-Next.ensures.value;
    }

pub take_image-image-requires-clause-slot : goal.take_image-image-requires-clause-slot
take_image-image-requires-clause-slot g c =
    let w = c.args.self.now in
    let node = c.index_mut-receiver.result.now in
    let known = delivery_known w.geometry c.args.sender c.args.number c.args.segment c.args.to c.requires.known in
    slot_within g.D.Area w c.args.to c.args.segment node (node_at g.D.Area w c.args.to node known.0 c.index_mut-receiver.ensures.value) known.3

pub take_image-image-requires-clause-away : goal.take_image-image-requires-clause-away
take_image-image-requires-clause-away g c =
    let w = c.args.self.now in
    let node = c.index_mut-receiver.result.now in
    let known = delivery_known w.geometry c.args.sender c.args.number c.args.segment c.args.to c.requires.known in
    let brings = subst (Brings g.D.Area c.args.sender c.args.number c.args.segment c.args.to w) c.in-Next.is c.in_ok-delivery.ensures.brings in
    λ slot got. (ready_slot g.D.Area w c.args.segment c.args.to c.in-Next.seq node brings.0 (node_at g.D.Area w c.args.to node known.0 c.index_mut-receiver.ensures.value) slot got).0

pub put_next-requires-clause-slot : goal.put_next-requires-clause-slot
put_next-requires-clause-slot g c =
    again_slots g.D.Area c.args.self.now c.args.sender c.args.number c.args.segment c.args.to (placing g (goal.at.put_next-requires-clause-slot g c).After-index_mut-receiver-in-Next)

pub put_next-requires-clause-next : goal.put_next-requires-clause-next
put_next-requires-clause-next g c =
    again_takes g.D.Area c.args.self.now c.args.sender c.args.number c.args.segment c.args.to (placing g (goal.at.put_next-requires-clause-next g c).After-index_mut-receiver-in-Next)

pub put_next-requires-clause-short : goal.put_next-requires-clause-short
put_next-requires-clause-short g c =
    lent_short c.index_mut-receiver.result.now.desk c.take_image-image.new.self c.args.segment c.take_image-image.result c.take_image-image.ensures c.put_on.new.image c.put_on.ensures.len

pub invariant_of-self-in-Next : goal.invariant_of-self-in-Next
invariant_of-self-in-Next g c =
    let w = c.args.self.now in
    record {
      few = w.few;
      all_nodes = w.all_nodes;
      all_places = w.all_places;
      named = w.named;
      whole = last_whole g.D.Area w c.args.sender c.args.number c.args.segment c.args.to (placing g (goal.at.invariant_of-self-in-Next g c).After-index_mut-receiver-in-Next)
          c.put_on.new.image c.put_next.new.self c.put_next.result c.put_next.ensures;
    }

pub returns-in-Next-clause-follows : goal.returns-in-Next-clause-follows
returns-in-Next-clause-follows g c = λ m s x h common.
    last_onward g.D.Area c.args.self.now c.args.sender c.args.number c.args.segment c.args.to (placing g (goal.at.returns-in-Next-clause-follows g c).After-index_mut-receiver-in-Next)
    c.put_on.new.image c.put_next.new.self c.put_next.result c.put_next.ensures c.reply_of-in-Next.result c.reply_of-in-Next.ensures
    c.index.result.now c.index.ensures c.put_on.ensures.lays c.put_on.ensures.holders m s x h common

pub returns-in-Next-clause-logs : goal.returns-in-Next-clause-logs
returns-in-Next-clause-logs g c = record {
  geometry = refl;
  logs = last_logs g.D.Area c.args.self.now c.args.sender c.args.number c.args.segment c.args.to (placing g (goal.at.returns-in-Next-clause-logs g c).After-index_mut-receiver-in-Next)
      c.put_on.new.image c.put_next.new.self c.put_next.result c.put_next.ensures;
}

use Rattle.std.proofs.Common.{List, Some, length, refl, sym, ap, subst, ◌∙◌}
use Rattle.std.specs.Prelude.{Err}
use Rattle.std.proofs.lemmas.Option.{slice_get_read}
use Rattle.lc_record.specs.Marks.{written}
use Rattle.lc_model.specs.Machine.{changed}
use Rattle.lc_model.specs.History.{value}
use Rattle.lc_model.proofs.Rows.{write-no_turn}
use Rattle.lc_tx.specs.Images.{bytes_of}
use Rattle.lc_tx.specs.declared.tx.Tx.{Tx}
use Rattle.lc_tx.specs.declared.tx_fault.TxFault.{TxFault}
use Rattle.lc_tx.proofs.StandsLemmas.{write_stands}
use Rattle.lc_desk.specs.Here.{the_images}
use Rattle.lc_desk.specs.Seat.{Seat, Open}
use Rattle.lc_desk.specs.Seats.{AllRun}
use Rattle.lc_desk.specs.Desk.{FitsDesk}
use Rattle.lc_desk.proofs.Seating.{open_seat, set_same}
use Rattle.lc_desk.proofs.Dropping.{own_open_runs, open_fits, no_turn, still, desk_seen}
use Rattle.lc_desk.proofs.Changing.{written_held, changed_own, changed_but, runs_next, desk_next}
use Rattle.lc_desk.proofs.WriteRows.{WriteAnswers, write_leaves, write_fault, write_lock, write_done}
use Rattle.std.proofs.Common.{length, ap}
use Rattle.lc_desk.proofs.Shortness.{in_place_written, short_written}
use Rattle.lc_desk.proofs.Names.{of_write}
use Rattle.lc_desk.proofs.desk.Desk.write.Goals as goal

pub returns-in_default : goal.returns-in_default
returns-in_default c =
    let w = c.args.self.now in
    let seat = c.index.result.now in
    let at = slice_get_read w.seats.items w.seats.len c.args.thread seat w.seats.ok.0 c.requires.seat c.index.ensures in
    record {
      follows = λ node m s known sound h. (
        s,
        write-no_turn m s node c.args.thread c.args.segment c.args.offset c.args.bytes.now (no_turn w.here node c.args.thread _ s seat (h.threads c.args.thread seat at) (sym c.in_default.ensures)),
        still node s,
        h,
      );
      beside = (refl, refl);
      seats = refl;
      names = refl;
    }

pub write-requires : goal.write-requires
write-requires c =
    let w = c.args.self.now in
    let at = slice_get_read w.seats.items w.seats.len c.args.thread c.index.result.now w.seats.ok.0 c.requires.seat c.index.ensures in
    record { runs = (own_open_runs w.here w.here w.seats.items c.args.thread c.index.result.now c.in-Some.tx.now at (sym c.in-Some.ensures) w.runs).runs }

pub invariant_of-self-2-clause-runs : goal.invariant_of-self-2-clause-runs
invariant_of-self-2-clause-runs c =
    let w = c.args.self.now in
    let seat = c.index.result.now in
    let tx : Tx = c.in-Some.tx.now in
    let at = slice_get_read w.seats.items w.seats.len c.args.thread seat w.seats.ok.0 c.requires.seat c.index.ensures in
    let is = sym c.in-Some.ensures in
    let own = own_open_runs w.here w.here w.seats.items c.args.thread seat tx at is w.runs in
    let leaves = write_leaves w.here c.write.new.images tx c.args.thread c.args.segment c.args.offset c.args.bytes.now c.write.result own c.write.ensures.written c.write.ensures.err (λ ok. (c.write.ensures.ok.0 ok).0) in
    subst (λ (l : List Seat). AllRun c.write.new.images l) (set_same w.seats.items c.args.thread (Open tx) (at ∙ ap (λ x. Some x) (open_seat seat tx is)))
    (runs_next w.here c.write.new.images w.seats.items c.args.thread seat tx tx at is w.runs leaves own.own c.write.ensures.runs)

pub refusal_of-requires : goal.refusal_of-requires
refusal_of-requires c = λ want. c.write.ensures.no_memory (c.in-Err.is ∙ ap (λ (f : TxFault). Err f) want)

pub returns-in-Ok-clause-follows : goal.returns-in-Ok-clause-follows
returns-in-Ok-clause-follows c = λ node m s known sound h.
    let w = c.args.self.now in
    let seat = c.index.result.now in
    let tx : Tx = c.in-Some.tx.now in
    let at = slice_get_read w.seats.items w.seats.len c.args.thread seat w.seats.ok.0 c.requires.seat c.index.ensures in
    let is = sym c.in-Some.ensures in
    let one = open_fits w.here node c.args.thread w.seats.items seat tx m s h at is in
    let own = own_open_runs w.here w.here w.seats.items c.args.thread seat tx at is w.runs in
    let answers : WriteAnswers (bytes_of the_images w.here c.args.segment) tx c.args.segment c.args.offset (length c.args.bytes.now) c.write.result = record {
      ok = c.write.ensures.ok;
      not_locked = c.write.ensures.not_locked;
      read_only = c.write.ensures.read_only;
      outside = c.write.ensures.outside;
      no_range = c.write.ensures.no_range;
    } in
    let t = one.transaction in
    let u = written t c.args.segment c.args.offset c.args.bytes.now in
    let why = write_lock m node c.args.thread w.here w.seats.items s h tx one own.runs c.args.segment c.args.offset c.args.bytes.now c.write.result answers c.in-Ok.is in
    let wrote = c.in-Ok.ensures.written in
    let leaves = write_leaves w.here c.write.new.images tx c.args.thread c.args.segment c.args.offset c.args.bytes.now c.write.result own c.write.ensures.written c.write.ensures.err (λ ok. (c.write.ensures.ok.0 ok).0) in (
      changed s u,
      write_done m node c.args.thread w.here w.seats.items s h tx one own.runs c.args.segment c.args.offset c.args.bytes.now c.write.result answers c.in-Ok.is,
      changed_but s node c.args.thread t u one.running refl refl,
      subst (λ (l : List Seat). FitsDesk m node c.write.new.images l (changed s u)) (set_same w.seats.items c.args.thread (Open tx) (at ∙ ap (λ x. Some x) (open_seat seat tx is)))
          (desk_next w.here c.write.new.images w.seats.items c.args.thread seat tx tx at is w.runs leaves m node s h
          (written_held w.here c.write.new.images tx c.args.segment c.args.offset c.args.bytes.now own.runs why.0 wrote) refl refl t u one.running refl refl
          (record {
            transaction = u;
            running = changed_own s node c.args.thread t u one.running refl refl;
            unclosed = one.unclosed;
            stands = write_stands the_images w.here c.write.new.images tx c.args.segment c.args.offset c.args.bytes.now (value m.start s.earlier s.history) t one.stands own.runs why.0 why.2 wrote;
          })),
    )

pub returns-in-Err-clause-follows : goal.returns-in-Err-clause-follows
returns-in-Err-clause-follows c = λ node m s known sound h.
    let w = c.args.self.now in
    let seat = c.index.result.now in
    let tx : Tx = c.in-Some.tx.now in
    let at = slice_get_read w.seats.items w.seats.len c.args.thread seat w.seats.ok.0 c.requires.seat c.index.ensures in
    let is = sym c.in-Some.ensures in
    let one = open_fits w.here node c.args.thread w.seats.items seat tx m s h at is in
    let own = own_open_runs w.here w.here w.seats.items c.args.thread seat tx at is w.runs in (
      s,
      write_fault m node c.args.thread w.here w.seats.items s h tx one own.runs c.args.segment c.args.offset c.args.bytes.now c.write.result
          (record {
            ok = c.write.ensures.ok;
            not_locked = c.write.ensures.not_locked;
            read_only = c.write.ensures.read_only;
            outside = c.write.ensures.outside;
            no_range = c.write.ensures.no_range;
          })
          c.in-Err.fault c.refusal_of.result c.in-Err.is c.refusal_of.ensures,
      still node s,
      desk_seen m node w.here c.write.new.images w.seats.items s w.runs c.in-Err.ensures.err h,
    )

pub invariant_of-self-2-clause-in_place : goal.invariant_of-self-2-clause-in_place
invariant_of-self-2-clause-in_place c = in_place_written c.write.result c.args.self.now.here c.write.new.images c.args.segment c.args.offset c.args.bytes.now c.write.ensures.written c.write.ensures.err c.args.self.now.in_place

pub invariant_of-self-2-clause-short : goal.invariant_of-self-2-clause-short
invariant_of-self-2-clause-short c = short_written c.write.result c.args.self.now.here c.write.new.images c.args.segment c.args.offset c.args.bytes.now c.write.ensures.written c.write.ensures.err c.args.self.now.short

pub returns-in-Err-clause-names : goal.returns-in-Err-clause-names
returns-in-Err-clause-names c =
    let answers : WriteAnswers (bytes_of the_images c.args.self.now.here c.args.segment) c.in-Some.tx.now c.args.segment c.args.offset (length c.args.bytes.now) c.write.result = record {
      ok = c.write.ensures.ok;
      not_locked = c.write.ensures.not_locked;
      read_only = c.write.ensures.read_only;
      outside = c.write.ensures.outside;
      no_range = c.write.ensures.no_range;
    } in
    of_write (bytes_of the_images c.args.self.now.here c.args.segment) c.in-Some.tx.now c.args.segment c.args.offset (length c.args.bytes.now) c.write.result answers c.in-Err.fault c.in-Err.is c.refusal_of.result c.refusal_of.ensures

use Rattle.std.proofs.Common.{sym, ◌∙◌}
use Rattle.std.proofs.lemmas.Option.{slice_get_read}
use Rattle.lc_model.proofs.Rows.{read-no_turn}
use Rattle.lc_record.proofs.ListLemmas.{OnErr_from as on_err}
use Rattle.lc_desk.proofs.Dropping.{own_open_runs, still, no_turn, runs_same, desk_seen, open_fits}
use Rattle.lc_desk.proofs.Seen.{read_fault, read_done}
use Rattle.lc_desk.proofs.Refusing.{by_refusal}
use Rattle.std.proofs.Common.{ap}
use Rattle.std.specs.Prelude.{Err}
use Rattle.lc_desk.proofs.Refusing.{memory_wanted}
use Rattle.std.proofs.Common.{ap}
use Rattle.lc_desk.proofs.Shortness.{in_place_same, few_slots, short_same}
use Rattle.std.specs.Prelude.{Some}
use Rattle.lc_desk.proofs.Seating.{open_seat}
use Rattle.lc_desk.proofs.Names.{of_read}
use Rattle.lc_desk.proofs.desk.Desk.read.Goals as goal

pub returns-in_default-clause-follows : goal.returns-in_default-clause-follows
returns-in_default-clause-follows c = λ node m s known sound h.
    let w = c.args.self.now in
    let seat = c.index.result.now in
    let at = slice_get_read w.seats.items w.seats.len c.args.thread seat w.seats.ok.0 c.requires.seat c.index.ensures in
    (s, read-no_turn m s node c.args.thread c.args.segment c.args.offset c.args.len (no_turn w.here node c.args.thread _ s seat (h.threads c.args.thread seat at) (sym c.in_default.ensures)), still node s, h)

pub read-requires : goal.read-requires
read-requires c =
    let w = c.args.self.now in
    let seat = c.index.result.now in
    let at = slice_get_read w.seats.items w.seats.len c.args.thread seat w.seats.ok.0 c.requires.seat c.index.ensures in
    record { runs = (own_open_runs w.here w.here w.seats.items c.args.thread seat c.in-Some.tx.now at (sym c.in-Some.ensures) w.runs).runs }

pub invariant_of-self-2-clause-runs : goal.invariant_of-self-2-clause-runs
invariant_of-self-2-clause-runs c = runs_same c.args.self.now.here c.read.new.images c.args.self.now.seats.items c.args.self.now.runs c.read.ensures.images

pub returns-in-Ok-clause-follows : goal.returns-in-Ok-clause-follows
returns-in-Ok-clause-follows c = λ node m s known sound h.
    let w = c.args.self.now in
    let seat = c.index.result.now in
    let at = slice_get_read w.seats.items w.seats.len c.args.thread seat w.seats.ok.0 c.requires.seat c.index.ensures in
    let one = open_fits w.here node c.args.thread w.seats.items seat c.in-Some.tx.now m s h at (sym c.in-Some.ensures) in
    let runs = (own_open_runs w.here w.here w.seats.items c.args.thread seat c.in-Some.tx.now at (sym c.in-Some.ensures) w.runs).runs in (
      s,
      read_done m node c.args.thread w.here w.seats.items s h c.in-Some.tx.now one runs c.args.segment c.args.offset c.args.len c.read.result c.in-Ok.bytes c.new.result
          (record { not_locked = c.read.ensures.not_locked; outside = c.read.ensures.outside }) c.in-Ok.is (c.new.ensures ∙ c.in-Ok.ensures.bytes),
      still node s,
      desk_seen m node w.here c.read.new.images w.seats.items s w.runs c.read.ensures.images h,
    )

pub returns-in-Err-clause-follows : goal.returns-in-Err-clause-follows
returns-in-Err-clause-follows c = by_refusal _ c.refused.result _ c.refused.ensures (λ refusal named node m s known sound h.
    let w = c.args.self.now in
    let seat = c.index.result.now in
    let at = slice_get_read w.seats.items w.seats.len c.args.thread seat w.seats.ok.0 c.requires.seat c.index.ensures in
    let one = open_fits w.here node c.args.thread w.seats.items seat c.in-Some.tx.now m s h at (sym c.in-Some.ensures) in
    let runs = (own_open_runs w.here w.here w.seats.items c.args.thread seat c.in-Some.tx.now at (sym c.in-Some.ensures) w.runs).runs in (
      s,
      read_fault m node c.args.thread w.here w.seats.items s h c.in-Some.tx.now one runs c.args.segment c.args.offset c.args.len c.read.result c.in-Err.fault refusal
          (record { not_locked = c.read.ensures.not_locked; outside = c.read.ensures.outside }) c.in-Err.ensures.faults c.in-Err.is named,
      still node s,
      desk_seen m node w.here c.read.new.images w.seats.items s w.runs c.read.ensures.images h,
    ))

pub returns-in-Err-clause-err : goal.returns-in-Err-clause-err
returns-in-Err-clause-err c =
    let w = c.args.self.now in
    on_err c.refused.result _ (λ m node s h. desk_seen m node w.here c.read.new.images w.seats.items s w.runs c.read.ensures.images h)

pub returns-in-Err-clause-memory : goal.returns-in-Err-clause-memory
returns-in-Err-clause-memory c = memory_wanted c.in-Err.fault c.refused.result _ c.refused.ensures (λ none.
    let w = c.args.self.now in
    let seat = c.index.result.now in
    let at = slice_get_read w.seats.items w.seats.len c.args.thread seat w.seats.ok.0 c.requires.seat c.index.ensures in
    let wanted = c.read.ensures.no_memory (c.in-Err.is ∙ ap (λ f. Err f) none) in
    record {
      tx = c.in-Some.tx.now;
      sits = at ∙ ap (λ x. Some x) (open_seat seat c.in-Some.tx.now (sym c.in-Some.ensures));
      holds = wanted.0;
      some = wanted.1;
      inside = wanted.2;
    })

pub invariant_of-self-2-clause-few_slots : goal.invariant_of-self-2-clause-few_slots
invariant_of-self-2-clause-few_slots c = few_slots c.args.self.now.here c.read.new.images c.read.ensures.images.beside c.args.self.now.few_slots

pub invariant_of-self-2-clause-in_place : goal.invariant_of-self-2-clause-in_place
invariant_of-self-2-clause-in_place c = in_place_same c.args.self.now.here c.read.new.images c.read.ensures.images.beside c.args.self.now.in_place

pub invariant_of-self-2-clause-short : goal.invariant_of-self-2-clause-short
invariant_of-self-2-clause-short c = short_same c.args.self.now.here c.read.new.images c.read.ensures.images c.args.self.now.short

pub returns-in-Err-clause-names : goal.returns-in-Err-clause-names
returns-in-Err-clause-names c = by_refusal _ c.refused.result _ c.refused.ensures (of_read c.in-Err.fault c.in-Err.ensures.faults)

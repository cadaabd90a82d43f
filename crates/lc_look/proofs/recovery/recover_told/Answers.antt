use Rattle.std.proofs.Common.{ℕ, sym, subst}
use Rattle.std.specs.Io.KnownBytes.{Appends}
use Rattle.lc_recover.specs.Recovered.{sequence_of}
use Rattle.lc_look.specs.Recovers.{RecoversAreas, stop_text}
use Rattle.lc_look.specs.Refused.{RefusesMerge}
use Rattle.lc_text.specs.Text.{recovered_text}
use Rattle.lc_look.proofs.AreasRecovered.{ended_with, prints_numbers, stops_recovery, stops_refused}
use Rattle.lc_look.proofs.recovery.recover_told.Goals as goal

pub returns-in-Ok-clause-recovers : goal.returns-in-Ok-clause-recovers
returns-in-Ok-clause-recovers g c =
    let held = g.W.Write.contents c.args.writer.now in
    let holds = g.W.Write.contents c.write_recovered.new.writer in
    ended_with c.write_recovered.result c.ended.result 0 c.ended.ensures
    (Appends held holds (recovered_text c.in-Ok.store.geometry (sequence_of c.in-Ok.store)))
    (λ status. RecoversAreas g.D.Area c.args.geometry c.args.areas.items held holds status) c.write_recovered.ensures
    (prints_numbers g.D.Area c.args.geometry c.args.areas.items held holds c.in-Ok.store c.in-Ok.ensures.recovers)

pub returns-in-Err-clause-recovers : goal.returns-in-Err-clause-recovers
returns-in-Err-clause-recovers g c =
    let held = g.W.Write.contents c.args.writer.now in
    let holds = g.W.Write.contents c.write_stop.new.writer in
    ended_with c.write_stop.result c.ended-in-Err.result c.status_of.result c.ended-in-Err.ensures (Appends held holds (stop_text c.in-Err.fault))
    (λ status. RecoversAreas g.D.Area c.args.geometry c.args.areas.items held holds status) c.write_stop.ensures
    (λ shown. subst (λ (status : ℕ). RecoversAreas g.D.Area c.args.geometry c.args.areas.items held holds status) (sym c.status_of.ensures)
    (stops_recovery g.D.Area c.args.geometry c.args.areas.items held holds c.in-Err.fault c.in-Err.ensures.stops shown))

pub returns-in-Err-clause-refused : goal.returns-in-Err-clause-refused
returns-in-Err-clause-refused g c =
    let held = g.W.Write.contents c.args.writer.now in
    let holds = g.W.Write.contents c.write_stop.new.writer in
    ended_with c.write_stop.result c.ended-in-Err.result c.status_of.result c.ended-in-Err.ensures (Appends held holds (stop_text c.in-Err.fault))
    (λ status. RefusesMerge g.D.Area c.args.geometry c.args.areas.items held holds status) c.write_stop.ensures
    (λ shown. subst (λ (status : ℕ). RefusesMerge g.D.Area c.args.geometry c.args.areas.items held holds status) (sym c.status_of.ensures)
    (stops_refused g.D.Area c.args.geometry c.args.areas.items held holds c.in-Err.fault c.in-Err.ensures.stops shown))

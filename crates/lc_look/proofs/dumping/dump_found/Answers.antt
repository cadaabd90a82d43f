use Rattle.std.proofs.Common.{ℕ, ◌++◌, refl, ap₂, inl, inr, List}
use Rattle.std.specs.Io.KnownBytes.{Appends}
use Rattle.lc_look.specs.Dumps.{DumpsAreas, TellsDump, dump_text, slots_text}
use Rattle.lc_look.specs.Recovers.{stop_text}
use Rattle.lc_look.specs.Printed.{Adds}
use Rattle.lc_look.specs.Refused.{RefusesLengths}
use Rattle.lc_look.proofs.AreasRecovered.{ended_with}
use Rattle.lc_look.proofs.DumpsShown.{stopped-dump}
use Rattle.lc_look.proofs.dumping.dump_found.Goals as goal

pub returns-in-Ok-clause-dumps : goal.returns-in-Ok-clause-dumps
returns-in-Ok-clause-dumps g c =
    let held = g.W.Write.contents c.args.writer.now in
    let holds = g.W.Write.contents c.write_dump.new.writer in
    let found = c.in-Ok.found in
    ended_with c.write_dump.result c.ended.result 0 c.ended.ensures (Appends held holds (dump_text c.args.page found.bytes ++ slots_text found.slots))
    (λ status. DumpsAreas g.D.Area c.args.geometry.now c.args.areas.now c.args.segment c.args.page held holds status) c.write_dump.ensures
    (λ shown has lengths honest.
    let its = c.in-Ok.ensures.found.bytes honest in (
      dump_text c.args.page found.bytes ++ slots_text found.slots,
      inr (inl (its.0, its.1, its.2, ap₂ (λ (b s : List ℕ). dump_text c.args.page b ++ slots_text s) its.3 (c.in-Ok.ensures.found.slots honest), refl)),
      shown,
    ))

pub returns-in-Ok-clause-wrong : goal.returns-in-Ok-clause-wrong
returns-in-Ok-clause-wrong g c =
    let held = g.W.Write.contents c.args.writer.now in
    let holds = g.W.Write.contents c.write_dump.new.writer in
    let found = c.in-Ok.found in
    ended_with c.write_dump.result c.ended.result 0 c.ended.ensures (Appends held holds (dump_text c.args.page found.bytes ++ slots_text found.slots))
    (λ status. RefusesLengths g.D.Area c.args.geometry.now c.args.areas.now held holds status) c.write_dump.ensures
    (λ shown area wrong. absurd (wrong.is (c.in-Ok.ensures.found.lengths area)))

pub returns-in-Ok-clause-tells : goal.returns-in-Ok-clause-tells
returns-in-Ok-clause-tells g c =
    let held = g.W.Write.contents c.args.writer.now in
    let holds = g.W.Write.contents c.write_dump.new.writer in
    let found = c.in-Ok.found in
    ended_with c.write_dump.result c.ended.result 0 c.ended.ensures (Appends held holds (dump_text c.args.page found.bytes ++ slots_text found.slots))
    (λ status. Adds (TellsDump c.args.segment c.args.page) held holds status) c.write_dump.ensures
    (λ shown. (dump_text c.args.page found.bytes ++ slots_text found.slots, inr (inl (found.bytes, found.slots, refl, refl)), shown))

pub returns-in-Err-clause-dumps : goal.returns-in-Err-clause-dumps
returns-in-Err-clause-dumps g c =
    let held = g.W.Write.contents c.args.writer.now in
    let holds = g.W.Write.contents c.write_stop.new.writer in
    ended_with c.write_stop.result c.ended-in-Err.result c.status_of.result c.ended-in-Err.ensures (Appends held holds (stop_text c.in-Err.fault))
    (λ status. DumpsAreas g.D.Area c.args.geometry.now c.args.areas.now c.args.segment c.args.page held holds status) c.write_stop.ensures
    (λ shown has lengths honest.
    (stop_text c.in-Err.fault, stopped-dump g.D.Area c.args.geometry.now c.args.areas.now c.args.segment c.args.page c.in-Err.fault c.status_of.result c.status_of.ensures c.in-Err.ensures.stops lengths honest, shown))

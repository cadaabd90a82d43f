use Rattle.std.proofs.Common.{ℕ, List, ◌++◌, Err, refl, ◌∙◌, ap, inr}
use Rattle.std.specs.Io.KnownBytes.{Appends}
use Rattle.std.proofs.KnownBytes.{Appends-trans}
use Rattle.lc_recover.specs.Forecast.{sequence_of}
use Rattle.lc_look.specs.Json.{SegmentsJson, ShowsJson, logs_front, logs_json, recovered_json, stop_json}
use Rattle.lc_look.specs.Printed.{Adds}
use Rattle.lc_look.proofs.AreasRecovered.{ended_with}
use Rattle.lc_look.proofs.JsonShown.{shows_forecast}
use Rattle.lc_look.proofs.json.show.Goals as goal

pub returns-in-Ok : goal.returns-in-Ok
returns-in-Ok g c = record {
  shows =
      let held = g.W.Write.contents c.args.writer.now in
      let mid = g.W.Write.contents c.write_all_logs.new.writer in
      let holds = g.W.Write.contents c.write_recovered.new.writer in
      let forecast = c.in-Ok.forecast in
      ended_with c.write_recovered.result c.ended.result 0 c.ended.ensures
      ((segments : List ℕ) × SegmentsJson forecast.geometry forecast.store (sequence_of forecast) 1 forecast.geometry.segments segments × Appends mid holds (recovered_json segments))
      (λ status. Adds (ShowsJson c.args.geometry.now c.args.survey.store) held holds status) c.write_recovered.ensures
      (λ shown. (
        (logs_front ++ logs_json c.args.geometry.now c.args.survey.store) ++ recovered_json shown.0,
        shows_forecast c.args.geometry.now c.args.survey.store forecast c.in-Ok.ensures.merged c.in-Ok.ensures.store (c.in-Ok.ensures.geometry ∙ c.requires) shown.0 shown.1,
        Appends-trans held mid holds _ _ c.in_ok-write_all_logs.ensures shown.2,
      ));
}

pub returns-in-Err : goal.returns-in-Err
returns-in-Err g c = record {
  shows =
      let held = g.W.Write.contents c.args.writer.now in
      let mid = g.W.Write.contents c.write_all_logs.new.writer in
      let holds = g.W.Write.contents c.write_stop.new.writer in
      ended_with c.write_stop.result c.ended-in-Err.result c.status_of.result c.ended-in-Err.ensures (Appends mid holds (stop_json c.in-Err.fault))
      (λ status. Adds (ShowsJson c.args.geometry.now c.args.survey.store) held holds status) c.write_stop.ensures
      (λ shown. (
        (logs_front ++ logs_json c.args.geometry.now c.args.survey.store) ++ stop_json c.in-Err.fault,
        (
          stop_json c.in-Err.fault,
          refl,
          inr (c.in-Err.fault, c.in-Err.ensures.refused, λ wants. c.forecast.ensures.no_memory (c.in-Err.is ∙ ap Err wants), refl, c.status_of.ensures),
        ),
        Appends-trans held mid holds _ _ c.in_ok-write_all_logs.ensures shown,
      ));
}

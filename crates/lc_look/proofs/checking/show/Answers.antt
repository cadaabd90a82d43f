use Rattle.std.proofs.Common.{ℕ, List, ◌++◌, Err, refl, ◌∙◌, ap, inr}
use Rattle.std.specs.Io.KnownBytes.{Appends}
use Rattle.std.proofs.KnownBytes.{Appends-trans}
use Rattle.lc_recover.specs.Forecast.{sequence_of}
use Rattle.lc_text.specs.Text.{recovered_text}
use Rattle.lc_look.specs.Checks.{BehindTexts, Shows, logs_text}
use Rattle.lc_look.specs.Recovers.{stop_text}
use Rattle.lc_look.specs.Printed.{Adds}
use Rattle.lc_look.proofs.AreasRecovered.{ended_with}
use Rattle.lc_look.proofs.ChecksShown.{shows-forecast}
use Rattle.lc_look.proofs.checking.show.Goals as goal

pub returns-in-Ok : goal.returns-in-Ok
returns-in-Ok g c = record {
  shows =
      let held = g.W.Write.contents c.args.writer.now in
      let mid = g.W.Write.contents c.write_logs.new.writer in
      let holds = g.W.Write.contents c.write_forecast.new.writer in
      let forecast = c.in-Ok.forecast in
      ended_with c.write_forecast.result c.ended.result 0 c.ended.ensures
      ((text : List ℕ) × BehindTexts forecast.geometry forecast.store 1 forecast.geometry.segments text × Appends mid holds (text ++ recovered_text forecast.geometry (sequence_of forecast)))
      (λ status. Adds (Shows c.args.geometry.now c.args.survey.store) held holds status) c.write_forecast.ensures
      (λ shown. (
        logs_text c.args.geometry.now c.args.survey.store ++ (shown.0 ++ recovered_text forecast.geometry (sequence_of forecast)),
        shows-forecast c.args.geometry.now c.args.survey.store forecast c.in-Ok.ensures.merged c.in-Ok.ensures.store (c.in-Ok.ensures.geometry ∙ c.requires) shown.0 shown.1,
        Appends-trans held mid holds _ _ c.in_ok-write_logs.ensures shown.2,
      ));
}

pub returns-in-Err : goal.returns-in-Err
returns-in-Err g c = record {
  shows =
      let held = g.W.Write.contents c.args.writer.now in
      let mid = g.W.Write.contents c.write_logs.new.writer in
      let holds = g.W.Write.contents c.write_stop.new.writer in
      ended_with c.write_stop.result c.ended-in-Err.result c.status_of.result c.ended-in-Err.ensures (Appends mid holds (stop_text c.in-Err.fault))
      (λ status. Adds (Shows c.args.geometry.now c.args.survey.store) held holds status) c.write_stop.ensures
      (λ shown. (
        logs_text c.args.geometry.now c.args.survey.store ++ stop_text c.in-Err.fault,
        (
          stop_text c.in-Err.fault,
          refl,
          inr (c.in-Err.fault, c.in-Err.ensures.refused, λ wants. c.forecast.ensures.no_memory (c.in-Err.is ∙ ap Err wants), refl, c.status_of.ensures),
        ),
        Appends-trans held mid holds _ _ c.in_ok-write_logs.ensures shown,
      ));
}

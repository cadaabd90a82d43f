use Rattle.std.proofs.Common.{refl, codes, ◌++◌}
use Rattle.std.proofs.KnownBytes.{Appends-trans}
use Rattle.std.proofs.lemmas.Result.{on_ok_weaker}
use Rattle.lc_recover.specs.Forecast.{sequence_of}
use Rattle.lc_look.specs.Json.{pages_json, segment_front, segment_json}
use Rattle.lc_look.proofs.json.write_segment.Goals as goal

pub returns : goal.returns
returns g c =
    let pages = c.in_ok-write_pages.ensures in
    let number = sequence_of c.args.forecast.now c.args.segment in
    let front = rw c.sequence.ensures.number at c.in_ok-write_segment_front.ensures in
    on_ok_weaker c.write_all.result (λ end. (
      segment_json c.args.segment number pages.0,
      (pages.0, pages.1, refl),
      Appends-trans _ _ _ (segment_front c.args.segment number ++ pages_json pages.0) (codes "]}")
          (Appends-trans _ _ _ (segment_front c.args.segment number) (pages_json pages.0) front pages.2) end,
    )) c.write_all.ensures.bytes

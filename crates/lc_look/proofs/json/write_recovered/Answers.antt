use Rattle.std.proofs.KnownBytes.{Appends-trans}
use Rattle.std.proofs.lemmas.Result.{on_ok_weaker}
use Rattle.lc_look.proofs.json.write_recovered.Goals as goal

pub returns : goal.returns
returns g c =
    let segments = c.in_ok-write_segments.ensures in
    on_ok_weaker c.write_all-2.result (λ end. (
      segments.0,
      segments.1,
      Appends-trans _ _ _ _ _ c.in_ok-write_all.ensures.bytes (Appends-trans _ _ _ _ _ segments.2 end),
    )) c.write_all-2.ensures.bytes

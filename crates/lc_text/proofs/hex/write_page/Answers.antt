use Rattle.std.proofs.Common.{◌<◌, ◌++◌, length, arith}
use Rattle.std.specs.Prelude.{codes}
use Rattle.std.specs.Io.KnownBytes.{Appends}
use Rattle.lc_text.specs.Text.{hex_text}
use Rattle.std.proofs.KnownBytes.{Appends-trans}
use Rattle.std.proofs.lemmas.Bool.Decides.{nat_tests}
use Rattle.lc_text.proofs.Pages.{next_line}
use Rattle.lc_text.proofs.hex.write_page.Goals as goal

pub loop-rest-preserved : goal.loop-rest-preserved
loop-rest-preserved g c =
    let some : 0 < length c.loop-rest.rest.now = grind (arith, nat_tests) in
    let front = c.loop-rest.invariant.0 in
    let line : Appends _ _ _ = Appends-trans _ _ _ _ _ c.loop-rest.invariant.1 c.in_ok-write_hex.ensures in
    let written : Appends _ _ _ = Appends-trans _ _ _ _ _ line c.in_ok-write_all.ensures.bytes in (
      (front ++ hex_text c.split_at.result.0.now) ++ codes "\n",
      written,
      rw (c.split_at.ensures.front, c.split_at.ensures.back) (next_line front c.loop-rest.rest.now _ c.min.result some c.min.ensures c.loop-rest.invariant.2),
    )

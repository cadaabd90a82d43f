use Rattle.std.proofs.Common.{◌<◌, false}
use Rattle.lc_committer.specs.Acquiring.{WasLookedFor, WereAsked}
use Rattle.lc_committer.proofs.acquiring.acquire.Given as goal

abbrev pub invariant-loop : goal.invariant-loop
invariant-loop g l = record {
  lacks : WasLookedFor l.cluster l.number l.segment false;
  asked : 0 < l.counter → WereAsked g.D.Area l.cluster l.number l.segment;
}

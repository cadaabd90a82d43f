use Rattle.std.proofs.Common.{◌≡◌}
use Rattle.std.specs.Option.{ForSome}
use Rattle.std.specs.Prelude.{IsSomeAnd}
use Rattle.lc_segments.proofs.Noted.{AreNoted}
use Rattle.lc_segments.proofs.page_writes.note_written.Given as goal

abbrev pub invariant-loop-page : goal.invariant-loop-page
invariant-loop-page l = record {
  noted : ForSome l.fn.place.token (λ t. IsSomeAnd l.place.token (λ u. AreNoted t u l.page));
  segment : l.place.segment ≡ l.fn.place.segment;
}

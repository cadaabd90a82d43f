-- A token that comes to a node.
use Rattle.std.proofs.Common.{◌≡◌, ℕ, ◌+◌, ◌*◌, List, length, arith}
use Rattle.lc_disk.specs.declared.area.Area.{Ghosts}
use Rattle.lc_segments.specs.Pages.{FitsToken}
use Rattle.lc_segments.specs.Travelling.{IsTravelling}
use Rattle.lc_segments.specs.declared.travelling.Travelling.TheInside.{Inside}

-- its area fits it with any bytes that are as long, since none of its pages was written under a later number than its own
pub arrives_fitting : {D : Type 0} (a : Ghosts D) (t : Inside D) (bytes : List ℕ) → IsTravelling a t → length bytes ≡ length t.token.pages * 256 → FitsToken a (t.token.seq + 1) t.area t.token bytes
arrives_fitting a t bytes h long = record {
  long = long;
  few = h.few;
  room = h.room;
  small = h.small;
  free = h.free;
  stable = h.stable;
  touched = h.touched;
  each = λ page within. record {
    settled_in = h.each page within;
    same = λ clean late honest. absurd (let stable = h.stable page within in omega (arith, late, stable));
  };
}

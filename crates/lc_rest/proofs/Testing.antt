-- A cluster that passes the tests is consistent.
use Rattle.std.proofs.Common.{arith}
use Rattle.lc_rest.specs.Found.{Found, IsConsistent}
use Rattle.lc_rest.specs.Tested.{IsTested}
use Rattle.lc_rest.proofs.Turned.{home, first}
use Rattle.lc_rest.proofs.Within.{stable-counted}

pub consistent : (f : Found) → IsTested f → IsConsistent f
consistent f is = record {
  tested = record {
    threads = (let some = f.geometry.some_threads in omega (arith, some));
    taken = is.taken;
    nodes = is.nodes;
    few = is.few;
    here = home f.geometry f.stable f.place f.records is.home;
    first = first f.geometry f.stable f.records is.behind;
    places = is.places;
  };
  stored = record {
    follow = is.follow;
    shape = is.shape;
    replayed = is.replayed;
    within = λ segment page low high known.
        (let most = is.pages_stable segment page low high known in
        let same = stable-counted f.geometry f.records f.stable f.dropped f.place f.numbers f.pages segment is.taken is.nodes in
        omega (arith, most, same));
    reached = is.reached;
    cleaned = is.cleaned;
    known_clean = is.known_clean;
    dropped_known = is.dropped_known;
    dropped_stable = is.dropped_stable;
  };
  pages_within = is.pages_within;
  touched = is.touched;
  clean_within = is.clean_within;
  small = is.small;
  applied_within = is.applied_within;
  applied_here = is.applied_here;
  whole = is.whole;
}

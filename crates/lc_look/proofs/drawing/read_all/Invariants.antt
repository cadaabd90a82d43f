use Rattle.std.proofs.Common.{◌≡◌, ◌≤◌, ℕ, List, length, map, take, vec_capacity}
use Rattle.lc_record.specs.Lists.{items_of}
use Rattle.lc_recover.specs.Reads.{AreHonest, AreLeftAs}
use Rattle.lc_look.proofs.drawing.read_all.Given as goal

abbrev pub invariant-loop-place : goal.invariant-loop-place
invariant-loop-place g l = record {
  room : length l.initial.areas ≤ vec_capacity l.all;
  count : length l.all.items ≡ l.place;
  left : AreLeftAs g.D.Area l.initial.areas l.areas;
  lengths : map (λ (bytes : List ℕ). length bytes) (items_of l.all.items) ≡ take l.place (map (λ d. length (g.D.Area.now d)) l.initial.areas);
  bytes : AreHonest g.D.Area l.initial.areas → items_of l.all.items ≡ take l.place (map g.D.Area.now l.initial.areas);
}

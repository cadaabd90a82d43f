use Rattle.std.proofs.Common.{◌≡◌, ◌+◌, ◌*◌, ◌<◌, ◌≤◌, ℕ, true, false, length, map, take}
use Rattle.lc_page.specs.Page.{page_in}
use Rattle.lc_rest.specs.Replay.{IsDue, IsPlayed, bytes_after, number_after}
use Rattle.lc_rest.proofs.Unplayed.{IsUnplayed}
use Rattle.lc_rest.proofs.replay.replay_segment.Given as goal

abbrev pub invariant-loop-whole : goal.invariant-loop-whole
invariant-loop-whole l =
    (l.number ≡ number_after l.segment (take l.whole-index (map (λ r. r.now) l.records)) l.first)
    × (l.bytes ≡ bytes_after l.segment (take l.whole-index (map (λ r. r.now) l.records)) l.initial.bytes)
    × (length l.bytes ≡ l.pages * 256)
    × (l.first ≤ l.number) × (l.number ≤ l.first + l.whole-index)
    × IsDue l.area l.pages l.number l.due
    × (l.agrees ≡ true → (page : ℕ) → page < l.pages → (page_in l.area page).sequence ≤ l.number → IsPlayed l.segment l.first (map (λ r. r.now) l.records) l.initial.bytes page (page_in l.area page))
    × (l.agrees ≡ false → IsUnplayed l.segment l.first (map (λ r. r.now) l.records) l.initial.bytes l.area l.pages)

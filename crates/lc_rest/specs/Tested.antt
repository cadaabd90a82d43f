-- What the tests of a cluster at rest find, each by one pass over the records, the pages and the tokens.
use Rattle.std.specs.Prelude.{◌≡◌, ℕ, ◌+◌, ◌^◌, ◌<◌, ◌≤◌, map, length, filter, replicate, take, [], All}
use Rattle.lc_log.specs.LogText.{IsWhole}
use Rattle.lc_record.specs.Geometry.{segment_len}
use Rattle.lc_record.specs.Newest.{number_or_zero}
use Rattle.lc_record.specs.declared.record.Record.{Record}
use Rattle.lc_model.specs.Merging.{is_from}
use Rattle.lc_model.specs.Sound.{IsPlace}
use Rattle.lc_model.specs.State.{At}
use Rattle.lc_token.specs.Clean.{HasByteOn}
use Rattle.lc_rest.specs.Adopted.{Follow, IsCleaned, IsReplayed, IsTaken, count_from}
use Rattle.lc_rest.specs.Found.{Found, last_number}
use Rattle.lc_rest.specs.Turns.{AreBehind, IsAtHome, stable_on, turns_of}

pub record IsTested (f : Found) : Type 0 where
  -- each record is one, of its node, and lies in the segments
  pub taken : All (IsTaken f.geometry) f.records
  pub whole : All IsWhole f.records
  pub nodes : All (λ (r : Record). r.node < f.geometry.nodes) f.records
  pub places : (segment : ℕ) → IsPlace f.geometry (f.place segment)
  -- of each node: what is stable, and what was dropped, which it knew to be clean; that is at most what the tokens say
  pub few : (node : ℕ) → f.stable node ≤ count_from node f.records
  pub dropped_stable : (node : ℕ) → node < f.geometry.nodes → f.dropped node ≤ f.stable node
  pub dropped_known : (node : ℕ) → node < f.geometry.nodes → All (λ (r : Record). (segment : ℕ) → 1 ≤ segment → segment ≤ f.geometry.segments → number_or_zero segment r.locks ≤ f.known node segment) (take (f.dropped node) (filter (is_from node) f.records))
  pub known_clean : (node segment : ℕ) → 1 ≤ segment → segment ≤ f.geometry.segments → f.known node segment ≤ f.clean segment
  -- all records merge
  pub follow : Follow f.geometry f.numbers f.records
  -- those that are not stable are at home, and after them no stable one of their segments stands
  pub home : All (IsAtHome f.place) (turns_of f.stable [] f.records)
  pub behind : AreBehind (turns_of f.stable [] f.records)
  -- of each page: its sequence is at most the last stable number, some page has come to the first number, the records up to
  -- its sequence are on it as they were made, what is called clean is on it, and it is touched where a record has bytes
  pub shape : map length f.base ≡ replicate f.geometry.segments (segment_len f.geometry)
  pub pages_stable : (segment page : ℕ) → 1 ≤ segment → segment ≤ f.geometry.segments → page < f.geometry.pages → (f.pages segment page).sequence ≤ f.numbers segment + stable_on segment (turns_of f.stable [] f.records)
  pub pages_within : (segment page : ℕ) → 1 ≤ segment → segment ≤ f.geometry.segments → page < f.geometry.pages → (f.pages segment page).sequence ≤ last_number f segment
  pub reached : (segment : ℕ) → 1 ≤ segment → segment ≤ f.geometry.segments → (page : ℕ) × (page < f.geometry.pages) × (f.numbers segment ≤ (f.pages segment page).sequence)
  pub replayed : (segment page : ℕ) → 1 ≤ segment → segment ≤ f.geometry.segments → page < f.geometry.pages → IsReplayed f.geometry f.records f.numbers f.base segment page (f.pages segment page)
  pub cleaned : All (IsCleaned f.geometry f.pages f.clean) f.records
  pub touched : All (λ (r : Record). (segment page : ℕ) → page < f.geometry.pages → HasByteOn f.geometry segment page r → number_or_zero segment r.locks ≤ f.touched segment page) f.records
  -- of each token
  pub clean_within : (segment : ℕ) → 1 ≤ segment → segment ≤ f.geometry.segments → f.clean segment ≤ last_number f segment
  pub small : (segment : ℕ) → 1 ≤ segment → segment ≤ f.geometry.segments → last_number f segment ≤ 2 ^ 60
  -- what each node is said to have applied
  pub applied_within : (node segment : ℕ) → 1 ≤ segment → segment ≤ f.geometry.segments → f.applied node segment ≤ last_number f segment
  pub applied_here : (node segment : ℕ) → 1 ≤ segment → segment ≤ f.geometry.segments → f.place segment ≡ At node → f.applied node segment ≡ last_number f segment

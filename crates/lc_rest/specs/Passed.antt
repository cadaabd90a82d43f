-- What is read of a cluster at rest, and all that the tests find of it.
use Rattle.std.specs.Prelude.{◌≡◌, ℕ, ◌-◌, ◌<◌, ◌≤◌, List, [], map, length, take, All, slice_index_or}
use Rattle.lc_log.specs.LogText.{IsWhole}
use Rattle.lc_page.specs.Page.{page_in, text_in}
use Rattle.lc_page.specs.PageVector.{entry_at}
use Rattle.lc_record.specs.Marks.{counting}
use Rattle.lc_record.specs.Newest.{number_or_zero}
use Rattle.lc_record.specs.declared.geometry.Geometry.{Geometry}
use Rattle.lc_record.specs.declared.record.Record.{Record}
use Rattle.lc_token.specs.declared.token.Token.{Token}
use Rattle.lc_rest.specs.Pages.{page_read}
use Rattle.lc_model.specs.Sound.{IsPlace}
use Rattle.lc_model.specs.State.{Place, At}
use Rattle.lc_rest.specs.Adopted.{IsTaken}
use Rattle.lc_rest.specs.Found.{Found}
use Rattle.lc_rest.specs.Merge.{AreTurns, merged_after, number_at, record_at, times}
use Rattle.lc_rest.specs.Holder.{IsPlaced}
use Rattle.lc_rest.specs.Replay.{AreBytes, IsPlayed, number_after}
use Rattle.lc_rest.specs.TokenTest.{IsKeptToken, count_on}
use Rattle.lc_rest.specs.declared.holder.Holder.{Holder}

-- the records of each log and how many of them are stable; the order in which they merge from these numbers on; of each segment its
-- token, where that is, its area as it was read and the bytes of its pages; and what the nodes have dropped, know and have applied
pub record Read : Type 0 where
  pub geometry : Geometry
  pub logs : List (List Record)
  pub counts : List ℕ
  pub numbers : List ℕ
  pub turns : List ℕ
  pub token : ℕ → Token
  pub holder : ℕ → Holder
  pub place : ℕ → Place
  pub area : ℕ → List ℕ
  pub bytes : ℕ → List ℕ
  pub round : ℕ → ℕ
  pub dropped : ℕ → ℕ
  pub known : ℕ → ℕ → ℕ
  pub applied : ℕ → ℕ → ℕ

abbrev pub log_of : Read → ℕ → List Record
log_of h node = slice_index_or h.logs node []

abbrev pub merged : Read → List Record
merged h = merged_after h.logs [] h.turns

-- what is known of it
abbrev pub found_of : Read → Found
found_of h = record {
  geometry = h.geometry;
  records = merged h;
  stable = λ node. slice_index_or h.counts node 0;
  dropped = h.dropped;
  round = h.round;
  place = h.place;
  numbers = number_at h.numbers;
  base = map h.bytes (counting 1 h.geometry.segments);
  pages = λ segment page. page_read (h.area segment) page;
  texts = λ segment page. text_in (h.area segment) page;
  clean = λ segment. (h.token segment).clean;
  touched = λ segment page. (entry_at (h.token segment).pages page).touched;
  known = h.known;
  applied = h.applied;
}

pub record Passes (h : Read) : Type 0 where
  -- of each log
  pub count : length h.logs ≡ h.geometry.nodes
  pub own : (node : ℕ) → All (λ (r : Record). r.node ≡ node) (log_of h node)
  pub taken : (node k : ℕ) → k < length (log_of h node) → IsTaken h.geometry (record_at h.logs node k)
  pub whole : (node k : ℕ) → k < length (log_of h node) → IsWhole (record_at h.logs node k)
  pub few : (node : ℕ) → slice_index_or h.counts node 0 ≤ length (log_of h node)
  pub dropped_stable : (node : ℕ) → node < h.geometry.nodes → h.dropped node ≤ slice_index_or h.counts node 0
  pub dropped_known : (node : ℕ) → node < h.geometry.nodes → All (λ (r : Record). (segment : ℕ) → 1 ≤ segment → segment ≤ h.geometry.segments → number_or_zero segment r.locks ≤ h.known node segment) (take (h.dropped node) (log_of h node))
  pub known_clean : (node segment : ℕ) → 1 ≤ segment → segment ≤ h.geometry.segments → h.known node segment ≤ (h.token segment).clean
  -- of each token
  pub places : (segment : ℕ) → IsPlace h.geometry (h.place segment)
  pub placed : (segment : ℕ) → 1 ≤ segment → segment ≤ h.geometry.segments → IsPlaced (h.holder segment) (h.place segment)
  pub tokens : (segment : ℕ) → 1 ≤ segment → segment ≤ h.geometry.segments → IsKeptToken segment h.geometry.pages (h.token segment) (h.holder segment) h.logs h.counts (h.area segment)
  -- the merge, from the numbers that the tokens have before their records
  pub numbers : length h.numbers ≡ h.geometry.segments
  pub first : (segment : ℕ) → 1 ≤ segment → segment ≤ h.geometry.segments → number_at h.numbers segment ≡ (h.token segment).seq - count_on segment h.logs
  pub turns : AreTurns h.logs h.numbers [] h.turns
  pub all : (node : ℕ) → node < length h.logs → times node h.turns ≡ length (log_of h node)
  pub none : (node : ℕ) → length h.logs ≤ node → times node h.turns ≡ 0
  -- the replay of each segment
  pub bytes : (segment : ℕ) → 1 ≤ segment → segment ≤ h.geometry.segments → AreBytes (h.area segment) h.geometry.pages (h.bytes segment)
  pub played : (segment page : ℕ) → 1 ≤ segment → segment ≤ h.geometry.segments → page < h.geometry.pages → IsPlayed segment (number_at h.numbers segment) (merged h) (h.bytes segment) page (page_in (h.area segment) page)
  pub ends : (segment : ℕ) → 1 ≤ segment → segment ≤ h.geometry.segments → number_after segment (merged h) (number_at h.numbers segment) ≡ (h.token segment).seq
  -- what each node is said to have applied
  pub applied_within : (node segment : ℕ) → 1 ≤ segment → segment ≤ h.geometry.segments → h.applied node segment ≤ (h.token segment).seq
  pub applied_here : (node segment : ℕ) → 1 ≤ segment → segment ≤ h.geometry.segments → h.place segment ≡ At node → h.applied node segment ≡ (h.token segment).seq

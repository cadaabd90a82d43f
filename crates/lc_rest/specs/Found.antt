-- What is known of a cluster at rest, and what of it fits a state of the machine.
use Rattle.std.specs.Prelude.{◌≡◌, ℕ, ◌^◌, ◌<◌, ◌≤◌, List, map, filter, All}
use Rattle.lc_page.specs.declared.page_text.PageText.{PageText}
use Rattle.lc_record.specs.Content.{Content}
use Rattle.lc_record.specs.Newest.{number_or_zero}
use Rattle.lc_record.specs.declared.geometry.Geometry.{Geometry}
use Rattle.lc_record.specs.declared.record.Record.{Record}
use Rattle.lc_log.specs.LogText.{IsWhole}
use Rattle.lc_model.specs.Merge.{Page}
use Rattle.lc_model.specs.Merging.{counted_all, is_from}
use Rattle.lc_model.specs.State.{Place, At, Setting, State}
use Rattle.lc_model.specs.Stored.{Disks}
use Rattle.lc_token.specs.Clean.{HasByteOn}
use Rattle.lc_rest.specs.Adopted.{transaction_of, state_of, setting_of, disks_of, AreTested, AreStored}

-- what is known of a cluster at rest: all records in an order, how many of each node are stable, and how many of these its
-- resets have dropped, where the tokens are, each segment's number when it was opened, what the pages hold, and what tokens and nodes say
pub record Found : Type 0 where
  pub geometry : Geometry
  pub records : List Record
  pub stable : ℕ → ℕ
  pub dropped : ℕ → ℕ
  pub round : ℕ → ℕ
  pub place : ℕ → Place
  pub numbers : ℕ → ℕ
  pub base : Content
  pub pages : ℕ → ℕ → Page
  pub texts : ℕ → ℕ → PageText
  pub clean : ℕ → ℕ
  pub touched : ℕ → ℕ → ℕ
  pub known : ℕ → ℕ → ℕ
  pub applied : ℕ → ℕ → ℕ

-- the number that a segment's token has
abbrev pub last_number : Found → ℕ → ℕ
last_number f segment = counted_all f.numbers (map (transaction_of f.geometry) f.records) segment

-- the records of one node, in the order of its log
abbrev pub own_records : Found → ℕ → List Record
own_records f node = filter (is_from node) f.records

-- the setting, the state and the disks of the machine that it stands for
abbrev pub machine_setting : Found → Setting
machine_setting f = setting_of f.geometry f.base

abbrev pub machine_state : Found → State
machine_state f = state_of f.geometry f.records f.stable f.place

abbrev pub machine_disks : Found → Disks
machine_disks f = disks_of f.numbers f.dropped f.pages

-- its records and what is stored fit a state of the machine; what the tokens and the nodes say is no more than that
pub record IsConsistent (f : Found) : Type 0 where
  pub tested : AreTested f.geometry f.records f.stable f.place
  pub stored : AreStored f.geometry f.records f.stable f.dropped f.place f.numbers f.base f.pages f.clean f.known
  pub pages_within : (segment page : ℕ) → 1 ≤ segment → segment ≤ f.geometry.segments → page < f.geometry.pages → (f.pages segment page).sequence ≤ last_number f segment
  pub touched : All (λ (r : Record). (segment page : ℕ) → page < f.geometry.pages → HasByteOn f.geometry segment page r → number_or_zero segment r.locks ≤ f.touched segment page) f.records
  pub clean_within : (segment : ℕ) → 1 ≤ segment → segment ≤ f.geometry.segments → f.clean segment ≤ last_number f segment
  pub small : (segment : ℕ) → 1 ≤ segment → segment ≤ f.geometry.segments → last_number f segment ≤ 2 ^ 60
  pub applied_within : (node segment : ℕ) → 1 ≤ segment → segment ≤ f.geometry.segments → f.applied node segment ≤ last_number f segment
  pub applied_here : (node segment : ℕ) → 1 ≤ segment → segment ≤ f.geometry.segments → f.place segment ≡ At node → f.applied node segment ≡ last_number f segment
  pub whole : All IsWhole f.records

-- What holds of the numbers beside a state: what tokens call clean is on the pages, and resets and page writes under way are so on the disks.
use Rattle.std.specs.Prelude.{◌≡◌, ℕ, ◌≤◌, nat_lt, List, map, Some, None, is_some, if◌then◌else◌}
use Rattle.lc_page.specs.declared.page_entry.PageEntry.{PageEntry}
use Rattle.lc_page.specs.PageVector.{no_entry}
use Rattle.lc_record.specs.Marks.{counting}
use Rattle.lc_record.specs.declared.geometry.Geometry.{Geometry}
use Rattle.lc_model.specs.Merge.{Page}
use Rattle.lc_model.specs.State.{Setting, State}
use Rattle.lc_token.specs.Clean.{TokenFits}
use Rattle.lc_settled.specs.Numbers.{Numbers, token_number, stable}

-- what a segment's token says of its pages, by the numbers
abbrev pub entries_of : Geometry → Numbers → ℕ → List PageEntry
entries_of g x segment = map (λ page. record no_entry { touched = x.touched segment page; stable = stable x segment page }) (counting 0 g.pages)

-- a page write is under way just where calls of it are made; the fifth opens its slot, and its number is at most the token's
pub record IsWriteOf (s : State) (x : Numbers) (segment page : ℕ) : Type 0 where
  pub begun : is_some (x.disks.begun segment page) ≡ nat_lt 0 (x.calls segment page)
  pub opened : x.disks.opened segment page ≡ (if nat_lt (x.calls segment page) 5 then None else x.disks.begun segment page)
  pub within : (text : Page) → x.disks.begun segment page ≡ Some text → text.sequence ≤ token_number s x segment

pub record AreCoherent (m : Setting) (s : State) (x : Numbers) : Type 0 where
  -- what each token calls clean is on the pages, in every image
  pub tokens : (segment : ℕ) → 1 ≤ segment → segment ≤ m.geometry.segments →
      TokenFits m s x.disks segment (token_number s x segment) (x.clean segment) (entries_of m.geometry x segment)
  -- that is at most the token's number, and what a node has seen of it is at most that
  pub clean : (segment : ℕ) → 1 ≤ segment → segment ≤ m.geometry.segments → x.clean segment ≤ token_number s x segment
  pub known : (node segment : ℕ) → 1 ≤ segment → segment ≤ m.geometry.segments → x.known node segment ≤ x.clean segment
  -- a reset is under way just where steps of it are done
  pub resets : (node : ℕ) → x.disks.resetting node ≡ nat_lt 0 (x.reset node)
  pub writes : (segment page : ℕ) → IsWriteOf s x segment page

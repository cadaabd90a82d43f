-- What the type of a travelling token keeps.
use Rattle.std.specs.Prelude.{◌≡◌, ℕ, ◌*◌, ◌^◌, ◌<◌, ◌≤◌, length}
use Rattle.lc_disk.specs.declared.area.Area.{Ghosts}
use Rattle.lc_page.specs.PageVector.{entry_at, entry_text}
use Rattle.lc_page.specs.PageWrite.{SettledIn}
use Rattle.lc_segments.specs.Journey.{Journey}
use Rattle.lc_segments.specs.declared.travelling.Travelling.TheInside.{Inside}

module _ {D : Type 0} where
  abbrev pub journey_of : Inside D → Journey D
  journey_of t = record { token = t.token; area = t.area; left = t.left }

module _ {D : Type 0} (a : Ghosts D) where
  -- in every image the area says of each page what its entry does; nobody refers to a page, and no entry is ahead of the token
  pub record IsTravelling (t : Inside D) : Type 0 where
    pub few : length t.token.pages ≤ 1024
    pub room : length t.token.pages * 544 ≤ length (a.now t.area)
    pub small : t.token.seq ≤ 2 ^ 60
    pub free : (page : ℕ) → page < length t.token.pages → (entry_at t.token.pages page).uncommitted ≡ 0
    pub stable : (page : ℕ) → page < length t.token.pages → (entry_at t.token.pages page).stable ≤ t.token.seq
    pub touched : (page : ℕ) → page < length t.token.pages → (entry_at t.token.pages page).touched ≤ t.token.seq
    pub each : (page : ℕ) → page < length t.token.pages → SettledIn a t.area page (entry_text (entry_at t.token.pages page))

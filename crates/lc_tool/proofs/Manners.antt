-- A script is run line by line or as a whole, by its manner.
use Rattle.std.proofs.Common.{◌≡◌, ℕ, true, false, List, Option, inl, inr}
use Rattle.lc_disk.specs.declared.area.Area.{Ghosts}
use Rattle.lc_record.specs.declared.geometry.Geometry.{Geometry}
use Rattle.lc_core.specs.Lives.{Life}
use Rattle.lc_core.specs.declared.world.World.{World}
use Rattle.lc_tool.specs.Following.{lines_followed}
use Rattle.lc_tool.specs.Outcome.{FollowsLines, RunsAll, RunsRecovered}
use Rattle.lc_tool.specs.Script.{front_of, given_as}
use Rattle.lc_look.specs.Printed.{Adds}
use Rattle.lc_tool.specs.Tells.{TellsAll, TellsFollowed, TellsRecovered}
use Rattle.lc_tool.specs.declared.manner.Manner.{Manner}

module _ {D : Type 0} (a : Ghosts D) (world : World D a) (manner : Manner) (script : List ℕ) (held holds : Option (List ℕ)) (status : ℕ) where
  pub follows_recovered : manner.follow ≡ true → FollowsLines a (front_of manner.number) world script held holds status → RunsRecovered a world (given_as manner script) held holds status
  follows_recovered is follows m s x fits = let run = follows m s x fits in (run.0, inr (rw is run.1), run.2)

  pub runs_recovered : manner.follow ≡ false → RunsAll a (front_of manner.number) world script held holds status → RunsRecovered a world (given_as manner script) held holds status
  runs_recovered is runs m s x fits =
      let run = runs m s x fits in
      elim run.1 [ inl none ↦ (run.0, inl none, run.2) | inr whole ↦ (run.0, inr (rw is whole), run.2) ]

module _ (g : Geometry) (at : Option Life) (manner : Manner) (script : List ℕ) (held holds : Option (List ℕ)) (status : ℕ) where
  pub tells_recovered : manner.follow ≡ true → Adds (TellsFollowed (front_of manner.number) g at 1 false (lines_followed script)) held holds status → Adds (TellsRecovered g at (given_as manner script)) held holds status
  tells_recovered is told = (told.0, inr (rw is told.1), told.2)

  pub told_recovered : manner.follow ≡ false → Adds (TellsAll (front_of manner.number) g at script) held holds status → Adds (TellsRecovered g at (given_as manner script)) held holds status
  told_recovered is told = elim told.1 [ inl none ↦ (told.0, inl none, told.2) | inr whole ↦ (told.0, inr (rw is whole), told.2) ]

-- The records that a store shows of a log are those that the machine's node has in it.
use Rattle.std.proofs.Common.{◌≡◌, ◌∙◌, ℕ, Bool, true, false, nat_lt, List, [], ◌∷◌, take, drop, Some, None, refl, ap, inl, inr, ltb-true, ltb-false, zero, suc}
use Rattle.std.specs.Prelude.{if◌then◌else◌}
use Rattle.std.specs.List.{AllByRecursion}
use Rattle.lc_disk.specs.declared.area.Area.{Ghosts}
use Rattle.lc_record.specs.declared.geometry.Geometry.{Geometry}
use Rattle.lc_record.specs.declared.record.Record.{Record}
use Rattle.lc_log.specs.LogText.{IsWhole, joined}
use Rattle.lc_model.specs.Refusals.{is_node}
use Rattle.lc_model.specs.State.{Up as IsUp, Setting, State}
use Rattle.lc_model.specs.Stored.{records_of}
use Rattle.lc_core.specs.LogWords.{AreLogged, log_area, logged_records}
use Rattle.lc_settled.specs.Numbers.{Numbers, stable_records}
use Rattle.lc_core.specs.World.{FitsPhase}
use Rattle.lc_core.specs.declared.world_phase.WorldPhase.{WorldPhase as ItsPhase}
use Rattle.lc_core.specs.declared.world_phase.WorldPhase.TheVariants.{Down, Up, Taken}
use Rattle.lc_tool.specs.Shown.{AreInLog}
use Rattle.lc_tool.proofs.Fitting.{down_log, running_fits, up_log, up_none}

-- Lists of records

drop_whole : (n : ℕ) (records : List Record) → AllByRecursion IsWhole records → AllByRecursion IsWhole (drop n records)
drop_whole zero records all = all
drop_whole (suc n) [] all = tt
drop_whole (suc n) (r ∷ rs) all = drop_whole n rs all.1

take_whole : (n : ℕ) (records : List Record) → AllByRecursion IsWhole records → AllByRecursion IsWhole (take n records)
take_whole zero records all = tt
take_whole (suc n) [] all = tt
take_whole (suc n) (r ∷ rs) all = (all.0, take_whole n rs all.1)

-- so many of them, after others
part_whole : (m n : ℕ) (records : List Record) → AllByRecursion IsWhole records → AllByRecursion IsWhole (drop m (take n records))
part_whole m n records all = drop_whole m (take n records) (take_whole n records all)

-- The records that are logged, and their words

-- these are the words of records such as this, each whole
pub record HasWords (Such : List Record → Type 0) (words : List ℕ) : Type 0 where
  pub records : List Record
  pub such : Such records
  pub whole : AllByRecursion IsWhole records
  pub words_are : words ≡ joined records

module _ (m : Setting) (s : State) (x : Numbers) (node : ℕ) (whole : AllByRecursion IsWhole (records_of m s x.disks node)) where
  logged_whole : (b c : Bool) → AllByRecursion IsWhole (if b then [] else if c then drop (x.disks.dropped node) (take (s.flush node).taken (records_of m s x.disks node)) else stable_records m s x node)
  logged_whole true c = tt
  logged_whole false true = part_whole (x.disks.dropped node) (s.flush node).taken (records_of m s x.disks node) whole
  logged_whole false false = part_whole (x.disks.dropped node) (s.ack node) (records_of m s x.disks node) whole

  logged : (halted : Bool) (words : List ℕ) → s.halted node ≡ halted → AreLogged m s x node words → HasWords (AreInLog IsUp m s x node) words
  logged true words is are =
      let any = rw is at are in
      elim any [
        | inl stable ↦ record {
          records = stable_records m s x node;
          such = rw is (inl refl);
          whole = part_whole (x.disks.dropped node) (s.ack node) (records_of m s x.disks node) whole;
          words_are = stable;
        }
        | inr more ↦ elim more [
          | inl group ↦ record {
            records = drop (x.disks.dropped node) (take (s.flush node).taken (records_of m s x.disks node));
            such = rw is (inr (inl refl));
            whole = part_whole (x.disks.dropped node) (s.flush node).taken (records_of m s x.disks node) whole;
            words_are = group;
          }
          | inr none ↦ record { records = []; such = rw is (inr (inr (none.0, refl))); whole = tt; words_are = none.1 }
        ]
      ]
  logged false words is are = record {
    records = logged_records m s x node;
    such = rw is refl;
    whole = logged_whole (nat_lt 1 (x.reset node)) (nat_lt 2 (s.flush node).steps);
    words_are = rw is at are;
  }

  pub are_logged : (words : List ℕ) → AreLogged m s x node words → HasWords (AreInLog IsUp m s x node) words
  are_logged words are = logged (s.halted node) words refl are

-- The areas of logs

module _ {D : Type 0} (a : Ghosts D) where
  pub known_log : (phase : ItsPhase D a) (m : Setting) (s : State) (x : Numbers) (node : ℕ) → FitsPhase a m phase s x → is_node m.geometry node ≡ true
      → (area : D) × (log_area a phase node ≡ Some area)
  known_log (Down r) m s x node fits known =
      let there = down_log a r m s x node fits (ltb-true node m.geometry.nodes known) in
      (there.0, rw (ap (λ (g : Geometry). nat_lt node g.nodes) fits.geometry_is ∙ known) there.1)
  known_log (Up up) m s x node fits known = up_log a up m s x node (running_fits a up m s x fits) (ltb-true node m.geometry.nodes known)
  known_log Taken m s x node fits known = absurd fits

  pub unknown_log : (phase : ItsPhase D a) (m : Setting) (s : State) (x : Numbers) (node : ℕ) → FitsPhase a m phase s x → is_node m.geometry node ≡ false → log_area a phase node ≡ None
  unknown_log (Down r) m s x node fits unknown = rw (ap (λ (g : Geometry). nat_lt node g.nodes) fits.geometry_is ∙ unknown) refl
  unknown_log (Up up) m s x node fits unknown = up_none a up m s x node (running_fits a up m s x fits) (ltb-false node m.geometry.nodes unknown)
  unknown_log Taken m s x node fits unknown = absurd fits

-- What a log leaves is kept: its words are those of records, as its type says.
use Rattle.std.proofs.Common.{◌≡◌, ℕ, ◌+◌, ◌*◌, ◌^◌, ◌<◌, ◌≤◌, List, [], length, sym, subst, ◌∙◌}
use Rattle.std.proofs.lemmas.List.{append-nil}
use Rattle.lc_disk.specs.declared.area.Area.{Ghosts}
use Rattle.lc_record.specs.declared.geometry.Geometry.{Geometry}
use Rattle.lc_record.specs.declared.record.Record.{Record}
use Rattle.lc_record.proofs.SpellingLemmas.{nothing_begins_none}
use Rattle.lc_log.specs.LogText.{joined}
use Rattle.lc_log.specs.NodeLog.{IsAtRest, IsIdle}
use Rattle.lc_log.proofs.LogLemmas.{one_text-by}
use Rattle.lc_stage.specs.Publishing.{HoldsTaken}
use Rattle.lc_stage.specs.Staging.{AreRecords}
use Rattle.lc_log_side.specs.Left.{IsLeft}
use Rattle.lc_rest.specs.Parts.{KeepsLog}
use Rattle.lc_rest.specs.declared.node_part.NodePart.{NodePart}
use Rattle.lc_rest.proofs.SpelledWords.{all_text}
use Rattle.lc_log_side.proofs.EndedRecords.{AreOf, spelled}

module _ {D : Type 0} (a : Ghosts D) where
  -- a log that holds what was taken is at rest with its records
  at_rest_with : (area : D) (end : ℕ) (taken : List ℕ) → HoldsTaken a area end taken → (its : AreOf taken) → IsIdle a area end its.records
  at_rest_with area end taken held its = λ honest.
      let h = held.1 honest in
      let same : h.0 ≡ its.records = one_text-by taken h.0 its.records
      (record { rest = []; text = sym h.2 ∙ sym (append-nil (joined h.0)); whole = h.1.whole; end = nothing_begins_none })
      (all_text taken its.records its.are) in
      subst (λ (rs : List Record). IsAtRest (a.now area) (a.dirty area) end rs) same h.1

  pub keeps_log : (g : Geometry) (part : NodePart D a) (past : List (List ℕ)) (gone : ℕ) → IsLeft past part.known gone part.ended.items → AreRecords part.stable.items → AreRecords part.staged.items → HoldsTaken a part.log.area part.log.end part.stable.items
      → part.log.end + length part.staged.items ≤ g.words → length (a.now part.log.area) ≡ 8 * (g.words + 1) → part.round < 2 ^ 48 → KeepsLog a g part
  keeps_log g part past gone left stable staged held room area few =
      let now = spelled part.stable.items stable in
      let behind = spelled part.staged.items staged in record {
        ended = left.kept;
        stable = now.records;
        staged = behind.records;
        ended_are = record { text = left.text; whole = left.whole };
        stable_are = now.are;
        staged_are = behind.are;
        log = at_rest_with part.log.area part.log.end part.stable.items held now;
        end = held.0;
        clean = left.clean;
        room = room;
        area = area;
        few_rounds = few;
      }

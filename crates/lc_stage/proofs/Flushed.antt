-- What was taken is a group that a log can flush, and then the log holds what was taken.
use Rattle.std.proofs.Common.{◌≡◌, ℕ, ◌+◌, ◌<◌, All, List, [], ◌∷◌, ◌++◌, length, sym, refl, subst, ◌∙◌, arith, length-append}
use Rattle.std.specs.List.{concat, AllByRecursion}
use Rattle.std.proofs.lemmas.List.Elements.{All-head, All-tail}
use Rattle.lc_disk.specs.declared.area.Area.{Ghosts}
use Rattle.lc_record.specs.declared.record.Record.{Record}
use Rattle.lc_log.specs.LogText.{IsWhole, joined}
use Rattle.lc_log.specs.NodeLog.{IsIdle, IsGroup, Continues}
use Rattle.lc_log.proofs.LogLemmas.{joined-append}
use Rattle.lc_stage.specs.Staging.{IsOneRecord, AreRecords}
use Rattle.lc_stage.specs.Publishing.{HoldsTaken}

abbrev Found : List (List ℕ) → Type 0
Found rs = (records : List Record) × (concat rs ≡ joined records) × AllByRecursion IsWhole records

found : (rs : List (List ℕ)) → All IsOneRecord rs → Found rs
found [] h = ([], refl, tt)
found (r ∷ rs) h = let one = All-head IsOneRecord r rs h in let t = found rs (All-tail IsOneRecord r rs h) in
    (one.0 ∷ t.0, (λ k. one.1.spelled k ++ t.1 k), (record { canonical = one.1.canonical; short = one.1.short }, t.2))

-- what was taken, where it is not nothing, is a group
pub taken_group : (ws : List ℕ) → AreRecords ws → 0 < length ws → (records : List Record) × IsGroup ws records
taken_group ws h some = let t = found h.0 h.1 in (t.0, record { text = h.2 ∙ t.1; whole = t.2; some = some_in t.0 (subst (λ (z : List ℕ). 0 < length z) (h.2 ∙ t.1) some) })
  where
    some_in : (records : List Record) → 0 < length (joined records) → 0 < length records
    some_in [] l = absurd (omega arith)
    some_in (r ∷ rs) l = omega arith

-- after the flush of what was taken, the log holds all that was taken
pub flush_holds : {D : Type 0} (a : Ghosts D) (before after : D) (end end' : ℕ) (taken ws : List ℕ) → HoldsTaken a before end taken → AreRecords ws → 0 < length ws → Continues a before after → end' ≡ end + length ws
    → ((stable records : List Record) → IsIdle a before end stable → IsGroup ws records → IsIdle a after end' (stable ++ records)) → HoldsTaken a after end' (taken ++ ws)
flush_holds a before after end end' taken ws held records some later is_end flushed = let group = taken_group ws records some in let at_end = held.0 in (
  omega (arith, length-append taken ws),
  λ honest. let was = sym later.honest ∙ honest in let h = held.1 was in
      (h.0 ++ group.0, flushed h.0 group.0 (λ _. h.1) group.1 honest, joined-append h.0 group.0 ∙ (λ k. h.2 k ++ sym group.1.text k)),
)

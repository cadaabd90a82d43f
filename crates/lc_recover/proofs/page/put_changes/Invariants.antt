use Rattle.std.proofs.Common.{◌≡◌, ℕ, ◌+◌, ◌*◌, ◌<◌, List, length, take, All}
use Rattle.std.specs.Prelude.{slice_get}
use Rattle.std.specs.Option.{option_or}
use Rattle.lc_record.specs.Newest.{byte_of}
use Rattle.lc_record.specs.declared.record.RangeData.{RangeData}
use Rattle.lc_recover.specs.Page.{IsOf, AreAt}
use Rattle.lc_recover.proofs.page.put_changes.Given as goal

abbrev pub invariant-loop-change : goal.invariant-loop-change
invariant-loop-change l = record {
  len : length l.bytes ≡ 256;
  put : (ranges : List RangeData) (segment page : ℕ) → AreAt l.logs l.changes ranges → All (IsOf segment page) l.changes →
      (offset : ℕ) → offset < 256 →
      slice_get l.bytes offset ≡ option_or (byte_of segment (page * 256 + offset) (take l.change-index ranges)) (slice_get l.initial.bytes offset);
}

-- Open transactions stay well formed, and their marks keep their shape.
use Rattle.std.proofs.Common.{◌≡◌, ℕ, zero, suc, true, false, List, [], ◌∷◌, map, length, replicate, refl, sym, ◌∙◌, ap, true≢false, arith, ◌<◌, ◌≤◌, inl, inr}
use Rattle.std.proofs.lemmas.List.Elements.{All-nil}
use Rattle.lc_record.specs.Content.{put, segment_of}
use Rattle.lc_record.specs.Transaction.{Transaction, ByteWrite, IsWellFormed, is_member, locks, all_set}
use Rattle.lc_record.specs.Geometry.{segment_len}
use Rattle.lc_record.specs.declared.geometry.Geometry.{Geometry}
use Rattle.lc_record.specs.Marks.{stretches, ranges, ascending, no_marks, marked, written}
use Rattle.lc_model.specs.Sound.{IsProper}
use Rattle.lc_record.proofs.LockLemmas.{member_ascending}
use Rattle.std.proofs.lemmas.Bool.{or_cases}
use Rattle.std.proofs.lemmas.List.{length-replicate}
use Rattle.lc_record.proofs.SegmentLemmas.{length-put, shape-on_segment, well-marked, well-written}

-- Changes of an open transaction

pub shaped-marked : (g : Geometry) (t : Transaction) (segment offset n : ℕ) → map length t.marks ≡ replicate g.segments (segment_len g) → map length (marked t segment offset n).marks ≡ replicate g.segments (segment_len g)
shaped-marked g t segment offset n shaped =
    shape-on_segment segment (put offset (replicate n true)) t.marks (length-put offset (replicate n true)) ∙ shaped

-- A new transaction has nothing set

none_set : (place n : ℕ) → all_set place 1 (replicate n false) ≡ false
none_set place zero = refl
none_set zero (suc n) = refl
none_set (suc place) (suc n) = none_set place n

none_set_in : (segment place n k : ℕ) → all_set place 1 (segment_of segment (replicate n (replicate k false))) ≡ false
none_set_in segment place zero k = refl
none_set_in zero place (suc n) k = refl
none_set_in (suc zero) place (suc n) k = none_set place k
none_set_in (suc (suc i)) place (suc n) k = none_set_in (suc i) place n k

pub well-new : (g : Geometry) (node thread : ℕ) (segments reading : List ℕ) → IsWellFormed (record { node = node; thread = thread; locked = segments; reading = reading; marks = no_marks g; writes = [] })
well-new g node thread segments reading = record {
  set_locked = λ segment place set. absurd (true≢false (sym set ∙ none_set_in segment place g.segments (segment_len g)));
  write_locked = All-nil (λ (v : ByteWrite). _);
  write_set = All-nil (λ (v : ByteWrite). _);
}

shape-replicate : (n k : ℕ) → map length (replicate n (replicate k false)) ≡ replicate n k
shape-replicate zero k = refl
shape-replicate (suc n) k = rw (length-replicate k false) (ap (λ ns. k ∷ ns) (shape-replicate n k))

none-stretches : (n : ℕ) → stretches false (replicate n false) ≡ 0
none-stretches zero = refl
none-stretches (suc n) = none-stretches n

none-ranges : (n k : ℕ) → ranges (replicate n (replicate k false)) ≡ 0
none-ranges zero k = refl
none-ranges (suc n) k = rw (none-stretches k, none-ranges n k) refl

-- a new transaction is proper
pub proper-new : (g : Geometry) (node thread : ℕ) (segments reading : List ℕ) → node < g.nodes → thread < g.threads
    → IsProper g (record { node = node; thread = thread; locked = ascending g segments; reading = ascending g reading; marks = no_marks g; writes = [] })
proper-new g node thread segments reading node_in thread_in = record {
  well = well-new g node thread (ascending g segments) (ascending g reading);
  node_known = node_in;
  thread_known = thread_in;
  segments_known = λ segment held. elim (or_cases (is_member segment (ascending g segments)) (is_member segment (ascending g reading)) held) [
    | inl lock ↦ (member_ascending g segments segment lock).0
    | inr read ↦ (member_ascending g reading segment read).0
  ];
  shaped = shape-replicate g.segments (segment_len g);
  few_ranges = (let none : ranges (no_marks g) ≡ 0 = none-ranges g.segments (segment_len g) in omega (arith, none));
}

-- a change keeps it proper
pub proper-marked : (g : Geometry) (t : Transaction) (segment offset n : ℕ) → IsProper g t → locks t segment ≡ true → ranges (marked t segment offset n).marks ≤ 64 → IsProper g (marked t segment offset n)
proper-marked g t segment offset n proper lock few = record {
  well = well-marked t segment offset n proper.well lock;
  node_known = proper.node_known;
  thread_known = proper.thread_known;
  segments_known = proper.segments_known;
  shaped = shaped-marked g t segment offset n proper.shaped;
  few_ranges = few;
}

pub proper-written : (g : Geometry) (t : Transaction) (segment offset : ℕ) (bytes : List ℕ) → IsProper g t → locks t segment ≡ true → all_set offset (length bytes) (segment_of segment t.marks) ≡ true → IsProper g (written t segment offset bytes)
proper-written g t segment offset bytes proper lock set = record {
  well = well-written t segment offset bytes proper.well lock set;
  node_known = proper.node_known;
  thread_known = proper.thread_known;
  segments_known = proper.segments_known;
  shaped = proper.shaped;
  few_ranges = proper.few_ranges;
}

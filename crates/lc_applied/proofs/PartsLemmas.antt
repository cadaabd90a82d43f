-- The parts of entries, and one part more.
use Rattle.std.proofs.Common.{◌≡◌, ℕ, suc, ◌+◌, ◌≤◌, List, [], ◌∷◌, ◌++◌, length, take, drop, refl, sym, ap, ◌∙◌, arith}
use Rattle.std.proofs.lemmas.List.{append-nil, drop-append-le, length-drop, take-append-le}
use Rattle.lc_range.specs.RangeSet.{total_len}
use Rattle.lc_range.specs.declared.range.Range.{Range}
use Rattle.lc_record.specs.declared.part.Part.{Part}
use Rattle.lc_record.specs.declared.record.RangeData.{RangeData}
use Rattle.lc_applied.specs.AppliedParts.{Applied}
use Rattle.lc_applied.specs.AppliedPart.{part_in, parts_of, ranges_of, runs_in, runs_used, AreUsedUp}
use Rattle.lc_applied.specs.declared.applied_part.AppliedPart.{AppliedPart}
use Rattle.lc_applied.specs.declared.applied_part.AppliedPart.TheVariants.{Given, Own}
use Rattle.lc_applied.proofs.RunsLemmas.{ranges-front, total-parts}

pub length-parts : (entries : List AppliedPart) (runs : List Range) (bytes : List ℕ) → length (parts_of entries runs bytes) ≡ length entries
length-parts [] runs bytes = refl
length-parts (entry ∷ entries) runs bytes = ap suc (length-parts entries (drop (runs_used entry) runs) (drop (total_len (take (runs_used entry) runs)) bytes))

pub runs_in-push : (entries : List AppliedPart) (entry : AppliedPart) → runs_in (entries ++ entry ∷ []) ≡ runs_in entries + runs_used entry
runs_in-push [] entry = omega arith
runs_in-push (first ∷ entries) entry = omega (arith, runs_in-push entries entry)

-- the entries after the first have the runs and bytes after its own
pub used-behind : (first : AppliedPart) (entries : List AppliedPart) (runs : List Range) (bytes : List ℕ) → AreUsedUp (first ∷ entries) runs bytes
    → AreUsedUp entries (drop (runs_used first) runs) (drop (total_len (take (runs_used first) runs)) bytes)
used-behind first entries runs bytes are =
    let all = are.runs_are in
    let whole = are.bytes_are in
    let both = total-parts (runs_used first) runs in
    record {
      runs_are = omega (arith, all, length-drop (runs_used first) runs);
      bytes_are = omega (arith, whole, both, length-drop (total_len (take (runs_used first) runs)) bytes);
    }

-- one entry more, with these runs and bytes after those of the entries
pub parts-push : (entries : List AppliedPart) (entry : AppliedPart) (runs more : List Range) (bytes own : List ℕ) → AreUsedUp entries runs bytes → runs_used entry ≤ length more
    → parts_of (entries ++ entry ∷ []) (runs ++ more) (bytes ++ own) ≡ parts_of entries runs bytes ++ part_in entry more own ∷ []
parts-push [] entry [] more [] own are few = refl
parts-push [] entry [] more (b ∷ bytes) own are few = absurd (let none = are.bytes_are in omega (arith, none))
parts-push [] entry (r ∷ runs) more bytes own are few = absurd (let none = are.runs_are in omega (arith, none))
parts-push (first ∷ entries) entry runs more bytes own are few =
    let n : ℕ = runs_used first in
    let total : ℕ = total_len (take n runs) in
    let all = are.runs_are in
    let whole = are.bytes_are in
    let both = total-parts n runs in
    let enough : n ≤ length runs = omega (arith, all) in
    let enough_bytes : total ≤ length bytes = omega (arith, whole, both) in
    let front : take n (runs ++ more) ≡ take n runs = take-append-le n runs more enough in
    let behind : drop n (runs ++ more) ≡ drop n runs ++ more = drop-append-le n runs more enough in
    let later : AreUsedUp entries (drop n runs) (drop total bytes) = used-behind first entries runs bytes are in
    ap (λ (part : Part). part ∷ parts_of (entries ++ entry ∷ []) (drop n (runs ++ more)) (drop (total_len (take n (runs ++ more))) (bytes ++ own))) (same_part first runs more bytes own enough enough_bytes)
    ∙ ap (λ (l : List Range). part_in first runs bytes ∷ parts_of (entries ++ entry ∷ []) l (drop (total_len (take n (runs ++ more))) (bytes ++ own))) behind
    ∙ ap (λ (l : List Range). part_in first runs bytes ∷ parts_of (entries ++ entry ∷ []) (drop n runs ++ more) (drop (total_len l) (bytes ++ own))) front
    ∙ ap (λ (l : List ℕ). part_in first runs bytes ∷ parts_of (entries ++ entry ∷ []) (drop n runs ++ more) l) (drop-append-le total bytes own enough_bytes)
    ∙ ap (λ (l : List Part). part_in first runs bytes ∷ l) (parts-push entries entry (drop n runs) more (drop total bytes) own later few)
  where
    same_part : (first : AppliedPart) (runs more : List Range) (bytes own : List ℕ) → runs_used first ≤ length runs → total_len (take (runs_used first) runs) ≤ length bytes → part_in first (runs ++ more) (bytes ++ own) ≡ part_in first runs bytes
    same_part (Given part) runs more bytes own enough enough_bytes = refl
    same_part (Own segment seq count) runs more bytes own enough enough_bytes =
        ap (λ (l : List Range). record { segment = segment; seq = seq; ranges = ranges_of l (bytes ++ own) }) (take-append-le count runs more enough)
        ∙ ap (λ (l : List RangeData). record { segment = segment; seq = seq; ranges = l }) (ranges-front (take count runs) bytes own enough_bytes)

-- one part more as it was given
pub parts-given : (entries : List AppliedPart) (part : Part) (runs : List Range) (bytes : List ℕ) → AreUsedUp entries runs bytes → parts_of (entries ++ Given part ∷ []) runs bytes ≡ parts_of entries runs bytes ++ part ∷ []
parts-given entries part runs bytes are =
    ap (λ (l : List Range). parts_of (entries ++ Given part ∷ []) l bytes) (sym (append-nil runs))
    ∙ ap (λ (l : List ℕ). parts_of (entries ++ Given part ∷ []) (runs ++ []) l) (sym (append-nil bytes))
    ∙ parts-push entries (Given part) runs [] bytes [] are (omega arith)

-- what contracts see is the same, where each of its fields is
pub same-applied : (a b : Applied) → a.parts ≡ b.parts → a.room ≡ b.room → a.runs_left ≡ b.runs_left → a.bytes_left ≡ b.bytes_left → a ≡ b
same-applied a b parts room runs_left bytes_left =
    ap (λ (l : List Part). record { parts = l; room = a.room; runs_left = a.runs_left; bytes_left = a.bytes_left }) parts
    ∙ ap (λ (n : ℕ). record { parts = b.parts; room = n; runs_left = a.runs_left; bytes_left = a.bytes_left }) room
    ∙ ap (λ (n : ℕ). record { parts = b.parts; room = b.room; runs_left = n; bytes_left = a.bytes_left }) runs_left
    ∙ ap (λ (n : ℕ). record { parts = b.parts; room = b.room; runs_left = b.runs_left; bytes_left = n }) bytes_left

-- how many parts contracts see, and how much room
pub record Seen (a : Applied) (count room runs_left bytes_left : ℕ) : Type 0 where
  pub count_is : length a.parts ≡ count
  pub room_is : a.room ≡ room
  pub runs_left_is : a.runs_left ≡ runs_left
  pub bytes_left_is : a.bytes_left ≡ bytes_left

pub seen-of : (entries : List AppliedPart) (runs : List Range) (bytes : List ℕ) (room runs_left bytes_left : ℕ) (a : Applied)
    → record { parts = parts_of entries runs bytes; room = room; runs_left = runs_left; bytes_left = bytes_left } ≡ a → Seen a (length entries) room runs_left bytes_left
seen-of entries runs bytes room runs_left bytes_left a is = record {
  count_is = sym (ap (λ (x : Applied). length x.parts) is) ∙ length-parts entries runs bytes;
  room_is = sym (ap (λ (x : Applied). x.room) is);
  runs_left_is = sym (ap (λ (x : Applied). x.runs_left) is);
  bytes_left_is = sym (ap (λ (x : Applied). x.bytes_left) is);
}

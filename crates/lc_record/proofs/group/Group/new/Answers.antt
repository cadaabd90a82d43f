use Rattle.std.proofs.Common.{◌≡◌, ℕ, List, [], ◌∷◌, ◌++◌, ap, ◌∙◌, arith}
use Rattle.std.specs.Int.{w64, to_le_bytes}
use Rattle.lc_record.specs.Words.{bytes_of}
use Rattle.lc_record.proofs.GroupLemmas.{view_is, is_group}
use Rattle.lc_record.proofs.group.Group.new.Goals as goal

pub invariant_of-result : goal.invariant_of-result
invariant_of-result c =
    let text : c.append.new.bytes.items ≡ bytes_of ([] ++ 0 ∷ []) = c.append.ensures.items ∙ ap (λ (l : List ℕ). l ++ to_le_bytes w64 0) c.in_ok-bytes.ensures.items in
    is_group (record { bytes = c.append.new.bytes; room = c.args.room }) [] text tt (omega arith)
    (omega (arith, c.in_ok-bytes.ensures.capacity, c.append.ensures.room))

pub returns : goal.returns
returns c =
    let text : c.append.new.bytes.items ≡ bytes_of ([] ++ 0 ∷ []) = c.append.ensures.items ∙ ap (λ (l : List ℕ). l ++ to_le_bytes w64 0) c.in_ok-bytes.ensures.items in
    view_is (record { bytes = c.append.new.bytes; room = c.args.room }) [] text tt

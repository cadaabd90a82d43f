use Rattle.std.proofs.Common.{◌≡◌, ℕ, List, [], ◌∷◌, ◌++◌, ap, ◌∙◌, arith}
use Rattle.std.specs.Int.{w64, to_le_bytes}
use Rattle.lc_record.specs.Words.{bytes_of}
use Rattle.lc_record.specs.GroupView.{GroupView}
use Rattle.lc_record.proofs.GroupLemmas.{view_is, is_group}
use Rattle.lc_record.proofs.group.Group.clear.Goals as goal

pub invariant_of-self : goal.invariant_of-self
invariant_of-self c =
    let text : c.append.new.bytes.items ≡ bytes_of ([] ++ 0 ∷ []) = c.append.ensures.items ∙ ap (λ (l : List ℕ). l ++ to_le_bytes w64 0) c.clear.ensures.items in
    is_group (record { bytes = c.append.new.bytes; room = c.self.inside.room }) [] text tt (omega arith)
    (omega (arith, c.self.invariant.room, c.clear.ensures.capacity, c.append.ensures.room))

pub returns : goal.returns
returns c =
    let text : c.append.new.bytes.items ≡ bytes_of ([] ++ 0 ∷ []) = c.append.ensures.items ∙ ap (λ (l : List ℕ). l ++ to_le_bytes w64 0) c.clear.ensures.items in
    view_is (record { bytes = c.append.new.bytes; room = c.self.inside.room }) [] text tt
    ∙ ap (λ (v : GroupView). record { words = []; room = v.room }) c.self.view_is

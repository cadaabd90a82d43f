use Rattle.std.proofs.Common.{◌≡◌, ℕ, ◌+◌, ◌-◌, ◌*◌, List, [], ◌∷◌, ◌++◌, length, ap, ◌∙◌, arith, length-append}
use Rattle.std.specs.Int.{w64, to_le_bytes}
use Rattle.lc_record.specs.Words.{bytes_of}
use Rattle.lc_record.specs.GroupView.{GroupView}
use Rattle.lc_record.specs.Group.{group_words}
use Rattle.lc_record.proofs.GroupLemmas.{view_is, is_group, length-group, pushed_bytes}
use Rattle.lc_record.proofs.WordLemmas.{AreWords-append}
use Rattle.lc_record.proofs.group.Group.push.Goals as goal

pub overflow_sub-end : goal.overflow_sub-end
overflow_sub-end c =
    let long : length c.self.inside.bytes.items ≡ 8 * length (group_words c.self.inside) + 8 = ap length c.self.invariant.text ∙ length-group (group_words c.self.inside) in
    omega (arith, c.len-end.ensures, long)

pub append-requires-2 : goal.append-requires-2
append-requires-2 c =
    let long : length c.self.inside.bytes.items ≡ 8 * length (group_words c.self.inside) + 8 = ap length c.self.invariant.text ∙ length-group (group_words c.self.inside) in
    let same : length (group_words c.self.inside) ≡ length c.args.self.now.words = ap (λ (v : GroupView). length v.words) c.self.view_is in
    let room : c.self.inside.room ≡ c.args.self.now.room = ap (λ (v : GroupView). v.room) c.self.view_is in
    omega (arith, c.len-end.ensures, long, same, room, c.self.invariant.room, c.truncate.ensures.len, c.truncate.ensures.capacity, c.append.ensures.len, c.append.ensures.room)

pub invariant_of-self : goal.invariant_of-self
invariant_of-self c =
    let ws : List ℕ = group_words c.self.inside in
    let text : c.append-2.new.bytes.items ≡ bytes_of ((ws ++ c.args.word ∷ []) ++ 0 ∷ []) =
    c.append-2.ensures.items ∙ ap (λ (l : List ℕ). l ++ to_le_bytes w64 0) (c.append.ensures.items ∙ ap (λ (l : List ℕ). l ++ to_le_bytes w64 c.args.word) c.truncate.ensures.items)
    ∙ pushed_bytes c.self.inside.bytes.items ws (c.len-end.result - 8) c.args.word c.self.invariant.text (omega (arith, c.len-end.ensures)) in
    let same : length ws ≡ length c.args.self.now.words = ap (λ (v : GroupView). length v.words) c.self.view_is in
    let room : c.self.inside.room ≡ c.args.self.now.room = ap (λ (v : GroupView). v.room) c.self.view_is in
    is_group (record { bytes = c.append-2.new.bytes; room = c.self.inside.room }) (ws ++ c.args.word ∷ []) text
    (AreWords-append ws (c.args.word ∷ []) c.self.invariant.words (c.ranges.word.fits, tt))
    (omega (arith, length-append ws (c.args.word ∷ []), same, room, c.requires))
    (omega (arith, c.self.invariant.room, c.truncate.ensures.capacity, c.append.ensures.room, c.append-2.ensures.room))

pub returns : goal.returns
returns c =
    let ws : List ℕ = group_words c.self.inside in
    let text : c.append-2.new.bytes.items ≡ bytes_of ((ws ++ c.args.word ∷ []) ++ 0 ∷ []) =
    c.append-2.ensures.items ∙ ap (λ (l : List ℕ). l ++ to_le_bytes w64 0) (c.append.ensures.items ∙ ap (λ (l : List ℕ). l ++ to_le_bytes w64 c.args.word) c.truncate.ensures.items)
    ∙ pushed_bytes c.self.inside.bytes.items ws (c.len-end.result - 8) c.args.word c.self.invariant.text (omega (arith, c.len-end.ensures)) in
    view_is (record { bytes = c.append-2.new.bytes; room = c.self.inside.room }) (ws ++ c.args.word ∷ []) text
    (AreWords-append ws (c.args.word ∷ []) c.self.invariant.words (c.ranges.word.fits, tt))
    ∙ ap (λ (v : GroupView). record { words = v.words ++ c.args.word ∷ []; room = v.room }) c.self.view_is

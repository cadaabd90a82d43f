use Rattle.std.proofs.Common.{◌≡◌, ℕ, ◌+◌, ◌-◌, ◌*◌, List, [], ◌∷◌, ◌++◌, length, ap, ◌∙◌, arith, length-append}
use Rattle.std.specs.Int.{w64, to_le_bytes}
use Rattle.lc_record.specs.Words.{bytes_of}
use Rattle.lc_record.specs.GroupView.{GroupView}
use Rattle.lc_record.specs.Group.{group_words}
use Rattle.lc_record.proofs.GroupLemmas.{view_is, is_group, length-group, extended_bytes}
use Rattle.lc_record.proofs.WordLemmas.{AreWords-append, AreWords-from}
use Rattle.lc_record.proofs.group.Group.extend.Goals as goal

pub overflow_sub-end : goal.overflow_sub-end
overflow_sub-end c =
    let long : length c.self.inside.bytes.items ≡ 8 * length (group_words c.self.inside) + 8 = ap length c.self.invariant.text ∙ length-group (group_words c.self.inside) in
    omega (arith, c.len-end.ensures, long)

pub append_all-requires : goal.append_all-requires
append_all-requires c =
    let long : length c.self.inside.bytes.items ≡ 8 * length (group_words c.self.inside) + 8 = ap length c.self.invariant.text ∙ length-group (group_words c.self.inside) in
    let same : length (group_words c.self.inside) ≡ length c.args.self.now.words = ap (λ (v : GroupView). length v.words) c.self.view_is in
    let room : c.self.inside.room ≡ c.args.self.now.room = ap (λ (v : GroupView). v.room) c.self.view_is in
    omega (arith, c.len-end.ensures, long, same, room, c.self.invariant.room, c.requires, c.truncate.ensures.len, c.truncate.ensures.capacity)

pub append-requires : goal.append-requires
append-requires c =
    let long : length c.self.inside.bytes.items ≡ 8 * length (group_words c.self.inside) + 8 = ap length c.self.invariant.text ∙ length-group (group_words c.self.inside) in
    let same : length (group_words c.self.inside) ≡ length c.args.self.now.words = ap (λ (v : GroupView). length v.words) c.self.view_is in
    let room : c.self.inside.room ≡ c.args.self.now.room = ap (λ (v : GroupView). v.room) c.self.view_is in
    omega (arith, c.len-end.ensures, long, same, room, c.self.invariant.room, c.requires, c.truncate.ensures.len, c.truncate.ensures.capacity, c.append_all.ensures.len, c.append_all.ensures.room)

pub invariant_of-self : goal.invariant_of-self
invariant_of-self c =
    let ws : List ℕ = group_words c.self.inside in
    let text : c.append.new.bytes.items ≡ bytes_of ((ws ++ c.args.words.now) ++ 0 ∷ []) =
    c.append.ensures.items ∙ ap (λ (l : List ℕ). l ++ to_le_bytes w64 0) (c.append_all.ensures.items ∙ ap (λ (l : List ℕ). l ++ bytes_of c.args.words.now) c.truncate.ensures.items)
    ∙ extended_bytes c.self.inside.bytes.items ws c.args.words.now (c.len-end.result - 8) c.self.invariant.text (omega (arith, c.len-end.ensures)) in
    let same : length ws ≡ length c.args.self.now.words = ap (λ (v : GroupView). length v.words) c.self.view_is in
    let room : c.self.inside.room ≡ c.args.self.now.room = ap (λ (v : GroupView). v.room) c.self.view_is in
    is_group (record { bytes = c.append.new.bytes; room = c.self.inside.room }) (ws ++ c.args.words.now) text
    (AreWords-append ws c.args.words.now c.self.invariant.words (AreWords-from c.args.words.now (λ i. omega (arith, c.type_inv.words i))))
    (omega (arith, length-append ws c.args.words.now, same, room, c.requires))
    (omega (arith, c.self.invariant.room, c.truncate.ensures.capacity, c.append_all.ensures.room, c.append.ensures.room))

pub returns : goal.returns
returns c =
    let ws : List ℕ = group_words c.self.inside in
    let text : c.append.new.bytes.items ≡ bytes_of ((ws ++ c.args.words.now) ++ 0 ∷ []) =
    c.append.ensures.items ∙ ap (λ (l : List ℕ). l ++ to_le_bytes w64 0) (c.append_all.ensures.items ∙ ap (λ (l : List ℕ). l ++ bytes_of c.args.words.now) c.truncate.ensures.items)
    ∙ extended_bytes c.self.inside.bytes.items ws c.args.words.now (c.len-end.result - 8) c.self.invariant.text (omega (arith, c.len-end.ensures)) in
    view_is (record { bytes = c.append.new.bytes; room = c.self.inside.room }) (ws ++ c.args.words.now) text
    (AreWords-append ws c.args.words.now c.self.invariant.words (AreWords-from c.args.words.now (λ i. omega (arith, c.type_inv.words i))))
    ∙ ap (λ (v : GroupView). record { words = v.words ++ c.args.words.now; room = v.room }) c.self.view_is

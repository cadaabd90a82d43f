use Rattle.std.proofs.Common.{◌≡◌, ℕ, ◌+◌, ◌-◌, ◌*◌, List, [], ◌∷◌, ◌++◌, length, get_or, take, drop, ap, sym, ◌∙◌, arith, append-nil}
use Rattle.std.specs.Int.{w64, from_le_bytes}
use Rattle.lc_record.specs.Words.{bytes_of, AreWords}
use Rattle.lc_record.specs.GroupView.{GroupView}
use Rattle.lc_record.specs.Group.{group_words}
use Rattle.lc_record.proofs.WordLemmas.{word_at, bytes_of-append}
use Rattle.lc_record.proofs.GroupLemmas.{length-group}
use Rattle.lc_record.proofs.group.Group.word.Goals as goal

pub slice_bounds-copy_from_slice-end-2 : goal.slice_bounds-copy_from_slice-end-2
slice_bounds-copy_from_slice-end-2 c =
    let long : length c.self.inside.bytes.items ≡ 8 * length (group_words c.self.inside) + 8 = ap length c.self.invariant.text ∙ length-group (group_words c.self.inside) in
    let same : length (group_words c.self.inside) ≡ length c.args.self.now.words = ap (λ (v : GroupView). length v.words) c.self.view_is in
    let read : length c.as_slice-bytes.result.now ≡ length c.self.inside.bytes.items = ap length c.as_slice-bytes.ensures.value in
    let within = c.requires in omega arith

pub returns : goal.returns
returns c = let ws : List ℕ = group_words c.self.inside in
    let same : ws ≡ c.args.self.now.words = ap (λ (v : GroupView). v.words) c.self.view_is in
    let text : c.as_slice-bytes.result.now ≡ bytes_of ws ++ bytes_of (0 ∷ []) = c.as_slice-bytes.ensures.value ∙ (c.self.invariant.text ∙ bytes_of-append ws (0 ∷ [])) in
    let within = c.requires in let n : length ws ≡ length c.args.self.now.words = ap (λ (l : List ℕ). length l) same in
    let read : c.copy_from_slice.new.self ≡ take 8 (drop (8 * c.args.index) c.as_slice-bytes.result.now) = c.copy_from_slice.ensures.after ∙ ap (λ (k : ℕ). take k (drop (8 * c.args.index) c.as_slice-bytes.result.now)) (let e : 8 * c.args.index + 8 - 8 * c.args.index ≡ 8 = omega arith in e) in
    c.from_le_bytes.ensures ∙ (ap (λ (l : List ℕ). from_le_bytes w64 l) (read ∙ ap (λ (l : List ℕ). take 8 (drop (8 * c.args.index) l)) text) ∙ (word_at ws (bytes_of (0 ∷ [])) c.args.index c.self.invariant.words (omega arith) ∙ ap (λ (l : List ℕ). get_or l c.args.index 0) same))

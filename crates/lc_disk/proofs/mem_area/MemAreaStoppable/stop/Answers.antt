use Rattle.std.proofs.Common.{◌≡◌, ℕ, Bool, false, List, length, slice_index_or, take, drop, ◌++◌, ◌∙◌, ap, arith}
use Rattle.std.proofs.lemmas.List.{take_at}
use Rattle.lc_disk.specs.Stop.{left_by_stop}
use Rattle.lc_disk.proofs.mem_area.MemAreaStoppable.stop.Goals as goal

pub returns-clause-chosen : goal.returns-clause-chosen
returns-clause-chosen c =
    let was = c.args.self.now in
    let choices = c.args.choices.now in
    let left = c.choose.new.bytes in
    let whole : take was.bytes.len (left ++ drop (length left) was.bytes.items) ≡ left =
    take_at left (drop (length left) was.bytes.items) was.bytes.len (omega (arith, c.choose.ensures.len, c.deref_mut.ensures.len)) in
    λ k.
    ap (λ (l : List ℕ). slice_index_or l k 0) (c.make_stable.ensures.same ∙ whole)
    ∙ c.choose.ensures.chosen k
    ∙ ap (λ (l : List ℕ). left_by_stop l c.deref.result.now (λ i. slice_index_or c.deref-2.result.now i false) choices k) c.deref_mut.ensures.value
    ∙ ap (λ (l : List ℕ). left_by_stop was.bytes.items l (λ i. slice_index_or c.deref-2.result.now i false) choices k) c.deref.ensures.value
    ∙ ap (λ (l : List Bool). left_by_stop was.bytes.items was.stable.items (λ i. slice_index_or l i false) choices k) c.deref-2.ensures.value

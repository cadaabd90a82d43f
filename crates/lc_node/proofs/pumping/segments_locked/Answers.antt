use Rattle.std.proofs.Common.{rules, ◌≡◌, ◌+◌, ◌<◌, ◌∷◌, [], ◌++◌, ℕ, List, Some, length, map, take, get_or, sym, ap, ◌∙◌}
use Rattle.std.specs.Prelude.{slice_get}
use Rattle.std.proofs.lemmas.List.{map-append, take_more}
use Rattle.std.proofs.lemmas.Option.{get_or_from_slice_get}
use Rattle.lc_record.specs.declared.record.Lock.{Lock}
use Rattle.lc_node.proofs.pumping.segments_locked.Goals as goal

pub loop-index-preserved : goal.loop-index-preserved
loop-index-preserved c =
    let locks : List Lock = c.args.record.now.locks in let index : ℕ = c.loop-index.index in let lock : Lock = c.in-Some.lock in
    let within : index < length locks = search rules in
    let at : slice_get locks index ≡ Some lock = search rules in
    let segment_of : Lock → ℕ = λ l. l.segment in
    let more : map segment_of (take (index + 1) locks) ≡ map segment_of (take index locks) ++ lock.segment ∷ [] =
    ap (map segment_of) (take_more locks index lock within)
    ∙ (map-append segment_of (take index locks) (get_or locks index lock ∷ [])
    ∙ ap (λ (l : Lock). map segment_of (take index locks) ++ l.segment ∷ []) (get_or_from_slice_get locks index lock lock at)) in
    c.in_ok-push.ensures.ok ∙ (ap (λ (l : List ℕ). l ++ lock.segment ∷ []) c.loop-index.invariant ∙ sym more)

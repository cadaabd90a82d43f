use Rattle.std.proofs.Common.{◌≡◌, ℕ, ◌+◌, ◌<◌, false, List, [], ◌∷◌, ◌++◌, length, take, drop, get_or, refl, sym, ap, subst, ◌∙◌, arith, rules}
use Rattle.std.proofs.lemmas.List.{append-nil, take_more, take-append-drop}
use Rattle.lc_record.specs.Transaction.{is_member}
use Rattle.lc_tx.specs.Tx.{IsSetOf, none_of}
use Rattle.lc_tx.specs.Walk.{with_in_order}
use Rattle.lc_tx.proofs.SetLemmas.{any_is, set_more, with_rest, others_both, others_one, others_none}
use Rattle.lc_tx.proofs.locking.add_beside.Goals as goal
use Rattle.lc_tx.proofs.locking.add_beside.Goals.{then-not-contains+in_ok-insert, else-not-contains}

-- one number more
more : (these xs : List ℕ) (i : ℕ) → i < length xs → none_of these (take (i + 1) xs) ≡ none_of these (take i xs) ++ none_of these (get_or xs i 0 ∷ [])
more these xs i within = ap (none_of these) (take_more xs i 0 within) ∙ others_both these (take i xs) (get_or xs i 0 ∷ [])

pub loop-number-preserved : goal.loop-number-preserved
loop-number-preserved c =
    let these = c.args.these.now in
    let xs = c.args.numbers.now in
    let i = c.loop-number.number-index in
    let x : ℕ = get_or xs i 0 in
    let early : List ℕ = none_of these (take i xs) in
    let found : c.contains.result ≡ is_member x these = c.contains.ensures.value ∙ any_is x these in
    elim c.if-not-contains.branch [
      | then-not-contains+in_ok-insert w ↦ record {
        set = subst (λ (l : List ℕ). IsSetOf l c.if-not-contains.set.items) (sym (more these xs i c.loop-number-test.true ∙ ap (λ (l : List ℕ). early ++ l) (others_one these x (sym found ∙ w.if-not-contains.true))))
            (set_more early c.loop-number.set.items c.if-not-contains.set.items x c.loop-number.invariant.set (ap (λ v. v.items) w.set-is ∙ w.in_ok-insert.ensures.inserted));
        room = omega (arith, ap (λ v. v.capacity) w.set-is, w.in_ok-insert.ensures.capacity, c.loop-number.invariant.room);
      }
      | else-not-contains w ↦ record {
        set = subst (λ (l : List ℕ). IsSetOf l c.if-not-contains.set.items) (sym (more these xs i c.loop-number-test.true ∙ ap (λ (l : List ℕ). early ++ l) (others_none these x (sym found ∙ w.if-not-contains.false)) ∙ append-nil early))
            (subst (λ v. IsSetOf early v.items) (sym w.set-is) c.loop-number.invariant.set);
        room = omega (arith, ap (λ v. v.capacity) w.set-is, c.loop-number.invariant.room);
      }
    ]

pub returns-in_err-insert-clause-memory : goal.returns-in_err-insert-clause-memory
returns-in_err-insert-clause-memory c =
    let these = c.args.these.now in
    let xs = c.args.numbers.now in
    let i = c.loop-number.number-index in
    let x : ℕ = get_or xs i 0 in
    let next : List ℕ = with_in_order x c.loop-number.set.items in
    let apart : is_member x these ≡ false = sym (c.contains.ensures.value ∙ any_is x these) ∙ c.if-not-contains.true in
    let is : IsSetOf (none_of these (take (i + 1) xs)) next = subst (λ (l : List ℕ). IsSetOf l next) (sym (more these xs i c.loop-number-test.true ∙ ap (λ (l : List ℕ). none_of these (take i xs) ++ l) (others_one these x apart)))
    (set_more (none_of these (take i xs)) c.loop-number.set.items next x c.loop-number.invariant.set refl) in
    let all = with_rest (none_of these (drop (i + 1) xs)) (none_of these (take (i + 1) xs)) next is in
    let many : (set : List ℕ) × IsSetOf (none_of these xs) set × (16 < length set) = (
      all.0,
      subst (λ (l : List ℕ). IsSetOf l all.0) (sym (others_both these (take (i + 1) xs) (drop (i + 1) xs)) ∙ ap (none_of these) (take-append-drop (i + 1) xs)) all.1,
      omega (arith, all.2, c.in_err-insert.ensures.memory, c.loop-number.invariant.room),
    ) in
    search rules

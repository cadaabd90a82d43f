-- In a sound state every cut that a stop may make is closed.
use Rattle.std.proofs.Common.{◌≡◌, ℕ, suc, ◌+◌, ◌<◌, ◌≤◌, List, [], ◌∷◌, ◌++◌, length, filter, get_or, All, AllPairs, slice_index, refl, sym, ◌∙◌, ap, subst, arith, ltb-true, lt-ltb, eq-eqb, le_trans, length-append, inl, inr}
use Rattle.std.proofs.lemmas.List.Elements.{All-cons, All-weaker, filter-append}
use Rattle.std.proofs.lemmas.List.Kept.{AllPairs-cons}
use Rattle.lc_record.specs.Transaction.{Transaction}
use Rattle.lc_model.specs.History.{Numbered, Cut, transactions, numbered, numbered_after, is_of, IsClosed}
use Rattle.lc_record.specs.declared.geometry.Geometry.{Geometry}
use Rattle.lc_model.specs.State.{State}
use Rattle.lc_model.specs.Stops.{MayCutAt, MayCut}
use Rattle.lc_model.proofs.Prefix.{count, count-own}
use Rattle.lc_model.specs.Sound.{Sound, IsProper}
use Rattle.lc_model.proofs.Law.{all-numbered_after}
use Rattle.lc_model.proofs.Lists.{All-from_map}
use Rattle.std.proofs.Math.Nat.{lt_trans}

count-grows : (node : ℕ) (before : List Transaction) (t : Transaction) → count node before ≤ count node (before ++ t ∷ [])
count-grows node before t =
    let e : count node (before ++ t ∷ []) ≡ count node before + length (filter (is_of node) (t ∷ [])) = ap length (filter-append (is_of node) before (t ∷ [])) ∙ length-append (filter (is_of node) before) (filter (is_of node) (t ∷ [])) in
    omega (arith, e)

-- those that come have at least as many of their node before them
abbrev AtLeast : List Transaction → Numbered → Type 0
AtLeast before y = count y.transaction.node before ≤ y.number

numbers_from : (before ts : List Transaction) → All (AtLeast before) (numbered_after before ts)
numbers_from before [] = λ k d below. absurd (omega arith)
numbers_from before (t ∷ ts) =
    All-cons (AtLeast before) (record { transaction = t; number = count t.node before }) (numbered_after (before ++ t ∷ []) ts) (omega arith)
    (All-weaker (AtLeast (before ++ t ∷ [])) (AtLeast before) (λ y at_least. le_trans (count-grows y.transaction.node before t) at_least) (numbered_after (before ++ t ∷ []) ts) (numbers_from (before ++ t ∷ []) ts))

abbrev Rising : Numbered → Numbered → Type 0
Rising x y = x.transaction.node ≡ y.transaction.node → x.number < y.number

own_more : (before : List Transaction) (t : Transaction) → count t.node (before ++ t ∷ []) ≡ suc (count t.node before)
own_more before t =
    let e : count t.node (before ++ t ∷ []) ≡ count t.node before + 1 = count-own t.node before t (eq-eqb t.node t.node refl) in
    omega (arith, e)

-- of one node, the numbers rise
pub numbers_rise : (before ts : List Transaction) → AllPairs Rising (numbered_after before ts)
numbers_rise before [] = λ i j d i_lt j_in. absurd (omega arith)
numbers_rise before (t ∷ ts) =
    AllPairs-cons Rising (record { transaction = t; number = count t.node before }) (numbered_after (before ++ t ∷ []) ts)
    (All-weaker (AtLeast (before ++ t ∷ [])) (Rising (record { transaction = t; number = count t.node before }))
    (λ y at_least same.
    let more : count y.transaction.node (before ++ t ∷ []) ≡ suc (count t.node before) = subst (λ (n : ℕ). count n (before ++ t ∷ []) ≡ suc (count t.node before)) same (own_more before t) in
    omega (arith, more, at_least)) (numbered_after (before ++ t ∷ []) ts) (numbers_from (before ++ t ∷ []) ts))
    (numbers_rise (before ++ t ∷ []) ts)

-- the nodes in the history are those of the store
pub nodes-known : (g : Geometry) (s : State) → Sound g s → All (λ (x : Numbered). x.transaction.node < g.nodes) (numbered s.history)
nodes-known g s sound =
    All-from_map (λ (t : Transaction). t.node < g.nodes) (λ (x : Numbered). x.transaction) (numbered s.history)
    (subst (λ (ts : List Transaction). All (λ (t : Transaction). t.node < g.nodes) ts) (sym (all-numbered_after [] (transactions s.history)))
    (All-weaker (IsProper g) (λ (t : Transaction). t.node < g.nodes) (λ t proper. proper.node_known) (transactions s.history) sound.history_proper))

pub every_cut_closed : (g : Geometry) (s : State) (cut : Cut) → Sound g s → ((node : ℕ) → node < g.nodes → MayCutAt s node (slice_index cut node)) → IsClosed s.history cut
every_cut_closed g s cut sound may = λ i j d i_lt j_in meet kept_later.
    let nodes_known : All (λ (z : Numbered). z.transaction.node < g.nodes) (numbered s.history) = nodes-known g s sound in
    let xs : List Numbered = numbered s.history in
    let x : Numbered = get_or (numbered s.history) i d in
    let y : Numbered = get_or (numbered s.history) j d in
    let later : y.number < slice_index cut y.transaction.node = ltb-true y.number (slice_index cut y.transaction.node) kept_later in
    lt-ltb x.number (slice_index cut x.transaction.node)
    (elim (sound.ordered i j d i_lt j_in meet) [
      | inl same ↦
          let rises : x.number < y.number = numbers_rise [] (transactions s.history) i j d i_lt j_in same in
          let here : x.number < slice_index cut y.transaction.node = omega arith in
          subst (λ (n : ℕ). x.number < slice_index cut n) (sym same) here
      | inr acked ↦
          (elim (may x.transaction.node (nodes_known i d (lt_trans i_lt j_in))) [
            | inl e ↦ omega (arith, e, acked)
            | inr e ↦
                let under_way : 1 ≤ (s.flush x.transaction.node).steps = omega (arith, e.0) in
                omega (arith, e.1, acked, sound.taken x.transaction.node under_way)
          ])
    ])

-- so these numbers make a cut that a stop may make
pub may_cut : (g : Geometry) (s : State) (cut : Cut) → Sound g s → length cut ≡ g.nodes → ((node : ℕ) → node < g.nodes → MayCutAt s node (slice_index cut node)) → MayCut g s cut
may_cut g s cut sound long may = (long, every_cut_closed g s cut sound may, may)

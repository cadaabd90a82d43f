-- What merges in turns follows one another, and of each node in its own order.
use Rattle.std.proofs.Common.{◌≡◌, ◌≢◌, ℕ, zero, suc, ◌+◌, ◌-◌, ◌<◌, ◌≤◌, Bool, true, false, ◌||◌, ◌==◌, List, [], ◌∷◌, ◌++◌, map, filter, length, take, drop, All, refl, sym, ◌∙◌, ap, subst, arith, inl, inr, eqb-true, eq-eqb, ne_eqb, append_assoc, length-append, length-set}
use Rattle.std.specs.Prelude.{slice_index_or, slice_set, if◌then◌else◌}
use Rattle.std.proofs.lemmas.Bool.{cases_eq}
use Rattle.std.proofs.lemmas.List.{get_or-set_same, get_or-set_other}
use Rattle.std.proofs.lemmas.List.Elements.{All-head, All-tail, filter-append}
use Rattle.lc_record.specs.Recorded.{counted}
use Rattle.lc_record.specs.Transaction.{is_member}
use Rattle.lc_record.specs.declared.geometry.Geometry.{Geometry}
use Rattle.lc_record.specs.declared.record.Lock.{Lock}
use Rattle.lc_record.specs.declared.record.Record.{Record}
use Rattle.lc_model.specs.Merging.{is_from}
use Rattle.lc_rest.specs.Adopted.{Follow, IsNext, IsTaken, transaction_of}
use Rattle.lc_rest.specs.Merge.{AreTurns, counted_by, merged_after, no_record, number_at, record_at, times}
use Rattle.lc_rest.proofs.Merges.{times-own, times-other}
use Rattle.lc_rest.proofs.Within.{sets-lock}

abbrev pub Known : ℕ → Lock → Type 0
Known n lock = (1 ≤ lock.segment) × (lock.segment ≤ n)

-- one number that is set
set-number : (numbers : List ℕ) (n seq segment : ℕ) → 1 ≤ n → n ≤ length numbers → number_at (slice_set numbers (n - 1) seq) segment ≡ (if n == segment then seq else number_at numbers segment)
set-number numbers zero seq segment first last = absurd (omega (arith, first))
set-number numbers (suc n) seq zero first last = let differ : suc n ≢ 0 = omega arith in rw (ne_eqb (suc n) 0 differ) refl
set-number numbers (suc n) seq (suc k) first last =
    let place : suc n - 1 ≡ n = omega arith in
    elim (cases_eq n k) [
      | inl same ↦ ap (λ i. slice_index_or (slice_set numbers i seq) k 0) place ∙ ap (λ i. slice_index_or (slice_set numbers n seq) i 0) (sym same) ∙ get_or-set_same numbers n seq 0 (omega (arith, last))
          ∙ sym (ap (λ (b : Bool). if b then seq else slice_index_or numbers k 0) (eq-eqb (suc n) (suc k) (ap suc same)))
      | inr other ↦
          let apart : k ≢ n = λ e. other (sym e) in
          let differ : suc n ≢ suc k = λ e. other (let same : n ≡ k = cc in same) in
          ap (λ i. slice_index_or (slice_set numbers i seq) k 0) place ∙ get_or-set_other numbers n k seq 0 apart ∙ sym (ap (λ (b : Bool). if b then seq else slice_index_or numbers k 0) (ne_eqb (suc n) (suc k) differ))
    ]

pub length-counted : (locks : List Lock) (numbers : List ℕ) → length (counted_by locks numbers) ≡ length numbers
length-counted [] numbers = refl
length-counted (lock ∷ locks) numbers = length-counted locks (slice_set numbers (lock.segment - 1) lock.seq) ∙ length-set numbers (lock.segment - 1) lock.seq

-- of locks that have the next numbers each is counted
pub counted-at : (f : ℕ → ℕ) (locks : List Lock) (numbers : List ℕ) (segment : ℕ) → All (Known (length numbers)) locks → All (λ (lock : Lock). lock.seq ≡ f lock.segment + 1) locks
    → number_at (counted_by locks numbers) segment ≡ (if is_member segment (map (λ (l : Lock). l.segment) locks) then f segment + 1 else number_at numbers segment)
counted-at f [] numbers segment known next = refl
counted-at f (lock ∷ locks) numbers segment known next =
    let later : List ℕ = slice_set numbers (lock.segment - 1) lock.seq in
    let own : Known (length numbers) lock = All-head (Known (length numbers)) lock locks known in
    let one : number_at later segment ≡ (if lock.segment == segment then lock.seq else number_at numbers segment) = set-number numbers lock.segment lock.seq segment own.0 own.1 in
    let rest : number_at (counted_by locks later) segment ≡ (if is_member segment (map (λ (l : Lock). l.segment) locks) then f segment + 1 else number_at later segment) =
    counted-at f locks later segment (subst (λ (n : ℕ). All (Known n) locks) (sym (length-set numbers (lock.segment - 1) lock.seq)) (All-tail (Known (length numbers)) lock locks known)) (All-tail (λ (l : Lock). l.seq ≡ f l.segment + 1) lock locks next) in
    rest ∙ ap (λ n. if is_member segment (map (λ (l : Lock). l.segment) locks) then f segment + 1 else n) one
    ∙ either (lock.segment == segment) (is_member segment (map (λ (l : Lock). l.segment) locks)) (number_at numbers segment)
    (λ e. All-head (λ (l : Lock). l.seq ≡ f l.segment + 1) lock locks next ∙ ap (λ s. f s + 1) (eqb-true lock.segment segment e))
  where
    either : (b m : Bool) (n : ℕ) → (b ≡ true → lock.seq ≡ f segment + 1) → (if m then f segment + 1 else if b then lock.seq else n) ≡ (if b || m then f segment + 1 else n)
    either true true n is = refl
    either true false n is = is refl
    either false true n is = refl
    either false false n is = refl

-- so the numbers are those after its transaction
pub counts : (g : Geometry) (r : Record) (numbers : List ℕ) → IsTaken g r → All (Known (length numbers)) r.locks → IsNext (number_at numbers) r → counted (number_at numbers) (transaction_of g r) ≡ number_at (counted_by r.locks numbers)
counts g r numbers taken known next = λ i segment.
    ((ap (λ (b : Bool). if b then number_at numbers segment + 1 else number_at numbers segment) (sets-lock g r segment taken)
    ∙ sym (counted-at (number_at numbers) r.locks numbers segment known next)) i)

pub turns-follow : (g : Geometry) (logs : List (List Record)) (numbers before turns : List ℕ) → All (IsTaken g) (merged_after logs before turns) → All (λ (r : Record). All (Known (length numbers)) r.locks) (merged_after logs before turns)
    → AreTurns logs numbers before turns → Follow g (number_at numbers) (merged_after logs before turns)
turns-follow g logs numbers before [] taken known are = tt
turns-follow g logs numbers before (n ∷ ns) taken known are =
    let r : Record = record_at logs n (times n before) in
    let own : All (Known (length numbers)) r.locks = All-head (λ (q : Record). All (Known (length numbers)) q.locks) r (merged_after logs (before ++ n ∷ []) ns) known in
    let later : List ℕ = counted_by r.locks numbers in (
      are.0,
      subst (λ (h : ℕ → ℕ). Follow g h (merged_after logs (before ++ n ∷ []) ns)) (sym (counts g r numbers (All-head (IsTaken g) r (merged_after logs (before ++ n ∷ []) ns) taken) own are.0))
          (turns-follow g logs later (before ++ n ∷ []) ns (All-tail (IsTaken g) r (merged_after logs (before ++ n ∷ []) ns) taken)
          (subst (λ (k : ℕ). All (λ (q : Record). All (Known k) q.locks) (merged_after logs (before ++ n ∷ []) ns)) (sym (length-counted r.locks numbers)) (All-tail (λ (q : Record). All (Known (length numbers)) q.locks) r (merged_after logs (before ++ n ∷ []) ns) known))
          are.1),
    )

-- Of each node

drop-front : (xs : List Record) (k : ℕ) (d : Record) → k < length xs → drop k xs ≡ slice_index_or xs k d ∷ drop (suc k) xs
drop-front [] k d less = absurd (omega (arith, less))
drop-front (x ∷ xs) zero d less = refl
drop-front (x ∷ xs) (suc k) d less = drop-front xs k d (omega (arith, less))

abbrev Fits : List (List Record) → List ℕ → Type 0
Fits logs turns = (n : ℕ) → times n turns ≤ length (slice_index_or logs n [])

abbrev pub AreOwn : List (List Record) → Type 0
AreOwn logs = (n : ℕ) → All (λ (r : Record). r.node ≡ n) (slice_index_or logs n [])

pub times-front : (m : ℕ) (before ns : List ℕ) → times m before + 1 ≤ times m (before ++ m ∷ ns)
times-front m before ns =
    let parts : before ++ m ∷ ns ≡ (before ++ m ∷ []) ++ ns = sym (append_assoc before (m ∷ []) ns) in
    let own : times m (before ++ m ∷ []) ≡ times m before + 1 = times-own m before in
    let more : times m ((before ++ m ∷ []) ++ ns) ≡ times m (before ++ m ∷ []) + times m ns = ap length (filter-append (λ k. k == m) (before ++ m ∷ []) ns) ∙ length-append (filter (λ k. k == m) (before ++ m ∷ [])) (filter (λ k. k == m) ns) in
    let same : times m (before ++ m ∷ ns) ≡ times m ((before ++ m ∷ []) ++ ns) = ap (times m) parts in
    omega (arith, own, more, same)

pub node-part : (logs : List (List Record)) (n : ℕ) (before turns : List ℕ) → AreOwn logs → Fits logs (before ++ turns) → filter (is_from n) (merged_after logs before turns) ≡ take (times n turns) (drop (times n before) (slice_index_or logs n []))
node-part logs n before [] own fits = refl
node-part logs n before (m ∷ ns) own fits =
    let log : List Record = slice_index_or logs m [] in
    let r : Record = record_at logs m (times m before) in
    let less : times m before < length log = (let one = times-front m before ns in let two = fits m in omega (arith, one, two)) in
    let its : r.node ≡ m = own m (times m before) no_record less in
    let later : filter (is_from n) (merged_after logs (before ++ m ∷ []) ns) ≡ take (times n ns) (drop (times n (before ++ m ∷ [])) (slice_index_or logs n [])) =
    node-part logs n (before ++ m ∷ []) ns own (λ k. subst (λ (l : List ℕ). times k l ≤ length (slice_index_or logs k [])) (sym (append_assoc before (m ∷ []) ns)) (fits k)) in
    elim (cases_eq m n) [
      | inl same ↦
          let from : (r.node == n) ≡ true = eq-eqb r.node n (its ∙ same) in
          let turn : (m == n) ≡ true = eq-eqb m n same in
          let count : times n (before ++ m ∷ []) ≡ suc (times n before) = (let one = times-own n before in let two = ap (λ k. times n (before ++ k ∷ [])) same in omega (arith, one, two)) in
          let front : drop (times n before) (slice_index_or logs n []) ≡ r ∷ drop (suc (times n before)) (slice_index_or logs n []) =
          subst (λ (k : ℕ). drop (times k before) (slice_index_or logs k []) ≡ r ∷ drop (suc (times k before)) (slice_index_or logs k [])) same (drop-front log (times m before) no_record less) in
          ap (λ (b : Bool). if b then r ∷ filter (is_from n) (merged_after logs (before ++ m ∷ []) ns) else filter (is_from n) (merged_after logs (before ++ m ∷ []) ns)) from
          ∙ ap (λ l. r ∷ l) (later ∙ ap (λ k. take (times n ns) (drop k (slice_index_or logs n []))) count)
          ∙ ap (take (suc (times n ns))) (sym front)
          ∙ ap (λ (b : Bool). take (length (if b then m ∷ filter (λ k. k == n) ns else filter (λ k. k == n) ns)) (drop (times n before) (slice_index_or logs n []))) (sym turn)
      | inr other ↦
          let from : (r.node == n) ≡ false = ne_eqb r.node n (λ e. other (sym its ∙ e)) in
          let turn : (m == n) ≡ false = ne_eqb m n other in
          ap (λ (b : Bool). if b then r ∷ filter (is_from n) (merged_after logs (before ++ m ∷ []) ns) else filter (is_from n) (merged_after logs (before ++ m ∷ []) ns)) from
          ∙ later ∙ ap (λ k. take (times n ns) (drop k (slice_index_or logs n []))) (times-other n m before other)
          ∙ ap (λ (b : Bool). take (length (if b then m ∷ filter (λ k. k == n) ns else filter (λ k. k == n) ns)) (drop (times n before) (slice_index_or logs n []))) (sym turn)
    ]

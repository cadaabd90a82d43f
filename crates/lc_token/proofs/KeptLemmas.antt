-- Parts in a map, each at its number.
use Rattle.std.proofs.Common.{◌≡◌, ◌≢◌, ℕ, ◌+◌, ◌<◌, ◌≤◌, eqb, Option, Some, None, List, [], ◌∷◌, length, refl, sym, ap, subst, ◌∙◌, inl, inr, arith}
use Rattle.std.specs.Ordering.{nat_cmp, is_eq}
use Rattle.std.specs.Map.{lookup, remove_entry, values_of}
use Rattle.std.specs.BTreeMap.{insert_entry, is_at}
use Rattle.std.proofs.lemmas.Bool.{cond-false, cases_eq, cases_lt, eq-eqb, ne_eqb, lt-ltb, le-ltb}
use Rattle.lc_record.specs.declared.part.Part.{Part}
use Rattle.lc_token.specs.Backlog.{Ascends, StandAtNumbers, led_by, numbered, put, without}
use Rattle.lc_token.specs.Keeping.{AreLed, IsBeforeFirst, IsBehindFirst}
use Rattle.lc_token.proofs.BacklogLemmas.{ascends_put, ascends_without, none_below, numbered_here, numbered_later, put_first, put_later}

-- a look-up finds the part with the number
pub lookup_numbered : (n : ℕ) (es : List (ℕ × Part)) → StandAtNumbers es → lookup (λ k. is_eq (nat_cmp n k)) es ≡ numbered n (values_of es)
lookup_numbered n [] at = refl
lookup_numbered n (e ∷ es) at = elim (cases_eq e.1.seq n) [
  | inl same ↦ rw (le-ltb n e.0 (omega (arith, same, at.0)), eq-eqb n e.0 (sym (at.0 ∙ same)), eq-eqb e.1.seq n same) refl
  | inr other ↦ elim (cases_lt n e.0) [
    | inl below ↦ rw (lt-ltb n e.0 below, ne_eqb e.1.seq n other) (lookup_numbered n es at.1)
    | inr over ↦ rw (le-ltb n e.0 over, ne_eqb n e.0 (λ s. other (sym (s ∙ at.0))), ne_eqb e.1.seq n other) (lookup_numbered n es at.1)
  ]
]

-- a part is put in its place in the map too
pub values_insert : (p : Part) (es : List (ℕ × Part)) → StandAtNumbers es → numbered p.seq (values_of es) ≡ None → values_of (insert_entry nat_cmp es p.seq p) ≡ put p (values_of es)
values_insert p [] at none = refl
values_insert p (e ∷ es) at none = elim (cases_eq e.1.seq p.seq) [
  | inl same ↦ absurd (let h : Some e.1 ≡ None = sym (numbered_here p.seq e.1 (values_of es) same) ∙ none in cc)
  | inr other ↦ elim (cases_lt p.seq e.0) [
    | inl before ↦ rw (lt-ltb p.seq e.0 before) (sym (put_first p e.1 (values_of es) (omega (arith, before, at.0))))
    | inr behind ↦ rw (le-ltb p.seq e.0 behind, ne_eqb p.seq e.0 (λ s. other (sym (s ∙ at.0))))
        (ap (λ (xs : List Part). e.1 ∷ xs) (values_insert p es at.1 (sym (numbered_later p.seq e.1 (values_of es) other) ∙ none)) ∙ sym (put_later p e.1 (values_of es) (omega (arith, behind, at.0))))
  ]
]

pub stand_insert : (p : Part) (es : List (ℕ × Part)) → StandAtNumbers es → StandAtNumbers (insert_entry nat_cmp es p.seq p)
stand_insert p [] at = (refl, tt)
stand_insert p (e ∷ es) at = elim (cases_lt p.seq e.0) [
  | inl before ↦ rw (lt-ltb p.seq e.0 before) (refl, at)
  | inr behind ↦ elim (cases_eq p.seq e.0) [
    | inl same ↦ rw (le-ltb p.seq e.0 behind, eq-eqb p.seq e.0 same) (sym same, at.1)
    | inr other ↦ rw (le-ltb p.seq e.0 behind, ne_eqb p.seq e.0 other) (at.0, stand_insert p es at.1)
  ]
]

-- a part is taken out of the map too
pub values_remove : (n : ℕ) (es : List (ℕ × Part)) → StandAtNumbers es → values_of (remove_entry (is_at (nat_cmp n)) es) ≡ without n (values_of es)
values_remove n [] at = refl
values_remove n (e ∷ es) at = elim (cases_eq e.1.seq n) [
  | inl same ↦ rw (le-ltb n e.0 (omega (arith, same, at.0)), eq-eqb n e.0 (sym (at.0 ∙ same)), eq-eqb e.1.seq n same) refl
  | inr other ↦ elim (cases_lt n e.0) [
    | inl below ↦ rw (lt-ltb n e.0 below, ne_eqb e.1.seq n other) (ap (λ (xs : List Part). e.1 ∷ xs) (values_remove n es at.1))
    | inr over ↦ rw (le-ltb n e.0 over, ne_eqb n e.0 (λ s. other (sym (s ∙ at.0))), ne_eqb e.1.seq n other) (ap (λ (xs : List Part). e.1 ∷ xs) (values_remove n es at.1))
  ]
]

pub stand_remove : (n : ℕ) (es : List (ℕ × Part)) → StandAtNumbers es → StandAtNumbers (remove_entry (is_at (nat_cmp n)) es)
stand_remove n [] at = tt
stand_remove n (e ∷ es) at = elim (cases_eq n e.0) [
  | inl same ↦ rw (le-ltb n e.0 (omega (arith, same)), eq-eqb n e.0 same) at.1
  | inr other ↦ elim (cases_lt n e.0) [
    | inl below ↦ rw (lt-ltb n e.0 below) (at.0, stand_remove n es at.1)
    | inr over ↦ rw (le-ltb n e.0 over, ne_eqb n e.0 other) (at.0, stand_remove n es at.1)
  ]
]

few_insert : (p : Part) (es : List (ℕ × Part)) → length (insert_entry nat_cmp es p.seq p) ≤ length es + 1
few_insert p [] = omega arith
few_insert p (e ∷ es) = elim (cases_lt p.seq e.0) [
  | inl before ↦ rw (lt-ltb p.seq e.0 before) (omega arith)
  | inr behind ↦ elim (cases_eq p.seq e.0) [
    | inl same ↦ rw (le-ltb p.seq e.0 behind, eq-eqb p.seq e.0 same) (omega arith)
    | inr other ↦ rw (le-ltb p.seq e.0 behind, ne_eqb p.seq e.0 other) (let few = few_insert p es in omega arith)
  ]
]

few_remove : (n : ℕ) (es : List (ℕ × Part)) → length (remove_entry (is_at (nat_cmp n)) es) ≤ length es
few_remove n [] = omega arith
few_remove n (e ∷ es) = elim (cases_eq n e.0) [
  | inl same ↦ rw (le-ltb n e.0 (omega (arith, same)), eq-eqb n e.0 same) (omega arith)
  | inr other ↦ elim (cases_lt n e.0) [
    | inl below ↦ rw (lt-ltb n e.0 below) (let few = few_remove n es in omega arith)
    | inr over ↦ rw (le-ltb n e.0 over, ne_eqb n e.0 other) (let few = few_remove n es in omega arith)
  ]
]

-- The first part, and those after it in the map

pub led_first : (o : Option Part) (p : Part) (ps now : List Part) → o ≡ Some p → led_by o ps ≡ now → now ≡ p ∷ ps
led_first o p ps now is view = sym view ∙ ap (λ (q : Option Part). led_by q ps) is

put_leads : (p : Part) (ps : List Part) → Ascends p.seq ps → put p ps ≡ p ∷ ps
put_leads p [] up = refl
put_leads p (q ∷ qs) up = put_first p q qs up.0

-- the first is put into the map, which then begins with it
values_front : (p : Part) (es : List (ℕ × Part)) → StandAtNumbers es → Ascends p.seq (values_of es) → values_of (insert_entry nat_cmp es p.seq p) ≡ p ∷ values_of es
values_front p es at up = values_insert p es at (none_below p.seq p.seq (values_of es) up (omega arith)) ∙ put_leads p (values_of es) up

pub front_led : (p first : Part) (o new : Option Part) (es later : List (ℕ × Part)) (now : List Part) → o ≡ Some first → new ≡ Some p → led_by o (values_of es) ≡ now → IsBeforeFirst p.seq now → AreLed o es
    → later ≡ insert_entry nat_cmp es first.seq first → length es < 9223372036854775806 → AreLed new later
front_led p first o new es later now is new_is view before led later_is few =
    let up : Ascends first.seq (values_of es) = let H : Option Part → Type 0 = λ q. AreLed q es in (subst H is led).leads in
    let lower : p.seq < first.seq = subst (IsBeforeFirst p.seq) (led_first o first (values_of es) now is view) before in
    let one : Ascends p.seq (values_of (insert_entry nat_cmp es first.seq first)) = subst (Ascends p.seq) (sym (values_front first es led.numbers up)) (lower, up) in
    let whole : AreLed (Some p) (insert_entry nat_cmp es first.seq first) = record { numbers = stand_insert first es led.numbers; leads = one; few = let most = few_insert first es in omega arith } in
    let G : List (ℕ × Part) → Type 0 = λ xs. AreLed new xs in
    let H : Option Part → Type 0 = λ q. AreLed q (insert_entry nat_cmp es first.seq first) in
    subst G (sym later_is) (subst H (sym new_is) whole)

pub front_view : (p first : Part) (o new : Option Part) (es later : List (ℕ × Part)) (now : List Part) → o ≡ Some first → new ≡ Some p → led_by o (values_of es) ≡ now → AreLed o es
    → later ≡ insert_entry nat_cmp es first.seq first → led_by new (values_of later) ≡ p ∷ now
front_view p first o new es later now is new_is view led later_is =
    let up : Ascends first.seq (values_of es) = let H : Option Part → Type 0 = λ q. AreLed q es in (subst H is led).leads in
    ap (λ (q : Option Part). led_by q (values_of later)) new_is
    ∙ ap (λ (ps : List Part). p ∷ ps) (ap values_of later_is ∙ (values_front first es led.numbers up ∙ sym (led_first o first (values_of es) now is view)))

-- a part is put after the first
pub behind_led : (p : Part) (o : Option Part) (es later : List (ℕ × Part)) (now : List Part) → led_by o (values_of es) ≡ now → IsBehindFirst p.seq now → numbered p.seq now ≡ None → AreLed o es
    → later ≡ insert_entry nat_cmp es p.seq p → length es < 9223372036854775806 → AreLed o later
behind_led p None es later now view behind none led later_is few = absurd (subst (IsBehindFirst p.seq) (sym view) behind)
behind_led p (Some q) es later now view behind none led later_is few =
    let over : q.seq < p.seq = subst (IsBehindFirst p.seq) (sym view) behind in
    let unknown : numbered p.seq (values_of es) ≡ None = sym (numbered_later p.seq q (values_of es) (λ e. omega (arith, e, over))) ∙ (ap (numbered p.seq) view ∙ none) in
    let up : Ascends q.seq (values_of (insert_entry nat_cmp es p.seq p)) = subst (Ascends q.seq) (sym (values_insert p es led.numbers unknown)) (ascends_put q.seq p (values_of es) led.leads over unknown) in
    let G : List (ℕ × Part) → Type 0 = λ xs. AreLed (Some q) xs in
    subst G (sym later_is) (record { numbers = stand_insert p es led.numbers; leads = up; few = let most = few_insert p es in omega arith })

pub behind_view : (p : Part) (o : Option Part) (es later : List (ℕ × Part)) (now : List Part) → led_by o (values_of es) ≡ now → IsBehindFirst p.seq now → numbered p.seq now ≡ None → AreLed o es
    → later ≡ insert_entry nat_cmp es p.seq p → led_by o (values_of later) ≡ put p now
behind_view p None es later now view behind none led later_is = absurd (subst (IsBehindFirst p.seq) (sym view) behind)
behind_view p (Some q) es later now view behind none led later_is =
    let over : q.seq < p.seq = subst (IsBehindFirst p.seq) (sym view) behind in
    let unknown : numbered p.seq (values_of es) ≡ None = sym (numbered_later p.seq q (values_of es) (λ e. omega (arith, e, over))) ∙ (ap (numbered p.seq) view ∙ none) in
    ap (λ (ps : List Part). q ∷ ps) (ap values_of later_is ∙ values_insert p es led.numbers unknown)
    ∙ (sym (put_later p q (values_of es) (omega (arith, over))) ∙ ap (put p) view)

-- a part is taken out after the first
pub without_led : (n : ℕ) (o : Option Part) (es fewer : List (ℕ × Part)) → AreLed o es → fewer ≡ remove_entry (is_at (nat_cmp n)) es → AreLed o fewer
without_led n None es fewer led is = let none : fewer ≡ [] = is ∙ ap (remove_entry (is_at (nat_cmp n))) led.leads in
    let G : List (ℕ × Part) → Type 0 = λ xs. AreLed None xs in subst G (led.leads ∙ sym none) led
without_led n (Some q) es fewer led is = let G : List (ℕ × Part) → Type 0 = λ xs. AreLed (Some q) xs in subst G (sym is) (record {
  numbers = stand_remove n es led.numbers;
  leads = subst (Ascends q.seq) (sym (values_remove n es led.numbers)) (ascends_without q.seq n (values_of es) led.leads);
  few = let most = few_remove n es in let few = led.few in omega arith;
})

pub without_view : (n : ℕ) (first : Part) (o : Option Part) (es fewer : List (ℕ × Part)) (now : List Part) → o ≡ Some first → first.seq ≢ n → led_by o (values_of es) ≡ now → AreLed o es
    → fewer ≡ remove_entry (is_at (nat_cmp n)) es → led_by o (values_of fewer) ≡ without n now
without_view n first o es fewer now is other view led fewer_is =
    ap (λ (q : Option Part). led_by q (values_of fewer)) is
    ∙ (ap (λ (ps : List Part). first ∷ ps) (ap values_of fewer_is ∙ values_remove n es led.numbers)
    ∙ (sym (cond-false (eqb first.seq n) (values_of es) (first ∷ without n (values_of es)) (ne_eqb first.seq n other)) ∙ ap (without n) (sym (led_first o first (values_of es) now is view))))

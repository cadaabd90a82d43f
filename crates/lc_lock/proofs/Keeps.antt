-- Each step keeps the rule of a lock.
use Rattle.std.proofs.Common.{◌≡◌, ◌≢◌, ◌⊎◌, ℕ, zero, suc, ◌+◌, ◌/◌, ◌%◌, ◌<◌, ◌≤◌, eqb, List, [], ◌∷◌, length, replicate, get_or, set, bit_or, refl, sym, ap, ◌∙◌, subst, inl, inr, ⊎_elim, arith}
use mathlib.Core.Logic.{dite}
use mathlib.Core.Option.{none, some, some-injective, some-ne-none}
use mathlib.Core.Option as maybe
use native.Mathlib.Decide.{ℕ_discrete}
use lib.ListN.{get_elem?}
use prog.Atomic.{either}
use Rattle.std.specs.Prelude.{Option, Some, None}
use Rattle.atomic_table.specs.Table.{State, Me, Act, step, keeps, takes, gives, Valid, stepped, carried_after, put_back, Allows, Enters, opening}
use Rattle.atomic_table.proofs.Lists.{at_set, at_snoc, at_longer, set_here, set_else, set_again, exchanged}
use Rattle.lc_lock.specs.declared.turn.TicketState.{TicketState}
use Rattle.lc_lock.specs.declared.turn.TicketState.TheVariants.{Idle, Waits, Holds}
use Rattle.lc_lock.specs.declared.turn.LockView.{LockView}
use Rattle.lc_lock.specs.TicketQueue.{word_of, ticket_of, HasTicket, Stands, place, first_place, HasComeTo, IsHome, IsOut, IsQueue, came, drew, began, took, gave}
use Rattle.lc_lock.specs.Bells.{listened, rang}
use Rattle.lc_lock.proofs.LowBit.{sets_bit, clears_bit}
use Rattle.lc_lock.proofs.Halves.{served_half, next_half, one_drawn, ServesNext, one_served, has_room, same_ticket}

more_drawn : (d s : ℕ) (t : TicketState) → Stands d s t → Stands (d + 1) s t
more_drawn d s Idle h = tt
more_drawn d s (Waits n) h = (h.0, omega arith)
more_drawn d s (Holds n) h = (h.0, omega arith)

one_served_less : (d s : ℕ) (t : TicketState) → Stands d s t → (HasTicket t s → ⊥) → Stands d (s + 1) t
one_served_less d s Idle h other = tt
one_served_less d s (Waits n) h other = let ne : n ≢ s = other in (omega arith, h.1)
one_served_less d s (Holds n) h other = absurd (other h.0)

is_drawn : (d s n : ℕ) (t : TicketState) → Stands d s t → HasTicket t n → n < d
is_drawn d s n Idle h has = absurd has
is_drawn d s n (Waits m) h has = omega arith
is_drawn d s n (Holds m) h has = omega arith

waits_with : (t : TicketState) (n : ℕ) → t ≡ Waits n → HasTicket t n
waits_with t n e = subst (λ (z : TicketState). HasTicket z n) (sym e) refl

holds_with : (t : TicketState) (n : ℕ) → t ≡ Holds n → HasTicket t n
holds_with t n e = subst (λ (z : TicketState). HasTicket z n) (sym e) refl

module _ {A : Type 0} where
  one_only : (l : List A) (a : A) → length l ≡ 1 → set l 0 a ≡ a ∷ []
  one_only [] a e = absurd (omega arith)
  one_only (x ∷ []) a e = refl
  one_only (x ∷ (y ∷ ys)) a e = absurd (omega arith)

  -- what is written after the first leaves the first
  behind_first : (x : A) (l : List A) (i : ℕ) (a : A) → 0 < i → (m : List A) × (set (x ∷ l) i a ≡ x ∷ m)
  behind_first x l zero a h = absurd (omega arith)
  behind_first x l (suc i) a h = (set l i a, refl)

  within : (l : List A) (i : ℕ) (a : A) → get_elem? l i ≡ some a → i < length l
  within [] i a e = absurd (some-ne-none a (sym e))
  within (x ∷ xs) zero a e = omega arith
  within (x ∷ xs) (suc i) a e = let h = within xs i a e in omega arith

  first_alone : (a b : A) (i : ℕ) → get_elem? (a ∷ []) i ≡ some b → a ≡ b
  first_alone a b zero e = some-injective a b e
  first_alone a b (suc i) e = absurd (some-ne-none b (sym e))

  first_place_alone : (a b : A) (i : ℕ) → get_elem? (a ∷ []) i ≡ some b → i ≡ 0
  first_place_alone a b zero e = refl
  first_place_alone a b (suc i) e = absurd (some-ne-none b (sym e))

module _ {T K : Type 0} (fits : K → T → Type 0) (key : K) where
  abbrev St : Type 0
  St = State (Option T) (LockView K)

  abbrev M : Type 0
  M = Me (Option T) (LockView K)

  abbrev Knows : ℕ → ℕ → LockView K → Type 0
  Knows drawn served v = (v.key ≡ key) × Stands drawn served v.turn

  -- the seat can step to the word n
  abbrev Goes : St → ℕ → M → (M → Type 0) → ℕ → Type 0
  Goes s id me told n = (w : LockView K) × (a : Act (Option T)) × Valid s.homes me.1 a × IsQueue fits key (stepped s 0 n id me.1 w a) × told (w, carried_after me.1 a)

  has_of : (w u : LockView K) (n : ℕ) → w ≡ u → HasTicket u.turn n → HasTicket w.turn n
  has_of w u n e h = subst (λ (z : LockView K). HasTicket z.turn n) (sym e) h

  found : (s : St) → (r : IsQueue fits key s) → get_or s.words 0 0 ≡ word_of r.drawn r.served
  found s r = ap (λ (ws : List ℕ). get_or ws 0 0) r.word

  stored : (s : St) → (r : IsQueue fits key s) → (n : ℕ) → set s.words 0 n ≡ n ∷ r.bells
  stored s r n = ap (λ (ws : List ℕ). set ws 0 n) r.word

  -- the seat has a new view, the other seats still stand, and none of them has its ticket
  moved : (s : St) → IsQueue fits key s → (id : ℕ) (w : LockView K) (drawn served : ℕ) (bells words : List ℕ) (homes : List (maybe.Option (Option T))) → words ≡ word_of drawn served ∷ bells → 0 < drawn → served ≤ drawn → drawn < served + 4294967296
      → Knows drawn served w → ((j : ℕ) (u : LockView K) → j ≢ id → get_elem? s.views j ≡ some u → Stands drawn served u.turn)
      → ((j n : ℕ) (u : LockView K) → j ≢ id → get_elem? s.views j ≡ some u → HasTicket w.turn n → HasTicket u.turn n → ⊥)
      → IsHome fits key served homes (set s.views id w) ⊎ IsOut served homes (set s.views id w) → IsQueue fits key record { words = words; homes = homes; views = set s.views id w }
  moved s r id w drawn served bells words homes word begun behind few mine others alone value = record {
    drawn = drawn;
    served = served;
    bells = bells;
    word = word;
    begun = begun;
    behind = behind;
    few = few;
    knows = λ j u e. ⊎_elim (λ (t : (j ≡ id) × (w ≡ u)). subst (Knows drawn served) t.1 mine) (λ (t : (j ≢ id) × (get_elem? s.views j ≡ some u)). ((r.knows j u t.1).0, others j u t.0 t.1)) (at_set s.views id j w u e);
    apart = λ i j n u x e f has also. ⊎_elim
        (λ (t : (i ≡ id) × (w ≡ u)). ⊎_elim (λ (q : (j ≡ id) × (w ≡ x)). t.0 ∙ sym q.0) (λ (q : (j ≢ id) × (get_elem? s.views j ≡ some x)). absurd (alone j n x q.0 q.1 (has_of w u n t.1 has) also)) (at_set s.views id j w x f))
        (λ (t : (i ≢ id) × (get_elem? s.views i ≡ some u)). ⊎_elim (λ (q : (j ≡ id) × (w ≡ x)). absurd (alone i n u t.0 t.1 (has_of w x n q.1 also) has)) (λ (q : (j ≢ id) × (get_elem? s.views j ≡ some x)). r.apart i j n u x t.1 q.1 has also) (at_set s.views id j w x f))
        (at_set s.views id i w u e);
    value = value;
  }

  -- a step that changes nothing
  stays : (s : St) → IsQueue fits key s → (id : ℕ) (me : M) (told : M → Type 0) → get_elem? s.views id ≡ some me.0 → told me → Goes s id me told (get_or s.words 0 0)
  stays s r id me told at tells = let same : s.words ≡ set s.words 0 (get_or s.words 0 0) = r.word ∙ sym (ap (λ (ws : List ℕ). set ws 0 (get_or ws 0 0)) r.word) in
      (me.0, keeps, tt, subst (IsQueue fits key) (λ k. record { words = same k; homes = s.homes; views = sym (set_again s.views id me.0 at) k }) r, tells)

  -- a step on a bell, whatever it makes of it
  tolls : (slots id : ℕ) (me : M) (place : ℕ) (f : ℕ → ℕ) (told : ℕ → M → Type 0) → 0 < place → ((n : ℕ) → told n me) → Allows (IsQueue fits key) slots id me place f told
  tolls slots id me place f told beside tells s r wide at small = let n : ℕ = get_or s.words place 0 in let kept = behind_first (word_of r.drawn r.served) r.bells place (f n) beside in
      let r' : IsQueue fits key record { words = set s.words place (f n); homes = s.homes; views = s.views } = record {
        drawn = r.drawn;
        served = r.served;
        bells = kept.0;
        word = ap (λ (ws : List ℕ). set ws place (f n)) r.word ∙ kept.1;
        begun = r.begun;
        behind = r.behind;
        few = r.few;
        knows = r.knows;
        apart = r.apart;
        value = r.value;
      } in
      (me.0, keeps, tt, subst (IsQueue fits key) (λ k. record { words = set s.words place (f n); homes = s.homes; views = sym (set_again s.views id me.0 at) k }) r', tells n)

  pub listens : (slots id : ℕ) (me : M) (place : ℕ) → 0 < place → Allows (IsQueue fits key) slots id me place (λ n. bit_or n 1) (listened (step slots place 1 0 none) me)
  listens slots id me place beside = tolls slots id me place (λ n. bit_or n 1) (listened (step slots place 1 0 none) me) beside (λ n. (refl, sets_bit n))

  pub rings : (slots id : ℕ) (me : M) (place : ℕ) → 0 < place → Allows (IsQueue fits key) slots id me place (λ n. (n + 1) % 18446744073709551616) (rang (step slots place 1 0 none) me)
  rings slots id me place beside = tolls slots id me place (λ n. (n + 1) % 18446744073709551616) (rang (step slots place 1 0 none) me) beside (λ n. (refl, clears_bit n))

  -- a seat that holds nothing, and whose new view does not either, leaves the value where it is
  value_stays : (s : St) → (r : IsQueue fits key s) → (id : ℕ) (v w : LockView K) → get_elem? s.views id ≡ some v → ((n : ℕ) → v.turn ≢ Holds n) → ((n : ℕ) → w.turn ≢ Holds n)
      → IsHome fits key r.served s.homes (set s.views id w) ⊎ IsOut r.served s.homes (set s.views id w)
  value_stays s r id v w at was is = ⊎_elim
      (λ (h : IsHome fits key r.served s.homes s.views). inl (h.0, h.1, h.2, λ i n u e held. ⊎_elim (λ (t : (i ≡ id) × (w ≡ u)). is n (ap (λ (z : LockView K). z.turn) t.1 ∙ held)) (λ (t : (i ≢ id) × (get_elem? s.views i ≡ some u)). h.3 i n u t.1 held) (at_set s.views id i w u e)))
      (λ (o : IsOut r.served s.homes s.views). let who = o.1 in
      let other : who.0 ≢ id = λ e. was r.served (ap (λ (z : LockView K). z.turn) (some-injective v who.1 (sym at ∙ (ap (get_elem? s.views) (sym e) ∙ who.2))) ∙ who.3) in
      inr (o.0, (who.0, who.1, set_else s.views id who.0 w other ∙ who.2, who.3)))
      r.value

  pub comes : (slots : ℕ) → Enters (IsQueue fits key) slots 0 (λ n w. came {T = T} (step slots 0 0 0 none) (first_place key, []) n (w, []))
  comes slots s r wide small = let w : LockView K = place key Idle in (
    w,
    record {
      drawn = r.drawn;
      served = r.served;
      bells = r.bells;
      word = r.word;
      begun = r.begun;
      behind = r.behind;
      few = r.few;
      knows = λ i v e. ⊎_elim (λ (t : get_elem? s.views i ≡ some v). r.knows i v t) (λ (t : w ≡ v). subst (Knows r.drawn r.served) t (refl, tt)) (at_snoc s.views w v i e);
      apart = λ i j n v x e f has also. ⊎_elim
          (λ (t : get_elem? s.views i ≡ some v). ⊎_elim (λ (q : get_elem? s.views j ≡ some x). r.apart i j n v x t q has also) (λ (q : w ≡ x). absurd (has_of w x n q also)) (at_snoc s.views w x j f))
          (λ (t : w ≡ v). absurd (has_of w v n t has)) (at_snoc s.views w v i e);
      value = ⊎_elim
          (λ (h : IsHome fits key r.served s.homes s.views). inl (h.0, h.1, h.2, λ i n v e held. ⊎_elim (λ (t : get_elem? s.views i ≡ some v). h.3 i n v t held) (λ (t : w ≡ v). let clash : Idle ≡ Holds n = ap (λ (z : LockView K). z.turn) t ∙ held in cc) (at_snoc s.views w v i e)))
          (λ (o : IsOut r.served s.homes s.views). inr (o.0, (o.1.0, o.1.1, at_longer s.views (w ∷ []) o.1.0 o.1.1 o.1.2, o.1.3)))
          r.value;
    },
    (refl, refl),
  )

  pub draws : (slots id : ℕ) (me : M) (old new : ℕ) → me.0.turn ≡ Idle → (old / 4294967296 + 1) % 4294967296 ≢ old % 4294967296 → new ≡ (old + 4294967296) % 18446744073709551616
      → Allows (IsQueue fits key) slots id me 0 (λ n. either (eqb n old) new n) (drew (step slots 0 old new none) me)
  draws slots id me old new idle room more s r wide at small = let n : ℕ = get_or s.words 0 0 in let d : ℕ = r.drawn in let f : ℕ = r.served in let told = drew (step slots 0 old new none) me n in exchanged n old new (Goes s id me told)
      (λ hit. let is : old ≡ word_of d f = sym hit ∙ found s r in let w : LockView K = place me.0.key (Waits d) in
      let left = has_room d f r.behind r.few (subst (λ (z : ℕ). (z / 4294967296 + 1) % 4294967296 ≢ z % 4294967296) is room) in
      let becomes : new ≡ word_of (d + 1) f = more ∙ (ap (λ (z : ℕ). (z + 4294967296) % 18446744073709551616) is ∙ one_drawn d f) in
      let behind : f ≤ d = r.behind in (
        w,
        keeps,
        tt,
        moved s r id w (d + 1) f r.bells (set s.words 0 new) s.homes (stored s r new ∙ ap (λ (z : ℕ). z ∷ r.bells) becomes) (omega arith) (omega arith) left ((r.knows id me.0 at).0, (behind, omega arith))
            (λ j u other e. more_drawn d f u.turn (r.knows j u e).1) (λ j k u other e mine has. let low = is_drawn d f k u.turn (r.knows j u e).1 has in let same : d ≡ k = mine in omega arith)
            (value_stays s r id me.0 w at (λ k held. let clash : Idle ≡ Holds k = sym idle ∙ held in cc) (λ k clash. cc)),
        ((λ _. (d, r.begun, ap (λ (z : ℕ). z / 4294967296) (found s r) ∙ next_half d f, refl)), λ miss. absurd (miss hit)),
      ))
      (λ miss. stays s r id me told at ((λ hit. absurd (miss hit)), λ _. refl))

  -- the seat whose ticket is served takes what is in the slot
  takes_slot : (s : St) → (r : IsQueue fits key s) → (id t : ℕ) (me : M) (told : M → Type 0) → get_elem? s.views id ≡ some me.0 → me.0.turn ≡ Waits t → t ≡ r.served
      → ((y : Option T) → HasComeTo fits me.0.key t y → told (place me.0.key (Holds t), (0, y) ∷ me.1)) → Goes s id me told (get_or s.words 0 0)
  takes_slot s r id t me told at waits is tells = let f : ℕ = r.served in let w : LockView K = place me.0.key (Holds t) in let known = r.knows id me.0 at in let mine = waits_with me.0.turn t waits in
      let drawn : t < r.drawn = is_drawn r.drawn f t me.0.turn known.1 mine in ⊎_elim
      (λ (h : IsHome fits key f s.homes s.views). let y : Option T = h.0 in let come : HasComeTo fits me.0.key t y = subst (λ (z : K × ℕ). HasComeTo fits z.0 z.1 y) (λ k. (sym known.0 k, sym is k)) h.2 in (
        w,
        takes 0 y,
        ap (λ (l : List (maybe.Option (Option T))). get_elem? l 0) h.1,
        moved s r id w r.drawn f r.bells (set s.words 0 (get_or s.words 0 0)) (set s.homes 0 none) (ap (λ (ws : List ℕ). set ws 0 (get_or ws 0 0)) r.word) r.begun r.behind r.few (known.0, (is, drawn)) (λ j u other e. (r.knows j u e).1)
            (λ j n u other e has also. other (sym (r.apart id j n me.0 u at e (subst (λ (z : ℕ). HasTicket me.0.turn z) has mine) also)))
            (inr (ap (λ (l : List (maybe.Option (Option T))). set l 0 none) h.1, (id, w, set_here s.views id w (within s.views id me.0 at), ap (λ (z : ℕ). Holds z) is))),
        tells y come,
      ))
      (λ (o : IsOut f s.homes s.views). let who = o.1 in let same : id ≡ who.0 = r.apart id who.0 t me.0 who.1 at who.2 mine (holds_with who.1.turn t (who.3 ∙ ap (λ (z : ℕ). Holds z) (sym is))) in
      let one : me.0 ≡ who.1 = some-injective me.0 who.1 (sym at ∙ (ap (get_elem? s.views) same ∙ who.2)) in let clash : Waits t ≡ Holds f = sym waits ∙ (ap (λ (z : LockView K). z.turn) one ∙ who.3) in absurd (cc))
      r.value

  pub begins : (slots id : ℕ) (me : M) → me.0.turn ≡ Waits 0 → Allows (IsQueue fits key) slots id me 0 (λ n. n) (began (step slots 0 0 0 none) me)
  begins slots id me waits s r wide at small =
      let low : r.served ≤ 0 = (subst (Stands r.drawn r.served) waits (r.knows id me.0 at).1).0 in
      takes_slot s r id 0 me (began (step slots 0 0 0 none) me (get_or s.words 0 0)) at waits (omega arith) (λ y come. λ k. (place me.0.key (Holds 0), (0, come.0 refl k) ∷ me.1))

  pub takes_turn : (slots id t : ℕ) (me : M) → me.0.turn ≡ Waits t → Allows (IsQueue fits key) slots id me 0 (λ n. n) (took fits (step slots 0 0 0 none) me)
  takes_turn slots id t me waits s r wide at small = let n : ℕ = get_or s.words 0 0 in let told = took fits (step slots 0 0 0 none) me n in
      let stands : (r.served ≤ t) × (t < r.drawn) = subst (Stands r.drawn r.served) waits (r.knows id me.0 at).1 in let is : ticket_of me.0.turn ≡ t = ap ticket_of waits in
      dite (ℕ_discrete (n % 4294967296) (ticket_of me.0.turn % 4294967296))
      (λ here. let same : r.served ≡ t = same_ticket r.drawn r.served t stands.0 stands.1 r.few (sym (served_half r.drawn r.served) ∙ (ap (λ (z : ℕ). z % 4294967296) (sym (found s r)) ∙ (here ∙ ap (λ (z : ℕ). z % 4294967296) is))) in
      takes_slot s r id t me told at waits (sym same)
      (λ y come. ((λ _. (y, subst (λ (z : ℕ). HasComeTo fits me.0.key z y) (sym is) come, λ k. (place me.0.key (Holds (sym is k)), (0, y) ∷ me.1))), λ other. absurd (other here))))
      (λ elsewhere. stays s r id me told at ((λ here. absurd (elsewhere here)), λ _. refl))

  pub serves : (slots id t ticket k : ℕ) (me : M) (x : T) → slots ≡ 1 → me.0.turn ≡ Holds t → me.1 ≡ (0, Some x) ∷ [] → ticket ≡ t % 4294967296 → fits key x → ServesNext ticket k
      → Allows (IsQueue fits key) slots id me 0 (λ n. (n + k) % 18446744073709551616) (gave (step slots 0 k 0 none) me)
  serves slots id t ticket k me x one holds carried low fit law s r wide at small = let d : ℕ = r.drawn in let f : ℕ = r.served in let w : LockView K = place me.0.key Idle in
      let known = r.knows id me.0 at in let stands : (t ≡ f) × (t < d) = subst (Stands d f) holds known.1 in let same : t ≡ f = stands.0 in
      let mine : HasTicket me.0.turn f = holds_with me.0.turn f (holds ∙ ap (λ (z : ℕ). Holds z) same) in
      let others : (j : ℕ) (u : LockView K) → j ≢ id → get_elem? s.views j ≡ some u → HasTicket u.turn f → ⊥ = λ j u other e has. other (r.apart j id f u me.0 e at has mine) in
      let law' : ServesNext (f % 4294967296) k = subst (λ (z : ℕ). ServesNext z k) (low ∙ ap (λ (z : ℕ). z % 4294967296) same) law in
      let new : ℕ = (get_or s.words 0 0 + k) % 18446744073709551616 in
      let becomes : new ≡ word_of d (f + 1) = ap (λ (z : ℕ). (z + k) % 18446744073709551616) (found s r) ∙ one_served d f k law' in
      let home : put_back s.homes me.1 ≡ some (Some x) ∷ [] = ap (put_back s.homes) carried ∙ one_only s.homes (some (Some x)) (wide ∙ one) in let few : d < f + 4294967296 = r.few in (
        w,
        gives,
        tt,
        moved s r id w d (f + 1) r.bells (set s.words 0 new) (put_back s.homes me.1) (stored s r new ∙ ap (λ (z : ℕ). z ∷ r.bells) becomes) r.begun (omega arith) (omega arith) (known.0, tt)
            (λ j u other e. one_served_less d f u.turn (r.knows j u e).1 (others j u other e)) (λ j n u other e has also. has)
            (inl (
              Some x,
              home,
              ((λ e. absurd (omega arith)), λ _. (x, refl, fit)),
              λ i n u e held. ⊎_elim (λ (z : (i ≡ id) × (w ≡ u)). let clash : Idle ≡ Holds n = ap (λ (p : LockView K). p.turn) z.1 ∙ held in cc)
                  (λ (z : (i ≢ id) × (get_elem? s.views i ≡ some u)). let now : (n ≡ f) × (n < d) = subst (Stands d f) held (r.knows i u z.1).1 in others i u z.0 z.1 (holds_with u.turn f (held ∙ ap (λ (m : ℕ). Holds m) now.0)))
                  (at_set s.views id i w u e),
            )),
        (refl, refl, ap (λ (z : ℕ). z % 4294967296) (found s r) ∙ (served_half d f ∙ ap (λ (z : ℕ). z % 4294967296) (sym (ap ticket_of holds ∙ same)))),
      )

  pub opens : (words bells : List ℕ) → words ≡ word_of 1 0 ∷ bells → IsQueue fits key (opening words (replicate 1 None) (first_place key))
  opens words bells is = record {
    drawn = 1;
    served = 0;
    bells = bells;
    word = is;
    begun = omega arith;
    behind = omega arith;
    few = omega arith;
    knows = λ i v e. subst (Knows 1 0) (first_alone (first_place key) v i e) (refl, (omega arith, omega arith));
    apart = λ i j n v w e f has also. first_place_alone (first_place key) v i e ∙ sym (first_place_alone (first_place key) w j f);
    value = inl (None, refl, ((λ _. refl), λ l. absurd (omega arith)), λ i n v e held. let clash : Waits 0 ≡ Holds n = ap (λ (z : LockView K). z.turn) (first_alone (first_place key) v i e) ∙ held in cc);
  }

  pub one_holder : (s : St) (i j m n : ℕ) (v w : LockView K) → IsQueue fits key s → get_elem? s.views i ≡ some v → get_elem? s.views j ≡ some w → v.turn ≡ Holds m → w.turn ≡ Holds n → i ≡ j
  one_holder s i j m n v w r at also a b = let one : (m ≡ r.served) × (m < r.drawn) = subst (Stands r.drawn r.served) a (r.knows i v at).1 in let two : (n ≡ r.served) × (n < r.drawn) = subst (Stands r.drawn r.served) b (r.knows j w also).1 in
      r.apart i j m v w at also (holds_with v.turn m a) (holds_with w.turn m (b ∙ ap (λ (z : ℕ). Holds z) (two.0 ∙ sym one.0)))

  pub held_is_out : (s : St) (i n : ℕ) (v : LockView K) → IsQueue fits key s → get_elem? s.views i ≡ some v → v.turn ≡ Holds n → s.homes ≡ none ∷ []
  held_is_out s i n v r at a = ⊎_elim (λ (h : IsHome fits key r.served s.homes s.views). absurd (h.3 i n v at a)) (λ (o : IsOut r.served s.homes s.views). o.0) r.value

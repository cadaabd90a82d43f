-- Seats that are split and joined keep the rule of the stage, and the rule holds at the start.
use Rattle.std.proofs.Common.{◌≡◌, ◌≢◌, ◌⊎◌, ℕ, zero, suc, ◌+◌, ◌*◌, ◌<◌, ◌≤◌, max, Bool, true, false, List, [], ◌∷◌, ◌++◌, length, replicate, get_or, set, sym, refl, ap, ◌∙◌, subst, inl, inr, ⊎_elim, arith, le_refl, true≢false}
use mathlib.Core.Option.{none, some, some-injective, some-ne-none}
use lib.ListN.{get_elem?, length-replicate, get_or-replicate}
use Rattle.atomic_table.specs.Table.{step, keeps, Allows, Splits, Joins, opening}
use Rattle.atomic_table.proofs.Lists.{at_set, set_else, at_snoc}
use Rattle.lc_stage.specs.declared.stage_view.Reservation.{Reservation}
use Rattle.lc_stage.specs.declared.stage_view.StageView.{StageView}
use Rattle.lc_stage.specs.declared.stage_view.Load.{Load}
use Rattle.lc_stage.specs.Staging.{word_of, covered, hears, note_of, joining, Owns, InLog, Has, TakenInRound, EndedRow, Known, Staged, newcomer, flusher, agreed, with_commit, no_commit, only_commit}
use Rattle.lc_stage.proofs.Counting.{total_set, total_snoc, covered_append, below_zero}
use Rattle.lc_stage.proofs.Calls.{no_records}
use Rattle.lc_stage.proofs.Rows.{row_fits}
use Rattle.lc_stage.proofs.Keeps.{St, M, SameLog, SameEnded, same_taken, ended_back, at_here, at_place, has_set, loads, quiet, loads_back, honest_back}

none_there : (i : ℕ) (r : Reservation) → get_elem? [] i ≡ some r → ⊥
none_there i r e = some-ne-none r (sym e)

first_stays : (vs : List StageView) (id : ℕ) (v n f : StageView) → get_elem? vs id ≡ some v → get_elem? (vs ++ n ∷ []) 0 ≡ some f → get_elem? vs 0 ≡ some f
first_stays [] id v n f at e = absurd (some-ne-none v (sym at))
first_stays (x ∷ xs) id v n f at e = e

no_first : (vs : List StageView) (id : ℕ) (v n f : StageView) (j : ℕ) → get_elem? vs id ≡ some v → get_elem? (vs ++ n ∷ []) j ≡ some f → (get_elem? vs j ≡ some f) ⊎ ((j ≢ 0) × (n ≡ f))
no_first [] id v n f j at e = absurd (some-ne-none v (sym at))
no_first (x ∷ xs) id v n f zero at e = inl e
no_first (x ∷ xs) id v n f (suc j) at e = ⊎_elim (λ (h : get_elem? (x ∷ xs) (suc j) ≡ some f). inl h) (λ (h : n ≡ f). inr ((λ z. omega arith), h)) (at_snoc (x ∷ xs) n f (suc j) e)

at_append : (l m : List Reservation) (i : ℕ) (r : Reservation) → get_elem? (l ++ m) i ≡ some r → ((k : ℕ) × (get_elem? l k ≡ some r)) ⊎ ((k : ℕ) × (get_elem? m k ≡ some r))
at_append [] m i r e = inr (i, e)
at_append (x ∷ xs) m zero r e = inl (zero, e)
at_append (x ∷ xs) m (suc i) r e = ⊎_elim (λ (t : (k : ℕ) × (get_elem? xs k ≡ some r)). inl (suc t.0, t.1)) (λ (t : (k : ℕ) × (get_elem? m k ≡ some r)). inr t) (at_append xs m i r e)

-- the reservations of other views that are among those of these are in what was taken as they were
over : (room : ℕ) (ws : List ℕ) (vs us : List StageView) (round offset : ℕ) (sealed : Bool) (cleared : ℕ) (f : StageView) → ((r : Reservation) → Has us r → Has vs r) → TakenInRound room ws vs round offset sealed cleared f → TakenInRound room ws us round offset sealed cleared f
over room ws vs us round offset sealed cleared f old t = record {
  rounds = t.rounds;
  reach = t.reach;
  stands = t.stands;
  present = λ r h. t.present r (old r h);
  before = λ r h. t.before r (old r h);
  stable = t.stable;
  knows_seal = t.knows_seal;
  knows_cleared = t.knows_cleared;
  knows_end = t.knows_end;
  whole = t.whole;
  clears = t.clears;
}

-- the seat id, with the view v, gives its reservations as w and a new seat's view n share them
parted : (room : ℕ) (s : St) → (rule : Staged room s) → (id : ℕ) (v w n : StageView) → get_elem? s.views id ≡ some v → ((p : ℕ) → covered rule.round p w.mine + covered rule.round p n.mine ≡ covered rule.round p v.mine)
    → ((i : ℕ) (r : Reservation) → (get_elem? w.mine i ≡ some r) ⊎ (get_elem? n.mine i ≡ some r) → Has s.views r) → SameLog v w → SameEnded v w → Known s.words id w → ((j : ℕ) → j ≢ 0 → Known s.words j n) → w.loads ≡ v.loads
    → Staged room record { words = s.words; homes = s.homes; views = set s.views id w ++ n ∷ [] }
parted room s rule id v w n at count mine taken same_before known fresh same_loads = let vs : List StageView = set s.views id w in let here : get_elem? vs id ≡ some w = at_here s.views id v w at in
    let old : (r : Reservation) → Has (vs ++ n ∷ []) r → Has s.views r = λ r h. ⊎_elim
    (λ (e : get_elem? vs h.0 ≡ some h.1). ⊎_elim (λ (t : (i : ℕ) × (get_elem? w.mine i ≡ some r)). mine t.0 r (inl t.1))
    (λ (t : (j : ℕ) × (u : StageView) × (i : ℕ) × (j ≢ id) × (get_elem? s.views j ≡ some u) × (get_elem? u.mine i ≡ some r)). (t.0, t.1, t.2, t.4, t.5)) (has_set s.views id w r (h.0, h.1, h.2, e, h.4)))
    (λ (e : n ≡ h.1). mine h.2 r (inr (subst (λ (z : StageView). get_elem? z.mine h.2 ≡ some r) (sym e) h.4))) (at_snoc vs n h.1 h.0 h.3) in record {
      round = rule.round;
      offset = rule.offset;
      sealed = rule.sealed;
      cleared = rule.cleared;
      ended = rule.ended;
      ended_cleared = rule.ended_cleared;
      uncleared = rule.uncleared;
      wide = rule.wide;
      tail_is = rule.tail_is;
      fits = rule.fits;
      zeros = rule.zeros;
      tiled = λ p. let c = count p in let t = rule.tiled p in let e = total_set (at_place rule.round p) s.views id v w at in let g = total_snoc (at_place rule.round p) vs n in omega arith;
      sound = λ r h. rule.sound r (old r h);
      empty = rule.empty;
      known = λ j u e. ⊎_elim
          (λ (t : get_elem? vs j ≡ some u). ⊎_elim (λ (y : (j ≡ id) × (w ≡ u)). subst (λ (z : ℕ × StageView). Known s.words z.0 z.1) (λ i. (sym y.0 i, y.1 i)) known) (λ (y : (j ≢ id) × (get_elem? s.views j ≡ some u)). rule.known j u y.1) (at_set s.views id j w u t))
          (λ (t : (j ≢ 0) × (n ≡ u)). subst (Known s.words j) t.1 (fresh j t.0)) (no_first vs id w n u j here e);
      took = λ f e. let e' = first_stays vs id w n f here e in ⊎_elim
          (λ (y : (0 ≡ id) × (w ≡ f)). subst (λ (z : StageView). TakenInRound room s.words (vs ++ n ∷ []) rule.round rule.offset rule.sealed rule.cleared z) y.1
          (same_taken room s.words (vs ++ n ∷ []) rule.round rule.offset rule.sealed rule.cleared v w taken (over room s.words s.views (vs ++ n ∷ []) rule.round rule.offset rule.sealed rule.cleared v old (rule.took v (subst (λ (z : ℕ). get_elem? s.views z ≡ some v) (sym y.0) at)))))
          (λ (y : (0 ≢ id) × (get_elem? s.views 0 ≡ some f)). over room s.words s.views (vs ++ n ∷ []) rule.round rule.offset rule.sealed rule.cleared f old (rule.took f y.1)) (at_set s.views id 0 w f e');
      before = λ f e. ended_back room s rule id v w s.words at same_before (λ _ _. refl) (le_refl (get_or s.words 1 0)) f (first_stays vs id w n f here e);
      honest = λ f e. let g = loads_back s.views id v w f at same_loads (first_stays vs id w n f here e) in let k : length f.loads ≡ length g.0.loads = ap (λ (z : List Load). length z) g.2 in
          ((λ j p l r h. (rule.honest g.0 g.1).0 j p (ap (λ (z : List Load). get_elem? z j) (sym g.2) ∙ l) r (old r h)), λ r h shut. let y = (rule.honest g.0 g.1).1 r (old r h) shut in omega arith);
    }

new_known : (s : St) (room j : ℕ) → j ≢ 0 → Known s.words j (newcomer room)
new_known s room j other = record { seen = omega arith; durable = omega arith; published = omega arith; heard = omega arith; stored = λ t. absurd (true≢false (sym t)); flusher = λ t. absurd (true≢false (sym t)); first = λ e. absurd (other e); receipts = λ i r e. absurd (none_there i r e) }

-- a new committer, who has nothing
pub splits : (room id : ℕ) (v : StageView) → Splits (Staged room) id v v (newcomer v.room)
splits room id v s rule at = let k = rule.known id v at in parted room s rule id v v (newcomer v.room) at (λ p. omega arith)
    (λ i r h. ⊎_elim (λ (e : get_elem? v.mine i ≡ some r). (id, v, i, at, e)) (λ (e : get_elem? [] i ≡ some r). absurd (none_there i r e)) h) (refl, refl, refl, refl, refl) (refl, refl, refl) k (new_known s v.room) refl

-- a seat that carries the tail which another saw
pub notes : (room id : ℕ) (v : StageView) → Splits (Staged room) id v v (note_of v)
notes room id v s rule at = let k = rule.known id v at in parted room s rule id v v (note_of v) at (λ p. omega arith)
    (λ i r h. ⊎_elim (λ (e : get_elem? v.mine i ≡ some r). (id, v, i, at, e)) (λ (e : get_elem? [] i ≡ some r). absurd (none_there i r e)) h) (refl, refl, refl, refl, refl) (refl, refl, refl) k
    (λ j other. record { seen = k.seen; durable = omega arith; published = omega arith; heard = omega arith; stored = λ t. absurd (true≢false (sym t)); flusher = λ t. absurd (true≢false (sym t)); first = λ e. absurd (other e); receipts = λ i r e. absurd (none_there i r e) }) refl

-- a committer's view goes from the flusher's seat to a new one
pub parts : (room id : ℕ) (v : StageView) → Splits (Staged room) id v (no_commit v) (only_commit v)
parts room id v s rule at = let k = rule.known id v at in parted room s rule id v (no_commit v) (only_commit v) at (λ p. omega arith)
    (λ i r h. ⊎_elim (λ (e : get_elem? [] i ≡ some r). absurd (none_there i r e)) (λ (e : get_elem? v.mine i ≡ some r). (id, v, i, at, e)) h) (refl, refl, refl, refl, refl) (refl, refl, refl)
    record { seen = omega arith; durable = omega arith; receipts = λ i r e. absurd (none_there i r e); published = k.published; heard = k.heard; stored = k.stored; flusher = k.flusher; first = k.first }
    (λ j other. record { seen = k.seen; durable = k.durable; published = omega arith; heard = omega arith; stored = λ t. absurd (true≢false (sym t)); flusher = λ t. absurd (true≢false (sym t)); first = λ e. absurd (other e); receipts = k.receipts }) refl

-- the seat id takes in what the other has, who is a committer
merged : (room : ℕ) (s : St) → (rule : Staged room s) → (id : ℕ) (v : StageView) (other : ℕ) (w b : StageView) → get_elem? s.views id ≡ some v → other ≢ id → get_elem? (set s.views id b) other ≡ some w → w.flushes ≡ false
    → ((p : ℕ) → covered rule.round p b.mine ≡ covered rule.round p v.mine + covered rule.round p w.mine) → ((i : ℕ) (r : Reservation) → get_elem? b.mine i ≡ some r → ((k : ℕ) × (get_elem? v.mine k ≡ some r)) ⊎ ((k : ℕ) × (get_elem? w.mine k ≡ some r)))
    → SameLog v b → SameEnded v b → Known s.words id b → b.loads ≡ v.loads → Staged room record { words = s.words; homes = s.homes; views = set (set s.views id b) other (newcomer 0) }
merged room s rule id v other w b at apart there commits count mine taken same_before known same_loads = let vs : List StageView = set s.views id b in let n : StageView = newcomer 0 in
    let was : get_elem? s.views other ≡ some w = sym (set_else s.views id other b apart) ∙ there in
    let far : other ≢ 0 = λ z. true≢false (sym ((rule.known other w was).first z) ∙ commits) in
    let old : (r : Reservation) → Has (set vs other n) r → Has s.views r = λ r h. ⊎_elim (λ (t : (i : ℕ) × (get_elem? [] i ≡ some r)). absurd (none_there t.0 r t.1))
    (λ (t : (j : ℕ) × (u : StageView) × (i : ℕ) × (j ≢ other) × (get_elem? vs j ≡ some u) × (get_elem? u.mine i ≡ some r)). ⊎_elim
    (λ (y : (i : ℕ) × (get_elem? b.mine i ≡ some r)). ⊎_elim (λ (z : (k : ℕ) × (get_elem? v.mine k ≡ some r)). (id, v, z.0, at, z.1)) (λ (z : (k : ℕ) × (get_elem? w.mine k ≡ some r)). (other, w, z.0, was, z.1)) (mine y.0 r y.1))
    (λ (y : (j : ℕ) × (u : StageView) × (i : ℕ) × (j ≢ id) × (get_elem? s.views j ≡ some u) × (get_elem? u.mine i ≡ some r)). (y.0, y.1, y.2, y.4, y.5)) (has_set s.views id b r (t.0, t.1, t.2, t.4, t.5)))
    (has_set vs other n r h) in record {
      round = rule.round;
      offset = rule.offset;
      sealed = rule.sealed;
      cleared = rule.cleared;
      ended = rule.ended;
      ended_cleared = rule.ended_cleared;
      uncleared = rule.uncleared;
      wide = rule.wide;
      tail_is = rule.tail_is;
      fits = rule.fits;
      zeros = rule.zeros;
      tiled = λ p. let c = count p in let t = rule.tiled p in let e = total_set (at_place rule.round p) s.views id v b at in let g = total_set (at_place rule.round p) vs other w n there in omega arith;
      sound = λ r h. rule.sound r (old r h);
      empty = rule.empty;
      known = λ j u e. ⊎_elim
          (λ (t : (j ≡ other) × (n ≡ u)). subst (λ (z : ℕ × StageView). Known s.words z.0 z.1) (λ i. (sym t.0 i, t.1 i)) (new_known s 0 other far))
          (λ (t : (j ≢ other) × (get_elem? vs j ≡ some u)). ⊎_elim (λ (y : (j ≡ id) × (b ≡ u)). subst (λ (z : ℕ × StageView). Known s.words z.0 z.1) (λ i. (sym y.0 i, y.1 i)) known)
          (λ (y : (j ≢ id) × (get_elem? s.views j ≡ some u)). rule.known j u y.1) (at_set s.views id j b u t.1)) (at_set vs other j n u e);
      took = λ f e. ⊎_elim
          (λ (t : (0 ≡ other) × (n ≡ f)). absurd (far (sym t.0)))
          (λ (t : (0 ≢ other) × (get_elem? vs 0 ≡ some f)). ⊎_elim
          (λ (y : (0 ≡ id) × (b ≡ f)). subst (λ (z : StageView). TakenInRound room s.words (set vs other n) rule.round rule.offset rule.sealed rule.cleared z) y.1
          (same_taken room s.words (set vs other n) rule.round rule.offset rule.sealed rule.cleared v b taken (over room s.words s.views (set vs other n) rule.round rule.offset rule.sealed rule.cleared v old (rule.took v (subst (λ (z : ℕ). get_elem? s.views z ≡ some v) (sym y.0) at)))))
          (λ (y : (0 ≢ id) × (get_elem? s.views 0 ≡ some f)). over room s.words s.views (set vs other n) rule.round rule.offset rule.sealed rule.cleared f old (rule.took f y.1))
          (at_set s.views id 0 b f t.1)) (at_set vs other 0 n f e);
      before = λ f e. ⊎_elim (λ (t : (0 ≡ other) × (n ≡ f)). absurd (far (sym t.0)))
          (λ (t : (0 ≢ other) × (get_elem? vs 0 ≡ some f)). ended_back room s rule id v b s.words at same_before (λ _ _. refl) (le_refl (get_or s.words 1 0)) f t.1) (at_set vs other 0 n f e);
      honest = λ f e. ⊎_elim (λ (t : (0 ≡ other) × (n ≡ f)). absurd (far (sym t.0)))
          (λ (t : (0 ≢ other) × (get_elem? vs 0 ≡ some f)). let g = loads_back s.views id v b f at same_loads t.1 in let k : length f.loads ≡ length g.0.loads = ap (λ (z : List Load). length z) g.2 in
          ((λ j p l r h. (rule.honest g.0 g.1).0 j p (ap (λ (z : List Load). get_elem? z j) (sym g.2) ∙ l) r (old r h)), λ r h shut. let y = (rule.honest g.0 g.1).1 r (old r h) shut in omega arith)) (at_set vs other 0 n f e);
    }

owns_left : (xs ys : List Reservation) (r : Reservation) (i : ℕ) → get_elem? xs i ≡ some r → Owns (xs ++ ys) r
owns_left [] ys r i e = absurd (none_there i r e)
owns_left (x ∷ xs) ys r zero e = (zero, e)
owns_left (x ∷ xs) ys r (suc i) e = let t = owns_left xs ys r i e in (suc t.0, t.1)

owns_right : (xs ys : List Reservation) (r : Reservation) → Owns ys r → Owns (xs ++ ys) r
owns_right [] ys r h = h
owns_right (x ∷ xs) ys r h = let t = owns_right xs ys r h in (suc t.0, t.1)

pub joins : (room id : ℕ) (v : StageView) (other : ℕ) (w : StageView) → w.flushes ≡ false → Joins (Staged room) id v other w (joining v w) (newcomer 0)
joins room id v other w commits s rule at apart there = let b : StageView = joining v w in let k = rule.known id v at in let was : get_elem? s.views other ≡ some w = sym (set_else s.views id other b apart) ∙ there in let c = rule.known other w was in merged room s rule id v other w b at apart there commits
    (λ p. covered_append rule.round p v.mine w.mine) (λ i r e. at_append v.mine w.mine i r e) (refl, refl, refl, refl, refl) (refl, refl, refl) record {
      seen = k.seen;
      durable = k.durable;
      published = k.published;
      heard = k.heard;
      receipts = λ i r e. ⊎_elim (λ (t : (k : ℕ) × (get_elem? v.receipts k ≡ some r)). let x = k.receipts t.0 r t.1 in (owns_left v.mine w.mine r x.0.0 x.0.1, x.1, x.2))
          (λ (t : (k : ℕ) × (get_elem? w.receipts k ≡ some r)). let x = c.receipts t.0 r t.1 in (owns_right v.mine w.mine r x.0, x.1, x.2)) (at_append v.receipts w.receipts i r e);
      stored = k.stored;
      flusher = k.flusher;
      first = k.first;
    } refl

pub meets : (room id : ℕ) (v : StageView) (other : ℕ) (w : StageView) → v.mine ≡ [] → w.flushes ≡ false → Joins (Staged room) id v other w (with_commit v w) (newcomer 0)
meets room id v other w none_own commits s rule at apart there = let b : StageView = with_commit v w in let k = rule.known id v at in let was : get_elem? s.views other ≡ some w = sym (set_else s.views id other b apart) ∙ there in let c = rule.known other w was in
    merged room s rule id v other w b at apart there commits
    (λ p. let e : covered rule.round p v.mine ≡ 0 = ap (covered rule.round p) none_own in omega arith) (λ i r e. inr (i, e)) (refl, refl, refl, refl, refl) (refl, refl, refl) record { seen = c.seen; durable = c.durable; published = k.published; heard = k.heard; receipts = c.receipts; stored = k.stored; flusher = k.flusher; first = k.first } refl

-- the flusher is told of a tail
pub tells : (room id : ℕ) (v : StageView) (other : ℕ) (w : StageView) → w.mine ≡ [] → w.flushes ≡ false → Joins (Staged room) id v other w (hears (max v.heard w.seen) v) (newcomer 0)
tells room id v other w none_own commits s rule at apart there = let b : StageView = hears (max v.heard w.seen) v in let k = rule.known id v at in let was : get_elem? s.views other ≡ some w = sym (set_else s.views id other b apart) ∙ there in let c = rule.known other w was in
    let mine = k.heard in let theirs = c.seen in
    merged room s rule id v other w b at apart there commits
    (λ p. let e : covered rule.round p w.mine ≡ 0 = ap (covered rule.round p) none_own in omega arith) (λ i r e. inl (i, e)) (refl, refl, refl, refl, refl) (refl, refl, refl)
    record { seen = k.seen; durable = k.durable; published = k.published; heard = omega arith; receipts = k.receipts; stored = k.stored; flusher = k.flusher; first = k.first } refl

-- one seat with both parts learns that they agree
pub agrees : (room slots id : ℕ) (me : M) → me.0.flushes ≡ true → Allows (Staged room) slots id me 0 (λ n. n) (agreed (step slots 0 0 0 none) me)
agrees room slots id me flushes s rule _ at _ = let f : StageView = me.0 in let k = rule.known id f at in let first : id ≡ 0 = k.flusher flushes in let at0 : get_elem? s.views 0 ≡ some f = subst (λ (z : ℕ). get_elem? s.views z ≡ some f) first at in
    let t = rule.took f at0 in let low = t.stable in let seen = k.durable in let stored = k.stored flushes in let count = t.rounds in (
      f,
      keeps,
      tt,
      loads room s 0 id f (quiet room s rule id f f at refl (refl, refl, refl, refl, refl) (refl, refl, refl) k (honest_back room s rule id f f at refl refl)) me,
      (
        refl,
        refl,
        record {
          published = omega arith;
          taken = omega arith;
          staged = λ r o. let has : Has s.views r = (id, f, o.0, at, o.1) in let sound = rule.sound r has in let top = sound.of_round in
              (omega arith, (λ here. t.present r has (here ∙ count)), (λ l. t.before r has (omega arith)), sound.shut);
          received = λ r o. let x = k.receipts o.0 r o.1 in let y = x.2 in let has : Has s.views r = (id, f, x.0.0, at, x.0.1) in let some_words = (rule.sound r has).filled in let top = (rule.sound r has).of_round in
              (x.0, x.1, omega arith, omega arith, (λ here. ⊎_elim (λ (z : InLog f.taken r). z) (λ (z : length f.taken ≤ r.place). absurd (omega arith)) (t.present r has (here ∙ count))), λ l. t.before r has (omega arith));
        },
      ),
    )

nobody : (room id : ℕ) (v : StageView) (i : ℕ) (r : Reservation) → get_elem? (flusher room ∷ []) id ≡ some v → get_elem? v.mine i ≡ some r → ⊥
nobody room zero v i r e h = none_there i r (subst (λ (z : StageView). get_elem? z.mine i ≡ some r) (sym (some-injective (flusher room) v e)) h)
nobody room (suc id) v i r e h = some-ne-none v (sym e)

known_first : (room : ℕ) (ws : List ℕ) (id : ℕ) (v : StageView) → get_or ws 1 0 ≡ 0 → get_elem? (flusher room ∷ []) id ≡ some v → Known ws id v
known_first room ws zero v low e = subst (Known ws zero) (some-injective (flusher room) v e) record { seen = omega arith; durable = omega arith; published = omega arith; heard = omega arith; receipts = λ i r e. absurd (none_there i r e); stored = λ _. low; flusher = λ _. refl; first = λ _. refl }
known_first room ws (suc id) v low e = absurd (some-ne-none v (sym e))

-- the start: zeros, and the flusher alone
pub starts : (room : ℕ) → room < 32768 → Staged room (opening (replicate (2 * room + 2) 0) [] (flusher room))
starts room narrow = let ws : List ℕ = replicate (2 * room + 2) 0 in let at0 : (i : ℕ) → i < 2 * room + 2 → get_or ws i 0 ≡ 0 = λ i l. get_or-replicate (2 * room + 2) i 0 0 l in let even = row_fits room 0 in let odd = row_fits room 1 in let top = at0 0 (omega arith) in let low = at0 1 (omega arith) in
    let alone : (r : Reservation) → Has (flusher room ∷ []) r → ⊥ = λ r h. nobody room h.0 h.1 h.2 r h.3 h.4 in record {
      round = 0;
      offset = 0;
      sealed = false;
      cleared = 0;
      ended = 0;
      ended_cleared = 0;
      uncleared = λ _. refl;
      wide = length-replicate (2 * room + 2) 0;
      tail_is = top;
      fits = (omega arith, narrow);
      tiled = λ p. sym (below_zero p);
      sound = λ r h. absurd (alone r h);
      empty = λ p _ l. at0 (word_of room 0 p) (omega arith);
      zeros = λ p l. absurd (omega arith);
      known = λ id v e. known_first room ws id v low e;
      took = λ f e. subst (λ (z : StageView). TakenInRound room ws (flusher room ∷ []) 0 0 false 0 z) (some-injective (flusher room) f e) record {
        rounds = refl;
        reach = omega arith;
        stands = λ p _ l. absurd (omega arith);
        present = λ r h. absurd (alone r h);
        before = λ r h. absurd (alone r h);
        stable = omega arith;
        knows_seal = refl;
        knows_cleared = refl;
        knows_end = λ y. absurd (true≢false (sym y));
        whole = no_records;
        clears = λ l. absurd (omega arith);
      };
      before = λ f e. subst (EndedRow room ws 0 0 0) (some-injective (flusher room) f e) record {
        inside = (omega arith, omega arith);
        empty = λ p _ l. at0 (word_of room 1 p) (omega arith);
        zeros = λ p l. absurd (omega arith);
        knows_ended = refl;
        knows_cleared = refl;
        all_taken = λ n z. absurd (omega arith);
        all_durable = λ n z. absurd (omega arith);
      };
      honest = λ f e. ((λ j p l r h. absurd (alone r h)), λ r h. absurd (alone r h));
    }

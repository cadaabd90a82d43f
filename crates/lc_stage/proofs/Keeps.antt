-- Each step keeps the rule of the stage.
use Rattle.std.proofs.Common.{◌≡◌, ◌≢◌, ◌⊎◌, ℕ, zero, suc, ◌+◌, ◌-◌, ◌*◌, ◌<◌, ◌≤◌, eqb, Bool, true, false, List, [], ◌∷◌, length, replicate, get_or, set, sym, refl, ap, ◌∙◌, subst, inl, inr, ⊎_elim, arith, le_refl, length-set, get_or-set_other, get_or-set_same, eq-eqb, ne_eqb, true≢false}
use mathlib.Core.Logic.{dite}
use mathlib.Core.Option.{none, some, some-injective, some-ne-none}
use native.Mathlib.Decide.{ℕ_discrete, dec_le}
use lib.ListN.{get_elem?, length-replicate, get_or-replicate}
use lib.Seq.{set-get_or}
use prog.Atomic.{either}
use Rattle.atomic_table.specs.Table.{State, Me, step, keeps, stepped, Allows}
use Rattle.atomic_table.proofs.Lists.{at_set}
use Rattle.lc_stage.specs.declared.stage_view.Reservation.{Reservation}
use Rattle.lc_stage.specs.declared.stage_view.StageView.{StageView}
use Rattle.lc_stage.specs.declared.stage_view.Load.{Load}
use Rattle.lc_stage.specs.Staging.{row, word_of, below, within, lies, covered, total, IsOneRecord, Has, Owns, InLog, Sound, TakenInRound, EndedRow, Known, Staged, Honest, AreRecords, Holds, seal_weight, seal_of, round_of, offset_of, reservation, newcomer, newest, saw, reserved, filled, shut_with, loaded, looked, put, closed, headed, copied, published}
use Rattle.lc_stage.specs.Staging as is
use Rattle.lc_stage.proofs.Records.{some_record}
use Rattle.lc_stage.proofs.Rows.{row_fits, rows_apart}
use Rattle.lc_stage.proofs.Counting.{total_set, total_at, total_two, total_found, covered_at, covered_two, covered_found, lies_here, lies_in, lies_same, below_one, below_of, below_in, below_step}

abbrev pub St : Type 0
St = State (Unit {0}) StageView

abbrev pub M : Type 0
M = Me (Unit {0}) StageView

abbrev pub tail : St → ℕ
tail s = get_or s.words 0 0

abbrev pub at_place : ℕ → ℕ → StageView → ℕ
at_place n p v = covered n p v.mine

pub one_at_most : (room : ℕ) (s : St) → (rule : Staged room s) → (p : ℕ) → total (at_place rule.round p) s.views ≤ 1
one_at_most room s rule p = let t = rule.tiled p in let b = below_one p rule.offset in omega arith

-- two reservations of this round that cover a place are one
pub alone : (room : ℕ) (s : St) → (rule : Staged room s) → (p : ℕ) (q r : Reservation) → (hq : Has s.views q) → (hr : Has s.views r) → 0 < lies rule.round p q → 0 < lies rule.round p r → (q ≡ r) × (hq.0 ≡ hr.0) × (hq.2 ≡ hr.2)
alone room s rule p q r hq hr lq lr = let n : ℕ = rule.round in let top = one_at_most room s rule p in dite (ℕ_discrete hq.0 hr.0)
    (λ same. let v_same : hq.1 ≡ hr.1 = some-injective hq.1 hr.1 (sym hq.3 ∙ (ap (get_elem? s.views) same ∙ hr.3)) in dite (ℕ_discrete hq.2 hr.2)
    (λ i_same. (some-injective q r (sym hq.4 ∙ ((λ k. get_elem? (v_same k).mine (i_same k)) ∙ hr.4)), same, i_same))
    (λ apart. let two = covered_two n p hr.1.mine hq.2 hr.2 q r (subst (λ (v : StageView). get_elem? v.mine hq.2 ≡ some q) v_same hq.4) hr.4 apart in
    let one = total_at (at_place n p) s.views hr.0 hr.1 hr.3 in absurd (omega arith)))
    (λ apart. let two = total_two (at_place n p) s.views hq.0 hr.0 hq.1 hr.1 hq.3 hr.3 apart in let a = covered_at n p hq.1.mine hq.2 q hq.4 in let b = covered_at n p hr.1.mine hr.2 r hr.4 in absurd (omega arith))

-- a place that a reservation of this round covers is below the offset
pub below_offset : (room : ℕ) (s : St) → (rule : Staged room s) → (p : ℕ) (r : Reservation) → Has s.views r → 0 < lies rule.round p r → p < rule.offset
below_offset room s rule p r h l = let n : ℕ = rule.round in let a = covered_at n p h.1.mine h.2 r h.4 in let b = total_at (at_place n p) s.views h.0 h.1 h.3 in let t = rule.tiled p in below_of p rule.offset (omega arith)

-- a reservation of this round ends at the offset, or below it
pub ends_below : (room : ℕ) (s : St) → (rule : Staged room s) → (r : Reservation) → Has s.views r → r.round ≡ rule.round → r.place + length r.words ≤ rule.offset
ends_below room s rule r h here = let some_words = (rule.sound r h).filled in let p : ℕ = r.place + (length r.words - 1) in let e = lies_in rule.round p r here (omega arith) (omega arith) in
    let b = below_offset room s rule p r h (omega arith) in omega arith

-- a place below the offset lies in some reservation of this round
pub covers : (room : ℕ) (s : St) → (rule : Staged room s) → (p : ℕ) → p < rule.offset → (r : Reservation) × Has s.views r × (0 < lies rule.round p r)
covers room s rule p l = let n : ℕ = rule.round in let t = rule.tiled p in let b = below_in p rule.offset l in let f = total_found (at_place n p) s.views (omega arith) in let g = covered_found n p f.1.mine f.3 in (g.1, (f.0, f.1, g.0, f.2, g.2), g.3)

pub has_set : (vs : List StageView) (id : ℕ) (w : StageView) (r : Reservation) → Has (set vs id w) r
    → ((i : ℕ) × (get_elem? w.mine i ≡ some r)) ⊎ ((j : ℕ) × (v : StageView) × (i : ℕ) × (j ≢ id) × (get_elem? vs j ≡ some v) × (get_elem? v.mine i ≡ some r))
has_set vs id w r h = ⊎_elim (λ (t : (h.0 ≡ id) × (w ≡ h.1)). inl (h.2, subst (λ (z : StageView). get_elem? z.mine h.2 ≡ some r) (sym t.1) h.4)) (λ (t : (h.0 ≢ id) × (get_elem? vs h.0 ≡ some h.1)). inr (h.0, h.1, h.2, t.0, t.1, h.4)) (at_set vs id h.0 w h.1 h.3)

-- a seat that keeps its reservations leaves all as they are
pub has_back : (vs : List StageView) (id : ℕ) (v w : StageView) (r : Reservation) → get_elem? vs id ≡ some v → w.mine ≡ v.mine → Has (set vs id w) r → Has vs r
has_back vs id v w r at same h = ⊎_elim (λ (t : (i : ℕ) × (get_elem? w.mine i ≡ some r)). (id, v, t.0, at, subst (λ (z : List Reservation). get_elem? z t.0 ≡ some r) same t.1))
    (λ (t : (j : ℕ) × (u : StageView) × (i : ℕ) × (j ≢ id) × (get_elem? vs j ≡ some u) × (get_elem? u.mine i ≡ some r)). (t.0, t.1, t.2, t.4, t.5)) (has_set vs id w r h)

-- what the flusher's view says of what was taken is in both views the same
abbrev pub SameLog : StageView → StageView → Type 0
SameLog f g = (g.past ≡ f.past) × (g.taken ≡ f.taken) × (g.sealed ≡ f.sealed) × (g.cleared ≡ f.cleared) × (g.sealed_at ≡ f.sealed_at)

pub took_back : (vs : List StageView) (id : ℕ) (v w f : StageView) → get_elem? vs id ≡ some v → SameLog v w → get_elem? (set vs id w) 0 ≡ some f → (g : StageView) × (get_elem? vs 0 ≡ some g) × SameLog g f
took_back vs id v w f at same e = ⊎_elim (λ (t : (0 ≡ id) × (w ≡ f)). (v, subst (λ (z : ℕ). get_elem? vs z ≡ some v) (sym t.0) at, subst (λ (z : StageView). SameLog v z) t.1 same))
    (λ (t : (0 ≢ id) × (get_elem? vs 0 ≡ some f)). (f, t.1, (refl, refl, refl, refl, refl))) (at_set vs id 0 w f e)

-- what the flusher's view says of the round before is in both views the same
abbrev pub SameEnded : StageView → StageView → Type 0
SameEnded f g = (g.past ≡ f.past) × (g.ended ≡ f.ended) × (g.ended_cleared ≡ f.ended_cleared)

same_ended : (room : ℕ) (ws ws' : List ℕ) (round ended ended_cleared : ℕ) (f g : StageView) → SameEnded f g → ((p : ℕ) → p < room → get_or ws' (word_of room (1 + round) p) 0 ≡ get_or ws (word_of room (1 + round) p) 0) → get_or ws 1 0 ≤ get_or ws' 1 0
    → EndedRow room ws round ended ended_cleared f → EndedRow room ws' round ended ended_cleared g
same_ended room ws ws' round ended ended_cleared f g same still rises t = let fits = t.inside.0 in let below_end = t.inside.1 in record {
  inside = t.inside;
  empty = λ p l m. still p m ∙ t.empty p l m;
  zeros = λ p l. still p (omega arith) ∙ t.zeros p l;
  knows_ended = same.1 ∙ t.knows_ended;
  knows_cleared = same.2 ∙ t.knows_cleared;
  all_taken = λ n e. ap (λ (z : List (List ℕ)). length (get_or z n [])) same.0 ∙ t.all_taken n e;
  all_durable = λ n e. let a = t.all_durable n e in omega arith;
}

-- the round before stays as it is where its row does
pub ended_back : (room : ℕ) (s : St) → (rule : Staged room s) → (id : ℕ) (v w : StageView) (ws : List ℕ) → get_elem? s.views id ≡ some v → SameEnded v w
    → ((p : ℕ) → p < room → get_or ws (word_of room (1 + rule.round) p) 0 ≡ get_or s.words (word_of room (1 + rule.round) p) 0) → get_or s.words 1 0 ≤ get_or ws 1 0
    → (f : StageView) → get_elem? (set s.views id w) 0 ≡ some f → EndedRow room ws rule.round rule.ended rule.ended_cleared f
ended_back room s rule id v w ws at same still rises f e = ⊎_elim
    (λ (t : (0 ≡ id) × (w ≡ f)). subst (EndedRow room ws rule.round rule.ended rule.ended_cleared) t.1 (same_ended room s.words ws rule.round rule.ended rule.ended_cleared v w same still rises (rule.before v (subst (λ (z : ℕ). get_elem? s.views z ≡ some v) (sym t.0) at))))
    (λ (t : (0 ≢ id) × (get_elem? s.views 0 ≡ some f)). same_ended room s.words ws rule.round rule.ended rule.ended_cleared f f (refl, refl, refl) still rises (rule.before f t.1)) (at_set s.views id 0 w f e)

-- a seat that makes no load of a place leaves the flusher's loads
pub loads_back : (vs : List StageView) (id : ℕ) (v w f : StageView) → get_elem? vs id ≡ some v → w.loads ≡ v.loads → get_elem? (set vs id w) 0 ≡ some f → (g : StageView) × (get_elem? vs 0 ≡ some g) × (f.loads ≡ g.loads)
loads_back vs id v w f at same e = ⊎_elim (λ (t : (0 ≡ id) × (w ≡ f)). (v, subst (λ (z : ℕ). get_elem? vs z ≡ some v) (sym t.0) at, subst (λ (z : StageView). z.loads ≡ v.loads) t.1 same))
    (λ (t : (0 ≢ id) × (get_elem? vs 0 ≡ some f)). (f, t.1, refl)) (at_set vs id 0 w f e)

-- it stays honest where no reservation is made or closed and no place is loaded
pub honest_back : (room : ℕ) (s : St) → (rule : Staged room s) → (id : ℕ) (v w : StageView) → get_elem? s.views id ≡ some v → w.mine ≡ v.mine → w.loads ≡ v.loads → (f : StageView) → get_elem? (set s.views id w) 0 ≡ some f → Honest (set s.views id w) rule.round f
honest_back room s rule id v w at mine same f e = let g = loads_back s.views id v w f at same e in let k : length f.loads ≡ length g.0.loads = ap (λ (z : List Load). length z) g.2 in
    ((λ j p l r h. (rule.honest g.0 g.1).0 j p (ap (λ (z : List Load). get_elem? z j) (sym g.2) ∙ l) r (has_back s.views id v w r at mine h)), λ r h shut. let y = (rule.honest g.0 g.1).1 r (has_back s.views id v w r at mine h) shut in omega arith)

-- what is known of the flusher's log goes to another view that says the same of it
pub same_taken : (room : ℕ) (ws : List ℕ) (vs : List StageView) (round offset : ℕ) (sealed : Bool) (cleared : ℕ) (f g : StageView) → SameLog f g → TakenInRound room ws vs round offset sealed cleared f → TakenInRound room ws vs round offset sealed cleared g
same_taken room ws vs round offset sealed cleared f g same t = let long : length g.taken ≡ length f.taken = ap (λ (l : List ℕ). length l) same.1 in let reach = t.reach in let low = t.stable in record {
  rounds = ap (λ (l : List (List ℕ)). length l) same.0 ∙ t.rounds;
  reach = omega arith;
  stands = λ p l m. t.stands p l (omega arith) ∙ sym (ap (λ (l : List ℕ). get_or l p 0) same.1);
  present = λ q h e. subst (λ (z : List ℕ). InLog z q ⊎ (length z ≤ q.place)) (sym same.1) (t.present q h e);
  before = λ q h l. subst (λ (z : List (List ℕ)). InLog (get_or z q.round []) q) (sym same.0) (t.before q h l);
  stable = omega arith;
  knows_seal = same.2 ∙ t.knows_seal;
  knows_cleared = same.3 ∙ t.knows_cleared;
  knows_end = λ y. same.4 ∙ t.knows_end y;
  whole = subst AreRecords (sym same.1) t.whole;
  clears = λ l. let c = t.clears l in let c1 = c.1 in (c.0, omega arith, c.2);
}

pub sound_moved : (room : ℕ) (ws ws' : List ℕ) (round cleared ended_cleared : ℕ) (r : Reservation) → (r.round ≡ round → (p : ℕ) → p < r.place + length r.words → r.place ≤ p → get_or ws' (word_of room round p) 0 ≡ get_or ws (word_of room round p) 0)
    → (1 + r.round ≡ round → (p : ℕ) → p < r.place + length r.words → get_or ws' (word_of room r.round p) 0 ≡ get_or ws (word_of room r.round p) 0)
    → Sound room ws round cleared ended_cleared r → Sound room ws' round cleared ended_cleared r
sound_moved room ws ws' round cleared ended_cleared r same same_before h = record {
  of_round = h.of_round;
  filled = h.filled;
  inside = h.inside;
  stands = λ e i l m. same e (r.place + i) (omega arith) (omega arith) ∙ h.stands e i l m;
  stood = λ e i l m. same_before e (r.place + i) (omega arith) ∙ h.stood e i l m;
  shut = h.shut;
  still_open = h.still_open;
}

-- no word of a place has changed
abbrev pub SamePlaces : List ℕ → List ℕ → Type 0
SamePlaces ws ws' = (j : ℕ) → 2 ≤ j → get_or ws' j 0 ≡ get_or ws j 0

pub sound_kept : (room : ℕ) (ws ws' : List ℕ) (round cleared ended_cleared : ℕ) (r : Reservation) → SamePlaces ws ws' → Sound room ws round cleared ended_cleared r → Sound room ws' round cleared ended_cleared r
sound_kept room ws ws' round cleared ended_cleared r still h = sound_moved room ws ws' round cleared ended_cleared r (λ _ p _ _. still (word_of room round p) (omega arith)) (λ _ p _. still (word_of room r.round p) (omega arith)) h

pub knows_more : (ws ws' : List ℕ) (id : ℕ) (v w : StageView) → get_or ws 0 0 ≤ get_or ws' 0 0 → get_or ws 1 0 ≤ get_or ws' 1 0 → (v.flushes ≡ true → get_or ws' 1 0 ≡ get_or ws 1 0) → w.seen ≡ v.seen → w.durable ≡ v.durable → w.published ≡ v.published → w.flushes ≡ v.flushes → w.heard ≡ v.heard → w.receipts ≡ v.receipts → ((r : Reservation) → Owns v.mine r → r.closed ≡ true → Owns w.mine r)
    → Known ws id v → Known ws' id w
knows_more ws ws' id v w more rises level b c d e h same own k = let k1 = k.seen in let k2 = k.durable in let k3 = k.published in let k4 = k.heard in record {
  seen = omega arith;
  durable = omega arith;
  published = omega arith;
  heard = omega arith;
  stored = λ t. let f : v.flushes ≡ true = sym e ∙ t in level f ∙ (k.stored f ∙ sym d);
  flusher = λ t. k.flusher (sym e ∙ t);
  first = λ z. e ∙ k.first z;
  receipts = λ i r there. let x = k.receipts i r (ap (λ (z : List Reservation). get_elem? z i) (sym same) ∙ there) in let y = x.2 in (own r x.0 x.1, x.1, omega arith);
}

-- the rule after a step of the seat id, from v to w, in the same round
pub rebuilt : (room : ℕ) (s : St) → (rule : Staged room s) → (id offset : ℕ) (v w : StageView) (ws : List ℕ) → get_elem? s.views id ≡ some v → length ws ≡ length s.words
    → get_or ws 0 0 ≡ rule.round * 65536 + offset + seal_weight rule.sealed → rule.offset ≤ offset → offset ≤ room
    → ((p : ℕ) → covered rule.round p w.mine + below p rule.offset ≡ covered rule.round p v.mine + below p offset) → ((r : Reservation) → Has (set s.views id w) r → Sound room ws rule.round rule.cleared rule.ended_cleared r)
    → ((p : ℕ) → offset ≤ p → p < room → get_or ws (word_of room rule.round p) 0 ≡ 0) → ((p : ℕ) → p < rule.cleared → get_or ws (word_of room rule.round p) 0 ≡ 0)
    → get_or s.words 1 0 ≤ get_or ws 1 0 → (id ≢ 0 → get_or ws 1 0 ≡ get_or s.words 1 0) → Known ws id w
    → ((f : StageView) → get_elem? (set s.views id w) 0 ≡ some f → TakenInRound room ws (set s.views id w) rule.round offset rule.sealed rule.cleared f) → ((f : StageView) → get_elem? (set s.views id w) 0 ≡ some f → EndedRow room ws rule.round rule.ended rule.ended_cleared f) → ((f : StageView) → get_elem? (set s.views id w) 0 ≡ some f → Honest (set s.views id w) rule.round f)
    → Staged room record { words = ws; homes = s.homes; views = set s.views id w }
rebuilt room s rule id offset v w ws at long tail_is more fits count sound empty zeros rises level known took before honest = let t0 = rule.tail_is in let up : get_or s.words 0 0 ≤ get_or ws 0 0 = omega arith in record {
  round = rule.round;
  offset = offset;
  sealed = rule.sealed;
  cleared = rule.cleared;
  ended = rule.ended;
  ended_cleared = rule.ended_cleared;
  uncleared = rule.uncleared;
  wide = long ∙ rule.wide;
  tail_is = tail_is;
  fits = (fits, rule.fits.1);
  tiled = λ p. let c = count p in let t = rule.tiled p in let e = total_set (at_place rule.round p) s.views id v w at in omega arith;
  sound = sound;
  empty = empty;
  zeros = zeros;
  known = λ j u e. ⊎_elim (λ (t : (j ≡ id) × (w ≡ u)). subst (λ (z : ℕ × StageView). Known ws z.0 z.1) (λ i. (sym t.0 i, t.1 i)) known)
      (λ (t : (j ≢ id) × (get_elem? s.views j ≡ some u)). knows_more s.words ws j u u up rises (λ y. level (λ z. t.0 ((rule.known j u t.1).flusher y ∙ sym z))) refl refl refl refl refl refl (λ _ o _. o) (rule.known j u t.1)) (at_set s.views id j w u e);
  took = took;
  before = before;
  honest = honest;
}

-- a step that changes no word, no reservation and nothing that was taken
pub quiet : (room : ℕ) (s : St) → (rule : Staged room s) → (id : ℕ) (v w : StageView) → get_elem? s.views id ≡ some v → w.mine ≡ v.mine → SameLog v w → SameEnded v w → Known s.words id w → ((f : StageView) → get_elem? (set s.views id w) 0 ≡ some f → Honest (set s.views id w) rule.round f)
    → Staged room record { words = s.words; homes = s.homes; views = set s.views id w }
quiet room s rule id v w at mine same same_before known honest = let n : ℕ = rule.round in rebuilt room s rule id rule.offset v w s.words at refl rule.tail_is (le_refl rule.offset) rule.fits.0 (λ p. ap (λ (z : List Reservation). covered n p z + below p rule.offset) mine)
    (λ r h. rule.sound r (has_back s.views id v w r at mine h)) rule.empty rule.zeros (le_refl (get_or s.words 1 0)) (λ _. refl) known
    (λ f e. let g = took_back s.views id v w f at same e in let t = rule.took g.0 g.1 in same_taken room s.words (set s.views id w) n rule.offset rule.sealed rule.cleared g.0 f g.2 record {
      rounds = t.rounds;
      reach = t.reach;
      stands = t.stands;
      present = λ r h. t.present r (has_back s.views id v w r at mine h);
      before = λ r h. t.before r (has_back s.views id v w r at mine h);
      stable = t.stable;
      knows_seal = t.knows_seal;
      knows_cleared = t.knows_cleared;
      knows_end = t.knows_end;
      whole = t.whole;
      clears = t.clears;
    }) (ended_back room s rule id v w s.words at same_before (λ _ _. refl) (le_refl (get_or s.words 1 0))) honest

pub loads : (room : ℕ) (s : St) (i id : ℕ) (w : StageView) → Staged room record { words = s.words; homes = s.homes; views = set s.views id w } → (me : M) → Staged room (stepped s i (get_or s.words i 0) id me.1 w keeps)
loads room s i id w h me = subst (λ (ws : List ℕ). Staged room record { words = ws; homes = s.homes; views = set s.views id w }) (sym (set-get_or s.words i 0)) h

sees : (room : ℕ) (s : St) → Staged room s → (id : ℕ) (v : StageView) → get_elem? s.views id ≡ some v → Known s.words id (saw (tail s) v)
sees room s rule id v at = let k = rule.known id v at in record { seen = le_refl (tail s); durable = k.durable; published = k.published; heard = k.heard; receipts = k.receipts; stored = k.stored; flusher = k.flusher; first = k.first }

weight_is : (b : Bool) → ((b ≡ false) × (seal_weight b ≡ 0)) ⊎ ((b ≡ true) × (seal_weight b ≡ 32768))
weight_is true = inr (refl, refl)
weight_is false = inl (refl, refl)

-- the parts of the tail are those of the rule
pub tail_offset : (room : ℕ) (s : St) → (rule : Staged room s) → offset_of (tail s) ≡ rule.offset
tail_offset room s rule = let t = rule.tail_is in let f = rule.fits.0 in let g = rule.fits.1 in ⊎_elim (λ (z : (rule.sealed ≡ false) × (seal_weight rule.sealed ≡ 0)). let w = z.1 in omega arith) (λ (z : (rule.sealed ≡ true) × (seal_weight rule.sealed ≡ 32768)). let w = z.1 in omega arith) (weight_is rule.sealed)

pub tail_round : (room : ℕ) (s : St) → (rule : Staged room s) → round_of (tail s) ≡ rule.round
tail_round room s rule = let t = rule.tail_is in let f = rule.fits.0 in let g = rule.fits.1 in ⊎_elim (λ (z : (rule.sealed ≡ false) × (seal_weight rule.sealed ≡ 0)). let w = z.1 in omega arith) (λ (z : (rule.sealed ≡ true) × (seal_weight rule.sealed ≡ 32768)). let w = z.1 in omega arith) (weight_is rule.sealed)

pub tail_unsealed : (room : ℕ) (s : St) → (rule : Staged room s) → seal_of (tail s) ≡ 0 → rule.sealed ≡ false
tail_unsealed room s rule h = let t = rule.tail_is in let f = rule.fits.0 in let g = rule.fits.1 in ⊎_elim (λ (z : (rule.sealed ≡ false) × (seal_weight rule.sealed ≡ 0)). z.0) (λ (z : (rule.sealed ≡ true) × (seal_weight rule.sealed ≡ 32768)). let w = z.1 in absurd (omega arith)) (weight_is rule.sealed)

pub looks : (room slots id : ℕ) (me : M) → me.0.room ≡ room → Allows (Staged room) slots id me 0 (λ n. n) (looked (step slots 0 0 0 none) me)
looks room slots id me same_room s rule _ at _ = let w : StageView = saw (tail s) me.0 in let f = rule.fits.0 in let o = tail_offset room s rule in let k = (rule.known id me.0 at).seen in
    (w, keeps, tt, loads room s 0 id w (quiet room s rule id me.0 w at refl (refl, refl, refl, refl, refl) (refl, refl, refl) (sees room s rule id me.0 at) (honest_back room s rule id me.0 w at refl refl)) me, (refl, refl, omega arith, k))

pub head_or : (r : Reservation) (rest : List Reservation) (q : Reservation) (i : ℕ) → get_elem? (r ∷ rest) i ≡ some q → (r ≡ q) ⊎ ((k : ℕ) × (get_elem? rest k ≡ some q))
head_or r rest q zero e = inl (some-injective r q e)
head_or r rest q (suc k) e = inr (k, e)

-- a new reservation r from the tail on, which is not sealed
grows : (room : ℕ) (s : St) → (rule : Staged room s) → (id n : ℕ) (v : StageView) (r : Reservation) → get_elem? s.views id ≡ some v → rule.sealed ≡ false → r.round ≡ rule.round → r.place ≡ rule.offset → length r.words ≡ n → 0 < n
    → rule.offset + n ≤ room → ((i : ℕ) → i < n → get_or r.words i 0 ≡ 0) → r.closed ≡ false
    → Staged room record { words = set s.words 0 (tail s + n); homes = s.homes; views = set s.views id (record v { mine = r ∷ v.mine }) }
grows room s rule id n v r at unsealed of_round begins long some_place fit zeros is_open = let a : ℕ = rule.offset in let m : ℕ = rule.round in let x : ℕ = tail s + n in let w : StageView = record v { mine = r ∷ v.mine } in let ws : List ℕ = set s.words 0 x in let wide = rule.wide in
    let top : get_or ws 0 0 ≡ x = get_or-set_same s.words 0 x 0 (omega arith) in let t0 = rule.tail_is in
    let still : SamePlaces s.words ws = λ j l. get_or-set_other s.words 0 j x 0 (λ e. omega arith) in
    let same_end : get_or ws 1 0 ≡ get_or s.words 1 0 = get_or-set_other s.words 0 1 x 0 (λ e. omega arith) in
    let old_or_new : (q : Reservation) → Has (set s.views id w) q → (r ≡ q) ⊎ Has s.views q = λ q h. ⊎_elim
    (λ (t : (i : ℕ) × (get_elem? w.mine i ≡ some q)). ⊎_elim (λ (e : r ≡ q). inl e) (λ (k : (k : ℕ) × (get_elem? v.mine k ≡ some q)). inr (id, v, k.0, at, k.1)) (head_or r v.mine q t.0 t.1))
    (λ (t : (j : ℕ) × (u : StageView) × (i : ℕ) × (j ≢ id) × (get_elem? s.views j ≡ some u) × (get_elem? u.mine i ≡ some q)). inr (t.0, t.1, t.2, t.4, t.5)) (has_set s.views id w q h) in
    let k = rule.known id v at in
    rebuilt room s rule id (a + n) v w ws at (length-set s.words 0 x) (omega arith) (omega arith) fit
    (λ p. let b = below_step p a n in let d = lies_here m p r of_round in let c : within p r.place (length r.words) ≡ within p a n = (λ i. within p (begins i) (long i)) in omega arith)
    (λ q h. ⊎_elim
    (λ (e : r ≡ q). subst (Sound room ws m rule.cleared rule.ended_cleared) e record {
      of_round = omega arith;
      filled = omega arith;
      inside = omega arith;
      stands = λ _ i l _. let j : i < n = omega arith in ap (λ (z : ℕ). get_or ws (word_of room m (z + i)) 0) begins ∙ (still (word_of room m (a + i)) (omega arith) ∙ (rule.empty (a + i) (omega arith) (omega arith) ∙ sym (zeros i j)));
      stood = λ e. absurd (omega arith);
      shut = λ t. absurd (true≢false (sym t ∙ is_open));
      still_open = λ _. zeros 0 some_place;
    })
    (λ (o : Has s.views q). sound_kept room s.words ws m rule.cleared rule.ended_cleared q still (rule.sound q o)) (old_or_new q h))
    (λ p l h. still (word_of room m p) (omega arith) ∙ rule.empty p (omega arith) h)
    (λ p l. still (word_of room m p) (omega arith) ∙ rule.zeros p l)
    (omega arith)
    (λ _. same_end)
    (knows_more s.words ws id v w (omega arith) (omega arith) (λ _. same_end) refl refl refl refl refl refl (λ _ o _. (suc o.0, o.1)) k)
    (λ f e. let g = took_back s.views id v w f at (refl, refl, refl, refl, refl) e in let t = rule.took g.0 g.1 in let reach = t.reach in let stable = t.stable in
    same_taken room ws (set s.views id w) m (a + n) rule.sealed rule.cleared g.0 f g.2 record {
      rounds = t.rounds;
      reach = omega arith;
      stands = λ p l j. still (word_of room m p) (omega arith) ∙ t.stands p l j;
      present = λ q h y. ⊎_elim (λ (e : r ≡ q). let j : length g.0.taken ≤ r.place = omega arith in inr (subst (λ (z : Reservation). length g.0.taken ≤ z.place) e j)) (λ (o : Has s.views q). t.present q o y) (old_or_new q h);
      before = λ q h l. ⊎_elim (λ (e : r ≡ q). absurd (let y : q.round ≡ m = ap (λ (z : Reservation). z.round) (sym e) ∙ of_round in omega arith)) (λ (o : Has s.views q). t.before q o l) (old_or_new q h);
      stable = omega arith;
      knows_seal = t.knows_seal;
      knows_cleared = t.knows_cleared;
      knows_end = λ y. absurd (true≢false (sym y ∙ unsealed));
      whole = t.whole;
      clears = λ l. absurd (true≢false (sym (t.clears l).0 ∙ unsealed));
    })
    (ended_back room s rule id v w ws at (refl, refl, refl) (λ p _. still (word_of room (1 + m) p) (omega arith)) (omega arith))
    (λ f e. let g = loads_back s.views id v w f at refl e in let k : length f.loads ≡ length g.0.loads = ap (λ (z : List Load). length z) g.2 in (
      (λ j p l q h y there shut. ⊎_elim (λ (z : r ≡ q). absurd (true≢false (sym shut ∙ (ap (λ (z : Reservation). z.closed) (sym z) ∙ is_open)))) (λ (o : Has s.views q). (rule.honest g.0 g.1).0 j p (ap (λ (z : List Load). get_elem? z j) (sym g.2) ∙ l) q o y there shut) (old_or_new q h)),
      λ q h shut. ⊎_elim (λ (z : r ≡ q). absurd (true≢false (sym shut ∙ (ap (λ (z : Reservation). z.closed) (sym z) ∙ is_open)))) (λ (o : Has s.views q). let y = (rule.honest g.0 g.1).1 q o shut in omega arith) (old_or_new q h),
    ))

pub at_here : (vs : List StageView) (id : ℕ) (v w : StageView) → get_elem? vs id ≡ some v → get_elem? (set vs id w) id ≡ some w
at_here [] id v w e = absurd (some-ne-none v (sym e))
at_here (x ∷ xs) zero v w e = refl
at_here (x ∷ xs) (suc id) v w e = at_here xs id v w e

-- the rule holds after a step, and the seat has its new view
pub held : (room : ℕ) (s : St) (ws : List ℕ) (id : ℕ) (v w : StageView) → get_elem? s.views id ≡ some v → w.room ≡ room → Staged room record { words = ws; homes = s.homes; views = set s.views id w } → Holds w
held room s ws id v w at same kept = (record { words = ws; homes = s.homes; views = set s.views id w }, subst (λ (z : ℕ). Staged z record { words = ws; homes = s.homes; views = set s.views id w }) (sym same) kept, (id, at_here s.views id v w at))

pub exchanges : (room slots id : ℕ) (me : M) (old new : ℕ) → old < new → offset_of old + (new - old) ≤ room → seal_of old ≡ 0 → me.0.room ≡ room
    → Allows (Staged room) slots id me 0 (λ n. either (eqb n old) new n) (is.exchanged (step slots 0 old new none) me)
exchanges room slots id me old new more fit unsealed same_room s rule _ at _ = let x : ℕ = tail s in let f = rule.fits.0 in let o = tail_offset room s rule in let seen = (rule.known id me.0 at).seen in dite (ℕ_discrete x old)
    (λ hit. let n : ℕ = new - old in let zeros : List ℕ = replicate n 0 in let w : StageView = reserved old n me.0 in let up : x + n ≡ new = omega arith in
    let here : offset_of old ≡ rule.offset = ap offset_of (sym hit) ∙ o in
    let kept : Staged room (stepped s 0 (either (eqb x old) new x) id me.1 w keeps) = subst (λ b. Staged room (stepped s 0 (either b new x) id me.1 w keeps)) (sym (eq-eqb x old hit))
    (subst (λ (z : ℕ). Staged room record { words = set s.words 0 z; homes = s.homes; views = set s.views id w }) up
    (grows room s rule id n me.0 (reservation (round_of old) (offset_of old) zeros false) at (tail_unsealed room s rule (ap seal_of hit ∙ unsealed)) (ap round_of (sym hit) ∙ tail_round room s rule) here (length-replicate n 0) (omega arith) (omega arith) (λ i l. get_or-replicate n i 0 0 l) refl)) in (
      w,
      keeps,
      tt,
      kept,
      (
        refl,
        held room s (set s.words 0 (either (eqb x old) new x)) id me.0 w at same_room kept,
        (λ _. (
          refl,
          λ r o. let has : Has s.views r = (id, me.0, o.0, at, o.1) in let top = (rule.sound r has).of_round in let now : round_of old ≡ rule.round = ap round_of (sym hit) ∙ tail_round room s rule in
              dite (ℕ_discrete r.round rule.round) (λ e. inr (e ∙ sym now, (let b = ends_below room s rule r has e in omega arith))) (λ d. inl (omega arith)),
        )),
        λ not. absurd (not hit),
      ),
    ))
    (λ miss. let w : StageView = saw x me.0 in
    let kept : Staged room (stepped s 0 (either (eqb x old) new x) id me.1 w keeps) = subst (λ b. Staged room (stepped s 0 (either b new x) id me.1 w keeps)) (sym (ne_eqb x old miss)) (loads room s 0 id w (quiet room s rule id me.0 w at refl (refl, refl, refl, refl, refl) (refl, refl, refl) (sees room s rule id me.0 at) (honest_back room s rule id me.0 w at refl refl)) me) in
    (w, keeps, tt, kept, (refl, held room s (set s.words 0 (either (eqb x old) new x)) id me.0 w at same_room kept, (λ hit. absurd (miss hit)), λ _. (refl, omega arith, seen))))

at_below : (l : List Load) (j : ℕ) (x : Load) → get_elem? l j ≡ some x → j < length l
at_below [] j x e = absurd (some-ne-none x (sym e))
at_below (y ∷ ys) zero x e = omega arith
at_below (y ∷ ys) (suc j) x e = let r = at_below ys j x e in omega arith

first_of : (vs : List StageView) (id : ℕ) (v : StageView) → get_elem? vs id ≡ some v → (f : StageView) × (get_elem? vs 0 ≡ some f)
first_of [] id v e = absurd (some-ne-none v (sym e))
first_of (x ∷ xs) id v e = (x, refl)

-- r, the newest reservation of the seat id, which is open, becomes q as one of its words is stored
module _ (room : ℕ) (s : St) (rule : Staged room s) (id i x : ℕ) (v w : StageView) (r q : Reservation) (rest : List Reservation) (at : get_elem? s.views id ≡ some v) (own : v.mine ≡ r ∷ rest)
    (own' : w.mine ≡ q ∷ rest) (is_open : r.closed ≡ false) (inside : i < length r.words) (there : q.place ≡ r.place) (again : q.round ≡ r.round) (words : q.words ≡ set r.words i x) where
  abbrev spot : ℕ
  spot = word_of room rule.round (r.place + i)

  abbrev stored : List ℕ
  stored = set s.words spot x

  -- a reservation beside that one
  abbrev Beside : Reservation → Type 0
  Beside o = ((k : ℕ) × (get_elem? rest k ≡ some o)) ⊎ ((j : ℕ) × (u : StageView) × (k : ℕ) × (j ≢ id) × (get_elem? s.views j ≡ some u) × (get_elem? u.mine k ≡ some o))

  has_r : Has s.views r
  has_r = (id, v, zero, at, ap (λ (l : List Reservation). get_elem? l zero) own)

  -- the flusher has not taken it, so it is of this round
  first_view : (f : StageView) × (get_elem? s.views 0 ≡ some f)
  first_view = first_of s.views id v at

  present : r.round ≡ rule.round
  present = let top = (rule.sound r has_r).of_round in dite (ℕ_discrete r.round rule.round) (λ e. e)
      (λ d. absurd (let less : r.round < rule.round = omega arith in true≢false (sym ((rule.took first_view.0 first_view.1).before r has_r less).0 ∙ is_open)))

  behind : (f : StageView) → get_elem? s.views 0 ≡ some f → length f.taken ≤ r.place
  behind f e = ⊎_elim (λ (z : InLog f.taken r). absurd (true≢false (sym z.0 ∙ is_open))) (λ (z : length f.taken ≤ r.place). z) ((rule.took f e).present r has_r present)

  -- nothing is cleared where a reservation is open
  none_cleared : rule.cleared ≡ 0
  none_cleared = let f = first_view.0 in let t = rule.took f first_view.1 in let b = behind f first_view.1 in let e = ends_below room s rule r has_r present in
      dite (dec_le 1 rule.cleared) (λ l. absurd (let c = (t.clears l).1 in let some_words = (rule.sound r has_r).filled in omega arith)) (λ n. omega arith)

  covers_it : 0 < lies rule.round (r.place + i) r
  covers_it = let e = lies_in rule.round (r.place + i) r present (omega arith) (omega arith) in omega arith

  before_tail : r.place + i < rule.offset
  before_tail = below_offset room s rule (r.place + i) r has_r covers_it

  beside_has : (o : Reservation) → Beside o → Has s.views o
  beside_has o b = ⊎_elim (λ (t : (k : ℕ) × (get_elem? rest k ≡ some o)). (id, v, suc t.0, at, ap (λ (l : List Reservation). get_elem? l (suc t.0)) own ∙ t.1))
      (λ (t : (j : ℕ) × (u : StageView) × (k : ℕ) × (j ≢ id) × (get_elem? s.views j ≡ some u) × (get_elem? u.mine k ≡ some o)). (t.0, t.1, t.2, t.4, t.5)) b

  beside_apart : (o : Reservation) → Beside o → 0 < lies rule.round (r.place + i) o → ⊥
  beside_apart o b l = let p : ℕ = r.place + i in let c = covers_it in let top = one_at_most room s rule p in let n : ℕ = rule.round in let mine : covered n p v.mine ≡ lies n p r + covered n p rest = ap (covered n p) own in ⊎_elim
      (λ (t : (k : ℕ) × (get_elem? rest k ≡ some o)). let a = covered_at n p rest t.0 o t.1 in let m = total_at (at_place n p) s.views id v at in let lo : 0 < lies n p o = l in absurd (omega arith))
      (λ (t : (j : ℕ) × (u : StageView) × (k : ℕ) × (j ≢ id) × (get_elem? s.views j ≡ some u) × (get_elem? u.mine k ≡ some o)).
      let a = covered_at n p t.1.mine t.2 o t.5 in let m = total_two (at_place n p) s.views t.0 id t.1 v t.4 at t.3 in let lo : 0 < lies n p o = l in absurd (omega arith)) b

  beside_sound : (o : Reservation) → Beside o → Sound room stored rule.round rule.cleared rule.ended_cleared o
  beside_sound o b = let sound = rule.sound o (beside_has o b) in let fits = rule.fits.0 in let high = before_tail in let inside_o = sound.inside in sound_moved room s.words stored rule.round rule.cleared rule.ended_cleared o
      (λ of_round p l m. get_or-set_other s.words spot (word_of room rule.round p) x 0 (λ e. beside_apart o b (let h = lies_in rule.round (r.place + i) o of_round (omega arith) (omega arith) in omega arith)))
      (λ e p l. let apart = rows_apart room o.round rule.round p (r.place + i) e (omega arith) (omega arith) in get_or-set_other s.words spot (word_of room o.round p) x 0 (λ z. apart (omega arith))) sound

  -- a closed reservation of the seat stays
  own_closed : (o : Reservation) → Owns v.mine o → o.closed ≡ true → Owns w.mine o
  own_closed o h closed_o = ⊎_elim (λ (e : r ≡ o). absurd (true≢false (sym closed_o ∙ (ap (λ (z : Reservation). z.closed) (sym e) ∙ is_open))))
      (λ (t : (k : ℕ) × (get_elem? rest k ≡ some o)). (suc t.0, ap (λ (l : List Reservation). get_elem? l (suc t.0)) own' ∙ t.1)) (head_or r rest o h.0 (ap (λ (l : List Reservation). get_elem? l h.0) (sym own) ∙ h.1))

  cases : (o : Reservation) → Has (set s.views id w) o → (q ≡ o) ⊎ Beside o
  cases o h = ⊎_elim (λ (t : (k : ℕ) × (get_elem? w.mine k ≡ some o)). ⊎_elim (λ (e : q ≡ o). inl e) (λ (k : (k : ℕ) × (get_elem? rest k ≡ some o)). inr (inl k))
      (head_or q rest o t.0 (subst (λ (l : List Reservation). get_elem? l t.0 ≡ some o) own' t.1)))
      (λ (t : (j : ℕ) × (u : StageView) × (k : ℕ) × (j ≢ id) × (get_elem? s.views j ≡ some u) × (get_elem? u.mine k ≡ some o)). inr (inr t)) (has_set s.views id w o h)

  writes : SameLog v w → w.seen ≡ v.seen → w.durable ≡ v.durable → w.published ≡ v.published → w.flushes ≡ v.flushes → w.heard ≡ v.heard → w.receipts ≡ v.receipts → (q.closed ≡ true → IsOneRecord q.words) → (q.closed ≡ false → get_or q.words 0 0 ≡ 0) → SameEnded v w → w.loads ≡ v.loads → (q.closed ≡ true → (f : StageView) → get_elem? s.views 0 ≡ some f → (length f.loads ≤ q.after) × (q.after ≤ length f.loads))
      → Staged room record { words = stored; homes = s.homes; views = set s.views id w }
  writes same_log b' c' d' e' h' r' shut still_open same_before same_loads late = let n : ℕ = rule.round in let wide = rule.wide in let f = rule.fits.0 in let b = before_tail in let k = rule.known id v at in let long : length q.words ≡ length r.words = ap (λ (l : List ℕ). length l) words ∙ length-set r.words i x in
      let top : get_or stored 0 0 ≡ tail s = get_or-set_other s.words spot 0 x 0 (λ e. omega arith) in let fits_row = row_fits room n in let clear = none_cleared in
      let end : get_or stored 1 0 ≡ get_or s.words 1 0 = get_or-set_other s.words spot 1 x 0 (λ e. omega arith) in let s_r = rule.sound r has_r in
      rebuilt room s rule id rule.offset v w stored at (length-set s.words spot x) (top ∙ rule.tail_is) (le_refl rule.offset) f
      (λ p. let c : lies n p q ≡ lies n p r = lies_same n p q r again there long in
      let m : covered n p v.mine ≡ lies n p r + covered n p rest = ap (covered n p) own in let m' : covered n p w.mine ≡ lies n p q + covered n p rest = ap (covered n p) own' in omega arith)
      (λ o h. ⊎_elim
      (λ (e : q ≡ o). subst (Sound room stored n rule.cleared rule.ended_cleared) e record {
        of_round = (let y = s_r.of_round in omega arith);
        filled = (let y = s_r.filled in omega arith);
        inside = (let y = s_r.inside in omega arith);
        stands = λ _ j l _. ap (λ (z : ℕ). get_or stored (word_of room n (z + j)) 0) there ∙ (dite (ℕ_discrete j i)
            (λ (same : j ≡ i). ap (λ (z : ℕ). get_or stored (word_of room n (r.place + z)) 0) same ∙ (get_or-set_same s.words spot x 0 (omega arith)
            ∙ (sym (get_or-set_same r.words i x 0 inside) ∙ (λ k. get_or (sym words k) (sym same k) 0))))
            (λ (other : j ≢ i). get_or-set_other s.words spot (word_of room n (r.place + j)) x 0 (λ e. other (omega arith)) ∙ (s_r.stands present j (omega arith) (omega arith)
            ∙ (sym (get_or-set_other r.words i j x 0 other) ∙ ap (λ (l : List ℕ). get_or l j 0) (sym words)))));
        stood = λ e. absurd (let y : q.round ≡ n = again ∙ present in omega arith);
        shut = shut;
        still_open = still_open;
      })
      (beside_sound o) (cases o h))
      (λ p l m. get_or-set_other s.words spot (word_of room n p) x 0 (λ e. omega arith) ∙ rule.empty p l m)
      (λ p l. absurd (omega arith))
      (omega arith)
      (λ _. end)
      (knows_more s.words stored id v w (omega arith) (omega arith) (λ _. end) b' c' d' e' h' r' own_closed k)
      (λ f e. let g = took_back s.views id v w f at same_log e in let t = rule.took g.0 g.1 in let reach = t.reach in let stable = t.stable in
      let behind_it : length g.0.taken ≤ r.place = behind g.0 g.1 in
      same_taken room stored (set s.views id w) n rule.offset rule.sealed rule.cleared g.0 f g.2 record {
        rounds = t.rounds;
        reach = reach;
        stands = λ p l m. get_or-set_other s.words spot (word_of room n p) x 0 (λ e. omega arith) ∙ t.stands p l m;
        present = λ o h y. ⊎_elim (λ (e : q ≡ o). let m : length g.0.taken ≤ q.place = omega arith in inr (subst (λ (z : Reservation). length g.0.taken ≤ z.place) e m)) (λ (y' : Beside o). t.present o (beside_has o y') y) (cases o h);
        before = λ o h l. ⊎_elim (λ (e : q ≡ o). absurd (let y : o.round ≡ n = ap (λ (z : Reservation). z.round) (sym e) ∙ (again ∙ present) in omega arith)) (λ (y' : Beside o). t.before o (beside_has o y') l) (cases o h);
        stable = omega arith;
        knows_seal = t.knows_seal;
        knows_cleared = t.knows_cleared;
        knows_end = t.knows_end;
        whole = t.whole;
        clears = t.clears;
      })
      (ended_back room s rule id v w stored at same_before (λ p l. let apart = rows_apart room n (1 + n) (r.place + i) p refl (omega arith) l in get_or-set_other s.words spot (word_of room (1 + n) p) x 0 (λ e. apart (omega arith))) (omega arith))
      (λ f e. let g = loads_back s.views id v w f at same_loads e in let k : length f.loads ≡ length g.0.loads = ap (λ (z : List Load). length z) g.2 in (
        (λ j p l o h y there closed_o. let l' : get_elem? g.0.loads j ≡ some (record { place = p; word = 0 }) = ap (λ (z : List Load). get_elem? z j) (sym g.2) ∙ l in ⊎_elim
            (λ (z : q ≡ o). let a = (late (ap (λ (k : Reservation). k.closed) z ∙ closed_o) g.0 g.1).0 in let b = at_below g.0.loads j _ l' in let c : q.after ≡ o.after = ap (λ (k : Reservation). k.after) z in omega arith)
            (λ (z : Beside o). (rule.honest g.0 g.1).0 j p l' o (beside_has o z) y there closed_o) (cases o h)),
        λ o h closed_o. ⊎_elim (λ (z : q ≡ o). let a = (late (ap (λ (k : Reservation). k.closed) z ∙ closed_o) g.0 g.1).1 in let c : q.after ≡ o.after = ap (λ (k : Reservation). k.after) z in omega arith)
            (λ (z : Beside o). let a = (rule.honest g.0 g.1).1 o (beside_has o z) closed_o in omega arith) (cases o h),
      ))

split_newest : (l : List Reservation) → (newest l).closed ≡ false → (rest : List Reservation) × (l ≡ newest l ∷ rest)
split_newest [] h = absurd (true≢false h)
split_newest (r ∷ rest) h = (rest, refl)

pub puts : (room slots id : ℕ) (me : M) (i x word : ℕ) → (newest me.0.mine).closed ≡ false → 0 < i → i < length (newest me.0.mine).words → word ≡ word_of room (newest me.0.mine).round ((newest me.0.mine).place + i) → me.0.room ≡ room
    → Allows (Staged room) slots id me word (λ _. x) (λ _. put (step slots word x 0 none) me x)
puts room slots id me i x word is_open behind inside where_it_is same_room s rule _ at _ = let r : Reservation = newest me.0.mine in let w : StageView = filled i x me.0 in let q : Reservation = record r { words = set r.words i x } in
    let cut = split_newest me.0.mine is_open in let same_row : row me.0.room r.round ≡ row room r.round = ap (λ (z : ℕ). row z r.round) same_room in let back : i ≡ word - word_of me.0.room r.round r.place = omega arith in
    let s_r = rule.sound r (id, me.0, zero, at, ap (λ (l : List Reservation). get_elem? l zero) cut.1) in
    let here : r.round ≡ rule.round = present room s rule id i x me.0 w r q cut.0 at cut.1 (ap (is.with_newest (λ r. record r { words = set r.words i x })) cut.1) is_open inside refl refl refl in
    let to_row : row room r.round ≡ row room rule.round = ap (row room) here in let to : word_of room rule.round (r.place + i) ≡ word = omega arith in (
      w,
      keeps,
      tt,
      subst (λ (z : ℕ). Staged room record { words = set s.words z x; homes = s.homes; views = set s.views id w }) to
          (writes room s rule id i x me.0 w r q cut.0 at cut.1 (ap (is.with_newest (λ r. record r { words = set r.words i x })) cut.1) is_open inside refl refl refl (refl, refl, refl, refl, refl) refl refl refl refl refl refl
          (λ t. absurd (true≢false (sym t ∙ is_open))) (λ _. get_or-set_other r.words i 0 x 0 (λ e. omega arith) ∙ s_r.still_open is_open) (refl, refl, refl) refl (λ t. absurd (true≢false (sym t ∙ is_open)))),
      (refl, ap (λ (z : ℕ). filled z x me.0) back),
    )

pub shuts : (room slots id : ℕ) (me : M) (header word : ℕ) → (newest me.0.mine).closed ≡ false → IsOneRecord (set (newest me.0.mine).words 0 header) → word ≡ word_of room (newest me.0.mine).round (newest me.0.mine).place
    → Allows (Staged room) slots id me word (λ _. header) (λ _. closed (step slots word header 0 none) me header)
shuts room slots id me header word is_open whole where_it_is s rule _ at _ = let r : Reservation = newest me.0.mine in let first = first_of s.views id me.0 at in let n : ℕ = length first.0.loads in let w : StageView = shut_with header n me.0 in let q : Reservation = record r { words = set r.words 0 header; closed = true; after = n } in
    let some_words : 0 < length r.words = (let l = length-set r.words 0 header in let f = some_record (set r.words 0 header) whole in omega arith) in let cut = split_newest me.0.mine is_open in let here : r.round ≡ rule.round = present room s rule id 0 header me.0 w r q cut.0 at cut.1 (ap (is.with_newest (λ r. record r { words = set r.words 0 header; closed = true; after = n })) cut.1) is_open some_words refl refl refl in
    let to_row : row room r.round ≡ row room rule.round = ap (row room) here in let to : word_of room rule.round (r.place + 0) ≡ word = omega arith in (
      w,
      keeps,
      tt,
      subst (λ (z : ℕ). Staged room record { words = set s.words z header; homes = s.homes; views = set s.views id w }) to
          (writes room s rule id 0 header me.0 w r q cut.0 at cut.1 (ap (is.with_newest (λ r. record r { words = set r.words 0 header; closed = true; after = n })) cut.1) is_open some_words refl refl refl (refl, refl, refl, refl, refl) refl refl refl refl refl refl
          (λ _. whole) (λ f. absurd (true≢false f)) (refl, refl, refl) refl (λ _ f e. let same : first.0 ≡ f = some-injective first.0 f (sym first.1 ∙ e) in (let k : length first.0.loads ≡ length f.loads = ap (λ (z : StageView). length z.loads) same in (omega arith, omega arith)))),
      (refl, (n, refl)),
    )

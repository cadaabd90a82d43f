-- The steps that end a round keep the rule of the stage.
use Rattle.std.proofs.Common.{◌≡◌, ◌≢◌, ◌⊎◌, ℕ, ◌+◌, ◌*◌, ◌<◌, ◌≤◌, eqb, Bool, true, false, List, [], ◌∷◌, ◌++◌, length, get_or, set, sym, refl, ap, ◌∙◌, subst, ⊎_elim, inl, inr, arith, le_refl, length-set, length-append, get_or-set_other, get_or-set_same, eq-eqb, ne_eqb, true≢false}
use mathlib.Core.Logic.{dite}
use mathlib.Core.Option.{none, some}
use native.Mathlib.Decide.{ℕ_discrete, dec_le}
use lib.ListN.{get_elem?, get_or-append}
use lib.Seq.{get_or-append-add}
use prog.Atomic.{either}
use Rattle.atomic_table.specs.Table.{step, keeps, stepped, Allows}
use Rattle.atomic_table.proofs.Lists.{at_set}
use Rattle.lc_stage.specs.declared.stage_view.Reservation.{Reservation}
use Rattle.lc_stage.specs.declared.stage_view.StageView.{StageView}
use Rattle.lc_stage.specs.declared.stage_view.Load.{Load}
use Rattle.lc_stage.specs.Staging.{row, word_of, end_of, hears, below, covered, total, Has, InLog, Sound, TakenInRound, EndedRow, Known, Staged, Honest, seal_weight, seal_of, round_of, offset_of, sealing, clearing, clearing_ended, reopening, latest, durable_at, HasReached, with_receipt, learns_durable, IsStable, knew_durable, knew_stored}
use Rattle.lc_stage.specs.Staging as is
use Rattle.lc_stage.proofs.Calls.{no_records}
use Rattle.lc_stage.proofs.Latest.{latest_one}
use Rattle.lc_stage.proofs.Rows.{row_fits, row_again, rows_apart}
use Rattle.lc_stage.proofs.Counting.{total_set, total_none, covered_none, below_zero}
use Rattle.lc_stage.proofs.Keeps.{St, M, head_or, tail, SamePlaces, at_place, ends_below, has_back, ended_back, loads_back, honest_back, sound_kept, knows_more, quiet, loads, tail_offset, tail_round, tail_unsealed}

-- the rule after a step of the seat id, from v to w, whatever becomes of the round
remade : (room : ℕ) (s : St) → (rule : Staged room s) → (id round offset : ℕ) (sealed : Bool) (cleared ended ended_cleared : ℕ) (w : StageView) (ws : List ℕ) → length ws ≡ length s.words → (sealed ≡ false → cleared ≡ 0)
    → get_or ws 0 0 ≡ round * 65536 + offset + seal_weight sealed → offset ≤ room → ((p : ℕ) → total (at_place round p) (set s.views id w) ≡ below p offset)
    → ((r : Reservation) → Has (set s.views id w) r → Sound room ws round cleared ended_cleared r) → ((p : ℕ) → offset ≤ p → p < room → get_or ws (word_of room round p) 0 ≡ 0) → ((p : ℕ) → p < cleared → get_or ws (word_of room round p) 0 ≡ 0)
    → get_or s.words 0 0 ≤ get_or ws 0 0 → get_or ws 1 0 ≡ get_or s.words 1 0 → Known ws id w
    → ((f : StageView) → get_elem? (set s.views id w) 0 ≡ some f → TakenInRound room ws (set s.views id w) round offset sealed cleared f) → ((f : StageView) → get_elem? (set s.views id w) 0 ≡ some f → EndedRow room ws round ended ended_cleared f)
    → ((f : StageView) → get_elem? (set s.views id w) 0 ≡ some f → Honest (set s.views id w) round f) → Staged room record { words = ws; homes = s.homes; views = set s.views id w }
remade room s rule id round offset sealed cleared ended ended_cleared w ws long unsealed tail_is fits tiled sound empty zeros up level known took before honest = record {
  round = round;
  offset = offset;
  sealed = sealed;
  cleared = cleared;
  ended = ended;
  ended_cleared = ended_cleared;
  uncleared = unsealed;
  wide = long ∙ rule.wide;
  tail_is = tail_is;
  fits = (fits, rule.fits.1);
  tiled = tiled;
  sound = sound;
  empty = empty;
  zeros = zeros;
  known = λ j u e. ⊎_elim (λ (t : (j ≡ id) × (w ≡ u)). subst (λ (z : ℕ × StageView). Known ws z.0 z.1) (λ i. (sym t.0 i, t.1 i)) known)
      (λ (t : (j ≢ id) × (get_elem? s.views j ≡ some u)). knows_more s.words ws j u u up (omega arith) (λ _. level) refl refl refl refl refl refl (λ _ o _. o) (rule.known j u t.1)) (at_set s.views id j w u e);
  took = took;
  before = before;
  honest = honest;
}

flusher_is : (vs : List StageView) (id : ℕ) (w g : StageView) → id ≡ 0 → get_elem? (set vs id w) 0 ≡ some g → w ≡ g
flusher_is vs id w g first e = ⊎_elim (λ (z : (0 ≡ id) × (w ≡ g)). z.1) (λ (z : (0 ≢ id) × (get_elem? vs 0 ≡ some g)). absurd (z.0 (sym first))) (at_set vs id 0 w g e)

reached_or : (x : ℕ) (v : StageView) → HasReached x v ⊎ (¬ HasReached x v)
reached_or x v = dite (dec_le 1 (length (latest v.mine).words)) (λ l. dite (dec_le (durable_at (latest v.mine)) x) (λ m. inl (l, m)) (λ n. inr (λ h. n h.1))) (λ n. inr (λ h. n h.0))

-- a load of the durable end
pub learns : (room slots id : ℕ) (me : M) → Allows (Staged room) slots id me 1 (λ n. n) (knew_durable (step slots 1 0 0 none) me)
learns room slots id me s rule _ at _ = let x : ℕ = get_or s.words 1 0 in let v : StageView = me.0 in let k = rule.known id v at in ⊎_elim
    (λ (h : HasReached x v). let w : StageView = with_receipt (learns_durable x v) in let one = latest_one v.mine h.0 in (
      w,
      keeps,
      tt,
      loads room s 1 id w (quiet room s rule id v w at refl (refl, refl, refl, refl, refl) (refl, refl, refl) record {
        seen = k.seen;
        durable = le_refl x;
        published = k.published;
        heard = k.heard;
        receipts = λ i r e. ⊎_elim (λ (z : latest v.mine ≡ r). subst (IsStable s.words v.mine) z (one.0, one.1, h.1)) (λ (t : (j : ℕ) × (get_elem? v.receipts j ≡ some r)). k.receipts t.0 r t.1) (head_or (latest v.mine) v.receipts r i e);
        stored = k.stored;
        flusher = k.flusher;
        first = k.first;
      } (honest_back room s rule id v w at refl refl)) me,
      (refl, k.durable, (λ _. refl), λ n. absurd (n h)),
    ))
    (λ (n : ¬ HasReached x v). let w : StageView = learns_durable x v in (
      w,
      keeps,
      tt,
      loads room s 1 id w (quiet room s rule id v w at refl (refl, refl, refl, refl, refl) (refl, refl, refl) record {
        seen = k.seen;
        durable = le_refl x;
        published = k.published;
        heard = k.heard;
        receipts = k.receipts;
        stored = k.stored;
        flusher = k.flusher;
        first = k.first;
      } (honest_back room s rule id v w at refl refl)) me,
      (refl, k.durable, (λ h. absurd (n h)), λ _. refl),
    )) (reached_or x v)

-- the same by the flusher, who knows what it stored
pub learns_stored : (room slots id : ℕ) (me : M) → me.0.flushes ≡ true → Allows (Staged room) slots id me 1 (λ n. n) (knew_stored (step slots 1 0 0 none) me)
learns_stored room slots id me flushes s rule alone at ready =
    let learnt = learns room slots id me s rule alone at ready in
    (learnt.0, learnt.1, learnt.2, learnt.3, ((rule.known id me.0 at).stored flushes, learnt.4))

-- the tail becomes sealed
pub seals : (room slots id : ℕ) (me : M) (old new : ℕ) → me.0.flushes ≡ true → seal_of old ≡ 0 → new ≡ old + 32768
    → Allows (Staged room) slots id me 0 (λ n. either (eqb n old) new n) (is.seals (step slots 0 old new none) me)
seals room slots id me old new flushes unsealed is_new s rule _ at _ = let x : ℕ = tail s in let f : StageView = me.0 in let known = rule.known id f at in let first : id ≡ 0 = known.flusher flushes in
    let at0 : get_elem? s.views 0 ≡ some f = subst (λ (z : ℕ). get_elem? s.views z ≡ some f) first at in let t = rule.took f at0 in let wide = rule.wide in dite (ℕ_discrete x old)
    (λ hit. let o = tail_offset room s rule in let open_yet : rule.sealed ≡ false = tail_unsealed room s rule (ap seal_of hit ∙ unsealed) in let none_cleared = rule.uncleared open_yet in let w : StageView = sealing (offset_of x) f in let ws : List ℕ = set s.words 0 new in
    let top : get_or ws 0 0 ≡ new = get_or-set_same s.words 0 new 0 (omega arith) in let t0 = rule.tail_is in let weight : seal_weight rule.sealed ≡ 0 = ap seal_weight open_yet in
    let still : SamePlaces s.words ws = λ j l. get_or-set_other s.words 0 j new 0 (λ e. omega arith) in
    let level : get_or ws 1 0 ≡ get_or s.words 1 0 = get_or-set_other s.words 0 1 new 0 (λ e. omega arith) in let n : ℕ = rule.round in
    let old_one : (r : Reservation) → Has (set s.views id w) r → Has s.views r = λ r h. has_back s.views id f w r at refl h in let stable = t.stable in
    let now : TakenInRound room ws (set s.views id w) n rule.offset true rule.cleared w = record {
      rounds = t.rounds;
      reach = t.reach;
      stands = λ p c l. still (word_of room n p) (omega arith) ∙ t.stands p c l;
      present = λ r h. t.present r (old_one r h);
      before = λ r h. t.before r (old_one r h);
      stable = omega arith;
      knows_seal = refl;
      knows_cleared = t.knows_cleared;
      knows_end = λ _. o;
      whole = t.whole;
      clears = λ l. absurd (omega arith);
    } in
    let made : Staged room record { words = ws; homes = s.homes; views = set s.views id w } = remade room s rule id n rule.offset true rule.cleared rule.ended rule.ended_cleared w ws (length-set s.words 0 new) (λ e. absurd (true≢false e)) (omega arith) rule.fits.0
    (λ p. let y = rule.tiled p in let e = total_set (at_place n p) s.views id f w at in let c : covered n p w.mine ≡ covered n p f.mine = refl in omega arith)
    (λ r h. sound_kept room s.words ws n rule.cleared rule.ended_cleared r still (rule.sound r (old_one r h)))
    (λ p l m. still (word_of room n p) (omega arith) ∙ rule.empty p l m) (λ p l. still (word_of room n p) (omega arith) ∙ rule.zeros p l) (omega arith) level
    (knows_more s.words ws id f w (omega arith) (omega arith) (λ _. level) refl refl refl refl refl refl (λ _ o _. o) known)
    (λ g e. subst (λ (y : StageView). TakenInRound room ws (set s.views id w) n rule.offset true rule.cleared y) (flusher_is s.views id w g first e) now) (ended_back room s rule id f w ws at (refl, refl, refl) (λ p _. still (word_of room (1 + n) p) (omega arith)) (omega arith)) (honest_back room s rule id f w at refl refl) in (
      w,
      keeps,
      tt,
      subst (λ b. Staged room (stepped s 0 (either b new x) id me.1 w keeps)) (sym (eq-eqb x old hit)) made,
      (refl, (λ _. (refl, tail_round room s rule ∙ sym t.rounds, (let y = t.reach in omega arith))), λ miss. absurd (miss hit)),
    ))
    (λ miss. let w : StageView = hears x f in (
      w,
      keeps,
      tt,
      subst (λ b. Staged room (stepped s 0 (either b new x) id me.1 w keeps)) (sym (ne_eqb x old miss))
          (loads room s 0 id w (quiet room s rule id f w at refl (refl, refl, refl, refl, refl) (refl, refl, refl) record { seen = known.seen; durable = known.durable; published = known.published; heard = le_refl x; receipts = known.receipts; stored = known.stored; flusher = known.flusher; first = known.first } (honest_back room s rule id f w at refl refl)) me),
      (refl, (λ hit. absurd (miss hit)), λ _. (refl, known.heard)),
    ))

-- a place of a sealed round, all of which was taken, is cleared
pub clears : (room slots id : ℕ) (me : M) (word : ℕ) → me.0.flushes ≡ true → me.0.sealed ≡ true → length me.0.taken ≡ me.0.sealed_at → me.0.cleared < me.0.sealed_at → word ≡ word_of room (length me.0.past) me.0.cleared
    → Allows (Staged room) slots id me word (λ _. 0) (λ _. is.clears_one (step slots word 0 0 none) me 0)
clears room slots id me word flushes is_sealed whole more word_is s rule _ at _ = let f : StageView = me.0 in let known = rule.known id f at in let first : id ≡ 0 = known.flusher flushes in
    let at0 : get_elem? s.views 0 ≡ some f = subst (λ (z : ℕ). get_elem? s.views z ≡ some f) first at in let t = rule.took f at0 in let wide = rule.wide in let n : ℕ = rule.round in let shut : rule.sealed ≡ true = sym t.knows_seal ∙ is_sealed in
    let end = t.knows_end shut in let c : ℕ = rule.cleared in let same = t.knows_cleared in let w : StageView = clearing f in let ws : List ℕ = set s.words word 0 in let fits = rule.fits.0 in let stable = t.stable in let count : row room (length f.past) ≡ row room n = ap (row room) t.rounds in let where_it_is : word ≡ word_of room n c = omega arith in let inside_row = row_fits room n in
    let top : get_or ws 0 0 ≡ tail s = get_or-set_other s.words word 0 0 0 (λ e. omega arith) in let level : get_or ws 1 0 ≡ get_or s.words 1 0 = get_or-set_other s.words word 1 0 0 (λ e. omega arith) in
    let still : (p : ℕ) → 1 + c ≤ p → get_or ws (word_of room n p) 0 ≡ get_or s.words (word_of room n p) 0 = λ p l. get_or-set_other s.words word (word_of room n p) 0 0 (λ e. omega arith) in
    let old_one : (r : Reservation) → Has (set s.views id w) r → Has s.views r = λ r h. has_back s.views id f w r at refl h in
    let now : TakenInRound room ws (set s.views id w) n rule.offset rule.sealed (1 + c) w = record {
      rounds = t.rounds;
      reach = t.reach;
      stands = λ p l m. still p l ∙ t.stands p (omega arith) m;
      present = λ r h. t.present r (old_one r h);
      before = λ r h. t.before r (old_one r h);
      stable = omega arith;
      knows_seal = t.knows_seal;
      knows_cleared = omega arith;
      knows_end = t.knows_end;
      whole = t.whole;
      clears = λ _. (shut, whole ∙ end, omega arith);
    } in
    let made : Staged room record { words = ws; homes = s.homes; views = set s.views id w } = remade room s rule id n rule.offset rule.sealed (1 + c) rule.ended rule.ended_cleared w ws (length-set s.words word 0) (λ e. absurd (true≢false (sym shut ∙ e))) (top ∙ rule.tail_is) fits
    (λ p. let y = rule.tiled p in let e = total_set (at_place n p) s.views id f w at in let z : covered n p w.mine ≡ covered n p f.mine = refl in omega arith)
    (λ r h. let o = rule.sound r (old_one r h) in record {
      of_round = o.of_round;
      filled = o.filled;
      inside = o.inside;
      stands = λ e i l m. still (r.place + i) m ∙ o.stands e i l (omega arith);
      stood = λ e i l m. let high = o.inside in let apart = rows_apart room r.round n (r.place + i) c e (omega arith) (omega arith) in get_or-set_other s.words word (word_of room r.round (r.place + i)) 0 0 (λ z. apart (omega arith)) ∙ o.stood e i l m;
      shut = o.shut;
      still_open = o.still_open;
    })
    (λ p l m. still p (omega arith) ∙ rule.empty p l m)
    (λ p l. dite (ℕ_discrete p c) (λ e. let to : word ≡ word_of room n p = omega arith in subst (λ (z : ℕ). get_or ws z 0 ≡ 0) to (get_or-set_same s.words word 0 0 (omega arith))) (λ d. get_or-set_other s.words word (word_of room n p) 0 0 (λ e. omega arith) ∙ rule.zeros p (omega arith)))
    (omega arith) level
    (knows_more s.words ws id f w (omega arith) (omega arith) (λ _. level) refl refl refl refl refl refl (λ _ o _. o) known)
    (λ g e. subst (λ (y : StageView). TakenInRound room ws (set s.views id w) n rule.offset rule.sealed (1 + c) y) (flusher_is s.views id w g first e) now)
    (ended_back room s rule id f w ws at (refl, refl, refl) (λ p l. let apart = rows_apart room n (1 + n) c p refl (omega arith) l in get_or-set_other s.words word (word_of room (1 + n) p) 0 0 (λ e. apart (omega arith))) (omega arith)) (honest_back room s rule id f w at refl refl) in
    (w, keeps, tt, made, (refl, refl))

-- a place of the round before is cleared
pub clears_ended : (room slots id : ℕ) (me : M) (word : ℕ) → me.0.flushes ≡ true → me.0.ended_cleared < me.0.ended → word ≡ word_of room (1 + length me.0.past) me.0.ended_cleared
    → Allows (Staged room) slots id me word (λ _. 0) (λ _. is.clears_ended (step slots word 0 0 none) me 0)
clears_ended room slots id me word flushes more word_is s rule _ at _ = let f : StageView = me.0 in let known = rule.known id f at in let first : id ≡ 0 = known.flusher flushes in
    let at0 : get_elem? s.views 0 ≡ some f = subst (λ (z : ℕ). get_elem? s.views z ≡ some f) first at in let t = rule.took f at0 in let b = rule.before f at0 in let wide = rule.wide in let n : ℕ = rule.round in
    let c : ℕ = rule.ended_cleared in let same = b.knows_cleared in let same_end = b.knows_ended in let w : StageView = clearing_ended f in let ws : List ℕ = set s.words word 0 in let fits = rule.fits.0 in let stable = t.stable in
    let high = b.inside.0 in let reach = t.reach in let count : row room (1 + length f.past) ≡ row room (1 + n) = ap (λ (z : ℕ). row room (1 + z)) t.rounds in let where_it_is : word ≡ word_of room (1 + n) c = omega arith in let inside_row = row_fits room (1 + n) in
    let top : get_or ws 0 0 ≡ tail s = get_or-set_other s.words word 0 0 0 (λ e. omega arith) in let level : get_or ws 1 0 ≡ get_or s.words 1 0 = get_or-set_other s.words word 1 0 0 (λ e. omega arith) in
    let still : (p : ℕ) → p < room → get_or ws (word_of room n p) 0 ≡ get_or s.words (word_of room n p) 0 = λ p l. let apart = rows_apart room n (1 + n) p c refl l (omega arith) in get_or-set_other s.words word (word_of room n p) 0 0 (λ e. apart (omega arith)) in
    let old_one : (r : Reservation) → Has (set s.views id w) r → Has s.views r = λ r h. has_back s.views id f w r at refl h in let clears = t.clears in
    let now : TakenInRound room ws (set s.views id w) n rule.offset rule.sealed rule.cleared w = record {
      rounds = t.rounds;
      reach = t.reach;
      stands = λ p l m. still p (omega arith) ∙ t.stands p l m;
      present = λ r h. t.present r (old_one r h);
      before = λ r h. t.before r (old_one r h);
      stable = omega arith;
      knows_seal = t.knows_seal;
      knows_cleared = t.knows_cleared;
      knows_end = t.knows_end;
      whole = t.whole;
      clears = t.clears;
    } in
    let ended_now : EndedRow room ws n rule.ended (1 + c) w = record {
      inside = (high, omega arith);
      empty = λ p l m. get_or-set_other s.words word (word_of room (1 + n) p) 0 0 (λ e. omega arith) ∙ b.empty p l m;
      zeros = λ p l. dite (ℕ_discrete p c) (λ e. let to : word ≡ word_of room (1 + n) p = omega arith in subst (λ (z : ℕ). get_or ws z 0 ≡ 0) to (get_or-set_same s.words word 0 0 (omega arith)))
          (λ d. get_or-set_other s.words word (word_of room (1 + n) p) 0 0 (λ e. omega arith) ∙ b.zeros p (omega arith));
      knows_ended = b.knows_ended;
      knows_cleared = omega arith;
      all_taken = b.all_taken;
      all_durable = λ k e. let a = b.all_durable k e in omega arith;
    } in
    let cleared_fits : rule.cleared ≤ room = dite (dec_le 1 rule.cleared) (λ l. let d = (t.clears l).2 in omega arith) (λ l. omega arith) in
    let made : Staged room record { words = ws; homes = s.homes; views = set s.views id w } = remade room s rule id n rule.offset rule.sealed rule.cleared rule.ended (1 + c) w ws (length-set s.words word 0) rule.uncleared (top ∙ rule.tail_is) fits
    (λ p. let y = rule.tiled p in let e = total_set (at_place n p) s.views id f w at in let z : covered n p w.mine ≡ covered n p f.mine = refl in omega arith)
    (λ r h. let o = rule.sound r (old_one r h) in let end = o.inside in record {
      of_round = o.of_round;
      filled = o.filled;
      inside = o.inside;
      stands = λ e i l m. still (r.place + i) (omega arith) ∙ o.stands e i l m;
      stood = λ e i l m. let to : row room (1 + n) ≡ row room r.round = ap (λ (z : ℕ). row room (1 + z)) (sym e) ∙ row_again room r.round in get_or-set_other s.words word (word_of room r.round (r.place + i)) 0 0 (λ z. omega arith) ∙ o.stood e i l (omega arith);
      shut = o.shut;
      still_open = o.still_open;
    })
    (λ p l m. still p m ∙ rule.empty p l m) (λ p l. still p (omega arith) ∙ rule.zeros p l) (omega arith) level
    (knows_more s.words ws id f w (omega arith) (omega arith) (λ _. level) refl refl refl refl refl refl (λ _ o _. o) known)
    (λ g e. subst (λ (y : StageView). TakenInRound room ws (set s.views id w) n rule.offset rule.sealed rule.cleared y) (flusher_is s.views id w g first e) now)
    (λ g e. subst (EndedRow room ws n rule.ended (1 + c)) (flusher_is s.views id w g first e) ended_now) (honest_back room s rule id f w at refl refl) in
    (w, keeps, tt, made, (refl, refl))

-- the next round begins in the other row, all of which is cleared, where all places of the ended one are taken and durable
pub reopens : (room slots id : ℕ) (me : M) (new : ℕ) → me.0.flushes ≡ true → me.0.sealed ≡ true → length me.0.taken ≡ me.0.sealed_at → me.0.published ≡ end_of me.0 → me.0.ended_cleared ≡ me.0.ended → new ≡ (1 + length me.0.past) * 65536
    → Allows (Staged room) slots id me 0 (λ _. new) (λ _. is.reopens (step slots 0 new 0 none) me new)
reopens room slots id me new flushes is_sealed whole durable all_clear is_new s rule _ at _ = let f : StageView = me.0 in let known = rule.known id f at in let first : id ≡ 0 = known.flusher flushes in
    let at0 : get_elem? s.views 0 ≡ some f = subst (λ (z : ℕ). get_elem? s.views z ≡ some f) first at in let t = rule.took f at0 in let wide = rule.wide in let n : ℕ = rule.round in let shut : rule.sealed ≡ true = sym t.knows_seal ∙ is_sealed in
    let end = t.knows_end shut in let same = t.knows_cleared in let w : StageView = reopening f in let ws : List ℕ = set s.words 0 new in let fits = rule.fits.0 in let narrow = rule.fits.1 in let stable = t.stable in let count = t.rounds in let t0 = rule.tail_is in
    let weight : seal_weight rule.sealed ≡ 32768 = ap seal_weight shut in
    let top : get_or ws 0 0 ≡ new = get_or-set_same s.words 0 new 0 (omega arith) in let level : get_or ws 1 0 ≡ get_or s.words 1 0 = get_or-set_other s.words 0 1 new 0 (λ e. omega arith) in
    let still : SamePlaces s.words ws = λ j l. get_or-set_other s.words 0 j new 0 (λ e. omega arith) in let b = rule.before f at0 in let b_end = b.knows_ended in let b_clear = b.knows_cleared in let stored = known.stored flushes in
    let old_one : (r : Reservation) → Has (set s.views id w) r → Has s.views r = λ r h. has_back s.views id f w r at refl h in
    let earlier : (r : Reservation) → Has (set s.views id w) r → r.round ≡ 1 + n → ⊥ = λ r h e. let o = (rule.sound r (old_one r h)).of_round in omega arith in
    let up : get_or s.words 0 0 ≤ get_or ws 0 0 = omega arith in
    let now : TakenInRound room ws (set s.views id w) (1 + n) 0 false 0 w = record {
      rounds = (let l = length-append f.past (f.taken ∷ []) in omega arith);
      reach = omega arith;
      stands = λ p _ l. absurd (omega arith);
      present = λ r h e. absurd (earlier r h e);
      before = λ r h l. dite (ℕ_discrete r.round n)
          (λ e. subst (λ (z : List ℕ). InLog z r) (sym (ap (λ (z : ℕ). get_or (f.past ++ f.taken ∷ []) z []) (e ∙ (sym count ∙ (omega arith))) ∙ get_or-append-add f.past (f.taken ∷ []) 0 []))
          (⊎_elim (λ (z : InLog f.taken r). z) (λ (z : length f.taken ≤ r.place). absurd (let b = ends_below room s rule r (old_one r h) e in let g = (rule.sound r (old_one r h)).filled in omega arith)) (t.present r (old_one r h) e)))
          (λ d. subst (λ (z : List ℕ). InLog z r) (sym (get_or-append f.past (f.taken ∷ []) [] r.round (omega arith))) (t.before r (old_one r h) (omega arith)));
      stable = (let y = t.reach in omega arith);
      knows_seal = refl;
      knows_cleared = refl;
      knows_end = λ e. absurd (true≢false (sym e));
      whole = no_records;
      clears = λ l. absurd (omega arith);
    } in
    let ended_now : EndedRow room ws (1 + n) rule.offset rule.cleared w = let again = row_again room n in let to : (p : ℕ) → word_of room (1 + (1 + n)) p ≡ word_of room n p = λ p. omega arith in record {
      inside = (fits, dite (dec_le 1 rule.cleared) (λ l. (t.clears l).2) (λ l. omega arith));
      empty = λ p l m. still (word_of room (1 + (1 + n)) p) (omega arith) ∙ (ap (λ (z : ℕ). get_or s.words z 0) (to p) ∙ rule.empty p l m);
      zeros = λ p l. still (word_of room (1 + (1 + n)) p) (omega arith) ∙ (ap (λ (z : ℕ). get_or s.words z 0) (to p) ∙ rule.zeros p l);
      knows_ended = end;
      knows_cleared = same;
      all_taken = λ k e. ap (λ (z : ℕ). length (get_or (f.past ++ f.taken ∷ []) z [])) (let z : k ≡ length f.past + 0 = omega arith in z) ∙ (ap (λ (z : List ℕ). length z) (get_or-append-add f.past (f.taken ∷ []) 0 []) ∙ (whole ∙ end));
      all_durable = λ k e. omega arith;
    } in
    let made : Staged room record { words = ws; homes = s.homes; views = set s.views id w } = remade room s rule id (1 + n) 0 false 0 rule.offset rule.cleared w ws (length-set s.words 0 new) (λ _. refl) (omega arith) (omega arith)
    (λ p. total_none (at_place (1 + n) p) (set s.views id w) (λ j v e. covered_none (1 + n) p v.mine (λ i r h y. earlier r (j, v, i, e, h) y)) ∙ sym (below_zero p))
    (λ r h. let o = rule.sound r (old_one r h) in record {
      of_round = (let y = o.of_round in omega arith);
      filled = o.filled;
      inside = o.inside;
      stands = λ e. absurd (earlier r h e);
      stood = λ e i l m. let here : r.round ≡ n = omega arith in still (word_of room r.round (r.place + i)) (omega arith) ∙ (ap (λ (z : ℕ). get_or s.words (word_of room z (r.place + i)) 0) here ∙ o.stands here i l m);
      shut = o.shut;
      still_open = o.still_open;
    })
    (λ p _ m. still (word_of room (1 + n) p) (omega arith) ∙ dite (dec_le rule.ended p) (λ l. b.empty p l m) (λ l. b.zeros p (omega arith)))
    (λ p l. absurd (omega arith)) up level
    (knows_more s.words ws id f w up (omega arith) (λ _. level) refl refl refl refl refl refl (λ _ o _. o) known)
    (λ g e. subst (λ (y : StageView). TakenInRound room ws (set s.views id w) (1 + n) 0 false 0 y) (flusher_is s.views id w g first e) now)
    (λ g e. subst (EndedRow room ws (1 + n) rule.offset rule.cleared) (flusher_is s.views id w g first e) ended_now) (λ g e. let b = loads_back s.views id f w g at refl e in let k : length g.loads ≡ length b.0.loads = ap (λ (z : List Load). length z) b.2 in ((λ j p l r h y. absurd (earlier r h y)), λ r h closed_r. let y = (rule.honest b.0 b.1).1 r (old_one r h) closed_r in omega arith)) in
    (w, keeps, tt, made, (refl, refl))

-- The flusher's steps keep the rule of the stage.
use Rattle.std.proofs.Common.{◌≡◌, ◌≢◌, ℕ, ◌+◌, ◌-◌, ◌/◌, ◌^◌, ◌<◌, ◌≤◌, true, false, List, [], ◌∷◌, ◌++◌, length, get_or, set, sym, refl, ap, ◌∙◌, subst, inl, inr, ⊎_elim, arith, le_refl, length-set, length-append, get_or-set_other, get_or-set_same}
use mathlib.Core.Logic.{dite}
use mathlib.Core.Option.{none, some}
use native.Mathlib.Decide.{ℕ_discrete, dec_le}
use lib.ListN.{get_elem?, get_or-append}
use lib.Seq.{get_or-append-add}
use Rattle.atomic_table.specs.Table.{step, keeps, Allows}
use Rattle.atomic_table.proofs.Lists.{at_set, at_snoc}
use Rattle.lc_stage.specs.declared.stage_view.Reservation.{Reservation}
use Rattle.lc_stage.specs.declared.stage_view.StageView.{StageView}
use Rattle.lc_stage.specs.declared.stage_view.Load.{Load}
use Rattle.lc_stage.specs.Staging.{row, word_of, place_in, below, covered, end_of, Has, InLog, TakenInRound, Known, Staged, Honest, AreRecords, load, loaded, taking, headed, copied, published}
use Rattle.lc_stage.proofs.Records.{header_tells, header_not_zero}
use Rattle.std.proofs.Math.ListN.{take}
use Rattle.std.proofs.lemmas.List.{take_at, take-append-le}
use Rattle.std.proofs.lemmas.Bool.{cases_Bool as open_or_closed}
use Rattle.lc_stage.proofs.Calls.{one_more}
use Rattle.lc_stage.proofs.Counting.{lies_in, lies_of}
use Rattle.lc_stage.proofs.Keeps.{St, M, tail, alone, ends_below, covers, SamePlaces, at_here, has_back, honest_back, ended_back, sound_kept, knows_more, rebuilt, quiet, loads}

-- a word that is not 0, after what was taken, is the header of a closed reservation of this round whose words stand
-- there
pub header_at : (room : ℕ) (s : St) → (rule : Staged room s) → (f : StageView) → get_elem? s.views 0 ≡ some f → length f.taken < room → get_or s.words (word_of room rule.round (length f.taken)) 0 ≢ 0 → f.cleared ≡ 0
    → (r : Reservation) × Has s.views r × (r.place ≡ length f.taken) × (r.closed ≡ true) × (r.round ≡ rule.round)
header_at room s rule f at fit full uncleared = let k : ℕ = length f.taken in let n : ℕ = rule.round in let t = rule.took f at in let none = t.knows_cleared in
    let inside : k < rule.offset = dite (dec_le rule.offset k) (λ l. absurd (full (rule.empty k l fit))) (λ n. omega arith) in let c = covers room s rule k inside in let r : Reservation = c.0 in
    let w = lies_of n k r c.2 in let begins = w.1 in let ends = w.2 in
    let there : r.place ≡ k = ⊎_elim (λ (z : InLog f.taken r). absurd (let e = z.1 in omega arith)) (λ (z : k ≤ r.place). omega arith) (t.present r c.1 w.0) in let sound = rule.sound r c.1 in
    (r, c.1, there, ⊎_elim (λ (z : r.closed ≡ true). z) (λ (z : r.closed ≡ false). absurd (full (let same : word_of room n (r.place + 0) ≡ word_of room n k = omega arith in ap (λ (y : ℕ). get_or s.words y 0) (sym same) ∙ (sound.stands w.0 0 sound.filled (omega arith) ∙ sound.still_open z)))) (open_or_closed r.closed), w.0)

-- the flusher's view is the one that its step has left
flusher_is : (vs : List StageView) (id : ℕ) (w g : StageView) → id ≡ 0 → get_elem? (set vs id w) 0 ≡ some g → w ≡ g
flusher_is vs id w g first e = ⊎_elim (λ (z : (0 ≡ id) × (w ≡ g)). z.1) (λ (z : (0 ≢ id) × (get_elem? vs 0 ≡ some g)). absurd (z.0 (sym first))) (at_set vs id 0 w g e)

-- the rule once a closed reservation after what was taken is taken
grown : (room : ℕ) (s : St) → (rule : Staged room s) → (f w : StageView) (r : Reservation) → get_elem? s.views 0 ≡ some f → Has s.views r → r.place ≡ length f.taken → r.closed ≡ true → r.round ≡ rule.round → f.cleared ≡ 0 → w.mine ≡ f.mine
    → w.past ≡ f.past → w.taken ≡ f.taken ++ r.words → w.sealed ≡ f.sealed → w.cleared ≡ f.cleared → w.sealed_at ≡ f.sealed_at → w.ended ≡ f.ended → w.ended_cleared ≡ f.ended_cleared → Known s.words 0 w → Honest s.views rule.round w → Staged room record { words = s.words; homes = s.homes; views = set s.views 0 w }
grown room s rule f w r at has there shut here uncleared mine past taken sealed cleared sealed_at same_end same_cleared known honest = let k : ℕ = length f.taken in let n : ℕ = length r.words in let m : ℕ = rule.round in let t = rule.took f at in let sound = rule.sound r has in let some_words = sound.filled in
    let long : length w.taken ≡ k + n = ap (λ (l : List ℕ). length l) taken ∙ length-append f.taken r.words in let none = t.knows_cleared in
    let up = ends_below room s rule r has here in
    let old : (o : Reservation) → Has (set s.views 0 w) o → Has s.views o = λ o h. has_back s.views 0 f w o at mine h in
    let in_taken : InLog w.taken r = (shut, omega arith, λ i l. ap (λ (z : List ℕ). get_or z (r.place + i) 0) taken ∙ (ap (λ (z : ℕ). get_or (f.taken ++ r.words) (z + i) 0) there ∙ get_or-append-add f.taken r.words i 0), subst AreRecords (sym (ap (take r.place) taken ∙ take_at f.taken r.words r.place (sym there))) t.whole) in
    let now : TakenInRound room s.words (set s.views 0 w) m rule.offset rule.sealed rule.cleared w = record {
      rounds = ap (λ (l : List (List ℕ)). length l) past ∙ t.rounds;
      reach = omega arith;
      stands = λ p c l. dite (dec_le k p)
          (λ g. let i : ℕ = p - k in let is : p ≡ k + i = omega arith in let to : word_of room m (r.place + i) ≡ word_of room m p = omega arith in ap (λ (z : ℕ). get_or s.words z 0) (sym to) ∙ (sound.stands here i (omega arith) (omega arith)
          ∙ sym (ap (λ (l : List ℕ). get_or l p 0) taken ∙ (ap (λ (z : ℕ). get_or (f.taken ++ r.words) z 0) is ∙ get_or-append-add f.taken r.words i 0))))
          (λ b. let l' : p < k = omega arith in t.stands p c l' ∙ sym (ap (λ (l : List ℕ). get_or l p 0) taken ∙ get_or-append f.taken r.words 0 p l'));
      present = λ o h e. ⊎_elim (λ (z : InLog f.taken o). inl (still_in f.taken r.words w.taken o taken z))
          (λ (z : k ≤ o.place). dite (dec_le (k + n) o.place) (λ g. inr (omega arith))
          (λ b. let full = (rule.sound o (old o h)).filled in let e1 = lies_in m o.place o e (omega arith) (omega arith) in let e2 = lies_in m o.place r here (omega arith) (omega arith) in
          let same : r ≡ o = (alone room s rule o.place r o has (old o h) (omega arith) (omega arith)).0 in
          inl (subst (λ (y : Reservation). InLog w.taken y) same in_taken))) (t.present o (old o h) e);
      before = λ o h l. subst (λ (z : List (List ℕ)). InLog (get_or z o.round []) o) (sym past) (t.before o (old o h) l);
      stable = (let b = t.stable in omega arith);
      knows_seal = sealed ∙ t.knows_seal;
      knows_cleared = cleared ∙ t.knows_cleared;
      knows_end = λ y. sealed_at ∙ t.knows_end y;
      whole = subst AreRecords (sym taken) (one_more f.taken r.words t.whole (sound.shut shut));
      clears = λ l. absurd (omega arith);
    } in
    rebuilt room s rule 0 rule.offset f w s.words at refl rule.tail_is (le_refl rule.offset) rule.fits.0 (λ p. ap (λ (z : List Reservation). covered m p z + below p rule.offset) mine)
    (λ o h. rule.sound o (old o h)) rule.empty rule.zeros (le_refl (get_or s.words 1 0)) (λ _. refl) known
    (λ g e. subst (λ (y : StageView). TakenInRound room s.words (set s.views 0 w) m rule.offset rule.sealed rule.cleared y) (flusher_is s.views 0 w g refl e) now)
    (ended_back room s rule 0 f w s.words at (past, same_end, same_cleared) (λ _ _. refl) (le_refl (get_or s.words 1 0)))
    (λ g e. let same : length w.loads ≡ length g.loads = ap (λ (z : StageView). length z.loads) (flusher_is s.views 0 w g refl e) in ((λ j p l o h. honest.0 j p (ap (λ (z : StageView). get_elem? z.loads j) (flusher_is s.views 0 w g refl e) ∙ l) o (old o h)), λ o h shut. let y = honest.1 o (old o h) shut in omega arith))
  where
    still_in : (xs ys zs : List ℕ) (o : Reservation) → zs ≡ xs ++ ys → InLog xs o → InLog zs o
    still_in xs ys zs o is h = let e = h.1 in let long : length zs ≡ length xs + length ys = ap (λ (l : List ℕ). length l) is ∙ length-append xs ys in
        (h.0, omega arith, λ i l. ap (λ (z : List ℕ). get_or z (o.place + i) 0) is ∙ (get_or-append xs ys 0 (o.place + i) (omega arith) ∙ h.2 i l), subst AreRecords (sym (ap (take o.place) is ∙ take-append-le o.place xs ys (omega arith))) h.3)

loads_known : (ws : List ℕ) (id : ℕ) (v : StageView) (p x : ℕ) → Known ws id v → Known ws id (loaded p x v)
loads_known ws id v p x k = knows_more ws ws id v (loaded p x v) (le_refl (get_or ws 0 0)) (le_refl (get_or ws 1 0)) (λ _. refl) refl refl refl refl refl refl (λ _ o _. o) k

takes_known : (ws : List ℕ) (id : ℕ) (v : StageView) (p x : ℕ) (xs : List ℕ) → Known ws id v → Known ws id (taking xs (loaded p x v))
takes_known ws id v p x xs k = knows_more ws ws id v (taking xs (loaded p x v)) (le_refl (get_or ws 0 0)) (le_refl (get_or ws 1 0)) (λ _. refl) refl refl refl refl refl refl (λ _ o _. o) k

-- nothing is cleared where a word stands after what was taken
uncleared : (room : ℕ) (s : St) → (rule : Staged room s) → (f : StageView) → get_elem? s.views 0 ≡ some f → length f.taken < room → get_or s.words (word_of room rule.round (length f.taken)) 0 ≢ 0 → f.cleared ≡ 0
uncleared room s rule f at fit full = let t = rule.took f at in let c = t.knows_cleared in dite (dec_le 1 rule.cleared) (λ l. absurd (full (let a = (t.clears l).1 in rule.empty (length f.taken) (omega arith) fit))) (λ n. omega arith)

-- a closed reservation of this round shows its header
closed_shows : (room : ℕ) (s : St) → (rule : Staged room s) → (r : Reservation) → Has s.views r → r.round ≡ rule.round → r.closed ≡ true → rule.cleared ≤ r.place → get_or s.words (word_of room rule.round r.place) 0 ≢ 0
closed_shows room s rule r h here shut low zero_there = let sound = rule.sound r h in let to : word_of room rule.round (r.place + 0) ≡ word_of room rule.round r.place = omega arith in
    header_not_zero r.words (sound.shut shut) (sym (sound.stands here 0 sound.filled (omega arith)) ∙ (ap (λ (z : ℕ). get_or s.words z 0) to ∙ zero_there))

-- none that is closed begins after what was taken where a 0 stands
none_closed : (room : ℕ) (s : St) → (rule : Staged room s) → (f : StageView) → get_elem? s.views 0 ≡ some f → get_or s.words (word_of room rule.round (length f.taken)) 0 ≡ 0 → (r : Reservation) → Has s.views r → r.round ≡ rule.round → r.place ≡ length f.taken → r.closed ≡ true → ⊥
none_closed room s rule f at zero_there r h here there shut = let t = rule.took f at in dite (dec_le 1 rule.cleared)
    (λ l. let a = (t.clears l).1 in let b = ends_below room s rule r h here in let g = (rule.sound r h).filled in absurd (omega arith))
    (λ n. closed_shows room s rule r h here shut (omega arith) (ap (λ (z : ℕ). get_or s.words (word_of room rule.round z) 0) there ∙ zero_there))

loads_honest : (vs : List StageView) (round : ℕ) (f w : StageView) (p x : ℕ) → w.loads ≡ f.loads ++ load p x ∷ [] → Honest vs round f → (x ≡ 0 → (r : Reservation) → Has vs r → r.round ≡ round → r.place ≡ p → r.closed ≡ true → ⊥) → Honest vs round w
loads_honest vs round f w p x more h nobody = let long : length w.loads ≡ length f.loads + 1 = ap (λ (z : List Load). length z) more ∙ length-append f.loads (load p x ∷ []) in (
  (λ j q l r y here there shut. ⊎_elim (λ (z : get_elem? f.loads j ≡ some (load q 0)). h.0 j q z r y here there shut)
      (λ (z : load p x ≡ load q 0). absurd (nobody (ap (λ (k : Load). k.word) z) r y here (there ∙ sym (ap (λ (k : Load). k.place) z)) shut))
      (at_snoc f.loads (load p x) (load q 0) j (ap (λ (z : List Load). get_elem? z j) (sym more) ∙ l))),
  λ r y shut. let e = h.1 r y shut in omega arith,
)

flushed : (room : ℕ) (s : St) → (rule : Staged room s) → (id : ℕ) (f w : StageView) → id ≡ 0 → get_elem? s.views id ≡ some f → w.mine ≡ f.mine → Honest s.views rule.round w → (g : StageView) → get_elem? (set s.views id w) 0 ≡ some g → Honest (set s.views id w) rule.round g
flushed room s rule id f w first at same h g e = let long : length w.loads ≡ length g.loads = ap (λ (z : StageView). length z.loads) (flusher_is s.views id w g first e) in ((λ j p l r y. h.0 j p (ap (λ (z : StageView). get_elem? z.loads j) (flusher_is s.views id w g first e) ∙ l) r (has_back s.views id f w r at same y)), λ r y shut. let k = h.1 r (has_back s.views id f w r at same y) shut in omega arith)

pub heads : (room slots id : ℕ) (me : M) (word : ℕ) → me.0.flushes ≡ true → word ≡ word_of room (length me.0.past) (length me.0.taken) → length me.0.taken < room → me.0.room ≡ room
    → Allows (Staged room) slots id me word (λ n. n) (headed (step slots word 0 0 none) me)
heads room slots id me word flushes word_is fit same_room s rule _ at _ = let f : StageView = me.0 in let k : ℕ = length f.taken in let x : ℕ = get_or s.words word 0 in let known = rule.known id f at in let first : id ≡ 0 = known.flusher flushes in
    let at0 : get_elem? s.views 0 ≡ some f = subst (λ (z : ℕ). get_elem? s.views z ≡ some f) first at in
    let count : row room (length f.past) ≡ row room rule.round = ap (row room) (rule.took f at0).rounds in let where_it_is : word ≡ word_of room rule.round k = omega arith in
    let q : ℕ = place_in f word in let same_row : row f.room (length f.past) ≡ row room (length f.past) = ap (λ (z : ℕ). row z (length f.past)) same_room in let is_place : q ≡ k = omega arith in dite (ℕ_discrete x 0)
    (λ zero_there. let w : StageView = loaded q x f in
    (w, keeps, tt, loads room s word id w (quiet room s rule id f w at refl (refl, refl, refl, refl, refl) (refl, refl, refl) (loads_known s.words id f q x known) (flushed room s rule id f w first at refl (loads_honest s.views rule.round f w q x refl (rule.honest f at0) (λ _ r h here there shut. none_closed room s rule f at0 (ap (λ (z : ℕ). get_or s.words z 0) (sym where_it_is) ∙ zero_there) r h here (omega arith) shut)))) me, (refl, (λ _. refl), λ not. absurd (not zero_there))))
    (λ full. let stands_there : get_or s.words (word_of room rule.round (length f.taken)) 0 ≢ 0 = λ e. full (ap (λ (z : ℕ). get_or s.words z 0) where_it_is ∙ e) in let none = uncleared room s rule f at0 fit stands_there in let h = header_at room s rule f at0 fit stands_there none in let r : Reservation = h.0 in let w : StageView = taking r.words (loaded q x f) in let sound = rule.sound r h.1 in let there = h.2 in
    let kept : Staged room record { words = s.words; homes = s.homes; views = set s.views 0 w } = grown room s rule f w r at0 h.1 h.2 h.3 h.4 none refl refl refl refl refl refl refl refl (subst (λ (z : ℕ). Known s.words z w) first (takes_known s.words id f q x r.words known)) (loads_honest s.views rule.round f w q x refl (rule.honest f at0) (λ z. absurd (full z))) in
    let some_words = sound.filled in let fits = rule.fits.0 in let b = ends_below room s rule r h.1 h.4 in let to : word_of room rule.round (r.place + 0) ≡ word = omega arith in
    let head : get_or r.words 0 0 ≡ x = sym (sound.stands h.4 0 some_words (let z = (rule.took f at0).knows_cleared in omega arith)) ∙ ap (λ (z : ℕ). get_or s.words z 0) to in (
      w,
      keeps,
      tt,
      loads room s word id w (subst (λ (z : ℕ). Staged room record { words = s.words; homes = s.homes; views = set s.views z w }) (sym first) kept) me,
      (refl, (λ e. absurd (full e)), λ _. (r.words, refl, sound.shut h.3, head, ap (λ (z : ℕ). z / 2 ^ 32) (sym head) ∙ header_tells r.words (sound.shut h.3), omega arith, none)),
    ))

pub copies : (room slots id : ℕ) (me : M) (place word : ℕ) → me.0.flushes ≡ true → me.0.cleared ≡ 0 → me.0.room ≡ room → place < length me.0.taken → word ≡ word_of room (length me.0.past) place
    → Allows (Staged room) slots id me word (λ n. n) (copied (step slots word 0 0 none) me)
copies room slots id me place word flushes nothing same_room high word_is s rule _ at _ = let f : StageView = me.0 in let x : ℕ = get_or s.words word 0 in let known = rule.known id f at in let first : id ≡ 0 = known.flusher flushes in
    let at0 : get_elem? s.views 0 ≡ some f = subst (λ (z : ℕ). get_elem? s.views z ≡ some f) first at in let t = rule.took f at0 in let p : ℕ = place_in f word in
    let count : row room (length f.past) ≡ row room rule.round = ap (row room) t.rounds in let same_row : row f.room (length f.past) ≡ row room (length f.past) = ap (λ (z : ℕ). row z (length f.past)) same_room in
    let is_place : p ≡ place = omega arith in let back : word_of room rule.round p ≡ word = omega arith in let w : StageView = loaded p x f in (
      w,
      keeps,
      tt,
      loads room s word id w (quiet room s rule id f w at refl (refl, refl, refl, refl, refl) (refl, refl, refl) (loads_known s.words id f p x known) (flushed room s rule id f w first at refl (loads_honest s.views rule.round f w p x refl (rule.honest f at0)
          (λ z q h here there shut. closed_shows room s rule q h here shut (let y = t.knows_cleared in omega arith) (let e : word_of room rule.round q.place ≡ word = omega arith in ap (λ (y : ℕ). get_or s.words y 0) e ∙ z))))) me,
      (refl, refl, ap (λ (z : ℕ). get_or s.words z 0) (sym back) ∙ t.stands p (let z = t.knows_cleared in omega arith) (omega arith)),
    )

pub publishes : (room slots id : ℕ) (me : M) (end : ℕ) → me.0.flushes ≡ true → me.0.room ≡ room → end ≡ end_of me.0 → Allows (Staged room) slots id me 1 (λ _. end) (λ _. published (step slots 1 end 0 none) me end)
publishes room slots id me end flushes same_room is_end s rule _ at _ = let f : StageView = me.0 in let known = rule.known id f at in let first : id ≡ 0 = known.flusher flushes in
    let at0 : get_elem? s.views 0 ≡ some f = subst (λ (z : ℕ). get_elem? s.views z ≡ some f) first at in let t = rule.took f at0 in let w : StageView = record f { published = end } in let ws : List ℕ = set s.words 1 end in let wide = rule.wide in
    let low = t.stable in let count = t.rounds in let top : get_or ws 0 0 ≡ tail s = get_or-set_other s.words 1 0 end 0 (λ e. omega arith) in let now : get_or ws 1 0 ≡ end = get_or-set_same s.words 1 end 0 (omega arith) in
    let still : SamePlaces s.words ws = λ j l. get_or-set_other s.words 1 j end 0 (λ e. omega arith) in let m : ℕ = rule.round in
    let k1 = known.seen in let k2 = known.durable in let k4 = known.heard in let reach = t.reach in let after : St = record { words = ws; homes = s.homes; views = set s.views id w } in
    let old : (o : Reservation) → Has (set s.views id w) o → Has s.views o = λ o h. has_back s.views id f w o at refl h in
    let mine : TakenInRound room ws (set s.views id w) m rule.offset rule.sealed rule.cleared w = record {
      rounds = t.rounds;
      reach = t.reach;
      stands = λ p c l. still (word_of room m p) (omega arith) ∙ t.stands p c l;
      present = λ o h. t.present o (old o h);
      before = λ o h. t.before o (old o h);
      stable = omega arith;
      knows_seal = t.knows_seal;
      knows_cleared = t.knows_cleared;
      knows_end = t.knows_end;
      whole = t.whole;
      clears = t.clears;
    } in
    let kept : Staged room after = rebuilt room s rule id rule.offset f w ws at (length-set s.words 1 end) (top ∙ rule.tail_is) (le_refl rule.offset) rule.fits.0 (λ p. refl)
    (λ o h. sound_kept room s.words ws m rule.cleared rule.ended_cleared o still (rule.sound o (old o h)))
    (λ p l c. still (word_of room m p) (omega arith) ∙ rule.empty p l c) (λ p l. still (word_of room m p) (omega arith) ∙ rule.zeros p l) (omega arith) (λ other. absurd (other first))
    record { seen = omega arith; durable = omega arith; published = omega arith; heard = omega arith; receipts = λ i r e. (let x = known.receipts i r e in let y = x.2 in (x.0, x.1, omega arith)); stored = λ _. now; flusher = known.flusher; first = known.first }
    (λ g e. subst (λ (y : StageView). TakenInRound room ws (set s.views id w) m rule.offset rule.sealed rule.cleared y) (flusher_is s.views id w g first e) mine) (ended_back room s rule id f w ws at (refl, refl, refl) (λ p _. still (word_of room (1 + m) p) (omega arith)) (omega arith)) (honest_back room s rule id f w at refl refl) in
    let there : get_elem? (set s.views id w) 0 ≡ some w = subst (λ (z : ℕ). get_elem? (set s.views id w) z ≡ some w) first (at_here s.views id f w at) in (
      w,
      keeps,
      tt,
      kept,
      (refl, refl, (is_end, (let y = known.published in omega arith))),
    )

-- What a committer's view becomes as a record is staged.
use Rattle.std.proofs.Common.{◌≡◌, ℕ, ◌+◌, ◌*◌, ◌<◌, Bool, true, false, List, [], ◌∷◌, length, get_or, set, refl, sym, ap, subst, ◌∙◌, arith, length-set, get_or-set_other, get_or-set_same, eq-eqb, ne_eqb, inl, inr, true≢false}
use mathlib.Core.Logic.{dite}
use native.Mathlib.Decide.{ℕ_discrete}
use Rattle.std.proofs.lemmas.List.{ext_get_or}
use Rattle.std.specs.Prelude.{cond, nat_lt}
use Rattle.lc_stage.proofs.Latest.{latest_one}
use Rattle.std.proofs.lemmas.Bool.{lt-ltb}
use Rattle.lc_stage.specs.declared.stage_view.StageView.{StageView}
use Rattle.lc_stage.specs.declared.stage_view.Reservation.{Reservation}
use Rattle.lc_stage.specs.Staging.{saw, reserved, filled, shut_with, latest, later, rank, LieBelow, newest, with_newest, offset_of, round_of}
use Rattle.lc_node.specs.Stages.{Closes, Sees, Wins, IsFilling, with_words}

pub wins : (v u w : StageView) (at n : ℕ) → Sees v u → at ≡ u.seen → w ≡ reserved at n u → LieBelow at u.mine → Wins n v w
wins v u w at n sees last is below = let seen : w.seen ≡ u.seen = ap (λ (z : StageView). z.seen) is in (
  is ∙ (λ k. reserved ((last ∙ sym seen) k) n ((sees ∙ ap (λ (m : ℕ). saw m v) (sym seen)) k)),
  subst (λ (x : ℕ). LieBelow x v.mine) (last ∙ sym seen) (subst (λ (l : List Reservation). LieBelow at l) (ap (λ (z : StageView). z.mine) sees) below),
)

-- what lies after all that were closed is the last of them
last_behind : (r : Reservation) (mine : List Reservation) (at : ℕ) → r.closed ≡ true → 0 < length r.words → r.round ≡ round_of at → r.place ≡ offset_of at → LieBelow at mine → (latest mine).place < 65536 → latest (r ∷ mine) ≡ r
last_behind r mine at shut some round place below near =
    ap (λ (b : Bool). cond b (later r (latest mine)) (latest mine)) shut ∙ ap (λ (b : Bool). cond b r (latest mine)) lower
  where
    mine_rank : rank r ≡ 1 + r.round * 65536 + r.place
    mine_rank = ap (λ (b : Bool). cond b 0 (1 + r.round * 65536 + r.place)) (ne_eqb (length r.words) 0 (λ e. absurd (omega arith)))

    lower : nat_lt (rank (latest mine)) (rank r) ≡ true
    lower = dite (ℕ_discrete (length (latest mine).words) 0)
        (λ none. let zero_rank : rank (latest mine) ≡ 0 = ap (λ (b : Bool). cond b 0 (1 + (latest mine).round * 65536 + (latest mine).place)) (eq-eqb (length (latest mine).words) 0 none) in
        let same = mine_rank in lt-ltb (rank (latest mine)) (rank r) (omega arith))
        (λ words. let own = latest_one mine (omega arith) in
        let other : rank (latest mine) ≡ 1 + (latest mine).round * 65536 + (latest mine).place = ap (λ (b : Bool). cond b 0 (1 + (latest mine).round * 65536 + (latest mine).place)) (ne_eqb (length (latest mine).words) 0 words) in
        let same = mine_rank in
        elim (below (latest mine) own.0) [
          | inl earlier ↦ lt-ltb (rank (latest mine)) (rank r) (omega arith)
          | inr here ↦ (let a = here.0 in let b = here.1 in lt-ltb (rank (latest mine)) (rank r) (omega arith))
        ])

newest_with : (us : List ℕ) (l : List Reservation) → (newest l).closed ≡ false → newest (with_newest (λ r. record r { words = us }) l) ≡ record (newest l) { words = us }
newest_with us [] e = absurd (true≢false e)
newest_with us (r ∷ rs) e = refl

pub still_open : (v w : StageView) (words : List ℕ) (i : ℕ) → (newest v.mine).closed ≡ false → (f : IsFilling v words i w) → newest w.mine ≡ record (newest v.mine) { words = f.filled }
still_open v w words i shut f = ap (λ (z : StageView). newest z.mine) f.is ∙ newest_with f.filled v.mine shut

-- with its header the record is whole
pub with_header : (filled words : List ℕ) → length filled ≡ length words → 0 < length words → ((j : ℕ) → 0 < j → j < length words → get_or filled j 0 ≡ get_or words j 0) → set filled 0 (get_or words 0 0) ≡ words
with_header filled words long some same = ext_get_or 0 (set filled 0 (get_or words 0 0)) words (length-set filled 0 (get_or words 0 0) ∙ long)
    (λ i l. dite (ℕ_discrete i 0) (λ e. ap (λ (k : ℕ). get_or (set filled 0 (get_or words 0 0)) k 0) e ∙ (get_or-set_same filled 0 (get_or words 0 0) 0 (omega arith) ∙ ap (λ (k : ℕ). get_or words k 0) (sym e)))
    (λ n. get_or-set_other filled 0 i (get_or words 0 0) 0 n ∙ same i (omega arith) (let s = length-set filled 0 (get_or words 0 0) in omega arith)))

pub closes : (v w z y : StageView) (words : List ℕ) (n after : ℕ) → (latest v.mine).place < 65536 → Wins n v w → (f : IsFilling w words (length words) z) → 0 < length words → y ≡ shut_with (get_or words 0 0) after z → Closes words v y
closes v w z y words n after near won f some is = let seen : w.seen ≡ w.seen = refl in let at : ℕ = w.seen in
    let opened : z ≡ with_words f.filled (reserved at n (saw at v)) = f.is ∙ ap (with_words f.filled) won.0 in
    let shut : y ≡ shut_with (get_or words 0 0) after (with_words f.filled (reserved at n (saw at v))) = is ∙ ap (shut_with (get_or words 0 0) after) opened in
    let same_seen : y.seen ≡ at = ap (λ (u : StageView). u.seen) shut in record {
      reservation = record { round = round_of at; place = offset_of at; words = set f.filled 0 (get_or words 0 0); closed = true; after = after };
      closed = refl;
      words_are = with_header f.filled words f.long some f.same;
      of_tail = (ap round_of (sym same_seen), ap offset_of (sym same_seen));
      last = ap (λ (u : StageView). latest u.mine) shut ∙ last_behind (record { round = round_of at; place = offset_of at; words = set f.filled 0 (get_or words 0 0); closed = true; after = after }) v.mine at refl (let n1 = length-set f.filled 0 (get_or words 0 0) in let n2 = f.long in omega arith) refl refl won.1 near;
      is = shut ∙ ap (λ (k : ℕ). record v { seen = k; mine = record { round = round_of at; place = offset_of at; words = set f.filled 0 (get_or words 0 0); closed = true; after = after } ∷ v.mine }) (sym same_seen);
    }

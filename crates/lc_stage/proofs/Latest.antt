-- The last of a seat's closed records.
use Rattle.std.proofs.Common.{◌≡◌, ◌⊎◌, zero, suc, ◌+◌, ◌*◌, ◌<◌, ◌≤◌, cond, eqb, nat_lt, Bool, true, false, List, [], ◌∷◌, ◌++◌, length, sym, refl, ap, ◌∙◌, subst, ⊎_elim, arith}
use mathlib.Core.Logic.{dite}
use native.Mathlib.Decide.{dec_le}
use Rattle.std.proofs.lemmas.Bool.{cases_Bool as closed_or, lt-ltb as is_less, le-ltb as not_less}
use Rattle.lc_stage.specs.declared.stage_view.Reservation.{Reservation}
use Rattle.lc_stage.specs.declared.receipt.Receipt.{Receipt}
use Rattle.lc_stage.specs.Staging.{Owns, rank, later, latest, reservation}
use Rattle.lc_stage.specs.Receipts.{rank_in, IsReceiptOf}

pub later_first : (q r : Reservation) → rank r < rank q → later q r ≡ q
later_first q r l = ap (λ (b : Bool). cond b q r) (is_less (rank r) (rank q) l)

pub later_second : (q r : Reservation) → rank q ≤ rank r → later q r ≡ r
later_second q r l = ap (λ (b : Bool). cond b q r) (not_less (rank r) (rank q) l)

assoc : (a b c : Reservation) → later a (later b c) ≡ later (later a b) c
assoc a b c = dite (dec_le (1 + rank c) (rank b))
    (λ (l : 1 + rank c ≤ rank b). dite (dec_le (1 + rank b) (rank a))
    (λ (m : 1 + rank b ≤ rank a). ap (later a) (later_first b c (omega arith)) ∙ (later_first a b (omega arith) ∙ (sym (later_first a c (omega arith)) ∙ ap (λ (z : Reservation). later z c) (sym (later_first a b (omega arith))))))
    (λ m. ap (later a) (later_first b c (omega arith)) ∙ (later_second a b (omega arith) ∙ (sym (later_first b c (omega arith)) ∙ ap (λ (z : Reservation). later z c) (sym (later_second a b (omega arith)))))))
    (λ l. dite (dec_le (1 + rank b) (rank a))
    (λ (m : 1 + rank b ≤ rank a). ap (later a) (later_second b c (omega arith)) ∙ ap (λ (z : Reservation). later z c) (sym (later_first a b (omega arith))))
    (λ m. ap (later a) (later_second b c (omega arith)) ∙ (later_second a c (omega arith) ∙ (sym (later_second b c (omega arith)) ∙ ap (λ (z : Reservation). later z c) (sym (later_second a b (omega arith)))))))

of_closed : (r : Reservation) (rs : List Reservation) → r.closed ≡ true → latest (r ∷ rs) ≡ later r (latest rs)
of_closed r rs e = ap (λ (b : Bool). cond b (later r (latest rs)) (latest rs)) e

of_open : (r : Reservation) (rs : List Reservation) → r.closed ≡ false → latest (r ∷ rs) ≡ latest rs
of_open r rs e = ap (λ (b : Bool). cond b (later r (latest rs)) (latest rs)) e

-- that of two seats together is the later of theirs
pub latest_append : (xs ys : List Reservation) → latest (xs ++ ys) ≡ later (latest xs) (latest ys)
latest_append [] ys = sym (later_second (reservation 0 0 [] true) (latest ys) (omega arith))
latest_append (x ∷ xs) ys = ⊎_elim
    (λ (e : x.closed ≡ true). of_closed x (xs ++ ys) e ∙ (ap (later x) (latest_append xs ys) ∙ (assoc x (latest xs) (latest ys) ∙ ap (λ (z : Reservation). later z (latest ys)) (sym (of_closed x xs e)))))
    (λ (e : x.closed ≡ false). of_open x (xs ++ ys) e ∙ (latest_append xs ys ∙ ap (λ (z : Reservation). later z (latest ys)) (sym (of_open x xs e)))) (closed_or x.closed)

-- the last of the closed reservations is one of them
pub latest_one : (rs : List Reservation) → 0 < length (latest rs).words → Owns rs (latest rs) × ((latest rs).closed ≡ true)
latest_one [] h = absurd (omega arith)
latest_one (r ∷ rs) h = let rest : 0 < length (latest rs).words → Owns rs (latest rs) × ((latest rs).closed ≡ true) = latest_one rs in
    let behind : latest (r ∷ rs) ≡ latest rs → Owns (r ∷ rs) (latest (r ∷ rs)) × ((latest (r ∷ rs)).closed ≡ true) = λ e. let t = rest (subst (λ (z : Reservation). 0 < length z.words) e h) in subst (λ (z : Reservation). Owns (r ∷ rs) z × (z.closed ≡ true)) (sym e) ((suc t.0.0, t.0.1), t.1) in ⊎_elim
    (λ (e : r.closed ≡ true). dite (dec_le (1 + rank (latest rs)) (rank r))
    (λ (l : 1 + rank (latest rs) ≤ rank r). subst (λ (z : Reservation). Owns (r ∷ rs) z × (z.closed ≡ true)) (sym (of_closed r rs e ∙ later_first r (latest rs) (omega arith))) ((zero, refl), e))
    (λ l. behind (of_closed r rs e ∙ later_second r (latest rs) (omega arith))))
    (λ (e : r.closed ≡ false). behind (of_open r rs e)) (closed_or r.closed)

-- a receipt has its record's rank
pub rank_same : (r : Reservation) (c : Receipt) → IsReceiptOf r c → rank_in c ≡ rank r
rank_same r c h = λ k. cond (eqb (h.2 k) 0) 0 (1 + h.0 k * 65536 + h.1 k)

-- the receipt of the later of two
pub receipt_later : (q r z : Reservation) (c d e : Receipt) → z ≡ later q r → IsReceiptOf q c → IsReceiptOf r d → (nat_lt (rank_in d) (rank_in c) ≡ true → e ≡ c) → (nat_lt (rank_in d) (rank_in c) ≡ false → e ≡ d) → IsReceiptOf z e
receipt_later q r z c d e is of_q of_r mine theirs = let rank_c = rank_same q c of_q in let rank_d = rank_same r d of_r in dite (dec_le (1 + rank_in d) (rank_in c))
    (λ (l : 1 + rank_in d ≤ rank_in c). subst (λ (y : Reservation × Receipt). IsReceiptOf y.0 y.1) (λ k. (sym (is ∙ later_first q r (omega arith)) k, sym (mine (is_less (rank_in d) (rank_in c) (omega arith))) k)) of_q)
    (λ l. subst (λ (y : Reservation × Receipt). IsReceiptOf y.0 y.1) (λ k. (sym (is ∙ later_second q r (omega arith)) k, sym (theirs (not_less (rank_in d) (rank_in c) (omega arith))) k)) of_r)

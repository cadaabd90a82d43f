-- What there is to show of a cut of a few transactions.
use Rattle.std.proofs.Common.{◌≡◌, ℕ, zero, suc, ◌==◌, ◌&&◌, ◌||◌, ne_eqb, true, false, IsTrue, AllPairs, List, [], ◌∷◌, ◌++◌, length, length-append, sym, ap, subst, ◌∙◌, arith, true≢false}
use Rattle.std.proofs.lemmas.List.Elements.{All-cons, All-nil}
use Rattle.std.proofs.lemmas.List.Kept.{AllPairs-cons}
use Rattle.lc_record.specs.Transaction.{Meet, holds, locks}
use Rattle.lc_model.proofs.Lists.{AllPairs-nil as pairs_none}
use Rattle.lc_model.specs.History.{Numbered, Cut, StandsBefore, is_kept}
use Rattle.lc_model.specs.State.{State, Up, DownAt}
use Rattle.lc_model.specs.Stops.{MayCut}
use Rattle.lc_model.specs.Machine.{StopRow}
use Rattle.lc_model.specs.Examples.{small, stopped_at}
use Rattle.lc_model.specs.ExamplesOfLocks.{read_beside, read_one}
use Rattle.lc_model.specs.declared.reply.Reply.TheVariants.{Down as WentDown}

abbrev pub Pulls : Cut → Numbered → Numbered → Type 0
Pulls cut x y = Meet x.transaction y.transaction → IsTrue (is_kept cut y) → IsTrue (is_kept cut x)

-- the later is not kept, or the earlier is
pub lost : (cut : Cut) (x y : Numbered) → is_kept cut y ≡ false → Pulls cut x y
lost cut x y is meet kept = absurd (let e : is_kept cut y ≡ true = kept in true≢false (sym e ∙ is))

pub here : (cut : Cut) (x y : Numbered) → IsTrue (is_kept cut x) → Pulls cut x y
here cut x y is meet kept = is

pub pairs_two : (P : Numbered → Numbered → Type 0) (x y : Numbered) → P x y → AllPairs P (x ∷ y ∷ [])
pairs_two P x y here = AllPairs-cons P x (y ∷ []) (All-cons (P x) y [] here (All-nil (P x))) (AllPairs-cons P y [] (All-nil (P y)) (pairs_none P))

pub closed_two : (cut : Cut) (x y : Numbered) → Pulls cut x y → AllPairs (Pulls cut) (x ∷ y ∷ [])
closed_two cut x y pulls = pairs_two (Pulls cut) x y pulls

pub closed_three :
    (cut : Cut) (x y z : Numbered) → Pulls cut x y → Pulls cut x z → Pulls cut y z → AllPairs (Pulls cut) (x ∷ y ∷ z ∷ [])
closed_three cut x y z a b c =
    let P : Numbered → Numbered → Type 0 = Pulls cut in
    AllPairs-cons P x (y ∷ z ∷ []) (All-cons (P x) y (z ∷ []) a (All-cons (P x) z [] b (All-nil (P x)))) (closed_two cut y z c)

pub closed_four :
    (cut : Cut) (x y z w : Numbered) → Pulls cut x y → Pulls cut x z → Pulls cut x w → Pulls cut y z → Pulls cut y w → Pulls cut z w →
    AllPairs (Pulls cut) (x ∷ y ∷ z ∷ w ∷ [])
closed_four cut x y z w a b c d e f =
    let P : Numbered → Numbered → Type 0 = Pulls cut in
    AllPairs-cons P x (y ∷ z ∷ w ∷ [])
    (All-cons (P x) y (z ∷ w ∷ []) a (All-cons (P x) z (w ∷ []) b (All-cons (P x) w [] c (All-nil (P x)))))
    (closed_three cut y z w d e f)

-- a stop that goes down at this cut may cut so
pub may_cut : (s : State) (cut : Cut) → StopRow Up small s WentDown (stopped_at cut s) → MayCut small s cut
may_cut s cut step =
    let e : DownAt cut ≡ DownAt step.0 = ap (λ (u : State). u.phase) step.3 in
    let same : cut ≡ step.0 = cc in
    subst (λ c. MayCut small s c) (sym same) step.1

-- of two the later does not stand before the earlier
pub turned_round : (x y : Numbered) → StandsBefore (y ∷ x ∷ []) x y → x ≡ y
turned_round x y stood = of stood.front stood.between stood.behind stood.are
  where
    of : (front between behind : List Numbered) → y ∷ x ∷ [] ≡ front ++ x ∷ (between ++ y ∷ behind) → x ≡ y
    of [] between behind are = cc
    of (z ∷ front) between behind are =
        absurd (let sizes = ap length are in omega (arith, sizes, length-append front (x ∷ (between ++ y ∷ behind)), length-append between (y ∷ behind)))

-- nor does one that is alone
pub alone : (x y z : Numbered) → StandsBefore (z ∷ []) x y → ⊥
alone x y z stood =
    let sizes = ap length stood.are in
    omega (arith, sizes, length-append stood.front (x ∷ (stood.between ++ y ∷ stood.behind)), length-append stood.between (y ∷ stood.behind))

-- two that read a segment, and lock none together for writing
apart : (segment : ℕ) → IsTrue ((locks read_one segment && holds read_beside segment) || (holds read_one segment && locks read_beside segment)) → ⊥
apart zero e = true≢false (sym e)
apart (suc zero) e = true≢false (sym e)
apart (suc (suc zero)) e = true≢false (sym e)
apart (suc (suc (suc zero))) e = true≢false (sym e)
apart (suc (suc (suc (suc segment)))) e =
    let n : ℕ = suc (suc (suc (suc segment))) in
    let one : (1 == n) ≡ false = ne_eqb 1 n (λ same. omega (arith, same)) in
    let two : (2 == n) ≡ false = ne_eqb 2 n (λ same. omega (arith, same)) in
    let none : false ≡ true = rw (one, two) at e in
    true≢false (sym none)

pub readers_apart : Meet read_one read_beside → ⊥
readers_apart meet = apart meet.0 meet.1

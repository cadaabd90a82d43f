-- The first held segment whose token is elsewhere.
use Rattle.std.proofs.Common.{◌≡◌, ℕ, ◌+◌, ◌<◌, ◌≤◌, ◌==◌, cond, Bool, true, false, List, [], ◌∷◌, Some, None, length, map, take, drop, get_or, refl, sym, ap, subst, ◌∙◌, inl, inr, arith, eqb-true, eq-eqb, ne_eqb}
use Rattle.std.specs.Prelude.{◌↔◌, IsSome, IsTrue, Option}
use Rattle.std.proofs.lemmas.Bool.{false≢true, or_cases, or_left, or_right}
use Rattle.std.proofs.lemmas.List.{drop_more, take_all}
use Rattle.lc_record.proofs.ListLemmas.{All-take_more}
use Rattle.lc_record.specs.Record.{Chain}
use Rattle.lc_record.specs.Transaction.{is_member}
use Rattle.lc_token.specs.declared.token.Token.{Token}
use Rattle.lc_node.specs.Commits.{AreHere, IsFirstAbsent, IsFirstGone, number_at}
use Rattle.lc_segments.specs.Sides.{number_in}
use Rattle.lc_segments.specs.declared.held.HeldSide.{HeldSide}
use Rattle.lc_log_side.proofs.PagesWritten.{got_item}
use Rattle.lc_segments.proofs.Slots.{AscendFrom}
use Rattle.lc_node.proofs.Slots.{ascend_from}

module _ {D : Type 0} (sides : List (HeldSide D)) where
  -- those before are here, and the first of the rest is the first of all
  abbrev pub IsLooking : ℕ → Type 0
  IsLooking i = ((s : ℕ) → IsFirstGone sides s ↔ IsFirstGone (drop i sides) s) × AreHere (take i sides)

  pub looks : IsLooking 0
  looks = ((λ s. ((λ h. h), (λ h. h))), λ k d within. absurd (omega arith))

  module _ (i : ℕ) (h : HeldSide D) (within : i < length sides) (is : h ≡ get_or sides i h) (look : IsLooking i) where
    more : drop i sides ≡ h ∷ drop (i + 1) sides
    more = drop_more sides i h within ∙ ap (λ (x : HeldSide D). x ∷ drop (i + 1) sides) (sym is)

    pub gone_now : h.side.standing.token ≡ None → (s : ℕ) → (h.side.segment ≡ s) ↔ IsFirstGone sides s
    gone_now none s = (
      (λ e. (look.0 s).1 (subst (λ (l : List (HeldSide D)). IsFirstGone l s) (sym more) (inl (none, e)))),
      (λ first. elim (subst (λ (l : List (HeldSide D)). IsFirstGone l s) more ((look.0 s).0 first)) [
        | inl here ↦ here.1
        | inr later ↦ absurd (false≢true (subst IsSome none later.0))
      ]),
    )

    pub looks_on : IsSome h.side.standing.token → IsLooking (i + 1)
    looks_on some = (
      (λ s. (
        (λ first. elim (subst (λ (l : List (HeldSide D)). IsFirstGone l s) more ((look.0 s).0 first)) [
          | inl here ↦ absurd (false≢true (subst IsSome here.0 some))
          | inr later ↦ later.1
        ]),
        (λ rest. (look.0 s).1 (subst (λ (l : List (HeldSide D)). IsFirstGone l s) (sym more) (inr (some, rest)))),
      )),
      All-take_more (λ (x : HeldSide D). IsSome x.side.standing.token) sides i h (got_item sides i h within is) look.1 some,
    )

  pub all_here : (i : ℕ) → length sides ≤ i → IsLooking i → AreHere sides
  all_here i all look = subst AreHere (take_all i sides all) look.1

-- The first that is gone is the least whose token is elsewhere

-- what is among ascending numbers is as great as the first may be
not_below : (n s : ℕ) (xs : List ℕ) → AscendFrom n xs → IsTrue (is_member s xs) → n ≤ s
not_below n s [] up is = absurd (false≢true is)
not_below n s (x ∷ xs) up is = elim (or_cases (x == s) (is_member s xs) is) [
  | inl own ↦ (let low = up.0 in let same : x ≡ s = eqb-true x s own in omega arith)
  | inr later ↦ (let low = up.0 in let high = not_below (x + 1) s xs up.1 later in omega arith)
]

some_number : (token : Option Token) → IsSome token → IsSome (number_in token)
some_number None is = is
some_number (Some t) is = refl

none_number : (token : Option Token) → token ≡ None → number_in token ≡ None
none_number token none = ap number_in none

module _ {D : Type 0} where
  abbrev segments : List (HeldSide D) → List ℕ
  segments sides = map (λ (h : HeldSide D). h.side.segment) sides

  member_gone : (sides : List (HeldSide D)) (s : ℕ) → IsFirstGone sides s → IsTrue (is_member s (segments sides))
  member_gone [] s gone = absurd gone
  member_gone (h ∷ hs) s (inl here) = or_left (h.side.segment == s) (is_member s (segments hs)) (eq-eqb h.side.segment s here.1)
  member_gone (h ∷ hs) s (inr later) = or_right (h.side.segment == s) (is_member s (segments hs)) (member_gone hs s later.1)

  absent_gone : (n : ℕ) (sides : List (HeldSide D)) (s : ℕ) → AscendFrom n (segments sides) → IsFirstGone sides s → number_at sides s ≡ None
  absent_gone n [] s up gone = absurd gone
  absent_gone n (h ∷ hs) s up (inl here) =
      ap (λ (b : Bool). cond b (number_in h.side.standing.token) (number_at hs s)) (eq-eqb h.side.segment s here.1) ∙ none_number h.side.standing.token here.0
  absent_gone n (h ∷ hs) s up (inr later) =
      let high = not_below (h.side.segment + 1) s (segments hs) up.1 (member_gone hs s later.1) in
      ap (λ (b : Bool). cond b (number_in h.side.standing.token) (number_at hs s)) (ne_eqb h.side.segment s (λ e. absurd (omega (arith, e, high))))
      ∙ absent_gone (h.side.segment + 1) hs s up.1 later.1

  least_gone : (n : ℕ) (sides : List (HeldSide D)) (s : ℕ) → AscendFrom n (segments sides) → IsFirstGone sides s → (other : ℕ) → other < s → IsTrue (is_member other (segments sides)) → IsSome (number_at sides other)
  least_gone n [] s up gone other less is = absurd gone
  least_gone n (h ∷ hs) s up (inl here) other less is = elim (or_cases (h.side.segment == other) (is_member other (segments hs)) is) [
    | inl own ↦ (let same : h.side.segment ≡ other = eqb-true h.side.segment other own in let e = here.1 in absurd (omega arith))
    | inr later ↦ (let high = not_below (h.side.segment + 1) other (segments hs) up.1 later in let e = here.1 in absurd (omega arith))
  ]
  least_gone n (h ∷ hs) s up (inr gone) other less is = elim (h.side.segment == other) as (λ (b : Bool). (h.side.segment == other) ≡ b → IsSome (cond b (number_in h.side.standing.token) (number_at hs other))) [
    | true ↦ λ own. some_number h.side.standing.token gone.0
    | false ↦ λ apart. least_gone (h.side.segment + 1) hs s up.1 gone.1 other less (elim (or_cases (h.side.segment == other) (is_member other (segments hs)) is) [
      | inl own ↦ absurd (false≢true (sym apart ∙ own))
      | inr later ↦ later
    ])
  ] refl

  pub first_absent : (sides : List (HeldSide D)) → Chain (λ a b. a < b) (segments sides) → (s : ℕ) → IsFirstGone sides s → IsFirstAbsent (segments sides) sides s
  first_absent sides up s gone = let from = ascend_from (segments sides) up in record {
    member = member_gone sides s gone;
    absent = absent_gone 0 sides s from gone;
    least = least_gone 0 sides s from gone;
  }

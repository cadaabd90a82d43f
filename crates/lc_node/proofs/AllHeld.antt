-- All segments of a node are held, those that are asked for in front.
use Rattle.std.proofs.Common.{◌≡◌, ℕ, ◌+◌, ◌≤◌, ◌||◌, eqb, true, false, List, [], ◌∷◌, ◌++◌, All, length, refl, sym, ap, subst, ◌∙◌, inl, inr, arith, length-append, eq-eqb}
use Rattle.std.proofs.lemmas.List.{map-append}
use Rattle.std.proofs.lemmas.List.Elements.{All-append}
use Rattle.std.proofs.lemmas.Bool.{cases_lt, or_cases, or_left, or_right}
use Rattle.std.proofs.Math.Seq.{take-append_seam}
use Rattle.lc_record.specs.Transaction.{is_member}
use Rattle.lc_tx.proofs.MemberLemmas.{member_both}
use Rattle.lc_tx.specs.Tx.{IsSetOf}
use Rattle.lc_node.specs.Commits.{segments_in}
use Rattle.lc_node.specs.Held.{HasSegment, IsHeldOf}
use Rattle.lc_node.specs.MakingRoom.{AllHeld}
use Rattle.lc_segments.specs.declared.held.HeldSide.{HeldSide}
use Rattle.lc_node.specs.declared.node.Node.{Node}
use Rattle.lc_node.proofs.Asking.{asked_all, asked_more, asked_same, asked_to}
use Rattle.lc_log_side.proofs.Knowing.{all_alone}

-- each of the first numbers, from 1, is in one of the lists
abbrev pub Covers : ℕ → List ℕ → List ℕ → Type 0
Covers n xs ys = (s : ℕ) → 1 ≤ s → s ≤ n → (is_member s xs || is_member s ys) ≡ true

itself : (n : ℕ) → is_member n (n ∷ []) ≡ true
itself n = or_left (eqb n n) false (eq-eqb n n refl)

module _ (n : ℕ) (xs ys : List ℕ) where
  -- one number more in front, or at the end
  pub covers_front : Covers n xs ys → Covers (n + 1) (xs ++ (n + 1) ∷ []) ys
  covers_front covers s low high = let both = member_both s xs ((n + 1) ∷ []) in elim (cases_lt n s) [
    | inl last ↦ (let e : s ≡ n + 1 = omega (arith, last, high) in
        or_left (is_member s (xs ++ (n + 1) ∷ [])) (is_member s ys) (both ∙ or_right (is_member s xs) (is_member s ((n + 1) ∷ [])) (subst (λ (x : ℕ). is_member s (x ∷ []) ≡ true) e (itself s))))
    | inr early ↦ elim (or_cases (is_member s xs) (is_member s ys) (covers s low early)) [
      | inl here ↦ or_left (is_member s (xs ++ (n + 1) ∷ [])) (is_member s ys) (both ∙ or_left (is_member s xs) (is_member s ((n + 1) ∷ [])) here)
      | inr there ↦ or_right (is_member s (xs ++ (n + 1) ∷ [])) (is_member s ys) there
    ]
  ]

  pub covers_behind : Covers n xs ys → Covers (n + 1) xs (ys ++ (n + 1) ∷ [])
  covers_behind covers s low high = let both = member_both s ys ((n + 1) ∷ []) in elim (cases_lt n s) [
    | inl last ↦ (let e : s ≡ n + 1 = omega (arith, last, high) in
        or_right (is_member s xs) (is_member s (ys ++ (n + 1) ∷ [])) (both ∙ or_right (is_member s ys) (is_member s ((n + 1) ∷ [])) (subst (λ (x : ℕ). is_member s (x ∷ []) ≡ true) e (itself s))))
    | inr early ↦ elim (or_cases (is_member s xs) (is_member s ys) (covers s low early)) [
      | inl here ↦ or_left (is_member s xs) (is_member s (ys ++ (n + 1) ∷ [])) here
      | inr there ↦ or_right (is_member s xs) (is_member s (ys ++ (n + 1) ∷ [])) (both ∙ or_left (is_member s ys) (is_member s ((n + 1) ∷ [])) there)
    ]
  ]

module _ {D : Type 0} (node : Node D) (segments : List ℕ) where
  -- of the first segments, those that are asked for are held in one list, and the others in another
  pub record HoldsTo (n : ℕ) (asked others : List (HeldSide D)) : Type 0 where
    pub asked_held : All (IsHeldOf node) asked
    pub others_held : All (IsHeldOf node) others
    pub are_asked : segments_in asked ≡ asked_to segments n
    pub covers : Covers n (segments_in asked) (segments_in others)
    pub long : length asked + length others ≤ n

  pub holds_asked : (n : ℕ) (asked others : List (HeldSide D)) (h : HeldSide D) → HoldsTo n asked others → IsHeldOf node h → h.side.segment ≡ n + 1 → is_member (n + 1) segments ≡ true → HoldsTo (n + 1) (asked ++ h ∷ []) others
  holds_asked n asked others h holds held at is =
      let more : segments_in (asked ++ h ∷ []) ≡ segments_in asked ++ (n + 1) ∷ [] = map-append (λ (x : HeldSide D). x.side.segment) asked (h ∷ []) ∙ ap (λ (s : ℕ). segments_in asked ++ s ∷ []) at in record {
        asked_held = All-append (IsHeldOf node) asked (h ∷ []) holds.asked_held (all_alone (IsHeldOf node) h held);
        others_held = holds.others_held;
        are_asked = more ∙ (ap (λ (l : List ℕ). l ++ (n + 1) ∷ []) holds.are_asked ∙ sym (asked_more segments n is));
        covers = subst (λ (l : List ℕ). Covers (n + 1) l (segments_in others)) (sym more) (covers_front n (segments_in asked) (segments_in others) holds.covers);
        long = (let e = length-append asked (h ∷ []) in let long = holds.long in omega (arith, e, long));
      }

  pub holds_other : (n : ℕ) (asked others : List (HeldSide D)) (h : HeldSide D) → HoldsTo n asked others → IsHeldOf node h → h.side.segment ≡ n + 1 → is_member (n + 1) segments ≡ false → HoldsTo (n + 1) asked (others ++ h ∷ [])
  holds_other n asked others h holds held at not =
      let more : segments_in (others ++ h ∷ []) ≡ segments_in others ++ (n + 1) ∷ [] = map-append (λ (x : HeldSide D). x.side.segment) others (h ∷ []) ∙ ap (λ (s : ℕ). segments_in others ++ s ∷ []) at in record {
        asked_held = holds.asked_held;
        others_held = All-append (IsHeldOf node) others (h ∷ []) holds.others_held (all_alone (IsHeldOf node) h held);
        are_asked = holds.are_asked ∙ sym (asked_same segments n not);
        covers = subst (λ (l : List ℕ). Covers (n + 1) (segments_in asked) l) (sym more) (covers_behind n (segments_in asked) (segments_in others) holds.covers);
        long = (let e = length-append others (h ∷ []) in let long = holds.long in omega (arith, e, long));
      }

  pub all_held : (asked others : List (HeldSide D)) → HoldsTo (length node.segments.items) asked others → All (HasSegment node) segments → AllHeld node segments (length asked) (asked ++ others)
  all_held asked others holds here = record {
    held = All-append (IsHeldOf node) asked others holds.asked_held holds.others_held;
    few = (let e = length-append asked others in omega (arith, e));
    asked = subst (IsSetOf segments) (sym (ap (λ (l : List (HeldSide D)). segments_in l) (take-append_seam asked others) ∙ holds.are_asked)) (asked_all segments (length node.segments.items) here);
    every = λ s has. ap (is_member s) (map-append (λ (x : HeldSide D). x.side.segment) asked others) ∙ (member_both s (segments_in asked) (segments_in others) ∙ holds.covers s has.0 has.1);
  }

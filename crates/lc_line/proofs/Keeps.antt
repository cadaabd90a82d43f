-- Each move keeps the rule of a line.
use Rattle.std.proofs.Common.{◌≡◌, ◌≢◌, ℕ, zero, suc, true, false, true≢false, List, [], ◌∷◌, ◌++◌, length, set, sym, refl, ap, ◌∙◌, subst, ⊎_elim, append_assoc, length-append, arith}
use mathlib.Core.Option.{some, some-ne-none}
use lib.ListN.{get_elem?}
use Rattle.atomic_table.proofs.Lists.{at_set, at_snoc}
use Rattle.crossbeam_channel.specs.Fifo.{Pushes, Pops, Forks, Merges, Learns}
use Rattle.lc_line.specs.declared.pass_view.PassView.{PassView}
use Rattle.lc_line.specs.Order.{log, Fits, IsInOrder, Sends, Takes, EndsWith, TakesFirst, IsTotal}

module _ {T : Type 0} where
  at_end : (l : List (PassView T)) (a b : PassView T) (j : ℕ) → get_elem? l j ≢ some b → get_elem? (l ++ a ∷ []) j ≡ some b → j ≡ length l
  at_end [] a b zero n e = refl
  at_end [] a b (suc j) n e = absurd (some-ne-none b (sym e))
  at_end (x ∷ xs) a b zero n e = absurd (n e)
  at_end (x ∷ xs) a b (suc j) n e = ap suc (at_end xs a b j n e)

  abbrev All : (ℕ → PassView T → Type 0) → List (PassView T) → Type 0
  All F views = (pass : ℕ) (v : PassView T) → get_elem? views pass ≡ some v → F pass v

  all_set : (F : ℕ → PassView T → Type 0) (views : List (PassView T)) (pass : ℕ) (w : PassView T) → F pass w → ((j : ℕ) (u : PassView T) → j ≢ pass → get_elem? views j ≡ some u → F j u) → All F (set views pass w)
  all_set F views pass w mine others j u e = ⊎_elim (λ (x : (j ≡ pass) × (w ≡ u)). subst (λ (y : ℕ × PassView T). F y.0 y.1) (λ i. (sym x.0 i, x.1 i)) mine)
      (λ (x : (j ≢ pass) × (get_elem? views j ≡ some u)). others j u x.0 x.1) (at_set views pass j w u e)

  pub begins : IsInOrder {T = T} [] (log true true [] [] ∷ [])
  begins = record {
    sender = 0;
    taker = 0;
    sent = [];
    taken = [];
    in_order = refl;
    few = omega arith;
    knows = all_set (Fits 0 0 [] []) (log true true [] [] ∷ []) 0 (log true true [] []) ((λ _. (refl, refl)), λ _. (refl, refl)) (λ j u other e. absurd (other (at_end [] (log true true [] []) u j (λ x. some-ne-none u (sym x)) e)));
  }

  pub sends : (n pass : ℕ) (v : PassView T) (x : T) → n ≡ 64 → v.sends ≡ true → Pushes IsInOrder n pass v x (Sends v x)
  sends n pass v x room may items views less h at = let w : PassView T = log v.sends v.takes (v.sent ++ x ∷ []) v.taken in let mine = h.knows pass v at in let sent = h.sent ++ x ∷ [] in (
    w,
    record {
      sender = h.sender;
      taker = h.taker;
      sent = sent;
      taken = h.taken;
      in_order = ap (λ l. l ++ x ∷ []) h.in_order ∙ append_assoc h.taken items (x ∷ []);
      few = omega (arith, length-append items (x ∷ []));
      knows = all_set (Fits h.sender h.taker sent h.taken) views pass w ((λ _. ((mine.0 may).0, ap (λ l. l ++ x ∷ []) (mine.0 may).1)), mine.1)
          (λ j u other e. ((λ p. absurd (other (((h.knows j u e).0 p).0 ∙ sym (mine.0 may).0))), (h.knows j u e).1));
    },
    refl,
  )

  -- what is left when the message in front is taken
  pops : (pass : ℕ) (v : PassView T) → v.takes ≡ true → (x : T) (items : List T) (views : List (PassView T)) → IsInOrder (x ∷ items) views → get_elem? views pass ≡ some v → IsInOrder items (set views pass (log v.sends v.takes v.sent (v.taken ++ x ∷ [])))
  pops pass v may x items views h at = let w : PassView T = log v.sends v.takes v.sent (v.taken ++ x ∷ []) in let mine = h.knows pass v at in let taken = h.taken ++ x ∷ [] in let few = h.few in record {
    sender = h.sender;
    taker = h.taker;
    sent = h.sent;
    taken = taken;
    in_order = h.in_order ∙ sym (append_assoc h.taken (x ∷ []) items);
    few = omega arith;
    knows = all_set (Fits h.sender h.taker h.sent taken) views pass w (mine.0, λ _. ((mine.1 may).0, ap (λ l. l ++ x ∷ []) (mine.1 may).1))
        (λ j u other e. ((h.knows j u e).0, λ p. absurd (other (((h.knows j u e).1 p).0 ∙ sym (mine.1 may).0))));
  }

  pub takes : (pass : ℕ) (v : PassView T) → v.takes ≡ true → Pops IsInOrder pass v (Takes v)
  takes pass v may x items views h at = (log v.sends v.takes v.sent (v.taken ++ x ∷ []), pops pass v may x items views h at, refl)

  pub takes_first : (pass : ℕ) (v : PassView T) → v.sends ≡ true → v.takes ≡ true → Pops IsInOrder pass v (TakesFirst v)
  takes_first pass v sends takes x items views h at = let mine = h.knows pass v at in
      (log v.sends v.takes v.sent (v.taken ++ x ∷ []), pops pass v takes x items views h at, (refl, (items, (mine.0 sends).1 ∙ h.in_order ∙ ap (λ l. l ++ x ∷ items) (sym (mine.1 takes).1))))

  pub forks : (pass : ℕ) (v : PassView T) → v.sends ≡ true → v.takes ≡ true → Forks IsInOrder pass v (log true false v.sent []) (log false true [] v.taken)
  forks pass v a b items views h at = let l : PassView T = log true false v.sent [] in let r : PassView T = log false true [] v.taken in let mine = h.knows pass v at in let vs : List (PassView T) = set views pass l in
      let Old : ℕ → PassView T → Type 0 = λ j u. (u.sends ≡ true → (j ≡ h.sender) × (u.sent ≡ h.sent)) × (u.takes ≢ true) in
      let old : All Old vs = all_set Old views pass l ((λ _. mine.0 a), λ p. true≢false (sym p)) (λ j u other e. ((h.knows j u e).0, λ p. other (((h.knows j u e).1 p).0 ∙ sym (mine.1 b).0))) in record {
        sender = h.sender;
        taker = length vs;
        sent = h.sent;
        taken = h.taken;
        in_order = h.in_order;
        few = h.few;
        knows = λ j u e. ⊎_elim (λ x. ((old j u x).0, λ p. absurd ((old j u x).1 p)))
            (λ (is : r ≡ u). ((λ p. absurd (true≢false (sym (ap (λ (y : PassView T). y.sends) is ∙ p)))), λ p. (at_end vs r u j (λ x. (old j u x).1 p) e, ap (λ (y : PassView T). y.taken) (sym is) ∙ (mine.1 b).1))) (at_snoc vs r u j e);
      }

  pub merges : (pass : ℕ) (v : PassView T) (other : ℕ) (u : PassView T) → v.sends ≡ true → u.takes ≡ true → Merges IsInOrder pass v other u (log true true v.sent u.taken) (log false false [] [])
  merges pass v other u a b items views h at two at' = let both : PassView T = log true true v.sent u.taken in let none : PassView T = log false false [] [] in let mine = h.knows pass v at in let vs : List (PassView T) = set views pass both in
      let was : get_elem? views other ≡ some u = ⊎_elim (λ x. absurd (two x.0)) (λ x. x.1) (at_set views pass other both u at') in let theirs = (h.knows other u was).1 b in
      let Now : ℕ → PassView T → Type 0 = λ j y. j ≢ other → Fits h.sender pass h.sent h.taken j y in
      let now : All Now vs = all_set Now views pass both (λ _. ((λ _. mine.0 a), λ _. (refl, theirs.1))) (λ j y _ e apart. ((h.knows j y e).0, λ p. absurd (apart (((h.knows j y e).1 p).0 ∙ sym theirs.0)))) in record {
        sender = h.sender;
        taker = pass;
        sent = h.sent;
        taken = h.taken;
        in_order = h.in_order;
        few = h.few;
        knows = all_set (Fits h.sender pass h.sent h.taken) vs other none ((λ p. absurd (true≢false (sym p))), λ p. absurd (true≢false (sym p))) (λ j y apart e. now j y e apart);
      }

  pub totals : (pass : ℕ) (v : PassView T) → v.sends ≡ true → v.takes ≡ true → Learns IsInOrder pass v (IsTotal v)
  totals pass v a b items views h at = let mine = h.knows pass v at in ((mine.0 a).1 ∙ h.in_order ∙ ap (λ l. l ++ items) (sym (mine.1 b).1), h.few)

  pub ends : (pass : ℕ) (v : PassView T) → v.sends ≡ true → Learns IsInOrder pass v (EndsWith v)
  ends pass v may items views h at = (h.taken, ((h.knows pass v at).0 may).1 ∙ h.in_order)

-- What calls of a hold-back lead to.
use Rattle.std.proofs.Common.{◌≡◌, ◌≢◌, ◌⊎◌, ℕ, zero, suc, ◌+◌, ◌<◌, ◌≤◌, true, false, leb, is_some, Option, Some, None, List, [], ◌∷◌, ◌++◌, length, get_or, Contains, refl, sym, ap, subst, ◌∙◌, inl, inr, arith, append_assoc, append-nil, length-append}
use Rattle.std.proofs.lemmas.Bool.{cases_eq, leb-true, or_cases}
use Rattle.lc_record.specs.declared.part.Part.{Part}
use Rattle.lc_record.proofs.ListLemmas.{some_from_is_some as some_is}
use Rattle.lc_token.specs.declared.received.Received.{Received}
use Rattle.lc_token.specs.declared.received.Received.TheVariants.{Applied, HeldBack, Ignored}
use Rattle.lc_token.specs.Backlog.{Backlog, AreDue, Receives, advanced, due_behind, fresh, is_known, numbered, put}
use Rattle.lc_token.specs.Calls.{AreSame, Call, Receipt, Handing, Follows, NumbersName, handed, received}
use Rattle.lc_token.proofs.BacklogLemmas.{are_due, due_is, due_same, numbered_above, numbered_before, numbered_behind, numbered_here, numbered_later, numbered_seq, put_found, put_others, unknown}

-- what was received, what was handed out, and what stands there now agree
pub record Agrees (applied : ℕ) (got given : List Part) (b : Backlog) : Type 0 where
  pub due : AreDue applied got (given ++ b.due)
  pub reached : b.applied ≡ applied + length (given ++ b.due)
  pub behind : (n : ℕ) → b.applied < n → numbered n b.kept ≡ numbered n got

due_ends : (a : ℕ) (ps xs : List Part) → AreDue a ps xs → numbered (a + length xs + 1) ps ≡ None
due_ends a ps [] h = ap (λ (n : ℕ). numbered n ps) (omega arith) ∙ h
due_ends a ps (x ∷ xs) h = ap (λ (n : ℕ). numbered n ps) (omega arith) ∙ due_ends (a + 1) ps xs h.1

-- what is due stays so where each part is still found, and more may follow on it
due_joined : (a : ℕ) (ps qs xs ys : List Part) → ((n : ℕ) (p : Part) → numbered n ps ≡ Some p → numbered n qs ≡ Some p) → AreDue a ps xs → AreDue (a + length xs) qs ys → AreDue a qs (xs ++ ys)
due_joined a ps qs [] ys found h k = subst (λ (n : ℕ). AreDue n qs ys) (omega arith) k
due_joined a ps qs (x ∷ xs) ys found h k = (found (a + 1) x h.0, due_joined (a + 1) ps qs xs ys found h.1 (subst (λ (n : ℕ). AreDue n qs ys) (omega arith) k))

due_some : (a : ℕ) (p : Part) (ps xs : List Part) → p.seq ≡ a + 1 → AreDue a (p ∷ ps) xs → 0 < length xs
due_some a p ps [] e h = absurd (let k : Some p ≡ None = sym (numbered_here (a + 1) p ps e) ∙ h in cc)
due_some a p ps (x ∷ xs) e h = omega arith

-- one more part after the others

-- it changes nothing at another number
at_other : (n : ℕ) (ps : List Part) (p : Part) → p.seq ≢ n → numbered n (ps ++ p ∷ []) ≡ numbered n ps
at_other n [] p ne = numbered_later n p [] ne
at_other n (q ∷ ps) p ne = elim (cases_eq q.seq n) [
  | inl same ↦ numbered_here n q (ps ++ p ∷ []) same ∙ sym (numbered_here n q ps same)
  | inr other ↦ numbered_later n q (ps ++ p ∷ []) other ∙ (at_other n ps p ne ∙ sym (numbered_later n q ps other))
]

-- and is found where none had its number
at_own : (ps : List Part) (p : Part) → numbered p.seq ps ≡ None → numbered p.seq (ps ++ p ∷ []) ≡ Some p
at_own ps p none = numbered_behind p.seq ps (p ∷ []) none ∙ numbered_here p.seq p [] refl

module _ (a : ℕ) (got given : List Part) (b : Backlog) (agrees : Agrees a got given b) where
  none_next : numbered (b.applied + 1) got ≡ None
  none_next = ap (λ (n : ℕ). numbered (n + 1) got) agrees.reached ∙ due_ends a got (given ++ b.due) agrees.due

  -- what is due stays so, with more after it
  still_due : (p : Part) (xs : List Part) → AreDue b.applied (got ++ p ∷ []) xs → AreDue a (got ++ p ∷ []) ((given ++ b.due) ++ xs)
  still_due p xs h = due_joined a got (got ++ p ∷ []) (given ++ b.due) xs (λ n q e. numbered_before n got (p ∷ []) q e) agrees.due (subst (λ (n : ℕ). AreDue n (got ++ p ∷ []) xs) agrees.reached h)

  -- or with nothing, where the part has not the next number
  same_due : (p : Part) → p.seq ≢ b.applied + 1 → AreDue a (got ++ p ∷ []) (given ++ b.due)
  same_due p ne = subst (AreDue a (got ++ p ∷ [])) (append-nil (given ++ b.due)) (still_due p [] (at_other (b.applied + 1) got p ne ∙ none_next))

  -- a part that is known is not the next, and of its number another was received
  known_found : (p : Part) → is_known b p.seq ≡ true → (p.seq ≤ b.applied) ⊎ ((q : Part) × (numbered p.seq b.kept ≡ Some q))
  known_found p e = elim (or_cases (leb p.seq b.applied) (is_some (numbered p.seq b.kept)) e) [
    | inl low ↦ inl (leb-true p.seq b.applied low)
    | inr kept ↦ inr (some_is (numbered p.seq b.kept) kept)
  ]

  known_not_next : (p : Part) → is_known b p.seq ≡ true → p.seq ≢ b.applied + 1
  known_not_next p e = λ next. elim (known_found p e) [
    | inl low ↦ omega (arith, low, next)
    | inr kept ↦
        let none : numbered p.seq b.kept ≡ None = agrees.behind p.seq (omega (arith, next)) ∙ (ap (λ (n : ℕ). numbered n got) next ∙ none_next) in
        let no : None ≡ Some kept.0 = sym none ∙ kept.1 in absurd (cc)
  ]

  known_behind : (p : Part) → is_known b p.seq ≡ true → (n : ℕ) → b.applied < n → numbered n b.kept ≡ numbered n (got ++ p ∷ [])
  known_behind p e n lt = elim (cases_eq p.seq n) [
    | inl same ↦ elim (known_found p e) [
      | inl low ↦ absurd (omega (arith, low, same, lt))
      | inr kept ↦
          let here : numbered n b.kept ≡ Some kept.0 = ap (λ (m : ℕ). numbered m b.kept) (sym same) ∙ kept.1 in
          here ∙ sym (numbered_before n got (p ∷ []) kept.0 (sym (agrees.behind n lt) ∙ here))
    ]
    | inr other ↦ agrees.behind n lt ∙ sym (at_other n got p other)
  ]

  -- a part that is not known was not received
  unknown_none : (p : Part) → is_known b p.seq ≡ false → numbered p.seq got ≡ None
  unknown_none p e = let h = unknown b p.seq e in sym (agrees.behind p.seq h.0) ∙ h.1

  kept_behind : (p : Part) → is_known b p.seq ≡ false → (n : ℕ) → b.applied < n → numbered n (put p b.kept) ≡ numbered n (got ++ p ∷ [])
  kept_behind p e n lt = elim (cases_eq p.seq n) [
    | inl same ↦ subst (λ (m : ℕ). numbered m (put p b.kept) ≡ numbered m (got ++ p ∷ [])) same (put_found p b.kept (unknown b p.seq e).1 ∙ sym (at_own got p (unknown_none p e)))
    | inr other ↦ put_others n p b.kept other ∙ (agrees.behind n lt ∙ sym (at_other n got p other))
  ]

  -- with the next part, what was received is as what is kept
  next_behind : (p : Part) → is_known b p.seq ≡ false → (n : ℕ) → b.applied < n → numbered n (got ++ p ∷ []) ≡ numbered n (p ∷ b.kept)
  next_behind p e n lt = elim (cases_eq p.seq n) [
    | inl same ↦ subst (λ (m : ℕ). numbered m (got ++ p ∷ []) ≡ numbered m (p ∷ b.kept)) same (at_own got p (unknown_none p e) ∙ sym (numbered_here p.seq p b.kept refl))
    | inr other ↦ at_other n got p other ∙ (sym (agrees.behind n lt) ∙ sym (numbered_later n p b.kept other))
  ]

  advanced_agrees : (p : Part) → is_known b p.seq ≡ false → p.seq ≡ b.applied + 1 → (run : List Part) → AreDue b.applied (p ∷ b.kept) run → Agrees a (got ++ p ∷ []) given (advanced b run)
  advanced_agrees p e next run is =
      let due = due_same b.applied (p ∷ b.kept) (got ++ p ∷ []) run (λ n lt. next_behind p e n lt) is in
      let some = due_some b.applied p b.kept run next is in
      record {
        due = subst (AreDue a (got ++ p ∷ [])) (append_assoc given b.due run) (still_due p run due);
        reached = omega (arith, agrees.reached, length-append given b.due, length-append given (b.due ++ run), length-append b.due run);
        behind = λ n lt. numbered_above (b.applied + length run) n b.kept lt ∙ (agrees.behind n (omega (arith, lt)) ∙ sym (at_other n got p (λ same. omega (arith, same, next, some, lt))));
      }

  received_agrees : (p : Part) (answer : Received) (new : Backlog) → Receives p b answer new → Agrees a (got ++ p ∷ []) given new
  received_agrees p (Applied number) new h = subst (Agrees a (got ++ p ∷ []) given) (sym h.3) (advanced_agrees p h.0 h.1 (due_behind b.applied (p ∷ b.kept)) (are_due b.applied (p ∷ b.kept)))
  received_agrees p HeldBack new h = subst (Agrees a (got ++ p ∷ []) given) (sym h.2) (record {
    due = same_due p (λ next. omega (arith, next, h.1));
    reached = agrees.reached;
    behind = kept_behind p h.0;
  })
  received_agrees p Ignored new h = subst (Agrees a (got ++ p ∷ []) given) (sym h.1) (record {
    due = same_due p (known_not_next p h.0);
    reached = agrees.reached;
    behind = known_behind p h.0;
  })

handed_agrees : (a : ℕ) (got given : List Part) (p : Part) (new : Backlog) → Agrees a got given (record new { due = p ∷ new.due }) → Agrees a got (given ++ p ∷ []) new
handed_agrees a got given p new h =
    let same : given ++ (p ∷ new.due) ≡ (given ++ p ∷ []) ++ new.due = sym (append_assoc given (p ∷ []) new.due) in
    record {
      due = subst (AreDue a got) same h.due;
      reached = h.reached ∙ ap (λ (xs : List Part). a + length xs) same;
      behind = h.behind;
    }

agrees_with : (a : ℕ) (got given more less : List Part) (b : Backlog) → got ≡ more → given ≡ less → Agrees a got given b → Agrees a more less b
agrees_with a got given more less b e f h = subst (λ (xs : List Part). Agrees a more xs b) f (subst (λ (xs : List Part). Agrees a xs given b) e h)

follows_agrees : (a : ℕ) (got given : List Part) (b : Backlog) (calls : List Call) (new : Backlog) → Agrees a got given b → Follows b calls new → Agrees a (got ++ received calls) (given ++ handed calls) new
follows_agrees a got given b [] new h f = subst (Agrees a (got ++ []) (given ++ [])) (sym f) (agrees_with a got given (got ++ []) (given ++ []) b (sym (append-nil got)) (sym (append-nil given)) h)
follows_agrees a got given b (Receipt p answer ∷ calls) new h f =
    agrees_with a ((got ++ p ∷ []) ++ received calls) (given ++ handed calls) (got ++ (p ∷ received calls)) (given ++ handed calls) new (append_assoc got (p ∷ []) (received calls)) refl
    (follows_agrees a (got ++ p ∷ []) given f.0 calls new (received_agrees a got given b h p answer f.0 f.1) f.2)
follows_agrees a got given b (Handing None ∷ calls) new h f = follows_agrees a got given f.0 calls new (subst (Agrees a got given) (sym f.1.1) h) f.2
follows_agrees a got given b (Handing (Some p) ∷ calls) new h f =
    agrees_with a (got ++ received calls) ((given ++ p ∷ []) ++ handed calls) (got ++ received calls) (given ++ (p ∷ handed calls)) new refl (append_assoc given (p ∷ []) (handed calls))
    (follows_agrees a got (given ++ p ∷ []) f.0 calls new (handed_agrees a got given p f.0 (subst (Agrees a got given) f.1 h)) f.2)

all_agrees : (segment applied : ℕ) (calls : List Call) (new : Backlog) → Follows (fresh segment applied) calls new → Agrees applied (received calls) (handed calls) new
all_agrees segment applied calls new f = follows_agrees applied [] [] (fresh segment applied) calls new (record { due = refl; reached = omega arith; behind = λ n lt. refl }) f

pub all_due : (segment applied : ℕ) (calls : List Call) (new : Backlog) → Follows (fresh segment applied) calls new → handed calls ++ new.due ≡ due_behind applied (received calls)
all_due segment applied calls new f = sym (due_is applied (received calls) (handed calls ++ new.due) (all_agrees segment applied calls new f).due)

pub all_applied : (segment applied : ℕ) (calls : List Call) (new : Backlog) → Follows (fresh segment applied) calls new → new.applied ≡ applied + length (due_behind applied (received calls))
all_applied segment applied calls new f = (all_agrees segment applied calls new f).reached ∙ ap (λ (xs : List Part). applied + length xs) (all_due segment applied calls new f)

-- The same parts

found_among : (n : ℕ) (ps : List Part) (p : Part) → numbered n ps ≡ Some p → Contains ps p
found_among n [] p e = absurd (cc)
found_among n (q ∷ qs) p e = elim (cases_eq q.seq n) [
  | inl same ↦ let is : Some q ≡ Some p = sym (numbered_here n q qs same) ∙ e in (zero, omega arith, (let here : q ≡ p = cc in here))
  | inr other ↦ let later = found_among n qs p (sym (numbered_later n q qs other) ∙ e) in (suc later.0, omega (arith, later.1), later.2)
]

among_found : (ps : List Part) (p : Part) (k : ℕ) → k < length ps → get_or ps k p ≡ p → (q : Part) × (numbered p.seq ps ≡ Some q)
among_found [] p k lt e = absurd (omega (arith, lt))
among_found (q ∷ qs) p zero lt e = (q, numbered_here p.seq q qs (ap (λ (x : Part). x.seq) e))
among_found (q ∷ qs) p (suc k) lt e = elim (cases_eq q.seq p.seq) [
  | inl same ↦ (q, numbered_here p.seq q qs same)
  | inr other ↦ let later = among_found qs p k (omega (arith, lt)) e in (later.0, numbered_later p.seq q qs other ∙ later.1)
]

same_found : (ps qs : List Part) → NumbersName ps → AreSame ps qs → (n : ℕ) (o : Option Part) → numbered n ps ≡ o → numbered n qs ≡ o
same_found ps qs one same n (Some p) e =
    let there = (same p).0 (found_among n ps p e) in
    let found = among_found qs p there.0 there.1 there.2 in
    let number : p.seq ≡ n = numbered_seq n ps p e in
    let at : numbered n qs ≡ Some found.0 = ap (λ (m : ℕ). numbered m qs) (sym number) ∙ found.1 in
    let back = (same found.0).1 (found_among n qs found.0 at) in
    at ∙ ap (λ (x : Part). Some x) (one found.0 p back (found_among n ps p e) (numbered_seq n qs found.0 at ∙ sym number))
same_found ps qs one same n None e = none_found ps qs same n (numbered n qs) refl e
  where
    none_found : (ps qs : List Part) → AreSame ps qs → (n : ℕ) (o : Option Part) → numbered n qs ≡ o → numbered n ps ≡ None → numbered n qs ≡ None
    none_found ps qs same n None at e = at
    none_found ps qs same n (Some q) at e =
        let there = (same q).1 (found_among n qs q at) in
        let found = among_found ps q there.0 there.1 there.2 in
        let here : numbered n ps ≡ Some found.0 = ap (λ (m : ℕ). numbered m ps) (sym (numbered_seq n qs q at)) ∙ found.1 in
        absurd (let no : None ≡ Some found.0 = sym e ∙ here in cc)

pub same_end : (segment applied : ℕ) (calls others : List Call) (new other : Backlog) → Follows (fresh segment applied) calls new → Follows (fresh segment applied) others other
    → NumbersName (received calls) → AreSame (received calls) (received others)
    → (handed calls ++ new.due ≡ handed others ++ other.due) × (new.applied ≡ other.applied)
same_end segment applied calls others new other f g one same =
    let ps = received calls in
    let qs = received others in
    let due : due_behind applied ps ≡ due_behind applied qs = sym (due_is applied qs (due_behind applied ps) (due_same applied ps qs (due_behind applied ps) (λ n lt. same_found ps qs one same n (numbered n ps) refl) (are_due applied ps))) in (
      all_due segment applied calls new f ∙ (due ∙ sym (all_due segment applied others other g)),
      all_applied segment applied calls new f ∙ (ap (λ (xs : List Part). applied + length xs) due ∙ sym (all_applied segment applied others other g)),
    )

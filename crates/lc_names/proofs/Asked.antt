-- What a table was and what a command makes of it, as a work tells it.
use Rattle.std.proofs.Common.{◌≡◌, ◌≢◌, ℕ, zero, suc, ◌+◌, ◌-◌, ◌*◌, ◌^◌, ◌<◌, ◌≤◌, false, List, [], ◌∷◌, ◌++◌, Some, length, take, drop, refl, sym, ap, subst, ◌∙◌, inl, inr, arith, true≢false}
use Rattle.std.specs.Prelude.{◌⊎◌, ◌↔◌, ◌||◌, IfOk, IsErrAnd, IsSome, OnErr, IsTrue, MatchResult, Result, Ok, Err, min}
use Rattle.std.specs.Global.{Vec}
use Rattle.std.specs.declared.alloc.AllocError.{AllocError}
use Rattle.std.proofs.lemmas.Bool.{cases_Bool, cases_lt}
use Rattle.std.proofs.lemmas.List.{length-take-le, take-append-drop}
use Rattle.lc_record.specs.Content.{put}
use Rattle.lc_record.specs.Transaction.{is_member}
use Rattle.lc_tx.specs.declared.tx_fault.TxFault.{TxFault}
use Rattle.lc_tx.specs.declared.tx_fault.TxFault.TheVariants.{NoMemory, NotLocked, OutOfSegment, ReadOnly}
use Rattle.lc_tx.specs.declared.images.Images.{Ghosts}
use Rattle.lc_tx.specs.declared.tx.Tx.{Tx}
use Rattle.lc_tx.specs.Images.{bytes_of}
use Rattle.lc_tx.specs.Tx.{Holds, RunsOn}
use Rattle.lc_segments.specs.Put.{IsUnput}
use Rattle.lc_segments.specs.Ran.{AgreeOn, Bytes}
use Rattle.lc_segments.specs.declared.put.Put.{Put}
use Rattle.lc_names.specs.Answers.{Alters, Answers, EntryChange, IsOfEntry, WantsMemory, left_by}
use Rattle.lc_names.specs.Table.{attributes_in, entries_in}
use Rattle.lc_names.specs.Ask.{IsAsked, IsUnasked}
use Rattle.lc_names.specs.declared.name_answer.NameAnswer.{NameAnswer}
use Rattle.lc_names.specs.declared.ask.Ask.{Ask}
use Rattle.lc_names.specs.declared.name_command.NameCommand.{NameCommand}
use Rattle.lc_names.specs.declared.name_command.NameCommand.TheVariants.{Create, Find, List as ListAll, Remove, Rename}
use Rattle.lc_names.specs.declared.name_fault.NameFault.{NameFault}
use Rattle.lc_names.proofs.Cuts.{long_entries}

put-append : (place : ℕ) (items xs ys : List ℕ) → place + length items ≤ length xs → put place items (xs ++ ys) ≡ put place items xs ++ ys
put-append zero [] [] [] l = refl
put-append zero [] [] (y ∷ ys) l = refl
put-append zero [] (x ∷ xs) ys l = refl
put-append zero (i ∷ is) [] ys l = absurd (omega arith)
put-append zero (i ∷ is) (x ∷ xs) ys l = ap (λ (s : List ℕ). i ∷ s) (put-append zero is xs ys (omega arith))
put-append (suc place) items [] ys l = absurd (omega arith)
put-append (suc place) items (x ∷ xs) ys l = ap (λ (s : List ℕ). x ∷ s) (put-append place items xs ys (omega arith))

-- where a name has attributes there are entries
some_among : (name : List ℕ) (entries : List (List ℕ)) → IsSome (attributes_in entries name) → 0 < length entries
some_among name [] some = absurd cc
some_among name (entry ∷ entries) some = omega arith

-- an answer that wants memory is of a table with bytes
wants_bytes : (command : NameCommand) (table : List ℕ) → WantsMemory command table → 0 < length table
wants_bytes (Create name attributes) table wants = absurd wants
wants_bytes (Rename from to) table wants = absurd wants
wants_bytes (Remove name) table wants = absurd wants
wants_bytes (Find name) table wants = omega (arith, long_entries table 0 (some_among name.now (entries_in table) wants.1))
wants_bytes ListAll table wants = omega (arith, long_entries table wants.1.0 wants.1.1)

module _ (ask : Ask) (locked : List ℕ) (before mid : Bytes) (found : List ℕ) (within : 0 + ask.len ≤ length (before 1)) (is : found ≡ take ask.len (before 1)) (agree : AgreeOn locked mid before) where
  fit : ask.len ≤ length (before 1)
  fit = omega (arith, within)

  long : length found ≡ ask.len
  long = ap (λ (s : List ℕ). length s) is ∙ length-take-le ask.len (before 1) fit

  -- an entry of the table ends within it
  pub ends_within : (change : EntryChange) → IsOfEntry (entries_in found) change → 64 * change.0 + 64 ≤ ask.len
  ends_within change at = omega (arith, long, long_entries found change.0 at.0)

  -- want of memory for the answer is told as it stands
  pub unasked_memory : (fault : TxFault) → fault ≡ NoMemory → WantsMemory ask.command found → IsUnasked ask locked before fault
  unasked_memory fault none wants = inr (inr (inr (inr (none, omega (arith, long, wants_bytes ask.command found wants), fit))))

  pub asked_same : (given : Result NameAnswer NameFault) → Answers ask.command found given found → IsAsked ask locked before given mid
  asked_same given answers = record {
    within = fit;
    left = found;
    answers = subst (λ (t : List ℕ). Answers ask.command t given found) is answers;
    table = λ lock. agree 1 lock ∙ (sym (take-append-drop ask.len (before 1)) ∙ ap (λ (s : List ℕ). s ++ drop ask.len (before 1)) (sym is));
    others = λ s lock apart. agree s lock;
  }

  module _ (change : EntryChange) (at : IsOfEntry (entries_in found) change) where
    laid : put (64 * change.0) change.1 (before 1) ≡ left_by (Some change) found ++ drop ask.len (before 1)
    laid =
        ap (λ (s : List ℕ). put (64 * change.0) change.1 s) (sym (take-append-drop ask.len (before 1)) ∙ ap (λ (s : List ℕ). s ++ drop ask.len (before 1)) (sym is))
        ∙ put-append (64 * change.0) change.1 found (drop ask.len (before 1)) (omega (arith, long, at.1, ends_within change at))

    pub asked_changed : (given : Result NameAnswer NameFault) (after : Bytes) → Answers ask.command found given (left_by (Some change) found)
        → after 1 ≡ put (64 * change.0) change.1 (mid 1) → ((s : ℕ) → IsTrue (is_member s locked) → s ≢ 1 → after s ≡ mid s) → IsAsked ask locked before given after
    asked_changed given after answers wrote others = record {
      within = fit;
      left = left_by (Some change) found;
      answers = subst (λ (t : List ℕ). Answers ask.command t given (left_by (Some change) found)) is answers;
      table = λ lock. wrote ∙ (ap (λ (s : List ℕ). put (64 * change.0) change.1 s) (agree 1 lock) ∙ laid);
      others = λ s lock apart. others s lock apart ∙ agree s lock;
    }

    past : (p : Put) → p.segment ≡ 1 → p.offset ≡ 64 * change.0 → p.bytes.now ≡ change.1 → p.offset + 64 < 2 ^ 32
        → IsTrue (is_member p.segment locked) ⊎ (2 ^ 32 ≤ length p.bytes.now) → min (length (mid p.segment)) (2 ^ 32 - 1) < p.offset + length p.bytes.now → ⊥
    past p segment offset bytes small locked_or_long over =
        let size : length p.bytes.now ≡ 64 = ap (λ (s : List ℕ). length s) bytes ∙ at.1 in
        elim locked_or_long [
          | inl lock ↦
              let same : length (mid p.segment) ≡ length (before 1) =
              ap (λ (s : List ℕ). length s) (agree p.segment lock ∙ ap (λ (s : ℕ). before s) segment) in
              let end = ends_within change at in
              omega (arith, same, size, offset, small, over, end, fit)
          | inr much ↦ omega (arith, much, size)
        ]

    -- a whole entry of the table is refused for ranges and memory alone, or for the lock
    pub unasked_put : Alters ask.command found → (p : Put) (fault : TxFault) → p.segment ≡ 1 → p.offset ≡ 64 * change.0 → p.bytes.now ≡ change.1 → p.offset + 64 < 2 ^ 32
        → IsUnput p locked mid fault → IsUnasked ask locked before fault
    unasked_put alters p fault segment offset bytes small unput = elim unput [
      | inl why ↦ inl (why.0, subst (λ (s : ℕ). is_member s locked ≡ false) segment why.1)
      | inr more ↦ elim more [
        | inl why ↦ inr (inl (subst (λ (s : ℕ). (fault ≡ ReadOnly s) × (is_member s locked ≡ false)) segment why))
        | inr more ↦ elim more [
          | inl why ↦ absurd (let size = ap (λ (s : List ℕ). length s) bytes in omega (arith, why.2, size, at.1))
          | inr more ↦ elim more [
            | inl why ↦ absurd (past p segment offset bytes small why.1 why.2)
            | inr why ↦ elim why.0 [
              | inl many ↦ inr (inr (inr (inl (many, subst (λ (s : ℕ). IsTrue (is_member s locked)) segment why.1.0, fit, subst (Alters ask.command) is alters))))
              | inr none ↦ inr (inr (inr (inr (none, omega (arith, ends_within change at), fit))))
            ]
          ]
        ]
      ]
    ]

-- The bytes are read, or not

module _ {I : Type 0} (m : Ghosts I) (old : I) (tx : Tx) (on : RunsOn m old tx) (ask : Ask) (r : Result (Vec ℕ) TxFault)
    (unlocked : (r ≡ Err NotLocked) ↔ (Holds tx 1 → ⊥))
    (outside : (r ≡ Err OutOfSegment) ↔ (Holds tx 1 × (length (bytes_of m old 1) < 0 + ask.len))) where
  ok_not : (v : Vec ℕ) (f : TxFault) → r ≡ Ok v → r ≡ Err f → ⊥
  ok_not v f is not = absurd cc

  pub read_within : (v : Vec ℕ) → r ≡ Ok v → 0 + ask.len ≤ length (bytes_of m old 1)
  read_within v is = elim (cases_lt (length (bytes_of m old 1)) (0 + ask.len)) [
    | inl over ↦ elim (cases_Bool (is_member 1 tx.locked.items || is_member 1 tx.reading.items)) [
      | inl holds ↦ absurd (ok_not v OutOfSegment is (outside.1 (holds, over)))
      | inr none ↦ absurd (ok_not v NotLocked is (unlocked.1 (λ holds. true≢false (sym holds ∙ none))))
    ]
    | inr within ↦ omega (arith, within)
  ]

-- what was decided, once a want of memory is told otherwise
pub told_through : {D : Type 0} (P : D → Type 0) (r : Result D AllocError) (s : Result D TxFault) (Otherwise : AllocError → TxFault → Type 0) → MatchResult r (λ x. s ≡ Ok x) (λ e. IsErrAnd s (Otherwise e)) → IfOk r P → (d : D) → s ≡ Ok d → P d
told_through P (Ok x) s Otherwise cases told d is = let same : x ≡ d = cc in subst P same told
told_through {D} P (Err e) s Otherwise cases told d is = absurd (subst (λ (x : Result D TxFault). IsErrAnd x (Otherwise e)) is cases)

-- why nothing was decided, once that is told otherwise
pub lost_through : {D : Type 0} (P : Type 0) (r : Result D AllocError) (s : Result D TxFault) (Otherwise : AllocError → TxFault → Type 0) → MatchResult r (λ x. s ≡ Ok x) (λ e. IsErrAnd s (Otherwise e)) → OnErr r P → (fault : TxFault) → s ≡ Err fault
    → ((e : AllocError) → Otherwise e fault → fault ≡ NoMemory) → (fault ≡ NoMemory) × P
lost_through P (Ok x) s Otherwise cases told fault is gives = absurd cc
lost_through {D} P (Err e) s Otherwise cases told fault is gives = (gives e (subst (λ (x : Result D TxFault). IsErrAnd x (Otherwise e)) is cases), told)

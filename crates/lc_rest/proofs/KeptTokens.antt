-- The least number that is not stable, and what is tested against it.
use Rattle.std.proofs.Common.{◌≡◌, ◌⊎◌, ℕ, ◌+◌, ◌<◌, ◌≤◌, List, [], length, sym, ◌∙◌, ap, subst, arith, inl, inr}
use Rattle.lc_rest.proofs.Replays.{min-cases}
use Rattle.std.specs.Prelude.{Option, Some, None, min, nat_lt, slice_index_or}
use Rattle.std.proofs.lemmas.Bool.{le-ltb, ltb-false}
use Rattle.lc_record.specs.Part.{number_in}
use Rattle.lc_record.specs.declared.record.Record.{Record}
use Rattle.lc_token.specs.declared.token.Token.{Token}
use Rattle.lc_rest.specs.Merge.{no_record, record_at}
use Rattle.lc_rest.specs.TokenTest.{IsKeptRecord, IsKeptToken, IsLeastWaiting, IsLowered, IsReadPage, IsWaiting}
use Rattle.lc_rest.specs.declared.holder.Holder.{Holder}

abbrev number_at_place : ℕ → List Record → ℕ → Option ℕ
number_at_place segment log place = number_in segment (slice_index_or log place no_record).locks

cases-last : (place at : ℕ) → place < at + 1 → (place < at) ⊎ (place ≡ at)
cases-last place at less = grind arith

-- a record without the segment changes nothing
pub lowered-none : (segment : ℕ) (log : List Record) (from at old new : ℕ) → number_at_place segment log at ≡ None → IsLowered segment log from at old new → IsLowered segment log from (at + 1) old new
lowered-none segment log from at old new none is = record {
  most = is.most;
  below = λ place number low high has. elim (cases-last place at high) [
    | inl before ↦ is.below place number low before has
    | inr here ↦ absurd (let no : None ≡ Some number = sym none ∙ ap (number_at_place segment log) (sym here) ∙ has in cc)
  ];
  is = is.is;
}

pub lowered-some : (segment : ℕ) (log : List Record) (from at old new number : ℕ) → from ≤ at → at < length log → number_at_place segment log at ≡ Some number → IsLowered segment log from at old new
    → IsLowered segment log from (at + 1) old (min new number)
lowered-some segment log from at old new number first within here is = record {
  most = (let most = is.most in omega (arith, most));
  below = λ place other low high has. elim (cases-last place at high) [
    | inl before ↦ (let its = is.below place other low before has in omega (arith, its))
    | inr same ↦ (let both : Some number ≡ Some other = sym here ∙ ap (number_at_place segment log) (sym same) ∙ has in let equal : number ≡ other = cc in omega (arith, equal))
  ];
  is = elim (min-cases new number) [
    | inl old_one ↦ elim is.is [
      | inl kept ↦ inl (old_one ∙ kept)
      | inr found ↦ inr (found.0, found.1, found.2, found.3 ∙ ap Some (sym old_one))
    ]
    | inr new_one ↦ inr (at, first, within, here ∙ ap Some (sym new_one))
  ];
}

-- the least of the first so many logs
pub record IsLeastOf (segment seq : ℕ) (logs : List (List Record)) (counts : List ℕ) (nodes least : ℕ) : Type 0 where
  pub most : least ≤ seq + 1
  pub below : (number : ℕ) (waits : IsWaiting segment logs counts number) → waits.node < nodes → least ≤ number
  pub is : (least ≡ seq + 1) ⊎ IsWaiting segment logs counts least

pub least-more : (segment seq : ℕ) (logs : List (List Record)) (counts : List ℕ) (node least new : ℕ) → node < length logs
    → IsLowered segment (slice_index_or logs node []) (slice_index_or counts node 0) (length (slice_index_or logs node [])) least new
    → IsLeastOf segment seq logs counts node least → IsLeastOf segment seq logs counts (node + 1) new
least-more segment seq logs counts node least new known lowered is = record {
  most = (let one = is.most in let two = lowered.most in omega (arith, one, two));
  below = λ number waits less. elim (cases-last waits.node node less) [
    | inl before ↦ (let one = is.below number waits before in let two = lowered.most in omega (arith, one, two))
    | inr here ↦
        lowered.below waits.place number (subst (λ n. slice_index_or counts n 0 ≤ waits.place) here waits.waits) (subst (λ n. waits.place < length (slice_index_or logs n [])) here waits.within)
        (subst (λ n. number_in segment (record_at logs n waits.place).locks ≡ Some number) here waits.has)
  ];
  is = elim lowered.is [
    | inl kept ↦ subst (λ n. (n ≡ seq + 1) ⊎ IsWaiting segment logs counts n) (sym kept) is.is
    | inr found ↦ inr (record { node = node; place = found.0; known = known; waits = found.1; within = found.2; has = found.3 })
  ];
}

pub least-last : (segment seq : ℕ) (logs : List (List Record)) (counts : List ℕ) (nodes least : ℕ) → length logs ≤ nodes → IsLeastOf segment seq logs counts nodes least → IsLeastWaiting segment seq logs counts least
least-last segment seq logs counts nodes least last is = record {
  most = is.most;
  below = λ number waits. is.below number waits (let known = waits.known in omega (arith, known, last));
  is = is.is;
}

-- What holds of some number holds of the least one

module _ (segment pages : ℕ) (token : Token) (holder : Holder) (logs : List (List Record)) (counts : List ℕ) (area : List ℕ) (kept : IsKeptToken segment pages token holder logs counts area) (least : ℕ) (waits : IsLeastWaiting segment token.seq logs counts least) where
  pub least-above : kept.least ≤ least
  least-above = elim waits.is [
    | inl last ↦ (let most = kept.most in omega (arith, most, last))
    | inr its ↦
        ((kept.records its.node its.place its.known its.within least its.has).0).above (le-ltb its.place (slice_index_or counts its.node 0) its.waits)
  ]

  pub read-least : (page : ℕ) → page < pages → IsReadPage least area token.pages page
  read-least page less = record {
    below = (let below = (kept.read page less).below in let above = least-above in omega (arith, below, above));
    text = (kept.read page less).text;
  }

  pub records-least : (n k : ℕ) → n < length logs → k < length (slice_index_or logs n [])
      → IsKeptRecord segment least token.clean pages holder area token.pages (nat_lt k (slice_index_or counts n 0)) (record_at logs n k)
  records-least n k node within number has =
      let its = kept.records n k node within number has in
      let side = its.0 in (
        record {
          below = λ stable. (let below = side.below stable in let above = least-above in omega (arith, below, above));
          above = λ unstable. waits.below number (record { node = n; place = k; known = node; waits = ltb-false k (slice_index_or counts n 0) unstable; within = within; has = has });
          home = side.home;
        },
        its.1,
      )

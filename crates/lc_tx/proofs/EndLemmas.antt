-- What the end of a transaction finds.
use Rattle.std.proofs.Common.{◌≡◌, ℕ, ◌<◌, ◌≤◌, List, length, Option, None, Some, sym, ap, subst, ◌∙◌, arith}
use Rattle.std.specs.Prelude.{◌↔◌, Result, Ok, Err}
use Rattle.lc_range.specs.RangeSet.{IsCanonical, EndWithin}
use Rattle.lc_range.specs.declared.range.Range.{Range}
use Rattle.lc_record.specs.Layout.{layout_len}
use Rattle.lc_record.specs.Record.{record_layout, record_len, spelling, IsRecord}
use Rattle.lc_record.specs.declared.layout.Layout.{Layout}
use Rattle.lc_tx.specs.declared.images.Images.{Ghosts}
use Rattle.lc_tx.specs.declared.tx.Tx.{Tx}
use Rattle.lc_tx.specs.declared.tx_fault.TxFault.{TxFault}
use Rattle.lc_tx.specs.Images.{bytes_of}
use Rattle.lc_tx.specs.Prepared.{AreSmall, AreUnspent, IsFirstSpent, IsLoggable, final_record, runs_record, run_data}
use Rattle.lc_tx.specs.Tx.{RunsOn}
use Rattle.lc_tx.specs.Walk.{runs_layout, spent_in, AreFromOne, AreInside}
use Rattle.std.specs.Prelude.{map}
use Rattle.std.specs.List.{AllByRecursion}
use Rattle.lc_record.specs.Words.{AreBytes}
use Rattle.lc_tx.proofs.CanonicalLemmas.{has_spelling, in_store}
use Rattle.lc_tx.proofs.RecordLemmas.{spent_is, unspent_from, spent_not_unspent, layout_is, inside_from, short_from, from_one}

-- a refusal that is handed on
pub handed_on : {A B P : Type 0} (one : Result A TxFault) (other : Result B TxFault) (fault x : TxFault) → one ≡ Err fault → other ≡ Err fault → (one ≡ Err x) ↔ P → (other ≡ Err x) ↔ P
handed_on one other fault x was is told = (
  λ e. (let same : fault ≡ x = cc in told.0 (was ∙ ap (λ (f : TxFault). Err f) same)),
  λ p. (let e : one ≡ Err x = told.1 p in let same : fault ≡ x = cc in is ∙ ap (λ (f : TxFault). Err f) same),
)

-- where a layout is told, the record may be logged, and is laid out so
pub loggable : {I : Type 0} (m : Ghosts I) (images : I) (tx : Tx) (node : ℕ) (told : Result (Option Layout) TxFault) (found : Option Layout) (layout : Layout)
    → ((node : ℕ) (layout : Layout) → (told ≡ Ok (Some layout)) ↔ (IsLoggable m images tx node × (layout ≡ record_layout (final_record m images tx node))))
    → told ≡ Ok found → found ≡ Some layout → IsLoggable m images tx node × (layout ≡ record_layout (final_record m images tx node))
loggable m images tx node told found layout tells was is = (tells node layout).0 (was ∙ ap (λ (o : Option Layout). Ok o) is)

module _ {I : Type 0} (m : Ghosts I) (images : I) (tx : Tx) (runs : List Range) (same : runs ≡ tx.set) where
  first : (node : ℕ) (found : Option ℕ) → found ≡ spent_in m images runs → (s : ℕ) → (found ≡ Some s) ↔ IsFirstSpent (final_record m images tx node).locks s
  first node found is s = subst (λ (o : Option ℕ). (o ≡ Some s) ↔ IsFirstSpent (final_record m images tx node).locks s) (sym (is ∙ ap (spent_in m images) same)) (spent_is m images tx.set s)

  pub first_spent : (node : ℕ) (found : Option ℕ) → found ≡ spent_in m images runs → (s : ℕ) → found ≡ Some s → IsFirstSpent (final_record m images tx node).locks s
  first_spent node found is s e = (first node found is s).0 e

  pub spent_first : (node : ℕ) (found : Option ℕ) → found ≡ spent_in m images runs → (s : ℕ) → IsFirstSpent (final_record m images tx node).locks s → found ≡ Some s
  spent_first node found is s f = (first node found is s).1 f

  pub none_spent : (node : ℕ) (found : Option ℕ) → found ≡ spent_in m images runs → found ≡ None → (s : ℕ) → IsFirstSpent (final_record m images tx node).locks s → ⊥
  none_spent node found is none s f = let some : found ≡ Some s = spent_first node found is s f in absurd cc

  pub unspent : (node : ℕ) (found : Option ℕ) → found ≡ spent_in m images runs → found ≡ None → AreUnspent (final_record m images tx node).locks
  unspent node found is none = unspent_from m (final_record m images tx node).locks (none_spent node found is none)

  pub not_unspent : (node : ℕ) (found : Option ℕ) → found ≡ spent_in m images runs → (s : ℕ) → found ≡ Some s → AreUnspent (final_record m images tx node).locks → ⊥
  not_unspent node found is s e low = spent_not_unspent m (final_record m images tx node).locks s (first_spent node found is s e) low

  module _ (canonical : IsCanonical tx.set) (on : RunsOn m images tx) where
    inside : AreInside m images tx.set
    inside = inside_from m images tx.set canonical (λ s k h. (on.here s (on.set_locked s k h), on.set_inside s k h))

    pub runs_inside : AreInside m images runs
    runs_inside = subst (λ (l : List Range). AreInside m images l) (sym same) inside

    pub laid : (node : ℕ) → record_layout (final_record m images tx node) ≡ runs_layout runs
    laid node = layout_is m images tx.set node inside ∙ ap runs_layout (sym same)

    pub len : (node : ℕ) → record_len (final_record m images tx node) ≡ layout_len (runs_layout runs)
    len node = ap layout_len (laid node)

    module _ (small : AreSmall m images tx.locked.items) where
      pub runs_short : EndWithin runs 262144
      runs_short =
          subst (λ (l : List Range). EndWithin l 262144) (sym same)
          (short_from tx.set 262144 canonical (λ s k h. below k (length (bytes_of m images s)) (on.set_inside s k h) (small.short s (on.set_locked s k h))))
        where
          below : (k n : ℕ) → k < n → n ≤ 262144 → k < 262144
          below k n one two = omega arith

      pub runs_from_one : AreFromOne runs
      runs_from_one = subst (λ (l : List Range). AreFromOne l) (sym same) (from_one tx.set canonical (λ s k h. small.some s (on.set_locked s k h)))

      -- the words of a record that may be logged are its spelling
      pub is_record : (node : ℕ) (words : List ℕ) → node ≤ 7 → length tx.set ≤ 64 → IsLoggable m images tx node → words ≡ spelling (runs_record m images runs node)
          → AllByRecursion (λ it. AreBytes it.bytes) (map (run_data m images) runs) → IsRecord (final_record m images tx node) words
      is_record node words low few may is fit = record {
        canonical = has_spelling m images node tx.set may.some low canonical few
            (in_store tx.set canonical (λ s k h. (let lock = on.set_locked s k h in (small.some s lock, small.few s lock)))) may.unspent inside (subst (λ (l : List Range). EndWithin l 262144) same runs_short)
            (subst (λ (l : List Range). AllByRecursion (λ it. AreBytes it.bytes) (map (run_data m images) l)) same fit);
        short = may.short;
        spelled = is ∙ ap (λ (l : List Range). spelling (runs_record m images l node)) same;
      }

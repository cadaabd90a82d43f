-- What is told of a run of a work, over the same bytes.
use Rattle.std.proofs.Common.{ℕ, List, refl, sym, ap, ◌∙◌, inl, inr}
use Rattle.std.specs.Prelude.{Result, Ok, Err}
use Rattle.lc_record.specs.Part.{part_of}
use Rattle.lc_record.specs.declared.record.Record.{Record}
use Rattle.lc_tx.specs.Image.{laid_over}
use Rattle.lc_tx.specs.declared.tx_fault.TxFault.{TxFault}
use Rattle.lc_node.specs.Commits.{IsUnstaged}
use Rattle.lc_segments.specs.Ran.{AgreeOn, Bytes, Ran, Runs, Tells}
use Rattle.lc_node.specs.Ran.{Brings, IsRefusedFor, ranges_in}
use Rattle.lc_segments.specs.declared.node_fault.NodeFault.{NodeFault}

pub ran_as : (tells : Tells) (segments : List ℕ) (answer : Result (Unit {0}) TxFault) (old new as_old as_new : Bytes) → AgreeOn segments old as_old → AgreeOn segments new as_new → {set : Runs} → Ran tells segments old answer new set → Ran tells segments as_old answer as_new set
ran_as tells segments answer old new as_old as_new was left {set} r = record {
  locked = r.locked;
  are_locked = r.are_locked;
  before = r.before;
  after = r.after;
  was = λ s is. r.was s is ∙ was s is;
  left = λ s is. r.left s is ∙ left s is;
  told = r.told;
}

pub brings_as : (r : Record) (segments : List ℕ) (old new as_old as_new : Bytes) → AgreeOn segments old as_old → AgreeOn segments new as_new → Brings r segments old new → Brings r segments as_old as_new
brings_as r segments old new as_old as_new was left brings = λ s is. ap (λ (bytes : List ℕ). laid_over (ranges_in (part_of s r)) bytes) (sym (was s is)) ∙ (brings s is ∙ left s is)

same_bytes : (segments : List ℕ) (bytes : Bytes) → AgreeOn segments bytes bytes
same_bytes segments bytes = λ s is. refl

refused_as : (tells : Tells) (segments : List ℕ) (fault : TxFault) (old as_old : Bytes) → AgreeOn segments old as_old → IsRefusedFor tells segments old fault → IsRefusedFor tells segments as_old fault
refused_as tells segments fault old as_old was (inl r) = inl (r.0, r.1, ran_as tells segments (Err fault) old r.0 as_old r.0 was (same_bytes segments r.0) r.2)
refused_as tells segments fault old as_old was (inr r) = inr (r.0, r.1, ran_as tells segments (Ok tt) old r.0 as_old r.0 was (same_bytes segments r.0) r.2, r.3)

-- why nothing was staged, where what kept the transaction from its beginning is said in other words
pub unstaged_as : (tells : Tells) (unbegun as_unbegun : TxFault → Type 0) (segments : List ℕ) (old as_old : Bytes) (room tries seen : ℕ) (fault : NodeFault)
    → ((f : TxFault) → unbegun f → as_unbegun f) → AgreeOn segments old as_old → IsUnstaged tells unbegun segments old room tries seen fault → IsUnstaged tells as_unbegun segments as_old room tries seen fault
unstaged_as tells unbegun as_unbegun segments old as_old room tries seen fault more was (inl a) = inl (
  a.0,
  a.1,
  elim a.2 [
    | inl none ↦ inl (more a.0 none)
    | inr refused ↦ inr (refused_as tells segments a.0 old as_old was refused)
  ],
)
unstaged_as tells unbegun as_unbegun segments old as_old room tries seen fault more was (inr b) =
    inr (record {
      new = b.new;
      set = b.set;
      ran = ran_as tells segments (Ok tt) old b.new as_old b.new was (same_bytes segments b.new) b.ran;
      whole = b.whole;
      words = b.words;
      is_record = b.is_record;
      of_runs = b.of_runs;
      brings = brings_as b.whole segments old b.new as_old b.new was (same_bytes segments b.new) b.brings;
      why = b.why;
    })

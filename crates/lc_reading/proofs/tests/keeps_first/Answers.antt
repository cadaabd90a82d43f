use Rattle.std.proofs.Common.{◌≡◌, ◌-◌, ℕ, List, true≢false, sym, ◌∙◌, subst, arith}
use Rattle.std.specs.List.{flat_map}
use Rattle.lc_record.specs.declared.record.Record.{Record}
use Rattle.lc_rest.specs.Merge.{logs_of}
use Rattle.lc_rest.specs.NumbersTest.{AreNumbered}
use Rattle.lc_rest.specs.TokenTest.{count_on}
use Rattle.lc_reading.proofs.TokenReads.{joined_flat}
use Rattle.lc_reading.proofs.tests.keeps_first.Goals.{else-branch-via-then-branch+else-keeps_token, else-branch-via-else-branch}
use Rattle.lc_reading.proofs.tests.keeps_first.Goals as goal

pub returns-then-keeps_token-clause-keeps : goal.returns-then-keeps_token-clause-keeps
returns-then-keeps_token-clause-keeps c =
    let segment = c.args.read.now.segment in
    let seq = c.args.read.now.token.now.seq in
    let first : c.in-Some.first ≡ seq - count_on segment (logs_of c.args.logs.now) = (let some = c.in-Some.ensures.some in omega (arith, some)) in
    record {
      numbered = subst (λ (n : ℕ). AreNumbered segment n seq (flat_map (λ (log : List Record). log) (logs_of c.args.logs.now))) first
          (subst (λ (rs : List Record). AreNumbered segment c.in-Some.first seq rs) (joined_flat c.args.logs.now) (rw c.seq-seq.ensures at (c.in_ok-keeps_numbers.ensures.0 c.if-branch.true)));
      kept = c.keeps_token.ensures.0 c.if-keeps_token.true;
    }

pub returns-clause-fails : goal.returns-clause-fails
returns-clause-fails c = λ keeps.
    (let segment = c.args.read.now.segment in
    let seq = c.args.read.now.token.now.seq in
    let first : c.in-Some.first ≡ seq - count_on segment (logs_of c.args.logs.now) = (let some = c.in-Some.ensures.some in omega (arith, some)) in
    elim c.else-branch.branch [
      | else-branch-via-then-branch+else-keeps_token w ↦ true≢false (sym (w.keeps_token.ensures.1 keeps.kept) ∙ w.if-keeps_token.false)
      | else-branch-via-else-branch w ↦
          true≢false (sym (c.in_ok-keeps_numbers.ensures.1 (rw c.seq-seq.ensures (subst (λ (rs : List Record). AreNumbered segment c.in-Some.first seq rs) (sym (joined_flat c.args.logs.now)) (subst (λ (n : ℕ). AreNumbered segment n seq (flat_map (λ (log : List Record). log) (logs_of c.args.logs.now))) (sym first) keeps.numbered)))) ∙ w.if-branch.false)
    ])

use Rattle.std.proofs.Common.{ap, length, ◌≡◌, ◌+◌, ◌-◌, ◌<◌, ◌≤◌, ◌∙◌, ℕ, sym, subst, arith, true≢false}
use Rattle.lc_page.specs.Page.{page_in}
use Rattle.lc_rest.specs.Merge.{logs_of}
use Rattle.lc_rest.specs.TokenTest.{count_on}
use Rattle.lc_rest.proofs.KeptTokens.{read-least, records-least}
use Rattle.lc_rest.proofs.token_test.keeps_token.Goals.{then-is_reached, else-is_reached}
use Rattle.lc_rest.proofs.token_test.keeps_token.Goals as goal

pub returns-then-are_read : goal.returns-then-are_read
returns-then-are_read c =
    let read = c.args.read.now in
    let first : c.in-Some.first + count_on read.segment (logs_of c.args.logs.now) ≡ read.token.now.seq = c.in-Some.ensures.some ∙ c.seq-seq.ensures in
    let number : c.in-Some.first ≡ read.token.now.seq - count_on read.segment (logs_of c.args.logs.now) = omega (arith, first) in (
      λ e. elim c.if-is_reached.branch [
        | then-is_reached w ↦ record {
          small = omega (arith, c.if-seq-gt-MAX_SEQ.false, c.seq-seq.ensures);
          clean_within = omega (arith, c.if-clean-seq.false, c.clean-clean.ensures, c.seq-seq.ensures);
          entries = omega (arith, c.if-len-read.false, c.len.ensures, ap length c.pages.ensures);
          few = omega (arith, first);
          reached = subst (λ n. (page : ℕ) × (page < read.pages) × (n ≤ (page_in read.area.now page).sequence)) number (c.is_reached.ensures.0 w.if-is_reached.true);
          least = c.least_waiting-least.result;
          most = (rw c.seq-seq.ensures at c.least_waiting-least.ensures).most;
          read = w.are_read.ensures.0 (sym w.value-is ∙ c.if-are_read.true);
          records = c.keeps_logs.ensures.0 e;
        }
        | else-is_reached w ↦ absurd (true≢false (sym c.if-are_read.true ∙ w.value-is ∙ w.if-is_reached.false))
      ],
      λ kept. c.keeps_logs.ensures.1
          (records-least read.segment read.pages read.token.now read.holder (logs_of c.args.logs.now) c.args.stable.now read.area.now kept c.least_waiting-least.result (rw c.seq-seq.ensures at c.least_waiting-least.ensures)),
    )

pub returns-else-are_read : goal.returns-else-are_read
returns-else-are_read c =
    let read = c.args.read.now in
    let first : c.in-Some.first + count_on read.segment (logs_of c.args.logs.now) ≡ read.token.now.seq = c.in-Some.ensures.some ∙ c.seq-seq.ensures in
    let number : read.token.now.seq - count_on read.segment (logs_of c.args.logs.now) ≡ c.in-Some.first = omega (arith, first) in (
      λ e. absurd (true≢false (sym e ∙ c.if-are_read.false)),
      λ kept. elim c.if-is_reached.branch [
        | then-is_reached w ↦
            w.value-is ∙ w.are_read.ensures.1
            (read-least read.segment read.pages read.token.now read.holder (logs_of c.args.logs.now) c.args.stable.now read.area.now kept c.least_waiting-least.result (rw c.seq-seq.ensures at c.least_waiting-least.ensures))
        | else-is_reached w ↦
            absurd (true≢false (sym (c.is_reached.ensures.1 (subst (λ n. (page : ℕ) × (page < read.pages) × (n ≤ (page_in read.area.now page).sequence)) number kept.reached)) ∙ w.if-is_reached.false))
      ],
    )

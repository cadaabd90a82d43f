use Rattle.std.proofs.Common.{ℕ, ◌++◌, List, sym, ◌∙◌, ap, append-nil, arith}
use Rattle.lc_log.proofs.WalkLemmas.{words_of-short, words_of-next}
use Rattle.lc_log.proofs.walking.words_in.Goals as goal

pub loop-rest-preserved : goal.loop-rest-preserved
loop-rest-preserved c = record {
  all = words_of-next c.loop-rest.words.items c.push.new.self.items c.loop-rest.rest.now c.split_at.result.0.now c.split_at.result.1.now c.word_of.result c.args.bytes.now
      (omega arith) c.split_at.ensures.front c.split_at.ensures.back c.word_of.ensures c.in_ok-push.ensures.items c.loop-rest.invariant.all;
  within = omega (arith, c.split_at.ensures.back_len, c.loop-rest.invariant.within);
}

pub returns-clause-words : goal.returns-clause-words
returns-clause-words c =
    sym (append-nil c.loop-rest.words.items)
    ∙ ap (λ (l : List ℕ). c.loop-rest.words.items ++ l) (sym (words_of-short c.loop-rest.rest.now (omega arith)))
    ∙ c.loop-rest.invariant.all

use Rattle.std.proofs.Common.{ℕ, ◌++◌, List, sym, ◌∙◌, ap, append-nil, arith, length}
use Rattle.lc_record.specs.Words.{words_of}
use Rattle.lc_log.proofs.WalkLemmas.{words_of-short, words_of-next}
use Rattle.lc_recover.proofs.words.fill_words.Goals as goal

pub loop-rest-init : goal.loop-rest-init
loop-rest-init c = record {
  all = ap (λ (l : List ℕ). l ++ words_of c.args.bytes.now) c.requires.empty;
  within = omega arith;
  room = omega (arith, ap (λ (l : List ℕ). length l) c.requires.empty, c.requires.room);
}

pub push_reserved-requires : goal.push_reserved-requires
push_reserved-requires c = omega (arith, c.loop-rest.invariant.room, c.loop-rest-test.true, c.loop-rest.words.ok)

pub loop-rest-preserved : goal.loop-rest-preserved
loop-rest-preserved c = record {
  all = words_of-next c.loop-rest.words.items c.push_reserved.new.self.items c.loop-rest.rest.now c.split_at.result.0.now c.split_at.result.1.now c.word_of.result c.args.bytes.now
      (omega arith) c.split_at.ensures.front c.split_at.ensures.back c.word_of.ensures c.push_reserved.ensures.items c.loop-rest.invariant.all;
  within = omega (arith, c.split_at.ensures.back_len, c.loop-rest.invariant.within);
  room = omega (arith, c.split_at.ensures.back_len, c.loop-rest.invariant.room, c.push_reserved.ensures.capacity, c.push_reserved.ensures.len, c.push_reserved.new.self.ok, c.loop-rest.words.ok, c.loop-rest-test.true);
}

pub returns : goal.returns
returns c =
    sym (append-nil c.loop-rest.words.items)
    ∙ ap (λ (l : List ℕ). c.loop-rest.words.items ++ l) (sym (words_of-short c.loop-rest.rest.now (omega arith)))
    ∙ c.loop-rest.invariant.all

use Rattle.lc_record.proofs.LockWordsLemmas.{none_left}
use Rattle.lc_record.proofs.lock_words.LockWords.is_empty.Goals as goal

pub returns : goal.returns
returns c = none_left c.args.self.words.now (λ x. (x.0, x.1.now)) c.lock_of.result c.is_none.result c.lock_of.ensures c.is_none.ensures

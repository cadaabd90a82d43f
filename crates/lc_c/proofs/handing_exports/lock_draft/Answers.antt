use Rattle.std.proofs.Common.{refl}
use Rattle.std.specs.Prelude.{Ok, Err}
use Rattle.lc_c.proofs.handing_exports.lock_draft.Goals as goal

pub returns-in-Ok-clause-locks : goal.returns-in-Ok-clause-locks
returns-in-Ok-clause-locks c =
    let does = c.in-Ok.ensures in let all = c.lock_draft.ensures in record {
      result = Ok tt;
      does = record {
        locks = does.locks;
        none = λ e. let both = all.none e in record { none_written = both.0; none_read = both.1 };
        many = tt;
        nothing = all.nothing;
        long = all.image_len;
      };
      answers = refl;
    }

pub returns-in-Err-clause-locks : goal.returns-in-Err-clause-locks
returns-in-Err-clause-locks c =
    let does = c.in-Err.ensures in let all = c.lock_draft.ensures in record {
      result = Err (record {});
      does = record {
        locks = does.locks;
        none = λ e. let both = all.none e in record { none_written = both.0; none_read = both.1 };
        many = record { none_written = does.many.0; none_read = does.many.1 };
        nothing = all.nothing;
        long = all.image_len;
      };
      answers = refl;
    }

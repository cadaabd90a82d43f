-- Of nodes that run: which replies tell that a device has failed, how often devices have failed then, and which
-- replies tell of something unknown.
use Rattle.std.specs.Prelude.{◌≡◌, ℕ, ◌+◌, Bool, true, false, List, Option, Some, slice_get, slice_set}
use Rattle.lc_disk.specs.declared.area.Area.{Ghosts}
use Rattle.lc_log.specs.OneCall.{IsOneCall}
use Rattle.lc_model.specs.declared.reply.Reply.{Reply}
use Rattle.lc_journal.specs.FaultReplies.{is_fault}

-- of these counts one is one more, and the others are as they were
pub record FailsOnce (olds news : List (Option ℕ)) : Type 0 where
  pub at : ℕ
  pub count : ℕ
  pub was : slice_get olds at ≡ Some (Some count)
  pub is : news ≡ slice_set olds at (Some (count + 1))

-- just where the reply tells of a failure, a device has failed, once
pub record CountsFaults (reply : Reply) (olds news : List (Option ℕ)) : Type 0 where
  pub fault : is_fault reply ≡ true → FailsOnce olds news
  pub none : is_fault reply ≡ false → news ≡ olds

module _ {D : Type 0} (a : Ghosts D) where
  -- one of these areas was called so
  pub record CallsOneOf (olds news : List (Option D)) : Type 0 where
    pub at : ℕ
    pub old : D
    pub new : D
    pub ok : Bool
    pub was : slice_get olds at ≡ Some (Some old)
    pub is : news ≡ slice_set olds at (Some new)
    pub call : IsOneCall a ok old new

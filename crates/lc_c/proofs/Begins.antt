-- One thread after another is asked to begin.
use Rattle.std.proofs.Common.{◌≡◌, ◌<◌, ◌+◌, ◌-◌, ℕ, true, false, List, refl, sym, subst}
use Rattle.std.specs.Prelude.{Ok}
use Rattle.lc_model.specs.declared.event.Event.TheVariants.{Begin}
use Rattle.lc_model.specs.declared.reply.Reply.{Reply}
use Rattle.lc_record.proofs.ListLemmas.{sub_suc as one_more}
use Rattle.lc_c.specs.BeginsFree.{BeginsFrom, GoesOn, is_taken}
use Rattle.lc_c.specs.SessionState.{StepsStage}
use Rattle.lc_c.specs.declared.session_state.SessionState.{SessionState}

module _ (n k node : ℕ) (writing reading : List ℕ) (old mid : SessionState) (first : Reply) where
  pub next_asked : k < n → StepsStage old (Begin node k writing reading) (Ok first) mid → is_taken first ≡ true → (found : ℕ) (reply : Reply) (new : SessionState)
      → BeginsFrom (n - (k + 1)) node writing reading (k + 1) mid found reply new → BeginsFrom (n - k) node writing reading k old found reply new
  next_asked lt step taken found reply new rest =
      subst (λ left. BeginsFrom left node writing reading k old found reply new) (one_more n k lt)
      (first, mid, step, subst (λ b. GoesOn b (BeginsFrom (n - (k + 1)) node writing reading (k + 1)) k first mid found reply new) (sym taken) rest)

  pub answered : k < n → StepsStage old (Begin node k writing reading) (Ok first) mid → is_taken first ≡ false → BeginsFrom (n - k) node writing reading k old k first mid
  answered lt step free =
      subst (λ left. BeginsFrom left node writing reading k old k first mid) (one_more n k lt)
      (first, mid, step, subst (λ b. GoesOn b (BeginsFrom (n - (k + 1)) node writing reading (k + 1)) k first mid k first mid) (sym free) (refl, refl, refl))

-- A token that is sent leaves the records as they were.
use Rattle.std.proofs.Common.{◌≡◌, List, [], ◌∷◌, ◌++◌, ap, ◌∙◌, append-nil}
use Rattle.std.specs.Prelude.{Result, Ok, Err, OnOk, OnErr}
use Rattle.lc_cluster.specs.Messages.{records_in}
use Rattle.lc_node.specs.declared.message.Message.{Message}
use Rattle.lc_node.specs.declared.message.Message.TheVariants.{Token}
use Rattle.lc_cluster.proofs.NextSent.{records_append}

module _ {P : Type 0} (old new : List (Message P)) (token : P) where
  pub same_records : new ≡ old ++ Token token ∷ [] → records_in new ≡ records_in old
  same_records sent = ap records_in sent ∙ (records_append old (Token token ∷ []) ∙ append-nil (records_in old))

  -- sent or not
  pub same_records_after : {A E : Type 0} (result : Result A E) → OnOk result (new ≡ old ++ Token token ∷ []) → OnErr result (new ≡ old) → records_in new ≡ records_in old
  same_records_after (Ok done) sent none = same_records sent
  same_records_after (Err fault) sent none = ap records_in none

-- Where the token of a segment is.
use Rattle.std.specs.Prelude.{◌≡◌, ℕ}
use Rattle.lc_model.specs.State.{Place, At, Travelling}
use Rattle.lc_rest.specs.declared.holder.Holder.{Holder}
use Rattle.lc_rest.specs.declared.holder.Holder.TheVariants.{Here, Left}

-- the node where the token is, or that it left
abbrev pub node_of : Holder → ℕ
node_of (Here node) = node
node_of (Left node) = node

-- the place of the machine's token that this is
abbrev pub IsPlaced : Holder → Place → Type 0
IsPlaced (Here node) place = place ≡ At node
IsPlaced (Left node) place = place ≡ Travelling

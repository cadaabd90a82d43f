use Rattle.std.proofs.Common.{length}
use Rattle.lc_rest.proofs.Stuck.{all-known, no-order}
use Rattle.lc_rest.proofs.laws.no_order.Goals as goal

pub returns : goal.returns
returns c = λ logs numbers turns others node known stuck are all. no-order logs numbers turns others node (all-known logs (length numbers) known) stuck are all

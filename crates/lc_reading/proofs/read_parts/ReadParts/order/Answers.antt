use Rattle.std.proofs.Common.{◌≡◌, List, length, ap, sym, ◌∙◌, subst, arith}
use Rattle.std.specs.Global.{Vec}
use Rattle.std.proofs.lemmas.List.{length-map}
use Rattle.lc_record.specs.declared.record.Record.{Record}
use Rattle.lc_rest.specs.Merge.{AreKnown, logs_of}
use Rattle.lc_reading.specs.Readings.{first_numbers}
use Rattle.lc_reading.proofs.KnownLocks.{known_locks}
use Rattle.lc_reading.proofs.TokenReads.{length_numbers}
use Rattle.lc_reading.proofs.read_parts.ReadParts.order.Goals as goal

numbers_are : (c : goal.After-as_slice) → c.as_mut_slice.result.now ≡ first_numbers c.args.self.now
numbers_are c = c.as_mut_slice.ensures.value ∙ c.in_ok-behind.ensures.items_if_clones_equal (λ x y is. is) ∙ c.requires.numbers

pub merge_records-requires : goal.merge_records-requires
merge_records-requires c =
    let r = c.args.self.now in
    let many : length c.as_mut_slice.result.now ≡ r.geometry.segments = omega (arith, ap length (numbers_are c), length_numbers r, r.all_tokens, r.tokens.ok.0) in
    let logs : length (logs_of r.logs.items) ≡ r.geometry.nodes = (let long = length-map r.logs.items (λ (log : Vec Record). log.items) in omega (arith, long, r.all_logs, r.logs.ok.0)) in
    record {
      known = subst (λ (l : List (Vec Record)). AreKnown (length c.as_mut_slice.result.now) (logs_of l)) (sym c.as_slice.ensures.value)
          (known_locks r.geometry (length c.as_mut_slice.result.now) r.geometry.nodes (logs_of r.logs.items) many logs c.requires.whole c.requires.own);
    }

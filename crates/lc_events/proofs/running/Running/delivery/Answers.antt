use Rattle.std.proofs.Common.{◌≡◌, sym, subst, ◌∙◌, true≢false, arith}
use Rattle.std.specs.Prelude.{IfNone, IfSome, IsSome}
use Rattle.lc_record.specs.Codec.{BeginsNoRecord, BeginsWith}
use Rattle.lc_record.specs.Part.{part_of}
use Rattle.lc_record.proofs.ListLemmas.{OnErr_from as on_err}
use Rattle.lc_events.specs.Delivers.{CopiesPart}
use Rattle.lc_events.proofs.Arrivals.{delivery_known, finds_kept, finds_known, finds_next, finds_trimmed, finds_unknown, finds_unlocked, has_part, node_at, slot_within}
use Rattle.lc_desk.proofs.Away.{slot_at}
use Rattle.lc_journal.proofs.FoundByNumber.{begun_so, read_so}
use Rattle.lc_events.proofs.running.Running.delivery.Goals as goal

pub returns-in-Unknown-clause-brings : goal.returns-in-Unknown-clause-brings
returns-in-Unknown-clause-brings g c =
    let w = c.args.self.now in
    let from = c.index.result.now in
    let known = delivery_known w.geometry c.args.sender c.args.number c.args.segment c.args.to c.requires.known in
    let at_sender = node_at g.D.Area w c.args.sender from known.1 c.index.ensures in
    finds_unknown g.D.Area w c.args.sender c.args.number c.args.segment c.args.to from at_sender c.in-Unknown.ensures

pub returns-in-Trimmed-clause-brings : goal.returns-in-Trimmed-clause-brings
returns-in-Trimmed-clause-brings g c =
    let w = c.args.self.now in
    let from = c.index.result.now in
    let known = delivery_known w.geometry c.args.sender c.args.number c.args.segment c.args.to c.requires.known in
    let at_sender = node_at g.D.Area w c.args.sender from known.1 c.index.ensures in
    finds_trimmed g.D.Area w c.args.sender c.args.number c.args.segment c.args.to from at_sender c.in-Trimmed.ensures

pub returns-in_default-clause-brings : goal.returns-in_default-clause-brings
returns-in_default-clause-brings g c =
    let w = c.args.self.now in
    let from = c.index.result.now in
    let known = delivery_known w.geometry c.args.sender c.args.number c.args.segment c.args.to c.requires.known in
    let at_sender = node_at g.D.Area w c.args.sender from known.1 c.index.ensures in
    finds_unlocked g.D.Area w c.args.sender c.args.number c.args.segment c.args.to from at_sender c.in-Record.view c.in-Record.ensures (sym c.number_in.ensures ∙ c.in_default.is)

pub index-slot-requires : goal.index-slot-requires
index-slot-requires g c =
    let w = c.args.self.now in
    let node = c.index-2.result.now in
    let known = delivery_known w.geometry c.args.sender c.args.number c.args.segment c.args.to c.requires.known in
    let at = node_at g.D.Area w c.args.to node known.0 c.index-2.ensures in
    let within = slot_within g.D.Area w c.args.to c.args.segment node at known.3 in
    omega (arith, within, known.2)

pub returns-then-knows-clause-brings : goal.returns-then-knows-clause-brings
returns-then-knows-clause-brings g c =
    let w = c.args.self.now in
    let from = c.index.result.now in
    let node = c.index-2.result.now in
    let slot = c.index-slot.result.now in
    let known = delivery_known w.geometry c.args.sender c.args.number c.args.segment c.args.to c.requires.known in
    let at_sender = node_at g.D.Area w c.args.sender from known.1 c.index.ensures in
    let at = node_at g.D.Area w c.args.to node known.0 c.index-2.ensures in
    let at_segment = slot_at node.desk.here c.args.segment slot known.2 (slot_within g.D.Area w c.args.to c.args.segment node at known.3) c.index-slot.ensures in
    finds_known g.D.Area w c.args.sender c.args.number c.args.segment c.args.to from at_sender c.in-Record.view c.in-Record.ensures c.in-Some.seq (sym c.number_in.ensures ∙ c.in-Some.is)
    known.2 node at slot at_segment (sym c.knows.ensures ∙ c.if-knows.true)

pub returns-then-is_next-clause-brings : goal.returns-then-is_next-clause-brings
returns-then-is_next-clause-brings g c =
    let w = c.args.self.now in
    let from = c.index.result.now in
    let node = c.index-2.result.now in
    let slot = c.index-slot.result.now in
    let known = delivery_known w.geometry c.args.sender c.args.number c.args.segment c.args.to c.requires.known in
    let at_sender = node_at g.D.Area w c.args.sender from known.1 c.index.ensures in
    let at = node_at g.D.Area w c.args.to node known.0 c.index-2.ensures in
    let at_segment = slot_at node.desk.here c.args.segment slot known.2 (slot_within g.D.Area w c.args.to c.args.segment node at known.3) c.index-slot.ensures in
    finds_next g.D.Area w c.args.sender c.args.number c.args.segment c.args.to from at_sender c.in-Record.view c.in-Record.ensures c.in-Some.seq (sym c.number_in.ensures ∙ c.in-Some.is)
    known.2 node at slot at_segment (sym c.knows.ensures ∙ c.if-knows.false) (c.is_next.ensures.0 c.if-is_next.true)

pub returns-in_err-record-clause-memory : goal.returns-in_err-record-clause-memory
returns-in_err-record-clause-memory g c =
    let w = c.args.self.now in
    let from = c.index.result.now in
    let node = c.index-2.result.now in
    let slot = c.index-slot.result.now in
    let known = delivery_known w.geometry c.args.sender c.args.number c.args.segment c.args.to c.requires.known in
    let at_sender = node_at g.D.Area w c.args.sender from known.1 c.index.ensures in
    let at = node_at g.D.Area w c.args.to node known.0 c.index-2.ensures in
    let at_segment = slot_at node.desk.here c.args.segment slot known.2 (slot_within g.D.Area w c.args.to c.args.segment node at known.3) c.index-slot.ensures in
    on_err c.from_residual.result _ (λ m s x h. (
      c.in-Record.view,
      finds_kept g.D.Area w c.args.sender c.args.number c.args.segment c.args.to from at_sender c.in-Record.view c.in-Record.ensures c.in-Some.seq (sym c.number_in.ensures ∙ c.in-Some.is)
          known.2 node at slot at_segment (sym c.knows.ensures ∙ c.if-knows.false) (λ next. true≢false (sym (c.is_next.ensures.1 next) ∙ c.if-is_next.false)) m s x h,
    ))

pub unreachable-requires : goal.unreachable-requires
unreachable-requires g c =
    begun_so c.words.result.now c.in-Record.view c.words.ensures (subst (λ found. IfNone found (BeginsNoRecord c.words.result.now)) c.in-None.is c.in_ok-record.ensures.none)

pub returns-clause-brings : goal.returns-clause-brings
returns-clause-brings g c =
    let w = c.args.self.now in
    let from = c.index.result.now in
    let node = c.index-2.result.now in
    let slot = c.index-slot.result.now in
    let words = c.words.result.now in
    let known = delivery_known w.geometry c.args.sender c.args.number c.args.segment c.args.to c.requires.known in
    let at_sender = node_at g.D.Area w c.args.sender from known.1 c.index.ensures in
    let at = node_at g.D.Area w c.args.to node known.0 c.index-2.ensures in
    let at_segment = slot_at node.desk.here c.args.segment slot known.2 (slot_within g.D.Area w c.args.to c.args.segment node at known.3) c.index-slot.ensures in
    let lock = sym c.number_in.ensures ∙ c.in-Some.is in
    let begins = subst (λ found. IfSome found (λ x. BeginsWith words x.0 x.1)) c.in-Some-2.is c.in_ok-record.ensures.found in
    let same : c.in-Some-2.record ≡ c.in-Record.view = read_so words c.in-Record.view c.in-Some-2.record c.in-Some-2.field-0-1 c.words.ensures begins in (
      subst (λ r. IsSome (part_of c.args.segment r)) (sym same) (has_part c.args.segment c.in-Some.seq c.in-Record.view lock),
      λ m s x h.
          subst (CopiesPart m s x c.args.sender c.args.number c.args.segment c.args.to) (sym same)
          (finds_kept g.D.Area w c.args.sender c.args.number c.args.segment c.args.to from at_sender c.in-Record.view c.in-Record.ensures c.in-Some.seq lock
          known.2 node at slot at_segment (sym c.knows.ensures ∙ c.if-knows.false) (λ next. true≢false (sym (c.is_next.ensures.1 next) ∙ c.if-is_next.false)) m s x h),
    )

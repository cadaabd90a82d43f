use Rattle.std.proofs.Common.{◌≡◌, ◌-◌, length, ap, refl, subst, sym, ◌∙◌, true≢false}
use Rattle.std.specs.Prelude.{IsSome, Ok, Err}
use Rattle.lc_record.specs.Part.{part_of}
use Rattle.lc_token.specs.Backlog.{Backlog}
use Rattle.lc_token.specs.declared.received.Received.TheVariants.{Ignored}
use Rattle.lc_desk.proofs.Away.{all_kept, in_place_away, in_place_kept, runs_away, runs_kept, short_away, short_stays, slot_at, stands_there}
use Rattle.lc_desk.proofs.Caught.{comes_away, comes_here, is_new}
use Rattle.lc_desk.proofs.Kept.{over_long}
use Rattle.lc_desk.proofs.desk.Desk.receive.Goals as goal

pub invariant_of-self-clause-runs : goal.invariant_of-self-clause-runs
invariant_of-self-clause-runs c =
    let w = c.args.self.now in
    let slot = c.index_mut-slot.result.now in
    let at = slot_at w.here c.args.segment slot c.requires.first c.requires.slot c.index_mut-slot.ensures.value in
    runs_kept w.here (c.args.segment - 1) slot slot w.seats.items at refl w.runs

pub invariant_of-self-clause-short : goal.invariant_of-self-clause-short
invariant_of-self-clause-short c =
    let w = c.args.self.now in
    let slot = c.index_mut-slot.result.now in
    let at = slot_at w.here c.args.segment slot c.requires.first c.requires.slot c.index_mut-slot.ensures.value in
    short_stays w.here (c.args.segment - 1) slot slot at refl w.short

pub invariant_of-self-clause-in_place : goal.invariant_of-self-clause-in_place
invariant_of-self-clause-in_place c =
    let w = c.args.self.now in
    let slot = c.index_mut-slot.result.now in
    let at = slot_at w.here c.args.segment slot c.requires.first c.requires.slot c.index_mut-slot.ensures.value in
    in_place_kept w.here (c.args.segment - 1) slot slot at refl w.in_place

pub returns-then-not-is_empty-clause-receives : goal.returns-then-not-is_empty-clause-receives
returns-then-not-is_empty-clause-receives c =
    let w = c.args.self.now in
    let slot = c.index_mut-slot.result.now in
    let at = slot_at w.here c.args.segment slot c.requires.first c.requires.slot c.index_mut-slot.ensures.value in
    comes_here w c.args.segment c.requires.first slot at c.args.record.now (λ none. true≢false (sym (c.is_empty.ensures.1 none) ∙ c.if-not-is_empty.true))

pub receive-requires : goal.receive-requires
receive-requires c =
    let w = c.args.self.now in
    let slot = c.index_mut-slot.result.now in
    let at = slot_at w.here c.args.segment slot c.requires.first c.requires.slot c.index_mut-slot.ensures.value in
    let its = stands_there w.here c.args.segment slot c.requires.first at w.in_place in
    subst (λ n. IsSome (part_of n c.args.record.now)) (sym its.0) c.requires.lock

pub invariant_of-self-in_default-clause-runs : goal.invariant_of-self-in_default-clause-runs
invariant_of-self-in_default-clause-runs c =
    let w = c.args.self.now in
    let slot = c.index_mut-slot.result.now in
    let at = slot_at w.here c.args.segment slot c.requires.first c.requires.slot c.index_mut-slot.ensures.value in
    runs_kept w.here (c.args.segment - 1) slot (record slot { parts = c.receive.new.self }) w.seats.items at (ap (λ b. record slot { parts = b }) c.in_default.ensures.err) w.runs

pub invariant_of-self-in_default-clause-short : goal.invariant_of-self-in_default-clause-short
invariant_of-self-in_default-clause-short c =
    let w = c.args.self.now in
    let slot = c.index_mut-slot.result.now in
    let at = slot_at w.here c.args.segment slot c.requires.first c.requires.slot c.index_mut-slot.ensures.value in
    short_stays w.here (c.args.segment - 1) slot (record slot { parts = c.receive.new.self }) at (ap (λ b. record slot { parts = b }) c.in_default.ensures.err) w.short

pub invariant_of-self-in_default-clause-in_place : goal.invariant_of-self-in_default-clause-in_place
invariant_of-self-in_default-clause-in_place c =
    let w = c.args.self.now in
    let slot = c.index_mut-slot.result.now in
    let at = slot_at w.here c.args.segment slot c.requires.first c.requires.slot c.index_mut-slot.ensures.value in
    in_place_kept w.here (c.args.segment - 1) slot (record slot { parts = c.receive.new.self }) at (ap (λ b. record slot { parts = b }) c.in_default.ensures.err) w.in_place

pub returns-in_default-clause-memory : goal.returns-in_default-clause-memory
returns-in_default-clause-memory c =
    let w = c.args.self.now in
    let slot = c.index_mut-slot.result.now in
    let at = slot_at w.here c.args.segment slot c.requires.first c.requires.slot c.index_mut-slot.ensures.value in
    let its = stands_there w.here c.args.segment slot c.requires.first at w.in_place in
    is_new w c.args.segment c.requires.first slot at c.args.record.now (c.is_empty.ensures.0 c.if-not-is_empty.false) its.0
    (λ part is known. (let no : Err c.in_default.field-0 ≡ Ok Ignored = (c.in_default.ensures.ignored part is).1 known in cc))

pub returns-in_default-clause-err : goal.returns-in_default-clause-err
returns-in_default-clause-err c =
    let w = c.args.self.now in
    let slot = c.index_mut-slot.result.now in
    let at = slot_at w.here c.args.segment slot c.requires.first c.requires.slot c.index_mut-slot.ensures.value in
    all_kept w _ (c.args.segment - 1) slot (record slot { parts = c.receive.new.self }) at refl refl (ap (λ b. record slot { parts = b }) c.in_default.ensures.err)

pub invariant_of-self-2-clause-runs : goal.invariant_of-self-2-clause-runs
invariant_of-self-2-clause-runs c =
    let w = c.args.self.now in
    let slot = c.index_mut-slot.result.now in
    let at = slot_at w.here c.args.segment slot c.requires.first c.requires.slot c.index_mut-slot.ensures.value in
    runs_away w.here (c.args.segment - 1) slot c.catch_up.new.self at c.catch_up.ensures.token (c.is_empty.ensures.0 c.if-not-is_empty.false) w.seats.items w.runs

pub invariant_of-self-2-clause-short : goal.invariant_of-self-2-clause-short
invariant_of-self-2-clause-short c =
    let w = c.args.self.now in
    let slot = c.index_mut-slot.result.now in
    let at = slot_at w.here c.args.segment slot c.requires.first c.requires.slot c.index_mut-slot.ensures.value in
    short_away w.here (c.args.segment - 1) slot c.catch_up.new.self at c.catch_up.ensures.token
    (ap length c.catch_up.ensures.bytes ∙ over_long c.receive.new.self.due slot.image.bytes.items) w.short

pub invariant_of-self-2-clause-in_place : goal.invariant_of-self-2-clause-in_place
invariant_of-self-2-clause-in_place c =
    let w = c.args.self.now in
    let slot = c.index_mut-slot.result.now in
    let at = slot_at w.here c.args.segment slot c.requires.first c.requires.slot c.index_mut-slot.ensures.value in
    in_place_away w.here (c.args.segment - 1) slot c.catch_up.new.self at c.catch_up.ensures.token
    (ap (λ (b : Backlog). b.segment) c.catch_up.ensures.parts ∙ c.receive.ensures.segment) (ap (λ (b : Backlog). b.due) c.catch_up.ensures.parts) w.in_place

pub returns-clause-receives : goal.returns-clause-receives
returns-clause-receives c =
    let w = c.args.self.now in
    let slot = c.index_mut-slot.result.now in
    let at = slot_at w.here c.args.segment slot c.requires.first c.requires.slot c.index_mut-slot.ensures.value in
    let its = stands_there w.here c.args.segment slot c.requires.first at w.in_place in
    comes_away w c.args.segment c.requires.first slot at c.args.record.now c.catch_up.new.self c.receive.new.self c.in-Ok.received (c.is_empty.ensures.0 c.if-not-is_empty.false) its.1 its.0 c.catch_up.ensures
    c.requires.lock c.in-Ok.ensures.receives

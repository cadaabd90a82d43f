use Rattle.std.proofs.Common.{◌≡◌, ◌+◌, ◌*◌, ◌<◌, ◌≤◌, Bool, true, true≢false, List, map, take, length, Bor, sym, ◌∙◌, ap, subst, arith}
use Rattle.std.specs.Prelude.{Some, not, slice_index_or, if◌then◌else◌}
use Rattle.std.proofs.lemmas.List.{get_or-map, length-map, take_all}
use Rattle.lc_record.specs.declared.record.Record.{Record}
use Rattle.lc_rest.specs.Turns.{has_lock}
use Rattle.lc_rest.specs.Replay.{bytes_after, laid_on, number_after}
use Rattle.lc_rest.proofs.Unplayed.{due-other, replay-some, replay-unplayed, unmet-unplayed}
use Rattle.lc_rest.proofs.Replays.{played-locked, met-none, due-none, bytes-more, number-more, length-laid}
use Rattle.lc_rest.proofs.replay.replay_segment.Goals.{then-has_lock+then-eq, then-agrees, else-agrees, then-has_lock+else-eq, else-has_lock, then-agrees-2, else-agrees-2}
use Rattle.lc_rest.proofs.replay.replay_segment.Goals as goal

pub loop-whole-preserved : goal.loop-whole-preserved
loop-whole-preserved c =
    let rs : List Record = map (λ (r : Bor Record). r.now) c.args.records.now in
    let i = c.loop-whole.whole-index in
    let d : Record = c.whole-item.result.now in
    let less : i < length rs = subst (λ k. i < k) (sym (length-map c.args.records.now (λ (r : Bor Record). r.now))) c.loop-whole-test.true in
    let item : d ≡ slice_index_or rs i d = ap (λ (r : Bor Record). r.now) c.whole-item.is ∙ sym (get_or-map (λ (r : Bor Record). r.now) c.args.records.now i c.whole-item.result d c.loop-whole-test.true) in
    let segment = c.args.segment in
    let area = c.args.area.now in
    let bytes : c.lay_on.new.bytes ≡ bytes_after segment (take (i + 1) rs) c.args.bytes.now =
    c.lay_on.ensures ∙ ap (λ (r : Record). laid_on segment r.ranges c.loop-whole.bytes) item ∙ bytes-more segment rs c.loop-whole.bytes c.args.bytes.now i d less c.loop-whole.invariant.1 in
    let long : length c.lay_on.new.bytes ≡ c.args.pages * 256 =
    ap length c.lay_on.ensures ∙ length-laid segment d.ranges c.loop-whole.bytes ∙ c.loop-whole.invariant.2 in
    let number : (if has_lock segment d then c.loop-whole.number + 1 else c.loop-whole.number) ≡ number_after segment (take (i + 1) rs) c.args.first =
    ap (λ (r : Record). if has_lock segment r then c.loop-whole.number + 1 else c.loop-whole.number) item ∙ number-more segment rs c.loop-whole.number c.args.first i d less c.loop-whole.invariant.0 in
    let least = c.loop-whole.invariant.3 in
    let most = c.loop-whole.invariant.4 in
    let locked : (b : Bool) → b ≡ has_lock segment d → b ≡ true → c.loop-whole.number + 1 ≡ number_after segment (take (i + 1) rs) c.args.first =
    λ b one two. ap (λ h. if h then c.loop-whole.number + 1 else c.loop-whole.number) (sym two ∙ one) ∙ number in
    let was = c.loop-whole.invariant.0 in
    elim c.if-has_lock.branch [
      | then-has_lock+then-eq w ↦
          let is = w.number-is in
          let count = is ∙ locked c.has_lock.result c.has_lock.ensures w.if-has_lock.true in (
            count,
            bytes,
            long,
            omega (arith, is, least),
            omega (arith, is, most),
            rw (w.number-is, w.due-is) w.next_due-due-then-eq.ensures,
            elim w.if-agrees.branch [
              | then-agrees v ↦ λ e. played-locked segment c.args.first rs c.args.bytes.now area c.args.pages c.loop-whole.number c.if-has_lock.number i c.lay_on.new.bytes is least was count bytes (c.loop-whole.invariant.6 v.if-agrees.true)
                  (rw w.number-is (v.are_met-agrees.ensures.met (sym v.agrees-is ∙ sym w.agrees-is ∙ e)))
              | else-agrees v ↦ λ e. absurd (true≢false (sym e ∙ w.agrees-is ∙ v.agrees-is ∙ v.if-agrees.false))
            ],
            elim w.if-agrees.branch [
              | then-agrees v ↦ λ e. unmet-unplayed segment c.args.first rs c.args.bytes.now area c.args.pages c.loop-whole.number c.if-has_lock.number i c.lay_on.new.bytes is least was count bytes
                  (rw w.number-is (v.are_met-agrees.ensures.unmet (sym v.agrees-is ∙ sym w.agrees-is ∙ e)))
              | else-agrees v ↦ λ e. c.loop-whole.invariant.7 v.if-agrees.false
            ],
          )
      | then-has_lock+else-eq w ↦
          let is = w.number-is in
          let count = is ∙ locked c.has_lock.result c.has_lock.ensures w.if-has_lock.true in
          let other : c.loop-whole.due ≡ Some (c.loop-whole.number + 1) → ⊥ = due-other c.loop-whole.due (c.loop-whole.number + 1) (sym w.if-eq.ensures) in (
            count,
            bytes,
            long,
            omega (arith, is, least),
            omega (arith, is, most),
            rw (w.number-is, w.due-is) (due-none area c.args.pages c.loop-whole.number c.loop-whole.due c.loop-whole.invariant.5 other),
            λ e. played-locked segment c.args.first rs c.args.bytes.now area c.args.pages c.loop-whole.number c.if-has_lock.number i c.lay_on.new.bytes is least was count bytes (c.loop-whole.invariant.6 (sym w.agrees-is ∙ e))
                (rw w.number-is (met-none area c.args.pages c.loop-whole.number c.loop-whole.due c.lay_on.new.bytes c.loop-whole.invariant.5 other)),
            λ e. c.loop-whole.invariant.7 (sym w.agrees-is ∙ e),
          )
      | else-has_lock w ↦
          let is = w.number-is in (
            is ∙ ap (λ h. if h then c.loop-whole.number + 1 else c.loop-whole.number) (sym w.if-has_lock.false ∙ c.has_lock.ensures) ∙ number,
            bytes,
            long,
            omega (arith, is, least),
            omega (arith, is, most),
            rw (w.number-is, w.due-is) c.loop-whole.invariant.5,
            λ e. rw w.number-is (c.loop-whole.invariant.6 (sym w.agrees-is ∙ e)),
            λ e. c.loop-whole.invariant.7 (sym w.agrees-is ∙ e),
          )
    ]

pub returns-else-is_none-clause-replay : goal.returns-else-is_none-clause-replay
returns-else-is_none-clause-replay c =
    let rs : List Record = map (λ (r : Bor Record). r.now) c.args.records.now in
    let done : length rs ≤ c.loop-whole.whole-index = subst (λ k. k ≤ c.loop-whole.whole-index) (sym (length-map c.args.records.now (λ (r : Bor Record). r.now))) c.loop-whole-test.false in
    let number : c.loop-whole.number ≡ number_after c.args.segment rs c.args.first =
    c.loop-whole.invariant.0 ∙ ap (λ (l : List Record). number_after c.args.segment l c.args.first) (take_all c.loop-whole.whole-index rs done) in (
      λ e. absurd (true≢false (sym e ∙ c.if-is_none.false)),
      λ replay. elim c.if-agrees-2.branch [
        | then-agrees-2 w ↦ absurd (replay-some c.args.segment c.args.first c.args.last rs c.args.bytes.now c.args.area.now c.args.pages c.loop-whole.number c.loop-whole.due number c.loop-whole.invariant.5
            (w.is_none.ensures ∙ ap not (sym w.value-is ∙ c.if-is_none.false)) replay)
        | else-agrees-2 w ↦ absurd (replay-unplayed c.args.segment c.args.first c.args.last rs c.args.bytes.now c.args.area.now c.args.pages (c.loop-whole.invariant.7 w.if-agrees-2.false) replay)
      ],
    )

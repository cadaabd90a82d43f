use Rattle.std.proofs.Common.{ℕ, ◌-◌, ◌≤◌, ap, ◌∙◌, arith}
use Rattle.lc_log_side.specs.LogSide.{log_view}
use Rattle.lc_log_side.specs.Published.{published}
use Rattle.lc_log_side.proofs.Published.{found_ended, behind_stable, is_whole, next_behind}
use Rattle.lc_log_side.proofs.log_side.LogSide.record_at.Goals as goal

pub returns-then-place-gone-clause-whole : goal.returns-then-place-gone-clause-whole
returns-then-place-gone-clause-whole g c = is_whole (log_view g.D.Area c.self.inside) c.args.self.now c.self.view_is c.self.inside.known c.self.invariant.left c.self.invariant.past_records c.self.invariant.records

pub returns-then-place-ended-clause-whole : goal.returns-then-place-ended-clause-whole
returns-then-place-ended-clause-whole g c = is_whole (log_view g.D.Area c.self.inside) c.args.self.now c.self.view_is c.self.inside.known c.self.invariant.left c.self.invariant.past_records c.self.invariant.records

pub returns-then-place-ended-clause-found : goal.returns-then-place-ended-clause-found
returns-then-place-ended-clause-found g c = λ count most start.
    let outside : c.self.inside.ended.gone ≤ c.args.place = (let gone = c.gone.ensures in let past = c.if-place-gone.false in omega (arith, gone, past)) in
    let first = found_ended (log_view g.D.Area c.self.inside) c.args.self.now c.self.view_is c.self.inside.known c.self.invariant.left c.self.invariant.past_records c.self.invariant.records c.as_slice-ended.result.now c.args.place count (c.args.place - c.gone-2.result)
    c.as_slice-ended.ensures.words (ap (λ (n : ℕ). c.args.place - n) c.gone-2.ensures) outside c.if-place-ended.true start in
    c.first_behind.ensures.found first.within first.are ∙ first.first

pub returns-then-place-ended-clause-next : goal.returns-then-place-ended-clause-next
returns-then-place-ended-clause-next g c = λ count start.
    let outside : c.self.inside.ended.gone ≤ c.args.place = (let gone = c.gone.ensures in let past = c.if-place-gone.false in omega (arith, gone, past)) in
    let first = found_ended (log_view g.D.Area c.self.inside) c.args.self.now c.self.view_is c.self.inside.known c.self.invariant.left c.self.invariant.past_records c.self.invariant.records c.as_slice-ended.result.now c.args.place count (c.args.place - c.gone-2.result)
    c.as_slice-ended.ensures.words (ap (λ (n : ℕ). c.args.place - n) c.gone-2.ensures) outside c.if-place-ended.true start in
    next_behind (λ words. words.now) c.first_behind.result (published c.args.self.now) count c.args.place start (c.first_behind.ensures.found first.within first.are ∙ first.first)

pub returns-clause-whole : goal.returns-clause-whole
returns-clause-whole g c = is_whole (log_view g.D.Area c.self.inside) c.args.self.now c.self.view_is c.self.inside.known c.self.invariant.left c.self.invariant.past_records c.self.invariant.records

pub returns-clause-found : goal.returns-clause-found
returns-clause-found g c = λ count most start.
    let outside : c.self.inside.ended.gone ≤ c.args.place = (let gone = c.gone.ensures in let past = c.if-place-gone.false in omega (arith, gone, past)) in
    let first = behind_stable (log_view g.D.Area c.self.inside) c.args.self.now c.self.view_is c.self.inside.known c.self.invariant.left c.self.invariant.past_records c.self.invariant.records c.as_slice-ended.result.now c.as_slice.result.now c.args.place count (c.args.place - c.gone-2.result)
    c.as_slice-ended.ensures.words c.as_slice.ensures.value (ap (λ (n : ℕ). c.args.place - n) c.gone-2.ensures) outside c.if-place-ended.false start in
    c.first_behind-2.ensures.found first.within first.are ∙ first.first

pub returns-clause-next : goal.returns-clause-next
returns-clause-next g c = λ count start.
    let outside : c.self.inside.ended.gone ≤ c.args.place = (let gone = c.gone.ensures in let past = c.if-place-gone.false in omega (arith, gone, past)) in
    let first = behind_stable (log_view g.D.Area c.self.inside) c.args.self.now c.self.view_is c.self.inside.known c.self.invariant.left c.self.invariant.past_records c.self.invariant.records c.as_slice-ended.result.now c.as_slice.result.now c.args.place count (c.args.place - c.gone-2.result)
    c.as_slice-ended.ensures.words c.as_slice.ensures.value (ap (λ (n : ℕ). c.args.place - n) c.gone-2.ensures) outside c.if-place-ended.false start in
    next_behind (λ words. words.now) c.first_behind-2.result (published c.args.self.now) count c.args.place start (c.first_behind-2.ensures.found first.within first.are ∙ first.first)

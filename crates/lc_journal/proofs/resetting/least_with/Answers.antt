use Rattle.std.proofs.Common.{◌≡◌, ◌-◌, ◌<◌, ◌++◌, ℕ, suc, List, length, drop, Option, Some, slice_get, sym, ap, ◌∙◌, arith}
use Rattle.std.proofs.lemmas.Option.{none-some}
use Rattle.lc_record.specs.declared.record.Lock.{Lock}
use Rattle.lc_record.proofs.ListLemmas.{slice_get_some as some_at}
use Rattle.lc_token.specs.KnownClean.{known as known_of}
use Rattle.lc_token.specs.Reset.{above, lesser}
use Rattle.lc_token.specs.declared.unclean.Unclean.{Unclean}
use Rattle.lc_settled.specs.Settled.{least_unclean}
use Rattle.lc_journal.proofs.Sealing.{drop_all, least_next}
use Rattle.lc_journal.proofs.resetting.least_with.Goals as goal

pub loop-index-init : goal.loop-index-init
loop-index-init c = λ r locks is rest.
    rest
    ∙ ap (λ (ls : List Lock). least_unclean (known_of c.args.known.now) (ls ++ locks))
    (sym (ap (λ (n : ℕ). drop n r.locks) (c.kept_lock_count-index.ensures.count r is) ∙ drop_all r.locks))

pub loop-index-preserved-in-Some : goal.loop-index-preserved-in-Some
loop-index-preserved-in-Some c = λ r locks is rest.
    let known = known_of c.args.known.now in
    let lock = c.in-Some.lock in
    let place : ℕ = c.loop-index.index - 1 in
    let at : slice_get r.locks place ≡ Some lock = sym (c.in-Some.ensures r is) in
    let next : suc place ≡ c.loop-index.index = omega (arith, c.loop-index-test.true) in
    c.lesser-least.ensures
    ∙ ap (λ (o : Option Unclean). lesser o c.loop-index.least) c.above.ensures
    ∙ ap (λ (o : Option Unclean). lesser (above known lock) o)
    (c.loop-index.invariant r locks is rest ∙ ap (λ (n : ℕ). least_unclean known (drop n r.locks ++ locks)) (sym next))
    ∙ sym (least_next known r.locks locks place lock at)

pub loop-index-preserved : goal.loop-index-preserved
loop-index-preserved c = λ r locks is rest.
    let place : ℕ = c.loop-index.index - 1 in
    let within : place < length r.locks = omega (arith, c.loop-index-test.true, c.loop-index.auto.index, c.kept_lock_count-index.ensures.count r is) in
    let there = some_at r.locks place within in
    absurd (none-some there.0 (c.in_default.ensures r is ∙ there.1))

pub returns : goal.returns
returns c = λ r locks is rest.
    let none : c.loop-index.index ≡ 0 = omega (arith, c.loop-index-test.false) in
    c.loop-index.invariant r locks is rest
    ∙ ap (λ (n : ℕ). least_unclean (known_of c.args.known.now) (drop n r.locks ++ locks)) none

use Rattle.std.proofs.Common.{◌≡◌, ◌<◌, ◌+◌, ℕ, List, drop, take, length-drop, true≢false, sym, ap, ◌∙◌, subst, refl, arith}
use Rattle.std.proofs.lemmas.List.{drop-drop}
use Rattle.lc_record.specs.Codec.{BeginsWith}
use Rattle.lc_record.specs.Record.{record_len}
use Rattle.lc_record.proofs.RecordLemmas.{record_length, record_some}
use Rattle.lc_model.specs.Merge.{IsLeastPair}
use Rattle.lc_token.specs.KnownClean.{known}
use Rattle.lc_token.specs.Reset.{IsAbove, IsLeastOf, lesser}
use Rattle.lc_token.proofs.LeastLemmas.{refuses, allows}
use Rattle.lc_token.proofs.ResetLemmas.{IsOnward, onward_more, onward_all}
use Rattle.lc_token.proofs.reset.may_reset.Goals.{In-Some-least, In-None}
use Rattle.lc_token.proofs.reset.may_reset.Goals as goal

pub loop-record-smaller : goal.loop-record-smaller
loop-record-smaller c =
    let r = c.in-Some.record in let place : ℕ = c.loop-record.place in
    let begins : BeginsWith (drop place c.args.words.now) r (record_len r) = c.in-Some.ensures.found in
    let front : List ℕ = take (record_len r) (drop place c.args.words.now) in
    let some : 0 < record_len r = omega (arith, record_some r front begins.whole, record_length r front begins.whole) in
    omega (arith, some, begins.within, length-drop place c.args.words.now, c.len-place.ensures)

pub loop-record-preserved : goal.loop-record-preserved
loop-record-preserved c =
    let r = c.in-Some.record in let place : ℕ = c.loop-record.place in let words : List ℕ = c.args.words.now in
    let next : drop (place + c.len-place.result) words ≡ drop (record_len r) (drop place words) = ap (λ (n : ℕ). drop (place + n) words) c.len-place.ensures ∙ sym (drop-drop (record_len r) place words) in
    subst (IsOnward (known c.args.known.now) words (drop (place + c.len-place.result) words)) (sym c.lesser-least.ensures)
    (subst (λ (l : List ℕ). IsOnward (known c.args.known.now) words l (lesser c.loop-record.least c.least_in.result)) (sym next)
    (onward_more (known c.args.known.now) words (drop place words) r c.loop-record.least c.least_in.result c.in-Some.ensures.found c.least_in.ensures c.loop-record.invariant))

-- what was found is the least of all
found : (c : In-Some-least) → IsLeastPair (IsAbove c.args.words.now (known c.args.known.now)) c.in-Some-least.unclean.segment c.in-Some-least.unclean.seq
found c =
    let all : IsLeastOf (IsAbove c.args.words.now (known c.args.known.now)) c.loop-record.least =
    onward_all (known c.args.known.now) c.args.words.now (drop c.loop-record.place c.args.words.now) c.loop-record.least c.in_default.ensures.none c.loop-record.invariant in
    rw c.in-Some-least.is at all

none : (c : In-None) → (segment seq : ℕ) → IsAbove c.args.words.now (known c.args.known.now) segment seq → ⊥
none c =
    let all : IsLeastOf (IsAbove c.args.words.now (known c.args.known.now)) c.loop-record.least =
    onward_all (known c.args.known.now) c.args.words.now (drop c.loop-record.place c.args.words.now) c.loop-record.least c.in_default.ensures.none c.loop-record.invariant in
    rw c.in-None.is at all

pub returns-in-Some-least-clause-unclean : goal.returns-in-Some-least-clause-unclean
returns-in-Some-least-clause-unclean c = refuses (IsAbove c.args.words.now (known c.args.known.now)) c.in-Some-least.unclean (found c)

pub returns-in-Some-least-clause-clean : goal.returns-in-Some-least-clause-clean
returns-in-Some-least-clause-clean c = (
  λ wrong. absurd (true≢false (sym wrong)),
  λ nothing. absurd (nothing c.in-Some-least.unclean.segment c.in-Some-least.unclean.seq (found c).is),
)

pub returns-in-None-clause-unclean : goal.returns-in-None-clause-unclean
returns-in-None-clause-unclean c = allows (IsAbove c.args.words.now (known c.args.known.now)) (none c)

pub returns-in-None-clause-clean : goal.returns-in-None-clause-clean
returns-in-None-clause-clean c = (λ _. none c, λ _. refl)

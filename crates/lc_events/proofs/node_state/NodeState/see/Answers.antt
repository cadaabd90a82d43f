use Rattle.std.proofs.Common.{◌≡◌, ◌-◌, ◌<◌, Option, refl, sym, ap, subst, ◌∙◌, arith}
use Rattle.std.specs.Prelude.{MatchOption, option_and_then}
use Rattle.std.specs.Option.{option_copied}
use Rattle.std.proofs.lemmas.Option.{slice_get_read}
use Rattle.lc_token.specs.declared.token.Token.{Token}
use Rattle.lc_token.specs.KnownClean.{Sees}
use Rattle.lc_record.proofs.ListLemmas.{slice_get-map_some as get-map}
use Rattle.lc_desk.specs.Here.{beside}
use Rattle.lc_desk.specs.declared.segment_copy.SegmentCopy.{SegmentCopy}
use Rattle.lc_events.proofs.node_state.NodeState.see.Goals as goal

pub see-requires-clause-first : goal.see-requires-clause-first
see-requires-clause-first g c =
    let w = c.args.self.now.desk in
    let slot = c.index-slot.result.now in
    let within : c.args.segment - 1 < w.here.slots.len = omega (arith, c.requires.first, c.requires.slot) in
    let at = slice_get_read w.here.slots.items w.here.slots.len (c.args.segment - 1) slot w.here.slots.ok.0 within c.index-slot.ensures in
    let stands = sym c.token.ensures.token ∙ ap option_copied c.in-Some.is in
    let own = c.token.ensures.segment c.in-Some.token.now stands in
    let its = (w.in_place (c.args.segment - 1) (beside slot) (get-map beside w.here.slots.items (c.args.segment - 1) slot at)).0 in
    omega (arith, own, its)

pub see-requires-clause-last : goal.see-requires-clause-last
see-requires-clause-last g c =
    let w = c.args.self.now.desk in
    let slot = c.index-slot.result.now in
    let within : c.args.segment - 1 < w.here.slots.len = omega (arith, c.requires.first, c.requires.slot) in
    let at = slice_get_read w.here.slots.items w.here.slots.len (c.args.segment - 1) slot w.here.slots.ok.0 within c.index-slot.ensures in
    let stands = sym c.token.ensures.token ∙ ap option_copied c.in-Some.is in
    let own = c.token.ensures.segment c.in-Some.token.now stands in
    let its = (w.in_place (c.args.segment - 1) (beside slot) (get-map beside w.here.slots.items (c.args.segment - 1) slot at)).0 in
    omega (arith, own, its, c.requires.first, c.requires.slot, w.few_slots)

pub returns-in-Some-clause-sees : goal.returns-in-Some-clause-sees
returns-in-Some-clause-sees g c =
    let w = c.args.self.now.desk in
    let slot = c.index-slot.result.now in
    let within : c.args.segment - 1 < w.here.slots.len = omega (arith, c.requires.first, c.requires.slot) in
    let at = slice_get_read w.here.slots.items w.here.slots.len (c.args.segment - 1) slot w.here.slots.ok.0 within c.index-slot.ensures in
    let stands = sym c.token.ensures.token ∙ ap option_copied c.in-Some.is in
    subst (λ (o : Option Token). MatchOption o (c.see.new.self ≡ c.args.self.now.known) (λ token. Sees c.args.self.now.known token c.see.new.self))
    (sym (ap (option_and_then (λ (its : SegmentCopy). its.token.token)) at ∙ stands)) c.see.ensures

pub returns-in_default-clause-sees : goal.returns-in_default-clause-sees
returns-in_default-clause-sees g c =
    let w = c.args.self.now.desk in
    let slot = c.index-slot.result.now in
    let within : c.args.segment - 1 < w.here.slots.len = omega (arith, c.requires.first, c.requires.slot) in
    let at = slice_get_read w.here.slots.items w.here.slots.len (c.args.segment - 1) slot w.here.slots.ok.0 within c.index-slot.ensures in
    let none = sym c.token.ensures.token ∙ ap option_copied c.in_default.is in
    subst (λ (o : Option Token). MatchOption o (c.args.self.now.known ≡ c.args.self.now.known) (λ token. Sees c.args.self.now.known token c.args.self.now.known))
    (sym (ap (option_and_then (λ (its : SegmentCopy). its.token.token)) at ∙ none)) refl

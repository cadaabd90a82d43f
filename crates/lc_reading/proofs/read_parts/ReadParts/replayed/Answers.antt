use Rattle.std.proofs.Common.{◌≡◌, ◌+◌, ℕ, Bool, true, false, true≢false, [], List, Bor, map, sym, ◌∙◌, subst, arith}
use Rattle.std.specs.Prelude.{IfNone, Option, Some, slice_get}
use Rattle.std.specs.Bool.{then_some}
use Rattle.std.specs.Global.{Vec}
use Rattle.std.proofs.lemmas.Option.{slice_get_read}
use Rattle.lc_record.specs.declared.record.Record.{Record}
use Rattle.lc_rest.specs.Replay.{AreBytes, IsReplay}
use Rattle.lc_token.specs.declared.token.Token.{Token}
use Rattle.lc_record.specs.Lists.{items_of}
use Rattle.lc_reading.specs.Readings.{at_segment, no_token}
use Rattle.lc_reading.proofs.TokenReads.{index_at, items_at}
use Rattle.lc_reading.proofs.read_parts.ReadParts.replayed.Goals as goal

pub replay_segment-agrees-requires-clause-bytes : goal.replay_segment-agrees-requires-clause-bytes
replay_segment-agrees-requires-clause-bytes c =
    let r = c.args.self.now in
    let place = c.args.place in
    let pages = r.geometry.pages in
    let area : Vec ℕ = c.index-3.result.now in
    let start : Vec ℕ = c.index.result.now in
    let first : slice_get r.areas.items place ≡ Some area = slice_get_read r.areas.items r.geometry.segments place area (omega (arith, r.all_areas, r.areas.ok.0)) c.requires.place c.index-3.ensures in
    let last : slice_get r.bytes.items place ≡ Some start = slice_get_read r.bytes.items r.geometry.segments place start (omega (arith, r.all_bytes, r.bytes.ok.0)) c.requires.place c.index.ensures in
    let copied : c.in_ok-bytes.bytes.items ≡ start.items = c.in_ok-bytes.ensures.items_if_clones_equal (λ x y is. is) ∙ c.as_slice.ensures.value in
    subst (λ (l : List ℕ). AreBytes l pages c.as_mut_slice.result.now) (sym c.as_slice-2.ensures.value)
    (subst (λ (l : List ℕ). AreBytes area.items pages l) (sym (c.as_mut_slice.ensures.value ∙ copied)) (r.starts place area start first last))

none_then : {A : Type 0} (b : Bool) (x : A) (o : Option A) (P : Type 0) → o ≡ then_some b x → (P → b ≡ true) → IfNone o (P → ⊥)
none_then true x o P is f = subst (λ p. IfNone p (P → ⊥)) (sym is) tt
none_then false x o P is f = subst (λ p. IfNone p (P → ⊥)) (sym is) (λ p. true≢false (sym (f p)))

pub returns-clause-fails : goal.returns-clause-fails
returns-clause-fails c =
    let r = c.args.self.now in
    let place = c.args.place in
    let rs : List Record = map (λ (x : Bor Record). x.now) c.args.records.now in
    let token : at_segment no_token r.tokens.items (place + 1) ≡ c.index-2.result.now = index_at no_token c.index-2.result.now r.tokens.items place (omega (arith, c.requires.place, r.all_tokens, r.tokens.ok.0)) c.index-2.ensures in
    let start : at_segment [] (items_of r.bytes.items) (place + 1) ≡ c.as_mut_slice.result.now =
    items_at c.index.result.now r.bytes.items place (omega (arith, c.requires.place, r.all_bytes, r.bytes.ok.0)) c.index.ensures
    ∙ sym (c.as_mut_slice.ensures.value ∙ c.in_ok-bytes.ensures.items_if_clones_equal (λ x y is. is) ∙ c.as_slice.ensures.value) in
    let area : at_segment [] (items_of r.areas.items) (place + 1) ≡ c.as_slice-2.result.now =
    items_at c.index-3.result.now r.areas.items place (omega (arith, c.requires.place, r.all_areas, r.areas.ok.0)) c.index-3.ensures ∙ sym c.as_slice-2.ensures.value in
    none_then c.replay_segment-agrees.result _ c.then_some.result _ c.then_some.ensures (λ replay. c.replay_segment-agrees.ensures.replay.1
    (subst (λ (n : ℕ). IsReplay (place + 1) c.args.first n rs c.as_mut_slice.result.now c.as_slice-2.result.now r.geometry.pages) (sym c.seq.ensures)
    (subst (λ (t : Token). IsReplay (place + 1) c.args.first t.seq rs c.as_mut_slice.result.now c.as_slice-2.result.now r.geometry.pages) token
    (subst (λ (l : List ℕ). IsReplay (place + 1) c.args.first (at_segment no_token r.tokens.items (place + 1)).seq rs l c.as_slice-2.result.now r.geometry.pages) start
    (subst (λ (l : List ℕ). IsReplay (place + 1) c.args.first (at_segment no_token r.tokens.items (place + 1)).seq rs (at_segment [] (items_of r.bytes.items) (place + 1)) l r.geometry.pages) area replay)))))

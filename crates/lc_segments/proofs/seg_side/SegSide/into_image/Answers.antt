use Rattle.std.proofs.Common.{◌≡◌, ◌++◌, All, Some, List, [], ◌∷◌, Option, sym, ap, subst, ◌∙◌, append_assoc}
use Rattle.std.specs.Prelude.{IfOk}
use Rattle.std.proofs.lemmas.List.{append-nil}
use Rattle.std.proofs.lemmas.List.Elements.{All-push}
use Rattle.lc_rest.specs.declared.holder.Holder.TheVariants.{Here}
use Rattle.lc_rest.specs.declared.segment_part.SegmentPart.{SegmentPart}
use Rattle.lc_token.specs.declared.token.Token.{Token}
use Rattle.lc_segments.specs.Journey.{Journey}
use Rattle.lc_segments.specs.LeftBy.{IsSettledPart, token_here, token_sent, token_waiting, tokens_at}
use Rattle.lc_segments.specs.SegView.{SegView}
use Rattle.lc_segments.specs.declared.page_area.PageArea.{PageArea}
use Rattle.lc_segments.specs.declared.page_area.PageArea.TheVariants.{Serves}
use Rattle.lc_segments.proofs.LeftTokens.{none_served, served, settled_here}
use Rattle.lc_segments.proofs.seg_side.SegSide.into_image.Goals as goal
use Rattle.lc_segments.proofs.seg_side.SegSide.into_image.Goals.{in-Some, in_default, in-Some-waiting, in_default-waiting}

pub returns-clause-tokens : goal.returns-clause-tokens
returns-clause-tokens g c =
    let old = c.args.tokens.now.items in
    let side = c.self.inside in
    let there : List (SegmentPart g.row.D.Denot) = token_here c.args.node side.pages side.token.token in
    let here : c.match-here-2.tokens.items ≡ old ++ there =
    elim c.match-here-2.branch [
      | in_default w ↦
          ap (λ v. v.items) w.tokens-is ∙ (c.reserve.ensures.items
          ∙ sym (ap (λ (l : List (SegmentPart g.row.D.Denot)). old ++ l) (none_served g.D.Area side.pages c.in_ok-here.here c.args.node side.token.token c.in_ok-here.ensures.serves w.in_default.is) ∙ append-nil old))
      | in-Some w ↦ (
          let part : SegmentPart g.row.D.Denot = record { token = w.unwrap.result; area = w.in-Some.area; holder = Here c.args.node } in
          let serves : side.pages ≡ Serves w.in-Some.area = served g.D.Area side.pages c.in_ok-here.here w.in-Some.area c.in_ok-here.ensures.serves w.in-Some.is in
          let stands : side.token.token ≡ Some w.unwrap.result = subst (λ r. IfOk r (λ (t : Token). side.token.token ≡ Some t)) w.unwrap.ensures w.leave.ensures.token in
          ap (λ v. v.items) w.tokens-is ∙ (w.push_reserved.ensures.items ∙ (ap (λ (l : List (SegmentPart g.row.D.Denot)). l ++ part ∷ []) c.reserve.ensures.items
          ∙ sym (ap (λ (z : PageArea g.row.D.Denot × Option Token). old ++ token_here c.args.node z.0 z.1) (λ k. (serves k, stands k))))))
    ] in
    let shown : old ++ tokens_at c.args.node c.args.self ≡ old ++ (there ++ token_waiting side.waiting) =
    sym (ap (λ (view : SegView g.row.D.Denot). old ++ tokens_at c.args.node view) c.self.view_is) in
    elim c.match-waiting-3.branch [
      | in-Some-waiting w ↦
          ap (λ v. v.items) w.tokens-is ∙ (w.push_reserved-in-Some-waiting.ensures.items ∙ ((λ k. here k ++ w.into_part.ensures.part k ∷ [])
          ∙ (append_assoc old there (token_sent w.in-Some-waiting.journey ∷ []) ∙ (ap (λ (o : Option (Journey g.row.D.Denot)). old ++ (there ++ token_waiting o)) (sym w.in-Some-waiting.is) ∙ sym shown))))
      | in_default-waiting w ↦
          ap (λ v. v.items) w.tokens-is ∙ (here ∙ (sym (ap (λ (o : Option (Journey g.row.D.Denot)). old ++ (there ++ token_waiting o)) w.in_default-waiting.is
          ∙ ap (λ (l : List (SegmentPart g.row.D.Denot)). old ++ l) (append-nil there)) ∙ sym shown))
    ]

pub returns-clause-settled : goal.returns-clause-settled
returns-clause-settled g c =
    let side = c.self.inside in
    let reserved : All (IsSettledPart g.D.Area) c.reserve.new.self.items = subst (All (IsSettledPart g.D.Area)) (sym c.reserve.ensures.items) c.requires.settled in
    let here : All (IsSettledPart g.D.Area) c.match-here-2.tokens.items =
    elim c.match-here-2.branch [
      | in_default w ↦ subst (λ v. All (IsSettledPart g.D.Area) v.items) (sym w.tokens-is) reserved
      | in-Some w ↦ (
          let part : SegmentPart g.row.D.Denot = record { token = w.unwrap.result; area = w.in-Some.area; holder = Here c.args.node } in
          let serves : side.pages ≡ Serves w.in-Some.area = served g.D.Area side.pages c.in_ok-here.here w.in-Some.area c.in_ok-here.ensures.serves w.in-Some.is in
          let stands : side.token.token ≡ Some w.unwrap.result = subst (λ r. IfOk r (λ (t : Token). side.token.token ≡ Some t)) w.unwrap.ensures w.leave.ensures.token in
          let settled : IsSettledPart g.D.Area part = settled_here g.D.Area side.since side.pages side.token.token _ w.in-Some.area w.unwrap.result c.args.node c.self.invariant.fits_area serves stands in
          subst (λ v. All (IsSettledPart g.D.Area) v.items) (sym w.tokens-is)
          (subst (All (IsSettledPart g.D.Area)) (sym w.push_reserved.ensures.items) (All-push (IsSettledPart g.D.Area) c.reserve.new.self.items part reserved settled)))
    ] in
    elim c.match-waiting-3.branch [
      | in-Some-waiting w ↦
          subst (λ v. All (IsSettledPart g.D.Area) v.items) (sym w.tokens-is)
          (subst (All (IsSettledPart g.D.Area)) (sym w.push_reserved-in-Some-waiting.ensures.items) (All-push (IsSettledPart g.D.Area) c.match-here-2.tokens.items w.into_part.result here w.into_part.ensures.settled))
      | in_default-waiting w ↦ subst (λ v. All (IsSettledPart g.D.Area) v.items) (sym w.tokens-is) here
    ]

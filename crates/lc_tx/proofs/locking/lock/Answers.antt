use Rattle.std.proofs.Common.{ℕ, List, [], take, get_or, sym, ap, subst}
use Rattle.std.proofs.lemmas.Bool.{false≢true}
use Rattle.std.proofs.lemmas.List.{take_all, take_more}
use Rattle.lc_tx.specs.declared.image.Image.{Image as Picture}
use Rattle.lc_tx.specs.Images.{IsHere}
use Rattle.lc_tx.specs.LockMode.{Takes}
use Rattle.lc_tx.proofs.ImagesLemmas.{ImageLaws, Taken, EachIs, taken_more, taken_from, same_itself, here_along}
use Rattle.lc_tx.proofs.MemberLemmas.{member_at, member_take}
use Rattle.lc_tx.proofs.locking.lock.Given.{Over}
use Rattle.lc_tx.proofs.locking.lock.Goals as goal

laws : (g : Over) → ImageLaws g.I.Images
laws g =
    let h = g.met.I.Images in
    record {
      same_numbers = h.same_numbers;
      own_image = h.own_image;
      other_image = h.other_image;
      beside_itself = h.beside_itself;
      beside_image = h.beside_image;
      beside_chained = h.beside_chained;
    }

pub image-image-requires : goal.image-image-requires
image-image-requires g c =
    let xs = c.args.segments.now in
    let i = c.loop-segment.segment-index in
    here_along g.I.Images (take i xs) c.args.images.now c.loop-segment.images (get_or xs i 0) c.loop-segment.invariant.0 (c.requires.here (get_or xs i 0) (member_at xs i 0 c.loop-segment-test.true))

pub loop-segment-init : goal.loop-segment-init
loop-segment-init g c = (same_itself g.I.Images (laws g) [] c.args.images.now, λ s e. absurd (false≢true e))

pub loop-segment-preserved : goal.loop-segment-preserved
loop-segment-preserved g c =
    let xs = c.args.segments.now in
    let i = c.loop-segment.segment-index in
    let x : ℕ = get_or xs i 0 in
    let image : Picture = record { bytes = c.image-image.result.now.bytes; holders = c.with-image.result } in
    let here : IsHere g.I.Images c.loop-segment.images x =
    here_along g.I.Images (take i xs) c.args.images.now c.loop-segment.images x c.loop-segment.invariant.0 (c.requires.here x (member_at xs i 0 c.loop-segment-test.true)) in
    subst (λ (l : List ℕ). EachIs g.I.Images (Taken c.args.mode c.args.thread) l c.args.images.now (g.I.Images.with_image c.loop-segment.images x image)) (sym (take_more xs i 0 c.loop-segment-test.true))
    (taken_more g.I.Images (laws g) c.args.mode c.args.thread (take i xs) x c.args.images.now c.loop-segment.images image (λ s e. c.requires.here s (member_take s i xs e)) here c.loop-segment.invariant
    (subst (λ (p : Picture). Takes c.args.mode c.args.thread p.holders c.with-image.result) c.image-image.ensures.value c.with-image.ensures, ap (λ (p : Picture). p.bytes.items) c.image-image.ensures.value))

pub returns : goal.returns
returns g c =
    let xs = c.args.segments.now in
    taken_from g.I.Images c.args.mode c.args.thread xs c.args.images.now c.loop-segment.images
    (subst (λ (l : List ℕ). EachIs g.I.Images (Taken c.args.mode c.args.thread) l c.args.images.now c.loop-segment.images) (take_all c.loop-segment.segment-index xs c.loop-segment-test.false) c.loop-segment.invariant)

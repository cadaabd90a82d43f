use Rattle.std.proofs.Common.{◌≡◌, ℕ, List, [], length, true, take, get_or, unwrap_or, sym, ap, subst, ◌∙◌, arith}
use Rattle.std.specs.Prelude.{slice_index}
use Rattle.std.specs.Vec.{with_items}
use Rattle.std.proofs.lemmas.Bool.{false≢true}
use Rattle.std.proofs.lemmas.List.{take_all, take_more, with_items_is}
use Rattle.lc_record.specs.Transaction.{is_member}
use Rattle.lc_range.specs.Undo.{LiesBelow, kept}
use Rattle.lc_tx.specs.declared.image.Image.{Image as Picture}
use Rattle.lc_tx.specs.Images.{IsHere, bytes_of}
use Rattle.lc_tx.proofs.ImagesLemmas.{ImageLaws, Back, EachIs, back_more, back_from, same_itself, same_len, here_along}
use Rattle.lc_tx.proofs.MemberLemmas.{member_at, member_take}
use Rattle.lc_tx.proofs.tx.Tx.restore.Given.{Over}
use Rattle.lc_tx.proofs.tx.Tx.restore.Goals as goal

laws : (g : Over) → ImageLaws g.I.Images
laws g =
    let h = g.met.I.Images in
    record {
      same_numbers = h.same_numbers;
      own_image = h.own_image;
      other_image = h.other_image;
      beside_itself = h.beside_itself;
      beside_image = h.beside_image;
      beside_chained = h.beside_chained;
    }

pub image-image-requires : goal.image-image-requires
image-image-requires g c =
    let xs = c.as_slice-segment-items.result.now in
    let i = c.loop-segment.segment-index in
    let x : ℕ = get_or xs i 0 in
    let locked : is_member x c.args.self.now.locked.items ≡ true = subst (λ (l : List ℕ). is_member x l ≡ true) c.loop-segment.invariant.items (member_at xs i 0 c.loop-segment-test.true) in
    here_along g.I.Images (take i xs) c.args.images.now c.loop-segment.images x c.loop-segment.invariant.each.0 (c.requires.here x locked)

pub loop-segment-init : goal.loop-segment-init
loop-segment-init g c = record {
  items = c.as_slice-segment-items.ensures;
  each = (same_itself g.I.Images (laws g) [] c.args.images.now, λ s e. absurd (false≢true e));
}

pub restore-requires : goal.restore-requires
restore-requires g c =
    let xs = c.as_slice-segment-items.result.now in
    let i = c.loop-segment.segment-index in
    let x : ℕ = get_or xs i 0 in
    let locked : is_member x c.args.self.now.locked.items ≡ true = subst (λ (l : List ℕ). is_member x l ≡ true) c.loop-segment.invariant.items (member_at xs i 0 c.loop-segment-test.true) in
    let long : length (bytes_of g.I.Images c.loop-segment.images x) ≡ length (bytes_of g.I.Images c.args.images.now x) =
    same_len g.I.Images (laws g) c.args.self.now.undo (take i xs) x c.args.images.now c.loop-segment.images (c.requires.here x locked) c.loop-segment.invariant.each in
    subst (λ (n : ℕ). LiesBelow c.args.self.now.undo x n) (sym (ap length (c.as_mut_slice.ensures.value ∙ ap (λ (p : Picture). p.bytes.items) c.image-image.ensures.value) ∙ long))
    (c.requires.kept_inside x locked)

pub loop-segment-preserved : goal.loop-segment-preserved
loop-segment-preserved g c =
    let m = g.I.Images in
    let copies = c.args.self.now.undo in
    let xs = c.as_slice-segment-items.result.now in
    let i = c.loop-segment.segment-index in
    let x : ℕ = get_or xs i 0 in
    let old = c.args.images.now in
    let mid = c.loop-segment.images in
    let image : Picture = record { bytes = with_items c.image-image.result.now.bytes c.restore.new.image; holders = c.image-image.result.now.holders } in
    let here : (s : ℕ) → is_member s xs ≡ true → IsHere m old s = λ s e. c.requires.here s (subst (λ (l : List ℕ). is_member s l ≡ true) c.loop-segment.invariant.items e) in
    let there : IsHere m mid x = here_along m (take i xs) old mid x c.loop-segment.invariant.each.0 (here x (member_at xs i 0 c.loop-segment-test.true)) in
    let slice : c.as_mut_slice.result.now ≡ bytes_of m mid x = c.as_mut_slice.ensures.value ∙ ap (λ (p : Picture). p.bytes.items) c.image-image.ensures.value in
    let items : image.bytes.items ≡ c.restore.new.image = with_items_is c.image-image.result.now.bytes c.restore.new.image (omega (arith, c.restore.ensures.len, c.as_mut_slice.ensures.len)) in
    record {
      items = c.as_slice-segment-items.ensures;
      each = subst (λ (l : List ℕ). EachIs m (Back copies) l old (m.with_image mid x image)) (sym (take_more xs i 0 c.loop-segment-test.true))
          (back_more m (laws g) copies (take i xs) x old mid image (λ s e. here s (member_take s i xs e)) there c.loop-segment.invariant.each (
            ap (λ (p : Picture). p.holders) c.image-image.ensures.value,
            ap length items ∙ c.restore.ensures.len ∙ ap length slice,
            λ k. ap (λ (l : List ℕ). slice_index l k) items ∙ c.restore.ensures.bytes k ∙ ap (λ (l : List ℕ). unwrap_or (kept copies x k) (slice_index l k)) slice,
          ));
    }

pub returns : goal.returns
returns g c =
    back_from g.I.Images c.args.self.now.undo c.args.self.now.locked.items c.args.images.now c.loop-segment.images
    (subst (λ (l : List ℕ). EachIs g.I.Images (Back c.args.self.now.undo) l c.args.images.now c.loop-segment.images)
    (take_all c.loop-segment.segment-index c.as_slice-segment-items.result.now c.loop-segment-test.false ∙ c.loop-segment.invariant.items) c.loop-segment.invariant.each)

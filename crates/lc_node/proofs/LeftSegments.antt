-- What stood behind the locks of a node's segments, one lock after another.
use Rattle.std.proofs.Common.{◌≡◌, ◌++◌, ◌∷◌, [], ℕ, ◌+◌, List, Some, map, take, refl, sym, ap, ◌∙◌, append_assoc}
use Rattle.std.specs.Prelude.{slice_get}
use Rattle.std.specs.List.{flat_map}
use Rattle.std.proofs.lemmas.List.{append-nil, map-append}
use Rattle.std.proofs.lemmas.List.Elements.{All-nil, All-push}
use Rattle.std.proofs.lemmas.List.Concat.{flat_map-append}
use Rattle.lc_lock.specs.Loans.{key_of}
use Rattle.lc_lock.specs.declared.ticket_lock.TicketLock.{TicketLock}
use Rattle.lc_tx.specs.declared.image.Image.{Image as Picture}
use Rattle.lc_rest.specs.declared.segment_part.SegmentPart.{SegmentPart}
use Rattle.lc_segments.specs.LeftBy.{HasFailed, tokens_at}
use Rattle.lc_node.specs.LeftBy.{StoodBehind}
use Rattle.lc_segments.specs.SegView.{SegView}
use Rattle.lc_node.proofs.FromFront.{mapped_more}

module _ {D : Type 0} where
  pub none_behind : (node : ℕ) (images : List Picture) (applied : List ℕ) (old : List (SegmentPart D)) → images ≡ [] → applied ≡ [] → StoodBehind node [] images applied old old
  none_behind node images applied old no_image no_number = record {
    sides = [];
    segments = refl;
    images_are = ap (map (λ (image : Picture). Some image)) (sym no_image);
    applied_are = sym no_number;
    serve = All-nil (λ (side : SegView D). HasFailed side.pages → ⊥);
    tokens = sym (append-nil old);
  }

  -- one lock more
  pub one_behind : (node : ℕ) (all : List (TicketLock (SegView D) ℕ)) (taken : ℕ) (lock : TicketLock (SegView D) ℕ) (side : SegView D) → slice_get all taken ≡ Some lock → side.segment ≡ key_of lock
      → {images : List Picture} {applied : List ℕ} {old now new : List (SegmentPart D)} {image : Picture} {number : ℕ} (more : List Picture) (higher : List ℕ) → StoodBehind node (take taken all) images applied old now
      → side.image ≡ Some image → more ≡ images ++ image ∷ [] → number ≡ side.backlog.applied → higher ≡ applied ++ number ∷ [] → (HasFailed side.pages → ⊥) → new ≡ now ++ tokens_at node side
      → StoodBehind node (take (taken + 1) all) more higher old new
  one_behind node all taken lock side next key {images = images} {old = old} {image = image} more higher its shows more_are applies higher_are serves tokens = record {
    sides = its.sides ++ side ∷ [];
    segments = map-append (λ (s : SegView D). s.segment) its.sides (side ∷ []) ∙ ((λ k. its.segments k ++ key k ∷ []) ∙ sym (mapped_more (λ (l : TicketLock (SegView D) ℕ). key_of l) all taken lock next));
    images_are = map-append (λ (s : SegView D). s.image) its.sides (side ∷ []) ∙ ((λ k. its.images_are k ++ shows k ∷ [])
        ∙ (sym (map-append (λ (i : Picture). Some i) images (image ∷ [])) ∙ ap (map (λ (i : Picture). Some i)) (sym more_are)));
    applied_are = map-append (λ (s : SegView D). s.backlog.applied) its.sides (side ∷ []) ∙ ((λ k. its.applied_are k ++ sym applies k ∷ []) ∙ sym higher_are);
    serve = All-push (λ (s : SegView D). HasFailed s.pages → ⊥) its.sides side its.serve serves;
    tokens = tokens ∙ (ap (λ (l : List (SegmentPart D)). l ++ tokens_at node side) its.tokens
        ∙ (append_assoc old (flat_map (λ (s : SegView D). tokens_at node s) its.sides) (tokens_at node side)
        ∙ ap (λ (l : List (SegmentPart D)). old ++ l) (sym (flat_map-append (λ (s : SegView D). tokens_at node s) its.sides (side ∷ []) ∙ ap (λ (l : List (SegmentPart D)). flat_map (λ (s : SegView D). tokens_at node s) its.sides ++ l) (append-nil (tokens_at node side))))));
  }

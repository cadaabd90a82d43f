-- The part that runs have of each held segment is its part of their record.
use Rattle.std.proofs.Common.{◌≡◌, ℕ, ◌+◌, ◌<◌, ◌≤◌, ◌^◌, ◌==◌, cond, Bool, true, false, List, [], ◌∷◌, Some, None, length, map, All, refl, sym, ap, subst, ◌∙◌, arith, eqb-true}
use Rattle.std.specs.Prelude.{slice_get, option_map, Option, IsSome, IsSomeAnd, unwrap_or}
use Rattle.std.proofs.lemmas.Option.{same_Some as some_same}
use Rattle.std.proofs.lemmas.List.{length-map}
use Rattle.lc_range.specs.RangeSet.{EndWithin, IsCanonical}
use Rattle.lc_range.specs.declared.range.Range.{Range}
use Rattle.lc_record.specs.Part.{number_in, part_of}
use Rattle.lc_record.specs.Record.{IsRecord}
use Rattle.lc_record.specs.declared.part.Part.{Part}
use Rattle.lc_record.specs.declared.record.Record.{Record}
use Rattle.lc_record.proofs.ListLemmas.{All-slice_get as all_at}
use Rattle.lc_applied.specs.AppliedParts.{part_of_runs, runs_of}
use Rattle.lc_applied.proofs.RecordLemmas.{ends-own, part-own}
use Rattle.lc_token.specs.declared.token.Token.{Token}
use Rattle.lc_tx.specs.declared.image.Image.{Image as Picture}
use Rattle.lc_tx.specs.declared.tx.Tx.{Tx}
use Rattle.lc_tx.specs.Images.{IsSame, bytes_of}
use Rattle.lc_tx.specs.Prepared.{final_record, next_number, segments_of, with_number}
use Rattle.lc_tx.specs.Tx.{RunsOn}
use Rattle.lc_tx.specs.Walk.{AreInside}
use Rattle.lc_tx.proofs.RecordLemmas.{inside_from}
use Rattle.lc_segments.specs.Attempts.{Leaves}
use Rattle.lc_segments.specs.Each.{Each}
use Rattle.lc_node.specs.Each.{EachThree}
use Rattle.lc_node.specs.Held.{lent_side}
use Rattle.lc_segments.specs.HeldImages.{the_images}
use Rattle.lc_node.specs.Sides.{CanCount, CountsRuns, HasMoreRoom, HasRoomForRuns, IsCounted}
use Rattle.lc_segments.specs.Sides.{IsOut, if_any, part_for, number_in as number_here}
use Rattle.lc_segments.specs.declared.held.HeldSide.{HeldSide}
use Rattle.lc_segments.specs.declared.lent.LentSlot.{LentSlot}
use Rattle.lc_segments.specs.declared.lent.HeldImages.{HeldImages}
use Rattle.lc_node.proofs.CommitKeeps.{number_some, some_number, was}
use Rattle.lc_node.proofs.PartsOf.{number_fits}
use Rattle.lc_segments.proofs.Slots.{AscendFrom, SameBeside, each_of, got_map, same_beside}
use Rattle.lc_node.proofs.Slots.{each_to, map_got}

-- The number that the locks of some runs have of a segment

module _ (f : ℕ → ℕ) (s : ℕ) where
  absorbed : (m : ℕ) (l : List ℕ) → cond (m == s) (Some (f m)) (number_in s (map (λ segment. record { segment = segment; seq = f segment }) (m ∷ l))) ≡ number_in s (map (λ segment. record { segment = segment; seq = f segment }) (m ∷ l))
  absorbed m l = elim (m == s) as (λ (b : Bool). cond b (Some (f m)) (cond b (Some (f m)) (number_in s (map (λ segment. record { segment = segment; seq = f segment }) l))) ≡ cond b (Some (f m)) (number_in s (map (λ segment. record { segment = segment; seq = f segment }) l))) [
    | true ↦ refl
    | false ↦ refl
  ]

  with_numbered : (n : ℕ) (l : List ℕ) → number_in s (map (λ segment. record { segment = segment; seq = f segment }) (with_number n l))
      ≡ cond (n == s) (Some (f n)) (number_in s (map (λ segment. record { segment = segment; seq = f segment }) l))
  with_numbered n [] = refl
  with_numbered n (m ∷ l) = elim (n == m) as (λ (b : Bool). (n == m) ≡ b
      → number_in s (map (λ segment. record { segment = segment; seq = f segment }) (cond b (m ∷ l) (n ∷ m ∷ l)))
      ≡ cond (n == s) (Some (f n)) (number_in s (map (λ segment. record { segment = segment; seq = f segment }) (m ∷ l)))) [
        | true ↦ λ own. let same : n ≡ m = eqb-true n m own in
            sym (absorbed m l) ∙ ap (λ (k : ℕ). cond (k == s) (Some (f k)) (number_in s (map (λ segment. record { segment = segment; seq = f segment }) (m ∷ l)))) (sym same)
        | false ↦ λ other. refl
      ] refl

  pub numbered : (runs : List Range) → number_in s (map (λ segment. record { segment = segment; seq = f segment }) (segments_of runs))
      ≡ if_any (runs_of s runs) (f s)
  numbered [] = refl
  numbered (run ∷ runs) = with_numbered run.segment (segments_of runs) ∙ elim (run.segment == s) as (λ (b : Bool). (run.segment == s) ≡ b
      → cond b (Some (f run.segment)) (number_in s (map (λ segment. record { segment = segment; seq = f segment }) (segments_of runs)))
      ≡ if_any (cond b (run ∷ runs_of s runs) (runs_of s runs)) (f s)) [
        | true ↦ λ own. ap (λ (k : ℕ). Some (f k)) (eqb-true run.segment s own)
        | false ↦ λ other. numbered runs
      ] refl

handed : {A B : Type 0} (runs : List Range) (f : A → B) (x : A) → if_any runs (f x) ≡ option_map f (if_any runs x)
handed [] f x = refl
handed (run ∷ runs) f x = refl

some_of : (runs : List Range) (n : ℕ) → (runs ≡ [] → ⊥) → if_any runs n ≡ Some n
some_of [] n some = absurd (some refl)
some_of (run ∷ runs) n some = refl

module _ {D : Type 0} where
  abbrev segments : List (HeldSide D) → List ℕ
  segments sides = map (λ (h : HeldSide D). h.side.segment) sides

  -- the images of these sides are out, and there may be more room beside them by now
  module _ (ys zs mid : List (HeldSide D)) (lent : HeldImages) (gone : zs ≡ map lent_side ys) (out : Each IsOut ys lent.slots.items) (up : AscendFrom 0 (segments ys)) (more : Each HasMoreRoom zs mid)
      (node : ℕ) (at_end new : HeldImages) (tx : Tx) (leaves : Leaves the_images (segments ys) lent at_end tx) (same : IsSame the_images at_end new) (runs : RunsOn the_images at_end tx) (canonical : IsCanonical tx.set)
      (words : List ℕ) (is : IsRecord (final_record the_images at_end tx node) words) (beside : the_images.IsSameBeside lent new) where
    abbrev pub whole : Record
    whole = final_record the_images at_end tx node

    inside : AreInside the_images at_end tx.set
    inside = inside_from the_images at_end tx.set canonical (λ x k has. (runs.here x (runs.set_locked x k has), runs.set_inside x k has))

    -- what a slot has then, beside its side
    record Then (h : HeldSide D) (b : LentSlot) : Type 0 where
      pub gone_out : h.side.image ≡ None
      pub number : ℕ
      pub here : number_here h.side.standing.token ≡ Some number
      pub bytes : b.image.bytes.items ≡ bytes_of the_images at_end h.side.segment
      pub next : next_number the_images at_end h.side.segment ≡ number + 1

    then : (k : ℕ) (h : HeldSide D) (b : LentSlot) → slice_get mid k ≡ Some h → slice_get new.slots.items k ≡ Some b → Then h b
    then k h b h_at b_at =
        let z = each_of HasMoreRoom zs mid k h more h_at in
        let y = map_got lent_side ys k z.0 (ap (λ (l : List (HeldSide D)). slice_get l k) (sym gone) ∙ z.1) in
        let was_lent : h ≡ record y.0 { side = record y.0.side { image = None; room = h.side.room; runs_room = h.side.runs_room } } = z.2 ∙ ap (λ (x : HeldSide D). record x { side = record x.side { room = h.side.room; runs_room = h.side.runs_room } }) (sym y.2) in
        let x = was ys lent out up new beside k y.0 b y.1 b_at in
        let segment : h.side.segment ≡ y.0.side.segment = ap (λ (g : HeldSide D). g.side.segment) was_lent in
        let some = some_number x.a.number (subst (λ (o : Option ℕ). IsSome o) x.number (leaves.here y.0.side.segment x.member)) in
        record {
          gone_out = ap (λ (g : HeldSide D). g.side.image) was_lent;
          number = some.0;
          here = ap (λ (g : HeldSide D). number_here g.side.standing.token) was_lent ∙ (sym x.is_out.number ∙ some.1);
          bytes = sym (ap (λ (i : Picture). i.bytes.items) x.new_image)
              ∙ (ap (λ (i : Picture). i.bytes.items) (same.others y.0.side.segment (subst (λ (o : Option ℕ). IsSome o) (sym (leaves.same.numbers y.0.side.segment)) (leaves.here y.0.side.segment x.member)) refl)
              ∙ ap (λ (s : ℕ). bytes_of the_images at_end s) (sym segment));
          next = ap (λ (s : ℕ). next_number the_images at_end s) segment ∙ ap (λ (o : Option ℕ). unwrap_or o 0 + 1) (leaves.same.numbers y.0.side.segment ∙ (x.number ∙ some.1));
        }

    -- the part of the runs is that of the record
    part_is : (h : HeldSide D) (b : LentSlot) → Then h b → part_for tx.set b.image.bytes.items h.side ≡ part_of h.side.segment whole
    part_is h b t = let s : ℕ = h.side.segment in let bytes : List ℕ = bytes_of the_images at_end s in
        let number : unwrap_or (number_here h.side.standing.token) 0 + 1 ≡ next_number the_images at_end s = ap (λ (o : Option ℕ). unwrap_or o 0 + 1) t.here ∙ sym t.next in
        ap (λ (l : List ℕ). if_any (runs_of s tx.set) (part_of_runs s (unwrap_or (number_here h.side.standing.token) 0 + 1) tx.set l)) t.bytes
        ∙ (ap (λ (n : ℕ). if_any (runs_of s tx.set) (part_of_runs s n tx.set bytes)) number
        ∙ (handed (runs_of s tx.set) (λ seq. part_of_runs s seq tx.set bytes) (next_number the_images at_end s)
        ∙ (ap (option_map (λ seq. part_of_runs s seq tx.set bytes)) (sym (numbered (next_number the_images at_end) s tx.set)) ∙ sym (part-own the_images at_end s tx.set node))))

    side_at : (k : ℕ) (h : HeldSide D) → slice_get mid k ≡ Some h → (y : HeldSide D) × (slice_get ys k ≡ Some y) × (h.side.segment ≡ y.side.segment)
    side_at k h h_at =
        let z = each_of HasMoreRoom zs mid k h more h_at in
        let y = map_got lent_side ys k z.0 (ap (λ (l : List (HeldSide D)). slice_get l k) (sym gone) ∙ z.1) in
        (y.0, y.1, ap (λ (g : HeldSide D). g.side.segment) z.2 ∙ ap (λ (g : HeldSide D). g.side.segment) (sym y.2))

    slots_same : Each SameBeside lent.slots.items new.slots.items
    slots_same = same_beside lent new beside

    slot_at : (k : ℕ) (y : HeldSide D) → slice_get ys k ≡ Some y → (b : LentSlot) × (slice_get new.slots.items k ≡ Some b)
    slot_at k y y_at = let a = each_to IsOut ys lent.slots.items k y out y_at in let b = each_to SameBeside lent.slots.items new.slots.items k a.0 slots_same a.1 in (b.0, b.1)

    count_is : length mid ≡ length ys
    count_is = more.long ∙ (ap (λ (l : List (HeldSide D)). length l) gone ∙ length-map ys lent_side)

    -- a number more may be given where there are runs
    next_fits : (h : HeldSide D) (b : LentSlot) → Then h b → (runs_of h.side.segment tx.set ≡ [] → ⊥) → IsSomeAnd h.side.standing.token (λ t. t.seq < 2 ^ 60)
    next_fits h b t some = let s : ℕ = h.side.segment in
        let number : number_in s whole.locks ≡ Some (next_number the_images at_end s) = numbered (next_number the_images at_end) s tx.set ∙ some_of (runs_of s tx.set) (next_number the_images at_end s) some in
        let low : next_number the_images at_end s ≤ 2 ^ 60 = number_fits s (next_number the_images at_end s) whole.locks is.canonical.each_lock number in
        let token = number_some h.side.standing.token t.number t.here in let seq = token.2 in let next = t.next in
        subst (λ (o : Option Token). IsSomeAnd o (λ x. x.seq < 2 ^ 60)) (sym token.1) (omega arith)

    pub may : All (HasRoomForRuns tx.set) mid → Each (CanCount tx.set) mid new.slots.items
    may room = record {
      long = (let same = slots_same.long in let front = out.long in let all = count_is in omega arith);
      each = λ k h b h_at b_at. let t = then k h b h_at b_at in record {
        lent = t.gone_out;
        room = all_at (HasRoomForRuns tx.set) mid k h room h_at;
        within = subst (λ (l : List ℕ). EndWithin (runs_of h.side.segment tx.set) (length l)) (sym t.bytes) (ends-own the_images at_end h.side.segment tx.set inside);
        next = next_fits h b t;
      };
    }

    pub counted : (after : List (HeldSide D)) → EachThree (CountsRuns tx.set) mid new.slots.items after → EachThree IsCounted mid (map (λ s. part_of s whole) (segments ys)) after
    counted after e = record {
      long = length-map (segments ys) (λ (s : ℕ). part_of s whole) ∙ (length-map ys (λ (h : HeldSide D). h.side.segment) ∙ sym count_is);
      long_too = e.long_too;
      each = λ k h p g h_at p_at g_at. let y = side_at k h h_at in let b = slot_at k y.0 y.1 in
          let is_of : p ≡ part_of h.side.segment whole =
          some_same p (part_of y.0.side.segment whole) (sym p_at ∙ got_map (λ (s : ℕ). part_of s whole) (segments ys) k y.0.side.segment (got_map (λ (x : HeldSide D). x.side.segment) ys k y.0 y.1))
          ∙ ap (λ (s : ℕ). part_of s whole) (sym y.2) in
          subst (λ (o : Option Part). IsCounted h o g) (part_is h b.0 (then k h b.0 h_at b.1) ∙ sym is_of) (e.each k h b.0 g h_at b.1 g_at);
    }

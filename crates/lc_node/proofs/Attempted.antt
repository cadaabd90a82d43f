-- What an attempt of a transaction leaves, and how it is undone.
use Rattle.std.proofs.Common.{◌≡◌, ℕ, true, false, List, [], ◌++◌, length, unwrap_or, refl, sym, ap, subst, ◌∙◌}
use Rattle.std.specs.Prelude.{IsSome, IsTrue, slice_index}
use Rattle.std.proofs.lemmas.List.{ext_get_or}
use Rattle.lc_record.specs.Transaction.{is_member}
use Rattle.lc_record.proofs.LockLemmas.{member_left as in_front}
use Rattle.lc_tx.proofs.MemberLemmas.{not_both as none_in}
use Rattle.lc_range.specs.RangeSet.{Has}
use Rattle.lc_range.specs.Undo.{OldBytes, kept}
use Rattle.lc_tx.specs.declared.holders.Holders.TheVariants.{Free}
use Rattle.lc_tx.specs.declared.images.Images.{Ghosts}
use Rattle.lc_tx.specs.declared.tx.Tx.{Tx}
use Rattle.lc_tx.specs.Images.{IsLockable, IsSameBut, IsSame, AreRestored, AreReleased, bytes_of, holders_of}
use Rattle.lc_tx.specs.Tx.{Begins}
use Rattle.lc_segments.specs.Works.{Works}
use Rattle.lc_segments.specs.Attempts.{Leaves}
use Rattle.lc_node.specs.Attempts.{IsUndone}

module _ {I : Type 0} (m : Ghosts I) (chained : (s t u : I) → m.IsSameBeside s t → m.IsSameBeside t u → m.IsSameBeside s u) where
  -- two changes within the same segments
  within : (segments : List ℕ) (xs ys : List ℕ) (a b c : I) → ((s : ℕ) → is_member s segments ≡ false → is_member s xs ≡ false) → ((s : ℕ) → is_member s segments ≡ false → is_member s ys ≡ false)
      → IsSameBut m xs a b → IsSameBut m ys b c → IsSameBut m segments a c
  within segments xs ys a b c in_xs in_ys one two = record {
    numbers = λ s. two.numbers s ∙ one.numbers s;
    others = λ s here not. two.others s (subst IsSome (sym (one.numbers s)) here) (in_ys s not) ∙ one.others s here (in_xs s not);
    beside = chained a b c one.beside two.beside;
  }

  pub leaves : (segments : List ℕ) (old mid new : I) (t u : Tx) → Begins m 0 segments [] old mid t → ((s : ℕ) → IsLockable m old segments [] s) → Works m mid t new u → Leaves m segments old new u
  leaves segments old mid new t u b free w =
      let locked : (s : ℕ) → is_member s t.locked.items ≡ is_member s segments = λ s. b.locked_are.same s in
      let reads : (s : ℕ) → is_member s t.reading.items ≡ false = λ s. b.reading_are.same s in
      let in_t : (s : ℕ) → IsTrue (is_member s segments) → is_member s t.locked.items ≡ true = λ s is. locked s ∙ is in
      let both : (s : ℕ) → IsTrue (is_member s segments) → is_member s (t.locked.items ++ t.reading.items) ≡ true = λ s is. in_front s t.locked.items t.reading.items (in_t s is) in record {
        locked = λ s. ap (λ l. is_member s l.items) w.same_locks ∙ locked s;
        reads_none = λ s. ap (λ l. is_member s l.items) w.same_reading ∙ reads s;
        was_free = λ s is. ((free s).for_writing is).1;
        here = λ s is. ((free s).for_writing is).0;
        same = within segments (t.locked.items ++ t.reading.items) t.locked.items old mid new (λ s not. none_in s t.locked.items t.reading.items (locked s ∙ not) (reads s)) (λ s not. locked s ∙ not) b.held.same w.same;
        same_length = λ s is. w.same_length s (in_t s is) ∙ ap (λ (l : List ℕ). length l) (b.held.same_bytes s (both s is));
        unset = λ s k is none. w.unset s k (in_t s is) none ∙ ap (λ (l : List ℕ). slice_index l k) (b.held.same_bytes s (both s is));
        old_bytes = λ s k is. w.old_bytes s k (in_t s is) ∙ (ap (λ (c : List OldBytes). unwrap_or (kept c s k) (slice_index (bytes_of m mid s) k)) b.nothing_kept ∙ ap (λ (l : List ℕ). slice_index l k) (b.held.same_bytes s (both s is)));
      }

  -- images that are the same
  pub leaves_same : (segments : List ℕ) (old mid new : I) (u : Tx) → Leaves m segments old mid u → IsSame m mid new → Leaves m segments old new u
  leaves_same segments old mid new u l same =
      let image : (s : ℕ) → IsTrue (is_member s segments) → m.image_of new s ≡ m.image_of mid s = λ s is. same.others s (subst IsSome (sym (l.same.numbers s)) (l.here s is)) refl in record {
        locked = l.locked;
        reads_none = l.reads_none;
        was_free = l.was_free;
        here = l.here;
        same = within segments segments [] old mid new (λ s not. not) (λ s not. refl) l.same same;
        same_length = λ s is. ap (λ p. length p.bytes.items) (image s is) ∙ l.same_length s is;
        unset = λ s k is none. ap (λ p. slice_index p.bytes.items k) (image s is) ∙ l.unset s k is none;
        old_bytes = λ s k is. ap (λ p. unwrap_or (kept u.undo s k) (slice_index p.bytes.items k)) (image s is) ∙ l.old_bytes s k is;
      }

  pub undone : (segments : List ℕ) (old mid new : I) (u : Tx) → Leaves m segments old mid u → AreRestored m u.undo u.thread u.locked.items u.reading.items mid new → IsUndone m segments old new
  undone segments old mid new u l r = record {
    same = within segments segments (u.locked.items ++ u.reading.items) old mid new (λ s not. not) (λ s not. none_in s u.locked.items u.reading.items (l.locked s ∙ not) (l.reads_none s)) l.same r.freed.same;
    bytes = λ s is here. let locked : is_member s u.locked.items ≡ true = l.locked s ∙ is in
        ext_get_or 0 (bytes_of m new s) (bytes_of m old s) (r.same_length s locked ∙ l.same_length s is) (λ k less. r.bytes_are s k locked ∙ l.old_bytes s k is);
    holders = λ s is here. r.freed.free s (l.locked s ∙ is) ∙ sym (l.was_free s is);
  }

  -- nothing was set, and the locks are given back
  pub unchanged : (segments : List ℕ) (old at new last : I) (u : Tx) → Leaves m segments old at u → IsSame m at new → ((s k : ℕ) → Has u.set s k → ⊥) → AreReleased m u.thread u.locked.items u.reading.items new last → IsUndone m segments old last
  unchanged segments old at new last u left same none r = let l = leaves_same segments old at new u left same in record {
    same = within segments segments (u.locked.items ++ u.reading.items) old new last (λ s not. not) (λ s not. none_in s u.locked.items u.reading.items (l.locked s ∙ not) (l.reads_none s)) l.same r.freed.same;
    bytes = λ s is here. r.same_bytes s (l.locked s ∙ is) ∙ ext_get_or 0 (bytes_of m new s) (bytes_of m old s) (l.same_length s is) (λ k less. l.unset s k is (none s k));
    holders = λ s is here. r.freed.free s (l.locked s ∙ is) ∙ sym (l.was_free s is);
  }

  -- the locks are given back, with what was left
  pub record Releases (segments : List ℕ) (old at last : I) : Type 0 where
    pub same : IsSameBut m segments old last
    pub bytes : (s : ℕ) → IsTrue (is_member s segments) → bytes_of m last s ≡ bytes_of m at s
    pub free : (s : ℕ) → IsTrue (is_member s segments) → holders_of m last s ≡ Free

  pub releases : (segments : List ℕ) (old at new last : I) (u : Tx) → Leaves m segments old at u → IsSame m at new → AreReleased m u.thread u.locked.items u.reading.items new last → Releases segments old at last
  releases segments old at new last u left same r = let l = leaves_same segments old at new u left same in record {
    same = within segments segments (u.locked.items ++ u.reading.items) old new last (λ s not. not) (λ s not. none_in s u.locked.items u.reading.items (l.locked s ∙ not) (l.reads_none s)) l.same r.freed.same;
    bytes = λ s is. r.same_bytes s (l.locked s ∙ is) ∙ ap (λ p. p.bytes.items) (same.others s (subst IsSome (sym (left.same.numbers s)) (left.here s is)) refl);
    free = λ s is. r.freed.free s (l.locked s ∙ is);
  }

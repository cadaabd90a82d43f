-- Of a segment: what becomes of a record that a peer published, at the segments of a node.
use Rattle.std.specs.Prelude.{◌≡◌, ◌⊎◌, ℕ, ◌+◌, ◌*◌, ◌≤◌, true, false, Option, None, Some, IsSomeAnd, length}
use Rattle.lc_record.specs.declared.part.Part.{Part}
use Rattle.lc_token.specs.Backlog.{is_known, keeping}
use Rattle.lc_token.specs.declared.received.Received.{Received}
use Rattle.lc_token.specs.declared.received.Received.TheVariants.{Applied, HeldBack, Ignored}
use Rattle.lc_segments.specs.Applying.{applying}
use Rattle.lc_segments.specs.Growing.{folded, parts_size, HasGrown}
use Rattle.lc_applied.specs.AppliedParts.{laid_parts}
use Rattle.lc_segments.specs.SegView.{SegView}

module _ {D : Type 0} where
  -- a part with this number is applied at once: the token is elsewhere, and all before it are applied
  abbrev pub IsAwaited : SegView D → ℕ → Type 0
  IsAwaited s seq = (s.standing.token ≡ None) × (seq ≡ s.backlog.applied + 1)

  -- its applied parts may be folded, where they had grown, and there may be more room for parts; else it is the same
  abbrev pub IsReadied : SegView D → SegView D → Type 0
  IsReadied s t = (t ≡ record s { room = t.room }) ⊎ (HasGrown s × (t ≡ record (folded s) { room = t.room; runs_room = t.runs_room }))

  -- so that its applied parts take at most twice its bytes
  abbrev pub IsTidy : SegView D → SegView D → Type 0
  IsTidy s t = IsReadied s t × (parts_size t.applied ≤ 2 * length t.base)

  -- the image is the base with the applied parts put on
  abbrev pub ShowsParts : SegView D → Type 0
  ShowsParts s = IsSomeAnd s.image (λ image. image.bytes.items ≡ laid_parts s.applied s.base)

  -- what a segment does with its part of a record, if the record has one, and what is answered: a part that is known is ignored,
  -- the next is applied with those that are held back and follow on it, and any other is held back
  abbrev pub TakesIn : Option Part → SegView D → Received → SegView D → Type 0
  TakesIn None old (Applied number) new = ⊥
  TakesIn None old HeldBack new = ⊥
  TakesIn None old Ignored new = new ≡ old
  TakesIn (Some part) old (Applied number) new =
      (is_known old.backlog part.seq ≡ false) × IsAwaited old part.seq × (number ≡ new.backlog.applied)
      × ((tidy : SegView D) × IsTidy old tidy × (new ≡ record (applying part tidy) { image = new.image }) × ShowsParts new)
  TakesIn (Some part) old HeldBack new =
      (is_known old.backlog part.seq ≡ false) × (IsAwaited old part.seq → ⊥) × (new ≡ record old { backlog = keeping old.backlog part })
  TakesIn (Some part) old Ignored new = (is_known old.backlog part.seq ≡ true) × (new ≡ old)

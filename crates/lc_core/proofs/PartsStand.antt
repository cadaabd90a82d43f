-- What the parts of a cluster at rest stand for, where they agree: their records by node, their numbers, and the bytes of their segments.
use Rattle.std.proofs.Common.{◌≡◌, ℕ, suc, ◌+◌, ◌-◌, ◌<◌, Bool, true, false, List, [], ◌∷◌, All, filter, length, take, Option, refl, sym, ap, ◌∙◌, inl, inr, arith}
use Rattle.std.specs.Prelude.{if◌then◌else◌}
use Rattle.std.proofs.lemmas.Bool.{cases_lt}
use Rattle.std.proofs.lemmas.List.{get_or_past, take-map, take_all}
use Rattle.std.proofs.lemmas.List.Elements.{All-head, All-tail}
use Rattle.lc_disk.specs.declared.area.Area.{Ghosts}
use Rattle.lc_record.specs.Content.{segment_of}
use Rattle.lc_record.specs.Transaction.{Transaction, effects}
use Rattle.lc_record.specs.declared.geometry.Geometry.{Geometry}
use Rattle.lc_record.specs.declared.record.Record.{Record}
use Rattle.lc_model.specs.History.{value}
use Rattle.lc_model.specs.Merging.{sets}
use Rattle.lc_model.specs.Stored.{records_of, stable_number}
use Rattle.lc_token.specs.declared.token.Token.{Token}
use Rattle.lc_rest.specs.Adopted.{IsTaken, transaction_of}
use Rattle.lc_rest.specs.Found.{Found, IsConsistent, last_number, machine_disks, machine_setting, machine_state, own_records}
use Rattle.lc_rest.specs.Merge.{number_at, times}
use Rattle.lc_rest.specs.Passed.{Passes, Read, found_of, log_of, merged}
use Rattle.lc_rest.specs.Replay.{bytes_after}
use Rattle.lc_rest.specs.Stable.{bytes_up_to}
use Rattle.lc_rest.specs.Tested.{IsTested}
use Rattle.lc_rest.specs.Turns.{has_lock}
use Rattle.lc_rest.proofs.DisksFit.{put-effects, records-are}
use Rattle.lc_rest.proofs.Following.{node-part}
use Rattle.lc_rest.proofs.OneRecord.{part-counted}
use Rattle.lc_rest.proofs.Passes.{tested}
use Rattle.lc_rest.proofs.Played.{bytes-put, number-counted}
use Rattle.lc_rest.proofs.SoundState.{transactions-are}
use Rattle.lc_rest.proofs.Standing.{transactions_of}
use Rattle.lc_rest.proofs.Testing.{consistent}
use Rattle.lc_rest.proofs.Values.{value-put}
use Rattle.lc_rest.proofs.Within.{sets-lock, stable-counted}
use Rattle.lc_reading.specs.Built.{IsPieceOf}
use Rattle.lc_desk.specs.Slots.{segment_to}
use Rattle.lc_journal.specs.declared.node_piece.NodePiece.{NodePiece}
use Rattle.lc_rest.specs.declared.parts.Parts.{Parts}
use Rattle.lc_desk.specs.declared.segment_piece.SegmentPiece.{SegmentPiece}
use Rattle.lc_desk.specs.declared.segment_pieces.SegmentPieces.{SegmentPieces}
use Rattle.lc_core.proofs.PartsPass.{Agree, parts_pass, tame}
use Rattle.lc_core.proofs.StableCounts.{stable_counted}
use Rattle.lc_core.proofs.UpToNumber.{up_to_number}

-- what they stand for
abbrev pub stood_for : Read → Found
stood_for h = found_of (tame h)

-- the transactions that set some of a segment are those of the records that have a lock on it
setting_filter : (g : Geometry) (segment : ℕ) (rs : List Record) → All (IsTaken g) rs → filter (sets segment) (transactions_of g rs) ≡ transactions_of g (filter (has_lock segment) rs)
setting_filter g segment [] taken = refl
setting_filter g segment (r ∷ rs) taken =
    ap (λ (b : Bool). if b then transaction_of g r ∷ filter (sets segment) (transactions_of g rs) else filter (sets segment) (transactions_of g rs)) (sets-lock g r segment (All-head (IsTaken g) r rs taken))
    ∙ go (has_lock segment r) (setting_filter g segment rs (All-tail (IsTaken g) r rs taken))
  where
    go : (b : Bool) → filter (sets segment) (transactions_of g rs) ≡ transactions_of g (filter (has_lock segment) rs)
        → (if b then transaction_of g r ∷ filter (sets segment) (transactions_of g rs) else filter (sets segment) (transactions_of g rs)) ≡ transactions_of g (if b then r ∷ filter (has_lock segment) rs else filter (has_lock segment) rs)
    go true rest = ap (λ (ts : List Transaction). transaction_of g r ∷ ts) rest
    go false rest = rest

module _ {D : Type 0} (a : Ghosts D) (parts : Parts D a) (h : Read) (segments : SegmentPieces) (tokens : List (Option Token)) (pieces : List (NodePiece D a)) (areas : List D)
    (its : Agree a parts h segments tokens pieces areas) where
  pass : Passes (tame h)
  pass = parts_pass a parts h segments tokens pieces areas its

  pub stood_tested : IsTested (stood_for h)
  stood_tested = tested (tame h) pass

  pub stood_consistent : IsConsistent (stood_for h)
  stood_consistent = consistent (stood_for h) stood_tested

  -- The records of a node

  times_all : (n : ℕ) → times n h.turns ≡ length (log_of h n)
  times_all n = elim (cases_lt n (length h.logs)) [
    | inl within ↦ pass.all n within
    | inr past ↦ pass.none n past ∙ sym (ap length (get_or_past h.logs n [] past))
  ]

  pub own_log : (n : ℕ) → own_records (stood_for h) n ≡ log_of h n
  own_log n =
      node-part h.logs n [] h.turns pass.own (λ m. (let all = times_all m in omega (arith, all)))
      ∙ take_all (times n h.turns) (log_of h n) (let all = times_all n in omega (arith, all))

  pub log_records : (n : ℕ) → records_of (machine_setting (stood_for h)) (machine_state (stood_for h)) (machine_disks (stood_for h)) n ≡ log_of h n
  log_records n =
      (let f = stood_for h in records-are f.geometry f.records f.stable f.dropped f.place f.numbers f.base f.pages n stood_tested.taken stood_tested.shape stood_tested.follow) ∙ own_log n

  -- The numbers of a segment

  pub last_is : (k : ℕ) → k < h.geometry.segments → last_number (stood_for h) (k + 1) ≡ (h.token (k + 1)).seq
  last_is k known = sym (number-counted h.geometry (k + 1) (merged h) (number_at h.numbers) stood_tested.taken) ∙ pass.ends (k + 1) (omega arith) (omega (arith, known))

  pub stable_is : (k : ℕ) (piece : SegmentPiece) → IsPieceOf h (k + 1) piece → piece.stable ≡ stable_number h.geometry (machine_state (stood_for h)) (machine_disks (stood_for h)) (k + 1)
  stable_is k piece of =
      of.stable
      ∙ ap (λ (n : ℕ). number_at h.numbers (k + 1) + n)
      (sym (stable_counted (k + 1) h.logs h.counts (merged h) (λ i d less. (let known = stood_tested.nodes i d less in let count = pass.count in omega (arith, known, count))) own_log))
      ∙ sym (let f = stood_for h in stable-counted f.geometry f.records f.stable f.dropped f.place f.numbers f.pages (k + 1) stood_tested.taken stood_tested.nodes)

  -- The bytes of a segment

  pub base_is : (k : ℕ) → k < h.geometry.segments → segment_of (k + 1) (stood_for h).base ≡ h.bytes (k + 1)
  base_is k known =
      let next : k + 1 ≡ suc k = omega arith in
      let place : 1 + k ≡ k + 1 = omega arith in
      ap (λ (segment : ℕ). segment_of segment (stood_for h).base) next ∙ part-counted h.bytes 1 h.geometry.segments k known ∙ ap h.bytes place

  -- as all records make them
  pub value_bytes : (k : ℕ) → k < h.geometry.segments → segment_of (k + 1) (value (stood_for h).base [] (machine_state (stood_for h)).history) ≡ bytes_after (k + 1) (merged h) (h.bytes (k + 1))
  value_bytes k known =
      ap (segment_of (k + 1)) (value-put (stood_for h)) ∙ sym (bytes-put (k + 1) (merged h) (stood_for h).base)
      ∙ ap (bytes_after (k + 1) (merged h)) (base_is k known)

  -- and as those up to a number do
  pub bytes_to : (k number : ℕ) → k < h.geometry.segments → bytes_up_to (k + 1) number (merged h) (h.bytes (k + 1)) ≡ segment_to (machine_setting (stood_for h)) (machine_state (stood_for h)) (machine_disks (stood_for h)) (k + 1) number
  bytes_to k number known =
      let f = stood_for h in
      let g : Geometry = h.geometry in
      let rs : List Record = merged h in
      let count : ℕ = number - f.numbers (k + 1) in
      let few : List Record = take count (filter (has_lock (k + 1)) rs) in
      up_to_number g (k + 1) number rs f.numbers (h.bytes (k + 1)) stood_tested.taken stood_tested.follow
      ∙ ap (bytes_after (k + 1) few) (sym (base_is k known))
      ∙ bytes-put (k + 1) few f.base
      ∙ ap (segment_of (k + 1)) (put-effects g few f.base)
      ∙ ap (λ (ts : List Transaction). segment_of (k + 1) (effects ts f.base)) (sym (take-map (transaction_of g) count (filter (has_lock (k + 1)) rs)))
      ∙ ap (λ (ts : List Transaction). segment_of (k + 1) (effects (take count ts) f.base)) (sym (setting_filter g (k + 1) rs stood_tested.taken))
      ∙ ap (λ (ts : List Transaction). segment_of (k + 1) (effects (take count (filter (sets (k + 1)) ts)) f.base)) (sym (transactions-are g rs))

-- What there is to show of a merge of two records.
use Rattle.std.proofs.Common.{◌≡◌, ◌≤◌, ◌<◌, ℕ, false, IsTrue, All, List, [], ◌∷◌, Option, arith, inl, inr}
use Rattle.std.proofs.lemmas.List.Elements.{All-cons, All-nil, All-contains}
use Rattle.lc_record.specs.declared.record.Record.{Record}
use Rattle.lc_record.specs.Newest.{IsByNumber, IsNewest, number_or_zero, byte_of, has_byte}
use Rattle.lc_model.specs.Merge.{StoreText, IsGap, all_records}

abbrev pub Below : ℕ → ℕ → Record → Type 0
Below segment most r = number_or_zero segment r.locks ≤ most

-- no number of the segment is above this one
pub below_two : (segment most : ℕ) (x y : Record) → Below segment most x → Below segment most y → All (Below segment most) (x ∷ y ∷ [])
below_two segment most x y of_x of_y = All-cons (Below segment most) x (y ∷ []) of_x (All-cons (Below segment most) y [] of_y (All-nil (Below segment most)))

-- a gap has a number above it
pub gap_below : (store : StoreText) (segment most seq : ℕ) → All (Below segment most) (all_records store) → IsGap store segment seq → seq < most
gap_below store segment most seq all gap =
    let r : Record = gap.2.0 in
    let at_most : number_or_zero segment r.locks ≤ most = All-contains (Below segment most) (all_records store) r all gap.2.1 in
    let is : seq < number_or_zero segment r.locks = gap.2.2 in
    omega (arith, at_most, is)

abbrev pub NoByte : ℕ → ℕ → ℕ → Record → Type 0
NoByte segment place floor q = has_byte segment place floor q ≡ false

pub none_of : (segment place floor : ℕ) (x y : Record) → NoByte segment place floor x → NoByte segment place floor y → All (λ q. has_byte segment place floor q ≡ false) (x ∷ y ∷ [])
none_of segment place floor x y of_x of_y = All-cons (NoByte segment place floor) x (y ∷ []) of_x (All-cons (NoByte segment place floor) y [] of_y (All-nil (NoByte segment place floor)))

abbrev pub NoNewer : ℕ → ℕ → ℕ → Record → Record → Type 0
NoNewer segment place floor r q = IsTrue (has_byte segment place floor q) → number_or_zero segment q.locks ≤ number_or_zero segment r.locks

pub newest_of :
    (segment place floor : ℕ) (r x y : Record) → NoNewer segment place floor r x → NoNewer segment place floor r y →
    All (λ q. IsTrue (has_byte segment place floor q) → number_or_zero segment q.locks ≤ number_or_zero segment r.locks) (x ∷ y ∷ [])
newest_of segment place floor r x y of_x of_y =
    let P : Record → Type 0 = NoNewer segment place floor r in
    All-cons P x (y ∷ []) of_x (All-cons P y [] of_y (All-nil P))

-- the byte is not of this record, as the newest of these
abbrev pub IsRefuted : ℕ → ℕ → ℕ → List Record → Option ℕ → Record → Type 0
IsRefuted segment place floor records wrong q =
    IsTrue (has_byte segment place floor q) → wrong ≡ byte_of segment place q.ranges → All (NoNewer segment place floor q) records → ⊥

pub not_by_number :
    (segment place floor : ℕ) (x y : Record) (before wrong : Option ℕ) →
    (All (NoByte segment place floor) (x ∷ y ∷ []) → wrong ≡ before → ⊥) →
    IsRefuted segment place floor (x ∷ y ∷ []) wrong x → IsRefuted segment place floor (x ∷ y ∷ []) wrong y →
    IsByNumber segment place floor (x ∷ y ∷ []) before wrong → ⊥
not_by_number segment place floor x y before wrong none of_x of_y is =
    let P : Record → Type 0 = IsRefuted segment place floor (x ∷ y ∷ []) wrong in
    let each : All P (x ∷ y ∷ []) = All-cons P x (y ∷ []) of_x (All-cons P y [] of_y (All-nil P)) in
    elim is [
      | inl e ↦ none e.0 e.1
      | inr e ↦
          let newest : IsNewest segment place floor (x ∷ y ∷ []) wrong e.0 = e.1 in
          All-contains P (x ∷ y ∷ []) e.0 each newest.among newest.has newest.is newest.greatest
    ]

-- Copies of published records, to be sent to peers.
use Rattle.std.specs.Prelude.{◌≡◌, ◌⊎◌, ℕ, ◌+◌, ◌-◌, ◌^◌, ◌<◌, ◌≤◌, List, ◌++◌, length, map, min, All}
use Rattle.std.specs.List.{concat}
use Rattle.std.specs.Global.{Vec}
use Rattle.lc_cluster.specs.Messages.{records_in, tokens_among, numbered}
use Rattle.lc_log_side.specs.Published.{IsStart}
use Rattle.lc_cluster.specs.Spread.{sent_to, line_of, count_of, IsCutOff}
use Rattle.lc_cluster.specs.declared.peer_end.PeerEnd.{PeerEnd}

-- their words
abbrev pub texts : List (Vec ℕ) → List (List ℕ)
texts copies = map (λ (words : Vec ℕ). words.items) copies

-- each has a word, and this place and all their words together are a `usize`
pub record FitBehind (place : ℕ) (copies : List (Vec ℕ)) : Type 0 where
  pub filled : All (λ (words : Vec ℕ). 0 < length words.items) copies
  pub within : place + length (concat (texts copies)) < 2 ^ 64

-- where a record begins at the place, or the last ends there, they are the first of those from there on
abbrev pub AreBehind : List (List ℕ) → ℕ → List (Vec ℕ) → Type 0
AreBehind published place copies =
    (front behind : List (List ℕ)) → published ≡ front ++ behind → length (concat front) ≡ place → (rest : List (List ℕ)) × (behind ≡ texts copies ++ rest)

-- they are as many as are published from the place on, 64 at most
abbrev pub AreMost : List (List ℕ) → ℕ → List (Vec ℕ) → Type 0
AreMost published place copies = (count : ℕ) → IsStart published count place → length copies ≡ min 64 (length published - count)

module _ {P : Type 0} where
  -- copies that can be sent to a peer, 64 at most
  abbrev pub CanBeSent : PeerEnd P → List (Vec ℕ) → Type 0
  CanBeSent peer copies = (length copies ≤ 64) × FitBehind peer.place copies

  -- and those that are the records that it is to be sent next
  abbrev pub AreNext : List (List ℕ) → PeerEnd P → List (Vec ℕ) → Type 0
  AreNext published peer copies = AreBehind published peer.place copies

  -- and those that are as many of them as a call sends, where so many words in front were dropped and the peer lacks none of these
  abbrev pub AreAllNext : ℕ → List (List ℕ) → PeerEnd P → List (Vec ℕ) → Type 0
  AreAllNext gone published peer copies = gone ≤ peer.place → AreMost published peer.place copies

  -- so many records were sent as there are copies, if the peer was not cut off
  abbrev pub SendsAll : PeerEnd P → List (Vec ℕ) → PeerEnd P → Type 0
  SendsAll old copies new = (count_of new ≡ count_of old + length copies) ⊎ IsCutOff new

  -- just these records were sent, with the next numbers
  pub record SendsThese (copies : List (Vec ℕ)) (old new : PeerEnd P) : Type 0 where
    pub records : records_in (sent_to new) ≡ records_in (sent_to old) ++ numbered (count_of old + 1) (texts copies)
    pub tokens : tokens_among (sent_to new) ≡ tokens_among (sent_to old)
    pub line : line_of new ≡ line_of old

  -- the first so many of these were sent
  abbrev pub SendsFirst : List (Vec ℕ) → ℕ → PeerEnd P → PeerEnd P → Type 0
  SendsFirst copies count old new =
      (front : List (Vec ℕ)) × (rest : List (Vec ℕ)) × (copies ≡ front ++ rest) × (length front ≡ count) × SendsThese front old new

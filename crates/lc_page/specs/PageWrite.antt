-- What an area reads of a page while it is written, and what a stop may leave of it.
use Rattle.std.specs.Prelude.{◌≡◌, ◌≢◌, ◌⊎◌, ℕ, ◌+◌, ◌<◌, ◌≤◌, ◌^◌, Bool, true, false, if◌then◌else◌, List, [], ◌∷◌, ◌++◌, length, drop, replicate, slice_index_or}
use Rattle.std.specs.Int.{w64, to_le_bytes}
use Rattle.lc_disk.specs.Area.{IsImage, IsSameOutside, BecomeDirty, overlaid}
use Rattle.lc_disk.specs.declared.area.Area.{Ghosts}
use Rattle.lc_page.specs.declared.slot.Slot.{Slot}
use Rattle.lc_page.specs.declared.slot.Slot.TheVariants.{First, Second}
use Rattle.lc_page.specs.declared.page_text.PageText.{PageText}
use Rattle.lc_page.specs.declared.draft.Draft.{Draft}
use Rattle.lc_page.specs.Slot.{other, next_slot}
use Rattle.lc_page.specs.Page.{Page, slot_at, slot_bytes, has_gate, is_open, page_of_slot, no_page, page_of, text_of, page_in}
use Rattle.lc_page.specs.PageVector.{gate_of}

-- what stands after the gate of a slot with this page
abbrev pub behind_gate : ℕ → List ℕ → List ℕ
behind_gate seq bytes = replicate 7 0 ++ to_le_bytes w64 seq ++ bytes

-- what closes a gate: the byte 00 where it reads as open, else nothing
abbrev pub closing_bytes : Bool → List ℕ
closing_bytes true = 0 ∷ []
closing_bytes false = []

-- the page that is written
abbrev pub drafted : Draft → Page
drafted draft = record { sequence = draft.seq; content = draft.bytes }

-- what a stop may leave of a slot
abbrev pub IsSlotImage : List ℕ → (ℕ → Bool) → ℕ → Slot → List ℕ → Type 0
IsSlotImage now dirty page slot image = IsImage (slot_bytes now page slot) (λ k. dirty (slot_at page slot + k)) image

-- each of what a stop may leave of the two slots has this
abbrev pub EachImage : List ℕ → (ℕ → Bool) → ℕ → ((Slot → List ℕ) → Type 0) → Type 0
EachImage now dirty page P = (slots : Slot → List ℕ) → ((slot : Slot) → IsSlotImage now dirty page slot (slots slot)) → P slots

-- in every image the disk says this of the page, and the page is the same as the area reads
pub record IsSettled (now : List ℕ) (dirty : ℕ → Bool) (page : ℕ) (text : PageText) : Type 0 where
  pub text_is : EachImage now dirty page (λ slots. text_of slots ≡ text)
  pub page_is : EachImage now dirty page (λ slots. page_of slots ≡ page_in now page)

-- a write of 256 bytes over a page that the disk says this of: it goes to the free slot, under a greater number
pub record IsNext (draft : Draft) (text : PageText) : Type 0 where
  pub slot : draft.slot ≡ next_slot text.slot
  pub newer : text.seq < draft.seq
  pub small : draft.seq ≤ 2 ^ 60
  pub long : length draft.bytes ≡ 256
  pub fits : (k : ℕ) → slice_index_or draft.bytes k 0 < 256

-- a write that has just begun, with what is known of the gate
pub record IsBegun (draft : Draft) (reads_open : Bool) (text : PageText) : Type 0 where
  pub next : IsNext draft text
  pub gate : reads_open ≡ gate_of text draft.slot

-- the page of one slot alone
abbrev pub alone : List ℕ → Page
alone slot = if is_open slot then page_of_slot slot else no_page

-- the other slot alone has the old page, whatever a stop leaves of it
pub record IsBeside (now : List ℕ) (dirty : ℕ → Bool) (draft : Draft) (text : PageText) (old : Page) : Type 0 where
  pub next : IsNext draft text
  pub sequence : old.sequence ≡ text.seq
  pub two_gates : length text.gates ≡ 2
  pub fits : (k : ℕ) → slice_index_or (slot_bytes now draft.page (other draft.slot)) k 0 < 256
  pub gate : has_gate (slot_bytes now draft.page (other draft.slot)) ≡ gate_of text (other draft.slot)
  pub other_is : (image : List ℕ) → IsSlotImage now dirty draft.page (other draft.slot) image → alone image ≡ old

-- the gate is closed, but a stop may open it again
pub record IsClosing (now : List ℕ) (dirty : ℕ → Bool) (draft : Draft) (text : PageText) (old : Page) : Type 0 where
  pub beside : IsBeside now dirty draft text old
  pub closed : slice_index_or (slot_bytes now draft.page draft.slot) 0 0 ≢ 165
  pub page_is : EachImage now dirty draft.page (λ slots. page_of slots ≡ old)

-- the gate stays closed
pub record IsClosed (now : List ℕ) (dirty : ℕ → Bool) (draft : Draft) (text : PageText) (old : Page) : Type 0 where
  pub beside : IsBeside now dirty draft text old
  pub closed : slice_index_or (slot_bytes now draft.page draft.slot) 0 0 ≢ 165
  pub clean : dirty (slot_at draft.page draft.slot) ≡ false

-- and the page reads after its gate
pub record IsFilling (now : List ℕ) (dirty : ℕ → Bool) (draft : Draft) (text : PageText) (old : Page) : Type 0 where
  pub closed : IsClosed now dirty draft text old
  pub behind : drop 1 (slot_bytes now draft.page draft.slot) ≡ behind_gate draft.seq draft.bytes

-- and stays there
pub record IsFilled (now : List ℕ) (dirty : ℕ → Bool) (draft : Draft) (text : PageText) (old : Page) : Type 0 where
  pub filling : IsFilling now dirty draft text old
  pub clean : (k : ℕ) → 0 < k → k < 272 → dirty (slot_at draft.page draft.slot + k) ≡ false

-- the page stays after its gate, which may be any byte
pub record IsTorn (now : List ℕ) (dirty : ℕ → Bool) (draft : Draft) (text : PageText) (old : Page) : Type 0 where
  pub beside : IsBeside now dirty draft text old
  pub behind : drop 1 (slot_bytes now draft.page draft.slot) ≡ behind_gate draft.seq draft.bytes
  pub clean : (k : ℕ) → 0 < k → k < 272 → dirty (slot_at draft.page draft.slot + k) ≡ false

-- and reads as open
pub record IsOpening (now : List ℕ) (dirty : ℕ → Bool) (draft : Draft) (text : PageText) (old : Page) : Type 0 where
  pub torn : IsTorn now dirty draft text old
  pub gate : slice_index_or (slot_bytes now draft.page draft.slot) 0 0 ≡ 165

-- the area reads a page that has this, and whatever a stop leaves has one
pub record Shows (now : List ℕ) (dirty : ℕ → Bool) (page : ℕ) (P : Page → Type 0) : Type 0 where
  pub reads : P (page_in now page)
  pub images : (image : List ℕ) → IsImage now dirty image → P (page_in image page)

-- what others may do to an area beside a page: in its two slots all reads as before, and nothing has become dirty
pub record SameInside (page : ℕ) (now : List ℕ) (dirty : ℕ → Bool) (later : List ℕ) (soiled : ℕ → Bool) : Type 0 where
  pub same_length : length later ≡ length now
  pub same : (slot : Slot) (k : ℕ) → k < 272 → slice_index_or later (slot_at page slot + k) 0 ≡ slice_index_or now (slot_at page slot + k) 0
  pub clean : (slot : Slot) (k : ℕ) → k < 272 → dirty (slot_at page slot + k) ≡ false → soiled (slot_at page slot + k) ≡ false

-- a position outside of the two slots of a page
abbrev pub IsOutside : ℕ → ℕ → Type 0
IsOutside page k = (k < slot_at page First) ⊎ (slot_at page Second + 272 ≤ k)

-- outside of the two slots of a page all is as it was
pub record SameOutside (page : ℕ) (now : List ℕ) (dirty : ℕ → Bool) (later : List ℕ) (soiled : ℕ → Bool) : Type 0 where
  pub same_length : length later ≡ length now
  pub same : (k : ℕ) → IsOutside page k → slice_index_or later k 0 ≡ slice_index_or now k 0
  pub same_dirty : (k : ℕ) → IsOutside page k → soiled k ≡ dirty k

-- The same of an area; `a` is what contracts see of it.
module _ {D : Type 0} (a : Ghosts D) where
  -- the device keeps to the model as before, and its calls and failures are counted
  pub record Continues (old new : D) (ok : Bool) : Type 0 where
    pub honest : a.honest new ≡ a.honest old
    pub same_length : length (a.now new) ≡ length (a.now old)
    pub called : a.calls new ≡ a.calls old + 1
    pub counted : a.failures new ≡ (if ok then a.failures old else a.failures old + 1)

  -- a call that lays these bytes over a page, from this position on, and changes nothing else; where it fails, each of
  -- these positions may read as any byte
  pub record Writes (page at : ℕ) (bytes : List ℕ) (old new : D) (ok : Bool) : Type 0 where
    pub device : Continues old new ok
    pub written : a.honest old ≡ true → ok ≡ true → a.now new ≡ overlaid (a.now old) at bytes
    pub torn : a.honest old ≡ true → IsSameOutside at (length bytes) (a.now old) (a.now new)
    pub dirtied : a.honest old ≡ true → BecomeDirty at (length bytes) (a.dirty old) (a.dirty new)
    pub others : a.honest old ≡ true → SameOutside page (a.now old) (a.dirty old) (a.now new) (a.dirty new)

  -- a call that makes each position stable, or none
  pub record Syncs (old new : D) (ok : Bool) : Type 0 where
    pub device : Continues old new ok
    pub same : a.honest old ≡ true → a.now new ≡ a.now old
    pub dirty : a.honest old ≡ true → (k : ℕ) → a.dirty new k ≡ (if ok then false else a.dirty old k)

  -- what leaves the two slots of a page as they were
  pub record KeepsPage (page : ℕ) (old new : D) : Type 0 where
    pub honest : a.honest new ≡ a.honest old
    pub inside : a.honest old ≡ true → SameInside page (a.now old) (a.dirty old) (a.now new) (a.dirty new)

  -- The states, while it is honest.

  abbrev pub SettledIn : D → ℕ → PageText → Type 0
  SettledIn area page text = a.honest area ≡ true → IsSettled (a.now area) (a.dirty area) page text

  abbrev pub ClosingIn : D → Draft → PageText → Page → Type 0
  ClosingIn area draft text old = a.honest area ≡ true → IsClosing (a.now area) (a.dirty area) draft text old

  abbrev pub ClosedIn : D → Draft → PageText → Page → Type 0
  ClosedIn area draft text old = a.honest area ≡ true → IsClosed (a.now area) (a.dirty area) draft text old

  abbrev pub FillingIn : D → Draft → PageText → Page → Type 0
  FillingIn area draft text old = a.honest area ≡ true → IsFilling (a.now area) (a.dirty area) draft text old

  abbrev pub FilledIn : D → Draft → PageText → Page → Type 0
  FilledIn area draft text old = a.honest area ≡ true → IsFilled (a.now area) (a.dirty area) draft text old

  abbrev pub OpeningIn : D → Draft → PageText → Page → Type 0
  OpeningIn area draft text old = a.honest area ≡ true → IsOpening (a.now area) (a.dirty area) draft text old

  -- while it is honest, a page has this, as it reads and as a stop leaves it
  abbrev pub HasPage : D → ℕ → (Page → Type 0) → Type 0
  HasPage area page P = a.honest area ≡ true → Shows (a.now area) (a.dirty area) page P

-- it is this page, or that
abbrev pub IsEither : Page → Page → Page → Type 0
IsEither old new page = (page ≡ old) ⊎ (page ≡ new)

-- How the two slots of a page are read.
use Rattle.std.specs.Prelude.{ℕ, ◌+◌, ◌*◌, ◌^◌, Bool, true, false, ◌==◌, ◌&&◌, nat_lt, nat_le, Option, Some, None, List, [], ◌∷◌, take, drop, replicate, slice_index_or}
use Rattle.std.specs.List.{list_all}
use Rattle.std.specs.Int.{w64, from_le_bytes}
use Rattle.lc_page.specs.declared.slot.Slot.{Slot}
use Rattle.lc_page.specs.declared.slot.Slot.TheVariants.{First, Second}
use Rattle.lc_page.specs.declared.page_text.PageText.{PageText}
use Rattle.lc_page.specs.Slot.{number_of}

-- where a slot of a page stands
abbrev pub slot_at : ℕ → Slot → ℕ
slot_at page slot = (2 * page + number_of slot) * 272

-- the bytes of a slot
abbrev pub slot_bytes : List ℕ → ℕ → Slot → List ℕ
slot_bytes area page slot = take 272 (drop (slot_at page slot) area)

-- its gate reads as open
abbrev pub has_gate : List ℕ → Bool
has_gate slot = slice_index_or slot 0 0 == 165

-- its sequence
abbrev pub sequence_of : List ℕ → ℕ
sequence_of slot = from_le_bytes w64 (take 8 (drop 8 slot))

-- its page
abbrev pub content_of : List ℕ → List ℕ
content_of slot = take 256 (drop 16 slot)

-- it is open: its gate reads as open, its seven bytes are zero and its sequence is at most 2^60
unfoldable pub is_open : List ℕ → Bool
is_open slot =
    has_gate slot && list_all (λ b. b == 0) (take 7 (drop 1 slot)) && nat_le (sequence_of slot) (2 ^ 60)

-- a page, with its sequence
pub record Page : Type 0 where
  pub sequence : ℕ
  pub content : List ℕ

-- the page of a slot
abbrev pub page_of_slot : List ℕ → Page
page_of_slot slot = record { sequence = sequence_of slot; content = content_of slot }

-- the page where no slot is open
abbrev pub no_page : Page
no_page = record { sequence = 0; content = replicate 256 0 }

-- which of two slots is present, where it is told whether the first is open, the second, and the second is the newer one
abbrev pub chosen_slot : Bool → Bool → Bool → Option Slot
chosen_slot true true true = Some Second
chosen_slot true true false = Some First
chosen_slot true false newer = Some First
chosen_slot false true newer = Some Second
chosen_slot false false newer = None

-- the present slot of two: the open one with the greater sequence, on equal sequences the first
abbrev pub present_slot : (Slot → List ℕ) → Option Slot
present_slot slots = chosen_slot (is_open (slots First)) (is_open (slots Second))
    (nat_lt (sequence_of (slots First)) (sequence_of (slots Second)))

-- the page of this slot, if there is one
abbrev pub page_at : (Slot → List ℕ) → Option Slot → Page
page_at slots None = no_page
page_at slots (Some slot) = page_of_slot (slots slot)

-- the page of two slots
abbrev pub page_of : (Slot → List ℕ) → Page
page_of slots = page_at slots (present_slot slots)

-- what two slots say of their page
abbrev pub text_of : (Slot → List ℕ) → PageText
text_of slots = record { seq = (page_of slots).sequence; slot = present_slot slots; gates = has_gate (slots First) ∷ has_gate (slots Second) ∷ [] }

-- a page in an area
abbrev pub page_in : List ℕ → ℕ → Page
page_in area page = page_of (slot_bytes area page)

-- what an area says of a page
abbrev pub text_in : List ℕ → ℕ → PageText
text_in area page = text_of (slot_bytes area page)

-- What a dump prints: a page as it would be after a recovery, and its slots as they read.
use Rattle.std.specs.Prelude.{◌≡◌, ◌⊎◌, ℕ, ◌+◌, ◌-◌, ◌*◌, ◌<◌, ◌≤◌, nat_lt, ◌&&◌, nat_le, if◌then◌else◌, List, [], ◌∷◌, ◌++◌, map, flat_map, take, drop, codes, decimal, Option, slice_index_or}
use Rattle.std.specs.Int.{w32, to_be_bytes}
use Rattle.lc_disk.specs.declared.area.Area.{Ghosts}
use Rattle.lc_record.specs.Content.{Content}
use Rattle.lc_record.specs.Marks.{counting}
use Rattle.lc_record.specs.declared.geometry.Geometry.{Geometry}
use Rattle.lc_model.specs.Merge.{MergesTo, StoreText}
use Rattle.lc_model.specs.Stored.{page_bytes}
use Rattle.lc_page.specs.Page.{sequence_of}
use Rattle.lc_recover.specs.Fault.{IsRefusal}
use Rattle.lc_recover.specs.Reads.{AreHonest, HaveLengths, store_of}
use Rattle.lc_recover.specs.declared.fault.RecoverFault.{RecoverFault}
use Rattle.lc_recover.specs.declared.fault.RecoverFault.TheVariants.{BadGeometry, DeviceFault}
use Rattle.lc_text.specs.Text.{byte_text, hex_text}
use Rattle.lc_look.specs.Printed.{Stops, Adds}
use Rattle.lc_look.specs.Recovers.{stop_status, stop_text}
use Rattle.lc_look.specs.Refused.{IsFirstWrong}
use Rattle.lc_look.specs.declared.dumping.FoundPage.{FoundPage}

-- a byte as a character, or a full stop where it is none that is printed
abbrev pub shown : ℕ → ℕ
shown byte = if nat_le 32 byte && nat_lt byte 127 then byte else 46

-- a byte after a space
abbrev pub spaced : ℕ → List ℕ
spaced byte = 32 ∷ byte_text byte

-- some bytes at an address of their segment: the address, the bytes and their characters
abbrev pub dump_line : ℕ → List ℕ → List ℕ
dump_line address bytes = (((hex_text (to_be_bytes w32 address) ++ codes " ") ++ flat_map spaced bytes) ++ codes "  |") ++ map shown bytes ++ codes "|\n"

-- the bytes of a page, sixteen a line
unfoldable pub dump_text : ℕ → List ℕ → List ℕ
dump_text page bytes = flat_map (λ line. dump_line (page * 256 + line * 16) (take 16 (drop (line * 16) bytes))) (counting 0 16)

-- a slot, with its gate and its number
unfoldable pub slot_text : ℕ → List ℕ → List ℕ
slot_text slot bytes =
    (codes "slot " ++ (decimal slot ++ codes " gate ")) ++ (hex_text (take 1 bytes) ++ (codes " number " ++ (decimal (sequence_of bytes) ++ codes "\n")))

-- both slots of a page of an area, one after the other
abbrev pub both_slots : List ℕ → ℕ → List ℕ
both_slots area page = take 544 (drop (page * 544) area)

-- two slots of 272 bytes, one after the other
abbrev pub slots_text : List ℕ → List ℕ
slots_text slots = slot_text 0 (take 272 slots) ++ slot_text 1 (drop 272 slots)

abbrev pub no_page_text : ℕ → ℕ → List ℕ
no_page_text segment page = codes "no page " ++ (decimal page ++ (codes " of segment " ++ (decimal segment ++ codes "\n")))

-- the store has the page
abbrev pub HasThePage : Geometry → ℕ → ℕ → Type 0
HasThePage g segment page = (1 ≤ segment) × (segment ≤ g.segments) × (page < g.pages)

-- the page of a store that merges, and its slots as this area has them
abbrev pub ShowsPage : StoreText → List ℕ → ℕ → ℕ → List ℕ → ℕ → Type 0
ShowsPage store area segment page text status =
    (content : Content) × (numbers : ℕ → ℕ) × MergesTo store content numbers
    × (text ≡ dump_text page (page_bytes segment page content) ++ slots_text (both_slots area page)) × (status ≡ 0)

-- or the line of the refusal of its merge
abbrev pub StopsDump : StoreText → List ℕ → ℕ → Type 0
StopsDump store text status = (fault : RecoverFault) × IsRefusal store fault × (text ≡ stop_text fault) × (status ≡ stop_status fault)

-- that there is no such page
abbrev pub LacksPage : ℕ → ℕ → List ℕ → ℕ → Type 0
LacksPage segment page text status = (text ≡ no_page_text segment page) × (status ≡ 1)

-- whatever the areas
abbrev pub TellsDump : ℕ → ℕ → List ℕ → ℕ → Type 0
TellsDump segment page text status =
    LacksPage segment page text status
    ⊎ (((bytes slots : List ℕ) × (text ≡ dump_text page bytes ++ slots_text slots) × (status ≡ 0))
    ⊎ ((fault : RecoverFault) × (text ≡ stop_text fault) × (status ≡ stop_status fault)))

-- of these areas, which have the page, unless a device fails or there is no memory
abbrev pub DumpsAreas : {D : Type 0} (a : Ghosts D) → Geometry → List D → ℕ → ℕ → Option (List ℕ) → Option (List ℕ) → ℕ → Type 0
DumpsAreas a g areas segment page held holds status =
    HasThePage g segment page → HaveLengths a g areas → AreHonest a areas
    → Adds (λ text end. Stops text end
    ⊎ (ShowsPage (store_of g (map a.now areas)) (slice_index_or (map a.now areas) (g.nodes + segment - 1) []) segment page text end
    ⊎ StopsDump (store_of g (map a.now areas)) text end)) held holds status

module _ {D : Type 0} (a : Ghosts D) where
  -- the bytes of the page are those of the merge of what these areas read as, and the slots are as they read
  pub record FindsPage (g : Geometry) (areas : List D) (segment page : ℕ) (found : FoundPage) : Type 0 where
    pub lengths : HaveLengths a g areas
    pub bytes : AreHonest a areas → (content : Content) × (numbers : ℕ → ℕ) × MergesTo (store_of g (map a.now areas)) content numbers
        × (found.bytes ≡ page_bytes segment page content)
    pub slots : AreHonest a areas → found.slots ≡ both_slots (slice_index_or (map a.now areas) (g.nodes + segment - 1) []) page

  -- why there is no page: of an area that has not its length, of the device or of memory, or the refusal of the merge
  pub record StopsAt (g : Geometry) (areas : List D) (fault : RecoverFault) : Type 0 where
    pub wrong : (area : ℕ) → IsFirstWrong a g areas area → fault ≡ BadGeometry area
    pub refused : HaveLengths a g areas → AreHonest a areas → (fault ≡ DeviceFault → ⊥) → IsRefusal (store_of g (map a.now areas)) fault

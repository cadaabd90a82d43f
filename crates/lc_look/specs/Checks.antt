-- What a check prints: how much is in each log, which pages are behind, and the lines of a recovery.
use Rattle.std.specs.Prelude.{◌≡◌, ◌⊎◌, ◌↔◌, ℕ, zero, suc, ◌+◌, ◌<◌, List, [], ◌∷◌, ◌++◌, length, map, flat_map, codes, decimal, Contains, All, Option, slice_index_or}
use Rattle.lc_disk.specs.declared.area.Area.{Ghosts}
use Rattle.lc_record.specs.Content.{Content}
use Rattle.lc_record.specs.Marks.{counting}
use Rattle.lc_record.specs.declared.geometry.Geometry.{Geometry}
use Rattle.lc_record.specs.declared.record.Record.{Record}
use Rattle.lc_log.specs.LogText.{joined}
use Rattle.lc_model.specs.Merge.{MergesTo, StoreText}
use Rattle.lc_recover.specs.Fault.{IsRefusal}
use Rattle.lc_recover.specs.Forecast.{IsPageBehind}
use Rattle.lc_recover.specs.Reads.{AreHonest, HaveLengths, store_of}
use Rattle.lc_recover.specs.Recovery.{HasPageToWrite}
use Rattle.lc_recover.specs.declared.fault.RecoverFault.{RecoverFault}
use Rattle.lc_recover.specs.declared.fault.RecoverFault.TheVariants.{NoMemory}
use Rattle.lc_text.specs.Text.{number_text, recovered_text}
use Rattle.lc_look.specs.Printed.{Stops, Adds}
use Rattle.lc_look.specs.Recovers.{TellsRecovery, stop_status, stop_text}

-- Logs

-- the log of a node, how many records it has and how many words they take
abbrev pub extent_text : ℕ → ℕ → ℕ → List ℕ
extent_text node records words = codes "log " ++ decimal node ++ codes " records " ++ decimal records ++ codes " words " ++ decimal words ++ codes "\n"

abbrev pub log_text : ℕ → List Record → List ℕ
log_text node records = extent_text node (length records) (length (joined records))

-- the log of each node
abbrev pub logs_text : Geometry → StoreText → List ℕ
logs_text g store = flat_map (λ node. log_text node (slice_index_or store.logs node [])) (counting 0 g.nodes)

-- Pages

-- each stands before all that follow
abbrev pub AreRising : List ℕ → Type 0
AreRising [] = Unit {0}
AreRising (n ∷ ns) = All (λ m. n < m) ns × AreRising ns

-- of the first so many pages of a segment these are the ones that some record is newer than, in order
pub record AreBehindIn (count : ℕ) (store : StoreText) (segment : ℕ) (pages : List ℕ) : Type 0 where
  pub rising : AreRising pages
  pub all : (page : ℕ) → Contains pages page ↔ ((page < count) × IsPageBehind store segment page)

-- those pages, or that there are none
abbrev pub pages_text : List ℕ → List ℕ
pages_text [] = codes " none"
pages_text (page ∷ pages) = flat_map number_text (page ∷ pages)

abbrev pub behind_text : ℕ → List ℕ → List ℕ
behind_text segment pages = codes "segment " ++ decimal segment ++ codes " behind" ++ pages_text pages ++ codes "\n"

-- of the first so many pages of a segment
abbrev pub IsBehindText : ℕ → StoreText → ℕ → List ℕ → Type 0
IsBehindText count store segment text = (pages : List ℕ) × AreBehindIn count store segment pages × (text ≡ behind_text segment pages)

-- of so many segments, the first of which has this number
abbrev pub BehindTexts : Geometry → StoreText → ℕ → ℕ → List ℕ → Type 0
BehindTexts g store segment zero text = text ≡ []
BehindTexts g store segment (suc more) text =
    (own rest : List ℕ) × IsBehindText g.pages store segment own × BehindTexts g store (segment + 1) more rest × (text ≡ own ++ rest)

-- All lines

-- the store merges, and its recovery is printed after the pages that it would write
abbrev pub ShowsRecovery : Geometry → StoreText → List ℕ → ℕ → Type 0
ShowsRecovery g store text status =
    (content : Content) × (numbers : ℕ → ℕ) × MergesTo store content numbers
    × (behind : List ℕ) × BehindTexts g store 1 g.segments behind × (text ≡ behind ++ recovered_text g numbers) × (status ≡ 0)

-- or why it is not recovered: the refusal of its merge, or that there was no memory to merge it
abbrev pub ShowsStop : StoreText → List ℕ → ℕ → Type 0
ShowsStop store text status =
    (fault : RecoverFault) × IsRefusal store fault × (fault ≡ NoMemory → HasPageToWrite store) × (text ≡ stop_text fault) × (status ≡ stop_status fault)

-- after how much is in each log
abbrev pub Shows : Geometry → StoreText → List ℕ → ℕ → Type 0
Shows g store text status = (rest : List ℕ) × (text ≡ logs_text g store ++ rest) × (ShowsRecovery g store rest status ⊎ ShowsStop store rest status)

-- the last lines are those of a recovery, whatever stands in front of them
abbrev pub EndsWithRecovery : Geometry → List ℕ → ℕ → Type 0
EndsWithRecovery g text status = (front last : List ℕ) × (text ≡ front ++ last) × TellsRecovery g last status

-- of these areas, unless a device fails or there is no memory to read them
abbrev pub ChecksAreas : {D : Type 0} (a : Ghosts D) → Geometry → List D → Option (List ℕ) → Option (List ℕ) → ℕ → Type 0
ChecksAreas a g areas held holds status =
    HaveLengths a g areas → AreHonest a areas
    → Adds (λ text end. Stops text end ⊎ Shows g (store_of g (map a.now areas)) text end) held holds status

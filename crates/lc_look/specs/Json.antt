-- What a check prints as JSON after the size of the store: the logs, the segments, and why it is not recovered.
use Rattle.std.specs.Prelude.{◌≡◌, ◌⊎◌, ◌==◌, ℕ, zero, suc, ◌+◌, Bool, true, false, List, [], ◌∷◌, ◌++◌, length, map, flat_map, codes, decimal, Option, slice_index_or}
use Rattle.lc_disk.specs.declared.area.Area.{Ghosts}
use Rattle.lc_record.specs.Content.{Content}
use Rattle.lc_record.specs.Marks.{counting}
use Rattle.lc_record.specs.declared.geometry.Geometry.{Geometry}
use Rattle.lc_record.specs.declared.record.Record.{Record}
use Rattle.lc_log.specs.LogText.{joined}
use Rattle.lc_model.specs.Merge.{MergesTo, StoreText}
use Rattle.lc_look.specs.Picture.{pieces}
use Rattle.lc_recover.specs.Fault.{IsRefusal}
use Rattle.lc_recover.specs.Reads.{AreHonest, HaveLengths, store_of}
use Rattle.lc_recover.specs.Recovery.{HasPageToWrite}
use Rattle.lc_recover.specs.declared.fault.RecoverFault.{RecoverFault}
use Rattle.lc_recover.specs.declared.fault.RecoverFault.TheVariants.{BadGeometry, DeviceFault, Gap, NoMemory, OutOfSegment, Twice}
use Rattle.lc_look.specs.Checks.{AreBehindIn}
use Rattle.lc_look.specs.Printed.{Adds}
use Rattle.lc_look.specs.Recovers.{IsOutward, stop_status}
use Rattle.lc_look.specs.Refused.{IsFirstWrong}

-- what stands in front of an item of a list, the first one or a later one
abbrev pub comma_text : Bool → List ℕ
comma_text true = codes ""
comma_text false = codes ","

-- Logs

-- the log of a node, how many records it has and how many words they take
abbrev pub extent_item : ℕ → ℕ → ℕ → List ℕ
extent_item node records words = codes "{\"node\":" ++ decimal node ++ codes ",\"records\":" ++ decimal records ++ codes ",\"words\":" ++ decimal words ++ codes "}"

abbrev pub extent_json : ℕ → ℕ → ℕ → List ℕ
extent_json node records words = comma_text (node == 0) ++ extent_item node records words

abbrev pub log_json : ℕ → List Record → List ℕ
log_json node records = extent_json node (length records) (length (joined records))

-- the log of each node
abbrev pub logs_json : Geometry → StoreText → List ℕ
logs_json g store = flat_map (λ node. log_json node (slice_index_or store.logs node [])) (counting 0 g.nodes)

-- Segments

-- a page after the first one
abbrev pub later_page : ℕ → List ℕ
later_page page = codes "," ++ decimal page

abbrev pub pages_json : List ℕ → List ℕ
pages_json [] = []
pages_json (page ∷ pages) = decimal page ++ flat_map later_page pages

-- in front of the pages of a segment: the segment and its number
abbrev pub segment_item : ℕ → ℕ → List ℕ
segment_item segment number = pieces (codes "{\"segment\":" ∷ decimal segment ∷ codes ",\"sequence\":" ∷ decimal number ∷ codes ",\"behind\":[" ∷ [])

abbrev pub segment_front : ℕ → ℕ → List ℕ
segment_front segment number = comma_text (segment == 1) ++ segment_item segment number

abbrev pub segment_json : ℕ → ℕ → List ℕ → List ℕ
segment_json segment number pages = segment_front segment number ++ pages_json pages ++ codes "]}"

-- a segment of so many pages: its number, and the pages that some record is newer than
abbrev pub IsSegmentJson : ℕ → StoreText → (ℕ → ℕ) → ℕ → List ℕ → Type 0
IsSegmentJson count store numbers segment text = (pages : List ℕ) × AreBehindIn count store segment pages × (text ≡ segment_json segment (numbers segment) pages)

-- of so many segments, the first of which has this number
abbrev pub SegmentsJson : Geometry → StoreText → (ℕ → ℕ) → ℕ → ℕ → List ℕ → Type 0
SegmentsJson g store numbers segment zero text = text ≡ []
SegmentsJson g store numbers segment (suc more) text =
    (own rest : List ℕ) × IsSegmentJson g.pages store numbers segment own × SegmentsJson g store numbers (segment + 1) more rest × (text ≡ own ++ rest)

-- Why a store is not recovered

-- of the record of this number on a segment
abbrev pub record_json : List ℕ → ℕ → ℕ → List ℕ
record_json why segment seq = codes "{\"why\":\"" ++ why ++ codes "\",\"segment\":" ++ decimal segment ++ codes ",\"sequence\":" ++ decimal seq ++ codes "}"

abbrev pub fault_json : RecoverFault → List ℕ
fault_json (BadGeometry area) = codes "{\"why\":\"BadGeometry\",\"area\":" ++ decimal area ++ codes "}"
fault_json (OutOfSegment area) = codes "{\"why\":\"OutOfSegment\",\"area\":" ++ decimal area ++ codes "}"
fault_json (Twice segment seq) = record_json (codes "Twice") segment seq
fault_json (Gap segment seq) = record_json (codes "Gap") segment seq
fault_json DeviceFault = codes "{\"why\":\"DeviceFault\"}"
fault_json NoMemory = codes "{\"why\":\"NoMemory\"}"

-- The rest of the object

abbrev pub logs_front : List ℕ
logs_front = codes "\"logs\":["

-- after the logs: the segments of a store that is recovered
abbrev pub recovered_json : List ℕ → List ℕ
recovered_json segments = codes "],\"segments\":[" ++ segments ++ codes "],\"refused\":null,\"ok\":true}\n"

-- after the logs: why there is none
abbrev pub stop_json : RecoverFault → List ℕ
stop_json fault = codes "],\"segments\":[],\"refused\":" ++ fault_json fault ++ codes ",\"ok\":false}\n"

-- where the areas were not read there are no logs
abbrev pub unread_json : RecoverFault → List ℕ
unread_json fault = logs_front ++ stop_json fault

-- the store merges, and its recovery would give these numbers and write these pages
abbrev pub RecoveryJson : Geometry → StoreText → List ℕ → ℕ → Type 0
RecoveryJson g store text status =
    (content : Content) × (numbers : ℕ → ℕ) × MergesTo store content numbers
    × (segments : List ℕ) × SegmentsJson g store numbers 1 g.segments segments × (text ≡ recovered_json segments) × (status ≡ 0)

-- or why it is not recovered: the refusal of its merge, or that there was no memory to merge it
abbrev pub StopJson : StoreText → List ℕ → ℕ → Type 0
StopJson store text status =
    (fault : RecoverFault) × IsRefusal store fault × (fault ≡ NoMemory → HasPageToWrite store) × (text ≡ stop_json fault) × (status ≡ stop_status fault)

-- after how much is in each log
abbrev pub ShowsJson : Geometry → StoreText → List ℕ → ℕ → Type 0
ShowsJson g store text status =
    (rest : List ℕ) × (text ≡ (logs_front ++ logs_json g store) ++ rest) × (RecoveryJson g store rest status ⊎ StopJson store rest status)

-- the areas were not read, for this reason
abbrev pub TellsUnread : RecoverFault → List ℕ → ℕ → Type 0
TellsUnread fault text status = (text ≡ unread_json fault) × (status ≡ stop_status fault)

-- whatever the areas: what is printed of some store, or why none was read
abbrev pub EndsJson : Geometry → List ℕ → ℕ → Type 0
EndsJson g text status = ((store : StoreText) × ShowsJson g store text status) ⊎ ((fault : RecoverFault) × TellsUnread fault text status)

-- a device has failed, or there was no memory, before they were read
abbrev pub IsUnread : List ℕ → ℕ → Type 0
IsUnread text status = (fault : RecoverFault) × IsOutward fault × TellsUnread fault text status

-- of these areas
abbrev pub ChecksJson : {D : Type 0} (a : Ghosts D) → Geometry → List D → Option (List ℕ) → Option (List ℕ) → ℕ → Type 0
ChecksJson a g areas held holds status =
    HaveLengths a g areas → AreHonest a areas
    → Adds (λ text end. IsUnread text end ⊎ ShowsJson g (store_of g (map a.now areas)) text end) held holds status

-- the first area that has not the length of the geometry, is missing, or is too many
abbrev pub RefusesJson : {D : Type 0} (a : Ghosts D) → Geometry → List D → Option (List ℕ) → Option (List ℕ) → ℕ → Type 0
RefusesJson a g areas held holds status =
    (area : ℕ) → IsFirstWrong a g areas area → Adds (TellsUnread (BadGeometry area)) held holds status

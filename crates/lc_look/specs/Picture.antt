-- The text of the picture of a store, as SVG.
use Rattle.std.specs.Prelude.{ℕ, ◌^◌, ◌-◌, min, Bool, true, false, List, [], ◌∷◌, ◌++◌, length, flat_map, codes, decimal, Option, None, Some}
use Rattle.lc_page.specs.declared.slot.Slot.{Slot}
use Rattle.lc_page.specs.declared.slot.Slot.TheVariants.{First, Second}
use Rattle.lc_record.specs.Record.{record_len}
use Rattle.lc_record.specs.declared.geometry.Geometry.{Geometry}
use Rattle.lc_record.specs.declared.record.Lock.{Lock}
use Rattle.lc_record.specs.declared.record.Record.{Record}
use Rattle.lc_text.specs.Text.{record_text}
use Rattle.lc_look.specs.Layout.{cell_left, cell_top, field_height, fields_top, log_top, picture_height}
use Rattle.lc_look.specs.declared.log_bar.LogBar.{LogBar}
use Rattle.lc_look.specs.declared.page_cell.PageCell.{PageCell}
use Rattle.lc_look.specs.declared.segment_field.SegmentField.{SegmentField}
use Rattle.lc_look.specs.declared.store_picture.StorePicture.{StorePicture}
use Rattle.lc_look.specs.declared.style.TheConstants.{STYLE}

-- some texts, one after another
abbrev pub pieces : List (List ℕ) → List ℕ
pieces [] = []
pieces (p ∷ []) = p
pieces (p ∷ q ∷ ps) = p ++ pieces (q ∷ ps)

-- Pages

abbrev pub slot_class : Option Slot → List ℕ
slot_class None = codes "none"
slot_class (Some First) = codes "first"
slot_class (Some Second) = codes "second"

abbrev pub slot_words : Option Slot → List ℕ
slot_words None = codes "never written"
slot_words (Some First) = codes "first slot"
slot_words (Some Second) = codes "second slot"

abbrev pub behind_class : Bool → List ℕ
behind_class true = codes " behind"
behind_class false = codes ""

abbrev pub behind_words : Bool → List ℕ
behind_words true = codes ", behind its records"
behind_words false = codes ""

-- a page, at its place in the rows
unfoldable pub cell_head_text : List ℕ → List ℕ → ℕ → ℕ → List ℕ
cell_head_text slot behind left top =
    pieces (codes "<rect class='" ∷ slot ∷ behind ∷ codes "' x='" ∷ decimal left ∷ codes "' y='" ∷ decimal top ∷ codes "' width='13' height='13'>" ∷ [])

-- and its words
unfoldable pub cell_title_text : ℕ → List ℕ → ℕ → List ℕ → List ℕ
cell_title_text page slot number behind =
    pieces (codes "<title>page " ∷ decimal page ∷ codes ": " ∷ slot ∷ codes ", number " ∷ decimal number ∷ behind ∷ codes "</title></rect>\n" ∷ [])

unfoldable pub cell_text : PageCell → List ℕ
cell_text cell =
    cell_head_text (slot_class cell.slot) (behind_class cell.is_behind) (cell_left cell.page) (cell_top cell.page)
    ++ cell_title_text cell.page (slot_words cell.slot) cell.sequence (behind_words cell.is_behind)

abbrev pub cells_text : List PageCell → List ℕ
cells_text = flat_map cell_text

-- Segments

unfoldable pub field_head_text : ℕ → ℕ → List ℕ
field_head_text segment sequence =
    pieces (codes "<rect class='s" ∷ decimal segment ∷ codes "' width='13' height='13'/><text x='22' y='12'>segment "
    ∷ decimal segment ∷ codes ": number " ∷ decimal sequence ∷ codes "</text>\n<g transform='translate(0 20)'>\n" ∷ [])

unfoldable pub next_field_text : ℕ → List ℕ
next_field_text height =
    pieces (codes "</g>\n<g transform='translate(0 " ∷ decimal height ∷ codes ")'>\n" ∷ [])

-- a segment, and the beginning of what stands below it
unfoldable pub field_text : ℕ → SegmentField → List ℕ
field_text height field = field_head_text field.segment field.sequence ++ cells_text field.cells.items ++ next_field_text height

abbrev pub fields_text : ℕ → List SegmentField → List ℕ
fields_text height = flat_map (field_text height)

abbrev pub closings_text : List SegmentField → List ℕ
closings_text = flat_map (λ field. codes "</g>\n")

-- Logs

-- the words of a record in the lane of a segment
unfoldable pub lane_text : ℕ → ℕ → ℕ → List ℕ
lane_text place words segment =
    pieces (codes "<rect class='s" ∷ decimal segment ∷ codes "' x='" ∷ decimal place ∷ codes "' y='"
    ∷ decimal segment ∷ codes "' width='" ∷ decimal words ∷ codes "' height='1'/>\n" ∷ [])

abbrev pub lanes_text : ℕ → ℕ → List Lock → List ℕ
lanes_text place words = flat_map (λ lock. lane_text place words lock.segment)

unfoldable pub record_head_text : ℕ → Record → List ℕ
record_head_text place r = codes "<g><title>" ++ record_text place r

unfoldable pub record_end_text : ℕ → ℕ → ℕ → List ℕ
record_end_text lanes place words =
    pieces (codes "</title><rect class='stable' x='" ∷ decimal place ∷ codes "' y='1' width='" ∷ decimal words
    ∷ codes "' height='" ∷ decimal lanes ∷ codes "'/>\n" ∷ [])

-- where a record begins
unfoldable pub edge_text : ℕ → ℕ → List ℕ
edge_text lanes place = pieces (codes "<rect class='edge' x='" ∷ decimal place ∷ codes "' y='1' width='.15' height='" ∷ decimal lanes ∷ codes "'/>\n</g>\n" ∷ [])

-- how long it is drawn: its words, as far as 64 bits can say
abbrev pub drawn_words : Record → ℕ
drawn_words r = min (record_len r) (2 ^ 64 - 1)

-- a record: its words in all lanes, and brighter in those of the segments that it locks
unfoldable pub record_in_bar : ℕ → ℕ → Record → List ℕ
record_in_bar lanes place r =
    record_head_text place r ++ record_end_text lanes place (drawn_words r) ++ lanes_text place (drawn_words r) r.locks ++ edge_text lanes place

abbrev pub records_in_bar : ℕ → List (ℕ × Record) → List ℕ
records_in_bar lanes = flat_map (λ e. record_in_bar lanes e.0 e.1)

-- where it stands
unfoldable pub bar_place_text : ℕ → List ℕ
bar_place_text top = pieces (codes "<g transform='translate(20 " ∷ decimal top ∷ codes ")'>\n" ∷ [])

-- the log in words
unfoldable pub bar_label_text : ℕ → ℕ → ℕ → ℕ → ℕ → List ℕ
bar_label_text node count end words trailing =
    pieces (codes "<text y='12'>log " ∷ decimal node ∷ codes ": " ∷ decimal count
    ∷ codes " records in " ∷ decimal end ∷ codes " of " ∷ decimal words ∷ codes " words, " ∷ decimal trailing ∷ codes " written behind them</text>\n" ∷ [])

-- a bar of so many words, with a lane for each segment; all its words are free
unfoldable pub bar_frame_text : ℕ → ℕ → List ℕ
bar_frame_text words lanes =
    pieces (codes "<svg y='20' width='960' height='32' viewBox='0 1 " ∷ decimal words ∷ codes " " ∷ decimal lanes
    ∷ codes "' preserveAspectRatio='none'>\n<rect class='free' y='1' width='" ∷ decimal words ∷ codes "' height='" ∷ decimal lanes ∷ codes "'/>\n" ∷ [])

-- but for those after the records that were written
unfoldable pub bar_trailing_text : ℕ → ℕ → ℕ → List ℕ
bar_trailing_text end trailing lanes =
    pieces (codes "<rect class='open' x='" ∷ decimal end ∷ codes "' y='1' width='" ∷ decimal trailing ∷ codes "' height='" ∷ decimal lanes ∷ codes "'/>\n" ∷ [])

abbrev pub bar_head_text : Geometry → LogBar → List ℕ
bar_head_text g bar =
    bar_place_text (log_top bar.node) ++ bar_label_text bar.node (length bar.records.items) bar.end g.words bar.trailing ++ bar_frame_text g.words g.segments ++ bar_trailing_text bar.end bar.trailing g.segments

unfoldable pub bar_text : Geometry → LogBar → List ℕ
bar_text g bar = bar_head_text g bar ++ records_in_bar g.segments bar.records.items ++ codes "</svg>\n</g>\n"

abbrev pub bars_text : Geometry → List LogBar → List ℕ
bars_text g = flat_map (bar_text g)

-- The picture

unfoldable pub head_text : ℕ → List ℕ
head_text height =
    pieces (codes "<svg xmlns='http://www.w3.org/2000/svg' width='1000' height='" ∷ decimal height
    ∷ codes "' viewBox='0 0 1000 " ∷ decimal height ∷ codes "'>\n" ∷ [])

unfoldable pub fields_begin_text : ℕ → List ℕ
fields_begin_text top =
    pieces (codes "<g transform='translate(20 " ∷ decimal top ∷ codes ")'>\n" ∷ [])

-- the colours and the legend, and the logs
unfoldable pub drawn_logs : Geometry → List LogBar → List ℕ
drawn_logs g bars = head_text (picture_height g) ++ STYLE.now ++ bars_text g bars

-- below them the segments, each below the one before
unfoldable pub segments_text : Geometry → List SegmentField → List ℕ
segments_text g fields = fields_begin_text (fields_top g) ++ fields_text (field_height g) fields ++ closings_text fields ++ codes "</g>\n</svg>\n"

abbrev pub picture_text : StorePicture → List ℕ
picture_text picture = drawn_logs picture.geometry picture.bars.items ++ segments_text picture.geometry picture.fields.items

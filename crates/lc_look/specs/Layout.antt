-- Where things stand in the picture of a store, in pixels.
use Rattle.std.specs.Prelude.{ℕ, ◌+◌, ◌*◌, ◌-◌, ◌/◌, ◌%◌}
use Rattle.lc_record.specs.declared.geometry.Geometry.{Geometry}

-- the logs stand below the legend, one in each 70 pixels
abbrev pub log_top : ℕ → ℕ
log_top node = 90 + 70 * node

-- the segments stand below the logs
abbrev pub fields_top : Geometry → ℕ
fields_top g = log_top g.nodes

-- a segment's pages stand 64 in a row, 15 pixels from one to the next
abbrev pub cell_left : ℕ → ℕ
cell_left page = 15 * (page % 64)

abbrev pub cell_top : ℕ → ℕ
cell_top page = 15 * (page / 64)

-- from one segment to the next: its rows, and 40 pixels
abbrev pub field_height : Geometry → ℕ
field_height g = 40 + 15 * ((g.pages + 64 - 1) / 64)

abbrev pub picture_height : Geometry → ℕ
picture_height g = fields_top g + g.segments * field_height g

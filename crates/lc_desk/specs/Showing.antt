-- Of a desk: what a node's image of a segment shows.
use Rattle.std.specs.Prelude.{ℕ, ◌*◌, List, take, drop}

-- 256 bytes
abbrev pub page_of : List ℕ → ℕ → List ℕ
page_of bytes page = take 256 (drop (page * 256) bytes)

-- Areas that were read whole.
use Rattle.std.specs.Prelude.{◌≡◌, ℕ, ◌+◌, ◌<◌, true, List, length, slice_get, slice_index_or, Some}
use Rattle.std.specs.Global.{Vec}
use Rattle.lc_disk.specs.declared.area.Area.{Ghosts}
use Rattle.lc_reading.specs.Built.{IsSameArea}

module _ {D : Type 0} (a : Ghosts D) where
  -- the area was read: it is as it was, and these are bytes, as many as it has, and while it is honest those that it has
  pub record IsAsRead (old new : D) (bytes : List ℕ) : Type 0 where
    pub same : IsSameArea a old new
    pub len : length (a.now new) ≡ length (a.now old)
    pub long : length bytes ≡ length (a.now old)
    pub of_bytes : (at : ℕ) → slice_index_or bytes at 0 < 256
    pub read : a.honest old ≡ true → bytes ≡ a.now old

  abbrev pub AreAsRead : List D → List D → List (Vec ℕ) → Type 0
  AreAsRead olds news reads = (k : ℕ) (old new : D) (bytes : Vec ℕ) → slice_get olds k ≡ Some old → slice_get news k ≡ Some new → slice_get reads k ≡ Some bytes → IsAsRead old new bytes.items

  -- a call on one of them has failed
  abbrev pub FailsAt : List D → Type 0
  FailsAt areas = (k : ℕ) × (area : D) × (slice_get areas k ≡ Some area) × ((later : D) × (a.failures later ≡ a.failures area + 1))

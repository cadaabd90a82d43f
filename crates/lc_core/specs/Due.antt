-- Which pages are to be written at a node, by the machine's state and the numbers.
use Rattle.std.specs.Prelude.{ℕ, ◌&&◌, ◌||◌, ◌==◌, nat_lt, Bool, if◌then◌else◌}
use Rattle.std.specs.List.{list_any}
use Rattle.lc_model.specs.Refusals.{is_at, is_up}
use Rattle.lc_model.specs.Sound.{holders}
use Rattle.lc_model.specs.State.{State}
use Rattle.lc_settled.specs.Numbers.{Numbers, sets_on, stable}
use Rattle.lc_settled.specs.Settled.{begun_number}

-- the page was changed under a greater number than the one on the disk, or a write of it has begun
abbrev pub is_unwritten : Numbers → ℕ → ℕ → Bool
is_unwritten x segment page = nat_lt (stable x segment page) (x.touched segment page) || nat_lt 0 (x.calls segment page)

-- so it is, and the segment's token is at the node
abbrev pub is_due_then : State → Numbers → ℕ → ℕ → ℕ → Bool
is_due_then s x node segment page = is_up s.phase && (is_at node (s.place segment) && is_unwritten x segment page)

-- the number that the page has on the disk once the write of it that is under way is over
abbrev pub number_then : Numbers → ℕ → ℕ → ℕ
number_then x segment page = if x.calls segment page == 0 then stable x segment page else begun_number (x.disks.begun segment page)

-- the page is to be written at the node, now or after that write, and a transaction that is not over has set a position
-- on it
abbrev pub is_blocked_then : State → Numbers → ℕ → ℕ → ℕ → Bool
is_blocked_then s x node segment page =
    is_up s.phase
    && (is_at node (s.place segment) && (nat_lt (number_then x segment page) (x.touched segment page) && list_any (sets_on segment page) (holders s)))

-- What a clause says of a seat.
use Rattle.std.specs.Prelude.{◌≡◌, ◌<◌, ◌⊎◌, ℕ, true, List, [], ◌∷◌, ◌++◌, length}
use Rattle.lc_stage.specs.declared.stage_view.StageView.{StageView}
use Rattle.lc_stage.specs.declared.stage_view.Load.{Load}
use Rattle.lc_stage.specs.Staging.{hears, saw, offset_of, reserved, load, open_count, end_of}
use Rattle.lc_stage.specs.declared.seats.CommitSeat.{CommitSeat}
use Rattle.lc_stage.specs.declared.seats.FlushSeat.{FlushSeat}
use Rattle.lc_stage.specs.declared.stage.Stage.{Stage}
use Rattle.lc_stage.specs.declared.fault.StageFault.{StageFault}
use Rattle.lc_stage.specs.declared.fault.StageFault.TheVariants.{Moved, Full, Sealed, RoundsSpent}

abbrev pub commit_view : CommitSeat → StageView
commit_view c = c.seat.me.0

abbrev pub flush_view : FlushSeat → StageView
flush_view f = f.seat.me.0

abbrev pub IsSeatOf : Stage → CommitSeat → Type 0
IsSeatOf t c = c.seat.table_id ≡ t.table.shared.table_id

abbrev pub IsFlusherOf : Stage → FlushSeat → Type 0
IsFlusherOf t f = f.seat.table_id ≡ t.table.shared.table_id

-- what a refusal leaves: after Moved the seat has seen another tail than `at`, and after Full its view is as before
abbrev pub IsRefused : ℕ → ℕ → StageView → StageView → StageFault → Type 0
IsRefused at n v w (Moved seen) = (at < seen) × (w ≡ saw seen v)
IsRefused at n v w (Full tail need) = (tail ≡ offset_of at) × (need ≡ n) × (w ≡ v)
IsRefused at n v w Sealed = w ≡ v
IsRefused at n v w RoundsSpent = ⊥

-- what a refusal to seal leaves: after Moved the flusher knows the tail that was found, which is above `at`
abbrev pub IsUnsealed : ℕ → StageView → StageView → StageFault → Type 0
IsUnsealed at v w (Moved seen) = (at < seen) × (w ≡ hears seen v)
IsUnsealed at v w (Full tail need) = ⊥
IsUnsealed at v w Sealed = w ≡ v
IsUnsealed at v w RoundsSpent = ⊥

-- the flusher's round is sealed, and all its records are taken and durable
abbrev pub IsSettled : StageView → Type 0
IsSettled v = (v.sealed ≡ true) × (length v.taken ≡ v.sealed_at) × (v.published ≡ end_of v)

-- no reservation of the seat is open
abbrev pub IsIdle : StageView → Type 0
IsIdle v = open_count v.mine ≡ 0

-- the newest reservation has n words, and none of them is filled
abbrev pub IsFresh : ℕ → StageView → Type 0
IsFresh n v = (at : ℕ) × (u : StageView) × (v ≡ reserved at n u)

abbrev pub publishing : StageView → StageView
publishing v = record v { published = end_of v }

-- the seat has only made loads
abbrev pub OnlyLoads : StageView → StageView → Type 0
OnlyLoads v w = (during : List Load) × (w ≡ record v { loads = v.loads ++ during })

-- the seat has only made loads and taken words
abbrev pub OnlyTakes : StageView → StageView → Type 0
OnlyTakes v w = (during : List Load) × (w ≡ record v { taken = w.taken; loads = v.loads ++ during })

-- every place is taken, or the last of the loads read the place after what was taken as 0
abbrev pub EndsAt : ℕ → StageView → StageView → Type 0
EndsAt room v w = (length w.taken ≡ room) ⊎ ((during : List Load) × (w.loads ≡ (v.loads ++ during) ++ load (length w.taken) 0 ∷ []))

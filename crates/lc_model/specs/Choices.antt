-- How many answers there may be, an answer being a reply and the state after it.
use Rattle.std.specs.Prelude.{◌≡◌, ◌≢◌, Bool, true, false}
use Rattle.lc_model.specs.State.{State}
use Rattle.lc_model.specs.declared.event.Event.{Event}
use Rattle.lc_model.specs.declared.event.Event.TheVariants.{Begin, SetRange, Write, Read, Abort, Reserve, Close, FlushStep, Leave, Arrive, Deliver, Trim, PageStep, ResetStep, Stop, RecoverStep}
use Rattle.lc_model.specs.declared.reply.Reply.{Reply}

-- there is an answer
abbrev pub AtLeastOne : (Reply → State → Type 0) → Type 0
AtLeastOne May = (reply : Reply) × (new : State) × May reply new

-- there are no two answers
abbrev pub AtMostOne : (Reply → State → Type 0) → Type 0
AtMostOne May = (reply other : Reply) (new next : State) → May reply new → May other next → (reply ≡ other) × (new ≡ next)

-- there is one answer and no other
abbrev pub ExactlyOne : (Reply → State → Type 0) → Type 0
ExactlyOne May = AtLeastOne May × AtMostOne May

-- the answers with another reply than this one
abbrev pub Beside : Reply → (Reply → State → Type 0) → Reply → State → Type 0
Beside excluded May reply new = May reply new × (reply ≢ excluded)

-- the state alone determines the answer
abbrev pub leaves_no_choice : Event → Bool
leaves_no_choice (Begin node thread segments reading) = true
leaves_no_choice (SetRange node thread segment offset len) = true
leaves_no_choice (Write node thread segment offset bytes) = true
leaves_no_choice (Read node thread segment offset len) = true
leaves_no_choice (Abort node thread) = true
leaves_no_choice (Reserve node thread) = false
leaves_no_choice (Close node thread) = true
leaves_no_choice (FlushStep node) = false
leaves_no_choice (Leave node segment) = false
leaves_no_choice (Arrive node segment) = false
leaves_no_choice (Deliver sender number segment to) = false
leaves_no_choice (Trim node) = false
leaves_no_choice (PageStep node segment page) = false
leaves_no_choice (ResetStep node) = false
leaves_no_choice (Stop choices) = false
leaves_no_choice RecoverStep = false

-- What the lines of a script that come one by one print.
use Rattle.std.proofs.Common.{◌≡◌, ℕ, ◌+◌, ◌||◌, Bool, List, [], ◌∷◌, ◌++◌, Option, Some, None, IfSome, refl, subst, inl, inr}
use Rattle.std.specs.Prelude.{if◌then◌else◌}
use Rattle.lc_record.specs.declared.geometry.Geometry.{Geometry}
use Rattle.lc_model.specs.State.{Setting, State}
use Rattle.lc_core.specs.Lives.{Life}
use Rattle.lc_settled.specs.Numbers.{Numbers}
use Rattle.lc_text.specs.Text.{no_memory_text, too_long_text}
use Rattle.lc_tool.specs.Outcome.{Breaks, Passes, fronted}
use Rattle.lc_tool.specs.Script.{Follows, Front}
use Rattle.lc_tool.specs.Tells.{Living, TellsFollowed, TellsFronted}
use Rattle.lc_tool.specs.declared.outcome.Outcome.TheVariants.{Goes, Ends}
use Rattle.lc_tool.proofs.ScriptLemmas.{breaks_now, passes_next, tells_next, tells_now}

pub some_by : {A : Type 0} (o : Option A) (P : A → Type 0) → ((x : A) → o ≡ Some x → P x) → IfSome o P
some_by None P all = tt
some_by (Some x) P all = all x refl

pub some_at : {A : Type 0} (o : Option A) (x : A) (P : A → Type 0) → o ≡ Some x → IfSome o P → P x
some_at None x P is h = absurd cc
some_at (Some y) x P is h = (let same : y ≡ x = cc in subst P same h)

module _ (front : Front) (number : ℕ) (refused : Bool) where
  module _ (m : Setting) (s : State) (x : Numbers) where
    abbrev pub Behind : List (Option (List ℕ)) → List ℕ → ℕ → Type 0
    Behind lines = Follows front m s x number refused lines

    pub wants : (lines : List (Option (List ℕ))) (status : ℕ) → status ≡ 1 → Behind lines no_memory_text status
    wants [] status is = inl (refl, is)
    wants (line ∷ lines) status is = inl (refl, is)

    pub ends : (status : ℕ) → status ≡ (if refused then 1 else 0) → Behind [] [] status
    ends status is = inr (refl, is)

    pub passes_limit : (status : ℕ) → status ≡ 2 → Behind (None ∷ []) too_long_text status
    passes_limit status is = inr (refl, is)

    pub goes_further : (line shown : List ℕ) (was : Bool) (after : State) (later : Numbers) (lines : List (Option (List ℕ))) (rest : List ℕ) (status : ℕ) → Passes m s x line shown was after later
        → Follows front m after later (number + 1) (refused || was) lines rest status → Behind (Some line ∷ lines) ((fronted front number line ++ shown) ++ rest) status
    goes_further line shown was after later lines rest status passes run =
        inr (passes_next front m s x number refused (λ after later was rest end. Follows front m after later (number + 1) was lines rest end) line shown was after later rest status passes run)

    pub breaks_off : (line shown : List ℕ) (lines : List (Option (List ℕ))) (status : ℕ) → Breaks m s x line number shown status → Behind (Some line ∷ lines) (front number ++ shown) status
    breaks_off line shown lines status breaks =
        inr (breaks_now front m s x number refused (λ after later was rest end. Follows front m after later (number + 1) was lines rest end) line shown status breaks)

  module _ (g : Geometry) (at : Option Life) where
    abbrev pub Told : List (Option (List ℕ)) → List ℕ → ℕ → Type 0
    Told lines = TellsFollowed front g at number refused lines

    pub tells_want : (lines : List (Option (List ℕ))) (status : ℕ) → status ≡ 1 → Told lines no_memory_text status
    tells_want [] status is = inl (refl, is)
    tells_want (line ∷ lines) status is = inl (refl, is)

    pub tells_end : (status : ℕ) → status ≡ (if refused then 1 else 0) → Told [] [] status
    tells_end status is = inr (refl, is)

    pub tells_limit : (status : ℕ) → status ≡ 2 → Told (None ∷ []) too_long_text status
    tells_limit status is = inr (refl, is)

    abbrev Later : List (Option (List ℕ)) → Living
    Later lines after was rest end = TellsFollowed front g after (number + 1) was lines rest end

    pub tells_further : (line text : List ℕ) (was : Bool) (after : Option Life) (lines : List (Option (List ℕ))) (rest : List ℕ) (status : ℕ) → TellsFronted front g at line number text (Goes was) after
        → TellsFollowed front g after (number + 1) (refused || was) lines rest status → Told (Some line ∷ lines) (text ++ rest) status
    tells_further line text was after lines rest status tells run =
        inr (tells_next front g at number refused (Later lines) line text was after rest status tells run)

    pub tells_off : (line text : List ℕ) (after : Option Life) (lines : List (Option (List ℕ))) (status : ℕ) → TellsFronted front g at line number text (Ends status) after → Told (Some line ∷ lines) text status
    tells_off line text after lines status tells =
        inr (tells_now front g at number refused (Later lines) line text status after tells)

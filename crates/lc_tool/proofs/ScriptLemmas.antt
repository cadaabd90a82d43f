-- The lines of a script, one after another.
use Rattle.std.proofs.Common.{◌≡◌, ℕ, Bool, true, false, ◌||◌, ◌==◌, true≢false, List, [], ◌∷◌, ◌++◌, length, Option, Some, None, IfSome, take, refl, sym, ◌∙◌, ap, subst, arith, inl, inr, append_assoc, append-nil, ◌<◌, ◌≤◌, nat_lt, min, le-ltb, lt-ltb}
use Rattle.std.proofs.KnownBytes.{Appends-trans}
use Rattle.std.proofs.lemmas.List.{length-take, take_all}
use Rattle.std.specs.Prelude.{if◌then◌else◌, option_map}
use Rattle.std.specs.Io.KnownBytes.{Appends, Keeps}
use Rattle.std.proofs.Math.Bool.{or-false, or-true}
use Rattle.lc_disk.specs.declared.area.Area.{Ghosts}
use Rattle.lc_record.specs.declared.geometry.Geometry.{Geometry}
use Rattle.lc_model.specs.State.{Setting, State}
use Rattle.lc_core.specs.Lives.{Life}
use Rattle.lc_settled.specs.Numbers.{Numbers}
use Rattle.lc_core.specs.declared.world.World.{World}
use Rattle.lc_text.specs.Line.{asked, command_of, is_skipped, line_of, words}
use Rattle.lc_text.specs.declared.command.Command.{Command}
use Rattle.lc_text.specs.declared.command.Line.TheVariants.{Skipped as IsSkipped, Command as Commanded}
use Rattle.lc_tool.specs.Script.{Front, Going, GoesOn, RestOfScript, Runs, RunsLine}
use Rattle.lc_look.specs.Printed.{Adds}
use Rattle.lc_tool.specs.Tells.{Living, TellsFronted, TellsOne}
use Rattle.lc_tool.specs.Outcome.{GoesBehind, LeavesFronted, LeavesLine, Passes, Breaks, fronted}
use Rattle.lc_tool.specs.declared.outcome.Outcome.{Outcome}
use Rattle.lc_tool.specs.declared.outcome.Outcome.TheVariants.{Goes, Ends}
use Rattle.lc_tool.specs.declared.verdict.Verdict.{Verdict}
use Rattle.lc_tool.specs.declared.verdict.Verdict.TheVariants.{Done, Refused, Faulted}

-- what is read through a limit
pub limited : (o : Option (List ℕ)) (n : ℕ) (read : List ℕ) → IfSome (option_map (take n) o) (λ xs. read ≡ [] ++ xs) → IfSome o (λ all. read ≡ take n all)
limited None n read h = tt
limited (Some all) n read h = h

pub keeps_then : (a b c : Option (List ℕ)) (text : List ℕ) → Keeps a b → Appends b c text → Appends a c text
keeps_then None b c text k p = tt
keeps_then (Some x) None c text k p = absurd k
keeps_then (Some x) (Some y) None text k p = absurd p
keeps_then (Some x) (Some y) (Some z) text k p = p ∙ ap (λ (l : List ℕ). l ++ text) k

pub then_keeps : (a b c : Option (List ℕ)) (text : List ℕ) → Appends a b text → Keeps b c → Appends a c text
then_keeps None b c text p k = tt
then_keeps (Some x) None c text p k = absurd p
then_keeps (Some x) (Some y) None text p k = absurd k
then_keeps (Some x) (Some y) (Some z) text p k = k ∙ p

-- what a line has left, where the writer then keeps what it holds
pub fronted_kept : {D : Type 0} (a : Ghosts D) (front : Front) (old new : World D a) (line : List ℕ) (number : ℕ) (held mid holds : Option (List ℕ)) (outcome : Outcome) → Keeps mid holds
    → LeavesFronted a front old line number held mid outcome new → LeavesFronted a front old line number held holds outcome new
fronted_kept a front old new line number held mid holds (Goes was) keeps leaves = λ m s x fits.
    let led = leaves m s x fits in
    (led.0, led.1, (led.2.0, led.2.1, then_keeps held mid holds (fronted front number line ++ led.2.0) led.2.2 keeps), led.3)
fronted_kept a front old new line number held mid holds (Ends status) keeps leaves = (
  leaves.0,
  λ m s x fits. let led = leaves.1 m s x fits in (led.0, led.1, then_keeps held mid holds (front number ++ led.0) led.2 keeps),
)

-- after the text of a command that lets the script go on
pub goes_on : (next : RestOfScript) (refused : Bool) (verdict : Verdict) (was : Bool) (shown rest : List ℕ) (status : ℕ) → GoesBehind verdict was
    → next (refused || was) rest status → GoesOn next refused shown verdict (shown ++ rest) status
goes_on next refused Done was shown rest status goes run = (rest, refl, subst (λ (b : Bool). next b rest status) (ap (λ (b : Bool). refused || b) goes ∙ or-false refused) run)
goes_on next refused Refused was shown rest status goes run = (rest, refl, subst (λ (b : Bool). next b rest status) (ap (λ (b : Bool). refused || b) goes ∙ or-true refused) run)
goes_on next refused Faulted was shown rest status goes run = absurd goes

-- nothing printed, and nothing refused
skips : (next : RestOfScript) (refused was : Bool) (shown rest : List ℕ) (status : ℕ) → shown ≡ [] → was ≡ false → next (refused || was) rest status → next refused (shown ++ rest) status
skips next refused was shown rest status none not run =
    let here = subst (λ (b : Bool). next b rest status) (ap (λ (b : Bool). refused || b) not ∙ or-false refused) run in
    subst (λ (t : List ℕ). next refused t status) (sym (ap (λ (l : List ℕ). l ++ rest) none)) here

-- A line is skipped just where its bytes say so
skip_of : (byte : ℕ) (command : Option Command) → (if byte == 35 then IsSkipped else asked command) ≡ IsSkipped → (byte == 35) ≡ true
skip_of byte command is = elim (byte == 35) as (λ (b : Bool). (if b then IsSkipped else asked command) ≡ IsSkipped → b ≡ true) [
  | true ↦ λ h. refl
  | false ↦ λ h. absurd (never command h)
] is
  where
    never : (command : Option Command) → asked command ≡ IsSkipped → ⊥
    never None h = absurd cc
    never (Some c) h = absurd cc

pub skipped_so : (line : List ℕ) → line_of line ≡ IsSkipped → is_skipped line ≡ true
unfolding line_of
skipped_so [] is = refl
skipped_so (byte ∷ bytes) is = skip_of byte (command_of (words (byte ∷ bytes))) is

pub skips_so : (line : List ℕ) → is_skipped line ≡ true → line_of line ≡ IsSkipped
unfolding line_of
skips_so [] is = refl
skips_so (byte ∷ bytes) is = rw is refl

not_skipped : (line : List ℕ) → (line_of line ≡ IsSkipped → ⊥) → is_skipped line ≡ false
not_skipped line other = elim (is_skipped line) as (λ (b : Bool). is_skipped line ≡ b → b ≡ false) [
  | true ↦ λ is. absurd (other (skips_so line is))
  | false ↦ λ is. refl
] refl

module _ (front : Front) where
  front_skipped : (number : ℕ) (line : List ℕ) → is_skipped line ≡ true → fronted front number line ≡ []
  front_skipped number line is = ap (λ (b : Bool). if b then [] else front number) is

  front_stands : (number : ℕ) (line : List ℕ) → is_skipped line ≡ false → fronted front number line ≡ front number
  front_stands number line is = ap (λ (b : Bool). if b then [] else front number) is

  module _ (m : Setting) (s : State) (x : Numbers) (number : ℕ) (refused : Bool) (next : Going) where
    -- one line more
    pub passes_next : (line shown : List ℕ) (was : Bool) (after : State) (later : Numbers) (rest : List ℕ) (status : ℕ) → Passes m s x line shown was after later →
        next after later (refused || was) rest status → RunsLine front next m s x number refused line ((fronted front number line ++ shown) ++ rest) status
    passes_next line shown was after later rest status passes run =
        elim passes [
          | inl h ↦
              let from_x = subst (λ (y : Numbers). next after y (refused || was) rest status) h.4 run in
              let from_s = subst (λ (z : State). next z x (refused || was) rest status) h.3 from_x in
              let none : fronted front number line ≡ [] = front_skipped number line (skipped_so line h.0) in
              subst (λ (f : List ℕ). RunsLine front next m s x number refused line ((f ++ shown) ++ rest) status) (sym none)
              (inr (rw h.0 (skips (λ was rest end. next s x was rest end) refused was shown rest status h.1 h.2 from_s)))
          | inr h ↦
              let stands : fronted front number line ≡ front number = front_stands number line (not_skipped line (λ skip. let bad : IsSkipped ≡ Commanded h.1.command = sym skip ∙ h.1.read in cc)) in
              subst (λ (f : List ℕ). RunsLine front next m s x number refused line ((f ++ shown) ++ rest) status) (sym stands)
              (inr (rw h.1.read (shown, h.0, after, later, h.1.done, goes_on (next after later) refused h.0 was (front number ++ shown) rest status h.2 run)))
        ]

    -- the last line
    pub breaks_now : (line shown : List ℕ) (status : ℕ) → Breaks m s x line number shown status → RunsLine front next m s x number refused line (front number ++ shown) status
    breaks_now line shown status breaks =
        elim breaks [
          | inl h ↦ inl (h.0, ap (λ (t : List ℕ). front number ++ t) h.1.0, h.1.1)
          | inr more ↦ elim more [
            | inl h ↦ inr (rw h.0 (ap (λ (t : List ℕ). front number ++ t) h.1, h.2))
            | inr h ↦ inr (rw h.2.read (shown, Faulted, h.0, h.1, h.2.done, (refl, h.3)))
          ]
        ]

  pub runs_end : (m : Setting) (s : State) (x : Numbers) (number : ℕ) (refused : Bool) (status : ℕ) → status ≡ (if refused then 1 else 0) → Runs front m s x number refused [] [] status
  runs_end m s x number refused status is = (refl, is)

  -- the same of any areas
  module _ (g : Geometry) (at : Option Life) (number : ℕ) (refused : Bool) (next : Living) (line text : List ℕ) where
    pub tells_next : (was : Bool) (after : Option Life) (rest : List ℕ) (status : ℕ) → TellsFronted front g at line number text (Goes was) after → next after (refused || was) rest status
        → TellsOne front g next at number refused line (text ++ rest) status
    tells_next was after rest status tells run =
        elim tells [
          | inl h ↦
              let none : was ≡ false = (let same : Goes was ≡ Goes false = h.2 in cc) in
              let stays = subst (λ (life : Option Life). next life (refused || was) rest status) h.3 run in
              inr (rw h.0 (skips (next at) refused was text rest status h.1 none stays))
          | inr h ↦ elim h.1.2 [
            | inl skip ↦ absurd (true≢false (sym (skipped_so line skip.0) ∙ h.0))
            | inr done ↦ subst (λ (t : List ℕ). TellsOne front g next at number refused line (t ++ rest) status) (sym h.1.1)
                (inr (rw done.2 (h.1.0, done.1, after, done.3, goes_on (next after) refused done.1 was (front number ++ h.1.0) rest status done.4 run)))
          ]
        ]

    pub tells_now : (status : ℕ) (after : Option Life) → TellsFronted front g at line number text (Ends status) after → TellsOne front g next at number refused line text status
    tells_now status after tells =
        elim tells [
          | inl h ↦ absurd (let bad : Ends status ≡ Goes false = h.2 in cc)
          | inr h ↦ subst (λ (t : List ℕ). TellsOne front g next at number refused line t status) (sym h.1.1)
              (elim h.1.2 [
                | inl none ↦ inl (ap (λ (t : List ℕ). front number ++ t) none.0.0, none.0.1)
                | inr more ↦ elim more [
                  | inl not ↦ inr (rw not.0 (ap (λ (t : List ℕ). front number ++ t) not.1, not.2))
                  | inr fault ↦ inr (rw fault.1 (h.1.0, Faulted, after, fault.2, (refl, fault.3)))
                ]
              ])
        ]

pub adds_nothing : (held : Option (List ℕ)) → Appends held held []
adds_nothing None = tt
adds_nothing (Some xs) = sym (append-nil xs)

-- what a line has left, after what stands in front of it
module _ {D : Type 0} (a : Ghosts D) (front : Front) (old new : World D a) (line : List ℕ) (number : ℕ) (held mid holds : Option (List ℕ)) where
  pub fronts : (outcome : Outcome) → is_skipped line ≡ false → Appends held mid (front number) → LeavesLine a old line number mid holds outcome new → LeavesFronted a front old line number held holds outcome new
  fronts (Goes was) stands shown leaves = λ m s x fits.
      let led = leaves m s x fits in
      let all : Appends held holds (fronted front number line ++ led.2.0) =
      subst (λ (f : List ℕ). Appends held holds (f ++ led.2.0)) (sym (front_stands front number line stands)) (Appends-trans held mid holds (front number) led.2.0 shown led.2.2) in
      (led.0, led.1, (led.2.0, led.2.1, all), led.3)
  fronts (Ends status) stands shown leaves = (
    stands,
    λ m s x fits. let led = leaves m s x fits in (led.0, led.1, Appends-trans held mid holds (front number) led.0 shown led.2),
  )

  -- a line that is skipped
  pub skips_line : is_skipped line ≡ true → LeavesFronted a front old line number held held (Goes false) old
  skips_line is = λ m s x fits. (s, x, ([], inl (skips_so line is, refl, refl, refl, refl), subst (λ (f : List ℕ). Appends held held (f ++ [])) (sym (front_skipped front number line is)) (adds_nothing held)), fits)

-- The lines so far: whatever the others print from here on, all of them print after what was printed.
pub record SoFar (Whole Behind : List ℕ → ℕ → Type 0) (held holds : Option (List ℕ)) : Type 0 where
  pub text : List ℕ
  pub printed : Appends held holds text
  pub others : (after : List ℕ) (status : ℕ) → Behind after status → Whole (text ++ after) status

module _ (Whole : List ℕ → ℕ → Type 0) (held : Option (List ℕ)) where
  pub at_first : SoFar Whole Whole held held
  at_first = record { text = []; printed = adds_nothing held; others = λ after status run. run }

  module _ (Behind : List ℕ → ℕ → Type 0) (mid holds : Option (List ℕ)) (so_far : SoFar Whole Behind held mid) (shown : List ℕ) (printed : Appends mid holds shown) where
    -- one line more
    pub further : (Later : List ℕ → ℕ → Type 0) → ((after : List ℕ) (status : ℕ) → Later after status → Behind (shown ++ after) status) → SoFar Whole Later held holds
    further Later goes = record {
      text = so_far.text ++ shown;
      printed = Appends-trans held mid holds so_far.text shown so_far.printed printed;
      others = λ after status run. subst (λ (t : List ℕ). Whole t status) (sym (append_assoc so_far.text shown after)) (so_far.others (shown ++ after) status (goes after status run));
    }

    -- the last one
    pub to_end : (status : ℕ) → Behind shown status → Adds Whole held holds status
    to_end status ends = (so_far.text ++ shown, so_far.others shown status ends, Appends-trans held mid holds so_far.text shown so_far.printed printed)

  -- after the last one
  pub over : (Behind : List ℕ → ℕ → Type 0) (holds : Option (List ℕ)) (status : ℕ) → SoFar Whole Behind held holds → Behind [] status → Adds Whole held holds status
  over Behind holds status so_far ends = (so_far.text, subst (λ (t : List ℕ). Whole t status) (append-nil so_far.text) (so_far.others [] status ends), so_far.printed)

pub some_weaker : {A : Type 0} (o : Option A) (P Q : A → Type 0) → ((x : A) → P x → Q x) → IfSome o P → IfSome o Q
some_weaker None P Q f h = tt
some_weaker (Some x) P Q f h = f x h

-- a script that is read whole, and one that is too long
pub whole_script : (all script : List ℕ) → script ≡ take 1048577 all → length script ≤ 1048576 → (nat_lt 1048576 (length all) ≡ false) × (script ≡ all)
whole_script all script read short =
    let long : length script ≡ min 1048577 (length all) = ap length read ∙ length-take 1048577 all in
    let few : length all ≤ 1048576 = omega (arith, long, short) in
    (le-ltb 1048576 (length all) few, read ∙ take_all 1048577 all (omega (arith, few)))

pub long_script : (all script : List ℕ) → script ≡ take 1048577 all → 1048576 < length script → nat_lt 1048576 (length all) ≡ true
long_script all script read long =
    let count : length script ≡ min 1048577 (length all) = ap length read ∙ length-take 1048577 all in
    lt-ltb 1048576 (length all) (omega (arith, count, long))

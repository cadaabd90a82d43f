-- A file on which the last call of an area is made holds what the area holds.
use Rattle.std.proofs.Common.{◌≡◌, ℕ, ◌+◌, Bool, List, ◌++◌, length, take, drop, Option, None, Some, refl, sym, ap, ◌∙◌, inl, inr, arith}
use Rattle.std.proofs.lemmas.Bool.{cases_lt}
use Rattle.std.proofs.lemmas.List.{append_assoc, drop-drop, drop_all, length-drop, length-take-le, take-append-drop, take_all}
use Rattle.lc_disk.specs.Area.{IsSameOutside, overlaid}
use Rattle.lc_c.specs.MirrorArea.{IsSync, IsWrite}
use Rattle.lc_c.specs.Mirrors.{called}
use Rattle.lc_c.specs.declared.area_call.AreaCall.{AreaCall}
use Rattle.lc_c.specs.declared.area_call.AreaCall.TheVariants.{Sync, Write}

-- after the bytes that there are all is as it is after as many as were asked for
behind : (at len : ℕ) (before now : List ℕ) → length now ≡ length before → drop (at + length (take len (drop at now))) before ≡ drop (at + len) before
behind at len before now same = elim (cases_lt (length now) (at + len)) [
  | inl short ↦ let rest = length-drop at now in let all = ap (λ (l : List ℕ). length l) (take_all len (drop at now) (omega (arith, rest, short))) in
      drop_all (at + length (take len (drop at now))) before (omega (arith, rest, all, same)) ∙ sym (drop_all (at + len) before (omega (arith, short, same)))
  | inr room ↦ ap (λ (n : ℕ). drop (at + n) before) (length-take-le len (drop at now) (omega (arith, length-drop at now, room)))
]

laid : (at len : ℕ) (before now : List ℕ) → IsSameOutside at len before now → overlaid before at (take len (drop at now)) ≡ now
laid at len before now same =
    let bytes = take len (drop at now) in
    ap (λ (l : List ℕ). take at before ++ bytes ++ l) (behind at len before now same.same_length ∙ sym same.after ∙ sym (drop-drop len at now))
    ∙ ap (λ (l : List ℕ). l ++ bytes ++ drop len (drop at now)) (sym same.before)
    ∙ append_assoc (take at now) bytes (drop len (drop at now))
    ∙ ap (λ (l : List ℕ). take at now ++ l) (take-append-drop len (drop at now)) ∙ take-append-drop at now

pub mirrors : (last : Option AreaCall) (before now : List ℕ) (dirty : ℕ → Bool) → (last ≡ None → now ≡ before)
    → ((at len : ℕ) → last ≡ Some (Write at len) → IsWrite at len before now dirty) → (last ≡ Some Sync → IsSync before now dirty)
    → called last before now ≡ now
mirrors None before now dirty none write sync = sym (none refl)
mirrors (Some (Write at len)) before now dirty none write sync = laid at len before now (write at len refl).elsewhere
mirrors (Some Sync) before now dirty none write sync = sym (sync refl).same

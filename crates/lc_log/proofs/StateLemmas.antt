-- What the images of each state are, and how a device call leads from one state to the next.
use Rattle.std.proofs.Common.{◌≡◌, ◌≢◌, ℕ, suc, ◌+◌, ◌*◌, ◌<◌, ◌%◌, Bool, false, List, [], ◌∷◌, ◌++◌, length, get_or, drop, refl, sym, ◌∙◌, ap, subst, inl, inr, arith, append_assoc, length-append}
use Rattle.std.proofs.lemmas.Bool.{cases_eq, cases_lt}
use Rattle.std.specs.Int.{w64, to_le_bytes}
use Rattle.std.specs.List.{AllByRecursion}
use Rattle.lc_disk.specs.Area.{IsImage, IsSameOutside, BecomeDirty, IsClean, overlaid}
use Rattle.lc_disk.proofs.Overlaid.{overlaid_behind}
use Rattle.lc_disk.proofs.Images.{Behind, behind_clean, FirstByte, only_first, torn_behind, torn_byte}
use Rattle.lc_record.specs.Words.{words_of, bytes_of}
use Rattle.lc_record.specs.declared.record.Record.{Record}
use Rattle.lc_record.proofs.WordLemmas.{bytes_of-append, length-bytes_of}
use Rattle.lc_log.specs.LogText.{IsWhole, IsLogText, joined}
use Rattle.lc_log.specs.NodeLog.{IsGroup, behind_gate, IsAtRest, IsStaged, IsOpening, EachImage, IsWithOrWithout}
use Rattle.lc_log.proofs.LogLemmas.{closed_text, joined-append, whole-append}

-- a group's first byte is its open gate

first_byte : (w : ℕ) (rest : List ℕ) → w % 256 ≡ 165 → to_le_bytes w64 w ++ rest ≡ 165 ∷ drop 1 (to_le_bytes w64 w ++ rest)
first_byte w rest gate = ap (λ (n : ℕ). n ∷ drop 1 (to_le_bytes w64 w ++ rest)) gate

pub group_gate : (group : List Record) → 0 < length group → bytes_of (joined group) ≡ 165 ∷ behind_gate group
group_gate [] some = absurd (omega arith)
group_gate (r ∷ rs) some = first_byte _ _ (omega arith)

pub length-behind_gate : (group : List Record) → 0 < length group → length (behind_gate group) + 1 ≡ 8 * length (joined group)
length-behind_gate group some = omega (arith, ap (λ (l : List ℕ). length l) (group_gate group some), length-bytes_of (joined group))

-- a group and its zero word, after the first gate
group_tail : (group : List Record) → 0 < length group → drop 1 (bytes_of (joined group ++ 0 ∷ [])) ≡ behind_gate group ++ bytes_of (0 ∷ [])
group_tail group some =
    ap (λ (l : List ℕ). drop 1 l) (bytes_of-append (joined group) (0 ∷ []) ∙ ap (λ (l : List ℕ). l ++ bytes_of (0 ∷ [])) (group_gate group some))

-- the bytes with the gate open
open_bytes : (stable group : List Record) (next_gate : ℕ) (after : List ℕ) → 0 < length group
    → bytes_of (joined stable) ++ 165 ∷ (behind_gate group ++ next_gate ∷ after) ≡ bytes_of (joined (stable ++ group)) ++ next_gate ∷ after
open_bytes stable group next_gate after some =
    let both : bytes_of (joined (stable ++ group)) ≡ bytes_of (joined stable) ++ bytes_of (joined group) =
    ap bytes_of (joined-append stable group) ∙ bytes_of-append (joined stable) (joined group) in
    ap (λ (l : List ℕ). bytes_of (joined stable) ++ (l ++ next_gate ∷ after)) (sym (group_gate group some))
    ∙ sym (append_assoc (bytes_of (joined stable)) (bytes_of (joined group)) (next_gate ∷ after))
    ∙ ap (λ (l : List ℕ). l ++ next_gate ∷ after) (sym both)

-- the stable records and a group, and then a closed gate
open_text : (stable group : List Record) (next_gate : ℕ) (after : List ℕ) → AllByRecursion IsWhole stable → AllByRecursion IsWhole group → 0 < length group → next_gate % 256 ≢ 165
    → IsLogText (words_of (bytes_of (joined stable) ++ 165 ∷ (behind_gate group ++ next_gate ∷ after))) (stable ++ group)
open_text stable group next_gate after is are some closed =
    subst (λ (l : List ℕ). IsLogText (words_of l) (stable ++ group)) (sym (open_bytes stable group next_gate after some))
    (closed_text (stable ++ group) next_gate after (whole-append stable group is are) closed)

-- each image in each state

pub rest_image : (now : List ℕ) (dirty : ℕ → Bool) (end : ℕ) (stable : List Record) → IsAtRest now dirty end stable → EachImage now dirty (λ words. IsLogText words stable)
rest_image now dirty end stable rest image is =
    let texts = bytes_of (joined stable) in
    let front = texts ++ rest.gate ∷ [] in
    let long : length texts ≡ 8 * end = omega (arith, length-bytes_of (joined stable), rest.size) in
    let split : now ≡ front ++ rest.behind = rest.text ∙ sym (append_assoc texts (rest.gate ∷ []) rest.behind) in
    let is_split : IsImage (front ++ rest.behind) dirty image = subst (λ (l : List ℕ). IsImage l dirty image) split is in
    let parts : Behind front rest.behind dirty image =
    behind_clean front rest.behind dirty image is_split (λ k h. rest.clean k (omega (arith, long, length-append texts (rest.gate ∷ [])))) in
    let whole : image ≡ texts ++ rest.gate ∷ parts.rest = parts.text ∙ append_assoc texts (rest.gate ∷ []) parts.rest in
    subst (λ (l : List ℕ). IsLogText (words_of l) stable) (sym whole) (closed_text stable rest.gate parts.rest rest.whole rest.closed)

pub opening_image : (gate : ℕ) (now : List ℕ) (dirty : ℕ → Bool) (end words : ℕ) (stable group : List Record) → IsOpening gate now dirty end words stable group
    → EachImage now dirty (IsWithOrWithout stable group)
opening_image gate now dirty end words stable group opening image is =
    let texts = bytes_of (joined stable) in
    let mid = behind_gate group ++ opening.next_gate ∷ [] in
    let long : length texts ≡ 8 * end = omega (arith, length-bytes_of (joined stable), opening.stable_size) in
    let wide : length mid ≡ 8 * words = omega (arith, length-behind_gate group opening.some, opening.size, length-append (behind_gate group) (opening.next_gate ∷ [])) in
    let split : now ≡ texts ++ gate ∷ (mid ++ opening.after) = opening.text ∙ ap (λ (l : List ℕ). texts ++ gate ∷ l) (sym (append_assoc (behind_gate group) (opening.next_gate ∷ []) opening.after)) in
    let is_split : IsImage (texts ++ gate ∷ (mid ++ opening.after)) dirty image = subst (λ (l : List ℕ). IsImage l dirty image) split is in
    let parts : Behind texts (gate ∷ (mid ++ opening.after)) dirty image =
    behind_clean texts (gate ∷ (mid ++ opening.after)) dirty image is_split (λ k h. opening.clean k (omega (arith, long, h)) (omega (arith, long, h))) in
    let first : FirstByte mid opening.after (λ k. dirty (length texts + k)) parts.rest =
    only_first gate mid opening.after (λ k. dirty (length texts + k)) parts.rest parts.is_image (λ k h. opening.clean (length texts + suc k) (omega (arith, long, wide, h)) (omega (arith, long))) in
    let back = behind_gate group ++ opening.next_gate ∷ first.rest in
    let whole : image ≡ texts ++ first.byte ∷ back =
    parts.text ∙ ap (λ (l : List ℕ). texts ++ l) first.text ∙ ap (λ (l : List ℕ). texts ++ first.byte ∷ l) (append_assoc (behind_gate group) (opening.next_gate ∷ []) first.rest) in
    let each : (byte : ℕ) → byte < 256 → IsWithOrWithout stable group (words_of (texts ++ byte ∷ back)) = λ byte small. elim (cases_eq byte 165) [
      | inl is_open ↦ inr (subst (λ (n : ℕ). IsLogText (words_of (texts ++ n ∷ back)) (stable ++ group)) (sym is_open)
          (open_text stable group opening.next_gate first.rest opening.stable_whole opening.whole opening.some opening.next_closed))
      | inr other ↦ inl (closed_text stable byte back opening.stable_whole (λ e. other (omega (arith, small, e))))
    ] in
    subst (λ (l : List ℕ). IsWithOrWithout stable group (words_of l)) (sym whole) (each first.byte first.fits)

-- from state to state

clean_but : (dirty soiled : ℕ → Bool) (n : ℕ) → IsClean dirty → BecomeDirty n 1 dirty soiled → (k : ℕ) → k ≢ n → soiled k ≡ false
clean_but dirty soiled n clean soils k other = elim (cases_lt k n) [
  | inl below ↦ soils.before k below ∙ clean k
  | inr above ↦ soils.after k (omega (arith, other)) ∙ clean k
]

module _ (now next : List ℕ) (dirty soiled : ℕ → Bool) (end : ℕ) (stable : List Record) where
  pub write_failed : (n : ℕ) → IsAtRest now dirty end stable → IsSameOutside (8 * end + 1) n now next → BecomeDirty (8 * end + 1) n dirty soiled → IsAtRest next soiled end stable
  write_failed n rest same soils =
      let texts = bytes_of (joined stable) in
      let front = texts ++ rest.gate ∷ [] in
      let long : length front ≡ 8 * end + 1 = omega (arith, length-bytes_of (joined stable), rest.size, length-append texts (rest.gate ∷ [])) in
      let split : now ≡ front ++ rest.behind = rest.text ∙ sym (append_assoc texts (rest.gate ∷ []) rest.behind) in
      let same_split : IsSameOutside (8 * end + 1) n (front ++ rest.behind) next = subst (λ (l : List ℕ). IsSameOutside (8 * end + 1) n l next) split same in
      record {
        gate = rest.gate;
        behind = drop (8 * end + 1) next;
        text = torn_behind front rest.behind next (8 * end + 1) n long same_split ∙ append_assoc texts (rest.gate ∷ []) (drop (8 * end + 1) next);
        closed = rest.closed;
        whole = rest.whole;
        size = rest.size;
        clean = λ k h. soils.before k h ∙ rest.clean k h;
      }

  -- `laid` are the bytes of a group and a zero word, but for the first
  pub write_done : (words laid : List ℕ) (group : List Record) → IsAtRest now dirty end stable → IsGroup words group
      → laid ≡ drop 1 (bytes_of (words ++ 0 ∷ [])) → next ≡ overlaid now (8 * end + 1) laid → BecomeDirty (8 * end + 1) (length laid) dirty soiled
      → IsStaged next soiled end (length words) stable group
  write_done words laid group rest is lays lies soils =
      let texts = bytes_of (joined stable) in
      let front = texts ++ rest.gate ∷ [] in
      let long : length front ≡ 8 * end + 1 = omega (arith, length-bytes_of (joined stable), rest.size, length-append texts (rest.gate ∷ [])) in
      let split : now ≡ front ++ rest.behind = rest.text ∙ sym (append_assoc texts (rest.gate ∷ []) rest.behind) in
      let the_group : laid ≡ behind_gate group ++ bytes_of (0 ∷ []) = lays ∙ ap (λ (l : List ℕ). drop 1 (bytes_of (l ++ 0 ∷ []))) is.text ∙ group_tail group is.some in
      let after = drop (length laid) rest.behind in
      let zeros = 0 ∷ 0 ∷ 0 ∷ 0 ∷ 0 ∷ 0 ∷ 0 ∷ after in
      record {
        at_rest = record {
          gate = rest.gate;
          behind = behind_gate group ++ 0 ∷ zeros;
          text = lies ∙ ap (λ (l : List ℕ). overlaid l (8 * end + 1) laid) split ∙ overlaid_behind front rest.behind laid (8 * end + 1) long
              ∙ ap (λ (l : List ℕ). front ++ (l ++ after)) the_group ∙ ap (λ (l : List ℕ). front ++ l) (append_assoc (behind_gate group) (bytes_of (0 ∷ [])) after) ∙ append_assoc texts (rest.gate ∷ []) (behind_gate group ++ 0 ∷ zeros);
          closed = rest.closed;
          whole = rest.whole;
          size = rest.size;
          clean = λ k h. soils.before k h ∙ rest.clean k h;
        };
        next_gate = 0;
        after = zeros;
        behind = refl;
        next_closed = λ z. absurd (omega (arith, z));
        whole = is.whole;
        some = is.some;
        size = ap (λ (l : List ℕ). length l) (sym is.text);
      }

  module _ (words : ℕ) (group : List Record) where
    pub gate_failed : IsStaged now dirty end words stable group → IsClean dirty → IsSameOutside (8 * end) 1 now next → BecomeDirty (8 * end) 1 dirty soiled
        → IsOpening (get_or next (8 * end) 0) next soiled end words stable group
    gate_failed staged clean same soils =
        let rest = staged.at_rest in
        let texts = bytes_of (joined stable) in
        let long : length texts ≡ 8 * end = omega (arith, length-bytes_of (joined stable), rest.size) in
        let split : now ≡ texts ++ rest.gate ∷ (behind_gate group ++ staged.next_gate ∷ staged.after) = rest.text ∙ ap (λ (l : List ℕ). texts ++ rest.gate ∷ l) staged.behind in
        let same_split : IsSameOutside (8 * end) 1 (texts ++ rest.gate ∷ (behind_gate group ++ staged.next_gate ∷ staged.after)) next = subst (λ (l : List ℕ). IsSameOutside (8 * end) 1 l next) split same in
        record {
          next_gate = staged.next_gate;
          after = staged.after;
          text = torn_byte texts rest.gate (behind_gate group ++ staged.next_gate ∷ staged.after) next (8 * end) long same_split;
          next_closed = staged.next_closed;
          stable_whole = rest.whole;
          whole = staged.whole;
          some = staged.some;
          stable_size = rest.size;
          size = staged.size;
          clean = λ k _. clean_but dirty soiled (8 * end) clean soils k;
        }

    pub gate_done : IsStaged now dirty end words stable group → IsClean dirty → next ≡ overlaid now (8 * end) (165 ∷ []) → BecomeDirty (8 * end) 1 dirty soiled
        → IsOpening 165 next soiled end words stable group
    gate_done staged clean lies soils =
        let rest = staged.at_rest in
        let texts = bytes_of (joined stable) in
        let long : length texts ≡ 8 * end = omega (arith, length-bytes_of (joined stable), rest.size) in
        let split : now ≡ texts ++ rest.gate ∷ (behind_gate group ++ staged.next_gate ∷ staged.after) = rest.text ∙ ap (λ (l : List ℕ). texts ++ rest.gate ∷ l) staged.behind in
        record {
          next_gate = staged.next_gate;
          after = staged.after;
          text = lies ∙ ap (λ (l : List ℕ). overlaid l (8 * end) (165 ∷ [])) split ∙ overlaid_behind texts (rest.gate ∷ (behind_gate group ++ staged.next_gate ∷ staged.after)) (165 ∷ []) (8 * end) long;
          next_closed = staged.next_closed;
          stable_whole = rest.whole;
          whole = staged.whole;
          some = staged.some;
          stable_size = rest.size;
          size = staged.size;
          clean = λ k _. clean_but dirty soiled (8 * end) clean soils k;
        }

    pub group_flushed : IsOpening 165 now dirty end words stable group → IsClean soiled → IsAtRest now soiled (end + words) (stable ++ group)
    group_flushed opening clean = record {
      gate = opening.next_gate;
      behind = opening.after;
      text = opening.text ∙ open_bytes stable group opening.next_gate opening.after opening.some;
      closed = opening.next_closed;
      whole = whole-append stable group opening.stable_whole opening.whole;
      size = omega (arith, ap (λ (l : List ℕ). length l) (joined-append stable group), length-append (joined stable) (joined group), opening.stable_size, opening.size);
      clean = λ k h. clean k;
    }

-- a sync keeps what is read, and makes no position dirty

module _ (now next : List ℕ) (dirty later : ℕ → Bool) (end : ℕ) (stable : List Record) (same : next ≡ now) (kept : (k : ℕ) → dirty k ≡ false → later k ≡ false) where
  pub rest_kept : IsAtRest now dirty end stable → IsAtRest next later end stable
  rest_kept rest = record {
    gate = rest.gate;
    behind = rest.behind;
    text = same ∙ rest.text;
    closed = rest.closed;
    whole = rest.whole;
    size = rest.size;
    clean = λ k h. kept k (rest.clean k h);
  }

  pub staged_kept : (words : ℕ) (group : List Record) → IsStaged now dirty end words stable group → IsStaged next later end words stable group
  unfolding rest_kept
  staged_kept words group staged = record {
    at_rest = rest_kept staged.at_rest;
    next_gate = staged.next_gate;
    after = staged.after;
    behind = staged.behind;
    next_closed = staged.next_closed;
    whole = staged.whole;
    some = staged.some;
    size = staged.size;
  }

  pub opening_kept : (gate words : ℕ) (group : List Record) → IsOpening gate now dirty end words stable group → IsOpening gate next later end words stable group
  opening_kept gate words group opening = record {
    next_gate = opening.next_gate;
    after = opening.after;
    text = same ∙ opening.text;
    next_closed = opening.next_closed;
    stable_whole = opening.stable_whole;
    whole = opening.whole;
    some = opening.some;
    stable_size = opening.stable_size;
    size = opening.size;
    clean = λ k h other. kept k (opening.clean k h other);
  }

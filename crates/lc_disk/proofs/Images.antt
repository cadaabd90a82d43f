-- Images of an area, also of one whose front is stable, and what a call leaves after such a front.
use Rattle.std.proofs.Common.{◌≡◌, ℕ, suc, ◌+◌, ◌<◌, Bool, false, List, [], ◌∷◌, ◌++◌, length, get_or, take, drop, refl, sym, ◌∙◌, ap, arith, length-append, length-drop, take-append-drop, get_or-take, get_or-drop}
use Rattle.std.proofs.lemmas.List.{ext_get_or, get_or_append_left, get_or-append-add, take_at, drop_at, drop-drop, length-take-le, drop_more}
use Rattle.lc_disk.specs.Area.{IsImage, IsSameOutside, IsClean}

-- an image of an image is one
pub image_again : (now : List ℕ) (dirty : ℕ → Bool) (image other : List ℕ) → IsImage now dirty image → IsImage image dirty other → IsImage now dirty other
image_again now dirty image other is again = record {
  same_length = again.same_length ∙ is.same_length;
  bytes = again.bytes;
  stable = λ k clean. again.stable k clean ∙ is.stable k clean;
}

-- what keeps the reads, and makes nothing dirty, leaves no new image
pub image_kept : (now later : List ℕ) (dirty soiled : ℕ → Bool) → later ≡ now → ((k : ℕ) → dirty k ≡ false → soiled k ≡ false)
    → (image : List ℕ) → IsImage later soiled image → IsImage now dirty image
image_kept now later dirty soiled same kept image is = record {
  same_length = is.same_length ∙ ap (λ (l : List ℕ). length l) same;
  bytes = is.bytes;
  stable = λ k clean. is.stable k (kept k clean) ∙ ap (λ (l : List ℕ). get_or l k 0) same;
}

-- where nothing is dirty, an image is what is read
pub image_clean : (now : List ℕ) (dirty : ℕ → Bool) → IsClean dirty → (image : List ℕ) → IsImage now dirty image → image ≡ now
image_clean now dirty clean image is = ext_get_or 0 image now is.same_length (λ k h. is.stable k (clean k))

-- bytes are one of their own images
pub image_own : (now : List ℕ) (dirty : ℕ → Bool) → ((k : ℕ) → get_or now k 0 < 256) → IsImage now dirty now
image_own now dirty fits = record { same_length = refl; bytes = fits; stable = λ k clean. refl }

-- an image that begins with this front, and goes on with an image of what stands after it
pub record Behind (front back : List ℕ) (dirty : ℕ → Bool) (image : List ℕ) : Type 0 where
  pub rest : List ℕ
  pub text : image ≡ front ++ rest
  pub is_image : IsImage back (λ k. dirty (length front + k)) rest

module _ (front back : List ℕ) (dirty : ℕ → Bool) (image : List ℕ) (is : IsImage (front ++ back) dirty image) where
  front_same : ((k : ℕ) → k < length front → dirty k ≡ false) → take (length front) image ≡ front
  front_same clean =
      let long : length image ≡ length front + length back = is.same_length ∙ length-append front back in
      let taken : length (take (length front) image) ≡ length front = length-take-le (length front) image (omega arith) in
      ext_get_or 0 (take (length front) image) front taken (λ i h.
      let below : i < length front = omega arith in
      get_or-take (length front) image i 0 below ∙ is.stable i (clean i below) ∙ get_or_append_left front back 0 i below)

  -- a front that is clean stands in each image
  pub behind_clean : ((k : ℕ) → k < length front → dirty k ≡ false) → Behind front back dirty image
  behind_clean clean = record {
    rest = drop (length front) image;
    text = sym (take-append-drop (length front) image) ∙ ap (λ (l : List ℕ). l ++ drop (length front) image) (front_same clean);
    is_image = record {
      same_length = omega (arith, is.same_length, length-append front back, length-drop (length front) image);
      bytes = λ k. rw (get_or-drop) (is.bytes (length front + k));
      stable = λ k h. get_or-drop (length front) image k 0 ∙ is.stable (length front + k) h ∙ get_or-append-add front back k 0;
    };
  }

-- an image whose first byte may be any, and then some bytes stand
pub record FirstByte (mid back : List ℕ) (dirty : ℕ → Bool) (image : List ℕ) : Type 0 where
  pub byte : ℕ
  pub rest : List ℕ
  pub text : image ≡ byte ∷ (mid ++ rest)
  pub fits : byte < 256
  pub is_image : IsImage back (λ k. dirty (suc (length mid + k))) rest

-- of the first bytes only the very first may be dirty, as with a gate and what stands after it
pub only_first : (x : ℕ) (mid back : List ℕ) (dirty : ℕ → Bool) (image : List ℕ) → IsImage (x ∷ (mid ++ back)) dirty image
    → ((k : ℕ) → k < length mid → dirty (suc k) ≡ false) → FirstByte mid back dirty image
only_first x mid back dirty [] is clean = absurd (omega (arith, is.same_length))
only_first x mid back dirty (y ∷ ys) is clean =
    let later : IsImage (mid ++ back) (λ k. dirty (suc k)) ys = record {
      same_length = omega (arith, is.same_length);
      bytes = λ k. is.bytes (suc k);
      stable = λ k h. is.stable (suc k) h;
    } in
    let parts : Behind mid back (λ k. dirty (suc k)) ys = behind_clean mid back (λ k. dirty (suc k)) ys later clean in
    record { byte = y; rest = parts.rest; text = ap (λ (l : List ℕ). y ∷ l) parts.text; fits = is.bytes 0; is_image = parts.is_image }

-- a torn write after a front leaves the front
pub torn_behind : (front back new : List ℕ) (n k : ℕ) → length front ≡ n → IsSameOutside n k (front ++ back) new → new ≡ front ++ drop n new
torn_behind front back new n k long same = sym (take-append-drop n new) ∙ ap (λ (l : List ℕ). l ++ drop n new) (same.before ∙ take_at front back n long)

-- a torn write of one byte leaves all but this byte
pub torn_byte : (front : List ℕ) (x : ℕ) (back new : List ℕ) (n : ℕ) → length front ≡ n → IsSameOutside n 1 (front ++ x ∷ back) new → new ≡ front ++ get_or new n 0 ∷ back
torn_byte front x back new n long same =
    let total : length new ≡ length front + suc (length back) = same.same_length ∙ length-append front (x ∷ back) in
    let behind : drop (n + 1) (front ++ x ∷ back) ≡ back =
    sym (drop-drop 1 n (front ++ x ∷ back)) ∙ ap (λ (l : List ℕ). drop 1 l) (drop_at front (x ∷ back) n long) in
    torn_behind front (x ∷ back) new n 1 long same
    ∙ ap (λ (l : List ℕ). front ++ l) (drop_more new n 0 (omega arith))
    ∙ ap (λ (l : List ℕ). front ++ get_or new n 0 ∷ l) (same.after ∙ behind)

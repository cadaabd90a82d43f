-- The token notes one after another that its dirty pages are written.
use Rattle.std.proofs.Common.{◌≡◌, ◌≢◌, ◌⊎◌, ℕ, ◌+◌, ◌<◌, ◌≤◌, true, false, List, Option, Some, None, length, refl, sym, ap, subst, ◌∙◌, inl, inr, arith, true≢false, get_or-set_other, get_or-set_same, length-set}
use Rattle.std.specs.Prelude.{◌^◌, IsSomeAnd, max}
use Rattle.std.proofs.lemmas.Bool.{cases_eq, cases_lt, le-ltb}
use Rattle.lc_disk.specs.declared.area.Area.{Ghosts}
use Rattle.lc_page.specs.PageVector.{entry_at, is_dirty, no_entry, settled}
use Rattle.lc_page.specs.declared.page_entry.PageEntry.{PageEntry}
use Rattle.lc_token.specs.Token.{IsReached, IsWritten}
use Rattle.lc_token.specs.declared.token.Token.{Token}
use Rattle.lc_segments.specs.Pages.{AreWritten, FitsPage, FitsToken, IsCleanNow, entry_after}
use Rattle.lc_segments.specs.Writes.{AreOver}
use Rattle.lc_segments.proofs.UnderWay.{after_clean, after_dirty, by_dirty}

-- how far `clean` has come once it is noted that the dirty pages in front of this one are written
pub record ReachesClean (old new : Token) (front : ℕ) : Type 0 where
  pub page : ℕ
  pub in_front : page < front
  pub dirty : is_dirty (entry_at old.pages page) ≡ true
  pub reached : ℕ
  pub is_reached : IsReached old.seq new.pages reached
  pub low : reached ≤ new.clean
  pub clean : max new.clean old.seq ≡ max old.clean old.seq

-- the token, once it is noted that the dirty pages in front of this one are written
pub record AreNoted (old new : Token) (front : ℕ) : Type 0 where
  pub same_segment : new.segment ≡ old.segment
  pub same_seq : new.seq ≡ old.seq
  pub same_count : length new.pages ≡ length old.pages
  pub noted : (page : ℕ) → page < front → page < length old.pages → entry_at new.pages page ≡ entry_after old page
  pub behind : (page : ℕ) → front ≤ page → entry_at new.pages page ≡ entry_at old.pages page
  pub clean : (((page : ℕ) → page < front → is_dirty (entry_at old.pages page) ≡ false) × (new.clean ≡ old.clean)) ⊎ ReachesClean old new front

-- What the entry of a page says once it was written, if it was dirty

after_free : (token : Token) (page : ℕ) → (entry_after token page).uncommitted ≡ (entry_at token.pages page).uncommitted
after_free token page = by_dirty (λ (e : PageEntry). e.uncommitted ≡ (entry_at token.pages page).uncommitted) (entry_at token.pages page) token.seq (λ dirty. refl) (λ clean. refl)

after_touched : (token : Token) (page : ℕ) → (entry_after token page).touched ≡ (entry_at token.pages page).touched
after_touched token page = by_dirty (λ (e : PageEntry). e.touched ≡ (entry_at token.pages page).touched) (entry_at token.pages page) token.seq (λ dirty. refl) (λ clean. refl)

after_stable : (token : Token) (page : ℕ) → (entry_at token.pages page).stable ≤ token.seq → (entry_after token page).stable ≤ token.seq
after_stable token page low = by_dirty (λ (e : PageEntry). e.stable ≤ token.seq) (entry_at token.pages page) token.seq (λ dirty. omega arith) (λ clean. low)

after_is_clean : (token : Token) (page : ℕ) → (entry_at token.pages page).touched ≤ token.seq → is_dirty (entry_after token page) ≡ false
after_is_clean token page low = by_dirty (λ (e : PageEntry). is_dirty e ≡ false) (entry_at token.pages page) token.seq (λ dirty. le-ltb token.seq (entry_at token.pages page).touched low) (λ clean. clean)

-- A token that stands at a place

pub its_token : (o : Option Token) (P : Token → Type 0) → IsSomeAnd o P → (token : Token) × (o ≡ Some token) × P token
its_token None P some = absurd some
its_token (Some token) P some = (token, refl, some)

pub with_token : (o : Option Token) (P Q : Token → Type 0) → ((token : Token) → P token → Q token) → IsSomeAnd o P → IsSomeAnd o Q
with_token None P Q goes some = some
with_token (Some token) P Q goes some = goes token some

pub same_token : (o : Option Token) (one two : Token) → o ≡ Some one → o ≡ Some two → one ≡ two
same_token o one two first second = (let both : ◌≡◌ {A = Option Token} (Some one) (Some two) = sym first ∙ second in cc)

-- One page after another

module _ (old now : Token) (front : ℕ) (h : AreNoted old now front) where
  here : entry_at now.pages front ≡ entry_at old.pages front
  here = h.behind front (omega arith)

  -- A page that is not dirty

  pub clean_noted : is_dirty (entry_at now.pages front) ≡ false → AreNoted old now (front + 1)
  clean_noted clean =
      let was : is_dirty (entry_at old.pages front) ≡ false = ap is_dirty (sym here) ∙ clean in
      record {
        same_segment = h.same_segment;
        same_seq = h.same_seq;
        same_count = h.same_count;
        noted = λ page before within. elim (cases_eq page front) [
          | inl equal ↦ subst (λ (n : ℕ). entry_at now.pages n ≡ entry_after old n) (sym equal) (here ∙ sym (after_clean old front was))
          | inr differ ↦ h.noted page (omega (arith, before, differ)) within
        ];
        behind = λ page after. h.behind page (omega (arith, after));
        clean = elim h.clean [
          | inl none ↦ inl (
            λ page before. elim (cases_eq page front) [
              | inl equal ↦ ap (λ (n : ℕ). is_dirty (entry_at old.pages n)) equal ∙ was
              | inr differ ↦ none.0 page (omega (arith, before, differ))
            ],
            none.1,
          )
          | inr reaches ↦ inr (record {
            page = reaches.page;
            in_front = (let before = reaches.in_front in omega (arith, before));
            dirty = reaches.dirty;
            reached = reaches.reached;
            is_reached = reaches.is_reached;
            low = reaches.low;
            clean = reaches.clean;
          })
        ];
      }

  -- A dirty one, which was written

  module _ (new : Token) (within : front < length old.pages) (low : (page : ℕ) → page < length old.pages → (entry_at old.pages page).stable ≤ old.seq) (dirty : is_dirty (entry_at now.pages front) ≡ true)
      (is : IsWritten now front old.seq new) where
    was : is_dirty (entry_at old.pages front) ≡ true
    was = ap is_dirty (sym here) ∙ dirty

    there : front < length now.pages
    there = (let count = h.same_count in omega (arith, within, count))

    own : entry_at new.pages front ≡ entry_after old front
    own =
        ap (λ (es : List PageEntry). entry_at es front) is.pages ∙ get_or-set_same now.pages front (settled (entry_at now.pages front) old.seq) no_entry there
        ∙ ap (λ (e : PageEntry). settled e old.seq) here ∙ sym (after_dirty old front was)

    other : (page : ℕ) → page ≢ front → entry_at new.pages page ≡ entry_at now.pages page
    other page differ = ap (λ (es : List PageEntry). entry_at es page) is.pages ∙ get_or-set_other now.pages front page (settled (entry_at now.pages front) old.seq) no_entry differ

    noted : (page : ℕ) → page < front + 1 → page < length old.pages → entry_at new.pages page ≡ entry_after old page
    noted page before inside = elim (cases_eq page front) [
      | inl equal ↦ subst (λ (n : ℕ). entry_at new.pages n ≡ entry_after old n) (sym equal) own
      | inr differ ↦ other page differ ∙ h.noted page (omega (arith, before, differ)) inside
    ]

    behind : (page : ℕ) → front + 1 ≤ page → entry_at new.pages page ≡ entry_at old.pages page
    behind page after = other page (λ equal. absurd (omega (arith, after, equal))) ∙ h.behind page (omega (arith, after))

    count : length new.pages ≡ length old.pages
    count = ap length is.pages ∙ length-set now.pages front (settled (entry_at now.pages front) old.seq) ∙ h.same_count

    stable_low : (page : ℕ) → page < length old.pages → (entry_at new.pages page).stable ≤ old.seq
    stable_low page inside = elim (cases_lt page (front + 1)) [
      | inl before ↦ subst (λ (e : PageEntry). e.stable ≤ old.seq) (sym (noted page before inside)) (after_stable old page (low page inside))
      | inr after ↦ subst (λ (e : PageEntry). e.stable ≤ old.seq) (sym (behind page after)) (low page inside)
    ]

    is_reached : IsReached old.seq new.pages is.reached
    is_reached = subst (λ (n : ℕ). IsReached n new.pages is.reached) h.same_seq is.is_reached

    reached_low : is.reached ≤ old.seq
    reached_low = elim is_reached [
      | inl all ↦ (let same = all.1 in omega (arith, same))
      | inr least ↦
          let inside = least.0.1.0 in
          let stable = stable_low least.0.0 (omega (arith, inside, count)) in
          let same = least.0.2 in
          omega (arith, stable, same)
    ]

    before : max now.clean old.seq ≡ max old.clean old.seq
    before = elim h.clean [
      | inl none ↦ ap (λ (n : ℕ). max n old.seq) none.1
      | inr reaches ↦ reaches.clean
    ]

    pub written_noted : AreNoted old new (front + 1)
    written_noted = record {
      same_segment = is.segment ∙ h.same_segment;
      same_seq = is.seq ∙ h.same_seq;
      same_count = count;
      noted = noted;
      behind = behind;
      clean = inr (record {
        page = front;
        in_front = omega arith;
        dirty = was;
        reached = is.reached;
        is_reached = is_reached;
        low = (let clean = is.clean in omega (arith, clean));
        clean = (let clean = is.clean in let low = reached_low in let so_far = before in omega (arith, clean, low, so_far));
      });
    }

-- After the last page

module _ (old new : Token) (h : AreNoted old new (length old.pages)) (few : length old.pages ≤ 1024) (low : (page : ℕ) → page < length old.pages → (entry_at old.pages page).touched ≤ old.seq) where
  clean_now : IsCleanNow old new.clean
  clean_now = elim h.clean [
    | inl none ↦ inl (λ page dirty. true≢false (sym dirty.2 ∙ none.0 page dirty.0), none.1)
    | inr reaches ↦ inr (
      λ clean. (let inside = reaches.in_front in clean reaches.page (inside, omega (arith, inside, few), reaches.dirty)),
      elim reaches.is_reached [
        | inl all ↦
            let same = all.1 in
            let reached = reaches.low in
            let so_far = reaches.clean in
            omega (arith, same, reached, so_far)
        | inr least ↦
            let inside = least.0.1.0 in
            let count = h.same_count in
            let within : least.0.0 < length old.pages = omega (arith, inside, count) in
            absurd (true≢false (sym least.0.1.2 ∙ ap is_dirty (h.noted least.0.0 within within) ∙ after_is_clean old least.0.0 (low least.0.0 within)))
      ],
    )
  ]

  pub all_noted : AreWritten old new
  all_noted = record {
    same_segment = h.same_segment;
    same_seq = h.same_seq;
    same_count = h.same_count;
    each = λ page within. h.noted page within within;
    clean_now = clean_now;
  }

-- so the token fits the area with the written pages
pub written_fits : {D : Type 0} (a : Ghosts D) (since : ℕ) (area later : D) (old new : Token) (bytes : List ℕ) → FitsToken a since area old bytes → AreOver a since later old bytes → AreWritten old new → FitsToken a since later new bytes
written_fits a since area later old new bytes h over is =
    let count = is.same_count in
    let inside : (page : ℕ) → page < length new.pages → page < length old.pages = λ page within. omega (arith, within, count) in
    record {
      long = (let long = h.long in omega (arith, long, count));
      few = (let few = h.few in omega (arith, few, count));
      room = (let room = over.room in omega (arith, room, count));
      small = subst (λ (n : ℕ). n ≤ 2 ^ 60) (sym is.same_seq) h.small;
      free = λ page within. (let known = inside page within in ap (λ (e : PageEntry). e.uncommitted) (is.each page known) ∙ after_free old page ∙ h.free page known);
      stable = λ page within.
          (let known = inside page within in
          subst (λ (n : ℕ). (entry_at new.pages page).stable ≤ n) (sym is.same_seq)
          (subst (λ (e : PageEntry). e.stable ≤ old.seq) (sym (is.each page known)) (after_stable old page (h.stable page known))));
      touched = λ page within.
          (let known = inside page within in
          subst (λ (n : ℕ). (entry_at new.pages page).touched ≤ n) (sym is.same_seq)
          (subst (λ (n : ℕ). n ≤ old.seq) (sym (ap (λ (e : PageEntry). e.touched) (is.each page known) ∙ after_touched old page)) (h.touched page known)));
      each = λ page within. (let known = inside page within in subst (λ (e : PageEntry). FitsPage a since later bytes page e) (sym (is.each page known)) (over.each page known).fits);
    }

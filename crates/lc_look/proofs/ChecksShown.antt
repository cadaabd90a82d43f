-- What a check writes, line by line.
use Rattle.std.proofs.Common.{◌≡◌, ℕ, zero, suc, ◌+◌, ◌<◌, ◌≤◌, Bool, true, false, Option, List, [], ◌∷◌, ◌++◌, flat_map, All, Contains, refl, sym, ◌∙◌, ap, subst, arith, inl, inr, append_assoc, append-nil, codes}
use Rattle.std.specs.Prelude.{decimal}
use Rattle.std.specs.Io.KnownBytes.{Appends}
use Rattle.std.proofs.KnownBytes.{Appends-trans}
use Rattle.std.proofs.lemmas.Bool.{cases_lt}
use Rattle.std.proofs.lemmas.List.{flat_map_more}
use Rattle.std.proofs.lemmas.List.Elements.{All-push, All-contains_itself, All-weaker, All-nil, All-head, All-tail, Contains-append_cases, Contains-append_left, Contains-append_right}
use Rattle.lc_record.specs.Marks.{counting}
use Rattle.lc_record.specs.declared.geometry.Geometry.{Geometry}
use Rattle.lc_record.proofs.ListLemmas.{counting_push as counting_more}
use Rattle.lc_model.specs.Merge.{MergesTo, StoreText}
use Rattle.lc_model.specs.declared.reply.Reply.TheVariants.{Recovered as IsReply}
use Rattle.lc_recover.specs.Forecast.{Foretold, IsForecast, IsPageBehind, sequence_of}
use Rattle.lc_text.proofs.Writes.{same_bytes}
use Rattle.lc_text.specs.Text.{number_text, recovered_text, reply_text, segment_text}
use Rattle.lc_look.specs.Checks.{AreBehindIn, AreRising, BehindTexts, EndsWithRecovery, IsBehindText, Shows, behind_text, logs_text}
use Rattle.lc_look.proofs.AreasRecovered.{same_numbers}

-- a text for each number, one after the other
pub next_text : (f : ℕ → List ℕ) (from n : ℕ) (o m p : Option (List ℕ)) → Appends o m (flat_map f (counting from n)) → Appends m p (f (from + n)) → Appends o p (flat_map f (counting from (n + 1)))
next_text f from n o m p front own =
    let next : suc n ≡ n + 1 = omega arith in
    same_bytes o p _ _ (flat_map_more f [] (counting from n) (from + n) ∙ ap (flat_map f) (sym (counting_more from n) ∙ ap (counting from) next)) (Appends-trans o m p _ _ front own)

-- Pages

abbrev pub behind_head : ℕ → List ℕ
behind_head segment = codes "segment " ++ decimal segment ++ codes " behind"

abbrev pub none_of : List ℕ → Bool
none_of [] = true
none_of (page ∷ pages) = false

pub none-pushed : (pages : List ℕ) (page : ℕ) → false ≡ none_of (pages ++ page ∷ [])
none-pushed [] page = refl
none-pushed (p ∷ pages) page = refl

rising-more : (pages : List ℕ) (page : ℕ) → AreRising pages → All (λ p. p < page) pages → AreRising (pages ++ page ∷ [])
rising-more [] page rising all = (All-nil (λ p. page < p), tt)
rising-more (p ∷ pages) page rising all = (
  All-push (λ q. p < q) pages page rising.0 (All-head (λ q. q < page) p pages all),
  rising-more pages page rising.1 (All-tail (λ q. q < page) p pages all),
)

one_of : (n page : ℕ) → Contains (n ∷ []) page → n ≡ page
one_of n page (zero, less, is) = is
one_of n page (suc k, less, is) = absurd (omega (arith, less))

module _ (store : StoreText) (segment n : ℕ) (pages : List ℕ) (are : AreBehindIn n store segment pages) where
  below : All (λ p. p < n) pages
  below = All-weaker (Contains pages) (λ p. p < n) (λ p has. ((are.all p).0 has).0) pages (All-contains_itself pages)

  -- one page more is behind
  pub behind-page : IsPageBehind store segment n → AreBehindIn (n + 1) store segment (pages ++ n ∷ [])
  behind-page behind = record {
    rising = rising-more pages n are.rising below;
    all = λ page. (
      λ has. elim (Contains-append_cases pages (n ∷ []) page has) [
        | inl before ↦ (let old = (are.all page).0 before in (omega (arith, old.0), old.1))
        | inr here ↦ (let same = one_of n page here in (omega (arith, same), subst (λ (p : ℕ). IsPageBehind store segment p) same behind))
      ],
      λ is.
          elim (cases_lt page n) [
            | inl before ↦ Contains-append_left pages (n ∷ []) page ((are.all page).1 (before, is.1))
            | inr after ↦ (let same : n ≡ page = omega (arith, after, is.0) in Contains-append_right pages (n ∷ []) page (0, omega arith, same))
          ],
    );
  }

  -- or it is not
  pub behind-not : (IsPageBehind store segment n → ⊥) → AreBehindIn (n + 1) store segment pages
  behind-not not_behind = record {
    rising = are.rising;
    all = λ page. (
      λ has. (let old = (are.all page).0 has in (omega (arith, old.0), old.1)),
      λ is.
          elim (cases_lt page n) [
            | inl before ↦ (are.all page).1 (before, is.1)
            | inr after ↦ (let same : page ≡ n = omega (arith, after, is.0) in absurd (not_behind (subst (λ (p : ℕ). IsPageBehind store segment p) same is.1)))
          ],
    );
  }

-- Segments

pub behind-more : (g : Geometry) (store : StoreText) (from n : ℕ) (front own : List ℕ) → BehindTexts g store from n front → IsBehindText g.pages store (from + n) own → BehindTexts g store from (suc n) (front ++ own)
behind-more g store from zero front own none is =
    let here : from + 0 ≡ from = omega arith in
    (own, [], subst (λ (s : ℕ). IsBehindText g.pages store s own) here is, refl, ap (λ (l : List ℕ). l ++ own) none ∙ sym (append-nil own))
behind-more g store from (suc n) front own some is =
    let here : from + suc n ≡ from + 1 + n = omega arith in
    let rest = behind-more g store (from + 1) n some.1 own some.3 (subst (λ (s : ℕ). IsBehindText g.pages store s own) here is) in
    (some.0, some.1 ++ own, some.2, rest, ap (λ (l : List ℕ). l ++ own) some.4 ∙ append_assoc some.0 some.1 own)

-- All lines

pub same_recovered : (g : Geometry) (f h : ℕ → ℕ) → ((segment : ℕ) → 1 ≤ segment → segment ≤ g.segments → f segment ≡ h segment) → recovered_text g f ≡ recovered_text g h
same_recovered g f h each =
    ap (λ (t : List ℕ). t ++ reply_text IsReply)
    (same_numbers (λ segment. segment_text segment (f segment)) (λ segment. segment_text segment (h segment)) 1 g.segments
    (λ segment low high. ap (segment_text segment) (each segment low (omega (arith, high)))))

-- the last lines are those of a recovery
pub shows-ends : (g : Geometry) (store : StoreText) (text : List ℕ) (status : ℕ) → Shows g store text status → EndsWithRecovery g text status
shows-ends g store text status (rest, is, inl (content, numbers, merges, behind, texts, lines, done)) = (
  logs_text g store ++ behind,
  recovered_text g numbers,
  is ∙ ap (λ (l : List ℕ). logs_text g store ++ l) lines ∙ sym (append_assoc (logs_text g store) behind (recovered_text g numbers)),
  inl (numbers, refl, done),
)
shows-ends g store text status (rest, is, inr (fault, refusal, memory, line, done)) = (logs_text g store, rest, is, inr (fault, line, done))

-- a store that was read, and its forecast
pub shows-forecast : (g : Geometry) (store : StoreText) (forecast : Foretold) → IsForecast forecast → forecast.store ≡ store → forecast.geometry ≡ g
    → (behind : List ℕ) → BehindTexts forecast.geometry forecast.store 1 forecast.geometry.segments behind
    → Shows g store (logs_text g store ++ (behind ++ recovered_text forecast.geometry (sequence_of forecast))) 0
shows-forecast g store forecast its same_store same_geometry behind texts = (
  behind ++ recovered_text forecast.geometry (sequence_of forecast),
  refl,
  inl (
    its.content,
    its.numbers,
    subst (λ (s : StoreText). MergesTo s its.content its.numbers) same_store its.merges,
    behind,
    subst (λ (h : Geometry). BehindTexts h store 1 h.segments behind) same_geometry (subst (λ (s : StoreText). BehindTexts forecast.geometry s 1 forecast.geometry.segments behind) same_store texts),
    ap (λ (t : List ℕ). behind ++ t) (same_recovered forecast.geometry (sequence_of forecast) its.numbers its.sequences ∙ ap (λ (h : Geometry). recovered_text h its.numbers) same_geometry),
    refl,
  ),
)

pub none-text : (segment : ℕ) (pages : List ℕ) → none_of pages ≡ true → (behind_head segment ++ flat_map number_text pages) ++ codes " none\n" ≡ behind_text segment pages
none-text segment [] none = ap (λ (l : List ℕ). l ++ codes " none\n") (append-nil (behind_head segment)) ∙ sym (append_assoc (behind_head segment) (codes " none") (codes "\n"))
none-text segment (page ∷ pages) none = cc

pub some-text : (segment : ℕ) (pages : List ℕ) → none_of pages ≡ false → (behind_head segment ++ flat_map number_text pages) ++ codes "\n" ≡ behind_text segment pages
some-text segment [] some = cc
some-text segment (page ∷ pages) some = refl

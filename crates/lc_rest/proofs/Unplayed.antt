-- What a replay that fails shows, and what one that holds is.
use Rattle.std.proofs.Common.{◌≡◌, ℕ, ◌+◌, ◌<◌, ◌≤◌, true, false, List, take, refl, sym, ◌∙◌, ap, arith, inl, inr, eq-eqb, eqb, true≢false}
use Rattle.std.specs.Prelude.{Option, Some, None, is_some}
use Rattle.std.specs.Option.{option_eq}
use Rattle.std.proofs.lemmas.Bool.{cases_lt}
use Rattle.lc_page.specs.Page.{Page, page_in}
use Rattle.lc_record.specs.declared.record.Record.{Record}
use Rattle.lc_rest.specs.Replay.{IsDue, IsPlayed, IsReplay, IsUnmet, bytes_after, number_after, part_at}
use Rattle.lc_rest.proofs.Replays.{number-grows, number-most}

-- a page that is not as it should be when the number comes to its sequence is not played
unplayed : (segment first : ℕ) (rs : List Record) (start : List ℕ) (page number i : ℕ) (now : List ℕ) (text : Page) → first ≤ number
    → number ≡ number_after segment (take i rs) first → number + 1 ≡ number_after segment (take (i + 1) rs) first → now ≡ bytes_after segment (take (i + 1) rs) start
    → text.sequence ≡ number + 1 → (text.content ≡ part_at page now → ⊥) → IsPlayed segment first rs start page text → ⊥
unplayed segment first rs start page number i now text least was count is here differs played =
    differs (played.bytes ∙ ap (λ n. part_at page (bytes_after segment (take n rs) start)) turns ∙ ap (part_at page) (sym is))
  where
    few : played.turns < i + 1 → ⊥
    few less = (let its = played.count in let grows = number-grows segment rs first played.turns i (omega (arith, less)) in omega (arith, its, grows, was, here))

    many : i + 1 < played.turns → ⊥
    many less = (let its = played.fewest (i + 1) less in omega (arith, its, count, here, least))

    turns : played.turns ≡ i + 1
    turns = elim (cases_lt played.turns (i + 1)) [
      | inl less ↦ absurd (few less)
      | inr most ↦ elim (cases_lt (i + 1) played.turns) [
        | inl less ↦ absurd (many less)
        | inr last ↦ omega (arith, most, last)
      ]
    ]

-- some page is not
pub record IsUnplayed (segment first : ℕ) (rs : List Record) (start area : List ℕ) (pages : ℕ) : Type 0 where
  pub page : ℕ
  pub known : page < pages
  pub not : IsPlayed segment first rs start page (page_in area page) → ⊥

pub unmet-unplayed : (segment first : ℕ) (rs : List Record) (start area : List ℕ) (pages number later i : ℕ) (now : List ℕ) → later ≡ number + 1 → first ≤ number
    → number ≡ number_after segment (take i rs) first → later ≡ number_after segment (take (i + 1) rs) first → now ≡ bytes_after segment (take (i + 1) rs) start
    → IsUnmet area pages later now → IsUnplayed segment first rs start area pages
unmet-unplayed segment first rs start area pages number later i now next least was count is unmet = record {
  page = unmet.page;
  known = unmet.known;
  not = unplayed segment first rs start unmet.page number i now (page_in area unmet.page) least was (sym next ∙ count) is (unmet.here ∙ next) unmet.differs;
}

-- The end

played-within : (segment first : ℕ) (rs : List Record) (start : List ℕ) (page : ℕ) (text : Page) → IsPlayed segment first rs start page text → text.sequence ≤ number_after segment rs first
played-within segment first rs start page text played = (let count = played.count in let most = number-most segment rs first played.turns in omega (arith, count, most))

replay-due : (segment first last : ℕ) (rs : List Record) (start area : List ℕ) (pages number due : ℕ) → number ≡ number_after segment rs first → IsDue area pages number (Some due) → IsReplay segment first last rs start area pages → ⊥
replay-due segment first last rs start area pages number due is are replay =
    let its = are.1 in
    let above = are.0 in
    let has = its.2 in
    let within = played-within segment first rs start its.0 (page_in area its.0) (replay.played its.0 its.1) in
    omega (arith, above, has, within, is)

pub replay-some : (segment first last : ℕ) (rs : List Record) (start area : List ℕ) (pages number : ℕ) (due : Option ℕ) → number ≡ number_after segment rs first → IsDue area pages number due → is_some due ≡ true → IsReplay segment first last rs start area pages → ⊥
replay-some segment first last rs start area pages number None is are some replay = absurd (true≢false (sym some))
replay-some segment first last rs start area pages number (Some due) is are some replay = replay-due segment first last rs start area pages number due is are replay

pub due-other : (due : Option ℕ) (number : ℕ) → option_eq eqb due (Some number) ≡ false → due ≡ Some number → ⊥
due-other due number differs is = true≢false (sym (eq-eqb number number refl) ∙ ap (λ (o : Option ℕ). option_eq eqb o (Some number)) (sym is) ∙ differs)

pub replay-unplayed : (segment first last : ℕ) (rs : List Record) (start area : List ℕ) (pages : ℕ) → IsUnplayed segment first rs start area pages → IsReplay segment first last rs start area pages → ⊥
replay-unplayed segment first last rs start area pages un replay = un.not (replay.played un.page un.known)

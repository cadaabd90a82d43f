-- The parts that are held back are applied, one after another.
use Rattle.std.proofs.Common.{◌≡◌, ℕ, ◌+◌, ◌≤◌, suc, List, Some, None, [], ◌∷◌, ◌++◌, length, refl, sym, ap, ◌∙◌, append_assoc, arith}
use Rattle.std.specs.Prelude.{Option}
use Rattle.std.proofs.lemmas.List.{append-nil, length-append}
use Rattle.lc_disk.specs.declared.area.Area.{Ghosts}
use Rattle.lc_record.specs.declared.part.Part.{Part}
use Rattle.lc_token.specs.Backlog.{Backlog, rest_of, run_of, HandsOutKept}
use Rattle.lc_token.specs.declared.token.Token.{Token}
use Rattle.lc_token.proofs.BacklogLemmas.{rest_all, rest_here, run_here, run_none}
use Rattle.lc_segments.specs.Applying.{caught_up, ready_in}
use Rattle.lc_segments.specs.SegSide.{FitsArea}
use Rattle.lc_segments.specs.SegView.{SegView}
use Rattle.lc_segments.specs.declared.page_area.PageArea.{PageArea}
use Rattle.lc_segments.specs.declared.page_area.PageArea.TheVariants.{Elsewhere, Serves, Failed}

-- where no token is, nothing is said of the bytes
pub fits_elsewhere : {D : Type 0} (a : Ghosts D) (since : ℕ) (pages : PageArea D) (token : Option Token) (bytes others : List ℕ) → token ≡ None → FitsArea a since pages token bytes → FitsArea a since pages token others
fits_elsewhere a since Elsewhere token bytes others none fits = fits
fits_elsewhere a since (Serves area) None bytes others none fits = absurd fits
fits_elsewhere a since (Serves area) (Some t) bytes others none fits = absurd cc
fits_elsewhere a since (Failed area) token bytes others none fits = fits

-- the next one is taken
module _ (old new : Backlog) (part : Part) (taken : HandsOutKept old (Some part) new) where
  at_next : new.applied ≡ old.applied + 1
  at_next = ap (λ (b : Backlog). b.applied) taken.2 ∙ taken.1

  pub run_taken : ready_in old ≡ part ∷ ready_in new
  run_taken = ap (run_of old.applied) taken.0 ∙ (run_here old.applied part new.kept taken.1 ∙ ap (λ (n : ℕ). part ∷ run_of n new.kept) (sym at_next))

  rest_taken : rest_of old.applied old.kept ≡ rest_of new.applied new.kept
  rest_taken = ap (rest_of old.applied) taken.0 ∙ (rest_here old.applied part new.kept taken.1 ∙ ap (λ (n : ℕ). rest_of n new.kept) (sym at_next))

  -- they end at the same
  pub end_taken : caught_up new ≡ caught_up old
  end_taken =
      let long : length (ready_in old) ≡ suc (length (ready_in new)) = ap length run_taken in
      let next = at_next in
      let end : new.applied + length (ready_in new) ≡ old.applied + length (ready_in old) = omega arith in
      ap (λ (b : Backlog). record b { applied = new.applied + length (ready_in new); kept = rest_of new.applied new.kept }) taken.2
      ∙ (ap (λ (n : ℕ). record old { applied = n; kept = rest_of new.applied new.kept }) end
      ∙ ap (λ (ps : List Part). record old { applied = old.applied + length (ready_in old); kept = ps }) (sym rest_taken))

-- none follows
pub end_here : (b : Backlog) → HandsOutKept b None b → caught_up b ≡ b
end_here b none =
    let end : b.applied + length (ready_in b) ≡ b.applied = (let e = ap length (run_none b.applied b.kept none.0) in omega arith) in
    ap (λ (n : ℕ). record b { applied = n; kept = rest_of b.applied b.kept }) end ∙ ap (λ (ps : List Part). record b { kept = ps }) (rest_all b.applied b.kept none.0)

module _ {D : Type 0} (start l m : SegView D) (m_is : m ≡ record l { backlog = m.backlog }) (l_is : l ≡ record start { applied = l.applied; backlog = l.backlog })
    (run : l.applied ++ ready_in l.backlog ≡ start.applied ++ ready_in start.backlog) (end : caught_up l.backlog ≡ caught_up start.backlog) where
  -- the next one is laid
  module _ (n : SegView D) (part : Part) (n_is : n ≡ record m { applied = m.applied ++ part ∷ [] }) (taken : HandsOutKept l.backlog (Some part) m.backlog) where
    pub one_more : n.applied ≡ l.applied ++ part ∷ []
    one_more = ap (λ (s : SegView D). s.applied) n_is ∙ ap (λ (s : SegView D). s.applied ++ part ∷ []) m_is

    backlog_is : n.backlog ≡ m.backlog
    backlog_is = ap (λ (s : SegView D). s.backlog) n_is

    pub same_step : n ≡ record start { applied = n.applied; backlog = n.backlog }
    same_step =
        let with : SegView D → SegView D = λ s. record s { applied = n.applied; backlog = n.backlog } in
        ap with n_is ∙ (ap with m_is ∙ ap with l_is)

    pub run_step : n.applied ++ ready_in n.backlog ≡ start.applied ++ ready_in start.backlog
    run_step = ap (λ (ps : List Part). ps ++ ready_in n.backlog) one_more ∙ (append_assoc l.applied (part ∷ []) (ready_in n.backlog)
        ∙ (ap (λ (b : Backlog). l.applied ++ part ∷ ready_in b) backlog_is ∙ (ap (λ (ps : List Part). l.applied ++ ps) (sym (run_taken l.backlog m.backlog part taken)) ∙ run)))

    pub end_step : caught_up n.backlog ≡ caught_up start.backlog
    end_step = ap caught_up backlog_is ∙ (end_taken l.backlog m.backlog part taken ∙ end)

    pub room_step : length l.applied + length l.backlog.kept ≤ l.room → length n.applied + length n.backlog.kept ≤ n.room
    room_step room =
        let more : length n.applied ≡ length l.applied + length (part ∷ []) = ap length one_more ∙ length-append l.applied (part ∷ []) in
        let kept : length l.backlog.kept ≡ suc (length m.backlog.kept) = ap length taken.0 in
        let same = ap (λ (b : Backlog). length b.kept) backlog_is in
        let rooms : n.room ≡ l.room = ap (λ (s : SegView D). s.room) n_is ∙ ap (λ (s : SegView D). s.room) m_is in omega arith

  -- none follows any more
  pub all_taken : HandsOutKept l.backlog None m.backlog → m ≡ record start { applied = start.applied ++ ready_in start.backlog; backlog = caught_up start.backlog }
  all_taken none =
      let over : caught_up l.backlog ≡ l.backlog = end_here l.backlog (none.0, refl) in
      let last : m.backlog ≡ caught_up start.backlog = none.1 ∙ (sym over ∙ end) in
      let all : l.applied ≡ start.applied ++ ready_in start.backlog =
      sym (append-nil l.applied) ∙ (ap (λ (ps : List Part). l.applied ++ ps) (sym (run_none l.backlog.applied l.backlog.kept none.0)) ∙ run) in
      let with : SegView D → SegView D = λ s. record s { applied = start.applied ++ ready_in start.backlog; backlog = caught_up start.backlog } in
      m_is ∙ (ap (λ (b : Backlog). record l { backlog = b }) last ∙ (ap (λ (ps : List Part). record l { applied = ps; backlog = caught_up start.backlog }) all ∙ ap with l_is))

-- Of nodes that run: a node's desk and journal together, at a reservation.
use Rattle.std.proofs.Common.{◌≡◌, ℕ, Bool, true, false, List, [], ◌∷◌, ◌++◌, filter, Option, Some, None, refl, sym, ap, ◌∙◌, inl, inr, arith}
use Rattle.std.specs.Prelude.{◌⊎◌, ◌≤◌, nat_lt, MatchBool, if◌then◌else◌}
use Rattle.std.proofs.lemmas.Bool.{eq-eqb}
use Rattle.lc_disk.specs.declared.area.Area.{Ghosts}
use Rattle.lc_record.specs.Content.{Content}
use Rattle.lc_record.specs.Marks.{is_empty}
use Rattle.lc_record.specs.Recorded.{record_of, records_from}
use Rattle.lc_record.specs.Transaction.{Transaction, effect, effects}
use Rattle.lc_model.specs.History.{History, transactions}
use Rattle.lc_model.specs.Machine.{ReserveRow, MayRefuse, may_refuse_reserve, appended, dropped}
use Rattle.lc_model.specs.Merging.{counted_all, is_from}
use Rattle.lc_model.specs.Refusals.{OfRunning}
use Rattle.lc_model.specs.State.{Setting, State, running_of, is_by}
use Rattle.lc_model.specs.Stored.{base, records_of}
use Rattle.lc_model.specs.declared.reply.Reply.{Reply}
use Rattle.lc_model.specs.declared.reply.Reply.TheVariants.{Reserved, Ended}
use Rattle.lc_model.proofs.Fronts.{entry}
use Rattle.lc_model.proofs.Holders.{is_by-both}
use Rattle.lc_model.proofs.Lists.{found-passes}
use Rattle.lc_model.proofs.Merging.{records_from-append}
use Rattle.lc_settled.specs.Numbers.{Numbers, next_record}
use Rattle.lc_journal.specs.Logging.{end_of_records}
use Rattle.lc_events.specs.NodeState.{FitsNode}
use Rattle.lc_desk.specs.Prepares.{EndsAt}
use Rattle.lc_journal.specs.Records.{count_of, front_of}
use Rattle.lc_settled.specs.Settled.{reserve_answer, reserve_open}
use Rattle.lc_events.specs.declared.node_state.NodeState.{NodeState}
use Rattle.lc_settled.proofs.Appending.{filter-end}
use Rattle.lc_events.proofs.Logged.{end_same}
use Rattle.lc_journal.proofs.Spans.{leading_le}

-- The node's records

pub own_record : (m : Setting) (node i : ℕ) (s : State) (x : Numbers) (t : Transaction) → running_of node i s ≡ Some t
    → records_of m (appended s t) x.disks node ≡ records_of m s x.disks node ++ next_record m s x t ∷ []
own_record m node i s x t running =
    ap (λ ts. filter (is_from node) (records_from x.disks.numbers (base m s) ts)) (pushed s.history)
    ∙ ap (filter (is_from node)) (records_from-append x.disks.numbers (base m s) (transactions s.history) (t ∷ []))
    ∙ filter-end (is_from node) (records_from x.disks.numbers (base m s) (transactions s.history)) (record_of (counted_all x.disks.numbers (transactions s.history)) (effects (transactions s.history) (base m s)) t)
    ∙ ap (λ b. records_of m s x.disks node ++ (if b then record_of (counted_all x.disks.numbers (transactions s.history)) (effects (transactions s.history) (base m s)) t ∷ [] else []))
    (eq-eqb t.node node (is_by-both node i t (found-passes (is_by node i) s.running t running)).0)
    ∙ ap (λ (c : Content). records_of m s x.disks node ++ record_of (counted_all x.disks.numbers (transactions s.history)) c t ∷ []) (sym (effects_append s.earlier (transactions s.history) m.start))
  where
    pushed : (history : History) → transactions (history ++ entry t false ∷ []) ≡ transactions history ++ t ∷ []
    pushed [] = refl
    pushed (e ∷ es) = ap (λ ts. e.transaction ∷ ts) (pushed es)

    effects_append : (ts us : List Transaction) (c : Content) → effects (ts ++ us) c ≡ effects us (effects ts c)
    effects_append [] us c = refl
    effects_append (t ∷ ts) us c = effects_append ts us (effect t c)

-- An end without a record

-- the row that answers that it is over is that of a transaction that set nothing
pub ended_open : (m : Setting) (s after : State) (x : Numbers) (o : Option Transaction) → OfRunning o s Ended after (λ t. ReserveRow s t Ended after)
    → (answer : Reply) → reserve_open m s x o ≡ Some answer → Ended ≡ answer
ended_open m s after x None row answer is = absurd cc
ended_open m s after x (Some t) row answer is = marked (is_empty t.marks) row is
  where
    marked : (b : Bool)
        → MatchBool b ((Ended ≡ Ended) × (after ≡ dropped s t.node t.thread)) (((place : ℕ) × (words : ℕ) × (Ended ≡ Reserved place words) × (after ≡ appended s t)) ⊎ MayRefuse may_refuse_reserve s Ended after)
        → (if b then None else Some (reserve_answer m s x t)) ≡ Some answer → Ended ≡ answer
    marked true row is = absurd cc
    marked false (inl (place, words, reply, rest)) is = absurd cc
    marked false (inr (refusal, may, reply, rest)) is = absurd cc

-- The journal

module _ {D : Type 0} (a : Ghosts D) where
  -- the end of the log, as it is asked for
  pub ends_at : (m : Setting) (n : ℕ) (s : State) (x : Numbers) (w : NodeState D a) (end : ℕ) (sealed : Bool) → FitsNode a m n w s x
      → end ≡ end_of_records a w.journal → sealed ≡ nat_lt 0 (x.reset n) → EndsAt m n s x (record { end = end; room = w.journal.words; sealed = sealed })
  ends_at m n s x w end sealed h is same =
      let k = w.journal.records in
      let count : front_of k ≤ count_of k = omega (arith, leading_le k.records) in
      record {
        end = is ∙ end_same a m n s x w.journal.log k w.journal.dropped w.journal.trimmed w.journal.taken w.journal.acked h.journal w.journal.kept
            (omega (arith, w.journal.dropped_acked, w.journal.acked_taken, w.journal.taken_closed, count));
        room = sym w.journal.group_room ∙ h.room;
        sealed = same;
      }

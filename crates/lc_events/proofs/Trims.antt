-- A node whose journal is trimmed goes on.
use Rattle.std.proofs.Common.{◌≡◌, ℕ, ◌+◌, map, refl, sym, ap, subst, ◌∙◌}
use Rattle.std.specs.Prelude.{List, length, ◌+◌, ◌<◌, ◌≤◌, Some, slice_get, slice_index_or}
use Rattle.std.proofs.lemmas.Option.{slice_get_read, same_Some as same_some}
use Rattle.lc_disk.specs.declared.area.Area.{Ghosts}
use Rattle.lc_model.specs.History.{leading}
use Rattle.lc_model.specs.State.{Setting, State, update}
use Rattle.lc_model.specs.declared.event.Event.TheVariants.{Trim}
use Rattle.lc_model.specs.declared.reply.Reply.TheVariants.{Trimmed}
use Rattle.lc_model.proofs.Seats.{update-other}
use Rattle.lc_journal.specs.Beside.{BesideLogs}
use Rattle.lc_journal.specs.Logging.{Trims}
use Rattle.lc_events.specs.NodeState.{FitsNode, GoesOn}
use Rattle.lc_settled.specs.Numbers.{Numbers, published}
use Rattle.lc_settled.specs.Settled.{trim_answer}
use Rattle.lc_desk.specs.Slots.{besides_of}
use Rattle.lc_events.specs.Trimming.{Counts, is_done}
use Rattle.lc_journal.specs.declared.journal.Journal.{Journal}
use Rattle.lc_events.specs.declared.node_state.NodeState.{NodeState}
use Rattle.lc_desk.proofs.Dropping.{still}
use Rattle.lc_events.proofs.Going.{settled_by}
use Rattle.lc_desk.proofs.Others.{beside_open}
use Rattle.lc_events.proofs.Slotted.{aside_trimmed, slots_trimmed}

-- no other node's number is touched
logs_trimmed : (m : Setting) (n : ℕ) (s : State) (x : Numbers) (trimmed : ℕ) → BesideLogs m n s x s (record x { trimmed = update x.trimmed n trimmed })
logs_trimmed m n s x trimmed = record {
  records = λ other differ. refl;
  marks = λ other differ. refl;
  flush = λ other differ. refl;
  halted = λ other differ. refl;
  ack = λ other differ. refl;
  dropped = λ other differ. refl;
  trimmed = λ other differ. update-other x.trimmed n trimmed other differ;
  reset = λ other differ. refl;
  round = λ other differ. refl;
}

-- by as many as every node has applied, from the first
pub trim_goes : {D : Type 0} (a : Ghosts D) (m : Setting) (n : ℕ) (s : State) (x : Numbers) (count : ℕ) (old : NodeState D a) (new : Journal D a) → FitsNode a m n old s x
    → count ≡ leading (map (is_done m x) (published m s x n)) → Trims a old.journal count new → new.group ≡ old.journal.group → new.round ≡ old.journal.round
    → GoesOn a m n (Trim n) s x (Trimmed count) (record { desk = old.desk; journal = new; known = old.known })
trim_goes a m n s x count old new h counts trims group round =
    let trimmed : ℕ → ℕ = update x.trimmed n (x.trimmed n + count) in
    record {
      after = s;
      next = record x { trimmed = trimmed };
      row = (refl, refl);
      settled = settled_by m s x (Trim n) (Trimmed count) (λ recovers. cc) (λ answer is. ap (λ k. Trimmed k) counts ∙ same_some (trim_answer m s x n) answer is);
      turns = refl;
      aside = record {
        desks = beside_open m n s s (still n s);
        logs = logs_trimmed m n s x (x.trimmed n + count);
        slots = aside_trimmed m n s s x trimmed refl refl;
        known = λ other segment differ. refl;
      };
      fits = record {
        desk = h.desk;
        slots = slots_trimmed m n (besides_of old.desk.here) s s x trimmed refl refl h.slots;
        journal = trims m n s x h.journal;
        room = ap (λ group. group.room) group ∙ h.room;
        round = round ∙ h.round;
        known = h.known;
      };
      phase = refl;
      places = λ segment differ. refl;
    }

-- what was counted over these nodes, for the journal of the one at a place
pub counted_at : {D : Type 0} (a : Ghosts D) (nodes seen : List (NodeState D a)) (n : ℕ) (node read : NodeState D a) (count : ℕ) → slice_get nodes n ≡ Some node → n < length nodes → seen ≡ nodes
    → read ≡ slice_index_or seen n read → (slice_index_or seen n read).journal.trimmed + count ≤ (slice_index_or seen n read).journal.acked
    → Counts a seen (slice_index_or seen n read).journal count → (node.journal.trimmed + count ≤ node.journal.acked) × Counts a nodes node.journal count
counted_at a nodes seen n node read count at within all is few counts =
    let it : slice_get nodes n ≡ Some read = slice_get_read nodes (length nodes) n read refl within (is ∙ ap (λ l. slice_index_or l n read) all) in
    let same : slice_index_or seen n read ≡ node = sym is ∙ same_some read node (sym it ∙ at) in (
      subst (λ (w : NodeState _ a). w.journal.trimmed + count ≤ w.journal.acked) same few,
      subst (λ (w : NodeState _ a). Counts a nodes w.journal count) same (subst (λ (l : List (NodeState _ a)). Counts a l (slice_index_or seen n read).journal count) all counts),
    )

-- What an event and its reply make of the numbers beside the machine's state.
use Rattle.std.specs.Prelude.{◌≡◌, ℕ, ◌+◌, ◌-◌, ◌<◌, ◌≤◌, Bool, ◌&&◌, ◌==◌, nat_lt, List, [], ◌∷◌, filter, find, max, slice_get, Option, Some, None, if◌then◌else◌}
use Rattle.std.specs.Option.{unwrap_or}
use Rattle.lc_page.specs.PageVector.{settled_text}
use Rattle.lc_page.specs.declared.page_text.PageText.{PageText}
use Rattle.lc_record.specs.Marks.{counting}
use Rattle.lc_record.specs.Transaction.{Transaction}
use Rattle.lc_record.specs.declared.geometry.Geometry.{Geometry}
use Rattle.lc_model.specs.History.{Entry, kept}
use Rattle.lc_model.specs.Merge.{Page}
use Rattle.lc_model.specs.Merging.{sets, counted_all}
use Rattle.lc_model.specs.Moves.{update_at, with_begun, with_opened, with_settled, with_reset, with_dropped, page_now}
use Rattle.lc_model.specs.State.{Phase, Up, DownAt, Setting, State, update, is_unclosed}
use Rattle.lc_model.specs.Stored.{Disks, records_of}
use Rattle.lc_model.specs.declared.event.Event.{Event}
use Rattle.lc_model.specs.declared.event.Event.TheVariants.{Close, Arrive, Deliver, Trim, PageStep, ResetStep, Stop, RecoverStep}
use Rattle.lc_model.specs.declared.refusal.Refusal.TheVariants.{DeviceFault}
use Rattle.lc_model.specs.declared.reply.Reply.{Reply}
use Rattle.lc_model.specs.declared.reply.Reply.TheVariants.{Ok as Accepted, Stepped, Applied, HeldBack, Trimmed, Written, Reset, Down, Recovered, Refused}
use Rattle.lc_token.specs.Token.{least_with}
use Rattle.lc_settled.specs.Numbers.{Numbers, recovered_numbers, token_number, stable, sets_on}
use Rattle.lc_settled.specs.Settled.{begun_number, number_of}

-- Close

-- the node has applied what it wrote itself, and the pages with a set position are changed, under the next number
abbrev pub with_record : State → Numbers → ℕ → Transaction → Numbers
with_record s x node t = record x {
  applied = λ other segment. if (other == node) && sets segment t then token_number s x segment + 1 else x.applied other segment;
  touched = λ segment page. if sets_on segment page t then max (x.touched segment page) (token_number s x segment + 1) else x.touched segment page;
}

-- of the reservation that is closed
abbrev pub closed_with : State → Numbers → ℕ → Option Entry → Numbers
closed_with s x node None = x
closed_with s x node (Some e) = with_record s x node e.transaction

-- Arrive, and the last step of a page write

-- the node has seen the token's `clean`
abbrev pub seen : Numbers → ℕ → ℕ → Numbers
seen x node segment = record x { known = update_at x.known node segment (max (x.known node segment) (x.clean segment)) }

-- Deliver

-- all up to this number are applied at the node
abbrev pub applied_to : Numbers → ℕ → ℕ → ℕ → Numbers
applied_to x node segment number = record x {
  applied = update_at x.applied node segment number;
  waiting = update_at x.waiting node segment (filter (λ n. nat_lt number n) (x.waiting node segment));
}

-- one number more, in its place
abbrev pub put_number : ℕ → List ℕ → List ℕ
put_number number [] = number ∷ []
put_number number (n ∷ ns) = if nat_lt number n then number ∷ n ∷ ns else n ∷ put_number number ns

-- the number waits at the node
abbrev pub held_back : Numbers → ℕ → ℕ → Option ℕ → Numbers
held_back x node segment None = x
held_back x node segment (Some number) =
    record x { waiting = update_at x.waiting node segment (put_number number (x.waiting node segment)) }

-- PageStep

-- the page is dirty: it was changed under a greater number than the one on the disk
abbrev pub is_dirty : Numbers → ℕ → ℕ → Bool
is_dirty x segment page = nat_lt (stable x segment page) (x.touched segment page)

-- the least sequence of the dirty ones of these pages
abbrev pub oldest_dirty : Numbers → ℕ → List ℕ → Option ℕ
oldest_dirty x segment [] = None
oldest_dirty x segment (page ∷ pages) =
    if is_dirty x segment page then Some (least_with (oldest_dirty x segment pages) (stable x segment page)) else oldest_dirty x segment pages

-- `clean` rises to the least sequence of a dirty page, and where no page is dirty to the token's number
abbrev pub cleaned : Geometry → State → Numbers → ℕ → Numbers
cleaned g s x segment =
    record x { clean = update x.clean segment (max (x.clean segment) (unwrap_or (oldest_dirty x segment (counting 0 g.pages)) (token_number s x segment))) }

-- the page that is to be put in place has opened its slot, or tried to
abbrev pub opened_with : Disks → ℕ → ℕ → Option Page → Disks
opened_with d segment page None = d
opened_with d segment page (Some text) = with_opened d segment page text

-- it is in place
abbrev pub settled_with : Disks → ℕ → ℕ → Option Page → Disks
settled_with d segment page None = d
settled_with d segment page (Some text) = with_settled d segment page text

-- the disks after this call of a page write, also where it failed: the first takes the page as it is, the fifth opens
-- the slot
abbrev pub call_made : Setting → State → Disks → ℕ → ℕ → ℕ → Disks
call_made m s d segment page calls =
    if calls == 1 then with_begun d segment page (page_now m s d segment page)
    else if calls == 5 then opened_with d segment page (d.begun segment page)
    else d

-- so many calls are made
abbrev pub called : Setting → State → Numbers → ℕ → ℕ → ℕ → Numbers
called m s x segment page calls = record x {
  disks = call_made m s x.disks segment page calls;
  calls = update_at x.calls segment page calls;
}

-- the page write has ended: its slot is the present one
abbrev pub page_settled : Numbers → ℕ → ℕ → Numbers
page_settled x segment page = record x {
  disks = settled_with x.disks segment page (x.disks.begun segment page);
  calls = update_at x.calls segment page 0;
  texts = update_at x.texts segment page (settled_text (x.texts segment page) (begun_number (x.disks.begun segment page)));
}

-- and the node has seen how clean the segment is now
abbrev pub written : Geometry → State → Numbers → ℕ → ℕ → ℕ → Numbers
written g s x node segment page = seen (cleaned g s (page_settled x segment page) segment) node segment

-- ResetStep

-- so many steps of a reset are done; the first seals the log
abbrev pub reset_to : Numbers → ℕ → ℕ → Numbers
reset_to x node steps = record x { disks = with_reset x.disks node; reset = update x.reset node steps }

-- what was stable is dropped, and the next round begins
abbrev pub reset_done : State → Numbers → ℕ → Numbers
reset_done s x node = record x {
  disks = with_dropped x.disks node (s.ack node);
  reset = update x.reset node 0;
  round = update x.round node (x.round node + 1);
}

-- All events

-- the numbers after this reply, but for the last step of a recovery
abbrev pub numbers_after : Setting → State → Numbers → Event → Reply → Numbers
numbers_after m s x (Close node thread) Accepted = closed_with s x node (find (is_unclosed node thread) s.history)
numbers_after m s x (Arrive node segment) Accepted = seen x node segment
numbers_after m s x (Deliver sender number segment to) (Applied last) = applied_to x to segment last
numbers_after m s x (Deliver sender number segment to) HeldBack =
    held_back x to segment (number_of segment (slice_get (records_of m s x.disks sender) (number - 1)))
numbers_after m s x (Trim node) (Trimmed count) = record x { trimmed = update x.trimmed node (x.trimmed node + count) }
numbers_after m s x (PageStep node segment page) (Stepped calls) = called m s x segment page calls
numbers_after m s x (PageStep node segment page) (Written number) = written m.geometry s x node segment page
numbers_after m s x (PageStep node segment page) (Refused DeviceFault) = called m s x segment page (x.calls segment page + 1)
numbers_after m s x (ResetStep node) (Stepped steps) = reset_to x node steps
numbers_after m s x (ResetStep node) Reset = reset_done s x node
numbers_after m s x (Stop choices) Down = record x { steps = 0 }
numbers_after m s x RecoverStep (Stepped steps) = record x { steps = steps }
numbers_after m s x RecoverStep (Refused refusal) = record x { steps = 0 }
numbers_after m s x event reply = x

-- the numbers of the segments where the cut is kept
abbrev pub kept_numbers : Phase → State → Numbers → ℕ → ℕ
kept_numbers Up s x = x.disks.numbers
kept_numbers (DownAt cut) s x = counted_all x.disks.numbers (kept s.history cut)

-- no page has a greater sequence than its segment's number
abbrev pub AreWithin : Geometry → (ℕ → ℕ) → (ℕ → ℕ → Page) → Type 0
AreWithin g numbers pages =
    (segment page : ℕ) → 1 ≤ segment → segment ≤ g.segments → page < g.pages → (pages segment page).sequence ≤ numbers segment

-- after the last step of a recovery the segments have the numbers of what the cut kept, and the pages that it left have
-- no greater ones
abbrev pub IsRecovered : Setting → State → Numbers → Numbers → Type 0
IsRecovered m s x new =
    (pages : ℕ → ℕ → Page) × (texts : ℕ → ℕ → PageText) × AreWithin m.geometry (kept_numbers s.phase s x) pages × (new ≡ recovered_numbers m.geometry (kept_numbers s.phase s x) pages texts)

-- the event and its reply lead from these numbers to those
abbrev pub Turns : Setting → State → Numbers → Event → Reply → Numbers → Type 0
Turns m s x RecoverStep Recovered new = IsRecovered m s x new
Turns m s x event reply new = new ≡ numbers_after m s x event reply

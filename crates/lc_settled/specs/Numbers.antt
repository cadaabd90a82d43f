-- What a store knows beside the machine's state: the numbers that settle the answers which the machine leaves open.
use Rattle.std.specs.Prelude.{ℕ, ◌+◌, Bool, ◌*◌, ◌%◌, ◌==◌, nat_le, List, [], ◌∷◌, drop, take, sum_by, if◌then◌else◌}
use Rattle.std.specs.List.{list_all}
use Rattle.lc_page.specs.declared.page_text.PageText.{PageText}
use Rattle.lc_record.specs.Record.{record_len}
use Rattle.lc_record.specs.Content.{segment_of}
use Rattle.lc_record.specs.Marks.{counting}
use Rattle.lc_record.specs.Recorded.{is_set, record_of}
use Rattle.lc_record.specs.Transaction.{Transaction}
use Rattle.lc_record.specs.declared.geometry.Geometry.{Geometry}
use Rattle.lc_record.specs.declared.record.Lock.{Lock}
use Rattle.lc_record.specs.declared.record.Record.{Record}
use Rattle.lc_model.specs.History.{transactions, value}
use Rattle.lc_model.specs.Merge.{Page}
use Rattle.lc_model.specs.Merging.{counted_all}
use Rattle.lc_model.specs.Recovered.{recovered_disks}
use Rattle.lc_model.specs.State.{Setting, State}
use Rattle.lc_model.specs.Stored.{Disks, records_of}
use Rattle.lc_token.specs.Clean.{closed_of}

pub record Numbers : Type 0 where
  -- what the disks hold beside the records of the history: each segment's number at the last recovery, what resets have
  -- dropped, the pages and the page writes under way
  pub disks : Disks
  -- by node: how many steps of a reset are done, 0 where none is under way; the round of its log; how many of its
  -- published records it has dropped
  pub reset : ℕ → ℕ
  pub round : ℕ → ℕ
  pub trimmed : ℕ → ℕ
  -- by node and segment: the number up to which the segment is applied; the numbers after a gap, ascending; the
  -- greatest `clean` that the node has seen
  pub applied : ℕ → ℕ → ℕ
  pub waiting : ℕ → ℕ → List ℕ
  pub known : ℕ → ℕ → ℕ
  -- by segment: the token's `clean`
  pub clean : ℕ → ℕ
  -- by segment and page: the greatest number under which the page was changed; how many of the six calls of a page write
  -- are made, 0 where none is under way
  pub touched : ℕ → ℕ → ℕ
  pub calls : ℕ → ℕ → ℕ
  -- by segment and page: what the disk says of the page, and while it is written what it said before
  pub texts : ℕ → ℕ → PageText
  -- how many steps a recovery has made
  pub steps : ℕ

-- after a recovery that gave the segments these numbers, and left these pages, of which the disk says this
abbrev pub recovered_numbers : Geometry → (ℕ → ℕ) → (ℕ → ℕ → Page) → (ℕ → ℕ → PageText) → Numbers
recovered_numbers g numbers pages texts = record {
  disks = recovered_disks numbers pages;
  reset = λ node. 0;
  round = λ node. 0;
  trimmed = λ node. 0;
  applied = λ node segment. numbers segment;
  waiting = λ node segment. [];
  known = λ node segment. if segment % g.nodes == node then numbers segment else 0;
  clean = numbers;
  touched = λ segment page. (pages segment page).sequence;
  calls = λ segment page. 0;
  texts = texts;
  steps = 0;
}

-- the token's number, wherever it is: it counts the closed records of the segment
abbrev pub token_number : State → Numbers → ℕ → ℕ
token_number s x segment = counted_all x.disks.numbers (closed_of s.history) segment

-- the page's sequence on the disk
abbrev pub stable : Numbers → ℕ → ℕ → ℕ
stable x segment page = (x.disks.page segment page).sequence

-- the transaction set a position of the page
abbrev pub sets_on : ℕ → ℕ → Transaction → Bool
sets_on segment page t = is_set (take 256 (drop (page * 256) (segment_of segment t.marks)))

-- the records of a node in the present round of its log, those that are not stable yet too
abbrev pub round_records : Setting → State → Numbers → ℕ → List Record
round_records m s x node = drop (x.disks.dropped node) (records_of m s x.disks node)

-- where they end, in words
abbrev pub log_end : Setting → State → Numbers → ℕ → ℕ
log_end m s x node = sum_by record_len (round_records m s x node)

-- of these the ones that are stable
abbrev pub stable_records : Setting → State → Numbers → ℕ → List Record
stable_records m s x node = drop (x.disks.dropped node) (take (s.ack node) (records_of m s x.disks node))

-- the records that a node has published and not dropped
abbrev pub published : Setting → State → Numbers → ℕ → List Record
published m s x node = drop (x.trimmed node) (take (s.ack node) (records_of m s x.disks node))

-- the record of a transaction that is reserved now
abbrev pub next_record : Setting → State → Numbers → Transaction → Record
next_record m s x t =
    record_of (counted_all x.disks.numbers (transactions s.history)) (value m.start s.earlier s.history) t

-- every node has applied the segment up to the lock's number
abbrev pub is_applied : Geometry → Numbers → Lock → Bool
is_applied g x lock = list_all (λ node. nat_le lock.seq (x.applied node lock.segment)) (counting 0 g.nodes)

-- the number up to which a segment is applied once these numbers, ascending, are there beside those up to this one
abbrev pub reached : ℕ → List ℕ → ℕ
reached applied [] = applied
reached applied (number ∷ numbers) = if number == applied + 1 then reached number numbers else applied

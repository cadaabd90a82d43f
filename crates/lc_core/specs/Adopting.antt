-- The numbers beside the state that a cluster at rest stands for, and the store that is built of it.
use Rattle.std.specs.Prelude.{◌≡◌, ℕ, ◌+◌, ◌<◌, ◌≤◌, true, false, [], map, drop, take, length, replicate, Some, None, slice_get, slice_index_or}
use Rattle.std.specs.Option.{ForSome}
use Rattle.lc_disk.specs.declared.area.Area.{Ghosts}
use Rattle.lc_page.specs.PageVector.{entry_at, entry_text}
use Rattle.lc_record.specs.Record.{spelling}
use Rattle.lc_record.specs.declared.record.Record.{Record}
use Rattle.lc_model.specs.State.{At, Travelling}
use Rattle.lc_model.specs.Refusals.{is_at}
use Rattle.lc_token.specs.Backlog.{fresh}
use Rattle.lc_token.specs.declared.token.Token.{Token}
use Rattle.lc_token.specs.KnownClean.{known as known_of}
use Rattle.lc_tx.specs.declared.holders.Holders.TheVariants.{Free as Unheld}
use Rattle.lc_page.specs.Page.{page_in}
use Rattle.lc_page.specs.PageWrite.{SettledIn}
use Rattle.lc_rest.specs.Found.{Found, last_number, machine_disks, machine_setting, machine_state, own_records}
use Rattle.lc_core.specs.Devices.{HonestLogs}
use Rattle.lc_journal.specs.Log.{Stands, is_idle}
use Rattle.lc_rest.specs.Pages.{as_read}
use Rattle.lc_core.specs.PageState.{resting}
use Rattle.lc_desk.specs.declared.pages.Pages.{Pages}
use Rattle.lc_core.specs.declared.up.Up.{Up as UpStore}
use Rattle.lc_settled.specs.Numbers.{Numbers}
use Rattle.lc_journal.specs.Records.{marks_of as closing_marks}
use Rattle.lc_desk.specs.Slots.{segment_to}
use Rattle.lc_events.specs.declared.node_state.NodeState.{NodeState}
use Rattle.lc_events.specs.declared.running.Running.{Running}
use Rattle.lc_desk.specs.Seat.{Free}
use Rattle.lc_desk.specs.declared.segment_copy.SegmentCopy.{SegmentCopy}

-- the numbers beside the state that it stands for
abbrev pub numbers_of : Found → Numbers
numbers_of f = record {
  disks = machine_disks f;
  reset = λ node. 0;
  round = f.round;
  trimmed = f.dropped;
  applied = f.applied;
  waiting = λ node segment. [];
  known = f.known;
  clean = f.clean;
  touched = f.touched;
  calls = λ segment page. 0;
  texts = f.texts;
  steps = 0;
}

-- What is built of it

-- the token of a segment says what is known of it, and no byte of its pages is uncommitted
pub record IsAdoptedToken (f : Found) (segment : ℕ) (token : Token) : Type 0 where
  pub segment_is : token.segment ≡ segment
  pub number : token.seq ≡ last_number f segment
  pub clean : token.clean ≡ f.clean segment
  pub pages : length token.pages ≡ f.geometry.pages
  pub touched : (page : ℕ) → page < f.geometry.pages → (entry_at token.pages page).touched ≡ f.touched segment page
  pub stable : (page : ℕ) → page < f.geometry.pages → (entry_at token.pages page).stable ≡ (f.pages segment page).sequence
  pub text : (page : ℕ) → page < f.geometry.pages → entry_text (entry_at token.pages page) ≡ f.texts segment page
  pub uncounted : (page : ℕ) → page < f.geometry.pages → (entry_at token.pages page).uncommitted ≡ 0

-- a segment at a node: its bytes up to the number that the node has applied, which no transaction holds; the token where it is
pub record IsAdoptedSlot (f : Found) (node segment : ℕ) (slot : SegmentCopy) : Type 0 where
  pub bytes : slot.image.bytes.items ≡ segment_to (machine_setting f) (machine_state f) (machine_disks f) segment (f.applied node segment)
  pub holders : slot.image.holders ≡ Unheld
  pub token : ForSome slot.token.token (λ token. (f.place segment ≡ At node) × IsAdoptedToken f segment token)
  pub none : slot.token.token ≡ None → is_at node (f.place segment) ≡ false
  pub parts : slot.parts ≡ fresh segment (f.applied node segment)

module _ {D : Type 0} (a : Ghosts D) where
  -- a node of which no thread does anything, with its log at rest
  pub record IsAdoptedNode (f : Found) (n : ℕ) (node : NodeState D a) : Type 0 where
    pub seats : node.desk.seats.items ≡ replicate f.geometry.threads Free
    pub slots_count : length node.desk.here.slots.items ≡ f.geometry.segments
    pub slots : (k : ℕ) (slot : SegmentCopy) → slice_get node.desk.here.slots.items k ≡ Some slot → IsAdoptedSlot f n (k + 1) slot
    -- the log has the stable records that no reset dropped
    pub log : Stands a node.journal.log 0 (drop (f.dropped n) (take (f.stable n) (own_records f n))) []
    pub works : is_idle a node.journal.log ≡ true
    pub room : node.journal.group.room ≡ f.geometry.words
    -- those that no reset dropped are kept, all of them closed
    pub before : node.journal.records.before ≡ f.dropped n
    pub words : map (λ r. r.words) node.journal.records.records ≡ map spelling (drop (f.dropped n) (own_records f n))
    pub marks : closing_marks node.journal.records.records ≡ map (λ (r : Record). true) (drop (f.dropped n) (own_records f n))
    pub dropped : node.journal.dropped ≡ f.dropped n
    pub trimmed : node.journal.trimmed ≡ f.dropped n
    pub taken : node.journal.taken ≡ f.stable n
    pub acked : node.journal.acked ≡ f.stable n
    pub round : node.journal.round ≡ f.round n
    pub known : (segment : ℕ) → 1 ≤ segment → segment ≤ f.geometry.segments → known_of node.known segment ≡ f.known n segment

  -- all nodes, and the tokens that are on their way
  pub record IsAdopted (f : Found) (w : Running D a) : Type 0 where
    pub geometry : w.geometry ≡ f.geometry
    pub count : length w.nodes.items ≡ f.geometry.nodes
    pub each : (n : ℕ) (node : NodeState D a) → slice_get w.nodes.items n ≡ Some node → IsAdoptedNode f n node
    pub travelling_count : length w.travelling.items ≡ f.geometry.segments
    pub travelling : (k : ℕ) (token : Token) → slice_get w.travelling.items k ≡ Some (Some token) → (f.place (k + 1) ≡ Travelling) × IsAdoptedToken f (k + 1) token
    pub standing : (k : ℕ) → slice_get w.travelling.items k ≡ Some None → f.place (k + 1) ≡ Travelling → ⊥

module _ {D : Type 0} (a : Ghosts D) where
  -- the area of a segment, of which no page is being written: each image reads as it does, and as was found
  pub record IsAdoptedArea (f : Found) (segment : ℕ) (pages : Pages D a) : Type 0 where
    pub honest : a.honest pages.area ≡ true
    pub bytes : (at : ℕ) → slice_index_or (a.now pages.area) at 0 < 256
    pub rest : pages.writes.items ≡ resting f.geometry
    pub settled : (page : ℕ) → page < f.geometry.pages → SettledIn a pages.area page (f.texts segment page)
    pub reads : (page : ℕ) → page < f.geometry.pages → page_in (a.now pages.area) page ≡ as_read (f.pages segment page)

  -- the nodes, whose logs keep to the model of a disk, and the areas of all segments
  pub record IsAdoptedUp (f : Found) (up : UpStore D a) : Type 0 where
    pub running : IsAdopted a f up.running
    pub honest : HonestLogs a up.running.nodes.items
    pub count : length up.segments.items ≡ f.geometry.segments
    pub areas : (k : ℕ) (pages : Pages D a) → slice_get up.segments.items k ≡ Some pages → IsAdoptedArea f (k + 1) pages

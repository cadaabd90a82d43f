-- A log that is read: it stands as before, and what it reads as is what its node has logged.
use Rattle.std.proofs.Common.{◌≡◌, ℕ, ◌+◌, ◌*◌, ◌<◌, ◌≤◌, Bool, true, false, List, [], ◌++◌, drop, length, take, Option, Some, None, refl, sym, ap, subst, ◌∙◌, inl, inr, arith}
use Rattle.std.proofs.lemmas.Bool.{cases_Bool, cases_eq, lt-ltb}
use Rattle.std.proofs.lemmas.Option.{slice_get-map, same_Some as same_some}
use Rattle.std.proofs.lemmas.List.{length-set, take-append-le, drop-set-lt}
use Rattle.std.proofs.Math.Seq.{take-length}
use Rattle.std.specs.Prelude.{◌⊎◌, if◌then◌else◌, map, nat_lt, not, option_map, slice_get, slice_index_or, slice_set, option_and_then, vec_items, Result, Err, Vec}
use Rattle.std.specs.Global.{Global}
use Rattle.lc_disk.specs.Area.{IsImage}
use Rattle.lc_disk.specs.declared.area.Area.{Ghosts}
use Rattle.lc_record.specs.Words.{words_of}
use Rattle.lc_record.specs.declared.geometry.Geometry.{Geometry}
use Rattle.lc_record.specs.declared.record.Record.{Record}
use Rattle.lc_log.specs.LogText.{IsLogText, joined}
use Rattle.lc_log.specs.NodeLog.{IsClosing, IsIdle, IsOpened, IsWithOrWithout, IsWritten, LeavesOnly}
use Rattle.lc_log.proofs.LogLemmas.{closed_text, one_text-by, text_at_rest}
use Rattle.lc_log.proofs.StateLemmas.{group_flushed}
use Rattle.lc_token.specs.declared.token.Token.{Token}
use Rattle.lc_record.specs.declared.group.Group.{Group}
use Rattle.lc_model.specs.State.{DownAt, Up as IsUpNow, Setting, State}
use Rattle.lc_model.specs.Stored.{records_of}
use Rattle.lc_recover.specs.Reads.{AreHonest, AreImages, HaveLengths, area_count}
use Rattle.lc_recover.specs.Recovery.{IsReadFrom, Recovering}
use Rattle.lc_recover.proofs.SameArea.{same-functions}
use Rattle.lc_desk.specs.Desk.{FitsDesk}
use Rattle.lc_journal.specs.Journal.{FitsLog}
use Rattle.lc_token.specs.KnownClean.{known as known_of}
use Rattle.lc_core.specs.Lives.{StillLives}
use Rattle.lc_journal.specs.Log.{Stands, HasReset, IsLeft, area_of, is_failed}
use Rattle.lc_core.specs.LogWords.{AreLogged, AreWordsOf, IsSameBut, ReadsLog, ReadsNone, log_area}
use Rattle.lc_events.specs.LogWords.{IsNodeKept, IsNodeRead, log_in}
use Rattle.lc_journal.specs.LogWords.{has_failed}
use Rattle.lc_events.specs.NodeState.{FitsNode}
use Rattle.lc_settled.specs.Numbers.{Numbers, stable_records}
use Rattle.lc_core.specs.Devices.{HonestLogs, HonestSegments}
use Rattle.lc_core.specs.Paging.{HaltAll}
use Rattle.lc_events.specs.Faults.{SameDevices}
use Rattle.lc_desk.specs.Pages.{FitsPages}
use Rattle.lc_core.specs.Pages.{areas_of}
use Rattle.lc_core.specs.Paging.{HaltAll}
use Rattle.lc_core.proofs.Devices.{honest_kept}
use Rattle.lc_desk.specs.Places.{get_set_other, get_set_same}
use Rattle.lc_journal.specs.Records.{KeptRecords}
use Rattle.lc_events.specs.Running.{FitsAll, FitsRunning}
use Rattle.lc_desk.specs.Slots.{FitsSlots, besides_of}
use Rattle.lc_core.specs.World.{FitsDown, FitsPhase, StillFitsUp}
use Rattle.lc_desk.specs.declared.desk.Desk.{Desk}
use Rattle.lc_journal.specs.declared.log.Log.{Log}
use Rattle.lc_journal.specs.declared.log.Log.TheVariants.{Idle, Written, Synced, Opened, Sealed, Closing, Emptied, Failed, Torn, Taken}
use Rattle.lc_events.specs.declared.node_state.NodeState.{NodeState}
use Rattle.lc_desk.specs.declared.pages.Pages.{Pages}
use Rattle.lc_core.specs.declared.world_phase.WorldPhase.{WorldPhase}
use Rattle.lc_core.specs.declared.world_phase.WorldPhase.TheVariants.{Down, Up, Taken as IsTaken}
use Rattle.lc_events.specs.declared.running.Running.{Running}
use Rattle.lc_journal.specs.declared.show_fault.ShowFault.{ShowFault}
use Rattle.lc_journal.specs.declared.show_fault.ShowFault.TheVariants.{DeviceFault, NoMemory, Unknown}
use Rattle.lc_core.specs.declared.up.Up.{Up as Rising}
use Rattle.lc_journal.proofs.Flushing.{more_stable}
use Rattle.lc_core.proofs.Living.{up_still_lives}
use Rattle.lc_events.proofs.Onward.{still_onward}

-- the words of a text's records are in front
pub text_front : (words : List ℕ) (records : List Record) → IsLogText words records → take (length (joined records)) words ≡ joined records
text_front words records text =
    let front = joined records in
    ap (take (length front)) text.text ∙ take-append-le (length front) front text.rest (omega arith) ∙ take-length front

-- a buffer that was filled whole
pub whole_read : (n : ℕ) (buffer now rest : List ℕ) → buffer ≡ now → length now ≡ n → take n (buffer ++ rest) ≡ now
whole_read n buffer now rest is len =
    ap (λ (l : List ℕ). take n (l ++ rest)) is ∙ ap (λ (k : ℕ). take k (now ++ rest)) (sym len)
    ∙ take-append-le (length now) now rest (omega arith) ∙ take-length now

-- what a fault is handed on as

same_err : {A : Type 0} (one other : ShowFault) → ◌≡◌ {A = Result A ShowFault} (Err one) (Err other) → one ≡ other
same_err one other same = cc

pub handed_on : {A B : Type 0} (result : Result A ShowFault) (inner : Result B ShowFault) (one fault other : ShowFault) → result ≡ Err one → one ≡ fault → inner ≡ Err fault
    → inner ≡ Err other → result ≡ Err other
handed_on {B} result inner one fault other is same was known = is ∙ ap (λ (f : ShowFault). Err f) (same ∙ same_err {A = B} fault other (sym was ∙ known))

fails_alike : (A B : Type 0) (fault : ShowFault) → has_failed {A = B} (Err fault) ≡ has_failed {A = A} (Err fault)
fails_alike A B Unknown = refl
fails_alike A B DeviceFault = refl
fails_alike A B NoMemory = refl

pub handed_failed : {A B : Type 0} (result : Result A ShowFault) (inner : Result B ShowFault) (one fault : ShowFault) → result ≡ Err one → one ≡ fault → inner ≡ Err fault
    → has_failed inner ≡ has_failed result
handed_failed {A} {B} result inner one fault is same was = ap has_failed was ∙ fails_alike A B fault ∙ ap has_failed (sym (is ∙ ap (λ (f : ShowFault). Err f) same))

-- what is left of the words of an area, cut after its records
pub front_shown : (now bytes words slice shown : List ℕ) (found : List Record) (len : ℕ) → bytes ≡ now → words ≡ words_of bytes → slice ≡ words → IsLogText slice found → len ≡ length (joined found)
    → shown ≡ take len words → (records : List Record) → IsLogText (words_of now) records → shown ≡ joined records
front_shown now bytes words slice shown found len bytes_are words_are slice_is text len_is shown_is records other =
    let all : words ≡ words_of now = words_are ∙ ap words_of bytes_are in
    let its : IsLogText (words_of now) found = subst (λ (l : List ℕ). IsLogText l found) (slice_is ∙ all) text in
    shown_is ∙ ap (λ (l : List ℕ). take len l) all ∙ ap (λ (n : ℕ). take n (words_of now)) len_is
    ∙ text_front (words_of now) found its ∙ ap joined (one_text-by (words_of now) found records its other)

module _ {D : Type 0} (a : Ghosts D) where
  -- The areas of a store that is down

  module _ (r : Recovering D) (node at : ℕ) (was is : List ℕ) (news : List D) (ok : Bool) (read : IsReadFrom a node at was is r.areas news ok) (below : node < r.geometry.nodes) where
    abbrev new : Recovering D
    new = record r { areas = news }

    got : (k : ℕ) → k ≡ node → slice_get news k ≡ Some read.call.new
    got k same = ap (slice_get news) same ∙ ap (λ l. slice_get l node) read.call.is ∙ get_set_same r.areas node read.call.old read.call.new read.call.was

    others : (k : ℕ) → (k ≡ node → ⊥) → slice_get news k ≡ slice_get r.areas k
    others k differ = ap (λ l. slice_get l k) read.call.is ∙ get_set_other r.areas node k read.call.new differ

    honest_still : AreHonest a r.areas → AreHonest a news
    honest_still honest k device there = elim (cases_eq k node) [
      | inl same ↦
          (let one : device ≡ read.call.new = same_some device read.call.new (sym there ∙ got k same) in
          ap a.honest one ∙ read.call.honest ∙ honest node read.call.old read.call.was)
      | inr differ ↦ honest k device (sym (others k differ) ∙ there)
    ]

    images_still : AreHonest a r.areas → (images : List (List ℕ)) → AreImages a news images → AreImages a r.areas images
    images_still honest images are = record {
      count = are.count ∙ ap length read.call.is ∙ length-set r.areas node read.call.new;
      each = λ k device there. elim (cases_eq k node) [
        | inl same ↦
            (let one : device ≡ read.call.old = same_some device read.call.old (sym there ∙ ap (slice_get r.areas) same ∙ read.call.was) in
            let true_then = honest node read.call.old read.call.was in
            let image = are.each k read.call.new (got k same) in
            subst (λ (d : D). IsImage (a.now d) (a.dirty d) (slice_index_or images k [])) (sym one)
            (subst (λ (f : ℕ → Bool). IsImage (a.now read.call.old) f (slice_index_or images k [])) (same-functions _ _ (read.same_dirty true_then))
            (subst (λ (bytes : List ℕ). IsImage bytes (a.dirty read.call.new) (slice_index_or images k [])) (read.same true_then) image)))
        | inr differ ↦ are.each k device (others k differ ∙ there)
      ];
    }

    still_down : HaveLengths a r.geometry news → (m : Setting) (s : State) (x : Numbers) → FitsDown a m r s x → FitsDown a m new s x
    still_down lengths_now m s x h = record {
      geometry_is = h.geometry_is;
      cut = h.cut;
      down = h.down;
      sound = h.sound;
      lengths = lengths_now;
      honest = honest_still h.honest;
      merges = λ images are. h.merges images (images_still h.honest images are);
      steps_are = h.steps_are;
    }

    still_lives : StillLives a (Down r) (Down new)
    still_lives g None fits = fits
    still_lives g (Some life) fits = absurd fits

    known : nat_lt node r.geometry.nodes ≡ true
    known = lt-ltb node r.geometry.nodes below

    -- the area of a node's log, and no other, was read
    down_same : HaveLengths a r.geometry news → IsSameBut a node (Down r) (Down new)
    down_same lengths_now = record {
      others = λ other differ. ap (λ o. if nat_lt other r.geometry.nodes then o else None) (others other differ);
      segments = ap (drop r.geometry.nodes) read.call.is ∙ drop-set-lt r.geometry.nodes r.areas node read.call.new below;
      geometry = refl;
      still = still_down lengths_now;
      lives = still_lives;
    }

    down_there : (next : D) → next ≡ read.call.new → log_area a (Down new) node ≡ Some next
    down_there next is = ap (λ b. if b then slice_get news node else None) known ∙ got node refl ∙ ap Some (sym is)

    pub down_reads : (failed : Bool) → ok ≡ not failed → HaveLengths a r.geometry r.areas → HaveLengths a r.geometry news
        → ReadsLog a node read.call.old (Down r) (Down new) failed
    down_reads failed is lengths lengths_now = record {
      next = read.call.new;
      there = down_there read.call.new refl;
      read = record {
        honest = read.call.honest;
        same_length = lengths_same;
        same = read.same;
        same_dirty = read.same_dirty;
        counted = read.call.counted ∙ counts failed is;
      };
      same = down_same lengths_now;
    }
      where
        long : (l : List D) (k : ℕ) (d : D) → slice_get l k ≡ Some d → slice_get (map (λ e. length (a.now e)) l) k ≡ Some (length (a.now d))
        long l k d there = slice_get-map (λ e. length (a.now e)) l k ∙ ap (option_map (λ e. length (a.now e))) there

        lengths_same : length (a.now read.call.new) ≡ length (a.now read.call.old)
        lengths_same = same_some _ _ (sym (long news node read.call.new (got node refl)) ∙ lengths_now node ∙ sym (lengths node) ∙ long r.areas node read.call.old read.call.was)

        counts : (failed : Bool) → ok ≡ not failed → (if ok then a.failures read.call.old else a.failures read.call.old + 1) ≡ (if failed then a.failures read.call.old + 1 else a.failures read.call.old)
        counts true is = ap (λ b. if b then a.failures read.call.old else a.failures read.call.old + 1) is
        counts false is = ap (λ b. if b then a.failures read.call.old else a.failures read.call.old + 1) is

  -- nothing is read
  pub same_phase : (node : ℕ) (phase : WorldPhase D a) → IsSameBut a node phase phase
  same_phase node phase = record { others = λ other differ. refl; segments = refl; geometry = refl; still = λ m s x fits. fits; lives = λ g at fits. fits }

  pub not_read : (node : ℕ) (area : D) (phase : WorldPhase D a) → log_area a phase node ≡ Some area → ReadsLog a node area phase phase false
  not_read node area phase there = record {
    next = area;
    there = there;
    read = record { honest = refl; same_length = refl; same = λ honest. refl; same_dirty = λ honest k. refl; counted = refl };
    same = same_phase node phase;
  }

  pub down_area : (r : Recovering D) (node : ℕ) (area : D) → node < r.geometry.nodes → log_area a (Down r) node ≡ Some area → slice_get r.areas node ≡ Some area
  down_area r node area below there = ap (λ b. if b then slice_get r.areas node else None) (sym (lt-ltb node r.geometry.nodes below)) ∙ there

  pub down_read : (r new : Recovering D) (node at : ℕ) (was is : List ℕ) (ok failed : Bool) → IsReadFrom a node at was is r.areas new.areas ok → new ≡ record r { areas = new.areas }
      → HaveLengths a r.geometry r.areas → HaveLengths a new.geometry new.areas → node < r.geometry.nodes → ok ≡ not failed
      → (area : D) → log_area a (Down r) node ≡ Some area → ReadsLog a node area (Down r) (Down new) failed
  down_read r new node at was is ok failed read same lengths lengths_now below is_failed area there =
      let one : read.call.old ≡ area = same_some _ _ (sym read.call.was ∙ down_area r node area below there) in
      let now = subst (λ (n : Recovering D). HaveLengths a n.geometry n.areas) same lengths_now in
      subst (λ (n : Recovering D). ReadsLog a node area (Down r) (Down n) failed) (sym same)
      (subst (λ (d : D). ReadsLog a node d (Down r) (Down (record r { areas = new.areas })) failed) one
      (down_reads r node at was is new.areas ok read below failed is_failed lengths now))

  pub log_length : (r : Recovering D) (node : ℕ) (area : D) → HaveLengths a r.geometry r.areas → node < r.geometry.nodes → slice_get r.areas node ≡ Some area
      → length (a.now area) ≡ 8 * (r.geometry.words + 1)
  log_length r node area lengths below there = same_some _ _
      (sym (slice_get-map (λ e. length (a.now e)) r.areas node ∙ ap (option_map (λ e. length (a.now e))) there)
      ∙ lengths node
      ∙ ap (λ b. if b then Some (8 * (r.geometry.words + 1)) else (if nat_lt node (area_count r.geometry) then Some (2 * 272 * r.geometry.pages) else None)) (lt-ltb node r.geometry.nodes below))

  pub down_bytes : (r : Recovering D) (node n : ℕ) (was is rest : List ℕ) (news : List D) → IsReadFrom a node 0 was is r.areas news true → HaveLengths a r.geometry r.areas
      → node < r.geometry.nodes → length was ≡ n → n ≡ 8 * (r.geometry.words + 1)
      → (area : D) → log_area a (Down r) node ≡ Some area → a.honest area ≡ true → take n (is ++ rest) ≡ a.now area
  down_bytes r node n was is rest news read lengths below length_is n_is area there honest =
      let at = down_area r node area below there in
      let one : read.call.old ≡ area = same_some _ _ (sym read.call.was ∙ at) in
      let long : length (a.now area) ≡ n = log_length r node area lengths below at ∙ sym n_is in
      let filled : is ≡ a.now area =
      read.bytes refl (ap a.honest one ∙ honest)
      ∙ ap (λ (k : ℕ). take k (a.now read.call.old)) (length_is ∙ sym long)
      ∙ ap (λ (d : D). take (length (a.now area)) (a.now d)) one
      ∙ take-length (a.now area) in
      whole_read n is (a.now area) rest filled long

  -- The nodes of a store that is up

  module _ (n : ℕ) (node : NodeState D a) (old new : Running D a) (kept : IsNodeKept a n node old new) (at : slice_get old.nodes.items n ≡ Some node) where
    node_still : (m : Setting) (s : State) (x : Numbers) → FitsNode a m n node s x → FitsNode a m n kept.now s x
    node_still m s x h = record {
      desk = subst (λ (d : Desk). FitsDesk m n d.here d.seats.items s) (sym kept.desk) h.desk;
      slots = subst (λ (d : Desk). FitsSlots m n (besides_of d.here) s x) (sym kept.desk) h.slots;
      journal = rw (kept.journal.records, kept.journal.dropped, kept.journal.trimmed, kept.journal.taken, kept.journal.acked) log_still;
      room = ap (λ (group : Group). group.room) kept.journal.group ∙ h.room;
      round = kept.journal.round ∙ h.round;
      known = λ segment first last. ap (λ (ns : List ℕ). known_of ns segment) kept.known ∙ h.known segment first last;
    }
      where
        log_still : FitsLog a m n kept.now.journal.log node.journal.records node.journal.dropped node.journal.trimmed node.journal.taken node.journal.acked s x
        log_still = record {
          words = h.journal.words;
          marks = h.journal.marks;
          all_closed = h.journal.all_closed;
          whole = h.journal.whole;
          stands = kept.keeps.stands _ _ _ h.journal.stands;
          halted = h.journal.halted ∙ sym kept.keeps.failed;
          dropped_is = h.journal.dropped_is;
          trimmed_is = h.journal.trimmed_is;
          acked_is = h.journal.acked_is;
          taken_is = h.journal.taken_is;
          reset_is = kept.keeps.reset _ h.journal.reset_is;
        }

    all_still : (m : Setting) (s : State) (x : Numbers) → FitsRunning a m old s x → FitsRunning a m new s x
    all_still m s x h =
        subst (λ (g : Geometry). FitsAll a m g new.nodes.items new.travelling.items s x) (sym kept.geometry)
        (subst (λ (nodes : List (NodeState D a)). FitsAll a m old.geometry nodes new.travelling.items s x) (sym kept.nodes)
        (subst (λ (tokens : List (Option Token)). FitsAll a m old.geometry (slice_set old.nodes.items n kept.now) tokens s x) (sym (ap vec_items kept.travelling))
        (still_onward a m n s x old.geometry old.nodes.items old.travelling.items node kept.now at (node_still m s x) h)))

    own_log : log_in a new.nodes.items n ≡ area_of a kept.now.journal.log
    own_log = ap (λ nodes. log_in a nodes n) kept.nodes ∙ ap (option_and_then (λ (its : NodeState D a). area_of a its.journal.log)) (get_set_same old.nodes.items n node kept.now at)

    other_logs : (other : ℕ) → (other ≡ n → ⊥) → log_in a new.nodes.items other ≡ log_in a old.nodes.items other
    other_logs other differ = ap (λ nodes. log_in a nodes other) kept.nodes ∙ ap (option_and_then (λ (its : NodeState D a). area_of a its.journal.log)) (get_set_other old.nodes.items n other kept.now differ)

  -- the segments of a store that is up are as before, and its nodes have the same devices
  record IsLater (up later : Rising D a) : Type 0 where
    pub segments : later.segments ≡ up.segments
    pub devices : SameDevices a up.running later.running

  up_still : (n : ℕ) (node : NodeState D a) (up later : Rising D a) (kept : IsNodeKept a n node up.running later.running) (at : slice_get up.running.nodes.items n ≡ Some node) → IsLater up later
      → StillFitsUp a up later
  up_still n node up later kept at is m s x fits = record {
    running = all_still n node up.running later.running kept at m s x fits.running;
    pages = subst (λ (segments : Vec (Pages D a) Global). FitsPages a m segments.items x) (sym is.segments) fits.pages;
    failed = subst (λ (segments : Vec (Pages D a) Global). HaltAll a s segments.items) (sym is.segments) fits.failed;
  }

  up_same : (n : ℕ) (node : NodeState D a) (up later : Rising D a) (kept : IsNodeKept a n node up.running later.running) (at : slice_get up.running.nodes.items n ≡ Some node) → IsLater up later
      → IsSameBut a n (Up up) (Up later)
  up_same n node up later kept at is = record {
    others = other_logs n node up.running later.running kept at;
    segments = ap (λ (segments : Vec (Pages D a) Global). areas_of a segments.items) is.segments;
    geometry = ap (λ (g : Geometry). Some g) is.devices.geometry;
    lives = up_still_lives a (Up up) up later refl (up_still n node up later kept at is);
    still = λ m s x fits. (
      up_still n node up later kept at is m s x fits.0,
      record {
        logs = honest_kept a up.running.nodes.items later.running.nodes.items is.devices.kinds fits.1.logs;
        segments = subst (λ (segments : Vec (Pages D a) Global). HonestSegments a segments.items) (sym is.segments) fits.1.segments;
      },
    );
  }

  -- the nodes are as before
  none_still : (up later : Rising D a) → later.running ≡ up.running → IsLater up later → StillFitsUp a up later
  none_still up later same is m s x fits = record {
    running = subst (λ (w : Running D a). FitsRunning a m w s x) (sym same) fits.running;
    pages = subst (λ (segments : Vec (Pages D a) Global). FitsPages a m segments.items x) (sym is.segments) fits.pages;
    failed = subst (λ (segments : Vec (Pages D a) Global). HaltAll a s segments.items) (sym is.segments) fits.failed;
  }

  none_same : (n : ℕ) (up later : Rising D a) → later.running ≡ up.running → IsLater up later → IsSameBut a n (Up up) (Up later)
  none_same n up later same is = record {
    others = λ other differ. ap (λ (w : Running D a). log_in a w.nodes.items other) same;
    segments = ap (λ (segments : Vec (Pages D a) Global). areas_of a segments.items) is.segments;
    geometry = ap (λ (g : Geometry). Some g) is.devices.geometry;
    lives = up_still_lives a (Up up) up later refl (none_still up later same is);
    still = λ m s x fits. (
      none_still up later same is m s x fits.0,
      record {
        logs = subst (λ (w : Running D a). HonestLogs a w.nodes.items) (sym same) fits.1.logs;
        segments = subst (λ (segments : Vec (Pages D a) Global). HonestSegments a segments.items) (sym is.segments) fits.1.segments;
      },
    );
  }

  node_of : (nodes : List (NodeState D a)) (n : ℕ) (area : D) → log_in a nodes n ≡ Some area → (its : NodeState D a) × (slice_get nodes n ≡ Some its) × (area_of a its.journal.log ≡ Some area)
  node_of nodes n area there = elim (slice_get nodes n) as (λ (o : Option (NodeState D a)). slice_get nodes n ≡ o → option_and_then (λ (its : NodeState D a). area_of a its.journal.log) o ≡ Some area
      → (its : NodeState D a) × (slice_get nodes n ≡ Some its) × (area_of a its.journal.log ≡ Some area)) [
        | None ↦ λ e h. absurd cc
        | Some its ↦ λ e h. (its, e, h)
      ] refl there

  pub same_down : (one other : Recovering D) → ◌≡◌ {A = WorldPhase D a} (Down one) (Down other) → one ≡ other
  same_down one other same = cc

  pub down_none : (r late : Recovering D) (node : ℕ) → late ≡ r → log_area a (Down r) node ≡ None → ReadsNone a node (Down r) (Down late)
  down_none r late node same none = subst (λ (n : Recovering D). ReadsNone a node (Down r) (Down n)) (sym same) (record { there = none; same = same_phase node (Down r) })

  pub up_reads : (up later : Rising D a) (n : ℕ) (R : Type 0) (failed : Bool) → later.segments ≡ up.segments → SameDevices a up.running later.running
      → ((area : D) (its : NodeState D a) → slice_get up.running.nodes.items n ≡ Some its → area_of a its.journal.log ≡ Some area → R × IsNodeRead a n its area up.running later.running failed)
      → (area : D) → log_in a up.running.nodes.items n ≡ Some area → R × ReadsLog a n area (Up up) (Up later) failed
  up_reads up later n R failed segments devices each area there =
      let its = node_of up.running.nodes.items n area there in
      let one = each area its.0 its.1 its.2 in (
        one.0,
        record {
          next = one.1.next;
          there = own_log n its.0 up.running later.running one.1.kept its.1 ∙ one.1.there;
          read = one.1.read;
          same = up_same n its.0 up later one.1.kept its.1 (record { segments = segments; devices = devices });
        },
      )

  pub up_none : (up later : Rising D a) (n : ℕ) (R : Type 0) → later.segments ≡ up.segments → SameDevices a up.running later.running
      → (slice_get up.running.nodes.items n ≡ None → R × (later.running ≡ up.running))
      → ((its : NodeState D a) → slice_get up.running.nodes.items n ≡ Some its → area_of a its.journal.log ≡ None → R × (kept : IsNodeKept a n its up.running later.running) × (area_of a kept.now.journal.log ≡ None))
      → log_in a up.running.nodes.items n ≡ None → R × ReadsNone a n (Up up) (Up later)
  up_none up later n R segments devices outside inside none = elim (slice_get up.running.nodes.items n) as (λ (o : Option (NodeState D a)). slice_get up.running.nodes.items n ≡ o
      → option_and_then (λ (its : NodeState D a). area_of a its.journal.log) o ≡ None → R × ReadsNone a n (Up up) (Up later)) [
        | None ↦ λ e h.
            (let same = outside e in (
              same.0,
              record {
                there = ap (λ (w : Running D a). log_in a w.nodes.items n) same.1 ∙ none;
                same = none_same n up later same.1 (record { segments = segments; devices = devices });
              },
            ))
        | Some its ↦ λ e h.
            (let one = inside its e h in (
              one.0,
              record {
                there = own_log n its up.running later.running one.1 e ∙ one.2;
                same = up_same n its up later one.1 e (record { segments = segments; devices = devices });
              },
            ))
      ] refl none

  -- What a log reads as

  abbrev text_at : ℕ → ℕ → List Record → List Record → List Record
  text_at reset steps stable group = if nat_lt 1 reset then [] else if nat_lt 2 steps then stable ++ group else stable

  rests : (one area : D) (end : ℕ) (stable : List Record) → one ≡ area → a.honest area ≡ true → IsIdle a one end stable → IsLogText (words_of (a.now area)) stable
  rests one area end stable same honest idle =
      subst (λ (d : D). IsLogText (words_of (a.now d)) stable) same (text_at_rest (a.now one) (a.dirty one) end stable (idle (ap a.honest same ∙ honest)))

  staged : (one area : D) (end words : ℕ) (stable group : List Record) → one ≡ area → a.honest area ≡ true → IsWritten a one end words stable group → IsLogText (words_of (a.now area)) stable
  staged one area end words stable group same honest written = rests one area end stable same honest (λ is. (written is).at_rest)

  opened : (one area : D) (end words : ℕ) (stable group : List Record) → one ≡ area → a.honest area ≡ true → IsOpened a one end words stable group → IsLogText (words_of (a.now area)) (stable ++ group)
  opened one area end words stable group same honest opening =
      subst (λ (d : D). IsLogText (words_of (a.now d)) (stable ++ group)) same
      (text_at_rest (a.now one) (λ k. false) (end + words) (stable ++ group)
      (group_flushed (a.now one) (a.now one) (a.dirty one) (λ k. false) end stable words group (opening (ap a.honest same ∙ honest)) (λ k. refl)))

  shut : (one area : D) (stable : List Record) → one ≡ area → a.honest area ≡ true → IsClosing a one stable → IsLogText (words_of (a.now area)) []
  shut one area stable same honest closing =
      let at = closing (ap a.honest same ∙ honest) in
      subst (λ (d : D). IsLogText (words_of (a.now d)) []) same
      (subst (λ (l : List ℕ). IsLogText (words_of l) []) (sym at.text) (closed_text [] at.gate at.behind tt at.closed))

  reads_as : (log : Log D a) (area : D) (reset steps : ℕ) (stable group : List Record) → area_of a log ≡ Some area → a.honest area ≡ true → is_failed a log ≡ false → HasReset a log reset
      → Stands a log steps stable group → IsLogText (words_of (a.now area)) (text_at reset steps stable group)
  reads_as (Idle log) area reset steps stable group is honest works at stands = rw (at, stands.0) (rests log.area area log.end stable (same_some log.area area is) honest stands.2)
  reads_as (Written log) area reset steps stable group is honest works at stands =
      rw (at, stands.0) (staged log.area area log.end log.words stable group (same_some log.area area is) honest stands.1)
  reads_as (Synced log) area reset steps stable group is honest works at stands =
      rw (at, stands.0) (staged log.area area log.end log.words stable group (same_some log.area area is) honest (λ honest. (stands.1 honest).0))
  reads_as (Opened log) area reset steps stable group is honest works at stands =
      rw (at, stands.0) (opened log.area area log.end log.words stable group (same_some log.area area is) honest stands.1)
  reads_as (Sealed log) area reset steps stable group is honest works at stands = rw (at, stands.0) (rests log.area area log.end stable (same_some log.area area is) honest stands.2)
  reads_as (Closing log) area reset steps stable group is honest works at stands = rw at (shut log.area area stable (same_some log.area area is) honest stands.2)
  reads_as (Emptied log) area reset steps stable group is honest works at stands = rw at (rests log.area area log.end [] (same_some log.area area is) honest stands.2)
  reads_as (Failed log) area reset steps stable group is honest works at stands = absurd cc
  reads_as (Torn log) area reset steps stable group is honest works at stands = absurd cc
  reads_as Taken area reset steps stable group is honest works at stands = absurd cc

  -- the area itself is one of those that a stop may leave
  own_image : (P : List ℕ → Type 0) (one area : D) → one ≡ area → a.honest area ≡ true → ((k : ℕ) → slice_index_or (a.now area) k 0 < 256) → LeavesOnly a one P → P (words_of (a.now area))
  own_image P one area same honest fits leaves =
      leaves (ap a.honest same ∙ honest) (a.now area)
      (subst (λ (d : D). IsImage (a.now d) (a.dirty d) (a.now area)) (sym same) (record { same_length = refl; bytes = fits; stable = λ k clean. refl }))

  abbrev Left : ℕ → List Record → List Record → List ℕ → Type 0
  Left reset stable group words = IsLogText words stable ⊎ (IsLogText words (stable ++ group) ⊎ ((0 < reset) × IsLogText words []))

  fails_as : (log : Log D a) (area : D) (reset steps : ℕ) (stable group : List Record) → area_of a log ≡ Some area → a.honest area ≡ true → ((k : ℕ) → slice_index_or (a.now area) k 0 < 256)
      → is_failed a log ≡ true → HasReset a log reset → Stands a log steps stable group → Left reset stable group (words_of (a.now area))
  fails_as (Idle log) area reset steps stable group is honest fits failed at stands = absurd cc
  fails_as (Written log) area reset steps stable group is honest fits failed at stands = absurd cc
  fails_as (Synced log) area reset steps stable group is honest fits failed at stands = absurd cc
  fails_as (Opened log) area reset steps stable group is honest fits failed at stands = absurd cc
  fails_as (Sealed log) area reset steps stable group is honest fits failed at stands = absurd cc
  fails_as (Closing log) area reset steps stable group is honest fits failed at stands = absurd cc
  fails_as (Emptied log) area reset steps stable group is honest fits failed at stands = absurd cc
  fails_as (Failed log) area reset steps stable group is honest fits failed at stands =
      elim (own_image (IsLeft steps stable group) log.area area (same_some log.area area is) honest fits stands) [
        | inl without ↦ inl without
        | inr with_group ↦ inr (inl with_group.1)
      ]
  fails_as (Torn log) area reset steps stable group is honest fits failed at stands =
      elim (own_image (IsWithOrWithout [] stable) log.area area (same_some log.area area is) honest fits stands.2) [
        | inl none ↦ inr (inr (at, none))
        | inr all ↦ inl all
      ]
  fails_as Taken area reset steps stable group is honest fits failed at stands = absurd stands

  -- the words are those of what the node has logged
  pub logged : (m : Setting) (n : ℕ) (log : Log D a) (kept : KeptRecords) (dropped trimmed taken acked : ℕ) (s : State) (x : Numbers) (area : D) (words : List ℕ)
      → FitsLog a m n log kept dropped trimmed taken acked s x → dropped ≤ acked → acked ≤ taken
      → area_of a log ≡ Some area → a.honest area ≡ true → ((k : ℕ) → slice_index_or (a.now area) k 0 < 256) → AreWordsOf a area words → AreLogged m s x n words
  logged m n log kept dropped trimmed taken acked s x area words h less few is honest fits shows = elim (cases_Bool (is_failed a log)) [
    | inl failed ↦
        rw (h.halted ∙ failed)
        (elim (fails_as log area (x.reset n) (s.flush n).steps stable group is honest fits failed h.reset_is h.stands) [
          | inl without ↦ inl (shows honest stable without ∙ ap joined stable_is)
          | inr (inl with_group) ↦ inr (inl (shows honest (stable ++ group) with_group ∙ ap joined all_is))
          | inr (inr none) ↦ inr (inr (none.0, shows honest [] none.1))
        ])
    | inr works ↦
        rw (h.halted ∙ works)
        (shows honest (text_at (x.reset n) (s.flush n).steps stable group) (reads_as log area (x.reset n) (s.flush n).steps stable group is honest works h.reset_is h.stands)
        ∙ ap joined (ap (λ rs. if nat_lt 1 (x.reset n) then [] else if nat_lt 2 (s.flush n).steps then rs else stable) all_is
        ∙ ap (λ rs. if nat_lt 1 (x.reset n) then [] else if nat_lt 2 (s.flush n).steps then drop (x.disks.dropped n) (take (s.flush n).taken records) else rs) stable_is))
  ]
    where
      records : List Record
      records = records_of m s x.disks n

      stable : List Record
      stable = drop dropped (take acked records)

      group : List Record
      group = drop acked (take taken records)

      stable_is : stable ≡ stable_records m s x n
      stable_is = ap (λ k. drop k (take acked records)) h.dropped_is ∙ ap (λ k. drop (x.disks.dropped n) (take k records)) h.acked_is

      all_is : stable ++ group ≡ drop (x.disks.dropped n) (take (s.flush n).taken records)
      all_is =
          sym (more_stable records dropped acked taken less few)
          ∙ ap (λ k. drop k (take taken records)) h.dropped_is ∙ ap (λ k. drop (x.disks.dropped n) (take k records)) (sym h.taken_is)

  pub show_records : (phase : WorldPhase D a) (n : ℕ) (area : D) (words : List ℕ) → log_area a phase n ≡ Some area
      → ((up : Rising D a) → phase ≡ Up up → log_in a up.running.nodes.items n ≡ Some area → a.honest area ≡ true → (k : ℕ) → slice_index_or (a.now area) k 0 < 256)
      → AreWordsOf a area words
      → (m : Setting) (s : State) (x : Numbers) → FitsPhase a m phase s x → s.phase ≡ IsUpNow → AreLogged m s x n words
  show_records (Down r) n area words there fits shows m s x h up = absurd (let both : DownAt h.cut ≡ IsUpNow = sym h.down ∙ up in cc)
  show_records IsTaken n area words there fits shows m s x h up = absurd h
  show_records (Up up) n area words there fits shows m s x h is_up =
      let its = node_of up.running.nodes.items n area there in
      let honest = h.1.logs n its.0 area its.1 its.2 in
      let j = its.0.journal in
      logged m n j.log j.records j.dropped j.trimmed j.taken j.acked s x area words (h.0.running.each n its.0 its.1).journal j.dropped_acked j.acked_taken its.2 honest (fits up refl there honest) shows

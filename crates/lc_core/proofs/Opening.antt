-- The areas of the logs, as the nodes get them one after another, and the nodes after that.
use Rattle.std.proofs.Common.{◌≡◌, ◌≢◌, ℕ, ◌+◌, ◌*◌, ◌%◌, ◌<◌, true, false, List, [], drop, length, Option, Some, None, refl, sym, ap, subst, ◌∙◌, arith}
use Rattle.std.specs.Prelude.{slice_get, slice_index, slice_index_or, option_map, replicate}
use Rattle.std.proofs.lemmas.List.{length-drop, length-replicate}
use Rattle.std.proofs.lemmas.Option.{slice_get-map, slice_get_within, get_or_from_slice_get, same_Some as same_some}
use Rattle.lc_disk.specs.declared.area.Area.{Ghosts}
use Rattle.lc_record.specs.declared.geometry.Geometry.{Geometry}
use Rattle.lc_record.proofs.ListLemmas.{slice_get-drop as at_drop}
use Rattle.lc_recover.specs.Reads.{HaveLengths, area_count}
use Rattle.lc_recover.specs.Recovered.{RecoveredStore, AreFinished}
use Rattle.lc_recover.proofs.Images.{count-areas, len-log, len-segment}
use Rattle.lc_core.specs.Blank.{AreFilledNodes}
use Rattle.lc_core.specs.Fresh.{IsFresh}
use Rattle.lc_journal.specs.Log.{Stands, area_of, is_idle}
use Rattle.lc_events.specs.Nodes.{AreWhole}
use Rattle.lc_events.specs.declared.node_state.NodeState.{NodeState}
use Rattle.lc_events.specs.declared.running.Running.{Running}
use Rattle.lc_desk.specs.Seat.{Free}

module _ {D : Type 0} (a : Ghosts D) where
  -- the area of a node's log
  pub log_area : (g : Geometry) (areas : List D) (n : ℕ) → HaveLengths a g areas → n < g.nodes
      → (area : D) × (slice_get areas n ≡ Some area) × (length (a.now area) ≡ 8 * (g.words + 1))
  log_area g areas n lengths few = at (slice_get areas n) refl
    where
      long : option_map (λ (d : D). length (a.now d)) (slice_get areas n) ≡ Some (8 * (g.words + 1))
      long = sym (slice_get-map (λ (d : D). length (a.now d)) areas n) ∙ lengths n ∙ len-log g n few

      at : (o : Option D) → slice_get areas n ≡ o → (area : D) × (slice_get areas n ≡ Some area) × (length (a.now area) ≡ 8 * (g.words + 1))
      at None got = (let none : None ≡ Some (8 * (g.words + 1)) = ap (option_map (λ (d : D). length (a.now d))) (sym got) ∙ long in absurd cc)
      at (Some area) got = (area, got, same_some (length (a.now area)) (8 * (g.words + 1)) (ap (option_map (λ (d : D). length (a.now d))) (sym got) ∙ long))

  -- the length of a segment's area
  pub segment_len : (g : Geometry) (areas : List D) (k : ℕ) (area : D) → HaveLengths a g areas → slice_get areas (g.nodes + k) ≡ Some area → length (a.now area) ≡ 2 * 272 * g.pages
  segment_len g areas k area lengths got =
      let counted : length areas ≡ area_count g = count-areas a g areas lengths in
      let within : g.nodes + k < area_count g = omega (arith, counted, slice_get_within areas (g.nodes + k) area got) in
      same_some (length (a.now area)) (2 * 272 * g.pages)
      (ap (option_map (λ (d : D). length (a.now d))) (sym got) ∙ sym (slice_get-map (λ (d : D). length (a.now d)) areas (g.nodes + k)) ∙ lengths (g.nodes + k)
      ∙ len-segment g (g.nodes + k) (omega arith) within)

  -- after the logs there are as many areas as there are segments
  pub segments_left : (g : Geometry) (areas left : List D) → HaveLengths a g areas → left ≡ drop g.nodes areas → length left ≡ g.segments
  segments_left g areas left lengths is =
      let counted : length areas ≡ area_count g = count-areas a g areas lengths in
      ap length is ∙ length-drop g.nodes areas ∙ omega (arith, counted)

  -- it is the first that is left
  left_first : (areas left : List D) (n : ℕ) (area : D) → left ≡ drop n areas → slice_get areas n ≡ Some area → slice_get left 0 ≡ Some area
  left_first areas left n area is got =
      let same : n + 0 ≡ n = omega arith in
      ap (λ (l : List D). slice_get l 0) is ∙ at_drop n 0 areas ∙ ap (slice_get areas) same ∙ got

  pub left_some : (areas left : List D) (n : ℕ) (area : D) → left ≡ drop n areas → slice_get areas n ≡ Some area → 0 < length left
  left_some areas left n area is got = slice_get_within left 0 area (left_first areas left n area is got)

  pub left_is : (areas left : List D) (n : ℕ) (area first : D) → left ≡ drop n areas → slice_get areas n ≡ Some area → first ≡ slice_index_or left 0 first → first ≡ area
  left_is areas left n area first is got value = value ∙ get_or_from_slice_get left 0 area first (left_first areas left n area is got)

  -- while it is honest it begins with no open gate, and no position is dirty
  pub log_closed : (r : RecoveredStore D) (n : ℕ) (area first : D) → AreFinished a r → n < r.geometry.nodes → slice_get r.areas n ≡ Some area → first ≡ area → a.honest first ≡ true
      → slice_index (a.now first) 0 % 256 ≢ 165
  log_closed r n area first finished few got same honest =
      subst (λ (d : D). slice_index (a.now d) 0 % 256 ≢ 165) (sym same) ((finished n area got (ap a.honest (sym same) ∙ honest)).closed few)

  pub log_clean : (r : RecoveredStore D) (n : ℕ) (area first : D) → AreFinished a r → slice_get r.areas n ≡ Some area → first ≡ area → a.honest first ≡ true → a.dirty first 0 ≡ false
  log_clean r n area first finished got same honest = subst (λ (d : D). a.dirty d 0 ≡ false) (sym same) ((finished n area got (ap a.honest (sym same) ∙ honest)).clean 0)

  pub filled_whole : (r : RecoveredStore D) (g : Geometry) (nodes : List (NodeState D a)) → r.geometry ≡ g → AreFilledNodes a r nodes → AreWhole a g nodes
  filled_whole r g nodes same filled n node got =
      let its = filled n node got in
      let seats = ap length its.desk.seats ∙ length-replicate r.geometry.threads Free in
      let seats_ok = node.desk.seats.ok.0 in
      let slots = its.desk.count in
      let slots_ok = node.desk.here.slots.ok.0 in
      let threads = ap (λ (h : Geometry). h.threads) same in
      let segments = ap (λ (h : Geometry). h.segments) same in
      record { seats = omega (arith, seats, seats_ok, threads); slots = omega (arith, slots, slots_ok, segments) }

  pub filled_fresh : (r : RecoveredStore D) (w : Running D a) (nodes : List (NodeState D a)) → r.geometry ≡ w.geometry → w.nodes.items ≡ nodes → AreFilledNodes a r nodes
      → ((n : ℕ) (node : NodeState D a) → slice_get nodes n ≡ Some node → area_of a node.journal.log ≡ slice_get r.areas n)
      → ((n : ℕ) (node : NodeState D a) → slice_get nodes n ≡ Some node → Stands a node.journal.log 0 [] [])
      → ((n : ℕ) (node : NodeState D a) → slice_get nodes n ≡ Some node → is_idle a node.journal.log ≡ true)
      → w.travelling.items ≡ replicate w.geometry.segments None → IsFresh a r w
  filled_fresh r w nodes same are filled areas logs works none =
      let count = w.all_nodes in
      let len = w.nodes.ok.0 in
      let number = ap (λ (h : Geometry). h.nodes) same in
      record {
        geometry = sym same;
        count = omega (arith, count, len, number);
        each = λ n node got. (let at : slice_get nodes n ≡ Some node = ap (λ (l : List (NodeState D a)). slice_get l n) (sym are) ∙ got in let its = filled n node at in record {
          seats = its.desk.seats;
          slots_count = its.desk.count;
          slots = its.slots;
          log = logs n node at;
          works = works n node at;
          area = areas n node at;
          room = its.journal.room;
          records = its.journal.records;
          dropped = its.journal.dropped;
          trimmed = its.journal.trimmed;
          taken = its.journal.taken;
          acked = its.journal.acked;
          round = its.journal.round;
          known = its.known;
        });
        travelling = none ∙ ap (λ (h : Geometry). replicate h.segments None) (sym same);
      }

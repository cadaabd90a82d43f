-- Calls of any threads are a list of events, each transaction's work in a block before its end.
use Rattle.std.proofs.Common.{◌≡◌, ℕ, true, false, List, [], ◌∷◌, ◌++◌, find, get_or, Some, None, All, AllPairs, refl, sym, ◌∙◌, ap, subst, true≢false}
use Rattle.std.proofs.lemmas.List.Elements.{All-nil, All-cons, All-head, All-tail}
use Rattle.lc_record.specs.Content.{Content, segment_of}
use Rattle.lc_record.specs.Transaction.{Marks, Transaction, locks, writes_on}
use Rattle.lc_model.specs.History.{value}
use Rattle.lc_model.specs.Machine.{dropped}
use Rattle.lc_model.specs.Sound.{Sound, AreApart, unclosed}
use Rattle.lc_model.specs.State.{State, Setting, is_by, running_of}
use Rattle.lc_model.proofs.Holders.{is_by-same}
use Rattle.lc_model.proofs.Law.{AllPairs-head, AllPairs-tail}
use Rattle.lc_model.proofs.Lists.{found-all, split}
use Rattle.lc_model.proofs.Seats.{is_by-other, running-dropped_other}
use Rattle.lc_changes.specs.Images.{FitsImages}
use Rattle.lc_changes.specs.Calls.{Call, Works, Strays, Steps, Aborts, Ends, Fails, Breaks, Called, Done, EndsLike, Gives, IsLike, IsWorking, Serves, Workspace, as_events, block_of, blocks_left, done_by, in_blocks, left_done, nothing_done}
use Rattle.lc_changes.proofs.Ending.{aborts-on, steps-on}
use Rattle.lc_changes.proofs.Like.{like-value}
use Rattle.lc_changes.proofs.Reserving.{breaks-on, ends-on, fails-on}
use Rattle.lc_changes.proofs.Standing.{Opened, Served, Standing, like-running, like-working, none-found, one-found, strays, works-on}
use Rattle.lc_changes.proofs.Working.{Answers, after, after-is, block-runs, gives-append, its-thread, same-value, same-working}

serves-on : (m : Setting) (s i new : State) (w later : Workspace) (done : ℕ → ℕ → List Done) (call : Call) → Standing m s i w done → IsWorking new → Serves m s w call new later → Served m i new later done call
serves-on m s i new w later done (Works n k work reply) stands works serves =
    subst (λ (x : State). Served m i x later done (Works n k work reply)) (sym serves.0) (works-on m s i w later done n k work reply stands serves.1)
serves-on m s i new w later done (Strays event reply) stands works serves = strays m s i new w later done event reply stands serves
serves-on m s i new w later done (Steps event reply) stands works serves = steps-on m s i new w later done event reply stands works serves
serves-on m s i new w later done (Aborts n k) stands works serves = aborts-on m s i new w later done n k stands works serves
serves-on m s i new w later done (Ends n k ranges reply) stands works serves = ends-on m s i new w later done n k ranges reply stands works serves
serves-on m s i new w later done (Fails n k ranges refusal segments reading) stands works serves = fails-on m s i new w later done n k ranges refusal segments reading stands works serves
serves-on m s i new w later done (Breaks n k ranges segments reading) stands works serves = breaks-on m s i new w later done n k ranges segments reading stands works serves

calls-on : (m : Setting) (s i new : State) (w later : Workspace) (done : ℕ → ℕ → List Done) (calls : List Call) → Standing m s i w done → Called m s w calls new later
    → (last : State) × Gives m i (in_blocks done calls) last × Standing m new last later (left_done done calls)
calls-on m s i new w later done [] stands called =
    (i, refl, subst (λ (x : State). Standing m x i later done) (sym called.0) (subst (λ (y : Workspace). Standing m s i y done) (sym called.1) stands))
calls-on m s i new w later done (call ∷ calls) stands called =
    let one : Served m i called.0 called.1 done call = serves-on m s i called.0 w called.1 done call stands called.3 called.2 in
    let rest = calls-on m called.0 one.0 new called.1 later (done_by done call) calls one.2 called.4 in
    (rest.0, gives-append m (block_of done call) (in_blocks (done_by done call) calls) i one.0 rest.0 one.1 rest.1, rest.2)

starts : (m : Setting) (s other : State) (w : Workspace) → Sound m.geometry s → IsWorking s → s.running ≡ [] → FitsImages m s w.images w.olds → IsLike m s other → Standing m s other w nothing_done
starts m s other w sound works none fits like =
    let closed : (n k : ℕ) → running_of n k s ≡ None = λ n k. ap (find (is_by n k)) none in
    record {
      sound = sound;
      works = works;
      like = like;
      opened = λ n k t found. absurd (none-found (running_of n k s) t (closed n k) found);
      unwritten = fits.unwritten;
    }

-- The transactions that are left open

not-by : (a b : ℕ) (t : Transaction) (ts : List Transaction) → find (is_by a b) (t ∷ ts) ≡ None → (is_by a b t ≡ false) × (find (is_by a b) ts ≡ None)
not-by a b t ts none =
    elim (is_by a b t) as (λ c. is_by a b t ≡ c → (c ≡ false) × (find (is_by a b) ts ≡ None)) [
      | true ↦ λ e. absurd (let never : Some t ≡ None = rw e at none in cc)
      | false ↦ λ e. (refl, rw e at none)
    ] refl

behind : (a b : ℕ) (t : Transaction) (ts : List Transaction) → is_by a b t ≡ false → find (is_by a b) (t ∷ ts) ≡ find (is_by a b) ts
behind a b t ts e = rw e refl

-- each is the one that its thread has
each-found : (ts : List Transaction) → AllPairs AreApart ts → All (λ t. find (is_by t.node t.thread) ts ≡ Some t) ts
each-found [] pairs = All-nil (λ t. find (is_by t.node t.thread) [] ≡ Some t)
each-found (t ∷ ts) pairs =
    let self : is_by t.node t.thread t ≡ true = is_by-same t.node t.thread t refl refl in
    let next : All (λ u. find (is_by u.node u.thread) ts ≡ Some u) ts = each-found ts (AllPairs-tail AreApart t ts pairs) in
    All-cons (λ u. find (is_by u.node u.thread) (t ∷ ts) ≡ Some u) t ts (rw self refl)
    (λ j d j_in.
    let apart : AreApart t (get_or ts j d) = AllPairs-head AreApart t ts pairs j d j_in in
    behind (get_or ts j d).node (get_or ts j d).thread t ts (is_by-other (get_or ts j d).node (get_or ts j d).thread t apart.threads_differ) ∙ next j d j_in)

-- one that is open as the store has it, with its work answered
abbrev Ready : Setting → State → (ℕ → ℕ → List Done) → Transaction → Type 0
Ready m s done t = (running_of t.node t.thread s ≡ Some t) × Answers m.geometry (value m.start s.earlier s.history) t.node t.thread t (done t.node t.thread)

-- one that is open with its work
abbrev Worked : State → (ℕ → ℕ → List Done) → Transaction → Type 0
Worked s done t = running_of t.node t.thread s ≡ Some (after t (done t.node t.thread))

absent : (a b : ℕ) (ts : List Transaction) → All (λ u. is_by a b u ≡ false) ts → find (is_by a b) ts ≡ None
absent a b [] each = refl
absent a b (t ∷ ts) each = behind a b t ts (All-head (λ u. is_by a b u ≡ false) t ts each) ∙ absent a b ts (All-tail (λ u. is_by a b u ≡ false) t ts each)

record Left (m : Setting) (s : State) (done : ℕ → ℕ → List Done) (ts : List Transaction) : Type 0 where
  last : State
  gives : Gives m s (blocks_left done ts) last
  aside : record last { running = [] } ≡ record s { running = [] }
  each : All (Worked last done) ts
  others : (a b : ℕ) → find (is_by a b) ts ≡ None → running_of a b last ≡ running_of a b s

left : (m : Setting) (s : State) (done : ℕ → ℕ → List Done) (ts : List Transaction) → IsWorking s → AllPairs AreApart ts → All (Ready m s done) ts → Left m s done ts
left m s done [] works pairs ready = record { last = s; gives = refl; aside = refl; each = All-nil (Worked s done); others = λ a b none. refl }
left m s done (t ∷ ts) works pairs ready =
    let n : ℕ = t.node in
    let k : ℕ = t.thread in
    let head : Ready m s done t = All-head (Ready m s done) t ts ready in
    let one = block-runs m s t.node t.thread t (done t.node t.thread) works head.0 head.1 in
    let y : State = one.0 in
    let same : dropped one.0 t.node t.thread ≡ dropped s t.node t.thread = one.3 in
    let kept : (a b : ℕ) → (t.node ≡ a → t.thread ≡ b → ⊥) → running_of a b one.0 ≡ running_of a b s = λ a b differ.
    sym (running-dropped_other one.0 t.node t.thread a b differ) ∙ ap (running_of a b) same ∙ running-dropped_other s t.node t.thread a b differ in
    let rest : Left m one.0 done ts = left m one.0 done ts (same-working s one.0 t.node t.thread same works) (AllPairs-tail AreApart t ts pairs)
    (λ j d j_in.
    let u : Transaction = get_or ts j d in
    let was : Ready m s done (get_or ts j d) = All-tail (Ready m s done) t ts ready j d j_in in
    let apart : AreApart t (get_or ts j d) = AllPairs-head AreApart t ts pairs j d j_in in (
      kept u.node u.thread apart.threads_differ ∙ was.0,
      subst (λ (c : Content). Answers m.geometry c u.node u.thread u (done u.node u.thread)) (sym (same-value m s one.0 t.node t.thread same)) was.1,
    )) in
    let none : find (is_by t.node t.thread) ts ≡ None = absent t.node t.thread ts (λ j d j_in.
    is_by-other t.node t.thread (get_or ts j d) (λ nodes threads. (AllPairs-head AreApart t ts pairs j d j_in).threads_differ (sym nodes) (sym threads))) in
    record {
      last = rest.last;
      gives = gives-append m (as_events t.node t.thread (done t.node t.thread)) (blocks_left done ts) s one.0 rest.last one.1 rest.gives;
      aside = rest.aside ∙ ap (λ (x : State). record x { running = [] }) same;
      each = All-cons (Worked rest.last done) t ts (rest.others t.node t.thread none ∙ one.2) rest.each;
      others = λ a b is.
          let parts = not-by a b t ts is in
          rest.others a b parts.1 ∙ kept a b (λ nodes threads. true≢false (sym (is_by-same a b t nodes threads) ∙ parts.0));
    }

pub in-blocks : (m : Setting) (s other new : State) (w later : Workspace) (calls : List Call) → Sound m.geometry s → IsWorking s → s.running ≡ [] → FitsImages m s w.images w.olds → IsLike m s other → Called m s w calls new later
    → (last : State) × Gives m other (in_blocks nothing_done calls) last × IsLike m new last
in-blocks m s other new w later calls sound works none fits like called =
    let all = calls-on m s other new w later nothing_done calls (starts m s other w sound works none fits like) called in
    (all.0, all.1, all.2.like)

ready : (m : Setting) (new last : State) (later : Workspace) (done : ℕ → ℕ → List Done) → Standing m new last later done → All (Ready m last done) new.running
ready m new last later done stands = λ j d j_in.
    (let t : Transaction = get_or new.running j d in
    let found : running_of t.node t.thread new ≡ Some t = each-found new.running (split AreApart new.running (unclosed new.history) stands.sound.apart).left j d j_in in (
      like-running m new last t.node t.thread stands.like ∙ found,
      subst (λ (c : Content). Answers m.geometry c t.node t.thread t (done t.node t.thread)) (sym (like-value m new last stands.like)) (stands.opened t.node t.thread t found).answers,
    ))

ends-like : (m : Setting) (new last : State) (later : Workspace) (done : ℕ → ℕ → List Done) → Standing m new last later done → (l : Left m last done new.running) → EndsLike m new later l.last
ends-like m new last later done stands l =
    let end : State = l.last in
    let now : Content = value m.start new.earlier new.history in
    let is : l.last ≡ record last { running = l.last.running } = ap (λ (x : State). record x { running = l.last.running }) l.aside in
    let like : IsLike m (record new { running = l.last.running }) l.last =
    subst (λ (x : State). IsLike m (record new { running = l.last.running }) x) (sym is)
    (record { beside = ap (λ (x : State). record x { running = l.last.running }) stands.like.beside; earlier = stands.like.earlier; history = stands.like.history }) in
    let valued : value m.start l.last.earlier l.last.history ≡ value m.start new.earlier new.history = like-value m (record new { running = l.last.running }) l.last like in
    let worked : (n k : ℕ) (t : Transaction) → running_of n k new ≡ Some t → running_of n k l.last ≡ Some (after t (done n k)) = λ n k t found.
    (let by : (t.node ≡ n) × (t.thread ≡ k) = its-thread new n k t found in
    subst (λ (a : ℕ). running_of a k l.last ≡ Some (after t (done a k))) by.0
    (subst (λ (b : ℕ). running_of t.node b l.last ≡ Some (after t (done t.node b))) by.1 (found-all (is_by n k) (Worked l.last done) new.running t found l.each))) in
    let none : (n k : ℕ) → running_of n k new ≡ None → running_of n k l.last ≡ None = λ n k free. l.others n k free ∙ like-running m new last n k stands.like ∙ free in
    let of_end : (n k : ℕ) (u : Transaction) → running_of n k l.last ≡ Some u → (t : Transaction) × (running_of n k new ≡ Some t) × (u ≡ after t (done n k)) = λ n k u found.
    elim (running_of n k new) as (λ o. running_of n k new ≡ o → (t : Transaction) × (running_of n k new ≡ Some t) × (u ≡ after t (done n k))) [
      | None ↦ λ e. absurd (none-found (running_of n k l.last) u (none n k e) found)
      | Some t ↦ λ e. (t, e, one-found (running_of n k l.last) u (after t (done n k)) found (worked n k t e))
    ] refl in
    let same_locks : (n k g : ℕ) (t : Transaction) → locks (after t (done n k)) g ≡ locks t g = λ n k g t. ap (λ (x : Transaction). locks x g) (after-is t (done n k)) in
    record {
      like = like;
      opened = λ n k t found.
          let o : Opened m now later n k t (done n k) = stands.opened n k t found in
          let u : Transaction = after t (done n k) in
          (u, worked n k t found, after-is t (done n k) ∙ ap (λ (x : Marks). record t { marks = x; writes = (after t (done n k)).writes }) o.set);
      fits = record {
        written = λ n k g u found lock.
            let z = of_end n k u found in
            let lock_t : locks z.0 g ≡ true = sym (same_locks n k g z.0) ∙ ap (λ (x : Transaction). locks x g) (sym z.2) ∙ lock in
            (stands.opened n k z.0 z.1).images g lock_t
            ∙ ap (λ (c : Content). segment_of g (writes_on (after z.0 (done n k)).writes c)) (sym valued)
            ∙ ap (λ (x : Transaction). segment_of g (writes_on x.writes (value m.start l.last.earlier l.last.history))) (sym z.2);
        before = λ n k g u found lock.
            let z = of_end n k u found in
            let lock_t : locks z.0 g ≡ true = sym (same_locks n k g z.0) ∙ ap (λ (x : Transaction). locks x g) (sym z.2) ∙ lock in
            (stands.opened n k z.0 z.1).olds g lock_t ∙ ap (segment_of g) (sym valued);
        unwritten = λ g free.
            stands.unwritten g (λ n k t found lock. free n k (after t (done n k)) (worked n k t found) (same_locks n k g t ∙ lock)) ∙ ap (segment_of g) (sym valued);
      };
    }

pub all-in-blocks : (m : Setting) (s other new : State) (w later : Workspace) (calls : List Call) → Sound m.geometry s → IsWorking s → s.running ≡ [] → FitsImages m s w.images w.olds → IsLike m s other → Called m s w calls new later
    → (end : State) × Gives m other (in_blocks nothing_done calls ++ blocks_left (left_done nothing_done calls) new.running) end × EndsLike m new later end
all-in-blocks m s other new w later calls sound works none fits like called =
    let all = calls-on m s other new w later nothing_done calls (starts m s other w sound works none fits like) called in
    let stands : Standing m new all.0 later (left_done nothing_done calls) = all.2 in
    let l : Left m all.0 (left_done nothing_done calls) new.running = left m all.0 (left_done nothing_done calls) new.running (like-working m new all.0 stands.like stands.works)
    (split AreApart new.running (unclosed new.history) stands.sound.apart).left (ready m new all.0 later (left_done nothing_done calls) stands) in
    (l.last, gives-append m (in_blocks nothing_done calls) (blocks_left (left_done nothing_done calls) new.running) other all.0 l.last all.1 l.gives, ends-like m new all.0 later (left_done nothing_done calls) stands l)

-- The segments of the locks of records that are a node's own.
use Rattle.std.proofs.Common.{◌≡◌, ℕ, ◌<◌, List, [], All, length, arith}
use Rattle.std.specs.Prelude.{slice_index_or}
use Rattle.lc_log.specs.LogText.{IsWhole}
use Rattle.lc_record.specs.declared.geometry.Geometry.{Geometry}
use Rattle.lc_record.specs.declared.record.Lock.{Lock}
use Rattle.lc_record.specs.declared.record.Record.{Record}
use Rattle.lc_rest.specs.Adopted.{IsTaken}
use Rattle.lc_rest.specs.LogTest.{IsOwn}
use Rattle.lc_rest.specs.Merge.{AreKnown, no_record, record_at}
use Rattle.lc_rest.proofs.OneLock.{self-member}
use Rattle.lc_rest.proofs.Tokens.{known-lock}

pub known_locks : (g : Geometry) (segments nodes : ℕ) (logs : List (List Record)) → segments ≡ g.segments → length logs ≡ nodes → ((n : ℕ) → All IsWhole (slice_index_or logs n []))
    → ((n : ℕ) → n < nodes → All (IsOwn g n) (slice_index_or logs n [])) → AreKnown segments logs
known_locks g segments nodes logs same count whole own = λ node k known less i d within.
    (let r : Record = record_at logs node k in
    let its : IsWhole r = whole node k no_record less in
    let mine : IsOwn g node r = own node (omega (arith, known, count)) k no_record less in
    let taken : IsTaken g r = record { canonical = its.canonical; inside = mine.inside } in
    let lock : Lock = slice_index_or r.locks i d in
    let both = known-lock g r lock.segment taken (self-member r.locks i d within) in
    let last = both.1 in
    (both.0, omega (arith, last, same)))

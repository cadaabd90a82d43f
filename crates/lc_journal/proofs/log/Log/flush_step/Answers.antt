use Rattle.std.proofs.Common.{ℕ, ◌≤◌, List, refl, inl, inr, arith}
use Rattle.lc_log.specs.NodeLog.{IsWithOrWithout}
use Rattle.lc_record.specs.declared.record.Record.{Record}
use Rattle.lc_journal.specs.Log.{IsLeft}
use Rattle.lc_journal.proofs.CallsTold.{flush_rests}
use Rattle.lc_journal.proofs.log.Log.flush_step.Goals as goal

gate_open : (steps : ℕ) (stable group : List Record) (words : List ℕ) → 3 ≤ steps → IsWithOrWithout stable group words → IsLeft steps stable group words
gate_open steps stable group words late (inl without) = inl without
gate_open steps stable group words late (inr whole) = inr (late, whole)

pub returns-in-Ok : goal.returns-in-Ok
returns-in-Ok g c = rw c.in-Idle.is (record {
  steps = λ stable records idle group. (refl, c.in-Ok.ensures.written stable records idle group);
  room = λ more fits up. omega (arith, fits refl, c.in-Ok.ensures.end, c.in-Ok.ensures.words, c.in-Ok.ensures.device.same_length);
  ends = λ up. (refl, c.in-Ok.ensures.end, c.in-Ok.ensures.words, refl);
  device = record { after = _; there = refl; device = c.in-Ok.ensures.call };
})

pub returns-in-Ok-sync_gate : goal.returns-in-Ok-sync_gate
returns-in-Ok-sync_gate g c = rw c.in-Opened.is (record {
  steps = λ stable group opened. inl (refl, (refl, refl, c.in-Ok-sync_gate.ensures.flushed stable group opened));
  room = λ more fits up. omega (arith, fits refl, c.in-Ok-sync_gate.ensures.end, c.in-Ok-sync_gate.ensures.device.same_length);
  ends = λ up. (refl, c.in-Ok-sync_gate.ensures.end, refl, refl);
  device = record { after = _; there = refl; device = c.in-Ok-sync_gate.ensures.call };
})

pub returns-in-Err-sync_gate : goal.returns-in-Err-sync_gate
returns-in-Err-sync_gate g c = rw c.in-Opened.is (record {
  steps = λ stable group opened. inr (refl, λ honest image is. gate_open 4 stable group _ (omega arith) (c.in-Err-sync_gate.ensures.failed stable group opened honest image is));
  room = λ more fits up. absurd cc;
  ends = λ up. absurd cc;
  device = record { after = _; there = refl; device = c.in-Err-sync_gate.ensures.call };
})

pub returns-in-Err-clause-steps : goal.returns-in-Err-clause-steps
returns-in-Err-clause-steps g c = rw c.in-Idle.is (λ stable records idle group honest image is. inl (c.in-Err.ensures.failed stable idle honest image is))

pub returns-in_default-clause-device : goal.returns-in_default-clause-device
returns-in_default-clause-device g c = flush_rests g.D.Area c.args.self c.in_default.not-Idle c.in_default.not-Written c.in_default.not-Synced c.in_default.not-Opened c.requires.free

-- Of a journal: which replies tell of a failure, and what the calls of a device count.
use Rattle.std.proofs.Common.{◌≡◌, ℕ, ◌+◌, Bool, true, false, length, Option, Some, refl, sym, ap, subst, ◌∙◌, true≢false}
use Rattle.std.specs.Prelude.{not, option_map, if◌then◌else◌}
use Rattle.lc_disk.specs.declared.area.Area.{Ghosts}
use Rattle.lc_model.specs.declared.refusal.Refusal.TheVariants.{DeviceFault, Unknown}
use Rattle.lc_model.specs.declared.reply.Reply.{Reply}
use Rattle.lc_model.specs.declared.reply.Reply.TheVariants.{Refused}
use Rattle.lc_journal.specs.FaultReplies.{CallsIf, TellsFault, device_kind, failures_of, is_fault, is_unknown, kind_of}
use Rattle.lc_journal.specs.Journal.{reply_of}
use Rattle.lc_journal.specs.Log.{CallsOnce, IsCalled, area_of, is_failed}
use Rattle.lc_journal.specs.declared.log.Log.{Log}
use Rattle.lc_journal.specs.declared.log.Log.TheVariants.{Idle, Written, Synced, Opened, Sealed, Closing, Emptied, Failed, Torn, Taken}
use Rattle.lc_journal.proofs.OwnReplies.{own_known, own_no_fault}

module _ {D : Type 0} (a : Ghosts D) where
  -- a log that has failed is answered by a failure, and no other
  one_more : (new : Log D a) (taken count : ℕ) → Some (if not (is_failed a new) then count else count + 1) ≡ (if is_fault (reply_of a new taken) then Some (count + 1) else Some count)
  one_more (Idle log) taken count = refl
  one_more (Written log) taken count = refl
  one_more (Synced log) taken count = refl
  one_more (Opened log) taken count = refl
  one_more (Sealed log) taken count = refl
  one_more (Closing log) taken count = refl
  one_more (Emptied log) taken count = refl
  one_more (Failed log) taken count = refl
  one_more (Torn log) taken count = refl
  one_more Taken taken count = refl

  -- nothing is unknown
  told_known : (new : Log D a) (taken : ℕ) → is_unknown (reply_of a new taken) ≡ false
  told_known (Idle log) taken = refl
  told_known (Written log) taken = refl
  told_known (Synced log) taken = refl
  told_known (Opened log) taken = refl
  told_known (Sealed log) taken = refl
  told_known (Closing log) taken = refl
  told_known (Emptied log) taken = refl
  told_known (Failed log) taken = refl
  told_known (Torn log) taken = refl
  told_known Taken taken = refl

  pub called : (area : D) (new : Log D a) (taken : ℕ) → IsCalled a area new
      → (failures_of a new ≡ (if is_fault (reply_of a new taken) then Some (a.failures area + 1) else Some (a.failures area))) × (kind_of a new ≡ Some (device_kind a area))
  called area new taken call = (
    ap (option_map a.failures) call.there ∙ ap (λ (n : ℕ). Some n) call.device.counted ∙ one_more new taken (a.failures area),
    ap (option_map (device_kind a)) call.there ∙ ap (λ (b : Bool). Some (b, length (a.now call.after))) call.device.honest ∙ ap (λ (n : ℕ). Some (a.honest area, n)) call.device.same_length,
  )

  of_call : (calls : Bool) → calls ≡ true → (old : Log D a) (area : D) (new : Log D a) (taken : ℕ) → area_of a old ≡ Some area → failures_of a old ≡ Some (a.failures area) → kind_of a old ≡ Some (device_kind a area) → IsCalled a area new
      → (failures_of a new ≡ (if is_fault (reply_of a new taken) then Some (a.failures area + 1) else Some (a.failures area))) × (kind_of a new ≡ Some (device_kind a area)) → TellsFault a calls (reply_of a new taken) old new
  of_call calls is old area new taken there failures kind call are = record {
    call = subst (λ (b : Bool). CallsIf a b (area_of a old) (area_of a new)) (sym is) (area, call.after, not (is_failed a new), there, call.there, call.device);
    known = told_known new taken;
    failures = are.0 ∙ sym (ap (λ (o : Option ℕ). if is_fault (reply_of a new taken) then option_map (λ (count : ℕ). count + 1) o else o) failures);
    kind = are.1 ∙ sym kind;
  }

  pub call_tells : (calls : Bool) → calls ≡ true → (old new : Log D a) (taken : ℕ) → is_failed a old ≡ false → CallsOnce a old new → TellsFault a calls (reply_of a new taken) old new
  call_tells calls is (Idle log) new taken up call = of_call calls is (Idle log) log.area new taken refl refl refl call (called log.area new taken call)
  call_tells calls is (Written log) new taken up call = of_call calls is (Written log) log.area new taken refl refl refl call (called log.area new taken call)
  call_tells calls is (Synced log) new taken up call = of_call calls is (Synced log) log.area new taken refl refl refl call (called log.area new taken call)
  call_tells calls is (Opened log) new taken up call = of_call calls is (Opened log) log.area new taken refl refl refl call (called log.area new taken call)
  call_tells calls is (Sealed log) new taken up call = of_call calls is (Sealed log) log.area new taken refl refl refl call (called log.area new taken call)
  call_tells calls is (Closing log) new taken up call = of_call calls is (Closing log) log.area new taken refl refl refl call (called log.area new taken call)
  call_tells calls is (Emptied log) new taken up call = of_call calls is (Emptied log) log.area new taken refl refl refl call (called log.area new taken call)
  call_tells calls is (Failed log) new taken up call = absurd (true≢false up)
  call_tells calls is (Torn log) new taken up call = absurd (true≢false up)
  call_tells calls is Taken new taken up call = absurd (true≢false up)

  -- a reply of which the names leave out a failure and what is unknown
  pub own_tells : (may : Reply → Bool) → may (Refused DeviceFault) ≡ false → may (Refused Unknown) ≡ false → (calls : Bool) → calls ≡ false → (reply : Reply) (old new : Log D a) → may reply ≡ true
      → area_of a new ≡ area_of a old → TellsFault a calls reply old new
  own_tells may fault unknown calls is reply old new its same = record {
    known = own_known may unknown reply its;
    failures = ap (option_map a.failures) same
        ∙ sym (ap (λ (b : Bool). if b then option_map (λ (count : ℕ). count + 1) (failures_of a old) else failures_of a old) (own_no_fault may fault reply its));
    kind = ap (option_map (device_kind a)) same;
    call = subst (λ (b : Bool). CallsIf a b (area_of a old) (area_of a new)) (sym is) same;
  }

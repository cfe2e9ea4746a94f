use Rattle.std.proofs.Common.{◌≤◌, All, rules, sym, subst, ◌∙◌}
use Rattle.nm_base.specs.declared.limits.TheConstants.{MAX_TIME}
use Rattle.nm_replica.specs.Recording.{AreHandedOut}
use Rattle.nm_replica.proofs.Finishing.{was_last}
use Rattle.nm_replica.proofs.Recordings.{handed_out, handed_times, on_error, streamed_failed, streamed_none}
use Rattle.nm_replica.proofs.recording.write_some.Goals as goal

pub put_all-requires : goal.put_all-requires
put_all-requires g c =
    let did = c.act-records.ensures in
    subst (All (λ r. r.time ≤ MAX_TIME)) (sym c.as_slice.ensures.value)
    (handed_times did.0 did.1 c.in_ok-room.room.items c.act-records.result.records.items c.in_ok-room.room.cap c.in_ok-room.ensures.items did.2.0)

pub returns-clause-wrote : goal.returns-clause-wrote
returns-clause-wrote g c =
    let did = c.act-records.ensures in
    let took = c.in_ok-put_all.ensures in
    record {
      records = c.as_slice.result.now;
      count = search rules;
      handed = subst (AreHandedOut g.C.Counts.exact g.C.Counts.home) (sym c.as_slice.ensures.value)
          (handed_out g.C.Counts.exact g.C.Counts.home did.0 did.1 c.in_ok-room.room.items c.act-records.result.records.items c.in_ok-room.ensures.items
          did.3.home did.2.0.takes);
      took = took.took;
    }

pub returns-clause-last : goal.returns-clause-last
returns-clause-last g c =
    let did = c.act-records.ensures in
    was_last g.C.Counts.exact g.C.Counts.home did.1 c.act-records.result.is_last (λ is. did.3.grows.home ∙ did.3.home is) did.2.1

pub returns-in_err-room-clause-so_far : goal.returns-in_err-room-clause-so_far
returns-in_err-room-clause-so_far g c =
    on_error c.from_residual.result (streamed_none g.C.Counts.exact g.C.Counts.home g.S.Sink.seen c.args.files.now.files.items)

pub returns-in_err-put_all-clause-so_far : goal.returns-in_err-put_all-clause-so_far
returns-in_err-put_all-clause-so_far g c =
    let did = c.act-records.ensures in
    on_error c.from_residual-in_err-put_all.result
    (streamed_failed g.C.Counts.exact g.C.Counts.home g.S.Sink.seen c.args.files.now.files.items c.put_all.new.self.files.items c.as_slice.result.now
    c.in_err-put_all.field-0.0
    (subst (AreHandedOut g.C.Counts.exact g.C.Counts.home) (sym c.as_slice.ensures.value)
    (handed_out g.C.Counts.exact g.C.Counts.home did.0 did.1 c.in_ok-room.room.items c.act-records.result.records.items c.in_ok-room.ensures.items
    did.3.home did.2.0.takes)) c.in_err-put_all.ensures.failed)

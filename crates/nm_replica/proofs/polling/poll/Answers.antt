use Rattle.std.proofs.Common.{rules, ◌≡◌, ◌&&◌, inl, inr, Bool, true≢false, false, not, length, ap, refl, subst, sym, ◌∙◌}
use Rattle.std.specs.Prelude.{nat_lt}
use Rattle.nm_replica.specs.Polls.{IsNews}
use Rattle.nm_replica.specs.Seats.{StandOnBoard}
use Rattle.nm_replica.specs.Recording.{Streamed, Streams, WroteAsCounted}
use Rattle.nm_replica.specs.Staying.{StaysOn, stay_after}
use Rattle.nm_replica.proofs.Finishing.{emptied_if, has_left, is_finished, one_left}
use Rattle.nm_replica.proofs.Recordings.{on_error, on_such_error, streamed_none, streams_none}
use Rattle.nm_replica.proofs.Turns.{waits_and_serves}
use Rattle.nm_replica.specs.declared.served.Served.TheVariants.{Net}
use Rattle.nm_replica.proofs.polling.poll.Goals as goal
use Rattle.nm_replica.proofs.polling.poll.Goals.{then-ends, else-ends, then-recorded, else-recorded}

pub returns-clause-done : goal.returns-clause-done
returns-clause-done g c = λ done. elim c.if-ends.branch [
  | then-ends w ↦
      is_finished g.C.Counts.exact g.C.Counts.home c.args.service.now.keeps_records c.in_ok-recorded.recorded.is_last c.in_ok-acted.acted.standing
      c.in_ok-acted.ensures.seen c.in_ok-recorded.ensures.last (sym w.is_served.ensures ∙ sym w.result-is ∙ done)
  | else-ends w ↦ absurd cc
]

pub returns-in_err-ran_out-clause-so_far : goal.returns-in_err-ran_out-clause-so_far
returns-in_err-ran_out-clause-so_far g c =
    on_error c.from_residual.result (streamed_none g.C.Counts.exact g.C.Counts.home g.S.Sink.seen c.args.holdings.now.files.files.items)

pub returns-in_err-acted-clause-so_far : goal.returns-in_err-acted-clause-so_far
returns-in_err-acted-clause-so_far g c =
    let before = c.args.holdings.now.files in
    on_error c.from_residual-in_err-acted.result
    (subst (λ f. Streamed g.S.Sink.seen g.C.Counts.exact g.C.Counts.home before.files.items f.files.items) (sym c.in_err-acted.ensures.files)
    (streamed_none g.C.Counts.exact g.C.Counts.home g.S.Sink.seen before.files.items))

pub returns-in_err-recorded-clause-so_far : goal.returns-in_err-recorded-clause-so_far
returns-in_err-recorded-clause-so_far g c =
    let after = c.record.new.holdings.files in
    on_error c.from_residual-in_err-recorded.result
    (subst (λ f. Streamed g.S.Sink.seen g.C.Counts.exact g.C.Counts.home f.files.items after.files.items) c.in_ok-acted.ensures.files c.in_err-recorded.ensures.so_far)

pub returns-clause-served : goal.returns-clause-served
returns-clause-served g c =
    waits_and_serves _ _ c.args.serving.now.connections _ _ _ _ _ _ c.in_ok-ran_out.ensures.waits c.in_ok-ran_out.ensures.ready c.in_ok-acted.ensures.served refl

pub returns-in_err-ran_out-clause-net : goal.returns-in_err-ran_out-clause-net
returns-in_err-ran_out-clause-net g c =
    on_such_error (λ s. s ≡ Net) c.from_residual.result (streams_none g.C.Counts.exact g.C.Counts.home g.S.Sink.seen c.args.holdings.now.files.files.items)

pub returns-in_err-acted-clause-net : goal.returns-in_err-acted-clause-net
returns-in_err-acted-clause-net g c =
    let before = c.args.holdings.now.files in
    on_such_error (λ s. s ≡ Net) c.from_residual-in_err-acted.result
    (subst (λ f. Streams g.S.Sink.seen g.C.Counts.exact g.C.Counts.home before.files.items f.files.items) (sym c.in_err-acted.ensures.files)
    (streams_none g.C.Counts.exact g.C.Counts.home g.S.Sink.seen before.files.items))

pub returns-clause-leaves : goal.returns-clause-leaves
returns-clause-leaves g c = λ done. elim c.if-ends.branch [
  | then-ends w ↦
      has_left c.in_ok-acted.acted.standing.is_done c.in_ok-ran_out.ran_out c.serve_and_act.new.serving.connections.contacts c.args.serving.now.stay c.serve_and_act.new.serving.stay
      c.may_end-ends.new.stay _ (c.in_ok-acted.ensures.stay ∙ c.in_ok-ran_out.ensures.kept.3) c.may_end-ends.ensures.stay (c.may_end-ends.ensures.ends w.if-ends.true)
  | else-ends w ↦ absurd cc
]

pub returns-clause-news : goal.returns-clause-news
returns-clause-news g c =
    let kept : c.serve_and_act.new.serving.was_done ≡ c.args.serving.now.was_done = c.in_ok-acted.ensures.done ∙ c.in_ok-ran_out.ensures.kept.4 in
    subst (λ b. IsNews b (nat_lt 0 c.in_ok-recorded.recorded.written) c.note_news-news.result)
    (c.is_newly_done-is_new.ensures ∙ ap (λ (d : Bool). c.in_ok-acted.acted.standing.is_done && not d) kept) c.note_news-news.ensures

pub returns-clause-streams : goal.returns-clause-streams
returns-clause-streams g c =
    subst (λ f. Streams g.S.Sink.seen g.C.Counts.exact g.C.Counts.home f.files.items c.record.new.holdings.files.files.items) c.in_ok-acted.ensures.files c.in_ok-recorded.ensures.streams

pub returns-clause-written : goal.returns-clause-written
returns-clause-written g c =
    subst (λ f. WroteAsCounted g.S.Sink.seen g.C.Counts.exact g.C.Counts.home c.in_ok-recorded.recorded.written f.files.items c.record.new.holdings.files.files.items)
    c.in_ok-acted.ensures.files c.in_ok-recorded.ensures.wrote

pub returns-clause-records : goal.returns-clause-records
returns-clause-records g c = λ quiet.
    let no_more : c.in_ok-recorded.recorded.has_more ≡ false = elim c.if-recorded.branch [
      | then-recorded w ↦ sym w.serving-is ∙ quiet
      | else-recorded w ↦ w.if-recorded.false
    ] in
    emptied_if g.C.Counts.exact g.C.Counts.home c.args.service.now.keeps_records c.in_ok-acted.acted.standing c.in_ok-acted.ensures.seen _ refl
    (c.in_ok-recorded.ensures.all no_more)

pub returns-clause-goes_on : goal.returns-clause-goes_on
returns-clause-goes_on g c = λ no. elim c.if-ends.branch [
  | then-ends w ↦
      inr (one_left g.C.Counts.exact g.C.Counts.home c.args.service.now.keeps_records c.in_ok-recorded.recorded.is_last c.in_ok-acted.acted.standing
      c.in_ok-acted.ensures.seen (c.may_end-ends.ensures.ends w.if-ends.true).0 (sym w.is_served.ensures ∙ sym w.result-is ∙ no))
  | else-ends w ↦ inl (subst (λ n. StaysOn c.in_ok-acted.acted.standing.is_done c.serve_and_act.new.serving.connections.contacts c.may_end-ends.new.stay (length c.args.service.now.books.now) n) c.in_ok-acted.ensures.passes (c.may_end-ends.ensures.goes_on w.if-ends.false))
]

pub returns-clause-found : goal.returns-clause-found
returns-clause-found g c = let seen = c.in_ok-acted.ensures.seen in (seen.0, seen.1, seen.2)

pub returns-clause-stays : goal.returns-clause-stays
returns-clause-stays g c =
    c.may_end-ends.ensures.stay
    ∙ ap (stay_after c.in_ok-acted.acted.standing.is_done c.in_ok-ran_out.ran_out c.serve_and_act.new.serving.connections.contacts) (c.in_ok-acted.ensures.stay ∙ c.in_ok-ran_out.ensures.kept.3)

pub returns-clause-told : goal.returns-clause-told
returns-clause-told g c = subst (StandOnBoard g.C.Counts.exact g.C.Counts.home) (sym c.in_ok-recorded.ensures.seats) c.tell_all.ensures.told

pub returns-in_err-recorded-clause-net : goal.returns-in_err-recorded-clause-net
returns-in_err-recorded-clause-net g c =
    let after = c.record.new.holdings.files in
    let streams =
    subst (λ f. c.in_err-recorded.field-0.0 ≡ Net → Streams g.S.Sink.seen g.C.Counts.exact g.C.Counts.home f.files.items after.files.items) c.in_ok-acted.ensures.files
    c.in_err-recorded.ensures.net
    in
    search (rules, streams)

pub returns-clause-busy : goal.returns-clause-busy
returns-clause-busy g c = λ quiet.
    let no_more : c.in_ok-acted.acted.moves.has_more ≡ false = elim c.if-recorded.branch [
      | then-recorded w ↦ absurd (true≢false (sym w.if-recorded.true ∙ sym w.serving-is ∙ quiet))
      | else-recorded w ↦ sym w.serving-is ∙ quiet
    ] in
    (c.in_ok-acted.ensures.more.none no_more).3

use Rattle.std.proofs.Common.{◌≡◌, ◌≤◌, subst}
use Rattle.nm_topology.specs.Topology.{receiving_iface}
use Rattle.nm_model.specs.Lists.{IsPrefix}
use Rattle.nm_model.specs.Promise.{promise}
use Rattle.nm_model.specs.Replica.{IsWithin, from_scratch, safe_time, with_new}
use Rattle.nm_sim.specs.Network.{net_of}
use Rattle.nm_book.specs.Book.{knowledge, knowledge_of, promise_on, safe_of, sent_over, state_of}
use Rattle.nm_book.proofs.Sisters.{back, over, under_at}
use Rattle.nm_book.proofs.laws.more_knowledge_changes_nothing_done.Goals as goal

pub returns : goal.returns
returns c = λ h.
    let a = c.args.less.now in
    let b = c.args.more.now in
    let net = net_of a.topology in
    let is = c.replica_of.ensures.topology in
    let within = c.replica_of.ensures.within in
    let under = under_at a b is.here (is.numbered a.partition) h in
    let stays = c.what_was_done_stays.ensures net is.network a.partition (knowledge a) (knowledge_of a.topology b.knows) under a.events b.events in
    let rise = c.promises_never_fall.ensures net is.network a.partition (knowledge a) (knowledge_of a.topology b.knows) under in
    let more_within : IsWithin net a.partition (knowledge_of a.topology b.knows) b.events = back a b (λ t p. IsWithin (net_of t) p (knowledge_of t b.knows) b.events) h.sisters c.replica_of-2.ensures.within in
    record {
      same = λ e. over a b (λ t p. from_scratch (net_of t) p (knowledge_of t b.knows) b.events ≡ with_new net a.partition (knowledge a) (knowledge_of t b.knows) (state_of a)) h.sisters
          (subst (λ k. from_scratch net a.partition (knowledge_of a.topology b.knows) k ≡ with_new net a.partition (knowledge a) (knowledge_of a.topology b.knows) (state_of a)) e
          (c.law_of_books.ensures net is.network a.partition (knowledge a) (knowledge_of a.topology b.knows) under a.events within).same);
      sent = λ le d. over a b (λ t p. IsPrefix (sent_over a d) ((from_scratch (net_of t) p (knowledge_of t b.knows) b.events).sent (receiving_iface t d))) h.sisters
          ((stays le within).sent (receiving_iface a.topology d));
      records = λ le. over a b (λ t p. IsPrefix (state_of a).records (from_scratch (net_of t) p (knowledge_of t b.knows) b.events).records) h.sisters (stays le within).records;
      safe = over a b (λ t p. safe_of a ≤ safe_time (net_of t) p (knowledge_of t b.knows)) h.sisters rise.safe;
      promises = λ le kind d. over a b (λ t p. promise_on kind a d ≤ promise (net_of t) kind p (knowledge_of t b.knows) b.events (receiving_iface t d)) h.sisters
          (rise.promised a.events b.events le within more_within kind (receiving_iface a.topology d));
    }

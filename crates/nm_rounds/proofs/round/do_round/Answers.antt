use Rattle.std.proofs.Common.{true, false, length, map, sym, subst}
use Rattle.nm_sim.specs.Network.{net_of}
use Rattle.nm_rounds.specs.Rounds.{AreAllNews, AreBooks, AllAreFinished, after_runs}
use Rattle.nm_rounds.proofs.RoundEnds.{all_heard, all_ran, one_left}
use Rattle.nm_rounds.proofs.round.do_round.Goals as goal
use Rattle.nm_rounds.proofs.round.do_round.Goals.{In_ok-run_all}

-- the books when all have run
ran : (c : In_ok-run_all)
    → AreBooks c.args.topology.now c.args.topology.now.partitions (after_runs c.requires.1 c.requires.0) c.run_all.new.books.items
ran c = all_ran c.args.topology.now c.requires.1 c.requires.2 c.requires.0 c.args.books.now.items c.run_all.new.books.items
    (λ p. (c.times_pass.ensures (net_of c.args.topology.now) c.every_topology_is_a_network.ensures.network).count_once p (c.requires.1 c.requires.0 p).knowledge) c.in_ok-run_all.ensures c.requires.3

pub returns-then-all_done : goal.returns-then-all_done
returns-then-all_done c j by_round are stand = (
  all_ran c.args.topology.now by_round are j c.args.books.now.items c.run_all.new.books.items
      (λ p. (c.times_pass.ensures (net_of c.args.topology.now) c.every_topology_is_a_network.ensures.network).count_once p (by_round j p).knowledge) c.in_ok-run_all.ensures stand,
  subst (λ z. AllAreFinished z true) c.deref.ensures.value c.if-all_done.ensures,
)

pub all_news-requires : goal.all_news-requires
all_news-requires c =
    let t = c.args.topology.now in
    let x = after_runs c.requires.1 c.requires.0 in
    let run = ran (goal.at.all_news-requires c).In_ok-run_all in
    record { books = (x, subst (AreBooks t t.partitions x) (sym c.deref-2.ensures.value) run) }

pub hear_all-requires : goal.hear_all-requires
hear_all-requires c =
    let t = c.args.topology.now in
    let x = after_runs c.requires.1 c.requires.0 in
    let run = ran (goal.at.hear_all-requires c).In_ok-run_all in (
      x,
      run,
      subst (λ z. AreAllNews t x (length t.receivers) (map (λ messages. messages.items) z)) (sym c.deref-3.ensures.value)
          (c.in_ok-news.ensures x (subst (AreBooks t t.partitions x) (sym c.deref-2.ensures.value) run)),
    )

pub returns : goal.returns
returns c j by_round are stand =
    let t = c.args.topology.now in
    let x = after_runs by_round j in
    let run = all_ran t by_round are j c.args.books.now.items c.run_all.new.books.items
    (λ p. (c.times_pass.ensures (net_of t) c.every_topology_is_a_network.ensures.network).count_once p (by_round j p).knowledge) c.in_ok-run_all.ensures stand in
    let news = subst (λ z. AreAllNews t x (length t.receivers) (map (λ messages. messages.items) z)) (sym c.deref-3.ensures.value)
    (c.in_ok-news.ensures x (subst (AreBooks t t.partitions x) (sym c.deref-2.ensures.value) run)) in (
      all_heard t by_round are j c.hear_all.new.books.items (c.in_ok-hear_all.ensures x run news),
      one_left t by_round are j c.run_all.new.books.items run (subst (λ z. AllAreFinished z false) c.deref.ensures.value c.if-all_done.ensures),
    )

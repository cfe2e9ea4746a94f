use Rattle.std.proofs.Common.{◌+◌, []}
use Rattle.nm_measure.specs.Lanes.{own_among, own_in}
use Rattle.nm_measure.specs.Ways.{ends_in}
use Rattle.nm_measure.proofs.watched.Watched.begin_recent.Goals as goal

pub returns-clause-watches : goal.returns-clause-watches
returns-clause-watches c = λ t n was. record {
  all_there = was.all_there;
  each = was.each;
  numbers = c.begin_recent.ensures.flows (ends_in t n) (λ j. own_among j [] + own_in j c.args.self.now.lanes.items) was.numbers;
}

pub returns-clause-starts : goal.returns-clause-starts
returns-clause-starts c = λ t first n was starts. c.begin_recent.ensures.starts t first n was.numbers.arrivals starts

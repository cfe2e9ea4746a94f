use Rattle.std.proofs.Common.{rules, sym, ap, ◌∙◌}
use Rattle.std.specs.Arc.{arc_value}
use Rattle.nm_book.specs.Book.{BookValue}
use Rattle.nm_shared.specs.Home.{home_of}
use Rattle.nm_shared.proofs.Fresh.{fresh_has_all, fresh_knows}
use Rattle.nm_shared.proofs.shared_book.SharedBook.new.Goals as goal

pub invariant_of-new : goal.invariant_of-new
invariant_of-new g c =
    let t = arc_value c.args.topology in
    let e = c.in_ok-book.ensures.fresh in
    record {
      home = λ exact. ap home_of e ∙ sym (c.requires.home exact);
      channels = fresh_has_all t c.args.partition c.args.replica c.in_ok-book.book e;
      knows = sym (fresh_knows t c.args.partition c.args.replica c.in_ok-book.book e);
      messages = c.requires.counts.0 ∙ sym (fresh_knows t c.args.partition c.args.replica c.in_ok-book.book e);
      events = c.requires.counts.1 ∙ sym (ap (λ (b : BookValue). b.events) e);
      parts = search rules;
      idle = (c.requires.whole.1, c.requires.whole.2);
    }

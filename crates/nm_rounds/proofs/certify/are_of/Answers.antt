use Rattle.std.proofs.Common.{◌<◌, ◌≤◌, IsTrue, false, All, length, sym, subst, rules}
use Rattle.std.proofs.lemmas.List.Elements.{All-map, All-more}
use Rattle.std.proofs.lemmas.List.{take_all}
use Rattle.nm_rounds.specs.SameTopology.{SaysSame}
use Rattle.nm_rounds.proofs.CertifyLists.{is_contained}
use Rattle.nm_rounds.proofs.certify.are_of.Goals as goal

pub returns-then-not-same_topology-clause-other : goal.returns-then-not-same_topology-clause-other
returns-then-not-same_topology-clause-other c = λ e.
    let there : c.loop-book.book-index < length c.args.books.now = search rules in
    let found = is_contained (λ b. b.now) c.args.books.now c.loop-book.book-index c.book-item.result there c.book-item.is in (
      c.book-item.result.now,
      found,
      λ same.
          let h : IsTrue false = c.if-not-same_topology.ensures.1 (subst (λ z. SaysSame z c.args.topology.now) (sym c.topology.ensures) same) in
          absurd (cc),
    )

pub loop-book-preserved : goal.loop-book-preserved
loop-book-preserved c =
    let there : c.loop-book.book-index < length c.args.books.now = search rules in
    let same : SaysSame c.topology.result.now c.args.topology.now = search rules in
    All-more (λ b. SaysSame b.now.topology c.args.topology.now) c.args.books.now c.loop-book.book-index c.book-item.result there c.loop-book.invariant
    (subst (λ b. SaysSame b.now.topology c.args.topology.now) c.book-item.is (subst (λ z. SaysSame z c.args.topology.now) c.topology.ensures same))

pub returns-clause-all : goal.returns-clause-all
returns-clause-all c = λ e.
    let past : length c.args.books.now ≤ c.loop-book.book-index = search rules in
    All-map (λ b. SaysSame b.topology c.args.topology.now) (λ b. b.now) c.args.books.now
    (subst (All (λ b. SaysSame b.now.topology c.args.topology.now)) (take_all c.loop-book.book-index c.args.books.now past) c.loop-book.invariant)

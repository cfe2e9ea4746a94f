use Rattle.std.proofs.Common.{◌≡◌, ◌<◌, ◌≤◌, All, cond, length, true, Some, None, ap, subst, rules}
use Rattle.std.proofs.lemmas.List.Elements.{All-map, All-more}
use Rattle.std.proofs.lemmas.List.{take_all}
use Rattle.nm_model.specs.Certificate.{UnfinishedPart, is_done}
use Rattle.nm_sim.specs.Network.{net_of}
use Rattle.nm_book.specs.Book.{replica_of}
use Rattle.nm_rounds.specs.Certify.{IsWithinSafe, unfinished}
use Rattle.nm_rounds.specs.SameTopology.{SaysSame}
use Rattle.nm_rounds.proofs.CertifyLists.{all_at, first_behind}
use Rattle.nm_rounds.proofs.certify.check_done.Goals as goal

pub within_safe_time-requires : goal.within_safe_time-requires
within_safe_time-requires c =
    all_at (λ b. b.now) c.args.books.now c.loop-book.book-index c.book-item.result (search rules) c.book-item.is (λ b. SaysSame b.topology c.args.topology.now) c.requires

pub is_finished-requires : goal.is_finished-requires
is_finished-requires c =
    all_at (λ b. b.now) c.args.books.now c.loop-book.book-index c.book-item.result (search rules) c.book-item.is (λ b. SaysSame b.topology c.args.topology.now) c.requires

pub loop-book-preserved : goal.loop-book-preserved
loop-book-preserved c =
    let t = c.args.topology.now in
    let l = c.args.books.now in
    let n = c.loop-book.book-index in
    let x = c.book-item.result in
    let there : n < length l = search rules in
    let done : is_done (net_of t) x.now.partition (replica_of x.now) ≡ true = search rules in
    record {
      rest = first_behind (λ b. b.now) l n x there c.book-item.is (unfinished t) (ap (λ b. cond b None (Some (UnfinishedPart x.now.partition))) done) c.loop-book.invariant.rest;
      within = All-more (λ b. IsWithinSafe t b.now) l n x there c.loop-book.invariant.within (subst (λ b. IsWithinSafe t b.now) c.book-item.is c.within_safe_time.ensures);
    }

pub returns-clause-within : goal.returns-clause-within
returns-clause-within c =
    let past : length c.args.books.now ≤ c.loop-book.book-index = search rules in
    All-map (IsWithinSafe c.args.topology.now) (λ b. b.now) c.args.books.now
    (subst (All (λ b. IsWithinSafe c.args.topology.now b.now)) (take_all c.loop-book.book-index c.args.books.now past) c.loop-book.invariant.within)

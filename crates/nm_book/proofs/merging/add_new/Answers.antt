use Rattle.std.proofs.Common.{◌≡◌, ◌+◌, ◌∷◌, [], ◌++◌, Some, length, sym, ◌∙◌, subst, arith, refl, rules}
use Rattle.nm_model.specs.Join.{join}
use Rattle.nm_model.specs.Knowledge.{IsUnder}
use Rattle.nm_model.specs.Lists.{nth}
use Rattle.nm_model.proofs.ListLemmas.{nth_below, not_some}
use Rattle.nm_knowledge.specs.Octets.{same_octets}
use Rattle.nm_book.specs.Merging.{IsGrown, both_know}
use Rattle.nm_book.specs.Telling.{told_each}
use Rattle.nm_book.specs.declared.message.Data.{Data}
use Rattle.nm_book.proofs.Gatherings.{grown_first, grown_next}
use Rattle.nm_book.proofs.merging.add_new.Goals as goal

pub loop-number-init : goal.loop-number-init
loop-number-init c =
    let a = c.args.know.now in
    let b = c.args.other.now in
    let start : c.len-number.result ≡ length a.list = c.len-number.ensures.value in
    let more = c.requires.more in
    let under : IsUnder a (join a b) =
    (c.join_faults_are_right.ensures.joined a b
    (c.join_faults_are_right.ensures.only same_octets c.packets_are_told_apart.ensures.same c.packets_are_told_apart.ensures.apart a b c.what_is_known.ensures.known c.what_is_known-2.ensures.known c.requires.joinable)).0
    in
    record {
      most = omega (arith, start, more);
      grown = λ t p knows others turn comes.
          subst (λ n. IsGrown t p knows (told_each knows c.args.messages.now.items) (both_know c.args.channel a b) n c.args.messages.now.items) (sym start)
          (grown_first t p knows (told_each knows c.args.messages.now.items) c.args.channel a b c.args.messages.now.items turn.follow refl
          (turn.below.above c.args.channel (omega arith) ∙ turn.ours) under (omega (arith, more)));
    }

pub unreachable-requires : goal.unreachable-requires
unreachable-requires c =
    let end = c.len-number-end.ensures.value in
    let low = c.loop-number-test.true in
    let there = nth_below c.args.other.now.list c.loop-number.number (omega (arith, end, low)) in
    not_some there.0 (c.in_default.ensures ∙ there.1)

pub loop-number-preserved : goal.loop-number-preserved
loop-number-preserved c =
    let b = c.args.other.now in
    let end = c.len-number-end.ensures.value in
    let low = c.loop-number-test.true in
    let m : Data = record { channel = c.args.channel; number = c.loop-number.number; time = c.in-Some.time; packet = c.in-Some.packet.now } in
    let packet : c.in_ok-packet.packet ≡ c.in-Some.packet.now = search rules in
    let at : nth b.list c.loop-number.number ≡ Some (c.in-Some.time, c.in-Some.packet.now) = sym c.in-Some.ensures in
    let items : c.push.new.self.items ≡ c.loop-number.messages.items ++ m ∷ [] = search rules in
    record {
      most = omega (arith, end, low);
      grown = λ t p knows others turn comes.
          subst (λ ms. IsGrown t p knows (told_each knows c.args.messages.now.items) (both_know c.args.channel c.args.know.now b) (c.loop-number.number + 1) ms) (sym items)
          (grown_next t p knows (told_each knows c.args.messages.now.items) c.args.channel c.args.know.now b c.loop-number.number c.loop-number.messages.items c.in-Some.time c.in-Some.packet.now
          (c.loop-number.invariant.grown t p knows others turn comes) at c.what_is_known-2.ensures.known comes
          (let n = turn.below.count in let h = turn.there in omega (arith, n, h)));
    }

pub returns : goal.returns
returns c = λ t p knows others turn comes.
    let end = c.len-number-end.ensures.value in
    let high = c.loop-number-test.false in
    let most = c.loop-number.invariant.most in
    let same : c.loop-number.number ≡ length c.args.other.now.list = omega (arith, end, high, most) in
    subst (λ n. IsGrown t p knows (told_each knows c.args.messages.now.items) (both_know c.args.channel c.args.know.now c.args.other.now) n c.loop-number.messages.items) same
    (c.loop-number.invariant.grown t p knows others turn comes)

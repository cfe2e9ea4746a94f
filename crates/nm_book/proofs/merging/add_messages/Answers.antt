use Rattle.std.proofs.Common.{◌≡◌, ◌<◌, true, length, arith, rules}
use Rattle.nm_book.specs.Merging.{is_incoming}
use Rattle.nm_book.proofs.Gatherings.{grown_all}
use Rattle.nm_book.proofs.merging.add_messages.Goals as goal

pub returns : goal.returns
returns c = λ knows others turn.
    let t = c.args.topology.now in
    let p = c.args.partition in
    let comes : is_incoming t p knows others c.args.channel ≡ true = search rules in
    let more : length c.args.know.now.list < length c.args.other.now.list =
    let a = c.len.ensures.value in let b = c.len-2.ensures.value in let h = c.if-len.false in omega (arith, a, b, h) in
    let grown = c.in_ok-add_new.ensures t p knows others turn comes in
    (grown.follow, grown_all t p knows others c.args.channel c.args.know.now c.args.other.now c.args.messages.now.items c.add_new.new.messages.items turn more comes grown)

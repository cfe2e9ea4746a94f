use Rattle.std.proofs.Common.{◌<◌, arith, get_or, length, rules}
use Rattle.nm_policy.specs.Peers.{new_peer, rested}
use Rattle.nm_policy.proofs.Changing.{one_changed, same_length}
use Rattle.std.proofs.lemmas.List.{get_or_default}
use Rattle.nm_policy.proofs.contacts.rest_all.Goals as goal

pub loop-peer-preserved : goal.loop-peer-preserved
loop-peer-preserved c =
    let ys = c.loop-peer.peers in
    let i = c.loop-peer.peer-index in
    let d = get_or ys i new_peer in
    let long = same_length (rested c.args.ran_out) c.args.peers.now ys i c.loop-peer.invariant in
    let low : i < length c.args.peers.now = omega arith in
    let within : i < length ys = omega (arith, long, low) in
    one_changed (rested c.args.ran_out) c.args.peers.now ys i d _ low (get_or_default ys i new_peer d within) (search rules) c.loop-peer.invariant

use Rattle.std.proofs.Common.{◌≡◌, length, refl, ap, arith}
use Rattle.nm_packet.proofs.Writing.{lowered_copy}
use Rattle.nm_packet.proofs.ipv4.lowered_packet.Goals as goal

pub returns : goal.returns
returns c =
    let items = c.in_ok-copy.copy.items in
    let same : length c.lower.new.octets ≡ length items = omega (arith, ap length c.as_mut_slice.ensures.value) in
    lowered_copy c.from_own.result _ _ c.as_mut_slice.result.now items c.args.octets.now refl same c.as_mut_slice.ensures.value c.in_ok-copy.ensures c.lower.ensures c.from_own.ensures

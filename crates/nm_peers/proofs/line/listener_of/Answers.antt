use Rattle.std.proofs.Common.{◌≡◌, ap, ◌∙◌, Some, arith}
use Rattle.nm_peers.proofs.Words.{both_cut, first_cut, same_listener, same_numbers, second_has, words_have}
use Rattle.nm_peers.proofs.line.listener_of.Goals as goal

pub returns-in_err-first-clause-only : goal.returns-in_err-first-clause-only
returns-in_err-first-clause-only c = λ a fits e. absurd (words_have c.args.line.now a e c.in_err-first.ensures)

pub returns-in_err-second-clause-only : goal.returns-in_err-second-clause-only
returns-in_err-second-clause-only c = λ a fits e.
    let one = first_cut c.args.partitions c.args.line.now c.in_ok-first.first.now c.in_ok-first.rest.now a (omega arith) fits e c.in_ok-first.ensures.0 c.in_ok-first.ensures.1 in
    absurd (second_has c.in_ok-first.rest.now a one.1 c.in_err-second.ensures)

pub returns-in_err-partition-clause-only : goal.returns-in_err-partition-clause-only
returns-in_err-partition-clause-only c = λ a fits e.
    let one = first_cut c.args.partitions c.args.line.now c.in_ok-first.first.now c.in_ok-first.rest.now a (omega arith) fits e c.in_ok-first.ensures.0 c.in_ok-first.ensures.1 in
    let not = c.in_err-partition.ensures.only a.partition (omega (arith, fits.partition)) one.0 in
    absurd (cc)

pub returns-in_err-replica-clause-only : goal.returns-in_err-replica-clause-only
returns-in_err-replica-clause-only c = λ a fits e.
    let cut = both_cut c.args.partitions c.args.line.now c.in_ok-first.first.now c.in_ok-first.rest.now c.in_ok-second.second.now c.in_ok-second.third.now a (omega arith) fits e c.in_ok-first.ensures c.in_ok-second.ensures in
    let not = c.in_err-replica.ensures.only a.replica (omega (arith, fits.replica)) cut.1 in
    absurd (cc)

pub returns-in_err-address-clause-only : goal.returns-in_err-address-clause-only
returns-in_err-address-clause-only c = λ a fits e.
    let cut = both_cut c.args.partitions c.args.line.now c.in_ok-first.first.now c.in_ok-first.rest.now c.in_ok-second.second.now c.in_ok-second.third.now a (omega arith) fits e c.in_ok-first.ensures c.in_ok-second.ensures in
    let not = c.in_err-address.ensures.only a.address fits.address cut.2 in
    absurd (cc)

pub returns-then-partition-partitions-clause-only : goal.returns-then-partition-partitions-clause-only
returns-then-partition-partitions-clause-only c = λ a fits e.
    let cut = both_cut c.args.partitions c.args.line.now c.in_ok-first.first.now c.in_ok-first.rest.now c.in_ok-second.second.now c.in_ok-second.third.now a (omega arith) fits e c.in_ok-first.ensures c.in_ok-second.ensures in
    let same = same_numbers c.args.partitions c.in_ok-first.first.now c.in_ok-second.second.now c.in_ok-partition.partition c.in_ok-replica.replica a (omega arith) fits cut.0 cut.1 c.in_ok-partition.ensures.only c.in_ok-replica.ensures.only in
    let within = fits.partition in
    let also = fits.replica in
    absurd (omega arith)

pub returns-clause-only : goal.returns-clause-only
returns-clause-only c = λ a fits e.
    let cut = both_cut c.args.partitions c.args.line.now c.in_ok-first.first.now c.in_ok-first.rest.now c.in_ok-second.second.now c.in_ok-second.third.now a (omega arith) fits e c.in_ok-first.ensures c.in_ok-second.ensures in
    let same = same_numbers c.args.partitions c.in_ok-first.first.now c.in_ok-second.second.now c.in_ok-partition.partition c.in_ok-replica.replica a (omega arith) fits cut.0 cut.1 c.in_ok-partition.ensures.only c.in_ok-replica.ensures.only in
    let address_only = c.in_ok-address.ensures.only a.address fits.address cut.2 in
    let address : c.in_ok-address.address ≡ a.address = cc in
    ap Some (same_listener _ a (c.new.ensures ∙ same.0) same.1 address)

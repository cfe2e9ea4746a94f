use Rattle.std.proofs.Common.{◌≡◌, ◌<◌, ◌∷◌, [], ◌++◌, length, slice_get, refl, sym, ◌∙◌, ap, subst, rules}
use Rattle.nm_topology.specs.Topology.{receiving_iface}
use Rattle.nm_model.specs.Partition.{comes_in}
use Rattle.nm_sim.specs.Network.{net_of}
use Rattle.nm_book.specs.Merging.{IsGainOf, is_incoming, known, other}
use Rattle.nm_book.proofs.Gatherings.{got_pushed}
use Rattle.nm_book.proofs.Tellings.{read_known}
use Rattle.nm_book.proofs.merging.gains.Goals as goal

pub loop-number-preserved : goal.loop-number-preserved
loop-number-preserved c =
    let t = c.args.topology.now in
    let p = c.args.partition in
    let knows = c.args.knows.now in
    let others = c.args.others.now.knows in
    let n = c.loop-number.number in
    let below : n < length knows = search rules in
    let ours : known t p knows others n ≡ c.index-knows-number.result = read_known knows n n c.index-knows-number.result refl below c.index-knows-number.is in
    let theirs : other t p knows others n ≡ c.of.result.now = ap (other t p knows others) (sym c.channel_number-channel.ensures) ∙ sym c.of.ensures in
    let items : c.push.new.self.items ≡ c.loop-number.gains.items ++ c.in_ok-gain.gain ∷ [] = search rules in
    let count = c.loop-number.invariant.count in
    let here : IsGainOf (is_incoming t p knows others n) (known t p knows others n) (other t p knows others n) c.in_ok-gain.gain =
    subst (λ d. IsGainOf (comes_in (net_of t) p (receiving_iface t d)) (known t p knows others n) (other t p knows others n) c.in_ok-gain.gain) c.channel_number-channel.ensures
    (subst (λ a. IsGainOf (comes_in (net_of t) p (receiving_iface t c.channel_number-channel.result)) a (other t p knows others n) c.in_ok-gain.gain) (sym ours)
    (subst (λ b. IsGainOf (comes_in (net_of t) p (receiving_iface t c.channel_number-channel.result)) c.index-knows-number.result b c.in_ok-gain.gain) (sym theirs) c.in_ok-gain.ensures)) in
    record {
      count = let e = ap length items in search rules;
      each = λ d g e. got_pushed (λ d g. IsGainOf (is_incoming t p knows others d) (known t p knows others d) (other t p knows others d) g) c.loop-number.gains.items c.in_ok-gain.gain
          c.loop-number.invariant.each (subst (λ m. IsGainOf (is_incoming t p knows others m) (known t p knows others m) (other t p knows others m) c.in_ok-gain.gain) (sym count) here)
          d g (ap (λ l. slice_get l d) (sym items) ∙ e);
    }

use Rattle.std.proofs.Common.{◌≡◌, ◌<◌, length, refl, ap, ◌∙◌, subst, sym, unwrap_or}
use Rattle.nm_model.specs.Run.{one_list}
use Rattle.nm_sim.specs.Network.{net_of}
use Rattle.nm_measure.specs.Busy.{thousandths_of}
use Rattle.nm_report.specs.Loads.{IsLoad}
use Rattle.nm_report.proofs.Pieces.{drops_here}
use Rattle.nm_report.proofs.picture.load_of.Goals as goal

pub returns : goal.returns
returns c = λ until m low.
    let t = c.args.topology.now in
    let s = one_list (net_of t) m.events in
    let i = c.from_end-iface.result in
    let is = c.from_end-iface.ensures in
    let there = subst (λ k. k < length t.ifaces) (sym is) low in
    subst (λ k. IsLoad t m.events k (record { iface = i; packets = c.traffic_at.result.went.packets; dropped = c.unwrap_or.result; busy = c.thousandths.result; share = c.busy_share.result })) is (record {
      iface = refl;
      packets = ap (λ x. x.went.packets) (c.traffic_at.ensures t until m there);
      dropped = c.unwrap_or.ensures ∙ ap (λ o. unwrap_or o 0) (c.dropped.ensures t until m) ∙ drops_here t s i there;
      busy = c.thousandths.ensures.value ∙ (λ k. thousandths_of (c.busy.ensures t until m there k) ((c.nanoseconds.ensures ∙ c.stop.ensures) k));
      share = c.busy_share.ensures.share t until m there;
    })

use Rattle.nm_traffic.proofs.Networks.{times_rise, end_for_good, come_before_stop, fit_the_mtu, are_packets, have_octets}
use Rattle.nm_traffic.proofs.laws.times_rise_within_limits.Goals as goal

pub returns : goal.returns
returns c = λ t. record {
  before = come_before_stop t;
  limits = λ w. record { rise = times_rise t w; end = end_for_good t w; fit = fit_the_mtu t w; greatest = are_packets t w };
  least = have_octets t;
}

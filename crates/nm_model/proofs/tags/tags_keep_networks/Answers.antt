use Rattle.nm_model.proofs.Untagging.{tagged_net}
use Rattle.nm_model.proofs.tags.tags_keep_networks.Goals as goal

pub returns-clause-net : goal.returns-clause-net
returns-clause-net g c = λ net tags ok. tagged_net net tags ok

pub returns-clause-parted : goal.returns-clause-parted
returns-clause-parted g c = λ net tags ok. record { ifaces = ok.ifaces; sources = ok.sources }

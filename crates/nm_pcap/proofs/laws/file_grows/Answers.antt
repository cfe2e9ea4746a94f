use Rattle.nm_pcap.specs.Format.{file_header, record_octets}
use Rattle.nm_pcap.proofs.Files.{flat_map-push}
use Rattle.nm_pcap.proofs.laws.file_grows.Goals as goal

pub returns-clause-grows : goal.returns-clause-grows
returns-clause-grows c = λ records r. flat_map-push file_header record_octets records r

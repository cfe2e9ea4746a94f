use Rattle.nm_pcap.proofs.Files.{file_front}
use Rattle.nm_pcap.proofs.laws.file_is_a_prefix.Goals as goal

pub returns : goal.returns
returns g c = λ seen fresh new puts calls. file_front seen fresh calls.started new calls.first puts calls.starts calls.puts_on

use Rattle.nm_topology.proofs.Formats.{same_document, same_network}
use Rattle.nm_topology.proofs.laws.format_two_says_what_format_one_says.Goals as goal

pub returns : goal.returns
returns c = λ t format none. record {
  document = same_document t format none;
  text = λ one two h k e f. same_network one two t h k e f format none;
}

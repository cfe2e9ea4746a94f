use Rattle.std.proofs.Common.{◌≡◌, map, None, Err, sym, ap, ◌∙◌, subst, rules}
use Rattle.std.proofs.lemmas.List.Elements.{All-contains}
use Rattle.nm_model.specs.Certificate.{book_fault, first_below, first_of}
use Rattle.nm_model.specs.Join.{or_else}
use Rattle.nm_model.specs.Promise.{Tight}
use Rattle.nm_knowledge.specs.Octets.{same_octets}
use Rattle.nm_sim.specs.Network.{net_of}
use Rattle.nm_rounds.specs.Certify.{FindsFault, books_of, missing, unfinished}
use Rattle.nm_rounds.specs.SameTopology.{SaysSame}
use Rattle.nm_rounds.proofs.CertifySteps.{all_certified, answered, exactly, first_step, next_step, refuses}
use Rattle.nm_rounds.proofs.Standing.{parts_are}
use Rattle.nm_rounds.proofs.certify.certify.Goals as goal

pub returns-then-not-are_of-clause-exact : goal.returns-then-not-are_of-clause-exact
returns-then-not-are_of-clause-exact c =
    let t = c.args.topology.now in
    let books = map (λ b. b.now) c.args.books.now in
    let other = c.are_of.ensures.other (search rules) in
    ((λ ok. absurd (cc)), (λ both. absurd (other.2 (All-contains (λ b. SaysSame b.topology t) books other.0 both.0 other.1))))

pub returns-in_err-check_partitions : goal.returns-in_err-check_partitions
returns-in_err-check_partitions c =
    let t = c.args.topology.now in
    let net = net_of t in
    let packets = c.packets_are_told_apart.ensures in
    let books = map (λ b. b.now) c.args.books.now in
    let fault = c.in_err-check_partitions.field-0.0 in
    let here = subst (λ n. FindsFault t (first_below (missing books) n) (Err fault)) (sym (parts_are t)) c.in_err-check_partitions.ensures in
    let rest = or_else (first_of (unfinished t) (books_of books)) (first_of (book_fault net same_octets Tight (books_of books)) (books_of books)) in
    let both = refuses t books (c.are_of.ensures.all (search rules)) (c.certify_is_exact.ensures net same_octets packets.same packets.apart Tight (books_of books)).complete
    (c.certify_faults_are_right.ensures net c.every_topology_is_a_network.ensures.network same_octets packets.same packets.apart Tight (books_of books)) fault c.from_residual.result (search rules)
    (first_step t (first_below (missing books) net.parts) rest fault here) in
    record { answer = both.0; exact = both.1 }

pub returns-in_err-check_done : goal.returns-in_err-check_done
returns-in_err-check_done c =
    let t = c.args.topology.now in
    let net = net_of t in
    let packets = c.packets_are_told_apart.ensures in
    let books = map (λ b. b.now) c.args.books.now in
    let fault = c.in_err-check_done.field-0.0 in
    let there : first_below (missing books) net.parts ≡ None = ap (first_below (missing books)) (parts_are t) ∙ c.in_ok-check_partitions.ensures in
    let matches = first_of (book_fault net same_octets Tight (books_of books)) (books_of books) in
    let done = first_of (unfinished t) (books_of books) in
    let both = refuses t books (c.are_of.ensures.all (search rules)) (c.certify_is_exact.ensures net same_octets packets.same packets.apart Tight (books_of books)).complete
    (c.certify_faults_are_right.ensures net c.every_topology_is_a_network.ensures.network same_octets packets.same packets.apart Tight (books_of books)) fault c.from_residual-in_err-check_done.result (search rules)
    (next_step t (first_below (missing books) net.parts) (or_else done matches) (Err fault) there (first_step t done matches fault c.in_err-check_done.ensures.finds)) in
    record { answer = both.0; exact = both.1 }

pub returns : goal.returns
returns c =
    let t = c.args.topology.now in
    let net = net_of t in
    let ok = c.every_topology_is_a_network.ensures in
    let packets = c.packets_are_told_apart.ensures in
    let books = map (λ b. b.now) c.args.books.now in
    let there : first_below (missing books) net.parts ≡ None = ap (first_below (missing books)) (parts_are t) ∙ c.in_ok-check_partitions.ensures in
    let matches = first_of (book_fault net same_octets Tight (books_of books)) (books_of books) in
    let done = first_of (unfinished t) (books_of books) in
    let ours = c.are_of.ensures.all (search rules) in
    let finds = next_step t (first_below (missing books) net.parts) (or_else done matches) c.check_channels.result there
    (next_step t done matches c.check_channels.result c.in_ok-check_done.ensures.finds c.check_channels.ensures) in
    let sound = (c.certify_is_exact.ensures net same_octets packets.same packets.apart Tight (books_of books)).sound ok.network in
    let answer = answered t books ours
    (λ h. all_certified t books ours c.the_digest_is_no_part_of_the_network.ensures c.in_ok-check_done.ensures.within
    (λ safe i b at last before. c.certificate.ensures.listed net ok.network ok.parted Tight (books_of books) safe (sound h) i b at last before)
    (sound h))
    (c.certify_faults_are_right.ensures net ok.network same_octets packets.same packets.apart Tight (books_of books))
    c.check_channels.result finds
    in
    record {
      answer = answer;
      exact = exactly t books ours (c.certify_is_exact.ensures net same_octets packets.same packets.apart Tight (books_of books)).complete c.check_channels.result finds answer;
    }

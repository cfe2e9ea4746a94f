use Rattle.std.proofs.Common.{◌≡◌, ◌==◌, true, false, cond, None, sym, ap, ap₂, ◌∙◌, subst, rules}
use Rattle.nm_topology.specs.Topology.{receiving_iface}
use Rattle.nm_model.specs.Certificate.{channel_fault}
use Rattle.nm_model.specs.Partition.{goes_out, sender_of}
use Rattle.nm_model.specs.Promise.{Tight, promise}
use Rattle.nm_model.specs.Replica.{from_scratch}
use Rattle.nm_knowledge.specs.Octets.{same_octets}
use Rattle.nm_sim.specs.Network.{net_of}
use Rattle.nm_book.specs.Book.{is_outgoing, knowledge, promise_on, sent_over}
use Rattle.nm_rounds.specs.Certify.{FindsFault, book_of, list_fault, sender_fault}
use Rattle.nm_rounds.proofs.CertifyChannels.{sends}
use Rattle.nm_rounds.proofs.CertifySteps.{same_net, same_receiver}
use Rattle.nm_rounds.proofs.certify.check_sender.Goals as goal

pub returns-in_default : goal.returns-in_default
returns-in_default c = λ r comes knows.
    let t = c.args.topology.now in
    let net = net_of t in
    let b = c.args.sender.now in
    let i = receiving_iface t c.args.channel in
    let nets : net_of b.topology ≡ net = same_net c.the_digest_is_no_part_of_the_network.ensures b.topology t c.requires in
    let at : receiving_iface b.topology c.args.channel ≡ i = same_receiver b.topology t c.requires c.args.channel in
    let stays : is_outgoing b c.args.channel ≡ false = search rules in
    let other : (b.partition == sender_of net i) ≡ false =
    sym (sends net b.partition r.part i comes) ∙ subst (λ j. goes_out net b.partition j ≡ false) at (subst (λ z. goes_out z b.partition (receiving_iface b.topology c.args.channel) ≡ false) nets stays) in
    ap (λ z. cond z (channel_fault net same_octets Tight i r (book_of b)) None) other

pub returns : goal.returns
returns c = λ r comes knows.
    let t = c.args.topology.now in
    let net = net_of t in
    let b = c.args.sender.now in
    let k = c.args.know.now in
    let i = receiving_iface t c.args.channel in
    let j = receiving_iface b.topology c.args.channel in
    let nets : net_of b.topology ≡ net = same_net c.the_digest_is_no_part_of_the_network.ensures b.topology t c.requires in
    let at : j ≡ i = same_receiver b.topology t c.requires c.args.channel in
    let goes : is_outgoing b c.args.channel ≡ true = search rules in
    let sent : c.in-Some.sent.now ≡ sent_over b c.args.channel = search rules in
    let promised : c.in-Some-promise.promise ≡ promise_on Tight b c.args.channel = search rules in
    let from : (b.partition == sender_of net i) ≡ true =
    sym (sends net b.partition r.part i comes) ∙ subst (λ n. goes_out net b.partition n ≡ true) at (subst (λ z. goes_out z b.partition j ≡ true) nets goes) in
    let sent_here : (from_scratch net b.partition (knowledge b) b.events).sent i ≡ c.in-Some.sent.now =
    sym (sent ∙ ap (λ z. (from_scratch z b.partition (knowledge b) b.events).sent j) nets ∙ ap (λ n. (from_scratch net b.partition (knowledge b) b.events).sent n) at) in
    let promised_here : promise net Tight b.partition (knowledge b) b.events i ≡ c.in-Some-promise.promise =
    sym (promised ∙ ap (λ z. promise z Tight b.partition (knowledge b) b.events j) nets ∙ ap (λ n. promise net Tight b.partition (knowledge b) b.events n) at) in
    let same : sender_fault t i r (book_of b) ≡ list_fault i k c.in-Some.sent.now c.in-Some-promise.promise =
    ap (λ z. cond z (channel_fault net same_octets Tight i r (book_of b)) None) from
    ∙ ap (λ a. list_fault i a ((from_scratch net b.partition (knowledge b) b.events).sent i) (promise net Tight b.partition (knowledge b) b.events i)) knows
    ∙ ap₂ (λ s p. list_fault i k s p) sent_here promised_here in
    subst (λ o. FindsFault t o c.check_channel.result) (sym same) (c.check_channel.ensures t)

use Rattle.std.proofs.Common.{◌≡◌, true, Some, ap, sym, ◌∙◌, rules}
use Rattle.std.specs.Option.{option_map}
use Rattle.nm_model.specs.Lists.{nth}
use Rattle.nm_knowledge.proofs.Nexts.{looked_up}
use Rattle.nm_book.specs.Book.{is_outgoing, sent_over}
use Rattle.nm_book.proofs.Sendings.{data_is}
use Rattle.nm_book.proofs.book.Book.data.Goals as goal

pub returns : goal.returns
returns c =
    let goes : is_outgoing c.args.self.now c.args.channel ≡ true = search rules in
    let sent : c.out.result.now ≡ sent_over c.args.self.now c.args.channel = search rules in
    let found = looked_up c.out.result.now c.args.number c.get.result c.get.ensures.lookup in
    let at : nth (sent_over c.args.self.now c.args.channel) c.args.number ≡ Some c.in-Some.field-0.now =
    ap (λ l. nth l c.args.number) (sym sent) ∙ sym found ∙ ap (option_map (λ x. x.now)) c.in-Some.is in
    let packet : c.in_ok-packet.packet ≡ c.in-Some.field-0.now.1 = search rules in
    ap (λ x. Some (record { channel = c.args.channel; number = c.args.number; time = c.in-Some.field-0.now.0; packet = x })) packet
    ∙ data_is (is_outgoing c.args.self.now c.args.channel) (sent_over c.args.self.now c.args.channel) c.args.channel c.args.number c.in-Some.field-0.now goes at

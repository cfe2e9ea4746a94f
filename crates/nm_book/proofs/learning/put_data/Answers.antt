use Rattle.std.proofs.Common.{◌≡◌, ◌≤◌, ◌<◌, ◌++◌, ◌∷◌, [], ℕ, List, length, slice_set, slice_index_or, arith, sym, ◌∙◌, ap, subst}
use Rattle.std.proofs.lemmas.Bool.Decides.{nat_tests}
use Rattle.nm_model.specs.Knowledge.{Know, nothing_known}
use Rattle.nm_knowledge.specs.Octets.{same_octets}
use Rattle.nm_knowledge.proofs.Nexts.{data_is_new, new_is_next}
use Rattle.nm_book.specs.BookPart.{IsBook}
use Rattle.nm_book.specs.Telling.{told_one}
use Rattle.nm_book.proofs.learning.put_data.Goals as goal

pub returns-clause-book : goal.returns-clause-book
returns-clause-book c =
    let t = c.args.topology.now in
    let p = c.args.partition in
    let m = c.args.message.now in
    let knows = c.args.knows.now.items in
    let known : Know (List ℕ) = slice_index_or knows m.channel nothing_known in
    let found = new_is_next same_octets known m.number (m.time, m.packet) c.requires.next in
    let counted : m.number ≡ length known.list = let h = found.0 in grind (arith, nat_tests, h) in
    let later : known.clock ≤ m.time = let h = found.1 in grind (arith, nat_tests, h) in
    let new = data_is_new known m.number counted same_octets (m.time, m.packet) later found.2 in
    let within : m.channel < length knows = let n = c.requires.book.count in let h = c.requires.there in omega (arith, n, h) in
    let items : c.add_data.new.knows.items ≡ told_one knows m = c.in_ok-add_data.ensures.ok ∙ ap (λ r. slice_set knows m.channel r.after) new in
    let same : c.args.packet ≡ m.packet = c.requires.same in
    subst (λ l. IsBook t p l c.put_message.new.part) (sym items)
    (subst (λ y. IsBook t p (slice_set knows m.channel (record { list = known.list ++ (m.time, y) ∷ []; clock = m.time })) c.put_message.new.part) same
    (c.put_message.ensures.book knows c.requires.book (record { there = within; incoming = c.requires.comes; number = counted; later = later })))

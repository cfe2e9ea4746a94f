use Rattle.std.proofs.Common.{◌≡◌, ◌∷◌, [], length, rules, arith, sym, ◌∙◌, ap, subst, refl}
use Rattle.std.specs.Vec.Iter.{into_iter_items}
use Rattle.nm_book.specs.BookPart.{IsBook}
use Rattle.nm_book.specs.Telling.{Follow, told_each, told_one}
use Rattle.nm_book.proofs.Gatherings.{none_left}
use Rattle.nm_book.proofs.learning.put_messages.Goals as goal

pub loop-message-init : goal.loop-message-init
loop-message-init c =
    let items : into_iter_items c.into_iter-message-iterator.result ≡ c.args.messages.items = search rules in
    record {
      steps = refl;
      keeping = refl;
      room = let e = ap length items in let h = c.requires.room in omega (arith, e, h);
      book = λ knows book follow. (
        knows,
        book,
        subst (Follow c.args.topology.now c.args.partition knows) (sym items) follow,
        ap (told_each knows) items,
      );
    }

pub put_message-requires-clause-next : goal.put_message-requires-clause-next
put_message-requires-clause-next c =
    let t = c.args.topology.now in
    let p = c.args.partition in
    let items : into_iter_items c.loop-message.message-iterator ≡ c.in-Some.message ∷ into_iter_items c.next.new.self = search rules in
    let start = c.requires.next in
    let now = c.loop-message.invariant.book start.0 start.1 start.2 in
    (now.0, now.1, (subst (Follow t p now.0) items now.2).0)

pub put_message-requires-clause-room : goal.put_message-requires-clause-room
put_message-requires-clause-room c =
    let items : into_iter_items c.loop-message.message-iterator ≡ c.in-Some.message ∷ into_iter_items c.next.new.self = search rules in
    let e = ap length items in
    let h = c.loop-message.invariant.room in omega (arith, e, h)

pub loop-message-preserved : goal.loop-message-preserved
loop-message-preserved c =
    let t = c.args.topology.now in
    let p = c.args.partition in
    let m = c.in-Some.message in
    let rest = into_iter_items c.next.new.self in
    let items : into_iter_items c.loop-message.message-iterator ≡ m ∷ rest = search rules in
    let e = ap length items in
    let h = c.loop-message.invariant.room in
    let room = c.put_message.ensures.room in
    record {
      steps = c.put_message.ensures.steps ∙ c.loop-message.invariant.steps;
      keeping = c.put_message.ensures.keeping ∙ c.loop-message.invariant.keeping;
      room = omega (arith, e, h, room);
      book = λ knows book follow.
          let now = c.loop-message.invariant.book knows book follow in
          let follows = subst (Follow t p now.0) items now.2 in (
            told_one now.0 m,
            c.put_message.ensures.book now.0 now.1 follows.0,
            follows.1,
            sym (ap (told_each now.0) items) ∙ now.3,
          );
    }

pub returns-clause-book : goal.returns-clause-book
returns-clause-book c = λ knows book follow.
    let t = c.args.topology.now in
    let p = c.args.partition in
    let len : length (into_iter_items c.loop-message.message-iterator) ≡ 0 = let h = c.in-None.ensures.steps.0 in search rules in
    let ended : into_iter_items c.loop-message.message-iterator ≡ [] = none_left (into_iter_items c.loop-message.message-iterator) len in
    let now = c.loop-message.invariant.book knows book follow in
    subst (λ l. IsBook t p l c.loop-message.part) (sym (ap (told_each now.0) ended) ∙ now.3) now.1

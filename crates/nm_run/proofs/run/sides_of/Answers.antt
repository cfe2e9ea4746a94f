use Rattle.std.proofs.Common.{◌≡◌, ◌∷◌, [], ◌++◌, All, length, map, not, sym, ◌∙◌, ap, subst, rules}
use Rattle.std.specs.Arc.{arc_value}
use Rattle.std.specs.List.{filter}
use Rattle.std.proofs.lemmas.List.{length_push}
use Rattle.std.proofs.lemmas.List.Elements.{All-push}
use Rattle.nm_files.specs.Files.{AreCounted}
use Rattle.nm_replica.specs.Seats.{board_of, words_of}
use Rattle.nm_replica.specs.Words.{is_word_of}
use Rattle.nm_shared.specs.Board.{owned_word}
use Rattle.nm_run.specs.Watching.{IsOwnAt, names_of}
use Rattle.nm_run.proofs.Dealing.{AreLeft, left_more, own_left, same_words}
use Rattle.std.specs.Vec.Iter.{into_iter_items}
use Rattle.nm_run.proofs.Watching.{one_placed, owns_more}
use Rattle.nm_run.proofs.run.sides_of.Goals as goal

pub loop-post-preserved : goal.loop-post-preserved
loop-post-preserved g c =
    let board = c.args.threaded.now.board.now in
    let t = arc_value c.args.threaded.now.plan.now.topology.now in
    let names = names_of c.args.threaded.now in
    let words = map owned_word c.args.owners.items in
    let was = c.loop-post.invariant in
    let sides = c.loop-post.sides.items in
    let side = c.in_ok-side_of.field-0 in
    let last : c.push.new.self.items ≡ sides ++ side ∷ [] = search rules in
    let own = c.own_at-own.result in
    let p = own.book.now.partition in
    let r = own.book.now.replica in
    let at : IsOwnAt names (length sides) own = search rules in
    let same = same_words c.deref.result.now t c.name.result.partition p c.name.result.replica r c.deref.ensures c.name.ensures.0 c.name.ensures.1 in
    let rest = words_of c.loop-post.rest in
    let dealt = c.in_ok-seats.ensures.own ∙ ap (λ f. filter f rest) same ∙ own_left t names (length sides) p r rest words at.1 was.left in
    let others = c.in_ok-seats.ensures.others ∙ ap (λ f. filter (λ w. not (f w)) rest) same in
    let is = c.in_ok-side_of.ensures in
    record {
      all = search rules;
      posts =
          let more = into_iter_items c.next.new.self in
          ap (λ l. map (λ s. s.post) l ++ more) last ∙ one_placed (λ s. s.post) sides side c.in-Some.post more (is.post) ∙ ap (λ l. map (λ s. s.post) sides ++ l) (sym c.in-Some.ensures.steps.0) ∙ was.posts;
      rest = c.in_ok-seats.ensures.board.1 ∙ was.rest;
      left = subst (λ n. AreLeft t names n (words_of c.in_ok-seats.field-0.others) words) (sym (ap length last ∙ length_push sides side))
          (left_more t names (length sides) p r rest (words_of c.in_ok-seats.field-0.others) words c.requires.names at.1 others was.left);
      own = owns_more (λ s. s.own) names sides c.push.new.self.items side last (subst (IsOwnAt names (length sides)) (sym is.own) at) was.own;
      board = subst (All (λ s. board_of s.holdings.seats ≡ board)) (sym last)
          (All-push (λ s. board_of s.holdings.seats ≡ board) sides side was.board
          (ap board_of is.seats ∙ c.in_ok-seats.ensures.board.0 ∙ was.rest));
      seats = subst (All (λ s. words_of s.holdings.seats ≡ filter (is_word_of t s.own.book.now.partition s.own.book.now.replica) words)) (sym last)
          (All-push (λ s. words_of s.holdings.seats ≡ filter (is_word_of t s.own.book.now.partition s.own.book.now.replica) words) sides side was.seats
          (subst (λ o. words_of side.holdings.seats ≡ filter (is_word_of t o.book.now.partition o.book.now.replica) words) (sym is.own) (ap words_of is.seats ∙ dealt)));
      counted = subst (All (λ s. AreCounted g.F.File.Sink.seen (g.F.Outputs.made c.args.outputs.now) s.holdings.files.files.items)) (sym last)
          (All-push (λ s. AreCounted g.F.File.Sink.seen (g.F.Outputs.made c.args.outputs.now) s.holdings.files.files.items) sides side
          was.counted
          (subst (λ m. AreCounted g.F.File.Sink.seen m side.holdings.files.files.items) was.same is.counted));
      same = is.same ∙ was.same;
    }

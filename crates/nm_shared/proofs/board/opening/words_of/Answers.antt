use Rattle.std.proofs.Common.{rules, ◌≡◌, List, [], ◌∷◌, ◌++◌, length, sym, ap, ◌∙◌, subst}
use Rattle.nm_shared.specs.declared.board.OwnerSeat.{OwnerSeat}
use Rattle.nm_shared.specs.declared.word.Word.{Word}
use Rattle.nm_shared.specs.declared.word.WordSeat.{WordSeat}
use Rattle.nm_shared.specs.Clock.{owner}
use Rattle.nm_shared.specs.Board.{Sit, id_of, view_of, word_id}
use Rattle.nm_shared.specs.Board.{AreOwners}
use Rattle.nm_shared.proofs.Closings.{owners_more, sit_more}
use Rattle.nm_shared.proofs.board.opening.words_of.Goals as goal

pub loop-number-preserved : goal.loop-number-preserved
loop-number-preserved c =
    let i = c.loop-number.invariant in
    let ws = c.loop-number.words.items in
    let os = c.loop-number.owners.items in
    let word = c.in_ok-word.word in
    let o = c.owner_seat.result in
    let words : c.push.new.self.items ≡ ws ++ word ∷ [] = c.in_ok-push.ensures.items in
    let owners : c.push-in-loop-number.new.self.items ≡ os ++ o ∷ [] = c.in_ok-push-2.ensures.items in
    let closers : c.push-in-loop-number-2.new.self.items ≡ c.loop-number.places.items ++ c.split-place.result ∷ [] = c.in_ok-push-3.ensures.items in
    let wlen : length ws ≡ c.loop-number.number = sym c.loop-number.words.ok.0 ∙ i.words in
    let olen : length os ≡ c.loop-number.number = sym c.loop-number.owners.ok.0 ∙ i.owners in
    let place : o.place ≡ c.split-place.new.place = c.owner_seat.ensures.1 in
    let same : id_of o.place ≡ word_id word = ap id_of place ∙ c.split-place.ensures.same.0 ∙ c.in_ok-word.ensures.0 in
    let view : view_of o.place ≡ owner = ap view_of place ∙ c.split-place.ensures.same.1 ∙ c.in_ok-word.ensures.1 in
    record {
      words = search rules;
      owners = search rules;
      are = subst (λ (l : List OwnerSeat). AreOwners c.push.new.self.items l) (sym owners) (subst (λ (l : List Word). AreOwners l (os ++ o ∷ [])) (sym words) (owners_more ws os word o i.are (olen ∙ sym wlen) (c.owner_seat.ensures.0 ∙ sym wlen) same view));
      sit = subst (λ (l : List WordSeat). Sit c.push.new.self.items l) (sym closers) (subst (λ (l : List Word). Sit l (c.loop-number.places.items ++ c.split-place.result ∷ [])) (sym words) (sit_more ws c.loop-number.places.items word c.split-place.result i.sit (c.split-place.ensures.other.0 ∙ c.in_ok-word.ensures.0)));
    }

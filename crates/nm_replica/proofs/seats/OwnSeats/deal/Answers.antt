use Rattle.std.proofs.Common.{◌≡◌, ◌∷◌, [], ◌++◌, ℕ, Bool, true, false, not, ap, rules}
use Rattle.std.specs.List.{filter}
use Rattle.nm_shared.specs.Board.{IsOwnerOf, owned_word}
use Rattle.nm_replica.specs.Seats.{words_of}
use Rattle.nm_replica.specs.Words.{is_word_of}
use Rattle.nm_replica.proofs.Owners.{chooses_one, lets_one, moves_one, passes_one}
use Rattle.nm_replica.proofs.seats.OwnSeats.deal.Goals as goal

pub loop-seat-preserved-in-Continue-1 : goal.loop-seat-preserved-in-Continue-1
loop-seat-preserved-in-Continue-1 c =
    let own = c.loop-seat.own.items in
    let rest = c.loop-seat.seat-iterator.rest.items in
    let left = c.next.new.self.rest.items in
    let seat = c.in-Some.seat in
    let first : rest ≡ seat ∷ left = search rules in
    let last : c.push.new.self.items ≡ own ++ seat ∷ [] = search rules in
    let wants : ℕ → Bool = is_word_of c.args.topology.now c.args.name.partition c.args.name.replica in
    let lacks : ℕ → Bool = λ w. not (wants w) in
    let is : wants (owned_word seat) ≡ true = search rules in
    let words = words_of c.args.self in
    record {
      own = moves_one (IsOwnerOf c.args.self.board.now) own c.push.new.self.items rest left seat first last c.loop-seat.invariant.own c.loop-seat.invariant.rest;
      others = c.loop-seat.invariant.others;
      rest = lets_one (IsOwnerOf c.args.self.board.now) rest left seat first c.loop-seat.invariant.rest;
      own_words = chooses_one wants own c.push.new.self.items rest left seat (filter wants words) first last is c.loop-seat.invariant.own_words;
      other_words = passes_one lacks c.loop-seat.others.items rest left seat (filter lacks words) first (ap not is) c.loop-seat.invariant.other_words;
    }

pub loop-seat-preserved : goal.loop-seat-preserved
loop-seat-preserved c =
    let others = c.loop-seat.others.items in
    let rest = c.loop-seat.seat-iterator.rest.items in
    let left = c.next.new.self.rest.items in
    let seat = c.in-Some.seat in
    let first : rest ≡ seat ∷ left = search rules in
    let last : c.push-else-is_own.new.self.items ≡ others ++ seat ∷ [] = search rules in
    let wants : ℕ → Bool = is_word_of c.args.topology.now c.args.name.partition c.args.name.replica in
    let lacks : ℕ → Bool = λ w. not (wants w) in
    let is : wants (owned_word seat) ≡ false = search rules in
    let words = words_of c.args.self in
    record {
      own = c.loop-seat.invariant.own;
      others = moves_one (IsOwnerOf c.args.self.board.now) others c.push-else-is_own.new.self.items rest left seat first last c.loop-seat.invariant.others c.loop-seat.invariant.rest;
      rest = lets_one (IsOwnerOf c.args.self.board.now) rest left seat first c.loop-seat.invariant.rest;
      own_words = passes_one wants c.loop-seat.own.items rest left seat (filter wants words) first is c.loop-seat.invariant.own_words;
      other_words = chooses_one lacks others c.push-else-is_own.new.self.items rest left seat (filter lacks words) first last (ap not is) c.loop-seat.invariant.other_words;
    }

-- The last two of the owners that a board begins with, taken from the list one after the other.
use Rattle.std.proofs.Common.{◌≡◌, ℕ, ◌+◌, List, [], ◌∷◌, ◌++◌, length, ap, sym, ◌∙◌, subst, arith}
use Rattle.std.proofs.lemmas.List.{length-append}
use Rattle.nm_shared.specs.Board.{AreFirstOwners, AreOwnersOf, Each, IsOwnerOf, SitsAt, view_of}
use Rattle.nm_shared.specs.Clock.{owner}
use Rattle.nm_shared.specs.declared.board.ClockBoard.{ClockBoard}
use Rattle.nm_shared.specs.declared.board.OwnerSeat.{OwnerSeat}
use Rattle.nm_shared.proofs.Closings.{each_back, each_front}

module _ (board : ClockBoard) (owners others rest : List OwnerSeat) (last one : OwnerSeat)
    (first : AreFirstOwners board owners)
    (popped : owners ≡ others ++ last ∷ []) (more : others ≡ rest ++ one ∷ []) where
  abbrev IsFirst : ℕ → OwnerSeat → Type 0
  IsFirst k o = (o.word ≡ k) × SitsAt board.words.items k o.place × (view_of o.place ≡ owner)

  fronts : Each IsFirst others
  fronts = each_front IsFirst owners others last popped first

  at : IsFirst (length rest) one
  at = each_back IsFirst others rest one more fronts

  owns : (k : ℕ) (o : OwnerSeat) → IsFirst k o → IsOwnerOf board o
  owns k o is = subst (λ n. SitsAt board.words.items n o.place) (sym is.0) is.1

  pub is_owner : IsOwnerOf board one
  is_owner = owns (length rest) one at

  pub last_is_owner : IsOwnerOf board last
  last_is_owner = owns (length others) last (each_back IsFirst owners others last popped first)

  pub rest_are_owners : AreOwnersOf board rest
  rest_are_owners k o e = owns k o (each_front IsFirst others rest one more fronts k o e)

  -- of four it owns the third word
  pub is_third : length owners ≡ 4 → one.word ≡ 2
  is_third all =
      let four : length owners ≡ length others + 1 = ap length popped ∙ length-append others (last ∷ []) in
      let three : length others ≡ length rest + 1 = ap length more ∙ length-append rest (one ∷ []) in
      let word = at.0 in
      omega (arith, word, all, four, three)

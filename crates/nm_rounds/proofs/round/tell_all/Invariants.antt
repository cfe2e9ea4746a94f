use Rattle.std.proofs.Common.{◌≡◌, ℕ, ◌<◌, true, length}
use Rattle.nm_book.specs.Book.{is_incoming}
use Rattle.nm_rounds.specs.Rounds.{AreOfChannel}
use Rattle.nm_rounds.proofs.RoundTells.{with_told}
use Rattle.nm_rounds.proofs.round.tell_all.Given as goal

abbrev pub invariant-loop-message : goal.invariant-loop-message
invariant-loop-message l = (c : ℕ) → is_incoming l.fn.book c ≡ true → c < length l.fn.book.knows → AreOfChannel c l.messages → l.book ≡ with_told l.fn.book l.messages c l.message-index

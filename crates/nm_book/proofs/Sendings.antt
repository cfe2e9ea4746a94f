-- What was sent on a channel.
use Rattle.std.proofs.Common.{◌≡◌, ℕ, Bool, true, false, List, Some, sym, ap}
use Rattle.std.specs.Option.{option_and_then}
use Rattle.nm_model.specs.Lists.{nth}
use Rattle.nm_book.specs.Book.{data_from, only_if}

-- a message that was sent
pub data_is : (b : Bool) (sent : List (ℕ × List ℕ)) (c n : ℕ) (m : ℕ × List ℕ) → b ≡ true → nth sent n ≡ Some m
    → Some (record { channel = c; number = n; time = m.0; packet = m.1 }) ≡ option_and_then (λ l. data_from c n (nth l n)) (only_if b sent)
data_is true sent c n m e at = ap (data_from c n) (sym at)
data_is false sent c n m e at = absurd cc

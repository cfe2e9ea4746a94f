-- For whom a replica waits, peer by peer.
use Rattle.std.proofs.Common.{◌≡◌, ℕ, ◌<◌, ◌≤◌, false, length, arith, ⊎_elim}
use Rattle.std.proofs.lemmas.Bool.{cases_lt}
use Rattle.std.proofs.lemmas.Bool.Decides.{nat_tests}
use Rattle.nm_policy.specs.Awaited.{is_awaited_at}
use Rattle.nm_policy.specs.Contacts.{ContactsValue}

-- for none of the peers that there are, so for nobody
pub none_awaited : (s : ContactsValue) (n : ℕ) → length s.peers ≤ n → ((k : ℕ) → k < n → is_awaited_at s k ≡ false) → (peer : ℕ) → is_awaited_at s peer ≡ false
none_awaited s n all below peer =
    ⊎_elim (below peer) (λ past. grind (arith, nat_tests, all, past)) (cases_lt peer n)

-- Whether a replica may end after a poll, or goes on.
use Rattle.std.specs.Prelude.{◌≡◌, ◌⊎◌, ℕ, Bool, true, false, if◌then◌else◌}
use Rattle.nm_book.specs.Book.{BookValue, replica_of}
use Rattle.nm_model.specs.Certificate.{is_done}
use Rattle.nm_policy.specs.Contacts.{ContactsValue}
use Rattle.nm_policy.specs.Stays.{leaves, stayed}
use Rattle.nm_policy.specs.declared.staying.Stay.{Stay}
use Rattle.nm_replica.specs.Served.{AllWereFinished, IsSomeLeft, is_handed_out}
use Rattle.nm_shared.specs.Home.{Home, home_of}
use Rattle.nm_sim.specs.Network.{net_of}

-- how long it has stayed after one more poll: that counts only once its book is done
abbrev pub stay_after : (is_done ran_out : Bool) → ContactsValue → Stay → Stay
stay_after is_done ran_out contacts stay = if is_done then stayed ran_out contacts stay else stay

-- it may end: its book is done, and it leaves, or each of so many replicas was seen to be done
abbrev pub MayEnd : (is_done : Bool) → ContactsValue → Stay → (replicas : ℕ) → Type 0
MayEnd is_done contacts stay replicas =
    (is_done ≡ true) × ((leaves contacts stay ≡ true) ⊎ AllWereFinished replicas)

-- it may not: its book is not done, or it does not leave yet while one of the others is not done
abbrev pub StaysOn : (is_done : Bool) → ContactsValue → Stay → (replicas passes : ℕ) → Type 0
StaysOn is_done contacts stay replicas passes =
    (is_done ≡ false) ⊎ ((leaves contacts stay ≡ false) × IsSomeLeft replicas passes)

-- a book, which is this replica's if the counts are exact, was seen to be done or not
abbrev pub WasFound : (exact : Bool) → Home → (done : Bool) → Type 0
WasFound exact own done =
    (b : BookValue) × (exact ≡ true → home_of b ≡ own)
    × (done ≡ is_done (net_of b.topology) b.partition (replica_of b))

-- such a book, which does not keep its records, was seen to have one left to hand out
abbrev pub HasOneLeft : (exact : Bool) → Home → (keeps_records : Bool) → Type 0
HasOneLeft exact own keeps_records =
    (keeps_records ≡ false)
    × ((b : BookValue) × (exact ≡ true → home_of b ≡ own) × (is_handed_out b ≡ false))

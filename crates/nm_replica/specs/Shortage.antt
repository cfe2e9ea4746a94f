-- How a replica bears that the system lacks resources for one more connection.
use Rattle.std.specs.Prelude.{◌≡◌, ℕ, Bool, true, false, if◌then◌else◌}
use Rattle.nm_policy.specs.Contacts.{ContactsValue}
use Rattle.nm_policy.specs.Lasting.{lasted_after}
use Rattle.nm_replica.specs.Connections.{DropsStranger}

-- for how many periods resources have been lacking while somebody is not connected, after one more
-- poll; `ran_out`: a period was over
abbrev pub short_after : (is_lacking ran_out : Bool) → (before : ℕ) → ℕ
short_after is_lacking ran_out before = if is_lacking then lasted_after before ran_out else 0

-- the oldest stranger is closed once that has lasted long enough, and nobody before
abbrev pub DropsIf : (is_scarce : Bool) → (old new : ContactsValue) → Type 0
DropsIf true old new = DropsStranger old new
DropsIf false old new = new ≡ old

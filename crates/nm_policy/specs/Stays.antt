-- How long a replica stays after its links have ended.
use Rattle.std.specs.Prelude.{ℕ, ◌+◌, Bool, true, false, not, ◌&&◌, ◌||◌, nat_le, if◌then◌else◌}
use Rattle.nm_base.specs.Count.{saturated}
use Rattle.nm_policy.specs.Contacts.{ContactsValue}
use Rattle.nm_policy.specs.Decisions.{are_serving}
use Rattle.nm_policy.specs.Lasting.{has_lasted, lasted_after}
use Rattle.nm_policy.specs.Links.{are_sure, have_ended}
use Rattle.nm_policy.specs.declared.limits.TheConstants.{LINGER_PERIODS, QUIET_POLLS}
use Rattle.nm_policy.specs.declared.staying.Stay.{Stay}

-- how many polls in a row ran out since the ends of the links are sure, after one more
abbrev pub quiet_after : (before : ℕ) → (is_quiet : Bool) → ℕ
quiet_after before true = saturated (before + 1)
quiet_after before false = 0

-- how long it has stayed after one more poll, once its links have ended
abbrev pub stayed : (ran_out : Bool) → ContactsValue → Stay → Stay
stayed ran_out s stay =
    if have_ended s.callers s.peers then record {
      all = record { periods = lasted_after stay.all.periods ran_out };
      quiet = quiet_after stay.quiet (are_sure s.callers s.peers && ran_out);
    }
    else stay

-- Whether a replica may leave: the ends of its links are sure, and enough polls in a row ran out
-- since; or it has stayed long enough since its links ended.
abbrev pub may_leave : (are_sure : Bool) → (stayed quiet : ℕ) → Bool
may_leave are_sure stayed quiet =
    (are_sure && nat_le QUIET_POLLS quiet) || has_lasted LINGER_PERIODS stayed

-- It leaves: its links have ended, no peer that sent Hello is connected, and it has stayed as long
-- as it must.
abbrev pub leaves : ContactsValue → Stay → Bool
leaves s stay =
    have_ended s.callers s.peers && not (are_serving s)
    && may_leave (are_sure s.callers s.peers) stay.all.periods stay.quiet

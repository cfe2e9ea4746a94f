-- How often links have ended.
use Rattle.std.specs.Prelude.{ℕ, ◌-◌, Bool, true, false, ◌||◌, if◌then◌else◌}
use Rattle.nm_frames.specs.declared.replica_name.ReplicaName.{ReplicaName}
use Rattle.nm_policy.specs.Names.{are_same}
use Rattle.nm_policy.specs.declared.callers.Caller.{Caller}
use Rattle.nm_policy.specs.declared.ends.Ends.{Ends}
use Rattle.nm_policy.specs.declared.ends.Ends.TheVariants.{Open, Once, Sure}
use Rattle.nm_policy.specs.declared.limits.TheConstants.{REST_PERIODS, RECALL_PERIODS}

-- one end more: the second is sure
abbrev pub once_more : Ends → Ends
once_more Open = Once
once_more Once = Sure
once_more Sure = Sure

-- a call after an end found nobody: the end is sure
abbrev pub after_nobody : Ends → Ends
after_nobody Open = Open
after_nobody Once = Sure
after_nobody Sure = Sure

abbrev pub has_ended : Ends → Bool
has_ended Open = false
has_ended Once = true
has_ended Sure = true

abbrev pub is_sure : Ends → Bool
is_sure Open = false
is_sure Once = false
is_sure Sure = true

-- For how many periods a peer is not called again: none if its connection had settled, and many
-- once the link's end is sure, for a peer that was restarted.
abbrev pub rest_of : Ends → (had_settled : Bool) → ℕ
rest_of Open had_settled = if had_settled then 0 else REST_PERIODS
rest_of Once had_settled = if had_settled then 0 else REST_PERIODS
rest_of Sure had_settled = RECALL_PERIODS

-- for how many periods it is not called, after one more poll; `ran_out`: a period was over
abbrev pub rest_after : (before : ℕ) → (ran_out : Bool) → ℕ
rest_after before ran_out = if ran_out then before - 1 else before

-- How often a link has ended after one of its connections broke. `has_greeted`: the peer sent
-- Hello. `was_there`: somebody was at the other end, since the connection took octets or was ended
-- from there; it may have been cut before the peer's Hello came.
abbrev pub after_break : Ends → (has_greeted was_there : Bool) → Ends
after_break ends has_greeted was_there =
    if has_greeted || was_there then ends else after_nobody ends

-- a caller with a link that has not ended
abbrev pub new_caller : ReplicaName → Caller
new_caller name = record { name = name; ends = Open }

-- whether it is the caller with this name
abbrev pub is_named : ReplicaName → Caller → Bool
is_named name c = are_same c.name name

-- the caller after the link with this name has ended once more
abbrev pub ended_by : ReplicaName → Caller → Caller
ended_by name c = if is_named name c then record c { ends = once_more c.ends } else c

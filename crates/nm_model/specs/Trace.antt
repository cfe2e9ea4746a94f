-- The records of a trace at an interface.
use Rattle.std.specs.Prelude.{ℕ, Bool, true, false, if◌then◌else◌, ◌&&◌, ◌==◌, List, [], ◌∷◌}
use Rattle.nm_base.specs.declared.record.Dir.{Dir}
use Rattle.nm_base.specs.declared.record.Dir.TheVariants.{In, Out}
use Rattle.nm_base.specs.declared.record.Record.{Record}

abbrev pub same_dir : Dir → Dir → Bool
same_dir In In = true
same_dir In Out = false
same_dir Out In = false
same_dir Out Out = true

-- the packets that passed interface i in this direction, each with the time of its record:
-- arrivals, or starts of transmissions
abbrev pub passed : {P : Type 0} → Dir → ℕ → List (Record P) → List (ℕ × P)
passed d i [] = []
passed d i (r ∷ l) =
    if same_dir r.dir d && (i == r.iface) then (r.time, r.packet) ∷ passed d i l else passed d i l

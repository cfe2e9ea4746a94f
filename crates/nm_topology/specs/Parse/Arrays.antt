-- Arrays: the value of each member, in order.
use Rattle.std.specs.Prelude.{ℕ, zero, suc, Bool, true, false, ◌&&◌, nat_le, if◌then◌else◌, List}
use Rattle.std.specs.Prelude.{[], ◌∷◌, Result, Ok, Err}
use Rattle.toml.specs.Data.{Data, integer, array, table, Items, no_items, item, Members}
use Rattle.nm_topology.specs.declared.fault.Refusal.{Refusal}
use Rattle.nm_topology.specs.declared.fault.Refusal.TheVariants.{Kind, TooMany}
use Rattle.nm_topology.specs.declared.keys.array.Array.{Array}
use Rattle.nm_topology.specs.Fault.{◌>>=◌}
use Rattle.nm_topology.specs.Keys.{array_key, array_limit}
use Rattle.nm_topology.specs.Parse.Fields.{optional, value_at}

abbrev pub is_integer : Data → Bool
is_integer (integer z) = true
is_integer _ = false

abbrev pub is_table : Data → Bool
is_table (table ms) = true
is_table _ = false

abbrev pub count : Items → ℕ
count no_items = zero
count (item d ds) = suc (count ds)

abbrev pub all_fit : (Data → Bool) → Items → Bool
all_fit fits no_items = true
all_fit fits (item d ds) = fits d && all_fit fits ds

-- each member read in order, up to the first refusal
abbrev pub each : {X : Type 0} → (Data → Result X Refusal) → Items → Result (List X) Refusal
each read no_items = Ok []
each read (item d ds) = read d >>= λ x. each read ds >>= λ xs. Ok (x ∷ xs)

-- members of one type, of which there are at most so many
abbrev pub members_of : {X : Type 0} → (Data → Bool) → ℕ → (Data → Result X Refusal) → Items
    → Result (List X) Refusal
members_of fits limit read ds =
    if all_fit fits ds then (if nat_le (count ds) limit then each read ds else Err TooMany)
    else Err Kind

abbrev pub array_of : {X : Type 0} → (Data → Bool) → ℕ → (Data → Result X Refusal) → Data
    → Result (List X) Refusal
array_of fits limit read (array ds) = members_of fits limit read ds
array_of fits limit read _ = Err Kind

-- a member that is a table
abbrev pub in_table : {X : Type 0} → (Members → Result X Refusal) → Data → Result X Refusal
in_table read (table ms) = read ms
in_table read _ = Err Kind

-- the tables of an array; absent is empty
abbrev pub tables_at : {X : Type 0} → (Members → Result X Refusal) → Array → Members
    → Result (List X) Refusal
tables_at read a t =
    optional [] (array_of is_table (array_limit a) (in_table read)) (value_at (array_key a) t)

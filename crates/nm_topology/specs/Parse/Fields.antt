-- Fields of tables: which keys a table has, and how a value is read.
use Rattle.std.specs.Prelude.{ℕ, ℤ, pos, negsuc, Bool, true, ◌&&◌, nat_le, if◌then◌else◌, List}
use Rattle.std.specs.Prelude.{Option, Some, None, Result, Ok, Err}
use Rattle.toml.specs.Data.{Data, string, integer, Members, no_members, member, get_member}
use Rattle.std.specs.List.{list_any}
use Rattle.std.specs.Str.{bytes_eq}
use Rattle.nm_topology.specs.declared.fault.Refusal.{Refusal}
use Rattle.nm_topology.specs.declared.fault.Refusal.TheVariants.{Missing, UnknownKey, Kind, Range}
use Rattle.nm_topology.specs.declared.keys.field.Bounds.{Bounds}
use Rattle.nm_topology.specs.declared.keys.key.TableKey.{TableKey}
use Rattle.nm_topology.specs.Fault.{◌>>=◌}
use Rattle.nm_topology.specs.Keys.{key_text}

-- the value at a key, if there is one
abbrev pub value_at : TableKey → Members → Option Data
value_at key t = get_member (key_text key) t

-- a value that must be there, and one that may be absent
abbrev pub required : {X : Type 0} → (Data → Result X Refusal) → Option Data → Result X Refusal
required read None = Err Missing
required read (Some d) = read d

abbrev pub optional : {X : Type 0} → X → (Data → Result X Refusal) → Option Data → Result X Refusal
optional x read None = Ok x
optional x read (Some d) = read d

abbrev pub whole_in : ℕ → ℕ → ℤ → Result ℕ Refusal
whole_in least greatest (pos n) = if nat_le least n && nat_le n greatest then Ok n else Err Range
whole_in least greatest (negsuc n) = Err Range

-- a whole number from least to greatest
abbrev pub number_in : ℕ → ℕ → Data → Result ℕ Refusal
number_in least greatest (integer z) = whole_in least greatest z
number_in least greatest _ = Err Kind

-- the number at a key
abbrev pub number_at : TableKey → Bounds → Members → Result ℕ Refusal
number_at key b t = required (number_in b.least b.greatest) (value_at key t)

-- the same, but the key may be absent
abbrev pub number_or : ℕ → TableKey → Bounds → Members → Result ℕ Refusal
number_or absent key b t = optional absent (number_in b.least b.greatest) (value_at key t)

-- a number, or none
abbrev pub some_number_in : ℕ → ℕ → Data → Result (Option ℕ) Refusal
some_number_in least greatest d = number_in least greatest d >>= λ n. Ok (Some n)

abbrev pub some_number_at : TableKey → Bounds → Members → Result (Option ℕ) Refusal
some_number_at key b t = optional None (some_number_in b.least b.greatest) (value_at key t)

abbrev pub in_form : {X : Type 0} → Option X → Result X Refusal
in_form None = Err Range
in_form (Some x) = Ok x

abbrev pub all_among : List (List ℕ) → Members → Bool
all_among ks no_members = true
all_among ks (member k d ms) = list_any (λ l. bytes_eq l k) ks && all_among ks ms

-- no key but these
abbrev pub only : List (List ℕ) → Members → Result Unit Refusal
only ks ms = if all_among ks ms then Ok tt else Err UnknownKey

-- a text, and a text in a form, read as its value
abbrev pub plain_text : Data → Result (List ℕ) Refusal
plain_text (string s) = Ok s
plain_text _ = Err Kind

abbrev pub required_text : {X : Type 0} → (List ℕ → Option X) → Option Data → Result X Refusal
required_text form value = required plain_text value >>= λ s. in_form (form s)

-- a text in a form, at a key
abbrev pub text_at : {X : Type 0} → (List ℕ → Option X) → TableKey → Members → Result X Refusal
text_at form key t = required_text form (value_at key t)

-- The numbers of the faults, and what it means that a function reads what a definition says.
use Rattle.std.specs.Prelude.{◌≡◌, ℕ, Bool, if◌then◌else◌, Result, Ok, Err}
use Rattle.nm_topology.specs.declared.fault.Refusal.{Refusal}
use Rattle.nm_topology.specs.declared.fault.Refusal.TheVariants.{Text, Missing, UnknownKey, Kind}
use Rattle.nm_topology.specs.declared.fault.Refusal.TheVariants.{Range, TooMany, DoubleName, NoSuch}
use Rattle.nm_topology.specs.declared.fault.Refusal.TheVariants.{IfaceUse, DoubleAddress}
use Rattle.nm_topology.specs.declared.fault.Refusal.TheVariants.{DoubleRoute, CutDelay, Hex}
use Rattle.nm_base.specs.declared.fault.Fault.{Fault}
use Rattle.nm_base.specs.declared.fault.Fault.TheVariants.{Refused, Memory}

abbrev pub refusal_number : Refusal → ℕ
refusal_number Text = 1
refusal_number Missing = 2
refusal_number UnknownKey = 3
refusal_number Kind = 4
refusal_number Range = 5
refusal_number TooMany = 6
refusal_number DoubleName = 7
refusal_number NoSuch = 8
refusal_number IfaceUse = 9
refusal_number DoubleAddress = 10
refusal_number DoubleRoute = 11
refusal_number CutDelay = 12
refusal_number Hex = 13

abbrev pub fault_number : Fault Refusal → ℕ
fault_number (Refused r) = refusal_number r
fault_number Memory = 14

-- reading one thing, and then what follows it: the first refusal stands
infixl 10 ◌>>=◌
abbrev pub ◌>>=◌ : {A B : Type 0} → Result A Refusal → (A → Result B Refusal) → Result B Refusal
(Ok x) >>= f = f x
(Err r) >>= f = Err r

-- a function failed as reading does, or memory ran out
abbrev pub Fails : {Y : Type 0} → Fault Refusal → Result Y Refusal → Type 0
Fails Memory read = Unit {0}
Fails (Refused r) read = read ≡ Err r

-- what a function gave, seen by view, is what reading gives, unless memory ran out
abbrev pub Gives : {X Y : Type 0} → (X → Y) → Result X (Fault Refusal) → Result Y Refusal → Type 0
Gives view (Ok x) read = read ≡ Ok (view x)
Gives view (Err e) read = Fails e read

-- what is asked holds, or the refusal is given
abbrev pub demand : Bool → Refusal → Result Unit Refusal
demand holds refusal = if holds then Ok tt else Err refusal

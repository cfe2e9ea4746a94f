-- Trace files of interfaces that are written side by side.
use Rattle.std.proofs.Common.{◌≡◌, ◌⊎◌, inl, inr, IfErr, OnOk, Result, Ok, Err, true, false, ◌||◌, is_some, nat_eq, position, ℕ, ◌+◌, ◌<◌, List, [], ◌∷◌, ◌++◌, All, get_or, length, map, take, Option, Some, None, slice_get, sym, ◌∙◌, ap, ap₂, subst, refl}
use Rattle.std.specs.Str.{bytes_eq}
use Rattle.std.proofs.Math.ListN.{get_or-map}
use Rattle.std.proofs.lemmas.List.{length-map, take_more}
use Rattle.std.proofs.lemmas.Bool.{true≢false}
use Rattle.std.proofs.lemmas.List.Elements.{All-get_or, All-push}
use Rattle.std.proofs.lemmas.Option.{get_or_from_slice_get, slice_get_within}
use Rattle.nm_topology.specs.PartValues.{IfaceValue}
use Rattle.nm_topology.proofs.Doubles.{position-map}
use Rattle.nm_files.specs.Outputs.{Files, HasMade, HasMadeSome}
use Rattle.nm_offline.specs.All.{AreAsked, MakesAll, is_asked_for}
use Rattle.nm_offline.specs.Input.{InputsSeen, IsInput}
use Rattle.nm_command.specs.Status.{ended}
use Rattle.nm_command.specs.declared.status.Status.{Status}
use Rattle.nm_command.specs.declared.status.Status.TheVariants.{File, Memory}

-- a name is among some, or there are none
pub wanted_by : {Y : Type 0} (h : Y → List ℕ) (ys : List Y) (iface : IfaceValue)
    → (nat_eq (length ys) 0 || is_some (position (λ y. bytes_eq (h y) iface.name) ys)) ≡ is_asked_for (map h ys) iface
wanted_by h ys iface =
    ap₂ (λ n o. nat_eq n 0 || is_some o) (sym (length-map ys h)) (sym (position-map h (λ n. bytes_eq n iface.name) ys))

pub is_there : {X : Type 0} (o : Option X) → is_some o ≡ true → o ≡ None → ⊥
is_there None some none = absurd (true≢false (sym some))
is_there (Some x) some none = absurd (some_is_none x none)
  where
    some_is_none : {X : Type 0} (x : X) → Some x ≡ None → ⊥
    some_is_none x e = cc

pub not_there : {X : Type 0} (o : Option X) → is_some o ≡ false → o ≡ None
not_there None none = refl
not_there (Some x) none = absurd (true≢false none)

-- what holds of all that a function gives holds of what it gives of one
pub at_map : {X Y : Type 0} (P : Y → Type 0) (f : X → Y) (xs : List X) (n : ℕ) (x : X) → n < length xs → get_or xs n x ≡ x → All P (map f xs) → P (f x)
at_map P f xs n x low is all =
    subst (λ z. P (f z)) is (subst P (get_or-map f xs n x) (All-get_or P (map f xs) n (f x) (subst (λ k. n < k) (sym (length-map xs f)) low) all))

-- what holds of the first elements, and of the next one
pub All-more : {X : Type 0} (P : X → Type 0) (xs : List X) (n : ℕ) (x : X) → slice_get xs n ≡ Some x → All P (take n xs) → P x → All P (take (n + 1) xs)
All-more P xs n x is first next = subst (All P) (sym (more xs n x is)) (All-push P (take n xs) x first next)
  where
    more : {X : Type 0} (xs : List X) (n : ℕ) (x : X) → slice_get xs n ≡ Some x → take (n + 1) xs ≡ take n xs ++ x ∷ []
    more xs n x is = take_more xs n x (slice_get_within xs n x is) ∙ ap (λ y. take n xs ++ y ∷ []) (get_or_from_slice_get xs n x x is)

-- the word ends as the files do
module _ (before after : InputsSeen) (made_before made : Option Files) where
  pub ends_all : (topology folder : List ℕ) (names : List (List ℕ)) (text : List ℕ) (files : Files) (r : Result Unit Status) → IsInput (before.text topology) text → AreAsked folder names text files
      → OnOk r (HasMade made_before made files) → HasMadeSome made_before made files → IfErr r (λ s. (s ≡ File) ⊎ (s ≡ Memory))
      → MakesAll (record { inputs = before; made = made_before }) (record { inputs = after; made = made }) (record { topology = topology; folder = folder; names = names }) (ended r)
  ends_all topology folder names text files (Ok _) input asked all some fault = inl (refl, (text, files, input, asked, all))
  ends_all topology folder names text files (Err s) input asked all some fault = inr (inr (fault, (text, files, input, asked, some)))

-- Readings step by step, and the fields at which they are refused.
use Rattle.std.proofs.Common.{◌≡◌, ℕ, Bool, true, false, List, [], ◌∷◌, Option, Some, None}
use Rattle.std.proofs.Common.{Result, Ok, Err, refl, sym, ap, ◌∙◌, ◌&&◌}
use Rattle.std.specs.Prelude.{if◌then◌else◌}
use Rattle.std.specs.Cmp.Lexicographic.{slice_cmp}
use Rattle.std.specs.List.{list_any}
use Rattle.std.specs.Ordering.{match_ordering, nat_cmp}
use Rattle.std.specs.Str.{bytes_eq}
use Rattle.std.specs.declared.cmp.Ordering.{Ordering}
use Rattle.std.specs.declared.cmp.Ordering.TheVariants.{Less, Equal, Greater}
use Rattle.std.proofs.lemmas.Map.Lookups.{exact_bytes}
use Rattle.toml.specs.Data.{Data, Members, get_member, member, no_members}
use Rattle.nm_topology.specs.declared.fault.Refusal.{Refusal}
use Rattle.nm_topology.specs.declared.fault.Refusal.TheVariants.{UnknownKey}
use Rattle.nm_topology.specs.declared.parse.head.Head.{Head}
use Rattle.nm_topology.specs.Fault.{◌>>=◌, demand}
use Rattle.nm_topology.specs.Keys.{keys_of}
use Rattle.nm_topology.specs.Parse.Fields.{all_among, number_in, optional}
use Rattle.nm_topology.specs.Parse.Fields.{some_number_in}
use Rattle.nm_topology.specs.declared.keys.field.Field.{Field}
use Rattle.nm_check.specs.declared.spot.Spot.TheVariants as spot
use Rattle.nm_check.specs.Reading.{at_field, field_of, first_fault, fault_or, outcome}
use Rattle.nm_check.specs.Reading.{refused_at, spot_in}

pub both : (a b : Bool) → (a && b) ≡ true → (a ≡ true) × (b ≡ true)
both true true e = (refl, refl)
both true false e = cc
both false b e = cc

-- the fields of a table, one after another
abbrev pub chain : Head → Members → List Field → Result Unit Refusal
chain head t [] = Ok tt
chain head t (f ∷ fs) = field_of head t f >>= λ u. chain head t fs

pub chain-first : (head : Head) (t : Members) (fields : List Field) → chain head t fields ≡ refused_at (at_field (first_fault head t fields))
chain-first head t [] = refl
chain-first head t (f ∷ fs) = go (chain-first head t fs) (field_of head t f)
  where
    go : chain head t fs ≡ refused_at (at_field (first_fault head t fs)) → (r : Result Unit Refusal) → (r >>= λ u. chain head t fs) ≡ refused_at (at_field (fault_or f r (first_fault head t fs)))
    go rest (Ok u) = rest
    go rest (Err e) = refl

-- the keys of a table, and then its fields
pub spot-chain : (head : Head) (t : Members) (fields : List Field) → (if all_among (keys_of fields) t then chain head t fields else Err UnknownKey) ≡ refused_at (spot_in head fields t)
spot-chain head t fields = go (all_among (keys_of fields) t)
  where
    go : (b : Bool) → (if b then chain head t fields else Err UnknownKey) ≡ refused_at (if b then at_field (first_fault head t fields) else Some spot.Unknown)
    go true = chain-first head t fields
    go false = refl

pub bind-unit : (o : Result Unit Refusal) → (o >>= λ u. Ok tt) ≡ o
bind-unit (Ok u) = refl
bind-unit (Err e) = refl

-- what follows a reading gives something, whatever was read
pub outcome-bind : {A B : Type 0} (r : Result A Refusal) (c : A → B) → outcome (r >>= λ x. Ok (c x)) ≡ outcome r
outcome-bind (Ok x) c = refl
outcome-bind (Err e) c = refl

-- readings one after another, behind a test: the outcome of each but the last, and then the last
pub two : {A B C : Type 0} (b : Bool) (p : Result A Refusal) (q : Result B Refusal) (c : A → B → C) (o : Result Unit Refusal) → outcome q ≡ o
    → outcome (demand b UnknownKey >>= λ u. p >>= λ x. q >>= λ y. Ok (c x y)) ≡ (if b then (outcome p >>= λ u. o) else Err UnknownKey)
two false p q c o e = refl
two true (Err f) q c o e = refl
two true (Ok x) q c o e = outcome-bind q (c x) ∙ e

pub three : {A B C D : Type 0} (b : Bool) (p : Result A Refusal) (q : Result B Refusal) (r : Result C Refusal) (c : A → B → C → D) (o : Result Unit Refusal) → outcome r ≡ o
    → outcome (demand b UnknownKey >>= λ u. p >>= λ x. q >>= λ y. r >>= λ z. Ok (c x y z)) ≡ (if b then (outcome p >>= λ u. outcome q >>= λ u. o) else Err UnknownKey)
three false p q r c o e = refl
three true (Err f) q r c o e = refl
three true (Ok x) (Err f) r c o e = refl
three true (Ok x) (Ok y) r c o e = outcome-bind r (c x y) ∙ e

pub four : {A B C D E : Type 0} (b : Bool) (p : Result A Refusal) (q : Result B Refusal) (r : Result C Refusal) (s : Result D Refusal) (c : A → B → C → D → E) (o : Result Unit Refusal) → outcome s ≡ o
    → outcome (demand b UnknownKey >>= λ u. p >>= λ x. q >>= λ y. r >>= λ z. s >>= λ w. Ok (c x y z w)) ≡ (if b then (outcome p >>= λ u. outcome q >>= λ u. outcome r >>= λ u. o) else Err UnknownKey)
four false p q r s c o e = refl
four true (Err f) q r s c o e = refl
four true (Ok x) (Err f) r s c o e = refl
four true (Ok x) (Ok y) (Err f) s c o e = refl
four true (Ok x) (Ok y) (Ok z) s c o e = outcome-bind s (c x y z) ∙ e

pub five : {A B C D E F : Type 0} (b : Bool) (p : Result A Refusal) (q : Result B Refusal) (r : Result C Refusal) (s : Result D Refusal) (t : Result E Refusal) (c : A → B → C → D → E → F) (o : Result Unit Refusal) → (b ≡ true → outcome t ≡ o)
    → outcome (demand b UnknownKey >>= λ u. p >>= λ x. q >>= λ y. r >>= λ z. s >>= λ w. t >>= λ v. Ok (c x y z w v)) ≡ (if b then (outcome p >>= λ u. outcome q >>= λ u. outcome r >>= λ u. outcome s >>= λ u. o) else Err UnknownKey)
five false p q r s t c o e = refl
five true (Err f) q r s t c o e = refl
five true (Ok x) (Err f) r s t c o e = refl
five true (Ok x) (Ok y) (Err f) s t c o e = refl
five true (Ok x) (Ok y) (Ok z) (Err f) t c o e = refl
five true (Ok x) (Ok y) (Ok z) (Ok w) t c o e = outcome-bind t (c x y z w) ∙ e refl

pub five-arrays : {A B C D E F : Type 0} (p : Result A Refusal) (q : Result B Refusal) (r : Result C Refusal) (s : Result D Refusal) (t : Result E Refusal) (c : A → B → C → D → E → F)
    → outcome (p >>= λ x. q >>= λ y. r >>= λ z. s >>= λ w. t >>= λ v. Ok (c x y z w v)) ≡ (outcome p >>= λ u. outcome q >>= λ u. outcome r >>= λ u. outcome s >>= λ u. outcome t >>= λ u. Ok tt)
five-arrays (Err f) q r s t c = refl
five-arrays (Ok x) (Err f) r s t c = refl
five-arrays (Ok x) (Ok y) (Err f) s t c = refl
five-arrays (Ok x) (Ok y) (Ok z) (Err f) t c = refl
five-arrays (Ok x) (Ok y) (Ok z) (Ok w) (Err f) c = refl
five-arrays (Ok x) (Ok y) (Ok z) (Ok w) (Ok v) c = refl

pub six : {A B C D E F G : Type 0} (p : Result A Refusal) (q : Result B Refusal) (r : Result C Refusal) (s : Result D Refusal) (t : Result E Refusal) (v : Result F Refusal) (c : A → B → C → D → E → F → G) (o : Result Unit Refusal) → outcome v ≡ o
    → outcome (p >>= λ x. q >>= λ y. r >>= λ z. s >>= λ w. t >>= λ m. v >>= λ n. Ok (c x y z w m n)) ≡ (outcome p >>= λ u. outcome q >>= λ u. outcome r >>= λ u. outcome s >>= λ u. outcome t >>= λ u. o)
six (Err f) q r s t v c o e = refl
six (Ok x) (Err f) r s t v c o e = refl
six (Ok x) (Ok y) (Err f) s t v c o e = refl
six (Ok x) (Ok y) (Ok z) (Err f) t v c o e = refl
six (Ok x) (Ok y) (Ok z) (Ok w) (Err f) v c o e = refl
six (Ok x) (Ok y) (Ok z) (Ok w) (Ok m) v c o e = outcome-bind v (c x y z w m) ∙ e

-- the fields of a table, each of which is looked at for itself
pub three-fields : {A B C D : Type 0} (b : Bool) (p : Result A Refusal) (q : Result B Refusal) (r : Result C Refusal) (c : A → B → C → D)
    → outcome (demand b UnknownKey >>= λ u. p >>= λ x. q >>= λ y. r >>= λ z. Ok (c x y z)) ≡ (if b then (outcome p >>= λ u. outcome q >>= λ u. outcome r >>= λ u. Ok tt) else Err UnknownKey)
three-fields b p q r c = three b p q r c (outcome r >>= λ u. Ok tt) (sym (bind-unit (outcome r)))

pub four-fields : {A B C D E : Type 0} (b : Bool) (p : Result A Refusal) (q : Result B Refusal) (r : Result C Refusal) (s : Result D Refusal) (c : A → B → C → D → E)
    → outcome (demand b UnknownKey >>= λ u. p >>= λ x. q >>= λ y. r >>= λ z. s >>= λ w. Ok (c x y z w)) ≡ (if b then (outcome p >>= λ u. outcome q >>= λ u. outcome r >>= λ u. outcome s >>= λ u. Ok tt) else Err UnknownKey)
four-fields b p q r s c = four b p q r s c (outcome s >>= λ u. Ok tt) (sym (bind-unit (outcome s)))

-- a number that may be absent
pub outcome-optional : (absent least greatest : ℕ) (v : Option Data) → outcome (optional absent (number_in least greatest) v) ≡ outcome (optional 0 (number_in least greatest) v)
outcome-optional absent least greatest None = refl
outcome-optional absent least greatest (Some d) = refl

pub outcome-some_number : (least greatest : ℕ) (v : Option Data) → outcome (optional None (some_number_in least greatest) v) ≡ outcome (optional 0 (number_in least greatest) v)
outcome-some_number least greatest None = refl
outcome-some_number least greatest (Some d) = outcome-bind (number_in least greatest d) (λ n. Some n)

-- a table whose keys are all among some has no other key
pub absent : (k : List ℕ) (ks : List (List ℕ)) → list_any (λ l. bytes_eq l k) ks ≡ false → (t : Members) → all_among ks t ≡ true → get_member k t ≡ None
absent k ks other no_members e = refl
absent k ks other (member l d ms) e =
    let h = both (list_any (λ m. bytes_eq m l) ks) (all_among ks ms) e in
    go (absent k ks other ms h.1) h.0 (slice_cmp nat_cmp k l) refl
  where
    go : get_member k ms ≡ None → list_any (λ m. bytes_eq m l) ks ≡ true → (o : Ordering) → slice_cmp nat_cmp k l ≡ o → match_ordering o (get_member k ms) (Some d) (get_member k ms) ≡ None
    go rest among Less h = rest
    go rest among Equal h =
        let same = exact_bytes k l h in
        let clash : false ≡ true = sym other ∙ ap (λ w. list_any (λ m. bytes_eq m w) ks) same ∙ among in
        cc
    go rest among Greater h = rest

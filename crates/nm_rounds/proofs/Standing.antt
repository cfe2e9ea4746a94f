-- Where the world's replicas stand, and what changes where one does, or where frames are sent.
use Rattle.std.proofs.Common.{◌≡◌, ◌↔◌, ◌≢◌, ◌⊎◌, inl, inr, ℕ, zero, suc, ◌+◌, ◌*◌, ◌<◌, ltb, Bool, true, false, List, [], ◌∷◌, ◌++◌, length, map, slice_get, slice_set, Some, None, refl, sym, ◌∙◌, ap, ap₂, subst, arith, ⊎_elim}
use Rattle.std.proofs.lemmas.Bool.{and_parts}
use Rattle.std.proofs.lemmas.Bool.Decides.{nat_tests}
use Rattle.std.proofs.lemmas.List.{length-set, map-append}
use Rattle.nm_topology.specs.Topology.{channel_from, receiving_iface}
use Rattle.nm_topology.specs.TopologyValue.{TopologyValue}
use Rattle.nm_model.specs.Lists.{set_at}
use Rattle.nm_model.specs.World as model
use Rattle.nm_model.proofs.ListLemmas.{same_number, set_here, set_there}
use Rattle.nm_sim.specs.Network.{net_of}
use Rattle.nm_book.specs.Book.{BookValue, is_replica, message_channel, only_if}
use Rattle.nm_book.specs.declared.message.ChannelMessage.{ChannelMessage}
use Rattle.nm_rounds.specs.World.{AreReplicas, IsReplicaOf, IsWorld, frame_of}

-- what is read where something was set: that, or what stood elsewhere
pub set_read : {X : Type 0} (l : List X) (i : ℕ) (x : X) (j : ℕ) (y : X) → slice_get (slice_set l i x) j ≡ Some y → ((j ≡ i) × (x ≡ y)) ⊎ ((j ≢ i) × (slice_get l j ≡ Some y))
set_read [] i x j y e = absurd (let f : None ≡ Some y = e in cc)
set_read (z ∷ l) zero x zero y e = inl (refl, let f : x ≡ y = cc in f)
set_read (z ∷ l) zero x (suc j) y e = inr ((λ s. omega (arith, s)), e)
set_read (z ∷ l) (suc i) x zero y e = inr ((λ s. omega (arith, s)), e)
set_read (z ∷ l) (suc i) x (suc j) y e = ⊎_elim (λ f. inl (ap suc f.0, f.1)) (λ f. inr ((λ s. f.0 (omega (arith, s))), f.1)) (set_read l i x j y e)

-- where something was put behind others, and where others were
pub last_is : {X : Type 0} (l : List X) (b : X) (p : ℕ) (c : X) → slice_get (l ++ b ∷ []) p ≡ Some c → (slice_get l p ≡ Some c) ⊎ ((p ≡ length l) × (b ≡ c))
last_is [] b zero c f = inr (refl, let g : Some b ≡ Some c = f in cc)
last_is [] b (suc p) c f = absurd (let g : None ≡ Some c = f in cc)
last_is (y ∷ l) b zero c f = inl f
last_is (y ∷ l) b (suc p) c f = ⊎_elim (λ g. inl g) (λ g. inr (ap suc g.0, g.1)) (last_is l b p c f)

pub get_append : {X : Type 0} (l m : List X) (i : ℕ) (x : X) → slice_get (l ++ m) i ≡ Some x → (slice_get l i ≡ Some x) ⊎ ((j : ℕ) × (slice_get m j ≡ Some x))
get_append [] m i x e = inr (i, e)
get_append (y ∷ l) m zero x e = inl e
get_append (y ∷ l) m (suc i) x e = get_append l m i x e

pub only_one : {X : Type 0} (x y : X) (i : ℕ) → slice_get (x ∷ []) i ≡ Some y → x ≡ y
only_one x y zero e = cc
only_one x y (suc i) e = absurd (let f : None ≡ Some y = e in cc)

-- to set what is there changes nothing
pub set_same : {X : Type 0} (l : List X) (i : ℕ) (x : X) → slice_get l i ≡ Some x → slice_set l i x ≡ l
set_same [] i x e = refl
set_same (y ∷ l) zero x e = let f : y ≡ x = cc in ap (λ z. z ∷ l) (sym f)
set_same (y ∷ l) (suc i) x e = ap (λ z. y ∷ z) (set_same l i x e)

-- what is there only if a test holds
pub is_there : {X : Type 0} (b : Bool) (x y : X) → only_if b x ≡ Some y → (b ≡ true) × (y ≡ x)
is_there true x y e = (refl, let f : x ≡ y = cc in sym f)
is_there false x y e = absurd cc

pub is_absent : {X : Type 0} (b : Bool) (x : X) → only_if b x ≡ None → b ≡ false
is_absent true x e = absurd cc
is_absent false x e = refl

-- the network has the topology's partitions
pub parts_are : (t : TopologyValue) → (net_of t).parts ≡ t.partitions
unfolding net_of
parts_are t = refl

-- the program's test of a replica is the model's
pub is_replica_is : (t : TopologyValue) (p r : ℕ) → is_replica t p r ≡ model.is_replica (net_of t) p r
unfolding net_of
is_replica_is t p r = refl

-- each channel is the one that its interface receives
pub channel_here : (t : TopologyValue) → ((i c : ℕ) → i < length t.ifaces → (channel_from 0 t.receivers i ≡ Some c) ↔ (receiving_iface t c ≡ i)) → ((c : ℕ) → c < length t.receivers → receiving_iface t c < length t.ifaces)
    → (c : ℕ) → c < length t.receivers → channel_from 0 t.receivers (receiving_iface t c) ≡ Some c
channel_here t inverse there c low = (inverse (receiving_iface t c) c (there c low)).1 refl

-- a replica that is there has its place among all
pub there_is : (t : TopologyValue) (p r : ℕ) → is_replica t p r ≡ true → (p < t.partitions) × (r < 2) × (2 * p + r < 2 * t.partitions)
there_is t p r h =
    let tests = and_parts (ltb p t.partitions) (ltb r 2) h in
    let a : p < t.partitions = let e = tests.0 in grind (arith, nat_tests, e) in
    let b : r < 2 = let e = tests.1 in grind (arith, nat_tests, e) in
    (a, b, omega (arith, a, b))

-- two places are one only for one replica
pub places_apart : (p r q s : ℕ) → r < 2 → s < 2 → 2 * q + s ≡ 2 * p + r → (q ≡ p) × (s ≡ r)
places_apart p r q s h k e = (omega (arith, h, k, e), omega (arith, h, k, e))

module _ (t : TopologyValue) (books : List BookValue) (w : model.World (List ℕ)) (stands : AreReplicas t books w) (p r : ℕ) (two : r < 2) (x : model.Replica (List ℕ)) where
  elsewhere : (q s : ℕ) (b : BookValue) → s < 2 → 2 * q + s ≢ 2 * p + r → slice_get books (2 * q + s) ≡ Some b
      → IsReplicaOf t q s b ((model.put_replica w p r x).replica q s)
  elsewhere q s b h apart e = subst (IsReplicaOf t q s b) (sym (other (same_number q p))) (stands.each q s b h e)
    where
      other : (q ≡ p) ⊎ (q ≢ p) → (model.put_replica w p r x).replica q s ≡ w.replica q s
      other (inl same) =
          ap (λ z. (model.put_replica w p r x).replica z s) same ∙ ap (λ f. f s) (set_here w.replica p (set_at (w.replica p) r x))
          ∙ set_there (w.replica p) r x s (λ f. apart (ap₂ (λ a b. 2 * a + b) same f)) ∙ ap (λ z. w.replica z s) (sym same)
      other (inr far) = ap (λ f. f s) (set_there w.replica p (set_at (w.replica p) r x) q far)

  -- one replica changes
  pub put : (b : BookValue) → IsReplicaOf t p r b x → AreReplicas t (slice_set books (2 * p + r) b) (model.put_replica w p r x)
  put b is = record {
    count = length-set books (2 * p + r) b ∙ stands.count;
    each = λ q s c h e. ⊎_elim (λ same. at q s c h same.0 same.1) (λ far. elsewhere q s c h far.0 far.1) (set_read books (2 * p + r) b (2 * q + s) c e);
  }
    where
      here : (model.put_replica w p r x).replica p r ≡ x
      here = ap (λ f. f r) (set_here w.replica p (set_at (w.replica p) r x)) ∙ set_here (w.replica p) r x

      at : (q s : ℕ) (c : BookValue) → s < 2 → 2 * q + s ≡ 2 * p + r → b ≡ c → IsReplicaOf t q s c ((model.put_replica w p r x).replica q s)
      at q s c h same is_b =
          let one = places_apart p r q s two h same in
          subst (λ z. IsReplicaOf t z s c ((model.put_replica w p r x).replica z s)) (sym one.0)
          (subst (λ z. IsReplicaOf t p z c ((model.put_replica w p r x).replica p z)) (sym one.1)
          (subst (IsReplicaOf t p r c) (sym here) (subst (λ z. IsReplicaOf t p r z x) is_b is)))

-- one book changes, and the frames stay
pub put_book : (t : TopologyValue) (books : List BookValue) (bag : List ChannelMessage) (w : model.World (List ℕ)) → IsWorld t books bag w
    → (p r : ℕ) → is_replica t p r ≡ true → (b : BookValue) (x : model.Replica (List ℕ)) → IsReplicaOf t p r b x
    → IsWorld t (slice_set books (2 * p + r) b) bag (model.put_replica w p r x)
put_book t books bag w stands p r there b x is =
    record { replicas = put t books w stands.replicas p r (there_is t p r there).1 x b is; sent = record { frames = stands.sent.frames; named = stands.sent.named } }

-- frames are sent, and the books stay
pub put_frames : (t : TopologyValue) (books : List BookValue) (bag more : List ChannelMessage) (w : model.World (List ℕ)) (frames : List (model.Frame (List ℕ))) → IsWorld t books bag w
    → map (frame_of t) more ≡ frames → ((i : ℕ) (m : ChannelMessage) → slice_get more i ≡ Some m → message_channel m < length t.receivers)
    → IsWorld t books (bag ++ more) (model.put_frames w frames)
put_frames t books bag more w frames stands are named = record {
  replicas = record { count = stands.replicas.count; each = stands.replicas.each };
  sent = record {
    frames = map-append (frame_of t) bag more ∙ ap₂ (λ a b. a ++ b) stands.sent.frames are;
    named = λ i m e. ⊎_elim (λ f. stands.sent.named i m f) (λ f. named f.0 m f.1) (get_append bag more i m e);
  };
}

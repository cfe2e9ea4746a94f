-- A node sends by its own interfaces.
use Rattle.std.proofs.Common.{◌≡◌, All, ℕ, ◌<◌, Bool, true, false, cond, List, length, Option, Some, None, refl, sym, ◌∙◌, subst, ⊎_elim}
use Rattle.std.specs.Prelude.{◌==◌, slice_get, slice_index}
use Rattle.std.proofs.lemmas.List.{length-map}
use Rattle.std.proofs.lemmas.Bool.{eqb-true}
use Rattle.std.proofs.lemmas.Option.{slice_get_cases}
use Rattle.nm_base.specs.declared.event.Origin.{Origin}
use Rattle.nm_base.specs.declared.event.Origin.TheVariants.{Arrival, Source as FromSource}
use Rattle.nm_packet.specs.Ipv4.{cut_of}
use Rattle.nm_topology.specs.declared.traffic.Source.{Source}
use Rattle.nm_topology.specs.declared.traffic.Traffic.{Traffic}
use Rattle.nm_topology.specs.declared.traffic.Traffic.TheVariants.{Cbr, Echo, Raw}
use Rattle.nm_topology.specs.TopologyValue.{TopologyValue}
use Rattle.nm_topology.specs.Accepted.{IsInOrder, IsPlaced, LeavesByOwn, owners_of}
use Rattle.nm_forward.specs.declared.counter.Counter.TheVariants as count
use Rattle.nm_forward.specs.State.{IsIfaceOf, NodeStateValue, table_of, state_counted}
use Rattle.nm_forward.specs.Row.{arrival_row, row_counter}
use Rattle.nm_forward.specs.Originate.{consequence_of, Sends, originate, Draft}
use Rattle.nm_forward.specs.Reaction.{arrived, handed, handed_by, reaction}
use Rattle.nm_forward.proofs.Longest.{own_routes, routed-all}
use Rattle.nm_forward.proofs.Sending.{OnSent, concluded-sent, originate-sent, consequence_of-sent, forwarded-from}

-- what holds of each element holds of one by its number
pub slice_get-all : {X : Type 0} (P : X → Type 0) (xs : List X) (i : ℕ) (x : X) → All P xs
    → slice_get xs i ≡ Some x → P x
slice_get-all P xs i x a e =
    ⊎_elim
    (λ c. let same : Some c.0 ≡ Some x = sym c.2 ∙ e in let is : c.0 ≡ x =
    cc in subst P (c.3 ∙ is) (a i c.0 c.1))
    (λ c. let none : None ≡ Some x = sym c.1 ∙ e in cc)
    (slice_get_cases xs i).1

module _ (t : TopologyValue) (order : IsInOrder t.nodes t.ifaces t.links) (v : ℕ)
    (n : NodeStateValue) (x : List ℕ) where
  abbrev P : ℕ → List ℕ → Type 0
  P via octets = IsIfaceOf t.ifaces v via

  -- what is originated leaves by a route of the node
  out-own : (out : Draft) → OnSent P (originate t.ifaces (table_of t v) n.identification out)
  out-own out = originate-sent P t.ifaces (table_of t v) n.identification out
      (λ via source e. routed-all (IsIfaceOf t.ifaces v) (table_of t v).routes out.destination via
      (own_routes t order v) e)

  arrived-own : (s : ℕ × List ℕ) → (arrived t.ifaces (table_of t v) n x).1 ≡ Some s
      → IsIfaceOf t.ifaces v s.0
  unfolding arrived
  arrived-own s e =
      concluded-sent P
      (consequence_of t.ifaces (table_of t v) n.identification (cut_of x)
      (arrival_row (table_of t v) x))
      (state_counted (row_counter (arrival_row (table_of t v) x)) n) s
      (consequence_of-sent P t.ifaces (table_of t v) n.identification (cut_of x)
      (arrival_row (table_of t v) x)
      (λ kind. out-own _) (λ request f. out-own _)
      (λ via f. routed-all (IsIfaceOf t.ifaces v) (table_of t v).routes _ via (own_routes t order v)
      (forwarded-from (table_of t v) x via f).1))
      e

  handed-own : (traffic : Traffic) → LeavesByOwn (owners_of t.ifaces) v traffic → (s : ℕ × List ℕ)
      → (handed t.ifaces (table_of t v) n traffic x).1 ≡ Some s → IsIfaceOf t.ifaces v s.0
  handed-own (Cbr c) own s e = concluded-sent P
      (originate t.ifaces (table_of t v) n.identification _) n s (out-own _) e
  handed-own (Echo c) own s e = concluded-sent P
      (originate t.ifaces (table_of t v) n.identification _) n s (out-own _) e
  handed-own (Raw r) own s e =
      concluded-sent P (Sends r.via x) (state_counted count.Raw n) s
      (subst (λ k. (r.via < k) × (slice_index (owners_of t.ifaces) r.via ≡ v))
      (length-map t.ifaces (λ i. i.node)) own) e

  by-own : (o : Option Source)
      → ((z : Source) → o ≡ Some z → IsPlaced (length t.nodes) (owners_of t.ifaces) z)
      → (s : ℕ × List ℕ) → (handed_by t v n o x).1 ≡ Some s → IsIfaceOf t.ifaces v s.0
  unfolding IsPlaced
  by-own None placed s e = cc
  by-own (Some z) placed s e = at (z.node == v) refl e where
    at : (b : Bool) → (z.node == v) ≡ b
        → (cond b (handed t.ifaces (table_of t v) n z.traffic x) (n, None)).1 ≡ Some s
        → IsIfaceOf t.ifaces v s.0
    at false same f = cc
    at true same f = handed-own z.traffic
        (subst (λ k. LeavesByOwn (owners_of t.ifaces) k z.traffic) (eqb-true z.node v same)
        (placed z refl).1) s f

  pub reaction-own : All (λ s. IsPlaced (length t.nodes) (owners_of t.ifaces) s) t.sources
      → (o : Origin) (s : ℕ × List ℕ) → (reaction t v n o x).1 ≡ Some s → IsIfaceOf t.ifaces v s.0
  unfolding reaction
  reaction-own placed (Arrival i) s e = arrived-own s e
  reaction-own placed (FromSource j) s e = by-own (slice_get t.sources j)
      (λ z f. slice_get-all
      (λ s. IsPlaced (length t.nodes) (owners_of t.ifaces) s) t.sources j z placed f) s e

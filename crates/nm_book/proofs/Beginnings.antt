-- A replica that knows nothing.
use Rattle.std.proofs.Common.{◌≡◌, ℕ, zero, suc, List, [], ◌∷◌, ◌++◌, length, replicate, slice_index_or, Option, Some, None, refl, sym, ◌∙◌, ap, subst, arith}
use Rattle.std.proofs.Math.Path.{fun_ext}
use Rattle.std.proofs.lemmas.List.{length-replicate}
use Rattle.nm_base.specs.declared.wanted.Wanted.TheVariants.{All}
use Rattle.nm_topology.specs.Topology.{channel_from}
use Rattle.nm_topology.specs.TopologyValue.{TopologyValue}
use Rattle.nm_model.specs.Knowledge.{no_knowledge, nothing_known}
use Rattle.nm_model.specs.Replica.{from_scratch, inbox_events}
use Rattle.nm_model.specs.Run.{start}
use Rattle.nm_events.specs.Held.{Held}
use Rattle.nm_sim.specs.Network.{here_of, net_of}
use Rattle.nm_sim.specs.Part.{PartValue, Represents}
use Rattle.nm_book.specs.Book.{known_at, knowledge_of}
use Rattle.nm_book.specs.BookPart.{IsBook, pending_in}

pub nothing_at : (n c : ℕ) → slice_index_or (replicate n (nothing_known {P = List ℕ})) c nothing_known ≡ nothing_known
nothing_at zero c = refl
nothing_at (suc n) zero = refl
nothing_at (suc n) (suc c) = nothing_at n c

-- one more of the same
pub replicate_more : {X : Type 0} (n : ℕ) (x : X) → replicate (suc n) x ≡ replicate n x ++ x ∷ []
replicate_more zero x = refl
replicate_more (suc n) x = ap (λ l. x ∷ l) (replicate_more n x)

nothing_of : (n : ℕ) (o : Option ℕ) → known_at (replicate n nothing_known) o ≡ nothing_known
nothing_of n None = refl
nothing_of n (Some c) = nothing_at n c

pub is_nothing : (t : TopologyValue) (n : ℕ) → knowledge_of t (replicate n nothing_known) ≡ no_knowledge
is_nothing t n = fun_ext (λ i. nothing_of n (channel_from 0 t.receivers i))

pub first_book : (t : TopologyValue) (p : ℕ) (part : PartValue Held) → inbox_events (net_of t) p no_knowledge ≡ []
    → Represents pending_in t (Some p) part (start (net_of t) (here_of t (Some p)) []) → part.steps ≡ 0
    → part.records.keeping.wanted ≡ All → IsBook t p (replicate (length t.receivers) nothing_known) part
first_book t p part inbox represents steps all =
    let knows = replicate (length t.receivers) (nothing_known {P = List ℕ}) in
    let none : inbox_events (net_of t) p (knowledge_of t knows) ≡ [] = ap (inbox_events (net_of t) p) (is_nothing t (length t.receivers)) ∙ inbox in
    record {
      count = length-replicate (length t.receivers) nothing_known;
      represents = subst (λ k. Represents pending_in t (Some p) part (from_scratch (net_of t) p (knowledge_of t knows) k)) (sym steps)
          (subst (λ events. Represents pending_in t (Some p) part (start (net_of t) (here_of t (Some p)) events)) (sym none) represents);
      within = λ m h. absurd (omega (arith, h, steps));
      all = all;
    }

-- What became of the packets of a source.
use Rattle.std.specs.Prelude.{◌≡◌, ℕ, ◌+◌, ◌-◌, List, [], ◌∷◌, map}
use Rattle.nm_measure.specs.declared.flow_counts.FlowCounts.{FlowCounts}
use Rattle.nm_measure.specs.declared.flow_counts.PacketOutcome.{PacketOutcome}
use Rattle.nm_measure.specs.declared.flow_counts.PacketOutcome.TheVariants.{Delivered, Refused, Dropped, Discarded}

-- each packet that a source made was delivered, refused, dropped or discarded, or is under way
abbrev pub Balances : FlowCounts → Type 0
Balances f = f.sent ≡ f.delivered + f.refused + f.dropped + f.discarded + f.under_way

-- how many were sent, delivered, refused, dropped and discarded, and are under way
abbrev pub counts_of : FlowCounts → List ℕ
counts_of f = f.sent ∷ f.delivered ∷ f.refused ∷ f.dropped ∷ f.discarded ∷ f.under_way ∷ []

-- how many were delivered, refused, dropped and discarded
abbrev pub ended_of : FlowCounts → List ℕ
ended_of f = f.delivered ∷ f.refused ∷ f.dropped ∷ f.discarded ∷ []

-- how many packets each source made
abbrev pub sent_numbers : List FlowCounts → List ℕ
sent_numbers counts = map (λ f. f.sent) counts

-- a packet that was under way ended so, and nothing else changed
abbrev pub Ends : PacketOutcome → FlowCounts → FlowCounts → Type 0
Ends Delivered f g = counts_of g
    ≡ f.sent ∷ (f.delivered + 1) ∷ f.refused ∷ f.dropped ∷ f.discarded ∷ (f.under_way - 1) ∷ []
Ends Refused f g = counts_of g
    ≡ f.sent ∷ f.delivered ∷ (f.refused + 1) ∷ f.dropped ∷ f.discarded ∷ (f.under_way - 1) ∷ []
Ends Dropped f g = counts_of g
    ≡ f.sent ∷ f.delivered ∷ f.refused ∷ (f.dropped + 1) ∷ f.discarded ∷ (f.under_way - 1) ∷ []
Ends Discarded f g = counts_of g
    ≡ f.sent ∷ f.delivered ∷ f.refused ∷ f.dropped ∷ (f.discarded + 1) ∷ (f.under_way - 1) ∷ []

use Rattle.std.proofs.Common.{ℕ, List, Bor, sym, ap, ◌∙◌}
use Rattle.std.specs.Str.{bytes_eq}
use Rattle.nm_topology.specs.Resolve.{found, number_of_name}
use Rattle.nm_topology.proofs.Doubles.{position-map}
use Rattle.nm_topology.proofs.names.Names.number.Goals as goal

pub returns-in-Some-clause-value : goal.returns-in-Some-clause-value
returns-in-Some-clause-value c =
    ap (λ names. number_of_name names c.args.name.now) (sym c.self.view_is)
    ∙ ap found (position-map (λ (k : Bor (List ℕ)). k.now) (λ n. bytes_eq c.args.name.now n) c.self.inside.set.keys ∙ sym c.get_index_of.ensures.index ∙ c.in-Some.is)

pub returns-in-None-clause-value : goal.returns-in-None-clause-value
returns-in-None-clause-value c =
    ap (λ names. number_of_name names c.args.name.now) (sym c.self.view_is)
    ∙ ap found (position-map (λ (k : Bor (List ℕ)). k.now) (λ n. bytes_eq c.args.name.now n) c.self.inside.set.keys ∙ sym c.get_index_of.ensures.index ∙ c.in-None.is)

use Rattle.nm_model.proofs.Stated as laws
use Rattle.nm_model.proofs.replica.cut_law.Goals as goal

pub returns : goal.returns
returns g c = λ net ok p K valid. record {
  agrees = λ k n w e. laws.agrees net ok p K valid k n w e;
  reached = λ k last w b. laws.reached net ok p K valid k last w b;
  prefix = λ k last w b. laws.prefix net ok p K valid k last w b;
  exact = λ k n w b. laws.exact net ok p K valid k n w b;
}

use Rattle.nm_model.proofs.RoundLemmas.{enough, finished, known_true, traces_early, whole_traces}
use Rattle.nm_model.proofs.Stated as laws
use Rattle.nm_model.proofs.rounds.rounds_bound.Goals as goal

pub returns : goal.returns
returns g c = λ net ok same eq kind b rounds. record {
  valid = known_true net ok same eq kind b rounds;
  early = λ j p safe last e. traces_early net ok same eq kind b rounds j p last safe e;
  done = λ lead leads j p le.
      let last = laws.before net ok net.stop in (
        enough net ok same eq last.0 last.1 kind b rounds lead leads j p le,
        finished net ok same eq last.0 last.1 kind b rounds lead leads j p le,
      );
  traces = λ lead leads j p le last e. whole_traces net ok same eq kind b rounds lead leads j p last le e;
}

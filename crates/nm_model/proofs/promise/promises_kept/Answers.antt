use Rattle.nm_model.proofs.Stated as laws
use Rattle.nm_model.proofs.Promises.{plain_below}
use Rattle.nm_model.proofs.promise.promises_kept.Goals as goal

pub returns-clause-kept : goal.returns-clause-kept
returns-clause-kept g c = λ net ok p K valid. record {
  prefix = λ k last d w b m. laws.out_begins net ok p K valid k last d w b m;
  later = λ k last d w b m i x le e kind. laws.out_goes_on net ok p K valid k last d w b m i x le e kind;
}

pub returns-clause-tighter : goal.returns-clause-tighter
returns-clause-tighter g c = λ net p K k d. plain_below net p K k d

use Rattle.std.proofs.Common.{◌≡◌, ◌∷◌, [], ◌∙◌, ap, refl, Bool, true, false, if◌then◌else◌, arith}
use mir.Val.{bool_byte}
use Rattle.nm_report.proofs.measures.times_of.Goals as goal

number_of : (b : Bool) → bool_byte b ≡ (if b then 1 else 0)
number_of true = refl
number_of false = refl

pub returns : goal.returns
returns c = λ ds h few.
    let least = c.least.ensures ∙ h.added.sums.least in
    let greatest = c.greatest.ensures ∙ h.added.sums.greatest in
    let mean = c.mean.ensures ds h few in
    let jitter = c.jitter.ensures ds h few in
    let rounded = c.from.ensures ∙ number_of c.is_rounded.result ∙ ap (λ b. if b then 1 else 0) c.is_rounded.ensures.kind in
    record {
      half = c.percentile.result;
      most = c.percentile-2.result;
      nearly = c.percentile-3.result;
      all_but = c.percentile-4.result;
      fifty = c.percentile.ensures ds h few (omega arith);
      ninety = c.percentile-2.ensures ds h few (omega arith);
      ninety_nine = c.percentile-3.ensures ds h few (omega arith);
      last_thousandth = c.percentile-4.ensures ds h few (omega arith);
      are = λ i. least i ∷ c.percentile.result ∷ c.percentile-2.result ∷ c.percentile-3.result ∷ c.percentile-4.result ∷ greatest i ∷ mean i ∷ jitter i ∷ rounded i ∷ [];
    }

use Rattle.nm_model.proofs.StepLaws.{run_within, run_over}
use Rattle.nm_model.proofs.steps.a_run_answers.Goals as goal

pub returns : goal.returns
returns g c = λ net same w p r n count is drains le. record {
  limit = run_within net same w p r n count is drains le;
  all = run_over net same w p r n count is drains le;
}

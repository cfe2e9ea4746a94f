use Rattle.std.proofs.Common.{◌∙◌, drop, rules}
use Rattle.std.proofs.Math.ListN.{length-drop}
use Rattle.nm_model.specs.World.{outgoing, data_frames}
use Rattle.nm_model.proofs.StepLaws.{resend_is, data_count, data_at, drop_at}
use Rattle.nm_model.proofs.steps.sending_puts_frames.Goals as goal

pub returns : goal.returns
returns g c = λ net same w p r d is goes. record {
  message = λ n b e. search (rules, is, goes, e);
  again = λ n le.
      let l = outgoing net p (w.replica p r) d in (
        data_frames d n (drop n l),
        resend_is net same w p r d is goes n le,
        data_count d n (drop n l) ∙ length-drop n l,
        λ i b e. data_at d n (drop n l) i b (drop_at d l n i b e),
      );
  null = λ kind. search (rules, is, goes);
}

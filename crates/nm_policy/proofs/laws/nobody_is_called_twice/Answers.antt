use Rattle.nm_policy.specs.Laws.{after_all, at_first}
use Rattle.nm_policy.proofs.Events.{after_all_sound, not_wanted}
use Rattle.nm_policy.proofs.laws.nobody_is_called_twice.Goals as goal

pub returns : goal.returns
returns c =
    λ peers callers events may key peer leads. let sound = after_all_sound peers callers events may in not_wanted (after_all (at_first peers callers) events).peers peer (sound.called key peer leads)

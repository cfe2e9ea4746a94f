use Rattle.nm_script.proofs.OneScript.{one_script}
use Rattle.nm_script.proofs.laws.a_text_says_one_script.Goals as goal

pub returns : goal.returns
returns c = λ text one other is also. one_script text one other is also

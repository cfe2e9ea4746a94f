use Rattle.nm_policy.proofs.Periods.{never_overdue, overdue_at}
use Rattle.nm_policy.proofs.laws.a_hello_has_its_time.Goals as goal

pub returns-clause-waits : goal.returns-clause-waits
returns-clause-waits c = overdue_at

pub returns-clause-greeted : goal.returns-clause-greeted
returns-clause-greeted c = never_overdue

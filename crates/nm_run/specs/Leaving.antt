-- The files that a plan asks for.
use Rattle.nm_run.specs.Files.{Leaving}
use Rattle.nm_run.specs.declared.run.RunPlan.{RunPlan}

abbrev pub leaving : RunPlan → Leaving
leaving plan = record { folder = plan.folder.now; replicas = plan.replicas; keeps = plan.keeps }

-- A reaction that passes nothing passes nothing that is unwanted.
use Rattle.nm_base.specs.declared.wanted.Wanted.{Wanted}
use Rattle.nm_forward.specs.declared.reaction.Reaction.{Reaction}
use Rattle.nm_forward.specs.declared.reaction.Reaction.TheVariants as sent
use Rattle.nm_forward.specs.Reacting.{PassesNone, PassesUnwanted}

pub passes_none : (wanted : Wanted) (r : Reaction) → PassesNone r → PassesUnwanted wanted r
passes_none wanted sent.Nothing h = tt
passes_none wanted (sent.Send via twin) h = tt
passes_none wanted (sent.Refused via) h = tt
passes_none wanted (sent.Pass via packet) h = absurd h

-- Ranges of messages that are noted one after another.
use Rattle.std.proofs.Common.{List, [], ◌∷◌, ◌++◌, refl, subst}
use Rattle.nm_engine.specs.Given.{NotesAll, NotesRange}
use Rattle.nm_engine.specs.declared.given.MessageRange.{MessageRange}

-- one more
pub notes_more : (old mid new : List MessageRange) (all : List MessageRange) (more : MessageRange) → NotesAll old mid all → NotesRange mid new more → NotesAll old new (all ++ more ∷ [])
notes_more old mid new [] more so_far one = (new, subst (λ (l : List MessageRange). NotesRange l new more) so_far one, refl)
notes_more old mid new (x ∷ xs) more so_far one = (so_far.0, so_far.1, notes_more so_far.0 mid new xs more so_far.2 one)

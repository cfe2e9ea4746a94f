-- Versions of a session.
use Rattle.std.specs.Prelude.{ℕ, ◌==◌, Option, Some, None, if◌then◌else◌}
use Rattle.nm_model.specs.Promise.{Promising, Plain, Tight}
use Rattle.nm_frames.specs.declared.version.Version.{Version}
use Rattle.nm_frames.specs.declared.version.Version.TheVariants.{One, Two}

abbrev pub version_number : Version → ℕ
version_number One = 1
version_number Two = 2

abbrev pub version_of : ℕ → Option Version
version_of n = if n == 1 then Some One else if n == 2 then Some Two else None

abbrev pub other_version : Version → Version
other_version One = Two
other_version Two = One

abbrev pub lesser_version : Version → Version → Version
lesser_version One v = One
lesser_version Two v = v

-- which promise the null messages of a session carry
abbrev pub promising : Version → Promising
promising One = Plain
promising Two = Tight

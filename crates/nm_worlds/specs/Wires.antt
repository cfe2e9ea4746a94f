-- Ends of connections over which nothing has come or gone.
use Rattle.std.specs.Prelude.{◌≡◌, []}
use Rattle.nm_worlds.specs.declared.wire.WorldWire.{WorldWire}

abbrev pub IsNew : WorldWire → Type 0
IsNew w = (w.got.list ≡ []) × (w.sent.list ≡ []) × (w.ended ≡ 0) × (w.failed ≡ 0)

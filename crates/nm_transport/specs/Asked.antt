-- How often each function of a transport was called.
use Rattle.std.specs.Prelude.{ℕ, ◌+◌}

pub record Asked : Type 0 where
  -- for a connection to a peer
  pub calls : ℕ
  -- for a connection that somebody began
  pub accepts : ℕ
  -- to watch a connection, and to end a watch
  pub watches : ℕ
  pub unwatches : ℕ
  -- to wait
  pub waits : ℕ

abbrev pub nothing_asked : Asked
nothing_asked = record { calls = 0; accepts = 0; watches = 0; unwatches = 0; waits = 0 }

-- after one more call
abbrev pub after_call : Asked → Asked
after_call a = record a { calls = a.calls + 1 }

abbrev pub after_accept : Asked → Asked
after_accept a = record a { accepts = a.accepts + 1 }

abbrev pub after_watch : Asked → Asked
after_watch a = record a { watches = a.watches + 1 }

abbrev pub after_unwatch : Asked → Asked
after_unwatch a = record a { unwatches = a.unwatches + 1 }

abbrev pub after_wait : Asked → Asked
after_wait a = record a { waits = a.waits + 1 }

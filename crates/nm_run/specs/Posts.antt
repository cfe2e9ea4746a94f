-- What the replicas of a run begin with.
use Rattle.std.specs.Prelude.{◌≡◌, map}
use Rattle.std.specs.declared.net.socket_addr.SocketAddr.TheVariants.{V4}
use Rattle.nm_run.specs.declared.posts.Posts.{Posts}

-- each post listens at the address that is told for its replica
abbrev pub ArePosted : Posts → Type 0
ArePosted p = map (λ x. x.bound) p.posts.items ≡ map (λ l. V4 l.address) p.listeners.items

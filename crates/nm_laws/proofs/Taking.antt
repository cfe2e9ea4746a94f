-- What a session that takes a frame keeps.
use Rattle.std.proofs.Common.{◌≡◌, ℕ, Bool, true, false, not, ◌==◌, ◌||◌, cond, nat_lt, nat_eq, List, map, Option, Some, None, Ok, Err, refl, subst}
use Rattle.std.specs.Cmp.Lexicographic.{pointwise}
use Rattle.nm_book.specs.declared.message.Data.{Data as DataValue}
use Rattle.nm_book.specs.declared.message.Null.{Null as NullValue}
use Rattle.nm_frames.specs.declared.frame.Frame.TheVariants.{Hello, Have, Data, Null, Bye}
use Rattle.nm_frames.specs.declared.frame.Have.{Have as HaveValue}
use Rattle.nm_frames.specs.declared.frame.Hello.{Hello as HelloValue}
use Rattle.nm_frames.specs.declared.session_fault.SessionFault.TheVariants.{Order, Version as BadVersion, Topology, Peer, Channel}
use Rattle.nm_frames.specs.declared.side.ChannelOut.{ChannelOut}
use Rattle.nm_frames.specs.declared.version.Version.{Version}
use Rattle.nm_frames.specs.Session.{SessionValue, comes_from_peer, goes_to_peer, greeted, is_there, restarted, taken, with_channel}
use Rattle.nm_frames.specs.Version.{version_of}

-- only these may be another: what goes out, and whether Bye was taken
pub record Keeps (s t : SessionValue) (outgoing : List ChannelOut) (bye : Bool) : Type 0 where
  pub incoming : t.incoming ≡ s.incoming
  pub outgoing_is : t.outgoing ≡ outgoing
  pub given : t.bye_given ≡ s.bye_given
  pub bye_is : t.bye_taken ≡ bye

keeps_all : (s t : SessionValue) → s ≡ t → Keeps s t s.outgoing s.bye_taken
keeps_all s t e = subst (λ z. Keeps s z s.outgoing s.bye_taken) e (record { incoming = refl; outgoing_is = refl; given = refl; bye_is = refl })

no_order : (t : SessionValue) → Err Order ≡ Ok t → ⊥
no_order t e = cc

hello_keeps : (s t : SessionValue) (v : Option Version) (partition replica : ℕ) (digest : List ℕ) → greeted s v partition replica digest ≡ Ok t → Keeps s t s.outgoing s.bye_taken
hello_keeps s t None partition replica digest e = absurd (let h : Err BadVersion ≡ Ok t = e in cc)
hello_keeps s t (Some v) partition replica digest e = go (not (pointwise nat_eq digest s.digest)) (not (partition == s.peer) || nat_lt 1 replica) e
  where
    go : (x y : Bool) → cond x (Err Topology) (cond y (Err Peer) (Ok (record s { hello_taken = Some v; peer_replica = Some replica }))) ≡ Ok t
        → Keeps s t s.outgoing s.bye_taken
    go true y g = absurd (let h : Err Topology ≡ Ok t = g in cc)
    go false true g = absurd (let h : Err Peer ≡ Ok t = g in cc)
    go false false g =
        let same : record s { hello_taken = Some v; peer_replica = Some replica } ≡ t = cc in
        subst (λ z. Keeps s z s.outgoing s.bye_taken) same (record { incoming = refl; outgoing_is = refl; given = refl; bye_is = refl })

pub took_hello : (s t : SessionValue) (h : HelloValue) → taken s (Hello h) ≡ Ok t → Keeps s t s.outgoing s.bye_taken
took_hello s t h e = go s.bye_taken (is_there s.hello_taken) e
  where
    go : (x y : Bool) → cond x (Err Order) (cond y (Err Order) (greeted s (version_of h.version) h.partition h.replica h.digest)) ≡ Ok t → Keeps s t s.outgoing s.bye_taken
    go true y g = absurd (no_order t g)
    go false true g = absurd (no_order t g)
    go false false g = hello_keeps s t (version_of h.version) h.partition h.replica h.digest g

-- a frame for the book
for_book : (s t : SessionValue) (x y z : Bool) → cond x (Err Order) (cond y (cond z (Ok s) (Err Channel)) (Err Order)) ≡ Ok t → Keeps s t s.outgoing s.bye_taken
for_book s t true y z g = absurd (no_order t g)
for_book s t false false z g = absurd (no_order t g)
for_book s t false true false g = absurd (let h : Err Channel ≡ Ok t = g in cc)
for_book s t false true true g = keeps_all s t cc

pub took_data : (s t : SessionValue) (d : DataValue) → taken s (Data d) ≡ Ok t → Keeps s t s.outgoing s.bye_taken
took_data s t d e = for_book s t s.bye_taken (is_there s.hello_taken) (comes_from_peer s d.channel) e

pub took_null : (s t : SessionValue) (n : NullValue) → taken s (Null n) ≡ Ok t → Keeps s t s.outgoing s.bye_taken
took_null s t n e = for_book s t s.bye_taken (is_there s.hello_taken) (comes_from_peer s n.channel) e

pub took_have : (s t : SessionValue) (h : HaveValue) → taken s (Have h) ≡ Ok t → Keeps s t (map (with_channel h.channel (restarted h.count)) s.outgoing) s.bye_taken
took_have s t h e = go s.bye_taken (is_there s.hello_taken) (goes_to_peer s h.channel) e
  where
    go : (x y z : Bool)
        → cond x (Err Order) (cond y (cond z (Ok (record s { outgoing = map (with_channel h.channel (restarted h.count)) s.outgoing })) (Err Channel)) (Err Order)) ≡ Ok t
        → Keeps s t (map (with_channel h.channel (restarted h.count)) s.outgoing) s.bye_taken
    go true y z g = absurd (no_order t g)
    go false false z g = absurd (no_order t g)
    go false true false g = absurd (let h : Err Channel ≡ Ok t = g in cc)
    go false true true g =
        let same : record s { outgoing = map (with_channel h.channel (restarted h.count)) s.outgoing } ≡ t = cc in
        subst (λ z. Keeps s z (map (with_channel h.channel (restarted h.count)) s.outgoing) s.bye_taken) same
        (record { incoming = refl; outgoing_is = refl; given = refl; bye_is = refl })

pub took_bye : (s t : SessionValue) → taken s Bye ≡ Ok t → Keeps s t s.outgoing true
took_bye s t e = go s.bye_taken (is_there s.hello_taken) e
  where
    go : (x y : Bool) → cond x (Err Order) (cond y (Ok (record s { bye_taken = true })) (Err Order)) ≡ Ok t → Keeps s t s.outgoing true
    go true y g = absurd (no_order t g)
    go false false g = absurd (no_order t g)
    go false true g =
        let same : record s { bye_taken = true } ≡ t = cc in
        subst (λ z. Keeps s z s.outgoing true) same (record { incoming = refl; outgoing_is = refl; given = refl; bye_is = refl })

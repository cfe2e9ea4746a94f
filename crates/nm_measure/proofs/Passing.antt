-- Which packets pass an interface in an event.
use Rattle.std.proofs.Common.{◌≡◌, ℕ, Bool, true, false, cond, List, [], ◌∷◌, map, Option, Some, None, refl, ap}
use Rattle.nm_base.specs.declared.record.Dir.TheVariants.{Out}
use Rattle.nm_model.specs.Network.{Net}
use Rattle.nm_model.specs.Offers.{offering_at, offering_of}
use Rattle.nm_model.specs.Port.{Busy, Port, offered}
use Rattle.nm_model.specs.Run.{at_iface, out_record, sent_on, turned_by}
use Rattle.nm_model.specs.declared.offering.Offering.{Offering}
use Rattle.nm_model.specs.declared.offering.Offering.TheVariants.{Nothing, Started, Waits, Dropped}
use Rattle.nm_measure.specs.declared.courses.Hop.{Hop}
use Rattle.nm_measure.specs.declared.tag.Tag.{Tag}
use Rattle.nm_measure.specs.Courses.{pass_of}

-- what is sent passes the interface if its transmission starts
abbrev pub started_passes : Offering → Tag → (now : ℕ) → List (Tag × Hop)
started_passes Nothing tag now = []
started_passes (Started i) tag now = (tag, record { iface = i; dir = Out; time = now }) ∷ []
started_passes (Waits i) tag now = []
started_passes (Dropped i) tag now = []

pub started_of : {N : Type 0} (net : Net (Tag × List ℕ) N) (ports : ℕ → Port (Tag × List ℕ)) (time : ℕ) (came : Option (ℕ × (Tag × List ℕ))) (n : N) (out : Option (ℕ × (Tag × List ℕ))) (follows : Option (ℕ × ℕ × (Tag × List ℕ))) (tag : Tag)
    → ((x : ℕ × (Tag × List ℕ)) → out ≡ Some x → x.1.0 ≡ tag)
    → map pass_of (out_record time (sent_on net ports time came n out follows).transmission) ≡ started_passes (offering_of net ports out) tag time
started_of net ports time came n None follows tag is = refl
started_of net ports time came n (Some s) follows tag is = go (ports s.0).busy
  where
    room : (q : Bool) (v w : Port (Tag × List ℕ)) → map pass_of (out_record time (at_iface s.0 (cond {A = Port (Tag × List ℕ) × Option (Tag × List ℕ)} q (v, None) (w, None)).1)) ≡ started_passes (cond q (Waits s.0) (Dropped s.0)) tag time
    room true v w = refl
    room false v w = refl

    go : (o : Option (Busy (Tag × List ℕ))) → map pass_of (out_record time (turned_by net came n s.0 (offered (net.room s.0) (net.tx s.0) time s.1 (ports s.0).dropped o) follows).transmission)
        ≡ started_passes (offering_at (net.room s.0) s.0 s.1 o) tag time
    go None = ap (λ (g : Tag). (g, record { iface = s.0; dir = Out; time = time }) ∷ []) (is s refl)
    go (Some b) = room (net.room s.0 b.waiting s.1) _ _

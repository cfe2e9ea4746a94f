-- What a port does with the packets that it is offered.
use Rattle.std.proofs.Common.{◌≡◌, ℕ, ◌+◌, Bool, true, false, cond, not, List, [], ◌∷◌, ◌++◌, Option, Some, None, sym, ap, ◌∙◌, arith, append_assoc, append-nil}
use Rattle.nm_model.specs.Port.{Busy, Port, next_transmitting, PortEvent, Offer, Done, waiting_of, option_list, port_after, transmitted_by, taken_by, dropped_by}

module _ {P : Type 0} (room : List P → P → Bool) (tx : P → ℕ) where
  -- those that wait and those that are taken are those that start and those that wait then, in order
  pub in_turn : (es : List (PortEvent P)) (w : Port P) → waiting_of w.busy ++ taken_by room tx es w ≡ transmitted_by room tx es w ++ waiting_of (port_after room tx es w).busy
  in_turn [] w = append-nil (waiting_of w.busy)
  in_turn (Offer now x ∷ es) w = offer w.busy (λ v. in_turn es v)
    where
      refused : (b : Busy P) (z : Bool) (d : ℕ) → ((v : Port P) → waiting_of v.busy ++ taken_by room tx es v ≡ transmitted_by room tx es v ++ waiting_of (port_after room tx es v).busy) → b.waiting ++ (cond (not z) [] (x ∷ []) ++ taken_by room tx es (cond {A = Port P × Option P} z (record { busy = Some (record { completes = b.completes; waiting = b.waiting ++ x ∷ [] }); dropped = d }, None) (record { busy = Some b; dropped = d + 1 }, None)).0) ≡ (option_list (cond {A = Port P × Option P} z (record { busy = Some (record { completes = b.completes; waiting = b.waiting ++ x ∷ [] }); dropped = d }, None) (record { busy = Some b; dropped = d + 1 }, None)).1 ++ transmitted_by room tx es (cond {A = Port P × Option P} z (record { busy = Some (record { completes = b.completes; waiting = b.waiting ++ x ∷ [] }); dropped = d }, None) (record { busy = Some b; dropped = d + 1 }, None)).0) ++ waiting_of (port_after room tx es (cond {A = Port P × Option P} z (record { busy = Some (record { completes = b.completes; waiting = b.waiting ++ x ∷ [] }); dropped = d }, None) (record { busy = Some b; dropped = d + 1 }, None)).0).busy
      refused b true d rest = sym (append_assoc b.waiting (x ∷ []) _) ∙ rest (record { busy = Some (record { completes = b.completes; waiting = b.waiting ++ x ∷ [] }); dropped = d })
      refused b false d rest = rest (record { busy = Some b; dropped = d + 1 })

      offer : (o : Option (Busy P)) → ((v : Port P) → waiting_of v.busy ++ taken_by room tx es v ≡ transmitted_by room tx es v ++ waiting_of (port_after room tx es v).busy) → waiting_of o ++ taken_by room tx (Offer now x ∷ es) (record { busy = o; dropped = w.dropped }) ≡ transmitted_by room tx (Offer now x ∷ es) (record { busy = o; dropped = w.dropped }) ++ waiting_of (port_after room tx (Offer now x ∷ es) (record { busy = o; dropped = w.dropped })).busy
      offer None rest = ap (λ l. x ∷ l) (rest (record { busy = Some (record { completes = now + tx x; waiting = [] }); dropped = w.dropped }))
      offer (Some b) rest = refused b (room b.waiting x) w.dropped rest
  in_turn (Done now ∷ es) w = done w.busy (λ v. in_turn es v)
    where
      next : (q : List P) → ((v : Port P) → waiting_of v.busy ++ taken_by room tx es v ≡ transmitted_by room tx es v ++ waiting_of (port_after room tx es v).busy) → q ++ taken_by room tx es (next_transmitting tx now w.dropped q).0 ≡ (option_list (next_transmitting tx now w.dropped q).1 ++ transmitted_by room tx es (next_transmitting tx now w.dropped q).0) ++ waiting_of (port_after room tx es (next_transmitting tx now w.dropped q).0).busy
      next [] rest = rest (record { busy = None; dropped = w.dropped })
      next (x ∷ q) rest = ap (λ l. x ∷ l) (rest (record { busy = Some (record { completes = now + tx x; waiting = q }); dropped = w.dropped }))

      done : (o : Option (Busy P)) → ((v : Port P) → waiting_of v.busy ++ taken_by room tx es v ≡ transmitted_by room tx es v ++ waiting_of (port_after room tx es v).busy) → waiting_of o ++ taken_by room tx (Done now ∷ es) (record { busy = o; dropped = w.dropped }) ≡ transmitted_by room tx (Done now ∷ es) (record { busy = o; dropped = w.dropped }) ++ waiting_of (port_after room tx (Done now ∷ es) (record { busy = o; dropped = w.dropped })).busy
      done None rest = rest (record { busy = None; dropped = w.dropped })
      done (Some b) rest = next b.waiting rest

  -- drops are counted
  pub counted : (es : List (PortEvent P)) (w : Port P) → (port_after room tx es w).dropped ≡ w.dropped + dropped_by room tx es w
  counted [] w = omega arith
  counted (Offer now x ∷ es) w = offer w.busy (λ v. counted es v)
    where
      refused : (b : Busy P) (z : Bool) (d : ℕ) → ((v : Port P) → (port_after room tx es v).dropped ≡ v.dropped + dropped_by room tx es v) → (port_after room tx es (cond {A = Port P × Option P} z (record { busy = Some (record { completes = b.completes; waiting = b.waiting ++ x ∷ [] }); dropped = d }, None) (record { busy = Some b; dropped = d + 1 }, None)).0).dropped ≡ d + (cond (not z) 1 0 + dropped_by room tx es (cond {A = Port P × Option P} z (record { busy = Some (record { completes = b.completes; waiting = b.waiting ++ x ∷ [] }); dropped = d }, None) (record { busy = Some b; dropped = d + 1 }, None)).0)
      refused b true d rest = let r = rest (record { busy = Some (record { completes = b.completes; waiting = b.waiting ++ x ∷ [] }); dropped = d }) in omega arith
      refused b false d rest = let r = rest (record { busy = Some b; dropped = d + 1 }) in omega arith

      offer : (o : Option (Busy P)) → ((v : Port P) → (port_after room tx es v).dropped ≡ v.dropped + dropped_by room tx es v) → (port_after room tx (Offer now x ∷ es) (record { busy = o; dropped = w.dropped })).dropped ≡ w.dropped + dropped_by room tx (Offer now x ∷ es) (record { busy = o; dropped = w.dropped })
      offer None rest = let r = rest (record { busy = Some (record { completes = now + tx x; waiting = [] }); dropped = w.dropped }) in omega arith
      offer (Some b) rest = refused b (room b.waiting x) w.dropped rest
  counted (Done now ∷ es) w = done w.busy (λ v. counted es v)
    where
      next : (q : List P) → ((v : Port P) → (port_after room tx es v).dropped ≡ v.dropped + dropped_by room tx es v) → (port_after room tx es (next_transmitting tx now w.dropped q).0).dropped ≡ w.dropped + dropped_by room tx es (next_transmitting tx now w.dropped q).0
      next [] rest = rest (record { busy = None; dropped = w.dropped })
      next (x ∷ q) rest = rest (record { busy = Some (record { completes = now + tx x; waiting = q }); dropped = w.dropped })

      done : (o : Option (Busy P)) → ((v : Port P) → (port_after room tx es v).dropped ≡ v.dropped + dropped_by room tx es v) → (port_after room tx (Done now ∷ es) (record { busy = o; dropped = w.dropped })).dropped ≡ w.dropped + dropped_by room tx (Done now ∷ es) (record { busy = o; dropped = w.dropped })
      done None rest = rest (record { busy = None; dropped = w.dropped })
      done (Some b) rest = next b.waiting rest

-- The run of the example, event by event.
use Rattle.std.proofs.Common.{◌≡◌, inl, inr, ℕ, true, List, [], ◌∷◌, Some, None, sym, ap, ◌∙◌, subst, ⊎_elim, arith}
use Rattle.std.specs.FinMap.{FinMap, get, remove, empty}
use Rattle.nm_base.specs.declared.key.Place.TheVariants.{Arrive, Complete, Fire}
use Rattle.nm_base.specs.declared.key.Key.{Key}
use Rattle.nm_base.specs.declared.event.Event.{Event}
use Rattle.nm_base.specs.declared.event.Event.TheVariants.{Delivery, Completion}
use Rattle.nm_base.specs.declared.event.Origin.TheVariants.{Arrival, Source}
use Rattle.nm_base.specs.Key.{key_of, key_cmp}
use Rattle.nm_model.specs.Lists.{set_at}
use Rattle.nm_model.specs.EventList.{IsUpTo, least, schedule}
use Rattle.nm_model.specs.Run.{State, step, step_at, one_list}
use Rattle.nm_model.specs.Example.{two_hosts, its_records}
use Rattle.nm_model.proofs.Keys.{get_empty, insert_same, insert_other, remove_same, remove_other, key_decides, least_has, least_is, same_events, up_to_self, up_to_earlier}
use Rattle.nm_model.proofs.ListLemmas.{option_cases}
use Rattle.nm_model.proofs.Scheduling.{IsAbsent, IsAmong, put_absent, put_from}

module _ {X : Type 0} where
  abbrev listed : List (Key × X) → FinMap key_cmp X
  listed es = schedule (λ q. true) es empty

  -- the first of a list is the least of its map, where it is not after the others
  first_least : (e : Key × X) (es : List (Key × X)) → ((q : Key) (y : X) → IsAmong q y es → IsUpTo e.0 q) → least (listed (e ∷ es)) ≡ Some e
  first_least e es h = least_is (listed (e ∷ es)) e.0 e.1 (insert_same (listed es) e.0 e.1) (λ q y g. ⊎_elim
      (λ a. ⊎_elim (λ b. subst (IsUpTo e.0) (sym b.0) (up_to_self e.0)) (λ b. h q y b) a)
      (λ f. absurd (let none = get_empty {X = X} q in cc))
      (put_from (λ q. true) (e ∷ es) empty q y g))

  rest_of : (e : Key × X) (es : List (Key × X)) → IsAbsent e.0 es → remove (listed (e ∷ es)) e.0 ≡ listed es
  rest_of e es h = same_events _ _ (λ q. ⊎_elim
      (λ f. subst (λ z. get (remove (listed (e ∷ es)) e.0) z ≡ get (listed es) z) (sym f) (remove_same (listed (e ∷ es)) e.0 ∙ sym (put_absent (λ q. true) es empty e.0 h ∙ get_empty e.0)))
      (λ f. remove_other (listed (e ∷ es)) e.0 q f ∙ insert_other (listed es) e.0 e.1 q f)
      (key_decides q e.0))

  nothing_least : least (listed []) ≡ None
  nothing_least = ⊎_elim (λ h. h) (λ h. absurd (let has = least_has {X = X} (listed []) h.0 h.1 in let none = get_empty {X = X} h.0.0 in cc)) (option_cases (least (listed [])))

abbrev fires : Key × Event ℕ
fires = (key_of 0 (Fire 0) 0, Delivery (Source 0) 7)

abbrev completes : Key × Event ℕ
completes = (key_of 5 (Complete 0) 0, Completion 0)

abbrev arrives : Key × Event ℕ
arrives = (key_of 15 (Arrive 1) 0, Delivery (Arrival 1) 7)

after_one : one_list two_hosts 1 ≡ record (step_at two_hosts (λ q. true) (one_list two_hosts 0) (Some fires)) { pending = listed (completes ∷ arrives ∷ []) }
after_one =
    ap (step_at two_hosts (λ q. true) (one_list two_hosts 0)) (first_least fires [] (λ q y a. absurd a))
    ∙ ap (λ m. record (step_at two_hosts (λ q. true) (one_list two_hosts 0) (Some fires)) { pending = schedule (λ q. true) (completes ∷ arrives ∷ []) m }) (rest_of fires [] tt)

abbrev one : State ℕ ℕ
one = record (step_at two_hosts (λ q. true) (one_list two_hosts 0) (Some fires)) { pending = listed (completes ∷ arrives ∷ []) }

abbrev two : State ℕ ℕ
two = record (step_at two_hosts (λ q. true) one (Some completes)) { pending = listed (arrives ∷ []) }

abbrev three : State ℕ ℕ
three = record (step_at two_hosts (λ q. true) two (Some arrives)) { pending = listed [] }

after_two : one_list two_hosts 2 ≡ two
unfolding set_at
after_two =
    ap (step two_hosts (λ q. true)) after_one
    ∙ ap (step_at two_hosts (λ q. true) one) (first_least completes (arrives ∷ []) before)
    ∙ ap (λ m. record (step_at two_hosts (λ q. true) one (Some completes)) { pending = m }) (rest_of completes (arrives ∷ []) ((λ e. let p = ap (λ k. k.place) e in cc), tt))
  where
    before : (q : Key) (y : Event ℕ) → IsAmong q y (arrives ∷ []) → IsUpTo completes.0 q
    before q y (inl a) = up_to_earlier completes.0 q (let t = ap (λ k. k.time) a.0 in omega arith)
    before q y (inr a) = absurd a

after_three : one_list two_hosts 3 ≡ three
unfolding set_at
after_three =
    ap (step two_hosts (λ q. true)) after_two
    ∙ ap (step_at two_hosts (λ q. true) two) (first_least arrives [] (λ q y a. absurd a))
    ∙ ap (λ m. record (step_at two_hosts (λ q. true) two (Some arrives)) { pending = m }) (rest_of arrives [] tt)

pub records_are : (one_list two_hosts 3).records ≡ its_records
unfolding set_at
records_are = ap (λ s. s.records) after_three

pub all_over : least (one_list two_hosts 3).pending ≡ None
all_over = ap (λ (s : State ℕ ℕ). least s.pending) after_three ∙ nothing_least

-- The records of a trace: one more is added, or the first that is kept is handed out.
use Rattle.std.proofs.Common.{◌≡◌, ℕ, zero, suc, ◌+◌, ◌≤◌, ◌==◌, true, false, cond, List, [], ◌∷◌, ◌++◌, drop, length, replicate, Some, slice_get, refl, sym, ap, ◌∙◌, subst, arith, ⊎_elim, append-nil, length-append, option_map}
use Rattle.std.proofs.lemmas.List.{drop-append-le, drop_all, length-drop, length-replicate}
use Rattle.std.proofs.lemmas.Option.{slice_get_cases, slice_get_past}
use Rattle.nm_base.specs.Wanted.{is_wanted}
use Rattle.nm_base.specs.declared.record.Record.{Record}
use Rattle.nm_base.specs.declared.wanted.Wanted.{Wanted}
use Rattle.nm_base.specs.declared.wanted.Wanted.TheVariants.{All, Nothing, One}
use Rattle.nm_topology.specs.TopologyValue.{TopologyValue}
use Rattle.nm_model.proofs.ListLemmas.{not_some, some_inj}
use Rattle.nm_sim.specs.Records.{Keeping, RecordsRepresent, RecordsValue, cut}
use Rattle.nm_sim.specs.Tables.{AllAt}
use Rattle.nm_sim.proofs.Cuts.{cut-append}
use Rattle.nm_sim.specs.Traffic.{iface_traffic_of, traffic_after, traffic_none}
use Rattle.nm_sim.specs.declared.traffic.IfaceTraffic.{IfaceTraffic}
use Rattle.nm_sim.proofs.Trafficking.{traffic_more}

-- the number of those that are left, beside those that are not
pub rest_is_all : (n : ℕ) (trace : List (Record (List ℕ))) → n ≤ length trace → n + length (drop n trace) ≡ length trace
rest_is_all n trace few = let l = length-drop n trace in omega (arith, l, few)

cut_one : (w : Wanted) (r : Record (List ℕ)) → cut w (r ∷ []) ≡ cond (is_wanted w r.iface) (r ∷ []) []
cut_one All r = refl
cut_one Nothing r = refl
cut_one (One i) r = refl

module _ (w : Wanted) (trace : List (Record (List ℕ))) (r : Record (List ℕ)) where
  cut_more : cut w (trace ++ r ∷ []) ≡ cut w trace ++ cond (is_wanted w r.iface) (r ∷ []) []
  cut_more = cut-append w trace (r ∷ []) ∙ ap (λ l. cut w trace ++ l) (cut_one w r)

  cut_wanted : is_wanted w r.iface ≡ true → cut w (trace ++ r ∷ []) ≡ cut w trace ++ r ∷ []
  cut_wanted e = cut_more ∙ ap (λ b. cut w trace ++ cond b (r ∷ []) []) e

  cut_unwanted : is_wanted w r.iface ≡ false → cut w (trace ++ r ∷ []) ≡ cut w trace
  cut_unwanted e = cut_more ∙ ap (λ b. cut w trace ++ cond b (r ∷ []) []) e ∙ append-nil (cut w trace)

-- what is kept of a trace
abbrev left : Keeping → List (Record (List ℕ)) → List (Record (List ℕ))
left k trace = drop k.handed (cut k.wanted trace)

module _ (t : TopologyValue) (a b : RecordsValue) (trace : List (Record (List ℕ))) where
  traffic_with : (r : Record (List ℕ))
      → ((i : ℕ) → slice_get b.traffic i ≡ option_map (λ x. cond (i == r.iface) (traffic_after x r) x) (slice_get a.traffic i))
      → RecordsRepresent t a trace → AllAt (λ i x. x ≡ iface_traffic_of i (trace ++ r ∷ [])) b.traffic
  traffic_with r traffic h = λ i y e. ⊎_elim
      (λ g. some_inj y (cond (i == r.iface) (traffic_after g.0 r) g.0)
      (sym e ∙ traffic i ∙ ap (option_map (λ x. cond (i == r.iface) (traffic_after x r) x)) g.2)
      ∙ ap (λ x. cond (i == r.iface) (traffic_after x r) x) (h.traffic i g.0 g.2) ∙ sym (traffic_more i trace r (i == r.iface) refl))
      (λ g. absurd (not_some y (sym (traffic i ∙ ap (option_map (λ x. cond (i == r.iface) (traffic_after x r) x)) (slice_get_past a.traffic i g.0)) ∙ e)))
      ((slice_get_cases a.traffic i).1)

  pub records_more : (r : Record (List ℕ)) → is_wanted a.keeping.wanted r.iface ≡ true → b.kept ≡ a.kept ++ r ∷ [] → b.keeping ≡ a.keeping → length b.traffic ≡ length a.traffic
      → ((i : ℕ) → slice_get b.traffic i ≡ option_map (λ x. cond (i == r.iface) (traffic_after x r) x) (slice_get a.traffic i))
      → RecordsRepresent t a trace → RecordsRepresent t b (trace ++ r ∷ [])
  records_more r wanted kept keeping count traffic h =
      let w = a.keeping.wanted in
      let more = cut_wanted w trace r wanted in
      record {
        kept = kept ∙ ap (λ l. l ++ r ∷ []) h.kept ∙ sym (drop-append-le a.keeping.handed (cut w trace) (r ∷ []) h.few)
            ∙ ap (drop a.keeping.handed) (sym more) ∙ ap (λ k. left k (trace ++ r ∷ [])) (sym keeping);
        few = subst (λ k. k.handed ≤ length (cut k.wanted (trace ++ r ∷ []))) (sym keeping)
            (let l = ap length more ∙ length-append (cut w trace) (r ∷ []) in let f = h.few in omega (arith, f, l));
        count = count ∙ h.count;
        traffic = traffic_with r traffic h;
      }

  -- one more that is not kept
  pub records_passed : (r : Record (List ℕ)) → is_wanted a.keeping.wanted r.iface ≡ false → b.kept ≡ a.kept → b.keeping ≡ a.keeping → length b.traffic ≡ length a.traffic
      → ((i : ℕ) → slice_get b.traffic i ≡ option_map (λ x. cond (i == r.iface) (traffic_after x r) x) (slice_get a.traffic i))
      → RecordsRepresent t a trace → RecordsRepresent t b (trace ++ r ∷ [])
  records_passed r unwanted kept keeping count traffic h =
      let same = cut_unwanted a.keeping.wanted trace r unwanted in
      record {
        kept = kept ∙ h.kept ∙ ap (drop a.keeping.handed) (sym same) ∙ ap (λ k. left k (trace ++ r ∷ [])) (sym keeping);
        few = subst (λ k. k.handed ≤ length (cut k.wanted (trace ++ r ∷ []))) (sym keeping)
            (let l = ap length same in let f = h.few in omega (arith, f, l));
        count = count ∙ h.count;
        traffic = traffic_with r traffic h;
      }

  pub records_handed : 1 ≤ length a.kept → b.kept ≡ drop 1 a.kept → b.keeping ≡ record a.keeping { handed = a.keeping.handed + 1 } → b.traffic ≡ a.traffic → RecordsRepresent t a trace → RecordsRepresent t b trace
  records_handed there kept keeping traffic h =
      let own = cut a.keeping.wanted trace in
      record {
        kept = kept ∙ ap (drop 1) h.kept ∙ drop_more a.keeping.handed own ∙ ap (λ k. left k trace) (sym keeping);
        few = subst (λ k. k.handed ≤ length (cut k.wanted trace)) (sym keeping)
            (let l = ap length h.kept ∙ length-drop a.keeping.handed own in omega (arith, l, there));
        count = ap length traffic ∙ h.count;
        traffic = λ i y e. h.traffic i y (ap (λ l. slice_get l i) (sym traffic) ∙ e);
      }
    where
      drop_more : (n : ℕ) (l : List (Record (List ℕ))) → drop 1 (drop n l) ≡ drop (n + 1) l
      drop_more zero l = refl
      drop_more (suc n) [] = let e : suc (n + 1) ≡ suc n + 1 = omega arith in ap (λ k. drop k []) e
      drop_more (suc n) (x ∷ l) = let e : suc (n + 1) ≡ suc n + 1 = omega arith in drop_more n l ∙ ap (λ k. drop k (x ∷ l)) e

  -- all that were kept are handed out
  pub all_handed : b.kept ≡ [] → b.keeping ≡ record a.keeping { handed = a.keeping.handed + length a.kept } → b.traffic ≡ a.traffic → RecordsRepresent t a trace → RecordsRepresent t b trace
  all_handed kept keeping traffic h =
      let own = cut a.keeping.wanted trace in
      let all = ap (λ n. a.keeping.handed + n) (ap length h.kept) ∙ rest_is_all a.keeping.handed own h.few in record {
        kept = kept ∙ sym (drop_all (a.keeping.handed + length a.kept) own (omega (arith, all))) ∙ ap (λ k. left k trace) (sym keeping);
        few = subst (λ k. k.handed ≤ length (cut k.wanted trace)) (sym keeping) (omega (arith, all));
        count = ap length traffic ∙ h.count;
        traffic = λ i y e. h.traffic i y (ap (λ l. slice_get l i) (sym traffic) ∙ e);
      }

  pub records_same : b ≡ record a { spare = b.spare } → RecordsRepresent t a trace → RecordsRepresent t b trace
  records_same e h =
      let keeping : b.keeping ≡ a.keeping = ap (λ r. r.keeping) e in record {
        kept = ap (λ r. r.kept) e ∙ h.kept ∙ ap (λ k. left k trace) (sym keeping);
        few = subst (λ k. k.handed ≤ length (cut k.wanted trace)) (sym keeping) h.few;
        count = ap (λ r. length r.traffic) e ∙ h.count;
        traffic = λ i y g. h.traffic i y (ap (λ r. slice_get r.traffic i) (sym e) ∙ g);
      }

-- no record is added
pub nothing_more : (t : TopologyValue) (r : RecordsValue) (trace : List (Record (List ℕ))) → RecordsRepresent t r trace → RecordsRepresent t r (trace ++ [])
nothing_more t r trace h = subst (RecordsRepresent t r) (sym (append-nil trace)) h

-- the first of what is left
pub first_left : (n : ℕ) (l : List (Record (List ℕ))) → slice_get (drop n l) 0 ≡ slice_get l n
first_left zero l = refl
first_left (suc n) [] = refl
first_left (suc n) (x ∷ l) = first_left n l

-- at the start
pub records_first : (t : TopologyValue) (w : Wanted) (r : RecordsValue) → r.kept ≡ [] → r.keeping ≡ record { wanted = w; handed = 0 } → r.traffic ≡ replicate (length t.ifaces) traffic_none → RecordsRepresent t r []
records_first t w r kept keeping traffic = record {
  kept = kept ∙ sym (nothing w) ∙ ap (λ k. left k []) (sym keeping);
  few = subst (λ k. k.handed ≤ length (cut k.wanted [])) (sym keeping) (omega arith);
  count = ap length traffic ∙ length-replicate (length t.ifaces) traffic_none;
  traffic = λ i y e. all (length t.ifaces) i y (ap (λ l. slice_get l i) (sym traffic) ∙ e);
}
  where
    nothing : (v : Wanted) → cut v [] ≡ []
    nothing All = refl
    nothing Nothing = refl
    nothing (One i) = refl

    all : (n i : ℕ) (y : IfaceTraffic) → slice_get (replicate n traffic_none) i ≡ Some y → y ≡ iface_traffic_of i []
    all zero i y e = absurd cc
    all (suc n) zero y e = some_inj y traffic_none (sym e)
    all (suc n) (suc i) y e = all n i y e

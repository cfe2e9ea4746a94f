-- A replica merges what her sister knows, or is made anew.
use Rattle.std.proofs.Common.{◌≡◌, ◌≢◌, ℕ, zero, suc, ◌+◌, ◌-◌, ◌*◌, ◌<◌, ◌≤◌, ◌==◌, ◌&&◌, Bool, true, false, cond, if◌then◌else◌, List, [], ◌∷◌, length, replicate, slice_set, slice_index_or, get_or, Option, Some, None, Result, Ok, Err, refl, sym, ◌∙◌, ap, ap₂, subst, arith, ⊎_elim}
use Rattle.std.proofs.Math.Path.{fun_ext}
use Rattle.std.proofs.lemmas.Bool.{cases_lt}
use Rattle.std.proofs.lemmas.Bool.Decides.{nat_tests}
use Rattle.std.proofs.lemmas.List.{length-replicate}
use Rattle.std.specs.Option.{option_map}
use Rattle.std.specs.List.Sorted.{IsStrictlyIncreasing}
use Rattle.nm_book.specs.declared.message.ChannelMessage.{ChannelMessage}
use Rattle.nm_topology.specs.TopologyValue.{TopologyValue}
use Rattle.nm_topology.specs.Topology.{channel_from, receiving_iface}
use Rattle.nm_knowledge.specs.Answers.{reason}
use Rattle.nm_knowledge.specs.Octets.{same_octets}
use Rattle.nm_knowledge.specs.declared.answer.KnowFault.{KnowFault}
use Rattle.nm_knowledge.specs.declared.answer.KnowFault.TheVariants as fault
use Rattle.nm_model.specs.Accept as accept
use Rattle.nm_model.specs.Accept.{IsReflexive}
use Rattle.nm_model.specs.Join.{at_channel, join, join_all, join_fault, join_faults, or_else}
use Rattle.nm_model.specs.Knowledge.{Know, Knowledge, nothing_known}
use Rattle.nm_model.specs.Partition.{comes_in}
use Rattle.nm_model.specs.World as model
use Rattle.nm_sim.specs.Network.{net_of}
use Rattle.nm_book.specs.Book.{BookValue, is_incoming, is_replica, knowledge_of, known_at}
use Rattle.nm_book.specs.Merging.{AreJoined, BookMerges, KnowledgeValue, is_of}
use Rattle.nm_base.specs.declared.fault.Fault.{Fault}
use Rattle.nm_base.specs.declared.fault.Fault.TheVariants as unmerged
use Rattle.nm_book.specs.declared.fault.MergeRefusal.{MergeRefusal}
use Rattle.nm_book.specs.declared.fault.MergeRefusal.TheVariants as refusal
use Rattle.nm_book.proofs.Beginnings.{is_nothing, nothing_at}
use Rattle.nm_book.proofs.Incoming.{ifaces_are}
use Rattle.nm_book.proofs.Tellings.{comes_at, known_here}
use Rattle.nm_rounds.specs.World.{IsReplicaOf, IsWorld, Steps, happens, merge_answer_of}
use Rattle.nm_rounds.specs.declared.step.StepAnswer.TheVariants as told
use Rattle.nm_rounds.specs.declared.step.WorldStep.TheVariants as step
use Rattle.nm_rounds.specs.declared.world.Stop.TheVariants as stop
use Rattle.nm_rounds.proofs.Standing.{put_book, there_is}
use Rattle.nm_rounds.proofs.Acts.{unchanged_at, book_read, step_done, step_names_nothing, there_too, with_book}

-- What two lists by channel numbers say of each channel, as knowledge by interfaces.
module _ (t : TopologyValue) (knows others : List (Know (List ℕ))) (here : (c : ℕ) → c < length t.receivers → channel_from 0 t.receivers (receiving_iface t c) ≡ Some c) where
  abbrev K : Knowledge (List ℕ)
  K = knowledge_of t knows

  abbrev J : Knowledge (List ℕ)
  J = knowledge_of t others

  -- below an interface there is no fault where there is none at any channel there
  no_faults : (n : ℕ) → ((i : ℕ) → i < n → join_fault same_octets (K i) (J i) ≡ None) → join_faults same_octets K J n ≡ None
  no_faults zero h = refl
  no_faults (suc n) h =
      ap₂ or_else (no_faults n (λ i lt. h i (omega (arith, lt)))) (ap (at_channel n) (h n (omega arith)))

  -- the first one is the first fault
  one_fault : (n i : ℕ) (a : accept.Answer) → i < n → join_fault same_octets (K i) (J i) ≡ Some a → ((j : ℕ) → j < i → join_fault same_octets (K j) (J j) ≡ None)
      → join_faults same_octets K J n ≡ Some (i, a)
  one_fault zero i a lt e h = absurd (omega (arith, lt))
  one_fault (suc n) i a lt e h = ⊎_elim
      (λ low. ap (λ o. or_else o (at_channel n (join_fault same_octets (K n) (J n)))) (one_fault n i a low e h))
      (λ high.
      let same : i ≡ n = omega (arith, lt, high) in
      ap₂ or_else (no_faults n (λ j below. h j (omega (arith, below, same)))) (ap (at_channel n) (ap (λ z. join_fault same_octets (K z) (J z)) (sym same) ∙ e)) ∙ ap (λ z. Some (z, a)) (sym same))
      (cases_lt i n)

-- what is not there is not known
past_end : (l : List (Know (List ℕ))) (c : ℕ) → length l ≤ c → slice_index_or l c nothing_known ≡ nothing_known
past_end [] c h = refl
past_end (a ∷ l) zero h = absurd (omega (arith, h))
past_end (a ∷ l) (suc c) h = past_end l c (omega (arith, h))

-- numbers that rise: a lesser one stands before a greater one
rise : (rs : List ℕ) → IsStrictlyIncreasing rs → (c n : ℕ) → c + suc n < length rs → get_or rs c 0 < get_or rs (c + suc n) 0
rise rs up c zero h = let z : c + 1 ≡ c + suc zero = omega arith in subst (λ k. get_or rs c 0 < get_or rs k 0) z (up c (omega (arith, h)))
rise rs up c (suc n) h =
    let first = rise rs up c n (omega (arith, h)) in
    let next = up (c + suc n) (omega (arith, h)) in
    let z : (c + suc n) + 1 ≡ c + suc (suc n) = omega arith in
    let last : get_or rs (c + suc n) 0 < get_or rs (c + suc (suc n)) 0 = subst (λ k. get_or rs (c + suc n) 0 < get_or rs k 0) z next in
    omega (arith, first, last)

read_any : (rs : List ℕ) (c d e : ℕ) → c < length rs → get_or rs c d ≡ get_or rs c e
read_any [] c d e h = absurd (omega (arith, h))
read_any (r ∷ rs) zero d e h = refl
read_any (r ∷ rs) (suc c) d e h = read_any rs c d e (omega (arith, h))

pub earlier : (rs : List ℕ) → IsStrictlyIncreasing rs → (c d e : ℕ) → c < length rs → d < length rs → get_or rs d e < get_or rs c e → d < c
earlier rs up c d e hc hd lt = ⊎_elim (λ h. h) (λ ge. absurd (wrong ge)) (cases_lt d c)
  where
    wrong : c ≤ d → ⊥
    wrong ge =
        let a = read_any rs c e 0 hc in
        let b = read_any rs d e 0 hd in
        ⊎_elim
        (λ below.
        let n : ℕ = d - suc c in
        let z : c + suc n ≡ d = omega (arith, below) in
        let up' : get_or rs c 0 < get_or rs d 0 = subst (λ k. get_or rs c 0 < get_or rs k 0) z (rise rs up c n (omega (arith, z, hd))) in
        omega (arith, up', a, b, lt))
        (λ same.
        let z : d ≡ c = omega (arith, same, ge) in
        let y = ap (λ k. get_or rs k e) z in omega (arith, y, lt))
        (cases_lt c d)

-- A replica and her sister.
module _ (t : TopologyValue) (books : List BookValue) (bag : List ChannelMessage) (w : model.World (List ℕ)) (stands : IsWorld t books bag w) (p r : ℕ) (there : is_replica t p r ≡ true)
    (place : ℕ) (at : place ≡ 2 * p + r) (b : BookValue) (read : b ≡ get_or books place b) (beside : ℕ) (next : beside ≡ 2 * p + model.sister r) (e : BookValue) (read_her : e ≡ get_or books beside e)
    (c : BookValue) (here : (d : ℕ) → d < length t.receivers → channel_from 0 t.receivers (receiving_iface t d) ≡ Some d) (rising : IsStrictlyIncreasing t.receivers)
    (there_iface : (d : ℕ) → d < length t.receivers → receiving_iface t d < length t.ifaces) (itself : IsReflexive same_octets) where
  abbrev x : model.Replica (List ℕ)
  x = w.replica p r

  abbrev y : model.Replica (List ℕ)
  y = w.replica p (model.sister r)

  sister_there : is_replica t p (model.sister r) ≡ true
  sister_there = go r (there_is t p r there).1 there
    where
      go : (r : ℕ) → r < 2 → is_replica t p r ≡ true → is_replica t p (model.sister r) ≡ true
      go zero h f = f
      go (suc zero) h f = f
      go (suc (suc r)) h f = absurd (omega (arith, h))

  abbrev is : IsReplicaOf t p r b x
  is = book_read t books bag w stands p r there place at b read

  abbrev her : IsReplicaOf t p (model.sister r) e y
  her = book_read t books bag w stands p (model.sister r) sister_there beside next e read_her

  abbrev told_her : KnowledgeValue
  told_her = record { digest = e.topology.digest; partition = e.partition; knows = e.knows }

  knows_x : x.knowledge ≡ knowledge_of t b.knows
  knows_x = ap (λ z. z.knowledge) (sym is.replica) ∙ ap (λ z. knowledge_of z b.knows) is.topology

  knows_y : y.knowledge ≡ knowledge_of t e.knows
  knows_y = ap (λ z. z.knowledge) (sym her.replica) ∙ ap (λ z. knowledge_of z e.knows) her.topology

  -- it is what a replica of the same partition knows
  pub ours : is_of b.topology b.partition told_her ≡ true
  ours =
      let parts : e.partition ≡ b.partition = her.partition ∙ sym is.partition in
      let digests : e.topology.digest ≡ b.topology.digest = ap (λ z. z.digest) (her.topology ∙ sym is.topology) in
      let counts : length e.knows ≡ length b.topology.receivers = her.count ∙ ap (λ z. length z.receivers) (sym is.topology) in
      all_three (same_octets e.topology.digest b.topology.digest) (e.partition == b.partition) (length e.knows == length b.topology.receivers)
      (ap (same_octets e.topology.digest) (sym digests) ∙ itself e.topology.digest) (grind (arith, nat_tests, parts)) (grind (arith, nat_tests, counts))
    where
      all_three : (f g h : Bool) → f ≡ true → g ≡ true → h ≡ true → (f && g && h) ≡ true
      all_three true true true ef eg eh = refl
      all_three false g h ef eg eh = absurd (let z : false ≡ true = ef in cc)
      all_three true false h ef eg eh = absurd (let z : false ≡ true = eg in cc)
      all_three true true false ef eg eh = absurd (let z : false ≡ true = eh in cc)

  -- of channels that do not come in both know nothing
  both_quiet : (d : ℕ) → is_incoming b d ≡ false → (slice_index_or b.knows d nothing_known ≡ nothing_known) × (slice_index_or e.knows d nothing_known ≡ nothing_known)
  both_quiet d out = (
    is.quiet d out,
    her.quiet d (subst (λ z. comes_in (net_of z) e.partition (receiving_iface z d) ≡ false) (is.topology ∙ sym her.topology)
        (subst (λ z. comes_in (net_of b.topology) z (receiving_iface b.topology d) ≡ false) (is.partition ∙ sym her.partition) out)),
  )

  abbrev fault_at : ℕ → Option accept.Answer
  fault_at d = join_fault same_octets (slice_index_or b.knows d nothing_known) (slice_index_or e.knows d nothing_known)

  nothing_clashes : (d : ℕ) → (is_incoming b d ≡ true → d < length b.knows → fault_at d ≡ None) → fault_at d ≡ None
  nothing_clashes d h = go (is_incoming b d) refl
    where
      go : (v : Bool) → is_incoming b d ≡ v → fault_at d ≡ None
      go true f = ⊎_elim (λ low. h f low) (λ high.
          let few : length e.knows ≤ d = let m = is.count in let n = her.count in omega (arith, high, m, n) in
          ap₂ (join_fault same_octets) (past_end b.knows d high) (past_end e.knows d few)) (cases_lt d (length b.knows))
      go false f = let q = both_quiet d f in ap₂ (join_fault same_octets) q.0 q.1

  -- there is no fault at an interface below which, and at which, channels can be joined
  no_fault_at : (i : ℕ) → ((d : ℕ) → receiving_iface t d ≡ i → is_incoming b d ≡ true → d < length b.knows → fault_at d ≡ None)
      → join_fault same_octets (knowledge_of t b.knows i) (knowledge_of t e.knows i) ≡ None
  no_fault_at i h = go (channel_from 0 t.receivers i) refl
    where
      go : (o : Option ℕ) → channel_from 0 t.receivers i ≡ o → join_fault same_octets (known_at b.knows o) (known_at e.knows o) ≡ None
      go None f = refl
      go (Some d) f = nothing_clashes d (h d (comes_at t i d f))

  some_fault : (f : KnowFault) → reason f ≢ None → (a : accept.Answer) × (reason f ≡ Some a)
  some_fault (fault.Gap n) h = (accept.Gap n, refl)
  some_fault (fault.Differs n) h = (accept.Differs n, refl)
  some_fault (fault.Late n) h = (accept.Late n, refl)
  some_fault fault.NotRising h = (accept.NotRising, refl)
  some_fault fault.Memory h = absurd (h refl)
  some_fault (fault.Contrary n) h = (accept.Contrary n, refl)

  merge_is : (o : Option (ℕ × accept.Answer)) → join_faults same_octets (knowledge_of t b.knows) (knowledge_of t e.knows) (net_of t).ifaces ≡ o
      → happens t w (step.Merge p r) ≡ model.merges w p r y.knowledge o
  merge_is o h =
      ap (λ z. cond z (model.merges w p r y.knowledge (join_faults same_octets x.knowledge y.knowledge (net_of t).ifaces)) (w, model.NoSuch)) (there_too t w p r true there)
      ∙ ap (model.merges w p r y.knowledge) (ap₂ (λ A B. join_faults same_octets A B (net_of t).ifaces) knows_x knows_y ∙ h)

  -- what is known after a merge
  joined_at : (i : ℕ) (after : List (Know (List ℕ))) → AreJoined b.topology b.partition b.knows e.knows after → knowledge_of t after i ≡ join (knowledge_of t b.knows i) (knowledge_of t e.knows i)
  joined_at i after h = go (channel_from 0 t.receivers i)
    where
      at_channel_of : (d : ℕ) → slice_index_or after d nothing_known ≡ join (slice_index_or b.knows d nothing_known) (slice_index_or e.knows d nothing_known)
      at_channel_of d = ⊎_elim (λ low. h.each d low ∙ choose (is_incoming b d) refl) (λ high.
          let few : length e.knows ≤ d = let m = is.count in let n = her.count in omega (arith, high, m, n) in
          let gone : length after ≤ d = let m = h.count in omega (arith, high, m) in
          past_end after d gone ∙ sym (ap₂ join (past_end b.knows d high) (past_end e.knows d few))) (cases_lt d (length b.knows))
        where
          choose : (v : Bool) → is_incoming b d ≡ v
              → (if is_incoming b d then join (slice_index_or b.knows d nothing_known) (slice_index_or e.knows d nothing_known) else slice_index_or b.knows d nothing_known)
              ≡ join (slice_index_or b.knows d nothing_known) (slice_index_or e.knows d nothing_known)
          choose true f = ap (λ z. if z then join (slice_index_or b.knows d nothing_known) (slice_index_or e.knows d nothing_known) else slice_index_or b.knows d nothing_known) f
          choose false f =
              let q = both_quiet d f in
              ap (λ z. if z then join (slice_index_or b.knows d nothing_known) (slice_index_or e.knows d nothing_known) else slice_index_or b.knows d nothing_known) f
              ∙ q.0 ∙ sym (ap₂ join q.0 q.1)

      go : (o : Option ℕ) → known_at after o ≡ join (known_at b.knows o) (known_at e.knows o)
      go None = refl
      go (Some d) = at_channel_of d

  merged_book : (after : List (Know (List ℕ))) → AreJoined b.topology b.partition b.knows e.knows after → c ≡ record b { knows = after }
      → IsReplicaOf t p r c (record { knowledge = join_all x.knowledge y.knowledge; ran = x.ran })
  merged_book after h same = subst (λ z. IsReplicaOf t p r z (record { knowledge = join_all x.knowledge y.knowledge; ran = x.ran })) (sym same) (record {
    topology = is.topology;
    partition = is.partition;
    number = is.number;
    replica =
        ap₂ (λ K k. record { knowledge = K; ran = k })
        (ap (λ z. knowledge_of z after) is.topology ∙ fun_ext (λ i. joined_at i after h) ∙ ap₂ join_all (sym knows_x) (sym knows_y))
        (ap (λ z. z.ran) is.replica);
    handed = is.handed;
    count = h.count ∙ is.count;
    quiet = λ d out. ⊎_elim (λ low. h.each d low ∙ ap (λ z. if z then join (slice_index_or b.knows d nothing_known) (slice_index_or e.knows d nothing_known) else slice_index_or b.knows d nothing_known) out ∙ is.quiet d out)
        (λ high. past_end after d (let m = h.count in omega (arith, high, m))) (cases_lt d (length b.knows));
  })

  -- nothing changed
  as_before : c ≡ b → IsWorld t (slice_set books place c) bag w
  as_before same = unchanged_at t books bag w stands p r there place at b c read same

  pub merge_steps : (result : Result Unit (Fault MergeRefusal)) → BookMerges b c told_her result → Steps t w (step.Merge p r) (merge_answer_of result) (slice_set books place c) bag
  merge_steps (Ok u) h =
      let none : join_faults same_octets (knowledge_of t b.knows) (knowledge_of t e.knows) (net_of t).ifaces ≡ None =
      no_faults t b.knows e.knows here (net_of t).ifaces (λ i low. no_fault_at i (λ d at_i comes below. h.merges.1 d below comes)) in
      step_done t w (step.Merge p r) (slice_set books place c) bag _ model.Merged told.Merged (merge_is None none) refl
      (with_book t books bag w stands p r there place at b c read _ (merged_book c.knows h.merges.2 h.same))
  merge_steps (Err (unmerged.Refused refusal.Stranger)) h = absurd (let z : true ≡ false = sym ours ∙ h.merges.0 in cc)
  merge_steps (Err unmerged.Memory) h = as_before (h.same ∙ ap (λ z. record b { knows = z }) h.merges.2)
  merge_steps (Err (unmerged.Refused (refusal.Channel d f))) h =
      let first = h.merges.1 in
      let within : d < length t.receivers = let n = is.count in let l = first.there in omega (arith, n, l) in
      let some = some_fault f (λ none. first.refused (first.shown ∙ none)) in
      let i = receiving_iface t d in
      let known_i : knowledge_of t b.knows i ≡ slice_index_or b.knows d nothing_known = known_here t b.knows d (here d within) in
      let other_i : knowledge_of t e.knows i ≡ slice_index_or e.knows d nothing_known = known_here t e.knows d (here d within) in
      let shown : join_fault same_octets (knowledge_of t b.knows i) (knowledge_of t e.knows i) ≡ Some some.0 = ap₂ (join_fault same_octets) known_i other_i ∙ first.shown ∙ some.1 in
      let low : i < (net_of t).ifaces = let n = ifaces_are t in let l = there_iface d within in omega (arith, n, l) in
      let fault_is = one_fault t b.knows e.knows here (net_of t).ifaces i some.0 low shown (λ j less. no_fault_at j (λ k at_j comes below.
      first.before k (earlier t.receivers rising d k (length t.ifaces) within (let n = is.count in omega (arith, n, below)) (let l = at_j in omega (arith, l, less))) comes)) in
      step_done t w (step.Merge p r) (slice_set books place c) bag w (model.MergeRefused i some.0) (told.MergeRefused d f) (merge_is (Some (i, some.0)) fault_is)
      (ap (option_map (model.MergeRefused i)) some.1)
      (as_before (h.same ∙ ap (λ z. record b { knows = z }) h.merges.2))

-- where her sister stands
pub beside_zero : (p r place n : ℕ) → place ≡ 2 * p + r → r ≡ 0 → n ≡ place + 1 → n ≡ 2 * p + model.sister r
beside_zero p zero place n at e f = omega (arith, at, f)
beside_zero p (suc r) place n at e f = absurd (omega (arith, e))

pub beside_one : (p r place n : ℕ) → place ≡ 2 * p + r → r < 2 → (r ≡ 0 → ⊥) → n ≡ place - 1 → n ≡ 2 * p + model.sister r
beside_one p zero place n at two e f = absurd (e refl)
beside_one p (suc zero) place n at two e f = omega (arith, at, f)
beside_one p (suc (suc r)) place n at two e f = absurd (omega (arith, two))

-- there is no such replica
pub no_merge : (t : TopologyValue) (books : List BookValue) (bag : List ChannelMessage) (w : model.World (List ℕ)) → IsWorld t books bag w → (p r : ℕ) → is_replica t p r ≡ false
    → Steps t w (step.Merge p r) (Err stop.NoSuch) books bag
no_merge t books bag w stands p r lacks =
    step_names_nothing t w (step.Merge p r) books bag
    (ap (λ z. cond z (model.merges w p r (w.replica p (model.sister r)).knowledge (join_faults same_octets (w.replica p r).knowledge (w.replica p (model.sister r)).knowledge (net_of t).ifaces)) (w, model.NoSuch)) (there_too t w p r false lacks)) stands

pub no_restart : (t : TopologyValue) (books : List BookValue) (bag : List ChannelMessage) (w : model.World (List ℕ)) → IsWorld t books bag w → (p r : ℕ) → is_replica t p r ≡ false
    → Steps t w (step.Restart p r) (Err stop.NoSuch) books bag
no_restart t books bag w stands p r lacks =
    step_names_nothing t w (step.Restart p r) books bag (ap (λ z. cond z (model.put_replica w p r model.fresh, model.Emptied) (w, model.NoSuch)) (there_too t w p r false lacks)) stands

-- a replica made anew
pub fresh_book : (t : TopologyValue) (p r : ℕ) (b : BookValue)
    → b ≡ record { topology = t; partition = p; replica = r; knows = replicate (length t.receivers) nothing_known; events = 0; handed = 0 } → IsReplicaOf t p r b model.fresh
fresh_book t p r b e = subst (λ z. IsReplicaOf t p r z model.fresh) (sym e) (record {
  topology = refl;
  partition = refl;
  number = refl;
  replica = ap (λ K. record { knowledge = K; ran = 0 }) (is_nothing t (length t.receivers));
  handed = refl;
  count = length-replicate (length t.receivers) nothing_known;
  quiet = λ c out. nothing_at (length t.receivers) c;
})

pub restart_steps : (t : TopologyValue) (books : List BookValue) (bag : List ChannelMessage) (w : model.World (List ℕ)) → IsWorld t books bag w → (p r : ℕ) → is_replica t p r ≡ true
    → (place : ℕ) → place ≡ 2 * p + r → (b : BookValue)
    → b ≡ record { topology = t; partition = p; replica = r; knows = replicate (length t.receivers) nothing_known; events = 0; handed = 0 }
    → Steps t w (step.Restart p r) (Ok told.Emptied) (slice_set books place b) bag
restart_steps t books bag w stands p r there place at b e =
    step_done t w (step.Restart p r) (slice_set books place b) bag (model.put_replica w p r model.fresh) model.Emptied told.Emptied
    (ap (λ z. cond z (model.put_replica w p r model.fresh, model.Emptied) (w, model.NoSuch)) (there_too t w p r true there)) refl
    (subst (λ z. IsWorld t (slice_set books z b) bag (model.put_replica w p r model.fresh)) (sym at) (put_book t books bag w stands p r there b model.fresh (fresh_book t p r b e)))

-- Texts that are written step by step.
use Rattle.std.proofs.Common.{◌≡◌, ℕ, suc, ◌+◌, ◌<◌, ◌≤◌, min, take, length, List, ◌++◌, refl, sym, ap, subst, ◌∙◌, arith, ⊎_elim, length-append}
use Rattle.std.proofs.Math.Seq.{take-append-add}
use Rattle.std.proofs.lemmas.Bool.{cases_lt}
use Rattle.std.specs.Io.KnownBytes.{Appends}
use Rattle.nm_base.specs.Sink.{SinkSeen}
use Rattle.nm_base.proofs.Sinks.{Appends-append}
use Rattle.nm_base.specs.Sink.{WroteAll, WrotePrefix}
use Rattle.nm_series.specs.Steps.{AreAllSteps, AreSteps, step_time}

module _ (Is : (from until : ℕ) → List ℕ → Type 0) (head : List ℕ) (step stop : ℕ) where
  -- the first so many steps were written, up to this time
  pub record Going (first sink : SinkSeen) (time : ℕ) : Type 0 where
    pub steps : ℕ
    pub octets : List ℕ
    pub told : AreSteps Is head step stop steps octets
    pub wrote : WroteAll first sink octets
    pub at : step_time step stop steps ≡ time
    pub each : (k : ℕ) → k < steps → step_time step stop k < stop

  pub begins : (first sink : SinkSeen) (time : ℕ) → WroteAll first sink head → time ≡ 0 → Going first sink time
  begins first sink time wrote start = record {
    steps = 0;
    octets = head;
    told = refl;
    wrote = wrote;
    at = sym start;
    each = λ k low. absurd (omega (arith, low));
  }

  -- the text of one step more
  one_more : (first sink : SinkSeen) (time next : ℕ) (text : List ℕ) (g : Going first sink time) → next ≡ min (time + step) stop → Is time next text
      → AreSteps Is head step stop (suc g.steps) (g.octets ++ text)
  one_more first sink time next text g is made =
      let end : step_time step stop (suc g.steps) ≡ next = ap (λ u. min (u + step) stop) g.at ∙ sym is in
      (g.octets, text, g.told, subst (λ u. Is u (step_time step stop (suc g.steps)) text) (sym g.at) (subst (λ u. Is time u text) (sym end) made), refl)

  pub goes_on : (first sink after : SinkSeen) (time next : ℕ) (text : List ℕ) → Going first sink time → time < stop → next ≡ min (time + step) stop → Is time next text
      → WroteAll sink after text → Going first after next
  goes_on first sink after time next text g early is made wrote = record {
    steps = suc g.steps;
    octets = g.octets ++ text;
    told = one_more first sink time next text g is made;
    wrote = record {
      whole = Appends-append first.taken sink.taken after.taken g.octets text g.wrote.whole wrote.whole;
      no_fault = wrote.no_fault ∙ g.wrote.no_fault;
    };
    at = ap (λ u. min (u + step) stop) g.at ∙ sym is;
    each = λ k low. ⊎_elim
        (λ l. g.each k l)
        (λ o. let same : g.steps ≡ k = omega (arith, o, low) in subst (λ j. step_time step stop j < stop) same (subst (λ u. u < stop) (sym g.at) early))
        (cases_lt k g.steps);
  }

  pub is_over : (first sink : SinkSeen) (time : ℕ) → Going first sink time → stop ≤ time → time ≤ stop
      → (octets : List ℕ) × AreAllSteps Is head step stop octets × WroteAll first sink octets
  is_over first sink time g over within =
      let end : time ≡ stop = omega (arith, over, within) in
      (g.octets, record { count = g.steps; each = g.each; over = g.at ∙ end; steps = g.told }, g.wrote)

  pub is_cut : (first sink after : SinkSeen) (time next : ℕ) (text : List ℕ) → Going first sink time → next ≡ min (time + step) stop → Is time next text
      → WrotePrefix sink after text
      → (steps : ℕ) × (octets : List ℕ) × AreSteps Is head step stop steps octets × WrotePrefix first after octets
  is_cut first sink after time next text g is made cut = (
    suc g.steps,
    g.octets ++ text,
    one_more first sink time next text g is made,
    record {
      part = length g.octets + cut.part;
      short = let h = cut.short in let l = length-append g.octets text in omega (arith, h, l);
      front = subst (λ l. Appends first.taken after.taken l) (sym (take-append-add g.octets text cut.part))
          (Appends-append first.taken sink.taken after.taken g.octets (take cut.part text) g.wrote.whole cut.front);
      fault = cut.fault ∙ ap (λ n. n + 1) g.wrote.no_fault;
    },
  )

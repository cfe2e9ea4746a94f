-- What a run adds to a trace.
use Rattle.std.proofs.Common.{◌≡◌, ◌≤◌, ◌++◌, ℕ, List, drop, length, sym, ◌∙◌, ap, subst, arith}
use Rattle.std.proofs.lemmas.List.{drop_at}
use Rattle.nm_base.specs.declared.record.Record.{Record}
use Rattle.nm_model.specs.Lists.{IsPrefix}
use Rattle.nm_model.specs.Knowledge.{Knowledge}
use Rattle.nm_topology.specs.TopologyValue.{TopologyValue}
use Rattle.nm_book.specs.Book.{BookValue, knowledge, state_of}
use Rattle.nm_book.specs.Running.{HasRun}
use Rattle.nm_book.specs.declared.running.Ran.{Ran}
use Rattle.nm_book.specs.declared.running.Ran.TheVariants.{All, Limit, Memory}
use Rattle.nm_certify.specs.Certify.{HasDoneAll}
use Rattle.nm_certify.specs.Checking.{HasRanAll}

-- no event is undone
pub ran_on : (t : TopologyValue) (p : ℕ) (K : Knowledge (List ℕ)) (limit k m : ℕ) (ran : Ran) → HasRun t p K limit (k, m) ran → k ≤ m
ran_on t p K limit k m (All n) h = let is = h.0 in omega (arith, is)
ran_on t p K limit k m (Limit n) h = let is = h.0 in omega (arith, is)
ran_on t p K limit k m (Memory n) h = let is = h.0 in omega (arith, is)

-- what a run did
pub ran_all : (old new : BookValue) (limit : ℕ) (ran : Ran) → HasRun old.topology old.partition (knowledge old) limit (old.events, new.events) ran → new ≡ record old { events = new.events } → HasRanAll new ran
ran_all old new limit (All n) run same = subst HasDoneAll (sym same) run.2
ran_all old new limit (Limit n) run same = tt
ran_all old new limit (Memory n) run same = tt

-- is done as well once records are handed out
pub still_all : (old new : BookValue) (handed : ℕ) (ran : Ran) → new ≡ record old { handed = handed } → HasRanAll old ran → HasRanAll new ran
still_all old new handed (All n) same all = subst HasDoneAll (sym same) all
still_all old new handed (Limit n) same all = tt
still_all old new handed (Memory n) same all = tt

-- what a run added was handed out
pub all_handed : (old ran new : BookValue) (handed : ℕ) (kept shown : List (Record (List ℕ))) → old.handed ≡ length (state_of old).records → ran ≡ record old { events = ran.events }
    → IsPrefix (state_of old).records (state_of ran).records → kept ≡ drop ran.handed (state_of ran).records → new ≡ record ran { handed = handed } → shown ≡ kept
    → (state_of old).records ++ shown ≡ (state_of new).records
all_handed old ran new handed kept shown all ran_is begins out new_is same =
    let before = (state_of old).records in
    let count : length before ≡ ran.handed = sym (ap {A = BookValue} (λ b. b.handed) ran_is ∙ all) in
    ap (λ l. before ++ l) (same ∙ out ∙ ap (drop ran.handed) (sym begins.1) ∙ drop_at before begins.0 ran.handed count) ∙ begins.1
    ∙ ap (λ (b : BookValue). (state_of b).records) (sym new_is)

-- a book that ran on is the same in all else
pub still_same : (a b c : BookValue) → b ≡ record a { events = b.events; handed = b.handed } → c ≡ record b { events = c.events; handed = c.handed }
    → c ≡ record a { events = c.events; handed = c.handed }
still_same a b c first next = next ∙ ap (λ (z : BookValue). record z { events = c.events; handed = c.handed }) first

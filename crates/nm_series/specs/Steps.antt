-- The steps of a run: each begins where the last one ended, and the last one ends at `stop`.
use Rattle.std.specs.Prelude.{◌≡◌, ℕ, zero, suc, ◌+◌, ◌/◌, ◌-◌, ◌<◌, min, List, ◌++◌}

-- the begin of step k, and the end of step k - 1, in nanoseconds
abbrev pub step_time : (step stop : ℕ) → ℕ → ℕ
step_time step stop zero = 0
step_time step stop (suc k) = min (step_time step stop k + step) stop

-- how many steps there are: the last one may be shorter
abbrev pub steps_in : (step stop : ℕ) → ℕ
steps_in step stop = (stop + (step - 1)) / step

module _ (Is : (from until : ℕ) → List ℕ → Type 0) (head : List ℕ) (step stop : ℕ) where
  -- the head, and behind it the texts of the first k steps, one after another
  abbrev pub AreSteps : ℕ → List ℕ → Type 0
  AreSteps zero octets = octets ≡ head
  AreSteps (suc k) octets =
      (front : List ℕ) × (last : List ℕ) × AreSteps k front
      × Is (step_time step stop k) (step_time step stop (suc k)) last
      × (octets ≡ front ++ last)

  -- of all steps up to stop
  pub record AreAllSteps (octets : List ℕ) : Type 0 where
    pub count : ℕ
    pub each : (k : ℕ) → k < count → step_time step stop k < stop
    pub over : step_time step stop count ≡ stop
    pub steps : AreSteps count octets

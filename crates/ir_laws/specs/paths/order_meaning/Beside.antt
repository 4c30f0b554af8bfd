-- Lemmas on beside, that speak of no pass.
use Rattle.std.specs.Prelude.{◌≡◌, ℕ, length}
use Rattle.run_laws.specs.run_step.Values.{Env, value_in}
use Rattle.run_laws.specs.run_step.declared.world.Slot.{Slot}

-- each name has its value at the name to which it goes
pub record AreMoved (to : ℕ → ℕ) (k l : ℕ) (vs ws : Env) : Type 0 where
  pub each : (v : ℕ) → value_in ws (to v) ≡ value_in vs v
  pub wide : length vs ≡ k
  pub other : length ws ≡ l

abbrev pub moved_slot : (ℕ → ℕ) → Slot → Slot
moved_slot to s = record { alloca = to s.alloca; block = s.block }

-- In each state of a source run live slots may be alive, and of one in which a resume hands on their addresses.
use Rattle.std.proofs.Common.{◌≡◌, ℕ, Bool, true, List, refl, subst, sym}
use Rattle.pass_renewed_proof.specs.ir_base.declared.outcome.Word.{Word}
use Rattle.pass_renewed_proof.specs.ir_model.Names.{function_at}
use Rattle.pass_renewed_proof.specs.ir_model.declared.operand.Intrinsic.{Intrinsic}
use Rattle.pass_renewed_proof.specs.ir_paths.declared.point.Point.{Point}
use Rattle.pass_renewed_proof.proofs.pass_kept_proof.Same.{kept_at}
use Rattle.pass_renewed_proof.specs.pass_kept_proof.Kept.{Keep, continue_keeping, kept}
use Rattle.pass_renewed_proof.specs.pass_kept_proof.SuspendRules.{IsCallAt}
use Rattle.run_hooks.proofs.Keeping.{kept_keeps, source_keeps}
use Rattle.run_hooks.proofs.Left.{states_last}
use Rattle.run_hooks.proofs.LeftKeeping.{kept_keeps_last, source_keeps_last}
use Rattle.run_hooks.proofs.PlacedKeeping.{kept_keeps_placed, source_keeps_placed}
use Rattle.run_hooks.proofs.PlacedSteps.{first_placed}
use Rattle.run_hooks.proofs.Reaching.{first_reached}
use Rattle.run_hooks.proofs.Steps.{same_runs, source_step}
use Rattle.run_hooks.proofs.alive.Says.{kept_less}
use Rattle.run_hooks.proofs.alive.Steps.{first_alive, states_alive}
use Rattle.run_hooks.specs.Away.{KeepsAllPlaceRules}
use Rattle.run_hooks.specs.Hooks.{step_of}
use Rattle.run_hooks.specs.Meanings.{kept_hooks, source_hooks}
use Rattle.run_hooks.specs.Reached.{AllHaveSwitches}
use Rattle.run_hooks.specs.alive.Alive.{IsAliveState, KeepsAllAliveRules}
use Rattle.pass_renewed_proof.specs.run_source.Source.{continue, first_state, state_at, step, step_by}
use Rattle.pass_renewed_proof.specs.run_source_tables.Given.{Given}
use Rattle.pass_renewed_proof.specs.run_step.Runs.{iterate}

pub source_alive : (g : Given) (counts : ℕ → ℕ → Bool) (entry : ℕ) (args : List Word) (n : ℕ) → KeepsAllAliveRules g
    → KeepsAllPlaceRules g → AllHaveSwitches g.code → IsAliveState g.code counts (state_at g entry args n)
source_alive g counts entry args n rules places ok =
    let e = same_runs (step g) (step_of (source_hooks g)) (source_step g (continue g)) n
    (first_state g.code entry args) in
    subst (IsAliveState g.code counts) (sym e)
    (states_alive g counts (λ func u values. values) (record {
      kept = λ func u values v b k. k;
      handed = λ func u values v suspend made counted. refl;
    }) rules places ok (source_keeps g) (source_keeps_last g) (source_keeps_placed g) n (first_state g.code entry args)
    (record {
      alive = first_alive g counts entry args;
      reached = first_reached g entry args;
      last = states_last (source_hooks g) (source_keeps_last g) entry args 0;
      placed = first_placed (source_hooks g) places entry args;
    })).alive

pub kept_alive : (g : Given) (keep : Keep) (counts : ℕ → ℕ → Bool)
    → ((func : ℕ) (u : Point) (v : ℕ) → IsCallAt Intrinsic.CoroSuspend (function_at g.code func) u
    → counts func v ≡ true → keep func u v ≡ true)
    → (entry : ℕ) (args : List Word) (n : ℕ) → KeepsAllAliveRules g → KeepsAllPlaceRules g → AllHaveSwitches g.code
    → IsAliveState g.code counts (iterate (step_by g (continue_keeping g keep)) n (first_state g.code entry args))
kept_alive g keep counts keeps entry args n rules places ok =
    let e = same_runs (step_by g (continue_keeping g keep)) (step_of (kept_hooks g keep))
    (source_step g (continue_keeping g keep)) n (first_state g.code entry args) in
    subst (IsAliveState g.code counts) (sym e)
    (states_alive g counts (λ func u values. kept (keep func u) values) (record {
      kept = λ func u values v b k. kept_less (keep func u) values v b k;
      handed = λ func u values v suspend made counted. kept_at (keep func u) values v (keeps func u v suspend counted);
    }) rules places ok (kept_keeps g keep) (kept_keeps_last g keep) (kept_keeps_placed g keep) n
    (first_state g.code entry args)
    (record {
      alive = first_alive g counts entry args;
      reached = first_reached g entry args;
      last = states_last (kept_hooks g keep) (kept_keeps_last g keep) entry args 0;
      placed = first_placed (kept_hooks g keep) places entry args;
    })).alive

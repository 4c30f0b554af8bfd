use Rattle.run_hooks.proofs.alive.Says.{goes_on, may_be_alive}
use Rattle.run_hooks.proofs.alive.Runs.{kept_alive, source_alive}
use Rattle.run_hooks.proofs.alive.Steps.{first_alive, step_alive}
use Rattle.run_hooks.proofs.alive.live_slots_may_be_alive.Goals as goal

pub returns-clause-first : goal.returns-clause-first
returns-clause-first c = λ g counts entry args. first_alive g counts entry args

pub returns-clause-step : goal.returns-clause-step
returns-clause-step c =
    λ g counts hand hands rules places ok s h reached last placed.
    step_alive (record {
      hands = hands;
      rules = rules;
      places = places;
      ok = ok;
      alive = h;
      reached = reached;
      last = last;
      placed = placed;
    })

pub returns-clause-source : goal.returns-clause-source
returns-clause-source c = λ g counts entry args n rules places ok. source_alive g counts entry args n rules places ok

pub returns-clause-suspended : goal.returns-clause-suspended
returns-clause-suspended c =
    λ m counts s h i n x u values slot there status at live counted.
    let alive = ((h.instances i x there).asleep u values status).alive in
    may_be_alive (counts x.coroutine) s.world.memory _ values u x alive n slot at live counted

pub returns-clause-kept : goal.returns-clause-kept
returns-clause-kept c =
    λ g keep counts keeps entry args n rules places ok. kept_alive g keep counts keeps entry args n rules places ok

pub returns-clause-running : goal.returns-clause-running
returns-clause-running c = λ m counts s h i x there running kept. goes_on m counts s h i x there running kept

pub returns-clause-alive : goal.returns-clause-alive
returns-clause-alive c =
    λ counts memory f values p x h n slot at live counted. may_be_alive counts memory f values p x h n slot at live
    counted

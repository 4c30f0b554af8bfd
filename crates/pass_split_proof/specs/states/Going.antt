-- Where the topmost activations of both runs go on.
use Rattle.std.specs.Prelude.{ℕ, Bool, List, Option}
use Rattle.pass_proofs.specs.run_memory.declared.pointer.Value.{Value}
use Rattle.run_access_worked.specs.run_plain.Plain.{plain_given_back}
use Rattle.run_access_worked.specs.run_plain.declared.state.PlainActivation.{PlainActivation}
use Rattle.run_access_worked.specs.run_plain.declared.state.PlainState.{PlainState}
use Rattle.pass_proofs.specs.run_source.Source.{given_back}
use Rattle.pass_proofs.specs.run_source.declared.state.Activation.{Activation}
use Rattle.pass_proofs.specs.run_source.declared.state.Instance.{Instance}
use Rattle.pass_proofs.specs.run_source.declared.state.State.{State}
use Rattle.pass_proofs.specs.run_step.Step.{Work, without_slots}
use Rattle.pass_proofs.specs.run_step.Values.{Env}
use Rattle.pass_proofs.specs.run_step.declared.world.World.{World}

-- an activation at a place, with other values, which has left or hasn't
abbrev pub moved_to : Activation → ℕ → ℕ → Env → Bool → Activation
moved_to a block at values left = record a { block = block; at = at; values = values; has_left = left }

-- the framed run with another world, other instances and its topmost activation there
abbrev pub goes_to : State → World → List Instance → ℕ → ℕ → Env → Bool → State
goes_to s w xs block at values left = record s { world = w; instances = xs; top = moved_to s.top block at values left }

-- the part's activation at a place, with other values
abbrev pub placed_at : PlainActivation → ℕ → ℕ → Env → PlainActivation
placed_at b block at values = record b { block = block; at = at; values = values }

-- the parts' run there
abbrev pub stands_at : PlainState → ℕ → ℕ → Work → PlainState
stands_at t block at y = record t { world = y.world; top = placed_at t.top block at y.values }

-- ---- returns

-- the topmost activation has returned to one, its slots have died, and these are below
abbrev pub returned_to : State → Activation → Option Value → List Activation → State
returned_to s a v below =
    record s {
      world = record s.world { memory = without_slots s.world.memory s.top.slots };
      top = given_back a
          s.top.result v;
      below = below;
    }

abbrev pub plain_returned_to : PlainState → PlainActivation → Option Value → List PlainActivation → PlainState
plain_returned_to t b v below =
    record t {
      world = record t.world { memory = without_slots t.world.memory t.top.slots };
      top = plain_given_back b
          t.top.result v;
      below = below;
    }

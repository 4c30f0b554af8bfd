-- Offsets of 64 bits in the states of the first run.
use Rattle.std.specs.Prelude.{ℕ}
use Rattle.run_types.specs.pass_kept_proof.Machines.{kept_machine}
use Rattle.run_types.specs.run_agreement.Machines.{state_at}
use Rattle.run_types.specs.run_source.declared.state.State.{State}
use Rattle.run_types.specs.run_step.Values.{value_in}
use Rattle.pass_renewed_meaning.specs.Rules.{Setting}
use Rattle.run_types.specs.pass_renewed_proof.Small.{HasSmallOffset}

-- a state of the first run
abbrev pub first_at : Setting → ℕ → State
first_at c n = state_at (kept_machine c.code c.keep c.sizes c.entry c.args c.answers) n

-- the values of the topmost activation have such offsets
abbrev pub AreOffsetsSmall : Setting → Type 0
AreOffsetsSmall c = (n v : ℕ) → HasSmallOffset (value_in (first_at c n).top.values v)

-- In the framed run of an accepted source names of slots lead to them before begin.
use Rattle.std.proofs.Common.{◌≡◌, ℕ, List, [], ◌∷◌, Option}
use Rattle.compiler_theorem.proofs.temporaries.Rules.{framed_own}
use Rattle.compiler_theorem.proofs.theorem.Stepping.{gives_no_frames}
use Rattle.compiler_theorem.proofs.woken.FramedRuns.{own}
use Rattle.compiler_theorem.proofs.woken.States.{none_given}
use Rattle.compiler_theorem.specs.theorem.Anew.{Anew, IsAnewOf}
use Rattle.compiler_theorem.specs.theorem.Built.{building}
use Rattle.compiler_theorem.specs.theorem.Entries.{IsEntryCall, Run}
use Rattle.compiler_theorem.specs.theorem.Lowered.{IsLowered, Lowered, early}
use Rattle.compiler.specs.ir_base.declared.outcome.Outcome.{Outcome}
use Rattle.compiler.specs.ir_model.declared.module.Module.{Module}
use Rattle.pass_frames_meaning.proofs.owned.Framed.{framed_led}
use Rattle.pass_frames_meaning.specs.Owned.{AreGivenApart}
use Rattle.pass_frames_meaning.specs.pass_frames_proof.Temporaries.{HasLedSlots}
use Rattle.pass_split_proof.specs.own_blocks.Own.{AreOwnBelow}
use Rattle.compiler.specs.run_framed.Framed.{FramedGiven, framed_state_at}
use Rattle.compiler.specs.run_memory.declared.block.MemoryBlock.{MemoryBlock}
use Rattle.compiler.specs.run_source.declared.state.Activation.{Activation}

-- the names that calls set are no allocas'
below_apart : (m : Module) (memory : List MemoryBlock) (result : Option ℕ) (below : List Activation)
    → AreOwnBelow m memory result below → AreGivenApart m result below
below_apart m memory result [] k = tt
below_apart m memory result (a ∷ below) k = (
  λ v made e. k.1 made.at v (record { ty = made.ty; align = made.align; there = made.stands }) e,
  below_apart m memory a.result below k.2,
)

module _ (l : Lowered) (low : IsLowered l) (a : Anew) (anew : IsAnewOf (early l) a) (r : Run)
    (entered : IsEntryCall l.source r) where
  abbrev h : FramedGiven
  h = (building l low.is_framed r.answers).given

  pub apart : (n : ℕ) → AreGivenApart l.framed (framed_state_at h r.entry r.args n).top.result
      (framed_state_at h r.entry r.args n).below
  apart n =
      below_apart l.framed (framed_state_at h r.entry r.args n).world.memory
      (framed_state_at h r.entry r.args n).top.result (framed_state_at h r.entry r.args n).below
      (own l low a anew r entered n).below

  pub slots_led : (n : ℕ)
      → (framed_state_at (building l low.is_framed r.answers).given r.entry r.args n).outcome ≡ Outcome.Running
      → HasLedSlots (framed_state_at (building l low.is_framed r.answers).given r.entry r.args n)
  slots_led n runs =
      framed_led h (none_given h (gives_no_frames l low)) (framed_own l low) r.entry r.args apart n runs

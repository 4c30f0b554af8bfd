-- Addresses that suspended instances of a source's run keep have offsets of 64 bits.
use Rattle.std.proofs.Common.{◌≡◌, ℕ, zero, suc, true, List, [], ◌∷◌, map, refl, subst}
use Rattle.compiler_theorem.specs.theorem.Entries.{Run}
use Rattle.compiler_theorem.specs.theorem.KeptFields.{KeepSmallOffsets}
use Rattle.compiler_theorem.specs.theorem.Lowered.{Lowered, sizes_of, source_run}
use Rattle.compiler.specs.ir_base.declared.outcome.Word.{Word}
use Rattle.compiler.specs.ir_model.Names.{function_at}
use Rattle.compiler.specs.ir_model.declared.module.GlobalItem.{GlobalItem}
use Rattle.compiler.specs.ir_model.declared.module.Module.{Module}
use Rattle.compiler.specs.pass_kept_proof.Kept.{Keep, continue_keeping, kept}
use Rattle.pass_frames_meaning.proofs.pass_renewed_meaning.OffsetBytes.{HaveSmall, encoded}
use Rattle.pass_frames_meaning.proofs.pass_renewed_meaning.OffsetRuns.{step_small}
use Rattle.pass_frames_meaning.proofs.pass_renewed_meaning.OffsetSteps.{IsSmallState, IsSmallStatus, there}
use Rattle.pass_frames_meaning.proofs.pass_renewed_meaning.OffsetValues.{AllSmall, entry_small, stored_small}
use Rattle.pass_frames_meaning.proofs.pass_renewed_meaning.OrdinaryCases.{small_operand}
use Rattle.pass_frames_meaning.specs.pass_renewed_proof.Small.{HasSmallOffset}
use Rattle.compiler.specs.run_agreement.Machines.{iterate, state_at}
use Rattle.compiler.specs.run_memory.Memory.{access_bytes}
use Rattle.compiler.specs.run_memory.declared.pointer.Value.{Value}
use Rattle.compiler.specs.run_source.Source.{Continues, continue, first_state, given, step_by}
use Rattle.compiler.specs.run_source.declared.state.State.{State}
use Rattle.compiler.specs.run_source_tables.Given.{Given}
use Rattle.compiler.specs.run_step.Step.{global_block}
use Rattle.compiler.specs.run_step.Values.{Env, access_of, operand_value, stored}

-- ---- where all is handed on, the run is the source's

abbrev all : Keep
all func suspend v = true

all_kept : (env : Env) → kept (λ v. true) env ≡ env
all_kept [] = refl
all_kept (v ∷ env) = λ j. v ∷ all_kept env j

continues : (g : Given) → continue_keeping g all ≡ continue g
continues g = λ j. λ s i x suspend values label. continue g s i x suspend (all_kept values j) label

-- ---- the start

words_small : (args : List Word) → AllSmall (map Value.Int args)
words_small [] = tt
words_small (w ∷ args) = (tt, words_small args)

globals_small : (m : Module) (gs : List GlobalItem) → HaveSmall (map (global_block m) gs)
globals_small m [] = tt
globals_small m (x ∷ gs) = (
  encoded (access_bytes (access_of x.ty)) (stored (access_of x.ty) (operand_value m [] x.ty x.init))
      (stored_small (access_of x.ty) (operand_value m [] x.ty x.init) (small_operand m [] (λ v. tt) x.ty x.init)),
  globals_small m gs,
)

first_small : (m : Module) (entry : ℕ) (args : List Word) → IsSmallState (first_state m entry args)
first_small m entry args = record {
  memory = globals_small m m.globals;
  top = entry_small (function_at m entry) (map Value.Int args) (words_small args);
  below = tt;
  instances = tt;
}

-- ---- a run

run_small : (g : Given) (n : ℕ) (s : State) → IsSmallState s
    → IsSmallState (iterate (step_by g (continue_keeping g all)) n s)
run_small g zero s h = h
run_small g (suc n) s h = run_small g n (step_by g (continue_keeping g all) s) (step_small g all s h)

module _ (l : Lowered) (r : Run) (n : ℕ) where
  abbrev g : Given
  g = given l.source (sizes_of l) r.answers

  state_small : IsSmallState (state_at (source_run l r) n)
  state_small = subst (λ (c : Continues).
      IsSmallState (iterate (step_by g c) n (first_state l.source r.entry r.args))) (continues g)
      (run_small g n (first_state l.source r.entry r.args) (first_small l.source r.entry r.args))

  pub small_offsets : KeepSmallOffsets (state_at (source_run l r) n)
  small_offsets i x p values v at o is status address =
      let own = (there (state_at (source_run l r) n) state_small i x is).status in
      subst HasSmallOffset address (subst IsSmallStatus status own v)

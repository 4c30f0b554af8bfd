-- An instruction of a framed function that stands in one of its parts too, and what it may read there.
use Rattle.std.specs.Prelude.{ℕ}
use Rattle.pass_proofs.specs.ir_model.declared.instr.Instr.{Instr}
use Rattle.pass_proofs.specs.ir_model.declared.module.Function.{Function}
use Rattle.pass_split_proof.specs.steps.Done.{part_maps}
use Rattle.pass_split_proof.specs.steps.Operands.{IsReadable}
use Rattle.pass_proofs.specs.run_laws.changed.Changed.{Each, callee_at, operands_of}
use Rattle.pass_proofs.specs.run_laws.embedded.Related.{HasBytes, HasNoSlot}
use Rattle.pass_proofs.specs.run_laws.transfer.Transfer.{AreSameDistances, IsNamedAlike, IsPointedAlike, Maps}
use Rattle.pass_proofs.specs.run_step.Step.{AtInstr, Context}
use Rattle.pass_proofs.specs.run_step.Values.{Env}

-- labels stay in parts, and functions move
abbrev pub moved_functions : (ℕ → ℕ) → Maps
moved_functions functions = part_maps functions (λ label. label)

-- Its operands may be read in the part. What it calls is the same function, and a getelementptr goes as far.
pub record IsReadyInPart (functions : ℕ → ℕ) (f : Function) (c d : Context) (env other : Env) (i : Instr) : Type 0 where
  pub operands : Each (IsReadable c.code d.code f) (operands_of i)
  pub callee : IsNamedAlike (moved_functions functions) c d (callee_at (AtInstr i))
  pub pointed : IsPointedAlike (moved_functions functions) c d env (AtInstr i)
  pub distance : AreSameDistances c d env other (AtInstr i) (AtInstr i)
  pub no_slot : HasNoSlot (AtInstr i)
  pub bytes : HasBytes (AtInstr i)

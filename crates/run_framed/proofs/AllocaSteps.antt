-- Allocas among the instructions of a framed run.
use Rattle.std.proofs.Common.{◌≡◌, ℕ, sym, subst, Ok}
use Rattle.std.specs.Prelude.{Result, OnOk, IfErr}
use Rattle.run_source.specs.SourceEffects.{IsStop}
use Rattle.run_source.specs.declared.effects.Stop.{Stop}
use Rattle.run_source.specs.declared.state.State.{State}
use Rattle.run_framed.specs.Framed.{FramedGiven, frame_rights, framed_act, framed_next}
use Rattle.run_framed.specs.FramedEffects.{alloca_at}
use Rattle.ir_model.specs.declared.instr.Instr.{Instr}
use Rattle.ir_model.specs.declared.ir_type.IrType.{IrType}
use Rattle.run_step.specs.Step.{AtInstr}

pub alloca-done : (g : FramedGiven) (s new : State) (i : Instr) (name : ℕ) (ty : IrType) (align : ℕ) (r : Result (Unit {0}) Stop) → i ≡ Instr.Alloca name ty align → OnOk r (framed_act g s (alloca_at g (frame_rights g s.instances) s name ty align) ≡ Ok new) → OnOk r (framed_next g s (AtInstr i) ≡ Ok new)
alloca-done g s new i name ty align r e h = subst (λ (j : Instr). OnOk r (framed_next g s (AtInstr j) ≡ Ok new)) (sym e) h

pub alloca-refused : (g : FramedGiven) (s : State) (i : Instr) (name : ℕ) (ty : IrType) (align : ℕ) (r : Result (Unit {0}) Stop) → i ≡ Instr.Alloca name ty align → IfErr r (λ stop. IsStop stop (framed_act g s (alloca_at g (frame_rights g s.instances) s name ty align))) → IfErr r (λ stop. IsStop stop (framed_next g s (AtInstr i)))
alloca-refused g s i name ty align r e h = subst (λ (j : Instr). IfErr r (λ stop. IsStop stop (framed_next g s (AtInstr j)))) (sym e) h

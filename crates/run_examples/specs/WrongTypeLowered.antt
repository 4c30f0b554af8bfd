-- A call through a pointer to a function of another type is undefined, call.
use Rattle.std.specs.Prelude.{false, [], pos, Some, None, codes, refl, ◌≡◌, ◌∷◌}
use Rattle.ir_base.specs.declared.cause.Cause.{Cause}
use Rattle.ir_base.specs.declared.name.Name.{Name}
use Rattle.ir_base.specs.declared.outcome.Item.{Item}
use Rattle.ir_base.specs.declared.outcome.Outcome.{Outcome}
use Rattle.ir_model.specs.Ty.{int, ptr}
use Rattle.ir_model.specs.declared.instr.Instr.{Instr}
use Rattle.ir_model.specs.declared.instr.Terminator.{Terminator}
use Rattle.ir_model.specs.declared.module.Module.{Module}
use Rattle.ir_model.specs.declared.operand.Callee.{Callee}
use Rattle.ir_model.specs.declared.operand.Operand.{Operand}
use Rattle.run_step.specs.Runs.{Seen}
use Rattle.run_plain.specs.Plain.{PlainAt}

abbrev pub the_module : Module
the_module = record { types = []; globals = []; declarations = []; functions = (record { name = (Name.Text (codes "f")); result = None; params = (record { ty = ptr; name = 0 } ∷ []); coroutine = false; blocks = (record { label = 1; phis = []; instrs = []; term = Terminator.Ret None } ∷ []); names = ((Name.Text (codes "h")) ∷ (Name.Text (codes "entry")) ∷ []) } ∷ record { name = (Name.Text (codes "main")); result = (Some (int 32)); params = []; coroutine = false; blocks = (record { label = 0; phis = []; instrs = ((Instr.Alloca 1 ptr 8) ∷ (Instr.Store (record { ty = ptr; value = (Operand.Global (Name.Text (codes "f"))) }) (Operand.Local 1) 8) ∷ (Instr.Load 2 ptr (Operand.Local 1) 8) ∷ (Instr.Call None false None (Callee.Local 2) (record { ty = ptr; value = Operand.Null } ∷ [])) ∷ (Instr.Call None false None (Callee.Local 2) (record { ty = (int 32); value = (Operand.Number (pos 3)) } ∷ [])) ∷ []); term = Terminator.Ret (Some (record { ty = (int 32); value = (Operand.Number (pos 0)) })) } ∷ []); names = ((Name.Text (codes "entry")) ∷ (Name.Text (codes "p")) ∷ (Name.Text (codes "q")) ∷ []) } ∷ []) }

abbrev pub expected : Seen
expected = record { events = []; outcome = (Outcome.Undefined Cause.Call (record { item = Item.Function 1; block = Some 0; instr = Some 4 })); allocs = 0 }

abbrev pub Computes : Type 0
Computes = PlainAt the_module 1 [] [] 50 ≡ expected

pub computes : Computes
computes = refl

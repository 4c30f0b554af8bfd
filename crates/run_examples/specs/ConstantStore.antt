-- A store into a constant is undefined, constant.
use Rattle.std.specs.Prelude.{true, false, [], pos, Some, None, codes, refl, ◌≡◌, ◌∷◌}
use Rattle.ir_base.specs.declared.cause.Cause.{Cause}
use Rattle.ir_base.specs.declared.name.Name.{Name}
use Rattle.ir_base.specs.declared.outcome.Item.{Item}
use Rattle.ir_base.specs.declared.outcome.Outcome.{Outcome}
use Rattle.run_source.specs.Source.{SourceAt}
use Rattle.ir_model.specs.Ty.{int, ptr}
use Rattle.ir_model.specs.declared.instr.Instr.{Instr}
use Rattle.ir_model.specs.declared.instr.Terminator.{Terminator}
use Rattle.ir_model.specs.declared.module.Module.{Module}
use Rattle.ir_model.specs.declared.operand.Callee.{Callee}
use Rattle.ir_model.specs.declared.operand.Operand.{Operand}
use Rattle.run_step.specs.Runs.{Seen}

abbrev pub the_module : Module
the_module = record { types = []; globals = (record { name = (Name.Text (codes "k")); constant = true; ty = (int 32); init = (Operand.Number (pos 7)); align = 4 } ∷ []); declarations = (record { name = (Name.Text (codes "print")); result = None; params = ((int 32) ∷ []) } ∷ record { name = (Name.Text (codes "malloc")); result = (Some ptr); params = ((int 32) ∷ []) } ∷ record { name = (Name.Text (codes "free")); result = None; params = (ptr ∷ []) } ∷ []); functions = (record { name = (Name.Text (codes "main")); result = (Some (int 32)); params = []; coroutine = false; blocks = (record { label = 0; phis = []; instrs = ((Instr.Load 1 (int 32) (Operand.Global (Name.Text (codes "k"))) 4) ∷ (Instr.Call None false None (Callee.Named (Name.Text (codes "print"))) (record { ty = (int 32); value = (Operand.Local 1) } ∷ [])) ∷ (Instr.Store (record { ty = (int 32); value = (Operand.Number (pos 8)) }) (Operand.Global (Name.Text (codes "k"))) 4) ∷ []); term = Terminator.Ret (Some (record { ty = (int 32); value = (Operand.Number (pos 0)) })) } ∷ []); names = ((Name.Text (codes "entry")) ∷ (Name.Text (codes "v")) ∷ []) } ∷ []) }

abbrev pub expected : Seen
expected = record { events = (record { name = Name.Text (codes "print"); args = (record { width = 32; bits = 7 } ∷ []) } ∷ []); outcome = (Outcome.Undefined Cause.Constant (record { item = Item.Function 0; block = Some 0; instr = Some 2 })); allocs = 0 }

abbrev pub Computes : Type 0
Computes = SourceAt the_module [] 0 [] [] 20 ≡ expected

pub computes : Computes
computes = refl

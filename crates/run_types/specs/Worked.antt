-- A worked module that keeps the rules on types: it hands a size to an allocator.
use Rattle.std.specs.Prelude.{Bool, List, [], ◌∷◌, ◌≡◌, codes, Some, None, false, true, flat_map, map, refl}
use Rattle.run_hooks.specs.ir_base.declared.name.Name.{Name}
use Rattle.run_hooks.specs.ir_base.declared.ops.CastOp.{CastOp}
use Rattle.run_hooks.specs.ir_base.declared.outcome.Word.{Word}
use Rattle.run_hooks.specs.ir_model.Ty.{int, ptr}
use Rattle.run_hooks.specs.ir_model.declared.instr.Instr.{Instr}
use Rattle.run_hooks.specs.ir_model.declared.instr.Terminator.{Terminator}
use Rattle.run_hooks.specs.ir_model.declared.module.Function.{Function}
use Rattle.run_hooks.specs.ir_model.declared.module.Module.{Module}
use Rattle.run_hooks.specs.ir_model.declared.operand.Allocator.{Allocator}
use Rattle.run_hooks.specs.ir_model.declared.operand.Arg.{Arg}
use Rattle.run_hooks.specs.ir_model.declared.operand.Callee.{Callee}
use Rattle.run_hooks.specs.ir_model.declared.operand.Operand.{Operand}
use Rattle.rule_types.specs.Signatures.{fits_callee}
use Rattle.rule_values.specs.Instrs.{fits_instr}
use Rattle.rule_values.specs.Kinds.{value_kind}
use Rattle.run_hooks.specs.run_memory.declared.pointer.Value.{Value}
use Rattle.run_hooks.specs.run_source.Source.{given, state_at}
use Rattle.run_hooks.specs.run_source.declared.state.State.{State}
use Rattle.run_hooks.specs.run_step.Values.{value_in}

-- entry: %s = zext i32 %n to i64  %p = call ptr @malloc(i64 %s)  ret void
abbrev pub the_function : Function
the_function = record { name = Name.Text (codes "main"); result = None; params = record { name = 1; ty = int 32 } ∷ []; coroutine = false; blocks = record { label = 0; phis = []; instrs = Instr.Cast 2 CastOp.Zext false (record { ty = int 32; value = Operand.Local 1 }) (int 64) ∷ Instr.Call (Some 3) false (Some ptr) (Callee.Allocator Allocator.Malloc) (record { ty = int 64; value = Operand.Local 2 } ∷ []) ∷ []; term = Terminator.Ret None } ∷ []; names = Name.Text (codes "entry") ∷ Name.Text (codes "n") ∷ Name.Text (codes "s") ∷ Name.Text (codes "p") ∷ [] }

abbrev pub the_module : Module
the_module = record { types = []; globals = []; declarations = record { name = Name.Text (codes "malloc"); result = Some ptr; params = int 64 ∷ [] } ∷ []; functions = the_function ∷ [] }

abbrev pub the_args : List Word
the_args = record { width = 32; bits = 5 } ∷ []

-- the state before the allocator's call
abbrev pub the_state : State
the_state = state_at (given the_module [] []) 0 the_args 1

-- its instructions fit, and so does the call of the allocator
abbrev pub fitting : List Bool
fitting = flat_map (λ b. map (fits_instr the_module (value_kind the_function)) b.instrs) the_function.blocks

abbrev pub sizes : List Arg
sizes = record { ty = int 64; value = Operand.Local 2 } ∷ []

-- the size is there as a word of 64 bits
abbrev pub Computes : Type 0
Computes = (fitting ≡ true ∷ true ∷ [])
    × (fits_callee the_module (Some ptr) sizes (Callee.Allocator Allocator.Malloc) ≡ true)
    × (value_in the_state.top.values 2 ≡ Value.Int (record { width = 64; bits = 5 }))

pub computes : Computes
computes = (refl, refl, refl)

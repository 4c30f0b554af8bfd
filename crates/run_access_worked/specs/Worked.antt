-- A slot of the source, which stands in the target beside a cell that is the target's own.
use Rattle.std.specs.Prelude.{ℤ, pos, List, [], ◌∷◌, Some, None}
use Rattle.run_laws_worked.specs.run_memory.Memory.{digits, owner_rights}
use Rattle.run_laws_worked.specs.run_memory.declared.block.Byte.{Byte}
use Rattle.run_laws_worked.specs.run_memory.declared.block.Kind.{Kind}
use Rattle.run_laws_worked.specs.run_memory.declared.block.MemoryBlock.{MemoryBlock}
use Rattle.run_laws_worked.specs.run_memory.declared.pointer.Value.{Value}
use Rattle.run_laws_worked.specs.ir_model.Ty.{int}
use Rattle.run_laws_worked.specs.ir_model.declared.instr.Instr.{Instr}
use Rattle.run_laws_worked.specs.ir_model.declared.module.Function.{Function}
use Rattle.run_laws_worked.specs.ir_model.declared.module.Module.{Module}
use Rattle.run_laws_worked.specs.ir_model.declared.operand.Operand.{Operand}
use Rattle.run_laws_worked.specs.run_laws.memory.Pointers.{Home}
use Rattle.run_laws_worked.specs.run_laws.memory.Standing.{blank_block}
use Rattle.run_laws_worked.specs.run_step.Effects.{context}
use Rattle.run_laws_worked.specs.run_step.Step.{Context, Work}
use Rattle.run_laws_worked.specs.run_step.Values.{Env, pointer_to}
use Rattle.run_laws_worked.specs.run_laws.embedded.Making.{whole_home}

abbrev pub slot : MemoryBlock
slot = blank_block 4 4 Kind.Slot

-- the bytes of 7
abbrev pub seven : List Byte
seven = digits 4 7

abbrev pub cell : MemoryBlock
cell = record (blank_block 4 4 Kind.Stack) { bytes = seven }

abbrev pub slot_homes : List Home
slot_homes = whole_home 1 ∷ []

abbrev pub work_over : List MemoryBlock → Env → Work
work_over m env = record { world = record { memory = m; events = []; answers_used = 0; allocs = 0 }; values = env }

abbrev pub owners : Module → List ℤ → Function → Context
owners m answers f = context m answers owner_rights f

-- the slot's address in both
abbrev pub ours : Work
ours = work_over (slot ∷ []) (Some (pointer_to 0) ∷ [])

abbrev pub theirs : Work
theirs = work_over (cell ∷ slot ∷ []) (Some (pointer_to 1) ∷ [])

-- the slot holds 5
abbrev pub theirs_after : Work
theirs_after = work_over (cell ∷ record slot { bytes = digits 4 5 } ∷ []) (Some (pointer_to 1) ∷ [])

-- store i32 5, ptr %0
abbrev pub storing : Instr
storing = Instr.Store (record { ty = int 32; value = Operand.Number (pos 5) }) (Operand.Local 0) 4

-- store i32 5, ptr %0 and %1 = load i32, ptr %0
abbrev pub line : List Instr
line = storing ∷ Instr.Load 1 (int 32) (Operand.Local 0) 4 ∷ []

abbrev pub five : Value
five = Value.Int (record { width = 32; bits = 5 })

abbrev pub line_before : Work
line_before = work_over (cell ∷ []) (Some (pointer_to 0) ∷ None ∷ [])

abbrev pub line_after : Work
line_after = work_over (record cell { bytes = digits 4 5 } ∷ []) (Some (pointer_to 0) ∷ Some five ∷ [])

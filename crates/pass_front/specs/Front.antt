-- The allocas of the entry block in front.
use Rattle.std.specs.Prelude.{Bool, true, false, List, [], filter, ◌∷◌, ◌++◌, if◌then◌else◌}
use Rattle.ir_model.specs.declared.instr.Instr.{Instr}
use Rattle.ir_model.specs.declared.module.Block.{Block}
use Rattle.ir_model.specs.declared.module.Function.{Function}

abbrev pub is_alloca : Instr → Bool
is_alloca (Instr.Alloca result ty align) = true
is_alloca _ = false

abbrev pub is_no_alloca : Instr → Bool
is_no_alloca i = if is_alloca i then false else true

-- the allocas of the entry block
abbrev pub allocas_of : List Block → List Instr
allocas_of [] = []
allocas_of (b ∷ bs) = filter is_alloca b.instrs

-- a block with its allocas in front, in their order
abbrev pub allocas_first : Block → Block
allocas_first b =
    record { label = b.label; phis = b.phis; instrs = filter is_alloca b.instrs ++ filter is_no_alloca b.instrs; term = b.term }

-- the first block so
abbrev pub with_allocas_first : List Block → List Block
with_allocas_first [] = []
with_allocas_first (b ∷ bs) = allocas_first b ∷ bs

abbrev pub with_front_allocas : Function → Function
with_front_allocas f =
    record { name = f.name; result = f.result; params = f.params; coroutine = f.coroutine; blocks = with_allocas_first f.blocks; names = f.names }

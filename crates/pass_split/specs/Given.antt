-- Which coroutines are called with a frame of their caller.
use Rattle.std.specs.Prelude.{Bool, List, [], ◌∷◌, ◌++◌}
use Rattle.std.specs.List.{list_any}
use Rattle.ir_model.specs.Names.{noalloc_of, same_name}
use Rattle.ir_model.specs.declared.instr.Instr.{Instr}
use Rattle.ir_model.specs.declared.module.Block.{Block}
use Rattle.ir_model.specs.declared.module.Function.{Function}
use Rattle.ir_model.specs.declared.module.Module.{Module}
use Rattle.ir_model.specs.declared.operand.Callee.{Callee}
use Rattle.pass_split.specs.declared.given.CalledName.{CalledName}

-- ---- the names by which functions are called, in order of the text

abbrev pub called_by : Instr → List CalledName
called_by (Instr.Call result must_tail ty (Callee.Named n) args) = record { name = n } ∷ []
called_by _ = []

-- in a block
abbrev pub called_in : List Instr → List CalledName
called_in [] = []
called_in (i ∷ is) = called_by i ++ called_in is

-- in the blocks of a function
abbrev pub called_from : List Block → List CalledName
called_from [] = []
called_from (b ∷ bs) = called_in b.instrs ++ called_from bs

-- in functions
abbrev pub called_names : List Function → List CalledName
called_names [] = []
called_names (f ∷ fs) = called_from f.blocks ++ called_names fs

-- ---- calls that give a frame

-- one of the names is that of the ramp that is given its frame
abbrev pub is_given_by : List CalledName → Function → Bool
is_given_by names f = list_any (λ c. same_name (noalloc_of f.name) c.name) names

-- some call of the module gives an instance of the coroutine its frame
abbrev pub has_given_call : Module → Function → Bool
has_given_call m f = is_given_by (called_names m.functions) f

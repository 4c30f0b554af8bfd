-- The ramps by whose names callers call coroutines that they give frames.
use Rattle.std.specs.Prelude.{Bool, false, List, [], ◌∷◌, ◌++◌, length, if◌then◌else◌, ◌&&◌}
use Rattle.ir_model.specs.Names.{noalloc_of}
use Rattle.ir_model.specs.Ty.{ptr}
use Rattle.ir_model.specs.declared.module.Function.{Function}
use Rattle.ir_model.specs.declared.module.Module.{Module}
use Rattle.pass_split.specs.Given.{has_given_call}

-- such a ramp takes what the coroutine takes, and the frame's address; nothing asks for its blocks
abbrev pub called_ramp : Function → Function
called_ramp f =
    record {
      name = noalloc_of f.name;
      result = f.result;
      params = f.params ++ record { ty = ptr; name = length f.names } ∷ [];
      coroutine = false;
      blocks = [];
      names = [];
    }

-- those of the coroutines of a list to which some call gives a frame
abbrev pub given_ramps : (Function → Bool) → List Function → List Function
given_ramps given [] = []
given_ramps given (f ∷ fs) = (if f.coroutine && given f then called_ramp f ∷ [] else []) ++ given_ramps given fs

-- The module with them. Where calls give frames, the rules of functions are judged in it.
abbrev pub with_given_ramps : Module → Module
with_given_ramps m = record m { functions = m.functions ++ given_ramps (has_given_call m) m.functions }

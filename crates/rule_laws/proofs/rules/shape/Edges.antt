-- Lemmas on edges, that speak of no pass.
use Rattle.std.proofs.Common.{◌≡◌, refl}
use Rattle.ir_parts.specs.Contents.{ending_labels}
use Rattle.ir_laws.specs.ir_model.declared.instr.Terminator.{Terminator}
use Rattle.ir_laws.specs.ir_paths.Paths.{targets}

-- ---- an edge to a label

pub targets_are : (t : Terminator) → targets t ≡ ending_labels t
targets_are (Terminator.Jump label) = refl
targets_are (Terminator.Branch x a b) = refl
targets_are (Terminator.Switch arg default cases) = refl
targets_are (Terminator.Ret value) = refl
targets_are Terminator.Unreachable = refl

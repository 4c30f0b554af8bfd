-- Lemmas on sources, that speak of no pass.
use Rattle.std.proofs.Common.{◌≡◌, List}
use Rattle.std.specs.Prelude.{Some, slice_get}
use Rattle.run_laws.specs.flow_solver.Paths.{IsListed}
use Rattle.run_laws.specs.ir_model.declared.module.Block.{Block}
use Rattle.ir_laws.proofs.facts.Numbers.{Head, Last, Of, Source}

-- a block stands in the front of a part, among the pieces of a block of the function, or is the mark of the end
abbrev pub IsIn : List Block → List (List Block) → Block → Source → Block → Type 0
IsIn head css done Source.Head c = IsListed c head
IsIn head css done (Source.Of q) c = (cs : List Block) × ((slice_get css q ≡ Some cs) × IsListed c cs)
IsIn head css done Source.Last c = c ≡ done

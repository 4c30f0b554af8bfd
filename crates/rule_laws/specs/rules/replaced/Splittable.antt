-- Lemmas on splittable, that speak of no pass.
use Rattle.std.specs.Prelude.{◌≡◌, ℕ, true, List, [], option_to_list, ◌+◌, ◌∷◌, ◌++◌}
use Rattle.rule_uses.specs.Undefined.{ReachesWithout}
use Rattle.rule_uses.specs.Uses.{phi_values}
use Rattle.ir_laws.specs.flow_solver.Paths.{IsListed}
use Rattle.ir_parts.specs.Contents.{result_of}
use Rattle.ir_laws.specs.ir_model.declared.instr.Instr.{Instr}
use Rattle.ir_laws.specs.ir_model.declared.module.Block.{Block}
use Rattle.ir_laws.specs.ir_model.declared.module.Function.{Function}
use Rattle.ir_laws.specs.facts.replaced.Splittable.{asks_begin}

-- each instruction that asks for begin stands where begin's value is made before: by the block itself, or on each path to it
abbrev pub AreBegun : Function → ℕ → ℕ → List ℕ → List Instr → Type 0
AreBegun f begin block before [] = Unit {0}
AreBegun f begin block before (i ∷ is) =
    (asks_begin i ≡ true → ReachesWithout f begin block → IsListed begin before) × AreBegun f begin block (option_to_list (result_of i) ++ before) is

-- those of blocks from a position on
abbrev pub AreBlocksBegun : Function → ℕ → ℕ → List Block → Type 0
AreBlocksBegun f begin at [] = Unit {0}
AreBlocksBegun f begin at (b ∷ bs) = AreBegun f begin at (phi_values b) b.instrs × AreBlocksBegun f begin (at + 1) bs

-- Lemmas on sources, that speak of no pass.
use Rattle.std.proofs.Common.{◌≡◌, inr, ℕ, ◌<◌, length}
use Rattle.std.specs.Prelude.{Some}
use Rattle.rule_uses.specs.Undefined.{params_of}
use Rattle.rule_laws.proofs.rules.source_rules.Locals.{block_names, made_by}
use Rattle.ir_laws.proofs.paths.source_rules.Locals.{listed_right}
use Rattle.ir_laws.proofs.facts.Lists.{phi_names, row_of}
use Rattle.rule_laws.specs.rules.source_rules.Named.{HasTabledLocals}
use Rattle.ir_laws.specs.flow_solver.Paths.{IsListed}
use Rattle.rule_laws.proofs.rules.counted.DefinedKinds.{made_in}
use Rattle.rule_laws.proofs.rules.woven_rules.Once.{names_below}
use Rattle.ir_parts.specs.Contents.{result_of}
use Rattle.ir_laws.specs.ir_model.declared.instr.Instr.{Instr}
use Rattle.ir_laws.specs.ir_model.declared.module.Block.{Block}
use Rattle.ir_laws.specs.ir_model.declared.module.Function.{Function}
use Rattle.ir_laws.proofs.paths.short_names.Sources.{row_listed}

-- results of instructions are positions of the table of names
pub results_below : (k : ℕ) (f : Function) → HasTabledLocals k f → (v : ℕ) (b : Block) (i : Instr) → IsListed b f.blocks → IsListed i b.instrs → result_of i ≡ Some v → v < length f.names
results_below k f tabled v b i at l makes =
    names_below k f tabled v
    (listed_right v (params_of f) (row_of block_names f.blocks)
    (row_listed block_names f.blocks v b at
    (inr (listed_right v (phi_names b.phis) (row_of made_by b.instrs) (row_listed made_by b.instrs v i l (made_in i v makes))))))

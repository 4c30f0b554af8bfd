-- Values in cells as instructions that are woven in.
use Rattle.std.specs.Prelude.{ℕ, Bool, false, List, [], length, ◌∷◌, ◌++◌}
use Rattle.pass_edges_proof.specs.rule_uses.Uses.{made_by_instrs}
use Rattle.ir_model.specs.declared.instr.Instr.{Instr}
use Rattle.ir_model.specs.declared.module.Block.{Block}
use Rattle.ir_model.specs.declared.module.Function.{Function}
use Rattle.ir_model.specs.declared.module.Module.{Module}
use Rattle.pass_edges_proof.specs.pass_cells.Cells.{with_plan}
use Rattle.pass_edges_proof.specs.pass_cells.Plan.{plan_of}
use Rattle.pass_edges_proof.specs.pass_cells.Written.{kept_allocas, link_allocas}
use Rattle.pass_edges_proof.specs.pass_cells.declared.plan.Plan.{Plan}
use Rattle.pass_edges_proof.specs.rule_values.Kinds.{value_kind}
use Rattle.pass_edges_proof.specs.rule_laws.rules.woven_rules.Weaving.{Weaving}
use Rattle.pass_edges_proof.specs.rule_names.declared.stage.Stage.{Stage}

-- the allocas at the front of the entry block
abbrev pub front_allocas : Plan → List Instr
front_allocas p = kept_allocas p.kept ++ link_allocas p.first (length p.kept) p.links

-- the cells and fields, where there is an entry block
abbrev pub front_cells : Plan → List Block → List ℕ
front_cells p [] = []
front_cells p (b ∷ bs) = made_by_instrs [] (front_allocas p)

abbrev pub plan_weaving : Module → Plan → Function → Weaving
plan_weaving m p f =
    let g = with_plan m p f in
    record { stage = Stage.Source; first = length f.names; after = length g.names; kinds = value_kind g; fronts = front_cells p f.blocks; goes = λ n. false }

-- the new names are the cells and fields, and what is loaded and summed; nothing goes
abbrev pub cells_weaving : Module → Function → List (ℕ × ℕ) → List Bool → Weaving
cells_weaving m f crossing local = plan_weaving m (plan_of f crossing local) f

-- Where the edges of a part lead.
use Rattle.std.proofs.Common.{subst, sym, ℕ, ◌≡◌}
use Rattle.pass_fetch_proof.specs.flow_solver.Paths.{IsListed}
use Rattle.pass_fetch_proof.specs.frame_layout.declared.layout.Layout.{Layout}
use Rattle.pass_fetch_proof.specs.pass_intrinsics.Shapes.{shape_of}
use Rattle.pass_fetch_proof.specs.pass_intrinsics.declared.shape.Part.{Part}
use Rattle.pass_fetch_proof.specs.pass_intrinsics.declared.shape.Shape.{Shape}
use Rattle.ir_model.specs.declared.module.Block.{Block}
use Rattle.ir_model.specs.declared.module.Function.{Function}
use Rattle.ir_model.specs.declared.module.Module.{Module}
use Rattle.pass_fetch_proof.specs.ir_paths.Paths.{targets}
use Rattle.pass_exits_proof.proofs.split.edges.Sources.{cuttable, pruned_part}
use Rattle.pass_exits_proof.proofs.split.edges.Targets.{part_own, part_tabled}
use Rattle.pass_exits_proof.proofs.split.rules.Pruned.{kept_targets}
use Rattle.pass_exits_proof.specs.split.rules.Parted.{IsPartOf}
use Rattle.pass_exits_proof.specs.split.rules.Splittable.{IsSplittable}

-- each edge of a block of the function leads to one of its blocks
abbrev LeadWithin : Function → Type 0
LeadWithin g = (b : Block) (label : ℕ) → IsListed b g.blocks → IsListed label (targets b.term) → (c : Block) × (IsListed c g.blocks × (c.label ≡ label))

pub parts_lead_within : (m : Module) (k : ℕ) (layout : Layout) (part : Part) (begin : ℕ) (f g : Function) → IsSplittable m k f begin → IsPartOf (shape_of f layout) f part g → (b : Block) (label : ℕ) → IsListed b g.blocks → IsListed label (targets b.term) → (c : Block) × (IsListed c g.blocks × (c.label ≡ label))
parts_lead_within m k layout part begin f g x is =
    let s : Shape = shape_of f layout in
    let y = pruned_part s part f g is in
    let ok = cuttable m k f begin x layout part in
    subst LeadWithin (sym y.is) (kept_targets y.before (part_tabled s part f ok y.before y.blocks y.names) (part_own s part f ok y.before y.blocks y.names))

-- Lemmas on own labels.
use Rattle.std.proofs.Common.{true, ℕ, ◌≡◌}
use Rattle.std.specs.Prelude.{None}
use Rattle.pass_fetch_proof.specs.frame_layout.declared.layout.Layout.{Layout}
use Rattle.pass_fetch_proof.specs.ir_parts.Parts.{first_part, parts_of}
use Rattle.pass_fetch_proof.specs.pass_intrinsics.Shapes.{shape_of}
use Rattle.pass_fetch_proof.specs.pass_intrinsics.declared.shape.Part.{Part}
use Rattle.ir_model.specs.declared.module.Function.{Function}
use Rattle.ir_model.specs.declared.module.Module.{Module}
use Rattle.pass_fetch_proof.specs.rule_names.Known.{is_label}
use Rattle.pass_exits_proof.proofs.split.edges.Kept.{part_edges_kept}
use Rattle.pass_exits_proof.proofs.split.edges.Laws.{parts_lead_within}
use Rattle.pass_fetch_proof.specs.rule_laws.rules.replaced.Instructions.{names_lost}
use Rattle.pass_exits_proof.specs.split.rules.Parted.{IsPartOf}
use Rattle.pass_exits_proof.specs.split.rules.Splittable.{IsSplittable}
use Rattle.pass_fetch_proof.proofs.rule_laws.rules.edges.OwnLabels.{labels_own}

pub part_labels_own : (m : Module) (k l : ℕ) (layout : Layout) (part : Part) (begin : ℕ) (f g : Function) → IsSplittable m k f begin → IsPartOf (shape_of f layout) f part g → first_part (names_lost (λ v. true) (is_label l g)) (parts_of l g) ≡ None
part_labels_own m k l layout part begin f g x is = labels_own l g (part_edges_kept m k l layout part begin f g x is) (parts_lead_within m k layout part begin f g x is)

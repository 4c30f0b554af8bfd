-- The function that is cut for each part: the coroutine itself, and for the ramp the one whose entry block has its allocas in front.
use Rattle.std.proofs.Common.{ap, refl, sym, ℕ, ◌≡◌}
use Rattle.pass_split.specs.Parts.{given_ramp_of, later_part, origins_for, part_names, ramp_of}
use Rattle.pass_split.specs.Pieces.{stop_label}
use Rattle.pass_split.specs.Reached.{pruned}
use Rattle.pass_fetch_proof.specs.frame_layout.declared.layout.Layout.{Layout}
use Rattle.pass_fetch_proof.specs.pass_intrinsics.Shapes.{shape_of}
use Rattle.pass_fetch_proof.specs.pass_intrinsics.declared.shape.Part.{Part}
use Rattle.pass_fetch_proof.specs.pass_intrinsics.declared.shape.Shape.{Shape}
use Rattle.ir_model.specs.declared.module.Function.{Function}
use Rattle.ir_model.specs.declared.module.Module.{Module}
use Rattle.pass_exits_proof.proofs.split.edges.Cuttable.{IsCuttable}
use Rattle.pass_exits_proof.proofs.split.edges.Labels.{whole}
use Rattle.pass_exits_proof.proofs.split.edges.Marked.{are_marks, marks_different}
use Rattle.pass_exits_proof.proofs.split.edges.Pieces.{labels, marks}
use Rattle.pass_exits_proof.proofs.split.edges.Rules.{destroy_known, end_is, label_low, labels_different, resume_known, stopped, target_known, the_end}
use Rattle.pass_exits_proof.specs.split.rules.Parted.{IsCleanup, IsDestroy, IsGivenRamp, IsPartOf, IsRamp, IsResume}
use Rattle.pass_exits_proof.specs.split.rules.Splittable.{IsSplittable}

-- ---- the function that is cut is as its labels ask

pub cuttable : (m : Module) (k : ℕ) (f : Function) (begin : ℕ) → IsSplittable m k f begin → (layout : Layout) (part : Part) → IsCuttable (shape_of f layout) part f
cuttable m k f begin x layout part =
    let s : Shape = shape_of f layout in
    let end = the_end m k f begin x in
    record {
      base = refl;
      low = λ b l. label_low m k f begin x b l;
      different = labels_different m k f begin x;
      marks = marks_different m k f begin x layout part;
      are_marks = λ v l. are_marks m k f begin x layout part v l;
      known = λ b label l t. target_known m k f begin x b label l t;
      end_there = record { block = end.block; listed = end.listed; has_label = sym (end_is m k f begin x layout) };
      stop = λ b i l n e. let st = stopped m k f begin x layout b i l n e in ap stop_label st.is;
      resumes = λ p l. resume_known m k f begin x layout p l;
      destroys = λ p l. destroy_known m k f begin x layout p l;
    }

-- ---- the parts

-- a part is what is left of one whose blocks and names are made of those of the function that is cut
pub record IsPrunedPart (s : Shape) (part : Part) (f g : Function) : Type 0 where
  pub before : Function
  pub is : g ≡ pruned before
  pub blocks : before.blocks ≡ whole s part f
  pub names : before.names ≡ part_names s part f (origins_for s part f)

pub pruned_part : (s : Shape) (part : Part) (f g : Function) → IsPartOf s f part g → IsPrunedPart s part f g
pruned_part s _ f _ IsRamp = record { before = ramp_of s f; is = refl; blocks = refl; names = refl }
pruned_part s _ f _ IsResume = record { before = later_part s Part.Resume s.resume_name f; is = refl; blocks = refl; names = refl }
pruned_part s _ f _ IsDestroy = record { before = later_part s Part.Destroy s.destroy_name f; is = refl; blocks = refl; names = refl }
pruned_part s _ f _ IsCleanup = record { before = later_part s Part.Cleanup s.cleanup_name f; is = refl; blocks = refl; names = refl }
pruned_part s _ f _ IsGivenRamp = record { before = given_ramp_of s f; is = refl; blocks = refl; names = refl }

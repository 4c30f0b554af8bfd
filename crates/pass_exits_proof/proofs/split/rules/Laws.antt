-- Names and values of parts, where the locals that they name are their own.
use Rattle.std.proofs.Common.{◌≡◌, ℕ, true, false}
use Rattle.std.specs.Prelude.{None, Some, slice_get}
use Rattle.pass_split.specs.Parts.{plain_of, plain_shape}
use Rattle.pass_fetch_proof.specs.frame_layout.declared.layout.Layout.{Layout}
use Rattle.pass_fetch_proof.specs.rule_laws.rules.function_rules.Kept.{KeepsFunctionRulesAt}
use Rattle.pass_fetch_proof.specs.pass_intrinsics.Cuts.{goes_on}
use Rattle.pass_fetch_proof.specs.pass_intrinsics.Shapes.{shape_of}
use Rattle.pass_fetch_proof.specs.pass_intrinsics.declared.shape.Part.{Part}
use Rattle.ir_model.specs.declared.module.Function.{Function}
use Rattle.ir_model.specs.declared.module.Module.{Module}
use Rattle.pass_fetch_proof.specs.rule_names.Known.{first_unknown}
use Rattle.pass_fetch_proof.specs.rule_laws.frames.same_names.Parts.{HasPart, HasPartsOf}
use Rattle.pass_exits_proof.proofs.split.rules.Instructions.{parts_kept, plain_kept}
use Rattle.pass_fetch_proof.proofs.rule_laws.rules.replaced.Locals.{all_names_known}
use Rattle.pass_exits_proof.proofs.split.rules.ValueLaws.{parts_values, plain_values}
use Rattle.pass_fetch_proof.specs.rule_laws.rules.replaced.Instructions.{KnowsItsLocals}
use Rattle.pass_exits_proof.specs.split.rules.Parted.{IsPartOf}
use Rattle.pass_fetch_proof.specs.rule_laws.frames.replaced.Parted.{IsSmall}
use Rattle.pass_fetch_proof.specs.rule_laws.rules.replaced.Returns.{ReturnsNothing}
use Rattle.pass_exits_proof.specs.split.rules.Splittable.{IsSplittable}
use Rattle.pass_fetch_proof.specs.rule_names.declared.stage.Stage.{Stage}
use Rattle.pass_fetch_proof.specs.rule_values.Values.{first_wrong_value}

pub parts_named : (m n : Module) (k l : ℕ) (layout : Layout) (part : Part) (begin : ℕ) (f g : Function) → HasPartsOf m n → slice_get m.functions k ≡ Some f → IsSplittable m k f begin → IsSmall (shape_of f layout) → IsPartOf (shape_of f layout) f part g → (part ≡ Part.GivenRamp → HasPart n (shape_of f layout).cleanup_name) → KnowsItsLocals l g → (goes_on part ≡ true → ReturnsNothing l g) → (first_unknown n l g ≡ None) × (first_wrong_value n l g ≡ None)
parts_named m n k l layout part begin f g h stands splittable small is given own returns =
    let known : first_unknown n l g ≡ None = all_names_known n l g (parts_kept m n k l layout part f g h stands splittable.coroutine splittable.rules is given).known own in
    (known, parts_values m n k l layout part begin f g h splittable.rules splittable.named small is known returns)

pub plain_named : (stage : Stage) (m n : Module) (k l : ℕ) (f : Function) → HasPartsOf m n
    → slice_get m.functions k ≡ Some f → f.coroutine ≡ false → KeepsFunctionRulesAt stage m k f → KnowsItsLocals l (plain_of (plain_shape f) f) → (first_unknown n l (plain_of (plain_shape f) f) ≡ None) × (first_wrong_value n l (plain_of (plain_shape f) f) ≡ None)
plain_named stage m n k l f h stands coroutine rules own =
    let known : first_unknown n l (plain_of (plain_shape f) f) ≡ None = all_names_known n l (plain_of (plain_shape f) f) (plain_kept stage m n k l f h stands coroutine rules).known own in
    (known, plain_values stage m n k l f h coroutine rules known)

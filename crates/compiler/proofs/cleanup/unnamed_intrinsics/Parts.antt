-- The parts of a coroutine that names no coro intrinsic name none, since the names of the parts are none's.
use Rattle.std.proofs.Common.{◌≡◌, ℕ, Bool, true, false, refl, sym, subst}
use Rattle.std.specs.List.{list_all}
use Rattle.std.specs.Prelude.{None, Some, not, slice_get, ◌&&◌}
use Rattle.ir_base.specs.declared.name.Name.{Name}
use Rattle.ir_base.specs.declared.outcome.Place.{Place}
use Rattle.pass_cleanup.specs.Cleanup.{is_kept_callee}
use Rattle.pass_split.specs.Parts.{plain_of, plain_shape}
use Rattle.frame_layout.specs.declared.layout.Layout.{Layout}
use Rattle.compiler.specs.cleanup.rules.Clean.{calls_left}
use Rattle.pass_proofs.specs.rule_laws.rules.function_rules.Kept.{KeepsFunctionRulesAt}
use Rattle.pass_proofs.specs.rule_laws.frames.same_names.Parts.{HasPart, HasPartsOf}
use Rattle.pass_proofs.specs.ir_parts.Contents.{part_operands}
use Rattle.pass_proofs.specs.ir_parts.Parts.{Part as FunctionPart, first_part, parts_of}
use Rattle.pass_proofs.specs.pass_intrinsics.Shapes.{shape_of}
use Rattle.pass_proofs.specs.pass_intrinsics.declared.shape.Part.{Part}
use Rattle.pass_proofs.specs.pass_intrinsics.declared.shape.Shape.{Shape}
use Rattle.ir_model.specs.Table.{callee_named}
use Rattle.ir_model.specs.declared.module.Function.{Function}
use Rattle.ir_model.specs.declared.module.Module.{Module}
use Rattle.ir_model.specs.declared.operand.Operand.{Operand}
use Rattle.pass_proofs.specs.rule_locals.Intrinsics.{misplaces}
use Rattle.compiler.proofs.cleanup.outside.Outside.{names_other, parts_pass, passes, turned_passes}
use Rattle.compiler.proofs.cleanup.unnamed_intrinsics.Sources.{free_name}
use Rattle.pass_proofs.specs.split.rules.Parted.{IsPartOf}
use Rattle.compiler.specs.cleanup.unnamed_intrinsics.Unnamed.{NamesNoIntrinsic, is_no_intrinsic, names_intrinsic}
use Rattle.pass_proofs.specs.rule_names.declared.stage.Stage.{Stage}

-- ---- no operand is a coro intrinsic's address where each name outside is no coro intrinsic's

abbrev is_kept : Name → Bool
is_kept n = is_kept_callee (callee_named n)

operand_same : (x : Operand) → passes is_kept x ≡ is_no_intrinsic x
operand_same (Operand.Local v) = refl
operand_same (Operand.Global n) = refl
operand_same (Operand.Number z) = refl
operand_same Operand.True = refl
operand_same Operand.False = refl
operand_same Operand.Null = refl
operand_same Operand.None = refl
operand_same Operand.Poison = refl

rule_same : names_other is_kept ≡ names_intrinsic
rule_same = λ i p x. not (list_all (λ y. operand_same y i) (part_operands x) && calls_left x)

-- what the rule says of a function
abbrev Unbroken : ℕ → Function → (Place → FunctionPart → Bool) → Type 0
Unbroken k f rule = first_part rule (parts_of k f) ≡ None

-- ---- the functions

pub parts_free : (m n : Module) (k l : ℕ) (layout : Layout) (part : Part) (f g : Function) → HasPartsOf m n → slice_get m.functions k ≡ Some f → f.coroutine ≡ true → IsPartOf (shape_of f layout) f part g
    → (part ≡ Part.GivenRamp → HasPart n (shape_of f layout).cleanup_name) → NamesNoIntrinsic k f → NamesNoIntrinsic l g
parts_free m n k l layout part f g h stands coroutine is given e =
    let s : Shape = shape_of f layout in
    let resume : is_kept s.resume_name ≡ true = free_name s.resume_name (h.resumes k f stands coroutine).is_free in
    let destroy : is_kept s.destroy_name ≡ true = free_name s.destroy_name (h.destroys k f stands coroutine).is_free in
    subst (Unbroken l g) rule_same (parts_pass is_kept s part k l f g (resume, destroy, (λ d. free_name s.cleanup_name (given d).is_free)) is (subst (Unbroken k f) (sym rule_same) e))

pub turned_free : (stage : Stage) (m : Module) (k l : ℕ) (f : Function) → f.coroutine ≡ false
    → KeepsFunctionRulesAt stage m k f → NamesNoIntrinsic k f → NamesNoIntrinsic l (plain_of (plain_shape f) f)
turned_free stage m k l f coroutine rules e =
    let outer : first_part (misplaces Stage.Source false) (parts_of k f) ≡ None = subst (λ (b : Bool). first_part (misplaces Stage.Source b) (parts_of k f) ≡ None) coroutine rules.local.misplaced in
    subst (Unbroken l (plain_of (plain_shape f) f)) rule_same (turned_passes is_kept k l f outer (subst (Unbroken k f) (sym rule_same) e))

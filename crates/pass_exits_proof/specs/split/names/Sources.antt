-- From where the functions of a split module come.
use Rattle.std.specs.Prelude.{ℕ, true, [], Some, codes, map, slice_get, ◌≡◌, ◌∷◌, ◌++◌}
use Rattle.pass_split.specs.Given.{has_given_call}
use Rattle.pass_split.specs.Parts.{split_function}
use Rattle.pass_fetch_proof.specs.frame_layout.declared.layout.Layout.{Layout}
use Rattle.pass_fetch_proof.specs.rule_laws.frames.same_names.Parts.{HasPart, HasSignature}
use Rattle.ir_model.specs.Names.{noalloc_of}
use Rattle.ir_model.specs.Ty.{ptr}
use Rattle.ir_model.specs.declared.module.Function.{Function}
use Rattle.ir_model.specs.declared.module.Module.{Module}
use Rattle.pass_fetch_proof.specs.pass_intrinsics.Shapes.{part_name}

-- the function is one of those that a function of the module becomes
pub record ComesFrom (m : Module) (g : Function) : Type 0 where
  pub position : ℕ
  pub source : Function
  pub stands : slice_get m.functions position ≡ Some source
  pub layout : Layout
  pub number : ℕ
  pub is_one : slice_get (split_function layout (has_given_call m source) source) number ≡ Some g

-- the second module has those parts of the coroutines of the first that some calls give their frames
pub record HasGivenParts (m n : Module) : Type 0 where
  pub cleanups : (k : ℕ) (f : Function) → slice_get m.functions k ≡ Some f → f.coroutine ≡ true → has_given_call m f ≡ true → HasPart n (part_name f.name (codes ".cleanup"))
  pub ramps : (k : ℕ) (f : Function) → slice_get m.functions k ≡ Some f → f.coroutine ≡ true → has_given_call m f ≡ true → HasSignature n (noalloc_of f.name) f.result (map (λ p. p.ty) f.params ++ ptr ∷ [])

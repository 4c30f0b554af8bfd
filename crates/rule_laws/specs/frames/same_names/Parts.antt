-- Modules whose coroutines are split into parts, by the names and types of their functions.
use Rattle.std.specs.Prelude.{ℕ, true, false, List, [], map, codes, slice_get, Some, None, Option, is_some, ◌≡◌, ◌||◌, ◌∷◌}
use Rattle.ir_laws.specs.ir_base.declared.name.Name.{Name}
use Rattle.pass_intrinsics.specs.Shapes.{part_name}
use Rattle.ir_laws.specs.ir_model.Names.{declaration_named, function_named, global_named}
use Rattle.ir_laws.specs.ir_model.Ty.{Ty, ptr}
use Rattle.ir_laws.specs.ir_model.declared.module.Function.{Function}
use Rattle.ir_laws.specs.ir_model.declared.module.Module.{Module}
use Rattle.rule_names.specs.Reserved.{is_reserved}

-- the function of this name has this result and parameters of these types
pub record HasSignature (n : Module) (x : Name) (result : Option Ty) (params : List Ty) : Type 0 where
  pub position : ℕ
  pub function : Function
  pub is_named : function_named n x ≡ Some position
  pub stands : slice_get n.functions position ≡ Some function
  pub has_result : function.result ≡ result
  pub has_params : map (λ p. p.ty) function.params ≡ params

-- a function of this name takes a frame and gives nothing; the name is none of an intrinsic or allocator, nor of a global or declaration
pub record HasPart (n : Module) (x : Name) : Type 0 where
  pub signature : HasSignature n x None (ptr ∷ [])
  pub is_free : is_reserved x ≡ false
  pub is_no_global : global_named n x ≡ None
  pub is_not_declared : declaration_named n x ≡ None

-- The second module has the types, globals and declarations of the first, and its functions with their names and types; what
-- the first only declares, or has as a global, is no function of the second.
pub record HasFunctionsOf (m n : Module) : Type 0 where
  pub types : n.types ≡ m.types
  pub globals : n.globals ≡ m.globals
  pub declarations : n.declarations ≡ m.declarations
  pub functions : (x : Name) (k : ℕ) (f : Function) → function_named m x ≡ Some k → slice_get m.functions k ≡ Some f
      → HasSignature n x f.result (map (λ p. p.ty) f.params)
  pub others : (x : Name) → function_named m x ≡ None
      → (is_some (declaration_named m x) || is_some (global_named m x)) ≡ true → function_named n x ≡ None

-- The second module has the types, globals and declarations of the first, its functions with their names and types, and
-- of each coroutine its parts; what the first only declares, or has as a global, is no function of the second.
pub record HasPartsOf (m n : Module) : Type 0 where
  pub types : n.types ≡ m.types
  pub globals : n.globals ≡ m.globals
  pub declarations : n.declarations ≡ m.declarations
  pub functions : (x : Name) (k : ℕ) (f : Function) → function_named m x ≡ Some k → slice_get m.functions k ≡ Some f → HasSignature n x f.result (map (λ p. p.ty) f.params)
  pub others : (x : Name) → function_named m x ≡ None → (is_some (declaration_named m x) || is_some (global_named m x)) ≡ true → function_named n x ≡ None
  pub resumes : (k : ℕ) (f : Function) → slice_get m.functions k ≡ Some f → f.coroutine ≡ true → HasPart n (part_name f.name (codes ".resume"))
  pub destroys : (k : ℕ) (f : Function) → slice_get m.functions k ≡ Some f → f.coroutine ≡ true → HasPart n (part_name f.name (codes ".destroy"))

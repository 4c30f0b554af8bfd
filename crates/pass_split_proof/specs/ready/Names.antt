-- What the names of a module are in the module of its parts.
use Rattle.std.specs.Prelude.{◌≡◌, ℕ, true, None, Some, is_some, slice_get, ◌||◌}
use Rattle.pass_proofs.specs.frame_layout.declared.layout.Layouts.{Layouts}
use Rattle.pass_proofs.specs.ir_base.declared.name.Name.{Name}
use Rattle.pass_proofs.specs.ir_model.Names.{declaration_named, function_named, global_named}
use Rattle.pass_proofs.specs.ir_model.declared.module.Function.{Function}
use Rattle.pass_proofs.specs.ir_model.declared.module.Module.{Module}
use Rattle.pass_split_proof.specs.code.Positions.{moved}
use Rattle.pass_split_proof.specs.first_exits.Parted.{parted_module}

-- A function's name is that of its first part, and each part is found by its own. Other names are no functions of the
-- parts. No global has a function's name (N1).
pub record HasMovedNames (ls : Layouts) (m : Module) : Type 0 where
  pub functions : (x : Name) (k : ℕ) → function_named m x ≡ Some k
      → function_named (parted_module ls m) x ≡ Some (moved ls.coroutines m m.functions k)
  pub others : (x : Name) → function_named m x ≡ None
      → (is_some (declaration_named m x) || is_some (global_named m x)) ≡ true
      → function_named (parted_module ls m) x ≡ None
  pub parts : (q : ℕ) (g : Function) → slice_get (parted_module ls m).functions q ≡ Some g
      → function_named (parted_module ls m) g.name ≡ Some q
  pub apart : (x : Name) → is_some (global_named m x) ≡ true → function_named m x ≡ None

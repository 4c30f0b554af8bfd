-- Lemmas on planned, that speak of no pass.
use Rattle.std.proofs.Common.{◌≡◌, ℕ}
use Rattle.std.specs.Prelude.{Some}
use Rattle.rule_uses.specs.Undefined.{ReachesWithout}
use Rattle.ir_laws.specs.flow_solver.Paths.{IsListed}
use Rattle.ir_laws.specs.ir_model.Ty.{Ty, int}
use Rattle.ir_laws.specs.ir_model.declared.module.Function.{Function}
use Rattle.ir_laws.specs.ir_paths.Slots.{allocas_of}
use Rattle.pass_cells.specs.Kept.{entry}
use Rattle.rule_values.specs.Kinds.{value_kind}
use Rattle.rule_values.specs.declared.kinds.Kind.{Kind}

-- a slot from which a field keeps a distance: the entry block makes it, so no path leads without it to another block
pub record IsSlot (f : Function) (t : Ty) (slot : ℕ) : Type 0 where
  pub wide : t ≡ int 64
  pub kind : value_kind f slot ≡ Some Kind.Ptr
  pub made : (block : ℕ) → (block ≡ 0 → ⊥) → ReachesWithout f slot block → ⊥
  pub alloca : IsListed slot (allocas_of f)

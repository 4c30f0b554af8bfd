-- Operands of a framed module that have the same value in the module of its parts.
use Rattle.std.specs.Prelude.{◌≡◌, ℕ, ◌<◌, ◌⊎◌, length}
use Rattle.pass_proofs.specs.ir_base.declared.name.Name.{Name}
use Rattle.pass_proofs.specs.ir_model.declared.module.Function.{Function}
use Rattle.pass_proofs.specs.ir_model.declared.module.Module.{Module}
use Rattle.pass_proofs.specs.ir_model.declared.operand.Operand.{Operand}
use Rattle.pass_split_proof.specs.states.Values.{IsStopResult}
use Rattle.pass_proofs.specs.run_memory.declared.pointer.Value.{Value}
use Rattle.pass_proofs.specs.run_step.Values.{address_of, pointer_to}

-- the name is a global's, and has the address of its block in both modules; or it has none
pub record IsSameAddress (m n : Module) (name : Name) : Type 0 where
  pub same : address_of n name ≡ address_of m name
  pub global : ((b : ℕ) × ((address_of m name ≡ pointer_to b) × (b < length m.globals))) ⊎
      (address_of m name ≡ Value.Poison)

-- an operand that a step may read: no function's address (P1), and no result of a suspend, which its switch alone
-- reads (K3)
abbrev pub IsReadable : Module → Module → Function → Operand → Type 0
IsReadable m n f (Operand.Local v) = IsStopResult f v → ⊥
IsReadable m n f (Operand.Global name) = IsSameAddress m n name
IsReadable m n f x = Unit {0}

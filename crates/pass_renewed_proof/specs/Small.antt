-- Offsets of 64 bits: a run's pointers have no others.
use Rattle.std.specs.Prelude.{nat_lt, ◌&&◌, ◌^◌, ◌<◌}
use Rattle.pass_kept_proof.specs.ir_model.declared.instr.Instr.{Instr}
use Rattle.pass_kept_proof.specs.ir_model.declared.module.Module.{Module}
use Rattle.pass_kept_proof.specs.run_memory.Memory.{Rights, owner_rights}
use Rattle.pass_kept_proof.specs.run_memory.declared.pointer.Pointer.{Pointer}
use Rattle.pass_kept_proof.specs.run_memory.declared.pointer.Value.{Value}
use Rattle.pass_kept_proof.specs.run_step.Step.{AtInstr, Fetched}
use Rattle.pass_kept_proof.specs.run_step.Values.{Env, operand_value}

-- the rights of owners, but that pointers are compared at such offsets alone
abbrev pub small_rights : Rights
small_rights = record owner_rights {
  is_comparable = λ b x offset. nat_lt offset (2 ^ 64) && owner_rights.is_comparable b x offset;
}

abbrev pub HasSmallOffset : Value → Type 0
HasSmallOffset (Value.Ptr (Pointer.At b o)) = o.bits < 2 ^ 64
HasSmallOffset _ = Unit {0}

-- the pointers that an instruction compares have such offsets
abbrev pub ComparesSmall : Module → Env → Fetched → Type 0
ComparesSmall m env (AtInstr (Instr.Icmp name pred ty a b)) =
    HasSmallOffset (operand_value m env ty a) × HasSmallOffset (operand_value m env ty b)
ComparesSmall m env _ = Unit {0}

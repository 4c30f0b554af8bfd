-- Lemmas on behind.
use Rattle.std.specs.Prelude.{◌≡◌, ℕ, true, List, Option}
use Rattle.pass_fetch_proof.specs.addresses.rules.Addresses.{lies_in_frame}
use Rattle.pass_edges_proof.specs.rule_uses.Uses.{values_at}
use Rattle.ir_model.specs.Names.{position_of}
use Rattle.ir_model.specs.declared.instr.Incoming.{Incoming}
use Rattle.ir_model.specs.declared.module.Function.{Function}
use Rattle.ir_model.specs.declared.operand.Operand.{Operand}
use Rattle.pass_edges_proof.specs.rule_laws.rules.woven_rules.Weaving.{IsThere}

-- ---- uses

-- if the operand is a name in the frame, each path from the entry has made begin's value
abbrev pub IsBehind : Function → ℕ → List (Option ℕ) → ℕ → List ℕ → Operand → Type 0
IsBehind f begin offsets block before (Operand.Local v) = lies_in_frame offsets v ≡ true → IsThere f block before begin
IsBehind f begin offsets block before _ = Unit {0}

-- an operand of a phi stands at the end of the block from which it comes
abbrev pub IsIncomingBehind : Function → ℕ → List (Option ℕ) → Incoming → Type 0
IsIncomingBehind f begin offsets i = IsBehind f begin offsets (position_of f i.from) (values_at f (position_of f i.from)) i.value

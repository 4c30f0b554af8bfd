-- Intrinsics by which both runs ask for the same: the coroutine's identity, its frame's size and alignment, and the
-- frame's address.
use Rattle.std.specs.Prelude.{◌≡◌, ℕ, Bool, true, false, List, Option}
use Rattle.pass_elide_proof.specs.Elision.{Elision}
use Rattle.pass_elide_proof.specs.Ordinary.{IsAtOwn}
use Rattle.pass_proofs.specs.ir_model.Ty.{Ty}
use Rattle.pass_proofs.specs.ir_model.declared.instr.Instr.{Instr}
use Rattle.pass_proofs.specs.ir_model.declared.operand.Arg.{Arg}
use Rattle.pass_proofs.specs.ir_model.declared.operand.Callee.{Callee}
use Rattle.pass_proofs.specs.ir_model.declared.operand.Intrinsic.{Intrinsic}
use Rattle.pass_proofs.specs.run_source.declared.state.State.{State}

abbrev pub asks_same : Intrinsic → Bool
asks_same Intrinsic.CoroId = true
asks_same Intrinsic.CoroSizeI32 = true
asks_same Intrinsic.CoroSizeI64 = true
asks_same Intrinsic.CoroAlignI32 = true
asks_same Intrinsic.CoroAlignI64 = true
asks_same Intrinsic.CoroFrame = true
asks_same _ = false

-- both runs execute it
pub record IsAtAsking (e : Elision) (s t : State) (j : Intrinsic) (result : Option ℕ) (must_tail : Bool)
    (ty : Option Ty) (args : List Arg) : Type 0 where
  pub own : IsAtOwn e s t (Instr.Call result must_tail ty (Callee.Intrinsic j) args)
  pub asks : asks_same j ≡ true

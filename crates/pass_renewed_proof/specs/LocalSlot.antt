-- A slot that is used behind the suspend alone is made anew by the resume; one that is used before it alone stays the ramp's.
use Rattle.std.specs.Prelude.{ℕ, Bool, List, Option, true, false, [], pos, Some, None, codes, refl, ◌≡◌, ◌∷◌, ◌==◌}
use Rattle.pass_kept_proof.specs.ir_base.declared.name.Name.{Name}
use Rattle.pass_kept_proof.specs.ir_base.declared.outcome.Outcome.{Outcome}
use Rattle.pass_kept_proof.specs.ir_model.Ty.{int, ptr, token}
use Rattle.pass_kept_proof.specs.ir_model.declared.instr.Instr.{Instr}
use Rattle.pass_kept_proof.specs.ir_model.declared.instr.Terminator.{Terminator}
use Rattle.pass_kept_proof.specs.ir_model.declared.module.Module.{Module}
use Rattle.pass_kept_proof.specs.ir_model.declared.operand.Allocator.{Allocator}
use Rattle.pass_kept_proof.specs.ir_model.declared.operand.Callee.{Callee}
use Rattle.pass_kept_proof.specs.ir_model.declared.operand.Intrinsic.{Intrinsic}
use Rattle.pass_kept_proof.specs.ir_model.declared.operand.Operand.{Operand}
use Rattle.pass_kept_proof.specs.run_step.Runs.{Seen}
use Rattle.pass_kept_proof.specs.ir_model.declared.module.Frame.{Frame}
use Rattle.pass_kept_proof.specs.Machines.{kept_machine}
use Rattle.pass_renewed_proof.specs.Prices.{Prices, kept_price, renewed_machine, renewed_price}
use Rattle.pass_renewed_proof.specs.Renewed.{RenewedAt, renewed_given}
use Rattle.pass_kept_proof.specs.run_agreement.Costs.{cost_at}
use Rattle.pass_kept_proof.specs.run_source.Source.{given}

abbrev pub the_module : Module
the_module = record { types = []; globals = []; declarations = (record { name = (Name.Text (codes "print")); result = None; params = ((int 32) ∷ []) } ∷ record { name = (Name.Text (codes "malloc")); result = (Some ptr); params = ((int 32) ∷ []) } ∷ record { name = (Name.Text (codes "free")); result = None; params = (ptr ∷ []) } ∷ []); functions = (record { name = (Name.Text (codes "f")); result = (Some ptr); params = []; coroutine = true; blocks = (record { label = 0; phis = []; instrs = ((Instr.Alloca 1 (int 32) 4) ∷ (Instr.Alloca 2 (int 32) 4) ∷ (Instr.Call (Some 3) false (Some token) (Callee.Intrinsic Intrinsic.CoroId) (record { ty = (int 32); value = (Operand.Number (pos 0)) } ∷ record { ty = ptr; value = Operand.Null } ∷ record { ty = ptr; value = Operand.Null } ∷ record { ty = ptr; value = Operand.Null } ∷ [])) ∷ (Instr.Call (Some 4) false (Some (int 32)) (Callee.Intrinsic Intrinsic.CoroSizeI32) []) ∷ (Instr.Call (Some 5) false (Some ptr) (Callee.Allocator Allocator.Malloc) (record { ty = (int 32); value = (Operand.Local 4) } ∷ [])) ∷ (Instr.Call (Some 6) false (Some ptr) (Callee.Intrinsic Intrinsic.CoroBegin) (record { ty = token; value = (Operand.Local 3) } ∷ record { ty = ptr; value = (Operand.Local 5) } ∷ [])) ∷ (Instr.Store (record { ty = (int 32); value = (Operand.Number (pos 1)) }) (Operand.Local 2) 4) ∷ (Instr.Call (Some 7) false (Some (int 8)) (Callee.Intrinsic Intrinsic.CoroSuspend) (record { ty = token; value = Operand.None } ∷ record { ty = (int 1); value = Operand.False } ∷ [])) ∷ []); term = Terminator.Switch (record { ty = (int 8); value = (Operand.Local 7) }) 8 (record { arg = record { ty = (int 8); value = (Operand.Number (pos 0)) }; target = 9 } ∷ record { arg = record { ty = (int 8); value = (Operand.Number (pos 1)) }; target = 10 } ∷ []) } ∷ record { label = 9; phis = []; instrs = ((Instr.Store (record { ty = (int 32); value = (Operand.Number (pos 2)) }) (Operand.Local 1) 4) ∷ (Instr.Load 11 (int 32) (Operand.Local 1) 4) ∷ (Instr.Call None false None (Callee.Named (Name.Text (codes "print"))) (record { ty = (int 32); value = (Operand.Local 11) } ∷ [])) ∷ []); term = Terminator.Jump 10 } ∷ record { label = 10; phis = []; instrs = ((Instr.Call (Some 12) false (Some ptr) (Callee.Intrinsic Intrinsic.CoroFree) (record { ty = token; value = (Operand.Local 3) } ∷ record { ty = ptr; value = (Operand.Local 6) } ∷ [])) ∷ (Instr.Call None false None (Callee.Allocator Allocator.Free) (record { ty = ptr; value = (Operand.Local 12) } ∷ [])) ∷ []); term = Terminator.Jump 8 } ∷ record { label = 8; phis = []; instrs = ((Instr.Call (Some 13) false (Some (int 1)) (Callee.Intrinsic Intrinsic.CoroEnd) (record { ty = ptr; value = (Operand.Local 6) } ∷ record { ty = (int 1); value = Operand.False } ∷ record { ty = token; value = Operand.None } ∷ [])) ∷ []); term = Terminator.Ret (Some (record { ty = ptr; value = (Operand.Local 6) })) } ∷ []); names = ((Name.Text (codes "entry")) ∷ (Name.Text (codes "a")) ∷ (Name.Text (codes "b")) ∷ (Name.Text (codes "id")) ∷ (Name.Text (codes "size")) ∷ (Name.Text (codes "m")) ∷ (Name.Text (codes "h")) ∷ (Name.Text (codes "s")) ∷ (Name.Text (codes "end")) ∷ (Name.Text (codes "r")) ∷ (Name.Text (codes "clean")) ∷ (Name.Text (codes "x")) ∷ (Name.Text (codes "fm")) ∷ (Name.Text (codes "e")) ∷ []) } ∷ record { name = (Name.Text (codes "main")); result = (Some (int 32)); params = []; coroutine = false; blocks = (record { label = 0; phis = []; instrs = ((Instr.Call (Some 1) false (Some ptr) (Callee.Named (Name.Text (codes "f"))) []) ∷ (Instr.Call None false None (Callee.Intrinsic Intrinsic.CoroResume) (record { ty = ptr; value = (Operand.Local 1) } ∷ [])) ∷ []); term = Terminator.Ret (Some (record { ty = (int 32); value = (Operand.Number (pos 0)) })) } ∷ []); names = ((Name.Text (codes "entry")) ∷ (Name.Text (codes "h")) ∷ []) } ∷ []) }

abbrev pub flags : ℕ → ℕ → Bool
flags func v = (v == 1)

abbrev pub slots : ℕ → ℕ → Option ℕ
slots func v = None

abbrev pub expected : Seen
expected = record { events = (record { name = Name.Text (codes "print"); args = (record { width = 32; bits = 2 } ∷ []) } ∷ []); outcome = (Outcome.Returned (Some (record { width = 32; bits = 0 }))); allocs = 1 }

abbrev pub Computes : Type 0
Computes = RenewedAt the_module (λ func suspend v. true) flags slots (record { coroutine = 0; size = 24; align = 8 } ∷ []) 1 [] [] 60 ≡ expected

pub computes : Computes
computes = refl

-- ---- prices

-- the sizes that are printed
abbrev pub sizes : List Frame
sizes = record { coroutine = 0; size = 24; align = 8 } ∷ []

-- a resume costs 3 and a slot that is made anew 5, any other step 2
abbrev pub prices : Prices
prices = record { step = λ func block at. 2; resume = λ func. 3; slot = λ func at. 5 }

-- the run returns after 22 steps, and after 23 where the resume makes the slot anew; both cost the same
abbrev pub IsPaid : Type 0
IsPaid =
    cost_at (renewed_machine the_module (λ func suspend v. true) flags slots sizes 1 [] [])
    (renewed_price prices (renewed_given the_module (λ func suspend v. true) flags slots sizes []).given) 23
    ≡ cost_at (kept_machine the_module (λ func suspend v. true) sizes 1 [] [])
    (kept_price prices flags (given the_module sizes [])) 22

pub paid : IsPaid
paid = refl

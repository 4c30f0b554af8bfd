-- A worked run in which two slots with markers live where their coroutine is suspended.
use Rattle.std.specs.Prelude.{ℕ, Bool, List, true, false, [], pos, Some, None, codes, map, flat_map, refl, ◌≡◌, ◌∷◌}
use Rattle.pass_renewed_proof.specs.ir_base.declared.name.Name.{Name}
use Rattle.pass_renewed_proof.specs.ir_model.Ty.{int, ptr, token}
use Rattle.pass_renewed_proof.specs.ir_model.declared.instr.Instr.{Instr}
use Rattle.pass_renewed_proof.specs.ir_model.declared.instr.Terminator.{Terminator}
use Rattle.pass_renewed_proof.specs.ir_model.declared.module.Module.{Module}
use Rattle.pass_renewed_proof.specs.ir_model.declared.operand.Allocator.{Allocator}
use Rattle.pass_renewed_proof.specs.ir_model.declared.operand.Callee.{Callee}
use Rattle.pass_renewed_proof.specs.ir_model.declared.operand.Intrinsic.{Intrinsic}
use Rattle.pass_renewed_proof.specs.ir_model.declared.operand.Operand.{Operand}
use Rattle.run_hooks.specs.alive.Slots.{lives}
use Rattle.pass_renewed_proof.specs.run_source.Source.{given, state_at}
use Rattle.pass_renewed_proof.specs.run_source.State.{is_suspended}
use Rattle.pass_renewed_proof.specs.run_source.declared.state.State.{State}

-- entry: %a = alloca i32  %b = alloca i32  %id = ..  %size = ..  %m = call ptr @malloc  %h = .. begin
--        start %a  start %b  store 1 to %a  store 2 to %b  %s = suspend  switch to %end, %r, %clean
-- r: end %a  end %b  br %clean   clean: free  br %end   end: coro.end  ret
abbrev pub the_module : Module
the_module = record { types = []; globals = []; declarations = (record { name = (Name.Text (codes "malloc")); result = (Some ptr); params = ((int 32) ∷ []) } ∷ record { name = (Name.Text (codes "free")); result = None; params = (ptr ∷ []) } ∷ []); functions = (record { name = (Name.Text (codes "f")); result = (Some ptr); params = []; coroutine = true; blocks = (record { label = 0; phis = []; instrs = ((Instr.Alloca 1 (int 32) 4) ∷ (Instr.Alloca 2 (int 32) 4) ∷ (Instr.Call (Some 3) false (Some token) (Callee.Intrinsic Intrinsic.CoroId) (record { ty = (int 32); value = (Operand.Number (pos 0)) } ∷ record { ty = ptr; value = Operand.Null } ∷ record { ty = ptr; value = Operand.Null } ∷ record { ty = ptr; value = Operand.Null } ∷ [])) ∷ (Instr.Call (Some 4) false (Some (int 32)) (Callee.Intrinsic Intrinsic.CoroSizeI32) []) ∷ (Instr.Call (Some 5) false (Some ptr) (Callee.Allocator Allocator.Malloc) (record { ty = (int 32); value = (Operand.Local 4) } ∷ [])) ∷ (Instr.Call (Some 6) false (Some ptr) (Callee.Intrinsic Intrinsic.CoroBegin) (record { ty = token; value = (Operand.Local 3) } ∷ record { ty = ptr; value = (Operand.Local 5) } ∷ [])) ∷ (Instr.Call None false None (Callee.Intrinsic Intrinsic.LifetimeStart) (record { ty = (int 64); value = (Operand.Number (pos 4)) } ∷ record { ty = ptr; value = (Operand.Local 1) } ∷ [])) ∷ (Instr.Call None false None (Callee.Intrinsic Intrinsic.LifetimeStart) (record { ty = (int 64); value = (Operand.Number (pos 4)) } ∷ record { ty = ptr; value = (Operand.Local 2) } ∷ [])) ∷ (Instr.Store (record { ty = (int 32); value = (Operand.Number (pos 1)) }) (Operand.Local 1) 4) ∷ (Instr.Store (record { ty = (int 32); value = (Operand.Number (pos 2)) }) (Operand.Local 2) 4) ∷ (Instr.Call (Some 7) false (Some (int 8)) (Callee.Intrinsic Intrinsic.CoroSuspend) (record { ty = token; value = Operand.None } ∷ record { ty = (int 1); value = Operand.False } ∷ [])) ∷ []); term = Terminator.Switch (record { ty = (int 8); value = (Operand.Local 7) }) 8 (record { arg = record { ty = (int 8); value = (Operand.Number (pos 0)) }; target = 9 } ∷ record { arg = record { ty = (int 8); value = (Operand.Number (pos 1)) }; target = 10 } ∷ []) } ∷ record { label = 9; phis = []; instrs = ((Instr.Call None false None (Callee.Intrinsic Intrinsic.LifetimeEnd) (record { ty = (int 64); value = (Operand.Number (pos 4)) } ∷ record { ty = ptr; value = (Operand.Local 1) } ∷ [])) ∷ (Instr.Call None false None (Callee.Intrinsic Intrinsic.LifetimeEnd) (record { ty = (int 64); value = (Operand.Number (pos 4)) } ∷ record { ty = ptr; value = (Operand.Local 2) } ∷ [])) ∷ []); term = Terminator.Jump 10 } ∷ record { label = 10; phis = []; instrs = ((Instr.Call (Some 11) false (Some ptr) (Callee.Intrinsic Intrinsic.CoroFree) (record { ty = token; value = (Operand.Local 3) } ∷ record { ty = ptr; value = (Operand.Local 6) } ∷ [])) ∷ (Instr.Call None false None (Callee.Allocator Allocator.Free) (record { ty = ptr; value = (Operand.Local 11) } ∷ [])) ∷ []); term = Terminator.Jump 8 } ∷ record { label = 8; phis = []; instrs = ((Instr.Call (Some 12) false (Some (int 1)) (Callee.Intrinsic Intrinsic.CoroEnd) (record { ty = ptr; value = (Operand.Local 6) } ∷ record { ty = (int 1); value = Operand.False } ∷ record { ty = token; value = Operand.None } ∷ [])) ∷ []); term = Terminator.Ret (Some (record { ty = ptr; value = (Operand.Local 6) })) } ∷ []); names = ((Name.Text (codes "entry")) ∷ (Name.Text (codes "a")) ∷ (Name.Text (codes "b")) ∷ (Name.Text (codes "id")) ∷ (Name.Text (codes "size")) ∷ (Name.Text (codes "m")) ∷ (Name.Text (codes "h")) ∷ (Name.Text (codes "s")) ∷ (Name.Text (codes "end")) ∷ (Name.Text (codes "r")) ∷ (Name.Text (codes "clean")) ∷ (Name.Text (codes "fm")) ∷ (Name.Text (codes "e")) ∷ []) } ∷ record { name = (Name.Text (codes "main")); result = (Some (int 32)); params = []; coroutine = false; blocks = (record { label = 0; phis = []; instrs = ((Instr.Call (Some 1) false (Some ptr) (Callee.Named (Name.Text (codes "f"))) []) ∷ (Instr.Call None false None (Callee.Intrinsic Intrinsic.CoroResume) (record { ty = ptr; value = (Operand.Local 1) } ∷ [])) ∷ []); term = Terminator.Ret (Some (record { ty = (int 32); value = (Operand.Number (pos 0)) })) } ∷ []); names = ((Name.Text (codes "entry")) ∷ (Name.Text (codes "h")) ∷ []) } ∷ []) }

abbrev pub the_state : ℕ → State
the_state n = state_at (given the_module (record { coroutine = 0; size = 32; align = 8 } ∷ []) []) 1 [] n

-- of each instance whether it is Suspended
abbrev pub suspended_in : State → List Bool
suspended_in s = map (λ x. is_suspended x.status) s.instances

-- and of each of its slots whether it lives
abbrev pub living_in : State → List Bool
living_in s = flat_map (λ x. map (λ slot. lives s.world.memory slot.block) x.slots) s.instances

-- when the ramp has returned, the coroutine is suspended and both live; a step behind the resume one has ended
abbrev pub Computes : Type 0
Computes = (suspended_in (the_state 15) ≡ true ∷ []) × (living_in (the_state 15) ≡ true ∷ true ∷ [])
    × (living_in (the_state 17) ≡ true ∷ false ∷ [])

pub computes : Computes
computes = (refl, refl, refl)

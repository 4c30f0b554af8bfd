-- The slot of an alloca, and what phis take.
use Rattle.std.proofs.Common.{◌≡◌, ℕ, ◌-◌, List, [], ◌∷◌, length, map, refl, ap, sym, ◌∙◌, arith, Option, Some, true}
use Rattle.std.specs.Prelude.{◌^◌}
use Rattle.ir_model.specs.declared.instr.Phi.{Phi}
use Rattle.ir_model.specs.declared.module.Param.{Param}
use Rattle.run_memory.specs.declared.block.MemoryBlock.{MemoryBlock}
use Rattle.run_memory.specs.declared.pointer.Value.{Value}
use Rattle.ir_base.specs.declared.cause.Cause.{Cause}
use Rattle.run_step.specs.Effects.{slot_memory, with_taken}
use Rattle.run_step.specs.Step.{Context, NewSlot, Stuck, Work, alloca, if_alignment, is_alignment, with_all, with_params}
use Rattle.run_step.specs.Values.{Env, capped, pointer_to, with_value}
use Rattle.run_step.proofs.Lists.{if-true}

-- ---- an alloca

exact : (n size : ℕ) → n ≡ capped size → (n ≡ 2 ^ 64 - 1 → ⊥) → n ≡ size
exact n size e h = omega arith

pub slot-made : (c : Context) (w : Work) (name size n align block : ℕ) (memory : List MemoryBlock) (env : Env) → is_alignment align ≡ true → n ≡ capped size → (n ≡ 2 ^ 64 - 1 → ⊥) → memory ≡ slot_memory c.function w.world.memory name n align → block ≡ length w.world.memory → env ≡ with_value w.values name (pointer_to block) → if_alignment align (alloca c w name size align) ≡ NewSlot (record { world = record w.world { memory = memory }; values = env }) (record { alloca = name; block = block })
slot-made c w name size n align block memory env a cap max mem at vals =
    let s : n ≡ size = exact n size cap max in
    let M = slot_memory c.function w.world.memory name size align in
    let mem2 : memory ≡ M = mem ∙ ap (λ k. slot_memory c.function w.world.memory name k align) s in
    if-true (is_alignment align) (alloca c w name size align) (Stuck Cause.Align) a
    ∙ ap (λ b. NewSlot (record { world = record w.world { memory = M }; values = with_value w.values name (pointer_to b) }) (record { alloca = name; block = b })) (sym at)
    ∙ ap (λ v. NewSlot (record { world = record w.world { memory = M }; values = v }) (record { alloca = name; block = block })) (sym vals)
    ∙ ap (λ x. NewSlot (record { world = record w.world { memory = x }; values = env }) (record { alloca = name; block = block })) (sym mem2)

-- ---- phis

pub taken-is : (env : Env) (f : Phi → Value) (phis : List Phi) → with_taken env phis (map (λ p. Some (f p)) phis) ≡ with_all env (map (λ p. (p.result, f p)) phis)
taken-is env f [] = refl
taken-is env f (p ∷ phis) = taken-is (with_value env p.result (f p)) f phis

pub no-args : (env : Env) (params : List Param) → with_params env params [] ≡ env
no-args env [] = refl
no-args env (p ∷ params) = refl

pub none-taken : (env : Env) (phis : List Phi) → with_taken env phis [] ≡ env
none-taken env [] = refl
none-taken env (p ∷ phis) = refl

-- A call of an allocator makes a block in both runs, and leads to states beside each other.
use Rattle.std.proofs.Common.{◌≡◌, ℕ, ◌<◌, ◌^◌, true, List, [], ◌∷◌, ◌++◌, length, Option}
use Rattle.std.proofs.Common.{refl, sym, ap, ◌∙◌, subst, Bool}
use Rattle.std.proofs.lemmas.Bool.{false≢true}
use Rattle.std.proofs.lemmas.List.{length-replicate}
use Rattle.std.specs.Prelude.{ℤ}
use Rattle.pass_kept_proof.specs.ir_base.declared.cause.Cause.{Cause}
use Rattle.pass_kept_proof.specs.ir_model.Names.{function_at}
use Rattle.pass_kept_proof.specs.ir_model.Ty.{Ty}
use Rattle.pass_kept_proof.specs.ir_model.declared.instr.Instr.{Instr}
use Rattle.pass_kept_proof.specs.ir_model.declared.module.Module.{Module}
use Rattle.pass_kept_proof.specs.ir_model.declared.operand.Allocator.{Allocator}
use Rattle.pass_kept_proof.specs.ir_model.declared.operand.Arg.{Arg}
use Rattle.pass_kept_proof.specs.ir_model.declared.operand.Callee.{Callee}
use Rattle.run_laws.specs.embedded.Making.{IsSmall, whole_home}
use Rattle.run_laws.specs.memory.Pointers.{Home, IsValue, home_of}
use Rattle.run_laws.specs.memory.Standing.{blank_block}
use Rattle.pass_kept_proof.specs.run_memory.Memory.{fresh, owner_rights}
use Rattle.pass_kept_proof.specs.run_memory.Pointers.{moved, offset_of}
use Rattle.pass_kept_proof.specs.run_memory.declared.block.Byte.{Byte}
use Rattle.pass_kept_proof.specs.run_memory.declared.block.Kind.{Kind}
use Rattle.pass_kept_proof.specs.run_memory.declared.block.MemoryBlock.{MemoryBlock}
use Rattle.pass_kept_proof.specs.run_memory.declared.pointer.Pointer.{Pointer}
use Rattle.pass_kept_proof.specs.run_memory.declared.pointer.Value.{Value}
use Rattle.pass_kept_proof.specs.run_source.State.{settled, work_of}
use Rattle.pass_kept_proof.specs.run_source.declared.state.Activation.{Activation}
use Rattle.pass_kept_proof.specs.run_source.declared.state.State.{State}
use Rattle.pass_kept_proof.specs.run_step.Step.{Action, AtInstr, Done, Stuck, Work, action_of, allocated, allocator_call, risen}
use Rattle.pass_kept_proof.specs.run_step.Step.{with_length}
use Rattle.pass_kept_proof.specs.run_step.Values.{arg_values, nth, pointer_to}
use Rattle.pass_kept_proof.specs.run_step.declared.world.World.{World}
use Rattle.pass_renewed_proof.proofs.Giving.{of_giving, given_beside, same_nth}
use Rattle.pass_renewed_proof.proofs.Grown.{block_stands, home_now}
use Rattle.pass_renewed_proof.proofs.NewBlock.{block_carried, block_entered, block_kept}
use Rattle.pass_renewed_proof.specs.Beside.{IsBeside}
use Rattle.pass_renewed_proof.specs.Ledger.{Ledger, block_ledger}
use Rattle.pass_renewed_proof.specs.Making.{IsAllocating, allocates}
use Rattle.pass_renewed_proof.specs.Muted.{muted}
use Rattle.pass_renewed_proof.specs.Places.{AreStanding}
use Rattle.pass_renewed_proof.specs.Renewed.{Flags, Roots}
use Rattle.pass_renewed_proof.specs.SlotRules.{KeepsSlots}
use Rattle.pass_renewed_proof.specs.Steps.{AreOver}

module _ (m : Module) (flags : Flags) (roots : Roots) (keeps : (func : ℕ)
    → KeepsSlots m (function_at m func) (flags func) (roots func)) (s t : State) (beside : IsBeside m flags roots s t)
    (allocator : Allocator) (result : Option ℕ) (must_tail : Bool) (ty : Option Ty) (args : List Arg)
    (is : IsAllocating m roots s.top allocator result must_tail ty args) where
  abbrev l : Ledger
  l = beside.ledger

  abbrev k : Ledger
  k = block_ledger beside.ledger (length s.world.memory) (length t.world.memory)

  st : AreStanding beside.ledger.homes (muted beside.ledger.hides s.world.memory) t.world.memory
  st = record {
    memory = beside.world.memory;
    nulls = beside.world.nulls;
    bounds = beside.world.bounds;
  }

  module _ (size : ℕ) (small : size < 2 ^ 64) where
    abbrev x : MemoryBlock
    x = blank_block size 16 Kind.Allocator

    abbrev made : World → World
    made w = record w { memory = fresh w.memory size 16 Kind.Allocator; allocs = risen w.allocs }

    now : home_of (beside.ledger.homes ++ whole_home (length t.world.memory) ∷ []) (length s.world.memory)
        ≡ whole_home (length t.world.memory)
    now = home_now m beside.ledger s.world.memory t.world.memory x st beside.entered (whole_home (length
        t.world.memory))

    address_stands : IsValue (beside.ledger.homes ++ whole_home (length t.world.memory) ∷ []) (pointer_to (length
        s.world.memory)) (pointer_to (length t.world.memory))
    address_stands = (
      ap (λ (q : Home). q.is_seen) now,
      ap (λ (q : Home). Value.Ptr (Pointer.At q.block (moved (offset_of 0) q.offset))) (sym now),
    )

    over : AreOver (beside.ledger.homes ++ whole_home (length t.world.memory) ∷ []) beside.ledger.hides (made s.world)
        (made t.world)
    over =
        let stands = block_stands m beside.ledger s.world.memory t.world.memory x st beside.entered Kind.Allocator
        small refl refl in
        record {
          memory = stands.memory;
          nulls = stands.nulls;
          bounds = stands.bounds;
          events = beside.world.events;
          answers = beside.world.answers;
          allocs = ap risen beside.world.allocs;
        }

    pub allocated_beside : IsBeside m flags roots (settled s (allocated (work_of s) result size)) (settled t (allocated
        (work_of t) result size))
    allocated_beside = given_beside m flags roots keeps s t beside k (made s.world) (made t.world)
        (block_carried m l s.world.memory t.world.memory x x st beside.entered refl refl (length-replicate size
        Byte.Undefined))
        (block_kept m l s.world.memory t.world.memory x x st beside.entered refl refl (length-replicate size
        Byte.Undefined))
        (Instr.Call result must_tail ty (Callee.Allocator allocator) args) result (pointer_to (length
        s.world.memory)) (pointer_to (length t.world.memory)) (of_giving m flags roots k s.top _ result _ _ is.giving)
        address_stands over
        (block_entered m l s.world.memory t.world.memory x x st beside.entered refl refl (length-replicate size
        Byte.Undefined))

  -- what the second run does, by what the first has done
  abbrev Goes : Work → Action → Type 0
  Goes v b = (y : Work) × (b ≡ Done y) × IsBeside m flags roots (settled s v) (settled t y)

  by_word : (v : Work) (u : Value) → nth (arg_values m s.top.values args) 0 ≡ u → IsSmall u
      → with_length u (λ n. Done (allocated (work_of s) result n)) ≡ Done v
      → Goes v (with_length (nth (arg_values m t.top.values args) 0) (λ n. Done (allocated (work_of t) result n)))
  by_word v Value.Poison e small done = let c : Stuck Cause.Poison ≡ Done v = done in absurd (cc)
  by_word v (Value.Ptr p) e small done = let c : Stuck Cause.Poison ≡ Done v = done in absurd (cc)
  by_word v (Value.Int n) e small done =
      let same = same_nth l.homes (roots s.top.func) m s.top.values beside.top.values beside.top.envs args 0 n e in
      let there : nth (arg_values m t.top.values args) 0 ≡ Value.Int n = ap (λ (z : Activation). nth (arg_values m
      z.values args) 0) beside.top.is ∙ same in
      let first : allocated (work_of s) result n.bits ≡ v = same_done done in (
        allocated (work_of t) result n.bits,
        ap (λ z. with_length z (λ i. Done (allocated (work_of t) result i))) there,
        subst (λ z. IsBeside m flags roots (settled s z) (settled t (allocated (work_of t) result n.bits))) first
            (allocated_beside n.bits (small n refl)),
      )
    where
      same_done : {a b : Work} → Done a ≡ Done b → a ≡ b
      same_done q = cc

  pub allocation_beside : (answers : List ℤ) → IsSmall (nth (arg_values m s.top.values args) 0) → (v : Work)
      → action_of (record {
        code = m;
        answers = answers;
        rights = owner_rights;
        function = function_at m s.top.func;
      }) (work_of s) (AtInstr (Instr.Call result must_tail ty (Callee.Allocator allocator) args)) ≡ Done v
      → (y : Work) × (action_of (record {
        code = m;
        answers = answers;
        rights = owner_rights;
        function = function_at m s.top.func;
      }) (work_of t) (AtInstr (Instr.Call result must_tail ty (Callee.Allocator allocator) args)) ≡ Done
      y) × IsBeside m flags roots (settled s v) (settled t y)
  allocation_beside answers small v done = by allocator is.is done
    where
      by : (a : Allocator) → allocates a ≡ true → allocator_call a (work_of s) result (arg_values m s.top.values args)
          ≡ Done v → Goes v (allocator_call a (work_of t) result (arg_values m t.top.values args))
      by Allocator.Malloc is d = by_word v (nth (arg_values m s.top.values args) 0) refl small d
      by Allocator.Znwm is d = by_word v (nth (arg_values m s.top.values args) 0) refl small d
      by Allocator.Free is d = absurd (false≢true is)
      by Allocator.ZdlPv is d = absurd (false≢true is)
      by Allocator.ZdlPvm is d = absurd (false≢true is)

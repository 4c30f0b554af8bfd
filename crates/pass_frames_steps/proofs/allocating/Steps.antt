-- The step of the first run at an alloca of a ramp.
use Rattle.std.proofs.Common.{◌≡◌, ◌≢◌, ◌+◌, ◌&&◌, ◌==◌, ◌∷◌, ◌++◌, ◌∙◌, [], if◌then◌else◌, Bool, List, None, Option, Some, ap, false, length, not, refl, suc, sym, true, zero, ℕ}
use Rattle.std.specs.List.{list_any}
use Rattle.std.specs.Prelude.{option_and_then, option_map, slice_get, slice_set}
use Rattle.pass_frames_code.specs.ir_base.declared.cause.Cause.{Cause}
use Rattle.pass_frames_code.specs.ir_model.Layout.{size_of}
use Rattle.pass_frames_code.specs.ir_model.Ty.{Ty}
use Rattle.pass_frames_code.specs.ir_model.declared.instr.Instr.{Instr}
use Rattle.pass_frames_code.specs.ir_model.declared.module.Function.{Function}
use Rattle.pass_frames_steps.proofs.allocating.Both.{end_block, made_memory, new_block}
use Rattle.pass_frames_steps.proofs.allocating.Plain.{early_slot, new_slot_by}
use Rattle.pass_frames_code.proofs.stepping.Codes.{instr_there}
use Rattle.pass_frames_code.proofs.stepping.Stands.{renewed_does}
use Rattle.pass_frames_code.specs.Allocating.{IsAtAlloca, IsAtRampAlloca, IsFrameBehind, IsOwnBehind}
use Rattle.pass_frames_code.specs.Places.{Framing, edged}
use Rattle.pass_frames_code.specs.Related.{Building}
use Rattle.pass_frames_code.specs.Stepping.{AreGiven, IsNotEntering}
use Rattle.pass_frames_code.specs.pass_renewed_proof.Renewed.{RenewedGiven, renewed_slot, renewed_step}
use Rattle.pass_frames_code.specs.run_memory.Memory.{killed, killed_block, start, started}
use Rattle.pass_frames_code.specs.run_memory.declared.block.Kind.{Kind}
use Rattle.pass_frames_code.specs.run_memory.declared.block.MemoryBlock.{MemoryBlock}
use Rattle.pass_frames_code.specs.run_source.Source.{context_of, is_over, kill_late, new_slot, with_new_slots}
use Rattle.pass_frames_code.specs.run_source.State.{function_of, own_facts, with_instance, with_memory, with_slots, work_of, numbered}
use Rattle.pass_frames_code.specs.run_source.declared.state.Instance.{Instance}
use Rattle.pass_frames_code.specs.run_source.declared.state.State.{State}
use Rattle.pass_frames_code.specs.run_step.Step.{AtInstr, NewSlot, Stuck, Work, alloca, alloca_kind, fetch, has_markers, instr_action}
use Rattle.pass_frames_code.specs.run_step.Values.{Env, pointer_to, with_value}
use Rattle.pass_frames_code.specs.run_step.declared.world.Slot.{Slot}

-- ---- the block that is made

-- whether it has ended at first: not where it is made anew
abbrev pub ends_first : (flagged ends : Bool) → Bool
ends_first flagged ends = if flagged then false else ends

pub started_new : (ends : Bool) (size align : ℕ) (kind : Kind)
    → started (new_block ends size align kind) ≡ new_block false size align kind
started_new true size align kind = refl
started_new false size align kind = refl

same_set : {A : Type 0} (xs : List A) (i : ℕ) (x : A) → slice_get xs i ≡ Some x → slice_set xs i x ≡ xs
same_set [] i x e = absurd (cc)
same_set {A = A} (y ∷ xs) zero x e = let same : y ≡ x = cc in ap (λ (z : A). z ∷ xs) (sym same)
same_set {A = A} (y ∷ xs) (suc i) x e = ap (λ (zs : List A). y ∷ zs) (same_set xs i x e)

pub set_here : {A : Type 0} (xs : List A) (i : ℕ) (x z : A) → slice_get xs i ≡ Some z
    → slice_get (slice_set xs i x) i ≡ Some x
set_here [] i x z e = absurd (cc)
set_here (y ∷ xs) zero x z e = refl
set_here (y ∷ xs) (suc i) x z e = set_here xs i x z e

pub set_other : {A : Type 0} (xs : List A) (i k : ℕ) (x : A) → k ≢ i
    → slice_get (slice_set xs i x) k ≡ slice_get xs k
set_other [] i k x ne = refl
set_other (y ∷ xs) zero zero x ne = absurd (ne refl)
set_other (y ∷ xs) zero (suc k) x ne = refl
set_other (y ∷ xs) (suc i) zero x ne = refl
set_other (y ∷ xs) (suc i) (suc k) x ne = set_other xs i k x (λ e. ne (ap suc e))

pub set_length : {A : Type 0} (xs : List A) (i : ℕ) (x : A) → length (slice_set xs i x) ≡ length xs
set_length [] i x = refl
set_length (y ∷ xs) zero x = refl
set_length (y ∷ xs) (suc i) x = ap suc (set_length xs i x)

-- a slot that comes to an instance which is over is dead at once
abbrev pub late_block : Bool → MemoryBlock → MemoryBlock
late_block true x = killed_block x
late_block false x = x

-- ---- the step itself, whatever becomes of the slot

module _ (b : Building) (g : RenewedGiven) (given : AreGiven b g) (s : State) (name : ℕ) (ty : Ty) (align : ℕ)
    (h : IsAtAlloca b s name ty align) where
  abbrev n1 : ℕ
  n1 = length s.world.memory

  abbrev X1 : Framing
  X1 = b.framing s.top.func

  abbrev f1 : Function
  f1 = function_of g.given s

  abbrev ends1 : Bool
  ends1 = ends_first (g.flags s.top.func name) (has_markers (edged X1) name)

  abbrev size1 : ℕ
  size1 = size_of g.given.code ty

  abbrev x1 : MemoryBlock
  x1 = new_block ends1 size1 align Kind.Slot

  abbrev slot1 : Slot
  slot1 = record { alloca = name; block = n1 }

  abbrev env1 : Env
  env1 = with_value s.top.values name (pointer_to n1)

  -- behind the alloca, but for the slot
  abbrev behind1 : State
  behind1 = record s {
    world = record s.world { memory = s.world.memory ++ x1 ∷ [] };
    top = record s.top { at = s.top.at + 1; values = env1 };
  }

  code_is : f1 ≡ edged X1
  code_is = given.coroutines s.top.func h.coroutine

  kind_is : alloca_kind f1 ≡ Kind.Slot
  kind_is =
      ap alloca_kind code_is
      ∙ ap (λ (k : Function). if k.coroutine then Kind.Slot else Kind.Stack)
      (given.built.coroutines s.top.func h.coroutine).function
      ∙ ap (λ (c : Bool). if c then Kind.Slot else Kind.Stack) h.coroutine

  marked_is : has_markers f1 name ≡ has_markers (edged X1) name
  marked_is = ap (λ (k : Function). has_markers k name) code_is

  first_work : (m : List MemoryBlock) → Work
  first_work m = record { world = record s.world { memory = m }; values = env1 }

  does : instr_action (context_of g.given s) (work_of s) (Instr.Alloca name ty align)
      ≡ NewSlot (first_work (s.world.memory ++ new_block (has_markers (edged X1) name) size1 align Kind.Slot ∷ []))
      slot1
  unfolding first_work
  does =
      ap (λ (c : Bool). if c then alloca (context_of g.given s) (work_of s) name size1 align else Stuck Cause.Align)
      h.aligned
      ∙ ap (λ (m : List MemoryBlock). NewSlot (record {
        world = record s.world { memory = m };
        values = env1;
      }) slot1) (made_memory (has_markers f1 name) s.world.memory size1 align (alloca_kind f1))
      ∙ (λ j. NewSlot (record {
        world = record s.world {
          memory = s.world.memory ++ new_block (marked_is j) size1 align (kind_is j) ∷ [];
        };
        values = env1;
      }) slot1)

  there : fetch f1 s.top.block s.top.at ≡ AtInstr (Instr.Alloca name ty align)
  there =
      (λ j. fetch (code_is j) (h.entry_block j) s.top.at)
      ∙ instr_there (edged X1) 0 s.top.at (Instr.Alloca name ty align) h.there

  -- a slot that is made anew lives at once
  lives : (c e : Bool)
      → (if c then with_memory (record behind1 {
        world = record s.world { memory = s.world.memory ++ new_block e size1 align Kind.Slot ∷ [] };
      }) (start (s.world.memory ++ new_block e size1 align Kind.Slot ∷ []) n1) else record behind1 {
        world = record s.world { memory = s.world.memory ++ new_block e size1 align Kind.Slot ∷ [] };
      })
      ≡ record behind1 {
        world = record s.world { memory = s.world.memory ++ new_block (ends_first c e) size1 align Kind.Slot ∷ [] };
      }
  lives true e =
      ap (λ (m : List MemoryBlock). record behind1 { world = record s.world { memory = m } })
      (end_block s.world.memory (new_block e size1 align Kind.Slot) started
      ∙ ap (λ (y : MemoryBlock). s.world.memory ++ y ∷ []) (started_new e size1 align Kind.Slot))
  lives false e = refl

  pub slot_step : renewed_step g s ≡ renewed_slot g behind1 slot1 s.top.mode
  unfolding first_work
  slot_step =
      renewed_does g s (AtInstr (Instr.Alloca name ty align))
      (NewSlot (first_work (s.world.memory ++ new_block (has_markers (edged X1) name) size1 align Kind.Slot ∷ []))
      slot1)
      h.runs there refl does
      ∙ ap (λ (z : State). renewed_slot g z slot1 s.top.mode)
      (lives (g.flags s.top.func name) (has_markers (edged X1) name))

-- ---- of a ramp

at_alloca : (b : Building) (g : RenewedGiven) (s : State) (name : ℕ) (ty : Ty) (align : ℕ)
    → IsAtRampAlloca b g s name ty align → IsAtAlloca b s name ty align
at_alloca b g s name ty align h = record {
  runs = h.runs;
  coroutine = h.coroutine;
  entry_block = h.entry_block;
  there = h.there;
  aligned = h.aligned;
}

module _ (b : Building) (g : RenewedGiven) (given : AreGiven b g) (s : State) (name : ℕ) (ty : Ty) (align : ℕ)
    (h : IsAtRampAlloca b g s name ty align) where
  abbrev pub n : ℕ
  n = length s.world.memory

  abbrev pub X : Framing
  X = b.framing s.top.func

  abbrev pub f : Function
  f = function_of g.given s

  abbrev pub ends : Bool
  ends = ends_first (g.flags s.top.func name) (has_markers (edged X) name)

  abbrev pub size : ℕ
  size = size_of g.given.code ty

  abbrev pub x : MemoryBlock
  x = new_block ends size align Kind.Slot

  abbrev pub slot : Slot
  slot = record { alloca = name; block = n }

  abbrev pub env : Env
  env = with_value s.top.values name (pointer_to n)

  -- behind the alloca, but for the slot
  abbrev pub behind : State
  behind = record s {
    world = record s.world { memory = s.world.memory ++ x ∷ [] };
    top = record s.top { at = s.top.at + 1; values = env };
  }

  pub step_is : IsNotEntering s.top.mode → renewed_step g s ≡ new_slot g.given behind slot
  step_is mode =
      slot_step b g given s name ty align (at_alloca b g s name ty align h)
      ∙ new_slot_by g behind slot s.top.mode mode

  -- ---- the slot

  pub early_step : IsNotEntering s.top.mode → s.top.instance ≡ None
      → renewed_step g s ≡ with_slots behind (slot ∷ s.top.slots)
  early_step mode none = step_is mode ∙ early_slot g behind slot none

  pub own_step : IsNotEntering s.top.mode → IsOwnBehind g s name
      → renewed_step g s ≡ with_slots behind (slot ∷ s.top.slots)
  own_step mode own =
      step_is mode
      ∙ ap (λ (o : Option (ℕ × Instance)). with_new_slots ramps o (kill_late ramps o behind slot) (slot ∷ []))
      (ap (option_and_then (numbered s.instances)) own.own
      ∙ ap (option_map (λ (i : Instance). (own.number, i))) own.there)
      ∙ by (list_any (λ (a : ℕ). a == name) ramps) own.among
    where
      ramps : List ℕ
      ramps = (own_facts g.given s).ramp_slots

      by : (c : Bool) → c ≡ true
          → (let z = (if is_over own.instance && not c then with_memory behind (killed behind.world.memory n)
          else behind) in
          with_slots (with_instance z own.number (record own.instance {
            slots = (if not c then slot ∷ [] else []) ++ own.instance.slots;
          })) ((if c then slot ∷ [] else []) ++ z.top.slots))
          ≡ with_slots behind (slot ∷ s.top.slots)
      by false e = absurd (cc)
      by true e =
          ap (λ (c : Bool). let z = (if c then with_memory behind (killed behind.world.memory n) else behind) in
          with_slots (with_instance z own.number own.instance) ((slot ∷ []) ++ z.top.slots)) (never (is_over own.instance))
          ∙ ap (λ (is : List Instance). with_slots (record behind { instances = is }) (slot ∷ s.top.slots))
          (same_set s.instances own.number own.instance own.there)
        where
          never : (c : Bool) → (c && false) ≡ false
          never true = refl
          never false = refl

  -- a slot of the frame goes to the instance
  pub frame_step : IsNotEntering s.top.mode → (k : IsFrameBehind b g s name ty align)
      → renewed_step g s ≡ record s {
        world = record s.world { memory = s.world.memory ++ late_block (is_over k.instance) x ∷ [] };
        instances = slice_set s.instances k.number (record k.instance { slots = slot ∷ k.instance.slots });
        top = record s.top { at = s.top.at + 1; values = env };
      }
  frame_step mode k =
      step_is mode
      ∙ ap (λ (o : Option (ℕ × Instance)). with_new_slots ramps o (kill_late ramps o behind slot) (slot ∷ []))
      (ap (option_and_then (numbered s.instances)) k.own
      ∙ ap (option_map (λ (i : Instance). (k.number, i))) k.alone.there)
      ∙ ap (λ (c : Bool). let z = (if is_over k.instance && not c then with_memory behind (killed behind.world.memory n)
      else behind) in
      with_slots (with_instance z k.number (record k.instance {
        slots = (if not c then slot ∷ [] else []) ++ k.instance.slots;
      })) ((if c then slot ∷ [] else []) ++ z.top.slots)) k.among
      ∙ ap (λ (z : State). with_slots (with_instance z k.number (record k.instance {
        slots = slot ∷ k.instance.slots;
      })) z.top.slots) (dies (is_over k.instance))
    where
      ramps : List ℕ
      ramps = (own_facts g.given s).ramp_slots

      dies : (c : Bool) → (if c && true then with_memory behind (killed behind.world.memory n) else behind)
          ≡ record behind { world = record s.world { memory = s.world.memory ++ late_block c x ∷ [] } }
      dies true =
          ap (λ (m : List MemoryBlock). record behind { world = record s.world { memory = m } })
          (end_block s.world.memory x killed_block)
      dies false = refl

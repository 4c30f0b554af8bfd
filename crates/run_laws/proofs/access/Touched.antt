-- Two instructions that touch the memory in the same way.
use Rattle.std.proofs.Common.{◌≡◌, ℕ, zero, suc, Bool, List, [], ◌∷◌, ◌++◌, map, Option, Ok, refl, sym, ap, ◌∙◌, subst}
use Rattle.std.proofs.lemmas.List.{map-append}
use Rattle.run_memory.specs.Memory.{Rights, access_bytes, bytes_at, copied, copy, decode, encode, range, unless_constant, write}
use Rattle.run_memory.specs.declared.block.MemoryBlock.{MemoryBlock}
use Rattle.run_memory.specs.declared.pointer.Pointer.{Pointer}
use Rattle.run_memory.specs.declared.pointer.Spot.{Spot}
use Rattle.run_memory.specs.declared.pointer.Value.{Value}
use Rattle.ir_base.specs.declared.outcome.Word.{Word}
use Rattle.ir_model.specs.Ty.{Ty, ptr}
use Rattle.ir_model.specs.declared.instr.Instr.{Instr}
use Rattle.ir_model.specs.declared.operand.Allocator.{Allocator}
use Rattle.ir_model.specs.declared.operand.Arg.{Arg}
use Rattle.ir_model.specs.declared.operand.Callee.{Callee}
use Rattle.ir_model.specs.declared.operand.Intrinsic.{Intrinsic}
use Rattle.run_laws.specs.memory.Pointers.{Home, IsValue}
use Rattle.run_laws.specs.memory.Standing.{AreByteRights, Embeds}
use Rattle.run_step.specs.Step.{Action, AtInstr, AtTerm, Context, Deallocate, Done, Fetched, NewSlot, Nowhere, Work, action_of, done, instr_action, set_memory, set_value, with_length}
use Rattle.run_step.specs.Values.{access_of, address, arg_value, arg_values, nth, operand_value, stored}
use Rattle.run_laws.proofs.access.Bytes.{bytes_left}
use Rattle.run_laws.proofs.access.Related.{IsTouched, defined_both, defined_range, led_found, span_touched}
use Rattle.run_laws.specs.access.Accessed.{Span, accessed, by_copy, call_accesses, call_writes, copy_span, led_into, of_length, writes}
use Rattle.run_laws.specs.access.Changed.{IsDefined, IsFree, IsFull, IsOutside, LeavesBytes, LeavesFree, home_block}
use Rattle.run_laws.specs.access.Touched.{AreTouches, CopiesTo, KillsAt, NoTouch, ReadsAt, Touch, WritesAt, call_touches, touch_of, touched_blocks, touched_bytes}
use Rattle.run_laws.proofs.embedded.Made.{values_stand}
use Rattle.run_laws.proofs.embedded.Values.{address_kept, nth_kept}
use Rattle.run_laws.specs.embedded.Related.{AreValues, HasNoSlot, IsOperand}
use Rattle.ir_model.specs.declared.operand.Operand.{Operand}
use Rattle.run_laws.specs.changed.Changed.{Each, called_operand, operands_at, values_of}

-- ---- what a step that isn't undefined found

abbrev BothFound : Rights → List MemoryBlock → Value → Value → ℕ → Type 0
BothFound rights m to from zero = Unit {0}
BothFound rights m to from (suc k) = (a : Spot) × (b : Spot) × ((range rights m to (suc k) 1 ≡ Ok a) × (range rights m from (suc k) 1 ≡ Ok b))

abbrev IsFound : Rights → List MemoryBlock → Touch → Type 0
IsFound rights m NoTouch = Unit {0}
IsFound rights m (ReadsAt v len) = (align : ℕ) × ((s : Spot) × (range rights m v len align ≡ Ok s))
IsFound rights m (WritesAt v len) = (align : ℕ) × ((s : Spot) × (range rights m v len align ≡ Ok s))
IsFound rights m (CopiesTo to from len) = (y : Word) × ((len ≡ Value.Int y) × BothFound rights m to from y.bits)
IsFound rights m (KillsAt v) = IsDefined (Deallocate v)

module _ (c : Context) (w : Work) where
  abbrev m : List MemoryBlock
  m = w.world.memory

  abbrev Found : Touch → Type 0
  Found t = IsFound c.rights m t

  copy_found : (k : ℕ) (to from : Value) → IsDefined (done (set_memory w) (copy c.rights m to from k)) → BothFound c.rights m to from k
  copy_found zero to from h = tt
  copy_found (suc k) to from h = defined_both (set_memory w) (λ (y, z). copied m y z (suc k)) (range c.rights m to (suc k) 1) (range c.rights m from (suc k) 1) h

  length_found : (v to from : Value) → IsDefined (with_length v (λ k. done (set_memory w) (copy c.rights m to from k))) → Found (CopiesTo to from v)
  length_found (Value.Int y) to from h = (y, (refl, copy_found y.bits to from h))
  length_found Value.Poison to from h = absurd h
  length_found (Value.Ptr p) to from h = absurd h

  module _ (result : Option ℕ) (must_tail : Bool) (ty : Option Ty) (args : List Arg) where
    abbrev vs : List Value
    vs = arg_values c.code w.values args

    abbrev CallFound : Callee → Type 0
    CallFound callee = IsDefined (instr_action c w (Instr.Call result must_tail ty callee args)) → Found (call_touches callee vs)

    intrinsic_found : (i : Intrinsic) → CallFound (Callee.Intrinsic i)
    intrinsic_found Intrinsic.MemcpyI64 h = length_found (nth vs 2) (address (nth vs 0)) (address (nth vs 1)) h
    intrinsic_found Intrinsic.MemcpyI32 h = length_found (nth vs 2) (address (nth vs 0)) (address (nth vs 1)) h
    intrinsic_found _ h = tt

    call_found : (callee : Callee) → CallFound callee
    call_found (Callee.Named g) h = tt
    call_found (Callee.Allocator Allocator.Malloc) h = tt
    call_found (Callee.Allocator Allocator.Znwm) h = tt
    call_found (Callee.Allocator Allocator.Free) h = h
    call_found (Callee.Allocator Allocator.ZdlPv) h = h
    call_found (Callee.Allocator Allocator.ZdlPvm) h = h
    call_found (Callee.Intrinsic i) h = intrinsic_found i h
    call_found (Callee.Local g) h = tt

  step_found : (here : Fetched) → IsDefined (action_of c w here) → Found (touch_of c w here)
  step_found Nowhere h = tt
  step_found (AtTerm t) h = tt
  step_found (AtInstr (Instr.Load name ty p align)) h = (align, defined_range align (set_value w name) (λ s. Ok (decode (access_of ty) (bytes_at m s (access_bytes (access_of ty))))) (range c.rights m (address (operand_value c.code w.values ptr p)) (access_bytes (access_of ty)) align) h)
  step_found (AtInstr (Instr.Store arg p align)) h = (align, defined_range align (set_memory w) (λ s. unless_constant m s (write m s (encode (access_bytes (access_of arg.ty)) (stored (access_of arg.ty) (arg_value c.code w.values arg))))) (range c.rights m (address (operand_value c.code w.values ptr p)) (access_bytes (access_of arg.ty)) align) h)
  step_found (AtInstr (Instr.Call result must_tail ty callee args)) h = call_found result must_tail ty args callee h
  step_found (AtInstr _) h = tt

  -- ---- what it touches is what it accesses and writes

  module _ (result : Option ℕ) (must_tail : Bool) (ty : Option Ty) (args : List Arg) where
    abbrev NoSlot : Callee → Type 0
    NoSlot callee = HasNoSlot (AtInstr (Instr.Call result must_tail ty callee args))

    call_blocks : (callee : Callee) (us : List Value) → NoSlot callee → call_accesses callee m us ≡ touched_blocks (call_touches callee us)
    call_blocks (Callee.Named g) us s = refl
    call_blocks (Callee.Allocator Allocator.Malloc) us s = absurd s
    call_blocks (Callee.Allocator Allocator.Znwm) us s = absurd s
    call_blocks (Callee.Allocator Allocator.Free) us s = refl
    call_blocks (Callee.Allocator Allocator.ZdlPv) us s = refl
    call_blocks (Callee.Allocator Allocator.ZdlPvm) us s = refl
    call_blocks (Callee.Intrinsic Intrinsic.LifetimeStart) us s = absurd s
    call_blocks (Callee.Intrinsic Intrinsic.LifetimeEnd) us s = absurd s
    call_blocks (Callee.Intrinsic Intrinsic.MemcpyI64) us s = refl
    call_blocks (Callee.Intrinsic Intrinsic.MemcpyI32) us s = refl
    call_blocks (Callee.Intrinsic _) us s = refl
    call_blocks (Callee.Local g) us s = refl

    call_bytes : (callee : Callee) (us : List Value) → call_writes callee us ≡ touched_bytes (call_touches callee us)
    call_bytes (Callee.Named g) us = refl
    call_bytes (Callee.Allocator Allocator.Malloc) us = refl
    call_bytes (Callee.Allocator Allocator.Znwm) us = refl
    call_bytes (Callee.Allocator Allocator.Free) us = refl
    call_bytes (Callee.Allocator Allocator.ZdlPv) us = refl
    call_bytes (Callee.Allocator Allocator.ZdlPvm) us = refl
    call_bytes (Callee.Intrinsic Intrinsic.MemcpyI64) us = refl
    call_bytes (Callee.Intrinsic Intrinsic.MemcpyI32) us = refl
    call_bytes (Callee.Intrinsic _) us = refl
    call_bytes (Callee.Local g) us = refl

  step_blocks : (here : Fetched) → HasNoSlot here → accessed c w here ≡ touched_blocks (touch_of c w here)
  step_blocks Nowhere s = refl
  step_blocks (AtTerm t) s = refl
  step_blocks (AtInstr (Instr.Alloca name ty align)) s = absurd s
  step_blocks (AtInstr (Instr.Call result must_tail ty callee args)) s = call_blocks result must_tail ty args callee (arg_values c.code w.values args) s
  step_blocks (AtInstr _) s = refl

  step_bytes : (here : Fetched) → writes c w here ≡ touched_bytes (touch_of c w here)
  step_bytes Nowhere = refl
  step_bytes (AtTerm t) = refl
  step_bytes (AtInstr (Instr.Call result must_tail ty callee args)) = call_bytes result must_tail ty args callee (arg_values c.code w.values args)
  step_bytes (AtInstr _) = refl

-- ---- two that touch in the same way

module _ (rights target : Rights) (homes : List Home) (m n : List MemoryBlock) (law : AreByteRights rights) (em : Embeds rights target homes m n) where
  abbrev Touched : List Span → Type 0
  Touched ts = Each (IsTouched rights target homes m n law em) ts

  abbrev Same : List ℕ → List ℕ → Type 0
  Same theirs own = theirs ≡ map (home_block homes) own

  record IsFollowed (theirs own : List ℕ) (ts : List Span) : Type 0 where
    blocks : Same theirs own
    bytes : Touched ts

  both_followed : (k : ℕ) (to from to' from' : Value) → IsValue homes to to' → IsValue homes from from' → BothFound rights m to from k → IsFollowed (by_copy to' from' k) (by_copy to from k) (copy_span to' k)
  both_followed zero to from to' from' ht hf h = record { blocks = refl; bytes = tt }
  both_followed (suc k) to from to' from' ht hf (a, b, e) = record {
    blocks =
        ap (λ (bs : List ℕ). bs ++ led_into from') (led_found rights target homes m n law em to to' (suc k) 1 a ht e.0)
        ∙ ap (λ (bs : List ℕ). map (home_block homes) (led_into to) ++ bs) (led_found rights target homes m n law em from from' (suc k) 1 b hf e.1)
        ∙ sym (map-append (home_block homes) (led_into to) (led_into from));
    bytes = span_touched rights target homes m n law em to to' (suc k) 1 a ht e.0;
  }

  copies_followed : (to from len to' from' len' : Value) → IsValue homes to to' → IsValue homes from from' → IsValue homes len len' → IsFound rights m (CopiesTo to from len) → IsFollowed (of_length len' (by_copy to' from')) (of_length len (by_copy to from)) (of_length len' (copy_span to'))
  copies_followed to from Value.Poison to' from' len' ht hf hl (y, (e, h)) = absurd (cc)
  copies_followed to from (Value.Ptr p) to' from' len' ht hf hl (y, (e, h)) = absurd (cc)
  copies_followed to from (Value.Int z) to' from' len' ht hf hl (y, (e, h)) =
      let is : y ≡ z = cc in
      subst (λ (u : Value). IsFollowed (of_length u (by_copy to' from')) (by_copy to from z.bits) (of_length u (copy_span to'))) (sym hl)
      (both_followed z.bits to from to' from' ht hf (subst (λ (q : Word). BothFound rights m to from q.bits) is h))

  kills_followed : (v u : Value) → IsValue homes v u → IsDefined (Deallocate v) → Same (led_into u) (led_into v)
  kills_followed Value.Poison u h k = absurd k
  kills_followed (Value.Int y) u h k = ap led_into h
  kills_followed (Value.Ptr Pointer.Null) u h k = ap led_into h.1
  kills_followed (Value.Ptr (Pointer.Func g)) u h k = ap led_into h.1
  kills_followed (Value.Ptr (Pointer.At b o)) u h k = ap led_into h.1

  touch_followed : (s t : Touch) → AreTouches homes s t → IsFound rights m s → IsFollowed (touched_blocks t) (touched_blocks s) (touched_bytes t)
  touch_followed NoTouch t h f = subst (λ (q : Touch). IsFollowed (touched_blocks q) [] (touched_bytes q)) (sym h) (record { blocks = refl; bytes = tt })
  touch_followed (ReadsAt v len) t (u, (e, h)) (align, (s, f)) = subst (λ (q : Touch). IsFollowed (touched_blocks q) (led_into v) (touched_bytes q)) (sym e) (record { blocks = led_found rights target homes m n law em v u len align s h f; bytes = tt })
  touch_followed (WritesAt v len) t (u, (e, h)) (align, (s, f)) = subst (λ (q : Touch). IsFollowed (touched_blocks q) (led_into v) (touched_bytes q)) (sym e) (record { blocks = led_found rights target homes m n law em v u len align s h f; bytes = span_touched rights target homes m n law em v u len align s h f })
  touch_followed (CopiesTo to from len) t (us, (e, h)) f = subst (λ (q : Touch). IsFollowed (touched_blocks q) (of_length len (by_copy to from)) (touched_bytes q)) (sym e) (copies_followed to from len us.0 us.1 us.2 h.0 h.1.0 h.1.1 f)
  touch_followed (KillsAt v) t (u, (e, h)) f = subst (λ (q : Touch). IsFollowed (touched_blocks q) (led_into v) (touched_bytes q)) (sym e) (record { blocks = kills_followed v u h f; bytes = tt })

  -- ---- what is free stays

  all_full : (ts : List Span) → Touched ts → Each (λ (t : Span). IsFull n t.block) ts
  all_full [] h = tt
  all_full (t ∷ ts) h = (h.0.full, all_full ts h.1)

  all_outside : (ts : List Span) (block at : ℕ) → IsFree rights homes m block at → Touched ts → Each (IsOutside block at) ts
  all_outside [] block at free h = tt
  all_outside (t ∷ ts) block at free h = (h.0.outside block at free, all_outside ts block at free h.1)

  free_left : (ts : List Span) → Touched ts → (a : Action) → LeavesBytes ts n a → LeavesFree rights homes m n a
  free_left ts h (Done y) l = record { refilled = l.refilled; lengths = l.lengths; bytes = λ block at free. l.others block at (all_outside ts block at free h) }
  free_left ts h (NewSlot y slot) l = l
  free_left ts h _ l = tt

module _ (homes : List Home) (c d : Context) (w x : Work) (here there : Fetched) (law : AreByteRights c.rights) (em : Embeds c.rights d.rights homes w.world.memory x.world.memory) (no_slot : HasNoSlot here) (no_slot' : HasNoSlot there) (touch : AreTouches homes (touch_of c w here) (touch_of d x there)) (defined : IsDefined (action_of c w here)) where
  followed : IsFollowed c.rights d.rights homes w.world.memory x.world.memory law em (touched_blocks (touch_of d x there)) (touched_blocks (touch_of c w here)) (touched_bytes (touch_of d x there))
  followed = touch_followed c.rights d.rights homes w.world.memory x.world.memory law em (touch_of c w here) (touch_of d x there) touch (step_found c w here defined)

  pub blocks_touched : accessed d x there ≡ map (home_block homes) (accessed c w here)
  blocks_touched = step_blocks d x there no_slot' ∙ followed.blocks ∙ sym (ap (map (home_block homes)) (step_blocks c w here no_slot))

  pub free_untouched : LeavesFree c.rights homes w.world.memory x.world.memory (action_of d x there)
  free_untouched =
      let h = subst (λ (ts : List Span). Each (IsTouched c.rights d.rights homes w.world.memory x.world.memory law em) ts) (sym (step_bytes d x there)) followed.bytes in
      free_left c.rights d.rights homes w.world.memory x.world.memory law em (writes d x there) h (action_of d x there)
      (bytes_left d x there no_slot' (all_full c.rights d.rights homes w.world.memory x.world.memory law em (writes d x there) h))

-- ---- the same instruction with related operands

module _ (homes : List Home) (c d : Context) (w x : Work) where
  abbrev Op : List Operand → Type 0
  Op ys = Each (IsOperand homes c d w.values x.values) ys

  abbrev Like : Touch → Touch → Type 0
  Like s t = AreTouches homes s t

  copy_like : (ours theirs : List Value) → AreValues homes ours theirs → Like (CopiesTo (address (nth ours 0)) (address (nth ours 1)) (nth ours 2)) (CopiesTo (address (nth theirs 0)) (address (nth theirs 1)) (nth theirs 2))
  copy_like ours theirs h = ((address (nth theirs 0), address (nth theirs 1), nth theirs 2), (refl, (address_kept homes _ _ (nth_kept homes ours theirs 0 h), (address_kept homes _ _ (nth_kept homes ours theirs 1 h), nth_kept homes ours theirs 2 h))))

  kill_like : (ours theirs : List Value) → AreValues homes ours theirs → Like (KillsAt (address (nth ours 0))) (KillsAt (address (nth theirs 0)))
  kill_like ours theirs h = (address (nth theirs 0), (refl, address_kept homes _ _ (nth_kept homes ours theirs 0 h)))

  call_like : (callee : Callee) (args : List Arg) (ours theirs : List Value) → AreValues homes ours theirs → Like (call_touches callee ours) (call_touches callee theirs)
  call_like (Callee.Named g) args ours theirs h = refl
  call_like (Callee.Allocator Allocator.Malloc) args ours theirs h = refl
  call_like (Callee.Allocator Allocator.Znwm) args ours theirs h = refl
  call_like (Callee.Allocator Allocator.Free) args ours theirs h = kill_like ours theirs h
  call_like (Callee.Allocator Allocator.ZdlPv) args ours theirs h = kill_like ours theirs h
  call_like (Callee.Allocator Allocator.ZdlPvm) args ours theirs h = kill_like ours theirs h
  call_like (Callee.Intrinsic Intrinsic.MemcpyI64) args ours theirs h = copy_like ours theirs h
  call_like (Callee.Intrinsic Intrinsic.MemcpyI32) args ours theirs h = copy_like ours theirs h
  call_like (Callee.Intrinsic _) args ours theirs h = refl
  call_like (Callee.Local g) args ours theirs h = refl

  args_of_call : (callee : Callee) (args : List Arg) → Op (called_operand callee ++ values_of args) → AreValues homes (arg_values c.code w.values args) (arg_values d.code x.values args)
  args_of_call (Callee.Named g) args h = values_stand homes c d w x args h
  args_of_call (Callee.Allocator a) args h = values_stand homes c d w x args h
  args_of_call (Callee.Intrinsic i) args h = values_stand homes c d w x args h
  args_of_call (Callee.Local g) args h = values_stand homes c d w x args h.1

  pub same_touches : (here : Fetched) → Op (operands_at here) → Like (touch_of c w here) (touch_of d x here)
  same_touches Nowhere h = refl
  same_touches (AtTerm t) h = refl
  same_touches (AtInstr (Instr.Load name ty p align)) h = (_, (refl, address_kept homes _ _ (h.0.here ptr)))
  same_touches (AtInstr (Instr.Store arg p align)) h = (_, (refl, address_kept homes _ _ (h.1.0.here ptr)))
  same_touches (AtInstr (Instr.Call result must_tail ty callee args)) h = call_like callee args _ _ (args_of_call callee args h)
  same_touches (AtInstr _) h = refl

pub accesses_followed : (homes : List Home) (c d : Context) (w x : Work) (here : Fetched) → AreByteRights c.rights → Embeds c.rights d.rights homes w.world.memory x.world.memory → HasNoSlot here → Each (IsOperand homes c d w.values x.values) (operands_at here) → IsDefined (action_of c w here) → accessed d x here ≡ map (home_block homes) (accessed c w here)
accesses_followed homes c d w x here law em s h k = blocks_touched homes c d w x here here law em s s (same_touches homes c d w x here h) k

pub free_stays : (homes : List Home) (c d : Context) (w x : Work) (here : Fetched) → AreByteRights c.rights → Embeds c.rights d.rights homes w.world.memory x.world.memory → HasNoSlot here → Each (IsOperand homes c d w.values x.values) (operands_at here) → IsDefined (action_of c w here) → LeavesFree c.rights homes w.world.memory x.world.memory (action_of d x here)
free_stays homes c d w x here law em s h k = free_untouched homes c d w x here here law em s s (same_touches homes c d w x here h) k

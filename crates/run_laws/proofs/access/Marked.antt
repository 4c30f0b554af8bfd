-- Markers, new blocks and returns: the target accesses the homes of what the source does.
use Rattle.std.proofs.Common.{◌≡◌, ℕ, ◌+◌, Bool, List, [], ◌∷◌, ◌++◌, length, map, Option, refl, sym, ap, ◌∙◌, arith, get_or-append-add}
use Rattle.run_memory.specs.declared.pointer.Pointer.{Pointer}
use Rattle.run_memory.specs.declared.pointer.Value.{Value}
use Rattle.ir_model.specs.Ty.{Ty}
use Rattle.ir_model.specs.declared.instr.Instr.{Instr}
use Rattle.ir_model.specs.declared.operand.Allocator.{Allocator}
use Rattle.ir_model.specs.declared.operand.Arg.{Arg}
use Rattle.ir_model.specs.declared.operand.Callee.{Callee}
use Rattle.ir_model.specs.declared.operand.Intrinsic.{Intrinsic}
use Rattle.run_laws.specs.memory.Pointers.{Home, IsValue, home_of, nowhere}
use Rattle.run_step.specs.Step.{AtInstr, AtTerm, Context, Fetched, Nowhere, Work}
use Rattle.run_step.specs.Values.{arg_values, nth}
use Rattle.run_laws.specs.access.Accessed.{accessed, allocator_accesses, as_list, call_accesses, intrinsic_accesses, led_into, slot_blocks}
use Rattle.run_laws.specs.access.Changed.{home_block}
use Rattle.run_laws.proofs.embedded.Made.{values_stand}
use Rattle.run_laws.proofs.embedded.Values.{nth_kept}
use Rattle.run_step.specs.declared.world.Slot.{Slot}
use Rattle.run_laws.specs.embedded.Deaths.{moved_slot}
use Rattle.run_laws.specs.embedded.Making.{MakesBlock, whole_home}
use Rattle.run_laws.specs.embedded.Marks.{IsEnd, IsStart, MarksBlock}
use Rattle.run_laws.specs.embedded.Related.{IsOperand}
use Rattle.run_laws.specs.changed.Changed.{Each, operands_at, values_of}

-- ---- markers

module _ (homes : List Home) (c d : Context) (w x : Work) where
  abbrev vs : List Arg → List Value
  vs args = arg_values c.code w.values args

  abbrev us : List Arg → List Value
  us args = arg_values d.code x.values args

  start_homes : (v u : Value) → IsValue homes v u → IsStart c.rights d.rights homes w.world.memory x.world.memory v u → led_into u ≡ map (home_block homes) (led_into v)
  start_homes (Value.Ptr (Pointer.At b o)) u h k = ap led_into h.1
  start_homes (Value.Ptr Pointer.Null) u h k = ap led_into h.1
  start_homes (Value.Ptr (Pointer.Func g)) u h k = ap led_into h.1
  start_homes (Value.Int y) u h k = ap led_into h
  start_homes Value.Poison u h k = ap as_list k

  end_homes : (v u : Value) → IsValue homes v u → IsEnd homes w.world.memory v u → led_into u ≡ map (home_block homes) (led_into v)
  end_homes (Value.Ptr (Pointer.At b o)) u h k = ap led_into h.1
  end_homes (Value.Ptr Pointer.Null) u h k = ap led_into h.1
  end_homes (Value.Ptr (Pointer.Func g)) u h k = ap led_into h.1
  end_homes (Value.Int y) u h k = ap led_into h
  end_homes Value.Poison u h k = ap as_list k

  intrinsic_marks : (i : Intrinsic) (result : Option ℕ) (must_tail : Bool) (ty : Option Ty) (args : List Arg) → Each (IsOperand homes c d w.values x.values) (values_of args) → MarksBlock homes c d w x (AtInstr (Instr.Call result must_tail ty (Callee.Intrinsic i) args)) → intrinsic_accesses i (us args) ≡ map (home_block homes) (intrinsic_accesses i (vs args))
  intrinsic_marks Intrinsic.LifetimeStart result must_tail ty args h k = start_homes (nth (vs args) 1) (nth (us args) 1) (nth_kept homes (vs args) (us args) 1 (values_stand homes c d w x args h)) k
  intrinsic_marks Intrinsic.LifetimeEnd result must_tail ty args h k = end_homes (nth (vs args) 1) (nth (us args) 1) (nth_kept homes (vs args) (us args) 1 (values_stand homes c d w x args h)) k
  intrinsic_marks _ result must_tail ty args h k = absurd k

  call_marks : (result : Option ℕ) (must_tail : Bool) (ty : Option Ty) (callee : Callee) (args : List Arg) → Each (IsOperand homes c d w.values x.values) (operands_at (AtInstr (Instr.Call result must_tail ty callee args))) → MarksBlock homes c d w x (AtInstr (Instr.Call result must_tail ty callee args)) → call_accesses callee x.world.memory (us args) ≡ map (home_block homes) (call_accesses callee w.world.memory (vs args))
  call_marks result must_tail ty (Callee.Intrinsic i) args h k = intrinsic_marks i result must_tail ty args h k
  call_marks result must_tail ty (Callee.Named g) args h k = absurd k
  call_marks result must_tail ty (Callee.Local g) args h k = absurd k
  call_marks result must_tail ty (Callee.Allocator a) args h k = absurd k

  pub marks_followed : (here : Fetched) → Each (IsOperand homes c d w.values x.values) (operands_at here) → MarksBlock homes c d w x here → accessed d x here ≡ map (home_block homes) (accessed c w here)
  marks_followed Nowhere h k = refl
  marks_followed (AtInstr (Instr.Call result must_tail ty callee args)) h k = call_marks result must_tail ty callee args h k
  marks_followed (AtInstr _) h k = absurd k
  marks_followed (AtTerm t) h k = absurd k

  -- ---- new blocks

  abbrev Grown : List Home
  Grown = homes ++ whole_home (length x.world.memory) ∷ []

  module _ (known : length homes ≡ length w.world.memory) where
    new_home : length x.world.memory ∷ [] ≡ map (home_block Grown) (length w.world.memory ∷ [])
    new_home =
        let e : length homes + 0 ≡ length w.world.memory = omega arith in
        ap (λ (h : Home). h.block ∷ []) (sym (get_or-append-add homes (whole_home (length x.world.memory) ∷ []) 0 nowhere) ∙ ap (λ (i : ℕ). home_of Grown i) e)

    allocator_makes : (a : Allocator) (result : Option ℕ) (must_tail : Bool) (ty : Option Ty) (args : List Arg) → MakesBlock c d w x (AtInstr (Instr.Call result must_tail ty (Callee.Allocator a) args)) → allocator_accesses a x.world.memory (us args) ≡ map (home_block Grown) (allocator_accesses a w.world.memory (vs args))
    allocator_makes Allocator.Malloc result must_tail ty args k = new_home
    allocator_makes Allocator.Znwm result must_tail ty args k = new_home
    allocator_makes _ result must_tail ty args k = absurd k

    call_makes : (result : Option ℕ) (must_tail : Bool) (ty : Option Ty) (callee : Callee) (args : List Arg) → MakesBlock c d w x (AtInstr (Instr.Call result must_tail ty callee args)) → call_accesses callee x.world.memory (us args) ≡ map (home_block Grown) (call_accesses callee w.world.memory (vs args))
    call_makes result must_tail ty (Callee.Allocator a) args k = allocator_makes a result must_tail ty args k
    call_makes result must_tail ty (Callee.Named g) args k = absurd k
    call_makes result must_tail ty (Callee.Local g) args k = absurd k
    call_makes result must_tail ty (Callee.Intrinsic i) args k = absurd k

    pub makes_followed : (here : Fetched) → MakesBlock c d w x here → accessed d x here ≡ map (home_block Grown) (accessed c w here)
    makes_followed (AtInstr (Instr.Alloca name ty align)) k = new_home
    makes_followed (AtInstr (Instr.Call result must_tail ty callee args)) k = call_makes result must_tail ty callee args k
    makes_followed _ k = absurd k

-- ---- returns

pub slots_followed : (homes : List Home) (slots : List Slot) → slot_blocks (map (moved_slot homes) slots) ≡ map (home_block homes) (slot_blocks slots)
slots_followed homes [] = refl
slots_followed homes (s ∷ slots) = ap (λ (bs : List ℕ). home_block homes s.block ∷ bs) (slots_followed homes slots)

-- A lifetime marker marks a block and its home alike.
use Rattle.std.proofs.Common.{◌≡◌, ℕ, Bool, List, Option, None, refl, sym, ap, subst}
use Rattle.run_memory.specs.Memory.{end, ended, start, started}
use Rattle.run_memory.specs.declared.block.MemoryBlock.{MemoryBlock}
use Rattle.run_memory.specs.declared.pointer.Pointer.{Pointer}
use Rattle.run_memory.specs.declared.pointer.Value.{Value}
use Rattle.ir_model.specs.Ty.{Ty}
use Rattle.ir_model.specs.declared.instr.Instr.{Instr}
use Rattle.ir_model.specs.declared.operand.Arg.{Arg}
use Rattle.ir_model.specs.declared.operand.Callee.{Callee}
use Rattle.ir_model.specs.declared.operand.Intrinsic.{Intrinsic}
use Rattle.run_laws.specs.memory.Pointers.{Home, IsValue, home_of}
use Rattle.run_laws.specs.memory.Standing.{AreBoundsKept, AreByteRights, AreNullsKept, Embeds}
use Rattle.run_step.specs.Step.{Action, AtInstr, AtTerm, Context, Done, Fetched, Nowhere, Work, action_of, block_of, instr_action, on_block, set_memory}
use Rattle.run_step.specs.Values.{arg_values, nth}
use Rattle.run_laws.proofs.embedded.Made.{values_stand}
use Rattle.run_laws.proofs.embedded.Mirrors.{bounds_changed, dies_embedded, ended_dead, ended_size, nulls_changed, nulls_dead, started_size, starts_embedded}
use Rattle.run_laws.proofs.embedded.Values.{nth_kept}
use Rattle.run_laws.specs.embedded.Marks.{IsEnd, IsStart, MarksBlock}
use Rattle.run_laws.specs.embedded.Related.{AreWorks, GoesAlike, IsOperand}
use Rattle.run_laws.specs.changed.Changed.{Each, operands_at, values_of}

module _ (homes : List Home) (moves : ℕ → ℕ) (c d : Context) (w x : Work) (law : AreByteRights c.rights) (law' : AreByteRights d.rights) (works : AreWorks c.rights d.rights homes moves w x) where
  abbrev Alike : Action → Action → Type 0
  Alike a b = GoesAlike c.rights d.rights homes moves a b

  abbrev m : List MemoryBlock
  m = w.world.memory

  abbrev n : List MemoryBlock
  n = x.world.memory

  abbrev home : ℕ → ℕ
  home b = (home_of homes b).block

  works_of : (m' n' : List MemoryBlock) → Embeds c.rights d.rights homes m' n' → AreNullsKept c.rights d.rights homes m' n' → AreBoundsKept homes m' n' → AreWorks c.rights d.rights homes moves (set_memory w m') (set_memory x n')
  works_of m' n' em nulls bounds = record {
    world = record { memory = em; nulls = nulls; bounds = bounds; events = works.world.events; answers = works.world.answers; allocs = works.world.allocs };
    values = works.values;
  }

  -- nothing is marked
  unmarked : (f : List MemoryBlock → ℕ → List MemoryBlock) (u : Value) → block_of u ≡ None → Alike (Done (set_memory w m)) (Done (set_memory x (on_block f n (block_of u))))
  unmarked f u e = (set_memory x (on_block f n (block_of u)), refl, subst (λ (o : Option ℕ). AreWorks c.rights d.rights homes moves (set_memory w m) (set_memory x (on_block f n o))) (sym e) (works_of m n works.world.memory works.world.nulls works.world.bounds))

  end_alike : (v u : Value) → IsValue homes v u → IsEnd homes m v u → Alike (Done (set_memory w (on_block end m (block_of v)))) (Done (set_memory x (on_block end n (block_of u))))
  end_alike (Value.Ptr (Pointer.At b o)) u h k = (
    set_memory x (on_block end n (block_of u)),
    refl,
    subst (λ (z : Value). AreWorks c.rights d.rights homes moves (set_memory w (end m b)) (set_memory x (on_block end n (block_of z)))) (sym h.1)
        (works_of (end m b) (end n (home b)) (dies_embedded c.rights d.rights law law' homes m n b works.world.memory k ended ended ended_dead)
        (nulls_dead c.rights d.rights homes m n b ended ended ended_dead works.world.nulls)
        (bounds_changed homes m n b (home b) ended ended ended_size ended_size works.world.bounds)),
  )
  end_alike (Value.Ptr Pointer.Null) u h k = unmarked end u (ap block_of h.1)
  end_alike (Value.Ptr (Pointer.Func g)) u h k = unmarked end u (ap block_of h.1)
  end_alike (Value.Int y) u h k = unmarked end u (ap block_of h)
  end_alike Value.Poison u h k = unmarked end u k

  start_alike : (v u : Value) → IsValue homes v u → IsStart c.rights d.rights homes m n v u → Alike (Done (set_memory w (on_block start m (block_of v)))) (Done (set_memory x (on_block start n (block_of u))))
  start_alike (Value.Ptr (Pointer.At b o)) u h k = (
    set_memory x (on_block start n (block_of u)),
    refl,
    subst (λ (z : Value). AreWorks c.rights d.rights homes moves (set_memory w (start m b)) (set_memory x (on_block start n (block_of z)))) (sym h.1)
        (works_of (start m b) (start n (home b)) (starts_embedded c.rights d.rights law law' homes m n b works.world.memory k.0.live works.world.bounds h.0 k.1)
        (nulls_changed c.rights d.rights homes m n b started started k.0 k.1.nulls works.world.nulls)
        (bounds_changed homes m n b (home b) started started started_size started_size works.world.bounds)),
  )
  start_alike (Value.Ptr Pointer.Null) u h k = unmarked start u (ap block_of h.1)
  start_alike (Value.Ptr (Pointer.Func g)) u h k = unmarked start u (ap block_of h.1)
  start_alike (Value.Int y) u h k = unmarked start u (ap block_of h)
  start_alike Value.Poison u h k = unmarked start u k

  -- ---- instructions

  marked_value : (args : List Arg) → Each (IsOperand homes c d w.values x.values) (values_of args) → IsValue homes (nth (arg_values c.code w.values args) 1) (nth (arg_values d.code x.values args) 1)
  marked_value args h = nth_kept homes (arg_values c.code w.values args) (arg_values d.code x.values args) 1 (values_stand homes c d w x args h)

  intrinsic_marks : (i : Intrinsic) (result : Option ℕ) (must_tail : Bool) (ty : Option Ty) (args : List Arg) → Each (IsOperand homes c d w.values x.values) (values_of args) → MarksBlock homes c d w x (AtInstr (Instr.Call result must_tail ty (Callee.Intrinsic i) args)) → Alike (instr_action c w (Instr.Call result must_tail ty (Callee.Intrinsic i) args)) (instr_action d x (Instr.Call result must_tail ty (Callee.Intrinsic i) args))
  intrinsic_marks Intrinsic.LifetimeStart result must_tail ty args h k = start_alike (nth (arg_values c.code w.values args) 1) (nth (arg_values d.code x.values args) 1) (marked_value args h) k
  intrinsic_marks Intrinsic.LifetimeEnd result must_tail ty args h k = end_alike (nth (arg_values c.code w.values args) 1) (nth (arg_values d.code x.values args) 1) (marked_value args h) k
  intrinsic_marks _ result must_tail ty args h k = absurd k

  call_marks : (result : Option ℕ) (must_tail : Bool) (ty : Option Ty) (callee : Callee) (args : List Arg) → Each (IsOperand homes c d w.values x.values) (operands_at (AtInstr (Instr.Call result must_tail ty callee args))) → MarksBlock homes c d w x (AtInstr (Instr.Call result must_tail ty callee args)) → Alike (instr_action c w (Instr.Call result must_tail ty callee args)) (instr_action d x (Instr.Call result must_tail ty callee args))
  call_marks result must_tail ty (Callee.Intrinsic i) args h k = intrinsic_marks i result must_tail ty args h k
  call_marks result must_tail ty (Callee.Named g) args h k = absurd k
  call_marks result must_tail ty (Callee.Local g) args h k = absurd k
  call_marks result must_tail ty (Callee.Allocator a) args h k = absurd k

  here_marks : (here : Fetched) → Each (IsOperand homes c d w.values x.values) (operands_at here) → MarksBlock homes c d w x here → Alike (action_of c w here) (action_of d x here)
  here_marks Nowhere h k = tt
  here_marks (AtInstr (Instr.Call result must_tail ty callee args)) h k = call_marks result must_tail ty callee args h k
  here_marks (AtInstr _) h k = absurd k
  here_marks (AtTerm t) h k = absurd k

pub marks_carried : (homes : List Home) (moves : ℕ → ℕ) (c d : Context) (w x : Work) (here : Fetched) → AreByteRights c.rights → AreByteRights d.rights → AreWorks c.rights d.rights homes moves w x → Each (IsOperand homes c d w.values x.values) (operands_at here) → MarksBlock homes c d w x here → GoesAlike c.rights d.rights homes moves (action_of c w here) (action_of d x here)
marks_carried homes moves c d w x here law law' works h k = here_marks homes moves c d w x law law' works here h k

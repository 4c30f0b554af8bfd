-- A lifetime marker marks a block and its home alike, where what it reads stands.
use Rattle.std.proofs.Common.{◌≡◌, ℕ, Bool, true, false, List, Option, None, refl, sym, ap, ◌∙◌, subst}
use Rattle.std.proofs.lemmas.Bool.{false≢true}
use Rattle.run_memory.specs.Memory.{end, ended, start, started}
use Rattle.run_memory.specs.declared.block.MemoryBlock.{MemoryBlock}
use Rattle.run_memory.specs.declared.pointer.Pointer.{Pointer}
use Rattle.run_memory.specs.declared.pointer.Value.{Value}
use Rattle.ir_model.specs.Ty.{Ty}
use Rattle.ir_model.specs.declared.instr.Instr.{Instr}
use Rattle.ir_model.specs.declared.operand.Arg.{Arg}
use Rattle.ir_model.specs.declared.operand.Callee.{Callee}
use Rattle.ir_model.specs.declared.operand.Intrinsic.{Intrinsic}
use Rattle.ir_model.specs.declared.operand.Operand.{Operand}
use Rattle.run_laws.specs.memory.Pointers.{Home, IsValue, home_of}
use Rattle.run_laws.specs.memory.Standing.{AreBoundsKept, AreByteRights, AreNullsKept, Embeds}
use Rattle.run_step.specs.Step.{Action, AtInstr, AtTerm, Context, Done, Fetched, Nowhere, Work, action_of, block_of, on_block, set_memory}
use Rattle.run_step.specs.Values.{arg_values, nth}
use Rattle.run_laws.proofs.embedded.Mirrors.{bounds_changed, dies_embedded, ended_dead, ended_size, nulls_changed, nulls_dead, started_size, starts_embedded}
use Rattle.run_laws.proofs.embedded.Values.{nth_kept}
use Rattle.run_laws.specs.embedded.Marks.{IsEnd, IsStart}
use Rattle.run_laws.proofs.transfer.Makes.{args_stand}
use Rattle.run_laws.proofs.transfer.Muted.{muted_ended, muted_started}
use Rattle.run_laws.proofs.transfer.Sets.{sets_none}
use Rattle.run_laws.specs.transfer.Makes.{IsMarking, MarksBoth}
use Rattle.run_laws.specs.transfer.Muted.{IsShown, muted}
use Rattle.run_laws.specs.transfer.Shapes.{ArgStays, Call, CalleeStays, Direct, Indirect, InstrStays, Pairwise}
use Rattle.run_laws.specs.transfer.Transfer.{AreJoined, GoesOver, Maps, StandsFor, args_at, given_at}

module _ (homes : List Home) (hides : ℕ
    → Bool) (maps : Maps) (c d : Context) (w x : Work) (law : AreByteRights c.rights) (law' : AreByteRights d.rights)
    (joined : AreJoined homes hides maps c d w x) where
  abbrev m : List MemoryBlock
  m = muted hides w.world.memory

  abbrev n : List MemoryBlock
  n = x.world.memory

  abbrev home : ℕ → ℕ
  home b = (home_of homes b).block

  abbrev Over : List Arg → List Arg → Action → Action → Type 0
  Over old now a b = GoesOver c.rights d.rights homes hides maps None old now w x a b

  -- what stands in the target is hidden in no way
  shown_value : (u z : Value) → IsValue homes u z → IsShown hides u
  shown_value (Value.Ptr (Pointer.At b o)) z h = on (hides b) refl
    where
      on : (t : Bool) → hides b ≡ t → hides b ≡ false
      on true e = absurd (false≢true (sym (joined.hidden b e) ∙ h.0))
      on false e = e
  shown_value (Value.Ptr Pointer.Null) z h = tt
  shown_value (Value.Ptr (Pointer.Func f)) z h = tt
  shown_value Value.Poison z h = tt
  shown_value (Value.Int y) z h = tt

  -- the source's memory k, which hidden is m', and the target's memory n'
  memory_over : (old now : List Arg) (k m' n' : List MemoryBlock) → m' ≡ muted hides k
      → Embeds c.rights d.rights homes m' n' → AreNullsKept c.rights d.rights homes m' n' → AreBoundsKept homes m' n'
      → Over old now (Done (set_memory w k)) (Done (set_memory x n'))
  memory_over old now k m' n' is em nulls bounds = (
    set_memory x n',
    refl,
    record {
      memory = subst (λ (u : List MemoryBlock). Embeds c.rights d.rights homes u n') is em;
      nulls = subst (λ (u : List MemoryBlock). AreNullsKept c.rights d.rights homes u n') is nulls;
      bounds = subst (λ (u : List MemoryBlock). AreBoundsKept homes u n') is bounds;
      events = joined.over.events;
      answers = joined.over.answers;
      allocs = joined.over.allocs;
    },
    sets_none homes w.values x.values,
  )

  -- nothing is marked
  unmarked : (old now : List Arg) (f : List MemoryBlock → ℕ → List MemoryBlock) (u : Value) → block_of u ≡ None
      → Over old now (Done w) (Done (set_memory x (on_block f n (block_of u))))
  unmarked old now f u e =
      subst (λ (o : Option ℕ). Over old now (Done w) (Done (set_memory x (on_block f n o)))) (sym e)
      (memory_over old now w.world.memory m n refl joined.over.memory joined.over.nulls joined.over.bounds)

  end_over : (old now : List Arg) (v u : Value) → IsValue homes v u → IsEnd homes m v u
      → Over old now (Done (set_memory w (on_block end w.world.memory (block_of v))))
      (Done (set_memory x (on_block end n (block_of u))))
  end_over old now (Value.Ptr (Pointer.At b o)) u h k =
      subst (λ (z : Value). Over old now (Done (set_memory w (end w.world.memory b)))
      (Done (set_memory x (on_block end n (block_of z))))) (sym h.1)
      (memory_over old now (end w.world.memory b) (end m b) (end n (home b)) (muted_ended hides w.world.memory
      (Value.Ptr (Pointer.At b o)) (shown_value (Value.Ptr (Pointer.At b o)) u h))
      (dies_embedded c.rights d.rights law law' homes m n b joined.over.memory k ended ended ended_dead)
      (nulls_dead c.rights d.rights homes m n b ended ended ended_dead joined.over.nulls)
      (bounds_changed homes m n b (home b) ended ended ended_size ended_size joined.over.bounds))
  end_over old now (Value.Ptr Pointer.Null) u h k = unmarked old now end u (ap block_of h.1)
  end_over old now (Value.Ptr (Pointer.Func g)) u h k = unmarked old now end u (ap block_of h.1)
  end_over old now (Value.Int y) u h k = unmarked old now end u (ap block_of h)
  end_over old now Value.Poison u h k = unmarked old now end u k

  start_over : (old now : List Arg) (v u : Value) → IsValue homes v u → IsStart c.rights d.rights homes m n v u
      → Over old now (Done (set_memory w (on_block start w.world.memory (block_of v))))
      (Done (set_memory x (on_block start n (block_of u))))
  start_over old now (Value.Ptr (Pointer.At b o)) u h k =
      subst (λ (z : Value). Over old now (Done (set_memory w (start w.world.memory b)))
      (Done (set_memory x (on_block start n (block_of z))))) (sym h.1)
      (memory_over old now (start w.world.memory b) (start m b) (start n (home b)) (muted_started hides w.world.memory
      (Value.Ptr (Pointer.At b o)) (shown_value (Value.Ptr (Pointer.At b o)) u h))
      (starts_embedded c.rights d.rights law law' homes m n b joined.over.memory k.0.live joined.over.bounds h.0 k.1)
      (nulls_changed c.rights d.rights homes m n b started started k.0 k.1.nulls joined.over.nulls)
      (bounds_changed homes m n b (home b) started started started_size started_size joined.over.bounds))
  start_over old now (Value.Ptr Pointer.Null) u h k = unmarked old now start u (ap block_of h.1)
  start_over old now (Value.Ptr (Pointer.Func g)) u h k = unmarked old now start u (ap block_of h.1)
  start_over old now (Value.Int y) u h k = unmarked old now start u (ap block_of h)
  start_over old now Value.Poison u h k = unmarked old now start u k

  -- ---- instructions

  abbrev Op : Operand → Operand → Type 0
  Op = StandsFor true (IsValue homes) c d w.values x.values

  abbrev Goes : Fetched → Fetched → Type 0
  Goes here there = GoesOver c.rights d.rights homes hides maps (given_at here) (args_at here) (args_at there) w x
      (action_of c w here) (action_of d x there)

  marked_value : (args now : List Arg) → Pairwise (ArgStays Op) args now
      → IsValue homes (nth (arg_values c.code w.values args) 1) (nth (arg_values d.code x.values now) 1)
  marked_value args now h = nth_kept homes (arg_values c.code w.values args) (arg_values d.code x.values now) 1
      (args_stand homes c d w x args now h)

  intrinsic_marks : (i : Intrinsic) (result : Option ℕ) (must_tail : Bool) (ty : Option Ty) (args now : List Arg)
      → Pairwise (ArgStays Op) args now
      → MarksBoth homes hides c d w x (AtInstr (Instr.Call result must_tail ty (Callee.Intrinsic i) args))
      (AtInstr (Instr.Call result must_tail ty (Callee.Intrinsic i) now))
      → Goes (AtInstr (Instr.Call result must_tail ty (Callee.Intrinsic i) args))
      (AtInstr (Instr.Call result must_tail ty (Callee.Intrinsic i) now))
  intrinsic_marks Intrinsic.LifetimeStart result must_tail ty args now h k = start_over args now
      (nth (arg_values c.code w.values args) 1) (nth (arg_values d.code x.values now) 1) (marked_value args now h) k
  intrinsic_marks Intrinsic.LifetimeEnd result must_tail ty args now h k = end_over args now
      (nth (arg_values c.code w.values args) 1) (nth (arg_values d.code x.values now) 1) (marked_value args now h) k
  intrinsic_marks _ result must_tail ty args now h k = absurd k

  call_marks : (callee other : Callee) (result : Option ℕ) (must_tail : Bool) (ty : Option Ty) (args now : List Arg)
      → CalleeStays Op callee other → Pairwise (ArgStays Op) args now
      → MarksBoth homes hides c d w x (AtInstr (Instr.Call result must_tail ty callee args))
      (AtInstr (Instr.Call result must_tail ty other now))
      → Goes (AtInstr (Instr.Call result must_tail ty callee args))
      (AtInstr (Instr.Call result must_tail ty other now))
  call_marks _ _ result must_tail ty args now (Direct (Callee.Named name) e) h k = absurd k
  call_marks _ _ result must_tail ty args now (Direct (Callee.Allocator a) e) h k = absurd k
  call_marks _ _ result must_tail ty args now
      (Direct (Callee.Intrinsic i) e) h k = intrinsic_marks i result must_tail ty args now h k
  call_marks _ _ result must_tail ty args now (Direct (Callee.Local v) e) h k = absurd k
  call_marks _ _ result must_tail ty args now (Indirect v name s) h k = absurd k

  instr_marks : (i j : Instr) → InstrStays Op i j → MarksBoth homes hides c d w x (AtInstr i) (AtInstr j)
      → Goes (AtInstr i) (AtInstr j)
  instr_marks _ _ (Call result must_tail ty callee other args now h hs) k = call_marks callee other result must_tail
      ty args now h hs k
  instr_marks _ _ _ k = absurd k

  here_marks : (here there : Fetched) → IsMarking homes hides maps c d w x here there → Goes here there
  here_marks Nowhere there k = tt
  here_marks (AtInstr i) Nowhere k = absurd k.shape
  here_marks (AtInstr i) (AtInstr j) k = instr_marks i j k.shape k.marks
  here_marks (AtInstr i) (AtTerm t) k = absurd k.shape
  here_marks (AtTerm t) there k = absurd k.marks

pub marks_over : (homes : List Home) (hides : ℕ
    → Bool) (maps : Maps) (c d : Context) (w x : Work) (here there : Fetched) → AreByteRights c.rights
    → AreByteRights d.rights → AreJoined homes hides maps c d w x → IsMarking homes hides maps c d w x here there
    → GoesOver c.rights d.rights homes hides maps (given_at here) (args_at here) (args_at there) w x
    (action_of c w here) (action_of d x there)
marks_over homes hides maps c d w x here there law law' joined k = here_marks homes hides maps c d w x law law' joined
    here there k

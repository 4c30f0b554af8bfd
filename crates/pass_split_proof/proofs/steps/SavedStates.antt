-- Behind a save, which takes four steps of the part, the states are related.
use Rattle.std.proofs.Common.{◌≡◌, ℕ, ◌+◌, ◌<◌, ◌^◌, Bool, true, false, List, [], ◌∷◌, Option, Some, refl, sym, ap, ◌∙◌, subst, arith, if◌then◌else◌}
use Rattle.std.specs.Prelude.{pos, slice_get, slice_set}
use Rattle.pass_proofs.specs.ir_base.declared.outcome.Outcome.{Outcome}
use Rattle.pass_proofs.specs.ir_model.Names.{function_at, position_of}
use Rattle.pass_proofs.specs.ir_model.Ty.{ptr}
use Rattle.pass_proofs.specs.ir_model.TypeView.{bits_of}
use Rattle.pass_proofs.specs.ir_model.declared.instr.Instr.{Instr}
use Rattle.pass_proofs.specs.ir_model.declared.operand.Operand.{Operand}
use Rattle.pass_proofs.specs.ir_paths.declared.point.Point.{Point}
use Rattle.pass_proofs.specs.pass_intrinsics.Lowered.{address, is_final_at, number_arg, resumed_by, save_stores, store_pointer}
use Rattle.pass_proofs.specs.pass_intrinsics.Shapes.{index_bytes}
use Rattle.pass_proofs.specs.pass_intrinsics.declared.shape.Part.{Part}
use Rattle.pass_proofs.specs.pass_intrinsics.declared.shape.Shape.{Shape}
use Rattle.pass_proofs.specs.pass_intrinsics.declared.shape.SuspendPoint.{SuspendPoint}
use Rattle.pass_split_proof.proofs.states.Advanced.{advanced}
use Rattle.pass_split_proof.proofs.states.Saved.{saves}
use Rattle.pass_split_proof.proofs.steps.Marked.{line_marked}
use Rattle.pass_split_proof.proofs.steps.Saves.{save_runs, state_frames, values_extra}
use Rattle.pass_split_proof.specs.code.Numbers.{IsNumbered}
use Rattle.pass_proofs.specs.split.rules.Reached.{IsLedTo}
use Rattle.pass_split_proof.specs.states.Activations.{Inside, is_entering}
use Rattle.pass_split_proof.specs.states.Going.{goes_to, stands_at}
use Rattle.pass_split_proof.specs.states.Instances.{IsLaidOut, address_of_part, in_state, is_held, part_position, resumer_of, shape_at}
use Rattle.pass_split_proof.specs.states.Related.{AreRelated}
use Rattle.pass_split_proof.specs.states.Saved.{SavesIn, with_index, with_save}
use Rattle.pass_split_proof.specs.steps.Saves.{HasSaveCode}
use Rattle.pass_split_proof.specs.steps.Small.{IsIndexWidth}
use Rattle.pass_proofs.specs.run_framed.Framed.{FramedGiven, layout_of}
use Rattle.pass_proofs.proofs.run_laws.transfer.Sets.{set_elsewhere, set_length}
use Rattle.pass_proofs.specs.run_laws.access.Lines.{Runs, pointer_at}
use Rattle.pass_proofs.specs.run_memory.declared.pointer.Pointer.{Pointer}
use Rattle.pass_proofs.specs.run_memory.declared.pointer.Value.{Value}
use Rattle.run_access_worked.specs.run_plain.Plain.{PlainGiven, plain_context, plain_function, plain_step, plain_work}
use Rattle.run_access_worked.specs.run_plain.declared.state.PlainState.{PlainState}
use Rattle.pass_proofs.specs.run_source.declared.state.Instance.{Instance}
use Rattle.pass_proofs.specs.run_source.declared.state.Saved.{Saved}
use Rattle.pass_proofs.specs.run_source.declared.state.State.{State}
use Rattle.pass_proofs.specs.run_source.declared.state.Status.{Status}
use Rattle.pass_proofs.specs.run_step.Runs.{iterate}
use Rattle.pass_proofs.specs.run_step.Step.{Work, set_memory, set_value, value_at}
use Rattle.pass_proofs.specs.run_step.Values.{address_of, value_in}
use Rattle.pass_split_proof.proofs.steps.Through.{RunsThrough, runs_of}
use Rattle.pass_proofs.specs.run_memory.declared.block.MemoryBlock.{MemoryBlock}

-- what a save stores for a resume is a pointer
pointer_for : FramedGiven → ℕ → SuspendPoint → Pointer
pointer_for g func p = if p.is_final then Pointer.Null else Pointer.Func (part_position g func Part.Resume)

resumer_is : (g : FramedGiven) (func : ℕ) (p : SuspendPoint) → resumer_of g func p ≡ Value.Ptr (pointer_for g func p)
unfolding pointer_for
resumer_is g func p = on p.is_final
  where
    on : (b : Bool) → (if b then Value.Ptr Pointer.Null else address_of_part g func Part.Resume) ≡ Value.Ptr
        (if b then Pointer.Null else Pointer.Func (part_position g func Part.Resume))
    on true = refl
    on false = refl

operand_is : (g : FramedGiven) (h : PlainGiven) (t : PlainState) (func : ℕ) (p : SuspendPoint) (w : Work)
    → address_of h.code (shape_at g func).resume_name ≡ address_of_part g func Part.Resume
    → value_at (plain_context h t) w ptr (resumed_by (shape_at g func) p.is_final) ≡ resumer_of g func p
operand_is g h t func p w named = on p.is_final
  where
    on : (b : Bool) → value_at (plain_context h t) w ptr (resumed_by (shape_at g func) b) ≡
        (if b then Value.Ptr Pointer.Null else address_of_part g func Part.Resume)
    on true = refl
    on false = named

module _ (g : FramedGiven) (h : PlainGiven) (s : State) (t : PlainState) (r : AreRelated g h s t) (i : ℕ)
    (x : Instance) (number : ℕ)
    (code : HasSaveCode g h s t r number) (e : slice_get s.instances i ≡ Some x) (mine : x.coroutine ≡ s.top.func)
    (at_begin : value_in t.top.values (shape_at g s.top.func).begin ≡ pointer_at x.block x.start)
    (held : is_held s.world.memory x ≡ true) (laid : IsLaidOut g x.coroutine)
    (small : x.start + (layout_of g.layouts x.coroutine).index < 2 ^ 64)
    (suspend : Point) (numbered : IsNumbered (function_at g.given.code x.coroutine) suspend number)
    (led : IsLedTo (function_at g.given.code x.coroutine) numbered.suspend.block) (saved : Option Saved) where
  stored : SavesIn g s.instances i x s.world.memory t.world.memory number (resumer_of g x.coroutine numbered.suspend)
      suspend s.top.values saved x.released
  stored = saves g s.instances i x s.world.memory t.world.memory e held r.frames r.world.memory laid suspend
      s.top.values saved x.released number numbered led

  abbrev after : Work
  after = set_memory (set_value (plain_work t) code.name
      (pointer_at x.block (x.start + (layout_of g.layouts x.coroutine).index))) (with_save g t.world.memory x number
      (resumer_of g x.coroutine numbered.suspend))

  abbrev shape : Shape
  shape = shape_at g s.top.func

  other_name : code.name ≡ shape.begin → ⊥
  other_name h = let a = code.new in let b = code.begin in omega arith

  -- the framed run is behind the save, and the part at the mark
  pub save_related : is_entering s.top.mode ≡ false
      → AreRelated g h
      (goes_to s s.world (slice_set s.instances i (in_state x (Status.Suspended suspend s.top.values) saved
      x.released)) s.top.block (s.top.at + 1) s.top.values true)
      (stands_at t (position_of (plain_function h t) code.mark) 0 after)
  save_related mode = advanced g h s t r (record { world = s.world; values = s.top.values }) after
      (slice_set s.instances i (in_state x (Status.Suspended suspend s.top.values) saved x.released)) s.top.block
      (s.top.at + 1) (position_of (plain_function h t) code.mark) 0 true mode
      (record { memory = stored.beside; events = r.world.events; answers = r.world.answers; allocs = r.world.allocs })
      stored.frames
      (state_frames s.instances i x (Status.Suspended suspend s.top.values) saved x.released e)
      (omega arith) (record { each = λ b k. refl })
      (values_extra (function_at g.given.code s.top.func) _ s.top.values t.top.values code.name
      (pointer_at x.block (x.start + (layout_of g.layouts x.coroutine).index)) code.new r.top.values)
      refl (set_length t.top.values code.name (pointer_at x.block (x.start + (layout_of g.layouts x.coroutine).index)))
      (set_elsewhere t.top.values code.name r.top.shape.begin
      (pointer_at x.block (x.start + (layout_of g.layouts x.coroutine).index)) (λ k. other_name (k
      ∙ ap (λ (z : Shape). z.begin) code.same)))
      (Inside s.top.mode mode code.place)

  final : is_final_at (slice_get (shape_at g x.coroutine).suspends number) ≡ numbered.suspend.is_final
  final = ap is_final_at numbered.stands

  abbrev line_by : Bool → List Instr
  line_by b = address code.name (Operand.Local (shape_at g x.coroutine).begin) (pos (shape_at g x.coroutine).index)
      ∷ Instr.Store (number_arg (bits_of (shape_at g x.coroutine).width) (pos number)) (Operand.Local code.name)
      (index_bytes (shape_at g x.coroutine).width)
      ∷ store_pointer (resumed_by (shape_at g x.coroutine) b) (Operand.Local (shape_at g x.coroutine).begin)
      ∷ []

  abbrev after_with : Value → Work
  after_with v
      = set_memory (set_value (plain_work t) code.name
      (pointer_at x.block (x.start + (layout_of g.layouts x.coroutine).index))) (with_save g t.world.memory x number v)

  -- what holds of the memory before, with the index, and with the pointer too, holds all the way
  pub runs_through : (P : List MemoryBlock → Type 0) → P t.world.memory → P (with_index g t.world.memory x number)
      → P (with_save g t.world.memory x number (resumer_of g x.coroutine numbered.suspend))
      → RunsThrough P (plain_context h t) (save_stores (shape_at g x.coroutine) code.name number) (plain_work t) after
  runs_through P none index all = subst (λ (b : Bool). RunsThrough P (plain_context h t) (line_by b) (plain_work t)
      after) (sym final)
      (subst (λ (v : Value). RunsThrough P (plain_context h t) (line_by numbered.suspend.is_final) (plain_work t)
      (after_with v)) (sym (resumer_is g x.coroutine numbered.suspend))
      (save_runs (plain_context h t) (plain_work t) (shape_at g x.coroutine) code.name number x.block x.start
      (resumed_by (shape_at g x.coroutine) numbered.suspend.is_final) (pointer_for g x.coroutine numbered.suspend)
      stored.old stored.older
      (ap (λ (f : ℕ). value_in t.top.values (shape_at g f).begin) mine ∙ at_begin) small
      (λ k. other_name (k ∙ ap (λ (f : ℕ). (shape_at g f).begin) mine)) code.room
      (subst (λ (f : ℕ). IsIndexWidth (shape_at g f).width) (sym mine) code.width)
      (λ k. code.byte (ap (λ (f : ℕ). (shape_at g f).width) (sym mine) ∙ k))
      (λ k. code.word (ap (λ (f : ℕ). (shape_at g f).width) (sym mine) ∙ k))
      stored.first stored.long stored.second stored.longer
      (subst (λ (f : ℕ). (w : Work)
      → value_at (plain_context h t) w ptr (resumed_by (shape_at g f) numbered.suspend.is_final) ≡ resumer_of g f
      numbered.suspend) (sym mine) (λ w. operand_is g h t s.top.func numbered.suspend w code.named)
      (set_memory (set_value (plain_work t) code.name
      (pointer_at x.block (x.start + (layout_of g.layouts x.coroutine).index)))
      (with_index g t.world.memory x number)) ∙ resumer_is g x.coroutine numbered.suspend) P none index
      (subst (λ (v : Value). P (with_save g t.world.memory x number v)) (resumer_is g x.coroutine numbered.suspend)
      all)))

  pub runs_here : Runs (plain_context h t) (save_stores (shape_at g x.coroutine) code.name number) (plain_work t) after
  runs_here = runs_of (λ n. Unit {0}) (plain_context h t) (save_stores (shape_at g x.coroutine) code.name number)
      (plain_work t) after (runs_through (λ n. Unit {0}) tt tt tt)

  -- it takes four steps
  pub save_steps : t.outcome ≡ Outcome.Running
      → iterate (plain_step h) 4 t ≡ stands_at t (position_of (plain_function h t) code.mark) 0 after
  save_steps running = line_marked h t running (save_stores shape code.name number) code.mark after code.stands
      code.bare
      (subst (λ (f : ℕ). Runs (plain_context h t) (save_stores (shape_at g f) code.name number) (plain_work t) after)
      mine runs_here)

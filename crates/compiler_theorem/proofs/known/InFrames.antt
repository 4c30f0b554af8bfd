-- A slot of an instance has its field in the instance's frame, in each state of the run of an accepted source.
use Rattle.std.proofs.Common.{◌≡◌, ℕ, zero, suc, ◌<◌, Bool, true, false, List, [], ◌∷◌, Option, Some, refl, sym}
use Rattle.std.proofs.Common.{ap, ◌∙◌, subst, length, arith}
use Rattle.std.proofs.lemmas.Option.{slice_get-map}
use Rattle.std.specs.List.{Contains}
use Rattle.std.specs.Prelude.{option_map, slice_get, slice_index_or}
use Rattle.compiler_theorem.proofs.known.Fields.{slot_field}
use Rattle.compiler_theorem.proofs.known.Runs.{marks_known, run, sized}
use Rattle.compiler_theorem.proofs.theorem.Stepping.{slots, sound}
use Rattle.compiler_theorem.specs.known.Counts.{own}
use Rattle.compiler_theorem.specs.known.Frames.{AreMarkersLeft, AreSlotsApart}
use Rattle.compiler_theorem.specs.theorem.Anew.{Anew, IsAnewOf}
use Rattle.compiler_theorem.specs.theorem.Asked.{asking}
use Rattle.compiler_theorem.specs.theorem.Entries.{IsEntryCall, Run}
use Rattle.compiler_theorem.specs.theorem.Lowered.{HasFewBytes, IsLowered, Lowered, early, edged}
use Rattle.compiler.specs.ir_base.declared.outcome.Outcome.{Outcome}
use Rattle.compiler.specs.ir_model.Names.{function_at}
use Rattle.compiler.specs.ir_model.Ty.{Ty}
use Rattle.compiler.specs.ir_model.declared.module.Function.{Function}
use Rattle.compiler.specs.ir_model.declared.operand.Arg.{Arg}
use Rattle.compiler.proofs.ir_paths.Search.{or_right}
use Rattle.pass_frames_meaning.proofs.known.Operands.{own_there}
use Rattle.pass_frames_meaning.proofs.slotted.Facts.{listed_times}
use Rattle.pass_frames_meaning.proofs.sized.Slotwise.{kept_at}
use Rattle.pass_frames_meaning.specs.Coroutines.{MayMark}
use Rattle.pass_frames_meaning.specs.Marks.{AreMarkedSlotsThere}
use Rattle.pass_frames_meaning.specs.Sized.{AreSlotwise, IsSizedAt, sizes_of}
use Rattle.pass_frames_meaning.proofs.pass_frames_proof.lines.Cells.{contained}
use Rattle.pass_frames_meaning.specs.pass_frames_proof.Marking.{marking}
use Rattle.pass_frames_meaning.specs.pass_frames_proof.Related.{AreBuiltOf, is_coroutine}
use Rattle.pass_frames_meaning.specs.pass_frames_proof.Slotted.{HasFrameThere, IsSlotInFrame}
use Rattle.compiler.specs.run_memory.Memory.{is_killed}
use Rattle.compiler.specs.run_memory.declared.block.MemoryBlock.{MemoryBlock}
use Rattle.pass_frames_meaning.specs.run_slots.Slots.{is_killed_in}
use Rattle.compiler.specs.run_source.State.{function_of, is_finished}
use Rattle.compiler.specs.run_source.declared.state.Instance.{Instance}
use Rattle.compiler.specs.run_source.declared.state.State.{State}
use Rattle.compiler.specs.run_states.sound_states.Sound.{IsInstanceOf}
use Rattle.compiler.specs.run_step.Step.{AtInstr, fetch}
use Rattle.compiler.specs.run_step.declared.world.Slot.{Slot}
use Rattle.compiler_theorem.specs.theorem.Between.{renewing}

slot_among : (W : Function → Slot → Type 0) (f : Function) (ss : List Slot) (slot : Slot) (k : ℕ) → k < length ss
    → slice_index_or ss k slot ≡ slot → AreSlotwise W f ss → W f slot
slot_among W f [] slot k lt e h = absurd (omega (arith, lt))
slot_among W f (s ∷ ss) slot zero lt e h = subst (W f) e h.0
slot_among W f (s ∷ ss) slot (suc k) lt e h = slot_among W f ss slot k (omega (arith, lt)) e h.1

module _ (l : Lowered) (low : IsLowered l) (few : HasFewBytes l) (a : Anew) (anew : IsAnewOf (early l) a) (r : Run)
    (entered : IsEntryCall l.source r) (n number : ℕ) (x : Instance)
    (there : slice_get (run l low few a anew r entered n).instances number ≡ Some x)
    (coroutine : (function_at (early l) x.coroutine).coroutine ≡ true) (slot : Slot)
    (among : Contains x.slots slot) where
  abbrev memory : List MemoryBlock
  memory = (run l low few a anew r entered n).world.memory

  slot_sized : IsSizedAt (edged l) (sizes_of (run l low few a anew r entered n).world.memory)
      (function_at (edged l) x.coroutine) slot
  slot_sized =
      slot_among (IsSizedAt (edged l) (sizes_of memory)) (function_at (edged l) x.coroutine) x.slots slot among.0
      among.1 among.2
      (kept_at (IsSizedAt (edged l) (sizes_of memory)) (edged l) (run l low few a anew r entered n).instances number
      x there (sized l low few a anew r entered n).instances)

  pub slot_in_frame : (starts : Bool)
      → ((y : MemoryBlock) → slice_get (run l low few a anew r entered n).world.memory slot.block ≡ Some y
      → is_killed y.life ≡ false
      → HasFrameThere (asking l low a r).b (run l low few a anew r entered n) x)
      → (starts ≡ true → AreSlotsApart (asking l low a r).b (run l low few a anew r entered n) x slot)
      → IsSlotInFrame (asking l low a r).b (run l low few a anew r entered n) number x slot starts
  slot_in_frame starts frame apart = record {
    own = among;
    alone = record {
      there = there;
      alone = λ j z e same. (slots l low few a anew r entered n).slotted.apart j number z x e there same;
    };
    field = λ position at y e.
        slot_field l low few a anew r entered x.coroutine coroutine (sizes_of memory) slot slot_sized position at y.size
        y.align
        (slice_get-map (λ (z : MemoryBlock). (z.size, z.align)) memory slot.block
        ∙ ap (option_map (λ (z : MemoryBlock). (z.size, z.align))) e);
    frame = frame;
    apart = λ start other listed off z y e d live p q i k. (apart start).each other listed off z y e d live p q i k;
  }

  -- its instance isn't freed if the slot wasn't killed
  pub unfreed : (y : MemoryBlock) → slice_get (run l low few a anew r entered n).world.memory slot.block ≡ Some y
      → is_killed y.life ≡ false → x.freed ≡ false
  unfreed y e lives = on x.freed refl
    where
      on : (b : Bool) → x.freed ≡ b → b ≡ false
      on false d = refl
      on true d =
          let killed = (slots l low few a anew r entered n).slotted.over number x there
          (or_right (is_finished x.status) x.freed d) slot.block
          (listed_times x.slots slot (contained x.slots slot among)) in
          let no : false ≡ true = sym lives ∙ sym (ap is_killed_in e) ∙ killed in
          absurd (cc)

-- ---- markers

module _ (l : Lowered) (low : IsLowered l) (few : HasFewBytes l) (a : Anew) (anew : IsAnewOf (early l) a) (r : Run)
    (entered : IsEntryCall l.source r) (n : ℕ) (t : State)
    (built : AreBuiltOf (asking l low a r).b (run l low few a anew r entered n) t)
    (coroutine : is_coroutine (asking l low a r).b (run l low few a anew r entered n).top.func ≡ true) where
  abbrev s : State
  s = run l low few a anew r entered n

  of_coroutine : (number : ℕ) (x : Instance) → (run l low few a anew r entered n).top.instance ≡ Some number
      → slice_get (run l low few a anew r entered n).instances number ≡ Some x
      → (function_at (early l) x.coroutine).coroutine ≡ true
  of_coroutine number x own e =
      let z = own_there s.instances s.top.func number
      (subst (IsInstanceOf s.instances s.top.func) own (sound l low few a anew r entered n).top.instance) in
      let both : Some x ≡ Some z.0 = sym e ∙ z.1 in
      let same : z.0 ≡ x = cc in
      subst (λ (k : ℕ). (function_at (early l) k).coroutine ≡ true)
      (sym z.2 ∙ ap (λ (y : Instance). y.coroutine) same) coroutine

  slots_there : (name : ℕ) (starts : Bool)
      → AreMarkersLeft l low a r (run l low few a anew r entered n) t built name starts
      → AreMarkedSlotsThere (asking l low a r) (own l a r) (run l low few a anew r entered n) t built name starts
  slots_there name starts left = record {
    frames = λ number x slot top e among named.
        slot_in_frame l low few a anew r entered n number x e (of_coroutine number x top e) slot among starts
        (λ y d lives.
        left.frame number x e
        (unfreed l low few a anew r entered n number x e (of_coroutine number x top e) slot among y d lives))
        (λ start. left.apart start number x slot top e among named);
    temporaries = λ slot none among named q e listed is made.
        left.temporaries slot none among named q e listed is made;
    first = left.first;
  }

  pub marks_left : (run l low few a anew r entered n).outcome ≡ Outcome.Running → (starts : Bool)
      → ((must_tail : Bool) (ty : Option Ty) (size : Arg) (u : Ty) (name : ℕ)
      → fetch (function_of (renewing l a r).given (run l low few a anew r entered n))
      (run l low few a anew r entered n).top.block (run l low few a anew r entered n).top.at
      ≡ AtInstr (marking starts must_tail ty size u name)
      → AreMarkersLeft l low a r (run l low few a anew r entered n) t built name starts)
      → MayMark (asking l low a r) (run l low few a anew r entered n) t built starts
  marks_left runs starts left =
      marks_known l low few a anew r entered n t built runs coroutine starts
      (λ must_tail ty size u name there. slots_there name starts (left must_tail ty size u name there))

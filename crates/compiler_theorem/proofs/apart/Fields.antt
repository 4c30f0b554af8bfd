-- No live slot of a suspended instance lies in the field of a value that crosses its suspend.
use Rattle.std.proofs.Common.{◌≡◌, ◌+◌, ◌∷◌, arith, List, ℕ, Bool, true, false, not, ◌&&◌, Some, sym, ap, ◌∙◌, subst, inl, inr, ◌⊎◌, refl}
use Rattle.std.specs.Prelude.{slice_get}
use Rattle.compiler_theorem.proofs.apart.Beside.{IsAsleepBefore, IsSlotBefore, asleep_before, instance_before, lives_before, slot_before}
use Rattle.compiler_theorem.proofs.apart.Facts.{function, good, held, layout, placed, size_is, there_now}
use Rattle.compiler_theorem.proofs.apart.Kept.{alive, edged_is}
use Rattle.compiler_theorem.proofs.apart.Layouts.{alive_apart}
use Rattle.compiler_theorem.proofs.apart.Tables.{frame_slot, not_named}
use Rattle.compiler_theorem.proofs.kinds.Held.{IsPlacedAs, slot_kind_is}
use Rattle.compiler_theorem.proofs.theorem.Needed.{StandsIn, stands_at}
use Rattle.compiler_theorem.specs.kinds.Held.{IsHeldAsValue}
use Rattle.compiler_theorem.specs.known.Counts.{counts, is_slot_of, stays_own}
use Rattle.compiler_theorem.specs.theorem.Anew.{Anew, IsAnewOf, IsSlotOf}
use Rattle.compiler_theorem.specs.theorem.Asked.{asking}
use Rattle.compiler_theorem.specs.theorem.Between.{setting}
use Rattle.compiler_theorem.specs.theorem.Entries.{IsEntryCall, Run}
use Rattle.compiler_theorem.specs.theorem.Lowered.{HasFewBytes, IsLowered, Lowered, early, edged}
use Rattle.compiler.specs.flow_solver.Paths.{IsListed}
use Rattle.compiler.specs.frame_classes.Alive.{MayBeAlive, Started}
use Rattle.compiler.specs.frame_classes.Classes.{suspends}
use Rattle.compiler.specs.frame_classes.declared.class.SlotClass.{SlotClass}
use Rattle.compiler.specs.frame_contents.Held.{position_of, slot_held}
use Rattle.compiler.specs.ir_model.Layout.{size_of}
use Rattle.compiler.specs.ir_model.Names.{function_at}
use Rattle.compiler.specs.ir_model.Ty.{Ty}
use Rattle.compiler.specs.ir_model.declared.instr.Instr.{Instr}
use Rattle.compiler.specs.ir_model.declared.module.Function.{Function}
use Rattle.compiler.specs.ir_model.declared.operand.Intrinsic.{Intrinsic}
use Rattle.compiler.specs.ir_paths.Slots.{IsRampSlot, allocas_of, has_name, promise_of}
use Rattle.compiler.specs.ir_paths.Windows.{is_call_of, points_where}
use Rattle.compiler.specs.ir_paths.declared.point.Point.{Point}
use Rattle.compiler.specs.pass_edges.EdgeBlocks.{with_edge_blocks}
use Rattle.compiler.specs.pass_fetch.Fetching.{value_bytes}
use Rattle.compiler.specs.pass_cells.declared.plan.KeptValue.{KeptValue}
use Rattle.compiler.specs.pass_frames.Tables.{offset_at}
use Rattle.pass_frames_meaning.specs.Spared.{HasFieldAt}
use Rattle.pass_frames_meaning.specs.pass_frames_proof.Places.{Framing}
use Rattle.pass_frames_meaning.specs.pass_frames_proof.Related.{IsSuspendNumber}
use Rattle.pass_frames_meaning.specs.pass_frames_proof.Slotted.{AreRangesApart}
use Rattle.compiler.proofs.pass_kept_proof.Read.{listed_by_name}
use Rattle.compiler.proofs.pass_proofs.early.path_rules.RenamedOperands.{map_was}
use Rattle.compiler.proofs.pass_proofs.edges.paths.Points.{points_moved}
use Rattle.compiler.proofs.pass_proofs.edges.rules.Alive.{alive_stays}
use Rattle.compiler.proofs.pass_proofs.kept.sources.Whole.{edges_kept}
use Rattle.compiler.specs.pass_proofs.edges.paths.Spots.{moved}
use Rattle.pass_frames_meaning.specs.pass_renewed_meaning.Offsets.{first_at}
use Rattle.pass_frames_meaning.specs.pass_renewed_proof.Beside.{IsBeside, IsInstanceBeside}
use Rattle.pass_frames_meaning.specs.pass_renewed_proof.SlotRules.{IsMadeOnce, IsMarkerAt}
use Rattle.run_accepted.proofs.Alive.{listed}
use Rattle.compiler.specs.run_framed.Framed.{layout_of}
use Rattle.pass_frames_meaning.proofs.run_hooks.alive.Parts.{all_where}
use Rattle.pass_frames_meaning.proofs.run_hooks.alive.Says.{may_be_alive}
use Rattle.pass_frames_meaning.specs.run_hooks.alive.Alive.{IsAliveInstance, IsAliveState, account_of, AreAliveAt, Stays}
use Rattle.compiler.specs.run_memory.Memory.{is_live}
use Rattle.compiler.specs.run_memory.declared.block.MemoryBlock.{MemoryBlock}
use Rattle.compiler.specs.run_source.declared.state.Instance.{Instance}
use Rattle.compiler.specs.run_source.declared.state.State.{State}
use Rattle.compiler.specs.run_source.declared.state.Status.{Status}
use Rattle.compiler.specs.run_step.Step.{AtInstr, fetch, has_markers}
use Rattle.compiler.specs.run_step.Values.{Env}
use Rattle.compiler.specs.run_step.declared.world.Slot.{Slot}
use Rattle.compiler.specs.ir_paths.Paths.{has_point, nexts}
use Rattle.pass_frames_meaning.specs.run_hooks.Away.{point_in, spot_of}
use Rattle.pass_frames_meaning.specs.run_hooks.alive.Slots.{IsAliveSlot, IsHeld, is_gone, lives}
use Rattle.pass_frames_meaning.proofs.run_hooks.alive.Lives.{not_gone}
use Rattle.pass_frames_meaning.proofs.run_hooks.alive.Marks.{held_on, spot_is}
use Rattle.pass_frames_meaning.proofs.run_hooks.alive.Open.{after}
use Rattle.compiler.specs.run_source.Source.{is_over}
use Rattle.compiler.specs.run_source.declared.state.Activation.{Activation}
use Rattle.compiler.specs.run_source.declared.state.Mode.{Mode}

both_true : (b d : Bool) → b ≡ true → d ≡ false → (b && not d) ≡ true
both_true b d e f = λ j. e j && not (f j)

module _ (l : Lowered) (low : IsLowered l) (few : HasFewBytes l) (a : Anew) (anew : IsAnewOf (early l) a) (r : Run)
    (entered : IsEntryCall l.source r) (n : ℕ) (s : State)
    (beside : IsBeside (edged l) a.flags a.roots (first_at (setting l a r) n) s) (i : ℕ) (x : Instance)
    (there : slice_get s.instances i ≡ Some x) (coroutine : (function_at (early l) x.coroutine).coroutine ≡ true) where
  abbrev z : State
  z = first_at (setting l a r) n

  abbrev f : Function
  f = function_at (early l) x.coroutine

  abbrev h : Function
  h = with_edge_blocks f

  abbrev framing : Framing
  framing = (asking l low a r).b.framing x.coroutine

  before : (w : Instance) × (slice_get z.instances i ≡ Some w)
      × IsInstanceBeside (edged l) a.flags a.roots beside.ledger z.world.memory i w x
  before =
      let first : 0 + i ≡ i = omega arith in
      let b = instance_before (edged l) a.flags a.roots beside.ledger z.world.memory 0 z.instances s.instances i x
      beside.instances there in (
        b.0,
        b.1,
        subst (λ (k : ℕ). IsInstanceBeside (edged l) a.flags a.roots beside.ledger z.world.memory k b.0 x) first
            b.2,
      )

  abbrev w : Instance
  w = before.0

  own : w.coroutine ≡ x.coroutine
  own = sym (ap (λ (y : Instance). y.coroutine) before.2.is)

  now : function_at (edged l) w.coroutine ≡ with_edge_blocks f
  now = ap (function_at (edged l)) own ∙ edged_is l low few a anew r entered x.coroutine coroutine

  whole : IsAliveState (edged l) (counts l a r) z
  whole = alive l low few a anew r entered n

  inst : IsAliveInstance (edged l) (counts l a r) (account_of whole.tags z) (z.top ∷ z.below) i w
  inst = whole.instances i w before.1

  module _ (slot : Slot) (own_slot : IsListed slot x.slots) where
    first : IsSlotBefore beside.ledger (a.flags w.coroutine) w.slots slot
    first = slot_before beside.ledger _ (a.flags w.coroutine) w.slots before.2.slots before.2.listed slot
        (subst (IsListed slot) (ap (λ (y : Instance). y.slots) before.2.is) own_slot)

    off : a.flags x.coroutine slot.alloca ≡ false
    off = ap (λ (k : ℕ). a.flags k slot.alloca) (sym own) ∙ first.off

    pub once : IsMadeOnce (with_edge_blocks (function_at (early l) x.coroutine)) slot.alloca
    once = subst (λ (g : Function). IsMadeOnce g slot.alloca) now
        (all_where _ w.slots inst.owned first.number _ first.there).made

    pub apart : IsRampSlot (with_edge_blocks (function_at (early l) x.coroutine)) slot.alloca → ⊥
    apart = subst (λ (g : Function). IsRampSlot g slot.alloca → ⊥) now
        (all_where (λ (y : Slot). IsRampSlot (function_at (edged l) w.coroutine) y.alloca → ⊥) w.slots inst.shared
        first.number _ first.there)

    abbrev there_f : slice_get (early l).functions x.coroutine ≡ Some f
    there_f = there_now l low a r x.coroutine coroutine

    pub frame : IsSlotOf (function_at (early l) x.coroutine) SlotClass.Frame slot.alloca
    frame = frame_slot l low a anew x.coroutine f there_f coroutine slot.alloca once apart off

    among : has_name (allocas_of (with_edge_blocks f)) slot.alloca ≡ true
    among = listed (with_edge_blocks f) slot.alloca once

    counted : counts l a r w.coroutine slot.alloca ≡ true
    counted = ap (λ (k : ℕ). counts l a r k slot.alloca) own
        ∙ both_true (is_slot_of l x.coroutine slot.alloca) (stays_own l a r x.coroutine slot.alloca)
        (ap (λ (g : Function). has_name (allocas_of g) slot.alloca)
        (edged_is l low few a anew r entered x.coroutine coroutine) ∙ among)
        (not_named l low a anew x.coroutine f there_f coroutine slot.alloca among apart off)

    module _ (p : Point) (env : Env) (status : x.status ≡ Status.Suspended p env) (y : MemoryBlock)
        (held_block : slice_get s.world.memory slot.block ≡ Some y) (live : is_live y.life ≡ true) where
      asleep : IsAsleepBefore (edged l) a.flags a.roots beside.ledger z.world.memory w p env
      asleep = asleep_before (edged l) a.flags a.roots beside.ledger z.world.memory w before.2.status
          before.2.statuses p env (sym (ap (λ (q : Instance). q.status) before.2.is) ∙ status)

      may : MayBeAlive (with_edge_blocks f) slot.alloca p
      may = subst (λ (g : Function). MayBeAlive g slot.alloca p) now
          (may_be_alive (counts l a r w.coroutine) z.world.memory (function_at (edged l) w.coroutine) asleep.env p w
          ((inst.asleep p asleep.env asleep.status).alive) first.number _ first.there
          (lives_before (edged l) beside.ledger z.world.memory s.world.memory beside.entered (a.flags w.coroutine) w.slots
          slot first y held_block live) counted)

      -- where edges have no blocks
      module _ (suspend : ℕ) (number : IsSuspendNumber ((asking l low a r).b.framing x.coroutine) suspend p) where
        point : (q : Point) × ((slice_get (suspends f) suspend ≡ Some q) × (p ≡ moved f q))
        point = map_was (moved f) (suspends f) suspend p
            (ap (λ (ps : List Point). slice_get ps suspend) (sym (points_moved (is_call_of Intrinsic.CoroSuspend) f))
            ∙ ap (λ (g : Function). slice_get (points_where (is_call_of Intrinsic.CoroSuspend) (with_edge_blocks g)) suspend)
            (sym (function l low a r x.coroutine coroutine)) ∙ number)

        may_there : MayBeAlive f slot.alloca point.0
        may_there =
            (alive_stays f (edges_kept l.text l.source low.source.stands low.source.accepted x.coroutine f there_f
            coroutine).labels slot.alloca point.0).1 (subst (MayBeAlive (with_edge_blocks f) slot.alloca) point.1.1 may)

        module _ (at align : ℕ) (ty : Ty)
            (alloca : fetch (function_at (edged l) x.coroutine) 0 at ≡ AtInstr (Instr.Alloca slot.alloca ty align))
            (sized : y.size ≡ size_of (edged l) ty) (v position place : ℕ) (k : KeptValue)
            (field : HasFieldAt (asking l low a r).b x.coroutine suspend v position k)
            (told : position_of ((asking l low a r).b.framing x.coroutine).contents.held slot.alloca ≡ Some place) where
          value : IsHeldAsValue framing v k
          value = held l low a r x.coroutine coroutine v k field.kept

          slot_at : IsPlacedAs framing.contents.held (slot_held framing.code (promise_of framing.function) slot.alloca ty
              align)
          slot_at = placed l low a r x.coroutine coroutine at slot.alloca align ty alloca frame.is_of

          index : StandsIn (allocas_of f) slot.alloca
          index = stands_at slot.alloca (allocas_of f) (listed_by_name (allocas_of f) slot.alloca frame.is_alloca)

          same_number : (u q : ℕ) → Some u ≡ Some q → u ≡ q
          same_number u q e = cc

          position_is : value.position ≡ position
          position_is = same_number value.position position (sym value.told ∙ field.placed)

          place_is : slot_at.position ≡ place
          place_is = same_number slot_at.position place (sym slot_at.told ∙ told)

          pub field_apart : AreRangesApart (offset_at ((asking l low a r).b.framing x.coroutine).layout place) y.size
              (offset_at ((asking l low a r).b.framing x.coroutine).layout position) (value_bytes k.field_ty)
          field_apart = subst (λ (q : ℕ × (ℕ × ℕ)). AreRangesApart (offset_at framing.layout q.0) q.1.0
              (offset_at framing.layout q.1.1) (value_bytes k.field_ty))
              (λ j. (
                place_is j,
                (
                  (size_is l low a r x.coroutine coroutine at slot.alloca align ty alloca frame.is_of ∙ sym sized) j,
                  position_is j,
                ),
              ))
              (alive_apart framing x.coroutine f (layout_of l.layouts.coroutines x.coroutine) (layout l low a r x.coroutine coroutine)
              (good l low a r x.coroutine coroutine) suspend v index.at k value field.crosses
              (slot_held framing.code (promise_of framing.function) slot.alloca ty align)
              (slot_kind_is (promise_of framing.function) slot.alloca) slot_at index.there frame.is_of
              point.0 point.1.0 may_there)

    -- where its activation stands it may be alive, and so behind what isn't an end of it
    module _ (same_func : x.coroutine ≡ s.top.func) (own_top : s.top.instance ≡ Some i)
        (stays : s.top.has_left ≡ false) (y : MemoryBlock) (held_block : slice_get s.world.memory slot.block ≡ Some y)
        (live : is_live y.life ≡ true) where
      lives_there : lives z.world.memory first.block ≡ true
      lives_there = lives_before (edged l) beside.ledger z.world.memory s.world.memory beside.entered
          (a.flags w.coroutine) w.slots slot first y held_block live

      not_over : is_over w ≡ false
      not_over = on (is_over w) refl
        where
          on : (b : Bool) → is_over w ≡ b → b ≡ false
          on false e = refl
          on true e = absurd (not_gone z.world.memory first.block lives_there
              (all_where (λ (k : Slot). is_gone z.world.memory k.block ≡ true) w.slots (inst.over e) first.number _
              first.there))

      top_func : z.top.func ≡ x.coroutine
      top_func = sym (ap (λ (k : Activation). k.func) beside.top.is) ∙ sym same_func

      abbrev g : Function
      g = function_at (edged l) z.top.func

      g_is : function_at (edged l) z.top.func ≡ with_edge_blocks f
      g_is = ap (function_at (edged l)) top_func ∙ edged_is l low few a anew r entered x.coroutine coroutine

      here : AreAliveAt (counts l a r z.top.func) z.world.memory (function_at (edged l) z.top.func) z.top.values
          (spot_of (function_at (edged l) z.top.func) z.top) w
      here = whole.stack.0.goes i w (sym (ap (λ (k : Activation). k.instance) beside.top.is) ∙ own_top) before.1
          (Stays (sym (ap (λ (k : Activation). k.has_left) beside.top.is) ∙ stays)) not_over

      never_enters : (from label : ℕ) → z.top.mode ≡ Mode.Entering from label → ⊥
      never_enters from label e = on beside.top.modes
        where
          on : (z.top.mode ≡ Mode.Plain) ⊎ ((z.top.mode ≡ Mode.Ramp) ⊎ (z.top.mode ≡ Mode.Resumed)) → ⊥
          on (inl d) = let no : Mode.Plain ≡ Mode.Entering from label = sym d ∙ e in absurd (cc)
          on (inr (inl d)) = let no : Mode.Ramp ≡ Mode.Entering from label = sym d ∙ e in absurd (cc)
          on (inr (inr d)) = let no : Mode.Resumed ≡ Mode.Entering from label = sym d ∙ e in absurd (cc)

      held_here : has_markers (with_edge_blocks f) slot.alloca ≡ true
          → IsHeld (with_edge_blocks f) z.top.values (point_in s.top) (record {
            alloca = slot.alloca;
            block = first.block;
          })
      held_here marked =
          let one = all_where (IsAliveSlot (counts l a r z.top.func) z.world.memory g z.top.values (spot_of g z.top))
          w.slots here.slots first.number _ first.there in
          let is_held = one lives_there (ap (λ (k : ℕ). counts l a r k slot.alloca) (top_func ∙ sym own) ∙ counted)
          (ap (λ (q : Function). has_markers q slot.alloca) g_is ∙ marked) in
          let spot : spot_of g z.top ≡ point_in s.top =
          spot_is g z.top.mode (point_in z.top) never_enters ∙ sym (ap point_in beside.top.is) in
          subst (λ (q : Function × Point). IsHeld q.0 z.top.values q.1 (record {
            alloca = slot.alloca;
            block = first.block;
          })) (λ j. (g_is j, spot j)) is_held

      pub may_behind : has_markers (with_edge_blocks (function_at (early l) x.coroutine)) slot.alloca ≡ true
          → has_point (nexts (with_edge_blocks (function_at (early l) x.coroutine)) (point_in s.top))
          (after (point_in s.top)) ≡ true
          → (IsMarkerAt (with_edge_blocks (function_at (early l) x.coroutine)) Intrinsic.LifetimeEnd slot.alloca
          (point_in s.top) → ⊥)
          → MayBeAlive (with_edge_blocks (function_at (early l) x.coroutine)) slot.alloca (after (point_in s.top))
      may_behind marked edge never =
          let on = held_on h z.top.values z.top.values (point_in s.top) (after (point_in s.top))
          (record { alloca = slot.alloca; block = first.block }) edge never refl (held_here marked) in
          Started on.start on.is_start on.path

-- Where begin stands the slots of the activation that live and will lie in the frame have fields that lie apart.
use Rattle.std.proofs.Common.{◌≡◌, ◌≢◌, ◌⊎◌, inl, inr, ℕ, zero, suc, ◌≤◌, Bool, true, false, not, ◌&&◌, List, [], ◌∷◌}
use Rattle.std.proofs.Common.{length, arith, Option, Some, None, refl, sym, ap, ◌∙◌, subst}
use Rattle.std.proofs.lemmas.Option.{slice_get-map}
use Rattle.std.specs.List.{Contains}
use Rattle.std.specs.Prelude.{option_map, slice_get}
use Rattle.compiler_theorem.proofs.apart.Beside.{IsSlotBefore, early_slot_before, lives_before}
use Rattle.compiler_theorem.proofs.apart.Conflicts.{conflict_apart}
use Rattle.compiler_theorem.proofs.apart.Facts.{there_now}
use Rattle.compiler_theorem.proofs.apart.Kept.{alive, edged_is}
use Rattle.compiler_theorem.proofs.apart.Made.{frame_here, unmarked_before}
use Rattle.compiler_theorem.proofs.apart.Tables.{not_named, ramp_named}
use Rattle.compiler_theorem.proofs.apart.Whole.{IsOfSize, of_slot}
use Rattle.compiler_theorem.proofs.kinds.Whole.{kinds_kept}
use Rattle.compiler_theorem.specs.known.Counts.{counts, is_slot_of, stays_own}
use Rattle.compiler_theorem.specs.theorem.Anew.{Anew, IsAnewOf, IsSlotOf}
use Rattle.compiler_theorem.specs.theorem.Asked.{asking}
use Rattle.compiler_theorem.specs.theorem.Between.{setting}
use Rattle.compiler_theorem.specs.theorem.Entries.{IsEntryCall, Run}
use Rattle.compiler_theorem.specs.theorem.Lowered.{HasFewBytes, IsLowered, Lowered, early, edged}
use Rattle.compiler.specs.flow_solver.Paths.{IsListed}
use Rattle.compiler.specs.frame_classes.Alive.{MayBeAlive, Started, markers_of}
use Rattle.compiler.specs.frame_classes.declared.class.SlotClass.{SlotClass}
use Rattle.compiler.specs.frame_conflicts.Conflicts.{Conflict, Together, Unmarked}
use Rattle.compiler.specs.frame_contents.Held.{position_of}
use Rattle.compiler.proofs.frame_slots.Points.{PassesAt, where_complete, where_sound}
use Rattle.compiler.proofs.ir_laws.paths.renamed.Uses.{StandsIn, stands_in}
use Rattle.compiler.proofs.ir_paths.Right.{facts_of_right}
use Rattle.compiler.specs.ir_model.Names.{function_at}
use Rattle.compiler.specs.ir_model.Ty.{Ty}
use Rattle.compiler.specs.ir_model.declared.instr.Instr.{Instr}
use Rattle.compiler.specs.ir_model.declared.module.Function.{Function}
use Rattle.compiler.specs.ir_model.declared.module.Module.{Module}
use Rattle.compiler.specs.ir_model.declared.operand.Arg.{Arg}
use Rattle.compiler.specs.ir_model.declared.operand.Callee.{Callee}
use Rattle.compiler.specs.ir_model.declared.operand.Intrinsic.{Intrinsic}
use Rattle.compiler.specs.ir_model.Layout.{size_of}
use Rattle.compiler.specs.ir_paths.Paths.{has_point}
use Rattle.compiler.specs.ir_paths.Slots.{IsRampSlot, allocas_of, has_name}
use Rattle.compiler.specs.ir_paths.Windows.{instr_at, is_call_of}
use Rattle.compiler.specs.ir_paths.declared.point.Point.{Point}
use Rattle.compiler.specs.pass_edges.EdgeBlocks.{with_edge_blocks}
use Rattle.compiler.specs.pass_frames.Tables.{offset_at}
use Rattle.compiler.specs.pass_kept_proof.SuspendRules.{IsCallAt}
use Rattle.compiler.specs.pass_proofs.addresses.rules.Addresses.{lies_in_frame}
use Rattle.compiler.proofs.pass_proofs.edges.rules.Alive.{IsMovedTo, alive_stays, from_where}
use Rattle.compiler.specs.pass_proofs.edges.states.MovedState.{KeepsEdges}
use Rattle.compiler.proofs.pass_proofs.kept.sources.Closed.{not_behind_end}
use Rattle.compiler.proofs.pass_proofs.kept.sources.Modules.{early_has_paths, early_has_shape, early_rules}
use Rattle.compiler.proofs.pass_proofs.kept.sources.Whole.{edges_kept}
use Rattle.pass_frames_meaning.specs.Sized.{IsSizedAt, IsSizedState}
use Rattle.pass_frames_meaning.specs.Sized.{sizes_of as sizes_in}
use Rattle.pass_frames_meaning.proofs.pass_frames_proof.lines.Cells.{contained}
use Rattle.pass_frames_meaning.specs.pass_frames_proof.Beginning.{is_in_frame}
use Rattle.pass_frames_meaning.specs.pass_frames_proof.Places.{offsets}
use Rattle.pass_frames_meaning.specs.pass_frames_proof.Slotted.{AreRangesApart}
use Rattle.pass_frames_meaning.specs.pass_renewed_meaning.Offsets.{first_at}
use Rattle.pass_frames_meaning.specs.pass_renewed_proof.Beside.{IsBeside}
use Rattle.pass_frames_meaning.specs.pass_renewed_proof.SlotRules.{IsMadeOnce}
use Rattle.pass_frames_meaning.specs.pass_renewed_proof.Steps.{given_at}
use Rattle.pass_frames_meaning.proofs.pass_renewed_proof.History.{fetch_is}
use Rattle.compiler.specs.rule_windows.Points.{begins}
use Rattle.compiler.specs.rule_windows.Sets.{IsAfterEnd}
use Rattle.run_accepted.proofs.Alive.{coroutine_keeps, listed}
use Rattle.run_accepted.proofs.Slots.{begin_ends}
use Rattle.pass_frames_meaning.proofs.run_hooks.alive.Marks.{instr_there, spot_is}
use Rattle.pass_frames_meaning.proofs.run_hooks.alive.Parts.{all_where}
use Rattle.pass_frames_meaning.proofs.run_hooks.alive.Says.{none_marked}
use Rattle.pass_frames_meaning.specs.run_hooks.Away.{point_in, spot_of}
use Rattle.pass_frames_meaning.specs.run_hooks.alive.Alive.{IsAliveIn, IsAliveState, IsEnded, KeepsAliveRules}
use Rattle.pass_frames_meaning.specs.run_hooks.alive.Alive.{account_of}
use Rattle.pass_frames_meaning.specs.run_hooks.alive.Slots.{IsAliveSlot, IsOpen}
use Rattle.compiler.specs.run_memory.Memory.{is_live}
use Rattle.compiler.specs.run_memory.declared.block.MemoryBlock.{MemoryBlock}
use Rattle.compiler.specs.run_source.declared.state.Activation.{Activation}
use Rattle.compiler.specs.run_source.declared.state.Mode.{Mode}
use Rattle.compiler.specs.run_source.declared.state.State.{State}
use Rattle.compiler.specs.run_step.Step.{AtInstr, fetch, has_markers}
use Rattle.compiler.specs.run_step.declared.world.Slot.{Slot}

-- ---- the size of a slot's block

size_at : (m : Module) (memory : List MemoryBlock) (f : Function) (slot : Slot) → IsSizedAt m (sizes_in memory) f slot
    → IsMadeOnce f slot.alloca → (y : MemoryBlock) → slice_get memory slot.block ≡ Some y
    → IsOfSize m f slot.alloca y
size_at m memory f slot h once y e =
    let first : h.block ≡ 0 = (once.alone h.block h.at (ap given_at h.stands)).0 in
    let both : Some (y.size, y.align) ≡ Some (size_of m h.ty, h.align) =
    sym (slice_get-map (λ (z : MemoryBlock). (z.size, z.align)) memory slot.block
    ∙ ap (option_map (λ (z : MemoryBlock). (z.size, z.align))) e) ∙ h.sized in
    let same : ◌≡◌ {A = ℕ × ℕ} (y.size, y.align) (size_of m h.ty, h.align) = same_pair both in
    record {
      at = h.at;
      ty = h.ty;
      align = h.align;
      stands = subst (λ (b : ℕ). fetch f b h.at ≡ AtInstr (Instr.Alloca slot.alloca h.ty h.align)) first h.stands;
      sized = ap (λ (q : ℕ × ℕ). q.0) same;
      aligned = ap (λ (q : ℕ × ℕ). q.1) same;
    }
  where
    same_pair : {p q : ℕ × ℕ} → Some p ≡ Some q → p ≡ q
    same_pair e = cc

both_true : (b d : Bool) → b ≡ true → d ≡ false → (b && not d) ≡ true
both_true b d e f = λ j. e j && not (f j)

-- ---- the point of begin

begin_no_end : (i : Instr) → is_call_of Intrinsic.CoroBegin i ≡ true → is_call_of Intrinsic.CoroEnd i ≡ true → ⊥
begin_no_end (Instr.Call result must_tail ty (Callee.Intrinsic Intrinsic.CoroBegin) args) e h = absurd (cc)
begin_no_end _ e h = absurd (cc)

within : {A : Type 0} (xs : List A) (k : ℕ) (x : A) → slice_get xs k ≡ Some x → k ≤ length xs
within [] k x e = absurd (cc)
within (y ∷ xs) zero x e = omega arith
within (y ∷ xs) (suc k) x e = let h = within xs k x e in omega (arith, h)

-- K2 and K5: begin stands outside the end's block and what that reaches
module _ (f : Function) (ramp_slots : List ℕ) (rules : KeepsAliveRules f ramp_slots)
    (closed : (p : Point) → IsAfterEnd f p → IsCallAt Intrinsic.CoroBegin f p → ⊥) where
  open_begin : (q : Point) → has_point (begins f) q ≡ true → IsOpen f q
  open_begin q e = record {
    is_point = record { block = z.block; is_block = z.got; within = within z.block.instrs q.at x.instr z.stands };
    is_outside = λ same. outside (rules.first q x.instr stands same);
    is_before_end = never;
  }
    where
      x : PassesAt (is_call_of Intrinsic.CoroBegin) (instr_at f q)
      x = where_sound (is_call_of Intrinsic.CoroBegin) f q e

      z : StandsIn f q x.instr
      z = stands_in f q x.instr x.is

      stands : fetch f q.block q.at ≡ AtInstr x.instr
      stands = fetch_is f q x.instr x.is

      never : IsAfterEnd f q → ⊥
      never after_end = closed q after_end (record { instr = x.instr; stands = stands; is = x.passes })

      outside : IsEnded f q → ⊥
      outside (inl c) =
          let both : AtInstr c.instr ≡ AtInstr x.instr = sym c.stands ∙ stands in
          let same : c.instr ≡ x.instr = cc in
          begin_no_end x.instr x.passes (subst (λ (j : Instr). is_call_of Intrinsic.CoroEnd j ≡ true) same c.is)
      outside (inr after_end) = never after_end

-- ---- of an accepted source

module _ (l : Lowered) (low : IsLowered l) (few : HasFewBytes l) (a : Anew) (anew : IsAnewOf (early l) a) (r : Run)
    (entered : IsEntryCall l.source r) (n : ℕ) (s : State)
    (beside : IsBeside (edged l) a.flags a.roots (first_at (setting l a r) n) s) (sized : IsSizedState (edged l) s)
    (coroutine : (function_at (early l) s.top.func).coroutine ≡ true) (none : s.top.instance ≡ None) where
  abbrev z : State
  z = first_at (setting l a r) n

  abbrev f : Function
  f = function_at (early l) s.top.func

  func_is : z.top.func ≡ s.top.func
  func_is = sym (ap (λ (k : Activation). k.func) beside.top.is)

  edged_now : function_at (edged l) s.top.func ≡ with_edge_blocks (function_at (early l) s.top.func)
  edged_now = edged_is l low few a anew r entered s.top.func coroutine

  now : function_at (edged l) z.top.func ≡ with_edge_blocks (function_at (early l) s.top.func)
  now = ap (function_at (edged l)) func_is ∙ edged_now

  there : slice_get (early l).functions s.top.func ≡ Some (function_at (early l) s.top.func)
  there = there_now l low a r s.top.func coroutine

  whole : IsAliveState (edged l) (counts l a r) z
  whole = alive l low few a anew r entered n

  none_before : z.top.instance ≡ None
  none_before = sym (ap (λ (k : Activation). k.instance) beside.top.is) ∙ none

  tops : IsAliveIn (edged l) (counts l a r) (account_of whole.tags z) (length z.below) z.top
  tops = whole.stack.0

  -- a slot that lies in the frame
  module _ (slot : Slot) (own : IsListed slot s.top.slots)
      (lies : lies_in_frame (offsets ((asking l low a r).b.framing s.top.func)) slot.alloca ≡ true) where
    off : a.flags s.top.func slot.alloca ≡ false
    off = on (a.flags s.top.func slot.alloca) refl
      where
        on : (b : Bool) → a.flags s.top.func slot.alloca ≡ b → b ≡ false
        on false e = refl
        on true e = let no : true ≡ false = sym lies ∙ (kinds_kept l low a anew r).whole s.top.func slot.alloca
            coroutine e in
            absurd (cc)

    before : IsSlotBefore beside.ledger (a.flags z.top.func) z.top.slots slot
    before = early_slot_before beside.ledger _ _ (a.flags z.top.func) (λ t o. o.flagged) z.top.slots beside.top.slots
        beside.top.listed slot (ap (λ (k : ℕ). a.flags k slot.alloca) func_is ∙ off)
        (subst (IsListed slot) (ap (λ (k : Activation). k.slots) beside.top.is) own)

    once_before : IsMadeOnce (function_at (edged l) z.top.func) slot.alloca
    once_before = (all_where _ z.top.slots (tops.owned none_before) before.number _ before.there).made

    pub begun_once : IsMadeOnce (function_at (edged l) s.top.func) slot.alloca
    begun_once = subst (λ (k : ℕ). IsMadeOnce (function_at (edged l) k) slot.alloca) func_is once_before

    pub begun_size : (y : MemoryBlock) → slice_get s.world.memory slot.block ≡ Some y
        → IsOfSize (edged l) (function_at (edged l) s.top.func) slot.alloca y
    begun_size y held = size_at (edged l) s.world.memory (function_at (edged l) s.top.func) slot
        (of_slot (IsSizedAt (edged l) (sizes_in s.world.memory)) (function_at (edged l) s.top.func) s.top.slots slot
        sized.stack.0 own) begun_once y held

    -- it is a slot of the frame
    module _ (position : ℕ)
        (told : position_of ((asking l low a r).b.framing s.top.func).contents.held slot.alloca ≡ Some position) where
      pub begun_frame : IsSlotOf (function_at (early l) s.top.func) SlotClass.Frame slot.alloca
      begun_frame = frame_here l low few a anew r entered s.top.func coroutine slot.alloca begun_once.align 0
          begun_once.at begun_once.ty begun_once.stands position told

      among : has_name (allocas_of (with_edge_blocks f)) slot.alloca ≡ true
      among = listed (with_edge_blocks f) slot.alloca
          (subst (λ (g : Function). IsMadeOnce g slot.alloca) edged_now begun_once)

      no_ramp : IsRampSlot (with_edge_blocks (function_at (early l) s.top.func)) slot.alloca → ⊥
      no_ramp ramp = begun_frame.is_of.0 (((facts_of_right f).ramp_slots slot.alloca).0
          (ramp_named l low a anew s.top.func f there coroutine slot.alloca among ramp)).1

      counted : counts l a r z.top.func slot.alloca ≡ true
      counted = ap (λ (k : ℕ). counts l a r k slot.alloca) func_is
          ∙ both_true (is_slot_of l s.top.func slot.alloca) (stays_own l a r s.top.func slot.alloca)
          (ap (λ (g : Function). has_name (allocas_of g) slot.alloca) edged_now ∙ among)
          (not_named l low a anew s.top.func f there coroutine slot.alloca among no_ramp off)

      -- it may be alive where begin stands
      may_here : (y : MemoryBlock) → slice_get s.world.memory slot.block ≡ Some y → is_live y.life ≡ true
          → has_markers (with_edge_blocks (function_at (early l) s.top.func)) slot.alloca ≡ true
          → MayBeAlive (with_edge_blocks (function_at (early l) s.top.func)) slot.alloca (point_in s.top)
      may_here y held live marked =
          let one = all_where (IsAliveSlot (counts l a r z.top.func) z.world.memory (function_at (edged l) z.top.func)
          z.top.values (spot_of (function_at (edged l) z.top.func) z.top)) z.top.slots (tops.early none_before)
          before.number _ before.there in
          let held_there = one
          (lives_before (edged l) beside.ledger z.world.memory s.world.memory beside.entered (a.flags z.top.func)
          z.top.slots slot before y held live) counted (ap (λ (g : Function). has_markers g slot.alloca) now ∙
          marked) in
          let spot : spot_of (function_at (edged l) z.top.func) z.top ≡ point_in s.top =
          spot_is (function_at (edged l) z.top.func) z.top.mode (point_in z.top) never_enters
          ∙ sym (ap point_in beside.top.is) in
          subst (λ (q : Function × Point). MayBeAlive q.0 slot.alloca q.1) (λ j. (now j, spot j))
          (Started held_there.start held_there.is_start held_there.path)
        where
          never_enters : (from label : ℕ) → z.top.mode ≡ Mode.Entering from label → ⊥
          never_enters from label e = on beside.top.modes
            where
              on : (z.top.mode ≡ Mode.Plain) ⊎ ((z.top.mode ≡ Mode.Ramp) ⊎ (z.top.mode ≡ Mode.Resumed)) → ⊥
              on (inl d) = let no : Mode.Plain ≡ Mode.Entering from label = sym d ∙ e in absurd (cc)
              on (inr (inl d)) = let no : Mode.Ramp ≡ Mode.Entering from label = sym d ∙ e in absurd (cc)
              on (inr (inr d)) = let no : Mode.Resumed ≡ Mode.Entering from label = sym d ∙ e in absurd (cc)

  -- so two of them conflict
  module _ (result : Option ℕ) (must_tail : Bool) (ty : Option Ty) (args : List Arg)
      (begin : fetch (function_at (edged l) s.top.func) s.top.block s.top.at
      ≡ AtInstr (Instr.Call result must_tail ty (Callee.Intrinsic Intrinsic.CoroBegin) args)) where
    abbrev call : Instr
    call = Instr.Call result must_tail ty (Callee.Intrinsic Intrinsic.CoroBegin) args

    edges : KeepsEdges (function_at (early l) s.top.func)
    edges = edges_kept l.text l.source low.source.stands low.source.accepted s.top.func f there coroutine

    -- where edges have no blocks begin stands there
    point : IsMovedTo (function_at (early l) s.top.func) edges.labels (is_call_of Intrinsic.CoroBegin) (point_in s.top)
    point = from_where f edges.labels (is_call_of Intrinsic.CoroBegin) (point_in s.top)
        (where_complete (is_call_of Intrinsic.CoroBegin) (with_edge_blocks f) (point_in s.top) call
        (instr_there (with_edge_blocks f) (point_in s.top) call
        (subst (λ (g : Function). fetch g s.top.block s.top.at ≡ AtInstr call) edged_now begin)) refl)

    open_there : IsOpen (function_at (early l) s.top.func) point.point
    open_there = open_begin f _
        (coroutine_keeps (early l) s.top.func f
        (early_rules l.text l.source low.source.stands low.source.accepted s.top.func f there) coroutine
        (early_has_shape l.text l.source low.source.stands low.source.accepted s.top.func f there)
        (early_has_paths l.text l.source low.source.stands low.source.accepted s.top.func f there))
        (λ p after_end c. not_behind_end s.top.func f coroutine
        (early_has_paths l.text l.source low.source.stands low.source.accepted s.top.func f there).outside
        Intrinsic.CoroBegin begin_ends p after_end c)
        point.point point.there

    module _ (one other : Slot) (own : IsListed one s.top.slots) (own_too : IsListed other s.top.slots)
        (lies : lies_in_frame (offsets ((asking l low a r).b.framing s.top.func)) one.alloca ≡ true)
        (lies_too : lies_in_frame (offsets ((asking l low a r).b.framing s.top.func)) other.alloca ≡ true) (p q : ℕ)
        (told : position_of ((asking l low a r).b.framing s.top.func).contents.held one.alloca ≡ Some p)
        (told_too : position_of ((asking l low a r).b.framing s.top.func).contents.held other.alloca ≡ Some q)
        (x y : MemoryBlock) (held : slice_get s.world.memory one.block ≡ Some x)
        (held_too : slice_get s.world.memory other.block ≡ Some y) (live : is_live x.life ≡ true)
        (live_too : is_live y.life ≡ true) where
      in_conflict : Conflict (function_at (early l) s.top.func) one.alloca other.alloca
      in_conflict = on (has_markers (with_edge_blocks f) one.alloca) refl (has_markers (with_edge_blocks f)
          other.alloca) refl
        where
          none_of : (v : ℕ) → has_markers (with_edge_blocks f) v ≡ false → markers_of f v ≡ []
          none_of v e = unmarked_before f v (none_marked (with_edge_blocks f) v e)

          back : (v : ℕ) → MayBeAlive (with_edge_blocks f) v (point_in s.top) → MayBeAlive f v point.point
          back v may = (alive_stays f edges.labels v point.point).1 (subst (MayBeAlive (with_edge_blocks f) v)
              point.is may)

          on : (t : Bool) → has_markers (with_edge_blocks f) one.alloca ≡ t → (u : Bool)
              → has_markers (with_edge_blocks f) other.alloca ≡ u → Conflict f one.alloca other.alloca
          on false et u eu = Unmarked (inl (none_of one.alloca et))
          on true et false eu = Unmarked (inr (none_of other.alloca eu))
          on true et true eu = Together (record {
            point = point.point;
            is_point = open_there.is_point;
            is_outside = open_there.is_outside;
            is_before_end = open_there.is_before_end;
            one = back one.alloca (may_here one own lies p told x held live et);
            other = back other.alloca (may_here other own_too lies_too q told_too y held_too live_too eu);
          })

      begun_apart_by : one.alloca ≢ other.alloca
          → AreRangesApart (offset_at ((asking l low a r).b.framing s.top.func).layout p) x.size
          (offset_at ((asking l low a r).b.framing s.top.func).layout q) y.size
      begun_apart_by unlike =
          let u = begun_size one own lies x held in
          let v = begun_size other own_too lies_too y held_too in
          subst (λ (m : ℕ × ℕ). AreRangesApart (offset_at ((asking l low a r).b.framing s.top.func).layout p) m.0
          (offset_at ((asking l low a r).b.framing s.top.func).layout q) m.1)
          (λ j. (sym u.sized j, sym v.sized j))
          (conflict_apart l low a r s.top.func coroutine one.alloca other.alloca unlike
          (begun_frame one own lies p told) (begun_frame other own_too lies_too q told_too) in_conflict u.at
          u.align u.ty
          u.stands v.at v.align v.ty v.stands p q told told_too)

    pub begun_apart : ((one other : Slot) → Contains s.top.slots one → Contains s.top.slots other
        → one.alloca ≡ other.alloca → one.block ≡ other.block)
        → (one other : Slot) → Contains s.top.slots one → Contains s.top.slots other
        → is_in_frame ((asking l low a r).b.framing s.top.func) one ≡ true
        → is_in_frame ((asking l low a r).b.framing s.top.func) other ≡ true → one.block ≢ other.block
        → (x y : MemoryBlock) → slice_get s.world.memory one.block ≡ Some x
        → slice_get s.world.memory other.block ≡ Some y → is_live x.life ≡ true → is_live y.life ≡ true → (p q : ℕ)
        → position_of ((asking l low a r).b.framing s.top.func).contents.held one.alloca ≡ Some p
        → position_of ((asking l low a r).b.framing s.top.func).contents.held other.alloca ≡ Some q
        → AreRangesApart (offset_at ((asking l low a r).b.framing s.top.func).layout p) x.size
        (offset_at ((asking l low a r).b.framing s.top.func).layout q) y.size
    begun_apart once one other own own_too lies lies_too unlike x y held held_too live live_too p q told told_too =
        begun_apart_by one other (contained s.top.slots one own) (contained s.top.slots other own_too) lies
        lies_too p q told
        told_too x y held held_too live live_too (λ e. unlike (once one other own own_too e))

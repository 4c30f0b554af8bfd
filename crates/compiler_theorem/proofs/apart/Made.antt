-- Where a slot without markers is made its field lies apart from those of its instance's other slots.
use Rattle.std.proofs.Common.{◌≡◌, ◌≢◌, inr, ℕ, suc, ◌+◌, Bool, true, false, List, [], ◌∷◌, ◌++◌, ◌||◌, Option, Some, None, map, refl, sym, ap, ◌∙◌, subst, arith}
use Rattle.std.specs.List.{Contains}
use Rattle.std.specs.Prelude.{if◌then◌else◌, slice_get, ◌==◌}
use Rattle.compiler.proofs.whole.lowered_sources.Sources.{early_rules}
use Rattle.compiler_theorem.proofs.apart.Conflicts.{conflict_apart}
use Rattle.compiler_theorem.proofs.apart.Facts.{there_now}
use Rattle.compiler_theorem.proofs.apart.Fields.{frame, once}
use Rattle.compiler_theorem.proofs.apart.Kept.{edged_is}
use Rattle.compiler_theorem.proofs.apart.Whole.{size_there}
use Rattle.compiler_theorem.proofs.known.Fields.{slot_framed}
use Rattle.compiler_theorem.proofs.theorem.Framing.{sources_given}
use Rattle.compiler_theorem.proofs.theorem.Promises.{contents}
use Rattle.compiler_theorem.specs.theorem.Anew.{Anew, IsAnewOf, IsSlotOf}
use Rattle.compiler_theorem.specs.theorem.Asked.{asking}
use Rattle.compiler_theorem.specs.theorem.Between.{setting}
use Rattle.compiler_theorem.specs.theorem.Entries.{IsEntryCall, Run}
use Rattle.compiler_theorem.specs.theorem.Lowered.{HasFewBytes, IsLowered, Lowered, early, edged, sizes_of}
use Rattle.compiler.specs.flow_solver.Paths.{IsListed}
use Rattle.compiler.specs.frame_classes.Alive.{markers_of}
use Rattle.compiler.specs.frame_classes.declared.class.SlotClass.{SlotClass}
use Rattle.compiler.specs.frame_conflicts.Conflicts.{Unmarked}
use Rattle.compiler.specs.frame_contents.Held.{frame_slots, frame_slots_from, is_frame, position_of}
use Rattle.compiler.specs.frame_slots.Uses.{ends_of, is_marker_of, starts_of}
use Rattle.compiler.proofs.ir_laws.facts.Truth.{equal_numbers}
use Rattle.compiler.specs.ir_model.Layout.{size_of}
use Rattle.compiler.specs.ir_model.Names.{function_at}
use Rattle.compiler.specs.ir_model.Ty.{Ty}
use Rattle.compiler.specs.ir_model.declared.instr.Instr.{Instr}
use Rattle.compiler.specs.ir_model.declared.module.Function.{Function}
use Rattle.compiler.specs.ir_model.declared.operand.Intrinsic.{Intrinsic}
use Rattle.compiler.specs.ir_paths.Slots.{allocas_of, has_name}
use Rattle.compiler.specs.ir_paths.declared.point.Point.{Point}
use Rattle.compiler.specs.pass_edges.EdgeBlocks.{with_edge_blocks}
use Rattle.compiler.specs.pass_frames.Tables.{offset_at}
use Rattle.pass_frames_meaning.proofs.known.Operands.{own_there}
use Rattle.pass_frames_meaning.specs.Sized.{IsSizedState}
use Rattle.pass_frames_meaning.proofs.pass_frames_proof.lines.Cells.{contained}
use Rattle.pass_frames_meaning.specs.pass_frames_proof.Places.{edged as edged_function}
use Rattle.pass_frames_meaning.specs.pass_frames_proof.Slotted.{AreRangesApart}
use Rattle.compiler.proofs.pass_kept_proof.Read.{listed_by_name}
use Rattle.compiler.proofs.pass_proofs.edges.paths.Points.{points_moved}
use Rattle.compiler.proofs.pass_proofs.edges.paths.Slots.{same_allocas}
use Rattle.compiler.specs.pass_proofs.edges.paths.Spots.{moved}
use Rattle.pass_frames_meaning.specs.pass_renewed_meaning.Offsets.{first_at}
use Rattle.pass_frames_meaning.specs.pass_renewed_proof.Beside.{IsBeside}
use Rattle.pass_frames_meaning.specs.pass_renewed_proof.SlotRules.{IsMadeOnce}
use Rattle.pass_frames_meaning.specs.pass_renewed_proof.Steps.{given_at}
use Rattle.compiler.proofs.rule_laws.rules.source_rules.Slots.{HasAlloca, alloca_of}
use Rattle.run_accepted.proofs.Accepted.{edged_alive}
use Rattle.run_accepted.proofs.Alive.{listed}
use Rattle.pass_frames_meaning.proofs.run_hooks.alive.Says.{none_marked}
use Rattle.compiler.specs.run_memory.declared.block.MemoryBlock.{MemoryBlock}
use Rattle.compiler.specs.run_source.declared.state.Instance.{Instance}
use Rattle.compiler.specs.run_source.declared.state.State.{State}
use Rattle.compiler.specs.run_states.sound_states.Sound.{IsInstanceOf, IsSound}
use Rattle.compiler.specs.run_step.Step.{AtInstr, fetch, has_markers}
use Rattle.compiler.specs.run_step.declared.world.Slot.{Slot}

-- ---- slots of the class

-- an alloca of the class stands at a place
record IsFrameAt (classes : List SlotClass) (k : ℕ) (slots : List ℕ) (v : ℕ) : Type 0 where
  number : ℕ
  stands : slice_get slots number ≡ Some v
  class : slice_get classes (k + number) ≡ Some SlotClass.Frame

frame_only : (o : Option SlotClass) → is_frame o ≡ true → o ≡ Some SlotClass.Frame
frame_only None e = absurd (cc)
frame_only (Some SlotClass.Ramp) e = absurd (cc)
frame_only (Some SlotClass.Local) e = absurd (cc)
frame_only (Some SlotClass.Frame) e = refl

frame_at : (classes : List SlotClass) (k : ℕ) (slots : List ℕ) (v : ℕ)
    → has_name (frame_slots_from classes k slots) v ≡ true → IsFrameAt classes k slots v
frame_at classes k [] v e = absurd (cc)
frame_at classes k (s ∷ slots) v e = on (is_frame (slice_get classes k)) refl e (frame_at classes (k + 1) slots v)
  where
    rest : List ℕ
    rest = frame_slots_from classes (k + 1) slots

    next : IsFrameAt classes (k + 1) slots v → IsFrameAt classes k (s ∷ slots) v
    next x =
        let n : ℕ = x.number in
        let same : k + 1 + n ≡ k + suc n = omega arith in
        record {
          number = suc n;
          stands = x.stands;
          class = subst (λ (j : ℕ). slice_get classes j ≡ Some SlotClass.Frame) same x.class;
        }

    here : (t : Bool) → (s == v) ≡ t → is_frame (slice_get classes k) ≡ true → (t || has_name rest v) ≡ true
        → (has_name rest v ≡ true → IsFrameAt classes (k + 1) slots v) → IsFrameAt classes k (s ∷ slots) v
    here true same d h again =
        let first : k ≡ k + 0 = omega arith in
        record {
          number = 0;
          stands = ap Some (equal_numbers s v same);
          class = subst (λ (j : ℕ). slice_get classes j ≡ Some SlotClass.Frame) first
              (frame_only (slice_get classes k) d);
        }
    here false same d h again = next (again h)

    on : (b : Bool) → is_frame (slice_get classes k) ≡ b
        → has_name ((if b then s ∷ [] else []) ++ rest) v ≡ true
        → (has_name rest v ≡ true → IsFrameAt classes (k + 1) slots v) → IsFrameAt classes k (s ∷ slots) v
    on true d h again = here (s == v) refl d h again
    on false d h again = next (again h)

-- ---- markers

both_none : (ps qs : List Point) → ps ++ qs ≡ [] → (ps ≡ []) × (qs ≡ [])
both_none [] qs e = (refl, e)
both_none (p ∷ ps) qs e = absurd (cc)

none_moved : (move : Point → Point) (ps : List Point) → map move ps ≡ [] → ps ≡ []
none_moved move [] e = refl
none_moved move (p ∷ ps) e = absurd (cc)

pub unmarked_before : (f : Function) (v : ℕ) → markers_of (with_edge_blocks f) v ≡ [] → markers_of f v ≡ []
unmarked_before f v e =
    let both = both_none (starts_of (with_edge_blocks f) v) (ends_of (with_edge_blocks f) v) e in
    let first : starts_of f v ≡ [] = none_moved (moved f) (starts_of f v)
    (sym (points_moved (is_marker_of Intrinsic.LifetimeStart v) f) ∙ both.0) in
    let second : ends_of f v ≡ [] = none_moved (moved f) (ends_of f v)
    (sym (points_moved (is_marker_of Intrinsic.LifetimeEnd v) f) ∙ both.1) in
    λ j. first j ++ second j

-- ---- of an accepted source

module _ (l : Lowered) (low : IsLowered l) (few : HasFewBytes l) (a : Anew) (anew : IsAnewOf (early l) a) (r : Run)
    (entered : IsEntryCall l.source r) where
  -- an alloca that has a field is a slot of the frame
  module _ (func : ℕ) (coroutine : (function_at (early l) func).coroutine ≡ true) (name align block at : ℕ) (ty : Ty)
      (alloca : fetch (function_at (edged l) func) block at ≡ AtInstr (Instr.Alloca name ty align)) where
    abbrev f : Function
    f = function_at (early l) func

    pub made_here : IsMadeOnce (function_at (edged l) func) name
    made_here = (edged_alive l.text l.source low.source.stands low.source.accepted (sizes_of l) r.answers func).made
        name ty align block at alloca

    pub at_entry : fetch (function_at (edged l) func) 0 at ≡ AtInstr (Instr.Alloca name ty align)
    at_entry =
        let first : block ≡ 0 = (made_here.alone block at (ap given_at alloca)).0 in
        subst (λ (b : ℕ). fetch (function_at (edged l) func) b at ≡ AtInstr (Instr.Alloca name ty align)) first alloca

    among : has_name (allocas_of (function_at (early l) func)) name ≡ true
    among = sym (ap (λ (vs : List ℕ). has_name vs name) (same_allocas f))
        ∙ subst (λ (h : Function). has_name (allocas_of h) name ≡ true)
        (edged_is l low few a anew r entered func coroutine) (listed (function_at (edged l) func) name made_here)

    own : HasAlloca (function_at (early l) func) name
    own = alloca_of f name (listed_by_name (allocas_of f) name among)

    pub frame_here : (position : ℕ)
        → position_of ((asking l low a r).b.framing func).contents.held name ≡ Some position
        → IsSlotOf (function_at (early l) func) SlotClass.Frame name
    frame_here position told =
        let x = (asking l low a r).b.framing func in
        let are = contents l low r func coroutine in
        let framed : has_name (frame_slots f x.contents.classes) name ≡ true =
        slot_framed (early l) func f (early_rules l.text l.source low.source.stands low.source.accepted func f
        (there_now l low a r func coroutine)) x.contents are name own.point own.ty own.align own.stands position told in
        let z : IsFrameAt x.contents.classes 0 (allocas_of f) name =
        frame_at x.contents.classes 0 (allocas_of f) name framed in
        let n : ℕ = z.number in
        let same : 0 + n ≡ n = omega arith in
        record {
          coroutine = coroutine;
          is_alloca = among;
          is_of = are.classes_are.each n name SlotClass.Frame z.stands
              (subst (λ (j : ℕ). slice_get x.contents.classes j ≡ Some SlotClass.Frame) same z.class);
        }

  module _ (n : ℕ) (s : State) (beside : IsBeside (edged l) a.flags a.roots (first_at (setting l a r) n) s)
      (sized : IsSizedState (edged l) s) (sound : IsSound (edged l) s)
      (coroutine : (function_at (early l) s.top.func).coroutine ≡ true) (name align : ℕ) (ty : Ty)
      (alloca : fetch (function_at (edged l) s.top.func) s.top.block s.top.at ≡ AtInstr (Instr.Alloca name ty align))
      (i : ℕ) (x : Instance) (own : s.top.instance ≡ Some i) (there : slice_get s.instances i ≡ Some x) where
    same_func : x.coroutine ≡ s.top.func
    same_func =
        let z = own_there s.instances s.top.func i
        (subst (IsInstanceOf s.instances s.top.func) own sound.top.instance) in
        let both : Some x ≡ Some z.0 = sym there ∙ z.1 in
        let same : x ≡ z.0 = cc in
        ap (λ (y : Instance). y.coroutine) same ∙ z.2

    is_one : (function_at (early l) x.coroutine).coroutine ≡ true
    is_one = subst (λ (k : ℕ). (function_at (early l) k).coroutine ≡ true) (sym same_func) coroutine

    stands : fetch (function_at (edged l) x.coroutine) s.top.block s.top.at ≡ AtInstr (Instr.Alloca name ty align)
    stands = subst (λ (k : ℕ). fetch (function_at (edged l) k) s.top.block s.top.at
        ≡ AtInstr (Instr.Alloca name ty align)) (sym same_func) alloca

    pub made_apart : ((other : Slot) → Contains x.slots other → other.alloca ≢ name)
        → has_markers (edged_function ((asking l low a r).b.framing s.top.func)) name ≡ false → (position : ℕ)
        → position_of ((asking l low a r).b.framing x.coroutine).contents.held name ≡ Some position → (other : Slot)
        → Contains x.slots other → (z : MemoryBlock) → slice_get s.world.memory other.block ≡ Some z → (p : ℕ)
        → position_of ((asking l low a r).b.framing x.coroutine).contents.held other.alloca ≡ Some p
        → AreRangesApart (offset_at ((asking l low a r).b.framing x.coroutine).layout p) z.size
        (offset_at ((asking l low a r).b.framing x.coroutine).layout position) (size_of (edged l) ty)
    made_apart unmade markers position told other contains z held p told_too =
        let func = x.coroutine in
        let f = function_at (early l) func in
        let li : IsListed other x.slots = contained x.slots other contains in
        let now = edged_is l low few a anew r entered func is_one in
        let is_once = once l low few a anew r entered n s beside i x there is_one other li in
        let w = size_there (edged l) s sized i x there other li
        (subst (λ (g : Function). IsMadeOnce g other.alloca) (sym now) is_once) z held in
        let unmarked : has_markers (with_edge_blocks f) name ≡ false =
        ap (λ (g : Function). has_markers g name) (sym now ∙ ap (function_at (edged l)) same_func
        ∙ (sources_given l low a r).coroutines s.top.func coroutine) ∙ markers in
        let none : markers_of f name ≡ [] = unmarked_before f name (none_marked (with_edge_blocks f) name unmarked) in
        subst (λ (m : ℕ). AreRangesApart (offset_at ((asking l low a r).b.framing x.coroutine).layout p) m
        (offset_at ((asking l low a r).b.framing x.coroutine).layout position) (size_of (edged l) ty)) (sym w.sized)
        (conflict_apart l low a r func is_one other.alloca name (unmade other contains)
        (frame l low few a anew r entered n s beside i x there is_one other li)
        (frame_here func is_one name align s.top.block s.top.at ty stands position told)
        (Unmarked (inr none)) w.at w.align w.ty w.stands s.top.at align ty
        (at_entry func is_one name align s.top.block s.top.at ty stands) p position told_too told)

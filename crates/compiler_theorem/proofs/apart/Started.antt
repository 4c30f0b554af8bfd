-- Where a marker starts a slot its field lies apart from those of its instance's slots that live.
use Rattle.std.proofs.Common.{◌≡◌, inl, inr, ℕ, Bool, true, false, List, [], Option, Some, refl, sym, ap, ◌∙◌, subst, length}
use Rattle.std.specs.List.{Contains}
use Rattle.std.specs.Prelude.{slice_get}
use Rattle.compiler_theorem.proofs.apart.Conflicts.{conflict_apart}
use Rattle.compiler_theorem.proofs.apart.Facts.{there_now}
use Rattle.compiler_theorem.proofs.apart.Fields.{apart, frame, may_behind, once}
use Rattle.compiler_theorem.proofs.apart.Kept.{edged_is}
use Rattle.compiler_theorem.proofs.apart.Made.{unmarked_before}
use Rattle.compiler_theorem.proofs.apart.Whole.{IsOfSize, size_there}
use Rattle.compiler_theorem.specs.known.Frames.{AreSlotsApart}
use Rattle.compiler_theorem.specs.theorem.Anew.{Anew, IsAnewOf}
use Rattle.compiler_theorem.specs.theorem.Asked.{asking}
use Rattle.compiler_theorem.specs.theorem.Between.{setting}
use Rattle.compiler_theorem.specs.theorem.Entries.{IsEntryCall, Run}
use Rattle.compiler_theorem.specs.theorem.Lowered.{HasFewBytes, IsLowered, Lowered, early, edged, sizes_of}
use Rattle.compiler_theorem.specs.theorem.Started.{HasSlotsOnce}
use Rattle.compiler.specs.flow_solver.Paths.{IsListed}
use Rattle.compiler.specs.frame_classes.Alive.{MayBeAlive, Started}
use Rattle.compiler.specs.frame_conflicts.Conflicts.{Conflict, Together, Unmarked}
use Rattle.compiler.proofs.frame_slots.Points.{PassesAt, where_complete, where_sound}
use Rattle.compiler.specs.frame_slots.Uses.{is_marker_of, starts_of}
use Rattle.compiler.proofs.ir_laws.facts.Truth.{and_first, and_second, equal_numbers}
use Rattle.compiler.specs.ir_laws.paths.threads.Labels.{HasNamedLabels}
use Rattle.compiler.specs.ir_model.Names.{function_at, is_local}
use Rattle.compiler.specs.ir_model.Ty.{Ty}
use Rattle.compiler.specs.ir_model.declared.instr.Instr.{Instr}
use Rattle.compiler.specs.ir_model.declared.module.Function.{Function}
use Rattle.compiler.specs.ir_model.declared.operand.Arg.{Arg}
use Rattle.compiler.specs.ir_model.declared.operand.Intrinsic.{Intrinsic}
use Rattle.compiler.specs.ir_model.declared.operand.Operand.{Operand}
use Rattle.compiler.specs.ir_paths.Paths.{has_point}
use Rattle.compiler.specs.ir_paths.Slots.{IsRampSlot, allocas_of}
use Rattle.compiler.specs.ir_paths.Windows.{call_operand, instr_at, is_call_of}
use Rattle.compiler.specs.ir_paths.declared.point.Point.{Point}
use Rattle.compiler.specs.pass_edges.EdgeBlocks.{with_edge_blocks}
use Rattle.compiler.specs.pass_frames.Tables.{offset_at}
use Rattle.pass_frames_meaning.proofs.known.Operands.{own_there}
use Rattle.pass_frames_meaning.specs.Sized.{IsSizedState}
use Rattle.pass_frames_meaning.proofs.pass_frames_proof.lines.Cells.{contained}
use Rattle.pass_frames_meaning.specs.pass_frames_proof.Marking.{marking}
use Rattle.pass_frames_meaning.specs.pass_frames_proof.Slotted.{AreRangesApart}
use Rattle.compiler.proofs.pass_kept_proof.Read.{listed_by_name}
use Rattle.compiler.specs.pass_kept_proof.SuspendRules.{IsCallAt}
use Rattle.compiler.proofs.pass_proofs.edges.rules.Alive.{alive_stays, from_where}
use Rattle.compiler.proofs.pass_proofs.kept.sources.Modules.{early_has_paths, early_has_shape, early_rules}
use Rattle.compiler.proofs.pass_proofs.kept.sources.Whole.{edges_kept}
use Rattle.pass_frames_meaning.specs.pass_renewed_meaning.Offsets.{first_at}
use Rattle.pass_frames_meaning.proofs.pass_renewed_proof.Ahead.{next_edge}
use Rattle.pass_frames_meaning.proofs.pass_renewed_proof.History.{fetch_is}
use Rattle.pass_frames_meaning.specs.pass_renewed_proof.SlotRules.{IsMadeOnce, IsMarkerAt}
use Rattle.compiler.proofs.rule_laws.rules.source_rules.Slots.{alloca_of}
use Rattle.compiler.specs.rule_windows.Sets.{IsAfterEnd}
use Rattle.pass_frames_meaning.specs.pass_renewed_proof.Beside.{IsBeside, place_in}
use Rattle.compiler.specs.run_source.declared.state.Activation.{Activation}
use Rattle.pass_frames_meaning.proofs.pass_renewed_proof.Stands.{IsSpotOf, at_place}
use Rattle.compiler.specs.frame_slots.Spots.{At}
use Rattle.pass_frames_meaning.proofs.pass_renewed_meaning.Points.{ordinary}
use Rattle.compiler_theorem.proofs.theorem.Renewing.{all_kept}
use Rattle.run_accepted.proofs.Accepted.{edged_alive}
use Rattle.run_accepted.proofs.Alive.{coroutine_keeps}
use Rattle.pass_frames_meaning.proofs.run_hooks.alive.Marks.{both_are, instr_there, start_no_coro_end, start_no_end}
use Rattle.pass_frames_meaning.proofs.run_hooks.alive.Open.{after, open_behind}
use Rattle.pass_frames_meaning.proofs.run_hooks.alive.Says.{none_marked}
use Rattle.pass_frames_meaning.specs.run_hooks.Away.{point_in}
use Rattle.pass_frames_meaning.specs.run_hooks.alive.Alive.{IsEnded, IsStart, KeepsAliveRules}
use Rattle.pass_frames_meaning.specs.run_hooks.alive.Slots.{IsOpen}
use Rattle.compiler.specs.run_memory.Memory.{is_live}
use Rattle.compiler.specs.run_memory.declared.block.MemoryBlock.{MemoryBlock}
use Rattle.compiler.specs.run_source.declared.state.Instance.{Instance}
use Rattle.compiler.specs.run_source.declared.state.State.{State}
use Rattle.compiler.specs.run_states.sound_states.Sound.{IsInstanceOf, IsSound}
use Rattle.compiler.specs.run_step.Step.{AtInstr, fetch, has_markers}
use Rattle.compiler.specs.run_step.declared.world.Slot.{Slot}

local_is : (v : ℕ) (o : Operand) → is_local v o ≡ true → o ≡ Operand.Local v
local_is v (Operand.Local n) e = ap Operand.Local (sym (equal_numbers v n e))
local_is v _ e = absurd (cc)

-- ---- a start in a function, and in that with blocks on edges

module _ (f : Function) (named : HasNamedLabels f) (ramp_slots : List ℕ) (rules : KeepsAliveRules f ramp_slots) (v : ℕ)
    (listed : IsListed v (allocas_of f)) (shared : IsRampSlot f v → ⊥) where
  abbrev test : Instr → Bool
  test = is_marker_of Intrinsic.LifetimeStart v

  made : IsMadeOnce f v
  made =
      let x = alloca_of f v listed in
      rules.made v x.ty x.align x.point.block x.point.at
      (fetch_is f x.point (Instr.Alloca v x.ty x.align) x.stands)

  -- behind it the point is open
  opened : (q : Point) → has_point (starts_of f v) q ≡ true → IsOpen f (after q)
  opened q e = open_behind f q i stands (λ same. outside (rules.first q i stands same)) no_end never
    where
      x : PassesAt (is_marker_of Intrinsic.LifetimeStart v) (instr_at f q)
      x = where_sound (is_marker_of Intrinsic.LifetimeStart v) f q e

      i : Instr
      i = x.instr

      stands : fetch f q.block q.at ≡ AtInstr i
      stands = fetch_is f q x.instr x.is

      call : is_call_of Intrinsic.LifetimeStart i ≡ true
      call = and_first (is_call_of Intrinsic.LifetimeStart i) (is_local v (call_operand i 1)) x.passes

      never : IsAfterEnd f q → ⊥
      never after_end = rules.closed Intrinsic.LifetimeStart IsStart v q (record {
        instr = i;
        stands = stands;
        is = call;
        takes = local_is v (call_operand i 1)
            (and_second (is_call_of Intrinsic.LifetimeStart i) (is_local v (call_operand i 1)) x.passes);
      }) (inl after_end) made shared

      no_end : IsCallAt Intrinsic.CoroEnd f q → ⊥
      no_end c =
          let both : AtInstr c.instr ≡ AtInstr i = sym c.stands ∙ stands in
          let same : c.instr ≡ i = cc in
          start_no_coro_end i call (subst (λ (j : Instr). is_call_of Intrinsic.CoroEnd j ≡ true) same c.is)

      outside : IsEnded f q → ⊥
      outside (inl c) = no_end c
      outside (inr after_end) = never after_end

  pub started_together : (p : Point) (i : Instr) → fetch (with_edge_blocks f) p.block p.at ≡ AtInstr i
      → is_call_of Intrinsic.LifetimeStart i ≡ true → call_operand i 1 ≡ Operand.Local v → (other : ℕ)
      → MayBeAlive (with_edge_blocks f) other (after p) → Conflict f other v
  started_together p i stands call takes other alive =
      let h = with_edge_blocks f in
      let start : has_point (starts_of h v) p ≡ true =
      where_complete test h p i (instr_there h p i stands) (both_are i v call takes) in
      let own : MayBeAlive h v (after p) =
      Started p start (record { between = []; is_path = next_edge h p.block p.at i stands }) in
      let q = from_where f named test p start in
      let open_point = opened q.point q.there in
      Together (record {
        point = after q.point;
        is_point = open_point.is_point;
        is_outside = open_point.is_outside;
        is_before_end = open_point.is_before_end;
        one = (alive_stays f named other (after q.point)).1
            (subst (λ (y : Point). MayBeAlive (with_edge_blocks f) other (after y)) q.is alive);
        other = (alive_stays f named v (after q.point)).1
            (subst (λ (y : Point). MayBeAlive (with_edge_blocks f) v (after y)) q.is own);
      })

-- ---- of an accepted source

module _ (l : Lowered) (low : IsLowered l) (few : HasFewBytes l) (a : Anew) (anew : IsAnewOf (early l) a) (r : Run)
    (entered : IsEntryCall l.source r) (n : ℕ) (s : State)
    (beside : IsBeside (edged l) a.flags a.roots (first_at (setting l a r) n) s) (sized : IsSizedState (edged l) s)
    (sound : IsSound (edged l) s) (coroutine : (function_at (early l) s.top.func).coroutine ≡ true)
    (must_tail : Bool) (ty : Option Ty) (size : Arg) (u : Ty) (name : ℕ)
    (marker : fetch (function_at (edged l) s.top.func) s.top.block s.top.at
    ≡ AtInstr (marking true must_tail ty size u name)) (i : ℕ) (x : Instance) (own : s.top.instance ≡ Some i)
    (there : slice_get s.instances i ≡ Some x) (here : HasSlotsOnce x) where
  abbrev f : Function
  f = function_at (early l) x.coroutine

  same_func : x.coroutine ≡ s.top.func
  same_func =
      let z = own_there s.instances s.top.func i
      (subst (IsInstanceOf s.instances s.top.func) own sound.top.instance) in
      let both : Some x ≡ Some z.0 = sym there ∙ z.1 in
      let same : x ≡ z.0 = cc in
      ap (λ (y : Instance). y.coroutine) same ∙ z.2

  is_one : (function_at (early l) x.coroutine).coroutine ≡ true
  is_one = subst (λ (k : ℕ). (function_at (early l) k).coroutine ≡ true) (sym same_func) coroutine

  abbrev i_here : Instr
  i_here = marking true must_tail ty size u name

  now : function_at (edged l) x.coroutine ≡ with_edge_blocks (function_at (early l) x.coroutine)
  now = edged_is l low few a anew r entered x.coroutine is_one

  stands : fetch (with_edge_blocks (function_at (early l) x.coroutine)) s.top.block s.top.at
      ≡ AtInstr (marking true must_tail ty size u name)
  stands = subst (λ (g : Function). fetch g s.top.block s.top.at ≡ AtInstr i_here)
      (ap (function_at (edged l)) (sym same_func) ∙ now) marker

  -- K8: an activation that has left meets no marker of a coroutine slot
  abbrev first : State
  first = first_at (setting l a r) n

  marker_first : fetch (function_at (edged l) first.top.func) first.top.block first.top.at
      ≡ AtInstr (marking true must_tail ty size u name)
  marker_first =
      sym (ap (λ (k : Activation). fetch (function_at (edged l) k.func) k.block k.at) beside.top.is) ∙ marker

  first_now : function_at (edged l) first.top.func ≡ with_edge_blocks (function_at (early l) x.coroutine)
  first_now = ap (λ (k : Activation). function_at (edged l) k.func) (sym beside.top.is)
      ∙ ap (function_at (edged l)) (sym same_func) ∙ now

  at_first : IsSpotOf (function_at (edged l) first.top.func) first.top (At (place_in first.top))
  at_first = at_place (edged l) a.flags a.roots beside.ledger first.instances first.world.memory s.world.memory
      (length first.below) first.top s.top beside.top
      (ordinary (edged l) (function_at (edged l) first.top.func) (a.flags first.top.func) (a.roots first.top.func)
      ((all_kept l low a anew r entered few).slots.each first.top.func) (place_in first.top) i_here marker_first refl
      refl)

  stays : (slot : Slot) → IsListed slot x.slots → slot.alloca ≡ name → s.top.has_left ≡ false
  stays slot among named = ap (λ (k : Activation). k.has_left) beside.top.is ∙ on first.top.has_left refl
    where
      on : (b : Bool) → first.top.has_left ≡ b → b ≡ false
      on false e = refl
      on true e = absurd ((edged_alive l.text l.source low.source.stands low.source.accepted (sizes_of l) r.answers
          first.top.func).closed Intrinsic.LifetimeStart IsStart slot.alloca (place_in first.top) (record {
            instr = i_here;
            stands = marker_first;
            is = refl;
            takes = ap Operand.Local (sym named);
          }) (at_first.closed e)
          (subst (λ (g : Function). IsMadeOnce g slot.alloca) (sym first_now)
          (once l low few a anew r entered n s beside i x there is_one slot among))
          (λ ramp. apart l low few a anew r entered n s beside i x there is_one slot among
          (subst (λ (g : Function). IsRampSlot g slot.alloca) first_now ramp)))

  in_conflict : (slot : Slot) → IsListed slot x.slots → slot.alloca ≡ name → (other : Slot) → IsListed other x.slots
      → (z : MemoryBlock) → slice_get s.world.memory other.block ≡ Some z → is_live z.life ≡ true
      → Conflict (function_at (early l) x.coroutine) other.alloca slot.alloca
  in_conflict slot among named other listed z held live = on (has_markers (with_edge_blocks f) other.alloca) refl
    where
      no_end : IsMarkerAt (with_edge_blocks f) Intrinsic.LifetimeEnd other.alloca (point_in s.top) → ⊥
      no_end c =
          let both : AtInstr c.instr ≡ AtInstr i_here = sym c.stands ∙ stands in
          let same : c.instr ≡ i_here = cc in
          start_no_end i_here refl (subst (λ (j : Instr). is_call_of Intrinsic.LifetimeEnd j ≡ true) same c.is)

      on : (b : Bool) → has_markers (with_edge_blocks f) other.alloca ≡ b → Conflict f other.alloca slot.alloca
      on false e = Unmarked (inl (unmarked_before f other.alloca (none_marked (with_edge_blocks f) other.alloca e)))
      on true e =
          let k = there_now l low a r x.coroutine is_one in
          let slot_is = frame l low few a anew r entered n s beside i x there is_one slot among in
          let rules = coroutine_keeps (early l) x.coroutine f
          (early_rules l.text l.source low.source.stands low.source.accepted x.coroutine f k) is_one
          (early_has_shape l.text l.source low.source.stands low.source.accepted x.coroutine f k)
          (early_has_paths l.text l.source low.source.stands low.source.accepted x.coroutine f k) in
          started_together f
          (edges_kept l.text l.source low.source.stands low.source.accepted x.coroutine f k is_one).labels _ rules
          slot.alloca (listed_by_name (allocas_of f) slot.alloca slot_is.is_alloca) slot_is.is_of.0 (point_in s.top)
          i_here stands refl (ap Operand.Local (sym named)) other.alloca
          (may_behind l low few a anew r entered n s beside i x there is_one other listed same_func own (stays slot among named) z held
          live e (next_edge (with_edge_blocks f) s.top.block s.top.at i_here stands) no_end)

  size_of_slot : (slot : Slot) → IsListed slot x.slots → (y : MemoryBlock)
      → slice_get s.world.memory slot.block ≡ Some y
      → IsOfSize (edged l) (function_at (edged l) x.coroutine) slot.alloca y
  size_of_slot slot listed y held = size_there (edged l) s sized i x there slot listed
      (subst (λ (g : Function). IsMadeOnce g slot.alloca) (sym now)
      (once l low few a anew r entered n s beside i x there is_one slot listed)) y held

  pub started_apart : (slot : Slot) → Contains x.slots slot → slot.alloca ≡ name
      → AreSlotsApart (asking l low a r).b s x slot
  started_apart slot among named = record {
    each = λ other others unlike z y held held_too live p q told told_too.
        let li = contained x.slots slot among in
        let lo = contained x.slots other others in
        let one = size_of_slot other lo z held in
        let two = size_of_slot slot li y held_too in
        subst (λ (m : ℕ × ℕ). AreRangesApart (offset_at ((asking l low a r).b.framing x.coroutine).layout p) m.0
        (offset_at ((asking l low a r).b.framing x.coroutine).layout q) m.1)
        (λ j. (sym one.sized j, sym two.sized j))
        (conflict_apart l low a r x.coroutine is_one other.alloca slot.alloca
        (λ e. unlike (here.once other slot others among e))
        (frame l low few a anew r entered n s beside i x there is_one other lo)
        (frame l low few a anew r entered n s beside i x there is_one slot li)
        (in_conflict slot li named other lo z held live) one.at one.align one.ty one.stands two.at two.align two.ty
        two.stands p q told told_too);
  }

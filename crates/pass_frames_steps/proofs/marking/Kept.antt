-- Markers that both runs execute: of functions that are no coroutines, and of ramp slots.
use Rattle.std.proofs.Common.{◌≡◌, ◌≢◌, ◌+◌, ◌-◌, ◌≤◌, ◌&&◌, ◌∷◌, ◌∙◌, [], if◌then◌else◌, Bool, List, None, Option, Some, ap, arith, false, inl, inr, length, not, refl, subst, sym, true, ℕ}
use Rattle.std.specs.List.{Contains}
use Rattle.std.specs.Prelude.{option_map, slice_get, unwrap_or}
use Rattle.pass_frames_code.specs.flow_solver.Paths.{IsListed}
use Rattle.pass_frames_code.specs.ir_model.Names.{function_at}
use Rattle.pass_frames_code.specs.ir_model.Ty.{Ty}
use Rattle.pass_frames_code.specs.ir_model.declared.instr.Instr.{Instr}
use Rattle.pass_frames_code.specs.ir_model.declared.module.Function.{Function}
use Rattle.pass_frames_code.specs.ir_model.declared.module.Module.{Module}
use Rattle.pass_frames_code.specs.ir_model.declared.operand.Arg.{Arg}
use Rattle.pass_frames_code.specs.ir_model.declared.operand.Operand.{Operand}
use Rattle.pass_frames_code.specs.ir_paths.declared.point.Point.{Point}
use Rattle.pass_frames_code.specs.pass_addresses.Placing.{is_none, lies_outside, without_promise_of}
use Rattle.pass_frames_code.specs.pass_cells.Kept.{joined}
use Rattle.pass_frames_code.specs.pass_copies.declared.slot.EarlySlot.{EarlySlot}
use Rattle.pass_frames_code.specs.pass_fetch.Fetching.{fetch_of}
use Rattle.pass_frames_code.specs.pass_fetch.declared.fetch.Fetch.{Fetch}
use Rattle.pass_frames_code.specs.pass_frames.Framed.{begin_of}
use Rattle.pass_frames_steps.proofs.allocating.Whole.{below_other}
use Rattle.pass_frames_code.proofs.code.Left.{Far, far_written}
use Rattle.pass_frames_code.proofs.lined.Lines.{framed_does, no_gift}
use Rattle.pass_frames_code.proofs.lines.Cells.{other_block}
use Rattle.pass_frames_steps.proofs.marking.Codes.{same_becomes}
use Rattle.pass_frames_steps.proofs.marking.Gone.{IsMarkerCode, idle_is, literal_plain, marker_action, marker_code, unkept_plain}
use Rattle.pass_frames_steps.proofs.marking.Marks.{marked_by, marks_block}
use Rattle.pass_frames_steps.proofs.marking.Twice.{ahead_on, held, left, over, u, w}
use Rattle.pass_frames_code.proofs.moved.Rest.{rights_on, same_place, wheres_on}
use Rattle.pass_frames_code.proofs.stepping.After.{cells_turned, right_there, wheres_there, wheres_turned}
use Rattle.pass_frames_code.proofs.stepping.Codes.{code_stands, instr_there}
use Rattle.pass_frames_code.proofs.stepping.May.{coroutine_values, not_returned, own_blocks}
use Rattle.pass_frames_code.proofs.stepping.Names.{slots_new}
use Rattle.pass_frames_code.proofs.stepping.Operands.{asked, slot_fetch}
use Rattle.pass_frames_code.proofs.stepping.Other.{cost_one, fetched_there, here_is, one_followed, related_left, stands}
use Rattle.pass_frames_code.proofs.stepping.Rest.{LeavesRest, own_slots, rest_related}
use Rattle.pass_frames_code.proofs.stepping.Stands.{cost_is, made_of, renewed_does, top_is, values_of}
use Rattle.pass_frames_code.specs.Code.{slot_table}
use Rattle.pass_frames_code.specs.Followed.{IsFollowed}
use Rattle.pass_frames_code.specs.Framings.{IsFraming}
use Rattle.pass_frames_code.specs.Lined.{GivesNone}
use Rattle.pass_frames_code.specs.Marking.{IsAtMarker, IsAtOtherMarker, IsKeptMarker, IsNoLocal, IsWholeMarked, marking}
use Rattle.pass_frames_code.specs.Meaning.{action_at, coroutine_cost, other_cost, step_cost}
use Rattle.pass_frames_code.specs.Places.{Framing, copies, edged, framed, offsets, place, written}
use Rattle.pass_frames_code.specs.Related.{AreActivations, AreAhead, AreBuiltOf, AreCellsRight, AreCoroutines, AreWheresRight, Building, HasCells, IsAhead, IsCellName, IsSlotBy, IsWholeSlot, instance_in, is_coroutine, is_first, point_of, top_place}
use Rattle.pass_frames_code.specs.Slotted.{HasListedSlots}
use Rattle.pass_frames_code.specs.Stepping.{AreGiven, StandsInPlace}
use Rattle.pass_frames_code.specs.pass_front.Front.{is_no_alloca}
use Rattle.pass_frames_code.specs.pass_proofs.addresses.rules.Addresses.{lies_in_frame}
use Rattle.pass_frames_code.specs.pass_renewed_proof.Renewed.{RenewedGiven, renewed_step}
use Rattle.pass_frames_code.specs.run_framed.Framed.{frame_rights, framed_context, framed_step}
use Rattle.pass_frames_code.specs.run_laws.access.Lines.{Holds}
use Rattle.pass_frames_code.specs.run_laws.embedded.Making.{whole_home}
use Rattle.pass_frames_code.specs.run_laws.memory.Pointers.{Extends, Home, IsValue, home_of}
use Rattle.pass_frames_code.specs.run_memory.Memory.{Rights}
use Rattle.pass_frames_code.specs.run_memory.Pointers.{moved, offset_of}
use Rattle.pass_frames_code.specs.run_memory.declared.block.Byte.{Byte}
use Rattle.pass_frames_code.specs.run_memory.declared.block.MemoryBlock.{MemoryBlock}
use Rattle.pass_frames_code.specs.run_memory.declared.pointer.Pointer.{Pointer}
use Rattle.pass_frames_code.specs.run_memory.declared.pointer.Value.{Value}
use Rattle.pass_frames_code.specs.run_source.Source.{context_of}
use Rattle.pass_frames_code.specs.run_source.State.{function_of, work_of}
use Rattle.pass_frames_code.specs.run_source.declared.state.Activation.{Activation}
use Rattle.pass_frames_code.specs.run_source.declared.state.State.{State}
use Rattle.pass_frames_code.specs.run_step.Step.{AtInstr, Done, action_of, fetch, set_memory}
use Rattle.pass_frames_code.specs.run_step.Values.{pointer_to, value_in}
use Rattle.pass_frames_code.specs.run_step.declared.world.Slot.{Slot}
use Rattle.pass_frames_code.specs.run_step.declared.world.World.{World}

-- the value of the name in the framed run
pub named_there : (homes : List Home) (v u : Value) (n k : ℕ) → IsValue homes v u → v ≡ pointer_to n
    → home_of homes n ≡ whole_home k → u ≡ pointer_to k
named_there homes v u n k h is home =
    (subst (λ (z : Value). IsValue homes z u) is h).1
    ∙ ap (λ (q : Home). Value.Ptr (Pointer.At q.block (moved (offset_of 0) q.offset))) home

no_gift_of : (m : Module) (starts must_tail : Bool) (ty : Option Ty) (size : Arg) (t : Ty) (slot : ℕ)
    → GivesNone m (marking starts must_tail ty size t slot)
no_gift_of m starts must_tail ty size t slot = refl

-- ---- of a function that is no coroutine

module _ (b : Building) (g : RenewedGiven) (given : AreGiven b g) (s t : State) (r : AreBuiltOf b s t)
    (starts must_tail : Bool) (ty : Option Ty) (size : Arg) (t' : Ty) (name : ℕ)
    (h : IsAtOtherMarker b g s starts must_tail ty size t' name) (listed : HasListedSlots s) (slot : Slot)
    (z : IsWholeMarked b s name slot) where
  abbrev i : Instr
  i = marking starts must_tail ty size t' name

  whole : IsWholeSlot r.homes t.top slot
  whole =
      subst (IsSlotBy b r.homes r.hides s.top t.top slot)
      (ap (λ (c : Bool). c && lies_in_frame (offsets (b.framing s.top.func)) slot.alloca) h.plain)
      (r.top.slots slot z.own)

  temporaries : (a : Activation) → IsListed a (t.top ∷ t.below) → is_coroutine b a.func ≡ true → (e : EarlySlot)
      → Contains (copies (b.framing a.func)).slots e
      → Contains a.slots (record { alloca = e.temporary; block = whole.block }) → ⊥
  temporaries a (inl same) is e listed' own =
      let no : true ≡ false = sym is ∙ ap (λ (c : Activation). is_coroutine b c.func) same
      ∙ ap (is_coroutine b) r.top.func ∙ h.plain in
      cc
  temporaries a (inr l) is e listed' own =
      below_other b s t r (record { alloca = slot.alloca; block = whole.block }) whole.own a l
      (record { alloca = e.temporary; block = whole.block }) own refl

  abbrev k : ℕ
  k = whole.block

  abbrev w' : World
  w' = w b g given s t r starts name slot z whole listed temporaries

  abbrev u' : World
  u' = u b g given s t r starts name slot z whole listed temporaries

  value_there : value_in t.top.values name ≡ pointer_to k
  value_there =
      named_there r.homes (value_in s.top.values name) (value_in t.top.values name) slot.block k
      ((stands b g given s t r h.plain h.runs h.mode).each name) z.address whole.home

  source_is : renewed_step g s ≡ record s { world = w'; top = record s.top { at = s.top.at + 1 } }
  source_is =
      renewed_does g s (AtInstr i) (Done (set_memory (work_of s)
      (marked_by starts s.world.memory (value_in s.top.values name)))) h.runs h.there
      (idle_is (g.flags s.top.func) starts must_tail ty size t' name ∙ h.off)
      (marker_action (context_of g.given s) (work_of s) starts must_tail ty size t' name)
      ∙ ap (λ (m : List MemoryBlock). record s {
        world = record s.world { memory = m };
        top = record s.top { at = s.top.at + 1 };
      }) (marks_block starts s.world.memory (value_in s.top.values name) slot.block z.address)

  target_is : framed_step b.given t ≡ record t { world = u'; top = record t.top { at = t.top.at + 1 } }
  target_is =
      framed_does b.given t (AtInstr i) (Done (set_memory (work_of t)
      (marked_by starts t.world.memory (value_in t.top.values name)))) (r.outcome ∙ h.runs)
      (fetched_there b g given s t r h.plain h.runs h.mode (AtInstr i) h.there)
      (no_gift b.given t i (no_gift_of b.given.given.code starts must_tail ty size t' name))
      (marker_action (framed_context b.given t) (work_of t) starts must_tail ty size t' name)
      ∙ ap (λ (m : List MemoryBlock). record t {
        world = record t.world { memory = m };
        top = record t.top { at = t.top.at + 1 };
      }) (marks_block starts t.world.memory (value_in t.top.values name) k value_there)

  related : AreBuiltOf b (record s { world = w'; top = record s.top { at = s.top.at + 1 } })
      (record t { world = u'; top = record t.top { at = t.top.at + 1 } })
  related =
      subst
      (λ (p : Point). AreBuiltOf b (record s { world = w'; top = record s.top { at = s.top.at + 1 } })
      (record t { world = u'; top = record t.top { block = p.block; at = p.at + 1 } }))
      (sym (here_is b g given s t r h.plain h.runs h.mode))
      (related_left b g given s t r h.plain h.runs h.mode w' u' s.top.block (s.top.at + 1) s.top.values t.top.values
      (over b g given s t r starts name slot z whole listed temporaries)
      (left b g given s t r starts name slot z whole listed temporaries)
      (stands b g given s t r h.plain h.runs h.mode))

  pub other_marker_followed : IsFollowed b g s t
  other_marker_followed =
      one_followed b g s t
      (cost_one b g given s t r h.plain h.runs h.mode (Done (set_memory (work_of s)
      (marked_by starts s.world.memory (value_in s.top.values name))))
      (ap (action_of (context_of g.given s) (work_of s)) h.there
      ∙ marker_action (context_of g.given s) (work_of s) starts must_tail ty size t' name) refl)
      (subst (λ (p : State × State). AreBuiltOf b p.0 p.1) (λ j. (sym source_is j, sym target_is j)) related)

-- ---- of a ramp slot

module _ (b : Building) (g : RenewedGiven) (given : AreGiven b g) (s t : State) (r : AreBuiltOf b s t)
    (starts must_tail : Bool) (ty : Option Ty) (size : Arg) (t' : Ty) (name : ℕ)
    (h : IsAtMarker b s starts must_tail ty size t' name)
    (q : IsKeptMarker b s (marking starts must_tail ty size t' name) name) (off : g.flags s.top.func name ≡ false)
    (listed : HasListedSlots s) (slot : Slot) (z : IsWholeMarked b s name slot) where
  abbrev X : Framing
  X = b.framing s.top.func

  abbrev R : Rights
  R = frame_rights b.given t.instances

  abbrev j : Instr
  j = marking starts must_tail ty size t' name

  is : IsFraming X
  is = given.framings s.top.func h.coroutine

  old : AreCoroutines X r.homes R t s.top t.top
  old = coroutine_values b r.homes R t s.top t.top (is_coroutine b s.top.func) h.coroutine r.top.values

  old_cells : AreCellsRight X r.homes R t.world.memory s.top.values t.top
      × AreWheresRight X R t.world.memory (instance_in t.instances t.top.instance) t.top
  old_cells =
      subst (λ (o : Option ℕ). HasCells X r.homes R t.world.memory
      (instance_in t.instances t.top.instance) s.top t.top o)
      (not_returned X s.top s.top.mode h.mode h.unreturned) old.cells

  outside : lies_in_frame (offsets X) slot.alloca ≡ false
  outside = ap (lies_in_frame (offsets X)) z.alloca ∙ q.outside

  ramp_whole : IsWholeSlot r.homes t.top slot
  ramp_whole =
      subst (IsSlotBy b r.homes r.hides s.top t.top slot) (λ m. h.coroutine m && outside m) (r.top.slots slot z.own)

  written_high : length (edged X).names ≤ length (written X).names
  written_high = let a : Far X is ≤ length (written X).names = far_written X is in omega (arith, a)

  -- a slot of another name lies elsewhere
  apart_top : (other : Slot) → Contains t.top.slots other → other.alloca ≢ name → other.block ≢ ramp_whole.block
  apart_top other own ne =
      other_block t.top other.alloca slot.alloca other.block ramp_whole.block (own_blocks t r.once) own ramp_whole.own
      (λ e. ne (e ∙ z.alloca))

  temporary_other : (e : EarlySlot) → Contains (copies X).slots e → e.temporary ≢ name
  temporary_other e listed' same =
      let high : length (written X).names ≤ e.temporary = (slots_new X e listed').0 in
      let low = written_high in
      let lt = q.low in
      omega (arith, high, low, lt, same)

  ramp_temporaries : (a : Activation) → IsListed a (t.top ∷ t.below) → is_coroutine b a.func ≡ true → (e : EarlySlot)
      → Contains (copies (b.framing a.func)).slots e
      → Contains a.slots (record { alloca = e.temporary; block = ramp_whole.block }) → ⊥
  ramp_temporaries a (inl same) is' e listed' own =
      apart_top (record { alloca = e.temporary; block = ramp_whole.block })
      (subst (λ (c : Activation). Contains c.slots (record { alloca = e.temporary; block = ramp_whole.block })) same
      own)
      (temporary_other e
      (subst (λ (m : ℕ). Contains (copies (b.framing m)).slots e)
      (ap (λ (c : Activation). c.func) same ∙ r.top.func) listed')) refl
  ramp_temporaries a (inr l) is' e listed' own =
      below_other b s t r (record { alloca = slot.alloca; block = ramp_whole.block }) ramp_whole.own a l
      (record { alloca = e.temporary; block = ramp_whole.block }) own refl

  abbrev w2 : World
  w2 = w b g given s t r starts name slot z ramp_whole listed ramp_temporaries

  abbrev u2 : World
  u2 = u b g given s t r starts name slot z ramp_whole listed ramp_temporaries

  left2 : LeavesRest b s t r w2 u2
  left2 = left b g given s t r starts name slot z ramp_whole listed ramp_temporaries

  kept2 : (other : Slot) → Contains t.top.slots other → IsCellName X other.alloca → (o most : ℕ) (bytes : List Byte)
      → Holds R t.world.memory other.block o most bytes → Holds R u2.memory other.block o most bytes
  kept2 other own cell o most bytes =
      held b g given s t r starts name slot z ramp_whole listed ramp_temporaries other.block
      (apart_top other own (λ e. let le = cell.new in let lt = q.low in omega (arith, le, lt, e))) o most bytes

  same_homes : Extends r.homes r.homes
  same_homes = record { each = λ v e. refl }

  -- ---- the steps

  literal : IsMarkerCode X j
  literal = marker_code X starts must_tail ty size t' name

  stands_here : StandsInPlace X s.top.block s.top.at (j ∷ [])
  stands_here =
      code_stands X s.top.block s.top.at j (j ∷ []) h.there
      (same_becomes X is s.top.block s.top.at j h.there
      (literal_plain X size.value h.literal, (unkept_plain X name h.unkept, tt)) literal.unwritten literal.accesses
      literal.begins q.kept (no_promise starts) (literal_placed X size.value h.literal, (outside_plain, tt))
      (no_alloca starts)) (is_no starts, tt) h.unreturned
    where
      no_promise : (c : Bool) → without_promise_of (marking c must_tail ty size t' name)
          ≡ marking c must_tail ty size t' name
      no_promise true = refl
      no_promise false = refl

      no_alloca : (c : Bool) → lies_outside (offsets X) (marking c must_tail ty size t' name) ≡ true
      no_alloca c = refl

      is_no : (c : Bool) → is_no_alloca (marking c must_tail ty size t' name) ≡ true
      is_no c = refl

      literal_placed : (x : Framing) (o : Operand) → IsNoLocal o → fetch_of (slot_table x) o ≡ None
      literal_placed x (Operand.Local v) e = absurd e
      literal_placed x (Operand.Global m) e = refl
      literal_placed x (Operand.Number m) e = refl
      literal_placed x Operand.True e = refl
      literal_placed x Operand.False e = refl
      literal_placed x Operand.Null e = refl
      literal_placed x Operand.None e = refl
      literal_placed x Operand.Poison e = refl

      no_entry : (o : Option ℕ) → not (is_none o) ≡ false → o ≡ None
      no_entry None e = refl
      no_entry (Some d) e = absurd (cc)

      joined_or : (o : Option (Option ℕ)) → unwrap_or o None ≡ joined o
      joined_or None = refl
      joined_or (Some o) = refl

      outside_plain : fetch_of (slot_table X) (Operand.Local name) ≡ None
      outside_plain =
          slot_fetch X name
          ∙ ap (option_map (Fetch.Address (begin_of X.function)))
          (sym (joined_or (slice_get (offsets X) name)) ∙ no_entry (unwrap_or (slice_get (offsets X) name) None) q.outside)

  abbrev here : Point
  here = record { block = s.top.block; at = s.top.at }

  at_place : point_of t.top ≡ place X here
  at_place = r.top.place ∙ top_is b s.top h.coroutine h.mode

  code_framed : function_of b.given.given t ≡ framed X
  code_framed =
      (λ m. function_at (given.code m) (r.top.func m)) ∙ (given.built.coroutines s.top.func h.coroutine).is

  fetched2 : fetch (function_of b.given.given t) t.top.block t.top.at ≡ AtInstr j
  fetched2 =
      (λ m. fetch (code_framed m) (at_place m).block (at_place m).at) ∙ stands_here.0.0

  value2 : value_in t.top.values name ≡ pointer_to ramp_whole.block
  value2 =
      named_there r.homes (value_in s.top.values name) (value_in t.top.values name) slot.block ramp_whole.block
      (old.names.each name (asked X s.top s.top.mode name h.mode) h.unkept q.outside) z.address ramp_whole.home

  source_fetched : fetch (function_of g.given s) s.top.block s.top.at ≡ AtInstr j
  source_fetched =
      ap (λ (f : Function). fetch f s.top.block s.top.at) (given.coroutines s.top.func h.coroutine)
      ∙ instr_there (edged X) s.top.block s.top.at j h.there

  source2 : renewed_step g s ≡ record s { world = w2; top = record s.top { at = s.top.at + 1 } }
  source2 =
      renewed_does g s (AtInstr j) (Done (set_memory (work_of s)
      (marked_by starts s.world.memory (value_in s.top.values name)))) h.runs source_fetched
      (idle_is (g.flags s.top.func) starts must_tail ty size t' name ∙ off)
      (marker_action (context_of g.given s) (work_of s) starts must_tail ty size t' name)
      ∙ ap (λ (m : List MemoryBlock). record s {
        world = record s.world { memory = m };
        top = record s.top { at = s.top.at + 1 };
      }) (marks_block starts s.world.memory (value_in s.top.values name) slot.block z.address)

  target2 : framed_step b.given t ≡ record t { world = u2; top = record t.top { at = t.top.at + 1 } }
  target2 =
      framed_does b.given t (AtInstr j) (Done (set_memory (work_of t)
      (marked_by starts t.world.memory (value_in t.top.values name)))) (r.outcome ∙ h.runs) fetched2
      (no_gift b.given t j (no_gift_of b.given.given.code starts must_tail ty size t' name))
      (marker_action (framed_context b.given t) (work_of t) starts must_tail ty size t' name)
      ∙ ap (λ (m : List MemoryBlock). record t {
        world = record t.world { memory = m };
        top = record t.top { at = t.top.at + 1 };
      }) (marks_block starts t.world.memory (value_in t.top.values name) ramp_whole.block value2)

  -- ---- the relation

  abbrev a' : Activation
  a' = record s.top { at = s.top.at + 1 }

  abbrev c' : Activation
  c' = record t.top { at = t.top.at + 1 }

  abbrev t2 : State
  t2 = record t { world = u2; top = c' }

  right2 : AreCellsRight X r.homes R u2.memory s.top.values t.top
  right2 =
      rights_on R R t.world.memory u2.memory r.homes r.homes same_homes X is t.top kept2 s.top.values old_cells.0

  wheres2 : AreWheresRight X R u2.memory (instance_in t.instances t.top.instance) t.top
  wheres2 =
      wheres_on R R t.world.memory u2.memory r.homes r.homes same_homes X is t.top kept2
      (instance_in t.instances t.top.instance) (instance_in t.instances t.top.instance)
      (same_place (instance_in t.instances t.top.instance)) old_cells.1

  right3 : AreCellsRight X r.homes R u2.memory s.top.values c'
  right3 = cells_turned R u2.memory t.top c' X r.homes s.top.values refl refl right2

  wheres3 : AreWheresRight X R u2.memory (instance_in t.instances t.top.instance) c'
  wheres3 =
      wheres_turned R u2.memory t.top c' X (instance_in t.instances t.top.instance) refl
      (λ e listed'. (refl, refl)) wheres2

  after : AreCoroutines X r.homes R t2 a' c'
  after = record {
    names = record {
      each = λ v asks unkept out. old.names.each v (asked X s.top s.top.mode v h.mode) unkept out;
      room = old.names.room;
    };
    cells = subst
        (λ (o : Option ℕ). HasCells X r.homes R u2.memory (instance_in t.instances t.top.instance) a' c' o)
        (sym (not_returned X a' s.top.mode h.mode h.unreturned)) (right3, wheres3);
    made = made_of X R u2.memory c' s.top.mode h.mode (
      right_there X is r.homes R u2.memory s.top.values c' right3,
      wheres_there X R u2.memory c' (instance_in t.instances t.top.instance) wheres3,
    );
  }

  place_is : point_of c' ≡ top_place b a'
  place_is =
      (λ m. record { block = (at_place m).block; at = (at_place m).at + 1 })
      ∙ ap (λ (n : ℕ). record { block = s.top.block; at = n }) (sym stands_here.1)
      ∙ sym (top_is b a' h.coroutine h.mode)

  top2 : AreActivations b r.homes r.hides t2 (top_place b) a' c'
  top2 = record {
    func = r.top.func;
    place = place_is;
    result = r.top.result;
    mode = r.top.mode;
    instance = r.top.instance;
    has_left = r.top.has_left;
    values = values_of b r.homes R t2 a' c' (is_coroutine b s.top.func) h.coroutine after;
    slots = own_slots b s t r w2 u2 left2 s.top.block (s.top.at + 1) t.top.block (t.top.at + 1) s.top.values
        t.top.values;
  }

  ahead2 : is_coroutine b s.top.func ≡ true → is_first s.top.mode ≡ true → s.top.block ≡ 0
      → AreAhead X r.homes r.hides w2.memory u2.memory a' c'
  ahead2 coroutine first block = record {
    slots = λ at v align ty' there le out.
        turned v align ty'
        (one v align ty' (q.made at v align ty' there block (omega (arith, le)))
        ((r.ahead.0 coroutine first block).slots at v align ty' there (omega (arith, le)) out));
    temporaries = λ e at align ty' listed' there le.
        turned e.temporary e.align e.ty
        (one e.temporary e.align e.ty (temporary_other e listed')
        ((r.ahead.0 coroutine first block).temporaries e at align ty' listed' there (omega (arith, le))));
  }
    where
      one : (v align : ℕ) (ty' : Ty) → v ≢ name
          → IsAhead X r.homes r.hides s.world.memory t.world.memory t.top v ty' align
          → IsAhead X r.homes r.hides w2.memory u2.memory t.top v ty' align
      one v align ty' ne k =
          ahead_on b g given s t r starts name slot z ramp_whole listed ramp_temporaries X t.top v align ty' k
          (apart_top (record { alloca = v; block = k.block }) k.own ne)

      turned : (v align : ℕ) (ty' : Ty) → IsAhead X r.homes r.hides w2.memory u2.memory t.top v ty' align
          → IsAhead X r.homes r.hides w2.memory u2.memory c' v ty' align
      turned v align ty' k = record {
        block = k.block;
        address = k.address;
        own = k.own;
        free = k.free;
        bytes = k.bytes;
        sized = k.sized;
        there = k.there;
      }

  related2 : AreBuiltOf b (record s { world = w2; top = a' }) t2
  related2 =
      rest_related b s t r w2 u2 left2 s.top.block (s.top.at + 1) t.top.block (t.top.at + 1) s.top.values t.top.values
      (over b g given s t r starts name slot z ramp_whole listed ramp_temporaries) ahead2 top2

  cost2 : 1 ≤ step_cost b g s s.top.mode
  cost2 =
      subst (λ (n : ℕ). 1 ≤ n)
      (sym (cost_is b g s s.top.mode h.mode
      ∙ ap (λ (c : Bool). if c then coroutine_cost b g s (action_at g s) else other_cost b g s (action_at g s))
      h.coroutine
      ∙ ap (coroutine_cost b g s) (ap (action_of (context_of g.given s) (work_of s)) source_fetched
      ∙ marker_action (context_of g.given s) (work_of s) starts must_tail ty size t' name)
      ∙ ap (λ (n : ℕ). n - (place X here).at) stands_here.1)) (enough (place X here).at)
    where
      enough : (n : ℕ) → 1 ≤ (n + 1) - n
      enough n = omega arith

  pub kept_marker_followed : IsFollowed b g s t
  kept_marker_followed =
      one_followed b g s t cost2
      (subst (λ (p : State × State). AreBuiltOf b p.0 p.1) (λ m. (sym source2 m, sym target2 m)) related2)

-- An alloca or a call of an allocator, which both runs execute, leaves the states beside each other.
use Rattle.std.proofs.Common.{◌≡◌, ◌≢◌, ◌<◌, ◌+◌, ◌-◌, ◌^◌, ℕ, Bool, true, false, List, [], ◌∷◌, ◌++◌, length, map, min, Option, Ok, refl, sym, ap, ◌∙◌, subst, arith, if◌then◌else◌}
use Rattle.std.specs.Prelude.{None, Some, slice_get}
use Rattle.elide_shape.specs.Calls.{deals}
use Rattle.elide_shape.specs.declared.calls.Dealing.{Dealing}
use Rattle.pass_elide.specs.Elided.{elided_function}
use Rattle.pass_elide_proof.proofs.Facts.{each_at, or_true, other_than}
use Rattle.pass_elide_proof.proofs.Grown.{grows_on, have_at, hidden_grown, home_new, home_old, homes_there, known_grown, later, mates_grow, more, new_block, new_pointer, stands_grown}
use Rattle.pass_elide_proof.proofs.Markers.{same_markers}
use Rattle.pass_elide_proof.proofs.Modules.{finds_alike}
use Rattle.pass_elide_proof.proofs.Onward.{GoesOn, SlotsStay}
use Rattle.pass_elide_proof.proofs.OrdinarySteps.{all_made}
use Rattle.pass_elide_proof.proofs.OwnPlaces.{acts, there_too}
use Rattle.pass_elide_proof.proofs.Reading.{args_stand, nth_stands}
use Rattle.pass_elide_proof.proofs.SetNames.{keeps_top}
use Rattle.pass_elide_proof.proofs.Settled.{KeepsTop, next_of, settles}
use Rattle.pass_elide_proof.specs.Counts.{capped, counted}
use Rattle.pass_elide_proof.specs.Elision.{Elision, elided, elided_code, framed, function_in, rooms}
use Rattle.pass_elide_proof.specs.Making.{HasSlotsIn, HaveSlots, IsAtAlloca, IsAtAllocator, IsNotEntering}
use Rattle.pass_elide_proof.specs.Match.{AreElided, AreModes, Given, Same, Sides, sides}
use Rattle.pass_elide_proof.specs.Ordinary.{IsAtOwn, StandsInFront, with_at}
use Rattle.pass_elide_proof.specs.Places.{allocas_ahead}
use Rattle.pass_proofs.proofs.ir_laws.facts.Lists.{each_of_each, get_within}
use Rattle.pass_proofs.proofs.run_laws.embedded.NewBlocks.{end_last}
use Rattle.pass_proofs.proofs.run_laws.memory.Homes.{seen_within}
use Rattle.pass_proofs.proofs.run_laws.transfer.Muted.{muted_length}
use Rattle.pass_proofs.proofs.run_laws.transfer.Sets.{sets_result}
use Rattle.run_access_worked.proofs.run_laws_worked.Frames.{serve_both}
use Rattle.pass_proofs.specs.ir_base.declared.cause.Cause.{Cause}
use Rattle.pass_proofs.specs.ir_base.declared.outcome.Word.{Word}
use Rattle.pass_proofs.specs.ir_model.Layout.{size_of}
use Rattle.pass_proofs.specs.ir_model.Names.{function_at}
use Rattle.pass_proofs.specs.ir_model.Ty.{Ty}
use Rattle.pass_proofs.specs.ir_model.declared.instr.Instr.{Instr}
use Rattle.pass_proofs.specs.ir_model.declared.module.Function.{Function}
use Rattle.pass_proofs.specs.ir_model.declared.operand.Allocator.{Allocator}
use Rattle.pass_proofs.specs.ir_model.declared.operand.Arg.{Arg}
use Rattle.pass_proofs.specs.ir_model.declared.operand.Callee.{Callee}
use Rattle.pass_proofs.specs.ir_paths.declared.point.Point.{Point}
use Rattle.pass_proofs.specs.run_framed.Framed.{at_point, FramedGiven, frame_rights, framed_context, framed_slot, framed_step}
use Rattle.pass_proofs.specs.run_laws.changed.Changed.{Each}
use Rattle.pass_proofs.specs.run_laws.embedded.Deaths.{moved_slot}
use Rattle.pass_proofs.specs.run_laws.embedded.Making.{AreNewRights, whole_home}
use Rattle.pass_proofs.specs.run_laws.memory.Pointers.{Home, IsValue, home_of}
use Rattle.pass_proofs.specs.run_laws.memory.Standing.{blank_block}
use Rattle.pass_proofs.specs.run_laws.transfer.Muted.{muted}
use Rattle.pass_proofs.specs.run_laws.transfer.Places.{AreStanding}
use Rattle.pass_proofs.specs.run_laws.transfer.Transfer.{AreOver, AreSet, given_at}
use Rattle.pass_proofs.specs.run_memory.Memory.{end, fresh, is_live, may_compare_at}
use Rattle.pass_proofs.specs.run_memory.declared.block.Kind.{Kind}
use Rattle.pass_proofs.specs.run_memory.declared.block.MemoryBlock.{MemoryBlock}
use Rattle.pass_proofs.specs.run_memory.declared.pointer.Offset.{Offset}
use Rattle.pass_proofs.specs.run_memory.declared.pointer.Value.{Value}
use Rattle.pass_proofs.specs.run_source.State.{function_of, settled, with_slots, work_of}
use Rattle.pass_proofs.specs.run_source.declared.state.Activation.{Activation}
use Rattle.pass_proofs.specs.run_source.declared.state.Instance.{Instance}
use Rattle.pass_proofs.specs.run_source.declared.state.Mode.{Mode}
use Rattle.pass_proofs.specs.run_source.declared.state.State.{State}
use Rattle.pass_proofs.specs.run_step.Step.{Action, AtInstr, Context, Done, NewSlot, Stuck, Work, action_of, alloca, alloca_kind, allocated, has_markers, if_alignment, is_alignment, risen, set_memory, set_value, with_length}
use Rattle.pass_proofs.specs.run_step.Values.{arg_values, nth, pointer_to, with_result}
use Rattle.pass_proofs.specs.run_step.declared.world.Slot.{Slot}

-- slots of blocks that there are stay where they were
module _ (homes more : List Home) (many : ℕ) (same : (b : ℕ) → b < many → home_of more b ≡ home_of homes b) where
  pub slots_stay : (ss : List Slot) → Each (λ (z : Slot). z.block < many) ss
      → map (moved_slot more) ss ≡ map (moved_slot homes) ss
  slots_stay [] h = refl
  slots_stay (z ∷ ss) h =
      let first : (home_of more z.block).block ≡ (home_of homes z.block).block
      = ap (λ (q : Home). q.block) (same z.block h.0) in
      λ j. record { alloca = z.alloca; block = first j } ∷ slots_stay ss h.1 j

-- ---- both runs make a block

module _ (e : Elision) (s t : State) (n : ℕ) (r : AreElided e s (with_at t n)) (i : Instr) (own : IsAtOwn e s t i)
    (made : length r.top.own ≡ length (allocas_ahead (rooms e s.top.func) (function_in e s.top.func)))
    (slots : HaveSlots s) (result : Option ℕ) (gives : given_at (AtInstr i) ≡ result) (size align : ℕ) (kind : Kind)
    (marked : Bool) (small : size < 2 ^ 64) (first_count second_count : ℕ)
    (counts : (more : ℕ) → s.world.allocs ≡ capped (t.world.allocs + more)
    → first_count ≡ capped (second_count + more)) where
  abbrev d : Sides
  d = sides s t

  abbrev pub z : MemoryBlock
  z = new_block size align kind marked

  -- the works behind it
  abbrev pub first_work : Work
  first_work =
      record {
        world = record s.world {
          memory = s.world.memory ++ new_block size align kind marked ∷ [];
          allocs = first_count;
        };
        values = with_result s.top.values result (pointer_to (length s.world.memory));
      }

  abbrev pub second_work : Work
  second_work =
      record {
        world = record t.world {
          memory = t.world.memory ++ new_block size align kind marked ∷ [];
          allocs = second_count;
        };
        values = with_result t.top.values result (pointer_to (length t.world.memory));
      }

  -- ---- frames lie in blocks that there are

  old : AreStanding (frame_rights (framed e) s.instances) (frame_rights (elided e) t.instances) r.homes
      (muted r.hides s.world.memory) t.world.memory
  old = record { memory = r.world.memory; nulls = r.world.nulls; bounds = r.world.bounds }

  known_muted : length r.homes ≡ length (muted r.hides s.world.memory)
  known_muted = r.known ∙ sym (muted_length r.hides s.world.memory)

  frame_seen : (j : ℕ) (x y : Instance) → slice_get s.instances j ≡ Some x → slice_get t.instances j ≡ Some y
      → (home_of r.homes x.block).is_seen ≡ true
  frame_seen j x y at to = ap (λ (q : Home). q.is_seen) (r.instances j x y at to).home

  ours : (j : ℕ) (x : Instance) → slice_get s.instances j ≡ Some x → x.block < length s.world.memory
  ours j x at =
      let within = get_within s.instances j x at in
      let many = r.count in
      let y = have_at t.instances j (omega (arith, within, many)) in
      let lt = seen_within r.homes x.block (frame_seen j x y.0 at y.1) in
      let known = r.known in
      omega (arith, lt, known)

  pub theirs : (j : ℕ) (y : Instance) → slice_get t.instances j ≡ Some y → y.block < length t.world.memory
  theirs j y to =
      let within = get_within t.instances j y to in
      let many = r.count in
      let x = have_at s.instances j (omega (arith, within, many)) in
      subst (λ (b : ℕ). b < length t.world.memory)
      (ap (λ (q : Home). q.block) (r.instances j x.0 y x.1 to).home)
      (homes_there r.homes (muted r.hides s.world.memory) t.world.memory known_muted r.world.bounds x.0.block
      (frame_seen j x.0 y x.1 to))

  allowed : AreNewRights (frame_rights (framed e) s.instances) (frame_rights (elided e) t.instances)
      (length s.world.memory) (length t.world.memory) kind kind
  allowed =
      serve_both (framed e) s.instances (elided e) t.instances (length s.world.memory) (length t.world.memory) kind kind
      (each_at (λ (x : Instance). x.block ≢ length s.world.memory) s.instances
      (λ j x at. other_than x.block (length s.world.memory) (ours j x at)))
      (each_at (λ (y : Instance). y.block ≢ length t.world.memory) t.instances
      (λ j y to. other_than y.block (length t.world.memory) (theirs j y to)))

  free : (c : ℕ) (x : Option MemoryBlock) (o : Offset)
      → may_compare_at (frame_rights (elided e) t.instances) c x o ≡ true
  free c None o = refl
  free c (Some x) o = or_true (is_live x.life)

  abbrev pub homes : List Home
  homes = more d r.homes r.hides z r.known theirs

  abbrev pub hides : ℕ → Bool
  hides = later d r.homes r.hides z r.known theirs

  stands : AreStanding (frame_rights (framed e) s.instances) (frame_rights (elided e) t.instances) homes
      (muted hides (s.world.memory ++ z ∷ [])) (t.world.memory ++ z ∷ [])
  stands =
      stands_grown (frame_rights (framed e) s.instances) (frame_rights (elided e) t.instances) d r.homes r.hides size
      align kind marked r.known theirs allowed small free old

  over : AreOver (frame_rights (framed e) s.instances) (frame_rights (elided e) t.instances) homes hides (λ d. d)
      (counted second_work.world.allocs first_work.world) second_work.world
  over = record {
    memory = stands.memory;
    nulls = stands.nulls;
    bounds = stands.bounds;
    events = r.world.events;
    answers = r.world.answers;
    allocs = refl;
  }

  pub on : GoesOn (sides s t) (s.world.memory ++ new_block size align kind marked ∷ [])
      (t.world.memory ++ new_block size align kind marked ∷ []) r.homes homes r.hides hides
  on = grows_on d r.homes r.hides z r.known theirs

  set : AreSet homes (given_at (AtInstr i)) s.top.values t.top.values first_work.values second_work.values
  set =
      subst (λ (o : Option ℕ). AreSet homes o s.top.values t.top.values first_work.values second_work.values)
      (sym gives)
      (sets_result homes s.top.values t.top.values r.top.values.room result (pointer_to (length s.world.memory))
      (pointer_to (length t.world.memory)) (new_pointer d r.homes r.hides z r.known theirs))

  -- slots that there are stay
  stay_there : (a : Activation) → HasSlotsIn s.world.memory a
      → map (moved_slot homes) a.slots ≡ map (moved_slot r.homes) a.slots
  stay_there a h =
      slots_stay r.homes homes (length s.world.memory) (home_old d r.homes r.hides z r.known theirs) a.slots h

  -- the topmost activations behind it
  pub keeps_on : KeepsTop e s t homes (next_of s.top) (next_of t.top) first_work.values second_work.values
  keeps_on = keeps_top e s t n r i own homes on.extends first_work.values second_work.values set

  -- at any two places that stand beside each other
  pub makes_at : (p q : Point) → KeepsTop e s t homes p q first_work.values second_work.values → (ss ts : List Slot)
      → ts ≡ map (moved_slot homes) ss ++ r.top.own
      → AreElided e (with_slots (at_point (settled s first_work) p) ss)
      (with_slots (at_point (settled t second_work) q) ts)
  makes_at p q keeps ss ts same =
      settles e s t n r made first_work second_work homes hides on p q keeps over
      (known_grown (frame_rights (framed e) s.instances) (frame_rights (elided e) t.instances) d r.homes r.hides size
      align kind marked r.known theirs allowed small free old)
      (hidden_grown d r.homes r.hides z r.known theirs r.hidden)
      (mates_grow d r.homes r.hides z r.known theirs r.mates)
      (each_of_each (HasSlotsIn s.world.memory)
      (SlotsStay e d (s.world.memory ++ z ∷ []) (t.world.memory ++ z ∷ []) r.homes homes r.hides hides on) stay_there
      s.below slots.1)
      counts ss ts same

  pub makes : (ss ts : List Slot) → ts ≡ map (moved_slot homes) ss ++ r.top.own
      → AreElided e (with_slots (settled s first_work) ss) (with_slots (settled t second_work) ts)
  makes ss ts same = makes_at (next_of s.top) (next_of t.top) keeps_on ss ts same

  -- the slots of the topmost activations, and those with the new one
  pub same_slots : t.top.slots ≡ map (moved_slot homes) s.top.slots ++ r.top.own
  same_slots = r.top.slots ∙ ap (λ (ss : List Slot). ss ++ r.top.own) (sym (stay_there s.top slots.0))

  pub more_slots : (name : ℕ)
      → record { alloca = name; block = length t.world.memory } ∷ t.top.slots
      ≡ map (moved_slot homes) (record { alloca = name; block = length s.world.memory } ∷ s.top.slots) ++ r.top.own
  more_slots name =
      let home : whole_home (length t.world.memory) ≡ home_of homes (length s.world.memory)
      = sym (home_new d r.homes r.hides z r.known theirs) in
      λ j. record { alloca = name; block = (home j).block } ∷ same_slots j

-- ---- an alloca

grown_by : (size align : ℕ) (kind : Kind) (m : List MemoryBlock) (t : Bool)
    → (if t then end (fresh m size align kind) (length m) else fresh m size align kind)
    ≡ m ++ new_block size align kind t ∷ []
grown_by size align kind m true = end_last m (blank_block size align kind)
grown_by size align kind m false = refl

module _ (c : Context) (w : Work) (name size align : ℕ) (kind : Kind) (marked : Bool)
    (kinds : alloca_kind c.function ≡ kind) (marks : has_markers c.function name ≡ marked) where
  abbrev m : List MemoryBlock
  m = w.world.memory

  abbrev made_work : List MemoryBlock → Work
  made_work memory = set_memory (set_value w name (pointer_to (length w.world.memory))) memory

  pub alloca_makes : alloca c w name size align
      ≡ NewSlot (made_work (w.world.memory ++ new_block size align kind marked ∷ []))
      (record { alloca = name; block = length w.world.memory })
  alloca_makes =
      ap (λ (k : List MemoryBlock). NewSlot (made_work k) (record { alloca = name; block = length w.world.memory }))
      ((λ j. if marks j then end (fresh m size align (kinds j)) (length m) else fresh m size align (kinds j))
      ∙ grown_by size align kind m marked)

pub if_aligned : (align : ℕ) (a : Action) → is_alignment align ≡ true → if_alignment align a ≡ a
if_aligned align a h = ap (λ (t : Bool). if t then a else Stuck Cause.Align) h

slot_plain : (g : FramedGiven) (s : State) (slot : Slot) (mode : Mode) → IsNotEntering mode
    → framed_slot g s slot mode ≡ with_slots s (slot ∷ s.top.slots)
slot_plain g s slot Mode.Plain h = refl
slot_plain g s slot Mode.Ramp h = refl
slot_plain g s slot Mode.Resumed h = refl
slot_plain g s slot (Mode.GivenRamp frame) h = refl
slot_plain g s slot (Mode.Entering from label) h = absurd h

mode_too : (a c : Mode) → AreModes a c → IsNotEntering a → IsNotEntering c
mode_too _ _ (Same mode allocates) h = h
mode_too _ _ (Given block offset) h = tt

-- the elided run's function
pub turned_function : (e : Elision) (s t : State) (n : ℕ) → AreElided e s (with_at t n)
    → function_of (elided e).given t ≡ elided_function (rooms e s.top.func) (function_in e s.top.func)
turned_function e s t n r =
    ap (function_at (elided_code e)) r.top.func ∙ (finds_alike e).functions s.top.func

module _ (e : Elision) (s t : State) (n : ℕ) (r : AreElided e s (with_at t n)) (name : ℕ) (ty : Ty) (align : ℕ)
    (at : IsAtAlloca e s t name ty align)
    (made : length r.top.own ≡ length (allocas_ahead (rooms e s.top.func) (function_in e s.top.func))) where
  abbrev f : Function
  f = function_in e s.top.func

  abbrev i : Instr
  i = Instr.Alloca name ty align

  abbrev size : ℕ
  size = size_of e.code ty

  turned : function_of (elided e).given t ≡ elided_function (rooms e s.top.func) f
  turned = turned_function e s t n r

  first_does : action_of (framed_context (framed e) s) (work_of s) (AtInstr i)
      ≡ NewSlot (first_work e s t n r i at.own made at.slots (Some name) refl size align (alloca_kind f)
      (has_markers f name) at.small s.world.allocs t.world.allocs (λ more h. h))
      (record { alloca = name; block = length s.world.memory })
  first_does =
      if_aligned align (alloca (framed_context (framed e) s) (work_of s) name size align) at.aligned
      ∙ alloca_makes (framed_context (framed e) s) (work_of s) name size align (alloca_kind f) (has_markers f name)
      refl refl

  second_does : action_of (framed_context (elided e) t) (work_of t) (AtInstr i)
      ≡ NewSlot (second_work e s t n r i at.own made at.slots (Some name) refl size align (alloca_kind f)
      (has_markers f name) at.small s.world.allocs t.world.allocs (λ more h. h))
      (record { alloca = name; block = length t.world.memory })
  second_does =
      if_aligned align (alloca (framed_context (elided e) t) (work_of t) name size align) at.aligned
      ∙ alloca_makes (framed_context (elided e) t) (work_of t) name size align (alloca_kind f) (has_markers f name)
      (ap alloca_kind turned)
      (ap (λ (h : Function). has_markers h name) turned ∙ same_markers name (rooms e s.top.func) f)

  pub slot_goes : AreElided e (framed_step (framed e) s) (framed_step (elided e) t)
  slot_goes =
      let v = first_work e s t n r i at.own made at.slots (Some name) refl size align (alloca_kind f)
      (has_markers f name) at.small s.world.allocs t.world.allocs (λ more h. h) in
      let y = second_work e s t n r i at.own made at.slots (Some name) refl size align (alloca_kind f)
      (has_markers f name) at.small s.world.allocs t.world.allocs (λ more h. h) in
      let ours : Slot = record { alloca = name; block = length s.world.memory } in
      let theirs : Slot = record { alloca = name; block = length t.world.memory } in
      let first : framed_step (framed e) s ≡ with_slots (settled s v) (ours ∷ s.top.slots)
      = acts (framed e) s (with_slots (settled s v) (ours ∷ s.top.slots)) i (NewSlot v ours) at.own.runs at.own.there
      at.own.no_ramp first_does (ap Ok (slot_plain (framed e) (settled s v) ours s.top.mode at.mode)) in
      let second : framed_step (elided e) t ≡ with_slots (settled t y) (theirs ∷ t.top.slots)
      = acts (elided e) t (with_slots (settled t y) (theirs ∷ t.top.slots)) i (NewSlot y theirs)
      (r.outcome ∙ at.own.runs) (there_too e s t i at.own r.top.func)
      (λ m is. (finds_alike e).ramps m ∙ at.own.no_ramp m is) second_does
      (ap Ok (slot_plain (elided e) (settled t y) theirs t.top.mode
      (mode_too s.top.mode t.top.mode r.top.mode at.mode)))
      in
      subst (λ (p : State × State). AreElided e p.0 p.1) (λ j. (sym first j, sym second j))
      (makes e s t n r i at.own made at.slots (Some name) refl size align (alloca_kind f) (has_markers f name) at.small
      s.world.allocs t.world.allocs (λ more h. h) (ours ∷ s.top.slots) (theirs ∷ t.top.slots)
      (more_slots e s t n r i at.own made at.slots (Some name) refl size align (alloca_kind f) (has_markers f name)
      at.small s.world.allocs t.world.allocs (λ more h. h) name))

pub slots_stay_beside : (e : Elision) (s t : State) (name : ℕ) (ty : Ty) (align : ℕ) → AreElided e s t
    → StandsInFront e s t → IsAtAlloca e s t name ty align
    → AreElided e (framed_step (framed e) s) (framed_step (elided e) t)
slots_stay_beside e s t name ty align r front at =
    slot_goes e s t t.top.at r name ty align at (all_made e s t r front (Instr.Alloca name ty align) at.own)

-- ---- a call of an allocator

rises : (most c n more : ℕ) → c ≡ min (n + more) most → min (c + 1) most ≡ min (min (n + 1) most + more) most
rises most c n more e = omega (arith, e)

int_is : (homes : List Home) (v u : Value) (word : Word) → v ≡ Value.Int word → IsValue homes v u → u ≡ Value.Int word
int_is homes v u word is h = subst (λ (x : Value). IsValue homes x u) is h

module _ (e : Elision) (s t : State) (n : ℕ) (r : AreElided e s (with_at t n)) (a : Allocator) (result : Option ℕ)
    (must_tail : Bool) (ty : Option Ty) (args : List Arg) (at : IsAtAllocator e s t a result must_tail ty args)
    (made : length r.top.own ≡ length (allocas_ahead (rooms e s.top.func) (function_in e s.top.func))) where
  abbrev call : Allocator → Instr
  call b = Instr.Call result must_tail ty (Callee.Allocator b) args

  counts : (more : ℕ) → s.world.allocs ≡ capped (t.world.allocs + more)
      → risen s.world.allocs ≡ capped (risen t.world.allocs + more)
  counts more h = rises (2 ^ 128 - 1) s.world.allocs t.world.allocs more h

  size_too : nth (arg_values (elided_code e) t.top.values args) 0 ≡ Value.Int at.word
  size_too =
      int_is r.homes (nth (arg_values e.code s.top.values args) 0)
      (nth (arg_values (elided_code e) t.top.values args) 0)
      at.word at.size
      (nth_stands e r.homes r.globals s.top.values t.top.values args
      (args_stand e r.homes r.globals s.top.values t.top.values args
      (λ v is. r.top.values.each v (at.own.reads v is))) 0)

  gives : (b : Allocator) → deals Dealing.Allocates b ≡ true → given_at (AtInstr (call b)) ≡ result
  gives Allocator.Malloc h = refl
  gives Allocator.Znwm h = refl
  gives Allocator.Free h = absurd (cc)
  gives Allocator.ZdlPv h = absurd (cc)
  gives Allocator.ZdlPvm h = absurd (cc)

  does : (c : Context) (w : Work) (b : Allocator) → deals Dealing.Allocates b ≡ true
      → nth (arg_values c.code w.values args) 0 ≡ Value.Int at.word
      → action_of c w (AtInstr (call b)) ≡ Done (allocated w result at.word.bits)
  does c w Allocator.Malloc h is = ap (λ (v : Value). with_length v (λ k. Done (allocated w result k))) is
  does c w Allocator.Znwm h is = ap (λ (v : Value). with_length v (λ k. Done (allocated w result k))) is
  does c w Allocator.Free h is = absurd (cc)
  does c w Allocator.ZdlPv h is = absurd (cc)
  does c w Allocator.ZdlPvm h is = absurd (cc)

  pub block_goes : AreElided e (framed_step (framed e) s) (framed_step (elided e) t)
  block_goes =
      let v = allocated (work_of s) result at.word.bits in
      let y = allocated (work_of t) result at.word.bits in
      let first : framed_step (framed e) s ≡ settled s v
      = acts (framed e) s (settled s v) (call a) (Done v) at.own.runs at.own.there at.own.no_ramp
      (does (framed_context (framed e) s) (work_of s) a at.allocates at.size) refl in
      let second : framed_step (elided e) t ≡ settled t y
      = acts (elided e) t (settled t y) (call a) (Done y) (r.outcome ∙ at.own.runs)
      (there_too e s t (call a) at.own r.top.func) (λ m is. (finds_alike e).ramps m ∙ at.own.no_ramp m is)
      (does (framed_context (elided e) t) (work_of t) a at.allocates size_too) refl in
      subst (λ (p : State × State). AreElided e p.0 p.1) (λ j. (sym first j, sym second j))
      (makes e s t n r (call a) at.own made at.slots result (gives a at.allocates) at.word.bits 16 Kind.Allocator false
      at.small (risen s.world.allocs) (risen t.world.allocs) counts s.top.slots t.top.slots
      (same_slots e s t n r (call a) at.own made at.slots result (gives a at.allocates) at.word.bits 16 Kind.Allocator
      false at.small (risen s.world.allocs) (risen t.world.allocs) counts))

pub allocators_stay_beside : (e : Elision) (s t : State) (a : Allocator) (result : Option ℕ) (must_tail : Bool)
    (ty : Option Ty) (args : List Arg) → AreElided e s t → StandsInFront e s t
    → IsAtAllocator e s t a result must_tail ty args
    → AreElided e (framed_step (framed e) s) (framed_step (elided e) t)
allocators_stay_beside e s t a result must_tail ty args r front at =
    block_goes e s t t.top.at r a result must_tail ty args at
    (all_made e s t r front (Instr.Call result must_tail ty (Callee.Allocator a) args) at.own)

-- How a framed coroutine goes on behind a suspend, its slots and its begin, where functions have blocks on some of their edges.
use Rattle.std.proofs.Common.{◌≡◌, ℕ, Bool, true, false, List, [], ◌∷◌, ◌++◌, length, refl, sym, ap, ◌∙◌, subst}
use Rattle.std.proofs.lemmas.List.{length-map, map-append, replicate-append-replicate}
use Rattle.std.specs.List.{list_all, list_any}
use Rattle.std.specs.Prelude.{ℤ, Some, None, Ok, Err, Option, Result, filter, is_none, map, not, option_and_then, option_map, replicate, slice_get, ◌&&◌, ◌||◌, ◌==◌, if◌then◌else◌}
use Rattle.ir_laws.specs.run_memory.Memory.{own}
use Rattle.ir_laws.specs.run_memory.declared.block.Kind.{Kind}
use Rattle.ir_laws.specs.run_memory.declared.block.MemoryBlock.{MemoryBlock}
use Rattle.ir_laws.specs.run_memory.declared.pointer.Pointer.{Pointer}
use Rattle.ir_laws.specs.run_memory.declared.pointer.Value.{Value}
use Rattle.ir_laws.specs.ir_base.declared.cause.Cause.{Cause}
use Rattle.ir_laws.specs.run_source.Source.{begin, begin_at, begun, is_among, is_live_at, new_instance, push, resumed, with_new_slots}
use Rattle.ir_laws.specs.run_source.State.{began_at, frame_address_of, gives, is_finished, own_frame, with_memory, with_slots, with_status}
use Rattle.ir_laws.specs.run_source.declared.state.Instance.{Instance}
use Rattle.ir_laws.specs.run_source.declared.state.Mode.{Mode}
use Rattle.ir_laws.specs.run_source.declared.state.State.{State}
use Rattle.ir_laws.specs.run_source.declared.state.Status.{Status}
use Rattle.run_states.proofs.expanded.Environments.{grown, result_grown}
use Rattle.ir_laws.proofs.facts.Members.{at_each as each_at}
use Rattle.run_states.proofs.sound_states.Fits.{result_length}
use Rattle.ir_laws.specs.run_laws.changed.Changed.{Each, result_of}
use Rattle.ir_laws.specs.facts.expanded.Tokens.{IsNamedResult}
use Rattle.ir_laws.specs.facts.sound_states.Named.{AreLocalsNamed, HasNamedResults}
use Rattle.frame_layout.specs.declared.layout.Layout.{Layout}
use Rattle.run_states.proofs.branches.Calls.{length_none}
use Rattle.run_framed.specs.Framed.{FramedGiven, alloca_from, alloca_of, are_finished_at, at_point, begin_given, begin_given_at, begin_in_block, begin_in_frame, begin_name, continue_framed, covers, enter_after, frame_around, framed_begin, framed_facts, framed_given, framed_slot, has_room, has_size, is_room_at, layout_of, reentry_values, with_mode}
use Rattle.ir_laws.specs.ir_model.Names.{function_at, position_of}
use Rattle.ir_laws.specs.ir_model.declared.instr.Instr.{Instr}
use Rattle.ir_laws.specs.ir_model.declared.module.Block.{Block}
use Rattle.ir_laws.specs.ir_model.declared.module.Function.{Function}
use Rattle.ir_laws.specs.ir_model.declared.module.Module.{Module}
use Rattle.ir_laws.specs.ir_model.declared.operand.Intrinsic.{Intrinsic}
use Rattle.ir_laws.specs.ir_paths.Windows.{call_result, instr_at, instr_in, is_call_of, points_where}
use Rattle.ir_laws.specs.ir_paths.declared.point.Facts.{Facts}
use Rattle.ir_laws.specs.ir_paths.declared.point.Point.{Point}
use Rattle.ir_laws.specs.run_step.Results.{and_then, found, ok_if}
use Rattle.ir_laws.specs.run_step.Step.{block_of}
use Rattle.ir_laws.specs.run_step.Values.{Env, with_result}
use Rattle.ir_laws.specs.run_step.declared.world.Slot.{Slot}
use Rattle.run_states.proofs.moved_states.Entering.{enters_direct}
use Rattle.run_states.proofs.moved_states.Parts.{facts_are, facts_moved, function_moved}
use Rattle.run_states.proofs.moved_states.Sleeping.{gives_moved}
use Rattle.run_states.proofs.moved_states.States.{finished_moved, last_found, over_moved, with_instance_moved, with_number}
use Rattle.run_states.specs.moved_states.MovedState.{moved_activation, moved_instance, moved_mode, moved_module, moved_result, moved_state}
use Rattle.run_states.specs.moved_states.Moving.{KeepsKinds, Moves, Moving, moved_point}
use Rattle.run_states.specs.moved_states.Near.{EntersBy}

-- ---- begin's name

call_named : (n : ℕ) (i : Instr) → IsNamedResult n (result_of i) → IsNamedResult n (call_result i)
call_named n (Instr.Call result must_tail ty callee args) h = h
call_named n _ h = tt

called_at : (f : Function) → HasNamedResults f → (o : Option Point) → IsNamedResult (length f.names) (option_and_then call_result (option_and_then (instr_at f) o))
called_at f named None = tt
called_at f named (Some p) = on (slice_get f.blocks p.block) refl
  where
    instr : (b : Block) → Each (λ (i : Instr). IsNamedResult (length f.names) (result_of i)) b.instrs → (o : Option Instr) → slice_get b.instrs p.at ≡ o → IsNamedResult (length f.names) (option_and_then call_result o)
    instr b h None e = tt
    instr b h (Some i) e = call_named (length f.names) i (each_at (λ (i : Instr). IsNamedResult (length f.names) (result_of i)) b.instrs p.at i h e)

    on : (o : Option Block) → slice_get f.blocks p.block ≡ o → IsNamedResult (length f.names) (option_and_then call_result (instr_in o p.at))
    on None e = tt
    on (Some b) e = instr b (each_at (λ (b : Block). Each (λ (i : Instr). IsNamedResult (length f.names) (result_of i)) b.instrs) f.blocks p.block b named e) (slice_get b.instrs p.at) refl

begin_named : (f : Function) → HasNamedResults f → IsNamedResult (length f.names) (begin_name f)
begin_named f named = called_at f named (slice_get (points_where (is_call_of Intrinsic.CoroBegin) f) 0)

pub reentry_length : (f : Function) (v : Value) → length (reentry_values f v) ≡ length f.names
reentry_length f v = result_length (replicate (length f.names) None) (begin_name f) v ∙ length_none (length f.names)

module _ (mv : Moving) (kinds : KeepsKinds mv) (m : Module) (layouts : List Layout) (answers : List ℤ) (names : AreLocalsNamed m) (moves : (func : ℕ) → Moves mv (function_at m func)) where
  abbrev g : FramedGiven
  g = framed_given m layouts answers

  abbrev k : FramedGiven
  k = framed_given (moved_module mv m) layouts answers

  -- ---- going on behind a suspend

  reentry_moved : (func : ℕ) (v : Value) → reentry_values (mv.to (function_at m func)) v ≡ grown (mv.more (function_at m func)) (reentry_values (function_at m func) v)
  reentry_moved func v =
      (λ i. with_result (replicate (kinds.names f i) None) ((moves func).begins i) v)
      ∙ ap (λ (e : Env). with_result e (begin_name f) v) (sym (replicate-append-replicate (length f.names) (mv.more f) None))
      ∙ result_grown (mv.more f) (replicate (length f.names) None) (begin_name f) v (subst (λ (n : ℕ). IsNamedResult n (begin_name f)) (sym (length_none (length f.names))) (begin_named f (names func).results))
    where
      f : Function
      f = function_at m func

  abbrev IsFound : ℕ → ℕ → Type 0
  IsFound func label = position_of (mv.to (function_at m func)) label ≡ mv.spot (function_at m func) (position_of (function_at m func) label)

  abbrev in_entry : Option ℕ → Option Point
  in_entry o = option_map (λ (n : ℕ). record { block = 0; at = n }) o

  -- on to the next alloca, or to the label
  enter_after_moved : (s : State) → length s.top.values ≡ length (function_at m s.top.func).names → (from label : ℕ) → IsFound s.top.func label → (o : Option ℕ) → enter_after k (moved_state mv m s) (mv.spot (function_at m s.top.func) from) label (in_entry o) ≡ moved_state mv m (enter_after g s from label (in_entry o))
  enter_after_moved s room from label found (Some n) =
      let block = sym (moves s.top.func).entry in
      λ i. record (moved_state mv m s) { top = record (moved_activation mv m s.top) { block = block i; at = n; mode = Mode.Entering (mv.spot (function_at m s.top.func) from) label } }
  enter_after_moved s room from label found None =
      enters_direct mv kinds m layouts answers (at_point (with_mode s Mode.Resumed) (record { block = from; at = 0 })) (moves s.top.func) (names s.top.func).phis room label label found

  pub continue_moved : (s : State) (i : ℕ) (x : Instance) (suspend : Point) (values others : Env) (label : ℕ) → IsFound x.coroutine label → continue_framed k (moved_state mv m s) i (moved_instance mv m x) (moved_point mv (function_at m x.coroutine) suspend) others label ≡ moved_state mv m (continue_framed g s i x suspend values label)
  continue_moved s i x suspend values others label found =
      ap (λ (h : Function). on_by h (with_status (moved_state mv m s) i (moved_instance mv m x) Status.Running) (reentry_values h address)) (function_moved mv kinds m x.coroutine)
      ∙ ap (λ (t : State). on_by (mv.to f) t (reentry_values (mv.to f) address)) (with_instance_moved mv m s i (record x { status = Status.Running }))
      ∙ ap (λ (e : Env). on_by (mv.to f) (moved_state mv m run) e) (reentry_moved x.coroutine address)
      ∙ ap (enter_after k (moved_state mv m t) (mv.spot f suspend.block) label) ((moves x.coroutine).allocas 0)
      ∙ enter_after_moved t (reentry_length f address) suspend.block label found (alloca_of (slice_get f.blocks 0) 0)
    where
      f : Function
      f = function_at m x.coroutine

      address : Value
      address = frame_address_of x

      on_by : Function → State → Env → State
      on_by h t e = enter_after k (push t (resumed i (moved_instance mv m x) (moved_point mv (function_at m x.coroutine) suspend) e)) (mv.spot (function_at m x.coroutine) suspend.block) label (alloca_from h 0)

      run : State
      run = with_status s i x Status.Running

      t : State
      t = push (with_status s i x Status.Running) (resumed i x suspend (reentry_values (function_at m x.coroutine) (frame_address_of x)))

  -- ---- slots

  pub slot_moved : (s : State) (slot : Slot) → length s.top.values ≡ length (function_at m s.top.func).names → (mode : Mode) → EntersBy mv m s.top.func s.top.instance s.top.result mode → framed_slot k (moved_state mv m s) slot (moved_mode mv (function_at m s.top.func) mode) ≡ moved_state mv m (framed_slot g s slot mode)
  slot_moved s slot room (Mode.Entering from label) h =
      ap (λ (x : Function). enter_after k (moved_state mv m t) (mv.spot (function_at m s.top.func) from) label (alloca_from x s.top.at)) (function_moved mv kinds m s.top.func)
      ∙ ap (enter_after k (moved_state mv m t) (mv.spot (function_at m s.top.func) from) label) ((moves s.top.func).allocas s.top.at)
      ∙ enter_after_moved t room from label h.found (alloca_of (slice_get (function_at m s.top.func).blocks 0) s.top.at)
    where
      t : State
      t = with_slots s (slot ∷ s.top.slots)
  slot_moved s slot room Mode.Plain h = refl
  slot_moved s slot room Mode.Ramp h = refl
  slot_moved s slot room Mode.Resumed h = refl
  slot_moved s slot room (Mode.GivenRamp v) h = refl

  -- ---- begin

  slots_moved : (r : List ℕ) (i : ℕ) (x : Instance) (s : State) (slots : List Slot) → with_new_slots r (Some (i, moved_instance mv m x)) (moved_state mv m s) slots ≡ moved_state mv m (with_new_slots r (Some (i, x)) s slots)
  slots_moved r i x s slots =
      ap (λ (t : State). with_slots t (filter (is_among r) slots ++ s.top.slots))
      (with_instance_moved mv m s i (record x { slots = filter (λ (slot : Slot). not (is_among r slot)) slots ++ x.slots }))

  begun_moved : (s : State) (block start : ℕ) → begun k.given (moved_state mv m s) block start ≡ moved_state mv m (begun g.given s block start)
  begun_moved s block start =
      ap (λ (y : Facts). by_slots y.ramp_slots) (facts_moved mv kinds m s.top.func)
      ∙ ap by_slots (moves s.top.func).slots
      ∙ (λ j. with_new_slots ramp (Some (count j, x)) (record (moved_state mv m s) { instances = more j; top = record (moved_activation mv m s.top) { instance = Some (count j); slots = [] } }) s.top.slots)
      ∙ slots_moved ramp (length s.instances) x t s.top.slots
      ∙ ap (λ (y : Facts). moved_state mv m (with_new_slots y.ramp_slots (Some (length s.instances, x)) t s.top.slots)) (sym (facts_are m s.top.func))
    where
      x : Instance
      x = new_instance s.top.func block start

      ramp : List ℕ
      ramp = (framed_facts (function_at m s.top.func)).ramp_slots

      count : length (map (moved_instance mv m) s.instances) ≡ length s.instances
      count = length-map s.instances (moved_instance mv m)

      more : map (moved_instance mv m) s.instances ++ new_instance s.top.func block start ∷ [] ≡ map (moved_instance mv m) (s.instances ++ new_instance s.top.func block start ∷ [])
      more = sym (map-append (moved_instance mv m) s.instances (new_instance s.top.func block start ∷ []))

      t : State
      t = record s { instances = s.instances ++ new_instance s.top.func block start ∷ []; top = record s.top { instance = Some (length s.instances); slots = [] } }

      u : State
      u = record (moved_state mv m s) { instances = map (moved_instance mv m) s.instances ++ new_instance s.top.func block start ∷ []; top = record (moved_activation mv m s.top) { instance = Some (length (map (moved_instance mv m) s.instances)); slots = [] } }

      by_slots : List ℕ → State
      by_slots r = with_new_slots r (Some (length (map (moved_instance mv m) s.instances), new_instance s.top.func block start)) u s.top.slots

  -- begin in a block, which gives a value
  begin_gives : (s : State) (result : Option ℕ) → IsNamedResult (length s.top.values) result → (mem v : Value) (kind : Kind) → and_then (begin_at k.given (moved_state mv m s) mem kind) (λ (u : State). Ok (gives u result v)) ≡ moved_result mv m (and_then (begin_at g.given s mem kind) (λ (u : State). Ok (gives u result v)))
  begin_gives s result named mem v kind = owned (own s.world.memory mem (own_frame g.given s).size kind)
    where
      there : (memory : List MemoryBlock) (o : Option ℕ) → and_then (and_then (found Cause.Begin o) (λ (b : ℕ). Ok (begun k.given (with_memory (moved_state mv m s) memory) b 0))) (λ (u : State). Ok (gives u result v)) ≡ moved_result mv m (and_then (and_then (found Cause.Begin o) (λ (b : ℕ). Ok (begun g.given (with_memory s memory) b 0))) (λ (u : State). Ok (gives u result v)))
      there memory None = refl
      there memory (Some b) =
          ap (λ (u : State). Ok (gives u result v)) (begun_moved (with_memory s memory) b 0)
          ∙ ap Ok (gives_moved mv m (begun g.given (with_memory s memory) b 0) result v named)

      owned : (r : Result (List MemoryBlock) Cause) → and_then (and_then r (λ (memory : List MemoryBlock). and_then (found Cause.Begin (block_of mem)) (λ (b : ℕ). Ok (begun k.given (with_memory (moved_state mv m s) memory) b 0)))) (λ (u : State). Ok (gives u result v)) ≡ moved_result mv m (and_then (and_then r (λ (memory : List MemoryBlock). and_then (found Cause.Begin (block_of mem)) (λ (b : ℕ). Ok (begun g.given (with_memory s memory) b 0)))) (λ (u : State). Ok (gives u result v)))
      owned (Err cause) = refl
      owned (Ok memory) = there memory (block_of mem)

  begin_plain : (s : State) (result : Option ℕ) → IsNamedResult (length s.top.values) result → (mem : Value) → begin k.given (moved_state mv m s) result mem ≡ moved_result mv m (begin g.given s result mem)
  begin_plain s result named mem = on (is_none s.top.instance)
    where
      on : (b : Bool) → and_then (ok_if b Cause.Begin (moved_state mv m s)) (λ (t : State). and_then (begin_at k.given t mem Kind.Allocator) (λ (u : State). Ok (gives u result mem))) ≡ moved_result mv m (and_then (ok_if b Cause.Begin s) (λ (t : State). and_then (begin_at g.given t mem Kind.Allocator) (λ (u : State). Ok (gives u result mem))))
      on true = begin_gives s result named mem mem Kind.Allocator
      on false = refl

  all_finished : (xs : List Instance) (b o : ℕ) → list_all (λ x. not (began_at b o x) || is_finished x.status) (map (moved_instance mv m) xs) ≡ list_all (λ x. not (began_at b o x) || is_finished x.status) xs
  all_finished [] b o = refl
  all_finished (x ∷ xs) b o =
      let first = finished_moved mv m (function_at m x.coroutine) x.status in
      let rest = all_finished xs b o in
      λ i. (not (began_at b o x) || first i) && rest i

  finished_at_moved : (xs : List Instance) (v : Value) → are_finished_at (map (moved_instance mv m) xs) v ≡ are_finished_at xs v
  finished_at_moved xs (Value.Ptr (Pointer.At b o)) = all_finished xs b o.bits
  finished_at_moved xs (Value.Ptr Pointer.Null) = refl
  finished_at_moved xs (Value.Ptr (Pointer.Func f)) = refl
  finished_at_moved xs Value.Poison = refl
  finished_at_moved xs (Value.Int x) = refl

  room_moved : (offset size : ℕ) (o : Option (ℕ × Instance)) → has_room k offset size (with_number mv m o) ≡ has_room g offset size o
  room_moved offset size None = refl
  room_moved offset size (Some (i, x)) = ap (λ (b : Bool). not b && list_any (is_room_at x.start offset size) (layout_of g.layouts x.coroutine).fields) (over_moved mv m x)

  -- a frame around an address has a field there as before
  room_same : (s : State) (b offset : ℕ) → has_room k offset (own_frame k.given (moved_state mv m s)).size (frame_around k (moved_state mv m s).instances b offset) ≡ has_room g offset (own_frame g.given s).size (frame_around g s.instances b offset)
  room_same s b offset =
      ap (has_room k offset (own_frame g.given s).size) (last_found mv m (λ x. covers g b offset x && not (began_at b offset x)) (λ x. covers k b offset x && not (began_at b offset x)) (λ x. refl) s.instances)
      ∙ room_moved offset (own_frame g.given s).size (frame_around g s.instances b offset)

  given_gives : (s : State) (result : Option ℕ) → IsNamedResult (length s.top.values) result → (v w : Value) → and_then (begin_given_at k (moved_state mv m s) v) (λ (u : State). Ok (gives u result w)) ≡ moved_result mv m (and_then (begin_given_at g s v) (λ (u : State). Ok (gives u result w)))
  given_gives s result named (Value.Ptr (Pointer.At b o)) w =
      ap (λ (t : Bool). and_then (if t then begin_in_frame k (moved_state mv m s) b o else begin_in_block k (moved_state mv m s) b o) (λ (u : State). Ok (gives u result w))) (room_same s b o.bits)
      ∙ on (has_room g o.bits (own_frame g.given s).size (frame_around g s.instances b o.bits))
    where
      in_block : (t : Bool) → and_then (and_then (ok_if t Cause.Begin (moved_state mv m s)) (λ (u : State). begin_at k.given u (Value.Ptr (Pointer.At b o)) Kind.Stack)) (λ (u : State). Ok (gives u result w)) ≡ moved_result mv m (and_then (and_then (ok_if t Cause.Begin s) (λ (u : State). begin_at g.given u (Value.Ptr (Pointer.At b o)) Kind.Stack)) (λ (u : State). Ok (gives u result w)))
      in_block true = begin_gives s result named (Value.Ptr (Pointer.At b o)) w Kind.Stack
      in_block false = refl

      in_frame : (t : Bool) → and_then (ok_if t Cause.Begin (begun k.given (moved_state mv m s) b o.bits)) (λ (u : State). Ok (gives u result w)) ≡ moved_result mv m (and_then (ok_if t Cause.Begin (begun g.given s b o.bits)) (λ (u : State). Ok (gives u result w)))
      in_frame true = ap (λ (u : State). Ok (gives u result w)) (begun_moved s b o.bits) ∙ ap Ok (gives_moved mv m (begun g.given s b o.bits) result w named)
      in_frame false = refl

      on : (t : Bool) → and_then (if t then begin_in_frame k (moved_state mv m s) b o else begin_in_block k (moved_state mv m s) b o) (λ (u : State). Ok (gives u result w)) ≡ moved_result mv m (and_then (if t then begin_in_frame g s b o else begin_in_block g s b o) (λ (u : State). Ok (gives u result w)))
      on true = in_frame (is_live_at s.world.memory b)
      on false = in_block ((o.bits == 0) && has_size s.world.memory b (own_frame g.given s).size)
  given_gives s result named (Value.Ptr Pointer.Null) w = refl
  given_gives s result named (Value.Ptr (Pointer.Func f)) w = refl
  given_gives s result named Value.Poison w = refl
  given_gives s result named (Value.Int x) w = refl

  begin_by_given : (s : State) (result : Option ℕ) → IsNamedResult (length s.top.values) result → (v : Value) → begin_given k (moved_state mv m s) result v ≡ moved_result mv m (begin_given g s result v)
  begin_by_given s result named v =
      ap (λ (b : Bool). and_then (ok_if (is_none s.top.instance && b) Cause.Begin (moved_state mv m s)) (λ (t : State). and_then (begin_given_at k t v) (λ (u : State). Ok (gives u result v)))) (finished_at_moved s.instances v)
      ∙ on (is_none s.top.instance && are_finished_at s.instances v)
    where
      on : (b : Bool) → and_then (ok_if b Cause.Begin (moved_state mv m s)) (λ (t : State). and_then (begin_given_at k t v) (λ (u : State). Ok (gives u result v))) ≡ moved_result mv m (and_then (ok_if b Cause.Begin s) (λ (t : State). and_then (begin_given_at g t v) (λ (u : State). Ok (gives u result v))))
      on true = given_gives s result named v v
      on false = refl

  pub begin_moved : (s : State) (result : Option ℕ) → IsNamedResult (length s.top.values) result → (mem : Value) (mode : Mode) → framed_begin k (moved_state mv m s) result mem (moved_mode mv (function_at m s.top.func) mode) ≡ moved_result mv m (framed_begin g s result mem mode)
  begin_moved s result named mem (Mode.GivenRamp v) = begin_by_given s result named v
  begin_moved s result named mem Mode.Plain = begin_plain s result named mem
  begin_moved s result named mem Mode.Ramp = begin_plain s result named mem
  begin_moved s result named mem Mode.Resumed = begin_plain s result named mem
  begin_moved s result named mem (Mode.Entering from label) = begin_plain s result named mem

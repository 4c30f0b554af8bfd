-- In framed runs names of allocas are set by their allocas alone.
use Rattle.std.proofs.Common.{◌≡◌, ℕ, Bool, true, false, List, ◌∷◌, length, Option, Some, None, Result}
use Rattle.std.proofs.Common.{Ok, Err, refl, sym, ap, ◌∙◌, subst, replicate}
use Rattle.std.specs.Prelude.{if◌then◌else◌, is_none, slice_get, ◌&&◌, ◌==◌}
use Rattle.compiler.specs.ir_base.declared.cause.Cause.{Cause}
use Rattle.compiler.specs.ir_model.Names.{function_at, position_of}
use Rattle.compiler.specs.ir_model.declared.module.Function.{Function}
use Rattle.compiler.specs.ir_model.Ty.{Ty}
use Rattle.compiler.specs.ir_model.declared.instr.Instr.{Instr}
use Rattle.compiler.specs.ir_paths.declared.point.Point.{Point}
use Rattle.compiler_theorem.proofs.temporaries.Parts.{no_block, unset}
use Rattle.compiler_theorem.specs.temporaries.Uses.{AreMarkersNamedOn, IsGivenApart, KeepsNamed, StaysNamed, Use}
use Rattle.pass_frames_meaning.proofs.led.Begins.{has_begin}
use Rattle.pass_frames_meaning.specs.Led.{IsBegin}
use Rattle.pass_frames_meaning.proofs.pass_renewed_proof.Sets.{result_elsewhere}
use Rattle.pass_frames_meaning.specs.pass_renewed_proof.SlotRules.{IsMadeOnce}
use Rattle.pass_frames_meaning.specs.pass_renewed_proof.Steps.{given_at}
use Rattle.compiler.specs.run_framed.Framed.{FramedGiven, alloca_from, are_finished_at, begin_given_at, begin_in_block}
use Rattle.compiler.specs.run_framed.Framed.{begin_in_frame, begin_name, continue_framed, enter_after, frame_around}
use Rattle.compiler.specs.run_framed.Framed.{framed_begin, framed_slot, given_call, has_room, has_size, reentry_values}
use Rattle.pass_frames_meaning.proofs.run_hooks.Keeping.{framed_keeps}
use Rattle.pass_frames_meaning.proofs.run_hooks.LeftKeeping.{framed_keeps_last}
use Rattle.pass_frames_meaning.proofs.run_hooks.alive.Changes.{phis_other}
use Rattle.pass_frames_meaning.specs.run_hooks.Meanings.{framed_hooks}
use Rattle.compiler.specs.run_memory.Memory.{own}
use Rattle.compiler.specs.run_memory.declared.block.Kind.{Kind}
use Rattle.compiler.specs.run_memory.declared.block.MemoryBlock.{MemoryBlock}
use Rattle.compiler.specs.run_memory.declared.pointer.Pointer.{Pointer}
use Rattle.compiler.specs.run_memory.declared.pointer.Value.{Value}
use Rattle.compiler.specs.run_source.Source.{begin, begin_at, begun, is_live_at, push, resumed}
use Rattle.compiler.specs.run_source.State.{frame_address_of, function_of, gives, own_frame, with_memory, with_slots}
use Rattle.compiler.specs.run_source.State.{with_status}
use Rattle.compiler.specs.run_source.declared.state.Instance.{Instance}
use Rattle.compiler.specs.run_source.declared.state.Mode.{Mode}
use Rattle.compiler.specs.run_source.declared.state.State.{State}
use Rattle.compiler.specs.run_source.declared.state.Status.{Status}
use Rattle.compiler.specs.run_source_tables.Given.{Given}
use Rattle.compiler.specs.run_step.Results.{and_then, found, ok_if}
use Rattle.compiler.specs.run_step.Step.{AtInstr, block_of, fetch, label_of, phis_of}
use Rattle.compiler.specs.run_step.Values.{Env, value_in}
use Rattle.compiler.specs.run_step.declared.world.Slot.{Slot}

-- begin gives no name of an alloca
alloca_begins : (v align : ℕ) (ty : Ty) → IsBegin (Instr.Alloca v ty align) → ⊥
alloca_begins v align ty h = h

begin_apart : (f : Function) (v : ℕ) → IsMadeOnce f v → begin_name f ≡ Some v → ⊥
begin_apart f v made e =
    let b = has_begin f v e in
    let p = made.alone b.point.block b.point.at (ap given_at b.stands ∙ b.given) in
    let there : fetch f b.point.block b.point.at ≡ fetch f 0 made.at = λ j. fetch f (p.0 j) (p.1 j) in
    let both : AtInstr b.instr ≡ AtInstr (Instr.Alloca v made.ty made.align) = sym b.stands ∙ there ∙ made.stands in
    let same : b.instr ≡ Instr.Alloca v made.ty made.align = cc in
    alloca_begins v made.align made.ty (subst IsBegin same b.begins)

reentry_poison : (f : Function) (frame : Value) (v : ℕ) → IsMadeOnce f v
    → value_in (reentry_values f frame) v ≡ Value.Poison
reentry_poison f frame v made =
    result_elsewhere (replicate (length f.names) None) (begin_name f) v frame (begin_apart f v made)
    ∙ unset (length f.names) v

-- ---- entry of a label

after_func : (g : FramedGiven) (s : State) (from label : ℕ) (o : Option Point)
    → (enter_after g s from label o).top.func ≡ s.top.func
after_func g s from label (Some p) = refl
after_func g s from label None = refl

after_values : (g : FramedGiven) (s : State) (from label : ℕ) (o : Option Point) (v : ℕ)
    → IsMadeOnce (function_of g.given s) v
    → value_in (enter_after g s from label o).top.values v ≡ value_in s.top.values v
after_values g s from label (Some p) v made = refl
after_values g s from label None v made =
    let f = function_of g.given s in
    phis_other g.given.code s.top.values (label_of (slice_get f.blocks from))
    (phis_of (slice_get f.blocks (position_of f label))) s.top.values v (made.no_phi (position_of f label))

goes_unnamed : (g : FramedGiven) (s : State) (i : ℕ) (x : Instance) (suspend : Point) (values : Env) (label v b : ℕ)
    → IsMadeOnce (function_of g.given (continue_framed g s i x suspend values label)) v
    → block_of (value_in (continue_framed g s i x suspend values label).top.values v) ≡ Some b → ⊥
goes_unnamed g s i x suspend values label v b made leads =
    let f = function_at g.given.code x.coroutine in
    let z = push (with_status s i x Status.Running) (resumed i x suspend (reentry_values f (frame_address_of x))) in
    let here : IsMadeOnce f v =
    subst (λ (k : ℕ). IsMadeOnce (function_at g.given.code k) v) (after_func g z suspend.block label (alloca_from f 0))
    made in
    no_block _ b (after_values g z suspend.block label (alloca_from f 0) v here
    ∙ reentry_poison f (frame_address_of x) v here) leads

-- ---- slots

place_func : (g : FramedGiven) (s : State) (slot : Slot) (mode : Mode)
    → (framed_slot g s slot mode).top.func ≡ s.top.func
place_func g s slot (Mode.Entering from label) =
    after_func g (with_slots s (slot ∷ s.top.slots)) from label (alloca_from (function_of g.given s) s.top.at)
place_func g s slot Mode.Plain = refl
place_func g s slot Mode.Ramp = refl
place_func g s slot Mode.Resumed = refl
place_func g s slot (Mode.GivenRamp frame) = refl

place_values : (g : FramedGiven) (s : State) (slot : Slot) (mode : Mode) (v : ℕ) → IsMadeOnce (function_of g.given s) v
    → value_in (framed_slot g s slot mode).top.values v ≡ value_in s.top.values v
place_values g s slot (Mode.Entering from label) v made =
    after_values g (with_slots s (slot ∷ s.top.slots)) from label (alloca_from (function_of g.given s) s.top.at) v made
place_values g s slot Mode.Plain v made = refl
place_values g s slot Mode.Ramp v made = refl
place_values g s slot Mode.Resumed v made = refl
place_values g s slot (Mode.GivenRamp frame) v made = refl

-- ---- begin

module _ (uses : ℕ → Use) (result : Option ℕ) where
  begun_named : (g : Given) (s : State) (memory : List MemoryBlock) (b from : ℕ) (mem : Value)
      → IsGivenApart (function_of g s) result → AreMarkersNamedOn g.code uses (s.top ∷ s.below)
      → StaysNamed g.code uses (Ok (gives (begun g (with_memory s memory) b from) result mem))
  begun_named g s memory b from mem free k = (
    λ v n made marked leads.
        k.0 v n made marked (ap block_of (sym (result_elsewhere s.top.values result v mem (free v made))) ∙ leads),
    k.1,
  )

  begin_at_named : (g : Given) (s : State) (mem : Value) (kind : Kind)
      → IsGivenApart (function_of g s) result → AreMarkersNamedOn g.code uses (s.top ∷ s.below)
      → StaysNamed g.code uses (and_then (begin_at g s mem kind) (λ z. Ok (gives z result mem)))
  begin_at_named g s mem kind free k = by (own s.world.memory mem (own_frame g s).size kind)
    where
      last : (memory : List MemoryBlock) (o : Option ℕ)
          → StaysNamed g.code uses (and_then (and_then (found Cause.Begin o)
          (λ b. Ok (begun g (with_memory s memory) b 0))) (λ t. Ok (gives t result mem)))
      last memory None = tt
      last memory (Some b) = begun_named g s memory b 0 mem free k

      by : (r : Result (List MemoryBlock) Cause)
          → StaysNamed g.code uses (and_then (and_then r (λ memory.
          and_then (found Cause.Begin (block_of mem)) (λ b. Ok (begun g (with_memory s memory) b 0))))
          (λ t. Ok (gives t result mem)))
      by (Err cause) = tt
      by (Ok memory) = last memory (block_of mem)

  begin_named : (g : Given) (s : State) (mem : Value) → IsGivenApart (function_of g s) result
      → AreMarkersNamedOn g.code uses (s.top ∷ s.below) → StaysNamed g.code uses (begin g s result mem)
  begin_named g s mem free k = on (is_none s.top.instance)
    where
      on : (b : Bool) → StaysNamed g.code uses (and_then (ok_if b Cause.Begin s)
          (λ z. and_then (begin_at g z mem Kind.Allocator) (λ t. Ok (gives t result mem))))
      on true = begin_at_named g s mem Kind.Allocator free k
      on false = tt

  given_named : (g : FramedGiven) (s : State) (frame : Value) → IsGivenApart (function_of g.given s) result
      → AreMarkersNamedOn g.given.code uses (s.top ∷ s.below)
      → StaysNamed g.given.code uses (and_then (begin_given_at g s frame) (λ z. Ok (gives z result frame)))
  given_named g s (Value.Ptr (Pointer.At b o)) free k =
      on (has_room g o.bits (own_frame g.given s).size (frame_around g s.instances b o.bits))
    where
      in_block : (c : Bool) → StaysNamed g.given.code uses
          (and_then (and_then (ok_if c Cause.Begin s)
          (λ z. begin_at g.given z (Value.Ptr (Pointer.At b o)) Kind.Stack))
          (λ z. Ok (gives z result (Value.Ptr (Pointer.At b o)))))
      in_block true = begin_at_named g.given s (Value.Ptr (Pointer.At b o)) Kind.Stack free k
      in_block false = tt

      in_frame : (c : Bool) → StaysNamed g.given.code uses
          (and_then (ok_if c Cause.Begin (begun g.given s b o.bits))
          (λ z. Ok (gives z result (Value.Ptr (Pointer.At b o)))))
      in_frame true = begun_named g.given s s.world.memory b o.bits (Value.Ptr (Pointer.At b o)) free k
      in_frame false = tt

      on : (c : Bool) → StaysNamed g.given.code uses
          (and_then (if c then begin_in_frame g s b o else begin_in_block g s b o)
          (λ z. Ok (gives z result (Value.Ptr (Pointer.At b o)))))
      on true = in_frame (is_live_at s.world.memory b)
      on false = in_block ((o.bits == 0) && has_size s.world.memory b (own_frame g.given s).size)
  given_named g s _ free k = tt

  framed_begin_named : (g : FramedGiven) (s : State) (memory : Value) (mode : Mode)
      → IsGivenApart (function_of g.given s) result → AreMarkersNamedOn g.given.code uses (s.top ∷ s.below)
      → StaysNamed g.given.code uses (framed_begin g s result memory mode)
  framed_begin_named g s memory (Mode.GivenRamp frame) free k =
      on (is_none s.top.instance && are_finished_at s.instances frame)
    where
      on : (b : Bool) → StaysNamed g.given.code uses
          (and_then (ok_if b Cause.Begin s)
          (λ z. and_then (begin_given_at g z frame) (λ z. Ok (gives z result frame))))
      on true = given_named g s frame free k
      on false = tt
  framed_begin_named g s memory _ free k = begin_named g.given s memory free k

pub framed_keeps_named : (g : FramedGiven)
    → ((s : State) (block at : ℕ) → given_call g s (fetch (function_of g.given s) block at) ≡ None)
    → KeepsNamed (framed_hooks g)
framed_keeps_named g none = record {
  last = framed_keeps_last g;
  reached = framed_keeps g;
  go_on = goes_unnamed g;
  func = λ s slot. place_func g s slot s.top.mode;
  values = λ s slot v made. place_values g s slot s.top.mode v made;
  start = λ uses s result memory free k. framed_begin_named uses result g s memory s.top.mode free k;
  ungiven = none;
}

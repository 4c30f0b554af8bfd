-- What holds of handles of sites in each state of a run in which callees are given frames: an instance whose frame lies
-- in an alloca of its caller is destroyed before the caller returns.
use Rattle.std.specs.Prelude.{◌≡◌, ◌⊎◌, ◌+◌, ◌<◌, ℕ, Bool, true, false, List, [], ◌∷◌, slice_get, Some, None, Option, ◌&&◌, ◌==◌}
use Rattle.std.specs.List.{Contains}
use Rattle.std.specs.Option.{option_map_or}
use Rattle.elide_sites.specs.Destroyed.{IsOn}
use Rattle.elide_sites.specs.Sites.{destroys_of}
use Rattle.elide_sites.specs.declared.destroyed.Way.{Way}
use Rattle.pass_elide.specs.declared.given.GivenFrame.{GivenFrame}
use Rattle.pass_elide_proof.specs.Elision.{Elision, function_in, rooms}
use Rattle.pass_elide_proof.specs.Places.{front_at, instrs_of, name_at, room_at}
use Rattle.pass_proofs.specs.flow_points.Reached.{IsReached}
use Rattle.pass_proofs.specs.ir_base.declared.outcome.Word.{Word}
use Rattle.pass_proofs.specs.ir_model.Names.{position_of}
use Rattle.pass_proofs.specs.ir_model.declared.instr.Instr.{Instr}
use Rattle.pass_proofs.specs.ir_parts.Contents.{result_of}
use Rattle.pass_proofs.specs.ir_paths.declared.point.Point.{Point}
use Rattle.pass_proofs.specs.run_framed.Framed.{FramedGiven, framed_state_at, is_given}
use Rattle.pass_proofs.specs.run_memory.Memory.{is_live, same_kind}
use Rattle.pass_proofs.specs.run_memory.declared.block.Kind.{Kind}
use Rattle.pass_proofs.specs.run_memory.declared.block.MemoryBlock.{MemoryBlock}
use Rattle.pass_proofs.specs.run_memory.declared.pointer.Value.{Value}
use Rattle.pass_proofs.specs.run_source.State.{began_at, frame_address_of, is_finished}
use Rattle.pass_proofs.specs.run_source.declared.state.Activation.{Activation}
use Rattle.pass_proofs.specs.run_source.declared.state.Instance.{Instance}
use Rattle.pass_proofs.specs.run_source.declared.state.Mode.{Mode}
use Rattle.pass_proofs.specs.run_source.declared.state.State.{State}
use Rattle.pass_proofs.specs.run_step.Values.{pointer_to, value_in}

-- ---- sites

-- a call in a function that is no coroutine gives its callee an alloca of this name
pub record IsSiteOf (e : Elision) (func : ℕ) (call : Point) (i : Instr) (name : ℕ) : Type 0 where
  pub plain : (function_in e func).coroutine ≡ false
  pub there : slice_get (instrs_of (function_in e func) call.block) call.at ≡ Some i
  pub size : ℕ
  pub align : ℕ
  pub room : room_at (rooms e func) (function_in e func) call.block call.at i ≡ Some (GivenFrame.Alloca size align)
  pub is_name : name ≡ name_at (rooms e func) (function_in e func) call.block call.at

-- the point behind a call
abbrev pub behind : Point → Point
behind p = record { block = p.block; at = p.at + 1 }

-- an activation of the run that gives frames stands at the front of a point
pub record StandsAt (e : Elision) (c : Activation) (p : Point) : Type 0 where
  pub block : c.block ≡ p.block
  pub at : c.at ≡ front_at (rooms e c.func) (function_in e c.func) p.block p.at

-- ---- an activation that destroys an instance

-- It was entered by a destroy edge, hasn't left, and has yet to pass a coro.free or has released the instance. So at the
-- end it makes the instance Finished.
pub record IsDestroying (e : Elision) (y : Instance) (number : ℕ) (d : Activation) : Type 0 where
  pub func : d.func ≡ y.coroutine
  pub instance : d.instance ≡ Some number
  pub stays : d.has_left ≡ false
  pub block : ℕ
  pub entered : ((d.mode ≡ Mode.Resumed) × (d.block ≡ block))
      ⊎ ((from label : ℕ) × (d.mode ≡ Mode.Entering from label))
  pub way : d.mode ≡ Mode.Resumed → IsOn Way.Destroyed (function_in e y.coroutine) block
  pub ahead : (from label : ℕ) → d.mode ≡ Mode.Entering from label
      → IsOn Way.Destroyed (function_in e y.coroutine) (position_of (function_in e y.coroutine) label)

-- ---- an instance whose frame lies in an alloca of an activation

-- The caller waits for the ramp; or its handle has the address of the frame, and no destroy of the handle has been
-- passed since the call; or the caller waits for an activation that destroys the instance.
pub data Holds (e : Elision) (y : Instance) (number : ℕ) (call : Point) (i : Instr) (c : Activation)
    : List Activation → Type 0 where
  Calling : (d : Activation) (above : List Activation) → StandsAt e c (behind call) → (d.func ≡ y.coroutine)
      → (d.result ≡ result_of i) → (d.instance ≡ Some number)
      → ((frame : Value) × (d.mode ≡ Mode.GivenRamp frame)) → Holds e y number call i c (d ∷ above)
  Held : (p : Point) (above : List Activation) → StandsAt e c p
      → IsReached (function_in e c.func) (call ∷ []) (destroys_of (function_in e c.func) (result_of i)) p
      → ((v : ℕ) → result_of i ≡ Some v → value_in c.values v ≡ frame_address_of y) → Holds e y number call i c above
  Destroying : (p : Point) (v : ℕ) (d : Activation) (above : List Activation) → StandsAt e c p
      → (result_of i ≡ Some v) → IsDestroying e y number d → Holds e y number call i c (d ∷ above)

-- The activation that called it by a site, with those above it, the nearest first. Its alloca has the frame.
pub record HasCaller (e : Elision) (memory : List MemoryBlock) (y : Instance) (number : ℕ) (c : Activation)
    (above : List Activation) : Type 0 where
  pub call : Point
  pub instr : Instr
  pub name : ℕ
  pub site : IsSiteOf e c.func call instr name
  pub start : y.start ≡ 0
  pub address : value_in c.values name ≡ pointer_to y.block
  pub slot : Contains c.slots (record { alloca = name; block = y.block })
  pub lives : (z : MemoryBlock) × (slice_get memory y.block ≡ Some z) × (is_live z.life ≡ true)
  pub holds : Holds e y number call instr c above

-- some activation of the stack is; those above it are given, the nearest first
pub data IsCalledIn (e : Elision) (memory : List MemoryBlock) (y : Instance) (number : ℕ) : List Activation
    → List Activation → Type 0 where
  Here : (c : Activation) (above below : List Activation) → HasCaller e memory y number c above
      → IsCalledIn e memory y number above (c ∷ below)
  Below : (c : Activation) (above below : List Activation) → IsCalledIn e memory y number (c ∷ above) below
      → IsCalledIn e memory y number above (c ∷ below)

-- ---- ramps that haven't begun

-- A ramp that was given its frame has its caller below it, whose alloca's address it was given. All that began there
-- is Finished.
pub record IsGivenBy (e : Elision) (instances : List Instance) (frame : Value) (c b : Activation) : Type 0 where
  pub call : Point
  pub instr : Instr
  pub name : ℕ
  pub block : ℕ
  pub site : IsSiteOf e b.func call instr name
  pub stands : StandsAt e b (behind call)
  pub result : c.result ≡ result_of instr
  pub address : value_in b.values name ≡ pointer_to block
  pub is : frame ≡ pointer_to block
  pub slot : Contains b.slots (record { alloca = name; block = block })
  pub over : (i : ℕ) (y : Instance) → slice_get instances i ≡ Some y → y.block ≡ block → is_finished y.status ≡ true

-- so it is of each in the stack
abbrev pub AreGivenBy : Elision → List Instance → List Activation → Type 0
AreGivenBy e instances [] = Unit {0}
AreGivenBy e instances (c ∷ []) = (frame : Value) → c.mode ≡ Mode.GivenRamp frame → ⊥
AreGivenBy e instances (c ∷ b ∷ below) =
    ((frame : Value) → c.mode ≡ Mode.GivenRamp frame → c.instance ≡ None → IsGivenBy e instances frame c b)
    × AreGivenBy e instances (b ∷ below)

-- ---- states

-- Each instance whose frame was given and that isn't Finished has its caller, and it is the last that began there.
pub record HaveCallers (e : Elision) (t : State) : Type 0 where
  pub each : (number : ℕ) (y : Instance) → slice_get t.instances number ≡ Some y
      → is_given t.world.memory y ≡ true → is_finished y.status ≡ false
      → IsCalledIn e t.world.memory y number [] (t.top ∷ t.below)
  pub last : (number later : ℕ) (y z : Instance) → slice_get t.instances number ≡ Some y
      → slice_get t.instances later ≡ Some z → number < later → is_given t.world.memory y ≡ true
      → began_at y.block y.start z ≡ true → is_finished y.status ≡ true
  pub ramps : AreGivenBy e t.instances (t.top ∷ t.below)

-- ---- what it gives, as splitting asks for it

-- the frame begins an allocator's block; any other frame was given
abbrev pub begins_heap : List MemoryBlock → Instance → Bool
begins_heap m x = option_map_or (λ y. same_kind y.kind Kind.Allocator) (slice_get m x.block) false && (x.start == 0)

abbrev pub lives_in : Option MemoryBlock → Bool
lives_in o = option_map_or (λ y. is_live y.life) o false

-- In each state of a run the block of a frame that was given lives while its instance isn't Finished.
abbrev pub DoGivenFramesLive : FramedGiven → ℕ → List Word → Type 0
DoGivenFramesLive g entry args = (n i : ℕ) (x : Instance)
    → slice_get (framed_state_at g entry args n).instances i ≡ Some x
    → begins_heap (framed_state_at g entry args n).world.memory x ≡ false → is_finished x.status ≡ false
    → lives_in (slice_get (framed_state_at g entry args n).world.memory x.block) ≡ true

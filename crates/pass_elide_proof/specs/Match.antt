-- The states that stand beside each other where callees are given frames: one of the framed form, and one of it with its
-- sites elided.
use Rattle.std.specs.Prelude.{◌≡◌, ◌≢◌, ◌<◌, ◌≤◌, ◌+◌, ◌⊎◌, ℕ, Bool, true, false, List, [], ◌∷◌, ◌++◌, length, map, not, slice_get, Some, None, Option, option_map, if◌then◌else◌}
use Rattle.std.specs.List.{Contains}
use Rattle.std.specs.Option.{option_map_or}
use Rattle.pass_elide_proof.specs.Counts.{capped, counted, given_frames}
use Rattle.pass_elide_proof.specs.Elision.{Elision, Shape, differs_in, elided, framed, function_in, rooms}
use Rattle.pass_elide_proof.specs.Places.{allocas_ahead, front_at, instrs_of, own_at}
use Rattle.pass_proofs.specs.ir_model.Ty.{array, int}
use Rattle.pass_proofs.specs.ir_model.declared.instr.Instr.{Instr}
use Rattle.pass_proofs.specs.ir_model.declared.instr.Terminator.{Terminator}
use Rattle.pass_proofs.specs.ir_model.declared.operand.Operand.{Operand}
use Rattle.pass_proofs.specs.ir_parts.Contents.{result_of}
use Rattle.pass_proofs.specs.ir_paths.declared.point.Point.{Point}
use Rattle.pass_proofs.specs.run_framed.Framed.{allocates, frame_rights, is_given, layout_of}
use Rattle.pass_proofs.specs.run_laws.changed.Changed.{Each}
use Rattle.pass_proofs.specs.run_laws.embedded.Deaths.{moved_slot}
use Rattle.pass_proofs.specs.run_laws.embedded.Making.{whole_home}
use Rattle.pass_proofs.specs.run_laws.memory.Pointers.{Home, IsValue, home_of}
use Rattle.pass_proofs.specs.run_laws.memory.Standing.{blank_block}
use Rattle.pass_proofs.specs.run_laws.transfer.Transfer.{AreOver}
use Rattle.pass_proofs.specs.run_memory.Memory.{is_live}
use Rattle.pass_proofs.specs.run_memory.declared.block.Byte.{Byte}
use Rattle.pass_proofs.specs.run_memory.declared.block.Kind.{Kind}
use Rattle.pass_proofs.specs.run_memory.declared.block.MemoryBlock.{MemoryBlock}
use Rattle.pass_proofs.specs.run_memory.declared.pointer.Pointer.{Pointer}
use Rattle.pass_proofs.specs.run_memory.declared.pointer.Value.{Value}
use Rattle.pass_proofs.specs.run_source.State.{address_in, frame_address_of, is_finished}
use Rattle.pass_proofs.specs.run_source.declared.state.Activation.{Activation}
use Rattle.pass_proofs.specs.run_source.declared.state.Instance.{Instance}
use Rattle.pass_proofs.specs.run_source.declared.state.Mode.{Mode}
use Rattle.pass_proofs.specs.run_source.declared.state.Saved.{Saved}
use Rattle.pass_proofs.specs.run_source.declared.state.State.{State}
use Rattle.pass_proofs.specs.run_source.declared.state.Status.{Status}
use Rattle.pass_proofs.specs.run_step.Step.{AtTerm, fetch}
use Rattle.pass_proofs.specs.run_step.Values.{Env, pointer_to, truth_value, value_in}
use Rattle.pass_proofs.specs.run_step.declared.world.Slot.{Slot}

-- ---- what both runs have

-- the instances and memories of the two
pub record Sides : Type 0 where
  pub first : List Instance
  pub second : List Instance
  pub memory : List MemoryBlock
  pub other : List MemoryBlock

abbrev pub sides : State → State → Sides
sides s t =
    record {
      first = s.instances;
      second = t.instances;
      memory = s.world.memory;
      other = t.world.memory;
    }

-- ---- activations whose frames were given

abbrev pub instance_in : List Instance → Option ℕ → Option Instance
instance_in instances None = None
instance_in instances (Some i) = slice_get instances i

abbrev pub is_given_mode : Mode → Bool
is_given_mode mode = if allocates mode then false else true

-- the ramp was given its frame, or that of its instance was given
abbrev pub was_given : Sides → Activation → Bool
was_given d c = if is_given_mode c.mode then true
    else option_map_or (is_given d.other) (instance_in d.second c.instance) false

-- a given ramp stands beside a ramp; else the mode is the same
pub data AreModes : Mode → Mode → Type 0 where
  Same : (mode : Mode) → allocates mode ≡ true → AreModes mode mode
  Given : (block offset : ℕ) → AreModes Mode.Ramp (Mode.GivenRamp (address_in block offset))

-- the block is no frame that was given in the other run
abbrev pub IsNoGivenFrame : Sides → ℕ → Type 0
IsNoGivenFrame d n =
    (i : ℕ) (x y : Instance) → slice_get d.first i ≡ Some x → slice_get d.second i ≡ Some y
    → is_given d.other y ≡ true → x.block ≢ n

-- ---- places

-- what the instructions before a position of a block have made stands for what those of the other block have
abbrev pub AreMadeAlike : Elision → List Home → Activation → Activation → Type 0
AreMadeAlike e homes a c =
    (k u v : ℕ) (i j : Instr) → k < a.at → slice_get (instrs_of (function_in e a.func) a.block) k ≡ Some i
    → slice_get (instrs_of (function_in e a.func) c.block) k ≡ Some j → result_of i ≡ Some u → result_of j ≡ Some v
    → IsValue homes (value_in a.values u) (value_in c.values v)

-- the branch on what coro.alloc gave, or on a test of what coro.free gave, passes by the block that allocates or frees
pub record Skips (e : Elision) (c : Activation) (v : ℕ) : Type 0 where
  pub need : (e.shape c.func).need v ≡ true → value_in c.values v ≡ truth_value false
  pub tested : (is_eq : Bool) → (e.shape c.func).tested v ≡ Some is_eq → value_in c.values v ≡ truth_value is_eq

-- at the end of a block, whose branch does so
pub record IsAtEnd (e : Elision) (c : Activation) : Type 0 where
  pub at : c.at
      ≡ own_at (rooms e c.func) (function_in e c.func) c.block (length (instrs_of (function_in e c.func) c.block))
  pub skips : (v one other : ℕ)
      → fetch (function_in e c.func) c.block (length (instrs_of (function_in e c.func) c.block))
      ≡ AtTerm (Terminator.Branch (Operand.Local v) one other) → Skips e c v

-- At the front of what stands at the place; or at the end of the block at which it waits while the other allocates or
-- frees; or in the block beside.
pub data IsAt (e : Elision) (homes : List Home) (given : Bool) (a c : Activation) : Type 0 where
  Beside : c.block ≡ a.block → c.at ≡ front_at (rooms e a.func) (function_in e a.func) a.block a.at
      → IsAt e homes given a c
  Waiting : is_given_mode c.mode ≡ true → (e.shape a.func).waits a.block ≡ Some c.block → IsAtEnd e c
      → IsAt e homes given a c
  Freeing : given ≡ true → (e.shape a.func).frees a.block ≡ Some c.block → IsAtEnd e c → IsAt e homes given a c
  Aside : given ≡ true → (e.shape a.func).aside a.block ≡ Some c.block → c.at ≡ a.at → AreMadeAlike e homes a c
      → IsAt e homes given a c

abbrev pub own_point : Elision → ℕ → Point → Point
own_point e func p = record { block = p.block; at = own_at (rooms e func) (function_in e func) p.block p.at }

-- ---- values and slots

-- each name has what stands for its value, but for what differs where the frame was given
pub record AreNamed (e : Elision) (homes : List Home) (given : Bool) (a c : Activation) : Type 0 where
  pub each : (v : ℕ) → differs_in (e.shape a.func) (is_given_mode c.mode) given v ≡ false
      → IsValue homes (value_in a.values v) (value_in c.values v)
  pub room : length a.values ≤ length c.values

-- coro.alloc is true in the one ramp and false in the other
abbrev pub AreAsked : Shape → Activation → Activation → Type 0
AreAsked x a c =
    (v : ℕ) → x.need v ≡ true
    → (value_in a.values v ≡ Value.Poison)
    ⊎ ((value_in a.values v ≡ truth_value true) × (value_in c.values v ≡ truth_value false))

-- coro.free gives the frame's address in the one and null in the other, and a test of it is answered so
pub record AreReleased (x : Shape) (d : Sides) (a c : Activation) : Type 0 where
  pub freed : (v : ℕ) → x.freed v ≡ true
      → (value_in a.values v ≡ Value.Poison)
      ⊎ ((value_in c.values v ≡ Value.Ptr Pointer.Null)
      × ((y : Instance) × (instance_in d.first a.instance ≡ Some y) × (value_in a.values v ≡ frame_address_of y)))
  pub tested : (v : ℕ) (is_eq : Bool) → x.tested v ≡ Some is_eq
      → (value_in a.values v ≡ Value.Poison)
      ⊎ ((value_in a.values v ≡ truth_value (not is_eq)) × (value_in c.values v ≡ truth_value is_eq))

-- An alloca in front of the entry block has a live stack block of its size, whose address its name has. No block of the
-- first run stands there but frames that are given.
pub record HasAlloca (homes : List Home) (hides : ℕ → Bool) (d : Sides) (c : Activation) (own : List Slot) (i : Instr)
    : Type 0 where
  pub name : ℕ
  pub size : ℕ
  pub align : ℕ
  pub is : i ≡ Instr.Alloca name (array size (int 8)) align
  pub block : ℕ
  pub address : value_in c.values name ≡ pointer_to block
  pub slot : Contains own (record { alloca = name; block = block })
  pub there : MemoryBlock
  pub is_there : slice_get d.other block ≡ Some there
  pub kind : there.kind ≡ Kind.Stack
  pub live : is_live there.life ≡ true
  pub sized : there.size ≡ size
  pub full : length there.bytes ≡ size
  pub free : (n : ℕ) → n < length d.memory → hides n ≡ false → IsNoGivenFrame d n
      → (home_of homes n).block ≢ block

-- the allocas that are put in front have been made, unless the function has just been entered
abbrev pub HasAllocas : Elision → List Home → (ℕ → Bool) → Sides → Activation → Activation → List Slot → Type 0
HasAllocas e homes hides d a c own =
    ((a.block ≡ 0) × (a.at ≡ 0) × (own ≡ [])) ⊎
    (Each (HasAlloca homes hides d c own) (allocas_ahead (rooms e a.func) (function_in e a.func))
    × (length own ≡ length (allocas_ahead (rooms e a.func) (function_in e a.func))))

-- ---- the block that an activation allocated, and in which it hasn't begun

-- It is hidden and blank, and no other activation has it. Its size is what the allocator was asked for.
pub record IsHeld (hides : ℕ → Bool) (memory : List MemoryBlock) (a : Activation) (name : ℕ) : Type 0 where
  pub block : ℕ
  pub size : ℕ
  pub address : value_in a.values name ≡ pointer_to block
  pub hidden : hides block ≡ true
  pub there : slice_get memory block ≡ Some (blank_block size 16 Kind.Allocator)

abbrev pub HoldsBlock : (ℕ → Bool) → List MemoryBlock → Activation → Option ℕ → Type 0
HoldsBlock hides memory a None = Unit {0}
HoldsBlock hides memory a (Some name) = IsHeld hides memory a name

-- a ramp allocates where the other was given its frame; a resumed activation allocates in both runs
abbrev pub held_name : Elision → Bool → Activation → Option ℕ
held_name e false a = None
held_name e true a = (e.shape a.func).holds a.block a.at

-- two activations hold different blocks
abbrev pub HoldApart : Elision → List Activation → List Activation → Type 0
HoldApart e bs cs =
    (j k u v : ℕ) (a b c d : Activation) → j ≢ k → slice_get bs j ≡ Some a → slice_get bs k ≡ Some b
    → slice_get cs j ≡ Some c → slice_get cs k ≡ Some d → held_name e (is_given_mode c.mode) a ≡ Some u
    → held_name e (is_given_mode d.mode) b ≡ Some v → value_in a.values u ≢ value_in b.values v

abbrev pub frame_size : Elision → ℕ → ℕ
frame_size e func = (layout_of e.layouts.coroutines func).size

-- ---- activations

pub record AreActivations (e : Elision) (homes : List Home) (hides : ℕ → Bool) (d : Sides) (a c : Activation)
    : Type 0 where
  pub func : c.func ≡ a.func
  pub result : c.result ≡ a.result
  pub instance : c.instance ≡ a.instance
  pub has_left : c.has_left ≡ a.has_left
  pub mode : AreModes a.mode c.mode
  pub place : IsAt e homes (was_given d c) a c
  pub values : AreNamed e homes (was_given d c) a c
  pub asked : is_given_mode c.mode ≡ true → AreAsked (e.shape a.func) a c
  pub released : was_given d c ≡ true → AreReleased (e.shape a.func) d a c
  pub own : List Slot
  pub slots : c.slots ≡ map (moved_slot homes) a.slots ++ own
  pub allocas : HasAllocas e homes hides d a c own
  pub held : HoldsBlock hides d.memory a (held_name e (is_given_mode c.mode) a)

-- one to one; those below go on behind their calls, where none waits
abbrev pub AreBelow : Elision → List Home → (ℕ → Bool) → Sides → List Activation → List Activation → Type 0
AreBelow e homes hides d [] [] = Unit {0}
AreBelow e homes hides d [] (c ∷ cs) = ⊥
AreBelow e homes hides d (a ∷ more) [] = ⊥
AreBelow e homes hides d (a ∷ more) (c ∷ cs) =
    ((c.block ≡ a.block) × AreActivations e homes hides d a c) × AreBelow e homes hides d more cs

-- so many activations hold a block
abbrev pub holds_one : Option ℕ → ℕ
holds_one None = 0
holds_one (Some name) = 1

abbrev pub held_blocks : Elision → List Activation → List Activation → ℕ
held_blocks e [] cs = 0
held_blocks e (a ∷ more) [] = 0
held_blocks e (a ∷ more) (c ∷ cs) = holds_one (held_name e (is_given_mode c.mode) a) + held_blocks e more cs

-- ---- instances

-- the same status, at the point's place; what is kept there isn't used
pub data AreStatuses (e : Elision) (func : ℕ) : Status → Status → Type 0 where
  Runs : AreStatuses e func Status.Running Status.Running
  Ends : AreStatuses e func Status.Finished Status.Finished
  Sleeps : (p : Point) (values others : Env)
      → AreStatuses e func (Status.Suspended p values) (Status.Suspended (own_point e func p) others)

abbrev pub moved_save : Elision → ℕ → Saved → Saved
moved_save e func x = record { depth = x.depth; save = own_point e func x.save }

-- an instance whose frame was given isn't freed, and its block lives until it is Finished
abbrev pub IsFreedAs : List MemoryBlock → Instance → Instance → Bool → Type 0
IsFreedAs other x y false = y.freed ≡ x.freed
IsFreedAs other x y true =
    (y.freed ≡ false)
    × (is_finished y.status ≡ false
    → (z : MemoryBlock) × (slice_get other y.block ≡ Some z) × (is_live z.life ≡ true))

pub record AreInstances (e : Elision) (homes : List Home) (other : List MemoryBlock) (x y : Instance) : Type 0 where
  pub coroutine : y.coroutine ≡ x.coroutine
  pub whole : x.start ≡ 0
  pub home : home_of homes x.block ≡ record { block = y.block; offset = y.start; is_seen = true }
  pub status : AreStatuses e x.coroutine x.status y.status
  pub last_save : y.last_save ≡ option_map (moved_save e x.coroutine) x.last_save
  pub released : y.released ≡ x.released
  pub freed : IsFreedAs other x y (is_given other y)
  pub slots : x.slots ≡ []
  pub no_slots : y.slots ≡ []

-- ---- memory

-- A block that isn't hidden and no given frame has a block of its own in the other run, which differs from it at most
-- in bytes. No two have the same.
pub record AreMates (homes : List Home) (hides : ℕ → Bool) (d : Sides) : Type 0 where
  pub each : (n : ℕ) (x : MemoryBlock) → slice_get d.memory n ≡ Some x → hides n ≡ false → IsNoGivenFrame d n
      → (k : ℕ) × (bytes : List Byte) × (home_of homes n ≡ whole_home k)
      × (slice_get d.other k ≡ Some (record x { bytes = bytes }))
  pub alone : (n m : ℕ) → n < length d.memory → m < length d.memory → hides n ≡ false → hides m ≡ false
      → IsNoGivenFrame d n → IsNoGivenFrame d m
      → (home_of homes n).block ≡ (home_of homes m).block → n ≡ m

-- ---- states

pub record AreElided (e : Elision) (s t : State) : Type 0 where
  pub homes : List Home
  pub hides : ℕ → Bool
  -- the first run's world, but for its count
  pub world : AreOver (frame_rights (framed e) s.instances) (frame_rights (elided e) t.instances) homes hides (λ d. d)
      (counted t.world.allocs s.world) t.world
  pub known : length homes ≡ length s.world.memory
  pub globals : (n : ℕ) → n < length e.code.globals → home_of homes n ≡ whole_home n
  pub hidden : (n : ℕ) → hides n ≡ true → (home_of homes n).is_seen ≡ false
  pub mates : AreMates homes hides (sides s t)
  pub count : length t.instances ≡ length s.instances
  pub instances : (i : ℕ) (x y : Instance) → slice_get s.instances i ≡ Some x → slice_get t.instances i ≡ Some y
      → AreInstances e homes t.world.memory x y
  pub top : AreActivations e homes hides (sides s t) s.top t.top
  pub below : AreBelow e homes hides (sides s t) s.below t.below
  pub once : HoldApart e (s.top ∷ s.below) (t.top ∷ t.below)
  pub allocs : s.world.allocs
      ≡ capped (t.world.allocs + (given_frames t + held_blocks e (s.top ∷ s.below) (t.top ∷ t.below)))
  pub outcome : t.outcome ≡ s.outcome

-- States of the meaning in which a resume hands on some values, and those beside them in which slots are made anew.
use Rattle.std.specs.Prelude.{ℕ, Bool, true, false, List, [], ◌∷◌, length, slice_get, Some, None, Option, IsTrue, ◌≡◌}
use Rattle.std.specs.Prelude.{◌≢◌, ◌⊎◌, ◌+◌, ◌<◌}
use Rattle.std.specs.List.{Contains}
use Rattle.pass_kept_proof.specs.ir_model.Names.{function_at}
use Rattle.pass_kept_proof.specs.ir_model.Ty.{Ty}
use Rattle.pass_kept_proof.specs.ir_model.declared.instr.Instr.{Instr}
use Rattle.pass_kept_proof.specs.ir_model.declared.module.Function.{Function}
use Rattle.pass_kept_proof.specs.ir_model.declared.module.Module.{Module}
use Rattle.pass_kept_proof.specs.ir_model.declared.operand.Intrinsic.{Intrinsic}
use Rattle.pass_kept_proof.specs.ir_paths.Slots.{is_escaped}
use Rattle.pass_kept_proof.specs.ir_paths.declared.point.Point.{Point}
use Rattle.frame_classes.specs.Alive.{MayBeAlive, markers_of}
use Rattle.pass_kept_proof.specs.SuspendRules.{IsCallAt}
use Rattle.pass_renewed_proof.specs.Ahead.{HasAwayUse, IsUsedBefore}
use Rattle.pass_renewed_proof.specs.Ledger.{AreEntered, IsFresh, IsGone, IsHomeOf, Ledger, LivesIn}
use Rattle.pass_renewed_proof.specs.Left.{IsLeftAt}
use Rattle.pass_renewed_proof.specs.Places.{IsReady}
use Rattle.pass_renewed_proof.specs.Renewed.{Flags, Roots}
use Rattle.pass_renewed_proof.specs.SlotEnvs.{AreSlotEnvs}
use Rattle.pass_renewed_proof.specs.SlotRules.{IsMadeOnce}
use Rattle.pass_renewed_proof.specs.Steps.{AreOver}
use Rattle.pass_renewed_proof.specs.Way.{IsBarred, IsResumedAt, WasAlive}
use Rattle.pass_kept_proof.specs.rule_windows.Sets.{IsAfterEnd, RunsOut}
use Rattle.run_laws.specs.embedded.Making.{whole_home}
use Rattle.run_laws.specs.memory.Pointers.{home_of}
use Rattle.pass_kept_proof.specs.run_memory.declared.block.MemoryBlock.{MemoryBlock}
use Rattle.pass_kept_proof.specs.run_memory.declared.pointer.Value.{Value}
use Rattle.pass_kept_proof.specs.run_source.Source.{is_over}
use Rattle.pass_kept_proof.specs.run_source.State.{is_suspended}
use Rattle.pass_kept_proof.specs.run_source.declared.state.Activation.{Activation}
use Rattle.pass_kept_proof.specs.run_source.declared.state.Instance.{Instance}
use Rattle.pass_kept_proof.specs.run_source.declared.state.Mode.{Mode}
use Rattle.pass_kept_proof.specs.run_source.declared.state.Saved.{Saved}
use Rattle.pass_kept_proof.specs.run_source.declared.state.State.{State}
use Rattle.pass_kept_proof.specs.run_source.declared.state.Status.{Status}
use Rattle.pass_kept_proof.specs.run_step.Step.{AtInstr, block_of, fetch}
use Rattle.pass_kept_proof.specs.run_step.Values.{Env, pointer_to, value_in}
use Rattle.pass_kept_proof.specs.run_step.declared.world.Slot.{Slot}

-- ---- where an activation is

abbrev pub place_in : Activation → Point
place_in a = record { block = a.block; at = a.at }

-- its instance is Suspended, and its own save, with so many activations below it, is the last one
pub record MayLeave (xs : List Instance) (depth : ℕ) (a : Activation) : Type 0 where
  pub number : ℕ
  pub own : a.instance ≡ Some number
  pub instance : Instance
  pub there : slice_get xs number ≡ Some instance
  pub suspended : is_suspended instance.status ≡ true
  pub saved : Saved
  pub last : instance.last_save ≡ Some saved
  pub is_its : saved.depth ≡ depth

-- it hasn't left, or may come back by an edge out of its window
pub data GoesOn (xs : List Instance) (depth : ℕ) (a : Activation) : Type 0 where
  NotLeft : a.has_left ≡ false → GoesOn xs depth a
  Leaves : MayLeave xs depth a → GoesOn xs depth a

-- its instance is over
pub record IsOverOf (xs : List Instance) (a : Activation) : Type 0 where
  pub number : ℕ
  pub own : a.instance ≡ Some number
  pub instance : Instance
  pub there : slice_get xs number ≡ Some instance
  pub over : is_over instance ≡ true

-- it was called and not resumed
abbrev pub IsFirst : Activation → Type 0
IsFirst a = a.mode ≡ Mode.Resumed → ⊥

-- ---- the slot of a flagged alloca

-- it is a slot of the activation's instance, or of a ramp that hasn't begun one
pub data IsSlotOf (xs : List Instance) (a : Activation) (slot : Slot) : Type 0 where
  Early : a.instance ≡ None → Contains a.slots slot → IsSlotOf xs a slot
  Begun : (i : ℕ) (x : Instance) → a.instance ≡ Some i → slice_get xs i ≡ Some x → Contains x.slots slot
      → IsSlotOf xs a slot

-- it may have been used where an activation has left; where it lives, no pointer into it is about
pub record IsUsedAway (l : Ledger) (m : List MemoryBlock) (f : Function) (slot b : ℕ) : Type 0 where
  pub away : HasAwayUse f slot
  pub unseen : LivesIn m b → (home_of l.homes b).is_seen ≡ false

-- at a place the slot was used before, or is still fresh
abbrev pub IsTold : Ledger → List MemoryBlock → Function → ℕ → ℕ → Point → Type 0
IsTold l m f slot b p = IsFresh l m b ⊎ (IsUsedBefore f slot p ⊎ IsUsedAway l m f slot b)

-- it stands in the activation's own block c, or may come there
abbrev pub MayStand : Ledger → List MemoryBlock → ℕ → ℕ → Type 0
MayStand l m b c = IsFresh l m b ⊎ IsHomeOf l b c

-- before begin a slot without markers lives, later one that lives may be alive by the paths
abbrev pub IsAliveAt : Activation → Function → ℕ → Point → Type 0
IsAliveAt a f slot p = ((a.instance ≡ None) × (markers_of f slot ≡ [])) ⊎ MayBeAlive f slot p

-- where the point is in the entry block, the alloca stands before it
abbrev pub IsPassed : Function → ℕ → Point → Type 0
IsPassed f alloca p =
    (k : ℕ) (ty : Ty) (align : ℕ) → fetch f 0 k ≡ AtInstr (Instr.Alloca alloca ty align) → p.block ≡ 0 → k < p.at

-- of the activation a, with so many below it: its slot of an alloca is the block b, and c in the second run
pub record IsSlotBeside (m : Module) (l : Ledger) (xs : List Instance) (memory target : List MemoryBlock) (depth : ℕ)
    (a : Activation) (alloca b c : ℕ) : Type 0 where
  pub slot : IsSlotOf xs a (record { alloca = alloca; block = b })
  -- its alloca isn't still to come
  pub passed : IsPassed (function_at m a.func) alloca (place_in a)
  pub ramp : ℕ
  pub seat : l.seats b ≡ Some (record { func = a.func; alloca = alloca; depth = ramp; instance = a.instance })
  pub depth_is : IsFirst a → ramp ≡ depth
  pub owner : l.owners c ≡ Some depth
  pub tenant : l.tenants c ≡ Some b
  pub ready : (x : MemoryBlock) → slice_get memory b ≡ Some x → IsReady target c x
  -- where the activation may come to a use of it, the block stands in its own one or may come there
  pub first : IsFirst a → GoesOn xs depth a ⊎ HasAwayUse (function_at m a.func) alloca → MayStand l memory b c
  pub resumed : a.mode ≡ Mode.Resumed → GoesOn xs depth a
      → MayStand l memory b c ⊎ (IsBarred (function_at m a.func) alloca (place_in a) ⊎ HasAwayUse (function_at m
      a.func) alloca)
  pub told_first : IsFirst a → GoesOn xs depth a
      → IsFresh l memory b ⊎ IsUsedBefore (function_at m a.func) alloca (place_in a)
  pub told : a.mode ≡ Mode.Resumed → GoesOn xs depth a
      → IsTold l memory (function_at m a.func) alloca b (place_in a)
  pub alive : GoesOn xs depth a → LivesIn memory b → IsAliveAt a (function_at m a.func) alloca (place_in a)
  -- where the activation has left, no pointer is about into a live block that stands in its own one
  pub gone : a.has_left ≡ true → LivesIn memory b → (home_of l.homes b).is_seen ≡ true → (home_of l.homes b).block ≢ c
  pub away : IsFirst a → a.has_left ≡ true → IsTrue (is_escaped (function_at m a.func) alloca)
      → HasAwayUse (function_at m a.func) alloca → LivesIn memory b
      → WasAlive (function_at m a.func) alloca (place_in a)

-- ---- other allocas

-- such an alloca isn't made anew; it alone gives its name, which is no address in a slot that is
pub record IsOther (f : Function) (flags : ℕ → Bool) (roots : ℕ → Option ℕ) (v : ℕ) : Type 0 where
  pub made : IsMadeOnce f v
  pub off : flags v ≡ false
  pub no_part : roots v ≡ None

-- the value of its name leads to no slot that may be made anew; where it leads to no block, neither does the other one
pub record IsOtherValue (l : Ledger) (v w : Value) : Type 0 where
  pub unseated : (b : ℕ) → block_of v ≡ Some b → l.seats b ≡ None
  pub nowhere : block_of v ≡ None → block_of w ≡ None

abbrev pub AreOthers : Ledger → Function → (ℕ → Bool) → (ℕ → Option ℕ) → Env → Env → Type 0
AreOthers l f flags roots env other =
    (v : ℕ) → IsOther f flags roots v → IsOtherValue l (value_in env v) (value_in other v)

-- ---- lists of slots

-- a slot of the first run that may be made anew, with its seat
pub record IsSeated (l : Ledger) (flags : ℕ → Bool) (func : ℕ) (instance : Option ℕ) (slot : Slot) : Type 0 where
  pub flagged : IsTrue (flags slot.alloca)
  pub depth : ℕ
  pub seat : l.seats slot.block ≡ Some (record {
    func = func;
    alloca = slot.alloca;
    depth = depth;
    instance = instance;
  })

-- such a slot of an activation that has begun no instance: it has made the slot itself
pub record IsEarly (l : Ledger) (flags : ℕ → Bool) (func depth : ℕ) (slot : Slot) : Type 0 where
  pub flagged : IsTrue (flags slot.alloca)
  pub seat : l.seats slot.block ≡ Some (record { func = func; alloca = slot.alloca; depth = depth; instance = None })

-- slots that stand for one another; slots that may be made anew are listed by both for themselves: Owns says which the
-- second has
pub data AreSlots (l : Ledger) (Seated Owns : Slot → Type 0) (flags : ℕ → Bool) : List Slot → List Slot → Type 0 where
  NoSlots : AreSlots l Seated Owns flags [] []
  Both : (alloca b c : ℕ) (ss ts : List Slot) → flags alloca ≡ false → home_of l.homes b ≡ whole_home c
      → l.seats b ≡ None
      → AreSlots l Seated Owns flags ss ts
      → AreSlots l Seated Owns flags (record { alloca = alloca; block = b } ∷ ss) (record {
        alloca = alloca;
        block = c;
      } ∷ ts)
  First : (s : Slot) (ss ts : List Slot) → Seated s → AreSlots l Seated Owns flags ss ts
      → AreSlots l Seated Owns flags (s ∷ ss) ts
  Second : (t : Slot) (ss ts : List Slot) → Owns t → AreSlots l Seated Owns flags ss ts
      → AreSlots l Seated Owns flags ss (t ∷ ts)

-- a slot that an activation has made anew: its own, in which nothing stands but what the name has in the first run
pub record IsOwn (l : Ledger) (flags : ℕ → Bool) (depth : ℕ) (env other : Env) (slot : Slot) : Type 0 where
  pub flagged : IsTrue (flags slot.alloca)
  pub owner : l.owners slot.block ≡ Some depth
  pub address : value_in other slot.alloca ≡ pointer_to slot.block
  pub tenant : (b : ℕ) → l.tenants slot.block ≡ Some b → value_in env slot.alloca ≡ pointer_to b

-- ---- activations

pub record IsActivationBeside (m : Module) (flags : Flags) (roots : Roots) (l : Ledger) (xs : List Instance) (memory
    target : List MemoryBlock) (depth : ℕ) (a b : Activation) : Type 0 where
  pub values : Env
  pub slots : List Slot
  pub is : b ≡ record a { values = values; slots = slots }
  pub envs : AreSlotEnvs l.homes (roots a.func) a.values values
  pub listed : AreSlots l (IsEarly l (flags a.func) a.func depth) (IsOwn l (flags a.func) depth a.values values)
      (flags a.func) a.slots slots
  pub others : AreOthers l (function_at m a.func) (flags a.func) (roots a.func) a.values values
  pub each : (alloca b c : ℕ) → IsTrue (flags a.func alloca) → value_in a.values alloca ≡ pointer_to b
      → value_in values alloca ≡ pointer_to c → IsSlotBeside m l xs memory target depth a alloca b c
  -- the alloca of a slot that it has made isn't still to come
  pub made : (slot : Slot) → Contains slots slot → IsTrue (flags a.func slot.alloca)
      → IsPassed (function_at m a.func) slot.alloca (place_in a)
  -- no slot is being made anew
  pub modes : (a.mode ≡ Mode.Plain) ⊎ ((a.mode ≡ Mode.Ramp) ⊎ (a.mode ≡ Mode.Resumed))
  pub came : a.mode ≡ Mode.Resumed → IsResumedAt (function_at m a.func) (place_in a)
  -- behind begin it hasn't passed the end, or it has left, or the instance is over
  pub begun : a.instance ≢ None → RunsOut (function_at m a.func) (place_in a) ⊎ (IsAfterEnd (function_at m a.func)
      (place_in a) × (a.has_left ≡ false → IsOverOf xs a))
  pub begins : a.mode ≡ Mode.Resumed → a.instance ≢ None
  pub departs : a.has_left ≡ true → a.instance ≢ None
  pub left : a.has_left ≡ true → IsLeftAt (function_at m a.func) (place_in a)

-- the name to which a value is given back is no address in such a slot, nor that of an alloca
pub record IsFree (f : Function) (roots : ℕ → Option ℕ) (name : Option ℕ) : Type 0 where
  pub no_part : (v slot : ℕ) → roots v ≡ Some slot → name ≡ Some v → ⊥
  pub no_alloca : (v : ℕ) → IsMadeOnce f v → name ≡ Some v → ⊥

-- the activations below, of which the topmost waits for a value to be given to a name
abbrev pub AreBelow : Module → Flags → Roots → Ledger → List Instance → List MemoryBlock → List MemoryBlock
    → Option ℕ → List Activation → List Activation → Type 0
AreBelow m flags roots l xs memory target name [] [] = Unit {0}
AreBelow m flags roots l xs memory target name [] (b ∷ bs) = ⊥
AreBelow m flags roots l xs memory target name (a ∷ as') [] = ⊥
AreBelow m flags roots l xs memory target name (a ∷ as') (b ∷ bs) =
    IsActivationBeside m flags roots l xs memory target (length as') a b × IsFree (function_at m a.func) (roots
    a.func) name × AreBelow m flags roots l xs memory target a.result as' bs

-- ---- instances

-- what a suspended instance keeps of a slot
pub record IsKeptSlot (m : Module) (l : Ledger) (memory : List MemoryBlock) (x : Instance) (s : Point) (alloca b : ℕ)
    : Type 0 where
  pub slot : Contains x.slots (record { alloca = alloca; block = b })
  pub told : IsTold l memory (function_at m x.coroutine) alloca b s
  pub alive : LivesIn memory b → MayBeAlive (function_at m x.coroutine) alloca s
  -- an escaped slot into which pointers are about isn't alive
  pub gone : LivesIn memory b → (home_of l.homes b).is_seen ≡ false

pub record AreKeptBeside (m : Module) (flags : Flags) (roots : Roots) (l : Ledger) (memory : List MemoryBlock) (x :
    Instance) (s : Point) (env other : Env) : Type 0 where
  pub is_call : IsCallAt Intrinsic.CoroSuspend (function_at m x.coroutine) s
  pub runs_out : RunsOut (function_at m x.coroutine) s
  pub envs : AreSlotEnvs l.homes (roots x.coroutine) env other
  pub others : AreOthers l (function_at m x.coroutine) (flags x.coroutine) (roots x.coroutine) env other
  pub each : (alloca b : ℕ) → IsTrue (flags x.coroutine alloca) → value_in env alloca ≡ pointer_to b
      → IsKeptSlot m l memory x s alloca b

abbrev pub IsStatusBeside : Module → Flags → Roots → Ledger → List MemoryBlock → Instance → Status → Status → Type 0
IsStatusBeside m flags roots l memory x Status.Running t = t ≡ Status.Running
IsStatusBeside m flags roots l memory x (Status.Suspended s env) t =
    (other : Env) × (t ≡ Status.Suspended s other) × AreKeptBeside m flags roots l memory x s env other
IsStatusBeside m flags roots l memory x Status.Finished t = t ≡ Status.Finished

-- of the instance of a number
pub record IsInstanceBeside (m : Module) (flags : Flags) (roots : Roots) (l : Ledger) (memory : List MemoryBlock) (i :
    ℕ) (x y : Instance) : Type 0 where
  pub block : ℕ
  pub slots : List Slot
  pub status : Status
  pub is : y ≡ record x { block = block; slots = slots; status = status }
  pub home : home_of l.homes x.block ≡ whole_home block
  pub unseated : l.seats x.block ≡ None
  pub start : x.start ≡ 0
  pub listed : AreSlots l (IsSeated l (flags x.coroutine) x.coroutine (Some i)) (λ t. ⊥) (flags x.coroutine) x.slots
      slots
  pub statuses : IsStatusBeside m flags roots l memory x x.status status
  -- where it is over, its slots are dead for good
  pub over : is_over x ≡ true → (slot : Slot) → Contains x.slots slot → IsTrue (flags x.coroutine slot.alloca)
      → IsGone memory slot.block

abbrev pub AreInstancesBeside : Module → Flags → Roots → Ledger → List MemoryBlock → ℕ → List Instance
    → List Instance → Type 0
AreInstancesBeside m flags roots l memory i [] [] = Unit {0}
AreInstancesBeside m flags roots l memory i [] (y ∷ ys) = ⊥
AreInstancesBeside m flags roots l memory i (x ∷ xs) [] = ⊥
AreInstancesBeside m flags roots l memory i (x ∷ xs) (y ∷ ys) =
    IsInstanceBeside m flags roots l memory i x y × AreInstancesBeside m flags roots l memory (i + 1) xs ys

-- ---- states

pub record IsBeside (m : Module) (flags : Flags) (roots : Roots) (s t : State) : Type 0 where
  pub ledger : Ledger
  pub outcome : t.outcome ≡ s.outcome
  pub world : AreOver ledger.homes ledger.hides s.world t.world
  pub entered : AreEntered m ledger s.world.memory t.world.memory
  pub instances : AreInstancesBeside m flags roots ledger s.world.memory 0 s.instances t.instances
  pub top : IsActivationBeside m flags roots ledger s.instances s.world.memory t.world.memory (length s.below) s.top
      t.top
  pub below : AreBelow m flags roots ledger s.instances s.world.memory t.world.memory s.top.result s.below t.below

-- ---- what the topmost activation knows of others

-- neither has begun an instance, and both were called
pub record AreUnbegun (instance : Option ℕ) (mode other : Mode) : Type 0 where
  pub none : instance ≡ None
  pub first : mode ≡ Mode.Resumed → ⊥
  pub second : other ≡ Mode.Resumed → ⊥

-- where it hasn't left an activation below may go on in its instance only if neither has begun one
abbrev pub AreOutdone : List Instance → Activation → List Activation → Type 0
AreOutdone xs a [] = Unit {0}
AreOutdone xs a (z ∷ below) =
    (z.instance ≡ a.instance → GoesOn xs (length below) z → a.has_left ≡ false → AreUnbegun a.instance a.mode z.mode)
    × AreOutdone xs a below

-- where its instance is Suspended it has left
abbrev pub HasLeftSuspended : List Instance → Activation → Type 0
HasLeftSuspended xs a = (i : ℕ) (x : Instance) → a.instance ≡ Some i → slice_get xs i ≡ Some x
    → is_suspended x.status ≡ true → a.has_left ≡ true

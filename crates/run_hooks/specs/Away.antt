-- Where activations stand that have left, and those that haven't, in each state of a run by hooks.
use Rattle.std.specs.Prelude.{◌≡◌, ◌⊎◌, ℕ, ◌+◌, negsuc, true, false, List, [], ◌∷◌, Option, Some, All, map}
use Rattle.std.specs.Prelude.{Result, Ok, Err, slice_get}
use Rattle.pass_renewed_proof.specs.ir_base.declared.cause.Cause.{Cause}
use Rattle.pass_renewed_proof.specs.ir_model.Names.{function_at, position_of}
use Rattle.pass_renewed_proof.specs.ir_model.declared.instr.Case.{Case}
use Rattle.pass_renewed_proof.specs.ir_model.declared.instr.Instr.{Instr}
use Rattle.pass_renewed_proof.specs.ir_model.declared.instr.Terminator.{Terminator}
use Rattle.pass_renewed_proof.specs.ir_model.declared.module.Function.{Function}
use Rattle.pass_renewed_proof.specs.ir_model.declared.module.Module.{Module}
use Rattle.pass_renewed_proof.specs.ir_model.declared.operand.Arg.{Arg}
use Rattle.pass_renewed_proof.specs.ir_model.declared.operand.Intrinsic.{Intrinsic}
use Rattle.pass_renewed_proof.specs.ir_model.declared.operand.Operand.{Operand}
use Rattle.pass_renewed_proof.specs.ir_paths.Facts.{IsWindow}
use Rattle.pass_renewed_proof.specs.ir_paths.Paths.{Leads, entry_point}
use Rattle.pass_renewed_proof.specs.ir_paths.Windows.{IsInWindow, call_result, destroy_label, end_block, is_call_of, resume_label}
use Rattle.pass_renewed_proof.specs.ir_paths.Windows.{saves_of, suspend_of}
use Rattle.pass_renewed_proof.specs.ir_paths.declared.point.Point.{Point}
use Rattle.pass_renewed_proof.specs.pass_kept_proof.Needed.{BranchesTo}
use Rattle.pass_renewed_proof.specs.pass_kept_proof.SuspendRules.{IsCallAt}
use Rattle.pass_renewed_proof.specs.rule_windows.Sets.{IsAfterEnd}
use Rattle.run_hooks.specs.Hooks.{Hooks}
use Rattle.pass_renewed_proof.specs.run_memory.declared.pointer.Value.{Value}
use Rattle.pass_renewed_proof.specs.run_source.State.{function_of}
use Rattle.pass_renewed_proof.specs.run_source.declared.state.Activation.{Activation}
use Rattle.pass_renewed_proof.specs.run_source.declared.state.Instance.{Instance}
use Rattle.pass_renewed_proof.specs.run_source.declared.state.Mode.{Mode}
use Rattle.pass_renewed_proof.specs.run_source.declared.state.State.{State}
use Rattle.pass_renewed_proof.specs.run_source.declared.state.Status.{Status}
use Rattle.pass_renewed_proof.specs.run_source_tables.Given.{Given, facts_at}
use Rattle.pass_renewed_proof.specs.run_step.Effects.{is_alloca}
use Rattle.pass_renewed_proof.specs.run_step.Step.{AtInstr, AtTerm, Fetched, GoTo, fetch, switch, target_of}
use Rattle.pass_renewed_proof.specs.run_ints.Numbers.{word_of}
use Rattle.pass_renewed_proof.specs.run_step.Values.{Env, arg_value}
use Rattle.pass_renewed_proof.specs.run_step.declared.world.Slot.{Slot}

-- ---- points

-- a save with its suspend
pub record IsPair (f : Function) (save suspend : Point) : Type 0 where
  pub is_save : IsCallAt Intrinsic.CoroSave f save
  pub takes : suspend_of f save ≡ Some suspend

-- the point isn't the save; it is the suspend, or a path leads from it to the suspend without the save
pub record ComesTo (f : Function) (save suspend p : Point) : Type 0 where
  pub not_save : p ≡ save → ⊥
  pub way : (p ≡ suspend) ⊎ Leads f (save ∷ []) p suspend

-- from the point no path leads to a suspend without its save
abbrev pub IsClear : Function → Point → Type 0
IsClear f p = (k s : Point) → IsPair f k s → ComesTo f k s p → ⊥

-- the same, but for one suspend
abbrev pub IsClearBut : Function → Point → Point → Type 0
IsClearBut f s p = (j t : Point) → IsPair f j t → ComesTo f j t p → t ≡ s

-- between a save and its suspend, or at that
pub record IsWaiting (f : Function) (p : Point) : Type 0 where
  pub save : Point
  pub suspend : Point
  pub pair : IsPair f save suspend
  pub within : (p ≡ suspend) ⊎ IsInWindow f save suspend p
  pub other : IsClearBut f suspend p

-- an activation that has left by a suspend may wait for it, or be at the end or behind it
pub data IsAway (f : Function) (p : Point) : Type 0 where
  Waits : IsWaiting f p → IsAway f p
  AtEnd : (s : Point) → IsCallAt Intrinsic.CoroSuspend f s → p.block ≡ end_block f → p.at ≡ 0
      → IsCallAt Intrinsic.CoroEnd f p → IsAway f p
  Behind : (s : Point) → IsCallAt Intrinsic.CoroSuspend f s → IsAfterEnd f p → IsAway f p

-- the instruction right before the point is a suspend
pub record IsBehind (f : Function) (p : Point) : Type 0 where
  pub suspend : Point
  pub is_suspend : IsCallAt Intrinsic.CoroSuspend f suspend
  pub next : p ≡ record { block = suspend.block; at = suspend.at + 1 }

-- ---- what it asks of functions

-- the switch behind a suspend is on its result, and takes -1 to the end
pub record HasStop (m : Module) (f : Function) (s : Point) : Type 0 where
  pub arg : Arg
  pub default : ℕ
  pub cases : List Case
  pub stands : fetch f s.block (s.at + 1) ≡ AtTerm (Terminator.Switch arg default cases)
  pub own : BranchesTo (resume_label f s) (AtTerm (Terminator.Switch arg default cases)) × BranchesTo
      (destroy_label f s) (AtTerm (Terminator.Switch arg default cases))
  pub result : (i : Instr) → fetch f s.block s.at ≡ AtInstr i
      → (n : ℕ) × (call_result i ≡ Some n) × (arg.value ≡ Operand.Local n)
  pub stop : target_of m (word_of 8 (negsuc 0)) default cases ≡ default
  pub end : position_of f default ≡ end_block f
  pub is_end : IsCallAt Intrinsic.CoroEnd f (entry_point f default)

-- K3, K5 and K6 of the places of saves, suspends and the end
pub record KeepsPlaceRules (m : Module) (f : Function) : Type 0 where
  pub stops : (s : Point) → IsCallAt Intrinsic.CoroSuspend f s → HasStop m f s
  -- no suspend behind the end
  pub no_suspend : (p : Point) → IsAfterEnd f p → IsCallAt Intrinsic.CoroSuspend f p → ⊥
  -- a suspend takes the token of one save, and a path leads from that to it
  pub once : (k j s : Point) → IsPair f k s → IsPair f j s → j ≡ k
  pub leads : (k s : Point) → IsPair f k s → Leads f [] k s
  -- and from the entry, or from the switch of the suspend, only by the save
  pub entry : IsClear f (record { block = 0; at = 0 })
  pub back : (k s : Point) → IsPair f k s → ComesTo f k s (record { block = s.block; at = s.at + 1 }) → ⊥
  -- no save, suspend or end stands in a window
  pub no_save : (k s p : Point) → IsPair f k s → IsInWindow f k s p → IsCallAt Intrinsic.CoroSave f p → ⊥
  pub no_suspend_in : (k s p : Point) → IsPair f k s → IsInWindow f k s p → IsCallAt Intrinsic.CoroSuspend f p → ⊥
  pub no_end : (k s p : Point) → IsPair f k s → IsInWindow f k s p → IsCallAt Intrinsic.CoroEnd f p → ⊥

-- all functions do, and the windows that a run is given are theirs
pub record KeepsAllPlaceRules (g : Given) : Type 0 where
  pub each : (func : ℕ) → KeepsPlaceRules g.code (function_at g.code func)
  pub saves : (func : ℕ) → map (λ w. (w.save, w.suspend)) (facts_at g.facts func).windows ≡ saves_of
      (function_at g.code func)
  pub windows : (func : ℕ) → All (IsWindow (function_at g.code func)) (facts_at g.facts func).windows

-- ---- states

-- where an activation stands; one that is entering a label stands there
abbrev pub spot_by : Function → Mode → Point → Point
spot_by f (Mode.Entering from label) p = entry_point f label
spot_by f _ p = p

abbrev pub point_in : Activation → Point
point_in a = record { block = a.block; at = a.at }

abbrev pub spot_of : Function → Activation → Point
spot_of f a = spot_by f a.mode (point_in a)

-- an alloca stands at the point
pub record IsAllocaAt (f : Function) (p : Point) : Type 0 where
  pub instr : Instr
  pub stands : fetch f p.block p.at ≡ AtInstr instr
  pub is : is_alloca instr ≡ true

-- one that is entering a label is at an alloca, and hasn't left; there is such a one in some meanings alone
pub record IsEntering (h : Hooks) (f : Function) (a : Activation) : Type 0 where
  pub may : h.enters ≡ true
  pub stays : a.has_left ≡ false
  pub alloca : IsAllocaAt f (point_in a)

-- an activation that hasn't left is at a clear place, and one that has is away; neither stands right behind a suspend
pub record IsPlaced (h : Hooks) (f : Function) (a : Activation) : Type 0 where
  pub clear : a.has_left ≡ false → IsClear f (spot_of f a)
  pub away : a.has_left ≡ true → IsAway f (point_in a)
  pub entering : (from label : ℕ) → a.mode ≡ Mode.Entering from label → IsEntering h f a
  pub fresh : IsBehind f (point_in a) → ⊥

-- right behind a suspend the switch takes the stop edge alone
abbrev pub StopsAlone : Module → Function → Env → Point → Type 0
StopsAlone m f values p =
    (arg : Arg) (default : ℕ) (cases : List Case) (label : ℕ)
    → fetch f p.block p.at ≡ AtTerm (Terminator.Switch arg default cases)
    → switch m (arg_value m values arg) default cases ≡ GoTo label → position_of f label ≡ end_block f

-- the topmost activation may stand right behind a suspend too
pub record IsPlacedTop (h : Hooks) (f : Function) (a : Activation) : Type 0 where
  pub clear : a.has_left ≡ false → IsClear f (spot_of f a)
  pub away : a.has_left ≡ true → IsAway f (point_in a) ⊎ (IsBehind f (point_in a) × IsClear f (point_in a))
  pub entering : (from label : ℕ) → a.mode ≡ Mode.Entering from label → IsEntering h f a
  pub stops : IsBehind f (point_in a) → StopsAlone h.given.code f a.values (point_in a)

abbrev pub ArePlaced : Hooks → List Activation → Type 0
ArePlaced h [] = Unit {0}
ArePlaced h (a ∷ below) = IsPlaced h (function_at h.given.code a.func) a × ArePlaced h below

-- the suspend of a Suspended instance is clear but for itself
abbrev pub IsPlacedStatus : Function → Status → Type 0
IsPlacedStatus f (Status.Suspended u values) = IsClearBut f u u
IsPlacedStatus f _ = Unit {0}

abbrev pub ArePlacedInstances : Module → List Instance → Type 0
ArePlacedInstances m [] = Unit {0}
ArePlacedInstances m (x ∷ xs) = IsPlacedStatus (function_at m x.coroutine) x.status × ArePlacedInstances m xs

-- all activations stand where they may, and so do instances
pub record IsPlacedState (h : Hooks) (s : State) : Type 0 where
  pub top : IsPlacedTop h (function_of h.given s) s.top
  pub below : ArePlaced h s.below
  pub instances : ArePlacedInstances h.given.code s.instances

-- ---- what it asks of hooks

-- what a part of a step gives, if it gives a state
abbrev pub StaysPlaced : Hooks → Result State Cause → Type 0
StaysPlaced h (Err cause) = Unit {0}
StaysPlaced h (Ok s) = IsPlacedState h s

-- a caller or resumer, which goes on behind its instruction
abbrev pub behind_instr : Activation → Activation
behind_instr a = record a { at = a.at + 1 }

-- the place behind the instruction of the topmost activation is one where it may stand
pub record IsNextPlaced (h : Hooks) (s : State) : Type 0 where
  pub waits : IsPlaced h (function_of h.given s) (behind_instr s.top)
  pub below : ArePlaced h s.below
  pub instances : ArePlacedInstances h.given.code s.instances

-- the topmost activation stands right behind an alloca; where it is entering a label, that counts
pub record IsBehindAlloca (h : Hooks) (s : State) : Type 0 where
  pub clear : s.top.has_left ≡ false → IsClear (function_of h.given s) (spot_of (function_of h.given s) s.top)
  pub away : s.top.has_left ≡ true → IsAway (function_of h.given s) (point_in s.top)
  pub entering : (from label : ℕ) → s.top.mode ≡ Mode.Entering from label
      → (h.enters ≡ true) × (s.top.has_left ≡ false)
  pub fresh : IsBehind (function_of h.given s) (point_in s.top) → ⊥
  pub below : ArePlaced h s.below
  pub instances : ArePlacedInstances h.given.code s.instances

-- an instruction that is no alloca, and no save, suspend or end
pub record IsOrdinary (x : Fetched) : Type 0 where
  pub instr : Instr
  pub stands : x ≡ AtInstr instr
  pub no_save : is_call_of Intrinsic.CoroSave instr ≡ false
  pub no_suspend : is_call_of Intrinsic.CoroSuspend instr ≡ false
  pub no_end : is_call_of Intrinsic.CoroEnd instr ≡ false
  pub no_alloca : is_alloca instr ≡ false

-- hooks that come from placed states to placed states
pub record KeepsPlaced (h : Hooks) : Type 0 where
  pub go_on : (s : State) → IsNextPlaced h s → (i : ℕ) (x : Instance) (suspend : Point) (values : Env) (label : ℕ)
      → slice_get s.instances i ≡ Some x
      → IsClear (function_at h.given.code x.coroutine) (entry_point (function_at h.given.code x.coroutine) label)
      → IsPlacedState h (h.go_on s i x suspend values label)
  pub place : (s : State) (slot : Slot) → IsBehindAlloca h s → IsPlacedState h (h.place s slot)
  pub start : (s : State) (result : Option ℕ) (memory : Value) → IsNextPlaced h s
      → StaysPlaced h (h.start s result memory)
  pub close : (s : State) → IsPlacedState h s → IsPlacedState h (h.close s)
  -- the activations stay as they are
  pub closed : (s : State) → ((h.close s).top ≡ s.top) × ((h.close s).below ≡ s.below)
  pub call : (s : State) (x : Fetched) (r : Result State Cause) → IsNextPlaced h s → h.given_call s x ≡ Some r
      → StaysPlaced h r
  pub called : (s : State) (x : Fetched) (r : Result State Cause) → h.given_call s x ≡ Some r → IsOrdinary x
  pub idle : (s : State) (x : Fetched) → h.is_idle s x ≡ true → IsOrdinary x

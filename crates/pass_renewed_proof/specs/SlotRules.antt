-- What is asked of slots that resumed activations make anew; each part is a consequence of rules by which modules are refused, or of the classes of slots.
use Rattle.std.specs.Prelude.{◌≡◌, ◌⊎◌, ℕ, ◌+◌, Bool, true, List, [], ◌∷◌, Some, Option, IsTrue, IsFalse, slice_get}
use Rattle.pass_kept_proof.specs.ir_model.Names.{function_at, position_of}
use Rattle.pass_kept_proof.specs.ir_model.Ty.{Ty, structure}
use Rattle.pass_kept_proof.specs.ir_model.Layout.{unnamed}
use Rattle.pass_kept_proof.specs.ir_model.declared.instr.Case.{Case}
use Rattle.pass_kept_proof.specs.ir_model.declared.instr.Instr.{Instr}
use Rattle.pass_kept_proof.specs.ir_model.declared.instr.Terminator.{Terminator}
use Rattle.pass_kept_proof.specs.ir_model.declared.module.Function.{Function}
use Rattle.pass_kept_proof.specs.ir_model.declared.module.Module.{Module}
use Rattle.pass_kept_proof.specs.ir_model.declared.operand.Arg.{Arg}
use Rattle.pass_kept_proof.specs.ir_model.declared.operand.Intrinsic.{Intrinsic}
use Rattle.pass_kept_proof.specs.ir_model.declared.operand.Operand.{Operand}
use Rattle.pass_kept_proof.specs.ir_paths.Paths.{has_point}
use Rattle.pass_kept_proof.specs.ir_paths.Slots.{addresses_of, has_name, local_of}
use Rattle.pass_kept_proof.specs.ir_paths.Windows.{call_operand, end_block, is_call_of}
use Rattle.pass_kept_proof.specs.ir_paths.declared.point.Point.{Point}
use Rattle.pass_kept_proof.specs.Crossing.{is_param}
use Rattle.pass_kept_proof.specs.Handed.{HasPlainNames}
use Rattle.pass_kept_proof.specs.Kept.{Keep}
use Rattle.pass_kept_proof.specs.Needed.{BranchesTo, phis_give}
use Rattle.pass_kept_proof.specs.SuspendRules.{IsCallAt, KeepsSuspendRules}
use Rattle.pass_kept_proof.specs.run_step.Step.{AtInstr, AtTerm, fetch, phis_of}
use Rattle.pass_kept_proof.specs.run_step.Values.{arg_value, index_of, number_at, part_at}
use Rattle.pass_renewed_proof.specs.Entering.{AreAligned}
use Rattle.pass_renewed_proof.specs.Renewed.{Flags, Roots}
use Rattle.pass_renewed_proof.specs.Steps.{given_at}
use Rattle.frame_classes.specs.Classes.{IsOf, suspends}
use Rattle.frame_classes.specs.declared.class.SlotClass.{SlotClass}
use Rattle.frame_classes.specs.rule_slots.Closed.{IsClosed}
use Rattle.pass_kept_proof.specs.rule_windows.Sets.{IsAfterEnd, RunsOut}

-- ---- names

-- N1 and F3: an alloca of the entry block gives the name, and nothing else does
pub record IsMadeOnce (f : Function) (a : ℕ) : Type 0 where
  pub at : ℕ
  pub ty : Ty
  pub align : ℕ
  pub stands : fetch f 0 at ≡ AtInstr (Instr.Alloca a ty align)
  pub alone : (block k : ℕ) → given_at (fetch f block k) ≡ Some a → (block ≡ 0) × (k ≡ at)
  pub no_phi : (block : ℕ) → IsFalse (phis_give a (phis_of (slice_get f.blocks block)))
  pub no_param : IsFalse (is_param f a)

-- what gives an address of a slot is the alloca, or a getelementptr of an address of the slot
pub data IsAddressOf (f : Function) (roots : ℕ → Option ℕ) (a v block at : ℕ) : Type 0 where
  Itself : v ≡ a → IsAddressOf f roots a v block at
  Part : (inbounds : Bool) (ty : Ty) (u : ℕ) (indices : List Arg) → fetch f block at ≡ AtInstr (Instr.Gep v inbounds ty (Operand.Local u) indices) → roots u ≡ Some a → IsAddressOf f roots a v block at

-- a marker stands at a point, of the alloca that its operand names
pub record IsMarkerAt (f : Function) (marker : Intrinsic) (v : ℕ) (p : Point) : Type 0 where
  pub instr : Instr
  pub stands : fetch f p.block p.at ≡ AtInstr instr
  pub is : IsTrue (is_call_of marker instr)
  pub takes : call_operand instr 1 ≡ Operand.Local v

-- ---- indices

abbrev pub IsNoLocal : Operand → Type 0
IsNoLocal (Operand.Local v) = ⊥
IsNoLocal _ = Unit {0}

abbrev pub IsSteady : Ty → Operand → Type 0
IsSteady (structure ts) x = IsNoLocal x
IsSteady _ x = Unit {0}

-- Y1: an index into a structure is a literal
abbrev pub AreSteadyInside : Module → Ty → List Arg → Type 0
AreSteadyInside m ty [] = Unit {0}
AreSteadyInside m ty (a ∷ args) = IsSteady (unnamed m ty) a.value × AreSteadyInside m (part_at m (unnamed m ty) (index_of (number_at a.ty (arg_value m [] a)))).1 args

abbrev pub AreSteady : Module → Ty → List Arg → Type 0
AreSteady m ty [] = Unit {0}
AreSteady m ty (a ∷ args) = AreSteadyInside m ty args

-- ---- one function

pub record KeepsSlots (m : Module) (f : Function) (flags : ℕ → Bool) (roots : ℕ → Option ℕ) : Type 0 where
  pub made : (a : ℕ) → IsTrue (flags a) → IsMadeOnce f a
  -- Y4: the alignment of an alloca is one
  pub aligned : AreAligned flags f
  -- the classes: what is flagged is local
  pub is_local : (a : ℕ) → IsTrue (flags a) → IsOf f a SlotClass.Local
  -- the table has the addresses of flagged slots
  pub rooted : (v a : ℕ) → roots v ≡ Some a → IsTrue (flags a) × IsTrue (has_name (addresses_of f a) v)
  pub addresses : (v a : ℕ) → IsTrue (flags a) → IsTrue (has_name (addresses_of f a) v) → roots v ≡ Some a
  -- N1: what gives an address
  pub given : (v a block at : ℕ) → roots v ≡ Some a → given_at (fetch f block at) ≡ Some v → IsAddressOf f roots a v block at
  pub no_phi : (v a block : ℕ) → roots v ≡ Some a → IsFalse (phis_give v (phis_of (slice_get f.blocks block)))
  pub no_param : (v a : ℕ) → roots v ≡ Some a → IsFalse (is_param f v)
  -- K13: a marker takes an alloca itself
  pub markers : (marker : Intrinsic) (v a : ℕ) (p : Point) → (marker ≡ Intrinsic.LifetimeStart) ⊎ (marker ≡ Intrinsic.LifetimeEnd) → IsMarkerAt f marker v p → roots v ≡ Some a → v ≡ a
  -- K8: none stands in a window or after the end
  pub open_markers : (marker : Intrinsic) (a : ℕ) (p : Point) → (marker ≡ Intrinsic.LifetimeStart) ⊎ (marker ≡ Intrinsic.LifetimeEnd) → IsTrue (flags a) → IsMarkerAt f marker a p → IsClosed f p → ⊥
  -- Y1: distances go by no local that may be poison
  pub indices : (name block at : ℕ) (inbounds : Bool) (ty : Ty) (base : Operand) (indices : List Arg) → fetch f block at ≡ AtInstr (Instr.Gep name inbounds ty base indices) → AreSteady m ty indices
  -- F1: no edge leads to the entry block
  pub entry : (block at label : ℕ) → BranchesTo label (fetch f block at) → position_of f label ≡ 0 → ⊥
  -- K3: the switch of a suspend is on its result, and its default edge leads to the end
  pub default : (s : Point) → IsCallAt Intrinsic.CoroSuspend f s → (arg : Arg) (label : ℕ) (cases : List Case) → fetch f s.block (s.at + 1) ≡ AtTerm (Terminator.Switch arg label cases) → (position_of f label ≡ end_block f) × (given_at (fetch f s.block s.at) ≡ local_of arg.value)
  -- K5: behind begin a return comes behind the end, and behind the end no begin, save, suspend or free
  pub returns : (p : Point) (arg : Option Arg) → fetch f p.block p.at ≡ AtTerm (Terminator.Ret arg) → RunsOut f p → ⊥
  pub no_begin : (p : Point) → IsAfterEnd f p → IsCallAt Intrinsic.CoroBegin f p → ⊥
  pub no_save : (p : Point) → IsAfterEnd f p → IsCallAt Intrinsic.CoroSave f p → ⊥
  pub no_suspend : (p : Point) → IsAfterEnd f p → IsCallAt Intrinsic.CoroSuspend f p → ⊥
  -- K3, K6 and K7, and K2
  pub suspends : KeepsSuspendRules f
  pub names : HasPlainNames f

-- ---- a module

pub record KeepsAllSlots (m : Module) (keep : Keep) (flags : Flags) (roots : Roots) : Type 0 where
  pub each : (func : ℕ) → KeepsSlots m (function_at m func) (flags func) (roots func)
  -- slots of coroutines alone are made anew
  pub coroutines : (func a : ℕ) → IsTrue (flags func a) → (function_at m func).coroutine ≡ true
  -- a resume hands on the addresses of the slots
  pub handed : (func a : ℕ) (s : Point) → IsTrue (flags func a) → IsTrue (has_point (suspends (function_at m func)) s)
      → IsTrue (keep func s a)

-- Instructions and terminators of one shape: the same but for their operands, and for the labels of terminators.
use Rattle.std.specs.Prelude.{◌≡◌, ℕ, Bool, true, false, List, [], ◌∷◌, Some, None, Option}
use Rattle.ir_base.specs.declared.ops.BinOp.{BinOp}
use Rattle.ir_base.specs.declared.ops.CastOp.{CastOp}
use Rattle.ir_base.specs.declared.ops.Flags.{Flags}
use Rattle.ir_base.specs.declared.ops.Pred.{Pred}
use Rattle.ir_model.specs.Ty.{Ty}
use Rattle.ir_model.specs.declared.instr.Case.{Case}
use Rattle.ir_model.specs.declared.instr.Instr.{Instr}
use Rattle.ir_model.specs.declared.instr.Terminator.{Terminator}
use Rattle.ir_model.specs.declared.operand.Arg.{Arg}
use Rattle.ir_model.specs.declared.operand.Callee.{Callee}
use Rattle.ir_model.specs.declared.operand.Operand.{Operand}
use Rattle.run_step.specs.Step.{AtInstr, AtTerm, Fetched, Nowhere}

-- as many elements on both sides, each related to the one beside it
pub data Pairwise {A B : Type 0} (R : A → B → Type 0) : List A → List B → Type 0 where
  Empty : Pairwise R [] []
  Pair : (x : A) (y : B) (xs : List A) (ys : List B) → R x y → Pairwise R xs ys → Pairwise R (x ∷ xs) (y ∷ ys)

-- an argument of the same type
pub record ArgStays (R : Operand → Operand → Type 0) (a b : Arg) : Type 0 where
  pub ty : b.ty ≡ a.ty
  pub value : R a.value b.value

abbrev pub is_indirect : Callee → Bool
is_indirect (Callee.Local v) = true
is_indirect _ = false

-- the same callee, or a local in the place of a local
pub data CalleeStays (R : Operand → Operand → Type 0) : Callee → Callee → Type 0 where
  Direct : (c : Callee) → is_indirect c ≡ false → CalleeStays R c c
  Indirect : (v n : ℕ) → R (Operand.Local v) (Operand.Local n) → CalleeStays R (Callee.Local v) (Callee.Local n)

-- the same instruction but for its operands
pub data InstrStays (R : Operand → Operand → Type 0) : Instr → Instr → Type 0 where
  Binary : (r : ℕ) (op : BinOp) (flags : Flags) (ty : Ty) (a b c d : Operand) → R a c → R b d
      → InstrStays R (Instr.Binary r op flags ty a b) (Instr.Binary r op flags ty c d)
  Icmp : (r : ℕ) (pred : Pred) (ty : Ty) (a b c d : Operand) → R a c → R b d
      → InstrStays R (Instr.Icmp r pred ty a b) (Instr.Icmp r pred ty c d)
  Select : (r : ℕ) (x y : Operand) (a b c d : Arg) → R x y → ArgStays R a c → ArgStays R b d
      → InstrStays R (Instr.Select r x a b) (Instr.Select r y c d)
  Cast : (r : ℕ) (op : CastOp) (nneg : Bool) (a c : Arg) (to : Ty) → ArgStays R a c
      → InstrStays R (Instr.Cast r op nneg a to) (Instr.Cast r op nneg c to)
  Alloca : (r : ℕ) (ty : Ty) (align : ℕ) → InstrStays R (Instr.Alloca r ty align) (Instr.Alloca r ty align)
  Load : (r : ℕ) (ty : Ty) (x y : Operand) (align : ℕ) → R x y
      → InstrStays R (Instr.Load r ty x align) (Instr.Load r ty y align)
  Store : (a c : Arg) (x y : Operand) (align : ℕ) → ArgStays R a c → R x y
      → InstrStays R (Instr.Store a x align) (Instr.Store c y align)
  Gep : (r : ℕ) (inbounds : Bool) (ty : Ty) (x y : Operand) (args now : List Arg) → R x y
      → Pairwise (ArgStays R) args now → InstrStays R (Instr.Gep r inbounds ty x args) (Instr.Gep r inbounds ty y now)
  Call : (r : Option ℕ) (must_tail : Bool) (ty : Option Ty) (c d : Callee) (args now : List Arg) → CalleeStays R c d
      → Pairwise (ArgStays R) args now
      → InstrStays R (Instr.Call r must_tail ty c args) (Instr.Call r must_tail ty d now)

-- a case of the same value, which leads to the label that is said for its label
pub record CaseStays (labels : ℕ → ℕ) (k j : Case) : Type 0 where
  pub arg : j.arg ≡ k.arg
  pub target : j.target ≡ labels k.target

-- the same terminator but for its operands and labels; the values of a switch's cases stay
pub data TermStays (R : Operand → Operand → Type 0) (labels : ℕ → ℕ) : Terminator → Terminator → Type 0 where
  Jump : (label : ℕ) → TermStays R labels (Terminator.Jump label) (Terminator.Jump (labels label))
  Branch : (x y : Operand) (a b : ℕ) → R x y
      → TermStays R labels (Terminator.Branch x a b) (Terminator.Branch y (labels a) (labels b))
  Switch : (a c : Arg) (default : ℕ) (cases now : List Case) → ArgStays R a c → Pairwise (CaseStays labels) cases now
      → TermStays R labels (Terminator.Switch a default cases) (Terminator.Switch c (labels default) now)
  Return : (a c : Arg) → ArgStays R a c → TermStays R labels (Terminator.Ret (Some a)) (Terminator.Ret (Some c))
  ReturnVoid : TermStays R labels (Terminator.Ret None) (Terminator.Ret None)
  Unreachable : TermStays R labels Terminator.Unreachable Terminator.Unreachable

-- what stands at two places; where nothing does the run is undefined
abbrev pub StaysAt : (Operand → Operand → Type 0) → (ℕ → ℕ) → Fetched → Fetched → Type 0
StaysAt R labels Nowhere b = Unit {0}
StaysAt R labels (AtInstr i) Nowhere = ⊥
StaysAt R labels (AtInstr i) (AtInstr j) = InstrStays R i j
StaysAt R labels (AtInstr i) (AtTerm t) = ⊥
StaysAt R labels (AtTerm t) Nowhere = ⊥
StaysAt R labels (AtTerm t) (AtInstr j) = ⊥
StaysAt R labels (AtTerm t) (AtTerm u) = TermStays R labels t u

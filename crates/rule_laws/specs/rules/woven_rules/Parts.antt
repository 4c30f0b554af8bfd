-- Parts of a function with other operands in the place of theirs.
use Rattle.std.specs.Prelude.{◌≡◌, ℕ, Bool, false, List, Option}
use Rattle.ir_laws.specs.ir_base.declared.ops.BinOp.{BinOp}
use Rattle.ir_laws.specs.ir_base.declared.ops.CastOp.{CastOp}
use Rattle.ir_laws.specs.ir_base.declared.ops.Flags.{Flags}
use Rattle.ir_laws.specs.ir_base.declared.ops.Pred.{Pred}
use Rattle.ir_laws.specs.ir_model.Ty.{Ty}
use Rattle.ir_laws.specs.ir_model.declared.instr.Incoming.{Incoming}
use Rattle.ir_laws.specs.ir_model.declared.instr.Instr.{Instr}
use Rattle.ir_laws.specs.ir_model.declared.instr.Phi.{Phi}
use Rattle.ir_laws.specs.ir_model.declared.operand.Arg.{Arg}
use Rattle.ir_laws.specs.ir_model.declared.operand.Callee.{Callee}
use Rattle.ir_laws.specs.ir_model.declared.operand.Operand.{Operand}
use Rattle.rule_locals.specs.Addresses.{is_indirect}
use Rattle.ir_laws.specs.facts.woven_rules.Pairs.{Pairwise}
use Rattle.ir_laws.specs.facts.woven_rules.Parts.{ArgStays}

-- the same callee, or a local in the place of a local
pub data CalleeStays (R : Operand → Operand → Type 0) : Callee → Callee → Type 0 where
  Direct : (c : Callee) → is_indirect c ≡ false → CalleeStays R c c
  Indirect : (v n : ℕ) → R (Operand.Local v) (Operand.Local n) → CalleeStays R (Callee.Local v) (Callee.Local n)

-- the same instruction but for its operands
pub data InstrStays (R : Operand → Operand → Type 0) : Instr → Instr → Type 0 where
  Binary : (r : ℕ) (op : BinOp) (flags : Flags) (ty : Ty) (a b c d : Operand) → R a c → R b d → InstrStays R (Instr.Binary r op flags ty a b) (Instr.Binary r op flags ty c d)
  Icmp : (r : ℕ) (pred : Pred) (ty : Ty) (a b c d : Operand) → R a c → R b d → InstrStays R (Instr.Icmp r pred ty a b) (Instr.Icmp r pred ty c d)
  Select : (r : ℕ) (x y : Operand) (a b c d : Arg) → R x y → ArgStays R a c → ArgStays R b d → InstrStays R (Instr.Select r x a b) (Instr.Select r y c d)
  Cast : (r : ℕ) (op : CastOp) (nneg : Bool) (a c : Arg) (to : Ty) → ArgStays R a c → InstrStays R (Instr.Cast r op nneg a to) (Instr.Cast r op nneg c to)
  Alloca : (r : ℕ) (ty : Ty) (align : ℕ) → InstrStays R (Instr.Alloca r ty align) (Instr.Alloca r ty align)
  Load : (r : ℕ) (ty : Ty) (x y : Operand) (align : ℕ) → R x y → InstrStays R (Instr.Load r ty x align) (Instr.Load r ty y align)
  Store : (a c : Arg) (x y : Operand) (align : ℕ) → ArgStays R a c → R x y → InstrStays R (Instr.Store a x align) (Instr.Store c y align)
  Gep : (r : ℕ) (inbounds : Bool) (ty : Ty) (x y : Operand) (args now : List Arg) → R x y → Pairwise (ArgStays R) args now → InstrStays R (Instr.Gep r inbounds ty x args) (Instr.Gep r inbounds ty y now)
  Call : (r : Option ℕ) (must_tail : Bool) (ty : Option Ty) (c d : Callee) (args now : List Arg) → CalleeStays R c d → Pairwise (ArgStays R) args now → InstrStays R (Instr.Call r must_tail ty c args) (Instr.Call r must_tail ty d now)

-- an operand of a phi, by the label from which it comes
pub record IncomingStays (R : ℕ → Operand → Operand → Type 0) (i j : Incoming) : Type 0 where
  pub from : j.from ≡ i.from
  pub value : R i.from i.value j.value

-- the same phi but for its operands
pub record PhiStays (R : ℕ → Operand → Operand → Type 0) (p q : Phi) : Type 0 where
  pub result : q.result ≡ p.result
  pub ty : q.ty ≡ p.ty
  pub incoming : Pairwise (IncomingStays R) p.incoming q.incoming

-- Modules that have a text: positions are those of names, types have widths, and each part is one that the grammar has.
use Rattle.std.specs.Prelude.{◌≡◌, ℕ, Bool, false, List, [], ◌∷◌, Option, Some, None, slice_get}
use Rattle.ir_base.specs.declared.name.Name.{Name}
use Rattle.ir_base.specs.declared.ops.BinOp.{BinOp}
use Rattle.ir_base.specs.declared.ops.CastOp.{CastOp}
use Rattle.ir_base.specs.declared.ops.Flags.{Flags}
use Rattle.ir_model.specs.Table.{callee_named}
use Rattle.ir_model.specs.Ty.{Ty, Tys, array, field, int, named, none, ptr, structure, token}
use Rattle.ir_model.specs.TypeView.{bits_of}
use Rattle.ir_model.specs.declared.instr.Case.{Case}
use Rattle.ir_model.specs.declared.instr.Incoming.{Incoming}
use Rattle.ir_model.specs.declared.instr.Instr.{Instr}
use Rattle.ir_model.specs.declared.instr.Phi.{Phi}
use Rattle.ir_model.specs.declared.instr.Terminator.{Terminator}
use Rattle.ir_model.specs.declared.ir_type.IntWidth.{IntWidth}
use Rattle.ir_model.specs.declared.module.Block.{Block}
use Rattle.ir_model.specs.declared.module.Declaration.{Declaration}
use Rattle.ir_model.specs.declared.module.Function.{Function}
use Rattle.ir_model.specs.declared.module.GlobalItem.{GlobalItem}
use Rattle.ir_model.specs.declared.module.Module.{Module}
use Rattle.ir_model.specs.declared.module.Param.{Param}
use Rattle.ir_model.specs.declared.module.TypeItem.{TypeItem}
use Rattle.ir_model.specs.declared.operand.Arg.{Arg}
use Rattle.ir_model.specs.declared.operand.Callee.{Callee}
use Rattle.ir_model.specs.declared.operand.Operand.{Operand}
use Rattle.ir_base.specs.declared.ops.BinOp.TheVariants as ops
use Rattle.ir_base.specs.declared.ops.CastOp.TheVariants as casts
use Rattle.ir_model.specs.declared.instr.Instr.TheVariants as instrs
use Rattle.ir_model.specs.declared.instr.Terminator.TheVariants as terms
use Rattle.ir_model.specs.declared.operand.Callee.TheVariants as callees
use Rattle.ir_model.specs.declared.operand.Operand.TheVariants as operands

abbrev pub Each : {A : Type 0} → (A → Type 0) → List A → Type 0
Each P [] = Unit {0}
Each P (x ∷ xs) = P x × Each P xs

-- one or more
abbrev pub Some_of : {A : Type 0} → (A → Type 0) → List A → Type 0
Some_of P [] = ⊥
Some_of P (x ∷ xs) = P x × Each P xs

-- a name stands at the position
abbrev pub IsPlaced : List Name → ℕ → Type 0
IsPlaced names i = (n : Name) × (slice_get names i ≡ Some n)

abbrev mutual
  -- its integer types have widths
  pub IsType : Ty → Type 0
  IsType (int bits) = (w : IntWidth) × (bits ≡ bits_of w)
  IsType ptr = Unit {0}
  IsType token = Unit {0}
  IsType (array n t) = IsType t
  IsType (structure fs) = AreTypes fs
  IsType (named n) = Unit {0}

  pub AreTypes : Tys → Type 0
  AreTypes none = Unit {0}
  AreTypes (field t fs) = IsType t × AreTypes fs

abbrev pub IsResult : Option Ty → Type 0
IsResult None = Unit {0}
IsResult (Some t) = IsType t

abbrev pub IsOperand : List Name → Operand → Type 0
IsOperand names (operands.Local i) = IsPlaced names i
IsOperand names _ = Unit {0}

abbrev pub IsArg : List Name → Arg → Type 0
IsArg names a = IsType a.ty × IsOperand names a.value

-- a name of the table of intrinsics and allocators stands for what the table says
abbrev pub IsCallee : List Name → Callee → Type 0
IsCallee names (callees.Local i) = IsPlaced names i
IsCallee names (callees.Named n) = callees.Named n ≡ callee_named n
IsCallee names _ = Unit {0}

-- the flags that an operation may have
abbrev pub MayHave : BinOp → Flags → Type 0
MayHave ops.Add f = (f.exact ≡ false) × (f.disjoint ≡ false)
MayHave ops.Sub f = (f.exact ≡ false) × (f.disjoint ≡ false)
MayHave ops.Mul f = (f.exact ≡ false) × (f.disjoint ≡ false)
MayHave ops.Shl f = (f.exact ≡ false) × (f.disjoint ≡ false)
MayHave ops.UDiv f = (f.nuw ≡ false) × (f.nsw ≡ false) × (f.disjoint ≡ false)
MayHave ops.SDiv f = (f.nuw ≡ false) × (f.nsw ≡ false) × (f.disjoint ≡ false)
MayHave ops.LShr f = (f.nuw ≡ false) × (f.nsw ≡ false) × (f.disjoint ≡ false)
MayHave ops.AShr f = (f.nuw ≡ false) × (f.nsw ≡ false) × (f.disjoint ≡ false)
MayHave ops.Or f = (f.nuw ≡ false) × (f.nsw ≡ false) × (f.exact ≡ false)
MayHave _ f = (f.nuw ≡ false) × (f.nsw ≡ false) × (f.exact ≡ false) × (f.disjoint ≡ false)

-- `zext` alone may have `nneg`
abbrev pub MayBe : CastOp → Bool → Type 0
MayBe casts.Zext nneg = Unit {0}
MayBe _ nneg = nneg ≡ false

abbrev pub IsSet : List Name → Option ℕ → Type 0
IsSet names None = Unit {0}
IsSet names (Some r) = IsPlaced names r

abbrev pub IsInstr : List Name → Instr → Type 0
IsInstr names (instrs.Binary r op f t a b) = IsPlaced names r × MayHave op f × IsType t × IsOperand names a × IsOperand names b
IsInstr names (instrs.Icmp r p t a b) = IsPlaced names r × IsType t × IsOperand names a × IsOperand names b
IsInstr names (instrs.Select r c a b) = IsPlaced names r × IsOperand names c × IsArg names a × IsArg names b
IsInstr names (instrs.Cast r op nneg a t) = IsPlaced names r × MayBe op nneg × IsArg names a × IsType t
IsInstr names (instrs.Alloca r t n) = IsPlaced names r × IsType t
IsInstr names (instrs.Load r t p n) = IsPlaced names r × IsType t × IsOperand names p
IsInstr names (instrs.Store a p n) = IsArg names a × IsOperand names p
IsInstr names (instrs.Gep r inbounds t p is) = IsPlaced names r × IsType t × IsOperand names p × Some_of (IsArg names) is
IsInstr names (instrs.Call r must t c args) = IsSet names r × IsResult t × IsCallee names c × Each (IsArg names) args

abbrev pub IsIncoming : List Name → Incoming → Type 0
IsIncoming names i = IsOperand names i.value × IsPlaced names i.from

abbrev pub IsPhi : List Name → Phi → Type 0
IsPhi names p = IsPlaced names p.result × IsType p.ty × Some_of (IsIncoming names) p.incoming

abbrev pub IsCase : List Name → Case → Type 0
IsCase names c = IsArg names c.arg × IsPlaced names c.target

abbrev pub IsTerminator : List Name → Terminator → Type 0
IsTerminator names (terms.Jump l) = IsPlaced names l
IsTerminator names (terms.Branch c l m) = IsOperand names c × IsPlaced names l × IsPlaced names m
IsTerminator names (terms.Switch a l cases) = IsArg names a × IsPlaced names l × Each (IsCase names) cases
IsTerminator names (terms.Ret None) = Unit {0}
IsTerminator names (terms.Ret (Some a)) = IsArg names a
IsTerminator names terms.Unreachable = Unit {0}

abbrev pub IsBlock : List Name → Block → Type 0
IsBlock names b = IsPlaced names b.label × Each (IsPhi names) b.phis × Each (IsInstr names) b.instrs × IsTerminator names b.term

abbrev pub IsParam : List Name → Param → Type 0
IsParam names p = IsType p.ty × IsPlaced names p.name

-- a function has a block
abbrev pub IsFunction : Function → Type 0
IsFunction f = IsResult f.result × Each (IsParam f.names) f.params × Some_of (IsBlock f.names) f.blocks

abbrev pub IsDeclaration : Declaration → Type 0
IsDeclaration d = IsResult d.result × Each IsType d.params

-- a named type is a structure
abbrev pub IsTypeItem : TypeItem → Type 0
IsTypeItem t = (fs : Tys) × (t.ty ≡ structure fs) × AreTypes fs

abbrev pub IsScalar : Ty → Type 0
IsScalar (int bits) = (w : IntWidth) × (bits ≡ bits_of w)
IsScalar ptr = Unit {0}
IsScalar _ = ⊥

abbrev pub IsInitial : Operand → Type 0
IsInitial (operands.Local i) = ⊥
IsInitial operands.None = ⊥
IsInitial operands.Poison = ⊥
IsInitial _ = Unit {0}

abbrev pub IsGlobal : GlobalItem → Type 0
IsGlobal g = IsScalar g.ty × IsInitial g.init

-- all its parts are parts of the grammar
pub record IsShaped (m : Module) : Type 0 where
  pub types : Each IsTypeItem m.types
  pub globals : Each IsGlobal m.globals
  pub declarations : Each IsDeclaration m.declarations
  pub functions : Each IsFunction m.functions

-- The words of instructions.
use Rattle.std.specs.Prelude.{ℕ, Bool, List, [], ◌++◌, codes, if◌then◌else◌}
use Rattle.ir_base.specs.declared.ops.BinOp.{BinOp}
use Rattle.ir_base.specs.declared.ops.CastOp.{CastOp}
use Rattle.ir_base.specs.declared.ops.Flags.{Flags}
use Rattle.ir_base.specs.declared.ops.Pred.{Pred}

abbrev pub binary_word : BinOp → List ℕ
binary_word BinOp.Add = codes "add"
binary_word BinOp.Sub = codes "sub"
binary_word BinOp.Mul = codes "mul"
binary_word BinOp.Shl = codes "shl"
binary_word BinOp.UDiv = codes "udiv"
binary_word BinOp.SDiv = codes "sdiv"
binary_word BinOp.LShr = codes "lshr"
binary_word BinOp.AShr = codes "ashr"
binary_word BinOp.URem = codes "urem"
binary_word BinOp.SRem = codes "srem"
binary_word BinOp.And = codes "and"
binary_word BinOp.Or = codes "or"
binary_word BinOp.Xor = codes "xor"

abbrev pub pred_word : Pred → List ℕ
pred_word Pred.Eq = codes "eq"
pred_word Pred.Ne = codes "ne"
pred_word Pred.Ugt = codes "ugt"
pred_word Pred.Uge = codes "uge"
pred_word Pred.Ult = codes "ult"
pred_word Pred.Ule = codes "ule"
pred_word Pred.Sgt = codes "sgt"
pred_word Pred.Sge = codes "sge"
pred_word Pred.Slt = codes "slt"
pred_word Pred.Sle = codes "sle"

abbrev pub cast_word : CastOp → List ℕ
cast_word CastOp.Trunc = codes "trunc"
cast_word CastOp.Zext = codes "zext"
cast_word CastOp.Sext = codes "sext"

-- a word that stands only where it is set, a space before it
abbrev pub flag_text : Bool → List ℕ → List ℕ
flag_text is_set word = if is_set then codes " " ++ word else []

abbrev pub flags_text : Flags → List ℕ
flags_text f =
    flag_text f.nuw (codes "nuw") ++ flag_text f.nsw (codes "nsw") ++ flag_text f.exact (codes "exact") ++ flag_text f.disjoint (codes "disjoint")

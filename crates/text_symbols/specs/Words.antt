-- The words of the grammar.
use Rattle.std.specs.Prelude.{ℕ, List, [], ◌∷◌, codes, if◌then◌else◌, nat_eq, Bool, false, ◌&&◌, ◌==◌, Option, Some, None, unwrap_or}
use Rattle.std.specs.Cmp.Lexicographic.{pointwise}
use Rattle.ir_base.specs.declared.ops.BinOp.{BinOp}
use Rattle.ir_base.specs.declared.ops.CastOp.{CastOp}
use Rattle.ir_base.specs.declared.ops.Pred.{Pred}
use Rattle.ir_model.specs.declared.ir_type.IntWidth.{IntWidth}
use Rattle.text_symbols.specs.Numbers.{is_digit, are_digits}
use Rattle.text_symbols.specs.declared.word.Word.{Word}
use Rattle.text_symbols.specs.declared.word.Word.TheVariants as words

abbrev same : List ℕ → List ℕ → Bool
same = pointwise nat_eq

abbrev pub word_in : List (List ℕ × Word) → List ℕ → Option Word
word_in [] s = None
word_in (e ∷ es) s = if same s e.0 then Some e.1 else word_in es s

-- the words that the grammar writes out, and those that are no attributes
abbrev pub the_words : List (List ℕ × Word)
the_words =
    (codes "source_filename", words.SourceFilename) ∷
    (codes "target", words.Target) ∷
    (codes "comdat", words.Comdat) ∷
    (codes "type", words.Type) ∷
    (codes "global", words.Global) ∷
    (codes "constant", words.Constant) ∷
    (codes "attributes", words.Attributes) ∷
    (codes "distinct", words.Distinct) ∷
    (codes "declare", words.Declare) ∷
    (codes "define", words.Define) ∷
    (codes "align", words.Align) ∷
    (codes "presplitcoroutine", words.Presplitcoroutine) ∷
    (codes "void", words.Void) ∷
    (codes "i1", words.Int IntWidth.I1) ∷
    (codes "i8", words.Int IntWidth.I8) ∷
    (codes "i16", words.Int IntWidth.I16) ∷
    (codes "i32", words.Int IntWidth.I32) ∷
    (codes "i64", words.Int IntWidth.I64) ∷
    (codes "ptr", words.Ptr) ∷
    (codes "token", words.Token) ∷
    (codes "x", words.X) ∷
    (codes "phi", words.Phi) ∷
    (codes "icmp", words.Icmp) ∷
    (codes "select", words.Select) ∷
    (codes "trunc", words.Cast CastOp.Trunc) ∷
    (codes "zext", words.Cast CastOp.Zext) ∷
    (codes "sext", words.Cast CastOp.Sext) ∷
    (codes "nneg", words.Nneg) ∷
    (codes "to", words.To) ∷
    (codes "alloca", words.Alloca) ∷
    (codes "load", words.Load) ∷
    (codes "store", words.Store) ∷
    (codes "getelementptr", words.Getelementptr) ∷
    (codes "inbounds", words.Inbounds) ∷
    (codes "tail", words.Tail) ∷
    (codes "notail", words.Notail) ∷
    (codes "musttail", words.Musttail) ∷
    (codes "call", words.Call) ∷
    (codes "add", words.Bin BinOp.Add) ∷
    (codes "sub", words.Bin BinOp.Sub) ∷
    (codes "mul", words.Bin BinOp.Mul) ∷
    (codes "shl", words.Bin BinOp.Shl) ∷
    (codes "udiv", words.Bin BinOp.UDiv) ∷
    (codes "sdiv", words.Bin BinOp.SDiv) ∷
    (codes "lshr", words.Bin BinOp.LShr) ∷
    (codes "ashr", words.Bin BinOp.AShr) ∷
    (codes "urem", words.Bin BinOp.URem) ∷
    (codes "srem", words.Bin BinOp.SRem) ∷
    (codes "and", words.Bin BinOp.And) ∷
    (codes "or", words.Bin BinOp.Or) ∷
    (codes "xor", words.Bin BinOp.Xor) ∷
    (codes "nuw", words.Nuw) ∷
    (codes "nsw", words.Nsw) ∷
    (codes "exact", words.Exact) ∷
    (codes "disjoint", words.Disjoint) ∷
    (codes "eq", words.Pred Pred.Eq) ∷
    (codes "ne", words.Pred Pred.Ne) ∷
    (codes "ugt", words.Pred Pred.Ugt) ∷
    (codes "uge", words.Pred Pred.Uge) ∷
    (codes "ult", words.Pred Pred.Ult) ∷
    (codes "ule", words.Pred Pred.Ule) ∷
    (codes "sgt", words.Pred Pred.Sgt) ∷
    (codes "sge", words.Pred Pred.Sge) ∷
    (codes "slt", words.Pred Pred.Slt) ∷
    (codes "sle", words.Pred Pred.Sle) ∷
    (codes "br", words.Br) ∷
    (codes "label", words.Label) ∷
    (codes "switch", words.Switch) ∷
    (codes "ret", words.Ret) ∷
    (codes "unreachable", words.Unreachable) ∷
    (codes "true", words.True) ∷
    (codes "false", words.False) ∷
    (codes "null", words.Null) ∷
    (codes "none", words.None) ∷
    (codes "poison", words.Poison) ∷
    (codes "byval", words.Other) ∷
    (codes "sret", words.Other) ∷
    (codes "inalloca", words.Other) ∷
    (codes "preallocated", words.Other) ∷
    (codes "swiftself", words.Other) ∷
    (codes "swifterror", words.Other) ∷
    (codes "addrspace", words.Other) ∷
    (codes "asm", words.Other) ∷
    (codes "fence", words.Other) ∷ []

-- an `i` and digits
abbrev pub is_integer_type : List ℕ → Bool
is_integer_type [] = false
is_integer_type (b ∷ []) = false
is_integer_type (b ∷ c ∷ bs) = (b == 105) && (is_digit c && are_digits bs)

abbrev pub begins_dollar : List ℕ → Bool
begins_dollar [] = false
begins_dollar (b ∷ bs) = b == 36

-- what a word is that the grammar doesn't write out
abbrev pub plain_word : List ℕ → Word
plain_word s = if begins_dollar s then words.Dollar else (if is_integer_type s then words.Other else words.Attr)

unfoldable pub word_of : List ℕ → Word
word_of s = unwrap_or (word_in the_words s) (plain_word s)

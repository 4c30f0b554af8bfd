-- The written-out words, with the blanks and marks beside them.
use Rattle.std.proofs.Common.{Bool, true, false, [], ◌∷◌, codes, refl}
use Rattle.ir_base.specs.declared.ops.BinOp.{BinOp}
use Rattle.ir_base.specs.declared.ops.CastOp.{CastOp}
use Rattle.ir_base.specs.declared.ops.Pred.{Pred}
use Rattle.ir_model.specs.declared.ir_type.IntWidth.{IntWidth}
use Rattle.text_symbols.specs.Words.{word_of}
use Rattle.text_canonical.specs.canonical.Items.{kind_word}
use Rattle.text_canonical.specs.canonical.ItemSymbols.{kind_of}
use Rattle.text_canonical.specs.canonical.Marks.{word, equals, comma, open_round, close_round, open_square, close_square, open_curly, close_curly}
use Rattle.text_canonical.specs.canonical.Words.{binary_word, cast_word, pred_word}
use Rattle.text_canonical.proofs.canonical.Lexed.{Lexed}
use Rattle.text_canonical.proofs.canonical.Pieces.{gap, sign, name, fitting, spelled_word}
use Rattle.text_symbols.specs.declared.word.Word.TheVariants as words

pub binary_lexed : (op : BinOp) → Lexed false (binary_word op) (word (words.Bin op) ∷ [])
unfolding word_of
binary_lexed BinOp.Add = spelled_word (codes "add") refl
binary_lexed BinOp.Sub = spelled_word (codes "sub") refl
binary_lexed BinOp.Mul = spelled_word (codes "mul") refl
binary_lexed BinOp.Shl = spelled_word (codes "shl") refl
binary_lexed BinOp.UDiv = spelled_word (codes "udiv") refl
binary_lexed BinOp.SDiv = spelled_word (codes "sdiv") refl
binary_lexed BinOp.LShr = spelled_word (codes "lshr") refl
binary_lexed BinOp.AShr = spelled_word (codes "ashr") refl
binary_lexed BinOp.URem = spelled_word (codes "urem") refl
binary_lexed BinOp.SRem = spelled_word (codes "srem") refl
binary_lexed BinOp.And = spelled_word (codes "and") refl
binary_lexed BinOp.Or = spelled_word (codes "or") refl
binary_lexed BinOp.Xor = spelled_word (codes "xor") refl

pub pred_lexed : (p : Pred) → Lexed false (pred_word p) (word (words.Pred p) ∷ [])
unfolding word_of
pred_lexed Pred.Eq = spelled_word (codes "eq") refl
pred_lexed Pred.Ne = spelled_word (codes "ne") refl
pred_lexed Pred.Ugt = spelled_word (codes "ugt") refl
pred_lexed Pred.Uge = spelled_word (codes "uge") refl
pred_lexed Pred.Ult = spelled_word (codes "ult") refl
pred_lexed Pred.Ule = spelled_word (codes "ule") refl
pred_lexed Pred.Sgt = spelled_word (codes "sgt") refl
pred_lexed Pred.Sge = spelled_word (codes "sge") refl
pred_lexed Pred.Slt = spelled_word (codes "slt") refl
pred_lexed Pred.Sle = spelled_word (codes "sle") refl

pub cast_lexed : (op : CastOp) → Lexed false (cast_word op) (word (words.Cast op) ∷ [])
unfolding word_of
cast_lexed CastOp.Trunc = spelled_word (codes "trunc") refl
cast_lexed CastOp.Zext = spelled_word (codes "zext") refl
cast_lexed CastOp.Sext = spelled_word (codes "sext") refl

pub kind_lexed : (constant : Bool) → Lexed false (kind_word constant) (word (kind_of constant) ∷ [])
unfolding word_of
kind_lexed true = spelled_word (codes "constant") refl
kind_lexed false = spelled_word (codes "global") refl

-- ---- words alone

pub i1_lexed : Lexed false (codes "i1") (word (words.Int IntWidth.I1) ∷ [])
unfolding word_of
i1_lexed = spelled_word (codes "i1") refl

pub i8_lexed : Lexed false (codes "i8") (word (words.Int IntWidth.I8) ∷ [])
unfolding word_of
i8_lexed = spelled_word (codes "i8") refl

pub i16_lexed : Lexed false (codes "i16") (word (words.Int IntWidth.I16) ∷ [])
unfolding word_of
i16_lexed = spelled_word (codes "i16") refl

pub i32_lexed : Lexed false (codes "i32") (word (words.Int IntWidth.I32) ∷ [])
unfolding word_of
i32_lexed = spelled_word (codes "i32") refl

pub i64_lexed : Lexed false (codes "i64") (word (words.Int IntWidth.I64) ∷ [])
unfolding word_of
i64_lexed = spelled_word (codes "i64") refl

pub ptr_lexed : Lexed false (codes "ptr") (word words.Ptr ∷ [])
unfolding word_of
ptr_lexed = spelled_word (codes "ptr") refl

pub token_lexed : Lexed false (codes "token") (word words.Token ∷ [])
unfolding word_of
token_lexed = spelled_word (codes "token") refl

pub true_lexed : Lexed false (codes "true") (word words.True ∷ [])
unfolding word_of
true_lexed = spelled_word (codes "true") refl

pub false_lexed : Lexed false (codes "false") (word words.False ∷ [])
unfolding word_of
false_lexed = spelled_word (codes "false") refl

pub null_lexed : Lexed false (codes "null") (word words.Null ∷ [])
unfolding word_of
null_lexed = spelled_word (codes "null") refl

pub none_lexed : Lexed false (codes "none") (word words.None ∷ [])
unfolding word_of
none_lexed = spelled_word (codes "none") refl

pub poison_lexed : Lexed false (codes "poison") (word words.Poison ∷ [])
unfolding word_of
poison_lexed = spelled_word (codes "poison") refl

pub void_lexed : Lexed false (codes "void") (word words.Void ∷ [])
unfolding word_of
void_lexed = spelled_word (codes "void") refl

pub nuw_lexed : Lexed false (codes "nuw") (word words.Nuw ∷ [])
unfolding word_of
nuw_lexed = spelled_word (codes "nuw") refl

pub nsw_lexed : Lexed false (codes "nsw") (word words.Nsw ∷ [])
unfolding word_of
nsw_lexed = spelled_word (codes "nsw") refl

pub exact_lexed : Lexed false (codes "exact") (word words.Exact ∷ [])
unfolding word_of
exact_lexed = spelled_word (codes "exact") refl

pub disjoint_lexed : Lexed false (codes "disjoint") (word words.Disjoint ∷ [])
unfolding word_of
disjoint_lexed = spelled_word (codes "disjoint") refl

pub nneg_lexed : Lexed false (codes "nneg") (word words.Nneg ∷ [])
unfolding word_of
nneg_lexed = spelled_word (codes "nneg") refl

pub inbounds_lexed : Lexed false (codes "inbounds") (word words.Inbounds ∷ [])
unfolding word_of
inbounds_lexed = spelled_word (codes "inbounds") refl

pub getelementptr_lexed : Lexed false (codes "getelementptr") (word words.Getelementptr ∷ [])
unfolding word_of
getelementptr_lexed = spelled_word (codes "getelementptr") refl

pub unreachable_lexed : Lexed false (codes "unreachable") (word words.Unreachable ∷ [])
unfolding word_of
unreachable_lexed = spelled_word (codes "unreachable") refl

pub presplit_lexed : Lexed false (codes " presplitcoroutine") (word words.Presplitcoroutine ∷ [])
unfolding word_of
presplit_lexed = fitting (gap 32) (name 112 (codes "resplitcoroutine") ∷ []) refl

pub ret_void_lexed : Lexed false (codes "ret void") (word words.Ret ∷ word words.Void ∷ [])
unfolding word_of
ret_void_lexed = fitting (name 114 (codes "et")) (gap 32 ∷ name 118 (codes "oid") ∷ []) refl

-- ---- words with blanks and marks beside them

pub x_lexed : Lexed true (codes " x ") (word words.X ∷ [])
unfolding word_of
x_lexed = fitting (gap 32) (name 120 [] ∷ gap 32 ∷ []) refl

pub label_word_lexed : Lexed true (codes "label ") (word words.Label ∷ [])
unfolding word_of
label_word_lexed = fitting (name 108 (codes "abel")) (gap 32 ∷ []) refl

pub icmp_lexed : Lexed true (codes "icmp ") (word words.Icmp ∷ [])
unfolding word_of
icmp_lexed = fitting (name 105 (codes "cmp")) (gap 32 ∷ []) refl

pub select_lexed : Lexed true (codes "select i1 ") (word words.Select ∷ word (words.Int IntWidth.I1) ∷ [])
unfolding word_of
select_lexed = fitting (name 115 (codes "elect")) (gap 32 ∷ name 105 (codes "1") ∷ gap 32 ∷ []) refl

pub to_lexed : Lexed true (codes " to ") (word words.To ∷ [])
unfolding word_of
to_lexed = fitting (gap 32) (name 116 (codes "o") ∷ gap 32 ∷ []) refl

pub alloca_lexed : Lexed true (codes "alloca ") (word words.Alloca ∷ [])
unfolding word_of
alloca_lexed = fitting (name 97 (codes "lloca")) (gap 32 ∷ []) refl

pub load_lexed : Lexed true (codes "load ") (word words.Load ∷ [])
unfolding word_of
load_lexed = fitting (name 108 (codes "oad")) (gap 32 ∷ []) refl

pub store_lexed : Lexed true (codes "store ") (word words.Store ∷ [])
unfolding word_of
store_lexed = fitting (name 115 (codes "tore")) (gap 32 ∷ []) refl

pub call_lexed : Lexed true (codes "call ") (word words.Call ∷ [])
unfolding word_of
call_lexed = fitting (name 99 (codes "all")) (gap 32 ∷ []) refl

pub musttail_lexed : Lexed true (codes "musttail ") (word words.Musttail ∷ [])
unfolding word_of
musttail_lexed = fitting (name 109 (codes "usttail")) (gap 32 ∷ []) refl

pub comma_ptr_lexed : Lexed true (codes ", ptr ") (comma ∷ word words.Ptr ∷ [])
unfolding word_of
comma_ptr_lexed = fitting (sign 44) (gap 32 ∷ name 112 (codes "tr") ∷ gap 32 ∷ []) refl

pub comma_align_lexed : Lexed true (codes ", align ") (comma ∷ word words.Align ∷ [])
unfolding word_of
comma_align_lexed = fitting (sign 44) (gap 32 ∷ name 97 (codes "lign") ∷ gap 32 ∷ []) refl

pub phi_word_lexed : Lexed true (codes " = phi ") (equals ∷ word words.Phi ∷ [])
unfolding word_of
phi_word_lexed = fitting (gap 32) (sign 61 ∷ gap 32 ∷ name 112 (codes "hi") ∷ gap 32 ∷ []) refl

pub br_lexed : Lexed true (codes "br ") (word words.Br ∷ [])
unfolding word_of
br_lexed = fitting (name 98 (codes "r")) (gap 32 ∷ []) refl

pub br_i1_lexed : Lexed true (codes "br i1 ") (word words.Br ∷ word (words.Int IntWidth.I1) ∷ [])
unfolding word_of
br_i1_lexed = fitting (name 98 (codes "r")) (gap 32 ∷ name 105 (codes "1") ∷ gap 32 ∷ []) refl

pub switch_lexed : Lexed true (codes "switch ") (word words.Switch ∷ [])
unfolding word_of
switch_lexed = fitting (name 115 (codes "witch")) (gap 32 ∷ []) refl

pub ret_lexed : Lexed true (codes "ret ") (word words.Ret ∷ [])
unfolding word_of
ret_lexed = fitting (name 114 (codes "et")) (gap 32 ∷ []) refl

pub type_word_lexed : Lexed true (codes " = type ") (equals ∷ word words.Type ∷ [])
unfolding word_of
type_word_lexed = fitting (gap 32) (sign 61 ∷ gap 32 ∷ name 116 (codes "ype") ∷ gap 32 ∷ []) refl

pub declare_lexed : Lexed true (codes "declare ") (word words.Declare ∷ [])
unfolding word_of
declare_lexed = fitting (name 100 (codes "eclare")) (gap 32 ∷ []) refl

pub define_lexed : Lexed true (codes "define ") (word words.Define ∷ [])
unfolding word_of
define_lexed = fitting (name 100 (codes "efine")) (gap 32 ∷ []) refl

-- ---- blanks and marks

pub space : Lexed true (codes " ") []
space = fitting (gap 32) [] refl

pub spaces : Lexed true (codes "  ") []
spaces = fitting (gap 32) (gap 32 ∷ []) refl

pub line : Lexed true (codes "\n") []
line = fitting (gap 10) [] refl

pub comma_space : Lexed true (codes ", ") (comma ∷ [])
comma_space = fitting (sign 44) (gap 32 ∷ []) refl

pub equals_space : Lexed true (codes " = ") (equals ∷ [])
equals_space = fitting (gap 32) (sign 61 ∷ gap 32 ∷ []) refl

pub round_open : Lexed true (codes "(") (open_round ∷ [])
round_open = fitting (sign 40) [] refl

pub round_close : Lexed true (codes ")") (close_round ∷ [])
round_close = fitting (sign 41) [] refl

pub round_line : Lexed true (codes ")\n") (close_round ∷ [])
round_line = fitting (sign 41) (gap 10 ∷ []) refl

pub square_open : Lexed true (codes "[") (open_square ∷ [])
square_open = fitting (sign 91) [] refl

pub square_space : Lexed true (codes "[ ") (open_square ∷ [])
square_space = fitting (sign 91) (gap 32 ∷ []) refl

pub space_square_space : Lexed true (codes " [ ") (open_square ∷ [])
space_square_space = fitting (gap 32) (sign 91 ∷ gap 32 ∷ []) refl

pub square_close : Lexed true (codes "]") (close_square ∷ [])
square_close = fitting (sign 93) [] refl

pub space_square : Lexed true (codes " ]") (close_square ∷ [])
space_square = fitting (gap 32) (sign 93 ∷ []) refl

pub curly_both : Lexed true (codes "{}") (open_curly ∷ close_curly ∷ [])
curly_both = fitting (sign 123) (sign 125 ∷ []) refl

pub curly_space : Lexed true (codes "{ ") (open_curly ∷ [])
curly_space = fitting (sign 123) (gap 32 ∷ []) refl

pub space_curly : Lexed true (codes " }") (close_curly ∷ [])
space_curly = fitting (gap 32) (sign 125 ∷ []) refl

pub curly_open_line : Lexed true (codes " {\n") (open_curly ∷ [])
curly_open_line = fitting (gap 32) (sign 123 ∷ gap 10 ∷ []) refl

pub curly_close_line : Lexed true (codes "}\n") (close_curly ∷ [])
curly_close_line = fitting (sign 125) (gap 10 ∷ []) refl

-- What each instruction asks of its types and operands.
--
--   instruction        asked
--   binary             an integer type, which both operands fit
--   icmp               an integer type, or ptr with eq and ne; both operands fit it
--   select             an i1, and two operands of one type, an integer type or ptr
--   trunc              a wider integer type, which the operand fits, to a narrower one
--   zext, sext         a narrower integer type, which the operand fits, to a wider one
--   alloca             a type without tokens
--   load               an integer type or ptr, from a ptr
--   store              an operand of an integer type or ptr, to a ptr
--   getelementptr      a type without tokens, a ptr, indices that lead into the type, each of an integer type and an operand of it
--   call               a result void, an integer type or ptr; operands of integer types and ptr, each of its type; a local
--                      that is called is a ptr; of an intrinsic results and operands may be tokens too, by the table (Y2);
--                      of coro.suspend the token is none or a save's; a call of type void has no result name
use Rattle.std.specs.Prelude.{ℕ, Bool, true, false, List, [], Some, None, Option, nat_lt, ◌&&◌, ◌||◌, ◌∷◌}
use Rattle.std.specs.List.{list_all}
use Rattle.ir_base.specs.declared.ops.CastOp.{CastOp}
use Rattle.ir_base.specs.declared.ops.Pred.{Pred}
use Rattle.ir_model.specs.Layout.{same_type}
use Rattle.ir_model.specs.Ty.{Ty, int, ptr}
use Rattle.ir_model.specs.declared.instr.Instr.{Instr}
use Rattle.ir_model.specs.declared.module.Module.{Module}
use Rattle.ir_model.specs.declared.operand.Arg.{Arg}
use Rattle.ir_model.specs.declared.operand.Callee.{Callee}
use Rattle.ir_model.specs.declared.operand.Intrinsic.{Intrinsic}
use Rattle.ir_model.specs.declared.operand.Operand.{Operand}
use Rattle.rule_types.specs.Wants.{is_ptr, is_token}
use Rattle.rule_values.specs.Fits.{fits, fits_arg, fits_integer, fits_scalar, is_integer, is_scalar, is_tokenless}
use Rattle.rule_values.specs.Geps.{indices_fit}
use Rattle.rule_values.specs.declared.kinds.Kind.{Kind}

abbrev pub is_equality : Pred → Bool
is_equality Pred.Eq = true
is_equality Pred.Ne = true
is_equality p = false

abbrev pub compares : Pred → Ty → Bool
compares pred t = is_integer t || (is_ptr t && is_equality pred)

abbrev pub both_fit : (ℕ → Option Kind) → Ty → Operand → Operand → Bool
both_fit kinds t x y = fits kinds t x && fits kinds t y

abbrev pub fits_select : (ℕ → Option Kind) → Operand → Arg → Arg → Bool
fits_select kinds c a b = fits kinds (int 1) c && (same_type a.ty b.ty && (fits_scalar kinds a && fits_scalar kinds b))

abbrev pub is_narrower : Ty → Ty → Bool
is_narrower (int v) (int w) = nat_lt v w
is_narrower t u = false

abbrev pub casts : CastOp → Ty → Ty → Bool
casts CastOp.Trunc from to = is_narrower to from
casts CastOp.Zext from to = is_narrower from to
casts CastOp.Sext from to = is_narrower from to

-- ---- calls

abbrev pub is_intrinsic : Callee → Bool
is_intrinsic (Callee.Intrinsic i) = true
is_intrinsic c = false

-- a type that a call may take or give
abbrev pub is_passed : Callee → Ty → Bool
is_passed callee t = is_scalar t || (is_intrinsic callee && is_token t)

abbrev pub passes : (ℕ → Option Kind) → Callee → Arg → Bool
passes kinds callee a = is_passed callee a.ty && fits_arg kinds a

abbrev pub fits_result : Callee → Option Ty → Option ℕ → Bool
fits_result callee None None = true
fits_result callee None (Some r) = false
fits_result callee (Some t) r = is_passed callee t

abbrev pub is_saved : Option Kind → Bool
is_saved (Some Kind.Saved) = true
is_saved kind = false

-- none or a save's token
abbrev pub is_save_or_none : (ℕ → Option Kind) → Operand → Bool
is_save_or_none kinds Operand.None = true
is_save_or_none kinds (Operand.Local v) = is_saved (kinds v)
is_save_or_none kinds x = false

abbrev pub suspends_on : (ℕ → Option Kind) → List Arg → Bool
suspends_on kinds [] = true
suspends_on kinds (a ∷ rest) = is_save_or_none kinds a.value

abbrev pub fits_called : (ℕ → Option Kind) → Callee → List Arg → Bool
fits_called kinds (Callee.Local v) args = fits kinds ptr (Operand.Local v)
fits_called kinds (Callee.Intrinsic Intrinsic.CoroSuspend) args = suspends_on kinds args
fits_called kinds callee args = true

abbrev pub fits_call : (ℕ → Option Kind) → Option ℕ → Option Ty → Callee → List Arg → Bool
fits_call kinds r ty callee args = fits_result callee ty r && (fits_called kinds callee args && list_all (passes kinds callee) args)

-- ---- all instructions

abbrev pub fits_gep : Module → (ℕ → Option Kind) → Ty → Operand → List Arg → Bool
fits_gep m kinds ty base indices =
    (is_tokenless ty && fits kinds ptr base) && (list_all (fits_integer kinds) indices && indices_fit m ty indices)

abbrev pub fits_instr : Module → (ℕ → Option Kind) → Instr → Bool
fits_instr m kinds (Instr.Binary r op flags ty left right) = is_integer ty && both_fit kinds ty left right
fits_instr m kinds (Instr.Icmp r pred ty left right) = compares pred ty && both_fit kinds ty left right
fits_instr m kinds (Instr.Select r c a b) = fits_select kinds c a b
fits_instr m kinds (Instr.Cast r op nneg arg to) = casts op arg.ty to && fits_arg kinds arg
fits_instr m kinds (Instr.Alloca r ty align) = is_tokenless ty
fits_instr m kinds (Instr.Load r ty address align) = is_scalar ty && fits kinds ptr address
fits_instr m kinds (Instr.Store arg address align) = fits_scalar kinds arg && fits kinds ptr address
fits_instr m kinds (Instr.Gep r inbounds ty base indices) = fits_gep m kinds ty base indices
fits_instr m kinds (Instr.Call r must_tail ty callee args) = fits_call kinds r ty callee args

-- What actions give, and results of operations and arguments that fit.
use Rattle.std.proofs.Common.{◌≡◌, ℕ, Bool, true, false, List, [], ◌∷◌, map, ◌&&◌, Option, Some, None, Result, Ok, Err}
use Rattle.std.proofs.Common.{refl, sym, ap, ◌∙◌, subst}
use Rattle.std.specs.List.{list_all}
use Rattle.std.specs.Prelude.{if◌then◌else◌, slice_get, unwrap_or, ◌==◌}
use Rattle.run_hooks.specs.ir_base.declared.cause.Cause.{Cause}
use Rattle.run_hooks.specs.ir_base.declared.ops.BinOp.{BinOp}
use Rattle.run_hooks.specs.ir_base.declared.ops.CastOp.{CastOp}
use Rattle.run_hooks.specs.ir_base.declared.ops.Flags.{Flags}
use Rattle.run_hooks.specs.ir_model.Layout.{same_type}
use Rattle.run_hooks.specs.ir_model.Names.{function_at, no_function}
use Rattle.run_hooks.specs.ir_model.Ty.{Ty, array, int, named, ptr, structure, token}
use Rattle.run_hooks.specs.ir_model.declared.instr.Instr.{Instr}
use Rattle.run_hooks.specs.ir_model.declared.module.Function.{Function}
use Rattle.run_hooks.specs.ir_model.declared.module.Module.{Module}
use Rattle.run_hooks.specs.ir_model.declared.module.Param.{Param}
use Rattle.run_hooks.specs.ir_model.declared.operand.Arg.{Arg}
use Rattle.run_hooks.specs.ir_model.declared.operand.Callee.{Callee}
use Rattle.run_hooks.specs.ir_model.declared.operand.Intrinsic.{Intrinsic}
use Rattle.rule_types.specs.Signatures.{fits_function as fits_types, same_list, same_result as same_types_of}
use Rattle.rule_values.specs.Fits.{fits_arg}
use Rattle.rule_values.specs.Instrs.{is_passed, passes}
use Rattle.rule_values.specs.Kinds.{value_kind}
use Rattle.run_hooks.proofs.run_ints.Widths.{binary-kept, cast-kept}
use Rattle.run_hooks.specs.run_ints.Numbers.{binary, cast}
use Rattle.run_hooks.specs.run_ints.Words.{IsOkNumOf}
use Rattle.run_hooks.specs.run_ints.declared.num.Num.{Num}
use Rattle.run_hooks.specs.run_memory.declared.pointer.Value.{Value}
use Rattle.run_hooks.specs.run_step.Step.{Action, AtInstr, Coro, Done, Enter, Fetched, NewSlot, Return, cast_to, chosen}
use Rattle.run_hooks.specs.run_step.Step.{fits_params}
use Rattle.run_hooks.specs.run_step.Values.{Env, arg_value, arg_values, number_at, number_of_width, value_of}
use Rattle.run_types.proofs.Fit.{arg_fits, both_true, number_fits, number_of, same_fits, type_fits}
use Rattle.run_types.specs.Fitting.{AreFitting, FitParams, FitsResult, FitsType, HaveBytes, IsInteger}
use Rattle.run_types.specs.States.{GoesTo}

-- ---- what an action gives

pub data IsCoroCall (here : Fetched) (j : Intrinsic) (args : List Arg) (result : Option ℕ) : Type 0 where
  Called : (must_tail : Bool) (ty : Option Ty)
      → here ≡ AtInstr (Instr.Call result must_tail ty (Callee.Intrinsic j) args) → IsCoroCall here j args result

abbrev pub FitsAction : Module → Function → Fetched → Action → Type 0
FitsAction m f here (Done w) = AreFitting f w.values × HaveBytes w.world.memory
FitsAction m f here (NewSlot w slot) = AreFitting f w.values × HaveBytes w.world.memory
FitsAction m f here (Enter func args result must_tail) =
    FitParams (function_at m func).params args × GoesTo m func result f
FitsAction m f here (Coro j args result) = IsCoroCall here j args result
FitsAction m f here (Return v) = FitsResult f.result (unwrap_or v Value.Poison)
FitsAction m f here _ = Unit {0}

-- ---- results of operations

pub binary_fits : (op : BinOp) (flags : Flags) (ty : Ty) (a b : Value) (n : Num)
    → binary op flags (number_at ty a) (number_at ty b) ≡ Ok n → FitsType ty (value_of n)
binary_fits op flags ty a b n e = type_fits ty (value_of n) (λ w et.
    on w (binary op flags (number_of_width w a) (number_of_width w b))
    (binary-kept w op flags (number_of_width w a) (number_of_width w b) (number_of w a) (number_of w b))
    ((λ j. binary op flags (number_at (sym et j) a) (number_at (sym et j) b)) ∙ e))
  where
    on : (w : ℕ) (r : Result Num Cause) → IsOkNumOf w r → r ≡ Ok n → IsInteger w (value_of n)
    on w (Err cause) h k = absurd (cc)
    on w (Ok x) h k = let is : x ≡ n = cc in subst (λ (y : Num). IsInteger w (value_of y)) is (number_fits w x h)

pub cast_fits : (op : CastOp) (nneg : Bool) (n : Num) (to : Ty) → FitsType to (cast_to op nneg n to)
cast_fits op nneg n (int w) = number_fits w (cast op nneg n w) (cast-kept op nneg n w)
cast_fits op nneg n ptr = tt
cast_fits op nneg n token = tt
cast_fits op nneg n (array k t) = tt
cast_fits op nneg n (structure ts) = tt
cast_fits op nneg n (named k) = tt

pub chosen_fits : (P : Value → Type 0) (c a b : Value) → P Value.Poison → P a → P b → P (chosen c a b)
chosen_fits P Value.Poison a b p q r = p
chosen_fits P (Value.Ptr y) a b p q r = p
chosen_fits P (Value.Int x) a b p q r = on (x.bits == 1)
  where
    on : (t : Bool) → P (if t then a else b)
    on true = q
    on false = r

-- ---- arguments

pub args_fit : (m : Module) (f : Function) (env : Env) (callee : Callee) (args : List Arg) (params : List Param)
    → AreFitting f env → list_all (passes (value_kind f) callee) args ≡ true
    → same_list (map (λ a. a.ty) args) (map (λ (p : Param). p.ty) params) ≡ true
    → FitParams params (arg_values m env args)
args_fit m f env callee [] [] h e k = tt
args_fit m f env callee [] (p ∷ params) h e k = tt
args_fit m f env callee (a ∷ args) [] h e k = tt
args_fit m f env callee (a ∷ args) (p ∷ params) h e k =
    let r = both_true (is_passed callee a.ty && fits_arg (value_kind f) a)
    (list_all (passes (value_kind f) callee) args) e in
    let q = both_true (is_passed callee a.ty) (fits_arg (value_kind f) a) r.0 in
    let s = both_true (same_type a.ty p.ty) (same_list (map (λ b. b.ty) args) (map (λ (b : Param). b.ty) params)) k in (
      same_fits a.ty p.ty (arg_value m env a) s.0 (arg_fits m f env a h q.1),
      args_fit m f env callee args params h r.1 s.1,
    )

-- those of an indirect call
pub indirect_args : (m : Module) (f : Function) (env : Env) (callee : Callee) (args : List Arg) (params : List Param)
    → AreFitting f env → list_all (passes (value_kind f) callee) args ≡ true → fits_params args params ≡ true
    → FitParams params (arg_values m env args)
indirect_args m f env callee [] [] h e k = tt
indirect_args m f env callee [] (p ∷ params) h e k = tt
indirect_args m f env callee (a ∷ args) [] h e k = tt
indirect_args m f env callee (a ∷ args) (p ∷ params) h e k =
    let r = both_true (is_passed callee a.ty && fits_arg (value_kind f) a)
    (list_all (passes (value_kind f) callee) args) e in
    let q = both_true (is_passed callee a.ty) (fits_arg (value_kind f) a) r.0 in
    let s = both_true (same_type a.ty p.ty) (fits_params args params) k in (
      same_fits a.ty p.ty (arg_value m env a) s.0 (arg_fits m f env a h q.1),
      indirect_args m f env callee args params h r.1 s.1,
    )

pub function_there : (m : Module) (k : ℕ) (ty : Option Ty) (ts : List Ty) → fits_types ty ts (slice_get m.functions k)
    ≡ true
    → (same_types_of ty (function_at m k).result ≡ true)
    × (same_list ts (map (λ (p : Param). p.ty) (function_at m k).params) ≡ true)
function_there m k ty ts e = on (slice_get m.functions k) refl e
  where
    on : (o : Option Function) → slice_get m.functions k ≡ o → fits_types ty ts o ≡ true
        → (same_types_of ty (function_at m k).result ≡ true)
        × (same_list ts (map (λ (p : Param). p.ty) (function_at m k).params) ≡ true)
    on None eo j = absurd (cc)
    on (Some g) eo j =
        let r = both_true (same_types_of ty g.result) (same_list ts (map (λ (p : Param). p.ty) g.params)) j in
        let is : function_at m k ≡ g = ap (λ (o : Option Function). unwrap_or o no_function) eo in (
          ap (λ (x : Function). same_types_of ty x.result) is ∙ r.0,
          ap (λ (x : Function). same_list ts (map (λ (p : Param). p.ty) x.params)) is ∙ r.1,
        )

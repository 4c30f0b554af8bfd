-- Operands that are no tokens: those of instructions that stay, and those that calls of intrinsics pass to what stands in their place.
use Rattle.std.proofs.Common.{◌≡◌, inl, inr, ⊎_elim, ℕ, zero, suc, Bool, true, false, List, [], ◌∷◌, ◌++◌, refl, sym, subst}
use Rattle.std.specs.List.{list_all}
use Rattle.std.specs.Prelude.{None, Option, Some, map, not, option_to_list, ◌&&◌, ◌||◌}
use Rattle.ir_laws.specs.ir_base.declared.ops.CastOp.{CastOp}
use Rattle.ir_laws.specs.ir_base.declared.ops.Pred.{Pred}
use Rattle.rule_uses.specs.Uses.{local_of, locals_in}
use Rattle.ir_laws.proofs.facts.Truth.{and_first, and_second}
use Rattle.ir_laws.proofs.paths.source_rules.Locals.{listed_either, listed_left}
use Rattle.ir_laws.specs.flow_solver.Paths.{IsListed}
use Rattle.ir_parts.specs.Contents.{arg_operands, ending_operands, instr_operands, result_of}
use Rattle.ir_laws.specs.ir_model.Layout.{same_type}
use Rattle.ir_laws.specs.ir_model.Ty.{Ty, int, ptr, token}
use Rattle.ir_laws.specs.ir_model.declared.instr.Case.{Case}
use Rattle.ir_laws.specs.ir_model.declared.instr.Instr.{Instr}
use Rattle.ir_laws.specs.ir_model.declared.instr.Terminator.{Terminator}
use Rattle.ir_laws.specs.ir_model.declared.module.Block.{Block}
use Rattle.ir_laws.specs.ir_model.declared.module.Function.{Function}
use Rattle.ir_laws.specs.ir_model.declared.module.Module.{Module}
use Rattle.ir_laws.specs.ir_model.declared.operand.Arg.{Arg}
use Rattle.ir_laws.specs.ir_model.declared.operand.Callee.{Callee}
use Rattle.ir_laws.specs.ir_model.declared.operand.Intrinsic.{Intrinsic}
use Rattle.ir_laws.specs.ir_model.declared.operand.Operand.{Operand}
use Rattle.ir_laws.specs.ir_paths.Windows.{is_call_of}
use Rattle.ir_laws.specs.run_laws.changed.Changed.{Each}
use Rattle.rule_types.specs.Wants.{is_basic, is_ptr, is_token}
use Rattle.rule_types.specs.declared.wants.Basic.{Basic}
use Rattle.rule_types.specs.declared.wants.Wanted.{Wanted}
use Rattle.rule_values.specs.Fits.{fits, fits_arg, fits_integer, fits_kind, fits_scalar, is_integer, is_scalar, is_tokenless}
use Rattle.rule_values.specs.Geps.{indices_fit}
use Rattle.rule_values.specs.Instrs.{both_fit, casts, compares, fits_call, fits_called, fits_instr, fits_result, is_equality, is_intrinsic, is_narrower, is_passed, passes}
use Rattle.rule_values.specs.Kinds.{value_kind}
use Rattle.rule_values.specs.Switches.{any_twice, bits_in, case_word, fits_case, fits_switch, is_constant}
use Rattle.rule_values.specs.Values.{fits_ending}
use Rattle.rule_values.specs.declared.kinds.Kind.{Kind}
use Rattle.rule_laws.proofs.rules.counted.CellKinds.{integer_scalar as int_scalar}

-- an integer or a pointer
abbrev pub is_plain_kind : Option Kind → Bool
is_plain_kind (Some (Kind.Int w)) = true
is_plain_kind (Some Kind.Ptr) = true
is_plain_kind _ = false

-- a value that is an integer or a pointer, and that no suspend makes
pub record IsPlain (f : Function) (v : ℕ) : Type 0 where
  pub scalar : is_plain_kind (value_kind f v) ≡ true
  pub unsuspended : (b : Block) (i : Instr) → IsListed b f.blocks → IsListed i b.instrs → is_call_of Intrinsic.CoroSuspend i ≡ true → result_of i ≡ Some v → ⊥

plain_fits : (o : Option Kind) (t : Ty) → is_scalar t ≡ true → fits_kind o t ≡ true → is_plain_kind o ≡ true
plain_fits (Some (Kind.Int w)) t s e = refl
plain_fits (Some Kind.Ptr) t s e = refl
plain_fits (Some Kind.Token) token s e = absurd (cc)
plain_fits (Some Kind.Token) t s e = absurd (cc)
plain_fits (Some Kind.Saved) token s e = absurd (cc)
plain_fits (Some Kind.Saved) t s e = absurd (cc)
plain_fits (Some Kind.Other) t s e = absurd (cc)
plain_fits None t s e = absurd (cc)

abbrev pub calls_intrinsic : Instr → Bool
calls_intrinsic (Instr.Call r must_tail ty callee args) = is_intrinsic callee
calls_intrinsic i = false

module _ (K : ℕ → Option Kind) where
  -- an operand fits a type of integers or pointers
  abbrev pub FitsScalar : Operand → Type 0
  FitsScalar x = (t : Ty) × ((is_scalar t ≡ true) × (fits K t x ≡ true))

  pub scalar_local : (xs : List Operand) → Each FitsScalar xs → (v : ℕ) → IsListed v (locals_in xs) → is_plain_kind (K v) ≡ true
  scalar_local [] h v l = absurd l
  scalar_local (Operand.Local n ∷ xs) h v (inl e) = subst (λ (u : ℕ). is_plain_kind (K u) ≡ true) (sym e) (plain_fits (K n) h.0.0 h.0.1.0 h.0.1.1)
  scalar_local (Operand.Local n ∷ xs) h v (inr l) = scalar_local xs h.1 v l
  scalar_local (Operand.Global n ∷ xs) h v l = scalar_local xs h.1 v l
  scalar_local (Operand.Number z ∷ xs) h v l = scalar_local xs h.1 v l
  scalar_local (Operand.True ∷ xs) h v l = scalar_local xs h.1 v l
  scalar_local (Operand.False ∷ xs) h v l = scalar_local xs h.1 v l
  scalar_local (Operand.Null ∷ xs) h v l = scalar_local xs h.1 v l
  scalar_local (Operand.None ∷ xs) h v l = scalar_local xs h.1 v l
  scalar_local (Operand.Poison ∷ xs) h v l = scalar_local xs h.1 v l

  of_scalar : (a : Arg) → fits_scalar K a ≡ true → FitsScalar a.value
  of_scalar a e = (a.ty, (and_first (is_scalar a.ty) (fits_arg K a) e, and_second (is_scalar a.ty) (fits_arg K a) e))

  of_integer : (a : Arg) → fits_integer K a ≡ true → FitsScalar a.value
  of_integer a e = (a.ty, (int_scalar a.ty (and_first (is_integer a.ty) (fits_arg K a) e), and_second (is_integer a.ty) (fits_arg K a) e))

  all_integers : (args : List Arg) → list_all (fits_integer K) args ≡ true → Each FitsScalar (arg_operands args)
  all_integers [] e = tt
  all_integers (a ∷ args) e = (of_integer a (and_first (fits_integer K a) (list_all (fits_integer K) args) e), all_integers args (and_second (fits_integer K a) (list_all (fits_integer K) args) e))

  compared : (p : Pred) (t : Ty) → compares p t ≡ true → is_scalar t ≡ true
  compared p t e = on (is_integer t) (is_ptr t) (is_equality p) e
    where
      on : (a b c : Bool) → (a || (b && c)) ≡ true → (a || b) ≡ true
      on true b c d = refl
      on false true c d = refl
      on false false c d = d

  narrowed : (t u : Ty) → is_narrower t u ≡ true → (is_scalar t ≡ true) × (is_scalar u ≡ true)
  narrowed (int v) (int w) e = (refl, refl)
  narrowed _ _ e = absurd (cc)

  cast_scalar : (op : CastOp) (from to : Ty) → casts op from to ≡ true → is_scalar from ≡ true
  cast_scalar CastOp.Trunc from to e = (narrowed to from e).1
  cast_scalar CastOp.Zext from to e = (narrowed from to e).0
  cast_scalar CastOp.Sext from to e = (narrowed from to e).0

  -- a callee that is no intrinsic takes no tokens
  passed_scalar : (callee : Callee) (t : Ty) → is_intrinsic callee ≡ false → is_passed callee t ≡ true → is_scalar t ≡ true
  passed_scalar callee t other e = on (is_scalar t) (is_intrinsic callee) (is_token t) other e
    where
      on : (a b c : Bool) → b ≡ false → (a || (b && c)) ≡ true → a ≡ true
      on true b c n d = refl
      on false true c n d = absurd (cc)
      on false false c n d = d

  all_passed : (callee : Callee) (args : List Arg) → is_intrinsic callee ≡ false → list_all (passes K callee) args ≡ true → Each FitsScalar (arg_operands args)
  all_passed callee [] other e = tt
  all_passed callee (a ∷ args) other e =
      let here = and_first (passes K callee a) (list_all (passes K callee) args) e in (
        (a.ty, (passed_scalar callee a.ty other (and_first (is_passed callee a.ty) (fits_arg K a) here), and_second (is_passed callee a.ty) (fits_arg K a) here)),
        all_passed callee args other (and_second (passes K callee a) (list_all (passes K callee) args) e),
      )

  pub args_pass : (r : Option ℕ) (ty : Option Ty) (callee : Callee) (args : List Arg) → fits_call K r ty callee args ≡ true → list_all (passes K callee) args ≡ true
  args_pass r ty callee args e = and_second (fits_called K callee args) (list_all (passes K callee) args) (and_second (fits_result callee ty r) (fits_called K callee args && list_all (passes K callee) args) e)

  -- instructions but calls of intrinsics use integers and pointers alone
  pub operands_scalar : (m : Module) (i : Instr) → calls_intrinsic i ≡ false → fits_instr m K i ≡ true → Each FitsScalar (instr_operands i)
  operands_scalar m (Instr.Binary r op flags ty left right) other e =
      let both = and_second (is_integer ty) (both_fit K ty left right) e in
      let t = int_scalar ty (and_first (is_integer ty) (both_fit K ty left right) e) in
      ((ty, (t, and_first (fits K ty left) (fits K ty right) both)), ((ty, (t, and_second (fits K ty left) (fits K ty right) both)), tt))
  operands_scalar m (Instr.Icmp r pred ty left right) other e =
      let both = and_second (compares pred ty) (both_fit K ty left right) e in
      let t = compared pred ty (and_first (compares pred ty) (both_fit K ty left right) e) in
      ((ty, (t, and_first (fits K ty left) (fits K ty right) both)), ((ty, (t, and_second (fits K ty left) (fits K ty right) both)), tt))
  operands_scalar m (Instr.Select r c a b) other e =
      let rest = and_second (fits K (int 1) c) (same_type a.ty b.ty && (fits_scalar K a && fits_scalar K b)) e in
      let both = and_second (same_type a.ty b.ty) (fits_scalar K a && fits_scalar K b) rest in
      ((int 1, (refl, and_first (fits K (int 1) c) (same_type a.ty b.ty && (fits_scalar K a && fits_scalar K b)) e)), (of_scalar a (and_first (fits_scalar K a) (fits_scalar K b) both), (of_scalar b (and_second (fits_scalar K a) (fits_scalar K b) both), tt)))
  operands_scalar m (Instr.Cast r op nneg arg to) other e =
      ((arg.ty, (cast_scalar op arg.ty to (and_first (casts op arg.ty to) (fits_arg K arg) e), and_second (casts op arg.ty to) (fits_arg K arg) e)), tt)
  operands_scalar m (Instr.Alloca r ty align) other e = tt
  operands_scalar m (Instr.Load r ty address align) other e = ((ptr, (refl, and_second (is_scalar ty) (fits K ptr address) e)), tt)
  operands_scalar m (Instr.Store arg address align) other e = (of_scalar arg (and_first (fits_scalar K arg) (fits K ptr address) e), ((ptr, (refl, and_second (fits_scalar K arg) (fits K ptr address) e)), tt))
  operands_scalar m (Instr.Gep r inbounds ty base indices) other e =
      let front = and_first (is_tokenless ty && fits K ptr base) (list_all (fits_integer K) indices && indices_fit m ty indices) e in
      let rest = and_second (is_tokenless ty && fits K ptr base) (list_all (fits_integer K) indices && indices_fit m ty indices) e in
      ((ptr, (refl, and_second (is_tokenless ty) (fits K ptr base) front)), all_integers indices (and_first (list_all (fits_integer K) indices) (indices_fit m ty indices) rest))
  operands_scalar m (Instr.Call r must_tail ty (Callee.Named n) args) other e = all_passed (Callee.Named n) args refl (args_pass r ty (Callee.Named n) args e)
  operands_scalar m (Instr.Call r must_tail ty (Callee.Allocator a) args) other e = all_passed (Callee.Allocator a) args refl (args_pass r ty (Callee.Allocator a) args e)
  operands_scalar m (Instr.Call r must_tail ty (Callee.Intrinsic x) args) other e = absurd (cc)
  operands_scalar m (Instr.Call r must_tail ty (Callee.Local v) args) other e =
      let called = and_first (fits_called K (Callee.Local v) args) (list_all (passes K (Callee.Local v)) args) (and_second (fits_result (Callee.Local v) ty r) (fits_called K (Callee.Local v) args && list_all (passes K (Callee.Local v)) args) e) in
      ((ptr, (refl, called)), all_passed (Callee.Local v) args refl (args_pass r ty (Callee.Local v) args e))

  -- the values of a switch's cases are constants
  no_case : (t : Ty) (cases : List Case) (v : ℕ) → list_all (fits_case K t) cases ≡ true → IsListed v (locals_in (map (λ (k : Case). k.arg.value) cases)) → ⊥
  no_case t [] v e l = l
  no_case t (k ∷ cases) v e l =
      let here = and_second (same_type k.arg.ty t) (is_constant k.arg.value && fits_arg K k.arg) (and_first (fits_case K t k) (list_all (fits_case K t) cases) e) in
      on k.arg.value (and_first (is_constant k.arg.value) (fits_arg K k.arg) here) (no_case t cases v (and_second (fits_case K t k) (list_all (fits_case K t) cases) e)) l
    where
      on : (x : Operand) → is_constant x ≡ true → (IsListed v (locals_in (map (λ (c : Case). c.arg.value) cases)) → ⊥) → IsListed v (option_to_list (local_of x) ++ locals_in (map (λ (c : Case). c.arg.value) cases)) → ⊥
      on (Operand.Local n) c more h = absurd (cc)
      on (Operand.Global n) c more h = more h
      on (Operand.Number z) c more h = more h
      on Operand.True c more h = more h
      on Operand.False c more h = more h
      on Operand.Null c more h = more h
      on Operand.None c more h = more h
      on Operand.Poison c more h = more h

  switched : (arg : Arg) (cases : List Case) (v : ℕ) → fits_switch K arg cases ≡ true → (x : Operand) → x ≡ arg.value → IsListed v (option_to_list (local_of x) ++ locals_in (map (λ (k : Case). k.arg.value) cases)) → is_plain_kind (K v) ≡ true
  switched arg cases v e x same l =
      ⊎_elim (λ a. scalar_local (x ∷ []) (subst FitsScalar (sym same) (of_integer arg (and_first (fits_integer K arg) (list_all (fits_case K arg.ty) cases && not (any_twice [] (map (case_word (bits_in arg.ty)) cases))) e)), tt) v (listed_left v (option_to_list (local_of x)) [] a))
      (λ b. absurd (no_case arg.ty cases v (and_first (list_all (fits_case K arg.ty) cases) (not (any_twice [] (map (case_word (bits_in arg.ty)) cases))) (and_second (fits_integer K arg) (list_all (fits_case K arg.ty) cases && not (any_twice [] (map (case_word (bits_in arg.ty)) cases))) e)) b))
      (listed_either v (option_to_list (local_of x)) (locals_in (map (λ (k : Case). k.arg.value) cases)) l)

  pub ending_scalar : (ty : Option Ty) (t : Terminator) → fits_ending K ty t ≡ true → (v : ℕ) → IsListed v (locals_in (ending_operands t)) → is_plain_kind (K v) ≡ true
  ending_scalar ty (Terminator.Jump label) e v l = absurd l
  ending_scalar ty (Terminator.Branch c a b) e v l = scalar_local (c ∷ []) ((int 1, (refl, e)), tt) v l
  ending_scalar ty (Terminator.Switch arg default cases) e v l = switched arg cases v e arg.value refl l
  ending_scalar ty (Terminator.Ret None) e v l = absurd l
  ending_scalar (Some t) (Terminator.Ret (Some a)) e v l = scalar_local (a.value ∷ []) (of_scalar a (and_second (same_type a.ty t) (fits_scalar K a) e), tt) v l
  ending_scalar None (Terminator.Ret (Some a)) e v l = absurd (cc)
  ending_scalar ty Terminator.Unreachable e v l = absurd l

-- ---- arguments of intrinsics, by the table

abbrev pub is_no_token : Basic → Bool
is_no_token Basic.Token = false
is_no_token b = true

pub basic_scalar : (b : Basic) (t : Ty) → is_no_token b ≡ true → is_basic b t ≡ true → is_scalar t ≡ true
basic_scalar Basic.Token t n e = absurd (cc)
basic_scalar b (int w) n e = refl
basic_scalar b ptr n e = refl
basic_scalar Basic.Ptr _ n e = absurd (cc)
basic_scalar Basic.I1 _ n e = absurd (cc)
basic_scalar Basic.I8 _ n e = absurd (cc)
basic_scalar Basic.I32 _ n e = absurd (cc)
basic_scalar Basic.I64 _ n e = absurd (cc)
basic_scalar Basic.Size _ n e = absurd (cc)

-- where the table has no token at a position, neither has the call
abbrev pub has_no_token : List Wanted → ℕ → Bool
has_no_token [] at = true
has_no_token (w ∷ ws) zero = is_no_token w.ty
has_no_token (w ∷ ws) (suc at) = has_no_token ws at

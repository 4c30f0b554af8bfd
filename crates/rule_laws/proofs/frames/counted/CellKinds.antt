-- The values that may cross suspends are integers and addresses.
use Rattle.std.proofs.Common.{◌≡◌, ◌⊎◌, inl, inr, ⊎_elim, ℕ, Bool, true, false, List, refl, sym, ap, ◌∙◌, subst}
use Rattle.std.specs.List.{list_all}
use Rattle.std.specs.Prelude.{Option, Some, None, not, ◌&&◌, ◌||◌}
use Rattle.rule_laws.proofs.rules.counted.Types.{is_cell_type, scalar_cell}
use Rattle.ir_laws.specs.facts.counted.Widths.{has_width, is_width}
use Rattle.ir_laws.specs.ir_base.declared.ops.CastOp.{CastOp}
use Rattle.ir_laws.specs.ir_base.declared.outcome.Place.{Place}
use Rattle.ir_laws.proofs.facts.Truth.{and_first, and_second, first_no as first_apart}
use Rattle.ir_parts.specs.Contents.{arg_types, instr_types, result_of}
use Rattle.ir_parts.specs.Parts.{OfInstr}
use Rattle.ir_laws.specs.ir_model.Layout.{same_type}
use Rattle.ir_laws.specs.ir_model.Ty.{Ty, array, int, named, ptr, structure, token}
use Rattle.ir_laws.specs.ir_model.declared.instr.Instr.{Instr}
use Rattle.ir_laws.specs.ir_model.declared.module.Module.{Module}
use Rattle.ir_laws.specs.ir_model.declared.operand.Arg.{Arg}
use Rattle.ir_laws.specs.ir_model.declared.operand.Callee.{Callee}
use Rattle.ir_laws.specs.ir_model.declared.operand.Intrinsic.{Intrinsic}
use Rattle.ir_laws.specs.ir_paths.Windows.{is_call_of}
use Rattle.frame_contents.specs.frame_crossing.Values.{is_apart, is_token}
use Rattle.rule_types.specs.Signatures.{are_wanted, calls_otherwise}
use Rattle.rule_types.specs.Wants.{intrinsic_params, is_token as is_token_type}
use Rattle.rule_values.specs.Fits.{fits, fits_arg, fits_scalar, is_integer, is_scalar}
use Rattle.rule_values.specs.Instrs.{both_fit, casts, fits_called, fits_instr, is_intrinsic, is_narrower, is_passed, passes}
use Rattle.rule_values.specs.Kinds.{instr_kind, kind_if, kind_of, result_kind}
use Rattle.rule_values.specs.declared.kinds.Kind.{Kind}
use Rattle.rule_laws.proofs.rules.counted.CellKinds.{integer_scalar, own_if}

-- the kind of an integer of a width that types are written with, or of an address
pub record IsCellKind (o : Option Kind) : Type 0 where
  pub ty : Ty
  pub cell : is_cell_type ty ≡ true
  pub kind : o ≡ Some (kind_of ty)

-- a type of such a kind is one of those
pub same_cell : (t u : Ty) → is_cell_type t ≡ true → kind_of u ≡ kind_of t → is_cell_type u ≡ true
same_cell (int v) (int w) h e = let same : w ≡ v = cc in subst (λ (k : ℕ). is_width k ≡ true) (sym same) h
same_cell (int v) ptr h e = refl
same_cell (int v) token h e = absurd (cc)
same_cell (int v) (array n t) h e = absurd (cc)
same_cell (int v) (structure ts) h e = absurd (cc)
same_cell (int v) (named n) h e = absurd (cc)
same_cell ptr (int w) h e = absurd (cc)
same_cell ptr ptr h e = refl
same_cell ptr token h e = absurd (cc)
same_cell ptr (array n t) h e = absurd (cc)
same_cell ptr (structure ts) h e = absurd (cc)
same_cell ptr (named n) h e = absurd (cc)
same_cell token u h e = absurd (cc)
same_cell (array n t) u h e = absurd (cc)
same_cell (structure ts) u h e = absurd (cc)
same_cell (named n) u h e = absurd (cc)

-- ---- what an instruction makes that isn't set apart

scalar_kind : (r : ℕ) (t : Ty) (o : Option Kind) → o ≡ Some (kind_of t) → is_scalar t ≡ true → has_width t ≡ true → IsCellKind o
scalar_kind r t o e s h = record { ty = t; cell = scalar_cell t s h; kind = e }

narrow_to : (t u : Ty) → is_narrower t u ≡ true → is_scalar u ≡ true
narrow_to (int v) (int w) h = refl
narrow_to (int v) ptr h = refl
narrow_to (int v) token h = absurd (cc)
narrow_to (int v) (array n t) h = absurd (cc)
narrow_to (int v) (structure ts) h = absurd (cc)
narrow_to (int v) (named n) h = absurd (cc)
narrow_to ptr u h = absurd (cc)
narrow_to token u h = absurd (cc)
narrow_to (array n t) u h = absurd (cc)
narrow_to (structure ts) u h = absurd (cc)
narrow_to (named n) u h = absurd (cc)

narrow_from : (t u : Ty) → is_narrower t u ≡ true → is_scalar t ≡ true
narrow_from (int v) u h = refl
narrow_from ptr u h = refl
narrow_from token u h = absurd (cc)
narrow_from (array n t) u h = absurd (cc)
narrow_from (structure ts) u h = absurd (cc)
narrow_from (named n) u h = absurd (cc)

cast_scalar : (op : CastOp) (t u : Ty) → casts op t u ≡ true → is_scalar u ≡ true
cast_scalar CastOp.Trunc t u h = narrow_from u t h
cast_scalar CastOp.Zext t u h = narrow_to t u h
cast_scalar CastOp.Sext t u h = narrow_to t u h

-- a save's result is a token
save_is_token : (t : Ty) (args : List Arg) → not (is_token_type t && are_wanted (intrinsic_params Intrinsic.CoroSave) args) ≡ false → is_token t ≡ true
save_is_token token args h = refl
save_is_token (int w) args h = absurd (cc)
save_is_token ptr args h = absurd (cc)
save_is_token (array n t) args h = absurd (cc)
save_is_token (structure ts) args h = absurd (cc)
save_is_token (named n) args h = absurd (cc)

passed_scalar : (c : Callee) (t : Ty) → is_passed c t ≡ true → is_token t ≡ false → is_scalar t ≡ true
passed_scalar c (int w) h e = refl
passed_scalar c ptr h e = refl
passed_scalar c token h e = absurd (cc)
passed_scalar c (array n t) h e = absurd (none (is_intrinsic c) h)
  where
    none : (b : Bool) → (b && false) ≡ true → ⊥
    none true x = absurd (cc)
    none false x = absurd (cc)
passed_scalar c (structure ts) h e = absurd (none (is_intrinsic c) h)
  where
    none : (b : Bool) → (b && false) ≡ true → ⊥
    none true x = absurd (cc)
    none false x = absurd (cc)
passed_scalar c (named n) h e = absurd (none (is_intrinsic c) h)
  where
    none : (b : Bool) → (b && false) ≡ true → ⊥
    none true x = absurd (cc)
    none false x = absurd (cc)

-- the kind of a call's result, unless it is a save
pub save_or_kind : (c : Callee) (t : Ty) → (result_kind c (Some t) ≡ kind_of t) ⊎ (c ≡ Callee.Intrinsic Intrinsic.CoroSave)
save_or_kind (Callee.Intrinsic Intrinsic.CoroSave) t = inr refl
save_or_kind _ t = inl refl

call_cell : (m : Module) (p : Place) (r : ℕ) (must_tail : Bool) (t : Ty) (c : Callee) (args : List Arg) → is_passed c t ≡ true → has_width t ≡ true → is_token t ≡ false → calls_otherwise m p (OfInstr (Instr.Call (Some r) must_tail (Some t) c args)) ≡ false → IsCellKind (instr_kind (Instr.Call (Some r) must_tail (Some t) c args) r)
call_cell m p r must_tail t c args passed width stays called =
    ⊎_elim
    (λ e. scalar_kind r t (kind_if r (result_kind c (Some t)) r) (own_if r (result_kind c (Some t)) ∙ ap (λ (k : Kind). Some k) e) (passed_scalar c t passed stays) width)
    (λ e. let is : is_token t ≡ true = save_is_token t args (subst (λ (d : Callee). calls_otherwise m p (OfInstr (Instr.Call (Some r) must_tail (Some t) d args)) ≡ false) e called) in absurd (cc))
    (save_or_kind c t)

module _ (m : Module) (kinds : ℕ → Option Kind) (p : Place) (r : ℕ) where
  pub made_cell : (i : Instr) → result_of i ≡ Some r → is_apart i ≡ false → fits_instr m kinds i ≡ true → list_all has_width (instr_types i) ≡ true → calls_otherwise m p (OfInstr i) ≡ false → IsCellKind (instr_kind i r)
  made_cell (Instr.Binary n op flags ty left right) e a h w c =
      let same : n ≡ r = cc in
      subst (λ (x : ℕ). IsCellKind (kind_if x (kind_of ty) r)) (sym same)
      (scalar_kind r ty (kind_if r (kind_of ty) r) (own_if r (kind_of ty)) (integer_scalar ty (and_first (is_integer ty) (both_fit kinds ty left right) h)) (and_first (has_width ty) true w))
  made_cell (Instr.Icmp n pred ty left right) e a h w c =
      let same : n ≡ r = cc in
      subst (λ (x : ℕ). IsCellKind (kind_if x (Kind.Int 1) r)) (sym same) (scalar_kind r (int 1) (kind_if r (Kind.Int 1) r) (own_if r (Kind.Int 1)) refl refl)
  made_cell (Instr.Select n x y z) e a h w c =
      let same : n ≡ r = cc in
      let both : (fits_scalar kinds y && fits_scalar kinds z) ≡ true = and_second (same_type y.ty z.ty) (fits_scalar kinds y && fits_scalar kinds z) (and_second (fits kinds (int 1) x) (same_type y.ty z.ty && (fits_scalar kinds y && fits_scalar kinds z)) h) in
      subst (λ (k : ℕ). IsCellKind (kind_if k (kind_of y.ty) r)) (sym same)
      (scalar_kind r y.ty (kind_if r (kind_of y.ty) r) (own_if r (kind_of y.ty)) (and_first (is_scalar y.ty) (fits_arg kinds y) (and_first (fits_scalar kinds y) (fits_scalar kinds z) both)) (and_first (has_width y.ty) (has_width z.ty && true) w))
  made_cell (Instr.Cast n op nneg arg to) e a h w c =
      let same : n ≡ r = cc in
      subst (λ (x : ℕ). IsCellKind (kind_if x (kind_of to) r)) (sym same)
      (scalar_kind r to (kind_if r (kind_of to) r) (own_if r (kind_of to)) (cast_scalar op arg.ty to (and_first (casts op arg.ty to) (fits_arg kinds arg) h)) (and_first (has_width to) true (and_second (has_width arg.ty) (has_width to && true) w)))
  made_cell (Instr.Alloca n ty align) e a h w c = absurd (cc)
  made_cell (Instr.Load n ty address align) e a h w c =
      let same : n ≡ r = cc in
      subst (λ (x : ℕ). IsCellKind (kind_if x (kind_of ty) r)) (sym same)
      (scalar_kind r ty (kind_if r (kind_of ty) r) (own_if r (kind_of ty)) (and_first (is_scalar ty) (fits kinds ptr address) h) (and_first (has_width ty) true w))
  made_cell (Instr.Store arg address align) e a h w c = absurd (cc)
  made_cell (Instr.Gep n inbounds ty base indices) e a h w c =
      let same : n ≡ r = cc in
      subst (λ (x : ℕ). IsCellKind (kind_if x Kind.Ptr r)) (sym same) (scalar_kind r ptr (kind_if r Kind.Ptr r) (own_if r Kind.Ptr) refl refl)
  made_cell (Instr.Call None must_tail ty callee args) e a h w c = absurd (cc)
  made_cell (Instr.Call (Some n) must_tail None callee args) e a h w c = absurd (cc)
  made_cell (Instr.Call (Some n) must_tail (Some t) callee args) e a h w c =
      let same : n ≡ r = cc in
      subst (λ (x : ℕ). IsCellKind (kind_if x (result_kind callee (Some t)) r)) (sym same)
      (call_cell m p r must_tail t callee args (and_first (is_passed callee t) (fits_called kinds callee args && list_all (passes kinds callee) args) h) (and_first (has_width t) (list_all has_width (arg_types args)) w)
      (first_apart (is_token t) (is_call_of Intrinsic.CoroBegin (Instr.Call (Some n) must_tail (Some t) callee args) || is_call_of Intrinsic.CoroFrame (Instr.Call (Some n) must_tail (Some t) callee args)) a) c)

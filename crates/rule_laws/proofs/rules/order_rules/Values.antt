-- Types of values in a renumbered function fit just where they did (rule Y1).
use Rattle.std.proofs.Common.{◌≡◌, ℕ, Bool, List, [], ◌∷◌, refl, ap, ◌∙◌, Option, Some, None}
use Rattle.std.specs.Prelude.{map, not, option_map, ◌&&◌, ◌||◌}
use Rattle.ir_laws.specs.ir_base.declared.name.Name.{Name}
use Rattle.ir_laws.specs.ir_base.declared.outcome.Place.{Place}
use Rattle.ir_laws.proofs.facts.Lists.{all_changed}
use Rattle.ir_parts.specs.Parts.{Ending, Head, OfInstr, OfPhi, Part, Signature}
use Rattle.ir_laws.specs.ir_model.Layout.{same_type, unnamed}
use Rattle.ir_laws.specs.ir_model.Ty.{Ty, array, int, named, ptr, structure, token}
use Rattle.ir_laws.specs.ir_model.declared.instr.Case.{Case}
use Rattle.ir_laws.specs.ir_model.declared.instr.Instr.{Instr}
use Rattle.ir_laws.specs.ir_model.declared.instr.Terminator.{Terminator}
use Rattle.ir_laws.specs.ir_model.declared.module.Function.{Function}
use Rattle.ir_laws.specs.ir_model.declared.module.Module.{Module}
use Rattle.ir_laws.specs.ir_model.declared.operand.Arg.{Arg}
use Rattle.ir_laws.specs.ir_model.declared.operand.Callee.{Callee}
use Rattle.ir_laws.specs.ir_model.declared.operand.Intrinsic.{Intrinsic}
use Rattle.ir_laws.specs.ir_model.declared.operand.Operand.{Operand}
use Rattle.rule_laws.proofs.rules.order_rules.Contents.{maps_forget}
use Rattle.rule_laws.proofs.rules.order_rules.Parts.{first_of_parts, renumbered_part}
use Rattle.rule_laws.proofs.rules.order_rules.ValueKinds.{kind_over}
use Rattle.ir_laws.specs.facts.order_rules.Renumbered.{StaysApart, renumbered_arg, renumbered_callee, renumbered_case, renumbered_function, renumbered_incoming, renumbered_instr, renumbered_operand, renumbered_param, renumbered_term}
use Rattle.rule_types.specs.Wants.{is_int, is_token}
use Rattle.rule_values.specs.Fits.{fits, fits_arg, fits_integer, fits_kind, fits_scalar, is_integer, is_scalar, is_tokenless}
use Rattle.rule_values.specs.Geps.{field_number, field_of, indices_fit, inner_part, leads_in, only_if, part_of}
use Rattle.rule_values.specs.Instrs.{both_fit, casts, compares, fits_call, fits_called, fits_instr, fits_result, is_intrinsic, is_passed, is_save_or_none, is_saved, passes, suspends_on}
use Rattle.rule_values.specs.Kinds.{value_kind}
use Rattle.rule_values.specs.Switches.{any_twice, bits_in, case_word, fits_case, fits_switch, is_constant, word_in}
use Rattle.rule_values.specs.Values.{breaks_values, first_wrong_value, fits_ending, fits_part, fits_return, has_scalar, is_scalar_or_void, takes}
use Rattle.rule_values.specs.declared.kinds.Kind.{Kind}

module _ (to : ℕ → ℕ) (kinds now : ℕ → Option Kind) (same : (n : ℕ) → now (to n) ≡ kinds n) where
  -- ---- operands

  fits_over : (t : Ty) (x : Operand) → fits now t (renumbered_operand to x) ≡ fits kinds t x
  fits_over t (Operand.Local n) = ap (λ (o : Option Kind). fits_kind o t) (same n)
  fits_over t (Operand.Global n) = refl
  fits_over t (Operand.Number z) = refl
  fits_over t Operand.True = refl
  fits_over t Operand.False = refl
  fits_over t Operand.Null = refl
  fits_over t Operand.None = refl
  fits_over t Operand.Poison = refl

  arg_over : (a : Arg) → fits_arg now (renumbered_arg to a) ≡ fits_arg kinds a
  arg_over a = fits_over a.ty a.value

  integer_over : (a : Arg) → fits_integer now (renumbered_arg to a) ≡ fits_integer kinds a
  integer_over a = ap (λ (b : Bool). is_integer a.ty && b) (arg_over a)

  scalar_over : (a : Arg) → fits_scalar now (renumbered_arg to a) ≡ fits_scalar kinds a
  scalar_over a = ap (λ (b : Bool). is_scalar a.ty && b) (arg_over a)

  -- ---- indices

  number_same : (x : Operand) → field_number (renumbered_operand to x) ≡ field_number x
  number_same (Operand.Local n) = refl
  number_same _ = refl

  index_same : (t : Ty) (a : Arg) → part_of t (renumbered_arg to a) ≡ part_of t a
  index_same (structure ts) a = ap (λ (o : Option ℕ). only_if (is_int 32 a.ty) (field_of ts o)) (number_same a.value)
  index_same (array n t) a = refl
  index_same (int w) a = refl
  index_same ptr a = refl
  index_same token a = refl
  index_same (named x) a = refl

  inner_same : (m : Module) (o : Option Ty) (a : Arg) → inner_part m o (renumbered_arg to a) ≡ inner_part m o a
  inner_same m None a = refl
  inner_same m (Some t) a = index_same (unnamed m t) a

  leads_same : (m : Module) (o : Option Ty) (args : List Arg) → leads_in m o (map (renumbered_arg to) args) ≡ leads_in m o args
  leads_same m o [] = refl
  leads_same m o (a ∷ args) = ap (λ (q : Option Ty). leads_in m q (map (renumbered_arg to) args)) (inner_same m o a) ∙ leads_same m (inner_part m o a) args

  indices_same : (m : Module) (t : Ty) (args : List Arg) → indices_fit m t (map (renumbered_arg to) args) ≡ indices_fit m t args
  indices_same m t [] = refl
  indices_same m t (a ∷ args) = leads_same m (Some t) args

  -- ---- calls

  intrinsic_same : (c : Callee) → is_intrinsic (renumbered_callee to c) ≡ is_intrinsic c
  intrinsic_same (Callee.Named n) = refl
  intrinsic_same (Callee.Allocator a) = refl
  intrinsic_same (Callee.Intrinsic i) = refl
  intrinsic_same (Callee.Local n) = refl

  passed_same : (c : Callee) (t : Ty) → is_passed (renumbered_callee to c) t ≡ is_passed c t
  passed_same c t = ap (λ (b : Bool). is_scalar t || (b && is_token t)) (intrinsic_same c)

  passes_over : (c : Callee) (a : Arg) → passes now (renumbered_callee to c) (renumbered_arg to a) ≡ passes kinds c a
  passes_over c a = λ i. passed_same c a.ty i && arg_over a i

  result_over : (c : Callee) (ty : Option Ty) (r : Option ℕ) → fits_result (renumbered_callee to c) ty (option_map to r) ≡ fits_result c ty r
  result_over c None None = refl
  result_over c None (Some r) = refl
  result_over c (Some t) r = passed_same c t

  save_over : (x : Operand) → is_save_or_none now (renumbered_operand to x) ≡ is_save_or_none kinds x
  save_over (Operand.Local n) = ap is_saved (same n)
  save_over (Operand.Global n) = refl
  save_over (Operand.Number z) = refl
  save_over Operand.True = refl
  save_over Operand.False = refl
  save_over Operand.Null = refl
  save_over Operand.None = refl
  save_over Operand.Poison = refl

  suspends_over : (args : List Arg) → suspends_on now (map (renumbered_arg to) args) ≡ suspends_on kinds args
  suspends_over [] = refl
  suspends_over (a ∷ args) = save_over a.value

  called_over : (c : Callee) (args : List Arg) → fits_called now (renumbered_callee to c) (map (renumbered_arg to) args) ≡ fits_called kinds c args
  called_over (Callee.Local n) args = fits_over ptr (Operand.Local n)
  called_over (Callee.Intrinsic Intrinsic.CoroSuspend) args = suspends_over args
  called_over (Callee.Intrinsic i) args = refl
  called_over (Callee.Named n) args = refl
  called_over (Callee.Allocator a) args = refl

  call_over : (r : Option ℕ) (ty : Option Ty) (c : Callee) (args : List Arg) → fits_call now (option_map to r) ty (renumbered_callee to c) (map (renumbered_arg to) args) ≡ fits_call kinds r ty c args
  call_over r ty c args = λ i.
      result_over c ty r i
      && (called_over c args i && all_changed (passes now (renumbered_callee to c)) (passes kinds c) (renumbered_arg to) (passes_over c) args i)

  -- ---- instructions

  both_over : (t : Ty) (x y : Operand) → both_fit now t (renumbered_operand to x) (renumbered_operand to y) ≡ both_fit kinds t x y
  both_over t x y = λ i. fits_over t x i && fits_over t y i

  instr_over : (m : Module) (x : Instr) → fits_instr m now (renumbered_instr to x) ≡ fits_instr m kinds x
  instr_over m (Instr.Binary r op flags ty left right) = ap (λ (b : Bool). is_integer ty && b) (both_over ty left right)
  instr_over m (Instr.Icmp r pred ty left right) = ap (λ (b : Bool). compares pred ty && b) (both_over ty left right)
  instr_over m (Instr.Select r c a b) = λ i. fits_over (int 1) c i && (same_type a.ty b.ty && (scalar_over a i && scalar_over b i))
  instr_over m (Instr.Cast r op nneg arg ty) = ap (λ (b : Bool). casts op arg.ty ty && b) (arg_over arg)
  instr_over m (Instr.Alloca r ty align) = refl
  instr_over m (Instr.Load r ty address align) = ap (λ (b : Bool). is_scalar ty && b) (fits_over ptr address)
  instr_over m (Instr.Store arg address align) = λ i. scalar_over arg i && fits_over ptr address i
  instr_over m (Instr.Gep r inbounds ty base indices) = λ i.
      (is_tokenless ty && fits_over ptr base i)
      && (all_changed (fits_integer now) (fits_integer kinds) (renumbered_arg to) integer_over indices i && indices_same m ty indices i)
  instr_over m (Instr.Call r must_tail ty callee args) = call_over r ty callee args

  -- ---- terminators

  constant_same : (x : Operand) → is_constant (renumbered_operand to x) ≡ is_constant x
  constant_same (Operand.Local n) = refl
  constant_same _ = refl

  word_same : (w : ℕ) (x : Operand) → word_in w (renumbered_operand to x) ≡ word_in w x
  word_same w (Operand.Local n) = refl
  word_same w _ = refl

  case_over : (t : Ty) (c : Case) → fits_case now t (renumbered_case to c) ≡ fits_case kinds t c
  case_over t c = λ i. same_type c.arg.ty t && (constant_same c.arg.value i && arg_over c.arg i)

  switch_over : (a : Arg) (cases : List Case) → fits_switch now (renumbered_arg to a) (map (renumbered_case to) cases) ≡ fits_switch kinds a cases
  switch_over a cases = λ i.
      integer_over a i
      && (all_changed (fits_case now a.ty) (fits_case kinds a.ty) (renumbered_case to) (case_over a.ty) cases i
      && not (any_twice [] (maps_forget (case_word (bits_in a.ty)) (renumbered_case to) (case_word (bits_in a.ty)) (λ c. word_same (bits_in a.ty) c.arg.value) cases i)))

  return_over : (ty : Option Ty) (o : Option Arg) → fits_return now ty (option_map (renumbered_arg to) o) ≡ fits_return kinds ty o
  return_over None None = refl
  return_over None (Some a) = refl
  return_over (Some t) None = refl
  return_over (Some t) (Some a) = ap (λ (b : Bool). same_type a.ty t && b) (scalar_over a)

  ending_over : (ty : Option Ty) (t : Terminator) → fits_ending now ty (renumbered_term to t) ≡ fits_ending kinds ty t
  ending_over ty (Terminator.Jump label) = refl
  ending_over ty (Terminator.Branch c a b) = fits_over (int 1) c
  ending_over ty (Terminator.Switch arg default cases) = switch_over arg cases
  ending_over ty (Terminator.Ret value) = return_over ty value
  ending_over ty Terminator.Unreachable = refl

  -- ---- parts

  part_over : (m : Module) (names : List Name) (ty : Option Ty) (x : Part) → fits_part m now ty (renumbered_part to names x) ≡ fits_part m kinds ty x
  part_over m names ty (Signature f) = ap (λ (b : Bool). is_scalar_or_void f.result && b) (all_changed has_scalar has_scalar (renumbered_param to) (λ p. refl) f.params)
  part_over m names ty (Head b) = refl
  part_over m names ty (OfPhi p) = ap (λ (b : Bool). is_scalar p.ty && b) (all_changed (takes now p.ty) (takes kinds p.ty) (renumbered_incoming to) (λ x. fits_over p.ty x.value) p.incoming)
  part_over m names ty (OfInstr x) = instr_over m x
  part_over m names ty (Ending t) = ending_over ty t

  pub values_over : (m : Module) (names : List Name) (ty : Option Ty) (p : Place) (x : Part) → breaks_values m now ty p (renumbered_part to names x) ≡ breaks_values m kinds ty p x
  values_over m names ty p x = ap not (part_over m names ty x)

pub values_same : (to : ℕ → ℕ) (names : List Name) → StaysApart to → (m : Module) (k : ℕ) (f : Function) → first_wrong_value m k (renumbered_function to names f) ≡ first_wrong_value m k f
values_same to names apart m k f =
    first_of_parts to names k f (breaks_values m (value_kind f) f.result) (breaks_values m (value_kind (renumbered_function to names f)) f.result)
    (values_over to (value_kind f) (value_kind (renumbered_function to names f)) (λ n. kind_over to apart n names f) m names f.result)

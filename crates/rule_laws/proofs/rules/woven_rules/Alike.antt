-- An operand in the place of one of the same kind: what is asked of types (rule Y1) is the same.
use Rattle.std.proofs.Common.{◌≡◌, ℕ, Bool, true, false, List, [], ◌∷◌, refl, ap, ◌∙◌}
use Rattle.std.specs.List.{list_all}
use Rattle.std.specs.Prelude.{None, Option, Some, map, not, ◌&&◌}
use Rattle.ir_laws.specs.ir_model.Layout.{same_type, unnamed}
use Rattle.ir_laws.specs.ir_model.Ty.{Ty, int, ptr, structure}
use Rattle.ir_laws.specs.ir_model.declared.instr.Case.{Case}
use Rattle.ir_laws.specs.ir_model.declared.instr.Instr.{Instr}
use Rattle.ir_laws.specs.ir_model.declared.instr.Phi.{Phi}
use Rattle.ir_laws.specs.ir_model.declared.instr.Terminator.{Terminator}
use Rattle.ir_laws.specs.ir_model.declared.module.Module.{Module}
use Rattle.ir_laws.specs.ir_model.declared.operand.Arg.{Arg}
use Rattle.ir_laws.specs.ir_model.declared.operand.Callee.{Callee}
use Rattle.ir_laws.specs.ir_model.declared.operand.Intrinsic.{Intrinsic}
use Rattle.ir_laws.specs.ir_model.declared.operand.Operand.{Operand}
use Rattle.rule_locals.specs.Addresses.{is_indirect}
use Rattle.rule_types.specs.Wants.{is_int}
use Rattle.rule_values.specs.Fits.{fits, fits_arg, fits_integer, fits_kind, fits_scalar, is_integer, is_scalar, is_tokenless}
use Rattle.rule_values.specs.Geps.{field_number, field_of, indices_fit, inner_part, leads_in, only_if, part_of}
use Rattle.rule_values.specs.Instrs.{casts, compares, fits_called, fits_instr, fits_result, is_passed, is_save_or_none, is_saved, passes, suspends_on}
use Rattle.rule_values.specs.Switches.{any_twice, bits_in, case_word, fits_case, fits_switch, is_constant}
use Rattle.rule_values.specs.Values.{fits_ending, fits_phi, fits_return, takes}
use Rattle.rule_values.specs.declared.kinds.Kind.{Kind}
use Rattle.ir_laws.specs.facts.woven_rules.Pairs.{Empty, Pair, Pairwise}
use Rattle.rule_laws.specs.rules.woven_rules.Parts.{Alloca, Binary, Call, CalleeStays, Cast, Direct, Gep, Icmp, IncomingStays, Indirect, InstrStays, Load, PhiStays, Select, Store}
use Rattle.ir_laws.specs.facts.woven_rules.Parts.{ArgStays, Branch, Jump, Return, ReturnVoid, Switch, TermStays, Unreachable}

abbrev pub is_a_local : Operand → Bool
is_a_local (Operand.Local v) = true
is_a_local _ = false

-- the same operand, or a local of the same kind in the place of one
pub data IsAlike (kinds now : ℕ → Option Kind) : Operand → Operand → Type 0 where
  Other : (x : Operand) → is_a_local x ≡ false → IsAlike kinds now x x
  Local : (v n : ℕ) → now n ≡ kinds v → IsAlike kinds now (Operand.Local v) (Operand.Local n)

module _ (m : Module) (kinds now : ℕ → Option Kind) where
  abbrev Alike : Operand → Operand → Type 0
  Alike = IsAlike kinds now

  -- ---- operands

  other_fits : (t : Ty) (x : Operand) → is_a_local x ≡ false → fits now t x ≡ fits kinds t x
  other_fits t (Operand.Local v) e = absurd (cc)
  other_fits t (Operand.Global n) e = refl
  other_fits t (Operand.Number z) e = refl
  other_fits t Operand.True e = refl
  other_fits t Operand.False e = refl
  other_fits t Operand.Null e = refl
  other_fits t Operand.None e = refl
  other_fits t Operand.Poison e = refl

  pub fits_alike : (t : Ty) (x y : Operand) → Alike x y → fits now t y ≡ fits kinds t x
  fits_alike t _ _ (Other x e) = other_fits t x e
  fits_alike t _ _ (Local v n e) = ap (λ (o : Option Kind). fits_kind o t) e

  arg_fits : (a b : Arg) → ArgStays Alike a b → fits_arg now b ≡ fits_arg kinds a
  arg_fits a b h = ap (λ (t : Ty). fits now t b.value) h.ty ∙ fits_alike a.ty a.value b.value h.value

  integer_fits : (a b : Arg) → ArgStays Alike a b → fits_integer now b ≡ fits_integer kinds a
  integer_fits a b h = λ k. is_integer (h.ty k) && arg_fits a b h k

  scalar_fits : (a b : Arg) → ArgStays Alike a b → fits_scalar now b ≡ fits_scalar kinds a
  scalar_fits a b h = λ k. is_scalar (h.ty k) && arg_fits a b h k

  all_alike : {A B : Type 0} (R : A → B → Type 0) (t : A → Bool) (u : B → Bool) → ((x : A) (y : B) → R x y → u y ≡ t x) → (xs : List A) (ys : List B) → Pairwise R xs ys → list_all u ys ≡ list_all t xs
  all_alike R t u h _ _ Empty = refl
  all_alike R t u h _ _ (Pair x y xs ys r rest) = λ k. h x y r k && all_alike R t u h xs ys rest k

  -- ---- getelementptr

  number_alike : (x y : Operand) → Alike x y → field_number y ≡ field_number x
  number_alike _ _ (Other x e) = refl
  number_alike _ _ (Local v n e) = refl

  part_alike : (t : Ty) (a b : Arg) → ArgStays Alike a b → part_of t b ≡ part_of t a
  part_alike (structure ts) a b h = λ k. only_if (is_int 32 (h.ty k)) (field_of ts (number_alike a.value b.value h.value k))
  part_alike _ a b h = refl

  inner_alike : (t : Option Ty) (a b : Arg) → ArgStays Alike a b → inner_part m t b ≡ inner_part m t a
  inner_alike None a b h = refl
  inner_alike (Some t) a b h = part_alike (unnamed m t) a b h

  leads_alike : (t : Option Ty) (xs ys : List Arg) → Pairwise (ArgStays Alike) xs ys → leads_in m t ys ≡ leads_in m t xs
  leads_alike t _ _ Empty = refl
  leads_alike t _ _ (Pair x y xs ys h rest) = ap (λ (u : Option Ty). leads_in m u ys) (inner_alike t x y h) ∙ leads_alike (inner_part m t x) xs ys rest

  indices_alike : (t : Ty) (xs ys : List Arg) → Pairwise (ArgStays Alike) xs ys → indices_fit m t ys ≡ indices_fit m t xs
  indices_alike t _ _ Empty = refl
  indices_alike t _ _ (Pair x y xs ys h rest) = leads_alike (Some t) xs ys rest

  -- ---- calls

  saved_alike : (x y : Operand) → Alike x y → is_save_or_none now y ≡ is_save_or_none kinds x
  saved_alike _ _ (Other x e) = on x e
    where
      on : (x : Operand) → is_a_local x ≡ false → is_save_or_none now x ≡ is_save_or_none kinds x
      on (Operand.Local v) e = absurd (cc)
      on _ e = refl
  saved_alike _ _ (Local v n e) = ap is_saved e

  suspends_alike : (xs ys : List Arg) → Pairwise (ArgStays Alike) xs ys → suspends_on now ys ≡ suspends_on kinds xs
  suspends_alike _ _ Empty = refl
  suspends_alike _ _ (Pair x y xs ys h rest) = saved_alike x.value y.value h.value

  direct_alike : (c : Callee) (xs ys : List Arg) → is_indirect c ≡ false → Pairwise (ArgStays Alike) xs ys → fits_called now c ys ≡ fits_called kinds c xs
  direct_alike (Callee.Local v) xs ys e h = absurd (cc)
  direct_alike (Callee.Intrinsic Intrinsic.CoroSuspend) xs ys e h = suspends_alike xs ys h
  direct_alike _ xs ys e h = refl

  called_alike : (c d : Callee) (xs ys : List Arg) → CalleeStays Alike c d → Pairwise (ArgStays Alike) xs ys → fits_called now d ys ≡ fits_called kinds c xs
  called_alike _ _ xs ys (Direct c e) h = direct_alike c xs ys e h
  called_alike _ _ xs ys (Indirect v n r) h = fits_alike ptr (Operand.Local v) (Operand.Local n) r

  passed_alike : (c d : Callee) (t : Ty) → CalleeStays Alike c d → is_passed d t ≡ is_passed c t
  passed_alike _ _ t (Direct c e) = refl
  passed_alike _ _ t (Indirect v n r) = refl

  result_alike : (c d : Callee) (ty : Option Ty) (r : Option ℕ) → CalleeStays Alike c d → fits_result d ty r ≡ fits_result c ty r
  result_alike c d None None h = refl
  result_alike c d None (Some n) h = refl
  result_alike c d (Some t) r h = passed_alike c d t h

  passes_alike : (c d : Callee) → CalleeStays Alike c d → (a b : Arg) → ArgStays Alike a b → passes now d b ≡ passes kinds c a
  passes_alike c d h a b s = (λ k. is_passed d (s.ty k) && arg_fits a b s k) ∙ ap (λ (t : Bool). t && fits_arg kinds a) (passed_alike c d a.ty h)

  -- ---- instructions

  pub instr_alike : (i j : Instr) → InstrStays Alike i j → fits_instr m now j ≡ fits_instr m kinds i
  instr_alike _ _ (Binary r op flags ty a b c d x y) = λ k. is_integer ty && (fits_alike ty a c x k && fits_alike ty b d y k)
  instr_alike _ _ (Icmp r pred ty a b c d x y) = λ k. compares pred ty && (fits_alike ty a c x k && fits_alike ty b d y k)
  instr_alike _ _ (Select r x y a b c d h s t) = λ k. fits_alike (int 1) x y h k && (same_type (s.ty k) (t.ty k) && (scalar_fits a c s k && scalar_fits b d t k))
  instr_alike _ _ (Cast r op nneg a c to h) = λ k. casts op (h.ty k) to && arg_fits a c h k
  instr_alike _ _ (Alloca r ty align) = refl
  instr_alike _ _ (Load r ty x y align h) = λ k. is_scalar ty && fits_alike ptr x y h k
  instr_alike _ _ (Store a c x y align s h) = λ k. scalar_fits a c s k && fits_alike ptr x y h k
  instr_alike _ _ (Gep r inbounds ty x y args rest h s) =
      λ k. (is_tokenless ty && fits_alike ptr x y h k)
      && (all_alike (ArgStays Alike) (fits_integer kinds) (fits_integer now) integer_fits args rest s k && indices_alike ty args rest s k)
  instr_alike _ _ (Call r must_tail ty c d args rest h s) =
      λ k. result_alike c d ty r h k
      && (called_alike c d args rest h s k && all_alike (ArgStays Alike) (passes kinds c) (passes now d) (passes_alike c d h) args rest s k)

  -- ---- phis and terminators

  pub phi_alike : (p q : Phi) → PhiStays (λ (from : ℕ). Alike) p q → fits_phi now q.ty q.incoming ≡ fits_phi kinds p.ty p.incoming
  phi_alike p q h =
      ap (λ (t : Ty). fits_phi now t q.incoming) h.ty
      ∙ ap (λ (b : Bool). is_scalar p.ty && b)
      (all_alike (IncomingStays (λ (from : ℕ). Alike)) (takes kinds p.ty) (takes now p.ty) (λ i j s. fits_alike p.ty i.value j.value s.value) p.incoming q.incoming h.incoming)

  constant_fits : (t : Ty) (x : Operand) → (is_constant x && fits now t x) ≡ (is_constant x && fits kinds t x)
  constant_fits t (Operand.Local v) = refl
  constant_fits t (Operand.Global n) = refl
  constant_fits t (Operand.Number z) = refl
  constant_fits t Operand.True = refl
  constant_fits t Operand.False = refl
  constant_fits t Operand.Null = refl
  constant_fits t Operand.None = refl
  constant_fits t Operand.Poison = refl

  cases_fit : (t : Ty) (cases : List Case) → list_all (fits_case now t) cases ≡ list_all (fits_case kinds t) cases
  cases_fit t [] = refl
  cases_fit t (c ∷ cases) = λ k. (same_type c.arg.ty t && constant_fits c.arg.ty c.arg.value k) && cases_fit t cases k

  switch_fits : (a c : Arg) (cases : List Case) → ArgStays Alike a c → fits_switch now c cases ≡ fits_switch kinds a cases
  switch_fits a c cases h =
      (λ k. integer_fits a c h k && (list_all (fits_case now (h.ty k)) cases && not (any_twice [] (map (case_word (bits_in (h.ty k))) cases))))
      ∙ ap (λ (b : Bool). fits_integer kinds a && (b && not (any_twice [] (map (case_word (bits_in a.ty)) cases)))) (cases_fit a.ty cases)

  return_fits : (ty : Option Ty) (a c : Arg) → ArgStays Alike a c → fits_return now ty (Some c) ≡ fits_return kinds ty (Some a)
  return_fits None a c h = refl
  return_fits (Some t) a c h = λ k. same_type (h.ty k) t && scalar_fits a c h k

  void_fits : (ty : Option Ty) → fits_return now ty None ≡ fits_return kinds ty None
  void_fits None = refl
  void_fits (Some t) = refl

  pub term_alike : (ty : Option Ty) (t u : Terminator) → TermStays Alike t u → fits_ending now ty u ≡ fits_ending kinds ty t
  term_alike ty _ _ (Jump label) = refl
  term_alike ty _ _ (Branch x y a b h) = fits_alike (int 1) x y h
  term_alike ty _ _ (Switch a c default cases h same) = switch_fits a c cases h
  term_alike ty _ _ (Return a c h) = return_fits ty a c h
  term_alike ty _ _ ReturnVoid = void_fits ty
  term_alike ty _ _ Unreachable = refl

-- Values that fit their types in the source do in the result (rule Y1).
use Rattle.std.proofs.Common.{◌≡◌, ℕ, Bool, true, false, List, [], ◌∷◌, refl, sym, ap, ◌∙◌}
use Rattle.std.specs.List.{list_all}
use Rattle.std.specs.Prelude.{None, Option, Some, map, not, ◌&&◌}
use Rattle.rule_laws.specs.ir_base.declared.outcome.Place.{Place}
use Rattle.pass_early_proof.proofs.early.local_rules.Carried.{Carries, StaysOut}
use Rattle.pass_early_proof.proofs.early.local_rules.Known.{all_over, out_of}
use Rattle.rule_laws.proofs.ir_laws.facts.Truth.{and_both, and_first, and_second, holds, both_stay as both_on, first_no, second_no}
use Rattle.pass_early_proof.proofs.early.local_rules.Turned.{Begins, Saves, Stays, Turns, saved_args}
use Rattle.pass_early.specs.Early.{early_module}
use Rattle.pass_early.specs.Renaming.{renamed, renamed_arg, renamed_callee, renamed_incoming, renamed_instr, renamed_return, renamed_term, renamed_value}
use Rattle.pass_early.specs.declared.renaming.Renaming.{Renaming}
use Rattle.rule_laws.specs.ir_parts.Parts.{Ending, OfInstr, OfPhi, Part, Signature}
use Rattle.ir_model.specs.Layout.{same_type, unnamed}
use Rattle.ir_model.specs.Ty.{Ty, array, int, named, ptr, structure, token}
use Rattle.ir_model.specs.declared.instr.Case.{Case}
use Rattle.ir_model.specs.declared.instr.Incoming.{Incoming}
use Rattle.ir_model.specs.declared.instr.Instr.{Instr}
use Rattle.ir_model.specs.declared.instr.Terminator.{Terminator}
use Rattle.ir_model.specs.declared.module.Function.{Function}
use Rattle.ir_model.specs.declared.module.Module.{Module}
use Rattle.ir_model.specs.declared.operand.Arg.{Arg}
use Rattle.ir_model.specs.declared.operand.Callee.{Callee}
use Rattle.ir_model.specs.declared.operand.Intrinsic.{Intrinsic}
use Rattle.ir_model.specs.declared.operand.Operand.{Operand}
use Rattle.rule_laws.specs.run_laws.changed.Changed.{Each}
use Rattle.rule_laws.specs.rule_types.Signatures.{are_wanted, calls_otherwise, is_result}
use Rattle.rule_laws.specs.rule_types.Wants.{intrinsic_params, is_int, is_token}
use Rattle.rule_laws.specs.rule_types.declared.wants.Basic.{Basic}
use Rattle.rule_laws.specs.rule_values.Fits.{fits, fits_arg, fits_integer, fits_kind, fits_scalar, is_integer, is_scalar, is_tokenless}
use Rattle.rule_laws.specs.rule_values.Geps.{field_number, field_of, indices_fit, inner_part, leads_in, only_if, part_of}
use Rattle.rule_laws.specs.rule_values.Instrs.{both_fit, casts, compares, fits_call, fits_called, fits_gep, fits_instr, fits_result, fits_select, is_passed, is_save_or_none, is_saved, passes, suspends_on}
use Rattle.rule_laws.specs.rule_values.Switches.{any_twice, bits_in, case_word, fits_case, fits_switch, is_constant}
use Rattle.rule_laws.specs.rule_values.Values.{breaks_values, fits_ending, fits_phi, fits_return, has_scalar, is_scalar_or_void, takes}
use Rattle.rule_laws.specs.rule_values.declared.kinds.Kind.{Kind}
use Rattle.rule_laws.proofs.rules.local_rules.Fitting.{either}

-- a test of elements, and one of what they become
all_become : {A B : Type 0} (t : A → Bool) (u : B → Bool) (f : A → B) → ((x : A) → t x ≡ true → u (f x) ≡ true) → (xs : List A) → list_all t xs ≡ true → list_all u (map f xs) ≡ true
all_become t u f h [] e = refl
all_become t u f h (x ∷ xs) e = and_both (u (f x)) (list_all u (map f xs)) (h x (and_first (t x) (list_all t xs) e)) (all_become t u f h xs (and_second (t x) (list_all t xs) e))

-- ---- indices

module _ (m : Module) (r : Renaming) where
  abbrev m2 : Module
  m2 = early_module m

  number_same : (x : Operand) → field_number (renamed r x) ≡ field_number x
  number_same (Operand.Local v) = refl
  number_same (Operand.Number z) = refl
  number_same _ = refl

  part_same : (t : Ty) (a : Arg) → part_of t (renamed_arg r a) ≡ part_of t a
  part_same (array n t) a = refl
  part_same (structure ts) a = ap (λ (o : Option ℕ). only_if (is_int 32 a.ty) (field_of ts o)) (number_same a.value)
  part_same _ a = refl

  unnamed_same : (t : Ty) → unnamed m2 t ≡ unnamed m t
  unnamed_same (named n) = refl
  unnamed_same _ = refl

  inner_same : (o : Option Ty) (a : Arg) → inner_part m2 o (renamed_arg r a) ≡ inner_part m o a
  inner_same None a = refl
  inner_same (Some t) a = part_same (unnamed m2 t) a ∙ ap (λ (u : Ty). part_of u a) (unnamed_same t)

  leads_same : (o : Option Ty) (args : List Arg) → leads_in m2 o (map (renamed_arg r) args) ≡ leads_in m o args
  leads_same o [] = refl
  leads_same o (a ∷ args) = ap (λ (q : Option Ty). leads_in m2 q (map (renamed_arg r) args)) (inner_same o a) ∙ leads_same (inner_part m o a) args

  indices_same : (t : Ty) (args : List Arg) → indices_fit m2 t (map (renamed_arg r) args) ≡ indices_fit m t args
  indices_same t [] = refl
  indices_same t (a ∷ args) = leads_same (Some t) args

-- ---- operands of the kinds that they had

module _ (m : Module) (r : Renaming) (fresh : ℕ → Type 0) (kinds now : ℕ → Option Kind) (over : (v : ℕ) (kind : Kind) → kinds v ≡ Some kind → now (renamed_value r v) ≡ Some kind) (stays : (v : ℕ) (kind : Kind) → kinds v ≡ Some kind → now v ≡ Some kind) (saves : (n : ℕ) → fresh n → now n ≡ Some Kind.Saved) where
  abbrev n2 : Module
  n2 = early_module m

  no_kind : (t : Ty) → fits_kind None t ≡ true → ⊥
  no_kind (int w) e = absurd (cc)
  no_kind _ e = absurd (cc)

  local_over : (v w : ℕ) (t : Ty) → ((kind : Kind) → kinds v ≡ Some kind → now w ≡ Some kind) → fits_kind (kinds v) t ≡ true → fits_kind (now w) t ≡ true
  local_over v w t h e = on (kinds v) refl e
    where
      on : (o : Option Kind) → kinds v ≡ o → fits_kind o t ≡ true → fits_kind (now w) t ≡ true
      on None d k = absurd (no_kind t k)
      on (Some kind) d k = ap (λ (o : Option Kind). fits_kind o t) (h kind d) ∙ k

  fits_over : (t : Ty) (x : Operand) → fits kinds t x ≡ true → fits now t (renamed r x) ≡ true
  fits_over t (Operand.Local v) e = local_over v (renamed_value r v) t (over v) e
  fits_over t (Operand.Global n) e = e
  fits_over t (Operand.Number z) e = e
  fits_over t Operand.True e = e
  fits_over t Operand.False e = e
  fits_over t Operand.Null e = e
  fits_over t Operand.None e = e
  fits_over t Operand.Poison e = e

  fits_stays : (t : Ty) (x : Operand) → fits kinds t x ≡ true → fits now t x ≡ true
  fits_stays t (Operand.Local v) e = local_over v v t (stays v) e
  fits_stays t (Operand.Global n) e = e
  fits_stays t (Operand.Number z) e = e
  fits_stays t Operand.True e = e
  fits_stays t Operand.False e = e
  fits_stays t Operand.Null e = e
  fits_stays t Operand.None e = e
  fits_stays t Operand.Poison e = e

  integer_over : (a : Arg) → fits_integer kinds a ≡ true → fits_integer now (renamed_arg r a) ≡ true
  integer_over a e = both_on (is_integer a.ty) (fits_arg kinds a) (is_integer a.ty) (fits_arg now (renamed_arg r a)) (λ k. k) (fits_over a.ty a.value) e

  scalar_over : (a : Arg) → fits_scalar kinds a ≡ true → fits_scalar now (renamed_arg r a) ≡ true
  scalar_over a e = both_on (is_scalar a.ty) (fits_arg kinds a) (is_scalar a.ty) (fits_arg now (renamed_arg r a)) (λ k. k) (fits_over a.ty a.value) e

  pair_over : (t : Ty) (x y : Operand) → both_fit kinds t x y ≡ true → both_fit now t (renamed r x) (renamed r y) ≡ true
  pair_over t x y e = both_on (fits kinds t x) (fits kinds t y) (fits now t (renamed r x)) (fits now t (renamed r y)) (fits_over t x) (fits_over t y) e

  -- ---- calls

  passed_same : (c : Callee) (t : Ty) → is_passed (renamed_callee r c) t ≡ is_passed c t
  passed_same (Callee.Named name) t = refl
  passed_same (Callee.Allocator a) t = refl
  passed_same (Callee.Intrinsic j) t = refl
  passed_same (Callee.Local v) t = refl

  result_over : (c : Callee) (ty : Option Ty) (result : Option ℕ) → fits_result c ty result ≡ true → fits_result (renamed_callee r c) ty result ≡ true
  result_over c None None e = refl
  result_over c None (Some n) e = absurd (cc)
  result_over c (Some t) result e = passed_same c t ∙ e

  saved_over : (v : ℕ) → is_saved (kinds v) ≡ true → is_saved (now (renamed_value r v)) ≡ true
  saved_over v e = on (kinds v) refl e
    where
      on : (o : Option Kind) → kinds v ≡ o → is_saved o ≡ true → is_saved (now (renamed_value r v)) ≡ true
      on None d k = absurd (cc)
      on (Some kind) d k = ap is_saved (over v kind d) ∙ k

  save_over : (x : Operand) → is_save_or_none kinds x ≡ true → is_save_or_none now (renamed r x) ≡ true
  save_over (Operand.Local v) e = saved_over v e
  save_over Operand.None e = refl
  save_over _ e = absurd (cc)

  suspend_over : (args : List Arg) → suspends_on kinds args ≡ true → suspends_on now (map (renamed_arg r) args) ≡ true
  suspend_over [] e = refl
  suspend_over (a ∷ args) e = save_over a.value e

  called_over : (c : Callee) (args : List Arg) → fits_called kinds c args ≡ true → fits_called now (renamed_callee r c) (map (renamed_arg r) args) ≡ true
  called_over (Callee.Named name) args e = refl
  called_over (Callee.Allocator a) args e = refl
  called_over (Callee.Local v) args e = local_over v (renamed_value r v) ptr (over v) e
  called_over (Callee.Intrinsic Intrinsic.CoroId) args e = refl
  called_over (Callee.Intrinsic Intrinsic.CoroSizeI32) args e = refl
  called_over (Callee.Intrinsic Intrinsic.CoroSizeI64) args e = refl
  called_over (Callee.Intrinsic Intrinsic.CoroAlignI32) args e = refl
  called_over (Callee.Intrinsic Intrinsic.CoroAlignI64) args e = refl
  called_over (Callee.Intrinsic Intrinsic.CoroAlloc) args e = refl
  called_over (Callee.Intrinsic Intrinsic.CoroBegin) args e = refl
  called_over (Callee.Intrinsic Intrinsic.CoroFree) args e = refl
  called_over (Callee.Intrinsic Intrinsic.CoroFrame) args e = refl
  called_over (Callee.Intrinsic Intrinsic.CoroSave) args e = refl
  called_over (Callee.Intrinsic Intrinsic.CoroSuspend) args e = suspend_over args e
  called_over (Callee.Intrinsic Intrinsic.CoroEnd) args e = refl
  called_over (Callee.Intrinsic Intrinsic.CoroResume) args e = refl
  called_over (Callee.Intrinsic Intrinsic.CoroDestroy) args e = refl
  called_over (Callee.Intrinsic Intrinsic.CoroDone) args e = refl
  called_over (Callee.Intrinsic Intrinsic.CoroPromise) args e = refl
  called_over (Callee.Intrinsic Intrinsic.LifetimeStart) args e = refl
  called_over (Callee.Intrinsic Intrinsic.LifetimeEnd) args e = refl
  called_over (Callee.Intrinsic Intrinsic.MemcpyI64) args e = refl
  called_over (Callee.Intrinsic Intrinsic.MemcpyI32) args e = refl

  passes_over : (c : Callee) (args : List Arg) → list_all (passes kinds c) args ≡ true → list_all (passes now (renamed_callee r c)) (map (renamed_arg r) args) ≡ true
  passes_over c = all_become (passes kinds c) (passes now (renamed_callee r c)) (renamed_arg r)
      (λ a. both_on (is_passed c a.ty) (fits_arg kinds a) (is_passed (renamed_callee r c) a.ty) (fits_arg now (renamed_arg r a)) (λ e. passed_same c a.ty ∙ e) (fits_over a.ty a.value))

  call_over : (result : Option ℕ) (ty : Option Ty) (c : Callee) (args : List Arg) → fits_call kinds result ty c args ≡ true → fits_call now result ty (renamed_callee r c) (map (renamed_arg r) args) ≡ true
  call_over result ty c args e =
      both_on (fits_result c ty result) (fits_called kinds c args && list_all (passes kinds c) args) (fits_result (renamed_callee r c) ty result) (fits_called now (renamed_callee r c) (map (renamed_arg r) args) && list_all (passes now (renamed_callee r c)) (map (renamed_arg r) args))
      (result_over c ty result)
      (both_on (fits_called kinds c args) (list_all (passes kinds c) args) (fits_called now (renamed_callee r c) (map (renamed_arg r) args)) (list_all (passes now (renamed_callee r c)) (map (renamed_arg r) args)) (called_over c args) (passes_over c args))
      e

  -- ---- instructions

  gep_over : (ty : Ty) (base : Operand) (indices : List Arg) → fits_gep m kinds ty base indices ≡ true → fits_gep n2 now ty (renamed r base) (map (renamed_arg r) indices) ≡ true
  gep_over ty base indices e =
      both_on (is_tokenless ty && fits kinds ptr base) (list_all (fits_integer kinds) indices && indices_fit m ty indices) (is_tokenless ty && fits now ptr (renamed r base)) (list_all (fits_integer now) (map (renamed_arg r) indices) && indices_fit n2 ty (map (renamed_arg r) indices))
      (both_on (is_tokenless ty) (fits kinds ptr base) (is_tokenless ty) (fits now ptr (renamed r base)) (λ k. k) (fits_over ptr base))
      (both_on (list_all (fits_integer kinds) indices) (indices_fit m ty indices) (list_all (fits_integer now) (map (renamed_arg r) indices)) (indices_fit n2 ty (map (renamed_arg r) indices)) (all_become (fits_integer kinds) (fits_integer now) (renamed_arg r) integer_over indices) (λ k. indices_same m r ty indices ∙ k))
      e

  select_over : (c : Operand) (a b : Arg) → fits_select kinds c a b ≡ true → fits_select now (renamed r c) (renamed_arg r a) (renamed_arg r b) ≡ true
  select_over c a b e =
      both_on (fits kinds (int 1) c) (same_type a.ty b.ty && (fits_scalar kinds a && fits_scalar kinds b)) (fits now (int 1) (renamed r c)) (same_type a.ty b.ty && (fits_scalar now (renamed_arg r a) && fits_scalar now (renamed_arg r b)))
      (fits_over (int 1) c)
      (both_on (same_type a.ty b.ty) (fits_scalar kinds a && fits_scalar kinds b) (same_type a.ty b.ty) (fits_scalar now (renamed_arg r a) && fits_scalar now (renamed_arg r b)) (λ k. k)
      (both_on (fits_scalar kinds a) (fits_scalar kinds b) (fits_scalar now (renamed_arg r a)) (fits_scalar now (renamed_arg r b)) (scalar_over a) (scalar_over b)))
      e

  instr_over : (i : Instr) → fits_instr m kinds i ≡ true → fits_instr n2 now (renamed_instr r i) ≡ true
  instr_over (Instr.Binary result op flags ty left right) e = both_on (is_integer ty) (both_fit kinds ty left right) (is_integer ty) (both_fit now ty (renamed r left) (renamed r right)) (λ k. k) (pair_over ty left right) e
  instr_over (Instr.Icmp result pred ty left right) e = both_on (compares pred ty) (both_fit kinds ty left right) (compares pred ty) (both_fit now ty (renamed r left) (renamed r right)) (λ k. k) (pair_over ty left right) e
  instr_over (Instr.Select result c a b) e = select_over c a b e
  instr_over (Instr.Cast result op nneg arg to) e = both_on (casts op arg.ty to) (fits_arg kinds arg) (casts op arg.ty to) (fits_arg now (renamed_arg r arg)) (λ k. k) (fits_over arg.ty arg.value) e
  instr_over (Instr.Alloca result ty align) e = e
  instr_over (Instr.Load result ty address align) e = both_on (is_scalar ty) (fits kinds ptr address) (is_scalar ty) (fits now ptr (renamed r address)) (λ k. k) (fits_over ptr address) e
  instr_over (Instr.Store arg address align) e = both_on (fits_scalar kinds arg) (fits kinds ptr address) (fits_scalar now (renamed_arg r arg)) (fits now ptr (renamed r address)) (scalar_over arg) (fits_over ptr address) e
  instr_over (Instr.Gep result inbounds ty base indices) e = gep_over ty base indices e
  instr_over (Instr.Call result must_tail ty callee args) e = call_over result ty callee args e

  -- a begin may have a name, since it has a type
  begin_named : (result : Option ℕ) (n : ℕ) (ty : Option Ty) → is_result (Some Basic.Ptr) ty ≡ true → fits_result (Callee.Intrinsic Intrinsic.CoroBegin) ty result ≡ true → fits_result (Callee.Intrinsic Intrinsic.CoroBegin) ty (Some n) ≡ true
  begin_named result n None d e = absurd (cc)
  begin_named result n (Some t) d e = e

  token_saved : (t : Ty) → is_token t ≡ true → fits_kind (Some Kind.Saved) t ≡ true
  token_saved token e = refl
  token_saved _ e = absurd (cc)

  begin_over : (n : ℕ) (result : Option ℕ) (ty : Option Ty) (args : List Arg) → is_result (Some Basic.Ptr) ty ≡ true → fits_call kinds result ty (Callee.Intrinsic Intrinsic.CoroBegin) args ≡ true → fits_call now (Some n) ty (Callee.Intrinsic Intrinsic.CoroBegin) (map (renamed_arg r) args) ≡ true
  begin_over n result ty args d e =
      let c : Callee = Callee.Intrinsic Intrinsic.CoroBegin in
      and_both (fits_result c ty (Some n)) (list_all (passes now c) (map (renamed_arg r) args)) (begin_named result n ty d (and_first (fits_result c ty result) (list_all (passes kinds c) args) e)) (passes_over c args (and_second (fits_result c ty result) (list_all (passes kinds c) args) e))

  suspended_over : (n : ℕ) (result : Option ℕ) (ty : Option Ty) (a : Arg) (args : List Arg) → fresh n → a.value ≡ Operand.None → fits_call kinds result ty (Callee.Intrinsic Intrinsic.CoroSuspend) (a ∷ args) ≡ true → fits_call now result ty (Callee.Intrinsic Intrinsic.CoroSuspend) (saved_args r n a args) ≡ true
  suspended_over n result ty a args number unsaved e =
      let c : Callee = Callee.Intrinsic Intrinsic.CoroSuspend in
      let rest = and_second (fits_result c ty result) (is_save_or_none kinds a.value && list_all (passes kinds c) (a ∷ args)) e in
      let all = and_second (is_save_or_none kinds a.value) (list_all (passes kinds c) (a ∷ args)) rest in
      let first = and_first (passes kinds c a) (list_all (passes kinds c) args) all in
      let is_type : is_token a.ty ≡ true = ap (fits kinds a.ty) (sym unsaved) ∙ and_second (is_passed c a.ty) (fits_arg kinds a) first in
      let own : fits_kind (now n) a.ty ≡ true = ap (λ (o : Option Kind). fits_kind o a.ty) (saves n number) ∙ token_saved a.ty is_type in
      and_both (fits_result c ty result) (is_saved (now n) && (((is_passed c a.ty) && fits_kind (now n) a.ty) && list_all (passes now c) (map (renamed_arg r) args)))
      (and_first (fits_result c ty result) (is_save_or_none kinds a.value && list_all (passes kinds c) (a ∷ args)) e)
      (and_both (is_saved (now n)) (((is_passed c a.ty) && fits_kind (now n) a.ty) && list_all (passes now c) (map (renamed_arg r) args)) (ap is_saved (saves n number))
      (and_both (is_passed c a.ty && fits_kind (now n) a.ty) (list_all (passes now c) (map (renamed_arg r) args)) (and_both (is_passed c a.ty) (fits_kind (now n) a.ty) (and_first (is_passed c a.ty) (fits_arg kinds a) first) own) (passes_over c args (and_second (passes kinds c a) (list_all (passes kinds c) args) all))))

  -- ---- phis and terminators

  phi_over : (t : Ty) (xs : List Incoming) → fits_phi kinds t xs ≡ true → fits_phi now t (map (renamed_incoming r) xs) ≡ true
  phi_over t xs e = both_on (is_scalar t) (list_all (takes kinds t) xs) (is_scalar t) (list_all (takes now t) (map (renamed_incoming r) xs)) (λ k. k) (all_become (takes kinds t) (takes now t) (renamed_incoming r) (λ x. fits_over t x.value) xs) e

  case_over : (t : Ty) (c : Case) → fits_case kinds t c ≡ true → fits_case now t c ≡ true
  case_over t c e =
      both_on (same_type c.arg.ty t) (is_constant c.arg.value && fits_arg kinds c.arg) (same_type c.arg.ty t) (is_constant c.arg.value && fits_arg now c.arg) (λ k. k)
      (both_on (is_constant c.arg.value) (fits_arg kinds c.arg) (is_constant c.arg.value) (fits_arg now c.arg) (λ k. k) (fits_stays c.arg.ty c.arg.value)) e

  switch_over : (arg : Arg) (cases : List Case) → fits_switch kinds arg cases ≡ true → fits_switch now (renamed_arg r arg) cases ≡ true
  switch_over arg cases e =
      let once : Bool = not (any_twice [] (map (case_word (bits_in arg.ty)) cases)) in
      both_on (fits_integer kinds arg) (list_all (fits_case kinds arg.ty) cases && once) (fits_integer now (renamed_arg r arg)) (list_all (fits_case now arg.ty) cases && once)
      (integer_over arg)
      (both_on (list_all (fits_case kinds arg.ty) cases) once (list_all (fits_case now arg.ty) cases) once (all_over (fits_case kinds arg.ty) (fits_case now arg.ty) (case_over arg.ty) cases) (λ k. k)) e

  return_over : (ty : Option Ty) (o : Option Arg) → fits_return kinds ty o ≡ true → fits_return now ty (renamed_return r o) ≡ true
  return_over None None e = refl
  return_over None (Some a) e = absurd (cc)
  return_over (Some t) None e = absurd (cc)
  return_over (Some t) (Some a) e = both_on (same_type a.ty t) (fits_scalar kinds a) (same_type a.ty t) (fits_scalar now (renamed_arg r a)) (λ k. k) (scalar_over a) e

  ending_over : (ty : Option Ty) (t : Terminator) → fits_ending kinds ty t ≡ true → fits_ending now ty (renamed_term r t) ≡ true
  ending_over ty (Terminator.Jump label) e = refl
  ending_over ty (Terminator.Branch c a b) e = fits_over (int 1) c e
  ending_over ty (Terminator.Switch arg default cases) e = switch_over arg cases e
  ending_over ty (Terminator.Ret value) e = return_over ty value e
  ending_over ty Terminator.Unreachable e = refl

  -- ---- the rule

  module _ (ty : Option Ty) where
    abbrev old : Place → Part → Bool
    old = either (breaks_values m kinds ty) (calls_otherwise m)

    values_over : (p : Place) (i : Instr) (js : List Instr) → Turns r fresh i js → old p (OfInstr i) ≡ false → Each (StaysOut (breaks_values n2 now ty) p) js
    values_over p i _ (Stays _) e =
        (λ q d. out_of (fits_instr m kinds i) (fits_instr n2 now (renamed_instr r i)) (instr_over i) (first_no (breaks_values m kinds ty p (OfInstr i)) (calls_otherwise m p (OfInstr i)) e), tt)
    values_over p _ _ (Begins n result must_tail t args) e =
        let i : Instr = Instr.Call result must_tail t (Callee.Intrinsic Intrinsic.CoroBegin) args in
        let right = holds (is_result (Some Basic.Ptr) t && are_wanted (intrinsic_params Intrinsic.CoroBegin) args) (second_no (breaks_values m kinds ty p (OfInstr i)) (calls_otherwise m p (OfInstr i)) e) in (
          λ q d. out_of (fits_instr m kinds i) (fits_call now (Some n) t (Callee.Intrinsic Intrinsic.CoroBegin) (map (renamed_arg r) args)) (begin_over n result t args (and_first (is_result (Some Basic.Ptr) t) (are_wanted (intrinsic_params Intrinsic.CoroBegin) args) right)) (first_no (breaks_values m kinds ty p (OfInstr i)) (calls_otherwise m p (OfInstr i)) e),
          tt,
        )
    values_over p _ _ (Saves n result must_tail t a args number unsaved) e =
        let i : Instr = Instr.Call result must_tail t (Callee.Intrinsic Intrinsic.CoroSuspend) (a ∷ args) in (
          λ q d. refl,
          (
            λ q d. out_of (fits_instr m kinds i) (fits_call now result t (Callee.Intrinsic Intrinsic.CoroSuspend) (saved_args r n a args)) (suspended_over n result t a args number unsaved) (first_no (breaks_values m kinds ty p (OfInstr i)) (calls_otherwise m p (OfInstr i)) e),
            tt,
          ),
        )

    pub values_carried : (f g : Function) → g.result ≡ f.result → g.params ≡ f.params → Carries r fresh f g old (breaks_values n2 now ty)
    values_carried f g result params =
        record {
          signature = λ p e. (λ k. not (is_scalar_or_void (result k) && list_all has_scalar (params k))) ∙ first_no (breaks_values m kinds ty p (Signature f)) (calls_otherwise m p (Signature f)) e;
          head = λ p b c d e. refl;
          phi = λ p x e. out_of (fits_phi kinds x.ty x.incoming) (fits_phi now x.ty (map (renamed_incoming r) x.incoming)) (phi_over x.ty x.incoming) (first_no (breaks_values m kinds ty p (OfPhi x)) (calls_otherwise m p (OfPhi x)) e);
          instr = values_over;
          ending = λ p q t e. out_of (fits_ending kinds ty t) (fits_ending now ty (renamed_term r t)) (ending_over ty t) (first_no (breaks_values m kinds ty p (Ending t)) (calls_otherwise m p (Ending t)) e);
        }

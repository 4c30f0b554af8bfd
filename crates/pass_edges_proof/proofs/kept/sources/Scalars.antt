-- What a step reads is of an integer type or an address (rules Y1 and Y2), so it is no token.
use Rattle.std.proofs.Common.{◌≡◌, ⊎_elim, ℕ, Bool, true, false, List, [], ◌∷◌, Option, Some, None, refl, ap, ◌∙◌}
use Rattle.std.specs.List.{list_all}
use Rattle.std.specs.Prelude.{◌==◌, ◌&&◌, ◌||◌, if◌then◌else◌}
use Rattle.pass_early_proof.proofs.ir_laws.facts.Truth.{equal_numbers, and_first, and_second}
use Rattle.pass_early_proof.specs.ir_base.declared.ops.CastOp.{CastOp}
use Rattle.pass_early_proof.specs.ir_base.declared.ops.Pred.{Pred}
use Rattle.ir_model.specs.Layout.{same_type}
use Rattle.ir_model.specs.Names.{is_local}
use Rattle.ir_model.specs.Ty.{Ty, array, int, named, ptr, structure, token}
use Rattle.ir_model.specs.declared.instr.Incoming.{Incoming}
use Rattle.ir_model.specs.declared.instr.Instr.{Instr}
use Rattle.ir_model.specs.declared.instr.Phi.{Phi}
use Rattle.ir_model.specs.declared.instr.Terminator.{Terminator}
use Rattle.ir_model.specs.declared.module.Module.{Module}
use Rattle.ir_model.specs.declared.operand.Arg.{Arg}
use Rattle.ir_model.specs.declared.operand.Callee.{Callee}
use Rattle.ir_model.specs.declared.operand.Intrinsic.{Intrinsic}
use Rattle.ir_model.specs.declared.operand.Operand.{Operand}
use Rattle.pass_early_proof.proofs.ir_paths.Search.{either}
use Rattle.pass_early_proof.specs.ir_paths.Slots.{is_in_args, occurs_in_term}
use Rattle.pass_early_proof.specs.ir_paths.Windows.{operand_at}
use Rattle.pass_edges_proof.proofs.kept.sources.Tokens.{FitsCallee}
use Rattle.pass_kept_proof.specs.Needed.{phis_read, reads, reads_intrinsic}
use Rattle.pass_early_proof.specs.run_step.Step.{incoming_from}
use Rattle.pass_early_proof.specs.rule_types.Signatures.{are_wanted, is_result}
use Rattle.pass_early_proof.specs.rule_types.Wants.{any, intrinsic_params, intrinsic_result, is_basic, is_int, is_ptr, is_token, meets}
use Rattle.pass_early_proof.specs.rule_types.declared.wants.Basic.{Basic}
use Rattle.pass_early_proof.specs.rule_types.declared.wants.Wanted.{Wanted}
use Rattle.pass_early_proof.specs.rule_values.Fits.{fits, fits_arg, fits_integer, fits_kind, fits_scalar, is_integer, is_scalar, is_tokenless}
use Rattle.pass_early_proof.specs.rule_values.Instrs.{both_fit, casts, compares, fits_call, fits_called, fits_instr, fits_result, is_intrinsic, is_narrower, is_passed, passes}
use Rattle.pass_early_proof.specs.run_laws.changed.Changed.{Each}
use Rattle.pass_early_proof.specs.rule_values.Values.{fits_ending, fits_phi, takes}
use Rattle.pass_early_proof.specs.rule_values.declared.kinds.Kind.{Kind}

module _ (kinds : ℕ → Option Kind) (v : ℕ) where
  -- v is of an integer type or an address
  abbrev pub IsScalarValue : Type 0
  IsScalarValue = (t : Ty) × (is_scalar t ≡ true) × (fits_kind (kinds v) t ≡ true)

  local_fits : (t : Ty) (x : Operand) → is_local v x ≡ true → fits kinds t x ≡ true → fits_kind (kinds v) t ≡ true
  local_fits t (Operand.Local n) e h = ap (λ (k : ℕ). fits_kind (kinds k) t) (equal_numbers v n e) ∙ h
  local_fits t (Operand.Global n) e h = absurd (cc)
  local_fits t (Operand.Number z) e h = absurd (cc)
  local_fits t Operand.True e h = absurd (cc)
  local_fits t Operand.False e h = absurd (cc)
  local_fits t Operand.Null e h = absurd (cc)
  local_fits t Operand.None e h = absurd (cc)
  local_fits t Operand.Poison e h = absurd (cc)

  by_operand : (t : Ty) (x : Operand) → is_scalar t ≡ true → is_local v x ≡ true → fits kinds t x ≡ true → IsScalarValue
  by_operand t x s e h = (t, s, local_fits t x e h)

  by_arg : (a : Arg) → is_local v a.value ≡ true → fits_scalar kinds a ≡ true → IsScalarValue
  by_arg a e h = by_operand a.ty a.value (and_first (is_scalar a.ty) (fits_arg kinds a) h) e (and_second (is_scalar a.ty) (fits_arg kinds a) h)

  by_two : (t : Ty) (x y : Operand) → is_scalar t ≡ true → (is_local v x || is_local v y) ≡ true → (fits kinds t x && fits kinds t y) ≡ true → IsScalarValue
  by_two t x y s e h = ⊎_elim
      (λ k. by_operand t x s k (and_first (fits kinds t x) (fits kinds t y) h))
      (λ k. by_operand t y s k (and_second (fits kinds t x) (fits kinds t y) h))
      (either (is_local v x) (is_local v y) e)

  integer_scalar : (t : Ty) → is_integer t ≡ true → is_scalar t ≡ true
  integer_scalar t h = ap (λ (b : Bool). b || is_ptr t) h

  compared_scalar : (pred : Pred) (t : Ty) → compares pred t ≡ true → is_scalar t ≡ true
  compared_scalar pred (int w) h = refl
  compared_scalar pred ptr h = refl
  compared_scalar pred token h = absurd (cc)
  compared_scalar pred (array n t) h = absurd (cc)
  compared_scalar pred (structure ts) h = absurd (cc)
  compared_scalar pred (named n) h = absurd (cc)

  narrower_both : (a b : Ty) → is_narrower a b ≡ true → (is_scalar a ≡ true) × (is_scalar b ≡ true)
  narrower_both (int x) (int w) h = (refl, refl)
  narrower_both _ _ h = absurd (cc)

  cast_scalar : (op : CastOp) (from to : Ty) → casts op from to ≡ true → is_scalar from ≡ true
  cast_scalar CastOp.Trunc from to h = (narrower_both to from h).1
  cast_scalar CastOp.Zext from to h = (narrower_both from to h).0
  cast_scalar CastOp.Sext from to h = (narrower_both from to h).0

  -- ---- operands of calls

  -- an operand that is passed to no intrinsic
  passed_scalar : (callee : Callee) (t : Ty) → is_intrinsic callee ≡ false → is_passed callee t ≡ true → is_scalar t ≡ true
  passed_scalar callee t none h = on (is_scalar t) (is_intrinsic callee) none h
    where
      on : (a b : Bool) → b ≡ false → (a || (b && is_token t)) ≡ true → a ≡ true
      on true b e k = refl
      on false true e k = absurd (cc)
      on false false e k = absurd (cc)

  in_passed : (callee : Callee) (args : List Arg) → is_intrinsic callee ≡ false → list_all (passes kinds callee) args ≡ true → is_in_args v args ≡ true → IsScalarValue
  in_passed callee [] none h e = absurd (cc)
  in_passed callee (a ∷ args) none h e = ⊎_elim
      (λ k.
      let own = and_first (passes kinds callee a) (list_all (passes kinds callee) args) h in
      by_operand a.ty a.value (passed_scalar callee a.ty none (and_first (is_passed callee a.ty) (fits_arg kinds a) own)) k (and_second (is_passed callee a.ty) (fits_arg kinds a) own))
      (λ k. in_passed callee args none (and_second (passes kinds callee a) (list_all (passes kinds callee) args) h) k)
      (either (is_local v a.value) (is_in_args v args) e)

  -- a basic type that isn't that of tokens
  abbrev is_scalar_basic : Basic → Bool
  is_scalar_basic Basic.Token = false
  is_scalar_basic _ = true

  int_scalar : (w : ℕ) (t : Ty) → is_int w t ≡ true → is_scalar t ≡ true
  int_scalar w (int x) h = refl
  int_scalar w ptr h = absurd (cc)
  int_scalar w token h = absurd (cc)
  int_scalar w (array n t) h = absurd (cc)
  int_scalar w (structure ts) h = absurd (cc)
  int_scalar w (named n) h = absurd (cc)

  ptr_scalar : (t : Ty) → is_ptr t ≡ true → is_scalar t ≡ true
  ptr_scalar ptr h = refl
  ptr_scalar (int x) h = absurd (cc)
  ptr_scalar token h = absurd (cc)
  ptr_scalar (array n t) h = absurd (cc)
  ptr_scalar (structure ts) h = absurd (cc)
  ptr_scalar (named n) h = absurd (cc)

  basic_scalar : (b : Basic) (t : Ty) → is_scalar_basic b ≡ true → is_basic b t ≡ true → is_scalar t ≡ true
  basic_scalar Basic.Token t s h = absurd (cc)
  basic_scalar Basic.Ptr t s h = ptr_scalar t h
  basic_scalar Basic.I1 t s h = int_scalar 1 t h
  basic_scalar Basic.I8 t s h = int_scalar 8 t h
  basic_scalar Basic.I32 t s h = int_scalar 32 t h
  basic_scalar Basic.I64 t s h = int_scalar 64 t h
  basic_scalar Basic.Size t s h = ⊎_elim (λ e. int_scalar 32 t e) (λ e. int_scalar 64 t e) (either (is_int 32 t) (is_int 64 t) h)

  abbrev are_scalar_basic : List Wanted → Bool
  are_scalar_basic ws = list_all (λ w. is_scalar_basic w.ty) ws

  module _ (callee : Callee) where
    wanted_own : (w : Wanted) (ws : List Wanted) (a : Arg) (args : List Arg) → is_scalar_basic w.ty ≡ true → are_wanted (w ∷ ws) (a ∷ args) ≡ true → list_all (passes kinds callee) (a ∷ args) ≡ true → is_local v a.value ≡ true → IsScalarValue
    wanted_own w ws a args s h p e =
        let own = and_first (is_basic w.ty a.ty) (meets w.value a.value) (and_first (is_basic w.ty a.ty && meets w.value a.value) (are_wanted ws args) h) in
        let fit = and_second (is_passed callee a.ty) (fits_arg kinds a) (and_first (passes kinds callee a) (list_all (passes kinds callee) args) p) in
        by_operand a.ty a.value (basic_scalar w.ty a.ty s own) e fit

    wanted_in : (ws : List Wanted) (args : List Arg) → are_scalar_basic ws ≡ true → are_wanted ws args ≡ true → list_all (passes kinds callee) args ≡ true → is_in_args v args ≡ true → IsScalarValue
    wanted_in [] [] s h p e = absurd (cc)
    wanted_in [] (a ∷ args) s h p e = absurd (cc)
    wanted_in (w ∷ ws) [] s h p e = absurd (cc)
    wanted_in (w ∷ ws) (a ∷ args) s h p e = ⊎_elim
        (λ k. wanted_own w ws a args (and_first (is_scalar_basic w.ty) (are_scalar_basic ws) s) h p k)
        (λ k. wanted_in ws args (and_second (is_scalar_basic w.ty) (are_scalar_basic ws) s) (and_second (is_basic w.ty a.ty && meets w.value a.value) (are_wanted ws args) h) (and_second (passes kinds callee a) (list_all (passes kinds callee) args) p) k)
        (either (is_local v a.value) (is_in_args v args) e)

    first_in : (args : List Arg) → is_local v (operand_at args 0) ≡ true → is_in_args v args ≡ true
    first_in [] e = absurd (cc)
    first_in (a ∷ args) e = ap (λ (b : Bool). b || is_in_args v args) e

    -- the second operand of coro.begin
    begins : (args : List Arg) → are_wanted (intrinsic_params Intrinsic.CoroBegin) args ≡ true → list_all (passes kinds callee) args ≡ true → is_local v (operand_at args 1) ≡ true → IsScalarValue
    begins [] h p e = absurd (cc)
    begins (a ∷ []) h p e = absurd (cc)
    begins (a ∷ c ∷ args) h p e =
        let rest = and_second (is_basic Basic.Token a.ty && true) (are_wanted (any Basic.Ptr ∷ []) (c ∷ args)) h in
        wanted_own (any Basic.Ptr) [] c args refl rest (and_second (passes kinds callee a) (list_all (passes kinds callee) (c ∷ args)) p) e

  by_intrinsic : (i : Intrinsic) (args : List Arg) → are_wanted (intrinsic_params i) args ≡ true → list_all (passes kinds (Callee.Intrinsic i)) args ≡ true → reads_intrinsic v i args ≡ true → IsScalarValue
  by_intrinsic Intrinsic.CoroBegin args h p e = begins (Callee.Intrinsic Intrinsic.CoroBegin) args h p e
  by_intrinsic Intrinsic.CoroResume args h p e = wanted_in (Callee.Intrinsic Intrinsic.CoroResume) (intrinsic_params Intrinsic.CoroResume) args refl h p (first_in (Callee.Intrinsic Intrinsic.CoroResume) args e)
  by_intrinsic Intrinsic.CoroDestroy args h p e = wanted_in (Callee.Intrinsic Intrinsic.CoroDestroy) (intrinsic_params Intrinsic.CoroDestroy) args refl h p (first_in (Callee.Intrinsic Intrinsic.CoroDestroy) args e)
  by_intrinsic Intrinsic.CoroDone args h p e = wanted_in (Callee.Intrinsic Intrinsic.CoroDone) (intrinsic_params Intrinsic.CoroDone) args refl h p (first_in (Callee.Intrinsic Intrinsic.CoroDone) args e)
  by_intrinsic Intrinsic.CoroPromise args h p e = wanted_in (Callee.Intrinsic Intrinsic.CoroPromise) (intrinsic_params Intrinsic.CoroPromise) args refl h p (first_in (Callee.Intrinsic Intrinsic.CoroPromise) args e)
  by_intrinsic Intrinsic.LifetimeStart args h p e = wanted_in (Callee.Intrinsic Intrinsic.LifetimeStart) (intrinsic_params Intrinsic.LifetimeStart) args refl h p e
  by_intrinsic Intrinsic.LifetimeEnd args h p e = wanted_in (Callee.Intrinsic Intrinsic.LifetimeEnd) (intrinsic_params Intrinsic.LifetimeEnd) args refl h p e
  by_intrinsic Intrinsic.MemcpyI64 args h p e = wanted_in (Callee.Intrinsic Intrinsic.MemcpyI64) (intrinsic_params Intrinsic.MemcpyI64) args refl h p e
  by_intrinsic Intrinsic.MemcpyI32 args h p e = wanted_in (Callee.Intrinsic Intrinsic.MemcpyI32) (intrinsic_params Intrinsic.MemcpyI32) args refl h p e
  by_intrinsic _ args h p e = absurd (cc)

  in_integers : (args : List Arg) → list_all (fits_integer kinds) args ≡ true → is_in_args v args ≡ true → IsScalarValue
  in_integers [] h e = absurd (cc)
  in_integers (a ∷ args) h e = ⊎_elim
      (λ k.
      let own = and_first (fits_integer kinds a) (list_all (fits_integer kinds) args) h in
      by_operand a.ty a.value (integer_scalar a.ty (and_first (is_integer a.ty) (fits_arg kinds a) own)) k (and_second (is_integer a.ty) (fits_arg kinds a) own))
      (λ k. in_integers args (and_second (fits_integer kinds a) (list_all (fits_integer kinds) args) h) k)
      (either (is_local v a.value) (is_in_args v args) e)

  -- ---- instructions

  call_args : (r : Option ℕ) (ty : Option Ty) (callee : Callee) (args : List Arg) → fits_call kinds r ty callee args ≡ true → list_all (passes kinds callee) args ≡ true
  call_args r ty callee args h = and_second (fits_called kinds callee args) (list_all (passes kinds callee) args) (and_second (fits_result callee ty r) _ h)

  pub instr_reads : (m : Module) (i : Instr) → fits_instr m kinds i ≡ true → FitsCallee m i → reads v i ≡ true → IsScalarValue
  instr_reads m (Instr.Binary name op flags ty a b) h c e =
      by_two ty a b (integer_scalar ty (and_first (is_integer ty) (both_fit kinds ty a b) h)) e (and_second (is_integer ty) (both_fit kinds ty a b) h)
  instr_reads m (Instr.Icmp name pred ty a b) h c e =
      by_two ty a b (compared_scalar pred ty (and_first (compares pred ty) (both_fit kinds ty a b) h)) e (and_second (compares pred ty) (both_fit kinds ty a b) h)
  instr_reads m (Instr.Select name x a b) h c e =
      let rest = and_second (fits kinds (int 1) x) _ h in
      let both = and_second (same_type a.ty b.ty) (fits_scalar kinds a && fits_scalar kinds b) rest in
      ⊎_elim
      (λ k. by_operand (int 1) x refl k (and_first (fits kinds (int 1) x) _ h))
      (λ k. ⊎_elim (λ l. by_arg a l (and_first (fits_scalar kinds a) (fits_scalar kinds b) both)) (λ l. by_arg b l (and_second (fits_scalar kinds a) (fits_scalar kinds b) both)) (either (is_local v a.value) (is_local v b.value) k))
      (either (is_local v x) (is_local v a.value || is_local v b.value) e)
  instr_reads m (Instr.Cast name op nneg arg to) h c e =
      by_operand arg.ty arg.value (cast_scalar op arg.ty to (and_first (casts op arg.ty to) (fits_arg kinds arg) h)) e (and_second (casts op arg.ty to) (fits_arg kinds arg) h)
  instr_reads m (Instr.Alloca name ty align) h c e = absurd (cc)
  instr_reads m (Instr.Load name ty p align) h c e = by_operand ptr p refl e (and_second (is_scalar ty) (fits kinds ptr p) h)
  instr_reads m (Instr.Store arg p align) h c e = ⊎_elim
      (λ k. by_arg arg k (and_first (fits_scalar kinds arg) (fits kinds ptr p) h))
      (λ k. by_operand ptr p refl k (and_second (fits_scalar kinds arg) (fits kinds ptr p) h))
      (either (is_local v arg.value) (is_local v p) e)
  instr_reads m (Instr.Gep name inbounds ty base indices) h c e = ⊎_elim
      (λ k. by_operand ptr base refl k (and_second (is_tokenless ty) (fits kinds ptr base) (and_first (is_tokenless ty && fits kinds ptr base) _ h)))
      (λ k. in_integers indices (and_first (list_all (fits_integer kinds) indices) _ (and_second (is_tokenless ty && fits kinds ptr base) _ h)) k)
      (either (is_local v base) (is_in_args v indices) e)
  instr_reads m (Instr.Call r must_tail ty (Callee.Named n) args) h c e = in_passed (Callee.Named n) args refl (call_args r ty (Callee.Named n) args h) e
  instr_reads m (Instr.Call r must_tail ty (Callee.Allocator a) args) h c e = in_passed (Callee.Allocator a) args refl (call_args r ty (Callee.Allocator a) args h) e
  instr_reads m (Instr.Call r must_tail ty (Callee.Intrinsic i) args) h c e =
      by_intrinsic i args (and_second (is_result (intrinsic_result i) ty) (are_wanted (intrinsic_params i) args) c) (call_args r ty (Callee.Intrinsic i) args h) e
  instr_reads m (Instr.Call r must_tail ty (Callee.Local f) args) h c e = ⊎_elim
      (λ k. by_operand ptr (Operand.Local f) refl k (and_first (fits kinds ptr (Operand.Local f)) (list_all (passes kinds (Callee.Local f)) args) (and_second (fits_result (Callee.Local f) ty r) _ h)))
      (λ k. in_passed (Callee.Local f) args refl (call_args r ty (Callee.Local f) args h) k)
      (either (v == f) (is_in_args v args) e)

  -- ---- terminators and phis

  pub term_reads : (result : Option Ty) (t : Terminator) → fits_ending kinds result t ≡ true → occurs_in_term v t ≡ true → IsScalarValue
  term_reads result (Terminator.Jump label) h e = absurd (cc)
  term_reads result (Terminator.Branch x a b) h e = by_operand (int 1) x refl e h
  term_reads result (Terminator.Switch arg default cases) h e =
      let own = and_first (fits_integer kinds arg) _ h in
      by_operand arg.ty arg.value (integer_scalar arg.ty (and_first (is_integer arg.ty) (fits_arg kinds arg) own)) e (and_second (is_integer arg.ty) (fits_arg kinds arg) own)
  term_reads result (Terminator.Ret None) h e = absurd (cc)
  term_reads None (Terminator.Ret (Some arg)) h e = absurd (cc)
  term_reads (Some ty) (Terminator.Ret (Some arg)) h e = by_arg arg e (and_second (same_type arg.ty ty) (fits_scalar kinds arg) h)
  term_reads result Terminator.Unreachable h e = absurd (cc)

  incoming_reads : (t : Ty) (from : ℕ) (is : List Incoming) → is_scalar t ≡ true → list_all (takes kinds t) is ≡ true → is_local v (incoming_from is from) ≡ true → IsScalarValue
  incoming_reads t from [] s h e = absurd (cc)
  incoming_reads t from (i ∷ is) s h e = on (i.from == from) e (λ k. incoming_reads t from is s (and_second (takes kinds t i) (list_all (takes kinds t) is) h) k)
    where
      on : (b : Bool) → is_local v (if b then i.value else incoming_from is from) ≡ true → (is_local v (incoming_from is from) ≡ true → IsScalarValue) → IsScalarValue
      on true k again = by_operand t i.value s k (and_first (takes kinds t i) (list_all (takes kinds t) is) h)
      on false k again = again k

  pub phis_reads : (from : ℕ) (ps : List Phi) → Each (λ p. fits_phi kinds p.ty p.incoming ≡ true) ps → phis_read v from ps ≡ true → IsScalarValue
  phis_reads from [] h e = absurd (cc)
  phis_reads from (p ∷ ps) h e = ⊎_elim
      (λ k. incoming_reads p.ty from p.incoming (and_first (is_scalar p.ty) (list_all (takes kinds p.ty) p.incoming) h.0) (and_second (is_scalar p.ty) (list_all (takes kinds p.ty) p.incoming) h.0) k)
      (λ k. phis_reads from ps h.1 k)
      (either (is_local v (incoming_from p.incoming from)) (phis_read v from ps) e)

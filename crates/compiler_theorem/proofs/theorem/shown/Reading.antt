-- What an instruction uses of values that cross suspends it reads, outside the end's block.
use Rattle.std.proofs.Common.{◌≡◌, ◌⊎◌, inl, inr, ⊎_elim, ℕ, zero, suc, Bool, true, false, List, [], ◌∷◌, map, Option}
use Rattle.std.proofs.Common.{Some, None}
use Rattle.std.proofs.Common.{refl, sym, ap, ◌∙◌, subst}
use Rattle.std.proofs.lemmas.Bool.{false≢true}
use Rattle.std.specs.List.{list_all, list_any}
use Rattle.std.specs.Prelude.{slice_get, ◌&&◌, ◌||◌, ◌==◌}
use Rattle.compiler.specs.flow_solver.Paths.{IsListed}
use Rattle.compiler.specs.frame_crossing.Paths.{used_by}
use Rattle.compiler.proofs.ir_laws.facts.Truth.{and_first, and_second, equal_numbers, itself}
use Rattle.compiler.specs.ir_model.Layout.{same_type}
use Rattle.compiler.specs.ir_model.Names.{is_local}
use Rattle.compiler.specs.ir_model.Ty.{Ty, token}
use Rattle.compiler.specs.ir_model.declared.instr.Case.{Case}
use Rattle.compiler.specs.ir_model.declared.instr.Instr.{Instr}
use Rattle.compiler.specs.ir_model.declared.instr.Terminator.{Terminator}
use Rattle.compiler.specs.ir_model.declared.module.Function.{Function}
use Rattle.compiler.specs.ir_model.declared.module.Module.{Module}
use Rattle.compiler.specs.ir_model.declared.operand.Arg.{Arg}
use Rattle.compiler.specs.ir_model.declared.operand.Callee.{Callee}
use Rattle.compiler.specs.ir_model.declared.operand.Intrinsic.{Intrinsic}
use Rattle.compiler.specs.ir_model.declared.operand.Operand.{Operand}
use Rattle.compiler.specs.ir_parts.Contents.{arg_operands, ending_operands, instr_operands}
use Rattle.compiler.specs.ir_paths.Slots.{is_in_args, occurs_in_term}
use Rattle.compiler.specs.ir_paths.Windows.{is_call_of, operand_at}
use Rattle.compiler.specs.rule_types.Signatures.{are_wanted, is_result}
use Rattle.compiler.specs.rule_types.Wants.{any, intrinsic_params, intrinsic_result, is_basic, meets}
use Rattle.compiler.specs.rule_types.declared.wants.Basic.{Basic}
use Rattle.compiler.specs.rule_types.declared.wants.Demand.{Demand}
use Rattle.compiler.specs.rule_types.declared.wants.Wanted.{Wanted}
use Rattle.compiler.specs.rule_uses.Uses.{locals_in}
use Rattle.compiler.specs.rule_values.Fits.{fits, fits_arg, fits_integer, fits_kind}
use Rattle.compiler.specs.rule_values.Instrs.{fits_called, fits_result, is_passed, passes}
use Rattle.compiler.specs.rule_values.Kinds.{value_kind}
use Rattle.compiler.specs.rule_values.Switches.{fits_case, is_constant}
use Rattle.pass_frames_meaning.proofs.coroutines.Suspends.{token_is}
use Rattle.pass_frames_meaning.specs.run_types.Rules.{KeepsTypes}
use Rattle.compiler.specs.run_step.Reads.{reads, reads_at, reads_intrinsic}
use Rattle.compiler.specs.run_step.Step.{AtInstr, AtTerm, Fetched, Nowhere, fetch}

-- ---- operands

operand_is : (v : ℕ) (x : Operand) → is_local v x ≡ true → x ≡ Operand.Local v
operand_is v (Operand.Local n) e = ap Operand.Local (sym (equal_numbers v n e))
operand_is v (Operand.Global n) e = absurd (cc)
operand_is v (Operand.Number z) e = absurd (cc)
operand_is v Operand.True e = absurd (cc)
operand_is v Operand.False e = absurd (cc)
operand_is v Operand.Null e = absurd (cc)
operand_is v Operand.None e = absurd (cc)
operand_is v Operand.Poison e = absurd (cc)

or_left : (a b : Bool) → a ≡ true → (a || b) ≡ true
or_left true b e = refl
or_left false b e = absurd (cc)

or_right : (a b : Bool) → b ≡ true → (a || b) ≡ true
or_right true b e = refl
or_right false b e = e

either : (a b : Bool) → (a || b) ≡ true → (a ≡ true) ⊎ (b ≡ true)
either true b e = inl refl
either false b e = inr e

-- some operand is the local
listed_any : (v : ℕ) (xs : List Operand) → IsListed v (locals_in xs) → list_any (is_local v) xs ≡ true
listed_any v [] l = absurd l
listed_any v (Operand.Local n ∷ xs) (inl e) = or_left (v == n) _ (ap (λ (k : ℕ). v == k) (sym e) ∙ itself v)
listed_any v (Operand.Local n ∷ xs) (inr l) = or_right (v == n) _ (listed_any v xs l)
listed_any v (Operand.Global n ∷ xs) l = listed_any v xs l
listed_any v (Operand.Number z ∷ xs) l = listed_any v xs l
listed_any v (Operand.True ∷ xs) l = listed_any v xs l
listed_any v (Operand.False ∷ xs) l = listed_any v xs l
listed_any v (Operand.Null ∷ xs) l = listed_any v xs l
listed_any v (Operand.None ∷ xs) l = listed_any v xs l
listed_any v (Operand.Poison ∷ xs) l = listed_any v xs l

any_one : (a : Bool) → (a || false) ≡ true → a ≡ true
any_one true e = refl
any_one false e = e

any_two : (a b : Bool) → (a || (b || false)) ≡ true → (a || b) ≡ true
any_two true b e = refl
any_two false b e = any_one b e

any_three : (a b c : Bool) → (a || (b || (c || false))) ≡ true → (a || (b || c)) ≡ true
any_three true b c e = refl
any_three false b c e = any_two b c e

any_args : (v : ℕ) (args : List Arg) → list_any (is_local v) (arg_operands args) ≡ true → is_in_args v args ≡ true
any_args v [] e = e
any_args v (a ∷ args) e = ⊎_elim
    (λ here. or_left (is_local v a.value) _ here)
    (λ more. or_right (is_local v a.value) _ (any_args v args more))
    (either (is_local v a.value) _ e)

abbrev is_any : Demand → Bool
is_any Demand.Any = true
is_any _ = false

-- a demand that a local meets is none
any_demand : (v : ℕ) (d : Demand) → meets d (Operand.Local v) ≡ true → d ≡ Demand.Any
any_demand v Demand.Any e = refl
any_demand v Demand.Number e = absurd (cc)
any_demand v Demand.Flag e = absurd (cc)
any_demand v Demand.Align e = absurd (cc)
any_demand v Demand.AlignOrZero e = absurd (cc)
any_demand v Demand.False e = absurd (cc)
any_demand v Demand.Null e = absurd (cc)
any_demand v Demand.None e = absurd (cc)

no_constant : (v : ℕ) (x : Operand) → is_constant x ≡ true → is_local v x ≡ true → ⊥
no_constant v x e h =
    let bad : is_constant (Operand.Local v) ≡ true = ap is_constant (sym (operand_is v x h)) ∙ e in absurd (cc)

-- ---- a value that is no token

module _ (m : Module) (f : Function) (types : KeepsTypes m f) (v : ℕ)
    (scalar : fits_kind (value_kind f v) token ≡ true → ⊥) where
  -- where an intrinsic is given it, and by what demand
  record IsUsedAt (ws : List Wanted) (args : List Arg) : Type 0 where
    at : ℕ
    wanted : Wanted
    there : slice_get ws at ≡ Some wanted
    value : wanted.value ≡ Demand.Any
    ty : wanted.ty ≡ Basic.Token → ⊥
    own : operand_at args at ≡ Operand.Local v

  used_at : (callee : Callee) (ws : List Wanted) (args : List Arg) → are_wanted ws args ≡ true
      → list_all (passes (value_kind f) callee) args ≡ true → is_in_args v args ≡ true → IsUsedAt ws args
  used_at callee [] [] w p e = absurd (cc)
  used_at callee [] (a ∷ args) w p e = absurd (cc)
  used_at callee (w ∷ ws) [] k p e = absurd (cc)
  used_at callee (w ∷ ws) (a ∷ args) k p e = ⊎_elim
      (λ here.
      let own = and_first (is_basic w.ty a.ty && meets w.value a.value) (are_wanted ws args) k in
      let same = operand_is v a.value here in
      record {
        at = 0;
        wanted = w;
        there = refl;
        value = any_demand v w.value (ap (meets w.value) (sym same)
            ∙ and_second (is_basic w.ty a.ty) (meets w.value a.value) own);
        ty = λ t. token_used t (and_first (is_basic w.ty a.ty) (meets w.value a.value) own) same
            (and_second (is_passed callee a.ty) (fits_arg (value_kind f) a)
            (and_first (passes (value_kind f) callee a) (list_all (passes (value_kind f) callee) args) p));
        own = same;
      })
      (λ more.
      let rest = used_at callee ws args
      (and_second (is_basic w.ty a.ty && meets w.value a.value) (are_wanted ws args) k)
      (and_second (passes (value_kind f) callee a) (list_all (passes (value_kind f) callee) args) p) more in
      record {
        at = suc rest.at;
        wanted = rest.wanted;
        there = rest.there;
        value = rest.value;
        ty = rest.ty;
        own = rest.own;
      })
      (either (is_local v a.value) (is_in_args v args) e)
    where
      token_used : w.ty ≡ Basic.Token → is_basic w.ty a.ty ≡ true → a.value ≡ Operand.Local v
          → fits_arg (value_kind f) a ≡ true → ⊥
      token_used t b same fit =
          let is : a.ty ≡ token = token_is a.ty (ap (λ (x : Basic). is_basic x a.ty) (sym t) ∙ b) in
          scalar (subst (λ (q : Ty × Operand). fits (value_kind f) q.0 q.1 ≡ true) (λ j. (is j, same j)) fit)

  -- ---- intrinsics

  -- where it is taken without being read (K2 and K10)
  pub record IsUntaken (block at : ℕ) : Type 0 where
    pub ids : (result : Option ℕ) (must_tail : Bool) (ty : Option Ty) (args : List Arg)
        → fetch f block at ≡ AtInstr (Instr.Call result must_tail ty (Callee.Intrinsic Intrinsic.CoroId) args)
        → operand_at args 1 ≡ Operand.Local v → ⊥
    pub frees : (result : Option ℕ) (must_tail : Bool) (ty : Option Ty) (args : List Arg)
        → fetch f block at ≡ AtInstr (Instr.Call result must_tail ty (Callee.Intrinsic Intrinsic.CoroFree) args)
        → operand_at args 1 ≡ Operand.Local v → ⊥
    pub saves : (result : Option ℕ) (must_tail : Bool) (ty : Option Ty) (args : List Arg)
        → fetch f block at ≡ AtInstr (Instr.Call result must_tail ty (Callee.Intrinsic Intrinsic.CoroSave) args)
        → operand_at args 0 ≡ Operand.Local v → ⊥
    pub ends : (i : Instr) → fetch f block at ≡ AtInstr i → is_call_of Intrinsic.CoroEnd i ≡ true → ⊥

  local_itself : (x : Operand) → x ≡ Operand.Local v → is_local v x ≡ true
  local_itself x e = ap (is_local v) e ∙ itself v

  no_more : (ws : List Wanted) (args : List Arg) (x : IsUsedAt ws args) → ws ≡ [] → ⊥
  no_more [] args x e = let there : None ≡ Some x.wanted = x.there in absurd (cc)
  no_more (w ∷ ws) args x e = absurd (cc)

  module _ (block at : ℕ) (untaken : IsUntaken block at) (result : Option ℕ) (must_tail : Bool) (ty : Option Ty)
      (args : List Arg) where
    abbrev Stands : Intrinsic → Type 0
    Stands x = fetch f block at ≡ AtInstr (Instr.Call result must_tail ty (Callee.Intrinsic x) args)

    wants : (x : Intrinsic) → Stands x → are_wanted (intrinsic_params x) args ≡ true
    wants x e = and_second (is_result (intrinsic_result x) ty) (are_wanted (intrinsic_params x) args)
        (types.calls block at result must_tail ty (Callee.Intrinsic x) args e)

    fit : (x : Intrinsic) → Stands x → list_all (passes (value_kind f) (Callee.Intrinsic x)) args ≡ true
    fit x e = and_second (fits_called (value_kind f) (Callee.Intrinsic x) args)
        (list_all (passes (value_kind f) (Callee.Intrinsic x)) args)
        (and_second (fits_result (Callee.Intrinsic x) ty result) _
        (types.instrs block at (Instr.Call result must_tail ty (Callee.Intrinsic x) args) e))

    taken : (x : Intrinsic) → Stands x → is_in_args v args ≡ true → IsUsedAt (intrinsic_params x) args
    taken x e used = used_at (Callee.Intrinsic x) (intrinsic_params x) args (wants x e) (fit x e) used

    -- by its place among the operands
    abbrev Placed : Intrinsic → ℕ → Type 0
    Placed x n = (w : Wanted) → slice_get (intrinsic_params x) n ≡ Some w → w.value ≡ Demand.Any
        → (w.ty ≡ Basic.Token → ⊥) → operand_at args n ≡ Operand.Local v → reads_intrinsic v x args ≡ true

    placed : (x : Intrinsic) → Stands x → is_in_args v args ≡ true → ((n : ℕ) → Placed x n)
        → reads_intrinsic v x args ≡ true
    placed x e used by =
        let z = taken x e used in
        by z.at z.wanted z.there z.value z.ty z.own

    same_wanted : (u w : Wanted) → Some u ≡ Some w → u ≡ w
    same_wanted u w e = cc

    literal : (u w : Wanted) → Some u ≡ Some w → is_any u.value ≡ false → w.value ≡ Demand.Any → ⊥
    literal u w e other h =
        false≢true (sym other ∙ ap (λ (y : Wanted). is_any y.value) (same_wanted u w e) ∙ ap is_any h)

    is_token : (w : Wanted) → Some (any Basic.Token) ≡ Some w → (w.ty ≡ Basic.Token → ⊥) → ⊥
    is_token w e none = none (sym (ap (λ (y : Wanted). y.ty) (same_wanted (any Basic.Token) w e)))

    nowhere : (w : Wanted) → ◌≡◌ {A = Option Wanted} None (Some w) → ⊥
    nowhere w e = absurd (cc)

    intrinsic_reads : (x : Intrinsic) → Stands x → is_in_args v args ≡ true → reads_intrinsic v x args ≡ true
    intrinsic_reads Intrinsic.CoroId e used = placed Intrinsic.CoroId e used by
      where
        by : (n : ℕ) → Placed Intrinsic.CoroId n
        by zero w d h t own = absurd (literal _ w d refl h)
        by (suc zero) w d h t own = absurd (untaken.ids result must_tail ty args e own)
        by (suc (suc zero)) w d h t own = absurd (literal _ w d refl h)
        by (suc (suc (suc zero))) w d h t own = absurd (literal _ w d refl h)
        by (suc (suc (suc (suc n)))) w d h t own = absurd (nowhere w d)
    intrinsic_reads Intrinsic.CoroSizeI32 e used = absurd (no_more [] args (taken Intrinsic.CoroSizeI32 e used) refl)
    intrinsic_reads Intrinsic.CoroSizeI64 e used = absurd (no_more [] args (taken Intrinsic.CoroSizeI64 e used) refl)
    intrinsic_reads Intrinsic.CoroAlignI32 e used = absurd (no_more [] args (taken Intrinsic.CoroAlignI32 e used) refl)
    intrinsic_reads Intrinsic.CoroAlignI64 e used = absurd (no_more [] args (taken Intrinsic.CoroAlignI64 e used) refl)
    intrinsic_reads Intrinsic.CoroAlloc e used = placed Intrinsic.CoroAlloc e used by
      where
        by : (n : ℕ) → Placed Intrinsic.CoroAlloc n
        by zero w d h t own = absurd (is_token w d t)
        by (suc n) w d h t own = absurd (nowhere w d)
    intrinsic_reads Intrinsic.CoroBegin e used = placed Intrinsic.CoroBegin e used by
      where
        by : (n : ℕ) → Placed Intrinsic.CoroBegin n
        by zero w d h t own = absurd (is_token w d t)
        by (suc zero) w d h t own = local_itself (operand_at args 1) own
        by (suc (suc n)) w d h t own = absurd (nowhere w d)
    intrinsic_reads Intrinsic.CoroFree e used = placed Intrinsic.CoroFree e used by
      where
        by : (n : ℕ) → Placed Intrinsic.CoroFree n
        by zero w d h t own = absurd (is_token w d t)
        by (suc zero) w d h t own = absurd (untaken.frees result must_tail ty args e own)
        by (suc (suc n)) w d h t own = absurd (nowhere w d)
    intrinsic_reads Intrinsic.CoroFrame e used = absurd (no_more [] args (taken Intrinsic.CoroFrame e used) refl)
    intrinsic_reads Intrinsic.CoroSave e used = placed Intrinsic.CoroSave e used by
      where
        by : (n : ℕ) → Placed Intrinsic.CoroSave n
        by zero w d h t own = absurd (untaken.saves result must_tail ty args e own)
        by (suc n) w d h t own = absurd (nowhere w d)
    intrinsic_reads Intrinsic.CoroSuspend e used = placed Intrinsic.CoroSuspend e used by
      where
        by : (n : ℕ) → Placed Intrinsic.CoroSuspend n
        by zero w d h t own = absurd (is_token w d t)
        by (suc zero) w d h t own = absurd (literal _ w d refl h)
        by (suc (suc n)) w d h t own = absurd (nowhere w d)
    intrinsic_reads Intrinsic.CoroEnd e used =
        absurd (untaken.ends (Instr.Call result must_tail ty (Callee.Intrinsic Intrinsic.CoroEnd) args) e refl)
    intrinsic_reads Intrinsic.CoroResume e used = placed Intrinsic.CoroResume e used by
      where
        by : (n : ℕ) → Placed Intrinsic.CoroResume n
        by zero w d h t own = local_itself (operand_at args 0) own
        by (suc n) w d h t own = absurd (nowhere w d)
    intrinsic_reads Intrinsic.CoroDestroy e used = placed Intrinsic.CoroDestroy e used by
      where
        by : (n : ℕ) → Placed Intrinsic.CoroDestroy n
        by zero w d h t own = local_itself (operand_at args 0) own
        by (suc n) w d h t own = absurd (nowhere w d)
    intrinsic_reads Intrinsic.CoroDone e used = placed Intrinsic.CoroDone e used by
      where
        by : (n : ℕ) → Placed Intrinsic.CoroDone n
        by zero w d h t own = local_itself (operand_at args 0) own
        by (suc n) w d h t own = absurd (nowhere w d)
    intrinsic_reads Intrinsic.CoroPromise e used = placed Intrinsic.CoroPromise e used by
      where
        by : (n : ℕ) → Placed Intrinsic.CoroPromise n
        by zero w d h t own = local_itself (operand_at args 0) own
        by (suc zero) w d h t own = absurd (literal _ w d refl h)
        by (suc (suc zero)) w d h t own = absurd (literal _ w d refl h)
        by (suc (suc (suc n))) w d h t own = absurd (nowhere w d)
    intrinsic_reads Intrinsic.LifetimeStart e used = used
    intrinsic_reads Intrinsic.LifetimeEnd e used = used
    intrinsic_reads Intrinsic.MemcpyI64 e used = used
    intrinsic_reads Intrinsic.MemcpyI32 e used = used

  -- ---- instructions

  module _ (block at : ℕ) (untaken : IsUntaken block at) where
    called_reads : (result : Option ℕ) (must_tail : Bool) (ty : Option Ty) (callee : Callee) (args : List Arg)
        → fetch f block at ≡ AtInstr (Instr.Call result must_tail ty callee args)
        → list_any (is_local v) (instr_operands (Instr.Call result must_tail ty callee args)) ≡ true
        → reads v (Instr.Call result must_tail ty callee args) ≡ true
    called_reads result must_tail ty (Callee.Named n) args e h = any_args v args h
    called_reads result must_tail ty (Callee.Allocator x) args e h = any_args v args h
    called_reads result must_tail ty (Callee.Intrinsic x) args e h =
        intrinsic_reads block at untaken result must_tail ty args x e (any_args v args h)
    called_reads result must_tail ty (Callee.Local n) args e h = ⊎_elim
        (λ here. or_left (v == n) _ here)
        (λ more. or_right (v == n) _ (any_args v args more))
        (either (v == n) _ h)

    instr_reads : (i : Instr) → fetch f block at ≡ AtInstr i → list_any (is_local v) (instr_operands i) ≡ true
        → reads v i ≡ true
    instr_reads (Instr.Binary name op flags ty a b) e h = any_two (is_local v a) (is_local v b) h
    instr_reads (Instr.Icmp name pred ty a b) e h = any_two (is_local v a) (is_local v b) h
    instr_reads (Instr.Select name x a b) e h = any_three (is_local v x) (is_local v a.value) (is_local v b.value) h
    instr_reads (Instr.Cast name op nneg arg to) e h = any_one (is_local v arg.value) h
    instr_reads (Instr.Alloca name ty align) e h = absurd (cc)
    instr_reads (Instr.Load name ty p align) e h = any_one (is_local v p) h
    instr_reads (Instr.Store arg p align) e h = any_two (is_local v arg.value) (is_local v p) h
    instr_reads (Instr.Gep name inbounds ty base indices) e h = ⊎_elim
        (λ here. or_left (is_local v base) _ here)
        (λ more. or_right (is_local v base) _ (any_args v indices more))
        (either (is_local v base) _ h)
    instr_reads (Instr.Call result must_tail ty callee args) e h = called_reads result must_tail ty callee args e h

    no_case : (t : Ty) (cases : List Case) → list_all (fits_case (value_kind f) t) cases ≡ true
        → list_any (is_local v) (map (λ (k : Case). k.arg.value) cases) ≡ true → ⊥
    no_case t [] k h = absurd (cc)
    no_case t (c ∷ cases) k h = ⊎_elim
        (λ here. no_constant v c.arg.value (and_first (is_constant c.arg.value) _
        (and_second (same_type c.arg.ty t) _
        (and_first (fits_case (value_kind f) t c) (list_all (fits_case (value_kind f) t) cases) k))) here)
        (λ more. no_case t cases
        (and_second (fits_case (value_kind f) t c) (list_all (fits_case (value_kind f) t) cases) k) more)
        (either (is_local v c.arg.value) _ h)

    term_reads : (t : Terminator) → fetch f block at ≡ AtTerm t → list_any (is_local v) (ending_operands t) ≡ true
        → occurs_in_term v t ≡ true
    term_reads (Terminator.Jump label) e h = absurd (cc)
    term_reads (Terminator.Branch c a b) e h = any_one (is_local v c) h
    term_reads (Terminator.Switch arg default cases) e h =
        let fitting = types.ends block at (Terminator.Switch arg default cases) e in
        ⊎_elim (λ here. here)
        (λ more. absurd (no_case arg.ty cases (and_first (list_all (fits_case (value_kind f) arg.ty) cases) _
        (and_second (fits_integer (value_kind f) arg) _ fitting)) more))
        (either (is_local v arg.value) _ h)
    term_reads (Terminator.Ret None) e h = absurd (cc)
    term_reads (Terminator.Ret (Some arg)) e h = any_one (is_local v arg.value) h
    term_reads Terminator.Unreachable e h = absurd (cc)

    -- what stands at the point reads what it uses
    pub use_reads : IsListed v (used_by (fetch f block at)) → reads_at v (fetch f block at) ≡ true
    use_reads = on (fetch f block at) refl
      where
        on : (x : Fetched) → fetch f block at ≡ x → IsListed v (used_by x) → reads_at v x ≡ true
        on Nowhere e l = absurd l
        on (AtInstr i) e l = instr_reads i e (listed_any v (instr_operands i) l)
        on (AtTerm t) e l = term_reads t e (listed_any v (ending_operands t) l)

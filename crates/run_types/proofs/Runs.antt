-- In each state of a run all values fit.
use Rattle.std.proofs.Common.{◌≡◌, ◌<◌, ◌≤◌, ℕ, zero, suc, ◌^◌, Bool, true, false, List, [], ◌∷◌, map, ◌&&◌, ◌||◌, ◌==◌}
use Rattle.std.proofs.Common.{Option, refl, sym, ap, ◌∙◌, subst, arith}
use Rattle.std.proofs.Math.Pow.{pow_mono}
use Rattle.std.proofs.lemmas.Bool.{eqb-true}
use Rattle.std.specs.List.{list_all}
use Rattle.run_hooks.specs.ir_base.declared.outcome.Word.{Word}
use Rattle.run_hooks.specs.ir_model.Names.{function_at}
use Rattle.run_hooks.specs.ir_model.Ty.{Ty, array, int, named, ptr, structure, token}
use Rattle.run_hooks.specs.ir_model.declared.instr.Instr.{Instr}
use Rattle.run_hooks.specs.ir_model.declared.module.Function.{Function}
use Rattle.run_hooks.specs.ir_model.declared.module.GlobalItem.{GlobalItem}
use Rattle.run_hooks.specs.ir_model.declared.module.Module.{Module}
use Rattle.run_hooks.specs.ir_model.declared.operand.Allocator.{Allocator}
use Rattle.run_hooks.specs.ir_model.declared.operand.Arg.{Arg}
use Rattle.run_hooks.specs.ir_model.declared.operand.Callee.{Callee}
use Rattle.rule_types.specs.Signatures.{are_wanted, fits_named, is_result}
use Rattle.rule_names.specs.Known.{allocator_name}
use Rattle.rule_types.specs.Wants.{allocator_params, allocator_result, any, is_basic}
use Rattle.rule_types.specs.declared.wants.Basic.{Basic}
use Rattle.rule_values.specs.Fits.{fits_arg}
use Rattle.rule_values.specs.Instrs.{is_passed, passes}
use Rattle.rule_values.specs.Kinds.{value_kind}
use Rattle.run_hooks.proofs.Reaching.{first_reached, step_stays}
use Rattle.run_hooks.specs.Hooks.{Hooks, hooked_state_at, step_of}
use Rattle.run_hooks.specs.Reached.{AllHaveSwitches, IsReachedState, KeepsReached}
use Rattle.run_hooks.specs.run_memory.Memory.{access_bytes}
use Rattle.run_hooks.specs.run_memory.declared.pointer.Value.{Value}
use Rattle.run_hooks.specs.run_source.Source.{first_state}
use Rattle.run_hooks.specs.run_source.declared.state.State.{State}
use Rattle.run_hooks.specs.run_step.Runs.{iterate}
use Rattle.run_hooks.specs.run_step.Step.{AtInstr, fetch, global_block}
use Rattle.run_hooks.specs.run_step.Values.{Env, access_of, arg_value, arg_values, nth, operand_value, stored}
use Rattle.run_types.proofs.Acts.{step_fits}
use Rattle.run_types.proofs.Bytes.{encoded}
use Rattle.run_types.proofs.Fit.{arg_fits, both_true, entry_fits}
use Rattle.run_types.proofs.Rules.{arguments_pass}
use Rattle.run_types.specs.Fitting.{AreFitting, FitsType, HaveBytes, IsInteger}
use Rattle.run_types.specs.Rules.{KeepsAllTypes, KeepsTypes}
use Rattle.run_types.specs.States.{AreArguments, IsFittingState, IsMalloc, IsNew, KeepsFitting, TakesSize}

-- ---- the start

globals_have : (m : Module) (gs : List GlobalItem) → HaveBytes (map (global_block m) gs)
globals_have m [] = tt
globals_have m (g ∷ gs) = (
  encoded (access_bytes (access_of g.ty)) (stored (access_of g.ty) (operand_value m [] g.ty g.init)),
  globals_have m gs,
)

pub first_fits : (m : Module) → KeepsAllTypes m → (entry : ℕ) (args : List Word) → AreArguments m entry args
    → IsFittingState m (first_state m entry args)
first_fits m rules entry args h = record {
  memory = globals_have m m.globals;
  top = entry_fits m (function_at m entry) (rules entry) (map Value.Int args) h;
  below = tt;
  instances = tt;
}

-- ---- runs

steps_fit : (h : Hooks) → AllHaveSwitches h.given.code → KeepsReached h → KeepsAllTypes h.given.code → KeepsFitting h
    → (n : ℕ) (s : State) → IsReachedState h.given s → IsFittingState h.given.code s
    → IsFittingState h.given.code (iterate (step_of h) n s)
steps_fit h ok reaches rules keeps zero s reached k = k
steps_fit h ok reaches rules keeps (suc n) s reached k =
    steps_fit h ok reaches rules keeps n (step_of h s) (step_stays h ok reaches s reached)
    (step_fits h rules keeps s k reached)

pub states_fit : (h : Hooks) → AllHaveSwitches h.given.code → KeepsReached h → KeepsAllTypes h.given.code
    → KeepsFitting h → (entry : ℕ) (args : List Word) (n : ℕ) → AreArguments h.given.code entry args
    → IsFittingState h.given.code (hooked_state_at h entry args n)
states_fit h ok reaches rules keeps entry args n given =
    steps_fit h ok reaches rules keeps n (first_state h.given.code entry args) (first_reached h.given entry args)
    (first_fits h.given.code rules entry args given)

-- ---- sizes

below_all : (w : ℕ) → w ≤ 64 → (v : Value) → IsInteger w v → (x : Word) → v ≡ Value.Int x → x.bits < 2 ^ 64
below_all w small (Value.Int y) h x e =
    let is : y ≡ x = cc in
    let lt : y.bits < 2 ^ w = h.below in
    let more = pow_mono small in
    subst (λ (z : Word). z.bits < 2 ^ 64) is (omega (arith, lt, more))
below_all w small Value.Poison h x e = absurd (cc)
below_all w small (Value.Ptr p) h x e = absurd h

-- a size is of 32 or 64 bits
size_small : (ty : Ty) → is_basic Basic.Size ty ≡ true → (v : Value) → FitsType ty v → (x : Word) → v ≡ Value.Int x
    → x.bits < 2 ^ 64
size_small (int w) e v h x ev = on (w == 32) refl
  where
    on : (t : Bool) → (w == 32) ≡ t → x.bits < 2 ^ 64
    on true et = below_all w (let is : w ≡ 32 = eqb-true w 32 et in omega (arith, is)) v h x ev
    on false et =
        let last : (w == 64) ≡ true = ap (λ (t : Bool). t || (w == 64)) (sym et) ∙ e in
        below_all w (let is : w ≡ 64 = eqb-true w 64 last in omega (arith, is)) v h x ev
size_small ptr e v h x ev = absurd (cc)
size_small token e v h x ev = absurd (cc)
size_small (array n t) e v h x ev = absurd (cc)
size_small (structure ts) e v h x ev = absurd (cc)
size_small (named n) e v h x ev = absurd (cc)

wide_size : (ty : Ty) → is_basic Basic.I64 ty ≡ true → is_basic Basic.Size ty ≡ true
wide_size (int w) e = on (w == 32) e
  where
    on : (t : Bool) → (w == 64) ≡ true → (t || (w == 64)) ≡ true
    on true e = refl
    on false e = e
wide_size ptr e = absurd (cc)
wide_size token e = absurd (cc)
wide_size (array n t) e = absurd (cc)
wide_size (structure ts) e = absurd (cc)
wide_size (named n) e = absurd (cc)

pub sizes_small : (m : Module) (f : Function) (env : Env) → KeepsTypes m f → AreFitting f env → (block at : ℕ)
    (result : Option ℕ) (must_tail : Bool) (ty : Option Ty) (a : Allocator) (args : List Arg)
    → fetch f block at ≡ AtInstr (Instr.Call result must_tail ty (Callee.Allocator a) args) → TakesSize a → (x : Word)
    → nth (arg_values m env args) 0 ≡ Value.Int x → x.bits < 2 ^ 64
sizes_small m f env rules h block at result must_tail ty a args stands takes x e =
    on args (wanted a takes table.0) (arguments_pass m f rules block at result must_tail ty (Callee.Allocator a) args
    stands) e
  where
    table : ((is_result (allocator_result a) ty && are_wanted (allocator_params a) args) ≡ true)
        × (fits_named m ty (map (λ (y : Arg). y.ty) args) (allocator_name a) ≡ true)
    table = both_true (is_result (allocator_result a) ty && are_wanted (allocator_params a) args) _
        (rules.calls block at result must_tail ty (Callee.Allocator a) args stands)

    IsSized : List Arg → Type 0
    IsSized [] = Unit {0}
    IsSized (b ∷ rest) = is_basic Basic.Size b.ty ≡ true

    first_of : (w : Basic) (rest : List Arg)
        → are_wanted (any w ∷ []) rest ≡ true
        → ((t : Ty) → is_basic w t ≡ true → is_basic Basic.Size t ≡ true) → IsSized rest
    first_of w [] k as_size = tt
    first_of w (b ∷ rest) k as_size =
        let r = both_true (is_basic w b.ty && true) (are_wanted [] rest) k in
        as_size b.ty (both_true (is_basic w b.ty) true r.0).0

    wanted : (a : Allocator) → TakesSize a
        → (is_result (allocator_result a) ty && are_wanted (allocator_params a) args) ≡ true → IsSized args
    wanted _ IsMalloc k = first_of Basic.Size args
        (both_true (is_result (allocator_result Allocator.Malloc) ty) (are_wanted (allocator_params Allocator.Malloc)
        args) k).1
        (λ t j. j)
    wanted _ IsNew k = first_of Basic.I64 args
        (both_true (is_result (allocator_result Allocator.Znwm) ty) (are_wanted (allocator_params Allocator.Znwm) args)
        k).1
        (λ t j. wide_size t j)

    on : (args : List Arg) → IsSized args → list_all (passes (value_kind f) (Callee.Allocator a)) args ≡ true
        → nth (arg_values m env args) 0 ≡ Value.Int x → x.bits < 2 ^ 64
    on [] size k j = absurd (cc)
    on (b ∷ rest) size k j =
        let r = both_true (is_passed (Callee.Allocator a) b.ty && fits_arg (value_kind f) b)
        (list_all (passes (value_kind f) (Callee.Allocator a)) rest) k in
        let q = both_true (is_passed (Callee.Allocator a) b.ty) (fits_arg (value_kind f) b) r.0 in
        size_small b.ty size (arg_value m env b) (arg_fits m f env b h q.1) x j

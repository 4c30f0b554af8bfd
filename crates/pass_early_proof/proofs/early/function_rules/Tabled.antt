-- What functions define are positions of their tables of names, also after the first pass.
use Rattle.std.proofs.Common.{Bool, None, Option, Some, ap, arith, false, if◌then◌else◌, length, length-append, refl, subst, sym, true, unwrap_or, ℕ, ⊎_elim, ◌++◌, ◌+◌, ◌-◌, ◌<◌, ◌∙◌, ◌≡◌, ◌≤◌}
use Rattle.std.specs.Prelude.{slice_get}
use Rattle.pass_early_proof.proofs.early.local_rules.Names.{name_apart, numbers_woven}
use Rattle.rule_laws.proofs.rules.local_rules.Names.{numbers}
use Rattle.rule_laws.proofs.rules.local_rules.Woven.{listed_woven}
use Rattle.pass_early.specs.BeginName.{with_begin_name}
use Rattle.pass_early.specs.Early.{after_blocks, early_function, early_named, renaming_of, save_names}
use Rattle.rule_laws.proofs.rules.source_rules.Order.{unbroken}
use Rattle.rule_laws.specs.rules.source_rules.Named.{AreTabled, HasTabledLocals}
use Rattle.rule_laws.specs.flow_solver.Paths.{IsListed}
use Rattle.rule_laws.specs.rules.function_rules.Tabled.{AreAllTabled}
use Rattle.rule_laws.specs.rule_all.Refused.{IsRefused}
use Rattle.ir_model.specs.Names.{function_at, no_function}
use Rattle.ir_model.specs.declared.module.Function.{Function}
use Rattle.ir_model.specs.declared.module.Module.{Module}
use Rattle.rule_laws.specs.rule_names.declared.stage.Stage.{Stage}
use Rattle.pass_early_proof.proofs.early.save_states.Calls.{names_length}
use Rattle.rule_laws.proofs.rules.function_rules.Tabled.{tabled_by}

-- ---- modules

pub coroutines_tabled : (m : Module) → AreAllTabled m → AreTabled m
coroutines_tabled m all func coroutine = on (slice_get m.functions func) refl
  where
    on : (o : Option Function) → slice_get m.functions func ≡ o → HasTabledLocals func (function_at m func)
    on None e = let t : false ≡ true = sym (ap (λ (o : Option Function). (unwrap_or o no_function).coroutine) e) ∙ coroutine in absurd (cc)
    on (Some f) e = subst (HasTabledLocals func) (sym (ap (λ (o : Option Function). unwrap_or o no_function) e)) (all func f e)

-- ---- the first pass

saves_below : (f : Function) → ((n : ℕ) → IsListed n (numbers f) → n < length f.names) → (n : ℕ) → IsListed n (numbers (early_named f)) → n < length (early_named f).names
saves_below f below n listed =
    let k : ℕ = length f.names in
    let l : ℕ = after_blocks (renaming_of f) (length f.names) f.blocks in
    let len : length (f.names ++ save_names (l - k)) ≡ k + length (save_names (l - k)) = length-append f.names (save_names (l - k)) in
    let saves : length (save_names (l - k)) ≡ l - k = names_length (l - k) in
    let lt : n < length (f.names ++ save_names (l - k)) =
    ⊎_elim
    (λ (old : IsListed n (numbers f)). let first : n < k = below n old in omega (arith, first, len, saves))
    (λ (new : (k ≤ n) × (n < l)). let low : k ≤ n = new.0 in let high : n < l = new.1 in omega (arith, low, high, len, saves))
    (listed_woven k l (numbers f) (numbers (early_named f)) (numbers_woven (renaming_of f) f) n listed) in
    lt

pub early_tabled : (m : Module) → IsRefused Stage.Source m None → AreAllTabled m → (k : ℕ) (f : Function) → slice_get m.functions k ≡ Some f → HasTabledLocals k (early_function f)
early_tabled m accepted all k f there = on f.coroutine refl
  where
    on : (b : Bool) → f.coroutine ≡ b → HasTabledLocals k (if b then early_named (with_begin_name f) else f)
    on true d = tabled_by k (early_named (with_begin_name f)) (saves_below (with_begin_name f) (name_apart m k f d (unbroken m k f accepted there) (all k f there)).below)
    on false d = all k f there

-- Values that are handed on at a resume fit.
use Rattle.std.proofs.Common.{ℕ, zero, suc, Bool, true, false, [], ◌∷◌, Option, Some, None}
use Rattle.std.specs.Prelude.{if◌then◌else◌}
use Rattle.run_hooks.specs.ir_model.declared.module.Function.{Function}
use Rattle.run_hooks.specs.pass_kept_proof.Kept.{kept}
use Rattle.run_hooks.specs.pass_renewed_proof.Renewed.{in_new_slot, renewed_value, renewed_values}
use Rattle.rule_values.specs.Kinds.{value_kind}
use Rattle.rule_values.specs.declared.kinds.Kind.{Kind}
use Rattle.run_hooks.specs.run_memory.declared.pointer.Pointer.{Pointer}
use Rattle.run_hooks.specs.run_memory.declared.pointer.Value.{Value}
use Rattle.run_hooks.specs.run_step.Values.{Env, value_in}
use Rattle.run_types.proofs.Fit.{poison_fits}
use Rattle.run_types.specs.Fitting.{AreFitting, FitsKind}

-- ---- values that are handed on

pub kept_fits : (f : Function) (keep : ℕ → Bool) (env : Env) → AreFitting f env → AreFitting f (kept keep env)
kept_fits f keep env h v = on keep env v (h v)
  where
    one : (k : Option Kind) (t : Bool) (o : Option Value) (rest more : Env)
        → FitsKind k (value_in (o ∷ rest) 0) → FitsKind k (value_in ((if t then o else None) ∷ more) 0)
    one k true o rest more j = j
    one k false o rest more j = poison_fits k

    on : (keep : ℕ → Bool) (env : Env) (n : ℕ) → FitsKind (value_kind f v) (value_in env n)
        → FitsKind (value_kind f v) (value_in (kept keep env) n)
    on keep [] n j = j
    on keep (o ∷ env) zero j = one (value_kind f v) (keep 0) o env (kept (λ i. keep (suc i)) env) j
    on keep (o ∷ env) (suc n) j = on (λ i. keep (suc i)) env n j

-- an address may go to another block
moved_fits : (k : Option Kind) (a v : Value) → FitsKind k v → FitsKind k (in_new_slot a v)
moved_fits None a v h = tt
moved_fits (Some Kind.Ptr) a v h = tt
moved_fits (Some Kind.Token) a v h = tt
moved_fits (Some Kind.Saved) a v h = tt
moved_fits (Some Kind.Other) a v h = tt
moved_fits (Some (Kind.Int w)) a (Value.Ptr p) h = absurd h
moved_fits (Some (Kind.Int w)) (Value.Ptr (Pointer.At b o)) (Value.Int x) h = h
moved_fits (Some (Kind.Int w)) (Value.Ptr Pointer.Null) (Value.Int x) h = h
moved_fits (Some (Kind.Int w)) (Value.Ptr (Pointer.Func g)) (Value.Int x) h = h
moved_fits (Some (Kind.Int w)) (Value.Int y) (Value.Int x) h = h
moved_fits (Some (Kind.Int w)) Value.Poison (Value.Int x) h = h
moved_fits (Some (Kind.Int w)) (Value.Ptr (Pointer.At b o)) Value.Poison h = tt
moved_fits (Some (Kind.Int w)) (Value.Ptr Pointer.Null) Value.Poison h = tt
moved_fits (Some (Kind.Int w)) (Value.Ptr (Pointer.Func g)) Value.Poison h = tt
moved_fits (Some (Kind.Int w)) (Value.Int y) Value.Poison h = tt
moved_fits (Some (Kind.Int w)) Value.Poison Value.Poison h = tt

pub renewed_fits : (f : Function) (roots : ℕ → Option ℕ) (now env : Env) → AreFitting f env
    → AreFitting f (renewed_values roots now env)
renewed_fits f roots now env h v = on roots env v (h v)
  where
    one : (root : Option ℕ) (o : Option Value) (rest more : Env) → FitsKind (value_kind f v) (value_in (o ∷ rest) 0)
        → FitsKind (value_kind f v) (value_in (renewed_value now root o ∷ more) 0)
    one None None rest more j = j
    one None (Some x) rest more j = j
    one (Some a) None rest more j = j
    one (Some a) (Some x) rest more j = moved_fits (value_kind f v) (value_in now a) x j

    on : (roots : ℕ → Option ℕ) (env : Env) (n : ℕ) → FitsKind (value_kind f v) (value_in env n)
        → FitsKind (value_kind f v) (value_in (renewed_values roots now env) n)
    on roots [] n j = j
    on roots (o ∷ env) zero j = one (roots 0) o env (renewed_values (λ i. roots (suc i)) now env) j
    on roots (o ∷ env) (suc n) j = on (λ i. roots (suc i)) env n j

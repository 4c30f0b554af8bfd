-- Values with further names at their end, which have no value.
use Rattle.std.proofs.Common.{◌≡◌, ℕ, zero, suc, ◌<◌, List, [], ◌∷◌, ◌++◌, length, refl, sym, ap, ◌∙◌, subst, arith}
use Rattle.std.specs.Prelude.{Some, None, Option, replicate, slice_get}
use Rattle.ir_laws.specs.run_memory.declared.pointer.Value.{Value}
use Rattle.ir_laws.specs.ir_model.declared.module.Param.{Param}
use Rattle.ir_laws.specs.run_step.Step.{with_all, with_params}
use Rattle.ir_laws.specs.run_step.Values.{Env, value_in, value_or_poison, with_result, with_value}
use Rattle.ir_laws.specs.run_laws.changed.Changed.{Each}
use Rattle.ir_laws.specs.facts.expanded.Tokens.{IsNamedResult}

abbrev pub grown : ℕ → Env → Env
grown k env = env ++ replicate k None

none_there : (k n : ℕ) → value_or_poison (slice_get (replicate k None) n) ≡ Value.Poison
none_there zero n = refl
none_there (suc k) zero = refl
none_there (suc k) (suc n) = none_there k n

pub value_grown : (k : ℕ) (env : Env) (n : ℕ) → value_in (grown k env) n ≡ value_in env n
value_grown k [] n = none_there k n
value_grown k (x ∷ env) zero = refl
value_grown k (x ∷ env) (suc n) = value_grown k env n

pub set_grown : (k : ℕ) (env : Env) (n : ℕ) (v : Value) → n < length env → with_value (grown k env) n v ≡ grown k (with_value env n v)
set_grown k [] n v lt = absurd (omega arith)
set_grown k (x ∷ env) zero v lt = refl
set_grown k (x ∷ env) (suc n) v lt = ap (λ (e : Env). x ∷ e) (set_grown k env n v (omega arith))

pub set_length : (env : Env) (n : ℕ) (v : Value) → length (with_value env n v) ≡ length env
set_length [] n v = refl
set_length (x ∷ env) zero v = refl
set_length (x ∷ env) (suc n) v = ap suc (set_length env n v)

pub result_grown : (k : ℕ) (env : Env) (name : Option ℕ) (v : Value) → IsNamedResult (length env) name → with_result (grown k env) name v ≡ grown k (with_result env name v)
result_grown k env None v h = refl
result_grown k env (Some name) v h = set_grown k env name v h

pub all_grown : (k : ℕ) (env : Env) (ps : List (ℕ × Value)) → Each (λ (p : ℕ × Value). p.0 < length env) ps → with_all (grown k env) ps ≡ grown k (with_all env ps)
all_grown k env [] h = refl
all_grown k env (p ∷ ps) h =
    ap (λ (e : Env). with_all e ps) (set_grown k env p.0 p.1 h.0)
    ∙ all_grown k (with_value env p.0 p.1) ps (each_more (length env) (length (with_value env p.0 p.1)) (set_length env p.0 p.1) ps h.1)
  where
    each_more : (m n : ℕ) → n ≡ m → (qs : List (ℕ × Value)) → Each (λ (q : ℕ × Value). q.0 < m) qs → Each (λ (q : ℕ × Value). q.0 < n) qs
    each_more m n e [] j = tt
    each_more m n e (q ∷ qs) j = (subst (λ (x : ℕ). q.0 < x) (sym e) j.0, each_more m n e qs j.1)

pub params_grown : (k : ℕ) (env : Env) (params : List Param) (vs : List Value) → Each (λ (p : Param). p.name < length env) params → with_params (grown k env) params vs ≡ grown k (with_params env params vs)
params_grown k env [] vs h = refl
params_grown k env (p ∷ params) [] h = refl
params_grown k env (p ∷ params) (v ∷ vs) h =
    ap (λ (e : Env). with_params e params vs) (set_grown k env p.name v h.0)
    ∙ params_grown k (with_value env p.name v) params vs (each_more (length env) (length (with_value env p.name v)) (set_length env p.name v) params h.1)
  where
    each_more : (m n : ℕ) → n ≡ m → (qs : List Param) → Each (λ (q : Param). q.name < m) qs → Each (λ (q : Param). q.name < n) qs
    each_more m n e [] j = tt
    each_more m n e (q ∷ qs) j = (subst (λ (x : ℕ). q.name < x) (sym e) j.0, each_more m n e qs j.1)

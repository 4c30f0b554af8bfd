-- Values cut to so many names.
use Rattle.std.proofs.Common.{◌≡◌, ℕ, zero, suc, ◌<◌, ◌≤◌, List, [], ◌∷◌, take, refl, ap, ◌∙◌, arith}
use Rattle.std.specs.Prelude.{Some, None, Option, replicate, Bool, true, false, ◌==◌, if◌then◌else◌}
use Rattle.ir_laws.specs.run_memory.declared.pointer.Value.{Value}
use Rattle.ir_laws.specs.ir_model.Ty.{Ty}
use Rattle.ir_laws.specs.ir_model.declared.instr.Incoming.{Incoming}
use Rattle.ir_laws.specs.ir_model.declared.instr.Phi.{Phi}
use Rattle.ir_laws.specs.ir_model.declared.module.Block.{Block}
use Rattle.ir_laws.specs.ir_model.declared.module.Module.{Module}
use Rattle.ir_laws.specs.ir_model.declared.module.Param.{Param}
use Rattle.ir_laws.specs.ir_model.declared.operand.Arg.{Arg}
use Rattle.ir_laws.specs.ir_model.declared.operand.Operand.{Operand}
use Rattle.ir_laws.specs.run_step.Step.{incoming_from, phi_values, phis_of, values_in, with_all, with_params}
use Rattle.ir_laws.specs.run_step.Values.{Env, arg_values, operand_value, value_in, with_result, with_value}
use Rattle.ir_laws.specs.run_laws.changed.Changed.{Each, values_of, Each as EachOperand}
use Rattle.ir_laws.specs.facts.expanded.Tokens.{IsNamed}

-- ---- values

value_short : (n : ℕ) (env : Env) (k : ℕ) → k < n → value_in (take n env) k ≡ value_in env k
value_short zero env k lt = absurd (omega arith)
value_short (suc n) [] k lt = refl
value_short (suc n) (x ∷ env) zero lt = refl
value_short (suc n) (x ∷ env) (suc k) lt = value_short n env k (omega arith)

set_short : (n : ℕ) (env : Env) (k : ℕ) (v : Value) → with_value (take n env) k v ≡ take n (with_value env k v)
set_short zero env k v = refl
set_short (suc n) [] k v = refl
set_short (suc n) (x ∷ env) zero v = refl
set_short (suc n) (x ∷ env) (suc k) v = ap (λ (e : Env). x ∷ e) (set_short n env k v)

pub result_short : (n : ℕ) (env : Env) (name : Option ℕ) (v : Value) → with_result (take n env) name v ≡ take n (with_result env name v)
result_short n env None v = refl
result_short n env (Some k) v = set_short n env k v

-- a value that is cut off
pub set_behind : (n : ℕ) (env : Env) (k : ℕ) (v : Value) → n ≤ k → take n (with_value env k v) ≡ take n env
set_behind zero env k v le = refl
set_behind (suc n) [] k v le = refl
set_behind (suc n) (x ∷ env) zero v le = absurd (omega arith)
set_behind (suc n) (x ∷ env) (suc k) v le = ap (λ (e : Env). x ∷ e) (set_behind n env k v (omega arith))

pub all_short : (n : ℕ) (env : Env) (ps : List (ℕ × Value)) → with_all (take n env) ps ≡ take n (with_all env ps)
all_short n env [] = refl
all_short n env (p ∷ ps) = ap (λ (e : Env). with_all e ps) (set_short n env p.0 p.1) ∙ all_short n (with_value env p.0 p.1) ps

pub params_short : (n : ℕ) (env : Env) (params : List Param) (vs : List Value) → with_params (take n env) params vs ≡ take n (with_params env params vs)
params_short n env [] vs = refl
params_short n env (p ∷ params) [] = refl
params_short n env (p ∷ params) (v ∷ vs) = ap (λ (e : Env). with_params e params vs) (set_short n env p.name v) ∙ params_short n (with_value env p.name v) params vs

pub blank_short : (n k : ℕ) → n ≤ k → take n (replicate {A = Option Value} k None) ≡ replicate n None
blank_short zero k le = refl
blank_short (suc n) zero le = absurd (omega arith)
blank_short (suc n) (suc k) le = ap (λ (e : Env). None ∷ e) (blank_short n k (omega arith))

-- ---- operands

pub operand_short : (m : Module) (n : ℕ) (env : Env) (ty : Ty) (x : Operand) → IsNamed n x → operand_value m (take n env) ty x ≡ operand_value m env ty x
operand_short m n env ty (Operand.Local k) h = value_short n env k h
operand_short m n env ty (Operand.Global name) h = refl
operand_short m n env ty (Operand.Number z) h = refl
operand_short m n env ty Operand.True h = refl
operand_short m n env ty Operand.False h = refl
operand_short m n env ty Operand.Null h = refl
operand_short m n env ty Operand.None h = refl
operand_short m n env ty Operand.Poison h = refl

pub args_short : (m : Module) (n : ℕ) (env : Env) (args : List Arg) → EachOperand (IsNamed n) (values_of args) → arg_values m (take n env) args ≡ arg_values m env args
args_short m n env [] h = refl
args_short m n env (a ∷ args) h =
    let first = operand_short m n env a.ty a.value h.0 in
    let rest = args_short m n env args h.1 in
    λ i. first i ∷ rest i

incoming_named : (n : ℕ) (xs : List Incoming) (label : ℕ) → Each (λ (i : Incoming). IsNamed n i.value) xs → IsNamed n (incoming_from xs label)
incoming_named n [] label h = tt
incoming_named n (x ∷ xs) label h = on (x.from == label) (incoming_named n xs label h.1)
  where
    on : (b : Bool) → IsNamed n (incoming_from xs label) → IsNamed n (if b then x.value else incoming_from xs label)
    on true rest = h.0
    on false rest = rest

phis_short : (m : Module) (n : ℕ) (env : Env) (label : ℕ) (phis : List Phi) → Each (λ (p : Phi). Each (λ (i : Incoming). IsNamed n i.value) p.incoming) phis → phi_values m (take n env) label phis ≡ phi_values m env label phis
phis_short m n env label [] h = refl
phis_short m n env label (p ∷ phis) h =
    let first = operand_short m n env p.ty (incoming_from p.incoming label) (incoming_named n p.incoming label h.0) in
    let rest = phis_short m n env label phis h.1 in
    λ i. (p.result, first i) ∷ rest i

-- the values behind an edge
pub values_in_short : (m : Module) (n : ℕ) (env : Env) (label : ℕ) (b : Option Block) → Each (λ (p : Phi). Each (λ (i : Incoming). IsNamed n i.value) p.incoming) (phis_of b) → values_in m b label (take n env) ≡ take n (values_in m b label env)
values_in_short m n env label b h = ap (with_all (take n env)) (phis_short m n env label (phis_of b) h) ∙ all_short n env (phi_values m env label (phis_of b))

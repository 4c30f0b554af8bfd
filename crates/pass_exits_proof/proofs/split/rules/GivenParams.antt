-- The parameters of the ramp that is given its frame.
use Rattle.std.proofs.Common.{◌≡◌, inl, ℕ, ◌+◌, List, [], ◌∷◌, ◌++◌, refl, sym, ap, ◌∙◌, subst, arith}
use Rattle.std.proofs.lemmas.List.{map-append}
use Rattle.std.specs.Prelude.{map, ◌==◌}
use Rattle.pass_split.specs.Parts.{given_params}
use Rattle.pass_fetch_proof.specs.rule_uses.Undefined.{params_of}
use Rattle.pass_fetch_proof.specs.flow_solver.Paths.{IsListed}
use Rattle.pass_fetch_proof.specs.pass_intrinsics.Shapes.{given_name}
use Rattle.pass_fetch_proof.specs.pass_intrinsics.declared.shape.Shape.{Shape}
use Rattle.ir_model.specs.Ty.{ptr}
use Rattle.ir_model.specs.declared.module.Function.{Function}
use Rattle.ir_model.specs.declared.module.Param.{Param}
use Rattle.pass_fetch_proof.proofs.ir_laws.facts.Lists.{times_joined}
use Rattle.pass_fetch_proof.proofs.ir_laws.facts.local_rules.Woven.{other_number}
use Rattle.pass_fetch_proof.proofs.ir_laws.paths.source_rules.Locals.{listed_left, listed_right}
use Rattle.pass_fetch_proof.specs.ir_laws.facts.woven_rules.Pairs.{one_if, times}

-- they are the function's, and the address
pub given_params_are : (s : Shape) (f : Function) → map (λ (p : Param). p.name) (given_params s f) ≡ params_of f ++ given_name s ∷ []
given_params_are s f = map-append (λ (p : Param). p.name) f.params (record { ty = ptr; name = given_name s } ∷ [])

pub param_kept : (s : Shape) (f : Function) (v : ℕ) → IsListed v (params_of f) → IsListed v (map (λ (p : Param). p.name) (given_params s f))
param_kept s f v l = subst (IsListed v) (sym (given_params_are s f)) (listed_left v (params_of f) (given_name s ∷ []) l)

pub address_given : (s : Shape) (f : Function) → IsListed (given_name s) (map (λ (p : Param). p.name) (given_params s f))
address_given s f = subst (IsListed (given_name s)) (sym (given_params_are s f)) (listed_right (given_name s) (params_of f) (given_name s ∷ []) (inl refl))

pub given_times : (s : Shape) (f : Function) (v : ℕ) → times v (map (λ (p : Param). p.name) (given_params s f)) ≡ times v (params_of f) + times v (given_name s ∷ [])
given_times s f v = ap (times v) (given_params_are s f) ∙ times_joined v (params_of f) (given_name s ∷ [])

-- no other is the address
pub others_same : (s : Shape) (f : Function) (v : ℕ) → (v ≡ given_name s → ⊥) → times v (map (λ (p : Param). p.name) (given_params s f)) ≡ times v (params_of f)
others_same s f v other =
    let all = given_times s f v in
    let none : one_if (given_name s == v) ≡ 0 = ap one_if (other_number (given_name s) v (λ e. other (sym e))) in
    omega (arith, all, none)

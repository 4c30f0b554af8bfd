-- The values of activations beside each other, where names are set and blocks come.
use Rattle.std.proofs.Common.{◌≡◌, ℕ, zero, suc, ◌≤◌, List, [], ◌∷◌, length, replicate, Option, Some, None, refl, sym, ap, ◌∙◌, subst, ⊎_elim, arith}
use Rattle.std.proofs.lemmas.Bool.{cases_eq}
use Rattle.std.proofs.lemmas.List.{length-replicate}
use Rattle.pass_proofs.specs.ir_model.declared.module.Function.{Function}
use Rattle.pass_proofs.specs.ir_model.declared.module.Param.{Param}
use Rattle.pass_split_proof.specs.states.Values.{AreValuesOf, IsStopResult}
use Rattle.pass_proofs.proofs.run_laws.memory.Homes.{value_on}
use Rattle.pass_proofs.proofs.run_laws.memory.Written.{same_some}
use Rattle.pass_proofs.proofs.run_laws.transfer.Sets.{set_length, sets_name}
use Rattle.pass_proofs.specs.run_laws.embedded.Related.{AreValues}
use Rattle.pass_proofs.specs.run_laws.memory.Pointers.{Extends, Home, IsValue}
use Rattle.pass_proofs.specs.run_laws.transfer.Transfer.{AreSet}
use Rattle.pass_proofs.specs.run_memory.declared.pointer.Value.{Value}
use Rattle.pass_proofs.specs.run_step.Step.{entry_values, with_params}
use Rattle.pass_proofs.specs.run_step.Values.{Env, value_in, with_value}

-- a step sets a name, or none
pub values_set : (f : Function) (homes : List Home) (given : Option ℕ) (env other env' other' : Env)
    → AreValuesOf f homes env other → AreSet homes given env other env' other' → AreValuesOf f homes env' other'
values_set f homes given env other env' other' values set = record {
  each = λ v no_stop. on v no_stop given refl;
  room = let a = set.length_source in let b = set.length_target in let r = values.room in omega arith;
}
  where
    unset : (v : ℕ) → (IsStopResult f v → ⊥) → (given ≡ Some v → ⊥)
        → IsValue homes (value_in env' v) (value_in other' v)
    unset v no_stop ne = subst (λ (p : Value × Value). IsValue homes p.0 p.1)
        (λ i. (sym (set.source v ne) i, sym (set.target v ne) i)) (values.each v no_stop)

    on : (v : ℕ) → (IsStopResult f v → ⊥) → (o : Option ℕ) → given ≡ o
        → IsValue homes (value_in env' v) (value_in other' v)
    on v no_stop None e = unset v no_stop (λ h. absurd (cc))
    on v no_stop (Some at) e = ⊎_elim
        (λ is. set.stands v (e ∙ ap Some is))
        (λ ne. unset v no_stop (λ h. ne (same_some at v (sym e ∙ h))))
        (cases_eq at v)

-- more blocks
pub values_on : (f : Function) (homes more : List Home) (env other : Env) → Extends homes more
    → AreValuesOf f homes env other → AreValuesOf f more env other
values_on f homes more env other ext values
    = record {
      each = λ v no_stop. value_on homes more ext (value_in env v) (value_in other v) (values.each v no_stop);
      room = values.room;
    }

-- ---- the values of a function at its entry

abbrev no_one : Option Value
no_one = None

no_value : (n v : ℕ) → value_in (replicate n None) v ≡ Value.Poison
no_value zero v = refl
no_value (suc n) zero = refl
no_value (suc n) (suc v) = no_value n v

pub no_values : (f : Function) (homes : List Home) (n k : ℕ) → n ≤ k
    → AreValuesOf f homes (replicate n None) (replicate k None)
no_values f homes n k le = record {
  each = λ v no_stop. subst (λ (u : Value). IsValue homes u (value_in (replicate k None) v)) (sym (no_value n v)) tt;
  room = let a = length-replicate n no_one in let b = length-replicate k no_one in omega arith;
}

pub params_stand : (f : Function) (homes : List Home) (env other : Env) (params : List Param) (vs us : List Value)
    → AreValuesOf f homes env other → AreValues homes vs us
    → AreValuesOf f homes (with_params env params vs) (with_params other params us)
params_stand f homes env other [] vs us values stand = values
params_stand f homes env other (p ∷ params) [] [] values stand = values
params_stand f homes env other (p ∷ params) [] (u ∷ us) values stand = absurd stand
params_stand f homes env other (p ∷ params) (v ∷ vs) [] values stand = absurd stand
params_stand f homes env other (p ∷ params) (v ∷ vs) (u ∷ us) values stand =
    params_stand f homes (with_value env p.name v) (with_value other p.name u) params vs us
    (values_set f homes (Some p.name) env other (with_value env p.name v) (with_value other p.name u) values
    (sets_name homes env other values.room p.name v u stand.0))
    stand.1

-- the parts have the parameters, and more names
pub entries_stand : (f q : Function) (homes : List Home) (vs us : List Value) → q.params ≡ f.params
    → length f.names ≤ length q.names → AreValues homes vs us
    → AreValuesOf f homes (entry_values f vs) (entry_values q us)
entries_stand f q homes vs us params names stand =
    subst (λ (ps : List Param). AreValuesOf f homes (entry_values f vs)
    (with_params (replicate (length q.names) None) ps us)) (sym params)
    (params_stand f homes (replicate (length f.names) None) (replicate (length q.names) None) f.params vs us
    (no_values f homes (length f.names) (length q.names) names) stand)

params_length : (env : Env) (params : List Param) (vs : List Value) → length (with_params env params vs) ≡ length env
params_length env [] vs = refl
params_length env (p ∷ params) [] = refl
params_length env (p ∷ params) (v ∷ vs) = params_length (with_value env p.name v) params vs ∙ set_length env p.name v

pub entry_length : (q : Function) (us : List Value) → length (entry_values q us) ≡ length q.names
entry_length q us = params_length (replicate (length q.names) None) q.params us ∙ length-replicate (length q.names) None

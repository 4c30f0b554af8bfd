-- The values of a ramp that is given its frame, at its entry.
use Rattle.std.proofs.Common.{◌≡◌, ℕ, suc, ◌<◌, ◌≤◌, List, [], ◌∷◌, ◌++◌, length, replicate, Option, Some, None, refl, sym, ap, ◌∙◌, subst, arith}
use Rattle.std.proofs.lemmas.List.{length-replicate}
use Rattle.pass_proofs.specs.ir_model.declared.module.Function.{Function}
use Rattle.pass_proofs.specs.ir_model.declared.module.Param.{Param}
use Rattle.pass_split_proof.proofs.states.Values.{no_values, values_set}
use Rattle.pass_split_proof.proofs.steps.Saves.{set_there, values_extra}
use Rattle.pass_split_proof.specs.states.Values.{AreValuesOf}
use Rattle.pass_proofs.proofs.run_laws.transfer.Sets.{set_length, sets_name}
use Rattle.pass_proofs.specs.run_laws.embedded.Related.{AreValues}
use Rattle.pass_proofs.specs.run_laws.memory.Pointers.{Home}
use Rattle.pass_proofs.specs.run_memory.declared.pointer.Value.{Value}
use Rattle.pass_proofs.specs.run_step.Step.{entry_values, with_params}
use Rattle.pass_proofs.specs.run_step.Values.{Env, nth, value_in, with_value}

abbrev no_one : Option Value
no_one = None

-- a parameter more is a name that the source hasn't
more_params : (f : Function) (homes : List Home) (env other : Env) (params : List Param) (p : Param) (vs us : List Value)
    → AreValuesOf f homes env other → AreValues homes vs us → length env ≤ p.name
    → AreValuesOf f homes (with_params env params vs) (with_params other (params ++ p ∷ []) us)
more_params f homes env other [] p vs [] values stand past = values
more_params f homes env other [] p vs (u ∷ us) values stand past = values_extra f homes env other p.name u past values
more_params f homes env other (q ∷ params) p [] [] values stand past = values
more_params f homes env other (q ∷ params) p [] (u ∷ us) values stand past = absurd stand
more_params f homes env other (q ∷ params) p (v ∷ vs) [] values stand past = absurd stand
more_params f homes env other (q ∷ params) p (v ∷ vs) (u ∷ us) values stand past =
    more_params f homes (with_value env q.name v) (with_value other q.name u) params p vs us
    (values_set f homes (Some q.name) env other (with_value env q.name v) (with_value other q.name u) values
    (sets_name homes env other values.room q.name v u stand.0))
    stand.1 (subst (λ (n : ℕ). n ≤ p.name) (sym (set_length env q.name v)) past)

-- it has the argument that stands last
last_param : (env : Env) (params : List Param) (p : Param) (us : List Value) → length us ≡ suc (length params)
    → p.name < length env → value_in (with_params env (params ++ p ∷ []) us) p.name ≡ nth us (length params)
last_param env [] p [] many lt = absurd (none 0 0 many refl)
  where
    none : (a n : ℕ) → a ≡ suc n → a ≡ 0 → ⊥
    none a n e z = omega arith
last_param env [] p (u ∷ us) many lt = set_there env p.name u lt
last_param env (q ∷ params) p [] many lt = absurd (none 0 (suc (length params)) many refl)
  where
    none : (a n : ℕ) → a ≡ suc n → a ≡ 0 → ⊥
    none a n e z = omega arith
last_param env (q ∷ params) p (u ∷ us) many lt =
    last_param (with_value env q.name u) params p us (less (length us) (length params) many)
    (subst (λ (n : ℕ). p.name < n) (sym (set_length env q.name u)) lt)
  where
    less : (n k : ℕ) → suc n ≡ suc (suc k) → n ≡ suc k
    less n k e = omega arith

module _ (f q : Function) (homes : List Home) (vs us : List Value) (p : Param)
    (params : q.params ≡ f.params ++ p ∷ []) where
  pub given_entries_stand : length f.names ≤ p.name → p.name < length q.names → AreValues homes vs us
      → AreValuesOf f homes (entry_values f vs) (entry_values q us)
  given_entries_stand past lt stand = subst (λ (ps : List Param). AreValuesOf f homes (entry_values f vs)
      (with_params (replicate (length q.names) None) ps us)) (sym params)
      (more_params f homes (replicate (length f.names) None) (replicate (length q.names) None) f.params p vs us
      (no_values f homes (length f.names) (length q.names) (longer (length f.names) p.name (length q.names) past lt))
      stand (subst (λ (n : ℕ). n ≤ p.name) (sym (length-replicate (length f.names) no_one)) past))
    where
      longer : (a b c : ℕ) → a ≤ b → b < c → a ≤ c
      longer a b c le lt = omega arith

  pub given_entry : length us ≡ suc (length f.params) → p.name < length q.names
      → value_in (entry_values q us) p.name ≡ nth us (length f.params)
  given_entry many lt = ap (λ (ps : List Param). value_in (with_params (replicate (length q.names) None) ps us) p.name)
      params
      ∙ last_param (replicate (length q.names) None) f.params p us many
      (subst (λ (n : ℕ). p.name < n) (sym (length-replicate (length q.names) no_one)) lt)

-- The values of two activations in which one name is set.
use Rattle.std.proofs.Common.{◌≡◌, ℕ, zero, suc, ◌≤◌, List, [], ◌∷◌, length, Option, Some, None, refl, ap, subst, arith}
use Rattle.run_memory.specs.declared.pointer.Value.{Value}
use Rattle.run_laws.proofs.memory.Written.{same_some}
use Rattle.run_laws.specs.memory.Pointers.{Home, IsValue}
use Rattle.run_step.specs.Values.{Env, value_in, with_result, with_value}
use Rattle.run_laws.specs.transfer.Transfer.{AreSet}

pub set_elsewhere : (env : Env) (name at : ℕ) (v : Value) → (name ≡ at → ⊥)
    → value_in (with_value env name v) at ≡ value_in env at
set_elsewhere [] name at v ne = refl
set_elsewhere (y ∷ env) zero zero v ne = absurd (ne refl)
set_elsewhere (y ∷ env) zero (suc at) v ne = refl
set_elsewhere (y ∷ env) (suc name) zero v ne = refl
set_elsewhere (y ∷ env) (suc name) (suc at) v ne = set_elsewhere env name at v (λ e. ne (ap suc e))

pub set_length : (env : Env) (name : ℕ) (v : Value) → length (with_value env name v) ≡ length env
set_length [] name v = refl
set_length (y ∷ env) zero v = refl
set_length (y ∷ env) (suc name) v = ap suc (set_length env name v)

pub set_stands : (homes : List Home) (env other : Env) (name : ℕ) (v u : Value) → length env ≤ length other
    → IsValue homes v u → IsValue homes (value_in (with_value env name v) name)
    (value_in (with_value other name u) name)
set_stands homes [] other name v u room h = tt
set_stands homes (y ∷ env) [] name v u room h = absurd (omega arith)
set_stands homes (y ∷ env) (z ∷ other) zero v u room h = h
set_stands homes (y ∷ env) (z ∷ other) (suc name) v u room h = set_stands homes env other name v u (omega arith) h

module _ (homes : List Home) (env other : Env) where
  pub sets_none : AreSet homes None env other env other
  sets_none = record {
    stands = λ name e. absurd
        (cc);
    source = λ name ne. refl;
    target = λ name ne. refl;
    length_source = refl;
    length_target = refl;
  }

  module _ (room : length env ≤ length other) where
    pub sets_name : (name : ℕ) (v u : Value) → IsValue homes v u
        → AreSet homes (Some name) env other (with_value env name v) (with_value other name u)
    sets_name name v u h = record {
      stands = λ at e. subst (λ i. IsValue homes (value_in (with_value env name v) i)
          (value_in (with_value other name u) i)) (same_some name at e) (set_stands homes env other name v u room h);
      source = λ at ne. set_elsewhere env name at v (λ e. ne (ap Some e));
      target = λ at ne. set_elsewhere other name at u (λ e. ne (ap Some e));
      length_source = set_length env name v;
      length_target = set_length other name u;
    }

    pub sets_result : (result : Option ℕ) (v u : Value) → IsValue homes v u
        → AreSet homes result env other (with_result env result v) (with_result other result u)
    sets_result None v u h = sets_none
    sets_result (Some name) v u h = sets_name name v u h

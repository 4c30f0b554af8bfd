-- Addresses that were handed on, once they are moved to slots that were made anew.
use Rattle.std.proofs.Common.{◌≡◌, ℕ, zero, suc, [], ◌∷◌, Option, Some, None, refl, sym, ap, ◌∙◌}
use Rattle.run_types.specs.run_memory.declared.pointer.Pointer.{Pointer}
use Rattle.run_types.specs.run_memory.declared.pointer.Value.{Value}
use Rattle.run_types.specs.run_step.Values.{Env, pointer_to, value_in, value_or_poison}
use Rattle.run_types.specs.pass_renewed_proof.Renewed.{in_new_slot, renewed_value, renewed_values}

new_poison : (r : Value) → in_new_slot r Value.Poison ≡ Value.Poison
new_poison Value.Poison = refl
new_poison (Value.Int x) = refl
new_poison (Value.Ptr Pointer.Null) = refl
new_poison (Value.Ptr (Pointer.Func f)) = refl
new_poison (Value.Ptr (Pointer.At b o)) = refl

plain_at : (e : Env) (o : Option ℕ) (x : Option Value) → o ≡ None → renewed_value e o x ≡ x
plain_at e o x h = ap (λ z. renewed_value e z x) h

rooted_at : (e : Env) (o : Option ℕ) (a : ℕ) (x : Option Value) → o ≡ Some a → value_or_poison (Some (renewed_value e o
    x)) ≡ in_new_slot (value_in e a) (value_or_poison (Some x))
rooted_at e o a x h = ap (λ z. value_or_poison (Some (renewed_value e z x))) h ∙ on x
  where
    on : (x : Option Value) → value_or_poison (Some (renewed_value e (Some a) x)) ≡ in_new_slot (value_in e a)
        (value_or_poison (Some x))
    on None = sym (new_poison (value_in e a))
    on (Some v) = refl

-- a name that is no address in a slot keeps what it had
pub plain_value : (roots : ℕ → Option ℕ) (e vs : Env) (v : ℕ) → roots v ≡ None
    → value_in (renewed_values roots e vs) v ≡ value_in vs v
plain_value roots e [] v h = refl
plain_value roots e (x ∷ vs) zero h = ap (λ z. value_or_poison (Some z)) (plain_at e (roots 0) x h)
plain_value roots e (x ∷ vs) (suc v) h = plain_value (λ i. roots (suc i)) e vs v h

rooted_value : (roots : ℕ → Option ℕ) (e vs : Env) (v a : ℕ) → roots v ≡ Some a
    → value_in (renewed_values roots e vs) v ≡ in_new_slot (value_in e a) (value_in vs v)
rooted_value roots e [] v a h = sym (new_poison (value_in e a))
rooted_value roots e (x ∷ vs) zero a h = rooted_at e (roots 0) a x h
rooted_value roots e (x ∷ vs) (suc v) a h = rooted_value (λ i. roots (suc i)) e vs v a h

-- an alloca's name has the address of the new slot
pub root_value : (roots : ℕ → Option ℕ) (vs : Env) (a c : ℕ) → roots a ≡ Some a → value_in vs a ≡ pointer_to c
    → value_in (renewed_values roots vs vs) a ≡ pointer_to c
root_value roots vs a c root at = rooted_value roots vs vs a a root ∙ ap (λ z. in_new_slot z z) at

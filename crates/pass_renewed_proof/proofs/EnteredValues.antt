-- The values of an activation that has made its slots anew.
use Rattle.std.proofs.Common.{◌≡◌, ℕ, zero, suc, ◌<◌, ◌⊎◌, inl, inr, Bool, true, false, List, [], ◌∷◌, length, refl, sym, ap, ◌∙◌, subst, arith, ◌==◌}
use Rattle.std.proofs.lemmas.Bool.{false≢true}
use Rattle.pass_kept_proof.specs.run_memory.declared.pointer.Value.{Value}
use Rattle.pass_kept_proof.specs.run_source.declared.state.Mode.{Mode}
use Rattle.pass_kept_proof.specs.run_source.declared.state.State.{State}
use Rattle.run_framed.specs.Framed.{at_point, with_mode}
use Rattle.pass_kept_proof.proofs.Same.{either, neither}
use Rattle.pass_kept_proof.specs.run_step.Values.{Env, pointer_to, value_in, with_value}
use Rattle.pass_renewed_proof.proofs.Sets.{set_elsewhere}
use Rattle.pass_renewed_proof.specs.Entering.{Anew, is_named, made_all, made_anew}
use Rattle.pass_renewed_proof.specs.Renewed.{RenewedGiven}

pub set_here : (env : Env) (name : ℕ) (v : Value) → name < length env → value_in (with_value env name v) name ≡ v
set_here [] name v lt = absurd (omega arith)
set_here (x ∷ env) zero v lt = refl
set_here (x ∷ env) (suc name) v lt = set_here env name v (omega arith)

pub set_length : (env : Env) (name : ℕ) (v : Value) → length (with_value env name v) ≡ length env
set_length [] name v = refl
set_length (x ∷ env) zero v = refl
set_length (x ∷ env) (suc name) v = ap suc (set_length env name v)

module _ (g : RenewedGiven) (from label : ℕ) where
  -- the state behind one of them
  abbrev behind : State → Anew → State
  behind s x = made_anew g (at_point (with_mode s (Mode.Entering from label)) (record { block = 0; at = x.at })) x.name x.ty x.align

  pub other_values : (xs : List Anew) (s : State) (v : ℕ) → is_named xs v ≡ false → value_in (made_all g from label s xs).top.values v ≡ value_in s.top.values v
  other_values [] s v e = refl
  other_values (x ∷ xs) s v e =
      let n = neither (x.name == v) (is_named xs v) e in
      other_values xs (behind s x) v n.1 ∙ set_elsewhere s.top.values x.name v (pointer_to (length s.world.memory)) (λ is. differs x.name v is n.0)
    where
      differs : (a b : ℕ) → a ≡ b → (a == b) ≡ false → ⊥
      differs a b is e = absurd (grind arith)

  pub made_length : (xs : List Anew) (s : State) → length (made_all g from label s xs).top.values ≡ length s.top.values
  made_length [] s = refl
  made_length (x ∷ xs) s = made_length xs (behind s x) ∙ set_length s.top.values x.name (pointer_to (length s.world.memory))

  pub made_values : (xs : List Anew) (s : State) (v : ℕ) → is_named xs v ≡ true → v < length s.top.values → (c : ℕ) × (value_in (made_all g from label s xs).top.values v ≡ pointer_to c)
  made_values [] s v e lt = absurd (false≢true e)
  made_values (x ∷ xs) s v e lt = on (is_named xs v) refl (λ h. made_values xs (behind s x) v h (subst (λ l. v < l) (sym (set_length s.top.values x.name (pointer_to (length s.world.memory)))) lt)) (either (x.name == v) (is_named xs v) e)
    where
      same : (a b : ℕ) → (a == b) ≡ true → a ≡ b
      same a b e = grind arith

      on : (t : Bool) → is_named xs v ≡ t → (is_named xs v ≡ true → (c : ℕ) × (value_in (made_all g from label (behind s x) xs).top.values v ≡ pointer_to c)) → ((x.name == v) ≡ true) ⊎ (is_named xs v ≡ true) → (c : ℕ) × (value_in (made_all g from label (behind s x) xs).top.values v ≡ pointer_to c)
      on true et later h = later et
      on false et later (inr h) = absurd (false≢true (sym et ∙ h))
      on false et later (inl h) =
          let is : x.name ≡ v = same x.name v h in
          (length s.world.memory, other_values xs (behind s x) v et ∙ ap (λ n. value_in (with_value s.top.values n (pointer_to (length s.world.memory))) v) is ∙ set_here s.top.values v (pointer_to (length s.world.memory)) lt)

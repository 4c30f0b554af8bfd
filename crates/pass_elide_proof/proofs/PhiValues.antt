-- What the phis of a block give in both runs.
use Rattle.std.proofs.Common.{◌≡◌, ◌≢◌, ◌<◌, ◌≤◌, ⊎_elim, ℕ, zero, suc, Bool, false, List, [], ◌∷◌, length, refl, sym, ap, ◌∙◌, subst, arith}
use Rattle.std.specs.Prelude.{Option, Some, slice_get}
use Rattle.pass_elide_proof.proofs.TopMoved.{SameHeld}
use Rattle.pass_elide_proof.specs.Edges.{IsNoAnswer, KeptHeld, NoneHeld, StaysHeld, TakenHeld}
use Rattle.pass_elide_proof.specs.Elision.{Shape}
use Rattle.pass_proofs.proofs.ir_laws.facts.Truth.{either}
use Rattle.pass_proofs.proofs.run_laws.transfer.Sets.{set_elsewhere, set_length, set_stands}
use Rattle.pass_proofs.specs.ir_model.declared.instr.Phi.{Phi}
use Rattle.pass_proofs.specs.ir_model.declared.module.Module.{Module}
use Rattle.pass_proofs.specs.run_laws.changed.Changed.{Each}
use Rattle.pass_proofs.specs.run_laws.memory.Pointers.{Home, IsValue}
use Rattle.pass_proofs.specs.run_memory.declared.pointer.Value.{Value}
use Rattle.pass_proofs.specs.run_step.Step.{incoming_from, phi_values, with_all}
use Rattle.pass_proofs.specs.run_step.Values.{Env, operand_value, value_in, with_value}

-- ---- phis that give no such name

pub each_as : {A : Type 0} (P Q : A → Type 0) → ((x : A) → P x → Q x) → (xs : List A) → Each P xs → Each Q xs
each_as P Q h [] all = tt
each_as P Q h (x ∷ xs) all = (h x all.0, each_as P Q h xs all.1)

pub answers_apart : (x : Shape) (v : ℕ) → (IsNoAnswer x v → ⊥) → (phis : List Phi)
    → Each (λ (p : Phi). IsNoAnswer x p.result) phis → Each (λ (p : Phi). p.result ≢ v) phis
answers_apart x v bars phis all =
    each_as (λ (p : Phi). IsNoAnswer x p.result) (λ (p : Phi). p.result ≢ v)
    (λ p is same. bars (subst (λ (n : ℕ). IsNoAnswer x n) same is)) phis all

pub names_apart : (n v : ℕ) → n ≤ v → (phis : List Phi) → Each (λ (p : Phi). p.result < n) phis
    → Each (λ (p : Phi). p.result ≢ v) phis
names_apart n v le phis all =
    each_as (λ (p : Phi). p.result < n) (λ (p : Phi). p.result ≢ v)
    (λ p lt same. absurd (omega (arith, lt, same, le))) phis all

-- ---- names that aren't set, and that are

pub all_long : (env : Env) (ps : List (ℕ × Value)) → length (with_all env ps) ≡ length env
all_long env [] = refl
all_long env (p ∷ ps) = all_long (with_value env p.0 p.1) ps ∙ set_length env p.0 p.1

pub value_here : (env : Env) (name : ℕ) (v : Value) → name < length env → value_in (with_value env name v) name ≡ v
value_here [] name v lt = absurd (omega (arith, lt))
value_here (c ∷ env) zero v lt = refl
value_here (c ∷ env) (suc name) v lt = value_here env name v (omega (arith, lt))

module _ (m : Module) (env : Env) (from : ℕ) where
  abbrev given : List Phi → List (ℕ × Value)
  given phis = phi_values m env from phis

  abbrev value : Phi → Value
  value p = operand_value m env p.ty (incoming_from p.incoming from)

  pub phis_elsewhere : (phis : List Phi) (start : Env) (v : ℕ) → Each (λ (p : Phi). p.result ≢ v) phis
      → value_in (with_all start (given phis)) v ≡ value_in start v
  phis_elsewhere [] start v h = refl
  phis_elsewhere (p ∷ phis) start v h =
      phis_elsewhere phis (with_value start p.result (value p)) v h.1 ∙ set_elsewhere start p.result v (value p) h.0

  -- none of the others gives the name
  others : (phis : List Phi) (u : ℕ) → ((j : ℕ) (q : Phi) → slice_get phis j ≡ Some q → q.result ≢ u)
      → Each (λ (p : Phi). p.result ≢ u) phis
  others [] u h = tt
  others (p ∷ phis) u h = (h 0 p refl, others phis u (λ j q e. h (suc j) q e))

  phi_value : (phis : List Phi) (start : Env) (u k : ℕ) (p : Phi) → slice_get phis k ≡ Some p → p.result ≡ u
      → ((j : ℕ) (q : Phi) → slice_get phis j ≡ Some q → q.result ≡ u → j ≡ k) → u < length start
      → value_in (with_all start (given phis)) u ≡ value p
  phi_value [] start u k p there is one lt = absurd (cc)
  phi_value (q ∷ phis) start u zero p there is one lt =
      let same : q ≡ p = cc in
      let name : q.result ≡ u = ap (λ (x : Phi). x.result) same ∙ is in
      phis_elsewhere phis (with_value start q.result (value q)) u
      (others phis u (λ j x e gives. let first : suc j ≡ 0 = one (suc j) x e gives in absurd (omega (arith, first))))
      ∙ (ap (λ (n : ℕ). value_in (with_value start n (value q)) u) name
      ∙ (value_here start u (value q) lt ∙ ap value same))
  phi_value (q ∷ phis) start u (suc k) p there is one lt =
      let long = set_length start q.result (value q) in
      phi_value phis (with_value start q.result (value q)) u k p there is
      (λ j x e gives. let next : suc j ≡ suc k = one (suc j) x e gives in omega (arith, next))
      (omega (arith, long, lt))

  -- ---- the block that is held

  pub held_on : (phis : List Phi) (o q : Option ℕ) → StaysHeld env from phis o q
      → SameHeld env (with_all env (given phis)) o q
  held_on phis _ _ NoneHeld = tt
  held_on phis _ _ (KeptHeld v free) = phis_elsewhere phis env v free
  held_on phis _ _ (TakenHeld v u k p there is takes one lt) =
      phi_value phis env u k p there is one lt ∙ ap (operand_value m env p.ty) takes

-- ---- names that stand for each other, but for what differs

module _ (differs : ℕ → Bool) (homes : List Home) where
  abbrev pub StandBut : Env → Env → Type 0
  StandBut env other = (v : ℕ) → differs v ≡ false → IsValue homes (value_in env v) (value_in other v)

  set_but : (env other : Env) (name : ℕ) (x y : Value) → length env ≤ length other
      → (differs name ≡ false → IsValue homes x y) → StandBut env other
      → StandBut (with_value env name x) (with_value other name y)
  set_but env other name x y le is h v same =
      ⊎_elim
      (λ at.
      subst (λ (n : ℕ). IsValue homes (value_in (with_value env name x) n) (value_in (with_value other name y) n)) at
      (set_stands homes env other name x y le (is (ap differs at ∙ same))))
      (λ ne.
      subst (λ (z : Value). IsValue homes z (value_in (with_value other name y) v))
      (sym (set_elsewhere env name v x ne))
      (subst (λ (z : Value). IsValue homes (value_in env v) z) (sym (set_elsewhere other name v y ne)) (h v same)))
      (either name v)

  module _ (m : Module) (env other : Env) (from label : ℕ) where
    -- what a phi takes in the one run stands for what it takes in the other, unless what it gives differs
    abbrev pub StandsBut : Phi → Type 0
    StandsBut p =
        differs p.result ≡ false → IsValue homes (operand_value m env p.ty (incoming_from p.incoming from))
        (operand_value m other p.ty (incoming_from p.incoming label))

    pub phis_but : (phis : List Phi) (start begun : Env) → length start ≤ length begun → StandBut start begun
        → Each StandsBut phis
        → StandBut (with_all start (phi_values m env from phis)) (with_all begun (phi_values m other label phis))
    phis_but [] start begun le h stand = h
    phis_but (p ∷ phis) start begun le h stand =
        let x = operand_value m env p.ty (incoming_from p.incoming from) in
        let y = operand_value m other p.ty (incoming_from p.incoming label) in
        let few = set_length start p.result x in
        let many = set_length begun p.result y in
        phis_but phis (with_value start p.result x) (with_value begun p.result y) (omega (arith, few, many, le))
        (set_but start begun p.result x y le stand.0 h) stand.1

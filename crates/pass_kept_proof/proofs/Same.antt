-- Values that are the same at some names.
use Rattle.std.proofs.Common.{◌≡◌, ℕ, zero, suc, ◌<◌, ◌≤◌, ◌⊎◌, inl, inr, ⊎_elim, Bool, true, false, List, [], ◌∷◌, length, Option, Some, None, refl, sym, ap, ◌∙◌, subst, arith}
use Rattle.std.specs.Prelude.{◌==◌, ◌||◌, ◌&&◌, IsTrue, IsFalse, if◌then◌else◌}
use Rattle.std.proofs.lemmas.Bool.{cases_eq, cases_lt}
use Rattle.std.proofs.lemmas.List.{length-set}
use Rattle.pass_kept_proof.specs.Kept.{kept}
use Rattle.pass_kept_proof.specs.Needed.{phis_give, phis_read}
pub use Rattle.pass_kept_proof.specs.Related.{SameOn}
use Rattle.run_memory.specs.declared.pointer.Value.{Value}
use Rattle.ir_model.specs.Names.{is_local}
use Rattle.ir_model.specs.Ty.{Ty}
use Rattle.ir_model.specs.declared.instr.Phi.{Phi}
use Rattle.ir_model.specs.declared.module.Module.{Module}
use Rattle.ir_model.specs.declared.operand.Arg.{Arg}
use Rattle.ir_model.specs.declared.operand.Operand.{Operand}
use Rattle.ir_paths.specs.Paths.{same_point}
use Rattle.ir_paths.specs.Slots.{is_in_args}
use Rattle.ir_paths.specs.Windows.{operand_at}
use Rattle.ir_paths.specs.declared.point.Point.{Point}
use Rattle.run_step.specs.Step.{incoming_from, phi_values, with_all}
use Rattle.run_step.specs.Values.{Env, arg_values, nth, operand_value, value_in, with_result, with_value, index_of, indices_of, number_at}

-- ---- tests

pub eq_from : (a b : ℕ) → (a == b) ≡ true → a ≡ b
eq_from a b e = grind arith

pub eq_itself : (a : ℕ) → (a == a) ≡ true
eq_itself a = grind arith

pub either : (a b : Bool) → (a || b) ≡ true → (a ≡ true) ⊎ (b ≡ true)
either true b e = inl refl
either false b e = inr e

pub or_left : (a b : Bool) → a ≡ true → (a || b) ≡ true
or_left true b e = refl
or_left false b e = absurd (cc)

pub or_right : (a b : Bool) → b ≡ true → (a || b) ≡ true
or_right true b e = refl
or_right false b e = e

pub neither : (a b : Bool) → (a || b) ≡ false → (a ≡ false) × (b ≡ false)
neither true b e = absurd (cc)
neither false b e = (refl, e)

pub same_point_same : (p q : Point) → same_point p q ≡ true → p ≡ q
same_point_same p q e = on (p.block == q.block) (p.at == q.at) refl refl e
  where
    on : (a b : Bool) → (p.block == q.block) ≡ a → (p.at == q.at) ≡ b → (a && b) ≡ true → p ≡ q
    on true true ea eb h = let k : p.block ≡ q.block = eq_from p.block q.block ea in let l : p.at ≡ q.at = eq_from p.at q.at eb in λ i. record { block = k i; at = l i }
    on true false ea eb h = absurd (cc)
    on false b ea eb h = absurd (cc)

-- ---- the same values

pub same_less : (P Q : ℕ → Type 0) (vs ws : Env) → SameOn Q vs ws → ((v : ℕ) → P v → Q v) → SameOn P vs ws
same_less P Q vs ws s h = record { each = λ v p. s.each v (h v p); wide = s.wide }

pub same_all : (P : ℕ → Type 0) (vs : Env) → SameOn P vs vs
same_all P vs = record { each = λ v p. refl; wide = refl }

set_same : (env : Env) (r : ℕ) (x : Value) → r < length env → value_in (with_value env r x) r ≡ x
set_same [] r x lt = absurd (omega arith)
set_same (o ∷ env) zero x lt = refl
set_same (o ∷ env) (suc r) x lt = set_same env r x (omega arith)

set_other : (env : Env) (r v : ℕ) (x : Value) → (v ≡ r → ⊥) → value_in (with_value env r x) v ≡ value_in env v
set_other [] r v x ne = refl
set_other (o ∷ env) zero zero x ne = absurd (ne refl)
set_other (o ∷ env) zero (suc v) x ne = refl
set_other (o ∷ env) (suc r) zero x ne = refl
set_other (o ∷ env) (suc r) (suc v) x ne = set_other env r v x (λ e. ne (ap suc e))

past : (env : Env) (v : ℕ) → length env ≤ v → value_in env v ≡ Value.Poison
past [] v le = refl
past (o ∷ env) zero le = absurd (omega arith)
past (o ∷ env) (suc v) le = past env v (omega arith)

set-wide : (env : Env) (r : ℕ) (x : Value) → length (with_value env r x) ≡ length env
set-wide env r x = length-set env r (Some x)

set_at : (vs ws : Env) (r : ℕ) (x : Value) → length ws ≡ length vs → value_in (with_value ws r x) r ≡ value_in (with_value vs r x) r
set_at vs ws r x wide = ⊎_elim
    (λ lt. set_same ws r x (omega (arith, wide)) ∙ sym (set_same vs r x lt))
    (λ ge. past (with_value ws r x) r (omega (arith, set-wide ws r x, wide)) ∙ sym (past (with_value vs r x) r (omega (arith, set-wide vs r x))))
    (cases_lt r (length vs))

pub same_set : (P Q : ℕ → Type 0) (vs ws : Env) (r : ℕ) (x : Value) → SameOn Q vs ws → ((v : ℕ) → P v → (v ≡ r → ⊥) → Q v) → SameOn P (with_value vs r x) (with_value ws r x)
same_set P Q vs ws r x s h = record {
  each = λ v p. ⊎_elim
      (λ e. subst (λ (u : ℕ). value_in (with_value ws r x) u ≡ value_in (with_value vs r x) u) (sym e) (set_at vs ws r x s.wide))
      (λ ne. set_other ws r v x ne ∙ s.each v (h v p ne) ∙ sym (set_other vs r v x ne))
      (cases_eq v r);
  wide = set-wide ws r x ∙ s.wide ∙ sym (set-wide vs r x);
}

pub same_result : (P Q : ℕ → Type 0) (vs ws : Env) (result : Option ℕ) (x : Value) → SameOn Q vs ws → ((v : ℕ) → P v → (result ≡ Some v → ⊥) → Q v) → SameOn P (with_result vs result x) (with_result ws result x)
same_result P Q vs ws None x s h = same_less P Q vs ws s (λ v p. h v p (λ e. absurd (cc)))
same_result P Q vs ws (Some r) x s h = same_set P Q vs ws r x s (λ v p ne. h v p (λ (e : Some r ≡ Some v). ne (cc)))

-- ---- operands

pub Reads : Env → Env → (ℕ → Bool) → Type 0
Reads vs ws test = (v : ℕ) → IsTrue (test v) → value_in ws v ≡ value_in vs v

pub reads_from : (Q : ℕ → Type 0) (vs ws : Env) (test : ℕ → Bool) → SameOn Q vs ws → ((v : ℕ) → IsTrue (test v) → Q v) → Reads vs ws test
unfolding Reads
reads_from Q vs ws test s h = λ v t. s.each v (h v t)

pub operand_same : (m : Module) (vs ws : Env) (ty : Ty) (x : Operand) → ((v : ℕ) → IsTrue (is_local v x) → value_in ws v ≡ value_in vs v) → operand_value m ws ty x ≡ operand_value m vs ty x
operand_same m vs ws ty (Operand.Local n) h = h n (eq_itself n)
operand_same m vs ws ty (Operand.Global n) h = refl
operand_same m vs ws ty (Operand.Number z) h = refl
operand_same m vs ws ty Operand.True h = refl
operand_same m vs ws ty Operand.False h = refl
operand_same m vs ws ty Operand.Null h = refl
operand_same m vs ws ty Operand.None h = refl
operand_same m vs ws ty Operand.Poison h = refl

pub args_same : (m : Module) (vs ws : Env) (args : List Arg) → ((v : ℕ) → IsTrue (is_in_args v args) → value_in ws v ≡ value_in vs v) → arg_values m ws args ≡ arg_values m vs args
args_same m vs ws [] h = refl
args_same m vs ws (a ∷ args) h =
    let e = operand_same m vs ws a.ty a.value (λ v t. h v (or_left _ _ t)) in
    let k = args_same m vs ws args (λ v t. h v (or_right (is_local v a.value) _ t)) in
    λ i. e i ∷ k i

pub indices_same : (m : Module) (vs ws : Env) (args : List Arg) → ((v : ℕ) → IsTrue (is_in_args v args) → value_in ws v ≡ value_in vs v) → indices_of m ws args ≡ indices_of m vs args
indices_same m vs ws [] h = refl
indices_same m vs ws (a ∷ args) h =
    let e = operand_same m vs ws a.ty a.value (λ v t. h v (or_left _ _ t)) in
    let k = indices_same m vs ws args (λ v t. h v (or_right (is_local v a.value) _ t)) in
    λ i. index_of (number_at a.ty (e i)) ∷ k i

pub nth_same : (m : Module) (vs ws : Env) (args : List Arg) (i : ℕ) → ((v : ℕ) → IsTrue (is_local v (operand_at args i)) → value_in ws v ≡ value_in vs v) → nth (arg_values m ws args) i ≡ nth (arg_values m vs args) i
nth_same m vs ws [] i h = refl
nth_same m vs ws (a ∷ args) zero h = operand_same m vs ws a.ty a.value h
nth_same m vs ws (a ∷ args) (suc i) h = nth_same m vs ws args i h

-- ---- phis

phi_values_same : (m : Module) (vs ws : Env) (label : ℕ) (phis : List Phi) → ((v : ℕ) → IsTrue (phis_read v label phis) → value_in ws v ≡ value_in vs v) → phi_values m ws label phis ≡ phi_values m vs label phis
phi_values_same m vs ws label [] h = refl
phi_values_same m vs ws label (p ∷ phis) h =
    let e = operand_same m vs ws p.ty (incoming_from p.incoming label) (λ v t. h v (or_left _ _ t)) in
    let k = phi_values_same m vs ws label phis (λ v t. h v (or_right (is_local v (incoming_from p.incoming label)) _ t)) in
    λ i. (p.result, e i) ∷ k i

all_same : (m : Module) (P Q : ℕ → Type 0) (env vs ws : Env) (label : ℕ) (phis : List Phi) → SameOn Q vs ws → ((v : ℕ) → P v → IsFalse (phis_give v phis) → Q v) → SameOn P (with_all vs (phi_values m env label phis)) (with_all ws (phi_values m env label phis))
all_same m P Q env vs ws label [] s h = same_less P Q vs ws s (λ v p. h v p refl)
all_same m P Q env vs ws label (q ∷ phis) s h =
    all_same m P R env (with_value vs q.result x) (with_value ws q.result x) label phis
    (same_set R Q vs ws q.result x s (λ v r ne. r ne))
    (λ v p none ne. h v p (not_given v ne none))
  where
    x : Value
    x = operand_value m env q.ty (incoming_from q.incoming label)

    R : ℕ → Type 0
    R v = (v ≡ q.result → ⊥) → Q v

    not_given : (v : ℕ) → (v ≡ q.result → ⊥) → IsFalse (phis_give v phis) → IsFalse (phis_give v (q ∷ phis))
    not_given v ne none = on (q.result == v) refl
      where
        on : (b : Bool) → (q.result == v) ≡ b → IsFalse (b || phis_give v phis)
        on true e = absurd (ne (sym (eq_from q.result v e)))
        on false e = none

-- the values after a block is entered
pub phis_same : (m : Module) (P Q : ℕ → Type 0) (vs ws : Env) (label : ℕ) (phis : List Phi) → SameOn Q vs ws → ((v : ℕ) → IsTrue (phis_read v label phis) → Q v) → ((v : ℕ) → P v → IsFalse (phis_give v phis) → Q v) → SameOn P (with_all vs (phi_values m vs label phis)) (with_all ws (phi_values m ws label phis))
phis_same m P Q vs ws label phis s rd h =
    subst (λ ps. SameOn P (with_all vs (phi_values m vs label phis)) (with_all ws ps)) (sym (phi_values_same m vs ws label phis (λ v t. s.each v (rd v t)))) (all_same m P Q vs vs ws label phis s h)

-- ---- kept values

pub kept_at : (keep : ℕ → Bool) (env : Env) (v : ℕ) → IsTrue (keep v) → value_in (kept keep env) v ≡ value_in env v
kept_at keep [] v t = refl
kept_at keep (o ∷ env) zero t = on (keep 0) t
  where
    on : (b : Bool) → b ≡ true → value_in ((if b then o else None) ∷ kept (λ i. keep (suc i)) env) 0 ≡ value_in (o ∷ env) 0
    on true e = refl
    on false e = absurd (cc)
kept_at keep (o ∷ env) (suc v) t = kept_at (λ i. keep (suc i)) env v t

pub kept_wide : (keep : ℕ → Bool) (env : Env) → length (kept keep env) ≡ length env
kept_wide keep [] = refl
kept_wide keep (o ∷ env) = ap suc (kept_wide (λ i. keep (suc i)) env)

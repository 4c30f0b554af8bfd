-- What parts of a step do to names of allocas with markers.
use Rattle.std.proofs.Common.{◌≡◌, ◌⊎◌, inl, inr, ℕ, zero, suc, Bool, true, false, List, [], ◌∷◌, length, Option}
use Rattle.std.proofs.Common.{Some, None, Result, Ok, Err, refl, sym, ap, ◌∙◌, subst, if◌then◌else◌, arith, ◌==◌}
use Rattle.std.specs.List.{list_any}
use Rattle.std.specs.Prelude.{negsuc, not, replicate, unwrap_or}
use Rattle.compiler.specs.ir_base.declared.cause.Cause.{Cause}
use Rattle.compiler.specs.ir_model.Names.{function_at}
use Rattle.compiler.specs.ir_model.declared.module.Function.{Function}
use Rattle.compiler.specs.ir_model.declared.module.Module.{Module}
use Rattle.compiler.specs.ir_model.declared.module.Param.{Param}
use Rattle.compiler.specs.ir_model.declared.operand.Operand.{Operand}
use Rattle.compiler.specs.ir_paths.declared.point.Point.{Point}
use Rattle.compiler_theorem.specs.temporaries.Uses.{AreMarkersNamed, AreMarkersNamedOn, IsGivenApart}
use Rattle.compiler_theorem.specs.temporaries.Uses.{StaysNamed, Use}
use Rattle.pass_frames_meaning.specs.Owned.{AreGivenApart}
use Rattle.compiler.proofs.pass_kept_proof.Same.{neither}
use Rattle.pass_frames_meaning.proofs.pass_renewed_proof.Sets.{result_elsewhere, set_elsewhere}
use Rattle.pass_frames_meaning.specs.pass_renewed_proof.SlotRules.{IsMadeOnce}
use Rattle.compiler.specs.run_memory.declared.pointer.Value.{Value}
use Rattle.compiler.specs.run_source.Source.{Sleeper, after_end, deallocate}
use Rattle.compiler.specs.run_source.Source.{if_let_go, let_go, may_be_freed, pop, return, returned}
use Rattle.compiler.specs.run_source.Source.{save_for, sleeper_at, sleeper_of, suspend}
use Rattle.compiler.specs.run_source.State.{gives, instance_at, next, own_instance}
use Rattle.compiler.specs.run_source.State.{point_of}
use Rattle.compiler.specs.run_source.State.{with_instance, with_left, with_memory}
use Rattle.compiler.specs.run_source.declared.state.Activation.{Activation}
use Rattle.compiler.specs.run_source.declared.state.Instance.{Instance}
use Rattle.compiler.specs.run_source.declared.state.Mode.{Mode}
use Rattle.compiler.specs.run_source.declared.state.State.{State}
use Rattle.compiler.specs.run_source.declared.state.Status.{Status}
use Rattle.compiler.specs.run_step.Results.{and_then, found, ok_if}
use Rattle.compiler.specs.run_step.Step.{block_of, deallocated, entry_values}
use Rattle.compiler.specs.run_step.Step.{has_markers, outcome_of}
use Rattle.compiler.specs.run_step.Step.{with_params}
use Rattle.compiler.specs.run_step.Values.{Env, integer, truth_value, value_in}
use Rattle.compiler.specs.run_step.Values.{with_result}
use Rattle.compiler.specs.run_step.Values.{with_value}

-- ---- values

-- a name that is set has the value, or is none of the activation's
pub set_or : (env : Env) (n : ℕ) (x : Value) → (value_in (with_value env n x) n ≡ x)
    ⊎ (value_in (with_value env n x) n ≡ Value.Poison)
set_or [] n x = inr refl
set_or (y ∷ env) zero x = inl refl
set_or (y ∷ env) (suc n) x = set_or env n x

pub unset : (n v : ℕ) → value_in (replicate n None) v ≡ Value.Poison
unset zero v = refl
unset (suc n) zero = refl
unset (suc n) (suc v) = unset n v

not_same : (a b : ℕ) → (a == b) ≡ false → a ≡ b → ⊥
not_same a b e h = grind arith

params_other : (env : Env) (params : List Param) (vs : List Value) (v : ℕ)
    → list_any (λ p. p.name == v) params ≡ false → value_in (with_params env params vs) v ≡ value_in env v
params_other env [] vs v e = refl
params_other env (p ∷ params) [] v e = refl
params_other env (p ∷ params) (w ∷ vs) v e =
    let n = neither (p.name == v) _ e in
    params_other (with_value env p.name w) params vs v n.1 ∙ set_elsewhere env p.name v w (not_same p.name v n.0)

pub entry_poison : (f : Function) (args : List Value) (v : ℕ) → IsMadeOnce f v
    → value_in (entry_values f args) v ≡ Value.Poison
entry_poison f args v made =
    params_other (replicate (length f.names) None) f.params args v made.no_param ∙ unset (length f.names) v

pub no_block : (x : Value) (b : ℕ) → x ≡ Value.Poison → block_of x ≡ Some b → ⊥
no_block x b e d = let none : None ≡ Some b = sym (ap block_of e) ∙ d in absurd (cc)

pub entry_named : (m : Module) (uses : ℕ → Use) (a : Activation) (args : List Value)
    → a.values ≡ entry_values (function_at m a.func) args → AreMarkersNamed m uses a
entry_named m uses a args e v b made marked leads =
    absurd (no_block (value_in a.values v) b
    (ap (λ (env : Env). value_in env v) e ∙ entry_poison (function_at m a.func) args v made) leads)

-- ---- parts of states

module _ (m : Module) (uses : ℕ → Use) where
  abbrev Fine : Result State Cause → Type 0
  Fine r = StaysNamed m uses r

  abbrev pub On : State → Type 0
  On t = AreMarkersNamedOn m uses (t.top ∷ t.below)

  abbrev pub IsFreeFor : ℕ → Option ℕ → Type 0
  IsFreeFor func result = IsGivenApart (function_at m func) result

  pub then_fine : {A : Type 0} (r : Result A Cause) (go : A → Result State Cause) → ((a : A) → r ≡ Ok a → Fine (go a))
      → Fine (and_then r go)
  then_fine (Err cause) go k = tt
  then_fine (Ok a) go k = k a refl

  pub ok_fine : (b : Bool) (cause : Cause) (t : State) → On t → Fine (ok_if b cause t)
  ok_fine true cause t k = k
  ok_fine false cause t k = tt

  -- names of allocas have the values that they had
  pub same_named : (a c : Activation) → c.func ≡ a.func
      → ((v : ℕ) → IsMadeOnce (function_at m a.func) v → value_in c.values v ≡ value_in a.values v)
      → AreMarkersNamed m uses a → AreMarkersNamed m uses c
  same_named a c func same h v b made marked leads =
      let here : IsMadeOnce (function_at m a.func) v = subst (λ (k : ℕ). IsMadeOnce (function_at m k) v) func made in
      h v b here (ap (λ (k : ℕ). has_markers (function_at m k) v) (sym func) ∙ marked)
      (ap block_of (sym (same v here)) ∙ leads)

  set_result : (a : Activation) (result : Option ℕ) (x : Value) → IsFreeFor a.func result → AreMarkersNamed m uses a
      → AreMarkersNamed m uses (record a { values = with_result a.values result x })
  set_result a result x free h =
      same_named a (record a { values = with_result a.values result x }) refl
      (λ v made. result_elsewhere a.values result v x (free v made)) h

  pub gave : (t : State) (result : Option ℕ) (v : Value) → IsFreeFor t.top.func result → On t → On (gives t result v)
  gave t result v free n = (set_result t.top result v free n.0, n.1)

  pub none_free : (func : ℕ) → IsFreeFor func None
  none_free func v made e = absurd (cc)

  pub same_top : (s t : State) → t.top ≡ s.top → t.below ≡ s.below → On s → On t
  same_top s t top below n =
      (subst (AreMarkersNamed m uses) (sym top) n.0, subst (AreMarkersNamedOn m uses) (sym below) n.1)

  pub sleeper_fine : (t : State) (p : Value) (go : Sleeper → Result State Cause) → ((y : Sleeper) → Fine (go y))
      → Fine (and_then (sleeper_at t p) go)
  sleeper_fine t p go k = on (instance_at t.instances p)
    where
      by : (i : ℕ) (x : Instance) (st : Status) → Fine (and_then (sleeper_of i x st) go)
      by i x Status.Running = tt
      by i x (Status.Suspended at vs) = k (record { number = i; instance = x; suspend = at; values = vs })
      by i x Status.Finished = tt

      on : (o : Option (ℕ × Instance))
          → Fine (and_then (and_then (found Cause.Frame o) (λ (i, x). sleeper_of i x x.status)) go)
      on None = tt
      on (Some z) = by z.0 z.1 z.1.status

  pub save_fine : (t : State) (p u : Point) (go : State → Result State Cause) → On t
      → ((v : State) → v.top.func ≡ t.top.func → On v → Fine (go v)) → Fine (and_then (save_for t p u) go)
  save_fine t p u go n then' = on (own_instance t)
    where
      by : (q : ℕ × Instance) (b : Bool)
          → Fine (and_then (ok_if b Cause.State (with_left (with_instance t q.0 (record q.1 {
            status = Status.Suspended u t.top.values;
            last_save = Some (record { depth = length t.below; save = p });
          })) true)) go)
      by q false = tt
      by q true = then' (with_left (with_instance t q.0 (record q.1 {
        status = Status.Suspended u t.top.values;
        last_save = Some (record { depth = length t.below; save = p });
      })) true) refl (n.0, n.1)

      on : (o : Option (ℕ × Instance))
          → Fine (and_then (and_then (found Cause.State o) (λ (i, x).
          ok_if (not x.freed) Cause.State
          (with_left
          (with_instance t i (record x {
            status = Status.Suspended u t.top.values;
            last_save = Some (record { depth = length t.below; save = p });
          })) true))) go)
      on None = tt
      on (Some q) = by q (not q.1.freed)

  pub suspend_fine : (t : State) (result : Option ℕ) (of_save : Operand) → IsFreeFor t.top.func result → On t
      → Fine (suspend t result of_save)
  suspend_fine t result Operand.None free n = save_fine t (point_of t) (point_of t) _ n (λ v same c.
      gave v result (integer 8 (negsuc 0)) (subst (λ (k : ℕ). IsFreeFor k result) (sym same) free) c)
  suspend_fine t result _ free n = gave t result (integer 8 (negsuc 0)) free n

  pub freed_fine : (t : State) (p : Value) → On t → Fine (deallocate t p)
  freed_fine t p n = on (if_let_go t (instance_at t.instances p)) (goes (instance_at t.instances p))
    where
      goes : (o : Option (ℕ × Instance)) → On (if_let_go t o)
      goes None = n
      goes (Some q) = by (may_be_freed q.1)
        where
          by : (b : Bool) → On (if b then let_go t q.0 q.1 else t)
          by true = (n.0, n.1)
          by false = n

      on : (v : State) → On v
          → Fine (and_then (deallocated v.world.memory p) (λ memory. Ok (next (with_memory v memory))))
      on v c = then_fine (deallocated v.world.memory p) (λ memory. Ok (next (with_memory v memory))) (λ memory e.
          gave (with_memory v memory) None Value.Poison (none_free v.top.func) c)

  -- ---- returns

  pub return_fine : (t : State) (v : Option Value) → On t → AreGivenApart m t.top.result t.below → Fine (return t v)
  return_fine t v k c = by t.below k.1 c
    where
      by : (below : List Activation) → AreMarkersNamedOn m uses below → AreGivenApart m t.top.result below
          → Fine (pop (returned t) v below)
      by [] q c = then_fine (outcome_of v) (λ outcome. Ok (record (returned t) { outcome = outcome }))
          (λ outcome e. (k.0, k.1))
      by (a ∷ below) q c = (set_result a t.top.result (unwrap_or v Value.Poison) c.0 q.0, q.1)

  pub after_fine : (t : State) (result : Option ℕ) (mode : Mode) → AreGivenApart m t.top.result t.below
      → IsFreeFor t.top.func result → On t → Fine (after_end t result mode)
  after_fine t result Mode.Resumed c free n = return_fine t None n c
  after_fine t result _ c free n = gave t result (truth_value false) free n

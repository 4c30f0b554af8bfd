-- What parts of a step do keeps it that names of slots before begin lead to them.
use Rattle.std.proofs.Common.{◌≡◌, ℕ, ◌+◌, Bool, true, false, List, [], ◌∷◌}
use Rattle.std.proofs.Common.{length, Option, Some, None}
use Rattle.std.proofs.Common.{Result, Ok, Err, refl, sym, ◌∙◌, subst, if◌then◌else◌}
use Rattle.std.proofs.lemmas.Bool.{false≢true}
use Rattle.std.specs.Prelude.{negsuc, not, unwrap_or}
use Rattle.pass_frames_proof.specs.ir_base.declared.cause.Cause.{Cause}
use Rattle.pass_frames_proof.specs.ir_model.Names.{function_at}
use Rattle.pass_frames_proof.specs.ir_model.declared.instr.Instr.{Instr}
use Rattle.pass_frames_proof.specs.ir_model.declared.instr.Terminator.{Terminator}
use Rattle.pass_frames_proof.specs.ir_model.declared.module.Function.{Function}
use Rattle.pass_frames_proof.specs.ir_model.declared.module.Module.{Module}
use Rattle.pass_frames_proof.specs.ir_model.declared.operand.Callee.{Callee}
use Rattle.pass_frames_proof.specs.ir_model.declared.operand.Intrinsic.{Intrinsic}
use Rattle.pass_frames_proof.specs.ir_model.declared.operand.Operand.{Operand}
use Rattle.pass_frames_proof.specs.ir_parts.Contents.{result_of}
use Rattle.pass_frames_proof.specs.ir_paths.declared.point.Point.{Point}
use Rattle.pass_frames_meaning.proofs.called.Voids.{void_intrinsic}
use Rattle.pass_frames_meaning.specs.Called.{AreBehindCalls, IsBehindCall, IsCalling}
use Rattle.pass_frames_meaning.specs.Owned.{AreGivenApart}
use Rattle.pass_frames_meaning.proofs.executed.Executed.{not_made_by, over}
use Rattle.pass_frames_meaning.specs.Owned.{AreOwnedOn, IsOwnedIn, IsOwnedState}
use Rattle.pass_frames_meaning.specs.Owned.{StaysOwned}
use Rattle.pass_frames_proof.proofs.pass_kept_proof.Actions.{SameAction, action_same}
use Rattle.pass_frames_proof.proofs.pass_kept_proof.Same.{same_all}
use Rattle.pass_frames_proof.specs.pass_kept_proof.Needed.{BranchesTo}
use Rattle.pass_frames_proof.proofs.pass_renewed_proof.Sets.{result_elsewhere}
use Rattle.pass_frames_proof.specs.pass_renewed_proof.SlotRules.{IsMadeOnce}
use Rattle.pass_frames_proof.specs.run_memory.declared.pointer.Value.{Value}
use Rattle.pass_frames_proof.specs.run_source.Source.{Sleeper, after_end, deallocate}
use Rattle.pass_frames_proof.specs.run_source.Source.{if_let_go, let_go}
use Rattle.pass_frames_proof.specs.run_source.Source.{may_be_freed, pop}
use Rattle.pass_frames_proof.specs.run_source.Source.{return, returned, save_for, sleeper_at, sleeper_of}
use Rattle.pass_frames_proof.specs.run_source.Source.{suspend}
use Rattle.pass_frames_proof.specs.run_source.State.{gives, instance_at, next}
use Rattle.pass_frames_proof.specs.run_source.State.{own_instance, point_of}
use Rattle.pass_frames_proof.specs.run_source.State.{with_instance, with_left, with_memory}
use Rattle.pass_frames_proof.specs.run_source.declared.state.Activation.{Activation}
use Rattle.pass_frames_proof.specs.run_source.declared.state.Instance.{Instance}
use Rattle.pass_frames_proof.specs.run_source.declared.state.Mode.{Mode}
use Rattle.pass_frames_proof.specs.run_source.declared.state.State.{State}
use Rattle.pass_frames_proof.specs.run_source.declared.state.Status.{Status}
use Rattle.pass_frames_proof.proofs.run_laws.transfer.Sets.{set_length}
use Rattle.pass_frames_proof.proofs.run_states.sound_states.Fits.{result_length}
use Rattle.pass_frames_proof.specs.run_step.Results.{and_then, found, ok_if}
use Rattle.pass_frames_proof.specs.run_step.Step.{Action, AtInstr, AtTerm, Context}
use Rattle.pass_frames_proof.specs.run_step.Step.{GoTo}
use Rattle.pass_frames_proof.specs.run_step.Step.{Work, deallocated}
use Rattle.pass_frames_proof.specs.run_step.Step.{fetch}
use Rattle.pass_frames_proof.specs.run_step.Step.{outcome_of}
use Rattle.pass_frames_proof.specs.run_step.Step.{term_action}
use Rattle.pass_frames_proof.specs.run_step.Step.{with_all}
use Rattle.pass_frames_proof.specs.run_step.Values.{Env, integer, truth_value}
use Rattle.pass_frames_proof.specs.run_step.Values.{with_result}
use Rattle.pass_frames_proof.specs.run_step.Values.{with_value}
use Rattle.pass_renewed_meaning.specs.run_types.Rules.{KeepsAllTypes, KeepsTypes}

pub all_length : (env : Env) (ps : List (ℕ × Value)) → length (with_all env ps) ≡ length env
all_length env [] = refl
all_length env (p ∷ ps) = all_length (with_value env p.0 p.1) ps ∙ set_length env p.0 p.1

-- a terminator goes to a label to which it has an edge
pub goes_there : (c : Context) (w : Work) (t : Terminator) (label : ℕ) → term_action c w t ≡ GoTo label
    → BranchesTo label (AtTerm t)
goes_there c w t label e =
    (subst (λ (a : Action). SameAction c.code (λ v. Unit {0}) (AtTerm t) w.values w.values a a) e
    (action_same c w.world w.values w.values (λ v. Unit {0}) (λ v. Unit {0}) (same_all _ w.values) (AtTerm t)
    (λ v q. tt) (λ v q p. tt))).1

-- ---- parts of states

module _ (m : Module) (counts : ℕ → Bool) where
  abbrev Fine : Result State Cause → Type 0
  Fine r = StaysOwned m counts r

  -- the activation goes on behind its instruction, with the values that it has
  abbrev pub NextIn : Activation → Type 0
  NextIn a = IsOwnedIn m counts (record a { at = a.at + 1 })

  abbrev pub Next : State → Type 0
  Next t = NextIn t.top × AreOwnedOn m counts t.below

  -- a result is given to no name of an alloca
  abbrev pub IsFreeFor : ℕ → Option ℕ → Type 0
  IsFreeFor func result = (v : ℕ) → IsMadeOnce (function_at m func) v → result ≡ Some v → ⊥

  pub then_fine : {A : Type 0} (r : Result A Cause) (go : A → Result State Cause) → ((a : A) → r ≡ Ok a → Fine (go a))
      → Fine (and_then r go)
  then_fine (Err cause) go k = tt
  then_fine (Ok a) go k = k a refl

  pub ok_fine : (b : Bool) (cause : Cause) (t : State) → IsOwnedState m counts t → Fine (ok_if b cause t)
  ok_fine true cause t k = k
  ok_fine false cause t k = tt

  set_result : (a : Activation) (result : Option ℕ) (x : Value) → IsFreeFor a.func result → IsOwnedIn m counts a
      → IsOwnedIn m counts (record a { values = with_result a.values result x })
  set_result a result x free h c first none =
      let q = h c first none in
      record {
        wide = result_length a.values result x ∙ q.wide;
        each = λ slot l.
            let z = q.each slot l in
            record {
              made = z.made;
              passed = z.passed;
              leads = result_elsewhere a.values result slot.alloca x (free slot.alloca z.made) ∙ z.leads;
            };
      }

  pub gave : (t : State) (result : Option ℕ) (v : Value) → IsFreeFor t.top.func result → Next t
      → IsOwnedState m counts (gives t result v)
  gave t result v free n = λ running. (set_result (record t.top { at = t.top.at + 1 }) result v free n.0, n.1)

  pub none_free : (func : ℕ) → IsFreeFor func None
  none_free func v made e = absurd (cc)

  pub same_top : (s t : State) → t.top ≡ s.top → t.below ≡ s.below → Next s → Next t
  same_top s t top below n = (subst NextIn (sym top) n.0, subst (AreOwnedOn m counts) (sym below) n.1)

  pub sleeper_fine : (t : State) (p : Value) (go : Sleeper → Result State Cause) → ((y : Sleeper) → Fine (go y))
      → Fine (and_then (sleeper_at t p) go)
  sleeper_fine t p go k = on (instance_at t.instances p)
    where
      by : (i : ℕ) (x : Instance) (st : Status) → Fine (and_then (sleeper_of i x st) go)
      by i x Status.Running = tt
      by i x (Status.Suspended at vs) = k (record { number = i; instance = x; suspend = at; values = vs })
      by i x Status.Finished = tt

      on : (o : Option (ℕ × Instance))
          → Fine (and_then (and_then (found Cause.Frame o) (λ (i, x). sleeper_of i x x.status)) go)
      on None = tt
      on (Some z) = by z.0 z.1 z.1.status

  pub save_fine : (t : State) (p u : Point) (go : State → Result State Cause) → Next t
      → ((v : State) → v.top.func ≡ t.top.func → Next v → Fine (go v)) → Fine (and_then (save_for t p u) go)
  save_fine t p u go n then' = on (own_instance t)
    where
      by : (q : ℕ × Instance) (b : Bool)
          → Fine (and_then (ok_if b Cause.State (with_left (with_instance t q.0 (record q.1 {
            status = Status.Suspended u t.top.values;
            last_save = Some (record { depth = length t.below; save = p });
          })) true)) go)
      by q false = tt
      by q true = then' (with_left (with_instance t q.0 (record q.1 {
        status = Status.Suspended u t.top.values;
        last_save = Some (record { depth = length t.below; save = p });
      })) true) refl (n.0, n.1)

      on : (o : Option (ℕ × Instance))
          → Fine (and_then (and_then (found Cause.State o) (λ (i, x).
          ok_if (not x.freed) Cause.State
          (with_left
          (with_instance t i (record x {
            status = Status.Suspended u t.top.values;
            last_save = Some (record { depth = length t.below; save = p });
          })) true))) go)
      on None = tt
      on (Some q) = by q (not q.1.freed)

  pub suspend_fine : (t : State) (result : Option ℕ) (of_save : Operand) → IsFreeFor t.top.func result → Next t
      → Fine (suspend t result of_save)
  suspend_fine t result Operand.None free n = save_fine t (point_of t) (point_of t) _ n (λ v same c.
      gave v result (integer 8 (negsuc 0)) (subst (λ (k : ℕ). IsFreeFor k result) (sym same) free) c)
  suspend_fine t result _ free n = gave t result (integer 8 (negsuc 0)) free n

  pub freed_fine : (t : State) (p : Value) → Next t → Fine (deallocate t p)
  freed_fine t p n = on (if_let_go t (instance_at t.instances p)) (goes (instance_at t.instances p))
    where
      goes : (o : Option (ℕ × Instance)) → Next (if_let_go t o)
      goes None = n
      goes (Some q) = by (may_be_freed q.1)
        where
          by : (b : Bool) → Next (if b then let_go t q.0 q.1 else t)
          by true = (n.0, n.1)
          by false = n

      on : (v : State) → Next v
          → Fine (and_then (deallocated v.world.memory p) (λ memory. Ok (next (with_memory v memory))))
      on v c = then_fine (deallocated v.world.memory p) (λ memory. Ok (next (with_memory v memory))) (λ memory e.
          gave (with_memory v memory) None Value.Poison (none_free v.top.func) c)

  -- ---- returns

  -- the name that a return sets
  returned_free : (f : Function) → KeepsTypes m f → (func : ℕ) → function_at m func ≡ f → (a : Activation)
      (result : Option ℕ) → IsBehindCall f a result → IsFreeFor func result
  returned_free f types func is a result c v made e = by c.call c.there c.calls c.gives
    where
      one : IsMadeOnce f v
      one = subst (λ (z : Function). IsMadeOnce z v) is made

      none : Some v ≡ None → ⊥
      none d = absurd (cc)

      by : (i : Instr) → fetch f a.block c.at ≡ AtInstr i → IsCalling i → result_of i ≡ result → ⊥
      by (Instr.Call r must_tail ty (Callee.Named n) args) stands calls gives =
          not_made_by f a.block c.at (Instr.Call r must_tail ty (Callee.Named n) args) stands
          (λ d. false≢true d) v one (gives ∙ e)
      by (Instr.Call r must_tail ty (Callee.Local n) args) stands calls gives =
          not_made_by f a.block c.at (Instr.Call r must_tail ty (Callee.Local n) args) stands
          (λ d. false≢true d) v one (gives ∙ e)
      by (Instr.Call r must_tail ty (Callee.Intrinsic Intrinsic.CoroResume) args) stands calls gives =
          none (sym e ∙ sym gives
          ∙ void_intrinsic m f types a.block c.at r must_tail ty Intrinsic.CoroResume args stands refl)
      by (Instr.Call r must_tail ty (Callee.Intrinsic Intrinsic.CoroDestroy) args) stands calls gives =
          none (sym e ∙ sym gives
          ∙ void_intrinsic m f types a.block c.at r must_tail ty Intrinsic.CoroDestroy args stands refl)
      by _ stands calls gives = absurd calls

  -- so are those of activations that are right behind their calls
  pub calls_apart : KeepsAllTypes m → (result : Option ℕ) (below : List Activation) → AreBehindCalls m result below
      → AreGivenApart m result below
  calls_apart types result [] c = tt
  calls_apart types result (a ∷ below) c = (
    returned_free (function_at m a.func) (types a.func) a.func refl a result c.0,
    calls_apart types a.result below c.1,
  )

  pub return_fine : (t : State) (v : Option Value) → AreOwnedOn m counts t.below
      → AreGivenApart m t.top.result t.below → Fine (return t v)
  return_fine t v k c = by t.below k c
    where
      by : (below : List Activation) → AreOwnedOn m counts below → AreGivenApart m t.top.result below
          → Fine (pop (returned t) v below)
      by [] q c = then_fine (outcome_of v) (λ outcome. Ok (record (returned t) { outcome = outcome }))
          (λ outcome e running. absurd (over v outcome e running))
      by (a ∷ below) q c = λ running. (set_result a t.top.result (unwrap_or v Value.Poison) c.0 q.0, q.1)

  pub after_fine : (t : State) (result : Option ℕ) (mode : Mode) → AreGivenApart m t.top.result t.below
      → IsFreeFor t.top.func result → Next t → Fine (after_end t result mode)
  after_fine t result Mode.Resumed c free n = return_fine t None n.1 c
  after_fine t result _ c free n = gave t result (truth_value false) free n

-- So does a resume or destroy, if the instance is Suspended.
use Rattle.std.proofs.Common.{◌≡◌, ℕ, Bool, true, false, List, Option, Some, None, Result, refl, sym, ap, ◌∙◌, subst}
use Rattle.std.specs.Prelude.{slice_get}
use Rattle.pass_renewed_proof.specs.ir_base.declared.cause.Cause.{Cause}
use Rattle.pass_renewed_proof.specs.ir_model.Names.{function_at}
use Rattle.pass_renewed_proof.specs.ir_model.declared.instr.Instr.{Instr}
use Rattle.pass_renewed_proof.specs.ir_model.declared.module.Function.{Function}
use Rattle.pass_renewed_proof.specs.ir_model.declared.module.Module.{Module}
use Rattle.pass_renewed_proof.specs.ir_model.declared.operand.Intrinsic.{Intrinsic}
use Rattle.pass_renewed_proof.specs.ir_paths.Windows.{is_call_of}
use Rattle.pass_renewed_proof.specs.ir_paths.declared.point.Point.{Point}
use Rattle.pass_renewed_proof.specs.pass_kept_proof.Needed.{BranchesTo}
use Rattle.pass_renewed_proof.specs.pass_kept_proof.Related.{IsSuspendedAt, IsSoundStatus}
use Rattle.pass_renewed_proof.specs.pass_kept_proof.SuspendRules.{IsSwitched}
use Rattle.run_hooks.proofs.Reached.{at_is, sound_get}
use Rattle.run_hooks.proofs.alive.Order.{all_left}
use Rattle.run_hooks.proofs.alive.Places.{placed}
use Rattle.run_hooks.proofs.alive.Resumes.{resumed_alive}
use Rattle.run_hooks.specs.Away.{point_in}
use Rattle.run_hooks.specs.alive.Alive.{IsAliveState, StaysAlive, handing}
use Rattle.pass_renewed_proof.specs.run_memory.Memory.{own}
use Rattle.pass_renewed_proof.specs.run_memory.declared.pointer.Value.{Value}
use Rattle.pass_renewed_proof.specs.run_source.Source.{Sleeper, sleeper_at, sleeper_of, suspend}
use Rattle.pass_renewed_proof.specs.run_source.State.{function_of, instance_at, is_suspended, next, own_facts}
use Rattle.pass_renewed_proof.specs.run_source.declared.state.Instance.{Instance}
use Rattle.pass_renewed_proof.specs.run_source.declared.state.State.{State}
use Rattle.pass_renewed_proof.specs.run_source.declared.state.Status.{Status}
use Rattle.pass_renewed_proof.specs.run_source_tables.Given.{Given, facts_at}
use Rattle.pass_renewed_proof.specs.run_step.Results.{and_then, found, ok_if}
use Rattle.pass_renewed_proof.specs.run_step.Step.{AtInstr, AtTerm, Fetched, alloca, block_of, fetch, label_of}
use Rattle.pass_renewed_proof.specs.run_step.Values.{Env}
use Rattle.run_hooks.proofs.alive.Now.{IsNow, next_here}

module _ {g : Given} {counts : ℕ → ℕ → Bool} {hand : ℕ → Point → Env → Env} {s : State}
    (start : IsNow g counts hand s) where
  abbrev m : Module
  m = g.code

  abbrev f : Function
  f = function_of g s

  abbrev p : Point
  p = point_in s.top

  abbrev here : Fetched
  here = fetch f s.top.block s.top.at

  abbrev ramp : List ℕ
  ramp = (own_facts g s).ramp_slots

  abbrev h : IsAliveState g.code counts s
  h = start.alive

  abbrev Fine : Result State Cause → Type 0
  Fine r = StaysAlive g.code counts r

  module _ (i : Instr) (stands : here ≡ AtInstr i) where
    -- ---- a resume or destroy

    module _ (no_end : is_call_of Intrinsic.CoroEnd i ≡ false) (no_mark : is_call_of Intrinsic.LifetimeEnd i ≡ false)
      where
        waits : IsAliveState m counts (next s)
        waits = (next_here start i stands) no_end no_mark

        -- an instance that is Suspended goes on at a label of its switch
        pub going : (n : ℕ) (x : Instance) → slice_get s.instances n ≡ Some x → (u : Point) (values : Env)
            → x.status ≡ Status.Suspended u values → IsSuspendedAt g x.coroutine u → (label : ℕ)
            → ((w : IsSwitched (function_at m x.coroutine) u) → BranchesTo label (AtTerm w.term))
            → IsAliveState m counts ((handing g hand).go_on s n x u values label)
        going n x there u values status sound label branches =
            let w : IsSwitched (function_at m x.coroutine) u = (start.ok x.coroutine).switched u sound.1 in
            resumed_alive m counts (next s) waits n x there u values status
            (all_left (handing g hand) refl start.places s start.reached start.last start.placed n x there
            (ap is_suspended status))
            (facts_at g.facts x.coroutine).ramp_slots (start.rules x.coroutine) sound.1 w.term w.stands label
            (subst (BranchesTo label) (sym w.stands) (branches w)) (hand x.coroutine u values)
            (λ v b made e. start.hands.kept x.coroutine u values v b e)
            (λ slot own counted e.
            ap block_of (start.hands.handed x.coroutine u values slot.alloca sound.1 own.made counted) ∙ e)
            (label_of (slice_get (function_at m x.coroutine).blocks u.block))

        pub sleeping : (v : Value) (goes : Sleeper → Result State Cause)
            → ((n : ℕ) (x : Instance) (u : Point) (values : Env) → slice_get s.instances n ≡ Some x
            → x.status ≡ Status.Suspended u values → IsSuspendedAt g x.coroutine u
            → Fine (goes (record { number = n; instance = x; suspend = u; values = values })))
            → Fine (and_then (sleeper_at s v) goes)
        sleeping v goes k = on (instance_at s.instances v) (λ j x e. at_is s.instances v j x e)
          where
            by : (n : ℕ) (x : Instance) → slice_get s.instances n ≡ Some x → (st : Status) → x.status ≡ st
                → Fine (and_then (sleeper_of n x st) goes)
            by n x e Status.Running es = tt
            by n x e (Status.Suspended u values) es = k n x u values e es
                (subst (IsSoundStatus g x.coroutine) es (sound_get g s.instances n x start.reached.instances e))
            by n x e Status.Finished es = tt

            on : (o : Option (ℕ × Instance)) → ((j : ℕ) (x : Instance) → o ≡ Some (j, x) → slice_get s.instances j
                ≡ Some x)
                → Fine (and_then (and_then (found Cause.Frame o) (λ (n, x). sleeper_of n x x.status)) goes)
            on None is = tt
            on (Some q) is = by q.0 q.1 (is q.0 q.1 refl) q.1.status refl

        pub if_fine : (b : Bool) (t : State) → IsAliveState m counts t → Fine (ok_if b Cause.State t)
        if_fine true t k = k
        if_fine false t k = tt

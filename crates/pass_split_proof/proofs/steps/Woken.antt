-- A resume or destroy of the framed run that isn't undefined goes on with a Suspended instance.
use Rattle.std.proofs.Common.{◌≡◌, ℕ, Bool, true, false, not, List, Option, None, Some, Result, Ok, refl, sym, ap, ◌∙◌}
use Rattle.std.specs.Prelude.{slice_get, option_and_then, option_map, ◌==◌}
use Rattle.std.proofs.lemmas.Bool.{and_parts, eqb-true}
use Rattle.pass_proofs.specs.ir_base.declared.cause.Cause.{Cause}
use Rattle.pass_proofs.specs.ir_model.Names.{function_at}
use Rattle.pass_proofs.specs.ir_paths.Windows.{destroy_label, resume_label}
use Rattle.pass_proofs.specs.ir_paths.declared.point.Point.{Point}
use Rattle.pass_split_proof.proofs.states.Judged.{numbering}
use Rattle.pass_split_proof.specs.steps.Woken.{IsWoken}
use Rattle.pass_proofs.specs.run_framed.Framed.{FramedGiven, continue_framed}
use Rattle.pass_proofs.proofs.run_laws.memory.Written.{same_some}
use Rattle.pass_proofs.specs.run_memory.declared.pointer.Offset.{Offset}
use Rattle.pass_proofs.specs.run_memory.declared.pointer.Pointer.{Pointer}
use Rattle.pass_proofs.specs.run_memory.declared.pointer.Value.{Value}
use Rattle.pass_proofs.proofs.run_source.Indexes.{last-passes}
use Rattle.pass_proofs.specs.run_source.Source.{Sleeper, destroy, resume, sleeper_of}
use Rattle.pass_proofs.specs.run_source.State.{began_at, frame_address_of, instance_at, last_from, last_where, numbered}
use Rattle.pass_proofs.specs.run_source.declared.state.Instance.{Instance}
use Rattle.pass_proofs.specs.run_source.declared.state.State.{State}
use Rattle.pass_proofs.specs.run_source.declared.state.Status.{Status}
use Rattle.pass_proofs.specs.run_source_tables.Given.{is_final}
use Rattle.pass_proofs.specs.run_step.Results.{and_then, found, ok_if}
use Rattle.pass_proofs.specs.run_step.Values.{Env}

-- ---- the instance at an address

pub found_there : (xs : List Instance) (test : Instance → Bool) (i : ℕ) (x : Instance)
    → last_where test xs ≡ Some (numbering i x) → (last_from test 0 xs ≡ Some i) × (slice_get xs i ≡ Some x)
found_there xs test i x e = on (last_from test 0 xs) refl e
  where
    pair : (k : ℕ) (o : Option Instance) → slice_get xs k ≡ o
        → option_map (numbering k) o ≡ Some (numbering i x) → (k ≡ i) × (slice_get xs i ≡ Some x)
    pair k None f h = absurd (cc)
    pair k (Some y) f h =
        let p : numbering k y ≡ numbering i x = same_some (numbering k y) (numbering i x) h in (
          ap (λ (q : ℕ × Instance). q.0) p,
          ap (slice_get xs) (sym (ap (λ (q : ℕ × Instance). q.0) p)) ∙ f ∙ ap (λ (q : ℕ × Instance). Some q.1) p,
        )

    on : (o : Option ℕ) → last_from test 0 xs ≡ o → option_and_then (numbered xs) o ≡ Some (numbering i x)
        → (last_from test 0 xs ≡ Some i) × (slice_get xs i ≡ Some x)
    on None f h = absurd (cc)
    on (Some k) f h = let q = pair k (slice_get xs k) refl h in (f ∙ ap Some q.0, q.1)

pub instance_found : (xs : List Instance) (p : Value) (i : ℕ) (x : Instance) → instance_at xs p ≡ Some (numbering i x)
    → (slice_get xs i ≡ Some x) × (p ≡ frame_address_of x)
instance_found xs (Value.Ptr (Pointer.At b o)) i x e =
    let q = found_there xs (began_at b o.bits) i x e in
    (q.1, address b o (last-passes (began_at b o.bits) xs (Some i) (sym q.0) x q.1))
  where
    address : (b : ℕ) (o : Offset) → began_at b o.bits x ≡ true → Value.Ptr (Pointer.At b o) ≡ frame_address_of x
    address b o e =
        let c = and_parts (x.block == b) (x.start == o.bits) e in
        let block : x.block ≡ b = eqb-true x.block b c.0 in
        let start : x.start ≡ o.bits = eqb-true x.start o.bits c.1 in
        ap (λ (q : ℕ × ℕ). Value.Ptr (Pointer.At q.0 (record { bits = q.1 }))) (λ i. (sym block i, sym start i))
instance_found xs _ i x e = absurd (cc)

-- ---- what goes on

module _ (g : FramedGiven) (s u : State) (p : Value) where
  -- the run goes on at a label of the suspend's function
  abbrev GoesOnAt : (ℕ → Point → ℕ) → Type 0
  GoesOnAt label = (w : IsWoken s p) × (u ≡ continue_framed g s w.number w.instance w.suspend w.values
      (label w.instance.coroutine w.suspend))

  ok_same : (r : Result State Cause) (a b : State) → r ≡ Ok a → r ≡ Ok b → a ≡ b
  ok_same r a b e h = cc

  woken : (i : ℕ) (x : Instance) (suspend : Point) (values : Env) → instance_at s.instances p ≡ Some (numbering i x)
      → x.status ≡ Status.Suspended suspend values → IsWoken s p
  woken i x suspend values f e =
      let q = instance_found s.instances p i x f in
      record {
        number = i;
        instance = x;
        suspend = suspend;
        values = values;
        there = q.0;
        address = q.1;
        status = e;
      }

  -- ---- a destroy

  abbrev destroyed : Sleeper → Result State Cause
  destroyed y = Ok (continue_framed g s y.number y.instance y.suspend y.values
      (destroy_label (function_at g.given.code y.instance.coroutine) y.suspend))

  abbrev DestroyGoes : Type 0
  DestroyGoes = GoesOnAt (λ func suspend. destroy_label (function_at g.given.code func) suspend)

  destroy_by : (i : ℕ) (x : Instance) → instance_at s.instances p ≡ Some (numbering i x) → (status : Status)
      → x.status ≡ status → and_then (sleeper_of i x status) destroyed ≡ Ok u → DestroyGoes
  unfolding woken
  destroy_by i x f Status.Running e h = absurd (cc)
  destroy_by i x f (Status.Suspended suspend values) e h = (
    woken i x suspend values f e,
    ok_same (Ok u) u _ refl (sym h),
  )
  destroy_by i x f Status.Finished e h = absurd (cc)

  pub destroy_goes : destroy g.given (continue_framed g) s p ≡ Ok u → DestroyGoes
  destroy_goes h = on (instance_at s.instances p) refl h
    where
      on : (o : Option (ℕ × Instance)) → instance_at s.instances p ≡ o
          → and_then (and_then (found Cause.Frame o) (λ (q : ℕ × Instance). sleeper_of q.0 q.1 q.1.status)) destroyed
          ≡ Ok u → DestroyGoes
      on None f h = absurd (cc)
      on (Some q) f h = destroy_by q.0 q.1 f q.1.status refl h

  -- ---- a resume, which goes on at no final suspend

  abbrev goes_resumed : Sleeper → State
  goes_resumed y = continue_framed g s y.number y.instance y.suspend y.values
      (resume_label (function_at g.given.code y.instance.coroutine) y.suspend)

  abbrev resumed : Sleeper → Result State Cause
  resumed y = ok_if (not (is_final (function_at g.given.code y.instance.coroutine) y.suspend)) Cause.State
      (goes_resumed y)

  abbrev ResumeGoes : Type 0
  ResumeGoes = (w : IsWoken s p) × ((is_final (function_at g.given.code w.instance.coroutine) w.suspend ≡ false)
      × (u ≡ continue_framed g s w.number w.instance w.suspend w.values
      (resume_label (function_at g.given.code w.instance.coroutine) w.suspend)))

  resume_by : (i : ℕ) (x : Instance) → instance_at s.instances p ≡ Some (numbering i x) → (status : Status)
      → x.status ≡ status → and_then (sleeper_of i x status) resumed ≡ Ok u → ResumeGoes
  unfolding woken
  resume_by i x f Status.Running e h = absurd (cc)
  resume_by i x f (Status.Suspended suspend values) e h
      = by_final (is_final (function_at g.given.code x.coroutine) suspend) refl h
    where
      by_final : (b : Bool) → is_final (function_at g.given.code x.coroutine) suspend ≡ b
          → ok_if (not b) Cause.State (continue_framed g s i x suspend values
          (resume_label (function_at g.given.code x.coroutine) suspend)) ≡ Ok u → ResumeGoes
      by_final true final h = absurd (cc)
      by_final false final h = (woken i x suspend values f e, (final, ok_same (Ok u) u _ refl (sym h)))
  resume_by i x f Status.Finished e h = absurd (cc)

  pub resume_goes : resume g.given (continue_framed g) s p ≡ Ok u → ResumeGoes
  resume_goes h = on (instance_at s.instances p) refl h
    where
      on : (o : Option (ℕ × Instance)) → instance_at s.instances p ≡ o
          → and_then (and_then (found Cause.Frame o) (λ (q : ℕ × Instance). sleeper_of q.0 q.1 q.1.status)) resumed
          ≡ Ok u → ResumeGoes
      on None f h = absurd (cc)
      on (Some q) f h = resume_by q.0 q.1 f q.1.status refl h

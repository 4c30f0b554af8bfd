-- A resume or a destroy that isn't undefined enters the same coroutine in both runs.
use Rattle.std.proofs.Common.{◌≡◌, ◌∙◌, ◌∷◌, ap, Bool, Err, false, ⊎_elim, not, Ok, Option, refl, Result, subst, sym, true, ℕ}
use Rattle.std.specs.Prelude.{None, Some, slice_get}
use Rattle.pass_elide.specs.declared.given.GivenFrame.{GivenFrame}
use Rattle.pass_elide_proof.proofs.Callers.{ours, read_stands, theirs}
use Rattle.pass_elide_proof.proofs.Entered.{goes_on, woken, woken_beside, woken_holds}
use Rattle.pass_elide_proof.proofs.LastOnes.{is_found}
use Rattle.pass_elide_proof.proofs.Modules.{finds_alike}
use Rattle.pass_elide_proof.proofs.Sized.{stepped}
use Rattle.pass_elide_proof.proofs.Sleepers.{found_too, frames_stand}
use Rattle.pass_elide_proof.proofs.Statuses.{goes_beside, now}
use Rattle.pass_elide_proof.proofs.Unelided.{function_same, own_same}
use Rattle.pass_elide_proof.specs.Calling.{AreReady, at_front}
use Rattle.pass_elide_proof.specs.Elision.{Elision, elided, elided_code, framed, function_in, rooms}
use Rattle.pass_elide_proof.specs.Match.{AreElided, AreInstances, AreStatuses, Ends, Runs, Sleeps, own_point}
use Rattle.pass_elide_proof.specs.Places.{elided_instr, name_at}
use Rattle.pass_elide_proof.specs.Waking.{IsAtWaking}
use Rattle.pass_proofs.specs.ir_base.declared.cause.Cause.{Cause}
use Rattle.pass_proofs.specs.ir_model.Names.{function_at}
use Rattle.pass_proofs.specs.ir_model.declared.instr.Instr.{Instr}
use Rattle.pass_proofs.specs.ir_model.declared.module.Function.{Function}
use Rattle.pass_proofs.specs.ir_model.declared.operand.Callee.{Callee}
use Rattle.pass_proofs.specs.ir_model.declared.operand.Intrinsic.{Intrinsic}
use Rattle.pass_proofs.specs.ir_paths.Windows.{destroy_label, resume_label}
use Rattle.pass_proofs.specs.ir_paths.declared.point.Point.{Point}
use Rattle.pass_proofs.specs.run_agreement.Machines.{IsFine}
use Rattle.pass_proofs.specs.run_framed.Framed.{FramedGiven, alloca_from, continue_framed, framed_advance, framed_next, framed_step}
use Rattle.pass_proofs.specs.run_laws.memory.Pointers.{IsValue}
use Rattle.pass_proofs.specs.run_memory.declared.pointer.Pointer.{Pointer}
use Rattle.pass_proofs.specs.run_memory.declared.pointer.Value.{Value}
use Rattle.pass_proofs.specs.run_source.Source.{Sleeper, push, sleeper_of}
use Rattle.pass_proofs.specs.run_source.State.{began_at, frame_address_of, instance_at, is_finished, or_undefined, with_status}
use Rattle.pass_proofs.specs.run_source.declared.state.Instance.{Instance}
use Rattle.pass_proofs.specs.run_source.declared.state.State.{State}
use Rattle.pass_proofs.specs.run_source.declared.state.Status.{Status}
use Rattle.pass_proofs.specs.run_source_tables.Given.{Given, is_final}
use Rattle.pass_proofs.specs.run_step.Results.{and_then, found, ok_if}
use Rattle.pass_proofs.specs.run_step.Step.{AtInstr, Fetched}
use Rattle.pass_proofs.specs.run_step.Values.{Env, arg_value}

same_ok : (x y : State) → ◌≡◌ {A = Result State Cause} (Ok x) (Ok y) → x ≡ y
same_ok x y e = cc

-- ---- what wakes an instance, by where it may not be and by where it goes on

module _ (stops : Function → Point → Bool) (label : Function → Point → ℕ) where
  abbrev goes : FramedGiven → State → Sleeper → Result State Cause
  goes g s y =
      ok_if (not (stops (function_at g.given.code y.instance.coroutine) y.suspend)) Cause.State
      (continue_framed g s y.number y.instance y.suspend y.values
      (label (function_at g.given.code y.instance.coroutine) y.suspend))

  abbrev found_goes : FramedGiven → State → Option (ℕ × Instance) → Result State Cause
  found_goes g s o =
      and_then (and_then (found Cause.Frame o) (λ (p : ℕ × Instance). sleeper_of p.0 p.1 p.1.status)) (goes g s)

  abbrev pub wake : FramedGiven → State → Value → Result State Cause
  wake g s p = found_goes g s (instance_at s.instances p)

  -- it has woken a suspended one
  pub record HasWoken (g : FramedGiven) (s u : State) (p : Value) : Type 0 where
    pub number : ℕ
    pub instance : Instance
    pub suspend : Point
    pub values : Env
    pub finds : instance_at s.instances p ≡ Some (number, instance)
    pub sleeps : instance.status ≡ Status.Suspended suspend values
    pub may : stops (function_at g.given.code instance.coroutine) suspend ≡ false
    pub is : u ≡ continue_framed g s number instance suspend values
        (label (function_at g.given.code instance.coroutine) suspend)

  has_woken : (g : FramedGiven) (s u : State) (p : Value) → wake g s p ≡ Ok u → HasWoken g s u p
  has_woken g s u p e = on (instance_at s.instances p) refl e
    where
      by_stop : (n : ℕ) (x : Instance) (q : Point) (env : Env) → instance_at s.instances p ≡ Some (n, x)
          → x.status ≡ Status.Suspended q env → (b : Bool) → stops (function_at g.given.code x.coroutine) q ≡ b
          → ok_if (not b) Cause.State (continue_framed g s n x q env (label (function_at g.given.code x.coroutine) q))
          ≡ Ok u
          → HasWoken g s u p
      by_stop n x q env finds sleeps true stop e = absurd (cc)
      by_stop n x q env finds sleeps false stop e = record {
        number = n;
        instance = x;
        suspend = q;
        values = env;
        finds = finds;
        sleeps = sleeps;
        may = stop;
        is = sym (same_ok (continue_framed g s n x q env (label (function_at g.given.code x.coroutine) q)) u e);
      }

      by_status : (n : ℕ) (x : Instance) → instance_at s.instances p ≡ Some (n, x) → (z : Status) → x.status ≡ z
          → and_then (sleeper_of n x z) (goes g s) ≡ Ok u → HasWoken g s u p
      by_status n x finds Status.Running is e = absurd (cc)
      by_status n x finds (Status.Suspended q env) is e =
          by_stop n x q env finds is (stops (function_at g.given.code x.coroutine) q) refl e
      by_status n x finds Status.Finished is e = absurd (cc)

      on : (o : Option (ℕ × Instance)) → instance_at s.instances p ≡ o → found_goes g s o ≡ Ok u → HasWoken g s u p
      on None finds e = absurd (cc)
      on (Some q) finds e = by_status q.0 q.1 finds q.1.status refl e

  -- one that sleeps is woken
  wakes_up : (g : FramedGiven) (s : State) (p : Value) (n : ℕ) (x : Instance) (q : Point) (env : Env)
      → instance_at s.instances p ≡ Some (n, x) → x.status ≡ Status.Suspended q env
      → stops (function_at g.given.code x.coroutine) q ≡ false
      → wake g s p ≡ Ok (continue_framed g s n x q env (label (function_at g.given.code x.coroutine) q))
  wakes_up g s p n x q env finds sleeps may =
      ap (found_goes g s) finds
      ∙ (ap (λ (z : Status). and_then (sleeper_of n x z) (goes g s)) sleeps
      ∙ ap (λ (b : Bool). ok_if (not b) Cause.State (continue_framed g s n x q env
      (label (function_at g.given.code x.coroutine) q))) may)

  -- ---- both runs

  module _ (e : Elision) (s t : State) (r : AreReady e s t) (k : IsAtWaking e s t) (p v : Value)
      (stands : IsValue r.beside.homes p v) (u : State) (woke : wake (framed e) s p ≡ Ok u) where
    w : HasWoken (framed e) s u p
    w = has_woken (framed e) s u p woke

    abbrev x : Instance
    x = w.instance

    abbrev f : Function
    f = function_in e x.coroutine

    going : is_finished x.status ≡ false
    going = ap is_finished w.sleeps

    there : slice_get s.instances w.number ≡ Some x
    there = in_list p w.finds
      where
        in_list : (p : Value) → instance_at s.instances p ≡ Some (w.number, x) → slice_get s.instances w.number ≡ Some x
        in_list (Value.Ptr (Pointer.At b o)) finds = (is_found (began_at b o.bits) w.number x s.instances finds).0
        in_list (Value.Ptr Pointer.Null) finds = absurd (cc)
        in_list (Value.Ptr (Pointer.Func g)) finds = absurd (cc)
        in_list Value.Poison finds = absurd (cc)
        in_list (Value.Int n) finds = absurd (cc)

    other : (y : Instance) × ((slice_get t.instances w.number ≡ Some y)
        × ((instance_at t.instances v ≡ Some (w.number, y)) × AreInstances e r.beside.homes t.world.memory x y))
    other = found_too e s (at_front e s t) r.beside k.callers.last w.number x p v stands w.finds going

    abbrev y : Instance
    y = other.0

    they : AreInstances e r.beside.homes t.world.memory x y
    they = other.1.1.1

    -- the other sleeps at the same place
    abbrev SleepsToo : Type 0
    SleepsToo = (env : Env) × (y.status ≡ Status.Suspended w.suspend env)

    point_same : own_point e x.coroutine w.suspend ≡ w.suspend
    point_same =
        λ j. record {
          block = w.suspend.block;
          at = own_same (rooms e x.coroutine) (k.alike w.number x there).none f w.suspend.block w.suspend.at j;
        }

    sleeps_too : SleepsToo
    sleeps_too = on x.status y.status they.status w.sleeps refl
      where
        on : (a b : Status) → AreStatuses e x.coroutine a b → a ≡ Status.Suspended w.suspend w.values
            → y.status ≡ b → SleepsToo
        on _ _ Runs is same = absurd (cc)
        on _ _ Ends is same = absurd (cc)
        on _ _ (Sleeps q env others) is same =
            let at : q ≡ w.suspend = cc in (
              others,
              same ∙ ap (λ (z : Point). Status.Suspended z others) (ap (own_point e x.coroutine) at ∙ point_same),
            )

    same_function : function_at (elided_code e) y.coroutine ≡ function_in e x.coroutine
    same_function =
        ap (function_at (elided_code e)) they.coroutine
        ∙ ((finds_alike e).functions x.coroutine
        ∙ function_same (rooms e x.coroutine) (k.alike w.number x there).none f)

    other_going : is_finished y.status ≡ false
    other_going = ap is_finished sleeps_too.1

    abbrev to : ℕ
    to = label f w.suspend

    -- ---- the states behind the step

    ours_is : u ≡ push (with_status s w.number x Status.Running)
        (woken e.code f x.coroutine w.number (frame_address_of x) w.suspend.block to (alloca_from f 0))
    ours_is = w.is ∙ goes_on (framed e) s w.number x w.suspend w.values to

    abbrev after : Function → ℕ → State
    after g func =
        push (with_status t w.number y Status.Running)
        (woken (elided_code e) g func w.number (frame_address_of y) w.suspend.block (label g w.suspend)
        (alloca_from g 0))

    theirs_is : wake (elided e) t v ≡ Ok (after f x.coroutine)
    theirs_is =
        wakes_up (elided e) t v w.number y w.suspend sleeps_too.0 other.1.1.0 sleeps_too.1
        (ap (λ (g : Function). stops g w.suspend) same_function ∙ w.may)
        ∙ (ap (λ (z : State). Ok z) (goes_on (elided e) t w.number y w.suspend sleeps_too.0
        (label (function_at (elided_code e) y.coroutine) w.suspend))
        ∙ (λ j. Ok (after (same_function j) (they.coroutine j))))

    beside : AreElided e
        (push (with_status s w.number x Status.Running)
        (woken e.code f x.coroutine w.number (frame_address_of x) w.suspend.block to (alloca_from f 0)))
        (after f x.coroutine)
    beside =
        goes_beside e s t r w.number x y there other.1.0 other_going k.holds
        (woken e.code f x.coroutine w.number (frame_address_of x) w.suspend.block to (alloca_from f 0))
        (woken (elided_code e) f x.coroutine w.number (frame_address_of y) w.suspend.block to (alloca_from f 0))
        (woken_beside e r.beside.homes r.beside.hides
        (now e s t r w.number x y there other.1.0 other_going) x.coroutine w.number
        (k.alike w.number x there) r.beside.globals (frame_address_of x) (frame_address_of y)
        (frames_stand e s (at_front e s t) r.beside x y they) w.suspend.block to (alloca_from f 0))
        (woken_holds e r.beside.homes r.beside.hides
        (now e s t r w.number x y there other.1.0 other_going) x.coroutine w.number
        (k.alike w.number x there) r.beside.globals (frame_address_of x) (frame_address_of y)
        (frames_stand e s (at_front e s t) r.beside x y they) w.suspend.block to (alloca_from f 0))

    -- what comes of the other, with what stands beside
    pub wakes_beside : (z : State) × ((wake (elided e) t v ≡ Ok z) × AreElided e u z)
    wakes_beside = (
      after f x.coroutine,
      (theirs_is, subst (λ (z : State). AreElided e z (after f x.coroutine)) (sym ours_is) beside),
    )

-- ---- the step

module _ (e : Elision) (s t : State) (r : AreReady e s t) (k : IsAtWaking e s t) where
  abbrev i : Intrinsic → Instr
  i by = Instr.Call k.result k.must_tail k.ty (Callee.Intrinsic by) (k.arg ∷ k.rest)

  abbrev p : Value
  p = arg_value e.code s.top.values k.arg

  abbrev v : Value
  v = arg_value (elided_code e) t.top.values k.arg

  stands : IsValue r.beside.homes p v
  stands = read_stands e s t r k.arg.value k.reads k.arg.ty

  does : framed_step (framed e) s ≡ or_undefined (framed e).given s (framed_next (framed e) s (AtInstr (i k.by)))
  does =
      ap (framed_advance (framed e) s) k.runs
      ∙ ap (λ (z : Fetched). or_undefined (framed e).given s (framed_next (framed e) s z))
      (ours e s t r (i k.by) k.there)

  -- what isn't undefined gives a state
  fine_ok : (g : Given) (q : Result State Cause) → IsFine (or_undefined g s q).outcome → (u : State) × (q ≡ Ok u)
  fine_ok g (Ok u) h = (u, refl)
  fine_ok g (Err cause) h = absurd h

  next : (u : State) × (framed_next (framed e) s (AtInstr (i k.by)) ≡ Ok u)
  next =
      fine_ok (framed e).given (framed_next (framed e) s (AtInstr (i k.by)))
      (subst (λ (z : State). IsFine z.outcome) does k.fine)

  abbrev Goes : Intrinsic → Type 0
  Goes by =
      framed_next (framed e) s (AtInstr (i by)) ≡ Ok next.0
      → (z : State) × ((framed_next (elided e) t (AtInstr (i by)) ≡ Ok z) × AreElided e next.0 z)

  by_resume : Goes Intrinsic.CoroResume
  by_resume is = wakes_beside is_final resume_label e s t r k p v stands next.0 is

  by_destroy : Goes Intrinsic.CoroDestroy
  by_destroy is = wakes_beside (λ f q. false) destroy_label e s t r k p v stands next.0 is

  both : (z : State) × ((framed_next (elided e) t (AtInstr (i k.by)) ≡ Ok z) × AreElided e next.0 z)
  both =
      ⊎_elim
      (λ is. subst Goes (sym is) by_resume)
      (λ is. subst Goes (sym is) by_destroy) k.wakes next.1

  steps : framed_step (framed e) s ≡ next.0
  steps = stepped (framed e) s next.0 (AtInstr (i k.by)) k.runs (ours e s t r (i k.by) k.there) next.1

  other_steps : framed_step (elided e) t ≡ both.0
  other_steps =
      stepped (elided e) t both.0 (AtInstr (i k.by)) (r.beside.outcome ∙ k.runs)
      (theirs e s t r (i k.by) k.there ∙ ap (λ (o : Option GivenFrame). AtInstr (elided_instr (name_at
      (rooms e s.top.func) (function_in e s.top.func) s.top.block s.top.at) o (i k.by))) k.none) both.1.0

  pub waking_beside : AreElided e (framed_step (framed e) s) (framed_step (elided e) t)
  waking_beside =
      subst (λ (q : State × State). AreElided e q.0 q.1) (λ j. (sym steps j, sym other_steps j)) both.1.1

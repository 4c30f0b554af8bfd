-- The end of a coroutine: a ramp goes on behind it, and a resumed activation returns, in both runs.
use Rattle.std.proofs.Common.{◌≡◌, ℕ, ◌⊎◌, inl, inr, Bool, true, false, List, [], ◌∷◌, map, Option, Some, None, Result}
use Rattle.std.proofs.Common.{Ok, Err, refl, sym, ap, ◌∙◌, subst, if◌then◌else◌, ⊎_elim}
use Rattle.std.proofs.lemmas.Bool.{false≢true}
use Rattle.std.specs.Prelude.{option_and_then, option_map}
use Rattle.run_types.specs.ir_base.declared.cause.Cause.{Cause}
use Rattle.run_types.specs.ir_base.declared.outcome.Outcome.{Outcome}
use Rattle.run_types.specs.ir_model.Names.{function_at}
use Rattle.run_types.specs.ir_model.Ty.{Ty}
use Rattle.run_types.specs.ir_model.declared.instr.Instr.{Instr}
use Rattle.run_types.specs.ir_model.declared.operand.Arg.{Arg}
use Rattle.run_types.specs.ir_model.declared.operand.Callee.{Callee}
use Rattle.run_types.specs.ir_model.declared.operand.Intrinsic.{Intrinsic}
use Rattle.run_types.proofs.run_hooks.Left.{alike_last}
use Rattle.run_types.proofs.run_hooks.LeftKeeping.{kept_keeps_last}
use Rattle.run_types.specs.run_hooks.Left.{IsLastState}
use Rattle.run_types.specs.run_laws.transfer.Shapes.{Pair}
use Rattle.run_types.specs.run_source.Source.{after_end, change_own, end_of, finish, pop, return, returned, slots_of}
use Rattle.run_types.specs.run_source.State.{numbered, own_instance, with_instance, with_memory}
use Rattle.run_types.specs.run_source.declared.state.Activation.{Activation}
use Rattle.run_types.specs.run_source.declared.state.Instance.{Instance}
use Rattle.run_types.specs.run_source.declared.state.Mode.{Mode}
use Rattle.run_types.specs.run_source.declared.state.State.{State}
use Rattle.run_types.specs.run_source.declared.state.Status.{Status}
use Rattle.run_types.specs.run_step.Runs.{seen_event}
use Rattle.run_types.specs.run_step.Step.{AtInstr, fetch, without_slots}
use Rattle.pass_renewed_meaning.proofs.Alike.{below_alike, instances_alike, same_events}
use Rattle.pass_renewed_meaning.proofs.Here.{Here, IsCase, begun_below, keeps, other, owns}
use Rattle.pass_renewed_meaning.proofs.OneStep.{IsOneStep}
use Rattle.pass_renewed_meaning.proofs.Outdone.{HaveBegun, asleep, outdone}
use Rattle.pass_renewed_meaning.proofs.Points.{no_alloca, no_part, plain_call}
use Rattle.pass_renewed_meaning.specs.Followed.{AreAlike, AreInStep, Ended, Goes, HaveEnded}
use Rattle.pass_renewed_meaning.specs.Rules.{Setting}
use Rattle.pass_renewed_meaning.specs.Runs.{first_given, second_given}
use Rattle.run_types.proofs.pass_renewed_proof.Closing.{ended_beside}
use Rattle.run_types.proofs.pass_renewed_proof.EndReturns.{back_with_nothing}
use Rattle.run_types.proofs.pass_renewed_proof.Finishing.{finished_beside}
use Rattle.run_types.proofs.pass_renewed_proof.GoingTo.{own_is}
use Rattle.run_types.proofs.pass_renewed_proof.Listing.{set_here}
use Rattle.run_types.proofs.pass_renewed_proof.Owning.{own_beside}
use Rattle.run_types.specs.pass_renewed_proof.Beside.{AreBelow, IsBeside, IsOverOf, place_in}
use Rattle.run_types.specs.pass_renewed_proof.Found.{AreFound}
use Rattle.run_types.specs.pass_renewed_proof.Making.{IsEndOf}

same_ok : {A : Type 0} {a b : A} → ◌≡◌ {A = Result A Cause} (Ok a) (Ok b) → a ≡ b
same_ok e = cc

-- ---- a return of nothing

module _ (c : Setting) (x : Here c) (s t : State) (beside : IsBeside c.code c.flags c.roots s t) (last : IsLastState s)
    (begun : HaveBegun s.below) (over : (s.top.instance ≡ None → ⊥) → s.top.has_left ≡ false → IsOverOf s.instances s.top)
  where
    record IsBack (after : State) : Type 0 where
      other_one : State
      goes : return t None ≡ Ok other_one
      related : AreInStep c.code c.flags c.roots after other_one

    alike : (o : Outcome) → AreAlike (record (returned s) { outcome = o }) (record (returned t) { outcome = o })
    alike o = record {
      instances = instances_alike c.code c.flags c.roots beside.ledger s.world.memory t.world.memory 0 s.instances t.instances
          beside.instances;
      activations = Pair _ _ _ _ (record {
        func = ap (λ (z : Activation). z.func) beside.top.is;
        result = ap (λ (z : Activation). z.result) beside.top.is;
        instance = ap (λ (z : Activation). z.instance) beside.top.is;
        has_left = ap (λ (z : Activation). z.has_left) beside.top.is;
      }) (below_alike c.code c.flags c.roots beside.ledger s.world.memory t.world.memory s.instances s.top.result s.below t.below
          beside.below);
    }

    ended : s.below ≡ [] → (after : State) → return s None ≡ Ok after → IsBack after
    ended none after done = record {
      other_one = record (returned t) { outcome = Outcome.Returned None };
      goes = ap (pop (returned t) None) none_there;
      related = Ended (subst (λ z. HaveEnded c.code c.flags c.roots z (record (returned t) { outcome = Outcome.Returned None })) same (record {
        alike = alike (Outcome.Returned None);
        last = record { before = s; other = t; beside = beside; is = refl; other_is = refl };
        over = λ runs. runs;
        shown = λ i. record {
          events = map (seen_event c.code) (events i);
          outcome = Outcome.Returned None;
          allocs = beside.world.allocs i;
        };
      }));
    }
      where
        same : record (returned s) { outcome = Outcome.Returned None } ≡ after
        same = same_ok (sym (ap (pop (returned s) None) none) ∙ done)

        events : t.world.events ≡ s.world.events
        events = beside.world.events ∙ same_events s.world.events

        empty : (bs : List Activation) → AreBelow c.code c.flags c.roots beside.ledger s.instances s.world.memory
            t.world.memory s.top.result [] bs → bs ≡ []
        empty [] h = refl
        empty (b ∷ bs) h = absurd h

        none_there : t.below ≡ []
        none_there = empty t.below (subst (λ zs. AreBelow c.code c.flags c.roots beside.ledger s.instances s.world.memory
            t.world.memory s.top.result zs t.below) none beside.below)

    goes_back : (below : List Activation) → s.below ≡ below → (after : State) → return s None ≡ Ok after → IsBack after
    goes_back [] is after done = ended is after done
    goes_back (a ∷ below) is after done =
        let r = back_with_nothing c.code c.flags c.roots (keeps c x) s t beside over (outdone s.instances s.top beside.top.begins
        last.0 s.below last.1 begun) (asleep s.instances s.top last.0) a below is after done in
        record { other_one = r.0; goes = r.1; related = Goes r.2 }

    back : (after : State) → return s None ≡ Ok after → IsBack after
    back after done = goes_back s.below refl after done

-- ---- the instance is finished

abbrev finished_at : State → ℕ → Instance → State
finished_at s n y = with_memory (with_instance s n (record y { status = Status.Finished })) (without_slots s.world.memory
    y.slots)

finish_is : (s : State) (n : ℕ) (y : Instance) → own_instance s ≡ Some (n, y) → finish s ≡ finished_at s n y
finish_is s n y e = ap (λ o. with_memory (change_own s (λ z. record z { status = Status.Finished }) o) (without_slots
    s.world.memory (slots_of o))) e

module _ (c : Setting) (x : Here c) (result : Option ℕ) (must_tail : Bool) (ty : Option Ty) (args : List Arg)
    (here : fetch (function_at c.code x.s.top.func) x.s.top.block x.s.top.at ≡ AtInstr (Instr.Call result must_tail ty
    (Callee.Intrinsic Intrinsic.CoroEnd) args)) where
  abbrev instr : Instr
  instr = Instr.Call result must_tail ty (Callee.Intrinsic Intrinsic.CoroEnd) args

  abbrev OneStep : State → Type 0
  OneStep after = IsOneStep (second_given c) (other c x) (AtInstr instr) (first_given c) after

  first_case : (x.s.top.mode ≡ Mode.Resumed → ⊥) → (after : State) → end_of x.s finish result ≡ Ok after → OneStep after
  first_case first after acts =
      let is : IsEndOf c.code c.roots x.s.top instr result = record {
        here = here;
        is = refl;
        first = first;
        no_part = λ v slot root given. no_part c.code (function_at c.code x.s.top.func) (c.flags x.s.top.func) (c.roots
            x.s.top.func) (keeps c x x.s.top.func) (place_in x.s.top) instr here (plain_call result must_tail ty
            (Callee.Intrinsic Intrinsic.CoroEnd) args) v slot root given;
        no_alloca = λ v made given. no_alloca c.code (function_at c.code x.s.top.func) (c.flags x.s.top.func) (c.roots
            x.s.top.func) (keeps c x x.s.top.func) (place_in x.s.top) instr here (plain_call result must_tail ty
            (Callee.Intrinsic Intrinsic.CoroEnd) args) v made given;
      } in
      let r = ended_beside c.code c.flags c.roots (keeps c x) x.s (other c x) x.beside instr result is (owns c x) after acts in
      record { other = r.0; goes = r.1; related = Goes r.2 }

  -- ---- of a resumed activation

  module _ (resumed : x.s.top.mode ≡ Mode.Resumed) where
    ends : (t' : State) → (b : Bool) → x.s.top.has_left ≡ b → (u : State) → (if b then other c x else finish (other c x)) ≡ u
        → return u None ≡ Ok t' → end_of (other c x) finish result ≡ Ok t'
    ends t' b left u is goes = ap (after_end (if x.s.top.has_left then other c x else finish (other c x)) result) resumed ∙ ap
        (λ k. return (if k then other c x else finish (other c x)) None) left ∙ ap (λ k. return k None) is ∙ goes

    own_there : (o : Option ℕ) → x.s.top.instance ≡ o → (n : ℕ) × (y : Instance) × (own_instance x.s ≡ Some (n, y))
    own_there None e = absurd (x.beside.top.begins resumed e)
    own_there (Some n) e =
        let r = owns c x n e in
        (n, r.0, ap (option_and_then (numbered x.s.instances)) e ∙ ap (option_map (λ z. (n, z))) r.1)

    returns : (b : Bool) → x.s.top.has_left ≡ b → (after : State) → return (if b then x.s else finish x.s) None ≡ Ok after
        → OneStep after
    returns true left after acts =
        let r = back c x x.s (other c x) x.beside x.run.last (begun_below c x) (λ some stays. absurd (false≢true (sym stays ∙
        left))) after acts in
        record { other = r.other_one; goes = ends r.other_one true left (other c x) refl r.goes; related = r.related }
    returns false left after acts =
        let own = own_there x.s.top.instance refl in
        let n = own.0 in
        let y = own.1 in
        let f : AreFound c.code c.flags c.roots x.beside.ledger x.s.world.memory (Some (n, y)) (own_instance (other c x)) = subst
        (λ o. AreFound c.code c.flags c.roots x.beside.ledger x.s.world.memory o (own_instance (other c x))) own.2 (own_beside
        c.code c.flags c.roots x.s (other c x) x.beside) in
        let ours = own_is x.s (n, y) own.2 in
        let first = finish_is x.s n y own.2 in
        let second = finish_is (other c x) n f.0 f.1 in
        let s1 = finished_at x.s n y in
        let t1 = finished_at (other c x) n f.0 in
        let both : IsBeside c.code c.flags c.roots s1 t1 = subst (λ k. IsBeside c.code c.flags c.roots k t1) first (subst (IsBeside
        c.code c.flags c.roots (finish x.s)) second (finished_beside c.code c.flags c.roots x.s (other c x) x.beside)) in
        let last : IsLastState s1 = subst (λ (k : State). IsLastState k) first (alike_last x.s (finish x.s) ((kept_keeps_last
        (first_given c) c.keep).close x.s) x.run.last) in
        let r = back c x s1 t1 both last (begun_below c x) (λ some stays. record {
          number = n;
          own = ours.0;
          instance = record y { status = Status.Finished };
          there = set_here x.s.instances n y (record y { status = Status.Finished }) ours.1;
          over = refl;
        }) after (ap (λ k. return k None) (sym first) ∙ acts) in
        record { other = r.other_one; goes = ends r.other_one false left t1 second r.goes; related = r.related }

    resumed_case : (after : State) → end_of x.s finish result ≡ Ok after → OneStep after
    resumed_case after acts = returns x.s.top.has_left refl after (sym (ap (after_end (if x.s.top.has_left then x.s else finish
        x.s) result) resumed) ∙ acts)

  by_mode : (x.s.top.mode ≡ Mode.Plain) ⊎ ((x.s.top.mode ≡ Mode.Ramp) ⊎ (x.s.top.mode ≡ Mode.Resumed)) → (after : State)
      → end_of x.s finish result ≡ Ok after → OneStep after
  by_mode (inl e) after acts = first_case (λ resumed. let z : Mode.Plain ≡ Mode.Resumed = sym e ∙ resumed in absurd (cc)) after
      acts
  by_mode (inr (inl e)) after acts = first_case (λ resumed. let z : Mode.Ramp ≡ Mode.Resumed = sym e ∙ resumed in absurd (cc))
      after acts
  by_mode (inr (inr e)) after acts = resumed_case e after acts

  pub close_goes : (after : State) → end_of x.s finish result ≡ Ok after → OneStep after
  close_goes after acts = by_mode x.beside.top.modes after acts

pub close_case : (c : Setting) (x : Here c) (result : Option ℕ) (must_tail : Bool) (ty : Option Ty) (args : List Arg)
    → IsCase c x (AtInstr (Instr.Call result must_tail ty (Callee.Intrinsic Intrinsic.CoroEnd) args))
close_case c x result must_tail ty args here after acts = close_goes c x result must_tail ty args here after acts

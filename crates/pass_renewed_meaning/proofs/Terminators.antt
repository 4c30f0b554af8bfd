-- Branches and returns: the second run does what the first does.
use Rattle.std.proofs.Common.{◌≡◌, ℕ, Bool, true, false, List, [], ◌∷◌, length, Option, Some, None, Result, Ok, Err, refl, sym, ap}
use Rattle.std.proofs.Common.{◌∙◌, subst, if◌then◌else◌, ◌==◌}
use Rattle.std.specs.List.{list_all}
use Rattle.run_types.specs.ir_base.declared.cause.Cause.{Cause}
use Rattle.run_types.specs.ir_base.declared.outcome.Outcome.{Outcome}
use Rattle.run_types.specs.ir_model.Names.{function_at, position_of}
use Rattle.run_types.specs.ir_model.Ty.{int}
use Rattle.run_types.specs.ir_model.declared.instr.Case.{Case}
use Rattle.run_types.specs.ir_model.declared.instr.Terminator.{Terminator}
use Rattle.run_types.specs.ir_model.declared.operand.Arg.{Arg}
use Rattle.run_types.specs.ir_model.declared.operand.Operand.{Operand}
use Rattle.run_types.specs.ir_paths.Facts.{IsWindow}
use Rattle.run_types.specs.ir_paths.Windows.{end_block}
use Rattle.run_types.specs.ir_paths.declared.point.Point.{Point}
use Rattle.run_types.specs.ir_paths.declared.point.Window.{Window}
use Rattle.run_types.proofs.pass_kept_proof.Actions.{SameAction, action_same}
use Rattle.run_types.proofs.pass_kept_proof.Same.{same_all}
use Rattle.run_types.specs.pass_kept_proof.Kept.{continue_keeping}
use Rattle.run_types.specs.pass_kept_proof.Needed.{BranchesTo}
use Rattle.run_types.specs.run_agreement.Machines.{IsRunning}
use Rattle.run_types.proofs.run_hooks.Placing.{each_is, pair_window, window_pair}
use Rattle.run_types.specs.run_hooks.Away.{HasStop}
use Rattle.run_types.specs.run_hooks.Left.{HaveLeft, IsLastState}
use Rattle.run_types.specs.run_laws.transfer.Shapes.{Pair}
use Rattle.run_types.specs.run_memory.declared.pointer.Value.{Value}
use Rattle.run_types.specs.run_source.Source.{advance_by, branch_leaving, context_of, enter_block, go_to, left_windows}
use Rattle.run_types.specs.run_source.Source.{may_leave, pop, return, returned}
use Rattle.run_types.specs.run_source.State.{or_undefined, own_facts, own_instance, with_left, with_status, work_of}
use Rattle.run_types.specs.run_source.declared.state.Activation.{Activation}
use Rattle.run_types.specs.run_source.declared.state.Instance.{Instance}
use Rattle.run_types.specs.run_source.declared.state.State.{State}
use Rattle.run_types.specs.run_source.declared.state.Status.{Status}
use Rattle.run_types.specs.run_source_tables.Given.{Given}
use Rattle.run_types.specs.run_step.Results.{and_then, found, ok_if}
use Rattle.run_types.specs.run_step.Step.{Action, AtTerm, GoTo, Nowhere, Return}
use Rattle.run_types.specs.run_step.Step.{Stuck, action_of, branch, fetch, outcome_of, switch, target_of, value_at}
use Rattle.run_types.specs.run_step.Values.{arg_value}
use Rattle.pass_renewed_meaning.proofs.Alike.{below_alike, instances_alike}
use Rattle.pass_renewed_meaning.proofs.Here.{Here, IsCase, begun_below, first_act, first_action, keeps, left_asleep}
use Rattle.pass_renewed_meaning.proofs.Here.{none_below, other, second_action}
use Rattle.pass_renewed_meaning.proofs.OneStep.{IsOneStep}
use Rattle.pass_renewed_meaning.proofs.Outdone.{outdone}
use Rattle.pass_renewed_meaning.proofs.Places.{place_rules}
use Rattle.pass_renewed_meaning.proofs.Tables.{same_windows}
use Rattle.pass_renewed_meaning.specs.Followed.{AreAlike, Ended, Goes}
use Rattle.pass_renewed_meaning.specs.Rules.{Setting}
use Rattle.pass_renewed_meaning.specs.Runs.{first_given, first_step, second_given}
use Rattle.run_types.proofs.pass_renewed_proof.GoingTo.{gone_to}
use Rattle.run_types.proofs.pass_renewed_proof.Returns.{back_to_caller, run_ends}
use Rattle.run_types.proofs.pass_renewed_proof.SameBranches.{same_label}
use Rattle.run_types.specs.pass_renewed_proof.Ahead.{IsBehindSuspendCall}
use Rattle.run_types.specs.pass_renewed_proof.Beside.{AreBelow, AreOutdone}
use Rattle.run_types.specs.pass_renewed_proof.Branching.{AreWindowsOf, IsBranching}
use Rattle.run_types.specs.pass_renewed_proof.Renewed.{renewed_act}

same_ok : {A : Type 0} {a b : A} → ◌≡◌ {A = Result A Cause} (Ok a) (Ok b) → a ≡ b
same_ok e = cc

same_term : {a b : Terminator} → AtTerm a ≡ AtTerm b → a ≡ b
same_term e = cc

-- ---- a branch leaves the activations as they are

record IsMoved (s t : State) : Type 0 where
  instance : t.top.instance ≡ s.top.instance
  mode : t.top.mode ≡ s.top.mode
  below : t.below ≡ s.below

moved_by : (g : Given) (s : State) (label : ℕ) (ws : List Window) (after : State) → branch_leaving g s label ws ≡ Ok after
    → IsMoved s after
moved_by g s label [] after e =
    let is : enter_block g s label ≡ after = same_ok e in
    subst (IsMoved s) is (record { instance = refl; mode = refl; below = refl })
moved_by g s label (w ∷ ws) after e = on (own_instance s) e
  where
    by : (n : ℕ) (x : Instance) (b : Bool) → ok_if b Cause.State (enter_block g (with_left (with_status s n x
        Status.Running) false) label) ≡ Ok after → IsMoved s after
    by n x false k = let z : ◌≡◌ {A = Result State Cause} (Err Cause.State) (Ok after) = k in absurd (cc)
    by n x true k = subst (IsMoved s) (same_ok k) (record { instance = refl; mode = refl; below = refl })

    on : (o : Option (ℕ × Instance)) → and_then (found Cause.State o) (λ (r : ℕ × Instance). ok_if (list_all (may_leave
        (length s.below) r.1) (w ∷ ws)) Cause.State (enter_block g (with_left (with_status s r.0 r.1 Status.Running)
        false) label)) ≡ Ok after → IsMoved s after
    on None k = let z : ◌≡◌ {A = Result State Cause} (Err Cause.State) (Ok after) = k in absurd (cc)
    on (Some r) k = by r.0 r.1 (list_all (may_leave (length s.below) r.1) (w ∷ ws)) k

-- ---- the run has returned

record IsEnd (t other : State) : Type 0 where
  outcome : Outcome
  is : other ≡ record (returned t) { outcome = outcome }
  over : IsRunning outcome → ⊥

returns_over : (u : Option Value) (o : Outcome) → outcome_of u ≡ Ok o → IsRunning o → ⊥
returns_over None o e r = subst IsRunning (sym (same_ok e)) r
returns_over (Some (Value.Int n)) o e r = subst IsRunning (sym (same_ok e)) r
returns_over (Some Value.Poison) o e r = let z : ◌≡◌ {A = Result Outcome Cause} (Err Cause.Poison) (Ok o) = e in absurd (cc)
returns_over (Some (Value.Ptr p)) o e r = let z : ◌≡◌ {A = Result Outcome Cause} (Err Cause.Poison) (Ok o) = e in absurd (cc)

ends : (t : State) → t.below ≡ [] → (u : Option Value) (other : State) → return t u ≡ Ok other → IsEnd t other
ends t none u other e = on (outcome_of u) refl (sym (ap (pop (returned t) u) none) ∙ e)
  where
    on : (r : Result Outcome Cause) → outcome_of u ≡ r → and_then r (λ (o : Outcome). Ok (record (returned t) { outcome = o }))
        ≡ Ok other → IsEnd t other
    on (Err q) is k = let z : ◌≡◌ {A = Result State Cause} (Err q) (Ok other) = k in absurd (cc)
    on (Ok o) is k = record { outcome = o; is = sym (same_ok k); over = returns_over u o is }

-- ---- both runs

module _ (c : Setting) (x : Here c) where
  abbrev acts_on : Action → Result State Cause
  acts_on a = renewed_act (second_given c) (other c x) a

  module _ (term : Terminator) (here : fetch (function_at c.code x.s.top.func) x.s.top.block x.s.top.at ≡ AtTerm term)
    where
      module _ (label : ℕ) (e : first_action c x (AtTerm term) ≡ GoTo label) (after : State) (acts : go_to (first_given c) x.s
          label ≡ Ok after) where
        branches : BranchesTo label (AtTerm term)
        branches = (subst (λ (a : Action). SameAction c.code (λ v. Unit {0}) (AtTerm term) x.s.top.values x.s.top.values a a)
            e (action_same (context_of (first_given c) x.s) x.s.world x.s.top.values x.s.top.values (λ v. Unit {0}) (λ v. Unit
            {0}) (same_all _ x.s.top.values) (AtTerm term) (λ v t. tt) (λ v n k. tt))).1

        stops : IsBehindSuspendCall (function_at c.code x.s.top.func) x.s.top.block x.s.top.at
            → position_of (function_at c.code x.s.top.func) label ≡ end_block (function_at c.code x.s.top.func)
        stops b =
            let f = function_at c.code x.s.top.func in
            let p : Point = record { block = x.s.top.block; at = b.before } in
            let stop : HasStop c.code f p = (x.all.places x.s.top.func).stops p b.is_suspend in
            let stands : fetch f x.s.top.block x.s.top.at ≡ AtTerm (Terminator.Switch stop.arg stop.default stop.cases) = ap
            (fetch f x.s.top.block) b.next ∙ stop.stands in
            let is : term ≡ Terminator.Switch stop.arg stop.default stop.cases = same_term (sym here ∙ stands) in
            x.run.placed.top.stops (record {
              suspend = p;
              is_suspend = b.is_suspend;
              next = λ i. record {
                block = x.s.top.block;
                at = b.next i;
              };
            }) stop.arg stop.default stop.cases label stands (ap (λ (z : Terminator). action_of (context_of (first_given c)
            x.s) (work_of x.s) (AtTerm z)) (sym is) ∙ e)

        branching : IsBranching c.code x.s.top label
        branching = record { branches = subst (BranchesTo label) (sym here) branches; stops = stops }

        windows : AreWindowsOf (function_at c.code x.s.top.func) (own_facts (first_given c) x.s).windows
        windows = record {
          each = λ k w is.
              let pair = window_pair (first_given c) (place_rules c x.all) x.s.top.func k w is in (
                pair.is_save,
                pair.takes,
                each_is (IsWindow (function_at c.code x.s.top.func)) (own_facts (first_given c) x.s).windows
                    ((place_rules c x.all).windows x.s.top.func) k w is,
              );
          all = λ k u call takes. pair_window (first_given c) (place_rules c x.all) x.s.top.func k u (record {
            is_save = call;
            takes = takes;
          });
        }

        step : first_step c x.s ≡ after
        step = ap (advance_by (first_given c) (continue_keeping (first_given c) c.keep) x.s) x.runs ∙ ap (λ z. or_undefined
            (first_given c) x.s (first_act c x (first_action c x z))) here ∙ ap (λ a. or_undefined (first_given c) x.s
            (first_act c x a)) e ∙ ap (or_undefined (first_given c) x.s) acts

        later : AreOutdone after.instances after.top x.s.below
        later =
            let moved = moved_by (first_given c) x.s label (left_windows (first_given c) x.s label) after acts in
            let last : IsLastState after = subst (λ (z : State). IsLastState z) step x.run.last_later in
            outdone after.instances after.top (λ mode none. x.beside.top.begins (sym moved.mode ∙ mode) (sym moved.instance ∙
            none)) last.0 x.s.below (λ i own. subst (HaveLeft i) moved.below (last.1 i own)) (begun_below c x)

        goes_case : IsOneStep (second_given c) (other c x) (AtTerm term) (first_given c) after
        goes_case =
            let r = gone_to c.flags c.roots (first_given c) (second_given c).given refl (keeps c x) x.s (other c x) x.beside
            label branching windows (same_windows c.code c.flags x.s.top.func) (none_below c x) (left_asleep c x) after later
            acts in
            record {
              other = r.0;
              goes = ap acts_on (same_label c.code c.flags c.roots x.s (other c x) x.beside c.answers label term e) ∙ r.1;
              related = Goes r.2;
            }

  module _ (arg : Option Arg) (here : fetch (function_at c.code x.s.top.func) x.s.top.block x.s.top.at ≡ AtTerm
      (Terminator.Ret arg)) (v : Option Value) (e : first_action c x (AtTerm (Terminator.Ret arg)) ≡ Return v) (after :
      State) (acts : return x.s v ≡ Ok after) where
    alike : (o p : Outcome) → AreAlike (record (returned x.s) { outcome = o }) (record (returned (other c x)) { outcome = p })
    alike o p = record {
      instances = instances_alike c.code c.flags c.roots x.beside.ledger x.s.world.memory x.t.world.memory 0 x.s.instances
          x.t.instances x.beside.instances;
      activations = Pair _ _ _ _ (record { func = refl; result = refl; instance = refl; has_left = refl }) (below_alike c.code
          c.flags c.roots x.beside.ledger x.s.world.memory x.t.world.memory x.s.instances x.s.top.result x.s.below x.t.below
          x.beside.below);
    }

    back : (below : List Activation) → x.s.below ≡ below → IsOneStep (second_given c) (other c x) (AtTerm (Terminator.Ret
        arg)) (first_given c) after
    back (a ∷ below) is =
        let r = back_to_caller c.code c.flags c.roots (keeps c x) x.s (other c x) x.beside arg here (none_below c x)
        (left_asleep c x) a below is c.answers v e after acts in
        record { other = r.1; goes = ap acts_on r.2 ∙ r.3; related = Goes r.4 }
    back [] is =
        let r = run_ends c.code c.flags c.roots (keeps c x) x.s (other c x) x.beside arg here is c.answers v e after acts in
        let first = ends x.s is v after acts in
        let second = ends (other c x) (none_there x.t.below (subst (λ zs. AreBelow c.code c.flags c.roots x.beside.ledger
        x.s.instances x.s.world.memory x.t.world.memory x.s.top.result zs x.t.below) is x.beside.below)) r.0 r.1 r.3 in
        record {
          other = r.1;
          goes = ap acts_on r.2 ∙ r.3;
          related = Ended (record {
            alike = subst (λ (z : State). AreAlike z r.1) (sym first.is) (subst (AreAlike (record (returned x.s) {
              outcome = first.outcome;
            })) (sym second.is) (alike first.outcome second.outcome));
            last = record {
              before = x.s;
              other = other c x;
              beside = x.beside;
              is = first.is ∙ (λ i. record (returned x.s) { outcome = (sym first.is i).outcome });
              other_is = second.is ∙ (λ i. record (returned (other c x)) { outcome = (sym second.is i).outcome });
            };
            over = λ runs. first.over (subst (λ (z : State). IsRunning z.outcome) first.is runs);
            shown = r.4;
          });
        }
      where
        none_there : (bs : List Activation) → AreBelow c.code c.flags c.roots x.beside.ledger x.s.instances
            x.s.world.memory x.t.world.memory x.s.top.result [] bs → bs ≡ []
        none_there [] h = refl
        none_there (b ∷ bs) h = absurd h

    return_case : IsOneStep (second_given c) (other c x) (AtTerm (Terminator.Ret arg)) (first_given c) after
    return_case = back x.s.below refl

  pub jump_case : (label : ℕ) → IsCase c x (AtTerm (Terminator.Jump label))
  jump_case label here after acts = goes_case (Terminator.Jump label) here label refl after acts

  pub branch_case : (y : Operand) (a b : ℕ) → IsCase c x (AtTerm (Terminator.Branch y a b))
  branch_case y a b here after acts = on (value_at (context_of (first_given c) x.s) (work_of x.s) (int 1) y) refl acts
    where
      on : (v : Value) → value_at (context_of (first_given c) x.s) (work_of x.s) (int 1) y ≡ v → first_act c x (branch v a b)
          ≡ Ok after → IsOneStep (second_given c) (other c x) (AtTerm (Terminator.Branch y a b)) (first_given c) after
      on (Value.Int n) e k = goes_case (Terminator.Branch y a b) here (if n.bits == 1 then a else b) (ap (λ v. branch v a b)
          e) after k
      on Value.Poison e k = let z : ◌≡◌ {A = Result State Cause} (Err Cause.Poison) (Ok after) = k in absurd (cc)
      on (Value.Ptr p) e k = let z : ◌≡◌ {A = Result State Cause} (Err Cause.Poison) (Ok after) = k in absurd (cc)

  pub switch_case : (arg : Arg) (default : ℕ) (cases : List Case) → IsCase c x (AtTerm (Terminator.Switch arg default
      cases))
  switch_case arg default cases here after acts = on (arg_value c.code x.s.top.values arg) refl acts
    where
      on : (v : Value) → arg_value c.code x.s.top.values arg ≡ v → first_act c x (switch c.code v default cases) ≡ Ok after
          → IsOneStep (second_given c) (other c x) (AtTerm (Terminator.Switch arg default cases)) (first_given c) after
      on (Value.Int n) e k = goes_case (Terminator.Switch arg default cases) here (target_of c.code n default cases) (ap (λ v.
          switch c.code v default cases) e) after k
      on Value.Poison e k = let z : ◌≡◌ {A = Result State Cause} (Err Cause.Poison) (Ok after) = k in absurd (cc)
      on (Value.Ptr p) e k = let z : ◌≡◌ {A = Result State Cause} (Err Cause.Poison) (Ok after) = k in absurd (cc)

  pub ret_case : (arg : Option Arg) → IsCase c x (AtTerm (Terminator.Ret arg))
  ret_case None here after acts = return_case None here None refl after acts
  ret_case (Some arg) here after acts = return_case (Some arg) here (Some (arg_value c.code x.s.top.values arg)) refl after
      acts

  pub unreachable_case : IsCase c x (AtTerm Terminator.Unreachable)
  unreachable_case here after acts = let z : ◌≡◌ {A = Result State Cause} (Err Cause.Unreachable) (Ok after) = acts in absurd
      (cc)

  pub nowhere_case : IsCase c x Nowhere
  nowhere_case here after acts = let z : ◌≡◌ {A = Result State Cause} (Err Cause.Unreachable) (Ok after) = acts in absurd
      (cc)

-- Keepers stay behind each step of the run that gives frames.
use Rattle.std.proofs.Common.{◌≡◌, ◌+◌, ◌⊎◌, ◌∙◌, ◌∷◌, [], ap, Bool, false, inl, inr, List, Option, refl, subst, sym, true, ℕ}
use Rattle.std.specs.Prelude.{None, Some, slice_get}
use Rattle.elide_sites.specs.Destroyed.{is_stop}
use Rattle.elide_sites.specs.Sites.{is_destroy_of}
use Rattle.pass_elide.specs.declared.given.GivenFrame.{GivenFrame}
use Rattle.pass_elide_kept.proofs.Beside.{HasBeside}
use Rattle.pass_elide_kept.proofs.KeptBegins.{begins_keep_keepers}
use Rattle.pass_elide_kept.proofs.KeptEdges.{edges_keep_keepers}
use Rattle.pass_elide_kept.proofs.KeptEnds.{ends_keep_keepers}
use Rattle.pass_elide_kept.proofs.KeptOther.{again_keep_keepers, never_saves}
use Rattle.pass_elide_kept.proofs.KeptPopped.{IsBehindADestroy, rets_keep_keepers}
use Rattle.pass_elide_kept.proofs.KeptPushed.{destroys_keep_keepers, resumes_keep_keepers}
use Rattle.pass_elide_kept.proofs.KeptRows.{moved_keep}
use Rattle.pass_elide_kept.proofs.KeptSites.{calls_keep_keepers, sites_keep_keepers}
use Rattle.pass_elide_kept.proofs.Modes.{resumed_back}
use Rattle.pass_elide_kept.proofs.Moves.{MovesBy, gives_move, marks_move, ramp_ends_move, saves_move}
use Rattle.pass_elide_kept.proofs.MovesMaking.{allocas_move, allocators_move, done_moves}
use Rattle.pass_elide_kept.proofs.PlainPlaces.{same_front, stands_beside}
use Rattle.pass_elide_kept.proofs.StaysFreed.{StaysFreed}
use Rattle.pass_elide_kept.specs.Keepers.{KeepersIn, WasFreed}
use Rattle.pass_elide_kept.specs.Modules.{KeepsHandlesAndEnds}
use Rattle.pass_elide_kept.specs.Runs.{EndsDestroyed, IsKeptFramed, IsKeptGiving}
use Rattle.pass_elide_kept.specs.Steps.{EndsToo, TakesStep}
use Rattle.pass_elide_proof.proofs.PlacingFacts.{by_truth}
use Rattle.pass_elide_proof.specs.Callers.{HaveBlocks, StandsAtInstr, gives_only, saves_by}
use Rattle.pass_elide_proof.specs.CallersStack.{AreCalled}
use Rattle.pass_elide_proof.specs.Calling.{AreReady, IsAtSite}
use Rattle.pass_elide_proof.specs.Elision.{Elision, elided, function_in, rooms}
use Rattle.pass_elide_proof.specs.Invariant.{HaveCallers, IsDestroying}
use Rattle.pass_elide_proof.specs.Match.{AreActivations, AreBelow, was_given}
use Rattle.pass_elide_proof.specs.OwnSlots.{HaveNoSlots}
use Rattle.pass_elide_proof.specs.Places.{front_at, instrs_of, phi_count}
use Rattle.pass_elide_proof.specs.Placing.{HasShape, KeepsPlaces}
use Rattle.pass_elide_proof.specs.pass_proofs.ir_model.Ty.{Ty}
use Rattle.pass_elide_proof.specs.pass_proofs.ir_model.declared.instr.Instr.{Instr}
use Rattle.pass_elide_proof.specs.pass_proofs.ir_model.declared.operand.Allocator.{Allocator}
use Rattle.pass_elide_proof.specs.pass_proofs.ir_model.declared.operand.Arg.{Arg}
use Rattle.pass_elide_proof.specs.pass_proofs.ir_model.declared.operand.Callee.{Callee}
use Rattle.pass_elide_proof.specs.pass_proofs.ir_model.declared.operand.Intrinsic.{Intrinsic}
use Rattle.pass_elide_proof.specs.pass_proofs.run_agreement.Machines.{IsFine}
use Rattle.pass_elide_proof.specs.pass_proofs.run_framed.Framed.{framed_context, framed_step, is_given}
use Rattle.pass_elide_proof.specs.pass_proofs.run_source.State.{work_of}
use Rattle.pass_elide_proof.specs.pass_proofs.run_source.declared.state.Activation.{Activation}
use Rattle.pass_elide_proof.specs.pass_proofs.run_source.declared.state.Instance.{Instance}
use Rattle.pass_elide_proof.specs.pass_proofs.run_source.declared.state.Mode.{Mode}
use Rattle.pass_elide_proof.specs.pass_proofs.run_source.declared.state.State.{State}
use Rattle.pass_elide_proof.specs.pass_proofs.run_step.Step.{AtInstr, Context, Done, Work, action_of}

-- ---- instructions that are neither destroys nor saves

record IsCalm (i : Instr) : Type 0 where
  destroys : (v : Option ℕ) → is_destroy_of v i ≡ false
  stops : is_stop i ≡ false

by_some : (i : Instr) → ((v : ℕ) → is_destroy_of (Some v) i ≡ false) → (v : Option ℕ) → is_destroy_of v i ≡ false
by_some i h None = refl
by_some i h (Some v) = h v

calm_allocator : (result : Option ℕ) (must_tail : Bool) (ty : Option Ty) (a : Allocator) (args : List Arg)
    → IsCalm (Instr.Call result must_tail ty (Callee.Allocator a) args)
calm_allocator result must_tail ty a args = record { destroys = by_some _ (λ v. refl); stops = refl }

calm_alloca : (name : ℕ) (ty : Ty) (align : ℕ) → IsCalm (Instr.Alloca name ty align)
calm_alloca name ty align = record { destroys = by_some _ (λ v. refl); stops = refl }

module _ (result : Option ℕ) (must_tail : Bool) (ty : Option Ty) (args : List Arg) where
  abbrev call_of : Intrinsic → Instr
  call_of j = Instr.Call result must_tail ty (Callee.Intrinsic j) args

  calm_given : (j : Intrinsic) → gives_only j ≡ true
      → IsCalm (Instr.Call result must_tail ty (Callee.Intrinsic j) args)
  calm_given Intrinsic.CoroDestroy is = absurd (cc)
  calm_given Intrinsic.CoroSave is = absurd (cc)
  calm_given Intrinsic.CoroSuspend is = absurd (cc)
  calm_given _ is = record { destroys = by_some _ (λ v. refl); stops = refl }

  calm_marked : (j : Intrinsic) → (j ≡ Intrinsic.LifetimeStart) ⊎ (j ≡ Intrinsic.LifetimeEnd)
      → IsCalm (Instr.Call result must_tail ty (Callee.Intrinsic j) args)
  calm_marked j (inl is) =
      subst (λ (k : Intrinsic). IsCalm (call_of k)) (sym is)
      (record { destroys = by_some _ (λ v. refl); stops = refl })
  calm_marked j (inr is) =
      subst (λ (k : Intrinsic). IsCalm (call_of k)) (sym is)
      (record { destroys = by_some _ (λ v. refl); stops = refl })

  calm_end : IsCalm (Instr.Call result must_tail ty (Callee.Intrinsic Intrinsic.CoroEnd) args)
  calm_end = record { destroys = by_some _ (λ v. refl); stops = refl }

  saves_calm : (j : Intrinsic) → saves_by j ≡ true → (v : Option ℕ)
      → is_destroy_of v (Instr.Call result must_tail ty (Callee.Intrinsic j) args) ≡ false
  saves_calm Intrinsic.CoroSave is = by_some _ (λ v. refl)
  saves_calm Intrinsic.CoroSuspend is = by_some _ (λ v. refl)
  saves_calm _ is = absurd (cc)

calm_done : (c : Context) (w x : Work) (i : Instr) → action_of c w (AtInstr i) ≡ Done x → IsCalm i
calm_done c w x (Instr.Call result must_tail ty (Callee.Intrinsic j) args) does = by j does
  where
    by : (j : Intrinsic)
        → action_of c w (AtInstr (Instr.Call result must_tail ty (Callee.Intrinsic j) args)) ≡ Done x
        → IsCalm (Instr.Call result must_tail ty (Callee.Intrinsic j) args)
    by Intrinsic.CoroDestroy does = absurd (cc)
    by Intrinsic.CoroSave does = absurd (cc)
    by Intrinsic.CoroSuspend does = absurd (cc)
    by _ does = record { destroys = by_some _ (λ v. refl); stops = refl }
calm_done c w x (Instr.Call result must_tail ty (Callee.Named n) args) does =
    record { destroys = by_some _ (λ v. refl); stops = refl }
calm_done c w x (Instr.Call result must_tail ty (Callee.Allocator a) args) does =
    record { destroys = by_some _ (λ v. refl); stops = refl }
calm_done c w x (Instr.Call result must_tail ty (Callee.Local n) args) does =
    record { destroys = by_some _ (λ v. refl); stops = refl }
calm_done c w x (Instr.Binary name op flags ty a b) does =
    record { destroys = by_some _ (λ v. refl); stops = refl }
calm_done c w x (Instr.Icmp name pred ty a b) does = record { destroys = by_some _ (λ v. refl); stops = refl }
calm_done c w x (Instr.Select name z a b) does = record { destroys = by_some _ (λ v. refl); stops = refl }
calm_done c w x (Instr.Cast name op nneg arg to) does = record { destroys = by_some _ (λ v. refl); stops = refl }
calm_done c w x (Instr.Alloca name ty align) does = record { destroys = by_some _ (λ v. refl); stops = refl }
calm_done c w x (Instr.Load name ty p align) does = record { destroys = by_some _ (λ v. refl); stops = refl }
calm_done c w x (Instr.Store arg p align) does = record { destroys = by_some _ (λ v. refl); stops = refl }
calm_done c w x (Instr.Gep name inbounds ty base indices) does =
    record { destroys = by_some _ (λ v. refl); stops = refl }

-- ---- both runs

module _ (e : Elision) (places : KeepsPlaces e) (keeps : KeepsHandlesAndEnds e) (z s t : State)
    (stays : StaysFreed s.instances z.instances) (ours : IsKeptFramed e s) (b : HasBeside e s t)
    (theirs : IsKeptGiving e t) (slots : HaveNoSlots t) (blocks : HaveBlocks t)
    (fine : IsFine (framed_step (elided e) t).outcome) (called : AreCalled e t) (callers : HaveCallers e t)
    (h : KeepersIn e z t) where
  calmly : (at : ℕ) (i : Instr) → StandsAtInstr e t at i → IsCalm i → MovesBy e t (framed_step (elided e) t) i
      → KeepersIn e z (framed_step (elided e) t)
  calmly at i k calm m =
      moved_keep e z t (framed_step (elided e) t) at i k m calm.destroys
      (λ stops. absurd (no (is_stop i) stops calm.stops)) (λ stops. absurd (no (is_stop i) stops calm.stops)) h
    where
      no : (c : Bool) → c ≡ true → c ≡ false → ⊥
      no true y n = absurd (cc)
      no false y n = absurd (cc)

  -- ---- the end of an activation that a coro.destroy has called

  module _ (result : Option ℕ) (must_tail : Bool) (ty : Option Ty) (args : List Arg)
      (ends : EndsToo e s t result must_tail ty args) (resumed : t.top.mode ≡ Mode.Resumed) where
    -- the one below it stands there in the framed run too
    destroyed_end : (c : Activation) (rest : List Activation) → t.below ≡ c ∷ rest → IsBehindADestroy e c
        → t.top.has_left ≡ false → EndsDestroyed e s
    destroyed_end c rest below k left = by s.below refl b.below
      where
        pair : (a : Activation) (more : List Activation) → s.below ≡ a ∷ more → c.block ≡ a.block
            → AreActivations e b.homes b.hides b.sides a c → EndsDestroyed e s
        pair a more is block p = record {
          caller = a;
          callers = more;
          below = is;
          behind = record {
            at = k.point.at;
            behind = same_front e places a.func a.block a.at (k.point.at + 1) plain
                (sym (stands_beside e places b.homes (was_given b.sides c) a c plain p.place).1
                ∙ (k.stands.at
                ∙ (λ j. front_at (rooms e (p.func j)) (function_in e (p.func j)) ((sym k.stands.block ∙ block) j)
                (k.point.at + 1))));
            instr = k.instr;
            there = (λ j. slice_get (instrs_of (function_in e (sym p.func j)) ((sym block ∙ k.stands.block) j))
                k.point.at)
                ∙ k.there;
            destroys = k.destroys;
          };
          resumed = resumed_back s.top.mode t.top.mode b.modes resumed;
          stays = sym b.left ∙ left;
          result = result;
          must_tail = must_tail;
          ty = ty;
          args = args;
          there = ends left;
        }
          where
            plain : (function_in e a.func).coroutine ≡ false
            plain = ap (λ (n : ℕ). (function_in e n).coroutine) (sym p.func) ∙ k.plain

        by : (rows : List Activation) → s.below ≡ rows → AreBelow e b.homes b.hides b.sides rows t.below
            → EndsDestroyed e s
        by [] is pairs =
            absurd (subst (λ (cs : List Activation). AreBelow e b.homes b.hides b.sides [] cs) below pairs)
        by (a ∷ more) is pairs =
            let p = subst (λ (cs : List Activation). AreBelow e b.homes b.hides b.sides (a ∷ more) cs) below pairs in
            pair a more is p.0.0 p.0.1

    freed : (c : Activation) (rest : List Activation) → t.below ≡ c ∷ rest → IsBehindADestroy e c → (number : ℕ)
        (y : Instance) → slice_get t.instances number ≡ Some y → is_given t.world.memory y ≡ true
        → IsDestroying e y number t.top → WasFreed z number
    freed c rest below k number y there given d =
        let shape : HasShape e s.top.func
        = subst (HasShape e) (sym d.func ∙ b.func) (theirs.shapes.instances number y there given) in
        let x = b.twins number y there in
        let was = ours.destroyed shape (destroyed_end c rest below k d.stays) number x.0
        (sym b.instance ∙ d.instance) x.1 in
        λ w at. stays.each number x.0 w x.1 at was

  -- calls that give an alloca stand in functions that are no coroutines
  sites : AreReady e s t → IsAtSite e s t → KeepersIn e z (framed_step (elided e) t)
  sites r k =
      by_truth (function_in e s.top.func).coroutine (λ inside. absurd (none_in inside))
      (λ plain. sites_keep_keepers e z s t r k plain (places.destroyed s.top.func) theirs.own h keeps.handles)
    where
      none_in : (function_in e s.top.func).coroutine ≡ true → ⊥
      none_in inside =
          let no : None ≡ Some (GivenFrame.Alloca k.size k.align)
          = sym ((places.wakes s.top.func inside).none s.top.block
          (phi_count (function_in e s.top.func) s.top.block + s.top.at)
          (Instr.Call k.result k.must_tail k.ty (Callee.Named k.name) k.args)) ∙ k.room in
          absurd (cc)

  pub keepers_stay : TakesStep e s t → KeepersIn e z (framed_step (elided e) t)
  keepers_stay (TakesStep.Works at i w k) =
      calmly at i k.place (calm_done (framed_context (elided e) t) (work_of t) w i k.does) (done_moves e t at i w k)
  keepers_stay (TakesStep.Allocates at a result must_tail ty args k) =
      calmly at _ k (calm_allocator result must_tail ty a args)
      (allocators_move e t at a result must_tail ty args slots fine k)
  keepers_stay (TakesStep.Marks at j result must_tail ty args is k free) =
      calmly at _ k (calm_marked result must_tail ty args j is)
      (marks_move e t at result must_tail ty args fine j is k free)
  keepers_stay (TakesStep.Makes at name ty align k mode) =
      calmly at _ k (calm_alloca name ty align) (allocas_move e t at name ty align mode blocks fine k)
  keepers_stay (TakesStep.MakesAgain at name ty align from label k inside mode) =
      again_keep_keepers e z t at name ty align from label inside mode blocks h k fine
  keepers_stay (TakesStep.Gives at j result must_tail ty args is k) =
      calmly at _ k (calm_given result must_tail ty args j is)
      (gives_move e t at result must_tail ty args fine j is k)
  keepers_stay (TakesStep.Saves at j result must_tail ty args is k m) =
      moved_keep e z t (framed_step (elided e) t) at (Instr.Call result must_tail ty (Callee.Intrinsic j) args) k
      (saves_move e t at result must_tail ty args fine j is k m) (saves_calm result must_tail ty args j is)
      (λ stops. m.inside)
      (never_saves e keeps t theirs at (Instr.Call result must_tail ty (Callee.Intrinsic j) args) k m.mode) h
  keepers_stay (TakesStep.Begins at result must_tail ty args k inside those) =
      begins_keep_keepers e z t at result must_tail ty args k inside theirs.own h callers.ramps fine
  keepers_stay (TakesStep.EndsRamp at result must_tail ty args k ramp) =
      calmly at _ k (calm_end result must_tail ty args)
      (ramp_ends_move e t at result must_tail ty args fine slots ramp k)
  keepers_stay (TakesStep.EndsResumed at result must_tail ty args k resumed inside ends) =
      ends_keep_keepers e z t at result must_tail ty args k resumed inside slots h callers.ramps keeps.handles called
      (freed result must_tail ty args ends resumed) fine
  keepers_stay (TakesStep.Enters label k past) = edges_keep_keepers e z t label k h fine
  keepers_stay (TakesStep.Calls r k) = calls_keep_keepers e z s t r k keeps.handles h
  keepers_stay (TakesStep.Sites r k) = sites r k
  keepers_stay (TakesStep.Resumes at result must_tail ty args k none) =
      resumes_keep_keepers e z t at result must_tail ty args fine h k
  keepers_stay (TakesStep.Destroys at result must_tail ty args k none) =
      destroys_keep_keepers e z t at result must_tail ty args fine h k none theirs.wakes
  keepers_stay (TakesStep.Returns k) = rets_keep_keepers e z t k h callers.ramps keeps.handles called fine

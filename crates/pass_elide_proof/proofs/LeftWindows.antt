-- A step that leaves windows, and the instances that run again then.
use Rattle.std.proofs.Common.{◌≡◌, ◌<◌, ⊎_elim, ℕ, zero, suc, Bool, true, false, List, [], ◌∷◌, length, refl, sym, ap, ◌∙◌, subst, arith, ◌&&◌}
use Rattle.std.specs.List.{list_all}
use Rattle.std.specs.Prelude.{None, Option, Some, option_and_then, option_map, slice_get, slice_set}
use Rattle.pass_elide_proof.proofs.GivingNone.{own_same}
use Rattle.pass_elide_proof.proofs.Sized.{stepped}
use Rattle.pass_elide_proof.specs.Edges.{GivesNone}
use Rattle.pass_elide_proof.specs.Elision.{Elision, function_in, rooms}
use Rattle.pass_elide_proof.specs.EdgesLeaving.{IsLeaving}
use Rattle.pass_elide_proof.specs.Match.{AreBelow, AreInstances, AreStatuses, Ends, IsFreedAs, Runs, Sides, Sleeps, moved_save}
use Rattle.pass_proofs.proofs.flow_solver.Lists.{set_here, set_other}
use Rattle.pass_proofs.proofs.ir_laws.facts.Lists.{get_within}
use Rattle.pass_proofs.proofs.ir_laws.facts.Truth.{either}
use Rattle.pass_proofs.specs.ir_base.declared.cause.Cause.{Cause}
use Rattle.pass_proofs.specs.ir_paths.declared.point.Window.{Window}
use Rattle.pass_proofs.specs.run_framed.Framed.{FramedGiven, framed_act, framed_step, is_given}
use Rattle.pass_proofs.specs.run_laws.memory.Pointers.{Home}
use Rattle.pass_proofs.specs.run_memory.declared.block.MemoryBlock.{MemoryBlock}
use Rattle.pass_proofs.specs.run_source.Source.{branch_leaving, enter_block, is_save, may_leave}
use Rattle.pass_proofs.specs.run_source.State.{is_finished, is_suspended, numbered, own_instance, with_left, with_status}
use Rattle.pass_proofs.specs.run_source.declared.state.Activation.{Activation}
use Rattle.pass_proofs.specs.run_source.declared.state.Instance.{Instance}
use Rattle.pass_proofs.specs.run_source.declared.state.Saved.{Saved}
use Rattle.pass_proofs.specs.run_source.declared.state.State.{State}
use Rattle.pass_proofs.specs.run_source.declared.state.Status.{Status}
use Rattle.pass_proofs.specs.run_step.Results.{and_then, found, ok_if}
use Rattle.pass_proofs.specs.run_step.Step.{AtTerm}

-- ---- the step

-- the own instance runs again, and the activation hasn't left
abbrev pub back : State → ℕ → Instance → State
back s number x = with_left (with_status s number x Status.Running) false

pub exited : (g : FramedGiven) (s : State) (label : ℕ) (h : IsLeaving g s label)
    → framed_step g s ≡ enter_block g.given (back s h.number h.instance) label
exited g s label h =
    stepped g s (enter_block g.given (back s h.number h.instance) label) (AtTerm h.term) h.runs h.there
    (ap (framed_act g s) h.goes
    ∙ (ap (branch_leaving g.given s label) h.leaves
    ∙ ((λ i. and_then (found Cause.State (h.own i)) (λ (p : ℕ × Instance). ok_if (list_all (may_leave (length s.below)
    p.1) (h.window ∷ h.windows)) Cause.State (enter_block g.given (back s p.0 p.1) label)))
    ∙ ap (λ (b : Bool). ok_if b Cause.State (enter_block g.given (back s h.number h.instance) label)) h.may)))

-- ---- own instances

pair_is : (p q : ℕ × Instance) → Some p ≡ Some q → p ≡ q
pair_is p q e = cc

pub own_there : (s : State) (number : ℕ) (x : Instance) → own_instance s ≡ Some (number, x)
    → (s.top.instance ≡ Some number) × (slice_get s.instances number ≡ Some x)
own_there s number x e = on s.top.instance refl e
  where
    at : (j : ℕ) → s.top.instance ≡ Some j → (o : Option Instance) → slice_get s.instances j ≡ o
        → option_map {U = ℕ × Instance} (λ z. (j, z)) o ≡ Some (number, x)
        → (s.top.instance ≡ Some number) × (slice_get s.instances number ≡ Some x)
    at j own None there k = absurd (cc)
    at j own (Some z) there k =
        subst (λ (p : ℕ × Instance). (s.top.instance ≡ Some p.0) × (slice_get s.instances p.0 ≡ Some p.1))
        (pair_is (j, z) (number, x) k) (own, there)

    on : (o : Option ℕ) → s.top.instance ≡ o → option_and_then (numbered s.instances) o ≡ Some (number, x)
        → (s.top.instance ≡ Some number) × (slice_get s.instances number ≡ Some x)
    on None own k = absurd (cc)
    on (Some j) own k = at j own (slice_get s.instances j) refl k

pub own_again : (t : State) (number : ℕ) (y : Instance) → t.top.instance ≡ Some number
    → slice_get t.instances number ≡ Some y → own_instance t ≡ Some (number, y)
own_again t number y own there =
    ap (option_and_then (numbered t.instances)) own ∙ ap (option_map {U = ℕ × Instance} (λ z. (number, z))) there

pub there_is : (xs : List Instance) (k : ℕ) → k < length xs → (x : Instance) × (slice_get xs k ≡ Some x)
there_is [] k lt = absurd (omega (arith, lt))
there_is (x ∷ xs) zero lt = (x, refl)
there_is (x ∷ xs) (suc k) lt = there_is xs k (omega (arith, lt))

-- ---- as many activations below

pub as_many : (e : Elision) (homes : List Home) (hides : ℕ → Bool) (d : Sides) (bs cs : List Activation)
    → AreBelow e homes hides d bs cs → length cs ≡ length bs
as_many e homes hides d [] [] h = refl
as_many e homes hides d [] (c ∷ cs) h = absurd h
as_many e homes hides d (b ∷ bs) [] h = absurd h
as_many e homes hides d (b ∷ bs) (c ∷ cs) h = ap suc (as_many e homes hides d bs cs h.1)

-- ---- two instances

unfinished : (x : Status) → is_suspended x ≡ true → is_finished x ≡ false
unfinished Status.Running h = refl
unfinished (Status.Suspended p values) h = refl
unfinished Status.Finished h = absurd (cc)

sleeps_too : (e : Elision) (func : ℕ) (p q : Status) → AreStatuses e func p q → is_suspended q ≡ is_suspended p
sleeps_too e func _ _ Runs = refl
sleeps_too e func _ _ Ends = refl
sleeps_too e func _ _ (Sleeps p values others) = refl

module _ (e : Elision) (homes : List Home) (memory : List MemoryBlock) (x y : Instance)
    (h : AreInstances e homes memory x y) where
  -- where no call gives a frame saves are where they are
  same_save : (func : ℕ) → GivesNone e func → (o : Option Saved) → option_map (moved_save e func) o ≡ o
  same_save func none None = refl
  same_save func none (Some z) =
      let place = own_same (rooms e func) (function_in e func) none z.save.block z.save.at in
      λ i. Some (record z { save = record z.save { at = place i } })

  pub may_too : GivesNone e x.coroutine → (depth other : ℕ) → other ≡ depth → (ws : List Window)
      → list_all (may_leave depth x) ws ≡ true → list_all (may_leave other y) ws ≡ true
  may_too none depth other many ws may =
      let sleeps = sleeps_too e x.coroutine x.status y.status h.status in
      let last : y.last_save ≡ x.last_save = h.last_save ∙ same_save x.coroutine none x.last_save in
      (λ i. list_all (λ (w : Window). sleeps i && is_save (many i) w.save (last i)) ws) ∙ may

  freed_still : is_suspended y.status ≡ true → (b : Bool) → IsFreedAs memory x y b
      → IsFreedAs memory (record x { status = Status.Running }) (record y { status = Status.Running }) b
  freed_still sleeps false k = k
  freed_still sleeps true k = (k.0, λ running. k.1 (unfinished y.status sleeps))

  pub runs_again : is_suspended x.status ≡ true
      → AreInstances e homes memory (record x { status = Status.Running }) (record y { status = Status.Running })
  runs_again sleeps = record {
    coroutine = h.coroutine;
    whole = h.whole;
    home = h.home;
    status = Runs;
    last_save = h.last_save;
    released = h.released;
    freed = freed_still (sleeps_too e x.coroutine x.status y.status h.status ∙ sleeps) (is_given memory y) h.freed;
    slots = h.slots;
    no_slots = h.no_slots;
  }

-- ---- all instances, of which those of one number have changed

same_one : (x y : Instance) → Some x ≡ Some y → x ≡ y
same_one x y e = cc

pub set_instances : (e : Elision) (homes : List Home) (memory : List MemoryBlock) (xs ys : List Instance)
    → ((i : ℕ) (x y : Instance) → slice_get xs i ≡ Some x → slice_get ys i ≡ Some y
    → AreInstances e homes memory x y) → (n : ℕ) (p q z w : Instance) → slice_get xs n ≡ Some z
    → slice_get ys n ≡ Some w → AreInstances e homes memory p q → (i : ℕ) (x y : Instance)
    → slice_get (slice_set xs n p) i ≡ Some x → slice_get (slice_set ys n q) i ≡ Some y
    → AreInstances e homes memory x y
set_instances e homes memory xs ys each n p q z w here there now i x y at to =
    ⊎_elim
    (λ is.
    let first : p ≡ x
    = same_one p x (sym (set_here xs n p (get_within xs n z here))
    ∙ (ap (slice_get (slice_set xs n p)) (sym is) ∙ at)) in
    let second : q ≡ y
    = same_one q y (sym (set_here ys n q (get_within ys n w there))
    ∙ (ap (slice_get (slice_set ys n q)) (sym is) ∙ to)) in
    subst (λ (r : Instance × Instance). AreInstances e homes memory r.0 r.1) (λ j. (first j, second j)) now)
    (λ ne. each i x y (sym (set_other xs n i p ne) ∙ at) (sym (set_other ys n i q ne) ∙ to))
    (either i n)

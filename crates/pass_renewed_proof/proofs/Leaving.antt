-- An activation that leaves its window goes on in its instance, which is Running again.
use Rattle.std.proofs.Common.{◌≡◌, ℕ, ◌+◌, inl, inr, Bool, true, false, not, List, [], ◌∷◌, length, Option, Some}
use Rattle.std.proofs.Common.{refl, sym, ap, ◌∙◌, subst, ⊎_elim}
use Rattle.std.proofs.lemmas.Bool.{cases_eq, false≢true}
use Rattle.std.specs.List.{Contains}
use Rattle.std.specs.Prelude.{slice_get, slice_set, ◌&&◌, ◌||◌}
use Rattle.pass_kept_proof.specs.ir_model.Names.{function_at}
use Rattle.pass_kept_proof.specs.ir_model.declared.module.Function.{Function}
use Rattle.pass_kept_proof.specs.ir_model.declared.module.Module.{Module}
use Rattle.pass_kept_proof.specs.ir_paths.Paths.{entry_point, has_point, same_point}
use Rattle.pass_kept_proof.specs.ir_paths.Windows.{IsInWindow}
use Rattle.pass_kept_proof.specs.ir_paths.declared.point.Point.{Point}
use Rattle.pass_kept_proof.proofs.Rules.{suspend_is_suspend}
use Rattle.pass_kept_proof.specs.rule_windows.Sets.{IsAfterEnd}
use Rattle.run_laws.proofs.memory.Written.{same_some}
use Rattle.pass_kept_proof.specs.run_source.Source.{is_over}
use Rattle.pass_kept_proof.specs.run_source.State.{is_finished, is_suspended, with_instance, with_left}
use Rattle.pass_kept_proof.specs.run_source.declared.state.Activation.{Activation}
use Rattle.pass_kept_proof.specs.run_source.declared.state.Instance.{Instance}
use Rattle.pass_kept_proof.specs.run_source.declared.state.State.{State}
use Rattle.pass_kept_proof.specs.run_source.declared.state.Status.{Status}
use Rattle.pass_kept_proof.specs.run_step.declared.world.Slot.{Slot}
use Rattle.pass_renewed_proof.proofs.Branching.{branched_beside, entered_block}
use Rattle.pass_renewed_proof.proofs.Left.{after_along}
use Rattle.pass_renewed_proof.proofs.Listing.{instance_beside, instances_on, instances_set, set_here, set_other}
use Rattle.pass_renewed_proof.proofs.Way.{drop_avoided}
use Rattle.pass_renewed_proof.specs.Beside.{AreOutdone, Begun, Early, GoesOn, HasLeftSuspended, IsActivationBeside}
use Rattle.pass_renewed_proof.specs.Beside.{IsBeside, IsInstanceBeside}
use Rattle.pass_renewed_proof.specs.Beside.{IsOverOf, IsSlotBeside, IsSlotOf, Leaves, NotLeft, place_in}
use Rattle.pass_renewed_proof.specs.Branching.{IsBranching, IsLeaving, MayComeBack}
use Rattle.pass_renewed_proof.specs.Ledger.{Ledger}
use Rattle.pass_renewed_proof.specs.Renewed.{Flags, Roots}
use Rattle.pass_renewed_proof.specs.SlotRules.{KeepsSlots}

-- ---- the place

-- where an edge leaves a window no end came before
pub not_after : (m : Module) (f : Function) (flags : ℕ → Bool) (roots : ℕ → Option ℕ) → KeepsSlots m f flags roots
    → (p q : Point) → IsLeaving f p q → IsAfterEnd f p → ⊥
not_after m f flags roots keeps p q is after =
    let w : IsInWindow f is.window.save is.window.suspend p = (is.facts.inside p).0 (first_of (has_point
    is.window.inside p) (not (has_point is.window.inside q)) (first_of (has_point is.window.inside p && not (has_point
    is.window.inside q)) (not (same_point q is.window.suspend)) is.leaves)) in
    keeps.no_suspend is.window.suspend (after_along f p w.to_suspend.between is.window.suspend (drop_avoided f
    (is.window.save ∷ is.window.suspend ∷ []) p
    w.to_suspend.between is.window.suspend w.to_suspend.is_path) after) (suspend_is_suspend f is.window.save
    is.window.suspend is.takes)
  where
    first_of : (a b : Bool) → (a && b) ≡ true → a ≡ true
    first_of true b e = refl
    first_of false b e = absurd (false≢true e)

not_finished : (z : Status) → is_suspended z ≡ true → is_finished z ≡ false
not_finished Status.Running e = absurd (false≢true e)
not_finished (Status.Suspended p env) e = refl
not_finished Status.Finished e = absurd (false≢true e)

-- ---- the instance is Running

module _ (m : Module) (flags : Flags) (roots : Roots) (s t : State) (beside : IsBeside m flags roots s t) (n : ℕ)
    (x y : Instance) (there : slice_get s.instances n ≡ Some x) (suspended : is_suspended x.status ≡ true) (there' :
    slice_get t.instances n ≡ Some y) where
  abbrev x' : Instance
  x' = record x { status = Status.Running }

  abbrev xs' : List Instance
  xs' = slice_set s.instances n (record x { status = Status.Running })

  now : slice_get (slice_set s.instances n (record x { status = Status.Running })) n ≡ Some (record x {
    status = Status.Running;
  })
  now = set_here s.instances n x x' there

  same_over : is_over (record x { status = Status.Running }) ≡ is_over x
  same_over = ap (λ t. t || x.freed) (sym (not_finished x.status suspended))

  pub goes_before : (depth : ℕ) (z : Activation)
      → GoesOn (slice_set s.instances n (record x { status = Status.Running })) depth z → GoesOn s.instances depth z
  goes_before depth z (NotLeft e) = NotLeft e
  goes_before depth z (Leaves g) = ⊎_elim
      (λ same.
      let q : x' ≡ g.instance = same_some x' g.instance (sym now ∙ ap (slice_get xs') (sym same) ∙ g.there) in
      absurd (false≢true (ap (λ (w : Instance). is_suspended w.status) q ∙ g.suspended)))
      (λ ne. Leaves (record {
        number = g.number;
        own = g.own;
        instance = g.instance;
        there = sym (set_other s.instances n g.number x' ne) ∙ g.there;
        suspended = g.suspended;
        saved = g.saved;
        last = g.last;
        is_its = g.is_its;
      }))
      (cases_eq g.number n)

  pub slots_still : (z : Activation) (slot : Slot) → IsSlotOf s.instances z slot
      → IsSlotOf (slice_set s.instances n (record x { status = Status.Running })) z slot
  slots_still z slot (Early none c) = Early none c
  slots_still z slot (Begun j w own at c) = ⊎_elim
      (λ same. Begun n x' (own ∙ ap Some same) now (subst (λ (q : Instance). Contains q.slots slot) (same_some w x (sym
      at ∙ ap (slice_get s.instances) same ∙ there)) c))
      (λ ne. Begun j w own (set_other s.instances n j x' ne ∙ at) c)
      (cases_eq j n)

  pub over_still : (z : Activation) → IsOverOf s.instances z
      → IsOverOf (slice_set s.instances n (record x { status = Status.Running })) z
  over_still z o = ⊎_elim
      (λ same. record {
        number = n;
        own = o.own ∙ ap Some same;
        instance = x';
        there = now;
        over = same_over ∙ ap is_over (sym (same_some o.instance x (sym o.there ∙ ap (slice_get s.instances) same
            ∙ there))) ∙ o.over;
      })
      (λ ne. record {
        number = o.number;
        own = o.own;
        instance = o.instance;
        there = set_other s.instances n o.number x' ne ∙ o.there;
        over = o.over;
      })
      (cases_eq o.number n)

  pub old_instance : IsInstanceBeside m flags roots beside.ledger s.world.memory (0 + n) x y
  old_instance =
      let r = instance_beside m flags roots beside.ledger s.world.memory 0 s.instances t.instances n x beside.instances
      there in
      subst (IsInstanceBeside m flags roots beside.ledger s.world.memory (0 + n) x) (same_some r.0 y (sym r.1 ∙
      there')) r.2

  pub running : IsInstanceBeside m flags roots beside.ledger s.world.memory (0 + n) x y
      → IsInstanceBeside m flags roots beside.ledger s.world.memory (0 + n) (record x { status = Status.Running })
      (record y { status = Status.Running })
  running b = record {
    block = b.block;
    slots = b.slots;
    status = Status.Running;
    is = ap (λ (z : Instance). record z { status = Status.Running }) b.is;
    home = b.home;
    unseated = b.unseated;
    start = b.start;
    listed = b.listed;
    statuses = refl;
    over = λ e. b.over (sym same_over ∙ e);
  }

  abbrev pub running_beside : IsBeside m flags roots (with_instance s n (record x { status = Status.Running }))
      (with_instance t n
      (record y { status = Status.Running }))
  running_beside = instances_on m flags roots s t beside xs' (slice_set t.instances n (record y {
    status = Status.Running;
  }))
      (λ depth z. record { goes_on = goes_before depth z; slots = slots_still z })
      over_still
      (instances_set m flags roots beside.ledger s.world.memory 0 s.instances t.instances n x' (record y {
        status = Status.Running;
      }) beside.instances (running old_instance))

-- ---- the activation hasn't left any more

module _ (m : Module) (flags : Flags) (roots : Roots) (s t : State) (beside : IsBeside m flags roots s t) (n : ℕ)
    (x y : Instance) (back : MayComeBack s.instances (length s.below) s.top n x) (there' : slice_get t.instances n
    ≡ Some y) where
  abbrev l : Ledger
  l = beside.ledger

  abbrev h : IsActivationBeside m flags roots beside.ledger s.instances s.world.memory t.world.memory (length s.below)
      s.top t.top
  h = beside.top

  mine : GoesOn s.instances (length s.below) s.top
  mine = Leaves (record {
    number = n;
    own = back.own;
    instance = x;
    there = back.there;
    suspended = back.suspended;
    saved = back.saved;
    last = back.last;
    is_its = back.is_its;
  })

  abbrev a' : Activation
  a' = record s.top { has_left = false }

  slot_back : (al b c : ℕ)
      → IsSlotBeside m beside.ledger s.instances s.world.memory t.world.memory (length s.below) s.top al b c
      → IsSlotBeside m beside.ledger s.instances s.world.memory t.world.memory (length s.below) (record s.top {
        has_left = false;
      }) al b c
  slot_back al b c o = record {
    slot = of_it o.slot;
    passed = o.passed;
    ramp = o.ramp;
    seat = o.seat;
    depth_is = o.depth_is;
    owner = o.owner;
    tenant = o.tenant;
    ready = o.ready;
    first = λ is goes. o.first is (⊎_elim (λ g. inl mine) (λ away. inr away) goes);
    resumed = λ is goes. o.resumed is mine;
    told_first = λ is goes. o.told_first is mine;
    told = λ is goes. o.told is mine;
    alive = λ goes live. o.alive mine live;
    gone = λ left. absurd (false≢true left);
    away = λ is left. absurd (false≢true left);
  }
    where
      of_it : IsSlotOf s.instances s.top (record { alloca = al; block = b })
          → IsSlotOf s.instances (record s.top { has_left = false }) (record { alloca = al; block = b })
      of_it (Early none c') = Early none c'
      of_it (Begun j w own at c') = Begun j w own at c'

  abbrev came_back : (IsAfterEnd (function_at m s.top.func) (place_in s.top) → ⊥)
      → IsBeside m flags roots (with_left s false) (with_left t false)
  came_back early = record {
    ledger = beside.ledger;
    outcome = beside.outcome;
    world = beside.world;
    entered = beside.entered;
    instances = beside.instances;
    top = record {
      values = h.values;
      slots = h.slots;
      is = ap (λ (z : Activation). record z { has_left = false }) h.is;
      envs = h.envs;
      listed = h.listed;
      others = h.others;
      each = λ al b c flagged at at'. slot_back al b c (h.each al b c flagged at at');
      made = h.made;
      modes = h.modes;
      came = h.came;
      begun = λ some. ⊎_elim (λ r. inl r) (λ o. absurd (early o.0)) (h.begun some);
      begins = h.begins;
      departs = λ left. absurd (false≢true left);
      left = λ left. absurd (false≢true left);
    };
    below = beside.below;
  }

  pub runs_again : (IsAfterEnd (function_at m s.top.func) (place_in s.top) → ⊥)
      → IsBeside m flags roots (record (with_left s false) {
        instances = slice_set s.instances n (record x { status = Status.Running });
      }) (record (with_left t false) { instances = slice_set t.instances n (record y { status = Status.Running }) })
  runs_again early = running_beside m flags roots (with_left s false) (with_left t false) (came_back early) n x y
      back.there
      back.suspended there'

-- ---- the branch out of the window

module _ (m : Module) (flags : Flags) (roots : Roots) (keeps : (func : ℕ)
    → KeepsSlots m (function_at m func) (flags func) (roots func)) (s t : State) (beside : IsBeside m flags roots s t)
    (label : ℕ) (branching : IsBranching m s.top label) (is : IsLeaving (function_at m s.top.func) (place_in s.top)
    (entry_point (function_at m s.top.func) label)) (n : ℕ) (x y : Instance) (back : MayComeBack s.instances (length
    s.below) s.top n x) (there' : slice_get t.instances n ≡ Some y) where
  abbrev s' : State
  s' = record (with_left s false) { instances = slice_set s.instances n (record x { status = Status.Running }) }

  abbrev t' : State
  t' = record (with_left t false) { instances = slice_set t.instances n (record y { status = Status.Running }) }

  asleep : HasLeftSuspended (slice_set s.instances n (record x { status = Status.Running })) (record s.top {
    has_left = false;
  })
  asleep i z own at suspended =
      let same : i ≡ n = same_number i n (sym own ∙ back.own) in
      let q : record x { status = Status.Running } ≡ z = same_some _ z (sym (set_here s.instances n x (record x {
        status = Status.Running;
      }) back.there) ∙ ap (slice_get (slice_set s.instances n (record x { status = Status.Running }))) (sym same)
      ∙ at) in
      absurd (false≢true (ap (λ (w : Instance). is_suspended w.status) q ∙ suspended))
    where
      same_number : (i j : ℕ) → Some i ≡ Some j → i ≡ j
      same_number i j e = cc

  pub left_window : AreOutdone (slice_set s.instances n (record x { status = Status.Running })) (record s.top {
    has_left = false;
  }) s.below → IsBeside m flags roots (entered_block m s' label) (entered_block m t' label)
  left_window outdone = branched_beside m flags roots keeps s' t' (runs_again m flags roots s t beside n x y back
      there' (λ after. not_after m (function_at m s.top.func) (flags s.top.func) (roots s.top.func) (keeps
      s.top.func) (place_in s.top) (entry_point (function_at m s.top.func) label) is after)) label (record {
        branches = branching.branches;
        stops = branching.stops;
      }) (λ left. absurd (false≢true left)) outdone asleep

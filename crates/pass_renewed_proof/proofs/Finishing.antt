-- An instance is over in both runs, and its slots die.
use Rattle.std.proofs.Common.{◌≡◌, ℕ, ◌+◌, Bool, true, false, List, Option, Some, None, refl, sym, ap, ◌∙◌}
use Rattle.std.proofs.Common.{subst, ⊎_elim, arith}
use Rattle.std.proofs.lemmas.Bool.{cases_eq, false≢true}
use Rattle.std.specs.List.{Contains}
use Rattle.std.specs.Prelude.{option_and_then, option_map, slice_get, slice_set}
use Rattle.pass_kept_proof.specs.ir_model.declared.module.Module.{Module}
use Rattle.run_laws.proofs.memory.Written.{same_some}
use Rattle.pass_kept_proof.specs.run_memory.declared.block.MemoryBlock.{MemoryBlock}
use Rattle.pass_kept_proof.specs.run_source.Source.{change_own, finish, is_over, slots_of}
use Rattle.pass_kept_proof.specs.run_source.State.{is_suspended, numbered, own_instance, with_instance, with_memory}
use Rattle.pass_kept_proof.specs.run_source.declared.state.Activation.{Activation}
use Rattle.pass_kept_proof.specs.run_source.declared.state.Instance.{Instance}
use Rattle.pass_kept_proof.specs.run_source.declared.state.State.{State}
use Rattle.pass_kept_proof.specs.run_source.declared.state.Status.{Status}
use Rattle.pass_kept_proof.specs.run_step.Step.{without_slots}
use Rattle.pass_kept_proof.specs.run_step.declared.world.Slot.{Slot}
use Rattle.pass_renewed_proof.proofs.Dying.{AreCarriedOver, slots_die, slots_gone}
use Rattle.pass_renewed_proof.proofs.Listing.{instance_beside, instances_on, instances_set, set_here, set_other}
use Rattle.pass_renewed_proof.proofs.Listing.{worlds_beside}
use Rattle.pass_renewed_proof.proofs.Owning.{own_beside}
use Rattle.pass_renewed_proof.specs.Beside.{Begun, Early, GoesOn, IsBeside, IsInstanceBeside, IsOverOf, IsSeated}
use Rattle.pass_renewed_proof.specs.Beside.{IsSlotOf, IsStatusBeside, Leaves, NotLeft}
use Rattle.pass_renewed_proof.specs.Found.{AreFound}
use Rattle.pass_renewed_proof.specs.Ledger.{IsGone, Ledger}
use Rattle.pass_renewed_proof.specs.Renewed.{Flags, Roots}

-- what is found has the number
pub found_in : (xs : List Instance) (o : Option ℕ) (p : ℕ × Instance) → option_and_then (numbered xs) o ≡ Some p
    → slice_get xs p.0 ≡ Some p.1
found_in xs None p e = absurd (cc)
found_in xs (Some j) p e = on (slice_get xs j) refl e
  where
    on : (o : Option Instance) → slice_get xs j ≡ o → option_map (λ x. (j, x)) o ≡ Some p
        → slice_get xs p.0 ≡ Some p.1
    on None at k = absurd (cc)
    on (Some x) at k = subst (λ (z : ℕ × Instance). slice_get xs z.0 ≡ Some z.1) (same_some (j, x) p k) at

-- of one that isn't suspended nothing more is said
pub status_awake : (m : Module) (flags : Flags) (roots : Roots) (l : Ledger) (memory after : List MemoryBlock) (x z :
    Instance) (p q : Status) → is_suspended p ≡ false → IsStatusBeside m flags roots l memory x p q
    → IsStatusBeside m flags roots l after z p q
status_awake m flags roots l memory after x z Status.Running q awake h = h
status_awake m flags roots l memory after x z (Status.Suspended p env) q awake h = absurd (false≢true (sym awake))
status_awake m flags roots l memory after x z Status.Finished q awake h = h

-- ---- an instance that is over

module _ (xs : List Instance) (n : ℕ) (x : Instance) (status : Status) (freed : Bool) (there : slice_get xs n ≡ Some
    x) (awake : is_suspended status ≡ false) (over : is_over (record x { status = status; freed = freed }) ≡ true) where
  abbrev x' : Instance
  x' = record x { status = status; freed = freed }

  abbrev ys : List Instance
  ys = slice_set xs n (record x { status = status; freed = freed })

  now : slice_get (slice_set xs n (record x { status = status; freed = freed })) n ≡ Some (record x {
    status = status;
    freed = freed;
  })
  now = set_here xs n x x' there

  pub over_goes : (depth : ℕ) (a : Activation) → GoesOn (slice_set xs n (record x { status = status; freed = freed }))
      depth a → GoesOn xs depth a
  over_goes depth a (NotLeft e) = NotLeft e
  over_goes depth a (Leaves g) = ⊎_elim
      (λ same.
      let q : x' ≡ g.instance = same_some x' g.instance (sym now ∙ ap (slice_get ys) (sym same) ∙ g.there) in
      absurd (false≢true (sym awake ∙ ap (λ (z : Instance). is_suspended z.status) q ∙ g.suspended)))
      (λ ne. Leaves (record {
        number = g.number;
        own = g.own;
        instance = g.instance;
        there = sym (set_other xs n g.number x' ne) ∙ g.there;
        suspended = g.suspended;
        saved = g.saved;
        last = g.last;
        is_its = g.is_its;
      }))
      (cases_eq g.number n)

  pub over_slots : (a : Activation) (slot : Slot) → IsSlotOf xs a slot
      → IsSlotOf (slice_set xs n (record x { status = status; freed = freed })) a slot
  over_slots a slot (Early none c) = Early none c
  over_slots a slot (Begun j w own at c) = ⊎_elim
      (λ same. Begun n x' (own ∙ ap Some same) now (subst (λ (q : Instance). Contains q.slots slot) (same_some w x (sym
      at ∙ ap (slice_get xs) same ∙ there)) c))
      (λ ne. Begun j w own (set_other xs n j x' ne ∙ at) c)
      (cases_eq j n)

  pub over_still : (a : Activation) → IsOverOf xs a
      → IsOverOf (slice_set xs n (record x { status = status; freed = freed })) a
  over_still a o = ⊎_elim
      (λ same. record { number = n; own = o.own ∙ ap Some same; instance = x'; there = now; over = over })
      (λ ne. record {
        number = o.number;
        own = o.own;
        instance = o.instance;
        there = set_other xs n o.number x' ne ∙ o.there;
        over = o.over;
      })
      (cases_eq o.number n)

-- ---- the states

module _ (m : Module) (flags : Flags) (roots : Roots) (s t : State) (beside : IsBeside m flags roots s t) where
  abbrev l : Ledger
  l = beside.ledger

  instance_over : (memory : List MemoryBlock) (n : ℕ) (x y : Instance) (status status' : Status) (freed : Bool)
      → IsStatusBeside m flags roots beside.ledger memory (record x { status = status; freed = freed }) status status'
      → ((slot : Slot) → Contains x.slots slot → IsGone memory slot.block)
      → IsInstanceBeside m flags roots beside.ledger memory n x y
      → IsInstanceBeside m flags roots beside.ledger memory n (record x { status = status; freed = freed }) (record y {
        status = status';
        freed = freed;
      })
  instance_over memory n x y status status' freed statuses gone h = record {
    block = h.block;
    slots = h.slots;
    status = status';
    is = ap (λ (z : Instance). record z { status = status'; freed = freed }) h.is;
    home = h.home;
    unseated = h.unseated;
    start = h.start;
    listed = h.listed;
    statuses = statuses;
    over = λ e slot is flagged. gone slot is;
  }

  module _ (n : ℕ) (x y : Instance) (status status' : Status) (freed : Bool) (there : slice_get s.instances n ≡ Some x)
      (there' : slice_get t.instances n ≡ Some y) (awake : is_suspended status ≡ false) (over : is_over (record x {
        status = status;
        freed = freed;
      }) ≡ true) (statuses : (memory : List MemoryBlock)
      → IsStatusBeside m flags roots beside.ledger memory (record x { status = status; freed = freed }) status status')
    where
      number : 0 + n ≡ n
      number = omega arith

      old : IsInstanceBeside m flags roots beside.ledger s.world.memory (0 + n) x y
      old =
          let r = instance_beside m flags roots l s.world.memory 0 s.instances t.instances n x beside.instances there in
          subst (IsInstanceBeside m flags roots l s.world.memory (0 + n) x) (same_some r.0 y (sym r.1 ∙ there')) r.2

      abbrev after : List MemoryBlock
      after = without_slots s.world.memory x.slots

      abbrev behind : List MemoryBlock
      behind = without_slots t.world.memory old.slots

      dead : AreCarriedOver m beside.ledger s.world.memory after t.world.memory behind
      dead = slots_die m l (IsSeated l (flags x.coroutine) x.coroutine (Some (0 + n))) (flags x.coroutine) (λ slot is. (
        _,
        is.seat,
      )) x.slots old.slots old.listed s.world.memory t.world.memory (record {
        memory = beside.world.memory;
        nulls = beside.world.nulls;
        bounds = beside.world.bounds;
      }) beside.entered

      abbrev dead_beside : IsBeside m flags roots (with_memory s after) (with_memory t behind)
      dead_beside = worlds_beside m flags roots s t beside l (record s.world { memory = after }) (record t.world {
        memory = behind;
      }) dead.carried dead.kept (record {
        memory = dead.standing.memory;
        nulls = dead.standing.nulls;
        bounds = dead.standing.bounds;
        events = beside.world.events;
        answers = beside.world.answers;
        allocs = beside.world.allocs;
      }) dead.entered

      new : IsInstanceBeside m flags roots beside.ledger after (0 + n) (record x { status = status; freed = freed })
          (record y { status = status'; freed = freed })
      new =
          let r = instance_beside m flags roots l after 0 s.instances t.instances n x dead_beside.instances there in
          instance_over after (0 + n) x y status status' freed (statuses after) (λ slot is. slots_gone x.slots
          s.world.memory slot is) (subst (IsInstanceBeside m flags roots l after (0 + n) x) (same_some r.0 y (sym r.1
          ∙ there')) r.2)

      over_there : IsBeside m flags roots (with_memory (with_instance s n (record x { status = status; freed = freed }))
          after) (with_memory (with_instance t n (record y { status = status'; freed = freed })) behind)
      over_there = instances_on m flags roots (with_memory s after) (with_memory t behind) dead_beside (slice_set
          s.instances n (record x { status = status; freed = freed })) (slice_set t.instances n (record y {
            status = status';
            freed = freed;
          })) (λ depth a. record {
            goes_on = over_goes s.instances n x status freed there awake over depth a;
            slots = over_slots s.instances n x status freed there awake over a;
          }) (over_still s.instances n x status freed there awake over) (instances_set m flags roots l after 0
          s.instances t.instances n _ _ dead_beside.instances new)

      pub over_beside : IsBeside m flags roots (with_memory (with_instance s n (record x {
        status = status;
        freed = freed;
      })) (without_slots s.world.memory x.slots)) (with_memory (with_instance t n (record y {
        status = status';
        freed = freed;
      })) (without_slots t.world.memory y.slots))
      over_beside = subst (λ (z : List Slot). IsBeside m flags roots (with_memory (with_instance s n (record x {
        status = status;
        freed = freed;
      })) (without_slots s.world.memory x.slots)) (with_memory (with_instance t n (record y {
        status = status';
        freed = freed;
      })) (without_slots t.world.memory z))) (ap (λ (z : Instance). z.slots) (sym old.is)) over_there

  -- ---- the end

  abbrev Ends : Option (ℕ × Instance) → Option (ℕ × Instance) → Type 0
  Ends o q = IsBeside m flags roots (with_memory (change_own s (λ x. record x { status = Status.Finished }) o)
      (without_slots s.world.memory (slots_of o))) (with_memory (change_own t (λ x. record x {
        status = Status.Finished;
      }) q) (without_slots t.world.memory (slots_of q)))

  by : (o q : Option (ℕ × Instance)) → own_instance s ≡ o → own_instance t ≡ q
      → AreFound m flags roots beside.ledger s.world.memory o q → Ends o q
  by None q e e' found = subst (Ends None) (sym found) beside
  by (Some p) q e e' found = subst (Ends (Some p)) (sym found.1) (subst (λ u. IsBeside m flags roots (with_memory
      (with_instance s p.0 (record p.1 { status = Status.Finished })) (without_slots s.world.memory p.1.slots))
      (with_memory (with_instance t p.0 (record found.0 { status = Status.Finished; freed = u })) (without_slots
      t.world.memory found.0.slots))) (ap (λ (z : Instance). z.freed) (sym found.2.is)) (over_beside p.0 p.1 found.0
      Status.Finished Status.Finished p.1.freed (found_in s.instances s.top.instance p e) (found_in t.instances
      t.top.instance (p.0, found.0) (e' ∙ found.1)) refl refl (λ memory. refl)))

  pub finished_beside : IsBeside m flags roots (finish s) (finish t)
  finished_beside = by (own_instance s) (own_instance t) refl refl (own_beside m flags roots s t beside)

-- A slot more is listed by an activation or by an instance: all that was said still is.
use Rattle.std.proofs.Common.{◌≡◌, ◌≢◌, ℕ, zero, suc, ◌+◌, inl, inr, true, false, List, [], ◌∷◌}
use Rattle.std.proofs.Common.{length, Some, None, refl, sym, ap, ◌∙◌, subst, ⊎_elim, arith}
use Rattle.std.proofs.lemmas.Bool.{cases_eq, false≢true}
use Rattle.std.specs.List.{Contains}
use Rattle.std.specs.Prelude.{IsTrue, slice_get, slice_set}
use Rattle.pass_kept_proof.specs.ir_model.Names.{function_at}
use Rattle.pass_kept_proof.specs.ir_model.declared.module.Module.{Module}
use Rattle.run_laws.proofs.memory.Written.{same_some}
use Rattle.run_laws.specs.embedded.Making.{whole_home}
use Rattle.run_laws.specs.memory.Pointers.{home_of}
use Rattle.pass_kept_proof.specs.run_memory.declared.block.MemoryBlock.{MemoryBlock}
use Rattle.pass_kept_proof.specs.run_source.Source.{is_over}
use Rattle.pass_kept_proof.specs.run_source.State.{with_slots}
use Rattle.pass_kept_proof.specs.run_source.declared.state.Activation.{Activation}
use Rattle.pass_kept_proof.specs.run_source.declared.state.Instance.{Instance}
use Rattle.pass_kept_proof.specs.run_source.declared.state.State.{State}
use Rattle.pass_kept_proof.specs.run_source.declared.state.Status.{Status}
use Rattle.pass_kept_proof.specs.run_step.declared.world.Slot.{Slot}
use Rattle.pass_kept_proof.specs.run_step.declared.world.World.{World}
use Rattle.pass_renewed_proof.proofs.Carried.{AreBelowCarried, AreInstancesOn, IsActivationCarried, IsCarried, IsSlotKept}
use Rattle.pass_renewed_proof.proofs.Carried.{activation_kept, below_kept, instances_kept, same_carried, same_kept}
use Rattle.pass_renewed_proof.proofs.Carried.{slot_kept}
use Rattle.pass_renewed_proof.proofs.Passing.{below_passed, instance_passed}
use Rattle.pass_renewed_proof.specs.Beside.{AreInstancesBeside, Begun, Both, Early, First, GoesOn}
use Rattle.pass_renewed_proof.specs.Beside.{AreOthers, IsActivationBeside, IsBeside, IsEarly, IsInstanceBeside}
use Rattle.pass_renewed_proof.specs.Beside.{IsOverOf}
use Rattle.pass_renewed_proof.specs.Beside.{IsPassed, IsSeated, IsSlotBeside, IsSlotOf, IsStatusBeside, IsTold, Leaves}
use Rattle.pass_renewed_proof.specs.Beside.{NotLeft, place_in}
use Rattle.pass_renewed_proof.specs.Ledger.{AreEntered, IsGone, Ledger, Seat}
use Rattle.pass_renewed_proof.specs.Renewed.{Flags, Roots}
use Rattle.pass_renewed_proof.specs.SlotEnvs.{AreSlotEnvs}
use Rattle.pass_renewed_proof.specs.Steps.{AreOver}
use Rattle.frame_classes.specs.Alive.{MayBeAlive}
use Rattle.pass_kept_proof.specs.ir_model.declared.operand.Intrinsic.{Intrinsic}
use Rattle.pass_kept_proof.specs.SuspendRules.{IsCallAt}
use Rattle.pass_kept_proof.specs.rule_windows.Sets.{RunsOut}

-- ---- lists

pub set_here : {A : Type 0} (xs : List A) (i : ℕ) (x y : A) → slice_get xs i ≡ Some x → slice_get (slice_set xs i y) i
    ≡ Some y
set_here [] i x y e = absurd (cc)
set_here (z ∷ xs) zero x y e = refl
set_here (z ∷ xs) (suc i) x y e = set_here xs i x y e

pub set_other : {A : Type 0} (xs : List A) (i j : ℕ) (y : A) → j ≢ i → slice_get (slice_set xs i y) j ≡ slice_get xs j
set_other [] i j y ne = refl
set_other (z ∷ xs) zero zero y ne = absurd (ne refl)
set_other (z ∷ xs) zero (suc j) y ne = refl
set_other (z ∷ xs) (suc i) zero y ne = refl
set_other (z ∷ xs) (suc i) (suc j) y ne = set_other xs i j y (λ e. ne (ap suc e))

-- what was among them still is
pub contains_more : {A : Type 0} (x : A) (xs : List A) (y : A) → Contains xs y → Contains (x ∷ xs) y
contains_more x xs y (k, lt, e) = (suc k, omega arith, e)

pub contains_first : {A : Type 0} (x : A) (xs : List A) → Contains (x ∷ xs) x
contains_first x xs = (0, omega arith, refl)

-- ---- the same places over other worlds

module _ (m : Module) (flags : Flags) (roots : Roots) (s t : State) (beside : IsBeside m flags roots s t) (k : Ledger)
    (w v : World) (carried : IsCarried beside.ledger k s.world.memory w.memory t.world.memory v.memory)
    (kept : (b : ℕ) (seat : Seat) → beside.ledger.seats b ≡ Some seat → IsSlotKept beside.ledger k s.world.memory
    w.memory b) where
  pub top_over : IsActivationBeside m flags roots k s.instances w.memory v.memory (length s.below) s.top t.top
  top_over = activation_kept m flags roots beside.ledger k s.instances s.instances s.world.memory w.memory
      t.world.memory v.memory carried (length s.below) s.top t.top (record {
        over = λ stays o. o;
        slots = λ alloca b d flagged old. slot_kept m flags roots beside.ledger k s.instances s.instances
            s.world.memory w.memory t.world.memory v.memory carried (length s.below) s.top alloca b d (record {
              goes_on = λ goes. goes;
              slots = λ slot is. is;
            }) (kept b _ old.seat) old;
      }) beside.top

  abbrev pub worlds_beside : AreOver k.homes k.hides w v → AreEntered m k w.memory v.memory
      → IsBeside m flags roots (record s { world = w }) (record t { world = v })
  worlds_beside over entered = record {
    ledger = k;
    outcome = beside.outcome;
    world = over;
    entered = entered;
    instances = instances_kept m flags roots beside.ledger k s.instances s.instances s.world.memory w.memory
        t.world.memory v.memory carried 0 s.instances t.instances (λ j z y at ib. instance_passed m flags roots s t
        beside k w v carried kept j z y ib) beside.instances;
    top = top_over;
    below = below_kept m flags roots beside.ledger k s.instances s.instances s.world.memory w.memory t.world.memory
        v.memory carried s.top.result s.below t.below (below_passed m flags roots s t beside k w v carried kept
        s.below) beside.below;
  }

-- ---- an activation lists one more

module _ (m : Module) (flags : Flags) (roots : Roots) (s t : State) (beside : IsBeside m flags roots s t) where
  abbrev l : Ledger
  l = beside.ledger

  abbrev h : IsActivationBeside m flags roots beside.ledger s.instances s.world.memory t.world.memory (length s.below)
      s.top t.top
  h = beside.top

  goes_less : (slot : Slot) (xs : List Instance) (depth : ℕ)
      → GoesOn xs depth (record s.top { slots = slot ∷ s.top.slots }) → GoesOn xs depth s.top
  goes_less slot xs depth (NotLeft e) = NotLeft e
  goes_less slot xs depth (Leaves g) = Leaves (record {
    number = g.number;
    own = g.own;
    instance = g.instance;
    there = g.there;
    suspended = g.suspended;
    saved = g.saved;
    last = g.last;
    is_its = g.is_its;
  })

  pub slot_more : (slot : Slot) (al b c : ℕ)
      → IsSlotBeside m beside.ledger s.instances s.world.memory t.world.memory (length s.below) s.top al b c
      → IsSlotBeside m beside.ledger s.instances s.world.memory t.world.memory (length s.below) (record s.top {
        slots = slot ∷ s.top.slots;
      }) al b c
  slot_more slot al b c o = record {
    slot = of_it o.slot;
    passed = o.passed;
    ramp = o.ramp;
    seat = o.seat;
    depth_is = o.depth_is;
    owner = o.owner;
    tenant = o.tenant;
    ready = o.ready;
    first = λ is goes. o.first is (⊎_elim (λ g. inl (goes_less slot s.instances (length s.below) g)) (λ w. inr w)
        goes);
    resumed = λ is goes. o.resumed is (goes_less slot s.instances (length s.below) goes);
    told_first = λ is goes. o.told_first is (goes_less slot s.instances (length s.below) goes);
    told = λ is goes. o.told is (goes_less slot s.instances (length s.below) goes);
    alive = λ goes lives. o.alive (goes_less slot s.instances (length s.below) goes) lives;
    gone = o.gone;
    away = o.away;
  }
    where
      of_it : IsSlotOf s.instances s.top (record { alloca = al; block = b })
          → IsSlotOf s.instances (record s.top { slots = slot ∷ s.top.slots }) (record { alloca = al; block = b })
      of_it (Early none is) = Early none (contains_more slot s.top.slots _ is)
      of_it (Begun i x own at is) = Begun i x own at is

  -- in the first run alone, a slot that may be made anew
  abbrev pub first_listed : (slot : Slot) → IsEarly beside.ledger (flags s.top.func) s.top.func (length s.below) slot
      → IsBeside m flags roots (with_slots s (slot ∷ s.top.slots)) t
  first_listed slot seated = record {
    ledger = beside.ledger;
    outcome = beside.outcome;
    world = beside.world;
    entered = beside.entered;
    instances = beside.instances;
    top = record {
      values = h.values;
      slots = h.slots;
      is = h.is;
      envs = h.envs;
      listed = First slot s.top.slots h.slots seated h.listed;
      others = h.others;
      each = λ al b c flagged at there. slot_more slot al b c (h.each al b c flagged at there);
      made = h.made;
      modes = h.modes;
      came = h.came;
      begun = λ some. ⊎_elim (λ r. inl r) (λ o. inr (
        o.0,
        λ stays. let w = o.1 stays in record {
          number = w.number;
          own = w.own;
          instance = w.instance;
          there = w.there;
          over = w.over;
        },
      )) (h.begun some);
      begins = h.begins;
      departs = h.departs;
      left = h.left;
    };
    below = beside.below;
  }

  -- it is none of those that are made anew
  pub both_made : (al c : ℕ) → flags s.top.func al ≡ false → (slot : Slot)
      → Contains (record { alloca = al; block = c } ∷ beside.top.slots) slot → IsTrue (flags s.top.func slot.alloca)
      → IsPassed (function_at m s.top.func) slot.alloca (place_in s.top)
  both_made al c off slot (zero, lt, e) flagged = absurd (false≢true (sym off ∙ ap (λ (z : Slot). flags s.top.func
      z.alloca) e ∙ flagged))
  both_made al c off slot (suc k, lt, e) flagged = h.made slot (k, omega arith, e) flagged

  -- in both, a slot that isn't made anew
  abbrev pub both_listed : (al b c : ℕ) → flags s.top.func al ≡ false → home_of beside.ledger.homes b ≡ whole_home c
      → beside.ledger.seats b ≡ None
      → IsBeside m flags roots (with_slots s (record { alloca = al; block = b } ∷ s.top.slots)) (with_slots t (record {
        alloca = al;
        block = c;
      } ∷ t.top.slots))
  both_listed al b c off home none = record {
    ledger = beside.ledger;
    outcome = beside.outcome;
    world = beside.world;
    entered = beside.entered;
    instances = beside.instances;
    top = record {
      values = h.values;
      slots = record { alloca = al; block = c } ∷ h.slots;
      is = ap (λ (z : Activation). record z { slots = record { alloca = al; block = c } ∷ z.slots }) h.is;
      envs = h.envs;
      listed = Both al b c s.top.slots h.slots off home none h.listed;
      others = h.others;
      each = λ a d e flagged at there. slot_more (record { alloca = al; block = b }) a d e (h.each a d e flagged at
          there);
      made = λ slot is flagged. both_made al c off slot is flagged;
      modes = h.modes;
      came = h.came;
      begun = λ some. ⊎_elim (λ r. inl r) (λ o. inr (
        o.0,
        λ stays. let w = o.1 stays in record {
          number = w.number;
          own = w.own;
          instance = w.instance;
          there = w.there;
          over = w.over;
        },
      )) (h.begun some);
      begins = h.begins;
      departs = h.departs;
      left = h.left;
    };
    below = beside.below;
  }

-- ---- an instance lists one more

-- the instances are the same but for their slots, of which there are no fewer
pub record AreGrownInstances (xs ys : List Instance) : Type 0 where
  pub each : (j : ℕ) (x : Instance) → slice_get xs j ≡ Some x → (slots : List Slot)
      × (slice_get ys j ≡ Some (record x { slots = slots })) × ((slot : Slot) → Contains x.slots slot
      → Contains slots slot)
  pub back : (j : ℕ) (y : Instance) → slice_get ys j ≡ Some y → (slots : List Slot)
      × (slice_get xs j ≡ Some (record y { slots = slots }))

module _ (xs ys : List Instance) (grown : AreGrownInstances xs ys) where
  pub goes_before_grown : (depth : ℕ) (a : Activation) → GoesOn ys depth a → GoesOn xs depth a
  goes_before_grown depth a (NotLeft e) = NotLeft e
  goes_before_grown depth a (Leaves g) = let b = grown.back g.number g.instance g.there in Leaves (record {
    number = g.number;
    own = g.own;
    instance = record g.instance { slots = b.0 };
    there = b.1;
    suspended = g.suspended;
    saved = g.saved;
    last = g.last;
    is_its = g.is_its;
  })

  pub slots_of_grown : (a : Activation) (slot : Slot) → IsSlotOf xs a slot → IsSlotOf ys a slot
  slots_of_grown a slot (Early none is) = Early none is
  slots_of_grown a slot (Begun i x own at is) = let g = grown.each i x at in Begun i (record x { slots = g.0 }) own g.1
      (g.2 slot is)

  pub over_grown : (a : Activation) → IsOverOf xs a → IsOverOf ys a
  over_grown a o = let g = grown.each o.number o.instance o.there in record {
    number = o.number;
    own = o.own;
    instance = record o.instance { slots = g.0 };
    there = g.1;
    over = o.over;
  }

pub one_grown : (xs : List Instance) (i : ℕ) (x : Instance) (slot : Slot) → slice_get xs i ≡ Some x
    → AreGrownInstances xs (slice_set xs i (record x { slots = slot ∷ x.slots }))
one_grown xs i x slot at = record {
  each = λ j z is. ⊎_elim
      (λ same.
      let xz : x ≡ z = same_some x z (sym at ∙ ap (slice_get xs) (sym same) ∙ is) in (
        slot ∷ z.slots,
        ap (slice_get (slice_set xs i (record x { slots = slot ∷ x.slots }))) same ∙ set_here xs i x (record x {
          slots = slot ∷ x.slots;
        }) at ∙ ap (λ (q : Instance). Some (record q { slots = slot ∷ q.slots })) xz,
        λ d c. contains_more slot z.slots d c,
      ))
      (λ ne. (z.slots, set_other xs i j _ ne ∙ is, λ d c. c))
      (cases_eq j i);
  back = λ j y is. ⊎_elim
      (λ same.
      let xy : record x { slots = slot ∷ x.slots } ≡ y = same_some (record x { slots = slot ∷ x.slots }) y (sym
      (set_here xs i x (record x { slots = slot ∷ x.slots }) at) ∙ ap (slice_get (slice_set xs i (record x {
        slots = slot ∷ x.slots;
      }))) (sym same) ∙ is) in (
        x.slots,
        ap (slice_get xs) same ∙ at ∙ ap (λ (q : Instance). Some (record q { slots = x.slots })) xy,
      ))
      (λ ne. (y.slots, sym (set_other xs i j _ ne) ∙ is))
      (cases_eq j i);
}

-- where an activation that may go on might before, and slots are still those of it
module _ (m : Module) (flags : Flags) (roots : Roots) (s t : State) (beside : IsBeside m flags roots s t)
    (ys zs : List Instance) (on : (depth : ℕ) (a : Activation) → AreInstancesOn s.instances ys depth a)
    (over : (a : Activation) → IsOverOf s.instances a → IsOverOf ys a) where
  pub carried_on : (depth : ℕ) (a : Activation)
      → IsActivationCarried m flags roots beside.ledger beside.ledger s.instances ys s.world.memory s.world.memory
      t.world.memory t.world.memory (same_carried beside.ledger s.world.memory t.world.memory) depth a
  carried_on depth a = record {
    over = λ stays. over a;
    slots = λ al b d flagged o. slot_kept m flags roots beside.ledger beside.ledger s.instances ys s.world.memory s.world.memory
        t.world.memory t.world.memory (same_carried beside.ledger s.world.memory t.world.memory) depth a al b d (on depth a)
        (same_kept beside.ledger s.world.memory b) o;
  }

  pub below_on : (below : List Activation) → AreBelowCarried m flags roots beside.ledger beside.ledger s.instances ys
      s.world.memory s.world.memory t.world.memory t.world.memory (same_carried beside.ledger s.world.memory
      t.world.memory) below
  below_on [] = tt
  below_on (z ∷ below) = (carried_on (length below) z, below_on below)

  abbrev pub instances_on : AreInstancesBeside m flags roots beside.ledger s.world.memory 0 ys zs
      → IsBeside m flags roots (record s { instances = ys }) (record t { instances = zs })
  instances_on instances = record {
    ledger = beside.ledger;
    outcome = beside.outcome;
    world = beside.world;
    entered = beside.entered;
    instances = instances;
    top = activation_kept m flags roots beside.ledger beside.ledger s.instances ys s.world.memory s.world.memory t.world.memory t.world.memory
        (same_carried beside.ledger s.world.memory t.world.memory) (length s.below) s.top t.top (carried_on (length s.below)
        s.top) beside.top;
    below = below_kept m flags roots beside.ledger beside.ledger s.instances ys s.world.memory s.world.memory t.world.memory t.world.memory
        (same_carried beside.ledger s.world.memory t.world.memory) s.top.result s.below t.below (below_on s.below) beside.below;
  }

abbrev pub instances_grown : (m : Module) (flags : Flags) (roots : Roots) (s t : State) → (beside : IsBeside m flags
    roots s t) → (ys zs : List Instance) → AreGrownInstances s.instances ys
    → AreInstancesBeside m flags roots beside.ledger s.world.memory 0 ys zs
    → IsBeside m flags roots (record s { instances = ys }) (record t { instances = zs })
instances_grown m flags roots s t beside ys zs grown instances = instances_on m flags roots s t beside ys zs (λ depth
    a. record {
      goes_on = goes_before_grown s.instances ys grown depth a;
      slots = slots_of_grown s.instances ys grown a;
    }) (over_grown s.instances ys grown) instances

-- ---- one instance among them

module _ (m : Module) (flags : Flags) (roots : Roots) (l : Ledger) (memory : List MemoryBlock) where
  -- beside an instance stands one
  pub instance_beside : (i : ℕ) (xs ys : List Instance) (j : ℕ) (x : Instance)
      → AreInstancesBeside m flags roots l memory i xs ys → slice_get xs j ≡ Some x
      → (y : Instance) × (slice_get ys j ≡ Some y) × IsInstanceBeside m flags roots l memory (i + j) x y
  instance_beside i [] ys j x h e = absurd (cc)
  instance_beside i (z ∷ xs) [] j x h e = absurd h
  instance_beside i (z ∷ xs) (y ∷ ys) zero x h e =
      let n : i ≡ i + 0 = omega arith in (
        y,
        refl,
        subst (λ (p : ℕ × Instance). IsInstanceBeside m flags roots l memory p.0 p.1 y) (λ k. (
          n k,
          same_some z x e
              k,
        )) h.0,
      )
  instance_beside i (z ∷ xs) (y ∷ ys) (suc j) x h e =
      let r = instance_beside (i + 1) xs ys j x h.1 e in
      let n : (i + 1) + j ≡ i + suc j = omega arith in (
        r.0,
        r.1,
        subst (λ k. IsInstanceBeside m flags roots l memory k x r.0) n r.2,
      )

  pub instances_set : (i : ℕ) (xs ys : List Instance) (j : ℕ) (x y : Instance)
      → AreInstancesBeside m flags roots l memory i xs ys → IsInstanceBeside m flags roots l memory (i + j) x y
      → AreInstancesBeside m flags roots l memory i (slice_set xs j x) (slice_set ys j y)
  instances_set i [] [] j x y h new = tt
  instances_set i [] (w ∷ ys) j x y h new = absurd h
  instances_set i (z ∷ xs) [] j x y h new = absurd h
  instances_set i (z ∷ xs) (w ∷ ys) zero x y h new =
      let n : i + 0 ≡ i = omega arith in (subst (λ k. IsInstanceBeside m flags roots l memory k x y) n new, h.1)
  instances_set i (z ∷ xs) (w ∷ ys) (suc j) x y h new =
      let n : i + suc j ≡ (i + 1) + j = omega arith in (
        h.0,
        instances_set (i + 1) xs ys j x y h.1 (subst (λ k. IsInstanceBeside m flags roots l memory k x y) n new),
      )

  -- of an instance with the same coroutine, and with no fewer slots
  pub status_like : (x z : Instance) → x.coroutine ≡ z.coroutine → ((slot : Slot) → Contains z.slots slot
      → Contains x.slots slot) → (p q : Status) → IsStatusBeside m flags roots l memory z p q
      → IsStatusBeside m flags roots l memory x p q
  status_like x z same more Status.Running q h = h
  status_like x z same more (Status.Suspended p env) q h = (
    h.0,
    h.1,
    record {
      is_call = subst (λ g. IsCallAt Intrinsic.CoroSuspend (function_at m g) p) (sym same) h.2.is_call;
      runs_out = subst (λ g. RunsOut (function_at m g) p) (sym same) h.2.runs_out;
      envs = subst (λ g. AreSlotEnvs l.homes (roots g) env h.0) (sym same) h.2.envs;
      others = subst (λ g. AreOthers l (function_at m g) (flags g) (roots g) env h.0) (sym same) h.2.others;
      each = λ al b flagged at.
          let o = h.2.each al b (subst (λ g. IsTrue (flags g al)) same flagged) at in
          record {
            slot = more _ o.slot;
            told = subst (λ g. IsTold l memory (function_at m g) al b p) (sym same) o.told;
            alive = λ live. subst (λ g. MayBeAlive (function_at m g) al p) (sym same) (o.alive live);
            gone = o.gone;
          };
    },
  )
  status_like x z same more Status.Finished q h = h

  status_more : (x : Instance) (slot : Slot) (p q : Status) → IsStatusBeside m flags roots l memory x p q
      → IsStatusBeside m flags roots l memory (record x { slots = slot ∷ x.slots }) p q
  status_more x slot p q h = status_like (record x { slots = slot ∷ x.slots }) x refl (λ d c. contains_more slot x.slots
      d c) p q h

  -- a slot that isn't made anew
  pub both_more : (i : ℕ) (x y : Instance) (al b c : ℕ) → flags x.coroutine al ≡ false
      → home_of l.homes b ≡ whole_home c → l.seats b ≡ None → IsInstanceBeside m flags roots l memory i x y
      → IsInstanceBeside m flags roots l memory i (record x { slots = record { alloca = al; block = b } ∷ x.slots })
      (record y { slots = record { alloca = al; block = c } ∷ y.slots })
  both_more i x y al b c off home none h = record {
    block = h.block;
    slots = record { alloca = al; block = c } ∷ h.slots;
    status = h.status;
    is = ap (λ (z : Instance). record z { slots = record { alloca = al; block = c } ∷ z.slots }) h.is;
    home = h.home;
    unseated = h.unseated;
    start = h.start;
    listed = Both al b c x.slots h.slots off home none h.listed;
    statuses = status_more x (record { alloca = al; block = b }) x.status h.status h.statuses;
    over = over_more;
  }
    where
      over_more : is_over x ≡ true → (slot : Slot) → Contains (record { alloca = al; block = b } ∷ x.slots) slot
          → IsTrue (flags x.coroutine slot.alloca) → IsGone memory slot.block
      over_more e slot (zero, lt, k) flagged = absurd (false≢true (sym off ∙ ap (λ (z : Slot). flags x.coroutine
          z.alloca) k ∙ flagged))
      over_more e slot (suc n, lt, k) flagged = h.over e slot (n, omega arith, k) flagged

  -- a slot that is, in the first run alone
  pub first_more : (i : ℕ) (x y : Instance) (slot : Slot) → IsSeated l (flags x.coroutine) x.coroutine (Some i) slot
      → (is_over x ≡ true → IsGone memory slot.block) → IsInstanceBeside m flags roots l memory i x y
      → IsInstanceBeside m flags roots l memory i (record x { slots = slot ∷ x.slots }) y
  first_more i x y slot seated gone h = record {
    block = h.block;
    slots = h.slots;
    status = h.status;
    is = h.is;
    home = h.home;
    unseated = h.unseated;
    start = h.start;
    listed = First slot x.slots h.slots seated h.listed;
    statuses = status_more x slot x.status h.status h.statuses;
    over = over_more;
  }
    where
      over_more : is_over x ≡ true → (other : Slot) → Contains (slot ∷ x.slots) other
          → IsTrue (flags x.coroutine other.alloca) → IsGone memory other.block
      over_more e other (zero, lt, k) flagged = subst (λ (z : Slot). IsGone memory z.block) k (gone e)
      over_more e other (suc n, lt, k) flagged = h.over e other (n, omega arith, k) flagged

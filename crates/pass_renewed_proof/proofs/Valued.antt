-- A caller is given a value for a name that is no address in a slot: it stands beside with that.
use Rattle.std.proofs.Common.{◌≡◌, ℕ, inl, inr, List, Option, Some, refl, sym, ap, ◌∙◌, ⊎_elim}
use Rattle.std.specs.Prelude.{IsTrue}
use Rattle.pass_kept_proof.specs.ir_model.Names.{function_at}
use Rattle.pass_kept_proof.specs.ir_model.declared.module.Module.{Module}
use Rattle.run_laws.specs.memory.Pointers.{IsValue}
use Rattle.pass_kept_proof.specs.run_memory.declared.block.MemoryBlock.{MemoryBlock}
use Rattle.pass_kept_proof.specs.run_memory.declared.pointer.Value.{Value}
use Rattle.pass_kept_proof.specs.run_source.declared.state.Activation.{Activation}
use Rattle.pass_kept_proof.specs.run_source.declared.state.Instance.{Instance}
use Rattle.pass_kept_proof.specs.run_step.Values.{Env, with_result}
use Rattle.pass_kept_proof.specs.run_step.declared.world.Slot.{Slot}
use Rattle.pass_kept_proof.specs.run_step.declared.world.World.{World}
use Rattle.pass_renewed_proof.proofs.Carried.{others_on, same_carried, slots_on}
use Rattle.pass_renewed_proof.proofs.Giving.{given_set}
use Rattle.pass_renewed_proof.proofs.Ordinary.{own_address, roots_of}
use Rattle.pass_renewed_proof.proofs.Sets.{result_elsewhere}
use Rattle.pass_renewed_proof.proofs.SlotEnvs.{set_stand}
use Rattle.pass_renewed_proof.specs.Beside.{Begun, Early, GoesOn, IsActivationBeside, IsFree, IsOwn}
use Rattle.pass_renewed_proof.specs.Beside.{IsSlotBeside, IsSlotOf, Leaves, NotLeft}
use Rattle.pass_renewed_proof.specs.Ledger.{Ledger}
use Rattle.pass_renewed_proof.specs.Renewed.{Flags, Roots}
use Rattle.pass_renewed_proof.specs.SlotEnvs.{AreSlotEnvs}
use Rattle.pass_renewed_proof.specs.SlotRules.{KeepsSlots}

module _ (m : Module) (flags : Flags) (roots : Roots) (keeps : (func : ℕ)
    → KeepsSlots m (function_at m func) (flags func) (roots func)) (l : Ledger) (xs : List Instance) (memory target :
    List MemoryBlock) (world : World) (depth : ℕ) (a b : Activation) (h : IsActivationBeside m flags roots l xs memory
    target depth a b) (name : Option ℕ) (free : IsFree (function_at m a.func) (roots a.func) name) (v u : Value)
    (stands : IsValue l.homes v u) where
  abbrev vs : Env
  vs = with_result a.values name v

  abbrev ws : Env
  ws = with_result h.values name u

  goes_before : GoesOn xs depth (record a { values = vs }) → GoesOn xs depth a
  goes_before (NotLeft e) = NotLeft e
  goes_before (Leaves g) = Leaves (record {
    number = g.number;
    own = g.own;
    instance = g.instance;
    there = g.there;
    suspended = g.suspended;
    saved = g.saved;
    last = g.last;
    is_its = g.is_its;
  })

  slot_valued : (al c d : ℕ) → IsSlotBeside m l xs memory target depth a al c d
      → IsSlotBeside m l xs memory target depth (record a { values = vs }) al c d
  slot_valued al c d o = record {
    slot = of_it o.slot;
    passed = o.passed;
    ramp = o.ramp;
    seat = o.seat;
    depth_is = o.depth_is;
    owner = o.owner;
    tenant = o.tenant;
    ready = o.ready;
    first = λ is goes. o.first is (⊎_elim (λ g. inl (goes_before g)) (λ away. inr away) goes);
    resumed = λ is goes. o.resumed is (goes_before goes);
    told_first = λ is goes. o.told_first is (goes_before goes);
    told = λ is goes. o.told is (goes_before goes);
    alive = λ goes live. o.alive (goes_before goes) live;
    gone = o.gone;
    away = o.away;
  }
    where
      of_it : IsSlotOf xs a (record { alloca = al; block = c })
          → IsSlotOf xs (record a { values = vs }) (record { alloca = al; block = c })
      of_it (Early none is) = Early none is
      of_it (Begun i x own at is) = Begun i x own at is

  unset : (slot : ℕ) → IsTrue (flags a.func slot) → name ≡ Some slot → ⊥
  unset slot flagged given = free.no_part slot slot ((keeps a.func).addresses slot slot flagged (own_address
      (function_at m a.func) slot)) given

  envs : AreSlotEnvs l.homes (roots a.func) vs ws
  envs = set_stand l.homes l.homes (roots a.func) name (record { world = world; values = a.values }) (record {
    world = world;
    values = h.values;
  }) (record { world = world; values = vs }) (record { world = world; values = ws }) (record { each = λ c seen. refl })
      free.no_part (roots_of m (function_at m a.func) (flags a.func) (roots a.func) (keeps a.func)) h.envs (given_set
      l.homes a.values h.values v u h.envs.room stands world world world world name)

  pub valued : IsActivationBeside m flags roots l xs memory target depth (record a {
    values = with_result a.values name v;
  }) (record b { values = with_result b.values name u })
  valued = record {
    values = ws;
    slots = h.slots;
    is = ap (λ (z : Activation). record z { values = with_result z.values name u }) h.is;
    envs = envs;
    listed = slots_on m flags roots l l xs xs memory memory target target (same_carried l memory target) _ _ _ _ (flags
        a.func) (λ slot z. z) own a.slots h.slots h.listed;
    others = others_on l l memory memory target target (same_carried l memory target) (function_at m a.func) (flags
        a.func) (roots a.func) a.values h.values vs ws h.envs (λ al other. (
          result_elsewhere a.values name al v (free.no_alloca al other.made),
          result_elsewhere h.values name al u (free.no_alloca al other.made),
        )) h.others;
    each = λ al c d flagged at there. slot_valued al c d (h.each al c d flagged (sym (result_elsewhere a.values name
        al v
        (unset al flagged)) ∙ at) (sym (result_elsewhere h.values name al u (unset al flagged)) ∙ there));
    made = h.made;
    modes = h.modes;
    came = h.came;
    begun = λ some. ⊎_elim (λ r. inl r) (λ o. inr (
      o.0,
      λ stays. let w = o.1 stays in record {
        number = w.number;
        own = w.own;
        instance = w.instance;
        there = w.there;
        over = w.over;
      },
    )) (h.begun some);
    begins = h.begins;
    departs = h.departs;
    left = h.left;
  }
    where
      own : (slot : Slot) → IsOwn l (flags a.func) depth a.values h.values slot
          → IsOwn l (flags a.func) depth vs ws slot
      own slot o = record {
        flagged = o.flagged;
        owner = o.owner;
        address = result_elsewhere h.values name slot.alloca u (unset slot.alloca o.flagged) ∙ o.address;
        tenant = λ c e. result_elsewhere a.values name slot.alloca v (unset slot.alloca o.flagged) ∙ o.tenant c e;
      }

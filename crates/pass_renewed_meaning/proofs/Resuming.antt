-- Where an instance is resumed or destroyed the second run makes the slots of its new activation anew, and then both
-- states are beside each other.
use Rattle.std.proofs.Common.{◌≡◌, ℕ, suc, ◌+◌, ◌<◌, true, false, List, [], ◌∷◌, length, Option, Some, None, refl, sym, ap}
use Rattle.std.proofs.Common.{◌∙◌, subst, arith}
use Rattle.std.specs.Prelude.{slice_get, slice_set}
use Rattle.run_types.specs.ir_base.declared.outcome.Outcome.{Outcome}
use Rattle.run_types.specs.ir_model.Names.{function_at, position_of}
use Rattle.run_types.specs.ir_model.declared.instr.Instr.{Instr}
use Rattle.run_types.specs.ir_model.declared.module.Function.{Function}
use Rattle.run_types.specs.ir_model.declared.module.Module.{Module}
use Rattle.run_types.specs.pass_kept_proof.Kept.{continue_keeping, kept}
use Rattle.run_types.specs.run_agreement.Machines.{iterate}
use Rattle.run_types.specs.run_agreement.Costs.{cost_from}
use Rattle.run_types.specs.run_framed.Framed.{at_point, with_mode}
use Rattle.run_types.specs.run_memory.declared.block.MemoryBlock.{MemoryBlock}
use Rattle.run_types.specs.run_source.Source.{Sleeper, resumed}
use Rattle.run_types.specs.run_source.State.{is_suspended, with_instance}
use Rattle.run_types.specs.run_source.declared.state.Activation.{Activation}
use Rattle.run_types.specs.run_source.declared.state.Instance.{Instance}
use Rattle.run_types.specs.run_source.declared.state.Mode.{Mode}
use Rattle.run_types.specs.run_source.declared.state.State.{State}
use Rattle.run_types.specs.run_source.declared.state.Status.{Status}
use Rattle.run_types.specs.run_source_tables.Given.{Given}
use Rattle.run_types.specs.run_step.Step.{block_of, label_of, phi_values, phis_of, values_in, with_all}
use Rattle.run_types.specs.run_step.Values.{Env, value_in}
use Rattle.pass_renewed_meaning.proofs.Alike.{beside_alike, same_events}
use Rattle.pass_renewed_meaning.proofs.Between.{IsLike, alike_of, like_on}
use Rattle.pass_renewed_meaning.proofs.NewSlots.{AreNewSlots}
use Rattle.pass_renewed_meaning.proofs.Resumed.{made, new, next, resumed_beside, vs, xs}
use Rattle.pass_renewed_meaning.specs.Followed.{AreAlike, IsOnItsWay}
use Rattle.pass_renewed_meaning.specs.Resumes.{IsResuming}
use Rattle.run_types.proofs.pass_renewed_proof.Carried.{AreBelowCarried, IsActivationCarried, activation_kept, below_kept}
use Rattle.run_types.proofs.pass_renewed_proof.Carried.{instances_kept, kept_slot_on, same_carried, same_kept, slot_kept}
use Rattle.run_types.proofs.pass_renewed_proof.Entering.{entering_run}
use Rattle.run_types.proofs.pass_renewed_proof.Leaving.{running_beside}
use Rattle.run_types.proofs.pass_renewed_proof.Listing.{set_here}
use Rattle.run_types.proofs.pass_renewed_proof.Next.{entering_costs}
use Rattle.run_types.proofs.pass_renewed_proof.Passing.{edge_on, passed_beside, unended, unstarted}
use Rattle.run_types.specs.pass_renewed_proof.Beside.{AreSlots, IsBeside, IsSeated, place_in}
use Rattle.run_types.specs.pass_renewed_proof.Entering.{Anew, AreNext, anew_in, made_all, made_anew, price_of_all}
use Rattle.run_types.specs.pass_renewed_proof.Found.{IsSleeperBeside}
use Rattle.run_types.specs.pass_renewed_proof.Ledger.{Ledger}
use Rattle.run_types.specs.pass_renewed_proof.Muted.{muted}
use Rattle.run_types.specs.pass_renewed_proof.Places.{AreStanding}
use Rattle.run_types.specs.pass_renewed_proof.Prices.{Prices, renewed_price}
use Rattle.run_types.specs.pass_renewed_proof.Renewed.{RenewedGiven, continue_renewed, renew_after}
use Rattle.run_types.specs.pass_renewed_proof.Renewed.{renewed_from, renewed_step, renewed_values, with_renewed}
use Rattle.run_types.specs.pass_renewed_proof.SlotRules.{KeepsAllSlots}

-- ---- what the slots that are made anew leave as it was

pub made_like : (g : RenewedGiven) (from label : ℕ) (xs : List Anew) (s : State) → made_all g from label s xs ≡ record s {
  world = record s.world { memory = (made_all g from label s xs).world.memory };
  top = record s.top {
    block = (made_all g from label s xs).top.block;
    at = (made_all g from label s xs).top.at;
    values = (made_all g from label s xs).top.values;
    slots = (made_all g from label s xs).top.slots;
    mode = (made_all g from label s xs).top.mode;
  };
}
made_like g from label [] s = refl
made_like g from label (x ∷ xs) s = made_like g from label xs (made_anew g (at_point (with_mode s (Mode.Entering from
    label)) (record { block = 0; at = x.at })) x.name x.ty x.align)

-- where a block has no phis its activation keeps its values
no_phi_values : (m : Module) (o : Option _) (from : ℕ) (env : Env) → phis_of o ≡ [] → values_in m o from env ≡ env
no_phi_values m o from env none = ap (λ phis. with_all env (phi_values m env from phis)) none

module _ (g : RenewedGiven) (rules : KeepsAllSlots g.given.code g.keep g.flags g.roots) (s t : State)
    (beside : IsBeside g.given.code g.flags g.roots s t) (i : Instr) (y z : Sleeper) (label : ℕ)
    (is : IsResuming g.given.code g.flags g.roots s i y label) (there' : slice_get t.instances z.number ≡ Some
    z.instance) (found : IsSleeperBeside g.given.code g.flags g.roots beside.ledger s.world.memory y z) where
  abbrev m : Module
  m = g.given.code

  abbrev l : Ledger
  l = beside.ledger

  abbrev x : Instance
  x = y.instance

  abbrev n : ℕ
  n = y.number

  abbrev f : Function
  f = function_at g.given.code y.instance.coroutine

  there_n : slice_get t.instances y.number ≡ Some z.instance
  there_n = ap (slice_get t.instances) (sym found.number) ∙ there'

  suspended : is_suspended y.instance.status ≡ true
  suspended = ap is_suspended found.status

  -- ---- the resumer goes on behind its call, and the instance is Running

  abbrev s1 : State
  s1 = record s { top = record s.top { at = s.top.at + 1 } }

  abbrev t1 : State
  t1 = record t { top = record t.top { at = t.top.at + 1; values = beside.top.values } }

  abbrev passed : IsBeside g.given.code g.flags g.roots (record s { top = record s.top { at = s.top.at + 1 } }) (record t {
    top = record t.top { at = t.top.at + 1; values = beside.top.values };
  })
  passed = passed_beside m g.flags g.roots s t beside l s.world t.world (same_carried l s.world.memory t.world.memory)
      (λ b seat seated. same_kept l s.world.memory b) s.top.values beside.top.values
      (edge_on m g.flags g.roots l s.instances s.world.memory t.world.memory (length s.below) s.top t.top beside.top
      is.giving.place i is.giving.here)
      (λ slot b flagged at. unstarted (function_at m s.top.func) (place_in s.top) i is.giving.here is.giving.no_start
      slot)
      (λ slot b flagged at live. unended (function_at m s.top.func) (place_in s.top) i is.giving.here is.giving.no_end
      slot)
      is.giving.place beside.top.envs beside.top.others (λ slot flagged. (refl, refl)) beside.world beside.entered

  abbrev ys : List Instance
  ys = slice_set s.instances y.number (record y.instance { status = Status.Running })

  abbrev zs : List Instance
  zs = slice_set t.instances y.number (record z.instance { status = Status.Running })

  abbrev running : IsBeside g.given.code g.flags g.roots (with_instance s1 y.number (record y.instance {
    status = Status.Running;
  })) (with_instance t1 y.number (record z.instance { status = Status.Running }))
  running = running_beside m g.flags g.roots s1 t1 passed n x z.instance is.there suspended there_n

  -- ---- its new activation

  -- the second run's, before it makes its slots anew
  abbrev base : State
  base = record t { instances = zs; below = t1.top ∷ t.below }

  listed : AreSlots beside.ledger (IsSeated beside.ledger (g.flags y.instance.coroutine) y.instance.coroutine (Some
      y.number)) (λ u. ⊥) (g.flags y.instance.coroutine) y.instance.slots found.instance.slots
  listed = found.instance.listed

  st : AreStanding beside.ledger.homes (muted beside.ledger.hides s.world.memory) t.world.memory
  st = record { memory = beside.world.memory; nulls = beside.world.nulls; bounds = beside.world.bounds }

  abbrev depth : ℕ
  depth = suc (length s.below)

  abbrev anew : State
  anew = made g rules l s.world.memory x n y.suspend y.values z.values found.kept found.instance.slots listed is.block
      is.first is.named base label depth st beside.entered

  abbrev first_values : Env
  first_values = kept (g.keep y.instance.coroutine y.suspend) y.values

  abbrev second_values : Env
  second_values = renewed_values (g.roots y.instance.coroutine) anew.top.values anew.top.values

  abbrev pushed : State
  pushed = record base { top = resumed y.number y.instance y.suspend (kept (g.keep y.instance.coroutine y.suspend) z.values) }

  abbrev anew_slots : List Anew
  anew_slots = anew_in (g.flags y.instance.coroutine) 0 is.block.instrs

  slots_new : (k : Ledger) × AreNewSlots g.given.code s.world.memory depth (λ v. block_of (value_in (kept (g.keep
      y.instance.coroutine y.suspend) y.values) v)) g y.suspend.block label beside.ledger k pushed anew anew_slots
  slots_new = new g rules l s.world.memory x n y.suspend y.values z.values found.kept found.instance.slots listed is.block
      is.first is.named base label depth st beside.entered

  abbrev k : Ledger
  k = slots_new.0

  abbrev target : List MemoryBlock
  target = anew.world.memory

  carried_over : (z : Activation) (d : ℕ) → IsActivationCarried m g.flags g.roots l k ys ys s.world.memory s.world.memory
      t.world.memory target slots_new.1.anew.carried d z
  carried_over a d = record {
    over = λ stays o. o;
    slots = λ al b e flagged old. slot_kept m g.flags g.roots l k ys ys s.world.memory s.world.memory t.world.memory
        target slots_new.1.anew.carried d a al b e (record { goes_on = λ goes. goes; slots = λ slot on. on })
        (slots_new.1.anew.kept b) old;
  }

  all_carried : (below : List Activation) → AreBelowCarried m g.flags g.roots l k ys ys s.world.memory s.world.memory
      t.world.memory target slots_new.1.anew.carried below
  all_carried [] = tt
  all_carried (a ∷ below) = (carried_over a (length below), all_carried below)

  now : slice_get ys y.number ≡ Some (record y.instance { status = Status.Running })
  now = set_here s.instances n x (record x { status = Status.Running }) is.there

  abbrev first_top : Activation
  first_top = record (resumed y.number y.instance y.suspend first_values) { block = position_of f label; at = 0 }

  abbrev second_top : Activation
  second_top = record (resumed y.number y.instance y.suspend second_values) {
    block = position_of f label;
    at = 0;
    slots = anew.top.slots;
  }

  resumed_there : IsBeside g.given.code g.flags g.roots (record s {
    instances = ys;
    top = first_top;
    below = s1.top ∷ s.below;
  }) (record t {
    world = record t.world { memory = target };
    instances = zs;
    top = second_top;
    below = t1.top ∷ t.below;
  })
  unfolding slots_new
  resumed_there = record {
    ledger = k;
    outcome = beside.outcome;
    world = record {
      memory = slots_new.1.anew.standing.memory;
      nulls = slots_new.1.anew.standing.nulls;
      bounds = slots_new.1.anew.standing.bounds;
      events = beside.world.events;
      answers = beside.world.answers;
      allocs = beside.world.allocs;
    };
    entered = slots_new.1.anew.entered;
    instances = instances_kept m g.flags g.roots l k ys ys s.world.memory s.world.memory t.world.memory target
        slots_new.1.anew.carried 0 ys zs (λ j w v at ib. record {
          slots = λ p al b asleep flagged old. kept_slot_on m g.flags g.roots l k ys ys s.world.memory s.world.memory
              t.world.memory target slots_new.1.anew.carried w p al b (slots_new.1.anew.kept b) old;
          gone = λ slot on flagged gone. gone;
        }) running.instances;
    top = resumed_beside g rules l s.world.memory x n y.suspend y.values z.values found.kept found.instance.slots listed
        is.block is.first is.named base label depth st beside.entered is.switch is.own ys now;
    below = (
      activation_kept m g.flags g.roots l k ys ys s.world.memory s.world.memory t.world.memory target
          slots_new.1.anew.carried (length s.below) s1.top t1.top (carried_over s1.top (length s.below)) running.top,
      record { no_part = λ v slot root given. absurd (cc); no_alloca = λ v made given. absurd (cc) },
      below_kept m g.flags g.roots l k ys ys s.world.memory s.world.memory t.world.memory target
          slots_new.1.anew.carried s.top.result s.below t.below (all_carried s.below) running.below,
    );
  }

  -- ---- the states that the steps lead to

  coroutine_is : z.instance.coroutine ≡ y.instance.coroutine
  coroutine_is = ap (λ (w : Instance). w.coroutine) found.instance.is

  values_are : beside.top.values ≡ t.top.values
  values_are = ap (λ (w : Activation). w.values) (sym beside.top.is)

  -- its values are those that the second run's activation has
  abbrev entered_second : Env → State
  entered_second vs = record t {
    world = record t.world { memory = target };
    instances = zs;
    top = second_top;
    below = record t.top { at = t.top.at + 1; values = vs } ∷ t.below;
  }

  abbrev started : Env → State
  started vs = record t {
    instances = zs;
    top = resumed y.number y.instance y.suspend (kept (g.keep y.instance.coroutine y.suspend) z.values);
    below = record t.top { at = t.top.at + 1; values = vs } ∷ t.below;
  }

  pub starts_anew : continue_renewed g t z.number z.instance z.suspend z.values label ≡ renew_after g (started
      t.top.values) y.suspend.block label (renewed_from (g.flags y.instance.coroutine) f 0)
  starts_anew = λ j. renew_after g (record t {
    instances = slice_set t.instances (found.number j) (record z.instance { status = Status.Running });
    top = record {
      func = coroutine_is j;
      block = (found.suspend j).block;
      at = (found.suspend j).at;
      values = kept (g.keep (coroutine_is j) (found.suspend j)) z.values;
      slots = [];
      result = None;
      mode = Mode.Resumed;
      instance = Some (found.number j);
      has_left = false;
    };
    below = record t.top { at = t.top.at + 1 } ∷ t.below;
  }) (found.suspend j).block label (renewed_from (g.flags (coroutine_is j)) (function_at g.given.code (coroutine_is j)) 0)

  first_is : (d : Given) → d.code ≡ g.given.code → continue_keeping d g.keep s y.number y.instance y.suspend y.values label
      ≡ record s { instances = ys; top = first_top; below = s1.top ∷ s.below }
  first_is d code = λ j. record s {
    instances = ys;
    top = record (resumed y.number y.instance y.suspend ((values_at code ∙ no_phi_values m (slice_get f.blocks (position_of f
        label)) (label_of (slice_get f.blocks y.suspend.block)) first_values is.no_phis) j)) {
          block = position_of (function_at (code j) y.instance.coroutine) label;
          at = 0;
        };
    below = s1.top ∷ s.below;
  }
    where
      values_at : d.code ≡ g.given.code → values_in d.code (slice_get (function_at d.code y.instance.coroutine).blocks
          (position_of (function_at d.code y.instance.coroutine) label)) (label_of (slice_get (function_at d.code
          y.instance.coroutine).blocks y.suspend.block)) first_values ≡ values_in g.given.code (slice_get f.blocks
          (position_of f label)) (label_of (slice_get f.blocks y.suspend.block)) first_values
      values_at code = ap (λ c. values_in c (slice_get (function_at c y.instance.coroutine).blocks (position_of
          (function_at c y.instance.coroutine) label)) (label_of (slice_get (function_at c y.instance.coroutine).blocks
          y.suspend.block)) first_values) code

  -- ---- behind all slots

  abbrev ends_at : State → State
  ends_at u = renew_after g u y.suspend.block label None

  second_is : ends_at anew ≡ record t {
    world = record t.world { memory = target };
    instances = zs;
    top = second_top;
    below = t1.top ∷ t.below;
  }
  second_is = ap ends_at (made_like g y.suspend.block label anew_slots (started beside.top.values)) ∙ ap (λ env. record t {
    world = record t.world { memory = target };
    instances = zs;
    top = record second_top { values = env };
    below = t1.top ∷ t.below;
  }) (no_phi_values m (slice_get f.blocks (position_of f label)) (label_of (slice_get f.blocks y.suspend.block))
      second_values is.no_phis)

  pub next_slots : AreNext (g.flags y.instance.coroutine) (function_at g.given.code y.instance.coroutine) 0 anew_slots
  next_slots = next g rules l s.world.memory x n y.suspend y.values z.values found.kept found.instance.slots listed is.block
      is.first is.named base label depth st beside.entered

  pub resumes_beside : (d : Given) → d.code ≡ g.given.code → t.outcome ≡ Outcome.Running
      → IsBeside g.given.code g.flags g.roots (continue_keeping d g.keep s y.number y.instance y.suspend y.values label)
      (iterate (renewed_step g) (length anew_slots) (continue_renewed g t z.number z.instance z.suspend z.values label))
  resumes_beside d code runs = subst (λ u. IsBeside m g.flags g.roots u (iterate (renewed_step g) (length anew_slots)
      (continue_renewed g t z.number z.instance z.suspend z.values label))) (sym (first_is d code)) (subst (λ u. IsBeside
      m g.flags g.roots (record s { instances = ys; top = first_top; below = s1.top ∷ s.below }) (iterate (renewed_step
      g) (length anew_slots) u)) (sym starts_anew) (subst (λ vs. IsBeside m g.flags g.roots (record s {
        instances = ys;
        top = first_top;
        below = s1.top ∷ s.below;
      }) (iterate (renewed_step g) (length anew_slots) (renew_after g (started vs) y.suspend.block label (renewed_from
      (g.flags y.instance.coroutine) f 0)))) values_are (subst (λ u. IsBeside m g.flags g.roots (record s {
        instances = ys;
        top = first_top;
        below = s1.top ∷ s.below;
      }) u) (sym (entering_run g y.suspend.block label anew_slots 0 (started beside.top.values) runs next_slots
      ∙ second_is)) resumed_there)))

  -- ---- in between

  first_alike : (vs : Env) → beside.top.values ≡ vs → AreAlike (record s {
    instances = ys;
    top = first_top;
    below = s1.top ∷ s.below;
  }) (entered_second vs)
  first_alike vs e = subst (λ z. AreAlike (record s { instances = ys; top = first_top; below = s1.top ∷ s.below })
      (entered_second z)) e (beside_alike m g.flags g.roots _ _ resumed_there)

  pub on_way : (d : Given) → d.code ≡ g.given.code → t.outcome ≡ Outcome.Running → (j : ℕ) → j < length anew_slots
      → IsOnItsWay (continue_keeping d g.keep s y.number y.instance y.suspend y.values label) (iterate (renewed_step g) j
      (continue_renewed g t z.number z.instance z.suspend z.values label))
  on_way d code runs j lt = subst (λ u. IsOnItsWay (continue_keeping d g.keep s y.number y.instance y.suspend y.values
      label) (iterate (renewed_step g) j u)) (sym starts_anew) (subst (λ u. IsOnItsWay u (iterate (renewed_step g) j
      (renew_after g (started t.top.values) y.suspend.block label (renewed_from (g.flags y.instance.coroutine) f 0))))
      (sym (first_is d code)) (record {
        entering = like.entering;
        running = like.outcome ∙ runs;
        events = like.events ∙ beside.world.events ∙ same_events s.world.events;
        alike = alike_of _ (entered_second t.top.values) _ (record {
          entering = like.entering;
          outcome = like.outcome;
          events = like.events;
          instances = like.instances;
          below = like.below;
          func = like.func;
          result = like.result;
          instance = like.instance;
          has_left = like.has_left;
        }) (first_alike t.top.values values_are);
      }))
    where
      like : IsLike (started t.top.values) (iterate (renewed_step g) j (renew_after g (started t.top.values) y.suspend.block
          label (renewed_from (g.flags y.instance.coroutine) f 0)))
      like = like_on g y.suspend.block label anew_slots 0 j (started t.top.values) runs next_slots lt

  -- ---- what they cost

  pub resumes_cost : (p : Prices) → t.outcome ≡ Outcome.Running → cost_from (renewed_step g) (renewed_price p g.given)
      (length anew_slots) (continue_renewed g t z.number z.instance z.suspend z.values label) ≡ price_of_all (p.slot
      y.instance.coroutine) anew_slots
  resumes_cost p runs = ap (cost_from (renewed_step g) (renewed_price p g.given) (length anew_slots)) starts_anew
      ∙ entering_costs p g y.suspend.block label anew_slots 0 (started t.top.values) runs next_slots

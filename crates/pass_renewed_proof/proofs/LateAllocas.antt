-- A slot that may be made anew comes to an instance that is over: it is dead at once in the first run, and lives in the
-- second.
use Rattle.std.proofs.Common.{◌≡◌, ℕ, ◌+◌, ◌<◌, ◌^◌, Bool, List, [], ◌∷◌, ◌++◌, length, Some, refl}
use Rattle.std.proofs.Common.{sym, ap, ◌∙◌, subst, arith}
use Rattle.std.specs.Prelude.{IsTrue, slice_get, slice_set}
use Rattle.pass_kept_proof.specs.ir_model.Layout.{size_of}
use Rattle.pass_kept_proof.specs.ir_model.Names.{function_at}
use Rattle.pass_kept_proof.specs.ir_model.Ty.{Ty}
use Rattle.pass_kept_proof.specs.ir_model.declared.module.Module.{Module}
use Rattle.pass_kept_proof.specs.run_memory.Memory.{fresh, is_killed, killed, killed_block}
use Rattle.pass_kept_proof.specs.run_memory.declared.block.MemoryBlock.{MemoryBlock}
use Rattle.pass_kept_proof.specs.run_source.State.{settled, with_instance, with_memory, with_slots}
use Rattle.pass_kept_proof.specs.run_source.declared.state.Instance.{Instance}
use Rattle.pass_kept_proof.specs.run_source.declared.state.State.{State}
use Rattle.pass_kept_proof.specs.run_step.Step.{alloca_kind}
use Rattle.pass_kept_proof.specs.run_step.Values.{pointer_to, with_value}
use Rattle.pass_kept_proof.specs.run_step.declared.world.Slot.{Slot}
use Rattle.pass_renewed_proof.proofs.Dying.{kills}
use Rattle.pass_renewed_proof.proofs.Listing.{contains_first, first_more, instance_beside, instances_grown}
use Rattle.pass_renewed_proof.proofs.Listing.{instances_set, one_grown, set_here, worlds_beside}
use Rattle.pass_renewed_proof.proofs.Marked.{dead_carried, dead_entered, dead_kept, dead_stand, dies, ready_like}
use Rattle.pass_renewed_proof.proofs.Marked.{with_from}
use Rattle.pass_renewed_proof.proofs.NewName.{named_beside}
use Rattle.pass_renewed_proof.proofs.SlotAllocas.{fresh_is, made, owner_is, ready_is, seat_is, set_same, tenant_is}
use Rattle.pass_renewed_proof.specs.Beside.{AreInstancesBeside, Begun, IsBeside, IsInstanceBeside}
use Rattle.pass_renewed_proof.specs.Ledger.{IsFresh, IsGone, Ledger, LivesIn, Seat, slot_ledger}
use Rattle.pass_renewed_proof.specs.Making.{IsAllocaOfSlot, slot_block}
use Rattle.pass_renewed_proof.specs.Muted.{muted}
use Rattle.pass_renewed_proof.specs.Places.{AreStanding, IsReady}
use Rattle.pass_renewed_proof.specs.Renewed.{Flags, Roots}
use Rattle.pass_renewed_proof.specs.SlotRules.{KeepsSlots}

module _ (m : Module) (flags : Flags) (roots : Roots) (keeps : (func : ℕ)
    → KeepsSlots m (function_at m func) (flags func) (roots func)) (s t : State) (beside : IsBeside m flags roots s t)
    (a : ℕ) (ty : Ty) (align : ℕ) (is : IsAllocaOfSlot m flags s.top a ty align) (small : size_of m ty < 2 ^ 64)
    (u : Bool) (i : ℕ) (x : Instance) (own : s.top.instance ≡ Some i) (there : slice_get s.instances i ≡ Some x)
    (same_func : x.coroutine ≡ s.top.func) where
  abbrev b : ℕ
  b = length s.world.memory

  abbrev c : ℕ
  c = length t.world.memory

  abbrev seat : Seat
  seat = record { func = s.top.func; alloca = a; depth = length s.below; instance = s.top.instance }

  abbrev k : Ledger
  k = slot_ledger beside.ledger b c (length s.below) seat

  -- both make it
  abbrev memory : List MemoryBlock
  memory = s.world.memory ++ slot_block m s ty align u ∷ []

  abbrev target : List MemoryBlock
  target = fresh t.world.memory (size_of m ty) align (alloca_kind (function_at m s.top.func))

  abbrev s1 : State
  s1 = record s { world = record s.world { memory = memory } }

  abbrev t1 : State
  t1 = record t { world = record t.world { memory = target } }

  abbrev first : IsBeside m flags roots s1 t1
  first = made m flags roots keeps s t beside a ty align is small u

  seated : k.seats b ≡ Some seat
  seated = seat_is m flags roots keeps s t beside a ty align is small u

  st : AreStanding k.homes (muted k.hides memory) target
  st = record { memory = first.world.memory; nulls = first.world.nulls; bounds = first.world.bounds }

  -- the first one's dies
  abbrev dead : List MemoryBlock
  dead = killed memory b

  abbrev s2 : State
  s2 = record s { world = record s.world { memory = dead } }

  abbrev second : IsBeside m flags roots s2 t1
  second =
      let stands = dead_stand m k memory target b killed_block kills (λ z. refl) first.entered seat seated st in
      worlds_beside m flags roots s1 t1 first k (record s.world { memory = dead }) (record t.world { memory = target })
      (dead_carried m k memory target b killed_block kills (λ z. refl) first.entered seat seated) (λ d z at. dead_kept
      m k memory target b killed_block kills (λ z. refl) first.entered seat seated d) (record {
        memory = stands.memory;
        nulls = stands.nulls;
        bounds = stands.bounds;
        events = first.world.events;
        answers = first.world.answers;
        allocs = first.world.allocs;
      }) (dead_entered m k memory target b killed_block kills (λ z. refl) first.entered seat seated)

  not_live : LivesIn dead b → ⊥
  not_live = dies m k memory target b killed_block kills (λ z. refl) first.entered seat seated

  gone : IsGone dead b
  gone z at = let from = with_from memory b killed_block z at in ap (λ (q : MemoryBlock). is_killed q.life) from.2

  still_fresh : IsFresh k dead b
  still_fresh = record {
    unseen = (fresh_is m flags roots keeps s t beside a ty align is small u).unseen;
    blank = λ z at live. absurd (not_live (record { block = z; there = at; is_live = live }));
  }

  ready : (z : MemoryBlock) → slice_get dead b ≡ Some z → IsReady target c z
  ready z at =
      let from = with_from memory b killed_block z at in
      ready_like target c from.0 z (ap (λ (q : MemoryBlock). q.size) from.2) (ap (λ (q : MemoryBlock). q.align) from.2)
      (ready_is m flags roots keeps s t beside a ty align is small u from.0 from.1)

  number : 0 + i ≡ i
  number = omega arith

  abbrev slot : Slot
  slot = record { alloca = a; block = b }

  abbrev ys : List Instance
  ys = slice_set s.instances i (record x { slots = slot ∷ x.slots })

  instances : (y : Instance) → slice_get t.instances i ≡ Some y → IsInstanceBeside m flags roots k dead (0 + i) x y
      → AreInstancesBeside m flags roots k dead 0 ys t.instances
  instances y at h = subst (AreInstancesBeside m flags roots k dead 0 ys) (set_same t.instances i y at) (instances_set m
      flags roots k dead 0 s.instances t.instances i (record x { slots = slot ∷ x.slots }) y second.instances
      (first_more m flags roots k dead (0 + i) x y slot (record {
        flagged = subst (λ g. IsTrue (flags g a)) (sym same_func) is.flagged;
        depth = length s.below;
        seat = seated ∙ ap (λ g. Some (record seat { func = g })) (sym same_func)
            ∙ ap (λ o. Some (record seat { func = x.coroutine; instance = o })) (own ∙ ap Some (sym number));
      }) (λ over. gone) h))

  abbrev listed : IsBeside m flags roots (record s2 { instances = ys }) t1
  listed =
      let y = instance_beside m flags roots k dead 0 s.instances t.instances i x second.instances there in
      instances_grown m flags roots s2 t1 second ys t.instances (one_grown s.instances i x slot there) (instances y.0
      y.1 y.2)

  pub late_slot : IsBeside m flags roots (with_memory (with_instance (settled s (record {
    world = record s.world { memory = s.world.memory ++ slot_block m s ty align u ∷ [] };
    values = with_value s.top.values a (pointer_to (length s.world.memory));
  })) i (record x { slots = record { alloca = a; block = length s.world.memory } ∷ x.slots })) (killed (s.world.memory
      ++ slot_block m s ty align u ∷ []) (length s.world.memory))) (with_slots (settled t (record {
        world = record t.world {
          memory = fresh t.world.memory (size_of m ty) align (alloca_kind (function_at m s.top.func));
        };
        values = with_value t.top.values a (pointer_to (length t.world.memory));
      })) (record { alloca = a; block = length t.world.memory } ∷ t.top.slots))
  late_slot = named_beside m flags roots keeps (record s2 { instances = ys }) t1 listed a ty align b c (record {
    place = is.place;
    here = is.here;
    flagged = is.flagged;
    named = is.named;
  }) (Begun i (record x { slots = slot ∷ x.slots }) own (set_here s.instances i x _ there) (contains_first _ x.slots))
      seated (owner_is m flags roots keeps s t beside a ty align is small u) (tenant_is m flags roots keeps s t beside a
      ty align is small u) ready still_fresh (λ h. absurd (not_live h)) (λ left h. absurd (not_live h))

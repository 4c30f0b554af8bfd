-- What stays of a state where its topmost activation moves on in another memory.
use Rattle.std.proofs.Common.{◌≡◌, ◌<◌, ◌≤◌, ◌⊎◌, inl, inr, ℕ, Bool, true, List, ◌∷◌, length}
use Rattle.std.proofs.Common.{Some, None, refl, sym, ap, ◌∙◌, subst, arith}
use Rattle.std.specs.List.{AllByRecursion}
use Rattle.std.specs.Prelude.{slice_get}
use Rattle.pass_renewed_proof.specs.ir_model.Names.{function_at}
use Rattle.pass_renewed_proof.specs.ir_model.declared.module.Module.{Module}
use Rattle.pass_renewed_proof.specs.ir_paths.declared.point.Point.{Point}
use Rattle.run_hooks.proofs.alive.Lives.{AreFewer}
use Rattle.run_hooks.proofs.alive.Parts.{AllIn, AreKept, IsLaterFor, IsMoved, IsNew, all_both, all_map, later_all}
use Rattle.run_hooks.proofs.alive.Parts.{met_by, slot_later}
use Rattle.run_hooks.proofs.alive.Parts.{tagged_later}
use Rattle.run_hooks.specs.Away.{spot_by, spot_of}
use Rattle.run_hooks.specs.alive.Alive.{Account, GoesOn, IsAliveIn, IsAliveInstance}
use Rattle.run_hooks.specs.alive.Alive.{IsAliveState, IsThere, MayLeave, Stays, account_of}
use Rattle.pass_renewed_proof.specs.SlotRules.{IsMadeOnce}
use Rattle.run_hooks.specs.alive.Slots.{AreAliveSlots, AreMet, IsAliveSlot, IsSlotOf, IsTagged, Own, Ramp, home_of}
use Rattle.run_hooks.specs.alive.Slots.{is_gone, lives}
use Rattle.pass_renewed_proof.specs.run_memory.declared.block.MemoryBlock.{MemoryBlock}
use Rattle.pass_renewed_proof.specs.run_source.declared.state.Activation.{Activation}
use Rattle.pass_renewed_proof.specs.run_source.declared.state.Instance.{Instance}
use Rattle.pass_renewed_proof.specs.run_source.declared.state.Mode.{Mode}
use Rattle.pass_renewed_proof.specs.run_source.declared.state.State.{State}
use Rattle.pass_renewed_proof.specs.run_source.declared.state.Status.{Status}
use Rattle.pass_renewed_proof.specs.run_step.Step.{block_of}
use Rattle.pass_renewed_proof.specs.run_step.Values.{Env, value_in}
use Rattle.pass_renewed_proof.specs.run_step.declared.world.World.{World}

module _ (m : Module) (counts : ℕ → ℕ → Bool) (k : Account) where
  -- the slots of each instance are tagged as its own
  abbrev pub AreOwned : Type 0
  AreOwned = (i : ℕ) (x : Instance) → slice_get k.instances i ≡ Some x
      → AllByRecursion (IsSlotOf k.tags (length k.memory) (Own i) (function_at m x.coroutine)) x.slots

  abbrev pub in_memory : List MemoryBlock → Account
  in_memory memory = record k { memory = memory }

  pub longer_kept : (memory : List MemoryBlock) → length k.memory ≤ length memory
      → AreKept k (record k { memory = memory })
  longer_kept memory longer = record { longer = longer; tags = λ b lt. refl }

  module _ (depth : ℕ) (a : Activation) (memory : List MemoryBlock) (block at : ℕ) (values : Env) (mode : Mode) where
    pub moved_in : length k.memory ≤ length memory → IsMoved m counts k depth a memory values
        (spot_of (function_at m a.func) a)
        (spot_by (function_at m a.func) mode (record { block = block; at = at })) (record { block = block; at = at })
        → ((i : ℕ) (x : Instance) → a.instance ≡ Some i → slice_get k.instances i ≡ Some x
        → AllByRecursion (IsSlotOf k.tags (length k.memory) (Own i) (function_at m a.func)) x.slots)
        → IsAliveIn m counts k depth a
        → IsAliveIn m counts (record k { memory = memory }) depth
        (record a { block = block; at = at; values = values; mode = mode })
    moved_in longer h owned o = record {
      tagged = λ v b made e. tagged v b made e (h.names v made);
      past = λ v b made e z. past v b made e z (h.names v made);
      owned = λ e. all_map _ _ a.slots
          (λ slot w. slot_later k (record k { memory = memory }) (longer_kept memory longer) (Ramp depth)
          (function_at m a.func) slot w) (o.owned e);
      early = early;
      met = λ e. h.met (Ramp depth) a.slots (o.owned e) (early e) (o.met e);
      stays = o.stays;
      goes = λ i x ei ex g over.
          let old = o.goes i x ei ex (back x g) over in
          record {
            runs = h.runs old.runs;
            slots = all_both (IsSlotOf k.tags (length k.memory) (Own i) (function_at m a.func))
                (IsAliveSlot (counts a.func) k.memory (function_at m a.func) a.values
                (spot_of (function_at m a.func) a))
                (IsAliveSlot (counts a.func) memory (function_at m a.func) values
                (spot_by (function_at m a.func) mode (record { block = block; at = at })))
                x.slots (λ slot own old now counted marked. h.held (Own i) slot own now counted
                (λ lived. old lived counted marked)) (owned i x ei ex) old.slots;
          };
      ended = λ i x ei ex left fin. h.after (o.ended i x ei ex left fin);
    }
      where
        early : a.instance ≡ None → AreAliveSlots (counts a.func) memory (function_at m a.func) values
            (spot_by (function_at m a.func) mode (record { block = block; at = at })) a.slots
        early e = all_both (IsSlotOf k.tags (length k.memory) (Ramp depth) (function_at m a.func))
            (IsAliveSlot (counts a.func) k.memory (function_at m a.func) a.values (spot_of (function_at m a.func) a))
            (IsAliveSlot (counts a.func) memory (function_at m a.func) values
            (spot_by (function_at m a.func) mode (record { block = block; at = at })))
            a.slots (λ slot own old now counted marked. h.held (Ramp depth) slot own now counted
            (λ lived. old lived counted marked)) (o.owned e) (o.early e)

        back : (x : Instance)
            → GoesOn (function_at m a.func) depth (record a { block = block; at = at; values = values; mode = mode }) x
            → GoesOn (function_at m a.func) depth a x
        back x (Stays e) = Stays e
        back x (MayLeave saved s l d never) = MayLeave saved s l d (λ w. never (h.behind w))

        q : Point
        q = spot_by (function_at m a.func) mode (record { block = block; at = at })

        tagged : (v b : ℕ) (made : IsMadeOnce (function_at m a.func) v) → block_of (value_in values v) ≡ Some b
            → (value_in values v ≡ value_in a.values v)
            ⊎ IsNew m counts k (home_of a.instance depth) (function_at m a.func) (length memory) values q v made
            → IsTagged k.tags (length memory) (home_of a.instance depth) v b
        tagged v b made e (inl same) =
            let old = o.tagged v b made (ap block_of (sym same) ∙ e) in
            record { there = let c = old.there in omega (arith, longer, c); tag = old.tag }
        tagged v b made e (inr new) = new.tagged b e

        past : (v b : ℕ) (made : IsMadeOnce (function_at m a.func) v) → block_of (value_in values v) ≡ Some b
            → (spot_by (function_at m a.func) mode (record { block = block; at = at })).block ≡ 0
            → (value_in values v ≡ value_in a.values v)
            ⊎ IsNew m counts k (home_of a.instance depth) (function_at m a.func) (length memory) values q v made
            → made.at < (spot_by (function_at m a.func) mode (record { block = block; at = at })).at
        past v b made e z (inl same) = h.past made.at (λ w. o.past v b made (ap block_of (sym same) ∙ e) w) z
        past v b made e z (inr new) = new.past z

-- the function of the topmost activation is that of its instance
abbrev pub IsOfOwn : State → Type 0
IsOfOwn s = (i : ℕ) (x : Instance) → s.top.instance ≡ Some i → slice_get s.instances i ≡ Some x
    → x.coroutine ≡ s.top.func

-- ---- activations and instances that stay, in a memory with no fewer blocks

module _ (m : Module) (counts : ℕ → ℕ → Bool) where
  -- the same slots are no more alive
  pub fewer_for : (k : Account) (memory : List MemoryBlock) → AreFewer k.memory memory → AreOwned m counts k
      → (depth : ℕ) (a : Activation) → IsLaterFor m counts k (record k { memory = memory }) depth a
  fewer_for k memory fewer owned depth a = record {
    kept = longer_kept m counts k memory fewer.longer;
    early = λ e slot own now. fewer.live slot.block own.tagged.there now;
    goes = λ i y ei ey g over. record {
      old = y;
      there = ey;
      goes = g;
      not_over = over;
      slots = λ values p. all_both
          (IsSlotOf k.tags (length k.memory) (Own i) (function_at m y.coroutine))
          (IsAliveSlot (counts a.func) k.memory (function_at m a.func) values p)
          (IsAliveSlot (counts a.func) memory (function_at m a.func) values p) y.slots
          (λ slot own old now. old (fewer.live slot.block own.tagged.there now)) (owned i y ey);
    };
    ended = λ i y ei ey left fin. (y, ey, fin);
  }

  -- what a change of memory leaves of an instance
  pub record IsLaterInstance (k l : Account) (x : Instance) : Type 0 where
    pub asleep : (u : Point) (values : Env) → x.status ≡ Status.Suspended u values → AllByRecursion
        (λ slot. lives l.memory slot.block ≡ true → lives k.memory slot.block ≡ true) x.slots
    pub gone : AllByRecursion (λ slot. is_gone k.memory slot.block ≡ true → is_gone l.memory slot.block ≡ true) x.slots
    pub met : AreMet (counts x.coroutine) k.memory (function_at m x.coroutine) x.slots
        → AreMet (counts x.coroutine) l.memory (function_at m x.coroutine) x.slots

  pub fewer_instance : (k : Account) (memory : List MemoryBlock) → AreFewer k.memory memory → AreOwned m counts k
      → (i : ℕ) (x : Instance) → slice_get k.instances i ≡ Some x
      → IsLaterInstance k (record k { memory = memory }) x
  fewer_instance k memory fewer owned i x ex = record {
    asleep = λ u values e. all_map (IsSlotOf k.tags (length k.memory) (Own i) (function_at m x.coroutine)) _ x.slots
        (λ slot own now. fewer.live slot.block own.tagged.there now) (owned i x ex);
    gone = all_map (IsSlotOf k.tags (length k.memory) (Own i) (function_at m x.coroutine)) _ x.slots
        (λ slot own now. fewer.gone slot.block own.tagged.there now) (owned i x ex);
    met = met_by (counts x.coroutine) k.memory memory (function_at m x.coroutine)
        (IsSlotOf k.tags (length k.memory) (Own i) (function_at m x.coroutine)) x.slots
        (λ slot own now. fewer.live slot.block own.tagged.there now) (owned i x ex);
  }

  pub later_instance : (k l : Account) (stack others : List Activation) (i : ℕ) (x : Instance) → AreKept k l
      → IsLaterInstance k l x → (IsThere i stack → IsThere i others) → IsAliveInstance m counts k stack i x
      → IsAliveInstance m counts l others i x
  later_instance k l stack others i x kept h there o = record {
    owned = all_map _ _ x.slots (λ slot w. slot_later k l kept (Own i) (function_at m x.coroutine) slot w) o.owned;
    shared = o.shared;
    over = λ e. all_both (λ slot. is_gone k.memory slot.block ≡ true)
        (λ slot. is_gone k.memory slot.block ≡ true → is_gone l.memory slot.block ≡ true)
        (λ slot. is_gone l.memory slot.block ≡ true) x.slots (λ slot was now. now was) (o.over e) h.gone;
    met = h.met o.met;
    asleep = λ u values e.
        let old = o.asleep u values e in
        record {
          tagged = λ v b made w. tagged_later k l kept (Own i) v b (old.tagged v b made w);
          alive = record {
            runs = old.alive.runs;
            slots = all_both (λ slot. lives l.memory slot.block ≡ true → lives k.memory slot.block ≡ true)
                (IsAliveSlot (counts x.coroutine) k.memory (function_at m x.coroutine) values u)
                (IsAliveSlot (counts x.coroutine) l.memory (function_at m x.coroutine) values u) x.slots
                (λ slot back was now. was (back now)) (h.asleep u values e) old.alive.slots;
          };
        };
    running = λ e f. there (o.running e f);
  }

  -- ---- states

  pub owned_of : (s : State) (h : IsAliveState m counts s) → AreOwned m counts (account_of h.tags s)
  owned_of s h i x e = (h.instances i x e).owned

  pub top_owned : (s : State) (h : IsAliveState m counts s) → IsOfOwn s → (i : ℕ) (x : Instance)
      → s.top.instance ≡ Some i → slice_get s.instances i ≡ Some x
      → AllByRecursion (IsSlotOf h.tags (length s.world.memory) (Own i) (function_at m s.top.func)) x.slots
  top_owned s h own i x ei ex =
      subst (λ (n : ℕ). AllByRecursion (IsSlotOf h.tags (length s.world.memory) (Own i) (function_at m n)) x.slots)
      (own i x ei ex) (h.instances i x ex).owned

  -- the topmost activation moves on, in a memory in which nothing else lives that didn't
  pub record MovesOn (s : State) (h : IsAliveState m counts s) (memory : List MemoryBlock) (block at : ℕ)
      (values : Env) (mode : Mode) : Type 0 where
    pub longer : length s.world.memory ≤ length memory
    pub own : IsOfOwn s
    pub top : IsMoved m counts (account_of h.tags s) (length s.below) s.top memory values
        (spot_of (function_at m s.top.func) s.top)
        (spot_by (function_at m s.top.func) mode (record { block = block; at = at }))
        (record { block = block; at = at })
    pub below : AllIn
        (IsLaterFor m counts (account_of h.tags s) (record (account_of h.tags s) { memory = memory })) s.below
    pub instances : (i : ℕ) (x : Instance) → slice_get s.instances i ≡ Some x
        → IsLaterInstance (account_of h.tags s) (record (account_of h.tags s) { memory = memory }) x

  abbrev pub moves_on : (s : State) (h : IsAliveState m counts s) (world : World) (block at : ℕ) (values : Env)
      (mode : Mode)
      → MovesOn s h world.memory block at values mode
      → IsAliveState m counts (record s {
        world = world;
        top = record s.top { block = block; at = at; values = values; mode = mode };
      })
  moves_on s h world block at values mode o = record {
    tags = h.tags;
    stack = (
      moved_in m counts (account_of h.tags s) (length s.below) s.top world.memory block at values mode o.longer o.top
          (top_owned s h o.own) h.stack.0,
      h.stack.1,
      later_all m counts (account_of h.tags s) (record (account_of h.tags s) { memory = world.memory }) s.below
          o.below h.stack.2,
    );
    instances = λ i x e. later_instance (account_of h.tags s)
        (record (account_of h.tags s) { memory = world.memory }) (s.top ∷ s.below)
        (record s.top { block = block; at = at; values = values; mode = mode } ∷ s.below) i x
        (longer_kept m counts (account_of h.tags s) world.memory o.longer) (o.instances i x e) (λ there. there)
        (h.instances i x e);
  }

-- Where a new slot goes, in the meaning of a source.
use Rattle.std.proofs.Common.{◌≡◌, ℕ, zero, suc, Bool, true, false, not, List, [], ◌∷◌, ◌++◌, length}
use Rattle.std.proofs.Common.{Option, Some, None, refl, sym, ap, ◌∙◌, subst}
use Rattle.std.specs.List.{AllByRecursion}
use Rattle.std.specs.Prelude.{if◌then◌else◌, option_and_then, option_map, slice_get, slice_set, ◌&&◌}
use Rattle.pass_renewed_proof.specs.ir_model.Names.{function_at}
use Rattle.pass_renewed_proof.specs.ir_model.declared.module.Module.{Module}
use Rattle.pass_renewed_proof.specs.ir_paths.Slots.{IsRampSlot}
use Rattle.run_hooks.proofs.alive.Changes.{changed, others_later, restack}
use Rattle.run_hooks.proofs.alive.Behind.{IsInOrder, IsLower}
use Rattle.run_hooks.proofs.alive.Lives.{AreFewer, changed_fewer, killed_fewer, killed_gone}
use Rattle.run_hooks.proofs.alive.Moves.{fewer_for, fewer_instance, later_instance, longer_kept, owned_of}
use Rattle.run_hooks.proofs.alive.NewSlots.{HasNewSlot}
use Rattle.run_hooks.proofs.alive.Parts.{IsLaterFor, in_any, in_map, later_all, later_in, slot_later}
use Rattle.run_hooks.specs.Away.{spot_of}
use Rattle.run_hooks.specs.alive.Alive.{Account, GoesOn, IsAliveInstance, IsAliveState, KeepsAliveRules, MayLeave}
use Rattle.run_hooks.specs.alive.Alive.{Stays, account_of}
use Rattle.run_hooks.specs.alive.Slots.{AreAliveSlots, AreMet, IsSlotOf, Own, Ramp, home_of, is_gone, lives}
use Rattle.pass_renewed_proof.specs.run_memory.Memory.{killed, killed_block}
use Rattle.pass_renewed_proof.specs.run_memory.declared.block.MemoryBlock.{MemoryBlock}
use Rattle.pass_renewed_proof.specs.run_source.Source.{is_among, is_over, kill_late, new_slot, with_new_slots}
use Rattle.pass_renewed_proof.specs.run_source.State.{numbered, own_facts, own_instance, with_instance, with_memory, with_slots}
use Rattle.pass_renewed_proof.specs.run_source.declared.state.Activation.{Activation}
use Rattle.pass_renewed_proof.specs.run_source.declared.state.Instance.{Instance}
use Rattle.pass_renewed_proof.specs.run_source.declared.state.State.{State}
use Rattle.pass_renewed_proof.specs.run_source_tables.Given.{Given}
use Rattle.pass_renewed_proof.specs.run_step.Step.{has_markers}
use Rattle.pass_renewed_proof.specs.run_step.declared.world.Slot.{Slot}

-- an element that is set to itself
set_same : {A : Type 0} (xs : List A) (i : ℕ) (x : A) → slice_get xs i ≡ Some x → slice_set xs i x ≡ xs
set_same [] i x e = refl
set_same (y ∷ xs) zero x e = let same : x ≡ y = cc in λ j. same j ∷ xs
set_same (y ∷ xs) (suc i) x e = let rest = set_same xs i x e in λ j. y ∷ rest j

-- the topmost activation's instance, by its number
pub own_there : (s : State) (i : ℕ) (x : Instance) → own_instance s ≡ Some (i, x)
    → (s.top.instance ≡ Some i) × (slice_get s.instances i ≡ Some x)
own_there s i x e = of s.top.instance refl e
  where
    of : (o : Option ℕ) → s.top.instance ≡ o
        → option_and_then (numbered s.instances) o ≡ Some (i, x)
        → (s.top.instance ≡ Some i) × (slice_get s.instances i ≡ Some x)
    of None eo k = absurd (cc)
    of (Some j) eo k = at (slice_get s.instances j) refl k
      where
        at : (o : Option Instance) → slice_get s.instances j ≡ o
            → option_map {U = ℕ × Instance} (λ y. (j, y)) o ≡ Some (i, x)
            → (s.top.instance ≡ Some i) × (slice_get s.instances i ≡ Some x)
        at None em k = absurd (cc)
        at (Some y) em k =
            let pair : ◌≡◌ {A = ℕ × Instance} (j, y) (i, x) = cc in
            let ej : j ≡ i = ap (λ (p : ℕ × Instance). p.0) pair in
            let ey : y ≡ x = ap (λ (p : ℕ × Instance). p.1) pair in
            (eo ∙ ap Some ej, subst (λ (c : ℕ). slice_get s.instances c ≡ Some x) ej (em ∙ ap Some ey))

module _ (m : Module) (counts : ℕ → ℕ → Bool) where
  -- ---- a memory in which no more lives

  pub with_fewer : (s : State) (h : IsAliveState m counts s) (memory : List MemoryBlock)
      → AreFewer s.world.memory memory → IsAliveState m counts (with_memory s memory)
  with_fewer s h memory fewer = record {
    tags = h.tags;
    stack = later_all m counts k (record k { memory = memory }) (s.top ∷ s.below)
        (in_any _ (s.top ∷ s.below) (fewer_for m counts k memory fewer (owned_of m counts s h))) h.stack;
    instances = λ i x e. later_instance m counts k (record k { memory = memory }) (s.top ∷ s.below)
        (s.top ∷ s.below) i x (longer_kept m counts k memory fewer.longer)
        (fewer_instance m counts k memory fewer (owned_of m counts s h) i x e) (λ there. there) (h.instances i x e);
  }
    where
      k : Account
      k = account_of h.tags s

  -- ---- the activation's own slots

  pub retop : (s : State) (h : IsAliveState m counts s) (slots : List Slot)
      → (s.top.instance ≡ None → AllByRecursion (IsSlotOf h.tags (length s.world.memory) (Ramp (length s.below))
      (function_at m s.top.func)) slots)
      → (s.top.instance ≡ None → AreAliveSlots (counts s.top.func) s.world.memory (function_at m s.top.func)
      s.top.values (spot_of (function_at m s.top.func) s.top) slots)
      → (s.top.instance ≡ None → AreMet (counts s.top.func) s.world.memory (function_at m s.top.func) slots)
      → IsAliveState m counts (with_slots s slots)
  retop s h slots owned early met = record {
    tags = h.tags;
    stack = (
      record {
        tagged = h.stack.0.tagged;
        past = h.stack.0.past;
        owned = owned;
        early = early;
        met = met;
        stays = h.stack.0.stays;
        goes = λ i x ei ex g over. h.stack.0.goes i x ei ex (same x g) over;
        ended = h.stack.0.ended;
      },
      h.stack.1,
      h.stack.2,
    );
    instances = λ i x e. restack m counts (account_of h.tags s) (s.top ∷ s.below)
        (record s.top { slots = slots } ∷ s.below) i x (λ running kept there. there) (h.instances i x e);
  }
    where
      same : (x : Instance) → GoesOn (function_at m s.top.func) (length s.below) (record s.top { slots = slots }) x
          → GoesOn (function_at m s.top.func) (length s.below) s.top x
      same x (Stays e) = Stays e
      same x (MayLeave saved sleeps l d never) = MayLeave saved sleeps l d never

  module _ (s : State) (slot : Slot) (n : HasNewSlot m counts s slot) where
    abbrev h : IsAliveState m counts s
    h = n.alive

    pub slot_kept : IsAliveState m counts (with_slots s (slot ∷ s.top.slots))
    slot_kept = retop s n.alive (slot ∷ s.top.slots)
        (λ e. (
          subst (λ (o : Option ℕ). IsSlotOf n.alive.tags (length s.world.memory) (home_of o (length s.below))
              (function_at m s.top.func) slot) e n.own,
          n.alive.stack.0.owned e,
        )) (λ e. ((λ now counted marked. absurd (n.quiet now marked)), n.alive.stack.0.early e)) (λ e. record {
          point = (n.alive.stack.0.met e).point;
          each = ((λ now counted marked shared. absurd (n.quiet now marked)), (n.alive.stack.0.met e).each);
        })

    quiet_in : (func : ℕ) → func ≡ s.top.func → lives s.world.memory slot.block ≡ true
        → has_markers (function_at m func) slot.alloca ≡ true → ⊥
    quiet_in func e now marked =
        n.quiet now (subst (λ (c : ℕ). has_markers (function_at m c) slot.alloca ≡ true) e marked)

    -- ---- the instance's slots

    module _ (order : IsInOrder s) (i : ℕ) (x : Instance) (ei : s.top.instance ≡ Some i)
        (there : slice_get s.instances i ≡ Some x) (shared : IsRampSlot (function_at m s.top.func) slot.alloca → ⊥)
        (late : is_over x ≡ true → is_gone s.world.memory slot.block ≡ true) where
      abbrev y : Instance
      y = record x { slots = slot ∷ x.slots }

      abbrev l : Account
      l = record (account_of n.alive.tags s) { instances = slice_set s.instances i y }

      own : x.coroutine ≡ s.top.func
      own = order.own i x ei there

      later : (d : ℕ) (a : Activation) → (a.instance ≡ Some i → x.coroutine ≡ a.func)
          → IsLaterFor m counts (account_of n.alive.tags s) l d a
      later d a of = others_later m counts s n.alive i y d a (λ ea g over. record {
        old = x;
        there = there;
        goes = same g;
        not_over = over;
        slots = λ values p t. ((λ now counted marked. absurd (quiet_in a.func (sym (of ea) ∙ own) now marked)), t);
      }) (λ ea left fin. (x, there, fin))
        where
          same : GoesOn (function_at m a.func) d a y → GoesOn (function_at m a.func) d a x
          same (Stays e) = Stays e
          same (MayLeave saved sleeps e w never) = MayLeave saved sleeps e w never

      is_own : IsAliveInstance m counts l (s.top ∷ s.below) i y
      is_own =
          let old = n.alive.instances i x there in
          record {
            owned = (
              subst (λ (c : ℕ). IsSlotOf n.alive.tags (length s.world.memory) (Own i) (function_at m c) slot) (sym own)
                  (subst (λ (o : Option ℕ). IsSlotOf n.alive.tags (length s.world.memory) (home_of o (length s.below))
                  (function_at m s.top.func) slot) ei n.own),
              old.owned,
            );
            shared = (
              subst (λ (c : ℕ). IsRampSlot (function_at m c) slot.alloca → ⊥) (sym own) shared,
              old.shared,
            );
            over = λ e. (late e, old.over e);
            met = record {
              point = old.met.point;
              each = (
                (λ now counted marked shared. absurd (quiet_in x.coroutine own now marked)),
                old.met.each,
              );
            };
            asleep = λ u values e.
                let o = old.asleep u values e in
                record {
                  tagged = o.tagged;
                  alive = record {
                    runs = o.alive.runs;
                    slots = (
                      (λ now counted marked. absurd (quiet_in x.coroutine own now marked)),
                      o.alive.slots,
                    );
                  };
                };
            running = λ e f. old.running e f;
          }

      pub slot_shared : IsAliveState m counts (with_instance s i (record x { slots = slot ∷ x.slots }))
      slot_shared = changed m counts s n.alive i x y s.top there refl
          (later_in m counts (account_of n.alive.tags s) l (length s.below) s.top
          (later (length s.below) s.top (λ ea. own)) n.alive.stack.0)
          (in_map (IsLower s) (IsLaterFor m counts (account_of n.alive.tags s) l) s.below
          (λ d a low. later d a (λ ea. low.own i x ea there)) order.lower)
          is_own (λ j z ne e stays. stays)

  -- ---- a source's new slot

  pub placed : (g : Given) → g.code ≡ m → (s : State) (slot : Slot) → HasNewSlot m counts s slot → IsInOrder s
      → KeepsAliveRules (function_at m s.top.func) (own_facts g s).ramp_slots
      → IsAliveState m counts (new_slot g s slot)
  unfolding with_fewer
  placed g code s slot n order rules = on (own_instance s) (own_there s)
    where
      ramp : List ℕ
      ramp = (own_facts g s).ramp_slots

      late : Bool → Bool → State
      late t b = if b && not t then with_memory s (killed s.world.memory slot.block) else s

      -- by whether it is a ramp slot, and whether its instance is over
      by : (i : ℕ) (x : Instance) → s.top.instance ≡ Some i → slice_get s.instances i ≡ Some x → (t : Bool)
          → is_among (own_facts g s).ramp_slots slot ≡ t → (b : Bool) → is_over x ≡ b
          → IsAliveState m counts (with_slots
          (with_instance (late t b) i (record x { slots = (if not t then slot ∷ [] else []) ++ x.slots }))
          ((if t then slot ∷ [] else []) ++ (late t b).top.slots))
      by i x ei ex true et true eb = subst (λ (xs : List Instance). IsAliveState m counts
          (record (with_slots s (slot ∷ s.top.slots)) { instances = xs })) (sym (set_same s.instances i x ex))
          (slot_kept s slot n)
      by i x ei ex true et false eb = subst (λ (xs : List Instance). IsAliveState m counts
          (record (with_slots s (slot ∷ s.top.slots)) { instances = xs })) (sym (set_same s.instances i x ex))
          (slot_kept s slot n)
      by i x ei ex false et false eb = slot_shared s slot n order i x ei ex
          (λ r. let no : true ≡ false = sym (rules.ramp slot.alloca n.own.made r) ∙ et in absurd (cc))
          (λ o. let no : true ≡ false = sym o ∙ eb in absurd (cc))
      by i x ei ex false et true eb =
          slot_shared (with_memory s (killed s.world.memory slot.block)) slot dead
          (record {
            own = order.own;
            lower = in_map (IsLower s) (IsLower (with_memory s (killed s.world.memory slot.block))) s.below
                (λ d a low. record { less = low.less; left = low.left; own = low.own }) order.lower;
            awake = order.awake;
          }) i x ei ex
          (λ r. let no : true ≡ false = sym (rules.ramp slot.alloca n.own.made r) ∙ et in absurd (cc))
          (λ o. killed_gone s.world.memory slot.block)
        where
          fewer : AreFewer s.world.memory (killed s.world.memory slot.block)
          fewer = changed_fewer s.world.memory slot.block killed_block killed_fewer

          dead : HasNewSlot m counts (with_memory s (killed s.world.memory slot.block)) slot
          dead = record {
            alive = with_fewer s n.alive (killed s.world.memory slot.block) fewer;
            own = slot_later (account_of n.alive.tags s)
                (record (account_of n.alive.tags s) { memory = killed s.world.memory slot.block })
                (longer_kept m counts (account_of n.alive.tags s) (killed s.world.memory slot.block) fewer.longer)
                (home_of s.top.instance (length s.below)) (function_at m s.top.func) slot n.own;
            quiet = λ now marked. n.quiet (fewer.live slot.block n.own.tagged.there now) marked;
          }

      on : (o : Option (ℕ × Instance))
          → ((i : ℕ) (x : Instance) → o ≡ Some (i, x) → (s.top.instance ≡ Some i) × (slice_get s.instances i ≡ Some x))
          → IsAliveState m counts (with_new_slots (own_facts g s).ramp_slots o
          (kill_late (own_facts g s).ramp_slots o s slot) (slot ∷ []))
      on None is = slot_kept s slot n
      on (Some p) is =
          let r = is p.0 p.1 refl in
          by p.0 p.1 r.0 r.1 (is_among (own_facts g s).ramp_slots slot) refl (is_over p.1) refl

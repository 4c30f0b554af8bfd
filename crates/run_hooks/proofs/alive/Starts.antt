-- A start of a slot leaves a state in which live slots may be alive.
use Rattle.std.proofs.Common.{◌≡◌, ◌≤◌, ◌⊎◌, inl, inr, ℕ, ◌+◌, Bool, true, false, List, [], length, Option, Some, None}
use Rattle.std.proofs.Common.{refl, sym, ap, ◌∙◌, subst, arith}
use Rattle.std.specs.List.{AllByRecursion}
use Rattle.std.specs.Prelude.{slice_get, ◌==◌}
use Rattle.pass_renewed_proof.proofs.frame_slots.Points.{where_complete}
use Rattle.pass_renewed_proof.specs.frame_slots.Uses.{is_marker_of}
use Rattle.pass_renewed_proof.specs.ir_model.Names.{function_at}
use Rattle.pass_renewed_proof.specs.ir_model.declared.instr.Instr.{Instr}
use Rattle.pass_renewed_proof.specs.ir_model.declared.module.Function.{Function}
use Rattle.pass_renewed_proof.specs.ir_model.declared.module.Module.{Module}
use Rattle.pass_renewed_proof.specs.ir_model.declared.operand.Intrinsic.{Intrinsic}
use Rattle.pass_renewed_proof.specs.ir_model.declared.operand.Operand.{Operand}
use Rattle.pass_renewed_proof.specs.ir_paths.Slots.{IsRampSlot}
use Rattle.pass_renewed_proof.specs.ir_paths.Windows.{call_operand, is_call_of}
use Rattle.pass_renewed_proof.specs.ir_paths.declared.point.Point.{Point}
use Rattle.pass_renewed_proof.specs.pass_kept_proof.SuspendRules.{IsCallAt}
use Rattle.pass_renewed_proof.specs.SlotRules.{IsMadeOnce, IsMarkerAt}
use Rattle.pass_renewed_proof.specs.rule_windows.Sets.{IsAfterEnd}
use Rattle.run_hooks.proofs.alive.Lives.{not_gone}
use Rattle.run_hooks.proofs.alive.Moves.{IsLaterInstance, longer_kept, moves_on}
use Rattle.run_hooks.proofs.alive.Open.{after, open_behind}
use Rattle.run_hooks.proofs.alive.Parts.{IsLaterFor, all_both, all_map, in_map, met_by, own_number, ramp_depth}
use Rattle.run_hooks.proofs.alive.Parts.{same_alloca, same_home}
use Rattle.run_hooks.proofs.alive.Ramps.{is_ramp_or_not}
use Rattle.run_hooks.specs.Away.{point_in}
use Rattle.run_hooks.specs.alive.Alive.{Account, GoesOn, IsAliveState, IsEnded, IsStart, KeepsAliveRules, MayLeave}
use Rattle.run_hooks.specs.alive.Alive.{Stays, account_of}
use Rattle.run_hooks.specs.alive.Slots.{AreAliveSlots, AreMet, Home, IsAliveSlot, IsHeld, IsMetSlot, IsOpen, IsSlotOf}
use Rattle.run_hooks.specs.alive.Slots.{IsTagged, Own, Ramp, home_of, is_gone, lives}
use Rattle.pass_renewed_proof.specs.run_memory.Memory.{ended, start, started, with_block}
use Rattle.pass_renewed_proof.specs.run_memory.declared.block.MemoryBlock.{MemoryBlock}
use Rattle.pass_renewed_proof.specs.run_source.Source.{is_over}
use Rattle.pass_renewed_proof.specs.run_source.State.{is_suspended, settled, work_of}
use Rattle.pass_renewed_proof.specs.run_source.declared.state.Activation.{Activation}
use Rattle.pass_renewed_proof.specs.run_source.declared.state.Instance.{Instance}
use Rattle.pass_renewed_proof.specs.run_source.declared.state.Mode.{Mode}
use Rattle.pass_renewed_proof.specs.run_source.declared.state.State.{State}
use Rattle.pass_renewed_proof.specs.run_step.Step.{AtInstr, block_of, fetch, set_memory}
use Rattle.pass_renewed_proof.specs.run_step.Values.{value_in}
use Rattle.pass_renewed_proof.specs.run_step.declared.world.Slot.{Slot}
use Rattle.run_hooks.proofs.alive.Marks.{spot_is, held_on, start_no_end, start_no_coro_end, both_are, instr_there}
use Rattle.run_hooks.proofs.alive.Marks.{started_live, started_gone, same_length}
use Rattle.run_hooks.proofs.alive.Behind.{IsLower, IsInOrder, edge, core, same_instr, IsShut}

module _ (m : Module) (counts : ℕ → ℕ → Bool) (s : State) (h : IsAliveState m counts s) (order : IsInOrder s)
    (ramp_slots : List ℕ) (rules : KeepsAliveRules (function_at m s.top.func) ramp_slots)
    (entering : (from label : ℕ) → s.top.mode ≡ Mode.Entering from label → ⊥)
    (i : Instr) (stands : fetch (function_at m s.top.func) s.top.block s.top.at ≡ AtInstr i) where
  abbrev f : Function
  f = function_at m s.top.func

  abbrev p : Point
  p = point_in s.top

  abbrev k : Account
  k = account_of h.tags s

  -- ---- a start

  module _ (shut : (IsShut m counts s h order ramp_slots rules entering i stands)) (v b : ℕ) (made : IsMadeOnce f v)
      (known : block_of (value_in s.top.values v) ≡ Some b)
      (is : is_call_of Intrinsic.LifetimeStart i ≡ true) (takes : call_operand i 1 ≡ Operand.Local v) where
    abbrev memory : List MemoryBlock
    memory = with_block s.world.memory b started

    tagged : IsTagged h.tags (length s.world.memory) (home_of s.top.instance (length s.below)) v b
    tagged = h.stack.0.tagged v b made known

    here : IsMarkerAt f Intrinsic.LifetimeStart v p
    here = record { instr = i; stands = stands; is = is; takes = takes }

    longer : length s.world.memory ≤ length (with_block s.world.memory b started)
    longer = let e = same_length s.world.memory b started in omega (arith, e)

    slot_tagged : (home : Home) (g : Function) (slot : Slot) → IsSlotOf h.tags (length s.world.memory) home g slot
        → slot.block ≡ b → IsTagged h.tags (length s.world.memory) home slot.alloca b
    slot_tagged home g slot own e =
        subst (λ (n : ℕ). IsTagged h.tags (length s.world.memory) home slot.alloca n) e own.tagged

    -- a slot of an instance in this block is of the topmost activation's, and of the alloca
    own_instance : (j : ℕ) (g : Function) (slot : Slot) → IsSlotOf h.tags (length s.world.memory) (Own j) g slot
        → slot.block ≡ b → s.top.instance ≡ Some j
    own_instance j g slot own e = own_number s.top.instance (length s.below) j
        (same_home h.tags (length s.world.memory) (home_of s.top.instance (length s.below)) (Own j) v slot.alloca b
        tagged (slot_tagged (Own j) g slot own e))

    own_alloca : (home : Home) (g : Function) (slot : Slot) → IsSlotOf h.tags (length s.world.memory) home g slot
        → slot.block ≡ b → v ≡ slot.alloca
    own_alloca home g slot own e =
        same_alloca h.tags (length s.world.memory) (home_of s.top.instance (length s.below)) home v slot.alloca b
        tagged (slot_tagged home g slot own e)

    -- so the activation hasn't left
    not_left : (j : ℕ) (x : Instance) → slice_get s.instances j ≡ Some x → (slot : Slot)
        → IsSlotOf h.tags (length s.world.memory) (Own j) (function_at m x.coroutine) slot
        → (IsRampSlot (function_at m x.coroutine) slot.alloca → ⊥) → slot.block ≡ b → s.top.has_left ≡ true → ⊥
    not_left j x ex slot own shared e left =
        let same : x.coroutine ≡ s.top.func = order.own j x (own_instance j _ slot own e) ex in
        let alloca : v ≡ slot.alloca = own_alloca (Own j) _ slot own e in
        let here_shared : IsRampSlot (function_at m s.top.func) v → ⊥ =
        subst (λ (n : ℕ). IsRampSlot (function_at m s.top.func) n → ⊥) (sym alloca)
        (subst (λ (n : ℕ). IsRampSlot (function_at m n) slot.alloca → ⊥) same shared) in
        rules.closed Intrinsic.LifetimeStart IsStart v p here (shut Intrinsic.LifetimeStart IsStart v here left) made
        here_shared

    abbrev Both : ℕ → Instance → Slot → Type 0
    Both j x slot = IsSlotOf h.tags (length s.world.memory) (Own j) (function_at m x.coroutine) slot
        × (IsRampSlot (function_at m x.coroutine) slot.alloca → ⊥)

    both : (j : ℕ) (x : Instance) → slice_get s.instances j ≡ Some x → AllByRecursion (Both j x) x.slots
    both j x ex = all_both (IsSlotOf h.tags (length s.world.memory) (Own j) (function_at m x.coroutine))
        (λ slot. IsRampSlot (function_at m x.coroutine) slot.alloca → ⊥) (Both j x) x.slots
        (λ slot own shared. (own, shared)) (h.instances j x ex).owned (h.instances j x ex).shared

    -- what others have lives no more than before
    lived : (j : ℕ) (x : Instance) → slice_get s.instances j ≡ Some x
        → (s.top.instance ≡ Some j → s.top.has_left ≡ false → ⊥) → (slot : Slot) → Both j x slot
        → lives memory slot.block ≡ true → lives s.world.memory slot.block ≡ true
    lived j x ex never slot t now = on (started_live s.world.memory b slot.block now)
      where
        by : (e : Bool) → s.top.has_left ≡ e → slot.block ≡ b → ⊥
        by true left e = not_left j x ex slot t.0 t.1 e left
        by false left e = never (own_instance j _ slot t.0 e) left

        on : (lives s.world.memory slot.block ≡ true) ⊎ (slot.block ≡ b) → lives s.world.memory slot.block ≡ true
        on (inl e) = e
        on (inr e) = absurd (by s.top.has_left refl e)

    below : (d : ℕ) (a : Activation) → IsLower s d a
        → IsLaterFor m counts (account_of h.tags s) (record (account_of h.tags s) { memory = memory }) d a
    below d a low = record {
      kept = longer_kept m counts (account_of h.tags s) memory longer;
      early = λ e slot own now. early slot own (started_live s.world.memory b slot.block now);
      goes = λ j y ej ey g over. record {
        old = y;
        there = ey;
        goes = g;
        not_over = over;
        slots = λ values q. all_both (Both j y)
            (IsAliveSlot (counts a.func) s.world.memory (function_at m a.func) values q)
            (IsAliveSlot (counts a.func) memory (function_at m a.func) values q) y.slots
            (λ slot t old now. old (lived j y ey (λ ei left. stops j y ej ey g ei left) slot t now)) (both j y ey);
      };
      ended = λ j y ej ey left fin. (y, ey, fin);
    }
      where
        early : (slot : Slot) → IsSlotOf h.tags (length s.world.memory) (Ramp d) (function_at m a.func) slot
            → (lives s.world.memory slot.block ≡ true) ⊎ (slot.block ≡ b) → lives s.world.memory slot.block ≡ true
        early slot own (inl e) = e
        early slot own (inr e) =
            let same : length s.below ≡ d = ramp_depth s.top.instance (length s.below) d
            (same_home h.tags (length s.world.memory) (home_of s.top.instance (length s.below)) (Ramp d) v slot.alloca
            b tagged (slot_tagged (Ramp d) _ slot own e)) in
            let less = low.less in
            absurd (omega (arith, same, less))

        stops : (j : ℕ) (y : Instance) → a.instance ≡ Some j → slice_get s.instances j ≡ Some y
            → GoesOn (function_at m a.func) d a y → s.top.instance ≡ Some j → s.top.has_left ≡ false → ⊥
        stops j y ej ey (Stays e) ei left = let l : a.has_left ≡ true = low.left j ei ej in
            let no : true ≡ false = sym l ∙ e in absurd (cc)
        stops j y ej ey (MayLeave saved sleeps e d never) ei left =
            let no : true ≡ false = sym sleeps ∙ order.awake j y ei ey left in absurd (cc)

    -- the slot that is started may be alive right behind the start
    held : (home : Home) (slot : Slot) → IsSlotOf h.tags (length s.world.memory) home f slot
        → lives memory slot.block ≡ true → counts s.top.func slot.alloca ≡ true
        → (lives s.world.memory slot.block ≡ true → IsHeld f s.top.values p slot) → IsHeld f s.top.values (after p) slot
    held home slot own now counted was = on (started_live s.world.memory b slot.block now)
      where
        on : (lives s.world.memory slot.block ≡ true) ⊎ (slot.block ≡ b) → IsHeld f s.top.values (after p) slot
        on (inl e) = held_on f s.top.values s.top.values p (after p) slot
            (edge m counts s h order ramp_slots rules entering i stands)
            (λ mark. start_no_end i is (subst (λ (j : Instr). is_call_of Intrinsic.LifetimeEnd j ≡ true)
            ((same_instr m counts s h order ramp_slots rules entering i stands) mark.instr mark.stands) mark.is)) refl
            (was e)
        on (inr e) =
            let alloca : v ≡ slot.alloca = own_alloca home f slot own e in
            subst (λ (n : ℕ). IsHeld f s.top.values (after p) (record slot { alloca = n })) alloca (record {
              start = p;
              is_start = where_complete (is_marker_of Intrinsic.LifetimeStart v) f p i (instr_there f p i stands)
                  (both_are i v is takes);
              path = record { between = []; is_path = (edge m counts s h order ramp_slots rules entering i stands) };
              known = known ∙ ap Some (sym e);
            })

    held_all : (j : ℕ) (x : Instance) → AllByRecursion (IsSlotOf h.tags (length s.world.memory) (Own j) f) x.slots
        → AreAliveSlots (counts s.top.func) s.world.memory f s.top.values p x.slots
        → AreAliveSlots (counts s.top.func) memory f s.top.values (after p) x.slots
    held_all j x own alive = all_both (IsSlotOf h.tags (length s.world.memory) (Own j) f)
        (IsAliveSlot (counts s.top.func) s.world.memory f s.top.values p)
        (IsAliveSlot (counts s.top.func) memory f s.top.values (after p)) x.slots
        (λ slot is old now counted marked. held (Own j) slot is now counted (λ was. old was counted marked)) own alive

    -- at the start of a coroutine slot the point behind it is open
    open_here : (IsRampSlot f v → ⊥) → IsOpen f (after p)
    open_here shared = open_behind f p i stands (λ e. outside (rules.first p i stands e)) no_end never
      where
        never : IsAfterEnd f p → ⊥
        never a = rules.closed Intrinsic.LifetimeStart IsStart v p here (inl a) made shared

        no_end : IsCallAt Intrinsic.CoroEnd f p → ⊥
        no_end c = start_no_coro_end i is (subst (λ (j : Instr). is_call_of Intrinsic.CoroEnd j ≡ true)
            ((same_instr m counts s h order ramp_slots rules entering i stands) c.instr c.stands) c.is)

        outside : IsEnded f p → ⊥
        outside (inl c) = no_end c
        outside (inr a) = never a

    -- there all live slots are alive
    met_there : (slots : List Slot) → (IsRampSlot f v → ⊥)
        → AreAliveSlots (counts s.top.func) memory f s.top.values (after p) slots
        → AreMet (counts s.top.func) memory f slots
    met_there slots shared alive = record {
      point = after p;
      each = all_map (IsAliveSlot (counts s.top.func) memory f s.top.values (after p))
          (IsMetSlot (counts s.top.func) memory f (after p)) slots (λ slot o now counted marked other.
          let k = o now counted marked in
          record { is_open = open_here shared; start = k.start; is_start = k.is_start; path = k.path }) alive;
    }

    -- a start of a ramp slot starts no other
    met_still : (home : Home) (slots : List Slot) → IsRampSlot f v
        → AllByRecursion (IsSlotOf h.tags (length s.world.memory) home f) slots
        → AreMet (counts s.top.func) s.world.memory f slots → AreMet (counts s.top.func) memory f slots
    met_still home slots ramp own old = record {
      point = old.point;
      each = all_both (IsSlotOf h.tags (length s.world.memory) home f)
          (IsMetSlot (counts s.top.func) s.world.memory f old.point) (IsMetSlot (counts s.top.func) memory f old.point)
          slots (λ slot is was now counted marked shared. was (lived_other slot is shared now) counted marked shared)
          own old.each;
    }
      where
        lived_other : (slot : Slot) → IsSlotOf h.tags (length s.world.memory) home f slot
            → (IsRampSlot f slot.alloca → ⊥) → lives memory slot.block ≡ true → lives s.world.memory slot.block ≡ true
        lived_other slot is shared now = on (started_live s.world.memory b slot.block now)
          where
            on : (lives s.world.memory slot.block ≡ true) ⊎ (slot.block ≡ b) → lives s.world.memory slot.block ≡ true
            on (inl e) = e
            on (inr e) = absurd (shared (subst (IsRampSlot f) (own_alloca home f slot is e) ramp))

    met : (home : Home) (slots : List Slot) → AllByRecursion (IsSlotOf h.tags (length s.world.memory) home f) slots
        → AreAliveSlots (counts s.top.func) memory f s.top.values (after p) slots
        → AreMet (counts s.top.func) s.world.memory f slots → AreMet (counts s.top.func) memory f slots
    met home slots own alive old = on (is_ramp_or_not f v made)
      where
        on : IsRampSlot f v ⊎ (IsRampSlot f v → ⊥) → AreMet (counts s.top.func) memory f slots
        on (inl ramp) = met_still home slots ramp own old
        on (inr shared) = met_there slots shared alive

    -- of an instance, which may be the topmost activation's
    met_of : (j : ℕ) (x : Instance) → slice_get s.instances j ≡ Some x
        → AreMet (counts x.coroutine) s.world.memory (function_at m x.coroutine) x.slots
        → AreMet (counts x.coroutine) memory (function_at m x.coroutine) x.slots
    met_of j x ex old = on (is_over x) refl
      where
        -- what lives did so before
        still : (s.top.instance ≡ Some j → s.top.has_left ≡ false → ⊥)
            → AreMet (counts x.coroutine) memory (function_at m x.coroutine) x.slots
        still never = met_by (counts x.coroutine) s.world.memory memory (function_at m x.coroutine) (Both j x) x.slots
            (λ slot t now. lived j x ex never slot t now) (both j x ex) old

        own : s.top.instance ≡ Some j → s.top.has_left ≡ false → is_over x ≡ false
            → AreMet (counts x.coroutine) memory (function_at m x.coroutine) x.slots
        own ej left over =
            let same : x.coroutine ≡ s.top.func = order.own j x ej ex in
            let now = h.stack.0.goes j x ej ex (Stays left) over in
            subst (λ (n : ℕ). AreMet (counts n) memory (function_at m n) x.slots) (sym same)
            (met (Own j) x.slots
            (subst (λ (n : ℕ). AllByRecursion (IsSlotOf h.tags (length s.world.memory) (Own j) (function_at m n))
            x.slots)
            same (h.instances j x ex).owned)
            (held_all j x (subst (λ (n : ℕ). AllByRecursion
            (IsSlotOf h.tags (length s.world.memory) (Own j) (function_at m n)) x.slots) same
            (h.instances j x ex).owned)
            (subst (λ (z : Point). AreAliveSlots (counts s.top.func) s.world.memory f s.top.values z x.slots)
            (spot_is f s.top.mode p entering) now.slots))
            (subst (λ (n : ℕ). AreMet (counts n) s.world.memory (function_at m n) x.slots) same old))

        by : (o : Option ℕ) → s.top.instance ≡ o → (t : Bool) → s.top.has_left ≡ t → is_over x ≡ false
            → AreMet (counts x.coroutine) memory (function_at m x.coroutine) x.slots
        by None e t et over = still (λ ej left. let no : None ≡ Some j = sym e ∙ ej in absurd (cc))
        by (Some n) e true et over = still (λ ej left. let no : true ≡ false = sym et ∙ left in absurd (cc))
        by (Some n) e false et over = at (n == j) refl
          where
            at : (u : Bool) → (n == j) ≡ u → AreMet (counts x.coroutine) memory (function_at m x.coroutine) x.slots
            at true eu = let same : n ≡ j = grind (arith, eu) in own (e ∙ ap Some same) et over
            at false eu = still (λ ej left.
                let both : Some n ≡ Some j = sym e ∙ ej in
                let same : n ≡ j = cc in
                let no : (n == j) ≡ true = grind (arith, same) in
                let wrong : true ≡ false = sym no ∙ eu in absurd (cc))

        on : (t : Bool) → is_over x ≡ t → AreMet (counts x.coroutine) memory (function_at m x.coroutine) x.slots
        on true e = record {
          point = old.point;
          each = all_map (λ slot. is_gone s.world.memory slot.block ≡ true)
              (IsMetSlot (counts x.coroutine) memory (function_at m x.coroutine) old.point) x.slots
              (λ slot gone now. absurd (not_gone memory slot.block now
              (started_gone s.world.memory b slot.block gone))) ((h.instances j x ex).over e);
        }
        on false e = by s.top.instance refl s.top.has_left refl e

    instances : (j : ℕ) (x : Instance) → slice_get s.instances j ≡ Some x
        → IsLaterInstance m counts (account_of h.tags s) (record (account_of h.tags s) { memory = memory }) x
    instances j x ex = record {
      asleep = λ u values e. all_map (Both j x) _ x.slots
          (λ slot t now. lived j x ex (λ ei left.
          let no : true ≡ false = sym (ap is_suspended e) ∙ order.awake j x ei ex left in absurd (cc)) slot t now)
          (both j x ex);
      gone = all_map (Both j x) _ x.slots (λ slot t was. started_gone s.world.memory b slot.block was) (both j x ex);
      met = met_of j x ex;
    }

    pub started_goes : IsAliveState m counts (settled s (set_memory (work_of s) (with_block s.world.memory b started)))
    started_goes =
        moves_on m counts s h (record s.world { memory = memory }) s.top.block (s.top.at + 1) s.top.values s.top.mode
        (record {
          longer = longer;
          own = order.own;
          top = (core m counts s h order ramp_slots rules entering i stands) memory s.top.values
              (λ c. start_no_coro_end i is (subst
              (λ (j : Instr). is_call_of Intrinsic.CoroEnd j ≡ true) ((same_instr m counts s h order ramp_slots rules
              entering i stands) c.instr c.stands) c.is))
              (λ n o. inl refl) held met;
          below = in_map (IsLower s) _ s.below below order.lower;
          instances = instances;
        })

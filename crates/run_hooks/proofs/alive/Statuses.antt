-- A save, a leaving edge, the end and a deallocation leave a state in which live slots may be alive.
use Rattle.std.proofs.Common.{◌≡◌, ◌<◌, ◌≤◌, ◌⊎◌, inl, inr, ℕ, zero, suc, Bool, true, false, List, [], ◌∷◌, length}
use Rattle.std.proofs.Common.{Option, Some, None, refl, sym, ap, ◌∙◌, subst, arith}
use Rattle.std.proofs.lemmas.Bool.{cases_lt}
use Rattle.std.specs.List.{AllByRecursion}
use Rattle.std.specs.Prelude.{slice_get, slice_set, ◌||◌}
use Rattle.pass_renewed_proof.specs.ir_model.Names.{function_at}
use Rattle.pass_renewed_proof.specs.ir_model.declared.module.Module.{Module}
use Rattle.pass_renewed_proof.specs.ir_paths.Slots.{IsRampSlot}
use Rattle.pass_renewed_proof.specs.ir_paths.declared.point.Point.{Point}
use Rattle.pass_renewed_proof.specs.rule_windows.Sets.{IsAfterEnd, RunsOut}
use Rattle.run_hooks.proofs.alive.Changes.{changed, others_later}
use Rattle.run_hooks.proofs.alive.Behind.{IsInOrder, IsLower}
use Rattle.run_hooks.proofs.alive.Marks.{same_length}
use Rattle.run_hooks.proofs.alive.Lives.{killed_gone}
use Rattle.run_hooks.proofs.alive.Lives.{without_fewer}
use Rattle.run_hooks.proofs.alive.Parts.{Here, IsLaterFor, IsSet, Other, all_both, get_set, in_any, in_map, later_in}
use Rattle.run_hooks.specs.Away.{point_in, spot_of}
use Rattle.run_hooks.specs.alive.Alive.{Account, AreAliveAt, GoesOn, IsAliveAsleep, IsAliveIn, IsAliveInstance}
use Rattle.run_hooks.specs.alive.Alive.{IsAliveState, IsEnded, IsThere}
use Rattle.run_hooks.specs.alive.Alive.{MayLeave, Stays, account_of}
use Rattle.run_hooks.specs.alive.Slots.{AreAliveSlots, AreTagged, IsAliveSlot, IsHeld, IsSlotOf, IsTagged, Own, home_of}
use Rattle.run_hooks.specs.alive.Slots.{is_gone}
use Rattle.pass_renewed_proof.specs.run_memory.Memory.{killed, killed_block}
use Rattle.pass_renewed_proof.specs.run_memory.declared.block.MemoryBlock.{MemoryBlock}
use Rattle.pass_renewed_proof.specs.run_source.Source.{is_over}
use Rattle.pass_renewed_proof.specs.run_source.State.{is_finished, is_suspended, with_instance, with_left}
use Rattle.pass_renewed_proof.specs.run_source.declared.state.Activation.{Activation}
use Rattle.pass_renewed_proof.specs.run_source.declared.state.Instance.{Instance}
use Rattle.pass_renewed_proof.specs.run_source.declared.state.Saved.{Saved}
use Rattle.pass_renewed_proof.specs.run_source.declared.state.State.{State}
use Rattle.pass_renewed_proof.specs.run_source.declared.state.Status.{Status}
use Rattle.pass_renewed_proof.specs.run_step.Step.{without_slots}
use Rattle.pass_renewed_proof.specs.run_step.Values.{Env}
use Rattle.pass_renewed_proof.specs.run_step.declared.world.Slot.{Slot}

not_finished : (x : Instance) → (is_finished x.status ≡ true → ⊥) → x.freed ≡ false → is_over x ≡ false
not_finished x never kept = on (is_finished x.status) refl
  where
    on : (t : Bool) → is_finished x.status ≡ t → (t || x.freed) ≡ false
    on true e = absurd (never e)
    on false e = kept

-- an instance that is over is Finished or freed
over_by : (x : Instance) → is_over x ≡ false → is_finished x.status ≡ true → ⊥
over_by x e fin = let no : true ≡ false = sym (ap (λ (t : Bool). t || x.freed) fin) ∙ e in absurd (cc)

-- one that is Suspended is over where it is freed
pub suspended_over : (x : Instance) → is_suspended x.status ≡ true → is_over x ≡ x.freed
suspended_over x e = on x.status e refl
  where
    on : (s : Status) → is_suspended s ≡ true → x.status ≡ s → is_over x ≡ x.freed
    on Status.Running e es = absurd (cc)
    on (Status.Suspended u values) e es = ap (λ (s : Status). is_finished s || x.freed) es
    on Status.Finished e es = absurd (cc)

module _ (m : Module) (counts : ℕ → ℕ → Bool) (s : State) (h : IsAliveState m counts s) (order : IsInOrder s) where
  abbrev k : Account
  k = account_of h.tags s

  -- ---- an own instance

  module _ (i : ℕ) (x : Instance) (ei : s.top.instance ≡ Some i) (there : slice_get s.instances i ≡ Some x) where
    same_number : (j : ℕ) → s.top.instance ≡ Some j → j ≡ i
    same_number j ej = let both : Some j ≡ Some i = sym ej ∙ ei in cc

    own : x.coroutine ≡ s.top.func
    own = order.own i x ei there

    other_stays : (a : Activation) (j : ℕ) → (j ≡ i → ⊥) → IsThere j (s.top ∷ s.below) → IsThere j (a ∷ s.below)
    other_stays a j ne (inl z) = absurd (ne (same_number j z.0))
    other_stays a j ne (inr z) = inr z

    -- ---- a save

    module _ (left : s.top.has_left ≡ false) (kept : x.freed ≡ false) (early : is_finished x.status ≡ true → ⊥)
        (save u : Point)
        (held : (slot : Slot) → IsHeld (function_at m s.top.func) s.top.values
        (spot_of (function_at m s.top.func) s.top) slot
        → IsSlotOf h.tags (length s.world.memory) (Own i) (function_at m s.top.func) slot
        → (IsRampSlot (function_at m s.top.func) slot.alloca → ⊥)
        → IsHeld (function_at m s.top.func) s.top.values u slot)
        (runs : RunsOut (function_at m s.top.func) (spot_of (function_at m s.top.func) s.top)
        → RunsOut (function_at m s.top.func) u) where
      abbrev asleep : Instance
      asleep = record x {
        status = Status.Suspended u s.top.values;
        last_save = Some (record { depth = length s.below; save = save });
      }

      abbrev l : Account
      l = record (account_of h.tags s) { instances = slice_set s.instances i asleep }

      old : AreAliveAt (counts s.top.func) s.world.memory (function_at m s.top.func) s.top.values
          (spot_of (function_at m s.top.func) s.top) x
      old = h.stack.0.goes i x ei there (Stays left) (not_finished x early kept)

      top : IsAliveIn m counts l (length s.below) (record s.top { has_left = true })
      top = record {
        tagged = h.stack.0.tagged;
        past = h.stack.0.past;
        owned = λ e. let no : None ≡ Some i = sym e ∙ ei in absurd (cc);
        early = λ e. let no : None ≡ Some i = sym e ∙ ei in absurd (cc);
        met = λ e. let no : None ≡ Some i = sym e ∙ ei in absurd (cc);
        stays = λ e. let no : None ≡ Some i = sym e ∙ ei in absurd (cc);
        goes = λ j z ej ez g over. on j z (same_number j ej) (get_set s.instances i asleep j z ez);
        ended = λ j z ej ez stays fin. absurd (cc);
      }
        where
          on : (j : ℕ) (z : Instance) → j ≡ i → IsSet s.instances i asleep j z
              → AreAliveAt (counts s.top.func) s.world.memory (function_at m s.top.func) s.top.values
              (spot_of (function_at m s.top.func) s.top) z
          on j z e (Here ej ez) = subst (λ (w : Instance). AreAliveAt (counts s.top.func) s.world.memory
              (function_at m s.top.func) s.top.values (spot_of (function_at m s.top.func) s.top) w) (sym ez)
              (record { runs = old.runs; slots = old.slots })
          on j z e (Other ne w) = absurd (ne e)

      below : (d : ℕ) (a : Activation) → IsLower s d a → IsLaterFor m counts (account_of h.tags s) l d a
      below d a low = others_later m counts s h i asleep d a (λ ea g over. absurd (never ea g))
          (λ ea stays fin. absurd (cc))
        where
          never : a.instance ≡ Some i → GoesOn (function_at m a.func) d a asleep → ⊥
          never ea (Stays e) = let no : true ≡ false = sym (low.left i ei ea) ∙ e in absurd (cc)
          never ea (MayLeave saved sleeps e depth w) =
              let same : record { depth = length s.below; save = save } ≡ saved = cc in
              let at : length s.below ≡ saved.depth = ap (λ (z : Saved). z.depth) same in
              let less = low.less in
              absurd (omega (arith, at, depth, less))

      tagged : AreTagged h.tags (length s.world.memory) (Own i) (function_at m s.top.func) s.top.values
      tagged v b made e = subst (λ (o : Option ℕ). IsTagged h.tags
          (length s.world.memory) (home_of o (length s.below)) v b) ei (h.stack.0.tagged v b made e)

      owned : AllByRecursion (IsSlotOf h.tags (length s.world.memory) (Own i) (function_at m s.top.func)) x.slots
      owned = subst (λ (c : ℕ). AllByRecursion (IsSlotOf h.tags (length s.world.memory) (Own i) (function_at m c))
          x.slots) own (h.instances i x there).owned

      abbrev Both : Slot → Type 0
      Both slot = IsSlotOf h.tags (length s.world.memory) (Own i) (function_at m s.top.func) slot
          × (IsRampSlot (function_at m s.top.func) slot.alloca → ⊥)

      both : AllByRecursion Both x.slots
      both = all_both (IsSlotOf h.tags (length s.world.memory) (Own i) (function_at m s.top.func))
          (λ slot. IsRampSlot (function_at m s.top.func) slot.alloca → ⊥) Both x.slots (λ slot a b. (a, b)) owned
          (subst (λ (c : ℕ). AllByRecursion (λ slot. IsRampSlot (function_at m c) slot.alloca → ⊥) x.slots) own
          (h.instances i x there).shared)

      at_suspend : AreAliveSlots (counts s.top.func) s.world.memory (function_at m s.top.func) s.top.values u x.slots
      at_suspend = all_both Both
          (IsAliveSlot (counts s.top.func) s.world.memory (function_at m s.top.func) s.top.values
          (spot_of (function_at m s.top.func) s.top))
          (IsAliveSlot (counts s.top.func) s.world.memory (function_at m s.top.func) s.top.values u) x.slots
          (λ slot is was now counted marked. held slot (was now counted marked) is.0 is.1) both old.slots

      is_own : IsAliveInstance m counts l (record s.top { has_left = true } ∷ s.below) i asleep
      is_own =
          let o = h.instances i x there in
          record {
            owned = o.owned;
            shared = o.shared;
            over = λ e. let no : true ≡ false = sym e ∙ kept in absurd (cc);
            met = o.met;
            asleep = λ v values e.
                let eu : u ≡ v = cc in
                let es : s.top.values ≡ values = cc in
                subst (λ (c : ℕ). IsAliveAsleep m counts l i
                (record asleep { coroutine = c }) v values) (sym own)
                (subst (λ (q : Point). IsAliveAsleep m counts l i
                (record asleep { coroutine = s.top.func }) q values) eu
                (subst (λ (vs : Env). IsAliveAsleep m counts l i
                (record asleep { coroutine = s.top.func }) u vs) es
                (record { tagged = tagged; alive = record { runs = runs old.runs; slots = at_suspend } })));
            running = λ e f. absurd (cc);
          }

      pub saved_alive : IsAliveState m counts (with_left (with_instance s i (record x {
        status = Status.Suspended u s.top.values;
        last_save = Some (record { depth = length s.below; save = save });
      })) true)
      saved_alive = changed m counts s h i x asleep (record s.top { has_left = true }) there refl top
          (in_map (IsLower s) (IsLaterFor m counts (account_of h.tags s) l) s.below below order.lower) is_own
          (λ j z ne e stays. other_stays (record s.top { has_left = true }) j ne stays)

    -- ---- a leaving edge

    module _ (saved : Saved) (sleeps : is_suspended x.status ≡ true) (last : x.last_save ≡ Some saved)
        (depth : saved.depth ≡ length s.below) (before : IsAfterEnd (function_at m s.top.func) (point_in s.top) → ⊥)
      where
        abbrev awake : Instance
        awake = record x { status = Status.Running }

        abbrev w : Account
        w = record (account_of h.tags s) { instances = slice_set s.instances i awake }

        woken_top : IsAliveIn m counts w (length s.below) (record s.top { has_left = false })
        woken_top = record {
          tagged = h.stack.0.tagged;
          past = h.stack.0.past;
          owned = λ e. let no : None ≡ Some i = sym e ∙ ei in absurd (cc);
          early = λ e. let no : None ≡ Some i = sym e ∙ ei in absurd (cc);
          met = λ e. let no : None ≡ Some i = sym e ∙ ei in absurd (cc);
          stays = λ e. let no : None ≡ Some i = sym e ∙ ei in absurd (cc);
          goes = λ j z ej ez g over. on j z (same_number j ej) over (get_set s.instances i awake j z ez);
          ended = λ j z ej ez stays fin. on_ended j z (same_number j ej) fin (get_set s.instances i awake j z ez);
        }
          where
            on : (j : ℕ) (z : Instance) → j ≡ i → is_over z ≡ false → IsSet s.instances i awake j z
                → AreAliveAt (counts s.top.func) s.world.memory (function_at m s.top.func) s.top.values
                (spot_of (function_at m s.top.func) s.top) z
            on j z e over (Here ej ez) =
                let kept : x.freed ≡ false = sym (ap is_over ez) ∙ over in
                let old = h.stack.0.goes i x ei there (MayLeave saved sleeps last depth before)
                (suspended_over x sleeps ∙ kept) in
                subst (λ (y : Instance). AreAliveAt (counts s.top.func) s.world.memory (function_at m s.top.func)
                s.top.values (spot_of (function_at m s.top.func) s.top) y) (sym ez)
                (record { runs = old.runs; slots = old.slots })
            on j z e over (Other ne y) = absurd (ne e)

            on_ended : (j : ℕ) (z : Instance) → j ≡ i → is_finished z.status ≡ true → IsSet s.instances i awake j z
                → IsEnded (function_at m s.top.func) (spot_of (function_at m s.top.func) s.top)
            on_ended j z e fin (Here ej ez) =
                let no : false ≡ true = sym (ap (λ (y : Instance). is_finished y.status) ez) ∙ fin in absurd (cc)
            on_ended j z e fin (Other ne y) = absurd (ne e)

        woken_below : (d : ℕ) (a : Activation) → IsLower s d a → IsLaterFor m counts (account_of h.tags s) w d a
        woken_below d a low = others_later m counts s h i awake d a (λ ea g over. absurd (never ea g))
            (λ ea stays fin. absurd (cc))
          where
            never : a.instance ≡ Some i → GoesOn (function_at m a.func) d a awake → ⊥
            never ea (Stays e) = let no : true ≡ false = sym (low.left i ei ea) ∙ e in absurd (cc)
            never ea (MayLeave other now e d' v) = absurd (cc)

        pub woken_alive : IsAliveState m counts
            (with_left (with_instance s i (record x { status = Status.Running })) false)
        woken_alive = changed m counts s h i x awake (record s.top { has_left = false }) there refl woken_top
            (in_map (IsLower s) (IsLaterFor m counts (account_of h.tags s) w) s.below woken_below order.lower)
            (record {
              owned = (h.instances i x there).owned;
              shared = (h.instances i x there).shared;
              over = λ e. (h.instances i x there).over (suspended_over x sleeps ∙ e);
              met = (h.instances i x there).met;
              asleep = λ v values e. absurd (cc);
              running = λ e f. inl (ei, refl);
            }) (λ j z ne e stays. other_stays (record s.top { has_left = false }) j ne stays)

    -- ---- the end

    module _ (at_end : IsEnded (function_at m s.top.func) (spot_of (function_at m s.top.func) s.top))
        (gone : AllByRecursion (λ slot. is_gone s.world.memory slot.block ≡ true) x.slots) where
      abbrev over : Instance
      over = record x { status = Status.Finished }

      abbrev o : Account
      o = record (account_of h.tags s) { instances = slice_set s.instances i over }

      ended_later : (d : ℕ) (a : Activation)
          → (a.instance ≡ Some i → a.has_left ≡ false → ⊥) → IsLaterFor m counts (account_of h.tags s) o d a
      ended_later d a never = others_later m counts s h i over d a (λ ea g not_over. absurd (cc))
          (λ ea stays fin. absurd (never ea stays))

      ended_top : IsAliveIn m counts o (length s.below) s.top
      ended_top = record {
        tagged = h.stack.0.tagged;
        past = h.stack.0.past;
        owned = λ e. let no : None ≡ Some i = sym e ∙ ei in absurd (cc);
        early = λ e. let no : None ≡ Some i = sym e ∙ ei in absurd (cc);
        met = λ e. let no : None ≡ Some i = sym e ∙ ei in absurd (cc);
        stays = λ e. let no : None ≡ Some i = sym e ∙ ei in absurd (cc);
        goes = λ j z ej ez g not_over. on j z (same_number j ej) not_over (get_set s.instances i over j z ez);
        ended = λ j z ej ez stays fin. at_end;
      }
        where
          on : (j : ℕ) (z : Instance) → j ≡ i → is_over z ≡ false → IsSet s.instances i over j z
              → AreAliveAt (counts s.top.func) s.world.memory (function_at m s.top.func) s.top.values
              (spot_of (function_at m s.top.func) s.top) z
          on j z e not_over (Here ej ez) =
              let no : true ≡ false = sym (ap is_over ez) ∙ not_over in absurd (cc)
          on j z e not_over (Other ne y) = absurd (ne e)

      pub finished_alive : IsAliveState m counts (with_instance s i (record x { status = Status.Finished }))
      finished_alive = changed m counts s h i x over s.top there refl ended_top
          (in_map (IsLower s) (IsLaterFor m counts (account_of h.tags s) o) s.below
          (λ d a low. ended_later d a (λ ea stays. let no : true ≡ false = sym (low.left i ei ea) ∙ stays
          in absurd (cc)))
          order.lower)
          (record {
            owned = (h.instances i x there).owned;
            shared = (h.instances i x there).shared;
            over = λ e. gone;
            met = (h.instances i x there).met;
            asleep = λ v values e. absurd (cc);
            running = λ e f. absurd (cc);
          }) (λ j z ne e stays. stays)

  -- ---- any instance

  module _ (i : ℕ) (x : Instance) (there : slice_get s.instances i ≡ Some x) where
    -- it may be released
    pub released_alive : IsAliveState m counts (with_instance s i (record x { released = true }))
    released_alive = changed m counts s h i x y s.top there refl
        (later_in m counts (account_of h.tags s) l (length s.below) s.top (later (length s.below) s.top) h.stack.0)
        (in_any _ s.below later) (record {
          owned = old.owned;
          shared = old.shared;
          over = old.over;
          met = old.met;
          asleep = λ v values e. let z = old.asleep v values e
              in record { tagged = z.tagged; alive = record { runs = z.alive.runs; slots = z.alive.slots } };
          running = old.running;
        }) (λ j z ne e stays. stays)
      where
        old : IsAliveInstance m counts (account_of h.tags s) (s.top ∷ s.below) i x
        old = h.instances i x there

        y : Instance
        y = record x { released = true }

        l : Account
        l = record (account_of h.tags s) { instances = slice_set s.instances i (record x { released = true }) }

        later : (d : ℕ) (a : Activation) → IsLaterFor m counts (account_of h.tags s)
            (record (account_of h.tags s) { instances = slice_set s.instances i (record x { released = true }) }) d a
        later d a = others_later m counts s h i (record x { released = true }) d a
            (λ ea g over. record { old = x; there = there; goes = same g; not_over = over; slots = λ values p t. t })
            (λ ea left fin. (x, there, fin))
          where
            same : GoesOn (function_at m a.func) d a (record x { released = true })
                → GoesOn (function_at m a.func) d a x
            same (Stays e) = Stays e
            same (MayLeave saved sleeps e w never) = MayLeave saved sleeps e w never

    -- it may be freed, where its slots are dead for good
    pub freed_alive : AllByRecursion (λ slot. is_gone s.world.memory slot.block ≡ true) x.slots
        → IsAliveState m counts (with_instance s i (record x { freed = true }))
    freed_alive gone = changed m counts s h i x y s.top there refl
        (later_in m counts (account_of h.tags s) l (length s.below) s.top (later (length s.below) s.top) h.stack.0)
        (in_any _ s.below later) (record {
          owned = old.owned;
          shared = old.shared;
          over = λ e. gone;
          met = old.met;
          asleep = λ v values e. let z = old.asleep v values e
              in record { tagged = z.tagged; alive = record { runs = z.alive.runs; slots = z.alive.slots } };
          running = λ e f. absurd (cc);
        }) (λ j z ne e stays. stays)
      where
        old : IsAliveInstance m counts (account_of h.tags s) (s.top ∷ s.below) i x
        old = h.instances i x there

        y : Instance
        y = record x { freed = true }

        l : Account
        l = record (account_of h.tags s) { instances = slice_set s.instances i (record x { freed = true }) }

        is_over_now : (t : Bool) → (t || true) ≡ false → ⊥
        is_over_now true e = absurd (cc)
        is_over_now false e = absurd (cc)

        later : (d : ℕ) (a : Activation) → IsLaterFor m counts (account_of h.tags s)
            (record (account_of h.tags s) { instances = slice_set s.instances i (record x { freed = true }) }) d a
        later d a = others_later m counts s h i (record x { freed = true }) d a
            (λ ea g over. absurd (is_over_now (is_finished x.status) over)) (λ ea left fin. (x, there, fin))

-- ---- slots that die

still_gone : (m : List MemoryBlock) (slots : List Slot) (b : ℕ) → is_gone m b ≡ true
    → is_gone (without_slots m slots) b ≡ true
still_gone m slots b e = on (cases_lt b (length m))
  where
    beyond : (m : List MemoryBlock) (b : ℕ) → length m ≤ b → is_gone m b ≡ true
    beyond [] b le = refl
    beyond (x ∷ m) zero le = absurd (omega (arith, le))
    beyond (x ∷ m) (suc b) le = beyond m b (omega (arith, le))

    same : (m : List MemoryBlock) (slots : List Slot) → length (without_slots m slots) ≡ length m
    same m [] = refl
    same m (slot ∷ slots) = same (killed m slot.block) slots
        ∙ same_length m slot.block killed_block

    on : (b < length m) ⊎ (length m ≤ b) → is_gone (without_slots m slots) b ≡ true
    on (inl lt) = (without_fewer m slots).gone b lt e
    on (inr le) = beyond (without_slots m slots) b
        (let k = same m slots in omega (arith, le, k))

pub without_gone : (m : List MemoryBlock) (slots : List Slot)
    → AllByRecursion (λ slot. is_gone (without_slots m slots) slot.block ≡ true) slots
without_gone m [] = tt
without_gone m (slot ∷ slots) = (
  still_gone (killed m slot.block) slots slot.block (killed_gone m slot.block),
  without_gone (killed m slot.block) slots,
)

-- The hooks of a run that makes slots anew keep it where names of allocas and of begin lead.
use Rattle.std.proofs.Common.{◌≡◌, ◌⊎◌, inl, inr, ◌<◌, ◌+◌, ℕ, zero, suc, Bool, true, false, List, [], ◌∷◌, ◌++◌}
use Rattle.std.proofs.Common.{length, Option, Some, None, Ok, refl, sym, ap, ◌∙◌, subst, arith, if◌then◌else◌, ◌&&◌}
use Rattle.std.proofs.Common.{◌==◌}
use Rattle.std.proofs.lemmas.Bool.{false≢true}
use Rattle.std.specs.Prelude.{drop, filter, is_none, not, option_and_then, option_map, slice_get, slice_set}
use Rattle.pass_frames_proof.specs.ir_base.declared.cause.Cause.{Cause}
use Rattle.pass_frames_proof.specs.ir_base.declared.outcome.Word.{Word}
use Rattle.pass_frames_proof.specs.ir_model.Names.{first_where, function_at}
use Rattle.pass_frames_proof.specs.ir_model.Ty.{Ty}
use Rattle.pass_frames_proof.specs.ir_model.declared.instr.Instr.{Instr}
use Rattle.pass_frames_proof.specs.ir_model.declared.module.Block.{Block}
use Rattle.pass_frames_proof.specs.ir_model.declared.module.Function.{Function}
use Rattle.pass_frames_proof.specs.ir_model.declared.module.Module.{Module}
use Rattle.pass_frames_proof.specs.ir_paths.declared.point.Point.{Point}
use Rattle.pass_frames_meaning.proofs.led.Led.{changed_led, enter_block_led, own_led, step_led}
use Rattle.pass_frames_meaning.proofs.led.Names.{apart, entry_poison}
use Rattle.pass_frames_meaning.proofs.led.Values.{AreMore, AreSame, IsMore, asleep_at, asleep_more, asleep_set}
use Rattle.pass_frames_meaning.proofs.led.Values.{led_kept, led_left, led_right, on_later, poison_led, push_more}
use Rattle.pass_frames_meaning.proofs.led.Values.{set_more, status_more, still_at, with_like}
use Rattle.pass_frames_meaning.specs.Called.{IsCalledState}
use Rattle.pass_frames_meaning.specs.Led.{AreLed, AreLedAsleep, AreLedOn, AreLedWith, HasNewSlot, IsAtUncounted, IsLed}
use Rattle.pass_frames_meaning.specs.Led.{IsLedBy, IsLedState, IsLedStatus, KeepAllNames, KeepsLed, KeepsLedTables}
use Rattle.pass_frames_meaning.specs.Led.{StaysLed}
use Rattle.pass_frames_proof.specs.Stepping.{IsNotEntering}
use Rattle.pass_frames_proof.proofs.pass_kept_proof.Same.{eq_from, kept_at}
use Rattle.pass_frames_proof.specs.pass_kept_proof.Kept.{kept}
use Rattle.pass_frames_proof.specs.pass_kept_proof.Related.{IsSoundStatus, IsSuspendedAt}
use Rattle.pass_renewed_meaning.proofs.Renaming.{plain_value}
use Rattle.pass_frames_proof.proofs.pass_renewed_proof.EnteredValues.{set_here}
use Rattle.pass_frames_proof.proofs.pass_renewed_proof.Sets.{result_elsewhere}
use Rattle.pass_frames_proof.specs.pass_renewed_proof.Renewed.{RenewedGiven, is_renewed, renew_after, renewed_from, renewed_in}
use Rattle.pass_frames_proof.specs.pass_renewed_proof.Renewed.{renewed_slot, renewed_values, with_life, with_renewed}
use Rattle.pass_frames_proof.specs.run_framed.Framed.{at_point, begin_name, with_mode}
use Rattle.pass_renewed_meaning.proofs.run_hooks.PlacedKeeping.{renewed_keeps_placed}
use Rattle.pass_renewed_meaning.proofs.run_hooks.Reached.{get_last, own_is, sound_get}
use Rattle.pass_renewed_meaning.proofs.run_hooks.alive.Parts.{set_there}
use Rattle.pass_renewed_meaning.specs.run_hooks.Hooks.{Hooks, hooked_state_at, step_of}
use Rattle.pass_renewed_meaning.specs.run_hooks.Meanings.{renewed_hooks}
use Rattle.pass_renewed_meaning.specs.run_hooks.Reached.{IsReachedState}
use Rattle.pass_frames_proof.specs.run_memory.Memory.{check, killed, may_be_owned, owned_to, start, with_block}
use Rattle.pass_frames_proof.specs.run_memory.declared.block.Kind.{Kind}
use Rattle.pass_frames_proof.specs.run_memory.declared.block.MemoryBlock.{MemoryBlock}
use Rattle.pass_frames_proof.specs.run_memory.declared.pointer.Offset.{Offset}
use Rattle.pass_frames_proof.specs.run_memory.declared.pointer.Pointer.{Pointer}
use Rattle.pass_frames_proof.specs.run_memory.declared.pointer.Value.{Value}
use Rattle.pass_frames_proof.specs.run_source.Source.{begin, begin_at, begun, finish, first_state, is_among, is_over, kill_late}
use Rattle.pass_frames_proof.specs.run_source.Source.{new_instance, new_slot, push, resumed, with_new_slots}
use Rattle.pass_frames_proof.specs.run_source.State.{address_in, frame_address_of, function_of, gives, numbered, own_facts, own_frame}
use Rattle.pass_frames_proof.specs.run_source.State.{own_instance, with_memory, with_slots, with_status}
use Rattle.pass_frames_proof.specs.run_source.declared.state.Instance.{Instance}
use Rattle.pass_frames_proof.specs.run_source.declared.state.Mode.{Mode}
use Rattle.pass_frames_proof.specs.run_source.declared.state.State.{State}
use Rattle.pass_frames_proof.specs.run_source.declared.state.Status.{Status}
use Rattle.pass_frames_proof.specs.run_source_tables.Given.{Given, facts_at}
use Rattle.pass_frames_proof.specs.run_states.sound_states.Sound.{HasValues}
use Rattle.pass_frames_proof.specs.run_step.Results.{and_then, found, ok_if}
use Rattle.pass_frames_proof.specs.run_step.Runs.{iterate}
use Rattle.pass_frames_proof.specs.run_step.Step.{AtInstr, fetch, fetch_in, fetch_or}
use Rattle.pass_frames_proof.specs.run_step.Values.{Env, value_in, with_result}
use Rattle.pass_frames_proof.specs.run_step.declared.world.Slot.{Slot}
use Rattle.pass_renewed_meaning.specs.run_types.Rules.{KeepsAllTypes}

-- ---- a new slot

-- where the alloca of the new slot leads, if it counts
new_counted : (counts : ℕ → Bool) (f : Function) (slots : List Slot) (handle : Value) (slot : Slot) (old values : Env)
    → ((v : ℕ) → counts v ≡ true → (value_in values v ≡ value_in old v) ⊎ IsLedBy (slot ∷ []) v (value_in values v))
    → ((v : ℕ) → begin_name f ≡ Some v → value_in values v ≡ value_in old v) → AreLed counts f slots handle old
    → AreLed counts f (slot ∷ slots) handle values
new_counted counts f slots handle slot old values counted begun h = record {
  counted = λ v c. on v c (counted v c);
  begun = λ v e. begun v e ∙ h.begun v e;
}
  where
    on : (v : ℕ) → counts v ≡ true → (value_in values v ≡ value_in old v) ⊎ IsLedBy (slot ∷ []) v (value_in values v)
        → IsLedBy (slot ∷ slots) v (value_in values v)
    on v c (inl e) = inr (subst (IsLedBy slots v) (sym e) (h.counted v c))
    on v c (inr k) = led_left (slot ∷ []) slots v (value_in values v) k

-- one that doesn't count changes nothing
new_uncounted : (counts : ℕ → Bool) (f : Function) (slots : List Slot) (handle : Value) (slot : Slot)
    (old values : Env)
    → ((v : ℕ) → counts v ≡ true → (value_in values v ≡ value_in old v) ⊎ IsLedBy (slot ∷ []) v (value_in values v))
    → ((v : ℕ) → begin_name f ≡ Some v → value_in values v ≡ value_in old v) → counts slot.alloca ≡ false
    → AreLed counts f slots handle old → AreLed counts f slots handle values
new_uncounted counts f slots handle slot old values counted begun un h = record {
  counted = λ v c. on v c (counted v c);
  begun = λ v e. begun v e ∙ h.begun v e;
}
  where
    on : (v : ℕ) → counts v ≡ true → (value_in values v ≡ value_in old v) ⊎ IsLedBy (slot ∷ []) v (value_in values v)
        → IsLedBy slots v (value_in values v)
    on v c (inl e) = subst (IsLedBy slots v) (sym e) (h.counted v c)
    on v c (inr (inl k)) = absurd (false≢true (sym un ∙ ap counts k.0 ∙ c))
    on v c (inr (inr k)) = poison_led slots v (value_in values v) k

-- slots that may be shared come into the instance
into_instance : (counts : ℕ → Bool) (f : Function) (handle : Value) (p : Slot → Bool) (a b : List Slot) (values : Env)
    → ((slot : Slot) → counts slot.alloca ≡ true → p slot ≡ true) → AreLed counts f (a ++ b) handle values
    → AreLed counts f (filter p a ++ b) handle values
into_instance counts f handle p a b values passes h = record {
  counted = λ v c. led_kept p a b v (value_in values v) (λ s e. passes s (ap counts e ∙ c)) (h.counted v c);
  begun = h.begun;
}

not_among : (ramp : List ℕ) (slot : Slot) → is_among ramp slot ≡ false → not (is_among ramp slot) ≡ true
not_among ramp slot e = ap not e

module _ (g : Given) (counts : ℕ → ℕ → Bool) (rules : KeepAllNames g counts) where
  shared : (func : ℕ) (slot : Slot) → counts func slot.alloca ≡ true
      → not (is_among (facts_at g.facts func).ramp_slots slot) ≡ true
  shared func slot c = not_among (facts_at g.facts func).ramp_slots slot ((rules func).shared slot c)

  pub new_slot_led : (s : State) (slot : Slot) → HasNewSlot g.code counts s slot → IsNotEntering s.top.mode
      → IsLed g.code counts (new_slot g s slot)
  new_slot_led s slot n still = on s.top.instance refl n.top
    where
      ramp : List ℕ
      ramp = (own_facts g s).ramp_slots

      c : ℕ → Bool
      c = counts s.top.func

      f : Function
      f = function_at g.code s.top.func

      none : s.top.instance ≡ None → own_instance s ≡ None
      none e = ap (option_and_then (numbered s.instances)) e

      some : (i : ℕ) (x : Instance) → s.top.instance ≡ Some i → slice_get s.instances i ≡ Some x
          → own_instance s ≡ Some (i, x)
      some i x e there = ap (option_and_then (numbered s.instances)) e
          ∙ ap (option_map {U = ℕ × Instance} (λ y. (i, y))) there

      alone : s.top.instance ≡ None → AreLedWith c f s.instances None s.top.slots n.old
          → IsLed g.code counts (with_new_slots ramp None s (slot ∷ []))
      alone e k = record {
        stack = (
          subst (λ (o : Option ℕ). AreLedWith c f s.instances o (slot ∷ s.top.slots) s.top.values) (sym e)
              (new_counted c f s.top.slots Value.Poison slot n.old s.top.values n.counted n.begun k),
          n.below,
        );
        instances = n.instances;
        entering = still_at c (fetch f s.top.block s.top.at) s.top.mode still;
      }

      within : (i : ℕ) (x : Instance) → s.top.instance ≡ Some i → slice_get s.instances i ≡ Some x
          → AreLed c f x.slots (frame_address_of x) n.old → (b : Bool)
          → IsLed g.code counts (with_new_slots ramp (Some (i, x))
          (if b then with_memory s (killed s.world.memory slot.block) else s) (slot ∷ []))
      within i x e there k b = by b
        where
          y : Instance
          y = record x { slots = filter (λ z. not (is_among ramp z)) (slot ∷ []) ++ x.slots }

          more : IsMore x (record x { slots = filter (λ z. not (is_among ramp z)) (slot ∷ []) ++ x.slots })
          more = record {
            slots = λ v z. led_right (filter (λ z. not (is_among ramp z)) (slot ∷ [])) x.slots v z;
            frame = refl;
          }

          ys : List Instance
          ys = slice_set s.instances i (record x {
            slots = filter (λ z. not (is_among ramp z)) (slot ∷ []) ++
                x.slots;
          })

          top : AreLedWith c f (slice_set s.instances i (record x {
            slots = filter (λ z. not (is_among ramp z))
                (slot ∷ []) ++ x.slots;
          })) s.top.instance (filter (is_among ramp) (slot ∷ []) ++ s.top.slots) s.top.values
          top = subst (λ (o : Option ℕ). AreLedWith c f (slice_set s.instances i y) o
              (filter (is_among ramp) (slot ∷ []) ++ s.top.slots) s.top.values) (sym e) (
                y,
                set_there s.instances i x y there,
                into_instance c f (frame_address_of x) (λ z. not (is_among ramp z)) (slot ∷ []) x.slots s.top.values
                    (shared s.top.func)
                    (new_counted c f x.slots (frame_address_of x) slot n.old s.top.values n.counted n.begun k),
              )

          below : AreLedOn g.code counts (slice_set s.instances i (record x {
            slots = filter (λ z. not (is_among ramp z))
                (slot ∷ []) ++ x.slots;
          })) s.below
          below = on_later g.code counts s.instances (slice_set s.instances i y) s.below
              (set_more s.instances i x y there more) n.below

          instances : AreLedAsleep g.code counts
              (slice_set s.instances i (record x {
                slots = filter (λ z. not (is_among ramp z)) (slot ∷ []) ++
                    x.slots;
              }))
          instances = asleep_set g.code counts s.instances i y
              (status_more (counts x.coroutine) (function_at g.code x.coroutine) x y x.status more
              (asleep_at g.code counts s.instances i x there n.instances)) n.instances

          by : (b : Bool) → IsLed g.code counts (with_new_slots ramp (Some (i, x))
              (if b then with_memory s (killed s.world.memory slot.block) else s) (slot ∷ []))
          by true = record {
            stack = (top, below);
            instances = instances;
            entering = still_at c (fetch f s.top.block s.top.at) s.top.mode still;
          }
          by false = record {
            stack = (top, below);
            instances = instances;
            entering = still_at c (fetch f s.top.block s.top.at) s.top.mode still;
          }

      on : (o : Option ℕ) → s.top.instance ≡ o → AreLedWith c f s.instances o s.top.slots n.old
          → IsLed g.code counts (new_slot g s slot)
      on None e k =
          subst (λ (o : Option (ℕ × Instance)). IsLed g.code counts
          (with_new_slots ramp o (kill_late ramp o s slot) (slot ∷ []))) (sym (none e)) (alone e k)
      on (Some i) e k =
          subst (λ (o : Option (ℕ × Instance)). IsLed g.code counts
          (with_new_slots ramp o (kill_late ramp o s slot) (slot ∷ []))) (sym (some i k.0 e k.1))
          (within i k.0 e k.1 k.2 (is_over k.0 && not (is_among ramp slot)))

  -- ---- begin

  begun_led : (s : State) (memory : List MemoryBlock) (b : ℕ) (o : Offset) (result : Option ℕ)
      → IsLed g.code counts s → IsNotEntering s.top.mode → begin_name (function_at g.code s.top.func) ≡ result
      → ((v : ℕ) → result ≡ Some v → v < length s.top.values) → s.top.instance ≡ None → o.bits ≡ 0
      → IsLed g.code counts (gives (begun g (with_memory s memory) b 0) result (Value.Ptr (Pointer.At b o)))
  begun_led s memory b o result h still named room e start = record {
    stack = (
      (
        y,
        set_there (s.instances ++ x ∷ []) (length s.instances) x y (get_last s.instances x),
        record {
          counted = λ v c.
              subst (IsLedBy y.slots v) (sym (result_elsewhere s.top.values result v p (λ d.
              apart (counts s.top.func) f ramp (rules s.top.func) v c (named ∙ d)))) (slots.counted v c);
          begun = λ v d. here v (sym named ∙ d);
        },
      ),
      on_later g.code counts s.instances (slice_set (s.instances ++ x ∷ []) (length s.instances) y) s.below later
          h.stack.1,
    );
    instances = asleep_set g.code counts (s.instances ++ x ∷ []) (length s.instances) y tt
        (asleep_more g.code counts s.instances x tt h.instances);
    entering = still_at (counts s.top.func) (fetch f s.top.block (s.top.at + 1)) s.top.mode still;
  }
    where
      f : Function
      f = function_at g.code s.top.func

      ramp : List ℕ
      ramp = (facts_at g.facts s.top.func).ramp_slots

      p : Value
      p = Value.Ptr (Pointer.At b o)

      x : Instance
      x = new_instance s.top.func b 0

      y : Instance
      y = record (new_instance s.top.func b 0) {
        slots = filter (λ z. not (is_among (facts_at g.facts s.top.func).ramp_slots z)) s.top.slots ++ [];
      }

      early : AreLed (counts s.top.func) (function_at g.code s.top.func) s.top.slots Value.Poison s.top.values
      early = subst (λ (i : Option ℕ). AreLedWith (counts s.top.func) (function_at g.code s.top.func) s.instances i
          s.top.slots s.top.values) e h.stack.0

      slots : AreLed (counts s.top.func) (function_at g.code s.top.func)
          (filter (λ z. not (is_among (facts_at g.facts s.top.func).ramp_slots z)) s.top.slots ++ []) Value.Poison
          s.top.values
      slots = into_instance (counts s.top.func) f Value.Poison (λ z. not (is_among ramp z)) s.top.slots [] s.top.values
          (shared s.top.func) (record {
            counted = λ v c. led_left s.top.slots [] v (value_in s.top.values v) (early.counted v c);
            begun = early.begun;
          })

      here : (v : ℕ) → result ≡ Some v
          → value_in (with_result s.top.values result (Value.Ptr (Pointer.At b o))) v ≡ address_in b 0
      here v d =
          ap (λ (r : Option ℕ). value_in (with_result s.top.values r p) v) d ∙ set_here s.top.values v p (room v d)
          ∙ (λ i. Value.Ptr (Pointer.At b (record { bits = start i })))

      later : AreMore s.instances
          (slice_set (s.instances ++ new_instance s.top.func b 0 ∷ []) (length s.instances)
          (record (new_instance s.top.func b 0) {
            slots = filter (λ z. not (is_among (facts_at g.facts s.top.func).ramp_slots z)) s.top.slots ++ [];
          }))
      later j z d =
          let one = push_more s.instances x j z d in
          let two = set_more (s.instances ++ x ∷ []) (length s.instances) x y (get_last s.instances x)
          (record { slots = λ v q k. poison_led y.slots v q k; frame = refl }) j one.instance one.there in
          record {
            instance = two.instance;
            there = two.there;
            more = record {
              slots = λ v q k. two.more.slots v q (one.more.slots v q k);
              frame = two.more.frame ∙ one.more.frame;
            };
          }

  pub begin_led : (s : State) (result : Option ℕ) (p : Value) → IsLed g.code counts s → IsNotEntering s.top.mode
      → begin_name (function_at g.code s.top.func) ≡ result → ((v : ℕ) → result ≡ Some v → v < length s.top.values)
      → StaysLed g.code counts (begin g s result p)
  begin_led s result p h still named room = on s.top.instance refl
    where
      by : (q : Value) → s.top.instance ≡ None
          → StaysLed g.code counts (and_then (begin_at g s q Kind.Allocator) (λ z. Ok (gives z result q)))
      by (Value.Ptr (Pointer.At b o)) e =
          owns (o.bits == 0) (may_be_owned Kind.Allocator (own_frame g s).size (slice_get s.world.memory b)) refl
        where
          owns : (c d : Bool) → (o.bits == 0) ≡ c
              → StaysLed g.code counts (and_then
              (and_then (check (c && d) Cause.Begin (Ok (with_block s.world.memory b (owned_to (own_frame g s).size))))
              (λ memory. and_then (found Cause.Begin (Some b)) (λ b. Ok (begun g (with_memory s memory) b 0))))
              (λ z. Ok (gives z result (Value.Ptr (Pointer.At b o)))))
          owns true true start = λ running.
              begun_led s (with_block s.world.memory b (owned_to (own_frame g s).size)) b o result h still named room e
              (eq_from o.bits 0 start)
          owns true false start = tt
          owns false d start = tt
      by (Value.Ptr Pointer.Null) e = tt
      by (Value.Ptr (Pointer.Func k)) e = tt
      by (Value.Int k) e = tt
      by Value.Poison e = tt

      on : (o : Option ℕ) → s.top.instance ≡ o
          → StaysLed g.code counts (and_then (ok_if (is_none o) Cause.Begin s)
          (λ z. and_then (begin_at g z p Kind.Allocator) (λ z. Ok (gives z result p))))
      on None e = by p e
      on (Some i) e = tt

finish_led : (m : Module) (counts : ℕ → ℕ → Bool) (s : State) → IsLed m counts s → IsLed m counts (finish s)
finish_led m counts s h =
    let k = own_led m counts s h (λ x. record x { status = Status.Finished })
    (λ x. (record { slots = λ v z q. q; frame = refl }, λ q. tt)) (own_instance s) (λ i x e. own_is s i x e) in
    record { stack = k.stack; instances = k.instances; entering = k.entering }

-- ---- values that are handed on

pub kept_value : (keep : ℕ → Bool) (env : Env) (v : ℕ)
    → (value_in (kept keep env) v ≡ value_in env v) ⊎ (value_in (kept keep env) v ≡ Value.Poison)
kept_value keep [] v = inl refl
kept_value keep (o ∷ env) zero = on (keep 0)
  where
    on : (b : Bool)
        → (value_in ((if b then o else None) ∷ kept (λ i. keep (suc i)) env) 0 ≡ value_in (o ∷ env) 0)
        ⊎ (value_in ((if b then o else None) ∷ kept (λ i. keep (suc i)) env) 0 ≡ Value.Poison)
    on true = inl refl
    on false = inr refl
kept_value keep (o ∷ env) (suc v) = kept_value (λ i. keep (suc i)) env v

kept_led : (counts : ℕ → Bool) (f : Function) (slots : List Slot) (handle : Value) (keep : ℕ → Bool) (env : Env)
    → ((v : ℕ) → begin_name f ≡ Some v → keep v ≡ true) → AreLed counts f slots handle env
    → AreLed counts f slots handle (kept keep env)
kept_led counts f slots handle keep env handed h = record {
  counted = λ v c. on v c (kept_value keep env v);
  begun = λ v e. kept_at keep env v (handed v e) ∙ h.begun v e;
}
  where
    on : (v : ℕ) → counts v ≡ true
        → (value_in (kept keep env) v ≡ value_in env v) ⊎ (value_in (kept keep env) v ≡ Value.Poison)
        → IsLedBy slots v (value_in (kept keep env) v)
    on v c (inl e) = subst (IsLedBy slots v) (sym e) (h.counted v c)
    on v c (inr e) = poison_led slots v (value_in (kept keep env) v) e

-- ---- flagged allocas

found_flagged : (flags : ℕ → Bool) (is : List Instr) (k : ℕ) → first_where (is_renewed flags) is ≡ Some k
    → (name : ℕ) × (ty : Ty) × (align : ℕ) × (slice_get is k ≡ Some (Instr.Alloca name ty align))
    × (flags name ≡ true)
found_flagged flags [] k e = absurd (cc)
found_flagged flags (i ∷ is) k e = on (is_renewed flags i) refl e (λ j d. found_flagged flags is j d)
  where
    flagged_alloca : (i : Instr) → is_renewed flags i ≡ true
        → (name : ℕ) × (ty : Ty) × (align : ℕ) × (i ≡ Instr.Alloca name ty align) × (flags name ≡ true)
    flagged_alloca (Instr.Alloca name ty align) d = (name, ty, align, refl, d)
    flagged_alloca _ d = absurd (cc)

    later : (o : Option ℕ) → option_map suc o ≡ Some k → (j : ℕ) × (o ≡ Some j) × (k ≡ suc j)
    later None d = absurd (cc)
    later (Some j) d = let same : suc j ≡ k = cc in (j, refl, sym same)

    on : (b : Bool) → is_renewed flags i ≡ b → (if b then Some 0 else option_map suc
        (first_where (is_renewed flags) is)) ≡ Some k
        → ((j : ℕ) → first_where (is_renewed flags) is ≡ Some j
        → (name : ℕ) × (ty : Ty) × (align : ℕ) × (slice_get is j ≡ Some (Instr.Alloca name ty align))
        × (flags name ≡ true))
        → (name : ℕ) × (ty : Ty) × (align : ℕ) × (slice_get (i ∷ is) k ≡ Some (Instr.Alloca name ty align))
        × (flags name ≡ true)
    on true a d again =
        let same : 0 ≡ k = cc in
        let r = flagged_alloca i a in
        (r.0, r.1, r.2, ap (slice_get (i ∷ is)) (sym same) ∙ ap Some r.3, r.4)
    on false a d again =
        let l = later (first_where (is_renewed flags) is) d in
        let r = again l.0 l.1 in
        (r.0, r.1, r.2, ap (slice_get (i ∷ is)) l.2 ∙ r.3, r.4)

dropped_get : {A : Type 0} (n : ℕ) (xs : List A) (j : ℕ) → slice_get (drop n xs) j ≡ slice_get xs (n + j)
dropped_get zero [] j = refl
dropped_get zero (x ∷ xs) j = let z : j ≡ 0 + j = omega arith in ap (slice_get (x ∷ xs)) z
dropped_get (suc n) [] j = refl
dropped_get (suc n) (x ∷ xs) j = let z : suc (n + j) ≡ suc n + j = omega arith in dropped_get n xs j
    ∙ ap (slice_get (x ∷ xs)) z

entry_fetched : (f : Function) (b : Block) → slice_get f.blocks 0 ≡ Some b → (k : ℕ) (i : Instr)
    → slice_get b.instrs k ≡ Some i → fetch f 0 k ≡ AtInstr i
entry_fetched f b eb k i e = ap (λ (o : Option Block). fetch_in o k) eb
    ∙ ap (λ (o : Option Instr). fetch_or o (k == length b.instrs) b.term) e

flagged_found : (counts flags : ℕ → Bool) → ((v : ℕ) → counts v ≡ true → flags v ≡ false) → (f : Function) (at : ℕ)
    (p : Point) → renewed_from flags f at ≡ Some p → IsAtUncounted counts (fetch f p.block p.at)
flagged_found counts flags unflagged f at p e = on (slice_get f.blocks 0) refl e
  where
    uncounted : (v : ℕ) → flags v ≡ true → (b : Bool) → counts v ≡ b → counts v ≡ false
    uncounted v d true c = absurd (false≢true (sym (unflagged v c) ∙ d))
    uncounted v d false c = c

    on : (o : Option Block) → slice_get f.blocks 0 ≡ o
        → option_map (λ k. record { block = 0; at = k }) (renewed_in flags o at) ≡ Some p
        → IsAtUncounted counts (fetch f p.block p.at)
    on None eo k = absurd (cc)
    on (Some b) eo k = by (first_where (is_renewed flags) (drop at b.instrs)) refl k
      where
        by : (o : Option ℕ) → first_where (is_renewed flags) (drop at b.instrs) ≡ o
            → option_map (λ k. record { block = 0; at = k }) (option_map (λ k. at + k) o) ≡ Some p
            → IsAtUncounted counts (fetch f p.block p.at)
        by None en d = absurd (cc)
        by (Some n) en d =
            let r = found_flagged flags (drop at b.instrs) n en in
            let there : slice_get b.instrs (at + n) ≡ Some (Instr.Alloca r.0 r.1 r.2) =
            sym (dropped_get at b.instrs n) ∙ r.3 in
            let q : record { block = 0; at = at + n } ≡ p = cc in
            subst (λ (z : Point). IsAtUncounted counts (fetch f z.block z.at)) q (record {
              alloca = r.0;
              ty = r.1;
              align = r.2;
              stands = entry_fetched f b eo (at + n) (Instr.Alloca r.0 r.1 r.2) there;
              uncounted = uncounted r.0 r.4 (counts r.0) refl;
            })

-- ---- hooks

module _ (g : RenewedGiven) (counts : ℕ → ℕ → Bool) (rules : KeepAllNames g.given counts)
    (tables : KeepsLedTables g counts) where
  abbrev ramp : ℕ → List ℕ
  ramp func = (facts_at g.given.facts func).ramp_slots

  -- what goes on, but that its place isn't known
  record IsGoing (s : State) : Type 0 where
    stack : AreLedOn g.given.code counts s.instances (s.top ∷ s.below)
    instances : AreLedAsleep g.given.code counts s.instances

  moves : (func : ℕ) (env : Env)
      → AreSame (counts func) (function_at g.given.code func) env (renewed_values (g.roots func) env env)
  moves func env v (inl c) = plain_value (g.roots func) env env v (tables.unrooted func v c)
  moves func env v (inr e) = plain_value (g.roots func) env env v (tables.unmoved func v e)

  renews_led : (s : State) (from label : ℕ) (o : Option Point) → IsGoing s
      → ((p : Point) → o ≡ Some p
      → IsAtUncounted (counts s.top.func) (fetch (function_at g.given.code s.top.func) p.block p.at))
      → IsLed g.given.code counts (renew_after g s from label o)
  renews_led s from label (Some p) h at = record {
    stack = (h.stack.0, h.stack.1);
    instances = h.instances;
    entering = at p refl;
  }
  renews_led s from label None h at =
      enter_block_led g.given.code counts ramp rules g.given refl
      (at_point (with_mode (with_renewed (g.roots s.top.func) s) Mode.Resumed) (record { block = from; at = 0 })) label
      (record {
        stack = (
          with_like (counts s.top.func) (function_at g.given.code s.top.func) s.instances s.top.instance s.top.slots
              s.top.values (renewed_values (g.roots s.top.func) s.top.values s.top.values)
              (moves s.top.func s.top.values) h.stack.0,
          h.stack.1,
        );
        instances = h.instances;
        entering = tt;
      }) tt

  found_at : (func at : ℕ) (p : Point) → renewed_from (g.flags func) (function_at g.given.code func) at ≡ Some p
      → IsAtUncounted (counts func) (fetch (function_at g.given.code func) p.block p.at)
  found_at func at p e = flagged_found (counts func) (g.flags func) (tables.unflagged func)
      (function_at g.given.code func) at p e

  more_own : (c : ℕ → Bool) (f : Function) (xs : List Instance) (o : Option ℕ) (slot : Slot) (slots : List Slot)
      (values : Env) → AreLedWith c f xs o slots values → AreLedWith c f xs o (slot ∷ slots) values
  more_own c f xs None slot slots values h = record {
    counted = λ v k. inr (h.counted v k);
    begun = h.begun;
  }
  more_own c f xs (Some i) slot slots values h = h

  uncounted_with : (c : ℕ → Bool) (f : Function) (xs : List Instance) (o : Option ℕ) (slots : List Slot) (slot : Slot)
      (old values : Env)
      → ((v : ℕ) → c v ≡ true → (value_in values v ≡ value_in old v) ⊎ IsLedBy (slot ∷ []) v (value_in values v))
      → ((v : ℕ) → begin_name f ≡ Some v → value_in values v ≡ value_in old v) → c slot.alloca ≡ false
      → AreLedWith c f xs o slots old → AreLedWith c f xs o slots values
  uncounted_with c f xs None slots slot old values counted begun un h =
      new_uncounted c f slots Value.Poison slot old values counted begun un h
  uncounted_with c f xs (Some i) slots slot old values counted begun un h =
      (h.0, h.1, new_uncounted c f h.0.slots (frame_address_of h.0) slot old values counted begun un h.2)

  renewed_place : (s : State) (slot : Slot) (mode : Mode) → s.top.mode ≡ mode → HasNewSlot g.given.code counts s slot
      → IsLed g.given.code counts (renewed_slot g s slot mode)
  renewed_place s slot (Mode.Entering from label) e n =
      renews_led (with_slots s (slot ∷ s.top.slots)) from label
      (renewed_from (g.flags s.top.func) (function_of g.given s) s.top.at) (record {
        stack = (
          more_own (counts s.top.func) f s.instances s.top.instance slot s.top.slots s.top.values
              (uncounted_with (counts s.top.func) f s.instances s.top.instance s.top.slots slot n.old s.top.values
              n.counted n.begun (again n.again) n.top),
          n.below,
        );
        instances = n.instances;
      }) (found_at s.top.func s.top.at)
    where
      f : Function
      f = function_at g.given.code s.top.func

      again : IsNotEntering s.top.mode ⊎ (counts s.top.func slot.alloca ≡ false)
          → counts s.top.func slot.alloca ≡ false
      again (inl k) = absurd (subst IsNotEntering e k)
      again (inr k) = k
  renewed_place s slot Mode.Plain e n = new_slot_led g.given counts rules s slot n (subst IsNotEntering (sym e) tt)
  renewed_place s slot Mode.Ramp e n = new_slot_led g.given counts rules s slot n (subst IsNotEntering (sym e) tt)
  renewed_place s slot Mode.Resumed e n = new_slot_led g.given counts rules s slot n (subst IsNotEntering (sym e) tt)
  renewed_place s slot (Mode.GivenRamp frame) e n =
      new_slot_led g.given counts rules s slot n (subst IsNotEntering (sym e) tt)

  life_place : (s : State) (slot : Slot) → HasNewSlot g.given.code counts s slot
      → IsLed g.given.code counts (renewed_slot g (with_life g s slot) slot s.top.mode)
  life_place s slot n = on (g.flags s.top.func slot.alloca)
    where
      on : (b : Bool) → IsLed g.given.code counts (renewed_slot g
          (if b then with_memory s (start s.world.memory slot.block) else s) slot s.top.mode)
      on true = renewed_place (with_memory s (start s.world.memory slot.block)) slot s.top.mode refl (record {
        old = n.old;
        top = n.top;
        below = n.below;
        instances = n.instances;
        counted = n.counted;
        begun = n.begun;
        again = n.again;
      })
      on false = renewed_place s slot s.top.mode refl n

  resumes_led : (s : State) (i : ℕ) (x : Instance) (at : Point) (values : Env) (label : ℕ) → IsReachedState g.given s
      → IsLed g.given.code counts s → slice_get s.instances i ≡ Some x → x.status ≡ Status.Suspended at values
      → IsLed g.given.code counts (renew_after g (push (with_status s i x Status.Running) (resumed i x at
      (kept (g.keep x.coroutine at) values))) at.block label
      (renewed_from (g.flags x.coroutine) (function_at g.given.code x.coroutine) 0))
  resumes_led s i x at values label r h there asleep =
      let k = changed_led g.given.code counts s h i x (record x { status = Status.Running }) there
      (record { slots = λ v z q. q; frame = refl }) tt in
      renews_led (push (with_status s i x Status.Running) (resumed i x at (kept (g.keep x.coroutine at) values)))
      at.block
      label (renewed_from (g.flags x.coroutine) (function_at g.given.code x.coroutine) 0) (record {
        stack = (
          (
            record x { status = Status.Running },
            set_there s.instances i x (record x { status = Status.Running }) there,
            kept_led (counts x.coroutine) (function_at g.given.code x.coroutine) x.slots (frame_address_of x)
                (g.keep x.coroutine at) values (λ v e. tables.handed x.coroutine at v called.1 e) led,
          ),
          k.stack,
        );
        instances = k.instances;
      }) (found_at x.coroutine 0)
    where
      called : IsSuspendedAt g.given x.coroutine at
      called = subst (IsSoundStatus g.given x.coroutine) asleep (sound_get g.given s.instances i x r.instances there)

      led : AreLed (counts x.coroutine) (function_at g.given.code x.coroutine) x.slots (frame_address_of x) values
      led = subst (IsLedStatus (counts x.coroutine)
          (function_at g.given.code x.coroutine) x.slots (frame_address_of x)) asleep
          (asleep_at g.given.code counts s.instances i x there h.instances)

  pub renewed_keeps_led : KeepsLed (renewed_hooks g) counts
  renewed_keeps_led = record {
    go_on = λ s i x at values label r h there asleep. resumes_led s i x at values label r h there asleep;
    place = λ s slot n. life_place s slot n;
    start = λ s result memory h still named room. begin_led g.given counts rules s result memory h still named room;
    close = λ s h. finish_led g.given.code counts s h;
    closed = (renewed_keeps_placed g).closed;
    idle = (renewed_keeps_placed g).idle;
    ungiven = λ s block at. refl;
  }

-- ---- runs

module _ (h : Hooks) (counts : ℕ → ℕ → Bool) (keeps : KeepsLed h counts) (rules : KeepAllNames h.given counts)
    (types : KeepsAllTypes h.given.code) (entry : ℕ) (args : List Word)
    (reached : (n : ℕ) → IsReachedState h.given (hooked_state_at h entry args n))
    (called : (n : ℕ) → IsCalledState h.given.code (hooked_state_at h entry args n))
    (room : (n : ℕ) → HasValues h.given.code (hooked_state_at h entry args n).top.func
    (hooked_state_at h entry args n).top.values) where
  one_more : (n : ℕ) (s : State) → iterate (step_of h) (suc n) s ≡ step_of h (iterate (step_of h) n s)
  one_more zero s = refl
  one_more (suc n) s = one_more n (step_of h s)

  first_led : IsLed h.given.code counts (first_state h.given.code entry args)
  first_led = record {
    stack = (
      record {
        counted = λ v c. entry_poison (counts entry) (function_at h.given.code entry)
            (facts_at h.given.facts entry).ramp_slots (rules entry) _ v (inl c);
        begun = λ v e. entry_poison (counts entry) (function_at h.given.code entry)
            (facts_at h.given.facts entry).ramp_slots (rules entry) _ v (inr e);
      },
      tt,
    );
    instances = tt;
    entering = tt;
  }

  pub states_led : (n : ℕ) → IsLedState h.given.code counts (hooked_state_at h entry args n)
  states_led zero = λ running. first_led
  states_led (suc n) = subst (IsLedState h.given.code counts) (sym (one_more n (first_state h.given.code entry args)))
      (step_led h counts keeps rules types (hooked_state_at h entry args n) (reached n) (called n) (room n)
      (states_led n))

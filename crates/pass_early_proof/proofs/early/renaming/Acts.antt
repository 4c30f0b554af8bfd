-- Coro intrinsics keep what holds of the values of coro.frame, and so does a step.
use Rattle.std.proofs.Common.{◌≡◌, ◌⊎◌, inl, inr, ⊎_elim, ℕ, zero, suc, Bool, true, false, List, [], ◌∷◌, ◌++◌, length, refl, sym, ap, ◌∙◌, subst}
use Rattle.std.specs.Prelude.{ℤ, Some, None, Ok, Option, filter, is_none, not, option_map, slice_get, slice_set, if◌then◌else◌, ◌==◌, ◌&&◌}
use Rattle.rule_laws.specs.run_memory.Memory.{check, may_be_owned, owned_to, with_block}
use Rattle.rule_laws.specs.run_memory.declared.block.Kind.{Kind}
use Rattle.rule_laws.specs.run_memory.declared.block.MemoryBlock.{MemoryBlock}
use Rattle.rule_laws.specs.run_memory.declared.pointer.Offset.{Offset}
use Rattle.rule_laws.specs.run_memory.declared.pointer.Pointer.{Pointer}
use Rattle.rule_laws.specs.run_memory.declared.pointer.Value.{Value}
use Rattle.rule_laws.specs.ir_base.declared.cause.Cause.{Cause}
use Rattle.rule_laws.specs.run_source.Source.{Sleeper, after_end, begin, begin_at, begun, change_own, continue, deallocate, destroy, done_at, end_of, finish, frame_address, given, if_let_go, is_among, let_go, may_be_freed, new_instance, resume, sleeper_at, sleeper_of, slots_of}
use Rattle.rule_laws.specs.run_source.State.{address_in, began_at, frame_address_of, gives, instance_at, last_from, next, own_facts, own_frame, own_instance, point_of, with_instance, with_memory}
use Rattle.rule_laws.specs.run_source.declared.state.Instance.{Instance}
use Rattle.rule_laws.specs.run_source.declared.state.Mode.{Mode}
use Rattle.rule_laws.specs.run_source.declared.state.State.{State}
use Rattle.rule_laws.specs.run_source.declared.state.Status.{Status}
use Rattle.run_states.proofs.renamed.Fits.{IsOrdinary, ordinary_in}
use Rattle.pass_early_proof.proofs.early.renaming.Invariant.{IsAsleep, IsGrown, IsSteady, grown_more, grown_set, is_resumed, next_point, origin_at, origin_of, steady_kept}
use Rattle.pass_early_proof.proofs.early.renaming.Kept.{Good, all_kept, begin_steady, frame_steady, gives_good, gives_here, next_good, on_result, on_test, phis_plain, return_good, same_here}
use Rattle.rule_laws.proofs.ir_laws.facts.Truth.{equal_numbers}
use Rattle.rule_laws.proofs.ir_laws.facts.Lists.{get_last, get_within, set_here}
use Rattle.pass_early_proof.proofs.early.renaming.Preserved.{AllSleep, Holds, Sleeps, all_set, below_grown, goes_on, holds_instance, holds_like, holds_memory, own_there, sleeps_grown, stands_grown}
use Rattle.pass_early_proof.specs.early.renaming.Regular.{AreRegular, IsDeadAt, IsDeadBehind}
use Rattle.pass_early.specs.Early.{renaming_of}
use Rattle.pass_early.specs.declared.renaming.Renaming.{Renaming}
use Rattle.ir_model.specs.Names.{function_at}
use Rattle.ir_model.specs.declared.instr.Instr.{Instr}
use Rattle.ir_model.specs.declared.module.Frame.{Frame}
use Rattle.ir_model.specs.declared.module.Function.{Function}
use Rattle.ir_model.specs.declared.module.Module.{Module}
use Rattle.ir_model.specs.declared.operand.Intrinsic.{Intrinsic}
use Rattle.rule_laws.specs.ir_paths.Paths.{entry_point}
use Rattle.rule_laws.specs.ir_paths.Windows.{destroy_label, instr_at, is_call_of, resume_label}
use Rattle.rule_laws.specs.run_step.Results.{and_then, found, ok_if}
use Rattle.rule_laws.specs.run_step.Step.{block_of, deallocated, label_of, phi_values, phis_of, with_all, without_slots}
use Rattle.rule_laws.specs.run_step.Values.{truth_value, value_in, with_result}
use Rattle.rule_laws.specs.run_source_tables.Given.{Given, has_final, is_final}
use Rattle.rule_laws.specs.run_laws.changed.Changed.{result_of}
use Rattle.rule_laws.proofs.ir_laws.facts.Numbers.{ok_same}

-- ---- instances that are found

pub record IsAsleepAt (s : State) (y : Sleeper) : Type 0 where
  pub got : slice_get s.instances y.number ≡ Some y.instance
  pub status : y.instance.status ≡ Status.Suspended y.suspend y.values

instance_there : (m : Module) (ok : AreRegular m) (instances : List Instance) (p : Value) (i : ℕ) (x : Instance) → instance_at instances p ≡ Some (i, x) → slice_get instances i ≡ Some x
instance_there m ok instances (Value.Ptr (Pointer.At b o)) i x e = (own_there m ok instances (last_from (began_at b o.bits) 0 instances) i x e).1
instance_there m ok instances (Value.Ptr Pointer.Null) i x e = absurd (cc)
instance_there m ok instances (Value.Ptr (Pointer.Func f)) i x e = absurd (cc)
instance_there m ok instances Value.Poison i x e = absurd (cc)
instance_there m ok instances (Value.Int w) i x e = absurd (cc)

pub asleep_there : (m : Module) (ok : AreRegular m) (s : State) (p : Value) (y : Sleeper) → sleeper_at s p ≡ Ok y → IsAsleepAt s y
asleep_there m ok s p y e = on (instance_at s.instances p) refl e
  where
    by_status : (i : ℕ) (x : Instance) → slice_get s.instances i ≡ Some x → (st : Status) → x.status ≡ st → sleeper_of i x st ≡ Ok y → IsAsleepAt s y
    by_status i x got Status.Running d k = absurd (cc)
    by_status i x got (Status.Suspended suspend values) d k =
        subst (IsAsleepAt s) (ok_same (record { number = i; instance = x; suspend = suspend; values = values }) y k) (record { got = got; status = d })
    by_status i x got Status.Finished d k = absurd (cc)

    on : (o : Option (ℕ × Instance)) → instance_at s.instances p ≡ o → and_then (found Cause.Frame o) (λ (i, x). sleeper_of i x x.status) ≡ Ok y → IsAsleepAt s y
    on None d k = absurd (cc)
    on (Some (i, x)) d k = by_status i x (instance_there m ok s.instances p i x d) x.status refl k

-- ---- instances with one more

get_more : (a : List Instance) (x z : Instance) (j : ℕ) → slice_get (a ++ x ∷ []) j ≡ Some z → (slice_get a j ≡ Some z) ⊎ (z ≡ x)
get_more [] x z zero e = let s : x ≡ z = cc in inr (sym s)
get_more [] x z (suc j) e = absurd (cc)
get_more (y ∷ a) x z zero e = inl e
get_more (y ∷ a) x z (suc j) e = get_more a x z j e

module _ (m : Module) (ok : AreRegular m) (sizes : List Frame) (answers : List ℤ) where
  abbrev the : ℕ → Function
  the func = function_at m func

  abbrev ren : ℕ → Renaming
  ren func = renaming_of (function_at m func)

  abbrev g : Given
  g = given m sizes answers

  all_more : (a : List Instance) (x : Instance) → x.status ≡ Status.Running → AllSleep m ok a a → AllSleep m ok (a ++ x ∷ []) (a ++ x ∷ [])
  all_more a x running h j z e = ⊎_elim
      (λ old. sleeps_grown m ok a (a ++ x ∷ []) j z.coroutine z.status (grown_more a x) (h j z old))
      (λ new. subst (λ (st : Status). Sleeps m ok (a ++ x ∷ []) j z.coroutine st) (sym (ap (λ (w : Instance). w.status) new ∙ running)) tt)
      (get_more a x z j e)

  module _ (s : State) (h : Holds m ok s) (i : Instr) (here : instr_at (the s.top.func) (point_of s) ≡ Some i) where
    -- ---- resume and destroy

    woken : IsOrdinary true i → (y : Sleeper) → IsAsleepAt s y → (label : ℕ) → ((n : ℕ) → IsDeadBehind (the y.instance.coroutine) n y.suspend → IsDeadAt (the y.instance.coroutine) n y.suspend label) → Holds m ok (continue g s y.number y.instance y.suspend y.values label)
    woken ordinary y is label at_label =
        let x = y.instance in
        let j = y.number in
        let run : Instance = record x { status = Status.Running } in
        let new : List Instance = slice_set s.instances j run in
        let grown : IsGrown s.instances new = grown_set s.instances j x run is.got refl in
        record {
          top = record {
            owns = (frame_address_of x, grown j (origin_of x) (ap (option_map origin_of) is.got));
            steady = λ c.
                let f = the x.coroutine in
                let r = ren x.coroutine in
                let q = entry_point f label in
                let asleep : IsAsleep f r s.instances x.coroutine j y.values y.suspend = subst (λ (st : Status). Sleeps m ok s.instances j x.coroutine st) is.status (h.asleep j x is.got) c in
                let taken = phi_values m y.values (label_of (slice_get f.blocks y.suspend.block)) (phis_of (slice_get f.blocks q.block)) in
                steady_kept f r new true x.coroutine (Some j) y.values (with_all y.values taken) q
                (all_kept f r y.values taken (phis_plain r m y.values (label_of (slice_get f.blocks y.suspend.block)) (phis_of (slice_get f.blocks q.block)) ((ok x.coroutine c).phis q.block)))
                (record { room = asleep.room; begun = grown j (x.coroutine, value_in y.values r.to) asleep.begun; frames = λ n d. ⊎_elim (λ known. inl known) (λ dead. inr (at_label n dead).ahead) (asleep.frames n d) });
          };
          below = (λ c. tt, stands_grown m ok s.instances new (is_resumed s.top.mode) s.top.func s.top.instance s.top.values (next_point (point_of s)) grown (goes_on m ok s h i here (ordinary_in (is_resumed s.top.mode) i ordinary) s.top.values (inl refl)), below_grown m ok s.instances new s.top.result s.below grown h.below);
          asleep = all_set m ok s.instances j x run is.got refl h.asleep tt;
        }

    pub resume_good : IsOrdinary true i → (p : Value) → Good m ok sizes answers (resume g (continue g) s p)
    resume_good ordinary p =
        on_result m ok sizes answers (sleeper_at s p) (λ y. let f = the y.instance.coroutine in ok_if (not (is_final f y.suspend)) Cause.State (continue g s y.number y.instance y.suspend y.values (resume_label f y.suspend)))
        (λ y e. on_test m ok sizes answers (not (is_final (the y.instance.coroutine) y.suspend)) Cause.State (continue g s y.number y.instance y.suspend y.values (resume_label (the y.instance.coroutine) y.suspend))
        (λ t. woken ordinary y (asleep_there m ok s p y e) (resume_label (the y.instance.coroutine) y.suspend) (λ n dead. dead.resumed)))

    pub destroy_good : IsOrdinary true i → (p : Value) → Good m ok sizes answers (destroy g (continue g) s p)
    destroy_good ordinary p =
        on_result m ok sizes answers (sleeper_at s p) (λ y. Ok (continue g s y.number y.instance y.suspend y.values (destroy_label (the y.instance.coroutine) y.suspend)))
        (λ y e. woken ordinary y (asleep_there m ok s p y e) (destroy_label (the y.instance.coroutine) y.suspend) (λ n dead. dead.destroyed))

    pub done_good : IsOrdinary true i → (result : Option ℕ) → result ≡ result_of i → (p : Value) → Good m ok sizes answers (done_at g s result p)
    done_good ordinary result e p =
        on_result m ok sizes answers (sleeper_at s p) (λ y. let f = the y.instance.coroutine in ok_if (has_final f) Cause.State (gives s result (truth_value (is_final f y.suspend))))
        (λ y d. on_test m ok sizes answers (has_final (the y.instance.coroutine)) Cause.State (gives s result (truth_value (is_final (the y.instance.coroutine) y.suspend)))
        (λ t. gives_good m ok sizes answers s h i here ordinary result e (truth_value (is_final (the y.instance.coroutine) y.suspend))))

    -- ---- free and end

    pub freed_good : IsOrdinary true i → (result : Option ℕ) → result ≡ result_of i → (v : Value) (o : Option (ℕ × Instance)) → own_instance s ≡ o → Holds m ok (gives (change_own s (λ x. record x { released = true }) o) result v)
    freed_good ordinary result e v None d = gives_good m ok sizes answers s h i here ordinary result e v
    freed_good ordinary result e v (Some (j, x)) d =
        let y : Instance = record x { released = true } in
        gives_good m ok sizes answers (with_instance s j y) (holds_like m ok s j x y (own_there m ok s.instances s.top.instance j x d).1 refl refl h) i here ordinary result e v

    -- neither a coro.frame nor a coro.begin
    abbrev pub IsOther : Type 0
    IsOther = (is_call_of Intrinsic.CoroFrame i ≡ false) × (is_call_of Intrinsic.CoroBegin i ≡ false)

    -- what wasn't resumed goes on behind coro.end
    stays_good : (t : State) → Holds m ok t → same_here m ok sizes answers t i → IsOther → (result : Option ℕ) → result ≡ result_of i → is_resumed t.top.mode ≡ false → Holds m ok (gives t result (truth_value false))
    stays_good t ht there other result e mode =
        gives_here m ok sizes answers t ht i there (subst (λ (b : Bool). IsOrdinary b i) (sym mode) (other.0, other.1, refl)) result e (truth_value false)

    after_good : (t : State) → Holds m ok t → same_here m ok sizes answers t i → IsOther → (result : Option ℕ) → result ≡ result_of i → (mode : Mode) → t.top.mode ≡ mode → Good m ok sizes answers (after_end t result mode)
    after_good t ht there other result e Mode.Resumed d = return_good m ok sizes answers t ht None
    after_good t ht there other result e Mode.Plain d = stays_good t ht there other result e (ap is_resumed d)
    after_good t ht there other result e Mode.Ramp d = stays_good t ht there other result e (ap is_resumed d)
    after_good t ht there other result e (Mode.GivenRamp v) d = stays_good t ht there other result e (ap is_resumed d)
    after_good t ht there other result e (Mode.Entering from label) d = stays_good t ht there other result e (ap is_resumed d)

    finish_good : IsOther → (result : Option ℕ) → result ≡ result_of i → (memory : List MemoryBlock) (o : Option (ℕ × Instance)) → own_instance s ≡ o → Good m ok sizes answers (after_end (with_memory (change_own s (λ x. record x { status = Status.Finished }) o) memory) result s.top.mode)
    finish_good other result e memory None d = after_good (with_memory s memory) (holds_memory m ok s memory h) here other result e s.top.mode refl
    finish_good other result e memory (Some (j, x)) d =
        let y : Instance = record x { status = Status.Finished } in
        after_good (with_memory (with_instance s j y) memory) (holds_memory m ok (with_instance s j y) memory (holds_instance m ok s j x y (own_there m ok s.instances s.top.instance j x d).1 refl tt h)) here other result e s.top.mode refl

    pub end_good : IsOther → (result : Option ℕ) → result ≡ result_of i → Good m ok sizes answers (end_of s finish result)
    end_good other result e = on s.top.has_left
      where
        on : (b : Bool) → Good m ok sizes answers (after_end (if b then s else finish s) result s.top.mode)
        on true = after_good s h here other result e s.top.mode refl
        on false = finish_good other result e (without_slots s.world.memory (slots_of (own_instance s))) (own_instance s) refl

    -- ---- deallocation

    gone : (t : State) → Holds m ok t → same_here m ok sizes answers t i → IsOrdinary true i → (p : Value) → Good m ok sizes answers (and_then (deallocated t.world.memory p) (λ memory. Ok (next (with_memory t memory))))
    gone t ht there ordinary p =
        on_result m ok sizes answers (deallocated t.world.memory p) (λ memory. Ok (next (with_memory t memory)))
        (λ memory e. next_good m ok sizes answers (with_memory t memory) (holds_memory m ok t memory ht) i there ordinary)

    pub deallocate_good : IsOrdinary true i → (p : Value) → Good m ok sizes answers (deallocate s p)
    deallocate_good ordinary p = on (instance_at s.instances p) refl
      where
        free : (j : ℕ) (x : Instance) → slice_get s.instances j ≡ Some x → (b : Bool) → Good m ok sizes answers (let t = if b then let_go s j x else s in and_then (deallocated t.world.memory p) (λ memory. Ok (next (with_memory t memory))))
        free j x got true =
            let y : Instance = record x { freed = true } in
            gone (let_go s j x) (holds_memory m ok (with_instance s j y) _ (holds_like m ok s j x y got refl refl h)) here ordinary p
        free j x got false = gone s h here ordinary p

        on : (o : Option (ℕ × Instance)) → instance_at s.instances p ≡ o → Good m ok sizes answers (let t = if_let_go s o in and_then (deallocated t.world.memory p) (λ memory. Ok (next (with_memory t memory))))
        on None e = gone s h here ordinary p
        on (Some (j, x)) e = free j x (instance_there m ok s.instances p j x e) (may_be_freed x)

    -- ---- begin and frame

    began : is_call_of Intrinsic.CoroBegin i ≡ true → (result : Option ℕ) → result ≡ result_of i → (b : ℕ) (o : Offset) → (o.bits == 0) ≡ true → s.top.instance ≡ None → (memory : List MemoryBlock) → Holds m ok (gives (begun g (with_memory s memory) b 0) result (Value.Ptr (Pointer.At b o)))
    began is result e b o at_front none memory =
        let n = length s.instances in
        let x : Instance = new_instance s.top.func b 0 in
        let more : List Instance = s.instances ++ x ∷ [] in
        let got : slice_get more n ≡ Some x = get_last s.instances x in
        let y : Instance = record x { slots = filter (λ slot. not (is_among (own_facts g s).ramp_slots slot)) s.top.slots ++ [] } in
        let new : List Instance = slice_set more n y in
        let grown : IsGrown s.instances new = λ k z d. grown_set more n x y got refl k z (grown_more s.instances x k z d) in
        let there : origin_at new n ≡ Some (s.top.func, address_in b 0) = ap (option_map origin_of) (set_here more n y (get_within more n x got)) in
        let address : address_in b 0 ≡ Value.Ptr (Pointer.At b o) = λ k. Value.Ptr (Pointer.At b (record { bits = sym (equal_numbers o.bits 0 at_front) k })) in
        record {
          top = record {
            owns = (address_in b 0, there);
            steady = λ c.
                subst (λ (u : Option ℕ). IsSteady (the s.top.func) (ren s.top.func) new (is_resumed s.top.mode) s.top.func (Some n) (with_result s.top.values u (Value.Ptr (Pointer.At b o))) (next_point (point_of s))) (sym e)
                (begin_steady (the s.top.func) (ren s.top.func) (ok s.top.func c) s.instances (is_resumed s.top.mode) s.top.func (point_of s) i here new n s.top.values (Value.Ptr (Pointer.At b o)) is (there ∙ ap (λ (v : Value). Some (s.top.func, v)) address)
                (subst (λ (u : Option ℕ). IsSteady (the s.top.func) (ren s.top.func) s.instances (is_resumed s.top.mode) s.top.func u s.top.values (point_of s)) none (h.top.steady c)));
          };
          below = below_grown m ok s.instances new s.top.result s.below grown h.below;
          asleep = all_set m ok more n x y got refl (all_more s.instances x refl h.asleep) tt;
        }

    begin_at_good : is_call_of Intrinsic.CoroBegin i ≡ true → (result : Option ℕ) → result ≡ result_of i → (mem : Value) → s.top.instance ≡ None → Good m ok sizes answers (and_then (begin_at g s mem Kind.Allocator) (λ t. Ok (gives t result mem)))
    begin_at_good is result e (Value.Ptr (Pointer.At b o)) none = on (o.bits == 0) refl (may_be_owned Kind.Allocator (own_frame g s).size (slice_get s.world.memory b))
      where
        on : (z : Bool) → (o.bits == 0) ≡ z → (t : Bool) → Good m ok sizes answers (and_then (and_then (check (z && t) Cause.Begin (Ok (with_block s.world.memory b (owned_to (own_frame g s).size)))) (λ memory. and_then (found Cause.Begin (block_of (Value.Ptr (Pointer.At b o)))) (λ c. Ok (begun g (with_memory s memory) c 0)))) (λ t. Ok (gives t result (Value.Ptr (Pointer.At b o)))))
        on true d true = began is result e b o d none (with_block s.world.memory b (owned_to (own_frame g s).size))
        on true d false = tt
        on false d t = tt
    begin_at_good is result e (Value.Ptr Pointer.Null) none = tt
    begin_at_good is result e (Value.Ptr (Pointer.Func f)) none = tt
    begin_at_good is result e Value.Poison none = tt
    begin_at_good is result e (Value.Int w) none = tt

    pub begin_good : is_call_of Intrinsic.CoroBegin i ≡ true → (result : Option ℕ) → result ≡ result_of i → (mem : Value) → Good m ok sizes answers (begin g s result mem)
    begin_good is result e mem = on s.top.instance refl
      where
        on : (o : Option ℕ) → s.top.instance ≡ o → Good m ok sizes answers (and_then (ok_if (is_none o) Cause.Begin s) (λ t. and_then (begin_at g t mem Kind.Allocator) (λ u. Ok (gives u result mem))))
        on None d = begin_at_good is result e mem d
        on (Some j) d = tt

    pub frame_good : is_call_of Intrinsic.CoroFrame i ≡ true → (result : Option ℕ) → result ≡ result_of i → Holds m ok (gives s result (frame_address (own_instance s)))
    frame_good is result e = record {
      top = record {
        owns = h.top.owns;
        steady = λ c.
            subst (λ (u : Option ℕ). IsSteady (the s.top.func) (ren s.top.func) s.instances (is_resumed s.top.mode) s.top.func s.top.instance (with_result s.top.values u (frame_address (own_instance s))) (next_point (point_of s))) (sym e)
            (frame_steady (the s.top.func) (ren s.top.func) (ok s.top.func c) s.instances (is_resumed s.top.mode) s.top.func (point_of s) i here s.top.instance s.top.values is (h.top.steady c));
      };
      below = h.below;
      asleep = h.asleep;
    }

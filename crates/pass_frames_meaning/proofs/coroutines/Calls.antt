-- Calls of a coroutine are followed: of functions, of allocators and deallocators, and of some intrinsics.
use Rattle.std.proofs.Common.{◌≡◌, inl, inr, ℕ, ◌<◌, Bool, true, false, List, ◌∷◌, length, Option, Some, None, Result, Ok, Err, refl, sym, ap, ◌∙◌, subst, ◌&&◌}
use Rattle.std.specs.Prelude.{slice_get}
use Rattle.pass_frames_proof.specs.flow_solver.Paths.{IsListed}
use Rattle.pass_frames_proof.specs.ir_base.declared.cause.Cause.{Cause}
use Rattle.pass_frames_proof.specs.ir_base.declared.outcome.Outcome.{Outcome}
use Rattle.pass_frames_proof.specs.ir_base.declared.name.Name.{Name}
use Rattle.pass_frames_proof.specs.ir_model.Names.{declaration_named, function_at, function_named}
use Rattle.pass_frames_proof.specs.ir_model.Ty.{Ty}
use Rattle.pass_frames_proof.specs.ir_model.declared.instr.Instr.{Instr}
use Rattle.pass_frames_proof.specs.ir_model.declared.operand.Allocator.{Allocator}
use Rattle.pass_frames_proof.specs.ir_model.declared.operand.Arg.{Arg}
use Rattle.pass_frames_proof.specs.ir_model.declared.operand.Callee.{Callee}
use Rattle.pass_frames_proof.specs.ir_model.declared.operand.Intrinsic.{Intrinsic}
use Rattle.pass_frames_proof.specs.ir_paths.Windows.{operand_at}
use Rattle.pass_frames_proof.specs.pass_cells.declared.plan.KeptValue.{KeptValue}
use Rattle.pass_frames_proof.specs.pass_copies.Uses.{is_access}
use Rattle.pass_frames_meaning.proofs.called.Voids.{void_allocator, void_intrinsic}
use Rattle.pass_frames_meaning.proofs.coroutines.Steps.{acts_as, done_by, may_stand, not_stuck, quiet_followed, same_ok, spared, storable}
use Rattle.pass_frames_meaning.proofs.giving.Giving.{given_back}
use Rattle.pass_frames_meaning.proofs.giving.Owned.{frames_owned, no_heap_slots}
use Rattle.pass_frames_meaning.proofs.ordinary.Standing.{fetch_ready, here_ready}
use Rattle.pass_frames_meaning.proofs.others.Names.{no_distance, result_low}
use Rattle.pass_frames_meaning.proofs.others.Others.{IsQuietAction, no_ok, quiet_copied}
use Rattle.pass_frames_meaning.proofs.others.Returns.{instr_in, no_return, none_by}
use Rattle.pass_frames_meaning.proofs.others.Unlocated.{unaccessed}
use Rattle.pass_frames_meaning.proofs.slotted.Facts.{instances_placed, listed_slots, slots_listed, slots_there}
use Rattle.pass_frames_meaning.specs.Called.{FitsMode, IsCalm}
use Rattle.pass_frames_meaning.specs.Coroutines.{HasStorables, IsUnlocatedHere, MayFollow}
use Rattle.pass_frames_meaning.specs.Others.{EntersCoroutines}
use Rattle.pass_frames_meaning.specs.Setting.{AreOfRuns, KeepsAll, Setting}
use Rattle.pass_frames_meaning.specs.Standing.{IsStaying}
use Rattle.pass_frames_proof.proofs.asking.Coroutines.{coroutine_asked}
use Rattle.pass_frames_proof.proofs.asking.Freed.{coroutine_frees}
use Rattle.pass_frames_proof.proofs.asking.Others.{asks, no_marker}
use Rattle.pass_frames_proof.proofs.calling.Calls.{calls_followed}
use Rattle.pass_frames_proof.proofs.copying.Followed.{coroutine_copied}
use Rattle.pass_frames_proof.proofs.heaps.Given.{coroutine_given_back}
use Rattle.pass_frames_proof.proofs.heaps.Making.{coroutine_made}
use Rattle.pass_frames_proof.proofs.returning.Deaths.{slot_among}
use Rattle.pass_frames_proof.specs.Asking.{IsAsking}
use Rattle.pass_frames_proof.specs.Calling.{HasBlocks}
use Rattle.pass_frames_proof.specs.Copying.{IsCopying}
use Rattle.pass_frames_proof.specs.Followed.{IsFollowed}
use Rattle.pass_frames_proof.specs.Framings.{IsFraming}
use Rattle.pass_frames_proof.specs.Heaps.{IsAllocator, IsDeallocator, MayMake}
use Rattle.pass_frames_proof.specs.Here.{IsHere, IsLined}
use Rattle.pass_frames_proof.specs.Lines.{IsStorable}
use Rattle.pass_frames_proof.specs.Places.{Framing, instrs_at}
use Rattle.pass_frames_proof.specs.Related.{AreBuiltOf, IsKeptValue, all_slots, is_coroutine, returned_from}
use Rattle.pass_frames_proof.specs.Stepping.{IsNotEntering, state_in}
use Rattle.pass_frames_proof.specs.pass_renewed_proof.Renewed.{continue_renewed, is_flagged, is_idle, renewed_step}
use Rattle.pass_frames_proof.specs.rule_types.Wants.{allocator_result, intrinsic_result}
use Rattle.pass_frames_proof.specs.run_agreement.Machines.{IsFine}
use Rattle.pass_frames_proof.specs.run_framed.Framed.{allocates}
use Rattle.pass_frames_proof.specs.run_memory.declared.pointer.Value.{Value}
use Rattle.run_slots.specs.Slots.{IsSlottedState}
use Rattle.pass_frames_proof.specs.run_source.Source.{Continues, Sleeper, change_own, context_of, coro, frame_address, release, sleeper_at}
use Rattle.pass_frames_proof.specs.run_source.State.{function_of, gives, own_instance, work_of}
use Rattle.pass_frames_proof.specs.run_source.declared.state.Activation.{Activation}
use Rattle.pass_frames_proof.specs.run_source.declared.state.Instance.{Instance}
use Rattle.pass_frames_proof.specs.run_source.declared.state.Mode.{Mode}
use Rattle.pass_frames_proof.specs.run_source.declared.state.State.{State}
use Rattle.pass_frames_proof.specs.run_source_tables.Given.{Given, has_final, is_final}
use Rattle.pass_frames_proof.specs.run_step.Results.{and_then, ok_if}
use Rattle.pass_frames_proof.specs.run_step.Step.{AtInstr, Coro, Deallocate, Done, Enter, allocated, fetch, instr_action, is_lifetime, named_call, with_length}
use Rattle.pass_frames_proof.specs.run_step.Values.{address, arg_values, nth, truth_value, value_in, with_result}
use Rattle.pass_renewed_meaning.proofs.run_types.Runs.{sizes_small}
use Rattle.pass_renewed_meaning.specs.run_types.States.{IsMalloc, IsNew, TakesSize}

-- ---- what is asked leaves the activation on top

same_func : (s : State) (o : Option ℕ) (v : Value) (after : State)
    → ◌≡◌ {A = Result State Cause} (Ok (gives s o v)) (Ok after) → after.top.func ≡ s.top.func
same_func s o v after e = ap (λ (z : State). z.top.func) (sym (same_ok (gives s o v) after e))

on_promise : (s : State) (o : Option ℕ) (q : Result Value Cause) (after : State)
    → and_then q (λ v. Ok (gives s o v)) ≡ Ok after → after.top.func ≡ s.top.func
on_promise s o (Err cause) after e = absurd (no_ok cause after e)
on_promise s o (Ok v) after e = same_func s o v after e

on_done : (s : State) (o : Option ℕ) (test : Bool) (v : Value) (after : State)
    → ok_if test Cause.State (gives s o v) ≡ Ok after → after.top.func ≡ s.top.func
on_done s o true v after e = same_func s o v after e
on_done s o false v after e = absurd (no_ok Cause.State after e)

asked_func : (g : Given) (go : Continues) (s : State) (x : Intrinsic) → IsAsking x → (args : List Arg) (vs : List Value)
    (result : Option ℕ) (after : State) → coro g go s x args vs result ≡ Ok after → after.top.func ≡ s.top.func
asked_func g go s Intrinsic.CoroSizeI32 h args vs result after e = same_func s result _ after e
asked_func g go s Intrinsic.CoroSizeI64 h args vs result after e = same_func s result _ after e
asked_func g go s Intrinsic.CoroAlignI32 h args vs result after e = same_func s result _ after e
asked_func g go s Intrinsic.CoroAlignI64 h args vs result after e = same_func s result _ after e
asked_func g go s Intrinsic.CoroAlloc h args vs result after e = same_func s result _ after e
asked_func g go s Intrinsic.CoroFrame h args vs result after e = same_func s result _ after e
asked_func g go s Intrinsic.CoroDone h args vs result after e = on (sleeper_at s (nth vs 0)) e
  where
    on : (q : Result Sleeper Cause)
        → and_then q (λ (y : Sleeper). ok_if (has_final
        (function_at g.code y.instance.coroutine)) Cause.State (gives s result
        (truth_value (is_final
        (function_at g.code y.instance.coroutine) y.suspend)))) ≡ Ok after
        → after.top.func ≡ s.top.func
    on (Err cause) d = absurd (no_ok cause after d)
    on (Ok y) d = on_done s result _ _ after d
asked_func g go s Intrinsic.CoroPromise h args vs result after e = on_promise s result _ after e
asked_func g go s _ h args vs result after e = absurd h

asked_staying : (x : Intrinsic) → IsAsking x → (result : Option ℕ) (must_tail : Bool) (ty : Option Ty) (args : List Arg)
    → IsStaying (Instr.Call result must_tail ty (Callee.Intrinsic x) args)
asked_staying Intrinsic.CoroSizeI32 h result must_tail ty args = tt
asked_staying Intrinsic.CoroSizeI64 h result must_tail ty args = tt
asked_staying Intrinsic.CoroAlignI32 h result must_tail ty args = tt
asked_staying Intrinsic.CoroAlignI64 h result must_tail ty args = tt
asked_staying Intrinsic.CoroAlloc h result must_tail ty args = tt
asked_staying Intrinsic.CoroFrame h result must_tail ty args = tt
asked_staying Intrinsic.CoroDone h result must_tail ty args = tt
asked_staying Intrinsic.CoroPromise h result must_tail ty args = tt
asked_staying _ h result must_tail ty args = absurd h

asked_lined : (x : Intrinsic) → IsAsking x → (result : Option ℕ) (must_tail : Bool) (ty : Option Ty) (args : List Arg)
    → IsLined (Instr.Call result must_tail ty (Callee.Intrinsic x) args)
asked_lined Intrinsic.CoroSizeI32 h result must_tail ty args = tt
asked_lined Intrinsic.CoroSizeI64 h result must_tail ty args = tt
asked_lined Intrinsic.CoroAlignI32 h result must_tail ty args = tt
asked_lined Intrinsic.CoroAlignI64 h result must_tail ty args = tt
asked_lined Intrinsic.CoroAlloc h result must_tail ty args = tt
asked_lined Intrinsic.CoroFrame h result must_tail ty args = tt
asked_lined Intrinsic.CoroDone h result must_tail ty args = tt
asked_lined Intrinsic.CoroPromise h result must_tail ty args = tt
asked_lined _ h result must_tail ty args = absurd h

asked_unaccessed : (x : Intrinsic) → IsAsking x → (result : Option ℕ) (must_tail : Bool) (ty : Option Ty)
    (args : List Arg) → is_access (Instr.Call result must_tail ty (Callee.Intrinsic x) args) ≡ false
asked_unaccessed Intrinsic.CoroSizeI32 h result must_tail ty args = refl
asked_unaccessed Intrinsic.CoroSizeI64 h result must_tail ty args = refl
asked_unaccessed Intrinsic.CoroAlignI32 h result must_tail ty args = refl
asked_unaccessed Intrinsic.CoroAlignI64 h result must_tail ty args = refl
asked_unaccessed Intrinsic.CoroAlloc h result must_tail ty args = refl
asked_unaccessed Intrinsic.CoroFrame h result must_tail ty args = refl
asked_unaccessed Intrinsic.CoroDone h result must_tail ty args = refl
asked_unaccessed Intrinsic.CoroPromise h result must_tail ty args = refl
asked_unaccessed _ h result must_tail ty args = absurd h

pub released_top : (s : State) (f : Instance → Instance) (o : Option (ℕ × Instance)) → (change_own s f o).top ≡ s.top
released_top s f None = refl
released_top s f (Some p) = refl

-- ---- modes and blocks

pub calm_by : (instance : Option ℕ) (mode : Mode) → IsNotEntering mode → FitsMode instance mode
    → IsCalm mode × (allocates mode ≡ true)
calm_by instance Mode.Plain h e = (tt, refl)
calm_by instance Mode.Ramp h e = (tt, refl)
calm_by instance Mode.Resumed h e = (tt, refl)
calm_by instance (Mode.GivenRamp frame) h e = absurd e
calm_by instance (Mode.Entering from label) h e = absurd h

pub has_blocks : (t : State) → IsSlottedState t → HasBlocks t
has_blocks t slots n among =
    let z = slot_among n (all_slots t) among in
    subst (λ (j : ℕ). j < length t.world.memory) z.2 ((slots_there t slots).each z.0 z.1)

no_marker_idle : (flags : ℕ → Bool) (callee : Callee) (result : Option ℕ) (must_tail : Bool) (ty : Option Ty)
    (args : List Arg) → is_lifetime callee ≡ false
    → is_idle flags (AtInstr (Instr.Call result must_tail ty callee args)) ≡ false
no_marker_idle flags callee result must_tail ty args e =
    ap (λ (b : Bool). b && is_flagged flags (operand_at args 1)) e

-- ---- the activation

module _ (c : Setting) (all : KeepsAll c) (s t : State) (r : AreBuiltOf c.b s t) (k : AreOfRuns c s t r)
    (runs : s.outcome ≡ Outcome.Running) (fine : IsFine (renewed_step c.g s).outcome)
    (coroutine : is_coroutine c.b s.top.func ≡ true) (mode : IsNotEntering s.top.mode) (o : MayFollow c s) where
  abbrev x : Framing
  x = c.b.framing s.top.func

  abbrev Follows : Type 0
  Follows = IsFollowed c.b c.g s t

  is : IsFraming x
  is = all.given.framings s.top.func coroutine

  calm : IsCalm s.top.mode × (allocates s.top.mode ≡ true)
  calm = calm_by s.top.instance s.top.mode mode k.called.mode

  -- ---- a call

  module _ (result : Option ℕ) (must_tail : Bool) (ty : Option Ty) (args : List Arg) (callee : Callee)
      (there : fetch (function_at c.g.given.code s.top.func) s.top.block s.top.at
      ≡ AtInstr (Instr.Call result must_tail ty callee args)) where
    stands : slice_get (instrs_at x s.top.block) s.top.at ≡ Some (Instr.Call result must_tail ty callee args)
    stands = instr_in x (function_at c.g.given.code s.top.func) (all.given.coroutines s.top.func coroutine) s.top.block
        s.top.at (Instr.Call result must_tail ty callee args) there

    plain : is_access (Instr.Call result must_tail ty callee args) ≡ false
        → IsUnlocatedHere c s (Instr.Call result must_tail ty callee args)
    plain e = unaccessed x (state_in x s.top.block s.top.at) (Instr.Call result must_tail ty callee args) e

    here : is_lifetime callee ≡ false → IsStaying (Instr.Call result must_tail ty callee args)
        → IsLined (Instr.Call result must_tail ty callee args)
        → IsUnlocatedHere c s (Instr.Call result must_tail ty callee args)
        → IsHere c.b s (Instr.Call result must_tail ty callee args)
    here unmarked staying lined unlocated =
        here_ready c all s k.sound coroutine mode (Instr.Call result must_tail ty callee args) there staying
        (may_stand c all s t r k runs fine coroutine mode o (Instr.Call result must_tail ty callee args) there
        (no_marker_idle (c.g.flags s.top.func) callee result must_tail ty args unmarked) staying unlocated) tt
        (λ q e. no_distance x is s.top.block s.top.at (Instr.Call result must_tail ty callee args) stands q e tt)
        runs lined

    inside : (a : Activation) → IsListed a (s.top ∷ s.below) → is_coroutine c.b a.func ≡ true
        → returned_from (c.b.framing a.func) a a.mode ≡ None
    inside a (inl e) is_one =
        subst (λ (z : Activation). returned_from (c.b.framing z.func) z z.mode ≡ None) (sym e)
        (none_by c all x s.top s.top.mode calm.0 (no_return c all s.top.func s.top.block s.top.at
        (Instr.Call result must_tail ty callee args) coroutine there))
    inside a (inr l) is_one = (spared c all s t r k runs fine coroutine mode o).below a l is_one

    may_make : MayMake c.b s t
    may_make = record { mine = slots_there s k.slots; theirs = slots_there t k.other_slots; inside = inside }

  -- ---- functions by their names

  pub named_followed : EntersCoroutines c s t → (result : Option ℕ) (must_tail : Bool) (ty : Option Ty)
      (args : List Arg) (n : Name)
      → fetch (function_of c.g.given s) s.top.block s.top.at
      ≡ AtInstr (Instr.Call result must_tail ty (Callee.Named n) args) → Follows
  named_followed enters result must_tail ty args n there = on (function_named c.g.given.code n) refl
    where
      by : (func : ℕ) → instr_action (context_of c.g.given s) (work_of s)
          (Instr.Call result must_tail ty (Callee.Named n) args)
          ≡ Enter func (arg_values c.g.given.code s.top.values args) result must_tail
          → (b : Bool) → is_coroutine c.b func ≡ b → Follows
      by func e true d = enters.ramps (Instr.Call result must_tail ty (Callee.Named n) args) func
          (arg_values c.g.given.code s.top.values args) result must_tail there e d
      by func e false d = calls_followed c.b c.g all.given s t r (Instr.Call result must_tail ty (Callee.Named n) args)
          func (arg_values c.g.given.code s.top.values args) result must_tail (record {
            runs = runs;
            at = fetch_ready c all s k.sound coroutine mode (Instr.Call result must_tail ty (Callee.Named n) args) there
                tt (may_stand c all s t r k runs fine coroutine mode o
                (Instr.Call result must_tail ty (Callee.Named n) args) there refl tt
                (plain result must_tail ty args (Callee.Named n) there refl));
            does = e;
            call = tt;
            unlocated = plain result must_tail ty args (Callee.Named n) there refl;
            pointed = λ u. tt;
            gives = all.ungiven s.top.func s.top.block s.top.at
                (Instr.Call result must_tail ty (Callee.Named n) args) there;
            allocas = λ at u align of e. result_low x is 0 at u (Instr.Alloca u of align) e refl;
          }) d (has_blocks t k.other_slots)

      on : (q : Option ℕ) → function_named c.g.given.code n ≡ q → Follows
      on (Some func) e = by func
          (ap (λ (q : Option ℕ). named_call (context_of c.g.given s) (work_of s) q
          (declaration_named c.g.given.code n) ty result must_tail (arg_values c.g.given.code s.top.values args)) e)
          (is_coroutine c.b func) refl
      on None e = quiet_followed c all s t r k runs fine coroutine mode o
          (Instr.Call result must_tail ty (Callee.Named n) args) there tt e
          (plain result must_tail ty args (Callee.Named n) there refl)
          (λ q d. no_distance x is s.top.block s.top.at (Instr.Call result must_tail ty (Callee.Named n) args)
          (stands result must_tail ty args (Callee.Named n) there) q d tt)

  -- ---- allocators

  module _ (result : Option ℕ) (must_tail : Bool) (ty : Option Ty) (args : List Arg) where
    makes : (a : Allocator) → IsAllocator a → TakesSize a
        → fetch (function_at c.g.given.code s.top.func) s.top.block s.top.at
        ≡ AtInstr (Instr.Call result must_tail ty (Callee.Allocator a) args)
        → ((v : Value) → nth (arg_values c.g.given.code s.top.values args) 0 ≡ v
        → instr_action (context_of c.g.given s) (work_of s) (Instr.Call result must_tail ty (Callee.Allocator a) args)
        ≡ with_length v (λ n. Done (allocated (work_of s) result n))) → Follows
    makes a makes_it takes there same = on (nth (arg_values c.g.given.code s.top.values args) 0) refl
      where
        on : (v : Value) → nth (arg_values c.g.given.code s.top.values args) 0 ≡ v → Follows
        on (Value.Int n) e = coroutine_made c.b c.g all.given s t r
            (may_make result must_tail ty args (Callee.Allocator a) there) a result must_tail ty args n (record {
              here = here result must_tail ty args (Callee.Allocator a) there refl tt tt
                  (plain result must_tail ty args (Callee.Allocator a) there refl);
              makes = makes_it;
              size = e;
              small = sizes_small c.g.given.code (function_at c.g.given.code s.top.func) s.top.values
                  (all.types s.top.func) k.fitting.top s.top.block s.top.at result must_tail ty a args there takes n e;
              storable = λ q kept d is. storable c all s t r k runs fine coroutine mode o
                  (Instr.Call result must_tail ty (Callee.Allocator a) args) there refl
                  (allocated (work_of s) result n.bits) (same (Value.Int n) e) q kept is;
            })
        on Value.Poison e = absurd (not_stuck c all s t r k runs fine coroutine mode o
            (Instr.Call result must_tail ty (Callee.Allocator a) args) there refl
            Cause.Poison (same Value.Poison e))
        on (Value.Ptr p) e = absurd (not_stuck c all s t r k runs fine coroutine mode o
            (Instr.Call result must_tail ty (Callee.Allocator a) args) there refl
            Cause.Poison (same (Value.Ptr p) e))

    frees : (a : Allocator) → IsDeallocator a → allocator_result a ≡ None
        → fetch (function_at c.g.given.code s.top.func) s.top.block s.top.at
        ≡ AtInstr (Instr.Call result must_tail ty (Callee.Allocator a) args)
        → instr_action (context_of c.g.given s) (work_of s) (Instr.Call result must_tail ty (Callee.Allocator a) args)
        ≡ Deallocate (address (nth (arg_values c.g.given.code s.top.values args) 0)) → Follows
    frees a frees_it void there e =
        let z = acts_as c all s t r k runs fine coroutine mode o
        (Instr.Call result must_tail ty (Callee.Allocator a) args) there refl
        (Deallocate (address (nth (arg_values c.g.given.code s.top.values args) 0))) e in
        let none : result ≡ None = void_allocator c.g.given.code (function_at c.g.given.code s.top.func)
        (all.types s.top.func) s.top.block s.top.at result must_tail ty a args there void in
        let at : fetch (function_at c.g.given.code s.top.func) s.top.block s.top.at
        ≡ AtInstr (Instr.Call None must_tail ty (Callee.Allocator a) args) =
        there ∙ ap (λ (q : Option ℕ). AtInstr (Instr.Call q must_tail ty (Callee.Allocator a) args)) none in
        coroutine_given_back c.b c.g all.given s t r a must_tail ty args z.0 (record {
          here = here None must_tail ty args (Callee.Allocator a) at refl tt tt
              (plain None must_tail ty args (Callee.Allocator a) at refl);
          frees = frees_it;
          does = z.1;
          giving = given_back c.b s t r (listed_slots s k.slots) (slots_listed s k.slots)
              (instances_placed s k.slots) (frames_owned s k.slots) (no_heap_slots t k.other_slots)
              (inside result must_tail ty args (Callee.Allocator a) there)
              (address (nth (arg_values c.g.given.code s.top.values args) 0)) z.0 z.1;
        })

    pub allocator_followed : (a : Allocator)
        → fetch (function_of c.g.given s) s.top.block s.top.at
        ≡ AtInstr (Instr.Call result must_tail ty (Callee.Allocator a) args) → Follows
    allocator_followed Allocator.Malloc there = makes Allocator.Malloc tt IsMalloc there
        (λ v e. ap (λ (z : Value). with_length z (λ n. Done (allocated (work_of s) result n))) e)
    allocator_followed Allocator.Znwm there = makes Allocator.Znwm tt IsNew there
        (λ v e. ap (λ (z : Value). with_length z (λ n. Done (allocated (work_of s) result n))) e)
    allocator_followed Allocator.Free there = frees Allocator.Free tt refl there refl
    allocator_followed Allocator.ZdlPv there = frees Allocator.ZdlPv tt refl there refl
    allocator_followed Allocator.ZdlPvm there = frees Allocator.ZdlPvm tt refl there refl

    -- ---- intrinsics

    pub asking_followed : (y : Intrinsic) → IsAsking y
        → fetch (function_of c.g.given s) s.top.block s.top.at
        ≡ AtInstr (Instr.Call result must_tail ty (Callee.Intrinsic y) args) → Follows
    asking_followed y asking there =
        let i : Instr = Instr.Call result must_tail ty (Callee.Intrinsic y) args in
        let e = asks (context_of c.g.given s) (work_of s) y asking result args
        (arg_values c.g.given.code s.top.values args) in
        let z = acts_as c all s t r k runs fine coroutine mode o
        (Instr.Call result must_tail ty (Callee.Intrinsic y) args) there
        (no_marker_idle (c.g.flags s.top.func) (Callee.Intrinsic y) result must_tail ty args (no_marker y asking))
        (Coro y args result) e in
        let same = asked_func c.g.given (continue_renewed c.g) s y asking args
        (arg_values c.g.given.code s.top.values args) result z.0 z.1 in
        coroutine_asked c.b c.g all.given s t r y result must_tail ty args z.0 (record {
          here = here result must_tail ty args (Callee.Intrinsic y) there (no_marker y asking)
              (asked_staying y asking result must_tail ty args) (asked_lined y asking result must_tail ty args)
              (plain result must_tail ty args (Callee.Intrinsic y) there
              (asked_unaccessed y asking result must_tail ty args));
          asking = asking;
          does = z.1;
          may = record { placed = instances_placed s k.slots; laid = all.laid; frames = all.frames; no_gift = calm.1 };
          storable = λ q kept d is. fits_there z.0 z.2 same q kept is;
        })
      where
        fits_there : (after : State) → renewed_step c.g s ≡ after → after.top.func ≡ s.top.func
            → (q : ℕ) (kept : KeptValue) → IsKeptValue x q kept → IsStorable kept.ty (value_in after.top.values q)
        fits_there after steps same =
            subst (λ (func : ℕ). (q : ℕ) (kept : KeptValue) → IsKeptValue (c.b.framing func) q kept
            → IsStorable kept.ty (value_in after.top.values q)) same
            (subst (HasStorables c) steps o.storables (ap (is_coroutine c.b) same ∙ coroutine))

    pub free_followed :
        fetch (function_of c.g.given s) s.top.block s.top.at
        ≡ AtInstr (Instr.Call result must_tail ty (Callee.Intrinsic Intrinsic.CoroFree) args) → Follows
    free_followed there =
        let z = acts_as c all s t r k runs fine coroutine mode o
        (Instr.Call result must_tail ty (Callee.Intrinsic Intrinsic.CoroFree) args) there refl
        (Coro Intrinsic.CoroFree args result) refl in
        coroutine_frees c.b c.g all.given s t r result must_tail ty args (record {
          here = here result must_tail ty args (Callee.Intrinsic Intrinsic.CoroFree) there refl tt tt
              (plain result must_tail ty args (Callee.Intrinsic Intrinsic.CoroFree) there refl);
          placed = instances_placed s k.slots;
          storable = λ q kept d is. on (release s) (released_top s _ (own_instance s))
              (subst (HasStorables c) (z.2 ∙ sym (same_ok (gives (release s) result
              (frame_address (own_instance s))) z.0 z.1)) o.storables) q kept is;
        })
      where
        on : (u : State) → u.top ≡ s.top
            → HasStorables c (gives u result (frame_address (own_instance s)))
            → (q : ℕ) (kept : KeptValue) → IsKeptValue x q kept
            → IsStorable kept.ty (value_in (with_result s.top.values result
            (frame_address (own_instance s))) q)
        on u e h =
            subst (λ (a : Activation). is_coroutine c.b a.func ≡ true → (q : ℕ) (kept : KeptValue)
            → IsKeptValue (c.b.framing a.func) q kept
            → IsStorable kept.ty (value_in (with_result a.values result
            (frame_address (own_instance s))) q)) e h coroutine

    copies : (y : Intrinsic) → IsCopying y → intrinsic_result y ≡ None
        → is_lifetime (Callee.Intrinsic y) ≡ false
        → IsStaying (Instr.Call None must_tail ty (Callee.Intrinsic y) args)
        → IsLined (Instr.Call None must_tail ty (Callee.Intrinsic y) args)
        → fetch (function_at c.g.given.code s.top.func) s.top.block s.top.at
        ≡ AtInstr (Instr.Call result must_tail ty (Callee.Intrinsic y) args)
        → IsUnlocatedHere c s (Instr.Call result must_tail ty (Callee.Intrinsic y) args)
        → IsQuietAction (instr_action (context_of c.g.given s) (work_of s)
        (Instr.Call result must_tail ty (Callee.Intrinsic y) args)) → Follows
    copies y copying void unmarked staying lined there unlocated q =
        let none : result ≡ None = void_intrinsic c.g.given.code (function_at c.g.given.code s.top.func)
        (all.types s.top.func) s.top.block s.top.at result must_tail ty y args there void in
        done_by c all s t r k runs fine coroutine mode o (Instr.Call result must_tail ty (Callee.Intrinsic y) args)
        there
        (no_marker_idle (c.g.flags s.top.func) (Callee.Intrinsic y) result must_tail ty args unmarked) q (λ v e.
        coroutine_copied c.b c.g all.given s t r y must_tail ty args v (record {
          here = here None must_tail ty args (Callee.Intrinsic y)
              (there ∙ ap (λ (z : Option ℕ). AtInstr (Instr.Call z must_tail ty (Callee.Intrinsic y) args)) none)
              unmarked staying lined
              (subst (λ (z : Option ℕ). IsUnlocatedHere c s (Instr.Call z must_tail ty (Callee.Intrinsic y) args)) none
              unlocated);
          copying = copying;
          does = ap (λ (z : Option ℕ). instr_action (context_of c.g.given s) (work_of s)
              (Instr.Call z must_tail ty (Callee.Intrinsic y) args)) (sym none) ∙ e;
        }) (spared c all s t r k runs fine coroutine mode o))

    pub copying_followed : (y : Intrinsic) → IsCopying y
        → fetch (function_of c.g.given s) s.top.block s.top.at
        ≡ AtInstr (Instr.Call result must_tail ty (Callee.Intrinsic y) args)
        → IsUnlocatedHere c s (Instr.Call result must_tail ty (Callee.Intrinsic y) args) → Follows
    copying_followed Intrinsic.MemcpyI64 h there unlocated =
        copies Intrinsic.MemcpyI64 tt refl refl tt tt there unlocated
        (quiet_copied (context_of c.g.given s) (work_of s) (arg_values c.g.given.code s.top.values args))
    copying_followed Intrinsic.MemcpyI32 h there unlocated =
        copies Intrinsic.MemcpyI32 tt refl refl tt tt there unlocated
        (quiet_copied (context_of c.g.given s) (work_of s) (arg_values c.g.given.code s.top.values args))
    copying_followed _ h there unlocated = absurd h

-- Each instruction and terminator that stands at the same place of both runs is followed.
use Rattle.std.proofs.Common.{◌≡◌, ℕ, ◌<◌, ◌^◌, Bool, true, false, List, Option, Some, None, Ok, Err, refl, sym, ap, ◌∙◌, subst}
use Rattle.std.specs.Prelude.{is_none, slice_get}
use Rattle.std.proofs.lemmas.Bool.{false≢true}
use Rattle.pass_proofs.specs.ir_base.declared.cause.Cause.{Cause}
use Rattle.pass_proofs.specs.ir_base.declared.name.Name.{Name}
use Rattle.pass_proofs.specs.ir_base.declared.outcome.Word.{Word}
use Rattle.pass_proofs.specs.ir_model.Names.{declaration_named, function_at, function_named}
use Rattle.pass_proofs.specs.ir_model.Ty.{Ty}
use Rattle.pass_proofs.specs.ir_model.declared.instr.Instr.{Instr}
use Rattle.pass_proofs.specs.ir_model.declared.instr.Terminator.{Terminator}
use Rattle.pass_proofs.specs.ir_model.declared.module.Function.{Function}
use Rattle.pass_proofs.specs.ir_model.declared.module.Module.{Module}
use Rattle.pass_proofs.specs.ir_model.declared.operand.Allocator.{Allocator}
use Rattle.pass_proofs.specs.ir_model.declared.operand.Arg.{Arg}
use Rattle.pass_proofs.specs.ir_model.declared.operand.Callee.{Callee}
use Rattle.pass_proofs.specs.ir_model.declared.operand.Intrinsic.{Intrinsic}
use Rattle.pass_proofs.specs.pass_intrinsics.Cuts.{goes_on}
use Rattle.pass_proofs.specs.pass_intrinsics.Shapes.{given_name}
use Rattle.pass_proofs.specs.pass_intrinsics.declared.shape.Part.{Part}
use Rattle.pass_proofs.specs.pass_intrinsics.declared.shape.Shape.{Shape}
use Rattle.pass_proofs.specs.pass_split.Given.{has_given_call}
use Rattle.pass_split_proof.proofs.asking.Done.{done_followed}
use Rattle.pass_split_proof.proofs.asking.Promised.{promise_followed}
use Rattle.pass_split_proof.proofs.begins.BeginFollowed.{begin_followed}
use Rattle.pass_split_proof.proofs.begins.SaveCode.{shape_is}
use Rattle.pass_split_proof.proofs.begins.SaveFollowed.{save_followed}
use Rattle.pass_split_proof.proofs.branching.Terminators.{term_followed}
use Rattle.pass_split_proof.proofs.calling.Called.{call_to_followed}
use Rattle.pass_split_proof.proofs.calling.Returned.{return_followed}
use Rattle.pass_split_proof.proofs.freeing.Freed.{deallocation_followed}
use Rattle.pass_split_proof.proofs.giving.Constants.{constant_followed}
use Rattle.pass_split_proof.proofs.giving.Frames.{frame_followed, id_followed}
use Rattle.pass_split_proof.proofs.given_calls.Called.{given_call_followed}
use Rattle.pass_split_proof.proofs.given_ends.Ended.{any_ramp_ends}
use Rattle.pass_split_proof.proofs.given_frees.Freed.{given_free_followed}
use Rattle.pass_split_proof.proofs.giving.Freed.{free_followed}
use Rattle.pass_split_proof.proofs.making.Allocas.{alloca_followed}
use Rattle.pass_split_proof.proofs.making.Allocators.{allocator_followed}
use Rattle.pass_split_proof.proofs.marking.Followed.{end_followed, start_followed}
use Rattle.pass_split_proof.proofs.own_blocks.Steps.{marked}
use Rattle.pass_split_proof.proofs.silent.Suspended.{suspend_followed}
use Rattle.pass_split_proof.proofs.steps.Followed.{framed_does, ordinary_followed}
use Rattle.pass_split_proof.proofs.transfers.Returning.{inside_followed}
use Rattle.pass_split_proof.proofs.waking.Destroying.{destroys_followed}
use Rattle.pass_split_proof.proofs.waking.Transferring.{resumes_followed}
use Rattle.pass_split_proof.proofs.whole.Quiet.{IsQuietAction, copied_quiet, declared_quiet, is_simple, simple_quiet}
use Rattle.pass_split_proof.specs.asking.Asking.{ArePromisesInFront, IsAsking}
use Rattle.pass_split_proof.specs.giving.Intrinsics.{IsAtIntrinsic, is_constant}
use Rattle.pass_split_proof.proofs.whole.Held.{starts_none, unfreed_held}
use Rattle.pass_split_proof.proofs.whole.Woken.{can_be_destroyed, can_be_resumed, woken_held}
use Rattle.pass_split_proof.specs.simulation.Knowing.{KnowsGiven, is_for_some}
use Rattle.pass_split_proof.specs.whole.Giving.{AreGivenPlacesMet, AsksSmall, SavesUnfinished, StartsNoFrame, here_of}
use Rattle.pass_split_proof.specs.given_begins.Beginning.{IsAtGivenBegin}
use Rattle.pass_split_proof.specs.held.Kept.{IsKeptState, IsNoHeap, begins_heap}
use Rattle.pass_split_proof.specs.making.Blocks.{allocates}
use Rattle.pass_split_proof.specs.marking.Markers.{IsAtMarker}
use Rattle.pass_split_proof.specs.own_blocks.Own.{FitsMode, HasOwnBlocks, IsOwnState}
use Rattle.pass_split_proof.specs.simulation.Followed.{IsFollowed}
use Rattle.pass_split_proof.specs.simulation.Premises.{ArePlacesMet, ArePremisesMet, IsAt, IsAtPlace, asks_frame, first_parts, is_of_coroutines}
use Rattle.pass_split_proof.specs.code.Positions.{is_given as is_for_given}
use Rattle.pass_split_proof.specs.states.Activations.{RunsPart, is_entering}
use Rattle.pass_split_proof.specs.states.Instances.{is_held, lives_in, part_position}
use Rattle.pass_split_proof.specs.states.Memories.{homes_of}
use Rattle.pass_split_proof.specs.states.Related.{AreRelated}
use Rattle.pass_split_proof.specs.steps.Ordinary.{is_ordinary}
use Rattle.pass_split_proof.specs.steps.Resuming.{IsAtWaking}
use Rattle.pass_proofs.specs.run_agreement.Machines.{IsFine}
use Rattle.pass_proofs.specs.run_framed.Framed.{FramedGiven, enter_given, framed_act, framed_begin, framed_context, framed_step, given_call, given_ramp, is_given}
use Rattle.pass_proofs.specs.run_laws.embedded.Related.{HasNoSlot}
use Rattle.pass_proofs.specs.run_laws.memory.Pointers.{IsValue}
use Rattle.pass_proofs.specs.run_memory.declared.block.Kind.{Kind}
use Rattle.pass_proofs.specs.run_memory.declared.pointer.Value.{Value}
use Rattle.run_access_worked.specs.run_plain.Plain.{PlainGiven}
use Rattle.run_access_worked.specs.run_plain.declared.state.PlainState.{PlainState}
use Rattle.pass_proofs.specs.run_source.Source.{begin, begin_at}
use Rattle.pass_proofs.specs.run_source.State.{function_of, gives, is_finished, is_suspended, or_undefined, work_of}
use Rattle.pass_proofs.specs.run_source.declared.state.Instance.{Instance}
use Rattle.pass_proofs.specs.run_source.declared.state.Mode.{Mode}
use Rattle.pass_proofs.specs.run_source.declared.state.State.{State}
use Rattle.pass_proofs.specs.run_step.Results.{and_then, ok_if}
use Rattle.pass_proofs.specs.run_step.Step.{Action, AtInstr, AtTerm, Coro, Deallocate, Done, Enter, Fetched, GoTo, NewSlot, Nowhere, Return, Stuck, action_of, block_of, fetch, instr_action, is_lifetime, named_call}
use Rattle.pass_proofs.specs.run_step.Values.{arg_value, arg_values, nth, value_in}
use Rattle.run_types.specs.run_hooks.Reached.{IsReachedState}

-- ---- what holds of a state of the framed run

-- all that invariants of framed runs say of it
pub record IsHeldState (g : FramedGiven) (s : State) : Type 0 where
  pub own : IsOwnState g.given.code s
  pub kept : IsKeptState s
  pub reached : IsReachedState g.given s
  pub small : AsksSmall g s (here_of g s)

-- what holds of related states, where calls may give frames
pub record IsGivingState (g : FramedGiven) (h : PlainGiven) (s : State) (t : PlainState) (r : AreRelated g h s t)
    : Type 0 where
  pub held : IsHeldState g s
  pub knows : KnowsGiven g s t
  pub sleepers : (i : ℕ) (x : Instance) → slice_get s.instances i ≡ Some x → is_suspended x.status ≡ true
      → is_held s.world.memory x ≡ true
  pub live : (i : ℕ) (x : Instance) → slice_get s.instances i ≡ Some x → begins_heap s.world.memory x ≡ false
      → is_finished x.status ≡ false → lives_in (slice_get s.world.memory x.block) ≡ true
  pub starts : StartsNoFrame g s (here_of g s)
  pub saves : SavesUnfinished g s (here_of g s)
  pub begins : IsAtGivenBegin g h s t r → IsFollowed g h s t
  pub places : AreGivenPlacesMet g h s t r

module _ (g : FramedGiven) (h : PlainGiven) (met : ArePremisesMet g h) (s : State) (t : PlainState)
    (r : AreRelated g h s t) (q : IsGivingState g h s t r) (fine : IsFine (framed_step g s).outcome)
    (at : IsAtPlace g h s t r) where
  abbrev k : IsHeldState g s
  k = q.held

  abbrev c : Module
  c = g.given.code

  abbrev f : Function
  f = function_of g.given s

  places : ArePlacesMet g h s t r
  places = met.places s t r

  asks : HasOwnBlocks g.given.code
  asks = record {
    allocas = met.functions.allocas;
    intrinsics = met.functions.intrinsics;
  }

  -- the run isn't undefined behind it
  not_stuck : (here : Fetched) → IsAt g s here → given_call g s here ≡ None → (a : Action)
      → action_of (framed_context g s) (work_of s) here ≡ a → (cause : Cause) → framed_act g s a ≡ Err cause → ⊥
  not_stuck here there none a does cause e = subst (λ (x : State). IsFine x.outcome)
      (framed_does g s here a at.running there none does ∙ ap (or_undefined g.given s) e) fine

  -- ---- ordinary instructions

  quiet_followed : (i : Instr) → IsAt g s (AtInstr i) → given_call g s (AtInstr i) ≡ None → is_ordinary i ≡ true
      → HasNoSlot (AtInstr i) → IsQuietAction (instr_action (framed_context g s) (work_of s) i) → IsFollowed g h s t
  quiet_followed i here gives ordinary none quiet = by (instr_action (framed_context g s) (work_of s) i) refl quiet
    where
      by : (a : Action) → instr_action (framed_context g s) (work_of s) i ≡ a → IsQuietAction a → IsFollowed g h s t
      by (Done v) e q = ordinary_followed g h s t r at.running (first_parts g) i
          (places.ordinary i here at gives ordinary none) gives v e
      by (Stuck cause) e q = absurd (not_stuck (AtInstr i) here gives (Stuck cause) e cause refl)
      by (NewSlot v slot) e q = absurd q
      by (Enter func args result must_tail) e q = absurd q
      by (Coro x args result) e q = absurd q
      by (Deallocate p) e q = absurd q
      by (GoTo label) e q = absurd q
      by (Return v) e q = absurd q

  simple_followed : (i : Instr) → IsAt g s (AtInstr i) → given_call g s (AtInstr i) ≡ None → is_simple i ≡ true
      → is_ordinary i ≡ true → HasNoSlot (AtInstr i) → IsFollowed g h s t
  simple_followed i here gives simple ordinary none = quiet_followed i here gives ordinary none
      (simple_quiet (framed_context g s) (work_of s) i simple)

  -- ---- calls by a name, and of allocators

  module _ (result : Option ℕ) (must_tail : Bool) (ty : Option Ty) (args : List Arg) where
    abbrev call : Callee → Fetched
    call callee = AtInstr (Instr.Call result must_tail ty callee args)

    named_followed : (n : Name) → IsAt g s (call (Callee.Named n)) → IsFollowed g h s t
    named_followed n here = by (given_ramp c n) refl
      where
        on : given_ramp c n ≡ None → (o : Option ℕ) → function_named c n ≡ o → IsFollowed g h s t
        on none (Some func) e = call_to_followed g h s t r at.running
            (places.called result must_tail ty n args func here at e none)
        on none None e = quiet_followed (Instr.Call result must_tail ty (Callee.Named n) args) here
            (ap (enter_given g s result (arg_values c s.top.values args)) none) refl tt
            (subst (λ (o : Option ℕ). IsQuietAction (named_call (framed_context g s) (work_of s) o
            (declaration_named c n) ty result must_tail (arg_values c s.top.values args))) (sym e)
            (declared_quiet (framed_context g s) (work_of s) (declaration_named c n) ty result must_tail
            (arg_values c s.top.values args)))

        by : (o : Option ℕ) → given_ramp c n ≡ o → IsFollowed g h s t
        by (Some func) e = given_call_followed g h s t r at.running
            (q.places.called result must_tail ty n args func here at e)
        by None e = on e (function_named c n) refl

    small : (a : Allocator) → allocates a ≡ true → IsAt g s (call (Callee.Allocator a)) → (x : Word)
        → nth (arg_values c s.top.values args) 0 ≡ Value.Int x → x.bits < 2 ^ 64
    small a is here x e = subst (AsksSmall g s) here k.small is x e

    allocator_here : (a : Allocator) → IsAt g s (call (Callee.Allocator a)) → IsFollowed g h s t
    allocator_here Allocator.Malloc here = allocator_followed g h s t r at.running fine
        (places.allocator result must_tail ty Allocator.Malloc args here at refl (small Allocator.Malloc refl here))
    allocator_here Allocator.Znwm here = allocator_followed g h s t r at.running fine
        (places.allocator result must_tail ty Allocator.Znwm args here at refl (small Allocator.Znwm refl here))
    allocator_here Allocator.Free here = deallocation_followed g h s t r at.running fine
        (places.deallocator result must_tail ty Allocator.Free args here at refl)
    allocator_here Allocator.ZdlPv here = deallocation_followed g h s t r at.running fine
        (places.deallocator result must_tail ty Allocator.ZdlPv args here at refl)
    allocator_here Allocator.ZdlPvm here = deallocation_followed g h s t r at.running fine
        (places.deallocator result must_tail ty Allocator.ZdlPvm args here at refl)

    -- ---- intrinsics

    module _ (x : Intrinsic) (here : IsAt g s (call (Callee.Intrinsic x))) where
      -- K1
      in_coroutine : is_of_coroutines x ≡ true → f.coroutine ≡ true
      in_coroutine = met.functions.intrinsics s.top.func s.top.block s.top.at result must_tail ty x args here

      other : (x ≡ Intrinsic.CoroBegin → ⊥) → IsAtIntrinsic g h s t r x
      other = places.intrinsic result must_tail ty x args here at

      constant_here : is_constant x ≡ true → (x ≡ Intrinsic.CoroBegin → ⊥) → IsFollowed g h s t
      constant_here e ne = constant_followed g h s t r at.running (places.sized result must_tail ty x args here e) x e
          (other ne)

      asking : asks_frame x ≡ true → (x ≡ Intrinsic.CoroBegin → ⊥) → IsAsking g h s t r x
      asking e ne = record {
        at = places.asking result must_tail ty x args here at e;
        others = λ b. (other ne).others (same (sym (other ne).there
            ∙ (places.asking result must_tail ty x args here at e).there) ∙ b);
      }
        where
          same : {r q : Option ℕ} {m n : Bool} {t u : Option Ty} {c d : Callee} {a b : List Arg}
              → AtInstr (Instr.Call r m t c a) ≡ AtInstr (Instr.Call q n u d b) → r ≡ q
          same e = cc

      -- markers
      marked_here : (lives : is_lifetime (Callee.Intrinsic x) ≡ true)
          → (z : IsAtMarker g h s t r x) × (IsNoHeap s.world.memory z.block
          × (block_of (nth (arg_values c s.top.values args) 1) ≡ Some z.block))
      marked_here lives =
          let y = marked g asks s k.own result must_tail ty (Callee.Intrinsic x) args here lives in
          let z = places.marker result must_tail ty x args here at lives y.block y.offset y.is in (
            z.0,
            (
              subst (IsNoHeap s.world.memory) (sym z.1) y.none,
              ap block_of y.is ∙ ap (λ (b : ℕ). Some b) (sym z.1),
            ),
          )

    promises : ArePromisesInFront g s
    promises i x e =
        let there = met.functions.coroutines x.coroutine (k.own.instances i x e).coroutine in
        record { laid = there.laid; offset = there.promise }

    -- a begin
    begin_here : IsAt g s (call (Callee.Intrinsic Intrinsic.CoroBegin)) → IsFollowed g h s t
    begin_here here = by s.top.mode refl k.own.top.mode
      where
        again : (mode : Mode) → s.top.mode ≡ mode
            → framed_begin g s result (nth (arg_values c s.top.values args) 1) mode
            ≡ begin g.given s result (nth (arg_values c s.top.values args) 1) → is_none s.top.instance ≡ false → ⊥
        again mode e is own = not_stuck (call (Callee.Intrinsic Intrinsic.CoroBegin)) here refl
            (Coro Intrinsic.CoroBegin args result) refl Cause.Begin
            (ap (framed_begin g s result (nth (arg_values c s.top.values args) 1)) e ∙ is
            ∙ ap (λ (b : Bool). and_then (ok_if b Cause.Begin s) (λ (u : State). and_then (begin_at g.given u
            (nth (arg_values c s.top.values args) 1) Kind.Allocator) (λ (v : State). Ok (gives v result
            (nth (arg_values c s.top.values args) 1))))) own)

        by : (mode : Mode) → s.top.mode ≡ mode → FitsMode c f.coroutine s.top.instance mode → IsFollowed g h s t
        by Mode.Ramp e fits = begin_followed g h s t r at.running fine (places.begin result must_tail ty args here at e)
        by Mode.Plain e fits = absurd (false≢true (sym fits ∙ in_coroutine Intrinsic.CoroBegin here refl))
        by Mode.Resumed e fits = absurd (again Mode.Resumed e refl fits.1)
        by (Mode.GivenRamp frame) e fits = q.begins (q.places.begin result must_tail ty args frame here at e
            (subst (λ (z : Shape). IsValue (homes_of s.world.memory) frame (value_in t.top.values (given_name z)))
            (sym (shape_is g s.top.func f r.top.shape r.top.shaped fits.0)) (q.knows.0.0.given frame e))
            (q.knows.0.0.calls frame e))
        by (Mode.Entering from label) e fits = absurd (false≢true (sym at.settled ∙ ap is_entering e))

    -- the end
    end_here : IsAt g s (call (Callee.Intrinsic Intrinsic.CoroEnd)) → IsFollowed g h s t
    end_here here = by s.top.mode refl k.own.top.mode
      where
        begin_not : Intrinsic.CoroEnd ≡ Intrinsic.CoroBegin → ⊥
        begin_not e = absurd (cc)

        by : (mode : Mode) → s.top.mode ≡ mode → FitsMode c f.coroutine s.top.instance mode → IsFollowed g h s t
        by Mode.Ramp e fits = any_ramp_ends g h s t r at.running (other Intrinsic.CoroEnd here begin_not)
            (ap goes_on (subst (λ (m : Mode). RunsPart m r.top.part) e r.top.runs))
        by Mode.Plain e fits = absurd (false≢true (sym fits ∙ in_coroutine Intrinsic.CoroEnd here refl))
        by Mode.Resumed e fits = inside_followed g h s t r at.running e (other Intrinsic.CoroEnd here begin_not)
        by (Mode.GivenRamp frame) e fits = any_ramp_ends g h s t r at.running (other Intrinsic.CoroEnd here begin_not)
            (ap goes_on (subst (λ (m : Mode). RunsPart m r.top.part) e r.top.runs))
        by (Mode.Entering from label) e fits = absurd (false≢true (sym at.settled ∙ ap is_entering e))

    -- a release: by what the part is for
    free_here : IsAt g s (call (Callee.Intrinsic Intrinsic.CoroFree)) → IsFollowed g h s t
    free_here here = by r.top.part refl
      where
        free : IsAtIntrinsic g h s t r Intrinsic.CoroFree
        free = other Intrinsic.CoroFree here (λ e. absurd (cc))

        known : (part : Part) → r.top.part ≡ part → is_for_some part ≡ true → (i : ℕ) (x : Instance)
            → s.top.instance ≡ Some i → slice_get s.instances i ≡ Some x
            → is_given s.world.memory x ≡ is_for_given part
        known part e some i x own there = q.knows.0.0.runs part i x (r.top.func ∙ ap (part_position g
            s.top.func) e) some
            own there

        for_some : (part : Part) → r.top.part ≡ part → is_for_some part ≡ true → (b : Bool) → is_for_given part ≡ b
            → IsFollowed g h s t
        for_some part e some true f = given_free_followed g h s t r at.running free (ap is_for_given e ∙ f)
            (λ i x own there. known part e some i x own there ∙ f)
        for_some part e some false f = free_followed g h s t r at.running free (ap is_for_given e ∙ f)
            (λ i x own there. known part e some i x own there ∙ f)

        -- an instance whose frame was given isn't released where it was resumed
        resumed : r.top.part ≡ Part.Resume → IsFollowed g h s t
        resumed e = free_followed g h s t r at.running free (ap is_for_given e)
            (λ i x own there. ungiven i x own there (is_given s.world.memory x) refl)
          where
            ungiven : (i : ℕ) (x : Instance) → s.top.instance ≡ Some i → slice_get s.instances i ≡ Some x → (b : Bool)
                → is_given s.world.memory x ≡ b → is_given s.world.memory x ≡ false
            ungiven i x own there false f = f
            ungiven i x own there true f =
                let y = r.top.frame i own in
                let same : x ≡ y.instance = same_instance (sym there ∙ y.there) in
                absurd (false≢true (sym (q.places.frees result must_tail ty args here at e)
                ∙ ap (λ (n : ℕ). has_given_call c (function_at c n)) (sym (ap (λ (z : Instance). z.coroutine) same
                ∙ y.coroutine)) ∙ q.knows.1 i x there f))
              where
                same_instance : {a b : Instance} → Some a ≡ Some b → a ≡ b
                same_instance e = cc

        by : (part : Part) → r.top.part ≡ part → IsFollowed g h s t
        by Part.Ramp e = for_some Part.Ramp e refl false refl
        by Part.GivenRamp e = for_some Part.GivenRamp e refl true refl
        by Part.Resume e = resumed e
        by Part.Destroy e = for_some Part.Destroy e refl false refl
        by Part.Cleanup e = for_some Part.Cleanup e refl true refl

    intrinsic_here : (x : Intrinsic) → IsAt g s (call (Callee.Intrinsic x)) → IsFollowed g h s t
    intrinsic_here Intrinsic.CoroId here = id_followed g h s t r at.running
        (other Intrinsic.CoroId here (λ e. absurd (cc)))
    intrinsic_here Intrinsic.CoroSizeI32 here = constant_here Intrinsic.CoroSizeI32 here refl (λ e. absurd (cc))
    intrinsic_here Intrinsic.CoroSizeI64 here = constant_here Intrinsic.CoroSizeI64 here refl (λ e. absurd (cc))
    intrinsic_here Intrinsic.CoroAlignI32 here = constant_here Intrinsic.CoroAlignI32 here refl (λ e. absurd (cc))
    intrinsic_here Intrinsic.CoroAlignI64 here = constant_here Intrinsic.CoroAlignI64 here refl (λ e. absurd (cc))
    intrinsic_here Intrinsic.CoroAlloc here = constant_here Intrinsic.CoroAlloc here refl (λ e. absurd (cc))
    intrinsic_here Intrinsic.CoroBegin here = begin_here here
    intrinsic_here Intrinsic.CoroFree here = free_here here
    intrinsic_here Intrinsic.CoroFrame here = frame_followed g h s t r at.running
        (other Intrinsic.CoroFrame here (λ e. absurd (cc)))
    intrinsic_here Intrinsic.CoroSave here = save_followed g h s t r at.running fine
        (places.save result must_tail ty args here at (λ i x e there unfreed.
        unfreed_held c s k.own k.kept q.live i x there unfreed (subst (SavesUnfinished g s) here q.saves i x e there)))
    intrinsic_here Intrinsic.CoroSuspend here = suspend_followed g h s t r at.running
        (places.suspend result must_tail ty args here at)
    intrinsic_here Intrinsic.CoroEnd here = end_here here
    intrinsic_here Intrinsic.CoroResume here =
        let z : IsAtWaking g h s t r Intrinsic.CoroResume
        = places.asking result must_tail ty Intrinsic.CoroResume args here at refl in
        resumes_followed g h s t r z fine (can_be_resumed g h met.functions s t r k.own q.sleepers k.reached
        (arg_value c s.top.values z.arg))
    intrinsic_here Intrinsic.CoroDestroy here =
        let z : IsAtWaking g h s t r Intrinsic.CoroDestroy
        = places.asking result must_tail ty Intrinsic.CoroDestroy args here at refl in
        destroys_followed g h s t r z fine (can_be_destroyed g h met.functions s t r k.own q.sleepers k.reached
        (arg_value c s.top.values z.arg))
    intrinsic_here Intrinsic.CoroDone here =
        let z : IsAsking g h s t r Intrinsic.CoroDone = asking Intrinsic.CoroDone here refl (λ e. absurd (cc)) in
        done_followed g h s t r z fine (woken_held g h met.functions s t r k.own q.sleepers k.reached
        (arg_value c s.top.values z.at.arg))
    intrinsic_here Intrinsic.CoroPromise here =
        promise_followed g h s t r (asking Intrinsic.CoroPromise here refl (λ e. absurd (cc))) fine promises
    intrinsic_here Intrinsic.LifetimeStart here =
        let z = marked_here Intrinsic.LifetimeStart here refl in
        start_followed g h s t r at.running z.0 (starts_none c s k.own z.0.block z.1.0
        (λ i x there same. subst (StartsNoFrame g s) here q.starts z.0.block i x z.1.1 there same))
    intrinsic_here Intrinsic.LifetimeEnd here =
        end_followed g h s t r at.running (marked_here Intrinsic.LifetimeEnd here refl).0
    intrinsic_here Intrinsic.MemcpyI64 here =
        quiet_followed (Instr.Call result must_tail ty (Callee.Intrinsic Intrinsic.MemcpyI64) args) here refl refl tt
        (copied_quiet (framed_context g s) (work_of s) (arg_values c s.top.values args))
    intrinsic_here Intrinsic.MemcpyI32 here =
        quiet_followed (Instr.Call result must_tail ty (Callee.Intrinsic Intrinsic.MemcpyI32) args) here refl refl tt
        (copied_quiet (framed_context g s) (work_of s) (arg_values c s.top.values args))

    call_here : (callee : Callee) → IsAt g s (call callee) → IsFollowed g h s t
    call_here (Callee.Named n) here = named_followed n here
    call_here (Callee.Allocator a) here = allocator_here a here
    call_here (Callee.Intrinsic x) here = intrinsic_here x here
    call_here (Callee.Local v) here
        = absurd (met.functions.direct s.top.func s.top.block s.top.at result must_tail ty v args here)

  -- ---- all

  instr_here : (i : Instr) → IsAt g s (AtInstr i) → IsFollowed g h s t
  instr_here (Instr.Binary name op flags ty a b) e
      = simple_followed (Instr.Binary name op flags ty a b) e refl refl refl tt
  instr_here (Instr.Icmp name pred ty a b) e = simple_followed (Instr.Icmp name pred ty a b) e refl refl refl tt
  instr_here (Instr.Select name x a b) e = simple_followed (Instr.Select name x a b) e refl refl refl tt
  instr_here (Instr.Cast name op nneg arg to) e = simple_followed (Instr.Cast name op nneg arg to) e refl refl refl tt
  instr_here (Instr.Alloca name ty align) e
      = alloca_followed g h s t r at.running fine (places.alloca name align ty e at)
  instr_here (Instr.Load name ty p align) e = simple_followed (Instr.Load name ty p align) e refl refl refl tt
  instr_here (Instr.Store arg p align) e = simple_followed (Instr.Store arg p align) e refl refl refl tt
  instr_here (Instr.Gep name inbounds ty base indices) e
      = simple_followed (Instr.Gep name inbounds ty base indices) e refl refl refl tt
  instr_here (Instr.Call result must_tail ty callee args) e = call_here result must_tail ty args callee e

  term_here : (term : Terminator) → IsAt g s (AtTerm term) → IsFollowed g h s t
  term_here (Terminator.Ret value) e
      = return_followed g h s t r at.running fine value (places.term (Terminator.Ret value) e at)
  term_here (Terminator.Jump label) e = term_followed g h s t r (Terminator.Jump label) at.running fine
      (places.term (Terminator.Jump label) e at) refl
  term_here (Terminator.Branch x a b) e = term_followed g h s t r (Terminator.Branch x a b) at.running fine
      (places.term (Terminator.Branch x a b) e at) refl
  term_here (Terminator.Switch arg default cases) e = term_followed g h s t r (Terminator.Switch arg default cases)
      at.running fine (places.term (Terminator.Switch arg default cases) e at) refl
  term_here Terminator.Unreachable e = term_followed g h s t r Terminator.Unreachable at.running fine
      (places.term Terminator.Unreachable e at) refl

  all_here : (here : Fetched) → IsAt g s here → IsFollowed g h s t
  all_here Nowhere e = absurd (not_stuck Nowhere e refl (Stuck Cause.Unreachable) refl Cause.Unreachable refl)
  all_here (AtInstr i) e = instr_here i e
  all_here (AtTerm term) e = term_here term e

  pub here_followed : IsFollowed g h s t
  here_followed = all_here (fetch f s.top.block s.top.at) refl

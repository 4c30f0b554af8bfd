-- Coro intrinsics and deallocators leave states in which frames begin blocks of allocators.
use Rattle.std.proofs.Common.{◌≡◌, ℕ, Bool, true, false, not, List, [], length, Option, Some, None, Result, Ok, Err, refl, sym, ◌∙◌, subst, if◌then◌else◌, ◌&&◌, ◌==◌}
use Rattle.std.specs.Prelude.{negsuc}
use Rattle.pass_proofs.specs.ir_base.declared.cause.Cause.{Cause}
use Rattle.pass_proofs.specs.ir_model.Names.{function_at}
use Rattle.pass_proofs.specs.ir_model.declared.instr.Instr.{Instr}
use Rattle.pass_proofs.specs.ir_model.declared.module.Module.{Module}
use Rattle.pass_proofs.specs.ir_model.declared.operand.Arg.{Arg}
use Rattle.pass_proofs.specs.ir_model.declared.operand.Intrinsic.{Intrinsic}
use Rattle.pass_proofs.specs.ir_model.declared.operand.Operand.{Operand}
use Rattle.pass_proofs.specs.ir_paths.Windows.{destroy_label, operand_at, resume_label, suspend_of}
use Rattle.pass_proofs.specs.ir_paths.declared.point.Point.{Point}
use Rattle.pass_split_proof.proofs.held.Moves.{ok_is, ok_same}
use Rattle.pass_split_proof.proofs.own_blocks.Begun.{begins_own}
use Rattle.pass_split_proof.proofs.own_blocks.Heaps.{SameHeaps, changed_heaps, dead_heaps, freed_heaps, heaps_then}
use Rattle.pass_split_proof.proofs.own_blocks.States.{StaysOwn, gives_own, goes_on_own, if_own, instance_own, left_own, memory_own, own_changed, return_own, then_own}
use Rattle.pass_split_proof.proofs.steps.Branches.{own_there}
use Rattle.pass_split_proof.proofs.steps.Woken.{destroy_goes, instance_found, resume_goes}
use Rattle.pass_split_proof.specs.own_blocks.Own.{HasOwnBlocks, IsOwnState, SetsNoAlloca}
use Rattle.pass_proofs.specs.run_framed.Framed.{FramedGiven, continue_framed, disown_given, framed_coro, framed_finish, framed_promise, is_stack_block}
use Rattle.pass_proofs.specs.run_memory.Memory.{disown, disowned}
use Rattle.pass_proofs.specs.run_memory.declared.block.MemoryBlock.{MemoryBlock}
use Rattle.pass_proofs.specs.run_memory.declared.pointer.Value.{Value}
use Rattle.pass_proofs.specs.run_source.Source.{Sleeper, after_end, change_own, deallocate, destroy, done_at, end_of, finish, if_let_go, may_be_freed, let_go, release, resume, save, save_before, save_for, sleeper_at, slots_of, suspend}
use Rattle.pass_proofs.specs.run_source.State.{function_of, gives, instance_at, next, own_instance, point_of, with_instance, with_left, with_memory}
use Rattle.pass_proofs.specs.run_source.declared.state.Instance.{Instance}
use Rattle.pass_proofs.specs.run_source.declared.state.Mode.{Mode}
use Rattle.pass_proofs.specs.run_source.declared.state.State.{State}
use Rattle.pass_proofs.specs.run_source.declared.state.Status.{Status}
use Rattle.pass_proofs.specs.run_source_tables.Given.{has_final, is_final}
use Rattle.pass_proofs.specs.run_step.Effects.{is_alloca}
use Rattle.pass_proofs.specs.run_step.Results.{and_then, found, ok_if}
use Rattle.pass_proofs.specs.run_step.Step.{AtInstr, deallocated, fetch, without_slots}
use Rattle.pass_proofs.specs.run_step.Values.{integer, nth, truth_value}

abbrev sleeping : State → Point → Point → Instance → Instance
sleeping s save suspend x = record x {
  status = Status.Suspended suspend s.top.values;
  last_save = Some (record { depth = length s.below; save = save });
}

module _ (c : Module) where
  saved_own : (s : State) (save suspend : Point) (q : Option (ℕ × Instance)) → own_instance s ≡ q → IsOwnState c s
      → (u : State) → and_then (found Cause.State q) (λ (p : ℕ × Instance). ok_if (not p.1.freed) Cause.State
      (with_left (with_instance s p.0 (sleeping s save suspend p.1)) true)) ≡ Ok u
      → IsOwnState c u × (u.top ≡ record s.top { has_left = true })
  saved_own s save suspend None e o u h = absurd (cc)
  saved_own s save suspend (Some (i, x)) e o u h = subst
      (λ (w : State). IsOwnState c w × (w.top ≡ record s.top { has_left = true }))
      (ok_is (not x.freed) Cause.State (with_left (with_instance s i (sleeping s save suspend x)) true) u h).1 (
        left_own c (with_instance s i (sleeping s save suspend x)) true
            (instance_own c s i x (sleeping s save suspend x) (own_there s i x e) refl refl refl o),
        refl,
      )

  -- ---- the end

  disowned_own : (s : State) (q : Option (ℕ × Instance)) → IsOwnState c s → IsOwnState c (disown_given s q)
  disowned_own s None o = o
  disowned_own s (Some (i, x)) o = on (is_stack_block s.world.memory x.block && (x.start == 0))
    where
      on : (t : Bool) → IsOwnState c (if t then with_memory s (disown s.world.memory x.block) else s)
      on true = memory_own c s (disown s.world.memory x.block)
          (changed_heaps s.world.memory x.block disowned (λ u. refl)) o
      on false = o

  finish_own : (s : State) → IsOwnState c s → IsOwnState c (framed_finish s)
  finish_own s o = disowned_own (finish s) (own_instance s)
      (memory_own c (change_own s (λ x. record x { status = Status.Finished }) (own_instance s))
      (without_slots s.world.memory (slots_of (own_instance s))) (heaps (own_instance s))
      (own_changed c s (λ x. record x { status = Status.Finished }) (λ x. (refl, refl, refl)) o))
    where
      heaps : (q : Option (ℕ × Instance))
          → SameHeaps (change_own s (λ x. record x { status = Status.Finished }) q).world.memory
          (without_slots s.world.memory (slots_of q))
      heaps None = dead_heaps s.world.memory []
      heaps (Some (i, x)) = dead_heaps s.world.memory x.slots

module _ (g : FramedGiven) (asks : HasOwnBlocks g.given.code) where
  abbrev c : Module
  c = g.given.code

  module _ (s : State) (o : IsOwnState c s) (i : Instr)
      (there : fetch (function_of g.given s) s.top.block s.top.at ≡ AtInstr i) (plain : is_alloca i ≡ false) where
    -- what a state gives that has the topmost activation at its place
    placed_gives : (u : State) → IsOwnState c u → u.top.func ≡ s.top.func → u.top.block ≡ s.top.block
        → u.top.at ≡ s.top.at → (result : Option ℕ) (v : Value) → SetsNoAlloca (function_of g.given s) result
        → IsOwnState c (gives u result v)
    placed_gives u k func block at result v none = gives_own g asks u k result v i
        ((λ j. fetch (function_at c (func j)) (block j) (at j)) ∙ there) plain
        (subst (λ (n : ℕ). SetsNoAlloca (function_at c n) result) (sym func) none)

    unnamed : SetsNoAlloca (function_of g.given s) None
    unnamed k name a h = absurd (cc)

    pub nexts_own : IsOwnState c (next s)
    nexts_own = gives_own g asks s o None Value.Poison i there plain unnamed

    -- ---- deallocators

    freed_by : (p : Value) (q : Option (ℕ × Instance)) → instance_at s.instances p ≡ q
        → StaysOwn c (and_then (deallocated (if_let_go s q).world.memory p) (λ (memory : List MemoryBlock).
        Ok (next (with_memory (if_let_go s q) memory))))
    freed_by p q e = on (if_let_go s q) (let_go_own q e)
      where
        let_go_own : (q : Option (ℕ × Instance)) → instance_at s.instances p ≡ q
            → IsOwnState c (if_let_go s q) × ((if_let_go s q).top ≡ s.top)
        let_go_own None e = (o, refl)
        let_go_own (Some (j, x)) e = by (may_be_freed x)
          where
            by : (t : Bool) → IsOwnState c (if t then let_go s j x else s)
                × ((if t then let_go s j x else s).top ≡ s.top)
            by false = (o, refl)
            by true = (
              memory_own c (with_instance s j (record x { freed = true })) _
                  (heaps_then s.world.memory (without_slots s.world.memory x.slots) _
                  (dead_heaps s.world.memory x.slots)
                  (changed_heaps (without_slots s.world.memory x.slots) x.block disowned (λ u. refl)))
                  (instance_own c s j x (record x { freed = true }) (instance_found s.instances p j x e).0 refl refl
                  refl o),
              refl,
            )

        on : (u : State) → IsOwnState c u × (u.top ≡ s.top)
            → StaysOwn c (and_then (deallocated u.world.memory p) (λ (memory : List MemoryBlock).
            Ok (next (with_memory u memory))))
        on u k = then_own c (deallocated u.world.memory p) (λ (memory : List MemoryBlock).
            Ok (next (with_memory u memory))) (λ memory h. placed_gives (with_memory u memory)
            (memory_own c u memory (freed_heaps u.world.memory memory p h) k.0) (λ j. (k.1 j).func)
            (λ j. (k.1 j).block) (λ j. (k.1 j).at) None Value.Poison unnamed)

    pub frees_own : (p : Value) → StaysOwn c (deallocate s p)
    frees_own p = freed_by p (instance_at s.instances p) refl

    -- ---- intrinsics

    module _ (result : Option ℕ) (none : SetsNoAlloca (function_of g.given s) result) where
      result_own : (v : Value) → IsOwnState c (gives s result v)
      result_own v = gives_own g asks s o result v i there plain none

      saves_own : StaysOwn c (save g.given s)
      saves_own = then_own c (found Cause.State (suspend_of (function_of g.given s) (point_of s)))
          (λ (suspend : Point). and_then (save_for s (point_of s) suspend) (λ (u : State). Ok (next u)))
          (λ suspend e. then_own c (save_for s (point_of s) suspend) (λ (u : State). Ok (next u)) (λ u f.
          let y = saved_own c s (point_of s) suspend (own_instance s) refl o u f in
          placed_gives u y.0 (λ j. (y.1 j).func) (λ j. (y.1 j).block) (λ j. (y.1 j).at) None Value.Poison unnamed))

      before_own : (x : Operand) (u : State) → save_before s x ≡ Ok u
          → IsOwnState c u × ((u.top.func ≡ s.top.func) × ((u.top.block ≡ s.top.block) × (u.top.at ≡ s.top.at)))
      before_own Operand.None u h =
          let y = saved_own c s (point_of s) (point_of s) (own_instance s) refl o u h in
          (y.0, ((λ j. (y.1 j).func), ((λ j. (y.1 j).block), (λ j. (y.1 j).at))))
      before_own x u h = subst (λ (w : State). IsOwnState c w × ((w.top.func ≡ s.top.func)
          × ((w.top.block ≡ s.top.block) × (w.top.at ≡ s.top.at)))) (ok_same (Ok s) s u refl h)
          (o, (refl, (refl, refl)))

      suspends_own : (x : Operand) → StaysOwn c (suspend s result x)
      suspends_own x = then_own c (save_before s x) (λ (u : State). Ok (gives u result (integer 8 (negsuc 0))))
          (λ u f. let y = before_own x u f in
          placed_gives u y.0 y.1.0 y.1.1.0 y.1.1.1 result (integer 8 (negsuc 0)) none)

      after_own : (u : State) → IsOwnState c u → u.top.func ≡ s.top.func → u.top.block ≡ s.top.block
          → u.top.at ≡ s.top.at → (mode : Mode) → StaysOwn c (after_end u result mode)
      after_own u k func block at Mode.Resumed = return_own g asks u k None
      after_own u k func block at _ = placed_gives u k func block at result (truth_value false) none

      end_own : StaysOwn c (end_of s framed_finish result)
      end_own = on s.top.has_left
        where
          finished_top : (q : Option (ℕ × Instance))
              → (change_own s (λ x. record x { status = Status.Finished }) q).top ≡ s.top
          finished_top None = refl
          finished_top (Some (j, x)) = refl

          disowned_top : (u : State) (q : Option (ℕ × Instance)) → (disown_given u q).top ≡ u.top
          disowned_top u None = refl
          disowned_top u (Some (j, x)) = by (is_stack_block u.world.memory x.block && (x.start == 0))
            where
              by : (t : Bool) → (if t then with_memory u (disown u.world.memory x.block) else u).top ≡ u.top
              by true = refl
              by false = refl

          top : (framed_finish s).top ≡ s.top
          top = disowned_top (finish s) (own_instance s) ∙ finished_top (own_instance s)

          on : (t : Bool) → StaysOwn c (after_end (if t then s else framed_finish s) result s.top.mode)
          on true = after_own s o refl refl refl s.top.mode
          on false = after_own (framed_finish s) (finish_own c s o) (λ j. (top j).func) (λ j. (top j).block)
              (λ j. (top j).at) s.top.mode

      resumes_own : (p : Value) (r : Result State Cause) → resume g.given (continue_framed g) s p ≡ r → StaysOwn c r
      resumes_own p (Err cause) e = tt
      resumes_own p (Ok u) e = let y = resume_goes g s u p e in subst (IsOwnState c) (sym y.1.1)
          (goes_on_own g asks s o y.0.number y.0.instance y.0.suspend y.0.values
          (resume_label (function_at g.given.code y.0.instance.coroutine) y.0.suspend) i there plain y.0.there)

      destroys_own : (p : Value) (r : Result State Cause) → destroy g.given (continue_framed g) s p ≡ r
          → StaysOwn c r
      destroys_own p (Err cause) e = tt
      destroys_own p (Ok u) e = let y = destroy_goes g s u p e in subst (IsOwnState c) (sym y.1)
          (goes_on_own g asks s o y.0.number y.0.instance y.0.suspend y.0.values
          (destroy_label (function_at g.given.code y.0.instance.coroutine) y.0.suspend) i there plain y.0.there)

      done_own : (p : Value) → StaysOwn c (done_at g.given s result p)
      done_own p = then_own c (sleeper_at s p) (λ (y : Sleeper). ok_if (has_final (function_at g.given.code
          y.instance.coroutine)) Cause.State (gives s result (truth_value (is_final (function_at g.given.code
          y.instance.coroutine) y.suspend))))
          (λ y e. if_own c (has_final (function_at g.given.code y.instance.coroutine)) Cause.State _
          (λ h. result_own _))

      released_top : (q : Option (ℕ × Instance))
          → (change_own s (λ x. record x { released = true }) q).top ≡ s.top
      released_top None = refl
      released_top (Some (j, x)) = refl

      release_own : (v : Value) → IsOwnState c (gives (release s) result v)
      release_own v = let top = released_top (own_instance s) in
          placed_gives (release s) (own_changed c s (λ x. record x { released = true }) (λ x. (refl, refl, refl)) o)
          (λ j. (top j).func) (λ j. (top j).block) (λ j. (top j).at) result v none

      promise_own : (r : Result Value Cause) → StaysOwn c (and_then r (λ v. Ok (gives s result v)))
      promise_own (Err cause) = tt
      promise_own (Ok v) = result_own v

      pub coro_own : (x : Intrinsic) (args : List Arg) (vs : List Value)
          → (x ≡ Intrinsic.CoroBegin → (function_of g.given s).coroutine ≡ true)
          → StaysOwn c (framed_coro g s x args vs result)
      coro_own Intrinsic.CoroId args vs k1 = nexts_own
      coro_own Intrinsic.CoroSizeI32 args vs k1 = result_own _
      coro_own Intrinsic.CoroSizeI64 args vs k1 = result_own _
      coro_own Intrinsic.CoroAlignI32 args vs k1 = result_own _
      coro_own Intrinsic.CoroAlignI64 args vs k1 = result_own _
      coro_own Intrinsic.CoroAlloc args vs k1 = result_own _
      coro_own Intrinsic.CoroBegin args vs k1 =
          begins_own g asks s o i there plain (k1 refl) result none (nth vs 1) s.top.mode o.top.mode
      coro_own Intrinsic.CoroFree args vs k1 = release_own _
      coro_own Intrinsic.CoroFrame args vs k1 = result_own _
      coro_own Intrinsic.CoroSave args vs k1 = saves_own
      coro_own Intrinsic.CoroSuspend args vs k1 = suspends_own (operand_at args 0)
      coro_own Intrinsic.CoroEnd args vs k1 = end_own
      coro_own Intrinsic.CoroResume args vs k1 = resumes_own (nth vs 0)
          (resume g.given (continue_framed g) s (nth vs 0)) refl
      coro_own Intrinsic.CoroDestroy args vs k1 = destroys_own (nth vs 0)
          (destroy g.given (continue_framed g) s (nth vs 0)) refl
      coro_own Intrinsic.CoroDone args vs k1 = done_own (nth vs 0)
      coro_own Intrinsic.CoroPromise args vs k1 = promise_own (framed_promise g s (nth vs 0) (operand_at args 2))
      coro_own _ args vs k1 = nexts_own

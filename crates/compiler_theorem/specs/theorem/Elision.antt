-- What is lowered with calls elided: the step that elides them, and what it claims of allocator calls.
use Rattle.std.specs.Prelude.{◌≡◌, ℕ, ℤ, ◌+◌, false, List, Some, filter, length, slice_get}
use Rattle.compiler.specs.run_agreement.Agreements.{Agrees, AgreesWithin, NeverUndefined}
use Rattle.compiler.specs.run_agreement.Costs.{AgreesBy}
use Rattle.compiler.specs.run_agreement.Factor.{step_factor}
use Rattle.compiler.specs.run_agreement.Machines.{IsReturned, Machine, at, state_at}
use Rattle.compiler.specs.run_memory.declared.block.Kind.{Kind}
use Rattle.compiler.specs.run_memory.declared.block.MemoryBlock.{MemoryBlock}
use Rattle.compiler.specs.run_memory.declared.pointer.Offset.{Offset}
use Rattle.compiler.specs.run_memory.declared.pointer.Pointer.{Pointer}
use Rattle.compiler.specs.run_memory.declared.pointer.Value.{Value}
use Rattle.compiler.specs.text_canonical.canonical.Items.{module_text}
use Rattle.compiler.specs.ir_base.declared.outcome.Outcome.{Outcome}
use Rattle.compiler.specs.pass_cleanup.Cleanable.{IsCleanable}
use Rattle.compiler.specs.run_source.declared.state.State.{State}
use Rattle.compiler_theorem.specs.theorem.Entries.{IsEntry, IsEntryCall, Run}
use Rattle.compiler_theorem.specs.theorem.Lowered.{AreAllocasFirst, Lowered, framed_run, lowered_from, plain_run, printed_from, source_run, split_from}
use Rattle.compiler.specs.run_framed.Framed.{is_given}
use Rattle.compiler.specs.text_grammar.Text.{StandsFor}
use Rattle.compiler.specs.ir_model.Names.{is_noalloc}
use Rattle.compiler.specs.ir_model.declared.module.Function.{Function}
use Rattle.compiler.specs.ir_model.declared.module.Module.{Module}
use Rattle.compiler.specs.text_canonical.order.Shape.{IsShaped}
use Rattle.compiler.specs.run_step.Step.{Action, Deallocate, action_of, fetch}
use Rattle.compiler.specs.run_plain.Plain.{PlainGiven, plain_context, plain_function, plain_work}
use Rattle.compiler.specs.run_plain.declared.state.PlainState.{PlainState}
use Rattle.compiler.specs.ir_laws.facts.names_apart.Apart.{AreNamesApart}

-- a run without its count of allocator calls, which elision lowers
abbrev pub uncounted : {S : Type 0} → Machine S → Machine S
uncounted a = record a { seen = λ s. record (a.seen s) { allocs = 0 } }

-- the instances that were given their frames: each was begun by one executed elided call
abbrev pub given_frames : State → ℕ
given_frames s = length (filter (is_given s.world.memory) s.instances)

-- where both have returned, the first made as many allocator calls as the second, and one more for each elided call
abbrev pub LosesCalls : {S : Type 0} → Machine S → Machine State → Type 0
LosesCalls a b = (i j : ℕ) → IsReturned (at a i).outcome → IsReturned (at b j).outcome
    → (at a i).allocs ≡ (at b j).allocs + given_frames (state_at b j)

-- no function's name ends in .noalloc
abbrev pub NamesNoPart : Module → Type 0
NamesNoPart m = (k : ℕ) (f : Function) → slice_get m.functions k ≡ Some f → is_noalloc f.name ≡ false

-- where both have returned, the plain run counts as many elided calls as frames were given
abbrev pub NumbersCalls : Machine State → Machine PlainState → Type 0
NumbersCalls a b =
    (i j : ℕ) → IsReturned (at a i).outcome → IsReturned (at b j).outcome
    → (state_at b j).elided ≡ given_frames (state_at a i)

-- ---- what is given back

abbrev pub plain_given : Module → List ℤ → PlainGiven
plain_given m answers = record { code = m; answers = answers }

-- what the next step of a plain run does
abbrev pub next_action : Module → List ℤ → PlainState → Action
next_action m answers s =
    let g = plain_given m answers in
    action_of (plain_context g s) (plain_work s) (fetch (plain_function g s) s.top.block s.top.at)

-- no step gives a stack block to a deallocator
abbrev pub GivesNoStackBack : Module → Run → ℕ → Type 0
GivesNoStackBack m r other =
    (n b : ℕ) (o : Offset) (x : MemoryBlock) → (state_at (plain_run m r other) n).outcome ≡ Outcome.Running
    → next_action m r.answers (state_at (plain_run m r other) n) ≡ Deallocate (Value.Ptr (Pointer.At b o))
    → slice_get (state_at (plain_run m r other) n).world.memory b ≡ Some x → x.kind ≡ Kind.Stack → ⊥

-- ---- the steps

-- Framed to Framed costs 1 + sites: n is the framed form with its sites elided, of which so many stand in one
-- function. Framed to Plain costs 4, Plain to printed 1.
pub record ElidedSteps (X Y : Lowered → Module → Run → State → State → Type 0) (l : Lowered) (n : Module)
    (sites : ℕ) : Type 0 where
  -- waits for: the pass that elides, and its simulation
  pub eliding : (r : Run) → IsEntryCall l.source r
      → AgreesBy (X l n r) (Y l n r) (uncounted (framed_run l l.framed r)) (λ s. 1 + sites)
      (uncounted (framed_run l n r)) (λ t. 1)
  -- waits for: the same; the source's call allocates once
  pub losing : (r : Run) → IsEntryCall l.source r → LosesCalls (framed_run l l.framed r) (framed_run l n r)
  -- waits for: the same; in its coroutines the allocas of entries stay first
  pub allocas : AreAllocasFirst n
  -- waits for: the simulation of parts, those without allocation among them
  pub parting : (r : Run) (other : ℕ) → AreAllocasFirst n → IsEntryCall l.source r
      → IsEntry l.source (split_from l n) r.entry other → AgreesWithin 4 (at (framed_run l n r)) (at (plain_run (split_from l n) r other))
  -- waits for: the same; parts without allocation are called where calls are elided alone
  pub numbering : NamesNoPart l.source → (r : Run) (other : ℕ) → IsEntry l.source (split_from l n) r.entry other
      → NumbersCalls (framed_run l n r) (plain_run (split_from l n) r other)
  -- waits for: the rules of what is lowered with calls elided
  pub cleanable : IsCleanable (split_from l n)
  pub shaped : IsShaped (lowered_from l n)
  pub apart : AreNamesApart (lowered_from l n)
  pub stands : StandsFor (module_text (lowered_from l n)) (printed_from l n)

-- a framed run that has returned by the time that the lowered one has, the source's count, and the number of elided
-- calls that the lowered run tells
pub record CountsElided (l : Lowered) (n : Module) (r : Run) (other i j : ℕ) : Type 0 where
  pub steps : ℕ
  pub returned : IsReturned (at (framed_run l n r) steps).outcome
  pub counts : (at (source_run l r) i).allocs
      ≡ (at (plain_run (printed_from l n) r other) j).allocs + given_frames (state_at (framed_run l n r) steps)
  pub number : NamesNoPart l.source
      → (state_at (plain_run (printed_from l n) r other) j).elided ≡ given_frames (state_at (framed_run l n r) steps)

-- the printed text stands for a module whose runs agree with the source's within its step factor; where both have
-- returned, it made as many allocator calls as the source, less one for each executed elided call
pub record ElidesCalls (l : Lowered) (n : Module) (sites : ℕ) (r : Run) (other : ℕ) : Type 0 where
  pub stands : StandsFor (module_text (lowered_from l n)) (printed_from l n)
  pub headline : Agrees (step_factor l.source sites) (step_factor l.source sites) (at (source_run l r))
      (at (plain_run (printed_from l n) r other))
  pub counts : (i j : ℕ) → IsReturned (at (source_run l r) i).outcome
      → IsReturned (at (plain_run (printed_from l n) r other) j).outcome → CountsElided l n r other i j
  pub no_stack : NeverUndefined (at (source_run l r)) → GivesNoStackBack (printed_from l n) r other

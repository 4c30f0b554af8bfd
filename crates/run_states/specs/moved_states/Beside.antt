-- The machine of the framed meaning, and the states that stand beside each other where blocks come onto edges.
use Rattle.std.specs.Prelude.{◌≡◌, ℕ, ℤ, ◌+◌, ◌≤◌, List}
use Rattle.ir_laws.specs.run_agreement.Machines.{Machine}
use Rattle.ir_laws.specs.ir_base.declared.outcome.Word.{Word}
use Rattle.ir_laws.specs.run_source.Source.{first_state}
use Rattle.ir_laws.specs.run_source.declared.state.State.{State}
use Rattle.frame_layout.specs.declared.layout.Layouts.{Layouts}
use Rattle.run_framed.specs.Framed.{framed_given, framed_step}
use Rattle.ir_laws.specs.ir_model.Names.{function_at}
use Rattle.ir_laws.specs.ir_model.declared.instr.Terminator.{Terminator}
use Rattle.ir_laws.specs.ir_model.declared.module.Module.{Module}
use Rattle.ir_laws.specs.run_step.Runs.{seen_of}
use Rattle.ir_laws.specs.run_step.Step.{AtTerm, fetch}
use Rattle.run_states.specs.moved_states.MovedState.{moved_module, moved_state}
use Rattle.run_states.specs.moved_states.Moving.{AllMove, KeepsKinds, Moving}
use Rattle.run_states.specs.moved_states.Near.{HoldsIn, IsBefore}

-- what is seen of it after n steps is FramedAt
abbrev pub framed_machine : Module → Layouts → ℕ → List Word → List ℤ → Machine State
framed_machine m layouts entry args answers =
    record {
      start = first_state m entry args;
      step = framed_step (framed_given m layouts.coroutines answers);
      seen = λ s. seen_of m s.world s.outcome;
    }

-- the second is the first with its places moved
pub record IsMovedOf (mv : Moving) (m : Module) (s t : State) : Type 0 where
  pub is : t ≡ moved_state mv m s
  pub holds : HoldsIn mv m s

-- a price for each state that pays for what the moved state costs; where an edge gets a block, for that block's jump
-- too
pub record PaysFor (mv : Moving) (m : Module) (layouts : Layouts) (answers : List ℤ) (price cost : State → ℕ) : Type 0
  where
    pub steps : (s : State) → HoldsIn mv m s → cost (moved_state mv m s) ≤ price s
    pub edges : (s u : State) (t : Terminator) → HoldsIn mv m s
        → fetch (function_at m s.top.func) s.top.block s.top.at ≡ AtTerm t
        → IsBefore mv m layouts.coroutines answers (framed_step (framed_given m layouts.coroutines answers) s) u
        → cost (moved_state mv m s) + cost u ≤ price s

-- the same for each moving that makes one module of the other
abbrev pub AllPayFor : Module → Module → Layouts → List ℤ → (State → ℕ) → (State → ℕ) → Type 0
AllPayFor m n layouts answers price cost =
    (mv : Moving) → KeepsKinds mv → AllMove mv m → moved_module mv m ≡ n → PaysFor mv m layouts answers price cost

-- the same by some moving that makes one module of the other
pub record IsMovedIn (m n : Module) (s t : State) : Type 0 where
  pub moving : Moving
  pub kinds : KeepsKinds moving
  pub moves : AllMove moving m
  pub makes : moved_module moving m ≡ n
  pub beside : IsMovedOf moving m s t

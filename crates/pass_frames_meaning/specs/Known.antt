-- What is known of each state where a coroutine is on top: what it asks of the code, and of the state.
use Rattle.std.specs.Prelude.{◌≡◌, ◌<◌, ℕ, Bool, true, false, length, Option, Some}
use Rattle.pass_frames_proof.specs.flow_solver.Paths.{IsListed}
use Rattle.pass_frames_proof.specs.ir_model.Names.{function_at}
use Rattle.pass_frames_proof.specs.ir_model.Ty.{Ty}
use Rattle.pass_frames_proof.specs.ir_model.declared.instr.Instr.{Instr}
use Rattle.pass_frames_proof.specs.ir_model.declared.operand.Arg.{Arg}
use Rattle.pass_frames_proof.specs.ir_model.declared.operand.Operand.{Operand}
use Rattle.pass_frames_proof.specs.ir_parts.Contents.{instr_operands}
use Rattle.pass_frames_proof.specs.pass_cells.Kept.{entry}
use Rattle.pass_frames_proof.specs.pass_frames.Framed.{begin_of}
use Rattle.pass_frames_meaning.specs.Executed.{IsExecutedState}
use Rattle.pass_frames_meaning.specs.Led.{IsLedState}
use Rattle.pass_frames_meaning.specs.Setting.{Setting}
use Rattle.pass_frames_meaning.specs.Standing.{IsStaying}
use Rattle.pass_frames_meaning.specs.Unbegun.{IsBefore, IsUnbegunState}
use Rattle.pass_frames_proof.specs.Marking.{marking}
use Rattle.pass_frames_proof.specs.Places.{edged, offsets}
use Rattle.pass_frames_proof.specs.Related.{is_coroutine}
use Rattle.pass_frames_proof.specs.Stepping.{IsUnlocated, state_in}
use Rattle.pass_frames_proof.specs.pass_renewed_proof.SlotRules.{IsMadeOnce}
use Rattle.pass_frames_proof.specs.rule_laws.rules.function_rules.Kept.{KeepsFunctionRules}
use Rattle.pass_frames_proof.specs.run_framed.Framed.{begin_name}
use Rattle.run_slots.specs.Slots.{IsSlottedState}
use Rattle.pass_frames_proof.specs.run_source.declared.state.State.{State}
use Rattle.pass_frames_proof.specs.run_states.sound_states.Sound.{IsSound}
use Rattle.pass_frames_proof.specs.run_step.Step.{AtInstr, fetch}

-- K9: slots in a frame are used behind begin, but for accesses that go by the addresses in their cells
abbrev pub AreSlotsBehind : Setting → Type 0
AreSlotsBehind c =
    (func block at : ℕ) (i : Instr) → is_coroutine c.b func ≡ true
    → fetch (function_at c.g.given.code func) block at ≡ AtInstr i → IsStaying i
    → IsUnlocated (c.b.framing func) (state_in (c.b.framing func) block at) i → (v d : ℕ)
    → IsListed (Operand.Local v) (instr_operands i) → v < length (edged (c.b.framing func)).names
    → entry (offsets (c.b.framing func)) v ≡ Some d → IsBefore (function_at c.g.given.code func) block at → ⊥

-- Of the coroutines, where some names of allocas count: those of slots in a frame do.
pub record KeepsKnown (c : Setting) (counts : ℕ → ℕ → Bool) : Type 0 where
  -- without blocks on edges a coroutine breaks no rule
  pub position : ℕ → ℕ
  pub rules : (func : ℕ) → is_coroutine c.b func ≡ true
      → KeepsFunctionRules (c.b.framing func).code (position func) (c.b.framing func).function
  pub counted : (func v d : ℕ) → is_coroutine c.b func ≡ true → v < length (edged (c.b.framing func)).names
      → entry (offsets (c.b.framing func)) v ≡ Some d → counts func v ≡ true
  pub begins : (func : ℕ) → is_coroutine c.b func ≡ true
      → begin_name (function_at c.g.given.code func) ≡ Some (begin_of (c.b.framing func).function)
  pub behind : AreSlotsBehind c

-- of a state of the run that makes slots anew; in functions that are no coroutines all allocas are own
pub record IsKnown (c : Setting) (counts own : ℕ → ℕ → Bool) (s : State) : Type 0 where
  pub sound : IsSound c.g.given.code s
  pub slots : IsSlottedState s
  pub led : IsLedState c.g.given.code counts s
  pub unbegun : IsUnbegunState c.g.given.code s
  pub executed : IsExecutedState c.g.given.code own s

-- F2: in functions that are no coroutines a marker stands behind its alloca, which counts as own.
pub record KeepsMarks (c : Setting) (own : ℕ → ℕ → Bool) : Type 0 where
  pub counted : (func block at : ℕ) (starts must_tail : Bool) (ty : Option Ty) (size : Arg) (u : Ty) (name : ℕ)
      → is_coroutine c.b func ≡ false
      → fetch (function_at c.g.given.code func) block at ≡ AtInstr (marking starts must_tail ty size u name)
      → own func name ≡ true
  pub behind : (func block at : ℕ) (starts must_tail : Bool) (ty : Option Ty) (size : Arg) (u : Ty) (name : ℕ)
      → is_coroutine c.b func ≡ false
      → fetch (function_at c.g.given.code func) block at ≡ AtInstr (marking starts must_tail ty size u name)
      → (made : IsMadeOnce (function_at c.g.given.code func) name) → block ≡ 0 → made.at < at

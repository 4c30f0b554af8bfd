-- The ends of blocks: what is asked where a run goes to another block.
use Rattle.std.specs.Prelude.{◌≡◌, ◌≢◌, ◌⊎◌, ◌<◌, ◌+◌, ℕ, true, false, List, [], length, slice_get, Some, None, Option}
use Rattle.pass_elide.specs.Elided.{function_frames}
use Rattle.pass_elide_proof.specs.Elision.{Elision, Shape, differs_in, elided, framed, function_in, rooms}
use Rattle.pass_elide_proof.specs.Match.{is_given_mode, sides, was_given}
use Rattle.pass_elide_proof.specs.Places.{allocas_ahead, instrs_of, own_at}
use Rattle.pass_elide_proof.specs.Shapes.{JumpsTo}
use Rattle.pass_proofs.specs.ir_base.declared.outcome.Outcome.{Outcome}
use Rattle.pass_proofs.specs.ir_model.Names.{position_of}
use Rattle.pass_proofs.specs.ir_model.declared.instr.Instr.{Instr}
use Rattle.pass_proofs.specs.ir_model.declared.instr.Phi.{Phi}
use Rattle.pass_proofs.specs.ir_model.declared.instr.Terminator.{Terminator}
use Rattle.pass_proofs.specs.ir_model.declared.module.Function.{Function}
use Rattle.pass_proofs.specs.ir_model.declared.operand.Intrinsic.{Intrinsic}
use Rattle.pass_proofs.specs.ir_model.declared.operand.Operand.{Operand}
use Rattle.pass_proofs.specs.ir_parts.Contents.{result_of}
use Rattle.pass_proofs.specs.ir_paths.Windows.{is_call_of, points_where}
use Rattle.pass_proofs.specs.run_framed.Framed.{FramedGiven, framed_context}
use Rattle.pass_proofs.specs.run_laws.changed.Changed.{Each}
use Rattle.pass_proofs.specs.run_source.Source.{left_windows}
use Rattle.pass_proofs.specs.run_source.State.{function_of, work_of}
use Rattle.pass_proofs.specs.run_source.declared.state.State.{State}
use Rattle.pass_proofs.specs.run_step.Step.{AtTerm, GoTo, fetch, incoming_from, label_of, phis_of, term_action}
use Rattle.pass_proofs.specs.run_step.Values.{Env}

-- ---- the step

-- the run goes to a label, and leaves no window
pub record IsEntering (g : FramedGiven) (s : State) (label : ℕ) : Type 0 where
  pub runs : s.outcome ≡ Outcome.Running
  pub term : Terminator
  pub there : fetch (function_of g.given s) s.top.block s.top.at ≡ AtTerm term
  pub goes : term_action (framed_context g s) (work_of s) term ≡ GoTo label
  pub stays : left_windows g.given s label ≡ []

-- what a terminator looks at to choose a label
abbrev pub chosen_by : Terminator → Operand
chosen_by (Terminator.Jump label) = Operand.None
chosen_by (Terminator.Branch x one other) = x
chosen_by (Terminator.Switch arg default cases) = arg.value
chosen_by (Terminator.Ret arg) = Operand.None
chosen_by Terminator.Unreachable = Operand.None

-- ---- the text

-- none of a function's calls gives a frame
abbrev pub GivesNone : Elision → ℕ → Type 0
GivesNone e func = function_frames (rooms e func) (function_in e func) ≡ []

-- the function has no window, or none of its calls gives a frame
abbrev pub KeepsWindows : Elision → ℕ → Type 0
KeepsWindows e func =
    (points_where (is_call_of Intrinsic.CoroSave) (function_in e func) ≡ []) ⊎ GivesNone e func

abbrev pub phis_at : Function → ℕ → List Phi
phis_at f block = phis_of (slice_get f.blocks block)

abbrev pub label_from : Function → ℕ → ℕ
label_from f block = label_of (slice_get f.blocks block)

-- a name that no intrinsic on frames gives, and no test of what one gave
pub record IsNoAnswer (x : Shape) (v : ℕ) : Type 0 where
  pub need : x.need v ≡ false
  pub freed : x.freed v ≡ false
  pub tested : x.tested v ≡ None

-- ---- operands

-- the operand is no name that differs in the topmost activations
abbrev pub IsAlike : Elision → State → State → Operand → Type 0
IsAlike e s t x =
    (v : ℕ) → x ≡ Operand.Local v
    → differs_in (e.shape s.top.func) (is_given_mode t.top.mode) (was_given (sides s t) t.top) v ≡ false

-- a phi takes from a block what is alike, unless what it gives differs
pub record IsPhiAlike (e : Elision) (s t : State) (from : ℕ) (p : Phi) : Type 0 where
  pub known : p.result < length (function_in e s.top.func).names
  pub answers : IsNoAnswer (e.shape s.top.func) p.result
  pub takes : differs_in (e.shape s.top.func) (is_given_mode t.top.mode) (was_given (sides s t) t.top) p.result ≡ false
      → IsAlike e s t (incoming_from p.incoming from)

-- the same operand, or what was made at the same position of two blocks
pub data TakesAlike (e : Elision) (s t : State) : Operand → Operand → Type 0 where
  SameOperand : (x : Operand) → IsAlike e s t x → TakesAlike e s t x x
  MadeAlike : (k u v : ℕ) (i j : Instr) → k < s.top.at
      → slice_get (instrs_of (function_in e s.top.func) s.top.block) k ≡ Some i
      → slice_get (instrs_of (function_in e s.top.func) t.top.block) k ≡ Some j → result_of i ≡ Some u
      → result_of j ≡ Some v → TakesAlike e s t (Operand.Local u) (Operand.Local v)

-- a phi takes such operands from two blocks, unless what it gives differs
pub record MeetsAlike (e : Elision) (s t : State) (from other : ℕ) (p : Phi) : Type 0 where
  pub answers : IsNoAnswer (e.shape s.top.func) p.result
  pub takes : differs_in (e.shape s.top.func) (is_given_mode t.top.mode) (was_given (sides s t) t.top) p.result ≡ false
      → TakesAlike e s t (incoming_from p.incoming from) (incoming_from p.incoming other)

-- ---- the block that is held

-- No block is held, before phis and behind them. Or one is, by a name that no phi gives. Or the one phi of the new name
-- takes the old one.
pub data StaysHeld (env : Env) (from : ℕ) (phis : List Phi) : Option ℕ → Option ℕ → Type 0 where
  NoneHeld : StaysHeld env from phis None None
  KeptHeld : (v : ℕ) → Each (λ (p : Phi). p.result ≢ v) phis → StaysHeld env from phis (Some v) (Some v)
  TakenHeld : (v u k : ℕ) (p : Phi) → slice_get phis k ≡ Some p → p.result ≡ u
      → incoming_from p.incoming from ≡ Operand.Local v
      → ((j : ℕ) (q : Phi) → slice_get phis j ≡ Some q → q.result ≡ u → j ≡ k) → u < length env
      → StaysHeld env from phis (Some v) (Some u)

-- so it is on an edge to a block
abbrev pub IsHeldOn : Elision → State → ℕ → Type 0
IsHeldOn e s to =
    StaysHeld s.top.values (label_from (function_in e s.top.func) s.top.block) (phis_at (function_in e s.top.func) to)
    ((e.shape s.top.func).holds s.top.block s.top.at) ((e.shape s.top.func).holds to 0)

-- ---- both runs take an edge

-- the second run at what stands at the first one's place, behind what is put in front of that
abbrev pub at_itself : Elision → State → State → State
at_itself e s t =
    record t {
      top = record t.top {
        at = own_at (rooms e s.top.func) (function_in e s.top.func) s.top.block s.top.at;
      };
    }

pub record IsAtEdge (e : Elision) (s t : State) (label : ℕ) : Type 0 where
  pub enters : IsEntering (framed e) s label
  pub beside : t.top.block ≡ s.top.block
  -- the allocas in front of the entry block have been made
  pub made : length t.top.slots
      ≡ length s.top.slots + length (allocas_ahead (rooms e s.top.func) (function_in e s.top.func))
  pub windows : KeepsWindows e s.top.func
  pub chosen : IsAlike e s t (chosen_by enters.term)
  pub phis : Each (IsPhiAlike e s t (label_from (function_in e s.top.func) s.top.block))
      (phis_at (function_in e s.top.func) (position_of (function_in e s.top.func) label))
  pub held : is_given_mode t.top.mode ≡ true → IsHeldOn e s (position_of (function_in e s.top.func) label)

-- ---- both runs come to a block over blocks of their own

pub record IsAtMeeting (e : Elision) (s t : State) (label to : ℕ) : Type 0 where
  pub enters : IsEntering (framed e) s label
  pub leads : position_of (function_in e s.top.func) label ≡ to
  pub meets : JumpsTo (function_in e s.top.func) t.top.block to
  pub same : t.top.at ≡ s.top.at
  pub many : length (instrs_of (function_in e s.top.func) t.top.block)
      ≡ length (instrs_of (function_in e s.top.func) s.top.block)
  pub none : GivesNone e s.top.func
  pub stays : left_windows (elided e).given t meets.label ≡ []
  pub phis : Each (MeetsAlike e s t (label_from (function_in e s.top.func) s.top.block)
      (label_from (function_in e s.top.func) t.top.block)) (phis_at (function_in e s.top.func) to)
  pub held : is_given_mode t.top.mode ≡ true → IsHeldOn e s to

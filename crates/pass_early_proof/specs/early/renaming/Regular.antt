-- Coroutines in which each use of a value of coro.frame is one of begin's value: what is asked of paths and names.
use Rattle.std.specs.Prelude.{◌≡◌, ◌<◌, ℕ, true, false, length, IsTrue, Some, None, slice_get, ◌==◌}
use Rattle.rule_laws.specs.rule_shape.Switches.{wrong_switch}
use Rattle.rule_laws.specs.rule_uses.Undefined.{IsFirstUndefined, params_of}
use Rattle.rule_laws.specs.rule_uses.Uses.{uses_of}
use Rattle.pass_early.specs.Early.{renaming_of}
use Rattle.pass_early.specs.Renaming.{is_renamed}
use Rattle.pass_early.specs.declared.renaming.Renaming.{Renaming}
use Rattle.rule_laws.specs.flow_solver.Paths.{IsListed}
use Rattle.ir_model.specs.Names.{function_at, position_of}
use Rattle.ir_model.specs.declared.instr.Instr.{Instr}
use Rattle.ir_model.specs.declared.module.Block.{Block}
use Rattle.ir_model.specs.declared.module.Function.{Function}
use Rattle.ir_model.specs.declared.module.Module.{Module}
use Rattle.ir_model.specs.declared.operand.Intrinsic.{Intrinsic}
use Rattle.rule_laws.specs.ir_paths.Paths.{entry_point}
use Rattle.rule_laws.specs.ir_paths.Slots.{is_in_args, promise_of}
use Rattle.rule_laws.specs.ir_paths.Windows.{destroy_label, instr_at, is_call_of, resume_label, suspend_of}
use Rattle.rule_laws.specs.ir_paths.declared.point.Point.{Point}
use Rattle.rule_laws.specs.run_step.Step.{is_lifetime, phis_of}
use Rattle.rule_laws.specs.run_laws.changed.Changed.{Each, result_of}
use Rattle.rule_laws.specs.rule_windows.Outside.{IsFirstOutside}
use Rattle.rule_laws.specs.ir_laws.paths.renamed.Regular.{HasNoFrame, IsDead, IsTaken, entry, is_call_at}

-- neither renamed nor what takes another's place
pub record IsPlain (r : Renaming) (v : ℕ) : Type 0 where
  pub stays : is_renamed r v ≡ false
  pub is_other : (v == r.to) ≡ false

-- no activation that goes on behind a suspend uses the value unless it makes it, at its resume and destroy edges
pub record IsDeadAt (f : Function) (n : ℕ) (s : Point) (label : ℕ) : Type 0 where
  pub ahead : IsDead f true n (entry_point f label)
  pub not_taken : IsTaken f n s.block label → ⊥

pub record IsDeadBehind (f : Function) (n : ℕ) (s : Point) : Type 0 where
  pub resumed : IsDeadAt f n s (resume_label f s)
  pub destroyed : IsDeadAt f n s (destroy_label f s)

-- ---- coroutines

abbrev pub IsMark : Renaming → Instr → Type 0
IsMark r (Instr.Call result must_tail ty callee args) = IsTrue (is_lifetime callee) → (v : ℕ) → IsTrue (is_in_args v args) → is_renamed r v ≡ false
IsMark r i = Unit {0}

-- a renaming of values of coro.frame to begin's
pub record IsRegular (f : Function) (r : Renaming) : Type 0 where
  pub frame_calls : (p : Point) (i : Instr) (n : ℕ) → instr_at f p ≡ Some i → result_of i ≡ Some n → is_renamed r n ≡ true → is_call_of Intrinsic.CoroFrame i ≡ true
  pub begin_calls : (p : Point) (i : Instr) → instr_at f p ≡ Some i → result_of i ≡ Some r.to → is_call_of Intrinsic.CoroBegin i ≡ true
  pub begins : (p : Point) (i : Instr) → instr_at f p ≡ Some i → is_call_of Intrinsic.CoroBegin i ≡ true → result_of i ≡ Some r.to
  pub begin_stays : is_renamed r r.to ≡ false
  pub phis : (block : ℕ) → Each (λ p. IsPlain r p.result) (phis_of (slice_get f.blocks block))
  pub has_begin : r.to < length f.names
  pub has_frames : (n : ℕ) → is_renamed r n ≡ true → n < length f.names
  pub dead_first : (n : ℕ) → is_renamed r n ≡ true → IsDead f false n entry
  pub no_frame_first : HasNoFrame f entry
  pub dead_behind_save : (k s : Point) (n : ℕ) → IsTrue (is_call_at f Intrinsic.CoroSave k) → suspend_of f k ≡ Some s → is_renamed r n ≡ true → IsDead f true n k → IsDeadBehind f n s
  pub dead_behind : (s : Point) (n : ℕ) → IsTrue (is_call_at f Intrinsic.CoroSuspend s) → is_renamed r n ≡ true → IsDead f true n s → IsDeadBehind f n s
  pub promise : (v : ℕ) → promise_of f ≡ Some v → is_renamed r v ≡ false
  pub marks : (p : Point) (i : Instr) → instr_at f p ≡ Some i → IsMark r i

-- ---- what the rules say

-- A coroutine in which no use is undefined (F2), nothing stands before begin or behind the end that may not (K5), and suspends
-- have their switches (K3), with what the rules on names, on the calls of coroutines, on windows, on the promise and on markers
-- say of the values of coro.frame. Begin's value has a name, and the function's table has it.
pub record KeepsRules (func : ℕ) (f : Function) : Type 0 where
  pub undefined_use : IsFirstUndefined f (uses_of func f) None
  pub outside : IsFirstOutside func f None
  pub frame_calls : (p : Point) (i : Instr) (n : ℕ) → instr_at f p ≡ Some i → result_of i ≡ Some n → is_renamed (renaming_of f) n ≡ true → is_call_of Intrinsic.CoroFrame i ≡ true
  pub begin_calls : (p : Point) (i : Instr) → instr_at f p ≡ Some i → result_of i ≡ Some (renaming_of f).to → is_call_of Intrinsic.CoroBegin i ≡ true
  pub begins : (p : Point) (i : Instr) → instr_at f p ≡ Some i → is_call_of Intrinsic.CoroBegin i ≡ true → result_of i ≡ Some (renaming_of f).to
  pub phis : (block : ℕ) → Each (λ p. IsPlain (renaming_of f) p.result) (phis_of (slice_get f.blocks block))
  pub params : (n : ℕ) → is_renamed (renaming_of f) n ≡ true → IsListed n (params_of f) → ⊥
  pub labels : (k : ℕ) (b : Block) → slice_get f.blocks k ≡ Some b → position_of f b.label ≡ k
  pub has_begin : (renaming_of f).to < length f.names
  pub dead_behind_save : (k s : Point) (n : ℕ) → IsTrue (is_call_at f Intrinsic.CoroSave k) → suspend_of f k ≡ Some s → is_renamed (renaming_of f) n ≡ true → IsDead f true n k → IsDeadBehind f n s
  pub switches : wrong_switch func f ≡ None
  pub promise : (v : ℕ) → promise_of f ≡ Some v → is_renamed (renaming_of f) v ≡ false
  pub marks : (p : Point) (i : Instr) → instr_at f p ≡ Some i → IsMark (renaming_of f) i

-- the same of each coroutine of a module
abbrev pub AllKeepRules : Module → Type 0
AllKeepRules m = (func : ℕ) → (function_at m func).coroutine ≡ true → KeepsRules func (function_at m func)

-- each coroutine of a module is regular
abbrev pub AreRegular : Module → Type 0
AreRegular m = (func : ℕ) → (function_at m func).coroutine ≡ true → IsRegular (function_at m func) (renaming_of (function_at m func))

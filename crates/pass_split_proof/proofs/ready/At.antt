-- What rules give at an instruction that related states are at.
use Rattle.std.proofs.Common.{◌≡◌, false, List, Some, refl}
use Rattle.std.specs.Prelude.{ℤ, slice_get}
use Rattle.pass_proofs.specs.frame_layout.declared.layout.Layouts.{Layouts}
use Rattle.pass_proofs.specs.ir_model.Names.{function_at}
use Rattle.pass_proofs.specs.ir_model.declared.instr.Instr.{Instr}
use Rattle.pass_proofs.specs.ir_model.declared.module.Module.{Module}
use Rattle.pass_proofs.specs.ir_model.declared.operand.Intrinsic.{Intrinsic}
use Rattle.pass_proofs.specs.ir_paths.Windows.{is_call_of}
use Rattle.pass_split_proof.proofs.ready.Begins.{BeginsBy, other_name}
use Rattle.pass_split_proof.proofs.ready.Given.{begins_by, ruled_at}
use Rattle.pass_split_proof.proofs.ready.Readable.{instr_readable}
use Rattle.pass_split_proof.proofs.ready.Rules.{function_of_instr}
use Rattle.pass_split_proof.specs.first_exits.Parted.{parted_module}
use Rattle.pass_split_proof.specs.ready.Module.{IsFollowableIn, IsRuled}
use Rattle.pass_split_proof.specs.simulation.Statement.{parts_given}
use Rattle.pass_split_proof.specs.states.Related.{AreRelated}
use Rattle.pass_split_proof.specs.steps.Operands.{IsReadable}
use Rattle.pass_proofs.specs.run_framed.Framed.{framed_given}
use Rattle.pass_proofs.specs.run_laws.changed.Changed.{Each, operands_of, result_of}
use Rattle.run_access_worked.specs.run_plain.declared.state.PlainState.{PlainState}
use Rattle.pass_proofs.specs.run_source.declared.state.State.{State}
use Rattle.pass_proofs.specs.run_step.Step.{AtInstr, fetch}
use Rattle.pass_proofs.specs.rule_names.declared.stage.Stage.{Stage}

module _ {stage : Stage} {ruler : Module} (ls : Layouts) (m : Module) (w : IsFollowableIn stage ruler ls m)
    (answers : List ℤ) (s : State) (t : PlainState)
    (r : AreRelated (framed_given m ls.coroutines answers) (parts_given ls m answers) s t) (i : Instr)
    (here : fetch (function_at m s.top.func) s.top.block s.top.at ≡ AtInstr i) where
  pub there : slice_get m.functions s.top.func ≡ Some (function_at m s.top.func)
  there = function_of_instr m s.top.func s.top.block s.top.at i here

  pub ruled : IsRuled ruler s.top.func (function_at m s.top.func)
  ruled = ruled_at ls m w s.top.func (function_at m s.top.func) there

  pub begins : BeginsBy (function_at m s.top.func) r.top.shape.begin
  begins = begins_by ls m w answers s.top.func (function_at m s.top.func) r.top.shape refl there r.top.shaped

  pub read : Each (IsReadable m (parted_module ls m) (function_at m s.top.func)) (operands_of i)
  read = instr_readable ls m w.ruler.globals w.names s.top.func (function_at m s.top.func) ruled s.top.block
      s.top.at i here

  pub others : is_call_of Intrinsic.CoroBegin i ≡ false → result_of i ≡ Some r.top.shape.begin → ⊥
  others none e = other_name ruler s.top.func (function_at m s.top.func) ruled.rules r.top.shape.begin begins
      s.top.block
      s.top.at i here none e

-- By its prices each step of an accepted source pays for the steps of the framed form.
use Rattle.std.proofs.Common.{◌≡◌, ℕ, List, [], ◌∷◌, Option, refl, subst, sym}
use Rattle.std.specs.Prelude.{◌+◌, length}
use Rattle.compiler_theorem.proofs.theorem.Asked.{own_returns}
use Rattle.compiler_theorem.proofs.theorem.Built.{sources_built}
use Rattle.compiler_theorem.proofs.theorem.Framing.{sources_given}
use Rattle.compiler_theorem.proofs.theorem.Stepping.{called}
use Rattle.compiler_theorem.specs.theorem.Anew.{Anew, IsAnewOf}
use Rattle.compiler_theorem.specs.theorem.Between.{renewing, setting}
use Rattle.compiler_theorem.specs.theorem.Built.{building}
use Rattle.compiler_theorem.specs.theorem.Entries.{IsEntryCall, Run}
use Rattle.compiler_theorem.specs.theorem.Lowered.{HasFewBytes, IsLowered, Lowered, early, edged}
use Rattle.compiler_theorem.specs.theorem.Theorem.{prices_of}
use Rattle.compiler.specs.ir_model.Names.{function_at}
use Rattle.compiler.specs.ir_model.declared.instr.Instr.{Instr}
use Rattle.compiler.specs.ir_model.declared.module.Function.{Function}
use Rattle.compiler.specs.ir_model.declared.operand.Callee.{Callee}
use Rattle.compiler.specs.ir_model.declared.operand.Intrinsic.{Intrinsic}
use Rattle.compiler.specs.pass_edges.EdgeBlocks.{with_edge_blocks}
use Rattle.pass_frames_meaning.proofs.others.Returns.{instr_in}
use Rattle.pass_frames_meaning.specs.Called.{AreBehindCalls, IsCalling}
use Rattle.pass_frames_meaning.specs.Covered.{AreStepsPaid}
use Rattle.pass_frames_meaning.specs.pass_frames_proof.Places.{copies}
use Rattle.pass_frames_meaning.specs.pass_frames_proof.Related.{Building}
use Rattle.pass_frames_prices.proofs.priced.Paid.{pays}
use Rattle.pass_frames_prices.proofs.priced.Within.{within}
use Rattle.pass_frames_prices.specs.Counts.{behind_by}
use Rattle.pass_frames_prices.specs.FramePrices.{AreWithin, ComesBehindOne}
use Rattle.pass_frames_prices.specs.Numbers.{most_names}
use Rattle.compiler.specs.rule_laws.frames.rows.Returns.{HaveOwnReturns}
use Rattle.compiler.specs.run_agreement.Factor.{most_operands_of_functions, most_phis_of_functions}
use Rattle.compiler.specs.run_source.Source.{first_state}
use Rattle.compiler.specs.run_source.declared.state.Activation.{Activation}
use Rattle.compiler.specs.run_source.declared.state.State.{State}
use Rattle.compiler.specs.run_step.Runs.{iterate}
use Rattle.pass_frames_meaning.specs.pass_renewed_proof.Renewed.{renewed_step}

-- behind a call nothing is put in but the store of its result
none_behind : (early : ℕ) (i : Instr) → IsCalling i → behind_by early i ≡ 0
none_behind early (Instr.Gep r inbounds ty base indices) h = absurd h
none_behind early (Instr.Call r must_tail ty (Callee.Intrinsic Intrinsic.CoroBegin) args) h = absurd h
none_behind early _ h = refl

module _ (l : Lowered) (low : IsLowered l) (a : Anew) (r : Run) where
  abbrev b : Building
  b = building l low.is_framed r.answers

  pub numbers : AreWithin (building l low.is_framed r.answers) (most_names l.source.functions)
      (most_operands_of_functions l.source.functions + most_phis_of_functions l.source.functions)
  numbers = within (building l low.is_framed r.answers) l.source (sources_built l low r.answers) refl

  -- activations below stand behind calls
  comes : (result : Option ℕ) (below : List Activation) → AreBehindCalls (edged l) result below
      → ComesBehindOne (building l low.is_framed r.answers) below
  comes result [] h = tt
  comes result (c ∷ below) h = λ coroutine.
      let y = h.0 in
      record {
        at = y.at;
        behind = y.behind;
        instr = y.call;
        there = instr_in (b.framing c.func) (function_at (edged l) c.func)
            ((sources_given l low a r).coroutines c.func coroutine) c.block y.at y.call y.there;
        none = none_behind (length (copies (b.framing c.func)).slots) y.call y.calls;
      }

  pub frames_paid : HasFewBytes l → IsAnewOf (early l) a → IsEntryCall l.source r
      → AreStepsPaid (setting l a r) (building l low.is_framed r.answers) (prices_of l low a)
  frames_paid few anew call n =
      let s : State = iterate (renewed_step (renewing l a r)) n (first_state (edged l) r.entry r.args) in
      pays (building l low.is_framed r.answers) (renewing l a r) (sources_given l low a r)
      (λ func c. subst (λ (f : Function). HaveOwnReturns (with_edge_blocks f))
      (sym ((sources_built l low r.answers).coroutines func c).function) (own_returns l low func c))
      (most_names l.source.functions)
      (most_operands_of_functions l.source.functions + most_phis_of_functions l.source.functions) numbers s
      (comes s.top.result s.below (called l low few a anew r call n).below)

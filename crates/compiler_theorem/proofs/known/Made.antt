-- Allocas in a run of an accepted source: those that are made anew have addresses, and where one stands its name has no
-- value yet.
use Rattle.std.proofs.Common.{◌≡◌, ⊎_elim, ℕ, ◌<◌, ◌≤◌, sym, ap, subst, arith}
use Rattle.compiler_theorem.proofs.kinds.States.{called_beside}
use Rattle.compiler_theorem.proofs.known.Runs.{made_anew, run}
use Rattle.compiler_theorem.proofs.theorem.Renewing.{slots_kept}
use Rattle.compiler_theorem.specs.theorem.Anew.{Anew, IsAnewOf}
use Rattle.compiler_theorem.specs.theorem.Asked.{asking}
use Rattle.compiler_theorem.specs.theorem.Between.{renewing}
use Rattle.compiler_theorem.specs.theorem.Entries.{IsEntryCall, Run}
use Rattle.compiler_theorem.specs.theorem.Lowered.{HasFewBytes, IsLowered, Lowered, early, edged, sizes_of}
use Rattle.compiler.specs.ir_base.declared.outcome.Outcome.{Outcome}
use Rattle.compiler.specs.ir_model.Names.{function_at}
use Rattle.compiler.specs.ir_model.Ty.{Ty}
use Rattle.compiler.specs.ir_model.declared.instr.Instr.{Instr}
use Rattle.pass_frames_meaning.specs.Executed.{IsFirstMode}
use Rattle.pass_frames_meaning.specs.Kinds.{AreSlotsMade}
use Rattle.pass_frames_meaning.specs.pass_renewed_proof.Beside.{IsBeside}
use Rattle.pass_frames_meaning.specs.pass_renewed_proof.SlotRules.{IsMadeOnce}
use Rattle.pass_frames_meaning.specs.pass_renewed_proof.Steps.{given_at}
use Rattle.run_accepted.proofs.Accepted.{edged_alive}
use Rattle.compiler.specs.run_memory.declared.pointer.Value.{Value}
use Rattle.compiler.specs.run_source.State.{function_of}
use Rattle.compiler.specs.run_source.declared.state.State.{State}
use Rattle.compiler.specs.run_step.Step.{AtInstr, fetch}
use Rattle.compiler.specs.run_step.Values.{value_in}

module _ (l : Lowered) (low : IsLowered l) (few : HasFewBytes l) (a : Anew) (anew : IsAnewOf (early l) a) (r : Run)
    (entered : IsEntryCall l.source r) (n : ℕ) where
  abbrev s : State
  s = run l low few a anew r entered n

  pub slots_made : (run l low few a anew r entered n).outcome ≡ Outcome.Running
      → AreSlotsMade (asking l low a r) (run l low few a anew r entered n)
  slots_made runs = record {
    each = λ v at align ty there flag behind.
        let made : IsMadeOnce (function_at (edged l) s.top.func) v =
        ((slots_kept l low a anew r entered few).each s.top.func).made v flag in
        let same : at ≡ made.at = (made.alone 0 at (ap given_at there)).1 in
        (made_anew l low few a anew r entered n runs).0.made v flag made
        (λ entry_block. subst (λ (k : ℕ). k < s.top.at) same (behind entry_block));
  }

  first_there : (v : State) → IsBeside (edged l) a.flags a.roots v s → s.top.block ≡ 0 → IsFirstMode s.top.mode
  first_there v beside entry_block = ⊎_elim
      (λ plain. subst IsFirstMode (sym plain) tt)
      (λ ramp. subst IsFirstMode (sym ramp) tt)
      (called_beside l low few a anew v s beside entry_block)

  same_low : (x y : ℕ) → x ≡ y → x ≤ y
  same_low x y same = omega (arith, same)

  pub poison_there : (run l low few a anew r entered n).outcome ≡ Outcome.Running → (v : State)
      → IsBeside (edged l) a.flags a.roots v (run l low few a anew r entered n) → (name : ℕ) (ty : Ty) (align : ℕ)
      → fetch (function_of (renewing l a r).given (run l low few a anew r entered n))
      (run l low few a anew r entered n).top.block (run l low few a anew r entered n).top.at
      ≡ AtInstr (Instr.Alloca name ty align)
      → value_in (run l low few a anew r entered n).top.values name ≡ Value.Poison
  poison_there runs v beside name ty align there =
      let rules = edged_alive l.text l.source low.source.stands low.source.accepted (sizes_of l) r.answers s.top.func in
      let made : IsMadeOnce (function_at (edged l) s.top.func) name =
      rules.made name ty align s.top.block s.top.at there in
      let here = made.alone s.top.block s.top.at (ap given_at there) in
      (made_anew l low few a anew r entered n runs).0.unmade (first_there v beside here.0) name made here.0
      (same_low s.top.at made.at here.1)

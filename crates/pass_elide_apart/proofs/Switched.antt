-- The switch behind a suspend leads to the labels of 0 and 1.
use Rattle.std.proofs.Common.{◌≡◌, ◌∙◌, ◌+◌, ℕ, true, List, length, ap, refl, sym, subst}
use Rattle.std.specs.Prelude.{None, Option, Some, slice_get}
use Rattle.pass_elide_apart.specs.Behind.{IsBehindSuspend, LeadsBehind, SleepBehind}
use Rattle.pass_elide_edges.proofs.pass_elide_proof.EdgeEntered.{end_at, term_end}
use Rattle.pass_elide_edges.proofs.pass_elide_proof.GoesOn.{instr_there}
use Rattle.pass_elide_edges.specs.pass_elide_proof.Places.{instrs_in, instrs_of}
use Rattle.pass_elide_runs.proofs.Led.{sound_there}
use Rattle.pass_elide_runs.proofs.Paths.{name_listed}
use Rattle.pass_elide_edges.specs.pass_elide_proof.pass_proofs.edges.rules.Returns.{AreSwitched}
use Rattle.pass_elide_edges.specs.pass_elide_proof.pass_proofs.flow_solver.Paths.{IsListed}
use Rattle.pass_elide_edges.specs.pass_elide_proof.pass_proofs.ir_model.Names.{function_at, same_intrinsic}
use Rattle.pass_elide_edges.specs.pass_elide_proof.pass_proofs.ir_model.declared.instr.Case.{Case}
use Rattle.pass_elide_edges.specs.pass_elide_proof.pass_proofs.ir_model.declared.instr.Instr.{Instr}
use Rattle.pass_elide_edges.specs.pass_elide_proof.pass_proofs.ir_model.declared.instr.Terminator.{Terminator}
use Rattle.pass_elide_edges.specs.pass_elide_proof.pass_proofs.ir_model.declared.module.Block.{Block}
use Rattle.pass_elide_edges.specs.pass_elide_proof.pass_proofs.ir_model.declared.module.Function.{Function}
use Rattle.pass_elide_edges.specs.pass_elide_proof.pass_proofs.ir_model.declared.operand.Arg.{Arg}
use Rattle.pass_elide_edges.specs.pass_elide_proof.pass_proofs.ir_model.declared.operand.Callee.{Callee}
use Rattle.pass_elide_edges.specs.pass_elide_proof.pass_proofs.ir_model.declared.operand.Intrinsic.{Intrinsic}
use Rattle.pass_elide_edges.specs.pass_elide_proof.pass_proofs.ir_paths.Paths.{targets}
use Rattle.pass_elide_edges.specs.pass_elide_proof.pass_proofs.ir_paths.Windows.{destroy_label, is_call_of, resume_label}
use Rattle.pass_elide_edges.specs.pass_elide_proof.pass_proofs.ir_paths.declared.point.Point.{Point}
use Rattle.pass_elide_edges.specs.pass_elide_proof.pass_proofs.pass_edges.Edges.{is_suspend}
use Rattle.pass_elide_edges.specs.pass_elide_proof.pass_proofs.pass_kept_proof.Needed.{IsReached}
use Rattle.pass_elide_edges.specs.pass_elide_proof.pass_proofs.pass_kept_proof.Related.{IsSoundStatus}
use Rattle.pass_elide_edges.specs.pass_elide_proof.pass_proofs.pass_kept_proof.SuspendRules.{IsCallAt, IsSwitched}
use Rattle.pass_elide_edges.specs.pass_elide_proof.pass_proofs.run_source.declared.state.State.{State}
use Rattle.pass_elide_edges.specs.pass_elide_proof.pass_proofs.run_source_tables.Given.{Given}
use Rattle.pass_elide_edges.specs.pass_elide_proof.pass_proofs.run_step.Step.{AtTerm, fetch}
use Rattle.run_hooks.specs.Reached.{AllHaveSwitches, HasSwitches, IsReachedState}

is_suspend_too : (i : Instr) → is_call_of Intrinsic.CoroSuspend i ≡ true → is_suspend i ≡ true
is_suspend_too (Instr.Call result must_tail ty (Callee.Intrinsic j) args) h =
    ap (λ (k : Intrinsic). is_suspend (Instr.Call result must_tail ty (Callee.Intrinsic k) args)) (suspend_is j h)
  where
    suspend_is : (j : Intrinsic) → same_intrinsic Intrinsic.CoroSuspend j ≡ true → j ≡ Intrinsic.CoroSuspend
    suspend_is Intrinsic.CoroSuspend h = refl
    suspend_is _ h = absurd (cc)
is_suspend_too _ h = absurd (cc)

-- a terminator is a switch
record IsSwitch (term : Terminator) : Type 0 where
  arg : Arg
  default : ℕ
  cases : List Case
  is : term ≡ Terminator.Switch arg default cases

module _ (f : Function) (p : Point) (switches : HasSwitches f) (switched : AreSwitched f)
    (reached : IsReached f p.block p.at) (c : IsCallAt Intrinsic.CoroSuspend f p) where
  behind : IsSwitched f p
  behind = switches.switched p c

  ends : p.at + 1 ≡ length (instrs_of f p.block)
  ends = end_at f p.block (p.at + 1) behind.term behind.stands

  stands : fetch f p.block (length (instrs_of f p.block)) ≡ AtTerm behind.term
  stands = (λ j. fetch f p.block (sym ends j)) ∙ behind.stands

  switch : IsSwitch behind.term
  switch = by (slice_get f.blocks p.block) refl (instr_there f p.block p.at c.instr c.stands)
    where
      by : (o : Option Block) → slice_get f.blocks p.block ≡ o → slice_get (instrs_in o) p.at ≡ Some c.instr
          → IsSwitch behind.term
      by None eo there = absurd (cc)
      by (Some b) eo there =
          let k = switched p.block p.at b c.instr eo there (is_suspend_too c.instr c.is) in
          let q = term_end f p.block (p.at + 1) behind.term behind.stands in
          let same : b ≡ q.own = same_block b q.own (sym eo ∙ q.there) in
          record {
            arg = k.arg;
            default = k.default;
            cases = k.cases;
            is = sym q.is ∙ (ap (λ (z : Block). z.term) (sym same) ∙ k.is);
          }
        where
          same_block : (x y : Block) → Some x ≡ Some y → x ≡ y
          same_block x y h = cc

  leads_to_label : (label : ℕ) → IsListed label (targets behind.term) → IsBehindSuspend f p.block label
  leads_to_label label listed = record {
    at = p.at;
    reached = reached;
    suspends = c;
    last = ends;
    edge = record { term = behind.term; stands = stands; leads = listed };
    arg = switch.arg;
    default = switch.default;
    cases = switch.cases;
    is = switch.is;
  }

  pub leads_behind : LeadsBehind f p
  leads_behind = record {
    resume = leads_to_label (resume_label f p)
        (name_listed (resume_label f p) (targets behind.term) behind.to_resume);
    destroy = leads_to_label (destroy_label f p)
        (name_listed (destroy_label f p) (targets behind.term) behind.to_destroy);
  }

-- an instance is suspended at a suspend
pub sleeps_behind : (g : Given) (s : State) → AllHaveSwitches g.code
    → ((func : ℕ) → AreSwitched (function_at g.code func)) → IsReachedState g s → SleepBehind g.code s
sleeps_behind g s switches switched h i x p values there status =
    let sound = subst (IsSoundStatus g x.coroutine) status (sound_there g s.instances h.instances i x there) in
    leads_behind (function_at g.code x.coroutine) p (switches x.coroutine) (switched x.coroutine) sound.0 sound.1

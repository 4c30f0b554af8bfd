-- A resume that transfers, and one in any kind of part.
use Rattle.std.proofs.Common.{◌≡◌, ℕ, ◌+◌, ◌⊎◌, inl, inr, true, List, [], ◌∷◌, refl, sym, ap, ◌∙◌}
use Rattle.std.specs.Prelude.{Some, slice_get}
use Rattle.std.proofs.lemmas.Bool.{false≢true}
use Rattle.pass_proofs.specs.ir_base.declared.outcome.Outcome.{Outcome}
use Rattle.pass_proofs.specs.ir_model.Names.{position_of}
use Rattle.pass_proofs.specs.ir_model.declared.instr.Instr.{Instr}
use Rattle.pass_proofs.specs.ir_model.declared.instr.Phi.{Phi}
use Rattle.pass_proofs.specs.ir_model.declared.instr.Terminator.{Terminator}
use Rattle.pass_proofs.specs.ir_model.declared.module.Function.{Function}
use Rattle.pass_proofs.specs.ir_model.declared.operand.Callee.{Callee}
use Rattle.pass_proofs.specs.ir_model.declared.operand.Intrinsic.{Intrinsic}
use Rattle.pass_proofs.specs.pass_intrinsics.Cuts.{cut_at, goes_on, next_suspend, token_in}
use Rattle.pass_proofs.specs.pass_intrinsics.Lowered.{number_of_save}
use Rattle.pass_proofs.specs.pass_intrinsics.Shapes.{pass_label}
use Rattle.pass_proofs.specs.pass_intrinsics.declared.cuts.Cut.{Cut}
use Rattle.pass_proofs.specs.pass_intrinsics.declared.shape.Part.{Part}
use Rattle.pass_proofs.specs.pass_intrinsics.declared.shape.Shape.{Shape}
use Rattle.pass_split_proof.proofs.places.Coded.{has_code}
use Rattle.pass_split_proof.proofs.places.Stops.{stop_there}
use Rattle.pass_split_proof.proofs.places.Transfers.{suspend_behind}
use Rattle.pass_split_proof.proofs.steps.Resuming.{passes_followed, stays_by_code}
use Rattle.pass_split_proof.proofs.steps.Settled.{plain_does}
use Rattle.pass_split_proof.proofs.waking.Cut.{begins_none, marks_transfers, resumed_mode, returns_transfers, stays_or, suspends_transfers, transfers_stays}
use Rattle.pass_split_proof.specs.places.Places.{BeginsAgain, HasCode, IsCode, IsCodeOf, IsStop, IsSuspendOf, Marks, OfCoroutine, OfPlain, Returns, Stays, Suspends, Transfers}
use Rattle.pass_split_proof.specs.simulation.Followed.{IsFollowed}
use Rattle.pass_split_proof.specs.states.Activations.{AtSuspend, IsLeaving}
use Rattle.pass_split_proof.specs.states.Going.{stands_at}
use Rattle.pass_split_proof.specs.states.Related.{AreRelated}
use Rattle.pass_split_proof.specs.steps.Resuming.{IsAtWaking}
use Rattle.pass_split_proof.specs.waking.Able.{CanBeResumed}
use Rattle.pass_proofs.specs.rule_shape.Suspends.{is_suspend}
use Rattle.pass_proofs.specs.run_agreement.Machines.{IsFine}
use Rattle.pass_proofs.specs.run_framed.Framed.{FramedGiven, framed_step}
use Rattle.pass_proofs.specs.run_laws.access.Lines.{StandAt}
use Rattle.run_access_worked.specs.run_plain.Plain.{PlainGiven, plain_function, plain_step, plain_work}
use Rattle.run_access_worked.specs.run_plain.declared.state.PlainState.{PlainState}
use Rattle.pass_proofs.specs.run_source.State.{function_of}
use Rattle.pass_proofs.specs.run_source.declared.state.State.{State}
use Rattle.pass_proofs.specs.run_step.Step.{AtInstr, AtTerm, GoTo, fetch, label_of, phi_values, phis_of, with_all}
use Rattle.pass_proofs.specs.run_step.Values.{arg_value}

-- a jump to a block without phis
pub jumps_bare : (h : PlainGiven) (t : PlainState) (label : ℕ) → t.outcome ≡ Outcome.Running
    → fetch (plain_function h t) t.top.block t.top.at ≡ AtTerm (Terminator.Jump label)
    → phis_of (slice_get (plain_function h t).blocks (position_of (plain_function h t) label)) ≡ []
    → plain_step h t ≡ stands_at t (position_of (plain_function h t) label) 0 (plain_work t)
jumps_bare h t label running here bare =
    plain_does h t (AtTerm (Terminator.Jump label)) (GoTo label) running here refl
    ∙ ap (λ (ps : List Phi). stands_at t (position_of (plain_function h t) label) 0
    (record {
      world = t.world;
      values = with_all t.top.values (phi_values h.code t.top.values
          (label_of (slice_get (plain_function h t).blocks t.top.block)) ps);
    })) bare

-- a suspend in a coroutine's part stands last, and its switch goes to the end
pub stop_of : (f q : Function) (sh : Shape) (part : Part) → IsCodeOf f q sh part → goes_on part ≡ true
    → (block at : ℕ) (i : Instr) → fetch f block at ≡ AtInstr i → is_suspend i ≡ true → IsStop f block at i sh.end
stop_of f q _ _ (OfCoroutine m k layout begin part x is) goes block at i here e
    = stop_there m k f begin x layout block at i here e
stop_of f q _ _ (OfPlain m k plain keeps is) goes block at i here e = absurd (false≢true goes)

module _ (g : FramedGiven) (h : PlainGiven) (s : State) (t : PlainState) (r : AreRelated g h s t)
    (k : IsAtWaking g h s t r Intrinsic.CoroResume) (fine : IsFine (framed_step g s).outcome)
    (can : CanBeResumed g h s t (arg_value g.given.code s.top.values k.arg)) where
  abbrev f : Function
  f = function_of g.given s

  abbrev q : Function
  q = plain_function h t

  abbrev here : Instr
  here = Instr.Call k.result k.must_tail k.ty (Callee.Intrinsic Intrinsic.CoroResume) (k.arg ∷ k.rest)

  code : HasCode r.top.shape r.top.part f q s.top.block s.top.at t.top.block t.top.at here
  code = has_code r.top.shape r.top.part f q s.top.block s.top.at t.top.block t.top.at here k.place k.there

  -- behind a transfer the framed run comes to its suspend
  leaving : (j : ℕ) (after : List Instr) → StandAt f s.top.block s.top.at (here ∷ after)
      → cut_at r.top.shape r.top.part here after ≡ Cut.Transfers j → goes_on r.top.part ≡ true
      → IsLeaving f r.top.shape.end (record s.top { at = s.top.at + 1 })
  leaving j after stand e goes = on
      (suspend_behind r.top.shape r.top.part f s.top.block s.top.at j here after stand e)
    where
      on : IsSuspendOf r.top.shape f s.top.block (s.top.at + 1) j
          → IsLeaving f r.top.shape.end (record s.top { at = s.top.at + 1 })
      on y = AtSuspend y.suspend y.here y.suspends
          (stop_of f q r.top.shape r.top.part r.top.coded goes s.top.block (s.top.at + 1) y.suspend y.here y.suspends)

  -- the suspend has the transfer's number
  names : (j : ℕ) (after : List Instr) → StandAt f s.top.block s.top.at (here ∷ after)
      → cut_at r.top.shape r.top.part here after ≡ Cut.Transfers j → (i : Instr)
      → fetch f s.top.block (s.top.at + 1) ≡ AtInstr i → is_suspend i ≡ true
      → number_of_save r.top.shape (token_in i) ≡ Some j
  names j after stand e i there is =
      let y = suspend_behind r.top.shape r.top.part f s.top.block s.top.at j here after stand e in
      ap (λ (u : Instr). number_of_save r.top.shape (token_in u)) (same (sym there ∙ y.here)) ∙ y.number
    where
      same : {u v : Instr} → AtInstr u ≡ AtInstr v → u ≡ v
      same e = cc

  transferring : (j : ℕ) (after : List Instr) (term : Terminator) → StandAt f s.top.block s.top.at (here ∷ after)
      → goes_on r.top.part ≡ true → cut_at r.top.shape r.top.part here after ≡ Cut.Transfers j
      → IsCode r.top.shape r.top.part f q s.top.block s.top.at t.top.block t.top.at here after term
      → IsFollowed g h s t
  transferring j after term here_on goes e (Stays n begins cut new stand place)
      = absurd (transfers_stays j (sym e ∙ cut))
  transferring j after term here_on goes e (Marks n mark begins cut new remain bare place)
      = absurd (marks_transfers mark j (sym cut ∙ e))
  transferring j after term here_on goes e (Suspends begins cut jump) = absurd (suspends_transfers j (sym cut ∙ e))
  transferring j after term here_on goes e (Returns begins cut ret) = absurd (returns_transfers j (sym cut ∙ e))
  transferring j after term here_on goes e (Transfers n number begins cut new jump bare remain)
      = passes_followed g h s t r k fine can (position_of q (pass_label r.top.shape number)) n new
      (jumps_bare h t (pass_label r.top.shape number) (r.outcome ∙ k.running) jump bare) remain.stand
      (record {
        number = number;
        stands = refl;
        returns = remain.ends;
        suspends = names number after here_on cut;
      })
      (leaving j after here_on e goes)
      (resumed_mode s.top.mode r.top.part r.top.runs goes k.settled)
  transferring j after term here_on goes e (BeginsAgain begins jump)
      = absurd (false≢true (sym (begins_none r.top.part) ∙ begins))

  by_cut : ((cut_at r.top.shape r.top.part here code.after ≡ Cut.Stays)
      ⊎ ((j : ℕ) × ((cut_at r.top.shape r.top.part here code.after ≡ Cut.Transfers j) × (goes_on r.top.part ≡ true))))
      → IsFollowed g h s t
  by_cut (inl e) = stays_by_code g h s t r k fine can code.after code.end e code.code
  by_cut (inr (j, (e, goes))) = transferring j code.after code.end code.remain.stand goes e code.code

  pub resumes_followed : IsFollowed g h s t
  resumes_followed = by_cut (stays_or r.top.part (next_suspend r.top.shape code.after)
      (cut_at r.top.shape r.top.part here code.after) refl)

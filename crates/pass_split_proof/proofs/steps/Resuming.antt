-- A resume is followed in a part: where the part goes on behind it, and where it returns.
use Rattle.std.proofs.Common.{◌≡◌, ℕ, zero, suc, ◌+◌, ◌<◌, ◌≤◌, ◌^◌, Bool, false, List, ◌∷◌, length, None, Some, Ok, refl, sym, ap, ◌∙◌, subst, arith, if◌then◌else◌}
use Rattle.std.proofs.lemmas.Bool.{false≢true}
use Rattle.pass_proofs.specs.ir_base.declared.outcome.Outcome.{Outcome}
use Rattle.pass_proofs.specs.ir_model.Names.{function_at}
use Rattle.pass_proofs.specs.ir_model.declared.instr.Instr.{Instr}
use Rattle.pass_proofs.specs.ir_model.declared.instr.Terminator.{Terminator}
use Rattle.pass_proofs.specs.ir_model.declared.module.Function.{Function}
use Rattle.pass_proofs.specs.ir_model.declared.operand.Callee.{Callee}
use Rattle.pass_proofs.specs.ir_model.declared.operand.Intrinsic.{Intrinsic}
use Rattle.pass_proofs.specs.ir_paths.Windows.{resume_label}
use Rattle.pass_proofs.specs.pass_intrinsics.Cuts.{cut_at, goes_on, next_suspend, transfers}
use Rattle.pass_proofs.specs.pass_intrinsics.Lowered.{load_pointer, resume_call}
use Rattle.pass_proofs.specs.pass_intrinsics.Shapes.{given_name}
use Rattle.pass_proofs.specs.pass_intrinsics.declared.cuts.Cut.{Cut}
use Rattle.pass_proofs.specs.pass_intrinsics.declared.shape.Part.{Part}
use Rattle.pass_split_proof.proofs.places.Coded.{has_code}
use Rattle.pass_split_proof.proofs.simulation.Knowing.{new_kept}
use Rattle.pass_split_proof.proofs.steps.Calling.{resume_calls, resume_quiet}
use Rattle.pass_split_proof.proofs.steps.Followed.{fine_ok, framed_does}
use Rattle.pass_split_proof.proofs.steps.Saves.{values_extra}
use Rattle.pass_split_proof.proofs.steps.Waking.{index_inside}
use Rattle.pass_split_proof.proofs.steps.Woken.{resume_goes}
use Rattle.pass_split_proof.proofs.steps.WokenStates.{woken_followed}
use Rattle.pass_split_proof.proofs.waking.Addressed.{leads}
use Rattle.pass_split_proof.proofs.waking.Cut.{begins_none, marks_stays, returns_stays, suspends_stays, transfers_stays}
use Rattle.pass_split_proof.specs.places.Places.{AreNew, IsPlace, BeginsAgain, HasCode, IsCode, Marks, Returns, Stays, Suspends, Transfers}
use Rattle.pass_split_proof.specs.simulation.Followed.{IsFollowed}
use Rattle.pass_split_proof.specs.states.Activations.{Inside, IsBehind, IsBehindTransfer, IsLeaving, IsPlaced, Passed}
use Rattle.pass_split_proof.specs.states.Going.{placed_at, stands_at}
use Rattle.pass_split_proof.specs.states.Instances.{part_position, address_of_part, resumer_of, shape_at}
use Rattle.pass_split_proof.specs.states.Memories.{homes_of}
use Rattle.pass_split_proof.specs.states.Related.{AreRelated, fetched_at, weight}
use Rattle.pass_split_proof.specs.states.Values.{AreValuesOf}
use Rattle.pass_split_proof.specs.steps.Called.{HasCalled}
use Rattle.pass_split_proof.specs.steps.Calling.{IsCallable, calling}
use Rattle.pass_split_proof.specs.steps.Resuming.{CanWake, IsAtWaking}
use Rattle.pass_split_proof.specs.steps.Woken.{IsWoken}
use Rattle.pass_proofs.specs.pass_split.Pieces.{begins_again}
use Rattle.pass_proofs.proofs.run_agreement.Runs.{iterate-add}
use Rattle.pass_proofs.specs.run_agreement.Machines.{iterate, IsFine}
use Rattle.pass_proofs.specs.run_framed.Framed.{FramedGiven, continue_framed, framed_step}
use Rattle.pass_proofs.proofs.run_laws.transfer.Sets.{set_elsewhere, set_length}
use Rattle.pass_proofs.specs.run_laws.access.Lines.{Holds, StandAt}
use Rattle.pass_proofs.specs.run_memory.Memory.{encode, owner_rights}
use Rattle.pass_proofs.specs.run_memory.declared.pointer.Pointer.{Pointer}
use Rattle.pass_proofs.specs.run_memory.declared.pointer.Value.{Value}
use Rattle.run_access_worked.specs.run_plain.Plain.{PlainGiven, counted, plain_function, plain_step, plain_work}
use Rattle.run_access_worked.specs.run_plain.declared.state.PlainState.{PlainState}
use Rattle.pass_proofs.specs.run_source.Source.{resume}
use Rattle.pass_proofs.specs.run_source.State.{function_of, or_undefined}
use Rattle.pass_proofs.specs.run_source.declared.state.Instance.{Instance}
use Rattle.pass_proofs.specs.run_source.declared.state.Mode.{Mode}
use Rattle.pass_proofs.specs.run_source.declared.state.State.{State}
use Rattle.pass_proofs.specs.run_source_tables.Given.{is_final}
use Rattle.pass_proofs.specs.run_step.Step.{AtInstr, AtTerm, Coro, fetch}
use Rattle.pass_proofs.specs.run_step.Values.{Env, arg_value, value_in, with_value}

module _ (g : FramedGiven) (h : PlainGiven) (s : State) (t : PlainState) (r : AreRelated g h s t)
    (k : IsAtWaking g h s t r Intrinsic.CoroResume) where
  abbrev f : Function
  f = function_of g.given s

  abbrev q : Function
  q = plain_function h t

  abbrev here : Instr
  here = Instr.Call k.result k.must_tail k.ty (Callee.Intrinsic Intrinsic.CoroResume) (k.arg ∷ k.rest)

  -- the address
  abbrev p : Value
  p = arg_value g.given.code s.top.values k.arg

  does : framed_step g s ≡ or_undefined g.given s (resume g.given (continue_framed g) s p)
  does = framed_does g s (AtInstr here) (Coro Intrinsic.CoroResume
      (k.arg ∷ k.rest) k.result) k.running k.there refl refl

  pub heavy : weight (fetched_at g s) ≡ 4
  heavy = ap weight k.there

  pub behind : IsBehind f false (record s.top { at = s.top.at + 1 })
  behind = record { before = s.top.at; at = refl; instr = here; there = k.there; is = refl }

  -- ---- how the part is cut there

  not_again : (part : Part) → begins_again part here ≡ false
  not_again = begins_none

  -- ---- the call

  module _ (w : IsWoken s p) (can : CanWake g h s t p w Part.Resume
      (resume_label (function_at g.given.code w.instance.coroutine) w.suspend))
      (stored : Holds owner_rights t.world.memory w.instance.block (w.instance.start + 0) 8
      (encode 8 (Value.Ptr (Pointer.Func (part_position g w.instance.coroutine Part.Resume)))))
      (low : w.instance.block < length s.world.memory) (small : w.instance.start < 2 ^ 64) where
    abbrev x : Instance
    x = w.instance

    abbrev func : ℕ
    func = part_position g x.coroutine Part.Resume

    abbrev callee : Value
    callee = Value.Ptr (Pointer.Func func)

    -- from a place at which the line stands
    module _ (block at n : ℕ) (new : AreNew f q n 1) (line : StandAt q block at (resume_call n k.arg.value)) where
      abbrev at_line : PlainState
      at_line = stands_at t block at (plain_work t)

      abbrev after : Env
      after = with_value t.top.values n callee

      callable : IsCallable h at_line k.arg.value n 1 x.block x.start 0 func
      callable = record {
        running = r.outcome ∙ k.running;
        takes = can.takes;
        leads = leads g h s t r Intrinsic.CoroResume k x w.address small low;
        local = λ v e. below v n (length f.names) (k.known v e) new.low;
        room = room n (length q.names) (length t.top.values) new.high (sym r.top.room);
        stored = stored;
      }
        where
          below : (v n l : ℕ) → v < l → l ≤ n → v < n
          below v n l lt le = omega arith

          room : (n l e : ℕ) → n + 1 ≤ l → l ≡ e → n + 1 < e + 1
          room n l e le same = omega arith

      comes : iterate (plain_step h) 2 at_line ≡ counted h func (calling h at_line func x.block x.start (at + 1 + 1)
          after)
      comes = resume_calls h at_line k.arg.value n x.block x.start func callable line

      quiet : (i : ℕ) → i < 2 → ((iterate (plain_step h) i at_line).outcome ≡ Outcome.Running)
          × ((iterate (plain_step h) i at_line).world ≡ t.world)
      quiet = resume_quiet h at_line k.arg.value n x.block x.start func callable line

      kept : AreValuesOf f (homes_of s.world.memory) s.top.values after
      kept = values_extra f (homes_of s.world.memory) s.top.values t.top.values n callee
          (subst (λ (l : ℕ). l ≤ n) (sym r.top.whole) new.low) r.top.values

      begin_stays : (i : ℕ) → s.top.instance ≡ Some i
          → value_in after r.top.shape.begin ≡ value_in t.top.values r.top.shape.begin
      begin_stays i own = set_elsewhere t.top.values n r.top.shape.begin callee
          (λ e. other n (length f.names) r.top.shape.begin new.low (k.begin i own) e)
        where
          other : (n l b : ℕ) → l ≤ n → b < l → n ≡ b → ⊥
          other n l b le lt e = omega arith

      given_stays : (frame : Value) → s.top.mode ≡ Mode.GivenRamp frame → value_in after (given_name (shape_at
          g s.top.func))
          ≡ value_in t.top.values (given_name (shape_at g s.top.func))
      given_stays = new_kept g h s t r t.top.values callee block at (load_pointer n k.arg.value) line.0 n refl

    -- it stays: the part goes on behind the call
    pub staying : (n : ℕ) → AreNew f q n 1 → StandAt q t.top.block t.top.at (resume_call n k.arg.value)
        → IsPlace r.top.shape r.top.part f q s.top.block (s.top.at + 1) t.top.block (t.top.at + 2)
        → HasCalled g h s t r w.instance Part.Resume
    staying n new line place = record {
      calls = 2;
      few = omega arith;
      some = omega arith;
      piece = t.top.block;
      offset = t.top.at + 1 + 1;
      values = after t.top.block t.top.at n new line;
      comes = comes t.top.block t.top.at n new line;
      quiet = quiet t.top.block t.top.at n new line;
      kept = kept t.top.block t.top.at n new line;
      long = set_length t.top.values n callee;
      begin = begin_stays t.top.block t.top.at n new line;
      given = given_stays t.top.block t.top.at n new line;
      waiting = Inside s.top.mode k.settled (subst (λ (o : ℕ). IsPlace r.top.shape r.top.part f q s.top.block
          (s.top.at + 1) t.top.block o) (two_more t.top.at) place);
      behind = behind;
    }
      where
        two_more : (n : ℕ) → n + 2 ≡ n + 1 + 1
        two_more n = omega arith

    -- it transfers: the part jumps to the block from which it calls, and returns from there behind the call
    module _ (pass n : ℕ) (new : AreNew f q n 1) (jumps : plain_step h t ≡ stands_at t pass 0 (plain_work t))
        (line : StandAt q pass 0 (resume_call n k.arg.value)) where
      comes_passing : iterate (plain_step h) 3 t ≡ counted h func (calling h (at_line pass 0 n new line) func x.block
          x.start (0 + 1 + 1) (after pass 0 n new line))
      comes_passing = iterate-add (plain_step h) 1 2 t ∙ ap (iterate (plain_step h) 2) jumps ∙ comes pass 0 n new line

      quiet_passing : (i : ℕ) → i < 3 → ((iterate (plain_step h) i t).outcome ≡ Outcome.Running)
          × ((iterate (plain_step h) i t).world ≡ t.world)
      quiet_passing zero lt = (r.outcome ∙ k.running, refl)
      quiet_passing (suc i) lt = subst (λ (y : PlainState). (y.outcome ≡ Outcome.Running) × (y.world ≡ t.world))
          (sym (ap (λ (k : ℕ). iterate (plain_step h) k t) (one_more i) ∙ iterate-add (plain_step h) 1 i t
          ∙ ap (iterate (plain_step h) i) jumps)) (quiet pass 0 n new line i (one_less i lt))
        where
          one_more : (i : ℕ) → suc i ≡ 1 + i
          one_more i = omega arith

          one_less : (i : ℕ) → suc i < 3 → i < 2
          one_less i lt = omega arith

      pub passing : IsBehindTransfer r.top.shape f q s.top.block (s.top.at + 1) pass 2
          → IsLeaving f r.top.shape.end (record s.top { at = s.top.at + 1 }) → s.top.mode ≡ Mode.Resumed
          → HasCalled g h s t r w.instance Part.Resume
      passing waits leaving resumed = record {
        calls = 3;
        few = omega arith;
        some = omega arith;
        piece = pass;
        offset = 2;
        values = after pass 0 n new line;
        comes = comes_passing;
        quiet = quiet_passing;
        kept = kept pass 0 n new line;
        long = set_length t.top.values n callee;
        begin = begin_stays pass 0 n new line;
        given = given_stays pass 0 n new line;
        waiting = subst (λ (mode : Mode). IsPlaced r.top.shape r.top.part f q (record s.top { at = s.top.at + 1 })
            (placed_at t.top pass 2 (after pass 0 n new line)) mode) (sym resumed) (Passed waits leaving);
        behind = behind;
      }

  -- ---- the step

  module _ (fine : IsFine (framed_step g s).outcome)
      (can : (w : IsWoken s (arg_value g.given.code s.top.values k.arg))
      → is_final (function_at g.given.code w.instance.coroutine) w.suspend ≡ false
      → CanWake g h s t (arg_value g.given.code s.top.values k.arg) w Part.Resume
      (resume_label (function_at g.given.code w.instance.coroutine) w.suspend)) where
    next : (u : State) × (resume g.given (continue_framed g) s (arg_value g.given.code s.top.values k.arg) ≡ Ok u)
    next = fine_ok g.given s (resume g.given (continue_framed g) s p)
        (subst (λ (x : State). IsFine x.outcome) does fine)

    goes : (w : IsWoken s (arg_value g.given.code s.top.values k.arg))
        × ((is_final (function_at g.given.code w.instance.coroutine) w.suspend ≡ false)
        × (next.0 ≡ continue_framed g s w.number w.instance w.suspend w.values
        (resume_label (function_at g.given.code w.instance.coroutine) w.suspend)))
    goes = resume_goes g s next.0 p next.1

    abbrev w : IsWoken s p
    w = goes.0

    abbrev label : ℕ
    label = resume_label (function_at g.given.code w.instance.coroutine) w.suspend

    wakes : CanWake g h s t p w Part.Resume label
    wakes = can goes.0 goes.1.0

    is : framed_step g s ≡ continue_framed g s w.number w.instance w.suspend w.values label
    is = does ∙ ap (or_undefined g.given s) next.1 ∙ goes.1.1

    -- the header names the part that goes on
    resumes : resumer_of g w.instance.coroutine wakes.waking.saved.numbered.suspend
        ≡ address_of_part g w.instance.coroutine Part.Resume
    resumes = ap (λ (b : Bool). if b then Value.Ptr Pointer.Null
        else address_of_part g w.instance.coroutine Part.Resume) (wakes.waking.saved.numbered.final ∙ goes.1.0)

    stored : Holds owner_rights t.world.memory w.instance.block (w.instance.start + 0) 8
        (encode 8 (Value.Ptr (Pointer.Func (part_position g w.instance.coroutine Part.Resume))))
    stored = subst (λ (o : ℕ). Holds owner_rights t.world.memory w.instance.block o 8
        (encode 8 (Value.Ptr (Pointer.Func (part_position g w.instance.coroutine Part.Resume)))))
        (none_more w.instance.start)
        (subst (λ (v : Value). Holds owner_rights t.world.memory w.instance.block w.instance.start 8 (encode 8 v))
        resumes wakes.waking.saved.resumes)
      where
        none_more : (n : ℕ) → n ≡ n + 0
        none_more n = omega arith

    small_start : w.instance.start < 2 ^ 64
    small_start = small w.instance.start _ (index_inside g h s t r p w Part.Resume label wakes.waking)
      where
        small : (a b : ℕ) → a + b < 2 ^ 64 → a < 2 ^ 64
        small a b lt = omega arith

    pub stays_followed : (n : ℕ) → AreNew f q n 1 → StandAt q t.top.block t.top.at (resume_call n k.arg.value)
        → IsPlace r.top.shape r.top.part f q s.top.block (s.top.at + 1) t.top.block (t.top.at + 2)
        → IsFollowed g h s t
    stays_followed n new line place
        = woken_followed g h s t r k.running k.settled p w Part.Resume label wakes.waking is
        heavy wakes.ends
        (staying w wakes stored (r.frames.laid.known w.number w.instance w.there) small_start n new line place)
        (λ some. absurd (false≢true some))

    pub passes_followed : (pass n : ℕ) → AreNew f q n 1 → plain_step h t ≡ stands_at t pass 0 (plain_work t)
        → StandAt q pass 0 (resume_call n k.arg.value)
        → IsBehindTransfer r.top.shape f q s.top.block (s.top.at + 1) pass 2
        → IsLeaving f r.top.shape.end (record s.top { at = s.top.at + 1 }) → s.top.mode ≡ Mode.Resumed
        → IsFollowed g h s t
    passes_followed pass n new jumps line waits leaving resumed = woken_followed g h s t r k.running k.settled p w
        Part.Resume label wakes.waking is heavy wakes.ends
        (passing w wakes stored (r.frames.laid.known w.number w.instance w.there) small_start pass n new jumps
        line waits leaving resumed) (λ some. absurd (false≢true some))

    -- by the code that stands there
    code : HasCode r.top.shape r.top.part f q s.top.block s.top.at t.top.block t.top.at here
    code = has_code r.top.shape r.top.part f q s.top.block s.top.at t.top.block t.top.at here k.place k.there

    pub stays_by_code : (after : List Instr) (term : Terminator)
        → cut_at r.top.shape r.top.part here after ≡ Cut.Stays
        → IsCode r.top.shape r.top.part f q s.top.block s.top.at t.top.block t.top.at here after term
        → IsFollowed g h s t
    stays_by_code behind_it term e (Stays n begins cut new stand place) = stays_followed n new stand place
    stays_by_code behind_it term e (Marks n mark begins cut new remain bare place)
        = absurd (marks_stays mark (sym cut ∙ e))
    stays_by_code behind_it term e (Suspends begins cut jump) = absurd (suspends_stays (sym cut ∙ e))
    stays_by_code behind_it term e (Returns begins cut ret) = absurd (returns_stays (sym cut ∙ e))
    stays_by_code behind_it term e (Transfers n j begins cut new jump bare remain)
        = absurd (transfers_stays j (sym cut ∙ e))
    stays_by_code behind_it term e (BeginsAgain begins jump)
        = absurd (false≢true (sym (not_again r.top.part) ∙ begins))

    -- a ramp, or a function that is no coroutine, has no transfers
    pub ramp_followed : goes_on r.top.part ≡ false → IsFollowed g h s t
    ramp_followed ramp = stays_by_code code.after code.end
        (ap (λ (b : Bool). if b then transfers (next_suspend r.top.shape code.after) else Cut.Stays) ramp) code.code

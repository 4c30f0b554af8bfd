-- A destroy is followed in a part: it calls the part that the header names.
use Rattle.std.proofs.Common.{◌≡◌, ℕ, ◌+◌, ◌<◌, ◌≤◌, ◌^◌, false, List, ◌∷◌, length, Ok, Some, refl, sym, ap, ◌∙◌, subst, arith}
use Rattle.std.proofs.lemmas.Bool.{false≢true}
use Rattle.std.specs.Prelude.{pos}
use Rattle.pass_proofs.specs.ir_model.Names.{function_at}
use Rattle.pass_proofs.specs.ir_model.declared.instr.Instr.{Instr}
use Rattle.pass_proofs.specs.ir_model.declared.instr.Terminator.{Terminator}
use Rattle.pass_proofs.specs.ir_model.declared.module.Function.{Function}
use Rattle.pass_proofs.specs.ir_model.declared.operand.Callee.{Callee}
use Rattle.pass_proofs.specs.ir_model.declared.operand.Intrinsic.{Intrinsic}
use Rattle.pass_proofs.specs.ir_paths.Windows.{destroy_label}
use Rattle.pass_proofs.specs.pass_intrinsics.Cuts.{cut_at}
use Rattle.pass_proofs.specs.ir_model.declared.operand.Operand.{Operand}
use Rattle.pass_proofs.specs.pass_intrinsics.Lowered.{address, destroy_call, load_pointer}
use Rattle.pass_proofs.specs.pass_intrinsics.declared.cuts.Cut.{Cut}
use Rattle.pass_proofs.specs.pass_intrinsics.declared.shape.Part.{Part}
use Rattle.pass_split_proof.proofs.places.Coded.{has_code}
use Rattle.pass_split_proof.proofs.simulation.Knowing.{new_kept}
use Rattle.pass_split_proof.proofs.steps.Calling.{destroy_calls, destroy_quiet}
use Rattle.pass_split_proof.proofs.steps.Followed.{fine_ok, framed_does}
use Rattle.pass_split_proof.proofs.steps.Saves.{values_extra}
use Rattle.pass_split_proof.proofs.steps.Waking.{index_inside}
use Rattle.pass_split_proof.proofs.steps.Woken.{destroy_goes}
use Rattle.pass_split_proof.proofs.steps.WokenStates.{woken_followed}
use Rattle.pass_split_proof.proofs.waking.Addressed.{leads}
use Rattle.pass_split_proof.proofs.waking.Cut.{begins_none, marks_stays, returns_stays, suspends_stays, transfers_stays}
use Rattle.pass_split_proof.specs.places.Places.{AreNew, BeginsAgain, HasCode, IsCode, IsPlace, Marks, Returns, Stays, Suspends, Transfers}
use Rattle.pass_split_proof.specs.simulation.Followed.{IsFollowed}
use Rattle.pass_split_proof.specs.states.Activations.{Inside, IsBehind}
use Rattle.pass_split_proof.specs.states.Instances.{IsHeadedIn, part_position}
use Rattle.pass_split_proof.specs.states.Memories.{homes_of}
use Rattle.pass_split_proof.specs.states.Related.{AreRelated, fetched_at, weight}
use Rattle.pass_split_proof.specs.states.Values.{AreValuesOf}
use Rattle.pass_split_proof.specs.steps.Called.{HasCalled}
use Rattle.pass_split_proof.specs.steps.Calling.{IsCallable, TakesPointer}
use Rattle.pass_split_proof.specs.steps.Resuming.{CanWake, IsAtWaking}
use Rattle.pass_split_proof.specs.steps.Woken.{IsWoken}
use Rattle.pass_split_proof.specs.waking.Able.{CanBeDestroyed}
use Rattle.pass_proofs.specs.run_agreement.Machines.{IsFine}
use Rattle.pass_proofs.specs.run_framed.Framed.{FramedGiven, continue_framed, framed_step}
use Rattle.pass_proofs.proofs.run_laws.transfer.Sets.{set_elsewhere, set_length}
use Rattle.pass_proofs.specs.run_laws.access.Lines.{Holds, StandAt, pointer_at}
use Rattle.pass_proofs.specs.run_memory.Memory.{encode, owner_rights}
use Rattle.pass_proofs.specs.run_memory.declared.pointer.Pointer.{Pointer}
use Rattle.pass_proofs.specs.run_memory.declared.pointer.Value.{Value}
use Rattle.run_access_worked.specs.run_plain.Plain.{PlainGiven, plain_function}
use Rattle.run_access_worked.specs.run_plain.declared.state.PlainState.{PlainState}
use Rattle.pass_proofs.specs.run_source.Source.{destroy}
use Rattle.pass_proofs.specs.run_source.State.{function_of, or_undefined}
use Rattle.pass_proofs.specs.run_source.declared.state.Instance.{Instance}
use Rattle.pass_proofs.specs.run_source.declared.state.State.{State}
use Rattle.pass_proofs.specs.run_step.Step.{AtInstr, Coro}
use Rattle.pass_proofs.specs.run_step.Values.{Env, arg_value, value_in, with_value}

module _ (g : FramedGiven) (h : PlainGiven) (s : State) (t : PlainState) (r : AreRelated g h s t)
    (k : IsAtWaking g h s t r Intrinsic.CoroDestroy) where
  abbrev f : Function
  f = function_of g.given s

  abbrev q : Function
  q = plain_function h t

  abbrev here : Instr
  here = Instr.Call k.result k.must_tail k.ty (Callee.Intrinsic Intrinsic.CoroDestroy) (k.arg ∷ k.rest)

  -- the address
  abbrev p : Value
  p = arg_value g.given.code s.top.values k.arg

  does : framed_step g s ≡ or_undefined g.given s (destroy g.given (continue_framed g) s p)
  does = framed_does g s (AtInstr here) (Coro Intrinsic.CoroDestroy (k.arg ∷ k.rest) k.result) k.running k.there refl
      refl

  heavy : weight (fetched_at g s) ≡ 4
  heavy = ap weight k.there

  behind : IsBehind f false (record s.top { at = s.top.at + 1 })
  behind = record { before = s.top.at; at = refl; instr = here; there = k.there; is = refl }

  -- ---- the call

  module _ (w : IsWoken s p) (part : Part) (takes : TakesPointer h (part_position g w.instance.coroutine part))
      (stored : Holds owner_rights t.world.memory w.instance.block (w.instance.start + 8) 8
      (encode 8 (Value.Ptr (Pointer.Func (part_position g w.instance.coroutine part)))))
      (low : w.instance.block < length s.world.memory) (inside : w.instance.start + 8 < 2 ^ 64) (n : ℕ)
      (new : AreNew f q n 2) (line : StandAt q t.top.block t.top.at (destroy_call n k.arg.value))
      (place : IsPlace r.top.shape r.top.part f q s.top.block (s.top.at + 1) t.top.block (t.top.at + 3)) where
    abbrev x : Instance
    x = w.instance

    abbrev func : ℕ
    func = part_position g x.coroutine part

    abbrev header : Value
    header = pointer_at x.block (x.start + 8)

    abbrev callee : Value
    callee = Value.Ptr (Pointer.Func func)

    abbrev after : Env
    after = with_value (with_value t.top.values n header) (n + 1) callee

    callable : IsCallable h t k.arg.value n 2 x.block x.start 8 func
    callable = record {
      running = r.outcome ∙ k.running;
      takes = takes;
      leads = leads g h s t r Intrinsic.CoroDestroy k x w.address (small x.start inside) low;
      local = λ v e. below v n (length f.names) (k.known v e) new.low;
      room = room n (length q.names) (length t.top.values) new.high (sym r.top.room);
      stored = stored;
    }
      where
        small : (a : ℕ) → a + 8 < 2 ^ 64 → a < 2 ^ 64
        small a lt = omega arith

        below : (v n l : ℕ) → v < l → l ≤ n → v < n
        below v n l lt le = omega arith

        room : (n l e : ℕ) → n + 2 ≤ l → l ≡ e → n + 2 < e + 1
        room n l e le same = omega arith

    past : length s.top.values ≤ n
    past = subst (λ (l : ℕ). l ≤ n) (sym r.top.whole) new.low

    kept : AreValuesOf f (homes_of s.world.memory) s.top.values after
    kept = values_extra f (homes_of s.world.memory) s.top.values (with_value t.top.values n header) (n + 1) callee
        (more (length s.top.values) n past)
        (values_extra f (homes_of s.world.memory) s.top.values t.top.values n header past r.top.values)
      where
        more : (l n : ℕ) → l ≤ n → l ≤ n + 1
        more l n le = omega arith

    begin_stays : (i : ℕ) → s.top.instance ≡ Some i
        → value_in after r.top.shape.begin ≡ value_in t.top.values r.top.shape.begin
    begin_stays i own = set_elsewhere (with_value t.top.values n header) (n + 1) r.top.shape.begin callee
        (λ e. other n 1 (length f.names) r.top.shape.begin new.low (k.begin i own) e)
        ∙ set_elsewhere t.top.values n r.top.shape.begin header
        (λ e. other n 0 (length f.names) r.top.shape.begin new.low (k.begin i own) (none_more n ∙ e))
      where
        other : (n d l b : ℕ) → l ≤ n → b < l → n + d ≡ b → ⊥
        other n d l b le lt e = omega arith

        none_more : (n : ℕ) → n + 0 ≡ n
        none_more n = omega arith

    called : HasCalled g h s t r w.instance part
    called = record {
      calls = 3;
      few = omega arith;
      some = omega arith;
      piece = t.top.block;
      offset = t.top.at + 1 + 1 + 1;
      values = after;
      comes = destroy_calls h t k.arg.value n x.block x.start func callable inside line;
      quiet = destroy_quiet h t k.arg.value n x.block x.start func callable inside line;
      kept = kept;
      long = set_length (with_value t.top.values n header) (n + 1) callee ∙ set_length t.top.values n header;
      begin = begin_stays;
      given = λ frame e. new_kept g h s t r (with_value t.top.values n header) callee t.top.block (t.top.at + 1)
          (load_pointer (n + 1) (Operand.Local n)) line.1.0 (n + 1) refl frame e
          ∙ new_kept g h s t r t.top.values header t.top.block t.top.at (address n k.arg.value (pos 8)) line.0 n refl
          frame e;
      waiting = Inside s.top.mode k.settled (subst (λ (o : ℕ). IsPlace r.top.shape r.top.part f q s.top.block
          (s.top.at + 1) t.top.block o) (three_more t.top.at) place);
      behind = behind;
    }
      where
        three_more : (n : ℕ) → n + 3 ≡ n + 1 + 1 + 1
        three_more n = omega arith

  -- ---- the step

  module _ (fine : IsFine (framed_step g s).outcome)
      (can : CanBeDestroyed g h s t (arg_value g.given.code s.top.values k.arg)) where
    next : (u : State) × (destroy g.given (continue_framed g) s (arg_value g.given.code s.top.values k.arg) ≡ Ok u)
    next = fine_ok g.given s (destroy g.given (continue_framed g) s p)
        (subst (λ (x : State). IsFine x.outcome) does fine)

    goes : (w : IsWoken s (arg_value g.given.code s.top.values k.arg))
        × (next.0 ≡ continue_framed g s w.number w.instance w.suspend w.values
        (destroy_label (function_at g.given.code w.instance.coroutine) w.suspend))
    goes = destroy_goes g s next.0 p next.1

    abbrev w : IsWoken s p
    w = goes.0

    abbrev label : ℕ
    label = destroy_label (function_at g.given.code w.instance.coroutine) w.suspend

    is : framed_step g s ≡ continue_framed g s w.number w.instance w.suspend w.values label
    is = does ∙ ap (or_undefined g.given s) next.1 ∙ goes.1

    -- the part that the header names
    headed : IsHeadedIn g s.world.memory t.world.memory w.instance
    headed = r.frames.headed w.number w.instance w.there (can goes.0).held

    wakes : CanWake g h s t p w headed.destroyer label
    wakes = (can goes.0).wakes headed.destroyer headed.is headed.stands

    inside : w.instance.start + 8 < 2 ^ 64
    inside = below w.instance.start _ (index_inside g h s t r p w headed.destroyer label wakes.waking)
        wakes.waking.laid.behind
      where
        below : (a i : ℕ) → a + i < 2 ^ 64 → 16 ≤ i → a + 8 < 2 ^ 64
        below a i lt le = omega arith

    stays : (n : ℕ) → AreNew f q n 2 → StandAt q t.top.block t.top.at (destroy_call n k.arg.value)
        → IsPlace r.top.shape r.top.part f q s.top.block (s.top.at + 1) t.top.block (t.top.at + 3)
        → IsFollowed g h s t
    stays n new line place = woken_followed g h s t r k.running k.settled p w headed.destroyer label wakes.waking is
        heavy wakes.ends
        (called w headed.destroyer wakes.takes headed.destroys
        (r.frames.laid.known w.number w.instance w.there) inside
        n new line place) (λ some. headed.right)

    -- by the code that stands there
    code : HasCode r.top.shape r.top.part f q s.top.block s.top.at t.top.block t.top.at here
    code = has_code r.top.shape r.top.part f q s.top.block s.top.at t.top.block t.top.at here k.place k.there

    by_code : (after : List Instr) (term : Terminator) → cut_at r.top.shape r.top.part here after ≡ Cut.Stays
        → IsCode r.top.shape r.top.part f q s.top.block s.top.at t.top.block t.top.at here after term
        → IsFollowed g h s t
    by_code behind_it term e (Stays n begins cut new stand place) = stays n new stand place
    by_code behind_it term e (Marks n mark begins cut new remain bare place) = absurd (marks_stays mark (sym cut ∙ e))
    by_code behind_it term e (Suspends begins cut jump) = absurd (suspends_stays (sym cut ∙ e))
    by_code behind_it term e (Returns begins cut ret) = absurd (returns_stays (sym cut ∙ e))
    by_code behind_it term e (Transfers n j begins cut new jump bare remain)
        = absurd (transfers_stays j (sym cut ∙ e))
    by_code behind_it term e (BeginsAgain begins jump) = absurd (false≢true (sym (begins_none r.top.part) ∙ begins))

    pub destroys_followed : IsFollowed g h s t
    destroys_followed = by_code code.after code.end refl code.code

-- A coro intrinsic that only gives a value is followed in the part: in a step, or in none where it has no name.
use Rattle.std.proofs.Common.{◌≡◌, ℕ, ◌+◌, ◌≤◌, false, List, [], length, Option, Some, None, refl, sym, ap, ◌∙◌, subst, arith}
use Rattle.std.proofs.lemmas.Bool.{false≢true}
use Rattle.pass_proofs.specs.ir_base.declared.outcome.Outcome.{Outcome}
use Rattle.pass_proofs.specs.ir_model.Names.{function_at}
use Rattle.pass_proofs.specs.ir_model.declared.instr.Instr.{Instr}
use Rattle.pass_proofs.specs.ir_model.declared.instr.Terminator.{Terminator}
use Rattle.pass_proofs.specs.ir_model.declared.module.Function.{Function}
use Rattle.pass_proofs.specs.ir_model.declared.operand.Callee.{Callee}
use Rattle.pass_proofs.specs.ir_model.declared.operand.Intrinsic.{Intrinsic}
use Rattle.pass_proofs.specs.pass_intrinsics.Cuts.{cut_at}
use Rattle.pass_proofs.specs.pass_intrinsics.Lowered.{lowered}
use Rattle.pass_proofs.specs.pass_intrinsics.declared.cuts.Cut.{Cut}
use Rattle.pass_proofs.specs.pass_intrinsics.declared.shape.Part.{Part}
use Rattle.pass_proofs.specs.pass_intrinsics.declared.shape.Shape.{Shape}
use Rattle.pass_proofs.specs.pass_split.Pieces.{begins_again}
use Rattle.pass_split_proof.proofs.simulation.Knowing.{goes_knows, same_places, set_kept}
use Rattle.pass_proofs.specs.run_step.Values.{with_value}
use Rattle.pass_split_proof.proofs.places.Coded.{has_code}
use Rattle.pass_split_proof.proofs.silent.Measure.{next_lower}
use Rattle.pass_split_proof.proofs.states.Advanced.{advanced, same_frames}
use Rattle.pass_split_proof.proofs.steps.Followed.{none_followed, one_followed}
use Rattle.pass_split_proof.proofs.steps.Given.{given_related}
use Rattle.pass_split_proof.proofs.steps.Ordinary.{IsAlone, IsCopied, alone}
use Rattle.pass_split_proof.proofs.steps.Settled.{plain_does}
use Rattle.pass_split_proof.specs.giving.Intrinsics.{IsAtIntrinsic}
use Rattle.pass_split_proof.specs.places.Places.{BeginsAgain, HasCode, IsCode, IsPlace, Marks, Returns, Stays, Suspends, Transfers}
use Rattle.pass_split_proof.specs.simulation.Followed.{IsFollowed}
use Rattle.pass_split_proof.specs.states.Activations.{Inside}
use Rattle.pass_split_proof.specs.states.Memories.{homes_of}
use Rattle.pass_split_proof.specs.states.Related.{AreRelated, credit_of}
use Rattle.pass_proofs.specs.run_framed.Framed.{FramedGiven, framed_step}
use Rattle.pass_proofs.specs.run_laws.memory.Pointers.{IsValue}
use Rattle.pass_proofs.specs.run_memory.declared.pointer.Value.{Value}
use Rattle.run_access_worked.specs.run_plain.Plain.{PlainGiven, plain_context, plain_settled, plain_work}
use Rattle.run_access_worked.specs.run_plain.declared.state.PlainState.{PlainState}
use Rattle.pass_proofs.specs.run_source.State.{function_of, gives, next, work_of}
use Rattle.pass_proofs.specs.run_source.declared.state.State.{State}
use Rattle.pass_proofs.specs.run_step.Step.{AtInstr, Done, fetch, instr_action, set_value}

-- ---- instructions for which none stands in the part

pub record IsNothing (s : Shape) (part : Part) (i : Instr) : Type 0 where
  pub begins : begins_again part i ≡ false
  pub cut : (after : List Instr) → cut_at s part i after ≡ Cut.Stays
  pub lowered : (n : ℕ) → lowered s part n i ≡ []

module _ (s : Shape) (part : Part) (f q : Function) (block at piece offset : ℕ) (i : Instr) (k : IsNothing s part i)
  where
    by_code : (after : List Instr) (t : Terminator) → IsCode s part f q block at piece offset i after t
        → IsPlace s part f q block (at + 1) piece offset
    by_code after t (Stays n begins cut new stand place)
        = subst (λ (l : ℕ). IsPlace s part f q block (at + 1) piece l) (same offset)
        (subst (λ (is : List Instr). IsPlace s part f q block (at + 1) piece (offset + length is)) (k.lowered n) place)
      where
        same : (n : ℕ) → n + 0 ≡ n
        same n = omega arith
    by_code after t (Marks n mark begins cut new remain bare place) = absurd (other (sym cut ∙ k.cut after))
      where
        other : Cut.Marks mark ≡ Cut.Stays → ⊥
        other e = cc
    by_code after t (Suspends begins cut jump) = absurd (other (sym cut ∙ k.cut after))
      where
        other : Cut.Suspends ≡ Cut.Stays → ⊥
        other e = cc
    by_code after t (Returns begins cut ret) = absurd (other (sym cut ∙ k.cut after))
      where
        other : Cut.Returns ≡ Cut.Stays → ⊥
        other e = cc
    by_code after t (Transfers n j begins cut new jump bare remain) = absurd (other (sym cut ∙ k.cut after))
      where
        other : Cut.Transfers j ≡ Cut.Stays → ⊥
        other e = cc
    by_code after t (BeginsAgain begins jump) = absurd (false≢true (sym k.begins ∙ begins))

    pub nothing_there : IsPlace s part f q block at piece offset → fetch f block at ≡ AtInstr i
        → IsPlace s part f q block (at + 1) piece offset
    nothing_there place there = let c : HasCode s part f q block at piece offset i = has_code s part f q block at piece
        offset i place there in by_code c.after c.end c.code

-- ---- both runs

module _ (g : FramedGiven) (h : PlainGiven) (s : State) (t : PlainState) (r : AreRelated g h s t)
    (runs : s.outcome ≡ Outcome.Running) (x : Intrinsic) (k : IsAtIntrinsic g h s t r x) where
  abbrev f : Function
  f = function_of g.given s

  abbrev q : Function
  q = function_at h.code t.top.func

  abbrev pub call_here : Option ℕ → Instr
  call_here result = Instr.Call result k.must_tail k.ty (Callee.Intrinsic x) k.args

  reach : (n : ℕ) → n ≤ n
  reach n = omega arith

  -- without a name
  pub none_given : k.result ≡ None → IsNothing r.top.shape r.top.part (call_here None)
      → framed_step g s ≡ next s → IsFollowed g h s t
  none_given e nothing is = none_followed g h s t r runs (next s) is (reach (credit_of s))
      (next_lower f s.top.block s.top.at (call_here None) there)
      (advanced g h s t r (work_of s) (plain_work t) s.instances s.top.block (s.top.at + 1) t.top.block t.top.at
      s.top.has_left k.settled r.world r.frames (same_frames s.instances) (reach (length s.world.memory))
      (record { each = λ b e. refl }) r.top.values refl refl refl (Inside s.top.mode k.settled place)) (λ know. know)
    where
      there : fetch f s.top.block s.top.at ≡ AtInstr (call_here None)
      there = k.there ∙ ap (λ (o : Option ℕ). AtInstr (call_here o)) e

      place : IsPlace r.top.shape r.top.part f q s.top.block (s.top.at + 1) t.top.block t.top.at
      place = nothing_there r.top.shape r.top.part f q s.top.block s.top.at t.top.block t.top.at (call_here None)
          nothing k.place there

  -- with a name
  pub one_given : (name : ℕ) (j : Instr) (v u : Value) → k.result ≡ Some name
      → IsAlone r.top.shape r.top.part (call_here (Some name)) j → IsValue (homes_of s.world.memory) v u
      → instr_action (plain_context h t) (plain_work t) j ≡ Done (set_value (plain_work t) name u)
      → framed_step g s ≡ gives s (Some name) v → IsFollowed g h s t
  one_given name j v u e alone_there stands does is = one_followed g h s t r runs (gives s (Some name) v)
      (plain_settled t (set_value (plain_work t) name u)) is
      (plain_does h t (AtInstr j) (Done (set_value (plain_work t) name u)) (r.outcome ∙ runs) copied.0 does)
      (reach (credit_of s))
      (given_related g h s t r name v u stands (λ n. k.others (e ∙ ap (λ (a : ℕ). Some a) n)) k.settled
      (Inside s.top.mode k.settled copied.1))
      (λ know. goes_knows g s t s.instances s.world.memory (with_value t.top.values name u)
      (record { each = λ b e. refl }) (same_places s.instances s.world.memory) know
      (set_kept g h s t r t.top.values u s.top.block s.top.at (call_here (Some name)) there name refl))
    where
      there : fetch f s.top.block s.top.at ≡ AtInstr (call_here (Some name))
      there = k.there ∙ ap (λ (o : Option ℕ). AtInstr (call_here o)) e

      copied : IsCopied r.top.shape r.top.part f q s.top.block s.top.at t.top.block t.top.at j
      copied = alone r.top.shape r.top.part f q s.top.block s.top.at t.top.block t.top.at (call_here (Some name)) j
          alone_there k.place there

-- A call of an allocator makes a block in both runs.
use Rattle.std.proofs.Common.{◌≡◌, ℕ, ◌≤◌, true, false, List, ◌∷◌, [], Option, refl, ap, ◌∙◌, subst, arith}
use Rattle.pass_proofs.specs.ir_base.declared.cause.Cause.{Cause}
use Rattle.pass_proofs.specs.ir_base.declared.outcome.Outcome.{Outcome}
use Rattle.pass_proofs.specs.ir_base.declared.outcome.Word.{Word}
use Rattle.pass_proofs.specs.ir_model.Names.{function_at}
use Rattle.pass_proofs.specs.ir_model.declared.instr.Instr.{Instr}
use Rattle.pass_proofs.specs.ir_model.declared.module.Function.{Function}
use Rattle.pass_proofs.specs.ir_model.declared.operand.Allocator.{Allocator}
use Rattle.pass_proofs.specs.ir_model.declared.operand.Callee.{Callee}
use Rattle.pass_split_proof.proofs.simulation.Knowing.{result_unset}
use Rattle.pass_proofs.specs.pass_intrinsics.Shapes.{given_name}
use Rattle.pass_split_proof.specs.states.Instances.{shape_at}
use Rattle.pass_split_proof.proofs.calling.Called.{args_stand}
use Rattle.pass_split_proof.proofs.giving.Constants.{not_again}
use Rattle.pass_split_proof.proofs.steps.Followed.{framed_does, one_followed}
use Rattle.pass_split_proof.proofs.steps.Ordinary.{IsCopied, alone}
use Rattle.pass_split_proof.proofs.steps.Settled.{plain_does}
use Rattle.pass_split_proof.proofs.steps.Slots.{blocks_know, blocks_related}
use Rattle.pass_split_proof.specs.making.Blocks.{IsAtAllocator, allocates}
use Rattle.pass_split_proof.specs.simulation.Followed.{IsFollowed}
use Rattle.pass_split_proof.specs.states.Activations.{Inside}
use Rattle.pass_split_proof.specs.states.Memories.{homes_of}
use Rattle.pass_split_proof.specs.states.Related.{AreRelated, credit_of}
use Rattle.pass_split_proof.specs.steps.Slots.{with_made}
use Rattle.pass_proofs.specs.run_agreement.Machines.{IsFine}
use Rattle.pass_proofs.specs.run_framed.Framed.{FramedGiven, framed_context, framed_step}
use Rattle.pass_proofs.specs.run_laws.embedded.Related.{AreValues}
use Rattle.pass_proofs.specs.run_laws.memory.Pointers.{Home, IsValue}
use Rattle.pass_proofs.specs.run_memory.declared.block.Kind.{Kind}
use Rattle.pass_proofs.specs.run_memory.declared.pointer.Value.{Value}
use Rattle.run_access_worked.specs.run_plain.Plain.{PlainGiven, plain_context, plain_settled, plain_work}
use Rattle.run_access_worked.specs.run_plain.declared.state.PlainState.{PlainState}
use Rattle.pass_proofs.specs.run_source.State.{function_of, settled, work_of}
use Rattle.pass_proofs.specs.run_source.declared.state.State.{State}
use Rattle.pass_proofs.specs.run_step.Step.{AtInstr, Done, Stuck, Work, action_of, allocated, allocator_call, risen, with_length}
use Rattle.pass_proofs.specs.run_step.Values.{arg_values, nth}

-- both allocators do the same
action_is : (w : Work) (result : Option ℕ) (vs : List Value) (a : Allocator) → allocates a ≡ true
    → allocator_call a w result vs ≡ with_length (nth vs 0) (λ n. Done (allocated w result n))
action_is w result vs Allocator.Malloc e = refl
action_is w result vs Allocator.Znwm e = refl
action_is w result vs _ e = absurd (cc)

pub first_stands : (homes : List Home) (vs us : List Value) → AreValues homes vs us → IsValue homes (nth vs 0) (nth us 0)
first_stands homes [] [] stand = tt
first_stands homes [] (u ∷ us) stand = absurd stand
first_stands homes (v ∷ vs) [] stand = absurd stand
first_stands homes (v ∷ vs) (u ∷ us) stand = stand.0

module _ (g : FramedGiven) (h : PlainGiven) (s : State) (t : PlainState) (r : AreRelated g h s t)
    (runs : s.outcome ≡ Outcome.Running) (fine : IsFine (framed_step g s).outcome) (k : IsAtAllocator g h s t r) where
  abbrev f : Function
  f = function_of g.given s

  abbrev q : Function
  q = function_at h.code t.top.func

  abbrev i : Instr
  i = Instr.Call k.result k.must_tail k.ty (Callee.Allocator k.allocator) k.args

  abbrev vs : List Value
  vs = arg_values g.given.code s.top.values k.args

  abbrev us : List Value
  us = arg_values h.code t.top.values k.args

  copied : IsCopied r.top.shape r.top.part f q s.top.block s.top.at t.top.block t.top.at i
  copied = alone r.top.shape r.top.part f q s.top.block s.top.at t.top.block t.top.at i i
      (record { begins = not_again r.top.part i refl; cut = λ after. refl; lowered = λ n. refl }) k.place k.there

  by_length : (c : Cause) → with_length (nth vs 0) (λ n. Done (allocated (work_of s) k.result n)) ≡ Stuck c → ⊥
  by_length c e = subst (λ (x : State). IsFine x.outcome) (framed_does g s (AtInstr i) (Stuck c) runs k.there refl
      (action_is (work_of s) k.result vs k.allocator k.is ∙ e)) fine

  module _ (x : Word) (e : nth vs 0 ≡ Value.Int x) where
    abbrev made : Work
    made = with_made (work_of s) k.result x.bits 16 Kind.Allocator false (risen s.world.allocs)

    abbrev made_too : Work
    made_too = with_made (plain_work t) k.result x.bits 16 Kind.Allocator false (risen s.world.allocs)

    same_word : nth us 0 ≡ Value.Int x
    same_word = subst (λ (v : Value). IsValue (homes_of s.world.memory) v (nth us 0)) e
        (first_stands (homes_of s.world.memory) vs us (args_stand g h s t r k.args k.readable))

    ours : action_of (framed_context g s) (work_of s) (AtInstr i) ≡ Done made
    ours = action_is (work_of s) k.result vs k.allocator k.is
        ∙ ap (λ (v : Value). with_length v (λ n. Done (allocated (work_of s) k.result n))) e

    theirs : action_of (plain_context h t) (plain_work t) (AtInstr i) ≡ Done made_too
    theirs = action_is (plain_work t) k.result us k.allocator k.is
        ∙ ap (λ (v : Value). with_length v (λ n. Done (allocated (plain_work t) k.result n))) same_word
        ∙ ap (λ (n : ℕ). Done (with_made (plain_work t) k.result x.bits 16 Kind.Allocator false (risen n)))
        r.world.allocs

    made_followed : IsFollowed g h s t
    made_followed = one_followed g h s t r runs (settled s made) (plain_settled t made_too)
        (framed_does g s (AtInstr i) (Done made) runs k.there refl ours)
        (plain_does h t (AtInstr i) (Done made_too) (r.outcome ∙ runs) copied.0 theirs) (reach (credit_of s))
        (blocks_related g h s t r k.result x.bits 16 Kind.Allocator false false (risen s.world.allocs)
        (λ same. same) (k.small x e)
        (λ same. refl) k.settled k.others (Inside s.top.mode k.settled copied.1))
        (blocks_know g h s t r k.result x.bits 16 Kind.Allocator false false (risen s.world.allocs)
        (λ frame e sets. result_unset g h s t r frame e s.top.block s.top.at i k.there
        (given_name (shape_at g s.top.func)) sets refl))
      where
        reach : (n : ℕ) → n ≤ n
        reach n = omega arith

  by_value : (v : Value) → nth vs 0 ≡ v → IsFollowed g h s t
  by_value Value.Poison e = absurd (by_length Cause.Poison (ap (λ (v : Value). with_length v
      (λ n. Done (allocated (work_of s) k.result n))) e))
  by_value (Value.Ptr p) e = absurd (by_length Cause.Poison (ap (λ (v : Value). with_length v
      (λ n. Done (allocated (work_of s) k.result n))) e))
  by_value (Value.Int x) e = made_followed x e

  pub allocator_followed : IsFollowed g h s t
  allocator_followed = by_value (nth vs 0) refl

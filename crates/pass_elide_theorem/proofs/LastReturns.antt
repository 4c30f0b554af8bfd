-- Behind the entry's return no instance that was given its frame goes on: it would have its caller.
use Rattle.std.proofs.Common.{◌≡◌, ◌∙◌, ℕ, Bool, false, List, [], ◌∷◌, Err, None, Ok, Option, Result, Some, ap, refl, subst, sym, true, ◌&&◌, ◌==◌}
use Rattle.std.specs.Prelude.{slice_get}
use Rattle.pass_elide.specs.Elided.{elided_function}
use Rattle.pass_elide_apart.specs.pass_elide_edges.States.{EndsFramed}
use Rattle.pass_elide_apart.proofs.pass_elide_proof.Callees.{may_end}
use Rattle.pass_elide_apart.proofs.pass_elide_proof.Killing.{slots_kind}
use Rattle.pass_elide_apart.proofs.pass_elide_proof.Modules.{finds_alike}
use Rattle.pass_elide_apart.proofs.pass_elide_proof.Returns.{returns_of}
use Rattle.pass_elide_apart.proofs.pass_elide_proof.Standing.{has_code}
use Rattle.pass_elide_apart.specs.pass_elide_proof.Calling.{AreReady, at_front}
use Rattle.pass_elide_apart.specs.pass_elide_proof.Elision.{Elision, elided, function_in, function_in_elided, rooms}
use Rattle.pass_elide_apart.specs.pass_elide_proof.Invariant.{HasCaller, IsCalledIn}
use Rattle.pass_elide_apart.specs.pass_elide_proof.Match.{AreBelow, Sides, sides}
use Rattle.pass_elide_apart.specs.pass_elide_proof.Places.{own_at}
use Rattle.pass_elide_apart.specs.pass_elide_proof.Returning.{IsAtReturn}
use Rattle.pass_elide_theorem.proofs.Frames.{given_or_heap}
use Rattle.pass_elide_theorem.specs.Carried.{DoFramesLive}
use Rattle.pass_elide_apart.specs.pass_proofs.ir_base.declared.cause.Cause.{Cause}
use Rattle.pass_elide_apart.specs.pass_proofs.ir_base.declared.outcome.Outcome.{Outcome}
use Rattle.pass_elide_apart.specs.pass_proofs.ir_model.declared.instr.Terminator.{Terminator}
use Rattle.pass_elide_apart.specs.pass_proofs.ir_model.declared.module.Function.{Function}
use Rattle.pass_elide_apart.specs.pass_proofs.ir_model.declared.operand.Arg.{Arg}
use Rattle.pass_elide_apart.specs.pass_proofs.run_agreement.Machines.{IsFine}
use Rattle.pass_elide_apart.specs.pass_proofs.run_framed.Framed.{FramedGiven, framed_advance, framed_next, framed_step, is_given}
use Rattle.pass_elide_apart.specs.pass_proofs.run_laws.memory.Pointers.{Home}
use Rattle.pass_elide_apart.specs.pass_proofs.run_memory.declared.block.Kind.{Kind}
use Rattle.pass_elide_apart.specs.pass_proofs.run_memory.declared.block.MemoryBlock.{MemoryBlock}
use Rattle.pass_elide_apart.specs.pass_proofs.run_memory.declared.pointer.Value.{Value}
use Rattle.pass_elide_apart.specs.pass_proofs.run_source.Source.{pop, return, returned}
use Rattle.pass_elide_apart.specs.pass_proofs.run_source.State.{function_of, is_finished, or_undefined}
use Rattle.pass_elide_apart.specs.pass_proofs.run_source.declared.state.Activation.{Activation}
use Rattle.pass_elide_apart.specs.pass_proofs.run_source.declared.state.Instance.{Instance}
use Rattle.pass_elide_apart.specs.pass_proofs.run_source.declared.state.State.{State}
use Rattle.pass_elide_apart.specs.pass_proofs.run_step.Results.{and_then}
use Rattle.pass_elide_apart.specs.pass_proofs.run_step.Step.{AtTerm, Fetched, fetch, outcome_of}

-- ---- a stack of one activation

none_in : (e : Elision) (memory : List MemoryBlock) (y : Instance) (number : ℕ) (above rows : List Activation)
    → IsCalledIn e memory y number above rows → rows ≡ [] → ⊥
none_in e memory y number _ _ (IsCalledIn.Here c above below k) none = absurd (cc)
none_in e memory y number _ _ (IsCalledIn.Below c above below k) none = absurd (cc)

alone_in : (e : Elision) (memory : List MemoryBlock) (y : Instance) (number : ℕ) (above rows : List Activation)
    → IsCalledIn e memory y number above rows → (d : Activation) → rows ≡ d ∷ [] → above ≡ []
    → (HasCaller e memory y number d [] → ⊥) → ⊥
alone_in e memory y number _ _ (IsCalledIn.Here c above below k) d same first none =
    let is : c ≡ d = cc in
    none (subst (λ (p : Activation × List Activation). HasCaller e memory y number p.0 p.1) (λ j. (is j, first j)) k)
alone_in e memory y number _ _ (IsCalledIn.Below c above below k) d same first none =
    let empty : below ≡ [] = cc in none_in e memory y number (c ∷ above) below k empty

none_below : (e : Elision) (homes : List Home) (hides : ℕ → Bool) (d : Sides) (bs cs : List Activation)
    → AreBelow e homes hides d bs cs → bs ≡ [] → cs ≡ []
none_below e homes hides d [] [] h none = refl
none_below e homes hides d [] (c ∷ cs) h none = absurd h
none_below e homes hides d (b ∷ bs) cs h none = absurd (cc)

-- ---- the return

return_does : (g : FramedGiven) (s : State) (value : Option Arg)
    → framed_next g s (AtTerm (Terminator.Ret value)) ≡ return s (returns_of g s value)
return_does g s None = refl
return_does g s (Some arg) = refl

module _ (e : Elision) (s u : State) (r : AreReady e s u) (k : IsAtReturn e s u) (known : EndsFramed e s)
    (last : s.below ≡ []) where
  abbrev f : Function
  f = function_in e s.top.func

  there : fetch (function_of (elided e).given u) u.top.block u.top.at ≡ AtTerm (Terminator.Ret k.value)
  there =
      (λ j. fetch (function_in_elided e (r.beside.top.func j)) (r.block j) (r.at j))
      ∙ (ap (λ (h : Function). fetch h s.top.block (own_at (rooms e s.top.func) f s.top.block s.top.at))
      ((finds_alike e).functions s.top.func)
      ∙ (ap (λ (n : ℕ). fetch (elided_function (rooms e s.top.func) f) s.top.block
      (own_at (rooms e s.top.func) f s.top.block n)) k.at
      ∙ ((has_code (rooms e s.top.func) f).term s.top.block k.block k.has_block ∙ ap AtTerm k.term)))

  last_too : u.below ≡ []
  last_too = none_below e r.beside.homes r.beside.hides (sides s u) s.below u.below r.beside.below last

  none_goes : (i : ℕ) (y : Instance) → slice_get u.instances i ≡ Some y → is_given u.world.memory y ≡ true
      → is_finished y.status ≡ false → ⊥
  none_goes i y at given going =
      alone_in e u.world.memory y i [] (u.top ∷ u.below) (k.callers.each i y at given going) u.top
      (ap (λ (rows : List Activation). u.top ∷ rows) last_too) refl ((may_end e s u r k).alone y i)

  behind : (o : Outcome) → DoFramesLive (record (returned u) { outcome = o })
  behind o i y at on_heap going =
      absurd (none_goes i y at
      (given_or_heap e s (at_front e s u) r.beside known i y at
      (sym (ap (λ (b : Bool). b && (y.start == 0)) (slots_kind Kind.Allocator u.world.memory u.top.slots y.block))
      ∙ on_heap)) going)

  abbrev v : Option Value
  v = returns_of (elided e) u k.value

  abbrev over : Result Outcome Cause → Result State Cause
  over x = and_then x (λ (o : Outcome). Ok (record (returned u) { outcome = o }))

  comes : framed_next (elided e) u (AtTerm (Terminator.Ret k.value)) ≡ over (outcome_of v)
  comes = return_does (elided e) u k.value ∙ ap (pop (returned u) v) last_too

  runs : u.outcome ≡ Outcome.Running
  runs = r.beside.outcome ∙ k.runs

  does : framed_step (elided e) u ≡ or_undefined (elided e).given u (over (outcome_of v))
  does =
      ap (framed_advance (elided e) u) runs
      ∙ (ap (λ (z : Fetched). or_undefined (elided e).given u (framed_next (elided e) u z)) there
      ∙ ap (or_undefined (elided e).given u) comes)

  pub last_lives : IsFine (framed_step (elided e) u).outcome → DoFramesLive (framed_step (elided e) u)
  last_lives fine = by (outcome_of v) refl
    where
      by : (x : Result Outcome Cause) → outcome_of v ≡ x → DoFramesLive (framed_step (elided e) u)
      by (Err cause) is =
          absurd (subst (λ (z : State). IsFine z.outcome)
          (does ∙ ap (λ (x : Result Outcome Cause). or_undefined (elided e).given u (over x)) is) fine)
      by (Ok o) is =
          subst DoFramesLive
          (sym (does ∙ ap (λ (x : Result Outcome Cause). or_undefined (elided e).given u (over x)) is)) (behind o)

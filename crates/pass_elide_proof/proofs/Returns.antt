-- A return leads back to the caller in both runs, or both runs are over.
use Rattle.std.proofs.Common.{◌≡◌, ◌+◌, ◌∙◌, ◌∷◌, [], ap, arith, Err, List, map, Ok, Option, refl, Result, subst, sym, ℕ, length}
use Rattle.std.specs.Prelude.{None, Some, slice_get, unwrap_or}
use Rattle.pass_elide.specs.Elided.{elided_function}
use Rattle.pass_elide_proof.proofs.Apart.{held_more}
use Rattle.pass_elide_proof.proofs.Callees.{may_end}
use Rattle.pass_elide_proof.proofs.Callers.{read_stands}
use Rattle.pass_elide_proof.proofs.Deaths.{count_dead}
use Rattle.pass_elide_proof.proofs.LedBack.{led_back}
use Rattle.pass_elide_proof.proofs.Modules.{finds_alike}
use Rattle.pass_elide_proof.proofs.Sized.{stepped}
use Rattle.pass_elide_proof.proofs.Standing.{has_code}
use Rattle.pass_elide_proof.specs.Calling.{AreReady, at_front}
use Rattle.pass_elide_proof.specs.Counts.{capped, given_frames}
use Rattle.pass_elide_proof.specs.Elision.{Elision, elided, elided_code, framed, function_in, function_in_elided, rooms}
use Rattle.pass_elide_proof.specs.Match.{AreBelow, AreElided, held_blocks, sides}
use Rattle.pass_elide_proof.specs.Places.{own_at}
use Rattle.pass_elide_proof.specs.Returning.{HaveReturned, IsAtReturn, MayEnd, ReturnsAlike, ReturnsTo}
use Rattle.pass_proofs.proofs.ir_laws.facts.Truth.{itself}
use Rattle.pass_proofs.specs.ir_base.declared.cause.Cause.{Cause}
use Rattle.pass_proofs.specs.ir_base.declared.outcome.Event.{Event}
use Rattle.pass_proofs.specs.ir_base.declared.outcome.Outcome.{Outcome}
use Rattle.pass_proofs.specs.ir_model.declared.instr.Terminator.{Terminator}
use Rattle.pass_proofs.specs.ir_model.declared.module.Function.{Function}
use Rattle.pass_proofs.specs.ir_model.declared.operand.Arg.{Arg}
use Rattle.pass_proofs.specs.run_agreement.Machines.{IsFine, IsReturned}
use Rattle.pass_proofs.specs.run_framed.Framed.{FramedGiven, framed_advance, framed_next, framed_step}
use Rattle.pass_proofs.specs.run_laws.embedded.Related.{moved_event}
use Rattle.pass_proofs.specs.run_laws.memory.Pointers.{IsValue}
use Rattle.pass_proofs.specs.run_memory.declared.pointer.Value.{Value}
use Rattle.pass_proofs.specs.run_source.Source.{pop, return, returned}
use Rattle.pass_proofs.specs.run_source.State.{function_of, or_undefined}
use Rattle.pass_proofs.specs.run_source.declared.state.Activation.{Activation}
use Rattle.pass_proofs.specs.run_source.declared.state.State.{State}
use Rattle.pass_proofs.specs.run_step.Results.{and_then}
use Rattle.pass_proofs.specs.run_step.Step.{AtTerm, Fetched, fetch, fetch_in, fetch_or, outcome_of}
use Rattle.pass_proofs.specs.run_step.Values.{arg_value}

-- ---- what a return does

-- the value that is returned
abbrev pub returns_of : FramedGiven → State → Option Arg → Option Value
returns_of g s None = None
returns_of g s (Some arg) = Some (arg_value g.given.code s.top.values arg)

return_does : (g : FramedGiven) (s : State) (value : Option Arg)
    → framed_next g s (AtTerm (Terminator.Ret value)) ≡ return s (returns_of g s value)
return_does g s None = refl
return_does g s (Some arg) = refl

same_ok : (x y : Outcome) → ◌≡◌ {A = Result Outcome Cause} (Ok x) (Ok y) → x ≡ y
same_ok x y e = cc

past : {A : Type 0} (xs : List A) → slice_get xs (length xs) ≡ None
past [] = refl
past (x ∷ xs) = past xs

module _ (e : Elision) (s t : State) (r : AreReady e s t) (k : IsAtReturn e s t) where
  abbrev f : Function
  f = function_in e s.top.func

  -- ---- what stands there

  there : fetch (function_of (framed e).given s) s.top.block s.top.at ≡ AtTerm (Terminator.Ret k.value)
  there =
      (λ j. fetch_in (k.has_block j) (k.at j))
      ∙ ((λ j. fetch_or (past k.block.instrs j) (itself (length k.block.instrs) j) k.block.term)
      ∙ ap AtTerm k.term)

  there_too : fetch (function_of (elided e).given t) t.top.block t.top.at ≡ AtTerm (Terminator.Ret k.value)
  there_too =
      (λ j. fetch (function_in_elided e (r.beside.top.func j)) (r.block j) (r.at j))
      ∙ (ap (λ (h : Function). fetch h s.top.block (own_at (rooms e s.top.func) f s.top.block s.top.at))
      ((finds_alike e).functions s.top.func)
      ∙ (ap (λ (n : ℕ). fetch (elided_function (rooms e s.top.func) f) s.top.block
      (own_at (rooms e s.top.func) f s.top.block n)) k.at
      ∙ ((has_code (rooms e s.top.func) f).term s.top.block k.block k.has_block ∙ ap AtTerm k.term)))

  -- ---- what is returned

  abbrev v : Option Value
  v = returns_of (framed e) s k.value

  abbrev u : Option Value
  u = returns_of (elided e) t k.value

  abbrev AreGiven : Option Value → Option Value → Type 0
  AreGiven x y = IsValue r.beside.homes (unwrap_or x Value.Poison) (unwrap_or y Value.Poison)

  stands_by : (value : Option Arg) → ReturnsAlike e s t value
      → AreGiven (returns_of (framed e) s value) (returns_of (elided e) t value)
  stands_by None h = tt
  stands_by (Some arg) h = read_stands e s t r arg.value h arg.ty

  stands : AreGiven v u
  stands = stands_by k.value k.reads

  ended : MayEnd e s t
  ended = may_end e s t r k

  -- ---- to a caller

  pub returns_beside : ReturnsTo e s → AreElided e (framed_step (framed e) s) (framed_step (elided e) t)
  returns_beside to =
      let back = led_back e s t r ended v u stands to in
      subst (λ (p : State × State). AreElided e p.0 p.1)
      (λ j. (
        sym (stepped (framed e) s back.0 (AtTerm (Terminator.Ret k.value)) k.runs there
            (return_does (framed e) s k.value ∙ back.1.1.0)) j,
        sym (stepped (elided e) t back.1.0 (AtTerm (Terminator.Ret k.value)) (r.beside.outcome ∙ k.runs) there_too
            (return_does (elided e) t k.value ∙ back.1.1.1.0)) j,
      ))
      back.1.1.1.1

  -- ---- of the run

  module _ (last : s.below ≡ []) (fine : IsFine (framed_step (framed e) s).outcome) where
    none_too : (bs cs : List Activation) → AreBelow e r.beside.homes r.beside.hides (sides s t) bs cs → bs ≡ []
        → cs ≡ []
    none_too [] [] h e = refl
    none_too [] (c ∷ cs) h e = absurd h
    none_too (b ∷ bs) cs h e = absurd (cc)

    last_too : t.below ≡ []
    last_too = none_too s.below t.below r.beside.below last

    abbrev over : State → Result Outcome Cause → Result State Cause
    over z x = and_then x (λ (o : Outcome). Ok (record (returned z) { outcome = o }))

    comes : framed_next (framed e) s (AtTerm (Terminator.Ret k.value)) ≡ over s (outcome_of v)
    comes = return_does (framed e) s k.value ∙ ap (pop (returned s) v) last

    comes_too : framed_next (elided e) t (AtTerm (Terminator.Ret k.value)) ≡ over t (outcome_of u)
    comes_too = return_does (elided e) t k.value ∙ ap (pop (returned t) u) last_too

    -- the same word is returned, or none
    alike : (value : Option Arg) (o : Outcome) → ReturnsAlike e s t value
        → outcome_of (returns_of (framed e) s value) ≡ Ok o → outcome_of (returns_of (elided e) t value) ≡ Ok o
    alike None o h is = is
    alike (Some arg) o h is =
        on (arg_value e.code s.top.values arg) (arg_value (elided_code e) t.top.values arg)
        (read_stands e s t r arg.value h arg.ty) is
      where
        on : (x y : Value) → IsValue r.beside.homes x y → outcome_of (Some x) ≡ Ok o → outcome_of (Some y) ≡ Ok o
        on (Value.Int n) y stand is = ap (λ (z : Value). outcome_of (Some z)) stand ∙ is
        on Value.Poison y stand is = absurd (cc)
        on (Value.Ptr p) y stand is = absurd (cc)

    returned_word : (value : Option Value) (o : Outcome) → outcome_of value ≡ Ok o → IsReturned o
    returned_word None o is = subst IsReturned (same_ok (Outcome.Returned None) o is) tt
    returned_word (Some (Value.Int n)) o is = subst IsReturned (same_ok (Outcome.Returned (Some n)) o is) tt
    returned_word (Some Value.Poison) o is = absurd (cc)
    returned_word (Some (Value.Ptr p)) o is = absurd (cc)

    same_events : (es : List Event) → map (moved_event (λ d. d)) es ≡ es
    same_events [] = refl
    same_events (x ∷ es) = ap (λ (ys : List Event). x ∷ ys) (same_events es)

    nothing : (n : ℕ) → n + 0 ≡ n
    nothing n = omega arith

    none_held : held_blocks e (s.top ∷ s.below) ((at_front e s t).top ∷ t.below) ≡ 0
    none_held =
        held_more e s.below t.below s.top (at_front e s t).top k.held ∙ (λ j. held_blocks e (last j) (last_too j))

    over_alike : (o : Outcome) → outcome_of v ≡ Ok o
        → HaveReturned (record (returned s) { outcome = o }) (record (returned t) { outcome = o })
    over_alike o is = record {
      returned = returned_word v o is;
      outcome = refl;
      events = r.beside.world.events ∙ same_events s.world.events;
      allocs = r.beside.allocs
          ∙ ((λ j. capped (t.world.allocs + (sym (count_dead e s t r ended) j + none_held j)))
          ∙ ap (λ (n : ℕ). capped (t.world.allocs + n)) (nothing (given_frames (returned t))));
    }

    does : framed_step (framed e) s ≡ or_undefined (framed e).given s (over s (outcome_of v))
    does =
        ap (framed_advance (framed e) s) k.runs
        ∙ (ap (λ (z : Fetched). or_undefined (framed e).given s (framed_next (framed e) s z)) there
        ∙ ap (or_undefined (framed e).given s) comes)

    by_outcome : (x : Result Outcome Cause) → outcome_of v ≡ x
        → HaveReturned (framed_step (framed e) s) (framed_step (elided e) t)
    by_outcome (Err cause) is =
        absurd (subst (λ (z : State). IsFine z.outcome)
        (does ∙ ap (λ (x : Result Outcome Cause). or_undefined (framed e).given s (over s x)) is) fine)
    by_outcome (Ok o) is =
        subst (λ (p : State × State). HaveReturned p.0 p.1)
        (λ j. (
          sym (stepped (framed e) s (record (returned s) { outcome = o }) (AtTerm (Terminator.Ret k.value)) k.runs there
              (comes ∙ ap (over s) is)) j,
          sym (stepped (elided e) t (record (returned t) { outcome = o }) (AtTerm (Terminator.Ret k.value))
              (r.beside.outcome ∙ k.runs) there_too (comes_too ∙ ap (over t) (alike k.value o k.reads is))) j,
        ))
        (over_alike o is)

    pub runs_return : HaveReturned (framed_step (framed e) s) (framed_step (elided e) t)
    runs_return = by_outcome (outcome_of v) refl

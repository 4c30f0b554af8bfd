-- A return is followed in the part: to the caller, or of the run.
use Rattle.std.proofs.Common.{◌≡◌, ℕ, ◌+◌, ◌≤◌, false, List, [], ◌∷◌, length, Option, Some, None, Result, Ok, Err, refl, sym, ap, ◌∙◌, subst, arith}
use Rattle.std.proofs.lemmas.Bool.{false≢true}
use Rattle.std.specs.Prelude.{unwrap_or}
use Rattle.pass_proofs.specs.ir_base.declared.cause.Cause.{Cause}
use Rattle.pass_proofs.specs.ir_base.declared.outcome.Outcome.{Outcome}
use Rattle.pass_proofs.specs.ir_model.Names.{function_at}
use Rattle.pass_proofs.specs.ir_model.declared.instr.Terminator.{Terminator}
use Rattle.pass_proofs.specs.ir_model.declared.operand.Arg.{Arg}
use Rattle.pass_split_proof.proofs.simulation.Knowing.{back_knows, over_knows}
use Rattle.pass_split_proof.specs.simulation.Knowing.{KnowsGiven}
use Rattle.pass_split_proof.proofs.branching.Terminators.{code}
use Rattle.pass_split_proof.proofs.steps.Calls.{ext, frames_gone, homes_stay, length_gone, returns_related, world_gone}
use Rattle.pass_split_proof.proofs.steps.Followed.{framed_does, one_followed}
use Rattle.pass_split_proof.proofs.steps.Operands.{operand_stands}
use Rattle.pass_split_proof.proofs.steps.Settled.{plain_does}
use Rattle.pass_split_proof.proofs.steps.Slots.{more_slots}
use Rattle.pass_split_proof.specs.branching.Terminators.{IsAtTerm}
use Rattle.pass_split_proof.specs.simulation.Followed.{IsFollowed}
use Rattle.pass_split_proof.specs.states.Activations.{AreAllWaiting, IsWaiting, is_entering}
use Rattle.pass_split_proof.specs.states.Memories.{homes_of}
use Rattle.pass_split_proof.specs.states.Related.{AreRelated, credit_of, left_of_call, left_of_calls}
use Rattle.pass_split_proof.specs.states.Values.{AreValuesOf}
use Rattle.pass_proofs.specs.run_agreement.Machines.{IsFine}
use Rattle.pass_proofs.specs.run_framed.Framed.{FramedGiven, framed_step}
use Rattle.pass_proofs.specs.run_laws.memory.Pointers.{Home, IsValue}
use Rattle.pass_proofs.specs.run_memory.declared.pointer.Value.{Value}
use Rattle.run_access_worked.specs.run_plain.Plain.{PlainGiven, plain_given_back, plain_or_undefined, plain_pop, plain_returned, plain_step}
use Rattle.run_access_worked.specs.run_plain.declared.state.PlainActivation.{PlainActivation}
use Rattle.run_access_worked.specs.run_plain.declared.state.PlainState.{PlainState}
use Rattle.pass_proofs.specs.run_source.Source.{given_back, pop, return, returned}
use Rattle.pass_proofs.specs.run_source.State.{function_of, or_undefined}
use Rattle.pass_proofs.specs.run_source.declared.state.Activation.{Activation}
use Rattle.pass_proofs.specs.run_source.declared.state.State.{State}
use Rattle.pass_proofs.specs.run_step.Results.{and_then}
use Rattle.pass_proofs.specs.run_step.Step.{AtTerm, Return, outcome_of}
use Rattle.pass_proofs.specs.run_step.Values.{arg_value}

-- ---- the run is over

module _ (g : FramedGiven) (h : PlainGiven) (s : State) (t : PlainState) (r : AreRelated g h s t)
    (settled : is_entering s.top.mode ≡ false) where
  -- both runs are over, and show the same
  pub over_related : (o : Outcome) → s.below ≡ [] → t.below ≡ []
      → AreRelated g h (record (returned s) { outcome = o }) (record (plain_returned t) { outcome = o })
  over_related o none none_too = record {
    outcome = refl;
    globals = subst (λ (k : ℕ). length g.given.code.globals ≤ k) (sym (length_gone s.top.slots s.world.memory))
        r.globals;
    world = world_gone g h s t r None None;
    frames = frames_gone g h s t r None None;
    top = record {
      shape = r.top.shape;
      part = r.top.part;
      coded = r.top.coded;
      shaped = r.top.shaped;
      runs = r.top.runs;
      func = r.top.func;
      place = more_slots r.top.shape r.top.part (function_at g.given.code s.top.func) (function_at h.code t.top.func)
          s.top t.top [] [] s.top.mode r.top.place;
      values = subst (λ (hs : List Home). AreValuesOf (function_at g.given.code s.top.func) hs s.top.values t.top.values)
          (homes_stay g h s t r None None) r.top.values;
      whole = r.top.whole;
      room = r.top.room;
      frame = λ i own. let f = r.top.frame i own
          in record { instance = f.instance; there = f.there; coroutine = f.coroutine; is = f.is };
      result = r.top.result;
      slots = refl;
      own = λ c. tt;
    };
    below = subst (λ (rows : List Activation). AreAllWaiting g h.code s.instances (homes_of (returned s).world.memory)
        s.top.result rows t.below) (sym none)
        (subst (λ (bs : List PlainActivation). AreAllWaiting g h.code s.instances (homes_of (returned s).world.memory)
        s.top.result [] bs) (sym none_too) tt);
    making = λ from label e. absurd (false≢true (sym settled ∙ ap is_entering e));
  }

-- ---- a return of both runs

module _ (g : FramedGiven) (h : PlainGiven) (s : State) (t : PlainState) (r : AreRelated g h s t)
    (runs : s.outcome ≡ Outcome.Running) (fine : IsFine (framed_step g s).outcome)
    (z : State) (rz : AreRelated g h z t) (settled : is_entering z.top.mode ≡ false)
    (low : credit_of z ≤ credit_of s) (v u : Option Value)
    (stands : IsValue (homes_of z.world.memory) (unwrap_or v Value.Poison) (unwrap_or u Value.Poison))
    (same : (o : Outcome) → outcome_of v ≡ Ok o → outcome_of u ≡ Ok o)
    (ours : framed_step g s ≡ or_undefined g.given s (return z v))
    (theirs : plain_step h t ≡ plain_or_undefined h t (plain_pop (plain_returned t) u t.below))
    (knows : KnowsGiven g s t → KnowsGiven g z t) where
  -- of the run
  over_by : (x : Result Outcome Cause) → outcome_of v ≡ x → z.below ≡ [] → t.below ≡ [] → IsFollowed g h s t
  over_by (Err c) e none none_too = absurd (subst (λ (y : State). IsFine y.outcome) (ours
      ∙ ap (λ (rows : List Activation). or_undefined g.given s (pop (returned z) v rows)) none
      ∙ ap (λ (x : Result Outcome Cause). or_undefined g.given s (and_then x (λ (o : Outcome).
      Ok (record (returned z) { outcome = o })))) e) fine)
  over_by (Ok o) e none none_too = one_followed g h s t r runs (record (returned z) { outcome = o })
      (record (plain_returned t) { outcome = o })
      (ours
      ∙ ap (λ (rows : List Activation). or_undefined g.given s (pop (returned z) v rows)) none
      ∙ ap (λ (x : Result Outcome Cause). or_undefined g.given s (and_then x (λ (o : Outcome).
      Ok (record (returned z) { outcome = o })))) e)
      (theirs
      ∙ ap (λ (bs : List PlainActivation). plain_or_undefined h t (plain_pop (plain_returned t) u bs)) none_too
      ∙ ap (λ (x : Result Outcome Cause). plain_or_undefined h t (and_then x (λ (o : Outcome).
      Ok (record (plain_returned t) { outcome = o })))) (same o e))
      low (over_related g h z t rz settled o none none_too)
      (λ know. over_knows g z t (ext g h z t rz None None) o o (knows know))

  -- to the activation below
  back_to : (a : Activation) (rest : List Activation) (b : PlainActivation) (bs : List PlainActivation)
      → z.below ≡ a ∷ rest → t.below ≡ b ∷ bs
      → IsWaiting g h.code z.instances (homes_of z.world.memory) z.top.result a b
      → AreAllWaiting g h.code z.instances (homes_of z.world.memory) a.result rest bs → IsFollowed g h s t
  back_to a rest b bs ours_below theirs_below waits all = one_followed g h s t r runs
      (record (returned z) { top = given_back a z.top.result v; below = rest })
      (record (plain_returned t) { top = plain_given_back b t.top.result u; below = bs })
      (ours ∙ ap (λ (rows : List Activation). or_undefined g.given s (pop (returned z) v rows)) ours_below)
      (theirs ∙ ap (λ (cs : List PlainActivation). plain_or_undefined h t (plain_pop (plain_returned t) u cs))
      theirs_below)
      (more (left_of_calls (a ∷ rest)) (left_of_call z.top) (left_of_calls z.below) (credit_of s)
      (ap left_of_calls ours_below) low)
      (returns_related g h z t rz v u a b waits stands rest bs all)
      (λ know. back_knows g z t (ext g h z t rz None None) v u a rest b bs ours_below theirs_below rz.top.result
      (knows know))
    where
      more : (n k l c : ℕ) → l ≡ n → k + l ≤ c → n ≤ c
      more n k l c e le = omega (arith, e, le)

  by_below : (rows : List Activation) (bs : List PlainActivation) → z.below ≡ rows → t.below ≡ bs
      → AreAllWaiting g h.code z.instances (homes_of z.world.memory) z.top.result rows bs → IsFollowed g h s t
  by_below [] [] e f waits = over_by (outcome_of v) refl e f
  by_below [] (b ∷ bs) e f waits = absurd waits
  by_below (a ∷ rest) [] e f waits = absurd waits
  by_below (a ∷ rest) (b ∷ bs) e f waits = back_to a rest b bs e f waits.0 waits.1

  pub both_return : IsFollowed g h s t
  both_return = by_below z.below t.below refl refl rz.below

-- ---- at a return

module _ (g : FramedGiven) (h : PlainGiven) (s : State) (t : PlainState) (r : AreRelated g h s t)
    (runs : s.outcome ≡ Outcome.Running) (fine : IsFine (framed_step g s).outcome) where
  reach : (n : ℕ) → n ≤ n
  reach n = omega arith

  -- words that stand for each other give the same outcome
  same_outcome : (v u : Value) → IsValue (homes_of s.world.memory) v u → (o : Outcome)
      → outcome_of (Some v) ≡ Ok o → outcome_of (Some u) ≡ Ok o
  same_outcome (Value.Int x) u stands o e = ap (λ (w : Value). outcome_of (Some w)) stands ∙ e
  same_outcome Value.Poison u stands o e = absurd (cc)
  same_outcome (Value.Ptr p) u stands o e = absurd (cc)

  pub return_followed : (value : Option Arg) → IsAtTerm g h s t r (Terminator.Ret value) → IsFollowed g h s t
  return_followed None k = both_return g h s t r runs fine s r k.settled (reach (credit_of s)) None None tt (λ o e. e)
      (framed_does g s (AtTerm (Terminator.Ret None)) (Return None) runs k.there refl refl)
      (plain_does h t (AtTerm (Terminator.Ret None)) (Return None) (r.outcome ∙ runs)
      (code g h s t r (Terminator.Ret None) runs fine k).0 refl) (λ know. know)
  return_followed (Some arg) k =
      let v = arg_value g.given.code s.top.values arg in
      let u = arg_value h.code t.top.values arg in
      let stands : IsValue (homes_of s.world.memory) v u = operand_stands g.given.code h.code (function_of g.given s)
      (length s.world.memory) s.top.values t.top.values r.globals r.top.values arg.value k.readable.0 arg.ty in
      both_return g h s t r runs fine s r k.settled (reach (credit_of s)) (Some v) (Some u) stands (same_outcome v u stands)
      (framed_does g s (AtTerm (Terminator.Ret (Some arg))) (Return (Some v)) runs k.there refl refl)
      (plain_does h t (AtTerm (Terminator.Ret (Some arg))) (Return (Some u)) (r.outcome ∙ runs)
      (code g h s t r (Terminator.Ret (Some arg)) runs fine k).0 refl) (λ know. know)

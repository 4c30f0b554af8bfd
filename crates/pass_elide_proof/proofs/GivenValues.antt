-- An instruction gives a value in both runs.
use Rattle.std.proofs.Common.{◌≡◌, ◌+◌, ◌∙◌, ◌∷◌, [], ap, Bool, false, None, Ok, Option, refl, subst, sym, true, ℕ, if◌then◌else◌}
use Rattle.pass_elide.specs.declared.given.GivenFrame.{GivenFrame}
use Rattle.pass_elide_proof.proofs.Apart.{apart_same}
use Rattle.pass_elide_proof.proofs.Callers.{behind, behind_too, caller, callers_apart, callers_held, ours, theirs}
use Rattle.pass_elide_proof.proofs.GivenBack.{given_back_beside, held_stays}
use Rattle.pass_elide_proof.proofs.LedBack.{led_back}
use Rattle.pass_elide_proof.proofs.Sized.{stepped}
use Rattle.pass_elide_proof.specs.Calling.{AreReady, HoldsStill, at_front}
use Rattle.pass_elide_proof.specs.Counts.{capped, given_frames}
use Rattle.pass_elide_proof.specs.Elision.{Elision, elided, framed, function_in, rooms}
use Rattle.pass_elide_proof.specs.Invariant.{HasCaller}
use Rattle.pass_elide_proof.specs.Match.{AreElided, AreModes, Given, HoldApart, Same, held_blocks, held_name, holds_one, is_given_mode, sides}
use Rattle.pass_elide_proof.specs.Places.{elided_instr, name_at}
use Rattle.pass_elide_proof.specs.Returning.{GoesOnBehind, IsAtLeftEnd, LeadsBack, MayEnd, SetsAlike}
use Rattle.pass_proofs.specs.ir_model.declared.instr.Instr.{Instr}
use Rattle.pass_proofs.specs.ir_model.declared.operand.Callee.{Callee}
use Rattle.pass_proofs.specs.ir_model.declared.operand.Intrinsic.{Intrinsic}
use Rattle.pass_proofs.specs.run_framed.Framed.{FramedGiven, framed_finish, framed_next, framed_step}
use Rattle.pass_proofs.specs.run_laws.memory.Pointers.{IsValue}
use Rattle.pass_proofs.specs.run_memory.declared.pointer.Value.{Value}
use Rattle.pass_proofs.specs.run_source.Source.{after_end}
use Rattle.pass_proofs.specs.run_source.State.{function_of, gives}
use Rattle.pass_proofs.specs.run_source.declared.state.Activation.{Activation}
use Rattle.pass_proofs.specs.run_source.declared.state.Instance.{Instance}
use Rattle.pass_proofs.specs.run_source.declared.state.Mode.{Mode}
use Rattle.pass_proofs.specs.run_source.declared.state.State.{State}
use Rattle.pass_proofs.specs.run_step.Step.{AtInstr, fetch}
use Rattle.pass_proofs.specs.run_step.Values.{truth_value, with_result}

module _ (e : Elision) (s t : State) (r : AreReady e s t) (holds : HoldsStill e s) (result : Option ℕ)
    (sets : SetsAlike e (record s.top { at = s.top.at + 1 }) result) (v u : Value)
    (stands : IsValue r.beside.homes v u) where
  abbrev ours_now : Activation
  ours_now = record s.top { at = s.top.at + 1; values = with_result s.top.values result v }

  abbrev theirs_now : Activation
  theirs_now = record t.top { at = t.top.at + 1; values = with_result t.top.values result u }

  same_name : (b : Bool) → held_name e b ours_now ≡ held_name e b (behind e s t r)
  same_name true = refl
  same_name false = refl

  once : HoldApart e (ours_now ∷ s.below) (theirs_now ∷ t.below)
  once =
      apart_same e s.below t.below (behind e s t r) (behind_too e s t r) ours_now theirs_now
      (same_name (is_given_mode t.top.mode))
      (λ w is. held_stays e r.beside.homes r.beside.hides (sides s t) (behind e s t r) (behind_too e s t r)
      (caller e s t r holds)
      r.block result sets v u stands w is) (callers_apart e s t r holds)

  same_held : held_blocks e (s.top ∷ s.below) ((at_front e s t).top ∷ t.below)
      ≡ held_blocks e (ours_now ∷ s.below) (theirs_now ∷ t.below)
  same_held =
      sym (callers_held e s t r holds)
      ∙ ap (λ (o : Option ℕ). holds_one o + held_blocks e s.below t.below) (sym (same_name (is_given_mode t.top.mode)))

  pub gives_beside : AreElided e (gives s result v) (gives t result u)
  gives_beside = record {
    homes = r.beside.homes;
    hides = r.beside.hides;
    world = r.beside.world;
    known = r.beside.known;
    globals = r.beside.globals;
    hidden = r.beside.hidden;
    mates = r.beside.mates;
    count = r.beside.count;
    instances = r.beside.instances;
    top = given_back_beside e r.beside.homes r.beside.hides (sides s t) (behind e s t r) (behind_too e s t r)
        (caller e s t r holds)
        r.block result sets v u stands;
    below = r.beside.below;
    once = once;
    allocs = r.beside.allocs ∙ ap (λ (n : ℕ). capped (t.world.allocs + (given_frames t + n))) same_held;
    outcome = r.beside.outcome;
  }

-- ---- the end behind a suspend

module _ (e : Elision) (s t : State) (r : AreReady e s t) (k : IsAtLeftEnd e s t) where
  abbrev i : Instr
  i = Instr.Call k.result k.must_tail k.ty (Callee.Intrinsic Intrinsic.CoroEnd) k.args

  ends : (g : FramedGiven) (z w : State) → z.top.has_left ≡ true → after_end z k.result z.top.mode ≡ Ok w
      → framed_next g z (AtInstr i) ≡ Ok w
  ends g z w left on =
      ap (λ (b : Bool). after_end (if b then z else framed_finish z) k.result z.top.mode) left ∙ on

  other_left : t.top.has_left ≡ true
  other_left = r.beside.top.has_left ∙ k.left

  there_too : fetch (function_of (elided e).given t) t.top.block t.top.at ≡ AtInstr i
  there_too =
      theirs e s t r i k.there
      ∙ ap (λ (o : Option GivenFrame). AtInstr (elided_instr (name_at (rooms e s.top.func)
      (function_in e s.top.func) s.top.block s.top.at) o i)) k.none

  -- both go on to such states
  both_end : (a b : State) → after_end s k.result s.top.mode ≡ Ok a → after_end t k.result t.top.mode ≡ Ok b
      → AreElided e a b → AreElided e (framed_step (framed e) s) (framed_step (elided e) t)
  both_end a b ours_end theirs_end beside =
      subst (λ (p : State × State). AreElided e p.0 p.1)
      (λ j. (
        sym (stepped (framed e) s a (AtInstr i) k.runs (ours e s t r i k.there)
            (ends (framed e) s a k.left ours_end)) j,
        sym (stepped (elided e) t b (AtInstr i) (r.beside.outcome ∙ k.runs) there_too
            (ends (elided e) t b other_left theirs_end)) j,
      ))
      beside

  -- a ramp goes on behind its end, wherever its frame lies
  goes_on : (z : State) (m m' : Mode) → AreModes m m' → m ≡ Mode.Ramp
      → after_end z k.result m' ≡ Ok (gives z k.result (truth_value false))
  goes_on z _ _ (Same mode allocates) is = ap (after_end z k.result) is
  goes_on z _ _ (Given block offset) is = refl

  pub ramps_go_on : GoesOnBehind e s k.result → AreElided e (framed_step (framed e) s) (framed_step (elided e) t)
  ramps_go_on on =
      both_end (gives s k.result (truth_value false)) (gives t k.result (truth_value false))
      (ap (after_end s k.result) on.ramp) (goes_on t s.top.mode t.top.mode r.beside.top.mode on.ramp)
      (gives_beside e s t r on.holds k.result on.sets (truth_value false) (truth_value false) refl)

  -- an activation that was resumed returns
  same_mode : (m m' : Mode) → AreModes m m' → m ≡ Mode.Resumed → m' ≡ Mode.Resumed
  same_mode _ _ (Same mode allocates) is = is
  same_mode _ _ (Given block offset) is = absurd (cc)

  module _ (back : LeadsBack e s t) where
    resumed_too : t.top.mode ≡ Mode.Resumed
    resumed_too = same_mode s.top.mode t.top.mode r.beside.top.mode back.resumed

    -- a coroutine gives no alloca
    alone : (y : Instance) (number : ℕ) → HasCaller e t.world.memory y number t.top [] → ⊥
    alone y number h =
        not_both ((function_in e s.top.func).coroutine) back.coroutine
        (ap (λ (func : ℕ). (function_in e func).coroutine) (sym r.beside.top.func) ∙ h.site.plain)
      where
        not_both : (b : Bool) → b ≡ true → b ≡ false → ⊥
        not_both true y n = absurd (cc)
        not_both false y n = absurd (cc)

    ended : MayEnd e s t
    ended = record {
      held = ap (λ (m : Mode). held_name e (is_given_mode m) s.top) resumed_too;
      alone = alone;
      ours = back.ours;
      theirs = back.theirs;
      callers = back.callers;
      freed = back.freed;
    }

    pub resumed_lead_back : AreElided e (framed_step (framed e) s) (framed_step (elided e) t)
    resumed_lead_back =
        let led = led_back e s t r ended None None tt back.returns in
        both_end led.0 led.1.0 (ap (after_end s k.result) back.resumed ∙ led.1.1.0)
        (ap (after_end t k.result) resumed_too ∙ led.1.1.1.0) led.1.1.1.1

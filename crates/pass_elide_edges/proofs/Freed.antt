-- Behind the new allocas of a function that has just been entered slots have blocks of their own, and what its caller
-- holds no more was freed.
use Rattle.std.proofs.Common.{◌≡◌, ◌⊎◌, ◌<◌, ◌≤◌, ◌+◌, ◌++◌, inl, inr, ℕ, zero, suc, true, false, List, [], ◌∷◌, length, length-append, refl, sym, ap, ◌∙◌, subst, arith}
use Rattle.std.specs.Prelude.{codes}
use Rattle.pass_elide.specs.Elided.{elided_function, function_frames}
use Rattle.pass_elide_edges.proofs.StepMoves.{IsThere}
use Rattle.pass_elide_edges.specs.States.{WereGiven}
use Rattle.pass_elide_proof.proofs.GivingMarkers.{markers_same}
use Rattle.pass_elide_proof.proofs.Making.{HasMade, all_made, made_at, on_the_way}
use Rattle.pass_elide_proof.proofs.Modules.{finds_alike}
use Rattle.pass_elide_proof.proofs.MoreBlocks.{given_more}
use Rattle.pass_elide_proof.proofs.OwnSlots.{counted_own, step_counts}
use Rattle.pass_elide_proof.proofs.CallersPlaces.{no_slots}
use Rattle.pass_elide_proof.proofs.Stacks.{IsLiveIn, called_over, called_under}
use Rattle.pass_elide_proof.proofs.Standing.{has_code}
use Rattle.pass_elide_proof.specs.Calling.{IsAtFront}
use Rattle.pass_elide_proof.specs.Elision.{Elision, elided, function_in, function_in_elided, rooms}
use Rattle.pass_elide_proof.specs.Invariant.{HasCaller, IsCalledIn}
use Rattle.pass_elide_proof.specs.Match.{AreElided}
use Rattle.pass_elide_proof.specs.OwnSlots.{CountsSlots, HaveNoSlots}
use Rattle.pass_elide_proof.specs.Places.{allocas_ahead}
use Rattle.pass_elide_proof.specs.Returning.{AreFreed, HaveOwnSlots}
use Rattle.pass_elide_proof.specs.Stepping.{IsKnownStep, fronted, steps_of}
use Rattle.pass_elide_proof.proofs.pass_proofs.ir_laws.facts.Lists.{get_before}
use Rattle.pass_elide_proof.specs.pass_proofs.ir_base.declared.outcome.Outcome.{Outcome}
use Rattle.pass_elide_proof.specs.pass_proofs.ir_model.Names.{numbered}
use Rattle.pass_elide_proof.specs.pass_proofs.ir_model.declared.instr.Instr.{Instr}
use Rattle.pass_elide_proof.specs.pass_proofs.ir_model.declared.module.Function.{Function}
use Rattle.pass_elide_proof.specs.pass_proofs.pass_fetch.Blocks.{numbered_names}
use Rattle.pass_elide_proof.specs.pass_proofs.run_agreement.Machines.{iterate}
use Rattle.pass_elide_proof.specs.pass_proofs.run_framed.Framed.{FramedGiven, framed_step}
use Rattle.pass_elide_proof.specs.pass_proofs.run_laws.access.Lines.{StandAt}
use Rattle.pass_elide_proof.specs.pass_proofs.run_source.State.{function_of}
use Rattle.pass_elide_proof.specs.pass_proofs.run_source.declared.state.Instance.{Instance}
use Rattle.pass_elide_proof.specs.pass_proofs.run_source.declared.state.State.{State}
use Rattle.pass_elide_proof.specs.pass_proofs.run_step.Step.{has_markers}

names_many : (word : List ℕ) (k : ℕ) → length (numbered_names word k) ≡ k
names_many word zero = refl
names_many word (suc k) =
    let rest = names_many word k in
    let long = length-append (numbered_names word k) (numbered word k ∷ []) in
    omega (arith, rest, long)

-- slots keep their blocks over steps in which instances have none
counts_on : (g : FramedGiven) (n : ℕ) (t : State) → ((i : ℕ) → i < n → HaveNoSlots (iterate (framed_step g) i t))
    → CountsSlots t → CountsSlots (iterate (framed_step g) n t)
counts_on g zero t none h = h
counts_on g (suc n) t none h =
    counts_on g n (framed_step g t) (λ i lt. none (suc i) (omega (arith, lt)))
    (step_counts g t (none 0 (omega arith)) h)

module _ (e : Elision) (s t : State) (r : AreElided e s t) (at : IsAtFront e s t) where
  abbrev own : Function
  own = function_in e s.top.func

  abbrev is : List Instr
  is = allocas_ahead (rooms e s.top.func) (function_in e s.top.func)

  runs : t.outcome ≡ Outcome.Running
  runs = r.outcome ∙ at.runs

  same_function : function_of (elided e).given t ≡ elided_function (rooms e s.top.func) (function_in e s.top.func)
  same_function = ap (function_in_elided e) r.top.func ∙ (finds_alike e).functions s.top.func

  plain : (function_of (elided e).given t).coroutine ≡ false
  plain = ap (λ (h : Function). h.coroutine) same_function ∙ at.plain

  stand : StandAt (function_of (elided e).given t) t.top.block t.top.at is
  stand =
      subst (λ (p : Function × (ℕ × ℕ)). StandAt p.0 p.1.0 p.1.1 is)
      (λ j. (sym same_function j, (sym at.other_block j, sym at.other_at j)))
      ((has_code (rooms e s.top.func) own).allocas at.entry at.has_entry)

  unmarked : (v : ℕ) → length own.names ≤ v → has_markers (function_of (elided e).given t) v ≡ false
  unmarked v le =
      ap (λ (h : Function). has_markers h v) same_function ∙ (markers_same v (rooms e s.top.func) own ∙ at.marks v le)

  room : length own.names + length (function_frames (rooms e s.top.func) own) ≤ length t.top.values
  room =
      let names : length (function_in_elided e s.top.func).names
      ≡ length (elided_function (rooms e s.top.func) own).names
      = ap (λ (h : Function). length h.names) ((finds_alike e).functions s.top.func) in
      let more = length-append own.names
      (numbered_names (codes "$c.callee.") (length (function_frames (rooms e s.top.func) own))) in
      let many = names_many (codes "$c.callee.") (length (function_frames (rooms e s.top.func) own)) in
      let others = at.others in
      omega (arith, names, more, many, others)

  made : HasMade (elided e) t runs at.mode plain t.world.memory t.top.values t.top.slots t.top.at (length own.names) is
  made =
      all_made (elided e) t runs at.mode plain (length own.names) (function_frames (rooms e s.top.func) own)
      t.world.memory
      t.top.values t.top.slots t.top.at stand at.aligned unmarked room

  abbrev u : State
  u = made_at (elided e) t runs at.mode plain (t.world.memory ++ made.more) made.values' made.slots'
      (t.top.at + length is)

  -- ---- slots

  none_on : (i : ℕ) → i ≤ length is → HaveNoSlots (iterate (framed_step (elided e)) i t)
  none_on i le =
      let way = on_the_way (elided e) t runs at.mode plain (length own.names)
      (function_frames (rooms e s.top.func) own) t.world.memory t.top.values t.top.slots t.top.at stand at.aligned
      unmarked i le in
      subst HaveNoSlots (sym way.is) (no_slots e s t r)

  pub fronts_own : CountsSlots t → HaveOwnSlots (fronted e s t)
  fronts_own h =
      counted_own (fronted e s t) (counts_on (elided e) (length is) t (λ i lt. none_on i (omega (arith, lt))) h)

  -- and one step further
  pub fronts_counted : CountsSlots t → CountsSlots (iterate (framed_step (elided e))
      (length (allocas_ahead (rooms e s.top.func) (function_in e s.top.func)) + 1) t)
  fronts_counted h = counts_on (elided e) (length is + 1) t (λ i lt. none_on i (omega (arith, lt))) h

  -- ---- where it stands

  pub fronts_below : (fronted e s t).below ≡ t.below
  fronts_below = ap (λ (w : State). w.below) made.comes

  pub fronts_count : length (fronted e s t).instances ≡ length t.instances
  fronts_count = ap (λ (w : State). length w.instances) made.comes

  pub fronts_top : IsThere t.top (fronted e s t).top
  fronts_top =
      subst (λ (w : State). IsThere t.top w.top) (sym made.comes)
      (record { func = refl; block = refl; mode = refl; instance = refl })

  pub fronts_given : WereGiven t (fronted e s t)
  fronts_given =
      subst (WereGiven t) (sym made.comes)
      (record {
        each = λ number y there given.
            inl (record {
              instance = y;
              there = there;
              given = sym (given_more e s t r made.more number y there) ∙ given;
            });
      })

  -- ---- callers

  no_caller : (y : Instance) (number : ℕ) → HasCaller e t.world.memory y number t.top [] → ⊥
  no_caller y number h =
      let lt = h.slot.1 in
      let none : length t.top.slots ≡ 0 = ap length at.slots in
      omega (arith, lt, none)

  grown_lives : (b : ℕ) → IsLiveIn t.world.memory b → IsLiveIn (t.world.memory ++ made.more) b
  grown_lives b z = (z.0, get_before t.world.memory made.more b z.0 z.1, z.2)

  pub fronts_freed : AreFreed e s t → AreFreed e s (fronted e s t)
  fronts_freed h =
      subst (AreFreed e s) (sym made.comes)
      (λ number x y here there given over.
      further number x y
      (h number x y here there (sym (given_more e s t r made.more number y there) ∙ given) over))
    where
      further : (number : ℕ) (x y : Instance)
          → (x.freed ≡ true) ⊎ IsCalledIn e t.world.memory y number [] (t.top ∷ t.below)
          → (x.freed ≡ true) ⊎ IsCalledIn e (t.world.memory ++ made.more) y number [] (u.top ∷ t.below)
      further number x y (inl freed) = inl freed
      further number x y (inr called) =
          inr (called_over e t.world.memory (t.world.memory ++ made.more) y number (grown_lives y.block) []
          (u.top ∷ t.below)
          (called_under e t.world.memory y number t.top u.top t.below
          (record { func = refl; block = refl; result = refl; mode = refl; instance = refl; has_left = refl })
          (no_caller y number) called))

-- ---- behind a step of a known kind

pub slots_counted : (e : Elision) (s t : State) (r : AreElided e s t) (k : IsKnownStep e s t r) → CountsSlots t
    → CountsSlots (iterate (framed_step (elided e)) (steps_of e s t r k) t)
slots_counted e s t r (IsKnownStep.Waiting at) h = h
slots_counted e s t r (IsKnownStep.Going at) h = step_counts (elided e) t (no_slots e s t r) h
slots_counted e s t r (IsKnownStep.Fronting at place) h = fronts_counted e s t r at h
slots_counted e s t r (IsKnownStep.Standing at place) h = step_counts (elided e) t (no_slots e s t r) h

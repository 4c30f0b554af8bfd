-- Where both runs have returned, the first made one allocator call more for each instance whose frame was given.
use Rattle.std.proofs.Common.{◌≡◌, ◌+◌, ◌-◌, ◌≤◌, ◌∙◌, ◌⊎◌, ⊎_elim, inl, inr, ℕ, Bool, false, List, [], ◌∷◌, ap, arith, refl, subst, sym}
use Rattle.std.proofs.lemmas.Bool.{cases_lt}
use Rattle.pass_elide_proof.proofs.Assembly.{assembled}
use Rattle.pass_elide_proof.proofs.Checked.{checked_at, framed_stays}
use Rattle.pass_elide_proof.proofs.LastReturns.{runs_over_alone}
use Rattle.pass_elide_proof.specs.Assembling.{KnowsSteps, WaitsBehind, elided_after}
use Rattle.pass_elide_proof.specs.Checked.{checked_run}
use Rattle.pass_elide_proof.specs.Counts.{LosesCalls, capped, given_frames}
use Rattle.pass_elide_proof.specs.Elision.{Elision, elided, framed, function_in}
use Rattle.pass_elide_proof.specs.Invariant.{AreGivenBy}
use Rattle.pass_elide_proof.specs.Match.{AreBelow, Sides, held_blocks, held_name, holds_one, is_given_mode}
use Rattle.pass_elide_proof.specs.Statement.{AreRelated, AreRelatedOrOver, IsElisionOf, elided_run}
use Rattle.pass_proofs.proofs.run_agreement.Compose.{returned_fine}
use Rattle.pass_proofs.proofs.run_agreement.Runs.{iterate-add, over_stays, returned_over}
use Rattle.pass_proofs.specs.ir_base.declared.outcome.Word.{Word}
use Rattle.pass_proofs.specs.ir_model.declared.module.Module.{Module}
use Rattle.pass_proofs.specs.run_agreement.Machines.{IsReturned, Machine, Stays, iterate, state_at}
use Rattle.pass_proofs.specs.run_laws.memory.Pointers.{Home}
use Rattle.pass_proofs.specs.run_source.declared.state.Activation.{Activation}
use Rattle.pass_proofs.specs.run_source.declared.state.Instance.{Instance}
use Rattle.pass_proofs.specs.run_source.declared.state.Mode.{Mode}
use Rattle.pass_proofs.specs.run_source.declared.state.State.{State}

-- ---- states of a run that has returned

stays_until : {S : Type 0} (a : Machine S) → Stays a → (i n : ℕ) → i ≤ n → IsReturned (a.seen (state_at a i)).outcome
    → state_at a n ≡ state_at a i
stays_until a h i n le r =
    let e : n ≡ i + (n - i) = omega arith in
    ap (λ (j : ℕ). iterate a.step j a.start) e
    ∙ (iterate-add a.step i (n - i) a.start
    ∙ over_stays a h (n - i) (iterate a.step i a.start) (returned_over (a.seen (state_at a i)).outcome r))

same_state : {S : Type 0} (a : Machine S) → Stays a → (i n : ℕ) → IsReturned (a.seen (state_at a i)).outcome
    → IsReturned (a.seen (state_at a n)).outcome → state_at a n ≡ state_at a i
same_state a h i n p q =
    ⊎_elim (λ lt. stays_until a h i n (omega (arith, lt)) p) (λ le. sym (stays_until a h n i le q)) (cases_lt i n)

-- ---- a related state that has returned

none_below : (e : Elision) (homes : List Home) (hides : ℕ → Bool) (d : Sides) (bs cs : List Activation) → bs ≡ []
    → AreBelow e homes hides d bs cs → cs ≡ []
none_below e homes hides d [] [] is h = refl
none_below e homes hides d [] (c ∷ cs) is h = absurd h
none_below e homes hides d (b ∷ bs) cs is h = absurd (cc)

not_given : (e : Elision) (xs : List Instance) (c : Activation) → AreGivenBy e xs (c ∷ [])
    → is_given_mode c.mode ≡ false
not_given e xs c h = on c.mode refl
  where
    on : (m : Mode) → c.mode ≡ m → is_given_mode m ≡ false
    on (Mode.GivenRamp frame) is = absurd (h frame is)
    on Mode.Plain is = refl
    on Mode.Ramp is = refl
    on Mode.Resumed is = refl
    on (Mode.Entering from label) is = refl

holds_none : (e : Elision) (a c : Activation) (bs cs : List Activation) → bs ≡ [] → is_given_mode c.mode ≡ false
    → held_blocks e (a ∷ bs) (c ∷ cs) ≡ 0
holds_none e a c bs cs none calm =
    (λ j. holds_one (held_name e (calm j) a) + held_blocks e (none j) cs)

related_count : (e : Elision) (s t : State) → AreRelated e s t → s.below ≡ []
    → s.world.allocs ≡ capped (t.world.allocs + given_frames t)
related_count e s t r none =
    let gone = none_below e r.beside.homes r.beside.hides _ s.below t.below none r.beside.below in
    let calm = not_given e t.instances t.top
    (subst (λ (cs : List Activation). AreGivenBy e t.instances (t.top ∷ cs)) gone r.callers.ramps) in
    let held = holds_none e s.top t.top s.below t.below none calm in
    let same : given_frames t + held_blocks e (s.top ∷ s.below) (t.top ∷ t.below) ≡ given_frames t
    = omega (arith, held) in
    r.beside.allocs ∙ ap (λ (n : ℕ). capped (t.world.allocs + n)) same

-- ---- the runs

module _ (e : Elision) (source : Module) (most : ℕ) (is : IsElisionOf e source most)
    (waits : (func : ℕ) → WaitsBehind (function_in e func) (e.shape func)) (entry : ℕ) (args : List Word)
    (passes : State → Bool) (Keeps : State → State → Type 0) (knows : KnowsSteps e entry args passes Keeps) where
  counted_by : (s t : State) → AreRelatedOrOver e s t → IsReturned s.outcome → s.below ≡ []
      → (s.world.allocs ≡ capped (t.world.allocs + given_frames t)) × (t.outcome ≡ s.outcome)
  counted_by s t (inl r) over none = (related_count e s t r none, r.beside.outcome)
  counted_by s t (inr r) over none = (r.allocs, r.outcome)

  pub loses : LosesCalls (checked_run e passes entry args) (elided_run e entry args)
  loses i j ours theirs =
      let fine = returned_fine (state_at (checked_run e passes entry args) i).outcome ours in
      let same = checked_at e passes entry args i fine in
      let found = (assembled e source most is waits entry args passes Keeps knows).forward i fine in
      let k = found.steps in
      let counted = counted_by (state_at (checked_run e passes entry args) i) (elided_after e entry args k)
      found.related ours (ap (λ (s : State). s.below) same
      ∙ runs_over_alone (framed e) entry args i (subst (λ (s : State). IsReturned s.outcome) same ours)) in
      let last : elided_after e entry args j ≡ elided_after e entry args k
      = same_state (elided_run e entry args) (framed_stays (elided e)) k j
      (subst IsReturned (sym counted.1) ours) theirs in
      counted.0 ∙ ap (λ (t : State). capped (t.world.allocs + given_frames t)) (sym last)

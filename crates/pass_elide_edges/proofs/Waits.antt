-- The run that gives frames waits at the end of a block, or stands in a block of its own.
use Rattle.std.proofs.Common.{◌≡◌, ◌⊎◌, ◌<◌, inl, inr, ℕ, Bool, true, false, [], ◌∷◌, length, Option, refl, sym, ap, ◌∙◌, subst, arith}
use Rattle.std.specs.Prelude.{◌≢◌, None, Some, if◌then◌else◌}
use Rattle.pass_elide_edges.proofs.Alike.{each_at, held_none, meets_phis, unmade, unpassed}
use Rattle.pass_elide_edges.proofs.Staying.{ends_here, gives_none, jump_there, jumps_on, stays_too}
use Rattle.pass_elide_edges.specs.Keeping.{FreesThere, HasEdge, TakesBlock, KeepsEnds, LeavesNone, MeetsBehind, MeetsPlain, MeetsThere, SetsKnown, ShapesEnds}
use Rattle.pass_elide_edges.specs.States.{EndsReached, StandApart}
use Rattle.pass_elide_proof.proofs.Facts.{some_none}
use Rattle.pass_elide_proof.proofs.GivingNone.{own_same}
use Rattle.pass_elide_proof.proofs.PlacingFacts.{by_truth}
use Rattle.pass_elide_proof.proofs.PlacingQuestions.{way_on_place}
use Rattle.pass_elide_proof.specs.Edges.{GivesNone, IsHeldOn, StaysHeld, TakenHeld, label_from, phis_at}
use Rattle.pass_elide_proof.specs.EdgesFreeing.{IsAtFreed}
use Rattle.pass_elide_proof.specs.Elision.{Elision, Shape, differs_in, elided, framed, function_in, rooms}
use Rattle.pass_elide_proof.specs.Match.{AreMadeAlike, IsAtEnd, is_given_mode, sides, was_given}
use Rattle.pass_elide_proof.specs.Places.{instrs_of, own_at}
use Rattle.pass_elide_proof.specs.Placing.{KeepsPlaces}
use Rattle.pass_elide_proof.specs.Shapes.{AsksForFrame, JumpsTo}
use Rattle.pass_elide_proof.specs.Statement.{AreRelated}
use Rattle.pass_elide_proof.specs.Stepping.{IsAccompanied, IsKnownStep}
use Rattle.pass_elide_proof.proofs.pass_proofs.ir_laws.facts.Truth.{either}
use Rattle.pass_elide_proof.specs.pass_proofs.flow_blocks.Reach.{IsReached as IsReachedBlock}
use Rattle.pass_elide_proof.specs.pass_proofs.ir_base.declared.outcome.Outcome.{Outcome}
use Rattle.pass_elide_proof.specs.pass_proofs.ir_model.declared.instr.Terminator.{Terminator}
use Rattle.pass_elide_proof.specs.pass_proofs.ir_model.declared.module.Function.{Function}
use Rattle.pass_elide_proof.specs.pass_proofs.run_laws.changed.Changed.{Each}
use Rattle.pass_elide_proof.specs.pass_proofs.run_source.Source.{left_windows}
use Rattle.pass_elide_proof.specs.pass_proofs.run_source.State.{function_of}
use Rattle.pass_elide_proof.specs.pass_proofs.run_source.declared.state.State.{State}
use Rattle.pass_elide_proof.specs.pass_proofs.run_step.Step.{AtTerm, fetch, incoming_from}

same_some : (a b : ℕ) → Some a ≡ Some b → a ≡ b
same_some a b e = cc

module _ (e : Elision) (keeps : KeepsPlaces e) (ends : KeepsEnds e) (s t : State) (r : AreRelated e s t)
    (first : EndsReached e s) (apart : StandApart e (sides s t) s.top t.top) (runs : s.outcome ≡ Outcome.Running)
    (term : Terminator)
    (there : fetch (function_of (framed e).given s) s.top.block s.top.at ≡ AtTerm term)
    (k : ShapesEnds e s.top.func) where
  abbrev f : Function
  f = function_in e s.top.func

  abbrev x : Shape
  x = e.shape s.top.func

  abbrev q : AsksForFrame f x
  q = k.shape.asks

  func : t.top.func ≡ s.top.func
  func = r.beside.top.func

  none : GivesNone e s.top.func
  none = gives_none e keeps s.top.func k.shape.coroutine

  last : s.top.at ≡ length (instrs_of f s.top.block)
  last = ends_here e s runs term there

  -- over a jump
  edge_by : (block to : ℕ) (j : JumpsTo f block to) → s.top.block ≡ block → HasEdge f s.top.block j.label
  edge_by block to j same = record {
    term = Terminator.Jump j.label;
    stands =
        jump_there f block to j s.top.block (length (instrs_of f s.top.block)) term same
        ((λ i. fetch f s.top.block (sym last i)) ∙ there);
    leads = inl refl;
  }

  -- the other run waits at the end of a block
  module _ (stays : IsAtEnd e t.top) where
    other_last : (block : ℕ) → t.top.block ≡ block → t.top.at ≡ length (instrs_of f t.top.block)
    other_last block same =
        stays.at
        ∙ ((λ j. own_at (rooms e (func j)) (function_in e (func j)) t.top.block
        (length (instrs_of (function_in e (func j)) t.top.block)))
        ∙ own_same (rooms e s.top.func) f none t.top.block (length (instrs_of f t.top.block)))

    other_stays : (block label : ℕ) → t.top.block ≡ block → LeavesNone f block label
        → left_windows (elided e).given t label ≡ []
    other_stays block label same gives =
        stays_too e t s.top.func block label func same
        (other_last block same ∙ ap (λ (b : ℕ). length (instrs_of f b)) same) none gives

    -- ---- a given ramp passes by the block that allocates

    pub way_on_known : is_given_mode t.top.mode ≡ true → (e.shape s.top.func).waits s.top.block ≡ Some t.top.block
        → IsKnownStep e s t r.beside
    way_on_known given waits =
        IsKnownStep.Going
        (IsAccompanied.WayOn q q.jumps.label
        (way_on_place e keeps s t k.shape q.jumps.label
        (jumps_on e s runs term there q.allocates q.after q.jumps here k.ends.asking.stays_jumps) here
        (record { runs = runs; given = given; waits = waits; stays = stays })
        (other_stays q.asks q.other asks k.ends.asking.stays_passes)))
      where
        here : s.top.block ≡ q.allocates
        here = k.shape.waits s.top.block t.top.block waits

        asks : t.top.block ≡ q.asks
        asks = same_some t.top.block q.asks (sym waits ∙ (ap x.waits here ∙ q.waits))

    -- ---- an activation whose frame was given passes by the block that frees

    pub freed_known : was_given (sides s t) t.top ≡ true
        → (e.shape s.top.func).frees s.top.block ≡ Some t.top.block → IsKnownStep e s t r.beside
    freed_known given frees = by z.keeps.ways
      where
        z : FreesThere f x s.top.block
        z = k.ends.frees s.top.block t.top.block frees

        here : s.top.block ≡ z.frame.frees
        here = sym z.frees

        tests : t.top.block ≡ z.frame.tests
        tests = same_some t.top.block z.frame.tests (sym frees ∙ (ap x.frees here ∙ z.frame.waits))

        frees_none : (block : ℕ) → x.frees block ≡ None → s.top.block ≢ block
        frees_none block free is =
            some_none (x.frees s.top.block) t.top.block frees (ap x.frees is ∙ free)

        held : is_given_mode t.top.mode ≡ true → IsHeldOn e s z.frame.after
        held mode =
            subst (IsHeldOn e s) z.frame.jumps.leads
            (held_none f x q k.ends.asking s.top.block z.frame.jumps.label s.top.at s.top.values last
            (edge_by z.frame.frees z.frame.after z.frame.jumps here)
            (frees_none q.allocates k.ends.asking.unfreed) (frees_none q.after k.ends.asking.unfreed_behind)
            (apart.beside mode q))

        at : IsAtFreed e s t z.frame z.frame.jumps.label
        at = record {
          enters = jumps_on e s runs term there z.frame.frees z.frame.after z.frame.jumps here z.keeps.stays_jumps;
          frees = here;
          given = given;
          tests = tests;
          stands = stays;
          none = none;
          bare = z.keeps.bare_after;
          empty = z.keeps.bare_beside;
          stays = other_stays z.frame.tests (if z.frame.is_eq then z.frame.one else z.frame.other) tests
              z.keeps.stays_passes;
          held = held;
        }

        by : (z.frame.after ≡ z.frame.beside) ⊎ MeetsBehind f x z.frame → IsKnownStep e s t r.beside
        by (inl same) =
            IsKnownStep.Going (IsAccompanied.FreedStraight z.frame z.frame.jumps.label at same)
        by (inr meets) =
            IsKnownStep.Going (IsAccompanied.FreedAside z.frame z.frame.jumps.label at meets.aside)

  -- ---- both runs are in blocks of their own, and come to the same block

  module _ (given : was_given (sides s t) t.top ≡ true)
      (aside : (e.shape s.top.func).aside s.top.block ≡ Some t.top.block) (same_at : t.top.at ≡ s.top.at)
      (made : AreMadeAlike e r.beside.homes s.top t.top) where
    -- over a jump from each
    meeting : (one other to : ℕ) (joins : JumpsTo f one to) (meets : JumpsTo f other to) → s.top.block ≡ one
        → t.top.block ≡ other → length (instrs_of f one) ≡ length (instrs_of f other) → LeavesNone f one joins.label
        → LeavesNone f other meets.label → (differs : ℕ → Bool)
        → ((v : ℕ) → differs_in x (is_given_mode t.top.mode) (was_given (sides s t) t.top) v ≡ false
        → differs v ≡ false)
        → Each (MeetsPlain f x one other differs) (phis_at f to)
        → (is_given_mode t.top.mode ≡ true → IsHeldOn e s to) → IsKnownStep e s t r.beside
    meeting one other to joins meets here beside many stays stays_too' differs alike phis held =
        IsKnownStep.Going
        (IsAccompanied.Meeting joins.label to made (record {
          enters = jumps_on e s runs term there one to joins here stays;
          leads = joins.leads;
          meets = record {
            label = meets.label;
            stands = (λ j. fetch f (beside j) (length (instrs_of f (beside j)))) ∙ meets.stands;
            leads = meets.leads;
          };
          same = same_at;
          many = long;
          none = none;
          stays = stays_too e t s.top.func other meets.label func beside
              (same_at ∙ (last ∙ (sym long ∙ ap (λ (b : ℕ). length (instrs_of f b)) beside))) none stays_too';
          phis = meets_phis e s t differs alike last to (ends.phis s.top.func to)
              (subst (λ (p : ℕ × ℕ). Each (MeetsPlain f x p.0 p.1 differs) (phis_at f to))
              (λ j. (sym here j, sym beside j)) phis);
          held = held;
        }))
      where
        long : length (instrs_of f t.top.block) ≡ length (instrs_of f s.top.block)
        long =
            ap (λ (b : ℕ). length (instrs_of f b)) beside
            ∙ (sym many ∙ ap (λ (b : ℕ). length (instrs_of f b)) (sym here))

    abbrev taken : TakesBlock f x q
    taken = k.ends.asking.block

    -- behind the allocator's block
    asked_meet : s.top.block ≡ q.after → IsKnownStep e s t r.beside
    asked_meet here =
        by_truth (is_given_mode t.top.mode)
        (λ is_so. meeting q.after q.beside q.begins q.joins q.meets here beside q.many k.ends.asking.stays_joins
        k.ends.asking.stays_meets x.made
        (λ v. unmade x v (is_given_mode t.top.mode) (was_given (sides s t) t.top) is_so)
        (k.ends.asking.phis (subst (IsReachedBlock f (0 ∷ []) []) here first.reached))
        (λ mode. held))
        (λ never. absurd (apart.asked never q here beside))
      where
        beside : t.top.block ≡ q.beside
        beside = same_some t.top.block q.beside (sym aside ∙ (ap x.aside here ∙ q.aside))

        low : q.memory < length f.names
        low =
            subst (λ (n : ℕ). n < length f.names) taken.sets
            (each_at (SetsKnown f x) (phis_at f q.begins) (ends.phis s.top.func q.begins) taken.position taken.phi
            taken.there).known

        fits : q.memory < length s.top.values
        fits = subst (λ (n : ℕ). q.memory < n) (sym first.ends.known.acts.0.room) low

        held : IsHeldOn e s q.begins
        held =
            subst (λ (p : Option ℕ × Option ℕ). StaysHeld s.top.values (label_from f s.top.block)
            (phis_at f q.begins) p.0 p.1)
            (λ j. (
              sym (ap (λ (b : ℕ). x.holds b s.top.at) here ∙ q.held_behind s.top.at) j,
              sym (q.held_until 0 (omega arith)) j,
            ))
            (TakenHeld q.block q.memory taken.position taken.phi taken.there taken.sets
            (ap (λ (b : ℕ). incoming_from taken.phi.incoming (label_from f b)) here ∙ taken.takes) taken.once fits)

    -- behind a block that frees
    freed_meet : (s.top.block ≡ q.after → ⊥) → MeetsThere f x s.top.block → IsKnownStep e s t r.beside
    freed_meet not_after z =
        meeting z.frame.after z.frame.beside z.meets.aside.ends z.meets.aside.joins z.meets.aside.meets here beside
        z.meets.aside.many z.meets.stays_joins z.meets.stays_meets x.passed
        (λ v. unpassed x v (is_given_mode t.top.mode) (was_given (sides s t) t.top) given)
        (z.meets.phis (subst (IsReachedBlock f (0 ∷ []) []) here first.reached)) held
      where
        here : s.top.block ≡ z.frame.after
        here = sym z.after

        beside : t.top.block ≡ z.frame.beside
        beside = same_some t.top.block z.frame.beside (sym aside ∙ (ap x.aside here ∙ z.meets.aside.aside))

        not_allocates : s.top.block ≢ q.allocates
        not_allocates is =
            some_none (x.aside s.top.block) t.top.block aside (ap x.aside is ∙ k.ends.asking.alone)

        held : is_given_mode t.top.mode ≡ true → IsHeldOn e s z.meets.aside.ends
        held mode =
            subst (IsHeldOn e s) z.meets.aside.joins.leads
            (held_none f x q k.ends.asking s.top.block z.meets.aside.joins.label s.top.at s.top.values last
            (edge_by z.frame.after z.meets.aside.ends z.meets.aside.joins here) not_allocates not_after
            (apart.beside mode q))

    pub aside_known : IsKnownStep e s t r.beside
    aside_known = on (either s.top.block q.after)
      where
        by : (s.top.block ≡ q.after → ⊥) → (s.top.block ≡ q.after) ⊎ MeetsThere f x s.top.block
            → IsKnownStep e s t r.beside
        by ne (inl is) = absurd (ne is)
        by ne (inr z) = freed_meet ne z

        on : (s.top.block ≡ q.after) ⊎ (s.top.block ≡ q.after → ⊥) → IsKnownStep e s t r.beside
        on (inl is) = asked_meet is
        on (inr ne) = by ne (k.ends.asides s.top.block t.top.block aside)

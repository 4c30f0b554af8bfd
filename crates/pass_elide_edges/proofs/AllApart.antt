-- All pairs of activations stand apart behind steps at which both runs go on, call or return.
use Rattle.std.proofs.Common.{◌≡◌, ◌∙◌, ◌⊎◌, ◌<◌, ◌+◌, inl, inr, ℕ, Bool, true, false, List, [], ◌∷◌, length, suc, None, Option, Some, ap, arith, if◌then◌else◌, refl, subst, sym}
use Rattle.std.specs.Option.{option_map_or}
use Rattle.std.specs.Prelude.{slice_get}
use Rattle.pass_elide_edges.proofs.Bare.{framed_edge}
use Rattle.pass_elide_edges.proofs.EdgesApart.{edge_apart, entry_apart, no_branch, same_end, same_jump}
use Rattle.pass_elide_edges.proofs.Freed.{fronts_below, fronts_count, fronts_given, fronts_top}
use Rattle.pass_elide_edges.proofs.GivenStays.{were_given}
use Rattle.pass_elide_edges.proofs.StepMoves.{HasBegun, HasGone, HasMoved, HasReturned, IsOnTop, IsThere, TookEdge, step_moves, there_itself}
use Rattle.pass_elide_edges.specs.Keeping.{EntersAlone, HasEdge, KeepsEnds, ShapesEnds}
use Rattle.pass_elide_edges.specs.States.{AllStandApart, ApartIn, EndsFramed, StandAllApart, StandApart, WasGivenAt, WereGiven}
use Rattle.pass_elide_proof.proofs.CallersEdges.{goes_listed}
use Rattle.pass_elide_proof.proofs.CallersPlaces.{have_blocks}
use Rattle.pass_elide_proof.proofs.EdgeEntered.{code_of, end_at}
use Rattle.pass_elide_proof.proofs.Facts.{not_both, some_none}
use Rattle.pass_elide_proof.proofs.FrontsMade.{fronts_made}
use Rattle.pass_elide_proof.proofs.LeftWindows.{as_many}
use Rattle.pass_elide_proof.proofs.StepKinds.{one_more}
use Rattle.pass_elide_proof.specs.Elision.{Elision, Shape, elided, framed, function_in, no_shape, rooms}
use Rattle.pass_elide_proof.specs.Match.{AreBelow, AreElided, AreModes, Aside, Beside, Freeing, Given, IsAt, Same, Sides, Waiting, instance_in, is_given_mode, sides, was_given}
use Rattle.pass_elide_proof.specs.Places.{allocas_ahead}
use Rattle.pass_elide_proof.specs.PlacingStates.{PassesBy}
use Rattle.pass_elide_proof.specs.Shapes.{AsksForFrame}
use Rattle.pass_elide_proof.specs.Sound.{IsSoundAct}
use Rattle.pass_elide_proof.specs.Statement.{AreRelated}
use Rattle.pass_elide_proof.specs.Stepping.{IsKnownStep, fronted, steps_of}
use Rattle.pass_elide_proof.specs.Beginning.{IsKnownTo}
use Rattle.pass_elide_proof.proofs.pass_proofs.ir_laws.facts.Lists.{get_within}
use Rattle.pass_elide_proof.specs.pass_proofs.ir_base.declared.outcome.Outcome.{Outcome}
use Rattle.pass_elide_proof.specs.pass_proofs.ir_model.Names.{position_of}
use Rattle.pass_elide_proof.specs.pass_proofs.ir_model.declared.instr.Terminator.{Terminator}
use Rattle.pass_elide_proof.specs.pass_proofs.ir_model.declared.module.Function.{Function}
use Rattle.pass_elide_proof.specs.pass_proofs.ir_model.declared.operand.Operand.{Operand}
use Rattle.pass_elide_proof.specs.pass_proofs.run_agreement.Machines.{IsFine, iterate}
use Rattle.pass_elide_proof.specs.pass_proofs.run_framed.Framed.{framed_context, framed_step, is_given}
use Rattle.pass_elide_proof.specs.pass_proofs.run_laws.changed.Changed.{Each}
use Rattle.pass_elide_proof.specs.pass_proofs.run_laws.memory.Pointers.{Home}
use Rattle.pass_elide_proof.specs.pass_proofs.run_source.State.{function_of, work_of}
use Rattle.pass_elide_proof.specs.pass_proofs.run_source.declared.state.Activation.{Activation}
use Rattle.pass_elide_proof.specs.pass_proofs.run_source.declared.state.Instance.{Instance}
use Rattle.pass_elide_proof.specs.pass_proofs.run_source.declared.state.Mode.{Mode}
use Rattle.pass_elide_proof.specs.pass_proofs.run_source.declared.state.State.{State}
use Rattle.pass_elide_proof.specs.pass_proofs.run_step.Step.{fetch}

-- ---- what a pair is by

apart_to : (e : Elision) (n m : ℕ) (ramp other_ramp given other_given : Bool) (b block c other : ℕ) → m ≡ n
    → other_ramp ≡ ramp → (other_given ≡ true → given ≡ true) → block ≡ b → other ≡ c
    → ApartIn (function_in e n) (e.shape n) ramp given b c
    → ApartIn (function_in e m) (e.shape m) other_ramp other_given block other
apart_to e n m ramp other_ramp given other_given b block c other func mode was first second h =
    subst (λ (p : ℕ × (Bool × (ℕ × ℕ))).
    ApartIn (function_in e p.0) (e.shape p.0) p.1.0 other_given p.1.1.0 p.1.1.1)
    (λ j. (sym func j, (sym mode j, (sym first j, sym second j))))
    (record {
      beside = h.beside;
      after = h.after;
      asked = h.asked;
      tested = λ is. h.tested (was is);
      freed = λ is. h.freed (was is);
    })

-- ---- given frames

module _ (t u : State) (w : WereGiven t u) where
  pub given_then : (b : Bool) (o : Option ℕ) → ((n : ℕ) → o ≡ Some n → n < length t.instances)
      → (if b then true else option_map_or (is_given u.world.memory) (instance_in u.instances o) false) ≡ true
      → (if b then true else option_map_or (is_given t.world.memory) (instance_in t.instances o) false) ≡ true
  given_then true o known h = refl
  given_then false None known h = h
  given_then false (Some n) known h = by (slice_get u.instances n) refl h
    where
      by : (q : Option Instance) → slice_get u.instances n ≡ q
          → option_map_or (is_given u.world.memory) q false ≡ true
          → option_map_or (is_given t.world.memory) (slice_get t.instances n) false ≡ true
      by None is h = absurd (cc)
      by (Some y) is h = on (w.each n y is h)
        where
          on : WasGivenAt t n ⊎ ((n ≡ length t.instances) × (is_given_mode t.top.mode ≡ true))
              → option_map_or (is_given t.world.memory) (slice_get t.instances n) false ≡ true
          on (inl z) =
              ap (λ (q : Option Instance). option_map_or (is_given t.world.memory) q false) z.there ∙ z.given
          on (inr k) = let lt = known n refl in let at = k.0 in absurd (omega (arith, lt, at))

  -- the instance of the topmost activation has just begun
  pub begun_then : (b : Bool) → is_given_mode t.top.mode ≡ b → (o : Option ℕ)
      → (if b then true else option_map_or (is_given u.world.memory)
      (slice_get u.instances (length t.instances)) false)
      ≡ true
      → (if b then true else option_map_or (is_given t.world.memory) (instance_in t.instances o) false) ≡ true
  begun_then true mode o h = refl
  begun_then false mode o h = by (slice_get u.instances (length t.instances)) refl h
    where
      by : (q : Option Instance) → slice_get u.instances (length t.instances) ≡ q
          → option_map_or (is_given u.world.memory) q false ≡ true
          → option_map_or (is_given t.world.memory) (instance_in t.instances o) false ≡ true
      by None is h = absurd (cc)
      by (Some y) is h = on (w.each (length t.instances) y is h)
        where
          on : WasGivenAt t (length t.instances)
              ⊎ ((length t.instances ≡ length t.instances) × (is_given_mode t.top.mode ≡ true))
              → option_map_or (is_given t.world.memory) (instance_in t.instances o) false ≡ true
          on (inl z) =
              let lt = get_within t.instances (length t.instances) z.instance z.there in absurd (omega (arith, lt))
          on (inr k) = absurd (not_both (is_given_mode t.top.mode) k.1 mode)

  -- an activation that is still there
  pub was_given_then : (c d : Activation) → d.mode ≡ c.mode → d.instance ≡ c.instance → IsKnownTo t.instances c
      → (x y : State) → was_given (sides x u) d ≡ true → was_given (sides y t) c ≡ true
  was_given_then c d mode instance known x y given =
      given_then (is_given_mode c.mode) c.instance known
      ((λ j. if is_given_mode (sym mode j) then true
      else option_map_or (is_given u.world.memory) (instance_in u.instances (sym instance j)) false) ∙ given)

  -- all that are
  pub all_apart : (e : Elision) (x y : State) (rows others : List Activation) → Each (IsKnownTo t.instances) others
      → StandAllApart e (sides y t) rows others → StandAllApart e (sides x u) rows others
  all_apart e x y [] others known h = tt
  all_apart e x y (a ∷ more) [] known h = tt
  all_apart e x y (a ∷ more) (c ∷ others) known h = (
    apart_to e a.func a.func (is_given_mode c.mode) (is_given_mode c.mode) (was_given (sides y t) c)
        (was_given (sides x u) c) a.block a.block c.block c.block refl refl
        (was_given_then c c refl refl known.0 x y) refl refl h.0,
    all_apart e x y more others known.1 h.1,
  )

given_twice : (t v u : State) → WereGiven t v → is_given_mode v.top.mode ≡ is_given_mode t.top.mode
    → length v.instances ≡ length t.instances → WereGiven v u → WereGiven t u
given_twice t v u first mode count second = record {
  each = λ number y there given. on number (second.each number y there given);
}
  where
    on : (number : ℕ) → WasGivenAt v number ⊎ ((number ≡ length v.instances) × (is_given_mode v.top.mode ≡ true))
        → WasGivenAt t number ⊎ ((number ≡ length t.instances) × (is_given_mode t.top.mode ≡ true))
    on number (inl z) = first.each number z.instance z.there z.given
    on number (inr k) = inr (k.0 ∙ count, sym mode ∙ k.1)

-- ---- instances of activations are known

known_below : (e : Elision) (homes : List Home) (hides : ℕ → Bool) (d : Sides) (s t : State)
    (rows others : List Activation) → length t.instances ≡ length s.instances
    → AreBelow e homes hides d rows others → Each (IsSoundAct (framed e) s.world.memory s.instances) rows
    → Each (IsKnownTo t.instances) others
known_below e homes hides d s t [] [] many below sound = tt
known_below e homes hides d s t [] (c ∷ others) many below sound = absurd below
known_below e homes hides d s t (a ∷ rows) [] many below sound = absurd below
known_below e homes hides d s t (a ∷ rows) (c ∷ others) many below sound = (
  λ i is. let lt = sound.0.known i (sym below.0.1.instance ∙ is) in omega (arith, lt, many),
  known_below e homes hides d s t rows others many below.1 sound.1,
)

same_some : (a b : ℕ) → Some a ≡ Some b → a ≡ b
same_some a b e = cc

-- ---- the framed run stays in its block

module _ (e : Elision) (ends : KeepsEnds e) (s t : State) (r : AreElided e s t) (by : PassesBy e t t.top)
    (apart : StandApart e (sides s t) s.top t.top)
    (alone : EntersAlone (function_in e s.top.func) (e.shape s.top.func)) where
  abbrev g : Function
  g = function_in e s.top.func

  abbrev y : Shape
  y = e.shape s.top.func

  module _ (block : ℕ)
      (moves : (block ≡ t.top.block)
      ⊎ ((other : ℕ) × (HasEdge (function_in e s.top.func) t.top.block other)
      × (block ≡ position_of (function_in e s.top.func) other))) where
    -- where it was in no block of a kind, and no edge leads there
    came_not : (there : ℕ) → (t.top.block ≡ there → ⊥)
        → ((other : ℕ) → HasEdge g t.top.block other → position_of g other ≡ there → ⊥) → block ≡ there → ⊥
    came_not there was edges is = on moves
      where
        on : (block ≡ t.top.block)
            ⊎ ((other : ℕ) × (HasEdge g t.top.block other) × (block ≡ position_of g other)) → ⊥
        on (inl same) = was (sym same ∙ is)
        on (inr go) = edges go.0 go.1 (sym go.2 ∙ is)

    waits_none : is_given_mode t.top.mode ≡ true → y.waits t.top.block ≡ None
    waits_none mode = subst (λ (n : ℕ). (e.shape n).waits t.top.block ≡ None) r.top.func (by.waits mode)

    frees_none : was_given (sides s t) t.top ≡ true → y.frees t.top.block ≡ None
    frees_none given = subst (λ (n : ℕ). (e.shape n).frees t.top.block ≡ None) r.top.func (by.frees given)

    -- behind the allocator's block none frees
    unfreed : (k : AsksForFrame g y) → y.frees k.after ≡ None
    unfreed k = on (ends.shapes s.top.func)
      where
        on : (y ≡ no_shape) ⊎ ShapesEnds e s.top.func → y.frees k.after ≡ None
        on (inl none) = ap (λ (x : Shape). x.frees k.after) none
        on (inr z) =
            let q = z.shape.asks in
            let one : k.allocates ≡ q.allocates = z.shape.waits k.allocates k.asks k.waits in
            let jump = same_jump k.jumps.label q.jumps.label
            (same_end g y k.allocates q.allocates (Terminator.Jump k.jumps.label) (Terminator.Jump q.jumps.label) one
            k.jumps.stands q.jumps.stands) in
            let after : k.after ≡ q.after
            = sym k.jumps.leads ∙ (ap (position_of g) jump ∙ q.jumps.leads) in
            ap y.frees after ∙ z.ends.asking.unfreed_behind

    -- where one is behind the allocator's block, another one isn't where coro.alloc is asked
    not_asking : is_given_mode t.top.mode ≡ false → (k : AsksForFrame g y) → s.top.block ≡ k.after
        → t.top.block ≡ k.asks → ⊥
    not_asking mode k here asks = on r.top.place
      where
        on : IsAt e r.homes (was_given (sides s t) t.top) s.top t.top → ⊥
        on (Beside same at) =
            no_branch g y k.after k.asks k.begins k.one k.other (Operand.Local k.need) k.joins k.branch
            (sym here ∙ (sym same ∙ asks))
        on (Waiting given waits stays) = not_both (is_given_mode t.top.mode) given mode
        on (Freeing given frees stays) =
            some_none (y.frees s.top.block) t.top.block frees (ap y.frees here ∙ unfreed k)
        on (Aside given aside at made) =
            no_branch g y k.beside k.asks k.begins k.one k.other (Operand.Local k.need) k.meets k.branch
            (same_some k.beside t.top.block (sym k.aside ∙ (ap y.aside (sym here) ∙ aside)) ∙ asks)

    pub stays_apart : ApartIn (function_in e s.top.func) (e.shape s.top.func) (is_given_mode t.top.mode)
        (was_given (sides s t) t.top) s.top.block block
    stays_apart = record {
      beside = apart.beside;
      after = λ mode k. came_not k.after (apart.after mode k)
          (λ other edge at.
          let here = alone.into_after k t.top.block other edge at in
          some_none (y.waits t.top.block) k.asks (ap y.waits here ∙ k.waits) (waits_none mode));
      asked = λ mode k here. came_not k.beside (apart.asked mode k here)
          (λ other edge at. not_asking mode k here (alone.into_beside k t.top.block other edge at));
      tested = apart.tested;
      freed = λ given q aside. came_not q.after (apart.freed given q aside)
          (λ other edge at.
          let here = alone.into_freed q aside t.top.block other edge at in
          some_none (y.frees t.top.block) q.tests (ap y.frees here ∙ q.waits) (frees_none given));
    }

-- ---- what the second run does

-- It moves from a state in which the topmost activation is where it was.
pub record MovesOn (e : Elision) (t u : State) : Type 0 where
  pub from : State
  pub below : from.below ≡ t.below
  pub top : IsThere t.top from.top
  pub count : length from.instances ≡ length t.instances
  pub moved : HasMoved (elided e) from u
  pub given : WereGiven t u

given_itself : (t : State) → WereGiven t t
given_itself t = record {
  each = λ number y there given. inl (record { instance = y; there = there; given = given });
}

module _ (e : Elision) (s t : State) (r : AreElided e s t) (runs : s.outcome ≡ Outcome.Running)
    (fine : IsFine (framed_step (framed e) s).outcome) where
  one_step : t.outcome ≡ Outcome.Running → IsFine (framed_step (elided e) t).outcome
      → MovesOn e t (framed_step (elided e) t)
  one_step going well = record {
    from = t;
    below = refl;
    top = there_itself t.top;
    count = refl;
    moved = step_moves (elided e) t going well;
    given = were_given (elided e) t (have_blocks e s t r);
  }

  pub moves_on : (k : IsKnownStep e s t r)
      → AreElided e (framed_step (framed e) s) (iterate (framed_step (elided e)) (steps_of e s t r k) t)
      → MovesOn e t (iterate (framed_step (elided e)) (steps_of e s t r k) t)
  moves_on (IsKnownStep.Waiting at) next = record {
    from = t;
    below = refl;
    top = there_itself t.top;
    count = refl;
    moved = HasMoved.Goes refl (HasGone.Stays (there_itself t.top));
    given = given_itself t;
  }
  moves_on (IsKnownStep.Going at) next = one_step (r.outcome ∙ runs) (subst IsFine (sym next.outcome) fine)
  moves_on (IsKnownStep.Standing at place) next = one_step (r.outcome ∙ runs) (subst IsFine (sym next.outcome) fine)
  moves_on (IsKnownStep.Fronting at place) next =
      let n = length (allocas_ahead (rooms e s.top.func) (function_in e s.top.func)) in
      let q = fronts_made e s t r at in
      let w = fronted e s t in
      let there = fronts_top e s t r at in
      subst (MovesOn e t) (sym (one_more e n t))
      (record {
        from = w;
        below = fronts_below e s t r at;
        top = there;
        count = fronts_count e s t r at;
        moved = step_moves (elided e) w (q.beside.outcome ∙ runs)
            (subst (λ (z : State). IsFine z.outcome) (one_more e n t) (subst IsFine (sym next.outcome) fine));
        given = given_twice t w (framed_step (elided e) w) (fronts_given e s t r at) (ap is_given_mode there.mode)
            (fronts_count e s t r at) (were_given (elided e) w (have_blocks e s _ q.beside));
      })

-- ---- both runs

higher : (rows : List Activation) (a : Activation) (below : List Activation) → rows ≡ a ∷ below
    → length rows ≡ 1 + length below
higher rows a below is = let up : length rows ≡ suc (length below) = ap length is in omega (arith, up)

longer : (a : Activation) (rows : List Activation) → a ∷ rows ≡ rows → ⊥
longer a rows is = let up = higher rows a rows (sym is) in absurd (omega (arith, up))

module _ (e : Elision) (ends : KeepsEnds e) (alone : (func : ℕ) → EntersAlone (function_in e func) (e.shape func))
    (s t : State) (r : AreRelated e s t) (first : EndsFramed e s) (apart : AllStandApart e s t)
    (runs : s.outcome ≡ Outcome.Running) (fine : IsFine (framed_step (framed e) s).outcome) (u : State)
    (m : MovesOn e t u) (next : AreElided e (framed_step (framed e) s) u) where
  abbrev z : State
  z = framed_step (framed e) s

  abbrev d : Sides
  d = sides z u

  ours : HasMoved (framed e) s z
  ours = step_moves (framed e) s runs fine

  known : Each (IsKnownTo t.instances) (t.top ∷ t.below)
  known = (
    λ i is.
        let lt = first.sound.acts.0.known i (sym r.beside.top.instance ∙ is) in
        let many = r.beside.count in omega (arith, lt, many),
    known_below e r.beside.homes r.beside.hides (sides s t) s t s.below t.below r.beside.count r.beside.below
        first.sound.acts.1,
  )

  many : length t.below ≡ length s.below
  many = as_many e r.beside.homes r.beside.hides (sides s t) s.below t.below r.beside.below

  many_then : length u.below ≡ length z.below
  many_then = as_many e next.homes next.hides d z.below u.below next.below

  -- ---- both go on

  edge_there : (k : TookEdge (elided e) m.from u)
      → (other : ℕ) × (HasEdge (function_in e s.top.func) t.top.block other)
      × (u.top.block ≡ position_of (function_in e s.top.func) other)
  edge_there k =
      let func : m.from.top.func ≡ s.top.func = m.top.func ∙ r.beside.top.func in (
        k.label,
        subst (λ (p : ℕ × ℕ). HasEdge (function_in e p.0) p.1 k.label) (λ j. (func j, m.top.block j))
            (framed_edge e m.from.top.func m.from.top.block k.label (record {
              term = k.term;
              stands =
                  (λ j. fetch (function_of (elided e).given m.from) m.from.top.block
                  (sym (end_at (function_of (elided e).given m.from) m.from.top.block m.from.top.at k.term k.there) j))
                  ∙ k.there;
              leads = goes_listed (framed_context (elided e) m.from) (work_of m.from) k.label k.term k.goes;
            })),
        k.block
            ∙ ((code_of e m.from.top.func).labels k.label
            ∙ ap (λ (n : ℕ). position_of (function_in e n) k.label) func),
      )

  module _ (c : ℕ)
      (moves : (c ≡ t.top.block)
      ⊎ ((other : ℕ) × (HasEdge (function_in e s.top.func) t.top.block other)
      × (c ≡ position_of (function_in e s.top.func) other)))
      (same : u.top.block ≡ c) (mode : u.top.mode ≡ t.top.mode)
      (was : was_given d u.top ≡ true → was_given (sides s t) t.top ≡ true) where
    stays_pair : z.top.func ≡ s.top.func → z.top.block ≡ s.top.block → StandApart e d z.top u.top
    stays_pair func block =
        apart_to e s.top.func z.top.func (is_given_mode t.top.mode) (is_given_mode u.top.mode)
        (was_given (sides s t) t.top) (was_given d u.top) s.top.block z.top.block c u.top.block func
        (ap is_given_mode mode) was block same
        (stays_apart e ends s t r.beside r.passed.0 apart.0 (alone s.top.func) c moves)

    pair : HasGone (framed e) s z → ((from label : ℕ) → s.top.mode ≡ Mode.Entering from label → ⊥)
        → StandApart e d z.top u.top
    pair (HasGone.Stays k) not_again = stays_pair k.func k.block
    pair (HasGone.Begins k) not_again = stays_pair k.func k.block
    pair (HasGone.Edge k) not_again =
        apart_to e s.top.func z.top.func (is_given_mode t.top.mode) (is_given_mode u.top.mode)
        (was_given (sides s t) t.top) (was_given d u.top) (position_of (function_in e s.top.func) k.label) z.top.block
        c u.top.block k.func (ap is_given_mode mode) was k.block same
        (edge_apart e s t r.beside r.passed.0 apart.0 (alone s.top.func) runs fine k.term k.there k.label k.goes c
        moves)
    pair (HasGone.Again k) not_again = absurd (not_again k.from k.label k.mode)

  -- the second run's topmost activation was given its frame before
  was_before : u.top.mode ≡ m.from.top.mode → u.top.instance ≡ m.from.top.instance → was_given d u.top ≡ true
      → was_given (sides s t) t.top ≡ true
  was_before mode instance =
      was_given_then t u m.given t.top u.top (mode ∙ m.top.mode) (instance ∙ m.top.instance) known.0 z s

  rest : StandAllApart e d s.below t.below
  rest = all_apart t u m.given e z s s.below t.below known.1 apart.1

  -- ---- how high the stacks are

  ours_gone : z.below ≡ s.below → HasGone (framed e) s z
  ours_gone same = on ours
    where
      on : HasMoved (framed e) s z → HasGone (framed e) s z
      on (HasMoved.Goes below gone) = gone
      on (HasMoved.Calls k block instance) = absurd (longer _ s.below (sym k.below ∙ same))
      on (HasMoved.Wakes number k instance) = absurd (longer _ s.below (sym k.below ∙ same))
      on (HasMoved.Back k) = absurd (longer k.caller k.rest (sym k.was ∙ (sym same ∙ k.below)))

  from_many : length m.from.below ≡ length s.below
  from_many = ap length m.below ∙ many

  theirs_not_again : (a b : Mode) → AreModes a b → ((from label : ℕ) → a ≡ Mode.Entering from label → ⊥)
      → (from label : ℕ) → b ≡ Mode.Entering from label → ⊥
  theirs_not_again _ _ (Same mode has) not_again from label is = not_again from label is
  theirs_not_again _ _ (Given block offset) not_again from label is = absurd (cc)

  pub level_apart : z.below ≡ s.below → ((from label : ℕ) → s.top.mode ≡ Mode.Entering from label → ⊥)
      → AllStandApart e z u
  level_apart same not_again = on m.moved
    where
      high : length u.below ≡ length s.below
      high = many_then ∙ ap length same

      all : u.below ≡ m.from.below → StandApart e d z.top u.top → AllStandApart e z u
      all below top = (
        top,
        subst (λ (p : List Activation × List Activation). StandAllApart e d p.0 p.1)
            (λ j. (sym same j, sym (below ∙ m.below) j)) rest,
      )

      begun : HasBegun m.from u → was_given d u.top ≡ true → was_given (sides s t) t.top ≡ true
      begun k given =
          begun_then t u m.given (is_given_mode t.top.mode) refl t.top.instance
          ((λ j. if is_given_mode (sym (k.mode ∙ m.top.mode) j) then true
          else option_map_or (is_given u.world.memory) (instance_in u.instances
          (sym (k.instance ∙ ap (λ (n : ℕ). Some n) m.count) j)) false) ∙ given)

      gone : HasGone (elided e) m.from u → StandApart e d z.top u.top
      gone (HasGone.Stays k) =
          pair t.top.block (inl refl) (k.block ∙ m.top.block) (k.mode ∙ m.top.mode) (was_before k.mode k.instance)
          (ours_gone same) not_again
      gone (HasGone.Begins k) =
          pair t.top.block (inl refl) (k.block ∙ m.top.block) (k.mode ∙ m.top.mode) (begun k)
          (ours_gone same) not_again
      gone (HasGone.Edge k) =
          pair u.top.block (inr (edge_there k)) refl (k.mode ∙ m.top.mode) (was_before k.mode k.instance)
          (ours_gone same) not_again
      gone (HasGone.Again k) =
          absurd (theirs_not_again s.top.mode t.top.mode r.beside.top.mode not_again k.from k.label
          (sym m.top.mode ∙ k.mode))

      on : HasMoved (elided e) m.from u → AllStandApart e z u
      on (HasMoved.Goes below k) = all below (gone k)
      on (HasMoved.Calls k block instance) =
          let up : length u.below ≡ 1 + length m.from.below = higher _ _ _ k.below in
          let low = from_many in let level = high in absurd (omega (arith, up, low, level))
      on (HasMoved.Wakes number k instance) =
          let up : length u.below ≡ 1 + length m.from.below = higher _ _ _ k.below in
          let low = from_many in let level = high in absurd (omega (arith, up, low, level))
      on (HasMoved.Back k) =
          let up : length m.from.below ≡ 1 + length k.rest = higher _ _ _ k.was in
          let down : length u.below ≡ length k.rest = ap length k.below in
          let low = from_many in let level = high in absurd (omega (arith, up, low, down, level))

  -- ---- both call

  pub call_apart : z.top.instance ≡ None → length z.below ≡ 1 + length s.below → AllStandApart e z u
  call_apart new high = ours_on ours
    where
      none_some : (o : Option ℕ) (n : ℕ) → o ≡ None → o ≡ Some n → ⊥
      none_some o n none some = let no : None ≡ Some n = sym none ∙ some in absurd (cc)

      under : (k : IsOnTop s z) (q : IsOnTop m.from u) → StandAllApart e d z.below u.below
      under k q =
          subst (λ (p : List Activation × List Activation). StandAllApart e d p.0 p.1)
          (λ j. (sym k.below j, sym q.below j)) (
            apart_to e s.top.func s.top.func (is_given_mode t.top.mode) (is_given_mode m.from.top.mode)
                (was_given (sides s t) t.top) (was_given d m.from.top) s.top.block s.top.block t.top.block
                m.from.top.block refl (ap is_given_mode m.top.mode)
                (was_given_then t u m.given t.top m.from.top m.top.mode m.top.instance known.0 z s) refl m.top.block
                apart.0,
            subst (λ (rows : List Activation). StandAllApart e d s.below rows) (sym m.below) rest,
          )

      both : (k : IsOnTop s z) → z.top.block ≡ 0 → HasMoved (elided e) m.from u → AllStandApart e z u
      both k block (HasMoved.Calls q other instance) = (
        apart_to e z.top.func z.top.func (is_given_mode u.top.mode) (is_given_mode u.top.mode) (was_given d u.top)
            (was_given d u.top) 0 z.top.block 0 u.top.block refl refl (λ is. is) block other
            (entry_apart (function_in e z.top.func) (e.shape z.top.func) (alone z.top.func) (is_given_mode u.top.mode)
            (was_given d u.top)),
        under k q,
      )
      both k block (HasMoved.Wakes number q instance) =
          absurd (none_some u.top.instance number (next.top.instance ∙ new) instance)
      both k block (HasMoved.Goes below gone) =
          let level : length u.below ≡ length m.from.below = ap length below in
          let low = from_many in let up = high in let equal = many_then in
          absurd (omega (arith, up, low, level, equal))
      both k block (HasMoved.Back q) =
          let was : length m.from.below ≡ 1 + length q.rest = higher _ _ _ q.was in
          let down : length u.below ≡ length q.rest = ap length q.below in
          let low = from_many in let up = high in let equal = many_then in
          absurd (omega (arith, up, low, was, down, equal))

      ours_on : HasMoved (framed e) s z → AllStandApart e z u
      ours_on (HasMoved.Calls k block instance) = both k block m.moved
      ours_on (HasMoved.Wakes number k instance) = absurd (none_some z.top.instance number new instance)
      ours_on (HasMoved.Goes below gone) =
          let level : length z.below ≡ length s.below = ap length below in
          let up = high in absurd (omega (arith, up, level))
      ours_on (HasMoved.Back k) =
          let was : length s.below ≡ 1 + length k.rest = higher _ _ _ k.was in
          let down : length z.below ≡ length k.rest = ap length k.below in
          let up = high in absurd (omega (arith, up, was, down))

  -- ---- both return

  given_there : (a b : Activation) → IsThere a b → was_given d b ≡ true → was_given d a ≡ true
  given_there a b k h =
      (λ j. if is_given_mode (sym k.mode j) then true
      else option_map_or (is_given u.world.memory) (instance_in u.instances (sym k.instance j)) false) ∙ h

  pub return_apart : length s.below ≡ 1 + length z.below → AllStandApart e z u
  return_apart low = ours_on ours
    where
      both : HasReturned s z → HasMoved (elided e) m.from u → AllStandApart e z u
      both k (HasMoved.Back q) =
          let h : StandAllApart e d (k.caller ∷ k.rest) (q.caller ∷ q.rest)
          = subst (λ (p : List Activation × List Activation). StandAllApart e d p.0 p.1)
          (λ j. (k.was j, (sym m.below ∙ q.was) j)) rest in (
            apart_to e k.caller.func z.top.func (is_given_mode q.caller.mode) (is_given_mode u.top.mode)
                (was_given d q.caller) (was_given d u.top) k.caller.block z.top.block q.caller.block u.top.block
                k.top.func (ap is_given_mode q.top.mode) (given_there q.caller u.top q.top) k.top.block q.top.block
                h.0,
            subst (λ (p : List Activation × List Activation). StandAllApart e d p.0 p.1)
                (λ j. (sym k.below j, sym q.below j)) h.1,
          )
      both k (HasMoved.Goes below gone) =
          let level : length u.below ≡ length m.from.below = ap length below in
          let same = from_many in let down = low in let equal = many_then in
          absurd (omega (arith, down, same, level, equal))
      both k (HasMoved.Calls q block instance) =
          let up : length u.below ≡ 1 + length m.from.below = higher _ _ _ q.below in
          let same = from_many in let down = low in let equal = many_then in
          absurd (omega (arith, down, same, up, equal))
      both k (HasMoved.Wakes number q instance) =
          let up : length u.below ≡ 1 + length m.from.below = higher _ _ _ q.below in
          let same = from_many in let down = low in let equal = many_then in
          absurd (omega (arith, down, same, up, equal))

      ours_on : HasMoved (framed e) s z → AllStandApart e z u
      ours_on (HasMoved.Back k) = both k m.moved
      ours_on (HasMoved.Goes below gone) =
          let level : length z.below ≡ length s.below = ap length below in
          let down = low in absurd (omega (arith, down, level))
      ours_on (HasMoved.Calls k block instance) =
          let up : length z.below ≡ 1 + length s.below = higher _ _ _ k.below in
          let down = low in absurd (omega (arith, down, up))
      ours_on (HasMoved.Wakes number k instance) =
          let up : length z.below ≡ 1 + length s.below = higher _ _ _ k.below in
          let down = low in absurd (omega (arith, down, up))

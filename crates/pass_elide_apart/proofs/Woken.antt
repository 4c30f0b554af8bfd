-- All pairs of activations stand apart behind each step of a known kind.
use Rattle.std.proofs.Common.{◌≡◌, ◌∙◌, ◌+◌, ℕ, Bool, true, false, List, [], ◌∷◌, length, Option, ap, arith, if◌then◌else◌, subst, sym}
use Rattle.std.specs.Option.{option_map_or}
use Rattle.pass_elide_apart.proofs.Blocks.{behind_apart}
use Rattle.pass_elide_apart.proofs.Ways.{GoesBy, goes_by, higher}
use Rattle.pass_elide_apart.specs.Behind.{GoesBehind, KnowsBehind}
use Rattle.pass_elide_edges.proofs.AllApart.{MovesOn, all_apart, call_apart, level_apart, moves_on, return_apart}
use Rattle.pass_elide_edges.proofs.StepMoves.{HasMoved, IsOnTop}
use Rattle.pass_elide_edges.specs.Keeping.{EntersAlone, KeepsEnds}
use Rattle.pass_elide_edges.specs.States.{AllStandApart, ApartIn, EndsFramed, StandAllApart, StandApart}
use Rattle.pass_elide_edges.proofs.pass_elide_proof.LeftWindows.{as_many}
use Rattle.pass_elide_edges.specs.pass_elide_proof.Beginning.{IsKnownTo}
use Rattle.pass_elide_edges.specs.pass_elide_proof.Elision.{Elision, elided, framed, function_in}
use Rattle.pass_elide_edges.specs.pass_elide_proof.Match.{AreBelow, AreElided, Sides, instance_in, is_given_mode, sides}
use Rattle.pass_elide_edges.specs.pass_elide_proof.Sound.{IsSoundAct}
use Rattle.pass_elide_edges.specs.pass_elide_proof.Statement.{AreRelated}
use Rattle.pass_elide_edges.specs.pass_elide_proof.Stepping.{IsKnownStep, steps_of}
use Rattle.pass_elide_kept.specs.Modules.{KeepsHandlesAndEnds}
use Rattle.pass_elide_edges.specs.pass_elide_proof.pass_proofs.ir_base.declared.outcome.Outcome.{Outcome}
use Rattle.pass_elide_edges.specs.pass_elide_proof.pass_proofs.run_agreement.Machines.{IsFine, iterate}
use Rattle.pass_elide_edges.specs.pass_elide_proof.pass_proofs.run_framed.Framed.{framed_step, is_given}
use Rattle.pass_elide_edges.specs.pass_elide_proof.pass_proofs.run_laws.changed.Changed.{Each}
use Rattle.pass_elide_edges.specs.pass_elide_proof.pass_proofs.run_laws.memory.Pointers.{Home}
use Rattle.pass_elide_edges.specs.pass_elide_proof.pass_proofs.run_source.declared.state.Activation.{Activation}
use Rattle.pass_elide_edges.specs.pass_elide_proof.pass_proofs.run_source.declared.state.Mode.{Mode}
use Rattle.pass_elide_edges.specs.pass_elide_proof.pass_proofs.run_source.declared.state.State.{State}

-- ---- instances of activations are known

known_below : (e : Elision) (homes : List Home) (hides : ℕ → Bool) (d : Sides) (s t : State)
    (rows others : List Activation) → length t.instances ≡ length s.instances
    → AreBelow e homes hides d rows others → Each (IsSoundAct (framed e) s.world.memory s.instances) rows
    → Each (IsKnownTo t.instances) others
known_below e homes hides d s t [] [] many below sound = tt
known_below e homes hides d s t [] (c ∷ others) many below sound = absurd below
known_below e homes hides d s t (a ∷ rows) [] many below sound = absurd below
known_below e homes hides d s t (a ∷ rows) (c ∷ others) many below sound = (
  λ i is. let lt = sound.0.known i (sym below.0.1.instance ∙ is) in omega (arith, lt, many),
  known_below e homes hides d s t rows others many below.1 sound.1,
)

-- the same activation at another place of its block
same_place : (e : Elision) (d : Sides) (a c : Activation) (at to : ℕ) → StandApart e d a c
    → StandApart e d (record a { at = at }) (record c { at = to })
same_place e d a c at to h = h

-- ---- behind a step

module _ (e : Elision) (ends : KeepsEnds e) (handles : KeepsHandlesAndEnds e)
    (alone : (func : ℕ) → EntersAlone (function_in e func) (e.shape func)) (s t : State) (r : AreRelated e s t)
    (first : EndsFramed e s) (apart : AllStandApart e s t) (u : State) (m : MovesOn e t u)
    (next : AreElided e (framed_step (framed e) s) u) where
  abbrev z : State
  z = framed_step (framed e) s

  abbrev d : Sides
  d = sides z u

  known : Each (IsKnownTo t.instances) (t.top ∷ t.below)
  known = (
    λ i is.
        let lt = first.sound.acts.0.known i (sym r.beside.top.instance ∙ is) in
        let many = r.beside.count in omega (arith, lt, many),
    known_below e r.beside.homes r.beside.hides (sides s t) s t s.below t.below r.beside.count r.beside.below
        first.sound.acts.1,
  )

  -- what stood apart does so still
  old_apart : StandAllApart e d (s.top ∷ s.below) (t.top ∷ t.below)
  old_apart = all_apart t u m.given e z s (s.top ∷ s.below) (t.top ∷ t.below) known apart

  -- so the second run's activation does before its last step
  from_apart : StandApart e d s.top m.from.top
  from_apart =
      subst (λ (p : Mode × (Option ℕ × ℕ)). ApartIn (function_in e s.top.func) (e.shape s.top.func)
      (is_given_mode p.0)
      (if is_given_mode p.0 then true else option_map_or (is_given d.other) (instance_in d.second p.1.0) false)
      s.top.block p.1.1)
      (λ j. (sym m.top.mode j, (sym m.top.instance j, sym m.top.block j))) old_apart.0

  top_apart : GoesBehind e.code z.top → StandApart e d z.top u.top
  top_apart k = behind_apart e ends handles alone next.homes next.hides d z.top u.top next.top k

  many : length t.below ≡ length s.below
  many = as_many e r.beside.homes r.beside.hides (sides s t) s.below t.below r.beside.below

  many_then : length u.below ≡ length z.below
  many_then = as_many e next.homes next.hides d z.below u.below next.below

  from_many : length m.from.below ≡ length s.below
  from_many = ap length m.below ∙ many

  -- ---- an alloca is executed again

  again_apart : z.below ≡ s.below → GoesBehind e.code z.top → AllStandApart e z u
  again_apart same k = on m.moved
    where
      high : length u.below ≡ length s.below
      high = many_then ∙ ap length same

      on : HasMoved (elided e) m.from u → AllStandApart e z u
      on (HasMoved.Goes below gone) = (
        top_apart k,
        subst (λ (p : List Activation × List Activation). StandAllApart e d p.0 p.1)
            (λ j. (sym same j, sym (below ∙ m.below) j)) old_apart.1,
      )
      on (HasMoved.Calls q block instance) =
          let up : length u.below ≡ 1 + length m.from.below = higher _ _ _ q.below in
          let low = from_many in let level = high in absurd (omega (arith, up, low, level))
      on (HasMoved.Wakes number q instance) =
          let up : length u.below ≡ 1 + length m.from.below = higher _ _ _ q.below in
          let low = from_many in let level = high in absurd (omega (arith, up, low, level))
      on (HasMoved.Back q) =
          let up : length m.from.below ≡ 1 + length q.rest = higher _ _ _ q.was in
          let down : length u.below ≡ length q.rest = ap length q.below in
          let low = from_many in let level = high in absurd (omega (arith, up, low, down, level))

  -- ---- an instance is woken

  woken_apart : IsOnTop s z → GoesBehind e.code z.top → AllStandApart e z u
  woken_apart k behind = on m.moved
    where
      under : IsOnTop m.from u → AllStandApart e z u
      under q = (
        top_apart behind,
        subst (λ (p : List Activation × List Activation). StandAllApart e d p.0 p.1)
            (λ j. (sym k.below j, sym q.below j)) (
              same_place e d s.top m.from.top k.at q.at from_apart,
              subst (λ (rows : List Activation). StandAllApart e d s.below rows) (sym m.below) old_apart.1,
            ),
      )

      up : length z.below ≡ 1 + length s.below
      up = higher _ _ _ k.below

      on : HasMoved (elided e) m.from u → AllStandApart e z u
      on (HasMoved.Calls q block instance) = under q
      on (HasMoved.Wakes number q instance) = under q
      on (HasMoved.Goes below gone) =
          let level : length u.below ≡ length m.from.below = ap length below in
          let low = from_many in let high = up in let equal = many_then in
          absurd (omega (arith, high, low, level, equal))
      on (HasMoved.Back q) =
          let was : length m.from.below ≡ 1 + length q.rest = higher _ _ _ q.was in
          let down : length u.below ≡ length q.rest = ap length q.below in
          let low = from_many in let high = up in let equal = many_then in
          absurd (omega (arith, high, low, was, down, equal))

-- ---- each known step

module _ (e : Elision) (ends : KeepsEnds e) (handles : KeepsHandlesAndEnds e)
    (alone : (func : ℕ) → EntersAlone (function_in e func) (e.shape func)) (s t : State) (r : AreRelated e s t)
    (first : EndsFramed e s) (knows : KnowsBehind e.code s) (apart : AllStandApart e s t)
    (runs : s.outcome ≡ Outcome.Running) (fine : IsFine (framed_step (framed e) s).outcome)
    (k : IsKnownStep e s t r.beside)
    (next : AreElided e (framed_step (framed e) s) (iterate (framed_step (elided e)) (steps_of e s t r.beside k) t))
  where
    abbrev u : State
    u = iterate (framed_step (elided e)) (steps_of e s t r.beside k) t

    m : MovesOn e t u
    m = moves_on e s t r.beside runs fine k next

    by : GoesBy (framed e) s (framed_step (framed e) s) → AllStandApart e (framed_step (framed e) s) u
    by (GoesBy.Onward same calm) = level_apart e ends alone s t r first apart runs fine u m next same calm
    by (GoesBy.Again same behind) = again_apart e ends handles alone s t r first apart u m next same behind
    by (GoesBy.Called new high) = call_apart e ends alone s t r first apart runs fine u m next new high
    by (GoesBy.Woken there behind) = woken_apart e ends handles alone s t r first apart u m next there behind
    by (GoesBy.Back low) = return_apart e ends alone s t r first apart runs fine u m next low

    pub known_apart : AllStandApart e (framed_step (framed e) s)
        (iterate (framed_step (elided e)) (steps_of e s t r.beside k) t)
    known_apart = by (goes_by (framed e) s knows.modes.0 knows.enters.0 knows.sleeps runs fine)

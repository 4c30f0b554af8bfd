-- What is related stays related where the framed run makes a step of a known kind.
use Rattle.std.proofs.Common.{◌≡◌, ◌⊎◌, ◌∷◌, [], arith, inl, inr, List, refl, subst, suc, true, zero, ℕ}
use Rattle.std.specs.List.{Contains}
use Rattle.std.specs.Prelude.{None, Some, slice_get}
use Rattle.pass_elide_kept.proofs.Fronted.{fronts_known, is_fronted}
use Rattle.pass_elide_kept.proofs.KeptCalled.{kept_called}
use Rattle.pass_elide_kept.proofs.KeptCallers.{callers_stay}
use Rattle.pass_elide_kept.proofs.KeptOther.{fronts_keep_keepers}
use Rattle.pass_elide_kept.proofs.KeptSteps.{keepers_stay}
use Rattle.pass_elide_kept.proofs.KnownCalls.{stays_known}
use Rattle.pass_elide_kept.proofs.PassedSteps.{known_steps_pass}
use Rattle.pass_elide_kept.proofs.StaysFreed.{StaysFreed, freed_stays}
use Rattle.pass_elide_kept.proofs.Stepped.{steps_keep}
use Rattle.pass_elide_kept.specs.Keepers.{IsOver, IsRenewed, KeepersIn, WasFreed}
use Rattle.pass_elide_kept.specs.Kept.{AreKept, HaveKeepers, IsFreed, IsKeptIn}
use Rattle.pass_elide_kept.specs.Modules.{KeepsHandlesAndEnds}
use Rattle.pass_elide_kept.specs.Runs.{IsKeptFramed, IsKeptGiving}
use Rattle.pass_elide_proof.proofs.Addresses.{twin_back}
use Rattle.pass_elide_proof.proofs.Callees.{in_list}
use Rattle.pass_elide_proof.proofs.FrontsMade.{fronts_keep}
use Rattle.pass_elide_proof.specs.CallersStack.{AreCalled}
use Rattle.pass_elide_proof.specs.Elision.{Elision, elided, framed}
use Rattle.pass_elide_proof.specs.Invariant.{HaveCallers, IsCalledIn}
use Rattle.pass_elide_proof.specs.Match.{AreElided}
use Rattle.pass_elide_proof.specs.Placing.{KeepsPlaces}
use Rattle.pass_elide_proof.specs.Statement.{AreRelated}
use Rattle.pass_elide_proof.specs.Stepping.{IsKnownStep, fronted, steps_of}
use Rattle.pass_elide_proof.specs.pass_proofs.ir_base.declared.outcome.Outcome.{Outcome}
use Rattle.pass_elide_proof.specs.pass_proofs.run_agreement.Machines.{IsFine, iterate}
use Rattle.pass_elide_proof.specs.pass_proofs.run_framed.Framed.{framed_step}
use Rattle.pass_elide_proof.specs.pass_proofs.run_laws.changed.Changed.{Each}
use Rattle.pass_elide_proof.specs.pass_proofs.run_source.declared.state.Activation.{Activation}
use Rattle.pass_elide_proof.specs.pass_proofs.run_source.declared.state.Instance.{Instance}
use Rattle.pass_elide_proof.specs.pass_proofs.run_source.declared.state.State.{State}

-- ---- each of a list

each_from : (P : Activation → Type 0) (xs : List Activation) → ((c : Activation) → Contains xs c → P c) → Each P xs
each_from P [] h = tt
each_from P (x ∷ xs) h = (
  h x (0, omega (arith), refl),
  each_from P xs (λ c has. let lt = has.1 in h c (suc has.0, omega (arith, lt), has.2)),
)

each_at : (P : Activation → Type 0) (xs : List Activation) → Each P xs → (k : ℕ) (c : Activation)
    → slice_get xs k ≡ Some c → P c
each_at P [] h k c is = absurd (cc)
each_at P (x ∷ xs) h zero c is = let same : x ≡ c = cc in subst P same h.0
each_at P (x ∷ xs) h (suc k) c is = each_at P xs h.1 k c is

-- ---- what is kept, while the framed run has come to its next state

module _ (e : Elision) (s t z : State) (h : AreKept e s t) (stays : StaysFreed s.instances z.instances) where
  abbrev twin : (number : ℕ) (y : Instance) → slice_get t.instances number ≡ Some y
      → (x : Instance) × (slice_get s.instances number ≡ Some x)
  twin = twin_back e s t h.related.beside

  was_freed : (number : ℕ) (x : Instance) → slice_get s.instances number ≡ Some x → x.freed ≡ true
      → WasFreed z number
  was_freed number x there freed w at = stays.each number x w there at freed

  keepers_in : KeepersIn e z t
  keepers_in = record {
    each = λ number y there given.
        let x = twin number y there in
        by number y x.0 x.1
        (h.keepers.each number x.0 y (record { first = x.1; second = there; given = given }));
    replaced = λ number later y w there after lt given began.
        let x = twin number y there in
        let over = h.keepers.replaced number later x.0 y w (record { first = x.1; second = there; given = given }) after
        lt began in
        (over.0, was_freed number x.0 x.1 over.1);
    renewed = each_from (IsRenewed z t.instances) (t.top ∷ t.below)
        (λ c has block offset none mode number y there at from.
        let x = twin number y there in
        was_freed number x.0 x.1
        (h.related.renewed number block offset x.0 y c x.1 there has none mode at from));
  }
    where
      by : (number : ℕ) (y x : Instance) → slice_get s.instances number ≡ Some x
          → IsFreed x y ⊎ IsKeptIn e y number None (t.top ∷ t.below)
          → IsOver z number y ⊎ IsKeptIn e y number None (t.top ∷ t.below)
      by number y x there (inl freed) = inl (freed.0, was_freed number x there freed.1)
      by number y x there (inr kept) = inr kept

-- ---- what is kept of the next states

module _ (e : Elision) (places : KeepsPlaces e) (keeps : KeepsHandlesAndEnds e) (z u : State) (r : AreElided e z u)
    (callers : HaveCallers e u) (k : KeepersIn e z u) where
  next_keepers : HaveKeepers e z u
  next_keepers = record {
    each = λ number x y at. by number x y at.first (k.each number y at.second at.given);
    replaced = λ number later x y w at after lt began.
        let over = k.replaced number later y w at.second after lt at.given began in (over.0, over.1 x at.first);
  }
    where
      by : (number : ℕ) (x y : Instance) → slice_get z.instances number ≡ Some x
          → IsOver z number y ⊎ IsKeptIn e y number None (u.top ∷ u.below)
          → IsFreed x y ⊎ IsKeptIn e y number None (u.top ∷ u.below)
      by number x y first (inl over) = inl (over.0, over.1 x first)
      by number x y first (inr kept) = inr kept

  was_freed_or_called : (number : ℕ) (x y : Instance) → slice_get z.instances number ≡ Some x
      → IsOver z number y ⊎ IsKeptIn e y number None (u.top ∷ u.below)
      → (x.freed ≡ true) ⊎ IsCalledIn e u.world.memory y number [] (u.top ∷ u.below)
  was_freed_or_called number x y first (inl over) = inl (over.1 x first)
  was_freed_or_called number x y first (inr kept) = inr (kept_called e places keeps z u r y number kept)

-- ---- the step

module _ (e : Elision) (places : KeepsPlaces e) (keeps : KeepsHandlesAndEnds e) (s t : State)
    (ours : IsKeptFramed e s)
    (theirs : (n : ℕ) → IsKeptGiving e (iterate (framed_step (elided e)) n t)) (h : AreKept e s t)
    (runs : s.outcome ≡ Outcome.Running) (fine : IsFine (framed_step (framed e) s).outcome)
    (k : IsKnownStep e s t h.related.beside)
    (next : AreElided e (framed_step (framed e) s) (iterate (framed_step (elided e)) (steps_of e s t h.related.beside k)
    t)) where
  abbrev r : AreElided e s t
  r = h.related.beside

  abbrev z : State
  z = framed_step (framed e) s

  abbrev u : State
  u = iterate (framed_step (elided e)) (steps_of e s t r k) t

  stays : StaysFreed s.instances z.instances
  stays = freed_stays (framed e) s runs fine

  -- together with callers, and with what activations have by their calls
  abbrev AreAll : State → Type 0
  AreAll v = AreCalled e v × HaveCallers e v × KeepersIn e z v

  all_next : AreAll u
  all_next =
      steps_keep e places keeps s t ours theirs r fine AreAll
      (h.related.called, h.related.callers, keepers_in e s t z h stays)
      (λ at here. (
        fronts_known e s t r at here.0,
        fronts_keep e s t r at here.1,
        fronts_keep_keepers e z t (fronted e s t) (is_fronted e s t r at) at.slots at.mode here.2,
      ))
      (λ v m here. (
        stays_known e places keeps s v ours.known m.beside here.0 m.takes,
        callers_stay e places keeps s v m.giving m.slots m.blocks here.0 here.1 m.takes,
        keepers_stay e places keeps z s v stays ours m.beside m.giving m.slots m.blocks m.fine here.0 here.1 here.2
            m.takes,
      )) k next

  next_related : AreRelated e (framed_step (framed e) s)
      (iterate (framed_step (elided e)) (steps_of e s t h.related.beside k) t)
  next_related = record {
    beside = next;
    callers = all_next.1;
    freed = λ number x y first second given over.
        was_freed_or_called e places keeps z u next all_next.1 all_next.2 number x y first
        (all_next.2.each number y second given);
    renewed = λ number block offset x y c first second has none mode at from.
        each_at (IsRenewed z u.instances) (u.top ∷ u.below) all_next.2.renewed has.0 c
        (in_list (u.top ∷ u.below) has.0 c has.1 has.2) block offset none mode number y second at from x first;
    passed = known_steps_pass e places keeps s t ours theirs r fine h.related.passed k next;
    called = all_next.0;
  }

  pub stay_kept : AreKept e (framed_step (framed e) s)
      (iterate (framed_step (elided e)) (steps_of e s t h.related.beside k) t)
  stay_kept = record {
    related = next_related;
    keepers = next_keepers e places keeps z u next all_next.1 all_next.2;
  }

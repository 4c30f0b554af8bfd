-- The modes of two activations that stand beside each other.
use Rattle.std.proofs.Common.{◌≡◌, ◌∙◌, ap, sym, refl, subst, ℕ, false, Option}
use Rattle.std.specs.Prelude.{None, Some, slice_get}
use Rattle.pass_elide_proof.proofs.Addresses.{twin_back}
use Rattle.pass_elide_proof.specs.Elision.{Elision}
use Rattle.pass_elide_proof.specs.Making.{IsNotEntering}
use Rattle.pass_elide_proof.specs.Match.{AreElided, AreModes, AreStatuses, Ends, Given, Runs, Same, Sleeps, instance_in}
use Rattle.pass_elide_proof.specs.pass_proofs.run_source.State.{is_finished}
use Rattle.pass_elide_proof.specs.pass_proofs.run_source.declared.state.Instance.{Instance}
use Rattle.pass_elide_proof.specs.pass_proofs.run_source.declared.state.Mode.{Mode}
use Rattle.pass_elide_proof.specs.pass_proofs.run_source.declared.state.State.{State}
use Rattle.pass_elide_proof.specs.pass_proofs.run_source.declared.state.Status.{Status}

pub not_entering_too : (m n : Mode) → AreModes m n → ((from label : ℕ) → m ≡ Mode.Entering from label → ⊥)
    → (from label : ℕ) → n ≡ Mode.Entering from label → ⊥
not_entering_too _ _ (Same mode ok) calm from label is = calm from label is
not_entering_too _ _ (Given block offset) calm from label is = absurd (cc)

pub making_calm : (m : Mode) → IsNotEntering m → (from label : ℕ) → m ≡ Mode.Entering from label → ⊥
making_calm m calm from label is = subst IsNotEntering is calm

pub ramp_too : (m n : Mode) → AreModes m n → m ≡ Mode.Ramp → n ≡ Mode.Resumed → ⊥
ramp_too _ _ (Same mode ok) is resumed =
    absurd (let no : Mode.Ramp ≡ Mode.Resumed = sym is ∙ resumed in cc)
ramp_too _ _ (Given block offset) is resumed = absurd (cc)

pub resumed_too : (m n : Mode) → AreModes m n → m ≡ Mode.Resumed → n ≡ Mode.Resumed
resumed_too _ _ (Same mode ok) is = is
resumed_too _ _ (Given block offset) is = absurd (cc)

pub resumed_back : (m n : Mode) → AreModes m n → n ≡ Mode.Resumed → m ≡ Mode.Resumed
resumed_back _ _ (Same mode ok) is = is
resumed_back _ _ (Given block offset) is = absurd (cc)

pub entering_too : (m n : Mode) (from label : ℕ) → AreModes m n → m ≡ Mode.Entering from label
    → n ≡ Mode.Entering from label
entering_too _ _ from label (Same mode ok) is = is
entering_too _ _ from label (Given block offset) is = absurd (cc)

-- ---- instances

finished_same : (e : Elision) (func : ℕ) (p q : Status) → AreStatuses e func p q → is_finished q ≡ is_finished p
finished_same e func _ _ Runs = refl
finished_same e func _ _ Ends = refl
finished_same e func _ _ (Sleeps p values others) = refl

module _ (e : Elision) (s t : State) (r : AreElided e s t) where
  pub over_same : (number : ℕ) (x y : Instance) → slice_get s.instances number ≡ Some x
      → slice_get t.instances number ≡ Some y → is_finished y.status ≡ is_finished x.status
  over_same number x y first second =
      finished_same e x.coroutine x.status y.status (r.instances number x y first second).status

  -- the second run's own instance isn't Finished if the first one's isn't
  pub goes_too : ((x : Instance) → instance_in s.instances s.top.instance ≡ Some x → is_finished x.status ≡ false)
      → (y : Instance) → instance_in t.instances t.top.instance ≡ Some y → is_finished y.status ≡ false
  goes_too goes y there = by t.top.instance refl there
    where
      by : (o : Option ℕ) → t.top.instance ≡ o → instance_in t.instances o ≡ Some y → is_finished y.status ≡ false
      by None own is = absurd (cc)
      by (Some n) own is =
          let x = twin_back e s t r n y is in
          over_same n x.0 y x.1 is ∙ goes x.0 (ap (instance_in s.instances) (sym r.top.instance ∙ own) ∙ x.1)

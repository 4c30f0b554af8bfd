-- Coroutine slots and their addresses, by names.
use Rattle.std.proofs.Common.{◌≡◌, ℕ, Bool, true, false, not, List, [], ◌∷◌, filter, cond, refl, sym, ap, ◌∙◌, inl, inr}
use Rattle.std.proofs.lemmas.Bool.{false≢true}
use Rattle.std.specs.Prelude.{◌==◌}
use Rattle.ir_model.specs.declared.module.Function.{Function}
use Rattle.ir_paths.proofs.Search.{either, eq_from, or_left, or_right}
use Rattle.ir_paths.specs.Slots.{allocas_of, has_name}
use Rattle.flow_facts.specs.Slots.{AreRampSlots}
use Rattle.rule_slots.proofs.Chains.{addresses-by, itself-is, step-is}
use Rattle.rule_slots.specs.Names.{AreNamed, is_named}
use Rattle.rule_slots.specs.Slots.{AreAddressesOf, AreSlotsOf, IsCoroutineSlot, IsSlotAddress, names_without}
use Rattle.rule_slots.specs.Steps.{AreLedFrom, IsLed}
use Rattle.rule_slots.specs.Steps.IsLed.{Start, Step}

-- ---- names without some

not-true : (b : Bool) → not b ≡ true → b ≡ false
not-true true e = absurd (false≢true e)
not-true false e = refl

not-false : (b : Bool) → b ≡ false → not b ≡ true
not-false true e = absurd (false≢true (sym e))
not-false false e = refl

kept-from : (t : ℕ → Bool) (xs : List ℕ) (v : ℕ) → has_name (filter t xs) v ≡ true → (has_name xs v ≡ true) × (t v ≡ true)
kept-from t [] v h = absurd (false≢true h)
kept-from t (x ∷ xs) v h = by (kept-from t xs v) (t x) refl h
  where
    by : (has_name (filter t xs) v ≡ true → (has_name xs v ≡ true) × (t v ≡ true)) → (b : Bool) → t x ≡ b → has_name (cond b (x ∷ filter t xs) (filter t xs)) v ≡ true → (has_name (x ∷ xs) v ≡ true) × (t v ≡ true)
    by later true e g =
        elim (either (x == v) (has_name (filter t xs) v) g) [
          | inl same ↦ (or_left (x == v) (has_name xs v) same, sym (ap t (eq_from x v same)) ∙ e)
          | inr there ↦ (or_right (x == v) (has_name xs v) (later there).0, (later there).1)
        ]
    by later false e g = (or_right (x == v) (has_name xs v) (later g).0, (later g).1)

kept-to : (t : ℕ → Bool) (xs : List ℕ) (v : ℕ) → has_name xs v ≡ true → t v ≡ true → has_name (filter t xs) v ≡ true
kept-to t [] v h e = h
kept-to t (x ∷ xs) v h e = by (λ g. kept-to t xs v g e) (t x) refl
  where
    by : (has_name xs v ≡ true → has_name (filter t xs) v ≡ true) → (b : Bool) → t x ≡ b → has_name (cond b (x ∷ filter t xs) (filter t xs)) v ≡ true
    by later true k =
        elim (either (x == v) (has_name xs v) h) [
          | inl same ↦ or_left (x == v) (has_name (filter t xs) v) same
          | inr there ↦ or_right (x == v) (has_name (filter t xs) v) (later there)
        ]
    by later false k =
        elim (either (x == v) (has_name xs v) h) [
          | inl same ↦ absurd (false≢true (sym k ∙ ap t (eq_from x v same) ∙ e))
          | inr there ↦ later there
        ]

-- ---- coroutine slots

module _ (f : Function) (ramp slots : List ℕ) (ramps : List Bool) (known : AreRampSlots f ramp) (named : AreNamed ramp ramps) (is : slots ≡ names_without ramps (allocas_of f)) where
  slot-from : (v : ℕ) → has_name slots v ≡ true → IsCoroutineSlot f v
  slot-from v h =
      let kept = kept-from (λ u. not (is_named ramps u)) (allocas_of f) v (sym (ap (λ (l : List ℕ). has_name l v) is) ∙ h) in
      (kept.0, λ r. false≢true (sym (not-true (is_named ramps v) kept.1) ∙ named.each v ∙ (known.each v).1 (kept.0, r)))

  slot-to : (v : ℕ) → IsCoroutineSlot f v → has_name slots v ≡ true
  slot-to v s = ap (λ (l : List ℕ). has_name l v) is ∙ kept-to (λ u. not (is_named ramps u)) (allocas_of f) v s.0 (not-false (is_named ramps v) (by (is_named ramps v) refl))
    where
      by : (b : Bool) → is_named ramps v ≡ b → is_named ramps v ≡ false
      by true e = absurd (s.1 ((known.each v).0 (sym (named.each v) ∙ e)).1)
      by false e = e

  slots-are : (marks : List Bool) → AreNamed slots marks → AreSlotsOf f marks
  slots-are marks set = record { each = λ v. ((λ h. slot-from v (sym (set.each v) ∙ h)), (λ s. set.each v ∙ slot-to v s)) }

  address-from : (v : ℕ) → IsLed f slots v → IsSlotAddress f v
  address-from _ (Start v h) = record { slot = v; is_slot = slot-from v h; is_address = itself-is f v }
  address-from _ (Step u v listed before) =
      let s = address-from u before in
      record { slot = s.slot; is_slot = s.is_slot; is_address = step-is f s.slot u v listed s.is_address }

  address-to : (v : ℕ) → IsSlotAddress f v → IsLed f slots v
  address-to v s = addresses-by f s.slot (IsLed f slots) (Start s.slot (slot-to s.slot s.is_slot)) (λ u w listed led. Step u w listed led) v s.is_address

  addresses-are : (marks : List Bool) → AreLedFrom f slots marks → AreAddressesOf f marks
  addresses-are marks set = record { each = λ v. ((λ h. address-from v ((set.each v).0 h)), (λ s. (set.each v).1 (address-to v s))) }

pub slots_of_is : (f : Function) (ramp allocas slots : List ℕ) (ramps marks : List Bool) → AreRampSlots f ramp → AreNamed ramp ramps → allocas ≡ allocas_of f → slots ≡ names_without ramps allocas → AreNamed slots marks → AreSlotsOf f marks
slots_of_is f ramp allocas slots ramps marks known named ea es set = slots-are f ramp slots ramps known named (es ∙ ap (names_without ramps) ea) marks set

pub addresses_of_is : (f : Function) (ramp allocas slots : List ℕ) (ramps marks : List Bool) → AreRampSlots f ramp → AreNamed ramp ramps → allocas ≡ allocas_of f → slots ≡ names_without ramps allocas → AreLedFrom f slots marks → AreAddressesOf f marks
addresses_of_is f ramp allocas slots ramps marks known named ea es set = addresses-are f ramp slots ramps known named (es ∙ ap (names_without ramps) ea) marks set

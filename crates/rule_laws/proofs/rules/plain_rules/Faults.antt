-- Functions that are no coroutines break no rule on paths but F2.
use Rattle.std.proofs.Common.{◌≡◌, ℕ, Bool, true, false, List, [], ◌∷◌, inr, refl, ap, sym, ◌∙◌, subst}
use Rattle.std.proofs.lemmas.List.{length-map}
use Rattle.std.proofs.lemmas.Option.{slice_get-map}
use Rattle.std.specs.Prelude.{IsTrue, None, Option, Some, map, option_map, slice_get, unwrap_or}
use Rattle.ir_laws.specs.ir_base.declared.outcome.Place.{Place}
use Rattle.rule_uses.specs.Undefined.{IsFirstUndefined}
use Rattle.rule_uses.specs.Uses.{uses_of}
use Rattle.ir_parts.specs.Parts.{parts_of}
use Rattle.rule_all.specs.Faults.{AreFaultsOf, HaveFaults, faults_at, no_faults}
use Rattle.rule_all.specs.declared.faults.PathFaults.{PathFaults}
use Rattle.ir_laws.specs.ir_model.declared.module.Function.{Function}
use Rattle.ir_laws.specs.ir_model.declared.operand.Intrinsic.{Intrinsic}
use Rattle.ir_laws.specs.ir_paths.Windows.{is_call_of, points_where}
use Rattle.rule_all.specs.rule_slots.Early.{BreaksEarly}
use Rattle.rule_all.specs.rule_slots.Marked.{BreaksMarked}
use Rattle.rule_windows.specs.First.{IsFirst}
use Rattle.rule_windows.specs.Outside.{BreaksOutside}
use Rattle.rule_windows.specs.Points.{place_of}
use Rattle.rule_windows.specs.Windows.{BreaksSave}
use Rattle.rule_all.specs.rule_window_values.Kept.{BreaksValue}

-- what nothing breaks has no first fault
nowhere : {A : Type 0} (Breaks : A → Type 0) (place : A → Place) → ((x : A) → Breaks x → ⊥) → (xs : List A) → IsFirst Breaks place xs None
nowhere Breaks place never [] = refl
nowhere Breaks place never (x ∷ xs) = inr (never x, nowhere Breaks place never xs)

not_true : (b : Bool) → b ≡ false → IsTrue b → ⊥
not_true b e h = let t : false ≡ true = sym e ∙ h in absurd (cc)

ordinary_faults : (k : ℕ) (f : Function) → f.coroutine ≡ false → IsFirstUndefined f (uses_of k f) None → AreFaultsOf k f no_faults
ordinary_faults k f ordinary uses =
    let never : IsTrue f.coroutine → ⊥ = not_true f.coroutine ordinary in
    record {
      undefined_use = uses;
      outside = nowhere (BreaksOutside f) (λ x. x.0) (λ x h. never h.0) (parts_of k f);
      window = nowhere (BreaksSave f) (place_of k f) (λ x h. never h.0) (points_where (is_call_of Intrinsic.CoroSave) f);
      kept_value = nowhere (BreaksValue k f) (λ x. x.0) (λ x h. never h.is_coroutine) (parts_of k f);
      marked_slot = nowhere (BreaksMarked f) (λ x. x.0) (λ x h. never h.0) (parts_of k f);
      early_address = nowhere (BreaksEarly f) (λ x. x.0) (λ x h. never h.0) (parts_of k f);
    }

-- ---- of all functions

abbrev pub none_of : List Function → List PathFaults
none_of fs = map (λ f. no_faults) fs

pub none_at : (fs : List Function) (k : ℕ) → faults_at (none_of fs) k ≡ no_faults
none_at fs k = ap (λ (o : Option PathFaults). unwrap_or o no_faults) (slice_get-map (λ (f : Function). no_faults) fs k) ∙ on (slice_get fs k)
  where
    on : (o : Option Function) → unwrap_or (option_map (λ f. no_faults) o) no_faults ≡ no_faults
    on None = refl
    on (Some f) = refl

pub have_none : (fs : List Function) → ((k : ℕ) (f : Function) → slice_get fs k ≡ Some f → (f.coroutine ≡ false) × IsFirstUndefined f (uses_of k f) None) → HaveFaults fs (none_of fs)
have_none fs h =
    record {
      as_many = length-map fs (λ (f : Function). no_faults);
      each = λ k f x there that.
          let is_one : Some no_faults ≡ Some x = sym (ap (λ (o : Option Function). option_map (λ g. no_faults) o) there) ∙ sym (slice_get-map (λ g. no_faults) fs k) ∙ that in
          let same : no_faults ≡ x = cc in
          subst (AreFaultsOf k f) same (ordinary_faults k f (h k f there).0 (h k f there).1);
    }

-- The first that breaks a rule is one, so the faults of a module are, and what it is refused for.
use Rattle.std.proofs.Common.{◌≡◌, ℕ, zero, suc, List, [], ◌∷◌, length, refl, ap, sym, ◌∙◌, arith, Option, Some, inl, inr}
use Rattle.std.specs.Prelude.{slice_get}
use Rattle.ir_laws.specs.ir_base.declared.outcome.Place.{Place}
use Rattle.rule_uses.specs.Undefined.{IsFirstUndefined, IsUndefined}
use Rattle.rule_uses.specs.Undefined.IsFirstUndefined.{Nowhere, Here, Later}
use Rattle.rule_uses.specs.Uses.{Use, uses_of}
use Rattle.ir_parts.specs.Parts.{parts_of}
use Rattle.rule_all.specs.Faults.{AreFaultsOf}
use Rattle.rule_all.specs.Order.{refusal}
use Rattle.rule_all.specs.Refused.{IsRefused}
use Rattle.rule_all.specs.declared.faults.PathFaults.{PathFaults}
use Rattle.ir_laws.specs.ir_model.declared.module.Function.{Function}
use Rattle.ir_laws.specs.ir_model.declared.module.Module.{Module}
use Rattle.ir_laws.specs.ir_model.declared.operand.Intrinsic.{Intrinsic}
use Rattle.ir_laws.specs.ir_paths.Windows.{is_call_of, points_where}
use Rattle.rule_modules.specs.declared.order.Refusal.{Refusal}
use Rattle.rule_names.specs.declared.stage.Stage.{Stage}
use Rattle.rule_all.specs.rule_slots.Early.{BreaksEarly}
use Rattle.rule_all.specs.rule_slots.Marked.{BreaksMarked}
use Rattle.rule_windows.specs.First.{IsFirst}
use Rattle.rule_windows.specs.Outside.{BreaksOutside}
use Rattle.rule_windows.specs.Points.{place_of}
use Rattle.rule_windows.specs.Windows.{BreaksSave}
use Rattle.rule_all.specs.rule_window_values.Kept.{BreaksValue}

-- ---- the first of some things

first_once : {A : Type 0} (Breaks : A → Type 0) (place : A → Place) (xs : List A) (o p : Option Place) → IsFirst Breaks place xs o → IsFirst Breaks place xs p → o ≡ p
first_once Breaks place [] o p a b = a ∙ sym b
first_once Breaks place (x ∷ xs) o p (inl a) (inl b) = a.1 ∙ sym b.1
first_once Breaks place (x ∷ xs) o p (inl a) (inr b) = absurd (b.0 a.0)
first_once Breaks place (x ∷ xs) o p (inr a) (inl b) = absurd (a.0 b.0)
first_once Breaks place (x ∷ xs) o p (inr a) (inr b) = first_once Breaks place xs o p a.1 b.1

as_first : (f : Function) (us : List Use) (o : Option Place) → IsFirstUndefined f us o → IsFirst (IsUndefined f) (λ (u : Use). u.place) us o
as_first f _ _ Nowhere = refl
as_first f _ _ (Here u us h) = inl (h, refl)
as_first f _ _ (Later u us found never rest) = inr (never, as_first f us found rest)

-- ---- the faults of a function

faults_once : (k : ℕ) (f : Function) (x y : PathFaults) → AreFaultsOf k f x → AreFaultsOf k f y → x ≡ y
faults_once k f x y a b =
    let use-is : x.undefined_use ≡ y.undefined_use = first_once (IsUndefined f) (λ (u : Use). u.place) (uses_of k f) x.undefined_use y.undefined_use (as_first f (uses_of k f) x.undefined_use a.undefined_use) (as_first f (uses_of k f) y.undefined_use b.undefined_use) in
    let outside-is : x.outside ≡ y.outside = first_once (BreaksOutside f) (λ z. z.0) (parts_of k f) x.outside y.outside a.outside b.outside in
    let window-is : x.window ≡ y.window = first_once (BreaksSave f) (place_of k f) (points_where (is_call_of Intrinsic.CoroSave) f) x.window y.window a.window b.window in
    let kept-is : x.kept_value ≡ y.kept_value = first_once (BreaksValue k f) (λ z. z.0) (parts_of k f) x.kept_value y.kept_value a.kept_value b.kept_value in
    let marked-is : x.marked_slot ≡ y.marked_slot = first_once (BreaksMarked f) (λ z. z.0) (parts_of k f) x.marked_slot y.marked_slot a.marked_slot b.marked_slot in
    let early-is : x.early_address ≡ y.early_address = first_once (BreaksEarly f) (λ z. z.0) (parts_of k f) x.early_address y.early_address a.early_address b.early_address in
    λ i. record { undefined_use = use-is i; outside = outside-is i; window = window-is i; kept_value = kept-is i; marked_slot = marked-is i; early_address = early-is i }

-- ---- lists of as many elements

shorter : (m n : ℕ) → suc m ≡ suc n → m ≡ n
shorter m n e = omega (arith, e)

there : {A B : Type 0} (xs : List A) (ys : List B) (k : ℕ) (x : A) → length xs ≡ length ys → slice_get xs k ≡ Some x → (y : B) × (slice_get ys k ≡ Some y)
there [] ys k x e g = absurd cc
there (z ∷ xs) [] k x e g = absurd cc
there (z ∷ xs) (y ∷ ys) zero x e g = (y, refl)
there (z ∷ xs) (y ∷ ys) (suc k) x e g = there xs ys k x (shorter (length xs) (length ys) e) g

same_by : (A : Type 0) (xs ys : List A) → length xs ≡ length ys → ((k : ℕ) (x y : A) → slice_get xs k ≡ Some x → slice_get ys k ≡ Some y → x ≡ y) → xs ≡ ys
same_by A [] [] e h = refl
same_by A [] (y ∷ ys) e h = absurd cc
same_by A (x ∷ xs) [] e h = absurd cc
same_by A (x ∷ xs) (y ∷ ys) e h =
    let head-is : x ≡ y = h 0 x y refl refl in
    let rest : (k : ℕ) (u v : A) → slice_get xs k ≡ Some u → slice_get ys k ≡ Some v → u ≡ v = λ k u v gu gv. h (suc k) u v gu gv in
    let tail-is : xs ≡ ys = same_by A xs ys (shorter (length xs) (length ys) e) rest in
    λ i. head-is i ∷ tail-is i

-- ---- what a module is refused for

pub refused_once : (stage : Stage) (m : Module) (r s : Option Refusal) → IsRefused stage m r → IsRefused stage m s → r ≡ s
refused_once stage m r s a b =
    let faults-are : a.faults ≡ b.faults =
    same_by PathFaults a.faults b.faults (a.have.as_many ∙ sym b.have.as_many)
    (λ k x y gx gy.
    let f : (f : Function) × (slice_get m.functions k ≡ Some f) = there a.faults m.functions k x a.have.as_many gx in
    faults_once k f.0 x y (a.have.each k f.0 x f.1 gx) (b.have.each k f.0 y f.1 gy))
    in
    a.is ∙ ap (refusal stage m) faults-are ∙ sym b.is

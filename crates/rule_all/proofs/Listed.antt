-- The faults of all functions, one after another.
use Rattle.std.proofs.Common.{◌≡◌, ℕ, zero, suc, ◌+◌, ◌<◌, List, [], ◌∷◌, ◌++◌, length, get_or, refl, ap, sym, subst, ◌∙◌, length-append, Option, Some, None, inl, inr}
use Rattle.std.specs.Prelude.{slice_get, ◌⊎◌}
use Rattle.std.proofs.lemmas.Option.{slice_get-get_or}
use Rattle.rule_all.specs.Faults.{AreFaultsOf}
use Rattle.rule_all.specs.declared.faults.PathFaults.{PathFaults}
use Rattle.ir_model.specs.declared.module.Function.{Function}

some-same : {A : Type 0} {x y : A} → Some x ≡ Some y → x ≡ y
some-same e = cc

slice_get-push : {A : Type 0} (xs : List A) (v : A) (i : ℕ) (w : A) → slice_get (xs ++ v ∷ []) i ≡ Some w → ((i ≡ length xs) × (w ≡ v)) ⊎ (slice_get xs i ≡ Some w)
slice_get-push [] v zero w h = inl (refl, cc)
slice_get-push [] v (suc i) w h = absurd cc
slice_get-push (x ∷ xs) v zero w h = inr h
slice_get-push (x ∷ xs) v (suc i) w h = elim (slice_get-push xs v i w h) [ inl p ↦ inl (ap suc p.0, p.1) | inr q ↦ inr q ]

abbrev pub HasEach : List Function → List PathFaults → Type 0
HasEach functions all = (k : ℕ) (f : Function) (x : PathFaults) → slice_get functions k ≡ Some f → slice_get all k ≡ Some x → AreFaultsOf k f x

pub none-yet : (functions : List Function) → HasEach functions []
none-yet functions zero f x gf gx = absurd cc
none-yet functions (suc k) f x gf gx = absurd cc

pub each-more : (functions : List Function) (at : ℕ) (all next : List PathFaults) (function : Function) (x : PathFaults) → at < length functions → function ≡ get_or functions at function → length all ≡ at → next ≡ all ++ x ∷ [] → AreFaultsOf at function x → HasEach functions all → HasEach functions next
each-more functions at all next function x lt is len e has h k f y gf gy =
    let gy' : slice_get (all ++ x ∷ []) k ≡ Some y = ap (λ (l : List PathFaults). slice_get l k) (sym e) ∙ gy in
    elim (slice_get-push all x k y gy') [
      | inl p ↦
          let at-is : k ≡ at = p.0 ∙ len in
          let got : slice_get functions k ≡ Some function = ap (slice_get functions) at-is ∙ slice_get-get_or functions at function lt ∙ ap Some (sym is) in
          let same : function ≡ f = some-same (sym got ∙ gf) in
          let own : AreFaultsOf k function y =
          subst (λ n. AreFaultsOf n function y) (sym at-is) (subst (λ (u : PathFaults). AreFaultsOf at function u) (sym p.1) has) in
          subst (λ (g : Function). AreFaultsOf k g y) same own
      | inr q ↦ h k f y gf q
    ]

pub length-more : {A : Type 0} (xs next : List A) (x : A) (at : ℕ) → length xs ≡ at → next ≡ xs ++ x ∷ [] → length next ≡ at + 1
length-more xs next x at e is = ap length is ∙ length-append xs (x ∷ []) ∙ ap (λ n. n + 1) e

-- What else stands in the block that frees is executed by the first run alone.
use Rattle.std.proofs.Common.{◌≡◌, ◌≢◌, ◌+◌, ⊎_elim, inl, inr, ℕ, Bool, true, false, Option, Some, None, length, refl, sym, ap, ◌∙◌, subst, arith, ◌&&◌, ◌||◌}
use Rattle.std.specs.Prelude.{is_some}
use Rattle.pass_elide_proof.proofs.EdgeBare.{bare_made}
use Rattle.pass_elide_proof.proofs.Sized.{other_result, result_long, stepped}
use Rattle.pass_elide_proof.proofs.TopMoved.{SameHeld, gone_on, moved}
use Rattle.pass_elide_proof.specs.Elision.{Elision, differs_in, framed}
use Rattle.pass_elide_proof.specs.Ending.{IsAtPassed}
use Rattle.pass_elide_proof.specs.Match.{AreAsked, AreElided, AreNamed, AreReleased, Freeing, held_name, is_given_mode, sides, was_given}
use Rattle.pass_proofs.specs.run_framed.Framed.{framed_step}
use Rattle.pass_proofs.specs.run_laws.memory.Pointers.{IsValue}
use Rattle.pass_proofs.specs.run_memory.declared.pointer.Value.{Value}
use Rattle.pass_proofs.specs.run_source.State.{function_of, gives}
use Rattle.pass_proofs.specs.run_source.declared.state.Activation.{Activation}
use Rattle.pass_proofs.specs.run_source.declared.state.State.{State}
use Rattle.pass_proofs.specs.run_step.Step.{fetch}
use Rattle.pass_proofs.specs.run_step.Values.{Env, value_in, with_result}

-- a name that is held has the same value in other values
pub held_in : (env vs : Env) (o q : Option ℕ) → q ≡ o
    → ((name : ℕ) → o ≡ Some name → value_in vs name ≡ value_in env name) → SameHeld env vs o q
held_in env vs o q is same = subst (λ (p : Option ℕ). SameHeld env vs o p) (sym is) (on o same)
  where
    on : (o : Option ℕ) → ((name : ℕ) → o ≡ Some name → value_in vs name ≡ value_in env name) → SameHeld env vs o o
    on None same = tt
    on (Some name) same = same name refl

module _ (e : Elision) (s t : State) (result : Option ℕ) (w : Value) (r : AreElided e s t)
    (at : IsAtPassed e s t result w) where
  abbrev f : ℕ
  f = s.top.func

  abbrev vs : Env
  vs = with_result s.top.values result w

  abbrev a : Activation
  a = gone_on s.top s.top.block (s.top.at + 1) vs s.top.has_left

  abbrev c : Activation
  c = gone_on t.top t.top.block t.top.at t.top.values t.top.has_left

  -- the name that is set differs
  differ : (ramp given freed tested passed : Bool) → given ≡ true → passed ≡ true
      → (ramp || (given && (freed || (tested || passed)))) ≡ false → ⊥
  differ true given freed tested passed g p h = absurd (cc)
  differ false true true tested passed g p h = absurd (cc)
  differ false true false true passed g p h = absurd (cc)
  differ false true false false true g p h = absurd (cc)
  differ false true false false false g p h = absurd (cc)
  differ false false freed tested passed g p h = absurd (cc)

  unset : (v : ℕ) → differs_in (e.shape f) (is_given_mode t.top.mode) (was_given (sides s t) t.top) v ≡ false
      → (n : ℕ) → result ≡ Some n → v ≢ n
  unset v h n is same =
      differ (is_given_mode t.top.mode && ((e.shape f).need v || (e.shape f).made v)) (was_given (sides s t) t.top)
      ((e.shape f).freed v) (is_some ((e.shape f).tested v)) ((e.shape f).passed v) at.given
      (ap (e.shape f).passed same ∙ (at.passed n is).passed) h

  named : AreNamed e r.homes (was_given (sides s t) t.top) a c
  named = record {
    each = λ v h.
        subst (λ (x : Value). IsValue r.homes x (value_in t.top.values v))
        (sym (other_result s.top.values result v w (unset v h))) (r.top.values.each v h);
    room =
        let long = result_long s.top.values result w in
        let old = r.top.values.room in
        omega (arith, long, old);
  }

  yes_no : (p : Bool) → p ≡ true → p ≡ false → ⊥
  yes_no true y n = absurd (cc)
  yes_no false y n = absurd (cc)

  some_none : (o : Option Bool) (q : Bool) → o ≡ Some q → o ≡ None → ⊥
  some_none None q y n = absurd (cc)
  some_none (Some p) q y n = absurd (cc)

  same_need : (v : ℕ) → (e.shape f).need v ≡ true → value_in vs v ≡ value_in s.top.values v
  same_need v is =
      other_result s.top.values result v w
      (λ n set same. yes_no ((e.shape f).need v) is (ap (e.shape f).need same ∙ (at.passed n set).need))

  same_freed : (v : ℕ) → (e.shape f).freed v ≡ true → value_in vs v ≡ value_in s.top.values v
  same_freed v is =
      other_result s.top.values result v w
      (λ n set same. yes_no ((e.shape f).freed v) is (ap (e.shape f).freed same ∙ (at.passed n set).freed))

  same_tested : (v : ℕ) (p : Bool) → (e.shape f).tested v ≡ Some p → value_in vs v ≡ value_in s.top.values v
  same_tested v p is =
      other_result s.top.values result v w
      (λ n set same. some_none ((e.shape f).tested v) p is (ap (e.shape f).tested same ∙ (at.passed n set).tested))

  asked : is_given_mode t.top.mode ≡ true → AreAsked (e.shape f) a c
  asked ramp v is =
      ⊎_elim (λ none. inl (same_need v is ∙ none)) (λ both. inr (same_need v is ∙ both.0, both.1))
      (r.top.asked ramp v is)

  released : was_given (sides s t) t.top ≡ true → AreReleased (e.shape f) (sides s t) a c
  released given = record {
    freed = λ v is. ⊎_elim (λ none. inl (same_freed v is ∙ none))
        (λ both. inr (both.0, (both.1.0, both.1.1, same_freed v is ∙ both.1.2))) ((r.top.released given).freed v is);
    tested = λ v p is. ⊎_elim (λ none. inl (same_tested v p is ∙ none))
        (λ both. inr (same_tested v p is ∙ both.0, both.1)) ((r.top.released given).tested v p is);
  }

  held : (mode : Bool) → SameHeld s.top.values vs (held_name e mode s.top) (held_name e mode a)
  held true =
      held_in s.top.values vs ((e.shape f).holds s.top.block s.top.at)
      ((e.shape f).holds s.top.block (s.top.at + 1)) at.holds
      (λ name is. other_result s.top.values result name w (λ v set. at.kept v name set is))
  held false = tt

  pub passes : AreElided e (framed_step (framed e) s) t
  passes =
      subst (λ (v : State). AreElided e v t)
      (sym (stepped (framed e) s (gives s result w) (fetch (function_of (framed e).given s) s.top.block s.top.at)
      at.runs refl at.goes))
      (moved e s t r s.top.block (s.top.at + 1) vs s.top.has_left t.top.block t.top.at t.top.values t.top.has_left
      r.top.has_left (Freeing at.given at.waits at.stays) named asked released
      (bare_made e s t r at.none s.top.block (s.top.at + 1) t.top.block t.top.at vs t.top.values)
      (held (is_given_mode t.top.mode)))

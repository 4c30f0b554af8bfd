-- coro.end in a ramp, which goes on.
use Rattle.std.proofs.Common.{◌≡◌, ◌≢◌, ◌+◌, ◌≤◌, inl, inr, ⊎_elim, ℕ, zero, suc, Bool, true, false, List, [], ◌∷◌, length, Ok, Result, refl, sym, ap, ◌∙◌, subst, arith}
use Rattle.std.specs.Prelude.{None, Option, Some, if◌then◌else◌}
use Rattle.pass_elide_proof.proofs.EdgeBare.{bare_made}
use Rattle.pass_elide_proof.proofs.EdgeEntered.{function_same}
use Rattle.pass_elide_proof.proofs.Finished.{EndsBoth, ends_both}
use Rattle.pass_elide_proof.proofs.GivingNone.{front_same}
use Rattle.pass_elide_proof.proofs.PassedAlone.{held_in}
use Rattle.pass_elide_proof.proofs.Sized.{other_result, result_long, stepped}
use Rattle.pass_elide_proof.proofs.TopMoved.{SameHeld, gone_on, moved}
use Rattle.pass_elide_proof.specs.Edges.{GivesNone, IsNoAnswer}
use Rattle.pass_elide_proof.specs.Elision.{Elision, elided, framed, function_in, function_in_elided, rooms}
use Rattle.pass_elide_proof.specs.Ends.{IsAtCoroEnd, IsAtRampEnd}
use Rattle.pass_elide_proof.specs.Places.{front_at}
use Rattle.pass_elide_proof.specs.Match.{AreAsked, AreElided, AreModes, AreNamed, AreReleased, Beside, Given, IsAt, Same, held_name, is_given_mode, sides, was_given}
use Rattle.pass_proofs.specs.ir_base.declared.cause.Cause.{Cause}
use Rattle.pass_proofs.specs.ir_model.Ty.{Ty}
use Rattle.pass_proofs.specs.ir_model.declared.instr.Instr.{Instr}
use Rattle.pass_proofs.specs.ir_model.declared.module.Function.{Function}
use Rattle.pass_proofs.specs.ir_model.declared.operand.Arg.{Arg}
use Rattle.pass_proofs.specs.ir_model.declared.operand.Callee.{Callee}
use Rattle.pass_proofs.specs.ir_model.declared.operand.Intrinsic.{Intrinsic}
use Rattle.pass_proofs.specs.run_framed.Framed.{framed_finish, framed_next, framed_step}
use Rattle.pass_proofs.specs.run_laws.memory.Pointers.{Home, IsValue}
use Rattle.pass_proofs.specs.run_memory.declared.pointer.Value.{Value}
use Rattle.pass_proofs.specs.run_source.Source.{after_end}
use Rattle.pass_proofs.specs.run_source.State.{function_of, gives, with_memory}
use Rattle.pass_proofs.specs.run_source.declared.state.Activation.{Activation}
use Rattle.pass_proofs.specs.run_source.declared.state.Mode.{Mode}
use Rattle.pass_proofs.specs.run_source.declared.state.State.{State}
use Rattle.pass_proofs.specs.run_step.Step.{AtInstr, Fetched, fetch}
use Rattle.pass_proofs.specs.run_step.Values.{Env, truth_value, value_in, with_result, with_value}

-- ---- a name that is set to the same in both

value_both : (homes : List Home) (env other : Env) (u v : ℕ) (w : Value) → length env ≤ length other
    → IsValue homes w w → IsValue homes (value_in env v) (value_in other v)
    → IsValue homes (value_in (with_value env u w) v) (value_in (with_value other u w) v)
value_both homes [] other u v w le now old = tt
value_both homes (a ∷ env) [] u v w le now old = absurd (omega (arith, le))
value_both homes (a ∷ env) (b ∷ other) zero zero w le now old = now
value_both homes (a ∷ env) (b ∷ other) zero (suc v) w le now old = old
value_both homes (a ∷ env) (b ∷ other) (suc u) zero w le now old = old
value_both homes (a ∷ env) (b ∷ other) (suc u) (suc v) w le now old =
    value_both homes env other u v w (omega (arith, le)) now old

result_both : (homes : List Home) (env other : Env) (result : Option ℕ) (v : ℕ) (w : Value)
    → length env ≤ length other → IsValue homes w w → IsValue homes (value_in env v) (value_in other v)
    → IsValue homes (value_in (with_result env result w) v) (value_in (with_result other result w) v)
result_both homes env other None v w le now old = old
result_both homes env other (Some u) v w le now old = value_both homes env other u v w le now old

yes_no : (p : Bool) → p ≡ true → p ≡ false → ⊥
yes_no true y n = absurd (cc)
yes_no false y n = absurd (cc)

some_none : (o : Option Bool) (q : Bool) → o ≡ Some q → o ≡ None → ⊥
some_none None q y n = absurd (cc)
some_none (Some p) q y n = absurd (cc)

-- ---- both runs go on, with the same result

module _ (e : Elision) (s t : State) (r : AreElided e s t) (none : GivesNone e s.top.func)
    (beside : t.top.block ≡ s.top.block) (stands : t.top.at ≡ s.top.at) (result : Option ℕ)
    (answers : (v : ℕ) → result ≡ Some v → IsNoAnswer (e.shape s.top.func) v)
    (holds : (e.shape s.top.func).holds s.top.block (s.top.at + 1) ≡ (e.shape s.top.func).holds s.top.block s.top.at)
    (kept : (v name : ℕ) → result ≡ Some v → (e.shape s.top.func).holds s.top.block s.top.at ≡ Some name → name ≢ v)
    (b : Bool) where
  abbrev f : ℕ
  f = s.top.func

  abbrev w : Value
  w = truth_value b

  abbrev vs : Env
  vs = with_result s.top.values result w

  abbrev ws : Env
  ws = with_result t.top.values result w

  abbrev a : Activation
  a = gone_on s.top s.top.block (s.top.at + 1) vs s.top.has_left

  abbrev c : Activation
  c = gone_on t.top t.top.block (t.top.at + 1) ws t.top.has_left

  word : (homes : List Home) (q : Bool) → IsValue homes (truth_value q) (truth_value q)
  word homes true = refl
  word homes false = refl

  named : AreNamed e r.homes (was_given (sides s t) t.top) a c
  named = record {
    each = λ v h.
        result_both r.homes s.top.values t.top.values result v w r.top.values.room (word r.homes b)
        (r.top.values.each v h);
    room =
        let long = result_long s.top.values result w in
        let more = result_long t.top.values result w in
        let old = r.top.values.room in
        omega (arith, long, more, old);
  }

  kept_by : (env : Env) (v : ℕ) → (IsNoAnswer (e.shape f) v → ⊥)
      → value_in (with_result env result w) v ≡ value_in env v
  kept_by env v bars =
      other_result env result v w (λ n set same. bars (subst (IsNoAnswer (e.shape f)) (sym same) (answers n set)))

  same_need : (env : Env) (v : ℕ) → (e.shape f).need v ≡ true
      → value_in (with_result env result w) v ≡ value_in env v
  same_need env v is = kept_by env v (λ h. yes_no ((e.shape f).need v) is h.need)

  same_freed : (env : Env) (v : ℕ) → (e.shape f).freed v ≡ true
      → value_in (with_result env result w) v ≡ value_in env v
  same_freed env v is = kept_by env v (λ h. yes_no ((e.shape f).freed v) is h.freed)

  same_tested : (env : Env) (v : ℕ) (p : Bool) → (e.shape f).tested v ≡ Some p
      → value_in (with_result env result w) v ≡ value_in env v
  same_tested env v p is = kept_by env v (λ h. some_none ((e.shape f).tested v) p is h.tested)

  asked : is_given_mode t.top.mode ≡ true → AreAsked (e.shape f) a c
  asked ramp v is =
      ⊎_elim (λ bare. inl (same_need s.top.values v is ∙ bare))
      (λ both. inr (same_need s.top.values v is ∙ both.0, same_need t.top.values v is ∙ both.1)) (r.top.asked ramp v is)

  released : was_given (sides s t) t.top ≡ true → AreReleased (e.shape f) (sides s t) a c
  released given = record {
    freed = λ v is. ⊎_elim (λ bare. inl (same_freed s.top.values v is ∙ bare))
        (λ both. inr (
          same_freed t.top.values v is ∙ both.0,
          (both.1.0, both.1.1, same_freed s.top.values v is ∙ both.1.2),
        )) ((r.top.released given).freed v is);
    tested = λ v p is. ⊎_elim (λ bare. inl (same_tested s.top.values v p is ∙ bare))
        (λ both. inr (same_tested s.top.values v p is ∙ both.0, same_tested t.top.values v p is ∙ both.1))
        ((r.top.released given).tested v p is);
  }

  held : (mode : Bool) → SameHeld s.top.values vs (held_name e mode s.top) (held_name e mode a)
  held true =
      held_in s.top.values vs ((e.shape f).holds s.top.block s.top.at)
      ((e.shape f).holds s.top.block (s.top.at + 1)) holds
      (λ name is. other_result s.top.values result name w (λ v set. kept v name set is))
  held false = tt

  place : IsAt e r.homes (was_given (sides s t) t.top) a c
  place =
      Beside beside
      (ap (λ (n : ℕ). n + 1) stands
      ∙ sym (front_same (rooms e f) (function_in e f) none s.top.block (s.top.at + 1)))

  pub both_give : AreElided e (gives s result w) (gives t result w)
  both_give =
      moved e s t r s.top.block (s.top.at + 1) vs s.top.has_left t.top.block (t.top.at + 1) ws t.top.has_left
      r.top.has_left place named asked released
      (bare_made e s t r none s.top.block (s.top.at + 1) t.top.block (t.top.at + 1) vs ws)
      (held (is_given_mode t.top.mode))

-- ---- coro.end

-- both stand at the same call
module _ (e : Elision) (s t : State) (r : AreElided e s t) (none : GivesNone e s.top.func)
    (beside : t.top.block ≡ s.top.block)
    (stands : t.top.at ≡ front_at (rooms e s.top.func) (function_in e s.top.func) s.top.block s.top.at) where
  same_function : function_in_elided e t.top.func ≡ function_in e s.top.func
  same_function = ap (function_in_elided e) r.top.func ∙ function_same e s.top.func none

  pub place_same : t.top.at ≡ s.top.at
  place_same = stands ∙ front_same (rooms e s.top.func) (function_in e s.top.func) none s.top.block s.top.at

  pub there_same : (x : Fetched) → fetch (function_of (framed e).given s) s.top.block s.top.at ≡ x
      → fetch (function_of (elided e).given t) t.top.block t.top.at ≡ x
  there_same x there = (λ i. fetch (same_function i) (beside i) (place_same i)) ∙ there

module _ (e : Elision) (s t : State) (r : AreElided e s t) (result : Option ℕ) (must_tail : Bool) (ty : Option Ty)
    (args : List Arg) (at : IsAtCoroEnd e s t r result must_tail ty args) where
  abbrev pub call : Fetched
  call = AtInstr (Instr.Call result must_tail ty (Callee.Intrinsic Intrinsic.CoroEnd) args)

  pub same_place : t.top.at ≡ s.top.at
  same_place = place_same e s t r at.none at.beside at.stands

  pub end_there : fetch (function_of (elided e).given t) t.top.block t.top.at ≡ call
  end_there = there_same e s t r at.none at.beside at.stands call at.there

-- a ramp beside a ramp, given or not
pub goes_on : (m k : Mode) → AreModes m k → m ≡ Mode.Ramp → (t : State) (result : Option ℕ)
    → after_end t result k ≡ Ok (gives t result (truth_value false))
goes_on m k (Same mode allocating) ramp t result = ap (after_end t result) ramp
goes_on m k (Given block offset) ramp t result = refl

module _ (e : Elision) (s t : State) (r : AreElided e s t) (result : Option ℕ) (must_tail : Bool) (ty : Option Ty)
    (args : List Arg) (at : IsAtRampEnd e s t r result must_tail ty args) where
  abbrev mine : State
  mine = if s.top.has_left then s else framed_finish s

  abbrev yours : State
  yours = if t.top.has_left then t else framed_finish t

  both : EndsBoth e s t mine yours
  both = ends_both e s t r at.ends.own s.top.has_left t.top.has_left r.top.has_left

  abbrev mine_over : State
  mine_over = record s { instances = both.xs }

  abbrev yours_over : State
  yours_over = with_memory (record t { instances = both.ys }) both.memory

  first : framed_step (framed e) s ≡ gives mine_over result (truth_value false)
  first =
      stepped (framed e) s (gives mine_over result (truth_value false)) (call e s t r result must_tail ty args at.ends)
      at.ends.runs at.ends.there
      (ap (after_end mine result) at.ramp ∙ ap (λ (v : State). Ok (gives v result (truth_value false))) both.first)

  second : framed_step (elided e) t ≡ gives yours_over result (truth_value false)
  second =
      stepped (elided e) t (gives yours_over result (truth_value false)) (call e s t r result must_tail ty args at.ends)
      (r.outcome ∙ at.ends.runs) (end_there e s t r result must_tail ty args at.ends)
      (goes_on s.top.mode t.top.mode r.top.mode at.ramp yours result
      ∙ ap (λ (v : State). Ok (gives v result (truth_value false))) both.second)

  pub ramp_ends : AreElided e (framed_step (framed e) s) (framed_step (elided e) t)
  ramp_ends =
      subst (λ (v : State × State). AreElided e v.0 v.1) (λ i. (sym first i, sym second i))
      (both_give e mine_over yours_over both.beside at.ends.none at.ends.beside
      (same_place e s t r result must_tail ty args at.ends) result at.answers at.holds at.kept false)

-- Elidable callees and sites of modules whose functions are changed.
use Rattle.std.proofs.Common.{◌≡◌, ℕ, suc, Bool, true, false, List, [], ◌∷◌, ◌++◌, length, Some, None, Option, refl, sym, ap, ◌∙◌, subst, ◌↔◌, arith}
use Rattle.std.proofs.lemmas.Option.{slice_get-map}
use Rattle.std.specs.Prelude.{map, option_map, slice_get, unwrap_or, if◌then◌else◌}
use Rattle.rule_laws.specs.ir_base.declared.outcome.Place.{Place}
use Rattle.rule_laws.specs.rule_shape.Places.{places_where}
use Rattle.run_states.proofs.renamed.Modules.{IsMild, length_same, named_there}
use Rattle.rule_laws.specs.ir_laws.facts.renamed.Passes.{with_functions}
use Rattle.elide_sites.specs.Chosen.{AreChosen, up_to}
use Rattle.elide_sites.specs.Chosen.AreChosen.{LeftOut, Nothing, Taken}
use Rattle.elide_sites.specs.Elidable.{AreElidable, IsElidable}
use Rattle.elide_sites.specs.Sites.{AreSites, AreSitesOf, IsSite, callee_in, is_named_call, plain_calls}
use Rattle.elide_sites.specs.Sites.AreSitesOf.{More, NoFunction}
use Rattle.ir_model.specs.Names.{function_at, no_function}
use Rattle.ir_model.specs.declared.instr.Instr.{Instr}
use Rattle.ir_model.specs.declared.module.Function.{Function}
use Rattle.ir_model.specs.declared.module.Module.{Module}
use Rattle.ir_model.specs.declared.operand.Callee.{Callee}
use Rattle.rule_laws.specs.ir_paths.Windows.{instr_at}
use Rattle.rule_laws.specs.rule_windows.Points.{point_of}

-- ---- choices

chosen_over : {X : Type 0} (P Q : X → Type 0) → ((x : X) → P x ↔ Q x) → (xs all : List X) → AreChosen P xs all → AreChosen Q xs all
chosen_over P Q h _ _ Nothing = Nothing
chosen_over P Q h _ _ (Taken x xs all c holds) = Taken x xs all (chosen_over P Q h xs all c) ((h x).0 holds)
chosen_over P Q h _ _ (LeftOut x xs all c never) = LeftOut x xs all (chosen_over P Q h xs all c) (λ q. never ((h x).1 q))

one_behind : {X : Type 0} (xs : List X) (x : X) → length (xs ++ x ∷ []) ≡ suc (length xs)
one_behind [] x = refl
one_behind (y ∷ xs) x = ap suc (one_behind xs x)

none_chosen : {X : Type 0} (P Q : X → Type 0) (xs all : List X) → length xs ≡ 0 → AreChosen P xs all → AreChosen Q xs all
none_chosen P Q _ _ e Nothing = Nothing
none_chosen P Q _ _ e (Taken x xs all c holds) = let more = one_behind xs x in absurd (omega (arith, e, more))
none_chosen P Q _ _ e (LeftOut x xs all c never) = let more = one_behind xs x in absurd (omega (arith, e, more))

-- ---- functions that are changed at most where they are coroutines

pub record IsLike (f g : Function) : Type 0 where
  pub coroutine : g.coroutine ≡ f.coroutine
  pub plain : f.coroutine ≡ false → g ≡ f

AreLike : List Function → List Function → Type 0
AreLike [] [] = Unit {0}
AreLike (f ∷ fs) (g ∷ gs) = IsLike f g × AreLike fs gs
AreLike [] (g ∷ gs) = ⊥
AreLike (f ∷ fs) [] = ⊥

record IsOneMore (fs : List Function) (f : Function) (gs : List Function) : Type 0 where
  before : List Function
  last : Function
  is : gs ≡ before ++ last ∷ []
  like : AreLike fs before
  like_last : IsLike f last
  count : length before ≡ length fs

one_more : (fs : List Function) (f : Function) (gs : List Function) → AreLike (fs ++ f ∷ []) gs → IsOneMore fs f gs
unfolding AreLike
one_more [] f [] h = absurd h
one_more [] f (g ∷ []) h = record { before = []; last = g; is = refl; like = tt; like_last = h.0; count = refl }
one_more [] f (g ∷ k ∷ gs) h = absurd h.1
one_more (x ∷ fs) f [] h = absurd h
one_more (x ∷ fs) f (g ∷ gs) h =
    let rest = one_more fs f gs h.1 in
    record { before = g ∷ rest.before; last = rest.last; is = ap (λ ks. g ∷ ks) rest.is; like = (h.0, rest.like); like_last = rest.like_last; count = ap suc rest.count }

-- ---- sites

module _ (m k : Module) (callees : (i : Option Instr) → callee_in k i ≡ callee_in m i) (elidable : (g : ℕ) → IsElidable (function_at m g) → IsElidable (function_at k g)) where
  site_over : (f : Function) (p : Place) → IsSite m f p → IsSite k f p
  site_over f p h = record {
    calls = record {
      callee = h.calls.callee;
      is_callee = callees (instr_at f (point_of f p)) ∙ h.calls.is_callee;
      is_elidable = elidable h.calls.callee h.calls.is_elidable;
    };
    handled = h.handled;
  }

module _ (m k : Module) (callees : (i : Option Instr) → callee_in k i ≡ callee_in m i) (elidable : (g : ℕ) → IsElidable (function_at m g) ↔ IsElidable (function_at k g)) where
  site_same : (f : Function) (p : Place) → IsSite m f p ↔ IsSite k f p
  site_same f p = (
    site_over m k callees (λ g. (elidable g).0) f p,
    site_over k m (λ i. sym (callees i)) (λ g. (elidable g).1) f p,
  )

  chosen_in : (at : ℕ) (f g : Function) (here : List Place) → IsLike f g → AreChosen (IsSite m f) (plain_calls at f) here → AreChosen (IsSite k g) (plain_calls at g) here
  chosen_in at f g here like c = on f.coroutine refl
    where
      on : (b : Bool) → f.coroutine ≡ b → AreChosen (IsSite k g) (plain_calls at g) here
      on true e =
          let none_f : plain_calls at f ≡ [] = ap (λ (t : Bool). if t then [] else places_where is_named_call at f) e in
          let none_g : plain_calls at g ≡ [] = ap (λ (t : Bool). if t then [] else places_where is_named_call at g) (like.coroutine ∙ e) in
          subst (λ ps. AreChosen (IsSite k g) ps here) (sym none_g)
          (none_chosen (IsSite m f) (IsSite k g) [] here refl (subst (λ ps. AreChosen (IsSite m f) ps here) none_f c))
      on false e =
          subst (λ (h : Function). AreChosen (IsSite k h) (plain_calls at h) here) (sym (like.plain e))
          (chosen_over (IsSite m f) (IsSite k f) (site_same f) (plain_calls at f) here c)

  sites_of_over : (fs : List Function) (all : List Place) → AreSitesOf m fs all → (gs : List Function) → AreLike fs gs → AreSitesOf k gs all
  unfolding AreLike
  sites_of_over _ _ NoFunction [] like = NoFunction
  sites_of_over _ _ NoFunction (g ∷ gs) like = absurd like
  sites_of_over _ _ (More fs f before here sites chosen) gs like =
      let more = one_more fs f gs like in
      subst (λ (hs : List Function). AreSitesOf k hs (before ++ here)) (sym more.is)
      (More more.before more.last before here
      (sites_of_over fs before sites more.before more.like)
      (subst (λ (at : ℕ). AreChosen (IsSite k more.last) (plain_calls at more.last) here) (sym more.count) (chosen_in (length fs) f more.last here more.like_last chosen)))

-- ---- changes of all functions

pub record IsPlainChange (change : Function → Function) : Type 0 where
  pub mild : IsMild change
  pub coroutine : (f : Function) → (change f).coroutine ≡ f.coroutine
  pub plain : (f : Function) → f.coroutine ≡ false → change f ≡ f

module _ (change : Function → Function) (is : IsPlainChange change) (m : Module) (one : (g : ℕ) (f : Function) → function_at m g ≡ f → f.coroutine ≡ true → IsElidable f ↔ IsElidable (change f)) where
  abbrev k : Module
  k = with_functions change m

  there : (g : ℕ) → function_at k g ≡ change (function_at m g)
  there g = ap (λ (o : Option Function). unwrap_or o no_function) (slice_get-map change m.functions g) ∙ on (slice_get m.functions g)
    where
      on : (o : Option Function) → unwrap_or (option_map change o) no_function ≡ change (unwrap_or o no_function)
      on None = sym (is.plain no_function refl)
      on (Some f) = refl

  each_same : (g : ℕ) → IsElidable (function_at m g) ↔ IsElidable (function_at k g)
  each_same g = subst (λ (h : Function). IsElidable (function_at m g) ↔ IsElidable h) (sym (there g)) (on (function_at m g).coroutine refl)
    where
      on : (b : Bool) → (function_at m g).coroutine ≡ b → IsElidable (function_at m g) ↔ IsElidable (change (function_at m g))
      on true e = one g (function_at m g) refl e
      on false e = subst (λ (h : Function). IsElidable (function_at m g) ↔ IsElidable h) (sym (is.plain (function_at m g) e)) ((λ h. h), (λ h. h))

  callees_same : (o : Option Instr) → callee_in k o ≡ callee_in m o
  callees_same (Some (Instr.Call result must_tail ty (Callee.Named n) args)) = named_there change is.mild m n
  callees_same _ = refl

  all_like : (fs : List Function) → AreLike fs (map change fs)
  unfolding AreLike
  all_like [] = tt
  all_like (f ∷ fs) = (record { coroutine = is.coroutine f; plain = is.plain f }, all_like fs)

  like_back : (fs : List Function) → AreLike (map change fs) fs
  unfolding AreLike
  like_back [] = tt
  like_back (f ∷ fs) = (record { coroutine = sym (is.coroutine f); plain = λ e. sym (is.plain f (sym (is.coroutine f) ∙ e)) }, like_back fs)

  pub callees_stay : (all : List ℕ) → AreElidable m all ↔ AreElidable k all
  callees_stay all =
      let count : up_to (length k.functions) ≡ up_to (length m.functions) = ap up_to (length_same change m.functions) in
      subst (λ ns. AreElidable m all ↔ AreChosen (λ g. IsElidable (function_at k g)) ns all) (sym count) (
        chosen_over (λ g. IsElidable (function_at m g)) (λ g. IsElidable (function_at k g)) each_same (up_to (length m.functions)) all,
        chosen_over (λ g. IsElidable (function_at k g)) (λ g. IsElidable (function_at m g)) (λ g. ((each_same g).1, (each_same g).0)) (up_to (length m.functions)) all,
      )

  pub sites_stay : (all : List Place) → AreSites m all ↔ AreSites k all
  sites_stay all = (
    λ h. sites_of_over m k callees_same each_same m.functions all h (map change m.functions) (all_like m.functions),
    λ h. sites_of_over k m (λ i. sym (callees_same i)) (λ g. ((each_same g).1, (each_same g).0)) (map change m.functions) all h m.functions (like_back m.functions),
  )

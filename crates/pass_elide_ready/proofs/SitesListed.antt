-- Where a site is listed, a call of an elidable function stands in a function that is no coroutine, and is handled.
use Rattle.std.proofs.Common.{◌≡◌, inl, ⊎_elim, ℕ, zero, suc, ◌+◌, ◌-◌, Bool, true, false, List, [], ◌∷◌, ◌++◌, length, refl, sym, ap, ◌∙◌, subst, arith}
use Rattle.std.specs.Prelude.{Some, slice_get, if◌then◌else◌, ◌==◌}
use Rattle.elide_sites.specs.Chosen.{AreChosen, LeftOut, Nothing, Taken}
use Rattle.elide_sites.specs.Sites.{AreSites, AreSitesOf, IsSite, IsSiteAt, More, NoFunction, is_named_call, plain_calls}
use Rattle.pass_elide.specs.Places.{is_at, is_site, same_call_place}
use Rattle.pass_elide.specs.declared.places.CallPlace.{CallPlace}
use Rattle.pass_elide_edges.proofs.pass_elide_proof.pass_proofs.ir_laws.facts.Lists.{at_any}
use Rattle.pass_elide_edges.proofs.pass_elide_proof.pass_proofs.ir_laws.facts.Truth.{and_first, and_second, equal_numbers}
use Rattle.pass_elide_edges.proofs.pass_elide_proof.pass_proofs.ir_laws.paths.edges.Lists.{listed_at}
use Rattle.pass_elide_edges.proofs.pass_elide_proof.pass_proofs.ir_laws.paths.source_rules.Locals.{listed_either, listed_left, listed_right}
use Rattle.pass_elide_edges.proofs.pass_elide_proof.pass_proofs.rule_laws.rules.source_rules.Once.{listed_place}
use Rattle.pass_elide_edges.specs.pass_elide_proof.pass_proofs.flow_solver.Paths.{IsListed}
use Rattle.pass_elide_edges.specs.pass_elide_proof.pass_proofs.ir_base.declared.outcome.Place.{Place}
use Rattle.pass_elide_edges.specs.pass_elide_proof.pass_proofs.ir_model.declared.instr.Instr.{Instr}
use Rattle.pass_elide_edges.specs.pass_elide_proof.pass_proofs.ir_model.declared.module.Function.{Function}
use Rattle.pass_elide_edges.specs.pass_elide_proof.pass_proofs.ir_model.declared.module.Module.{Module}
use Rattle.pass_elide_edges.specs.pass_elide_proof.pass_proofs.ir_paths.Windows.{instr_at}
use Rattle.pass_elide_edges.specs.pass_elide_proof.pass_proofs.ir_paths.declared.point.Point.{Point}
use Rattle.pass_elide_edges.specs.pass_elide_proof.pass_proofs.rule_shape.Places.{places_where}
use Rattle.pass_elide_edges.specs.pass_elide_proof.pass_proofs.rule_windows.Points.{phi_count, point_of}

-- ---- lists

stays : {A : Type 0} (xs ys : List A) (k : ℕ) (y : A) → slice_get xs k ≡ Some y → slice_get (xs ++ ys) k ≡ Some y
stays [] ys k y e = absurd (cc)
stays (x ∷ xs) ys zero y e = e
stays (x ∷ xs) ys (suc k) y e = stays xs ys k y e

at_end : {A : Type 0} (xs : List A) (x : A) → slice_get (xs ++ x ∷ []) (length xs) ≡ Some x
at_end [] x = refl
at_end (y ∷ xs) x = at_end xs x

chosen_from : {T : Type 0} (Holds : T → Type 0) (xs all : List T) → AreChosen Holds xs all → (y : T) → IsListed y all
    → Holds y × IsListed y xs
chosen_from Holds _ _ Nothing y l = absurd l
chosen_from Holds _ _ (Taken x xs all rest h) y l = ⊎_elim
    (λ (a : IsListed y all). let r = chosen_from Holds xs all rest y a in (r.0, listed_left y xs (x ∷ []) r.1))
    (λ (b : IsListed y (x ∷ [])). ⊎_elim
    (λ (e : y ≡ x). (subst Holds (sym e) h, listed_right y xs (x ∷ []) (inl e)))
    (λ (none : ⊥). absurd none) b)
    (listed_either y all (x ∷ []) l)
chosen_from Holds _ _ (LeftOut x xs all rest h) y l =
    let r = chosen_from Holds xs all rest y l in (r.0, listed_left y xs (x ∷ []) r.1)

-- ---- sites of a source

module _ (source : Module) where
  record HasSite (fs : List Function) (p : Place) : Type 0 where
    func : ℕ
    function : Function
    there : slice_get fs func ≡ Some function
    calls : IsListed p (plain_calls func function)
    site : IsSite source function p

  site_in : (fs : List Function) (all : List Place) → AreSitesOf source fs all → (p : Place) → IsListed p all
      → HasSite fs p
  site_in _ _ NoFunction p l = absurd l
  site_in _ _ (More fs f before here rest chosen) p l = ⊎_elim
      (λ (a : IsListed p before).
      let x = site_in fs before rest p a in
      record {
        func = x.func;
        function = x.function;
        there = stays fs (f ∷ []) x.func x.function x.there;
        calls = x.calls;
        site = x.site;
      })
      (λ (b : IsListed p here).
      let x = chosen_from (IsSite source f) (plain_calls (length fs) f) here chosen p b in
      record { func = length fs; function = f; there = at_end fs f; calls = x.1; site = x.0 })
      (listed_either p before here l)

  -- a call of an elidable function at a place that counts phis
  pub record IsSiteThere (func block at : ℕ) : Type 0 where
    pub function : Function
    pub there : slice_get source.functions func ≡ Some function
    pub plain : function.coroutine ≡ false
    pub point : Point
    pub instr : Instr
    pub stands : instr_at function point ≡ Some instr
    pub block_is : point.block ≡ block
    pub at_is : phi_count function point.block + point.at ≡ at
    pub site : IsSiteAt source function point

  -- in a function that is no coroutine
  plain_of : (func : ℕ) (f : Function) (p : Place) → IsListed p (plain_calls func f)
      → (f.coroutine ≡ false) × IsListed p (places_where is_named_call func f)
  plain_of func f p l = on f.coroutine refl l
    where
      on : (b : Bool) → f.coroutine ≡ b → IsListed p (if b then [] else places_where is_named_call func f)
          → (f.coroutine ≡ false) × IsListed p (places_where is_named_call func f)
      on true e k = absurd k
      on false e k = (e, k)

  back : (a b : ℕ) → (a + b) - a ≡ b
  back a b = omega arith

  site_listed : (sites : List Place) → AreSites source sites → (func block at : ℕ) (p : Place) → IsListed p sites
      → is_at (record { func = func; block = block; at = at }) p ≡ true → IsSiteThere func block at
  site_listed sites are func block at p l e =
      let s : CallPlace = record { func = func; block = block; at = at } in
      let x = site_in source.functions sites are p l in
      let y = plain_of x.func x.function p x.calls in
      let z = listed_place is_named_call x.func x.function p y.1 in
      let n : ℕ = phi_count x.function z.point.block + z.point.at in
      let same : same_call_place (record { func = x.func; block = z.point.block; at = n }) s ≡ true =
      sym (ap (is_at s) z.place) ∙ e in
      let funcs = equal_numbers x.func func (and_first (x.func == func) _ same) in
      let rest = and_second (x.func == func) _ same in
      let point : point_of x.function p ≡ z.point =
      ap (point_of x.function) z.place
      ∙ (λ k. record { block = z.point.block; at = back (phi_count x.function z.point.block) z.point.at k }) in
      record {
        function = x.function;
        there = ap (slice_get source.functions) (sym funcs) ∙ x.there;
        plain = y.0;
        point = z.point;
        instr = z.instr;
        stands = z.stands;
        block_is = equal_numbers z.point.block block (and_first (z.point.block == block) _ rest);
        at_is = equal_numbers n at (and_second (z.point.block == block) _ rest);
        site = subst (IsSiteAt source x.function) point x.site;
      }

  pub site_there : (sites : List Place) → AreSites source sites → (func block at : ℕ)
      → is_site sites (record { func = func; block = block; at = at }) ≡ true → IsSiteThere func block at
  site_there sites are func block at e =
      let x = at_any (is_at (record { func = func; block = block; at = at })) sites e in
      site_listed sites are func block at x.element (listed_at sites x.index x.element x.got) x.passes

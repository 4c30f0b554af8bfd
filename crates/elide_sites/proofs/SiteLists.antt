-- Whether calls are sites, one after another.
use Rattle.std.proofs.Common.{◌≡◌, ℕ, ◌+◌, ◌<◌, ◌≤◌, Bool, true, false, not, ◌&&◌, List, [], ◌∷◌, ◌++◌, length, take, get_or, Some, None, refl, sym, ap, ◌∙◌, subst, arith}
use Rattle.std.proofs.lemmas.Bool.{false≢true}
use Rattle.std.proofs.lemmas.List.{take_more, length-take-le}
use Rattle.std.specs.Prelude.{slice_get, Option, IsTrue, ◌↔◌, if◌then◌else◌}
use Rattle.ir_base.specs.declared.outcome.Place.{Place}
use Rattle.elide_sites.proofs.Choosing.{chosen_step}
use Rattle.elide_shape.specs.Calls.{value_at}
use Rattle.rule_windows.specs.Points.{point_of}
use Rattle.elide_sites.specs.Chosen.{AreChosen}
use Rattle.elide_sites.specs.Elidable.{IsElidable}
use Rattle.elide_sites.specs.Handles.{is_handle}
use Rattle.elide_sites.specs.Sites.{AreSites, AreSitesOf, CallsElidable, IsDestroyed, IsHandled, IsSite, IsSiteAt, callee_in, plain_calls}
use Rattle.elide_sites.specs.Sites.AreSitesOf.{NoFunction, More}
use Rattle.ir_model.specs.Names.{function_at}
use Rattle.ir_model.specs.declared.module.Function.{Function}
use Rattle.ir_model.specs.declared.module.Module.{Module}
use Rattle.ir_paths.specs.Windows.{instr_at}
use Rattle.ir_paths.specs.declared.point.Point.{Point}
use Rattle.flow_points.proofs.Tests.{take-all}

-- ---- one call

none_called : (g : ℕ) → None ≡ Some g → ⊥
none_called g e = cc

same_some : (a b : ℕ) → Some a ≡ Some b → a ≡ b
same_some a b e = cc

pub calls_none : (m : Module) (f : Function) (call : Point) → callee_in m (instr_at f call) ≡ None → IsTrue false ↔ CallsElidable m f call
calls_none m f call none = ((λ e. absurd (false≢true e)), (λ is. absurd (none_called is.callee (sym none ∙ is.is_callee))))

pub calls_some : (m : Module) (f : Function) (call : Point) (g : ℕ) (b : Bool) → callee_in m (instr_at f call) ≡ Some g → IsTrue b ↔ IsElidable (function_at m g) → IsTrue b ↔ CallsElidable m f call
calls_some m f call g b called right = (
  (λ e. record { callee = g; is_callee = called; is_elidable = right.0 e }),
  (λ is. right.1 (subst (λ h. IsElidable (function_at m h)) (same_some is.callee g (sym is.is_callee ∙ called)) is.is_elidable)),
)

pub handled : (f : Function) (call : Point) (b : Bool) → is_handle f (value_at f call) ≡ true → IsTrue b ↔ IsDestroyed f call → IsTrue b ↔ IsHandled f call
handled f call b so right = ((λ e. record { is_handle = so; is_destroyed = right.0 e }), (λ is. right.1 is.is_destroyed))

pub not_handled : (f : Function) (call : Point) → is_handle f (value_at f call) ≡ false → IsTrue false ↔ IsHandled f call
not_handled f call not_so = ((λ e. absurd (false≢true e)), (λ is. absurd (false≢true (sym not_so ∙ is.is_handle))))

pub site_called : (m : Module) (f : Function) (call : Point) (a b : Bool) → IsTrue a ↔ CallsElidable m f call → a ≡ true → IsTrue b ↔ IsHandled f call → IsTrue b ↔ IsSiteAt m f call
site_called m f call a b calls so handles = ((λ e. record { calls = calls.0 so; handled = handles.0 e }), (λ is. handles.1 is.handled))

pub not_called : (m : Module) (f : Function) (call : Point) (a : Bool) → IsTrue a ↔ CallsElidable m f call → a ≡ false → IsTrue false ↔ IsSiteAt m f call
not_called m f call a calls not_so = ((λ e. absurd (false≢true e)), (λ is. absurd (false≢true (sym not_so ∙ calls.1 is.calls))))

pub place_step : (m : Module) (f g : Function) (calls : List Place) (i : ℕ) (d : Place) (call : Point) (all next : List Place) (b : Bool) → i < length calls → g ≡ f → call ≡ point_of f (get_or calls i d) → IsTrue b ↔ IsSiteAt m g call →
    next ≡ all ++ (if b then get_or calls i d ∷ [] else []) → AreChosen (IsSite m f) (take i calls) all → AreChosen (IsSite m f) (take (i + 1) calls) next
place_step m f g calls i d call all next b lt same at right put before =
    chosen_step (IsSite m f) calls i d all next b lt
    (subst (λ (p : Point). IsTrue b ↔ IsSiteAt m f p) at (subst (λ (h : Function). IsTrue b ↔ IsSiteAt m h call) same right)) put before

-- ---- all functions

pub sites_step : (m : Module) (functions : List Function) (i : ℕ) (f : Function) (calls all here next : List Place) → functions ≡ m.functions → i < length functions → f ≡ get_or functions i f → calls ≡ plain_calls i f → AreChosen (IsSite m f) calls here → next ≡ all ++ here →
    AreSitesOf m (take i m.functions) all → AreSitesOf m (take (i + 1) m.functions) next
sites_step m functions i f calls all here next are lt is called chosen put before =
    let inside : i < length m.functions = subst (λ (l : List Function). i < length l) are lt in
    let there : f ≡ get_or m.functions i f = is ∙ ap (λ (l : List Function). get_or l i f) are in
    let len : length (take i m.functions) ≡ i = length-take-le i m.functions (omega (arith, inside)) in
    let own : AreChosen (IsSite m f) (plain_calls (length (take i m.functions)) f) here = subst (λ l. AreChosen (IsSite m f) l here) (called ∙ ap (λ n. plain_calls n f) (sym len)) chosen in
    subst (AreSitesOf m (take (i + 1) m.functions)) (sym put)
    (subst (λ fs. AreSitesOf m fs (all ++ here)) (ap (λ (x : Function). take i m.functions ++ x ∷ []) there ∙ sym (take_more m.functions i f inside)) (More (take i m.functions) f all here before own))

pub sites_all : (m : Module) (i : ℕ) (all : List Place) → length m.functions ≤ i → AreSitesOf m (take i m.functions) all → AreSites m all
sites_all m i all le before = subst (λ fs. AreSitesOf m fs all) (take-all m.functions i le) before

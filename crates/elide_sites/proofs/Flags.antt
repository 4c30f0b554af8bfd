-- Whether functions are elidable, one after another.
use Rattle.std.proofs.Common.{◌≡◌, ℕ, zero, suc, ◌+◌, ◌<◌, ◌≤◌, Bool, true, false, ◌&&◌, List, [], ◌∷◌, ◌++◌, length, get_or, Some, None, refl, sym, ap, ◌∙◌, subst, ⊎_elim, inl, inr, arith, length-append}
use Rattle.std.proofs.lemmas.Bool.{cases_lt, false≢true}
use Rattle.std.specs.Prelude.{slice_get, unwrap_or, Option, IsTrue, ◌↔◌, ◌⊎◌, if◌then◌else◌}
use Rattle.std.proofs.lemmas.Option.{slice_get-get_or}
use Rattle.elide_sites.proofs.Choosing.{number_step, numbers_all}
use Rattle.elide_sites.proofs.Destroying.{past}
use Rattle.elide_sites.specs.Chosen.{AreChosen, up_to}
use Rattle.elide_sites.specs.Destroyed.{FreesWhenDestroyed}
use Rattle.elide_sites.specs.Elidable.{AreElidable, AreFlags, AreFlagsTo, IsElidable}
use Rattle.elide_shape.specs.Frames.{rets_give_frame}
use Rattle.elide_shape.specs.Frees.{are_released}
use Rattle.elide_shape.specs.Guard.{is_guarded}
use Rattle.ir_model.specs.Names.{function_at, no_function}
use Rattle.ir_model.specs.declared.module.Function.{Function}
use Rattle.ir_model.specs.declared.module.Module.{Module}
use Rattle.flow_points.proofs.Tests.{read_at}

-- ---- one function

and_first : (a b : Bool) → (a && b) ≡ true → a ≡ true
and_first true b e = refl
and_first false b e = absurd (false≢true e)

and_second : (a b : Bool) → (a && b) ≡ true → b ≡ true
and_second true b e = e
and_second false b e = absurd (false≢true e)

and_all : (a b c : Bool) → a ≡ true → b ≡ true → c ≡ true → (a && (b && c)) ≡ true
and_all true true true ea eb ec = refl
and_all true true false ea eb ec = ec
and_all true false c ea eb ec = eb
and_all false b c ea eb ec = ea

abbrev pub is_formed : Function → Bool
is_formed f = is_guarded f && (rets_give_frame f && are_released f)

pub no_coroutine : (f : Function) → f.coroutine ≡ false → IsTrue false ↔ IsElidable f
no_coroutine f none = ((λ e. absurd (false≢true e)), (λ is. absurd (false≢true (sym none ∙ is.coroutine))))

pub not_formed : (f : Function) → is_formed f ≡ false → IsTrue false ↔ IsElidable f
not_formed f none = (
  (λ e. absurd (false≢true e)),
  (λ is. absurd (false≢true (sym none ∙ and_all (is_guarded f) (rets_give_frame f) (are_released f) is.guarded is.returned is.released))),
)

pub formed : (f : Function) (b : Bool) → f.coroutine ≡ true → is_formed f ≡ true → IsTrue b ↔ FreesWhenDestroyed f → IsTrue b ↔ IsElidable f
formed f b so all frees =
    let rest = and_second (is_guarded f) (rets_give_frame f && are_released f) all in (
      (λ e. record {
        coroutine = so;
        guarded = and_first (is_guarded f) (rets_give_frame f && are_released f) all;
        returned = and_first (rets_give_frame f) (are_released f) rest;
        released = and_second (rets_give_frame f) (are_released f) rest;
        destroyed = frees.0 e;
      }),
      (λ is. frees.1 is.destroyed),
    )

-- ---- all functions

last_or : {X : Type 0} (xs : List X) (x y : X) (k : ℕ) → slice_get (xs ++ x ∷ []) k ≡ Some y → (slice_get xs k ≡ Some y) ⊎ ((k ≡ length xs) × (y ≡ x))
last_or [] x y zero e = inr (refl, cc)
last_or [] x y (suc k) e = absurd (cc)
last_or (z ∷ xs) x y zero e = inl e
last_or (z ∷ xs) x y (suc k) e = ⊎_elim (λ old. inl old) (λ new. inr (ap suc new.0, new.1)) (last_or xs x y k e)

pub function_there : (m : Module) (g : ℕ) (f : Function) → slice_get m.functions g ≡ Some f → function_at m g ≡ f
function_there m g f e = ap (λ (o : Option Function). unwrap_or o no_function) e

pub no_flags : (m : Module) → AreFlagsTo 0 m []
no_flags m = record { count = refl; each = λ g is e. absurd (cc) }

pub flags_step : (m : Module) (i : ℕ) (f : Function) (flags next : List Bool) (is : Bool) → i < length m.functions → f ≡ get_or m.functions i f → IsTrue is ↔ IsElidable f → next ≡ flags ++ is ∷ [] → AreFlagsTo i m flags → AreFlagsTo (i + 1) m next
flags_step m i f flags next is lt at right put before = subst (AreFlagsTo (i + 1) m) (sym put) (record { count = count; each = each })
  where
    count : length (flags ++ is ∷ []) ≡ i + 1
    count = let l = length-append flags (is ∷ []) in let n = before.count in omega (arith, l, n)

    own : (g : ℕ) → g ≡ length flags → function_at m g ≡ f
    own g same = ap (function_at m) (same ∙ before.count) ∙ function_there m i f (read_at m.functions i f lt at)

    each : (g : ℕ) (b : Bool) → slice_get (flags ++ is ∷ []) g ≡ Some b → IsTrue b ↔ IsElidable (function_at m g)
    each g b e = ⊎_elim
        (λ old. before.each g b old)
        (λ new. subst (λ (x : Bool). IsTrue x ↔ IsElidable (function_at m g)) (sym new.1) (subst (λ (h : Function). IsTrue is ↔ IsElidable h) (sym (own g new.0)) right))
        (last_or flags is b g e)

pub flags_all : (m : Module) (i : ℕ) (flags : List Bool) → i ≡ length m.functions → AreFlagsTo i m flags → AreFlags m flags
flags_all m i flags is all = record { count = all.count ∙ is; each = all.each }

-- ---- looking up

not_there : (xs : List Bool) (k : ℕ) → k < length xs → slice_get xs k ≡ None → ⊥
not_there [] k l e = absurd (omega arith)
not_there (x ∷ xs) zero l e = cc
not_there (x ∷ xs) (suc k) l e = not_there xs k (omega arith) e

pub no_flag : (m : Module) (flags : List Bool) (g : ℕ) → AreFlags m flags → slice_get flags g ≡ None → IsTrue false ↔ IsElidable (function_at m g)
no_flag m flags g are none = no_coroutine (function_at m g) (ap (λ (f : Function). f.coroutine) (ap (λ (o : Option Function). unwrap_or o no_function) (past m.functions g beyond)))
  where
    beyond : length m.functions ≤ g
    beyond = ⊎_elim (λ lt. absurd (not_there flags g lt none)) (λ le. let n = are.count in omega (arith, le, n)) (cases_lt g (length flags))

pub the_flag : (m : Module) (flags : List Bool) (g : ℕ) (b : Bool) → AreFlags m flags → slice_get flags g ≡ Some b → IsTrue b ↔ IsElidable (function_at m g)
the_flag m flags g b are e = are.each g b e

-- ---- along a list

pub flags_at : (m : Module) (functions : List Function) (i : ℕ) (f : Function) (flags next : List Bool) (is : Bool) → functions ≡ m.functions → i < length functions → f ≡ get_or functions i f → IsTrue is ↔ IsElidable f → next ≡ flags ++ is ∷ [] → AreFlagsTo i m flags → AreFlagsTo (i + 1) m next
flags_at m functions i f flags next is are lt at right put before =
    flags_step m i f flags next is (subst (λ (l : List Function). i < length l) are lt) (at ∙ ap (λ (l : List Function). get_or l i f) are) right put before

pub callee_step : (m : Module) (flags items : List Bool) (at : ℕ) (d : Bool) (all next : List ℕ) → AreFlags m flags → items ≡ flags → at < length items → next ≡ all ++ (if get_or items at d then at ∷ [] else []) →
    AreChosen (λ g. IsElidable (function_at m g)) (up_to at) all → AreChosen (λ g. IsElidable (function_at m g)) (up_to (at + 1)) next
callee_step m flags items at d all next are same lt put before =
    number_step (λ g. IsElidable (function_at m g)) at all next (get_or items at d)
    (are.each at (get_or items at d) (ap (λ (l : List Bool). slice_get l at) (sym same) ∙ slice_get-get_or items at d lt)) put before

pub callees_all : (m : Module) (flags items : List Bool) (at : ℕ) (all : List ℕ) → AreFlags m flags → items ≡ flags → at ≤ length items → length items ≤ at → AreChosen (λ g. IsElidable (function_at m g)) (up_to at) all → AreElidable m all
callees_all m flags items at all are same le ge before =
    let len = ap (λ (l : List Bool). length l) same in
    let count = are.count in
    numbers_all (λ g. IsElidable (function_at m g)) at (length m.functions) all (omega (arith, le, ge, len, count)) before

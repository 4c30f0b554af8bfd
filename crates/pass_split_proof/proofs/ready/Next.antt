-- Where the module of parts has a function's parts, and what stands behind them.
use Rattle.std.proofs.Common.{◌≡◌, ℕ, zero, suc, ◌+◌, Bool, true, false, List, [], ◌∷◌, length, refl, sym, ap, ◌∙◌, arith}
use Rattle.std.proofs.lemmas.Bool.{false≢true}
use Rattle.std.specs.Prelude.{None, Option, Some, codes, slice_get, unwrap_or, if◌then◌else◌}
use Rattle.pass_proofs.specs.frame_layout.declared.layout.Layout.{Layout}
use Rattle.pass_proofs.specs.frame_layout.declared.layout.Layouts.{Layouts}
use Rattle.pass_proofs.specs.ir_base.declared.name.Name.{Name}
use Rattle.pass_proofs.proofs.ir_laws.facts.Lists.{get_behind, none_found}
use Rattle.pass_proofs.proofs.ir_laws.facts.Truth.{same_name-itself}
use Rattle.pass_proofs.specs.ir_model.Names.{function_at, function_named, no_function, same_name}
use Rattle.pass_proofs.specs.ir_model.declared.module.Function.{Function}
use Rattle.pass_proofs.specs.ir_model.declared.module.Module.{Module}
use Rattle.pass_proofs.specs.pass_intrinsics.Shapes.{part_name, shape_of}
use Rattle.pass_proofs.specs.pass_intrinsics.declared.shape.Part.{Part}
use Rattle.pass_proofs.specs.pass_intrinsics.declared.shape.Shape.{Shape}
use Rattle.pass_proofs.specs.split.rules.Parted.{IsCleanup, IsDestroy, IsGivenRamp, IsPartOf, IsRamp, IsResume}
use Rattle.pass_proofs.specs.pass_split.Given.{has_given_call}
use Rattle.pass_proofs.specs.pass_split.Parts.{first_layout, layouts_after, marked_parts, plain_of, plain_shape}
use Rattle.pass_split_proof.proofs.code.Positions.{stands_moved}
use Rattle.pass_split_proof.proofs.ready.Given.{there_is}
use Rattle.pass_split_proof.specs.code.Positions.{layout_at, moved}
use Rattle.pass_split_proof.specs.first_exits.Parted.{parted_function, parted_functions, parted_module}
use Rattle.pass_split_proof.specs.places.Places.{IsCodeOf, OfCoroutine, OfPlain}

-- the next function stands behind all of a function's parts
pub moved_next : (ls : List Layout) (m : Module) (fs : List Function) (k : ℕ) (f : Function) → slice_get fs k ≡ Some f
    → moved ls m fs (suc k)
    ≡ moved ls m fs k + length (parted_function (layout_at ls fs k) (has_given_call m f) f)
moved_next ls m [] k f e = absurd (cc)
moved_next ls m (h ∷ fs) zero f e =
    let same : h ≡ f = cc in
    ends (length (parted_function (first_layout ls) (has_given_call m h) h)) (moved (layouts_after h ls) m fs 0)
    (first_is (layouts_after h ls) fs)
    ∙ ap (λ (x : Function). length (parted_function (first_layout ls) (has_given_call m x) x)) same
    ∙ none_before _
  where
    first_is : (ls : List Layout) (fs : List Function) → moved ls m fs 0 ≡ 0
    first_is ls [] = refl
    first_is ls (f ∷ fs) = refl

    ends : (a b : ℕ) → b ≡ 0 → a + b ≡ a
    ends a b e = omega (arith, e)

    none_before : (a : ℕ) → a ≡ 0 + a
    none_before a = omega arith
moved_next ls m (h ∷ fs) (suc k) f e =
    more (length (parted_function (first_layout ls) (has_given_call m h) h)) (moved (layouts_after h ls) m fs (suc k))
    (moved (layouts_after h ls) m fs k) _ (moved_next (layouts_after h ls) m fs k f e)
  where
    more : (a b c d : ℕ) → b ≡ c + d → a + b ≡ a + c + d
    more a b c d e = omega (arith, e)

-- behind the last of them nothing stands
pub moved_last : (ls : List Layout) (m : Module) (fs : List Function) (k : ℕ) → slice_get fs k ≡ None
    → slice_get (parted_functions ls m fs) (moved ls m fs k) ≡ None
moved_last ls m [] k e = refl
moved_last ls m (h ∷ fs) zero e = absurd (cc)
moved_last ls m (h ∷ fs) (suc k) e =
    get_behind (parted_function (first_layout ls) (has_given_call m h) h)
    (parted_functions (layouts_after h ls) m fs) (moved (layouts_after h ls) m fs k)
    ∙ moved_last (layouts_after h ls) m fs k e

-- what stands first of what a function becomes, with its name
record HasFirst (l : Layout) (given : Bool) (f : Function) : Type 0 where
  one : Function
  stands : slice_get (parted_function l given f) 0 ≡ Some one
  has_name : one.name ≡ f.name

first_there : (l : Layout) (given : Bool) (f : Function) → HasFirst l given f
first_there l given f = on f.coroutine refl
  where
    on : (b : Bool) → f.coroutine ≡ b → HasFirst l given f
    on true c = record {
      one = _;
      stands = ap (λ (b : Bool). slice_get (if b then marked_parts l given f else plain_of (plain_shape f) f ∷ []) 0)
          c;
      has_name = refl;
    }
    on false c = record {
      one = _;
      stands = ap (λ (b : Bool). slice_get (if b then marked_parts l given f else plain_of (plain_shape f) f ∷ []) 0)
          c;
      has_name = refl;
    }

-- a coroutine to which no call gives a frame has three parts
three_parts : (l : Layout) (f : Function) (given : Bool) → f.coroutine ≡ true → given ≡ false
    → length (parted_function l given f) ≡ 3
three_parts l f given c none = ap (λ (b : Bool). length (if b then marked_parts l given f else plain_of (plain_shape f)
    f ∷ [])) c ∙ ap (λ (b : Bool). length (marked_parts l b f)) none

-- ---- no part that cleans up stands where no call gives a frame (N3)

part_cleans : (s : Shape) (f : Function) (part : Part) (q : Function) → IsPartOf s f part q → part ≡ Part.Cleanup
    → q.name ≡ s.cleanup_name
part_cleans s f _ _ IsCleanup e = refl
part_cleans s f _ _ IsRamp e = absurd (cc)
part_cleans s f _ _ IsGivenRamp e = absurd (cc)
part_cleans s f _ _ IsResume e = absurd (cc)
part_cleans s f _ _ IsDestroy e = absurd (cc)

code_cleans : (f q : Function) (s : Shape) (part : Part) → IsCodeOf f q s part → part ≡ Part.Cleanup
    → q.name ≡ part_name f.name (codes ".cleanup")
code_cleans f q _ _ (OfCoroutine m k layout begin part x is) e = part_cleans (shape_of f layout) f part q is e
code_cleans f q _ _ (OfPlain m k plain rules same) e = absurd (cc)

number_no_text : (n : ℕ) (t : List ℕ) → Name.Number n ≡ Name.Text t → ⊥
number_no_text n t e = absurd (cc)

pub no_cleanup : (ls : Layouts) (m : Module) (k : ℕ) (f : Function) → slice_get m.functions k ≡ Some f
    → f.coroutine ≡ true → has_given_call m f ≡ false
    → function_named m (part_name f.name (codes ".cleanup")) ≡ None → (s : Shape)
    → IsCodeOf f (function_at (parted_module ls m) (moved ls.coroutines m m.functions k + 3)) s Part.Cleanup → ⊥
no_cleanup ls m k f there coroutine none untaken s coded = on (slice_get m.functions (suc k)) refl
  where
    place : moved ls.coroutines m m.functions (suc k) ≡ moved ls.coroutines m m.functions k + 3
    place = moved_next ls.coroutines m m.functions k f there
        ∙ ap (λ (n : ℕ). moved ls.coroutines m m.functions k + n)
        (three_parts (layout_at ls.coroutines m.functions k) f (has_given_call m f) coroutine none)

    named : (function_at (parted_module ls m) (moved ls.coroutines m m.functions k + 3)).name
        ≡ part_name f.name (codes ".cleanup")
    named = code_cleans f (function_at (parted_module ls m) (moved ls.coroutines m m.functions k + 3)) s Part.Cleanup
        coded refl

    by_next : (g : Function) → slice_get m.functions (suc k) ≡ Some g
        → HasFirst (layout_at ls.coroutines m.functions (suc k)) (has_given_call m g) g → ⊥
    by_next g e x =
        let at = stands_moved ls.coroutines m m.functions (suc k) 0 g x.one e x.stands in
        let now : slice_get (parted_module ls m).functions (moved ls.coroutines m m.functions k + 3) ≡ Some x.one =
        ap (slice_get (parted_module ls m).functions) (sym place
        ∙ none_more (moved ls.coroutines m m.functions (suc k)))
        ∙ at in
        let same : g.name ≡ part_name f.name (codes ".cleanup") = sym x.has_name
        ∙ ap (λ (y : Function). y.name) (sym (there_is (parted_module ls m) (moved ls.coroutines m m.functions k + 3)
        x.one
        now)) ∙ named in
        let none = none_found (λ (y : Function). same_name y.name (part_name f.name (codes ".cleanup"))) m.functions
        untaken
        (suc k) g e in
        false≢true (sym none ∙ ap (λ (y : Name). same_name y (part_name f.name (codes ".cleanup"))) same
        ∙ same_name-itself (part_name f.name (codes ".cleanup")))
      where
        none_more : (n : ℕ) → n ≡ n + 0
        none_more n = omega arith

    on : (o : Option Function) → slice_get m.functions (suc k) ≡ o → ⊥
    on None e =
        let last = ap (slice_get (parted_module ls m).functions) (sym place) ∙ moved_last ls.coroutines m m.functions
        (suc k) e in
        number_no_text 0 _ (ap (λ (o : Option Function). (unwrap_or o no_function).name) (sym last) ∙ named)
    on (Some g) e = by_next g e (first_there (layout_at ls.coroutines m.functions (suc k)) (has_given_call m g) g)

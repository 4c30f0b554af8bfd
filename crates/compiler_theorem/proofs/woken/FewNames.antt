-- A coroutine with blocks on its edges has fewer than 2^64 names, since its ramp has so few. So chains by its table of
-- bases are no longer.
use Rattle.std.proofs.Common.{◌≡◌, inl, inr, ⊎_elim, ℕ, zero, suc, ◌+◌, ◌<◌, ◌≤◌, ◌^◌, Bool, true, false, List, [], ◌∷◌, ◌++◌, Option, Some, None, length, refl, sym, ap, ◌∙◌, subst, arith, length-append}
use Rattle.std.proofs.lemmas.Option.{slice_get-map}
use Rattle.std.specs.Prelude.{◌-◌, if◌then◌else◌, option_map, slice_get, slice_set}
use Rattle.compiler_theorem.proofs.theorem.Built.{framed_there, sources_built}
use Rattle.compiler_theorem.proofs.woken.Doubling.{Path, entry_within}
use Rattle.compiler_theorem.specs.theorem.Built.{building}
use Rattle.compiler_theorem.specs.theorem.Lowered.{IsLowered, Lowered, early, split_from}
use Rattle.compiler.specs.flow_solver.Paths.{IsListed}
use Rattle.compiler.specs.frame_layout.declared.layout.Layout.{Layout}
use Rattle.compiler.specs.ir_base.declared.name.Name.{Name}
use Rattle.compiler.proofs.ir_laws.facts.Lists.{get_behind, set_length}
use Rattle.compiler.proofs.ir_laws.facts.Truth.{either}
use Rattle.compiler.specs.ir_laws.paths.woven_rules.Pairs.{AreDifferent}
use Rattle.compiler.specs.ir_model.Names.{function_at}
use Rattle.compiler.specs.ir_model.declared.module.Function.{Function}
use Rattle.compiler.specs.ir_model.declared.module.Module.{Module}
use Rattle.compiler.specs.pass_cells.Kept.{entry}
use Rattle.compiler.specs.pass_cleanup.Cleanup.{clean_function}
use Rattle.compiler.specs.pass_exits.ExitBlocks.{with_exit_blocks}
use Rattle.pass_frames_prices.proofs.bounds.Once.{few_of}
use Rattle.pass_frames_meaning.proofs.pass_frames_proof.code.Left.{longer}
use Rattle.pass_frames_meaning.proofs.pass_frames_proof.ramps.Behind.{framed_coroutine}
use Rattle.pass_frames_meaning.proofs.pass_frames_proof.suspending.Given.{edged_framed}
use Rattle.pass_frames_meaning.specs.pass_frames_proof.Places.{Framing, edged, framed}
use Rattle.compiler.specs.pass_intrinsics.Shapes.{first_name, shape_of}
use Rattle.compiler.specs.pass_intrinsics.declared.shape.Part.{Part}
use Rattle.compiler.specs.pass_intrinsics.declared.shape.Shape.{Shape}
use Rattle.compiler.specs.pass_split.Given.{has_given_call}
use Rattle.compiler.specs.pass_split.Parts.{first_layout, frame_mark, instr_names, layouts_after, mark_names, names_of, origins_for, plain_of, plain_shape, marked_parts, ramp_of, split_function, split_functions, suspend_names}
use Rattle.compiler.specs.pass_split.Pieces.{next_after}
use Rattle.compiler.specs.pass_split.Reached.{pruned}

-- ---- the ramp of a coroutine

named_more : (s : Shape) (names : List Name) (count : ℕ) → length names ≤ length (names_of s names count)
named_more s names count =
    let own : List Name = slice_set names s.begin frame_mark in
    let a = set_length names s.begin frame_mark in
    let b = length-append own mark_names in
    let c = length-append (own ++ mark_names) (suspend_names (length s.suspends)) in
    let d = length-append ((own ++ mark_names) ++ suspend_names (length s.suspends)) (instr_names count) in
    omega (arith, a, b, c, d)

record HasRamp (fs : List Function) (g : Function) : Type 0 where
  at : ℕ
  ramp : Function
  there : slice_get fs at ≡ Some ramp
  names : length g.names ≤ length ramp.names

ramp_there : (ls : List Layout) (m : Module) (fs : List Function) (k : ℕ) (g : Function) → slice_get fs k ≡ Some g
    → g.coroutine ≡ true → HasRamp (split_functions ls m fs) g
ramp_there ls m [] k g e c = absurd (cc)
ramp_there ls m (f ∷ fs) zero g e c =
    let same : f ≡ g = cc in
    subst (HasRamp (split_functions ls m (f ∷ fs))) same
    (first f.coroutine (ap (λ (z : Function). z.coroutine) same ∙ c))
  where
    l : Layout
    l = first_layout ls

    given : Bool
    given = has_given_call m f

    rest : List Function
    rest = split_functions (layouts_after f ls) m fs

    first : (b : Bool) → b ≡ true
        → HasRamp ((if b then marked_parts (first_layout ls) (has_given_call m f) (with_exit_blocks f)
        else plain_of (plain_shape f) f ∷ []) ++ split_functions (layouts_after f ls) m fs) f
    first false d = absurd (cc)
    first true d =
        let h : Function = with_exit_blocks f in
        let s : Shape = shape_of h (first_layout ls) in
        let count : ℕ =
        next_after s Part.Ramp (origins_for s Part.Ramp h) (first_name s) h.blocks - first_name s in
        let a : length f.names ≤ length h.names = longer f.names _ in
        let b : length h.names ≤ length (names_of s h.names count) = named_more s h.names count in
        record { at = 0; ramp = pruned (ramp_of s h); there = refl; names = omega (arith, a, b) }
ramp_there ls m (f ∷ fs) (suc k) g e c =
    let x = ramp_there (layouts_after f ls) m fs k g e c in
    let here : List Function = split_function (first_layout ls) (has_given_call m f) f in
    record {
      at = length here + x.at;
      ramp = x.ramp;
      there = get_behind here (split_functions (layouts_after f ls) m fs) x.at ∙ x.there;
      names = x.names;
    }

module _ (l : Lowered) (low : IsLowered l) (func : ℕ) (is : (function_at (early l) func).coroutine ≡ true) where
  abbrev x : Framing
  x = (building l low.is_framed []).framing func

  pub names_few : length (edged ((building l low.is_framed []).framing func)).names < 2 ^ 64
  names_few =
      let y = framed_there l low [] func is in
      let own : y.other ≡ framed x = y.is.is ∙ ap framed (sym y.same) in
      let coroutine : y.other.coroutine ≡ true =
      ap (λ (f : Function). f.coroutine) own ∙ framed_coroutine x
      ∙ ap (λ (f : Function). f.coroutine) ((sources_built l low []).coroutines func is).function ∙ is in
      let r = ramp_there l.layouts.coroutines l.framed l.framed.functions func y.other y.there coroutine in
      let few : length r.ramp.names < 2 ^ 64 = low.few r.at (clean_function r.ramp)
      (slice_get-map clean_function (split_from l l.framed).functions r.at
      ∙ ap (option_map clean_function) r.there) in
      let a : length (edged x).names ≤ length (framed x).names = edged_framed x in
      let b = r.names in
      let c = ap (λ (f : Function). length f.names) own in
      omega (arith, few, a, b, c)

-- ---- paths

-- the numbers below one
numbers : ℕ → List ℕ
numbers zero = []
numbers (suc n) = n ∷ numbers n

numbers_long : (n : ℕ) → length (numbers n) ≡ n
unfolding numbers
numbers_long zero = refl
numbers_long (suc n) = ap suc (numbers_long n)

number_listed : (n v : ℕ) → v < n → IsListed v (numbers n)
unfolding numbers
number_listed zero v lt = absurd (omega (arith, lt))
number_listed (suc n) v lt =
    ⊎_elim (λ (same : n ≡ v). inl (sym same)) (λ ne. inr (number_listed n v (less ne))) (either n v)
  where
    less : (n ≡ v → ⊥) → v < n
    less ne = omega (arith, lt, ne)

module _ (t : List (Option ℕ)) (r : ℕ) (end : entry t r ≡ None) where
  no_more : (v b : ℕ) → v ≡ r → entry t v ≡ Some b → ⊥
  no_more v b same e = let both : None ≡ Some b = sym end ∙ ap (entry t) (sym same) ∙ e in absurd (cc)

  -- a path to the end has one length
  path_once : (n l v : ℕ) → Path t n v r → Path t l v r → n ≡ l
  path_once zero zero v p q = refl
  path_once zero (suc l) v p q = absurd (no_more v q.0 p q.1)
  path_once (suc n) zero v p q = absurd (no_more v p.0 q p.1)
  path_once (suc n) (suc l) v p q =
      let both : Some p.0 ≡ Some q.0 = sym p.1 ∙ q.1 in
      let same : p.0 ≡ q.0 = cc in
      ap suc (path_once n l p.0 p.2 (subst (λ (u : ℕ). Path t l u r) (sym same) q.2))

  passed_by : (n v : ℕ) → Path t n v r → List ℕ
  passed_by zero v p = []
  passed_by (suc n) v p = v ∷ passed_by n p.0 p.2

  passed_long : (n v : ℕ) (p : Path t n v r) → length (passed_by n v p) ≡ n
  unfolding passed_by
  passed_long zero v p = refl
  passed_long (suc n) v p = ap suc (passed_long n p.0 p.2)

  -- from each name that is passed it goes on
  goes_on : (n v : ℕ) (p : Path t n v r) (w : ℕ) → IsListed w (passed_by n v p)
      → (l : ℕ) × (l ≤ n) × Path t l w r × (w < length t)
  unfolding passed_by
  goes_on zero v p w l = absurd l
  goes_on (suc n) v p w (inl e) = (
    suc n,
    omega arith,
    subst (λ (u : ℕ). Path t (suc n) u r) (sym e) p,
    subst (λ (u : ℕ). u < length t) (sym e) (entry_within t v p.0 p.1),
  )
  goes_on (suc n) v p w (inr l) =
      let more = goes_on n p.0 p.2 w l in let le = more.1 in (more.0, omega (arith, le), more.2, more.3)

  passed_once : (n v : ℕ) (p : Path t n v r) → AreDifferent (passed_by n v p)
  unfolding passed_by
  passed_once zero v p = tt
  passed_once (suc n) v p = (
    λ l.
        let more = goes_on n p.0 p.2 v l in
        let same = path_once (suc n) more.0 v p more.2 in
        let le = more.1 in
        absurd (omega (arith, same, le)),
    passed_once n p.0 p.2,
  )

  pub path_short : (n v : ℕ) → Path t n v r → n ≤ length t
  path_short n v p =
      let few = few_of (passed_by n v p) (numbers (length t)) (passed_once n v p)
      (λ w l. number_listed (length t) w (goes_on n v p w l).3) in
      let a = passed_long n v p in
      let b = numbers_long (length t) in
      omega (arith, few, a, b)

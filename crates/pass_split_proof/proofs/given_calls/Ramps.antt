-- A ramp that a call gives its frame stands in the module of parts, and is found by its name.
use Rattle.std.proofs.Common.{◌≡◌, ℕ, zero, suc, ◌+◌, ◌-◌, ◌<◌, ◌≤◌, ◌&&◌, ◌||◌, Bool, true, false, List, [], ◌∷◌, ◌++◌, length, Option, Some, inl, inr, refl, sym, ap, ◌∙◌, subst, arith}
use Rattle.std.specs.Prelude.{ℤ, slice_get, slice_set}
use Rattle.std.specs.List.{list_any}
use Rattle.std.proofs.lemmas.Bool.{and_parts}
use Rattle.std.proofs.lemmas.List.{length-append}
use Rattle.pass_proofs.specs.frame_layout.declared.layout.Layouts.{Layouts}
use Rattle.pass_proofs.specs.flow_solver.Paths.{IsListed}
use Rattle.pass_proofs.specs.ir_base.declared.name.Name.{Name}
use Rattle.pass_proofs.proofs.ir_laws.facts.same_names.Lists.{IsFound, what_is_found}
use Rattle.pass_proofs.proofs.ir_tables.Tables.{same_name-same}
use Rattle.pass_proofs.specs.ir_model.Names.{function_at, function_named, noalloc_of, same_name}
use Rattle.pass_proofs.specs.ir_model.Ty.{Ty}
use Rattle.pass_proofs.specs.ir_model.declared.instr.Instr.{Instr}
use Rattle.pass_proofs.specs.ir_model.declared.module.Function.{Function}
use Rattle.pass_proofs.specs.ir_model.declared.module.Module.{Module}
use Rattle.pass_proofs.specs.ir_model.declared.operand.Arg.{Arg}
use Rattle.pass_proofs.specs.ir_model.declared.operand.Callee.{Callee}
use Rattle.pass_proofs.specs.pass_intrinsics.Shapes.{first_name, given_name, shape_of}
use Rattle.pass_proofs.specs.pass_intrinsics.declared.shape.Part.{Part}
use Rattle.pass_proofs.specs.pass_intrinsics.declared.shape.Shape.{Shape}
use Rattle.pass_proofs.specs.pass_split.Given.{called_names, has_given_call}
use Rattle.pass_proofs.specs.pass_split.declared.given.CalledName.{CalledName}
use Rattle.pass_proofs.specs.pass_split.Parts.{frame_mark, instr_names, mark_names, names_of, origins_for, suspend_names}
use Rattle.pass_proofs.specs.pass_split.Pieces.{next_after}
use Rattle.pass_split_proof.proofs.places.Laws.{front_of}
use Rattle.pass_split_proof.proofs.ready.Given.{there_is}
use Rattle.pass_split_proof.proofs.ready.Parts.{is_part, part_of, part_stands}
use Rattle.pass_split_proof.proofs.whole.Given.{call_listed}
use Rattle.pass_split_proof.specs.code.Positions.{moved, number_of}
use Rattle.pass_split_proof.specs.first_exits.Parted.{parted_module}
use Rattle.pass_split_proof.specs.given_calls.Calling.{IsGivenCallee}
use Rattle.pass_split_proof.specs.given_calls.Ramps.{IsSplitBy}
use Rattle.pass_split_proof.specs.places.Places.{IsCodeOf, OfCoroutine}
use Rattle.pass_split_proof.specs.ready.Names.{HasMovedNames}
use Rattle.pass_proofs.specs.run_framed.Framed.{framed_given, given_ramp, layout_of}
use Rattle.pass_proofs.specs.run_step.Step.{AtInstr, fetch}

-- ---- calls that give frames

any_of : {A : Type 0} (test : A → Bool) (xs : List A) (x : A) → IsListed x xs → test x ≡ true
    → list_any test xs ≡ true
any_of test [] x h e = absurd h
any_of test (y ∷ xs) x (inl same) e = ap (λ (b : Bool). b || list_any test xs) (sym (ap test same) ∙ e)
any_of test (y ∷ xs) x (inr h) e = later (test y) (any_of test xs x h e)
  where
    later : (b : Bool) → list_any test xs ≡ true → (b || list_any test xs) ≡ true
    later true r = refl
    later false r = r

-- the coroutine whose ramp a name is that of
pub record IsRampOf (m : Module) (name : Name) (k : ℕ) : Type 0 where
  pub there : slice_get m.functions k ≡ Some (function_at m k)
  pub coroutine : (function_at m k).coroutine ≡ true
  pub named : same_name (noalloc_of (function_at m k).name) name ≡ true

pub ramp_of_name : (m : Module) (name : Name) (k : ℕ) → given_ramp m name ≡ Some k → IsRampOf m name k
ramp_of_name m name k e =
    let x : IsFound (λ (f : Function). f.coroutine && same_name (noalloc_of f.name) name) m.functions k
    = what_is_found (λ (f : Function). f.coroutine && same_name (noalloc_of f.name) name) m.functions k e in
    let same : function_at m k ≡ x.element = there_is m k x.element x.stands in
    let p = and_parts x.element.coroutine (same_name (noalloc_of x.element.name) name) x.passes in
    record {
      there = x.stands ∙ ap Some (sym same);
      coroutine = ap (λ (f : Function). f.coroutine) same ∙ p.0;
      named = ap (λ (f : Function). same_name (noalloc_of f.name) name) same ∙ p.1;
    }

module _ (m : Module) (func block at : ℕ) (result : Option ℕ) (must_tail : Bool) (ty : Option Ty) (name : Name)
    (args : List Arg)
    (here : fetch (function_at m func) block at ≡ AtInstr (Instr.Call result must_tail ty (Callee.Named name) args))
    (k : ℕ) (gives : given_ramp m name ≡ Some k) where
  -- so the parts for given frames stand there
  pub called_given : has_given_call m (function_at m k) ≡ true
  called_given = any_of (λ (c : CalledName). same_name (noalloc_of (function_at m k).name) c.name)
      (called_names m.functions) (record { name = name })
      (call_listed m func block at result must_tail ty name args here) (ramp_of_name m name k gives).named

-- ---- the ramp

set_names : (xs : List Name) (at : ℕ) (x : Name) → length (slice_set xs at x) ≡ length xs
set_names [] at x = refl
set_names (y ∷ xs) zero x = refl
set_names (y ∷ xs) (suc at) x = ap suc (set_names xs at x)

-- the parameter for the frame is a new name
given_low : (s : Shape) (xs : List Name) (count : ℕ) → length xs + 7 ≤ length (names_of s xs count)
given_low s xs count = longer xs (suspend_names (length s.suspends)) (instr_names count) s.begin frame_mark
  where
    marks : length mark_names ≡ 7
    marks = refl

    longer : (xs bs cs : List Name) (at : ℕ) (x : Name) → length xs + 7 ≤ length
        (slice_set xs at x ++ mark_names ++ bs ++ cs)
    longer xs bs cs at x =
        let e = set_names xs at x in
        let c = length-append (slice_set xs at x) mark_names in
        let d = length-append (slice_set xs at x ++ mark_names) bs in
        let f = length-append (slice_set xs at x ++ mark_names ++ bs) cs in
        let n = marks in
        omega (arith, e, c, d, f, n)

module _ (ls : Layouts) (m : Module) (answers : List ℤ) (k : ℕ) (x : IsSplitBy ls m k)
    (gives : has_given_call m (function_at m k) ≡ true) where
  abbrev f : Function
  f = function_at m k

  abbrev s : Shape
  s = shape_of f (layout_of ls.coroutines k)

  abbrev q : Function
  q = function_at (parted_module ls m) (moved ls.coroutines m m.functions k + number_of Part.GivenRamp)

  stands : slice_get (parted_module ls m).functions (moved ls.coroutines m m.functions k + number_of Part.GivenRamp)
      ≡ Some (part_of s f Part.GivenRamp)
  stands = part_stands ls m k f x.there x.coroutine x.layout Part.GivenRamp (λ e. gives)

  is : q ≡ part_of s f Part.GivenRamp
  is = there_is (parted_module ls m) (moved ls.coroutines m m.functions k + number_of Part.GivenRamp)
      (part_of s f Part.GivenRamp) stands

  coded : IsCodeOf f q s Part.GivenRamp
  coded = subst (λ (r : Function). IsCodeOf f r s Part.GivenRamp) (sym is)
      (OfCoroutine x.ruler k (layout_of ls.coroutines k) x.begin Part.GivenRamp x.splittable
      (is_part s f Part.GivenRamp))

  pub given_callee : IsGivenCallee (framed_given m ls.coroutines answers) (parted_module ls m) k
  given_callee = record {
    coroutine = x.coroutine;
    coded = coded;
    place = front_of f q s Part.GivenRamp x.block coded refl x.first;
    params = ap (λ (r : Function). r.params) is;
    names = behind (length f.names);
    room = subst (λ (r : Function). given_name s < length r.names) (sym is)
        (before (length f.names) (length (part_of s f Part.GivenRamp).names) (given_low s f.names (next_after s
        Part.GivenRamp (origins_for s Part.GivenRamp f) (first_name s) f.blocks - first_name s)));
  }
    where
      behind : (n : ℕ) → n ≤ n + 6
      behind n = omega arith

      before : (n k : ℕ) → n + 7 ≤ k → n + 6 < k
      before n k le = omega arith

  -- and is found by its name
  pub given_named : HasMovedNames ls m → (name : Name) → given_ramp m name ≡ Some k
      → function_named (parted_module ls m) name
      ≡ Some (moved ls.coroutines m m.functions k + number_of Part.GivenRamp)
  given_named names name e = ap (function_named (parted_module ls m)) (sym (same_name-same (noalloc_of f.name) name
      (ramp_of_name m name k e).named))
      ∙ names.parts (moved ls.coroutines m m.functions k + number_of Part.GivenRamp) (part_of s f Part.GivenRamp) stands

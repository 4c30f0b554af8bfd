-- The parts of a coroutine stand in the module of parts, and so does what becomes of another function.
use Rattle.std.proofs.Common.{◌≡◌, ◌≤◌, ◌<◌, inl, inr, ℕ, ◌+◌, ◌-◌, Bool, true, false, List, [], ◌∷◌, ◌++◌, length, refl, sym, ap, ◌∙◌, subst, arith, length-append}
use Rattle.std.proofs.lemmas.Bool.{false≢true}
use Rattle.std.specs.Prelude.{ℤ, None, Option, Some, slice_get, slice_set, unwrap_or, if◌then◌else◌}
use Rattle.pass_proofs.specs.frame_layout.declared.layout.Layout.{Layout}
use Rattle.pass_proofs.specs.frame_layout.declared.layout.Layouts.{Layouts}
use Rattle.pass_proofs.specs.ir_base.declared.name.Name.{Name}
use Rattle.pass_proofs.proofs.ir_laws.facts.Lists.{set_length}
use Rattle.pass_proofs.specs.ir_model.Calls.{first_result}
use Rattle.pass_proofs.specs.ir_model.Names.{function_at}
use Rattle.pass_proofs.specs.ir_model.Ty.{ptr}
use Rattle.pass_proofs.specs.ir_model.declared.module.Block.{Block}
use Rattle.pass_proofs.specs.ir_model.declared.module.Function.{Function}
use Rattle.pass_proofs.specs.ir_model.declared.module.Module.{Module}
use Rattle.pass_proofs.specs.ir_model.declared.operand.Intrinsic.{Intrinsic}
use Rattle.pass_proofs.specs.pass_intrinsics.Cuts.{goes_on}
use Rattle.pass_proofs.specs.pass_intrinsics.Shapes.{first_name, shape_of}
use Rattle.pass_proofs.specs.pass_intrinsics.declared.shape.Part.{Part}
use Rattle.pass_proofs.specs.pass_intrinsics.declared.shape.Shape.{Shape}
use Rattle.pass_proofs.specs.split.rules.Parted.{IsCleanup, IsDestroy, IsGivenRamp, IsPartOf, IsRamp, IsResume}
use Rattle.pass_proofs.specs.pass_split.Given.{has_given_call}
use Rattle.pass_proofs.specs.pass_split.Parts.{frame_mark, given_ramp_of, instr_names, later_part, mark_names, marked_parts, names_of, origins_for, plain_of, plain_shape, ramp_of, suspend_names}
use Rattle.pass_proofs.specs.pass_split.Pieces.{next_after}
use Rattle.pass_proofs.specs.pass_split.Reached.{pruned}
use Rattle.pass_split_proof.proofs.code.Entries.{later_entry}
use Rattle.pass_split_proof.proofs.code.Positions.{part_numbered, stands_moved}
use Rattle.pass_split_proof.proofs.places.Laws.{front_of}
use Rattle.pass_split_proof.proofs.ready.Begins.{begin_low, begin_name_is}
use Rattle.pass_split_proof.proofs.ready.Given.{ruled_at, there_is}
use Rattle.pass_split_proof.specs.code.Entry.{HasEntry}
use Rattle.pass_split_proof.specs.code.Positions.{is_given, layout_at, moved, number_of}
use Rattle.pass_split_proof.specs.first_exits.Parted.{parted_function, parted_module}
use Rattle.pass_split_proof.specs.places.Places.{IsCodeOf, OfCoroutine, OfPlain}
use Rattle.pass_split_proof.specs.ready.Module.{IsFollowableIn}
use Rattle.pass_split_proof.specs.simulation.Statement.{IsCoroutinePartable, parts_given}
use Rattle.pass_split_proof.specs.steps.Calling.{TakesPointer}
use Rattle.pass_split_proof.specs.steps.Calls.{IsCallee}
use Rattle.pass_split_proof.specs.steps.Woken.{IsPartThere}
use Rattle.pass_proofs.specs.run_framed.Framed.{framed_given, layout_of}
use Rattle.pass_proofs.specs.rule_names.declared.stage.Stage.{Stage}

-- ---- the parts by their kinds

abbrev pub part_of : Shape → Function → Part → Function
part_of s f Part.Ramp = pruned (ramp_of s f)
part_of s f Part.GivenRamp = pruned (given_ramp_of s f)
part_of s f Part.Resume = pruned (later_part s Part.Resume s.resume_name f)
part_of s f Part.Destroy = pruned (later_part s Part.Destroy s.destroy_name f)
part_of s f Part.Cleanup = pruned (later_part s Part.Cleanup s.cleanup_name f)

pub is_part : (s : Shape) (f : Function) (part : Part) → IsPartOf s f part (part_of s f part)
is_part s f Part.Ramp = IsRamp
is_part s f Part.GivenRamp = IsGivenRamp
is_part s f Part.Resume = IsResume
is_part s f Part.Destroy = IsDestroy
is_part s f Part.Cleanup = IsCleanup

names_grow : (xs more bs cs : List Name) (at : ℕ) (x : Name) → length xs ≤ length
    (slice_set xs at x ++ more ++ bs ++ cs)
names_grow xs more bs cs at x =
    let e = set_length xs at x in
    let c = length-append (slice_set xs at x) more in
    let d = length-append (slice_set xs at x ++ more) bs in
    let f = length-append (slice_set xs at x ++ more ++ bs) cs in
    omega (arith, e, c, d, f)

-- so many names of instructions are new
abbrev new_names : Shape → Part → Function → ℕ
new_names s part f = next_after s part (origins_for s part f) (first_name s) f.blocks - first_name s

names_are_more : (s : Shape) (names : List Name) (count : ℕ) → length names ≤ length (names_of s names count)
names_are_more s names count =
    names_grow names mark_names (suspend_names (length s.suspends)) (instr_names count) s.begin frame_mark

pub part_names_grow : (s : Shape) (f : Function) (part : Part) → length f.names ≤ length (part_of s f part).names
part_names_grow s f Part.Ramp = names_are_more s f.names (new_names s Part.Ramp f)
part_names_grow s f Part.GivenRamp = names_are_more s f.names (new_names s Part.GivenRamp f)
part_names_grow s f Part.Resume = names_are_more s f.names (new_names s Part.Resume f)
part_names_grow s f Part.Destroy = names_are_more s f.names (new_names s Part.Destroy f)
part_names_grow s f Part.Cleanup = names_are_more s f.names (new_names s Part.Cleanup f)

more_names : (xs ys : List Name) → length xs ≤ length (xs ++ ys)
more_names xs ys = let e = length-append xs ys in omega (arith, e)

-- those that go on have a pointer as their one parameter, and give nothing
no_result : (s : Shape) (f : Function) (part : Part) → goes_on part ≡ true → (part_of s f part).result ≡ None
no_result s f Part.Resume e = refl
no_result s f Part.Destroy e = refl
no_result s f Part.Cleanup e = refl
no_result s f Part.Ramp e = absurd (false≢true e)
no_result s f Part.GivenRamp e = absurd (false≢true e)

one_param : (s : Shape) (f : Function) (part : Part) → goes_on part ≡ true
    → (part_of s f part).params ≡ record { ty = ptr; name = s.begin } ∷ []
one_param s f Part.Resume e = refl
one_param s f Part.Destroy e = refl
one_param s f Part.Cleanup e = refl
one_param s f Part.Ramp e = absurd (false≢true e)
one_param s f Part.GivenRamp e = absurd (false≢true e)

-- ---- where they stand

module _ (ls : Layouts) (m : Module) (k : ℕ) (f : Function) (there : slice_get m.functions k ≡ Some f) where
  pub part_stands : f.coroutine ≡ true → layout_of ls.coroutines k ≡ layout_at ls.coroutines m.functions k
      → (part : Part) → (is_given part ≡ true → has_given_call m f ≡ true)
      → slice_get (parted_module ls m).functions (moved ls.coroutines m m.functions k + number_of part)
      ≡ Some (part_of (shape_of f (layout_of ls.coroutines k)) f part)
  part_stands coroutine layout part have =
      stands_moved ls.coroutines m m.functions k (number_of part) f (part_of (shape_of f (layout_of ls.coroutines k)) f
      part) there
      (subst (λ (l : Layout). slice_get (parted_function l (has_given_call m f) f) (number_of part)
      ≡ Some (part_of (shape_of f (layout_of ls.coroutines k)) f part)) layout
      (part_numbered (layout_of ls.coroutines k) (has_given_call m f) f
      (part_of (shape_of f (layout_of ls.coroutines k)) f part) part coroutine
      (is_part (shape_of f (layout_of ls.coroutines k)) f part) have))

  pub plain_stands : f.coroutine ≡ false
      → slice_get (parted_module ls m).functions (moved ls.coroutines m m.functions k + number_of Part.Ramp)
      ≡ Some (plain_of (plain_shape f) f)
  plain_stands plain = stands_moved ls.coroutines m m.functions k 0 f (plain_of (plain_shape f) f) there
      (ap (λ (b : Bool). slice_get (if b then marked_parts (layout_at ls.coroutines m.functions k)
      (has_given_call m f) f
      else plain_of (plain_shape f) f ∷ []) 0) plain)

-- ---- parts that go on

module _ {stage : Stage} {ruler : Module} (ls : Layouts) (m : Module) (w : IsFollowableIn stage ruler ls m)
    (answers : List ℤ) (k : ℕ) (f : Function) (there : slice_get m.functions k ≡ Some f)
    (coroutine : f.coroutine ≡ true) where
  own : IsCoroutinePartable ruler ls m k f
  own = w.partable.coroutines k f there coroutine

  module _ (part : Part) (stands : is_given part ≡ true → has_given_call m f ≡ true) where
    stands_there : slice_get (parted_module ls m).functions (moved ls.coroutines m m.functions k + number_of part)
        ≡ Some (part_of (shape_of f (layout_of ls.coroutines k)) f part)
    stands_there = part_stands ls m k f there coroutine own.layout part stands

    pub part_is : function_at (parted_module ls m) (moved ls.coroutines m m.functions k + number_of part)
        ≡ part_of (shape_of f (layout_of ls.coroutines k)) f part
    part_is = there_is (parted_module ls m) (moved ls.coroutines m m.functions k + number_of part)
        (part_of (shape_of f (layout_of ls.coroutines k)) f part) stands_there

    pub part_coded : IsCodeOf f (part_of (shape_of f (layout_of ls.coroutines k)) f part)
        (shape_of f (layout_of ls.coroutines k)) part
    part_coded = OfCoroutine ruler k (layout_of ls.coroutines k) own.begin part own.splittable
        (is_part (shape_of f (layout_of ls.coroutines k)) f part)

-- a coroutine at its position, with the names by which laws speak of it
module _ {stage : Stage} {ruler : Module} (ls : Layouts) (m : Module) (w : IsFollowableIn stage ruler ls m)
    (answers : List ℤ) (k : ℕ) (there : slice_get m.functions k ≡ Some (function_at m k))
    (coroutine : (function_at m k).coroutine ≡ true) where
  -- the begin of its shape
  pub own_begin : (shape_of (function_at m k) (layout_of ls.coroutines k)).begin
      ≡ (w.partable.coroutines k (function_at m k) there coroutine).begin
  own_begin = ap (λ (o : Option ℕ). unwrap_or o 0) (w.partable.coroutines k (function_at m k) there
      coroutine).splittable.named

  pub shape_named : first_result Intrinsic.CoroBegin (function_at m k)
      ≡ Some (shape_of (function_at m k) (layout_of ls.coroutines k)).begin
  shape_named = (w.partable.coroutines k (function_at m k) there coroutine).splittable.named ∙ ap Some (sym own_begin)

  pub shape_low : (shape_of (function_at m k) (layout_of ls.coroutines k)).begin < length (function_at m k).names
  shape_low = begin_low ruler k (function_at m k) (ruled_at ls m w k (function_at m k) there).rules
      (shape_of (function_at m k) (layout_of ls.coroutines k)).begin shape_named

  module _ (part : Part) (stands : is_given part ≡ true → has_given_call m (function_at m k) ≡ true) where
    is : function_at (parted_module ls m) (moved ls.coroutines m m.functions k + number_of part)
        ≡ part_of (shape_of (function_at m k) (layout_of ls.coroutines k)) (function_at m k) part
    is = part_is ls m w answers k (function_at m k) there coroutine part stands

    coded : IsCodeOf (function_at m k) (function_at (parted_module ls m)
        (moved ls.coroutines m m.functions k + number_of
        part)) (shape_of (function_at m k) (layout_of ls.coroutines k)) part
    coded = subst (λ (q : Function). IsCodeOf (function_at m k) q (shape_of (function_at m k)
        (layout_of ls.coroutines k)) part) (sym is)
        (part_coded ls m w answers k (function_at m k) there coroutine part stands)

    names : length (function_at m k).names ≤ length (function_at (parted_module ls m)
        (moved ls.coroutines m m.functions k + number_of part)).names
    names = subst (λ (q : Function). length (function_at m k).names ≤ length q.names) (sym is)
        (part_names_grow (shape_of (function_at m k) (layout_of ls.coroutines k)) (function_at m k) part)

    pub part_goes_on : goes_on part ≡ true
        → IsPartThere (framed_given m ls.coroutines answers) (parted_module ls m) k part
    part_goes_on goes =
        let x = w.partable.coroutines k (function_at m k) there coroutine in
        let ruled = ruled_at ls m w k (function_at m k) there in
        let own = is_part (shape_of (function_at m k) (layout_of ls.coroutines k)) (function_at m k) part in
        record {
          coroutine = coroutine;
          goes = goes;
          small = (w.coroutines k (function_at m k) there coroutine).small;
          is = subst (λ (q : Function). IsPartOf (shape_of (function_at m k) (layout_of ls.coroutines k))
              (function_at m k) part q) (sym is) own;
          coded = coded;
          entry = subst (λ (q : Function). HasEntry (shape_of (function_at m k) (layout_of ls.coroutines k)) part
              (function_at m k) q) (sym is)
              (later_entry ruler k (function_at m k) (part_of (shape_of (function_at m k) (layout_of ls.coroutines k))
              (function_at m k) part) x.begin (layout_of ls.coroutines k) part x.splittable own goes);
          named = begin_name_is ruler k (function_at m k) ruled.rules
              (shape_of (function_at m k) (layout_of ls.coroutines k)).begin shape_named coroutine
              (ruled.calls coroutine);
          begin = shape_low;
          names = names;
        }

    pub part_callee : goes_on part ≡ true
        → TakesPointer (parts_given ls m answers) (moved ls.coroutines m m.functions k + number_of part)
    part_callee goes = record {
      there = part_stands ls m k (function_at m k) there coroutine
          (w.partable.coroutines k (function_at m k) there coroutine).layout part stands ∙ ap Some (sym is);
      result = ap (λ (q : Function). q.result) is ∙ no_result (shape_of (function_at m k) (layout_of ls.coroutines k))
          (function_at m k) part goes;
      name = (shape_of (function_at m k) (layout_of ls.coroutines k)).begin;
      params = ap (λ (q : Function). q.params) is ∙ one_param (shape_of (function_at m k) (layout_of ls.coroutines k))
          (function_at m k) part goes;
    }

  -- its ramp is what a call of it enters
  pub ramp_callee : (b : Block) → slice_get (function_at m k).blocks 0 ≡ Some b
      → IsCallee (framed_given m ls.coroutines answers) (parted_module ls m) k
  ramp_callee b first = record {
    shape = shape_of (function_at m k) (layout_of ls.coroutines k);
    shaped = inl (coroutine, refl);
    coded = coded Part.Ramp no;
    place = front_of (function_at m k) (function_at (parted_module ls m) (moved ls.coroutines m m.functions k + 0))
        (shape_of (function_at m k) (layout_of ls.coroutines k)) Part.Ramp b (coded Part.Ramp no) refl first;
    params = ap (λ (q : Function). q.params) (is Part.Ramp no);
    names = names Part.Ramp no;
  }
    where
      no : false ≡ true → has_given_call m (function_at m k) ≡ true
      no e = absurd (false≢true e)

-- another function
pub plain_callee : {stage : Stage} {ruler : Module} (ls : Layouts) (m : Module)
    (w : IsFollowableIn stage ruler ls m) (answers : List ℤ) (k : ℕ)
    → slice_get m.functions k ≡ Some (function_at m k) → (function_at m k).coroutine ≡ false → (b : Block)
    → slice_get (function_at m k).blocks 0 ≡ Some b
    → IsCallee (framed_given m ls.coroutines answers) (parted_module ls m) k
plain_callee {ruler = ruler} ls m w answers k there plain b first = record {
  shape = plain_shape (function_at m k);
  shaped = inr (plain, refl);
  coded = code;
  place = front_of (function_at m k) (function_at (parted_module ls m) (moved ls.coroutines m m.functions k + 0))
      (plain_shape (function_at m k)) Part.Ramp b code refl first;
  params = ap (λ (q : Function). q.params) is;
  names = subst (λ (q : Function). length (function_at m k).names ≤ length q.names) (sym is)
      (more_names (function_at m k).names _);
}
  where
    is : function_at (parted_module ls m) (moved ls.coroutines m m.functions k + 0)
        ≡ plain_of (plain_shape (function_at m k)) (function_at m k)
    is = there_is (parted_module ls m) (moved ls.coroutines m m.functions k + 0)
        (plain_of (plain_shape (function_at m k)) (function_at m k))
        (plain_stands ls m k (function_at m k) there plain)

    code : IsCodeOf (function_at m k) (function_at (parted_module ls m) (moved ls.coroutines m m.functions k + 0))
        (plain_shape (function_at m k)) Part.Ramp
    code = OfPlain ruler k plain (ruled_at ls m w k (function_at m k) there).rules is

-- each function is entered by a call
pub callee_ready : {stage : Stage} {ruler : Module} (ls : Layouts) (m : Module)
    (w : IsFollowableIn stage ruler ls m) (answers : List ℤ) (k : ℕ)
    → slice_get m.functions k ≡ Some (function_at m k)
    → IsCallee (framed_given m ls.coroutines answers) (parted_module ls m) k
callee_ready ls m w answers k there = on (function_at m k).coroutine refl
  where
    on : (c : Bool) → (function_at m k).coroutine ≡ c
        → IsCallee (framed_given m ls.coroutines answers) (parted_module ls m) k
    on true e = let b = w.partable.blocks k (function_at m k) there in ramp_callee ls m w answers k there e b.0 b.1
    on false e = let b = w.partable.blocks k (function_at m k) there in plain_callee ls m w answers k there e b.0 b.1

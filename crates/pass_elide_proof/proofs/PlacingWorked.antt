-- The worked module keeps what places ask of it.
use Rattle.std.proofs.Common.{◌≡◌, cond, ◌⊎◌, ◌<◌, ◌≤◌, inl, inr, ℕ, zero, suc, Bool, true, false, List, [], ◌∷◌, length, Option, refl, sym, ap, ◌∙◌, subst, arith, ◌==◌, ◌&&◌, ◌||◌}
use Rattle.std.specs.Option.{option_map_or}
use Rattle.std.specs.Prelude.{◌≢◌, None, Some, codes, find, if◌then◌else◌, is_none, nat_le, not, option_and_then, option_map, pos, slice_get, unwrap_or}
use Rattle.std.proofs.lemmas.Bool.{le-leb, leb-true}
use Rattle.std.specs.List.{list_all}
use Rattle.elide_shape.specs.Calls.{deals_by, value_at}
use Rattle.elide_shape.specs.declared.calls.Dealing.{Dealing}
use Rattle.elide_sites.proofs.Ahead.{passed_is}
use Rattle.elide_sites.specs.Sites.{IsDestroyed, destroys_of}
use Rattle.pass_elide.specs.Frames.{field_named, frame_at, result_name}
use Rattle.pass_elide.specs.declared.given.GivenFrame.{GivenFrame}
use Rattle.pass_elide_proof.proofs.Facts.{not_both, some_none}
use Rattle.pass_elide_proof.proofs.OwnPlaces.{instr_there}
use Rattle.pass_elide_proof.proofs.PlacingChecked.{PassesTests, every_in, keeps_instrs, none_of, or_other, tested_at, unset}
use Rattle.pass_elide_proof.proofs.PlacingFacts.{by_truth}
use Rattle.pass_elide_proof.specs.Calling.{DestroysHandles, IsAligned, IsSetApart, MarksOwn, StartsAlike}
use Rattle.pass_elide_proof.specs.Elision.{framed, function_in, no_shape, rooms}
use Rattle.pass_elide_proof.specs.Places.{allocas_ahead, instrs_of, room_at}
use Rattle.pass_elide_proof.specs.Placing.{HasShape, IsGivingCall, IsQuiet, KeepsPlaces, ReturnsPlain}
use Rattle.pass_elide_proof.specs.Shapes.{AsksForFrame, IsAllocating}
use Rattle.pass_elide_proof.specs.Waking.{IsFreedName, WakesAlike}
use Rattle.pass_elide_proof.specs.Worked.{held_at, the_elision, the_shape, waits_at}
use Rattle.pass_proofs.proofs.ir_laws.facts.Truth.{and_first, and_second, equal_numbers, not_equal, other_name}
use Rattle.pass_proofs.specs.frame_layout.declared.layout.Layout.{Layout}
use Rattle.pass_proofs.specs.frame_layout.declared.layout.PlacedField.{PlacedField}
use Rattle.pass_proofs.specs.ir_base.declared.name.Name.{Name}
use Rattle.pass_proofs.specs.ir_model.Ty.{Ty, int, ptr, token}
use Rattle.pass_proofs.specs.ir_model.declared.instr.Instr.{Instr}
use Rattle.pass_proofs.specs.ir_model.declared.instr.Phi.{Phi}
use Rattle.pass_proofs.specs.ir_model.declared.instr.Terminator.{Terminator}
use Rattle.pass_proofs.specs.ir_model.declared.module.Block.{Block}
use Rattle.pass_proofs.specs.ir_model.declared.module.Function.{Function}
use Rattle.pass_proofs.specs.ir_model.declared.operand.Allocator.{Allocator}
use Rattle.pass_proofs.specs.ir_model.declared.operand.Arg.{Arg}
use Rattle.pass_proofs.specs.ir_model.declared.operand.Callee.{Callee}
use Rattle.pass_proofs.specs.ir_model.declared.operand.Intrinsic.{Intrinsic}
use Rattle.pass_proofs.specs.ir_model.declared.operand.Operand.{Operand}
use Rattle.pass_proofs.specs.ir_parts.Contents.{result_of}
use Rattle.pass_proofs.specs.ir_paths.Windows.{is_call_of, points_where}
use Rattle.pass_proofs.specs.ir_paths.declared.point.Point.{Point}
use Rattle.pass_proofs.specs.run_framed.Framed.{given_ramp, is_promise_kind, no_layout, promise_offset}
use Rattle.pass_proofs.specs.run_laws.changed.Changed.{Each}
use Rattle.pass_proofs.specs.run_source.declared.state.Instance.{Instance}
use Rattle.pass_proofs.specs.run_step.Step.{AtTerm, fetch, phis_of}
use Rattle.run_slots.specs.Slots.{GivesNoFrames}

abbrev pub g : Function
g = function_in the_elision 0

abbrev pub caller : Function
caller = function_in the_elision 1

-- ---- instructions

instrs_pass : (func : ℕ) → PassesTests the_elision func
instrs_pass zero = record { reads = refl; sets = refl; steady = refl; bytes = refl; allocas = refl; own = refl }
instrs_pass (suc zero) = record { reads = refl; sets = refl; steady = refl; bytes = refl; allocas = refl; own = refl }
instrs_pass (suc (suc n)) =
    record { reads = refl; sets = refl; steady = refl; bytes = refl; allocas = refl; own = refl }

-- functions but the coroutine have the shape of none whose calls give a frame
pub shape_none : (n : ℕ) → the_elision.shape (suc n) ≡ no_shape
shape_none n =
    let other : (suc n == 0) ≡ false = other_name (suc n) 0 (omega arith) in
    ap (λ (b : Bool). if b then the_shape else no_shape) other

-- ---- the block that is held

is_two : (at : ℕ) → 1 < at → nat_le 2 at ≡ true
is_two at lt = le-leb 2 at (omega (arith, lt))

not_two : (at : ℕ) → at ≤ 1 → nat_le 2 at ≡ false
not_two at le = by_truth (nat_le 2 at) (λ is. let more = leb-true 2 at is in absurd (omega (arith, more, le))) (λ no. no)

held_two : (at : ℕ) → 1 < at → held_at 2 at ≡ Some 7
held_two at lt = ap (λ (b : Bool). if b then Some 7 else None) (is_two at lt)

free_two : (at : ℕ) → at ≤ 1 → held_at 2 at ≡ None
free_two at le = ap (λ (b : Bool). if b then Some 7 else None) (not_two at le)

held_four : (at : ℕ) → at ≤ 0 → held_at 4 at ≡ Some 8
held_four at le = let first : 0 ≡ at = omega (arith, le) in subst (λ (n : ℕ). held_at 4 n ≡ Some 8) first refl

free_four : (at : ℕ) → 0 < at → held_at 4 at ≡ None
free_four at lt = ap (λ (b : Bool). if b then Some 8 else None) (other_name at 0 lt)

other : (a b : ℕ) → a ≢ b → (a == b) ≡ false
other a b ne = by_truth (a == b) (λ is. absurd (ne (equal_numbers a b is))) (λ no. no)

free_other : (k at : ℕ) → k ≢ 2 → k ≢ 3 → k ≢ 4 → held_at k at ≡ None
free_other k at two three four =
    λ j. if other k 2 two j && nat_le 2 at then Some 7
    else if other k 3 three j then Some 7 else if other k 4 four j && (at == 0) then Some 8 else None

-- ---- the block that allocates

abbrev size_call : Instr
size_call = Instr.Call (Some 6) false (Some (int 32)) (Callee.Intrinsic Intrinsic.CoroSizeI32) []

abbrev malloc_call : Instr
malloc_call =
    Instr.Call (Some 7) false (Some ptr) (Callee.Allocator Allocator.Malloc)
    (record { ty = int 32; value = Operand.Local 6 } ∷ [])

abbrev begin_call : Instr
begin_call =
    Instr.Call (Some 9) false (Some ptr) (Callee.Intrinsic Intrinsic.CoroBegin)
    (record { ty = token; value = Operand.Local 2 } ∷ record { ty = ptr; value = Operand.Local 8 } ∷ [])

in_allocates : (k : ℕ) (i : Instr) → slice_get (instrs_of g 2) k ≡ Some i → IsAllocating i
in_allocates zero i e = let same : size_call ≡ i = cc in subst IsAllocating same (inl refl)
in_allocates (suc zero) i e = let same : malloc_call ≡ i = cc in subst IsAllocating same (inr (inl refl))
in_allocates (suc (suc k)) i e = absurd (cc)

once_only : (k : ℕ) (i : Instr) → slice_get (instrs_of g 2) k ≡ Some i → deals_by Dealing.Allocates i ≡ true → k ≡ 1
once_only zero i e is =
    let same : size_call ≡ i = cc in
    absurd (not_both (deals_by Dealing.Allocates i) is (ap (deals_by Dealing.Allocates) (sym same)))
once_only (suc zero) i e is = refl
once_only (suc (suc k)) i e is = absurd (cc)

is_made_there : (k v : ℕ) (i : Instr) → slice_get (instrs_of g 2) k ≡ Some i → result_of i ≡ Some v
    → the_shape.made v ≡ true
is_made_there zero v i e is =
    let same : size_call ≡ i = cc in
    let one : Some 6 ≡ Some v = ap result_of same ∙ is in
    let name : 6 ≡ v = cc in
    subst (λ (n : ℕ). the_shape.made n ≡ true) name refl
is_made_there (suc zero) v i e is =
    let same : malloc_call ≡ i = cc in
    let one : Some 7 ≡ Some v = ap result_of same ∙ is in
    let name : 7 ≡ v = cc in
    subst (λ (n : ℕ). the_shape.made n ≡ true) name refl
is_made_there (suc (suc k)) v i e is = absurd (cc)

pub the_question : AsksForFrame (function_in the_elision 0) (the_elision.shape 0)
the_question = record {
  asks = 0;
  allocates = 2;
  after = 3;
  beside = 1;
  begins = 4;
  need = 3;
  one = 4;
  other = 18;
  branch = refl;
  to_allocator = refl;
  to_beside = refl;
  jumps = record { label = 19; stands = refl; leads = refl };
  joins = record { label = 5; stands = refl; leads = refl };
  meets = record { label = 5; stands = refl; leads = refl };
  waits = refl;
  aside = refl;
  instrs = λ way. in_allocates;
  allocation = 1;
  allocator = malloc_call;
  there = refl;
  is_allocator = refl;
  once = once_only;
  loads = λ k i j e h. absurd (cc);
  many = refl;
  block = 7;
  memory = 8;
  begin = 0;
  start = begin_call;
  given = refl;
  is_start = refl;
  is_begin = refl;
  takes = refl;
  held = held_two;
  held_behind = λ at. refl;
  held_until = held_four;
  free_before = free_two;
  free_behind = free_four;
  free_elsewhere = λ k at two three four. free_other k at two three four;
  is_need = refl;
  is_memory = refl;
  is_made = is_made_there;
  is_loaded = λ k v i e is. absurd (cc);
  is_loaded_beside = λ k v i e is. absurd (cc);
}

-- ---- the coroutine's shape

abbrev need_ok : ℕ → ℕ → Instr → Bool
need_ok block at i = not (is_call_of Intrinsic.CoroAlloc i) || option_map_or the_shape.need (result_of i) true

abbrev freed_ok : ℕ → ℕ → Instr → Bool
freed_ok block at i = not (is_call_of Intrinsic.CoroFree i) || option_map_or the_shape.freed (result_of i) true

abbrev begun_ok : ℕ → ℕ → Instr → Bool
begun_ok block at i = not (is_call_of Intrinsic.CoroBegin i) || ((block == 4) && (at == 0))

of_result : (p : ℕ → Bool) (o : Option ℕ) (v : ℕ) → option_map_or p o true ≡ true → o ≡ Some v → p v ≡ true
of_result p None v h e = absurd (cc)
of_result p (Some u) v h e = let same : v ≡ u = cc in ap p same ∙ h

waits_once : (block other : ℕ) → waits_at block ≡ Some other → block ≡ 2
waits_once block other is =
    by_truth (block == 2) (λ e. equal_numbers block 2 e)
    (λ no. absurd (some_none (waits_at block) other is (ap (λ (b : Bool). if b then Some 0 else None) no)))

pub worked_shape : HasShape the_elision 0
unfolding the_question
worked_shape = record {
  coroutine = refl;
  asks = the_question;
  waits = waits_once;
  need = λ block at v i there asks is.
      of_result the_shape.need (result_of i) v
      (or_other (not (is_call_of Intrinsic.CoroAlloc i)) (option_map_or the_shape.need (result_of i) true)
      (tested_at need_ok g block at i refl there) (ap not asks)) is;
  freed = λ block at v i there frees is.
      of_result the_shape.freed (result_of i) v
      (or_other (not (is_call_of Intrinsic.CoroFree i)) (option_map_or the_shape.freed (result_of i) true)
      (tested_at freed_ok g block at i refl there) (ap not frees)) is;
  begun = λ block at i there begins.
      let both = or_other (not (is_call_of Intrinsic.CoroBegin i)) ((block == 4) && (at == 0))
      (tested_at begun_ok g block at i refl there) (ap not begins) in (
        equal_numbers block 4 (and_first (block == 4) (at == 0) both),
        equal_numbers at 0 (and_second (block == 4) (at == 0) both),
      );
  small = omega arith;
  bare = refl;
  empty = refl;
  empty_beside = refl;
  untested = refl;
}

pub worked_shapes : (func : ℕ) → (the_elision.shape func ≡ no_shape) ⊎ HasShape the_elision func
worked_shapes zero = inr worked_shape
worked_shapes (suc n) = inl (shape_none n)

-- ---- waking

no_field : (o : Option Name) → option_map (frame_at 9) (option_and_then (field_named []) o) ≡ None
no_field None = refl
no_field (Some n) = refl

no_rooms : (block at : ℕ) (i : Instr) → rooms the_elision 0 block at i ≡ None
no_rooms block at i = no_field (result_name g.names i)

freed_name : (v : ℕ) → IsFreedName the_shape v → v ≡ 16
freed_name v (inl is) = equal_numbers v 16 is
freed_name v (inr is) = absurd (some_none None is.0 is.1 refl)

abbrev apart_ok : ℕ → Phi → Bool
apart_ok v p = not (p.result == v)

each_apart : (v : ℕ) (ps : List Phi) → list_all (apart_ok v) ps ≡ true
    → Each (λ (p : Phi). p.result ≡ v → ⊥) ps
each_apart v [] h = tt
each_apart v (p ∷ ps) h = (
  λ is. not_equal p.result v (unset (p.result == v) (and_first (apart_ok v p) (list_all (apart_ok v) ps) h)) is,
  each_apart v ps (and_second (apart_ok v p) (list_all (apart_ok v) ps) h),
)

phis_apart : (v : ℕ) (bs : List Block) (block : ℕ) → list_all (λ (b : Block). list_all (apart_ok v) b.phis) bs ≡ true
    → Each (λ (p : Phi). p.result ≡ v → ⊥) (phis_of (slice_get bs block))
phis_apart v [] block h = tt
phis_apart v (b ∷ bs) zero h =
    each_apart v b.phis
    (and_first (list_all (apart_ok v) b.phis) (list_all (λ (c : Block). list_all (apart_ok v) c.phis) bs) h)
phis_apart v (b ∷ bs) (suc k) h =
    phis_apart v bs k
    (and_second (list_all (apart_ok v) b.phis) (list_all (λ (c : Block). list_all (apart_ok v) c.phis) bs) h)

woken : WakesAlike the_elision 0
woken = record {
  none = no_rooms;
  begins = λ v is e.
      let name = freed_name v is in
      let nine : 9 ≡ v = cc in
      absurd (omega (arith, name, nine));
  phis = λ v is block.
      subst (λ (n : ℕ). Each (λ (p : Phi). p.result ≡ n → ⊥) (phis_of (slice_get g.blocks block)))
      (sym (freed_name v is)) (phis_apart 16 g.blocks block refl);
}

wakes : (func : ℕ) → (function_in the_elision func).coroutine ≡ true → WakesAlike the_elision func
wakes zero is = woken
wakes (suc zero) is = absurd (cc)
wakes (suc (suc n)) is = absurd (cc)

-- ---- calls

abbrev ungiven_ok : ℕ → ℕ → Instr → Bool
ungiven_ok block at (Instr.Call result must_tail ty (Callee.Named n) args) = is_none (given_ramp the_elision.code n)
ungiven_ok block at _ = true

ungiven_pass : (func : ℕ) → every_in ungiven_ok 0 (function_in the_elision func).blocks ≡ true
ungiven_pass zero = refl
ungiven_pass (suc zero) = refl
ungiven_pass (suc (suc n)) = refl

ungiven : GivesNoFrames the_elision.code
ungiven func block at result must_tail ty n args there =
    none_of (given_ramp the_elision.code n)
    (tested_at ungiven_ok (function_in the_elision func) block at
    (Instr.Call result must_tail ty (Callee.Named n) args) (ungiven_pass func)
    (instr_there (function_in the_elision func) block at (Instr.Call result must_tail ty (Callee.Named n) args) there))

plain : (func : ℕ) → (function_in the_elision func).coroutine ≡ false
    → points_where (is_call_of Intrinsic.CoroSave) (function_in the_elision func) ≡ []
plain zero is = absurd (cc)
plain (suc zero) is = refl
plain (suc (suc n)) is = refl

-- ---- the site

pub caller_site : (block at size align : ℕ) (i : Instr) → slice_get (instrs_of caller block) at ≡ Some i
    → room_at (rooms the_elision 1) caller block at i ≡ Some (GivenFrame.Alloca size align)
    → (block ≡ 0) × (at ≡ 0)
caller_site zero zero size align i e is = (refl, refl)
caller_site zero (suc zero) size align i e is = absurd (cc)
caller_site zero (suc (suc zero)) size align i e is = absurd (cc)
caller_site zero (suc (suc (suc k))) size align i e is = absurd (cc)
caller_site (suc block) at size align i e is = absurd (cc)

abbrev the_block : Block
the_block =
    unwrap_or (slice_get caller.blocks 0)
    (record { label = 0; phis = []; instrs = []; term = Terminator.Unreachable })

first_destroyed : IsDestroyed caller (record { block = 0; at = 0 })
first_destroyed =
    (passed_is caller (record { block = 0; at = 0 })
    (destroys_of caller (value_at caller (record { block = 0; at = 0 }))) true refl
    (λ h. record { block = the_block; is_block = refl; is_passed = refl }) refl).0 refl

destroyed : (func : ℕ) → DestroysHandles the_elision func
destroyed zero call i name site = let is = site.plain in absurd (cc)
destroyed (suc zero) call i name site =
    let here = caller_site call.block call.at site.size site.align i site.there site.room in
    subst (λ (p : Point). IsDestroyed caller p) (λ j. record { block = sym here.0 j; at = sym here.1 j })
    first_destroyed
destroyed (suc (suc n)) call i name site = let is = site.there in absurd (cc)

marks : (func : ℕ) → MarksOwn (function_in the_elision func)
marks zero v le = refl
marks (suc zero) v le = refl
marks (suc (suc n)) v le = refl

abbrev the_layout : Layout
the_layout = unwrap_or (slice_get the_elision.layouts.coroutines 0) (no_layout 0)

fronts : (func : ℕ) → Each IsAligned (allocas_ahead (rooms the_elision func) (function_in the_elision func))
fronts zero = tt
fronts (suc zero) = (refl, tt)
fronts (suc (suc n)) = tt

-- no coroutine has a promise
no_promise : (x : Instance) (distance : ℕ) → promise_offset (framed the_elision) x ≡ Some distance → ⊥
no_promise x distance is = by_truth (0 == x.coroutine) with_layout without
  where
    with_layout : (0 == x.coroutine) ≡ true → ⊥
    with_layout e =
        let none = ap (λ (b : Bool). option_map (λ (y : PlacedField). y.offset) (find (λ (y : PlacedField).
        is_promise_kind y.kind) (unwrap_or (cond b (Some the_layout) None) (no_layout x.coroutine)).fields)) e in
        some_none (promise_offset (framed the_elision) x) distance is none

    without : (0 == x.coroutine) ≡ false → ⊥
    without e =
        let none = ap (λ (b : Bool). option_map (λ (y : PlacedField). y.offset) (find (λ (y : PlacedField).
        is_promise_kind y.kind) (unwrap_or (cond b (Some the_layout) None) (no_layout x.coroutine)).fields)) e in
        some_none (promise_offset (framed the_elision) x) distance is none

set_apart : (v : ℕ) → IsSetApart the_shape v → (v ≡ 3) ⊎ (v ≡ 16)
set_apart v (inl is) = inl (equal_numbers v 3 is)
set_apart v (inr (inl is)) = inr (equal_numbers v 16 is)
set_apart v (inr (inr is)) = absurd (some_none None is.0 is.1 refl)

starts : StartsAlike the_elision 0
starts = record {
  coroutine = refl;
  params = λ v is. (λ e. not_zero v (set_apart v is) e, tt);
  holds = refl;
}
  where
    not_zero : (v : ℕ) → (v ≡ 3) ⊎ (v ≡ 16) → 0 ≡ v → ⊥
    not_zero v (inl is) e = absurd (omega (arith, is, e))
    not_zero v (inr is) e = absurd (omega (arith, is, e))

abbrev the_args : List Arg
the_args = record { ty = int 32; value = Operand.Number (pos 4) } ∷ []

giving : IsGivingCall the_elision (Name.Text (codes "g")) the_args
giving = record { func = 0; named = refl; given = refl; starts = starts; fits = refl; shape = worked_shape }

calls : (func block at size align : ℕ) (result : Option ℕ) (must_tail : Bool) (ty : Option Ty) (name : Name)
    (args : List Arg)
    → slice_get (instrs_of (function_in the_elision func) block) at
    ≡ Some (Instr.Call result must_tail ty (Callee.Named name) args)
    → room_at (rooms the_elision func) (function_in the_elision func) block at
    (Instr.Call result must_tail ty (Callee.Named name) args) ≡ Some (GivenFrame.Alloca size align)
    → IsGivingCall the_elision name args
calls zero block at size align result must_tail ty name args there room =
    absurd (some_none (room_at (rooms the_elision 0) g block at (Instr.Call result must_tail ty (Callee.Named name) args))
    (GivenFrame.Alloca size align) room
    (no_field (result_name g.names (Instr.Call result must_tail ty (Callee.Named name) args))))
calls (suc zero) zero zero size align result must_tail ty name args there room =
    let one : Name.Text (codes "g") ≡ name = cc in
    let all : the_args ≡ args = cc in
    subst (λ (xs : List Arg). IsGivingCall the_elision name xs) all
    (subst (λ (n : Name). IsGivingCall the_elision n the_args) one giving)
calls (suc zero) zero (suc zero) size align result must_tail ty name args there room = absurd (cc)
calls (suc zero) zero (suc (suc zero)) size align result must_tail ty name args there room = absurd (cc)
calls (suc zero) zero (suc (suc (suc k))) size align result must_tail ty name args there room = absurd (cc)
calls (suc zero) (suc block) at size align result must_tail ty name args there room = absurd (cc)
calls (suc (suc n)) block at size align result must_tail ty name args there room = absurd (cc)

-- ---- returns

quiet_nine : IsQuiet the_shape 9
quiet_nine = record { need = refl; made = refl; freed = refl; tested = refl; passed = refl }

ramp_value : (value : Option Arg) → Some (record { ty = ptr; value = Operand.Local 9 }) ≡ value
    → ReturnsPlain the_shape 10 1 value
ramp_value value is = record {
  held = refl;
  reads = λ arg e v local.
      let one : Operand.Local 9 ≡ Operand.Local v
      = ap (λ (o : Option Arg). option_map_or (λ (a : Arg). a.value) o Operand.None) (is ∙ e) ∙ local in
      let name : 9 ≡ v = cc in
      subst (IsQuiet the_shape) name quiet_nine;
}

caller_value : (value : Option Arg) → Some (record { ty = int 32; value = Operand.Number (pos 0) }) ≡ value
    → ReturnsPlain no_shape 0 3 value
caller_value value is = record {
  held = refl;
  reads = λ arg e v local.
      let one : Operand.Number (pos 0) ≡ Operand.Local v
      = ap (λ (o : Option Arg). option_map_or (λ (a : Arg). a.value) o Operand.None) (is ∙ e) ∙ local in
      absurd (cc);
}

abbrev Returns : (func block : ℕ) → Option Arg → Type 0
Returns func block value =
    fetch (function_in the_elision func) block (length (instrs_of (function_in the_elision func) block))
    ≡ AtTerm (Terminator.Ret value)
    → ReturnsPlain (the_elision.shape func) block (length (instrs_of (function_in the_elision func) block)) value

returned : (func block : ℕ) (value : Option Arg) → Returns func block value
returned zero zero value e = absurd (cc)
returned zero (suc zero) value e = absurd (cc)
returned zero (suc (suc zero)) value e = absurd (cc)
returned zero (suc (suc (suc zero))) value e = absurd (cc)
returned zero (suc (suc (suc (suc zero)))) value e = absurd (cc)
returned zero (suc (suc (suc (suc (suc zero))))) value e = absurd (cc)
returned zero (suc (suc (suc (suc (suc (suc zero)))))) value e = absurd (cc)
returned zero (suc (suc (suc (suc (suc (suc (suc zero))))))) value e = absurd (cc)
returned zero (suc (suc (suc (suc (suc (suc (suc (suc zero)))))))) value e = absurd (cc)
returned zero (suc (suc (suc (suc (suc (suc (suc (suc (suc zero))))))))) value e = absurd (cc)
returned zero (suc (suc (suc (suc (suc (suc (suc (suc (suc (suc zero)))))))))) value e = ramp_value value (cc)
returned zero (suc (suc (suc (suc (suc (suc (suc (suc (suc (suc (suc k))))))))))) value e = absurd (cc)
returned (suc zero) zero value e = caller_value value (cc)
returned (suc zero) (suc block) value e = absurd (cc)
returned (suc (suc n)) block value e = absurd (cc)

-- ---- the module

pub worked_keeps : KeepsPlaces the_elision
worked_keeps = record {
  instrs = λ func. keeps_instrs the_elision func (instrs_pass func);
  shapes = worked_shapes;
  wakes = wakes;
  ungiven = ungiven;
  plain = plain;
  destroyed = destroyed;
  marks = marks;
  fronts = fronts;
  promises = λ x distance is. absurd (no_promise x distance is);
  calls = calls;
  returned = returned;
}

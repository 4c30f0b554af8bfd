-- How many suspends there are, by the instructions alone.
use Rattle.std.proofs.Common.{◌≡◌, ℕ, ◌+◌, ◌≤◌, Bool, true, List, [], ◌∷◌, ◌++◌, length, refl, sym, ◌∙◌, subst, arith, length-append}
use Rattle.std.specs.Prelude.{None, slice_get, if◌then◌else◌}
use Rattle.ir_laws.specs.ir_base.declared.outcome.Place.{Place}
use Rattle.rule_shape.specs.Places.{place_of_passing, places_by, places_in, places_where}
use Rattle.rule_shape.specs.Suspends.{is_suspend, suspend_too_many}
use Rattle.ir_parts.specs.Parts.{instr_place}
use Rattle.pass_intrinsics.specs.Shapes.{suspends_of, with_suspend, with_suspends_by, with_suspends_in}
use Rattle.pass_intrinsics.specs.declared.shape.SuspendPoint.{SuspendPoint}
use Rattle.ir_laws.specs.ir_model.declared.instr.Instr.{Instr}
use Rattle.ir_laws.specs.ir_model.declared.module.Block.{Block}
use Rattle.ir_laws.specs.ir_model.declared.module.Function.{Function}
use Rattle.ir_laws.specs.ir_model.declared.operand.Callee.{Callee}
use Rattle.ir_laws.specs.ir_model.declared.operand.Intrinsic.{Intrinsic}
use Rattle.ir_laws.proofs.facts.Lists.{none_past}

-- ---- counts

abbrev pub one : Instr → ℕ
one (Instr.Call result must_tail ty (Callee.Intrinsic Intrinsic.CoroSuspend) args) = 1
one _ = 0

abbrev pub count : List Instr → ℕ
count [] = 0
count (i ∷ is) = one i + count is

abbrev pub total : List Block → ℕ
total [] = 0
total (b ∷ bs) = count b.instrs + total bs

pub joined : (xs ys : List Instr) → count (xs ++ ys) ≡ count xs + count ys
joined [] ys = let none : count ys ≡ 0 + count ys = omega arith in none
joined (x ∷ xs) ys = let rest = joined xs ys in let all : one x + count (xs ++ ys) ≡ one x + count xs + count ys = omega (arith, rest) in all

-- ---- the suspends of a function

with_one : (all : List SuspendPoint) (b : Block) (i : Instr) → length (with_suspend all b i) ≡ length all + one i
with_one all b (Instr.Call result must_tail ty (Callee.Intrinsic Intrinsic.CoroSuspend) args) = length-append all _
with_one all b _ = let same : length all ≡ length all + 0 = omega arith in same

with_all : (all : List SuspendPoint) (b : Block) (is : List Instr) → length (with_suspends_in all b is) ≡ length all + count is
with_all all b [] = let same : length all ≡ length all + 0 = omega arith in same
with_all all b (i ∷ is) =
    let first = with_one all b i in
    let rest = with_all (with_suspend all b i) b is in
    let both : length (with_suspends_in (with_suspend all b i) b is) ≡ length all + (one i + count is) = omega (arith, first, rest) in
    both

with_blocks : (all : List SuspendPoint) (bs : List Block) → length (with_suspends_by all bs) ≡ length all + total bs
with_blocks all [] = let same : length all ≡ length all + 0 = omega arith in same
with_blocks all (b ∷ bs) =
    let first = with_all all b b.instrs in
    let rest = with_blocks (with_suspends_in all b b.instrs) bs in
    let both : length (with_suspends_by (with_suspends_in all b b.instrs) bs) ≡ length all + (count b.instrs + total bs) = omega (arith, first, rest) in
    both

pub counted : (f : Function) → length (suspends_of f) ≡ total f.blocks
counted f = let h = with_blocks [] f.blocks in let same : length (suspends_of f) ≡ total f.blocks = omega (arith, h) in same

-- functions with as many have as many suspends
pub as_many : (f g : Function) → total g.blocks ≡ total f.blocks → length (suspends_of g) ≡ length (suspends_of f)
as_many f g same = counted g ∙ same ∙ sym (counted f)

-- ---- the places of suspends

one_place : (i : Instr) (p : Place) → length (place_of_passing is_suspend i p) ≡ one i
one_place (Instr.Call result must_tail ty (Callee.Intrinsic Intrinsic.CoroSuspend) args) p = refl
one_place _ p = refl

places_counted : (func block at : ℕ) (is : List Instr) → length (places_in is_suspend func block at is) ≡ count is
places_counted func block at [] = refl
places_counted func block at (i ∷ is) =
    let first = one_place i (instr_place func block at) in
    let rest = places_counted func block (at + 1) is in
    length-append (place_of_passing is_suspend i (instr_place func block at)) (places_in is_suspend func block (at + 1) is)
    ∙ (λ k. first k + rest k)

blocks_counted : (func block : ℕ) (bs : List Block) → length (places_by is_suspend func block bs) ≡ total bs
blocks_counted func block [] = refl
blocks_counted func block (b ∷ bs) =
    let first = places_counted func block (length b.phis) b.instrs in
    let rest = blocks_counted func (block + 1) bs in
    length-append (places_in is_suspend func block (length b.phis) b.instrs) (places_by is_suspend func (block + 1) bs)
    ∙ (λ k. first k + rest k)

pub few : (k : ℕ) (f : Function) → f.coroutine ≡ true → suspend_too_many k f ≡ None → length (suspends_of f) ≤ 65536
few k f coroutine e =
    let none : slice_get (places_where is_suspend k f) 65536 ≡ None = subst (λ (b : Bool). (if b then slice_get (places_where is_suspend k f) 65536 else None) ≡ None) coroutine e in
    let short = none_past (places_where is_suspend k f) 65536 none in
    let places : length (places_where is_suspend k f) ≡ total f.blocks = blocks_counted k 0 f.blocks in
    let same = counted f in
    omega (arith, short, places, same)

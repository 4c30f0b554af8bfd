-- In a function whose calls give allocas each alloca gives its name alone, and a marker marks one that was there.
use Rattle.std.proofs.Common.{◌≡◌, ◌∙◌, ◌+◌, ◌<◌, ◌≤◌, ◌⊎◌, ℕ, zero, suc, Bool, List, [], ◌∷◌, length, length-append, None, Option, Some, ap, refl, sym, subst, arith}
use Rattle.std.specs.Prelude.{codes, slice_get}
use Rattle.pass_elide.specs.Elided.{elided_function, frame_allocas, function_frames}
use Rattle.pass_elide.specs.declared.given.GivenFrame.{GivenFrame}
use Rattle.pass_elide_lacks.proofs.Flat.{Ahead, IsPlaced, Own, given_alloca, given_intrinsic, given_result, own_there, placed}
use Rattle.pass_elide_meaning.specs.pass_elide_runs.Marks.{MarksAlloca, MarksAllocas}
use Rattle.pass_elide_meaning.specs.pass_elide_runs.Slots.{IsAllocaAt, NamesAllocas}
use Rattle.pass_elide_meaning.proofs.pass_elide_edges.pass_elide_proof.GoesOn.{instr_there}
use Rattle.pass_elide_meaning.proofs.pass_elide_edges.pass_elide_proof.PhiValues.{each_as}
use Rattle.pass_elide_meaning.proofs.pass_elide_edges.pass_elide_proof.Standing.{has_code}
use Rattle.pass_elide_meaning.specs.pass_elide_edges.pass_elide_proof.Edges.{phis_at}
use Rattle.pass_elide_meaning.specs.pass_elide_edges.pass_elide_proof.Places.{Rooms, ahead, allocas_ahead, elided_instr, instrs_of, name_at, put_by, room_at}
use Rattle.pass_elide_meaning.specs.pass_elide_edges.pass_elide_proof.pass_proofs.ir_model.Names.{numbered}
use Rattle.pass_elide_meaning.specs.pass_elide_edges.pass_elide_proof.pass_proofs.ir_model.Ty.{Ty, array, int}
use Rattle.pass_elide_meaning.specs.pass_elide_edges.pass_elide_proof.pass_proofs.ir_model.declared.instr.Instr.{Instr}
use Rattle.pass_elide_meaning.specs.pass_elide_edges.pass_elide_proof.pass_proofs.ir_model.declared.instr.Phi.{Phi}
use Rattle.pass_elide_meaning.specs.pass_elide_edges.pass_elide_proof.pass_proofs.ir_model.declared.module.Function.{Function}
use Rattle.pass_elide_meaning.specs.pass_elide_edges.pass_elide_proof.pass_proofs.ir_model.declared.operand.Arg.{Arg}
use Rattle.pass_elide_meaning.specs.pass_elide_edges.pass_elide_proof.pass_proofs.ir_model.declared.operand.Callee.{Callee}
use Rattle.pass_elide_meaning.specs.pass_elide_edges.pass_elide_proof.pass_proofs.ir_model.declared.operand.Intrinsic.{Intrinsic}
use Rattle.pass_elide_meaning.specs.pass_elide_edges.pass_elide_proof.pass_proofs.ir_parts.Contents.{result_of}
use Rattle.pass_elide_meaning.specs.pass_elide_edges.pass_elide_proof.pass_proofs.pass_fetch.Blocks.{numbered_names}
use Rattle.pass_elide_meaning.specs.pass_elide_edges.pass_elide_proof.pass_proofs.run_laws.changed.Changed.{Each}
use Rattle.pass_elide_meaning.specs.pass_elide_edges.pass_elide_proof.pass_proofs.run_step.Step.{AtInstr, phis_of}

-- ---- names of allocas in front

pub record IsFrontAlloca (low high : ℕ) (j : Instr) : Type 0 where
  pub name : ℕ
  pub size : ℕ
  pub align : ℕ
  pub is : j ≡ Instr.Alloca name (array size (int 8)) align
  pub from : low ≤ name
  pub below : name < high

pub front_alloca : (n : ℕ) (rs : List GivenFrame) (k : ℕ) (j : Instr) → slice_get (frame_allocas n rs) k ≡ Some j
    → IsFrontAlloca n (n + length rs) j
front_alloca n [] k j there = absurd (cc)
front_alloca n (GivenFrame.Alloca size align ∷ rs) zero j there = record {
  name = n;
  size = size;
  align = align;
  is = let same : Instr.Alloca n (array size (int 8)) align ≡ j = cc in sym same;
  from = omega arith;
  below = omega arith;
}
front_alloca n (GivenFrame.Alloca size align ∷ rs) (suc k) j there =
    let rest = front_alloca (n + 1) rs k j there in
    let from = rest.from in
    let below = rest.below in
    record {
      name = rest.name;
      size = rest.size;
      align = rest.align;
      is = rest.is;
      from = omega (arith, from);
      below = omega (arith, below);
    }
front_alloca n (GivenFrame.Field base distance ∷ rs) k j there =
    let rest = front_alloca (n + 1) rs k j there in
    let from = rest.from in
    let below = rest.below in
    record {
      name = rest.name;
      size = rest.size;
      align = rest.align;
      is = rest.is;
      from = omega (arith, from);
      below = omega (arith, below);
    }

one_name : (a b : ℕ) → Some a ≡ Some b → a ≡ b
one_name a b h = cc

-- two with one name stand at one position
front_once : (n : ℕ) (rs : List GivenFrame) (k l name : ℕ) (i j : Instr) → slice_get (frame_allocas n rs) k ≡ Some i
    → slice_get (frame_allocas n rs) l ≡ Some j → result_of i ≡ Some name → result_of j ≡ Some name → k ≡ l
front_once n [] k l name i j there to one other = absurd (cc)
front_once n (GivenFrame.Alloca size align ∷ rs) zero zero name i j there to one other = refl
front_once n (GivenFrame.Alloca size align ∷ rs) zero (suc l) name i j there to one other =
    let rest = front_alloca (n + 1) rs l j to in
    let same : Instr.Alloca n (array size (int 8)) align ≡ i = cc in
    let first : n ≡ name = one_name n name (ap result_of same ∙ one) in
    let second : rest.name ≡ name = one_name rest.name name (sym (ap result_of rest.is) ∙ other) in
    let from = rest.from in
    absurd (omega (arith, first, second, from))
front_once n (GivenFrame.Alloca size align ∷ rs) (suc k) zero name i j there to one other =
    let rest = front_alloca (n + 1) rs k i there in
    let same : Instr.Alloca n (array size (int 8)) align ≡ j = cc in
    let first : n ≡ name = one_name n name (ap result_of same ∙ other) in
    let second : rest.name ≡ name = one_name rest.name name (sym (ap result_of rest.is) ∙ one) in
    let from = rest.from in
    absurd (omega (arith, first, second, from))
front_once n (GivenFrame.Alloca size align ∷ rs) (suc k) (suc l) name i j there to one other =
    ap suc (front_once (n + 1) rs k l name i j there to one other)
front_once n (GivenFrame.Field base distance ∷ rs) k l name i j there to one other =
    front_once (n + 1) rs k l name i j there to one other

names_many : (word : List ℕ) (k : ℕ) → length (numbered_names word k) ≡ k
names_many word zero = refl
names_many word (suc k) =
    let rest = names_many word k in
    let long = length-append (numbered_names word k) (numbered word k ∷ []) in
    omega (arith, rest, long)

no_alloca : (name align : ℕ) (ty : Ty) (result : Option ℕ) (must_tail : Bool) (t : Option Ty) (callee : Callee)
    (args : List Arg) → Instr.Alloca name ty align ≡ Instr.Call result must_tail t callee args → ⊥
no_alloca name align ty result must_tail t callee args h = cc

-- a marker marks an alloca whose name isn't new
pub record MarksOld (h : Function) (low block at : ℕ) (args : List Arg) : Type 0 where
  pub marks : MarksAlloca h block at args
  pub old : marks.name < low

module _ (room : Rooms) (f : Function) (flat : (block at : ℕ) (i : Instr) → put_by (room block at i) ≡ 0) where
  abbrev h : Function
  h = elided_function room f

  abbrev low : ℕ
  low = length f.names

  abbrev Place : ℕ → ℕ → Instr → Type 0
  Place block at j = IsPlaced room f block at j

  place : (block at : ℕ) (j : Instr) → slice_get (instrs_of h block) at ≡ Some j → Place block at j
  place block at j there = placed room f flat block at j there

  -- ---- an alloca of the function

  pub alloca_there : (p name : ℕ) → IsAllocaAt f p name → IsAllocaAt h (ahead room f 0 + p) name
  alloca_there p name al = record {
    ty = al.ty;
    align = al.align;
    there = instr_there h 0 (ahead room f 0 + p) (Instr.Alloca name al.ty al.align)
        (own_there room f flat 0 p (Instr.Alloca name al.ty al.align) al.there
        ∙ ap AtInstr (same (room_at room f 0 p (Instr.Alloca name al.ty al.align))));
  }
    where
      same : (o : Option GivenFrame)
          → elided_instr (name_at room f 0 p) o (Instr.Alloca name al.ty al.align)
          ≡ Instr.Alloca name al.ty al.align
      same None = refl
      same (Some r) = refl

  -- an alloca is new and in front, or one of the function
  pub data IsOfWhich (at name : ℕ) : Type 0 where
    New : (j : Instr) → slice_get (allocas_ahead room f) at ≡ Some j → result_of j ≡ Some name → low ≤ name
        → IsOfWhich at name
    Old : (p : ℕ) → IsAllocaAt f p name → at ≡ ahead room f 0 + p → IsOfWhich at name

  front : (at : ℕ) (j : Instr) → slice_get (allocas_ahead room f) at ≡ Some j
      → IsFrontAlloca low (low + length (function_frames room f)) j
  front at j there = front_alloca low (function_frames room f) at j there

  front_from : (at name : ℕ) (j : Instr) → slice_get (allocas_ahead room f) at ≡ Some j → result_of j ≡ Some name
      → (low ≤ name) × (name < low + length (function_frames room f))
  front_from at name j there gives =
      let x = front at j there in
      let same : x.name ≡ name = one_name x.name name (sym (ap result_of x.is) ∙ gives) in
      let from = x.from in
      let below = x.below in
      (omega (arith, same, from), omega (arith, same, below))

  pub which : (at name : ℕ) → IsAllocaAt h at name → IsOfWhich at name
  which at name al = by (place 0 at (Instr.Alloca name al.ty al.align) al.there)
    where
      by : Place 0 at (Instr.Alloca name al.ty al.align) → IsOfWhich at name
      by (Ahead first there) =
          New (Instr.Alloca name al.ty al.align) there refl
          (front_from at name (Instr.Alloca name al.ty al.align) there refl).0
      by (Own p i there is same) =
          Old p
          (record {
            ty = al.ty;
            align = al.align;
            there = there
                ∙ ap Some (given_alloca (name_at room f 0 p) (room_at room f 0 p i) i name al.align al.ty (sym same));
          }) is

  -- ---- names

  module _ (names : NamesAllocas f)
      (sets : (block at v : ℕ) (i : Instr) → slice_get (instrs_of f block) at ≡ Some i → result_of i ≡ Some v
      → v < low) (phis_low : (block : ℕ) → Each (λ (p : Phi). p.result < low) (phis_at f block)) where
    old_low : (p name : ℕ) → IsAllocaAt f p name → name < low
    old_low p name al = names.low p name al

    once : (at name block to : ℕ) (i : Instr) → IsOfWhich at name → Place block to i → result_of i ≡ Some name
        → (block ≡ 0) × (to ≡ at)
    once at name block to i (New j there mine from) (Ahead first other) gives =
        (first, front_once low (function_frames room f) to at name i j other there gives mine)
    once at name block to i (New j there mine from) (Own p x other is same) gives =
        let lt = sets block p name x other
        (sym (given_result (name_at room f block p) (room_at room f block p x) x)
        ∙ (sym (ap result_of same) ∙ gives)) in
        absurd (omega (arith, lt, from))
    once at name block to i (Old p al is) (Ahead first other) gives =
        let lt = old_low p name al in
        let from = (front_from to name i other gives).0 in
        absurd (omega (arith, lt, from))
    once at name block to i (Old p al is) (Own q x other to_is same) gives =
        let one = names.once p name block q x al other
        (sym (given_result (name_at room f block q) (room_at room f block q x) x)
        ∙ (sym (ap result_of same) ∙ gives)) in
        (one.0, to_is ∙ ((λ n. ahead room f (one.0 n) + one.1 n) ∙ sym is))

    phis_past : (at name block : ℕ) → IsOfWhich at name
        → Each (λ (p : Phi). p.result ≡ name → ⊥) (phis_of (slice_get f.blocks block))
    phis_past at name block (New j there mine from) =
        each_as (λ (p : Phi). p.result < low) (λ (p : Phi). p.result ≡ name → ⊥)
        (λ p lt is. absurd (omega (arith, lt, is, from))) (phis_at f block) (phis_low block)
    phis_past at name block (Old p al is) = names.phis p name block al

    many : length h.names ≡ low + length (function_frames room f)
    many =
        let long = length-append f.names (numbered_names (codes "$c.callee.") (length (function_frames room f))) in
        let count = names_many (codes "$c.callee.") (length (function_frames room f)) in
        omega (arith, long, count)

    all_low : (at name : ℕ) → IsOfWhich at name → name < length h.names
    all_low at name (New j there mine from) =
        let lt = (front_from at name j there mine).1 in let n = many in omega (arith, lt, n)
    all_low at name (Old p al is) = let lt = old_low p name al in let n = many in omega (arith, lt, n)

    pub names_allocas : NamesAllocas h
    names_allocas = record {
      once = λ at name block to i al there gives. once at name block to i (which at name al) (place block to i there)
          gives;
      phis = λ at name block al.
          subst (Each (λ (p : Phi). p.result ≡ name → ⊥)) (sym ((has_code room f).phis block))
          (phis_past at name block (which at name al));
      low = λ at name al. all_low at name (which at name al);
    }

    -- ---- markers

    module _ (marks : MarksAllocas f) (block at : ℕ) (j : Intrinsic) (result : Option ℕ) (must_tail : Bool)
        (ty : Option Ty) (args : List Arg) (marker : (j ≡ Intrinsic.LifetimeStart) ⊎ (j ≡ Intrinsic.LifetimeEnd)) where
      by_place : Place block at (Instr.Call result must_tail ty (Callee.Intrinsic j) args)
          → MarksOld h low block at args
      by_place (Ahead first there) =
          let x = front at (Instr.Call result must_tail ty (Callee.Intrinsic j) args) there in
          absurd (no_alloca x.name x.align (array x.size (int 8)) result must_tail ty (Callee.Intrinsic j) args
          (sym x.is))
      by_place (Own p i there is same) =
          let own : i ≡ Instr.Call result must_tail ty (Callee.Intrinsic j) args
          = given_intrinsic (name_at room f block p) (room_at room f block p i) i result must_tail ty j args
          (sym same) in
          let x = marks block p j result must_tail ty args marker (there ∙ ap Some own) in
          record {
            marks = record {
              name = x.name;
              takes = x.takes;
              place = ahead room f 0 + x.place;
              alloca = alloca_there x.place x.name x.alloca;
              passed = λ first. passes x.place (x.passed first) first is;
            };
            old = old_low x.place x.name x.alloca;
          }
        where
          passes : (q : ℕ) → q < p → block ≡ 0 → at ≡ ahead room f block + p → ahead room f 0 + q < at
          passes q lt first is =
              let front : ahead room f block ≡ ahead room f 0 = ap (ahead room f) first in
              omega (arith, lt, front, is)

      pub marks_old : slice_get (instrs_of h block) at ≡ Some (Instr.Call result must_tail ty
          (Callee.Intrinsic j) args)
          → MarksOld h low block at args
      marks_old there =
          by_place (place block at (Instr.Call result must_tail ty (Callee.Intrinsic j) args) there)

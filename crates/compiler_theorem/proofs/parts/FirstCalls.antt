-- The first call of an intrinsic stands at the first of the points where it is called. So the promise of a coroutine is
-- an alloca (K10).
use Rattle.std.proofs.Common.{◌≡◌, ℕ, suc, ◌+◌, Bool, true, false, List, [], ◌∷◌, ◌++◌, refl, sym, ap, ◌∙◌, subst, arith}
use Rattle.std.specs.Prelude.{None, Option, Some, find, is_some, not, option_and_then, option_map, slice_get, if◌then◌else◌, ◌||◌}
use Rattle.compiler.specs.flow_solver.Paths.{IsListed}
use Rattle.compiler.specs.ir_base.declared.outcome.Place.{Place}
use Rattle.compiler.specs.ir_calls.Calls.{first_call, first_call_by, first_call_in, is_null, or_instr}
use Rattle.compiler.specs.ir_model.declared.instr.Instr.{Instr}
use Rattle.compiler.specs.ir_model.declared.module.Block.{Block}
use Rattle.compiler.specs.ir_model.declared.module.Function.{Function}
use Rattle.compiler.specs.ir_model.declared.operand.Intrinsic.{Intrinsic}
use Rattle.compiler.specs.ir_model.declared.operand.Operand.{Operand}
use Rattle.compiler.specs.ir_parts.Parts.{instr_place, place_if}
use Rattle.compiler.specs.ir_paths.Slots.{allocas_of, local_of, promise_of}
use Rattle.compiler.specs.ir_paths.Windows.{call_operand, instr_at, instr_in, is_call_of, points_from, points_in, points_where}
use Rattle.compiler.specs.ir_paths.declared.point.Point.{Point}
use Rattle.compiler.proofs.rule_laws.rules.source_rules.Slots.{found_listed}
use Rattle.compiler.specs.rule_shape.Places.{places_by, places_in, places_where}
use Rattle.compiler.specs.rule_shape.Promise.{is_wrong_promise, slot_named, slot_of, wrong_promise}

module _ (j : Intrinsic) where
  abbrev test : Instr → Bool
  test i = is_call_of j i

  -- ---- in a block, whose instructions are looked up by their position

  abbrev Row : (look : ℕ → Option Instr) (block : ℕ) → Option Instr → List Point → Type 0
  Row look block None ps = ps ≡ []
  Row look block (Some i) ps =
      (at : ℕ) × (rest : List Point) × (ps ≡ record { block = block; at = at } ∷ rest) × (look at ≡ Some i)

  row : (look : ℕ → Option Instr) (block at : ℕ) (is : List Instr) → ((k : ℕ) → look (at + k) ≡ slice_get is k)
      → Row look block (find test is) (points_from test block at is)
  row look block at [] h = refl
  row look block at (i ∷ is) h = on (test i) (row look block (suc at) is next)
    where
      next : (k : ℕ) → look (suc at + k) ≡ slice_get is k
      next k = let same : suc at + k ≡ at + suc k = omega arith in ap look same ∙ h (suc k)

      here : look at ≡ Some i
      here = let same : at ≡ at + 0 = omega arith in ap look same ∙ h 0

      on : (b : Bool) → Row look block (find test is) (points_from test block (suc at) is)
          → Row look block (if b then Some i else find test is)
          (if b then record { block = block; at = at } ∷ points_from test block (suc at) is
          else points_from test block (suc at) is)
      on true again = (at, points_from test block (suc at) is, refl, here)
      on false again = again

  -- ---- in a function

  abbrev Rows : Function → Option Instr → List Point → Type 0
  Rows f None ps = ps ≡ []
  Rows f (Some i) ps = (p : Point) × (rest : List Point) × (ps ≡ p ∷ rest) × (instr_at f p ≡ Some i)

  rows : (f : Function) (block : ℕ) (bs : List Block) → ((k : ℕ) → slice_get f.blocks (block + k) ≡ slice_get bs k)
      → Rows f (first_call_by j bs) (points_in test block bs)
  rows f block [] h = refl
  rows f block (b ∷ bs) h =
      on (first_call_in j b.instrs) (points_from test block 0 b.instrs)
      (row (λ at. instr_in (slice_get f.blocks block) at) block 0 b.instrs own) (first_call_by j bs)
      (points_in test (suc block) bs) (rows f (suc block) bs next)
    where
      own : (k : ℕ) → instr_in (slice_get f.blocks block) (0 + k) ≡ slice_get b.instrs k
      own k =
          let same : block ≡ block + 0 = omega arith in
          let first : 0 + k ≡ k = omega arith in
          ap (instr_in (slice_get f.blocks block)) first
          ∙ ap (λ (o : Option Block). instr_in o k) (ap (slice_get f.blocks) same ∙ h 0)

      next : (k : ℕ) → slice_get f.blocks (suc block + k) ≡ slice_get bs k
      next k = let same : suc block + k ≡ block + suc k = omega arith in ap (slice_get f.blocks) same ∙ h (suc k)

      on : (o : Option Instr) (ps : List Point) → Row (λ at. instr_in (slice_get f.blocks block) at) block o ps
          → (z : Option Instr) (qs : List Point) → Rows f z qs → Rows f (or_instr o z) (ps ++ qs)
      on None ps e z qs r = subst (λ (xs : List Point). Rows f z (xs ++ qs)) (sym e) r
      on (Some i) ps x z qs r =
          (record { block = block; at = x.0 }, x.1 ++ qs, ap (λ (xs : List Point). xs ++ qs) x.2, x.3)

  -- ---- it has a place

  abbrev HasPlace : Option Instr → List Place → Type 0
  HasPlace None ps = Unit {0}
  HasPlace (Some i) ps = (q : Place) × (rest : List Place) × (ps ≡ q ∷ rest)

  place_in : (func block at : ℕ) (is : List Instr) → HasPlace (find test is) (places_in test func block at is)
  place_in func block at [] = tt
  place_in func block at (i ∷ is) = on (test i) (place_in func block (at + 1) is)
    where
      on : (b : Bool) → HasPlace (find test is) (places_in test func block (at + 1) is)
          → HasPlace (if b then Some i else find test is)
          ((if b then instr_place func block at ∷ [] else []) ++ places_in test func block (at + 1) is)
      on true again = (instr_place func block at, places_in test func block (at + 1) is, refl)
      on false again = again

  place_by : (func block : ℕ) (bs : List Block) → HasPlace (first_call_by j bs) (places_by test func block bs)
  place_by func block [] = tt
  place_by func block (b ∷ bs) =
      on (first_call_in j b.instrs) _ _ (place_in func block _ b.instrs) (first_call_by j bs)
      (place_by func (block + 1) bs)
    where
      on : (o : Option Instr) (ps qs : List Place) → HasPlace o ps → (z : Option Instr) → HasPlace z qs
          → HasPlace (or_instr o z) (ps ++ qs)
      on None [] qs h z r = r
      on None (p ∷ ps) qs h None r = tt
      on None (p ∷ ps) qs h (Some i) r = (p, ps ++ qs, refl)
      on (Some i) ps qs h z r = (h.0, h.1 ++ qs, ap (λ (xs : List Place). xs ++ qs) h.2)

-- ---- the promise

abbrev id : Instr → Bool
id i = is_call_of Intrinsic.CoroId i

abbrev given : Option Instr → Option ℕ
given o = option_and_then (λ (i : Instr). local_of (call_operand i 1)) o

pub promise_listed : (k : ℕ) (f : Function) → f.coroutine ≡ true → wrong_promise k f ≡ None → (a : ℕ)
    → promise_of f ≡ Some a → IsListed a (allocas_of f)
promise_listed k f coroutine kept a is =
    on (first_call Intrinsic.CoroId f) (points_where id f) (rows Intrinsic.CoroId f 0 f.blocks from_first)
    (places_where id k f) (place_by Intrinsic.CoroId k 0 f.blocks) right is
  where
    from_first : (n : ℕ) → slice_get f.blocks (0 + n) ≡ slice_get f.blocks n
    from_first n = let same : 0 + n ≡ n = omega arith in ap (slice_get f.blocks) same

    right : option_and_then (place_if (is_wrong_promise f (option_map (λ i. call_operand i 1)
        (first_call Intrinsic.CoroId f)))) (slice_get (places_where id k f) 0) ≡ None
    right = sym (ap (λ (b : Bool). if b then option_and_then (place_if (is_wrong_promise f
        (option_map (λ i. call_operand i 1) (first_call Intrinsic.CoroId f)))) (slice_get (places_where id k f) 0)
        else None) coroutine) ∙ kept

    is_there : (b : Bool) (q : Place) → place_if (not b) q ≡ None → b ≡ true
    is_there true q e = refl
    is_there false q e = absurd (cc)

    by_operand : (x : Operand) (q : Place) → place_if (not (is_null x || is_some (slot_named f x))) q ≡ None
        → local_of x ≡ Some a → IsListed a (allocas_of f)
    by_operand (Operand.Local v) q e d =
        let same : v ≡ a = cc in
        subst (λ (z : ℕ). IsListed z (allocas_of f)) same
        (found_listed (allocas_of f) v (is_there (is_some (slot_of f v)) q e))
    by_operand (Operand.Global n) q e d = absurd (cc)
    by_operand (Operand.Number n) q e d = absurd (cc)
    by_operand Operand.True q e d = absurd (cc)
    by_operand Operand.False q e d = absurd (cc)
    by_operand Operand.Null q e d = absurd (cc)
    by_operand Operand.None q e d = absurd (cc)
    by_operand Operand.Poison q e d = absurd (cc)

    on : (o : Option Instr) (ps : List Point) → Rows Intrinsic.CoroId f o ps → (qs : List Place)
        → HasPlace Intrinsic.CoroId o qs
        → option_and_then (place_if (is_wrong_promise f (option_map (λ i. call_operand i 1) o))) (slice_get qs 0) ≡ None
        → given (option_and_then (instr_at f) (slice_get ps 0)) ≡ Some a → IsListed a (allocas_of f)
    on None ps e qs h w d =
        let none : given (option_and_then (instr_at f) (slice_get ps 0)) ≡ None
        = ap (λ (xs : List Point). given (option_and_then (instr_at f) (slice_get xs 0))) e in
        absurd (cc)
    on (Some i) ps x qs h w d =
        by_operand (call_operand i 1) h.0
        (sym (ap (λ (xs : List Place). option_and_then (place_if (is_wrong_promise f (Some (call_operand i 1))))
        (slice_get xs 0)) h.2) ∙ w)
        (sym (ap (λ (xs : List Point). given (option_and_then (instr_at f) (slice_get xs 0))) x.2 ∙ ap given x.3) ∙ d)

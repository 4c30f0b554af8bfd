-- The calls of blocks tell which of their instructions pass tests of calls, and where the first one stands.
use Rattle.std.proofs.Common.{◌≡◌, ℕ, suc, ◌+◌, Bool, true, false, List, [], ◌∷◌, ◌++◌, length, refl, sym, ap, ◌∙◌}
use Rattle.std.proofs.lemmas.Bool.{false≢true}
use Rattle.std.proofs.lemmas.List.Folds.{list_any-append}
use Rattle.std.specs.List.{list_any}
use Rattle.std.specs.Prelude.{None, Option, Some, filter, if◌then◌else◌, map, option_map, slice_get, ◌&&◌, ◌||◌}
use Rattle.compiler.specs.ir_model.Names.{same_intrinsic}
use Rattle.compiler.specs.ir_model.declared.instr.Instr.{Instr}
use Rattle.compiler.specs.ir_model.declared.module.Block.{Block}
use Rattle.compiler.specs.ir_model.declared.module.Function.{Function}
use Rattle.compiler.specs.ir_model.declared.operand.Arg.{Arg}
use Rattle.compiler.specs.ir_model.declared.operand.Callee.{Callee}
use Rattle.compiler.specs.ir_model.declared.operand.Intrinsic.{Intrinsic}
use Rattle.compiler.specs.ir_model.declared.operand.Operand.{Operand}
use Rattle.compiler.specs.ir_paths.Windows.{call_operand, call_result, is_call_of, operand_at, points_from, points_in, points_where}
use Rattle.compiler.specs.ir_paths.declared.point.Point.{Point}
use Rattle.compiler.specs.pass_front.Front.{is_alloca, is_no_alloca, with_allocas_first}
use Rattle.compiler.specs.rule_laws.rules.woven_shape.Calls.{ShapingCall, call_at, calls_in, calls_of_block, first_named, is_shaping, shaping_call}

or_false : (b : Bool) → (b || false) ≡ b
or_false true = refl
or_false false = refl

-- the intrinsic is one whose calls are told, with their first operand
pub record IsTold (x : Intrinsic) : Type 0 where
  pub others : (y : Intrinsic) → is_shaping y ≡ false → same_intrinsic x y ≡ false
  pub first : (y : Intrinsic) (args : List Arg) → same_intrinsic x y ≡ true → first_named y args ≡ operand_at args 0

pub save_told : IsTold Intrinsic.CoroSave
save_told = record { others = others; first = first }
  where
    others : (y : Intrinsic) → is_shaping y ≡ false → same_intrinsic Intrinsic.CoroSave y ≡ false
    others Intrinsic.CoroSave e = absurd (cc)
    others y e = refl

    first : (y : Intrinsic) (args : List Arg) → same_intrinsic Intrinsic.CoroSave y ≡ true
        → first_named y args ≡ operand_at args 0
    first Intrinsic.CoroSave args e = refl
    first y args e = absurd (cc)

pub end_told : IsTold Intrinsic.CoroEnd
end_told = record { others = others; first = first }
  where
    others : (y : Intrinsic) → is_shaping y ≡ false → same_intrinsic Intrinsic.CoroEnd y ≡ false
    others Intrinsic.CoroEnd e = absurd (cc)
    others y e = refl

    first : (y : Intrinsic) (args : List Arg) → same_intrinsic Intrinsic.CoroEnd y ≡ true
        → first_named y args ≡ operand_at args 0
    first Intrinsic.CoroEnd args e = refl
    first y args e = absurd (cc)

pub suspend_told : IsTold Intrinsic.CoroSuspend
suspend_told = record { others = others; first = first }
  where
    others : (y : Intrinsic) → is_shaping y ≡ false → same_intrinsic Intrinsic.CoroSuspend y ≡ false
    others Intrinsic.CoroSuspend e = absurd (cc)
    others y e = refl

    first : (y : Intrinsic) (args : List Arg) → same_intrinsic Intrinsic.CoroSuspend y ≡ true
        → first_named y args ≡ operand_at args 0
    first Intrinsic.CoroSuspend args e = refl
    first y args e = absurd (cc)

-- a test of calls of an intrinsic by their result and their first operand
module _ (x : Intrinsic) (told : IsTold x) (test : Option ℕ → Operand → Bool) where
  abbrev pub passes : Instr → Bool
  passes i = is_call_of x i && test (call_result i) (call_operand i 0)

  abbrev pub passed : ShapingCall → Bool
  passed c = same_intrinsic x c.intrinsic && test c.result c.first

  pub one_passes : (b : Block) (at : ℕ) (i : Instr) → list_any passed (call_at b at i) ≡ passes i
  one_passes b at (Instr.Call r must_tail ty (Callee.Intrinsic y) args) =
      on (is_shaping y) refl (same_intrinsic x y) refl
    where
      on : (s : Bool) → is_shaping y ≡ s → (t : Bool) → same_intrinsic x y ≡ t
          → list_any passed (if s then shaping_call b at y r args ∷ [] else [])
          ≡ (same_intrinsic x y && test r (operand_at args 0))
      on true e true d =
          or_false (same_intrinsic x y && test r (first_named y args))
          ∙ ap (λ (o : Operand). same_intrinsic x y && test r o) (told.first y args d)
      on true e false d =
          or_false (same_intrinsic x y && test r (first_named y args))
          ∙ ap (λ (t : Bool). t && test r (first_named y args)) d
          ∙ sym (ap (λ (t : Bool). t && test r (operand_at args 0)) d)
      on false e t d = sym (ap (λ (t : Bool). t && test r (operand_at args 0)) (told.others y e))
  one_passes b at (Instr.Call r must_tail ty (Callee.Named n) args) = refl
  one_passes b at (Instr.Call r must_tail ty (Callee.Allocator n) args) = refl
  one_passes b at (Instr.Call r must_tail ty (Callee.Local n) args) = refl
  one_passes b at (Instr.Gep r inbounds ty base indices) = refl
  one_passes b at (Instr.Binary r op flags ty left right) = refl
  one_passes b at (Instr.Icmp r pred ty left right) = refl
  one_passes b at (Instr.Select r c left right) = refl
  one_passes b at (Instr.Cast r op nneg arg to) = refl
  one_passes b at (Instr.Alloca r ty align) = refl
  one_passes b at (Instr.Load r ty address align) = refl
  one_passes b at (Instr.Store arg address align) = refl

  pub no_alloca_passes : (i : Instr) → is_alloca i ≡ true → passes i ≡ false
  no_alloca_passes (Instr.Alloca r ty align) e = refl
  no_alloca_passes (Instr.Call r must_tail ty callee args) e = absurd (false≢true e)
  no_alloca_passes (Instr.Gep r inbounds ty base indices) e = absurd (false≢true e)
  no_alloca_passes (Instr.Binary r op flags ty left right) e = absurd (false≢true e)
  no_alloca_passes (Instr.Icmp r pred ty left right) e = absurd (false≢true e)
  no_alloca_passes (Instr.Select r c left right) e = absurd (false≢true e)
  no_alloca_passes (Instr.Cast r op nneg arg to) e = absurd (false≢true e)
  no_alloca_passes (Instr.Load r ty address align) e = absurd (false≢true e)
  no_alloca_passes (Instr.Store arg address align) e = absurd (false≢true e)

-- all calls of an intrinsic
and_true : (b : Bool) → (b && true) ≡ b
and_true true = refl
and_true false = refl

module _ (x : Intrinsic) (told : IsTold x) where
  abbrev pub of_kind : ShapingCall → Bool
  of_kind c = same_intrinsic x c.intrinsic

  pub one_kind : (b : Block) (at : ℕ) (i : Instr) → list_any of_kind (call_at b at i) ≡ is_call_of x i
  one_kind b at i =
      (λ j. list_any (λ (c : ShapingCall). sym (and_true (same_intrinsic x c.intrinsic)) j) (call_at b at i))
      ∙ one_passes x told (λ r o. true) b at i ∙ and_true (is_call_of x i)

  pub no_alloca_kind : (i : Instr) → is_alloca i ≡ true → is_call_of x i ≡ false
  no_alloca_kind i e = sym (and_true (is_call_of x i)) ∙ no_alloca_passes x told (λ r o. true) i e

-- ---- blocks in which an instruction passes

-- the calls of an instruction tell whether it passes
module _ (on_instr : Instr → Bool) where
  abbrev pub has_one : Block → Bool
  has_one b = list_any on_instr b.instrs

  module _ (on_call : ShapingCall → Bool) (one : (b : Block) (at : ℕ) (i : Instr)
      → list_any on_call (call_at b at i) ≡ on_instr i) where
    by_calls : (b : Block) (at : ℕ) (is : List Instr) → list_any on_call (calls_in b at is) ≡ list_any on_instr is
    by_calls b at [] = refl
    by_calls b at (i ∷ is) =
        list_any-append on_call (call_at b at i) (calls_in b (at + 1) is)
        ∙ (λ j. one b at i j || by_calls b (at + 1) is j)

    pub block_called : (b : Block) → list_any on_call (calls_of_block b) ≡ has_one b
    block_called b = by_calls b (length b.phis) b.instrs

    all_called : (bs : List Block) → map (list_any on_call) (map calls_of_block bs) ≡ map has_one bs
    all_called [] = refl
    all_called (b ∷ bs) = λ j. block_called b j ∷ all_called bs j

    pub same_ones : (bs cs : List Block) → map calls_of_block cs ≡ map calls_of_block bs
        → map has_one cs ≡ map has_one bs
    same_ones bs cs e = sym (all_called cs) ∙ ap (map (list_any on_call)) e ∙ all_called bs

  -- allocas that stand in front don't pass
  module _ (none : (i : Instr) → is_alloca i ≡ true → on_instr i ≡ false) where
    allocas_none : (is : List Instr) → list_any on_instr (filter is_alloca is) ≡ false
    allocas_none [] = refl
    allocas_none (i ∷ is) = on (is_alloca i) refl (allocas_none is)
      where
        on : (t : Bool) → is_alloca i ≡ t → list_any on_instr (filter is_alloca is) ≡ false
            → list_any on_instr (if t then i ∷ filter is_alloca is else filter is_alloca is) ≡ false
        on true e rest = ap (λ (b : Bool). b || list_any on_instr (filter is_alloca is)) (none i e) ∙ rest
        on false e rest = rest

    others_all : (is : List Instr) → list_any on_instr (filter is_no_alloca is) ≡ list_any on_instr is
    others_all [] = refl
    others_all (i ∷ is) = on (is_alloca i) refl (others_all is)
      where
        on : (t : Bool) → is_alloca i ≡ t → list_any on_instr (filter is_no_alloca is) ≡ list_any on_instr is
            → list_any on_instr (if (if t then false else true) then i ∷ filter is_no_alloca is
            else filter is_no_alloca is) ≡ (on_instr i || list_any on_instr is)
        on true e rest = rest ∙ sym (ap (λ (b : Bool). b || list_any on_instr is) (none i e))
        on false e rest = ap (λ (b : Bool). on_instr i || b) rest

    pub in_front : (is : List Instr)
        → list_any on_instr (filter is_alloca is ++ filter is_no_alloca is) ≡ list_any on_instr is
    in_front is =
        list_any-append on_instr (filter is_alloca is) (filter is_no_alloca is)
        ∙ ap (λ (b : Bool). b || list_any on_instr (filter is_no_alloca is)) (allocas_none is) ∙ others_all is

    pub front_ones : (bs : List Block) → map has_one (with_allocas_first bs) ≡ map has_one bs
    front_ones [] = refl
    front_ones (b ∷ bs) = λ j. in_front b.instrs j ∷ map has_one bs

-- ---- the block of the first point at which a test passes

abbrev first_flag : ℕ → List Bool → Option ℕ
first_flag n [] = None
first_flag n (b ∷ bs) = if b then Some n else first_flag (suc n) bs

abbrev block_of : Option Point → Option ℕ
block_of o = option_map (λ (p : Point). p.block) o

module _ (test : Instr → Bool) where
  in_instrs : (block at : ℕ) (is : List Instr) (rest : List Point)
      → block_of (slice_get (points_from test block at is ++ rest) 0)
      ≡ (if list_any test is then Some block else block_of (slice_get rest 0))
  in_instrs block at [] rest = refl
  in_instrs block at (i ∷ is) rest = on (test i) (in_instrs block (suc at) is rest)
    where
      later : List Point
      later = points_from test block (suc at) is

      on : (t : Bool) → block_of (slice_get (later ++ rest) 0)
          ≡ (if list_any test is then Some block else block_of (slice_get rest 0))
          → block_of (slice_get ((if t then record { block = block; at = at } ∷ later else later) ++ rest) 0)
          ≡ (if t || list_any test is then Some block else block_of (slice_get rest 0))
      on true again = refl
      on false again = again

  in_blocks : (n : ℕ) (bs : List Block) → block_of (slice_get (points_in test n bs) 0) ≡ first_flag n (map (has_one test) bs)
  in_blocks n [] = refl
  in_blocks n (b ∷ bs) =
      in_instrs n 0 b.instrs (points_in test (suc n) bs)
      ∙ ap (λ (o : Option ℕ). if has_one test b then Some n else o) (in_blocks (suc n) bs)

  pub record HasFirst (g : Function) (block : ℕ) : Type 0 where
    pub point : Point
    pub is_first : slice_get (points_where test g) 0 ≡ Some point
    pub is_block : point.block ≡ block

  -- functions whose blocks pass alike have their first ones in one block
  pub first_same : (f g : Function) → map (has_one test) g.blocks ≡ map (has_one test) f.blocks → (s : Point)
      → slice_get (points_where test f) 0 ≡ Some s → HasFirst g s.block
  first_same f g same s e = on (slice_get (points_where test g) 0) refl blocks
    where
      blocks : block_of (slice_get (points_where test g) 0) ≡ Some s.block
      blocks =
          in_blocks 0 g.blocks ∙ ap (first_flag 0) same ∙ sym (in_blocks 0 f.blocks)
          ∙ ap block_of e

      on : (o : Option Point) → slice_get (points_where test g) 0 ≡ o → block_of o ≡ Some s.block → HasFirst g s.block
      on None d h = absurd (cc)
      on (Some p) d h = let at : p.block ≡ s.block = cc in record { point = p; is_first = d; is_block = at }

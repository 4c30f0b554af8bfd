-- The promise and what markers mark are allocas (rules K10 and K13), so no values of coro.frame.
use Rattle.std.proofs.Common.{◌≡◌, ◌⊎◌, inl, inr, ℕ, zero, suc, ◌<◌, Bool, true, false, List, [], ◌∷◌, length, get_or, refl, sym, ap, ◌∙◌, subst, arith}
use Rattle.std.proofs.lemmas.List.Quantifiers.{position-Some}
use Rattle.std.specs.List.{position}
use Rattle.std.specs.Prelude.{IsTrue, Some, None, Option, flat_map, is_some, not, option_and_then, slice_get, ◌==◌, ◌||◌, ◌&&◌, if◌then◌else◌}
use Rattle.ir_laws.proofs.facts.Truth.{equal_numbers}
use Rattle.ir_laws.proofs.paths.renamed.Outside.{where_pass}
use Rattle.ir_laws.specs.facts.renamed.Regular.{passes}
use Rattle.ir_laws.proofs.paths.source_rules.Locals.{listed_either}
use Rattle.ir_laws.proofs.paths.source_rules.Makers.{HasFrame}
use Rattle.ir_laws.specs.flow_solver.Paths.{IsListed}
use Rattle.ir_laws.specs.ir_model.Layout.{size_of}
use Rattle.ir_laws.specs.ir_model.Names.{is_local}
use Rattle.ir_laws.specs.ir_model.Ty.{Ty}
use Rattle.ir_laws.specs.ir_model.declared.instr.Instr.{Instr}
use Rattle.ir_laws.specs.ir_model.declared.module.Block.{Block}
use Rattle.ir_laws.specs.ir_model.declared.module.Function.{Function}
use Rattle.ir_laws.specs.ir_model.declared.module.Module.{Module}
use Rattle.ir_laws.specs.ir_model.declared.operand.Arg.{Arg}
use Rattle.ir_laws.specs.ir_model.declared.operand.Callee.{Callee}
use Rattle.ir_laws.specs.ir_model.declared.operand.Intrinsic.{Intrinsic}
use Rattle.ir_laws.specs.ir_model.declared.operand.Operand.{Operand}
use Rattle.ir_laws.proofs.ir_paths.Search.{same_point-itself}
use Rattle.ir_laws.specs.ir_paths.Paths.{has_point, same_point}
use Rattle.ir_laws.specs.ir_paths.Slots.{allocas_in, allocas_of, is_in_args, local_of, promise_of}
use Rattle.ir_laws.specs.ir_paths.Windows.{call_operand, instr_at, instr_in, is_call_of, points_where}
use Rattle.ir_laws.specs.ir_paths.declared.point.Point.{Point}
use Rattle.rule_locals.specs.Markers.{block_size, is_marker, is_size_or_all, made_size, marks, marks_size, marks_slot, slot_size}
use Rattle.ir_laws.specs.ir_locals.Tables.{first_in, or_first}
use Rattle.ir_laws.specs.run_step.Step.{is_lifetime}

-- ---- allocas

record IsAllocaAt (o : Option Instr) (v : ℕ) : Type 0 where
  ty : Ty
  align : ℕ
  stands : o ≡ Some (Instr.Alloca v ty align)

in_allocas : (is : List Instr) (v : ℕ) → IsListed v (allocas_in is) → (k : ℕ) × IsAllocaAt (slice_get is k) v
in_allocas [] v h = absurd h
in_allocas (Instr.Alloca name ty align ∷ is) v (inl e) = (0, record { ty = ty; align = align; stands = ap (λ (n : ℕ). Some (Instr.Alloca n ty align)) (sym e) })
in_allocas (Instr.Alloca name ty align ∷ is) v (inr h) = let x = in_allocas is v h in (suc x.0, x.1)
in_allocas (Instr.Binary r op flags ty a b ∷ is) v h = let x = in_allocas is v h in (suc x.0, x.1)
in_allocas (Instr.Icmp r pred ty a b ∷ is) v h = let x = in_allocas is v h in (suc x.0, x.1)
in_allocas (Instr.Select r c a b ∷ is) v h = let x = in_allocas is v h in (suc x.0, x.1)
in_allocas (Instr.Cast r op nneg arg to ∷ is) v h = let x = in_allocas is v h in (suc x.0, x.1)
in_allocas (Instr.Load r ty p align ∷ is) v h = let x = in_allocas is v h in (suc x.0, x.1)
in_allocas (Instr.Store arg p align ∷ is) v h = let x = in_allocas is v h in (suc x.0, x.1)
in_allocas (Instr.Gep r inbounds ty base indices ∷ is) v h = let x = in_allocas is v h in (suc x.0, x.1)
in_allocas (Instr.Call r must_tail ty callee args ∷ is) v h = let x = in_allocas is v h in (suc x.0, x.1)

in_blocks : (bs : List Block) (v : ℕ) → IsListed v (flat_map (λ (b : Block). allocas_in b.instrs) bs) → (k : ℕ) × ((at : ℕ) × IsAllocaAt (instr_in (slice_get bs k) at) v)
in_blocks [] v h = absurd h
in_blocks (b ∷ bs) v h = on (listed_either v (allocas_in b.instrs) (flat_map (λ (c : Block). allocas_in c.instrs) bs) h) (in_blocks bs v)
  where
    on : IsListed v (allocas_in b.instrs) ⊎ IsListed v (flat_map (λ (c : Block). allocas_in c.instrs) bs) → (IsListed v (flat_map (λ (c : Block). allocas_in c.instrs) bs) → (k : ℕ) × ((at : ℕ) × IsAllocaAt (instr_in (slice_get bs k) at) v)) → (k : ℕ) × ((at : ℕ) × IsAllocaAt (instr_in (slice_get (b ∷ bs) k) at) v)
    on (inl here) rest = (0, in_allocas b.instrs v here)
    on (inr later) rest = let x = rest later in (suc x.0, x.1)

-- an alloca of the function makes the value
pub record HasAlloca (f : Function) (v : ℕ) : Type 0 where
  pub point : Point
  pub ty : Ty
  pub align : ℕ
  pub stands : instr_at f point ≡ Some (Instr.Alloca v ty align)

pub alloca_of : (f : Function) (v : ℕ) → IsListed v (allocas_of f) → HasAlloca f v
alloca_of f v h =
    let x = in_blocks f.blocks v h in
    record { point = record { block = x.0; at = x.1.0 }; ty = x.1.1.ty; align = x.1.1.align; stands = x.1.1.stands }

get_listed : (xs : List ℕ) (i d : ℕ) → i < length xs → IsListed (get_or xs i d) xs
get_listed [] i d lt = absurd (omega arith)
get_listed (x ∷ xs) zero d lt = inl refl
get_listed (x ∷ xs) (suc i) d lt = inr (get_listed xs i d (omega arith))

pub found_listed : (xs : List ℕ) (v : ℕ) → is_some (position (λ a. a == v) xs) ≡ true → IsListed v xs
found_listed xs v e = on (position (λ a. a == v) xs) refl e
  where
    on : (o : Option ℕ) → position (λ a. a == v) xs ≡ o → is_some o ≡ true → IsListed v xs
    on None d k = absurd (cc)
    on (Some i) d k =
        let x = position-Some (λ a. a == v) xs i 0 d in
        subst (λ (n : ℕ). IsListed n xs) (equal_numbers (get_or xs i 0) v x.1) (get_listed xs i 0 x.0)

-- ---- the promise

pub record HasId (f : Function) (v : ℕ) : Type 0 where
  pub point : Point
  pub instr : Instr
  pub stands : instr_at f point ≡ Some instr
  pub is_call : is_call_of Intrinsic.CoroId instr ≡ true
  pub operand : call_operand instr 1 ≡ Operand.Local v

local_is : (x : Operand) (v : ℕ) → local_of x ≡ Some v → x ≡ Operand.Local v
local_is (Operand.Local n) v e = let same : n ≡ v = cc in ap Operand.Local same
local_is (Operand.Global n) v e = absurd (cc)
local_is (Operand.Number z) v e = absurd (cc)
local_is Operand.True v e = absurd (cc)
local_is Operand.False v e = absurd (cc)
local_is Operand.Null v e = absurd (cc)
local_is Operand.None v e = absurd (cc)
local_is Operand.Poison v e = absurd (cc)

pub first_has : (ps : List Point) (q : Point) → slice_get ps 0 ≡ Some q → has_point ps q ≡ true
first_has [] q e = absurd (cc)
first_has (p ∷ ps) q e = let same : p ≡ q = cc in ap (λ (b : Bool). b || has_point ps q) (ap (same_point q) same ∙ same_point-itself q)

pub id_of : (f : Function) (v : ℕ) → promise_of f ≡ Some v → HasId f v
id_of f v e = on (slice_get (points_where (is_call_of Intrinsic.CoroId) f) 0) refl e
  where
    standing : (q : Point) → has_point (points_where (is_call_of Intrinsic.CoroId) f) q ≡ true → (o : Option Instr) → instr_at f q ≡ o → option_and_then (λ i. local_of (call_operand i 1)) o ≡ Some v → HasId f v
    standing q has None d k = absurd (cc)
    standing q has (Some i) d k =
        record {
          point = q;
          instr = i;
          stands = d;
          is_call = sym (ap (passes (is_call_of Intrinsic.CoroId)) d) ∙ where_pass (is_call_of Intrinsic.CoroId) f q has;
          operand = local_is (call_operand i 1) v k;
        }

    on : (o : Option Point) → slice_get (points_where (is_call_of Intrinsic.CoroId) f) 0 ≡ o → option_and_then (λ i. local_of (call_operand i 1)) (option_and_then (instr_at f) o) ≡ Some v → HasId f v
    on None d k = absurd (cc)
    on (Some q) d k = standing q (first_has (points_where (is_call_of Intrinsic.CoroId) f) q d) (instr_at f q) refl k

pub listed_first : {A : Type 0} (xs : List A) (a : A) → IsListed a xs → (y : A) × (slice_get xs 0 ≡ Some y)
listed_first [] a h = absurd h
listed_first (x ∷ xs) a h = (x, refl)

-- ---- markers

-- the instruction marks no value of coro.frame
abbrev pub MarksNone : Function → Instr → Type 0
MarksNone f (Instr.Call result must_tail ty callee args) = IsTrue (is_lifetime callee) → (v : ℕ) → IsTrue (is_in_args v args) → HasFrame f v → ⊥
MarksNone f i = Unit {0}

pub lifetime_marker : (callee : Callee) → is_lifetime callee ≡ true → is_marker callee ≡ true
lifetime_marker (Callee.Intrinsic Intrinsic.LifetimeStart) e = refl
lifetime_marker (Callee.Intrinsic Intrinsic.LifetimeEnd) e = refl
lifetime_marker _ e = absurd (cc)

pub marks_right : (a b : Bool) → (a && not b) ≡ false → a ≡ true → b ≡ true
marks_right true true e d = refl
marks_right true false e d = absurd (cc)
marks_right false b e d = absurd (cc)

number_alone : (x : Operand) (s v : ℕ) → is_size_or_all x s ≡ true → is_local v x ≡ false
number_alone (Operand.Number z) s v e = refl
number_alone (Operand.Local n) s v e = absurd (cc)
number_alone (Operand.Global n) s v e = refl
number_alone Operand.True s v e = refl
number_alone Operand.False s v e = refl
number_alone Operand.Null s v e = refl
number_alone Operand.None s v e = refl
number_alone Operand.Poison s v e = refl

or_none : (a b : Bool) → IsTrue (a || (b || false)) → a ≡ false → b ≡ true
or_none true b h e = absurd (cc)
or_none false true h e = refl
or_none false false h e = absurd (cc)

module _ (sizes : ℕ → Option ℕ) (v : ℕ) where
  of_slot : (x y : Operand) → marks_slot sizes x y ≡ true → IsTrue (is_local v x || (is_local v y || false)) → (s : ℕ) × (sizes v ≡ Some s)
  of_slot x (Operand.Local w) e h = on (sizes w) refl e
    where
      on : (o : Option ℕ) → sizes w ≡ o → marks_size x o ≡ true → (s : ℕ) × (sizes v ≡ Some s)
      on None d k = absurd (cc)
      on (Some s) d k = (s, ap sizes (equal_numbers v w (or_none (is_local v x) (v == w) h (number_alone x s v k))) ∙ d)
  of_slot x (Operand.Global n) e h = absurd (cc)
  of_slot x (Operand.Number z) e h = absurd (cc)
  of_slot x Operand.True e h = absurd (cc)
  of_slot x Operand.False e h = absurd (cc)
  of_slot x Operand.Null e h = absurd (cc)
  of_slot x Operand.None e h = absurd (cc)
  of_slot x Operand.Poison e h = absurd (cc)

  pub of_args : (args : List Arg) → marks sizes args ≡ true → IsTrue (is_in_args v args) → (s : ℕ) × (sizes v ≡ Some s)
  of_args [] e h = absurd (cc)
  of_args (a ∷ []) e h = absurd (cc)
  of_args (a ∷ b ∷ []) e h = of_slot a.value b.value e h
  of_args (a ∷ b ∷ c ∷ args) e h = absurd (cc)

module _ (m : Module) (v s : ℕ) where
  sized : (i : Instr) → made_size m i v ≡ Some s → IsAllocaAt (Some i) v
  sized (Instr.Alloca name ty align) e = on (name == v) refl e
    where
      on : (b : Bool) → (name == v) ≡ b → (if b then Some (size_of m ty) else None) ≡ Some s → IsAllocaAt (Some (Instr.Alloca name ty align)) v
      on true d k = record { ty = ty; align = align; stands = ap (λ (n : ℕ). Some (Instr.Alloca n ty align)) (equal_numbers name v d) }
      on false d k = absurd (cc)
  sized (Instr.Binary r op flags ty a b) e = absurd (cc)
  sized (Instr.Icmp r pred ty a b) e = absurd (cc)
  sized (Instr.Select r c a b) e = absurd (cc)
  sized (Instr.Cast r op nneg arg to) e = absurd (cc)
  sized (Instr.Load r ty p align) e = absurd (cc)
  sized (Instr.Store arg p align) e = absurd (cc)
  sized (Instr.Gep r inbounds ty base indices) e = absurd (cc)
  sized (Instr.Call r must_tail ty callee args) e = absurd (cc)

  sized_in : (is : List Instr) → first_in (made_size m) is v ≡ Some s → (k : ℕ) × IsAllocaAt (slice_get is k) v
  sized_in [] e = absurd (cc)
  sized_in (i ∷ is) e = on (made_size m i v) refl e (sized_in is)
    where
      on : (o : Option ℕ) → made_size m i v ≡ o → or_first o (first_in (made_size m) is v) ≡ Some s → (first_in (made_size m) is v ≡ Some s → (k : ℕ) × IsAllocaAt (slice_get is k) v) → (k : ℕ) × IsAllocaAt (slice_get (i ∷ is) k) v
      on (Some n) d k rest = (0, sized i (d ∙ k))
      on None d k rest = let x = rest k in (suc x.0, x.1)

  sized_by : (bs : List Block) → first_in (block_size m) bs v ≡ Some s → (k : ℕ) × ((at : ℕ) × IsAllocaAt (instr_in (slice_get bs k) at) v)
  sized_by [] e = absurd (cc)
  sized_by (b ∷ bs) e = on (block_size m b v) refl e (sized_by bs)
    where
      on : (o : Option ℕ) → block_size m b v ≡ o → or_first o (first_in (block_size m) bs v) ≡ Some s → (first_in (block_size m) bs v ≡ Some s → (k : ℕ) × ((at : ℕ) × IsAllocaAt (instr_in (slice_get bs k) at) v)) → (k : ℕ) × ((at : ℕ) × IsAllocaAt (instr_in (slice_get (b ∷ bs) k) at) v)
      on (Some n) d k rest = (0, sized_in b.instrs (d ∙ k))
      on None d k rest = let x = rest k in (suc x.0, x.1)

  pub sized_alloca : (f : Function) → slot_size m f v ≡ Some s → HasAlloca f v
  sized_alloca f e =
      let x = sized_by f.blocks e in
      record { point = record { block = x.0; at = x.1.0 }; ty = x.1.1.ty; align = x.1.1.align; stands = x.1.1.stands }

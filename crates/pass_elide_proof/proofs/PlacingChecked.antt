-- What a function's instructions keep can be tested.
use Rattle.std.proofs.Common.{◌≡◌, ◌+◌, ◌^◌, inl, inr, ℕ, zero, suc, Bool, true, false, List, [], ◌∷◌, length, Option, refl, sym, ap, ◌∙◌, subst, arith, ◌==◌, ◌&&◌, ◌||◌}
use Rattle.std.specs.Option.{option_map_or}
use Rattle.std.specs.Prelude.{None, Some, is_none, is_some, nat_lt, not, slice_get}
use Rattle.std.proofs.lemmas.Bool.{ltb-true}
use Rattle.std.specs.List.{list_all}
use Rattle.elide_shape.specs.Calls.{deals_by}
use Rattle.elide_shape.specs.declared.calls.Dealing.{Dealing}
use Rattle.pass_elide_proof.specs.Elision.{Elision, Shape, function_in}
use Rattle.pass_elide_proof.specs.Ordinary.{AreSteady, HasSteadyIndices}
use Rattle.pass_elide_proof.specs.Places.{instrs_in, instrs_of}
use Rattle.pass_elide_proof.specs.Placing.{KeepsInstrs, ReadsPlain, SetsPlain, is_own, is_test}
use Rattle.pass_proofs.proofs.ir_laws.facts.Truth.{and_first, and_second, not_equal}
use Rattle.pass_proofs.proofs.pass_kept_proof.Read.{read_used}
use Rattle.pass_proofs.specs.flow_solver.Paths.{IsListed}
use Rattle.pass_proofs.specs.ir_model.Layout.{size_of}
use Rattle.pass_proofs.specs.ir_model.Ty.{Ty}
use Rattle.pass_proofs.specs.ir_model.declared.instr.Instr.{Instr}
use Rattle.pass_proofs.specs.ir_model.declared.module.Block.{Block}
use Rattle.pass_proofs.specs.ir_model.declared.module.Function.{Function}
use Rattle.pass_proofs.specs.ir_model.declared.module.Module.{Module}
use Rattle.pass_proofs.specs.ir_model.declared.operand.Arg.{Arg}
use Rattle.pass_proofs.specs.ir_model.declared.operand.Callee.{Callee}
use Rattle.pass_proofs.specs.ir_model.declared.operand.Intrinsic.{Intrinsic}
use Rattle.pass_proofs.specs.ir_parts.Contents.{instr_operands, result_of}
use Rattle.pass_proofs.specs.ir_paths.Windows.{is_call_of}
use Rattle.pass_proofs.specs.rule_uses.Uses.{locals_in}
use Rattle.pass_proofs.specs.run_laws.embedded.Related.{HasBytes}
use Rattle.pass_proofs.specs.run_memory.Memory.{access_bytes}
use Rattle.pass_proofs.specs.run_step.Reads.{reads}
use Rattle.pass_proofs.specs.run_step.Step.{AtInstr, is_alignment}
use Rattle.pass_proofs.specs.run_step.Values.{access_of}

-- ---- each instruction of a function passes a test

abbrev pub every : (ℕ → ℕ → Instr → Bool) → (block at : ℕ) → List Instr → Bool
every test block at [] = true
every test block at (i ∷ is) = test block at i && every test block (at + 1) is

abbrev pub every_in : (ℕ → ℕ → Instr → Bool) → (block : ℕ) → List Block → Bool
every_in test block [] = true
every_in test block (b ∷ bs) = every test block 0 b.instrs && every_in test (block + 1) bs

module _ (test : ℕ → ℕ → Instr → Bool) where
  at_every : (block at : ℕ) (is : List Instr) (k p : ℕ) (i : Instr) → every test block at is ≡ true
      → slice_get is k ≡ Some i → p ≡ at + k → test block p i ≡ true
  at_every block at [] k p i h e is = absurd (cc)
  at_every block at (x ∷ xs) zero p i h e is =
      let same : x ≡ i = cc in
      let here : at ≡ p = omega (arith, is) in
      subst (λ (y : Instr). test block p y ≡ true) same
      (subst (λ (n : ℕ). test block n x ≡ true) here (and_first (test block at x) (every test block (at + 1) xs) h))
  at_every block at (x ∷ xs) (suc k) p i h e is =
      at_every block (at + 1) xs k p i (and_second (test block at x) (every test block (at + 1) xs) h) e
      (omega (arith, is))

  in_every : (block : ℕ) (bs : List Block) (k p at : ℕ) (i : Instr) → every_in test block bs ≡ true
      → slice_get (instrs_in (slice_get bs k)) at ≡ Some i → p ≡ block + k → test p at i ≡ true
  in_every block [] k p at i h e is = absurd (cc)
  in_every block (b ∷ bs) zero p at i h e is =
      let here : block ≡ p = omega (arith, is) in
      subst (λ (n : ℕ). test n at i ≡ true) here
      (at_every block 0 b.instrs at at i (and_first (every test block 0 b.instrs) (every_in test (block + 1) bs) h) e
      (omega arith))
  in_every block (b ∷ bs) (suc k) p at i h e is =
      in_every (block + 1) bs k p at i (and_second (every test block 0 b.instrs) (every_in test (block + 1) bs) h) e
      (omega (arith, is))

  pub tested_at : (f : Function) (block at : ℕ) (i : Instr) → every_in test 0 f.blocks ≡ true
      → slice_get (instrs_of f block) at ≡ Some i → test block at i ≡ true
  tested_at f block at i h there = in_every 0 f.blocks block block at i h there (omega arith)

-- ---- tests

pub unset : (b : Bool) → not b ≡ true → b ≡ false
unset true e = absurd (cc)
unset false e = refl

pub or_other : (a b : Bool) → (a || b) ≡ true → a ≡ false → b ≡ true
or_other true b h e = absurd (cc)
or_other false b h e = h

pub none_of : {A : Type 0} (o : Option A) → is_none o ≡ true → o ≡ None
none_of None e = refl
none_of (Some x) e = absurd (cc)

some_not : {A : Type 0} (o : Option A) → o ≡ None → is_some o ≡ false
some_not None e = refl
some_not (Some x) e = absurd (cc)

listed_all : (p : ℕ → Bool) (xs : List ℕ) (v : ℕ) → list_all p xs ≡ true → IsListed v xs → p v ≡ true
listed_all p [] v h k = absurd k
listed_all p (x ∷ xs) v h (inl e) = ap p e ∙ and_first (p x) (list_all p xs) h
listed_all p (x ∷ xs) v h (inr k) = listed_all p xs v (and_second (p x) (list_all p xs) h) k

-- ---- what is read

abbrev pub read_ok : Shape → ℕ → Instr → ℕ → Bool
read_ok x block i v =
    not (x.need v) && (is_none (x.tested v)
    && ((deals_by Dealing.Frees i || (is_test x i || not (x.freed v)))
    && ((is_call_of Intrinsic.CoroBegin i || (is_some (x.waits block) || not (x.made v)))
    && (is_some (x.frees block) || not (x.passed v)))))

abbrev pub reads_ok : Shape → ℕ → ℕ → Instr → Bool
reads_ok x block at i = list_all (read_ok x block i) (locals_in (instr_operands i))

module _ (x : Shape) (block : ℕ) (i : Instr) (v : ℕ) (h : read_ok x block i v ≡ true) where
  abbrev of_freed : Bool
  of_freed = deals_by Dealing.Frees i || (is_test x i || not (x.freed v))

  abbrev of_made : Bool
  of_made = is_call_of Intrinsic.CoroBegin i || (is_some (x.waits block) || not (x.made v))

  abbrev of_passed : Bool
  of_passed = is_some (x.frees block) || not (x.passed v)

  first : (is_none (x.tested v) && (of_freed && (of_made && of_passed))) ≡ true
  first = and_second (not (x.need v)) (is_none (x.tested v) && (of_freed && (of_made && of_passed))) h

  second : (of_freed && (of_made && of_passed)) ≡ true
  second = and_second (is_none (x.tested v)) (of_freed && (of_made && of_passed)) first

  third : (of_made && of_passed) ≡ true
  third = and_second of_freed (of_made && of_passed) second

  read_is : ReadsPlain x block i v
  read_is = record {
    need = unset (x.need v)
        (and_first (not (x.need v)) (is_none (x.tested v) && (of_freed && (of_made && of_passed))) h);
    tested = none_of (x.tested v) (and_first (is_none (x.tested v)) (of_freed && (of_made && of_passed)) first);
    freed = λ frees tests. unset (x.freed v)
        (or_other (is_test x i) (not (x.freed v))
        (or_other (deals_by Dealing.Frees i) (is_test x i || not (x.freed v))
        (and_first of_freed (of_made && of_passed) second) frees) tests);
    made = λ begins waits. unset (x.made v)
        (or_other (is_some (x.waits block)) (not (x.made v))
        (or_other (is_call_of Intrinsic.CoroBegin i) (is_some (x.waits block) || not (x.made v))
        (and_first of_made of_passed third) begins) (some_not (x.waits block) waits));
    passed = λ frees. unset (x.passed v)
        (or_other (is_some (x.frees block)) (not (x.passed v)) (and_second of_made of_passed third)
        (some_not (x.frees block) frees));
  }

-- ---- what is set

abbrev pub is_other_name : ℕ → Option ℕ → Bool
is_other_name v None = true
is_other_name v (Some name) = not (name == v)

abbrev pub set_ok : Function → Shape → (block at : ℕ) → Instr → ℕ → Bool
set_ok f x block at i v =
    nat_lt v (length f.names) && ((is_call_of Intrinsic.CoroAlloc i || not (x.need v))
    && ((is_call_of Intrinsic.CoroFree i || not (x.freed v))
    && ((is_test x i || is_none (x.tested v)) && is_other_name v (x.holds block at))))

abbrev pub sets_ok : Function → Shape → (block at : ℕ) → Instr → Bool
sets_ok f x block at i = option_map_or (set_ok f x block at i) (result_of i) true

other_name : (v name : ℕ) (o : Option ℕ) → is_other_name v o ≡ true → o ≡ Some name → name ≡ v → ⊥
other_name v name None h e same = absurd (cc)
other_name v name (Some n) h e same =
    let one : n ≡ v = let first : n ≡ name = cc in first ∙ same in
    let is = unset (n == v) h in
    not_equal n v is one

module _ (f : Function) (x : Shape) (block at : ℕ) (i : Instr) (v : ℕ) (h : set_ok f x block at i v ≡ true) where
  abbrev of_need : Bool
  of_need = is_call_of Intrinsic.CoroAlloc i || not (x.need v)

  abbrev of_free : Bool
  of_free = is_call_of Intrinsic.CoroFree i || not (x.freed v)

  abbrev of_test : Bool
  of_test = is_test x i || is_none (x.tested v)

  abbrev of_held : Bool
  of_held = is_other_name v (x.holds block at)

  one : (of_need && (of_free && (of_test && of_held))) ≡ true
  one = and_second (nat_lt v (length f.names)) (of_need && (of_free && (of_test && of_held))) h

  two : (of_free && (of_test && of_held)) ≡ true
  two = and_second of_need (of_free && (of_test && of_held)) one

  three : (of_test && of_held) ≡ true
  three = and_second of_free (of_test && of_held) two

  set_is : SetsPlain f x block at i v
  set_is = record {
    low = ltb-true v (length f.names)
        (and_first (nat_lt v (length f.names)) (of_need && (of_free && (of_test && of_held))) h);
    need = λ asks. unset (x.need v)
        (or_other (is_call_of Intrinsic.CoroAlloc i) (not (x.need v))
        (and_first of_need (of_free && (of_test && of_held)) one) asks);
    freed = λ frees. unset (x.freed v)
        (or_other (is_call_of Intrinsic.CoroFree i) (not (x.freed v)) (and_first of_free (of_test && of_held) two)
        frees);
    tested = λ tests. none_of (x.tested v)
        (or_other (is_test x i) (is_none (x.tested v)) (and_first of_test of_held three) tests);
    kept = λ name held. other_name v name (x.holds block at) (and_second of_test of_held three) held;
  }

sets_is : (f : Function) (x : Shape) (block at : ℕ) (i : Instr) (v : ℕ) (o : Option ℕ)
    → option_map_or (set_ok f x block at i) o true ≡ true → o ≡ Some v → SetsPlain f x block at i v
sets_is f x block at i v None h e = absurd (cc)
sets_is f x block at i v (Some u) h e =
    let same : u ≡ v = cc in
    set_is f x block at i v (ap (set_ok f x block at i) (sym same) ∙ h)

-- ---- indices, bytes, allocas, and intrinsics of coroutines

abbrev pub is_single : List Arg → Bool
is_single [] = true
is_single (a ∷ []) = true
is_single (a ∷ (b ∷ args)) = false

abbrev pub steady_ok : ℕ → ℕ → Instr → Bool
steady_ok block at (Instr.Gep name inbounds ty base indices) = is_single indices
steady_ok block at _ = true

abbrev pub bytes_ok : ℕ → ℕ → Instr → Bool
bytes_ok block at (Instr.Load name ty p align) = nat_lt 0 (access_bytes (access_of ty))
bytes_ok block at (Instr.Store arg p align) = nat_lt 0 (access_bytes (access_of arg.ty))
bytes_ok block at _ = true

abbrev pub alloca_ok : Module → ℕ → ℕ → Instr → Bool
alloca_ok m block at (Instr.Alloca name ty align) = nat_lt (size_of m ty) (2 ^ 64) && is_alignment align
alloca_ok m block at _ = true

abbrev pub own_ok : Function → ℕ → ℕ → Instr → Bool
own_ok f block at (Instr.Call result must_tail ty (Callee.Intrinsic j) args) = not (is_own j) || f.coroutine
own_ok f block at _ = true

one_index : (m : Module) (ty : Ty) (indices : List Arg) → is_single indices ≡ true → AreSteady m ty indices
one_index m ty [] h = tt
one_index m ty (a ∷ []) h = tt
one_index m ty (a ∷ (b ∷ args)) h = absurd (cc)

steady_is : (m : Module) (block at : ℕ) (i : Instr) → steady_ok block at i ≡ true → HasSteadyIndices m i
steady_is m block at (Instr.Gep name inbounds ty base indices) h = one_index m ty indices h
steady_is m block at _ h = tt

bytes_is : (block at : ℕ) (i : Instr) → bytes_ok block at i ≡ true → HasBytes (AtInstr i)
bytes_is block at (Instr.Load name ty p align) h = ltb-true 0 (access_bytes (access_of ty)) h
bytes_is block at (Instr.Store arg p align) h = ltb-true 0 (access_bytes (access_of arg.ty)) h
bytes_is block at _ h = tt

-- ---- a function that passes

pub record PassesTests (e : Elision) (func : ℕ) : Type 0 where
  pub reads : every_in (reads_ok (e.shape func)) 0 (function_in e func).blocks ≡ true
  pub sets : every_in (sets_ok (function_in e func) (e.shape func)) 0 (function_in e func).blocks ≡ true
  pub steady : every_in steady_ok 0 (function_in e func).blocks ≡ true
  pub bytes : every_in bytes_ok 0 (function_in e func).blocks ≡ true
  pub allocas : every_in (alloca_ok e.code) 0 (function_in e func).blocks ≡ true
  pub own : every_in (own_ok (function_in e func)) 0 (function_in e func).blocks ≡ true

module _ (e : Elision) (func : ℕ) (h : PassesTests e func) where
  abbrev f : Function
  f = function_in e func

  own_is : (j : Intrinsic) → (not (is_own j) || f.coroutine) ≡ true → is_own j ≡ true → f.coroutine ≡ true
  own_is j passes is = or_other (not (is_own j)) f.coroutine passes (ap not is)

  pub keeps_instrs : KeepsInstrs e func
  keeps_instrs = record {
    takes = λ block at v i reached there is.
        read_is (e.shape func) block i v
        (listed_all (read_ok (e.shape func) block i) (locals_in (instr_operands i)) v
        (tested_at (reads_ok (e.shape func)) f block at i h.reads there) (read_used v i is));
    sets = λ block at v i there is.
        sets_is f (e.shape func) block at i v (result_of i)
        (tested_at (sets_ok f (e.shape func)) f block at i h.sets there) is;
    steady = λ block at i there. steady_is e.code block at i (tested_at steady_ok f block at i h.steady there);
    bytes = λ block at i there. bytes_is block at i (tested_at bytes_ok f block at i h.bytes there);
    allocas = λ block at name align ty there.
        let passes = tested_at (alloca_ok e.code) f block at (Instr.Alloca name ty align) h.allocas there in
        record {
          small = ltb-true (size_of e.code ty) (2 ^ 64)
              (and_first (nat_lt (size_of e.code ty) (2 ^ 64)) (is_alignment align) passes);
          aligned = and_second (nat_lt (size_of e.code ty) (2 ^ 64)) (is_alignment align) passes;
        };
    own = λ block at result must_tail ty j args there is.
        own_is j
        (tested_at (own_ok f) f block at (Instr.Call result must_tail ty (Callee.Intrinsic j) args) h.own there) is;
  }

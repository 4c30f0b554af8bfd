-- An instruction is of one shape with itself where its operands stand.
use Rattle.std.proofs.Common.{◌≡◌, ℕ, inl, inr, Bool, true, false, List, [], ◌∷◌, Option, Some, None, refl, subst, ◌||◌, arith}
use Rattle.std.specs.Prelude.{IsTrue, ◌==◌}
use Rattle.std.specs.List.{list_any}
use Rattle.run_memory.specs.declared.pointer.Value.{Value}
use Rattle.flow_solver.specs.Paths.{IsListed}
use Rattle.ir_model.specs.Names.{is_local}
use Rattle.ir_model.specs.Ty.{Ty}
use Rattle.ir_model.specs.declared.instr.Case.{Case}
use Rattle.ir_model.specs.declared.instr.Instr.{Instr}
use Rattle.ir_model.specs.declared.instr.Terminator.{Terminator}
use Rattle.ir_model.specs.declared.operand.Arg.{Arg}
use Rattle.ir_model.specs.declared.operand.Callee.{Callee}
use Rattle.ir_model.specs.declared.operand.Intrinsic.{Intrinsic}
use Rattle.ir_model.specs.declared.operand.Operand.{Operand}
use Rattle.run_step.specs.Reads.{reads_at}
use Rattle.run_step.specs.Step.{AtInstr, AtTerm, Context, Fetched, Nowhere}
use Rattle.run_step.specs.Values.{Env, operand_value}
use Rattle.run_laws.specs.changed.Changed.{Each, operands_at, values_of}
use Rattle.run_laws.specs.transfer.Alone.{IsReadBy}
use Rattle.run_laws.specs.transfer.Shapes.{Alloca, ArgStays, Binary, Branch, Call, CaseStays, Cast, Direct, Empty, Gep, Icmp, Indirect, InstrStays, Jump, Load, Pair, Pairwise, Return, ReturnVoid, Select, StaysAt, Store, Switch, TermStays, Unreachable}
use Rattle.run_laws.specs.transfer.Transfer.{StandsFor, looks_at}

-- the operands but for the values of a switch's cases
abbrev pub looked_at : Fetched → List Operand
looked_at (AtTerm (Terminator.Switch arg default cases)) = arg.value ∷ []
looked_at here = operands_at here

module _ (S : Operand → Operand → Type 0) where
  arg_itself : (a : Arg) → S a.value a.value → ArgStays S a a
  arg_itself a h = record { ty = refl; value = h }

  args_itself : (args : List Arg) → Each (λ a. S a a) (values_of args) → Pairwise (ArgStays S) args args
  args_itself [] h = Empty
  args_itself (a ∷ args) h = Pair a a args args (arg_itself a h.0) (args_itself args h.1)

  cases_itself : (cases : List Case) → Pairwise (CaseStays (λ n. n)) cases cases
  cases_itself [] = Empty
  cases_itself (k ∷ cases) = Pair k k cases cases (record { arg = refl; target = refl }) (cases_itself cases)

  instr_itself : (i : Instr) → Each (λ a. S a a) (looked_at (AtInstr i)) → InstrStays S i i
  instr_itself (Instr.Binary r op flags ty a b) h = Binary r op flags ty a b a b h.0 h.1.0
  instr_itself (Instr.Icmp r pred ty a b) h = Icmp r pred ty a b a b h.0 h.1.0
  instr_itself (Instr.Select r x a b) h = Select r x x a b a b h.0 (arg_itself a h.1.0) (arg_itself b h.1.1.0)
  instr_itself (Instr.Cast r op nneg a to) h = Cast r op nneg a a to (arg_itself a h.0)
  instr_itself (Instr.Alloca r ty align) h = Alloca r ty align
  instr_itself (Instr.Load r ty p align) h = Load r ty p p align h.0
  instr_itself (Instr.Store a p align) h = Store a a p p align (arg_itself a h.0) h.1.0
  instr_itself (Instr.Gep r inbounds ty p indices) h = Gep r inbounds ty p p indices indices h.0
      (args_itself indices h.1)
  instr_itself (Instr.Call r must_tail ty (Callee.Named n) args) h = Call r must_tail ty _ _ args args
      (Direct (Callee.Named n) refl) (args_itself args h)
  instr_itself (Instr.Call r must_tail ty (Callee.Allocator n) args) h = Call r must_tail ty _ _ args args
      (Direct (Callee.Allocator n) refl) (args_itself args h)
  instr_itself (Instr.Call r must_tail ty (Callee.Intrinsic n) args) h = Call r must_tail ty _ _ args args
      (Direct (Callee.Intrinsic n) refl) (args_itself args h)
  instr_itself (Instr.Call r must_tail ty (Callee.Local v) args) h = Call r must_tail ty _ _ args args
      (Indirect v v h.0) (args_itself args h.1)

  term_itself : (t : Terminator) → Each (λ a. S a a) (looked_at (AtTerm t)) → TermStays S (λ n. n) t t
  term_itself (Terminator.Jump label) h = Jump label
  term_itself (Terminator.Branch x a b) h = Branch x x a b h.0
  term_itself (Terminator.Switch arg default cases) h = Switch arg arg default cases cases (arg_itself arg h.0)
      (cases_itself cases)
  term_itself (Terminator.Ret None) h = ReturnVoid
  term_itself (Terminator.Ret (Some arg)) h = Return arg arg (arg_itself arg h.0)
  term_itself Terminator.Unreachable h = Unreachable

  pub here_itself : (here : Fetched) → Each (λ a. S a a) (looked_at here) → StaysAt S (λ n. n) here here
  here_itself Nowhere h = tt
  here_itself (AtInstr i) h = instr_itself i h
  here_itself (AtTerm t) h = term_itself t h

-- ---- names that stand among the operands are read

or_left : (a b : Bool) → a ≡ true → (a || b) ≡ true
or_left true b e = refl
or_left false b e = absurd (cc)

or_right : (a b : Bool) → b ≡ true → (a || b) ≡ true
or_right true b e = refl
or_right false b e = e

local_is : (v : ℕ) (a : Operand) → Operand.Local v ≡ a → is_local v a ≡ true
local_is v a e = subst (λ z. is_local v z ≡ true) e same
  where
    same : (v == v) ≡ true
    same = grind arith

local_in : (v : ℕ) (args : List Arg) → IsListed (Operand.Local v) (values_of args)
    → list_any (λ (a : Arg). is_local v a.value) args ≡ true
local_in v [] h = absurd h
local_in v (a ∷ args) (inl e) = or_left (is_local v a.value) _ (local_is v a.value e)
local_in v (a ∷ args) (inr h) = or_right (is_local v a.value) _ (local_in v args h)

module _ (v : ℕ) where
  one : (a : Operand) → IsListed (Operand.Local v) (a ∷ []) → is_local v a ≡ true
  one a (inl e) = local_is v a e
  one a (inr h) = absurd h

  two : (a b : Operand) → IsListed (Operand.Local v) (a ∷ b ∷ []) → (is_local v a || is_local v b) ≡ true
  two a b (inl e) = or_left (is_local v a) (is_local v b) (local_is v a e)
  two a b (inr h) = or_right (is_local v a) (is_local v b) (one b h)

  three : (a b c : Operand) → IsListed (Operand.Local v) (a ∷ b ∷ c ∷ [])
      → (is_local v a || (is_local v b || is_local v c)) ≡ true
  three a b c (inl e) = or_left (is_local v a) _ (local_is v a e)
  three a b c (inr h) = or_right (is_local v a) _ (two b c h)

  more : (a : Operand) (args : List Arg) → IsListed (Operand.Local v) (a ∷ values_of args)
      → (is_local v a || list_any (λ (b : Arg). is_local v b.value) args) ≡ true
  more a args (inl e) = or_left (is_local v a) _ (local_is v a e)
  more a args (inr h) = or_right (is_local v a) _ (local_in v args h)

  intrinsic_reads : (i : Intrinsic) (r : Option ℕ) (must_tail : Bool) (ty : Option Ty) (args : List Arg)
      → looks_at (AtInstr (Instr.Call r must_tail ty (Callee.Intrinsic i) args)) ≡ true
      → IsListed (Operand.Local v) (values_of args)
      → IsTrue (reads_at v (AtInstr (Instr.Call r must_tail ty (Callee.Intrinsic i) args)))
  intrinsic_reads Intrinsic.LifetimeStart r must_tail ty args e h = local_in v args h
  intrinsic_reads Intrinsic.LifetimeEnd r must_tail ty args e h = local_in v args h
  intrinsic_reads Intrinsic.MemcpyI64 r must_tail ty args e h = local_in v args h
  intrinsic_reads Intrinsic.MemcpyI32 r must_tail ty args e h = local_in v args h
  intrinsic_reads _ r must_tail ty args e h = absurd (cc)

  instr_reads : (i : Instr) → looks_at (AtInstr i) ≡ true → IsListed (Operand.Local v) (looked_at (AtInstr i))
      → IsTrue (reads_at v (AtInstr i))
  instr_reads (Instr.Binary r op flags ty a b) e h = two a b h
  instr_reads (Instr.Icmp r pred ty a b) e h = two a b h
  instr_reads (Instr.Select r x a b) e h = three x a.value b.value h
  instr_reads (Instr.Cast r op nneg a to) e h = one a.value h
  instr_reads (Instr.Alloca r ty align) e h = absurd h
  instr_reads (Instr.Load r ty p align) e h = one p h
  instr_reads (Instr.Store a p align) e h = two a.value p h
  instr_reads (Instr.Gep r inbounds ty p indices) e h = more p indices h
  instr_reads (Instr.Call r must_tail ty (Callee.Named n) args) e h = local_in v args h
  instr_reads (Instr.Call r must_tail ty (Callee.Allocator a) args) e h = local_in v args h
  instr_reads (Instr.Call r must_tail ty (Callee.Intrinsic i) args) e h = intrinsic_reads i r must_tail ty args e h
  instr_reads (Instr.Call r must_tail ty (Callee.Local f) args) e h = more (Operand.Local f) args h

  term_reads : (t : Terminator) → IsListed (Operand.Local v) (looked_at (AtTerm t)) → IsTrue (reads_at v (AtTerm t))
  term_reads (Terminator.Jump label) h = absurd h
  term_reads (Terminator.Branch x a b) h = one x h
  term_reads (Terminator.Switch arg default cases) h = one arg.value h
  term_reads (Terminator.Ret None) h = absurd h
  term_reads (Terminator.Ret (Some arg)) h = one arg.value h
  term_reads Terminator.Unreachable h = absurd h

  here_reads : (here : Fetched) → looks_at here ≡ true → IsListed (Operand.Local v) (looked_at here)
      → IsTrue (reads_at v here)
  here_reads Nowhere e h = absurd h
  here_reads (AtInstr i) e h = instr_reads i e h
  here_reads (AtTerm t) e h = term_reads t h

each_listed : {A : Type 0} (P : A → Type 0) (xs : List A) → ((x : A) → IsListed x xs → P x) → Each P xs
each_listed P [] f = tt
each_listed P (x ∷ xs) f = (f x (inl refl), each_listed P xs (λ y h. f y (inr h)))

module _ (R : Value → Value
    → Type 0) (c d : Context) (env other : Env) (here : Fetched) (read : IsReadBy R c d env other here) where
  operand_stands : (a : Operand) → looks_at here ≡ true → IsListed a (looked_at here) → (ty : Ty)
      → R (operand_value c.code env ty a) (operand_value d.code other ty a)
  operand_stands (Operand.Local v) e h ty = read.reads v (here_reads v here e h)
  operand_stands (Operand.Global n) e h ty = read.others (Operand.Global n) ty tt
  operand_stands (Operand.Number z) e h ty = read.others (Operand.Number z) ty tt
  operand_stands Operand.True e h ty = read.others Operand.True ty tt
  operand_stands Operand.False e h ty = read.others Operand.False ty tt
  operand_stands Operand.Null e h ty = read.others Operand.Null ty tt
  operand_stands Operand.None e h ty = read.others Operand.None ty tt
  operand_stands Operand.Poison e h ty = read.others Operand.Poison ty tt

  pub reads_itself : StaysAt (StandsFor (looks_at here) R c d env other) (λ n. n) here here
  reads_itself = here_itself (StandsFor (looks_at here) R c d env other) here (each_listed _ (looked_at here)
      (λ a h. on a h (looks_at here) refl))
    where
      on : (a : Operand) → IsListed a (looked_at here) → (t : Bool) → looks_at here ≡ t
          → StandsFor t R c d env other a a
      on a h true e = operand_stands a e h
      on a h false e = tt

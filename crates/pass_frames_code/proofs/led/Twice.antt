-- What is fetched by one table and then by another has the shape of what it was.
use Rattle.std.proofs.Common.{◌≡◌, ℕ, Bool, List, [], ◌∷◌, ◌++◌, refl, ap}
use Rattle.std.specs.Prelude.{None, Option, Some}
use Rattle.pass_proofs.specs.ir_model.declared.instr.Instr.{Instr}
use Rattle.pass_proofs.specs.ir_model.declared.operand.Arg.{Arg}
use Rattle.pass_proofs.specs.ir_model.declared.operand.Callee.{Callee}
use Rattle.pass_proofs.specs.ir_model.declared.operand.Operand.{Operand}
use Rattle.pass_proofs.specs.ir_model.Ty.{Ty}
use Rattle.pass_proofs.specs.ir_parts.Contents.{arg_operands, callee_operands, instr_operands}
use Rattle.pass_proofs.specs.pass_fetch.Fetching.{callee_by, fetch_of, fetched_arg, fetched_args, fetched_callee, fetched_operand, next_after, next_by, operand_by}
use Rattle.pass_proofs.specs.pass_fetch.Instrs.{with_fetched}
use Rattle.pass_proofs.specs.pass_fetch.declared.fetch.Fetch.{Fetch}
use Rattle.pass_frames_code.specs.Led.{fetched_all}
use Rattle.pass_proofs.specs.run_laws.transfer.Shapes.{Alloca, ArgStays, Binary, Call, CalleeStays, Cast, Direct, Empty, Gep, Icmp, Indirect, InstrStays, Load, Pair, Pairwise, Select, Store}

-- ---- the operands of what is fetched

module _ (t : List (Option Fetch)) where
  args_fetched : (n : ℕ) (args : List Arg) → arg_operands (fetched_args t n args) ≡ fetched_all t n (arg_operands args)
  args_fetched n [] = refl
  args_fetched n (a ∷ args) =
      ap (λ (xs : List Operand). fetched_operand t n a.value ∷ xs) (args_fetched (next_after t n a.value) args)

  call_fetched : (n v : ℕ) (o : Option Fetch) (args : List Arg)
      → callee_operands (callee_by n o (Callee.Local v)) ++ arg_operands (fetched_args t (next_by n o) args)
      ≡ operand_by n o (Operand.Local v) ∷ fetched_all t (next_by n o) (arg_operands args)
  call_fetched n v None args = ap (λ (xs : List Operand). Operand.Local v ∷ xs) (args_fetched n args)
  call_fetched n v (Some f) args = ap (λ (xs : List Operand). Operand.Local n ∷ xs) (args_fetched (next_by n
      (Some f)) args)

  pub operands_fetched : (n : ℕ) (i : Instr) → instr_operands (with_fetched t n i) ≡ fetched_all t n (instr_operands i)
  operands_fetched n (Instr.Binary r op flags ty a b) = refl
  operands_fetched n (Instr.Icmp r pred ty a b) = refl
  operands_fetched n (Instr.Select r y a b) = refl
  operands_fetched n (Instr.Cast r op nneg a to) = refl
  operands_fetched n (Instr.Alloca r ty align) = refl
  operands_fetched n (Instr.Load r ty p align) = refl
  operands_fetched n (Instr.Store a p align) = refl
  operands_fetched n (Instr.Gep r inbounds ty base indices) =
      ap (λ (xs : List Operand). fetched_operand t n base ∷ xs) (args_fetched (next_after t n base) indices)
  operands_fetched n (Instr.Call r must_tail ty (Callee.Named name) args) = args_fetched n args
  operands_fetched n (Instr.Call r must_tail ty (Callee.Allocator name) args) = args_fetched n args
  operands_fetched n (Instr.Call r must_tail ty (Callee.Intrinsic name) args) = args_fetched n args
  operands_fetched n (Instr.Call r must_tail ty (Callee.Local v) args) =
      call_fetched n v (fetch_of t (Operand.Local v)) args

-- ---- fetched twice, it is related, by any relation, to what it was

module _ (t u : List (Option Fetch)) (R : Operand → Operand → Type 0) where
  abbrev pub AreTwice : (n m : ℕ) → List Operand → Type 0
  AreTwice n m [] = Unit {0}
  AreTwice n m (a ∷ xs) =
      R a (fetched_operand u m (fetched_operand t n a))
      × AreTwice (next_after t n a) (next_after u m (fetched_operand t n a)) xs

  args_twice : (n m : ℕ) (args : List Arg) → AreTwice n m (arg_operands args)
      → Pairwise (ArgStays R) args (fetched_args u m (fetched_args t n args))
  args_twice n m [] h = Empty
  args_twice n m (a ∷ args) h =
      Pair a (fetched_arg u m (fetched_arg t n a)) args
      (fetched_args u (next_after u m (fetched_operand t n a.value)) (fetched_args t (next_after t n a.value) args))
      (record { ty = refl; value = h.0 })
      (args_twice (next_after t n a.value) (next_after u m (fetched_operand t n a.value)) args h.1)

  callee_twice : (m v k : ℕ) (o : Option Fetch) → R (Operand.Local v) (operand_by m o (Operand.Local k))
      → CalleeStays R (Callee.Local v) (callee_by m o (Callee.Local k))
  callee_twice m v k None h = Indirect v k h
  callee_twice m v k (Some f) h = Indirect v m h

  call_twice : (n m v : ℕ) (o : Option Fetch) (r : Option ℕ) (ty : Option Ty) (must_tail : Bool) (args : List Arg)
      → R (Operand.Local v) (fetched_operand u m (operand_by n o (Operand.Local v)))
      → AreTwice (next_by n o) (next_after u m (operand_by n o (Operand.Local v))) (arg_operands args)
      → InstrStays R (Instr.Call r must_tail ty (Callee.Local v) args)
      (with_fetched u m
      (Instr.Call r must_tail ty (callee_by n o (Callee.Local v)) (fetched_args t (next_by n o) args)))
  call_twice n m v None r ty must_tail args h rest =
      Call r must_tail ty (Callee.Local v) (fetched_callee u m (Callee.Local v)) args
      (fetched_args u (next_after u m (Operand.Local v)) (fetched_args t n args))
      (callee_twice m v v (fetch_of u (Operand.Local v)) h)
      (args_twice n (next_after u m (Operand.Local v)) args rest)
  call_twice n m v (Some f) r ty must_tail args h rest =
      Call r must_tail ty (Callee.Local v) (fetched_callee u m (Callee.Local n)) args
      (fetched_args u (next_after u m (Operand.Local n)) (fetched_args t (next_by n (Some f)) args))
      (callee_twice m v n (fetch_of u (Operand.Local n)) h)
      (args_twice (next_by n (Some f)) (next_after u m (Operand.Local n)) args rest)

  pub instr_twice : (n m : ℕ) (i : Instr) → AreTwice n m (instr_operands i)
      → InstrStays R i (with_fetched u m (with_fetched t n i))
  instr_twice n m (Instr.Binary r op flags ty a b) h =
      Binary r op flags ty a b (fetched_operand u m (fetched_operand t n a))
      (fetched_operand u (next_after u m (fetched_operand t n a)) (fetched_operand t (next_after t n a) b)) h.0 h.1.0
  instr_twice n m (Instr.Icmp r pred ty a b) h =
      Icmp r pred ty a b (fetched_operand u m (fetched_operand t n a))
      (fetched_operand u (next_after u m (fetched_operand t n a)) (fetched_operand t (next_after t n a) b)) h.0 h.1.0
  instr_twice n m (Instr.Select r y a b) h =
      Select r y (fetched_operand u m (fetched_operand t n y)) a b
      (fetched_arg u (next_after u m (fetched_operand t n y)) (fetched_arg t (next_after t n y) a))
      (fetched_arg u
      (next_after u (next_after u m (fetched_operand t n y)) (fetched_operand t (next_after t n y) a.value))
      (fetched_arg t (next_after t (next_after t n y) a.value) b))
      h.0 (record { ty = refl; value = h.1.0 }) (record { ty = refl; value = h.1.1.0 })
  instr_twice n m (Instr.Cast r op nneg a to) h =
      Cast r op nneg a (fetched_arg u m (fetched_arg t n a)) to (record { ty = refl; value = h.0 })
  instr_twice n m (Instr.Alloca r ty align) h = Alloca r ty align
  instr_twice n m (Instr.Load r ty p align) h =
      Load r ty p (fetched_operand u m (fetched_operand t n p)) align h.0
  instr_twice n m (Instr.Store a p align) h =
      Store a (fetched_arg u m (fetched_arg t n a)) p
      (fetched_operand u (next_after u m (fetched_operand t n a.value)) (fetched_operand t (next_after t n a.value) p))
      align (record { ty = refl; value = h.0 }) h.1.0
  instr_twice n m (Instr.Gep r inbounds ty base indices) h =
      Gep r inbounds ty base (fetched_operand u m (fetched_operand t n base)) indices
      (fetched_args u (next_after u m (fetched_operand t n base)) (fetched_args t (next_after t n base) indices)) h.0
      (args_twice (next_after t n base) (next_after u m (fetched_operand t n base)) indices h.1)
  instr_twice n m (Instr.Call r must_tail ty (Callee.Named name) args) h =
      Call r must_tail ty (Callee.Named name) (Callee.Named name) args (fetched_args u m (fetched_args t n args))
      (Direct (Callee.Named name) refl) (args_twice n m args h)
  instr_twice n m (Instr.Call r must_tail ty (Callee.Allocator name) args) h =
      Call r must_tail ty (Callee.Allocator name) (Callee.Allocator name) args
      (fetched_args u m (fetched_args t n args)) (Direct (Callee.Allocator name) refl) (args_twice n m args h)
  instr_twice n m (Instr.Call r must_tail ty (Callee.Intrinsic name) args) h =
      Call r must_tail ty (Callee.Intrinsic name) (Callee.Intrinsic name) args
      (fetched_args u m (fetched_args t n args)) (Direct (Callee.Intrinsic name) refl) (args_twice n m args h)
  instr_twice n m (Instr.Call r must_tail ty (Callee.Local v) args) h =
      call_twice n m v (fetch_of t (Operand.Local v)) r ty must_tail args h.0 h.1

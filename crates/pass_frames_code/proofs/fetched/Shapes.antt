-- What is fetched has the shape of what it was.
use Rattle.std.proofs.Common.{ℕ, List, [], ◌∷◌, refl}
use Rattle.std.specs.Prelude.{None, Option, Some}
use Rattle.pass_proofs.specs.ir_model.declared.instr.Case.{Case}
use Rattle.pass_proofs.specs.ir_model.declared.instr.Instr.{Instr}
use Rattle.pass_proofs.specs.ir_model.declared.instr.Terminator.{Terminator}
use Rattle.pass_proofs.specs.ir_model.declared.operand.Arg.{Arg}
use Rattle.pass_proofs.specs.ir_model.declared.operand.Callee.{Callee}
use Rattle.pass_proofs.specs.ir_model.declared.operand.Operand.{Operand}
use Rattle.pass_proofs.specs.ir_parts.Contents.{arg_operands, instr_operands}
use Rattle.pass_proofs.specs.pass_fetch.Fetching.{callee_by, fetch_of, fetched_arg, fetched_args, fetched_operand, next_after, operand_by}
use Rattle.pass_proofs.specs.pass_fetch.Instrs.{fetched_term, term_operands, with_fetched}
use Rattle.pass_proofs.specs.pass_fetch.declared.fetch.Fetch.{Fetch}
use Rattle.pass_frames_code.specs.Fetched.{AreSeenAs, IsSeenAs}
use Rattle.pass_proofs.specs.run_laws.transfer.Shapes.{Alloca, ArgStays, Binary, Branch, Call, CalleeStays, CaseStays, Cast, Direct, Empty, Gep, Icmp, Indirect, InstrStays, Jump, Load, Pair, Pairwise, Return, ReturnVoid, Select, Store, Switch, TermStays, Unreachable}
use Rattle.pass_proofs.specs.run_memory.declared.pointer.Value.{Value}
use Rattle.pass_proofs.specs.run_step.Step.{Context, Work}

-- what is fetched is related, by any relation, to what it was
module _ (t : List (Option Fetch)) (R : Operand → Operand → Type 0) where
  abbrev pub AreStayed : ℕ → List Operand → Type 0
  AreStayed n [] = Unit {0}
  AreStayed n (a ∷ xs) = R a (fetched_operand t n a) × AreStayed (next_after t n a) xs

  args_stay : (n : ℕ) (args : List Arg) → AreStayed n (arg_operands args)
      → Pairwise (ArgStays R) args (fetched_args t n args)
  args_stay n [] h = Empty
  args_stay n (a ∷ args) h =
      Pair a (fetched_arg t n a) args (fetched_args t (next_after t n a.value) args)
      (record { ty = refl; value = h.0 }) (args_stay (next_after t n a.value) args h.1)

  callee_stays : (n v : ℕ) (o : Option Fetch) → R (Operand.Local v) (operand_by n o (Operand.Local v))
      → CalleeStays R (Callee.Local v) (callee_by n o (Callee.Local v))
  callee_stays n v None h = Indirect v v h
  callee_stays n v (Some f) h = Indirect v n h

  pub instr_related : (n : ℕ) (i : Instr) → AreStayed n (instr_operands i)
      → InstrStays R i (with_fetched t n i)
  instr_related n (Instr.Binary r op flags ty a b) h =
      Binary r op flags ty a b (fetched_operand t n a) (fetched_operand t (next_after t n a) b) h.0 h.1.0
  instr_related n (Instr.Icmp r pred ty a b) h =
      Icmp r pred ty a b (fetched_operand t n a) (fetched_operand t (next_after t n a) b) h.0 h.1.0
  instr_related n (Instr.Select r y a b) h =
      Select r y (fetched_operand t n y) a b (fetched_arg t (next_after t n y) a)
      (fetched_arg t (next_after t (next_after t n y) a.value) b) h.0 (record { ty = refl; value = h.1.0 })
      (record { ty = refl; value = h.1.1.0 })
  instr_related n (Instr.Cast r op nneg a to) h =
      Cast r op nneg a (fetched_arg t n a) to (record { ty = refl; value = h.0 })
  instr_related n (Instr.Alloca r ty align) h = Alloca r ty align
  instr_related n (Instr.Load r ty p align) h = Load r ty p (fetched_operand t n p) align h.0
  instr_related n (Instr.Store a p align) h =
      Store a (fetched_arg t n a) p (fetched_operand t (next_after t n a.value) p) align
      (record { ty = refl; value = h.0 }) h.1.0
  instr_related n (Instr.Gep r inbounds ty base indices) h =
      Gep r inbounds ty base (fetched_operand t n base) indices (fetched_args t (next_after t n base) indices) h.0
      (args_stay (next_after t n base) indices h.1)
  instr_related n (Instr.Call r must_tail ty (Callee.Named name) args) h =
      Call r must_tail ty (Callee.Named name) (Callee.Named name) args (fetched_args t n args)
      (Direct (Callee.Named name) refl) (args_stay n args h)
  instr_related n (Instr.Call r must_tail ty (Callee.Allocator name) args) h =
      Call r must_tail ty (Callee.Allocator name) (Callee.Allocator name) args (fetched_args t n args)
      (Direct (Callee.Allocator name) refl) (args_stay n args h)
  instr_related n (Instr.Call r must_tail ty (Callee.Intrinsic name) args) h =
      Call r must_tail ty (Callee.Intrinsic name) (Callee.Intrinsic name) args (fetched_args t n args)
      (Direct (Callee.Intrinsic name) refl) (args_stay n args h)
  instr_related n (Instr.Call r must_tail ty (Callee.Local v) args) h =
      Call r must_tail ty (Callee.Local v) (callee_by n (fetch_of t (Operand.Local v)) (Callee.Local v)) args
      (fetched_args t (next_after t n (Operand.Local v)) args)
      (callee_stays n v (fetch_of t (Operand.Local v)) h.0) (args_stay (next_after t n (Operand.Local v)) args h.1)

  cases_stay : (cases : List Case) → Pairwise (CaseStays (λ label. label)) cases cases
  cases_stay [] = Empty
  cases_stay (k ∷ cases) = Pair k k cases cases (record { arg = refl; target = refl }) (cases_stay cases)

  pub term_related : (n : ℕ) (e : Terminator) → AreStayed n (term_operands e)
      → TermStays R (λ label. label) e (fetched_term t n e)
  term_related n (Terminator.Jump label) h = Jump label
  term_related n (Terminator.Branch y a b) h = Branch y (fetched_operand t n y) a b h.0
  term_related n (Terminator.Switch a default cases) h =
      Switch a (fetched_arg t n a) default cases cases (record { ty = refl; value = h.0 }) (cases_stay cases)
  term_related n (Terminator.Ret None) h = ReturnVoid
  term_related n (Terminator.Ret (Some a)) h = Return a (fetched_arg t n a) (record { ty = refl; value = h.0 })
  term_related n Terminator.Unreachable h = Unreachable

-- it is seen as what is given
module _ (t : List (Option Fetch)) (given : ℕ → Value) (c : Context) (w x : Work) where
  stayed : (n : ℕ) (xs : List Operand) → AreSeenAs t given c w x n xs
      → AreStayed t (IsSeenAs t given c w x) n xs
  stayed n [] h = tt
  stayed n (a ∷ xs) h = (h.0, stayed (next_after t n a) xs h.1)

  pub instr_stays : (n : ℕ) (i : Instr) → AreSeenAs t given c w x n (instr_operands i)
      → InstrStays (IsSeenAs t given c w x) i (with_fetched t n i)
  instr_stays n i h = instr_related t (IsSeenAs t given c w x) n i (stayed n (instr_operands i) h)

  pub term_stays : (n : ℕ) (e : Terminator) → AreSeenAs t given c w x n (term_operands e)
      → TermStays (IsSeenAs t given c w x) (λ label. label) e (fetched_term t n e)
  term_stays n e h = term_related t (IsSeenAs t given c w x) n e (stayed n (term_operands e) h)

-- Operands of instructions, of accesses and others, where they are fetched anew.
use Rattle.std.proofs.Common.{ℕ, ◌≤◌, Bool, List, [], ◌∷◌, ◌++◌, arith}
use Rattle.std.specs.Prelude.{None, Option, Some}
use Rattle.pass_edges_proof.specs.rule_laws.rules.begin_order.Behind.{access_operands, besides_second, other_operands}
use Rattle.pass_fetch_proof.proofs.fetch.rules.Puts.{fetch_rises}
use Rattle.pass_edges_proof.specs.ir_parts.Contents.{arg_operands, callee_operands, ending_operands, instr_operands}
use Rattle.ir_model.specs.Ty.{Ty}
use Rattle.ir_model.specs.declared.instr.Instr.{Instr}
use Rattle.ir_model.specs.declared.instr.Terminator.{Terminator}
use Rattle.ir_model.specs.declared.operand.Arg.{Arg}
use Rattle.ir_model.specs.declared.operand.Callee.{Callee}
use Rattle.ir_model.specs.declared.operand.Intrinsic.{Intrinsic}
use Rattle.ir_model.specs.declared.operand.Operand.{Operand}
use Rattle.pass_edges_proof.specs.run_laws.changed.Changed.{Each}
use Rattle.pass_edges_proof.specs.pass_fetch.Fetching.{callee_by, fetch_of, fetched_args, fetched_operand, next_after, operand_by}
use Rattle.pass_edges_proof.specs.pass_fetch.Instrs.{fetched_term, with_fetched}
use Rattle.pass_edges_proof.specs.pass_fetch.declared.fetch.Fetch.{Fetch}

module _ (P : Operand → Type 0) where
  -- ---- the operands of an instruction are accesses and others, and more

  besides : (args : List Arg) → Each P (arg_operands args) → Each P (besides_second args)
  besides [] h = h
  besides (a ∷ []) h = h
  besides (a ∷ b ∷ args) h = (h.0, h.1.1)

  pub others_of : (i : Instr) → Each P (instr_operands i) → Each P (other_operands i)
  others_of (Instr.Load r ty x align) h = tt
  others_of (Instr.Store a x align) h = (h.0, tt)
  others_of (Instr.Call r must_tail ty (Callee.Intrinsic Intrinsic.MemcpyI64) args) h = tt
  others_of (Instr.Call r must_tail ty (Callee.Intrinsic Intrinsic.MemcpyI32) args) h = tt
  others_of (Instr.Call r must_tail ty (Callee.Intrinsic Intrinsic.LifetimeStart) args) h = besides args h
  others_of (Instr.Call r must_tail ty (Callee.Intrinsic Intrinsic.LifetimeEnd) args) h = besides args h
  others_of (Instr.Call r must_tail ty (Callee.Intrinsic Intrinsic.CoroId) args) h = besides args h
  others_of i h = h

  pub accesses_of : (i : Instr) → Each P (instr_operands i) → Each P (access_operands i)
  accesses_of (Instr.Load r ty x align) h = h
  accesses_of (Instr.Store a x align) h = h.1
  accesses_of (Instr.Call r must_tail ty (Callee.Intrinsic Intrinsic.MemcpyI64) args) h = h
  accesses_of (Instr.Call r must_tail ty (Callee.Intrinsic Intrinsic.MemcpyI32) args) h = h
  accesses_of i h = tt

  -- ---- fetched operands

  module _ (t : List (Option Fetch)) (first : ℕ) (new : (n : ℕ) → first ≤ n → P (Operand.Local n)) where
    pub operand_kept : (n : ℕ) (x : Operand) → first ≤ n → P x → P (fetched_operand t n x)
    operand_kept n x low h = on (fetch_of t x)
      where
        on : (o : Option Fetch) → P (operand_by n o x)
        on None = h
        on (Some fetch) = new n low

    pub low_after : (n : ℕ) (x : Operand) → first ≤ n → first ≤ next_after t n x
    low_after n x low = let up : n ≤ next_after t n x = fetch_rises t n (x ∷ []) in omega (arith, low, up)

    args_kept : (n : ℕ) (args : List Arg) → first ≤ n → Each P (arg_operands args) → Each P (arg_operands (fetched_args t n args))
    args_kept n [] low h = tt
    args_kept n (a ∷ args) low h = (operand_kept n a.value low h.0, args_kept (next_after t n a.value) args (low_after n a.value low) h.1)

    besides_kept : (n : ℕ) (args : List Arg) → first ≤ n → Each P (besides_second args) → Each P (besides_second (fetched_args t n args))
    besides_kept n [] low h = tt
    besides_kept n (a ∷ []) low h = (operand_kept n a.value low h.0, tt)
    besides_kept n (a ∷ b ∷ args) low h =
        (operand_kept n a.value low h.0, args_kept (next_after t (next_after t n a.value) b.value) args (low_after (next_after t n a.value) b.value (low_after n a.value low)) h.1)

    local_kept : (n v : ℕ) (o : Option Fetch) (rest : List Arg) → P (operand_by n o (Operand.Local v)) → Each P (arg_operands rest) → Each P (callee_operands (callee_by n o (Callee.Local v)) ++ arg_operands rest)
    local_kept n v None rest h k = (h, k)
    local_kept n v (Some fetch) rest h k = (h, k)

    operands_kept : (n : ℕ) (i : Instr) → first ≤ n → Each P (instr_operands i) → Each P (instr_operands (with_fetched t n i))
    operands_kept n (Instr.Binary r op flags ty a b) low h = (operand_kept n a low h.0, (operand_kept (next_after t n a) b (low_after n a low) h.1.0, tt))
    operands_kept n (Instr.Icmp r pred ty a b) low h = (operand_kept n a low h.0, (operand_kept (next_after t n a) b (low_after n a low) h.1.0, tt))
    operands_kept n (Instr.Select r c a b) low h =
        let one = low_after n c low in
        (operand_kept n c low h.0, (operand_kept (next_after t n c) a.value one h.1.0, (operand_kept (next_after t (next_after t n c) a.value) b.value (low_after (next_after t n c) a.value one) h.1.1.0, tt)))
    operands_kept n (Instr.Cast r op nneg a to) low h = (operand_kept n a.value low h.0, tt)
    operands_kept n (Instr.Alloca r ty align) low h = tt
    operands_kept n (Instr.Load r ty x align) low h = (operand_kept n x low h.0, tt)
    operands_kept n (Instr.Store a x align) low h = (operand_kept n a.value low h.0, (operand_kept (next_after t n a.value) x (low_after n a.value low) h.1.0, tt))
    operands_kept n (Instr.Gep r inbounds ty x args) low h = (operand_kept n x low h.0, args_kept (next_after t n x) args (low_after n x low) h.1)
    operands_kept n (Instr.Call r must_tail ty (Callee.Named c) args) low h = args_kept n args low h
    operands_kept n (Instr.Call r must_tail ty (Callee.Allocator c) args) low h = args_kept n args low h
    operands_kept n (Instr.Call r must_tail ty (Callee.Intrinsic c) args) low h = args_kept n args low h
    operands_kept n (Instr.Call r must_tail ty (Callee.Local v) args) low h =
        local_kept n v (fetch_of t (Operand.Local v)) (fetched_args t (next_after t n (Operand.Local v)) args) (operand_kept n (Operand.Local v) low h.0) (args_kept (next_after t n (Operand.Local v)) args (low_after n (Operand.Local v) low) h.1)

    local_others : (n : ℕ) (r : Option ℕ) (must_tail : Bool) (ty : Option Ty) (v : ℕ) (o : Option Fetch) (rest : List Arg) → P (operand_by n o (Operand.Local v)) → Each P (arg_operands rest) → Each P (other_operands (Instr.Call r must_tail ty (callee_by n o (Callee.Local v)) rest))
    local_others n r must_tail ty v None rest h k = (h, k)
    local_others n r must_tail ty v (Some fetch) rest h k = (h, k)

    local_accesses : (n : ℕ) (r : Option ℕ) (must_tail : Bool) (ty : Option Ty) (v : ℕ) (o : Option Fetch) (rest : List Arg) → Each P (access_operands (Instr.Call r must_tail ty (callee_by n o (Callee.Local v)) rest))
    local_accesses n r must_tail ty v None rest = tt
    local_accesses n r must_tail ty v (Some fetch) rest = tt

    pub others_kept : (n : ℕ) (i : Instr) → first ≤ n → Each P (other_operands i) → Each P (other_operands (with_fetched t n i))
    others_kept n (Instr.Load r ty x align) low h = tt
    others_kept n (Instr.Store a x align) low h = (operand_kept n a.value low h.0, tt)
    others_kept n (Instr.Call r must_tail ty (Callee.Intrinsic Intrinsic.MemcpyI64) args) low h = tt
    others_kept n (Instr.Call r must_tail ty (Callee.Intrinsic Intrinsic.MemcpyI32) args) low h = tt
    others_kept n (Instr.Call r must_tail ty (Callee.Intrinsic Intrinsic.LifetimeStart) args) low h = besides_kept n args low h
    others_kept n (Instr.Call r must_tail ty (Callee.Intrinsic Intrinsic.LifetimeEnd) args) low h = besides_kept n args low h
    others_kept n (Instr.Call r must_tail ty (Callee.Intrinsic Intrinsic.CoroId) args) low h = besides_kept n args low h
    others_kept n (Instr.Call r must_tail ty (Callee.Local v) args) low h =
        local_others n r must_tail ty v (fetch_of t (Operand.Local v)) (fetched_args t (next_after t n (Operand.Local v)) args) (operand_kept n (Operand.Local v) low h.0) (args_kept (next_after t n (Operand.Local v)) args (low_after n (Operand.Local v) low) h.1)
    others_kept n i low h = operands_kept n i low h

    pub accesses_kept : (n : ℕ) (i : Instr) → first ≤ n → Each P (access_operands i) → Each P (access_operands (with_fetched t n i))
    accesses_kept n (Instr.Load r ty x align) low h = (operand_kept n x low h.0, tt)
    accesses_kept n (Instr.Store a x align) low h = (operand_kept (next_after t n a.value) x (low_after n a.value low) h.0, tt)
    accesses_kept n (Instr.Call r must_tail ty (Callee.Intrinsic Intrinsic.MemcpyI64) args) low h = args_kept n args low h
    accesses_kept n (Instr.Call r must_tail ty (Callee.Intrinsic Intrinsic.MemcpyI32) args) low h = args_kept n args low h
    accesses_kept n (Instr.Call r must_tail ty (Callee.Local v) args) low h = local_accesses n r must_tail ty v (fetch_of t (Operand.Local v)) (fetched_args t (next_after t n (Operand.Local v)) args)
    accesses_kept n i low h = tt

    pub ending_kept : (n : ℕ) (e : Terminator) → first ≤ n → Each P (ending_operands e) → Each P (ending_operands (fetched_term t n e))
    ending_kept n (Terminator.Jump label) low h = tt
    ending_kept n (Terminator.Branch c a b) low h = (operand_kept n c low h.0, tt)
    ending_kept n (Terminator.Switch a default cases) low h = (operand_kept n a.value low h.0, h.1)
    ending_kept n (Terminator.Ret None) low h = tt
    ending_kept n (Terminator.Ret (Some a)) low h = (operand_kept n a.value low h.0, tt)
    ending_kept n Terminator.Unreachable low h = tt

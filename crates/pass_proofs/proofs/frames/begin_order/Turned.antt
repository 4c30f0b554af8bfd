-- The operands that are left of an instruction, where markers and the promise are gone, and those of an access whose slots are fetched.
use Rattle.std.proofs.Common.{◌≡◌, ℕ, ◌≤◌, Bool, true, false, List, [], ◌∷◌, refl, arith}
use Rattle.std.specs.Prelude.{None, Option, Some}
use Rattle.pass_copies.specs.Uses.{is_access, is_begin}
use Rattle.pass_exits_proof.specs.rule_laws.rules.begin_order.Behind.{access_operands, other_operands}
use Rattle.pass_exits_proof.proofs.fetch.rules.Puts.{fetch_rises}
use Rattle.pass_addresses.specs.Placing.{is_flagged, stays, without_promise_of}
use Rattle.pass_exits_proof.specs.ir_parts.Contents.{arg_operands, instr_operands}
use Rattle.ir_model.specs.declared.instr.Instr.{Instr}
use Rattle.ir_model.specs.declared.operand.Arg.{Arg}
use Rattle.ir_model.specs.declared.operand.Callee.{Callee}
use Rattle.ir_model.specs.declared.operand.Intrinsic.{Intrinsic}
use Rattle.ir_model.specs.declared.operand.Operand.{Operand}
use Rattle.pass_exits_proof.specs.run_laws.changed.Changed.{Each}
use Rattle.pass_exits_proof.specs.pass_fetch.Fetching.{fetch_of, fetched_args, fetched_operand, next_after, operand_by}
use Rattle.pass_exits_proof.specs.pass_fetch.Instrs.{with_fetched}
use Rattle.pass_exits_proof.specs.pass_fetch.declared.fetch.Fetch.{Fetch}

-- what goes is no begin
pub gone_no_begin : (marked : List Bool) (i : Instr) → stays marked i ≡ false → is_begin i ≡ true → ⊥
gone_no_begin marked (Instr.Call r must_tail ty (Callee.Intrinsic Intrinsic.LifetimeStart) args) e d = absurd (cc)
gone_no_begin marked (Instr.Call r must_tail ty (Callee.Intrinsic Intrinsic.LifetimeEnd) args) e d = absurd (cc)
gone_no_begin marked _ e d = absurd (cc)

module _ (P : Operand → Type 0) where
  -- ---- what is left

  module _ (null : P Operand.Null) (marked : List Bool) (flagged : (x : Operand) → is_flagged marked x ≡ true → P x) where
    pub left_operands : (i : Instr) → stays marked i ≡ true → Each P (other_operands i) → Each P (access_operands i) → Each P (instr_operands (without_promise_of i))
    left_operands (Instr.Load r ty x align) e h k = k
    left_operands (Instr.Store a x align) e h k = (h.0, k)
    left_operands (Instr.Call r must_tail ty (Callee.Intrinsic Intrinsic.MemcpyI64) args) e h k = k
    left_operands (Instr.Call r must_tail ty (Callee.Intrinsic Intrinsic.MemcpyI32) args) e h k = k
    left_operands (Instr.Call r must_tail ty (Callee.Intrinsic Intrinsic.LifetimeStart) []) e h k = tt
    left_operands (Instr.Call r must_tail ty (Callee.Intrinsic Intrinsic.LifetimeStart) (a ∷ [])) e h k = h
    left_operands (Instr.Call r must_tail ty (Callee.Intrinsic Intrinsic.LifetimeStart) (a ∷ b ∷ args)) e h k = (h.0, (flagged b.value e, h.1))
    left_operands (Instr.Call r must_tail ty (Callee.Intrinsic Intrinsic.LifetimeEnd) []) e h k = tt
    left_operands (Instr.Call r must_tail ty (Callee.Intrinsic Intrinsic.LifetimeEnd) (a ∷ [])) e h k = h
    left_operands (Instr.Call r must_tail ty (Callee.Intrinsic Intrinsic.LifetimeEnd) (a ∷ b ∷ args)) e h k = (h.0, (flagged b.value e, h.1))
    left_operands (Instr.Call r must_tail ty (Callee.Intrinsic Intrinsic.CoroId) []) e h k = tt
    left_operands (Instr.Call r must_tail ty (Callee.Intrinsic Intrinsic.CoroId) (a ∷ [])) e h k = h
    left_operands (Instr.Call r must_tail ty (Callee.Intrinsic Intrinsic.CoroId) (a ∷ b ∷ args)) e h k = (h.0, (null, h.1))
    left_operands i e h k = h

  -- ---- fetched accesses

  module _ (t : List (Option Fetch)) (first : ℕ) (new : (n : ℕ) → first ≤ n → P (Operand.Local n)) where
    -- it holds of what isn't fetched
    abbrev IsUnfetched : Operand → Type 0
    IsUnfetched x = fetch_of t x ≡ None → P x

    operand_turned : (n : ℕ) (x : Operand) → first ≤ n → IsUnfetched x → P (fetched_operand t n x)
    operand_turned n x low h = on (fetch_of t x) h
      where
        on : (o : Option Fetch) → (o ≡ None → P x) → P (operand_by n o x)
        on None h = h refl
        on (Some fetch) h = new n low

    args_turned : (n : ℕ) (args : List Arg) → first ≤ n → Each IsUnfetched (arg_operands args) → Each P (arg_operands (fetched_args t n args))
    args_turned n [] low h = tt
    args_turned n (a ∷ args) low h =
        (operand_turned n a.value low h.0, args_turned (next_after t n a.value) args (let up : n ≤ next_after t n a.value = fetch_rises t n (a.value ∷ []) in omega (arith, low, up)) h.1)

    pub access_turned : (n : ℕ) (i : Instr) → is_access i ≡ true → first ≤ n → Each P (other_operands i) → Each IsUnfetched (access_operands i) → Each P (instr_operands (without_promise_of (with_fetched t n i)))
    access_turned n (Instr.Load r ty x align) e low h k = (operand_turned n x low k.0, tt)
    access_turned n (Instr.Store a x align) e low h k =
        (operand_turned n a.value low (λ d. h.0), (operand_turned (next_after t n a.value) x (let up : n ≤ next_after t n a.value = fetch_rises t n (a.value ∷ []) in omega (arith, low, up)) k.0, tt))
    access_turned n (Instr.Call r must_tail ty (Callee.Intrinsic Intrinsic.MemcpyI64) args) e low h k = args_turned n args low k
    access_turned n (Instr.Call r must_tail ty (Callee.Intrinsic Intrinsic.MemcpyI32) args) e low h k = args_turned n args low k
    access_turned n _ e low h k = absurd (cc)

-- an instruction that accesses nothing has no such operands
pub no_access : (i : Instr) → is_access i ≡ false → access_operands i ≡ []
no_access (Instr.Load r ty x align) e = absurd (cc)
no_access (Instr.Store a x align) e = absurd (cc)
no_access (Instr.Call r must_tail ty (Callee.Intrinsic Intrinsic.MemcpyI64) args) e = absurd (cc)
no_access (Instr.Call r must_tail ty (Callee.Intrinsic Intrinsic.MemcpyI32) args) e = absurd (cc)
no_access _ e = refl

pub access_stays : (t : List (Option Fetch)) (n : ℕ) (marked : List Bool) (i : Instr) → is_access i ≡ true → stays marked (with_fetched t n i) ≡ true
access_stays t n marked (Instr.Load r ty x align) e = refl
access_stays t n marked (Instr.Store a x align) e = refl
access_stays t n marked (Instr.Call r must_tail ty (Callee.Intrinsic Intrinsic.MemcpyI64) args) e = refl
access_stays t n marked (Instr.Call r must_tail ty (Callee.Intrinsic Intrinsic.MemcpyI32) args) e = refl
access_stays t n marked _ e = absurd (cc)

pub access_no_begin : (i : Instr) → is_access i ≡ true → is_begin i ≡ false
access_no_begin (Instr.Load r ty x align) e = refl
access_no_begin (Instr.Store a x align) e = refl
access_no_begin (Instr.Call r must_tail ty (Callee.Intrinsic Intrinsic.MemcpyI64) args) e = refl
access_no_begin (Instr.Call r must_tail ty (Callee.Intrinsic Intrinsic.MemcpyI32) args) e = refl
access_no_begin _ e = absurd (cc)

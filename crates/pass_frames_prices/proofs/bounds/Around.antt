-- What is put in around an instruction by any tables, besides its fetches and the store of its result.
use Rattle.std.proofs.Common.{◌≡◌, ℕ, suc, ◌+◌, ◌*◌, ◌≤◌, Bool, List, [], ◌∷◌, length, refl, ap, arith}
use Rattle.std.specs.Prelude.{None, Option, Some, if◌then◌else◌}
use Rattle.pass_frames_proof.specs.ir_model.Ty.{Ty}
use Rattle.pass_frames_proof.specs.ir_model.declared.instr.Instr.{Instr}
use Rattle.pass_frames_proof.specs.ir_model.declared.module.Module.{Module}
use Rattle.pass_frames_proof.specs.ir_model.declared.operand.Arg.{Arg}
use Rattle.pass_frames_proof.specs.ir_model.declared.operand.Callee.{Callee}
use Rattle.pass_frames_proof.specs.ir_model.declared.operand.Intrinsic.{Intrinsic}
use Rattle.pass_frames_proof.specs.ir_model.declared.operand.Operand.{Operand}
use Rattle.pass_frames_proof.specs.ir_parts.Contents.{arg_operands, instr_operands}
use Rattle.pass_frames_proof.specs.pass_cells.Kept.{entry}
use Rattle.pass_frames_proof.specs.pass_cells.Written.{distance_behind, distance_from, row_at, save_row}
use Rattle.pass_frames_proof.specs.pass_cells.declared.plan.Plan.{Plan}
use Rattle.pass_frames_proof.specs.pass_copies.Uses.{is_access, is_begin}
use Rattle.pass_frames_proof.specs.pass_fetch.Fetching.{callee_by, fetch_of, fetched_args, next_after, next_by}
use Rattle.pass_frames_proof.specs.pass_fetch.Instrs.{with_fetched}
use Rattle.pass_frames_proof.specs.pass_fetch.declared.fetch.Fetch.{Fetch}
use Rattle.pass_frames_prices.proofs.bounds.Parts.{distance_short}
use Rattle.pass_frames_prices.specs.Counts.{behind_by, more_by}

pub args_many : (t : List (Option Fetch)) (n : ℕ) (args : List Arg) → length (fetched_args t n args) ≡ length args
args_many t n [] = refl
args_many t n (a ∷ args) = ap suc (args_many t (next_after t n a.value) args)

pub operands_many : (args : List Arg) → length (arg_operands args) ≡ length args
operands_many [] = refl
operands_many (a ∷ args) = ap suc (operands_many args)

module _ (m : Module) (p : Plan) (kept early : ℕ) (rows : (o : Option ℕ) → length (row_at p.rows o) ≤ kept)
    (t : List (Option Fetch)) (n q : ℕ) where
  -- of an instruction whose operands are fetched: moves to fields, copies, the distance, loads before begin
  abbrev pub saved_at : Instr → ℕ
  saved_at j = 3 * length (save_row p j)

  abbrev pub copied_at : Instr → ℕ
  copied_at j = if is_begin j then 4 * early else 0

  abbrev pub measured_at : Instr → ℕ
  measured_at j = length (distance_behind m p q j)

  abbrev pub accessed_at : Instr → Instr → ℕ
  accessed_at i j = if is_access j then 2 * length (instr_operands i) else 0

  abbrev Fits : Instr → Instr → Type 0
  Fits i j = saved_at j + copied_at j + (measured_at j + accessed_at i j) ≤ more_by kept early i

  save_fits : (o : Option ℕ) → 3 * length (row_at p.rows o) + 0 + (0 + 0) ≤ 3 * kept
  save_fits o = let a = rows o in omega (arith, a)

  local_fits : (r : Option ℕ) (must_tail : Bool) (ty : Option Ty) (v : ℕ) (args bs : List Arg) (o : Option Fetch)
      → Fits (Instr.Call r must_tail ty (Callee.Local v) args)
      (Instr.Call r must_tail ty (callee_by n o (Callee.Local v)) bs)
  local_fits None must_tail ty v args bs None = omega arith
  local_fits None must_tail ty v args bs (Some f) = omega arith
  local_fits (Some r) must_tail ty v args bs None = omega arith
  local_fits (Some r) must_tail ty v args bs (Some f) = omega arith

  intrinsic_fits : (r : Option ℕ) (must_tail : Bool) (ty : Option Ty) (i : Intrinsic) (args bs : List Arg)
      → Fits (Instr.Call r must_tail ty (Callee.Intrinsic i) args) (Instr.Call r must_tail ty (Callee.Intrinsic i) bs)
  intrinsic_fits None must_tail ty Intrinsic.CoroSave args bs = omega arith
  intrinsic_fits (Some r) must_tail ty Intrinsic.CoroSave args bs = save_fits (entry p.saves r)
  intrinsic_fits None must_tail ty Intrinsic.MemcpyI64 args bs = let e = operands_many args in omega (arith, e)
  intrinsic_fits (Some r) must_tail ty Intrinsic.MemcpyI64 args bs = let e = operands_many args in omega (arith, e)
  intrinsic_fits None must_tail ty Intrinsic.MemcpyI32 args bs = let e = operands_many args in omega (arith, e)
  intrinsic_fits (Some r) must_tail ty Intrinsic.MemcpyI32 args bs = let e = operands_many args in omega (arith, e)
  intrinsic_fits None must_tail ty _ args bs = omega arith
  intrinsic_fits (Some r) must_tail ty _ args bs = omega arith

  pub around_fits : (i : Instr) → Fits i (with_fetched t n i)
  around_fits (Instr.Binary r op flags ty a b) = omega arith
  around_fits (Instr.Icmp r pred ty a b) = omega arith
  around_fits (Instr.Select r c a b) = omega arith
  around_fits (Instr.Cast r op nneg a to) = omega arith
  around_fits (Instr.Alloca r ty align) = omega arith
  around_fits (Instr.Load r ty a align) = omega arith
  around_fits (Instr.Store a b align) = omega arith
  around_fits (Instr.Gep r inbounds ty base indices) =
      let e = args_many t (next_after t n base) indices in
      let d = distance_short m (distance_from p r) q (entry p.cells r) ty
      (fetched_args t (next_after t n base) indices) in
      omega (arith, d, e)
  around_fits (Instr.Call None must_tail ty (Callee.Named name) args) = omega arith
  around_fits (Instr.Call (Some r) must_tail ty (Callee.Named name) args) = omega arith
  around_fits (Instr.Call None must_tail ty (Callee.Allocator name) args) = omega arith
  around_fits (Instr.Call (Some r) must_tail ty (Callee.Allocator name) args) = omega arith
  around_fits (Instr.Call r must_tail ty (Callee.Intrinsic i) args) =
      intrinsic_fits r must_tail ty i args (fetched_args t n args)
  around_fits (Instr.Call r must_tail ty (Callee.Local v) args) =
      let o : Option Fetch = fetch_of t (Operand.Local v) in
      local_fits r must_tail ty v args (fetched_args t (next_by n o) args) o

  -- behind it alone
  abbrev Follows : Instr → Instr → Type 0
  Follows i j = copied_at j + measured_at j ≤ behind_by early i

  local_follows : (r : Option ℕ) (must_tail : Bool) (ty : Option Ty) (v : ℕ) (args bs : List Arg) (o : Option Fetch)
      → Follows (Instr.Call r must_tail ty (Callee.Local v) args)
      (Instr.Call r must_tail ty (callee_by n o (Callee.Local v)) bs)
  local_follows r must_tail ty v args bs None = omega arith
  local_follows r must_tail ty v args bs (Some f) = omega arith

  intrinsic_follows : (r : Option ℕ) (must_tail : Bool) (ty : Option Ty) (i : Intrinsic) (args bs : List Arg)
      → Follows (Instr.Call r must_tail ty (Callee.Intrinsic i) args)
      (Instr.Call r must_tail ty (Callee.Intrinsic i) bs)
  intrinsic_follows r must_tail ty Intrinsic.CoroBegin args bs = omega arith
  intrinsic_follows r must_tail ty _ args bs = omega arith

  pub behind_fits : (i : Instr) → Follows i (with_fetched t n i)
  behind_fits (Instr.Gep r inbounds ty base indices) =
      let e = args_many t (next_after t n base) indices in
      let d = distance_short m (distance_from p r) q (entry p.cells r) ty
      (fetched_args t (next_after t n base) indices) in
      omega (arith, d, e)
  behind_fits (Instr.Binary r op flags ty a b) = omega arith
  behind_fits (Instr.Icmp r pred ty a b) = omega arith
  behind_fits (Instr.Select r c a b) = omega arith
  behind_fits (Instr.Cast r op nneg a to) = omega arith
  behind_fits (Instr.Alloca r ty align) = omega arith
  behind_fits (Instr.Load r ty a align) = omega arith
  behind_fits (Instr.Store a b align) = omega arith
  behind_fits (Instr.Call r must_tail ty (Callee.Named name) args) = omega arith
  behind_fits (Instr.Call r must_tail ty (Callee.Allocator name) args) = omega arith
  behind_fits (Instr.Call r must_tail ty (Callee.Intrinsic i) args) =
      intrinsic_follows r must_tail ty i args (fetched_args t n args)
  behind_fits (Instr.Call r must_tail ty (Callee.Local v) args) =
      let o : Option Fetch = fetch_of t (Operand.Local v) in
      local_follows r must_tail ty v args (fetched_args t (next_by n o) args) o

-- An instruction that loads, stores or copies nothing goes by no address of a slot that is used before begin.
use Rattle.std.proofs.Common.{◌≡◌, ℕ, Bool, true, false, List, [], Option, Some, None, refl, ap, if◌then◌else◌, ◌&&◌}
use Rattle.pass_frames_proof.specs.ir_model.Ty.{Ty}
use Rattle.pass_frames_proof.specs.ir_model.declared.instr.Instr.{Instr}
use Rattle.pass_frames_proof.specs.ir_model.declared.operand.Arg.{Arg}
use Rattle.pass_frames_proof.specs.ir_model.declared.operand.Callee.{Callee}
use Rattle.pass_frames_proof.specs.ir_model.declared.operand.Intrinsic.{Intrinsic}
use Rattle.pass_frames_proof.specs.ir_parts.Contents.{callee_operands, instr_operands}
use Rattle.pass_frames_proof.specs.pass_cells.Cells.{fetches_of}
use Rattle.pass_frames_proof.specs.pass_copies.BeginCopies.{is_fetched}
use Rattle.pass_frames_proof.specs.pass_copies.Uses.{is_access}
use Rattle.pass_frames_proof.specs.pass_fetch.Fetching.{callee_by, fetch_of_callee, fetched_args, fetches_of_all, next_after_all}
use Rattle.pass_frames_proof.specs.pass_fetch.Instrs.{with_fetched}
use Rattle.pass_frames_proof.specs.pass_fetch.declared.fetch.Fetch.{Fetch}
use Rattle.pass_frames_proof.specs.Code.{is_ahead, load_name, loaded, where_name}
use Rattle.pass_frames_proof.specs.Places.{Framing, Placed, copies, plan}
use Rattle.pass_frames_proof.specs.Stepping.{IsUnlocated}

call_access : (t : List (Option Fetch)) (n : ℕ) (result : Option ℕ) (must_tail : Bool) (ty : Option Ty) (callee : Callee)
    (args : List Arg) → is_access (Instr.Call result must_tail ty callee args) ≡ false
    → is_access (with_fetched t n (Instr.Call result must_tail ty callee args)) ≡ false
call_access t n result must_tail ty (Callee.Named name) args e = refl
call_access t n result must_tail ty (Callee.Allocator a) args e = refl
call_access t n result must_tail ty (Callee.Local v) args e = on (fetch_of_callee t (Callee.Local v))
  where
    on : (o : Option Fetch) → is_access (Instr.Call result must_tail ty (callee_by n o (Callee.Local v))
        (fetched_args t (next_after_all t n (callee_operands (Callee.Local v))) args)) ≡ false
    on None = refl
    on (Some f) = refl
call_access t n result must_tail ty (Callee.Intrinsic Intrinsic.MemcpyI64) args e = absurd (cc)
call_access t n result must_tail ty (Callee.Intrinsic Intrinsic.MemcpyI32) args e = absurd (cc)
call_access t n result must_tail ty (Callee.Intrinsic _) args e = refl

kept_access : (t : List (Option Fetch)) (n : ℕ) (i : Instr) → is_access i ≡ false → is_access (with_fetched t n i) ≡ false
kept_access t n (Instr.Binary r op flags ty a b) e = refl
kept_access t n (Instr.Icmp r pred ty a b) e = refl
kept_access t n (Instr.Select r c a b) e = refl
kept_access t n (Instr.Cast r op nneg arg to) e = refl
kept_access t n (Instr.Alloca r ty align) e = refl
kept_access t n (Instr.Load r ty p align) e = absurd (cc)
kept_access t n (Instr.Store arg p align) e = absurd (cc)
kept_access t n (Instr.Gep r inbounds ty base indices) e = refl
kept_access t n (Instr.Call r must_tail ty callee args) e = call_access t n r must_tail ty callee args e

not_fetched : (before access : Bool) → access ≡ false → (before && access) ≡ false
not_fetched true access e = e
not_fetched false access e = refl

module _ (x : Framing) (n : Placed) (i : Instr) where
  unlocated_by : is_fetched (is_ahead n) (loaded x n i) ≡ false → IsUnlocated x n i
  unlocated_by e = record {
    wheres = ap (λ (b : Bool). if b then fetches_of_all (copies x).fetches (where_name n) (instr_operands (loaded x n i))
        else []) e;
    located = ap (λ (b : Bool). if b then with_fetched (copies x).fetches (where_name n) (loaded x n i)
        else loaded x n i) e;
  }

  pub unaccessed : is_access i ≡ false → IsUnlocated x n i
  unaccessed e = unlocated_by (not_fetched (is_ahead n) (is_access (loaded x n i))
      (kept_access (fetches_of (plan x)) (load_name n) i e))

  -- behind begin
  pub begun_unlocated : is_ahead n ≡ false → IsUnlocated x n i
  begun_unlocated e = unlocated_by (ap (λ (b : Bool). b && is_access (loaded x n i)) e)

-- Accesses before begin alone go by the cells of addresses.
use Rattle.std.proofs.Common.{◌≡◌, ◌∙◌, [], Bool, List, None, Option, Some, ap, false, refl, true, ℕ}
use Rattle.std.specs.Prelude.{if◌then◌else◌, ◌&&◌}
use Rattle.pass_frames_steps.specs.ir_model.declared.instr.Instr.{Instr}
use Rattle.pass_frames_steps.specs.ir_model.declared.operand.Callee.{Callee}
use Rattle.pass_frames_steps.specs.ir_model.declared.operand.Intrinsic.{Intrinsic}
use Rattle.pass_frames_steps.specs.ir_model.declared.operand.Operand.{Operand}
use Rattle.pass_frames_steps.specs.ir_parts.Contents.{callee_operands, instr_operands}
use Rattle.pass_frames_steps.specs.pass_cells.Cells.{fetches_of}
use Rattle.pass_frames_steps.specs.pass_copies.Uses.{is_access}
use Rattle.pass_frames_steps.specs.pass_fetch.Fetching.{callee_by, fetch_of, fetched_args, fetches_of_all, next_after_all}
use Rattle.pass_frames_steps.specs.pass_fetch.Instrs.{with_fetched}
use Rattle.pass_frames_steps.specs.pass_fetch.declared.fetch.Fetch.{Fetch}
use Rattle.pass_frames_steps.proofs.code.Idle.{instr_same}
use Rattle.pass_frames_steps.specs.Code.{is_ahead, load_name, loaded, where_name}
use Rattle.pass_frames_steps.specs.Places.{Framing, Placed, copies, plan}
use Rattle.pass_frames_steps.specs.Stepping.{IsUnlocated}
use Rattle.pass_frames_steps.proofs.pass_proofs.fetch.shape.Fetching.{none_fetched}
use Rattle.pass_frames_steps.specs.pass_proofs.fetch.rules.Fetches.{AreUnfetched}

-- what is fetched makes an access of nothing else
pub access_same : (t : List (Option Fetch)) (n : ℕ) (i : Instr) → is_access (with_fetched t n i) ≡ is_access i
access_same t n (Instr.Binary r op flags ty a b) = refl
access_same t n (Instr.Icmp r pred ty a b) = refl
access_same t n (Instr.Select r k a b) = refl
access_same t n (Instr.Cast r op nneg a to) = refl
access_same t n (Instr.Alloca r ty align) = refl
access_same t n (Instr.Load r ty p align) = refl
access_same t n (Instr.Store a p align) = refl
access_same t n (Instr.Gep r inbounds ty p indices) = refl
access_same t n (Instr.Call r must_tail ty (Callee.Named name) args) = refl
access_same t n (Instr.Call r must_tail ty (Callee.Allocator k) args) = refl
access_same t n (Instr.Call r must_tail ty (Callee.Intrinsic Intrinsic.MemcpyI64) args) = refl
access_same t n (Instr.Call r must_tail ty (Callee.Intrinsic Intrinsic.MemcpyI32) args) = refl
access_same t n (Instr.Call r must_tail ty (Callee.Local v) args) = on (fetch_of t (Operand.Local v))
  where
    on : (o : Option Fetch) → is_access (Instr.Call r must_tail ty (callee_by n o (Callee.Local v))
        (fetched_args t (next_after_all t n (callee_operands (Callee.Local v))) args)) ≡ false
    on None = refl
    on (Some f) = refl
access_same t n (Instr.Call r must_tail ty (Callee.Intrinsic _) args) = refl

-- by whether begin is ahead, and whether it is an access
by_flags : {A : Type 0} (p q : Bool) (x y : A) → (p && q) ≡ false → (if p && q then x else y) ≡ y
by_flags p q x y e = ap (λ (k : Bool). if k then x else y) e

no_second : (p q : Bool) → q ≡ false → (p && q) ≡ false
no_second true q e = e
no_second false q e = refl

no_first : (p q : Bool) → p ≡ false → (p && q) ≡ false
no_first true q e = absurd (cc)
no_first false q e = refl

module _ (x : Framing) (n : Placed) (i : Instr) where
  abbrev t : List (Option Fetch)
  t = (copies x).fetches

  abbrev l : Instr
  l = loaded x n i

  none_located : (is_ahead n && is_access l) ≡ false → IsUnlocated x n i
  none_located e = record {
    wheres = by_flags (is_ahead n) (is_access l) (fetches_of_all t (where_name n) (instr_operands l)) [] e;
    located = by_flags (is_ahead n) (is_access l) (with_fetched t (where_name n) l) l e;
  }

  pub others_unlocated : is_access i ≡ false → IsUnlocated x n i
  others_unlocated e =
      none_located (no_second (is_ahead n) (is_access l) (access_same (fetches_of (plan x)) (load_name n) i ∙ e))

  pub behind_unlocated : is_ahead n ≡ false → IsUnlocated x n i
  behind_unlocated e = none_located (no_first (is_ahead n) (is_access l) e)

  -- or where no operand is such a slot
  pub unused_unlocated : AreUnfetched t (instr_operands l) → IsUnlocated x n i
  unused_unlocated h = record {
    wheres = on_fetches (is_ahead n && is_access l);
    located = on_instr (is_ahead n && is_access l);
  }
    where
      on_fetches : (q : Bool) → (if q then fetches_of_all t (where_name n) (instr_operands l) else []) ≡ []
      on_fetches true = none_fetched t (where_name n) (instr_operands l) h
      on_fetches false = refl

      on_instr : (q : Bool) → (if q then with_fetched t (where_name n) l else l) ≡ l
      on_instr true = instr_same t (where_name n) l h
      on_instr false = refl

-- In the worked run the coroutine frees at once. Behind its coro.free it is about to free the instance, and behind the
-- deallocation it has.
use Rattle.std.proofs.Common.{◌≡◌, inl, inr, ◌+◌, ℕ, Bool, false, true, List, [], ◌∷◌, refl, sym, ap, ◌∙◌, subst}
use Rattle.std.specs.Prelude.{None, Option, Some, slice_get}
use Rattle.elide_sites.specs.Destroyed.{is_free}
use Rattle.pass_elide_proof.proofs.GoesOn.{instr_there}
use Rattle.pass_elide_proof.specs.Places.{instrs_in}
use Rattle.pass_elide_proof.specs.Releasing.{Frees, FreesAtOnce, IsFreedBehind, IsFreedSoon, IsReleasing}
use Rattle.pass_elide_proof.specs.Worked.{a_coroutine, before, the_elision, the_shape}
use Rattle.pass_proofs.proofs.rule_laws.frames.crossing.Paths.{point_there}
use Rattle.pass_proofs.specs.flow_solver.Paths.{IsListed}
use Rattle.pass_proofs.specs.ir_model.Ty.{Ty, ptr}
use Rattle.pass_proofs.specs.ir_model.declared.instr.Instr.{Instr}
use Rattle.pass_proofs.specs.ir_model.declared.module.Block.{Block}
use Rattle.pass_proofs.specs.ir_model.declared.operand.Allocator.{Allocator}
use Rattle.pass_proofs.specs.ir_model.declared.operand.Arg.{Arg}
use Rattle.pass_proofs.specs.ir_model.declared.operand.Callee.{Callee}
use Rattle.pass_proofs.specs.ir_model.declared.operand.Intrinsic.{Intrinsic}
use Rattle.pass_proofs.specs.ir_model.declared.operand.Operand.{Operand}
use Rattle.pass_proofs.specs.ir_paths.declared.point.Point.{Point}
use Rattle.pass_proofs.specs.run_source.declared.state.Instance.{Instance}
use Rattle.pass_proofs.specs.run_step.Step.{AtInstr, fetch, fetch_in}

-- the deallocation stands right behind
soon : IsFreedSoon a_coroutine 16 None 9 1
soon =
    Frees None 9 1 None false None Allocator.Free (record { ty = ptr; value = Operand.Local 16 } ∷ []) refl refl refl

module _ (block at : ℕ) (result : Option ℕ) (must_tail : Bool) (ty : Option Ty) (args : List Arg)
    (is : fetch a_coroutine block at
    ≡ AtInstr (Instr.Call result must_tail ty (Callee.Intrinsic Intrinsic.CoroFree) args)) where
  abbrev call : Instr
  call = Instr.Call result must_tail ty (Callee.Intrinsic Intrinsic.CoroFree) args

  abbrev here : Point
  here = record { block = block; at = at }

  abbrev there : Point
  there = record { block = 9; at = 0 }

  -- there is one coro.free
  listed : IsListed here (there ∷ [])
  listed = by (slice_get a_coroutine.blocks block) refl is
    where
      by : (o : Option Block) → slice_get a_coroutine.blocks block ≡ o → fetch_in o at ≡ AtInstr call
          → IsListed here (there ∷ [])
      by None eo h = absurd (cc)
      by (Some b) eo h =
          point_there is_free a_coroutine block b at call eo
          (ap (λ (o : Option Block). slice_get (instrs_in o) at) (sym eo) ∙ instr_there a_coroutine block at call is)
          refl

  its_result : (bs : List Arg)
      → AtInstr (Instr.Call (Some 16) false (Some ptr) (Callee.Intrinsic Intrinsic.CoroFree) bs) ≡ AtInstr call
      → result ≡ Some 16
  its_result bs same = let is : Some 16 ≡ result = cc in sym is

  one_freed : here ≡ there → IsFreedBehind a_coroutine the_shape block at result
  one_freed e = record {
    name = 16;
    given = its_result _ ((λ j. fetch a_coroutine (sym e j).block (sym e j).at) ∙ is);
    freed = refl;
    soon = subst (λ (p : Point). IsFreedSoon a_coroutine 16 None p.block (p.at + 1)) (sym e) soon;
  }

  freed : IsFreedBehind a_coroutine the_shape block at result
  freed = by listed
    where
      by : IsListed here (there ∷ []) → IsFreedBehind a_coroutine the_shape block at result
      by (inl e) = one_freed e
      by (inr l) = absurd l

pub worked_frees : FreesAtOnce a_coroutine the_shape
worked_frees = freed

-- the state behind coro.free
pub worked_releasing : (x : Instance) × (slice_get (before 47).instances 0 ≡ Some x) × (x.released ≡ true)
    × (x.freed ≡ false) × IsReleasing the_elision (before 47) 0 x
worked_releasing = (
  _,
  refl,
  refl,
  refl,
  record {
    instance = refl;
    name = 16;
    freed = refl;
    address = inr refl;
    test = None;
    answer = tt;
    place = soon;
  },
)

-- Records of places of several kinds, of what both runs execute themselves.
use Rattle.std.proofs.Common.{◌≡◌, ◌<◌, ◌^◌, ℕ, Bool, true, List, Option, refl, arith}
use Rattle.std.specs.Prelude.{None}
use Rattle.elide_shape.specs.Calls.{deals}
use Rattle.elide_shape.specs.declared.calls.Dealing.{Dealing}
use Rattle.pass_elide_proof.proofs.OwnPlaces.{instr_there}
use Rattle.pass_elide_proof.proofs.PlacingFacts.{no_room}
use Rattle.pass_elide_proof.proofs.PlacingOwn.{own_of}
use Rattle.pass_elide_proof.specs.Asked.{IsAtAsking, asks_same}
use Rattle.pass_elide_proof.specs.Elision.{Elision, Shape, framed, function_in, rooms}
use Rattle.pass_elide_proof.specs.Making.{HaveSlots, IsAtAlloca, IsAtAllocator, IsNotEntering}
use Rattle.pass_elide_proof.specs.Ordinary.{IsAtOrdinary}
use Rattle.pass_elide_proof.specs.Places.{room_at}
use Rattle.pass_elide_proof.specs.Placing.{IsPlain, KeepsPlaces}
use Rattle.pass_elide_proof.specs.PlacingStates.{AreAtInstr, PassesBy}
use Rattle.pass_proofs.specs.ir_base.declared.outcome.Word.{Word}
use Rattle.pass_proofs.specs.ir_model.Ty.{Ty}
use Rattle.pass_proofs.specs.ir_model.declared.instr.Instr.{Instr}
use Rattle.pass_proofs.specs.ir_model.declared.operand.Allocator.{Allocator}
use Rattle.pass_proofs.specs.ir_model.declared.operand.Arg.{Arg}
use Rattle.pass_proofs.specs.ir_model.declared.operand.Callee.{Callee}
use Rattle.pass_proofs.specs.ir_model.declared.operand.Intrinsic.{Intrinsic}
use Rattle.pass_proofs.specs.run_framed.Framed.{framed_context}
use Rattle.pass_proofs.specs.run_laws.embedded.Related.{HasNoSlot}
use Rattle.pass_proofs.specs.run_memory.declared.pointer.Value.{Value}
use Rattle.pass_proofs.specs.run_source.State.{work_of}
use Rattle.pass_proofs.specs.run_source.declared.state.State.{State}
use Rattle.pass_proofs.specs.run_step.Step.{AtInstr, Done, Work, action_of}
use Rattle.pass_proofs.specs.run_step.Values.{arg_values, nth}

-- ---- plain instructions

plain_alloca : (x : Shape) (name : ℕ) (ty : Ty) (align : ℕ) → IsPlain x (Instr.Alloca name ty align)
plain_alloca x name ty align =
    record { begins = refl; asks = refl; frees = refl; tests = refl; takes = λ is. absurd (cc) }

one_deal : (a : Allocator) → deals Dealing.Allocates a ≡ true → deals Dealing.Frees a ≡ true → ⊥
one_deal Allocator.Malloc is frees = absurd (cc)
one_deal Allocator.Znwm is frees = absurd (cc)
one_deal Allocator.Free is frees = absurd (cc)
one_deal Allocator.ZdlPv is frees = absurd (cc)
one_deal Allocator.ZdlPvm is frees = absurd (cc)

plain_allocator : (x : Shape) (a : Allocator) (result : Option ℕ) (must_tail : Bool) (ty : Option Ty)
    (args : List Arg) → deals Dealing.Allocates a ≡ true
    → IsPlain x (Instr.Call result must_tail ty (Callee.Allocator a) args)
plain_allocator x a result must_tail ty args is = record {
  begins = refl;
  asks = refl;
  frees = refl;
  tests = refl;
  takes = λ frees. absurd (one_deal a is frees);
}

pub plain_asking : (x : Shape) (j : Intrinsic) (result : Option ℕ) (must_tail : Bool) (ty : Option Ty)
    (args : List Arg) → asks_same j ≡ true → IsPlain x (Instr.Call result must_tail ty (Callee.Intrinsic j) args)
plain_asking x Intrinsic.CoroId result must_tail ty args is =
    record { begins = refl; asks = refl; frees = refl; tests = refl; takes = λ h. absurd (cc) }
plain_asking x Intrinsic.CoroSizeI32 result must_tail ty args is =
    record { begins = refl; asks = refl; frees = refl; tests = refl; takes = λ h. absurd (cc) }
plain_asking x Intrinsic.CoroSizeI64 result must_tail ty args is =
    record { begins = refl; asks = refl; frees = refl; tests = refl; takes = λ h. absurd (cc) }
plain_asking x Intrinsic.CoroAlignI32 result must_tail ty args is =
    record { begins = refl; asks = refl; frees = refl; tests = refl; takes = λ h. absurd (cc) }
plain_asking x Intrinsic.CoroAlignI64 result must_tail ty args is =
    record { begins = refl; asks = refl; frees = refl; tests = refl; takes = λ h. absurd (cc) }
plain_asking x Intrinsic.CoroFrame result must_tail ty args is =
    record { begins = refl; asks = refl; frees = refl; tests = refl; takes = λ h. absurd (cc) }
plain_asking x _ result must_tail ty args is = absurd (cc)

-- ---- places

module _ (e : Elision) (keeps : KeepsPlaces e) (s t : State) (func : t.top.func ≡ s.top.func)
    (by : PassesBy e t t.top) where
  pub ordinary : (i : Instr) (v : Work) → AreAtInstr e s t i → IsPlain (e.shape s.top.func) i
      → room_at (rooms e s.top.func) (function_in e s.top.func) s.top.block s.top.at i ≡ None
      → HasNoSlot (AtInstr i) → action_of (framed_context (framed e) s) (work_of s) (AtInstr i) ≡ Done v
      → IsAtOrdinary e s t i v
  ordinary i v at plain none no_slot does = record {
    own = own_of e keeps s t i func by at plain none;
    no_slot = no_slot;
    bytes = (keeps.instrs s.top.func).bytes s.top.block s.top.at i
        (instr_there (function_in e s.top.func) s.top.block s.top.at i at.there);
    does = does;
  }

  pub alloca_place : (name : ℕ) (ty : Ty) (align : ℕ) → AreAtInstr e s t (Instr.Alloca name ty align)
      → HaveSlots s → IsNotEntering s.top.mode → IsAtAlloca e s t name ty align
  alloca_place name ty align at slots mode =
      let small = (keeps.instrs s.top.func).allocas s.top.block s.top.at name align ty
      (instr_there (function_in e s.top.func) s.top.block s.top.at (Instr.Alloca name ty align) at.there) in
      record {
        own = own_of e keeps s t (Instr.Alloca name ty align) func by at
            (plain_alloca (e.shape s.top.func) name ty align)
            (no_room e keeps s.top.func s.top.block s.top.at (Instr.Alloca name ty align) refl);
        slots = slots;
        mode = mode;
        small = small.small;
        aligned = small.aligned;
      }

  pub allocator_place : (a : Allocator) (result : Option ℕ) (must_tail : Bool) (ty : Option Ty) (args : List Arg)
      (word : Word) → AreAtInstr e s t (Instr.Call result must_tail ty (Callee.Allocator a) args) → HaveSlots s
      → deals Dealing.Allocates a ≡ true → nth (arg_values e.code s.top.values args) 0 ≡ Value.Int word
      → word.bits < 2 ^ 64 → IsAtAllocator e s t a result must_tail ty args
  allocator_place a result must_tail ty args word at slots is size small = record {
    own = own_of e keeps s t (Instr.Call result must_tail ty (Callee.Allocator a) args) func by at
        (plain_allocator (e.shape s.top.func) a result must_tail ty args is)
        (no_room e keeps s.top.func s.top.block s.top.at
        (Instr.Call result must_tail ty (Callee.Allocator a) args) refl);
    slots = slots;
    allocates = is;
    word = word;
    size = size;
    small = small;
  }

  pub asking_place : (j : Intrinsic) (result : Option ℕ) (must_tail : Bool) (ty : Option Ty) (args : List Arg)
      → AreAtInstr e s t (Instr.Call result must_tail ty (Callee.Intrinsic j) args) → asks_same j ≡ true
      → IsAtAsking e s t j result must_tail ty args
  asking_place j result must_tail ty args at is = record {
    own = own_of e keeps s t (Instr.Call result must_tail ty (Callee.Intrinsic j) args) func by at
        (plain_asking (e.shape s.top.func) j result must_tail ty args is)
        (no_room e keeps s.top.func s.top.block s.top.at
        (Instr.Call result must_tail ty (Callee.Intrinsic j) args) refl);
    asks = is;
  }

-- Records of places of coro intrinsics that stand in coroutines.
use Rattle.std.proofs.Common.{◌≡◌, ℕ, Bool, true, false, List, Option, refl, sym, ◌∙◌, subst, arith}
use Rattle.std.specs.Prelude.{None, Some, slice_get}
use Rattle.pass_elide_proof.proofs.OwnPlaces.{instr_there}
use Rattle.pass_elide_proof.proofs.PlacingFacts.{holds_still}
use Rattle.pass_elide_proof.proofs.PlacingOwn.{never_waits}
use Rattle.pass_elide_proof.proofs.Roomless.{front_same, own_same}
use Rattle.pass_elide_proof.specs.Both.{AreAtCall, HoldsOn, IsAtAsking, IsAtConstant, IsPlainName, is_constant}
use Rattle.pass_elide_proof.specs.Elision.{Elision, Shape, function_in, rooms}
use Rattle.pass_elide_proof.specs.Frees.{IsAtFree}
use Rattle.pass_elide_proof.specs.Match.{instance_in, is_given_mode}
use Rattle.pass_elide_proof.specs.Places.{instrs_of}
use Rattle.pass_elide_proof.specs.Placing.{HasShape, KeepsPlaces, SetsPlain, is_own}
use Rattle.pass_elide_proof.specs.PlacingStates.{AreAtIntrinsic, HaveShapes, PassesBy}
use Rattle.pass_elide_proof.specs.Saves.{IsAtSave, IsAtSuspend, MaySave}
use Rattle.pass_elide_proof.specs.Waking.{GivesNone}
use Rattle.pass_proofs.specs.ir_model.Ty.{Ty}
use Rattle.pass_proofs.specs.ir_model.declared.instr.Instr.{Instr}
use Rattle.pass_proofs.specs.ir_model.declared.module.Function.{Function}
use Rattle.pass_proofs.specs.ir_model.declared.operand.Arg.{Arg}
use Rattle.pass_proofs.specs.ir_model.declared.operand.Callee.{Callee}
use Rattle.pass_proofs.specs.ir_model.declared.operand.Intrinsic.{Intrinsic}
use Rattle.pass_proofs.specs.ir_model.declared.operand.Operand.{Operand}
use Rattle.pass_proofs.specs.ir_paths.Windows.{operand_at}
use Rattle.pass_proofs.specs.run_framed.Framed.{is_given}
use Rattle.pass_proofs.specs.run_source.declared.state.Instance.{Instance}
use Rattle.pass_proofs.specs.run_source.declared.state.State.{State}
use Rattle.pass_proofs.specs.ir_model.Names.{same_intrinsic}

-- ---- what the intrinsic is

-- it is none of three
record IsOther (j : Intrinsic) : Type 0 where
  begins : same_intrinsic Intrinsic.CoroBegin j ≡ false
  asks : same_intrinsic Intrinsic.CoroAlloc j ≡ false
  frees : same_intrinsic Intrinsic.CoroFree j ≡ false
  own : is_own j ≡ true

other_constant : (j : Intrinsic) → is_constant j ≡ true → IsOther j
other_constant Intrinsic.CoroId is = record { begins = refl; asks = refl; frees = refl; own = refl }
other_constant Intrinsic.CoroSizeI32 is = record { begins = refl; asks = refl; frees = refl; own = refl }
other_constant Intrinsic.CoroSizeI64 is = record { begins = refl; asks = refl; frees = refl; own = refl }
other_constant Intrinsic.CoroAlignI32 is = record { begins = refl; asks = refl; frees = refl; own = refl }
other_constant Intrinsic.CoroAlignI64 is = record { begins = refl; asks = refl; frees = refl; own = refl }
other_constant Intrinsic.CoroFrame is = record { begins = refl; asks = refl; frees = refl; own = refl }
other_constant _ is = absurd (cc)

module _ (e : Elision) (keeps : KeepsPlaces e) (s t : State) (func : t.top.func ≡ s.top.func)
    (j : Intrinsic) (result : Option ℕ) (must_tail : Bool) (ty : Option Ty)
    (args : List Arg) (at : AreAtIntrinsic e s t j result must_tail ty args) (is_own : is_own j ≡ true) where
  abbrev f : Function
  f = function_in e s.top.func

  abbrev x : Shape
  x = e.shape s.top.func

  abbrev call : Instr
  call = Instr.Call result must_tail ty (Callee.Intrinsic j) args

  there : slice_get (instrs_of f s.top.block) s.top.at ≡ Some call
  there = instr_there f s.top.block s.top.at call at.there

  pub none : GivesNone e s.top.func
  none =
      (keeps.wakes s.top.func
      ((keeps.instrs s.top.func).own s.top.block s.top.at result must_tail ty j args there is_own)).none

  set : (v : ℕ) → result ≡ Some v → SetsPlain f x s.top.block s.top.at call v
  set v is = (keeps.instrs s.top.func).sets s.top.block s.top.at v call there is

  pub call_place : AreAtCall e s t j result must_tail ty args
  call_place = record {
    runs = at.runs;
    there = at.there;
    block = at.block;
    front = at.front;
    own = at.front
        ∙ (front_same (rooms e s.top.func) f none s.top.block s.top.at
        ∙ sym (own_same (rooms e s.top.func) f none s.top.block s.top.at));
    names = λ v is. (set v is).low;
  }

  module _ (by : PassesBy e t t.top) (begins : same_intrinsic Intrinsic.CoroBegin j ≡ false) where
    pub holds_on : HoldsOn e s t result
    holds_on = record {
      holds = λ h. holds_still e s.top.func s.top.block s.top.at call there begins
          (never_waits e keeps s t func at.block by h) (keeps.shapes s.top.func);
      kept = λ h v name is held. (set v is).kept name held;
    }

  pub plain_name : same_intrinsic Intrinsic.CoroAlloc j ≡ false → same_intrinsic Intrinsic.CoroFree j ≡ false
      → (v : ℕ) → result ≡ Some v → IsPlainName x v
  plain_name asks frees v is = record {
    need = (set v is).need asks;
    other = record { freed = (set v is).freed frees; tested = (set v is).tested refl };
  }

-- ---- records of places

module _ (e : Elision) (keeps : KeepsPlaces e) (s t : State) (func : t.top.func ≡ s.top.func)
    (by : PassesBy e t t.top) where
  pub constant_place : (j : Intrinsic) (result : Option ℕ) (must_tail : Bool) (ty : Option Ty) (args : List Arg)
      → AreAtIntrinsic e s t j result must_tail ty args → is_constant j ≡ true
      → IsAtConstant e s t j result must_tail ty args
  constant_place j result must_tail ty args at is =
      let other = other_constant j is in
      record {
        call = call_place e keeps s t func j result must_tail ty args at other.own;
        constant = is;
        holds = holds_on e keeps s t func j result must_tail ty args at other.own by other.begins;
        plain = plain_name e keeps s t func j result must_tail ty args at other.own other.asks other.frees;
      }

  module _ (shapes : HaveShapes e t) (result : Option ℕ) (must_tail : Bool) (ty : Option Ty) (args : List Arg) where
    pub alloc_place : AreAtIntrinsic e s t Intrinsic.CoroAlloc result must_tail ty args
        → IsAtAsking e s t result must_tail ty args
    alloc_place at =
        let set = λ (v : ℕ) (is : result ≡ Some v). (keeps.instrs s.top.func).sets s.top.block s.top.at v
        (Instr.Call result must_tail ty (Callee.Intrinsic Intrinsic.CoroAlloc) args)
        (instr_there (function_in e s.top.func) s.top.block s.top.at
        (Instr.Call result must_tail ty (Callee.Intrinsic Intrinsic.CoroAlloc) args) at.there) is in
        record {
          call = call_place e keeps s t func Intrinsic.CoroAlloc result must_tail ty args at refl;
          holds = holds_on e keeps s t func Intrinsic.CoroAlloc result must_tail ty args at refl by refl;
          need = λ v is given.
              (shaped given).need s.top.block s.top.at v
              (Instr.Call result must_tail ty (Callee.Intrinsic Intrinsic.CoroAlloc) args)
              (instr_there (function_in e s.top.func) s.top.block s.top.at
              (Instr.Call result must_tail ty (Callee.Intrinsic Intrinsic.CoroAlloc) args) at.there) refl is;
          other = λ v is. record { freed = (set v is).freed refl; tested = (set v is).tested refl };
        }
      where
        shaped : is_given_mode t.top.mode ≡ true → HasShape e s.top.func
        shaped given = subst (λ (n : ℕ). HasShape e n) func (shapes.ramps.0 given)

    -- the framed run gives no frames, and a ramp that was given its frame has begun there
    pub free_place : ((i : ℕ) (y : Instance) → slice_get s.instances i ≡ Some y → is_given s.world.memory y ≡ false)
        → ((y : Instance) → instance_in t.instances t.top.instance ≡ Some y → is_given_mode t.top.mode ≡ true
        → is_given t.world.memory y ≡ true)
        → ((y : Instance) → instance_in t.instances t.top.instance ≡ Some y → y.coroutine ≡ t.top.func)
        → AreAtIntrinsic e s t Intrinsic.CoroFree result must_tail ty args
        → IsAtFree e s t result must_tail ty args
    free_place allocates ramp own at =
        let call = Instr.Call result must_tail ty (Callee.Intrinsic Intrinsic.CoroFree) args in
        let here = instr_there (function_in e s.top.func) s.top.block s.top.at
        (Instr.Call result must_tail ty (Callee.Intrinsic Intrinsic.CoroFree) args) at.there in
        let set = λ (v : ℕ) (is : result ≡ Some v). (keeps.instrs s.top.func).sets s.top.block s.top.at v
        (Instr.Call result must_tail ty (Callee.Intrinsic Intrinsic.CoroFree) args) here is in
        record {
          call = call_place e keeps s t func Intrinsic.CoroFree result must_tail ty args at refl;
          holds = holds_on e keeps s t func Intrinsic.CoroFree result must_tail ty args at refl by refl;
          allocates = allocates;
          ramp = ramp;
          freed = λ v y is there given. (shaped y there given).freed s.top.block s.top.at v call here refl is;
          need = λ v is. (set v is).need refl;
          tested = λ v is. (set v is).tested refl;
        }
      where
        known : (o : Option ℕ) (y : Instance) → instance_in t.instances o ≡ Some y
            → (i : ℕ) × (slice_get t.instances i ≡ Some y)
        known None y is = absurd (cc)
        known (Some i) y is = (i, is)

        shaped : (y : Instance) → instance_in t.instances t.top.instance ≡ Some y
            → is_given t.world.memory y ≡ true → HasShape e s.top.func
        shaped y there given =
            let at = known t.top.instance y there in
            subst (λ (n : ℕ). HasShape e n) (own y there ∙ func) (shapes.instances at.0 y at.1 given)

  module _ (may : MaySave e s) (result : Option ℕ) (must_tail : Bool) (ty : Option Ty) (args : List Arg) where
    pub save_place : AreAtIntrinsic e s t Intrinsic.CoroSave result must_tail ty args
        → IsAtSave e s t result must_tail ty args
    save_place at = record {
      call = call_place e keeps s t func Intrinsic.CoroSave result must_tail ty args at refl;
      holds = holds_on e keeps s t func Intrinsic.CoroSave result must_tail ty args at refl by refl;
      may = may;
    }

  module _ (result : Option ℕ) (must_tail : Bool) (ty : Option Ty) (args : List Arg) where
    pub suspend_place : (operand_at args 0 ≡ Operand.None → MaySave e s)
        → AreAtIntrinsic e s t Intrinsic.CoroSuspend result must_tail ty args
        → IsAtSuspend e s t result must_tail ty args
    suspend_place may at = record {
      call = call_place e keeps s t func Intrinsic.CoroSuspend result must_tail ty args at refl;
      holds = holds_on e keeps s t func Intrinsic.CoroSuspend result must_tail ty args at refl by refl;
      plain = plain_name e keeps s t func Intrinsic.CoroSuspend result must_tail ty args at refl refl refl;
      may = may;
    }

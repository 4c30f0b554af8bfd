-- Records of places at which a function is entered, or an instance woken.
use Rattle.std.proofs.Common.{◌≡◌, ◌⊎◌, inl, inr, ℕ, Bool, true, List, [], ◌∷◌, Option, refl, ap, ◌||◌, ◌==◌}
use Rattle.std.specs.Prelude.{None, Some, slice_get}
use Rattle.pass_elide.specs.declared.given.GivenFrame.{GivenFrame}
use Rattle.pass_elide_proof.proofs.GivingMarkers.{plain_put}
use Rattle.pass_elide_proof.proofs.OwnPlaces.{instr_there}
use Rattle.pass_elide_proof.proofs.PlacingFacts.{alike_args, alike_operand, by_truth, holds_over, no_ramp, no_room}
use Rattle.pass_elide_proof.proofs.PlacingOwn.{alike}
use Rattle.pass_elide_proof.proofs.Reading.{or_right}
use Rattle.pass_elide_proof.specs.Calling.{IsAtCall, IsAtSite, IsBehindFront, differing}
use Rattle.pass_elide_proof.specs.Elision.{Elision, Shape, framed, function_in, rooms}
use Rattle.pass_elide_proof.specs.Invariant.{HaveCallers}
use Rattle.pass_elide_proof.specs.Places.{allocas_ahead, front_at, put_by, room_at}
use Rattle.pass_elide_proof.specs.Placing.{IsPlain, KeepsPlaces}
use Rattle.pass_elide_proof.specs.PlacingStates.{AreAtInstr, AreOfCoroutines, PassesBy}
use Rattle.pass_elide_proof.specs.Waking.{IsAtWaking}
use Rattle.pass_proofs.specs.ir_base.declared.name.Name.{Name}
use Rattle.pass_proofs.proofs.ir_laws.facts.Truth.{itself}
use Rattle.pass_proofs.specs.ir_model.Names.{function_named, is_local}
use Rattle.pass_proofs.specs.ir_model.Ty.{Ty}
use Rattle.pass_proofs.specs.ir_model.declared.instr.Instr.{Instr}
use Rattle.pass_proofs.specs.ir_model.declared.module.Function.{Function}
use Rattle.pass_proofs.specs.ir_model.declared.operand.Arg.{Arg}
use Rattle.pass_proofs.specs.ir_model.declared.operand.Callee.{Callee}
use Rattle.pass_proofs.specs.ir_model.declared.operand.Intrinsic.{Intrinsic}
use Rattle.pass_proofs.specs.ir_paths.Slots.{is_in_args}
use Rattle.pass_proofs.specs.run_agreement.Machines.{IsFine}
use Rattle.pass_proofs.specs.run_framed.Framed.{framed_step}
use Rattle.pass_proofs.specs.run_memory.declared.pointer.Pointer.{Pointer}
use Rattle.pass_proofs.specs.run_memory.declared.pointer.Value.{Value}
use Rattle.pass_proofs.specs.run_source.declared.state.State.{State}
use Rattle.pass_proofs.specs.run_step.Reads.{reads_intrinsic}
use Rattle.pass_proofs.specs.run_step.Step.{fits_function}
use Rattle.pass_proofs.specs.run_step.Values.{value_in}

-- ---- plain calls

plain_named : (x : Shape) (result : Option ℕ) (must_tail : Bool) (ty : Option Ty) (n : Name) (args : List Arg)
    → IsPlain x (Instr.Call result must_tail ty (Callee.Named n) args)
plain_named x result must_tail ty n args =
    record { begins = refl; asks = refl; frees = refl; tests = refl; takes = λ is. absurd (cc) }

plain_local : (x : Shape) (result : Option ℕ) (must_tail : Bool) (ty : Option Ty) (v : ℕ) (args : List Arg)
    → IsPlain x (Instr.Call result must_tail ty (Callee.Local v) args)
plain_local x result must_tail ty v args =
    record { begins = refl; asks = refl; frees = refl; tests = refl; takes = λ is. absurd (cc) }

plain_waking : (x : Shape) (j : Intrinsic) (result : Option ℕ) (must_tail : Bool) (ty : Option Ty) (args : List Arg)
    → (j ≡ Intrinsic.CoroResume) ⊎ (j ≡ Intrinsic.CoroDestroy)
    → IsPlain x (Instr.Call result must_tail ty (Callee.Intrinsic j) args)
plain_waking x Intrinsic.CoroResume result must_tail ty args is =
    record { begins = refl; asks = refl; frees = refl; tests = refl; takes = λ h. absurd (cc) }
plain_waking x Intrinsic.CoroDestroy result must_tail ty args is =
    record { begins = refl; asks = refl; frees = refl; tests = refl; takes = λ h. absurd (cc) }
plain_waking x _ result must_tail ty args (inl is) = absurd (cc)
plain_waking x _ result must_tail ty args (inr is) = absurd (cc)

module _ (e : Elision) (keeps : KeepsPlaces e) (s t : State) (func : t.top.func ≡ s.top.func)
    (by : PassesBy e t t.top) where
  abbrev f : Function
  f = function_in e s.top.func

  -- ---- calls

  pub named_place : (result : Option ℕ) (must_tail : Bool) (ty : Option Ty) (n : Name) (args : List Arg) (callee : ℕ)
      → AreAtInstr e s t (Instr.Call result must_tail ty (Callee.Named n) args)
      → room_at (rooms e s.top.func) (function_in e s.top.func) s.top.block s.top.at
      (Instr.Call result must_tail ty (Callee.Named n) args) ≡ None
      → function_named e.code n ≡ Some callee → IsAtCall e s t
  named_place result must_tail ty n args callee at none named =
      let call = Instr.Call result must_tail ty (Callee.Named n) args in
      let there = instr_there f s.top.block s.top.at (Instr.Call result must_tail ty (Callee.Named n) args) at.there in
      record {
        runs = at.runs;
        result = result;
        must_tail = must_tail;
        ty = ty;
        callee = Callee.Named n;
        args = args;
        there = there;
        none = none;
        func = callee;
        calls = (named, no_ramp e.code keeps.ungiven s.top.func s.top.block s.top.at call at.there n refl);
        reads = alike_args (differing e s t) args
            (alike e keeps s t call func by at (plain_named (e.shape s.top.func) result must_tail ty n args));
        holds = holds_over e s.top.func s.top.block s.top.at call there refl refl (keeps.shapes s.top.func);
      }

  pub local_place : (result : Option ℕ) (must_tail : Bool) (ty : Option Ty) (v : ℕ) (args : List Arg) (callee : ℕ)
      → AreAtInstr e s t (Instr.Call result must_tail ty (Callee.Local v) args)
      → value_in s.top.values v ≡ Value.Ptr (Pointer.Func callee)
      → fits_function ty args (slice_get e.code.functions callee) ≡ true → IsAtCall e s t
  local_place result must_tail ty v args callee at leads fits =
      let call = Instr.Call result must_tail ty (Callee.Local v) args in
      let there = instr_there f s.top.block s.top.at (Instr.Call result must_tail ty (Callee.Local v) args) at.there in
      let alike' = alike e keeps s t call func by at (plain_local (e.shape s.top.func) result must_tail ty v args) in
      record {
        runs = at.runs;
        result = result;
        must_tail = must_tail;
        ty = ty;
        callee = Callee.Local v;
        args = args;
        there = there;
        none = no_room e keeps s.top.func s.top.block s.top.at call refl;
        func = callee;
        calls = (alike' v (λ j. itself v j || is_in_args v args), leads, fits);
        reads = alike_args (differing e s t) args (λ u is. alike' u (or_right (u == v) (is_in_args u args) is));
        holds = holds_over e s.top.func s.top.block s.top.at call there refl refl (keeps.shapes s.top.func);
      }

  pub site_place : (result : Option ℕ) (must_tail : Bool) (ty : Option Ty) (n : Name) (args : List Arg)
      (size align : ℕ) → AreAtInstr e s t (Instr.Call result must_tail ty (Callee.Named n) args)
      → room_at (rooms e s.top.func) (function_in e s.top.func) s.top.block s.top.at
      (Instr.Call result must_tail ty (Callee.Named n) args) ≡ Some (GivenFrame.Alloca size align) → IsAtSite e s t
  site_place result must_tail ty n args size align at room =
      let call = Instr.Call result must_tail ty (Callee.Named n) args in
      let there = instr_there f s.top.block s.top.at (Instr.Call result must_tail ty (Callee.Named n) args) at.there in
      let gives = keeps.calls s.top.func s.top.block s.top.at size align result must_tail ty n args there room in
      record {
        runs = at.runs;
        result = result;
        must_tail = must_tail;
        ty = ty;
        name = n;
        args = args;
        there = there;
        size = size;
        align = align;
        room = room;
        func = gives.func;
        named = gives.named;
        ungiven = no_ramp e.code keeps.ungiven s.top.func s.top.block s.top.at call at.there n refl;
        given = gives.given;
        starts = gives.starts;
        fits = gives.fits;
        reads = alike_args (differing e s t) args
            (alike e keeps s t call func by at (plain_named (e.shape s.top.func) result must_tail ty n args));
        holds = holds_over e s.top.func s.top.block s.top.at call there refl refl (keeps.shapes s.top.func);
      }

  -- ---- resumes and destroys

  pub waking_place : (j : Intrinsic) (result : Option ℕ) (must_tail : Bool) (ty : Option Ty) (arg : Arg)
      (rest : List Arg) → (j ≡ Intrinsic.CoroResume) ⊎ (j ≡ Intrinsic.CoroDestroy)
      → AreAtInstr e s t (Instr.Call result must_tail ty (Callee.Intrinsic j) (arg ∷ rest))
      → AreOfCoroutines e s.instances → HaveCallers e t → IsFine (framed_step (framed e) s).outcome
      → IsAtWaking e s t
  waking_place j result must_tail ty arg rest wakes at coroutines callers fine =
      let call = Instr.Call result must_tail ty (Callee.Intrinsic j) (arg ∷ rest) in
      let there = instr_there f s.top.block s.top.at
      (Instr.Call result must_tail ty (Callee.Intrinsic j) (arg ∷ rest)) at.there in
      let plain = plain_waking (e.shape s.top.func) j result must_tail ty (arg ∷ rest) wakes in
      record {
        runs = at.runs;
        by = j;
        wakes = wakes;
        result = result;
        must_tail = must_tail;
        ty = ty;
        arg = arg;
        rest = rest;
        there = there;
        none = no_room e keeps s.top.func s.top.block s.top.at call refl;
        reads = alike_operand (differing e s t) arg.value
            (λ v is. alike e keeps s t call func by at plain v (read_first j wakes v is));
        holds = holds_over e s.top.func s.top.block s.top.at call there plain.begins refl (keeps.shapes s.top.func);
        alike = λ n x is. keeps.wakes x.coroutine (coroutines n x is);
        callers = callers;
        fine = fine;
      }
    where
      read_first : (k : Intrinsic) → (k ≡ Intrinsic.CoroResume) ⊎ (k ≡ Intrinsic.CoroDestroy) → (v : ℕ)
          → is_local v arg.value ≡ true → reads_intrinsic v k (arg ∷ rest) ≡ true
      read_first Intrinsic.CoroResume w v is = is
      read_first Intrinsic.CoroDestroy w v is = is
      read_first _ (inl w) v is = absurd (cc)
      read_first _ (inr w) v is = absurd (cc)

-- ---- what is put in front of calls

module _ (e : Elision) (keeps : KeepsPlaces e) (func : ℕ) where
  -- no call has an instruction of its own in front of it
  pub unput : (block at : ℕ) (i : Instr) → put_by (rooms e func block at i) ≡ 0
  unput block at i =
      by_truth (function_in e func).coroutine (λ is. ap put_by ((keeps.wakes func is).none block at i))
      (λ is. plain_put e func is block at i)

pub behind_place : (e : Elision) (keeps : KeepsPlaces e) (s t : State) → t.top.block ≡ s.top.block
    → t.top.at ≡ front_at (rooms e s.top.func) (function_in e s.top.func) s.top.block s.top.at
    → (s.top.block ≡ 0 → s.top.at ≡ 0 → allocas_ahead (rooms e s.top.func) (function_in e s.top.func) ≡ [])
    → IsBehindFront e s t
behind_place e keeps s t block at none =
    record { block = block; at = at; unput = unput e keeps s.top.func; none = none }

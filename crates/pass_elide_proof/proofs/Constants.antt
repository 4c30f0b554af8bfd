-- Both runs execute a coro intrinsic that gives a constant.
use Rattle.std.proofs.Common.{◌≡◌, inr, ℕ, Bool, true, false, List, Ok, refl, ap, ◌&&◌, ◌||◌, if◌then◌else◌}
use Rattle.std.specs.Prelude.{None, Option, Some, pos}
use Rattle.pass_elide_proof.proofs.Addresses.{own_frames_stand}
use Rattle.pass_elide_proof.proofs.AtCalls.{both_step, name_held, name_kept, own_place}
use Rattle.pass_elide_proof.proofs.Setting.{IsAskedTo, SetsAlike, given_beside}
use Rattle.pass_elide_proof.specs.Both.{HoldsOn, IsAtAsking, IsAtConstant, is_constant}
use Rattle.pass_elide_proof.specs.Elision.{Elision, Shape, differs_in, elided, framed}
use Rattle.pass_elide_proof.specs.Match.{AreElided, AreModes, Given, Same, is_given_mode, sides, was_given}
use Rattle.pass_proofs.specs.ir_model.Ty.{Ty}
use Rattle.pass_proofs.specs.ir_model.declared.instr.Instr.{Instr}
use Rattle.pass_proofs.specs.ir_model.declared.operand.Arg.{Arg}
use Rattle.pass_proofs.specs.ir_model.declared.operand.Callee.{Callee}
use Rattle.pass_proofs.specs.ir_model.declared.operand.Intrinsic.{Intrinsic}
use Rattle.pass_proofs.specs.run_framed.Framed.{allocates, framed_next, framed_step}
use Rattle.pass_proofs.specs.run_laws.memory.Pointers.{IsValue}
use Rattle.pass_proofs.specs.run_memory.declared.pointer.Value.{Value}
use Rattle.pass_proofs.specs.run_source.Source.{frame_address}
use Rattle.pass_proofs.specs.run_source.State.{gives, own_frame, own_instance}
use Rattle.pass_proofs.specs.run_source.declared.state.Mode.{Mode}
use Rattle.pass_proofs.specs.run_source.declared.state.State.{State}
use Rattle.pass_proofs.specs.run_source_tables.Given.{frame_of}
use Rattle.pass_proofs.specs.run_step.Step.{AtInstr, Fetched}
use Rattle.pass_proofs.specs.run_step.Values.{integer, truth_value}

no_truth : (b : Bool) → b ≡ false → b ≡ true → ⊥
no_truth true e h = absurd (cc)
no_truth false e h = absurd (cc)

no_answer : {A : Type 0} (o : Option A) (q : A) → o ≡ None → o ≡ Some q → ⊥
no_answer None q e h = absurd (cc)
no_answer (Some p) q e h = absurd (cc)

module _ (e : Elision) (s t : State) (i : Intrinsic) (result : Option ℕ) (must_tail : Bool) (ty : Option Ty)
    (args : List Arg) (r : AreElided e s t) (at : IsAtConstant e s t i result must_tail ty args) where
  abbrev here : Intrinsic → Fetched
  here j = AtInstr (Instr.Call result must_tail ty (Callee.Intrinsic j) args)

  -- the values that both steps give, to the result or to no name
  record GivesBoth (j : Intrinsic) : Type 0 where
    name : Option ℕ
    first : Value
    second : Value
    goes : framed_next (framed e) s (here j) ≡ Ok (gives s name first)
    other : framed_next (elided e) t (here j) ≡ Ok (gives t name second)
    is : (n : ℕ) → name ≡ Some n → result ≡ Some n
    stands : IsValue r.homes first second

  no_name : (n : ℕ) → None ≡ Some n → result ≡ Some n
  no_name n e = absurd (cc)

  given : (j : Intrinsic) → is_constant j ≡ true → GivesBoth j
  given Intrinsic.CoroId h = record {
    name = None;
    first = Value.Poison;
    second = Value.Poison;
    goes = refl;
    other = refl;
    is = no_name;
    stands = tt;
  }
  given Intrinsic.CoroSizeI32 h = record {
    name = result;
    first = integer 32 (pos (own_frame (framed e).given s).size);
    second = integer 32 (pos (own_frame (elided e).given t).size);
    goes = refl;
    other = refl;
    is = λ n set. set;
    stands = ap (λ (n : ℕ). integer 32 (pos (frame_of (framed e).given.sizes n).size)) r.top.func;
  }
  given Intrinsic.CoroSizeI64 h = record {
    name = result;
    first = integer 64 (pos (own_frame (framed e).given s).size);
    second = integer 64 (pos (own_frame (elided e).given t).size);
    goes = refl;
    other = refl;
    is = λ n set. set;
    stands = ap (λ (n : ℕ). integer 64 (pos (frame_of (framed e).given.sizes n).size)) r.top.func;
  }
  given Intrinsic.CoroAlignI32 h = record {
    name = result;
    first = integer 32 (pos (own_frame (framed e).given s).align);
    second = integer 32 (pos (own_frame (elided e).given t).align);
    goes = refl;
    other = refl;
    is = λ n set. set;
    stands = ap (λ (n : ℕ). integer 32 (pos (frame_of (framed e).given.sizes n).align)) r.top.func;
  }
  given Intrinsic.CoroAlignI64 h = record {
    name = result;
    first = integer 64 (pos (own_frame (framed e).given s).align);
    second = integer 64 (pos (own_frame (elided e).given t).align);
    goes = refl;
    other = refl;
    is = λ n set. set;
    stands = ap (λ (n : ℕ). integer 64 (pos (frame_of (framed e).given.sizes n).align)) r.top.func;
  }
  given Intrinsic.CoroFrame h = record {
    name = result;
    first = frame_address (own_instance s);
    second = frame_address (own_instance t);
    goes = refl;
    other = refl;
    is = λ n set. set;
    stands = own_frames_stand e s t r;
  }
  given Intrinsic.CoroAlloc h = absurd (cc)
  given Intrinsic.CoroBegin h = absurd (cc)
  given Intrinsic.CoroFree h = absurd (cc)
  given Intrinsic.CoroSave h = absurd (cc)
  given Intrinsic.CoroSuspend h = absurd (cc)
  given Intrinsic.CoroEnd h = absurd (cc)
  given Intrinsic.CoroResume h = absurd (cc)
  given Intrinsic.CoroDestroy h = absurd (cc)
  given Intrinsic.CoroDone h = absurd (cc)
  given Intrinsic.CoroPromise h = absurd (cc)
  given Intrinsic.LifetimeStart h = absurd (cc)
  given Intrinsic.LifetimeEnd h = absurd (cc)
  given Intrinsic.MemcpyI64 h = absurd (cc)
  given Intrinsic.MemcpyI32 h = absurd (cc)

  module _ (k : GivesBoth i) where
    sets : SetsAlike e r.homes (sides s t) s.top t.top k.name k.first k.second
    sets = record {
      names = λ n set. at.call.names n (k.is n set);
      alike = λ n set calm. k.stands;
      asked = λ n set ramp is. absurd (no_truth _ (at.plain n (k.is n set)).need is);
      freed = λ n set given is. absurd (no_truth _ (at.plain n (k.is n set)).other.freed is);
      tested = λ n is_eq set given is. absurd (no_answer _ is_eq (at.plain n (k.is n set)).other.tested is);
    }

    -- no name that is held is set
    holds : HoldsOn e s t k.name
    holds = record {
      holds = at.holds.holds;
      kept = λ ramp v name set held. at.holds.kept ramp v name (k.is v set) held;
    }

    goes_both : AreElided e (framed_step (framed e) s) (framed_step (elided e) t)
    goes_both =
        both_step e s t i result must_tail ty args r at.call (gives s k.name k.first) (gives t k.name k.second)
        k.goes k.other
        (given_beside e s t r k.name k.first k.second (own_place e s t i result must_tail ty args r at.call) sets
        (name_held e s t k.name holds k.first s.top.has_left) (name_kept e s t k.name holds))

  pub constant_beside : AreElided e (framed_step (framed e) s) (framed_step (elided e) t)
  constant_beside = goes_both (given i at.constant)

-- ---- coro.alloc

module _ (e : Elision) (s t : State) (result : Option ℕ) (must_tail : Bool) (ty : Option Ty) (args : List Arg)
    (r : AreElided e s t) (at : IsAtAsking e s t result must_tail ty args) where
  abbrev v : Value
  v = truth_value (allocates s.top.mode)

  abbrev w : Value
  w = truth_value (allocates t.top.mode)

  -- a given ramp stands beside a ramp that allocates
  asked_so : (a c : Mode) → AreModes a c → is_given_mode c ≡ true
      → IsAskedTo (truth_value (allocates a)) (truth_value (allocates c))
  asked_so _ _ (Same mode asks) ramp = absurd (both_ways (allocates mode) asks ramp)
    where
      both_ways : (b : Bool) → b ≡ true → (if b then false else true) ≡ true → ⊥
      both_ways true h k = absurd (cc)
      both_ways false h k = absurd (cc)
  asked_so _ _ (Given block offset) ramp = inr (refl, refl)

  same_so : (a c : Mode) → AreModes a c → is_given_mode c ≡ false
      → IsValue r.homes (truth_value (allocates a)) (truth_value (allocates c))
  same_so _ _ (Same mode asks) ramp = refl
  same_so _ _ (Given block offset) ramp = absurd (cc)

  differs : (x : Shape) (ramp given : Bool) (n : ℕ) → ramp ≡ true → x.need n ≡ true
      → differs_in x ramp given n ≡ false → ⊥
  differs x ramp given n is need h = never_so ramp (x.need n) (x.made n) _ is need h
    where
      never_so : (a b c d : Bool) → a ≡ true → b ≡ true → ((a && (b || c)) || d) ≡ false → ⊥
      never_so true true c d f g h = absurd (cc)
      never_so true false c d f g h = absurd (cc)
      never_so false b c d f g h = absurd (cc)

  by_mode : (b : Bool) → is_given_mode t.top.mode ≡ b → (n : ℕ) → result ≡ Some n
      → differs_in (e.shape s.top.func) (is_given_mode t.top.mode) (was_given (sides s t) t.top) n ≡ false
      → IsValue r.homes v w
  by_mode true ramp n set calm =
      absurd (differs (e.shape s.top.func) (is_given_mode t.top.mode) (was_given (sides s t) t.top) n ramp
      (at.need n set ramp) calm)
  by_mode false ramp n set calm = same_so s.top.mode t.top.mode r.top.mode ramp

  asked_sets : SetsAlike e r.homes (sides s t) s.top t.top result v w
  asked_sets = record {
    names = at.call.names;
    alike = by_mode (is_given_mode t.top.mode) refl;
    asked = λ n set ramp is. asked_so s.top.mode t.top.mode r.top.mode ramp;
    freed = λ n set given is. absurd (no_truth _ (at.other n set).freed is);
    tested = λ n is_eq set given is. absurd (no_answer _ is_eq (at.other n set).tested is);
  }

  pub asked_beside : AreElided e (framed_step (framed e) s) (framed_step (elided e) t)
  asked_beside =
      both_step e s t Intrinsic.CoroAlloc result must_tail ty args r at.call (gives s result v) (gives t result w)
      refl refl
      (given_beside e s t r result v w (own_place e s t Intrinsic.CoroAlloc result must_tail ty args r at.call)
      asked_sets
      (name_held e s t result at.holds v s.top.has_left) (name_kept e s t result at.holds))

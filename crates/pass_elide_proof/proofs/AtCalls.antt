-- Both runs execute the same call of a coro intrinsic.
use Rattle.std.proofs.Common.{◌≡◌, ◌<◌, ◌+◌, ℕ, zero, suc, Bool, true, false, List, [], ◌∷◌, length, Ok, Err, refl, sym, ap, ◌∙◌, subst, arith, ◌==◌, if◌then◌else◌}
use Rattle.std.specs.Prelude.{None, Option, Result, Some, ℤ, option_map, slice_get}
use Rattle.pass_elide.specs.declared.given.GivenFrame.{GivenFrame}
use Rattle.pass_elide_proof.proofs.Modules.{addresses, finds_alike}
use Rattle.pass_elide_proof.proofs.Setting.{IsOwnPlace, went}
use Rattle.pass_elide_proof.proofs.Sized.{stepped}
use Rattle.pass_elide_proof.proofs.Standing.{has_code}
use Rattle.pass_elide_proof.specs.Both.{AreAtCall, HoldsOn}
use Rattle.pass_elide_proof.specs.Elision.{Elision, differs_in, elided, elided_code, framed, function_in, function_in_elided, rooms}
use Rattle.pass_elide_proof.specs.Match.{AreElided, AreNamed, held_name, is_given_mode}
use Rattle.pass_elide_proof.specs.Places.{allocas_ahead, elided_instr, front_at, instrs_in, instrs_of, name_at, own_at, phi_count, put_up_to, room_at}
use Rattle.pass_proofs.specs.ir_base.declared.cause.Cause.{Cause}
use Rattle.pass_proofs.specs.ir_base.declared.name.Name.{Name}
use Rattle.pass_proofs.specs.ir_model.Names.{declaration_named, first_where, function_named, global_named, same_name}
use Rattle.pass_proofs.specs.ir_model.Ty.{Ty, array, int, named, ptr, structure, token}
use Rattle.pass_proofs.specs.ir_model.declared.instr.Instr.{Instr}
use Rattle.pass_proofs.specs.ir_model.declared.instr.Terminator.{Terminator}
use Rattle.pass_proofs.specs.ir_model.declared.module.Block.{Block}
use Rattle.pass_proofs.specs.ir_model.declared.module.Function.{Function}
use Rattle.pass_proofs.specs.ir_model.declared.operand.Arg.{Arg}
use Rattle.pass_proofs.specs.ir_model.declared.operand.Callee.{Callee}
use Rattle.pass_proofs.specs.ir_model.declared.operand.Intrinsic.{Intrinsic}
use Rattle.pass_proofs.specs.ir_model.declared.operand.Operand.{Operand}
use Rattle.pass_proofs.specs.ir_paths.Windows.{operand_at}
use Rattle.pass_proofs.specs.run_agreement.Machines.{IsFine}
use Rattle.pass_proofs.specs.run_framed.Framed.{framed_advance, framed_next, framed_step}
use Rattle.pass_proofs.specs.run_laws.embedded.Making.{whole_home}
use Rattle.pass_proofs.specs.run_laws.memory.Pointers.{Home, IsValue, home_of}
use Rattle.pass_proofs.specs.run_memory.Pointers.{moved, offset_of}
use Rattle.pass_proofs.specs.run_memory.declared.pointer.Pointer.{Pointer}
use Rattle.pass_proofs.specs.run_memory.declared.pointer.Value.{Value}
use Rattle.pass_proofs.specs.run_source.State.{function_of, or_undefined}
use Rattle.pass_proofs.specs.run_source.declared.state.Activation.{Activation}
use Rattle.pass_proofs.specs.run_source.declared.state.State.{State}
use Rattle.pass_proofs.specs.run_source_tables.Given.{Given}
use Rattle.pass_proofs.specs.run_step.Step.{AtInstr, fetch, fetch_in, fetch_or}
use Rattle.pass_proofs.specs.run_step.Values.{address_from, address_of, arg_values, literal, nth, operand_value}

-- ---- the other run's instruction

pub in_block : (o : Option Block) (at : ℕ) (i : Instr) → fetch_in o at ≡ AtInstr i → slice_get (instrs_in o) at ≡ Some i
in_block None at i f = absurd (cc)
in_block (Some b) at i f = by (slice_get b.instrs at) (at == length b.instrs) b.term f
  where
    by : (o : Option Instr) (last : Bool) (term : Terminator) → fetch_or o last term ≡ AtInstr i → o ≡ Some i
    by (Some j) last term g = let same : j ≡ i = cc in ap Some same
    by None true term g = absurd (cc)
    by None false term g = absurd (cc)

none_of : {A : Type 0} (xs : List A) → length xs ≡ 0 → xs ≡ []
none_of [] e = refl
none_of (y ∷ ys) e = absurd (omega (arith, e))

-- what isn't undefined gives a state
pub fine_ok : (g : Given) (s : State) (r : Result State Cause) → IsFine (or_undefined g s r).outcome
    → (u : State) × (r ≡ Ok u)
fine_ok g s (Ok u) f = (u, refl)
fine_ok g s (Err c) f = absurd f

module _ (e : Elision) (s t : State) (i : Intrinsic) (result : Option ℕ) (must_tail : Bool) (ty : Option Ty)
    (args : List Arg) (r : AreElided e s t) (at : AreAtCall e s t i result must_tail ty args) where
  abbrev pub call : Instr
  call = Instr.Call result must_tail ty (Callee.Intrinsic i) args

  abbrev f : Function
  f = function_in e s.top.func

  abbrev ahead_of : List Instr
  ahead_of = allocas_ahead (rooms e s.top.func) f

  -- where nothing stands in front of the first place, there are no allocas
  at_start : s.top.block ≡ 0 → s.top.at ≡ 0 → ahead_of ≡ []
  at_start first here =
      none_of ahead_of (early t.top.at (length ahead_of)
      (s.top.at + put_up_to (rooms e s.top.func 0) (phi_count f 0) (instrs_of f 0) s.top.at) low high)
    where
      low : t.top.at ≡ 0
      low = at.front ∙ ap (front_at (rooms e s.top.func) f s.top.block) here

      high : t.top.at ≡ own_at (rooms e s.top.func) f 0 s.top.at
      high = at.own ∙ ap (λ (n : ℕ). own_at (rooms e s.top.func) f n s.top.at) first

      early : (q n m : ℕ) → q ≡ 0 → q ≡ n + m → n ≡ 0
      early q n m lo hi = omega (arith, lo, hi)

  pub own_place : IsOwnPlace e s.top t.top
  own_place = record { block = at.block; own = at.own; starts = at_start }

  stays : (n : ℕ) (o : Option GivenFrame) → elided_instr n o call ≡ call
  stays n None = refl
  stays n (Some room) = refl

  other_there : fetch (function_of (elided e).given t) t.top.block t.top.at ≡ AtInstr call
  other_there =
      (λ j. fetch (function_in_elided e (r.top.func j)) (at.block j) (at.own j))
      ∙ (ap (λ (h : Function). fetch h s.top.block (own_at (rooms e s.top.func) f s.top.block s.top.at))
      ((finds_alike e).functions s.top.func)
      ∙ ((has_code (rooms e s.top.func) f).instr s.top.block s.top.at call
      (in_block (slice_get f.blocks s.top.block) s.top.at call at.there)
      ∙ ap AtInstr (stays (name_at (rooms e s.top.func) f s.top.block s.top.at)
      (room_at (rooms e s.top.func) f s.top.block s.top.at call))))

  -- both steps, by what they give
  pub both_step : (u w : State) → framed_next (framed e) s (AtInstr call) ≡ Ok u
      → framed_next (elided e) t (AtInstr call) ≡ Ok w → AreElided e u w
      → AreElided e (framed_step (framed e) s) (framed_step (elided e) t)
  both_step u w here there h =
      subst (λ (p : State × State). AreElided e p.0 p.1)
      (λ j. (
        sym (stepped (framed e) s u (AtInstr call) at.runs at.there here) j,
        sym (stepped (elided e) t w (AtInstr call) (r.outcome ∙ at.runs) other_there there) j,
      )) h

  -- a step that isn't undefined gives a state
  pub goes_on : IsFine (framed_step (framed e) s).outcome
      → (u : State) × (framed_next (framed e) s (AtInstr call) ≡ Ok u)
  goes_on fine =
      fine_ok (framed e).given s (framed_next (framed e) s (AtInstr call))
      (subst (λ (z : State). IsFine z.outcome)
      (ap (framed_advance (framed e) s) at.runs
      ∙ ap (λ z. or_undefined (framed e).given s (framed_next (framed e) s z)) at.there) fine)

-- ---- what is held

module _ (e : Elision) (s t : State) (result : Option ℕ) (on : HoldsOn e s t result) where
  pub name_held : (v : Value) (left : Bool) → held_name e (is_given_mode t.top.mode) (went s.top result v left)
      ≡ held_name e (is_given_mode t.top.mode) s.top
  name_held v left = by (is_given_mode t.top.mode) on.holds
    where
      by : (b : Bool) → (b ≡ true → (e.shape s.top.func).holds s.top.block (s.top.at + 1)
          ≡ (e.shape s.top.func).holds s.top.block s.top.at)
          → held_name e b (went s.top result v left) ≡ held_name e b s.top
      by true h = h refl
      by false h = refl

  pub name_kept : (name : ℕ) → held_name e (is_given_mode t.top.mode) s.top ≡ Some name → result ≡ Some name → ⊥
  name_kept name is set = by (is_given_mode t.top.mode) on.kept is
    where
      by : (b : Bool) → (b ≡ true → (v n : ℕ) → result ≡ Some v
          → (e.shape s.top.func).holds s.top.block s.top.at ≡ Some n → n ≡ v → ⊥)
          → held_name e b s.top ≡ Some name → ⊥
      by true h held = h refl name name set held refl
      by false h held = absurd (cc)

-- ---- operands

module _ (e : Elision) (homes : List Home)
    (globals : (n : ℕ) → n < length e.code.globals → home_of homes n ≡ whole_home n) where
  first_within : {A : Type 0} (test : A → Bool) (xs : List A) (k : ℕ) → first_where test xs ≡ Some k → k < length xs
  first_within test [] k is = absurd (cc)
  first_within test (x ∷ xs) k is =
      by (test x) (first_where test xs) refl is (λ n h. first_within test xs n h)
    where
      by : (b : Bool) (o : Option ℕ) → first_where test xs ≡ o → (if b then Some 0 else option_map suc o) ≡ Some k
          → ((n : ℕ) → first_where test xs ≡ Some n → n < length xs) → k < suc (length xs)
      by true o eo h again = let first : 0 ≡ k = cc in omega (arith, first)
      by false None eo h again = absurd (cc)
      by false (Some n) eo h again =
          let next : suc n ≡ k = cc in
          let lt = again n eo in
          omega (arith, next, lt)

  global_stands : (n : Name) → IsValue homes (address_of e.code n) (address_of e.code n)
  global_stands n =
      by (function_named e.code n) (global_named e.code n) refl (declaration_named e.code n)
    where
      by : (f g : Option ℕ) → global_named e.code n ≡ g → (d : Option ℕ)
          → IsValue homes (address_from e.code f g d) (address_from e.code f g d)
      by (Some f) g eg d = (tt, refl)
      by None (Some g) eg d =
          let home = globals g (first_within (λ q. same_name q.name n) e.code.globals g eg) in (
            ap (λ (q : Home). q.is_seen) home,
            λ j. Value.Ptr (Pointer.At (sym home j).block (moved (offset_of 0) (sym home j).offset)),
          )
      by None None eg (Some d) = (tt, refl)
      by None None eg None = tt

  number_stands : (ty : Ty) (z : ℤ) → IsValue homes (literal ty z) (literal ty z)
  number_stands (int w) z = refl
  number_stands ptr z = tt
  number_stands token z = tt
  number_stands (array n ty) z = tt
  number_stands (structure ts) z = tt
  number_stands (named n) z = tt

  module _ (a c : Activation) (given : Bool) (h : AreNamed e homes given a c) where
    abbrev Differs : ℕ → Bool
    Differs v = differs_in (e.shape a.func) (is_given_mode c.mode) given v

    operand_stands : (ty : Ty) (x : Operand) → ((v : ℕ) → x ≡ Operand.Local v → Differs v ≡ false)
        → IsValue homes (operand_value e.code a.values ty x) (operand_value (elided_code e) c.values ty x)
    operand_stands ty (Operand.Local v) calm = h.each v (calm v refl)
    operand_stands ty (Operand.Global n) calm =
        subst (IsValue homes (address_of e.code n)) (sym (addresses e n)) (global_stands n)
    operand_stands ty (Operand.Number z) calm = number_stands ty z
    operand_stands ty Operand.True calm = refl
    operand_stands ty Operand.False calm = refl
    operand_stands ty Operand.Null calm = (tt, refl)
    operand_stands ty Operand.None calm = tt
    operand_stands ty Operand.Poison calm = tt

    pub arg_stands : (args : List Arg) (k : ℕ) → ((v : ℕ) → operand_at args k ≡ Operand.Local v → Differs v ≡ false)
        → IsValue homes (nth (arg_values e.code a.values args) k) (nth (arg_values (elided_code e) c.values args) k)
    arg_stands [] k calm = tt
    arg_stands (x ∷ args) zero calm = operand_stands x.ty x.value calm
    arg_stands (x ∷ args) (suc k) calm = arg_stands args k calm

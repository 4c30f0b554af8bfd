-- The two runs stand at places apart: the second waits while the first allocates or frees, or they stand in two blocks.
use Rattle.std.proofs.Common.{◌≡◌, ◌⊎◌, ◌∙◌, ℕ, true, false, List, [], ◌∷◌, Ok, ap, inl, inr, refl, subst, sym}
use Rattle.std.specs.Prelude.{None, Some, slice_get}
use Rattle.elide_shape.specs.Calls.{deals_by, is_size_call}
use Rattle.elide_shape.specs.declared.calls.Dealing.{Dealing}
use Rattle.pass_elide_known.proofs.Acting.{next_ok, sets_one, word_taken}
use Rattle.pass_elide_known.specs.Keeping.{KeepsFreeing, KeepsMore, only_sets}
use Rattle.pass_elide_known.specs.States.{IsKnownFramed, IsKnownGiving}
use Rattle.pass_elide_proof.proofs.Facts.{some_none}
use Rattle.pass_elide_proof.proofs.FreedAlone.{deallocates}
use Rattle.pass_elide_proof.proofs.OwnPlaces.{instr_there}
use Rattle.pass_elide_proof.proofs.PlacingFacts.{holds_over, no_frames}
use Rattle.pass_elide_proof.proofs.PlacingFrames.{frees_place}
use Rattle.pass_elide_proof.proofs.PlacingWaits.{allocation_place, among, made_there, none_ahead}
use Rattle.pass_elide_proof.specs.Elision.{Elision, Shape, framed, function_in, no_shape, rooms}
use Rattle.pass_elide_proof.specs.Match.{IsAtEnd, sides, was_given}
use Rattle.pass_elide_proof.specs.Places.{instrs_of}
use Rattle.pass_elide_proof.specs.Placing.{HasShape, KeepsPlaces, is_test}
use Rattle.pass_elide_proof.specs.PlacingStates.{IsLeftWaiting}
use Rattle.pass_elide_proof.specs.Shapes.{IsAllocating, IsKeptLoad, KeptLoad}
use Rattle.pass_elide_proof.specs.Statement.{AreRelated}
use Rattle.pass_elide_proof.specs.Stepping.{IsWaitedFor}
use Rattle.pass_elide_proof.specs.pass_proofs.flow_blocks.Reach.{IsReached as IsReachedBlock}
use Rattle.pass_elide_proof.specs.pass_proofs.ir_base.declared.outcome.Outcome.{Outcome}
use Rattle.pass_elide_proof.specs.pass_proofs.ir_model.declared.instr.Instr.{Instr}
use Rattle.pass_elide_proof.specs.pass_proofs.ir_model.declared.module.Function.{Function}
use Rattle.pass_elide_proof.specs.pass_proofs.ir_model.declared.module.Module.{Module}
use Rattle.pass_elide_proof.specs.pass_proofs.ir_model.declared.operand.Arg.{Arg}
use Rattle.pass_elide_proof.specs.pass_proofs.ir_model.declared.operand.Callee.{Callee}
use Rattle.pass_elide_proof.specs.pass_proofs.ir_model.declared.operand.Intrinsic.{Intrinsic}
use Rattle.pass_elide_proof.specs.pass_proofs.ir_model.declared.operand.Operand.{Operand}
use Rattle.pass_elide_proof.specs.pass_proofs.ir_parts.Contents.{result_of}
use Rattle.pass_elide_proof.specs.pass_proofs.ir_paths.Windows.{call_operand, call_result, is_call_of, operand_at}
use Rattle.pass_elide_proof.specs.pass_proofs.run_agreement.Machines.{IsFine}
use Rattle.pass_elide_proof.specs.pass_proofs.run_framed.Framed.{framed_next, framed_step}
use Rattle.pass_elide_proof.specs.pass_proofs.run_memory.declared.pointer.Value.{Value}
use Rattle.pass_elide_proof.specs.pass_proofs.run_source.Source.{deallocate}
use Rattle.pass_elide_proof.specs.pass_proofs.run_source.State.{function_of}
use Rattle.pass_elide_proof.specs.pass_proofs.run_source.declared.state.State.{State}
use Rattle.pass_elide_proof.specs.pass_proofs.run_step.Step.{AtInstr, fetch}
use Rattle.pass_elide_proof.specs.pass_proofs.run_step.Values.{Env, address, arg_values, nth, operand_value, value_in}

-- ---- shapes

-- a shape that tells where it waits is no other's
waits_shape : (e : Elision) (func block other : ℕ) → (e.shape func).waits block ≡ Some other
    → (e.shape func ≡ no_shape) ⊎ HasShape e func → HasShape e func
waits_shape e func block other is (inl none) =
    absurd (some_none ((e.shape func).waits block) other is (ap (λ (x : Shape). x.waits block) none))
waits_shape e func block other is (inr k) = k

frees_shape : (e : Elision) (func block other : ℕ) → (e.shape func).frees block ≡ Some other
    → (e.shape func ≡ no_shape) ⊎ HasShape e func → HasShape e func
frees_shape e func block other is (inl none) =
    absurd (some_none ((e.shape func).frees block) other is (ap (λ (x : Shape). x.frees block) none))
frees_shape e func block other is (inr k) = k

-- ---- instructions that set a name

pub record IsSetting (x : Shape) (i : Instr) : Type 0 where
  pub begins : is_call_of Intrinsic.CoroBegin i ≡ false
  pub asks : is_call_of Intrinsic.CoroAlloc i ≡ false
  pub frees : is_call_of Intrinsic.CoroFree i ≡ false
  pub tests : is_test x i ≡ false
  pub allocates : deals_by Dealing.Allocates i ≡ false

pub setting_of : (x : Shape) (i : Instr) → only_sets i ≡ true → IsSetting x i
setting_of x (Instr.Binary name op flags ty a b) is =
    record { begins = refl; asks = refl; frees = refl; tests = refl; allocates = refl }
setting_of x (Instr.Icmp name pred ty a b) is = absurd (cc)
setting_of x (Instr.Select name y a b) is =
    record { begins = refl; asks = refl; frees = refl; tests = refl; allocates = refl }
setting_of x (Instr.Cast name op nneg arg to) is =
    record { begins = refl; asks = refl; frees = refl; tests = refl; allocates = refl }
setting_of x (Instr.Alloca name ty align) is = absurd (cc)
setting_of x (Instr.Load name ty p align) is =
    record { begins = refl; asks = refl; frees = refl; tests = refl; allocates = refl }
setting_of x (Instr.Store arg p align) is = absurd (cc)
setting_of x (Instr.Gep name inbounds ty base indices) is =
    record { begins = refl; asks = refl; frees = refl; tests = refl; allocates = refl }
setting_of x (Instr.Call result must_tail ty (Callee.Intrinsic Intrinsic.CoroSizeI32) args) is =
    record { begins = refl; asks = refl; frees = refl; tests = refl; allocates = refl }
setting_of x (Instr.Call result must_tail ty (Callee.Intrinsic Intrinsic.CoroSizeI64) args) is =
    record { begins = refl; asks = refl; frees = refl; tests = refl; allocates = refl }
setting_of x (Instr.Call result must_tail ty (Callee.Intrinsic _) args) is = absurd (cc)
setting_of x (Instr.Call result must_tail ty (Callee.Named n) args) is = absurd (cc)
setting_of x (Instr.Call result must_tail ty (Callee.Local v) args) is = absurd (cc)
setting_of x (Instr.Call result must_tail ty (Callee.Allocator a) args) is = absurd (cc)

-- a call of coro.size sets a name
size_sets : (i : Instr) → is_size_call i ≡ true → only_sets i ≡ true
size_sets (Instr.Call result must_tail ty (Callee.Intrinsic Intrinsic.CoroSizeI32) args) is = refl
size_sets (Instr.Call result must_tail ty (Callee.Intrinsic Intrinsic.CoroSizeI64) args) is = refl
size_sets (Instr.Call result must_tail ty (Callee.Intrinsic _) args) is = absurd (cc)
size_sets (Instr.Call result must_tail ty (Callee.Named n) args) is = absurd (cc)
size_sets (Instr.Call result must_tail ty (Callee.Local v) args) is = absurd (cc)
size_sets (Instr.Call result must_tail ty (Callee.Allocator a) args) is = absurd (cc)
size_sets _ is = absurd (cc)

kept_sets : (i : Instr) → IsKeptLoad i → only_sets i ≡ true
kept_sets i (KeptLoad name cell align ty) = refl

-- ---- the block that allocates

module _ (e : Elision) (keeps : KeepsPlaces e) (s t : State) (known : IsKnownFramed e s)
    (runs : s.outcome ≡ Outcome.Running) (fine : IsFine (framed_step (framed e) s).outcome)
    (waits : IsLeftWaiting e s t) where
  abbrev f : Function
  f = function_in e s.top.func

  abbrev x : Shape
  x = e.shape s.top.func

  shape : HasShape e s.top.func
  shape = waits_shape e s.top.func s.top.block t.top.block waits.waits (keeps.shapes s.top.func)

  in_block : s.top.block ≡ shape.asks.allocates
  in_block = shape.waits s.top.block t.top.block waits.waits

  -- a name is set there
  made : (i : Instr) → fetch (function_of (framed e).given s) s.top.block s.top.at ≡ AtInstr i → only_sets i ≡ true
      → IsWaitedFor e s t
  made i there sets =
      let kind = setting_of x i sets in
      let here = instr_there f s.top.block s.top.at i there in
      let next = next_ok e keeps s runs fine i there in
      let one = sets_one (framed e) s i sets next.0 next.1 in
      IsWaitedFor.Made (result_of i) one.0 i here (record {
        runs = runs;
        goes = ap (framed_next (framed e) s) there ∙ one.1;
        given = waits.given;
        waits = waits.waits;
        stays = waits.stays;
        none = none_ahead e keeps s t waits shape i there;
        made = made_there e keeps s t waits shape i there kind.asks kind.frees kind.tests;
        holds = holds_over e s.top.func s.top.block s.top.at i here kind.begins kind.allocates
            (keeps.shapes s.top.func);
        kept = λ v name is held.
            ((keeps.instrs s.top.func).sets s.top.block s.top.at v i here is).kept name held;
      })

  -- the frame is allocated
  allocated_by : (i : Instr) → fetch (function_of (framed e).given s) s.top.block s.top.at ≡ AtInstr i
      → deals_by Dealing.Allocates i ≡ true → IsWaitedFor e s t
  allocated_by (Instr.Call None must_tail ty (Callee.Allocator a) args) there is =
      let call = Instr.Call None must_tail ty (Callee.Allocator a) args in
      let asks = shape.asks in
      let spot = among e keeps s t waits shape (Instr.Call None must_tail ty (Callee.Allocator a) args) there in
      let at = asks.once s.top.at (Instr.Call None must_tail ty (Callee.Allocator a) args) spot is in
      let one : Some call ≡ Some asks.allocator
      = sym spot ∙ ((λ j. slice_get (instrs_of f asks.allocates) (at j)) ∙ asks.there) in
      let same : call ≡ asks.allocator = cc in
      absurd (none_given (ap call_result same ∙ asks.given))
    where
      none_given : None ≡ Some shape.asks.block → ⊥
      none_given h = cc
  allocated_by (Instr.Call (Some result) must_tail ty (Callee.Allocator a) args) there is =
      let w = word_taken e keeps s runs fine a (Some result) must_tail ty args there is in
      IsWaitedFor.Allocation a result must_tail ty args
      (allocation_place e keeps s t waits known.known a result must_tail ty args w.0 is there w.1)
  allocated_by (Instr.Call result must_tail ty (Callee.Named n) args) there is = absurd (cc)
  allocated_by (Instr.Call result must_tail ty (Callee.Local v) args) there is = absurd (cc)
  allocated_by (Instr.Call result must_tail ty (Callee.Intrinsic j) args) there is = absurd (cc)
  allocated_by (Instr.Binary name op flags ty a b) there is = absurd (cc)
  allocated_by (Instr.Icmp name pred ty a b) there is = absurd (cc)
  allocated_by (Instr.Select name y a b) there is = absurd (cc)
  allocated_by (Instr.Cast name op nneg arg to) there is = absurd (cc)
  allocated_by (Instr.Alloca name ty align) there is = absurd (cc)
  allocated_by (Instr.Load name ty p align) there is = absurd (cc)
  allocated_by (Instr.Store arg p align) there is = absurd (cc)
  allocated_by (Instr.Gep name inbounds ty base indices) there is = absurd (cc)

  pub waiting_known : (i : Instr) → fetch (function_of (framed e).given s) s.top.block s.top.at ≡ AtInstr i
      → IsWaitedFor e s t
  waiting_known i there =
      by (shape.asks.instrs (subst (IsReachedBlock f (0 ∷ []) []) in_block known.reached) s.top.at i
      (among e keeps s t waits shape i there))
    where
      by : IsAllocating i → IsWaitedFor e s t
      by (inl size) = made i there (size_sets i size)
      by (inr (inl allocates)) = allocated_by i there allocates
      by (inr (inr kept)) = made i there (kept_sets i kept)

-- ---- the block that frees

first_value : (m : Module) (env : Env) (args : List Arg) (name : ℕ) → operand_at args 0 ≡ Operand.Local name
    → nth (arg_values m env args) 0 ≡ value_in env name
first_value m env [] name h = absurd (cc)
first_value m env (a ∷ args) name h = ap (operand_value m env a.ty) h

module _ (e : Elision) (keeps : KeepsPlaces e) (more : KeepsMore e) (s t : State) (r : AreRelated e s t)
    (known : IsKnownFramed e s) (giving : IsKnownGiving e t) (runs : s.outcome ≡ Outcome.Running)
    (fine : IsFine (framed_step (framed e) s).outcome) (given : was_given (sides s t) t.top ≡ true)
    (waits : (e.shape s.top.func).frees s.top.block ≡ Some t.top.block) (stays : IsAtEnd e t.top) where
  abbrev g : Function
  g = function_in e s.top.func

  abbrev y : Shape
  y = e.shape s.top.func

  its_shape : HasShape e s.top.func
  its_shape = frees_shape e s.top.func s.top.block t.top.block waits (keeps.shapes s.top.func)

  k : KeepsFreeing e s.top.func s.top.block
  k = more.freeing s.top.func s.top.block t.top.block waits

  spot : (i : Instr) → slice_get (instrs_of g s.top.block) s.top.at ≡ Some i
      → slice_get (instrs_of g k.frees.frees) s.top.at ≡ Some i
  spot i here = sym (λ j. slice_get (instrs_of g (k.here j)) s.top.at) ∙ here

  -- a name is set there
  passed : (i : Instr) → fetch (function_of (framed e).given s) s.top.block s.top.at ≡ AtInstr i → only_sets i ≡ true
      → IsWaitedFor e s t
  passed i there sets =
      let kind = setting_of y i sets in
      let here = instr_there g s.top.block s.top.at i there in
      let next = next_ok e keeps s runs fine i there in
      let one = sets_one (framed e) s i sets next.0 next.1 in
      let set = λ (v : ℕ) (is : result_of i ≡ Some v).
      (keeps.instrs s.top.func).sets s.top.block s.top.at v i here is in
      IsWaitedFor.Passed (result_of i) one.0 i here (record {
        runs = runs;
        goes = ap (framed_next (framed e) s) there ∙ one.1;
        given = given;
        waits = waits;
        stays = stays;
        none = no_frames (rooms e s.top.func) (keeps.wakes s.top.func its_shape.coroutine).none g;
        passed = λ v is. record {
          passed = k.frees.is_passed s.top.at v i (spot i here) is;
          need = (set v is).need kind.asks;
          freed = (set v is).freed kind.frees;
          tested = (set v is).tested kind.tests;
        };
        holds = holds_over e s.top.func s.top.block s.top.at i here kind.begins kind.allocates
            (keeps.shapes s.top.func);
        kept = λ v name is held. (set v is).kept name held;
      })

  -- the frame is freed
  freed_by : (i : Instr) → fetch (function_of (framed e).given s) s.top.block s.top.at ≡ AtInstr i
      → deals_by Dealing.Frees i ≡ true → IsWaitedFor e s t
  freed_by (Instr.Call result must_tail ty (Callee.Allocator a) args) there is =
      let call = Instr.Call result must_tail ty (Callee.Allocator a) args in
      let here = instr_there g s.top.block s.top.at (Instr.Call result must_tail ty (Callee.Allocator a) args) there in
      let at = k.frees.once s.top.at (Instr.Call result must_tail ty (Callee.Allocator a) args)
      (spot (Instr.Call result must_tail ty (Callee.Allocator a) args) here) is in
      let one : Some call ≡ Some k.frees.deallocator
      = sym (spot call here) ∙ ((λ j. slice_get (instrs_of g k.frees.frees) (at j)) ∙ k.frees.there) in
      let same : call ≡ k.frees.deallocator = cc in
      let takes : operand_at args 0 ≡ Operand.Local k.frees.freed
      = ap (λ (z : Instr). call_operand z 0) same ∙ k.frees.takes in
      let next = next_ok e keeps s runs fine (Instr.Call result must_tail ty (Callee.Allocator a) args) there in
      let goes : deallocate s (address (value_in s.top.values k.frees.freed)) ≡ Ok next.0
      = sym (ap (λ (v : Value). deallocate s (address v)) (first_value e.code s.top.values args k.frees.freed takes))
      ∙ (sym (deallocates (framed e) s a result must_tail ty args is) ∙ next.1) in
      IsWaitedFor.Free a result must_tail ty args (record {
        frees = frees_place e keeps s t r.beside giving.sound a result must_tail ty args runs is there given
            k.frees.freed takes k.frees.is_freed next.0 goes;
        waits = waits;
        stays = stays;
      })
  freed_by (Instr.Call result must_tail ty (Callee.Named n) args) there is = absurd (cc)
  freed_by (Instr.Call result must_tail ty (Callee.Local v) args) there is = absurd (cc)
  freed_by (Instr.Call result must_tail ty (Callee.Intrinsic j) args) there is = absurd (cc)
  freed_by (Instr.Binary name op flags ty a b) there is = absurd (cc)
  freed_by (Instr.Icmp name pred ty a b) there is = absurd (cc)
  freed_by (Instr.Select name z a b) there is = absurd (cc)
  freed_by (Instr.Cast name op nneg arg to) there is = absurd (cc)
  freed_by (Instr.Alloca name ty align) there is = absurd (cc)
  freed_by (Instr.Load name ty p align) there is = absurd (cc)
  freed_by (Instr.Store arg p align) there is = absurd (cc)
  freed_by (Instr.Gep name inbounds ty base indices) there is = absurd (cc)

  pub freeing_known : (i : Instr) → fetch (function_of (framed e).given s) s.top.block s.top.at ≡ AtInstr i
      → IsWaitedFor e s t
  freeing_known i there =
      by (k.instrs known.reached s.top.at i (instr_there g s.top.block s.top.at i there))
    where
      by : (only_sets i ≡ true) ⊎ (deals_by Dealing.Frees i ≡ true) → IsWaitedFor e s t
      by (inl sets) = passed i there sets
      by (inr frees) = freed_by i there frees

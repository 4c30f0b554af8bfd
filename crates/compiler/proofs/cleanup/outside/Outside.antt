-- A test of the functions and globals that a function names: what a coroutine's parts name passes it where the function's operands and the parts' own names do.
use Rattle.std.proofs.Common.{◌≡◌, ℕ, ℤ, zero, suc, pos, ◌+◌, Bool, true, false, List, [], ◌∷◌, ◌++◌, refl, sym, ap, ◌∙◌, arith}
use Rattle.std.specs.List.{list_all}
use Rattle.std.specs.Prelude.{None, Option, Some, map, not, slice_get, ◌&&◌, if◌then◌else◌}
use Rattle.ir_base.specs.declared.name.Name.{Name}
use Rattle.ir_base.specs.declared.outcome.Place.{Place}
use Rattle.pass_split.specs.Parts.{case_of, cases_from, entry_term, is_entered, plain_of, plain_shape}
use Rattle.pass_split.specs.Pieces.{redirected_term}
use Rattle.pass_proofs.proofs.rule_laws.rules.local_rules.Fitting.{either, no_either}
use Rattle.pass_proofs.proofs.ir_laws.facts.Truth.{and_both, and_first, and_second, holds, first_no as or_first_out, second_no as or_second_out}
use Rattle.pass_proofs.proofs.ir_laws.facts.Lists.{by_value}
use Rattle.compiler.specs.cleanup.rules.Clean.{calls_left}
use Rattle.pass_proofs.specs.ir_parts.Contents.{arg_operands, part_operands}
use Rattle.pass_proofs.specs.ir_parts.Parts.{Ending, OfInstr, OfPhi, Part as FunctionPart, first_part, parts_of}
use Rattle.pass_proofs.specs.pass_intrinsics.Lowered.{address, allocates, begin_memory, begin_stores, call_pointer, destroy_call, destroyed_by, done_test, freed_by, is_final_at, load_pointer, lowered, number_of_save, operand_at, promise_distance, resume_call, resumed_by, save_or_none, set_address, set_number, set_truth, store_pointer, truth_of}
use Rattle.pass_proofs.specs.pass_intrinsics.Shapes.{is_true}
use Rattle.pass_proofs.specs.pass_intrinsics.declared.shape.Part.{Part}
use Rattle.pass_proofs.specs.pass_intrinsics.declared.shape.Shape.{Shape}
use Rattle.pass_proofs.specs.pass_intrinsics.declared.shape.SuspendPoint.{SuspendPoint}
use Rattle.ir_model.specs.Ty.{Ty}
use Rattle.ir_model.specs.declared.instr.Case.{Case}
use Rattle.ir_model.specs.declared.instr.Instr.{Instr}
use Rattle.ir_model.specs.declared.module.Function.{Function}
use Rattle.ir_model.specs.declared.operand.Arg.{Arg}
use Rattle.ir_model.specs.declared.operand.Callee.{Callee}
use Rattle.ir_model.specs.declared.operand.Intrinsic.{Intrinsic}
use Rattle.ir_model.specs.declared.operand.Operand.{Operand}
use Rattle.pass_proofs.specs.rule_locals.Instrs.{on_instr}
use Rattle.pass_proofs.specs.rule_locals.Intrinsics.{calls_inner, is_inner}
use Rattle.pass_proofs.proofs.split.rules.Carried.{Carries, part_carried, plain_carried}
use Rattle.pass_proofs.proofs.split.rules.Local.{same_term_operands}
use Rattle.pass_proofs.specs.split.rules.Parted.{IsPartOf}
use Rattle.pass_proofs.specs.run_laws.changed.Changed.{Each}

-- ---- the test, of operands and of parts of a function

-- what an operand names outside its function passes
abbrev pub passes : (Name → Bool) → Operand → Bool
passes test (Operand.Global n) = test n
passes test x = true

-- an operand names what doesn't pass, or a coro intrinsic is called as other functions are
abbrev pub names_other : (Name → Bool) → Place → FunctionPart → Bool
names_other test place x = not (list_all (passes test) (part_operands x) && calls_left x)

module _ (test : Name → Bool) where
  pub none_other : (q : Place) (y : FunctionPart) → list_all (passes test) (part_operands y) ≡ true → calls_left y ≡ true → names_other test q y ≡ false
  none_other q y o c = ap not (and_both (list_all (passes test) (part_operands y)) (calls_left y) o c)

  pub operands_pass : (p : Place) (x : FunctionPart) → names_other test p x ≡ false → list_all (passes test) (part_operands x) ≡ true
  operands_pass p x e = and_first (list_all (passes test) (part_operands x)) (calls_left x) (holds (list_all (passes test) (part_operands x) && calls_left x) e)

  pub calls_pass : (p : Place) (x : FunctionPart) → names_other test p x ≡ false → calls_left x ≡ true
  calls_pass p x e = and_second (list_all (passes test) (part_operands x)) (calls_left x) (holds (list_all (passes test) (part_operands x) && calls_left x) e)

  argument_passes : (args : List Arg) (at : ℕ) → list_all (passes test) (arg_operands args) ≡ true → passes test (operand_at args at) ≡ true
  argument_passes [] at e = refl
  argument_passes (a ∷ args) zero e = and_first (passes test a.value) (list_all (passes test) (arg_operands args)) e
  argument_passes (a ∷ args) (suc at) e = argument_passes args at (and_second (passes test a.value) (list_all (passes test) (arg_operands args)) e)

  -- ---- what is lowered

  module _ (s : Shape) (part : Part) where
    -- the names of the parts that are stored pass
    abbrev pub AreOwn : Type 0
    AreOwn = (test s.resume_name ≡ true) × (test s.destroy_name ≡ true) × (part ≡ Part.GivenRamp → test s.cleanup_name ≡ true)

    -- what these name passes
    abbrev Pass : List Instr → Type 0
    Pass js = (q : Place) → Each (λ (j : Instr). names_other test q (OfInstr j) ≡ false) js

    number_passes : (r : Option ℕ) (w k : ℕ) → Pass (set_number r w k)
    number_passes None w k q = tt
    number_passes (Some r) w k q = (refl, tt)

    truth_passes : (r : Option ℕ) (b : Bool) → Pass (set_truth r (truth_of b))
    truth_passes None b q = tt
    truth_passes (Some r) true q = (refl, tt)
    truth_passes (Some r) false q = (refl, tt)

    address_passes : (r : Option ℕ) (p : Operand) (z : ℤ) → passes test p ≡ true → Pass (set_address r p z)
    address_passes None p z e q = tt
    address_passes (Some r) p z e q = (none_other q (OfInstr (address r p z)) (and_both (passes test p) true e refl) refl, tt)

    memory_passes : (q : Part) (args : List Arg) → passes test (operand_at args 1) ≡ true → passes test (begin_memory s q args) ≡ true
    memory_passes Part.GivenRamp args e = refl
    memory_passes Part.Ramp args e = e
    memory_passes Part.Resume args e = e
    memory_passes Part.Destroy args e = e
    memory_passes Part.Cleanup args e = e

    freed_passes : (q : Part) → passes test (freed_by s q) ≡ true
    freed_passes Part.GivenRamp = refl
    freed_passes Part.Ramp = refl
    freed_passes Part.Resume = refl
    freed_passes Part.Destroy = refl
    freed_passes Part.Cleanup = refl

    destroyed_passes : AreOwn → (q : Part) → part ≡ q → test (destroyed_by s q) ≡ true
    destroyed_passes own Part.GivenRamp e = own.2 e
    destroyed_passes own Part.Ramp e = own.1
    destroyed_passes own Part.Resume e = own.1
    destroyed_passes own Part.Destroy e = own.1
    destroyed_passes own Part.Cleanup e = own.1

    begin_passes : (n : ℕ) (p : Operand) → AreOwn → passes test p ≡ true → Pass (begin_stores s part n p)
    begin_passes n p own e q = (
      none_other q (OfInstr (address s.begin p (pos 0))) (and_both (passes test p) true e refl) refl,
      (
        none_other q (OfInstr (store_pointer (Operand.Global s.resume_name) (Operand.Local s.begin))) (and_both (test s.resume_name) true own.0 refl) refl,
        (
          refl,
          (
            none_other q (OfInstr (store_pointer (Operand.Global (destroyed_by s part)) (Operand.Local n)))
                (and_both (test (destroyed_by s part)) true (destroyed_passes own part refl) refl) refl,
            tt,
          ),
        ),
      ),
    )

    resumed_passes : AreOwn → (b : Bool) → passes test (resumed_by s b) ≡ true
    resumed_passes own true = refl
    resumed_passes own false = own.0

    save_passes : (n : ℕ) (o : Option ℕ) → AreOwn → Pass (save_or_none s n o)
    save_passes n None own q = tt
    save_passes n (Some j) own q =
        let x : Operand = resumed_by s (is_final_at (slice_get s.suspends j)) in
        (refl, (refl, (none_other q (OfInstr (store_pointer x (Operand.Local s.begin))) (and_both (passes test x) true (resumed_passes own (is_final_at (slice_get s.suspends j))) refl) refl, tt)))

    resume_passes : (n : ℕ) (p : Operand) → passes test p ≡ true → Pass (resume_call n p)
    resume_passes n p e q = (
      none_other q (OfInstr (load_pointer n p)) (and_both (passes test p) true e refl) refl,
      (none_other q (OfInstr (call_pointer n p)) (and_both (passes test p) true e refl) refl, tt),
    )

    destroy_passes : (n : ℕ) (p : Operand) → passes test p ≡ true → Pass (destroy_call n p)
    destroy_passes n p e q = (
      none_other q (OfInstr (address n p (pos 8))) (and_both (passes test p) true e refl) refl,
      (refl, (none_other q (OfInstr (call_pointer (n + 1) p)) (and_both (passes test p) true e refl) refl, tt)),
    )

    test_passes : (n : ℕ) (r : Option ℕ) (p : Operand) → passes test p ≡ true → Pass (done_test n r p)
    test_passes n None p e q = tt
    test_passes n (Some r) p e q = (none_other q (OfInstr (load_pointer n p)) (and_both (passes test p) true e refl) refl, (refl, tt))

    -- the names of the parts are stored where an intrinsic of coroutines alone is called
    call_passes : (p : Place) (n : ℕ) (x : Intrinsic) (r : Option ℕ) (must_tail : Bool) (ty : Option Ty) (args : List Arg) → names_other test p (OfInstr (Instr.Call r must_tail ty (Callee.Intrinsic x) args)) ≡ false → list_all (passes test) (arg_operands args) ≡ true → (is_inner x ≡ true → AreOwn)
        → Pass (lowered s part n (Instr.Call r must_tail ty (Callee.Intrinsic x) args))
    call_passes p n Intrinsic.CoroSizeI32 r must_tail ty args e o own = number_passes r 32 s.size
    call_passes p n Intrinsic.CoroSizeI64 r must_tail ty args e o own = number_passes r 64 s.size
    call_passes p n Intrinsic.CoroAlignI32 r must_tail ty args e o own = number_passes r 32 s.align
    call_passes p n Intrinsic.CoroAlignI64 r must_tail ty args e o own = number_passes r 64 s.align
    call_passes p n Intrinsic.CoroAlloc r must_tail ty args e o own = truth_passes r (allocates part)
    call_passes p n Intrinsic.CoroBegin r must_tail ty args e o own = begin_passes n (begin_memory s part args) (own refl) (memory_passes part args (argument_passes args 1 o))
    call_passes p n Intrinsic.CoroFree r must_tail ty args e o own = address_passes r (freed_by s part) (pos 0) (freed_passes part)
    call_passes p n Intrinsic.CoroFrame r must_tail ty args e o own = address_passes r (Operand.Local s.begin) (pos 0) refl
    call_passes p n Intrinsic.CoroSave r must_tail ty args e o own = save_passes n (number_of_save s r) (own refl)
    call_passes p n Intrinsic.CoroSuspend r must_tail ty args e o own = λ q. tt
    call_passes p n Intrinsic.CoroEnd r must_tail ty args e o own = truth_passes r false
    call_passes p n Intrinsic.CoroResume r must_tail ty args e o own = resume_passes n (operand_at args 0) (argument_passes args 0 o)
    call_passes p n Intrinsic.CoroDestroy r must_tail ty args e o own = destroy_passes n (operand_at args 0) (argument_passes args 0 o)
    call_passes p n Intrinsic.CoroDone r must_tail ty args e o own = test_passes n r (operand_at args 0) (argument_passes args 0 o)
    call_passes p n Intrinsic.CoroPromise r must_tail ty args e o own = address_passes r (operand_at args 0) (promise_distance (is_true (operand_at args 2))) (argument_passes args 0 o)
    call_passes p n _ r must_tail ty args e o own = λ q. (e, tt)

    module _ (extra : Place → FunctionPart → Bool) (own : (p : Place) (r : Option ℕ) (must_tail : Bool) (ty : Option Ty) (x : Intrinsic) (args : List Arg) → extra p (OfInstr (Instr.Call r must_tail ty (Callee.Intrinsic x) args)) ≡ false → is_inner x ≡ true → AreOwn) where
      lowered_passes : (p : Place) (n : ℕ) (i : Instr) → names_other test p (OfInstr i) ≡ false → extra p (OfInstr i) ≡ false → Pass (lowered s part n i)
      lowered_passes p n (Instr.Call r must_tail ty (Callee.Intrinsic x) args) e d =
          call_passes p n x r must_tail ty args e (operands_pass p (OfInstr (Instr.Call r must_tail ty (Callee.Intrinsic x) args)) e) (own p r must_tail ty x args d)
      lowered_passes p n i e d = λ q. (e, tt)

      -- ---- the cases of the index are numbers

      numbers_pass : (flags : List Bool) (j : ℕ) (ps : List SuspendPoint) → list_all (passes test) (map (λ (k : Case). k.arg.value) (cases_from s flags part j ps)) ≡ true
      numbers_pass flags j [] = refl
      numbers_pass flags j (p ∷ ps) = on (is_entered flags part p) (numbers_pass flags (j + 1) ps)
        where
          on : (b : Bool) → list_all (passes test) (map (λ (k : Case). k.arg.value) (cases_from s flags part (j + 1) ps)) ≡ true → list_all (passes test) (map (λ (k : Case). k.arg.value) ((if b then case_of s j ∷ [] else []) ++ cases_from s flags part (j + 1) ps)) ≡ true
          on true e = e
          on false e = e

      others_carried : Carries s part 0 (either (names_other test) extra) (names_other test)
      others_carried =
          record {
            head = λ p b. refl;
            phi = λ p q x y of e.
                none_other q (OfPhi y) (sym (by_value (passes test) y.incoming) ∙ of.values (passes test) (by_value (passes test) x.incoming ∙ operands_pass p (OfPhi x) (or_first_out (names_other test p (OfPhi x)) (extra p (OfPhi x)) e))) refl;
            instr = λ p q n i low again e.
                lowered_passes p n i (or_first_out (names_other test p (OfInstr i)) (extra p (OfInstr i)) e) (or_second_out (names_other test p (OfInstr i)) (extra p (OfInstr i)) e) q;
            ending = λ p q t e.
                none_other q (Ending (redirected_term s t)) (ap (list_all (passes test)) (same_term_operands s t) ∙ operands_pass p (Ending t) (or_first_out (names_other test p (Ending t)) (extra p (Ending t)) e)) refl;
            jump = λ q label. refl;
            return = λ on q. refl;
            stop = λ q. refl;
            index = λ on q. (refl, (refl, tt));
            switch = λ on flags q. none_other q (Ending (entry_term s flags part)) (numbers_pass flags 0 s.suspends) refl;
          }

  -- ---- the functions

  never : (xs : List (Place × FunctionPart)) → first_part (λ p x. false) xs ≡ None
  never [] = refl
  never (x ∷ xs) = never xs

  -- a coroutine's parts
  pub parts_pass : (s : Shape) (part : Part) (k l : ℕ) (f g : Function) → AreOwn s part → IsPartOf s f part g → first_part (names_other test) (parts_of k f) ≡ None → first_part (names_other test) (parts_of l g) ≡ None
  parts_pass s part k l f g own is e =
      part_carried s part 0 (either (names_other test) (λ p x. false)) (names_other test) (others_carried s part (λ p x. false) (λ p r must_tail ty x args d o. own)) (omega arith) k l f g is (λ p q d. refl)
      (no_either (names_other test) (λ p x. false) (parts_of k f) e (never (parts_of k f)))

  -- a function that is no coroutine stores no parts
  no_parts : (s : Shape) (p : Place) (r : Option ℕ) (must_tail : Bool) (ty : Option Ty) (x : Intrinsic) (args : List Arg) → on_instr (calls_inner false) p (OfInstr (Instr.Call r must_tail ty (Callee.Intrinsic x) args)) ≡ false → is_inner x ≡ true → AreOwn s Part.Ramp
  no_parts s p r must_tail ty x args e is = let t : true ≡ false = sym is ∙ e in absurd (cc)

  pub turned_passes : (k l : ℕ) (f : Function) → first_part (on_instr (calls_inner false)) (parts_of k f) ≡ None → first_part (names_other test) (parts_of k f) ≡ None → first_part (names_other test) (parts_of l (plain_of (plain_shape f) f)) ≡ None
  turned_passes k l f outer e =
      let s : Shape = plain_shape f in
      plain_carried s 0 (either (names_other test) (on_instr (calls_inner false))) (names_other test) (others_carried s Part.Ramp (on_instr (calls_inner false)) (no_parts s)) (omega arith) k l f (λ p q d. refl)
      (no_either (names_other test) (on_instr (calls_inner false)) (parts_of k f) e outer)

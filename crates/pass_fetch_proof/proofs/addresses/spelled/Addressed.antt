-- Where slots become bytes of the frame, a function can still be written.
use Rattle.std.proofs.Common.{ℕ, Bool, List, [], ◌∷◌, refl}
use Rattle.std.specs.Prelude.{None, Option, Some, codes, filter, map}
use Rattle.pass_addresses.specs.Placing.{lies_outside, slot_fetches, stays, turned_block, turned_function, with_frame_addresses, with_null, without_markers, without_promise, without_promise_of}
use Rattle.pass_edges_proof.specs.ir_parts.Contents.{arg_types}
use Rattle.ir_model.specs.Ty.{Ty}
use Rattle.ir_model.specs.declared.instr.Instr.{Instr}
use Rattle.ir_model.specs.declared.module.Function.{Function}
use Rattle.ir_model.specs.declared.operand.Arg.{Arg}
use Rattle.ir_model.specs.declared.operand.Callee.{Callee}
use Rattle.ir_model.specs.declared.operand.Intrinsic.{Intrinsic}
use Rattle.pass_fetch_proof.proofs.fetch.spelled.Fetched.{IsSpelledFetch, fetches_spelled}
use Rattle.pass_edges_proof.proofs.ir_laws.facts.Members.{each_filtered, each_mapped}
use Rattle.pass_edges_proof.specs.rule_laws.texts.spelled.Spelled.{IsSpelled}
use Rattle.pass_edges_proof.specs.rule_laws.rules.spelled.Spelled.{IsSpelledBlock, IsSpelledFunction, IsSpelledInstr}
use Rattle.pass_edges_proof.specs.run_laws.changed.Changed.{Each}
use Rattle.pass_edges_proof.specs.pass_fetch.Blocks.{with_fetches}

-- a function with the instructions of each block turned
turned_spelled : (T : List Instr → List Instr) → ((is : List Instr) → Each IsSpelledInstr is → Each IsSpelledInstr (T is)) → (f : Function) → IsSpelledFunction f → IsSpelledFunction (turned_function T f)
turned_spelled T t f h =
    record {
      name = h.name;
      result = h.result;
      params = h.params;
      blocks = each_mapped IsSpelledBlock IsSpelledBlock (turned_block T) (λ b k. record { phis = k.phis; instrs = t b.instrs k.instrs; term = k.term }) f.blocks h.blocks;
      names = h.names;
    }

-- ---- the promise

null_spelled : (args : List Arg) → Each IsSpelled (arg_types args) → Each IsSpelled (arg_types (with_null args))
null_spelled [] h = tt
null_spelled (a ∷ []) h = h
null_spelled (a ∷ p ∷ args) h = h

id_spelled : (r : Option ℕ) (must_tail : Bool) (ty : Option Ty) (args : List Arg) → IsSpelledInstr (Instr.Call r must_tail ty (Callee.Intrinsic Intrinsic.CoroId) args) → IsSpelledInstr (Instr.Call r must_tail ty (Callee.Intrinsic Intrinsic.CoroId) (with_null args))
id_spelled r must_tail None args h = record { types = null_spelled args h.types; stands = tt }
id_spelled r must_tail (Some t) args h = record { types = (h.types.0, null_spelled args h.types.1); stands = tt }

promise_spelled : (i : Instr) → IsSpelledInstr i → IsSpelledInstr (without_promise_of i)
promise_spelled (Instr.Call r must_tail ty (Callee.Intrinsic Intrinsic.CoroId) args) h = id_spelled r must_tail ty args h
promise_spelled _ h = h

-- ---- the pass

offsets_spelled : (begin : ℕ) (offsets : List (Option ℕ)) → Each IsSpelledFetch (slot_fetches begin offsets)
offsets_spelled begin [] = tt
offsets_spelled begin (None ∷ offsets) = (tt, offsets_spelled begin offsets)
offsets_spelled begin (Some d ∷ offsets) = (tt, offsets_spelled begin offsets)

pub addresses_spelled : (f : Function) (begin : ℕ) (offsets : List (Option ℕ)) (marked : List Bool) → IsSpelledFunction f → IsSpelledFunction (with_frame_addresses f begin offsets marked)
addresses_spelled f begin offsets marked h =
    let unmarked : Function = without_markers marked f in
    let unpromised : Function = without_promise unmarked in
    turned_spelled (filter (lies_outside offsets)) (each_filtered IsSpelledInstr (lies_outside offsets)) (with_fetches unpromised (slot_fetches begin offsets) (codes "$c.at."))
    (fetches_spelled (slot_fetches begin offsets) (offsets_spelled begin offsets) unpromised (codes "$c.at.") refl
    (turned_spelled (map without_promise_of) (each_mapped IsSpelledInstr IsSpelledInstr without_promise_of promise_spelled) unmarked (turned_spelled (filter (stays marked)) (each_filtered IsSpelledInstr (stays marked)) f h)))

-- In what the first pass makes of a coroutine begin's value has a name.
use Rattle.std.proofs.Common.{◌≡◌, ℕ, Bool, true, false, List, [], ◌∷◌, ◌++◌, length, refl, sym, ap, ◌∙◌, subst}
use Rattle.std.specs.Prelude.{None, Option, Some, is_none, map, if◌then◌else◌, ◌||◌}
use Rattle.rule_laws.specs.ir_calls.Calls.{first_call, first_call_by, first_call_in, or_instr}
use Rattle.rule_laws.specs.rule_shape.OneOfEach.{breaks_calls, calls_of, wrong_call}
use Rattle.rule_laws.proofs.rules.local_rules.Carried.{passing}
use Rattle.rule_laws.proofs.ir_laws.facts.Truth.{first_no as or_first_out, second_no as or_second_out}
use Rattle.pass_early.specs.BeginName.{if_unnamed, named_block, named_instr, with_begin_name}
use Rattle.pass_early.specs.Early.{after_instrs, after_one, early_blocks, early_function, early_instrs, early_named, early_one, is_unsaved, save_call, saved, renaming_of}
use Rattle.pass_early.specs.Renaming.{renamed_instr}
use Rattle.pass_early.specs.declared.renaming.Renaming.{Renaming}
use Rattle.rule_laws.specs.ir_parts.Parts.{first_part, parts_of}
use Rattle.ir_model.specs.Calls.{first_result, first_result_by, first_result_in, or_else, result_of_call}
use Rattle.ir_model.specs.Ty.{Ty}
use Rattle.ir_model.specs.declared.instr.Instr.{Instr}
use Rattle.ir_model.specs.declared.module.Block.{Block}
use Rattle.ir_model.specs.declared.module.Function.{Function}
use Rattle.ir_model.specs.declared.operand.Arg.{Arg}
use Rattle.ir_model.specs.declared.operand.Callee.{Callee}
use Rattle.ir_model.specs.declared.operand.Intrinsic.{Intrinsic}
use Rattle.rule_laws.specs.ir_paths.Windows.{is_call_of}

abbrev begin_of : Instr → Option ℕ
begin_of i = result_of_call Intrinsic.CoroBegin i

-- ---- saves and renaming leave begin's value

renamed_same : (r : Renaming) (i : Instr) → begin_of (renamed_instr r i) ≡ begin_of i
renamed_same r (Instr.Call result must_tail ty (Callee.Intrinsic x) args) = refl
renamed_same r (Instr.Call result must_tail ty (Callee.Named n) args) = refl
renamed_same r (Instr.Call result must_tail ty (Callee.Allocator a) args) = refl
renamed_same r (Instr.Call result must_tail ty (Callee.Local v) args) = refl
renamed_same r _ = refl

suspend_same : (n : ℕ) (b : Bool) (result : Option ℕ) (must_tail : Bool) (ty : Option Ty) (args : List Arg) (rest : List Instr) → let i : Instr = Instr.Call result must_tail ty (Callee.Intrinsic Intrinsic.CoroSuspend) args in
    first_result_in Intrinsic.CoroBegin ((if b then save_call n ∷ saved n i ∷ [] else i ∷ []) ++ rest) ≡ first_result_in Intrinsic.CoroBegin rest
suspend_same n true result must_tail ty args rest = refl
suspend_same n false result must_tail ty args rest = refl

one_same : (n : ℕ) (i : Instr) (rest : List Instr) → first_result_in Intrinsic.CoroBegin (early_one n i ++ rest) ≡ or_else (begin_of i) (first_result_in Intrinsic.CoroBegin rest)
one_same n (Instr.Call result must_tail ty (Callee.Intrinsic Intrinsic.CoroSuspend) args) rest = suspend_same n (is_unsaved (Instr.Call result must_tail ty (Callee.Intrinsic Intrinsic.CoroSuspend) args)) result must_tail ty args rest
one_same n (Instr.Call result must_tail ty (Callee.Intrinsic x) args) rest = refl
one_same n (Instr.Call result must_tail ty (Callee.Named x) args) rest = refl
one_same n (Instr.Call result must_tail ty (Callee.Allocator a) args) rest = refl
one_same n (Instr.Call result must_tail ty (Callee.Local v) args) rest = refl
one_same n _ rest = refl

instrs_same : (r : Renaming) (n : ℕ) (is : List Instr) → first_result_in Intrinsic.CoroBegin (early_instrs r n is) ≡ first_result_in Intrinsic.CoroBegin is
instrs_same r n [] = refl
instrs_same r n (i ∷ is) =
    one_same n (renamed_instr r i) (early_instrs r (after_one n (renamed_instr r i)) is)
    ∙ (λ k. or_else (renamed_same r i k) (instrs_same r (after_one n (renamed_instr r i)) is k))

pub blocks_same : (r : Renaming) (n : ℕ) (bs : List Block) → first_result_by Intrinsic.CoroBegin (early_blocks r n bs) ≡ first_result_by Intrinsic.CoroBegin bs
blocks_same r n [] = refl
blocks_same r n (b ∷ bs) = λ k. or_else (instrs_same r n b.instrs k) (blocks_same r (after_instrs r n b.instrs) bs k)

-- ---- begin gets a name

one_named : (n : ℕ) (i : Instr) → begin_of (named_instr n i) ≡ (if is_call_of Intrinsic.CoroBegin i then Some n else None)
one_named n (Instr.Call result must_tail ty (Callee.Intrinsic Intrinsic.CoroBegin) args) = refl
one_named n (Instr.Call result must_tail ty (Callee.Intrinsic x) args) = refl
one_named n (Instr.Call result must_tail ty (Callee.Named x) args) = refl
one_named n (Instr.Call result must_tail ty (Callee.Allocator a) args) = refl
one_named n (Instr.Call result must_tail ty (Callee.Local v) args) = refl
one_named n _ = refl

named_in : (n : ℕ) (is : List Instr) → is_none (first_call_in Intrinsic.CoroBegin is) ≡ false → first_result_in Intrinsic.CoroBegin (map (named_instr n) is) ≡ Some n
named_in n [] e = absurd (cc)
named_in n (i ∷ is) e = ap (λ (o : Option ℕ). or_else o (first_result_in Intrinsic.CoroBegin (map (named_instr n) is))) (one_named n i) ∙ on (is_call_of Intrinsic.CoroBegin i) e (named_in n is)
  where
    on : (b : Bool) → is_none (if b then Some i else first_call_in Intrinsic.CoroBegin is) ≡ false → (is_none (first_call_in Intrinsic.CoroBegin is) ≡ false → first_result_in Intrinsic.CoroBegin (map (named_instr n) is) ≡ Some n)
        → or_else (if b then Some n else None) (first_result_in Intrinsic.CoroBegin (map (named_instr n) is)) ≡ Some n
    on true h rest = refl
    on false h rest = rest h

-- what isn't there gets no name
unnamed_in : (n : ℕ) (is : List Instr) → is_none (first_call_in Intrinsic.CoroBegin is) ≡ true → first_result_in Intrinsic.CoroBegin (map (named_instr n) is) ≡ None
unnamed_in n [] e = refl
unnamed_in n (i ∷ is) e = ap (λ (o : Option ℕ). or_else o (first_result_in Intrinsic.CoroBegin (map (named_instr n) is))) (one_named n i) ∙ on (is_call_of Intrinsic.CoroBegin i) e (unnamed_in n is)
  where
    on : (b : Bool) → is_none (if b then Some i else first_call_in Intrinsic.CoroBegin is) ≡ true → (is_none (first_call_in Intrinsic.CoroBegin is) ≡ true → first_result_in Intrinsic.CoroBegin (map (named_instr n) is) ≡ None)
        → or_else (if b then Some n else None) (first_result_in Intrinsic.CoroBegin (map (named_instr n) is)) ≡ None
    on true h rest = absurd (cc)
    on false h rest = rest h

named_by : (n : ℕ) (bs : List Block) → is_none (first_call_by Intrinsic.CoroBegin bs) ≡ false → first_result_by Intrinsic.CoroBegin (map (named_block n) bs) ≡ Some n
named_by n [] e = absurd (cc)
named_by n (b ∷ bs) e = on (first_call_in Intrinsic.CoroBegin b.instrs) refl e (named_by n bs)
  where
    on : (o : Option Instr) → first_call_in Intrinsic.CoroBegin b.instrs ≡ o → is_none (or_instr o (first_call_by Intrinsic.CoroBegin bs)) ≡ false → (is_none (first_call_by Intrinsic.CoroBegin bs) ≡ false → first_result_by Intrinsic.CoroBegin (map (named_block n) bs) ≡ Some n)
        → or_else (first_result_in Intrinsic.CoroBegin (map (named_instr n) b.instrs)) (first_result_by Intrinsic.CoroBegin (map (named_block n) bs)) ≡ Some n
    on (Some i) d h later = ap (λ (o : Option ℕ). or_else o (first_result_by Intrinsic.CoroBegin (map (named_block n) bs))) (named_in n b.instrs (ap is_none d))
    on None d h later = ap (λ (o : Option ℕ). or_else o (first_result_by Intrinsic.CoroBegin (map (named_block n) bs))) (unnamed_in n b.instrs (ap is_none d)) ∙ later h

-- ---- the first pass

-- begin's value, and its name
pub record HasBeginName (f : Function) : Type 0 where
  pub begin : ℕ
  pub named : first_result Intrinsic.CoroBegin f ≡ Some begin

-- there is a begin (K2)
pub begin_there : (k : ℕ) (f : Function) → f.coroutine ≡ true → wrong_call k f ≡ None → is_none (first_call Intrinsic.CoroBegin f) ≡ false
begin_there k f c e =
    let all : first_part (breaks_calls (calls_of k f)) (parts_of k f) ≡ None = ap (λ (b : Bool). if b then first_part (breaks_calls (calls_of k f)) (parts_of k f) else None) (sym c) ∙ e in
    let missing = (passing (breaks_calls (calls_of k f)) (parts_of k f) all).0 in
    or_first_out (is_none (first_call Intrinsic.CoroBegin f)) (is_none (first_call Intrinsic.CoroEnd f))
    (or_second_out (is_none (first_call Intrinsic.CoroId f)) (is_none (first_call Intrinsic.CoroBegin f) || is_none (first_call Intrinsic.CoroEnd f)) missing)

pub name_by : (f : Function) → is_none (first_call Intrinsic.CoroBegin f) ≡ false → HasBeginName (with_begin_name f)
name_by f e = on (first_result Intrinsic.CoroBegin f) refl
  where
    on : (o : Option ℕ) → first_result Intrinsic.CoroBegin f ≡ o → HasBeginName (if_unnamed o f)
    on None d = record { begin = length f.names; named = named_by (length f.names) f.blocks e }
    on (Some n) d = record { begin = n; named = d }

pub early_begin : (k : ℕ) (f : Function) → f.coroutine ≡ true → wrong_call k f ≡ None → HasBeginName (early_function f)
early_begin k f c e =
    let g : Function = with_begin_name f in
    let x = name_by f (begin_there k f c e) in
    subst HasBeginName (ap (λ (b : Bool). if b then early_named g else f) (sym c))
    (record { begin = x.begin; named = blocks_same (renaming_of g) (length g.names) g.blocks ∙ x.named })

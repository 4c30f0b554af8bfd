-- Rule K2: one id, begin and end, and what they and alloc, free and save name.
use Rattle.std.specs.Prelude.{ℕ, Bool, true, false, not, List, [], is_some, is_none, slice_get, Some, None, Option, ◌&&◌, ◌||◌, if◌then◌else◌}
use Rattle.ir_base.specs.declared.outcome.Place.{Place}
use Rattle.rule_windows.specs.ir_calls.Calls.{first_call, is_null, is_value, value_of_first}
use Rattle.rule_shape.specs.Places.{is_spot, is_the, places_where}
use Rattle.rule_shape.specs.declared.one_of_each.Calls.{Calls}
use Rattle.rule_windows.specs.ir_parts.Parts.{Part, OfInstr, Signature, first_part, parts_of}
use Rattle.ir_model.specs.declared.instr.Instr.{Instr}
use Rattle.ir_model.specs.declared.module.Function.{Function}
use Rattle.ir_model.specs.declared.operand.Arg.{Arg}
use Rattle.ir_model.specs.declared.operand.Callee.{Callee}
use Rattle.ir_model.specs.declared.operand.Intrinsic.{Intrinsic}
use Rattle.rule_windows.specs.ir_paths.Windows.{is_call_of, operand_at}

abbrev pub is_missing : Intrinsic → Function → Bool
is_missing i f = is_none (first_call i f)

-- the second call of an intrinsic in order of the text
abbrev pub second_call : Intrinsic → ℕ → Function → Option Place
second_call i func f = slice_get (places_where (is_call_of i) func f) 1

abbrev pub calls_of : ℕ → Function → Calls
calls_of func f =
    record {
      is_missing = is_missing Intrinsic.CoroId f || (is_missing Intrinsic.CoroBegin f || is_missing Intrinsic.CoroEnd f);
      second_id = second_call Intrinsic.CoroId func f;
      second_begin = second_call Intrinsic.CoroBegin func f;
      second_end = second_call Intrinsic.CoroEnd func f;
      token = value_of_first Intrinsic.CoroId f;
      frame = value_of_first Intrinsic.CoroBegin f;
    }

abbrev pub is_second : Calls → Place → Bool
is_second c p = is_spot c.second_id p || (is_spot c.second_begin p || is_spot c.second_end p)

-- an operand is id's token, begin's value, or null or begin's value
abbrev pub has_token : Calls → List Arg → Bool
has_token c args = is_value c.token (operand_at args 0)

abbrev pub has_frame_at : Calls → ℕ → List Arg → Bool
has_frame_at c n args = is_value c.frame (operand_at args n)

abbrev pub has_no_other_frame : Calls → List Arg → Bool
has_no_other_frame c args = is_null (operand_at args 0) || has_frame_at c 0 args

-- the place is the first of its block, phis counted
abbrev pub is_first_in_block : Place → Bool
is_first_in_block p = is_the p.instr 0

-- what a call of a coroutine names is right, and the end stands first in its block
abbrev pub is_right : Calls → Place → Intrinsic → List Arg → Bool
is_right c p Intrinsic.CoroAlloc args = has_token c args
is_right c p Intrinsic.CoroBegin args = has_token c args
is_right c p Intrinsic.CoroFree args = has_token c args && has_frame_at c 1 args
is_right c p Intrinsic.CoroSave args = has_no_other_frame c args
is_right c p Intrinsic.CoroEnd args = is_first_in_block p && has_no_other_frame c args
is_right c p _ args = true

abbrev pub is_right_instr : Calls → Place → Instr → Bool
is_right_instr c p (Instr.Call result must_tail ty (Callee.Intrinsic i) args) = is_right c p i args
is_right_instr c p _ = true

abbrev pub breaks_calls : Calls → Place → Part → Bool
breaks_calls c p (Signature f) = c.is_missing
breaks_calls c p (OfInstr i) = is_second c p || not (is_right_instr c p i)
breaks_calls c p _ = false

-- K2: not exactly one id, begin and end; the end not first in its block; begin, alloc or free with another token; free's pointer isn't begin's value; save's or end's pointer is neither null nor begin's value
abbrev pub wrong_call : ℕ → Function → Option Place
wrong_call func f = if f.coroutine then first_part (breaks_calls (calls_of func f)) (parts_of func f) else None

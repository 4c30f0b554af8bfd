-- Turns of the loops that read lists.
use Rattle.std.proofs.Common.{◌≡◌, ◌<◌, ◌≤◌, true, false, List, [], ◌∷◌, ◌++◌, length, Option, None}
use Rattle.std.specs.Prelude.{Some}
use Rattle.ir_base.specs.declared.name.Name.{Name}
use Rattle.ir_model.specs.declared.operand.Arg.{Arg}
use Rattle.ir_model.specs.declared.module.Block.{Block}
use Rattle.ir_model.specs.declared.instr.Case.{Case}
use Rattle.ir_model.specs.declared.instr.Incoming.{Incoming}
use Rattle.ir_model.specs.declared.instr.Instr.{Instr}
use Rattle.ir_model.specs.declared.instr.Phi.{Phi}
use Rattle.ir_model.specs.declared.module.TypeItem.{TypeItem}
use Rattle.text_blocks.specs.Blocks.{begins_label, labelled_at}
use Rattle.text_blocks.specs.Calls.{begins_comma, begins_instr, instr_line_at, next_arg_at}
use Rattle.text_blocks.specs.Instrs.{begins_index, index_at}
use Rattle.text_blocks.specs.Terminators.{begins_case, begins_incoming, begins_phi, case_at, next_incoming_at, phi_line_at}
use Rattle.text_reader.proofs.ManySteps.{many_begun, many_turn, many_done, many_fault, many_stuck}
use Rattle.text_reader.specs.Many.{after, many_at}
use Rattle.text_symbols.specs.declared.sym.Sym.{Sym}

-- ---- the first index and those that follow

pub indices_turn : (whole : Option (List Arg × List Name × List Sym)) (xs ys : List Arg) (ns ns' : List Name) (ts rest : List Sym) (x : Arg) → whole ≡ after xs (many_at begins_index index_at ns ts) → begins_index ts ≡ true → index_at ns ts ≡ Some (x, ns', rest) → length rest < length ts → ys ≡ xs ++ x ∷ [] → whole ≡ after ys (many_at begins_index index_at ns' rest)
indices_turn whole xs ys ns ns' ts rest x inv begun e less items = many_turn begins_index index_at whole xs ys ns ns' ts rest x inv begun e less items

pub indices_done : (whole : Option (List Arg × List Name × List Sym)) (xs : List Arg) (ns : List Name) (ts : List Sym) → whole ≡ after xs (many_at begins_index index_at ns ts) → begins_index ts ≡ false → whole ≡ Some (xs, ns, ts)
indices_done whole xs ns ts inv ended = many_done begins_index index_at whole xs ns ts inv ended

pub indices_fault : (whole : Option (List Arg × List Name × List Sym)) (xs : List Arg) (ns : List Name) (ts : List Sym) → whole ≡ after xs (many_at begins_index index_at ns ts) → begins_index ts ≡ true → index_at ns ts ≡ None → whole ≡ None
indices_fault whole xs ns ts inv begun e = many_fault begins_index index_at whole xs ns ts inv begun e

pub indices_stuck : (whole : Option (List Arg × List Name × List Sym)) (xs : List Arg) (ns ns' : List Name) (ts rest : List Sym) (x : Arg) → whole ≡ after xs (many_at begins_index index_at ns ts) → begins_index ts ≡ true → index_at ns ts ≡ Some (x, ns', rest) → length ts ≤ length rest → whole ≡ None
indices_stuck whole xs ns ns' ts rest x inv begun e more = many_stuck begins_index index_at whole xs ns ns' ts rest x inv begun e more

-- ---- the first argument and those that follow

pub args_turn : (whole : Option (List Arg × List Name × List Sym)) (xs ys : List Arg) (ns ns' : List Name) (ts rest : List Sym) (x : Arg) → whole ≡ after xs (many_at begins_comma next_arg_at ns ts) → begins_comma ts ≡ true → next_arg_at ns ts ≡ Some (x, ns', rest) → length rest < length ts → ys ≡ xs ++ x ∷ [] → whole ≡ after ys (many_at begins_comma next_arg_at ns' rest)
args_turn whole xs ys ns ns' ts rest x inv begun e less items = many_turn begins_comma next_arg_at whole xs ys ns ns' ts rest x inv begun e less items

pub args_done : (whole : Option (List Arg × List Name × List Sym)) (xs : List Arg) (ns : List Name) (ts : List Sym) → whole ≡ after xs (many_at begins_comma next_arg_at ns ts) → begins_comma ts ≡ false → whole ≡ Some (xs, ns, ts)
args_done whole xs ns ts inv ended = many_done begins_comma next_arg_at whole xs ns ts inv ended

pub args_fault : (whole : Option (List Arg × List Name × List Sym)) (xs : List Arg) (ns : List Name) (ts : List Sym) → whole ≡ after xs (many_at begins_comma next_arg_at ns ts) → begins_comma ts ≡ true → next_arg_at ns ts ≡ None → whole ≡ None
args_fault whole xs ns ts inv begun e = many_fault begins_comma next_arg_at whole xs ns ts inv begun e

pub args_stuck : (whole : Option (List Arg × List Name × List Sym)) (xs : List Arg) (ns ns' : List Name) (ts rest : List Sym) (x : Arg) → whole ≡ after xs (many_at begins_comma next_arg_at ns ts) → begins_comma ts ≡ true → next_arg_at ns ts ≡ Some (x, ns', rest) → length ts ≤ length rest → whole ≡ None
args_stuck whole xs ns ns' ts rest x inv begun e more = many_stuck begins_comma next_arg_at whole xs ns ns' ts rest x inv begun e more

-- ---- the first value of a phi and those that follow

pub incomings_turn : (whole : Option (List Incoming × List Name × List Sym)) (xs ys : List Incoming) (ns ns' : List Name) (ts rest : List Sym) (x : Incoming) → whole ≡ after xs (many_at begins_incoming next_incoming_at ns ts) → begins_incoming ts ≡ true → next_incoming_at ns ts ≡ Some (x, ns', rest) → length rest < length ts → ys ≡ xs ++ x ∷ [] → whole ≡ after ys (many_at begins_incoming next_incoming_at ns' rest)
incomings_turn whole xs ys ns ns' ts rest x inv begun e less items = many_turn begins_incoming next_incoming_at whole xs ys ns ns' ts rest x inv begun e less items

pub incomings_done : (whole : Option (List Incoming × List Name × List Sym)) (xs : List Incoming) (ns : List Name) (ts : List Sym) → whole ≡ after xs (many_at begins_incoming next_incoming_at ns ts) → begins_incoming ts ≡ false → whole ≡ Some (xs, ns, ts)
incomings_done whole xs ns ts inv ended = many_done begins_incoming next_incoming_at whole xs ns ts inv ended

pub incomings_fault : (whole : Option (List Incoming × List Name × List Sym)) (xs : List Incoming) (ns : List Name) (ts : List Sym) → whole ≡ after xs (many_at begins_incoming next_incoming_at ns ts) → begins_incoming ts ≡ true → next_incoming_at ns ts ≡ None → whole ≡ None
incomings_fault whole xs ns ts inv begun e = many_fault begins_incoming next_incoming_at whole xs ns ts inv begun e

pub incomings_stuck : (whole : Option (List Incoming × List Name × List Sym)) (xs : List Incoming) (ns ns' : List Name) (ts rest : List Sym) (x : Incoming) → whole ≡ after xs (many_at begins_incoming next_incoming_at ns ts) → begins_incoming ts ≡ true → next_incoming_at ns ts ≡ Some (x, ns', rest) → length ts ≤ length rest → whole ≡ None
incomings_stuck whole xs ns ns' ts rest x inv begun e more = many_stuck begins_incoming next_incoming_at whole xs ns ns' ts rest x inv begun e more

-- ---- all phis

pub phis_begun : (ns : List Name) (ts : List Sym) → many_at begins_phi phi_line_at ns ts ≡ after [] (many_at begins_phi phi_line_at ns ts)
phis_begun ns ts = many_begun begins_phi phi_line_at ns ts

pub phis_turn : (whole : Option (List Phi × List Name × List Sym)) (xs ys : List Phi) (ns ns' : List Name) (ts rest : List Sym) (x : Phi) → whole ≡ after xs (many_at begins_phi phi_line_at ns ts) → begins_phi ts ≡ true → phi_line_at ns ts ≡ Some (x, ns', rest) → length rest < length ts → ys ≡ xs ++ x ∷ [] → whole ≡ after ys (many_at begins_phi phi_line_at ns' rest)
phis_turn whole xs ys ns ns' ts rest x inv begun e less items = many_turn begins_phi phi_line_at whole xs ys ns ns' ts rest x inv begun e less items

pub phis_done : (whole : Option (List Phi × List Name × List Sym)) (xs : List Phi) (ns : List Name) (ts : List Sym) → whole ≡ after xs (many_at begins_phi phi_line_at ns ts) → begins_phi ts ≡ false → whole ≡ Some (xs, ns, ts)
phis_done whole xs ns ts inv ended = many_done begins_phi phi_line_at whole xs ns ts inv ended

pub phis_fault : (whole : Option (List Phi × List Name × List Sym)) (xs : List Phi) (ns : List Name) (ts : List Sym) → whole ≡ after xs (many_at begins_phi phi_line_at ns ts) → begins_phi ts ≡ true → phi_line_at ns ts ≡ None → whole ≡ None
phis_fault whole xs ns ts inv begun e = many_fault begins_phi phi_line_at whole xs ns ts inv begun e

pub phis_stuck : (whole : Option (List Phi × List Name × List Sym)) (xs : List Phi) (ns ns' : List Name) (ts rest : List Sym) (x : Phi) → whole ≡ after xs (many_at begins_phi phi_line_at ns ts) → begins_phi ts ≡ true → phi_line_at ns ts ≡ Some (x, ns', rest) → length ts ≤ length rest → whole ≡ None
phis_stuck whole xs ns ns' ts rest x inv begun e more = many_stuck begins_phi phi_line_at whole xs ns ns' ts rest x inv begun e more

-- ---- all instructions up to the terminator

pub instrs_begun : (types : List TypeItem) (ns : List Name) (ts : List Sym) → many_at begins_instr (instr_line_at types) ns ts ≡ after [] (many_at begins_instr (instr_line_at types) ns ts)
instrs_begun types ns ts = many_begun begins_instr (instr_line_at types) ns ts

pub instrs_turn : (types : List TypeItem) (whole : Option (List Instr × List Name × List Sym)) (xs ys : List Instr) (ns ns' : List Name) (ts rest : List Sym) (x : Instr) → whole ≡ after xs (many_at begins_instr (instr_line_at types) ns ts) → begins_instr ts ≡ true → instr_line_at types ns ts ≡ Some (x, ns', rest) → length rest < length ts → ys ≡ xs ++ x ∷ [] → whole ≡ after ys (many_at begins_instr (instr_line_at types) ns' rest)
instrs_turn types whole xs ys ns ns' ts rest x inv begun e less items = many_turn begins_instr (instr_line_at types) whole xs ys ns ns' ts rest x inv begun e less items

pub instrs_done : (types : List TypeItem) (whole : Option (List Instr × List Name × List Sym)) (xs : List Instr) (ns : List Name) (ts : List Sym) → whole ≡ after xs (many_at begins_instr (instr_line_at types) ns ts) → begins_instr ts ≡ false → whole ≡ Some (xs, ns, ts)
instrs_done types whole xs ns ts inv ended = many_done begins_instr (instr_line_at types) whole xs ns ts inv ended

pub instrs_fault : (types : List TypeItem) (whole : Option (List Instr × List Name × List Sym)) (xs : List Instr) (ns : List Name) (ts : List Sym) → whole ≡ after xs (many_at begins_instr (instr_line_at types) ns ts) → begins_instr ts ≡ true → instr_line_at types ns ts ≡ None → whole ≡ None
instrs_fault types whole xs ns ts inv begun e = many_fault begins_instr (instr_line_at types) whole xs ns ts inv begun e

pub instrs_stuck : (types : List TypeItem) (whole : Option (List Instr × List Name × List Sym)) (xs : List Instr) (ns ns' : List Name) (ts rest : List Sym) (x : Instr) → whole ≡ after xs (many_at begins_instr (instr_line_at types) ns ts) → begins_instr ts ≡ true → instr_line_at types ns ts ≡ Some (x, ns', rest) → length ts ≤ length rest → whole ≡ None
instrs_stuck types whole xs ns ns' ts rest x inv begun e more = many_stuck begins_instr (instr_line_at types) whole xs ns ns' ts rest x inv begun e more

-- ---- all values of a switch

pub cases_begun : (ns : List Name) (ts : List Sym) → many_at begins_case case_at ns ts ≡ after [] (many_at begins_case case_at ns ts)
cases_begun ns ts = many_begun begins_case case_at ns ts

pub cases_turn : (whole : Option (List Case × List Name × List Sym)) (xs ys : List Case) (ns ns' : List Name) (ts rest : List Sym) (x : Case) → whole ≡ after xs (many_at begins_case case_at ns ts) → begins_case ts ≡ true → case_at ns ts ≡ Some (x, ns', rest) → length rest < length ts → ys ≡ xs ++ x ∷ [] → whole ≡ after ys (many_at begins_case case_at ns' rest)
cases_turn whole xs ys ns ns' ts rest x inv begun e less items = many_turn begins_case case_at whole xs ys ns ns' ts rest x inv begun e less items

pub cases_done : (whole : Option (List Case × List Name × List Sym)) (xs : List Case) (ns : List Name) (ts : List Sym) → whole ≡ after xs (many_at begins_case case_at ns ts) → begins_case ts ≡ false → whole ≡ Some (xs, ns, ts)
cases_done whole xs ns ts inv ended = many_done begins_case case_at whole xs ns ts inv ended

pub cases_fault : (whole : Option (List Case × List Name × List Sym)) (xs : List Case) (ns : List Name) (ts : List Sym) → whole ≡ after xs (many_at begins_case case_at ns ts) → begins_case ts ≡ true → case_at ns ts ≡ None → whole ≡ None
cases_fault whole xs ns ts inv begun e = many_fault begins_case case_at whole xs ns ts inv begun e

pub cases_stuck : (whole : Option (List Case × List Name × List Sym)) (xs : List Case) (ns ns' : List Name) (ts rest : List Sym) (x : Case) → whole ≡ after xs (many_at begins_case case_at ns ts) → begins_case ts ≡ true → case_at ns ts ≡ Some (x, ns', rest) → length ts ≤ length rest → whole ≡ None
cases_stuck whole xs ns ns' ts rest x inv begun e more = many_stuck begins_case case_at whole xs ns ns' ts rest x inv begun e more

-- ---- the first block and those that follow

pub blocks_turn : (types : List TypeItem) (whole : Option (List Block × List Name × List Sym)) (xs ys : List Block) (ns ns' : List Name) (ts rest : List Sym) (x : Block) → whole ≡ after xs (many_at begins_label (labelled_at types) ns ts) → begins_label ts ≡ true → labelled_at types ns ts ≡ Some (x, ns', rest) → length rest < length ts → ys ≡ xs ++ x ∷ [] → whole ≡ after ys (many_at begins_label (labelled_at types) ns' rest)
blocks_turn types whole xs ys ns ns' ts rest x inv begun e less items = many_turn begins_label (labelled_at types) whole xs ys ns ns' ts rest x inv begun e less items

pub blocks_done : (types : List TypeItem) (whole : Option (List Block × List Name × List Sym)) (xs : List Block) (ns : List Name) (ts : List Sym) → whole ≡ after xs (many_at begins_label (labelled_at types) ns ts) → begins_label ts ≡ false → whole ≡ Some (xs, ns, ts)
blocks_done types whole xs ns ts inv ended = many_done begins_label (labelled_at types) whole xs ns ts inv ended

pub blocks_fault : (types : List TypeItem) (whole : Option (List Block × List Name × List Sym)) (xs : List Block) (ns : List Name) (ts : List Sym) → whole ≡ after xs (many_at begins_label (labelled_at types) ns ts) → begins_label ts ≡ true → labelled_at types ns ts ≡ None → whole ≡ None
blocks_fault types whole xs ns ts inv begun e = many_fault begins_label (labelled_at types) whole xs ns ts inv begun e

pub blocks_stuck : (types : List TypeItem) (whole : Option (List Block × List Name × List Sym)) (xs : List Block) (ns ns' : List Name) (ts rest : List Sym) (x : Block) → whole ≡ after xs (many_at begins_label (labelled_at types) ns ts) → begins_label ts ≡ true → labelled_at types ns ts ≡ Some (x, ns', rest) → length ts ≤ length rest → whole ≡ None
blocks_stuck types whole xs ns ns' ts rest x inv begun e more = many_stuck begins_label (labelled_at types) whole xs ns ns' ts rest x inv begun e more

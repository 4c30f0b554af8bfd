-- What can be written of an instruction, a phi and a terminator says that their types can be written.
use Rattle.std.proofs.Common.{ℕ, Bool, List, [], ◌∷◌, ◌++◌}
use Rattle.std.specs.Prelude.{None, Option, Some, map, option_to_list}
use Rattle.text_canonical.specs.canonical.BlockSymbols.{all_incoming_symbols, block_symbols, blocks_symbols, cases_symbols, case_symbols, instrs_symbols, phi_symbols, phis_symbols, term_symbols}
use Rattle.text_canonical.specs.canonical.InstrSymbols.{action_symbols, address_symbols, align_symbols, flag_symbols, flags_symbols, instr_symbols, set_symbols}
use Rattle.text_canonical.specs.canonical.Instrs.{set_by}
use Rattle.text_canonical.specs.canonical.Marks.{close_round, close_square, comma, open_round, open_square, word}
use Rattle.text_canonical.specs.canonical.OperandSymbols.{arg_symbols, args_symbols, callee_symbol, label_symbols, more_args_symbols, operand_symbol, result_symbols}
use Rattle.text_canonical.specs.canonical.TypeSymbols.{type_symbols}
use Rattle.text_canonical.specs.canonical.Written.{AreWritten}
use Rattle.ir_laws.specs.ir_base.declared.name.Name.{Name}
use Rattle.ir_parts.specs.Contents.{arg_types, ending_types}
use Rattle.ir_laws.specs.ir_model.Ty.{Ty}
use Rattle.ir_laws.specs.ir_model.declared.instr.Case.{Case}
use Rattle.ir_laws.specs.ir_model.declared.instr.Instr.{Instr}
use Rattle.ir_laws.specs.ir_model.declared.instr.Phi.{Phi}
use Rattle.ir_laws.specs.ir_model.declared.instr.Terminator.{Terminator}
use Rattle.ir_laws.specs.ir_model.declared.module.Block.{Block}
use Rattle.ir_laws.specs.ir_model.declared.operand.Arg.{Arg}
use Rattle.ir_laws.specs.ir_model.declared.operand.Callee.{Callee}
use Rattle.text_symbols.specs.declared.sym.Sym.{Sym}
use Rattle.rule_laws.specs.texts.spelled.Spelled.{IsSpelled}
use Rattle.rule_laws.specs.rules.spelled.Spelled.{IsSpelledBlock, IsSpelledInstr, MayStand}
use Rattle.ir_laws.specs.run_laws.changed.Changed.{Each}
use Rattle.text_symbols.specs.declared.word.Word.TheVariants as words
use Rattle.text_canonical.specs.order.Shape as shape

pub written_first : (xs ys : List Sym) → AreWritten (xs ++ ys) → AreWritten xs
written_first [] ys h = tt
written_first (x ∷ xs) ys h = (h.0, written_first xs ys h.1)

pub written_rest : (xs ys : List Sym) → AreWritten (xs ++ ys) → AreWritten ys
written_rest [] ys h = h
written_rest (x ∷ xs) ys h = written_rest xs ys h.1

module _ (names : List Name) where
  -- ---- types in front of other symbols

  abbrev type_and : Ty → List Sym → List Sym
  type_and t rest = type_symbols t ++ rest

  args_spelled : (args : List Arg) → shape.Each (shape.IsArg names) args → AreWritten (more_args_symbols names args) → Each IsSpelled (arg_types args)
  args_spelled [] h w = tt
  args_spelled (a ∷ args) h w =
      let own : AreWritten (arg_symbols names a) = written_first (arg_symbols names a) (more_args_symbols names args) w.1 in (
        (h.0.0, written_first (type_symbols a.ty) (operand_symbol names a.value ∷ []) own),
        args_spelled args h.1 (written_rest (arg_symbols names a) (more_args_symbols names args) w.1),
      )

  all_args_spelled : (args : List Arg) → shape.Each (shape.IsArg names) args → AreWritten (args_symbols names args) → Each IsSpelled (arg_types args)
  all_args_spelled [] h w = tt
  all_args_spelled (a ∷ args) h w = args_spelled (a ∷ args) h (tt, w)

  some_args : (args : List Arg) → shape.Some_of (shape.IsArg names) args → shape.Each (shape.IsArg names) args
  some_args [] h = absurd h
  some_args (a ∷ args) h = h

  result_spelled : (o : Option Ty) → shape.IsResult o → AreWritten (result_symbols o) → Each IsSpelled (option_to_list o)
  result_spelled None h w = tt
  result_spelled (Some t) h w = ((h, w), tt)

  types_joined : (ts us : List Ty) → Each IsSpelled ts → Each IsSpelled us → Each IsSpelled (ts ++ us)
  types_joined [] us h k = k
  types_joined (t ∷ ts) us h k = (h.0, types_joined ts us h.1 k)

  -- ---- instructions

  called_so : (r : Option ℕ) (must_tail : Bool) (ty : Option Ty) (c : Callee) (args : List Arg) → shape.IsCallee names c → MayStand (Instr.Call r must_tail ty c args)
  called_so r must_tail ty (Callee.Named n) args h = h
  called_so r must_tail ty (Callee.Allocator a) args h = tt
  called_so r must_tail ty (Callee.Intrinsic x) args h = tt
  called_so r must_tail ty (Callee.Local v) args h = tt

  action_spelled : (i : Instr) → shape.IsInstr names i → AreWritten (action_symbols names i) → IsSpelledInstr i
  action_spelled (Instr.Binary r op flags ty left right) h w =
      let rest : List Sym = operand_symbol names left ∷ comma ∷ operand_symbol names right ∷ [] in
      record { types = ((h.2, written_first (type_symbols ty) rest (written_rest (flags_symbols flags) (type_symbols ty ++ rest) w.1)), tt); stands = h.1 }
  action_spelled (Instr.Icmp r pred ty left right) h w =
      record { types = ((h.1, written_first (type_symbols ty) (operand_symbol names left ∷ comma ∷ operand_symbol names right ∷ []) w.1.1), tt); stands = tt }
  action_spelled (Instr.Select r c a b) h w =
      let both : AreWritten (arg_symbols names a ++ comma ∷ arg_symbols names b) = w.1.1.1.1 in
      let first : AreWritten (arg_symbols names a) = written_first (arg_symbols names a) (comma ∷ arg_symbols names b) both in
      let second : AreWritten (arg_symbols names b) = (written_rest (arg_symbols names a) (comma ∷ arg_symbols names b) both).1 in
      record {
        types = ((h.2.0, written_first (type_symbols a.ty) (operand_symbol names a.value ∷ []) first), ((h.3.0, written_first (type_symbols b.ty) (operand_symbol names b.value ∷ []) second), tt));
        stands = tt;
      }
  action_spelled (Instr.Cast r op nneg arg to) h w =
      let rest : List Sym = word words.To ∷ type_symbols to in
      let front : List Sym = flag_symbols nneg words.Nneg ++ arg_symbols names arg in
      let first : AreWritten (arg_symbols names arg) = written_rest (flag_symbols nneg words.Nneg) (arg_symbols names arg) (written_first front rest w.1) in
      record {
        types = ((h.2.0, written_first (type_symbols arg.ty) (operand_symbol names arg.value ∷ []) first), ((h.3, (written_rest front rest w.1).1), tt));
        stands = h.1;
      }
  action_spelled (Instr.Alloca r ty align) h w = record { types = ((h.1, written_first (type_symbols ty) (align_symbols align) w.1), tt); stands = tt }
  action_spelled (Instr.Load r ty address align) h w =
      record { types = ((h.1, written_first (type_symbols ty) (address_symbols names address) (written_first (type_symbols ty ++ address_symbols names address) (align_symbols align) w.1)), tt); stands = tt }
  action_spelled (Instr.Store arg address align) h w =
      let first : AreWritten (arg_symbols names arg) = written_first (arg_symbols names arg) (address_symbols names address) (written_first (arg_symbols names arg ++ address_symbols names address) (align_symbols align) w.1) in
      record { types = ((h.0.0, written_first (type_symbols arg.ty) (operand_symbol names arg.value ∷ []) first), tt); stands = tt }
  action_spelled (Instr.Gep r inbounds ty base indices) h w =
      let front : List Sym = flag_symbols inbounds words.Inbounds ++ type_symbols ty in
      let both : List Sym = front ++ address_symbols names base in
      record {
        types = (
          (h.1, written_rest (flag_symbols inbounds words.Inbounds) (type_symbols ty) (written_first front (address_symbols names base) (written_first both (more_args_symbols names indices) w.1))),
          args_spelled indices (some_args indices h.3) (written_rest both (more_args_symbols names indices) w.1),
        );
        stands = tt;
      }
  action_spelled (Instr.Call r must_tail ty callee args) h w =
      let front : List Sym = flag_symbols must_tail words.Musttail ++ word words.Call ∷ result_symbols ty in
      let middle : List Sym = callee_symbol names callee ∷ open_round ∷ args_symbols names args in
      let whole : AreWritten (front ++ middle) = written_first (front ++ middle) (close_round ∷ []) w in
      let first : AreWritten front = written_first front middle whole in
      record {
        types = types_joined (option_to_list ty) (arg_types args) (result_spelled ty h.1 (written_rest (flag_symbols must_tail words.Musttail) (word words.Call ∷ result_symbols ty) first).1) (all_args_spelled args h.3 (written_rest front middle whole).1.1);
        stands = called_so r must_tail ty callee args h.2;
      }

  instr_spelled : (i : Instr) → shape.IsInstr names i → AreWritten (instr_symbols names i) → IsSpelledInstr i
  instr_spelled i h w = action_spelled i h (written_rest (set_symbols names (set_by i)) (action_symbols names i) w)

  instrs_spelled : (is : List Instr) → shape.Each (shape.IsInstr names) is → AreWritten (instrs_symbols names is) → Each IsSpelledInstr is
  instrs_spelled [] h w = tt
  instrs_spelled (i ∷ is) h w =
      (instr_spelled i h.0 (written_first (instr_symbols names i) (instrs_symbols names is) w), instrs_spelled is h.1 (written_rest (instr_symbols names i) (instrs_symbols names is) w))

  -- ---- phis, terminators and blocks

  phis_spelled : (ps : List Phi) → shape.Each (shape.IsPhi names) ps → AreWritten (phis_symbols names ps) → Each (λ p. IsSpelled p.ty) ps
  phis_spelled [] h w = tt
  phis_spelled (p ∷ ps) h w =
      let own : AreWritten (phi_symbols names p) = written_first (phi_symbols names p) (phis_symbols names ps) w in
      ((h.0.1, written_first (type_symbols p.ty) (all_incoming_symbols names p.incoming) own.1.1.1), phis_spelled ps h.1 (written_rest (phi_symbols names p) (phis_symbols names ps) w))

  arg_spelled : (a : Arg) → shape.IsArg names a → AreWritten (arg_symbols names a) → IsSpelled a.ty
  arg_spelled a h w = (h.0, written_first (type_symbols a.ty) (operand_symbol names a.value ∷ []) w)

  cases_spelled : (cases : List Case) → shape.Each (shape.IsCase names) cases → AreWritten (cases_symbols names cases) → Each IsSpelled (map (λ k. k.arg.ty) cases)
  cases_spelled [] h w = tt
  cases_spelled (c ∷ cases) h w =
      let own : AreWritten (case_symbols names c) = written_first (case_symbols names c) (cases_symbols names cases) w in (
        arg_spelled c.arg h.0.0 (written_first (arg_symbols names c.arg) (comma ∷ label_symbols names c.target) own),
        cases_spelled cases h.1 (written_rest (case_symbols names c) (cases_symbols names cases) w),
      )

  term_spelled : (t : Terminator) → shape.IsTerminator names t → AreWritten (term_symbols names t) → Each IsSpelled (ending_types t)
  term_spelled (Terminator.Jump label) h w = tt
  term_spelled (Terminator.Branch c a b) h w = tt
  term_spelled (Terminator.Switch arg default cases) h w =
      let front : List Sym = arg_symbols names arg ++ comma ∷ label_symbols names default in
      let both : AreWritten (front ++ open_square ∷ cases_symbols names cases) = written_first (front ++ open_square ∷ cases_symbols names cases) (close_square ∷ []) w.1 in (
        arg_spelled arg h.0 (written_first (arg_symbols names arg) (comma ∷ label_symbols names default) (written_first front (open_square ∷ cases_symbols names cases) both)),
        cases_spelled cases h.2 (written_rest front (open_square ∷ cases_symbols names cases) both).1,
      )
  term_spelled (Terminator.Ret None) h w = tt
  term_spelled (Terminator.Ret (Some a)) h w = (arg_spelled a h w.1, tt)
  term_spelled Terminator.Unreachable h w = tt

  block_spelled : (b : Block) → shape.IsBlock names b → AreWritten (block_symbols names b) → IsSpelledBlock b
  block_spelled b h w =
      let front : List Sym = phis_symbols names b.phis ++ instrs_symbols names b.instrs in
      let both : AreWritten front = written_first front (term_symbols names b.term) w.1 in
      record {
        phis = phis_spelled b.phis h.1 (written_first (phis_symbols names b.phis) (instrs_symbols names b.instrs) both);
        instrs = instrs_spelled b.instrs h.2 (written_rest (phis_symbols names b.phis) (instrs_symbols names b.instrs) both);
        term = term_spelled b.term h.3 (written_rest front (term_symbols names b.term) w.1);
      }

  pub blocks_spelled : (bs : List Block) → shape.Each (shape.IsBlock names) bs → AreWritten (blocks_symbols names bs) → Each IsSpelledBlock bs
  blocks_spelled [] h w = tt
  blocks_spelled (b ∷ bs) h w =
      (block_spelled b h.0 (written_first (block_symbols names b) (blocks_symbols names bs) w), blocks_spelled bs h.1 (written_rest (block_symbols names b) (blocks_symbols names bs) w))

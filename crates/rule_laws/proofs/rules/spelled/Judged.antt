-- A function that breaks no rule of modules without coroutines, whose types, flags and names can be written, is one of the grammar and can be written.
use Rattle.std.proofs.Common.{◌≡◌, ⊎_elim, inl, inr, ℕ, ◌<◌, ◌^◌, Bool, true, false, not, List, [], ◌∷◌, ◌++◌, length, refl, sym, subst, eqb-true, append-nil, arith}
use Rattle.std.proofs.lemmas.Bool.{or_cases}
use Rattle.std.specs.List.{list_all}
use Rattle.std.specs.Prelude.{None, Option, Some, map, option_to_list, ◌&&◌, ◌||◌, ◌==◌}
use Rattle.text_canonical.specs.canonical.BlockSymbols.{all_incoming_symbols, block_symbols, blocks_symbols, case_symbols, cases_symbols, incoming_symbols, instrs_symbols, more_incoming_symbols, phi_symbols, phis_symbols, term_symbols}
use Rattle.text_canonical.specs.canonical.InstrSymbols.{action_symbols, address_symbols, align_symbols, flag_symbols, flags_symbols, instr_symbols, pair_symbols, set_symbols}
use Rattle.text_canonical.specs.canonical.ItemSymbols.{function_symbols, head_symbols, more_params_symbols, param_symbols, params_symbols}
use Rattle.text_canonical.specs.canonical.Marks.{close_curly, close_round, close_square, comma, open_curly, open_round, open_square, word}
use Rattle.text_canonical.specs.canonical.OperandSymbols.{arg_symbols, args_symbols, callee_symbol, global_symbol, label_symbols, local_symbol, more_args_symbols, operand_symbol, result_symbols}
use Rattle.text_canonical.specs.canonical.TypeSymbols.{type_symbols}
use Rattle.text_canonical.specs.canonical.Written.{AreWritten, IsWritten}
use Rattle.ir_laws.specs.ir_base.declared.name.Name.{Name}
use Rattle.ir_laws.specs.ir_base.declared.ops.Flags.{Flags}
use Rattle.ir_laws.specs.ir_base.declared.outcome.Place.{Place}
use Rattle.rule_uses.specs.Undefined.{params_of}
use Rattle.rule_laws.proofs.rules.local_rules.Carried.{passing}
use Rattle.rule_laws.proofs.rules.local_rules.Fitting.{either, no_either}
use Rattle.ir_laws.proofs.facts.Truth.{and_first, and_second, holds, first_no, second_no}
use Rattle.rule_laws.proofs.rules.source_rules.Locals.{block_names, made_by}
use Rattle.ir_laws.proofs.paths.source_rules.Locals.{listed_left, listed_right}
use Rattle.ir_laws.proofs.facts.Lists.{phi_names, row_of}
use Rattle.rule_laws.specs.rules.source_rules.Named.{HasTabledLocals}
use Rattle.ir_laws.specs.flow_solver.Paths.{IsListed}
use Rattle.rule_laws.proofs.rules.woven_rules.Once.{names_below}
use Rattle.rule_laws.specs.rules.plain_rules.Kept.{KeepsPlainRules}
use Rattle.ir_parts.specs.Contents.{arg_operands, arg_types, callee_operands, ending_labels, ending_operands, ending_types, instr_operands, part_labels, part_operands, part_types}
use Rattle.ir_parts.specs.Locals.{locals_of}
use Rattle.ir_parts.specs.Parts.{Ending, OfInstr, OfPhi, Part, parts_of}
use Rattle.ir_laws.specs.ir_model.Ty.{Ty, int, ptr}
use Rattle.ir_laws.specs.ir_model.declared.instr.Case.{Case}
use Rattle.ir_laws.specs.ir_model.declared.instr.Incoming.{Incoming}
use Rattle.ir_laws.specs.ir_model.declared.instr.Instr.{Instr}
use Rattle.ir_laws.specs.ir_model.declared.instr.Phi.{Phi}
use Rattle.ir_laws.specs.ir_model.declared.instr.Terminator.{Terminator}
use Rattle.ir_laws.specs.ir_model.declared.module.Block.{Block}
use Rattle.ir_laws.specs.ir_model.declared.module.Function.{Function}
use Rattle.ir_laws.specs.ir_model.declared.module.Module.{Module}
use Rattle.ir_laws.specs.ir_model.declared.module.Param.{Param}
use Rattle.ir_laws.specs.ir_model.declared.operand.Arg.{Arg}
use Rattle.ir_laws.specs.ir_model.declared.operand.Callee.{Callee}
use Rattle.ir_laws.specs.ir_model.declared.operand.Operand.{Operand}
use Rattle.text_symbols.specs.declared.sym.Sym.{Sym}
use Rattle.text_symbols.specs.declared.word.Word.{Word}
use Rattle.rule_locals.specs.Extents.{breaks_extents, is_aligned, is_sized, most_of_alloca}
use Rattle.rule_locals.specs.Instrs.{on_instr}
use Rattle.ir_laws.specs.ir_model.Layout.{same_type, size_of}
use Rattle.rule_laws.proofs.rules.turned.Defined.{defined_low}
use Rattle.rule_laws.proofs.rules.spelled.Standing.{IsNamedAt, callee_written, named_at, operand_shaped, operand_written}
use Rattle.rule_laws.proofs.texts.spelled.Types.{ptr_spelled, truth_spelled}
use Rattle.rule_laws.proofs.rules.replaced.Passed.{PassingBlock, blocks_pass}
use Rattle.ir_laws.specs.facts.spelled.Filled.{HasFilledPhis, IsFilled}
use Rattle.ir_laws.specs.facts.spelled.Named.{AreItemsNamed}
use Rattle.rule_laws.specs.texts.spelled.Spelled.{IsSpelled}
use Rattle.rule_laws.specs.rules.spelled.Spelled.{IsSpelledBlock, IsSpelledFunction, IsSpelledInstr, MayStand}
use Rattle.rule_names.specs.Known.{is_label, is_value, knows_callee, knows_called, knows_operand, knows_type, names_unknown}
use Rattle.rule_names.specs.declared.stage.Stage.{Stage}
use Rattle.text_canonical.proofs.grammar.Again.{written_both}
use Rattle.ir_laws.specs.run_laws.changed.Changed.{Each}
use Rattle.rule_values.specs.Fits.{fits, fits_arg, fits_integer, fits_scalar, is_integer, is_scalar, is_tokenless}
use Rattle.rule_values.specs.Geps.{indices_fit}
use Rattle.rule_values.specs.Instrs.{both_fit, casts, compares, fits_called, fits_instr, fits_result, is_passed, passes}
use Rattle.rule_values.specs.Kinds.{value_kind}
use Rattle.rule_values.specs.Switches.{any_twice, bits_in, case_word, fits_case, is_constant}
use Rattle.rule_values.specs.Values.{breaks_values, fits_ending, fits_phi, takes}
use Rattle.rule_values.specs.declared.kinds.Kind.{Kind}
use Rattle.text_symbols.specs.declared.word.Word.TheVariants as words
use Rattle.text_canonical.specs.order.Shape as shape

-- ---- words and alignments

flag_written : (b : Bool) (w : Word) → AreWritten (flag_symbols b w)
flag_written true w = (tt, tt)
flag_written false w = tt

flags_written : (f : Flags) → AreWritten (flags_symbols f)
flags_written f =
    let two : List Sym = flag_symbols f.nuw words.Nuw ++ flag_symbols f.nsw words.Nsw in
    let three : List Sym = two ++ flag_symbols f.exact words.Exact in
    written_both three (flag_symbols f.disjoint words.Disjoint)
    (written_both two (flag_symbols f.exact words.Exact) (written_both (flag_symbols f.nuw words.Nuw) (flag_symbols f.nsw words.Nsw) (flag_written f.nuw words.Nuw) (flag_written f.nsw words.Nsw)) (flag_written f.exact words.Exact))
    (flag_written f.disjoint words.Disjoint)

one_low : (a k : ℕ) → (a == k) ≡ true → k < 2 ^ 64 → a < 2 ^ 64
one_low a k e h = let same : a ≡ k = eqb-true a k e in omega (arith, same, h)

aligned_low : (a : ℕ) → is_aligned a ≡ true → a < 2 ^ 64
aligned_low a e =
    ⊎_elim (λ k. one_low a 1 k (omega arith))
    (λ r. ⊎_elim (λ k. one_low a 2 k (omega arith))
    (λ s. ⊎_elim (λ k. one_low a 4 k (omega arith))
    (λ t. ⊎_elim (λ k. one_low a 8 k (omega arith)) (λ k. one_low a 16 k (omega arith)) (or_cases (a == 8) (a == 16) t))
    (or_cases (a == 4) ((a == 8) || (a == 16)) s))
    (or_cases (a == 2) ((a == 4) || ((a == 8) || (a == 16))) r))
    (or_cases (a == 1) ((a == 2) || ((a == 4) || ((a == 8) || (a == 16)))) e)

-- a part of a function over a table of names: one of the grammar, and it can be written
abbrev Stands : Type 0 → List Sym → Type 0
Stands shaped symbols = shaped × AreWritten symbols

module _ (m : Module) (items : AreItemsNamed m) (names : List Name) (values labels : ℕ → Bool) (low : (v : ℕ) → values v ≡ true → IsNamedAt names v) (label_low : (v : ℕ) → labels v ≡ true → IsNamedAt names v) (kinds : ℕ → Option Kind) where
  abbrev Known : Operand → Bool
  Known = knows_operand m values

  -- ---- operands

  shaped : (x : Operand) → Known x ≡ true → shape.IsOperand names x
  shaped = operand_shaped m items names values low

  written : (t : Ty) (x : Operand) → fits kinds t x ≡ true → IsSpelled t → Known x ≡ true → IsWritten (operand_symbol names x)
  written = operand_written m items names values low kinds

  arg_stands : (a : Arg) → fits_arg kinds a ≡ true → IsSpelled a.ty → Known a.value ≡ true → Stands (shape.IsArg names a) (arg_symbols names a)
  arg_stands a f t k = ((t.0, shaped a.value k), written_both (type_symbols a.ty) (operand_symbol names a.value ∷ []) t.1 (written a.ty a.value f t k, tt))

  args_stand : (args : List Arg) → list_all (fits_arg kinds) args ≡ true → Each IsSpelled (arg_types args) → list_all Known (arg_operands args) ≡ true → Stands (shape.Each (shape.IsArg names) args) (more_args_symbols names args)
  args_stand [] f t k = (tt, tt)
  args_stand (a ∷ args) f t k =
      let own = arg_stands a (and_first (fits_arg kinds a) (list_all (fits_arg kinds) args) f) t.0 (and_first (Known a.value) (list_all Known (arg_operands args)) k) in
      let rest = args_stand args (and_second (fits_arg kinds a) (list_all (fits_arg kinds) args) f) t.1 (and_second (Known a.value) (list_all Known (arg_operands args)) k) in
      ((own.0, rest.0), written_both (comma ∷ arg_symbols names a) (more_args_symbols names args) (tt, own.1) rest.1)

  these_args : (args : List Arg) → AreWritten (more_args_symbols names args) → AreWritten (args_symbols names args)
  these_args [] h = tt
  these_args (a ∷ args) h = h.1

  all_fit : (test : Arg → Bool) → ((a : Arg) → test a ≡ true → fits_arg kinds a ≡ true) → (args : List Arg) → list_all test args ≡ true → list_all (fits_arg kinds) args ≡ true
  all_fit test f [] e = refl
  all_fit test f (a ∷ args) e = λ i. f a (and_first (test a) (list_all test args) e) i && all_fit test f args (and_second (test a) (list_all test args) e) i

  integer_fits : (a : Arg) → fits_integer kinds a ≡ true → fits_arg kinds a ≡ true
  integer_fits a e = and_second (is_integer a.ty) (fits_arg kinds a) e

  scalar_fits : (a : Arg) → fits_scalar kinds a ≡ true → fits_arg kinds a ≡ true
  scalar_fits a e = and_second (is_scalar a.ty) (fits_arg kinds a) e

  address_written : (x : Operand) → fits kinds ptr x ≡ true → Known x ≡ true → AreWritten (address_symbols names x)
  address_written x f k = (tt, (tt, (written ptr x f ptr_spelled k, tt)))

  align_written : (n : ℕ) → is_aligned n ≡ true → AreWritten (align_symbols n)
  align_written n e = (tt, (tt, (aligned_low n e, tt)))

  pair_written : (t : Ty) (x y : Operand) → IsSpelled t → both_fit kinds t x y ≡ true → Known x ≡ true → Known y ≡ true → AreWritten (pair_symbols names t x y)
  pair_written t x y h f k l =
      written_both (type_symbols t) (operand_symbol names x ∷ comma ∷ operand_symbol names y ∷ []) h.1
      (written t x (and_first (fits kinds t x) (fits kinds t y) f) h k, (tt, (written t y (and_second (fits kinds t x) (fits kinds t y) f) h l, tt)))

  -- ---- instructions

  -- what is set
  abbrev IsSetAt : Option ℕ → Type 0
  IsSetAt None = Unit {0}
  IsSetAt (Some r) = IsNamedAt names r

  indices_some : (t : Ty) (args : List Arg) → indices_fit m t args ≡ true → shape.Each (shape.IsArg names) args → shape.Some_of (shape.IsArg names) args
  indices_some t [] e h = absurd (cc)
  indices_some t (a ∷ args) e h = h

  two : (x y : Bool) → (x && (y && true)) ≡ true → (x ≡ true) × (y ≡ true)
  two x y e = (and_first x (y && true) e, and_first y true (and_second x (y && true) e))

  three : (x y z : Bool) → (x && (y && (z && true))) ≡ true → (x ≡ true) × (y ≡ true) × (z ≡ true)
  three x y z e = let r = two y z (and_second x (y && (z && true)) e) in (and_first x (y && (z && true)) e, r.0, r.1)

  callee_shaped : (r : Option ℕ) (must_tail : Bool) (ty : Option Ty) (c : Callee) (args : List Arg) → MayStand (Instr.Call r must_tail ty c args) → ((v : ℕ) → c ≡ Callee.Local v → values v ≡ true) → shape.IsCallee names c
  callee_shaped r must_tail ty (Callee.Named n) args h l = h
  callee_shaped r must_tail ty (Callee.Allocator a) args h l = tt
  callee_shaped r must_tail ty (Callee.Intrinsic x) args h l = tt
  callee_shaped r must_tail ty (Callee.Local v) args h l = (low v (l v refl)).placed

  set_shaped : (r : Option ℕ) → IsSetAt r → shape.IsSet names r
  set_shaped None h = tt
  set_shaped (Some r) h = h.placed

  set_written : (r : Option ℕ) (ss : List Sym) → IsSetAt r → AreWritten ss → AreWritten (set_symbols names r ++ ss)
  set_written None ss h w = w
  set_written (Some r) ss h w = (h.named, (tt, w))

  result_stands : (o : Option Ty) (rest : List Ty) → Each IsSpelled (option_to_list o ++ rest) → Stands (shape.IsResult o) (result_symbols o) × Each IsSpelled rest
  result_stands None rest h = ((tt, (tt, tt)), h)
  result_stands (Some t) rest h = ((h.0.0, h.0.1), h.1)

  -- a callee that is a local is known, and so are the arguments
  called_local : (c : Callee) (args : List Arg) → list_all Known (callee_operands c ++ arg_operands args) ≡ true → ((v : ℕ) → c ≡ Callee.Local v → values v ≡ true) × (list_all Known (arg_operands args) ≡ true)
  called_local (Callee.Local v) args e =
      ((λ n same. let is : v ≡ n = cc in subst (λ (k : ℕ). values k ≡ true) is (and_first (values v) (list_all Known (arg_operands args)) e)), and_second (values v) (list_all Known (arg_operands args)) e)
  called_local (Callee.Named n) args e = ((λ v same. absurd (cc)), e)
  called_local (Callee.Allocator a) args e = ((λ v same. absurd (cc)), e)
  called_local (Callee.Intrinsic x) args e = ((λ v same. absurd (cc)), e)

  call_stands : (r : Option ℕ) (must_tail : Bool) (ty : Option Ty) (c : Callee) (args : List Arg) → fits_instr m kinds (Instr.Call r must_tail ty c args) ≡ true → list_all Known (instr_operands (Instr.Call r must_tail ty c args)) ≡ true → knows_callee m c ≡ true → IsSpelledInstr (Instr.Call r must_tail ty c args) → IsSetAt r
      → Stands (shape.IsInstr names (Instr.Call r must_tail ty c args)) (instr_symbols names (Instr.Call r must_tail ty c args))
  call_stands r must_tail ty c args f k d h s =
      let locals = called_local c args k in
      let result = result_stands ty (arg_types args) h.types in
      let passed : list_all (passes kinds c) args ≡ true = and_second (fits_called kinds c args) (list_all (passes kinds c) args) (and_second (fits_result c ty r) (fits_called kinds c args && list_all (passes kinds c) args) f) in
      let all = args_stand args (all_fit (passes kinds c) (λ a e. and_second (is_passed c a.ty) (fits_arg kinds a) e) args passed) result.1 locals.1 in
      let front : List Sym = flag_symbols must_tail words.Musttail ++ word words.Call ∷ result_symbols ty in
      let middle : List Sym = callee_symbol names c ∷ open_round ∷ args_symbols names args in (
        (set_shaped r s, result.0.0, callee_shaped r must_tail ty c args h.stands locals.0, all.0),
        set_written r (action_symbols names (Instr.Call r must_tail ty c args)) s
            (written_both (front ++ middle) (close_round ∷ [])
            (written_both front middle (written_both (flag_symbols must_tail words.Musttail) (word words.Call ∷ result_symbols ty) (flag_written must_tail words.Musttail) (tt, result.0.1))
            (callee_written m items names values low c d locals.0, (tt, these_args args all.1)))
            (tt, tt)),
      )

  instr_stands : (p : Place) (i : Instr) → fits_instr m kinds i ≡ true → list_all Known (instr_operands i) ≡ true → knows_called m (OfInstr i) ≡ true → breaks_extents Stage.Plain m p i ≡ false → IsSpelledInstr i → ((v : ℕ) → IsListed v (made_by i) → IsNamedAt names v)
      → Stands (shape.IsInstr names i) (instr_symbols names i)
  instr_stands p (Instr.Binary r op flags ty a b) f k d x h s =
      let t : IsSpelled ty = h.types.0 in
      let known = two (Known a) (Known b) k in
      let set = s r (inl refl) in (
        (set.placed, h.stands, t.0, shaped a known.0, shaped b known.1),
        (set.named, (tt, written_both (word (words.Bin op) ∷ flags_symbols flags) (pair_symbols names ty a b) (tt, flags_written flags) (pair_written ty a b t (and_second (is_integer ty) (both_fit kinds ty a b) f) known.0 known.1))),
      )
  instr_stands p (Instr.Icmp r pred ty a b) f k d x h s =
      let t : IsSpelled ty = h.types.0 in
      let known = two (Known a) (Known b) k in
      let set = s r (inl refl) in
      ((set.placed, t.0, shaped a known.0, shaped b known.1), (set.named, (tt, (tt, (tt, pair_written ty a b t (and_second (compares pred ty) (both_fit kinds ty a b) f) known.0 known.1)))))
  instr_stands p (Instr.Select r c a b) f k d x h s =
      let known = three (Known c) (Known a.value) (Known b.value) k in
      let set = s r (inl refl) in
      let rest = and_second (same_type a.ty b.ty) (fits_scalar kinds a && fits_scalar kinds b) (and_second (fits kinds (int 1) c) (same_type a.ty b.ty && (fits_scalar kinds a && fits_scalar kinds b)) f) in
      let first = arg_stands a (scalar_fits a (and_first (fits_scalar kinds a) (fits_scalar kinds b) rest)) h.types.0 known.1 in
      let second = arg_stands b (scalar_fits b (and_second (fits_scalar kinds a) (fits_scalar kinds b) rest)) h.types.1.0 known.2 in
      let choice = written (int 1) c (and_first (fits kinds (int 1) c) (same_type a.ty b.ty && (fits_scalar kinds a && fits_scalar kinds b)) f) truth_spelled known.0 in (
        (set.placed, shaped c known.0, first.0, second.0),
        (set.named, (tt, (tt, (tt, (choice, (tt, written_both (arg_symbols names a) (comma ∷ arg_symbols names b) first.1 (tt, second.1))))))),
      )
  instr_stands p (Instr.Cast r op nneg arg to) f k d x h s =
      let set = s r (inl refl) in
      let own = arg_stands arg (and_second (casts op arg.ty to) (fits_arg kinds arg) f) h.types.0 (and_first (Known arg.value) true k) in
      let front : List Sym = flag_symbols nneg words.Nneg ++ arg_symbols names arg in (
        (set.placed, h.stands, own.0, h.types.1.0.0),
        (set.named, (tt, (tt, written_both front (word words.To ∷ type_symbols to) (written_both (flag_symbols nneg words.Nneg) (arg_symbols names arg) (flag_written nneg words.Nneg) own.1) (tt, h.types.1.0.1)))),
      )
  instr_stands p (Instr.Alloca r ty align) f k d x h s =
      let set = s r (inl refl) in
      let aligned : is_aligned align ≡ true = and_second (is_sized (most_of_alloca Stage.Plain) (size_of m ty)) (is_aligned align) (holds (is_sized (most_of_alloca Stage.Plain) (size_of m ty) && is_aligned align) x) in
      ((set.placed, h.types.0.0), (set.named, (tt, (tt, written_both (type_symbols ty) (align_symbols align) h.types.0.1 (align_written align aligned)))))
  instr_stands p (Instr.Load r ty address align) f k d x h s =
      let set = s r (inl refl) in
      let known : Known address ≡ true = and_first (Known address) true k in
      let at = address_written address (and_second (is_scalar ty) (fits kinds ptr address) f) known in (
        (set.placed, h.types.0.0, shaped address known),
        (set.named, (tt, (tt, written_both (type_symbols ty ++ address_symbols names address) (align_symbols align) (written_both (type_symbols ty) (address_symbols names address) h.types.0.1 at) (align_written align (holds (is_aligned align) x))))),
      )
  instr_stands p (Instr.Store arg address align) f k d x h s =
      let known = two (Known arg.value) (Known address) k in
      let own = arg_stands arg (scalar_fits arg (and_first (fits_scalar kinds arg) (fits kinds ptr address) f)) h.types.0 known.0 in
      let at = address_written address (and_second (fits_scalar kinds arg) (fits kinds ptr address) f) known.1 in (
        (own.0, shaped address known.1),
        (tt, written_both (arg_symbols names arg ++ address_symbols names address) (align_symbols align) (written_both (arg_symbols names arg) (address_symbols names address) own.1 at) (align_written align (holds (is_aligned align) x))),
      )
  instr_stands p (Instr.Gep r inbounds ty base indices) f k d x h s =
      let set = s r (inl refl) in
      let fitting = and_second (is_tokenless ty && fits kinds ptr base) (list_all (fits_integer kinds) indices && indices_fit m ty indices) f in
      let known : Known base ≡ true = and_first (Known base) (list_all Known (arg_operands indices)) k in
      let at = address_written base (and_second (is_tokenless ty) (fits kinds ptr base) (and_first (is_tokenless ty && fits kinds ptr base) (list_all (fits_integer kinds) indices && indices_fit m ty indices) f)) known in
      let all = args_stand indices (all_fit (fits_integer kinds) integer_fits indices (and_first (list_all (fits_integer kinds) indices) (indices_fit m ty indices) fitting)) h.types.1 (and_second (Known base) (list_all Known (arg_operands indices)) k) in
      let front : List Sym = flag_symbols inbounds words.Inbounds ++ type_symbols ty in (
        (set.placed, h.types.0.0, shaped base known, indices_some ty indices (and_second (list_all (fits_integer kinds) indices) (indices_fit m ty indices) fitting) all.0),
        (set.named, (tt, (tt, written_both (front ++ address_symbols names base) (more_args_symbols names indices) (written_both front (address_symbols names base) (written_both (flag_symbols inbounds words.Inbounds) (type_symbols ty) (flag_written inbounds words.Inbounds) h.types.0.1) at) all.1))),
      )
  instr_stands p (Instr.Call None must_tail ty c args) f k d x h s = call_stands None must_tail ty c args f k d h tt
  instr_stands p (Instr.Call (Some r) must_tail ty c args) f k d x h s = call_stands (Some r) must_tail ty c args f k d h (s r (inl refl))

  -- ---- phis

  label_written : (l : ℕ) → labels l ≡ true → AreWritten (label_symbols names l)
  label_written l e = (tt, ((label_low l e).named, tt))

  incoming_stand : (t : Ty) (is : List Incoming) → IsSpelled t → list_all (takes kinds t) is ≡ true → list_all Known (map (λ i. i.value) is) ≡ true → list_all labels (map (λ i. i.from) is) ≡ true → Stands (shape.Each (shape.IsIncoming names) is) (more_incoming_symbols names is)
  incoming_stand t [] h f k l = (tt, tt)
  incoming_stand t (i ∷ is) h f k l =
      let known : Known i.value ≡ true = and_first (Known i.value) (list_all Known (map (λ j. j.value) is)) k in
      let from = label_low i.from (and_first (labels i.from) (list_all labels (map (λ j. j.from) is)) l) in
      let rest = incoming_stand t is h (and_second (takes kinds t i) (list_all (takes kinds t) is) f) (and_second (Known i.value) (list_all Known (map (λ j. j.value) is)) k) (and_second (labels i.from) (list_all labels (map (λ j. j.from) is)) l) in (
        ((shaped i.value known, from.placed), rest.0),
        written_both (comma ∷ incoming_symbols names i) (more_incoming_symbols names is) (tt, (tt, (written t i.value (and_first (takes kinds t i) (list_all (takes kinds t) is) f) h known, (tt, (from.named, (tt, tt)))))) rest.1,
      )

  some_incoming : (is : List Incoming) → (is ≡ [] → ⊥) → shape.Each (shape.IsIncoming names) is → shape.Some_of (shape.IsIncoming names) is
  some_incoming [] n h = n refl
  some_incoming (i ∷ is) n h = h

  these_incoming : (is : List Incoming) → AreWritten (more_incoming_symbols names is) → AreWritten (all_incoming_symbols names is)
  these_incoming [] h = tt
  these_incoming (i ∷ is) h = h.1

  phi_stands : (p : Phi) → fits_phi kinds p.ty p.incoming ≡ true → list_all Known (map (λ i. i.value) p.incoming) ≡ true → list_all labels (map (λ i. i.from) p.incoming) ≡ true → IsSpelled p.ty → IsFilled p → IsNamedAt names p.result
      → Stands (shape.IsPhi names p) (phi_symbols names p)
  phi_stands p f k l t n s =
      let all = incoming_stand p.ty p.incoming t (and_second (is_scalar p.ty) (list_all (takes kinds p.ty) p.incoming) f) k l in
      ((s.placed, t.0, some_incoming p.incoming n all.0), (s.named, (tt, (tt, written_both (type_symbols p.ty) (all_incoming_symbols names p.incoming) t.1 (these_incoming p.incoming all.1)))))

  -- ---- terminators

  case_stands : (t : Ty) (c : Case) → fits_case kinds t c ≡ true → Known c.arg.value ≡ true → labels c.target ≡ true → IsSpelled c.arg.ty → Stands (shape.IsCase names c) (case_symbols names c)
  case_stands t c f k l h =
      let own = arg_stands c.arg (and_second (is_constant c.arg.value) (fits_arg kinds c.arg) (and_second (same_type c.arg.ty t) (is_constant c.arg.value && fits_arg kinds c.arg) f)) h k in
      ((own.0, (label_low c.target l).placed), written_both (arg_symbols names c.arg) (comma ∷ label_symbols names c.target) own.1 (tt, label_written c.target l))

  cases_stand : (t : Ty) (cases : List Case) → list_all (fits_case kinds t) cases ≡ true → list_all Known (map (λ c. c.arg.value) cases) ≡ true → list_all labels (map (λ c. c.target) cases) ≡ true → Each IsSpelled (map (λ c. c.arg.ty) cases)
      → Stands (shape.Each (shape.IsCase names) cases) (cases_symbols names cases)
  cases_stand t [] f k l h = (tt, tt)
  cases_stand t (c ∷ cases) f k l h =
      let own = case_stands t c (and_first (fits_case kinds t c) (list_all (fits_case kinds t) cases) f) (and_first (Known c.arg.value) (list_all Known (map (λ x. x.arg.value) cases)) k) (and_first (labels c.target) (list_all labels (map (λ x. x.target) cases)) l) h.0 in
      let rest = cases_stand t cases (and_second (fits_case kinds t c) (list_all (fits_case kinds t) cases) f) (and_second (Known c.arg.value) (list_all Known (map (λ x. x.arg.value) cases)) k) (and_second (labels c.target) (list_all labels (map (λ x. x.target) cases)) l) h.1 in
      ((own.0, rest.0), written_both (case_symbols names c) (cases_symbols names cases) own.1 rest.1)

  term_stands : (result : Option Ty) (t : Terminator) → fits_ending kinds result t ≡ true → list_all Known (ending_operands t) ≡ true → list_all labels (ending_labels t) ≡ true → Each IsSpelled (ending_types t) → Stands (shape.IsTerminator names t) (term_symbols names t)
  term_stands result (Terminator.Jump label) f k l h = let is = and_first (labels label) true l in ((label_low label is).placed, (tt, label_written label is))
  term_stands result (Terminator.Branch c a b) f k l h =
      let known : Known c ≡ true = and_first (Known c) true k in
      let to = two (labels a) (labels b) l in (
        (shaped c known, (label_low a to.0).placed, (label_low b to.1).placed),
        (tt, (tt, (written (int 1) c f truth_spelled known, (tt, written_both (label_symbols names a) (comma ∷ label_symbols names b) (label_written a to.0) (tt, label_written b to.1))))),
      )
  term_stands result (Terminator.Switch arg default cases) f k l h =
      let rest = and_second (fits_integer kinds arg) (list_all (fits_case kinds arg.ty) cases && not (any_twice [] (map (case_word (bits_in arg.ty)) cases))) f in
      let own = arg_stands arg (integer_fits arg (and_first (fits_integer kinds arg) (list_all (fits_case kinds arg.ty) cases && not (any_twice [] (map (case_word (bits_in arg.ty)) cases))) f)) h.0 (and_first (Known arg.value) (list_all Known (map (λ c. c.arg.value) cases)) k) in
      let to : labels default ≡ true = and_first (labels default) (list_all labels (map (λ c. c.target) cases)) l in
      let all = cases_stand arg.ty cases (and_first (list_all (fits_case kinds arg.ty) cases) (not (any_twice [] (map (case_word (bits_in arg.ty)) cases))) rest) (and_second (Known arg.value) (list_all Known (map (λ c. c.arg.value) cases)) k) (and_second (labels default) (list_all labels (map (λ c. c.target) cases)) l) h.1 in
      let front : List Sym = arg_symbols names arg ++ comma ∷ label_symbols names default in (
        (own.0, (label_low default to).placed, all.0),
        (
          tt,
          written_both (front ++ open_square ∷ cases_symbols names cases) (close_square ∷ [])
              (written_both front (open_square ∷ cases_symbols names cases) (written_both (arg_symbols names arg) (comma ∷ label_symbols names default) own.1 (tt, label_written default to)) (tt, all.1)) (tt, tt),
        ),
      )
  term_stands result (Terminator.Ret None) f k l h = (tt, (tt, (tt, tt)))
  term_stands None (Terminator.Ret (Some a)) f k l h = absurd (cc)
  term_stands (Some t) (Terminator.Ret (Some a)) f k l h =
      let own = arg_stands a (scalar_fits a (and_second (same_type a.ty t) (fits_scalar kinds a) f)) h.0 (and_first (Known a.value) true k) in
      (own.0, (tt, own.1))
  term_stands result Terminator.Unreachable f k l h = (tt, (tt, tt))

  -- ---- rules

  module _ (result : Option Ty) where
    abbrev Judged : Place → Part → Bool
    Judged = either (either (names_unknown m values labels) (breaks_values m kinds result)) (on_instr (breaks_extents Stage.Plain m))

    -- what the rules say of a part
    record Said (x : Part) : Type 0 where
      fitting : (p : Place) × (breaks_values m kinds result p x ≡ false)
      operands : list_all Known (part_operands x) ≡ true
      to : list_all labels (part_labels x) ≡ true
      called : knows_called m x ≡ true
      extents : (p : Place) × (on_instr (breaks_extents Stage.Plain m) p x ≡ false)

    said : (x : Part) (p : Place) → Judged p x ≡ false → Said x
    said x p e =
        let first : Bool = names_unknown m values labels p x in
        let second : Bool = breaks_values m kinds result p x in
        let third : Bool = on_instr (breaks_extents Stage.Plain m) p x in
        let front = first_no (first || second) third e in
        let types : Bool = list_all (knows_type m) (part_types x) in
        let all = holds (types && (list_all Known (part_operands x) && (list_all labels (part_labels x) && knows_called m x))) (first_no first second front) in
        let rest = and_second types (list_all Known (part_operands x) && (list_all labels (part_labels x) && knows_called m x)) all in
        let last = and_second (list_all Known (part_operands x)) (list_all labels (part_labels x) && knows_called m x) rest in
        record {
          fitting = (p, second_no first second front);
          operands = and_first (list_all Known (part_operands x)) (list_all labels (part_labels x) && knows_called m x) rest;
          to = and_first (list_all labels (part_labels x)) (knows_called m x) last;
          called = and_second (list_all labels (part_labels x)) (knows_called m x) last;
          extents = (p, second_no (first || second) third e);
        }

    -- ---- blocks

    abbrev AreNamedAll : List ℕ → Type 0
    AreNamedAll ns = (v : ℕ) → IsListed v ns → IsNamedAt names v

    phis_stand : (ps : List Phi) → Each (λ (p : Phi). (q : Place) × (Judged q (OfPhi p) ≡ false)) ps → Each (λ p. IsSpelled p.ty) ps → Each IsFilled ps → AreNamedAll (phi_names ps) → Stands (shape.Each (shape.IsPhi names) ps) (phis_symbols names ps)
    phis_stand [] j h n s = (tt, tt)
    phis_stand (p ∷ ps) j h n s =
        let x = said (OfPhi p) j.0.0 j.0.1 in
        let own = phi_stands p (holds (fits_phi kinds p.ty p.incoming) x.fitting.1) x.operands x.to h.0 n.0 (s p.result (inl refl)) in
        let rest = phis_stand ps j.1 h.1 n.1 (λ v l. s v (inr l)) in
        ((own.0, rest.0), written_both (phi_symbols names p) (phis_symbols names ps) own.1 rest.1)

    instrs_stand : (is : List Instr) → Each (λ (i : Instr). (q : Place) × (Judged q (OfInstr i) ≡ false)) is → Each IsSpelledInstr is → AreNamedAll (row_of made_by is) → Stands (shape.Each (shape.IsInstr names) is) (instrs_symbols names is)
    instrs_stand [] j h s = (tt, tt)
    instrs_stand (i ∷ is) j h s =
        let x = said (OfInstr i) j.0.0 j.0.1 in
        let own = instr_stands x.extents.0 i (holds (fits_instr m kinds i) x.fitting.1) x.operands x.called x.extents.1 h.0 (λ v l. s v (listed_left v (made_by i) (row_of made_by is) l)) in
        let rest = instrs_stand is j.1 h.1 (λ v l. s v (listed_right v (made_by i) (row_of made_by is) l)) in
        ((own.0, rest.0), written_both (instr_symbols names i) (instrs_symbols names is) own.1 rest.1)

    block_stands : (b : Block) → PassingBlock Judged b → IsSpelledBlock b → Each IsFilled b.phis → AreNamedAll (block_names b) → Stands (shape.IsBlock names b) (block_symbols names b)
    block_stands b j h n s =
        let label = s b.label (inl refl) in
        let phis = phis_stand b.phis j.phis h.phis n (λ v l. s v (inr (listed_left v (phi_names b.phis) (row_of made_by b.instrs) l))) in
        let instrs = instrs_stand b.instrs j.instrs h.instrs (λ v l. s v (inr (listed_right v (phi_names b.phis) (row_of made_by b.instrs) l))) in
        let x = said (Ending b.term) j.term.0 j.term.1 in
        let term = term_stands result b.term (holds (fits_ending kinds result b.term) x.fitting.1) x.operands x.to h.term in
        let front : List Sym = phis_symbols names b.phis ++ instrs_symbols names b.instrs in
        ((label.placed, phis.0, instrs.0, term.0), (label.named, written_both front (term_symbols names b.term) (written_both (phis_symbols names b.phis) (instrs_symbols names b.instrs) phis.1 instrs.1) term.1))

    blocks_stand : (bs : List Block) → Each (PassingBlock Judged) bs → Each IsSpelledBlock bs → Each (λ (b : Block). Each IsFilled b.phis) bs → AreNamedAll (row_of block_names bs) → Stands (shape.Each (shape.IsBlock names) bs) (blocks_symbols names bs)
    blocks_stand [] j h n s = (tt, tt)
    blocks_stand (b ∷ bs) j h n s =
        let own = block_stands b j.0 h.0 n.0 (λ v l. s v (listed_left v (block_names b) (row_of block_names bs) l)) in
        let rest = blocks_stand bs j.1 h.1 n.1 (λ v l. s v (listed_right v (block_names b) (row_of block_names bs) l)) in
        ((own.0, rest.0), written_both (block_symbols names b) (blocks_symbols names bs) own.1 rest.1)

    -- ---- parameters

    params_stand : (ps : List Param) → Each (λ p. IsSpelled p.ty) ps → AreNamedAll (map (λ p. p.name) ps) → Stands (shape.Each (shape.IsParam names) ps) (more_params_symbols names ps)
    params_stand [] h s = (tt, tt)
    params_stand (p ∷ ps) h s =
        let own = s p.name (inl refl) in
        let rest = params_stand ps h.1 (λ v l. s v (inr l)) in
        (((h.0.0, own.placed), rest.0), written_both (comma ∷ param_symbols names p) (more_params_symbols names ps) (tt, written_both (type_symbols p.ty) (local_symbol names p.name ∷ []) h.0.1 (own.named, tt)) rest.1)

    these_params : (ps : List Param) → AreWritten (more_params_symbols names ps) → AreWritten (params_symbols names ps)
    these_params [] h = tt
    these_params (p ∷ ps) h = h.1

-- ---- the function

some_blocks : (names : List Name) (bs : List Block) → (bs ≡ [] → ⊥) → shape.Each (shape.IsBlock names) bs → shape.Some_of (shape.IsBlock names) bs
some_blocks names [] n h = n refl
some_blocks names (b ∷ bs) n h = h

pub function_stands : (m : Module) (k : ℕ) (f : Function) → AreItemsNamed m → KeepsPlainRules m k f → HasTabledLocals k f → IsSpelledFunction f → HasFilledPhis f → shape.IsFunction f × AreWritten (function_symbols f)
function_stands m k f items rules tabled h filled =
    let at : (v : ℕ) → v < length f.names → IsNamedAt f.names v = λ v l. named_at f.names v l h.names in
    let low : (v : ℕ) → is_value k f v ≡ true → IsNamedAt f.names v = λ v e. at v (defined_low false (locals_of k f) v (length f.names) tabled e) in
    let label_low : (v : ℕ) → is_label k f v ≡ true → IsNamedAt f.names v = λ v e. at v (defined_low true (locals_of k f) v (length f.names) tabled e) in
    let kinds : ℕ → Option Kind = value_kind f in
    let first : Place → Part → Bool = names_unknown m (is_value k f) (is_label k f) in
    let second : Place → Part → Bool = breaks_values m kinds f.result in
    let third : Place → Part → Bool = on_instr (breaks_extents Stage.Plain m) in
    let judged = no_either (either first second) third (parts_of k f) (no_either first second (parts_of k f) rules.known rules.values) rules.extents in
    let all : (v : ℕ) → IsListed v (params_of f ++ row_of block_names f.blocks) → IsNamedAt f.names v = λ v l. at v (names_below k f tabled v l) in
    let blocks = blocks_stand m items f.names (is_value k f) (is_label k f) low label_low kinds f.result f.blocks (blocks_pass (either (either first second) third) k 0 f.blocks (passing (either (either first second) third) (parts_of k f) judged).1) h.blocks filled.phis
    (λ v l. all v (listed_right v (params_of f) (row_of block_names f.blocks) l)) in
    let params = params_stand m items f.names (is_value k f) (is_label k f) low label_low kinds f.result f.params h.params (λ v l. all v (listed_left v (params_of f) (row_of block_names f.blocks) l)) in
    let result = result_stands m items f.names (is_value k f) (is_label k f) low label_low kinds f.result [] (subst (Each IsSpelled) (sym (append-nil (option_to_list f.result))) h.result) in
    let head_one : List Sym = word words.Define ∷ result_symbols f.result in
    let head_two : List Sym = global_symbol f.name ∷ open_round ∷ params_symbols f.names f.params in
    let head_three : List Sym = close_round ∷ flag_symbols f.coroutine words.Presplitcoroutine in
    let head : AreWritten (head_symbols f) =
    written_both ((head_one ++ head_two) ++ head_three) (open_curly ∷ [])
    (written_both (head_one ++ head_two) head_three
    (written_both head_one head_two (tt, result.0.1) (h.name, (tt, these_params m items f.names (is_value k f) (is_label k f) low label_low kinds f.result f.params params.1))) (tt, flag_written f.coroutine words.Presplitcoroutine)) (tt, tt) in (
      (result.0.0, params.0, some_blocks f.names f.blocks filled.block blocks.0),
      written_both (head_symbols f ++ blocks_symbols f.names f.blocks) (close_curly ∷ []) (written_both (head_symbols f) (blocks_symbols f.names f.blocks) head blocks.1) (tt, tt),
    )

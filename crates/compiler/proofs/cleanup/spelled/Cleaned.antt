-- The last pass leaves what can be written and is of the grammar.
use Rattle.std.proofs.Common.{Bool, true, false, List, [], ◌∷◌, ◌++◌}
use Rattle.std.specs.Prelude.{filter, if◌then◌else◌, map}
use Rattle.text_canonical.specs.canonical.BlockSymbols.{block_symbols, blocks_symbols, instrs_symbols, phis_symbols, term_symbols}
use Rattle.text_canonical.specs.canonical.InstrSymbols.{instr_symbols}
use Rattle.text_canonical.specs.canonical.ItemSymbols.{declaration_symbols, declarations_symbols, function_symbols, functions_symbols, head_symbols}
use Rattle.text_canonical.specs.canonical.Marks.{close_curly}
use Rattle.text_canonical.specs.canonical.Written.{AreWritten}
use Rattle.ir_base.specs.declared.name.Name.{Name}
use Rattle.pass_cleanup.specs.Cleanup.{clean_block, clean_function, is_kept_declaration, is_kept_instr}
use Rattle.ir_model.specs.declared.instr.Instr.{Instr}
use Rattle.ir_model.specs.declared.module.Block.{Block}
use Rattle.ir_model.specs.declared.module.Declaration.{Declaration}
use Rattle.ir_model.specs.declared.module.Function.{Function}
use Rattle.pass_proofs.specs.text_symbols.declared.sym.Sym.{Sym}
use Rattle.pass_proofs.proofs.rule_laws.rules.spelled.Symbols.{written_first, written_rest}
use Rattle.text_canonical.proofs.grammar.Again.{written_both}
use Rattle.pass_proofs.specs.run_laws.changed.Changed.{Each}
use Rattle.text_canonical.specs.order.Shape as shape

module _ (names : List Name) where
  -- ---- instructions

  instrs_shaped : (is : List Instr) → shape.Each (shape.IsInstr names) is → shape.Each (shape.IsInstr names) (filter is_kept_instr is)
  instrs_shaped [] h = tt
  instrs_shaped (i ∷ is) h = on (is_kept_instr i) (instrs_shaped is h.1)
    where
      on : (b : Bool) → shape.Each (shape.IsInstr names) (filter is_kept_instr is) → shape.Each (shape.IsInstr names) (if b then i ∷ filter is_kept_instr is else filter is_kept_instr is)
      on true k = (h.0, k)
      on false k = k

  instrs_written : (is : List Instr) → AreWritten (instrs_symbols names is) → AreWritten (instrs_symbols names (filter is_kept_instr is))
  instrs_written [] h = tt
  instrs_written (i ∷ is) h = on (is_kept_instr i) (instrs_written is (written_rest (instr_symbols names i) (instrs_symbols names is) h))
    where
      on : (b : Bool) → AreWritten (instrs_symbols names (filter is_kept_instr is)) → AreWritten (instrs_symbols names (if b then i ∷ filter is_kept_instr is else filter is_kept_instr is))
      on true k = written_both (instr_symbols names i) (instrs_symbols names (filter is_kept_instr is)) (written_first (instr_symbols names i) (instrs_symbols names is) h) k
      on false k = k

  -- ---- blocks

  block_shaped : (b : Block) → shape.IsBlock names b → shape.IsBlock names (clean_block b)
  block_shaped b h = (h.0, h.1, instrs_shaped b.instrs h.2, h.3)

  blocks_shaped : (bs : List Block) → shape.Each (shape.IsBlock names) bs → shape.Each (shape.IsBlock names) (map clean_block bs)
  blocks_shaped [] h = tt
  blocks_shaped (b ∷ bs) h = (block_shaped b h.0, blocks_shaped bs h.1)

  some_shaped : (bs : List Block) → shape.Some_of (shape.IsBlock names) bs → shape.Some_of (shape.IsBlock names) (map clean_block bs)
  some_shaped [] h = h
  some_shaped (b ∷ bs) h = (block_shaped b h.0, blocks_shaped bs h.1)

  block_written : (b : Block) → AreWritten (block_symbols names b) → AreWritten (block_symbols names (clean_block b))
  block_written b h =
      let phis : List Sym = phis_symbols names b.phis in
      let front : AreWritten (phis ++ instrs_symbols names b.instrs) = written_first (phis ++ instrs_symbols names b.instrs) (term_symbols names b.term) h.1 in (
        h.0,
        written_both (phis ++ instrs_symbols names (filter is_kept_instr b.instrs)) (term_symbols names b.term)
            (written_both phis (instrs_symbols names (filter is_kept_instr b.instrs)) (written_first phis (instrs_symbols names b.instrs) front) (instrs_written b.instrs (written_rest phis (instrs_symbols names b.instrs) front)))
            (written_rest (phis ++ instrs_symbols names b.instrs) (term_symbols names b.term) h.1),
      )

  blocks_written : (bs : List Block) → AreWritten (blocks_symbols names bs) → AreWritten (blocks_symbols names (map clean_block bs))
  blocks_written [] h = tt
  blocks_written (b ∷ bs) h =
      written_both (block_symbols names (clean_block b)) (blocks_symbols names (map clean_block bs)) (block_written b (written_first (block_symbols names b) (blocks_symbols names bs) h)) (blocks_written bs (written_rest (block_symbols names b) (blocks_symbols names bs) h))

-- ---- functions

function_shaped : (f : Function) → shape.IsFunction f → shape.IsFunction (clean_function f)
function_shaped f h = (h.0, h.1, some_shaped f.names f.blocks h.2)

function_written : (f : Function) → AreWritten (function_symbols f) → AreWritten (function_symbols (clean_function f))
function_written f h =
    let body : List Sym = head_symbols f ++ blocks_symbols f.names f.blocks in
    let whole : AreWritten body = written_first body (close_curly ∷ []) h in
    written_both (head_symbols f ++ blocks_symbols f.names (map clean_block f.blocks)) (close_curly ∷ [])
    (written_both (head_symbols f) (blocks_symbols f.names (map clean_block f.blocks)) (written_first (head_symbols f) (blocks_symbols f.names f.blocks) whole) (blocks_written f.names f.blocks (written_rest (head_symbols f) (blocks_symbols f.names f.blocks) whole)))
    (tt, tt)

pub functions_shaped : (fs : List Function) → Each (λ f. shape.IsFunction f × AreWritten (function_symbols f)) fs → shape.Each shape.IsFunction (map clean_function fs)
functions_shaped [] h = tt
functions_shaped (f ∷ fs) h = (function_shaped f h.0.0, functions_shaped fs h.1)

pub functions_written : (fs : List Function) → Each (λ f. shape.IsFunction f × AreWritten (function_symbols f)) fs → AreWritten (functions_symbols (map clean_function fs))
functions_written [] h = tt
functions_written (f ∷ fs) h = written_both (function_symbols (clean_function f)) (functions_symbols (map clean_function fs)) (function_written f h.0.1) (functions_written fs h.1)

-- ---- declarations

pub declarations_shaped : (ds : List Declaration) → shape.Each shape.IsDeclaration ds → shape.Each shape.IsDeclaration (filter is_kept_declaration ds)
declarations_shaped [] h = tt
declarations_shaped (d ∷ ds) h = on (is_kept_declaration d) (declarations_shaped ds h.1)
  where
    on : (b : Bool) → shape.Each shape.IsDeclaration (filter is_kept_declaration ds) → shape.Each shape.IsDeclaration (if b then d ∷ filter is_kept_declaration ds else filter is_kept_declaration ds)
    on true k = (h.0, k)
    on false k = k

pub declarations_written : (ds : List Declaration) → AreWritten (declarations_symbols ds) → AreWritten (declarations_symbols (filter is_kept_declaration ds))
declarations_written [] h = tt
declarations_written (d ∷ ds) h = on (is_kept_declaration d) (declarations_written ds (written_rest (declaration_symbols d) (declarations_symbols ds) h))
  where
    on : (b : Bool) → AreWritten (declarations_symbols (filter is_kept_declaration ds)) → AreWritten (declarations_symbols (if b then d ∷ filter is_kept_declaration ds else filter is_kept_declaration ds))
    on true k = written_both (declaration_symbols d) (declarations_symbols (filter is_kept_declaration ds)) (written_first (declaration_symbols d) (declarations_symbols ds) h) k
    on false k = k

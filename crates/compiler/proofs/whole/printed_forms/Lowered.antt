-- The row of passes, from the text of a source to the lowered module.
use Rattle.std.proofs.Common.{◌≡◌, ℕ, zero, suc, Bool, true, false, List, [], ◌∷◌, ◌++◌, Ok, length, refl, sym, ap, ◌∙◌, subst}
use Rattle.std.specs.Prelude.{None, Some, filter, if◌then◌else◌, slice_get}
use Rattle.pass_proofs.proofs.ir_laws.facts.Members.{each_joined, each_filtered, each_by as each_at}
use Rattle.pass_proofs.specs.pass_front.Front.{is_alloca, is_no_alloca, with_allocas_first, with_front_allocas}
use Rattle.text_canonical.specs.canonical.ItemSymbols.{IsPrintable, declaration_symbols, declarations_symbols, function_symbols, functions_symbols, global_item_symbols, global_items_symbols, type_items_symbols, types_symbols}
use Rattle.text_canonical.specs.canonical.Items.{module_text}
use Rattle.text_canonical.specs.canonical.Marks.{close_round, open_round, word}
use Rattle.text_canonical.specs.canonical.OperandSymbols.{global_symbol, result_symbols}
use Rattle.text_canonical.specs.canonical.Written.{AreWritten}
use Rattle.pass_cleanup.specs.Cleanup.{clean_module}
use Rattle.pass_proofs.specs.text_names.Spelling.{IsName}
use Rattle.pass_split.specs.Given.{has_given_call}
use Rattle.pass_split.specs.Parts.{marked_parts, plain_of, plain_shape, split_module}
use Rattle.pass_proofs.specs.frame_contents.Frames.{AreLayouts}
use Rattle.pass_proofs.specs.frame_contents.declared.contents.Contents.{Contents}
use Rattle.pass_early.specs.Early.{early_module}
use Rattle.pass_proofs.specs.pass_edges.EdgeBlocks.{with_edge_blocks}
use Rattle.pass_proofs.proofs.rule_laws.rules.source_rules.Shaped.{function_shaped}
use Rattle.pass_proofs.specs.rule_laws.rules.source_rules.Named.{HasTabledLocals}
use Rattle.frame_layout.specs.declared.layout.Layout.{Layout}
use Rattle.frame_layout.specs.declared.layout.Layouts.{Layouts}
use Rattle.pass_proofs.specs.pass_intrinsics.Shapes.{shape_of}
use Rattle.pass_proofs.specs.pass_intrinsics.declared.shape.Shape.{Shape}
use Rattle.pass_proofs.specs.rule_all.Refused.{IsRefused}
use Rattle.pass_proofs.specs.text_grammar.Text.{StandsFor}
use Rattle.ir_model.specs.declared.module.Block.{Block}
use Rattle.ir_model.specs.declared.module.Declaration.{Declaration}
use Rattle.ir_model.specs.declared.module.Function.{Function}
use Rattle.ir_model.specs.declared.module.GlobalItem.{GlobalItem}
use Rattle.ir_model.specs.declared.module.Module.{Module}
use Rattle.ir_model.specs.declared.module.TypeItem.{TypeItem}
use Rattle.pass_proofs.specs.text_symbols.declared.sym.Sym.{Sym}
use Rattle.compiler.proofs.cleanup.accepted.Row.{all_kept, some_part}
use Rattle.pass_proofs.proofs.split.exited.Whence.{ComesBy, comes_by}
use Rattle.pass_proofs.proofs.frames.unnamed.Positions.{Becomes, FramedBy, StandsAs, Unchanged, stands_as}
use Rattle.compiler.proofs.whole.lowered_sources.Row.{is_ready}
use Rattle.compiler.proofs.whole.lowered_sources.Sources.{comes_from, early_rules}
use Rattle.pass_proofs.proofs.rule_laws.frames.turned.Turned.{AreTurned, NoneTurned, OneTurned}
use Rattle.pass_proofs.proofs.split.plain_functions.Whole.{blocks_turned}
use Rattle.pass_proofs.proofs.addresses.spelled.Addressed.{addresses_spelled}
use Rattle.pass_proofs.proofs.cells.spelled.Celled.{cells_spelled}
use Rattle.compiler.proofs.cleanup.spelled.Cleaned.{declarations_shaped, declarations_written, functions_shaped, functions_written}
use Rattle.pass_proofs.proofs.copies.spelled.Copied.{copies_spelled_in}
use Rattle.pass_proofs.proofs.early.spelled.Early.{early_spelled}
use Rattle.pass_proofs.proofs.edges.spelled.Edges.{edges_spelled}
use Rattle.pass_proofs.proofs.exits.spelled.Edges.{exits_spelled}
use Rattle.pass_proofs.proofs.addresses.spelled.Entry.{addresses_entry}
use Rattle.pass_proofs.proofs.cells.spelled.Entry.{cells_entry}
use Rattle.pass_proofs.proofs.copies.spelled.Entry.{copies_entry}
use Rattle.pass_proofs.proofs.early.spelled.Entry.{early_filled}
use Rattle.pass_proofs.proofs.edges.spelled.Entry.{edges_entry}
use Rattle.pass_proofs.proofs.exits.spelled.Entry.{exits_entry}
use Rattle.pass_proofs.proofs.rule_laws.rules.spelled.Entry.{shape_filled, unled_entry}
use Rattle.pass_proofs.proofs.rule_laws.rules.spelled.Judged.{function_stands}
use Rattle.pass_proofs.proofs.split.spelled.Reachable.{parts_filled}
use Rattle.pass_proofs.proofs.split.spelled.Split.{parts_spelled, turned_spelled}
use Rattle.pass_proofs.proofs.rule_laws.rules.spelled.Symbols.{written_first, written_rest}
use Rattle.pass_proofs.proofs.split.spelled.Tabled.{parts_tabled, turned_tabled}
use Rattle.pass_proofs.proofs.rule_laws.rules.spelled.Text.{source_spelled}
use Rattle.compiler.specs.cleanup.accepted.Ready.{IsReady}
use Rattle.pass_proofs.specs.ir_laws.facts.spelled.Filled.{HasFilledPhis, HasNoEntryPhis, IsFilled}
use Rattle.pass_proofs.specs.ir_laws.facts.spelled.Named.{AreItemsNamed}
use Rattle.pass_proofs.specs.rule_laws.rules.spelled.Spelled.{IsSpelledBlock, IsSpelledFunction, IsSpelledInstr}
use Rattle.text_canonical.proofs.order.Modules.{stands_in_order}
use Rattle.text_canonical.proofs.order.Shaped.{text_is_shaped}
use Rattle.text_canonical.specs.order.Order.{module_order}
use Rattle.pass_proofs.specs.rule_names.declared.stage.Stage.{Stage}
use Rattle.text_canonical.proofs.grammar.Again.{written_both}
use Rattle.text_canonical.proofs.grammar.Whole.{is_printable}
use Rattle.text_canonical.specs.grammar.Bytes.{AreBytes}
use Rattle.pass_proofs.specs.frame_classes.declared.class.SlotClass.{SlotClass}
use Rattle.pass_frames.specs.Framed.{IsFramedCoroutine, IsFramedForm, begin_block, begin_of, celled, copied, layout_at, offsets_of, placed}
use Rattle.pass_frames.specs.Tables.{class_flags, label_flags, sizes_by_name}
use Rattle.pass_proofs.specs.run_laws.changed.Changed.{Each}
use Rattle.pass_proofs.specs.pass_cells.Cells.{fetched_function}
use Rattle.pass_proofs.specs.pass_exits.ExitBlocks.{with_exit_blocks}
use Rattle.pass_proofs.specs.text_symbols.declared.word.Word.TheVariants as words
use Rattle.text_canonical.specs.order.Shape as shape

-- ---- a coroutine whose frame is built

module _ (m : Module) (l : Layout) (f : Function) (c : Contents) where
  celled_spelled : IsSpelledFunction f → IsSpelledFunction (celled m f c)
  unfolding celled
  celled_spelled h = cells_spelled m (with_edge_blocks f) c.crossing (class_flags f c.classes SlotClass.Local) (edges_spelled f h)

  copied_spelled : (g : Function) (before : List ℕ) → IsSpelledFunction g → IsSpelledFunction (copied f c g before)
  unfolding copied
  copied_spelled g before h = copies_spelled_in g (class_flags f c.classes SlotClass.Frame) (label_flags g (begin_block g ∷ before)) (sizes_by_name f c.held) h

  placed_spelled : (g : Function) → IsSpelledFunction g → IsSpelledFunction (placed l f c g)
  unfolding placed
  placed_spelled g h = addresses_spelled g (begin_of f) (offsets_of l f c (length g.names)) (class_flags f c.classes SlotClass.Ramp) h

  celled_entry : HasNoEntryPhis f.blocks → HasNoEntryPhis (celled m f c).blocks
  unfolding celled
  celled_entry h = cells_entry m (with_edge_blocks f) c.crossing (class_flags f c.classes SlotClass.Local) (edges_entry f h)

  copied_entry : (g : Function) (before : List ℕ) → HasNoEntryPhis g.blocks → HasNoEntryPhis (copied f c g before).blocks
  unfolding copied
  copied_entry g before h = copies_entry g (class_flags f c.classes SlotClass.Frame) (label_flags g (begin_block g ∷ before)) (sizes_by_name f c.held) h

  placed_entry : (g : Function) → HasNoEntryPhis g.blocks → HasNoEntryPhis (placed l f c g).blocks
  unfolding placed
  placed_entry g h = addresses_entry g (begin_of f) (offsets_of l f c (length g.names)) (class_flags f c.classes SlotClass.Ramp) h

-- and its allocas are moved to the front
allocas_spelled : (bs : List Block) → Each IsSpelledBlock bs → Each IsSpelledBlock (with_allocas_first bs)
allocas_spelled [] h = tt
allocas_spelled (b ∷ bs) h = (
  record {
    phis = h.0.phis;
    instrs = each_joined IsSpelledInstr (filter is_alloca b.instrs) (filter is_no_alloca b.instrs) (each_filtered IsSpelledInstr is_alloca b.instrs h.0.instrs) (each_filtered IsSpelledInstr is_no_alloca b.instrs h.0.instrs);
    term = h.0.term;
  },
  h.1,
)

front_spelled : (g : Function) → IsSpelledFunction g → IsSpelledFunction (with_front_allocas g)
front_spelled g h = record { name = h.name; result = h.result; params = h.params; blocks = allocas_spelled g.blocks h.blocks; names = h.names }

front_entry : (bs : List Block) → HasNoEntryPhis bs → HasNoEntryPhis (with_allocas_first bs)
front_entry [] h = tt
front_entry (b ∷ bs) h = h

pub framed_spelled : (m : Module) (l : Layout) (f g : Function) → IsFramedCoroutine m l f g → IsSpelledFunction f → IsSpelledFunction g
framed_spelled m l f g h s =
    let c : Contents = h.contents in
    subst IsSpelledFunction (sym h.is)
    (front_spelled (placed l f c (copied f c (celled m f c) h.before)) (placed_spelled m l f c (copied f c (celled m f c) h.before) (copied_spelled m l f c (celled m f c) h.before (celled_spelled m l f c s))))

-- it is a coroutine where it was one
placed_coroutine : (l : Layout) (f : Function) (c : Contents) (g : Function) → (placed l f c g).coroutine ≡ g.coroutine
unfolding placed
placed_coroutine l f c g = refl

copied_coroutine : (f : Function) (c : Contents) (g : Function) (before : List ℕ) → (copied f c g before).coroutine ≡ g.coroutine
unfolding copied
copied_coroutine f c g before = refl

celled_coroutine : (m : Module) (f : Function) (c : Contents) → (celled m f c).coroutine ≡ f.coroutine
unfolding celled fetched_function
celled_coroutine m f c = refl

framed_coroutine : (m : Module) (l : Layout) (f g : Function) → IsFramedCoroutine m l f g → g.coroutine ≡ f.coroutine
framed_coroutine m l f g h =
    let c : Contents = h.contents in
    ap (λ (x : Function). x.coroutine) h.is ∙ placed_coroutine l f c (copied f c (celled m f c) h.before) ∙ copied_coroutine f c (celled m f c) h.before ∙ celled_coroutine m f c

framed_entry : (m : Module) (l : Layout) (f g : Function) → IsFramedCoroutine m l f g → HasNoEntryPhis f.blocks → HasNoEntryPhis g.blocks
framed_entry m l f g h s =
    let c : Contents = h.contents in
    subst (λ (x : Function). HasNoEntryPhis x.blocks) (sym h.is)
    (front_entry (placed l f c (copied f c (celled m f c) h.before)).blocks (placed_entry m l f c (copied f c (celled m f c) h.before) (copied_entry m l f c (celled m f c) h.before (celled_entry m l f c s))))

-- ---- a function that is no coroutine

turned_filled : (s : Shape) (n : ℕ) (bs cs : List Block) → AreTurned s n bs cs → Each (λ b. Each IsFilled b.phis) bs → Each (λ b. Each IsFilled b.phis) cs
turned_filled s _ _ _ (NoneTurned n) h = tt
turned_filled s _ _ _ (OneTurned n b c bs cs t rest) h = (subst (Each IsFilled) (sym t.phis) h.0, turned_filled s _ bs cs rest h.1)

turned_left : (s : Shape) (n : ℕ) (bs cs : List Block) → AreTurned s n bs cs → (bs ≡ [] → ⊥) → cs ≡ [] → ⊥
turned_left s _ _ _ (NoneTurned n) h e = h refl
turned_left s _ _ _ (OneTurned n b c bs cs t rest) h e = absurd (cc)

-- ---- the names of items

globals_named : (gs : List GlobalItem) → AreWritten (global_items_symbols gs) → Each (λ (g : GlobalItem). IsName g.name) gs
globals_named [] w = tt
globals_named (g ∷ gs) w = ((written_first (global_item_symbols g) (global_items_symbols gs) w).0, globals_named gs (written_rest (global_item_symbols g) (global_items_symbols gs) w))

declaration_named : (d : Declaration) → AreWritten (declaration_symbols d) → IsName d.name
declaration_named d w =
    let front : List Sym = word words.Declare ∷ result_symbols d.result in
    let middle : List Sym = global_symbol d.name ∷ open_round ∷ types_symbols d.params in
    (written_rest front middle (written_first (front ++ middle) (close_round ∷ []) w)).0

declarations_named : (ds : List Declaration) → AreWritten (declarations_symbols ds) → Each (λ (d : Declaration). IsName d.name) ds
declarations_named [] w = tt
declarations_named (d ∷ ds) w = (declaration_named d (written_first (declaration_symbols d) (declarations_symbols ds) w), declarations_named ds (written_rest (declaration_symbols d) (declarations_symbols ds) w))

-- ---- the row

module _ (text : List ℕ) (m : Module) (bytes : AreBytes text) (stands : StandsFor text m) (accepted : IsRefused Stage.Source m None) (share : Bool) (layouts : Layouts) (laid : AreLayouts m share (Ok layouts)) (n : Module) (form : IsFramedForm layouts (early_module m) n) where
  abbrev e : Module
  e = early_module m

  abbrev split : Module
  split = split_module layouts n

  ready : IsReady layouts n
  ready = is_ready text m stands accepted share layouts laid n form

  shaped : shape.IsShaped m
  shaped = text_is_shaped text m stands

  -- what the first pass makes

  early_one : (k : ℕ) (f : Function) → slice_get e.functions k ≡ Some f → IsSpelledFunction f
  early_one k f there = let x = comes_from m k f there in subst IsSpelledFunction (sym x.is) (early_spelled x.source (source_spelled text m bytes stands k x.source x.stands))

  early_full : (k : ℕ) (f : Function) → slice_get e.functions k ≡ Some f → HasFilledPhis f
  early_full k f there = let x = comes_from m k f there in subst HasFilledPhis (sym x.is) (early_filled x.source (shape_filled x.source (function_shaped m.functions k x.source shaped.functions x.stands)))

  early_bare : (k : ℕ) (f : Function) → slice_get e.functions k ≡ Some f → HasNoEntryPhis f.blocks
  early_bare k f there = unled_entry k f (early_rules text m stands accepted k f there).edges (early_full k f there)

  -- where frames are built

  comes : (k : ℕ) (g : Function) → slice_get n.functions k ≡ Some g → StandsAs (early_module m) layouts.coroutines (early_module m).functions k g
  comes k g there = stands_as e layouts.coroutines form.functions.count e.functions n.functions form.functions.framed k g there

  spelled_by : (k : ℕ) (f g : Function) → slice_get (early_module m).functions k ≡ Some f → Becomes (early_module m) layouts.coroutines f g → IsSpelledFunction g
  spelled_by k f _ there (Unchanged plain) = early_one k f there
  spelled_by k f g there (FramedBy taken _ marked framed) = framed_spelled e (layout_at layouts.coroutines taken) f g framed (early_one k f there)

  framed_one : (k : ℕ) (g : Function) → slice_get n.functions k ≡ Some g → IsSpelledFunction g
  framed_one k g there = let x = comes k g there in spelled_by k x.source g x.stands x.becomes

  bare_by : (k : ℕ) (f g : Function) → slice_get (early_module m).functions k ≡ Some f → Becomes (early_module m) layouts.coroutines f g → HasNoEntryPhis g.blocks
  bare_by k f _ there (Unchanged plain) = early_bare k f there
  bare_by k f g there (FramedBy taken _ marked framed) = framed_entry e (layout_at layouts.coroutines taken) f g framed (early_bare k f there)

  framed_bare : (k : ℕ) (g : Function) → slice_get n.functions k ≡ Some g → HasNoEntryPhis g.blocks
  framed_bare k g there = let x = comes k g there in bare_by k x.source g x.stands x.becomes

  full_by : (k : ℕ) (f g : Function) → slice_get (early_module m).functions k ≡ Some f → Becomes (early_module m) layouts.coroutines f g → g.coroutine ≡ false → HasFilledPhis g
  full_by k f _ there (Unchanged plain) c = early_full k f there
  full_by k f g there (FramedBy taken _ marked framed) c =
      let was : f.coroutine ≡ true = marked in
      let both : true ≡ false = sym was ∙ sym (framed_coroutine e (layout_at layouts.coroutines taken) f g framed) ∙ c in
      absurd (cc)

  framed_full : (k : ℕ) (g : Function) → slice_get n.functions k ≡ Some g → g.coroutine ≡ false → HasFilledPhis g
  framed_full k g there c = let x = comes k g there in full_by k x.source g x.stands x.becomes c

  -- where coroutines are split

  record IsGood (l : ℕ) (g : Function) : Type 0 where
    spelled : IsSpelledFunction g
    tabled : HasTabledLocals l g
    filled : HasFilledPhis g

  part_good : (k l : ℕ) (f g : Function) (layout : Layout) (number : ℕ) → slice_get n.functions k ≡ Some f → f.coroutine ≡ true → slice_get (marked_parts layout (has_given_call n f) (with_exit_blocks f)) number ≡ Some g → IsGood l g
  part_good k l f g layout number there c is_one =
      let h : Function = with_exit_blocks f in
      let p = some_part (shape_of h layout) (has_given_call n f) h g number is_one in
      let r = ready.coroutines k f there c in
      record {
        spelled = parts_spelled layout p.part h g p.is (exits_spelled f (framed_one k f there));
        tabled = parts_tabled n k l layout p.part r.begin h g r.splittable p.is;
        filled = parts_filled n k layout p.part r.begin h g r.splittable (exits_entry f (framed_bare k f there)) p.is;
      }

  turned_good : (k l : ℕ) (f : Function) → slice_get n.functions k ≡ Some f → f.coroutine ≡ false → IsGood l (plain_of (plain_shape f) f)
  turned_good k l f there c =
      let rules = (ready.plain k f there c).rules in
      let turned = blocks_turned Stage.Source n k f c rules in
      let full = framed_full k f there c in
      record {
        spelled = turned_spelled f (framed_one k f there);
        tabled = turned_tabled k l f rules.tabled turned;
        filled = record {
          block = turned_left (plain_shape f) (length f.names) f.blocks (plain_of (plain_shape f) f).blocks turned full.block;
          phis = turned_filled (plain_shape f) (length f.names) f.blocks (plain_of (plain_shape f) f).blocks turned full.phis;
        };
      }

  plain_good : (k l : ℕ) (f g : Function) (number : ℕ) → slice_get n.functions k ≡ Some f → f.coroutine ≡ false → slice_get (plain_of (plain_shape f) f ∷ []) number ≡ Some g → IsGood l g
  plain_good k l f g zero there c is_one = let same : plain_of (plain_shape f) f ≡ g = cc in subst (IsGood l) same (turned_good k l f there c)
  plain_good k l f g (suc number) there c is_one = absurd (cc)

  split_good : (l : ℕ) (g : Function) → slice_get split.functions l ≡ Some g → IsGood l g
  split_good l g there = on r.source.coroutine refl r.is_one
    where
      r : ComesBy layouts.coroutines n n.functions g
      r = comes_by layouts.coroutines n n.functions l g there

      on : (b : Bool) → r.source.coroutine ≡ b → slice_get (if b then marked_parts r.layout (has_given_call n r.source) (with_exit_blocks r.source) else plain_of (plain_shape r.source) r.source ∷ []) r.number ≡ Some g → IsGood l g
      on true c is_one = part_good r.position l r.source g r.layout r.number r.stands c is_one
      on false c is_one = plain_good r.position l r.source g r.number r.stands c is_one

  -- items

  printable : IsPrintable m
  printable = is_printable text m bytes stands

  abbrev front : List Sym
  front = type_items_symbols m.types ++ global_items_symbols m.globals

  front_written : AreWritten (type_items_symbols m.types ++ global_items_symbols m.globals)
  front_written = written_first front (declarations_symbols m.declarations) (written_first (front ++ declarations_symbols m.declarations) (functions_symbols m.functions) printable)

  declared_written : AreWritten (declarations_symbols m.declarations)
  declared_written = written_rest front (declarations_symbols m.declarations) (written_first (front ++ declarations_symbols m.declarations) (functions_symbols m.functions) printable)

  items : AreItemsNamed split
  items =
      record {
        functions = each_at (λ (f : Function). IsName f.name) split.functions (λ l g there. (split_good l g there).spelled.name);
        declarations = subst (Each (λ (d : Declaration). IsName d.name)) (sym form.declarations) (declarations_named m.declarations declared_written);
        globals = subst (Each (λ (g : GlobalItem). IsName g.name)) (sym form.globals) (globals_named m.globals (written_rest (type_items_symbols m.types) (global_items_symbols m.globals) front_written));
      }

  all_stand : Each (λ (f : Function). shape.IsFunction f × AreWritten (function_symbols f)) split.functions
  all_stand =
      each_at (λ (f : Function). shape.IsFunction f × AreWritten (function_symbols f)) split.functions
      (λ l g there. let x = split_good l g there in function_stands split l g items (all_kept layouts n ready l g there) x.tabled x.spelled x.filled)

  -- ---- the lowered module

  pub lowered_shaped : shape.IsShaped (clean_module (split_module layouts n))
  lowered_shaped =
      record {
        types = subst (shape.Each shape.IsTypeItem) (sym form.types) shaped.types;
        globals = subst (shape.Each shape.IsGlobal) (sym form.globals) shaped.globals;
        declarations = declarations_shaped n.declarations (subst (shape.Each shape.IsDeclaration) (sym form.declarations) shaped.declarations);
        functions = functions_shaped split.functions all_stand;
      }

  pub lowered_printable : IsPrintable (clean_module (split_module layouts n))
  lowered_printable =
      let c : Module = clean_module split in
      let first : List Sym = type_items_symbols c.types ++ global_items_symbols c.globals in
      let types : AreWritten (type_items_symbols c.types) = subst (λ (ts : List TypeItem). AreWritten (type_items_symbols ts)) (sym form.types) (written_first (type_items_symbols m.types) (global_items_symbols m.globals) front_written) in
      let globals : AreWritten (global_items_symbols c.globals) = subst (λ (gs : List GlobalItem). AreWritten (global_items_symbols gs)) (sym form.globals) (written_rest (type_items_symbols m.types) (global_items_symbols m.globals) front_written) in
      let declared : AreWritten (declarations_symbols c.declarations) = declarations_written n.declarations (subst (λ (ds : List Declaration). AreWritten (declarations_symbols ds)) (sym form.declarations) declared_written) in
      written_both (first ++ declarations_symbols c.declarations) (functions_symbols c.functions)
      (written_both first (declarations_symbols c.declarations) (written_both (type_items_symbols c.types) (global_items_symbols c.globals) types globals) declared) (functions_written split.functions all_stand)

  -- so its canonical text stands for it, with names in order
  pub lowered_stands : StandsFor (module_text (clean_module (split_module layouts n))) (module_order (clean_module (split_module layouts n)))
  lowered_stands = stands_in_order (clean_module (split_module layouts n)) lowered_shaped lowered_printable

-- What a type takes of the symbols of a text.
use Rattle.std.proofs.Common.{◌≡◌, ◌<◌, ◌≤◌, ◌+◌, ℕ, zero, suc, Bool, true, false, cond, List, [], ◌∷◌, length, Option, Some, None, inl, inr, ap, arith, refl, subst, sym}
use Rattle.std.proofs.lemmas.List.{length-map}
use Rattle.compiler.specs.ir_base.declared.name.Name.{Name}
use Rattle.compiler.specs.ir_model.Ty.{Ty, Tys, int, ptr, token, array, structure, named, none, field}
use Rattle.compiler.specs.ir_model.declared.instr.Instr.{Instr}
use Rattle.compiler.specs.ir_model.declared.module.Block.{Block}
use Rattle.compiler.specs.ir_model.declared.module.Function.{Function}
use Rattle.compiler.specs.ir_model.declared.module.Module.{Module}
use Rattle.compiler.specs.ir_model.declared.module.TypeItem.{TypeItem}
use Rattle.compiler_theorem.specs.narrow.Narrow.{AreNarrow, IsNarrow, IsNarrowBlock, IsNarrowFunction, IsNarrowInstr, IsNarrowModule, field_count}
use Rattle.compiler.specs.run_laws.changed.Changed.{Each}
use Rattle.compiler.proofs.text_grammar.ItemsTake.{item_takes, param_takes}
use Rattle.compiler.proofs.text_grammar.LinesTake.{block_takes, blocks_keep, line_takes, phi_line_takes}
use Rattle.compiler.proofs.text_grammar.Takes.{KeepsSymbols, any_keeps, attr_takes, attributes_keep, commas_keep, each_keeps, flag_keeps, left, local_takes, one, one_keeps, result_takes, seq_keeps, seq_takes, takes_keeps, three, two, type_takes}
use Rattle.compiler.specs.text_grammar.Attributes.{IsAttr, attributes, pairs}
use Rattle.compiler.specs.text_grammar.Blocks.{AreBlocks, IsBlock, IsBody, IsLine, label, unwritten_label}
use Rattle.compiler.specs.text_grammar.Functions.{AreParams, IsFunction, IsHead, IsParam, Written}
use Rattle.compiler.specs.text_grammar.Instructions.{IsInstr, IsNamed}
use Rattle.compiler.specs.text_grammar.Items.{Item, IsItem, declaration, function, functions_of, global_item, group, groups_of, other, type_item, types_of}
use Rattle.compiler.specs.text_grammar.Phrases.{Locals, commas, each, ◌∥◌}
use Rattle.compiler.specs.text_grammar.Text.{StandsFor}
use Rattle.compiler.specs.text_grammar.Types.{AreFields, IsResult, IsType}
use Rattle.compiler.specs.text_lexer.Lists.{front, is_shorter, up_to, when}
use Rattle.compiler.specs.text_lexer.Tokens.{first_token, tokens}
use Rattle.compiler.specs.text_symbols.Listing.{symbols_of}
use Rattle.compiler.specs.text_symbols.Sym.{sym_of}
use Rattle.compiler.specs.text_symbols.declared.sym.Sym.{Sym}

-- ---- types

-- each field takes a symbol at least
fields_take : (fs : Tys) (ts rest : List Sym) → AreFields fs ts rest → field_count fs + length rest ≤ length ts
fields_take none ts rest h = let e : length ts ≡ length rest = ap length h in omega arith
fields_take (field t none) ts rest h = let less : length rest < length ts = type_takes t ts rest h in omega arith
fields_take (field t (field u fs)) ts rest h =
    let less : length h.0 < length ts = type_takes t ts h.0 h.1 in
    let comma : length h.2.0 < length h.0 = one h.0 h.2.0 h.2.1 in
    let more : field_count (field u fs) + length rest ≤ length h.2.0 = fields_take (field u fs) h.2.0 rest h.2.2 in
    omega arith

mutual
  pub type_narrow : (bound : ℕ) (t : Ty) (ts rest : List Sym) → IsType t ts rest → length ts ≤ bound → IsNarrow bound t
  type_narrow bound (int n) ts rest h few = tt
  type_narrow bound ptr ts rest h few = tt
  type_narrow bound token ts rest h few = tt
  type_narrow bound (named n) ts rest h few = tt
  type_narrow bound (array n t) ts rest h few =
      let less : length h.0 < length ts = three ts h.0 h.1 in type_narrow bound t h.0 h.2.0 h.2.1 (omega arith)
  type_narrow bound (structure fs) ts rest h few =
      let less : length h.0 < length ts = one ts h.0 h.1 in
      let taken : field_count fs + length h.2.0 ≤ length h.0 = fields_take fs h.0 h.2.0 h.2.1 in
      (omega arith, fields_narrow bound fs h.0 h.2.0 h.2.1 (omega arith))

  fields_narrow : (bound : ℕ) (fs : Tys) (ts rest : List Sym) → AreFields fs ts rest → length ts ≤ bound
      → AreNarrow bound fs
  fields_narrow bound none ts rest h few = tt
  fields_narrow bound (field t none) ts rest h few = (type_narrow bound t ts rest h few, tt)
  fields_narrow bound (field t (field u fs)) ts rest h few =
      let less : length h.0 < length ts = type_takes t ts h.0 h.1 in
      let comma : length h.2.0 < length h.0 = one h.0 h.2.0 h.2.1 in
      (type_narrow bound t ts h.0 h.1 few, fields_narrow bound (field u fs) h.2.0 rest h.2.2 (omega arith))

-- ---- instructions and blocks

module _ (bound : ℕ) (types : List TypeItem) where
  named_takes : (r : ℕ) (s end : Locals) → IsNamed r s end → left end < left s
  named_takes r s end h =
      let first : left h.0 < left s = local_takes r s h.0 h.1 in
      let equals : length end.1 < length h.0.1 = one h.0.1 end.1 h.2.1 in
      omega arith

  instr_narrow : (i : Instr) (s end : Locals) → IsInstr types i s end → left s ≤ bound → IsNarrowInstr bound i
  instr_narrow (Instr.Gep r inbounds ty base indices) s end h few =
      let named : left h.0 < left s = named_takes r s h.0 h.1 in
      let line = h.2.1.1 in
      let word : length line.0 < length h.0.1 = one h.0.1 line.0 line.1 in
      let flagged : length line.2.0 ≤ length line.0 = flag_keeps _ inbounds line.0 line.2.0 line.2.1 in
      type_narrow bound ty line.2.0 h.2.0.1 line.2.2 (omega arith)
  instr_narrow _ s end h few = tt

  lines_narrow : (is : List Instr) (s end : Locals) → each (IsLine types) is s end → left s ≤ bound
      → Each (IsNarrowInstr bound) is
  lines_narrow [] s end h few = tt
  lines_narrow (i ∷ is) s end h few =
      let less : left h.0 < left s = line_takes types i s h.0 h.1 in
      (instr_narrow i s h.1.0 h.1.1 few, lines_narrow is h.0 end h.2 (omega arith))

  body_narrow : (b : Block) (s end : Locals) → IsBody types b s end → left s ≤ bound → IsNarrowBlock bound b
  body_narrow b s end h few =
      let phis : left h.0 ≤ left s
      = each_keeps left _ (λ p. takes_keeps left _ (phi_line_takes p)) b.phis s h.0 h.1 in
      lines_narrow b.instrs h.0 h.2.0 h.2.1 (omega arith)

  block_narrow : (b : Block) (s end : Locals) → IsBlock types b s end → left s ≤ bound → IsNarrowBlock bound b
  block_narrow b s end h few =
      let label : length h.0.1 < length s.1 = one s.1 h.0.1 h.1.1 in
      body_narrow b h.0 end h.2 (omega arith)

  rest_narrow : (bs : List Block) (s end : Locals) → each (IsBlock types) bs s end → left s ≤ bound
      → Each (IsNarrowBlock bound) bs
  rest_narrow [] s end h few = tt
  rest_narrow (b ∷ bs) s end h few =
      let less : left h.0 < left s = block_takes types b s h.0 h.1 in
      (block_narrow b s h.0 h.1 few, rest_narrow bs h.0 end h.2 (omega arith))

  entry_label : (k : ℕ) (b : Block) (s end : Locals) → (label b.label ∥ unwritten_label k b.label) s end
      → left end ≤ left s
  entry_label k b s end (inl h) = let less : length end.1 < length s.1 = one s.1 end.1 h.1 in omega arith
  entry_label k b s end (inr h) = let same : length s.1 ≡ length end.1 = ap length h.1 in omega arith

  blocks_narrow : (k : ℕ) (bs : List Block) (s end : Locals) → AreBlocks types k bs s end → left s ≤ bound
      → Each (IsNarrowBlock bound) bs
  blocks_narrow k [] s end h few = absurd h
  blocks_narrow k (b ∷ bs) s end h few =
      let label : left h.1.0 ≤ left s = entry_label k b s h.1.0 h.1.1 in
      let less : left h.0 ≤ left s = blocks_keep types k (b ∷ []) s h.0 (h.0, h.1, refl) in
      (body_narrow b h.1.0 h.0 h.1.2 (omega arith), rest_narrow bs h.0 end h.2 (omega arith))

  -- ---- functions

  params_keep : (ps : List Written) → KeepsSymbols (AreParams ps)
  params_keep ps =
      seq_keeps length _ _ one_keeps
      (seq_keeps length (commas IsParam ps) _
      (commas_keep IsParam (λ p. takes_keeps length (IsParam p) (param_takes p)) ps) one_keeps)

  head_keeps : (t : Option Ty) (n : Name) (ps : List Written) → KeepsSymbols (IsHead t n ps)
  head_keeps t n ps =
      seq_keeps length attributes _ attributes_keep
      (seq_keeps length (IsResult t) _ (takes_keeps length (IsResult t) (result_takes t))
      (seq_keeps length _ (AreParams ps) one_keeps (params_keep ps)))

  function_narrow : (groups : List (List ℕ)) (f : Function) (ts rest : List Sym) → IsFunction types groups f ts rest
      → length ts ≤ bound → IsNarrowFunction bound f
  function_narrow groups f ts rest h few =
      let head : length h.body < length ts
      = seq_takes length _ _ one
      (seq_keeps length (IsHead f.result f.name h.written) _ (head_keeps f.result f.name h.written)
      (seq_keeps length (each IsAttr h.attrs) _
      (each_keeps length IsAttr (λ a. takes_keeps length (IsAttr a) (attr_takes a)) h.attrs)
      (seq_keeps length pairs _ (any_keeps _ (takes_keeps length _ two)) one_keeps))) ts h.body h.head in
      blocks_narrow h.numbers f.blocks (h.names, h.body) (f.names, _) h.blocks (omega arith)

-- ---- items

module _ (bound : ℕ) (types : List TypeItem) (groups : List (List ℕ)) where
  items_types : (is : List Item) (ts rest : List Sym) → each (IsItem types groups) is ts rest → length ts ≤ bound
      → Each (λ (t : TypeItem). IsNarrow bound t.ty) (types_of is)
  items_types [] ts rest h few = tt
  items_types (i ∷ is) ts rest h few =
      let less : length h.0 < length ts = item_takes types groups i ts h.0 h.1 in
      on i h.1 (items_types is h.0 rest h.2 (omega arith))
    where
      on : (i : Item) → IsItem types groups i ts h.0 → Each (λ (t : TypeItem). IsNarrow bound t.ty) (types_of is)
          → Each (λ (t : TypeItem). IsNarrow bound t.ty) (types_of (i ∷ is))
      on (type_item t) x more =
          let less : length x.2.0 < length ts = three ts x.2.0 x.2.1 in
          (subst (IsNarrow bound) (sym x.1) (type_narrow bound (structure x.0) x.2.0 h.0 x.2.2 (omega arith)), more)
      on (global_item g) x more = more
      on (declaration d) x more = more
      on (function f) x more = more
      on (group g) x more = more
      on other x more = more

  items_functions : (is : List Item) (ts rest : List Sym) → each (IsItem types groups) is ts rest → length ts ≤ bound
      → Each (IsNarrowFunction bound) (functions_of is)
  items_functions [] ts rest h few = tt
  items_functions (i ∷ is) ts rest h few =
      let less : length h.0 < length ts = item_takes types groups i ts h.0 h.1 in
      on i h.1 (items_functions is h.0 rest h.2 (omega arith))
    where
      on : (i : Item) → IsItem types groups i ts h.0 → Each (IsNarrowFunction bound) (functions_of is)
          → Each (IsNarrowFunction bound) (functions_of (i ∷ is))
      on (function f) x more = (function_narrow bound types groups f ts h.0 x few, more)
      on (type_item t) x more = more
      on (global_item g) x more = more
      on (declaration d) x more = more
      on (group g) x more = more
      on other x more = more

-- ---- a text has at most as many tokens as bytes

tokens_few : {A T : Type 0} (p : List T → Option (A × List T)) (n : ℕ) (ts : List T) → length (up_to p n ts).0 ≤ n
tokens_few p zero ts = omega arith
tokens_few {A} {T} p (suc n) ts = by_read (tokens_few p n) (p ts)
  where
    by_length : ((us : List T) → length (up_to p n us).0 ≤ n) → (x : A × List T) (b : Bool)
        → length (cond b (front x.0 (up_to p n x.1)) ([], ts)).0 ≤ suc n
    by_length again x true = let less : length (up_to p n x.1).0 ≤ n = again x.1 in omega arith
    by_length again x false = omega arith

    by_read : ((us : List T) → length (up_to p n us).0 ≤ n) → (o : Option (A × List T))
        → length (when o ([], ts) (λ x. cond (is_shorter x.1 ts) (front x.0 (up_to p n x.1)) ([], ts))).0 ≤ suc n
    by_read again None = omega arith
    by_read again (Some x) = by_length again x (is_shorter x.1 ts)

symbols_few : (text : List ℕ) → length (symbols_of text).symbols ≤ length text
symbols_few text =
    let few : length (tokens text).0 ≤ length text = tokens_few first_token (length text) text in
    let same : length (symbols_of text).symbols ≡ length (tokens text).0 = length-map (tokens text).0 sym_of in
    omega arith

pub text_narrow : (text : List ℕ) (m : Module) → StandsFor text m → IsNarrowModule (length text) m
text_narrow text m h =
    subst (IsNarrowModule (length text)) (sym h.kept) (record {
      types = items_types (length text) (types_of h.items) (groups_of h.items) h.items (symbols_of text).symbols [] h.are
          (symbols_few text);
      functions = items_functions (length text) (types_of h.items) (groups_of h.items) h.items
          (symbols_of text).symbols [] h.are (symbols_few text);
    })

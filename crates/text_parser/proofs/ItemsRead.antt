-- Items: what is read is of the grammar, and what is of the grammar is read.
use Rattle.std.proofs.Common.{◌≡◌, ◌<◌, ℕ, Bool, true, false, cond, List, [], ◌∷◌, length, Option, None, refl, sym, ap, subst, ◌∙◌, inl, inr}
use Rattle.std.specs.Prelude.{Some, IfSome}
use Rattle.ir_base.specs.declared.name.Name.{Name}
use Rattle.ir_model.specs.Ty.{Ty, Tys, int, ptr, token, array, structure, named}
use Rattle.ir_model.specs.declared.module.Declaration.{Declaration}
use Rattle.ir_model.specs.declared.module.Function.{Function}
use Rattle.ir_model.specs.declared.module.GlobalItem.{GlobalItem}
use Rattle.ir_model.specs.declared.module.TypeItem.{TypeItem}
use Rattle.ir_model.specs.declared.operand.Operand.{Operand}
use Rattle.ir_model.specs.declared.operand.Operand.TheVariants as operands
use Rattle.text_symbols.specs.declared.sym.Mark.TheVariants as marks
use Rattle.text_symbols.specs.declared.sym.Sym.{Sym}
use Rattle.text_symbols.specs.declared.sym.Sym.TheVariants as syms
use Rattle.text_symbols.specs.declared.word.Word.{Word}
use Rattle.text_symbols.specs.declared.word.Word.TheVariants as words
use Rattle.text_grammar.specs.Attributes.{Attr, attributes, Balanced, make_coroutine, metadata, round, curly, round_text, curly_text}
use Rattle.text_grammar.specs.Functions.{IsDeclaration, IsFunction}
use Rattle.text_grammar.specs.Items as grammar
use Rattle.text_grammar.specs.Items.{type_item, global_item, declaration, function, group, other, IsAttributes, attributes_item, IsGroup, IsTypeItem, IsKeyword, IsGlobal, IsItem}
use Rattle.text_grammar.specs.Phrases.{Phrase, ◌⨾◌, ◌∥◌, these, mark, word, perhaps}
use Rattle.text_grammar.specs.Types.{IsType, IsScalar}
use Rattle.text_grammar.specs.Values.{IsInitial, IsAligned}
use Rattle.text_grammar.proofs.ItemsTake.{item_takes}
use Rattle.text_blocks.specs.Instrs.{align_or}
use Rattle.text_blocks.proofs.AssignedRead.{aligned_found, aligned_again}
use Rattle.text_reader.specs.Attrs.{attrs_at, behind_attrs, behind_close}
use Rattle.text_reader.specs.Reading.{◌>>=◌, mark_at, behind_metadata}
use Rattle.text_reader.specs.Types.{type_at}
use Rattle.text_reader.specs.Values.{align_at, constant_at}
use Rattle.text_reader.proofs.AttrsRead.{closed_found, closed_again}
use Rattle.text_reader.proofs.Binding.{bind_found, bind_again, found_is}
use Rattle.text_reader.proofs.Follow.{EndsAttrs, EndsLine, line_ends_attrs, AttrsFound, attrs_found, attrs_again, behind_attrs_found, behind_attrs_again, metadata_found, metadata_again, metadata_starts}
use Rattle.text_reader.proofs.TypesRead.{type_found, type_again}
use Rattle.text_reader.proofs.ValuesRead.{IsConstant, constant_found, constant_again, mark_found, mark_again}
use Rattle.text_parser.specs.Functions.{declare_at, define_at}
use Rattle.text_parser.specs.Items.{skipped, source_at, target_at, comdat_at, kept_group, attributes_at, type_item_at, constant_word, scalar_at, is_init, init_at, global_item_at, behind_distinct, node_at, metadata_at, worded_at, item_at}
use Rattle.text_parser.specs.declared.items.Item.{Item}
use Rattle.text_parser.specs.declared.items.Item.TheVariants as items
use Rattle.text_parser.specs.declared.known.Known.{Known}
use Rattle.text_parser.proofs.FunctionsRead.{SameGroups, made_by, declare_found, declare_reads, define_found, define_again}

-- an item that was read as the grammar has it, and back
abbrev pub told : Item → grammar.Item
told items.Skipped = other
told (items.Group g) = group g
told (items.Type t) = type_item t
told (items.Global g) = global_item g
told (items.Declaration d) = declaration d
told (items.Function f) = function f

abbrev pub kept : grammar.Item → Item
kept (type_item t) = items.Type t
kept (global_item g) = items.Global g
kept (declaration d) = items.Declaration d
kept (function f) = items.Function f
kept (group g) = items.Group g
kept other = items.Skipped

-- ---- found

module _ (known : Known) (groups : List (List ℕ)) (same : SameGroups known.groups groups) where
  -- what is found of an item that begins at these symbols
  abbrev Finds : List Sym → Option (Item × List Sym) → Type 0
  Finds ts o = IfSome o (λ r. IsItem known.types groups (told r.0) ts r.1)

  source_found : (ts : List Sym) → Finds (syms.Word words.SourceFilename ∷ ts) (source_at ts)
  source_found (syms.Mark marks.Equals ∷ syms.Str ∷ ts) = inl refl
  source_found _ = tt

  target_found : (ts : List Sym) → Finds (syms.Word words.Target ∷ ts) (target_at ts)
  target_found (syms.Word w ∷ syms.Mark marks.Equals ∷ syms.Str ∷ ts) = inr (inl (w, refl))
  target_found _ = tt

  comdat_found : (ts : List Sym) → Finds (syms.Word words.Dollar ∷ ts) (comdat_at ts)
  comdat_found (syms.Mark marks.Equals ∷ syms.Word words.Comdat ∷ syms.Word w ∷ ts) = inr (inr (inl (w, refl)))
  comdat_found _ = tt

  group_found : (b : Bool) (g : List ℕ) (attrs : List Attr) (ts rest : List Sym) → b ≡ make_coroutine [] attrs → IsAttributes g attrs ts rest → IsItem known.types groups (told (kept_group b g)) ts rest
  group_found true g attrs ts rest e h = (attrs, sym e, h)
  group_found false g attrs ts rest e h = inr (inr (inr (inr (g, attrs, sym e, h))))

  attributes_found : (ts : List Sym) → Finds (syms.Word words.Attributes ∷ ts) (attributes_at ts)
  unfolding attributes_at
  attributes_found (syms.Group g ∷ syms.Mark marks.Equals ∷ syms.Mark marks.OpenCurly ∷ ts) =
      bind_found (mark_at marks.CloseCurly (attrs_at [] ts).1) _ (λ rest. mark marks.CloseCurly (attrs_at [] ts).1 rest) _ (mark_found marks.CloseCurly (attrs_at [] ts).1) (λ rest e.
      with_attrs rest e (attrs_found [] ts))
    where
      with_attrs : (rest : List Sym) → mark marks.CloseCurly (attrs_at [] ts).1 rest → AttrsFound [] ts (attrs_at [] ts).0 (attrs_at [] ts).1 → IsItem known.types groups (told (kept_group (attrs_at [] ts).0 g)) (syms.Word words.Attributes ∷ syms.Group g ∷ syms.Mark marks.Equals ∷ syms.Mark marks.OpenCurly ∷ ts) rest
      with_attrs rest e a = group_found (attrs_at [] ts).0 g a.attrs _ rest (a.made ∙ made_by [] [] (λ g. refl) a.attrs) (ts, refl, ((attrs_at [] ts).1, a.are, e))
  attributes_found _ = tt

  open_structure : (t : Ty) (ts rest : List Sym) → IsType t (syms.Mark marks.OpenCurly ∷ ts) rest → (fs : Tys) × (t ≡ structure fs)
  open_structure (int n) ts rest h = let e : syms.Mark marks.OpenCurly ∷ ts ≡ syms.Word (words.Int h.0) ∷ rest = h.2 in absurd cc
  open_structure ptr ts rest h = let e : syms.Mark marks.OpenCurly ∷ ts ≡ syms.Word words.Ptr ∷ rest = h in absurd cc
  open_structure token ts rest h = let e : syms.Mark marks.OpenCurly ∷ ts ≡ syms.Word words.Token ∷ rest = h in absurd cc
  open_structure (array n t) ts rest h = let e : syms.Mark marks.OpenCurly ∷ ts ≡ syms.Mark marks.OpenSquare ∷ syms.Int n ∷ syms.Word words.X ∷ h.0 = h.1 in absurd cc
  open_structure (structure fs) ts rest h = (fs, refl)
  open_structure (named n) ts rest h = let e : syms.Mark marks.OpenCurly ∷ ts ≡ syms.Local (Some n) ∷ rest = h in absurd cc

  type_item_found : (n : Option Name) (ts : List Sym) → Finds (syms.Local n ∷ syms.Mark marks.Equals ∷ syms.Word words.Type ∷ ts) (type_item_at n ts)
  unfolding type_item_at
  type_item_found None (syms.Mark marks.OpenCurly ∷ ts) = tt
  type_item_found (Some n) (syms.Mark marks.OpenCurly ∷ ts) =
      bind_found (type_at (syms.Mark marks.OpenCurly ∷ ts)) _ (λ r. IsType r.0 (syms.Mark marks.OpenCurly ∷ ts) r.1) _ (type_found (syms.Mark marks.OpenCurly ∷ ts)) (λ t h.
      as_structure t h (open_structure t.0 ts t.1 h))
    where
      as_structure : (t : Ty × List Sym) → IsType t.0 (syms.Mark marks.OpenCurly ∷ ts) t.1 → (fs : Tys) × (t.0 ≡ structure fs) → IsTypeItem (record { name = n; ty = t.0 }) (syms.Local (Some n) ∷ syms.Mark marks.Equals ∷ syms.Word words.Type ∷ syms.Mark marks.OpenCurly ∷ ts) t.1
      as_structure t h s = (s.0, s.1, (syms.Mark marks.OpenCurly ∷ ts, refl, subst (λ (u : Ty). IsType u (syms.Mark marks.OpenCurly ∷ ts) t.1) s.1 h))
  type_item_found n _ = tt

  keyword_found : (ts : List Sym) → IfSome (constant_word ts) (λ r. IsKeyword r.0 ts r.1)
  keyword_found (syms.Word words.Global ∷ ts) = refl
  keyword_found (syms.Word words.Constant ∷ ts) = refl
  keyword_found _ = tt

  scalar_found : (ts : List Sym) → IfSome (scalar_at ts) (λ r. IsScalar r.0 ts r.1)
  scalar_found (syms.Word (words.Int w) ∷ ts) = (w, refl, refl)
  scalar_found (syms.Word words.Ptr ∷ ts) = refl
  scalar_found _ = tt

  initial : (v : Operand) (ts rest : List Sym) → is_init v ≡ true → IsConstant v ts rest → IsInitial v ts rest
  initial (operands.Local i) ts rest e h = absurd h
  initial (operands.Global n) ts rest e h = h
  initial (operands.Number z) ts rest e h = h
  initial operands.True ts rest e h = h
  initial operands.False ts rest e h = h
  initial operands.Null ts rest e h = h
  initial operands.None ts rest e h = absurd cc
  initial operands.Poison ts rest e h = absurd cc

  init_split : (ts : List Sym) (v : Operand × List Sym) → IsConstant v.0 ts v.1 → (b : Bool) → is_init v.0 ≡ b → IfSome (cond b (Some v) None) (λ r. IsInitial r.0 ts r.1)
  init_split ts v h true e = initial v.0 ts v.1 e h
  init_split ts v h false e = tt

  init_found : (ts : List Sym) → IfSome (init_at ts) (λ r. IsInitial r.0 ts r.1)
  unfolding init_at
  init_found ts = bind_found (constant_at ts) _ (λ v. IsConstant v.0 ts v.1) _ (constant_found ts) (λ v h. init_split ts v h (is_init v.0) refl)

  global_found : (n : Option Name) (ts : List Sym) → Finds (syms.Global n ∷ syms.Mark marks.Equals ∷ ts) (global_item_at known n ts)
  unfolding global_item_at
  global_found None ts = tt
  global_found (Some n) ts =
      bind_found (constant_word (behind_attrs ts)) _ (λ c. IsKeyword c.0 (behind_attrs ts) c.1) _ (keyword_found (behind_attrs ts)) (λ c h.
      bind_found (scalar_at c.1) _ (λ t. IsScalar t.0 c.1 t.1) _ (scalar_found c.1) (λ t k.
      bind_found (init_at t.1) _ (λ v. IsInitial v.0 t.1 v.1) _ (init_found t.1) (λ v l.
      (syms.Mark marks.Equals ∷ ts, refl, (ts, refl, (behind_attrs ts, behind_attrs_found ts, (c.1, h, (t.1, k, (v.1, l, ((align_at v.1).1, aligned_found known.types t.0 v.1, metadata_found (align_at v.1).1))))))))))

  distinct_found : (ts : List Sym) → perhaps (word words.Distinct) ts (behind_distinct ts)
  distinct_found (syms.Word words.Distinct ∷ ts) = inl refl
  distinct_found _ = inr refl

  abbrev node : Phrase
  node = these (syms.Meta ∷ []) ⨾ (curly_text ∥ round_text)

  curly_node : (ts : List Sym) (o : Option (List Sym)) → IfSome o (λ rest. Balanced ts (syms.Mark marks.CloseCurly ∷ rest)) → IfSome o (λ rest. node (syms.Meta ∷ syms.Mark marks.OpenCurly ∷ ts) rest)
  curly_node ts None h = tt
  curly_node ts (Some rest) h = (syms.Mark marks.OpenCurly ∷ ts, refl, inl (ts, refl, (syms.Mark marks.CloseCurly ∷ rest, h, refl)))

  round_node : (ts : List Sym) (o : Option (List Sym)) → IfSome o (λ rest. Balanced ts (syms.Mark marks.CloseRound ∷ rest)) → IfSome o (λ rest. node (syms.Meta ∷ syms.Mark marks.OpenRound ∷ ts) rest)
  round_node ts None h = tt
  round_node ts (Some rest) h = (syms.Mark marks.OpenRound ∷ ts, refl, inr (ts, refl, (syms.Mark marks.CloseRound ∷ rest, h, refl)))

  node_found : (ts : List Sym) → IfSome (node_at ts) (λ rest. node ts rest)
  node_found (syms.Meta ∷ syms.Mark marks.OpenCurly ∷ ts) = curly_node ts (behind_close ts (marks.CloseCurly ∷ [])) (closed_found ts marks.CloseCurly)
  node_found (syms.Meta ∷ syms.Mark marks.OpenRound ∷ ts) = round_node ts (behind_close ts (marks.CloseRound ∷ [])) (closed_found ts marks.CloseRound)
  node_found _ = tt

  metadata_item_found : (ts : List Sym) → Finds (syms.Meta ∷ syms.Mark marks.Equals ∷ ts) (metadata_at ts)
  unfolding metadata_at
  metadata_item_found ts =
      bind_found (node_at (behind_distinct ts)) skipped (λ rest. node (behind_distinct ts) rest) _ (node_found (behind_distinct ts)) (λ rest h.
      inr (inr (inr (inl (ts, refl, (behind_distinct ts, distinct_found ts, h))))))

  worded_found : (w : Word) (ts : List Sym) → Finds (syms.Word w ∷ ts) (worded_at known w ts)
  worded_found words.SourceFilename ts = source_found ts
  worded_found words.Target ts = target_found ts
  worded_found words.Dollar ts = comdat_found ts
  worded_found words.Attributes ts = attributes_found ts
  worded_found words.Declare ts = bind_found (declare_at ts) _ (λ d. IsDeclaration d.0 (syms.Word words.Declare ∷ ts) d.1) _ (declare_found ts) (λ d h. h)
  worded_found words.Define ts = bind_found (define_at known ts) _ (λ f. IsFunction known.types groups f.0 (syms.Word words.Define ∷ ts) f.1) _ (define_found known groups same ts) (λ f h. h)
  worded_found _ ts = tt

  pub item_found : (ts : List Sym) → Finds ts (item_at known ts)
  unfolding item_at
  item_found (syms.Word w ∷ ts) = worded_found w ts
  item_found (syms.Local n ∷ syms.Mark marks.Equals ∷ syms.Word words.Type ∷ ts) = type_item_found n ts
  item_found (syms.Global n ∷ syms.Mark marks.Equals ∷ ts) = global_found n ts
  item_found (syms.Meta ∷ syms.Mark marks.Equals ∷ ts) = metadata_item_found ts
  item_found _ = tt

  pub item_shorter : (ts : List Sym) (x : Item) (rest : List Sym) → item_at known ts ≡ Some (x, rest) → length rest < length ts
  item_shorter ts x rest e = item_takes known.types groups (told x) ts rest (found_is (item_at known ts) (x, rest) (λ r. IsItem known.types groups (told r.0) ts r.1) (item_found ts) e)

-- ---- again

-- an item at the front is read, and as it is where nothing follows that would go on with it
pub record Reads (known : Known) (i : grammar.Item) (ts rest : List Sym) : Type 0 where
  pub read : Item × List Sym
  pub is : item_at known ts ≡ Some read
  pub exact : EndsLine rest → read ≡ (kept i, rest)

-- an item whose end is seen
pub exactly : (known : Known) (i : grammar.Item) (ts rest : List Sym) → item_at known ts ≡ Some (kept i, rest) → Reads known i ts rest
exactly known i ts rest e = record { read = (kept i, rest); is = e; exact = λ _. refl }

source_reads : (known : Known) (ts rest : List Sym) → grammar.source_item ts rest → item_at known ts ≡ Some (items.Skipped, rest)
unfolding item_at
source_reads known ts rest h = ap (item_at known) h

target_reads : (known : Known) (ts rest : List Sym) → grammar.target_item ts rest → item_at known ts ≡ Some (items.Skipped, rest)
unfolding item_at
target_reads known ts rest h = ap (item_at known) h.1

comdat_reads : (known : Known) (ts rest : List Sym) → grammar.comdat_item ts rest → item_at known ts ≡ Some (items.Skipped, rest)
unfolding item_at
comdat_reads known ts rest h = ap (item_at known) h.1

distinct_again : (ts rest : List Sym) → perhaps (word words.Distinct) ts (syms.Meta ∷ rest) → behind_distinct ts ≡ syms.Meta ∷ rest
distinct_again ts rest (inl h) = ap behind_distinct h
distinct_again ts rest (inr h) = ap behind_distinct h

node_again : (ts rest : List Sym) → (curly_text ∥ round_text) ts rest → node_at (syms.Meta ∷ ts) ≡ Some rest
node_again ts rest (inl h) = ap (λ (l : List Sym). node_at (syms.Meta ∷ l)) h.1 ∙ closed_again _ _ curly h.0 h.2.0 rest h.2.1 h.2.2
node_again ts rest (inr h) = ap (λ (l : List Sym). node_at (syms.Meta ∷ l)) h.1 ∙ closed_again _ _ round h.0 h.2.0 rest h.2.1 h.2.2

metadata_reads : (known : Known) (ts rest : List Sym) → grammar.metadata_item ts rest → item_at known ts ≡ Some (items.Skipped, rest)
unfolding item_at metadata_at
metadata_reads known ts rest (a, e, (b, d, (c, m, n))) =
    ap (item_at known) e
    ∙ ap (λ (l : List Sym). node_at l >>= skipped) (distinct_again a c (subst (λ (l : List Sym). perhaps (word words.Distinct) a l) m d))
    ∙ bind_again (node_at (syms.Meta ∷ c)) rest skipped _ (node_again c rest n) refl

close_ends : (ts rest : List Sym) → mark marks.CloseCurly ts rest → EndsAttrs ts
close_ends ts rest h = rw h tt

attributes_read : (known : Known) (g : List ℕ) (attrs : List Attr) (b : Bool) (ts rest : List Sym) → make_coroutine [] attrs ≡ b → IsAttributes g attrs ts rest → item_at known ts ≡ Some (kept_group b g, rest)
unfolding item_at attributes_at
attributes_read known g attrs b ts rest made (u, e, (v, are, close)) =
    ap (item_at known) e
    ∙ ap (λ (a : Bool × List Sym). mark_at marks.CloseCurly a.1 >>= λ rest. Some (kept_group a.0 g, rest)) (attrs_again [] attrs u v are (close_ends v rest close))
    ∙ bind_again (mark_at marks.CloseCurly v) rest _ _ (mark_again marks.CloseCurly v rest close) (ap (λ (c : Bool). Some (kept_group c g, rest)) (made_by [] [] (λ g. refl) attrs ∙ made))

type_item_open : (known : Known) (t : TypeItem) (fs : Tys) (ts rest : List Sym) → t.ty ≡ structure fs → IsType (structure fs) ts rest → type_item_at (Some t.name) ts ≡ Some (items.Type t, rest)
unfolding type_item_at
type_item_open known t fs ts rest e h =
    ap (type_item_at (Some t.name)) h.1
    ∙ bind_again (type_at (syms.Mark marks.OpenCurly ∷ h.0)) (structure fs, rest) _ _ (ap type_at (sym h.1) ∙ type_again (structure fs) ts rest h)
    (ap (λ (u : Ty). Some (items.Type (record { name = t.name; ty = u }), rest)) (sym e))

type_item_reads : (known : Known) (t : TypeItem) (ts rest : List Sym) → IsTypeItem t ts rest → item_at known ts ≡ Some (items.Type t, rest)
unfolding item_at
type_item_reads known t ts rest (fs, e, (u, w, h)) = ap (item_at known) w ∙ type_item_open known t fs u rest e h

keyword_again : (b : Bool) (ts rest : List Sym) → IsKeyword b ts rest → constant_word ts ≡ Some (b, rest)
keyword_again true ts rest h = ap constant_word h
keyword_again false ts rest h = ap constant_word h

keyword_ends : (b : Bool) (ts rest : List Sym) → IsKeyword b ts rest → EndsAttrs ts
keyword_ends true ts rest h = rw h tt
keyword_ends false ts rest h = rw h tt

scalar_again : (t : Ty) (ts rest : List Sym) → IsScalar t ts rest → scalar_at ts ≡ Some (t, rest)
scalar_again (int n) ts rest h = ap scalar_at h.2 ∙ ap (λ (x : ℕ). Some (int x, rest)) (sym h.1)
scalar_again ptr ts rest h = ap scalar_at h
scalar_again token ts rest h = absurd h
scalar_again (array n t) ts rest h = absurd h
scalar_again (structure fs) ts rest h = absurd h
scalar_again (named n) ts rest h = absurd h

init_again : (v : Operand) (ts rest : List Sym) → IsInitial v ts rest → init_at ts ≡ Some (v, rest)
unfolding init_at
init_again (operands.Local i) ts rest h = absurd h
init_again (operands.Global n) ts rest h = bind_again (constant_at ts) (operands.Global n, rest) _ _ (constant_again (operands.Global n) ts rest h) refl
init_again (operands.Number z) ts rest h = bind_again (constant_at ts) (operands.Number z, rest) _ _ (constant_again (operands.Number z) ts rest h) refl
init_again operands.True ts rest h = bind_again (constant_at ts) (operands.True, rest) _ _ (constant_again operands.True ts rest h) refl
init_again operands.False ts rest h = bind_again (constant_at ts) (operands.False, rest) _ _ (constant_again operands.False ts rest h) refl
init_again operands.Null ts rest h = bind_again (constant_at ts) (operands.Null, rest) _ _ (constant_again operands.Null ts rest h) refl
init_again operands.None ts rest h = absurd h
init_again operands.Poison ts rest h = absurd h

-- a global behind its `=`: its alignment and its metadata as far as they are there
abbrev global_read : Known → GlobalItem → List Sym → Item × List Sym
global_read known g ts = (items.Global (record g { align = align_or known.types g.ty (align_at ts).0 }), behind_metadata (align_at ts).1)

global_begins : (known : Known) (g : GlobalItem) (ts a b c d : List Sym) → attributes ts a → IsKeyword g.constant a b → IsScalar g.ty b c → IsInitial g.init c d → global_item_at known (Some g.name) ts ≡ Some (global_read known g d)
unfolding global_item_at
global_begins known g ts a b c d attrs keyword ty init =
    bind_again (constant_word (behind_attrs ts)) (g.constant, b) _ _ (ap constant_word (behind_attrs_again ts a attrs (keyword_ends g.constant a b keyword)) ∙ keyword_again g.constant a b keyword)
    (bind_again (scalar_at b) (g.ty, c) _ _ (scalar_again g.ty b c ty)
    (bind_again (init_at c) (g.init, d) _ _ (init_again g.init c d init) refl))

global_exact : (known : Known) (g : GlobalItem) (ts end rest : List Sym) → IsAligned known.types g.ty g.align ts end → metadata end rest → EndsLine rest → global_read known g ts ≡ (items.Global g, rest)
global_exact known g ts end rest al md ends =
    ap (λ (a : ℕ × List Sym). (items.Global (record g { align = a.0 }), behind_metadata a.1)) (aligned_again known.types g.ty g.align ts end al (metadata_starts end rest md ends))
    ∙ ap (λ (l : List Sym). (items.Global g, l)) (metadata_again end rest md ends)

global_step : (known : Known) (n : Name) (ts us vs : List Sym) → these (syms.Global (Some n) ∷ []) ts us → mark marks.Equals us vs → item_at known ts ≡ global_item_at known (Some n) vs
unfolding item_at
global_step known n ts us vs h e = ap (item_at known) (h ∙ ap (λ (l : List Sym). syms.Global (Some n) ∷ l) e)

global_reads : (known : Known) (g : GlobalItem) (ts rest : List Sym) → IsGlobal known.types g ts rest → Reads known (global_item g) ts rest
global_reads known g ts rest (a, name, (b, e, (c, attrs, (d, keyword, (x, ty, (y, init, (z, al, md))))))) =
    record {
      read = global_read known g y;
      is = global_step known g.name ts a b name e ∙ global_begins known g b c d x y attrs keyword ty init;
      exact = λ ends. global_exact known g y z rest al md ends;
    }

declare_step : (known : Known) (ts us : List Sym) (d : Declaration) (end : List Sym) → ts ≡ syms.Word words.Declare ∷ us → declare_at us ≡ Some (d, end) → item_at known ts ≡ Some (items.Declaration d, end)
unfolding item_at
declare_step known ts us d end w e = ap (item_at known) w ∙ bind_again (declare_at us) (d, end) _ _ e refl

declaration_reads : (known : Known) (d : Declaration) (ts rest : List Sym) → IsDeclaration d ts rest → Reads known (declaration d) ts rest
declaration_reads known d ts rest (ps, types, (u, w, h)) =
    let r = declare_reads d u rest (ps, types, (u, refl, h)) in
    record {
      read = (items.Declaration d, r.0);
      is = declare_step known ts u d r.0 w r.1;
      exact = λ ends. ap (λ (l : List Sym). (items.Declaration d, l)) (r.2 (line_ends_attrs rest ends));
    }

define_step : (known : Known) (ts us rest : List Sym) (f : Function) → ts ≡ syms.Word words.Define ∷ us → define_at known us ≡ Some (f, rest) → item_at known ts ≡ Some (items.Function f, rest)
unfolding item_at
define_step known ts us rest f w e = ap (item_at known) w ∙ bind_again (define_at known us) (f, rest) _ _ e refl

function_reads : (known : Known) (groups : List (List ℕ)) → SameGroups known.groups groups → (f : Function) (ts rest : List Sym) → IsFunction known.types groups f ts rest → item_at known ts ≡ Some (items.Function f, rest)
function_reads known groups same f ts rest h =
    let u = h.head.0 in
    let w : ts ≡ syms.Word words.Define ∷ u = h.head.1 in
    define_step known ts u rest f w (define_again known groups same f u rest (subst (λ (l : List Sym). IsFunction known.types groups f l rest) w h))

pub item_reads : (known : Known) (groups : List (List ℕ)) → SameGroups known.groups groups → (i : grammar.Item) (ts rest : List Sym) → IsItem known.types groups i ts rest → Reads known i ts rest
item_reads known groups same (type_item t) ts rest h = exactly known (type_item t) ts rest (type_item_reads known t ts rest h)
item_reads known groups same (global_item g) ts rest h = global_reads known g ts rest h
item_reads known groups same (declaration d) ts rest h = declaration_reads known d ts rest h
item_reads known groups same (function f) ts rest h = exactly known (function f) ts rest (function_reads known groups same f ts rest h)
item_reads known groups same (group g) ts rest h = exactly known (group g) ts rest (attributes_read known g h.0 true ts rest h.1 h.2)
item_reads known groups same other ts rest (inl h) = exactly known other ts rest (source_reads known ts rest h)
item_reads known groups same other ts rest (inr (inl h)) = exactly known other ts rest (target_reads known ts rest h)
item_reads known groups same other ts rest (inr (inr (inl h))) = exactly known other ts rest (comdat_reads known ts rest h)
item_reads known groups same other ts rest (inr (inr (inr (inl h)))) = exactly known other ts rest (metadata_reads known ts rest h)
item_reads known groups same other ts rest (inr (inr (inr (inr h)))) = exactly known other ts rest (attributes_read known h.0 h.1 false ts rest h.2 h.3)

-- ---- what items begin with

pub item_starts : (types : List TypeItem) (groups : List (List ℕ)) (i : grammar.Item) (ts rest : List Sym) → IsItem types groups i ts rest → EndsLine ts
item_starts types groups (type_item t) ts rest h = rw h.2.1 tt
item_starts types groups (global_item g) ts rest h = rw h.1 tt
item_starts types groups (declaration d) ts rest h = rw h.2.1 tt
item_starts types groups (function f) ts rest h = let w : ts ≡ syms.Word words.Define ∷ h.head.0 = h.head.1 in rw w tt
item_starts types groups (group g) ts rest h = rw h.2.1 tt
item_starts types groups other ts rest (inl h) = rw h tt
item_starts types groups other ts rest (inr (inl h)) = rw h.1 tt
item_starts types groups other ts rest (inr (inr (inl h))) = rw h.1 tt
item_starts types groups other ts rest (inr (inr (inr (inl h)))) = rw h.1 tt
item_starts types groups other ts rest (inr (inr (inr (inr h)))) = rw h.3.1 tt

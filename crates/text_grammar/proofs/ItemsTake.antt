-- An item takes a symbol at least.
use Rattle.std.proofs.Common.{ℕ, Bool, true, false, List, [], length, Option, Some, None, inl, inr, arith}
use Rattle.ir_base.specs.declared.name.Name.{Name}
use Rattle.ir_model.specs.Ty.{Ty, structure}
use Rattle.ir_model.specs.declared.module.Declaration.{Declaration}
use Rattle.ir_model.specs.declared.module.Function.{Function}
use Rattle.ir_model.specs.declared.module.GlobalItem.{GlobalItem}
use Rattle.ir_model.specs.declared.module.TypeItem.{TypeItem}
use Rattle.ir_model.specs.declared.operand.Operand.{Operand}
use Rattle.ir_model.specs.declared.operand.Operand.TheVariants as operands
use Rattle.text_grammar.specs.Attributes.{Attr, IsAttr, attributes, metadata, pairs, round_text, curly_text}
use Rattle.text_grammar.specs.Functions.{Written, IsWrittenName, IsParam, AreParams, IsHead, IsDeclaration, IsFunction}
use Rattle.text_grammar.specs.Items.{Item, type_item, global_item, declaration, function, group, other, IsAttributes, IsKeyword, IsGlobal, IsItem}
use Rattle.text_grammar.specs.Phrases.{each, commas}
use Rattle.text_grammar.specs.Types.{IsType, IsResult, IsScalar}
use Rattle.text_grammar.specs.Values.{IsInitial, IsAligned}
use Rattle.text_grammar.proofs.Takes.{takes_keeps, nothing_keeps, never_takes, seq_keeps, seq_takes, or_keeps, perhaps_keeps, each_keeps, KeepsSymbols, TakesSymbols, one, two, three, four, one_keeps, commas_keep, type_takes, type_keeps, result_takes, scalar_takes, attr_takes, attributes_keep, any_keeps, metadata_keep, round_keeps, curly_keeps, integer_takes, aligned_keeps}
use Rattle.text_grammar.proofs.LinesTake.{blocks_keep}

written_keeps : (n : Option Name) → KeepsSymbols (IsWrittenName n)
written_keeps None = nothing_keeps length
written_keeps (Some n) = one_keeps

pub param_takes : (p : Written) → TakesSymbols (IsParam p)
param_takes p = seq_takes length (IsType p.0) _ (type_takes p.0) (seq_keeps length attributes (IsWrittenName p.1) attributes_keep (written_keeps p.1))

params_keep : (ps : List Written) → KeepsSymbols (AreParams ps)
params_keep ps = seq_keeps length _ _ one_keeps (seq_keeps length (commas IsParam ps) _ (commas_keep IsParam (λ p. takes_keeps length (IsParam p) (param_takes p)) ps) one_keeps)

head_keeps : (t : Option Ty) (n : Name) (ps : List Written) → KeepsSymbols (IsHead t n ps)
head_keeps t n ps =
    seq_keeps length attributes _ attributes_keep
    (seq_keeps length (IsResult t) _ (takes_keeps length (IsResult t) (result_takes t)) (seq_keeps length _ (AreParams ps) one_keeps (params_keep ps)))

declaration_takes : (d : Declaration) → TakesSymbols (IsDeclaration d)
declaration_takes d ts rest h =
    seq_takes length _ _ one (seq_keeps length (IsHead d.result d.name h.0) attributes (head_keeps d.result d.name h.0) attributes_keep) ts rest h.2

attrs_keep : (attrs : List Attr) → KeepsSymbols (each IsAttr attrs)
attrs_keep attrs = each_keeps length IsAttr (λ a. takes_keeps length (IsAttr a) (attr_takes a)) attrs

function_takes : (types : List TypeItem) (groups : List (List ℕ)) (f : Function) → TakesSymbols (IsFunction types groups f)
function_takes types groups f ts rest h =
    let head = seq_takes length _ _ one (seq_keeps length (IsHead f.result f.name h.written) _ (head_keeps f.result f.name h.written) (seq_keeps length (each IsAttr h.attrs) _ (attrs_keep h.attrs) (seq_keeps length pairs _ (any_keeps _ (takes_keeps length _ two)) one_keeps))) ts h.body h.head in
    let body = blocks_keep types h.numbers f.blocks (h.names, h.body) (f.names, _) h.blocks in
    omega (arith, head, body)

attributes_take : (g : List ℕ) (attrs : List Attr) → TakesSymbols (IsAttributes g attrs)
attributes_take g attrs = seq_takes length _ _ four (seq_keeps length (each IsAttr attrs) _ (attrs_keep attrs) one_keeps)

keyword_keeps : (b : Bool) → KeepsSymbols (IsKeyword b)
keyword_keeps true = one_keeps
keyword_keeps false = one_keeps

initial_keeps : (v : Operand) → KeepsSymbols (IsInitial v)
initial_keeps (operands.Global n) = one_keeps
initial_keeps (operands.Number z) = takes_keeps length _ (integer_takes z)
initial_keeps operands.True = one_keeps
initial_keeps operands.False = one_keeps
initial_keeps operands.Null = one_keeps
initial_keeps operands.None = takes_keeps length _ (never_takes length)
initial_keeps operands.Poison = takes_keeps length _ (never_takes length)
initial_keeps (operands.Local i) = takes_keeps length _ (never_takes length)

global_takes : (types : List TypeItem) (g : GlobalItem) → TakesSymbols (IsGlobal types g)
global_takes types g =
    seq_takes length _ _ one
    (seq_keeps length _ _ one_keeps
    (seq_keeps length attributes _ attributes_keep
    (seq_keeps length (IsKeyword g.constant) _ (keyword_keeps g.constant)
    (seq_keeps length (IsScalar g.ty) _ (takes_keeps length (IsScalar g.ty) (scalar_takes g.ty))
    (seq_keeps length (IsInitial g.init) _ (initial_keeps g.init)
    (seq_keeps length (IsAligned types g.ty g.align) metadata (aligned_keeps types g.ty g.align) metadata_keep))))))

other_takes : TakesSymbols (λ ts rest. IsItem [] [] other ts rest)
other_takes ts rest (inl h) = three ts rest h
other_takes ts rest (inr (inl h)) = four ts rest h.1
other_takes ts rest (inr (inr (inl h))) = four ts rest h.1
other_takes ts rest (inr (inr (inr (inl h)))) =
    seq_takes length _ _ two (seq_keeps length _ _ (perhaps_keeps length _ one_keeps) (seq_keeps length _ _ one_keeps (or_keeps length curly_text round_text curly_keeps round_keeps))) ts rest h
other_takes ts rest (inr (inr (inr (inr h)))) = attributes_take h.0 h.1 ts rest h.3

pub item_takes : (types : List TypeItem) (groups : List (List ℕ)) (i : Item) → TakesSymbols (IsItem types groups i)
item_takes types groups (type_item t) ts rest h = seq_takes length _ (IsType (structure h.0)) three (type_keeps (structure h.0)) ts rest h.2
item_takes types groups (global_item g) ts rest h = global_takes types g ts rest h
item_takes types groups (declaration d) ts rest h = declaration_takes d ts rest h
item_takes types groups (function f) ts rest h = function_takes types groups f ts rest h
item_takes types groups (group g) ts rest h = attributes_take g h.0 ts rest h.2
item_takes types groups other ts rest h = other_takes ts rest h

-- Declarations and functions as they are printed.
use Rattle.std.proofs.Common.{◌≡◌, ℕ, List, [], ◌∷◌, ◌++◌, append_assoc, append-nil, Option, None, refl, sym, ap, subst, ◌∙◌}
use Rattle.std.specs.Prelude.{Some, Bool, true, false, map, slice_get}
use Rattle.ir_base.specs.declared.name.Name.{Name}
use Rattle.text_names.specs.Spelling.{IsName}
use Rattle.ir_model.specs.Ty.{Ty}
use Rattle.ir_model.specs.declared.module.Declaration.{Declaration}
use Rattle.ir_model.specs.declared.module.Function.{Function}
use Rattle.ir_model.specs.declared.module.Param.{Param}
use Rattle.ir_model.specs.declared.module.TypeItem.{TypeItem}
use Rattle.text_symbols.specs.declared.sym.Sym.{Sym}
use Rattle.text_canonical.specs.canonical.BlockSymbols.{blocks_symbols}
use Rattle.text_canonical.specs.canonical.InstrSymbols.{flag_symbols}
use Rattle.text_canonical.specs.canonical.ItemSymbols.{declaration_symbols, function_symbols, head_symbols, more_params_symbols, more_types_symbols, param_symbols, params_symbols, types_symbols}
use Rattle.text_canonical.specs.canonical.OperandSymbols.{result_symbols}
use Rattle.text_canonical.specs.canonical.TypeSymbols.{type_symbols}
use Rattle.text_grammar.specs.Attributes.{Attr, IsAttr, attributes, make_coroutine, pairs, presplit}
use Rattle.text_grammar.specs.Blocks.{AreBlocks}
use Rattle.text_grammar.specs.Functions.{AreNamed, IsDeclaration, IsFunction, IsHead, IsParam, IsParamName, IsWrittenName, Written, counted}
use Rattle.text_grammar.specs.Phrases.{Phrase, ◌⨾◌, commas, each, mark, word}
use Rattle.text_canonical.proofs.grammar.Again.{Again, AgainIn, AreSound, Extends, leaves_nothing, leaves_these, nothing_again, same, seq, written_both}
use Rattle.text_canonical.proofs.grammar.Attributes.{attributes_again, leaves_attrs, pairs_again}
use Rattle.text_canonical.proofs.grammar.Blocks.{blocks_again}
use Rattle.text_canonical.proofs.grammar.Instructions.{flag_written}
use Rattle.text_canonical.proofs.grammar.Names.{global_again, mark_again, place_extends, place_found, word_again}
use Rattle.text_canonical.proofs.grammar.Types.{AreNarrow, result_again, type_again}
use Rattle.text_symbols.specs.declared.sym.Mark.TheVariants as marks
use Rattle.text_symbols.specs.declared.sym.Sym.TheVariants as syms
use Rattle.text_symbols.specs.declared.word.Word.TheVariants as words

abbrev pub next_param : Written → Phrase
next_param p = mark marks.Comma ⨾ IsParam p

-- ---- parameters of declarations

abbrev pub unnamed : List Ty → List Written
unnamed [] = []
unnamed (t ∷ ts) = (t, None) ∷ unnamed ts

-- a name that isn't printed
dropped : (o : Option Name) (ts rest : List Sym) → IsWrittenName o ts rest → Again (IsWrittenName None) [] ts rest
dropped None ts rest d = nothing_again d
dropped (Some n) ts rest d = record { left = leaves_these (syms.Local (Some n) ∷ []) ts rest d; written = λ h. tt; again = λ behind. refl }

unnamed_again : (p : Written) (ts rest : List Sym) → IsParam p ts rest → Again (IsParam (p.0, None)) (type_symbols p.0) ts rest
unnamed_again p ts rest d =
    same (append-nil (type_symbols p.0)) (seq (type_again p.0 ts d.0 d.1) (seq (attributes_again d.0 d.2.0 d.2.1) (dropped p.1 d.2.0 rest d.2.2)))

more_unnamed : (ps : List Written) (ts rest : List Sym) → each next_param ps ts rest → Again (each next_param (unnamed (map (λ p. p.0) ps))) (more_types_symbols (map (λ p. p.0) ps)) ts rest
more_unnamed [] ts rest d = nothing_again d
more_unnamed (p ∷ ps) ts rest d = seq (seq (mark_again marks.Comma ts d.1.0 d.1.1) (unnamed_again p d.1.0 d.0 d.1.2)) (more_unnamed ps d.0 rest d.2)

all_unnamed : (ps : List Written) (ts rest : List Sym) → commas IsParam ps ts rest → Again (commas IsParam (unnamed (map (λ p. p.0) ps))) (types_symbols (map (λ p. p.0) ps)) ts rest
all_unnamed [] ts rest d = nothing_again d
all_unnamed (p ∷ ps) ts rest d = seq (unnamed_again p ts d.0 d.1) (more_unnamed ps d.0 rest d.2)

pub types_again : (ts : List Ty) → ts ≡ map (λ p. p.0) (unnamed ts)
types_again [] = refl
types_again (t ∷ ts) = ap (λ (l : List Ty). t ∷ l) (types_again ts)

-- ---- heads

-- a head whose parameters are printed so
head_again : (result : Option Ty) (name : Name) (ps qs : List Written) (xs ts rest : List Sym) → IsHead result name ps ts rest
    → ((us vs : List Sym) → commas IsParam ps us vs → Again (commas IsParam qs) xs us vs)
    → Again (IsHead result name qs) (result_symbols result ++ (syms.Global (Some name) ∷ syms.Mark marks.OpenRound ∷ (xs ++ syms.Mark marks.CloseRound ∷ []))) ts rest
head_again result name ps qs xs ts rest d f =
    seq (attributes_again ts d.0 d.1)
    (seq (result_again result d.0 d.2.0 d.2.1)
    (seq (global_again name d.2.0 d.2.2.0 d.2.2.1)
    (seq (mark_again marks.OpenRound d.2.2.0 d.2.2.2.0 d.2.2.2.1)
    (seq (f d.2.2.2.0 d.2.2.2.2.0 d.2.2.2.2.1)
    (mark_again marks.CloseRound d.2.2.2.2.0 rest d.2.2.2.2.2)))))

kept_declaration : (d : Declaration) (ps : List Written) (xs ts rest : List Sym) → Again (word words.Declare ⨾ IsHead d.result d.name ps ⨾ attributes) xs ts rest → d.params ≡ map (λ p. p.0) ps → xs ≡ declaration_symbols d → Again (IsDeclaration d) (declaration_symbols d) ts rest
kept_declaration d ps xs ts rest a e shown = same shown (record { left = a.left; written = a.written; again = λ behind. (ps, e, a.again behind) })

abbrev declaration_with : Declaration → List Ty → Declaration
declaration_with d l = record { name = d.name; result = d.result; params = l }

pub declaration_again : (d : Declaration) (ts rest : List Sym) → IsDeclaration d ts rest → Again (IsDeclaration d) (declaration_symbols d) ts rest
declaration_again d ts rest g =
    let types : List Ty = map (λ p. p.0) g.0 in
    let front = word_again words.Declare ts g.2.0 g.2.1 in
    let middle = head_again d.result d.name g.0 (unnamed types) (types_symbols types) g.2.0 g.2.2.0 g.2.2.1 (all_unnamed g.0) in
    let whole = seq front (seq middle (attributes_again g.2.2.0 rest g.2.2.2)) in
    subst (λ (l : List Ty). Again (IsDeclaration (declaration_with d l)) (declaration_symbols (declaration_with d l)) ts rest) (sym g.1)
    (kept_declaration (declaration_with d types) (unnamed types) _ ts rest whole (types_again types) (simp (append_assoc, append-nil)))

-- ---- parameters of functions

abbrev pub written_of : List Name → List Param → List Written
written_of names [] = []
written_of names (p ∷ ps) = (p.ty, slice_get names p.name) ∷ written_of names ps

pub named_extends : (names : List Name) (ws : List Written) (ps : List Param) (k : ℕ) (ns : List Name) (k_end : ℕ) (ns_end : List Name) → AreNamed ws ps k ns k_end ns_end → Extends names ns_end → Extends names ns
named_extends names [] [] k ns k_end ns_end h e = subst (λ (l : List Name). Extends names l) (sym h.1) e
named_extends names [] (p ∷ ps) k ns k_end ns_end h e = absurd h
named_extends names (w ∷ ws) [] k ns k_end ns_end h e = absurd h
named_extends names (w ∷ ws) (p ∷ ps) k ns k_end ns_end h e = place_extends h.0 p.name h.4 (named_extends names ws ps (counted h.0 k) h.1 k_end ns_end h.5 e)

-- each is named as it is printed
named_again : (names : List Name) (ws : List Written) (ps : List Param) (k : ℕ) (ns : List Name) (k_end : ℕ) (ns_end : List Name) → AreNamed ws ps k ns k_end ns_end → Extends names ns_end → AreNamed (written_of names ps) ps k ns k_end ns_end
named_again names [] [] k ns k_end ns_end h e = h
named_again names [] (p ∷ ps) k ns k_end ns_end h e = absurd h
named_again names (w ∷ ws) [] k ns k_end ns_end h e = absurd h
named_again names (w ∷ ws) (p ∷ ps) k ns k_end ns_end h e =
    let known = named_extends names ws ps (counted h.0 k) h.1 k_end ns_end h.5 e in
    (h.0, h.1, refl, subst (λ (o : Option Name). IsParamName k o h.0) (sym (place_found h.0 p.name h.4 known)) refl, h.4, named_again names ws ps (counted h.0 k) h.1 k_end ns_end h.5 e)

written_name : (k : ℕ) (n : Name) (o : Option Name) (ts rest : List Sym) → IsParamName k o n → IsWrittenName o ts rest → Again (IsWrittenName (Some n)) (syms.Local (Some n) ∷ []) ts rest
written_name k n None ts rest h d =
    let is_name : IsName n = subst IsName (sym h.0) h.1 in
    record { left = leaves_nothing ts rest d; written = λ s. (is_name, tt); again = λ behind. refl }
written_name k n (Some w) ts rest h d =
    record {
      left = leaves_these (syms.Local (Some w) ∷ []) ts rest d;
      written = λ s. (subst IsName (sym h) (subst AreSound d s).0, tt);
      again = λ behind. refl;
    }

param_again : (names : List Name) (k : ℕ) (n : Name) (w : Written) (p : Param) (ts rest : List Sym) → p.ty ≡ w.0 → IsParamName k w.1 n → slice_get names p.name ≡ Some n → IsParam w ts rest
    → Again (IsParam (p.ty, slice_get names p.name)) (param_symbols names p) ts rest
param_again names k n w p ts rest same_type named found d =
    let one = seq (type_again w.0 ts d.0 d.1) (seq (attributes_again d.0 d.2.0 d.2.1) (written_name k n w.1 d.2.0 rest named d.2.2)) in
    subst (λ (t : Ty). Again (IsParam (t, slice_get names p.name)) (type_symbols t ++ syms.Local (slice_get names p.name) ∷ []) ts rest) (sym same_type)
    (subst (λ (o : Option Name). Again (IsParam (w.0, o)) (type_symbols w.0 ++ syms.Local o ∷ []) ts rest) (sym found) one)

more_params_again : (names : List Name) (ws : List Written) (ps : List Param) (k : ℕ) (ns : List Name) (k_end : ℕ) (ns_end : List Name) (ts rest : List Sym) → AreNamed ws ps k ns k_end ns_end → Extends names ns_end → each next_param ws ts rest
    → Again (each next_param (written_of names ps)) (more_params_symbols names ps) ts rest
more_params_again names [] [] k ns k_end ns_end ts rest h e d = nothing_again d
more_params_again names [] (p ∷ ps) k ns k_end ns_end ts rest h e d = absurd h
more_params_again names (w ∷ ws) [] k ns k_end ns_end ts rest h e d = absurd h
more_params_again names (w ∷ ws) (p ∷ ps) k ns k_end ns_end ts rest h e d =
    let known = named_extends names ws ps (counted h.0 k) h.1 k_end ns_end h.5 e in
    seq (seq (mark_again marks.Comma ts d.1.0 d.1.1) (param_again names k h.0 w p d.1.0 d.0 h.2 h.3 (place_found h.0 p.name h.4 known) d.1.2))
    (more_params_again names ws ps (counted h.0 k) h.1 k_end ns_end d.0 rest h.5 e d.2)

params_again : (names : List Name) (ws : List Written) (ps : List Param) (k : ℕ) (ns : List Name) (k_end : ℕ) (ns_end : List Name) → AreNamed ws ps k ns k_end ns_end → Extends names ns_end → (ts rest : List Sym) → commas IsParam ws ts rest
    → Again (commas IsParam (written_of names ps)) (params_symbols names ps) ts rest
params_again names [] [] k ns k_end ns_end h e ts rest d = nothing_again d
params_again names [] (p ∷ ps) k ns k_end ns_end h e ts rest d = absurd h
params_again names (w ∷ ws) [] k ns k_end ns_end h e ts rest d = absurd h
params_again names (w ∷ ws) (p ∷ ps) k ns k_end ns_end h e ts rest d =
    let known = named_extends names ws ps (counted h.0 k) h.1 k_end ns_end h.5 e in
    seq (param_again names k h.0 w p ts d.0 h.2 h.3 (place_found h.0 p.name h.4 known) d.1) (more_params_again names ws ps (counted h.0 k) h.1 k_end ns_end d.0 rest h.5 e d.2)

-- ---- functions

abbrev pub printed_attrs : Bool → List Attr
printed_attrs true = presplit ∷ []
printed_attrs false = []

attrs_again : (c : Bool) (attrs : List Attr) (ts rest : List Sym) → each IsAttr attrs ts rest → Again (each IsAttr (printed_attrs c)) (flag_symbols c words.Presplitcoroutine) ts rest
attrs_again c attrs ts rest d = record { left = leaves_attrs attrs ts rest d; written = λ h. flag_written c words.Presplitcoroutine; again = turn c }
  where
    turn : (c : Bool) (behind : List Sym) → each IsAttr (printed_attrs c) (flag_symbols c words.Presplitcoroutine ++ behind) behind
    turn true behind = (behind, refl, refl)
    turn false behind = refl

pub coroutine_again : (groups : List (List ℕ)) (c : Bool) → c ≡ make_coroutine groups (printed_attrs c)
coroutine_again groups true = refl
coroutine_again groups false = refl

-- a function's names are its names
pub whole_names : (names : List Name) → Extends names names
whole_names names = record { more = []; is = sym (append-nil names) }

pub function_again : (types : List TypeItem) (groups others : List (List ℕ)) (f : Function) (ts rest : List Sym) → AreNarrow types → IsFunction types groups f ts rest → Again (IsFunction types others f) (function_symbols f) ts rest
function_again types groups others f ts rest h d =
    let inner = blocks_again f.names types d.numbers f.blocks (d.names, d.body) (f.names, syms.Mark marks.CloseCurly ∷ rest) h d.blocks in
    let all = whole_names f.names in
    let known = inner.grows all in
    let first = head_again f.result f.name d.written (written_of f.names f.params) (params_symbols f.names f.params) d.head.0 d.head.2.0 d.head.2.1 (params_again f.names d.written f.params 0 [] d.numbers d.names d.params known) in
    let last = seq (attrs_again f.coroutine d.attrs d.head.2.0 d.head.2.2.0 d.head.2.2.1) (seq (pairs_again d.head.2.2.0 d.head.2.2.2.0 d.head.2.2.2.1) (mark_again marks.OpenCurly d.head.2.2.2.0 d.body d.head.2.2.2.2)) in
    let front = seq (word_again words.Define ts d.head.0 d.head.1) (seq first last) in
    put types others f d.numbers d.names ts d.body rest known inner (named_again f.names d.written f.params 0 [] d.numbers d.names d.params known) (same (simp append_assoc) front)
  where
    put : (types : List TypeItem) (others : List (List ℕ)) (f : Function) (numbers : ℕ) (names : List Name) (ts body rest : List Sym) → Extends f.names names
        → AgainIn f.names (AreBlocks types numbers f.blocks) (blocks_symbols f.names f.blocks) (names, body) (f.names, syms.Mark marks.CloseCurly ∷ rest)
        → AreNamed (written_of f.names f.params) f.params 0 [] numbers names
        → Again (word words.Define ⨾ IsHead f.result f.name (written_of f.names f.params) ⨾ each IsAttr (printed_attrs f.coroutine) ⨾ pairs ⨾ mark marks.OpenCurly) (head_symbols f) ts body
        → Again (IsFunction types others f) (function_symbols f) ts rest
    put types others f numbers names ts body rest known inner params front = record {
      left = λ s. (inner.left (front.left s)).1;
      written = λ s. written_both (head_symbols f ++ blocks_symbols f.names f.blocks) (syms.Mark marks.CloseCurly ∷ []) (written_both (head_symbols f) (blocks_symbols f.names f.blocks) (front.written s) (inner.written (front.left s) (whole_names f.names))) (tt, tt);
      again = λ behind. record {
        written = written_of f.names f.params;
        attrs = printed_attrs f.coroutine;
        body = blocks_symbols f.names f.blocks ++ syms.Mark marks.CloseCurly ∷ behind;
        head = subst (λ (l : List Sym). (word words.Define ⨾ IsHead f.result f.name (written_of f.names f.params) ⨾ each IsAttr (printed_attrs f.coroutine) ⨾ pairs ⨾ mark marks.OpenCurly) l (blocks_symbols f.names f.blocks ++ syms.Mark marks.CloseCurly ∷ behind))
            (sym (append_assoc (head_symbols f ++ blocks_symbols f.names f.blocks) (syms.Mark marks.CloseCurly ∷ []) behind ∙ append_assoc (head_symbols f) (blocks_symbols f.names f.blocks) (syms.Mark marks.CloseCurly ∷ behind)))
            (front.again (blocks_symbols f.names f.blocks ++ syms.Mark marks.CloseCurly ∷ behind));
        coroutine = coroutine_again others f.coroutine;
        names = names;
        numbers = numbers;
        params = params;
        blocks = inner.again (whole_names f.names) (syms.Mark marks.CloseCurly ∷ behind);
      };
    }

-- Declarations and functions: what is read is of the grammar, and what is of the grammar is read.
use Rattle.std.proofs.Common.{◌≡◌, ◌<◌, ℕ, Bool, ◌||◌, List, [], ◌∷◌, map, length, Option, None, refl, sym, ap, subst, ◌∙◌, arith}
use Rattle.std.specs.Prelude.{Some, IfSome}
use Rattle.ir_base.specs.declared.name.Name.{Name}
use Rattle.ir_base.specs.declared.name.Name.TheVariants.{Number, Text}
use Rattle.text_lexer.specs.Lists.{all_at, front}
use Rattle.ir_model.specs.Ty.{Ty, int, ptr, token, array, structure, named}
use Rattle.ir_model.specs.declared.module.Block.{Block}
use Rattle.ir_model.specs.declared.module.Declaration.{Declaration}
use Rattle.ir_model.specs.declared.module.Function.{Function}
use Rattle.ir_model.specs.declared.module.Param.{Param}
use Rattle.text_symbols.specs.declared.sym.Mark.TheVariants as marks
use Rattle.text_symbols.specs.declared.sym.Sym.{Sym}
use Rattle.text_symbols.specs.declared.sym.Sym.TheVariants as syms
use Rattle.text_symbols.specs.declared.word.Word.TheVariants as words
use Rattle.text_grammar.specs.Attributes.{Attr, presplit, in_group, plain_attr, is_one_of, make_coroutine, pairs}
use Rattle.text_grammar.specs.Functions as grammar
use Rattle.text_grammar.specs.Functions.{IsWrittenName, IsParam, AreParams, IsHead, IsDeclaration, IsParamName, AreNamed, IsFunction}
use Rattle.text_grammar.specs.Phrases.{Phrase, ◌⨾◌, each, mark, commas}
use Rattle.text_grammar.specs.Types.{IsType, IsResult}
use Rattle.text_grammar.specs.Values.{global}
use Rattle.text_grammar.proofs.ItemsTake.{param_takes}
use Rattle.text_blocks.specs.Blocks.{numbered, blocks_at}
use Rattle.text_blocks.specs.Calls.{result_at}
use Rattle.text_blocks.proofs.BlocksRead.{InBrackets, numbered_found, numbered_again, blocks_found, blocks_again}
use Rattle.text_blocks.proofs.CallsRead.{result_found, result_again}
use Rattle.text_reader.specs.Attrs.{attrs_at, any_true, behind_attrs}
use Rattle.text_reader.specs.Groups.{has_group}
use Rattle.text_reader.specs.Locals.{place_of, with_name}
use Rattle.text_reader.specs.Reading.{◌>>=◌, mark_at, behind_pairs}
use Rattle.text_reader.specs.Types.{type_at}
use Rattle.text_reader.specs.Values.{global_at}
use Rattle.text_reader.proofs.AttrsRead.{makes}
use Rattle.text_reader.proofs.Binding.{bind_found, bind_again}
use Rattle.text_reader.proofs.Follow.{EndsAttrs, AttrsFound, attrs_found, attrs_again, behind_attrs_found, behind_attrs_again, pairs_found, pairs_again, pairs_ends, result_starts}
use Rattle.text_reader.proofs.ListsRead.{all_found, all_again}
use Rattle.text_reader.proofs.PlacesRead.{place_found, place_again}
use Rattle.text_reader.proofs.TypesRead.{type_found, type_again}
use Rattle.text_reader.proofs.ValuesRead.{mark_found, mark_again, global_found, global_again}
use Rattle.text_parser.specs.Functions.{name_at, param_at, next_param_at, params_at, head_at, declare_at, name_or, counted, with_params, named_params, define_at}
use Rattle.text_parser.specs.declared.functions.Head.{Head}
use Rattle.text_parser.specs.declared.functions.Written.{Written}
use Rattle.text_parser.specs.declared.known.Known.{Known}

-- ---- parameters as they are written

abbrev pub pair : Written → grammar.Written
pair p = (p.ty, p.name)

abbrev pub written : grammar.Written → Written
written p = record { ty = p.0; name = p.1 }

name_found : (ts : List Sym) → IfSome (name_at ts) (λ r. IsWrittenName r.0 ts r.1)
name_found (syms.Local None ∷ ts) = tt
name_found (syms.Local (Some n) ∷ ts) = refl
name_found _ = refl

-- what follows a parameter
abbrev EndsParam : List Sym → Type 0
EndsParam (syms.Mark marks.Comma ∷ ts) = Unit {0}
EndsParam (syms.Mark marks.CloseRound ∷ ts) = Unit {0}
EndsParam _ = ⊥

no_name : (ts : List Sym) → EndsParam ts → name_at ts ≡ Some (None, ts)
no_name (syms.Mark marks.Comma ∷ ts) h = refl
no_name (syms.Mark marks.CloseRound ∷ ts) h = refl
no_name _ h = absurd h

param_ends_attrs : (ts : List Sym) → EndsParam ts → EndsAttrs ts
param_ends_attrs (syms.Mark marks.Comma ∷ ts) h = tt
param_ends_attrs (syms.Mark marks.CloseRound ∷ ts) h = tt
param_ends_attrs _ h = absurd h

name_again : (o : Option Name) (ts rest : List Sym) → IsWrittenName o ts rest → EndsParam rest → name_at ts ≡ Some (o, rest)
name_again None ts rest h ends = ap name_at h ∙ no_name rest ends
name_again (Some n) ts rest h ends = ap name_at h

name_ends : (o : Option Name) (ts rest : List Sym) → IsWrittenName o ts rest → EndsParam rest → EndsAttrs ts
name_ends None ts rest h ends = subst EndsAttrs (sym h) (param_ends_attrs rest ends)
name_ends (Some n) ts rest h ends = rw h tt

param_found : (ts : List Sym) → IfSome (param_at ts) (λ r. IsParam (pair r.0) ts r.1)
unfolding param_at
param_found ts =
    bind_found (type_at ts) _ (λ r. IsType r.0 ts r.1) _ (type_found ts) (λ t h.
    bind_found (name_at (behind_attrs t.1)) _ (λ n. IsWrittenName n.0 (behind_attrs t.1) n.1) _ (name_found (behind_attrs t.1)) (λ n k.
    (t.1, h, (behind_attrs t.1, behind_attrs_found t.1, k))))

param_again : (p : grammar.Written) (ts rest : List Sym) → IsParam p ts rest → EndsParam rest → param_at ts ≡ Some (written p, rest)
unfolding param_at
param_again p ts rest (u, ty, (v, attrs, name)) ends =
    bind_again (type_at ts) (p.0, u) _ _ (type_again p.0 ts u ty)
    (bind_again (name_at (behind_attrs u)) (p.1, rest) _ _ (ap name_at (behind_attrs_again u v attrs (name_ends p.1 v rest name ends)) ∙ name_again p.1 v rest name ends) refl)

abbrev NextParam : Written → Phrase
NextParam p = mark marks.Comma ⨾ IsParam (pair p)

next_found : (ts : List Sym) → IfSome (next_param_at ts) (λ r. NextParam r.0 ts r.1)
next_found ts = bind_found (mark_at marks.Comma ts) param_at (λ rest. mark marks.Comma ts rest) _ (mark_found marks.Comma ts) (λ rest e. there (param_at rest) rest e (param_found rest))
  where
    there : (o : Option (Written × List Sym)) (rest : List Sym) → mark marks.Comma ts rest → IfSome o (λ r. IsParam (pair r.0) rest r.1) → IfSome o (λ r. NextParam r.0 ts r.1)
    there None rest e h = tt
    there (Some r) rest e h = (rest, e, h)

next_again : (p : Written) (ts rest : List Sym) → NextParam p ts rest → EndsParam rest → next_param_at ts ≡ Some (p, rest)
next_again p ts rest h ends = bind_again (mark_at marks.Comma ts) h.0 param_at _ (mark_again marks.Comma ts h.0 h.1) (param_again (pair p) h.0 rest h.2 ends)

next_takes : (p : Written) (ts rest : List Sym) → NextParam p ts rest → length rest < length ts
next_takes p ts rest h = takes_more
  where
    takes_more : length rest < length ts
    takes_more = let e = ap (length {A = Sym}) h.1 in omega (arith, param_takes (pair p) h.0 rest h.2)

next_starts : (p : Written) (ts rest : List Sym) → NextParam p ts rest → EndsParam ts
next_starts p ts rest h = rw h.1 tt

-- the parameters behind the first
abbrev Further : List grammar.Written → Phrase
Further = each (λ y. mark marks.Comma ⨾ IsParam y)

further : (ps : List Written) (ts rest : List Sym) → each NextParam ps ts rest → Further (map pair ps) ts rest
further [] ts rest h = h
further (p ∷ ps) ts rest h = (h.0, h.1, further ps h.0 rest h.2)

nexts : (ps : List grammar.Written) (ts rest : List Sym) → Further ps ts rest → each NextParam (map written ps) ts rest
nexts [] ts rest h = h
nexts (p ∷ ps) ts rest h = (h.0, h.1, nexts ps h.0 rest h.2)

-- the parameters and the bracket behind them
abbrev Closed : List grammar.Written → Phrase
Closed ps = commas IsParam ps ⨾ mark marks.CloseRound

abbrev several_at : List Sym → Option (List Written × List Sym)
several_at ts = param_at ts >>= λ first. mark_at marks.CloseRound (front first.0 (all_at next_param_at first.1)).1 >>= λ closed. Some ((front first.0 (all_at next_param_at first.1)).0, closed)

several_found : (ts : List Sym) → IfSome (several_at ts) (λ r. Closed (map pair r.0) ts r.1)
several_found ts =
    bind_found (param_at ts) _ (λ r. IsParam (pair r.0) ts r.1) _ (param_found ts) (λ first h.
    bind_found (mark_at marks.CloseRound (all_at next_param_at first.1).1) _ (λ rest. mark marks.CloseRound (all_at next_param_at first.1).1 rest) _ (mark_found marks.CloseRound (all_at next_param_at first.1).1) (λ rest e.
    ((all_at next_param_at first.1).1, (first.1, h, further (all_at next_param_at first.1).0 first.1 (all_at next_param_at first.1).1 (all_found NextParam next_param_at next_found first.1)), e)))

params_found : (ts : List Sym) → IfSome (params_at ts) (λ r. Closed (map pair r.0) ts r.1)
unfolding params_at
params_found (syms.Mark marks.CloseRound ∷ ts) = (syms.Mark marks.CloseRound ∷ ts, refl, refl)
params_found ts = several_found ts

by_first : (t : Ty) (ts rest : List Sym) → IsType t ts rest → params_at ts ≡ several_at ts
unfolding params_at
by_first (int n) ts rest h = rw h.2 refl
by_first ptr ts rest h = rw h refl
by_first token ts rest h = rw h refl
by_first (array n t) ts rest h = rw h.1 refl
by_first (structure fs) ts rest h = rw h.1 refl
by_first (named n) ts rest h = rw h refl

further_starts : (ps : List grammar.Written) (ts mid rest : List Sym) → Further ps ts mid → mark marks.CloseRound mid rest → EndsParam ts
further_starts [] ts mid rest h e = rw (h ∙ e) tt
further_starts (p ∷ ps) ts mid rest h e = rw h.1.1 tt

closed_stop : (ts rest : List Sym) → mark marks.CloseRound ts rest → next_param_at ts ≡ None
closed_stop ts rest h = ap next_param_at h

closed_ends : (ts rest : List Sym) → mark marks.CloseRound ts rest → EndsParam ts
closed_ends ts rest h = rw h tt

params_again : (ps : List grammar.Written) (ts rest : List Sym) → Closed ps ts rest → params_at ts ≡ Some (map written ps, rest)
unfolding params_at
params_again [] ts rest (mid, h, e) = ap params_at (h ∙ e)
params_again (p ∷ ps) ts rest (mid, (u, first, more), e) =
    by_first p.0 ts first.0 first.1
    ∙ bind_again (param_at ts) (written p, u) _ _ (param_again p ts u first (further_starts ps u mid rest more e))
    (ap (λ (all : List Written × List Sym). mark_at marks.CloseRound (front (written p) all).1 >>= λ closed. Some ((front (written p) all).0, closed))
    (all_again NextParam next_param_at EndsParam next_takes next_again next_starts (map written ps) u mid (nexts ps u mid more) (closed_ends mid rest e) (closed_stop mid rest e))
    ∙ bind_again (mark_at marks.CloseRound mid) rest _ _ (mark_again marks.CloseRound mid rest e) refl)

-- ---- heads

pub head_found : (ts : List Sym) → IfSome (head_at ts) (λ r. IsHead r.0.result r.0.name (map pair r.0.params) ts r.1)
unfolding head_at
head_found ts =
    bind_found (result_at (behind_attrs ts)) _ (λ r. IsResult r.0 (behind_attrs ts) r.1) _ (result_found (behind_attrs ts)) (λ t h.
    bind_found (global_at t.1) _ (λ r. global r.0 t.1 r.1) _ (global_found t.1) (λ n k.
    bind_found (mark_at marks.OpenRound n.1) _ (λ rest. mark marks.OpenRound n.1 rest) _ (mark_found marks.OpenRound n.1) (λ opened o.
    bind_found (params_at opened) _ (λ r. Closed (map pair r.0) opened r.1) _ (params_found opened) (λ ps l.
    (behind_attrs ts, behind_attrs_found ts, (t.1, h, (n.1, k, (opened, o, l))))))))

pub head_again : (t : Option Ty) (n : Name) (ps : List grammar.Written) (ts rest : List Sym) → IsHead t n ps ts rest → head_at ts ≡ Some (record { result = t; name = n; params = map written ps }, rest)
unfolding head_at
head_again t n ps ts rest (a, attrs, (b, result, (c, name, (d, o, params)))) =
    bind_again (result_at (behind_attrs ts)) (t, b) _ _ (ap result_at (behind_attrs_again ts a attrs (result_starts t a b result)) ∙ result_again t a b result)
    (bind_again (global_at b) (n, c) _ _ (global_again n b c name)
    (bind_again (mark_at marks.OpenRound c) d _ _ (mark_again marks.OpenRound c d o)
    (bind_again (params_at d) (map written ps, rest) _ _ (params_again ps d rest params) refl)))

-- ---- declarations

types_pair : (ps : List Written) → map (λ p. p.ty) ps ≡ map (λ (p : grammar.Written). p.0) (map pair ps)
types_pair [] = refl
types_pair (p ∷ ps) = ap (λ (l : List Ty). p.ty ∷ l) (types_pair ps)

types_written : (ps : List grammar.Written) → map (λ (p : Written). p.ty) (map written ps) ≡ map (λ p. p.0) ps
types_written [] = refl
types_written (p ∷ ps) = ap (λ (l : List Ty). p.0 ∷ l) (types_written ps)

pub declare_found : (ts : List Sym) → IfSome (declare_at ts) (λ r. IsDeclaration r.0 (syms.Word words.Declare ∷ ts) r.1)
unfolding declare_at
declare_found ts =
    bind_found (head_at ts) _ (λ r. IsHead r.0.result r.0.name (map pair r.0.params) ts r.1) _ (head_found ts) (λ h k.
    (map pair h.0.params, types_pair h.0.params, (ts, refl, (h.1, k, behind_attrs_found h.1))))

-- a declaration is read whatever follows, and as it is where no more attributes follow
pub declare_reads : (d : Declaration) (ts rest : List Sym) → IsDeclaration d (syms.Word words.Declare ∷ ts) rest → (end : List Sym) × (declare_at ts ≡ Some (d, end)) × (EndsAttrs rest → end ≡ rest)
unfolding declare_at
declare_reads d ts rest (ps, types, (u, w, (v, head, attrs))) =
    let same : ts ≡ u = cc in (
      behind_attrs v,
      ap declare_at same
          ∙ bind_again (head_at u) (record { result = d.result; name = d.name; params = map written ps }, v) _ _ (head_again d.result d.name ps u v head)
          (ap (λ (l : List Ty). Some (record { name = d.name; result = d.result; params = l }, behind_attrs v)) (types_written ps ∙ sym types)),
      λ ends. behind_attrs_again v rest attrs ends,
    )

-- ---- the names of parameters

same_count : (n : Name) (k : ℕ) → counted n k ≡ grammar.counted n k
same_count (Number n) k = refl
same_count (Text t) k = refl

name_or_found : (o : Option Name) (k : ℕ) → IfSome (name_or o k) (λ n. IsParamName k o n)
name_or_found None k = there (numbered k) refl
  where
    there : (o : Option Name) → numbered k ≡ o → IfSome o (λ n. IsParamName k None n)
    there None e = tt
    there (Some n) e = let f = numbered_found k n e in (f.1, f.0)
name_or_found (Some n) k = refl

name_or_again : (o : Option Name) (k : ℕ) (n : Name) → IsParamName k o n → name_or o k ≡ Some n
name_or_again None k n h = numbered_again k h.1 ∙ ap Some (sym h.0)
name_or_again (Some w) k n h = ap Some (sym h)

abbrev Named : List grammar.Written → ℕ → List Name → List Param × List Name × ℕ → Type 0
Named ws k ns r = AreNamed ws r.0 k ns r.2 r.1

named_cons : (p : Written) (ps : List grammar.Written) (k : ℕ) (ns : List Name) (n : Name) (o : Option (List Param × List Name × ℕ)) → IsParamName k p.name n → IfSome o (Named ps (counted n k) (with_name ns n)) → IfSome (with_params (record { ty = p.ty; name = place_of ns n } ∷ []) o) (Named (pair p ∷ ps) k ns)
named_cons p ps k ns n None h more = tt
named_cons p ps k ns n (Some r) h more =
    (n, with_name ns n, refl, h, place_found ns n, subst (λ (c : ℕ). AreNamed ps r.0 c (with_name ns n) r.2 r.1) (same_count n k) more)

pub named_found : (ws : List Written) (k : ℕ) (ns : List Name) → IfSome (named_params ns k ws) (Named (map pair ws) k ns)
named_found [] k ns = (refl, refl)
named_found (w ∷ ws) k ns =
    bind_found (name_or w.name k) _ (λ n. IsParamName k w.name n) _ (name_or_found w.name k) (λ n h.
    named_cons w (map pair ws) k ns n (named_params (with_name ns n) (counted n k) ws) h (named_found ws (counted n k) (with_name ns n)))

pub named_again : (ws : List grammar.Written) (ps : List Param) (k k_end : ℕ) (ns ns_end : List Name) → AreNamed ws ps k ns k_end ns_end → named_params ns k (map written ws) ≡ Some (ps, ns_end, k_end)
named_again [] [] k k_end ns ns_end h = ap (λ (l : List Name). Some ([], l, k)) h.1 ∙ ap (λ (c : ℕ). Some ([], ns_end, c)) h.0
named_again [] (p ∷ ps) k k_end ns ns_end h = absurd h
named_again (w ∷ ws) [] k k_end ns ns_end h = absurd h
named_again (w ∷ ws) (p ∷ ps) k k_end ns ns_end (n, with_it, ty, name, place, more) =
    let at = place_again ns n p.name with_it place in
    bind_again (name_or w.1 k) n _ _ (name_or_again w.1 k n name)
    (ap (λ (l : List Name). with_params (record { ty = w.0; name = place_of ns n } ∷ []) (named_params l (counted n k) (map written ws))) at.1
    ∙ ap (λ (c : ℕ). with_params (record { ty = w.0; name = place_of ns n } ∷ []) (named_params with_it c (map written ws))) (same_count n k)
    ∙ ap (with_params (record { ty = w.0; name = place_of ns n } ∷ [])) (named_again ws ps (grammar.counted n k) k_end with_it ns_end more)
    ∙ ap (λ (i : ℕ). Some (record { ty = w.0; name = i } ∷ ps, ns_end, k_end)) at.0
    ∙ ap (λ (t : Ty). Some (record { ty = t; name = p.name } ∷ ps, ns_end, k_end)) (sym ty))

-- ---- functions

-- groups are the same set
abbrev pub SameGroups : List (List ℕ) → List (List ℕ) → Type 0
SameGroups gs groups = (g : List ℕ) → has_group gs g ≡ is_one_of groups g

pub made_by : (gs groups : List (List ℕ)) → SameGroups gs groups → (attrs : List Attr) → any_true (map (makes gs) attrs) ≡ make_coroutine groups attrs
made_by gs groups same [] = refl
made_by gs groups same (presplit ∷ attrs) = refl
made_by gs groups same (in_group g ∷ attrs) =
    ap (λ (b : Bool). b || any_true (map (makes gs) attrs)) (same g) ∙ ap (λ (b : Bool). is_one_of groups g || b) (made_by gs groups same attrs)
made_by gs groups same (plain_attr ∷ attrs) = made_by gs groups same attrs

pub define_found : (known : Known) (groups : List (List ℕ)) → SameGroups known.groups groups → (ts : List Sym) → IfSome (define_at known ts) (λ r. IsFunction known.types groups r.0 (syms.Word words.Define ∷ ts) r.1)
unfolding define_at
define_found known groups same ts =
    bind_found (head_at ts) _ (λ r. IsHead r.0.result r.0.name (map pair r.0.params) ts r.1) _ (head_found ts) (λ h k.
    bind_found (named_params [] 0 h.0.params) _ (Named (map pair h.0.params) 0 []) _ (named_found h.0.params 0 []) (λ ps l.
    bind_found (blocks_at known.types ps.2 ps.1 (behind_pairs (attrs_at known.groups h.1).1)) _ (λ r. InBrackets known.types ps.2 r.0 (ps.1, behind_pairs (attrs_at known.groups h.1).1) (r.1, r.2)) _ (blocks_found known.types ps.2 ps.1 (behind_pairs (attrs_at known.groups h.1).1)) (λ bs m.
    made h k ps l bs m)))
  where
    made : (h : Head × List Sym) → IsHead h.0.result h.0.name (map pair h.0.params) ts h.1 → (ps : List Param × List Name × ℕ) → Named (map pair h.0.params) 0 [] ps → (bs : List Block × List Name × List Sym) → InBrackets known.types ps.2 bs.0 (ps.1, behind_pairs (attrs_at known.groups h.1).1) (bs.1, bs.2) → IsFunction known.types groups (record { name = h.0.name; result = h.0.result; params = ps.0; coroutine = (attrs_at known.groups h.1).0; blocks = bs.0; names = bs.1 }) (syms.Word words.Define ∷ ts) bs.2
    made h k ps l bs m =
        let a : AttrsFound known.groups h.1 (attrs_at known.groups h.1).0 (attrs_at known.groups h.1).1 = attrs_found known.groups h.1 in
        record {
          written = map pair h.0.params;
          attrs = a.attrs;
          body = m.0;
          head = (ts, refl, (h.1, k, ((attrs_at known.groups h.1).1, a.are, (behind_pairs (attrs_at known.groups h.1).1, pairs_found (attrs_at known.groups h.1).1, m.1))));
          coroutine = a.made ∙ made_by known.groups groups same a.attrs;
          names = ps.1;
          numbers = ps.2;
          params = l;
          blocks = m.2;
        }

abbrev define_from : Known → Head × List Sym → Bool × List Sym → Option (Function × List Sym)
define_from known h a =
    named_params [] 0 h.0.params >>= λ ps. blocks_at known.types ps.2 ps.1 (behind_pairs a.1) >>= λ bs. Some (record { name = h.0.name; result = h.0.result; params = ps.0; coroutine = a.0; blocks = bs.0; names = bs.1 }, bs.2)

by_head : (known : Known) (ts : List Sym) → define_at known ts ≡ (head_at ts >>= λ h. define_from known h (attrs_at known.groups h.1))
unfolding define_at
by_head known ts = refl

pub define_again : (known : Known) (groups : List (List ℕ)) → SameGroups known.groups groups → (f : Function) (ts rest : List Sym) → IsFunction known.types groups f (syms.Word words.Define ∷ ts) rest → define_at known ts ≡ Some (f, rest)
define_again known groups same f ts rest h =
    let u = h.head.0 in
    let v = h.head.2.0 in
    let head = h.head.2.1 in
    let w = h.head.2.2.0 in
    let attrs = h.head.2.2.1 in
    let x = h.head.2.2.2.0 in
    let ps : pairs w x = h.head.2.2.2.1 in
    let open_is : x ≡ syms.Mark marks.OpenCurly ∷ h.body = h.head.2.2.2.2 in
    let word_is : ts ≡ u = cc in
    let ps_open : pairs w (syms.Mark marks.OpenCurly ∷ h.body) = subst (λ (l : List Sym). pairs w l) open_is ps in
    let made : Function = record { name = f.name; result = f.result; params = f.params; coroutine = any_true (map (makes known.groups) h.attrs); blocks = f.blocks; names = f.names } in
    by_head known ts
    ∙ ap (λ (l : List Sym). head_at l >>= λ h. define_from known h (attrs_at known.groups h.1)) word_is
    ∙ bind_again (head_at u) (record { result = f.result; name = f.name; params = map written h.written }, v) _ _ (head_again f.result f.name h.written u v head)
    (ap (define_from known (record { result = f.result; name = f.name; params = map written h.written }, v)) (attrs_again known.groups h.attrs v w attrs (pairs_ends ps_open.0 w h.body ps_open.1))
    ∙ bind_again (named_params [] 0 (map written h.written)) (f.params, h.names, h.numbers) _ _ (named_again h.written f.params 0 h.numbers [] h.names h.params)
    (bind_again (blocks_at known.types h.numbers h.names (behind_pairs w)) (f.blocks, f.names, rest) _ _
    (ap (blocks_at known.types h.numbers h.names) (pairs_again w h.body ps_open) ∙ blocks_again known.types h.numbers f.blocks (h.names, syms.Mark marks.OpenCurly ∷ h.body) (f.names, rest) (h.body, refl, h.blocks))
    (ap (λ (b : Bool). Some (record made { coroutine = b }, rest)) (made_by known.groups groups same h.attrs ∙ sym h.coroutine))))

-- Reading the heads of functions, and whole ones.
use Rattle.std.specs.Prelude.{ℕ, ◌+◌, List, [], ◌∷◌, ◌++◌, map, Option, Some, None}
use Rattle.ir_base.specs.declared.name.Name.{Name}
use Rattle.text_lexer.specs.Lists.{all_at, front}
use Rattle.ir_model.specs.declared.module.Declaration.{Declaration}
use Rattle.ir_model.specs.declared.module.Function.{Function}
use Rattle.ir_model.specs.declared.module.Param.{Param}
use Rattle.text_blocks.specs.Blocks.{numbered, blocks_at}
use Rattle.text_blocks.specs.Calls.{result_at}
use Rattle.text_parser.specs.declared.functions.Head.{Head}
use Rattle.text_parser.specs.declared.functions.Written.{Written}
use Rattle.text_parser.specs.declared.known.Known.{Known}
use Rattle.text_reader.specs.Attrs.{attrs_at, behind_attrs}
use Rattle.text_reader.specs.Locals.{place_of, with_name}
use Rattle.text_reader.specs.Reading.{◌>>=◌, mark_at, behind_pairs}
use Rattle.text_reader.specs.Types.{type_at}
use Rattle.text_reader.specs.Values.{global_at}
use Rattle.text_symbols.specs.declared.sym.Mark.TheVariants as marks
use Rattle.text_symbols.specs.declared.sym.Sym.{Sym}
use Rattle.text_symbols.specs.declared.sym.Sym.TheVariants as syms

-- a parameter's name, which may be left out
abbrev pub name_at : List Sym → Option (Option Name × List Sym)
name_at (syms.Local n ∷ ts) = n >>= λ name. Some (Some name, ts)
name_at ts = Some (None, ts)

-- a parameter as it is written
unfoldable pub param_at : List Sym → Option (Written × List Sym)
param_at ts = do
  t ← type_at ts
  n ← name_at (behind_attrs t.1)
  Some (record { ty = t.0; name = n.0 }, n.1)

abbrev pub next_param_at : List Sym → Option (Written × List Sym)
next_param_at ts = mark_at marks.Comma ts >>= param_at

-- parameters with commas between, or none, in round brackets
unfoldable pub params_at : List Sym → Option (List Written × List Sym)
params_at (syms.Mark marks.CloseRound ∷ ts) = Some ([], ts)
params_at ts = do
  first ← param_at ts
  let all = front first.0 (all_at next_param_at first.1)
  closed ← mark_at marks.CloseRound all.1
  Some (all.0, closed)

-- a result, a name and parameters
unfoldable pub head_at : List Sym → Option (Head × List Sym)
head_at ts = do
  t ← result_at (behind_attrs ts)
  n ← global_at t.1
  opened ← mark_at marks.OpenRound n.1
  ps ← params_at opened
  Some (record { result = t.0; name = n.0; params = ps.0 }, ps.1)

abbrev pub declaration_of : Head → Declaration
declaration_of h = record { name = h.name; result = h.result; params = map (λ p. p.ty) h.params }

-- behind `declare`
unfoldable pub declare_at : List Sym → Option (Declaration × List Sym)
declare_at ts = head_at ts >>= λ h. Some (declaration_of h.0, behind_attrs h.1)

-- the name of a parameter, where k before it have a number
abbrev pub name_or : Option Name → ℕ → Option Name
name_or None k = numbered k
name_or (Some n) k = Some n

-- how many have a number with this one
abbrev pub counted : Name → ℕ → ℕ
counted (Name.Number n) k = k + 1
counted (Name.Text t) k = k

-- parameters before those that are named
abbrev pub with_params : List Param → Option (List Param × List Name × ℕ) → Option (List Param × List Name × ℕ)
with_params xs None = None
with_params xs (Some r) = Some (xs ++ r.0, r.1, r.2)

-- the parameters by their names, the names with theirs, and how many have a number
abbrev pub named_params : List Name → ℕ → List Written → Option (List Param × List Name × ℕ)
named_params ns k [] = Some ([], ns, k)
named_params ns k (p ∷ ps) =
    name_or p.name k >>= λ n. with_params (record { ty = p.ty; name = place_of ns n } ∷ []) (named_params (with_name ns n) (counted n k) ps)

-- behind `define`
unfoldable pub define_at : Known → List Sym → Option (Function × List Sym)
define_at known ts = do
  h ← head_at ts
  let a = attrs_at known.groups h.1
  ps ← named_params [] 0 h.0.params
  bs ← blocks_at known.types ps.2 ps.1 (behind_pairs a.1)
  Some (record { name = h.0.name; result = h.0.result; params = ps.0; coroutine = a.0; blocks = bs.0; names = bs.1 }, bs.2)

-- Turns of the loop over the parameters of a head.
use Rattle.std.proofs.Common.{◌≡◌, ◌<◌, ◌≤◌, ℕ, List, [], ◌∷◌, ◌++◌, length, Option, None, refl, sym, ap, ◌∙◌, append_assoc}
use Rattle.std.specs.Prelude.{Some}
use Rattle.ir_base.specs.declared.name.Name.{Name}
use Rattle.text_lexer.specs.Lists.{all_at}
use Rattle.text_lexer.proofs.ListSteps.{behind, all_turn, all_end, all_stuck}
use Rattle.ir_model.specs.declared.module.Param.{Param}
use Rattle.text_parser.specs.Functions.{next_param_at, name_or, counted, with_params, named_params}
use Rattle.text_reader.specs.Locals.{place_of, with_name}
use Rattle.text_reader.specs.Reading.{◌>>=◌}
use Rattle.text_parser.specs.declared.functions.Written.{Written}
use Rattle.text_symbols.specs.declared.sym.Sym.{Sym}

pub params_turn : (whole : List Written × List Sym) (xs ys : List Written) (ts rest : List Sym) (x : Written) → whole ≡ behind xs (all_at next_param_at ts) → next_param_at ts ≡ Some (x, rest) → length rest < length ts → ys ≡ xs ++ x ∷ [] → whole ≡ behind ys (all_at next_param_at rest)
params_turn whole xs ys ts rest x inv e less items = all_turn next_param_at whole xs ys ts x rest inv e less items

pub params_end : (whole : List Written × List Sym) (xs : List Written) (ts : List Sym) → whole ≡ behind xs (all_at next_param_at ts) → next_param_at ts ≡ None → whole ≡ (xs, ts)
params_end whole xs ts inv e = all_end next_param_at whole xs ts inv e

pub params_stuck : (whole : List Written × List Sym) (xs : List Written) (ts rest : List Sym) (x : Written) → whole ≡ behind xs (all_at next_param_at ts) → next_param_at ts ≡ Some (x, rest) → length ts ≤ length rest → whole ≡ (xs, ts)
params_stuck whole xs ts rest x inv e more = all_stuck next_param_at whole xs ts x rest inv e more

-- ---- the parameters by their names

abbrev Named : Type 0
Named = Option (List Param × List Name × ℕ)

with-with : (xs : List Param) (p : Param) (r : Named) → with_params xs (with_params (p ∷ []) r) ≡ with_params (xs ++ p ∷ []) r
with-with xs p None = refl
with-with xs p (Some r) = ap (λ (l : List Param). Some (l, r.1, r.2)) (sym (append_assoc xs (p ∷ []) r.0))

append_none : (xs : List Param) → xs ++ [] ≡ xs
append_none [] = refl
append_none (x ∷ xs) = ap (λ (l : List Param). x ∷ l) (append_none xs)

none_before : (r : Named) → r ≡ with_params [] r
none_before None = refl
none_before (Some r) = refl

pub named_begun : (ns : List Name) (k : ℕ) (ps qs : List Written) → ps ≡ qs → named_params ns k ps ≡ with_params [] (named_params ns k qs)
named_begun ns k ps qs e = ap (named_params ns k) e ∙ none_before (named_params ns k qs)

abbrev go : List Name → ℕ → Written → List Written → Name → Named
go ns k p ps n = with_params (record { ty = p.ty; name = place_of ns n } ∷ []) (named_params (with_name ns n) (counted n k) ps)

pub named_turn : (whole : Named) (xs ys : List Param) (ns : List Name) (k : ℕ) (ps rest : List Written) (p : Written) (n : Name) → whole ≡ with_params xs (named_params ns k ps) → ps ≡ p ∷ rest → Some n ≡ name_or p.name k → ys ≡ xs ++ record { ty = p.ty; name = place_of ns n } ∷ [] → whole ≡ with_params ys (named_params (with_name ns n) (counted n k) rest)
named_turn whole xs ys ns k ps rest p n inv left e items =
    inv ∙ ap (λ (l : List Written). with_params xs (named_params ns k l)) left
    ∙ ap (λ (o : Option Name). with_params xs (o >>= go ns k p rest)) (sym e)
    ∙ with-with xs (record { ty = p.ty; name = place_of ns n }) (named_params (with_name ns n) (counted n k) rest)
    ∙ ap (λ (l : List Param). with_params l (named_params (with_name ns n) (counted n k) rest)) (sym items)

pub named_fault : (whole : Named) (xs : List Param) (ns : List Name) (k : ℕ) (ps rest : List Written) (p : Written) → whole ≡ with_params xs (named_params ns k ps) → ps ≡ p ∷ rest → None ≡ name_or p.name k → whole ≡ None
named_fault whole xs ns k ps rest p inv left e =
    inv ∙ ap (λ (l : List Written). with_params xs (named_params ns k l)) left ∙ ap (λ (o : Option Name). with_params xs (o >>= go ns k p rest)) (sym e)

pub named_done : (whole : Named) (xs : List Param) (ns : List Name) (k : ℕ) (ps : List Written) → whole ≡ with_params xs (named_params ns k ps) → ps ≡ [] → whole ≡ Some (xs, ns, k)
named_done whole xs ns k ps inv none = inv ∙ ap (λ (l : List Written). with_params xs (named_params ns k l)) none ∙ ap (λ (l : List Param). Some (l, ns, k)) (append_none xs)

-- The ramps that are given the address of their frame.
use Rattle.std.proofs.Common.{◌≡◌, ℕ, suc, ◌+◌, ◌<◌, Bool, true, false, ◌&&◌, List, [], ◌∷◌, ◌++◌, length, get_or, take, refl, ap, sym, ◌∙◌, arith, Option, Some, None}
use Rattle.std.specs.Prelude.{option_and_then, option_map, slice_get, if◌then◌else◌}
use Rattle.std.proofs.lemmas.List.{length-take-le}
use Rattle.ir_base.specs.declared.name.Name.{Name}
use Rattle.run_framed.specs.Framed.{given_ramp}
use Rattle.run_framed.specs.Tables.{ramps_from}
use Rattle.run_framed.specs.declared.ramps.GivenRamp.{GivenRamp}
use Rattle.ir_model.specs.Names.{first_where, noalloc_of, same_name}
use Rattle.ir_model.specs.declared.module.Function.{Function}
use Rattle.ir_model.specs.declared.module.Module.{Module}
use Rattle.run_source.proofs.run_source_tables.Walks.{take-next}

if-append : (b : Bool) (x : GivenRamp) (xs ys : List GivenRamp) → (if b then x ∷ (xs ++ ys) else xs ++ ys) ≡ (if b then x ∷ xs else xs) ++ ys
if-append true x xs ys = refl
if-append false x xs ys = refl

ramps-snoc : (k : ℕ) (fs : List Function) (f : Function) → ramps_from k (fs ++ f ∷ []) ≡ ramps_from k fs ++ ramps_from (k + length fs) (f ∷ [])
ramps-snoc k [] f = let n : k ≡ k + 0 = omega arith in ap (λ m. ramps_from m (f ∷ [])) n
ramps-snoc k (g ∷ fs) f =
    let n : suc k + length fs ≡ k + suc (length fs) = omega arith in
    ap (λ l. if g.coroutine then record { name = noalloc_of g.name; func = k } ∷ l else l) (ramps-snoc (suc k) fs f ∙ ap (λ m. ramps_from (suc k) fs ++ ramps_from m (f ∷ [])) n)
    ∙ if-append g.coroutine (record { name = noalloc_of g.name; func = k }) (ramps_from (suc k) fs) (ramps_from (k + suc (length fs)) (f ∷ []))

pub ramps-next : (fs : List Function) (i : ℕ) (f : Function) (all next : List GivenRamp) → i < length fs → f ≡ get_or fs i f → all ≡ ramps_from 0 (take i fs) → next ≡ all ++ ramps_from i (f ∷ []) → next ≡ ramps_from 0 (take (i + 1) fs)
ramps-next fs i f all next lt e is new =
    let n : 0 + length (take i fs) ≡ i = omega (arith, length-take-le i fs (omega arith)) in
    new
    ∙ ap (λ l. l ++ ramps_from i (f ∷ [])) is
    ∙ ap (λ m. ramps_from 0 (take i fs) ++ ramps_from m (f ∷ [])) (sym n)
    ∙ sym (ramps-snoc 0 (take i fs) f)
    ∙ ap (ramps_from 0) (sym (take-next fs i f lt e))

-- ---- the ramp of a name

abbrev func_at : List GivenRamp → Option ℕ → Option ℕ
func_at ramps o = option_map (λ x. x.func) (option_and_then (slice_get ramps) o)

skip : (r : GivenRamp) (ramps : List GivenRamp) (o : Option ℕ) → func_at (r ∷ ramps) (option_map suc o) ≡ func_at ramps o
skip r ramps None = refl
skip r ramps (Some i) = refl

further : (k : ℕ) (o : Option ℕ) → option_map (λ i. suc k + i) o ≡ option_map (λ i. k + i) (option_map suc o)
further k None = refl
further k (Some i) = let n : suc k + i ≡ k + suc i = omega arith in ap Some n

if-found : (b : Bool) (k : ℕ) (r : GivenRamp) (ramps : List GivenRamp) (o q : Option ℕ) → r.func ≡ k → func_at ramps o ≡ option_map (λ i. suc k + i) q → func_at (r ∷ ramps) (if b then Some 0 else option_map suc o) ≡ option_map (λ i. k + i) (if b then Some 0 else option_map suc q)
if-found true k r ramps o q e h = let n : r.func ≡ k + 0 = omega (arith, e) in ap Some n
if-found false k r ramps o q e h = skip r ramps o ∙ h ∙ further k q

given-at : (c : Bool) (k : ℕ) (m n : Name) (ramps : List GivenRamp) (q : Option ℕ) → func_at ramps (first_where (λ x. same_name x.name n) ramps) ≡ option_map (λ i. suc k + i) q → func_at (if c then record { name = m; func = k } ∷ ramps else ramps) (first_where (λ x. same_name x.name n) (if c then record { name = m; func = k } ∷ ramps else ramps)) ≡ option_map (λ i. k + i) (if c && same_name m n then Some 0 else option_map suc q)
given-at true k m n ramps q h = if-found (same_name m n) k (record { name = m; func = k }) ramps (first_where (λ x. same_name x.name n) ramps) q refl h
given-at false k m n ramps q h = h ∙ further k q

given-from : (k : ℕ) (fs : List Function) (n : Name) → func_at (ramps_from k fs) (first_where (λ x. same_name x.name n) (ramps_from k fs)) ≡ option_map (λ i. k + i) (first_where (λ f. f.coroutine && same_name (noalloc_of f.name) n) fs)
given-from k [] n = refl
given-from k (f ∷ fs) n = given-at f.coroutine k (noalloc_of f.name) n (ramps_from (suc k) fs) (first_where (λ g. g.coroutine && same_name (noalloc_of g.name) n) fs) (given-from (suc k) fs n)

from-zero : (o : Option ℕ) → option_map (λ i. 0 + i) o ≡ o
from-zero None = refl
from-zero (Some i) = let n : 0 + i ≡ i = omega arith in ap Some n

pub ramp-found : (m : Module) (n : Name) (ramps : List GivenRamp) (o : Option ℕ) → ramps ≡ ramps_from 0 m.functions → o ≡ first_where (λ x. same_name x.name n) ramps → option_map (λ x. x.func) (option_and_then (slice_get ramps) o) ≡ given_ramp m n
ramp-found m n ramps o is e =
    ap (func_at ramps) e
    ∙ ap (λ (l : List GivenRamp). func_at l (first_where (λ x. same_name x.name n) l)) is
    ∙ given-from 0 m.functions n
    ∙ from-zero (first_where (λ f. f.coroutine && same_name (noalloc_of f.name) n) m.functions)

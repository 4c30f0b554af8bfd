-- The first element that passes a test, one element further; names are told apart by their test.
use Rattle.std.proofs.Common.{◌≡◌, ℕ, zero, suc, ◌+◌, ◌<◌, Bool, true, false, cond, ◌&&◌, List, [], ◌∷◌, length, take, get_or, refl, ap, sym, subst, ◌∙◌, arith, length-append, Option, Some, None, inl, inr}
use Rattle.std.proofs.lemmas.Bool.{eqb-true, eq-eqb, false≢true}
use Rattle.std.specs.Prelude.{option_map, if◌then◌else◌, ◌==◌, slice_get, unwrap_or, ◌++◌, ◌⊎◌}
use Rattle.ir_paths.specs.ir_base.declared.name.Name.{Name}
use Rattle.ir_paths.specs.ir_base.declared.name.Name.TheVariants.{Number, Text}
use Rattle.ir_paths.specs.ir_base.contracts.name.NamePartialEq.TheImpl.{eq-value}
use Rattle.std.specs.Map.{lookup}
use Rattle.std.specs.Cmp.Lexicographic.{pointwise}
use Rattle.ir_paths.specs.ir_model.Names.{first_where, function_at, no_function, same_name, same_text}
use Rattle.std.proofs.lemmas.Option.{slice_get-get_or}
use Rattle.ir_paths.specs.ir_model.declared.module.Function.{Function}
use Rattle.ir_paths.specs.ir_model.declared.module.Module.{Module}
use Rattle.ir_paths.specs.ir_model.declared.module.TypeItem.{TypeItem}
use Rattle.ir_paths.specs.ir_model.Ty.{Ty}
use Rattle.ir_paths.specs.ir_model.Layout.{type_named}
use Rattle.run_step.specs.Step.{has_markers}
use Rattle.run_step.specs.Tables.{or_at, HaveTables, IsTableOf}
use Rattle.run_step.specs.declared.function_table.FunctionTable.{FunctionTable}

or_at-suc : (o : Option ℕ) (b : Bool) (i : ℕ) → option_map suc (or_at o b i) ≡ or_at (option_map suc o) b (suc i)
or_at-suc (Some k) b i = refl
or_at-suc None true i = refl
or_at-suc None false i = refl

or_at-if : (o : Option ℕ) (p : Option ℕ) (b c : Bool) (i : ℕ) → p ≡ or_at o b i → (if c then Some 0 else option_map suc p) ≡ or_at (if c then Some 0 else option_map suc o) b (suc i)
or_at-if o p true true i e = refl
or_at-if o p false true i e = refl
or_at-if o p b false i e = ap (λ (q : Option ℕ). option_map suc q) e ∙ or_at-suc o b i

first-alone : (b : Bool) → (if b then Some 0 else None) ≡ or_at None b 0
first-alone true = refl
first-alone false = refl

pub first_where-suc : {A : Type 0} (test : A → Bool) (xs : List A) (i : ℕ) (x : A) → i < length xs → x ≡ get_or xs i x → first_where test (take (suc i) xs) ≡ or_at (first_where test (take i xs)) (test x) i
first_where-suc test [] i x lt e = absurd (omega arith)
first_where-suc test (y ∷ xs) zero x lt e = first-alone (test y) ∙ ap (λ z. or_at None (test z) 0) (sym e)
first_where-suc test (y ∷ xs) (suc i) x lt e =
    or_at-if (first_where test (take i xs)) (first_where test (take (suc i) xs)) (test x) (test y) i (first_where-suc test xs i x (omega arith) e)

cons-same : (x y : ℕ) (xs ys : List ℕ) → x ≡ y → xs ≡ ys → x ∷ xs ≡ y ∷ ys
cons-same x y xs ys e f = cc

pub and-left : (a b : Bool) → a && b ≡ true → a ≡ true
and-left true b e = refl
and-left false b e = e

pub and-right : (a b : Bool) → a && b ≡ true → b ≡ true
and-right true b e = e
and-right false b e = absurd (false≢true e)

pub same_text-same : (s t : List ℕ) → same_text s t ≡ true → s ≡ t
same_text-same [] [] e = refl
same_text-same [] (y ∷ ys) e = cc
same_text-same (x ∷ xs) [] e = cc
same_text-same (x ∷ xs) (y ∷ ys) e =
    cons-same x y xs ys (eqb-true x y (and-left (x == y) (same_text xs ys) e)) (same_text-same xs ys (and-right (x == y) (same_text xs ys) e))

both-hold : (a b : Bool) → a ≡ true → b ≡ true → (a && b) ≡ true
both-hold true b e f = f
both-hold false b e f = e

pub same_text-refl : (t : List ℕ) → same_text t t ≡ true
same_text-refl [] = refl
same_text-refl (x ∷ xs) = both-hold (x == x) (same_text xs xs) (eq-eqb x x refl) (same_text-refl xs)

pub same_name-same : (a b : Name) → same_name a b ≡ true → a ≡ b
same_name-same (Number m) (Number n) e = ap Number (eqb-true m n e)
same_name-same (Number m) (Text t) e = cc
same_name-same (Text s) (Number n) e = cc
same_name-same (Text s) (Text t) e = ap Text (same_text-same s t e)

-- what a name's position becomes where another name is put into a table
or_at-true : (o : Option ℕ) (i : ℕ) → o ≡ None → Some i ≡ or_at o true i
or_at-true o i e = sym (ap (λ o. or_at o true i) e)

or_at-false : (o : Option ℕ) (i : ℕ) → o ≡ or_at o false i
or_at-false (Some k) i = refl
or_at-false None i = refl

or_at-some : (o : Option ℕ) (b : Bool) (i k : ℕ) → o ≡ Some k → o ≡ or_at o b i
or_at-some o b i k e = e ∙ sym (ap (λ o. or_at o b i) e)

new-by : (f : Name → Option ℕ) (name n : Name) (at : ℕ) (b : Bool) → same_name name n ≡ b → f name ≡ None → cond b (Some at) (f n) ≡ or_at (f n) b at
new-by f name n at true e h = or_at-true (f n) at (sym (ap f (same_name-same name n e)) ∙ h)
new-by f name n at false e h = or_at-false (f n) at

pub new-position : (f : Name → Option ℕ) (name n : Name) (at : ℕ) → f name ≡ None → cond (same_name name n) (Some at) (f n) ≡ or_at (f n) (same_name name n) at
new-position f name n at h = new-by f name n at (same_name name n) refl h

old-by : (f : Name → Option ℕ) (name n : Name) (at k : ℕ) (b : Bool) → same_name name n ≡ b → f name ≡ Some k → f n ≡ or_at (f n) b at
old-by f name n at k true e h = or_at-some (f n) true at k (sym (ap f (same_name-same name n e)) ∙ h)
old-by f name n at k false e h = or_at-false (f n) at

pub old-position : (f : Name → Option ℕ) (name n : Name) (at k : ℕ) → f name ≡ Some k → f n ≡ or_at (f n) (same_name name n) at
old-position f name n at k h = old-by f name n at k (same_name name n) refl h

-- the test of the code is the test of the definitions
pointwise-text : (s t : List ℕ) → pointwise ◌==◌ s t ≡ same_text s t
pointwise-text [] [] = refl
pointwise-text [] (y ∷ ys) = refl
pointwise-text (x ∷ xs) [] = refl
pointwise-text (x ∷ xs) (y ∷ ys) = ap (λ (b : Bool). (x == y) && b) (pointwise-text xs ys)

pub eq-is : (a b : Name) → eq-value.it a b ≡ same_name a b
eq-is (Number m) (Number n) = refl
eq-is (Number m) (Text t) = refl
eq-is (Text s) (Number n) = refl
eq-is (Text s) (Text t) = pointwise-text s t

lookup-by : {X : Type 0} (f g : Name → Bool) (es : List (Name × X)) → ((k : Name) → f k ≡ g k) → lookup f es ≡ lookup g es
lookup-by f g [] h = refl
lookup-by f g (e ∷ es) h = ap (λ (b : Bool). cond b (Some e.1) (lookup f es)) (h e.0) ∙ ap (λ (o : Option _). cond (g e.0) (Some e.1) o) (lookup-by f g es h)

-- a look-up by the code's test is one by the definitions'
pub lookup-is : {X : Type 0} (n : Name) (es : List (Name × X)) → lookup (eq-value.it n) es ≡ lookup (same_name n) es
lookup-is n es = lookup-by (eq-value.it n) (same_name n) es (eq-is n)

-- one item more in a table
pub first_where-next : {T : Type 0} (called : T → Name) (n : Name) (xs : List T) (i : ℕ) (x : T) (name : Name) → i < length xs → x ≡ get_or xs i x → name ≡ called x → (old new : Option ℕ) → old ≡ first_where (λ y. same_name (called y) n) (take i xs) → new ≡ or_at old (same_name name n) i → new ≡ first_where (λ y. same_name (called y) n) (take (i + 1) xs)
first_where-next called n xs i x name lt e is old new h u =
    let one : suc i ≡ i + 1 = omega arith in
    u
    ∙ ap (λ (o : Option ℕ). or_at o (same_name name n) i) h
    ∙ ap (λ (k : Name). or_at (first_where (λ y. same_name (called y) n) (take i xs)) (same_name k n) i) is
    ∙ sym (first_where-suc (λ y. same_name (called y) n) xs i x lt e)
    ∙ ap (λ (k : ℕ). first_where (λ y. same_name (called y) n) (take k xs)) one

within-by : (b : Bool) (o : Option ℕ) (i n : ℕ) → ((k : ℕ) → Some k ≡ o → k < n) → Some i ≡ (if b then Some 0 else option_map suc o) → i < suc n
within-by true o i n h e = let z : i ≡ 0 = cc in omega arith
within-by false None i n h e = absurd cc
within-by false (Some k) i n h e = let z : i ≡ suc k = cc in omega (arith, h k refl)

-- a position lies within the list
pub first_where-within : {A : Type 0} (test : A → Bool) (xs : List A) (i : ℕ) → Some i ≡ first_where test xs → i < length xs
first_where-within test [] i e = absurd cc
first_where-within test (x ∷ xs) i e = within-by (test x) (first_where test xs) i (length xs) (λ k h. first_where-within test xs k h) e

some-same : {A : Type 0} {x y : A} → Some x ≡ Some y → x ≡ y
some-same e = cc

-- what the table of one function more has
abbrev pub HasEach : List Function → List FunctionTable → Type 0
HasEach functions tables = (func : ℕ) (f : Function) (table : FunctionTable) → slice_get functions func ≡ Some f → slice_get tables func ≡ Some table → IsTableOf f table

slice_get-push : {A : Type 0} (xs : List A) (v : A) (i : ℕ) (w : A) → slice_get (xs ++ v ∷ []) i ≡ Some w → ((i ≡ length xs) × (w ≡ v)) ⊎ (slice_get xs i ≡ Some w)
slice_get-push [] v zero w h = inl (refl, cc)
slice_get-push [] v (suc i) w h = absurd cc
slice_get-push (x ∷ xs) v zero w h = inr h
slice_get-push (x ∷ xs) v (suc i) w h = elim (slice_get-push xs v i w h) [ inl p ↦ inl (ap suc p.0, p.1) | inr q ↦ inr q ]

pub length-more : {A : Type 0} (xs next : List A) (x : A) (at : ℕ) → length xs ≡ at → next ≡ xs ++ x ∷ [] → length next ≡ at + 1
length-more xs next x at e is = ap length is ∙ length-append xs (x ∷ []) ∙ ap (λ n. n + 1) e

pub each-more : (functions : List Function) (at : ℕ) (tables next : List FunctionTable) (function : Function) (table : FunctionTable) → at < length functions → function ≡ get_or functions at function → length tables ≡ at → next ≡ tables ++ table ∷ [] → IsTableOf function table → HasEach functions tables → HasEach functions next
each-more functions at tables next function table lt is len e has h func f t gf gt =
    let gt' : slice_get (tables ++ table ∷ []) func ≡ Some t = ap (λ (l : List FunctionTable). slice_get l func) (sym e) ∙ gt in
    elim (slice_get-push tables table func t gt') [
      | inl p ↦
          let at-is : func ≡ at = p.0 ∙ len in
          let got : slice_get functions func ≡ Some function = ap (slice_get functions) at-is ∙ slice_get-get_or functions at function lt ∙ ap Some (sym is) in
          let same : function ≡ f = some-same (sym got ∙ gf) in
          subst (λ (g : Function). IsTableOf g t) same (subst (λ (u : FunctionTable). IsTableOf function u) (sym p.1) has)
      | inr q ↦ h func f t gf q
    ]

pub mark-is : (m : Module) (tables : List FunctionTable) (func : ℕ) (f : Function) (table : FunctionTable) (name : ℕ) (mark : Bool) → HaveTables m.functions tables → slice_get m.functions func ≡ Some f → slice_get tables func ≡ Some table → slice_get table.markers name ≡ Some mark → mark ≡ has_markers (function_at m func) name
mark-is m tables func f table name mark h gf gt gm =
    (h.each func f table gf gt).markers.marks name mark gm ∙ ap (λ o. has_markers (unwrap_or o no_function) name) (sym gf)

-- the type of a name, by its position
type-none-by : (b : Bool) (o : Option ℕ) (t : Ty) (rest : Option Ty) → (None ≡ o → None ≡ rest) → None ≡ (if b then Some 0 else option_map suc o) → None ≡ (if b then Some t else rest)
type-none-by true o t rest h e = absurd cc
type-none-by false None t rest h e = h refl
type-none-by false (Some k) t rest h e = absurd cc

pub type_named-none : (ts : List TypeItem) (n : Name) → None ≡ first_where (λ t. same_name t.name n) ts → None ≡ type_named ts n
type_named-none [] n e = refl
type_named-none (t ∷ ts) n e = type-none-by (same_name t.name n) (first_where (λ u. same_name u.name n) ts) t.ty (type_named ts n) (type_named-none ts n) e

type-some-by : (b : Bool) (o : Option ℕ) (t : TypeItem) (ts : List TypeItem) (i : ℕ) (item : TypeItem) (rest : Option Ty) → ((k : ℕ) → Some k ≡ o → slice_get ts k ≡ Some item → Some item.ty ≡ rest) → Some i ≡ (if b then Some 0 else option_map suc o) → slice_get (t ∷ ts) i ≡ Some item → Some item.ty ≡ (if b then Some t.ty else rest)
type-some-by true o t ts zero item rest h e g = let s : t ≡ item = some-same g in ap (λ (x : TypeItem). Some x.ty) (sym s)
type-some-by true o t ts (suc i) item rest h e g = absurd cc
type-some-by false None t ts i item rest h e g = absurd cc
type-some-by false (Some k) t ts zero item rest h e g = absurd cc
type-some-by false (Some k) t ts (suc i) item rest h e g = let z : Some i ≡ Some k = cc in h i z g

pub type_named-some : (ts : List TypeItem) (n : Name) (i : ℕ) (item : TypeItem) → Some i ≡ first_where (λ t. same_name t.name n) ts → slice_get ts i ≡ Some item → Some item.ty ≡ type_named ts n
type_named-some [] n i item e g = absurd cc
type_named-some (t ∷ ts) n i item e g =
    type-some-by (same_name t.name n) (first_where (λ u. same_name u.name n) ts) t ts i item (type_named ts n) (λ k f j. type_named-some ts n k item f j) e g

there-by : {A : Type 0} (xs : List A) (i : ℕ) → i < length xs → None ≡ slice_get xs i → ⊥
there-by [] i lt e = omega arith
there-by (x ∷ xs) zero lt e = cc
there-by (x ∷ xs) (suc i) lt e = there-by xs i (omega arith) e

pub type_named-there : (ts : List TypeItem) (n : Name) (i : ℕ) → Some i ≡ first_where (λ t. same_name t.name n) ts → None ≡ slice_get ts i → ⊥
type_named-there ts n i e g = let lt = first_where-within (λ t. same_name t.name n) ts i e in there-by ts i lt g

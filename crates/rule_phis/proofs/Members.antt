-- Lists with the same members, and the edges of blocks.
use Rattle.std.proofs.Common.{◌≡◌, ◌<◌, ◌≤◌, ◌+◌, ℕ, zero, suc, Bool, true, false, ◌&&◌, List, [], ◌∷◌, ◌++◌, length, drop, get_or, drop-cons, add-one, map, filter, refl, ap, sym, ◌∙◌, arith, Option, Some, None}
use Rattle.std.specs.Prelude.{not, slice_get, slice_set, unwrap_or, ◌||◌, ◌==◌, if◌then◌else◌}
use Rattle.std.specs.List.{list_all, list_any}
use Rattle.std.proofs.lemmas.Bool.{eqb-true, eq-eqb, false≢true}
use Rattle.ir_base.specs.declared.outcome.Place.{Place}
use Rattle.rule_phis.specs.Edges.{block_at, breaks_by, breaks_edges, differs, first_wrong_edge, fits_edges, has, incoming_labels, into_block, is_empty, is_entry, leads, predecessors}
use Rattle.rule_phis.specs.Mentions.{case_edge, edges_from, is_edge}
use Rattle.ir_parts.specs.Contents.{ending_labels}
use Rattle.ir_parts.specs.Parts.{Part, Signature, Head, OfPhi, OfInstr, Ending, first_part, parts_of}
use Rattle.ir_model.specs.declared.instr.Case.{Case}
use Rattle.ir_model.specs.declared.instr.Incoming.{Incoming}
use Rattle.ir_model.specs.declared.module.Block.{Block}
use Rattle.ir_model.specs.declared.module.Function.{Function}

-- ---- tests

both-ways : (a b : Bool) → (a ≡ true → b ≡ true) → (b ≡ true → a ≡ true) → a ≡ b
both-ways true b f g = sym (f refl)
both-ways false true f g = g refl
both-ways false false f g = refl

all-head : (a b : Bool) → (a && b) ≡ true → a ≡ true
all-head true b e = refl
all-head false b e = e

all-rest : (a b : Bool) → (a && b) ≡ true → b ≡ true
all-rest true b e = e
all-rest false b e = absurd (false≢true e)

and-true : (a b : Bool) → a ≡ true → b ≡ true → (a && b) ≡ true
and-true true b e f = f
and-true false b e f = e

or-right : (a : Bool) → (a || true) ≡ true
or-right true = refl
or-right false = refl

or-later : (a b : Bool) → b ≡ true → (a || b) ≡ true
or-later a b e = ap (λ (x : Bool). a || x) e ∙ or-right a

or-turn : (a b c : Bool) → (b || (a || c)) ≡ ((a || b) || c)
or-turn true true c = refl
or-turn true false c = refl
or-turn false true c = refl
or-turn false false c = refl

-- ---- members

here : (x : ℕ) (xs : List ℕ) → has (x ∷ xs) x ≡ true
here x xs = ap (λ (b : Bool). b || has xs x) (eq-eqb x x refl)

member-by : (p : ℕ → Bool) (x n : ℕ) (b c : Bool) → (x == n) ≡ b → p x ≡ true → (c ≡ true → p n ≡ true) → (b || c) ≡ true → p n ≡ true
member-by p x n true c e h g m = sym (ap p (eqb-true x n e)) ∙ h
member-by p x n false c e h g m = g m

member : (p : ℕ → Bool) (xs : List ℕ) (n : ℕ) → list_all p xs ≡ true → has xs n ≡ true → p n ≡ true
member p [] n e m = absurd (false≢true m)
member p (x ∷ xs) n e m = member-by p x n (x == n) (has xs n) refl (all-head (p x) (list_all p xs) e) (λ h. member p xs n (all-rest (p x) (list_all p xs) e) h) m

all-by : (p : ℕ → Bool) (xs : List ℕ) → ((n : ℕ) → has xs n ≡ true → p n ≡ true) → list_all p xs ≡ true
all-by p [] h = refl
all-by p (x ∷ xs) h = and-true (p x) (list_all p xs) (h x (here x xs)) (all-by p xs (λ n m. h n (or-later (x == n) (has xs n) m)))

same-all : (p : ℕ → Bool) (xs ys : List ℕ) → ((n : ℕ) → has xs n ≡ has ys n) → list_all p xs ≡ list_all p ys
same-all p xs ys h =
    both-ways (list_all p xs) (list_all p ys) (λ e. all-by p ys (λ n m. member p xs n e (h n ∙ m))) (λ e. all-by p xs (λ n m. member p ys n e (sym (h n) ∙ m)))

same-empty : (xs ys : List ℕ) → ((n : ℕ) → has xs n ≡ has ys n) → is_empty xs ≡ is_empty ys
same-empty [] [] h = refl
same-empty [] (y ∷ ys) h = absurd (false≢true (h y ∙ here y ys))
same-empty (x ∷ xs) [] h = absurd (false≢true (sym (h x) ∙ here x xs))
same-empty (x ∷ xs) (y ∷ ys) h = refl

same-fits : (xs ys : List ℕ) (incoming : List Incoming) → ((n : ℕ) → has xs n ≡ has ys n) → fits_edges xs incoming ≡ fits_edges ys incoming
same-fits xs ys incoming h =
    let same : has xs ≡ has ys = λ i n. h n i in
    let rest : List ℕ → Bool = λ (l : List ℕ). list_all (has l) (incoming_labels incoming) && not (list_any (differs incoming) incoming) in
    ap (λ (b : Bool). b && (list_all (has xs) (incoming_labels incoming) && not (list_any (differs incoming) incoming))) (same-all (has (incoming_labels incoming)) xs ys h)
    ∙ ap (λ (m : ℕ → Bool). list_all (has (incoming_labels incoming)) ys && (list_all m (incoming_labels incoming) && not (list_any (differs incoming) incoming))) same

into-by : (s t : ℕ → List ℕ) (o : Option Block) → ((k n : ℕ) → has (s k) n ≡ has (t k) n) → (n : ℕ) → has (into_block s o) n ≡ has (into_block t o) n
into-by s t None h n = refl
into-by s t (Some b) h n = h b.label n

breaks-same : (s t : ℕ → List ℕ) (f : Function) (place : Place) (part : Part) → ((k n : ℕ) → has (s k) n ≡ has (t k) n) → breaks_by s f place part ≡ breaks_by t f place part
breaks-same s t f place (Signature g) h = refl
breaks-same s t f place (Head b) h = ap (λ (e : Bool). is_entry place.block && not e) (same-empty (s b.label) (t b.label) (h b.label))
breaks-same s t f place (OfPhi p) h =
    ap not (same-fits (into_block s (block_at f place.block)) (into_block t (block_at f place.block)) p.incoming (into-by s t (block_at f place.block) h))
breaks-same s t f place (OfInstr i) h = refl
breaks-same s t f place (Ending e) h = refl

pub wrong_by_table : (k : ℕ) (f : Function) (s : ℕ → List ℕ) → ((k n : ℕ) → has (s k) n ≡ has (predecessors f k) n) → first_part (breaks_by s f) (parts_of k f) ≡ first_wrong_edge k f
wrong_by_table k f s h =
    let same : breaks_by s f ≡ breaks_edges f = λ i place part. breaks-same s (predecessors f) f place part h i in
    ap (λ (b : Place → Part → Bool). first_part b (parts_of k f)) same

-- ---- predecessors

and-or : (a b c : Bool) → ((a && c) || (b && c)) ≡ ((a || b) && c)
and-or true true true = refl
and-or true true false = refl
and-or true false true = refl
and-or true false false = refl
and-or false true true = refl
and-or false true false = refl
and-or false false c = refl

any-and : (f : ℕ → Bool) (c : Bool) (xs : List ℕ) → list_any (λ l. f l && c) xs ≡ (list_any f xs && c)
any-and f c [] = refl
any-and f c (x ∷ xs) = ap (λ (b : Bool). (f x && c) || b) (any-and f c xs) ∙ and-or (f x) (list_any f xs) c

chosen : (b : Bool) (x : Block) (rest : List Block) (n : ℕ) → has (map (λ (y : Block). y.label) (if b then x ∷ rest else rest)) n ≡ ((b && (x.label == n)) || has (map (λ (y : Block). y.label) rest) n)
chosen true x rest n = refl
chosen false x rest n = refl

pub predecessors-are : (bs : List Block) (k n : ℕ) → has (map (λ b. b.label) (filter (leads k) bs)) n ≡ list_any (λ b. edges_from b k n) bs
predecessors-are [] k n = refl
predecessors-are (b ∷ bs) k n =
    chosen (leads k b) b (filter (leads k) bs) n
    ∙ ap (λ (x : Bool). x || has (map (λ (y : Block). y.label) (filter (leads k) bs)) n) (sym (any-and (λ l. l == k) (b.label == n) (ending_labels b.term)))
    ∙ ap (λ (x : Bool). edges_from b k n || x) (predecessors-are bs k n)

-- ---- walks

past : {A : Type 0} (xs : List A) (i : ℕ) → length xs ≤ i → drop i xs ≡ []
past [] zero le = refl
past [] (suc i) le = refl
past (x ∷ xs) zero le = absurd (omega arith)
past (x ∷ xs) (suc i) le = past xs i (omega arith)

pub one_more : {A : Type 0} (one : A → ℕ → ℕ → Bool) (xs : List A) (i : ℕ) (x : A) (old new all : ℕ → ℕ → Bool) → i < length xs → x ≡ get_or xs i x → ((k n : ℕ) → new k n ≡ (one x k n || old k n)) → ((k n : ℕ) → (list_any (λ y. one y k n) (drop i xs) || old k n) ≡ all k n) → (k n : ℕ) → (list_any (λ y. one y k n) (drop (i + 1) xs) || new k n) ≡ all k n
one_more one xs i x old new all lt is step inv k n =
    let f : _ → Bool = λ y. one y k n in
    ap (λ (b : Bool). list_any f (drop (i + 1) xs) || b) (step k n)
    ∙ or-turn (one x k n) (list_any f (drop (i + 1) xs)) (old k n)
    ∙ ap (λ (j : ℕ). (one x k n || list_any f (drop j xs)) || old k n) (add-one i)
    ∙ ap (λ y. (one y k n || list_any f (drop (suc i) xs)) || old k n) is
    ∙ sym (ap (λ (l : List _). list_any f l || old k n) (drop-cons xs i x lt))
    ∙ inv k n

pub all_noted : {A : Type 0} (one : A → ℕ → ℕ → Bool) (xs : List A) (i : ℕ) (old all : ℕ → ℕ → Bool) → length xs ≤ i → ((k n : ℕ) → (list_any (λ y. one y k n) (drop i xs) || old k n) ≡ all k n) → (k n : ℕ) → old k n ≡ all k n
all_noted one xs i old all le inv k n = sym (ap (λ (l : List _). list_any (λ y. one y k n) l || old k n) (past xs i le)) ∙ inv k n

-- an edge and then edges
pub two_notes : (a b old mid new : ℕ → ℕ → Bool) → ((k n : ℕ) → mid k n ≡ (a k n || old k n)) → ((k n : ℕ) → new k n ≡ (b k n || mid k n)) → (k n : ℕ) → new k n ≡ ((a k n || b k n) || old k n)
two_notes a b old mid new h g k n = g k n ∙ ap (λ (x : Bool). b k n || x) (h k n) ∙ or-turn (a k n) (b k n) (old k n)

pub any-map : {A : Type 0} (f : ℕ → Bool) (g : A → ℕ) (xs : List A) → list_any (λ x. f (g x)) xs ≡ list_any f (map g xs)
any-map f g [] = refl
any-map f g (x ∷ xs) = ap (λ (b : Bool). f (g x) || b) (any-map f g xs)

pub or-false : (b : Bool) → (b || false) ≡ b
or-false true = refl
or-false false = refl

-- ---- one edge

pub at-end : (xs : List ℕ) (i x : ℕ) → i < length xs → x ≡ get_or xs i 0 → has xs x ≡ true
at-end [] i x lt e = absurd (omega arith)
at-end (y ∷ ys) zero x lt e = ap (λ (b : Bool). b || has ys x) (eq-eqb y x (sym e))
at-end (y ∷ ys) (suc i) x lt e = or-later (y == x) (has ys x) (at-end ys i x (omega arith) e)

known-by : (s : ℕ → List ℕ) (from label k n : ℕ) (b c : Bool) → (label == k) ≡ b → (from == n) ≡ c → has (s label) from ≡ true → has (s k) n ≡ ((b && c) || has (s k) n)
known-by s from label k n true true e f h = ap (λ (j : ℕ). has (s j) n) (sym (eqb-true label k e)) ∙ ap (has (s label)) (sym (eqb-true from n f)) ∙ h
known-by s from label k n true false e f h = refl
known-by s from label k n false c e f h = refl

-- an edge that is noted already
pub known_edge : (s : ℕ → List ℕ) (from label : ℕ) → has (s label) from ≡ true → (k n : ℕ) → has (s k) n ≡ (is_edge from label k n || has (s k) n)
known_edge s from label h k n = known-by s from label k n (label == k) (from == n) refl refl h

has-append : (xs : List ℕ) (x n : ℕ) → has (xs ++ x ∷ []) n ≡ ((x == n) || has xs n)
has-append [] x n = refl
has-append (y ∷ ys) x n = ap (λ (b : Bool). (y == n) || b) (has-append ys x n) ∙ or-swap (x == n) (y == n) (has ys n)
  where
    or-swap : (a b c : Bool) → (b || (a || c)) ≡ (a || (b || c))
    or-swap true true c = refl
    or-swap true false c = refl
    or-swap false b c = refl

neqb : (a b : ℕ) → (a ≡ b → ⊥) → (a == b) ≡ false
neqb a b h = by (a == b) refl
  where
    by : (r : Bool) → (a == b) ≡ r → (a == b) ≡ false
    by true e = absurd (h (eqb-true a b e))
    by false e = e

eqb-suc : (n k : ℕ) → (n == k) ≡ (suc n == suc k)
eqb-suc n k = by (n == k) refl
  where
    by : (r : Bool) → (n == k) ≡ r → (n == k) ≡ (suc n == suc k)
    by true e = e ∙ sym (eq-eqb (suc n) (suc k) (ap suc (eqb-true n k e)))
    by false e = e ∙ sym (neqb (suc n) (suc k) (λ same. false≢true (sym e ∙ eq-eqb n k (omega (arith, same)))))

other : (label k from n : ℕ) (b : Bool) → (label == k) ≡ false → b ≡ (((label == k) && (from == n)) || b)
other label k from n b e = ap (λ (x : Bool). (x && (from == n)) || b) (sym e)

-- a list with one more at a position
pub new_edge : (lists : List (List ℕ)) (label from : ℕ) (l : List ℕ) → label < length lists → l ≡ unwrap_or (slice_get lists label) [] ++ from ∷ [] → (k n : ℕ) → has (unwrap_or (slice_get (slice_set lists label l) k) []) n ≡ (is_edge from label k n || has (unwrap_or (slice_get lists k) []) n)
new_edge [] label from l lt e k n = absurd (omega arith)
new_edge (x ∷ xs) zero from l lt e zero n = ap (λ (m : List ℕ). has m n) e ∙ has-append x from n
new_edge (x ∷ xs) zero from l lt e (suc k) n = other 0 (suc k) from n (has (unwrap_or (slice_get xs k) []) n) (neqb 0 (suc k) (omega arith))
new_edge (x ∷ xs) (suc label) from l lt e zero n = other (suc label) 0 from n (has x n) (neqb (suc label) 0 (omega arith))
new_edge (x ∷ xs) (suc label) from l lt e (suc k) n =
    new_edge xs label from l (omega arith) e k n ∙ ap (λ (b : Bool). (b && (from == n)) || has (unwrap_or (slice_get xs k) []) n) (eqb-suc label k)

-- ---- lists by position

pub list_there : (items got : List (List ℕ)) (k : ℕ) (x : List ℕ) → got ≡ items → slice_get got k ≡ Some x → x ≡ unwrap_or (slice_get items k) []
list_there items got k x e h = sym (ap (λ (o : Option (List ℕ)). unwrap_or o []) (sym (ap (λ (l : List (List ℕ)). slice_get l k) e) ∙ h))

pub list_past : (items got : List (List ℕ)) (k : ℕ) → got ≡ items → slice_get got k ≡ None → [] ≡ unwrap_or (slice_get items k) []
list_past items got k e h = sym (ap (λ (o : Option (List ℕ)). unwrap_or o []) (sym (ap (λ (l : List (List ℕ)). slice_get l k) e) ∙ h))

-- ---- the whole table

pub switch_noted : (from default : ℕ) (cases : List Case) (old mid new : ℕ → ℕ → Bool) → ((k n : ℕ) → mid k n ≡ (is_edge from default k n || old k n)) → ((k n : ℕ) → new k n ≡ (list_any (case_edge from k n) cases || mid k n)) → (k n : ℕ) → new k n ≡ (list_any (λ l. is_edge from l k n) (default ∷ map (λ c. c.target) cases) || old k n)
switch_noted from default cases old mid new h g k n =
    two_notes (is_edge from default) (λ i j. list_any (case_edge from i j) cases) old mid new h g k n
    ∙ ap (λ (b : Bool). (is_edge from default k n || b) || old k n) (any-map (λ l. is_edge from l k n) (λ (c : Case). c.target) cases)

pub sources_done : (f : Function) (blocks : List Block) (old : ℕ → List ℕ) (new : ℕ → ℕ → Bool) → blocks ≡ f.blocks → ((k : ℕ) → old k ≡ []) → ((k n : ℕ) → new k n ≡ (list_any (λ b. edges_from b k n) blocks || has (old k) n)) → (k n : ℕ) → new k n ≡ has (predecessors f k) n
sources_done f blocks old new e h g k n =
    g k n
    ∙ ap (λ (l : List ℕ). list_any (λ b. edges_from b k n) blocks || has l n) (h k)
    ∙ or-false (list_any (λ b. edges_from b k n) blocks)
    ∙ ap (λ (l : List Block). list_any (λ b. edges_from b k n) l) e
    ∙ sym (predecessors-are f.blocks k n)

-- Which edges have blocks, and the tables of them.
use Rattle.std.proofs.Common.{◌≡◌, ℕ, zero, suc, ◌+◌, ◌<◌, ◌⊎◌, inl, inr, Bool, true, false, List, [], ◌∷◌, ◌++◌, length, refl, sym, ap, ◌∙◌, subst, arith}
use Rattle.std.proofs.lemmas.Option.{slice_get_within}
use Rattle.std.specs.List.{list_any}
use Rattle.std.specs.Prelude.{Some, filter, replicate, slice_get, slice_set, unwrap_or, if◌then◌else◌, ◌==◌}
use Rattle.pass_edges.specs.Edges.{block_edges, edges_at, edges_by, edges_of, ends_in_suspend, flagged_by, has_phis, phi_flags, with_edge, with_edges}
use Rattle.pass_edges.specs.declared.edge.Edge.{Edge}
use Rattle.ir_model.specs.Names.{position_of}
use Rattle.ir_model.specs.declared.module.Block.{Block}
use Rattle.ir_model.specs.declared.module.Function.{Function}
use Rattle.pass_early_proof.proofs.ir_paths.Search.{either, eq_from, eq_itself}
use Rattle.pass_early_proof.specs.ir_paths.Paths.{targets}
use Rattle.pass_early_proof.proofs.ir_laws.facts.Lists.{get_behind, get_front}
use Rattle.pass_early_proof.proofs.ir_laws.facts.Members.{at_each as each_at}
use Rattle.pass_edges_proof.proofs.edges.paths.Blocks.{number, own_number}
use Rattle.pass_edges_proof.proofs.edges.paths.Legs.{AreNumbered, term_numbered, term_split}
use Rattle.pass_edges_proof.specs.edges.paths.Labels.{AreSplit, IsAmong, IsSplit}
use Rattle.pass_early_proof.specs.ir_laws.paths.threads.Labels.{HasLabelsBelow, HasNamedLabels}
use Rattle.pass_edges_proof.specs.edges.paths.Phis.{AreLabelsOnce, ComesFrom}
use Rattle.pass_edges_proof.specs.edges.paths.Spots.{behind_edges, table_of}

-- ---- elements that are set

set_same : {A : Type 0} (xs : List A) (i : ℕ) (v d : A) → i < length xs → unwrap_or (slice_get (slice_set xs i v) i) d ≡ v
set_same [] i v d lt = absurd (omega arith)
set_same (x ∷ xs) zero v d lt = refl
set_same (x ∷ xs) (suc i) v d lt = set_same xs i v d (omega arith)

set_other : {A : Type 0} (xs : List A) (i j : ℕ) (v d : A) → (i ≡ j → ⊥) → unwrap_or (slice_get (slice_set xs i v) j) d ≡ unwrap_or (slice_get xs j) d
set_other [] i j v d h = refl
set_other (x ∷ xs) zero zero v d h = absurd (h refl)
set_other (x ∷ xs) zero (suc j) v d h = refl
set_other (x ∷ xs) (suc i) zero v d h = refl
set_other (x ∷ xs) (suc i) (suc j) v d h = set_other xs i j v d (λ e. h (ap suc e))

length_set : {A : Type 0} (xs : List A) (i : ℕ) (v : A) → length (slice_set xs i v) ≡ length xs
length_set [] i v = refl
length_set (x ∷ xs) zero v = refl
length_set (x ∷ xs) (suc i) v = ap suc (length_set xs i v)

same_everywhere : {A : Type 0} (n i : ℕ) (d : A) → unwrap_or (slice_get (replicate n d) i) d ≡ d
same_everywhere zero i d = refl
same_everywhere (suc n) zero d = refl
same_everywhere (suc n) (suc i) d = same_everywhere n i d

length_same : {A : Type 0} (n : ℕ) (d : A) → length (replicate n d) ≡ n
length_same zero d = refl
length_same (suc n) d = ap suc (length_same n d)

-- ---- whether a label's block has phis

abbrev AreApart : List Block → Type 0
AreApart bs = (i j : ℕ) (b c : Block) → slice_get bs i ≡ Some b → slice_get bs j ≡ Some c → b.label ≡ c.label → i ≡ j

pub labels_apart : (f : Function) → AreLabelsOnce f → AreApart f.blocks
labels_apart f once i j b c e d s = sym (once i b e) ∙ ap (position_of f) s ∙ once j c d

flags_stay : (flags : List Bool) (bs : List Block) (l : ℕ) → ((i : ℕ) (b : Block) → slice_get bs i ≡ Some b → b.label ≡ l → ⊥) → unwrap_or (slice_get (flagged_by flags bs) l) false ≡ unwrap_or (slice_get flags l) false
flags_stay flags [] l h = refl
flags_stay flags (b ∷ bs) l h =
    flags_stay (slice_set flags b.label (has_phis b.phis)) bs l (λ i c e. h (suc i) c e)
    ∙ set_other flags b.label l (has_phis b.phis) false (h 0 b refl)

flag_set : (flags : List Bool) (bs : List Block) (k : ℕ) (b : Block) → AreApart bs → slice_get bs k ≡ Some b → b.label < length flags → unwrap_or (slice_get (flagged_by flags bs) b.label) false ≡ has_phis b.phis
flag_set flags [] k b apart e lt = absurd (cc)
flag_set flags (c ∷ bs) zero b apart e lt = on (cc)
  where
    on : c ≡ b → unwrap_or (slice_get (flagged_by (slice_set flags c.label (has_phis c.phis)) bs) b.label) false ≡ has_phis b.phis
    on s =
        flags_stay (slice_set flags c.label (has_phis c.phis)) bs b.label (λ i x d same. let z = apart (suc i) 0 x c d refl (same ∙ ap (λ (y : Block). y.label) (sym s)) in absurd (omega (arith, z)))
        ∙ ap (λ (x : Block). unwrap_or (slice_get (slice_set flags x.label (has_phis x.phis)) b.label) false) s
        ∙ set_same flags b.label (has_phis b.phis) false lt
flag_set flags (c ∷ bs) (suc k) b apart e lt =
    let len = length_set flags c.label (has_phis c.phis) in
    flag_set (slice_set flags c.label (has_phis c.phis)) bs k b (λ i j x y d g s. let z = apart (suc i) (suc j) x y d g s in omega (arith, z)) e (omega (arith, len, lt))

-- a label is flagged exactly where its block has phis
pub flag_at : (f : Function) → AreLabelsOnce f → HasNamedLabels f → (k : ℕ) (b : Block) → slice_get f.blocks k ≡ Some b → unwrap_or (slice_get (phi_flags f) b.label) false ≡ has_phis b.phis
flag_at f once named k b e =
    let len = length_same (length f.names) false in
    let lt = (each_at (HasLabelsBelow (length f.names)) f.blocks k b named e).label in
    flag_set (replicate (length f.names) false) f.blocks k b (labels_apart f once) e (omega (arith, len, lt))

-- ---- edges by their targets

append_once : (xs : List Edge) (e : Edge) (ys : List Edge) → (xs ++ e ∷ []) ++ ys ≡ xs ++ e ∷ ys
append_once [] e ys = refl
append_once (x ∷ xs) e ys = ap (λ (zs : List Edge). x ∷ zs) (append_once xs e ys)

none_behind : (xs : List Edge) → xs ≡ xs ++ []
none_behind [] = refl
none_behind (x ∷ xs) = ap (λ (zs : List Edge). x ∷ zs) (none_behind xs)

abbrev pub leads_to : ℕ → Edge → Bool
leads_to t e = e.target == t

table_grows : (table : List (List Edge)) (es : List Edge) (t : ℕ) → t < length table → edges_at (with_edges table es) t ≡ edges_at table t ++ filter (leads_to t) es
table_grows table [] t lt = none_behind (edges_at table t)
table_grows table (e ∷ es) t lt =
    table_grows (with_edge table e) es t (let len = length_set table e.target (edges_at table e.target ++ e ∷ []) in omega (arith, len, lt))
    ∙ on (e.target == t) refl
  where
    on : (b : Bool) → (e.target == t) ≡ b → edges_at (with_edge table e) t ++ filter (leads_to t) es ≡ edges_at table t ++ (if b then e ∷ filter (leads_to t) es else filter (leads_to t) es)
    on true s =
        let same = eq_from e.target t s in
        ap (λ (xs : List Edge). xs ++ filter (leads_to t) es)
        (ap (λ (k : ℕ). edges_at (slice_set table k (edges_at table k ++ e ∷ [])) t) same ∙ set_same table t (edges_at table t ++ e ∷ []) [] lt)
        ∙ append_once (edges_at table t) e (filter (leads_to t) es)
    on false s = ap (λ (xs : List Edge). xs ++ filter (leads_to t) es) (set_other table e.target t (edges_at table e.target ++ e ∷ []) [] (λ d. let no = ap (λ (k : ℕ). k == t) d ∙ eq_itself t in cc))

pub table_at : (f : Function) (t : ℕ) → t < length f.names → edges_at (table_of f) t ≡ filter (leads_to t) (edges_of (phi_flags f) f)
table_at f t lt =
    let len = length_same {A = List Edge} (length f.names) [] in
    table_grows (replicate (length f.names) []) (edges_of (phi_flags f) f) t (omega (arith, len, lt))
    ∙ ap (λ (xs : List Edge). xs ++ filter (leads_to t) (edges_of (phi_flags f) f)) (same_everywhere (length f.names) t [])

-- ---- what is among edges

pub among_front : (xs ys : List Edge) (e : Edge) → IsAmong xs e → IsAmong (xs ++ ys) e
among_front xs ys e a = record { at = a.at; got = get_front xs ys a.at (slice_get_within xs a.at e a.got) ∙ a.got }

pub among_behind : (xs ys : List Edge) (e : Edge) → IsAmong ys e → IsAmong (xs ++ ys) e
among_behind xs ys e a = record { at = length xs + a.at; got = get_behind xs ys a.at ∙ a.got }

pub among_filter : (test : Edge → Bool) (xs : List Edge) (e : Edge) → test e ≡ true → IsAmong xs e → IsAmong (filter test xs) e
among_filter test xs e h a = from xs a.at a.got
  where
    from : (xs : List Edge) (i : ℕ) → slice_get xs i ≡ Some e → IsAmong (filter test xs) e
    from [] i s = absurd (cc)
    from (x ∷ xs) zero s = on (cc)
      where
        on : x ≡ e → IsAmong (if test x then x ∷ filter test xs else filter test xs) e
        on d =
            subst (λ (b : Bool). IsAmong (if b then x ∷ filter test xs else filter test xs) e) (sym (ap test d ∙ h))
            (record { at = 0; got = ap (λ (y : Edge). Some y) d })
    from (x ∷ xs) (suc i) s = on (test x) (from xs i s)
      where
        on : (b : Bool) → IsAmong (filter test xs) e → IsAmong (if b then x ∷ filter test xs else filter test xs) e
        on true again = among_behind (x ∷ []) (filter test xs) e again
        on false again = again

pub filter_among : (test : Edge → Bool) (xs : List Edge) (e : Edge) → IsAmong (filter test xs) e → IsAmong xs e
filter_among test [] e a = let s = a.got in absurd (cc)
filter_among test (x ∷ xs) e a = on (test x) a (filter_among test xs e)
  where
    on : (b : Bool) → IsAmong (if b then x ∷ filter test xs else filter test xs) e → (IsAmong (filter test xs) e → IsAmong xs e) → IsAmong (x ∷ xs) e
    on true a again = first a.at a.got
      where
        first : (i : ℕ) → slice_get (x ∷ filter test xs) i ≡ Some e → IsAmong (x ∷ xs) e
        first zero s = record { at = 0; got = s }
        first (suc i) s = among_behind (x ∷ []) xs e (again (record { at = i; got = s }))
    on false a again = among_behind (x ∷ []) xs e (again a)

-- the edges of a block are among those of the function
pub edge_among : (flags : List Bool) (table : List (List Edge)) (k n : ℕ) (bs : List Block) (b : Block) (e : Edge) → slice_get bs k ≡ Some b → IsAmong (block_edges flags (number flags table k n bs) b) e → IsAmong (edges_by flags n bs) e
edge_among flags table k n [] b e s a = absurd (cc)
edge_among flags table zero n (c ∷ bs) b e s a = on (cc)
  where
    on : c ≡ b → IsAmong (block_edges flags n c ++ edges_by flags (behind_edges flags n c) bs) e
    on d = among_front (block_edges flags n c) (edges_by flags (behind_edges flags n c) bs) e (subst (λ (x : Block). IsAmong (block_edges flags n x) e) (sym d) a)
edge_among flags table (suc k) n (c ∷ bs) b e s a =
    among_behind (block_edges flags n c) (edges_by flags (behind_edges flags n c) bs) e (edge_among flags table k (behind_edges flags n c) bs b e s a)

-- ---- labels of edges

abbrev pub AreLabelled : ℕ → List Edge → Type 0
AreLabelled n [] = Unit {0}
AreLabelled n (e ∷ es) = (e.label ≡ n) × AreLabelled (suc n) es

labelled : (from n : ℕ) (es : List Edge) → AreNumbered from n es → AreLabelled n es
labelled from n [] h = tt
labelled from n (e ∷ es) h = (h.1, labelled from (suc n) es h.2)

labelled_append : (n : ℕ) (xs ys : List Edge) → AreLabelled n xs → AreLabelled (n + length xs) ys → AreLabelled n (xs ++ ys)
labelled_append n [] ys h k = let z : n + 0 ≡ n = omega arith in subst (λ (j : ℕ). AreLabelled j ys) z k
labelled_append n (x ∷ xs) ys h k = let z : n + suc (length xs) ≡ suc n + length xs = omega arith in (h.0, labelled_append (suc n) xs ys h.1 (subst (λ (j : ℕ). AreLabelled j ys) z k))

pub all_labelled : (flags : List Bool) (n : ℕ) (bs : List Block) → AreLabelled n (edges_by flags n bs)
all_labelled flags n [] = tt
all_labelled flags n (b ∷ bs) =
    labelled_append n (block_edges flags n b) (edges_by flags (n + length (block_edges flags n b)) bs)
    (labelled b.label n (block_edges flags n b) (term_numbered flags b.label (ends_in_suspend b.instrs) n b.term))
    (all_labelled flags (n + length (block_edges flags n b)) bs)

label_at : (n : ℕ) (es : List Edge) → AreLabelled n es → (i : ℕ) (e : Edge) → slice_get es i ≡ Some e → e.label ≡ n + i
label_at n [] h i e s = absurd (cc)
label_at n (x ∷ es) h zero e s = on (cc)
  where
    on : x ≡ e → e.label ≡ n + 0
    on d = let z : n ≡ n + 0 = omega arith in sym (ap (λ (y : Edge). y.label) d) ∙ h.0 ∙ z
label_at n (x ∷ es) h (suc i) e s = let again = label_at (suc n) es h.1 i e s in let z : suc n + i ≡ n + suc i = omega arith in again ∙ z

some-same : (a b : Edge) → Some a ≡ Some b → a ≡ b
some-same a b e = cc

-- edges of the function with one label are one edge
pub one_edge : (f : Function) (e d : Edge) → IsAmong (edges_of (phi_flags f) f) e → IsAmong (edges_of (phi_flags f) f) d → e.label ≡ d.label → e ≡ d
one_edge f e d a b s =
    let all = all_labelled (phi_flags f) (length f.names) f.blocks in
    let x = label_at (length f.names) (edges_of (phi_flags f) f) all a.at e a.got in
    let y = label_at (length f.names) (edges_of (phi_flags f) f) all b.at d b.got in
    let same : a.at ≡ b.at = omega (arith, x, y, s) in
    some-same e d (sym a.got ∙ ap (slice_get (edges_of (phi_flags f) f)) same ∙ b.got)

-- ---- an edge to a block with phis has a block

target_split : (flags : List Bool) (from : ℕ) (es : List Edge) (ts ls : List ℕ) → AreSplit flags from es ts ls → (t : ℕ) → list_any (λ x. x == t) ts ≡ true → (l : ℕ) × IsSplit flags from es t l
target_split flags from es [] ls h t e = absurd (cc)
target_split flags from es (x ∷ ts) [] h t e = absurd h
target_split flags from es (x ∷ ts) (l ∷ ls) h t e = on (either (x == t) (list_any (λ y. y == t) ts) e) (target_split flags from es ts ls h.1 t)
  where
    on : ((x == t) ≡ true) ⊎ (list_any (λ y. y == t) ts ≡ true) → (list_any (λ y. y == t) ts ≡ true → (k : ℕ) × IsSplit flags from es t k) → (k : ℕ) × IsSplit flags from es t k
    on (inl s) again = (l, subst (λ (y : ℕ). IsSplit flags from es y l) (eq_from x t s) h.0)
    on (inr s) again = again s

-- the edge from a block to a label with phis, among those to that label
pub record IsSplitFrom (f : Function) (from label : ℕ) : Type 0 where
  pub edge : Edge
  pub is_from : edge.from ≡ from
  pub among : IsAmong (edges_at (table_of f) label) edge

pub split_from : (f : Function) (from label : ℕ) → label < length f.names → unwrap_or (slice_get (phi_flags f) label) false ≡ true → ComesFrom f from label → IsSplitFrom f from label
split_from f from label lt flagged c = on (target_split (phi_flags f) c.block.label own (targets c.block.term) _ (term_split (phi_flags f) c.block.label (ends_in_suspend c.block.instrs) (own_number f c.at) c.block.term) label c.leads)
  where
    own : List Edge
    own = block_edges (phi_flags f) (own_number f c.at) c.block

    on : (l : ℕ) × IsSplit (phi_flags f) c.block.label own label l → IsSplitFrom f from label
    on (l, inl d) = let no = d.1 in absurd (cc)
    on (l, inr a) = record {
      edge = record { from = c.block.label; target = label; label = l };
      is_from = c.is_label;
      among = subst (λ (es : List Edge). IsAmong es (record { from = c.block.label; target = label; label = l })) (sym (table_at f label lt))
          (among_filter (leads_to label) (edges_of (phi_flags f) f) (record { from = c.block.label; target = label; label = l }) (eq_itself label)
          (edge_among (phi_flags f) (table_of f) c.at (length f.names) f.blocks c.block (record { from = c.block.label; target = label; label = l }) c.got a));
    }

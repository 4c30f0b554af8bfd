-- The answers to one question over the edges of a function are the blocks on a way.
use Rattle.std.proofs.Common.{◌≡◌, ℕ, zero, suc, ◌+◌, ◌<◌, ◌≤◌, Bool, true, false, not, List, [], ◌∷◌, ◌++◌, length, map, Some, None, Option, refl, sym, ap, ◌∙◌, subst, ⊎_elim, inl, inr, arith}
use Rattle.std.specs.Prelude.{slice_get, option_map, unwrap_or, flat_map, IsTrue, IsFalse, ◌↔◌, ◌==◌}
use Rattle.std.specs.Int.{bit_at}
use Rattle.std.specs.List.{list_any}
use Rattle.std.proofs.lemmas.Bool.{eqb-true, eq-eqb, false≢true}
use Rattle.std.proofs.lemmas.Nat.Bits.{bit_at-zero}
use Rattle.std.proofs.lemmas.List.{length-map}
use Rattle.std.proofs.lemmas.Option.{slice_get-map}
use Rattle.flow_bits.specs.Bits.{HasBit}
use Rattle.flow_bits.specs.Reaching.{AnswersAt, Reaches, StartAt}
use Rattle.flow_bits.specs.Reaching.Reaches.{Start as AskedStart, Edge as AskedEdge}
use Rattle.flow_blocks.proofs.Elements.{listed_append, listed_map, map_listed}
use Rattle.elide_shape.proofs.EdgeBounds.{edge_bounded}
use Rattle.elide_sites.specs.Destroyed.{AreOn, IsLed, IsOn, has_at, has_in, is_free, is_odd, is_start, mark_at, marks_of, passes, passes_by, starts, target_if, targets_of, word_of}
use Rattle.elide_sites.specs.Destroyed.IsLed.{Start, Step}
use Rattle.elide_shape.specs.Edges.{edges_of}
use Rattle.elide_shape.specs.declared.edges.Edge.{Edge}
use Rattle.elide_sites.specs.declared.destroyed.Way.{Way}
use Rattle.flow_solver.proofs.Lists.{listed_at, place_of}
use Rattle.flow_solver.specs.Paths.{HasNodes, IsListed}
use Rattle.ir_model.specs.declared.instr.Instr.{Instr}
use Rattle.ir_model.specs.declared.module.Block.{Block}
use Rattle.ir_model.specs.declared.module.Function.{Function}

abbrev pub pair_of : Edge → ℕ × ℕ
pair_of e = (e.from, e.to)

abbrev pub asked_at : List ℕ → List (ℕ × ℕ)
asked_at all = map (λ (b : ℕ). (b, 1)) all

abbrev pub kept_of : Way → List Bool → List Edge → List ℕ
kept_of way frees es = map (λ (e : Edge). word_of (passes_by way frees e)) es

-- ---- marks

mark_by : (test : Instr → Bool) (o : Option Block) → unwrap_or (option_map (λ (b : Block). list_any test b.instrs) o) false ≡ has_in test o
mark_by test None = refl
mark_by test (Some b) = refl

pub mark_is : (test : Instr → Bool) (f : Function) (k : ℕ) → mark_at (marks_of test f) k ≡ has_at test f k
mark_is test f k = ap (λ (o : Option Bool). unwrap_or o false) (slice_get-map (λ (b : Block). list_any test b.instrs) f.blocks k) ∙ mark_by test (slice_get f.blocks k)

pub same_passes : (way : Way) (f : Function) (e : Edge) → passes_by way (marks_of is_free f) e ≡ passes way f e
same_passes Way.Calm f e = refl
same_passes Way.Unfreed f e = ap not (mark_is is_free f e.from)
same_passes Way.Destroyed f e = refl

-- ---- elements

some_by : {X Y : Type 0} (g : X → Y) (o : Option X) (y : Y) → option_map g o ≡ Some y → (x : X) × ((o ≡ Some x) × (y ≡ g x))
some_by g None y e = absurd (cc)
some_by g (Some x) y e = (x, (refl, cc))

from_map : {X Y : Type 0} (g : X → Y) (xs : List X) (i : ℕ) (y : Y) → slice_get (map g xs) i ≡ Some y → (x : X) × ((slice_get xs i ≡ Some x) × (y ≡ g x))
from_map g xs i y e = some_by g (slice_get xs i) y (sym (slice_get-map g xs i) ∙ e)

to_map : {X Y : Type 0} (g : X → Y) (xs : List X) (i : ℕ) (x : X) → slice_get xs i ≡ Some x → slice_get (map g xs) i ≡ Some (g x)
to_map g xs i x e = slice_get-map g xs i ∙ ap (option_map g) e

same_some : {X : Type 0} (a b : X) → Some a ≡ Some b → a ≡ b
same_some a b e = cc

-- ---- nodes

pub has_nodes : (f : Function) → HasNodes (length f.blocks + 1) (map pair_of (edges_of f))
has_nodes f i from to at =
    let found : (x : Edge) × ((slice_get (edges_of f) i ≡ Some x) × ((from, to) ≡ pair_of x)) = from_map pair_of (edges_of f) i (from, to) at in
    let bounds = edge_bounded f found.0 (listed_at (edges_of f) i found.0 found.1.0) in
    let lt = bounds.0 in (
      subst (λ n. n < length f.blocks + 1) (sym (ap (λ (p : ℕ × ℕ). p.0) found.1.1)) (omega (arith, lt)),
      subst (λ n. n < length f.blocks + 1) (sym (ap (λ (p : ℕ × ℕ). p.1) found.1.1)) bounds.1,
    )

target_if-is : (b : Bool) (e : Edge) (n : ℕ) → IsListed n (target_if b e) → n ≡ e.to
target_if-is true e n h = ⊎_elim (λ is. is) (λ none. absurd none) h
target_if-is false e n h = absurd h

target_listed : (way : Way) (es : List Edge) (n : ℕ) → IsListed n (targets_of way es) → (e : Edge) × (IsListed e es × (n ≡ e.to))
target_listed way [] n h = absurd h
target_listed way (e ∷ es) n h = ⊎_elim
    (λ here. (e, (inl refl, target_if-is (is_start way e.kind) e n here)))
    (λ later. let found = target_listed way es n later in (found.0, (inr found.1.0, found.1.1)))
    (listed_append n (target_if (is_start way e.kind) e) (targets_of way es) h)

target_bounded : (way : Way) (f : Function) (n : ℕ) → IsListed n (targets_of way (edges_of f)) → n < length f.blocks + 1
target_bounded way f n h =
    let found = target_listed way (edges_of f) n h in
    subst (λ m. m < length f.blocks + 1) (sym found.1.1) (edge_bounded f found.0 found.1.0).1

start_bounded : (way : Way) (f : Function) (n : ℕ) → IsListed n (starts way (edges_of f)) → n < length f.blocks + 1
start_bounded Way.Calm f n h = ⊎_elim (λ is. omega (arith, is)) (λ later. target_bounded Way.Calm f n later) h
start_bounded Way.Unfreed f n h = target_bounded Way.Unfreed f n h
start_bounded Way.Destroyed f n h = target_bounded Way.Destroyed f n h

pub starts_within : (way : Way) (f : Function) → StartAt (length f.blocks + 1) (asked_at (starts way (edges_of f)))
starts_within way f i node word at =
    let found : (b : ℕ) × ((slice_get (starts way (edges_of f)) i ≡ Some b) × ((node, word) ≡ (b, 1))) = from_map (λ (b : ℕ). (b, 1)) (starts way (edges_of f)) i (node, word) at in
    subst (λ n. n < length f.blocks + 1) (sym (ap (λ (p : ℕ × ℕ). p.0) found.1.1)) (start_bounded way f found.0 (listed_at (starts way (edges_of f)) i found.0 found.1.0))

-- ---- paths

no_bit : (word : ℕ) → word ≡ 0 → HasBit word 0 → ⊥
no_bit word is has = let none : HasBit 0 0 = subst (λ w. HasBit w 0) is has in let zero_bit = bit_at-zero 0 in omega (arith, none, zero_bit)

passes_with : (b : Bool) (word : ℕ) → word ≡ word_of b → HasBit word 0 → b ≡ true
passes_with true word is has = refl
passes_with false word is has = absurd (no_bit word is has)

has_with : (b : Bool) → b ≡ true → HasBit (word_of b) 0
has_with true e = refl
has_with false e = absurd (false≢true e)

module _ (way : Way) (f : Function) where
  abbrev kept_here : List ℕ
  kept_here = kept_of way (marks_of is_free f) (edges_of f)

  abbrev pairs_here : List (ℕ × ℕ)
  pairs_here = map pair_of (edges_of f)

  abbrev asked_here : List (ℕ × ℕ)
  asked_here = asked_at (starts way (edges_of f))

  to_path : (b : ℕ) → Reaches pairs_here kept_here asked_here 0 b → IsOn way f b
  to_path _ (AskedStart node word listed has) =
      let found : (b : ℕ) × (IsListed b (starts way (edges_of f)) × ((node, word) ≡ (b, 1))) = listed_map (λ (b : ℕ). (b, 1)) (node, word) (starts way (edges_of f)) listed in
      Start node (subst (λ x. IsListed x (starts way (edges_of f))) (sym (ap (λ (p : ℕ × ℕ). p.0) found.1.1)) found.1.0)
  to_path _ (AskedEdge i from to word at kept_is has before) =
      let found : (x : Edge) × ((slice_get (edges_of f) i ≡ Some x) × ((from, to) ≡ pair_of x)) = from_map pair_of (edges_of f) i (from, to) at in
      let e = found.0 in
      let word_is : word ≡ word_of (passes_by way (marks_of is_free f) e) = same_some word (word_of (passes_by way (marks_of is_free f) e)) (sym kept_is ∙ to_map (λ (x : Edge). word_of (passes_by way (marks_of is_free f) x)) (edges_of f) i e found.1.0) in
      subst (IsOn way f) (sym (ap (λ (p : ℕ × ℕ). p.1) found.1.1))
      (Step e
      (subst (IsOn way f) (ap (λ (p : ℕ × ℕ). p.0) found.1.1) (to_path from before))
      (listed_at (edges_of f) i e found.1.0)
      (sym (same_passes way f e) ∙ passes_with (passes_by way (marks_of is_free f) e) word word_is has))

  from_path : (b : ℕ) → IsOn way f b → Reaches pairs_here kept_here asked_here 0 b
  from_path _ (Start b listed) = AskedStart b 1 (map_listed (λ (x : ℕ). (x, 1)) b (starts way (edges_of f)) listed) refl
  from_path _ (Step e before listed taken) =
      let found = place_of (edges_of f) e listed in
      AskedEdge found.0 e.from e.to (word_of (passes_by way (marks_of is_free f) e))
      (to_map pair_of (edges_of f) found.0 e found.1)
      (to_map (λ (x : Edge). word_of (passes_by way (marks_of is_free f) x)) (edges_of f) found.0 e found.1)
      (has_with (passes_by way (marks_of is_free f) e) (same_passes way f e ∙ taken))
      (from_path e.from before)

  pub are_on : (words : List ℕ) → length words ≡ length f.blocks + 1 →
      ((node word : ℕ) → slice_get words node ≡ Some word → AnswersAt pairs_here kept_here asked_here node word) →
      AreOn way f (map is_odd words)
  are_on words len answers = record { count = length-map words is_odd ∙ len; each = each }
    where
      each : (b : ℕ) (is : Bool) → slice_get (map is_odd words) b ≡ Some is → IsTrue is ↔ IsOn way f b
      each b is at =
          let found : (w : ℕ) × ((slice_get words b ≡ Some w) × (is ≡ is_odd w)) = from_map is_odd words b is at in
          let answer = answers b found.0 found.1.0 in (
            (λ so. to_path b (answer.is_reached 0 (omega arith) (eqb-true (bit_at found.0 0) 1 (sym found.1.1 ∙ so)))),
            (λ path. found.1.1 ∙ eq-eqb (bit_at found.0 0) 1 (answer.is_told 0 (omega arith) (from_path b path))),
          )

-- ---- the same of a function's own values

pub nodes_are : (f : Function) (n nodes : ℕ) (edges : List Edge) (pairs : List (ℕ × ℕ)) → n ≡ length f.blocks → nodes ≡ n + 1 → edges ≡ edges_of f → pairs ≡ map pair_of edges → HasNodes nodes pairs
nodes_are f n nodes edges pairs len next is made =
    subst (λ k. HasNodes k pairs) (sym (next ∙ ap (λ k. k + 1) len))
    (subst (HasNodes (length f.blocks + 1)) (sym (made ∙ ap (map pair_of) is)) (has_nodes f))

pub starts_are : (way : Way) (f : Function) (n nodes : ℕ) (edges : List Edge) (begun : List ℕ) (asked : List (ℕ × ℕ)) → n ≡ length f.blocks → nodes ≡ n + 1 → edges ≡ edges_of f → begun ≡ starts way edges → asked ≡ asked_at begun → StartAt nodes asked
starts_are way f n nodes edges begun asked len next is begins made =
    subst (λ k. StartAt k asked) (sym (next ∙ ap (λ k. k + 1) len))
    (subst (StartAt (length f.blocks + 1)) (sym (made ∙ ap asked_at (begins ∙ ap (starts way) is))) (starts_within way f))

pub on_way : (way : Way) (f : Function) (n nodes : ℕ) (edges : List Edge) (frees : List Bool) (begun kept words : List ℕ) (pairs asked : List (ℕ × ℕ)) (led : List Bool) → n ≡ length f.blocks → nodes ≡ n + 1 → edges ≡ edges_of f → frees ≡ marks_of is_free f →
    pairs ≡ map pair_of edges → kept ≡ kept_of way frees edges → begun ≡ starts way edges → asked ≡ asked_at begun → length words ≡ nodes → ((node word : ℕ) → slice_get words node ≡ Some word → AnswersAt pairs kept asked node word) → led ≡ map is_odd words → AreOn way f led
on_way way f n nodes edges frees begun kept words pairs asked led len next is marks made_pairs made_kept begins made_asked count answers told =
    subst (AreOn way f) (sym told)
    (are_on way f words (count ∙ next ∙ ap (λ k. k + 1) len)
    (λ node word at.
    subst (λ p. AnswersAt p (kept_of way (marks_of is_free f) (edges_of f)) (asked_at (starts way (edges_of f))) node word) (made_pairs ∙ ap (map pair_of) is)
    (subst (λ k. AnswersAt pairs k (asked_at (starts way (edges_of f))) node word) (made_kept ∙ ap (λ (b : List Bool). kept_of way b edges) marks ∙ ap (kept_of way (marks_of is_free f)) is)
    (subst (λ a. AnswersAt pairs kept a node word) (made_asked ∙ ap asked_at (begins ∙ ap (starts way) is)) (answers node word at)))))

-- The blocks at the resume and destroy edges of suspends.
use Rattle.std.proofs.Common.{◌≡◌, ℕ, zero, suc, ◌+◌, ◌<◌, ◌≤◌, Bool, true, false, ◌||◌, ◌&&◌, List, [], ◌∷◌, ◌++◌, length, replicate, Some, refl, ap, sym, ◌∙◌, subst, ⊎_elim, arith, length-append}
use Rattle.std.specs.Prelude.{flat_map, slice_get, slice_set, unwrap_or, if◌then◌else◌, ◌==◌}
use Rattle.std.specs.List.{list_any}
use Rattle.std.proofs.lemmas.Bool.{cases_eq, eq-eqb, false≢true}
use Rattle.std.proofs.lemmas.List.{length-replicate, length-set}
use Rattle.std.proofs.lemmas.List.Folds.{list_any-append}
use Rattle.ir_model.specs.Names.{position_of}
use Rattle.ir_model.specs.declared.instr.Instr.{Instr}
use Rattle.ir_model.specs.declared.module.Block.{Block}
use Rattle.ir_model.specs.declared.module.Function.{Function}
use Rattle.ir_model.specs.declared.operand.Intrinsic.{Intrinsic}
use Rattle.flow_points.proofs.ir_paths.Search.{either, eq_from}
use Rattle.flow_points.specs.ir_paths.Paths.{entry_point, has_point, same_point}
use Rattle.flow_points.specs.ir_paths.Slots.{behind_suspends}
use Rattle.flow_points.specs.ir_paths.Windows.{destroy_label, is_call_of, label_at, label_of_term, points_from, points_in, resume_label}
use Rattle.flow_points.specs.ir_paths.declared.point.Point.{Point}
use Rattle.flow_points.proofs.Tests.{or-false, or_assoc, place_other, place_set}
use Rattle.flow_facts.specs.Slots.{AreEntered, entered_by, entered_with}

-- ---- marks of blocks

abbrev pub mark_at : List Bool → ℕ → Bool
mark_at marks k = unwrap_or (slice_get marks k) false

-- a suspend of the block has an edge to the block in this position
abbrev pub leads_to : Function → Block → ℕ → Bool
leads_to f b k = (k == position_of f (label_of_term 0 b.term)) || ((k == position_of f (label_of_term 1 b.term)) || false)

abbrev pub enters : Function → ℕ → Block → Bool
enters f k b = list_any (is_call_of Intrinsic.CoroSuspend) b.instrs && leads_to f b k

or-true : (a : Bool) → (a || true) ≡ true
or-true true = refl
or-true false = refl

mark-set : (marks : List Bool) (i k : ℕ) → i < length marks → mark_at (slice_set marks i true) k ≡ (mark_at marks k || (k == i))
mark-set marks i k lt = ⊎_elim
    (λ e. ap (λ n. mark_at (slice_set marks i true) n) e ∙ place_set marks i true false lt ∙ sym (ap (λ b. mark_at marks k || b) (eq-eqb k i e) ∙ or-true (mark_at marks k)))
    (λ ne. place_other marks i k true false ne ∙ sym (ap (λ b. mark_at marks k || b) (not-same (k == i) (λ h. ne (eq_from k i h))) ∙ or-false (mark_at marks k)))
    (cases_eq k i)
  where
    not-same : (b : Bool) → (b ≡ true → ⊥) → b ≡ false
    not-same true none = absurd (none refl)
    not-same false none = refl

mark-two : (a b c : Bool) → ((a || b) || c) ≡ (a || (b || (c || false)))
mark-two true b c = refl
mark-two false true c = refl
mark-two false false c = sym (or-false c)

with-by : (t : Bool) (f : Function) (b : Block) (entered : List Bool) (k : ℕ) → ((label : ℕ) → position_of f label < length entered) →
    mark_at (if t then slice_set (slice_set entered (position_of f (label_of_term 0 b.term)) true) (position_of f (label_of_term 1 b.term)) true else entered) k ≡ (mark_at entered k || (t && leads_to f b k))
with-by true f b entered k inside =
    let one = inside (label_of_term 0 b.term) in
    let two = inside (label_of_term 1 b.term) in
    let len = length-set entered (position_of f (label_of_term 0 b.term)) true in
    mark-set (slice_set entered (position_of f (label_of_term 0 b.term)) true) (position_of f (label_of_term 1 b.term)) k (omega (arith, two, len))
    ∙ ap (λ c. c || (k == position_of f (label_of_term 1 b.term))) (mark-set entered (position_of f (label_of_term 0 b.term)) k one)
    ∙ mark-two (mark_at entered k) (k == position_of f (label_of_term 0 b.term)) (k == position_of f (label_of_term 1 b.term))
with-by false f b entered k inside = sym (or-false (mark_at entered k))

length-by : (t : Bool) (i j : ℕ) (entered : List Bool) → length (if t then slice_set (slice_set entered i true) j true else entered) ≡ length entered
length-by true i j entered = length-set (slice_set entered i true) j true ∙ length-set entered i true
length-by false i j entered = refl

by-marks : (f : Function) (bs : List Block) (entered : List Bool) (k : ℕ) → ((label : ℕ) → position_of f label < length entered) →
    mark_at (entered_by f bs entered) k ≡ (mark_at entered k || list_any (enters f k) bs)
by-marks f [] entered k inside = sym (or-false (mark_at entered k))
by-marks f (b ∷ bs) entered k inside =
    by-marks f bs (entered_with f b entered) k
    (λ label. subst (λ n. position_of f label < n) (sym (length-by (list_any (is_call_of Intrinsic.CoroSuspend) b.instrs) (position_of f (label_of_term 0 b.term)) (position_of f (label_of_term 1 b.term)) entered)) (inside label))
    ∙ ap (λ c. c || list_any (enters f k) bs) (with-by (list_any (is_call_of Intrinsic.CoroSuspend) b.instrs) f b entered k inside)
    ∙ or_assoc (mark_at entered k) (enters f k b) (list_any (enters f k) bs)

blank : (n k : ℕ) → mark_at (replicate n false ++ false ∷ []) k ≡ false
blank zero zero = refl
blank zero (suc k) = refl
blank (suc n) zero = refl
blank (suc n) (suc k) = blank n k

-- ---- where the edges of suspends lead

abbrev edges_of : Function → Point → List Point
edges_of f s = entry_point f (resume_label f s) ∷ entry_point f (destroy_label f s) ∷ []

from-block : (test : Instr → Bool) (f : Function) (n at : ℕ) (is : List Instr) (q : Point) → has_point (flat_map (edges_of f) (points_from test n at is)) q ≡ (list_any test is && has_point (edges_of f (record { block = n; at = 0 })) q)
from-block test f n at [] q = refl
from-block test f n at (i ∷ is) q = on (test i) (from-block test f n (suc at) is q)
  where
    on : (b : Bool) → has_point (flat_map (edges_of f) (points_from test n (suc at) is)) q ≡ (list_any test is && has_point (edges_of f (record { block = n; at = 0 })) q) →
        has_point (flat_map (edges_of f) (if b then record { block = n; at = at } ∷ points_from test n (suc at) is else points_from test n (suc at) is)) q ≡ ((b || list_any test is) && has_point (edges_of f (record { block = n; at = 0 })) q)
    on true ih =
        list_any-append (same_point q) (edges_of f (record { block = n; at = at })) (flat_map (edges_of f) (points_from test n (suc at) is))
        ∙ ap (λ c. has_point (edges_of f (record { block = n; at = 0 })) q || c) ih
        ∙ absorb (has_point (edges_of f (record { block = n; at = 0 })) q) (list_any test is)
      where
        absorb : (c d : Bool) → (c || (d && c)) ≡ c
        absorb true d = refl
        absorb false true = refl
        absorb false false = refl
    on false ih = ih

edges-at : (f : Function) (n : ℕ) (b : Block) (k : ℕ) → slice_get f.blocks n ≡ Some b → has_point (edges_of f (record { block = n; at = 0 })) (record { block = k; at = 0 }) ≡ leads_to f b k
edges-at f n b k e =
    ap (λ o. has_point (entry_point f (label_at 0 o) ∷ entry_point f (label_at 1 o) ∷ []) (record { block = k; at = 0 })) e
    ∙ two (k == position_of f (label_of_term 0 b.term)) (k == position_of f (label_of_term 1 b.term))
  where
    two : (c d : Bool) → ((c && (0 == 0)) || ((d && (0 == 0)) || false)) ≡ (c || (d || false))
    two true d = refl
    two false true = refl
    two false false = refl

flat_map-append : (f : Function) (ps qs : List Point) → flat_map (edges_of f) (ps ++ qs) ≡ flat_map (edges_of f) ps ++ flat_map (edges_of f) qs
flat_map-append f [] qs = refl
flat_map-append f (p ∷ ps) qs = ap (λ (l : List Point). entry_point f (resume_label f p) ∷ entry_point f (destroy_label f p) ∷ l) (flat_map-append f ps qs)

in-blocks : (f : Function) (n : ℕ) (bs : List Block) (k : ℕ) → ((i : ℕ) (b : Block) → slice_get bs i ≡ Some b → slice_get f.blocks (n + i) ≡ Some b) →
    has_point (flat_map (edges_of f) (points_in (is_call_of Intrinsic.CoroSuspend) n bs)) (record { block = k; at = 0 }) ≡ list_any (enters f k) bs
in-blocks f n [] k known = refl
in-blocks f n (b ∷ bs) k known =
    ap (λ (l : List Point). has_point l (record { block = k; at = 0 })) (flat_map-append f (points_from (is_call_of Intrinsic.CoroSuspend) n 0 b.instrs) (points_in (is_call_of Intrinsic.CoroSuspend) (suc n) bs))
    ∙ list_any-append (same_point (record { block = k; at = 0 })) (flat_map (edges_of f) (points_from (is_call_of Intrinsic.CoroSuspend) n 0 b.instrs)) (flat_map (edges_of f) (points_in (is_call_of Intrinsic.CoroSuspend) (suc n) bs))
    ∙ ap (λ c. c || has_point (flat_map (edges_of f) (points_in (is_call_of Intrinsic.CoroSuspend) (suc n) bs)) (record { block = k; at = 0 }))
    (from-block (is_call_of Intrinsic.CoroSuspend) f n 0 b.instrs (record { block = k; at = 0 })
    ∙ ap (λ c. list_any (is_call_of Intrinsic.CoroSuspend) b.instrs && c) (edges-at f n b k here))
    ∙ ap (λ c. enters f k b || c) (in-blocks f (suc n) bs k (λ i x e. let s : suc n + i ≡ n + suc i = omega arith in ap (slice_get f.blocks) s ∙ known (suc i) x e))
  where
    here : slice_get f.blocks n ≡ Some b
    here = let z : n ≡ n + 0 = omega arith in ap (slice_get f.blocks) z ∙ known 0 b refl

pub are-entered : (f : Function) (start : List Bool) → start ≡ replicate (length f.blocks) false ++ false ∷ [] → ((label : ℕ) → position_of f label ≤ length f.blocks) → AreEntered f (entered_by f f.blocks start)
are-entered f start is inside = record {
  each = λ k.
      by-marks f f.blocks start k
      (λ label. let le = inside label in let len = ap length is ∙ length-append (replicate (length f.blocks) false) (false ∷ []) in let l = length-replicate (length f.blocks) false in omega (arith, le, len, l))
      ∙ ap (λ (l : List Bool). mark_at l k || list_any (enters f k) f.blocks) is
      ∙ ap (λ c. c || list_any (enters f k) f.blocks) (blank (length f.blocks) k)
      ∙ sym (in-blocks f 0 f.blocks k (λ i b e. let z : 0 + i ≡ i = omega arith in ap (slice_get f.blocks) z ∙ e));
}

-- the edges of suspends lead to first points
entry-first : (f : Function) (ss : List Point) (p : Point) → has_point (flat_map (edges_of f) ss) p ≡ true → p.at ≡ 0
entry-first f [] p h = absurd (false≢true h)
entry-first f (s ∷ ss) p h = ⊎_elim (at (resume_label f s)) (λ more. ⊎_elim (at (destroy_label f s)) (entry-first f ss p) (either (same_point p (entry_point f (destroy_label f s))) (has_point (flat_map (edges_of f) ss) p) more))
    (either (same_point p (entry_point f (resume_label f s))) (has_point (entry_point f (destroy_label f s) ∷ flat_map (edges_of f) ss) p) h)
  where
    second : (a b : Bool) → (a && b) ≡ true → b ≡ true
    second true b e = e
    second false b e = absurd (false≢true e)

    at : (label : ℕ) → same_point p (entry_point f label) ≡ true → p.at ≡ 0
    at label e = eq_from p.at 0 (second (p.block == position_of f label) (p.at == 0) e)

pub behind-first : (f : Function) (p : Point) → has_point (behind_suspends f) p ≡ true → p.at ≡ 0
behind-first f p h = entry-first f (points_in (is_call_of Intrinsic.CoroSuspend) 0 f.blocks) p h

-- What stands in front of a block to which a resume or destroy edge leads is short.
use Rattle.std.proofs.Common.{◌≡◌, ◌≢◌, ◌⊎◌, inl, inr, ℕ, zero, suc, ◌+◌, ◌*◌, ◌≤◌, Bool, true, false, List, [], ◌∷◌, ◌++◌, length, refl, sym, ap, subst, arith}
use Rattle.std.specs.Prelude.{None, Option, Some, if◌then◌else◌, replicate, slice_get, slice_set, take, ◌==◌}
use Rattle.pass_frames_proof.specs.flow_solver.Paths.{IsListed}
use Rattle.pass_frames_proof.specs.frame_crossing.Values.{values_of}
use Rattle.pass_frames_proof.proofs.ir_laws.facts.Lists.{set_other}
use Rattle.pass_frames_proof.proofs.ir_laws.facts.Truth.{equal_numbers, not_equal}
use Rattle.pass_frames_proof.proofs.ir_laws.facts.Members.{each_turns}
use Rattle.pass_frames_proof.specs.ir_laws.paths.woven_rules.Pairs.{AreDifferent}
use Rattle.pass_frames_proof.specs.ir_model.declared.instr.Instr.{Instr}
use Rattle.pass_frames_proof.specs.ir_model.declared.instr.Phi.{Phi}
use Rattle.pass_frames_proof.specs.ir_model.declared.operand.Operand.{Operand}
use Rattle.pass_frames_proof.specs.ir_parts.Contents.{instr_operands}
use Rattle.pass_frames_proof.specs.pass_cells.Kept.{entry, row_or, rows_from, rows_of, with_pair, with_row_of}
use Rattle.pass_frames_proof.specs.pass_cells.Moves.{again_values}
use Rattle.pass_frames_proof.specs.pass_cells.Written.{after_blocks as after_written, again_row, entry_front as cells_front, row_at, stored_phis}
use Rattle.pass_frames_proof.specs.pass_cells.declared.plan.KeptValue.{KeptValue}
use Rattle.pass_frames_proof.specs.pass_copies.BeginCopies.{entry_front as copies_front, puts}
use Rattle.pass_frames_proof.specs.pass_copies.Uses.{flag_at}
use Rattle.pass_frames_proof.specs.pass_fetch.Fetching.{fetch_of}
use Rattle.pass_frames_prices.proofs.bounds.Codes.{T, addressed_short, all_kept_free, far_free, slots_free}
use Rattle.pass_frames_prices.proofs.bounds.Once.{without, without_listed}
use Rattle.pass_frames_prices.proofs.bounds.Parts.{again_more, again_weights, all_free, phis_short, puts_weights, row_more, slots_more, weights, weights_append}
use Rattle.pass_frames_prices.proofs.bounds.Rows.{all_once, first_of, firsts, listed_at, placed_first, placed_there, values_once}
use Rattle.pass_frames_proof.proofs.code.Left.{Far, IsCalm, Q, far_fetched}
use Rattle.pass_frames_proof.proofs.code.Ends.{phis_each}
use Rattle.pass_frames_proof.proofs.code.Names.{Kept, keeping}
use Rattle.pass_frames_proof.specs.Code.{front_code}
use Rattle.pass_frames_proof.specs.Framings.{IsFraming}
use Rattle.pass_frames_prices.specs.Numbers.{distances_of, one_distance}
use Rattle.pass_frames_proof.specs.Passes.{block_at}
use Rattle.pass_frames_proof.specs.Places.{Framing, addressing_layer, copies, copying_layer, edged, fetched, plan, writing_layer, written}
use Rattle.pass_frames_proof.specs.pass_intrinsics.Shapes.{suspends_of}
use Rattle.pass_frames_proof.proofs.pass_proofs.cells.rules.Totals.{all_rise}
use Rattle.pass_frames_proof.specs.pass_proofs.fetch.rules.Fetches.{AreUnfetched}

-- ---- sums over numbers that stand once

abbrev sum_of : (ℕ → ℕ) → List ℕ → ℕ
sum_of c [] = 0
sum_of c (v ∷ vs) = c v + sum_of c vs

sum_append : (c : ℕ → ℕ) (vs us : List ℕ) → sum_of c (vs ++ us) ≡ sum_of c vs + sum_of c us
sum_append c [] us = omega arith
sum_append c (v ∷ vs) us = let a = sum_append c vs us in omega (arith, a)

without_sum : (c : ℕ → ℕ) (v : ℕ) (us : List ℕ) → IsListed v us → c v + sum_of c (without v us) ≡ sum_of c us
without_sum c v [] l = absurd l
without_sum c v (u ∷ us) l = on (u == v) refl l (λ m. without_sum c v us m)
  where
    on : (b : Bool) → (u == v) ≡ b → (v ≡ u) ⊎ IsListed v us
        → (IsListed v us → c v + sum_of c (without v us) ≡ sum_of c us)
        → c v + sum_of c (if b then us else u ∷ without v us) ≡ c u + sum_of c us
    on true e m rest = let a : c u ≡ c v = ap c (equal_numbers u v e) in omega (arith, a)
    on false e (inl same) rest = absurd (not_equal u v e (sym same))
    on false e (inr m) rest = let a = rest m in omega (arith, a)

few_sum : (c : ℕ → ℕ) (vs us : List ℕ) → AreDifferent vs → ((v : ℕ) → IsListed v vs → IsListed v us)
    → sum_of c vs ≤ sum_of c us
few_sum c [] us once listed = omega arith
few_sum c (v ∷ vs) us once listed =
    let a = without_sum c v us (listed v (inl refl)) in
    let b = few_sum c vs (without v us) once.1
    (λ w l. without_listed v us w
    (λ same. once.0 (subst (λ (u : ℕ). IsListed u vs) same l)) (listed w (inr l))) in
    omega (arith, a, b)

-- ---- a row costs what the values that are paired with its suspend do

module _ (kept : List KeptValue) where
  more_append : (xs ys : List ℕ) → row_more kept (xs ++ ys) ≡ row_more kept xs + row_more kept ys
  more_append [] ys = omega arith
  more_append (x ∷ xs) ys = let a = more_append xs ys in omega (arith, a)

  module _ (places : List (Option ℕ)) (j : ℕ) where
    abbrev placed_more : Option ℕ → ℕ
    placed_more None = 0
    placed_more (Some at) = again_more (slice_get kept at)

    abbrev cost : ℕ → ℕ
    cost v = placed_more (entry places v)

    abbrev many : List (List ℕ) → ℕ
    many rows = row_more kept (row_or (slice_get rows j))

    set_few : (rows : List (List ℕ)) (i : ℕ) (new : List ℕ)
        → row_more kept (row_or (slice_get (slice_set rows i new) i)) ≤ row_more kept new
    set_few [] i new = omega arith
    set_few (r ∷ rows) zero new = omega arith
    set_few (r ∷ rows) (suc i) new = set_few rows i new

    one_more : (rows : List (List ℕ)) (p : ℕ × ℕ) (o : Option ℕ) → entry places p.0 ≡ o → (b : Bool) → (p.1 == j) ≡ b
        → many (with_row_of rows p.1 o) ≤ many rows + sum_of cost (if b then placed_first o p.0 else [])
    one_more rows p None d true e = omega arith
    one_more rows p None d false e = omega arith
    one_more rows p (Some k) d true e =
        let same : p.1 ≡ j = equal_numbers p.1 j e in
        let new : List ℕ = row_or (slice_get rows p.1) ++ k ∷ [] in
        let a = set_few rows p.1 new in
        let b : many (slice_set rows p.1 new) ≡ row_more kept (row_or (slice_get (slice_set rows p.1 new) p.1)) =
        ap (λ (i : ℕ). row_more kept (row_or (slice_get (slice_set rows p.1 new) i))) (sym same) in
        let c : row_more kept (row_or (slice_get rows p.1)) ≡ many rows =
        ap (λ (i : ℕ). row_more kept (row_or (slice_get rows i))) same in
        let f = more_append (row_or (slice_get rows p.1)) (k ∷ []) in
        let g : cost p.0 ≡ again_more (slice_get kept k) = ap placed_more d in
        omega (arith, a, b, c, f, g)
    one_more rows p (Some k) d false e =
        let new : List ℕ = row_or (slice_get rows p.1) ++ k ∷ [] in
        let a : many (slice_set rows p.1 new) ≡ many rows =
        ap (λ (o : Option (List ℕ)). row_more kept (row_or o)) (set_other rows p.1 j new (not_equal p.1 j e)) in
        omega (arith, a)

    all_more : (rows : List (List ℕ)) (ps : List (ℕ × ℕ))
        → many (rows_from places rows ps) ≤ many rows + sum_of cost (firsts places j ps)
    all_more rows [] = omega arith
    all_more rows (p ∷ ps) =
        let a = one_more rows p (entry places p.0) refl (p.1 == j) refl in
        let b = all_more (with_pair places rows p.0 p.1) ps in
        let c = sum_append cost (first_of places j p) (firsts places j ps) in
        omega (arith, a, b, c)

    none_more : (n i : ℕ) → row_more kept (row_or (slice_get (replicate {A = List ℕ} n []) i)) ≡ 0
    none_more zero i = refl
    none_more (suc n) zero = refl
    none_more (suc n) (suc i) = none_more n i

    rows_more : (n : ℕ) (ps : List (ℕ × ℕ)) → many (rows_of places n ps) ≤ sum_of cost (firsts places j ps)
    rows_more n ps =
        let a = all_more (replicate n []) ps in
        let b = none_more n j in
        omega (arith, a, b)

-- ---- and all values what all that is kept does

abbrev kept_more : List KeptValue → ℕ
kept_more [] = 0
kept_more (k ∷ ks) = again_more (Some k) + kept_more ks

kept_is : (ks : List KeptValue) → kept_more ks ≡ 3 * length ks + 2 * distances_of ks
kept_is [] = refl
kept_is (k ∷ ks) = let a = kept_is ks in let b = on k.slot in omega (arith, a, b)
  where
    on : (o : Option ℕ) → slots_more o ≡ 2 * one_distance o
    on None = refl
    on (Some s) = refl

values_more : (c : ℕ → ℕ) (vs : List ℕ) (ks : List KeptValue)
    → ((at v : ℕ) → slice_get vs at ≡ Some v → c v ≡ again_more (slice_get ks at)) → sum_of c vs ≤ kept_more ks
values_more c [] ks h = omega arith
values_more c (v ∷ vs) [] h =
    let a = h 0 v refl in
    let b = values_more c vs [] (λ at u e. h (suc at) u e) in
    omega (arith, a, b)
values_more c (v ∷ vs) (k ∷ ks) h =
    let a = h 0 v refl in
    let b = values_more c vs ks (λ at u e. h (suc at) u e) in
    omega (arith, a, b)

-- ---- in a coroutine

pub calm_unfetched : (x : Framing) (is : IsFraming x) (j : Instr) → IsCalm x is j
    → AreUnfetched (T x is) (instr_operands j)
calm_unfetched x is j c =
    each_turns (Q x is) (λ (y : Operand). fetch_of (T x is) y ≡ None) quiet (instr_operands j) c.1
  where
    quiet : (y : Operand) → Q x is y → fetch_of (T x is) y ≡ None
    quiet (Operand.Local v) h = h.0
    quiet _ h = refl

module _ (x : Framing) (is : IsFraming x) where
  abbrev places : List (Option ℕ)
  places = (Kept x is).places

  abbrev few : ℕ
  few = 3 * length (plan x).kept + 2 * distances_of (plan x).kept

  suspend_more : (j : ℕ) → row_more (plan x).kept (row_or (slice_get (plan x).rows j)) ≤ few
  suspend_more j =
      let all : List (ℕ × ℕ) = x.contents.crossing in
      let c : ℕ → ℕ = cost (plan x).kept places j in
      let once = all_once places j x.function (values_of x.function) all is.frameable.contents.crossing_are
      (values_once x.function) in
      let a = rows_more (plan x).kept places j (length (suspends_of (edged x))) all in
      let b = few_sum c (firsts places j all) (Kept x is).values once.0
      (λ v l. let h = placed_there places j all v l in
      listed_at (Kept x is).values h.0 v ((keeping x is).there v h.0 h.1)) in
      let d = values_more c (Kept x is).values (plan x).kept
      (λ at v e. ap (placed_more (plan x).kept places j) ((keeping x is).back v at e)) in
      let e = kept_is (plan x).kept in
      omega (arith, a, b, d, e)

  pub row_costs : (o : Option ℕ) → row_more (plan x).kept (row_at (plan x).rows o) ≤ few
  row_costs None = omega arith
  row_costs (Some j) = suspend_more j

  -- ---- the front

  module _ (k : ℕ) (later : k ≢ 0) where
    abbrev n : ℕ
    n = after_written x.code (plan x) (length (fetched x).names) (take k (fetched x).blocks)

    far_n : Far x is ≤ n
    far_n =
        let low : Far x is ≤ length (fetched x).names = far_fetched x is in
        let up : length (fetched x).names ≤ n =
        all_rise 0 x.code (plan x) (length (fetched x).names) (take k (fetched x).blocks) in
        omega (arith, low, up)

    not_entry : (q : Bool) → (k == 0) ≡ q → q ≡ false
    not_entry false e = refl
    not_entry true e = absurd (later (equal_numbers k 0 e))

    phis_free : (ps : List Phi) → weights (T x is) (stored_phis (plan x) ps) ≤ length ps
    phis_free ps =
        let a = all_free (T x is) (stored_phis (plan x) ps)
        (phis_each x is k (λ j. AreUnfetched (T x is) (instr_operands j)) (λ j c. calm_unfetched x is j c) ps) in
        let b = phis_short (plan x) ps in
        omega (arith, a, b)

    copied_few : weights (T x is) (copying_layer x k).front ≤ 2 * length (copies x).slots
    copied_few = on (k == 0) refl (flag_at (copies x).resumed (block_at (written x) k).label)
      where
        on : (q : Bool) → (k == 0) ≡ q → (b : Bool)
            → weights (T x is) ((if q then copies_front (copies x).slots else [])
            ++ (if b then puts (copies x).slots else []))
            ≤ 2 * length (copies x).slots
        on true e b = absurd (later (equal_numbers k 0 e))
        on false e true = puts_weights (T x is) (copies x).slots (slots_free x is (copies x).slots (λ z l. l))
        on false e false = omega arith

    written_few : weights (T x is) (writing_layer x k).front ≤ few + length (block_at (fetched x) k).phis
    written_few = on (k == 0) refl
      where
        on : (q : Bool) → (k == 0) ≡ q
            → weights (T x is) (((if q then cells_front (plan x) (edged x).params else [])
            ++ again_values (plan x).kept n (again_row (plan x) (block_at (fetched x) k).label))
            ++ stored_phis (plan x) (block_at (fetched x) k).phis)
            ≤ few + length (block_at (fetched x) k).phis
        on true e = absurd (later (equal_numbers k 0 e))
        on false e =
            let row : List ℕ = again_row (plan x) (block_at (fetched x) k).label in
            let again : List Instr = again_values (plan x).kept n row in
            let phis : List Instr = stored_phis (plan x) (block_at (fetched x) k).phis in
            let a = again_weights (T x is) (Far x is) (far_free x is) (plan x).kept (all_kept_free x is) n row far_n in
            let b = row_costs (entry (plan x).returns (block_at (fetched x) k).label) in
            let c = phis_free (block_at (fetched x) k).phis in
            let d = weights_append (T x is) again phis in
            omega (arith, a, b, c, d)

    pub front_few : length (front_code x k)
        ≤ 2 * length (copies x).slots + (few + length (block_at (fetched x) k).phis)
    front_few =
        let a = addressed_short x is k (addressing_layer x k).start
        ((copying_layer x k).front ++ (writing_layer x k).front) in
        let b = weights_append (T x is) (copying_layer x k).front (writing_layer x k).front in
        let c = copied_few in
        let d = written_few in
        omega (arith, a, b, c, d)

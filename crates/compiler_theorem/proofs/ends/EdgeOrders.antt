-- A block on a resume or destroy edge is behind the suspend of a number, as the passes that fill it see.
use Rattle.std.proofs.Common.{◌≡◌, ◌⊎◌, inl, inr, ⊎_elim, ℕ, zero, suc, ◌+◌, ◌<◌, ◌≤◌, true, false, List, [], ◌∷◌, length, Option, Some, None, refl, sym, ap, ◌∙◌, subst, arith}
use Rattle.std.specs.Prelude.{replicate, slice_get, slice_set}
use Rattle.compiler.specs.flow_solver.Paths.{IsListed}
use Rattle.compiler.proofs.ir_laws.facts.Lists.{get_within, set_here, set_length, set_other}
use Rattle.compiler.proofs.ir_laws.facts.Truth.{either}
use Rattle.compiler.specs.pass_cells.Kept.{entry, joined}
use Rattle.compiler.specs.pass_cells.Plan.{with_returns}
use Rattle.compiler.specs.pass_cells.Written.{again_row, row_at}
use Rattle.compiler.specs.pass_copies.Slots.{resumed_at}
use Rattle.compiler.specs.pass_copies.Uses.{flag_at}
use Rattle.compiler.specs.pass_frames.Framed.{celled}
use Rattle.pass_frames_prices.proofs.bounds.Ordinary.{flags_long, loaded_label, resumed_flagged, written_label}
use Rattle.pass_frames_meaning.proofs.ends.Counted.{edged_named}
use Rattle.pass_frames_meaning.proofs.pass_frames_proof.stepping.Names.{named_written}
use Rattle.pass_frames_meaning.specs.pass_frames_proof.Framings.{IsFraming}
use Rattle.pass_frames_meaning.specs.pass_frames_proof.Jumps.{label_at}
use Rattle.pass_frames_meaning.specs.pass_frames_proof.Passes.{block_at}
use Rattle.pass_frames_meaning.specs.pass_frames_proof.Places.{Framing, copies, edged, fetched, is_return, plan, written}
use Rattle.compiler.specs.pass_intrinsics.Shapes.{suspends_of}
use Rattle.compiler.specs.pass_intrinsics.declared.shape.SuspendPoint.{SuspendPoint}
use Rattle.compiler.proofs.pass_proofs.copies.shape.Returned.{resumed_listed}
use Rattle.compiler.proofs.pass_proofs.frames.begin_order.Blocks.{label_low}
use Rattle.compiler.specs.rule_laws.frames.rows.Returns.{return_labels}

-- a number below a bound is told of the label
abbrev IsTold : List (Option ℕ) → ℕ → ℕ → Type 0
IsTold table l bound = (j : ℕ) × (entry table l ≡ Some j) × (j < bound)

told_within : (table : List (Option ℕ)) (l j : ℕ) → entry table l ≡ Some j → l < length table
told_within table l j e = on (slice_get table l) refl e
  where
    on : (o : Option (Option ℕ)) → slice_get table l ≡ o → joined o ≡ Some j → l < length table
    on None d h = absurd (cc)
    on (Some o) d h = get_within table l o d

told_here : (table : List (Option ℕ)) (l j bound : ℕ) → l < length table → j < bound
    → IsTold (slice_set table l (Some j)) l bound
told_here table l j bound lt low = (j, ap joined (set_here table l (Some j) lt), low)

told_stays : (table : List (Option ℕ)) (n l j bound : ℕ) → j < bound → IsTold table l bound
    → IsTold (slice_set table n (Some j)) l bound
told_stays table n l j bound low h =
    ⊎_elim
    (λ (same : n ≡ l).
    subst (λ (k : ℕ). IsTold (slice_set table k (Some j)) l bound) (sym same)
    (told_here table l j bound (told_within table l h.0 h.1) low))
    (λ (other : n ≡ l → ⊥). (h.0, ap joined (set_other table n l (Some j) other) ∙ h.1, h.2)) (either n l)

returns_told : (table : List (Option ℕ)) (j : ℕ) (ss : List SuspendPoint) (l : ℕ) → l < length table
    → IsListed l (return_labels ss) ⊎ IsTold table l (j + length ss)
    → IsTold (with_returns table j ss) l (j + length ss)
returns_told table j [] l lt (inl none) = absurd none
returns_told table j [] l lt (inr h) = h
returns_told table j (s ∷ ss) l lt h =
    let bound : j + 1 + length ss ≡ j + length (s ∷ ss) = omega arith in
    subst (IsTold (with_returns table j (s ∷ ss)) l) bound
    (returns_told both (j + 1) ss l long (on (⊎_elim (λ a. inl a)
    (λ b. inr (subst (IsTold table l) (sym bound) b)) h)))
  where
    one : List (Option ℕ)
    one = slice_set table s.resume (Some j)

    both : List (Option ℕ)
    both = slice_set (slice_set table s.resume (Some j)) s.destroy (Some j)

    low : j < j + 1 + length ss
    low = omega arith

    long_one : l < length (slice_set table s.resume (Some j))
    long_one = let a = set_length table s.resume (Some j) in omega (arith, lt, a)

    long : l < length (slice_set (slice_set table s.resume (Some j)) s.destroy (Some j))
    long = let a = set_length (slice_set table s.resume (Some j)) s.destroy (Some j) in let b = long_one in
        omega (arith, a, b)

    second : IsTold (slice_set table s.resume (Some j)) l (j + 1 + length ss)
        → IsTold (slice_set (slice_set table s.resume (Some j)) s.destroy (Some j)) l (j + 1 + length ss)
    second h = told_stays (slice_set table s.resume (Some j)) s.destroy l j (j + 1 + length ss) low h

    on : IsListed l (return_labels (s ∷ ss)) ⊎ IsTold table l (j + 1 + length ss)
        → IsListed l (return_labels ss)
        ⊎ IsTold (slice_set (slice_set table s.resume (Some j)) s.destroy (Some j)) l (j + 1 + length ss)
    on (inl (inl e)) = inr (second
        (subst (λ (n : ℕ). IsTold (slice_set table n (Some j)) l (j + 1 + length ss)) e
        (told_here table l j (j + 1 + length ss) lt low)))
    on (inl (inr (inl e))) = inr
        (subst (λ (n : ℕ). IsTold (slice_set (slice_set table s.resume (Some j)) n (Some j)) l (j + 1 + length ss)) e
        (told_here (slice_set table s.resume (Some j)) l j (j + 1 + length ss) long_one low))
    on (inl (inr (inr m))) = inl m
    on (inr h) = inr (second (told_stays table s.resume l j (j + 1 + length ss) low h))

none_long : (n : ℕ) → length (replicate {A = Option ℕ} n None) ≡ n
none_long zero = refl
none_long (suc n) = ap suc (none_long n)

celled_is : (x : Framing) → celled x.code x.function x.contents ≡ written x
unfolding celled
celled_is x = refl

-- what is told of the block
pub record IsBehindSuspend (x : Framing) (k : ℕ) : Type 0 where
  pub order : ℕ
  pub behind : entry (plan x).returns (label_at x k) ≡ Some order
  pub low : order < length (suspends_of (edged x))
  pub again : again_row (plan x) (block_at (fetched x) k).label ≡ row_at (plan x).rows (Some order)
  pub resumed : flag_at (copies x).resumed (block_at (written x) k).label ≡ true

module _ (x : Framing) (is : IsFraming x) (k : ℕ)
    (there : slice_get (edged x).blocks k ≡ Some (block_at (edged x) k)) (returned : is_return x k ≡ true) where
  abbrev label : ℕ
  label = label_at x k

  listed : IsListed (label_at x k) (return_labels (suspends_of (edged x)))
  listed = resumed_listed (edged x) label returned

  label_there : label_at x k < length (edged x).names
  label_there = label_low x.code is.position (edged x) is.frameable.rules k (block_at (edged x) k) there

  told : IsTold (plan x).returns (label_at x k) (length (suspends_of (edged x)))
  told =
      let long = none_long (length (edged x).names) in
      let low = label_there in
      let z = returns_told (replicate (length (edged x).names) None) 0 (suspends_of (edged x)) label
      (omega (arith, long, low)) (inl listed) in
      let e : 0 + length (suspends_of (edged x)) ≡ length (suspends_of (edged x)) = omega arith in
      subst (IsTold (plan x).returns label) e z

  same_suspends : suspends_of (written x) ≡ suspends_of (edged x)
  same_suspends = ap suspends_of (sym (celled_is x)) ∙ is.frameable.suspends

  named_longer : length (edged x).names ≤ length (written x).names
  named_longer =
      let a = edged_named x is k there in
      let b = named_written x in
      omega (arith, a, b)

  flagged : flag_at (resumed_at (written x)) (label_at x k) ≡ true
  flagged =
      let long = flags_long (length (written x).names) in
      let low = label_there in
      let more = named_longer in
      resumed_flagged (replicate (length (written x).names) false) (suspends_of (written x)) label
      (omega (arith, long, low, more))
      (subst (λ (ss : List SuspendPoint). IsListed label (return_labels ss)) (sym same_suspends) listed)

  pub behind_suspend : IsBehindSuspend x k
  behind_suspend = record {
    order = told.0;
    behind = told.1;
    low = told.2;
    again = ap (λ (l : ℕ). row_at (plan x).rows (entry (plan x).returns l)) (loaded_label x is k there)
        ∙ ap (row_at (plan x).rows) told.1;
    resumed = ap (flag_at (resumed_at (written x))) (written_label x is k there) ∙ flagged;
  }

-- A block that is no entry and to which no resume or destroy edge leads is an ordinary one. So stores of phis alone
-- stand in front of it.
use Rattle.std.proofs.Common.{◌≡◌, ◌≢◌, ◌⊎◌, inl, inr, ⊎_elim, ℕ, zero, suc, ◌<◌, ◌≤◌, Bool, true, false, List, [], ◌∷◌, length, refl, sym, ap, ◌∙◌, subst, arith}
use Rattle.std.specs.Prelude.{None, Option, Some, codes, replicate, slice_get, slice_set, unwrap_or}
use Rattle.pass_frames_proof.specs.flow_solver.Paths.{IsListed}
use Rattle.pass_frames_proof.proofs.ir_laws.facts.Lists.{set_here, set_length, set_other}
use Rattle.pass_frames_proof.proofs.ir_laws.facts.Truth.{either}
use Rattle.pass_frames_proof.specs.ir_model.declared.module.Block.{Block}
use Rattle.pass_frames_proof.specs.ir_model.declared.module.Function.{Function}
use Rattle.pass_frames_proof.specs.pass_cells.Cells.{fetched_function, fetches_of, named_function}
use Rattle.pass_frames_proof.specs.pass_cells.Kept.{entry}
use Rattle.pass_frames_proof.specs.pass_cells.declared.plan.Plan.{Plan}
use Rattle.pass_frames_proof.specs.pass_copies.Slots.{resumed_at, set_resumed}
use Rattle.pass_frames_proof.specs.pass_copies.Uses.{flag_at}
use Rattle.pass_frames_proof.specs.pass_fetch.Blocks.{with_fetches}
use Rattle.pass_frames_proof.specs.pass_frames.Framed.{celled}
use Rattle.pass_frames_prices.proofs.bounds.Parts.{phis_short}
use Rattle.pass_frames_proof.proofs.code.Passes.{block_is, cells_made, fetches_made}
use Rattle.pass_frames_proof.proofs.jumping.Places.{front_there}
use Rattle.pass_frames_proof.specs.Framings.{IsFraming}
use Rattle.pass_frames_proof.specs.Layers.{IsMadeBy}
use Rattle.pass_frames_proof.specs.Passes.{block_at, fetching_at}
use Rattle.pass_frames_proof.specs.Phis.{IsOrdinaryBlock}
use Rattle.pass_frames_proof.specs.Places.{Framing, copies, edged, fetched, is_return, named, place, plan, written}
use Rattle.pass_frames_proof.specs.pass_intrinsics.Shapes.{suspends_of}
use Rattle.pass_frames_proof.specs.pass_intrinsics.declared.shape.SuspendPoint.{SuspendPoint}
use Rattle.pass_frames_proof.proofs.pass_proofs.copies.shape.Returned.{resumed_listed, returned_listed}
use Rattle.pass_frames_proof.proofs.pass_proofs.frames.begin_order.Blocks.{label_low}
use Rattle.pass_frames_proof.specs.rule_laws.frames.rows.Returns.{return_labels}

-- ---- labels to which such edges lead are flagged

flag_set : (flags : List Bool) (n : ℕ) → n < length flags → flag_at (slice_set flags n true) n ≡ true
flag_set flags n lt = ap (λ (o : Option Bool). unwrap_or o false) (set_here flags n true lt)

flag_stays : (flags : List Bool) (n l : ℕ) → l < length flags → flag_at flags l ≡ true
    → flag_at (slice_set flags n true) l ≡ true
flag_stays flags n l lt e =
    ⊎_elim (λ same. subst (λ (k : ℕ). flag_at (slice_set flags k true) l ≡ true) (sym same) (flag_set flags l lt))
    (λ other. ap (λ (o : Option Bool). unwrap_or o false) (set_other flags n l true other) ∙ e) (either n l)

resumed_stays : (flags : List Bool) (ss : List SuspendPoint) (l : ℕ) → l < length flags → flag_at flags l ≡ true
    → flag_at (set_resumed flags ss) l ≡ true
resumed_stays flags [] l lt e = e
resumed_stays flags (s ∷ ss) l lt e =
    let one : List Bool = slice_set flags s.resume true in
    let a : length one ≡ length flags = set_length flags s.resume true in
    let b : length (slice_set one s.destroy true) ≡ length one = set_length one s.destroy true in
    resumed_stays (slice_set one s.destroy true) ss l (omega (arith, lt, a, b))
    (flag_stays one s.destroy l (omega (arith, lt, a)) (flag_stays flags s.resume l lt e))

pub resumed_flagged : (flags : List Bool) (ss : List SuspendPoint) (l : ℕ) → l < length flags
    → IsListed l (return_labels ss) → flag_at (set_resumed flags ss) l ≡ true
resumed_flagged flags [] l lt m = absurd m
resumed_flagged flags (s ∷ ss) l lt m =
    let one : List Bool = slice_set flags s.resume true in
    let two : List Bool = slice_set one s.destroy true in
    let a : length one ≡ length flags = set_length flags s.resume true in
    let b : length two ≡ length one = set_length one s.destroy true in
    let long : l < length two = omega (arith, lt, a, b) in
    on m long (omega (arith, lt, a)) (λ n. resumed_flagged two ss l long n)
  where
    on : (l ≡ s.resume) ⊎ ((l ≡ s.destroy) ⊎ IsListed l (return_labels ss))
        → l < length (slice_set (slice_set flags s.resume true) s.destroy true)
        → l < length (slice_set flags s.resume true)
        → (IsListed l (return_labels ss)
        → flag_at (set_resumed (slice_set (slice_set flags s.resume true) s.destroy true) ss) l ≡ true)
        → flag_at (set_resumed (slice_set (slice_set flags s.resume true) s.destroy true) ss) l ≡ true
    on (inl e) long mid rest =
        resumed_stays (slice_set (slice_set flags s.resume true) s.destroy true) ss l long
        (flag_stays (slice_set flags s.resume true) s.destroy l mid
        (subst (λ (k : ℕ). flag_at (slice_set flags k true) l ≡ true) e (flag_set flags l lt)))
    on (inr (inl e)) long mid rest =
        resumed_stays (slice_set (slice_set flags s.resume true) s.destroy true) ss l long
        (subst (λ (k : ℕ). flag_at (slice_set (slice_set flags s.resume true) k true) l ≡ true) e
        (flag_set (slice_set flags s.resume true) l mid))
    on (inr (inr n)) long mid rest = rest n

pub flags_long : (n : ℕ) → length (replicate n false) ≡ n
flags_long zero = refl
flags_long (suc n) = ap suc (flags_long n)

-- ---- in a coroutine

fetched_is : (p : Plan) (f : Function) (k : ℕ) (b : Block)
    → slice_get (with_fetches (named_function p f) (fetches_of p) (codes "$c.use.")).blocks k ≡ Some b
    → slice_get (fetched_function p f).blocks k ≡ Some b
unfolding fetched_function
fetched_is p f k b e = e

celled_is : (x : Framing) → celled x.code x.function x.contents ≡ written x
unfolding celled
celled_is x = refl

module _ (x : Framing) (is : IsFraming x) (k : ℕ) (there : slice_get (edged x).blocks k ≡ Some (block_at (edged x) k))
  where
    abbrev label : ℕ
    label = (block_at (edged x) k).label

    loaded : (d : Block) × (slice_get (with_fetches (named x) (fetches_of (plan x)) (codes "$c.use.")).blocks k ≡ Some d)
        × IsMadeBy (fetching_at (named x) (fetches_of (plan x)) k) (block_at (edged x) k) d
    loaded = fetches_made (named x) (fetches_of (plan x)) (codes "$c.use.") k (block_at (edged x) k) there

    loaded_there : slice_get (fetched x).blocks k ≡ Some loaded.0
    loaded_there = fetched_is (plan x) (edged x) k loaded.0 loaded.1

    pub loaded_label : (block_at (fetched x) k).label ≡ label
    loaded_label = ap (λ (b : Block). b.label) (block_is (fetched x) k loaded.0 loaded_there) ∙ loaded.2.label

    pub written_label : (block_at (written x) k).label ≡ label
    written_label =
        let c = cells_made x.code (plan x) (fetched x) k loaded.0 loaded_there in
        ap (λ (b : Block). b.label) (block_is (written x) k c.0 c.1) ∙ c.2.label ∙ loaded.2.label

    module _ (unreturned : is_return x k ≡ false) where
      not_listed : IsListed label (return_labels (suspends_of (edged x))) → ⊥
      not_listed l =
          let low : label < length (edged x).names =
          label_low x.code is.position (edged x) is.frameable.rules k (block_at (edged x) k) there in
          let long = flags_long (length (edged x).names) in
          let flagged = resumed_flagged (replicate (length (edged x).names) false) (suspends_of (edged x)) label
          (omega (arith, low, long)) l in
          let no : true ≡ false = sym flagged ∙ unreturned in
          absurd (cc)

      same_suspends : suspends_of (written x) ≡ suspends_of (edged x)
      same_suspends = ap suspends_of (sym (celled_is x)) ∙ is.frameable.suspends

      unflagged : (b : Bool) → flag_at (resumed_at (written x)) label ≡ b → b ≡ false
      unflagged false e = refl
      unflagged true e =
          absurd (not_listed (subst (λ (ss : List SuspendPoint). IsListed label (return_labels ss)) same_suspends
          (resumed_listed (written x) label e)))

      untold : (o : Option ℕ) → entry (plan x).returns label ≡ o → o ≡ None
      untold None e = refl
      untold (Some j) e =
          absurd (not_listed (returned_listed (length (edged x).names) (suspends_of (edged x)) label j e))

      pub unresumed : flag_at (copies x).resumed (block_at (written x) k).label ≡ false
      unresumed =
          ap (flag_at (resumed_at (written x))) written_label ∙ unflagged (flag_at (resumed_at (written x)) label) refl

      pub none_returned : entry (plan x).returns (block_at (fetched x) k).label ≡ None
      none_returned = ap (entry (plan x).returns) loaded_label ∙ untold (entry (plan x).returns label) refl

      pub ordinary : k ≢ 0 → IsOrdinaryBlock x k
      ordinary later = record { later = later; unresumed = unresumed; unreturned = none_returned }

      pub ordinary_place : k ≢ 0 → (place x (record { block = k; at = 0 })).at ≤ length (block_at (fetched x) k).phis
      ordinary_place later =
          let a = (front_there x is k there unreturned (ordinary later)).place in
          let b = phis_short (plan x) (block_at (fetched x) k).phis in
          omega (arith, a, b)

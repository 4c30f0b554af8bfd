-- From where the edges of blocks come, block by block.
use Rattle.std.proofs.Common.{Bool, List, [], ap, false, inl, inr, length, refl, subst, sym, true, ℕ, ◌+◌, ◌<◌, ◌∙◌, ◌∷◌, ◌≡◌}
use Rattle.std.proofs.lemmas.List.{length-replicate}
use Rattle.std.specs.Prelude.{None, Some, if◌then◌else◌, replicate, slice_get, slice_set}
use Rattle.pass_split.specs.Parts.{origins_for}
use Rattle.pass_split.specs.Pieces.{after_cut, begins_again, comes_from, origin_after, origin_in, origins_by, suspend_origins}
use Rattle.pass_split.specs.declared.origin.Origin.{Origin}
use Rattle.pass_fetch_proof.proofs.ir_laws.facts.Lists.{set_here, set_length, set_other}
use Rattle.pass_fetch_proof.specs.flow_solver.Paths.{IsListed}
use Rattle.pass_fetch_proof.specs.pass_intrinsics.Cuts.{cut_at}
use Rattle.pass_fetch_proof.specs.pass_intrinsics.declared.cuts.Cut.{Cut}
use Rattle.pass_fetch_proof.specs.pass_intrinsics.declared.shape.Part.{Part}
use Rattle.pass_fetch_proof.specs.pass_intrinsics.declared.shape.Shape.{Shape}
use Rattle.pass_fetch_proof.specs.pass_intrinsics.declared.shape.SuspendPoint.{SuspendPoint}
use Rattle.ir_model.specs.declared.instr.Instr.{Instr}
use Rattle.ir_model.specs.declared.module.Block.{Block}
use Rattle.ir_model.specs.declared.module.Function.{Function}
use Rattle.pass_exits_proof.proofs.split.edges.Pieces.{labels, nowhere_stays}
use Rattle.pass_fetch_proof.specs.ir_laws.paths.woven_rules.Pairs.{AreDifferent}

module _ (s : Shape) (part : Part) where
  abbrev origin_of : Block → Origin
  origin_of b = origin_in s part (Origin.Piece b.label) b.instrs

  -- a label that is none of the blocks' keeps its origin
  other_origin : (table : List Origin) (bs : List Block) (n : ℕ) → (IsListed n (labels bs) → ⊥) → slice_get (origins_by s part table bs) n ≡ slice_get table n
  other_origin table [] n none = refl
  other_origin table (b ∷ bs) n none = other_origin (slice_set table b.label (origin_of b)) bs n (λ l. none (inr l)) ∙ set_other table b.label n (origin_of b) (λ e. none (inl (sym e)))

  own_origin : (table : List Origin) (bs : List Block) (d : Block) → AreDifferent (labels bs) → IsListed d bs → d.label < length table → slice_get (origins_by s part table bs) d.label ≡ Some (origin_of d)
  own_origin table [] d h l low = absurd l
  own_origin table (b ∷ bs) d h (inl e) low =
      let here : b.label < length table = subst (λ (x : Block). x.label < length table) e low in
      subst (λ (x : Block). slice_get (origins_by s part table (b ∷ bs)) x.label ≡ Some (origin_of x)) (sym e)
      (other_origin (slice_set table b.label (origin_of b)) bs b.label h.0 ∙ set_here table b.label (origin_of b) here)
  own_origin table (b ∷ bs) d h (inr l) low =
      own_origin (slice_set table b.label (origin_of b)) bs d h.1 l (subst (λ (n : ℕ). d.label < n) (sym (set_length table b.label (origin_of b))) low)

  -- a label with no suspend does too
  no_suspend_there : (table : List Origin) (j : ℕ) (ps : List SuspendPoint) (n : ℕ) → ((p : SuspendPoint) → IsListed p ps → p.block ≡ n → ⊥) → slice_get (suspend_origins table j ps) n ≡ slice_get table n
  no_suspend_there table j [] n none = refl
  no_suspend_there table j (p ∷ ps) n none =
      no_suspend_there (slice_set table p.block (Origin.Suspend j)) (j + 1) ps n (λ q l. none q (inr l)) ∙ set_other table p.block n (Origin.Suspend j) (λ e. none p (inl refl) e)

  -- the edges of a block without a suspend come from where it ends
  pub origin_there : (h : Function) (d : Block) → AreDifferent (labels h.blocks) → IsListed d h.blocks → d.label < length h.names → ((p : SuspendPoint) → IsListed p s.suspends → p.block ≡ d.label → ⊥) → slice_get (origins_for s part h) d.label ≡ Some (origin_in s part (Origin.Piece d.label) d.instrs)
  origin_there h d different l low none =
      let table : List Origin = replicate (length h.names) Origin.Nowhere in
      no_suspend_there (origins_by s part table h.blocks) 0 s.suspends d.label none
      ∙ own_origin table h.blocks d different l (subst (λ (n : ℕ). d.label < n) (sym (length-replicate (length h.names) Origin.Nowhere)) low)

  -- ---- no block but a suspend's comes from a suspend

  pub data IsGoing (o : Origin) : Type 0 where
    FromPiece : (l : ℕ) → o ≡ Origin.Piece l → IsGoing o
    FromNowhere : o ≡ Origin.Nowhere → IsGoing o

  after_going : (a : ℕ) (c : Cut) → IsGoing (after_cut (Origin.Piece a) c)
  after_going a Cut.Stays = FromPiece a refl
  after_going a (Cut.Marks label) = FromPiece label refl
  after_going a Cut.Suspends = FromPiece a refl
  after_going a Cut.Returns = FromNowhere refl
  after_going a (Cut.Transfers j) = FromPiece a refl

  step_going : (a : ℕ) (i : Instr) → IsGoing (origin_after s part (Origin.Piece a) i)
  step_going a i = on (begins_again part i)
    where
      on : (b : Bool) → IsGoing (if b then Origin.Nowhere else after_cut (Origin.Piece a) (cut_at s part i []))
      on true = FromNowhere refl
      on false = after_going a (cut_at s part i [])

  pub going : (is : List Instr) (a : ℕ) → IsGoing (origin_in s part (Origin.Piece a) is)
  going [] a = FromPiece a refl
  going (i ∷ is) a = on (step_going a i) (λ l. going is l)
    where
      on : IsGoing (origin_after s part (Origin.Piece a) i) → ((l : ℕ) → IsGoing (origin_in s part (Origin.Piece l) is)) → IsGoing (origin_in s part (origin_after s part (Origin.Piece a) i) is)
      on (FromPiece l e) more = subst (λ (o : Origin). IsGoing (origin_in s part o is)) (sym e) (more l)
      on (FromNowhere e) more = FromNowhere (ap (λ (o : Origin). origin_in s part o is) e ∙ nowhere_stays s part is)

  -- an edge that comes from a piece comes from that one
  pub comes_from_piece : (label from l : ℕ) (o : Origin) → IsGoing o → comes_from s part label from (Some o) ≡ Some l → o ≡ Origin.Piece l
  comes_from_piece label from l o (FromPiece k d) e =
      let both : Some k ≡ Some l = ap (λ (x : Origin). comes_from s part label from (Some x)) (sym d) ∙ e in
      let same : k ≡ l = cc in
      d ∙ ap Origin.Piece same
  comes_from_piece label from l o (FromNowhere d) e =
      let none : None ≡ Some l = ap (λ (x : Origin). comes_from s part label from (Some x)) (sym d) ∙ e in
      absurd (cc)

-- The piece that a phi's label names is one from which edges come, of a block without a suspend.
use Rattle.std.proofs.Common.{◌≡◌, ◌⊎◌, inl, inr, ⊎_elim, ℕ, zero, suc, ◌+◌, ◌<◌, Bool, true, false, List, [], ◌∷◌, length, refl, sym, ap, ◌∙◌, subst, arith}
use Rattle.std.specs.Prelude.{None, Option, Some, replicate, slice_get, slice_set, ◌==◌, if◌then◌else◌}
use Rattle.pass_split.specs.Pieces.{comes_from, going_on, if_same, origin_in, origins_by, origins_of, suspend_origins}
use Rattle.pass_split.specs.declared.origin.Origin.{Origin}
use Rattle.pass_fetch_proof.proofs.ir_laws.facts.Truth.{equal_numbers}
use Rattle.pass_fetch_proof.proofs.ir_laws.facts.Lists.{get_within, set_here, set_length, set_at as set_or}
use Rattle.pass_fetch_proof.proofs.ir_laws.paths.source_rules.Locals.{listed_left, listed_right}
use Rattle.pass_fetch_proof.specs.flow_solver.Paths.{IsListed}
use Rattle.pass_fetch_proof.specs.pass_intrinsics.Shapes.{back_label, suspends_of, with_suspend, with_suspends_by, with_suspends_in}
use Rattle.pass_fetch_proof.specs.pass_intrinsics.declared.shape.Part.{Part}
use Rattle.pass_fetch_proof.specs.pass_intrinsics.declared.shape.Shape.{Shape}
use Rattle.pass_fetch_proof.specs.pass_intrinsics.declared.shape.SuspendPoint.{SuspendPoint}
use Rattle.ir_model.specs.declared.instr.Instr.{Instr}
use Rattle.ir_model.specs.declared.module.Block.{Block}
use Rattle.ir_model.specs.declared.module.Function.{Function}
use Rattle.ir_model.specs.declared.operand.Callee.{Callee}
use Rattle.ir_model.specs.declared.operand.Intrinsic.{Intrinsic}
use Rattle.pass_fetch_proof.proofs.rule_laws.frames.uses.Quiet.{suspends}
use Rattle.pass_exits_proof.proofs.split.uses.Sources.{NoSuspends}
use Rattle.pass_fetch_proof.proofs.rule_laws.frames.replaced.Saves.{all_one}

module _ (s : Shape) (part : Part) where
  abbrev origin_of : Block → Origin
  origin_of b = origin_in s part (Origin.Piece b.label) b.instrs

  -- by a block, or from before
  by_block : (table : List Origin) (bs : List Block) (k : ℕ) (o : Origin) → slice_get (origins_by s part table bs) k ≡ Some o → ((b : Block) × (IsListed b bs × ((b.label ≡ k) × (o ≡ origin_of b)))) ⊎ (slice_get table k ≡ Some o)
  by_block table [] k o e = inr e
  by_block table (b ∷ bs) k o e =
      ⊎_elim
      (λ x. inl (x.0, (inr x.1.0, x.1.1)))
      (λ d. ⊎_elim (λ p. inl (b, (inl refl, (sym p.0, p.1)))) (λ p. inr p) (set_or table b.label (origin_of b) k o d))
      (by_block (slice_set table b.label (origin_of b)) bs k o e)

  blocks_length : (table : List Origin) (bs : List Block) → length (origins_by s part table bs) ≡ length table
  blocks_length table [] = refl
  blocks_length table (b ∷ bs) = blocks_length (slice_set table b.label (origin_of b)) bs ∙ set_length table b.label (origin_of b)

  suspends_length : (table : List Origin) (j : ℕ) (ps : List SuspendPoint) → length (suspend_origins table j ps) ≡ length table
  suspends_length table j [] = refl
  suspends_length table j (p ∷ ps) = suspends_length (slice_set table p.block (Origin.Suspend j)) (j + 1) ps ∙ set_length table p.block (Origin.Suspend j)

  -- an origin that is no suspend's is from before, and no suspend's block has it
  no_suspend : (table : List Origin) (j : ℕ) (ps : List SuspendPoint) (k l : ℕ) → slice_get (suspend_origins table j ps) k ≡ Some (Origin.Piece l) → (slice_get table k ≡ Some (Origin.Piece l)) × ((p : SuspendPoint) → IsListed p ps → p.block ≡ k → ⊥)
  no_suspend table j [] k l e = (e, (λ p none d. none))
  no_suspend table j (p ∷ ps) k l e =
      let more = no_suspend (slice_set table p.block (Origin.Suspend j)) (j + 1) ps k l e in
      let before : slice_get table k ≡ Some (Origin.Piece l) =
      ⊎_elim (λ x. let t : Origin.Piece l ≡ Origin.Suspend j = x.1 in absurd (cc)) (λ d. d) (set_or table p.block (Origin.Suspend j) k (Origin.Piece l) more.0) in (
        before,
        (λ r m d. on before more.0 more.1 r m d),
      )
    where
      on : slice_get table k ≡ Some (Origin.Piece l) → slice_get (slice_set table p.block (Origin.Suspend j)) k ≡ Some (Origin.Piece l) → ((r : SuspendPoint) → IsListed r ps → r.block ≡ k → ⊥) → (r : SuspendPoint) → IsListed r (p ∷ ps) → r.block ≡ k → ⊥
      on before now more r (inl same) d =
          let at : p.block ≡ k = ap (λ (x : SuspendPoint). x.block) (sym same) ∙ d in
          let low : p.block < length table = subst (λ (n : ℕ). n < length table) (sym at) (get_within table k (Origin.Piece l) before) in
          let both : Some (Origin.Suspend j) ≡ Some (Origin.Piece l) = sym (set_here table p.block (Origin.Suspend j) low) ∙ ap (slice_get (slice_set table p.block (Origin.Suspend j))) at ∙ now in
          absurd (cc)
      on before now more r (inr m) d = more r m d

-- ---- the suspends of a block

one_kept : (all : List SuspendPoint) (b : Block) (i : Instr) (p : SuspendPoint) → IsListed p all → IsListed p (with_suspend all b i)
one_kept all b (Instr.Call r must_tail ty (Callee.Intrinsic Intrinsic.CoroSuspend) args) p l = listed_left p all (_ ∷ []) l
one_kept all b _ p l = l

instrs_kept : (all : List SuspendPoint) (b : Block) (is : List Instr) (p : SuspendPoint) → IsListed p all → IsListed p (with_suspends_in all b is)
instrs_kept all b [] p l = l
instrs_kept all b (i ∷ is) p l = instrs_kept (with_suspend all b i) b is p (one_kept all b i p l)

blocks_kept : (all : List SuspendPoint) (bs : List Block) (p : SuspendPoint) → IsListed p all → IsListed p (with_suspends_by all bs)
blocks_kept all [] p l = l
blocks_kept all (b ∷ bs) p l = blocks_kept (with_suspends_in all b b.instrs) bs p (instrs_kept all b b.instrs p l)

-- a suspend of a list, with the label of its block
abbrev IsThere : List SuspendPoint → ℕ → Type 0
IsThere all label = (p : SuspendPoint) × (IsListed p all × (p.block ≡ label))

one_there : (all : List SuspendPoint) (b : Block) (i : Instr) → suspends i ≡ true → IsThere (with_suspend all b i) b.label
one_there all b (Instr.Call r must_tail ty (Callee.Intrinsic Intrinsic.CoroSuspend) args) e = (_, (listed_right _ all (_ ∷ []) (inl refl), refl))
one_there all b _ e = absurd (cc)

instrs_there : (all : List SuspendPoint) (b : Block) (is : List Instr) (i : Instr) → IsListed i is → suspends i ≡ true → IsThere (with_suspends_in all b is) b.label
instrs_there all b [] i l e = absurd l
instrs_there all b (j ∷ is) i (inl same) e = let x = one_there all b j (ap suspends (sym same) ∙ e) in (x.0, (instrs_kept (with_suspend all b j) b is x.0 x.1.0, x.1.1))
instrs_there all b (j ∷ is) i (inr l) e = instrs_there (with_suspend all b j) b is i l e

blocks_there : (all : List SuspendPoint) (bs : List Block) (b : Block) (i : Instr) → IsListed b bs → IsListed i b.instrs → suspends i ≡ true → IsThere (with_suspends_by all bs) b.label
blocks_there all [] b i l m e = absurd l
blocks_there all (c ∷ bs) b i (inl same) m e =
    let x = instrs_there all c c.instrs i (subst (λ (y : Block). IsListed i y.instrs) same m) e in
    (x.0, (blocks_kept (with_suspends_in all c c.instrs) bs x.0 x.1.0, x.1.1 ∙ ap (λ (y : Block). y.label) (sym same)))
blocks_there all (c ∷ bs) b i (inr l) m e = blocks_there (with_suspends_in all c c.instrs) bs b i l m e

-- the suspends of a function have those of each of its blocks
pub suspend_there : (f : Function) (b : Block) (i : Instr) → IsListed b f.blocks → IsListed i b.instrs → suspends i ≡ true → (p : SuspendPoint) × (IsListed p (suspends_of f) × (p.block ≡ b.label))
suspend_there f b i l m e = blocks_there [] f.blocks b i l m e

pub no_suspends : (is : List Instr) → ((i : Instr) → IsListed i is → suspends i ≡ true → ⊥) → NoSuspends is
no_suspends [] h = tt
no_suspends (i ∷ is) h = (on (suspends i) refl, no_suspends is (λ j l. h j (inr l)))
  where
    on : (b : Bool) → suspends i ≡ b → b ≡ false
    on true e = absurd (h i (inl refl) e)
    on false e = refl

-- ---- the labels of phis

module _ (s : Shape) (part : Part) (n : ℕ) (blocks : List Block) where
  abbrev table : List Origin
  table = origins_of s part (replicate n Origin.Nowhere) blocks

  table_length : length (origins_of s part (replicate n Origin.Nowhere) blocks) ≡ n
  table_length = suspends_length s part (origins_by s part (replicate n Origin.Nowhere) blocks) 0 s.suspends ∙ blocks_length s part (replicate n Origin.Nowhere) blocks ∙ many n
    where
      many : (k : ℕ) → length (replicate k Origin.Nowhere) ≡ k
      many zero = refl
      many (suc k) = ap suc (many k)

  none_past : (xs : List Origin) (k : ℕ) → k < length xs → slice_get xs k ≡ None → ⊥
  none_past [] k low e = absurd (omega (arith, low))
  none_past (x ∷ xs) zero low e = absurd (cc)
  none_past (x ∷ xs) (suc k) low e = none_past xs k (omega (arith, low)) e

  -- a phi's operand that stays comes from a piece, where no phi takes one from a suspend
  pub from_piece : (label from l : ℕ) → from < n → ((p : SuspendPoint) (j : ℕ) → slice_get s.suspends j ≡ Some p → (to : ℕ) → going_on part (Some p) ≡ Some to → to ≡ label → ⊥) → comes_from s part label from (slice_get table from) ≡ Some l → (b : Block) × (IsListed b blocks × ((b.label ≡ from) × ((origin_in s part (Origin.Piece b.label) b.instrs ≡ Origin.Piece l) × ((p : SuspendPoint) → IsListed p s.suspends → p.block ≡ from → ⊥))))
  from_piece label from l low never e = on (slice_get table from) refl e
    where
      same_label : (o : Option ℕ) (back : ℕ) → if_same label o back ≡ Some l → (to : ℕ) × ((o ≡ Some to) × (to ≡ label))
      same_label None back h = absurd (cc)
      same_label (Some to) back h = test (to == label) refl h
        where
          test : (b : Bool) → (to == label) ≡ b → (if b then Some back else None) ≡ Some l → (t : ℕ) × ((Some to ≡ Some t) × (t ≡ label))
          test true d k = (to, (refl, equal_numbers to label d))
          test false d k = absurd (cc)

      suspended : (j : ℕ) (o : Option SuspendPoint) → slice_get s.suspends j ≡ o → if_same label (going_on part o) (back_label s j) ≡ Some l → ⊥
      suspended j None d h = absurd (cc)
      suspended j (Some p) d h = let x = same_label (going_on part (Some p)) (back_label s j) h in never p j d x.0 x.1.0 x.1.1

      on : (o : Option Origin) → slice_get table from ≡ o → comes_from s part label from o ≡ Some l → (b : Block) × (IsListed b blocks × ((b.label ≡ from) × ((origin_in s part (Origin.Piece b.label) b.instrs ≡ Origin.Piece l) × ((p : SuspendPoint) → IsListed p s.suspends → p.block ≡ from → ⊥))))
      on None d h = let long = table_length in absurd (none_past table from (omega (arith, low, long)) d)
      on (Some (Origin.Piece k)) d h =
          let same : k ≡ l = cc in
          let x = no_suspend s part (origins_by s part (replicate n Origin.Nowhere) blocks) 0 s.suspends from k d in
          ⊎_elim
          (λ y. (y.0, (y.1.0, (y.1.1.0, (sym y.1.1.1 ∙ ap (λ (z : ℕ). Origin.Piece z) same, x.1)))))
          (λ z. let t : Origin.Piece k ≡ Origin.Nowhere = all_one n Origin.Nowhere from (Origin.Piece k) z in absurd (cc))
          (by_block s part (replicate n Origin.Nowhere) blocks from (Origin.Piece k) x.0)
      on (Some (Origin.Suspend j)) d h = absurd (suspended j (slice_get s.suspends j) refl h)
      on (Some Origin.Nowhere) d h = absurd (cc)

-- What is needed behind a suspend by the analysis of frames is read there, if it is a value that the frame keeps.
use Rattle.std.proofs.Common.{◌≡◌, inl, inr, ℕ, zero, suc, Bool, true, false, List, [], ◌∷◌, map, Option, Some, None}
use Rattle.std.proofs.Common.{refl, sym, ap, ◌∙◌, subst}
use Rattle.std.specs.List.{list_any}
use Rattle.std.specs.Prelude.{if◌then◌else◌, slice_get, ◌==◌, ◌||◌}
use Rattle.compiler_theorem.proofs.theorem.shown.Reading.{IsUntaken, use_reads}
use Rattle.compiler.specs.flow_solver.Paths.{IsListed}
use Rattle.compiler.specs.frame_crossing.EdgeUses.{IsUsedOn}
use Rattle.compiler.specs.frame_crossing.Paths as crossing
use Rattle.compiler.proofs.ir_laws.facts.Truth.{equal_numbers, itself}
use Rattle.compiler.specs.ir_laws.paths.woven_rules.Pairs.{AreDifferent}
use Rattle.compiler.specs.ir_model.Names.{is_local, position_of}
use Rattle.compiler.specs.ir_model.Ty.{token}
use Rattle.compiler.specs.ir_model.declared.instr.Incoming.{Incoming}
use Rattle.compiler.specs.ir_model.declared.instr.Instr.{Instr}
use Rattle.compiler.specs.ir_model.declared.instr.Phi.{Phi}
use Rattle.compiler.specs.ir_model.declared.module.Block.{Block}
use Rattle.compiler.specs.ir_model.declared.module.Function.{Function}
use Rattle.compiler.specs.ir_model.declared.module.Module.{Module}
use Rattle.compiler.specs.ir_model.declared.operand.Intrinsic.{Intrinsic}
use Rattle.compiler.specs.ir_model.declared.operand.Operand.{Operand}
use Rattle.compiler.specs.ir_parts.Contents.{result_of}
use Rattle.compiler.specs.ir_paths.Paths.{targets}
use Rattle.compiler.specs.ir_paths.Slots.{has_name}
use Rattle.compiler.specs.ir_paths.Windows.{destroy_label, is_call_of, resume_label}
use Rattle.compiler.specs.ir_paths.declared.point.Point.{Point}
use Rattle.compiler.proofs.pass_kept_proof.Read.{given_result, phi_made}
use Rattle.compiler.specs.pass_kept_proof.Needed.{BranchesTo, IsNeeded, IsNeededBehind, IsNeededOn, PassesBy, enter}
use Rattle.compiler.specs.pass_kept_proof.Needed.{label_of_block}
use Rattle.compiler.specs.pass_kept_proof.Needed.{next, phi, phis_at, phis_give, phis_read, read}
use Rattle.compiler.proofs.pass_proofs.edges.rules.EdgeUses.{label_there}
use Rattle.compiler.specs.rule_laws.rules.woven_rules.Pairs.{AreIncomingOnce}
use Rattle.compiler.proofs.rule_laws.frames.rows.EdgeUses.{taken_by}
use Rattle.compiler.specs.rule_values.Fits.{fits_kind}
use Rattle.compiler.specs.rule_values.Kinds.{value_kind}
use Rattle.pass_frames_meaning.specs.run_types.Rules.{KeepsTypes}
use Rattle.compiler.specs.run_step.Step.{AtInstr, AtTerm, Fetched, Nowhere, fetch, fetch_in, incoming_from, label_of}
use Rattle.compiler.specs.run_step.Step.{phis_of}

-- ---- labels of phis

name_listed : (v : ℕ) (xs : List ℕ) → IsListed v xs → has_name xs v ≡ true
name_listed v [] l = absurd l
name_listed v (x ∷ xs) (inl e) = ap (λ (b : Bool). b || has_name xs v) (ap (λ (n : ℕ). n == v) (sym e) ∙ itself v)
name_listed v (x ∷ xs) (inr l) = more (x == v) (name_listed v xs l)
  where
    more : (b : Bool) → has_name xs v ≡ true → (b || has_name xs v) ≡ true
    more true h = refl
    more false h = h

from_listed : (is : List Incoming) (n : ℕ) (i : Incoming) → slice_get is n ≡ Some i
    → IsListed i.from (map (λ (j : Incoming). j.from) is)
from_listed [] n i e = absurd (cc)
from_listed (j ∷ is) zero i e = let same : j ≡ i = cc in inl (sym (ap (λ (k : Incoming). k.from) same))
from_listed (j ∷ is) (suc n) i e = inr (from_listed is n i e)

-- where each label stands once, a phi takes the operand of its label
incoming_own : (is : List Incoming) → AreDifferent (map (λ (j : Incoming). j.from) is) → (n : ℕ) (i : Incoming)
    → slice_get is n ≡ Some i → incoming_from is i.from ≡ i.value
incoming_own [] h n i e = absurd (cc)
incoming_own (j ∷ is) h zero i e =
    let same : j ≡ i = cc in
    ap (λ (b : Bool). if b then j.value else incoming_from is i.from)
    (ap (λ (k : Incoming). k.from == i.from) same ∙ itself i.from) ∙ ap (λ (k : Incoming). k.value) same
incoming_own (j ∷ is) h (suc n) i e = on (j.from == i.from) refl (incoming_own is h.1 n i e)
  where
    on : (b : Bool) → (j.from == i.from) ≡ b → incoming_from is i.from ≡ i.value
        → (if b then j.value else incoming_from is i.from) ≡ i.value
    on true d k = absurd (h.0 (subst (λ (z : ℕ). IsListed z (map (λ (q : Incoming). q.from) is))
        (sym (equal_numbers j.from i.from d)) (from_listed is n i e)))
    on false d k = k

any_at : (test : Phi → Bool) (ps : List Phi) (n : ℕ) (p : Phi) → slice_get ps n ≡ Some p → test p ≡ true
    → list_any test ps ≡ true
any_at test [] n p e h = absurd (cc)
any_at test (q ∷ ps) zero p e h =
    let same : q ≡ p = cc in ap (λ (b : Bool). b || list_any test ps) (ap test same ∙ h)
any_at test (q ∷ ps) (suc n) p e h = more (test q) (any_at test ps n p e h)
  where
    more : (b : Bool) → list_any test ps ≡ true → (b || list_any test ps) ≡ true
    more true k = refl
    more false k = k

branch_there : (label : ℕ) (x : Fetched) → crossing.BranchesTo label x → BranchesTo label x
branch_there label Nowhere h = h
branch_there label (AtInstr i) h = h
branch_there label (AtTerm t) h = name_listed label (targets t) h

-- ---- needs

module _ (m : Module) (f : Function) (types : KeepsTypes m f) (v : ℕ)
    (scalar : fits_kind (value_kind f v) token ≡ true → ⊥)
    (labels : (k : ℕ) (b : Block) → slice_get f.blocks k ≡ Some b → position_of f b.label ≡ k)
    (once : AreIncomingOnce f)
    (untaken : (block at : ℕ) → crossing.IsOutside f block → IsUntaken m f types v scalar block at) where
  phis_taken : (from to : ℕ) (b : Block) → slice_get f.blocks from ≡ Some b → IsUsedOn f v from to
      → phis_read v (label_of_block f from) (phis_of (slice_get f.blocks to)) ≡ true
  phis_taken from to b there l =
      let x = taken_by f v from to l in
      let label : label_of_block f from ≡ x.incoming.from =
      ap label_of there ∙ label_there f x.incoming.from from b x.source there in
      let own : incoming_from x.phi.incoming (label_of_block f from) ≡ Operand.Local v =
      ap (incoming_from x.phi.incoming) label
      ∙ incoming_own x.phi.incoming (once to x.at x.block x.phi x.got x.stands) x.index x.incoming x.there ∙ x.value in
      ap (λ (o : Option Block). phis_read v (label_of_block f from) (phis_of o)) x.got
      ∙ any_at (λ (p : Phi). is_local v (incoming_from p.incoming (label_of_block f from))) x.block.phis x.at x.phi
      x.stands (ap (is_local v) own ∙ itself v)

  not_given : (label : ℕ) → (IsListed v (crossing.phis_at f (position_of f label)) → ⊥)
      → phis_give v (phis_at f label) ≡ false
  not_given label none = on (slice_get f.blocks (position_of f label)) refl
    where
      by : (b : Block) → slice_get f.blocks (position_of f label) ≡ Some b → (t : Bool) → phis_give v b.phis ≡ t
          → t ≡ false
      by b e false d = refl
      by b e true d = absurd (none (subst (λ (o : Option Block). IsListed v (crossing.phis_in o)) (sym e)
          (phi_made v b.phis [] d)))

      on : (o : Option Block) → slice_get f.blocks (position_of f label) ≡ o → phis_give v (phis_of o) ≡ false
      on None e = refl
      on (Some b) e = by b e (phis_give v b.phis) refl

  block_there : (block at label : ℕ) → crossing.BranchesTo label (fetch f block at)
      → (b : Block) × (slice_get f.blocks block ≡ Some b)
  block_there block at label h = on (slice_get f.blocks block) refl h
    where
      on : (o : Option Block) → slice_get f.blocks block ≡ o → crossing.BranchesTo label (fetch_in o at)
          → (b : Block) × (slice_get f.blocks block ≡ Some b)
      on None e k = absurd k
      on (Some b) e k = (b, e)

  passes : (block at : ℕ) (i : Instr) → crossing.IsOutside f block → fetch f block at ≡ AtInstr i
      → (result_of i ≡ Some v → ⊥) → PassesBy v (AtInstr i)
  passes block at i out e none = (on (is_call_of Intrinsic.CoroEnd i) refl, λ g. none (given_result i v g))
    where
      on : (b : Bool) → is_call_of Intrinsic.CoroEnd i ≡ b → b ≡ false
      on false d = refl
      on true d = absurd ((untaken block at out).ends i e d)

  needed : {block at : ℕ} → crossing.IsNeeded f v block at → IsNeeded f v block at
  needed (crossing.Use block at out l) = read (use_reads m f types v scalar block at (untaken block at out) l)
  needed (crossing.Next block at i out e none n) =
      next (subst (PassesBy v) (sym e) (passes block at i out e none)) (needed n)
  needed (crossing.OnEdge block at label out b l) =
      let x = block_there block at label b in
      phi label (branch_there label (fetch f block at) b) (phis_taken block (position_of f label) x.0 x.1 l)
  needed (crossing.Across block at label out b none n) =
      enter label (branch_there label (fetch f block at) b) (not_given label none) (needed n)

  needed_on : (block label : ℕ) (b : Block) → slice_get f.blocks block ≡ Some b
      → crossing.IsNeededFrom f v block label → IsNeededOn f v block label
  needed_on block label b there (inl l) = inl (phis_taken block (position_of f label) b there l)
  needed_on block label b there (inr n) = inr (not_given label n.0, needed n.1)

  pub needed_behind : (s : Point) (b : Block) → slice_get f.blocks s.block ≡ Some b → crossing.IsNeededBehind f v s
      → IsNeededBehind f s v
  needed_behind s b there (inl n) = inl (needed_on s.block (resume_label f s) b there n)
  needed_behind s b there (inr n) = inr (needed_on s.block (destroy_label f s) b there n)

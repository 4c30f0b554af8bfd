-- A value that is needed where instructions are put in that don't use it, and others go that don't make it, was needed before.
use Rattle.std.proofs.Common.{◌≡◌, inl, inr, ℕ, ◌+◌, List, [], ◌∷◌, ◌++◌, refl, sym, ap, ◌∙◌, subst}
use Rattle.std.specs.Prelude.{None, Option, Some, slice_get}
use Rattle.rule_laws.proofs.rules.crossing.Follows.{IsExtra, Uses}
use Rattle.ir_laws.proofs.paths.crossing.Spots.{Spot, spot_first, spot_instr, spot_next, spot_term}
use Rattle.rule_laws.proofs.frames.crossing.Spots.{none_needed}
use Rattle.rule_uses.specs.Uses.{locals_in}
use Rattle.ir_laws.specs.flow_solver.Paths.{IsListed}
use Rattle.ir_parts.specs.Contents.{ending_operands, result_of}
use Rattle.ir_laws.specs.ir_model.Names.{position_of}
use Rattle.ir_laws.specs.ir_model.declared.instr.Instr.{Instr}
use Rattle.ir_laws.specs.ir_model.declared.instr.Terminator.{Terminator}
use Rattle.ir_laws.specs.ir_model.declared.module.Block.{Block}
use Rattle.ir_laws.specs.ir_model.declared.module.Function.{Function}
use Rattle.ir_laws.specs.ir_paths.Paths.{targets}
use Rattle.ir_laws.specs.ir_paths.Windows.{end_block}
use Rattle.ir_laws.specs.run_step.Step.{AtInstr, AtTerm, Fetched, fetch}
use Rattle.ir_laws.specs.run_laws.changed.Changed.{Each}
use Rattle.frame_contents.specs.frame_crossing.EdgeUses.{IsUsedOn}
use Rattle.frame_contents.specs.frame_crossing.Paths.{Across, BranchesTo, IsNeeded, IsNeededFrom, IsOutside, Next, OnEdge, Use, phis_at, used_by}

-- Others are put in that neither use nor make the value, and others go that don't make it; those that stay use it only where they did.
pub data Follows (v : ℕ) : List Instr → List Instr → Type 0 where
  Ended : Follows v [] []
  Extra : (j : Instr) (is js : List Instr) → IsExtra v j → Follows v is js → Follows v is (j ∷ js)
  Left : (i : Instr) (is js : List Instr) → (result_of i ≡ Some v → ⊥) → Follows v is js → Follows v (i ∷ is) js
  Same : (i j : Instr) (is js : List Instr) → (Uses v j → Uses v i) → result_of j ≡ result_of i → Follows v is js → Follows v (i ∷ is) (j ∷ js)

pub extras_follow : (v : ℕ) (xs is js : List Instr) → Each (IsExtra v) xs → Follows v is js → Follows v is (xs ++ js)
extras_follow v [] is js h rest = rest
extras_follow v (x ∷ xs) is js h rest = Extra x is (xs ++ js) h.0 (extras_follow v xs is js h.1 rest)

-- what a terminator uses, and where it leads
pub record IsTermLike (v : ℕ) (t u : Terminator) : Type 0 where
  pub uses : IsListed v (locals_in (ending_operands u)) → IsListed v (locals_in (ending_operands t))
  pub leads : targets u ≡ targets t

-- a block of the result
pub record IsBlockLike (v : ℕ) (g : Function) (q : ℕ) (b : Block) : Type 0 where
  pub block : Block
  pub got : slice_get g.blocks q ≡ Some block
  pub follows : Follows v b.instrs block.instrs
  pub term : IsTermLike v b.term block.term

-- the result has the blocks and edges of the function, and uses the value only where that does
pub record IsLike (v : ℕ) (f g : Function) : Type 0 where
  pub position : (label : ℕ) → position_of g label ≡ position_of f label
  pub end : end_block g ≡ end_block f
  pub blocks : (q : ℕ) (b : Block) → slice_get f.blocks q ≡ Some b → (q ≡ 0 → ⊥) → IsBlockLike v g q b
  pub none : (q : ℕ) → slice_get f.blocks q ≡ None → slice_get g.blocks q ≡ None
  pub edges : (from to : ℕ) → IsUsedOn g v from to → IsUsedOn f v from to
  pub phis : (q : ℕ) → phis_at g q ≡ phis_at f q
  pub entered : (q at label : ℕ) → BranchesTo label (fetch f q at) → position_of f label ≡ 0 → ⊥

module _ (v : ℕ) (f g : Function) (like : IsLike v f g) where
  outside : (q : ℕ) → IsOutside g q → IsOutside f q
  outside q out e = out (e ∙ sym like.end)

  leads_same : (q at x label : ℕ) (b c : Block) → fetch g q at ≡ AtTerm c.term → fetch f q x ≡ AtTerm b.term → targets c.term ≡ targets b.term → BranchesTo label (fetch g q at) → BranchesTo label (fetch f q x)
  leads_same q at x label b c d e same h = subst (BranchesTo label) (sym e) (subst (λ (ts : List ℕ). IsListed label ts) same (subst (BranchesTo label) d h))

  -- from the front of a block
  front_needed : (q : ℕ) → (q ≡ 0 → ⊥) → ((b c : Block) (is js : List Instr) → Spot f q 0 b is → Spot g q 0 c js → Follows v is js → IsTermLike v b.term c.term → IsNeeded f v q 0) → (slice_get g.blocks q ≡ None → ⊥) → IsNeeded f v q 0
  front_needed q other rec some = on (slice_get f.blocks q) refl
    where
      on : (o : Option Block) → slice_get f.blocks q ≡ o → IsNeeded f v q 0
      on None e = absurd (some (like.none q e))
      on (Some b) e = let x = like.blocks q b e other in rec b x.block b.instrs x.block.instrs (spot_first f q b e) (spot_first g q x.block x.got) x.follows x.term

  not_entry : (q at label : ℕ) → BranchesTo label (fetch f q at) → position_of g label ≡ 0 → ⊥
  not_entry q at label h e = like.entered q at label h (sym (like.position label) ∙ e)

  -- an instruction of the function that goes stands in front
  needed_left : (q x : ℕ) (b : Block) (i : Instr) (is : List Instr) → IsOutside g q → Spot f q x b (i ∷ is) → (result_of i ≡ Some v → ⊥) → IsNeeded f v q (x + 1) → IsNeeded f v q x
  needed_left q x b i is out sf other rest = Next q x i (outside q out) (spot_instr f q x b i is sf) other rest

  out_of : (q at : ℕ) → IsNeeded g v q at → IsOutside g q
  out_of _ _ (Use q at out used) = out
  out_of _ _ (Next q at i out e other rest) = out
  out_of _ _ (OnEdge q at label out leads used) = out
  out_of _ _ (Across q at label out leads phis rest) = out

  needed_old : (q at : ℕ) → IsNeeded g v q at → (b c : Block) (is js : List Instr) (x : ℕ) → Spot f q x b is → Spot g q at c js → Follows v is js → IsTermLike v b.term c.term → IsNeeded f v q x
  needed_old q at n b c _ _ x sf sg (Left i is js other rest) term =
      needed_left q x b i is (out_of q at n) sf other (needed_old q at n b c is js (x + 1) (spot_next f q x b i is sf) sg rest term)
  needed_old _ _ (Use q at out used) b c _ _ x sf sg Ended term =
      Use q x (outside q out) (subst (λ (y : Fetched). IsListed v (used_by y)) (sym (spot_term f q x b sf)) (term.uses (subst (λ (y : Fetched). IsListed v (used_by y)) (spot_term g q at c sg) used)))
  needed_old _ _ (Use q at out used) b c _ _ x sf sg (Extra j is js extra rest) term =
      absurd (extra.unused (subst (λ (y : Fetched). IsListed v (used_by y)) (spot_instr g q at c j js sg) used))
  needed_old _ _ (Use q at out used) b c _ _ x sf sg (Same i j is js uses same rest) term =
      Use q x (outside q out) (subst (λ (y : Fetched). IsListed v (used_by y)) (sym (spot_instr f q x b i is sf)) (uses (subst (λ (y : Fetched). IsListed v (used_by y)) (spot_instr g q at c j js sg) used)))
  needed_old _ _ (Next q at y out is_y other more) b c _ _ x sf sg Ended term =
      let both : AtTerm c.term ≡ AtInstr y = sym (spot_term g q at c sg) ∙ is_y in absurd (cc)
  needed_old _ _ (Next q at y out is_y other more) b c _ _ x sf sg (Extra j is js extra rest) term =
      needed_old q (at + 1) more b c is js x sf (spot_next g q at c j js sg) rest term
  needed_old _ _ (Next q at y out is_y other more) b c _ _ x sf sg (Same i j is js uses same rest) term =
      let both : AtInstr j ≡ AtInstr y = sym (spot_instr g q at c j js sg) ∙ is_y in
      let one : j ≡ y = cc in
      Next q x i (outside q out) (spot_instr f q x b i is sf) (λ e. other (ap result_of (sym one) ∙ same ∙ e))
      (needed_old q (at + 1) more b c is js (x + 1) (spot_next f q x b i is sf) (spot_next g q at c j js sg) rest term)
  needed_old _ _ (OnEdge q at label out leads used) b c _ _ x sf sg Ended term =
      OnEdge q x label (outside q out) (leads_same q at x label b c (spot_term g q at c sg) (spot_term f q x b sf) term.leads leads)
      (subst (λ (to : ℕ). IsUsedOn f v q to) (like.position label) (like.edges q (position_of g label) used))
  needed_old _ _ (OnEdge q at label out leads used) b c _ _ x sf sg (Extra j is js extra rest) term = absurd (subst (BranchesTo label) (spot_instr g q at c j js sg) leads)
  needed_old _ _ (OnEdge q at label out leads used) b c _ _ x sf sg (Same i j is js uses same rest) term = absurd (subst (BranchesTo label) (spot_instr g q at c j js sg) leads)
  needed_old _ _ (Across q at label out leads phis more) b c _ _ x sf sg Ended term =
      let there : BranchesTo label (fetch f q x) = leads_same q at x label b c (spot_term g q at c sg) (spot_term f q x b sf) term.leads leads in
      let r = front_needed (position_of g label) (not_entry q x label there) (λ b2 c2 is2 js2 sf2 sg2 fo2 term2. needed_old (position_of g label) 0 more b2 c2 is2 js2 0 sf2 sg2 fo2 term2) (none_needed g v (position_of g label) 0 more) in
      Across q x label (outside q out) there (λ l. phis (subst (λ (l2 : List ℕ). IsListed v l2) (sym (like.phis (position_of g label) ∙ ap (phis_at f) (like.position label))) l)) (subst (λ (n : ℕ). IsNeeded f v n 0) (like.position label) r)
  needed_old _ _ (Across q at label out leads phis more) b c _ _ x sf sg (Extra j is js extra rest) term = absurd (subst (BranchesTo label) (spot_instr g q at c j js sg) leads)
  needed_old _ _ (Across q at label out leads phis more) b c _ _ x sf sg (Same i j is js uses same rest) term = absurd (subst (BranchesTo label) (spot_instr g q at c j js sg) leads)

  -- behind an edge that doesn't lead to the entry block
  pub needed_from : (q label : ℕ) → (position_of f label ≡ 0 → ⊥) → IsNeededFrom g v q label → IsNeededFrom f v q label
  needed_from q label other (inl used) = inl (subst (λ (to : ℕ). IsUsedOn f v q to) (like.position label) (like.edges q (position_of g label) used))
  needed_from q label other (inr h) =
      let at : ℕ = position_of g label in
      let r = front_needed at (λ e. other (sym (like.position label) ∙ e)) (λ b2 c2 is2 js2 sf2 sg2 fo2 term2. needed_old at 0 h.1 b2 c2 is2 js2 0 sf2 sg2 fo2 term2) (none_needed g v at 0 h.1) in
      inr (λ l. h.0 (subst (λ (l2 : List ℕ). IsListed v l2) (sym (like.phis at ∙ ap (phis_at f) (like.position label))) l), subst (λ (n : ℕ). IsNeeded f v n 0) (like.position label) r)

-- An old value that is needed where values are kept was needed, and isn't kept.
use Rattle.std.proofs.Common.{◌≡◌, ◌⊎◌, inl, inr, ⊎_elim, ℕ, ◌+◌, List, [], refl, sym, ap, ◌∙◌, subst}
use Rattle.std.specs.Prelude.{Option, Some, None, slice_get}
use Rattle.rule_laws.proofs.rules.crossing.Follows.{Ended, Extra, Follows, Same}
use Rattle.ir_laws.proofs.paths.crossing.Spots.{Spot, listed_or, spot_first, spot_instr, spot_next, spot_term}
use Rattle.rule_laws.proofs.frames.crossing.Spots.{none_needed}
use Rattle.rule_laws.proofs.rules.counted.Members.{phis_made}
use Rattle.rule_uses.specs.Uses.{locals_in, phi_values}
use Rattle.ir_laws.proofs.facts.Lists.{phi_names}
use Rattle.ir_laws.specs.flow_solver.Paths.{IsListed}
use Rattle.ir_parts.specs.Contents.{ending_operands, instr_operands, result_of}
use Rattle.ir_laws.specs.ir_model.Names.{position_of}
use Rattle.ir_laws.specs.ir_model.declared.instr.Instr.{Instr}
use Rattle.ir_laws.specs.ir_model.declared.instr.Terminator.{Terminator}
use Rattle.ir_laws.specs.ir_model.declared.module.Block.{Block}
use Rattle.ir_laws.specs.ir_model.declared.module.Function.{Function}
use Rattle.ir_laws.specs.ir_paths.Paths.{targets}
use Rattle.ir_laws.specs.ir_paths.Windows.{destroy_label, end_block, resume_label}
use Rattle.ir_laws.specs.ir_paths.declared.point.Point.{Point}
use Rattle.ir_laws.specs.run_step.Step.{AtInstr, AtTerm, Fetched, fetch}
use Rattle.frame_contents.specs.frame_crossing.EdgeUses.{IsUsedOn}
use Rattle.frame_contents.specs.frame_crossing.Paths.{Across, BranchesTo, IsNeeded, IsNeededBehind, IsNeededFrom, IsOutside, Next, OnEdge, Use, phis_at, phis_in, used_by}

-- what a terminator uses, and where it leads
pub record IsTermLike (kept : ℕ → Type 0) (v : ℕ) (t u : Terminator) : Type 0 where
  pub uses : IsListed v (locals_in (ending_operands u)) → IsListed v (locals_in (ending_operands t)) × (kept v → ⊥)
  pub leads : targets u ≡ targets t

-- a block of the result
pub record IsBlockLike (kept : ℕ → Type 0) (v : ℕ) (g : Function) (q : ℕ) (b : Block) : Type 0 where
  pub block : Block
  pub got : slice_get g.blocks q ≡ Some block
  pub follows : (IsListed v (phi_names b.phis) → ⊥) → Follows kept v b.instrs block.instrs
  pub term : IsTermLike kept v b.term block.term

-- the result has the blocks and edges of the function, and uses the value where that does, unless it is kept
pub record IsLike (kept : ℕ → Type 0) (v : ℕ) (f g : Function) : Type 0 where
  pub position : (label : ℕ) → position_of g label ≡ position_of f label
  pub end : end_block g ≡ end_block f
  pub blocks : (q : ℕ) (b : Block) → slice_get f.blocks q ≡ Some b → (q ≡ 0 → ⊥) → IsBlockLike kept v g q b
  pub none : (q : ℕ) → slice_get f.blocks q ≡ None → slice_get g.blocks q ≡ None
  pub edges : (from to : ℕ) → IsUsedOn g v from to → IsUsedOn f v from to × (kept v → ⊥)
  pub phis : (q : ℕ) → phis_at g q ≡ phis_at f q
  pub entered : (q at label : ℕ) → BranchesTo label (fetch f q at) → position_of f label ≡ 0 → ⊥

module _ (kept : ℕ → Type 0) (v : ℕ) (f g : Function) (like : IsLike kept v f g) where
  outside : (q : ℕ) → IsOutside g q → IsOutside f q
  outside q out e = out (e ∙ sym like.end)

  abbrev IsFound : ℕ → ℕ → Type 0
  IsFound q at = IsNeeded f v q at × (kept v → ⊥)

  -- a use in the function
  found_use : (q at : ℕ) (x : Fetched) → IsOutside f q → fetch f q at ≡ x → IsListed v (used_by x) × (kept v → ⊥) → IsFound q at
  found_use q at x out e h = (Use q at out (subst (λ (y : Fetched). IsListed v (used_by y)) (sym e) h.0), h.1)

  leads_same : (q at x label : ℕ) (b c : Block) → fetch g q at ≡ AtTerm c.term → fetch f q x ≡ AtTerm b.term → targets c.term ≡ targets b.term → BranchesTo label (fetch g q at) → BranchesTo label (fetch f q x)
  leads_same q at x label b c d e same h = subst (BranchesTo label) (sym e) (subst (λ (ts : List ℕ). IsListed label ts) same (subst (BranchesTo label) d h))

  -- from the front of a block
  front_needed : (q : ℕ) → (q ≡ 0 → ⊥) → (IsListed v (phis_at g q) → ⊥) → ((b c : Block) (is js : List Instr) → Spot f q 0 b is → Spot g q 0 c js → Follows kept v is js → IsTermLike kept v b.term c.term → IsFound q 0) → (slice_get g.blocks q ≡ None → ⊥) → IsFound q 0
  front_needed q other phis rec some = on (slice_get f.blocks q) refl
    where
      on : (o : Option Block) → slice_get f.blocks q ≡ o → IsFound q 0
      on None e = absurd (some (like.none q e))
      on (Some b) e =
          let x = like.blocks q b e other in
          let same : phis_at g q ≡ phi_values b = like.phis q ∙ ap phis_in e in
          rec b x.block b.instrs x.block.instrs (spot_first f q b e) (spot_first g q x.block x.got) (x.follows (λ l. phis (subst (λ (l2 : List ℕ). IsListed v l2) (sym same) (phis_made b.phis [] v l)))) x.term

  not_entry : (q at label : ℕ) → BranchesTo label (fetch f q at) → position_of g label ≡ 0 → ⊥
  not_entry q at label h e = like.entered q at label h (sym (like.position label) ∙ e)

  needed_old : (q at : ℕ) → IsNeeded g v q at → (b c : Block) (is js : List Instr) (x : ℕ) → Spot f q x b is → Spot g q at c js → Follows kept v is js → IsTermLike kept v b.term c.term → IsFound q x
  needed_old _ _ (Use q at out used) b c _ _ x sf sg Ended term =
      found_use q x (AtTerm b.term) (outside q out) (spot_term f q x b sf) (term.uses (subst (λ (y : Fetched). IsListed v (used_by y)) (spot_term g q at c sg) used))
  needed_old _ _ (Use q at out used) b c _ _ x sf sg (Extra j is js extra rest) term =
      absurd (extra.unused (subst (λ (y : Fetched). IsListed v (used_by y)) (spot_instr g q at c j js sg) used))
  needed_old _ _ (Use q at out used) b c _ _ x sf sg (Same i j is js uses same rest) term =
      found_use q x (AtInstr i) (outside q out) (spot_instr f q x b i is sf) (uses (subst (λ (y : Fetched). IsListed v (used_by y)) (spot_instr g q at c j js sg) used))
  needed_old _ _ (Next q at y out is_y other more) b c _ _ x sf sg Ended term =
      let both : AtTerm c.term ≡ AtInstr y = sym (spot_term g q at c sg) ∙ is_y in absurd (cc)
  needed_old _ _ (Next q at y out is_y other more) b c _ _ x sf sg (Extra j is js extra rest) term =
      needed_old q (at + 1) more b c is js x sf (spot_next g q at c j js sg) rest term
  needed_old _ _ (Next q at y out is_y other more) b c _ _ x sf sg (Same i j is js uses same rest) term =
      let both : AtInstr j ≡ AtInstr y = sym (spot_instr g q at c j js sg) ∙ is_y in
      let one : j ≡ y = cc in
      let other_i : result_of i ≡ Some v → ⊥ = λ e. other (ap result_of (sym one) ∙ same ∙ e) in
      ⊎_elim
      (λ u. found_use q x (AtInstr i) (outside q out) (spot_instr f q x b i is sf) (uses u))
      (λ unused.
      let r = needed_old q (at + 1) more b c is js (x + 1) (spot_next f q x b i is sf) (spot_next g q at c j js sg) (rest unused other_i) term in
      (Next q x i (outside q out) (spot_instr f q x b i is sf) other_i r.0, r.1))
      (listed_or v (locals_in (instr_operands j)))
  needed_old _ _ (OnEdge q at label out leads used) b c _ _ x sf sg Ended term =
      let r = like.edges q (position_of g label) used in (
        OnEdge q x label (outside q out) (leads_same q at x label b c (spot_term g q at c sg) (spot_term f q x b sf) term.leads leads) (subst (λ (to : ℕ). IsUsedOn f v q to) (like.position label) r.0),
        r.1,
      )
  needed_old _ _ (OnEdge q at label out leads used) b c _ _ x sf sg (Extra j is js extra rest) term = absurd (subst (BranchesTo label) (spot_instr g q at c j js sg) leads)
  needed_old _ _ (OnEdge q at label out leads used) b c _ _ x sf sg (Same i j is js uses same rest) term = absurd (subst (BranchesTo label) (spot_instr g q at c j js sg) leads)
  needed_old _ _ (Across q at label out leads phis more) b c _ _ x sf sg Ended term =
      let there : BranchesTo label (fetch f q x) = leads_same q at x label b c (spot_term g q at c sg) (spot_term f q x b sf) term.leads leads in
      let r = front_needed (position_of g label) (not_entry q x label there) phis (λ b2 c2 is2 js2 sf2 sg2 fo2 term2. needed_old (position_of g label) 0 more b2 c2 is2 js2 0 sf2 sg2 fo2 term2) (none_needed g v (position_of g label) 0 more) in (
        Across q x label (outside q out) there (λ l. phis (subst (λ (l2 : List ℕ). IsListed v l2) (sym (like.phis (position_of g label) ∙ ap (phis_at f) (like.position label))) l)) (subst (λ (n : ℕ). IsNeeded f v n 0) (like.position label) r.0),
        r.1,
      )
  needed_old _ _ (Across q at label out leads phis more) b c _ _ x sf sg (Extra j is js extra rest) term = absurd (subst (BranchesTo label) (spot_instr g q at c j js sg) leads)
  needed_old _ _ (Across q at label out leads phis more) b c _ _ x sf sg (Same i j is js uses same rest) term = absurd (subst (BranchesTo label) (spot_instr g q at c j js sg) leads)

  -- behind an edge that doesn't lead to the entry block
  needed_from : (q label : ℕ) → (position_of f label ≡ 0 → ⊥) → IsNeededFrom g v q label → IsNeededFrom f v q label × (kept v → ⊥)
  needed_from q label other (inl used) = let r = like.edges q (position_of g label) used in (inl (subst (λ (to : ℕ). IsUsedOn f v q to) (like.position label) r.0), r.1)
  needed_from q label other (inr h) =
      let at : ℕ = position_of g label in
      let r = front_needed at (λ e. other (sym (like.position label) ∙ e)) h.0 (λ b2 c2 is2 js2 sf2 sg2 fo2 term2. needed_old at 0 h.1 b2 c2 is2 js2 0 sf2 sg2 fo2 term2) (none_needed g v at 0 h.1) in (
        inr (λ l. h.0 (subst (λ (l2 : List ℕ). IsListed v l2) (sym (like.phis at ∙ ap (phis_at f) (like.position label))) l), subst (λ (n : ℕ). IsNeeded f v n 0) (like.position label) r.0),
        r.1,
      )

  pub needed_behind : (s : Point) → resume_label g s ≡ resume_label f s → destroy_label g s ≡ destroy_label f s → (position_of f (resume_label f s) ≡ 0 → ⊥) → (position_of f (destroy_label f s) ≡ 0 → ⊥) → IsNeededBehind g v s → IsNeededBehind f v s × (kept v → ⊥)
  needed_behind s e d one two (inl h) = let r = needed_from s.block (resume_label f s) one (subst (IsNeededFrom g v s.block) e h) in (inl r.0, r.1)
  needed_behind s e d one two (inr h) = let r = needed_from s.block (destroy_label f s) two (subst (IsNeededFrom g v s.block) d h) in (inr r.0, r.1)

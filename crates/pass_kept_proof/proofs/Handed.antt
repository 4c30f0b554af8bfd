-- What is needed behind a reached suspend crosses it in the sense of the analysis, or isn't one of the values that may cross.
use Rattle.std.proofs.Common.{◌≡◌, ◌⊎◌, inl, inr, ⊎_elim, ℕ, ◌+◌, true, false, List, [], ◌∷◌, Option, Some, None, refl, sym, ap, ◌∙◌, subst, ℤ}
use Rattle.std.specs.Prelude.{IsFalse, IsTrue, slice_get}
use Rattle.std.proofs.lemmas.Bool.{cases_eq}
use Rattle.run_agreement.specs.Agreements.{AgreesWithin}
use Rattle.ir_base.specs.declared.outcome.Word.{Word}
use Rattle.run_source.specs.Source.{SourceAt}
use Rattle.flow_solver.specs.Paths.{IsListed}
use Rattle.ir_parts.specs.Contents.{result_of}
use Rattle.ir_model.specs.Names.{function_at, position_of}
use Rattle.ir_model.specs.declared.instr.Instr.{Instr}
use Rattle.ir_model.specs.declared.module.Block.{Block}
use Rattle.ir_model.specs.declared.module.Frame.{Frame}
use Rattle.ir_model.specs.declared.module.Function.{Function}
use Rattle.ir_model.specs.declared.module.Module.{Module}
use Rattle.ir_model.specs.declared.operand.Intrinsic.{Intrinsic}
use Rattle.ir_paths.specs.Windows.{destroy_label, end_block, is_call_of, resume_label}
use Rattle.ir_paths.specs.declared.point.Point.{Point}
use Rattle.pass_kept_proof.proofs.Crossing.{not_without, split}
use Rattle.pass_kept_proof.proofs.Main.{kept_agrees}
use Rattle.pass_kept_proof.proofs.Read.{end_reads_nothing, given_result, listed_by_name, made_phi, param_listed, phi_made, read_here, read_on_edge}
use Rattle.pass_kept_proof.proofs.Walks.{saves_enough}
use Rattle.pass_kept_proof.specs.Crossing.{AreDefinite, IsDefinite, across, IsReachedWithout, by_instr, by_param, by_phi, over, there}
use Rattle.pass_kept_proof.specs.Crossing.{IsDefinedBefore as IsDefinedFrom, LeadsTo as LeadsFrom}
use Rattle.pass_kept_proof.specs.Handed.{HandsOn, HasPlainNames, HavePlainNames}
use Rattle.pass_kept_proof.specs.Kept.{Keep, KeptAt}
use Rattle.pass_kept_proof.specs.Needed.{PassesBy, enter, given_by, label_of_block, next, phi, phis_give, phis_read, read, reads_at}
use Rattle.pass_kept_proof.specs.Needed.{BranchesTo as HasEdge, IsNeeded as IsRead, IsNeededBehind as IsReadBehind, IsNeededOn as IsReadOn, IsReached, phis_at as phis_of_label}
use Rattle.pass_kept_proof.specs.SuspendRules.{AllKeepSuspendRules, IsCallAt, IsGivenBy, KeepsNeeded, KeepsSuspendRules}
use Rattle.run_step.specs.Step.{AtInstr, AtTerm, Fetched, Nowhere, fetch, fetch_in, label_of, phis_of}
use Rattle.frame_crossing.specs.Crossing.{Crosses}
use Rattle.frame_crossing.specs.EdgeUses.{IsUsedOn, edge_use, edge_uses}
use Rattle.frame_crossing.specs.Paths.{Across, Along, BranchesTo, ByInstr, ByParam, ByPhi, IsDefinedBefore, IsNeeded, IsNeededBehind, IsNeededFrom, IsOutside, LeadsTo, Next, OnEdge, Over, There, Use, phis_at, phis_in}
use Rattle.frame_crossing.specs.Values.{values_of}

-- a number is among others or not
listed_or : (v : ℕ) (xs : List ℕ) → IsListed v xs ⊎ (IsListed v xs → ⊥)
listed_or v [] = inr (λ h. h)
listed_or v (x ∷ xs) = ⊎_elim (λ e. inl (inl e)) (λ ne. ⊎_elim (λ l. inl (inr l)) (λ rest. inr (neither ne rest)) (listed_or v xs)) (cases_eq v x)
  where
    neither : (v ≡ x → ⊥) → (IsListed v xs → ⊥) → IsListed v (x ∷ xs) → ⊥
    neither ne rest (inl e) = ne e
    neither ne rest (inr l) = rest l

edge_there : (label : ℕ) (x : Fetched) → HasEdge label x → BranchesTo label x
edge_there label Nowhere h = h
edge_there label (AtInstr i) h = h
edge_there label (AtTerm t) h = listed_by_name _ label h

-- ---- definitions

leads : (f : Function) {to_block to_at block at : ℕ} → LeadsFrom f to_block to_at block at → LeadsTo f to_block to_at block at
leads f there = There
leads f (over {block} {at} i e l) = Over block at i e (leads f l)
leads f (across {block} {at} label h l) = Along block at label (edge_there label (fetch f block at) h) (leads f l)

phi_listed : (f : Function) (v b : ℕ) → phis_give v (phis_of (slice_get f.blocks b)) ≡ true → IsListed v (phis_at f b)
phi_listed f v b h = on (slice_get f.blocks b) h
  where
    on : (o : Option Block) → phis_give v (phis_of o) ≡ true → IsListed v (phis_in o)
    on None k = absurd (cc)
    on (Some c) k = phi_made v c.phis [] k

module _ (f : Function) (rules : KeepsSuspendRules f) (s : Point) (c : IsCallAt Intrinsic.CoroSuspend f s) (v : ℕ) (n : IsReadBehind f s v) where
  -- the suspend itself doesn't give what is needed behind it
  behind : (b a : ℕ) (i : Instr) → fetch f b a ≡ AtInstr i → given_by i ≡ Some v → LeadsFrom f s.block s.at b a → LeadsTo f s.block s.at b (a + 1)
  behind b a i e g there =
      let same : AtInstr i ≡ AtInstr c.instr = sym e ∙ c.stands in
      let is : i ≡ c.instr = cc in
      absurd (rules.unread s c v (ap given_by (sym is) ∙ g) n)
  behind b a i e g (over j k l) = leads f l
  behind b a i e g (across label h l) = absurd (subst (HasEdge label) e h)

  by_fetched : (b a : ℕ) (x : Fetched) → fetch f b a ≡ x → IsGivenBy x v → LeadsFrom f s.block s.at b a → IsDefinedBefore f v s.block s.at
  by_fetched b a Nowhere e g l = absurd g
  by_fetched b a (AtInstr i) e g l = ByInstr b a i e (given_result i v g) (behind b a i e g l)
  by_fetched b a (AtTerm t) e g l = absurd g

  defined : IsDefinedFrom f v s.block s.at → IsDefinedBefore f v s.block s.at
  defined (by_param h l) = ByParam (param_listed v f.params h) (leads f l)
  defined (by_phi b h l) = ByPhi b (phi_listed f v b h) (leads f l)
  defined (by_instr b a h l) = by_fetched b a (fetch f b a) refl h l

-- ---- needs

module _ (f : Function) (names : HasPlainNames f) (v : ℕ) (is_value : IsListed v (values_of f)) where
  -- nothing is read at the front of the end's block
  at_end : (x : Fetched) → fetch f (end_block f) 0 ≡ x → IsTrue (reads_at v x) → ⊥
  at_end Nowhere e h = absurd (cc)
  at_end (AtTerm t) e h = names.end_is_there t e
  at_end (AtInstr i) e h = no_read i (names.end_is_first i e) h
    where
      no_read : (i : Instr) → is_call_of Intrinsic.CoroEnd i ≡ true → IsTrue (reads_at v (AtInstr i)) → ⊥
      no_read i is k = end_reads_nothing v i is k

  -- a place of the end's block is its front
  abbrev IsFront : ℕ → ℕ → Type 0
  IsFront block at = block ≡ end_block f → at ≡ 0

  outside : (block at : ℕ) → IsFront block at → (fetch f (end_block f) 0 ≡ fetch f block at → ⊥) → IsOutside f block
  outside block at front differs e =
      let z : at ≡ 0 = front e in
      differs (λ i. fetch f (sym e i) (sym z i))

  no_edge : (label : ℕ) (x : Fetched) → fetch f (end_block f) 0 ≡ x → HasEdge label x → ⊥
  no_edge label Nowhere e h = h
  no_edge label (AtInstr i) e h = h
  no_edge label (AtTerm t) e h = names.end_is_there t e

  no_next : (x : Fetched) → fetch f (end_block f) 0 ≡ x → PassesBy v x → ⊥
  no_next Nowhere e h = h
  no_next (AtInstr i) e h =
      let is : is_call_of Intrinsic.CoroEnd i ≡ true = names.end_is_first i e in
      let not_end : is_call_of Intrinsic.CoroEnd i ≡ false = h.0 in
      absurd (cc)
  no_next (AtTerm t) e h = h

  from_label : (block : ℕ) (b : Block) → slice_get f.blocks block ≡ Some b → position_of f (label_of_block f block) ≡ block
  from_label block b e = ap (λ (o : Option Block). position_of f (label_of o)) e ∙ names.labels block b e

  used_on : (block label : ℕ) (b : Block) → slice_get f.blocks block ≡ Some b → IsTrue (phis_read v (label_of_block f block) (phis_of_label f label)) → IsUsedOn f v block (position_of f label)
  used_on block label b e h = on (slice_get f.blocks (position_of f label)) refl h
    where
      on : (o : Option Block) → slice_get f.blocks (position_of f label) ≡ o → phis_read v (label_of_block f block) (phis_of o) ≡ true → IsUsedOn f v block (position_of f label)
      on None k r = absurd (cc)
      on (Some c) k r = subst (λ (n : ℕ). IsListed (edge_use n (position_of f label) v) (edge_uses f)) (from_label block b e) (read_on_edge f v (label_of_block f block) (position_of f label) c k r)

  not_listed : (label : ℕ) → IsFalse (phis_give v (phis_of_label f label)) → IsListed v (phis_at f (position_of f label)) → ⊥
  not_listed label h l = on (slice_get f.blocks (position_of f label)) h l
    where
      on : (o : Option Block) → phis_give v (phis_of o) ≡ false → IsListed v (phis_in o) → ⊥
      on None k m = m
      on (Some c) k m = by (made_phi v c.phis [] m)
        where
          by : IsListed v [] ⊎ (phis_give v c.phis ≡ true) → ⊥
          by (inl x) = x
          by (inr e) = absurd (cc)

  block_there : (block at : ℕ) (x : Fetched) (label : ℕ) → fetch f block at ≡ x → HasEdge label x → (b : Block) × (slice_get f.blocks block ≡ Some b)
  block_there block at x label e h = on (slice_get f.blocks block) refl e
    where
      on : (o : Option Block) → slice_get f.blocks block ≡ o → fetch_in o at ≡ x → (b : Block) × (slice_get f.blocks block ≡ Some b)
      on None k m = absurd (subst (HasEdge label) (sym m) h)
      on (Some b) k m = (b, k)

  passed : (block at : ℕ) (x : Fetched) → fetch f block at ≡ x → PassesBy v x → (i : Instr) × (fetch f block at ≡ AtInstr i) × (result_of i ≡ Some v → ⊥)
  passed block at Nowhere e h = absurd h
  passed block at (AtInstr i) e h = (i, e, λ r. h.1 (names.given v block at i is_value e r))
  passed block at (AtTerm t) e h = absurd h

  needed : {block at : ℕ} → IsRead f v block at → IsFront block at → IsNeeded f v block at
  needed (read {block} {at} h) front =
      Use block at (outside block at front (λ e. at_end (fetch f block at) e h)) (read_here v (fetch f block at) h)
  needed (next {block} {at} h n) front =
      let out : IsOutside f block = outside block at front (λ e. no_next (fetch f block at) e h) in
      let p = passed block at (fetch f block at) refl h in
      Next block at p.0 out p.1 p.2 (needed n (λ e. absurd (out e)))
  needed (phi {block} {at} label h r) front =
      let b = block_there block at (fetch f block at) label refl h in
      OnEdge block at label (outside block at front (λ e. no_edge label (fetch f block at) e h)) (edge_there label (fetch f block at) h) (used_on block label b.0 b.1 r)
  needed (enter {block} {at} label h none n) front =
      Across block at label (outside block at front (λ e. no_edge label (fetch f block at) e h)) (edge_there label (fetch f block at) h) (not_listed label none) (needed n (λ e. refl))

  needed_from : (block label : ℕ) (b : Block) → slice_get f.blocks block ≡ Some b → IsReadOn f v block label → IsNeededFrom f v block label
  needed_from block label b e (inl r) = inl (used_on block label b e r)
  needed_from block label b e (inr r) = inr (not_listed label r.0, needed r.1 (λ k. refl))

  needed_behind : (s : Point) (b : Block) → slice_get f.blocks s.block ≡ Some b → IsReadBehind f s v → IsNeededBehind f v s
  needed_behind s b e (inl r) = inl (needed_from s.block (resume_label f s) b e r)
  needed_behind s b e (inr r) = inr (needed_from s.block (destroy_label f s) b e r)

-- ---- both

there_block : (f : Function) (block at : ℕ) (i : Instr) → fetch f block at ≡ AtInstr i → (b : Block) × (slice_get f.blocks block ≡ Some b)
there_block f block at i e = on (slice_get f.blocks block) refl e
  where
    on : (o : Option Block) → slice_get f.blocks block ≡ o → fetch_in o at ≡ AtInstr i → (b : Block) × (slice_get f.blocks block ≡ Some b)
    on None k m = absurd (cc)
    on (Some b) k m = (b, k)

read_crosses : (f : Function) → KeepsSuspendRules f → IsDefinite f → HasPlainNames f → (s : Point) (v : ℕ) → IsReached f s.block s.at → IsCallAt Intrinsic.CoroSuspend f s → IsReadBehind f s v → IsListed v (values_of f) → Crosses f v s
read_crosses f rules d names s v r c n is_value = record {
  is_value = is_value;
  defined = on (split f v r);
  needed = let b = there_block f s.block s.at c.instr c.stands in needed_behind f names v is_value s b.0 b.1 n;
}
  where
    on : IsReachedWithout f v s.block s.at ⊎ IsDefinedFrom f v s.block s.at → IsDefinedBefore f v s.block s.at
    on (inl w) = absurd (not_without f v d ((saves_enough f rules).itself s c v n) w)
    on (inr k) = defined f rules s c v n k

module _ (m : Module) (keep : Keep) (rules : AllKeepSuspendRules m) (d : AreDefinite m) (names : HavePlainNames m)
    (hands : HandsOn m keep) where
  pub keeps : KeepsNeeded m keep
  keeps func s v r c n = ⊎_elim
      (λ is_value. hands.crossing func s v (read_crosses (function_at m func) (rules func) (d.each func) (names func)
      s v r c n is_value))
      (λ is_none. hands.others func s v is_none)
      (listed_or v (values_of (function_at m func)))

pub handed_agrees : (m : Module) (keep : Keep) (sizes : List Frame) (entry : ℕ) (args : List Word) (answers : List ℤ) → AllKeepSuspendRules m → AreDefinite m → HavePlainNames m → HandsOn m keep → AgreesWithin 1 (SourceAt m sizes entry args answers) (KeptAt m keep sizes entry args answers)
handed_agrees m keep sizes entry args answers rules d names hands = kept_agrees m keep sizes entry args answers rules
    (keeps m keep rules d names hands)

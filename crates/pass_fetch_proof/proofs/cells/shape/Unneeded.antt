-- The result of a suspend is needed behind no suspend, as its switch alone uses it; so it isn't kept.
use Rattle.std.proofs.Common.{◌≡◌, inl, inr, ⊎_elim, ℕ, zero, suc, ◌+◌, ◌<◌, ◌≤◌, Bool, true, false, List, [], ◌∷◌, length, refl, sym, ap, ◌∙◌, subst, arith}
use Rattle.std.specs.Prelude.{Some, None, Option, map, slice_get, ◌==◌}
use Rattle.pass_edges_proof.proofs.ir_laws.facts.Truth.{either, equal_numbers, itself}
use Rattle.pass_fetch_proof.proofs.cells.rules.Keeping.{keeping_is}
use Rattle.pass_edges_proof.specs.rule_shape.Switches.{wrong_switch}
use Rattle.pass_edges_proof.specs.rule_uses.Uses.{local_of, locals_in}
use Rattle.pass_edges_proof.proofs.ir_laws.facts.Members.{at_each}
use Rattle.pass_edges_proof.proofs.early.path_rules.SavedSwitches.{times_in}
use Rattle.pass_edges_proof.proofs.ir_laws.paths.source_rules.Locals.{listed_either}
use Rattle.pass_edges_proof.proofs.edges.rules.Switched.{switched}
use Rattle.pass_edges_proof.proofs.edges.shape.Uses.{ends_total}
use Rattle.pass_edges_proof.specs.flow_solver.Paths.{IsListed}
use Rattle.pass_edges_proof.proofs.edges.calls.Fetched.{call_suspends}
use Rattle.pass_edges_proof.proofs.rule_laws.rules.shape.Ordered.{IsSuspendValue}
use Rattle.pass_edges_proof.proofs.edges.calls.Spared.{IsOther, IsSpared, ends_once, none_times, spared, used_at_end}
use Rattle.pass_edges_proof.proofs.rule_laws.rules.shape.Stands.{StandsAt, suspend_stands}
use Rattle.pass_fetch_proof.proofs.cells.shape.Written.{other_unused}
use Rattle.pass_edges_proof.specs.ir_parts.Contents.{ending_operands, instr_operands, result_of}
use Rattle.ir_model.specs.Names.{is_local, position_of}
use Rattle.ir_model.specs.declared.instr.Incoming.{Incoming}
use Rattle.ir_model.specs.declared.instr.Instr.{Instr}
use Rattle.ir_model.specs.declared.instr.Phi.{Phi}
use Rattle.ir_model.specs.declared.instr.Terminator.{Terminator}
use Rattle.ir_model.specs.declared.module.Block.{Block}
use Rattle.ir_model.specs.declared.module.Function.{Function}
use Rattle.ir_model.specs.declared.operand.Intrinsic.{Intrinsic}
use Rattle.ir_model.specs.declared.operand.Operand.{Operand}
use Rattle.pass_edges_proof.specs.ir_paths.Windows.{destroy_label, resume_label}
use Rattle.pass_edges_proof.specs.ir_paths.declared.point.Point.{Point}
use Rattle.pass_edges_proof.specs.run_step.Step.{AtInstr, fetch, fetch_in, fetch_or}
use Rattle.pass_edges_proof.specs.run_laws.changed.Changed.{Each}
use Rattle.pass_edges_proof.specs.frame_crossing.Crossing.{AreCrossed, AreCrossing, CrossedBy, LeftOut, More, NoMore, Nothing, Taken, suspends_of}
use Rattle.pass_edges_proof.specs.frame_crossing.EdgeUses.{blocks_uses, edge_use, incoming_uses, phis_uses, uses_by}
use Rattle.pass_edges_proof.specs.frame_crossing.Paths.{Across, IsNeeded, IsNeededBehind, IsNeededFrom, Next, OnEdge, Use, used_by}
use Rattle.pass_edges_proof.specs.frame_crossing.Values.{values_of}
use Rattle.pass_edges_proof.specs.frame_crossing.declared.edge_use.EdgeUse.{EdgeUse}
use Rattle.pass_edges_proof.specs.pass_cells.Kept.{entry, keeping_of}
use Rattle.pass_edges_proof.proofs.rule_laws.rules.shape.Unneeded.{suspend_result}

-- ---- no further end uses it

one_end : (v : ℕ) (bs : List Block) (q : ℕ) (c : Block) → slice_get bs q ≡ Some c → times_in v (ending_operands c.term) ≤ ends_total v bs
one_end v [] q c e = absurd (cc)
one_end v (x ∷ bs) zero c e = let same : x ≡ c = cc in subst (λ (y : Block). times_in v (ending_operands y.term) ≤ times_in v (ending_operands x.term) + ends_total v bs) same (omega arith)
one_end v (x ∷ bs) (suc q) c e = let more : times_in v (ending_operands c.term) ≤ ends_total v bs = one_end v bs q c e in omega (arith, more)

two_ends : (v : ℕ) (bs : List Block) (k q : ℕ) (b c : Block) → slice_get bs k ≡ Some b → slice_get bs q ≡ Some c → (k ≡ q → ⊥) → times_in v (ending_operands b.term) + times_in v (ending_operands c.term) ≤ ends_total v bs
two_ends v [] k q b c d e ne = absurd (cc)
two_ends v (x ∷ bs) zero zero b c d e ne = absurd (ne refl)
two_ends v (x ∷ bs) zero (suc q) b c d e ne =
    let one : times_in v (ending_operands c.term) ≤ ends_total v bs = one_end v bs q c e in
    let same : x ≡ b = cc in
    subst (λ (y : Block). times_in v (ending_operands y.term) + times_in v (ending_operands c.term) ≤ times_in v (ending_operands x.term) + ends_total v bs) same (omega (arith, one))
two_ends v (x ∷ bs) (suc k) zero b c d e ne =
    let one : times_in v (ending_operands b.term) ≤ ends_total v bs = one_end v bs k b d in
    let same : x ≡ c = cc in
    subst (λ (y : Block). times_in v (ending_operands b.term) + times_in v (ending_operands y.term) ≤ times_in v (ending_operands x.term) + ends_total v bs) same (omega (arith, one))
two_ends v (x ∷ bs) (suc k) (suc q) b c d e ne =
    let more : times_in v (ending_operands b.term) + times_in v (ending_operands c.term) ≤ ends_total v bs = two_ends v bs k q b c d e (λ s. ne (ap suc s)) in
    omega (arith, more)

listed_times : (v : ℕ) (xs : List Operand) → IsListed v (locals_in xs) → 1 ≤ times_in v xs
listed_times v xs l = on (times_in v xs) refl
  where
    on : (n : ℕ) → times_in v xs ≡ n → 1 ≤ times_in v xs
    on zero e = absurd (other_unused v xs (none_times v xs e) l)
    on (suc n) e = omega (arith, e)

-- ---- no phi uses it

local_other : (v u : ℕ) (x : Operand) → local_of x ≡ Some u → is_local v x ≡ false → v ≡ u → ⊥
local_other v u (Operand.Local n) e h same =
    let one : n ≡ u = cc in
    let t : true ≡ false = sym (ap (λ (w : ℕ). v == w) (one ∙ sym same) ∙ itself v) ∙ h in
    absurd (cc)
local_other v u _ e h same = absurd (cc)

module _ (f : Function) (v from to : ℕ) where
  incoming_unused : (at : ℕ) (is : List Incoming) → Each (λ (i : Incoming). IsOther v i.value) is → IsListed (edge_use from to v) (incoming_uses f at is) → ⊥
  incoming_unused at [] h l = l
  incoming_unused at (i ∷ is) h l =
      ⊎_elim (own (local_of i.value) refl) (incoming_unused at is h.1) (listed_either (edge_use from to v) (uses_by (position_of f i.from) at (local_of i.value)) (incoming_uses f at is) l)
    where
      own : (o : Option ℕ) → local_of i.value ≡ o → IsListed (edge_use from to v) (uses_by (position_of f i.from) at o) → ⊥
      own None e x = x
      own (Some u) e (inl same) = local_other v u i.value e h.0 (ap (λ (y : EdgeUse). y.value) same)
      own (Some u) e (inr x) = x

  phis_unused : (at : ℕ) (ps : List Phi) → Each (λ (p : Phi). Each (λ (i : Incoming). IsOther v i.value) p.incoming) ps → IsListed (edge_use from to v) (phis_uses f at ps) → ⊥
  phis_unused at [] h l = l
  phis_unused at (p ∷ ps) h l = ⊎_elim (incoming_unused at p.incoming h.0) (phis_unused at ps h.1) (listed_either (edge_use from to v) (incoming_uses f at p.incoming) (phis_uses f at ps) l)

  blocks_unused : (at : ℕ) (bs : List Block) → Each (IsSpared v) bs → IsListed (edge_use from to v) (blocks_uses f at bs) → ⊥
  blocks_unused at [] h l = l
  blocks_unused at (b ∷ bs) h l = ⊎_elim (phis_unused at b.phis h.0.phis) (blocks_unused (at + 1) bs h.1) (listed_either (edge_use from to v) (phis_uses f at b.phis) (blocks_uses f (at + 1) bs) l)

-- ---- so it is needed behind no suspend

module _ (k : ℕ) (f : Function) (coroutine : f.coroutine ≡ true) (switches : wrong_switch k f ≡ None) (v : ℕ) (x : IsSuspendValue f v) where
  s : StandsAt f Intrinsic.CoroSuspend v
  s = suspend_stands f v x

  all_spared : Each (IsSpared v) f.blocks
  all_spared = spared k f coroutine switches v x

  used_there : IsListed v (locals_in (ending_operands s.block.term))
  used_there =
      let w = switched k f coroutine switches s.position s.at s.block s.instr s.got s.there (call_suspends s.instr s.calls) in
      let both : Some w.value ≡ Some v = sym w.result ∙ s.makes in
      let same : v ≡ w.value = cc in
      subst (λ (t : Terminator). IsListed v (locals_in (ending_operands t))) (sym w.is)
      (subst (λ (y : Operand). IsListed v (locals_in (y ∷ map (λ c. c.arg.value) w.cases))) (sym w.on) (inl same))

  last_there : s.at + 1 ≡ length s.block.instrs
  last_there = (switched k f coroutine switches s.position s.at s.block s.instr s.got s.there (call_suspends s.instr s.calls)).last

  end_alone : (q : ℕ) (c : Block) → slice_get f.blocks q ≡ Some c → IsListed v (locals_in (ending_operands c.term)) → q ≡ s.position
  end_alone q c got l = ⊎_elim (λ e. e) other (either q s.position)
    where
      other : (q ≡ s.position → ⊥) → q ≡ s.position
      other ne =
          let two : times_in v (ending_operands c.term) + times_in v (ending_operands s.block.term) ≤ ends_total v f.blocks = two_ends v f.blocks q s.position c s.block got s.got ne in
          let a : 1 ≤ times_in v (ending_operands c.term) = listed_times v (ending_operands c.term) l in
          let b : 1 ≤ times_in v (ending_operands s.block.term) = listed_times v (ending_operands s.block.term) used_there in
          let most : ends_total v f.blocks ≤ 1 = ends_once v f (used_at_end k f coroutine switches v x).most in
          absurd (omega (arith, two, a, b, most))

  abbrev IsBehind : ℕ → ℕ → Type 0
  IsBehind q at = (q ≡ s.position) × (s.at < at)

  used_or : (q at : ℕ) (c : Block) → slice_get f.blocks q ≡ Some c → (o : Option Instr) → slice_get c.instrs at ≡ o → (t : Bool) → (at == length c.instrs) ≡ t → IsListed v (used_by (fetch_or o t c.term)) → IsBehind q at
  used_or q at c got (Some i) e t d l = absurd (other_unused v (instr_operands i) (at_each _ c.instrs at i (at_each _ f.blocks q c all_spared got).instrs e) l)
  used_or q at c got None e true d l =
      let here : q ≡ s.position = end_alone q c got l in
      let both : Some c ≡ Some s.block = sym got ∙ ap (slice_get f.blocks) here ∙ s.got in
      let same : c ≡ s.block = cc in
      let long : length c.instrs ≡ length s.block.instrs = ap (λ (b : Block). length b.instrs) same in
      let last : s.at + 1 ≡ length s.block.instrs = last_there in
      let end : at ≡ length c.instrs = equal_numbers at (length c.instrs) d in
      (here, omega (arith, long, last, end))
  used_or q at c got None e false d l = absurd l

  used_in : (q at : ℕ) (o : Option Block) → slice_get f.blocks q ≡ o → IsListed v (used_by (fetch_in o at)) → IsBehind q at
  used_in q at None e l = absurd l
  used_in q at (Some c) e l = used_or q at c e (slice_get c.instrs at) refl (at == length c.instrs) refl l

  own_fetch : fetch f s.position s.at ≡ AtInstr s.instr
  own_fetch = ap (λ (o : Option Block). fetch_in o s.at) s.got ∙ ap (λ (o : Option Instr). fetch_or o (s.at == length s.block.instrs) s.block.term) s.there

  needed_behind_it : (q at : ℕ) → IsNeeded f v q at → IsBehind q at
  needed_behind_it _ _ (Use q at out l) = used_in q at (slice_get f.blocks q) refl l
  needed_behind_it _ _ (Next q at i out e other rest) = later (needed_behind_it q (at + 1) rest)
    where
      later : IsBehind q (at + 1) → IsBehind q at
      later r = ⊎_elim same (λ ne. let lt : s.at < at + 1 = r.1 in (r.0, omega (arith, lt, ne))) (either at s.at)
        where
          same : at ≡ s.at → IsBehind q at
          same d =
              let both : AtInstr i ≡ AtInstr s.instr = sym e ∙ (λ n. fetch f (r.0 n) (d n)) ∙ own_fetch in
              let one : i ≡ s.instr = cc in
              absurd (other (ap result_of one ∙ suspend_result s.instr s.calls ∙ s.makes))
  needed_behind_it _ _ (OnEdge q at label out leads used) = absurd (blocks_unused f v q (position_of f label) 0 f.blocks all_spared used)
  needed_behind_it _ _ (Across q at label out leads phis rest) = let r : s.at < 0 = (needed_behind_it (position_of f label) 0 rest).1 in absurd (omega (arith, r))

  not_from : (block label : ℕ) → IsNeededFrom f v block label → ⊥
  not_from block label (inl used) = blocks_unused f v block (position_of f label) 0 f.blocks all_spared used
  not_from block label (inr h) = let r : s.at < 0 = (needed_behind_it (position_of f label) 0 h.1).1 in omega (arith, r)

  pub unneeded : (p : Point) → IsNeededBehind f v p → ⊥
  unneeded p (inl h) = not_from p.block (resume_label f p) h
  unneeded p (inr h) = not_from p.block (destroy_label f p) h

  -- ---- nor is it kept

  none_crossed : (u n : ℕ) (ss : List Point) (all : List (ℕ × ℕ)) → AreCrossed f u n ss all → (p : ℕ × ℕ) → IsListed p all → p.0 ≡ v → ⊥
  none_crossed u _ _ _ (NoMore n) p l same = l
  none_crossed u _ _ _ (Taken n q ss all crosses rest) p (inl e) same =
      let one : u ≡ v = sym (ap (λ (y : ℕ × ℕ). y.0) e) ∙ same in unneeded q (subst (λ (y : ℕ). IsNeededBehind f y q) one crosses.needed)
  none_crossed u _ _ _ (Taken n q ss all crosses rest) p (inr l) same = none_crossed u (n + 1) ss all rest p l same
  none_crossed u _ _ _ (LeftOut n q ss all never rest) p l same = none_crossed u (n + 1) ss all rest p l same

  no_pair : (us : List ℕ) (all : List (ℕ × ℕ)) → CrossedBy f us all → (p : ℕ × ℕ) → IsListed p all → p.0 ≡ v → ⊥
  no_pair _ _ Nothing p l same = l
  no_pair _ _ (More u us here rest first more) p l same = ⊎_elim (λ a. none_crossed u 0 (suspends_of f) here first p a same) (λ b. no_pair us rest more p b same) (listed_either p here rest l)

  pub unplaced : (crossing : List (ℕ × ℕ)) → AreCrossing f crossing → entry (keeping_of (length f.names) crossing).places v ≡ None
  unplaced crossing crossed = on (entry (keeping_of (length f.names) crossing).places v) refl
    where
      on : (o : Option ℕ) → entry (keeping_of (length f.names) crossing).places v ≡ o → o ≡ None
      on None e = refl
      on (Some at) e =
          let h = keeping_is (length f.names) (λ (u : ℕ). u ≡ v → ⊥) crossing (λ p l same. no_pair (values_of f) crossing crossed p l same) in
          absurd (h.holds v at (h.there v at e) refl)

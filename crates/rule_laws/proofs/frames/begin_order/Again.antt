-- Resume and destroy edges lead from blocks with suspends, which ask for begin.
use Rattle.std.proofs.Common.{◌≡◌, ◌⊎◌, inl, inr, ⊎_elim, ℕ, zero, suc, ◌+◌, Bool, true, false, List, [], ◌∷◌, ◌++◌, length, refl, sym, ap, ◌∙◌, subst, arith}
use Rattle.std.specs.Prelude.{None, Option, Some, filter, map, option_map, slice_get, unwrap_or, if◌then◌else◌, ◌==◌, ◌||◌}
use Rattle.rule_laws.proofs.rules.begin_order.CelledBlocks.{begun_at}
use Rattle.rule_laws.specs.frames.begin_order.Behind.{AreAgainBehind}
use Rattle.rule_laws.specs.frames.counted.Asked.{IsAwayFromEntry}
use Rattle.rule_uses.specs.Undefined.{Entry, Next, ReachesWithout}
use Rattle.rule_uses.specs.Uses.{made_by_instrs, phi_values, values_at, values_in}
use Rattle.ir_laws.proofs.facts.Truth.{equal_numbers}
use Rattle.ir_laws.proofs.paths.source_rules.Locals.{listed_either, listed_right}
use Rattle.rule_laws.proofs.rules.source_rules.Locals.{made_by, own_label}
use Rattle.rule_phis.specs.Edges.{has, leads, predecessors}
use Rattle.ir_laws.specs.flow_solver.Paths.{IsListed}
use Rattle.ir_parts.specs.Contents.{ending_labels}
use Rattle.rule_laws.specs.rules.function_rules.Kept.{KeepsFunctionRules}
use Rattle.pass_intrinsics.specs.Shapes.{suspends_of, with_suspend, with_suspends_by, with_suspends_in}
use Rattle.pass_intrinsics.specs.declared.shape.SuspendPoint.{SuspendPoint}
use Rattle.ir_laws.specs.ir_model.Names.{first_where, position_of}
use Rattle.ir_laws.specs.ir_model.declared.instr.Instr.{Instr}
use Rattle.ir_laws.specs.ir_model.declared.module.Block.{Block}
use Rattle.ir_laws.specs.ir_model.declared.module.Function.{Function}
use Rattle.ir_laws.specs.ir_model.declared.module.Module.{Module}
use Rattle.ir_laws.specs.ir_model.declared.operand.Callee.{Callee}
use Rattle.ir_laws.specs.ir_model.declared.operand.Intrinsic.{Intrinsic}
use Rattle.ir_laws.specs.ir_paths.Paths.{targets}
use Rattle.rule_laws.specs.rules.replaced.Splittable.{AreBegun, AreBlocksBegun}
use Rattle.rule_laws.specs.frames.replaced.Splittable.{HasOwnEdges, IsLedToBy}
use Rattle.ir_laws.specs.facts.replaced.Splittable.{asks_begin}
use Rattle.ir_laws.specs.run_laws.changed.Changed.{Each}
use Rattle.frame_contents.proofs.frame_crossing.Blocks.{edge_is_out}
use Rattle.ir_laws.proofs.paths.woven_rules.Unbroken.{of_listed}
use Rattle.rule_laws.proofs.rules.woven_rules.ValueKinds.{made_grows}
use Rattle.rule_laws.proofs.rules.edges.Entered.{has_listed as listed_has}
use Rattle.rule_laws.proofs.rules.shape.Edges.{targets_are as same_targets}

-- ---- where suspends stand

record IsSuspendIn (bs : List Block) (s : SuspendPoint) : Type 0 where
  at : ℕ
  block : Block
  there : slice_get bs at ≡ Some block
  instr : Instr
  listed : IsListed instr block.instrs
  asks : asks_begin instr ≡ true
  label : s.block ≡ block.label

-- one more suspend is that of an instruction that asks for begin
one_suspend : (all : List SuspendPoint) (b : Block) (i : Instr) (s : SuspendPoint) → IsListed s (with_suspend all b i) → IsListed s all ⊎ ((asks_begin i ≡ true) × (s.block ≡ b.label))
one_suspend all b (Instr.Call r must_tail ty (Callee.Intrinsic Intrinsic.CoroSuspend) args) s l =
    ⊎_elim (λ old. inl old) (λ here. ⊎_elim (λ e. inr (refl, ap (λ (p : SuspendPoint). p.block) e)) (λ x. absurd x) here) (listed_either s all _ l)
one_suspend all b _ s l = inl l

in_instrs : (all : List SuspendPoint) (b : Block) (is : List Instr) (s : SuspendPoint) → IsListed s (with_suspends_in all b is) → IsListed s all ⊎ ((i : Instr) × (IsListed i is × ((asks_begin i ≡ true) × (s.block ≡ b.label))))
in_instrs all b [] s l = inl l
in_instrs all b (i ∷ is) s l =
    ⊎_elim (λ h. ⊎_elim (λ old. inl old) (λ here. inr (i, (inl refl, here))) (one_suspend all b i s h)) (λ x. inr (x.0, (inr x.1.0, x.1.1)))
    (in_instrs (with_suspend all b i) b is s l)

in_blocks : (all : List SuspendPoint) (bs : List Block) (s : SuspendPoint) → IsListed s (with_suspends_by all bs) → IsListed s all ⊎ IsSuspendIn bs s
in_blocks all [] s l = inl l
in_blocks all (b ∷ bs) s l =
    ⊎_elim
    (λ h. ⊎_elim (λ old. inl old) (λ x. inr (record { at = 0; block = b; there = refl; instr = x.0; listed = x.1.0; asks = x.1.1.0; label = x.1.1.1 })) (in_instrs all b b.instrs s h))
    (λ (x : IsSuspendIn bs s). inr (record { at = suc x.at; block = x.block; there = x.there; instr = x.instr; listed = x.listed; asks = x.asks; label = x.label }))
    (in_blocks (with_suspends_in all b b.instrs) bs s l)

-- what asks for begin stands behind begin's value in its block
asked_made : (f : Function) (begin block : ℕ) (before : List ℕ) (is : List Instr) (i : Instr) → AreBegun f begin block before is → IsListed i is → asks_begin i ≡ true → ReachesWithout f begin block → IsListed begin (made_by_instrs before is)
asked_made f begin block before [] i h l e r = absurd l
asked_made f begin block before (j ∷ is) i h (inl same) e r = made_grows is (made_by j ++ before) begin (listed_right begin (made_by j) before (h.0 (sym (ap asks_begin same) ∙ e) r))
asked_made f begin block before (j ∷ is) i h (inr l) e r = asked_made f begin block (made_by j ++ before) is i h.1 l e r

-- the block at the position of a label has it
label_found : (bs : List Block) (label : ℕ) (b : Block) → slice_get bs (unwrap_or (first_where (λ (c : Block). c.label == label) bs) (length bs)) ≡ Some b → b.label ≡ label
label_found [] label b e = absurd (cc)
label_found (c ∷ bs) label b e = on (c.label == label) refl e (label_found bs label b)
  where
    later : (o : Option ℕ) → slice_get (c ∷ bs) (unwrap_or (option_map suc o) (length (c ∷ bs))) ≡ Some b → slice_get bs (unwrap_or o (length bs)) ≡ Some b
    later None h = h
    later (Some n) h = h

    on : (t : Bool) → (c.label == label) ≡ t → slice_get (c ∷ bs) (unwrap_or (if t then Some 0 else option_map suc (first_where (λ (x : Block). x.label == label) bs)) (length (c ∷ bs))) ≡ Some b → (slice_get bs (unwrap_or (first_where (λ (x : Block). x.label == label) bs) (length bs)) ≡ Some b → b.label ≡ label) → b.label ≡ label
    on true d h rest = let first : Some c ≡ Some b = h in let same : c ≡ b = cc in ap (λ (x : Block). x.label) (sym same) ∙ equal_numbers c.label label d
    on false d h rest = rest (later (first_where (λ (x : Block). x.label == label) bs) h)

-- ---- predecessors

either_left : (a b : Bool) → a ≡ true → (a || b) ≡ true
either_left true b e = refl
either_left false b e = absurd (cc)

-- a block that leads to a label is among those that do
source_listed : (label : ℕ) (bs : List Block) (at : ℕ) (c : Block) → slice_get bs at ≡ Some c → leads label c ≡ true → IsListed c.label (map (λ b. b.label) (filter (leads label) bs))
source_listed label [] at c e d = absurd (cc)
source_listed label (b ∷ bs) zero c e d = on (leads label b) (let same : b ≡ c = cc in ap (leads label) same ∙ d)
  where
    on : (t : Bool) → t ≡ true → IsListed c.label (map (λ x. x.label) (if t then b ∷ filter (leads label) bs else filter (leads label) bs))
    on true h = let same : c ≡ b = cc in inl (ap (λ (x : Block). x.label) same)
    on false h = absurd (cc)
source_listed label (b ∷ bs) (suc at) c e d = on (leads label b) (source_listed label bs at c e d)
  where
    on : (t : Bool) → IsListed c.label (map (λ x. x.label) (filter (leads label) bs)) → IsListed c.label (map (λ x. x.label) (if t then b ∷ filter (leads label) bs else filter (leads label) bs))
    on true rest = inr rest
    on false rest = rest

module _ (m : Module) (k : ℕ) (f : Function) (begin : ℕ) (rules : KeepsFunctionRules m k f) (begun : AreBlocksBegun f begin 0 f.blocks) (edges : Each (HasOwnEdges f) (suspends_of f)) (away : (s : SuspendPoint) → IsListed s (suspends_of f) → IsAwayFromEntry f s) where
  -- the block of a suspend makes begin's value, or a path leads to it that did
  suspend_made : (s : SuspendPoint) → IsListed s (suspends_of f) → (from : ℕ) (c : Block) → slice_get f.blocks from ≡ Some c → c.label ≡ s.block → ReachesWithout f begin from → IsListed begin (values_at f from)
  suspend_made s l from c there same r =
      ⊎_elim (λ x. absurd x)
      (λ (x : IsSuspendIn f.blocks s).
      let one : position_of f x.block.label ≡ x.at = own_label k f rules.definitions x.at x.block x.there in
      let two : position_of f c.label ≡ from = own_label k f rules.definitions from c there in
      let at_is : x.at ≡ from = sym one ∙ ap (position_of f) (sym x.label ∙ sym same) ∙ two in
      let both : Some x.block ≡ Some c = sym x.there ∙ ap (slice_get f.blocks) at_is ∙ there in
      let is_one : x.block ≡ c = cc in
      let zeroed : 0 + from ≡ from = omega arith in
      let begins : AreBegun f begin from (phi_values c) c.instrs = subst (λ (n : ℕ). AreBegun f begin n (phi_values c) c.instrs) zeroed (begun_at f begin 0 f.blocks from c begun there) in
      subst (λ (o : Option Block). IsListed begin (values_in o)) (sym there)
      (asked_made f begin from (phi_values c) c.instrs x.instr begins (subst (λ (b : Block). IsListed x.instr b.instrs) is_one x.listed) x.asks r))
      (in_blocks [] f.blocks s l)

  -- an edge to a label of such an edge comes from the suspend's block
  comes_from : (label : ℕ) (s : SuspendPoint) → IsLedToBy f label s.block → (from : ℕ) (c : Block) → slice_get f.blocks from ≡ Some c → IsListed label (targets c.term) → c.label ≡ s.block
  comes_from label s led from c there l =
      let listed : IsListed c.label (predecessors f label) = source_listed label f.blocks from c there (listed_has (ending_labels c.term) label (subst (IsListed label) (same_targets c.term) l)) in
      ⊎_elim (λ e. e) (λ x. absurd x) (subst (IsListed c.label) led.sources listed)

  label_of : (s : SuspendPoint) → IsListed s (suspends_of f) → (label : ℕ) → (s.resume ≡ label) ⊎ (s.destroy ≡ label) → IsLedToBy f label s.block × (position_of f label ≡ 0 → ⊥)
  label_of s l label (inl e) = (subst (λ (n : ℕ). IsLedToBy f n s.block) e (of_listed (HasOwnEdges f) (suspends_of f) edges s l).resume, (λ d. (away s l).resume (ap (position_of f) e ∙ d)))
  label_of s l label (inr e) = (subst (λ (n : ℕ). IsLedToBy f n s.block) e (of_listed (HasOwnEdges f) (suspends_of f) edges s l).destroy, (λ d. (away s l).destroy (ap (position_of f) e ∙ d)))

  on_path : (b : Block) (s : SuspendPoint) → IsListed s (suspends_of f) → IsLedToBy f b.label s.block → (position_of f b.label ≡ 0 → ⊥) → (at : ℕ) → slice_get f.blocks at ≡ Some b → ReachesWithout f begin at → ⊥
  on_path b s l led other _ e Entry = other (own_label k f rules.definitions 0 b e)
  on_path b s l led other _ e (Next from to r none edge) =
      let x = edge_is_out f from to edge in
      let there : slice_get f.blocks (position_of f x.label) ≡ Some b = ap (slice_get f.blocks) (sym x.leads) ∙ e in
      let same : b.label ≡ x.label = label_found f.blocks x.label b there in
      let target : IsListed b.label (targets x.block.term) = subst (λ (n : ℕ). IsListed n (targets x.block.term)) (sym same) x.is_target in
      none (suspend_made s l from x.block x.is_block (comes_from b.label s led from x.block x.is_block target) r)

  pub again_behind : AreAgainBehind f begin
  again_behind at b e lead r =
      let x = label_of lead.suspend lead.listed b.label lead.leads in
      on_path b lead.suspend lead.listed x.0 x.1 at e r

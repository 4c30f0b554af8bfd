-- Behind a suspend that is reached nothing is needed but what may cross it.
use Rattle.std.proofs.Common.{◌≡◌, ◌⊎◌, inl, inr, ℕ, suc, Bool, true, false, List, [], ◌∷◌, refl, sym, ap, ◌∙◌, subst}
use Rattle.std.specs.Prelude.{None, Option, Some, filter, is_some, not, option_to_list, slice_get, ◌==◌, ◌||◌, if◌then◌else◌}
use Rattle.pass_fetch_proof.specs.flow_blocks.Reach.{Edge as ReachEdge, IsReached, Start}
use Rattle.pass_fetch_proof.proofs.rule_laws.frames.crossing.Defined.{defined_before}
use Rattle.pass_fetch_proof.proofs.rule_laws.frames.crossing.Paths.{point_there}
use Rattle.pass_fetch_proof.proofs.rule_laws.rules.counted.PartFacts.{InstrPasses, block_passes}
use Rattle.pass_fetch_proof.specs.ir_base.declared.outcome.Place.{Place}
use Rattle.pass_fetch_proof.specs.rule_shape.Places.{is_the}
use Rattle.pass_fetch_proof.specs.pass_front.Front.{allocas_of, is_alloca}
use Rattle.pass_split.specs.Reached.{entry_of}
use Rattle.pass_fetch_proof.proofs.ir_laws.facts.Truth.{equal_numbers}
use Rattle.pass_fetch_proof.proofs.rule_laws.rules.renamed.Uses.{block_edge}
use Rattle.pass_fetch_proof.proofs.ir_laws.paths.source_rules.Locals.{listed_left, listed_right}
use Rattle.pass_fetch_proof.proofs.rule_laws.rules.source_rules.Locals.{made_by, own_label}
use Rattle.pass_fetch_proof.proofs.ir_laws.facts.Lists.{row_of}
use Rattle.pass_fetch_proof.specs.flow_solver.Paths.{IsListed}
use Rattle.pass_fetch_proof.specs.ir_parts.Contents.{result_of}
use Rattle.pass_fetch_proof.specs.rule_laws.rules.function_rules.Kept.{KeepsFunctionRules}
use Rattle.pass_fetch_proof.specs.pass_intrinsics.Shapes.{suspends_of}
use Rattle.pass_fetch_proof.specs.pass_intrinsics.declared.shape.SuspendPoint.{SuspendPoint}
use Rattle.ir_model.specs.Calls.{first_result}
use Rattle.ir_model.specs.Layout.{size_of}
use Rattle.ir_model.specs.Names.{position_of}
use Rattle.ir_model.specs.Ty.{token}
use Rattle.ir_model.specs.declared.instr.Instr.{Instr}
use Rattle.ir_model.specs.declared.module.Block.{Block}
use Rattle.ir_model.specs.declared.module.Function.{Function}
use Rattle.ir_model.specs.declared.module.Module.{Module}
use Rattle.ir_model.specs.declared.operand.Intrinsic.{Intrinsic}
use Rattle.pass_fetch_proof.specs.ir_paths.Windows.{destroy_label, is_call_of, label_at, resume_label}
use Rattle.pass_fetch_proof.specs.ir_paths.declared.point.Point.{Point}
use Rattle.pass_fetch_proof.specs.rule_locals.Entries.{allocates_late, is_past_entry}
use Rattle.pass_fetch_proof.specs.rule_locals.Instrs.{on_instr}
use Rattle.pass_fetch_proof.specs.rule_locals.Markers.{block_size, made_size, slot_size}
use Rattle.pass_fetch_proof.specs.ir_locals.Tables.{first_in, or_first}
use Rattle.pass_fetch_proof.proofs.rule_laws.frames.edges.Shaped.{point_home}
use Rattle.pass_fetch_proof.proofs.rule_laws.frames.uses.Apart.{suspend_apart}
use Rattle.pass_fetch_proof.proofs.ir_laws.paths.uses.Paths.{place_of}
use Rattle.pass_fetch_proof.proofs.rule_laws.rules.uses.Plain.{IsPlain, is_plain_kind}
use Rattle.pass_fetch_proof.proofs.rule_laws.rules.uses.Switched.{switched}
use Rattle.pass_fetch_proof.proofs.ir_laws.paths.replaced.Known.{of_listed}
use Rattle.pass_exits_proof.specs.split.rules.Reached.{Edge, Entry, IsLedTo}
use Rattle.pass_fetch_proof.specs.rule_laws.frames.replaced.Splittable.{HasOwnEdges, may_cross}
use Rattle.pass_exits_proof.specs.split.rules.Splittable.{IsSplittable}
use Rattle.pass_fetch_proof.specs.frame_crossing.Crossing.{suspends_of as suspend_points}
use Rattle.pass_fetch_proof.specs.frame_crossing.Paths.{IsDefinedBefore, IsNeeded, IsNeededBehind, phis_at}
use Rattle.pass_fetch_proof.specs.rule_values.Fits.{fits_kind}
use Rattle.pass_fetch_proof.specs.rule_values.Kinds.{value_kind}
use Rattle.pass_fetch_proof.specs.rule_values.declared.kinds.Kind.{Kind}
use Rattle.pass_exits_proof.proofs.split.crossing.Ending.{block_there as target_in}

-- ---- values that may cross

no_token : (o : Option Kind) → is_plain_kind o ≡ true → fits_kind o token ≡ false
no_token (Some (Kind.Int w)) e = refl
no_token (Some Kind.Ptr) e = refl
no_token (Some Kind.Token) e = absurd (cc)
no_token (Some Kind.Saved) e = absurd (cc)
no_token (Some Kind.Other) e = absurd (cc)
no_token None e = absurd (cc)

the_one : (o : Option ℕ) (begin v : ℕ) → o ≡ Some begin → is_the o v ≡ true → v ≡ begin
the_one None begin v e h = absurd (cc)
the_one (Some b) begin v e h = let same : b ≡ begin = cc in sym (equal_numbers b v h) ∙ same

-- an alloca among instructions that makes the value
is_made : (m : Module) (v : ℕ) (i : Instr) → is_some (made_size m i v) ≡ true → (is_alloca i ≡ true) × (result_of i ≡ Some v)
is_made m v (Instr.Alloca r ty align) h = (refl, ap (λ (n : ℕ). Some n) (on (r == v) refl h))
  where
    on : (b : Bool) → (r == v) ≡ b → is_some (if b then Some (size_of m ty) else None) ≡ true → r ≡ v
    on true e k = equal_numbers r v e
    on false e k = absurd (cc)
is_made m v _ h = absurd (cc)

in_instrs : (m : Module) (v : ℕ) (is : List Instr) → is_some (first_in (made_size m) is v) ≡ true → (i : Instr) × (IsListed i is × ((is_alloca i ≡ true) × (result_of i ≡ Some v)))
in_instrs m v [] h = absurd (cc)
in_instrs m v (i ∷ is) h = on (made_size m i v) refl h (in_instrs m v is)
  where
    on : (o : Option ℕ) → made_size m i v ≡ o → is_some (or_first o (first_in (made_size m) is v)) ≡ true → (is_some (first_in (made_size m) is v) ≡ true → (j : Instr) × (IsListed j is × ((is_alloca j ≡ true) × (result_of j ≡ Some v)))) → (j : Instr) × (IsListed j (i ∷ is) × ((is_alloca j ≡ true) × (result_of j ≡ Some v)))
    on (Some n) e k more = let x = is_made m v i (ap (λ (o : Option ℕ). is_some o) e) in (i, (inl refl, x))
    on None e k more = let x = more k in (x.0, (inr x.1.0, x.1.1))

in_blocks : (m : Module) (v : ℕ) (bs : List Block) → is_some (first_in (block_size m) bs v) ≡ true → (q : ℕ) × ((b : Block) × ((slice_get bs q ≡ Some b) × ((i : Instr) × (IsListed i b.instrs × ((is_alloca i ≡ true) × (result_of i ≡ Some v))))))
in_blocks m v [] h = absurd (cc)
in_blocks m v (b ∷ bs) h = on (block_size m b v) refl h (in_blocks m v bs)
  where
    on : (o : Option ℕ) → block_size m b v ≡ o → is_some (or_first o (first_in (block_size m) bs v)) ≡ true → (is_some (first_in (block_size m) bs v) ≡ true → (q : ℕ) × ((c : Block) × ((slice_get bs q ≡ Some c) × ((i : Instr) × (IsListed i c.instrs × ((is_alloca i ≡ true) × (result_of i ≡ Some v))))))) → (q : ℕ) × ((c : Block) × ((slice_get (b ∷ bs) q ≡ Some c) × ((i : Instr) × (IsListed i c.instrs × ((is_alloca i ≡ true) × (result_of i ≡ Some v))))))
    on (Some n) e k more = let x = in_instrs m v b.instrs (ap (λ (o : Option ℕ). is_some o) e) in (0, (b, (refl, x)))
    on None e k more = let x = more k in (suc x.0, x.1)

late : (p : Place) (i : Instr) (q : ℕ) → is_alloca i ≡ true → p.block ≡ Some q → allocates_late p i ≡ false → q ≡ 0
late p (Instr.Alloca r ty align) q a b e = on (q == 0) refl (ap is_past_entry (sym b) ∙ e)
  where
    on : (t : Bool) → (q == 0) ≡ t → not t ≡ false → q ≡ 0
    on true d h = equal_numbers q 0 d
    on false d h = absurd (cc)
late p _ q a b e = absurd (cc)

made_listed : (v : ℕ) (i : Instr) → result_of i ≡ Some v → IsListed v (made_by i)
made_listed v i e = subst (λ (o : Option ℕ). IsListed v (option_to_list o)) (sym e) (inl refl)

in_filter : (v : ℕ) (is : List Instr) (i : Instr) → IsListed i is → is_alloca i ≡ true → result_of i ≡ Some v → IsListed v (row_of made_by (filter is_alloca is))
in_filter v [] i l a e = absurd l
in_filter v (j ∷ is) i l a e = on (is_alloca j) refl l (λ k. in_filter v is i k a e)
  where
    on : (b : Bool) → is_alloca j ≡ b → IsListed i (j ∷ is) → (IsListed i is → IsListed v (row_of made_by (filter is_alloca is))) → IsListed v (row_of made_by (if b then j ∷ filter is_alloca is else filter is_alloca is))
    on true d (inl same) more = listed_left v (made_by j) (row_of made_by (filter is_alloca is)) (made_listed v j (ap result_of (sym same) ∙ e))
    on true d (inr k) more = listed_right v (made_by j) (row_of made_by (filter is_alloca is)) (more k)
    on false d (inl same) more = let both : true ≡ false = sym a ∙ ap is_alloca same ∙ d in absurd (cc)
    on false d (inr k) more = more k

in_first : (v : ℕ) (bs : List Block) (b : Block) → slice_get bs 0 ≡ Some b → IsListed v (row_of made_by (filter is_alloca b.instrs)) → IsListed v (row_of made_by (allocas_of bs))
in_first v [] b e l = absurd (cc)
in_first v (c ∷ bs) b e l = let same : b ≡ c = cc in subst (λ (x : Block). IsListed v (row_of made_by (filter is_alloca x.instrs))) same l

-- ---- paths by labels are paths by positions

entry_at : (bs : List Block) (label : ℕ) → IsListed label (entry_of bs) → (b : Block) × ((slice_get bs 0 ≡ Some b) × (b.label ≡ label))
entry_at [] label l = absurd l
entry_at (b ∷ bs) label (inl e) = (b, (refl, sym e))
entry_at (b ∷ bs) label (inr l) = absurd l

-- a label to which paths lead is that of a block that is reached
module _ (m : Module) (k : ℕ) (f : Function) (rules : KeepsFunctionRules m k f) where
  pub led_reached : (label : ℕ) → IsLedTo f label → IsReached f (0 ∷ []) [] (position_of f label)
  led_reached _ (Entry label l) =
      let x = entry_at f.blocks label l in
      let same : position_of f label ≡ 0 = ap (position_of f) (sym x.1.1) ∙ own_label k f rules.definitions 0 x.0 x.1.0 in
      Start (position_of f label) (inl same)
  led_reached _ (Edge from label r l) =
      let x = target_in (slice_get f.blocks (position_of f from)) label l in
      ReachEdge (position_of f from) (position_of f label) (led_reached from r) (block_edge f (position_of f from) x.0 label x.1.0 x.1.1) (λ none. none)

module _ (m : Module) (k : ℕ) (f : Function) (begin : ℕ) (split : IsSplittable m k f begin) where
  -- a value of an alloca is made by the entry block
  slot_made : (v : ℕ) → is_some (slot_size m f v) ≡ true → IsListed v (row_of made_by (allocas_of f.blocks))
  slot_made v h =
      let x = in_blocks m v f.blocks h in
      let b : Block = x.1.0 in
      let i : Instr = x.1.1.1.0 in
      let all = (block_passes (on_instr allocates_late) k f split.rules.local.allocas x.0 b x.1.1.0).instrs in
      let one = of_listed (InstrPasses (on_instr allocates_late) x.0) b.instrs i all x.1.1.1.1.0 in
      let first : x.0 ≡ 0 = late one.0 i x.0 x.1.1.1.1.1.0 one.1 one.2 in
      in_first v f.blocks b (ap (slice_get f.blocks) (sym first) ∙ x.1.1.0) (in_filter v b.instrs i x.1.1.1.1.0 x.1.1.1.1.1.0 x.1.1.1.1.1.1)

  no_crossing : (v : ℕ) → IsPlain f v → (v ≡ begin → ⊥) → (IsListed v (row_of made_by (allocas_of f.blocks)) → ⊥) → may_cross m f v ≡ true → ⊥
  no_crossing v plain not_begin not_slot h = on (is_the (first_result Intrinsic.CoroBegin f) v) refl (is_some (slot_size m f v)) refl h
    where
      on : (a : Bool) → is_the (first_result Intrinsic.CoroBegin f) v ≡ a → (b : Bool) → is_some (slot_size m f v) ≡ b → (a || (b || fits_kind (value_kind f v) token)) ≡ true → ⊥
      on true e b d k = not_begin (the_one (first_result Intrinsic.CoroBegin f) begin v split.named e)
      on false e true d k = not_slot (slot_made v d)
      on false e false d k = let both : false ≡ true = sym (no_token (value_kind f v) plain.scalar) ∙ k in absurd (cc)

  module _ (v : ℕ) (plain : IsPlain f v) (not_begin : v ≡ begin → ⊥) (not_slot : IsListed v (row_of made_by (allocas_of f.blocks)) → ⊥) (p : SuspendPoint) (listed : IsListed p (suspends_of f)) (led : IsLedTo f p.block) where
    -- nothing else is needed behind the suspend
    none_behind : (q at : ℕ) (b : Block) (i : Instr) → slice_get f.blocks q ≡ Some b → slice_get b.instrs at ≡ Some i → is_call_of Intrinsic.CoroSuspend i ≡ true → p.block ≡ b.label → p.resume ≡ label_at 0 (Some b) → p.destroy ≡ label_at 1 (Some b) → IsNeededBehind f v (record { block = q; at = at }) → ⊥
    none_behind q at b i got there is block resume destroy needed =
        let s0 : Point = record { block = q; at = at } in
        let w = switched k f split.coroutine split.switches q at b i got there is in
        let own : HasOwnEdges f p = of_listed (HasOwnEdges f) (suspends_of f) p split.edges listed in
        let among : IsListed s0 (suspend_points f) = point_there (is_call_of Intrinsic.CoroSuspend) f q b at i got there is in
        let apart = suspend_apart k f split.coroutine split.switches q at b i got there is w (λ n c e l. own.resume.phis n c e (l ∙ sym resume)) (λ n c e l. own.destroy.phis n c e (l ∙ sym destroy)) in
        let at_block : position_of f p.block ≡ q = ap (position_of f) block ∙ own_label k f split.rules.definitions q b got in
        let reached : IsReached f (0 ∷ []) [] q = subst (IsReached f (0 ∷ []) []) at_block (led_reached m k f split.rules p.block led) in
        let defined : IsDefinedBefore f v q at = defined_before k f split.rules.uses v s0 among apart reached needed in
        no_crossing v plain not_begin not_slot (split.crossing v s0 b among got (subst (IsLedTo f) block led) defined needed)

    pub none_needed : (label : ℕ) → (label ≡ p.resume) ⊎ (label ≡ p.destroy) → (IsListed v (phis_at f (position_of f label)) → ⊥) → IsNeeded f v (position_of f label) 0 → ⊥
    none_needed label way phis needed =
        let x = point_home p f listed in
        let q = place_of f.blocks x.0 x.1.0 in
        let at = place_of x.0.instrs x.1.1.instr x.1.1.listed in
        none_behind q.0 at.0 x.0 x.1.1.instr q.1 at.1 x.1.1.is_one x.1.1.block x.1.1.resume x.1.1.destroy (on q.0 at.0 x.0 q.1 x.1.1.resume x.1.1.destroy way)
      where
        on : (q at : ℕ) (b : Block) → slice_get f.blocks q ≡ Some b → p.resume ≡ label_at 0 (Some b) → p.destroy ≡ label_at 1 (Some b) → (label ≡ p.resume) ⊎ (label ≡ p.destroy) → IsNeededBehind f v (record { block = q; at = at })
        on q at b got resume destroy (inl e) =
            let same : label ≡ resume_label f (record { block = q; at = at }) = e ∙ resume ∙ sym (ap (label_at 0) got) in
            inl (inr (subst (λ (n : ℕ). IsListed v (phis_at f (position_of f n)) → ⊥) same phis, subst (λ (n : ℕ). IsNeeded f v (position_of f n) 0) same needed))
        on q at b got resume destroy (inr e) =
            let same : label ≡ destroy_label f (record { block = q; at = at }) = e ∙ destroy ∙ sym (ap (label_at 1) got) in
            inr (inr (subst (λ (n : ℕ). IsListed v (phis_at f (position_of f n)) → ⊥) same phis, subst (λ (n : ℕ). IsNeeded f v (position_of f n) 0) same needed))

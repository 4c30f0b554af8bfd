-- Addresses of coroutine slots before begin (rule K9), where begin gets a name.
use Rattle.std.proofs.Common.{◌≡◌, ◌⊎◌, inl, inr, ℕ, zero, suc, Bool, List, [], ◌∷◌, ◌++◌, length, refl, sym, ap, ◌∙◌, subst}
use Rattle.std.specs.List.{Any}
use Rattle.std.specs.Prelude.{Some, None, Option, flat_map, map, option_map, slice_get, if◌then◌else◌}
use Rattle.pass_early_proof.proofs.early.begin_naming.NamedSlots.{facts_same as named_facts}
use Rattle.run_states.proofs.renamed.Modules.{length_same}
use Rattle.pass_early.specs.BeginName.{begin_named, named_block, named_instr}
use Rattle.pass_early_proof.proofs.early.path_rules.Marked.{slot_back}
use Rattle.pass_early_proof.proofs.early.path_rules.NamedCalls.{all_allocas_named}
use Rattle.pass_early_proof.proofs.early.path_rules.NamedWindows.{alike_named}
use Rattle.rule_laws.proofs.ir_laws.paths.path_rules.Outside.{end_at}
use Rattle.pass_early_proof.proofs.early.path_rules.RenamedOperands.{map_was}
use Rattle.pass_early_proof.proofs.early.path_rules.SavedEarly.{NothingEarly, any_map}
use Rattle.rule_laws.proofs.rules.path_rules.Windows.{leads_back}
use Rattle.pass_early_proof.proofs.early.source_rules.Naming.{block_there, call_same, points_same, position_same, stood}
use Rattle.rule_laws.specs.ir_parts.Contents.{ending_operands}
use Rattle.ir_model.specs.Calls.{first_result}
use Rattle.ir_model.specs.Names.{position_of}
use Rattle.ir_model.specs.declared.instr.Incoming.{Incoming}
use Rattle.ir_model.specs.declared.instr.Instr.{Instr}
use Rattle.ir_model.specs.declared.module.Block.{Block}
use Rattle.ir_model.specs.declared.module.Function.{Function}
use Rattle.ir_model.specs.declared.operand.Callee.{Callee}
use Rattle.ir_model.specs.declared.operand.Intrinsic.{Intrinsic}
use Rattle.ir_model.specs.declared.operand.Operand.{Operand}
use Rattle.rule_laws.specs.ir_paths.Facts.{facts_of}
use Rattle.rule_laws.specs.ir_paths.Paths.{has_point}
use Rattle.rule_laws.specs.ir_paths.Slots.{addresses_of, addresses_within, allocas_of, geps_from, has_name, is_gep}
use Rattle.rule_laws.specs.ir_paths.Windows.{is_call_of, points_where}
use Rattle.rule_laws.specs.ir_paths.declared.point.Point.{Point}
use Rattle.rule_laws.specs.flow_points.Reached.{IsReached}
use Rattle.rule_laws.specs.rule_slots.Early.{IsBeforeBegin, IsMisused, IsTakenEarly, end_of, instr_count, memory_uses, other_uses, end_at as ends_at}
use Rattle.rule_laws.specs.rule_slots.Slots.{IsCoroutineSlot, IsSlotAddress, NamesAddress, NamesPart}
use Rattle.rule_laws.specs.ir_laws.facts.sound_states.Named.{HasNamedOperands}
use Rattle.rule_laws.specs.rule_windows.Points.{begins, entry}

module _ (n : ℕ) where
  geps_named : (is_base : ℕ → Bool) (is : List Instr) → geps_from is_base (map (named_instr n) is) ≡ geps_from is_base is
  geps_named is_base [] = refl
  geps_named is_base (Instr.Gep name inbounds ty (Operand.Local v) indices ∷ is) = ap (λ (vs : List ℕ). (if is_base v then name ∷ [] else []) ++ vs) (geps_named is_base is)
  geps_named is_base (Instr.Call result must_tail ty (Callee.Intrinsic Intrinsic.CoroBegin) args ∷ is) = geps_named is_base is
  geps_named is_base (_ ∷ is) = geps_named is_base is

  all_geps_named : (is_base : ℕ → Bool) (bs : List Block) → flat_map (λ b. geps_from is_base b.instrs) (map (named_block n) bs) ≡ flat_map (λ b. geps_from is_base b.instrs) bs
  all_geps_named is_base [] = refl
  all_geps_named is_base (b ∷ bs) = λ k. geps_named is_base b.instrs k ++ all_geps_named is_base bs k

  gep_named : (i : Instr) → is_gep (named_instr n i) ≡ is_gep i
  gep_named (Instr.Call result must_tail ty (Callee.Intrinsic Intrinsic.CoroBegin) args) = refl
  gep_named _ = refl

  other_named : (i : Instr) → other_uses (named_instr n i) ≡ other_uses i
  other_named (Instr.Call result must_tail ty (Callee.Intrinsic Intrinsic.CoroBegin) args) = refl
  other_named _ = refl

  memory_named : (i : Instr) → memory_uses (named_instr n i) ≡ memory_uses i
  memory_named (Instr.Call result must_tail ty (Callee.Intrinsic Intrinsic.CoroBegin) args) = refl
  memory_named _ = refl

module _ (f : Function) (uses : HasNamedOperands f) (none : first_result Intrinsic.CoroBegin f ≡ None) where
  abbrev n : ℕ
  n = length f.names

  abbrev g : Function
  g = begin_named f

  within_same : (k a : ℕ) → addresses_within k g a ≡ addresses_within k f a
  within_same zero a = refl
  within_same (suc k) a =
      ap (λ (vs : List ℕ). a ∷ flat_map (λ b. geps_from (has_name vs) b.instrs) (map (named_block n) f.blocks)) (within_same k a)
      ∙ ap (λ (vs : List ℕ). a ∷ vs) (all_geps_named n (has_name (addresses_within k f a)) f.blocks)

  addresses_same : (a : ℕ) → addresses_of g a ≡ addresses_of f a
  addresses_same a = ap (λ (ps : List Point). addresses_within (length ps) g a) (points_same f is_gep is_gep (gep_named n)) ∙ within_same (length (points_where is_gep f)) a

  allocas_are : (a : ℕ) → has_name (allocas_of g) a ≡ has_name (allocas_of f) a
  allocas_are a = ap (λ (vs : List ℕ). has_name vs a) (all_allocas_named n f.blocks)

  ramps_are : (a : ℕ) → has_name (facts_of g).ramp_slots a ≡ has_name (facts_of f).ramp_slots a
  ramps_are a = ap (λ x. has_name x.ramp_slots a) (named_facts f uses none)

  slot_home : (v : ℕ) → IsCoroutineSlot g v → IsCoroutineSlot f v
  slot_home v = slot_back f g allocas_are ramps_are (Operand.Local v)

  slot_now : (v : ℕ) → IsCoroutineSlot f v → IsCoroutineSlot g v
  slot_now v = slot_back g f (λ a. sym (allocas_are a)) (λ a. sym (ramps_are a)) (Operand.Local v)

  address_home : (v : ℕ) → IsSlotAddress g v → IsSlotAddress f v
  address_home v h = record { slot = h.slot; is_slot = slot_home h.slot h.is_slot; is_address = ap (λ (vs : List ℕ). has_name vs v) (sym (addresses_same h.slot)) ∙ h.is_address }

  names_home : (x : Operand) → NamesAddress g x → NamesAddress f x
  names_home (Operand.Local v) h = address_home v h
  names_home _ h = absurd h

  part_home : (x : Operand) → NamesPart g x → NamesPart f x
  part_home (Operand.Local v) h = (address_home v h.0, (λ s. h.1 (slot_now v s)))
  part_home _ h = absurd h

  misused_home : (i : Instr) → IsMisused g (named_instr n i) → IsMisused f i
  misused_home i (inl a) = inl (any_map (NamesAddress g) (NamesAddress f) names_home (other_uses i) (subst (Any (NamesAddress g)) (other_named n i) a))
  misused_home i (inr a) = inr (any_map (NamesPart g) (NamesPart f) part_home (memory_uses i) (subst (Any (NamesPart g)) (memory_named n i) a))

  begins_same : begins g ≡ begins f
  begins_same = points_same f (is_call_of Intrinsic.CoroBegin) (is_call_of Intrinsic.CoroBegin) (call_same n Intrinsic.CoroBegin)

  before_home : (p : Point) → IsBeforeBegin g p → IsBeforeBegin f p
  before_home p (inl e) = inl e
  before_home p (inr h) = inr (record { begins_later = ap (λ (ps : List Point). has_point ps entry) (sym begins_same) ∙ h.begins_later; path = on h.path })
    where
      on : (p ≡ entry) ⊎ IsReached g (entry ∷ []) (begins g) p → (p ≡ entry) ⊎ IsReached f (entry ∷ []) (begins f) p
      on (inl e) = inl e
      on (inr x) = let y = subst (λ (ps : List Point). IsReached g (entry ∷ []) ps p) begins_same x in inr (record { start = y.start; is_start = y.is_start; path = leads_back f g (alike_named f) (begins f) y.start p y.path })

  abbrev end_in : ℕ → Option Block → Point
  end_in k o = record { block = k; at = instr_count o }

  end_same_at : (k : ℕ) → ends_at g k ≡ ends_at f k
  end_same_at k = ap (end_in k) (block_there f k) ∙ on (slice_get f.blocks k)
    where
      on : (o : Option Block) → end_in k (option_map (named_block n) o) ≡ end_in k o
      on None = refl
      on (Some b) = λ i. record { block = k; at = length_same (named_instr n) b.instrs i }

  taken_home : (i : Incoming) → IsTakenEarly g i → IsTakenEarly f i
  taken_home i h = (names_home i.value h.0, before_home (end_of f i.from) (subst (IsBeforeBegin g) (ap (ends_at g) (position_same f i.from) ∙ end_same_at (position_of f i.from)) h.1))

  pub early_named_too : NothingEarly f → NothingEarly g
  early_named_too h = record {
    phis = λ k j d x e q taken.
        let was = map_was (named_block n) f.blocks k d e in
        h.phis k j was.0 x was.1.0 (ap (λ (c : Block). slice_get c.phis j) (sym was.1.1) ∙ q) (any_map (IsTakenEarly g) (IsTakenEarly f) taken_home x.incoming taken);
    instrs = λ p y e before misused. let was = stood f p y e in h.instrs p was.old was.stands (before_home p before) (misused_home was.old (subst (IsMisused g) was.is misused));
    endings = λ k d e before ends.
        let was = map_was (named_block n) f.blocks k d e in
        let b : Block = was.0 in
        let same : end_at k d ≡ end_at k b = (λ i. record { block = k; at = (ap (λ (c : Block). length c.instrs) was.1.1 ∙ length_same (named_instr n) b.instrs) i }) in
        h.endings k b was.1.0 (before_home (end_at k b) (subst (IsBeforeBegin g) same before)) (any_map (NamesAddress g) (NamesAddress f) names_home (ending_operands b.term) (subst (λ (c : Block). Any (NamesAddress g) (ending_operands c.term)) was.1.1 ends));
  }

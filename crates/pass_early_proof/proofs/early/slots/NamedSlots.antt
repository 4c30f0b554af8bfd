-- A function and the same with its begins named are alike, so far as slots go.
use Rattle.std.proofs.Common.{◌≡◌, ℕ, ◌≤◌, inl, inr, List, length, refl, sym, ap, ◌∙◌, subst}
use Rattle.std.specs.Prelude.{Some, None, Option, option_map, option_to_list, slice_get}
use Rattle.pass_early_proof.proofs.early.begin_naming.NamedParts.{block_same, call_of_same, destroy_same, end_same, instr_same, nexts_same, points_where_same, position_same, resume_same, same_but_begin, with_begin}
use Rattle.pass_early_proof.proofs.early.begin_naming.NamedSlots.{facts_same, promise_same, suspend_same}
use Rattle.run_states.proofs.renamed.Modules.{length_same}
use Rattle.pass_early_proof.proofs.early.crossing.Renamed.{map_itself}
use Rattle.pass_early_proof.proofs.early.slots.NamedPlaces.{addresses_same, allocas_same, blocks_same, end_points_same, escaped_same}
use Rattle.rule_laws.proofs.frames.alike_slots.SlotsAlike.{AreSlotsAlike}
use Rattle.rule_laws.proofs.ir_laws.paths.alike_slots.Still.{stay, still_carried, still_lone, still_strands}
use Rattle.rule_laws.proofs.frames.alike_slots.Strands.{IsOf}
use Rattle.rule_laws.proofs.frames.alike_slots.Windows.{in_some, some_in, window_forth, window_home}
use Rattle.pass_early.specs.BeginName.{named_block, named_instr}
use Rattle.rule_laws.specs.flow_solver.Paths.{IsListed}
use Rattle.ir_model.specs.Calls.{first_result}
use Rattle.ir_model.specs.declared.instr.Instr.{Instr}
use Rattle.ir_model.specs.declared.module.Block.{Block}
use Rattle.ir_model.specs.declared.module.Function.{Function}
use Rattle.ir_model.specs.declared.operand.Intrinsic.{Intrinsic}
use Rattle.rule_laws.proofs.ir_paths.Right.{facts_of_right}
use Rattle.rule_laws.proofs.ir_paths.Search.{Has}
use Rattle.rule_laws.specs.ir_paths.Facts.{facts_of}
use Rattle.rule_laws.specs.ir_paths.Paths.{has_point}
use Rattle.rule_laws.specs.ir_paths.Slots.{IsRampSlot, allocas_in, allocas_of, end_points, has_name, occurs, occurs_in_term}
use Rattle.rule_laws.specs.ir_paths.Windows.{instr_at, is_call_of, points_where}
use Rattle.rule_laws.specs.ir_paths.declared.point.Point.{Point}
use Rattle.rule_laws.specs.flow_reach.Reached.{IsPointOf}
use Rattle.rule_laws.specs.frame_classes.Classes.{suspends}
use Rattle.rule_laws.specs.rule_slots.Closed.{IsInSomeWindow}
use Rattle.rule_laws.specs.rule_slots.Early.{end_at, instr_count}
use Rattle.rule_laws.specs.frame_slots.Uses.{UsesAt, ends_of, is_marker_of, is_no_use_in, starts_of}
use Rattle.rule_laws.specs.frame_slots.Uses.UsesAt.{ByInstr, ByTerm}
use Rattle.rule_laws.specs.ir_laws.facts.sound_states.Named.{HasNamedOperands}
use Rattle.rule_laws.proofs.frame_crossing.Numbering.{name_at as name_there}
use Rattle.rule_laws.specs.rule_windows.Points.{begins, ends}
use Rattle.rule_laws.specs.rule_window_values.Kept.{TakesFrom, phis_at, phis_in}

module _ (f : Function) (named : HasNamedOperands f) (none : first_result Intrinsic.CoroBegin f ≡ None) where
  abbrev n : ℕ
  n = length f.names

  abbrev g : Function
  g = with_begin (length f.names) f

  -- any name
  abbrev pub IsAny : ℕ → Type 0
  IsAny v = Unit {0}

  marker_same : (k : Intrinsic) (slot : ℕ) → points_where (is_marker_of k slot) g ≡ points_where (is_marker_of k slot) f
  marker_same k slot = points_where_same n (is_marker_of k slot) (λ i. same_but_begin n (is_marker_of k slot) (λ result must_tail ty args. refl) i) f

  call_same : (k : Intrinsic) → points_where (is_call_of k) g ≡ points_where (is_call_of k) f
  call_same k = points_where_same n (is_call_of k) (call_of_same n k) f

  points_forth : (p : Point) → IsPointOf f p → IsPointOf g p
  points_forth p h = record {
    block = named_block n h.block;
    is_block = block_same n f p.block ∙ ap (option_map (named_block n)) h.is_block;
    within = subst (λ (n : ℕ). p.at ≤ n) (sym (length_same (named_instr n) h.block.instrs)) h.within;
  }

  block_of : (k : ℕ) (b : Block) → slice_get g.blocks k ≡ Some b → (c : Block) × ((slice_get f.blocks k ≡ Some c) × (b ≡ named_block n c))
  block_of k b e = on (slice_get f.blocks k) refl (sym (block_same n f k) ∙ e)
    where
      on : (o : Option Block) → slice_get f.blocks k ≡ o → option_map (named_block n) (slice_get f.blocks k) ≡ Some b → (c : Block) × ((slice_get f.blocks k ≡ Some c) × (b ≡ named_block n c))
      on None d h = let none = sym (ap (option_map (named_block n)) d) ∙ h in absurd (cc)
      on (Some c) d h = let both = sym (ap (option_map (named_block n)) d) ∙ h in let same : b ≡ named_block n c = cc in (c, (d, same))

  points_back : (p x : Point) → IsOf stay stay p x → IsPointOf g x → IsPointOf f p
  points_back p x at h = on at
    where
      there : IsPointOf f x
      there =
          let own = block_of x.block h.block h.is_block in
          record { block = own.0; is_block = own.1.0; within = subst (λ (n : ℕ). x.at ≤ n) (ap (λ (b : Block). length b.instrs) own.1.1 ∙ length_same (named_instr n) own.0.instrs) h.within }

      on : IsOf stay stay p x → IsPointOf f p
      on (inl e) = subst (IsPointOf f) e there
      on (inr e) = subst (IsPointOf f) e there

  last_same : (b : ℕ) → end_at g b ≡ end_at f b
  last_same b = λ k. record { block = b; at = (ap instr_count (block_same n f b) ∙ on (slice_get f.blocks b)) k }
    where
      on : (o : Option Block) → instr_count (option_map (named_block n) o) ≡ instr_count o
      on None = refl
      on (Some c) = length_same (named_instr n) c.instrs

  -- ---- windows

  windows_forth : (p : Point) → IsInSomeWindow f p → IsInSomeWindow g p
  windows_forth p h =
      let w = in_some f p h in
      some_in g p (record {
        save = w.save;
        is_save = ap (λ (ps : List Point). has_point ps w.save) (call_same Intrinsic.CoroSave) ∙ w.is_save;
        suspend = w.suspend;
        suspend_is = suspend_same f named none w.save ∙ w.suspend_is;
        inside = window_forth f g stay stay (still_strands f g (nexts_same n f)) w.save w.suspend refl refl p w.inside;
      })

  windows_home : (p : Point) → IsInSomeWindow g p → IsInSomeWindow f p
  windows_home p h =
      let w = in_some g p h in
      let own : Has (points_where (is_call_of Intrinsic.CoroSave) f) w.save = ap (λ (ps : List Point). has_point ps w.save) (sym (call_same Intrinsic.CoroSave)) ∙ w.is_save in
      some_in f p (record {
        save = w.save;
        is_save = own;
        suspend = w.suspend;
        suspend_is = sym (suspend_same f named none w.save) ∙ w.suspend_is;
        inside = window_home f g stay stay (still_strands f g (nexts_same n f)) w.save w.suspend refl refl p w.inside;
      })

  -- ---- uses

  no_use_same : (i : Instr) → is_no_use_in (named_instr n i) ≡ is_no_use_in i
  no_use_same i = same_but_begin n is_no_use_in (λ result must_tail ty args. refl) i

  occurs_same : (v : ℕ) (i : Instr) → occurs v (named_instr n i) ≡ occurs v i
  occurs_same v i = same_but_begin n (occurs v) (λ result must_tail ty args. refl) i

  uses_forth : (v : ℕ) (p : Point) → UsesAt f v p → UsesAt g v p
  uses_forth v p (ByInstr i e free o) = ByInstr (named_instr n i) (instr_same n f p ∙ ap (option_map (named_instr n)) e) (no_use_same i ∙ free) (occurs_same v i ∙ o)
  uses_forth v p (ByTerm b e at o) =
      ByTerm (named_block n b) (block_same n f p.block ∙ ap (option_map (named_block n)) e) (at ∙ sym (length_same (named_instr n) b.instrs)) o

  uses_home : (v : ℕ) (p : Point) → UsesAt g v p → UsesAt f v p
  uses_home v p (ByInstr j e free o) = on (instr_at f p) refl (sym (instr_same n f p) ∙ e)
    where
      on : (x : Option Instr) → instr_at f p ≡ x → option_map (named_instr n) (instr_at f p) ≡ Some j → UsesAt f v p
      on None d h = let none = sym (ap (option_map (named_instr n)) d) ∙ h in absurd (cc)
      on (Some i) d h =
          let both = sym (ap (option_map (named_instr n)) d) ∙ h in
          let same : j ≡ named_instr n i = cc in
          ByInstr i d (sym (no_use_same i) ∙ sym (ap is_no_use_in same) ∙ free) (sym (occurs_same v i) ∙ sym (ap (occurs v) same) ∙ o)
  uses_home v p (ByTerm b e at o) =
      let own = block_of p.block b e in
      ByTerm own.0 own.1.0 (at ∙ ap (λ (c : Block). length c.instrs) own.1.1 ∙ length_same (named_instr n) own.0.instrs)
      (sym (ap (λ (c : Block). occurs_in_term v c.term) own.1.1) ∙ o)

  phis_same : (b : ℕ) → phis_at g b ≡ phis_at f b
  phis_same b = ap phis_in (block_same n f b) ∙ on (slice_get f.blocks b)
    where
      on : (o : Option Block) → phis_in (option_map (named_block n) o) ≡ phis_in o
      on None = refl
      on (Some c) = refl

  takes_forth : (v from to : ℕ) → TakesFrom f v from to → TakesFrom g v from to
  takes_forth v from to t = record { phi = t.phi; incoming = t.incoming; stands = subst (IsListed t.phi) (sym (phis_same to)) t.stands; comes = t.comes; is_from = position_same n f t.incoming.from ∙ t.is_from; takes = t.takes }

  takes_home : (v from to : ℕ) → TakesFrom g v from to → TakesFrom f v from to
  takes_home v from to t = record { phi = t.phi; incoming = t.incoming; stands = subst (IsListed t.phi) (phis_same to) t.stands; comes = t.comes; is_from = sym (position_same n f t.incoming.from) ∙ t.is_from; takes = t.takes }

  -- ---- all together

  allocas_are : allocas_of g ≡ allocas_of f
  allocas_are = blocks_same n f allocas_in (allocas_same n f) f.blocks

  ramp_slots_are : (facts_of g).ramp_slots ≡ (facts_of f).ramp_slots
  ramp_slots_are = λ k. (facts_same f named none k).ramp_slots

  ramp_forth : (k a : ℕ) → slice_get (allocas_of f) k ≡ Some a → IsRampSlot f a → IsRampSlot g a
  ramp_forth k a e h =
      let there = name_there (allocas_of f) k a e in
      (((facts_of_right g).ramp_slots a).0 (ap (λ (vs : List ℕ). has_name vs a) ramp_slots_are ∙ ((facts_of_right f).ramp_slots a).1 (there, h))).1

  ramp_home : (k a : ℕ) → slice_get (allocas_of f) k ≡ Some a → IsRampSlot g a → IsRampSlot f a
  ramp_home k a e h =
      let there = name_there (allocas_of f) k a e in
      (((facts_of_right f).ramp_slots a).0 (ap (λ (vs : List ℕ). has_name vs a) (sym ramp_slots_are) ∙ ((facts_of_right g).ramp_slots a).1 (ap (λ (vs : List ℕ). has_name vs a) allocas_are ∙ there, h))).1

  pub named_slots_alike : AreSlotsAlike f g stay stay IsAny
  named_slots_alike = record {
    strands = still_strands f g (nexts_same n f);
    front_block = λ p. refl;
    back_block = λ p. refl;
    first = λ b. refl;
    position = position_same n f;
    blocks = length_same (named_block n) f.blocks;
    points = points_forth;
    points_home = points_back;
    last = last_same;
    end = end_same n f;
    end_carried = still_carried (end_points f) (end_points g) (end_points_same n f);
    begins_lone = still_lone (begins f) (begins g) (call_same Intrinsic.CoroBegin);
    ends_lone = still_lone (ends f) (ends g) (call_same Intrinsic.CoroEnd);
    suspends_moved = call_same Intrinsic.CoroSuspend ∙ sym (map_itself (suspends f));
    starts_lone = λ slot any. still_lone (starts_of f slot) (starts_of g slot) (marker_same Intrinsic.LifetimeStart slot);
    stops_lone = λ slot any. still_lone (ends_of f slot) (ends_of g slot) (marker_same Intrinsic.LifetimeEnd slot);
    resumes = resume_same n f;
    destroys = destroy_same n f;
    windows = λ p. (windows_forth p, windows_home p);
    allocas = allocas_are;
    alloca_names = λ k a e. tt;
    addresses = λ a any. addresses_same n f a;
    address_names = λ a v any e. tt;
    escaped = λ a any. escaped_same n f a;
    promise = λ a any. ap (λ (o : Option ℕ). has_name (option_to_list o) a) (promise_same n f);
    ramp = λ k a e. (ramp_forth k a e, ramp_home k a e);
    uses = λ v p any. (uses_forth v p, uses_home v p);
    use_found = λ v x any u. (x, refl);
    takes = λ v from to any. (takes_forth v from to, takes_home v from to);
  }

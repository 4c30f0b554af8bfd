-- A function and the same with uses of coro.frame renamed are alike, so far as slots go.
use Rattle.std.proofs.Common.{◌≡◌, ℕ, ◌≤◌, inl, inr, List, length, map, refl, sym, ap, ◌∙◌, subst, ◌↔◌}
use Rattle.std.specs.Prelude.{Some, None, Option, option_map, option_to_list, slice_get, ◌&&◌}
use Rattle.rule_laws.proofs.flow_blocks.Elements.{listed_map, map_listed}
use Rattle.rule_laws.specs.rule_uses.Uses.{local_of}
use Rattle.rule_laws.proofs.ir_laws.facts.Members.{at_each}
use Rattle.run_states.proofs.renamed.Modules.{length_same}
use Rattle.pass_early_proof.proofs.early.renaming.Parts.{block_same, call_of_same, call_operand_same, destroy_same, end_same, instr_same, local_same, nexts_same, points_where_same, position_same, resume_same}
use Rattle.pass_early_proof.proofs.early.renaming.Slots.{promise_same, ramp_slots_same, suspend_same}
use Rattle.pass_early_proof.specs.early.renaming.Passes.{renamed_block, renamed_coroutine}
use Rattle.pass_early_proof.specs.early.renaming.Regular.{IsPlain, IsRegular}
use Rattle.pass_early_proof.proofs.early.crossing.Renamed.{map_itself, value_is}
use Rattle.pass_early_proof.proofs.early.slots.RenamedParts.{addresses_same, allocas_plain, allocas_same, blocks_plain, blocks_same, end_points_same, escaped_same, no_use_same, occurs_same, of_addresses_plain, slots_plain, term_same}
use Rattle.rule_laws.proofs.frames.alike_slots.SlotsAlike.{AreSlotsAlike}
use Rattle.rule_laws.proofs.ir_laws.paths.alike_slots.Still.{stay, still_carried, still_lone, still_strands}
use Rattle.rule_laws.proofs.frames.alike_slots.Strands.{IsOf}
use Rattle.rule_laws.proofs.frames.alike_slots.Tests.{where_is}
use Rattle.rule_laws.proofs.frames.alike_slots.Windows.{in_some, some_in, window_forth, window_home}
use Rattle.pass_early.specs.Renaming.{renamed, renamed_incoming, renamed_instr, renamed_phi, renamed_value}
use Rattle.pass_early.specs.declared.renaming.Renaming.{Renaming}
use Rattle.rule_laws.specs.flow_solver.Paths.{IsListed}
use Rattle.ir_model.specs.Names.{is_local}
use Rattle.ir_model.specs.declared.instr.Incoming.{Incoming}
use Rattle.ir_model.specs.declared.instr.Instr.{Instr}
use Rattle.ir_model.specs.declared.instr.Phi.{Phi}
use Rattle.ir_model.specs.declared.module.Block.{Block}
use Rattle.ir_model.specs.declared.module.Function.{Function}
use Rattle.ir_model.specs.declared.operand.Intrinsic.{Intrinsic}
use Rattle.ir_model.specs.declared.operand.Operand.{Operand}
use Rattle.rule_laws.proofs.ir_paths.Right.{facts_of_right}
use Rattle.rule_laws.proofs.ir_paths.Search.{Has}
use Rattle.rule_laws.specs.ir_paths.Paths.{has_point}
use Rattle.rule_laws.specs.ir_paths.Slots.{IsRampSlot, addresses_of, allocas_in, allocas_of, end_points, has_name, occurs, occurs_in_term}
use Rattle.rule_laws.specs.ir_paths.Windows.{call_operand, instr_at, is_call_of, points_where, suspend_of}
use Rattle.rule_laws.specs.ir_paths.declared.point.Point.{Point}
use Rattle.rule_laws.specs.flow_reach.Reached.{IsPointOf}
use Rattle.rule_laws.specs.frame_classes.Classes.{suspends}
use Rattle.rule_laws.specs.rule_slots.Closed.{IsInSomeWindow}
use Rattle.rule_laws.specs.rule_slots.Early.{end_at, instr_count}
use Rattle.rule_laws.specs.frame_slots.Uses.{UsesAt, ends_of, is_marker_of, is_no_use_in, starts_of}
use Rattle.rule_laws.specs.frame_slots.Uses.UsesAt.{ByInstr, ByTerm}
use Rattle.rule_laws.proofs.frame_crossing.Numbering.{name_at as name_there}
use Rattle.rule_laws.specs.rule_windows.Points.{begins, ends}
use Rattle.rule_laws.specs.rule_window_values.Kept.{TakesFrom, phis_at, phis_in}
use Rattle.rule_laws.proofs.ir_laws.paths.expanded.Slots.{each_has}

no_use_in_same : (r : Renaming) (i : Instr) → is_no_use_in (renamed_instr r i) ≡ is_no_use_in i
no_use_in_same r (Instr.Call result must_tail ty callee args) = no_use_same r callee
no_use_in_same r (Instr.Binary name op flags ty a b) = refl
no_use_in_same r (Instr.Icmp name pred ty a b) = refl
no_use_in_same r (Instr.Select name x a b) = refl
no_use_in_same r (Instr.Cast name op nneg arg to) = refl
no_use_in_same r (Instr.Alloca name ty align) = refl
no_use_in_same r (Instr.Load name ty p align) = refl
no_use_in_same r (Instr.Store arg p align) = refl
no_use_in_same r (Instr.Gep name inbounds ty base indices) = refl

module _ (r : Renaming) (f : Function) (ok : IsRegular f r) where
  abbrev g : Function
  g = renamed_coroutine r f

  marker_same : (k : Intrinsic) (slot : ℕ) → IsPlain r slot → points_where (is_marker_of k slot) g ≡ points_where (is_marker_of k slot) f
  marker_same k slot plain =
      points_where_same r (is_marker_of k slot) (is_marker_of k slot)
      (λ i j. call_of_same r k i j && (ap (is_local slot) (call_operand_same r i 1) ∙ local_same r slot plain (call_operand i 1)) j) f

  call_same : (k : Intrinsic) → points_where (is_call_of k) g ≡ points_where (is_call_of k) f
  call_same k = points_where_same r (is_call_of k) (is_call_of k) (call_of_same r k) f

  points_forth : (p : Point) → IsPointOf f p → IsPointOf g p
  points_forth p h = record {
    block = renamed_block r h.block;
    is_block = block_same r f p.block ∙ ap (option_map (renamed_block r)) h.is_block;
    within = subst (λ (n : ℕ). p.at ≤ n) (sym (length_same (renamed_instr r) h.block.instrs)) h.within;
  }

  block_of : (k : ℕ) (b : Block) → slice_get g.blocks k ≡ Some b → (c : Block) × ((slice_get f.blocks k ≡ Some c) × (b ≡ renamed_block r c))
  block_of k b e = on (slice_get f.blocks k) refl (sym (block_same r f k) ∙ e)
    where
      on : (o : Option Block) → slice_get f.blocks k ≡ o → option_map (renamed_block r) (slice_get f.blocks k) ≡ Some b → (c : Block) × ((slice_get f.blocks k ≡ Some c) × (b ≡ renamed_block r c))
      on None d h = let none = sym (ap (option_map (renamed_block r)) d) ∙ h in absurd (cc)
      on (Some c) d h = let both = sym (ap (option_map (renamed_block r)) d) ∙ h in let same : b ≡ renamed_block r c = cc in (c, (d, same))

  points_back : (p x : Point) → IsOf stay stay p x → IsPointOf g x → IsPointOf f p
  points_back p x at h = on at
    where
      there : IsPointOf f x
      there =
          let own = block_of x.block h.block h.is_block in
          record { block = own.0; is_block = own.1.0; within = subst (λ (n : ℕ). x.at ≤ n) (ap (λ (b : Block). length b.instrs) own.1.1 ∙ length_same (renamed_instr r) own.0.instrs) h.within }

      on : IsOf stay stay p x → IsPointOf f p
      on (inl e) = subst (IsPointOf f) e there
      on (inr e) = subst (IsPointOf f) e there

  last_same : (b : ℕ) → end_at g b ≡ end_at f b
  last_same b = λ k. record { block = b; at = (ap instr_count (block_same r f b) ∙ on (slice_get f.blocks b)) k }
    where
      on : (o : Option Block) → instr_count (option_map (renamed_block r) o) ≡ instr_count o
      on None = refl
      on (Some c) = length_same (renamed_instr r) c.instrs

  -- ---- windows

  suspend_here : (k : Point) → Has (points_where (is_call_of Intrinsic.CoroSave) f) k → suspend_of g k ≡ suspend_of f k
  suspend_here k h = suspend_same r f ok k (sym (where_is (is_call_of Intrinsic.CoroSave) f k) ∙ h)

  windows_forth : (p : Point) → IsInSomeWindow f p → IsInSomeWindow g p
  windows_forth p h =
      let w = in_some f p h in
      some_in g p (record {
        save = w.save;
        is_save = ap (λ (ps : List Point). has_point ps w.save) (call_same Intrinsic.CoroSave) ∙ w.is_save;
        suspend = w.suspend;
        suspend_is = suspend_here w.save w.is_save ∙ w.suspend_is;
        inside = window_forth f g stay stay (still_strands f g (nexts_same r f)) w.save w.suspend refl refl p w.inside;
      })

  windows_home : (p : Point) → IsInSomeWindow g p → IsInSomeWindow f p
  windows_home p h =
      let w = in_some g p h in
      let own : Has (points_where (is_call_of Intrinsic.CoroSave) f) w.save = ap (λ (ps : List Point). has_point ps w.save) (sym (call_same Intrinsic.CoroSave)) ∙ w.is_save in
      some_in f p (record {
        save = w.save;
        is_save = own;
        suspend = w.suspend;
        suspend_is = sym (suspend_here w.save own) ∙ w.suspend_is;
        inside = window_home f g stay stay (still_strands f g (nexts_same r f)) w.save w.suspend refl refl p w.inside;
      })

  -- ---- uses

  uses_forth : (v : ℕ) (p : Point) → IsPlain r v → UsesAt f v p → UsesAt g v p
  uses_forth v p plain (ByInstr i e n o) = ByInstr (renamed_instr r i) (instr_same r f p ∙ ap (option_map (renamed_instr r)) e) (no_use_in_same r i ∙ n) (occurs_same r v plain i ∙ o)
  uses_forth v p plain (ByTerm b e at o) =
      ByTerm (renamed_block r b) (block_same r f p.block ∙ ap (option_map (renamed_block r)) e) (at ∙ sym (length_same (renamed_instr r) b.instrs)) (term_same r v plain b.term ∙ o)

  uses_home : (v : ℕ) (p : Point) → IsPlain r v → UsesAt g v p → UsesAt f v p
  uses_home v p plain (ByInstr j e n o) = on (instr_at f p) refl (sym (instr_same r f p) ∙ e)
    where
      on : (x : Option Instr) → instr_at f p ≡ x → option_map (renamed_instr r) (instr_at f p) ≡ Some j → UsesAt f v p
      on None d h = let none = sym (ap (option_map (renamed_instr r)) d) ∙ h in absurd (cc)
      on (Some i) d h =
          let both = sym (ap (option_map (renamed_instr r)) d) ∙ h in
          let same : j ≡ renamed_instr r i = cc in
          ByInstr i d (sym (no_use_in_same r i) ∙ sym (ap is_no_use_in same) ∙ n) (sym (occurs_same r v plain i) ∙ sym (ap (occurs v) same) ∙ o)
  uses_home v p plain (ByTerm b e at o) =
      let own = block_of p.block b e in
      ByTerm own.0 own.1.0 (at ∙ ap (λ (c : Block). length c.instrs) own.1.1 ∙ length_same (renamed_instr r) own.0.instrs)
      (sym (term_same r v plain own.0.term) ∙ sym (ap (λ (c : Block). occurs_in_term v c.term) own.1.1) ∙ o)

  phis_same : (b : ℕ) → phis_at g b ≡ map (renamed_phi r) (phis_at f b)
  phis_same b = ap phis_in (block_same r f b) ∙ on (slice_get f.blocks b)
    where
      on : (o : Option Block) → phis_in (option_map (renamed_block r) o) ≡ map (renamed_phi r) (phis_in o)
      on None = refl
      on (Some c) = refl

  takes_local : (v : ℕ) → IsPlain r v → (x : Operand) → (local_of x ≡ Some v) ↔ (local_of (renamed r x) ≡ Some v)
  takes_local v plain (Operand.Local n) = (forth, home)
    where
      number : (a b : ℕ) → Some a ≡ Some b → b ≡ a
      number a b e = cc

      forth : Some n ≡ Some v → Some (renamed_value r n) ≡ Some v
      forth e = ap (λ (k : ℕ). Some k) (sym ((value_is r v plain n).0 (number n v e)))

      home : Some (renamed_value r n) ≡ Some v → Some n ≡ Some v
      home e = ap (λ (k : ℕ). Some k) (sym ((value_is r v plain n).1 (number (renamed_value r n) v e)))
  takes_local v plain (Operand.Global n) = ((λ e. e), (λ e. e))
  takes_local v plain (Operand.Number z) = ((λ e. e), (λ e. e))
  takes_local v plain Operand.True = ((λ e. e), (λ e. e))
  takes_local v plain Operand.False = ((λ e. e), (λ e. e))
  takes_local v plain Operand.Null = ((λ e. e), (λ e. e))
  takes_local v plain Operand.None = ((λ e. e), (λ e. e))
  takes_local v plain Operand.Poison = ((λ e. e), (λ e. e))

  takes_forth : (v from to : ℕ) → IsPlain r v → TakesFrom f v from to → TakesFrom g v from to
  takes_forth v from to plain t = record {
    phi = renamed_phi r t.phi;
    incoming = renamed_incoming r t.incoming;
    stands = subst (IsListed (renamed_phi r t.phi)) (sym (phis_same to)) (map_listed (renamed_phi r) t.phi (phis_at f to) t.stands);
    comes = map_listed (renamed_incoming r) t.incoming t.phi.incoming t.comes;
    is_from = position_same r f t.incoming.from ∙ t.is_from;
    takes = (takes_local v plain t.incoming.value).0 t.takes;
  }

  takes_home : (v from to : ℕ) → IsPlain r v → TakesFrom g v from to → TakesFrom f v from to
  takes_home v from to plain t =
      let phi = listed_map (renamed_phi r) t.phi (phis_at f to) (subst (IsListed t.phi) (phis_same to) t.stands) in
      let incoming = listed_map (renamed_incoming r) t.incoming phi.0.incoming (subst (λ (p : Phi). IsListed t.incoming p.incoming) phi.1.1 t.comes) in
      record {
        phi = phi.0;
        incoming = incoming.0;
        stands = phi.1.0;
        comes = incoming.1.0;
        is_from = sym (position_same r f incoming.0.from) ∙ ap (λ (i : Incoming). Rattle.ir_model.specs.Names.position_of g i.from) (sym incoming.1.1) ∙ t.is_from;
        takes = (takes_local v plain incoming.0.value).1 (ap (λ (i : Incoming). local_of i.value) (sym incoming.1.1) ∙ t.takes);
      }

  -- ---- all together

  allocas_are : allocas_of g ≡ allocas_of f
  allocas_are = blocks_same r allocas_in allocas_in (allocas_same r) f.blocks

  ramp_forth : (k a : ℕ) → slice_get (allocas_of f) k ≡ Some a → IsRampSlot f a → IsRampSlot g a
  ramp_forth k a e h =
      let there = name_there (allocas_of f) k a e in
      (((facts_of_right g).ramp_slots a).0 (ap (λ (vs : List ℕ). has_name vs a) (ramp_slots_same r f ok) ∙ ((facts_of_right f).ramp_slots a).1 (there, h))).1

  ramp_home : (k a : ℕ) → slice_get (allocas_of f) k ≡ Some a → IsRampSlot g a → IsRampSlot f a
  ramp_home k a e h =
      let there = name_there (allocas_of f) k a e in
      (((facts_of_right f).ramp_slots a).0 (ap (λ (vs : List ℕ). has_name vs a) (sym (ramp_slots_same r f ok)) ∙ ((facts_of_right g).ramp_slots a).1 (ap (λ (vs : List ℕ). has_name vs a) allocas_are ∙ there, h))).1

  pub renamed_slots_alike : AreSlotsAlike f g stay stay (IsPlain r)
  renamed_slots_alike = record {
    strands = still_strands f g (nexts_same r f);
    front_block = λ p. refl;
    back_block = λ p. refl;
    first = λ b. refl;
    position = position_same r f;
    blocks = length_same (renamed_block r) f.blocks;
    points = points_forth;
    points_home = points_back;
    last = last_same;
    end = end_same r f;
    end_carried = still_carried (end_points f) (end_points g) (end_points_same r f ok);
    begins_lone = still_lone (begins f) (begins g) (call_same Intrinsic.CoroBegin);
    ends_lone = still_lone (ends f) (ends g) (call_same Intrinsic.CoroEnd);
    suspends_moved = call_same Intrinsic.CoroSuspend ∙ sym (map_itself (suspends f));
    starts_lone = λ slot plain. still_lone (starts_of f slot) (starts_of g slot) (marker_same Intrinsic.LifetimeStart slot plain);
    stops_lone = λ slot plain. still_lone (ends_of f slot) (ends_of g slot) (marker_same Intrinsic.LifetimeEnd slot plain);
    resumes = resume_same r f;
    destroys = destroy_same r f;
    windows = λ p. (windows_forth p, windows_home p);
    allocas = allocas_are;
    alloca_names = λ k a e. at_each (IsPlain r) (allocas_of f) k a (blocks_plain r allocas_in (allocas_plain r) f.blocks (slots_plain r f ok)) e;
    addresses = addresses_same r f ok;
    address_names = λ a v plain e. each_has (IsPlain r) (addresses_of f a) v (of_addresses_plain r f ok a plain) e;
    escaped = escaped_same r f ok;
    promise = λ a plain. ap (λ (o : Option ℕ). has_name (option_to_list o) a) (promise_same r f ok);
    ramp = λ k a e. (ramp_forth k a e, ramp_home k a e);
    uses = λ v p plain. (uses_forth v p plain, uses_home v p plain);
    use_found = λ v x plain u. (x, refl);
    takes = λ v from to plain. (takes_forth v from to plain, takes_home v from to plain);
  }

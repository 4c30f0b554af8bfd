-- A slot in the frame that isn't used before begin is accessed behind it, also where values are kept in cells.
use Rattle.std.proofs.Common.{◌≡◌, inl, inr, ℕ, zero, suc, ◌+◌, ◌<◌, ◌^◌, Bool, true, false, List, [], ◌∷◌, ◌++◌}
use Rattle.std.proofs.Common.{Option, Some, None, refl, sym, ap, ◌∙◌, subst, arith}
use Rattle.std.specs.Prelude.{option_to_list, slice_get}
use Rattle.compiler.specs.flow_solver.Paths.{IsListed}
use Rattle.compiler.specs.frame_classes.declared.class.SlotClass.{SlotClass}
use Rattle.compiler.specs.frame_conflicts.Conflicts.{IsUsedEarly}
use Rattle.compiler.specs.frame_contents.declared.contents.Contents.{Contents}
use Rattle.compiler.specs.frame_layout.declared.layout.Layout.{Layout}
use Rattle.compiler.specs.frame_slots.Spots.{At}
use Rattle.compiler.specs.frame_slots.Uses.{ByInstr, is_no_use_in}
use Rattle.compiler.proofs.ir_laws.facts.Members.{each_turns}
use Rattle.compiler.proofs.ir_laws.facts.Truth.{itself}
use Rattle.compiler.proofs.ir_laws.paths.begin_order.Framed.{get_listed}
use Rattle.compiler.specs.ir_model.Calls.{first_result}
use Rattle.compiler.specs.ir_model.Names.{is_local, position_of}
use Rattle.compiler.specs.ir_model.declared.instr.Instr.{Instr}
use Rattle.compiler.specs.ir_model.declared.instr.Phi.{Phi}
use Rattle.compiler.specs.ir_model.declared.module.Block.{Block}
use Rattle.compiler.specs.ir_model.declared.module.Function.{Function}
use Rattle.compiler.specs.ir_model.declared.module.Module.{Module}
use Rattle.compiler.specs.ir_model.declared.operand.Arg.{Arg}
use Rattle.compiler.specs.ir_model.declared.operand.Callee.{Callee}
use Rattle.compiler.specs.ir_model.declared.operand.Intrinsic.{Intrinsic}
use Rattle.compiler.specs.ir_model.declared.operand.Operand.{Operand}
use Rattle.compiler.specs.ir_parts.Contents.{arg_operands, result_of}
use Rattle.compiler.proofs.ir_paths.Search.{or_left, or_right}
use Rattle.compiler.specs.ir_paths.Slots.{addresses_of, allocas_of, has_name, is_in_args, occurs}
use Rattle.compiler.specs.ir_paths.Windows.{instr_in, is_call_of}
use Rattle.compiler.specs.pass_cells.Kept.{entry}
use Rattle.compiler.specs.pass_edges.EdgeBlocks.{with_edge_blocks}
use Rattle.compiler.specs.pass_frames.Framed.{celled, is_begin}
use Rattle.compiler.specs.pass_frames.Tables.{class_flags}
use Rattle.compiler.specs.pass_proofs.addresses.begin_order.Behind.{IsBehind, IsIncomingBehind}
use Rattle.compiler.specs.pass_proofs.addresses.rules.Addresses.{lies_in_frame}
use Rattle.compiler.proofs.pass_proofs.frames.begin_order.Alone.{begin_pointer, begins_alone, begins_named}
use Rattle.compiler.proofs.pass_proofs.frames.begin_order.Celled.{cells_behind}
use Rattle.compiler.proofs.pass_proofs.frames.begin_order.Edged.{edges_behind}
use Rattle.compiler.proofs.pass_proofs.frames.begin_order.Framed.{alloca_pointer}
use Rattle.compiler.specs.pass_proofs.frames.begin_order.Behind.{AreBehind, AreBlocksBehind, IsFrameBehind}
use Rattle.compiler.specs.pass_proofs.frames.begin_order.Behind.{MayBeAccessed}
use Rattle.compiler.specs.pass_proofs.frames.begin_order.Fields.{FieldsFit, values_kept}
use Rattle.compiler.specs.pass_proofs.frames.begin_order.Frames.{IsFrameable, slot_offsets}
use Rattle.compiler.proofs.rule_laws.frames.begin_order.Again.{again_behind}
use Rattle.compiler.proofs.rule_laws.rules.slots_behind.Walks.{AreNamed, IsSound, front_before, sound_on}
use Rattle.compiler.specs.rule_laws.rules.begin_order.Behind.{access_operands, other_operands}
use Rattle.compiler.specs.rule_laws.rules.function_rules.Kept.{KeepsFunctionRules}
use Rattle.compiler.specs.rule_shape.OneOfEach.{wrong_call}
use Rattle.compiler.specs.rule_uses.Undefined.{ReachesWithout}
use Rattle.compiler.specs.rule_uses.Uses.{block_values, phi_values, values_at}
use Rattle.compiler.specs.run_laws.changed.Changed.{Each}

-- ---- a table in which one name lies

abbrev pub only : ℕ → List (Option ℕ)
only zero = Some 0 ∷ []
only (suc v) = None ∷ only v

pub only_lies : (v u : ℕ) → lies_in_frame (only v) u ≡ true → u ≡ v
only_lies zero zero e = refl
only_lies zero (suc u) e = absurd (cc)
only_lies (suc v) zero e = absurd (cc)
only_lies (suc v) (suc u) e = ap suc (only_lies v u e)

pub only_here : (v : ℕ) → lies_in_frame (only v) v ≡ true
only_here zero = refl
only_here (suc v) = only_here v

only_told : (v u d : ℕ) → slice_get (only v) u ≡ Some (Some d) → (u ≡ v) × (d ≡ 0)
only_told zero zero d e = (refl, cc)
only_told zero (suc u) d e = absurd (cc)
only_told (suc v) zero d e = absurd (cc)
only_told (suc v) (suc u) d e = let z = only_told v u d e in (ap suc z.0, z.1)

each_of : {A : Type 0} (P : A → Type 0) (xs : List A) → ((x : A) → IsListed x xs → P x) → Each P xs
each_of P [] h = tt
each_of P (x ∷ xs) h = (h x (inl refl), each_of P xs (λ y l. h y (inr l)))

-- ---- what an access uses

begin_called : (i : Instr) → is_call_of Intrinsic.CoroBegin i ≡ true → is_begin i ≡ true
begin_called (Instr.Call r must_tail ty (Callee.Intrinsic Intrinsic.CoroBegin) args) e = refl
begin_called _ e = absurd (cc)

access_uses : (i : Instr) (o : Operand) → IsListed o (access_operands i) → is_no_use_in i ≡ false
access_uses (Instr.Load r ty p align) o l = refl
access_uses (Instr.Store arg p align) o l = refl
access_uses (Instr.Call r must_tail ty (Callee.Intrinsic Intrinsic.MemcpyI64) args) o l = refl
access_uses (Instr.Call r must_tail ty (Callee.Intrinsic Intrinsic.MemcpyI32) args) o l = refl
access_uses _ o l = absurd l

named_there : (v : ℕ) (o : Operand) → Operand.Local v ≡ o → is_local v o ≡ true
named_there v o e = ap (is_local v) (sym e) ∙ itself v

in_args : (v : ℕ) (args : List Arg) → IsListed (Operand.Local v) (arg_operands args) → is_in_args v args ≡ true
in_args v [] l = absurd l
in_args v (a ∷ args) (inl e) = or_left (is_local v a.value) (is_in_args v args) (named_there v a.value e)
in_args v (a ∷ args) (inr l) = or_right (is_local v a.value) (is_in_args v args) (in_args v args l)

occurs_there : (v : ℕ) (i : Instr) → IsListed (Operand.Local v) (access_operands i) → occurs v i ≡ true
occurs_there v (Instr.Load r ty p align) (inl e) = named_there v p e
occurs_there v (Instr.Load r ty p align) (inr l) = absurd l
occurs_there v (Instr.Store arg p align) (inl e) = or_right (is_local v arg.value) (is_local v p) (named_there v p e)
occurs_there v (Instr.Store arg p align) (inr l) = absurd l
occurs_there v (Instr.Call r must_tail ty (Callee.Intrinsic Intrinsic.MemcpyI64) args) l = in_args v args l
occurs_there v (Instr.Call r must_tail ty (Callee.Intrinsic Intrinsic.MemcpyI32) args) l = in_args v args l
occurs_there v _ l = absurd l

-- ---- the coroutine

module _ (m : Module) (k : ℕ) (l : Layout) (f : Function) (c : Contents) (begin names : ℕ)
    (x : IsFrameable m k l f c begin names) (rules : KeepsFunctionRules m k f) (calls : wrong_call k f ≡ None) (v : ℕ)
    (lies : lies_in_frame (slot_offsets l c names) v ≡ true)
    (among : has_name (addresses_of f v) v ≡ true) (unused : IsUsedEarly f v → ⊥) where
  abbrev old : List (Option ℕ)
  old = slot_offsets l c names

  abbrev slots : List Bool
  slots = class_flags f c.classes SlotClass.Frame

  named : AreNamed f begin
  named at j b i got stands is = begins_named m k f begin rules x.coroutine calls x.begins at b i got
      (get_listed b.instrs j i stands) (begin_called i is)

  turned : (at : ℕ) (before : List ℕ) (o : Operand) → IsBehind f begin old at before o
      → IsBehind f begin (only v) at before o
  turned at before (Operand.Local u) h =
      λ e. h (subst (λ (n : ℕ). lies_in_frame old n ≡ true) (sym (only_lies v u e)) lies)
  turned at before _ h = tt

  -- an access before begin would use the slot there
  accessed : (at j : ℕ) (b : Block) (i : Instr) (before : List ℕ) → slice_get f.blocks at ≡ Some b
      → slice_get b.instrs j ≡ Some i → (ReachesWithout f begin at → IsSound f begin named at j before)
      → (o : Operand) → IsListed o (access_operands i) → MayBeAccessed f begin [] (only v) at before o
  accessed at j b i before got there sound (Operand.Local u) listed = λ e. inr (λ path unmade other.
      unused (record {
        spot = At (record { block = at; at = j });
        is_use = record {
          address = v;
          is_address = among;
          uses = ByInstr i (ap (λ (o : Option Block). instr_in o j) got ∙ there) (access_uses i (Operand.Local u)
              listed)
              (occurs_there v i (subst (λ (n : ℕ). IsListed (Operand.Local n) (access_operands i)) (only_lies v u
              e) listed));
        };
        is_early = sound path unmade;
      }))
  accessed at j b i before got there sound _ listed = tt

  walk : (at j : ℕ) (b : Block) (is : List Instr) (before : List ℕ) → slice_get f.blocks at ≡ Some b
      → ((n : ℕ) → slice_get is n ≡ slice_get b.instrs (j + n))
      → (ReachesWithout f begin at → IsSound f begin named at j before) → AreBehind f begin slots old at before is
      → AreBehind f begin [] (only v) at before is
  walk at j b [] before got same sound h = tt
  walk at j b (i ∷ is) before got same sound h =
      let here : j + 0 ≡ j = omega arith in
      let there : slice_get b.instrs j ≡ Some i = sym (same 0 ∙ ap (slice_get b.instrs) here) in (
        each_turns (IsBehind f begin old at before) (IsBehind f begin (only v) at before) (turned at before)
            (other_operands i) h.0,
        (
          each_of (MayBeAccessed f begin [] (only v) at before) (access_operands i)
              (accessed at j b i before got there sound),
          walk at (suc j) b is (option_to_list (result_of i) ++ before) got
              (λ n. same (suc n) ∙ (let next : j + suc n ≡ suc j + n = omega arith in ap (slice_get b.instrs) next))
              (λ path. sound_on f begin named at j b i before got there (sound path)) h.1.1,
        ),
      )

  blocks : AreBlocksBehind f begin [] (only v)
  blocks at b got =
      let h = x.uses at b got in
      record {
        phis = each_turns (λ (p : Phi). Each (IsIncomingBehind f begin old) p.incoming)
            (λ (p : Phi). Each (IsIncomingBehind f begin (only v)) p.incoming)
            (λ p y. each_turns (IsIncomingBehind f begin old) (IsIncomingBehind f begin (only v))
            (λ i z. turned (position_of f i.from) (values_at f (position_of f i.from)) i.value z) p.incoming y)
            b.phis h.phis;
        instrs = walk at 0 b b.instrs (phi_values b) got
            (λ n. let same : n ≡ 0 + n = omega arith in ap (slice_get b.instrs) same)
            (λ path unmade. front_before f begin named at path) h.instrs;
        term = each_turns (IsBehind f begin old at (block_values b)) (IsBehind f begin (only v) at (block_values b))
            (turned at (block_values b)) _ h.term;
      }

  -- ---- with blocks on edges, and with cells

  module _ (first : first_result Intrinsic.CoroBegin (with_edge_blocks f) ≡ Some begin)
      (starts : (with_edge_blocks f).blocks ≡ [] → ⊥) (other : begin ≡ v → ⊥)
      (listed : IsListed v (allocas_of (with_edge_blocks f)))
      (kept : (at : ℕ) → entry (values_kept (with_edge_blocks f) c.crossing).places v ≡ Some at → ⊥) where
    abbrev F : Function
    F = with_edge_blocks f

    refuted : (b : Bool) → (b ≡ true → ⊥) → b ≡ false
    refuted true h = absurd (h refl)
    refuted false h = refl

    near : (u d : ℕ) → slice_get (only v) u ≡ Some (Some d) → d < 2 ^ 64
    near u d e = let z : d ≡ 0 = (only_told v u d e).1 in omega (arith, z)

    edged : IsFrameBehind (with_edge_blocks f) begin [] (only v) []
    edged = record {
      named = begins_named m k F begin x.rules x.coroutine x.calls first;
      alone = begins_alone m k F begin x.rules x.coroutine x.calls first;
      pointer = begin_pointer m k F begin x.rules x.coroutine x.calls first;
      outside = refuted (lies_in_frame (only v) begin) (λ e. other (only_lies v begin e));
      pointers = λ u d e. alloca_pointer m k l f c begin names x u
          (subst (λ (n : ℕ). IsListed n (allocas_of F)) (sym (only_told v u d e).0) listed);
      near = near;
      unmarked = λ u e. absurd (cc);
      blocks = edges_behind f x.labels x.apart begin [] (only v) blocks;
      again = again_behind m k F begin x.rules x.begun x.edges x.cells.returns;
    }

    fields : FieldsFit (with_edge_blocks f) c.crossing (only v) (only v) []
    fields = record {
      starts = starts;
      frame = λ u e. inl e;
      near = near;
      unmarked = λ u e. absurd (cc);
      kept = λ u at e. refuted (lies_in_frame (only v) u) (λ d. kept at
          (subst (λ (n : ℕ). entry (values_kept F c.crossing).places n ≡ Some at) (only_lies v u d) e));
    }

    pub accesses_behind : IsFrameBehind (celled m f c) begin [] (only v) []
    unfolding celled
    accesses_behind = cells_behind m k F c.crossing (class_flags f c.classes SlotClass.Local) begin [] (only v)
        (only v) []
        x.rules x.once x.cells x.suspends x.begun fields edged

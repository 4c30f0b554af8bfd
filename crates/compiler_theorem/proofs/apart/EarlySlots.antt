-- Slots that are copied at begin are used before it.
use Rattle.std.proofs.Common.{◌≡◌, ◌⊎◌, inl, inr, ℕ, zero, suc, ◌+◌, Bool, true, false, List, [], ◌∷◌, length}
use Rattle.std.proofs.Common.{Option, Some, None, refl, sym, ap, ◌∙◌, subst}
use Rattle.std.proofs.lemmas.Bool.{false≢true}
use Rattle.std.specs.Prelude.{slice_get, ◌==◌}
use Rattle.compiler_theorem.proofs.apart.EarlyUsed.{made_in, never_accessed}
use Rattle.compiler_theorem.proofs.apart.Unaccessed.{accesses_behind, only}
use Rattle.compiler.specs.flow_solver.Paths.{IsListed}
use Rattle.compiler.specs.frame_classes.declared.class.SlotClass.{SlotClass}
use Rattle.compiler.specs.frame_conflicts.Conflicts.{IsUsedEarly}
use Rattle.compiler.specs.frame_contents.declared.contents.Contents.{Contents}
use Rattle.compiler.specs.frame_layout.declared.layout.Layout.{Layout}
use Rattle.compiler.proofs.ir_laws.facts.Truth.{itself}
use Rattle.compiler.specs.ir_laws.facts.woven_rules.Pairs.{Empty, Pair, Pairwise}
use Rattle.compiler.specs.ir_model.Calls.{first_result}
use Rattle.compiler.specs.ir_model.declared.instr.Phi.{Phi}
use Rattle.compiler.specs.ir_model.declared.module.Block.{Block}
use Rattle.compiler.specs.ir_model.declared.module.Function.{Function}
use Rattle.compiler.specs.ir_model.declared.module.Module.{Module}
use Rattle.compiler.specs.ir_model.declared.operand.Intrinsic.{Intrinsic}
use Rattle.compiler.specs.ir_model.declared.operand.Operand.{Operand}
use Rattle.compiler.proofs.ir_paths.Search.{or_left}
use Rattle.compiler.specs.ir_paths.Slots.{addresses_of, addresses_within, allocas_of, has_name}
use Rattle.compiler.specs.ir_paths.Windows.{instr_at, instr_in}
use Rattle.compiler.specs.ir_paths.declared.point.Point.{Point}
use Rattle.compiler.specs.pass_cells.Kept.{entry}
use Rattle.compiler.specs.pass_copies.Uses.{flag_at, used_before}
use Rattle.compiler.specs.pass_edges.EdgeBlocks.{with_edge_blocks}
use Rattle.compiler.specs.pass_frames.Framed.{begin_block, celled, copied}
use Rattle.compiler.specs.pass_frames.Tables.{class_flags, label_flags}
use Rattle.compiler.proofs.pass_kept_proof.Read.{made_phi}
use Rattle.compiler.specs.pass_kept_proof.Needed.{phis_give}
use Rattle.compiler.proofs.pass_proofs.addresses.begin_order.Passing.{woven_passes}
use Rattle.compiler.specs.pass_proofs.addresses.rules.Addresses.{lies_in_frame}
use Rattle.compiler.specs.pass_proofs.cells.rules.Weaving.{cells_weaving}
use Rattle.compiler.proofs.pass_proofs.frames.begin_order.Framed.{celled_keeps, woven}
use Rattle.compiler.specs.pass_proofs.frames.begin_order.Behind.{IsFrameBehind}
use Rattle.compiler.specs.pass_proofs.frames.begin_order.Fields.{values_kept}
use Rattle.compiler.specs.pass_proofs.frames.begin_order.Frames.{IsFrameable, slot_offsets}
use Rattle.compiler.proofs.pass_proofs.frames.rules.Built.{frameable}
use Rattle.compiler.specs.pass_proofs.frames.rules.Buildable.{IsBuildable}
use Rattle.compiler.proofs.rule_laws.rules.renamed.Uses.{result_spelt}
use Rattle.compiler.proofs.rule_laws.rules.shape.Begin.{begin_result}
use Rattle.compiler.proofs.rule_laws.rules.shape.Stands.{StandsAt, begin_stands}
use Rattle.compiler.proofs.rule_laws.rules.sources.Places.{any_param, point}
use Rattle.compiler.specs.rule_laws.rules.woven_rules.Blocks.{AreWovenBlocks, NoBlock, OneBlock}
use Rattle.compiler.specs.rule_laws.rules.woven_rules.Parts.{PhiStays}
use Rattle.compiler.specs.rule_laws.rules.woven_rules.Weaving.{Weaving}
use Rattle.compiler.specs.rule_uses.Undefined.{ReachesWithout, params_of}
use Rattle.compiler.specs.rule_uses.Uses.{made_by_phis, phi_values, values_at}
use Rattle.run_accepted.proofs.Once.{gives_no_param, no_phi_gives}
use Rattle.compiler.specs.run_laws.changed.Changed.{result_of}
use Rattle.compiler.specs.run_step.Step.{phis_of}

-- ---- small things

-- an alloca's name is an address of its slot
own_address : (f : Function) (v : ℕ) → has_name (addresses_of f v) v ≡ true
own_address f v = on (length _)
  where
    on : (n : ℕ) → has_name (addresses_within n f v) v ≡ true
    on zero = or_left (v == v) false (itself v)
    on (suc n) = or_left (v == v) _ (itself v)

pub same_phis : (R : ℕ → Operand → Operand → Type 0) (before : List ℕ) (ps qs : List Phi) → Pairwise (PhiStays R) ps qs
    → made_by_phis before qs ≡ made_by_phis before ps
same_phis R before _ _ Empty = refl
same_phis R before _ _ (Pair p q ps qs h rest) =
    ap (λ (n : ℕ). made_by_phis (n ∷ before) qs) h.result ∙ same_phis R (p.result ∷ before) ps qs rest

record WasThere (bs : List Block) (at : ℕ) (c : Block) : Type 0 where
  block : Block
  there : slice_get bs at ≡ Some block
  phis : phi_values c ≡ phi_values block

was_there : (w : Weaving) (m : Module) (f g : Function) (n : ℕ) (bs cs : List Block) → AreWovenBlocks w m f g n bs cs
    → (at : ℕ) (c : Block) → slice_get cs at ≡ Some c → WasThere bs at c
was_there w m f g n _ _ (NoBlock _) at c e = absurd (cc)
was_there w m f g n _ _ (OneBlock _ b d bs cs s rest) zero c e =
    let same : d ≡ c = cc in
    record {
      block = b;
      there = refl;
      phis = ap phi_values (sym same) ∙ same_phis _ [] b.phis d.phis s.phis;
    }
was_there w m f g n _ _ (OneBlock _ b d bs cs s rest) (suc at) c e =
    let z = was_there w m f g (n + 1) bs cs rest at c e in
    record { block = z.block; there = z.there; phis = z.phis }

-- ---- a coroutine whose frame may be built

module _ (m : Module) (k : ℕ) (l : Layout) (f : Function) (c : Contents) (before : List ℕ) (begin : ℕ)
    (h : IsBuildable m k l f c before begin)
    (first : first_result Intrinsic.CoroBegin (with_edge_blocks f) ≡ Some begin) where
  abbrev F : Function
  F = with_edge_blocks f

  abbrev names : ℕ
  names = length (copied f c (celled m f c) before).names

  may : IsFrameable m k l f c begin (length (copied f c (celled m f c) before).names)
  may = frameable m k l f c before begin h

  S : StandsAt (with_edge_blocks f) Intrinsic.CoroBegin begin
  S = begin_stands F begin first

  place : Point
  place = point S.position S.at

  stands : instr_at (with_edge_blocks f) (point S.position S.at) ≡ Some S.instr
  stands = ap (λ (o : Option Block). instr_in o S.at) S.got ∙ S.there

  gives : result_of S.instr ≡ Some begin
  gives = sym (result_spelt S.instr) ∙ begin_result S.instr S.calls ∙ S.makes

  starts : (with_edge_blocks f).blocks ≡ [] → ⊥
  starts e =
      let no : None ≡ Some S.block = ap (λ (bs : List Block). slice_get bs S.position) (sym e) ∙ S.got in
      absurd (cc)

  no_phi_there : (at : ℕ) (b : Block) → slice_get (with_edge_blocks f).blocks at ≡ Some b
      → IsListed begin (phi_values b) → ⊥
  no_phi_there at b e li = on (made_phi begin b.phis [] li)
    where
      on : IsListed begin [] ⊎ (phis_give begin b.phis ≡ true) → ⊥
      on (inl none) = none
      on (inr g) = false≢true (sym (no_phi_gives m k F may.rules (point S.position S.at) S.instr begin stands gives at)
          ∙ ap (λ (o : Option Block). phis_give begin (phis_of o)) e ∙ g)

  no_phi : (at : ℕ) (b : Block) → slice_get (celled m f c).blocks at ≡ Some b → IsListed begin (phi_values b) → ⊥
  unfolding celled
  no_phi at b e li =
      let z = was_there (cells_weaving m F c.crossing (class_flags f c.classes SlotClass.Local)) m F (celled m f c) 0
      F.blocks (celled m f c).blocks (woven m k l f c begin names may).blocks at b e in
      no_phi_there at z.block z.there (subst (IsListed begin) z.phis li)

  no_param : IsListed begin (params_of (celled m f c)) → ⊥
  unfolding celled
  no_param li =
      let passes = woven_passes (cells_weaving m F c.crossing (class_flags f c.classes SlotClass.Local)) m k F
      (celled m f c) begin (woven m k l f c begin names may) may.rules may.once refl in
      false≢true (sym (gives_no_param m k F may.rules (point S.position S.at) S.instr begin stands gives)
      ∙ any_param begin F.params (subst (IsListed begin) passes.params li))

  module _ (v : ℕ) (lies : lies_in_frame (slot_offsets l c (length (copied f c (celled m f c) before).names)) v ≡ true)
      (unused : IsUsedEarly f v → ⊥) (other : begin ≡ v → ⊥) (listed : IsListed v (allocas_of (with_edge_blocks f)))
      (kept : (at : ℕ) → entry (values_kept (with_edge_blocks f) c.crossing).places v ≡ Some at → ⊥) where
    behind : IsFrameBehind (celled m f c) begin [] (only v) []
    behind = accesses_behind m k l f c begin names may h.rules h.calls v lies (own_address f v) unused first starts
        other
        listed kept

    -- a block that makes begin's value is begin's
    pub begun_in : (block : ℕ) → IsListed begin (values_at (celled m f c) block) → block ≡ begin_block (celled m f c)
    begun_in block made = made_in m k (celled m f c) (celled_keeps m k l f c begin names may) begin v behind no_phi
        no_param block made

    -- a slot that isn't used before begin isn't accessed there
    pub not_copied : ReachesWithout (celled m f c) begin (begin_block (celled m f c)) → (slots : List Bool)
        → flag_at (used_before (celled m f c) slots (label_flags (celled m f c) (begin_block (celled m f c) ∷
        before))) v ≡ true
        → ⊥
    not_copied reached slots flagged = never_accessed m k (celled m f c) (celled_keeps m k l f c begin names may) begin
        v behind no_phi no_param before h.before_are reached slots flagged

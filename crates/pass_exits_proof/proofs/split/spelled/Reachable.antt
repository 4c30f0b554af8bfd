-- In a part of a coroutine whose first block has no phis each phi has an operand, since a block leads there, and the entry is left.
use Rattle.std.proofs.Common.{◌≡◌, ℕ, ◌+◌, Bool, true, List, [], ◌∷◌, ◌++◌, refl, sym, ap, ◌∙◌, subst}
use Rattle.std.specs.List.{list_all}
use Rattle.std.specs.Prelude.{Some, map, slice_get}
use Rattle.pass_split.specs.Parts.{done_block, origins_for, part_blocks, part_names}
use Rattle.pass_split.specs.Pieces.{next_after, pieced_phi, pieces_of}
use Rattle.pass_split.specs.Reached.{is_flagged, kept_block, kept_phi, pruned, reached}
use Rattle.pass_split.specs.declared.origin.Origin.{Origin}
use Rattle.pass_fetch_proof.specs.rule_phis.Edges.{fits_edges, has, predecessors}
use Rattle.pass_fetch_proof.proofs.ir_laws.facts.Truth.{and_first}
use Rattle.pass_fetch_proof.specs.flow_solver.Paths.{IsListed}
use Rattle.pass_fetch_proof.specs.frame_layout.declared.layout.Layout.{Layout}
use Rattle.pass_fetch_proof.proofs.ir_laws.paths.woven_rules.Unbroken.{each_listed}
use Rattle.pass_fetch_proof.specs.pass_intrinsics.Lowered.{names_taken}
use Rattle.pass_fetch_proof.specs.pass_intrinsics.Shapes.{first_name, shape_of}
use Rattle.pass_fetch_proof.specs.pass_intrinsics.declared.shape.Part.{Part}
use Rattle.pass_fetch_proof.specs.pass_intrinsics.declared.shape.Shape.{Shape}
use Rattle.ir_model.specs.Names.{position_of}
use Rattle.ir_model.specs.declared.instr.Incoming.{Incoming}
use Rattle.ir_model.specs.declared.instr.Instr.{Instr}
use Rattle.ir_model.specs.declared.instr.Phi.{Phi}
use Rattle.ir_model.specs.declared.instr.Terminator.{Terminator}
use Rattle.ir_model.specs.declared.module.Block.{Block}
use Rattle.ir_model.specs.declared.module.Function.{Function}
use Rattle.ir_model.specs.declared.module.Module.{Module}
use Rattle.pass_fetch_proof.specs.ir_paths.Paths.{targets}
use Rattle.pass_exits_proof.proofs.split.edges.Cuttable.{IsCuttable}
use Rattle.pass_exits_proof.proofs.split.edges.Entered.{to_predecessors}
use Rattle.pass_exits_proof.proofs.split.edges.Entries.{edge_from, entry_flagged, entry_listed}
use Rattle.pass_exits_proof.proofs.split.edges.Kept.{IsKept, kept_home, kept_phi_fits, kept_there}
use Rattle.pass_exits_proof.proofs.split.edges.Labels.{done_there, whole}
use Rattle.pass_fetch_proof.proofs.ir_laws.paths.edges.Lists.{listed_at}
use Rattle.pass_fetch_proof.proofs.ir_laws.paths.uses.Paths.{place_of}
use Rattle.pass_exits_proof.proofs.split.edges.Sources.{cuttable, pruned_part}
use Rattle.pass_exits_proof.proofs.split.edges.Targets.{part_own, part_tabled}
use Rattle.pass_exits_proof.proofs.split.rules.Cutting.{cut_blocks}
use Rattle.pass_exits_proof.proofs.split.rules.Reached.{flagged_is_led, led_is_flagged}
use Rattle.pass_fetch_proof.specs.ir_laws.facts.spelled.Filled.{HasFilledPhis, HasNoEntryPhis, IsFilled}
use Rattle.pass_exits_proof.specs.split.rules.Parted.{IsPartOf}
use Rattle.pass_exits_proof.specs.split.rules.Pieced.{ArePieces, ArePiecesOf, BeginsAgain, Ends, Marks, NoBlock, OneBlock, Returns, Stays, Suspends, Transfers}
use Rattle.pass_exits_proof.specs.split.rules.Reached.{Edge, Entry, IsLedTo}
use Rattle.pass_exits_proof.specs.split.rules.Splittable.{IsSplittable}
use Rattle.pass_fetch_proof.specs.run_laws.changed.Changed.{Each}

-- ---- the first piece has the phis of its block

-- there is a first block, and it has no phis
abbrev IsBare : List Block → Type 0
IsBare [] = ⊥
IsBare (c ∷ cs) = c.phis ≡ []

first_phis : (s : Shape) (part : Part) (t : Terminator) (label n last : ℕ) (phis : List Phi) (is : List Instr) (cs : List Block) → ArePieces s part t label phis n is cs last → phis ≡ [] → IsBare cs
first_phis s part t _ _ _ _ _ _ (Ends label n phis) e = e
first_phis s part t _ _ _ _ _ _ (Stays label n last phis i is c cs again d more) e = first_phis s part t label (n + names_taken i) last phis is (c ∷ cs) more e
first_phis s part t _ _ _ _ _ _ (Marks label n last mark phis i is cs again d more) e = e
first_phis s part t _ _ _ _ _ _ (Suspends label n phis i is again d) e = e
first_phis s part t _ _ _ _ _ _ (Returns label n phis i is again d) e = e
first_phis s part t _ _ _ _ _ _ (Transfers label n j phis i is again d) e = e
first_phis s part t _ _ _ _ _ _ (BeginsAgain label n phis i is again) e = e

bare_front : (cs es ds : List Block) → IsBare cs → HasNoEntryPhis ((cs ++ es) ++ ds)
bare_front [] es ds h = absurd h
bare_front (c ∷ cs) es ds h = h

pieces_entry : (s : Shape) (part : Part) (origins : List Origin) (n last : ℕ) (bs cs : List Block) → ArePiecesOf s part origins n bs cs last → HasNoEntryPhis bs → (ds : List Block) → HasNoEntryPhis ds → HasNoEntryPhis (cs ++ ds)
pieces_entry s part origins _ _ _ _ (NoBlock n) h ds k = k
pieces_entry s part origins _ _ _ _ (OneBlock n next last b bs cs es p rest) h ds k =
    bare_front cs es ds (first_phis s part b.term b.label n next (map (pieced_phi s part origins b.label) b.phis) b.instrs cs p (ap (map (pieced_phi s part origins b.label)) h))

at_first : (bs : List Block) (c : Block) → HasNoEntryPhis bs → slice_get bs 0 ≡ Some c → c.phis ≡ []
at_first [] c h e = absurd (cc)
at_first (b ∷ bs) c h e = let same : b ≡ c = cc in subst (λ (x : Block). x.phis ≡ []) same h

none_left : (ns : List ℕ) → list_all (has []) ns ≡ true → ns ≡ []
none_left [] e = refl
none_left (n ∷ ns) e = absurd (cc)

module _ (m : Module) (k : ℕ) (f : Function) (begin : ℕ) (x : IsSplittable m k f begin) (layout : Layout) (bare : HasNoEntryPhis f.blocks) where
  abbrev s : Shape
  s = shape_of f layout

  ramp_bare : (part : Part) → HasNoEntryPhis (pieces_of s part (origins_for s part f) (first_name s) f.blocks ++ done_block s ∷ [])
  ramp_bare part =
      let os : List Origin = origins_for s part f in
      pieces_entry s part os (first_name s) (next_after s part os (first_name s) f.blocks) f.blocks (pieces_of s part os (first_name s) f.blocks) (cut_blocks s part os (first_name s) f.blocks) bare (done_block s ∷ []) refl

  whole_bare : (part : Part) → HasNoEntryPhis (part_blocks s part f (origins_for s part f))
  whole_bare Part.Ramp = ramp_bare Part.Ramp
  whole_bare Part.GivenRamp = ramp_bare Part.GivenRamp
  whole_bare Part.Resume = refl
  whole_bare Part.Destroy = refl
  whole_bare Part.Cleanup = refl

  module _ (part : Part) (p : Function) (blocks : p.blocks ≡ whole (shape_of f layout) part f) (names : p.names ≡ part_names (shape_of f layout) part f (origins_for (shape_of f layout) part f)) where
    abbrev h : Function
    h = f

    abbrev g : Function
    g = pruned p

    abbrev flags : List Bool
    flags = reached p

    ok : IsCuttable s part h
    ok = cuttable m k f begin x layout part

    -- the entry has no phis
    entry_bare : (c : Block) → slice_get p.blocks 0 ≡ Some c → c.phis ≡ []
    entry_bare c e = at_first p.blocks c (subst HasNoEntryPhis (sym blocks) (whole_bare part)) e

    -- a block of the part with the label of its entry has none
    same_entry : (b c : Block) → IsListed b p.blocks → slice_get p.blocks 0 ≡ Some c → b.label ≡ c.label → b.phis ≡ []
    same_entry b c l e same =
        let own = part_own s part h ok p blocks names in
        let at = place_of p.blocks b l in
        let zero_at : at.0 ≡ 0 = sym (own.first at.0 b at.1) ∙ ap (position_of p) same ∙ own.first 0 c e in
        entry_bare b (sym (ap (slice_get p.blocks) zero_at) ∙ at.1)

    module _ (c : Block) (listed : IsListed c (pruned p).blocks) (z : Phi) (there : IsListed z c.phis) (none : z.incoming ≡ []) where
      unled : predecessors g c.label ≡ []
      unled =
          let fits = kept_phi_fits m k f begin x layout part p blocks names c z listed there in
          let empty : fits_edges (predecessors g c.label) [] ≡ true = subst (λ (is : List Incoming). fits_edges (predecessors g c.label) is ≡ true) none fits in
          none_left (predecessors g c.label) (and_first (list_all (has []) (predecessors g c.label)) _ empty)

      absent : ⊥
      absent = on home.before.label (flagged_is_led p home.before.label home.flagged) refl
        where
          home : IsKept m k f begin x layout part p blocks names c
          home = kept_home m k f begin x layout part p blocks names c listed

          is_here : IsListed home.before p.blocks
          is_here = subst (IsListed home.before) (sym blocks) home.listed

          has_phi : home.before.phis ≡ [] → ⊥
          has_phi e =
              let nothing : c.phis ≡ [] = ap (λ (b : Block). b.phis) home.is ∙ ap (map (kept_phi flags)) e in
              absurd (subst (IsListed z) nothing there)

          on : (label : ℕ) → IsLedTo p label → home.before.label ≡ label → ⊥
          on _ (Entry label l) same =
              let y = entry_listed p.blocks label l in
              has_phi (same_entry home.before y.0 is_here y.1.0 (same ∙ y.1.1))
          on _ (Edge from label r l) same =
              let y = edge_from p from label l in
              let flagged : is_flagged flags y.block.label ≡ true = ap (is_flagged flags) y.has_label ∙ led_is_flagged p (part_tabled s part h ok p blocks names) from r in
              let kept = kept_there m k f begin x layout part p blocks names y.block (subst (IsListed y.block) blocks y.listed) flagged in
              let to : label ≡ c.label = sym same ∙ ap (λ (b : Block). b.label) (sym home.is) in
              let led = to_predecessors g c.label (kept_block flags y.block) kept (subst (λ (n : ℕ). IsListed n (targets y.block.term)) to y.leads) in
              absurd (subst (IsListed y.block.label) unled led)

    -- the entry is left
    entry_left : (pruned p).blocks ≡ [] → ⊥
    entry_left none = on p.blocks refl
      where
        on : (bs : List Block) → p.blocks ≡ bs → ⊥
        on [] e = absurd (subst (IsListed (done_block s)) (sym blocks ∙ e) (done_there s part h))
        on (b ∷ bs) e =
            let first : slice_get p.blocks 0 ≡ Some b = ap (λ (cs : List Block). slice_get cs 0) e in
            let kept = kept_there m k f begin x layout part p blocks names b (subst (IsListed b) blocks (listed_at p.blocks 0 b first)) (entry_flagged m k f begin x layout part p blocks names b first) in
            absurd (subst (IsListed (kept_block flags b)) none kept)

    filled : HasFilledPhis (pruned p)
    filled = record { block = entry_left; phis = each_listed (λ c. Each IsFilled c.phis) (pruned p).blocks (λ c l. each_listed IsFilled c.phis (λ z n e. absent c l z n e)) }

pub parts_filled : (m : Module) (k : ℕ) (layout : Layout) (part : Part) (begin : ℕ) (f g : Function) → IsSplittable m k f begin → HasNoEntryPhis f.blocks → IsPartOf (shape_of f layout) f part g → HasFilledPhis g
parts_filled m k layout part begin f g x bare is =
    let y = pruned_part (shape_of f layout) part f g is in
    subst HasFilledPhis (sym y.is) (filled m k f begin x layout bare part y.before y.blocks y.names)

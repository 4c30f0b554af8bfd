-- A rule that no part of a function breaks is broken by no part of the function whose edges have blocks.
use Rattle.std.proofs.Common.{Bool, None, Option, Some, ap, false, length, map, not, option_map, refl, subst, sym, ℕ, ⊎_elim, ◌+◌, ◌∙◌, ◌≡◌}
use Rattle.std.proofs.lemmas.Option.{slice_get-map}
use Rattle.std.specs.Prelude.{slice_get}
use Rattle.pass_early_proof.specs.ir_base.declared.outcome.Place.{Place}
use Rattle.pass_early_proof.proofs.rule_laws.rules.renamed.Switches.{none_part}
use Rattle.pass_early_proof.proofs.rule_laws.rules.path_rules.Holding.{HoldsIn, of_parts, part_none, to_parts}
use Rattle.pass_edges_proof.proofs.edges.paths.Blocks.{spot}
use Rattle.pass_edges_proof.proofs.edges.paths.Edges.{edges_of_block}
use Rattle.pass_edges_proof.specs.edges.paths.Spots.{table_of}
use Rattle.pass_edges_proof.proofs.edges.rules.Homes.{IsEdge, IsOwn, entry_same, home, own_block}
use Rattle.pass_edges.specs.EdgeBlocks.{edge_block, split_phi, with_edge_blocks}
use Rattle.pass_edges.specs.Edges.{edges_at}
use Rattle.pass_edges.specs.declared.edge.Edge.{Edge}
use Rattle.pass_early_proof.specs.ir_parts.Parts.{Ending, Head, OfInstr, OfPhi, Part, Signature, block_place, first_part, function_place, instr_place, parts_of}
use Rattle.ir_model.specs.declared.instr.Instr.{Instr}
use Rattle.ir_model.specs.declared.instr.Phi.{Phi}
use Rattle.ir_model.specs.declared.instr.Terminator.{Terminator}
use Rattle.ir_model.specs.declared.module.Block.{Block}
use Rattle.ir_model.specs.declared.module.Function.{Function}
use Rattle.pass_early_proof.specs.rule_locals.Instrs.{on_instr}
use Rattle.pass_early_proof.proofs.rule_laws.rules.rows.Carried.{AreAlikePlaced}

-- what each part has become breaks the rule nowhere, if the part doesn't
pub record Carries (f : Function) (breaks now : Place → Part → Bool) : Type 0 where
  pub signature : (p : Place) → breaks p (Signature f) ≡ false → now p (Signature (with_edge_blocks f)) ≡ false
  pub head : (q : Place) (c : Block) → now q (Head c) ≡ false
  pub phi : (p q : Place) (k : ℕ) (b : Block) (x : Phi) → slice_get f.blocks k ≡ Some b → breaks p (OfPhi x) ≡ false → now q (OfPhi (split_phi (edges_at (table_of f) b.label) x)) ≡ false
  pub instr : (p q : Place) (i : Instr) → AreAlikePlaced p q → breaks p (OfInstr i) ≡ false → now q (OfInstr i) ≡ false
  pub ending : (p q : Place) (k : ℕ) (b : Block) → slice_get f.blocks k ≡ Some b → breaks p (Ending b.term) ≡ false → now q (Ending (own_block f k b).term) ≡ false
  pub edge : (q : Place) (k : ℕ) (b : Block) (i : ℕ) (e : Edge) → slice_get f.blocks k ≡ Some b → slice_get (edges_of_block f k b) i ≡ Some e → now q (Ending (Terminator.Jump e.target)) ≡ false

-- a rule on instructions alone
pub on_instrs : (f : Function) (breaks now : Place → Instr → Bool) → ((p q : Place) (i : Instr) → AreAlikePlaced p q → breaks p i ≡ false → now q i ≡ false) → Carries f (on_instr breaks) (on_instr now)
on_instrs f breaks now h = record {
  signature = λ p e. refl;
  head = λ q c. refl;
  phi = λ p q k b x there e. refl;
  instr = h;
  ending = λ p q k b there e. refl;
  edge = λ q k b i e there got. refl;
}

-- ---- parts of blocks

module _ (f : Function) (breaks now : Place → Part → Bool) (over : Carries f breaks now) (func : ℕ) where
  abbrev P : Place × Part → Type 0
  P x = breaks x.0 x.1 ≡ false

  abbrev Q : Place × Part → Type 0
  Q x = now x.0 x.1 ≡ false

  own_phi : (k : ℕ) (b : Block) → slice_get f.blocks k ≡ Some b → HoldsIn P func k b → (q : Place) (j : ℕ) (x : Phi) → slice_get (map (split_phi (edges_at (table_of f) b.label)) b.phis) j ≡ Some x → Q (q, OfPhi x)
  own_phi k b there h q j x e = on (slice_get b.phis j) refl (sym (slice_get-map (split_phi (edges_at (table_of f) b.label)) b.phis j) ∙ e)
    where
      on : (o : Option Phi) → slice_get b.phis j ≡ o → option_map (split_phi (edges_at (table_of f) b.label)) o ≡ Some x → Q (q, OfPhi x)
      on None d s = absurd (cc)
      on (Some y) d s =
          let same : split_phi (edges_at (table_of f) b.label) y ≡ x = cc in
          subst (λ (z : Phi). Q (q, OfPhi z)) same (over.phi (instr_place func k j) q k b y there (h.phis j y d))

  own_holds : (k : ℕ) (b : Block) → slice_get f.blocks k ≡ Some b → HoldsIn P func k b → HoldsIn Q func (spot f k) (own_block f k b)
  own_holds k b there h = record {
    head = over.head (block_place func (spot f k)) (own_block f k b);
    phis = λ j x e. own_phi k b there h (instr_place func (spot f k) j) j x e;
    instrs = λ j i e. over.instr (instr_place func k (length b.phis + j)) (instr_place func (spot f k) (length (own_block f k b).phis + j)) i (ap not (entry_same f k)) (h.instrs j i e);
    ending = over.ending (instr_place func k (length b.phis + length b.instrs)) (instr_place func (spot f k) (length (own_block f k b).phis + length b.instrs)) k b there h.ending;
  }

  edge_holds : (at k : ℕ) (b : Block) (i : ℕ) (e : Edge) → slice_get f.blocks k ≡ Some b → slice_get (edges_of_block f k b) i ≡ Some e → HoldsIn Q func at (edge_block e)
  edge_holds at k b i e there got = record {
    head = over.head (block_place func at) (edge_block e);
    phis = λ j x d. absurd (cc);
    instrs = λ j x d. absurd (cc);
    ending = over.edge (instr_place func at (length (edge_block e).phis + length (edge_block e).instrs)) k b i e there got;
  }

  pub carried : first_part breaks (parts_of func f) ≡ None → first_part now (parts_of func (with_edge_blocks f)) ≡ None
  carried e =
      let parts = of_parts P func f (none_part breaks (parts_of func f) e) in
      part_none now (parts_of func (with_edge_blocks f)) (to_parts Q func (with_edge_blocks f) (record {
        signature = over.signature (function_place func) parts.signature;
        blocks = λ at c there. ⊎_elim
            (λ (x : IsOwn f at c). subst (λ (k : ℕ). HoldsIn Q func k c) (sym x.stands) (subst (HoldsIn Q func (spot f x.index)) (sym x.is) (own_holds x.index x.block x.got (parts.blocks x.index x.block x.got))))
            (λ (x : IsEdge f at c). subst (HoldsIn Q func at) (sym x.is) (edge_holds at x.index x.block x.position x.edge x.got x.there))
            (home f at c there);
      }))
